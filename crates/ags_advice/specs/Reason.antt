-- Why the system couldn't read a file, or write the output, in words.
use Rattle.std.specs.Prelude.{ℕ, List, Option, Some, codes}
use Rattle.std.specs.declared.io.ErrorKind.{ErrorKind}
use Rattle.std.specs.declared.io.ErrorKind.TheVariants.{IsADirectory, PermissionDenied, NotADirectory, StorageFull}

-- why a file couldn't be read
abbrev pub why_unread : Option ErrorKind → List ℕ
why_unread (Some IsADirectory) = codes "it is a folder, and no file"
why_unread (Some PermissionDenied) = codes "there is no permission to read it"
why_unread (Some NotADirectory) = codes "a part of its path is no folder"
why_unread _ = codes "it can't be read"

-- why the output couldn't be written
abbrev pub why_unwritten : Option ErrorKind → List ℕ
why_unwritten (Some StorageFull) = codes "the output can't be written: its device is full"
why_unwritten _ = codes "the output can't be written"
