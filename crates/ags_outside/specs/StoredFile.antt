-- What a clause sees of a stored file.
use Rattle.std.specs.Prelude.{ℕ, List}
use Rattle.std.specs.String.{string_bytes}
use Rattle.ags_outside.specs.declared.steady_shelf.StoredFile.{StoredFile}

-- its name and its bytes
abbrev pub file_of : StoredFile → List ℕ × List ℕ
file_of file = (string_bytes file.name, file.bytes.items)
