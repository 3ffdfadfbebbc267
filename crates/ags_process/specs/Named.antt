-- What a command line names.
use Rattle.std.specs.Prelude.{ℕ, List, Option, Some, None}
use Rattle.ags_command.specs.Command.{Command, CommandLine, Write, Compare, Certify, Run, Guard, Budget, Scales, Edits}

-- the certificate of a command, where it has one
abbrev pub certificate_in : Command → Option (List ℕ)
certificate_in (Certify source certificate) = Some certificate
certificate_in (Guard source script certificate) = Some certificate
certificate_in (Budget source certificate times) = Some certificate
certificate_in (Scales source certificate scales) = Some certificate
certificate_in (Edits source certificate edits) = Some certificate
certificate_in (Write text source) = None
certificate_in (Compare source listing) = None
certificate_in (Run source script) = None

-- that of what a command line asks for
abbrev pub certificate_named : Option CommandLine → Option (List ℕ)
certificate_named None = None
certificate_named (Some line) = certificate_in line.command
