use Rattle.std.proofs.Common.{map}
use Rattle.std.specs.String.{string_bytes}
use Rattle.ags_command.specs.Views.{asked_view}
use Rattle.ags_command.proofs.AskedLemmas.{read_is_asked}
use Rattle.ags_command.proofs.asking.read_asked.Goals as goal

pub returns-clause-can_be : goal.returns-clause-can_be
returns-clause-can_be c = read_is_asked asked_view (map string_bytes c.args.arguments.now) c.read_form.result c.read_form.ensures
