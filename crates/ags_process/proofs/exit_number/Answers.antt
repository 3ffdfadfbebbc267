use Rattle.std.proofs.Common.{◌≡◌, ◌≢◌, drop, map}
use Rattle.std.specs.IoError.{error_kind}
use Rattle.std.specs.String.{string_bytes}
use Rattle.std.specs.Vec.Iter.{into_iter_items}
use Rattle.std.specs.declared.io.ErrorKind.TheVariants.{OutOfMemory}
use Rattle.ags_program.specs.declared.status.Status.TheVariants.{BadWords, NoMemory}
use Rattle.ags_process.proofs.EndedLemmas.{exits_of, number_unbegun}
use Rattle.ags_process.proofs.exit_number.Goals as goal

pub returns-clause-ends : goal.returns-clause-ends
returns-clause-ends g c =
    exits_of (λ all. map string_bytes (drop 1 (into_iter_items all))) c.args.arguments c.new-out.result c.run.new.out c.run.result.status c.ended-status.result
    c.run.result.written c.number-number.result c.run.ensures.ran c.run.ensures.no_sink c.ended-status.ensures.written c.ended-status.ensures.unwritten c.number-number.ensures

pub returns-clause-memory : goal.returns-clause-memory
returns-clause-memory g c =
    number_unbegun _ _ (λ error. error_kind error ≡ OutOfMemory) c.args.arguments c.run.result.status NoMemory c.ended-status.result
    c.run.result.written c.number-number.result c.run.ensures.memory c.run.ensures.unbegun c.ended-status.ensures.written c.number-number.ensures

pub returns-clause-no_text : goal.returns-clause-no_text
returns-clause-no_text g c =
    number_unbegun _ _ (λ error. error_kind error ≢ OutOfMemory) c.args.arguments c.run.result.status BadWords c.ended-status.result
    c.run.result.written c.number-number.result c.run.ensures.no_text c.run.ensures.unbegun c.ended-status.ensures.written c.number-number.ensures
