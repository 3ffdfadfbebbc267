use Rattle.std.proofs.lemmas.Fmt.{contents_after_writes}
use Rattle.ags_certsend.specs.Spelled.{statement_line}
use Rattle.ags_certsend.proofs.writing.line_of.Goals as goal

pub returns-in-Ok : goal.returns-in-Ok
unfolding statement_line
returns-in-Ok c = rw c.new-line.ensures at (contents_after_writes _ (λ s. s.bytes) (λ _ _ _ t. t) _ _ _ c.in-Ok.ensures.writes)
