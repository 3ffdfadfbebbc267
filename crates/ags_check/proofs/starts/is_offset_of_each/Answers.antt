use Rattle.std.proofs.Common.{◌≡◌, Bool, true, false, sym, ap, ◌∙◌}
use Rattle.std.specs.Prelude.{IsTrue}
use Rattle.ags_word.specs.Word.{val}
use Rattle.ags_domain.specs.MeaningLaws.{value_lawful}
use Rattle.ags_check.proofs.StartLemmas.{each_of_ends}
use Rattle.ags_check.proofs.starts.is_offset_of_each.Goals as goal

-- a test that fails
refused : {P Q : Type 0} (b : Bool) → (P → IsTrue b) → b ≡ false → (IsTrue false → Q) × (P → IsTrue false)
refused b says fails = (λ h. absurd (let both : true ≡ false = sym h in cc), λ p. sym fails ∙ says p)

pub returns-then-not-is_offset : goal.returns-then-not-is_offset
returns-then-not-is_offset c = refused c.is_offset.result
    (λ each. c.is_offset.ensures.1 (each _ (value_lawful.least_word c.args.words.now) (value_lawful.least_held c.args.words.now) ∙ ap val (sym c.least.ensures)))
    c.if-not-is_offset.true

pub returns : goal.returns
returns c = (
  λ holds. each_of_ends c.args.link.offset c.args.words.now
      (c.is_offset.ensures.0 c.if-not-is_offset.false ∙ ap val c.least.ensures)
      (c.is_offset-2.ensures.0 holds ∙ ap val c.greatest.ensures),
  λ each. c.is_offset-2.ensures.1 (each _ (value_lawful.greatest_word c.args.words.now) (value_lawful.greatest_held c.args.words.now) ∙ ap val (sym c.greatest.ensures)),
)
