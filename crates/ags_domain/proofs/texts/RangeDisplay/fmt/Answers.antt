use Rattle.std.proofs.Common.{◌≡◌, ◌++◌, true, false, append_assoc, sym, ◌∙◌, refl}
use Rattle.std.specs.Prelude.{codes}
use Rattle.std.specs.Fmt.{signed_decimal}
use Rattle.std.specs.Int.{w32}
use Rattle.std.proofs.lemmas.Int.{to_z-of_z}
use Rattle.ags_word.specs.Word.{val}
use Rattle.ags_domain.specs.Domain.{Ends}
use Rattle.ags_domain.specs.ValueText.{are_full, ends_text}
use Rattle.ags_domain.proofs.texts.RangeDisplay.fmt.Goals as goal

full_text : (ends : Ends) → are_full ends ≡ true → ends_text ends ≡ codes "ANY"
full_text ends is = rw is refl

part_text : (ends : Ends) → are_full ends ≡ false → ends_text ends ≡ codes "RANGE " ++ (signed_decimal (val ends.least) ++ (codes " " ++ signed_decimal (val ends.greatest)))
part_text ends is = rw is (simp append_assoc refl)

pub returns-then-is_full-clause-writes : goal.returns-then-is_full-clause-writes
returns-then-is_full-clause-writes g c = rw (full_text _ (sym c.is_full.ensures ∙ c.if-is_full.true)) c.write_str.ensures.writes

pub returns-clause-writes : goal.returns-clause-writes
returns-clause-writes g c =
    let least = to_z-of_z w32 c.value-least.result (record { sfits = c.value-least.type_inv }) ∙ c.value-least.ensures.same in
    let greatest = to_z-of_z w32 c.value-greatest.result (record { sfits = c.value-greatest.type_inv }) ∙ c.value-greatest.ensures.same in
    rw (part_text _ (sym c.is_full.ensures ∙ c.if-is_full.false), ← least, ← greatest) c.write.ensures.writes
