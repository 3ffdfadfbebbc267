-- The first of several faults: of fix-ups, of one that was met, and of the cards that are left.
use Rattle.std.proofs.Common.{◌≡◌, ℕ, List, [], ◌∷◌, ◌++◌, Option, Some, None, refl, sym, ap, ◌∙◌}
use Rattle.std.specs.Option.{option_or}
use Rattle.ags_text.specs.Fault.{or_later}
use Rattle.ags_symbol.specs.Symbol.{Entry}
use Rattle.ags_places.specs.declared.source_error.WordFault.{WordFault}
use Rattle.ags_places.specs.Place.{place}
use Rattle.ags_asm.specs.Waiting.{Waiting, closing_fault, numbered}

-- ---- the first of several faults

assoc : {F : Type 0} (a b c : Option F) → option_or (option_or a b) c ≡ option_or a (option_or b c)
assoc None b c = refl
assoc (Some f) b c = refl

later_as : (n : ℕ) (x : Option WordFault) (later : Option (ℕ × WordFault)) → or_later n x later ≡ option_or (numbered n x) later
later_as n None later = refl
later_as n (Some fault) later = refl

numbered_both : (n : ℕ) (a b : Option WordFault) → numbered n (option_or a b) ≡ option_or (numbered n a) (numbered n b)
numbered_both n None b = refl
numbered_both n (Some fault) b = refl

closing_step : (n : ℕ) (x : Option WordFault) (one other later : Option (ℕ × WordFault)) → one ≡ option_or other later → or_later n x one ≡ option_or (or_later n x other) later
closing_step n None one other later is = is
closing_step n (Some fault) one other later is = refl

pub closing_more : (S : List Entry) (waiting new : List Waiting) → closing_fault S (waiting ++ new) ≡ option_or (closing_fault S waiting) (closing_fault S new)
closing_more S [] new = refl
closing_more S (first ∷ waiting) new =
    closing_step first.card _ (closing_fault S (waiting ++ new)) (closing_fault S waiting) (closing_fault S new) (closing_more S waiting new)

-- what a card adds to the fault: its orders that wait, and its fault that is known at once
pub fault_added : (n : ℕ) (whole place own : Option WordFault) (known wait later : Option (ℕ × WordFault)) → numbered n whole ≡ option_or wait (numbered n own)
    → option_or known (or_later n (option_or whole place) later) ≡ option_or (option_or known wait) (option_or (numbered n (option_or own place)) later)
fault_added n whole place own known wait later is =
    ap (option_or known) (later_as n (option_or whole place) later ∙ rw (numbered_both n whole place, is, assoc wait (numbered n own) (numbered n place), ← numbered_both n own place, assoc wait) refl)
    ∙ sym (assoc known wait (option_or (numbered n (option_or own place)) later))
