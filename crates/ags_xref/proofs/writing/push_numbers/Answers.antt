use Rattle.std.proofs.Common.{◌≡◌, ℕ, ◌+◌, ◌<◌, List, [], ◌∷◌, ◌++◌, length, get_or, take, ap, ◌∙◌, append_assoc}
use Rattle.std.specs.List.{flat_map}
use Rattle.std.proofs.lemmas.List.{take_more, append-nil}
use Rattle.std.proofs.lemmas.Grind.{flat_map-append}
use Rattle.ags_xref.specs.Xref.{number_text}
use Rattle.ags_xref.proofs.writing.push_numbers.Goals as goal

-- the texts of one number more
texts_more : (numbers : List ℕ) (i : ℕ) → i < length numbers → flat_map number_text (take (i + 1) numbers) ≡ flat_map number_text (take i numbers) ++ number_text (get_or numbers i 0)
texts_more numbers i within =
    ap (flat_map number_text) (take_more numbers i 0 within) ∙ flat_map-append number_text (take i numbers) (get_or numbers i 0 ∷ [])
    ∙ ap (λ text. flat_map number_text (take i numbers) ++ text) (append-nil (number_text (get_or numbers i 0)))

pub loop-number-preserved : goal.loop-number-preserved
loop-number-preserved c =
    rw (c.in_ok-push_number.ensures, c.loop-number.invariant, texts_more c.args.numbers.now c.loop-number.number-index c.loop-number-test.true)
    (append_assoc c.args.line.now.items (flat_map number_text (take c.loop-number.number-index c.args.numbers.now)) _)
