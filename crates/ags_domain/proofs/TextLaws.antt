-- The text of words, one word further.
use Rattle.std.proofs.Common.{◌≡◌, ℕ, ◌+◌, ◌<◌, sym, ap, ◌∙◌, List, [], ◌∷◌, ◌++◌, length, take, get_or, append_assoc}
use Rattle.std.proofs.lemmas.List.{append-nil, take_more}
use Rattle.ags_text.specs.Numeral.{octal6_text}
use Rattle.ags_domain.specs.ValueText.{words_text}

pub words_text-append : (xs : List ℕ) (y : ℕ) → words_text (xs ++ y ∷ []) ≡ words_text xs ++ (32 ∷ octal6_text y)
words_text-append [] y = append-nil (32 ∷ octal6_text y)
words_text-append (x ∷ xs) y =
    ap (λ t. (32 ∷ octal6_text x) ++ t) (words_text-append xs y) ∙ sym (append_assoc (32 ∷ octal6_text x) (words_text xs) (32 ∷ octal6_text y))

pub words_more : (words : List ℕ) (i x : ℕ) → i < length words → x ≡ get_or words i x → words_text (take (i + 1) words) ≡ words_text (take i words) ++ (32 ∷ octal6_text x)
words_more words i x h is = ap words_text (take_more words i x h ∙ ap (λ y. take i words ++ y ∷ []) (sym is)) ∙ words_text-append (take i words) x
