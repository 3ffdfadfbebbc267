-- The words at the front of a text.
use Rattle.std.proofs.Common.{◌≡◌, ℕ, zero, suc, ◌+◌, ◌<◌, ◌≤◌, List, [], ◌∷◌, ◌++◌, length, take, set, Option, refl, sym, ap, ◌∙◌, ◌⊎◌, inl, inr, arith}
use Rattle.std.proofs.lemmas.List.{take_more_set, length-set, take_all}
use Rattle.ags_text.specs.Field.{next_field, behind_field}
use Rattle.ags_text.specs.Numeral.{Writes}
use Rattle.ags_domain.specs.declared.values.Value.{Value}
use Rattle.ags_certtext.specs.Spelling.{AreWords}
use Rattle.ags_certtext.specs.Front.{AreAtFront, BeginsWithWord, BeginsWithWords, IsSetFront}

-- one field more
pub front_more : (fields : List (List ℕ)) (text rest : List ℕ) → AreAtFront fields text rest → AreAtFront (fields ++ next_field rest ∷ []) text (behind_field rest)
front_more [] text rest front = (ap next_field front, ap behind_field front)
front_more (field ∷ fields) text rest front = (front.0, front_more fields (behind_field text) rest front.1)

words_more : (fields : List (List ℕ)) (words : List ℕ) (field : List ℕ) (word : ℕ) → AreWords fields words → Writes 8 6 field word → AreWords (fields ++ field ∷ []) (words ++ word ∷ [])
words_more [] [] field word are is = (is, tt)
words_more [] (first ∷ words) field word are is = absurd are
words_more (other ∷ fields) [] field word are is = absurd are
words_more (other ∷ fields) (first ∷ words) field word are is = (are.0, words_more fields words field word are.1 is)

-- so many words of the array are those at the front of the text, and this is left
pub record Gathered (text words rest : List ℕ) (count : ℕ) : Type 0 where
  pub long : length words ≡ 16
  pub fields : List (List ℕ)
  pub front : AreAtFront fields text rest
  pub are : AreWords fields (take count words)

pub gathered_more : (text words rest : List ℕ) (count word : ℕ) → count < 16 → Gathered text words rest count → Writes 8 6 (next_field rest) word
    → Gathered text (set words count word) (behind_field rest) (count + 1)
gathered_more text words rest count word within so is = record {
  long = length-set words count word ∙ so.long;
  fields = so.fields ++ next_field rest ∷ [];
  front = front_more so.fields text rest so.front;
  are = rw (take_more_set words count word (rw so.long within)) (words_more so.fields (take count words) (next_field rest) word so.are is);
}

pub gathered_found : (text words rest : List ℕ) (count : ℕ) (list : List ℕ) (value : Option Value) (behind : List ℕ) → Gathered text words rest count → list ≡ take count words
    → IsSetFront list rest value behind → BeginsWithWords text value behind
gathered_found text words rest count list value behind so same is =
    record { words = so.fields; set = is.set; value_is = is.value_is; front = rw (← is.rest_is) so.front; are = rw (is.list_is, same) so.are }

-- as many fields as are words are taken, and no more than a set has
pub munch : (most : ℕ) (text rest behind : List ℕ) (fields others : List (List ℕ)) (words list : List ℕ) → AreAtFront fields text rest → AreWords fields words
    → AreAtFront others text behind → AreWords others list → (BeginsWithWord rest → ⊥) ⊎ (length words ≡ most) → length list ≤ most → (BeginsWithWord behind → ⊥)
    → (list ≡ words) × (rest ≡ behind)
munch most text rest behind [] [] [] [] front are others_front others_are stops few ends = (refl, sym front ∙ others_front)
munch most text rest behind [] [] [] (word ∷ list) front are others_front others_are stops few ends = absurd others_are
munch most text rest behind [] [] (word ∷ words) list front are others_front others_are stops few ends = absurd are
munch most text rest behind [] (other ∷ others) words [] front are others_front others_are stops few ends = absurd others_are
munch most text rest behind [] (other ∷ others) (word ∷ words) list front are others_front others_are stops few ends = absurd are
munch most text rest behind [] (other ∷ others) [] (word ∷ list) front are others_front others_are (inl stop) few ends =
    absurd (stop (word, rw (← front, others_front.0) others_are.0))
munch most text rest behind [] (other ∷ others) [] (word ∷ list) front are others_front others_are (inr full) few ends = absurd (omega (arith, full, few))
munch most text rest behind (field ∷ fields) others [] list front are others_front others_are stops few ends = absurd are
munch most text rest behind (field ∷ fields) [] (word ∷ words) (first ∷ list) front are others_front others_are stops few ends = absurd others_are
munch most text rest behind (field ∷ fields) [] (word ∷ words) [] front are others_front others_are stops few ends =
    absurd (ends (word, rw (← others_front, front.0) are.0))
munch most text rest behind (field ∷ fields) (other ∷ others) (word ∷ words) [] front are others_front others_are stops few ends = absurd others_are
munch zero text rest behind (field ∷ fields) (other ∷ others) (word ∷ words) (first ∷ list) front are others_front others_are stops few ends = absurd (omega arith)
munch (suc most) text rest behind (field ∷ fields) (other ∷ others) (word ∷ words) (first ∷ list) front are others_front others_are stops few ends =
    let later : (list ≡ words) × (rest ≡ behind) = munch most (behind_field text) rest behind fields others words list front.1 are.1 others_front.1 others_are.1
    (elim stops [ inl stop ↦ inl stop | inr full ↦ inr (omega (arith, full)) ]) (omega (arith, few)) ends in
    let same : other ≡ field = sym others_front.0 ∙ front.0 in
    let number : first ≡ word = sym others_are.0.value ∙ rw same are.0.value in
    (rw (number, later.0) refl, later.1)

pub gathered_only : (text words rest : List ℕ) (count : ℕ) (list : List ℕ) (value : Option Value) (behind : List ℕ) → Gathered text words rest count → list ≡ take count words
    → (BeginsWithWord rest → ⊥) ⊎ (length list ≡ 16) → BeginsWithWords text value behind → (BeginsWithWord behind → ⊥) → IsSetFront list rest value behind
gathered_only text words rest count list value behind so same stops is ends =
    let one = munch 16 text rest behind so.fields is.words list is.set.list so.front (rw same so.are) is.front is.are stops is.set.few ends in
    record { set = is.set; value_is = is.value_is; list_is = one.0; rest_is = one.1 }

pub all_words : (text words rest : List ℕ) (count : ℕ) → Gathered text words rest count → 16 ≤ count → words ≡ take count words
all_words text words rest count so past = sym (take_all count words (rw so.long past))
