-- What is made of a card.
use Rattle.std.proofs.Common.{◌≡◌, ℕ, Bool, List, [], ◌∷◌, ◌++◌, Option, Some, None, refl, ℤ, arith}
use Rattle.std.specs.Prelude.{◌*◌, unsigned_abs, length, FitsSigned}
use Rattle.std.specs.Int.{w32}
use Rattle.std.specs.Option.{option_or}
use Rattle.ags_symbol.specs.Bound.{IsAtMost}
use Rattle.std.proofs.lemmas.Int.{ints, fits_signed_from_abs}
use Rattle.ags_isa.specs.declared.orders.Order.{Order}
use Rattle.ags_isa.specs.Naming.{order_word}
use Rattle.ags_card.specs.declared.cards.Body.TheVariants as body
use Rattle.ags_card.specs.Term.{AreTerms}
use Rattle.ags_card.specs.declared.terms.Term.{Term}
use Rattle.ags_symbol.specs.Symbol.{Entry, plus, sum_of}
use Rattle.ags_symbol.specs.Split.{known_sum, open_terms}
use Rattle.ags_symbol.proofs.SplitLemmas.{sum_is_split, sum_stays}
use Rattle.ags_places.specs.declared.source_error.WordFault.{WordFault}
use Rattle.ags_text.specs.Fault.{or_later}
use Rattle.ags_asm.specs.Word.{address_fault}
use Rattle.ags_asm.specs.Waiting.{IsMade, numbered}

-- an order whose operand is known
pub made_known : (codes : List ℕ) (E later : List Entry) (number at : ℕ) (order : Order) (terms : List Term) (indexed : Bool) (value : ℤ) (word : ℕ) → sum_of E at terms ≡ Some value
    → address_fault (Some value) ≡ None → word ≡ order_word codes order indexed (unsigned_abs value) → IsMade codes (E ++ later) number at (body.Order order terms indexed) None (word ∷ []) []
made_known codes E later number at order terms indexed value word is right word_is =
    let whole = sum_stays E later at terms value is in
    record {
      fault = rw (whole, right) refl;
      words_are = λ _. rw (whole, word_is) refl;
    }

pub made_fault : (codes : List ℕ) (E later : List Entry) (number at : ℕ) (order : Order) (terms : List Term) (indexed : Bool) (value : ℤ) (fault : WordFault) → sum_of E at terms ≡ Some value
    → address_fault (Some value) ≡ Some fault → IsMade codes (E ++ later) number at (body.Order order terms indexed) (Some fault) [] []
made_fault codes E later number at order terms indexed value fault is wrong =
    let whole = sum_stays E later at terms value is in
    record {
      fault = rw (whole, wrong) refl;
      words_are = λ some. absurd cc;
    }

-- one that waits
numbered_later : (n : ℕ) (x : Option WordFault) → numbered n x ≡ option_or (or_later n x None) None
numbered_later n None = refl
numbered_later n (Some fault) = refl

pub made_waits : (codes : List ℕ) (E later : List Entry) (number at : ℕ) (order : Order) (terms : List Term) (indexed : Bool) (sum : ℤ) (rest : List Term) → sum ≡ known_sum E at terms → rest ≡ open_terms E at terms
    → IsMade codes (E ++ later) number at (body.Order order terms indexed) None [] (record { card = number; place = at; order = order; indexed = indexed; sum = sum; rest = rest } ∷ [])
made_waits codes E later number at order terms indexed sum rest is opens =
    let whole : sum_of (E ++ later) at terms ≡ plus (Some sum) (sum_of (E ++ later) at rest) = rw (is, opens) (sum_is_split E later at terms) in
    record {
      fault = rw whole (numbered_later number (address_fault (plus (Some sum) (sum_of (E ++ later) at rest))));
      words_are = λ _. rw whole refl;
    }

-- ---- in the code

pub sum_fits : (n : ℤ) → IsAtMost 63999936 n → FitsSigned w32 n
sum_fits n small = fits_signed_from_abs w32 n (omega (arith, ints, small.least, small.most))

-- the sum of an expression's terms is a number of the code
pub value_fits : (n : ℤ) (terms : List Term) → AreTerms terms → IsAtMost (999999 * length terms) n → FitsSigned w32 n
value_fits n terms are small = fits_signed_from_abs w32 n (omega (arith, ints, small.least, small.most, are.most))
