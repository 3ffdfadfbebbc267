-- Lists of words in ascending number, which is how a word set keeps its words.
use Rattle.std.specs.Prelude.{◌≡◌, ℕ, ◌+◌, ◌<◌, ◌^◌, Bool, true, false, ◌&&◌, ◌||◌, nat_le, nat_lt, eqb, List, [], ◌∷◌, length}

-- the list has words alone, from a number on, and each is above the one before it
abbrev pub ascends_from : (from : ℕ) → List ℕ → Bool
ascends_from from [] = true
ascends_from from (word ∷ words) = nat_le from word && (nat_lt word (2 ^ 18) && ascends_from (word + 1) words)

-- the number stands in the list
abbrev pub lists : List ℕ → ℕ → Bool
lists [] word = false
lists (listed ∷ words) word = eqb listed word || lists words word

-- more words are held than this many: a list of held words, each once, is longer
pub record HoldsMore (count : ℕ) (held : ℕ → Bool) : Type 0 where
  pub words : List ℕ
  pub once : ascends_from 0 words ≡ true
  pub are_held : (w : ℕ) → lists words w ≡ true → held w ≡ true
  pub more : count < length words
