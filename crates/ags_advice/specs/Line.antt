-- The words of a line of output.
use Rattle.std.specs.Prelude.{ℕ, zero, suc, ◌==◌, List}
use Rattle.std.specs.List.{before_first, after_first}

-- a text up to its first line feed
abbrev pub first_line : List ℕ → List ℕ
first_line text = before_first (λ byte. byte == 10) text

-- the word at the start of a text: what stands before its first blank
abbrev pub first_word : List ℕ → List ℕ
first_word text = before_first (λ byte. byte == 32) text

-- what stands after that blank, and nothing where there is none
abbrev pub after_word : List ℕ → List ℕ
after_word text = after_first (λ byte. byte == 32) text

-- what stands after so many words
abbrev pub after_words : (count : ℕ) → List ℕ → List ℕ
after_words zero text = text
after_words (suc count) text = after_word (after_words count text)
