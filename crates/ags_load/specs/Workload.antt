-- The workload of a size: a program that calls one subroutine so many times, and a certificate for it, each line by line.
use Rattle.std.specs.Prelude.{ℕ, zero, suc, ◌+◌, ◌*◌, List, [], ◌∷◌, ◌++◌, codes}
use Rattle.std.specs.List.{flat_map}
use Rattle.ags_text.specs.Numeral.{octal4_text, octal6_text}

-- a text of these lines, each with its line feed
unfoldable pub text_of : List (List ℕ) → List ℕ
text_of lines = flat_map (λ (line : List ℕ). line ++ codes "\n") lines

-- the lines for 1, for 2 and so on up to a number, in this order
unfoldable pub each_up_to : (lines_for : ℕ → List (List ℕ)) → ℕ → List (List ℕ)
each_up_to lines_for zero = []
each_up_to lines_for (suc count) = each_up_to lines_for count ++ lines_for (suc count)

-- ---- the source

-- a cell for the return word
unfoldable pub first_cards : List (List ℕ)
first_cards = codes " ORG /20" ∷ codes "RET BSS 1" ∷ codes " ORG /4000" ∷ []

-- one call of the subroutine, and a store of what it leaves
unfoldable pub call_cards : List (List ℕ)
call_cards = codes " TSQ SUB" ∷ codes " STO /30" ∷ []

-- the wait for the next pulse, and the subroutine: a quarter of the input and one more
unfoldable pub last_cards : List (List ℕ)
last_cards = codes " DLY /4000" ∷ codes "SUB STQ RET" ∷ codes " INP /2001" ∷ codes " LRS 2" ∷ codes " ADD ONE" ∷ codes " TRA RET"
    ∷ codes "ONE OCT 1" ∷ codes " END" ∷ []

-- the cards of a source with so many calls
unfoldable pub source_cards : ℕ → List (List ℕ)
source_cards n = first_cards ++ (each_up_to (λ call. call_cards) n ++ last_cards)

-- the source with so many calls
unfoldable pub source_text : ℕ → List ℕ
source_text n = text_of (source_cards n)

-- ---- where its words stand

-- the location of a call, the first being number 1: the first word stands at 4000 octal
abbrev pub call_at : ℕ → ℕ
call_at call = 2046 + 2 * call

-- the location after a call, to which the subroutine returns
abbrev pub return_at : ℕ → ℕ
return_at call = 2047 + 2 * call

-- the location of the wait after so many calls, and that of the subroutine
abbrev pub wait_at : ℕ → ℕ
wait_at n = 2048 + 2 * n

abbrev pub subroutine_at : ℕ → ℕ
subroutine_at n = 2049 + 2 * n

-- the word that a call leaves in Q: a transfer to the location after it
abbrev pub return_word : ℕ → ℕ
return_word call = 131072 + return_at call

-- ---- the certificate

-- a row's line
unfoldable pub row_line : (location : ℕ) (a q : List ℕ) → List ℕ
row_line location a q = codes "ROW " ++ octal4_text location ++ codes " A " ++ a ++ codes " Q " ++ q ++ codes " X 0 V 0"

-- the return word of a call, as a value
unfoldable pub return_value : ℕ → List ℕ
return_value call = codes "WORDS " ++ octal6_text (return_word call)

-- the line that says that the cell for it holds the return word of a call
unfoldable pub return_line : ℕ → List ℕ
return_line call = codes "AT 0020 " ++ return_value call

-- a row of a location in the subroutine, while the cell holds the return word of a call
unfoldable pub inner_rows : (location : ℕ) (a : List ℕ) (call : ℕ) → List (List ℕ)
inner_rows location a call = row_line location a (codes "ANY") ∷ return_line call ∷ []

-- the limits, and the location of the start
unfoldable pub first_lines : List (List ℕ)
first_lines = codes "AGSCERT 1" ∷ codes "START 4000" ∷ codes "CELL 0030 RANGE -98 100" ∷ codes "IN 2001 RANGE -396 396" ∷ []

-- the rows of a call and of the store after it
unfoldable pub call_rows : ℕ → List (List ℕ)
call_rows call = row_line (call_at call) (codes "ANY") (codes "ANY") ∷ row_line (return_at call) (codes "RANGE -98 100") (codes "ANY") ∷ []

-- the rows of the subroutine for a call, where there are n of them; the last is that of the cell with the return word
unfoldable pub subroutine_rows : (n call : ℕ) → List (List ℕ)
subroutine_rows n call = row_line (subroutine_at n) (codes "ANY") (return_value call)
    ∷ (inner_rows (subroutine_at n + 1) (codes "ANY") call
    ++ (inner_rows (subroutine_at n + 2) (codes "RANGE -396 396") call
    ++ (inner_rows (subroutine_at n + 3) (codes "RANGE -99 99") call
    ++ (inner_rows (subroutine_at n + 4) (codes "RANGE -98 100") call
    ++ inner_rows 16 (codes "RANGE -98 100") call))))

-- the lines of the certificate of a source with so many calls
unfoldable pub cert_lines : ℕ → List (List ℕ)
cert_lines n = first_lines ++ (each_up_to call_rows n
    ++ (row_line (wait_at n) (codes "ANY") (codes "ANY") ∷ (each_up_to (subroutine_rows n) n ++ codes "END" ∷ [])))

-- the certificate of a source with so many calls
unfoldable pub cert_text : ℕ → List ℕ
cert_text n = text_of (cert_lines n)
