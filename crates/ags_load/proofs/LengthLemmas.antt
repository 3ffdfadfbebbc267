-- How long the texts are.
use Rattle.std.proofs.Common.{ℕ, zero, suc, ◌+◌, ◌*◌, ◌≤◌, List, [], ◌∷◌, ◌++◌, length, codes, arith, length-append}
use Rattle.ags_text.proofs.NumeralLemmas.{length-numeral}
use Rattle.ags_load.specs.Workload.{text_of, each_up_to, first_cards, call_cards, last_cards, source_cards, source_text, row_line, return_line, return_value, return_word, inner_rows, first_lines, call_rows, call_at, return_at, subroutine_rows, subroutine_at, wait_at, cert_lines, cert_text}

-- the line has at most sixty bytes
abbrev IsShort : List ℕ → Type 0
IsShort line = length line ≤ 60

-- each of the lines is
abbrev AreShort : List (List ℕ) → Type 0
AreShort [] = Unit {0}
AreShort (line ∷ lines) = IsShort line × AreShort lines

short-append : (some others : List (List ℕ)) → AreShort some → AreShort others → AreShort (some ++ others)
short-append [] others short more = more
short-append (line ∷ lines) others short more = (short.0, short-append lines others short.1 more)

-- a text of short lines
text_length : (lines : List (List ℕ)) → AreShort lines → length (text_of lines) ≤ 61 * length lines
unfolding text_of
text_length [] short = omega arith
text_length (line ∷ lines) short =
    let first : length line ≤ 60 = short.0 in
    let others : length (text_of lines) ≤ 61 * length lines = text_length lines short.1 in
    simp length-append (omega arith)

-- the lines up to a number are short where those for each are
each_short : (lines_for : ℕ → List (List ℕ)) → ((call : ℕ) → AreShort (lines_for call)) → (count : ℕ) → AreShort (each_up_to lines_for count)
unfolding each_up_to
each_short lines_for short zero = tt
each_short lines_for short (suc count) = short-append (each_up_to lines_for count) (lines_for (suc count)) (each_short lines_for short count) (short (suc count))

-- and they are at most eleven for each number
each_count : (lines_for : ℕ → List (List ℕ)) → ((call : ℕ) → length (lines_for call) ≤ 11) → (count : ℕ) → length (each_up_to lines_for count) ≤ 11 * count
unfolding each_up_to
each_count lines_for few zero = omega arith
each_count lines_for few (suc count) =
    let here : length (lines_for (suc count)) ≤ 11 = few (suc count) in
    let before : length (each_up_to lines_for count) ≤ 11 * count = each_count lines_for few count in
    simp length-append (omega arith)

-- a row's line is short where its values are
row_short : (location : ℕ) (a q : List ℕ) → length a ≤ 14 → length q ≤ 12 → IsShort (row_line location a q)
unfolding row_line
row_short location a q few_a few_q = simp (length-append, length-numeral 8 4 location) (omega arith)

return_length : (call : ℕ) → length (return_value call) ≤ 12
unfolding return_value
return_length call = let six = length-numeral 8 6 (return_word call) in omega (arith, six)

return_short : (call : ℕ) → IsShort (return_line call)
unfolding return_line
return_short call = let few = return_length call in simp length-append (omega (arith, few))

call_short : (call : ℕ) → AreShort (call_rows call)
unfolding call_rows
call_short call = (
  row_short (call_at call) (codes "ANY") (codes "ANY") (omega arith) (omega arith),
  (row_short (return_at call) (codes "RANGE -98 100") (codes "ANY") (omega arith) (omega arith), tt),
)

subroutine_short : (n call : ℕ) → AreShort (subroutine_rows n call)
unfolding subroutine_rows inner_rows
subroutine_short n call = (
  row_short (subroutine_at n) (codes "ANY") (return_value call) (omega arith) (return_length call),
  (
    row_short (subroutine_at n + 1) (codes "ANY") (codes "ANY") (omega arith) (omega arith),
    (
      return_short call,
      (
        row_short (subroutine_at n + 2) (codes "RANGE -396 396") (codes "ANY") (omega arith) (omega arith),
        (
          return_short call,
          (
            row_short (subroutine_at n + 3) (codes "RANGE -99 99") (codes "ANY") (omega arith) (omega arith),
            (
              return_short call,
              (
                row_short (subroutine_at n + 4) (codes "RANGE -98 100") (codes "ANY") (omega arith) (omega arith),
                (
                  return_short call,
                  (row_short 16 (codes "RANGE -98 100") (codes "ANY") (omega arith) (omega arith), (return_short call, tt)),
                ),
              ),
            ),
          ),
        ),
      ),
    ),
  ),
)

calls_short : (call : ℕ) → AreShort call_cards
unfolding call_cards
calls_short call = (omega arith, (omega arith, tt))

source_short : (n : ℕ) → AreShort (source_cards n)
unfolding source_cards first_cards last_cards
source_short n = short-append first_cards (each_up_to (λ call. call_cards) n ++ last_cards) (omega arith, (omega arith, (omega arith, tt)))
    (short-append (each_up_to (λ call. call_cards) n) last_cards (each_short (λ call. call_cards) calls_short n)
    (omega arith, (omega arith, (omega arith, (omega arith, (omega arith, (omega arith, (omega arith, (omega arith, tt)))))))))

source_count : (n : ℕ) → length (source_cards n) ≤ 11 + 11 * n
unfolding source_cards first_cards last_cards call_cards
source_count n = let each = each_count (λ call. call_cards) (λ call. omega arith) n in simp length-append (omega (arith, each))

-- the source of so many calls
pub source_length : (n : ℕ) → n ≤ 400 → length (source_text n) ≤ 4194304
unfolding source_text
source_length n many =
    let long = text_length (source_cards n) (source_short n) in
    let count = source_count n in
    omega (arith, long, count)

cert_short : (n : ℕ) → AreShort (cert_lines n)
unfolding cert_lines first_lines
cert_short n =
    let inner = each_short (subroutine_rows n) (subroutine_short n) n in
    let wait = row_short (wait_at n) (codes "ANY") (codes "ANY") (omega arith) (omega arith) in
    let last = short-append (each_up_to (subroutine_rows n) n) (codes "END" ∷ []) inner (omega arith, tt) in
    short-append first_lines (each_up_to call_rows n ++ (row_line (wait_at n) (codes "ANY") (codes "ANY") ∷ (each_up_to (subroutine_rows n) n ++ codes "END" ∷ [])))
    (omega arith, (omega arith, (omega arith, (omega arith, tt))))
    (short-append (each_up_to call_rows n) (row_line (wait_at n) (codes "ANY") (codes "ANY") ∷ (each_up_to (subroutine_rows n) n ++ codes "END" ∷ []))
    (each_short call_rows call_short n) (wait, last))

call_count : (call : ℕ) → length (call_rows call) ≤ 11
unfolding call_rows
call_count call = omega arith

subroutine_count : (n call : ℕ) → length (subroutine_rows n call) ≤ 11
unfolding subroutine_rows inner_rows
subroutine_count n call = omega arith

cert_count : (n : ℕ) → length (cert_lines n) ≤ 6 + 11 * n + 11 * n
unfolding cert_lines first_lines
cert_count n =
    let calls = each_count call_rows call_count n in
    let inner = each_count (subroutine_rows n) (subroutine_count n) n in
    simp length-append (omega (arith, calls, inner))

-- the certificate of so many calls
pub cert_length : (n : ℕ) → n ≤ 400 → length (cert_text n) ≤ 67108864
unfolding cert_text
cert_length n many =
    let long = text_length (cert_lines n) (cert_short n) in
    let count = cert_count n in
    omega (arith, long, count)
