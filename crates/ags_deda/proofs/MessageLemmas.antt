-- What is left to be sent.
use Rattle.std.proofs.Common.{◌≡◌, ℕ, ◌<◌, ◌≤◌, true, false, List, [], length, drop, get_or, Some, None, ap, arith, drop-cons}
use Rattle.std.specs.List.{slice_get}
use Rattle.std.proofs.lemmas.Option.{slice_get_past}
use Rattle.std.proofs.lemmas.List.{length-drop}
use Rattle.ags_deda.specs.Key.{key_digit, blank_digit}
use Rattle.ags_deda.specs.Happening.{Happening, since_clear, keys_of, sent_count}
use Rattle.ags_deda.specs.Panel.{is_whole, spelled, unsent}
use Rattle.ags_deda.proofs.SpellingLemmas.{length-spelled}

-- nothing is left after the last digit
past_end : (n : ℕ) (xs : List ℕ) → length xs ≤ n → slice_get (drop n xs) 0 ≡ None
past_end n xs le = slice_get_past (drop n xs) 0 (omega (arith, length-drop n xs))

pub no_message : (happenings : List Happening) → is_whole (keys_of (since_clear happenings)) ≡ false → slice_get (unsent happenings) 0 ≡ None
unfolding unsent
no_message happenings none = rw none (past_end (sent_count (since_clear happenings)) [] (omega arith))

pub all_sent : (happenings : List Happening) → is_whole (keys_of (since_clear happenings)) ≡ true → 9 ≤ sent_count (since_clear happenings) → slice_get (unsent happenings) 0 ≡ None
unfolding unsent
all_sent happenings whole le =
    rw whole (past_end (sent_count (since_clear happenings)) (spelled key_digit blank_digit (keys_of (since_clear happenings)))
    (omega (arith, length-spelled key_digit blank_digit (keys_of (since_clear happenings)))))

first_left : (n : ℕ) (xs : List ℕ) → n < length xs → slice_get (drop n xs) 0 ≡ Some (get_or xs n 0)
first_left n xs lt = ap (λ (rest : List ℕ). slice_get rest 0) (drop-cons xs n 0 lt)

pub next_digit : (happenings : List Happening) → is_whole (keys_of (since_clear happenings)) ≡ true → sent_count (since_clear happenings) < 9
    → slice_get (unsent happenings) 0 ≡ Some (get_or (spelled key_digit blank_digit (keys_of (since_clear happenings))) (sent_count (since_clear happenings)) 0)
unfolding unsent
next_digit happenings whole lt =
    rw whole (first_left (sent_count (since_clear happenings)) (spelled key_digit blank_digit (keys_of (since_clear happenings)))
    (omega (arith, length-spelled key_digit blank_digit (keys_of (since_clear happenings)))))
