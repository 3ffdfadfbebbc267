-- Worked values of the definitions that the contracts cite.
use Rattle.std.proofs.Common.{◌≡◌, ◌-◌, ◌^◌, ℕ, List, [], ◌∷◌, ◌++◌, ap, Some, None, refl, inl, inr, arith}
use Rattle.ags_outside.specs.declared.shelves.Pull.TheVariants as pull
use Rattle.ags_outside.specs.declared.sinks.PutDone.TheVariants.{Took, Failed}
use Rattle.ags_outside.specs.Count.{Rose}
use Rattle.ags_outside.specs.Files.{bytes_of}
use Rattle.ags_outside.specs.Shelf.{absences_after}
use Rattle.ags_outside.specs.Sink.{taken_after, WroteFront}
use Rattle.ags_outside.specs.Taken.{TookMore}

-- a count of four rose where it is five or more, and not where it is four still or fell
rose_by_one : Rose 4 5
rose_by_one = inl (omega arith)

rose_by_more : Rose 4 9
rose_by_more = inl (omega arith)

stayed : Rose 4 4 → ⊥
stayed (inl more) = omega arith
stayed (inr last) = omega arith

fell : Rose 4 3 → ⊥
fell (inl more) = omega arith
fell (inr last) = omega arith

-- at the last value of a counter every call may have raised it, and after that value none that left it
rose_at_the_last : Rose (2 ^ 64 - 1) (2 ^ 64 - 1)
rose_at_the_last = inr refl

stayed_behind : Rose (2 ^ 64) (2 ^ 64) → ⊥
stayed_behind (inl more) = omega arith
stayed_behind (inr last) = omega arith

-- two files named 7 and 8: a look-up by the whole name, the first of a name counts, and no other is found
found : bytes_of ((7 ∷ [], 1 ∷ 2 ∷ []) ∷ (8 ∷ [], []) ∷ []) (8 ∷ []) ≡ Some []
found = refl

first_found : bytes_of ((7 ∷ [], 1 ∷ []) ∷ (7 ∷ [], 2 ∷ []) ∷ []) (7 ∷ []) ≡ Some (1 ∷ [])
first_found = refl

not_found : bytes_of ((7 ∷ [], 1 ∷ []) ∷ []) (7 ∷ 7 ∷ []) ≡ None
not_found = refl

-- a sink that holds 1 and is given 2, 3 and 4, of which it takes two; one that fails; one that tells nothing
took_two : taken_after (Some (1 ∷ [])) (2 ∷ 3 ∷ 4 ∷ []) (Took 2) ≡ Some (1 ∷ 2 ∷ 3 ∷ [])
took_two = refl

took_none : taken_after (Some (1 ∷ [])) (2 ∷ 3 ∷ []) Failed ≡ Some (1 ∷ [])
took_none = refl

untold : taken_after None (2 ∷ 3 ∷ []) (Took 1) ≡ None
untold = refl

-- of 1 and 2, a sink that holds 7 took the first, none, or both
first_written : WroteFront (Some (7 ∷ [])) (Some (7 ∷ 1 ∷ [])) (1 ∷ 2 ∷ [])
first_written = record { rest = 2 ∷ []; wrote = record { done = 1 ∷ []; told = refl; whole = refl } }

none_written : WroteFront (Some (7 ∷ [])) (Some (7 ∷ [])) (1 ∷ 2 ∷ [])
none_written = record { rest = 1 ∷ 2 ∷ []; wrote = record { done = []; told = refl; whole = refl } }

both_written : WroteFront (Some (7 ∷ [])) (Some (7 ∷ 1 ∷ 2 ∷ [])) (1 ∷ 2 ∷ [])
both_written = record { rest = []; wrote = record { done = 1 ∷ 2 ∷ []; told = refl; whole = refl } }

-- a count of absent files is one more after an absence, but for its last value, and no more after an end
one_absent : absences_after 4 pull.Absent ≡ 5
one_absent = refl

absent_at_the_last : absences_after (2 ^ 64 - 1) pull.Absent ≡ 2 ^ 64 - 1
absent_at_the_last = refl

ended : absences_after 4 pull.End ≡ 4
ended = refl

-- a list that has 8 and 9 after what it held took these, and one with 7, 8 and 9 that held 7 didn't take 9 alone
list_took : (held : List ℕ) → TookMore (λ list bytes. bytes ≡ list) held (held ++ 8 ∷ 9 ∷ []) (8 ∷ 9 ∷ [])
list_took held = λ before is. ap (λ bytes. bytes ++ 8 ∷ 9 ∷ []) is

took_less : TookMore (λ list bytes. bytes ≡ list) (7 ∷ []) (7 ∷ 8 ∷ 9 ∷ []) (9 ∷ []) → ⊥
took_less more = cc (more (7 ∷ []) refl)
