-- The digits of flags, one flag further.
use Rattle.std.proofs.Common.{◌≡◌, ℕ, ◌+◌, Bool, true, false, List, [], ◌∷◌, ◌++◌, length, take, get_or, refl, sym, ap, ◌∙◌, inl, inr, ◌≤◌, arith}
use Rattle.std.proofs.lemmas.Bool.{cases_lt, true≢false}
use Rattle.std.proofs.lemmas.List.{take_more, take_all, get_or_past, append-nil, length-take}
use Rattle.ags_certtext.specs.Spelling.{flag_digits}

flag_digits-append : (digit : ℕ) (flags : List Bool) (last : Bool) → flag_digits digit (flags ++ last ∷ []) ≡ flag_digits digit flags ++ flag_digits (digit + length flags) (last ∷ [])
flag_digits-append digit [] last = ap (λ (d : ℕ). flag_digits d (last ∷ [])) (omega arith)
flag_digits-append digit (true ∷ flags) last =
    let same : digit + 1 + length flags ≡ digit + length (true ∷ flags) = omega arith in
    ap (λ (ds : List ℕ). digit ∷ ds) (rw same at (flag_digits-append (digit + 1) flags last))
flag_digits-append digit (false ∷ flags) last =
    let same : digit + 1 + length flags ≡ digit + length (false ∷ flags) = omega arith in
    rw same at (flag_digits-append (digit + 1) flags last)

-- where there is no further flag, nothing is added
past : (flags : List Bool) (i : ℕ) → length flags ≤ i → take (i + 1) flags ≡ take i flags
past flags i all = take_all (i + 1) flags (omega arith) ∙ sym (take_all i flags all)

pub digits_set : (flags : List Bool) (i : ℕ) → get_or flags i false ≡ true → flag_digits 48 (take i flags) ++ (48 + i) ∷ [] ≡ flag_digits 48 (take (i + 1) flags)
digits_set flags i is =
    elim (cases_lt i (length flags)) [
      | inl within ↦
          let counted : length (take i flags) ≡ i = omega (arith, length-take i flags) in
          rw (take_more flags i false within, is, flag_digits-append, counted) refl
      | inr all ↦ absurd (true≢false (sym is ∙ get_or_past flags i false all))
    ]

pub digits_clear : (flags : List Bool) (i : ℕ) → get_or flags i false ≡ false → flag_digits 48 (take i flags) ≡ flag_digits 48 (take (i + 1) flags)
digits_clear flags i is =
    elim (cases_lt i (length flags)) [
      | inl within ↦ rw (take_more flags i false within, is, flag_digits-append) (sym (append-nil (flag_digits 48 (take i flags))))
      | inr all ↦ ap (flag_digits 48) (sym (past flags i all))
    ]
