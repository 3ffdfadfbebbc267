-- What edits leave of a certificate is one, for the registers that it was one for.
use Rattle.std.proofs.Common.{◌≡◌, ℕ, zero, suc, ◌-◌, ◌<◌, refl, sym, ap, subst, ⊎_elim, inl, inr, arith, length}
use Rattle.std.specs.Prelude.{Ok}
use Rattle.std.proofs.lemmas.Bool.{cases_lt}
use Rattle.std.proofs.lemmas.List.{length-set}
use Rattle.ags_domain.specs.Value.{value_meaning}
use Rattle.ags_domain.specs.declared.values.Value.{Value}
use Rattle.ags_ports.specs.declared.machines.Machine.{Machine}
use Rattle.ags_row.specs.Limit.{AreWholeLimits, input_limit, output_limit}
use Rattle.ags_row.specs.declared.rows.Row.{Row}
use Rattle.ags_row.proofs.LimitLemmas.{cell_set}
use Rattle.ags_safe.specs.Certificate.{Suits}
use Rattle.ags_certtype.specs.Cert.{Stated, IsCert, certificate_of}
use Rattle.ags_certtype.specs.Edit.{AreCellsWithin, IsNoRow, IsUseWithin, others_at, with_limit, with_row}
use Rattle.ags_certtype.specs.Limit.{most_rows_at_one}
use Rattle.ags_certtype.proofs.EditLemmas.{limit_put, row_put}
use Rattle.ags_check.specs.Judging.{Judging}
use Rattle.ags_edits.specs.Text.{IsLawful}
use Rattle.ags_edits.specs.declared.edits.Edit.{Edit}
use Rattle.ags_edits.specs.declared.edits.Edit.TheVariants as edit
use Rattle.ags_recheck.specs.Edited.{IsEdited}
use Rattle.ags_recheck.specs.Told.{IsTold}
use Rattle.ags_recheck.specs.declared.telling.Told.{Told}
use Rattle.ags_recheck.specs.declared.telling.Told.TheVariants.{Made, NotMade}
use Rattle.ags_recheck.proofs.LawLemmas.{refused_stays}
use Rattle.ags_recheck.proofs.TellingLemmas.{told_stays}

-- a certificate for a machine's registers
abbrev pub Stands : Machine → Stated → Type 0
Stands machine stated = IsCert stated × Suits value_meaning machine (certificate_of stated)

whole_still : (stated : Stated) (address : ℕ) (value : Value) → AreWholeLimits value_meaning stated.limits
    → AreWholeLimits value_meaning (with_limit stated address value).limits
whole_still stated address value whole = record {
  tables = record {
    cells = subst (λ (n : ℕ). n ≡ 2048) (sym (length-set stated.limits.cells address value)) whole.tables.cells;
    inputs = whole.tables.inputs;
    outputs = whole.tables.outputs;
    places = whole.tables.places;
  };
  every = whole.every;
}

limit_stands : (machine : Machine) (stated : Stated) (address : ℕ) (value : Value) → address < 2048 → IsUseWithin stated address value → Stands machine stated
    → Stands machine (with_limit stated address value)
unfolding input_limit output_limit
limit_stands machine stated address value below used (is, suits) = (
  limit_put stated (with_limit stated address value).limits address value is (whole_still stated address value is.limits)
      (cell_set stated.limits is.limits.tables address value below) used,
  record { inputs = suits.inputs; outputs = suits.outputs; once = suits.once },
)

inside_of : (stated : Stated) (number : ℕ) → ¬ IsNoRow stated number → number - 1 < length stated.rows
inside_of stated zero there = absurd (there (inl refl))
inside_of stated (suc n) there = ⊎_elim (λ less. omega (arith, less)) (λ more. absurd (there (inr (omega (arith, more))))) (cases_lt n (length stated.rows))

row_stands : (machine : Machine) (stated : Stated) (number : ℕ) (row : Row Value) → ¬ IsNoRow stated number → AreCellsWithin stated.limits row.at
    → others_at stated.rows number row.location < most_rows_at_one → Stands machine stated → Stands machine (with_row stated number row)
row_stands machine stated number row there within room (is, suits) = (
  row_put stated (number - 1) row is (inside_of stated number there) within room,
  record { inputs = suits.inputs; outputs = suits.outputs; once = suits.once },
)

abbrev Standing : Judging → Type 0
Standing j = Stands j.machine j.cert

by_cert : (old new : Judging) (cert : Stated) → new.machine ≡ old.machine → new.cert ≡ cert → Stands old.machine cert → Standing new
by_cert old new cert machine same stands =
    subst (λ (m : Machine). Stands m new.cert) (sym machine) (subst (Stands old.machine) (sym same) stands)

made_stands : (old new : Judging) (e : Edit) → IsLawful e → new.machine ≡ old.machine → IsEdited old e (Ok tt) new → Standing old → Standing new
made_stands old new (edit.Word location word) lawful machine is stands = by_cert old new old.cert machine (ap (λ (j : Judging). j.cert) is) stands
made_stands old new (edit.Limit cell) lawful machine is stands = by_cert old new (with_limit old.cert cell.address cell.value) machine is.0.1
    (limit_stands old.machine old.cert cell.address cell.value lawful is.0.0 stands)
made_stands old new (edit.Row number row) lawful machine is stands = by_cert old new (with_row old.cert number row) machine is.0.3
    (row_stands old.machine old.cert number row is.0.0 is.0.1 is.0.2 stands)

-- after an edit the certificate stands
pub stands_still : (old new : Judging) (e : Edit) (told : Told) → IsLawful e → IsTold old e told new → Stands old.machine old.cert → Stands new.machine new.cert
stands_still old new e (Made verdict) lawful is stands = made_stands old new e lawful (told_stays old new e (Made verdict) is) is.0 stands
stands_still old new e (NotMade error) lawful is stands = subst Standing (sym (refused_stays old new e error is)) stands
