-- What bounds on order time are worth.
use Rattle.std.proofs.Common.{◌≡◌, ℕ, List, ◌++◌, length, ap}
use Rattle.ags_budget.proofs.SpentLemmas.{bounds_kept, rows_in_time}
use Rattle.ags_budget.specs.Timed.{IsTimed}
use Rattle.ags_budget.specs.declared.answers.Timed.{Timed}
use Rattle.ags_budget.specs.declared.answers.Timed.TheVariants.{Within, Unsafe, Over}
use Rattle.ags_cert.specs.Cert.{certificate_of}
use Rattle.ags_domain.specs.MeaningLaws.{value_lawful}
use Rattle.ags_domain.specs.Value.{value_meaning}
use Rattle.ags_ports.specs.Machine.{IsMachine}
use Rattle.ags_ports.specs.declared.machines.Machine.{Machine}
use Rattle.ags_times.proofs.MeaningLaws.{cycle_kept}
use Rattle.ags_program.specs.declared.status.Status.TheVariants.{Done}
use Rattle.ags_program.specs.Text.{timed_line, verdict_line}
use Rattle.ags_program.specs.Work.{timed_status}
use Rattle.ags_top.specs.Outcome.{IsBoundedOn}
use Rattle.ags_top.specs.ThirdFile.{text_of_times, IsJudgedWith}
use Rattle.ags_top.proofs.ThirdFileLemmas.{kept_with}

-- where it is done, the bounds are kept
module _ (machine : Machine) (source certificate times text : List ℕ) (valid : IsMachine machine)
    (its : IsJudgedWith text_of_times machine source certificate times text Done) where
  within : (rows cases greatest : ℕ) → IsTimed machine its.judgement.image (certificate_of its.cert) its.value (Within rows cases greatest)
      → text ≡ verdict_line its.judgement.verdict ++ timed_line (Within rows cases greatest) → IsBoundedOn machine source certificate times text
  within rows cases greatest is text_is =
      let image = its.judgement.image in
      let cert = certificate_of its.cert in
      let most = cycle_kept (length its.cert.rows) times its.value its.holds in
      kept_with text_of_times _ _ machine source certificate times text valid its rows cases (timed_line (Within rows cases greatest)) is.0
      (λ accepted all_safe. bounds_kept value_meaning value_lawful machine image cert its.value valid most
      (rows_in_time value_meaning value_lawful machine image cert its.value valid most is.1 accepted is.2) all_safe)
      (λ counted. (greatest, is.3, ap (λ (n : ℕ). timed_line (Within n cases greatest)) counted)) text_is

  by_timed : (timed : Timed) → IsTimed machine its.judgement.image (certificate_of its.cert) its.value timed → Done ≡ timed_status timed
      → text ≡ verdict_line its.judgement.verdict ++ timed_line timed → IsBoundedOn machine source certificate times text
  by_timed (Within rows cases greatest) is done text_is = within rows cases greatest is text_is
  by_timed (Unsafe told) is done text_is = absurd cc
  by_timed (Over row word x v next needs bound) is done text_is = absurd cc

  pub kept_where_done : IsBoundedOn machine source certificate times text
  kept_where_done = by_timed its.judgement.comes.timed its.judgement.comes.is_timed its.judgement.comes.status_is its.judgement.comes.text_is
