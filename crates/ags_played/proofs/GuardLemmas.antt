-- What is said of a script that was played under a certificate.
use Rattle.std.proofs.Common.{◌≡◌, ℕ, List, ◌++◌, Option, Some, refl, sym, ap, subst, ◌∙◌, append_assoc, inl}
use Rattle.std.specs.Prelude.{Result, Ok, Err, IfOk, OnOk, OnErr}
use Rattle.ags_cert.specs.Cert.{Stated, certificate_of}
use Rattle.ags_domain.specs.Value.{value_meaning}
use Rattle.ags_domain.specs.declared.values.Value.{Value}
use Rattle.ags_outside.specs.declared.sending.SendError.{SendError}
use Rattle.ags_outside.specs.Sink.{appended, appended_twice, WroteFront, front_in_first, front_in_second}
use Rattle.ags_plan.specs.Plan.{WorkAt}
use Rattle.ags_plan.specs.Saying.{Says, SaidWhole, SaidInPart}
use Rattle.ags_play.specs.Played.{Met}
use Rattle.ags_ports.specs.declared.machines.Machine.{Machine}
use Rattle.ags_ports.specs.Machine.{IsMachine}
use Rattle.ags_run.specs.Play.{PlayedTo, PlayedInPart}
use Rattle.ags_script.specs.declared.commands.Command.{Command}
use Rattle.ags_verdict.specs.Verdict.{IsVerdict}
use Rattle.ags_verdict.specs.declared.verdicts.Refusal.{Refusal}
use Rattle.ags_verdict.specs.declared.verdicts.Verdict.{Verdict}
use Rattle.ags_verdict.specs.declared.verdicts.Verdict.TheVariants.{Certified, Refused}
use Rattle.ags_program.specs.declared.status.Status.{Status}
use Rattle.ags_program.specs.declared.status.Status.TheVariants.{No}
use Rattle.ags_played.specs.Guarding.{Guards, GuardsWhole, GuardsInPart}
use Rattle.ags_program.specs.PlayLaws.{some_played}
use Rattle.ags_program.specs.Program.{program}
use Rattle.ags_program.specs.Text.{met_line, verdict_line}
use Rattle.ags_program.specs.declared.works.ReadPair.{ReadPair}
use Rattle.ags_program.specs.Views.{IsReadSource, pair_of}
use Rattle.ags_program.specs.Work.{JudgePair, PlayBehind, IsPlayedBy, met_status}
use Rattle.ags_played.proofs.JudgeLemmas.{judged_in_part, judged_whole}

-- ---- the play after the verdict

module _ (machine : Machine) (image : List (Option ℕ)) (cert : Stated) (commands : List Command) (old mid new : Option (List ℕ)) where
  -- a prefix of what the play shows was sent
  pub shown_in_part : PlayedInPart machine image (Some (certificate_of cert)) commands old new → GuardsInPart machine image cert commands old new
  shown_in_part played = record {
    events = played.events;
    shown = played.text;
    met = played.met;
    plays = played.plays;
    front = front_in_first played.text (met_line played.met) played.front;
  }

  -- what the play shows was sent, and what it met
  pub met_said : (met : Met) → PlayedTo machine image (Some (certificate_of cert)) commands old mid met → new ≡ appended mid (met_line met)
      → GuardsWhole machine image cert commands old new (met_status met)
  met_said met played sent = record {
    events = played.events;
    shown = played.text;
    met = met;
    plays = played.plays;
    sent = sent ∙ ap (λ (o : Option (List ℕ)). appended o (met_line met)) played.sent ∙ appended_twice old played.text (met_line met);
    status_is = refl;
  }

  -- what the play shows was sent, and a prefix of what it met
  pub met_in_part : (met : Met) → PlayedTo machine image (Some (certificate_of cert)) commands old mid met → WroteFront mid new (met_line met)
      → GuardsInPart machine image cert commands old new
  met_in_part met played front = record {
    events = played.events;
    shown = played.text;
    met = met;
    plays = played.plays;
    front = front_in_second played.text (met_line met) played.sent front;
  }

-- what comes of a play that met something, by how its line was sent
pub met_guards : (machine : Machine) (image : List (Option ℕ)) (cert : Stated) (commands : List Command) (old mid new : Option (List ℕ)) (met : Met) (result : Result Status SendError)
    → met_status met ≡ No → PlayedTo machine image (Some (certificate_of cert)) commands old mid met → IfOk result (λ (status : Status). status ≡ No)
    → OnOk result (new ≡ appended mid (met_line met)) → OnErr result (WroteFront mid new (met_line met)) → Guards machine image cert commands old new result
met_guards machine image cert commands old mid new met (Ok status) is played ended sent front =
    subst (GuardsWhole machine image cert commands old new) (is ∙ sym ended) (met_said machine image cert commands old mid new met played sent)
met_guards machine image cert commands old mid new met (Err error) is played ended sent front = met_in_part machine image cert commands old mid new met played front

-- ---- all that is written

-- a prefix of the line of a verdict is one of the text
verdict_front : (machine : Machine) (image : List (Option ℕ)) (cert : Stated) (commands : List Command) (old new : Option (List ℕ)) (verdict : Verdict Value) (text : List ℕ) (status : Status)
    → IsPlayedBy machine image cert commands verdict text status → WroteFront old new (verdict_line verdict) → WroteFront old new text
verdict_front machine image cert commands old new (Certified rows cases) text status played front =
    subst (λ (t : List ℕ). WroteFront old new t) (sym (played.text_is ∙ append_assoc (verdict_line (Certified rows cases)) played.shown (met_line played.met)))
    (front_in_first (verdict_line (Certified rows cases)) (played.shown ++ met_line played.met) front)
verdict_front machine image cert commands old new (Refused refusal) text status played front = subst (λ (t : List ℕ). WroteFront old new t) (sym played.0) front

module _ (pair : ReadPair) (commands : List Command) (old mid new : Option (List ℕ)) (read : IsReadSource pair.source) where
  -- what is said of the work
  abbrev SaidOf : Status → Type 0
  SaidOf status = SaidWhole program (WorkAt (JudgePair (pair_of pair) (PlayBehind commands))) old new status

  abbrev SaidOfIt : Type 0
  SaidOfIt = SaidInPart program (WorkAt (JudgePair (pair_of pair) (PlayBehind commands))) old new

  -- the verdict of the pair
  abbrev IsVerdictOf : Verdict Value → Type 0
  IsVerdictOf verdict = IsVerdict value_meaning pair.machine pair.source.made.image (certificate_of pair.cert) verdict

  -- a prefix of the line of the verdict was sent
  pub verdict_in_part : (verdict : Verdict Value) → IsMachine pair.machine → IsVerdictOf verdict → WroteFront old new (verdict_line verdict) → SaidOfIt
  verdict_in_part verdict machine_is is front =
      let (text, status, played) = some_played pair.machine pair.source.made.image pair.cert commands machine_is verdict in
      judged_in_part pair (PlayBehind commands) verdict read is old new text status played
      (verdict_front pair.machine pair.source.made.image pair.cert commands old new verdict text status played front)

  -- the line of a refusal was sent
  pub refusal_said : (refusal : Refusal Value) → IsVerdictOf (Refused refusal) → new ≡ appended old (verdict_line (Refused refusal)) → SaidOf No
  refusal_said refusal is sent = judged_whole pair (PlayBehind commands) (Refused refusal) read is old new (verdict_line (Refused refusal)) No (refl, refl) sent

  -- that it is certified was sent, and the play
  pub play_said : (rows cases : ℕ) (status : Status) → IsVerdictOf (Certified rows cases)
      → mid ≡ appended old (verdict_line (Certified rows cases)) → GuardsWhole pair.machine pair.source.made.image pair.cert commands mid new status → SaidOf status
  play_said rows cases status is certified guards =
      judged_whole pair (PlayBehind commands) (Certified rows cases) read is old new (verdict_line (Certified rows cases) ++ guards.shown ++ met_line guards.met) status
      (record { events = guards.events; shown = guards.shown; met = guards.met; plays = guards.plays; text_is = refl; status_is = guards.status_is })
      (guards.sent
      ∙ ap (λ (o : Option (List ℕ)). appended o (guards.shown ++ met_line guards.met)) certified
      ∙ appended_twice old (verdict_line (Certified rows cases)) (guards.shown ++ met_line guards.met)
      ∙ ap (λ (t : List ℕ). appended old t) (sym (append_assoc (verdict_line (Certified rows cases)) guards.shown (met_line guards.met))))

  -- that it is certified was sent, and a prefix of the play
  pub play_in_part : (rows cases : ℕ) → IsVerdictOf (Certified rows cases)
      → mid ≡ appended old (verdict_line (Certified rows cases)) → GuardsInPart pair.machine pair.source.made.image pair.cert commands mid new → SaidOfIt
  play_in_part rows cases is certified guards =
      judged_in_part pair (PlayBehind commands) (Certified rows cases) read is old new (verdict_line (Certified rows cases) ++ guards.shown ++ met_line guards.met) (met_status guards.met)
      (record { events = guards.events; shown = guards.shown; met = guards.met; plays = guards.plays; text_is = refl; status_is = refl })
      (subst (λ (t : List ℕ). WroteFront old new t) (sym (append_assoc (verdict_line (Certified rows cases)) guards.shown (met_line guards.met)))
      (front_in_second (verdict_line (Certified rows cases)) (guards.shown ++ met_line guards.met) certified guards.front))

  -- that it is certified was sent, and what comes of the play
  pub play_says : (rows cases : ℕ) (result : Result Status SendError) → IsVerdictOf (Certified rows cases)
      → mid ≡ appended old (verdict_line (Certified rows cases)) → Guards pair.machine pair.source.made.image pair.cert commands mid new result
      → Says program (WorkAt (JudgePair (pair_of pair) (PlayBehind commands))) old new result
  play_says rows cases (Ok status) is certified guards = play_said rows cases status is certified guards
  play_says rows cases (Err error) is certified guards = inl (play_in_part rows cases is certified guards)
