-- With which devices a call leaves that came to a work, and what is said of it.
use Rattle.std.proofs.Common.{◌≡◌, ℕ, List, [], ◌∷◌, ◌++◌, length, Option, Some, None, refl, sym, ap, subst, ◌∙◌, inl, inr, append_assoc}
use Rattle.std.specs.Prelude.{Result, Ok, Err}
use Rattle.ags_asm.specs.Source.{placed_words}
use Rattle.ags_drive.specs.Act.{Act, acts_of_script}
use Rattle.ags_drive.specs.Bench.{Bench, start_bench}
use Rattle.ags_drive.specs.BenchRun.{Met, Nothing, OutsideStart, RefusedAct, IsBenchRun, acts_unless}
use Rattle.ags_drive.specs.Cut.{IsRunAtPoint}
use Rattle.ags_drive.specs.Driven.{AreBehind, DrivenInPart}
use Rattle.ags_drive.specs.Played.{IsPoint, Plays, next_text}
use Rattle.ags_drive.proofs.PointLemmas.{wrote_on_run}
use Rattle.ags_drive.proofs.RunOfLemmas.{run_of_bench, run_where_cut, nothing_is_run}
use Rattle.ags_benchscript.specs.declared.commands.BenchCommand.{BenchCommand}
use Rattle.ags_cert.specs.Cert.{certificate_of}
use Rattle.ags_device.specs.Record.{DeviceRecord}
use Rattle.ags_domain.specs.Value.{value_meaning}
use Rattle.ags_domain.specs.declared.values.Value.{Value}
use Rattle.ags_image.specs.Image.{IsImageOf}
use Rattle.ags_outside.specs.declared.sending.SendError.{SendError}
use Rattle.ags_outside.specs.declared.sending.SendError.TheVariants as send
use Rattle.ags_outside.specs.Sink.{appended, appended_twice, WroteFront, front_in_first, front_in_second}
use Rattle.ags_plan.specs.Plan.{WorkAt}
use Rattle.ags_plan.specs.Saying.{Says, SaidInPart, settled}
use Rattle.ags_plan.specs.Walk.{Agrees}
use Rattle.ags_play.specs.Guard.{Outside, IsFirstOutside}
use Rattle.ags_program.specs.Files.{Pair}
use Rattle.ags_program.specs.Text.{verdict_line}
use Rattle.ags_verdict.specs.Verdict.{IsVerdict}
use Rattle.ags_verdict.specs.declared.verdicts.Verdict.{Verdict}
use Rattle.ags_verdict.specs.declared.verdicts.Verdict.TheVariants.{Certified, Refused}
use Rattle.ags_program.specs.declared.status.Status.{Status}
use Rattle.ags_program.specs.declared.status.Status.TheVariants.{No}
use Rattle.ags_benchjudged.specs.Driving.{RunMet, MetInPart, Runs, AfterVerdict, StoppedBefore, Benches}
use Rattle.ags_bench.specs.Outcome.{Call, EndsSo, IsCertified, DroveTo, IsSent, IsSentInPart, DroveInPart, IsOpening, Undriven, Leaves}
use Rattle.ags_bench.specs.Program.{program}
use Rattle.ags_bench.specs.ProgramLaws.{some_coming}
use Rattle.ags_benchjudged.specs.Met.{met_line, met_status}
use Rattle.ags_bench.specs.Work.{DrivePair, IsBenchOf, ComesOfVerdict}
use Rattle.ags_bench.proofs.CertifiedLemmas.{pair_read, certified, rows_are, start_below}

-- of no acts, nothing is made
nothing_made : (done rest : List Act) → [] ≡ done ++ rest → done ≡ []
nothing_made [] rest is = refl
nothing_made (act ∷ done) rest is = absurd cc

module _ (call : Call) (pair : Pair) (lines : List (ℕ × BenchCommand)) (ends : EndsSo Agrees call (WorkAt (DrivePair pair lines))) (image : List (Option ℕ))
    (image_is : IsImageOf (placed_words pair.assembly.defined) image) where
  -- what is said of the work
  abbrev pub SaysOf : Result Status SendError → Type 0
  SaysOf ended = Says (program call.devices) (WorkAt (DrivePair pair lines)) call.old call.new ended

  -- a text and a status that come of a verdict are those of the work
  bench_of_verdict : (verdict : Verdict Value) → IsVerdict value_meaning pair.machine image (certificate_of pair.cert) verdict → (text : List ℕ) (status : Status)
      → ComesOfVerdict pair.machine image pair.cert call.devices lines verdict text status → IsBenchOf call.devices pair lines text status
  bench_of_verdict verdict is text status comes = record { image = image; image_is = image_is; verdict = verdict; is_verdict = is; comes = comes }

  -- ---- where the certificate is certified

  module _ (cases : ℕ) (is : IsVerdict value_meaning pair.machine image (certificate_of pair.cert) (Certified (length pair.cert.rows) cases)) where
    abbrev is_certified : IsCertified call
    is_certified = certified call pair lines ends image image_is cases is

    abbrev line : List ℕ
    line = verdict_line (Certified (length pair.cert.rows) cases)

    -- the run met that
    drove_to : (met : Met) (Had : (shown last : List ℕ) → Type 0) (Sent : (printed last : List ℕ) → Type 0)
        → ((shown last : List ℕ) → Had shown last → Sent (line ++ shown) last)
        → RunMet pair.machine image pair.cert call.devices lines call.devices_now met Had → DroveTo call met Sent
    unfolding certified
    drove_to met Had Sent sends run = record {
      certified = is_certified;
      events = run.events;
      shown = run.shown;
      runs = run.runs;
      declared = λ unmet. run_of_bench pair.machine image (certificate_of pair.cert) call.devices image_is.is_image (start_below call pair lines ends image image_is)
          lines run.events run.shown call.devices_now met run.words run.runs unmet;
      nothing = λ outside same.
          let none = nothing_is_run pair.machine image (certificate_of pair.cert) call.devices lines run.events run.shown call.devices_now outside
          (subst (λ (m : Met). IsBenchRun pair.machine image (certificate_of pair.cert) call.devices lines run.events run.shown call.devices_now m) same run.runs) in
          (none.0, none.1);
      sent = sends run.shown (met_line met) run.sent;
    }

    -- all of it was sent
    all_sent : (shown last : List ℕ) → call.new ≡ appended (appended call.old line) (shown ++ last) → IsSent call (line ++ shown) last
    all_sent shown last sent = sent ∙ appended_twice call.old line (shown ++ last) ∙ ap (appended call.old) (sym (append_assoc line shown last))

    -- or not all of the last line
    last_in_part : (shown last : List ℕ) → WroteFront (appended (appended call.old line) shown) call.new last → IsSentInPart call (line ++ shown) last
    last_in_part shown last front = subst (λ (o : Option (List ℕ)). WroteFront o call.new last) (appended_twice call.old line shown) front

    -- the run was stopped at a point of it
    module _ (Stands : (first point : List DeviceRecord) → Type 0) (part : DrivenInPart pair.machine image (certificate_of pair.cert) call.devices lines (appended call.old line) call.new Stands) where
      abbrev first : Bench
      first = start_bench pair.machine image (certificate_of pair.cert) call.devices

      abbrev acts : List Act
      acts = acts_of_script (length call.devices) lines

      inside : (found : Option Outside) → IsFirstOutside pair.machine image (certificate_of pair.cert) first.core found
          → IsPoint pair.machine (certificate_of pair.cert) first (acts_unless found acts) part.events part.text part.here part.done part.rest
          → found ≡ None → IsRunAtPoint pair.machine image (certificate_of pair.cert) first part.events part.here
      inside None tested point same =
          run_where_cut pair.machine image (certificate_of pair.cert) call.devices image_is.is_image (start_below call pair lines ends image image_is) acts tested
          part.events part.text part.here part.done part.rest point part.words
      inside (Some outside) tested point same = absurd cc

      made_of_none : (done : List Act) → done ≡ [] → Plays pair.machine (certificate_of pair.cert) first done part.events part.text part.here → (part.events ≡ []) × (part.text ≡ [])
      made_of_none [] none plays = (plays.0, plays.1)
      made_of_none (act ∷ done) none plays = absurd cc

      elsewhere : (found : Option Outside) (outside : Outside)
          → IsPoint pair.machine (certificate_of pair.cert) first (acts_unless found acts) part.events part.text part.here part.done part.rest
          → found ≡ Some outside → (part.events ≡ []) × (part.text ≡ [])
      elsewhere None outside point same = absurd cc
      elsewhere (Some there) outside point same = made_of_none part.done (nothing_made part.done part.rest point.acts_are) point.plays

      drove_in_part : DroveInPart call Stands
      unfolding certified
      drove_in_part = record {
        certified = is_certified;
        events = part.events;
        text = part.text;
        here = part.here;
        done = part.done;
        rest = part.rest;
        point = part.point;
        declared = λ same. inside part.point.found part.point.tested part.point.point same;
        nothing = λ outside same. elsewhere part.point.found outside part.point.point same;
        records = part.records;
        front = subst (λ (o : Option (List ℕ)). WroteFront o call.new (next_text pair.machine part.here part.rest)) (appended_twice call.old line part.text) part.front;
      }

      -- what is said of it is a front of the text of the work
      part_said : SaidInPart (program call.devices) (WorkAt (DrivePair pair lines)) call.old call.new
      part_said =
          let whole = wrote_on_run pair.machine image (certificate_of pair.cert) call.devices lines (pair_read call pair lines ends).valid part.events part.text part.here part.done part.rest
          (appended call.old line) call.new part.point part.front in
          record {
            text = line ++ (whole.text ++ met_line whole.met);
            status = met_status whole.met;
            comes = bench_of_verdict (Certified (length pair.cert.rows) cases) is (line ++ (whole.text ++ met_line whole.met)) (met_status whole.met)
                (record { events = whole.events; shown = whole.text; now = whole.last; met = whole.met; runs = whole.runs; text_is = refl; status_is = refl });
            prefix = front_in_second line (whole.text ++ met_line whole.met) refl (front_in_first whole.text (met_line whole.met) whole.front);
          }

    -- ---- with which devices

    met_leaves : (met : Met) → DroveTo call met (IsSent call) → Leaves (met_status met) call
    met_leaves Nothing drove = drove
    met_leaves (OutsideStart outside) drove = inr (OutsideStart outside, (λ same. absurd cc), drove)
    met_leaves (RefusedAct refusal) drove = inr (RefusedAct refusal, (λ same. absurd cc), drove)

    runs_leave : (ended : Result Status SendError) → Runs pair.machine image pair.cert call.devices lines (appended call.old line) call.new call.devices_now ended
        → Leaves (settled (program []) ended) call
    runs_leave (Ok status) (met, same, run) =
        subst (λ (s : Status). Leaves s call) (sym same)
        (met_leaves met (drove_to met (λ shown last. call.new ≡ appended (appended call.old line) (shown ++ last)) (IsSent call) all_sent run))
    runs_leave (Err send.WriteFault) (inl part) = inr (inl (drove_in_part (λ first point. call.devices_now ≡ point) part))
    runs_leave (Err send.WriteFault) (inr (met, run)) =
        inr (inr (met, drove_to met (λ shown last. WroteFront (appended (appended call.old line) shown) call.new last) (IsSentInPart call) last_in_part run))
    runs_leave (Err send.NoMemory) (inl part) = inr (inl (drove_in_part (λ first point. AreBehind first call.devices_now point) part))
    runs_leave (Err send.NoMemory) (inr (met, run)) =
        inr (inr (met, drove_to met (λ shown last. WroteFront (appended (appended call.old line) shown) call.new last) (IsSentInPart call) last_in_part run))

    -- ---- what is said

    runs_say : (ended : Result Status SendError) → Runs pair.machine image pair.cert call.devices lines (appended call.old line) call.new call.devices_now ended → SaysOf ended
    runs_say (Ok status) (met, same, run) = record {
      text = line ++ (run.shown ++ met_line met);
      comes = bench_of_verdict (Certified (length pair.cert.rows) cases) is (line ++ (run.shown ++ met_line met)) status
          (record { events = run.events; shown = run.shown; now = call.devices_now; met = met; runs = run.runs; text_is = refl; status_is = same });
      sent = run.sent ∙ appended_twice call.old line (run.shown ++ met_line met);
    }
    runs_say (Err send.WriteFault) (inl part) = inl (part_said (λ first point. call.devices_now ≡ point) part)
    runs_say (Err send.NoMemory) (inl part) = inl (part_said (λ first point. AreBehind first call.devices_now point) part)
    runs_say (Err send.WriteFault) (inr met) = inl (met_said met)
      where
        met_said : MetInPart pair.machine image pair.cert call.devices lines (appended call.old line) call.new call.devices_now
            → SaidInPart (program call.devices) (WorkAt (DrivePair pair lines)) call.old call.new
        met_said (met, run) = record {
          text = line ++ (run.shown ++ met_line met);
          status = met_status met;
          comes = bench_of_verdict (Certified (length pair.cert.rows) cases) is (line ++ (run.shown ++ met_line met)) (met_status met)
              (record { events = run.events; shown = run.shown; now = call.devices_now; met = met; runs = run.runs; text_is = refl; status_is = refl });
          prefix = front_in_second line (run.shown ++ met_line met) refl (front_in_second run.shown (met_line met) refl run.sent);
        }
    runs_say (Err send.NoMemory) (inr met) = inl (met_said met)
      where
        met_said : MetInPart pair.machine image pair.cert call.devices lines (appended call.old line) call.new call.devices_now
            → SaidInPart (program call.devices) (WorkAt (DrivePair pair lines)) call.old call.new
        met_said (met, run) = record {
          text = line ++ (run.shown ++ met_line met);
          status = met_status met;
          comes = bench_of_verdict (Certified (length pair.cert.rows) cases) is (line ++ (run.shown ++ met_line met)) (met_status met)
              (record { events = run.events; shown = run.shown; now = call.devices_now; met = met; runs = run.runs; text_is = refl; status_is = refl });
          prefix = front_in_second line (run.shown ++ met_line met) refl (front_in_second run.shown (met_line met) refl run.sent);
        }

  -- ---- whatever the verdict is

  -- the line of the verdict is the first that is written
  opening : (verdict : Verdict Value) → IsVerdict value_meaning pair.machine image (certificate_of pair.cert) verdict → IsOpening call (verdict_line verdict)
  opening verdict is = record { end = WorkAt (DrivePair pair lines); ends = ends; opens = (image, image_is, (verdict, is, refl)) }

  undriven : (verdict : Verdict Value) → IsVerdict value_meaning pair.machine image (certificate_of pair.cert) verdict
      → StoppedBefore pair.machine image pair.cert call.devices lines verdict call.old call.new call.devices_now → Undriven call
  undriven verdict is stopped = record { records = stopped.records; front = inr (verdict_line verdict, opening verdict is, stopped.front) }

  after_leaves : (verdict : Verdict Value) (ended : Result Status SendError) → IsVerdict value_meaning pair.machine image (certificate_of pair.cert) verdict
      → AfterVerdict pair.machine image pair.cert call.devices lines verdict (appended call.old (verdict_line verdict)) call.new call.devices_now ended
      → Leaves (settled (program []) ended) call
  after_leaves (Certified rows cases) ended is after =
      let same = rows_are call pair lines ends image image_is rows cases is in
      runs_leave cases (subst (λ (n : ℕ). IsVerdict value_meaning pair.machine image (certificate_of pair.cert) (Certified n cases)) same is) ended
      (subst (λ (n : ℕ). Runs pair.machine image pair.cert call.devices lines (appended call.old (verdict_line (Certified n cases))) call.new call.devices_now ended) same after)
  after_leaves (Refused refusal) ended is (answered, sent, records) =
      subst (λ (e : Result Status SendError). Leaves (settled (program []) e) call) (sym answered)
      (inl (record { pair = pair; lines = lines; comes = ends; image = image; image_is = image_is; refusal = refusal; verdict = is; sent = sent }, records))

  pub leaves : (verdict : Verdict Value) (ended : Result Status SendError) → IsVerdict value_meaning pair.machine image (certificate_of pair.cert) verdict
      → Benches pair.machine image pair.cert call.devices lines verdict call.old call.new call.devices_now ended → Leaves (settled (program []) ended) call
  leaves verdict (Ok status) is after = after_leaves verdict (Ok status) is after
  leaves verdict (Err send.WriteFault) is (inl before) = inl (undriven verdict is before)
  leaves verdict (Err send.NoMemory) is (inl before) = inl (undriven verdict is before)
  leaves verdict (Err fault) is (inr after) = after_leaves verdict (Err fault) is after

  -- a front of the line of the verdict is one of the text
  verdict_front : (verdict : Verdict Value) (text : List ℕ) (status : Status) → ComesOfVerdict pair.machine image pair.cert call.devices lines verdict text status
      → WroteFront call.old call.new (verdict_line verdict) → WroteFront call.old call.new text
  verdict_front (Certified rows cases) text status comes front =
      subst (λ (t : List ℕ). WroteFront call.old call.new t) (sym comes.text_is) (front_in_first (verdict_line (Certified rows cases)) (comes.shown ++ met_line comes.met) front)
  verdict_front (Refused refusal) text status comes front = subst (λ (t : List ℕ). WroteFront call.old call.new t) (sym comes.0) front

  before_says : (verdict : Verdict Value) → IsVerdict value_meaning pair.machine image (certificate_of pair.cert) verdict
      → StoppedBefore pair.machine image pair.cert call.devices lines verdict call.old call.new call.devices_now
      → SaidInPart (program call.devices) (WorkAt (DrivePair pair lines)) call.old call.new
  before_says verdict is stopped =
      let (text, status, comes) = some_coming pair.machine image pair.cert call.devices lines (pair_read call pair lines ends).valid verdict in
      record { text = text; status = status; comes = bench_of_verdict verdict is text status comes; prefix = verdict_front verdict text status comes stopped.front }

  after_says : (verdict : Verdict Value) (ended : Result Status SendError) → IsVerdict value_meaning pair.machine image (certificate_of pair.cert) verdict
      → AfterVerdict pair.machine image pair.cert call.devices lines verdict (appended call.old (verdict_line verdict)) call.new call.devices_now ended → SaysOf ended
  after_says (Certified rows cases) ended is after =
      let same = rows_are call pair lines ends image image_is rows cases is in
      runs_say cases (subst (λ (n : ℕ). IsVerdict value_meaning pair.machine image (certificate_of pair.cert) (Certified n cases)) same is) ended
      (subst (λ (n : ℕ). Runs pair.machine image pair.cert call.devices lines (appended call.old (verdict_line (Certified n cases))) call.new call.devices_now ended) same after)
  after_says (Refused refusal) ended is (answered, sent, records) =
      subst SaysOf (sym answered) (record { text = verdict_line (Refused refusal); comes = bench_of_verdict (Refused refusal) is (verdict_line (Refused refusal)) No (refl, refl); sent = sent })

  pub says : (verdict : Verdict Value) (ended : Result Status SendError) → IsVerdict value_meaning pair.machine image (certificate_of pair.cert) verdict
      → Benches pair.machine image pair.cert call.devices lines verdict call.old call.new call.devices_now ended → SaysOf ended
  says verdict (Ok status) is after = after_says verdict (Ok status) is after
  says verdict (Err fault) is (inl before) = inl (before_says verdict is before)
  says verdict (Err fault) is (inr after) = after_says verdict (Err fault) is after
