-- What is said of edits.
use Rattle.std.proofs.Common.{◌≡◌, ℕ, ◌+◌, List, [], ◌∷◌, ◌++◌, Option, Some, None, refl, sym, ap, subst, ◌∙◌, inl, append_assoc, append-nil}
use Rattle.std.specs.Prelude.{All, Result, Ok, Err}
use Rattle.std.proofs.lemmas.List.Elements.{All-head, All-tail}
use Rattle.ags_cert.specs.Cert.{certificate_of}
use Rattle.ags_check.specs.Judging.{Judging}
use Rattle.ags_domain.specs.Value.{value_meaning}
use Rattle.ags_domain.specs.declared.values.Value.{Value}
use Rattle.ags_edits.specs.Text.{IsLawful}
use Rattle.ags_edits.specs.declared.edits.Edit.{Edit}
use Rattle.ags_image.specs.Image.{IsImage}
use Rattle.ags_outside.specs.declared.sending.SendError.{SendError}
use Rattle.ags_outside.specs.Sink.{appended, appended_nothing, appended_twice, WroteFront, front_in_first, front_in_second}
use Rattle.ags_plan.specs.Plan.{WorkAt}
use Rattle.ags_plan.specs.Saying.{Says, SaidInPart}
use Rattle.ags_ports.specs.Machine.{IsMachine}
use Rattle.ags_recheck.specs.Told.{AreTold, IsTold}
use Rattle.ags_recheck.specs.declared.telling.Told.{Told}
use Rattle.ags_recheck.specs.declared.telling.Told.TheVariants.{Made, NotMade}
use Rattle.ags_recheck.proofs.TellingLemmas.{image_stays, some_told, told_stays}
use Rattle.ags_verdict.specs.Verdict.{IsVerdict}
use Rattle.ags_verdict.specs.declared.verdicts.Verdict.{Verdict}
use Rattle.ags_program.specs.declared.status.Status.{Status}
use Rattle.ags_program.specs.declared.works.ReadPair.{ReadPair}
use Rattle.ags_program.specs.Program.{program}
use Rattle.ags_program.specs.Text.{edit_line, edit_lines, verdict_line}
use Rattle.ags_program.specs.Views.{IsReadSource, pair_of}
use Rattle.ags_program.specs.Work.{JudgePair, EditsBehind, edits_status, verdict_status}
use Rattle.ags_top.specs.Telling.{Tells, TellsInPart, TellsWhole, status_from, status_in_the_end, status_with}
use Rattle.ags_played.proofs.JudgeLemmas.{judged_in_part, judged_whole}

-- ---- one edit after the other

-- what is told of all edits, where this is told of those that are left
pub record GoesOn (start : Judging) (edits : List Edit) (before : Status) (lines : List ℕ) (after : Judging) (status : Status) : Type 0 where
  pub told : List Told
  pub are_told : AreTold start edits told after
  pub lines_are : edit_lines 1 told ≡ lines
  pub status_is : edits_status before told ≡ status

-- So many edits were told: the sink took their lines, and with what is told of those that are left it is what is told of all.
pub record Telling (start : Judging) (edits : List Edit) (before : Status) (left : List Edit) (number : ℕ) (now : Judging) (old new : Option (List ℕ)) (status : Option Status) : Type 0 where
  pub machine : IsMachine now.machine
  pub image : IsImage now.image
  pub lawful : All IsLawful left
  pub lines : List ℕ
  pub sent : new ≡ appended old lines
  pub goes : (more : List Told) (after : Judging) → AreTold now left more after
      → GoesOn start edits before (lines ++ edit_lines (number + 1) more) after (status_from status more)

pub telling_begins : (start : Judging) (edits : List Edit) (before : Status) (old : Option (List ℕ)) → IsMachine start.machine → IsImage start.image → All IsLawful edits
    → Telling start edits before edits 0 start old old (Some before)
telling_begins start edits before old machine image lawful = record {
  machine = machine;
  image = image;
  lawful = lawful;
  lines = [];
  sent = sym (appended_nothing old);
  goes = λ more after are. record { told = more; are_told = are; lines_are = refl; status_is = refl };
}

status_goes : (status : Option Status) (told : Told) (more : List Told) → status_from status (told ∷ more) ≡ status_from (status_with status told) more
status_goes (Some status) (Made verdict) more = refl
status_goes (Some status) (NotMade error) more = refl
status_goes None told more = refl

module _ (start : Judging) (edits : List Edit) (before : Status) (old : Option (List ℕ)) where
  module _ (first : Edit) (left : List Edit) (number next : ℕ) (next_is : next ≡ number + 1) (now then : Judging) (mid new : Option (List ℕ)) (status : Option Status) (told : Told)
      (so_far : Telling start edits before (first ∷ left) number now old mid status) (is : IsTold now first told then) where
    machine_still : IsMachine then.machine
    machine_still = subst IsMachine (sym (told_stays now then first told is)) so_far.machine

    image_still : IsImage then.image
    image_still = image_stays now then first told (All-head IsLawful first left so_far.lawful) so_far.image is

    -- what is told of all, where this is told of the rest
    goes_on : (more : List Told) (after : Judging) → AreTold then left more after
        → GoesOn start edits before (so_far.lines ++ (edit_line next told ++ edit_lines (next + 1) more)) after (status_from (status_with status told) more)
    goes_on more after are =
        let all = so_far.goes (told ∷ more) after (then, is, are) in
        record {
          told = all.told;
          are_told = all.are_told;
          lines_are = all.lines_are ∙ ap (λ (n : ℕ). so_far.lines ++ (edit_line n told ++ edit_lines (n + 1) more)) (sym next_is);
          status_is = all.status_is ∙ status_goes status told more;
        }

    -- its line was sent
    pub told_further : new ≡ appended mid (edit_line next told) → Telling start edits before left next then old new (status_with status told)
    told_further sent = record {
      machine = machine_still;
      image = image_still;
      lawful = All-tail IsLawful first left so_far.lawful;
      lines = so_far.lines ++ edit_line next told;
      sent = sent ∙ ap (λ (o : Option (List ℕ)). appended o (edit_line next told)) so_far.sent ∙ appended_twice old so_far.lines (edit_line next told);
      goes = λ more after are.
          let all = goes_on more after are in
          record {
            told = all.told;
            are_told = all.are_told;
            lines_are = all.lines_are ∙ sym (append_assoc so_far.lines (edit_line next told) (edit_lines (next + 1) more));
            status_is = all.status_is;
          };
    }

    -- a front of it was
    pub told_in_part : WroteFront mid new (edit_line next told) → TellsInPart start edits old new
    told_in_part front =
        let rest = some_told then left machine_still image_still (All-tail IsLawful first left so_far.lawful) in
        let all = goes_on rest.0 rest.1 rest.2 in
        record {
          told = all.told;
          after = rest.1;
          are_told = all.are_told;
          front = subst (λ (text : List ℕ). WroteFront old new text) (sym all.lines_are)
              (front_in_second so_far.lines (edit_line next told ++ edit_lines (next + 1) rest.0) so_far.sent
              (front_in_first (edit_line next told) (edit_lines (next + 1) rest.0) front));
        }

  -- none is left
  pub told_all : (number : ℕ) (now : Judging) (new : Option (List ℕ)) (status : Option Status) → Telling start edits before [] number now old new status
      → TellsWhole start edits before old new (status_in_the_end status)
  told_all number now new status so_far =
      let all = so_far.goes [] now refl in
      record {
        told = all.told;
        after = now;
        are_told = all.are_told;
        sent = so_far.sent ∙ ap (λ (text : List ℕ). appended old text) (sym (append-nil so_far.lines) ∙ sym all.lines_are);
        status_is = ended status ∙ sym all.status_is;
      }
    where
      ended : (s : Option Status) → status_in_the_end s ≡ status_from s []
      ended (Some s) = refl
      ended None = refl

-- ---- what is written

module _ (pair : ReadPair) (edits : List Edit) (old mid new : Option (List ℕ)) (verdict : Verdict Value) (read : IsReadSource pair.source)
    (is : IsVerdict value_meaning pair.machine pair.source.made.image (certificate_of pair.cert) verdict) where
  abbrev start : Judging
  start = record { machine = pair.machine; image = pair.source.made.image; cert = pair.cert }

  in_part : (text : List ℕ) (told : List Told) (after : Judging) → AreTold start edits told after → text ≡ verdict_line verdict ++ edit_lines 1 told → WroteFront old new text
      → SaidInPart program (WorkAt (JudgePair (pair_of pair) (EditsBehind edits))) old new
  in_part text told after are text_is front =
      judged_in_part pair (EditsBehind edits) verdict read is old new text (edits_status (verdict_status verdict) told)
      (record { told = told; after = after; are_told = are; text_is = text_is; status_is = refl }) front

  -- a front of the line of the verdict was sent
  pub line_said_in_part : IsMachine pair.machine → IsImage pair.source.made.image → All IsLawful edits → WroteFront old new (verdict_line verdict)
      → SaidInPart program (WorkAt (JudgePair (pair_of pair) (EditsBehind edits))) old new
  line_said_in_part machine image lawful front =
      let some = some_told start edits machine image lawful in
      in_part (verdict_line verdict ++ edit_lines 1 some.0) some.0 some.1 some.2 refl (front_in_first (verdict_line verdict) (edit_lines 1 some.0) front)

  -- the line of the verdict was sent, and then what comes of the edits, or a front of that
  pub edits_say : (result : Result Status SendError) → mid ≡ appended old (verdict_line verdict) → Tells start edits (verdict_status verdict) mid new result
      → Says program (WorkAt (JudgePair (pair_of pair) (EditsBehind edits))) old new result
  edits_say (Ok status) said tells =
      judged_whole pair (EditsBehind edits) verdict read is old new (verdict_line verdict ++ edit_lines 1 tells.told) status
      (record { told = tells.told; after = tells.after; are_told = tells.are_told; text_is = refl; status_is = tells.status_is })
      (tells.sent ∙ ap (λ (o : Option (List ℕ)). appended o (edit_lines 1 tells.told)) said ∙ appended_twice old (verdict_line verdict) (edit_lines 1 tells.told))
  edits_say (Err error) said tells =
      inl (in_part (verdict_line verdict ++ edit_lines 1 tells.told) tells.told tells.after tells.are_told refl
      (front_in_second (verdict_line verdict) (edit_lines 1 tells.told) said tells.front))
