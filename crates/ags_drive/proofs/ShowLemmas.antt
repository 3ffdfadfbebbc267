-- Lines that show the machine or tell of a device, as acts. The proofs of `showing` and `leaving` cite:
--     shown_made, shown_unmade                         a line that shows the machine was sent, and a front of it was
--     detached_made, detached_unsent, detached_none    DETACH: its line was sent, it wasn't, and there is no such device
--     left_made, left_unsent, left_past                a line at the end: the same, and there is no device
use Rattle.std.proofs.Common.{◌≡◌, ℕ, ◌+◌, ◌^◌, ◌<◌, List, [], ◌∷◌, ◌++◌, length, refl, sym, ap, subst, ◌∙◌, IsSome}
use Rattle.std.specs.Prelude.{Option, Some, None, slice_get, codes}
use Rattle.ags_drive.specs.Act.{Act, ShowsReg, ShowsCell, ShowsOut, Detaches, ShowsDevice}
use Rattle.ags_drive.specs.Bench.{position_of_number, device_at, with_detached}
use Rattle.ags_drive.specs.Doing.{NoDevice, refused_detach, shown_text}
use Rattle.ags_drive.specs.Shown.{device_text, detached_line, left_line}
use Rattle.ags_device.specs.Devices.{without, plan_of, kept_of}
use Rattle.ags_device.specs.Record.{DeviceRecord, last_of}
use Rattle.ags_domain.specs.declared.values.Value.{Value}
use Rattle.ags_outside.specs.Sink.{appended, appended_nothing}
use Rattle.ags_ports.specs.declared.machines.Machine.{Machine}
use Rattle.ags_safe.specs.Certificate.{Certificate}
use Rattle.ags_drive.specs.declared.benches.Bench.{Bench}
use Rattle.ags_drive.specs.declared.drive_error.DriveError.{DriveError}
use Rattle.ags_drive.specs.declared.drive_error.DriveError.TheVariants as error
use Rattle.ags_drive.specs.Making.{ActMade, Made, Unmade, IsFrontSent}
use Rattle.ags_drive.specs.Standing.{bench_of}
use Rattle.ags_drive.proofs.JoinLemmas.{counted_none, act_made, act_refused, act_unsent}

module _ (machine : Machine) (cert : Certificate Value) (bench : Bench) (fits : bench.listener.steps < 2 ^ 64) where
  -- ---- the machine is shown

  reg_idle : (devices : List DeviceRecord) → ActMade machine cert ShowsReg bench bench devices devices
  reg_idle devices = record { through = refl; events = []; moments = []; does = record { makes = refl; run = tt }; words = tt; after_is = refl; counted = counted_none bench fits }

  cell_idle : (address : ℕ) (devices : List DeviceRecord) → ActMade machine cert (ShowsCell address) bench bench devices devices
  cell_idle address devices = record { through = refl; events = []; moments = []; does = record { makes = refl; run = tt }; words = tt; after_is = refl; counted = counted_none bench fits }

  out_idle : (address : ℕ) (devices : List DeviceRecord) → ActMade machine cert (ShowsOut address) bench bench devices devices
  out_idle address devices = record { through = refl; events = []; moments = []; does = record { makes = refl; run = tt }; words = tt; after_is = refl; counted = counted_none bench fits }

  -- a line of this text was sent, and a front of one was
  sent_made : (act : Act) (devices now : List DeviceRecord) (old new : Option (List ℕ)) (line : List ℕ) → ActMade machine cert act bench bench devices now → line ≡ shown_text machine (bench_of bench devices) act → new ≡ appended old line
      → Made machine cert (act ∷ []) old new bench bench devices now
  sent_made act devices now old new line p same sent = act_made machine cert act old new bench bench devices now p (sent ∙ ap (λ text. appended old text) same)

  front_unmade : (act : Act) (devices : List DeviceRecord) (old new : Option (List ℕ)) (line : List ℕ) (met : DriveError) → line ≡ shown_text machine (bench_of bench devices) act → IsFrontSent old new line met
      → Unmade machine cert (bench_of bench devices) (act ∷ []) old new devices met
  front_unmade act devices old new line met same front = act_unsent machine cert (bench_of bench devices) act old new met (subst (λ (text : List ℕ). IsFrontSent old new text met) same front)

  pub reg_made : (devices : List DeviceRecord) (old new : Option (List ℕ)) (line : List ℕ) → line ≡ shown_text machine (bench_of bench devices) ShowsReg → new ≡ appended old line → Made machine cert (ShowsReg ∷ []) old new bench bench devices devices
  reg_made devices old new line same sent = sent_made ShowsReg devices devices old new line (reg_idle devices) same sent

  pub reg_unmade : (devices : List DeviceRecord) (old new : Option (List ℕ)) (line : List ℕ) (met : DriveError) → line ≡ shown_text machine (bench_of bench devices) ShowsReg → IsFrontSent old new line met
      → Unmade machine cert (bench_of bench devices) (ShowsReg ∷ []) old new devices met
  reg_unmade devices old new line met same front = front_unmade ShowsReg devices old new line met same front

  pub cell_made : (address : ℕ) (devices : List DeviceRecord) (old new : Option (List ℕ)) (line : List ℕ) → line ≡ shown_text machine (bench_of bench devices) (ShowsCell address) → new ≡ appended old line
      → Made machine cert (ShowsCell address ∷ []) old new bench bench devices devices
  cell_made address devices old new line same sent = sent_made (ShowsCell address) devices devices old new line (cell_idle address devices) same sent

  pub cell_unmade : (address : ℕ) (devices : List DeviceRecord) (old new : Option (List ℕ)) (line : List ℕ) (met : DriveError) → line ≡ shown_text machine (bench_of bench devices) (ShowsCell address) → IsFrontSent old new line met
      → Unmade machine cert (bench_of bench devices) (ShowsCell address ∷ []) old new devices met
  cell_unmade address devices old new line met same front = front_unmade (ShowsCell address) devices old new line met same front

  pub out_made : (address : ℕ) (devices : List DeviceRecord) (old new : Option (List ℕ)) (line : List ℕ) → line ≡ shown_text machine (bench_of bench devices) (ShowsOut address) → new ≡ appended old line
      → Made machine cert (ShowsOut address ∷ []) old new bench bench devices devices
  out_made address devices old new line same sent = sent_made (ShowsOut address) devices devices old new line (out_idle address devices) same sent

  pub out_unmade : (address : ℕ) (devices : List DeviceRecord) (old new : Option (List ℕ)) (line : List ℕ) (met : DriveError) → line ≡ shown_text machine (bench_of bench devices) (ShowsOut address) → IsFrontSent old new line met
      → Unmade machine cert (bench_of bench devices) (ShowsOut address ∷ []) old new devices met
  out_unmade address devices old new line met same front = front_unmade (ShowsOut address) devices old new line met same front

  -- ---- a device leaves

  detach_through : (line number : ℕ) (o : Option DeviceRecord) → IsSome o → refused_detach line number o ≡ None
  detach_through line number None some = cc
  detach_through line number (Some d) some = refl

  line_of_detached : (number : ℕ) (o : Option DeviceRecord) → IsSome o
      → device_text (codes "DETACHED ") number (length (plan_of o)) (length (kept_of o)) (last_of (kept_of o)) ++ codes "\n" ≡ detached_line number o
  line_of_detached number None some = cc
  line_of_detached number (Some d) some = refl

  -- the line of the device at a position, with counts as they were taken
  detached_text : (devices : List DeviceRecord) (line number position left heard : ℕ) (last : Option ℕ) → position_of_number number ≡ Some position → IsSome (slice_get devices position)
      → left ≡ length (plan_of (slice_get devices position)) → heard ≡ length (kept_of (slice_get devices position)) → last ≡ last_of (kept_of (slice_get devices position))
      → device_text (codes "DETACHED ") number left heard last ++ codes "\n" ≡ shown_text machine (bench_of bench devices) (Detaches line number)
  detached_text devices line number position left heard last at some left_is heard_is last_is =
      ap (λ n. device_text (codes "DETACHED ") number n heard last ++ codes "\n") left_is ∙ ap (λ n. device_text (codes "DETACHED ") number (length (plan_of (slice_get devices position))) n last ++ codes "\n") heard_is
      ∙ ap (λ o. device_text (codes "DETACHED ") number (length (plan_of (slice_get devices position))) (length (kept_of (slice_get devices position))) o ++ codes "\n") last_is
      ∙ line_of_detached number (slice_get devices position) some ∙ ap (λ q. detached_line number (device_at devices q)) (sym at)

  pub detached_made : (devices now : List DeviceRecord) (line number position left heard : ℕ) (last : Option ℕ) (text : List ℕ) (old new : Option (List ℕ)) → position_of_number number ≡ Some position → IsSome (slice_get devices position)
      → left ≡ length (plan_of (slice_get devices position)) → heard ≡ length (kept_of (slice_get devices position)) → last ≡ last_of (kept_of (slice_get devices position))
      → text ≡ device_text (codes "DETACHED ") number left heard last ++ codes "\n" → new ≡ appended old text → now ≡ without devices position
      → Made machine cert (Detaches line number ∷ []) old new bench bench devices now
  detached_made devices now line number position left heard last text old new at some left_is heard_is last_is text_is sent gone =
      sent_made (Detaches line number) devices now old new text
      (record {
        through = ap (λ q. refused_detach line number (device_at devices q)) at ∙ detach_through line number (slice_get devices position) some;
        events = [];
        moments = [];
        does = record { makes = refl; run = tt };
        words = tt;
        after_is = ap (λ ds. bench_of bench ds) (gone ∙ ap (λ q. with_detached devices q) (sym at));
        counted = counted_none bench fits;
      })
      (text_is ∙ detached_text devices line number position left heard last at some left_is heard_is last_is) sent

  pub detached_unsent : (devices : List DeviceRecord) (line number position left heard : ℕ) (last : Option ℕ) (text : List ℕ) (old new : Option (List ℕ)) (met : DriveError) → position_of_number number ≡ Some position → IsSome (slice_get devices position)
      → left ≡ length (plan_of (slice_get devices position)) → heard ≡ length (kept_of (slice_get devices position)) → last ≡ last_of (kept_of (slice_get devices position))
      → text ≡ device_text (codes "DETACHED ") number left heard last ++ codes "\n" → IsFrontSent old new text met
      → Unmade machine cert (bench_of bench devices) (Detaches line number ∷ []) old new devices met
  detached_unsent devices line number position left heard last text old new met at some left_is heard_is last_is text_is front =
      front_unmade (Detaches line number) devices old new text met (text_is ∙ detached_text devices line number position left heard last at some left_is heard_is last_is) front

  pub detached_none : (devices : List DeviceRecord) (line number : ℕ) (told : Option (List ℕ)) → device_at devices (position_of_number number) ≡ None
      → Unmade machine cert (bench_of bench devices) (Detaches line number ∷ []) told told devices (error.NoDevice line number)
  detached_none devices line number told none =
      act_refused machine cert (bench_of bench devices) (Detaches line number) told devices (NoDevice line number) (ap (λ o. refused_detach line number o) none) refl

  -- ---- a device is left at the end

  line_of_left : (number : ℕ) (o : Option DeviceRecord) → IsSome o
      → device_text (codes "DEVICE ") number (length (plan_of o)) (length (kept_of o)) (last_of (kept_of o)) ++ codes "\n" ≡ left_line number o
  line_of_left number None some = cc
  line_of_left number (Some d) some = refl

  left_text : (devices : List DeviceRecord) (position left heard : ℕ) (last : Option ℕ) → IsSome (slice_get devices position)
      → left ≡ length (plan_of (slice_get devices position)) → heard ≡ length (kept_of (slice_get devices position)) → last ≡ last_of (kept_of (slice_get devices position))
      → device_text (codes "DEVICE ") (position + 1) left heard last ++ codes "\n" ≡ shown_text machine (bench_of bench devices) (ShowsDevice position)
  left_text devices position left heard last some left_is heard_is last_is =
      ap (λ n. device_text (codes "DEVICE ") (position + 1) n heard last ++ codes "\n") left_is ∙ ap (λ n. device_text (codes "DEVICE ") (position + 1) (length (plan_of (slice_get devices position))) n last ++ codes "\n") heard_is
      ∙ ap (λ o. device_text (codes "DEVICE ") (position + 1) (length (plan_of (slice_get devices position))) (length (kept_of (slice_get devices position))) o ++ codes "\n") last_is
      ∙ line_of_left (position + 1) (slice_get devices position) some

  left_idle : (devices : List DeviceRecord) (position : ℕ) → ActMade machine cert (ShowsDevice position) bench bench devices devices
  left_idle devices position = record { through = refl; events = []; moments = []; does = record { makes = refl; run = tt }; words = tt; after_is = refl; counted = counted_none bench fits }

  pub left_made : (devices : List DeviceRecord) (position left heard : ℕ) (last : Option ℕ) (text : List ℕ) (old new : Option (List ℕ)) → IsSome (slice_get devices position)
      → left ≡ length (plan_of (slice_get devices position)) → heard ≡ length (kept_of (slice_get devices position)) → last ≡ last_of (kept_of (slice_get devices position))
      → text ≡ device_text (codes "DEVICE ") (position + 1) left heard last ++ codes "\n" → new ≡ appended old text
      → Made machine cert (ShowsDevice position ∷ []) old new bench bench devices devices
  left_made devices position left heard last text old new some left_is heard_is last_is text_is sent =
      sent_made (ShowsDevice position) devices devices old new text (left_idle devices position) (text_is ∙ left_text devices position left heard last some left_is heard_is last_is) sent

  pub left_unsent : (devices : List DeviceRecord) (position left heard : ℕ) (last : Option ℕ) (text : List ℕ) (old new : Option (List ℕ)) (met : DriveError) → IsSome (slice_get devices position)
      → left ≡ length (plan_of (slice_get devices position)) → heard ≡ length (kept_of (slice_get devices position)) → last ≡ last_of (kept_of (slice_get devices position))
      → text ≡ device_text (codes "DEVICE ") (position + 1) left heard last ++ codes "\n" → IsFrontSent old new text met
      → Unmade machine cert (bench_of bench devices) (ShowsDevice position ∷ []) old new devices met
  left_unsent devices position left heard last text old new met some left_is heard_is last_is text_is front =
      front_unmade (ShowsDevice position) devices old new text met (text_is ∙ left_text devices position left heard last some left_is heard_is last_is) front

  pub left_past : (devices : List DeviceRecord) (position : ℕ) (told : Option (List ℕ)) → slice_get devices position ≡ None → Made machine cert (ShowsDevice position ∷ []) told told bench bench devices devices
  left_past devices position told none =
      act_made machine cert (ShowsDevice position) told told bench bench devices devices (left_idle devices position)
      (sym (appended_nothing told) ∙ ap (λ o. appended told (left_line (position + 1) o)) (sym none))
