use Rattle.std.proofs.Common.{◌≡◌, ◌++◌, append_assoc}
use Rattle.std.specs.String.{string_bytes}
use Rattle.std.specs.Prelude.{codes}
use Rattle.std.specs.Fmt.{decimal}
use Rattle.std.proofs.lemmas.Result.{IfOk-weaker}
use Rattle.ags_drive.specs.BenchRun.{RefusedAct}
use Rattle.ags_drive.specs.Doing.{NoDevice, NoFeed}
use Rattle.ags_benchjudged.specs.Met.{met_line}
use Rattle.ags_benchjudged.proofs.driving.met_line.Goals as goal

pub returns-in-NoDevice : goal.returns-in-NoDevice
returns-in-NoDevice c = rw c.in-NoDevice.is
    (IfOk-weaker c.format-in-NoDevice.result _ (λ line. string_bytes line ≡ met_line (RefusedAct (NoDevice c.in-NoDevice.line c.in-NoDevice.device))) (λ line is.
    let e : string_bytes line ≡ codes "NODEVICE LINE " ++ (decimal c.in-NoDevice.line ++ (codes " DEVICE " ++ (decimal c.in-NoDevice.device ++ codes "\n"))) = is in
    simp append_assoc e) c.format-in-NoDevice.ensures.ok)

pub returns-in-NoFeed : goal.returns-in-NoFeed
returns-in-NoFeed c = rw c.in-NoFeed.is
    (IfOk-weaker c.format-in-NoFeed.result _ (λ line. string_bytes line ≡ met_line (RefusedAct (NoFeed c.in-NoFeed.line c.in-NoFeed.device))) (λ line is.
    let e : string_bytes line ≡ codes "NOFEED LINE " ++ (decimal c.in-NoFeed.line ++ (codes " DEVICE " ++ (decimal c.in-NoFeed.device ++ codes "\n"))) = is in
    simp append_assoc e) c.format-in-NoFeed.ensures.ok)
