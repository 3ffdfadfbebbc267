use Rattle.std.proofs.Common.{◌≡◌, ℕ, ◌≤◌, ◌<◌, List, map, length, ◌∙◌, refl, arith}
use Rattle.std.proofs.lemmas.Result.{err_from_is_err_and}
use Rattle.std.proofs.lemmas.List.{length-map}
use Rattle.ags_device.specs.Record.{DeviceRecord}
use Rattle.ags_device.specs.Devices.{IsHeardInPart, heard_below}
use Rattle.ags_device.proofs.ListLemmas.{heard_on, heard_whole}
use Rattle.ags_device.proofs.boxes.hear_all.Goals as goal

all_passed : (count position long : ℕ) → count ≤ position → count ≡ long → long ≤ position
all_passed count position long past is = omega (arith, past, is)

-- where a device didn't hear the word, those before it did
heard_part : {A : Type 0} (f : A → DeviceRecord) (address word position count : ℕ) (devices : List A) (now next : List DeviceRecord) → count ≡ length devices → position < count
    → now ≡ heard_below address word position (map f devices) → next ≡ now → IsHeardInPart address word (map f devices) next
heard_part f address word position count devices now next is below heard same = record {
  count = position;
  fewer = omega (arith, length-map devices f, is, below);
  records = same ∙ heard;
}

pub loop-position-preserved : goal.loop-position-preserved
loop-position-preserved g c = record {
  records = heard_on c.args.address c.args.word c.loop-position.position _ _ _ c.loop-position.invariant.records c.in_ok-hear_at.ensures.heard;
  length = c.hear_at.ensures.length ∙ c.loop-position.invariant.length;
}

pub loop-position-init : goal.loop-position-init
loop-position-init g c = record { records = refl; length = refl }

pub returns-in_err-hear_at : goal.returns-in_err-hear_at
returns-in_err-hear_at g c =
    let p = err_from_is_err_and c.from_residual.result c.from_residual.ensures.1 in
    rw p.1 (record {
      heard = tt;
      part = heard_part _ c.args.address c.args.word c.loop-position.position c.args.count c.args.devices.now.items _ _ c.requires c.loop-position-test.true
          c.loop-position.invariant.records c.in_err-hear_at.ensures.same;
      length = c.hear_at.ensures.length ∙ c.loop-position.invariant.length;
    })

pub returns : goal.returns
returns g c = record {
  heard = heard_whole _ c.args.address c.args.word c.loop-position.position _ _ c.loop-position.invariant.records (all_passed _ _ _ c.loop-position-test.false c.requires);
  part = tt;
  length = c.loop-position.invariant.length;
}
