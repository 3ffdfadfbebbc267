use Rattle.std.proofs.Common.{ℕ, ◌<◌, ◌≤◌, ◌∙◌, ap, arith, length, take_all}
use Rattle.std.proofs.lemmas.Result.{err_from_is_err_and}
use Rattle.ags_core.specs.Core.{cells_of}
use Rattle.ags_core.proofs.StartLemmas.{cells_more}
use Rattle.ags_core.proofs.cores.cells_of.Goals as goal

some_read : (location : ℕ) → 4096 ≤ location → 0 < location
some_read location all = omega (arith, all)

pub loop-location-preserved : goal.loop-location-preserved
loop-location-preserved c =
    let inside : c.loop-location.location < length c.args.image.now = rw c.word_at.ensures.image.whole c.loop-location-test.true in
    let pushed = rw c.word_at.ensures.word at c.in_ok-push.ensures.items in (
      pushed ∙ cells_more c.args.image.now c.loop-location.location c.loop-location.cells.items inside c.loop-location.invariant.0,
      λ _. c.word_at.ensures.image,
    )

pub loop-location-init : goal.loop-location-init
loop-location-init c = (c.new-cells.ensures.items, λ some. absurd (omega (arith, some)))

pub returns-in_err-push : goal.returns-in_err-push
returns-in_err-push c =
    let p = err_from_is_err_and c.from_residual.result c.from_residual.ensures.1 in
    rw p.1 (record { cells = tt; image = tt })

pub returns : goal.returns
returns c =
    let is = c.loop-location.invariant.1 (some_read c.loop-location.location c.loop-location-test.false) in
    record {
      cells = c.loop-location.invariant.0 ∙ ap cells_of (take_all c.loop-location.location c.args.image.now (rw is.whole c.loop-location-test.false));
      image = is;
    }
