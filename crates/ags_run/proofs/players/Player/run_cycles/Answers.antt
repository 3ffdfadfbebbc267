use Rattle.std.proofs.Common.{◌≡◌, ℕ, List, subst, arith}
use Rattle.std.specs.Prelude.{Option, None}
use Rattle.ags_play.specs.Act.{cycles}
use Rattle.ags_run.specs.Playing.{PlayedActs}
use Rattle.ags_run.proofs.CycleLemmas.{cycles_more, cycles_stopped}
use Rattle.ags_run.proofs.JoinLemmas.{none_played}
use Rattle.ags_run.proofs.players.Player.run_cycles.Goals as goal

pub loop-init : goal.loop-init
loop-init c = λ told. none_played told c.args.self.now

pub returns-in-Some : goal.returns-in-Some
returns-in-Some c = cycles_stopped c.loop.counter c.args.count c.args.self.now c.loop.self c.run_one.new.self c.in-Some.stopped c.loop-test.true c.loop.invariant c.in-Some.ensures

pub loop-preserved : goal.loop-preserved
loop-preserved c = cycles_more c.loop.counter c.args.self.now c.loop.self c.run_one.new.self c.loop.invariant c.in_default.ensures

pub returns : goal.returns
returns c =
    let all : c.loop.counter ≡ c.args.count = omega arith in
    subst (λ (count : ℕ). (told : Option (List ℕ)) → PlayedActs (cycles count) told told c.args.self.now c.loop.self None) all c.loop.invariant
