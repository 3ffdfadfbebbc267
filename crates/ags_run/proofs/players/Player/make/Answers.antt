use Rattle.std.proofs.Common.{refl}
use Rattle.ags_play.specs.Act as act
use Rattle.ags_run.proofs.CommandLemmas.{made_by_none}
use Rattle.ags_run.proofs.JoinLemmas.{none_played, plain_played, under_played}
use Rattle.ags_run.proofs.players.Player.make.Goals as goal

pub returns-in-Step : goal.returns-in-Step
returns-in-Step c = λ told. rw c.in-Step.is (plain_played (act.MakesSteps c.in-Step.count) told c.args.self.now c.step.new.self (λ b. refl) (λ b. refl) c.step.ensures)

pub returns-in-Pulse : goal.returns-in-Pulse
returns-in-Pulse c = λ told. rw c.in-Pulse.is (plain_played act.Pulses told c.args.self.now c.pulse.new.self (λ b. refl) (λ b. refl) c.pulse.ensures)

pub returns-in-Press : goal.returns-in-Press
returns-in-Press c = λ told. rw c.in-Press.is (plain_played (act.Presses c.in-Press.key) told c.args.self.now c.press.new.self (λ b. refl) (λ b. refl) c.press.ensures)

pub returns-in-Set : goal.returns-in-Set
returns-in-Set c = λ told. rw c.in-Set.is (under_played (act.Puts c.in-Set.address c.in-Set.word) told c.args.self.now c.set.new.self c.set.result (λ b. refl) c.set.ensures)

pub returns-in-Feed : goal.returns-in-Feed
returns-in-Feed c = λ told. rw c.in-Feed.is (under_played act.Feeds told c.args.self.now c.feed.new.self c.feed.result (λ b. refl) c.feed.ensures)

pub returns-in-Cycle : goal.returns-in-Cycle
returns-in-Cycle c = λ told. rw c.in-Cycle.is (c.run_cycles.ensures told)

pub returns-in_default : goal.returns-in_default
returns-in_default c = λ told. rw (made_by_none c.args.command.now c.in_default.not-Step c.in_default.not-Pulse c.in_default.not-Set c.in_default.not-Press c.in_default.not-Feed c.in_default.not-Cycle) (none_played told c.args.self.now)
