use Rattle.std.proofs.Common.{refl, sym, ◌∙◌, option_map}
use Rattle.ags_run.specs.Playing.{guard_in, put_of}
use Rattle.ags_run.proofs.PutLemmas.{zero_fed, zero_none}
use Rattle.ags_run.proofs.players.Player.feed_where_zero.Goals as goal

pub returns-then-wants_digit : goal.returns-then-wants_digit
returns-then-wants_digit c = record {
  keeps = c.feed.ensures.keeps;
  by_guard = λ b stands. zero_fed c.args.self.now.machine.now (guard_in c.args.self.now) c.args.self.now.bench c.feed.new.self.bench (option_map put_of c.feed.result) (sym c.wants_digit.ensures ∙ c.if-wants_digit.true)
      b stands (c.feed.ensures.by_guard b stands);
}

pub returns-else-wants_digit : goal.returns-else-wants_digit
returns-else-wants_digit c = record {
  keeps = record { machine = refl; guard = refl };
  by_guard = zero_none c.args.self.now.machine.now (guard_in c.args.self.now) c.args.self.now.bench (sym c.wants_digit.ensures ∙ c.if-wants_digit.false);
}
