use Rattle.std.proofs.Common.{refl, option_map}
use Rattle.ags_run.specs.Playing.{guard_in, put_of}
use Rattle.ags_run.proofs.PutLemmas.{feed_met, none_fed}
use Rattle.ags_run.proofs.players.Player.feed.Goals as goal

pub returns-in-Some : goal.returns-in-Some
returns-in-Some c =
    let rules = c.put.ensures.keeps in
    record {
      keeps = record { machine = rules.machine; guard = rules.guard };
      by_guard = feed_met c.args.self.now.machine.now (guard_in c.args.self.now) c.in-Some.digit c.args.self.now.bench _ c.put.new.self.bench (option_map put_of c.put.result) (refl, refl, refl, refl)
          c.in-Some.ensures.answer c.in-Some.ensures.follows c.digit_word.result c.digit_word.ensures c.put.ensures.by_guard;
    }

pub returns-in-None : goal.returns-in-None
returns-in-None c = record {
  keeps = record { machine = refl; guard = refl };
  by_guard = none_fed c.args.self.now.machine.now (guard_in c.args.self.now) c.args.self.now.bench _ (refl, refl, refl, refl) c.in-None.ensures.answer c.in-None.ensures.same;
}
