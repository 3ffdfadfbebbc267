use Rattle.std.proofs.Common.{refl, subst}
use Rattle.std.specs.Prelude.{Option}
use Rattle.std.proofs.lemmas.Result.{on_ok_weaker, MatchResult-weaker}
use Rattle.ags_certtype.specs.Cert.{certificate_of}
use Rattle.ags_play.specs.Doing.{PutWord}
use Rattle.ags_drive.specs.Making.{WordGiven, put_from}
use Rattle.ags_drive.proofs.GiveLemmas.{next_read, word_ungiven}
use Rattle.ags_drive.proofs.feeding.give.Goals as goal

pub returns-in_default : goal.returns-in_default
returns-in_default g c = record { fitted = c.requires.fitted; given = tt; taken = tt; ungiven = refl; no_fault = refl }

pub returns : goal.returns
returns g c =
    let read = next_read _ c.feeds_at-feeds.result c.next_at-next.result c.feeds_at-feeds.ensures.feeds c.next_at-next.ensures.word in
    record {
      fitted = c.put_next.ensures.fitted;
      given = on_ok_weaker c.put_next.result (λ given. subst (λ (put : Option PutWord). WordGiven c.args.machine.now (certificate_of c.args.cert.now) c.args.bench.now c.put_next.new.bench put) read given) c.put_next.ensures.given;
      taken = on_ok_weaker c.put_next.result (λ given. c.next_at-next.ensures.rest) c.put_next.ensures.given;
      ungiven = MatchResult-weaker c.put_next.result c.put_next.ensures.stopped (λ x h. h)
          (λ met h. word_ungiven c.args.machine.now (certificate_of c.args.cert.now) _ _ c.args.position (put_from c.feeds_at-feeds.result c.next_at-next.result) met read c.next_at-next.ensures.rest h);
      no_fault = c.put_next.ensures.no_fault;
    }
