use Rattle.std.proofs.Common.{option_map, ap}
use Rattle.ags_run.specs.Play.{guard_of, is_play_fault}
use Rattle.ags_run.proofs.JoinLemmas.{unfailed}
use Rattle.ags_run.proofs.PlayedLemmas.{not_begun, no_write_fault}
use Rattle.ags_run.proofs.playing.play.Goals as goal

pub play_from_start-requires : goal.play_from_start-requires
play_from_start-requires g c = c.plays_are_sound.ensures.suits.locations

-- what the plays are is told of each at once, whatever this one comes to
pub returns-in-Ok : goal.returns-in-Ok
returns-in-Ok g c =
    let guard = guard_of (option_map (λ cert. cert.now) c.args.guard) in
    let facts = c.plays_are_sound.ensures in
    record {
      played = c.play_from_start.ensures.played c.args.machine.now guard c.in-Ok.ensures facts.machine facts.suits facts.commands;
      unplayed = c.play_from_start.ensures.unplayed c.args.machine.now guard c.in-Ok.ensures;
      declared = facts.declared;
      safe = facts.safe;
      write_fault = λ is. c.play_from_start.ensures.faults.cause (ap is_play_fault is);
      faults = c.play_from_start.ensures.faults;
    }

pub returns-in-Err : goal.returns-in-Err
returns-in-Err g c =
    record {
      played = tt;
      unplayed = not_begun c.args.machine.now c.args.image.now (guard_of (option_map (λ cert. cert.now) c.args.guard)) c.args.script.now (g.K.Sink.told c.args.out.now) c.plays_are_sound.ensures.machine;
      declared = c.plays_are_sound.ensures.declared;
      safe = c.plays_are_sound.ensures.safe;
      write_fault = λ is. absurd (no_write_fault is);
      faults = unfailed (g.K.Sink.faults c.args.out.now);
    }
