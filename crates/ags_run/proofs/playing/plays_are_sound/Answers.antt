use Rattle.std.proofs.Common.{ℕ, ◌<◌, subst}
use Rattle.std.specs.Prelude.{Option}
use Rattle.ags_domain.specs.declared.values.Value.{Value}
use Rattle.ags_play.specs.Bench.{usual_location}
use Rattle.ags_play.proofs.RunOfLemmas.{play_is_run}
use Rattle.ags_play.proofs.SafeLemmas.{safe_where_cut}
use Rattle.ags_safe.specs.Certificate.{Certificate}
use Rattle.ags_run.proofs.playing.plays_are_sound.Goals as goal

pub returns-clause-suits : goal.returns-clause-suits
returns-clause-suits c = c.scripts_suit_their_machine.ensures c.args.machine.now c.args.script.now c.requires

pub returns-clause-declared : goal.returns-clause-declared
returns-clause-declared c = λ cert events text met guarded plays unmet.
    let suits = c.scripts_suit_their_machine.ensures c.args.machine.now c.args.script.now c.requires in
    play_is_run c.args.machine.now c.args.image.now cert c.args.script.now events text met c.get-image.ensures.image
    (subst (λ (guard : Option (Certificate Value)). usual_location guard < 4096) guarded (subst (λ (location : ℕ). location < 4096) c.usual_location-location.ensures.location c.usual_location-location.ensures.below))
    (record { locations = suits.locations; words = suits.words }) plays unmet

pub returns-clause-safe : goal.returns-clause-safe
returns-clause-safe c = λ cert events text met guarded plays unmet safe.
    let suits = c.scripts_suit_their_machine.ensures c.args.machine.now c.args.script.now c.requires in
    safe_where_cut c.args.machine.now c.args.image.now cert c.args.script.now events text met c.get-image.ensures.image
    (subst (λ (guard : Option (Certificate Value)). usual_location guard < 4096) guarded (subst (λ (location : ℕ). location < 4096) c.usual_location-location.ensures.location c.usual_location-location.ensures.below))
    (record { locations = suits.locations; words = suits.words }) plays unmet safe
