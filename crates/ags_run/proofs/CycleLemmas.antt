-- So many cycles, one after another. The proofs of `cycling` cite:
--     one_cycle, one_stopped           one cycle
--     cycles_more, cycles_stopped      a cycle after those before it
use Rattle.std.proofs.Common.{◌≡◌, ℕ, zero, suc, ◌+◌, ◌-◌, ◌<◌, List, [], ◌∷◌, ◌++◌, refl, ap, subst, ◌∙◌, arith}
use Rattle.std.specs.Prelude.{Option, Some, None}
use Rattle.ags_play.specs.Act.{Act, FeedsWhereZero, Pulses, RunsCycle, cycles}
use Rattle.ags_run.specs.declared.players.Player.{Player}
use Rattle.ags_run.specs.declared.players.StoppedWord.{StoppedWord}
use Rattle.ags_run.specs.Playing.{Acted, ActedUnder, PlayedActs}
use Rattle.ags_run.proofs.JoinLemmas.{plain_played, under_played, played_on, stopped_before}

-- the acts of one cycle
abbrev one : List Act
one = FeedsWhereZero ∷ Pulses ∷ RunsCycle ∷ []

cycles_end : (count : ℕ) → cycles count ++ one ≡ cycles (suc count)
cycles_end zero = refl
cycles_end (suc count) = ap (λ (acts : List Act). FeedsWhereZero ∷ Pulses ∷ RunsCycle ∷ acts) (cycles_end count)

cycles_next : (count : ℕ) → cycles count ++ one ≡ cycles (count + 1)
cycles_next count = let next : suc count ≡ count + 1 = omega arith in cycles_end count ∙ ap cycles next

-- cycles are those before one of them, that one, and those after it
cycles_cut : (early late : ℕ) → cycles early ++ (one ++ cycles late) ≡ cycles (suc (early + late))
cycles_cut zero late = let same : suc late ≡ suc (0 + late) = omega arith in ap cycles same
cycles_cut (suc early) late =
    let same : suc (suc (early + late)) ≡ suc (suc early + late) = omega arith in
    ap (λ (acts : List Act). FeedsWhereZero ∷ Pulses ∷ RunsCycle ∷ acts) (cycles_cut early late) ∙ ap cycles same

cycles_at : (early count : ℕ) → early < count → cycles early ++ (one ++ cycles (count - early - 1)) ≡ cycles count
cycles_at early count within =
    let same : suc (early + (count - early - 1)) ≡ count = omega (arith, within) in
    cycles_cut early (count - early - 1) ∙ ap cycles same

pub one_cycle : (before fed pulsed after : Player) → ActedUnder FeedsWhereZero before fed None → Acted Pulses fed pulsed → Acted RunsCycle pulsed after
    → (told : Option (List ℕ)) → PlayedActs (FeedsWhereZero ∷ Pulses ∷ RunsCycle ∷ []) told told before after None
one_cycle before fed pulsed after feeds pulses runs told =
    played_on (FeedsWhereZero ∷ []) (Pulses ∷ RunsCycle ∷ []) told told told before fed after None (under_played FeedsWhereZero told before fed None (λ b. refl) feeds)
    (played_on (Pulses ∷ []) (RunsCycle ∷ []) told told told fed pulsed after None (plain_played Pulses told fed pulsed (λ b. refl) (λ b. refl) pulses)
    (plain_played RunsCycle told pulsed after (λ b. refl) (λ b. refl) runs))

pub one_stopped : (before after : Player) (stopped : StoppedWord) → ActedUnder FeedsWhereZero before after (Some stopped)
    → (told : Option (List ℕ)) → PlayedActs (FeedsWhereZero ∷ Pulses ∷ RunsCycle ∷ []) told told before after (Some stopped)
one_stopped before after stopped stops told =
    stopped_before (FeedsWhereZero ∷ []) (Pulses ∷ RunsCycle ∷ []) told told before after stopped (under_played FeedsWhereZero told before after (Some stopped) (λ b. refl) stops)

pub cycles_more : (count : ℕ) (before between after : Player) → ((told : Option (List ℕ)) → PlayedActs (cycles count) told told before between None)
    → ((told : Option (List ℕ)) → PlayedActs (FeedsWhereZero ∷ Pulses ∷ RunsCycle ∷ []) told told between after None)
    → (told : Option (List ℕ)) → PlayedActs (cycles (count + 1)) told told before after None
cycles_more count before between after p q told =
    subst (λ (acts : List Act). PlayedActs acts told told before after None) (cycles_next count) (played_on (cycles count) one told told told before between after None (p told) (q told))

pub cycles_stopped : (early count : ℕ) (before between after : Player) (stopped : StoppedWord) → early < count → ((told : Option (List ℕ)) → PlayedActs (cycles early) told told before between None)
    → ((told : Option (List ℕ)) → PlayedActs (FeedsWhereZero ∷ Pulses ∷ RunsCycle ∷ []) told told between after (Some stopped))
    → (told : Option (List ℕ)) → PlayedActs (cycles count) told told before after (Some stopped)
cycles_stopped early count before between after stopped within p q told =
    let rest = cycles (count - early - 1) in
    subst (λ (acts : List Act). PlayedActs acts told told before after (Some stopped)) (cycles_at early count within)
    (played_on (cycles early) (one ++ rest) told told told before between after (Some stopped) (p told) (stopped_before one rest told told between after stopped (q told)))
