-- Words that are put. The proofs of `putting` cite:
--     set_met                  SET
--     feed_met, none_fed       a digit of the panel; the panel has none left
--     zero_fed, zero_none      the same in a cycle
--     registers_below          a register stands below 4096
use Rattle.std.proofs.Common.{◌≡◌, ℕ, ◌+◌, ◌<◌, List, [], ◌∷◌, refl, sym, ap, subst, ◌∙◌}
use Rattle.std.specs.Prelude.{◌%◌, ◌^◌, true, false, slice_get, Option, Some, None}
use Rattle.ags_deda.specs.declared.panels.Panel.{Panel}
use Rattle.ags_deda.specs.Happening.{Happening, Sent}
use Rattle.ags_deda.specs.Panel.{unsent}
use Rattle.ags_deda.specs.Standing.{StandsFor}
use Rattle.ags_domain.specs.declared.values.Value.{Value}
use Rattle.ags_play.specs.Act.{Puts, Feeds, FeedsWhereZero}
use Rattle.ags_play.specs.Bench as play
use Rattle.ags_play.specs.Doing.{PutWord, next_digit, wants_digit, panel_along}
use Rattle.ags_ports.specs.declared.events.Event.TheVariants as event
use Rattle.ags_ports.specs.declared.machines.Machine.{Machine}
use Rattle.ags_ports.specs.declared.registers.Port.{Port}
use Rattle.ags_ports.specs.State.{State}
use Rattle.ags_ports.specs.Step.{Steps}
use Rattle.ags_ports.specs.Port.{AreRegisters, position_of, held_port}
use Rattle.ags_ports.proofs.PortLemmas.{position_of-some}
use Rattle.ags_safe.specs.Certificate.{Certificate}
use Rattle.ags_run.specs.declared.benches.Bench.{Bench}
use Rattle.ags_run.specs.declared.listeners.Listener.{Listener}
use Rattle.ags_run.specs.Acted.{ActMade}
use Rattle.ags_run.specs.Making.{WordPut, WordMet, ActMet}
use Rattle.ags_run.specs.Standing.{StandsAs}
use Rattle.ags_run.proofs.ActLemmas.{at_stood, idle_panel, counted_none}
use Rattle.ags_run.proofs.JoinLemmas.{none_stopped, none_counted}

pub registers_below : (ports : List Port) (address position : ℕ) → AreRegisters ports → position_of ports address ≡ Some position → address < 4096
registers_below ports address position are found =
    let at = position_of-some ports address position (held_port 0) found in
    subst (λ (n : ℕ). n < 4096) at.1 (are.below position (held_port 0) at.0)

module _ (machine : Machine) (guard : Option (Certificate Value)) where
  put_panel : (address word : ℕ) (before after : Bench) (happenings : List Happening) (p : WordPut machine address word before after) → StandsFor before.listener.panel happenings
      → StandsFor after.listener.panel (panel_along machine happenings (record { report = p.report; after = after.core } ∷ []))
  put_panel address word before after happenings p stands = subst (λ (hs : List Happening). StandsFor after.listener.panel hs) (sym (idle_panel machine before.core p.report after.core happenings p.steps.0))
      (subst (λ (l : Listener). StandsFor l.panel happenings) (sym p.listener) stands)

  -- ---- SET

  set_made : (address word : ℕ) (before after : Bench) → WordPut machine address word before after → (b : play.Bench) → StandsAs before b → ActMade machine b (Puts address word) before after
  set_made address word before after p b stands = at_stood (λ (x : play.Bench). ActMade machine x (Puts address word) before after) before b stands (record {
    events = event.Put address word ∷ [];
    moments = record { report = p.report; after = after.core } ∷ [];
    does = record { makes = refl; run = (p.steps, tt) };
    stands = record { core = refl; panel = put_panel address word before after b.panel p stands.panel; carry = p.carry };
    counted = record { steps = counted_none before.listener.steps after.listener.steps before.listener.counted (ap (λ (l : Listener). l.steps) p.listener); puts = p.puts };
  })

  pub set_met : (address word : ℕ) (before after : Bench) (met : Option PutWord) → WordMet machine guard address word before after met
      → (b : play.Bench) → StandsAs before b → ActMet machine guard b (Puts address word) before after met
  set_met address word before after met p b stands = record { stopped = p.stopped; made = λ none. set_made address word before after (p.put none) b stands }

  -- ---- a digit of the panel

  next_is : (digits : List ℕ) → next_digit digits ≡ slice_get digits 0
  next_is [] = refl
  next_is (digit ∷ digits) = refl

  -- the panel's next digit is this one
  abbrev SendsNext : Panel → Option ℕ → Type 0
  SendsNext panel digit = (happenings : List Happening) → StandsFor panel happenings → digit ≡ slice_get (unsent happenings) 0

  next_sent : (panel : Panel) (digit : Option ℕ) (happenings : List Happening) → SendsNext panel digit → StandsFor panel happenings → next_digit (unsent happenings) ≡ digit
  next_sent panel digit happenings sends stands = next_is (unsent happenings) ∙ sym (sends happenings stands)

  -- nothing of a bench but its panel changed
  abbrev KeepsButPanel : Bench → Bench → Type 0
  KeepsButPanel before moved = (moved.core ≡ before.core) × (moved.listener.steps ≡ before.listener.steps) × (moved.carry ≡ before.carry) × (moved.puts ≡ before.puts)

  feed_made : (digit : ℕ) (before moved after : Bench) → KeepsButPanel before moved → SendsNext before.listener.panel (Some digit)
      → ((happenings : List Happening) → StandsFor before.listener.panel happenings → StandsFor moved.listener.panel (Sent digit ∷ happenings))
      → WordPut machine machine.deda_in (16 + digit) moved after → (b : play.Bench) → StandsAs before b → ActMade machine b Feeds before after
  feed_made digit before moved after keeps sends follows p b stands =
      let next = next_sent before.listener.panel (Some digit) b.panel sends stands.panel in
      at_stood (λ (x : play.Bench). ActMade machine x Feeds before after) before b stands (record {
        events = event.Put machine.deda_in (16 + digit) ∷ [];
        moments = record { report = p.report; after = after.core } ∷ [];
        does = record { makes = rw next refl; run = (subst (λ (s : State). Steps machine s (event.Put machine.deda_in (16 + digit)) p.report after.core) keeps.0 p.steps, tt) };
        stands = record {
          core = refl;
          panel = rw next (put_panel machine.deda_in (16 + digit) moved after (Sent digit ∷ b.panel) p (follows b.panel stands.panel));
          carry = p.carry ∙ keeps.2;
        };
        counted = record {
          steps = counted_none before.listener.steps after.listener.steps before.listener.counted (ap (λ (l : Listener). l.steps) p.listener ∙ keeps.1);
          puts = p.puts ∙ ap (λ (n : ℕ). (n + 1) % 2 ^ 64) keeps.3;
        };
      })

  pub feed_met : (digit : ℕ) (before moved after : Bench) (met : Option PutWord) → KeepsButPanel before moved → SendsNext before.listener.panel (Some digit)
      → ((happenings : List Happening) → StandsFor before.listener.panel happenings → StandsFor moved.listener.panel (Sent digit ∷ happenings)) → (word : ℕ) → word ≡ 16 + digit
      → WordMet machine guard machine.deda_in word moved after met → (b : play.Bench) → StandsAs before b → ActMet machine guard b Feeds before after met
  feed_met digit before moved after met keeps sends follows word word_is put b stands =
      let p = subst (λ (n : ℕ). WordMet machine guard machine.deda_in n moved after met) word_is put in
      let next = next_sent before.listener.panel (Some digit) b.panel sends stands.panel in
      record { stopped = rw next p.stopped; made = λ none. feed_made digit before moved after keeps sends follows (p.put none) b stands }

  pub none_fed : (before moved : Bench) → KeepsButPanel before moved → SendsNext before.listener.panel None → moved.listener.panel ≡ before.listener.panel
      → (b : play.Bench) → StandsAs before b → ActMet machine guard b Feeds before moved None
  none_fed before moved keeps sends same b stands =
      let next = next_sent before.listener.panel None b.panel sends stands.panel in
      record {
        stopped = rw next (none_stopped machine guard);
        made = λ _. record {
          events = [];
          moments = [];
          does = record { makes = rw next refl; run = tt };
          stands = record {
            core = keeps.0 ∙ stands.core;
            panel = rw next (subst (λ (panel : Panel). StandsFor panel b.panel) (sym same) stands.panel);
            carry = keeps.2 ∙ stands.carry;
          };
          counted = record {
            steps = counted_none before.listener.steps moved.listener.steps before.listener.counted keeps.1;
            puts = counted_none before.puts moved.puts before.counted keeps.3;
          };
        };
      }

  -- ---- in a cycle

  wants : (before : Bench) (b : play.Bench) → StandsAs before b → wants_digit machine b.core ≡ wants_digit machine before.core
  wants before b stands = at_stood (λ (x : play.Bench). wants_digit machine x.core ≡ wants_digit machine before.core) before b stands refl

  pub zero_fed : (before after : Bench) (met : Option PutWord) → wants_digit machine before.core ≡ true → (b : play.Bench) → StandsAs before b → ActMet machine guard b Feeds before after met
      → ActMet machine guard b FeedsWhereZero before after met
  zero_fed before after met zero b stands p =
      let yes = wants before b stands ∙ zero in
      record {
        stopped = rw yes p.stopped;
        made = λ none.
            let made = p.made none in
            record {
              events = made.events;
              moments = made.moments;
              does = record { makes = rw yes made.does.makes; run = made.does.run };
              stands = record { core = made.stands.core; panel = rw yes made.stands.panel; carry = made.stands.carry };
              counted = made.counted;
            };
      }

  pub zero_none : (before : Bench) → wants_digit machine before.core ≡ false → (b : play.Bench) → StandsAs before b → ActMet machine guard b FeedsWhereZero before before None
  zero_none before other b stands =
      let no = wants before b stands ∙ other in
      record {
        stopped = rw no (none_stopped machine guard);
        made = λ _. record {
          events = [];
          moments = [];
          does = record { makes = rw no refl; run = tt };
          stands = record { core = stands.core; panel = rw no stands.panel; carry = stands.carry };
          counted = none_counted before;
        };
      }
