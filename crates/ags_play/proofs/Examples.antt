-- Worked values of the definitions.
use Rattle.std.proofs.Common.{◌≡◌, [], ◌∷◌, ◌++◌, refl, sym, Some, None}
use Rattle.std.specs.Prelude.{codes, count_by, sum_by}
use Rattle.std.proofs.lemmas.List.{append-nil}
use Rattle.ags_deda.specs.declared.keys.Key.TheVariants.{Clr, ReadOut}
use Rattle.ags_deda.specs.Happening.{Pressed}
use Rattle.ags_ports.specs.declared.events.Event.TheVariants as event
use Rattle.ags_ports.specs.declared.events.Phase.TheVariants.{Running, Waiting}
use Rattle.ags_ports.specs.Machine.{standard_machine}
use Rattle.ags_script.specs.declared.commands.Command.TheVariants.{Port, Cycle, ShowReg, Press, Step}
use Rattle.ags_script.specs.Command.{step_count}
use Rattle.ags_play.specs.Act.{acts_of, MakesSteps, Presses, FeedsWhereZero, Pulses, RunsCycle, ShowsReg, ShowsDeda}
use Rattle.ags_play.specs.Bench.{Bench}
use Rattle.ags_play.specs.Counted.{is_step, is_put}
use Rattle.ags_play.specs.Cut.{PlaysInTurn}
use Rattle.ags_play.specs.Doing.{put_of_digit, digit_given, carry_in, deda_text}
use Rattle.ags_play.specs.Guard.{Place, Cell, Port as PortOutside}
use Rattle.ags_play.specs.OutsideText.{outside_text, put_text}
use Rattle.ags_play.specs.Played.{Plays}
use Rattle.ags_play.proofs.CutLemmas.{plays_on}
use Rattle.ags_text.specs.Numeral.{numeral}

-- a start word, two cycles, a line and two keys
acts : acts_of (Port 0o2001 0o1750 ∷ Cycle 2 ∷ ShowReg ∷ Press Clr ∷ Press ReadOut ∷ Step 3 ∷ [])
    ≡ FeedsWhereZero ∷ Pulses ∷ RunsCycle ∷ FeedsWhereZero ∷ Pulses ∷ RunsCycle ∷ ShowsReg ∷ Presses Clr ∷ Presses ReadOut ∷ MakesSteps 3 ∷ []
acts = refl

-- the digit 4 goes to 2200 as 24 octal
digit : put_of_digit standard_machine 4 ≡ record { address = 0o2200; word = 0o24 }
digit = refl

-- a word of 37 octal given to 6200 shows 15, and one given to 6001 shows nothing
shown : digit_given standard_machine (Some (record { address = 0o6200; word = 0o37 })) ≡ Some 15
shown = refl

unshown : digit_given standard_machine (Some (record { address = 0o6001; word = 0o37 })) ≡ None
unshown = refl

-- a cycle that ran 20,016 microseconds of 20,000, and one that waits
passed : carry_in Running 20000 20016 ≡ 16
passed = refl

waited : carry_in Waiting 20000 20016 ≡ 0
waited = refl

-- the lines
start_line : outside_text (Place 0o4001 0o4000) ≡ codes "OUTSIDE START 4001 4000"
unfolding numeral
start_line = refl

cell_line : outside_text (Cell 0o20 0o1751) ≡ codes "OUTSIDE CELL 0020 001751"
unfolding numeral
cell_line = refl

port_line : outside_text (PortOutside 0o2001 0o1751) ≡ codes "OUTSIDE PORT 2001 001751"
unfolding numeral
port_line = refl

put_line : put_text (record { address = 0o2001; word = 0o1751 }) ≡ codes "OUTSIDE IN 2001 001751"
unfolding numeral
put_line = refl

-- two steps and one word among four events, and what two cycles and three steps count for
steps : count_by is_step (event.Step ∷ event.Put 0o2001 0o1751 ∷ event.Pulse ∷ event.Step ∷ []) ≡ 2
steps = refl

puts : count_by is_put (event.Step ∷ event.Put 0o2001 0o1751 ∷ event.Pulse ∷ event.Step ∷ []) ≡ 1
puts = refl

counted : sum_by step_count (Port 0o2001 0o1750 ∷ Cycle 2 ∷ ShowReg ∷ Step 3 ∷ []) ≡ 40003
counted = refl

-- A key, and then the panel's line: the line shows the panel after the key. Cut between the two, the first prints nothing and
-- leaves that panel.
module _ (b : Bench) where
  abbrev pressed : Bench
  pressed = record { core = b.core; panel = Pressed Clr ∷ b.panel; carry = b.carry }

  key : Plays standard_machine None b (Presses Clr ∷ []) [] [] pressed None
  key = record {
    made = [];
    moments = [];
    does = record { makes = refl; run = tt };
    later = [];
    rest = [];
    events_are = refl;
    text_is = refl;
    goes_on = (refl, refl, refl, refl);
  }

  line : Plays standard_machine None pressed (ShowsDeda ∷ []) [] (deda_text (Pressed Clr ∷ b.panel) ++ codes "\n") pressed None
  line = record {
    made = [];
    moments = [];
    does = record { makes = refl; run = tt };
    later = [];
    rest = [];
    events_are = refl;
    text_is = sym (append-nil (deda_text (Pressed Clr ∷ b.panel) ++ codes "\n"));
    goes_on = (refl, refl, refl, refl);
  }

  both : Plays standard_machine None b (Presses Clr ∷ ShowsDeda ∷ []) [] (deda_text (Pressed Clr ∷ b.panel) ++ codes "\n") pressed None
  both = plays_on standard_machine None b pressed pressed (Presses Clr ∷ []) (ShowsDeda ∷ []) [] [] [] (deda_text (Pressed Clr ∷ b.panel) ++ codes "\n") None key line

  parts : PlaysInTurn standard_machine None b (Presses Clr ∷ []) (ShowsDeda ∷ []) [] (deda_text (Pressed Clr ∷ b.panel) ++ codes "\n") pressed None
  parts = record {
    early = [];
    moments = [];
    shown = [];
    mid = pressed;
    stopped = None;
    later = [];
    rest = deda_text (Pressed Clr ∷ b.panel) ++ codes "\n";
    events_are = refl;
    text_is = refl;
    plays = key;
    run = tt;
    ends = refl;
    goes_on = line;
  }
