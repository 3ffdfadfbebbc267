-- A line that shows something. The proofs of `showing` cite:
--     reg_shown, cell_shown, out_shown, deda_shown     it is the text of an act that only shows
--     shown_whole, shown_in_part                       such a text was sent, or a front of it
use Rattle.std.proofs.Common.{◌≡◌, ℕ, List, [], ◌∷◌, ◌++◌, refl, sym, ap, subst, ◌∙◌}
use Rattle.std.specs.Prelude.{codes, Option, None}
use Rattle.ags_deda.specs.Happening.{Happening}
use Rattle.ags_deda.specs.Standing.{StandsFor}
use Rattle.ags_outside.specs.Sink.{appended, WroteFront}
use Rattle.ags_play.specs.Act.{Act, ShowsReg, ShowsCell, ShowsOut, ShowsDeda}
use Rattle.ags_play.specs.Bench as play
use Rattle.ags_play.specs.Doing.{Makes, put_by, bench_after, shown_text, deda_text}
use Rattle.ags_play.specs.Shown.{reg_text, cell_text, output_text}
use Rattle.ags_ports.specs.Port.{position_of, register_at}
use Rattle.ags_ports.specs.State.{cell}
use Rattle.ags_run.specs.declared.players.Player.{Player}
use Rattle.ags_run.specs.Playing.{guard_in, Acted, PlayedActs, InPart}
use Rattle.ags_run.specs.Standing.{StandsAs}
use Rattle.ags_run.proofs.ActLemmas.{at_stood}
use Rattle.ags_run.proofs.JoinLemmas.{none_stopped, none_counted, act_in_part, keeps_same, made_played}

module _ (player : Player) where
  -- This is the text of an act that puts nothing, makes no event and leaves the bench as it is.
  pub record IsShown (act : Act) (text : List ℕ) : Type 0 where
    pub puts_none : (b : play.Bench) → put_by player.machine.now b act ≡ None
    pub makes : (b : play.Bench) → Makes player.machine.now b act [] []
    pub same : (b : play.Bench) → bench_after player.machine.now b act [] ≡ b
    pub text_is : (b : play.Bench) → StandsAs player.bench b → text ≡ shown_text player.machine.now b act

  acted : (act : Act) (text : List ℕ) → IsShown act text → Acted act player player
  acted act text shown = record {
    keeps = keeps_same player;
    made = λ b stands. record {
      events = [];
      moments = [];
      does = record { makes = shown.makes b; run = tt };
      stands = subst (λ (x : play.Bench). StandsAs player.bench x) (sym (shown.same b)) stands;
      counted = none_counted player.bench;
    };
  }

  pub shown_whole : (act : Act) (text : List ℕ) (old new : Option (List ℕ)) → IsShown act text → new ≡ appended old text → PlayedActs (act ∷ []) old new player player None
  shown_whole act text old new shown sent =
      made_played act old new player player shown.puts_none (λ b stands. sent ∙ ap (appended old) (shown.text_is b stands)) (acted act text shown)

  pub shown_in_part : (act : Act) (text : List ℕ) (old new : Option (List ℕ)) → IsShown act text → WroteFront old new text → InPart (act ∷ []) old new player
  shown_in_part act text old new shown front b stands =
      act_in_part player.machine.now (guard_in player) b act old new player.bench (rw (shown.puts_none b) (none_stopped player.machine.now (guard_in player))) ((acted act text shown).made b stands)
      (subst (λ (t : List ℕ). WroteFront old new t) (shown.text_is b stands) front)

  -- ---- the four lines

  pub reg_shown : (line : List ℕ) → line ≡ reg_text player.bench.core → IsShown ShowsReg (line ++ codes "\n")
  reg_shown line is = record {
    puts_none = λ b. refl;
    makes = λ b. refl;
    same = λ b. refl;
    text_is = λ b stands. at_stood (λ (x : play.Bench). line ++ codes "\n" ≡ shown_text player.machine.now x ShowsReg) player.bench b stands (ap (λ (t : List ℕ). t ++ codes "\n") is);
  }

  pub cell_shown : (address : ℕ) (line : List ℕ) → line ≡ cell_text address (cell player.bench.core address) → IsShown (ShowsCell address) (line ++ codes "\n")
  cell_shown address line is = record {
    puts_none = λ b. refl;
    makes = λ b. refl;
    same = λ b. refl;
    text_is = λ b stands. at_stood (λ (x : play.Bench). line ++ codes "\n" ≡ shown_text player.machine.now x (ShowsCell address)) player.bench b stands (ap (λ (t : List ℕ). t ++ codes "\n") is);
  }

  pub out_shown : (address : ℕ) (line : List ℕ) → line ≡ output_text address (register_at player.bench.core.outputs (position_of player.machine.now.ports.outputs address))
      → IsShown (ShowsOut address) (line ++ codes "\n")
  out_shown address line is = record {
    puts_none = λ b. refl;
    makes = λ b. refl;
    same = λ b. refl;
    text_is = λ b stands. at_stood (λ (x : play.Bench). line ++ codes "\n" ≡ shown_text player.machine.now x (ShowsOut address)) player.bench b stands (ap (λ (t : List ℕ). t ++ codes "\n") is);
  }

  pub deda_shown : (line : List ℕ) → ((happenings : List Happening) → StandsFor player.bench.listener.panel happenings → line ≡ deda_text happenings) → IsShown ShowsDeda (line ++ codes "\n")
  deda_shown line is = record {
    puts_none = λ b. refl;
    makes = λ b. refl;
    same = λ b. refl;
    text_is = λ b stands. ap (λ (t : List ℕ). t ++ codes "\n") (is b.panel stands.panel);
  }
