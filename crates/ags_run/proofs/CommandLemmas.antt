-- The acts of a command, apart: those that show something, and the others. The proofs of `commands` cite:
--     acts_apart                 they are the acts of the command
--     shown_by_none, made_by_none     a command that isn't of these has none of them
use Rattle.std.proofs.Common.{◌≡◌, ℕ, [], ◌++◌, refl}
use Rattle.ags_deda.specs.declared.keys.Key.{Key}
use Rattle.ags_play.specs.Act.{acts_of_command}
use Rattle.ags_script.specs.declared.commands.Command.{Command}
use Rattle.ags_script.specs.declared.commands.Command.TheVariants.{Start, Cell, Port, Step, Pulse, Set, Press, Feed, Cycle, ShowReg, ShowCell, ShowOut, ShowDeda}
use Rattle.ags_word.specs.declared.words.Word.{Word}
use Rattle.ags_run.specs.Playing.{shown_acts, made_acts}

pub acts_apart : (command : Command) → shown_acts command ++ made_acts command ≡ acts_of_command command
acts_apart (Start address) = refl
acts_apart (Cell address word) = refl
acts_apart (Port address word) = refl
acts_apart (Step count) = refl
acts_apart Pulse = refl
acts_apart (Set address word) = refl
acts_apart (Press key) = refl
acts_apart Feed = refl
acts_apart (Cycle count) = refl
acts_apart ShowReg = refl
acts_apart (ShowCell address) = refl
acts_apart (ShowOut address) = refl
acts_apart ShowDeda = refl

pub shown_by_none : (command : Command) → (command ≡ ShowReg → ⊥) → ((address : ℕ) → command ≡ ShowCell address → ⊥) → ((address : ℕ) → command ≡ ShowOut address → ⊥) → (command ≡ ShowDeda → ⊥)
    → shown_acts command ≡ []
shown_by_none (Start address) reg cell out deda = refl
shown_by_none (Cell address word) reg cell out deda = refl
shown_by_none (Port address word) reg cell out deda = refl
shown_by_none (Step count) reg cell out deda = refl
shown_by_none Pulse reg cell out deda = refl
shown_by_none (Set address word) reg cell out deda = refl
shown_by_none (Press key) reg cell out deda = refl
shown_by_none Feed reg cell out deda = refl
shown_by_none (Cycle count) reg cell out deda = refl
shown_by_none ShowReg reg cell out deda = absurd (reg refl)
shown_by_none (ShowCell address) reg cell out deda = absurd (cell address refl)
shown_by_none (ShowOut address) reg cell out deda = absurd (out address refl)
shown_by_none ShowDeda reg cell out deda = absurd (deda refl)

pub made_by_none : (command : Command) → ((count : ℕ) → command ≡ Step count → ⊥) → (command ≡ Pulse → ⊥) → ((address : ℕ) (word : Word) → command ≡ Set address word → ⊥) → ((key : Key) → command ≡ Press key → ⊥)
    → (command ≡ Feed → ⊥) → ((count : ℕ) → command ≡ Cycle count → ⊥) → made_acts command ≡ []
made_by_none (Start address) step pulse set press feed cycle = refl
made_by_none (Cell address word) step pulse set press feed cycle = refl
made_by_none (Port address word) step pulse set press feed cycle = refl
made_by_none (Step count) step pulse set press feed cycle = absurd (step count refl)
made_by_none Pulse step pulse set press feed cycle = absurd (pulse refl)
made_by_none (Set address word) step pulse set press feed cycle = absurd (set address word refl)
made_by_none (Press key) step pulse set press feed cycle = absurd (press key refl)
made_by_none Feed step pulse set press feed cycle = absurd (feed refl)
made_by_none (Cycle count) step pulse set press feed cycle = absurd (cycle count refl)
made_by_none ShowReg step pulse set press feed cycle = refl
made_by_none (ShowCell address) step pulse set press feed cycle = refl
made_by_none (ShowOut address) step pulse set press feed cycle = refl
made_by_none ShowDeda step pulse set press feed cycle = refl
