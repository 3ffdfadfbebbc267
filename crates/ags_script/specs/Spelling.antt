-- How the lines of a script are spelled: forwards from what they ask for to the lines that spell it.
use Rattle.std.specs.Prelude.{◌≡◌, ℕ, ◌+◌, ◌<◌, ◌≤◌, ◌⊎◌, List, [], ◌∷◌, length, codes, slice_index}
use Rattle.ags_text.specs.Field.{AreBlanks, AreFields, HasFields}
use Rattle.ags_text.specs.Numeral.{IsDecimal, Writes}
use Rattle.ags_deda.specs.declared.keys.Key.{Key}
use Rattle.ags_deda.specs.declared.keys.Key.TheVariants as key
use Rattle.ags_script.specs.declared.commands.Command.{Command}
use Rattle.ags_script.specs.declared.commands.Command.TheVariants.{Start, Cell, Port, Step, Pulse, Set, Press, Feed, Cycle, ShowReg, ShowCell, ShowOut, ShowDeda}

-- What a line of a script asks for: nothing, one command, or one key after the other. Any other line is malformed.
pub data LineReading : Type 0 where
  Skipped : LineReading
  One : Command → LineReading
  Keys : List Key → LineReading
  Malformed : LineReading

-- the text is the key's name
abbrev pub IsKeyName : List ℕ → Key → Type 0
IsKeyName text (key.Digit digit) = (digit < 10) × (text ≡ (48 + digit) ∷ [])
IsKeyName text key.Plus = text ≡ codes "+"
IsKeyName text key.Minus = text ≡ codes "-"
IsKeyName text key.Clr = text ≡ codes "CLR"
IsKeyName text key.Entr = text ≡ codes "ENTR"
IsKeyName text key.ReadOut = text ≡ codes "RO"
IsKeyName text key.Hold = text ≡ codes "HOLD"

-- the texts are the keys' names
abbrev pub AreKeyNames : List (List ℕ) → List Key → Type 0
AreKeyNames [] [] = Unit {0}
AreKeyNames (text ∷ texts) (pressed ∷ keys) = IsKeyName text pressed × AreKeyNames texts keys
AreKeyNames [] (pressed ∷ keys) = ⊥
AreKeyNames (text ∷ texts) [] = ⊥

-- The fields state this command: a count is one to nine decimal digits, an address is four octal digits, and a word is
-- six. CELL names an erasable cell. The press of a key has a form of its own.
abbrev pub States : List (List ℕ) → Command → Type 0
States fields (Start address) = (place : List ℕ) × Writes 8 4 place address × (fields ≡ codes "START" ∷ place ∷ [])
States fields (Cell address word) = (place digits : List ℕ) × Writes 8 4 place address × (address < 2048) × Writes 8 6 digits word × (fields ≡ codes "CELL" ∷ place ∷ digits ∷ [])
States fields (Port address word) = (place digits : List ℕ) × Writes 8 4 place address × Writes 8 6 digits word × (fields ≡ codes "PORT" ∷ place ∷ digits ∷ [])
States fields (Step count) = (digits : List ℕ) × IsDecimal 9 digits count × (fields ≡ codes "STEP" ∷ digits ∷ [])
States fields Pulse = fields ≡ codes "PULSE" ∷ []
States fields (Set address word) = (place digits : List ℕ) × Writes 8 4 place address × Writes 8 6 digits word × (fields ≡ codes "SET" ∷ place ∷ digits ∷ [])
States fields (Press pressed) = ⊥
States fields Feed = fields ≡ codes "FEED" ∷ []
States fields (Cycle count) = (digits : List ℕ) × IsDecimal 9 digits count × (fields ≡ codes "CYCLE" ∷ digits ∷ [])
States fields ShowReg = fields ≡ codes "SHOW" ∷ codes "REG" ∷ []
States fields (ShowCell address) = (place : List ℕ) × Writes 8 4 place address × (fields ≡ codes "SHOW" ∷ codes "CELL" ∷ place ∷ [])
States fields (ShowOut address) = (place : List ℕ) × Writes 8 4 place address × (fields ≡ codes "SHOW" ∷ codes "OUT" ∷ place ∷ [])
States fields ShowDeda = fields ≡ codes "SHOW" ∷ codes "DEDA" ∷ []

-- the fields state the presses of these keys, of one at least
abbrev pub StatesKeys : List (List ℕ) → List Key → Type 0
StatesKeys fields keys = (names : List (List ℕ)) × AreKeyNames names keys × (0 < length keys) × (fields ≡ codes "KEY" ∷ names)

-- The line is skipped: at most 512 bytes that are nothing but blanks, or begin with a number sign.
pub record IsSkipped (line : List ℕ) : Type 0 where
  pub most : length line ≤ 512
  pub empty : AreBlanks line ⊎ (slice_index line 0 ≡ 35)

-- The line is at most 512 bytes with fields of which this holds.
pub record HasForm (line : List ℕ) (Is : List (List ℕ) → Type 0) : Type 0 where
  pub most : length line ≤ 512
  pub fields : List (List ℕ)
  pub are : AreFields fields
  pub has : HasFields line fields
  pub is : Is fields

-- the line spells what is asked for; a malformed line spells nothing
abbrev pub Spells : List ℕ → LineReading → Type 0
Spells line Skipped = IsSkipped line
Spells line (One command) = HasForm line (λ fields. States fields command)
Spells line (Keys keys) = HasForm line (λ fields. StatesKeys fields keys)
Spells line Malformed = ⊥
