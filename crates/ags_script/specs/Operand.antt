-- The fields that are cut from a text, and what numbers, verbs, subjects and keys they name.
use Rattle.std.specs.Prelude.{ℕ, ◌+◌, zero, suc, ◌==◌, nat_eq, List, [], ◌∷◌, length, Option, Some, None, if◌then◌else◌, codes}
use Rattle.std.specs.Cmp.Lexicographic.{pointwise}
use Rattle.std.specs.List.{find}
use Rattle.ags_text.specs.Field.{next_field, behind_field}
use Rattle.ags_text.specs.Numeral.{number_of}
use Rattle.ags_deda.specs.declared.keys.Key.{Key}
use Rattle.ags_deda.specs.declared.keys.Key.TheVariants as key
use Rattle.ags_script.specs.declared.verbs.Verb.{Verb}
use Rattle.ags_script.specs.declared.verbs.Verb.TheVariants as verb
use Rattle.ags_script.specs.declared.verbs.Subject.{Subject}
use Rattle.ags_script.specs.declared.verbs.Subject.TheVariants as subject

-- the first fields of a text, so many at most
unfoldable pub fields_up_to : ℕ → List ℕ → List (List ℕ)
fields_up_to zero text = []
fields_up_to (suc most) text = if length (next_field text) == 0 then [] else next_field text ∷ fields_up_to most (behind_field text)

-- the fields of a text, which are no more than its bytes
unfoldable pub fields_of : List ℕ → List (List ℕ)
fields_of text = fields_up_to (length text) text

-- the number that so many octal digits write, and nothing for any other text
unfoldable pub octal_of : (width : ℕ) → List ℕ → Option ℕ
octal_of width text = if length text == width then number_of 8 width text else None

-- the number that one to nine decimal digits write, and nothing for any other text
abbrev pub count_of : List ℕ → Option ℕ
count_of text = number_of 10 9 text

-- what a line's first field is
abbrev pub verb_name : Verb → List ℕ
verb_name verb.Start = codes "START"
verb_name verb.Cell = codes "CELL"
verb_name verb.Port = codes "PORT"
verb_name verb.Step = codes "STEP"
verb_name verb.Pulse = codes "PULSE"
verb_name verb.Set = codes "SET"
verb_name verb.Key = codes "KEY"
verb_name verb.Feed = codes "FEED"
verb_name verb.Cycle = codes "CYCLE"
verb_name verb.Show = codes "SHOW"

abbrev pub all_verbs : List Verb
all_verbs = verb.Start ∷ verb.Cell ∷ verb.Port ∷ verb.Step ∷ verb.Pulse ∷ verb.Set ∷ verb.Key ∷ verb.Feed ∷ verb.Cycle ∷ verb.Show ∷ []

-- what a SHOW shows
abbrev pub subject_name : Subject → List ℕ
subject_name subject.Reg = codes "REG"
subject_name subject.Cell = codes "CELL"
subject_name subject.Out = codes "OUT"
subject_name subject.Deda = codes "DEDA"

abbrev pub all_subjects : List Subject
all_subjects = subject.Reg ∷ subject.Cell ∷ subject.Out ∷ subject.Deda ∷ []

-- the one of a name, and nothing for a text that is no name
abbrev pub named : {X : Type 0} → (X → List ℕ) → List X → List ℕ → Option X
named name all text = find (λ x. pointwise nat_eq (name x) text) all

unfoldable pub verb_named : List ℕ → Option Verb
verb_named text = named verb_name all_verbs text

unfoldable pub subject_named : List ℕ → Option Subject
subject_named text = named subject_name all_subjects text

-- the digits and the other keys, by their names
abbrev pub key_name : Key → List ℕ
key_name (key.Digit digit) = (48 + digit) ∷ []
key_name key.Plus = codes "+"
key_name key.Minus = codes "-"
key_name key.Clr = codes "CLR"
key_name key.Entr = codes "ENTR"
key_name key.ReadOut = codes "RO"
key_name key.Hold = codes "HOLD"

abbrev pub all_keys : List Key
all_keys =
    key.Digit 0 ∷ key.Digit 1 ∷ key.Digit 2 ∷ key.Digit 3 ∷ key.Digit 4 ∷ key.Digit 5 ∷ key.Digit 6 ∷ key.Digit 7 ∷ key.Digit 8 ∷ key.Digit 9
    ∷ key.Plus ∷ key.Minus ∷ key.Clr ∷ key.Entr ∷ key.ReadOut ∷ key.Hold ∷ []

unfoldable pub key_named : List ℕ → Option Key
key_named text = named key_name all_keys text

-- a key before others, where all are some
abbrev pub with_key : Option Key → Option (List Key) → Option (List Key)
with_key (Some first) (Some keys) = Some (first ∷ keys)
with_key (Some first) None = None
with_key None keys = None

-- the keys of these names
unfoldable pub keys_named : List (List ℕ) → Option (List Key)
keys_named [] = Some []
keys_named (name ∷ names) = with_key (key_named name) (keys_named names)
