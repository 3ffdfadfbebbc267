-- The keys of a line, one after the other.
use Rattle.std.proofs.Common.{◌≡◌, ℕ, ◌<◌, true, false, List, [], ◌∷◌, ◌++◌, map, length, Option, Some, None, refl, sym, ap, ◌∙◌, append_assoc}
use Rattle.std.specs.Prelude.{Result, Ok, Err, IfOk}
use Rattle.std.proofs.lemmas.List.{append-nil, map-append}
use Rattle.ags_text.specs.Field.{next_field, behind_field}
use Rattle.ags_ports.specs.declared.machines.Machine.{Machine}
use Rattle.ags_deda.specs.declared.keys.Key.{Key}
use Rattle.ags_script.specs.declared.commands.Command.{Command}
use Rattle.ags_script.specs.declared.commands.Command.TheVariants.{Press}
use Rattle.ags_script.specs.declared.reader.Reader.{Reader}
use Rattle.ags_script.specs.declared.script_errors.ScriptError.{ScriptError}
use Rattle.ags_script.specs.Operand.{fields_of, key_named, with_key, keys_named}
use Rattle.ags_script.specs.Reading.{has_no_field, some_keys}
use Rattle.ags_script.specs.Script.{reading_fault, commands_in}
use Rattle.ags_script.specs.Tally.{IsTally}
use Rattle.ags_script.proofs.FieldLemmas.{fields_more, none_left, some_left}

-- these keys, and those after them
abbrev pub behind_keys : List Key → Option (List Key) → Option (List Key)
behind_keys done None = None
behind_keys done (Some keys) = Some (done ++ keys)

-- Of the keys that are named, these are pressed, and these names are left.
pub record Pressing (names rest : List ℕ) (earlier commands : List Command) : Type 0 where
  pub done : List Key
  pub keys : keys_named (fields_of names) ≡ behind_keys done (keys_named (fields_of rest))
  pub items : commands ≡ earlier ++ map Press done

nothing_done : (keys : Option (List Key)) → keys ≡ behind_keys [] keys
nothing_done None = refl
nothing_done (Some keys) = refl

one_done : (done : List Key) (key : Key) (keys : Option (List Key)) → behind_keys done (with_key (Some key) keys) ≡ behind_keys (done ++ key ∷ []) keys
one_done done key None = refl
one_done done key (Some keys) = ap (λ (all : List Key). Some all) (sym (append_assoc done (key ∷ []) keys))

keys_more : (text : List ℕ) → 0 < length (next_field text) → keys_named (fields_of text) ≡ with_key (key_named (next_field text)) (keys_named (fields_of (behind_field text)))
unfolding keys_named
keys_more text some = rw (fields_more text some) refl

pub Pressing-more : (names rest : List ℕ) (earlier commands more : List Command) (key : Key) → Pressing names rest earlier commands → has_no_field (fields_of rest) ≡ false
    → key_named (next_field rest) ≡ Some key → more ≡ commands ++ Press key ∷ [] → Pressing names (behind_field rest) earlier more
Pressing-more names rest earlier commands more key so some is pushed = record {
  done = so.done ++ key ∷ [];
  keys =
      so.keys ∙ ap (behind_keys so.done) (keys_more rest (some_left rest some) ∙ ap (λ (first : Option Key). with_key first (keys_named (fields_of (behind_field rest)))) is)
      ∙ one_done so.done key (keys_named (fields_of (behind_field rest)));
  items = pushed ∙ ap (λ (all : List Command). all ++ Press key ∷ []) so.items ∙ append_assoc earlier (map Press so.done) (Press key ∷ [])
      ∙ ap (λ (all : List Command). earlier ++ all) (sym (map-append Press so.done (key ∷ [])));
}

pub Pressing-bad : (names rest : List ℕ) (earlier commands : List Command) → Pressing names rest earlier commands → has_no_field (fields_of rest) ≡ false
    → key_named (next_field rest) ≡ None → keys_named (fields_of names) ≡ None
Pressing-bad names rest earlier commands so some is =
    so.keys ∙ ap (behind_keys so.done) (keys_more rest (some_left rest some) ∙ ap (λ (first : Option Key). with_key first (keys_named (fields_of (behind_field rest)))) is)

no_keys : keys_named [] ≡ Some []
unfolding keys_named
no_keys = refl

pub Pressing-all : (names rest : List ℕ) (earlier commands : List Command) → (so : Pressing names rest earlier commands) → has_no_field (fields_of rest) ≡ true
    → keys_named (fields_of names) ≡ Some so.done
Pressing-all names rest earlier commands so none =
    so.keys ∙ ap (behind_keys so.done) (ap keys_named (none_left rest none) ∙ no_keys) ∙ ap (λ (all : List Key). Some all) (append-nil so.done)

-- ---- a line of keys

-- names give one key at least
some_named : (fields : List (List ℕ)) (keys : List Key) → has_no_field fields ≡ false → keys_named fields ≡ Some keys → (first : Key) × (others : List Key) × (keys ≡ first ∷ others)
unfolding keys_named
some_named [] keys some is = absurd cc
some_named (name ∷ names) keys some is = by_first (key_named name) (keys_named names) keys is
  where
    by_first : (first : Option Key) (others : Option (List Key)) (keys : List Key) → with_key first others ≡ Some keys → (first : Key) × (others : List Key) × (keys ≡ first ∷ others)
    by_first (Some first) (Some others) keys is = (first, others, let same : first ∷ others ≡ keys = cc in sym same)
    by_first (Some first) None keys is = absurd cc
    by_first None others keys is = absurd cc

pub no_fields_malformed : (names : List ℕ) → has_no_field (fields_of names) ≡ true → keys_named (fields_of names) ≡ Some []
no_fields_malformed names none = ap keys_named (none_left names none) ∙ no_keys

pub keys_fine : (machine : Machine) (names : List ℕ) (earlier : List Command) (keys : List Key) → has_no_field (fields_of names) ≡ false → keys_named (fields_of names) ≡ Some keys
    → (reading_fault machine earlier (some_keys (keys_named (fields_of names))) ≡ None) × (commands_in (some_keys (keys_named (fields_of names))) ≡ map Press keys)
keys_fine machine names earlier keys some is =
    let head = some_named (fields_of names) keys some is in
    (rw (is, head.2) refl, rw (is, head.2) refl)

pub keys_added : {T : Type 0} (machine : Machine) (names : List ℕ) (earlier : List Command) (reader : Reader) (result : Result T ScriptError) → has_no_field (fields_of names) ≡ false
    → IfOk result (λ _. (keys : List Key) × (keys_named (fields_of names) ≡ Some keys) × IsTally reader × (reader.commands.items ≡ earlier ++ map Press keys))
    → IfOk result (λ _. (reading_fault machine earlier (some_keys (keys_named (fields_of names))) ≡ None) × IsTally reader
    × (reader.commands.items ≡ earlier ++ commands_in (some_keys (keys_named (fields_of names)))))
keys_added machine names earlier reader (Ok done) some added =
    let fine = keys_fine machine names earlier added.0 some added.1 in
    (fine.0, added.2, added.3 ∙ ap (λ (more : List Command). earlier ++ more) (sym fine.1))
keys_added machine names earlier reader (Err error) some added = tt
