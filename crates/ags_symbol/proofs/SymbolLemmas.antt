-- What is found of a symbol among pairs, and in the map that holds them.
use Rattle.std.proofs.Common.{◌≡◌, ℕ, ◌+◌, ◌<◌, Bool, true, false, cond, List, [], ◌∷◌, ◌++◌, length, take, map, Option, Some, None, option_map, refl, sym, ap, ◌∙◌, nat_eq}
use Rattle.std.specs.Prelude.{slice_get}
use Rattle.std.specs.Cmp.Lexicographic.{pointwise, same_text}
use Rattle.std.specs.Map.{lookup, keys_of}
use Rattle.std.specs.List.{IsDistinct}
use Rattle.std.proofs.lemmas.Map.Made.{AllPairs-from_IsDistinct}
use Rattle.std.proofs.lemmas.Slice.Eq.{bytes_eq-Decides}
use Rattle.std.specs.HashMap.{HashMap}
use Rattle.std.proofs.lemmas.List.{map-append, take_more}
use Rattle.std.proofs.lemmas.List.Elements.{All-push}
use Rattle.std.proofs.lemmas.Option.{get_or_from_slice_get}
use Rattle.indexmap.specs.IndexMap.{IsUnique, get, insert_entry}
use Rattle.indexmap.proofs.CallerLemmas.{insert_entry-new}
use Rattle.ags_symbol.specs.declared.symbols.Defined.{Defined}
use Rattle.ags_symbol.specs.Symbol.{Entry, IsValue, EachNameOnce, names, found}
use Rattle.ags_symbol.specs.View.{entry_of, AreSymbols}

-- ---- in the map

-- a pair is of the symbol that is looked for, or is passed over
found_step : (name key : List ℕ) (d : Defined) (later : Option Entry) (looked : Option Defined) (b : Bool) → b ≡ pointwise nat_eq name key
    → later ≡ option_map (λ e. entry_of (name, e)) looked
    → cond b (Some (entry_of (key, d))) later ≡ option_map (λ e. entry_of (name, e)) (cond b (Some d) looked)
found_step name key d later looked true same is = rw (same_text name key same) refl
found_step name key d later looked false other is = is

-- what is found of a symbol is what the map has at it
pub found-entries : (name : List ℕ) (es : List ((List ℕ) × Defined)) → found name (map entry_of es) ≡ option_map (λ d. entry_of (name, d)) (lookup (pointwise nat_eq name) es)
found-entries name [] = refl
found-entries name (e ∷ es) = found_step name e.0 e.1 (found name (map entry_of es)) (lookup (pointwise nat_eq name) es) (pointwise nat_eq name e.0) refl (found-entries name es)

-- where nothing is found, the map has nothing
pub none_looked : (name : List ℕ) (looked : Option Defined) → option_map (λ d. entry_of (name, d)) looked ≡ None → looked ≡ None
none_looked name None is = refl
none_looked name (Some d) is = absurd cc

-- ---- one more

module _ {S : Type 0} (old new : HashMap (List ℕ) Defined S) where
  -- a new symbol stands after the others
  pub entries-more : (name : List ℕ) (d : Defined) → get (pointwise nat_eq) old name ≡ None → new.entries ≡ insert_entry (pointwise nat_eq) old.entries name d → new.entries ≡ old.entries ++ (name, d) ∷ []
  entries-more name d none is = is ∙ insert_entry-new (pointwise nat_eq) old name d none

  pub AreSymbols-more : (name : List ℕ) (d : Defined) → AreSymbols old → IsUnique (pointwise nat_eq) new → IsValue d.value → new.entries ≡ old.entries ++ (name, d) ∷ [] → AreSymbols new
  AreSymbols-more name d so unique value is = record { distinct = unique; values = rw is (All-push (λ pair. IsValue pair.1.value) old.entries (name, d) so.values value) }

  -- where nothing is found of a symbol, the map has none
  pub none_found : (name : List ℕ) → found name (map entry_of old.entries) ≡ None → get (pointwise nat_eq) old name ≡ None
  none_found name none = none_looked name (get (pointwise nat_eq) old name) (sym (found-entries name old.entries) ∙ none)

-- ---- the pairs of the map

names-entries : (es : List ((List ℕ) × Defined)) → names (map entry_of es) ≡ keys_of es
names-entries [] = refl
names-entries (e ∷ es) = ap (λ (rest : List (List ℕ)). e.0 ∷ rest) (names-entries es)

-- no two of them are of one symbol
pub each_name_once : (es : List ((List ℕ) × Defined)) → IsDistinct (pointwise nat_eq) (keys_of es) → EachNameOnce (map entry_of es)
each_name_once es distinct = rw (names-entries es) (AllPairs-from_IsDistinct bytes_eq-Decides (keys_of es) distinct)

-- ---- a list of them

-- one more is taken
pub take_pushed : (symbols : List Entry) (i : ℕ) (entry : Entry) → i < length symbols → slice_get symbols i ≡ Some entry → take (i + 1) symbols ≡ take i symbols ++ entry ∷ []
take_pushed symbols i entry within is =
    take_more symbols i entry within ∙ ap (λ (one : Entry). take i symbols ++ one ∷ []) (get_or_from_slice_get symbols i entry entry is)

pub listed_more : (es : List ((List ℕ) × Defined)) (e : (List ℕ) × Defined) (symbols : List Entry) (i : ℕ) → map entry_of es ≡ take i symbols → i < length symbols
    → slice_get symbols i ≡ Some (entry_of e) → map entry_of (es ++ e ∷ []) ≡ take (i + 1) symbols
listed_more es e symbols i so within is =
    map-append entry_of es (e ∷ []) ∙ ap (λ (front : List Entry). front ++ entry_of e ∷ []) so ∙ sym (take_pushed symbols i (entry_of e) within is)
