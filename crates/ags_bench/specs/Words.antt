-- The words of a command line: a source, a certificate and a script, and a machine file where one is named.
use Rattle.std.specs.Prelude.{◌≡◌, ℕ, List, [], ◌∷◌, Option, Some, None}
use Rattle.std.specs.Option.{option_map}
use Rattle.ags_bench.specs.declared.words.Asked.{Asked as ReadWords}

-- what is asked for, by the names of the files
pub record Asked : Type 0 where
  pub source : List ℕ
  pub certificate : List ℕ
  pub script : List ℕ
  pub machine : Option (List ℕ)

-- three words or four ask for something, in this order, and no others do
abbrev pub asked_of : List (List ℕ) → Option Asked
asked_of (source ∷ certificate ∷ script ∷ []) = Some (record { source = source; certificate = certificate; script = script; machine = None })
asked_of (source ∷ certificate ∷ script ∷ machine ∷ []) = Some (record { source = source; certificate = certificate; script = script; machine = Some machine })
asked_of _ = None

-- the words that ask for it
abbrev pub words_with : (machine : Option (List ℕ)) → (source certificate script : List ℕ) → List (List ℕ)
words_with None source certificate script = source ∷ certificate ∷ script ∷ []
words_with (Some machine) source certificate script = source ∷ certificate ∷ script ∷ machine ∷ []

abbrev pub asked_words : Asked → List (List ℕ)
asked_words asked = words_with asked.machine asked.source asked.certificate asked.script

-- the words are none of the forms
abbrev pub AreNoForm : List (List ℕ) → Type 0
AreNoForm words = (asked : Asked) → words ≡ asked_words asked → ⊥

-- what was read of the words, without where the names lie in memory
abbrev pub asked_view : ReadWords → Asked
asked_view asked = record {
  source = asked.source.now;
  certificate = asked.certificate.now;
  script = asked.script.now;
  machine = option_map (λ name. name.now) asked.machine;
}
