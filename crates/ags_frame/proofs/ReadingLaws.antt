-- Each line has a reading, and only one.
--
-- The crates above may cite told_first, some_first_reading, one_first_reading, some_reading and one_reading, each of them behind a clause
-- of the laws first_line_has_one_reading and line_has_one_reading.
use Rattle.std.proofs.Common.{◌≡◌, ℕ, List, length, get_or, refl, sym, ap, ◌∙◌, inl, inr}
use Rattle.std.specs.List.{list_all}
use Rattle.std.proofs.lemmas.Bool.{cases_eq}
use Rattle.ags_text.specs.Field.{is_blank, IsField}
use Rattle.ags_text.proofs.Deciding.{Decided, Found, decide_bool, decide_le}
use Rattle.ags_frame.specs.declared.openings.Opening.{Opening as FirstLine}
use Rattle.ags_frame.specs.declared.openings.Opening.TheVariants as first
use Rattle.ags_frame.specs.Line.{IsIdle, IsSkipped, Spells}
use Rattle.ags_frame.specs.Opening.{IsOpening}
use Rattle.ags_frame.specs.Reading.{Reading, Opening, OtherOpening, Stated, Skipped, Malformed, Ended, IsFirstReading, IsReading, opening_reading}
use Rattle.ags_frame.proofs.OpeningLemmas.{some_opening, one_opening}

-- ---- first lines

-- what a first line is, as a reading
pub told_first : (S : Type 0) (name : List ℕ) (latest : ℕ) (line : List ℕ) (its : FirstLine) → IsOpening name latest line its → IsFirstReading {S = S} name latest line (opening_reading its)
told_first S name latest line (first.Version version) is = is
told_first S name latest line first.Another is = is
told_first S name latest line first.Malformed is = is

-- the reading of a first line is what the line is
told_by : {S : Type 0} (name : List ℕ) (latest : ℕ) (line : List ℕ) (reading : Reading S) → IsFirstReading name latest line reading
    → (its : FirstLine) × IsOpening name latest line its × (reading ≡ opening_reading its)
told_by name latest line (Opening version) is = (first.Version version, is, refl)
told_by name latest line OtherOpening is = (first.Another, is, refl)
told_by name latest line Malformed is = (first.Malformed, is, refl)
told_by name latest line (Stated statement) is = absurd is
told_by name latest line Skipped is = absurd is
told_by name latest line Ended is = absurd is

-- a first line has a reading
pub some_first_reading : {S : Type 0} (name : List ℕ) (latest : ℕ) (line : List ℕ) → IsField name → (reading : Reading S) × IsFirstReading name latest line reading
some_first_reading name latest line named =
    let its = some_opening name latest line named in (opening_reading its.0, told_first _ name latest line its.0 its.1)

-- and only one
pub one_first_reading : {S : Type 0} (name : List ℕ) (latest : ℕ) (line : List ℕ) (reading other : Reading S) → IsField name → IsFirstReading name latest line reading
    → IsFirstReading name latest line other → reading ≡ other
one_first_reading name latest line reading other named is also =
    let one = told_by name latest line reading is in
    let two = told_by name latest line other also in
    one.2 ∙ ap opening_reading (one_opening name latest line one.0 two.0 named one.1 two.1) ∙ sym two.2

-- ---- further lines

decide_skipped : (line : List ℕ) → Decided (IsSkipped line)
decide_skipped line =
    elim (decide_le (length line) 512) [
      | inr long ↦ inr (λ is. long is.most)
      | inl most ↦ elim (decide_bool (list_all is_blank line)) [
        | inl blank ↦ inl (record { most = most; empty = inl blank })
        | inr marks ↦ elim (cases_eq (get_or line 0 0) 35) [
          | inl sign ↦ inl (record { most = most; empty = inr sign })
          | inr other ↦ inr (λ is. elim is.empty [ inl blank ↦ marks blank | inr sign ↦ other sign ])
        ]
      ]
    ]

module _ {S : Type 0} (States : List ℕ → S → Type 0) where
  spelled_found : ((line : List ℕ) → Found S (States line)) → (line : List ℕ) → Found S (Spells States line)
  spelled_found some line =
      elim (decide_le (length line) 512) [
        | inr long ↦ inr (λ statement is. long is.most)
        | inl most ↦ elim (some line) [
          | inr none ↦ inr (λ statement is. none statement is.states)
          | inl found ↦ inl (found.0, record { most = most; states = found.1 })
        ]
      ]

  -- each line has a reading, where each states something or nothing
  pub some_reading : ((line : List ℕ) → Found S (States line)) → (line : List ℕ) → (reading : Reading S) × IsReading States line reading
  some_reading some line =
      elim (spelled_found some line) [
        | inl found ↦ (Stated found.0, found.1)
        | inr none ↦ elim (decide_skipped line) [
          | inl is ↦ (Skipped, is)
          | inr fails ↦ (Malformed, (none, fails))
        ]
      ]

  module _ (line : List ℕ) (one : (its other : S) → States line its → States line other → its ≡ other) (idle : (statement : S) → IsIdle line → States line statement → ⊥) where
    -- and only one, where it states one thing at most, and nothing if it is skipped
    pub one_reading : (reading other : Reading S) → IsReading States line reading → IsReading States line other → reading ≡ other
    one_reading (Stated statement) (Stated another) is also = ap (λ (s : S). Stated s) (one statement another is.states also.states)
    one_reading (Stated statement) Skipped is also = absurd (idle statement also.empty is.states)
    one_reading (Stated statement) Malformed is also = absurd (also.0 statement is)
    one_reading Skipped (Stated statement) is also = absurd (idle statement is.empty also.states)
    one_reading Skipped Skipped is also = refl
    one_reading Skipped Malformed is also = absurd (also.1 is)
    one_reading Malformed (Stated statement) is also = absurd (is.0 statement also)
    one_reading Malformed Skipped is also = absurd (is.1 also)
    one_reading Malformed Malformed is also = refl
    one_reading (Opening version) other is also = absurd is
    one_reading OtherOpening other is also = absurd is
    one_reading Ended other is also = absurd is
    one_reading reading (Opening version) is also = absurd also
    one_reading reading OtherOpening is also = absurd also
    one_reading reading Ended is also = absurd also
