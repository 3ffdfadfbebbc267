-- The lines of a text of statements, one after the other.
use Rattle.std.proofs.Common.{◌≡◌, ℕ, ◌+◌, ◌≤◌, true, false, refl, sym, ap, ◌∙◌, subst, List, [], ◌∷◌, ◌++◌, length, reverse, Option, Some, None, append_assoc, arith}
use Rattle.std.specs.List.{filter_map}
use Rattle.std.proofs.lemmas.List.{append-nil, reverse-append, reverse-reverse}
use Rattle.std.proofs.lemmas.List.Elements.{filter_map-append}
use Rattle.ags_text.specs.Fault.{first_fault, first_fault-nil, first_fault-faulty, first_fault-faultless}
use Rattle.ags_text.specs.Line.{LineAt, Follow, lines_of}
use Rattle.ags_text.specs.Reading.{AreReadingsBy}
use Rattle.ags_frame.specs.Fault.{Faults, has_ended, reading_fault, version_of}
use Rattle.ags_frame.specs.Opening.{IsVersion, Opens}
use Rattle.ags_frame.specs.Reading.{Reading, Opening, OtherOpening, Stated, Skipped, Malformed, Ended, IsFirstReading, IsReading, AreLineReadings, AreReadings, statement_of}
use Rattle.ags_statements.specs.declared.gathers.Untaken.{Untaken}
use Rattle.ags_statements.specs.declared.gathers.Untaken.TheVariants.{Faulty, NoMemory}
use Rattle.ags_statements.specs.Taking.{TakesReading, TakesLine, TellsReading, TellsLine, error_at}
use Rattle.ags_statements.specs.Text.{IsTextOf, IsFaultyText, IsRefused}

-- ---- lists

pub reverse-more : {A : Type 0} (one : A) (before : List A) → reverse (one ∷ before) ≡ reverse before ++ one ∷ []
reverse-more one before = reverse-append (one ∷ []) before

-- what is chosen of a list reversed is the reverse of what is chosen of it
pub chosen_reversed : {A B : Type 0} (choose : A → Option B) (before : List A) → filter_map choose (reverse before) ≡ reverse (filter_map choose before)
chosen_reversed choose [] = refl
chosen_reversed {B = B} choose (one ∷ before) =
    ap (λ l. filter_map choose l) (reverse-more one before)
    ∙ filter_map-append choose (reverse before) (one ∷ [])
    ∙ ap (λ (l : List B). l ++ filter_map choose (one ∷ [])) (chosen_reversed choose before)
    ∙ last (choose one) refl
  where
    last : (found : Option B) → choose one ≡ found → reverse (filter_map choose before) ++ filter_map choose (one ∷ []) ≡ reverse (filter_map choose (one ∷ before))
    last None is = rw is (append-nil (reverse (filter_map choose before)))
    last (Some chosen) is = rw is (sym (reverse-more chosen (filter_map choose before)))

-- ---- readings of lines

module _ {S : Type 0} (States : List ℕ → S → Type 0) where
  pub further-more : (lines : List LineAt) (readings : List (Reading S)) (others : List LineAt) (rest : List (Reading S)) → AreReadingsBy (IsReading States) lines readings
      → AreReadingsBy (IsReading States) others rest → AreReadingsBy (IsReading States) (lines ++ others) (readings ++ rest)
  further-more [] [] others rest are too = too
  further-more (line ∷ lines) (reading ∷ readings) others rest are too = (are.0, further-more lines readings others rest are.1 too)
  further-more [] (reading ∷ readings) others rest are too = absurd are
  further-more (line ∷ lines) [] others rest are too = absurd are

  -- the lines have readings as further lines, one for each
  abbrev pub HaveReadings : List LineAt → Type 0
  HaveReadings lines = (readings : List (Reading S)) × AreReadingsBy (IsReading States) lines readings

  -- each line has one
  abbrev pub EachIsRead : Type 0
  EachIsRead = (line : List ℕ) → (reading : Reading S) × IsReading States line reading

  pub have_readings : EachIsRead → (lines : List LineAt) → HaveReadings lines
  have_readings each [] = ([], tt)
  have_readings each (line ∷ lines) =
      let one = each line.bytes in
      let rest = have_readings each lines in
      (one.0 ∷ rest.0, (one.1, rest.1))

  pub lines-more : (name : List ℕ) (latest : ℕ) (first : LineAt) (more : List LineAt) (readings : List (Reading S)) (others : List LineAt) (rest : List (Reading S))
      → AreLineReadings name latest States (first ∷ more) readings
      → AreReadingsBy (IsReading States) others rest → AreLineReadings name latest States (first ∷ (more ++ others)) (readings ++ rest)
  lines-more name latest first more [] others rest are too = absurd are
  lines-more name latest first more (reading ∷ readings) others rest are too = (are.0, further-more more readings others rest are.1 too)

-- ---- so many lines are read

module _ {G S F : Type 0} (name : List ℕ) (latest : ℕ) (States : List ℕ → S → Type 0) (its : Faults S F) (gathered : G → List S → Type 0) (text : List ℕ) (version : ℕ) where
  -- Of a text's lines so many are read without a fault, with these readings, nearest first; their statements are gathered; and these
  -- lines are left: there are no more of the others than bytes and one.
  pub record SoFar (left : List LineAt) (g : G) (number : ℕ) : Type 0 where
    pub first : LineAt
    pub more : List LineAt
    pub whole : lines_of text ≡ first ∷ (more ++ left)
    pub before : List (Reading S)
    pub readings : AreLineReadings name latest States (first ∷ more) (reverse before)
    pub faultless : (rest : List (Reading S)) → first_fault (reading_fault its) [] (reverse before ++ rest) ≡ first_fault (reading_fault its) before rest
    pub stands : gathered g (filter_map statement_of before)
    pub opened : version_of before ≡ version
    pub so_many : number ≡ length before
    pub from : ℕ
    pub few : length before ≤ from
    pub short : from ≤ length text + 1
    pub follow : Follow text from left

  -- the first line opens the text
  pub SoFar-first : (first : LineAt) (left : List LineAt) (g : G) → lines_of text ≡ first ∷ left → Follow text 0 (first ∷ left)
      → IsVersion latest version → Opens name version first.bytes → gathered g [] → SoFar left g 1
  SoFar-first first left g whole follow is opens none = record {
    first = first;
    more = [];
    whole = whole;
    before = Opening version ∷ [];
    readings = ((is, opens), tt);
    faultless = λ rest. first_fault-faultless (reading_fault its) [] (Opening version) rest refl;
    stands = none;
    opened = refl;
    so_many = refl;
    from = first.start + length first.bytes + 1;
    few = omega arith;
    short = omega (arith, follow.1.within);
    follow = follow.2;
  }

  -- the first line is at fault
  pub opening_refused : EachIsRead States → (first : LineAt) (left : List LineAt) (reading : Reading S) (fault : F) → lines_of text ≡ first ∷ left
      → IsFirstReading name latest first.bytes reading → reading_fault its [] reading ≡ Some fault → IsFaultyText name latest States its text 1 fault
  opening_refused each first left reading fault whole is found =
      let rest = have_readings States each left in
      record {
        readings = (reading ∷ rest.0) ++ Ended ∷ [];
        are_readings = record {
          of_lines = reading ∷ rest.0;
          are = subst (λ (l : List LineAt). AreLineReadings name latest States l (reading ∷ rest.0)) (sym whole) (is, rest.1);
          whole = refl;
        };
        first = first_fault-faulty (reading_fault its) [] reading (rest.0 ++ Ended ∷ []) fault found;
      }

  -- there is no line
  pub empty_refused : lines_of text ≡ [] → IsFaultyText name latest States its text 1 its.bad_line
  empty_refused none = record {
    readings = Ended ∷ [];
    are_readings = record { of_lines = []; are = subst (λ (l : List LineAt). AreLineReadings name latest States l []) (sym none) tt; whole = refl };
    first = first_fault-faulty (reading_fault its) [] Ended [] its.bad_line refl;
  }

  module _ (line : LineAt) (left : List LineAt) (g : G) (number : ℕ) (so : SoFar (line ∷ left) g number) where
    one_more : (reading : Reading S) (h : G) → IsReading States line.bytes reading → reading_fault its so.before reading ≡ None → version_of (reading ∷ so.before) ≡ version
        → gathered h (filter_map statement_of (reading ∷ so.before)) → SoFar left h (number + 1)
    one_more reading h is none opened stands = record {
      first = so.first;
      more = so.more ++ line ∷ [];
      whole = so.whole ∙ ap (λ (l : List LineAt). so.first ∷ l) (sym (append_assoc so.more (line ∷ []) left));
      before = reading ∷ so.before;
      readings = subst (λ (rs : List (Reading S)). AreLineReadings name latest States (so.first ∷ (so.more ++ line ∷ [])) rs) (sym (reverse-more reading so.before))
          (lines-more States name latest so.first so.more (reverse so.before) (line ∷ []) (reading ∷ []) so.readings (is, tt));
      faultless = λ rest.
          ap (λ (l : List (Reading S)). first_fault (reading_fault its) [] l) (ap (λ (l : List (Reading S)). l ++ rest) (reverse-more reading so.before) ∙ append_assoc (reverse so.before) (reading ∷ []) rest)
          ∙ so.faultless (reading ∷ rest) ∙ first_fault-faultless (reading_fault its) so.before reading rest none;
      stands = stands;
      opened = opened;
      so_many = omega (arith, so.so_many);
      from = line.start + length line.bytes + 1;
      few = omega (arith, so.few, so.follow.0);
      short = omega (arith, so.follow.1.within);
      follow = so.follow.2;
    }

    by_reading : (reading : Reading S) (h : G) → IsReading States line.bytes reading → TakesReading gathered its version g reading h → SoFar left h (number + 1)
    by_reading (Stated statement) h is takes =
        let taken = takes (filter_map statement_of so.before) so.stands in
        one_more (Stated statement) h is (subst (λ (v : ℕ). its.fault_after v (filter_map statement_of so.before) statement ≡ None) (sym so.opened) taken.0) so.opened taken.1
    by_reading Skipped h is takes = one_more Skipped h is refl so.opened (subst (λ (k : G). gathered k (filter_map statement_of so.before)) (sym takes) so.stands)
    by_reading (Opening other) h is takes = absurd takes
    by_reading OtherOpening h is takes = absurd takes
    by_reading Malformed h is takes = absurd takes
    by_reading Ended h is takes = absurd takes

    -- the next line is taken
    pub SoFar-more : (h : G) → TakesLine States gathered its version g line.bytes h → SoFar left h (number + 1)
    SoFar-more h takes = by_reading takes.0 h takes.1 takes.2

    -- ---- the next line is at fault

    faulty : (reading : Reading S) (fault : F) (rest : List (Reading S)) → IsReading States line.bytes reading → reading_fault its so.before reading ≡ Some fault
        → AreReadingsBy (IsReading States) left rest → IsFaultyText name latest States its text (number + 1) fault
    faulty reading fault rest is found are =
        let all : List (Reading S) = reverse so.before ++ reading ∷ rest in
        record {
          readings = all ++ Ended ∷ [];
          are_readings = record {
            of_lines = all;
            are = subst (λ (l : List LineAt). AreLineReadings name latest States l all) (sym so.whole)
                (lines-more States name latest so.first so.more (reverse so.before) (line ∷ left) (reading ∷ rest) so.readings (is, are));
            whole = refl;
          };
          first = ap (λ (l : List (Reading S)). first_fault (reading_fault its) [] l) (append_assoc (reverse so.before) (reading ∷ rest) (Ended ∷ []))
              ∙ so.faultless (reading ∷ (rest ++ Ended ∷ []))
              ∙ first_fault-faulty (reading_fault its) so.before reading (rest ++ Ended ∷ []) fault found
              ∙ ap (λ (n : ℕ). Some (n + 1, fault)) (sym so.so_many);
        }

    told : (reading : Reading S) (fault : F) → TellsReading gathered its version g reading (Faulty fault) → reading_fault its so.before reading ≡ Some fault
    told (Stated statement) fault tells =
        subst (λ (v : ℕ). its.fault_after v (filter_map statement_of so.before) statement ≡ Some fault) (sym so.opened) (tells (filter_map statement_of so.before) so.stands)
    told Malformed fault tells = cc
    told Skipped fault tells = absurd tells
    told (Opening other) fault tells = absurd tells
    told OtherOpening fault tells = absurd tells
    told Ended fault tells = absurd tells

    pub SoFar-fault : EachIsRead States → (fault : F) → TellsLine States gathered its version g line.bytes (Faulty fault) → IsFaultyText name latest States its text (number + 1) fault
    SoFar-fault each fault tells =
        let rest = have_readings States each left in faulty tells.0 fault rest.0 tells.1 (told tells.0 fault tells.2) rest.1

    pub refused_at : EachIsRead States → (why : Untaken F) → TellsLine States gathered its version g line.bytes why
        → IsRefused name latest States its text (error_at (number + 1) why)
    refused_at each (Faulty fault) tells = SoFar-fault each fault tells
    refused_at each NoMemory tells = tt

  pub SoFar-few : (left : List LineAt) (g : G) (number : ℕ) → SoFar left g number → number ≤ length text + 1
  SoFar-few left g number so = omega (arith, so.so_many, so.few, so.short)

  -- ---- the text has ended

  module _ (g : G) (number : ℕ) (so : SoFar [] g number) where
    all_readings : AreReadings name latest States (lines_of text) (reverse so.before ++ Ended ∷ [])
    all_readings = record {
      of_lines = reverse so.before;
      are = subst (λ (l : List LineAt). AreLineReadings name latest States l (reverse so.before))
          (sym (so.whole ∙ ap (λ (l : List LineAt). so.first ∷ l) (append-nil so.more))) so.readings;
      whole = refl;
    }

    pub SoFar-missing : has_ended its.is_end (filter_map statement_of so.before) ≡ false → IsFaultyText name latest States its text (number + 1) its.bad_line
    SoFar-missing missing = record {
      readings = reverse so.before ++ Ended ∷ [];
      are_readings = all_readings;
      first = so.faultless (Ended ∷ [])
          ∙ first_fault-faulty (reading_fault its) so.before Ended [] its.bad_line (rw missing refl)
          ∙ ap (λ (n : ℕ). Some (n + 1, its.bad_line)) (sym so.so_many);
    }

    statements_are : filter_map statement_of (reverse so.before ++ Ended ∷ []) ≡ reverse (filter_map statement_of so.before)
    statements_are = filter_map-append statement_of (reverse so.before) (Ended ∷ []) ∙ append-nil (filter_map statement_of (reverse so.before)) ∙ chosen_reversed statement_of so.before

    -- all lines are read
    pub SoFar-all : has_ended its.is_end (filter_map statement_of so.before) ≡ true
        → (statements : List S) × IsTextOf name latest States its text statements × gathered g (reverse statements)
    SoFar-all ended = (
      reverse (filter_map statement_of so.before),
      record {
        readings = reverse so.before ++ Ended ∷ [];
        are_readings = all_readings;
        faultless = so.faultless (Ended ∷ [])
            ∙ first_fault-faultless (reading_fault its) so.before Ended [] (rw ended refl)
            ∙ first_fault-nil (reading_fault its) (Ended ∷ so.before);
        stated = sym statements_are;
      },
      subst (λ (l : List S). gathered g l) (sym (reverse-reverse (filter_map statement_of so.before))) so.stands,
    )
