-- The lines of a certificate, one after the other.
use Rattle.std.proofs.Common.{◌≡◌, ℕ, ◌+◌, true, false, refl, sym, ap, ◌∙◌, subst, List, [], ◌∷◌, ◌++◌, length, reverse, Option, Some, None, append_assoc, arith}
use Rattle.std.specs.List.{filter_map}
use Rattle.std.proofs.lemmas.List.{append-nil}
use Rattle.std.proofs.lemmas.List.Elements.{filter_map-append}
use Rattle.ags_text.specs.Fault.{first_fault, first_fault-nil, first_fault-faulty, first_fault-faultless}
use Rattle.ags_text.specs.Line.{LineAt, lines_of}
use Rattle.ags_text.specs.Reading.{AreReadingsBy}
use Rattle.ags_ports.specs.Port.{Registers}
use Rattle.ags_certtype.specs.Cert.{Stated as Cert_stated}
use Rattle.ags_certtext.specs.declared.cert_error.CertKind.{CertKind}
use Rattle.ags_certtext.specs.declared.cert_error.CertKind.TheVariants.{BadLine}
use Rattle.ags_certtext.specs.declared.cert_error.CertError.{CertError}
use Rattle.ags_certtext.specs.declared.cert_error.CertError.TheVariants.{At as AtLine, NoMemory}
use Rattle.ags_certtext.specs.declared.statements.Statement.{Statement}
use Rattle.ags_certtext.specs.declared.kinds.Kind.{Kind}
use Rattle.ags_certtext.specs.declared.kinds.Kind.TheVariants as kind
use Rattle.ags_certtext.specs.Fault.{fault_in, reading_fault}
use Rattle.ags_certtext.specs.Kind.{is_kind, is_last, kind_of, last_kind}
use Rattle.ags_frame.specs.Fault.{has_ended, version_of}
use Rattle.ags_frame.specs.Reading.{Opening, OtherOpening, Stated, Skipped, Malformed, Ended, statement_of}
use Rattle.ags_certtext.specs.Reading.{Reading, IsFirstReading, IsReading, AreLineReadings, AreReadings}
use Rattle.ags_certtext.specs.Text.{IsCertOf, IsFaultyCert, IsRefused, IsWhatIsStated}
use Rattle.ags_certread.specs.Gathering.{Gathering, IsCertOfGathering, IsClosable, IsCounting, IsSized, nothing_stated, opened}
use Rattle.ags_certread.specs.LineTaken.{HaveReadings, TakesLine, TakesReading, TellsFault, behind_first, further_fault, opening_fault}
use Rattle.ags_certread.proofs.TableLemmas.{chosen_reversed, reverse-more}
use Rattle.ags_certread.proofs.FaultLemmas.{last_end}
use Rattle.ags_certread.proofs.GatherLemmas.{Gathered-none, Gathered-opened}
use Rattle.ags_certread.proofs.SoundLemmas.{IsSound-none, sound_opened}
use Rattle.ags_certread.proofs.FinishLemmas.{what_is_stated}
use Rattle.ags_certread.specs.Before.{Stands}
use Rattle.ags_certread.specs.Sound.{IsSound}

-- ---- the end of a text

-- statements have ended where the last kind is the end
ended_by_kind : (before : List Statement) → has_ended (λ statement. is_kind kind.End (kind_of statement)) before ≡ is_last kind.End (last_kind before)
ended_by_kind [] = refl
ended_by_kind (statement ∷ before) = refl

end_is_missing : (ports : Registers) (before : List Reading) {last : Option Kind} → last ≡ last_kind (filter_map statement_of before) → is_last kind.End last ≡ false
    → reading_fault ports before Ended ≡ Some BadLine
end_is_missing ports before same missing = rw (ended_by_kind (filter_map statement_of before), sym same, missing) refl

end_is_there : (ports : Registers) (before : List Reading) {last : Option Kind} → last ≡ last_kind (filter_map statement_of before) → is_last kind.End last ≡ true
    → reading_fault ports before Ended ≡ None
end_is_there ports before same ended = rw (ended_by_kind (filter_map statement_of before), sym same, ended) refl

-- ---- readings of lines

further-more : (lines : List LineAt) (readings : List Reading) (others : List LineAt) (rest : List Reading) → AreReadingsBy IsReading lines readings
    → AreReadingsBy IsReading others rest → AreReadingsBy IsReading (lines ++ others) (readings ++ rest)
further-more [] [] others rest are too = too
further-more (line ∷ lines) (reading ∷ readings) others rest are too = (are.0, further-more lines readings others rest are.1 too)
further-more [] (reading ∷ readings) others rest are too = absurd are
further-more (line ∷ lines) [] others rest are too = absurd are

lines-more : (first : LineAt) (more : List LineAt) (readings : List Reading) (others : List LineAt) (rest : List Reading) → AreLineReadings (first ∷ more) readings
    → AreReadingsBy IsReading others rest → AreLineReadings (first ∷ (more ++ others)) (readings ++ rest)
lines-more first more [] others rest are too = absurd are
lines-more first more (reading ∷ readings) others rest are too = (are.0, further-more more readings others rest are.1 too)

-- the readings of the lines after some
pub left_readings : (lines others : List LineAt) (readings : List Reading) → AreReadingsBy IsReading (lines ++ others) readings → HaveReadings others
left_readings [] others readings are = (readings, are)
left_readings (line ∷ lines) others [] are = absurd are
left_readings (line ∷ lines) others (reading ∷ readings) are = left_readings lines others readings are.1

-- ---- so many lines are read

-- Of a text's lines so many are read without a fault, with these readings, nearest first; what is kept stands for their statements,
-- and has the version that was opened; and these lines are left.
pub record SoFar (ports : Registers) (text : List ℕ) (left : List LineAt) (g : Gathering) (number : ℕ) : Type 0 where
  pub first : LineAt
  pub more : List LineAt
  pub whole : lines_of text ≡ first ∷ (more ++ left)
  pub before : List Reading
  pub readings : AreLineReadings (first ∷ more) (reverse before)
  pub faultless : (rest : List Reading) → first_fault (reading_fault ports) [] (reverse before ++ rest) ≡ first_fault (reading_fault ports) before rest
  pub stands : Stands (filter_map statement_of before) g
  pub version : version_of before ≡ g.version
  pub so_many : number ≡ length before

-- the first line opens the certificate
pub SoFar-first : (ports : Registers) (text : List ℕ) (first : LineAt) (left : List LineAt) (version : ℕ) (g : Gathering) → lines_of text ≡ first ∷ left
    → IsFirstReading first.bytes (Opening version) → g ≡ opened version → SoFar ports text left g 1
SoFar-first ports text first left version g whole is same = record {
  first = first;
  more = [];
  whole = whole;
  before = Opening version ∷ [];
  readings = (is, tt);
  faultless = λ rest. first_fault-faultless (reading_fault ports) [] (Opening version) rest refl;
  stands = subst (λ (h : Gathering). Stands [] h) (sym same) (record { gathered = Gathered-opened [] nothing_stated version Gathered-none; sound = sound_opened nothing_stated version IsSound-none });
  version = sym (ap (λ (h : Gathering). h.version) same);
  so_many = refl;
}

-- a further line opens no version
pub opens_none : (line : List ℕ) (reading : Reading) (before : List Reading) → IsReading line reading → version_of (reading ∷ before) ≡ version_of before
opens_none line (Opening version) before is = absurd is
opens_none line OtherOpening before is = refl
opens_none line (Stated statement) before is = refl
opens_none line Skipped before is = refl
opens_none line Malformed before is = refl
opens_none line Ended before is = refl

module _ (ports : Registers) (text : List ℕ) (line : LineAt) (left : List LineAt) (g : Gathering) (number : ℕ) (so : SoFar ports text (line ∷ left) g number) where
  pub one_more : (reading : Reading) (h : Gathering) → IsReading line.bytes reading → reading_fault ports so.before reading ≡ None
      → Stands (filter_map statement_of (reading ∷ so.before)) h → h.version ≡ g.version → SoFar ports text left h (number + 1)
  one_more reading h is none stands version = record {
    first = so.first;
    more = so.more ++ line ∷ [];
    whole = so.whole ∙ ap (λ (l : List LineAt). so.first ∷ l) (sym (append_assoc so.more (line ∷ []) left));
    before = reading ∷ so.before;
    readings = subst (λ (rs : List Reading). AreLineReadings (so.first ∷ (so.more ++ line ∷ [])) rs) (sym (reverse-more reading so.before))
        (lines-more so.first so.more (reverse so.before) (line ∷ []) (reading ∷ []) so.readings (is, tt));
    faultless = λ rest.
        ap (λ (l : List Reading). first_fault (reading_fault ports) [] l) (ap (λ (l : List Reading). l ++ rest) (reverse-more reading so.before) ∙ append_assoc (reverse so.before) (reading ∷ []) rest)
        ∙ so.faultless (reading ∷ rest) ∙ first_fault-faultless (reading_fault ports) so.before reading rest none;
    stands = stands;
    version = opens_none line.bytes reading so.before is ∙ so.version ∙ sym version;
    so_many = omega (arith, so.so_many);
  }

  by_reading : (reading : Reading) (h : Gathering) → IsReading line.bytes reading → TakesReading ports g reading h → SoFar ports text left h (number + 1)
  by_reading (Stated statement) h is takes =
      let taken = takes.0 (filter_map statement_of so.before) so.stands in
      let none = subst (λ (version : ℕ). fault_in ports version (filter_map statement_of so.before) statement ≡ None) (sym so.version) taken.0 in
      one_more (Stated statement) h is none taken.1 takes.1
  by_reading Skipped h is takes =
      one_more Skipped h is refl (subst (λ (k : Gathering). Stands (filter_map statement_of so.before) k) (sym takes) so.stands) (ap (λ (k : Gathering). k.version) takes)
  by_reading (Opening version) h is takes = absurd takes
  by_reading OtherOpening h is takes = absurd takes
  by_reading Malformed h is takes = absurd takes
  by_reading Ended h is takes = absurd takes

  -- the next line is taken
  pub SoFar-more : (h : Gathering) → TakesLine ports g line.bytes h → SoFar ports text left h (number + 1)
  SoFar-more h takes = by_reading takes.0 h takes.1 takes.2

  -- ---- the next line is at fault

  same_further : (reading : Reading) (kind : CertKind) → further_fault ports (version_of so.before) (filter_map statement_of so.before) reading ≡ Some kind
      → reading_fault ports so.before reading ≡ Some kind
  same_further (Stated statement) kind is = is
  same_further Malformed kind is = is
  same_further Skipped kind is = absurd cc
  same_further (Opening version) kind is = absurd cc
  same_further OtherOpening kind is = absurd cc
  same_further Ended kind is = absurd cc

  faulty : (reading : Reading) (kind : CertKind) (rest : List Reading) → IsReading line.bytes reading → reading_fault ports so.before reading ≡ Some kind
      → AreReadingsBy IsReading left rest → IsFaultyCert ports text (number + 1) kind
  faulty reading kind rest is fault are =
      let all : List Reading = reverse so.before ++ reading ∷ rest in
      record {
        readings = all ++ Ended ∷ [];
        are_readings = record {
          of_lines = all;
          are = subst (λ (l : List LineAt). AreLineReadings l all) (sym so.whole)
              (lines-more so.first so.more (reverse so.before) (line ∷ left) (reading ∷ rest) so.readings (is, are));
          whole = refl;
        };
        first = ap (λ (l : List Reading). first_fault (reading_fault ports) [] l) (append_assoc (reverse so.before) (reading ∷ rest) (Ended ∷ []))
            ∙ so.faultless (reading ∷ (rest ++ Ended ∷ []))
            ∙ first_fault-faulty (reading_fault ports) so.before reading (rest ++ Ended ∷ []) kind fault
            ∙ ap (λ (n : ℕ). Some (n + 1, kind)) (sym so.so_many);
      }

  behind : HaveReadings (behind_first (lines_of text)) → HaveReadings (line ∷ left)
  behind have = (let all : HaveReadings (so.more ++ line ∷ left) = rw so.whole at have in left_readings so.more (line ∷ left) all.0 all.1)

  rest_readings : HaveReadings (line ∷ left) → HaveReadings left
  rest_readings have = left_readings (line ∷ []) left have.0 have.1

  pub SoFar-faulty : (reading : Reading) (kind : CertKind) → IsReading line.bytes reading → reading_fault ports so.before reading ≡ Some kind
      → HaveReadings (behind_first (lines_of text)) → IsFaultyCert ports text (number + 1) kind
  SoFar-faulty reading kind is fault have = let rest = rest_readings (behind have) in faulty reading kind rest.0 is fault rest.1

  pub SoFar-fault : (error : CertError) → TellsFault ports (number + 1) g line.bytes error → HaveReadings (behind_first (lines_of text)) → IsRefused ports text error
  SoFar-fault (AtLine place kind) tells have =
      let fault = same_further tells.1.0 kind
      (subst (λ (version : ℕ). further_fault ports version (filter_map statement_of so.before) tells.1.0 ≡ Some kind) (sym so.version)
      (tells.1.2 (filter_map statement_of so.before) so.stands)) in
      subst (λ (n : ℕ). IsFaultyCert ports text n kind) (sym tells.0) (SoFar-faulty tells.1.0 kind tells.1.1 fault have)
  SoFar-fault NoMemory tells have = tt

-- the first line is at fault
pub opening_refused : (ports : Registers) (text : List ℕ) (first : LineAt) (left : List LineAt) (reading : Reading) (kind : CertKind) → lines_of text ≡ first ∷ left
    → IsFirstReading first.bytes reading → opening_fault reading ≡ Some kind → HaveReadings (behind_first (lines_of text)) → IsFaultyCert ports text 1 kind
opening_refused ports text first left reading kind whole is fault have =
    let rest : HaveReadings left = rw whole at have in
    record {
      readings = (reading ∷ rest.0) ++ Ended ∷ [];
      are_readings = record {
        of_lines = reading ∷ rest.0;
        are = subst (λ (l : List LineAt). AreLineReadings l (reading ∷ rest.0)) (sym whole) (is, rest.1);
        whole = refl;
      };
      first = first_fault-faulty (reading_fault ports) [] reading (rest.0 ++ Ended ∷ []) kind (same_opening reading is fault);
    }
  where
    same_opening : (r : Reading) → IsFirstReading first.bytes r → opening_fault r ≡ Some kind → reading_fault ports [] r ≡ Some kind
    same_opening (Opening version) is fault = absurd cc
    same_opening OtherOpening is fault = fault
    same_opening Malformed is fault = fault
    same_opening (Stated statement) is fault = absurd is
    same_opening Skipped is fault = absurd is
    same_opening Ended is fault = absurd is

-- ---- the text has ended

pub empty_refused : (ports : Registers) (text : List ℕ) → lines_of text ≡ [] → IsFaultyCert ports text 1 BadLine
empty_refused ports text none = record {
  readings = Ended ∷ [];
  are_readings = record { of_lines = []; are = subst (λ (l : List LineAt). AreLineReadings l []) (sym none) tt; whole = refl };
  first = first_fault-faulty (reading_fault ports) [] Ended [] BadLine refl;
}

module _ (ports : Registers) (text : List ℕ) (g : Gathering) (number : ℕ) (so : SoFar ports text [] g number) where
  all_readings : AreReadings (lines_of text) (reverse so.before ++ Ended ∷ [])
  all_readings = record {
    of_lines = reverse so.before;
    are = subst (λ (l : List LineAt). AreLineReadings l (reverse so.before))
        (sym (so.whole ∙ ap (λ (l : List LineAt). so.first ∷ l) (append-nil so.more))) so.readings;
    whole = refl;
  }

  pub SoFar-missing : is_last kind.End g.last ≡ false → IsFaultyCert ports text (number + 1) BadLine
  SoFar-missing missing = record {
    readings = reverse so.before ++ Ended ∷ [];
    are_readings = all_readings;
    first = so.faultless (Ended ∷ [])
        ∙ first_fault-faulty (reading_fault ports) so.before Ended [] BadLine (end_is_missing ports so.before (so.stands.gathered.tables.last) missing)
        ∙ ap (λ (n : ℕ). Some (n + 1, BadLine)) (sym so.so_many);
  }

  statements_are : filter_map statement_of (reverse so.before ++ Ended ∷ []) ≡ reverse (filter_map statement_of so.before)
  statements_are = filter_map-append statement_of (reverse so.before) (Ended ∷ []) ∙ append-nil (filter_map statement_of (reverse so.before)) ∙ chosen_reversed statement_of so.before

  -- all lines are read
  pub SoFar-all : (cert : Cert_stated) → is_last kind.End g.last ≡ true → IsCertOfGathering g cert → IsCertOf ports text cert
  SoFar-all cert ended is = record {
    readings = reverse so.before ++ Ended ∷ [];
    are_readings = all_readings;
    faultless = so.faultless (Ended ∷ [])
        ∙ first_fault-faultless (reading_fault ports) so.before Ended [] (end_is_there ports so.before (so.stands.gathered.tables.last) ended)
        ∙ first_fault-nil (reading_fault ports) (Ended ∷ so.before);
    is_stated = subst (λ (l : List Statement). IsWhatIsStated l cert) (sym statements_are)
        (what_is_stated (filter_map statement_of so.before) g cert so.stands.gathered so.stands.sound (last_end g.last ended) is);
  }

-- what a line's reader asks of what is kept
pub sound_keeps : (g : Gathering) → IsSound g → IsSized g × IsCounting g × IsClosable g
sound_keeps g sound = (sound.sized, (let most = sound.few.most in omega (arith, most)), sound.closable)
