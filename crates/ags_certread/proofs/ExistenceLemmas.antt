-- Each text means something: it is a certificate for the registers, or it has a first fault.
use Rattle.std.proofs.Common.{◌≡◌, ℕ, ◌+◌, ◌<◌, ◌^◌, ◌⊎◌, Bool, true, false, List, [], ◌∷◌, ◌++◌, length, map, get_or, Option, Some, None, is_some, refl, sym, subst, ◌∙◌, inl, inr, arith}
use Rattle.std.specs.List.{filter_map}
use Rattle.std.specs.Prelude.{unwrap_or}
use Rattle.std.proofs.lemmas.List.{get_or-map, length-map}
use Rattle.ags_text.specs.Line.{LineAt, lines_of}
use Rattle.ags_domain.specs.Domain.{IsFull}
use Rattle.ags_domain.specs.LowBits.{all_ones}
use Rattle.ags_domain.specs.Value.{value_meaning}
use Rattle.ags_domain.proofs.PartLaws.{first_last, full}
use Rattle.ags_domain.proofs.ValueLaws.{full_value}
use Rattle.ags_domain.specs.declared.ranges.Range.{Range}
use Rattle.ags_domain.specs.declared.values.Value.{Value}
use Rattle.ags_domain.specs.declared.values.Value.TheVariants.{Range as ByEnds}
use Rattle.ags_ports.specs.Port.{Registers}
use Rattle.ags_row.specs.Limit.{Limiting, cell_limit, input_limit, output_limit, is_named}
use Rattle.ags_row.specs.declared.rows.Row.{Row as Row_of}
use Rattle.ags_certtype.specs.Cert.{Stated as Cert_stated}
use Rattle.ags_certtext.specs.declared.cert_error.CertKind.{CertKind}
use Rattle.ags_certtext.specs.declared.cert_error.CertKind.TheVariants.{BadLine}
use Rattle.ags_certtext.specs.declared.statements.RowLine.{RowLine}
use Rattle.ags_certtext.specs.declared.statements.Statement.{Statement}
use Rattle.ags_certtext.specs.declared.statements.Statement.TheVariants.{Entry as EntryOf, Linked}
use Rattle.ags_certtext.specs.declared.kinds.Table.TheVariants.{At}
use Rattle.ags_certtext.specs.declared.kinds.Kind.TheVariants as kind
use Rattle.ags_frame.specs.Reading.{Opening, OtherOpening, Stated, Skipped, Malformed, Ended, statement_of}
use Rattle.ags_certtext.specs.Reading.{Reading, IsFirstReading, IsReading}
use Rattle.ags_frame.specs.Fault.{version_of}
use Rattle.ags_certtext.specs.Fault.{reading_fault}
use Rattle.ags_certtext.specs.Kind.{is_last}
use Rattle.ags_certtext.specs.Statement.{IsStatement}
use Rattle.ags_certtext.specs.Text.{IsCertOf, IsFaultyCert, IsLimit}
use Rattle.ags_certtext.proofs.ReadingLaws.{some_first_reading, some_reading}
use Rattle.ags_certtext.proofs.StatementLemmas.{stated_is}
use Rattle.ags_certread.specs.Gathering.{Gathering, Closes, ClosesBefore, Takes, IsOpenRow, IsFinished, AreLimitsOf, IsCertOfGathering, opened, stated, with_statement}
use Rattle.ags_certread.specs.LineTaken.{HaveReadings, behind_first, opening_fault}
use Rattle.ags_certread.proofs.FinishLemmas.{cert_made, finished}
use Rattle.ags_certread.proofs.ReadLemmas.{SoFar, SoFar-first, SoFar-faulty, one_more, SoFar-missing, SoFar-all, empty_refused, opening_refused}
use Rattle.ags_certread.specs.Sound.{IsSound}
use Rattle.ags_certread.proofs.FaultLemmas.{after_none, last_end}
use Rattle.ags_certread.proofs.TakeLemmas.{taken, version_taken}
use Rattle.ags_certread.specs.Before.{Stands}

-- ---- the row before a statement

some_value : (value : Option Value) → is_some value ≡ true → (held : Value) × (value ≡ Some held)
some_value None is = absurd cc
some_value (Some held) is = (held, refl)

-- the open row, if there is one, can be closed
some_closed : (line : Option RowLine) (g : Gathering) → IsOpenRow line g.row_cells g.row_link → (m : Gathering) × Closes line g m
some_closed None g whole = (g, refl)
some_closed (Some line) g whole =
    let (a, a_is) = some_value line.a whole.a in
    let (q, q_is) = some_value line.q whole.q in
    let row : Row_of Value = record {
      location = line.location;
      a = a;
      q = q;
      x = line.x;
      v = line.v;
      at = g.row_cells;
      link = g.row_link;
      below = whole.line.location;
      some_index = whole.line.some_index;
      some_indicator = whole.line.some_indicator;
      indices = whole.line.indices;
      indicators = whole.line.indicators;
      few = whole.few;
      ascending = whole.ascending;
      linked = whole.link;
    } in (
      record g { rows = g.rows ++ row ∷ []; line = None; row_cells = []; row_link = None },
      (row, record { location = refl; a = sym a_is; q = sym q_is; x = refl; v = refl; at = refl; link = refl }, refl),
    )

some_before : (statement : Statement) (g : Gathering) → IsSound g → (m : Gathering) × ClosesBefore statement g m
some_before (EntryOf At entry) g sound = (g, refl)
some_before (Linked link) g sound = (g, refl)
some_before _ g sound = some_closed g.line g sound.closable

-- a statement can be taken
some_taken : (statement : Statement) (g : Gathering) → IsSound g → (h : Gathering) × Takes g statement h
some_taken statement g sound =
    let (m, closed) = some_before statement g sound in (with_statement m statement, record { between = m; closed = closed; added = refl })

-- ---- the certificate

-- the range of every word
every_word : Range
every_word = record { least = 2 ^ 17; greatest = all_ones; least_word = omega arith; greatest_word = omega arith; ordered = first_last }

full_is : IsFull value_meaning (ByEnds every_word)
unfolding every_word
full_is = full_value every_word (full every_word refl)

-- the limits of a table
limits_in : List (Option Value) → List Value
limits_in table = map (λ (value : Option Value). unwrap_or value (ByEnds every_word)) table

is_limit : (value : Option Value) → IsLimit value (unwrap_or value (ByEnds every_word))
is_limit None = full_is
is_limit (Some value) = refl

limit_at : (table : List (Option Value)) (address : ℕ) → address < length table
    → IsLimit (stated table address) (get_or (limits_in table) address (ByEnds every_word))
unfolding limits_in
limit_at table address within =
    subst (λ (limit : Value). IsLimit (stated table address) limit)
    (sym (get_or-map (λ (value : Option Value). unwrap_or value (ByEnds every_word)) table address None (ByEnds every_word) within)) (is_limit (stated table address))

limits_made : Gathering → Limiting Value
limits_made g = record { cells = limits_in g.cells; inputs = limits_in g.inputs; outputs = limits_in g.outputs; places = g.places; every = ByEnds every_word }

are_limits : (g : Gathering) → IsFinished g → AreLimitsOf g (limits_made g)
unfolding cell_limit input_limit output_limit is_named limits_made limits_in
are_limits g is = record {
  tables = record {
    cells = length-map g.cells (λ (value : Option Value). unwrap_or value (ByEnds every_word)) ∙ is.sized.cells;
    inputs = length-map g.inputs (λ (value : Option Value). unwrap_or value (ByEnds every_word)) ∙ is.sized.inputs;
    outputs = length-map g.outputs (λ (value : Option Value). unwrap_or value (ByEnds every_word)) ∙ is.sized.outputs;
    places = is.sized.places;
  };
  cells = λ address below. limit_at g.cells address (rw is.sized.cells below);
  inputs = λ address below. limit_at g.inputs address (rw is.sized.inputs below);
  outputs = λ address below. limit_at g.outputs address (rw is.sized.outputs below);
  places = λ location below. refl;
  every = full_is;
}

some_cert : (g : Gathering) → IsFinished g → (cert : Cert_stated) × IsCertOfGathering g cert
some_cert g is = (
  record { start = g.start; limits = limits_made g; init = g.init; rows = g.rows },
  record { is_cert = cert_made g (limits_made g) is (are_limits g is); start = refl; limits = are_limits g is; init = refl; rows = refl },
)

-- ---- the text

lawful : (line : List ℕ) (statement : Statement) → IsReading line (Stated statement) → IsStatement statement
lawful line statement spells = stated_is line statement spells.states

pub have_readings : (lines : List LineAt) → HaveReadings lines
have_readings [] = ([], tt)
have_readings (line ∷ lines) =
    let (reading, is) = some_reading line.bytes in
    let (readings, are) = have_readings lines in
    (reading ∷ readings, (is, are))

module _ (ports : Registers) (text : List ℕ) where
  -- it is a certificate, or it has a first fault
  abbrev pub Meaning : Type 0
  Meaning = ((cert : Cert_stated) × IsCertOf ports text cert) ⊎ ((line : ℕ) × (kind : CertKind) × IsFaultyCert ports text line kind)

  at_end : (g : Gathering) (number : ℕ) (ended : Bool) → is_last kind.End g.last ≡ ended → SoFar ports text [] g number → Meaning
  at_end g number true ended so =
      let (cert, is) = some_cert g (finished g so.stands.sound (last_end g.last ended)) in
      inl (cert, SoFar-all ports text g number so cert ended is)
  at_end g number false missing so = inr (number + 1, BadLine, SoFar-missing ports text g number so missing)

  -- the rest of the lines, after those that were read
  Onward : List LineAt → Type 0
  Onward left = (g : Gathering) (number : ℕ) → SoFar ports text left g number → Meaning

  stands_on : (line : LineAt) (left : List LineAt) (g : Gathering) (number : ℕ) (so : SoFar ports text (line ∷ left) g number) (reading : Reading) → IsReading line.bytes reading
      → reading_fault ports so.before reading ≡ None → (h : Gathering) × Stands (filter_map statement_of (reading ∷ so.before)) h × (h.version ≡ g.version)
  stands_on line left g number so (Stated statement) is none =
      let (h, takes) = some_taken statement g so.stands.sound in (
        h,
        taken (filter_map statement_of so.before) g so.stands ports statement h (lawful line.bytes statement is)
            (after_none ports (version_of so.before) (filter_map statement_of so.before) statement none) takes,
        version_taken g statement h takes,
      )
  stands_on line left g number so Skipped is none = (g, so.stands, refl)
  stands_on line left g number so Malformed is none = absurd cc
  stands_on line left g number so (Opening version) is none = absurd is
  stands_on line left g number so OtherOpening is none = absurd is
  stands_on line left g number so Ended is none = absurd is

  by_fault : (line : LineAt) (left : List LineAt) (g : Gathering) (number : ℕ) (reading : Reading) (fault : Option CertKind) → Onward left → IsReading line.bytes reading
      → (so : SoFar ports text (line ∷ left) g number) → reading_fault ports so.before reading ≡ fault → Meaning
  unfolding Onward
  by_fault line left g number reading (Some kind) onward is so found =
      inr (number + 1, kind, SoFar-faulty ports text line left g number so reading kind is found (have_readings (behind_first (lines_of text))))
  by_fault line left g number reading None onward is so none =
      let (h, stands, version) = stands_on line left g number so reading is none in
      onward h (number + 1) (one_more ports text line left g number so reading h is none stands version)

  further : (left : List LineAt) → Onward left
  unfolding Onward
  further [] g number so = at_end g number (is_last kind.End g.last) refl so
  further (line ∷ left) g number so =
      let (reading, is) = some_reading line.bytes in
      by_fault line left g number reading (reading_fault ports so.before reading) (further left) is so refl

  by_opening : (first : LineAt) (left : List LineAt) (reading : Reading) (fault : Option CertKind) → lines_of text ≡ first ∷ left → IsFirstReading first.bytes reading
      → opening_fault reading ≡ fault → Meaning
  unfolding Onward
  by_opening first left reading (Some kind) whole is found =
      inr (1, kind, opening_refused ports text first left reading kind whole is found (have_readings (behind_first (lines_of text))))
  by_opening first left (Opening version) None whole is none =
      further left (opened version) 1 (SoFar-first ports text first left version (opened version) whole is refl)
  by_opening first left OtherOpening None whole is none = absurd cc
  by_opening first left Malformed None whole is none = absurd cc
  by_opening first left (Stated statement) None whole is none = absurd is
  by_opening first left Skipped None whole is none = absurd is
  by_opening first left Ended None whole is none = absurd is

  by_lines : (lines : List LineAt) → lines_of text ≡ lines → Meaning
  by_lines [] none = inr (1, BadLine, empty_refused ports text none)
  by_lines (first ∷ left) whole =
      let (reading, is) = some_first_reading first.bytes in
      by_opening first left reading (opening_fault reading) whole is refl

  pub text_means : Meaning
  text_means = by_lines (lines_of text) refl
