-- Each text of scales means something: it has tags for so many rows, or a first fault. Behind the law stands
--     some_scales
-- and for the programs above that read such texts
--     each_text_means, one_scales_of, one_fault_of, never_both
use Rattle.std.proofs.Common.{◌≡◌, ℕ, ◌-◌, ◌^◌, ◌<◌, ◌⊎◌, Bool, true, false, refl, sym, ap, ◌∙◌, subst, List, [], ◌∷◌, length, Option, Some, None, inl, inr, arith, nat_lt}
use Rattle.std.specs.Prelude.{not, ◌==◌, ◌||◌, set, replicate}
use Rattle.std.proofs.lemmas.List.{length-replicate, length-set}
use Rattle.std.proofs.lemmas.Int.Digits.{digits_value-lt}
use Rattle.ags_text.specs.Numeral.{Writes}
use Rattle.ags_frame.specs.Fault.{has_ended}
use Rattle.ags_frame.specs.Reading.{Reading, IsFirstReading, IsReading}
use Rattle.ags_frame.proofs.ReadingLaws.{some_first_reading, one_first_reading, some_reading, one_reading}
use Rattle.ags_ports.specs.Port.{Registers}
use Rattle.ags_statements.specs.Text.{IsTextOf}
use Rattle.ags_statements.proofs.KeptLemmas.{no_fault, text_kept}
use Rattle.ags_statements.proofs.MeaningLemmas as statements
use Rattle.ags_statements.proofs.ReadLemmas.{EachIsRead}
use Rattle.ags_tags.specs.Gathering.{Gathered}
use Rattle.ags_tags.specs.Spelling.{States}
use Rattle.ags_tags.specs.Tag.{Scaling, rows_where}
use Rattle.ags_tags.specs.Text.{AreScales, IsScalesOf, IsFaultyScales, entries, faults, has_address, has_row, is_end, line_fault, may_stand, row_entries, scales_name}
use Rattle.ags_tags.specs.declared.scale_errors.ScaleKind.{ScaleKind}
use Rattle.ags_tags.specs.declared.scale_errors.ScaleKind.TheVariants.{BadLine, Twice, NoRow}
use Rattle.ags_tags.specs.declared.statements.ScaleLine.{ScaleLine}
use Rattle.ags_tags.specs.declared.statements.ScaleLine.TheVariants.{Scaled, Tagged, End}
use Rattle.ags_tags.specs.declared.statements.Table.TheVariants.{Cell, In, Out}
use Rattle.ags_tags.specs.declared.tags.Tag.{Tag}
use Rattle.ags_tags.specs.declared.tags.Tag.TheVariants.{Raw}
use Rattle.ags_tags.specs.declared.tags.RowTags.{RowTags}
use Rattle.ags_tags.proofs.LineLemmas.{idle_states_nothing, name_field, one_statement, some_statement}
use Rattle.ags_tags.proofs.TagLemmas.{all_stated, entry_more, nothing_gathered, one_scales, rows_more, with_scale}

-- four octal digits write an address
small_address : (text : List ℕ) (number : ℕ) → Writes 8 4 text number → number < 4096
small_address text number is =
    let below : number < 8 ^ length text = rw is.value at (digits_value-lt 8 text is.digits) in
    let same : 8 ^ length text ≡ 4096 = ap (λ n. 8 ^ n) is.length in
    omega arith

module _ (ports : Registers) (rows : ℕ) where
  -- the lines so far are gathered for so many rows
  record AreGathered (before : List ScaleLine) : Type 0 where
    pub of_cells : List Tag
    pub of_inputs : List Tag
    pub of_outputs : List Tag
    pub of_rows : List (Option RowTags)
    pub count : length of_rows ≡ rows
    pub ended : Bool
    pub gathered : Gathered of_cells of_inputs of_outputs of_rows ended before

  nothing : AreGathered []
  nothing = record {
    of_cells = replicate 4096 Raw;
    of_inputs = replicate 4096 Raw;
    of_outputs = replicate 4096 Raw;
    of_rows = replicate rows None;
    count = length-replicate {A = Option RowTags} rows None;
    ended = false;
    gathered = nothing_gathered rows;
  }

  line_gathered : (before : List ScaleLine) (line : List ℕ) (its : ScaleLine) (version : ℕ) → States line its → AreGathered before
      → (faults ports rows).fault_after version before its ≡ None → AreGathered (its ∷ before)
  line_gathered before line (Scaled table its) version states are none =
      let unended = no_fault (has_ended is_end before) BadLine (line_fault ports rows before (Scaled table its)) none in
      let stands = no_fault (not (may_stand ports table its.address)) BadLine _ unended.1 in
      let once = no_fault (has_address (entries table before) its.address) Twice _ stands.1 in
      record {
        of_cells = with_scale Cell table are.of_cells its;
        of_inputs = with_scale In table are.of_inputs its;
        of_outputs = with_scale Out table are.of_outputs its;
        of_rows = are.of_rows;
        count = are.count;
        ended = false;
        gathered = entry_more are.of_cells are.of_inputs are.of_outputs are.of_rows are.ended before table its are.gathered (small_address states.place its.address states.address_is) once.0;
      }
  line_gathered before line (Tagged its) version states are none =
      let unended = no_fault (has_ended is_end before) BadLine (line_fault ports rows before (Tagged its)) none in
      let once = no_fault (has_row (row_entries before) its.row) Twice _ unended.1 in
      let here = no_fault (its.row == 0 || nat_lt rows its.row) NoRow _ once.1 in
      let so = are.gathered in
      record {
        of_cells = are.of_cells;
        of_inputs = are.of_inputs;
        of_outputs = are.of_outputs;
        of_rows = set are.of_rows (its.row - 1) (Some its.tags);
        count = length-set are.of_rows (its.row - 1) (Some its.tags) ∙ are.count;
        ended = false;
        gathered = record {
          cells_are = so.cells_are;
          inputs_are = so.inputs_are;
          outputs_are = so.outputs_are;
          rows_are = rows_more before are.of_rows its so.rows_are (rw are.count here.0) once.0;
          cell_count = so.cell_count;
          input_count = so.input_count;
          output_count = so.output_count;
          ended_is = refl;
        };
      }
  line_gathered before line End version states are none =
      let so = are.gathered in
      record {
        of_cells = are.of_cells;
        of_inputs = are.of_inputs;
        of_outputs = are.of_outputs;
        of_rows = are.of_rows;
        count = are.count;
        ended = true;
        gathered = record {
          cells_are = so.cells_are;
          inputs_are = so.inputs_are;
          outputs_are = so.outputs_are;
          rows_are = so.rows_are;
          cell_count = so.cell_count;
          input_count = so.input_count;
          output_count = so.output_count;
          ended_is = refl;
        };
      }

  -- a text without a fault has tags
  scales_of : (text : List ℕ) (lines : List ScaleLine) → IsTextOf scales_name 1 States (faults ports rows) text lines → (scales : Scaling) × AreScales rows lines scales
  scales_of text lines is =
      let all = text_kept scales_name 1 States (faults ports rows) AreGathered line_gathered nothing text lines is in
      let scales : Scaling = record { cells = all.of_cells; inputs = all.of_inputs; outputs = all.of_outputs; rows = rows_where all.of_rows } in
      (scales, subst (λ (n : ℕ). AreScales n lines scales) all.count (all_stated all.of_cells all.of_inputs all.of_outputs all.of_rows all.ended lines all.gathered))

  pub some_scales : (text : List ℕ)
      → ((lines : List ScaleLine) × IsTextOf scales_name 1 States (faults ports rows) text lines) ⊎ ((line : ℕ) × (kind : ScaleKind) × IsFaultyScales ports rows text line kind)
      → ((scales : Scaling) × IsScalesOf ports rows text scales) ⊎ ((line : ℕ) × (kind : ScaleKind) × IsFaultyScales ports rows text line kind)
  some_scales text (inl fine) =
      let found = scales_of text fine.0 fine.1 in
      inl (found.0, record { lines = fine.0; is_text = fine.1; are_scales = found.1 })
  some_scales text (inr faulty) = inr faulty

-- ---- a text means something, and one thing

each_line : EachIsRead States
each_line line = some_reading States some_statement line

one_line : (line : List ℕ) (reading other : Reading ScaleLine) → IsReading States line reading → IsReading States line other → reading ≡ other
one_line line reading other is also = one_reading States line (one_statement line) (idle_states_nothing line) reading other is also

some_opening : (line : List ℕ) → (reading : Reading ScaleLine) × IsFirstReading scales_name 1 line reading
some_opening line = some_first_reading scales_name 1 line name_field

one_opening : (line : List ℕ) (reading other : Reading ScaleLine) → IsFirstReading scales_name 1 line reading → IsFirstReading scales_name 1 line other → reading ≡ other
one_opening line reading other is also = one_first_reading scales_name 1 line reading other name_field is also

module _ (ports : Registers) (rows : ℕ) (text : List ℕ) where
  pub each_text_means : ((scales : Scaling) × IsScalesOf ports rows text scales) ⊎ ((line : ℕ) × (kind : ScaleKind) × IsFaultyScales ports rows text line kind)
  each_text_means = some_scales ports rows text (statements.some_meaning scales_name 1 States some_opening one_opening each_line one_line (faults ports rows) text)

  pub one_scales_of : (one other : Scaling) → IsScalesOf ports rows text one → IsScalesOf ports rows text other → one ≡ other
  one_scales_of one other is also =
      let lines = statements.one_text scales_name 1 States some_opening one_opening each_line one_line (faults ports rows) text is.lines also.lines is.is_text also.is_text in
      one_scales rows is.lines one other is.are_scales (subst (λ (l : List ScaleLine). AreScales rows l other) (sym lines) also.are_scales)

  pub one_fault_of : (line other_line : ℕ) (kind other_kind : ScaleKind) → IsFaultyScales ports rows text line kind → IsFaultyScales ports rows text other_line other_kind
      → (line ≡ other_line) × (kind ≡ other_kind)
  one_fault_of line other_line kind other_kind is also =
      statements.one_fault scales_name 1 States some_opening one_opening each_line one_line (faults ports rows) text line other_line kind other_kind is also

  pub never_both : (scales : Scaling) (line : ℕ) (kind : ScaleKind) → IsScalesOf ports rows text scales → IsFaultyScales ports rows text line kind → ⊥
  never_both scales line kind is faulty =
      statements.not_both scales_name 1 States some_opening one_opening each_line one_line (faults ports rows) text is.lines line kind is.is_text faulty
