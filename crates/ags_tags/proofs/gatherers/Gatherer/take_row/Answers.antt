use Rattle.std.proofs.Common.{refl, sym, ◌∙◌}
use Rattle.ags_tags.proofs.TagLemmas.{row_noted, row_not_named, rows_more}
use Rattle.ags_tags.proofs.gatherers.Gatherer.take_row.Goals as goal

pub returns-then-has_no_row-clause-untaken : goal.returns-then-has_no_row-clause-untaken
returns-then-has_no_row-clause-untaken c = λ version before so.
    let out = sym c.has_no_row.ensures ∙ c.if-has_no_row.true in
    let ended = sym so.ended_is ∙ c.requires in
    let other = row_not_named before c.args.self.now.rows.items c.args.its.row so.rows_are out in
    rw (ended, other, out) refl

pub returns-clause-taken : goal.returns-clause-taken
returns-clause-taken c = λ version before so.
    let inside = sym c.has_no_row.ensures ∙ c.if-has_no_row.false in
    let fresh = sym (row_noted before c.args.self.now.rows.items c.args.its.row so.rows_are inside) ∙ (rw inside at (sym c.is_noted.ensures ∙ c.if-is_noted.false)) in
    let ended = sym so.ended_is ∙ c.requires in (
      rw (ended, fresh, inside) refl,
      record {
        cells_are = so.cells_are;
        inputs_are = so.inputs_are;
        outputs_are = so.outputs_are;
        rows_are = rows_more before c.args.self.now.rows.items c.args.its so.rows_are inside fresh;
        cell_count = so.cell_count;
        input_count = so.input_count;
        output_count = so.output_count;
        ended_is = c.requires;
      },
    )
