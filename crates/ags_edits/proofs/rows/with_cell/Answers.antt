use Rattle.ags_edits.proofs.EditLemmas.{ascending_with_cell, few_with_cell}
use Rattle.ags_edits.proofs.rows.with_cell.Goals as goal

pub made_of-requires : goal.made_of-requires
made_of-requires c =
    let row = c.args.row.now in
    let its = c.args.its.now in
    record {
      location = rw c.location.ensures row.below;
      some_index = rw c.x.ensures row.some_index;
      some_indicator = rw c.v.ensures row.some_indicator;
      few = rw (c.in_ok-add_cell.ensures.added, c.in_ok-cells.ensures.items, c.at.ensures) (few_with_cell row its c.requires.faultless);
      ascending = rw (c.in_ok-add_cell.ensures.added, c.in_ok-cells.ensures.items, c.at.ensures) (ascending_with_cell row its c.requires.erasable c.requires.faultless);
      link = rw c.link.ensures row.linked;
    }
