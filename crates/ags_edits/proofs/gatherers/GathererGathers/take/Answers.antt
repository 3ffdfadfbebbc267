use Rattle.ags_edits.proofs.LineLemmas.{row_is, word_below}
use Rattle.ags_edits.proofs.gatherers.GathererGathers.take.Goals as goal

pub take_word-requires-clause-word : goal.take_word-requires-clause-word
take_word-requires-clause-word c = word_below c.requires.0 c.in-Word.its (rw c.in-Word.is at c.requires.1)

pub take_row-requires-clause-row : goal.take_row-requires-clause-row
take_row-requires-clause-row c = row_is c.requires.0 c.in-Row.its (rw c.in-Row.is at c.requires.1)

pub returns-in-Word : goal.returns-in-Word
returns-in-Word c = record {
  taken = rw c.in-Word.is (c.take_word.ensures.taken c.args.version);
  untaken = rw c.in-Word.is (c.take_word.ensures.untaken c.args.version);
  stays = tt;
}

pub returns-in-Cell : goal.returns-in-Cell
returns-in-Cell c = record {
  taken = rw c.in-Cell.is (c.take_cell.ensures.taken c.args.version);
  untaken = rw c.in-Cell.is (c.take_cell.ensures.untaken c.args.version);
  stays = tt;
}

pub returns-in-Row : goal.returns-in-Row
returns-in-Row c = record {
  taken = rw c.in-Row.is (c.take_row.ensures.taken c.args.version);
  untaken = rw c.in-Row.is (c.take_row.ensures.untaken c.args.version);
  stays = tt;
}

pub returns-in-At : goal.returns-in-At
returns-in-At c = record {
  taken = rw c.in-At.is (c.take_at.ensures.taken c.args.version);
  untaken = rw c.in-At.is (c.take_at.ensures.untaken c.args.version);
  stays = tt;
}

pub returns-in-Linked : goal.returns-in-Linked
returns-in-Linked c = record {
  taken = rw c.in-Linked.is (c.take_link.ensures.taken c.args.version);
  untaken = rw c.in-Linked.is (c.take_link.ensures.untaken c.args.version);
  stays = tt;
}
