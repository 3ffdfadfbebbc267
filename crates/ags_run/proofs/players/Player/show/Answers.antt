use Rattle.ags_run.proofs.CommandLemmas.{shown_by_none}
use Rattle.ags_run.proofs.JoinLemmas.{none_played, unfailed}
use Rattle.ags_run.proofs.players.Player.show.Goals as goal

pub show_cell-requires : goal.show_cell-requires
show_cell-requires g c = rw c.in-ShowCell.is at c.requires

pub show_out-requires : goal.show_out-requires
show_out-requires g c = rw c.in-ShowOut.is at c.requires

pub returns-in-ShowReg : goal.returns-in-ShowReg
returns-in-ShowReg g c = record {
  shown = rw c.in-ShowReg.is c.show_reg.ensures.shown;
  part = rw c.in-ShowReg.is c.show_reg.ensures.part;
  faults = c.show_reg.ensures.faults;
}

pub returns-in-ShowCell : goal.returns-in-ShowCell
returns-in-ShowCell g c = record {
  shown = rw c.in-ShowCell.is c.show_cell.ensures.shown;
  part = rw c.in-ShowCell.is c.show_cell.ensures.part;
  faults = c.show_cell.ensures.faults;
}

pub returns-in-ShowOut : goal.returns-in-ShowOut
returns-in-ShowOut g c = record {
  shown = rw c.in-ShowOut.is c.show_out.ensures.shown;
  part = rw c.in-ShowOut.is c.show_out.ensures.part;
  faults = c.show_out.ensures.faults;
}

pub returns-in-ShowDeda : goal.returns-in-ShowDeda
returns-in-ShowDeda g c = record {
  shown = rw c.in-ShowDeda.is c.show_deda.ensures.shown;
  part = rw c.in-ShowDeda.is c.show_deda.ensures.part;
  faults = c.show_deda.ensures.faults;
}

pub returns-in_default : goal.returns-in_default
returns-in_default g c = record {
  shown = rw (shown_by_none c.args.command.now c.in_default.not-ShowReg c.in_default.not-ShowCell c.in_default.not-ShowOut c.in_default.not-ShowDeda) (none_played (g.K.Sink.told c.args.out.now) c.args.self.now);
  part = tt;
  faults = unfailed (g.K.Sink.faults c.args.out.now);
}
