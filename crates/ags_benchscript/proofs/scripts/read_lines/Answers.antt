use Rattle.std.proofs.lemmas.Result.{err_from_is_err_and}
use Rattle.ags_text.specs.LineView.{line_at}
use Rattle.ags_benchscript.proofs.ScriptLemmas.{SoFar-none, SoFar-more, SoFar-fault, SoFar-all}
use Rattle.ags_benchscript.proofs.scripts.read_lines.Goals as goal

pub loop-line-init : goal.loop-line-init
loop-line-init c = record {
  so_far =
      rw (c.into_iter-line-iterator.ensures.into_iter_gives, c.of-line-items.ensures.lines, c.new-reader.ensures.none)
      (SoFar-none c.args.machine.now c.args.bytes.now (rw c.of-line-items.ensures.lines at c.of-line-items.ensures.follow));
  tally = c.new-reader.ensures.tally;
}

pub loop-line-preserved : goal.loop-line-preserved
loop-line-preserved c =
    let fine = c.in_ok-add_line.ensures.fine in
    record {
      so_far =
          SoFar-more c.args.machine.now c.args.bytes.now c.next.new.self c.loop-line.reader.asked.items c.add_line.new.self.asked.items c.loop-line.number (line_at c.in-Some.line)
          (rw c.in-Some.ensures.steps at c.loop-line.invariant.so_far) fine.0 fine.2;
      tally = fine.1;
    }

pub returns-in_err-add_line-clause-refused : goal.returns-in_err-add_line-clause-refused
returns-in_err-add_line-clause-refused c =
    let p = err_from_is_err_and c.from_residual.result c.from_residual.ensures.1 in
    rw (p.1, p.2) (SoFar-fault c.args.machine.now c.args.bytes.now c.next.new.self c.loop-line.reader.asked.items c.loop-line.number (line_at c.in-Some.line) _
    (rw c.in-Some.ensures.steps at c.loop-line.invariant.so_far) c.in_err-add_line.ensures.faulty)

pub returns-clause-read : goal.returns-clause-read
returns-clause-read c =
    SoFar-all c.args.machine.now c.args.bytes.now c.loop-line.reader.asked.items c.loop-line.number (rw c.in-None.ensures.steps.0 at c.loop-line.invariant.so_far)
