use Rattle.std.proofs.Common.{refl, sym, ◌∙◌, arith}
use Rattle.ags_text.specs.LineView.{line_at}
use Rattle.ags_statements.proofs.ReadLemmas.{SoFar-first, SoFar-more, SoFar-few, SoFar-missing, SoFar-all, opening_refused, empty_refused, refused_at}
use Rattle.ags_statements.proofs.reading.read_text.Goals as goal

-- there is no line
pub returns-in_default-clause-refused : goal.returns-in_default-clause-refused
returns-in_default-clause-refused g c =
    rw c.bad_line.ensures (empty_refused c.args.name.now c.args.latest g.G.Statements.states (g.G.Gathers.faults c.args.gathering) g.G.Gathers.gathered c.args.bytes.now 0
    (sym c.of-lines.ensures.lines ∙ c.in_default.ensures.steps.0))

-- the first line is at fault
pub returns-in-Err-clause-refused : goal.returns-in-Err-clause-refused
returns-in-Err-clause-refused g c =
    let told = c.in-Err.ensures.refused in
    opening_refused c.args.name.now c.args.latest g.G.Statements.states (g.G.Gathers.faults c.args.gathering) g.G.Gathers.gathered c.args.bytes.now 0
    c.line_has_one_reading.ensures.some (line_at c.in-Some.first) c.next.new.self told.0 c.in-Err.fault
    (sym c.of-lines.ensures.lines ∙ c.in-Some.ensures.steps) told.1 told.2

pub loop-line-init : goal.loop-line-init
loop-line-init g c =
    let opens = c.in-Ok.ensures.opens in
    let whole = sym c.of-lines.ensures.lines ∙ c.in-Some.ensures.steps in
    record {
      so_far = rw c.into_iter-line-iterator.ensures.into_iter_gives (SoFar-first c.args.name.now c.args.latest g.G.Statements.states (g.G.Gathers.faults c.args.gathering) g.G.Gathers.gathered c.args.bytes.now c.in-Ok.version
          (line_at c.in-Some.first) c.next.new.self c.args.gathering whole (rw c.in-Some.ensures.steps at c.of-lines.ensures.follow) opens.0 opens.1 c.requires.nothing);
      stays = g.met.G.Gathers.stays_at_once c.args.gathering;
    }

pub overflow_add-number : goal.overflow_add-number
overflow_add-number g c =
    let few = SoFar-few c.args.name.now c.args.latest g.G.Statements.states (g.G.Gathers.faults c.args.gathering) g.G.Gathers.gathered c.args.bytes.now c.in-Ok.version
    c.loop-line.line-iterator c.loop-line.gathering c.loop-line.number c.loop-line.invariant.so_far in
    omega (arith, few, c.requires.few)

-- a further line is at fault
pub returns-in-Err-take_line-clause-refused : goal.returns-in-Err-take_line-clause-refused
returns-in-Err-take_line-clause-refused g c =
    rw c.at_line.ensures (refused_at c.args.name.now c.args.latest g.G.Statements.states (g.G.Gathers.faults c.args.gathering) g.G.Gathers.gathered c.args.bytes.now c.in-Ok.version
    (line_at c.in-Some-line.line) c.next-in-loop-line.new.self c.loop-line.gathering c.loop-line.number
    (rw c.in-Some-line.ensures.steps at c.loop-line.invariant.so_far) c.line_has_one_reading.ensures.some c.in-Err-take_line.why
    (rw (g.met.G.Gathers.faults_stay c.args.gathering c.loop-line.gathering c.loop-line.invariant.stays) at c.in-Err-take_line.ensures.untaken))

pub loop-line-preserved : goal.loop-line-preserved
loop-line-preserved g c = record {
  so_far = SoFar-more c.args.name.now c.args.latest g.G.Statements.states (g.G.Gathers.faults c.args.gathering) g.G.Gathers.gathered c.args.bytes.now c.in-Ok.version
      (line_at c.in-Some-line.line) c.next-in-loop-line.new.self c.loop-line.gathering c.loop-line.number
      (rw c.in-Some-line.ensures.steps at c.loop-line.invariant.so_far) c.take_line.new.gathering
      (rw (g.met.G.Gathers.faults_stay c.args.gathering c.loop-line.gathering c.loop-line.invariant.stays) at c.in_default-take_line.ensures.taken);
  stays = g.met.G.Gathers.stays_on c.args.gathering c.loop-line.gathering c.take_line.new.gathering c.loop-line.invariant.stays c.take_line.ensures.stays;
}

pub overflow_add-result : goal.overflow_add-result
overflow_add-result g c =
    let few = SoFar-few c.args.name.now c.args.latest g.G.Statements.states (g.G.Gathers.faults c.args.gathering) g.G.Gathers.gathered c.args.bytes.now c.in-Ok.version
    c.loop-line.line-iterator c.loop-line.gathering c.loop-line.number c.loop-line.invariant.so_far in
    omega (arith, few, c.requires.few)

-- all lines are read
pub returns-then-has_ended-clause-read : goal.returns-then-has_ended-clause-read
returns-then-has_ended-clause-read g c =
    let so = rw c.in-None.ensures.steps.0 at c.loop-line.invariant.so_far in
    SoFar-all c.args.name.now c.args.latest g.G.Statements.states (g.G.Gathers.faults c.args.gathering) g.G.Gathers.gathered c.args.bytes.now c.in-Ok.version
    c.loop-line.gathering c.loop-line.number so (rw (g.met.G.Gathers.faults_stay c.args.gathering c.loop-line.gathering c.loop-line.invariant.stays) at (sym (c.has_ended.ensures _ so.stands) ∙ c.if-has_ended.true))

pub returns-then-has_ended-clause-stays : goal.returns-then-has_ended-clause-stays
returns-then-has_ended-clause-stays g c = c.loop-line.invariant.stays

-- the end is missing
pub returns-else-has_ended-clause-refused : goal.returns-else-has_ended-clause-refused
returns-else-has_ended-clause-refused g c =
    let so = rw c.in-None.ensures.steps.0 at c.loop-line.invariant.so_far in
    rw (c.bad_line-else-has_ended.ensures, (g.met.G.Gathers.faults_stay c.args.gathering c.loop-line.gathering c.loop-line.invariant.stays))
    (SoFar-missing c.args.name.now c.args.latest g.G.Statements.states (g.G.Gathers.faults c.args.gathering) g.G.Gathers.gathered c.args.bytes.now c.in-Ok.version
    c.loop-line.gathering c.loop-line.number so (rw (g.met.G.Gathers.faults_stay c.args.gathering c.loop-line.gathering c.loop-line.invariant.stays) at (sym (c.has_ended.ensures _ so.stands) ∙ c.if-has_ended.false)))
