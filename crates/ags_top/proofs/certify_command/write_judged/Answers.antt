use Rattle.std.proofs.Common.{inl}
use Rattle.std.proofs.lemmas.Result.{err_from_is_err_and}
use Rattle.ags_plan.specs.Plan.{WorkAt}
use Rattle.ags_program.specs.Text.{verdict_line}
use Rattle.ags_program.specs.Views.{pair_of}
use Rattle.ags_program.specs.Work.{JudgePair, ListingBefore, verdict_status}
use Rattle.ags_program.proofs.ReadingLemmas.{counted_on}
use Rattle.ags_top.proofs.CertifyLemmas.{judgement_said, listing_said_in_part, verdict_said_in_part}
use Rattle.ags_played.proofs.SendingLemmas.{fault_with, said_with}
use Rattle.ags_top.proofs.certify_command.write_judged.Goals as goal

pub returns-in_err-send_listing-clause-says : goal.returns-in_err-send_listing-clause-says
returns-in_err-send_listing-clause-says g c =
    let p = err_from_is_err_and c.from_residual.result c.from_residual.ensures.1 in
    rw p.1 (inl (listing_said_in_part c.args.pair.now (g.K.Sink.told c.args.out.now) (g.K.Sink.told c.send_listing.new.out) (g.K.Sink.told c.send_listing.new.out)
    c.args.verdict.now c.requires.source c.requires.verdict (rw c.deref.ensures.value at c.in_err-send_listing.ensures.front)))

pub returns-clause-says : goal.returns-clause-says
returns-clause-says g c =
    let old = g.K.Sink.told c.args.out.now in
    let mid = g.K.Sink.told c.send_listing.new.out in
    let new = g.K.Sink.told c.send_line.new.out in
    let listed = rw c.deref.ensures.value at c.in_ok-send_listing.ensures.sent in
    rw (c.and.ensures, c.verdict_status.ensures) (said_with c.send_line.result (WorkAt (JudgePair (pair_of c.args.pair.now) ListingBefore)) old new (verdict_status c.args.verdict.now)
    (judgement_said c.args.pair.now old mid new c.args.verdict.now c.requires.source c.requires.verdict listed)
    (verdict_said_in_part c.args.pair.now old mid new c.args.verdict.now c.requires.source c.requires.verdict listed)
    (c.send_line.ensures.sent (verdict_line c.args.verdict.now) c.verdict_line.ensures) (c.send_line.ensures.front (verdict_line c.args.verdict.now) c.verdict_line.ensures))

pub returns-clause-faults : goal.returns-clause-faults
returns-clause-faults g c = rw (c.and.ensures, fault_with c.send_line.result c.verdict_status.result) (counted_on _ _ _ _ c.in_ok-send_listing.ensures.faults c.send_line.ensures.faults)
