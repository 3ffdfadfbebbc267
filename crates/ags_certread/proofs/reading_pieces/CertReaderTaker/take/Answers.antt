use Rattle.std.proofs.Common.{◌≡◌, false, sym, subst, ◌∙◌, ◌∷◌, [], ◌++◌, append_assoc}
use Rattle.ags_certread.specs.Kept.{Kept}
use Rattle.ags_certread.specs.NextState.{is_open}
use Rattle.ags_certread.specs.Pieces.{took_cert}
use Rattle.ags_outside.specs.Taken.{so_far_all, so_far_more}
use Rattle.ags_certread.proofs.StandLemmas.{dropped, on_ok}
use Rattle.ags_certread.proofs.reading_pieces.CertReaderTaker.take.Goals as goal

pub loop-left-preserved : goal.loop-left-preserved
loop-left-preserved c =
    let front = c.in-Some.front.now in
    let behind = c.in-Some.behind.now in
    record {
      taken = so_far_more took_cert c.args.self.now c.loop-left.self c.end_line.new.self c.args.piece.now c.loop-left.left.now (front ++ 10 ∷ []) behind c.loop-left.invariant.taken
          (c.in-Some.ensures.cut ∙ sym (append_assoc front (10 ∷ []) behind)) c.in_ok-end_line-in-Some.ensures.took;
      ports = c.end_line.ensures.ports ∙ c.loop-left.invariant.ports;
    }

pub returns-clause-took : goal.returns-clause-took
returns-clause-took c =
    let closed = subst (λ (k : Kept). is_open k.state ≡ false) c.self.view_is (sym c.are_open.ensures ∙ c.loop-left-test.false) in
    so_far_all took_cert c.args.self.now c.loop-left.self c.loop-left.self c.args.piece.now c.loop-left.left.now c.loop-left.invariant.taken
    (dropped c.loop-left.self c.loop-left.left.now closed)

pub returns-in-None-clause-took : goal.returns-in-None-clause-took
returns-in-None-clause-took c =
    on_ok c.hold.result
    (so_far_all took_cert c.args.self.now c.loop-left.self c.hold.new.self c.args.piece.now c.loop-left.left.now c.loop-left.invariant.taken)
    c.hold.ensures.took
