use Rattle.std.proofs.Common.{◌<◌, ◌^◌, arith}
use Rattle.std.proofs.lemmas.Nat.{or_lt}
use Rattle.ags_ports.proofs.addressing.with_index.Goals as goal

pub returns-clause-below : goal.returns-clause-below
returns-clause-below c =
    let small : c.args.index < 2 ^ 12 = omega arith in
    rw c.from.ensures (or_lt 12 c.args.address c.args.index c.requires.address small)
