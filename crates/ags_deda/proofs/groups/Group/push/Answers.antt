use Rattle.std.proofs.Common.{◌≡◌, ◌%◌, length, arith}
use Rattle.ags_deda.proofs.GroupLemmas.{ninth}
use Rattle.ags_deda.proofs.groups.Group.push.Goals as goal

pub returns-clause-whole : goal.returns-clause-whole
returns-clause-whole c = λ digits is.
    let eight : length digits % 9 ≡ 8 = omega (arith, is.filled) in
    ninth c.args.self.now.digits digits c.args.digit (c.args.self.now.filled % 9) (omega arith) (omega arith) eight (rw eight at is.front)
