use Rattle.std.proofs.Common.{◌≡◌, length, take, ap, arith}
use Rattle.std.proofs.lemmas.List.{length-take-le}
use Rattle.ags_domain.specs.WordList.{pushed}
use Rattle.ags_domain.proofs.word_lists.WordList.push.Goals as goal

pub invariant_of-self : goal.invariant_of-self
invariant_of-self c =
    let list = c.self.inside in
    let is = c.self.invariant in
    let many : length (take list.count list.words) ≡ list.count = length-take-le list.count list.words (omega arith) in
    let same = ap length c.self.view_is in
    pushed list.words list.count c.args.word (omega arith) is
