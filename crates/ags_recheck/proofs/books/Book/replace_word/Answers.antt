use Rattle.std.proofs.Common.{rules, ◌≡◌, sym, ◌∙◌, length}
use Rattle.ags_recheck.proofs.BookLemmas.{book_made}
use Rattle.ags_recheck.proofs.books.Book.replace_word.Goals as goal

pub invariant_of-self : goal.invariant_of-self
invariant_of-self g c =
    let len : length c.self.inside.items.items ≡ c.self.inside.items.len = search rules in
    book_made c.self.inside.machine c.set.new.self c.self.inside.cert c.judge_all.new.items _ c.self.inside.items.len c.judge_all.ensures.whole
    (c.judge_all.ensures.whole ∙ sym c.self.invariant.whole ∙ len) c.judge_all.ensures.kept

pub returns-clause-bounded : goal.returns-clause-bounded
returns-clause-bounded g c = c.rows_have_one_number_of_cases.ensures.some c.set.new.self c.self.inside.cert.limits c.self.inside.cert.rows c.set.ensures.image
