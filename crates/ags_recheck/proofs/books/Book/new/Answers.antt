use Rattle.std.proofs.Common.{rules, ◌≡◌, refl, sym, ◌∙◌, length}
use Rattle.ags_recheck.proofs.BookLemmas.{book_made}
use Rattle.ags_recheck.proofs.books.Book.new.Goals as goal

pub invariant_of-result : goal.invariant_of-result
invariant_of-result g c =
    let len : length c.in_ok-items.items.items ≡ c.in_ok-items.items.len = search rules in
    let made : length c.in_ok-items.items.items ≡ length c.args.cert.rows = search rules in
    book_made c.args.machine c.args.image c.args.cert c.judge_all.new.items _ c.in_ok-items.items.len c.judge_all.ensures.whole
    (c.judge_all.ensures.whole ∙ sym made ∙ len) c.judge_all.ensures.kept

pub returns : goal.returns
returns g c = record { book = refl; steps = c.judge_all.ensures.steps }
