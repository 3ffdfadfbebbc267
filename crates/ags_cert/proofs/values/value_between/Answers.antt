use Rattle.std.proofs.Common.{Some, [], sym, ◌∙◌, rules}
use Rattle.ags_cert.proofs.LongestLemmas.{part_whole, part_begins, told_stands, no_word_behind, none_left, some_left}
use Rattle.ags_cert.proofs.values.value_between.Goals as goal

pub returns-in_default-clause-only : goal.returns-in_default-clause-only
returns-in_default-clause-only c = λ value is.
    let whole = part_whole c.args.line.now c.args.from c.args.behind c.requires.ordered in
    absurd (c.in_default.ensures.only (Some value) [] (part_begins c.args.line.now _ c.args.from c.args.behind value whole is) (λ listed. no_word_behind))

pub returns-then-is_empty-clause-found : goal.returns-then-is_empty-clause-found
returns-then-is_empty-clause-found c =
    let whole = part_whole c.args.line.now c.args.from c.args.behind c.requires.ordered in
    told_stands c.args.line.now _ c.in-Some.rest.now c.requires.behind_one.0 c.args.from c.args.behind c.in-Some.value c.requires.within c.requires.behind_one.1 whole
    (none_left c.in-Some.rest.now (sym c.is_empty.ensures ∙ c.if-is_empty.true)) c.in-Some.ensures.found

pub returns-then-is_empty-clause-only : goal.returns-then-is_empty-clause-only
returns-then-is_empty-clause-only c = λ value is.
    let whole = part_whole c.args.line.now c.args.from c.args.behind c.requires.ordered in
    (c.in-Some.ensures.only (Some value) [] (part_begins c.args.line.now _ c.args.from c.args.behind value whole is) (λ listed. no_word_behind)).0

pub returns-else-is_empty-clause-only : goal.returns-else-is_empty-clause-only
returns-else-is_empty-clause-only c = λ value is.
    let whole = part_whole c.args.line.now c.args.from c.args.behind c.requires.ordered in
    absurd (some_left c.in-Some.rest.now c.if-is_empty.ensures
    (c.in-Some.ensures.only (Some value) [] (part_begins c.args.line.now _ c.args.from c.args.behind value whole is) (λ listed. no_word_behind)).1)

pub returns-else-is_empty-clause-found : goal.returns-else-is_empty-clause-found
returns-else-is_empty-clause-found c = search rules
