use Rattle.ags_statements.proofs.MeaningLemmas.{some_meaning, one_text, one_fault, not_both}
use Rattle.ags_statements.proofs.laws.text_of_statements_has_one_meaning.Goals as goal

pub returns-clause-some : goal.returns-clause-some
returns-clause-some g c name latest its text field =
    let first = c.first_line_has_one_reading.ensures in
    let further = c.line_has_one_reading.ensures in
    some_meaning name latest g.T.Statements.states (λ line. first.some name latest line field) (λ line reading other. first.one name latest line reading other field) further.some further.one its text

pub returns-clause-text : goal.returns-clause-text
returns-clause-text g c name latest its text one other field =
    let first = c.first_line_has_one_reading.ensures in
    let further = c.line_has_one_reading.ensures in
    one_text name latest g.T.Statements.states (λ line. first.some name latest line field) (λ line reading other. first.one name latest line reading other field) further.some further.one its text one other

pub returns-clause-fault : goal.returns-clause-fault
returns-clause-fault g c name latest its text line other_line fault other_fault field =
    let first = c.first_line_has_one_reading.ensures in
    let further = c.line_has_one_reading.ensures in
    one_fault name latest g.T.Statements.states (λ line. first.some name latest line field) (λ line reading other. first.one name latest line reading other field) further.some further.one its text
    line other_line fault other_fault

pub returns-clause-not_both : goal.returns-clause-not_both
returns-clause-not_both g c name latest its text statements line fault field =
    let first = c.first_line_has_one_reading.ensures in
    let further = c.line_has_one_reading.ensures in
    not_both name latest g.T.Statements.states (λ line. first.some name latest line field) (λ line reading other. first.one name latest line reading other field) further.some further.one its text
    statements line fault
