use Rattle.ags_card.proofs.LeastFaultLaws.{some_answer, not_both_answers, told_least, least_told}
use Rattle.ags_card.proofs.reading_laws.each_line_is_a_card_or_has_a_fault.Goals as goal

pub returns : goal.returns
returns c = record { some = some_answer; not_both = not_both_answers; least = told_least; told = least_told }
