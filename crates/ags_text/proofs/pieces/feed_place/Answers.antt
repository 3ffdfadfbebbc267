use Rattle.ags_text.proofs.CutAt.{front_clause, cut_clause, none_clause}
use Rattle.ags_text.proofs.pieces.feed_place.Goals as goal

pub returns-clause-front : goal.returns-clause-front
returns-clause-front c = front_clause c.args.text.now c.first_place.result c.first_place.ensures

pub returns-clause-cut : goal.returns-clause-cut
returns-clause-cut c = cut_clause c.args.text.now c.first_place.result c.first_place.ensures

pub returns-clause-none : goal.returns-clause-none
returns-clause-none c = none_clause c.args.text.now c.first_place.result c.first_place.ensures
