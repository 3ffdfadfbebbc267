use Rattle.std.proofs.Common.{rules}
use Rattle.ags_card.proofs.fields.split_fields.Goals as goal

pub returns-clause-symbol : goal.returns-clause-symbol
returns-clause-symbol c = search rules

pub returns-clause-operation : goal.returns-clause-operation
returns-clause-operation c = search rules

pub returns-clause-operand : goal.returns-clause-operand
returns-clause-operand c = search rules
