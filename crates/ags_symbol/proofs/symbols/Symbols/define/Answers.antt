use Rattle.std.proofs.Common.{rules}
use Rattle.ags_symbol.proofs.symbols.Symbols.define.Goals as goal

pub push-requires-clause-new : goal.push-requires-clause-new
push-requires-clause-new c = search rules

pub returns-clause-once : goal.returns-clause-once
returns-clause-once c = search rules

pub returns-clause-refused : goal.returns-clause-refused
returns-clause-refused c = search rules

pub returns-in-Some-clause-twice : goal.returns-in-Some-clause-twice
returns-in-Some-clause-twice c = search rules

pub returns-in-Some-clause-refused : goal.returns-in-Some-clause-refused
returns-in-Some-clause-refused c = search rules
