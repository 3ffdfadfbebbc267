-- The operations of cards, by their names.
use Rattle.std.specs.Prelude.{ℕ, ◌||◌, ◌==◌, Bool, true, false, not, List, ◌∷◌, map, Option, nat_eq, codes}
use Rattle.std.specs.List.{find}
use Rattle.std.specs.Cmp.Lexicographic.{pointwise}
use Rattle.ags_isa.specs.declared.orders.Order.{Order}
use Rattle.ags_isa.specs.declared.orders.Order.TheVariants.{Abs, Com}
use Rattle.ags_isa.specs.Order.{order_number, order_name, all_orders}
use Rattle.ags_card.specs.declared.operations.Operation.{Operation}
use Rattle.ags_card.specs.declared.operations.Operation.TheVariants as op

-- an operation's name, as a card writes it
abbrev pub operation_name : Operation → List ℕ
operation_name (op.OfOrder order) = order_name order
operation_name op.Org = codes "ORG"
operation_name op.Equ = codes "EQU"
operation_name op.Syn = codes "SYN"
operation_name op.Bss = codes "BSS"
operation_name op.Bes = codes "BES"
operation_name op.Dec = codes "DEC"
operation_name op.Oct = codes "OCT"
operation_name op.End = codes "END"

-- all of them: the eight that are no orders, and the 27 orders
abbrev pub all_operations : List Operation
all_operations = op.Org ∷ op.Equ ∷ op.Syn ∷ op.Bss ∷ op.Bes ∷ op.Dec ∷ op.Oct ∷ op.End ∷ map op.OfOrder all_orders

-- the operation of a name, and nothing for a text that is no name
unfoldable pub operation_named : List ℕ → Option Operation
operation_named text = find (λ operation. pointwise nat_eq (operation_name operation) text) all_operations

-- ABS and COM, the orders without an address
abbrev pub is_bare : Order → Bool
is_bare order = order_number order == order_number Abs || order_number order == order_number Com

-- whether a card with this operation has an operand
abbrev pub takes_operand : Operation → Bool
takes_operand (op.OfOrder order) = not (is_bare order)
takes_operand op.Org = true
takes_operand op.Equ = true
takes_operand op.Syn = true
takes_operand op.Bss = true
takes_operand op.Bes = true
takes_operand op.Dec = true
takes_operand op.Oct = true
takes_operand op.End = false

-- whether its operand is an expression
abbrev pub takes_expression : Operation → Bool
takes_expression (op.OfOrder order) = not (is_bare order)
takes_expression op.Org = true
takes_expression op.Equ = true
takes_expression op.Syn = true
takes_expression op.Bss = true
takes_expression op.Bes = true
takes_expression op.Dec = false
takes_expression op.Oct = false
takes_expression op.End = false

-- whether its operand is one without a comma
abbrev pub takes_one : Operation → Bool
takes_one (op.OfOrder order) = false
takes_one op.Org = true
takes_one op.Equ = true
takes_one op.Syn = true
takes_one op.Bss = true
takes_one op.Bes = true
takes_one op.Dec = false
takes_one op.Oct = false
takes_one op.End = false

-- whether its operand is the value of its card's symbol, so that the card must have one
abbrev pub gives_value : Operation → Bool
gives_value (op.OfOrder order) = false
gives_value op.Org = false
gives_value op.Equ = true
gives_value op.Syn = true
gives_value op.Bss = false
gives_value op.Bes = false
gives_value op.Dec = false
gives_value op.Oct = false
gives_value op.End = false
