use Rattle.std.proofs.Common.{◌≡◌, true, refl, sym, ◌∙◌, arith}
use Rattle.ags_card.specs.Symbol.{is_symbol}
use Rattle.ags_card.proofs.SymbolLemmas.{take-padded, is_symbol-IsSymbol}
use Rattle.ags_card.proofs.names.Name.of.Goals as goal

pub invariant_of-result : goal.invariant_of-result
invariant_of-result c =
    let text = c.args.text.now in
    let is : is_symbol text ≡ true = sym c.is_symbol.ensures ∙ c.if-not-is_symbol.false in
    let symbol = is_symbol-IsSymbol text is in
    let same = take-padded text symbol.most in
    rw (c.pad.ensures, same) (refl, refl, is)

pub returns : goal.returns
returns c =
    let text = c.args.text.now in
    let is : is_symbol text ≡ true = sym c.is_symbol.ensures ∙ c.if-not-is_symbol.false in
    let symbol = is_symbol-IsSymbol text is in
    let same = take-padded text symbol.most in
    rw (c.pad.ensures, same, is) refl

pub overflow_cast-result : goal.overflow_cast-result
overflow_cast-result c =
    let symbol = is_symbol-IsSymbol c.args.text.now (sym c.is_symbol.ensures ∙ c.if-not-is_symbol.false) in
    omega (arith, symbol.most)
