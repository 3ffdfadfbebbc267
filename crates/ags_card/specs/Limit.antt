-- The limits that what a card asks for keeps.
use Rattle.std.specs.Prelude.{◌<◌, ◌^◌, All}
use Rattle.ags_decimal.specs.Decimal.{IsWithinLimits}
use Rattle.ags_card.specs.declared.cards.Body.{Body}
use Rattle.ags_card.specs.declared.cards.Body.TheVariants.{Comment, Order, Org, Equ, Bss, Bes, Dec, Oct, End}
use Rattle.ags_card.specs.Constant.{AreConstants}
use Rattle.ags_card.specs.Term.{AreTerms}

-- its terms are 1 to 64 with small numbers; its decimals are 1 to 64 within the limits of decimals, and its words are 1 to 64 words
abbrev pub KeepsLimits : Body → Type 0
KeepsLimits Comment = Unit {0}
KeepsLimits (Order order terms indexed) = AreTerms terms
KeepsLimits (Org terms) = AreTerms terms
KeepsLimits (Equ terms) = AreTerms terms
KeepsLimits (Bss terms) = AreTerms terms
KeepsLimits (Bes terms) = AreTerms terms
KeepsLimits (Dec numbers) = AreConstants numbers × All IsWithinLimits numbers
KeepsLimits (Oct words) = AreConstants words × All (λ word. word < 2 ^ 18) words
KeepsLimits End = Unit {0}
