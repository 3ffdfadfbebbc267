use Rattle.std.proofs.Common.{◌≡◌, true, false, arith, refl, sym, ap, ◌∙◌, length, Ok, lt-ltb, le-ltb}
use Rattle.std.specs.List.{list_all}
use Rattle.std.specs.Prelude.{nat_lt}
use Rattle.ags_card.specs.Spelling.{is_allowed}
use Rattle.ags_card.specs.Reading.{reading, is_comment}
use Rattle.ags_card.proofs.TermLemmas.{operand_short}
use Rattle.ags_card.proofs.reading.read_card_into.Goals as goal

pub read_fields-requires : goal.read_fields-requires
read_fields-requires c = rw c.split_fields-fields.ensures.operand (omega (arith, operand_short c.args.line.now))

pub returns-then-not-are_allowed : goal.returns-then-not-are_allowed
unfolding reading
returns-then-not-are_allowed c =
    let bad : list_all is_allowed c.args.line.now ≡ false = sym c.are_allowed.ensures ∙ c.if-not-are_allowed.true in
    record { read = tt; fault = rw bad refl }

pub returns-then-line-gt-MOST_BYTES : goal.returns-then-line-gt-MOST_BYTES
unfolding reading
returns-then-line-gt-MOST_BYTES c =
    let allowed : list_all is_allowed c.args.line.now ≡ true = sym c.are_allowed.ensures ∙ c.if-not-are_allowed.false in
    let long : nat_lt (length c.args.line.now) 121 ≡ false = le-ltb _ 121 (omega (arith, c.if-line-gt-MOST_BYTES.true)) in
    record { read = tt; fault = rw (allowed, long) refl }

pub returns-then-is_comment : goal.returns-then-is_comment
unfolding reading
returns-then-is_comment c =
    let allowed : list_all is_allowed c.args.line.now ≡ true = sym c.are_allowed.ensures ∙ c.if-not-are_allowed.false in
    let short : nat_lt (length c.args.line.now) 121 ≡ true = lt-ltb _ 121 (omega (arith, c.if-line-gt-MOST_BYTES.false)) in
    let comment : is_comment c.args.line.now ≡ true = sym c.is_comment.ensures ∙ c.if-is_comment.true in
    record { read = rw (allowed, short, comment) (ap Ok (sym c.comment.ensures)); fault = tt }

pub returns : goal.returns
unfolding reading
returns c =
    let allowed : list_all is_allowed c.args.line.now ≡ true = sym c.are_allowed.ensures ∙ c.if-not-are_allowed.false in
    let short : nat_lt (length c.args.line.now) 121 ≡ true = lt-ltb _ 121 (omega (arith, c.if-line-gt-MOST_BYTES.false)) in
    let card : is_comment c.args.line.now ≡ false = sym c.is_comment.ensures ∙ c.if-is_comment.false in
    let fields = c.split_fields-fields.ensures in
    record {
      read = rw (allowed, short, card, ← fields.symbol, ← fields.operation, ← fields.operand) c.read_fields.ensures.read;
      fault = rw (allowed, short, card, ← fields.symbol, ← fields.operation, ← fields.operand) c.read_fields.ensures.fault;
    }
