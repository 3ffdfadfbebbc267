use Rattle.std.proofs.Common.{◌≡◌, ℕ, ◌+◌, ◌<◌, List, ◌∷◌, length, drop, get_or, Option, Some, None, sym, ap, refl, ◌∙◌, arith}
use Rattle.std.specs.Prelude.{pos, unsigned_abs, unwrap_or}
use Rattle.std.proofs.lemmas.List.{drop_all, drop_more}
use Rattle.ags_isa.specs.Naming.{order_word}
use Rattle.ags_image.specs.Image.{with_word}
use Rattle.ags_symbol.specs.Symbol.{Entry}
use Rattle.ags_places.specs.declared.source_error.WordFault.{WordFault}
use Rattle.ags_asm.specs.HalfMade.{closed_into}
use Rattle.ags_asm.specs.Waiting.{Waiting, closed_sum, closing_fault}
use Rattle.ags_asm.specs.Word.{address_fault}
use Rattle.ags_asm.proofs.closing.close_all.Goals as goal

-- the order at a position, before those behind it
at_position : (waiting : List Waiting) (i : ℕ) (item : Waiting) → i < length waiting → item ≡ get_or waiting i item → drop i waiting ≡ item ∷ drop (i + 1) waiting
at_position waiting i item within at = drop_more waiting i item within ∙ ap (λ (one : Waiting). one ∷ drop (i + 1) waiting) (sym at)

fault_here : (S : List Entry) (waiting : List Waiting) (i : ℕ) (item mine : Waiting) (fault : WordFault) → i < length waiting → item ≡ get_or waiting i item → mine ≡ item
    → address_fault (closed_sum S item) ≡ Some fault → closing_fault S (drop i waiting) ≡ Some (mine.card, fault)
fault_here S waiting i item mine fault within at same is = rw (at_position waiting i item within at, is, same) refl

no_fault_here : (S : List Entry) (waiting : List Waiting) (i : ℕ) (item : Waiting) → i < length waiting → item ≡ get_or waiting i item
    → address_fault (closed_sum S item) ≡ None → closing_fault S (drop i waiting) ≡ closing_fault S (drop (i + 1) waiting)
no_fault_here S waiting i item within at none = rw (at_position waiting i item within at, none) refl

word_here : (codes : List ℕ) (S : List Entry) (image now : List (Option ℕ)) (waiting : List Waiting) (i : ℕ) (item mine : Waiting) (word address : ℕ) → i < length waiting → item ≡ get_or waiting i item → mine ≡ item
    → address ≡ unsigned_abs (unwrap_or (closed_sum S item) (pos 0)) → word ≡ order_word codes mine.order mine.indexed address → now ≡ with_word image mine.place word
    → closed_into codes S image (drop i waiting) ≡ closed_into codes S now (drop (i + 1) waiting)
word_here codes S image now waiting i item mine word address within at same address_is word_is now_is =
    rw (at_position waiting i item within at, now_is, word_is, address_is, same) refl

pub returns-in-Err-clause-fault : goal.returns-in-Err-clause-fault
returns-in-Err-clause-fault c =
    let own = c.fix_up.inside in
    let mine : Waiting = record { card = own.card; place = own.place; order = own.order; indexed = own.indexed; sum = own.sum; rest = own.rest } in
    c.loop-fix_up.invariant.fault
    ∙ fault_here c.args.symbols.now c.args.waiting.now c.loop-fix_up.fix_up-index c.fix_up-item.result mine c.in-Err.fault c.loop-fix_up-test.true c.fix_up-item.is c.fix_up.view_is c.in-Err.ensures.fault

pub returns-in-Err-clause-image : goal.returns-in-Err-clause-image
returns-in-Err-clause-image c = c.loop-fix_up.invariant.is_image

pub loop-fix_up-preserved : goal.loop-fix_up-preserved
loop-fix_up-preserved c =
    let own = c.fix_up.inside in
    let mine : Waiting = record { card = own.card; place = own.place; order = own.order; indexed = own.indexed; sum = own.sum; rest = own.rest } in
    record {
      fault = c.loop-fix_up.invariant.fault
          ∙ no_fault_here c.args.symbols.now c.args.waiting.now c.loop-fix_up.fix_up-index c.fix_up-item.result c.loop-fix_up-test.true c.fix_up-item.is c.in-Ok.ensures.faultless;
      image = c.loop-fix_up.invariant.image
          ∙ word_here c.args.codes.now c.args.symbols.now c.loop-fix_up.image c.set.new.self c.args.waiting.now c.loop-fix_up.fix_up-index c.fix_up-item.result mine c.encode-word.result c.in-Ok.address
          c.loop-fix_up-test.true c.fix_up-item.is c.fix_up.view_is c.in-Ok.ensures.address c.encode-word.ensures c.set.ensures.word;
      is_image = λ _. c.set.ensures.image;
    }

pub returns-clause-faultless : goal.returns-clause-faultless
returns-clause-faultless c = c.loop-fix_up.invariant.fault ∙ ap (closing_fault c.args.symbols.now) (drop_all c.loop-fix_up.fix_up-index c.args.waiting.now (omega (arith, c.loop-fix_up-test.false)))

pub returns-clause-closed : goal.returns-clause-closed
returns-clause-closed c =
    sym (c.loop-fix_up.invariant.image
    ∙ ap (closed_into c.args.codes.now c.args.symbols.now c.loop-fix_up.image) (drop_all c.loop-fix_up.fix_up-index c.args.waiting.now (omega (arith, c.loop-fix_up-test.false))))

pub returns-clause-image : goal.returns-clause-image
returns-clause-image c = c.loop-fix_up.invariant.is_image
