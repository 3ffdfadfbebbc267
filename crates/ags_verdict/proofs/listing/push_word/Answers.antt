use Rattle.std.proofs.Common.{◌≡◌, ℕ, ◌+◌, ◌*◌, ◌≤◌, ◌<◌, List, length, take, arith}
use Rattle.std.proofs.lemmas.List.{take_all}
use Rattle.ags_verdict.specs.RowCase.{indicators}
use Rattle.ags_verdict.proofs.ListingLemmas.{index_further}
use Rattle.ags_verdict.proofs.listing.push_word.Goals as goal

two_more : (before now after x : ℕ) → now ≤ before + 2 * x → after ≤ now + 2 → after ≤ before + 2 * (x + 1)
two_more before now after x so_far more = omega arith

has_room : (before now x : ℕ) → before ≤ 240 → now ≤ before + 2 * x → x < 8 → now ≤ 254
has_room before now x few so_far inside = omega arith

sixteen_more : (before now x : ℕ) → now ≤ before + 2 * x → x ≤ 8 → now ≤ before + 16
sixteen_more before now x so_far end = omega arith

inside_all : {X : Type 0} (xs : List X) (x : ℕ) → length xs ≡ 8 → x < 8 → x < length xs
inside_all xs x is inside = omega arith

all_taken : {X : Type 0} (xs : List X) (x : ℕ) → length xs ≡ 8 → 8 ≤ x → take x xs ≡ xs
all_taken xs x is past = take_all x xs (omega arith)

pub push_index_if-requires-clause-room : goal.push_index_if-requires-clause-room
push_index_if-requires-clause-room g c = has_room (length c.args.cases.now) (length c.loop-x.cases) c.loop-x.x c.requires c.loop-x.invariant.1 c.loop-x-test.true

pub loop-x-preserved : goal.loop-x-preserved
loop-x-preserved g c = (
  index_further c.args.cases.now c.loop-x.cases c.push_index_if.new.cases c.args.word c.loop-x.x c.args.row.now.x (indicators c.args.row.now.v) c.has_index.result
      (inside_all c.args.row.now.x c.loop-x.x c.has_index.ensures.flags c.loop-x-test.true) c.has_index.ensures.flag c.loop-x.invariant.0 c.push_index_if.ensures.list,
  two_more (length c.args.cases.now) (length c.loop-x.cases) (length c.push_index_if.new.cases) c.loop-x.x c.loop-x.invariant.1 c.push_index_if.ensures.few,
)

pub returns-clause-list : goal.returns-clause-list
returns-clause-list g c =
    let all = all_taken c.args.row.now.x c.loop-x.x c.args.row.now.indices c.loop-x-test.false in
    rw all at c.loop-x.invariant.0

pub returns-clause-few : goal.returns-clause-few
returns-clause-few g c = sixteen_more (length c.args.cases.now) (length c.loop-x.cases) c.loop-x.x c.loop-x.invariant.1 c.loop-x.auto.x-end
