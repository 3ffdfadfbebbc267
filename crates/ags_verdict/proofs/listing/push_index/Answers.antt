use Rattle.std.proofs.Common.{◌≡◌, ℕ, ◌+◌, ◌<◌, ◌≤◌, Bool, true, false, List, [], ◌∷◌, ◌++◌, get_or, sym, ap, ◌∙◌, arith}
use Rattle.std.specs.Prelude.{if◌then◌else◌}
use Rattle.std.proofs.lemmas.List.{append_assoc, map-append}
use Rattle.ags_verdict.specs.RowCase.{RowCase, indicators, with_index}
use Rattle.ags_verdict.proofs.listing.push_index.Goals as goal

-- the cases with either indicator, one after the other
either : (before between after : List RowCase) (word x : ℕ) (read again flags : List Bool) → read ≡ flags → again ≡ flags
    → between ≡ before ++ with_index word x (if get_or read 0 false then false ∷ [] else [])
    → after ≡ between ++ with_index word x (if get_or again 1 false then true ∷ [] else [])
    → after ≡ before ++ with_index word x (indicators flags)
either before between after word x read again flags read_is again_is clear set =
    let first = λ (from : List Bool). if get_or from 0 false then false ∷ [] else [] in
    let second = λ (from : List Bool). if get_or from 1 false then true ∷ [] else [] in
    let pushed = with_index word x (second again) in
    set ∙ ap (λ (xs : List RowCase). xs ++ pushed) clear ∙ append_assoc before (with_index word x (first read)) pushed
    ∙ ap (λ (xs : List RowCase). before ++ xs) (sym (map-append _ (first read) (second again)))
    ∙ ap (λ (from : List Bool). before ++ with_index word x (first from ++ second again)) read_is
    ∙ ap (λ (from : List Bool). before ++ with_index word x (first flags ++ second from)) again_is

room_left : (before between : ℕ) → before ≤ 254 → between ≤ before + 1 → between < 256
room_left before between room few = omega arith

two_more : (before between after : ℕ) → between ≤ before + 1 → after ≤ between + 1 → after ≤ before + 2
two_more before between after first second = omega arith

pub push_if-requires-2-clause-room : goal.push_if-requires-2-clause-room
push_if-requires-2-clause-room g c = room_left _ _ c.requires.room c.push_if.ensures.few

pub returns-clause-list : goal.returns-clause-list
returns-clause-list g c = either c.args.cases.now c.push_if.new.cases c.push_if-2.new.cases c.args.word c.args.x c.v.result c.v-2.result c.args.row.now.v
    c.v.ensures c.v-2.ensures c.push_if.ensures.list c.push_if-2.ensures.list

pub returns-clause-few : goal.returns-clause-few
returns-clause-few g c = two_more _ _ _ c.push_if.ensures.few c.push_if-2.ensures.few
