use Rattle.std.proofs.Common.{◌≡◌, ℕ, ◌+◌, ◌*◌, ◌≤◌, ◌<◌, List, [], ◌∷◌, ◌++◌, length, take, get_or, sym, ap, ◌∙◌, arith}
use Rattle.std.proofs.lemmas.Grind.{flat_map-append}
use Rattle.std.proofs.lemmas.List.{append-nil, take_all, take_more}
use Rattle.ags_row.specs.declared.rows.Row.{Row}
use Rattle.ags_verdict.specs.RowCase.{RowCase, flagged, indicators, with_word, cases_in}
use Rattle.ags_verdict.proofs.listing.cases_of.Goals as goal

-- the cases with one word more
word_further : {D : Type 0} (row : Row D) (words : List ℕ) (i word : ℕ) (now after : List RowCase) → i < length words → word ≡ get_or words i word
    → now ≡ cases_in row (take i words) → after ≡ now ++ with_word word (flagged 0 row.x) (indicators row.v)
    → after ≡ cases_in row (take (i + 1) words)
word_further row words i word now after inside is so_far more =
    let with_one = λ (each : ℕ). with_word each (flagged 0 row.x) (indicators row.v) in
    more ∙ ap (λ (xs : List RowCase). xs ++ with_one word) so_far
    ∙ ap (λ (xs : List RowCase). cases_in row (take i words) ++ xs) (sym (append-nil (with_one word)))
    ∙ sym (flat_map-append with_one (take i words) (word ∷ []))
    ∙ ap (λ (each : ℕ). cases_in row (take i words ++ each ∷ [])) is
    ∙ ap (cases_in row) (sym (take_more words i word inside))

sixteen_more : (now after i : ℕ) → now ≤ 16 * i → after ≤ now + 16 → after ≤ 16 * (i + 1)
sixteen_more now after i so_far more = omega arith

has_room : (now i count : ℕ) → now ≤ 16 * i → i < count → count ≤ 16 → now ≤ 240
has_room now i count so_far inside few = omega arith

pub push_word-requires : goal.push_word-requires
push_word-requires g c =
    has_room (length c.loop-word.cases) c.loop-word.word-index (length c.args.words.now) c.loop-word.invariant.1 c.loop-word-test.true c.requires

pub loop-word-preserved : goal.loop-word-preserved
loop-word-preserved g c = (
  word_further c.args.row.now c.args.words.now c.loop-word.word-index c.word-item.result c.loop-word.cases c.push_word.new.cases c.loop-word-test.true
      c.word-item.is c.loop-word.invariant.0 c.push_word.ensures.list,
  sixteen_more (length c.loop-word.cases) (length c.push_word.new.cases) c.loop-word.word-index c.loop-word.invariant.1 c.push_word.ensures.few,
)

pub returns : goal.returns
returns g c = rw (take_all c.loop-word.word-index c.args.words.now c.loop-word-test.false) at c.loop-word.invariant.0
