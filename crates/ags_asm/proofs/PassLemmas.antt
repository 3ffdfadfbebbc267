-- One pass over a source's lines, one line further.
use Rattle.std.proofs.Common.{◌≡◌, ℕ, ◌+◌, ◌≤◌, Bool, true, false, cond, List, [], ◌∷◌, ◌++◌, length, Option, Some, None, refl, sym, ap, subst, ◌∙◌, append_assoc, append-nil, inl, inr, arith}
use Rattle.std.specs.Prelude.{Ok, is_some, not}
use Rattle.std.specs.Global.{Vec}
use Rattle.std.proofs.lemmas.Bool.{true≢false}
use Rattle.ags_places.specs.declared.placed.Placed.{Placed}
use Rattle.std.proofs.lemmas.List.{length-append, length-replicate, get_or-replicate}
use Rattle.std.proofs.lemmas.List.Sums.{count_by-le-length}
use Rattle.ags_text.specs.Line.{LineAt, Follow}
use Rattle.ags_card.specs.declared.cards.Body.{Body}
use Rattle.ags_card.specs.declared.cards.Body.TheVariants.{Comment, Order, Org, Equ, Bss, Bes, Dec, Oct, End}
use Rattle.ags_card.specs.declared.cards.Card.{Card}
use Rattle.ags_card.specs.declared.cards.CardFault.{CardFault}
use Rattle.ags_card.specs.Reading.{reading}
use Rattle.ags_card.specs.Spelling.{comment_card}
use Rattle.ags_symbol.specs.Symbol.{Entry}
use Rattle.ags_places.specs.declared.source_error.AssembleError.{AssembleError}
use Rattle.ags_places.specs.declared.source_error.AssembleError.TheVariants.{Source, NoMemory}
use Rattle.ags_places.specs.declared.source_error.PlaceFault.{PlaceFault}
use Rattle.ags_places.specs.declared.source_error.SourceKind.TheVariants as kind
use Rattle.ags_places.specs.declared.source_error.WordFault.{WordFault}
use Rattle.ags_places.specs.Deck.{is_end, ends, deck, card_lines, card_of, cards_in, cards}
use Rattle.ags_places.specs.Fault.{place_fault_at, first_card_fault}
use Rattle.ags_places.specs.Place.{count, place, place_after, symbol_value, pair_of, place_of_word}
use Rattle.ags_places.specs.Source.{IsFirstPlaceFault, placed_at}
use Rattle.ags_places.proofs.PlacingLemmas.{deck_left, ends_so}
use Rattle.ags_places.proofs.RunningLemmas.{known, next_pair, next_pairs, AgreesAlong, agrees_along, fits_some}
use Rattle.ags_asm.specs.declared.passing.Pass.{Pass}
use Rattle.ags_asm.specs.declared.half_words.HalfWords.{HalfWords}
use Rattle.ags_asm.specs.Word.{owner}
use Rattle.ags_asm.specs.HalfMade.{AreFew, IsFreshWords, IsHalfMade, StandsNext, is_number, met_once}
use Rattle.ags_asm.specs.Pass.{IsFresh, IsEnded, IsPassed}
use Rattle.ags_asm.specs.Passing.{IsMisread, IsTaken, IsTakenLine, IsTakenWhole, IsWithinLimits}
use Rattle.ags_asm.specs.Source.{IsFaulty, IsRefused}
use Rattle.ags_asm.proofs.KeptLemmas.{keep_past, keep_wordless}
use Rattle.ags_asm.proofs.PlacingLemmas.{Placing, Placing-none, Placing-more, Placing-fault, Placing-all, first_place_fault_is}
use Rattle.ags_asm.proofs.ReadingLemmas.{Reading, Reading-none, Reading-more, Reading-all, reading_fault}
use Rattle.ags_asm.proofs.HalfMadeLemmas.{half_made_none}

-- the pairs that fit in the end
abbrev pub fitting : List ℕ → List Entry
fitting text = next_pairs [] (cards text)

-- no card is misplaced so far: the cards before are placed, and their words half-made
pub record HalfPlaced (codes text : List ℕ) (left : List LineAt) (number : ℕ) (pass : Pass) : Type 0 where
  pub placing : Placing text left pass.cards.items pass.symbols pass.place
  pub number_is : number ≡ length pass.cards.items
  pub before : List Card
  pub many : number ≡ length before
  pub pairs_are : pass.symbols ≡ (known before).pairs
  pub at_is : pass.place ≡ (known before).place
  pub pairs : fitting text ≡ pass.symbols ++ next_pairs before (cards_in left)
  pub agrees : AgreesAlong (fitting text) before (cards_in left)
  pub half : IsHalfMade codes (fitting text) (cards text) before (cards_in left) pass.words

-- so many lines are read, and these are left
pub record Passed (codes text : List ℕ) (left : List LineAt) (number : ℕ) (pass : Pass) : Type 0 where
  pub reading : Reading text left number
  pub misplaced : (found : ℕ × PlaceFault) → pass.misplaced ≡ Some found → IsFirstPlaceFault text found
  pub placed : pass.misplaced ≡ None → HalfPlaced codes text left number pass

-- ---- the start

known-nil : ([] ≡ (known []).pairs) × (0 ≡ (known []).place)
unfolding known
known-nil = (refl, refl)

fresh_half : (codes text : List ℕ) (words : HalfWords) → IsFreshWords words → IsHalfMade codes (fitting text) (cards text) [] (cards text) words
unfolding owner
fresh_half codes text words fresh = record {
  half = rw (fresh.image, fresh.waiting, fresh.met) (half_made_none codes (fitting text) (cards text));
  owned = λ _ at small. rw fresh.owners (get_or-replicate 4096 at 0 0 small);
  whole = fresh.is_image;
  within = rw fresh.waiting (λ k d lt. absurd (omega (arith, lt)));
}

fresh_placed : (codes text : List ℕ) (pass : Pass) → Follow text 0 (card_lines text) → IsFresh pass → HalfPlaced codes text (card_lines text) 0 pass
fresh_placed codes text pass follow fresh = record {
  placing = rw (fresh.cards, fresh.symbols, fresh.place) (Placing-none text follow);
  number_is = rw fresh.cards refl;
  before = [];
  many = refl;
  pairs_are = fresh.symbols ∙ known-nil.0;
  at_is = fresh.place ∙ known-nil.1;
  pairs = rw fresh.symbols refl;
  agrees = agrees_along (fitting text) (cards text) (fits_some (cards text));
  half = fresh_half codes text pass.words fresh.words;
}

pub passed_none : (codes text : List ℕ) (pass : Pass) → Follow text 0 (card_lines text) → IsFresh pass → Passed codes text (card_lines text) 0 pass
passed_none codes text pass follow fresh = record {
  reading = Reading-none text follow;
  misplaced = λ found is. let none = fresh.misplaced in absurd cc;
  placed = λ _. fresh_placed codes text pass follow fresh;
}

pub fresh_within : (pass : Pass) → IsFresh pass → IsWithinLimits pass
fresh_within pass fresh = record {
  place = omega (arith, fresh.place);
  whole = ap length fresh.words.owners ∙ length-replicate {A = ℕ} 4096 0;
  few = rw fresh.words.waiting (omega arith);
}

-- ---- one line further

module _ (codes text : List ℕ) (line : LineAt) (left : List LineAt) (number : ℕ) (card : Card) (was now : Pass) (is : reading line.bytes ≡ Ok card) where
  placed_more : HalfPlaced codes text (line ∷ left) number was → IsTakenWhole codes line (number + 1) card was now → HalfPlaced codes text left (number + 1) now
  unfolding known next_pairs
  placed_more so taken =
      let here : card_of (reading line.bytes) ≡ card = rw is refl in
      let mine = pair_of card.symbol (symbol_value was.symbols was.place card.body) (number + 1) in
      let pair : next_pair so.before card ≡ mine = rw (← so.pairs_are, ← so.at_is, ← so.many) refl in
      let later : fitting text ≡ now.symbols ++ next_pairs (card ∷ so.before) (cards_in left) =
      so.pairs ∙ rw (here, pair, taken.pair) (sym (append_assoc was.symbols mine (next_pairs (card ∷ so.before) (cards_in left)))) in
      let agrees : AgreesAlong (fitting text) so.before (card ∷ cards_in left) = rw here at so.agrees in
      let stands : StandsNext (now.symbols ++ next_pairs (card ∷ so.before) (cards_in left)) so.before (number + 1) was.place =
      record { number_is = omega (arith, so.many); at_is = so.at_is ∙ sym agrees.0.at ∙ ap (λ (S : List Entry). place S so.before) later } in
      let half : IsHalfMade codes (fitting text) (cards text) so.before (card ∷ cards_in left) was.words = rw here at so.half in
      let step = taken.words (next_pairs (card ∷ so.before) (cards_in left)) (cards text) so.before (cards_in left) stands
      (subst (λ (S : List Entry). IsHalfMade codes S (cards text) so.before (card ∷ cards_in left) was.words) later half) in
      record {
        placing = rw (taken.cards, taken.pair, taken.next, so.number_is) (Placing-more text line left was.cards.items was.symbols was.place card so.placing is taken.faultless);
        number_is = rw taken.cards (omega (arith, so.number_is, length-append was.cards.items (placed_at line (place_of_word was.place card.body) (count card.body) ∷ [])));
        before = card ∷ so.before;
        many = omega (arith, so.many);
        pairs_are = taken.pair ∙ rw (← pair) (ap (λ (pairs : List Entry). pairs ++ next_pair so.before card) so.pairs_are);
        at_is = taken.next ∙ rw (so.pairs_are, so.at_is) refl;
        pairs = later;
        agrees = agrees.1;
        half = subst (λ (S : List Entry). IsHalfMade codes S (cards text) (card ∷ so.before) (cards_in left) now.words) (sym later) step;
      }

  misplaced_here : HalfPlaced codes text (line ∷ left) number was → (fault : PlaceFault) → place_fault_at was.symbols was.place card ≡ Some fault → IsFirstPlaceFault text (number + 1, fault)
  misplaced_here so fault wrong =
      let first = Placing-fault text line left was.cards.items was.symbols was.place card fault so.placing is wrong in
      first_place_fault_is text (number + 1, fault) (first ∙ ap (λ (n : ℕ). Some (n + 1, fault)) (sym so.number_is))

  pub passed_more : Passed codes text (line ∷ left) number was → IsTaken codes line (number + 1) card was now → Passed codes text left (number + 1) now
  passed_more so (inl whole) = record {
    reading = Reading-more text line left number card so.reading is;
    misplaced = λ found some. let none = whole.1.misplaced in absurd cc;
    placed = λ _. placed_more (so.placed whole.0) whole.1;
  }
  passed_more so (inr (inl stopped)) = record {
    reading = Reading-more text line left number card so.reading is;
    misplaced = λ found some.
        let same : (number + 1, stopped.1) ≡ found = cc in
        subst (λ (f : ℕ × PlaceFault). IsFirstPlaceFault text f) same (misplaced_here (so.placed stopped.0) stopped.1 stopped.3);
    placed = λ none. let some = stopped.2 in absurd cc;
  }
  passed_more so (inr (inr past)) = record {
    reading = Reading-more text line left number card so.reading is;
    misplaced = λ found some.
        let same : past.0 ≡ found = cc in
        so.misplaced found (rw same at past.1);
    placed = λ none. let some = past.2 in absurd cc;
  }

-- the card of a comment, where no card was misplaced
pub none_of : {F : Type 0} (found : Option F) (b : Bool) → is_some found ≡ not b → b ≡ true → found ≡ None
none_of None b is so = refl
none_of (Some one) b is so = absurd (true≢false (is ∙ ap not so))

-- the placing was stopped before
pub stopped_before : (codes : List ℕ) (line : LineAt) (number : ℕ) (card : Card) (was : Pass) (b : Bool) → b ≡ is_some was.misplaced → b ≡ true → IsTaken codes line number card was was
stopped_before codes line number card was b is so = let found = some_found was.misplaced (sym is ∙ so) in inr (inr (found.0, found.1, found.1))
  where
    some_found : {F : Type 0} (found : Option F) → is_some found ≡ true → (one : F) × (found ≡ Some one)
    some_found None is = absurd (true≢false (sym is))
    some_found (Some one) is = (one, refl)

-- where a card is left behind the memory's end at most, so its words do
pub room_of_words : (S : List Entry) (at : ℕ) (body : Body) (next : ℕ) → at ≤ 4096 → next ≡ place_after S at body → next ≤ 4096 → at + count body ≤ 4096
room_of_words S at Comment next from is within = omega (arith, from)
room_of_words S at (Order order terms indexed) next from is within = omega (arith, is, within)
room_of_words S at (Org terms) next from is within = omega (arith, from)
room_of_words S at (Equ terms) next from is within = omega (arith, from)
room_of_words S at (Bss terms) next from is within = omega (arith, from)
room_of_words S at (Bes terms) next from is within = omega (arith, from)
room_of_words S at (Dec numbers) next from is within = omega (arith, is, within)
room_of_words S at (Oct words) next from is within = omega (arith, is, within)
room_of_words S at End next from is within = omega (arith, from)

-- not more than 4097 orders wait
pub few_wait : (words : HalfWords) → length words.owners.items ≡ 4096 → AreFew words → length words.waiting.items ≤ 4097
few_wait words whole few = omega (arith, few, whole, count_by-le-length is_number words.owners.items, once words.met)
  where
    once : (met : Option (ℕ × WordFault)) → met_once met ≤ 1
    once None = omega arith
    once (Some found) = omega arith

pub taken_comment : (codes : List ℕ) (line : LineAt) (number : ℕ) (was : Pass) (placed : Vec Placed) → was.misplaced ≡ None → IsWithinLimits was → placed.items ≡ was.cards.items ++ placed_at line None 0 ∷ []
    → IsTaken codes line number comment_card was (record { cards = placed; symbols = was.symbols; place = was.place; words = was.words; misplaced = was.misplaced })
taken_comment codes line number was placed none within pushed = inl (
  none,
  record {
    misplaced = none;
    faultless = refl;
    pair = sym (append-nil was.symbols);
    next = refl;
    cards = pushed;
    words = λ later all before left next so. by_met codes (was.symbols ++ later) all before left was number (was.words.met) refl within next so;
  },
)
  where
    by_met : (codes : List ℕ) (S : List Entry) (all before left : List Card) (was : Pass) (number : ℕ) (met : Option (ℕ × WordFault)) → was.words.met ≡ met → IsWithinLimits was → StandsNext S before number was.place
        → IsHalfMade codes S all before (comment_card ∷ left) was.words → IsHalfMade codes S all (comment_card ∷ before) left was.words
    by_met codes S all before left was number None met within next so = keep_wordless codes S all before left comment_card was.words number was.place met refl within.whole within.place next so
    by_met codes S all before left was number (Some found) met within next so = keep_past codes S all before left comment_card was.words was.words so found met

-- in a loop: the line is a card, and these lines are left
pub passed_next : (codes text : List ℕ) (line : LineAt) (lines : List LineAt) (number : ℕ) (card : Card) (b : Bool) (was now : Pass) → Passed codes text (deck (line ∷ lines)) number was → reading line.bytes ≡ Ok card
    → is_end card.body ≡ b → IsTaken codes line (number + 1) card was now → Passed codes text (cond b [] (deck lines)) (number + 1) now
passed_next codes text line lines number card b was now so is last taken =
    let left = deck_left (λ (left : List LineAt). Passed codes text left number was) line lines so in
    subst (λ (c : Bool). Passed codes text (cond c [] (deck lines)) (number + 1) now) (ends_so line card b is last)
    (passed_more codes text line (cond (ends (reading line.bytes)) [] (deck lines)) number card was now is left taken)

pub passed_line : (codes text : List ℕ) (line : LineAt) (lines : List LineAt) (number : ℕ) (last b : Bool) (was now : Pass) → Passed codes text (deck (line ∷ lines)) number was → IsTakenLine codes line (number + 1) last was now
    → last ≡ b → Passed codes text (cond b [] (deck lines)) (number + 1) now
passed_line codes text line lines number last b was now so (card, is, ended, taken) tested = passed_next codes text line lines number card b was now so is (ended ∙ tested) taken

-- a comment
pub passed_comment : (codes text : List ℕ) (line : LineAt) (lines : List LineAt) (number : ℕ) (was now : Pass) → Passed codes text (deck (line ∷ lines)) number was → reading line.bytes ≡ Ok comment_card
    → IsTaken codes line (number + 1) comment_card was now → Passed codes text (deck lines) (number + 1) now
passed_comment codes text line lines number was now so is taken = passed_next codes text line lines number comment_card false was now so is refl taken

-- ---- the end

ended_all : (codes text : List ℕ) (number : ℕ) (pass : Pass) → HalfPlaced codes text [] number pass → IsEnded codes text pass
unfolding next_pairs
ended_all codes text number pass so =
    let same : fitting text ≡ pass.symbols = so.pairs ∙ append-nil pass.symbols in
    record {
      placed = Placing-all text pass.cards.items pass.symbols pass.place so.placing;
      before = so.before;
      half = subst (λ (S : List Entry). IsHalfMade codes S (cards text) so.before [] pass.words) same so.half;
    }

pub passed_all : (codes text : List ℕ) (number : ℕ) (pass : Pass) → Passed codes text [] number pass → IsPassed codes text pass
passed_all codes text number pass so = record {
  read = Reading-all text number so.reading;
  misplaced = so.misplaced;
  ended = λ none. ended_all codes text number pass (so.placed none);
}

-- ---- why it is refused

pub misplaced_so : (codes text : List ℕ) (pass : Pass) (found : ℕ × PlaceFault) → IsPassed codes text pass → pass.misplaced ≡ Some found
    → IsFaulty text (record { card = found.0; kind = kind.Place found.1 })
misplaced_so codes text pass found so is =
    let first = so.misplaced found is in
    record { symbols = first.symbols; fits = first.fits; first = rw (so.read, first.first) refl }

-- a line that is none
misread : (text : List ℕ) (number : ℕ) (fault : CardFault) → first_card_fault text ≡ Some (number, fault) → IsFaulty text (record { card = number; kind = kind.Card fault })
misread text number fault is = record { symbols = fitting text; fits = fits_some (cards text); first = rw is refl }

pub misread_line : (codes text : List ℕ) (line : LineAt) (lines : List LineAt) (number : ℕ) (was : Pass) (error : AssembleError) → Passed codes text (deck (line ∷ lines)) number was → IsMisread line (number + 1) error
    → IsRefused text error
misread_line codes text line lines number was (Source error) so (fault, is, error_is) =
    rw error_is (misread text (number + 1) fault (reading_fault text line lines number fault so.reading is))
misread_line codes text line lines number was NoMemory so is = tt
