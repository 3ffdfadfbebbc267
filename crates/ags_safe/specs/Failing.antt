-- What fails of a certificate that isn't accepted, by number, and in the order in which it is judged.
use Rattle.std.specs.Prelude.{◌≡◌, ℕ, ◌+◌, ◌<◌, ◌⊎◌, Bool, true, List, [], ◌∷◌, length, slice_index_or, Any, All, Option, Some, None, IfSome, Ok, Err, ⊤}
use Rattle.ags_domain.specs.Domain.{Meaning}
use Rattle.ags_domain.specs.WordSet.{lists}
use Rattle.ags_domain.specs.declared.word_sets.WordSet.{WordSet}
use Rattle.ags_image.specs.Image.{entry_at, word_at}
use Rattle.ags_ports.specs.declared.machines.Machine.{Machine}
use Rattle.ags_row.specs.Flag.{has_flag, indicator_number}
use Rattle.ags_row.specs.Limit.{cell_limit}
use Rattle.ags_row.specs.declared.posts.Post.{Post}
use Rattle.ags_row.specs.declared.rows.Row.{Row}
use Rattle.ags_safe.specs.Case.{Case, case_of, IsCode}
use Rattle.ags_safe.specs.Posts.{Outcome, IsPostsOfCase}
use Rattle.ags_safe.specs.declared.answers.Stop.{Stop}
use Rattle.ags_safe.specs.declared.answers.Stop.TheVariants.{NoOrder, BadPort, FixedWrite, MayOverflow, CellRange, OutputRange}
use Rattle.ags_safe.specs.Certificate.{Certificate}
use Rattle.ags_safe.specs.Accepted.{IsFirstHeld, HoldsStart, IsCovered}

-- ---- items and faults

-- What is judged: the first word of an erasable cell, the start, the code of a row, and a case of a row: a word of the code, an index
-- and an indicator. Rows are counted from 0.
pub data Item : Type 0 where
  CellItem : ℕ → Item
  StartItem : Item
  CodeItem : ℕ → Item
  CaseItem : (row word index : ℕ) → Bool → Item

-- What is told of an item that fails: the cell and its first word; that no row holds the start; a row whose words are too many; a row
-- and a word with the reason why there are no posts; or with the index, the indicator and the location of a post that no row covers.
-- Rows are counted from 1.
pub data Fault (D : Type 0) : Type 0 where
  InitRange : (address word : ℕ) → Fault D
  StartUncovered : Fault D
  CodeUnknown : ℕ → Fault D
  Stopped : (row word : ℕ) → Stop D → Fault D
  NotCovered : (row word index : ℕ) → Bool → (next : ℕ) → Fault D

-- the number of the reason why a case has no posts
abbrev pub stop_number : {D : Type 0} → Stop D → ℕ
stop_number NoOrder = 4
stop_number BadPort = 5
stop_number (FixedWrite address) = 6
stop_number (MayOverflow operands) = 7
stop_number (CellRange address value) = 8
stop_number (OutputRange address value) = 9

-- the number of a fault
abbrev pub fault_number : {D : Type 0} → Fault D → ℕ
fault_number (InitRange address word) = 1
fault_number StartUncovered = 2
fault_number (CodeUnknown row) = 3
fault_number (Stopped row word stop) = stop_number stop
fault_number (NotCovered row word index indicator next) = 10

-- ---- the order of judging

-- The position of an item in the order: cells by their addresses, then the start, then rows as they stand, in each its code and then its
-- cases by word, index and indicator.
abbrev pub position_of_item : Item → List ℕ
position_of_item (CellItem address) = 0 ∷ address ∷ []
position_of_item StartItem = 1 ∷ []
position_of_item (CodeItem row) = 2 ∷ row ∷ []
position_of_item (CaseItem row word index indicator) = 2 ∷ row ∷ word ∷ index ∷ indicator_number indicator ∷ []

-- one list of numbers stands before another one, as words do in a dictionary
abbrev pub Precedes : List ℕ → List ℕ → Type 0
Precedes xs [] = ⊥
Precedes [] (y ∷ ys) = ⊤
Precedes (x ∷ xs) (y ∷ ys) = (x < y) ⊎ ((x ≡ y) × Precedes xs ys)

-- ---- failing

-- the row stands at a position of the certificate, counted from 0
abbrev pub StandsAt : {D : Type 0} → Certificate D → ℕ → Row D → Type 0
StandsAt cert position row = (position < length cert.rows) × (slice_index_or cert.rows position row ≡ row)

module _ {D : Type 0} (meaning : Meaning D) (machine : Machine) (image : List (Option ℕ)) (cert : Certificate D) where
  -- the row has a code, and the word is one of it; the index and the indicator are of the row
  pub record IsJudged (row : Row D) (word index : ℕ) (indicator : Bool) : Type 0 where
    pub code : WordSet
    pub is_code : IsCode meaning image cert.limits row (Some code)
    pub listed : lists code.list word ≡ true
    pub index_may_stand : has_flag row.x index ≡ true
    pub indicator_may_stand : has_flag row.v (indicator_number indicator) ≡ true

  -- a post is there that no row covers, and it is told
  abbrev pub IsUncovered : ℕ → Case D → Option (Post D) → Fault D → Type 0
  IsUncovered position c None fault = ⊥
  IsUncovered position c (Some post) fault =
      (¬ IsCovered meaning cert c.row post) × (fault ≡ NotCovered (position + 1) c.word c.index c.indicator post.next)

  -- a case fails where it has no posts, or else by the first of its posts that no row covers
  abbrev pub CaseFails : ℕ → Case D → Outcome D → Fault D → Type 0
  CaseFails position c (Err stop) fault = fault ≡ Stopped (position + 1) c.word stop
  CaseFails position c (Ok pair) fault = IsUncovered position c pair.first fault
      ⊎ (IfSome pair.first (IsCovered meaning cert c.row) × IsUncovered position c pair.second fault)

  -- the item fails, and this is told
  abbrev pub Fails : Item → Fault D → Type 0
  Fails (CellItem address) fault = (address < 2048)
      × (¬ IsFirstHeld meaning (cell_limit cert.limits address) (entry_at image address) (cert.init address))
      × (fault ≡ InitRange address (word_at image address))
  Fails StartItem fault = (¬ Any (HoldsStart meaning image cert) cert.rows) × (fault ≡ StartUncovered)
  Fails (CodeItem position) fault = (row : Row D) × StandsAt cert position row × IsCode meaning image cert.limits row None
      × (fault ≡ CodeUnknown (position + 1))
  Fails (CaseItem position word index indicator) fault = (row : Row D) × StandsAt cert position row × IsJudged row word index indicator
      × (outcome : Outcome D) × IsPostsOfCase meaning (case_of machine image cert.limits row word index indicator) outcome
      × CaseFails position (case_of machine image cert.limits row word index indicator) outcome fault

  -- an item fails with this fault, and none before it fails
  pub record IsFirstFault (fault : Fault D) : Type 0 where
    pub item : Item
    pub fails : Fails item fault
    pub first : (earlier : Item) (other : Fault D) → Precedes (position_of_item earlier) (position_of_item item) → ¬ Fails earlier other

  -- the words of each row are known or are too many, and each case has posts or a reason why it has none
  pub record AreAnswered : Type 0 where
    pub codes : All (λ row. (code : Option WordSet) × IsCode meaning image cert.limits row code) cert.rows
    pub cases : All (λ row. (word index : ℕ) (indicator : Bool) → IsJudged row word index indicator
        → (outcome : Outcome D) × IsPostsOfCase meaning (case_of machine image cert.limits row word index indicator) outcome) cert.rows
