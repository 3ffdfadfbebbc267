-- What a taker took. Laws carry a taker through the parts of a piece, with `left` as what is to come:
--   took_none      no bytes leave what was taken
--   took_both      two pieces, one after the other, are one
--   so_far_none    at the start, the whole piece is left
--   so_far_more    a front of what was left was taken, and what is after it is left
--   so_far_all     all that was left was taken, and so the piece was
use Rattle.std.specs.Prelude.{◌≡◌, ℕ, ◌≤◌, List, [], ◌++◌, length, Ok, refl}
use Rattle.std.proofs.Common.{sym, ap, subst, ◌∙◌, append_assoc, append-nil}
use Rattle.ags_outside.specs.Fetch.{FetchTells}
use Rattle.ags_outside.specs.ToldFile.{ToldFile}

-- whatever bytes it took before, it took those and these after them now
abbrev pub TookMore : {T : Type 0} → (took : T → List ℕ → Type 0) → (old new : T) → List ℕ → Type 0
TookMore took old new more = (before : List ℕ) → took old before → took new (before ++ more)

-- it took a file of at most so many bytes, which is the told one where the shelf tells
pub record TookFile {T : Type 0} (took : T → List ℕ → Type 0) (told : ToldFile) (limit : ℕ) (old new : T) : Type 0 where
  pub bytes : List ℕ
  pub within : length bytes ≤ limit
  pub tells : FetchTells told limit (Ok bytes)
  pub more : TookMore took old new bytes

-- it took at most so many bytes
pub record TookAtMost {T : Type 0} (took : T → List ℕ → Type 0) (limit : ℕ) (old new : T) : Type 0 where
  pub bytes : List ℕ
  pub within : length bytes ≤ limit
  pub more : TookMore took old new bytes

-- of a piece all was taken but what is left
pub record TakenSoFar {T : Type 0} (took : T → List ℕ → Type 0) (old new : T) (piece left : List ℕ) : Type 0 where
  pub done : List ℕ
  pub whole : piece ≡ done ++ left
  pub more : TookMore took old new done

pub took_none : {T : Type 0} (took : T → List ℕ → Type 0) (taker : T) → TookMore took taker taker []
took_none took taker = λ before is. rw append-nil is

pub took_both : {T : Type 0} (took : T → List ℕ → Type 0) (old mid new : T) (first second : List ℕ)
    → TookMore took old mid first → TookMore took mid new second → TookMore took old new (first ++ second)
took_both took old mid new first second one two = λ before is. rw (← append_assoc) (two (before ++ first) (one before is))

pub so_far_none : {T : Type 0} (took : T → List ℕ → Type 0) (taker : T) (piece : List ℕ) → TakenSoFar took taker taker piece piece
so_far_none took taker piece = record { done = []; whole = refl; more = took_none took taker }

pub so_far_more : {T : Type 0} (took : T → List ℕ → Type 0) (old mid new : T) (piece left front rest : List ℕ)
    → TakenSoFar took old mid piece left → left ≡ front ++ rest → TookMore took mid new front → TakenSoFar took old new piece rest
so_far_more took old mid new piece left front rest so cut more = record {
  done = so.done ++ front;
  whole = so.whole ∙ ap (λ behind. so.done ++ behind) cut ∙ sym (append_assoc so.done front rest);
  more = took_both took old mid new so.done front so.more more;
}

pub so_far_all : {T : Type 0} (took : T → List ℕ → Type 0) (old mid new : T) (piece left : List ℕ)
    → TakenSoFar took old mid piece left → TookMore took mid new left → TookMore took old new piece
so_far_all took old mid new piece left so more =
    subst (λ whole. TookMore took old new whole) (sym so.whole) (took_both took old mid new so.done left so.more more)
