-- What a sink has taken, call by call. Laws carry a writer through its loop, with `rest` as what is left:
--   wrote_nothing     at the start, all is left
--   wrote_piece       a whole piece was appended, and what is after it is left
--   wrote_part        the same, where the piece is the first bytes of what was left
--   wrote_of_nothing  of no bytes, nothing is left
--   wrote_all         at the end, where nothing is left, the whole text was appended
--   wrote_front       a piece failed, of which a front was appended
--   wrote_front_last  the same, where the piece is all that was left
--   front_of_wrote    what was written so far is a front
-- and two through texts that are written one after the other, as in `send(first)?; send(second)?`:
--   front_in_first    the first failed
--   front_in_second   the first was appended, and the second failed
use Rattle.std.specs.Prelude.{◌≡◌, ℕ, ◌<◌, ◌≤◌, List, [], ◌++◌, take, drop, Bool, true, false, Option, Some, None, refl}
use Rattle.std.proofs.Common.{sym, ◌∙◌, ap, arith, length, append_assoc, append-nil, length-append}
use Rattle.std.proofs.lemmas.List.{take-append-drop}
use Rattle.ags_outside.specs.declared.sinks.PutDone.{PutDone}
use Rattle.ags_outside.specs.declared.sinks.PutDone.TheVariants.{Took, Failed, NoMemory}

-- the bytes taken so far with these after them, where the sink tells
abbrev pub appended : Option (List ℕ) → List ℕ → Option (List ℕ)
appended None bytes = None
appended (Some held) bytes = Some (held ++ bytes)

-- an answer that took bytes took one at least, and no more than it was given
abbrev pub TookWithin : ℕ → PutDone → Type 0
TookWithin most (Took count) = (0 < count) × (count ≤ most)
TookWithin most _ = Unit {0}

-- what the sink has taken after an answer to a piece: those first bytes more, and otherwise nothing
abbrev pub taken_after : (before : Option (List ℕ)) (piece : List ℕ) (answer : PutDone) → Option (List ℕ)
taken_after before piece (Took count) = appended before (take count piece)
taken_after before piece _ = before

-- whether a sink failed, which its count of faults counts
abbrev pub is_failed_put : PutDone → Bool
is_failed_put Failed = true
is_failed_put _ = false

-- an answer of a sink that never fails: so many bytes are taken, unless memory is wanting
abbrev pub IsSteadyPut : (amount : ℕ) (answer : PutDone) → Type 0
IsSteadyPut amount (Took count) = count ≡ amount
IsSteadyPut amount Failed = ⊥
IsSteadyPut amount NoMemory = Unit {0}

-- of a text all was appended but the rest
pub record Wrote (old new : Option (List ℕ)) (text rest : List ℕ) : Type 0 where
  pub done : List ℕ
  pub told : new ≡ appended old done
  pub whole : done ++ rest ≡ text

-- of a text some front was appended
pub record WroteFront (old new : Option (List ℕ)) (text : List ℕ) : Type 0 where
  pub rest : List ℕ
  pub wrote : Wrote old new text rest

-- nothing after what is held leaves what is held
pub appended_nothing : (old : Option (List ℕ)) → appended old [] ≡ old
appended_nothing None = refl
appended_nothing (Some held) = ap Some (append-nil held)

-- two pieces one after the other are one piece
pub appended_twice : (old : Option (List ℕ)) (first second : List ℕ) →
    appended (appended old first) second ≡ appended old (first ++ second)
appended_twice None first second = refl
appended_twice (Some held) first second = ap Some (append_assoc held first second)

pub wrote_nothing : (old : Option (List ℕ)) (text : List ℕ) → Wrote old old text text
wrote_nothing old text = record { done = []; told = sym (appended_nothing old); whole = refl }

pub wrote_piece : {old mid new : Option (List ℕ)} {text left : List ℕ} (piece rest : List ℕ) →
    Wrote old mid text left → left ≡ piece ++ rest → new ≡ appended mid piece → Wrote old new text rest
wrote_piece {old} piece rest wrote cut put = record {
  done = wrote.done ++ piece;
  told = put ∙ ap (λ held. appended held piece) wrote.told ∙ appended_twice old wrote.done piece;
  whole = append_assoc wrote.done piece rest ∙ ap (λ more. wrote.done ++ more) (sym cut) ∙ wrote.whole;
}

pub wrote_part : {old mid new : Option (List ℕ)} {text left rest : List ℕ} (count : ℕ) →
    Wrote old mid text left → rest ≡ drop count left → new ≡ appended mid (take count left) → Wrote old new text rest
wrote_part {left = left} {rest = rest} count wrote behind put =
    let cut : left ≡ take count left ++ rest =
    sym (take-append-drop count left) ∙ ap (λ more. take count left ++ more) (sym behind) in
    wrote_piece (take count left) rest wrote cut put

pub wrote_of_nothing : {old new : Option (List ℕ)} {text rest : List ℕ} →
    Wrote old new text rest → text ≡ [] → length rest ≡ 0
wrote_of_nothing {rest = rest} wrote none =
    omega (arith, length-append wrote.done rest, ap length wrote.whole, ap length none)

pub wrote_all : {old new : Option (List ℕ)} {text : List ℕ} → Wrote old new text [] → new ≡ appended old text
wrote_all {old} wrote = wrote.told ∙ ap (appended old) (sym (append-nil wrote.done) ∙ wrote.whole)

pub wrote_front : {old mid new : Option (List ℕ)} {text left : List ℕ} (piece rest : List ℕ) →
    Wrote old mid text left → left ≡ piece ++ rest → WroteFront mid new piece → WroteFront old new text
wrote_front {old} {left = left} piece rest wrote cut front =
    let done = front.wrote.done in
    let inner : done ++ (front.rest ++ rest) ≡ left =
    sym (append_assoc done front.rest rest) ∙ ap (λ some. some ++ rest) front.wrote.whole ∙ sym cut in
    record {
      rest = front.rest ++ rest;
      wrote = record {
        done = wrote.done ++ done;
        told = front.wrote.told ∙ ap (λ held. appended held done) wrote.told ∙ appended_twice old wrote.done done;
        whole = append_assoc wrote.done done (front.rest ++ rest) ∙ ap (λ more. wrote.done ++ more) inner ∙ wrote.whole;
      };
    }

pub wrote_front_last : {old mid new : Option (List ℕ)} {text left : List ℕ} →
    Wrote old mid text left → WroteFront mid new left → WroteFront old new text
wrote_front_last {left = left} wrote front = wrote_front left [] wrote (sym (append-nil left)) front

pub front_of_wrote : {old new : Option (List ℕ)} {text rest : List ℕ} →
    Wrote old new text rest → WroteFront old new text
front_of_wrote {old} {new} {text} {rest} wrote = record { rest = rest; wrote = wrote }

pub front_in_first : {old new : Option (List ℕ)} (first second : List ℕ) →
    WroteFront old new first → WroteFront old new (first ++ second)
front_in_first {old} first second front =
    wrote_front first second (wrote_nothing old (first ++ second)) refl front

pub front_in_second : {old mid new : Option (List ℕ)} (first second : List ℕ) →
    mid ≡ appended old first → WroteFront mid new second → WroteFront old new (first ++ second)
front_in_second {old} first second sent front =
    wrote_front_last (wrote_piece first second (wrote_nothing old (first ++ second)) refl sent) front
