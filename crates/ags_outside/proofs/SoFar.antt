-- What a fetch has read so far, pull by pull.
use Rattle.std.proofs.Common.{◌≡◌, ℕ, ◌+◌, ◌-◌, ◌<◌, ◌≤◌, arith, length-append, length-drop, length-take, List, [], ◌∷◌, ◌++◌, length, take, drop, refl, sym, ap, subst, ◌∙◌, append_assoc, append-nil, Bool, true, false, true≢false, Result, Ok, Err, IsErrOf, min}
use Rattle.std.proofs.Math.Seq.{drop-append_seam}
use Rattle.std.proofs.lemmas.List.{take-append-drop}
use Rattle.ags_outside.specs.declared.shelves.Pull.TheVariants as pull
use Rattle.ags_outside.specs.Shelf.{PullTells}
use Rattle.ags_outside.specs.ToldFile.{ToldFile, Untold, Missing, Stored}
use Rattle.ags_outside.specs.declared.fetching.FetchError.{FetchError}
use Rattle.ags_outside.specs.declared.fetching.FetchError.TheVariants.{Absent, ReadFault, TooLong, NoMemory}
use Rattle.ags_outside.specs.Count.{HasCause, Rose}
use Rattle.ags_outside.specs.Fetch.{FetchTells, is_absence, is_read_fault}
use Rattle.ags_outside.specs.Taken.{TookFile, TookAtMost, TookMore, took_both, took_none}

-- What was read is a front of the file, where the shelf tells of it; of an absent one nothing was read.
abbrev pub IsFrontTold : ToldFile → List ℕ → Type 0
IsFrontTold Untold held = Unit {0}
IsFrontTold Missing held = held ≡ []
IsFrontTold (Stored bytes) held = (rest : List ℕ) × (held ++ rest ≡ bytes)

-- at the start nothing was read
pub front_none : (told : ToldFile) → IsFrontTold told []
front_none Untold = tt
front_none Missing = refl
front_none (Stored bytes) = (bytes, refl)

-- after a pull that got bytes
pub front_more : (told : ToldFile) (held into : List ℕ) (from count : ℕ) → from ≡ length held →
    IsFrontTold told held → PullTells told from into (pull.Got count) → IsFrontTold told (held ++ take count into)
front_more Untold held into from count at front tells = tt
front_more Missing held into from count at front tells = absurd tells
front_more (Stored bytes) held into from count at (rest, whole) (within, same) =
    let behind : drop from bytes ≡ rest =
    ap (λ n. drop n bytes) at ∙ ap (drop (length held)) (sym whole) ∙ drop-append_seam held rest in
    let part : take count into ≡ take count rest = same ∙ ap (take count) behind in (
      drop count rest,
      append_assoc held (take count into) (drop count rest)
          ∙ ap (λ piece. held ++ (piece ++ drop count rest)) part
          ∙ ap (λ all. held ++ all) (take-append-drop count rest)
          ∙ whole,
    )

-- at the file's end all of it was read
pub front_whole : (told : ToldFile) (held into : List ℕ) (from limit : ℕ) → from ≡ length held → from ≤ limit →
    IsFrontTold told held → PullTells told from into pull.End → FetchTells told limit (Ok held)
front_whole Untold held into from limit at within front tells = tt
front_whole Missing held into from limit at within front tells = absurd tells
front_whole (Stored bytes) held into from limit at within ([], whole) tells =
    (sym (append-nil held) ∙ whole, omega (arith, tells, within))
front_whole (Stored bytes) held into from limit at within (next ∷ rest, whole) tells =
    absurd (omega (arith, at, tells, ap length whole, length-append held (next ∷ rest)))

-- ---- handed on to a taker

-- so many bytes of the file were fetched, and taken
pub record FetchedSoFar {T : Type 0} (took : T → List ℕ → Type 0) (told : ToldFile) (count : ℕ) (old new : T) : Type 0 where
  pub bytes : List ℕ
  pub many : count ≡ length bytes
  pub front : IsFrontTold told bytes
  pub more : TookMore took old new bytes

pub fetched_none : {T : Type 0} (took : T → List ℕ → Type 0) (told : ToldFile) (taker : T) → FetchedSoFar took told 0 taker taker
fetched_none took told taker = record {
  bytes = [];
  many = refl;
  front = front_none told;
  more = took_none took taker;
}

pub fetched_more : {T : Type 0} (took : T → List ℕ → Type 0) (told : ToldFile) (from count : ℕ) (old mid new : T) (into : List ℕ)
    → count ≤ length into → FetchedSoFar took told from old mid → PullTells told from into (pull.Got count) → TookMore took mid new (take count into)
    → FetchedSoFar took told (from + count) old new
fetched_more took told from count old mid new into within so tells more = record {
  bytes = so.bytes ++ take count into;
  many = omega (arith, so.many, length-append so.bytes (take count into), length-take count into);
  front = front_more told so.bytes into from count so.many so.front tells;
  more = took_both took old mid new so.bytes (take count into) so.more more;
}

pub fetched_whole : {T : Type 0} (took : T → List ℕ → Type 0) (told : ToldFile) (from limit : ℕ) (old new : T) (into : List ℕ)
    → from ≤ limit → FetchedSoFar took told from old new → PullTells told from into pull.End → TookFile took told limit old new
fetched_whole took told from limit old new into within so tells = record {
  bytes = so.bytes;
  within = omega (arith, so.many, within);
  tells = front_whole told so.bytes into from limit so.many within so.front tells;
  more = so.more;
}

pub fetched_at_most : {T : Type 0} (took : T → List ℕ → Type 0) (told : ToldFile) (from limit : ℕ) (old new : T)
    → from ≤ limit → FetchedSoFar took told from old new → TookAtMost took limit old new
fetched_at_most took told from limit old new within so = record {
  bytes = so.bytes;
  within = omega (arith, so.many, within);
  more = so.more;
}

-- ---- what is said of a file that isn't given

pub too_long_tells : (told : ToldFile) (into : List ℕ) (from count limit : ℕ) → limit - from < count → from ≤ limit
    → PullTells told from into (pull.Got count) → FetchTells told limit (Err TooLong)
too_long_tells Untold into from count limit more within tells = tt
too_long_tells Missing into from count limit more within tells = absurd tells
too_long_tells (Stored bytes) into from count limit more within (inside, same) = omega (arith, more, within, inside)

pub absent_tells : (told : ToldFile) (into : List ℕ) (from limit : ℕ) → PullTells told from into pull.Absent → FetchTells told limit (Err Absent)
absent_tells Untold into from limit tells = tt
absent_tells Missing into from limit tells = tt
absent_tells (Stored bytes) into from limit tells = absurd tells

pub fault_tells : (told : ToldFile) (limit : ℕ) → FetchTells told limit (Err ReadFault)
fault_tells Untold limit = tt
fault_tells Missing limit = tt
fault_tells (Stored bytes) limit = tt

pub no_memory_tells : (told : ToldFile) (limit : ℕ) → FetchTells told limit (Err NoMemory)
no_memory_tells Untold limit = tt
no_memory_tells Missing limit = tt
no_memory_tells (Stored bytes) limit = tt

-- ---- which error it is

abbrev is_too_long : {T : Type 0} → Result T FetchError → Bool
is_too_long (Err TooLong) = true
is_too_long _ = false

pub another_error : {T X : Type 0} (answer : Result T FetchError) → is_too_long answer ≡ false → IsErrOf answer TooLong → X
another_error answer other is = absurd (true≢false (ap is_too_long (sym is) ∙ other))

-- what stood as before the last call was counted in that call alone
pub counted_last : (before mid now : ℕ) (counted : Bool) → mid ≡ before → HasCause mid now counted → HasCause before now counted
counted_last before mid now counted same cause = subst (λ n. HasCause n now counted) same cause

-- where nothing was counted, and nothing is to be
pub counted_none : (before now : ℕ) → now ≡ before → HasCause before now false
counted_none before now same = record {
  stays = omega (arith, same);
  cause = λ is. absurd (true≢false (sym is));
  clean = λ _. same;
}

-- a fault, and an absence, made its count rise
pub fault_rose : {T : Type 0} (answer : Result T FetchError) (before now : ℕ) → HasCause before now (is_read_fault answer)
    → IsErrOf answer ReadFault → Rose before now
fault_rose answer before now has is = has.cause (ap is_read_fault is)

pub absence_rose : {T : Type 0} (answer : Result T FetchError) (before now : ℕ) → HasCause before now (is_absence answer)
    → IsErrOf answer Absent → Rose before now
absence_rose answer before now has is = has.cause (ap is_absence is)

-- ---- the room of a pull

pub room_within : (asked more : ℕ) (piece : List ℕ) → asked ≡ min 4096 more → length piece ≡ 4096 → asked ≤ length piece
room_within asked more piece room long = omega (arith, room, long)

pub room_some : (asked left : ℕ) (piece : List ℕ) → asked ≡ min 4096 (left + 1) → length piece ≡ 4096 → 0 < length (take asked piece)
room_some asked left piece room long = omega (arith, room, long, length-take asked piece)

pub room_whole : (asked : ℕ) (piece : List ℕ) → asked ≤ length piece → asked ≡ length (take asked piece)
room_whole asked piece within = omega (arith, within, length-take asked piece)

-- what a pull got stands in what it filled, and in the piece
pub got_inside : (count asked : ℕ) (piece into : List ℕ) → length into ≡ length (take asked piece) → count ≤ length (take asked piece) → count ≤ length into
got_inside count asked piece into long within = omega (arith, long, within)

pub got_within : (count asked : ℕ) (piece into : List ℕ) → length into ≡ length (take asked piece) → count ≤ length (take asked piece)
    → count ≤ length (into ++ drop asked piece)
got_within count asked piece into long within = omega (arith, long, within, length-append into (drop asked piece))

-- the piece keeps its length
pub filled_long : (asked : ℕ) (piece into : List ℕ) → asked ≤ length piece → length into ≡ length (take asked piece) → length piece ≡ 4096
    → length (into ++ drop asked piece) ≡ 4096
filled_long asked piece into within long whole =
    omega (arith, within, long, whole, length-take asked piece, length-drop asked piece, length-append into (drop asked piece))

-- what was got goes no further than the limit, and on
pub on_within : (from count limit : ℕ) → from ≤ limit → count ≤ limit - from → from + count ≤ limit
on_within from count limit within few = omega (arith, within, few)

pub on_smaller : (from count limit : ℕ) → 0 < count → count ≤ limit - from → limit - (from + count) < limit - from
on_smaller from count limit some few = omega (arith, some, few)
