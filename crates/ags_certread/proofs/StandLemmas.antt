-- Lines that were taken one after the other, and the reader that took them in pieces.
use Rattle.std.proofs.Common.{◌≡◌, ℕ, zero, suc, ◌+◌, ◌-◌, ◌^◌, ◌<◌, ◌≤◌, min, eqb, true, false, refl, sym, ap, subst, ◌∙◌, List, [], ◌∷◌, ◌++◌, length, Some, append_assoc, length-append, arith}
use Rattle.std.specs.Prelude.{Result, Ok, Err, IfOk, IfErr, OnOk}
use Rattle.std.specs.Str.Lines.{strip_carriage_return}
use Rattle.std.proofs.lemmas.List.{append-nil}
use Rattle.ags_text.specs.Line.{LineAt, HasNoFeed, lines_of}
use Rattle.ags_outside.specs.Taken.{TookMore}
use Rattle.ags_ports.specs.Port.{Registers}
use Rattle.ags_certtype.specs.Cert.{Stated as Cert_stated}
use Rattle.ags_certtext.specs.declared.cert_error.CertKind.{CertKind}
use Rattle.ags_certtext.specs.declared.cert_error.CertKind.TheVariants.{BadLine}
use Rattle.ags_certtext.specs.declared.cert_error.CertError.{CertError}
use Rattle.ags_certtext.specs.declared.cert_error.CertError.TheVariants.{At as AtLine}
use Rattle.ags_certtext.specs.declared.kinds.Kind.TheVariants as kind
use Rattle.ags_certtext.specs.declared.statements.Statement.{Statement}
use Rattle.ags_certtext.specs.Kind.{is_last}
use Rattle.ags_frame.specs.Reading.{Opening, OtherOpening, Stated, Skipped, Malformed, Ended}
use Rattle.ags_certtext.specs.Reading.{Reading, IsFirstReading}
use Rattle.ags_certtext.specs.Text.{IsCertOf, IsFaultyCert, IsRefused}
use Rattle.ags_certread.specs.Gathering.{Gathering, IsCertOfGathering, nothing_stated, opened}
use Rattle.ags_certread.specs.Length.{certificate_limit}
use Rattle.ags_certread.specs.LineTaken.{TakesLine, TakesReading, TellsFault, behind_first, opening_fault}
use Rattle.ags_text.specs.Piece.{HasEnded, line_of}
use Rattle.ags_certread.specs.Before.{IsOfStatements, Stands}
use Rattle.ags_certread.specs.Kept.{Kept, KeptLines}
use Rattle.ags_certread.specs.NextState.{GoesOn, HasRead, IsNext, IsWhole, is_open}
use Rattle.ags_certread.specs.Pieces.{Standing, TookCert, took_cert}
use Rattle.ags_certread.specs.Gathered.{Gathers, IsOpening, AreTaken}
use Rattle.ags_certread.specs.declared.states.State.{State}
use Rattle.ags_certread.specs.declared.states.State.TheVariants as state
use Rattle.ags_certread.proofs.ExistenceLemmas.{have_readings}
use Rattle.ags_certread.proofs.GatherLemmas.{Gathered-none}
use Rattle.ags_text.proofs.PieceLemmas.{ended_none, ended_more, ended_feed, ended_all, ended_long}
use Rattle.ags_certread.proofs.ReadLemmas.{SoFar, SoFar-first, SoFar-more, SoFar-fault, SoFar-missing, SoFar-all, opening_refused, empty_refused}
use Rattle.ags_certread.proofs.SoundLemmas.{IsSound-none}

-- ---- what was gathered of lines is sound

stands_line : (ports : Registers) (before : List Statement) (g h : Gathering) → Stands before g → (reading : Reading) → TakesReading ports g reading h
    → (after : List Statement) × Stands after h
stands_line ports before g h stands (Stated statement) takes = (statement ∷ before, (takes.0 before stands).1)
stands_line ports before g h stands Skipped same = (before, subst (λ (k : Gathering). Stands before k) (sym same) stands)
stands_line ports before g h stands (Opening version) takes = absurd takes
stands_line ports before g h stands OtherOpening takes = absurd takes
stands_line ports before g h stands Malformed takes = absurd takes
stands_line ports before g h stands Ended takes = absurd takes

pub gathers_push : (ports : Registers) (g : Gathering) (lines : List LineAt) (m h : Gathering) (line : LineAt) → Gathers ports g lines m → TakesLine ports m line.bytes h
    → Gathers ports g (lines ++ line ∷ []) h
gathers_push ports g [] m h line same takes = (h, subst (λ (k : Gathering). TakesLine ports k line.bytes h) same takes, refl)
gathers_push ports g (first ∷ lines) m h line (mid, took, rest) takes = (mid, took, gathers_push ports mid lines m h line rest takes)

pub stood_more : (ports : Registers) (g h : Gathering) (bytes : List ℕ) → IsOfStatements g → TakesLine ports g bytes h → IsOfStatements h
stood_more ports g h bytes (before, stands) (reading, is, takes) = stands_line ports before g h stands reading takes

pub stood_nothing : (g : Gathering) → g ≡ nothing_stated → IsOfStatements g
stood_nothing g same = subst (λ (h : Gathering). IsOfStatements h) (sym same) ([], record { gathered = Gathered-none; sound = IsSound-none })

-- ---- so many lines are read

gathered_so_far : (ports : Registers) (text : List ℕ) (g : Gathering) (lines left : List LineAt) (h : Gathering) (number : ℕ) → SoFar ports text (lines ++ left) g number
    → Gathers ports g lines h → SoFar ports text left h (number + length lines)
gathered_so_far ports text g [] left h number so same =
    let none : number ≡ number + 0 = omega arith in
    subst (λ (n : ℕ). SoFar ports text left h n) none (subst (λ (k : Gathering). SoFar ports text left k number) (sym same) so)
gathered_so_far ports text g (line ∷ lines) left h number so (mid, takes, rest) =
    let next = SoFar-more ports text line (lines ++ left) g number so mid takes in
    let sum : number + 1 + length lines ≡ number + length (line ∷ lines) = omega arith in
    subst (λ (n : ℕ). SoFar ports text left h n) sum (gathered_so_far ports text mid lines left h (number + 1) next rest)

opened_so_far : (ports : Registers) (text : List ℕ) (first : LineAt) (left : List LineAt) (version : ℕ) → lines_of text ≡ first ∷ left → IsOpening first version
    → SoFar ports text left (opened version) 1
opened_so_far ports text first left version whole is = SoFar-first ports text first left version (opened version) whole is refl

taken_so_far : (ports : Registers) (text : List ℕ) (ended left : List LineAt) (g : Gathering) → lines_of text ≡ ended ++ left → AreTaken ports ended g → 0 < length ended
    → SoFar ports text left g (length ended)
taken_so_far ports text [] left g whole are some = absurd (omega (arith, some))
taken_so_far ports text (first ∷ more) left g whole (version, opens, gathers) some =
    let sum : 1 + length more ≡ length (first ∷ more) = omega arith in
    subst (λ (n : ℕ). SoFar ports text left g n) sum
    (gathered_so_far ports text (opened version) more left g 1 (opened_so_far ports text first (more ++ left) version whole opens) gathers)

-- ---- a line that comes next

taken_more : (ports : Registers) (ended : List LineAt) (line : LineAt) (g h : Gathering) → AreTaken ports ended g
    → (length ended ≡ 0 → (version : ℕ) × IsOpening line version × (h ≡ record g { version = version })) → (0 < length ended → TakesLine ports g line.bytes h) → AreTaken ports (ended ++ line ∷ []) h
taken_more ports [] line g h same first further = let here = first refl in (here.0, here.1, here.2 ∙ ap (λ (k : Gathering). record k { version = here.0 }) same)
taken_more ports (opening ∷ more) line g h (version, opens, gathers) first further = (version, opens, gathers_push ports (opened version) more g h line gathers (further (omega arith)))

fault_first : (ports : Registers) (text : List ℕ) (ended left : List LineAt) (line : LineAt) (g : Gathering) (l : ℕ) (kind : CertKind) → lines_of text ≡ ended ++ line ∷ left
    → length ended ≡ 0 → (l ≡ 1) × ((reading : Reading) × IsFirstReading line.bytes reading × (opening_fault reading ≡ Some kind)) → IsFaultyCert ports text l kind
fault_first ports text [] left line g l kind whole none (one, (reading, is, fault)) =
    subst (λ (n : ℕ). IsFaultyCert ports text n kind) (sym one) (opening_refused ports text line left reading kind whole is fault (have_readings (behind_first (lines_of text))))
fault_first ports text (first ∷ more) left line g l kind whole none told = absurd (omega (arith, none))

fault_further : (ports : Registers) (text : List ℕ) (ended left : List LineAt) (line : LineAt) (g : Gathering) (l : ℕ) (kind : CertKind) → lines_of text ≡ ended ++ line ∷ left
    → AreTaken ports ended g → 0 < length ended → TellsFault ports (length ended + 1) g line.bytes (AtLine l kind) → IsFaultyCert ports text l kind
fault_further ports text ended left line g l kind whole are some tells =
    SoFar-fault ports text line left g (length ended) (taken_so_far ports text ended (line ∷ left) g whole are some) (AtLine l kind) tells (have_readings (behind_first (lines_of text)))

-- the two cases of how many lines came before
none_or_some : (n : ℕ) → (P : Type 0) → (n ≡ 0 → P) → (0 < n → P) → P
none_or_some zero P none some = none refl
none_or_some (suc n) P none some = some (omega arith)

fault_next : (ports : Registers) (text : List ℕ) (ended left : List LineAt) (line : LineAt) (g : Gathering) (number next l : ℕ) (kind : CertKind) → lines_of text ≡ ended ++ line ∷ left
    → AreTaken ports ended g → number ≡ length ended → next ≡ length ended + 1
    → (number ≡ 0 → (l ≡ 1) × ((reading : Reading) × IsFirstReading line.bytes reading × (opening_fault reading ≡ Some kind)))
    → (0 < number → TellsFault ports next g line.bytes (AtLine l kind)) → IsFaultyCert ports text l kind
fault_next ports text ended left line g number next l kind whole are many at first further = none_or_some (length ended) (IsFaultyCert ports text l kind)
    (λ none. fault_first ports text ended left line g l kind whole none (first (many ∙ none)))
    (λ some. fault_further ports text ended left line g l kind whole are some
    (subst (λ (n : ℕ). TellsFault ports n g line.bytes (AtLine l kind)) at (further (omega (arith, many, some)))))

-- a line of more than 512 bytes is malformed
long_fault : (ports : Registers) (text : List ℕ) (ended left : List LineAt) (line : LineAt) (g : Gathering) → lines_of text ≡ ended ++ line ∷ left
    → AreTaken ports ended g → 512 < length line.bytes → IsFaultyCert ports text (length ended + 1) BadLine
long_fault ports text ended left line g whole are long = none_or_some (length ended) (IsFaultyCert ports text (length ended + 1) BadLine)
    (λ none. fault_first ports text ended left line g (length ended + 1) BadLine whole none
    (omega (arith, none), (Malformed, (λ version is_version opens. omega (arith, opens.most, long), λ opens. omega (arith, opens.most, long)), refl)))
    (λ some. fault_further ports text ended left line g (length ended + 1) BadLine whole are some
    (refl, (Malformed, (λ statement spells. omega (arith, spells.most, long), λ skipped. omega (arith, skipped.most, long)), λ before gathered. refl)))

-- ---- the reader

next_number : (number length_text before next : ℕ) → next ≡ min (number + 1) (2 ^ 32 - 1) → length_text ≤ certificate_limit → before ≤ length_text → number ≡ before → next ≡ before + 1
next_number number length_text before next is short few same = omega (arith, is, short, few, same)

pub new_standing : (ports : Registers) (rest : List ℕ) (g : Gathering) → rest ≡ [] → g ≡ nothing_stated → Standing ports rest 0 g []
new_standing ports rest g none same = record {
  ended = [];
  cut = subst (λ (r : List ℕ). HasEnded [] [] r) (sym none) ended_none;
  taken = same;
  few = omega arith;
  none = λ is. refl;
  some = λ is. absurd (omega (arith, is));
  many = λ short. refl;
}

module _ (ports : Registers) (rest : List ℕ) (number : ℕ) (g : Gathering) (text : List ℕ) (so : Standing ports rest number g text) where
  pub held : (bytes : List ℕ) → HasNoFeed bytes → Standing ports (rest ++ bytes) number g (text ++ bytes)
  held bytes none = record {
    ended = so.ended;
    cut = ended_more text rest bytes so.ended so.cut none;
    taken = so.taken;
    few = omega (arith, so.few, length-append text bytes);
    none = so.none;
    some = so.some;
    many = λ short. so.many (omega (arith, short, length-append text bytes));
  }

  pub held_long : (bytes : List ℕ) → HasNoFeed bytes → 513 < length (rest ++ bytes) → (next : ℕ) → next ≡ min (number + 1) (2 ^ 32 - 1)
      → (more : List ℕ) → length ((text ++ bytes) ++ more) ≤ certificate_limit → IsFaultyCert ports ((text ++ bytes) ++ more) next BadLine
  held_long bytes none over next is more short =
      let long = ended_long (text ++ bytes) (rest ++ bytes) more so.ended (ended_more text rest bytes so.ended so.cut none) over in
      let within : length text ≤ certificate_limit = omega (arith, short, length-append (text ++ bytes) more, length-append text bytes) in
      let at = next_number number (length text) (length so.ended) next is within so.few (so.many within) in
      subst (λ (n : ℕ). IsFaultyCert ports ((text ++ bytes) ++ more) n BadLine) (sym at)
      (long_fault ports ((text ++ bytes) ++ more) so.ended long.1 long.0 g long.3 so.taken long.2)

  none_before : length so.ended ≡ 0 → number ≡ 0
  none_before none = none_or_some number (number ≡ 0) (λ is. is) (λ some. absurd (omega (arith, so.some some, none)))

  some_before : 0 < length so.ended → 0 < number
  some_before some = none_or_some number (0 < number) (λ none. absurd (omega (arith, so.none none, some))) (λ is. is)

  pub feed_open : (h : Gathering) (next : ℕ) → next ≡ min (number + 1) (2 ^ 32 - 1)
      → (number ≡ 0 → (version : ℕ) × IsFirstReading (strip_carriage_return rest) (Opening version) × (h ≡ record g { version = version }))
      → (0 < number → TakesLine ports g (strip_carriage_return rest) h) → Standing ports [] next h (text ++ 10 ∷ [])
  feed_open h next is first further = record {
    ended = so.ended ++ line_of so.cut ∷ [];
    cut = ended_feed text rest so.ended so.cut;
    taken = taken_more ports so.ended (line_of so.cut) g h so.taken (λ none. first (none_before none)) (λ some. further (some_before some));
    few = omega (arith, so.few, length-append text (10 ∷ []), length-append so.ended (line_of so.cut ∷ []));
    none = λ zero_next. absurd (omega (arith, zero_next, is));
    some = λ some_next. omega (arith, length-append so.ended (line_of so.cut ∷ []));
    many = λ short.
        let within : length text ≤ certificate_limit = omega (arith, short, length-append text (10 ∷ [])) in
        next_number number (length text) (length so.ended) next is within so.few (so.many within) ∙ omega (arith, length-append so.ended (line_of so.cut ∷ []));
  }

  pub feed_told : (l : ℕ) (kind : CertKind)
      → (number ≡ 0 → (l ≡ 1) × ((reading : Reading) × IsFirstReading (strip_carriage_return rest) reading × (opening_fault reading ≡ Some kind)))
      → (0 < number → TellsFault ports (min (number + 1) (2 ^ 32 - 1)) g (strip_carriage_return rest) (AtLine l kind))
      → (more : List ℕ) → length ((text ++ 10 ∷ []) ++ more) ≤ certificate_limit → IsFaultyCert ports ((text ++ 10 ∷ []) ++ more) l kind
  feed_told l kind first further more short =
      let cut = ended_feed text rest so.ended so.cut in
      let within : length text ≤ certificate_limit = omega (arith, short, length-append (text ++ 10 ∷ []) more, length-append text (10 ∷ [])) in
      fault_next ports ((text ++ 10 ∷ []) ++ more) so.ended _ (line_of so.cut) g number (min (number + 1) (2 ^ 32 - 1)) l kind
      (cut.on more ∙ append_assoc so.ended (line_of so.cut ∷ []) _) so.taken (so.many within)
      (next_number number (length text) (length so.ended) (min (number + 1) (2 ^ 32 - 1)) refl within so.few (so.many within)) first further

  feed_next : (h : Gathering) (st : State) (next : ℕ) → next ≡ min (number + 1) (2 ^ 32 - 1) → IsNext ports number g (strip_carriage_return rest) h st
      → TookCert ports [] next h st (text ++ 10 ∷ [])
  feed_next h state.Open next is (first, further) = feed_open h next is first further
  feed_next h (state.Told l kind) next is (first, further) = feed_told l kind first further
  feed_next h state.Spent next is never = absurd never

-- what was taken by a reader that has found no fault
open_of : (ports : Registers) (rest : List ℕ) (number : ℕ) (g : Gathering) (st : State) (text : List ℕ) → st ≡ state.Open → TookCert ports rest number g st text
    → Standing ports rest number g text
open_of ports rest number g st text is took = subst (λ (s : State). TookCert ports rest number g s text) is took

-- after a fault bytes change nothing
told_on : (ports : Registers) (rest newer : List ℕ) (number next : ℕ) (g h : Gathering) (l : ℕ) (kind : CertKind) (text bytes : List ℕ)
    → TookCert ports rest number g (state.Told l kind) text → TookCert ports newer next h (state.Told l kind) (text ++ bytes)
told_on ports rest newer number next g h l kind text bytes told = λ more short.
    subst (λ (whole : List ℕ). IsFaultyCert ports whole l kind) (sym (append_assoc text bytes more))
    (told (bytes ++ more) (subst (λ (whole : List ℕ). length whole ≤ certificate_limit) (append_assoc text bytes more) short))

bytes_dropped : (st : State) (ports : Registers) (rest : List ℕ) (number : ℕ) (g : Gathering) (text bytes : List ℕ) → is_open st ≡ false
    → TookCert ports rest number g st text → TookCert ports rest number g st (text ++ bytes)
bytes_dropped state.Open ports rest number g text bytes closed took = absurd cc
bytes_dropped (state.Told l kind) ports rest number g text bytes closed took = told_on ports rest rest number number g g l kind text bytes took
bytes_dropped state.Spent ports rest number g text bytes closed took = took

pub dropped : (reader : Kept) (bytes : List ℕ) → is_open reader.state ≡ false → TookMore took_cert reader reader bytes
dropped reader bytes closed = λ text took. bytes_dropped reader.state reader.ports reader.rest reader.number reader.gathered text bytes closed took

-- a line that was read where no fault was found goes on
pub went_on : (ports : Registers) (number : ℕ) (g : Gathering) (st : State) (new : KeptLines) (line : List ℕ) → is_open st ≡ true
    → IsNext ports number g line new.gathered new.state → new.number ≡ min (number + 1) (2 ^ 32 - 1)
    → GoesOn st (record { ports = ports; number = number; gathered = g; state = st }) line new
went_on ports number g state.Open new line opened next many = (next, many)
went_on ports number g (state.Told l kind) new line opened next many = absurd cc
went_on ports number g state.Spent new line opened next many = absurd cc

-- bytes without a line feed are kept
pub bytes_held : (lines : KeptLines) (rest text bytes : List ℕ) → lines.state ≡ state.Open → TookCert lines.ports rest lines.number lines.gathered lines.state text → HasNoFeed bytes
    → TookCert lines.ports (rest ++ bytes) lines.number lines.gathered lines.state (text ++ bytes)
bytes_held lines rest text bytes is took none = subst
    (λ (s : State). TookCert lines.ports (rest ++ bytes) lines.number lines.gathered s (text ++ bytes)) (sym is)
    (held lines.ports rest lines.number lines.gathered text (open_of lines.ports rest lines.number lines.gathered lines.state text is took) bytes none)

-- bytes without a line feed make the line too long
pub bytes_refused : (lines new : KeptLines) (rest text bytes : List ℕ) → lines.state ≡ state.Open → TookCert lines.ports rest lines.number lines.gathered lines.state text → HasNoFeed bytes
    → 513 < length (rest ++ bytes) → new ≡ record lines { state = state.Told (min (lines.number + 1) (2 ^ 32 - 1)) BadLine }
    → TookCert new.ports rest new.number new.gathered new.state (text ++ bytes)
bytes_refused lines new rest text bytes is took none over same =
    subst (λ (after : KeptLines). TookCert after.ports rest after.number after.gathered after.state (text ++ bytes)) (sym same)
    (held_long lines.ports rest lines.number lines.gathered text (open_of lines.ports rest lines.number lines.gathered lines.state text is took) bytes none over _ refl)

-- the rest has ended
pub rest_ended : (st : State) (old new : KeptLines) (rest text : List ℕ) → old.state ≡ st → TookCert old.ports rest old.number old.gathered st text
    → GoesOn st old (strip_carriage_return rest) new → new.ports ≡ old.ports
    → TookCert new.ports [] new.number new.gathered new.state (text ++ 10 ∷ [])
rest_ended state.Open old new rest text is took (next, many) same =
    subst (λ (p : Registers). TookCert p [] new.number new.gathered new.state (text ++ 10 ∷ [])) (sym same)
    (feed_next old.ports rest old.number old.gathered text took new.gathered new.state new.number many next)
rest_ended (state.Told l kind) old new rest text is took kept same =
    subst (λ (lines : KeptLines). TookCert lines.ports [] lines.number lines.gathered lines.state (text ++ 10 ∷ [])) (sym kept)
    (subst (λ (s : State). TookCert old.ports [] old.number old.gathered s (text ++ 10 ∷ [])) (sym is)
    (told_on old.ports rest [] old.number old.number old.gathered old.gathered l kind text (10 ∷ []) took))
rest_ended state.Spent old new rest text is took kept same = absurd took

-- a line that lies whole in a piece has ended
pub whole_ended : (old new : KeptLines) (text bytes : List ℕ) → old.state ≡ state.Open → TookCert old.ports [] old.number old.gathered old.state text → HasNoFeed bytes
    → GoesOn old.state old (strip_carriage_return bytes) new → new.ports ≡ old.ports
    → TookCert new.ports [] new.number new.gathered new.state (text ++ (bytes ++ 10 ∷ []))
whole_ended old new text bytes is took none goes same =
    let stands = held old.ports [] old.number old.gathered text (open_of old.ports [] old.number old.gathered old.state text is took) bytes none in
    subst (λ (whole : List ℕ). TookCert new.ports [] new.number new.gathered new.state whole) (append_assoc text bytes (10 ∷ []))
    (rest_ended state.Open old new bytes (text ++ bytes) is stands (subst (λ (s : State). GoesOn s old (strip_carriage_return bytes) new) is goes) same)

-- ---- the text has ended

module _ (ports : Registers) (text : List ℕ) (g : Gathering) (number : ℕ) (all : IsWhole ports text g number) where
  so_far_all : 0 < number → SoFar ports text [] g number
  so_far_all some = subst (λ (n : ℕ). SoFar ports text [] g n) (sym all.many)
      (taken_so_far ports text all.ended [] g (all.whole ∙ sym (append-nil all.ended)) all.taken (omega (arith, some, all.many)))

  none_ended : (lines : List LineAt) → lines_of text ≡ lines → length lines ≡ 0 → lines_of text ≡ []
  none_ended [] whole none = whole
  none_ended (line ∷ lines) whole none = absurd (omega (arith, none))

  pub whole_empty : number ≡ 0 → IsFaultyCert ports text 1 BadLine
  whole_empty none = empty_refused ports text (none_ended all.ended all.whole (sym all.many ∙ none))

  pub whole_missing : 0 < number → is_last kind.End g.last ≡ false → (next : ℕ) → next ≡ min (number + 1) (2 ^ 32 - 1) → IsFaultyCert ports text next BadLine
  whole_missing some missing next is =
      let at : number + 1 ≡ next = omega (arith, is, all.few) in
      subst (λ (n : ℕ). IsFaultyCert ports text n BadLine) at (SoFar-missing ports text g number (so_far_all some) missing)

  pub whole_read : 0 < number → (cert : Cert_stated) → is_last kind.End g.last ≡ true → IsCertOfGathering g cert → IsCertOf ports text cert
  whole_read some cert ended is = SoFar-all ports text g number (so_far_all some) cert ended is

-- nothing stands after the last feed, or a line does
module _ (ports : Registers) (rest : List ℕ) (number : ℕ) (g : Gathering) (text : List ℕ) (so : Standing ports rest number g text) (within : length text ≤ certificate_limit) where
  pub all_taken : eqb (length (strip_carriage_return rest)) 0 ≡ true → IsWhole ports text g number
  all_taken none =
      let all = ended_all text rest so.ended so.cut in
      record { ended = so.ended; whole = rw none at all ∙ append-nil so.ended; taken = so.taken; many = so.many within; few = omega (arith, so.many within, so.few, within) }

  last_line : eqb (length (strip_carriage_return rest)) 0 ≡ false → lines_of text ≡ so.ended ++ line_of so.cut ∷ []
  last_line some = let all = ended_all text rest so.ended so.cut in rw some at all

  pub last_taken : eqb (length (strip_carriage_return rest)) 0 ≡ false → (h : Gathering) (next : ℕ) → next ≡ min (number + 1) (2 ^ 32 - 1)
      → (number ≡ 0 → (version : ℕ) × IsFirstReading (strip_carriage_return rest) (Opening version) × (h ≡ record g { version = version }))
      → (0 < number → TakesLine ports g (strip_carriage_return rest) h) → IsWhole ports text h next
  last_taken some h next is first further =
      let at = next_number number (length text) (length so.ended) next is within so.few (so.many within) in
      record {
        ended = so.ended ++ line_of so.cut ∷ [];
        whole = last_line some;
        taken = taken_more ports so.ended (line_of so.cut) g h so.taken (λ none. first (so.many within ∙ none)) (λ more. further (omega (arith, more, so.many within)));
        many = at ∙ omega (arith, length-append so.ended (line_of so.cut ∷ []));
        few = omega (arith, at, so.few, within);
      }

  pub last_told : eqb (length (strip_carriage_return rest)) 0 ≡ false → (l : ℕ) (kind : CertKind)
      → (number ≡ 0 → (l ≡ 1) × ((reading : Reading) × IsFirstReading (strip_carriage_return rest) reading × (opening_fault reading ≡ Some kind)))
      → (0 < number → TellsFault ports (min (number + 1) (2 ^ 32 - 1)) g (strip_carriage_return rest) (AtLine l kind)) → IsFaultyCert ports text l kind
  last_told some l kind first further =
      fault_next ports text so.ended [] (line_of so.cut) g number (min (number + 1) (2 ^ 32 - 1)) l kind (last_line some) so.taken (so.many within)
      (next_number number (length text) (length so.ended) (min (number + 1) (2 ^ 32 - 1)) refl within so.few (so.many within)) first further

-- what comes of the last line
last_state : (st : State) (old new : KeptLines) (rest text : List ℕ) → Standing old.ports rest old.number old.gathered text → length text ≤ certificate_limit
    → eqb (length (strip_carriage_return rest)) 0 ≡ false → IsNext old.ports old.number old.gathered (strip_carriage_return rest) new.gathered st
    → new.number ≡ min (old.number + 1) (2 ^ 32 - 1) → new.ports ≡ old.ports → HasRead st new text
last_state state.Open old new rest text so short some (first, further) many same =
    subst (λ (p : Registers). IsWhole p text new.gathered new.number) (sym same)
    (last_taken old.ports rest old.number old.gathered text so short some new.gathered new.number many first further)
last_state (state.Told l kind) old new rest text so short some (first, further) many same =
    subst (λ (p : Registers). IsFaultyCert p text l kind) (sym same) (last_told old.ports rest old.number old.gathered text so short some l kind first further)
last_state state.Spent old new rest text so short some never many same = absurd never

-- a fault that is told whatever follows is that of the text
told_now : (ports : Registers) (text : List ℕ) (l : ℕ) (kind : CertKind)
    → ((more : List ℕ) → length (text ++ more) ≤ certificate_limit → IsFaultyCert ports (text ++ more) l kind) → length text ≤ certificate_limit → IsFaultyCert ports text l kind
told_now ports text l kind told short = subst (λ (whole : List ℕ). IsFaultyCert ports whole l kind) (append-nil text) (told [] (omega (arith, length-append text [], short)))

-- ---- the answer

-- nothing stands after the last feed
pub all_read : (st : State) (lines : KeptLines) (rest text : List ℕ) → TookCert lines.ports rest lines.number lines.gathered st text → length text ≤ certificate_limit
    → eqb (length (strip_carriage_return rest)) 0 ≡ true → HasRead st lines text
all_read state.Open lines rest text took short none = all_taken lines.ports rest lines.number lines.gathered text took short none
all_read (state.Told l kind) lines rest text told short none = told_now lines.ports text l kind told short
all_read state.Spent lines rest text never short none = never

-- a line stands there
pub last_read : (st : State) (old new : KeptLines) (rest text : List ℕ) → old.state ≡ st → TookCert old.ports rest old.number old.gathered st text → length text ≤ certificate_limit
    → eqb (length (strip_carriage_return rest)) 0 ≡ false → GoesOn st old (strip_carriage_return rest) new → new.ports ≡ old.ports → HasRead new.state new text
last_read state.Open old new rest text is took short some (next, many) same =
    last_state new.state old new rest text took short some next many same
last_read (state.Told l kind) old new rest text is told short some kept same =
    subst (λ (lines : KeptLines). HasRead lines.state lines text) (sym kept) (subst (λ (s : State). HasRead s old text) (sym is) (told_now old.ports text l kind told short))
last_read state.Spent old new rest text is never short some kept same = absurd never

-- what holds of a call that went well goes on to what follows from it
pub on_ok : {A E : Type 0} {P Q : Type 0} → (r : Result A E) → (P → Q) → OnOk r P → OnOk r Q
on_ok (Ok value) follows is = follows is
on_ok (Err error) follows is = tt

pub empty_of : (bytes : List ℕ) → length bytes ≡ 0 → bytes ≡ []
empty_of [] none = refl
empty_of (byte ∷ bytes) none = absurd (omega (arith, none))

-- a certificate is that of each text that was read, and an error the first fault of each
module _ (ports : Registers) (lines : KeptLines) (Took : List ℕ → Type 0) (same : lines.ports ≡ ports)
    (read : (text : List ℕ) → Took text → length text ≤ certificate_limit → HasRead lines.state lines text) where
  pub ok_moved : (r : Result Cert_stated CertError) → IfOk r (λ cert. (text : List ℕ) → HasRead lines.state lines text → IsCertOf lines.ports text cert)
      → IfOk r (λ cert. (text : List ℕ) → Took text → length text ≤ certificate_limit → IsCertOf ports text cert)
  ok_moved (Ok cert) is = λ text took short. subst (λ (p : Registers). IsCertOf p text cert) same (is text (read text took short))
  ok_moved (Err error) is = tt

  pub err_moved : (r : Result Cert_stated CertError) → IfErr r (λ error. (text : List ℕ) → HasRead lines.state lines text → IsRefused lines.ports text error)
      → IfErr r (λ error. (text : List ℕ) → Took text → length text ≤ certificate_limit → IsRefused ports text error)
  err_moved (Ok cert) is = tt
  err_moved (Err error) is = λ text took short. subst (λ (p : Registers). IsRefused p text error) same (is text (read text took short))
