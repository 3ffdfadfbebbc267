-- The lines of a bench script, one after the other.
use Rattle.std.proofs.Common.{◌≡◌, ℕ, suc, ◌+◌, ◌≤◌, ◌⊎◌, List, [], ◌∷◌, ◌++◌, length, reverse, Option, Some, None, Ok, Err, refl, sym, ap, ◌∙◌, inl, inr, arith, append_assoc}
use Rattle.std.specs.Prelude.{Result, IfOk, IfErr, IsOkAnd, IsErrOf}
use Rattle.std.proofs.lemmas.List.{append-nil, reverse-append, length-reverse}
use Rattle.ags_text.specs.Fault.{first_fault, first_fault-nil, first_fault-faulty, first_fault-faultless}
use Rattle.ags_text.specs.Line.{LineAt, Follow, lines_of}
use Rattle.ags_ports.specs.declared.machines.Machine.{Machine}
use Rattle.ags_script.specs.declared.script_errors.ScriptKind.{ScriptKind}
use Rattle.ags_script.specs.declared.script_errors.ScriptError.{ScriptError}
use Rattle.ags_script.specs.declared.script_errors.ScriptError.TheVariants.{At, NoMemory}
use Rattle.ags_benchscript.specs.declared.commands.BenchCommand.{BenchCommand}
use Rattle.ags_benchscript.specs.Reading.{reading}
use Rattle.ags_benchscript.specs.Script.{asked_in, asked_from, asked_of, reading_fault, line_fault, IsScript, IsFaultyScript, IsRefused}
use Rattle.ags_benchscript.specs.Tally.{TellsFault}

-- Of a text's lines so many are read without a fault, nearest first, with these commands, and these are left: there are no
-- more of them than bytes and one.
pub record SoFar (machine : Machine) (text : List ℕ) (left : List LineAt) (asked : List (ℕ × BenchCommand)) (number : ℕ) : Type 0 where
  pub before : List LineAt
  pub whole : lines_of text ≡ reverse before ++ left
  pub on : first_fault (line_fault machine) [] (lines_of text) ≡ first_fault (line_fault machine) before left
  pub asked_are : asked ≡ asked_of (reverse before)
  pub so_many : number ≡ length before
  pub from : ℕ
  pub few : length before ≤ from
  pub short : from ≤ length text + 1
  pub follow : Follow text from left

pub nothing_asked : asked_of [] ≡ []
unfolding asked_from
nothing_asked = refl

pub SoFar-none : (machine : Machine) (text : List ℕ) → Follow text 0 (lines_of text) → SoFar machine text (lines_of text) [] 0
SoFar-none machine text follow = record {
  before = [];
  whole = refl;
  on = refl;
  asked_are = sym nothing_asked;
  so_many = refl;
  from = 0;
  few = omega arith;
  short = omega arith;
  follow = follow;
}

pub reverse-more : (line : LineAt) (before : List LineAt) → reverse (line ∷ before) ≡ reverse before ++ line ∷ []
reverse-more line before = reverse-append (line ∷ []) before

-- one line more, after lines of which the first has this number
asked-more : (number : ℕ) (lines : List LineAt) (line : LineAt) → asked_from number (lines ++ line ∷ []) ≡ asked_from number lines ++ asked_in (number + length lines) (reading line.bytes)
unfolding asked_from
asked-more number [] line =
    let same : number ≡ number + length {A = LineAt} [] = omega arith in
    append-nil (asked_in number (reading line.bytes)) ∙ ap (λ (n : ℕ). asked_in n (reading line.bytes)) same
asked-more number (first ∷ lines) line =
    let same : number + 1 + length lines ≡ number + suc (length lines) = omega arith in
    ap (λ (rest : List (ℕ × BenchCommand)). asked_in number (reading first.bytes) ++ rest) (asked-more (number + 1) lines line ∙ ap (λ (n : ℕ). asked_from (number + 1) lines ++ asked_in n (reading line.bytes)) same)
    ∙ sym (append_assoc (asked_in number (reading first.bytes)) (asked_from (number + 1) lines) (asked_in (number + suc (length lines)) (reading line.bytes)))

pub asked-next : (before : List LineAt) (line : LineAt) → asked_of (reverse (line ∷ before)) ≡ asked_of (reverse before) ++ asked_in (length before + 1) (reading line.bytes)
asked-next before line =
    let same : 1 + length (reverse before) ≡ length before + 1 = omega (arith, length-reverse before) in
    ap asked_of (reverse-more line before) ∙ asked-more 1 (reverse before) line ∙ ap (λ (n : ℕ). asked_of (reverse before) ++ asked_in n (reading line.bytes)) same

-- the next line is read
pub SoFar-more : (machine : Machine) (text : List ℕ) (left : List LineAt) (asked more : List (ℕ × BenchCommand)) (number : ℕ) (line : LineAt) → SoFar machine text (line ∷ left) asked number
    → reading_fault machine asked (reading line.bytes) ≡ None → more ≡ asked ++ asked_in (number + 1) (reading line.bytes) → SoFar machine text left more (number + 1)
SoFar-more machine text left asked more number line so fine is =
    let here : line_fault machine so.before line ≡ None = rw (← so.asked_are) fine in
    record {
      before = line ∷ so.before;
      whole = so.whole ∙ sym (append_assoc (reverse so.before) (line ∷ []) left) ∙ ap (λ (front : List LineAt). front ++ left) (sym (reverse-more line so.before));
      on = so.on ∙ first_fault-faultless (line_fault machine) so.before line left here;
      asked_are = is ∙ ap (λ (all : List (ℕ × BenchCommand)). all ++ asked_in (number + 1) (reading line.bytes)) so.asked_are
          ∙ ap (λ (n : ℕ). asked_of (reverse so.before) ++ asked_in (n + 1) (reading line.bytes)) so.so_many ∙ sym (asked-next so.before line);
      so_many = omega (arith, so.so_many);
      from = line.start + length line.bytes + 1;
      few = omega (arith, so.few, so.follow.0);
      short = omega (arith, so.follow.1.within);
      follow = so.follow.2;
    }

-- the next line is at fault
pub SoFar-fault : (machine : Machine) (text : List ℕ) (left : List LineAt) (asked : List (ℕ × BenchCommand)) (number : ℕ) (line : LineAt) (error : ScriptError) → SoFar machine text (line ∷ left) asked number
    → TellsFault machine (number + 1) asked (reading line.bytes) error → IsRefused machine text error
SoFar-fault machine text left asked number line (At position kind) so tells =
    let here : line_fault machine so.before line ≡ Some kind = rw (← so.asked_are) tells.1 in
    record { first = so.on ∙ first_fault-faulty (line_fault machine) so.before line left kind here ∙ rw (tells.0, so.so_many) refl }
SoFar-fault machine text left asked number line NoMemory so tells = tt

-- all lines are read
pub SoFar-all : (machine : Machine) (text : List ℕ) (asked : List (ℕ × BenchCommand)) (number : ℕ) → SoFar machine text [] asked number → IsScript machine text asked
SoFar-all machine text asked number so = record {
  faultless = so.on ∙ first_fault-nil (line_fault machine) so.before;
  asked_are = so.asked_are ∙ ap asked_of (sym (append-nil (reverse so.before)) ∙ sym so.whole);
}

pub SoFar-few : (machine : Machine) (text : List ℕ) (left : List LineAt) (asked : List (ℕ × BenchCommand)) (number : ℕ) → SoFar machine text left asked number → number ≤ length text + 1
SoFar-few machine text left asked number so = omega (arith, so.so_many, so.few, so.short)

-- ---- a text means one thing

pub script_or_faulty : (machine : Machine) (text : List ℕ) → ((asked : List (ℕ × BenchCommand)) × IsScript machine text asked) ⊎ ((line : ℕ) × (kind : ScriptKind) × IsFaultyScript machine text line kind)
script_or_faulty machine text = by_fault (first_fault (line_fault machine) [] (lines_of text)) refl
  where
    by_fault : (found : Option (ℕ × ScriptKind)) → first_fault (line_fault machine) [] (lines_of text) ≡ found
        → ((asked : List (ℕ × BenchCommand)) × IsScript machine text asked) ⊎ ((line : ℕ) × (kind : ScriptKind) × IsFaultyScript machine text line kind)
    by_fault None is = inl (asked_of (lines_of text), record { faultless = is; asked_are = refl })
    by_fault (Some found) is = inr (found.0, found.1, record { first = is })

pub one_script : (machine : Machine) (text : List ℕ) (one other : List (ℕ × BenchCommand)) → IsScript machine text one → IsScript machine text other → one ≡ other
one_script machine text one other first second = first.asked_are ∙ sym second.asked_are

pub not_faulty : (machine : Machine) (text : List ℕ) (asked : List (ℕ × BenchCommand)) (line : ℕ) (kind : ScriptKind) → IsScript machine text asked → IsFaultyScript machine text line kind → ⊥
not_faulty machine text asked line kind script faulty =
    let clash : ◌≡◌ {A = Option (ℕ × ScriptKind)} None (Some (line, kind)) = sym script.faultless ∙ faulty.first in
    absurd cc

same_fault : (line other_line : ℕ) (kind other_kind : ScriptKind) → ◌≡◌ {A = Option (ℕ × ScriptKind)} (Some (line, kind)) (Some (other_line, other_kind)) → (line ≡ other_line) × (kind ≡ other_kind)
same_fault line other_line kind other_kind same =
    let pairs : ◌≡◌ {A = ℕ × ScriptKind} (line, kind) (other_line, other_kind) = cc in
    (ap (λ (p : ℕ × ScriptKind). p.0) pairs, ap (λ (p : ℕ × ScriptKind). p.1) pairs)

pub one_fault : (machine : Machine) (text : List ℕ) (line other_line : ℕ) (kind other_kind : ScriptKind) → IsFaultyScript machine text line kind → IsFaultyScript machine text other_line other_kind
    → (line ≡ other_line) × (kind ≡ other_kind)
one_fault machine text line other_line kind other_kind first second = same_fault line other_line kind other_kind (sym first.first ∙ second.first)

-- ---- what the reading of a script answers

pub faultless_exactly : (machine : Machine) (text : List ℕ) (result : Result (List (ℕ × BenchCommand)) ScriptError) → IfOk result (λ script. IsScript machine text script) → IfErr result (IsRefused machine text)
    → (asked : List (ℕ × BenchCommand)) → IsScript machine text asked → (IsOkAnd result (λ script. script ≡ asked)) ⊎ (IsErrOf result NoMemory)
faultless_exactly machine text (Ok script) is refused asked other = inl (one_script machine text script asked is other)
faultless_exactly machine text (Err (At line kind)) is refused asked other = absurd (not_faulty machine text asked line kind other refused)
faultless_exactly machine text (Err NoMemory) is refused asked other = inr refl

same_at : (line other_line : ℕ) (kind other_kind : ScriptKind) → (line ≡ other_line) × (kind ≡ other_kind) → At line kind ≡ At other_line other_kind
same_at line other_line kind other_kind same = rw (same.0, same.1) refl

pub faulty_exactly : (machine : Machine) (text : List ℕ) (result : Result (List (ℕ × BenchCommand)) ScriptError) → IfOk result (λ script. IsScript machine text script) → IfErr result (IsRefused machine text)
    → (line : ℕ) (kind : ScriptKind) → IsFaultyScript machine text line kind → (IsErrOf result (At line kind)) ⊎ (IsErrOf result NoMemory)
faulty_exactly machine text (Ok script) is refused line kind faulty = absurd (not_faulty machine text script line kind is faulty)
faulty_exactly machine text (Err (At other_line other_kind)) is refused line kind faulty =
    inl (ap (λ (error : ScriptError). Err error) (same_at other_line line other_kind kind (one_fault machine text other_line line other_kind kind refused faulty)))
faulty_exactly machine text (Err NoMemory) is refused line kind faulty = inr refl
