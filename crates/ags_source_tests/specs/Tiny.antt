-- A tiny program for the tests: two kinds of files, a key and a text, and one work, which prints a text. What it is asked without
-- two names it answers with a text of its own.
use Rattle.std.specs.Prelude.{◌≡◌, ◌≢◌, ◌⊎◌, ℕ, List, [], ◌∷◌, codes}
use Rattle.std.proofs.Common.{Bool, true, false, refl, sym, ◌∙◌, inl, inr, zero, suc, arith}
use Rattle.std.specs.Str.{bytes_eq}
use Rattle.std.proofs.lemmas.Slice.Eq.{bytes_eq-Decides}
use Rattle.ags_plan.specs.declared.causes.Cause.{Cause}
use Rattle.ags_plan.specs.declared.causes.Cause.TheVariants.{Content, Absence, ReadFault, WriteFault, Memory}
use Rattle.ags_plan.specs.declared.causes.Stop.{Stop}
use Rattle.ags_plan.specs.declared.causes.Stop.TheVariants as stop
use Rattle.ags_plan.specs.Plan.{Definition, Plan, Do, Read, Take}
use Rattle.ags_plan.specs.Lawful.{IsLawful}

pub data TinyKind : Type 0 where
  Key : TinyKind
  Text : TinyKind

-- what a file holds: a key holds nothing more, and a text its bytes
abbrev pub TinyValue : TinyKind → Type 0
TinyValue Key = Unit {0}
TinyValue Text = List ℕ

abbrev pub tiny_limit : TinyKind → ℕ
tiny_limit Key = 1
tiny_limit Text = 9

-- the key is the letter K, and any bytes are a text
abbrev pub TinyHolds : (kind : TinyKind) → (bytes : List ℕ) → TinyValue kind → Type 0
TinyHolds Key bytes value = bytes ≡ codes "K"
TinyHolds Text bytes value = value ≡ bytes

abbrev pub TinyRefuses : (kind : TinyKind) → (bytes line : List ℕ) → Type 0
TinyRefuses Key bytes line = (bytes ≢ codes "K") × (line ≡ codes "NO KEY\n")
TinyRefuses Text bytes line = ⊥

abbrev pub tiny_status : Stop → ℕ
tiny_status stop.Absent = 1
tiny_status stop.TooLong = 4
tiny_status stop.ReadFault = 2
tiny_status stop.WriteFault = 3
tiny_status stop.NoMemory = 5

-- 0 the work is done, 6 the key is none, 4 a file is too long
abbrev pub tiny_cause : ℕ → Cause
tiny_cause zero = Content
tiny_cause (suc zero) = Absence
tiny_cause (suc (suc zero)) = ReadFault
tiny_cause (suc (suc (suc zero))) = WriteFault
tiny_cause (suc (suc (suc (suc zero)))) = Content
tiny_cause (suc (suc (suc (suc (suc zero))))) = Memory
tiny_cause (suc (suc (suc (suc (suc (suc n)))))) = Content

abbrev pub TinyMakes : (work text : List ℕ) → ℕ → Type 0
TinyMakes work text status = (text ≡ work) × (status ≡ 0)

abbrev pub tiny : Definition ℕ
tiny = record {
  Kind = TinyKind;
  Value = TinyValue;
  limit = tiny_limit;
  Holds = TinyHolds;
  Refuses = TinyRefuses;
  refused = λ kind. 6;
  Work = List ℕ;
  Makes = TinyMakes;
  status_of = tiny_status;
  cause = tiny_cause;
}

-- with two names, the text of the second where the first is a key; else a text of its own
abbrev pub tiny_plan : List (List ℕ) → Plan tiny
tiny_plan (key ∷ text ∷ []) = Read Key key (λ _. Read Text text (λ bytes. Do bytes))
tiny_plan _ = Take Text (codes "own") (codes "NAMES\n") (λ bytes. Do bytes)

-- ---- it is lawful

some_reading : (kind : TinyKind) (bytes : List ℕ) → ((value : TinyValue kind) × TinyHolds kind bytes value) ⊎ ((line : List ℕ) × TinyRefuses kind bytes line)
some_reading Text bytes = inl (bytes, refl)
some_reading Key bytes = by_test (bytes_eq bytes (codes "K")) refl
  where
    by_test : (same : Bool) → bytes_eq bytes (codes "K") ≡ same → ((value : Unit {0}) × TinyHolds Key bytes value) ⊎ ((line : List ℕ) × TinyRefuses Key bytes line)
    by_test true is = inl (tt, (bytes_eq-Decides bytes (codes "K")).0 is)
    by_test false is = inr (codes "NO KEY\n", ((λ same. let yes = (bytes_eq-Decides bytes (codes "K")).1 same in absurd cc), refl))

one_reading : (kind : TinyKind) (bytes : List ℕ) (one other : TinyValue kind) → TinyHolds kind bytes one → TinyHolds kind bytes other → one ≡ other
one_reading Key bytes one other first second = refl
one_reading Text bytes one other first second = first ∙ sym second

one_refusal : (kind : TinyKind) (bytes line other : List ℕ) → TinyRefuses kind bytes line → TinyRefuses kind bytes other → line ≡ other
one_refusal Key bytes line other first second = first.1 ∙ sym second.1
one_refusal Text bytes line other first second = absurd first

not_both : (kind : TinyKind) (bytes line : List ℕ) (value : TinyValue kind) → TinyHolds kind bytes value → TinyRefuses kind bytes line → ⊥
not_both Key bytes line value holds refuses = refuses.0 holds
not_both Text bytes line value holds refuses = refuses

made_of_content : (status : ℕ) → status ≡ 0 → tiny_cause status ≡ Content
made_of_content status is = rw is refl

pub lawful_tiny : IsLawful tiny tiny_plan
lawful_tiny = record {
  readable = record { some = λ kind bytes short. some_reading kind bytes; one_value = λ kind bytes one other short first second. one_reading kind bytes one other first second; one_line = one_refusal; not_both = not_both };
  doable = record {
    some = λ told arguments work ends. (work, 0, (refl, refl));
    one = λ told arguments work text other status ended ends first second. (first.0 ∙ sym second.0, first.1 ∙ sym second.1);
  };
  apart = record {
    absent = refl;
    long = refl;
    read_fault = refl;
    write_fault = refl;
    memory = refl;
    refused = λ kind. refl;
    refused_not_long = λ kind is. absurd (omega arith);
    made = λ work text status made. made_of_content status made.1;
    made_not_long = λ work text made. let is = made.1 in absurd (omega arith);
    made_not_refused = λ work text kind made. let is = made.1 in absurd (omega arith);
  };
}
