-- Verbs, subjects and keys by their names.
use Rattle.std.proofs.Common.{◌≡◌, ℕ, ◌+◌, ◌<◌, zero, suc, Bool, true, List, [], ◌∷◌, Option, Some, None, refl, sym, ap, ◌∙◌, inl, inr, arith, nat_eq}
use Rattle.std.specs.Prelude.{IfSome, nat_lt}
use Rattle.std.specs.List.{find, list_all}
use Rattle.std.specs.Cmp.Lexicographic.{pointwise, same_text}
use Rattle.std.proofs.lemmas.Bool.{cases_Bool, and_parts, ltb-true}
use Rattle.ags_text.proofs.Deciding.{same_answer}
use Rattle.ags_deda.specs.declared.keys.Key.{Key}
use Rattle.ags_deda.specs.declared.keys.Key.TheVariants as key
use Rattle.ags_script.specs.declared.verbs.Verb.{Verb}
use Rattle.ags_script.specs.declared.verbs.Verb.TheVariants as verb
use Rattle.ags_script.specs.declared.verbs.Subject.{Subject}
use Rattle.ags_script.specs.declared.verbs.Subject.TheVariants as subject
use Rattle.ags_script.specs.Operand.{named, verb_name, all_verbs, verb_named, subject_name, all_subjects, subject_named, key_name, all_keys, key_named}
use Rattle.ags_script.specs.Spelling.{IsKeyName}

-- what is found passes the test
found_passes : {X : Type 0} (p : X → Bool) (xs : List X) (x : X) → find p xs ≡ Some x → p x ≡ true
found_passes p [] x is = absurd (cc)
found_passes p (y ∷ xs) x is =
    elim (cases_Bool (p y)) [
      | inl passes ↦ let found = rw passes at is in let same : y ≡ x = (cc) in rw same at passes
      | inr fails ↦ found_passes p xs x (rw fails at is)
    ]

-- and each test that all pass
found_all : {X : Type 0} (p q : X → Bool) (xs : List X) (x : X) → find p xs ≡ Some x → list_all q xs ≡ true → q x ≡ true
found_all p q [] x is all = absurd (cc)
found_all p q (y ∷ xs) x is all =
    let parts = and_parts (q y) (list_all q xs) all in
    elim (cases_Bool (p y)) [
      | inl passes ↦ let found = rw passes at is in let same : y ≡ x = (cc) in rw same at parts.0
      | inr fails ↦ found_all p q xs x (rw fails at is) parts.1
    ]

pub named_name : {X : Type 0} (name : X → List ℕ) (all : List X) (text : List ℕ) (x : X) → named name all text ≡ Some x → name x ≡ text
named_name name all text x is = same_text (name x) text (sym (found_passes (λ y. pointwise nat_eq (name y) text) all x is))

-- what is read of a text is what is found by that name, where each is found by its own
pub named_read : {X : Type 0} (name : X → List ℕ) (all : List X) → ((x : X) → named name all (name x) ≡ Some x) → (text : List ℕ) (result : Option X) → IfSome result (λ x. name x ≡ text)
    → ((x : X) → name x ≡ text → result ≡ Some x) → result ≡ named name all text
named_read name all finds text result found only =
    same_answer (λ x. name x ≡ text) result (named name all text) found only (named_name name all text) (λ x is. ap (named name all) (sym is) ∙ finds x)

-- ---- verbs

pub verb_tells : (text : List ℕ) (one : Verb) → verb_named text ≡ Some one → verb_name one ≡ text
unfolding verb_named
verb_tells text one is = named_name verb_name all_verbs text one is

pub verb_finds : (one : Verb) → verb_named (verb_name one) ≡ Some one
unfolding verb_named
verb_finds verb.Start = refl
verb_finds verb.Cell = refl
verb_finds verb.Port = refl
verb_finds verb.Step = refl
verb_finds verb.Pulse = refl
verb_finds verb.Set = refl
verb_finds verb.Key = refl
verb_finds verb.Feed = refl
verb_finds verb.Cycle = refl
verb_finds verb.Show = refl

pub verb_read : (text : List ℕ) (result : Option Verb) → IfSome result (λ one. verb_name one ≡ text) → ((one : Verb) → verb_name one ≡ text → result ≡ Some one) → result ≡ verb_named text
unfolding verb_named
verb_read text result found only = named_read verb_name all_verbs verb_finds text result found only

-- ---- subjects

pub subject_tells : (text : List ℕ) (one : Subject) → subject_named text ≡ Some one → subject_name one ≡ text
unfolding subject_named
subject_tells text one is = named_name subject_name all_subjects text one is

pub subject_finds : (one : Subject) → subject_named (subject_name one) ≡ Some one
unfolding subject_named
subject_finds subject.Reg = refl
subject_finds subject.Cell = refl
subject_finds subject.Out = refl
subject_finds subject.Deda = refl

pub no_subject : subject_named [] ≡ None
unfolding subject_named
no_subject = refl

pub subject_read : (text : List ℕ) (result : Option Subject) → IfSome result (λ one. subject_name one ≡ text) → ((one : Subject) → subject_name one ≡ text → result ≡ Some one)
    → result ≡ subject_named text
unfolding subject_named
subject_read text result found only = named_read subject_name all_subjects subject_finds text result found only

-- ---- keys

is_real : Key → Bool
is_real (key.Digit digit) = nat_lt digit 10
is_real key.Plus = true
is_real key.Minus = true
is_real key.Clr = true
is_real key.Entr = true
is_real key.ReadOut = true
is_real key.Hold = true

name_is : (text : List ℕ) (one : Key) → is_real one ≡ true → key_name one ≡ text → IsKeyName text one
unfolding is_real
name_is text (key.Digit digit) real is = (ltb-true digit 10 real, sym is)
name_is text key.Plus real is = sym is
name_is text key.Minus real is = sym is
name_is text key.Clr real is = sym is
name_is text key.Entr real is = sym is
name_is text key.ReadOut real is = sym is
name_is text key.Hold real is = sym is

all_real : list_all is_real all_keys ≡ true
unfolding is_real
all_real = refl

pub key_tells : (text : List ℕ) (one : Key) → key_named text ≡ Some one → IsKeyName text one
unfolding key_named
key_tells text one is =
    name_is text one (found_all (λ y. pointwise nat_eq (key_name y) text) is_real all_keys one is all_real) (named_name key_name all_keys text one is)

-- the ten digits
digit_finds : (digit : ℕ) → digit < 10 → key_named ((48 + digit) ∷ []) ≡ Some (key.Digit digit)
unfolding key_named
digit_finds zero lt = refl
digit_finds (suc zero) lt = refl
digit_finds (suc (suc zero)) lt = refl
digit_finds (suc (suc (suc zero))) lt = refl
digit_finds (suc (suc (suc (suc zero)))) lt = refl
digit_finds (suc (suc (suc (suc (suc zero))))) lt = refl
digit_finds (suc (suc (suc (suc (suc (suc zero)))))) lt = refl
digit_finds (suc (suc (suc (suc (suc (suc (suc zero))))))) lt = refl
digit_finds (suc (suc (suc (suc (suc (suc (suc (suc zero)))))))) lt = refl
digit_finds (suc (suc (suc (suc (suc (suc (suc (suc (suc zero))))))))) lt = refl
digit_finds (suc (suc (suc (suc (suc (suc (suc (suc (suc (suc n)))))))))) lt = absurd (omega arith)

pub key_finds : (text : List ℕ) (one : Key) → IsKeyName text one → key_named text ≡ Some one
unfolding key_named
key_finds text (key.Digit digit) is = rw (is.1) (digit_finds digit is.0)
key_finds text key.Plus is = rw is refl
key_finds text key.Minus is = rw is refl
key_finds text key.Clr is = rw is refl
key_finds text key.Entr is = rw is refl
key_finds text key.ReadOut is = rw is refl
key_finds text key.Hold is = rw is refl

pub key_read : (text : List ℕ) (result : Option Key) → IfSome result (λ one. IsKeyName text one) → ((one : Key) → IsKeyName text one → result ≡ Some one) → result ≡ key_named text
key_read text result found only = same_answer (IsKeyName text) result (key_named text) found only (key_tells text) (key_finds text)
