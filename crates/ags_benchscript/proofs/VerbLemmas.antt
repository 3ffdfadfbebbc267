-- Verbs by their names.
use Rattle.std.proofs.Common.{◌≡◌, ℕ, List, Option, Some, refl}
use Rattle.std.specs.Prelude.{IfSome}
use Rattle.ags_script.proofs.NameLemmas.{named_read, named_name}
use Rattle.ags_benchscript.specs.declared.verbs.Verb.{Verb}
use Rattle.ags_benchscript.specs.declared.verbs.Verb.TheVariants as verb
use Rattle.ags_benchscript.specs.Reading.{verb_name, all_verbs, verb_named}

pub verb_tells : (text : List ℕ) (one : Verb) → verb_named text ≡ Some one → verb_name one ≡ text
unfolding verb_named
verb_tells text one is = named_name verb_name all_verbs text one is

pub verb_finds : (one : Verb) → verb_named (verb_name one) ≡ Some one
unfolding verb_named
verb_finds verb.Feed = refl
verb_finds verb.Detach = refl

pub verb_read : (text : List ℕ) (result : Option Verb) → IfSome result (λ one. verb_name one ≡ text) → ((one : Verb) → verb_name one ≡ text → result ≡ Some one) → result ≡ verb_named text
unfolding verb_named
verb_read text result found only = named_read verb_name all_verbs verb_finds text result found only
