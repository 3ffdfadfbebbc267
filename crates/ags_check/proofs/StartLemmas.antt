-- Links at the start: the cell of one is erasable, and a set has one value alone where both its ends have it.
use Rattle.std.proofs.Common.{◌≡◌, ℕ, ◌<◌, ◌^◌, true, arith, ℤ}
use Rattle.std.specs.Prelude.{Option, Some, None, IfSome}
use Rattle.std.proofs.lemmas.Int.{ints}
use Rattle.std.proofs.lemmas.Bool.Decides.{nat_tests}
use Rattle.ags_word.specs.Word.{val}
use Rattle.ags_domain.specs.Value.{value_meaning, value_ends}
use Rattle.ags_domain.specs.MeaningLaws.{value_lawful}
use Rattle.ags_domain.specs.declared.values.Value.{Value}
use Rattle.ags_row.specs.Link.{is_link}
use Rattle.ags_row.specs.declared.links.Link.{Link}

pub linked_erasable : (link : Option Link) → is_link link ≡ true → IfSome link (λ link. link.address < 2048)
linked_erasable None is = tt
linked_erasable (Some link) is = grind (arith, nat_tests)

pub each_of_ends : (offset : ℤ) (words : Value) → offset ≡ val (value_ends words).least → offset ≡ val (value_ends words).greatest
    → (word : ℕ) → word < 2 ^ 18 → value_meaning.held words word ≡ true → offset ≡ val word
each_of_ends offset words low high word below held =
    let between = value_lawful.between words word below held in
    let from = between.from in
    let to = between.to in
    omega (arith, ints)
