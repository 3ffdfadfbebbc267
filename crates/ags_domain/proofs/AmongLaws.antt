-- One walk along two lists that ascend tells whether each word of the one stands in the other.
use Rattle.std.proofs.Common.{◌≡◌, ℕ, ◌+◌, ◌<◌, ◌≤◌, true, false, refl, sym, ap, ◌∙◌, subst, ⊎_elim, arith, List, [], ◌∷◌, length, drop, get_or}
use Rattle.std.specs.Prelude.{nat_eq}
use Rattle.std.specs.List.{list_all}
use Rattle.std.proofs.lemmas.Bool.{cases_lt}
use Rattle.std.proofs.lemmas.Bool.Decides.{nat_tests}
use Rattle.std.proofs.lemmas.List.{drop_all, length-drop}
use Rattle.ags_domain.specs.WordSet.{ascends_from, lists}
use Rattle.ags_domain.specs.ListLaws.{drop_at, ascends_again, ascends_head, ascends_lower, ascends_tail, lists_below, lists_head, skipped}

-- a word below all of some words tells nothing of them
all_skipped : (o from : ℕ) (os ws : List ℕ) → o < from → ascends_from from ws ≡ true
    → list_all (lists (o ∷ os)) ws ≡ list_all (lists os) ws
all_skipped o from os [] below ascends = refl
all_skipped o from os (w ∷ ws) below ascends =
    let head = ascends_head from w ws ascends in
    rw (skipped o w os (omega arith), all_skipped o (w + 1) os ws (omega arith) (ascends_tail from w ws ascends)) refl

-- where one word is, and there is nothing that it could stand in, not each is
none_listed : (ws : List ℕ) → 0 < length ws → list_all (lists []) ws ≡ false
none_listed [] some = absurd (omega arith)
none_listed (w ∷ ws) some = refl

-- the words from two places on tell what all of them do, and they ascend
pub record TellsFrom (inner outer : List ℕ) (met place : ℕ) : Type 0 where
  pub inside : met ≤ length inner
  pub same : list_all (lists outer) inner ≡ list_all (lists (drop place outer)) (drop met inner)
  pub inner_ascends : ascends_from 0 (drop met inner) ≡ true
  pub outer_ascends : ascends_from 0 (drop place outer) ≡ true

module _ (inner outer : List ℕ) (met place : ℕ) (tells : TellsFrom inner outer met place) where
  -- each was met
  pub all_met : met ≡ length inner → true ≡ list_all (lists outer) inner
  all_met is = sym (tells.same ∙ ap (λ ws. list_all (lists (drop place outer)) ws) (drop_all met inner (omega arith)))

  -- at the end of the other list each was met, or some one isn't in it
  pub met_at_end : length outer ≤ place → nat_eq met (length inner) ≡ list_all (lists outer) inner
  met_at_end past = ⊎_elim
      (λ less.
      let left : 0 < length (drop met inner) = grind (arith, length-drop met inner) in
      let not_all : nat_eq met (length inner) ≡ false = grind (arith, nat_tests) in
      not_all ∙ sym (none_listed (drop met inner) left) ∙ sym (tells.same ∙ ap (λ os. list_all (lists os) (drop met inner)) (drop_all place outer past)))
      (λ more.
      let all : met ≡ length inner = omega (arith, tells.inside) in
      let same : nat_eq met (length inner) ≡ true = grind (arith, nat_tests) in
      same ∙ all_met all)
      (cases_lt met (length inner))

  module _ (x o : ℕ) (met_inside : met < length inner) (x_is : x ≡ get_or inner met x) (place_inside : place < length outer) (o_is : o ≡ get_or outer place o) where
    abbrev xs : List ℕ
    xs = drop (met + 1) inner

    abbrev os : List ℕ
    os = drop (place + 1) outer

    x_next : drop met inner ≡ x ∷ xs
    x_next = drop_at inner met x met_inside x_is

    o_next : drop place outer ≡ o ∷ os
    o_next = drop_at outer place o place_inside o_is

    x_along : ascends_from 0 (x ∷ xs) ≡ true
    x_along = subst (λ ws. ascends_from 0 ws ≡ true) x_next tells.inner_ascends

    o_along : ascends_from 0 (o ∷ os) ≡ true
    o_along = subst (λ ws. ascends_from 0 ws ≡ true) o_next tells.outer_ascends

    told : list_all (lists outer) inner ≡ list_all (lists (o ∷ os)) (x ∷ xs)
    told = tells.same ∙ ap (λ ws. list_all (lists ws) (drop met inner)) o_next ∙ ap (λ ws. list_all (lists (o ∷ os)) ws) x_next

    os_ascend : ascends_from 0 os ≡ true
    os_ascend = ascends_lower (o + 1) 0 os (omega arith) (ascends_tail 0 o os o_along)

    -- the next word was passed by the other list
    pub missing : x < o → false ≡ list_all (lists outer) inner
    missing below = sym (told ∙ rw (lists_below o (o ∷ os) x (ascends_again o os o_along) below) refl)

    -- the other list has it
    pub met_one : x ≡ o → TellsFrom inner outer (met + 1) (place + 1)
    met_one is =
        let there : lists (o ∷ os) x ≡ true = subst (λ v. lists (o ∷ os) v ≡ true) (sym is) (lists_head o os) in
        let rest = all_skipped o (x + 1) os xs (omega arith) (ascends_tail 0 x xs x_along) in
        record {
          inside = omega arith;
          same = told ∙ rw (there, rest) refl;
          inner_ascends = ascends_lower (x + 1) 0 xs (omega arith) (ascends_tail 0 x xs x_along);
          outer_ascends = os_ascend;
        }

    -- the other list is still below it
    pub passed : o < x → TellsFrom inner outer met (place + 1)
    passed below = record {
      inside = tells.inside;
      same = told ∙ all_skipped o x os (x ∷ xs) below (ascends_again x xs x_along) ∙ ap (λ ws. list_all (lists os) ws) (sym x_next);
      inner_ascends = tells.inner_ascends;
      outer_ascends = os_ascend;
    }
