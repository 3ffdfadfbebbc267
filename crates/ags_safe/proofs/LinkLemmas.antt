-- When a link holds after an order. The crates above cite:
--     linked_below    the cell of a row's link is erasable
use Rattle.std.proofs.Common.{◌≡◌, ℕ, ◌<◌, Bool, true, false, refl, sym, ap, subst, ◌∙◌, arith, ℤ, pos, ◌+ℤ◌, ◌-ℤ◌, ◌≤ℤ◌}
use Rattle.std.specs.Prelude.{Option, Some, None, IfSome, ◌==◌, ◌&&◌, nat_lt, if◌then◌else◌}
use Rattle.std.proofs.lemmas.Bool.{eq-eqb, eqb-true, ltb-true}
use Rattle.std.proofs.lemmas.Int.{ints}
use Rattle.ags_word.specs.Word.{val}
use Rattle.ags_domain.specs.Domain.{Ends, IsBetween, has_value_between}
use Rattle.ags_ports.specs.State.{State, cell}
use Rattle.ags_row.specs.Link.{is_link}
use Rattle.ags_row.specs.declared.links.Link.{Link}
use Rattle.ags_safe.specs.Case.{is_erasable}
use Rattle.ags_safe.specs.Linked.{LinkHolds, link_to, link_grown, link_with, link_beside}

pub none_some : (l : Link) → None ≡ Some l → ⊥
none_some l h = cc

plus_zero : (n : ℤ) → (n +ℤ pos 0) ≡ n
plus_zero n = omega (arith, ints)

pub link_to_holds : (t : State) (e : ℕ) → t.a ≡ cell t e → IfSome (link_to e) (LinkHolds t)
link_to_holds t e same = by (is_erasable e)
  where
    by : (b : Bool) → IfSome (if b then Some (record { address = e; offset = pos 0 }) else None) (LinkHolds t)
    by true = plus_zero (val t.a) ∙ ap val same
    by false = tt

pub beside_holds : (link : Option Link) (e : ℕ) (s t : State) → t.a ≡ s.a → ((address : ℕ) → (address ≡ e → ⊥) → cell t address ≡ cell s address)
    → IfSome link (LinkHolds s) → IfSome (link_beside link e) (LinkHolds t)
beside_holds None e s t a_same others holds = tt
beside_holds (Some link) e s t a_same others holds = by (link.address == e) refl
  where
    by : (b : Bool) → (link.address == e) ≡ b → IfSome (if b then None else Some link) (LinkHolds t)
    by true is = tt
    by false is =
        let apart : link.address ≡ e → ⊥ = λ at. (let both : true ≡ false = sym (eq-eqb link.address e at) ∙ is in cc) in
        ap (λ (w : ℕ). val w +ℤ link.offset) a_same ∙ holds ∙ ap val (sym (others link.address apart))

some_of : (b : Bool) (k l : Link) → (if b then Some k else None) ≡ Some l → k ≡ l
some_of true k l h = cc
some_of false k l h = absurd cc

grown_holds : (link : Option Link) (s : State) → IfSome link (LinkHolds s) → (n : ℤ) (l : Link) → link_grown link n ≡ Some l
    → (new : ℕ) → val new ≡ (val s.a +ℤ n) → (val new +ℤ l.offset) ≡ val (cell s l.address)
grown_holds None s holds n l are new is = absurd cc
grown_holds (Some k) s holds n l are new is =
    let moved : Link = record { address = k.address; offset = k.offset -ℤ n } in
    let at_k : (val new +ℤ (k.offset -ℤ n)) ≡ val (cell s k.address) = omega (arith, ints, holds, is) in
    subst (λ (x : Link). (val new +ℤ x.offset) ≡ val (cell s x.address)) (some_of (is_link (Some moved)) moved l are) at_k

pub with_holds : (link : Option Link) (s : State) → IfSome link (LinkHolds s) → (grows : ℤ → ℤ) (ends : Ends) (m : ℕ) → IsBetween ends m
    → (l : Link) → link_with link grows ends ≡ Some l → (new : ℕ) → val new ≡ (val s.a +ℤ grows (val m))
    → (val new +ℤ l.offset) ≡ val (cell s l.address)
with_holds link s holds grows ends m between l are new is = by (ends.least == ends.greatest) refl are
  where
    by : (b : Bool) → (ends.least == ends.greatest) ≡ b → (if b then link_grown link (grows (val ends.least)) else None) ≡ Some l
        → (val new +ℤ l.offset) ≡ val (cell s l.address)
    by true one are =
        let from = between.from in
        let to : val m ≤ℤ val ends.least = subst (λ (w : ℕ). val m ≤ℤ val w) (sym (eqb-true ends.least ends.greatest one)) between.to in
        let same : val m ≡ val ends.least = omega (arith, ints) in
        grown_holds link s holds (grows (val ends.least)) l are new (is ∙ ap (λ (n : ℤ). val s.a +ℤ grows n) same)
    by false two are = absurd cc

-- the cell of a row's link is erasable
pub linked_below : (link : Option Link) → is_link link ≡ true → (l : Link) → link ≡ Some l → l.address < 2048
linked_below None is l are = absurd cc
linked_below (Some k) is l are =
    let low : nat_lt k.address 2048 ≡ true = first (nat_lt k.address 2048) _ is in
    let same : k ≡ l = cc in
    subst (λ (x : Link). x.address < 2048) same (ltb-true k.address 2048 low)
  where
    first : (a b : Bool) → (a && b) ≡ true → a ≡ true
    first true b h = refl
    first false b h = cc

-- where A lies between two ends, the cell of a link that holds lies between them with the offset
pub lies_linked : (s : State) (link : Link) (ends : Ends) → LinkHolds s link → IsBetween ends s.a
    → has_value_between (val ends.least +ℤ link.offset) (val ends.greatest +ℤ link.offset) (cell s link.address) ≡ true
lies_linked s link ends holds between =
    let from : (val ends.least +ℤ link.offset) ≤ℤ val (cell s link.address) = omega (arith, ints, holds, between.from) in
    let to : val (cell s link.address) ≤ℤ (val ends.greatest +ℤ link.offset) = omega (arith, ints, holds, between.to) in
    grind (arith, ints, from, to)
