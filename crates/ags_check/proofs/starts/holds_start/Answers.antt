use Rattle.std.proofs.Common.{List, sym, subst, ◌∙◌}
use Rattle.std.specs.Prelude.{All, Option, IfSome}
use Rattle.std.proofs.lemmas.Bool.{false≢true}
use Rattle.ags_domain.specs.declared.values.Value.{Value}
use Rattle.ags_image.specs.Image.{entry_at}
use Rattle.ags_row.specs.declared.ats.At.{At}
use Rattle.ags_row.specs.declared.links.Link.{Link}
use Rattle.ags_row.proofs.CellLemmas.{cells_below}
use Rattle.ags_certtype.specs.Cert.{certificate_of}
use Rattle.ags_check.specs.Checking.{HoldsFirstWords, IsOffsetOfFirstWords}
use Rattle.ags_check.proofs.StartLemmas.{linked_erasable}
use Rattle.ags_check.proofs.starts.holds_start.Goals as goal

pub returns : goal.returns
returns c = (
  λ yes. record {
    location = c.registers_hold_start.ensures.location c.if-not-registers_hold_start.false;
    a = c.registers_hold_start.ensures.a c.if-not-registers_hold_start.false;
    q = c.registers_hold_start.ensures.q c.if-not-registers_hold_start.false;
    index = c.registers_hold_start.ensures.index c.if-not-registers_hold_start.false;
    indicator = c.registers_hold_start.ensures.indicator c.if-not-registers_hold_start.false;
    cells = subst (λ (cells : List (At Value)). All (λ at. HoldsFirstWords at.value (entry_at c.args.image.now at.address)
        ((certificate_of c.args.cert.now).init at.address)) cells) c.at.ensures (c.cells_hold_start.ensures.0 yes);
    link = subst (λ (link : Option Link). IfSome link (λ link. IsOffsetOfFirstWords link.offset (entry_at c.args.image.now link.address)
        ((certificate_of c.args.cert.now).init link.address))) c.link.ensures (c.link_holds_start.ensures.0 c.if-not-link_holds_start.false);
  },
  λ is. c.cells_hold_start.ensures.1 (subst (λ (cells : List (At Value)). All (λ at. HoldsFirstWords at.value (entry_at c.args.image.now at.address)
      ((certificate_of c.args.cert.now).init at.address)) cells) (sym c.at.ensures) is.cells),
)

pub returns-then-not-registers_hold_start : goal.returns-then-not-registers_hold_start
returns-then-not-registers_hold_start c = (
  λ no. absurd (false≢true no),
  λ is. sym c.if-not-registers_hold_start.true ∙ c.registers_hold_start.ensures.all is.location is.a is.q is.index is.indicator,
)

pub returns-then-not-link_holds_start : goal.returns-then-not-link_holds_start
returns-then-not-link_holds_start c = (
  λ no. absurd (false≢true no),
  λ is. sym c.if-not-link_holds_start.true ∙ c.link_holds_start.ensures.1
      (subst (λ (link : Option Link). IfSome link (λ link. IsOffsetOfFirstWords link.offset (entry_at c.args.image.now link.address)
      ((certificate_of c.args.cert.now).init link.address))) (sym c.link.ensures) is.link),
)

pub link_holds_start-requires : goal.link_holds_start-requires
link_holds_start-requires c = rw c.link.ensures (linked_erasable c.args.row.now.link c.args.row.now.linked)

pub cells_hold_start-requires : goal.cells_hold_start-requires
cells_hold_start-requires c = rw c.at.ensures (cells_below 0 c.args.row.now.at c.args.row.now.ascending)
