-- A text whose lines have one reading each has one meaning.
use Rattle.std.proofs.Common.{◌≡◌, ℕ, refl, sym, ap, ◌∙◌, List, [], ◌∷◌, ◌++◌, Option, Some, None}
use Rattle.ags_text.specs.Fault.{first_fault}
use Rattle.ags_text.specs.Line.{LineAt, lines_of}
use Rattle.ags_ports.specs.Port.{Registers}
use Rattle.ags_certtype.specs.Cert.{Stated as Cert_stated}
use Rattle.ags_certtext.specs.declared.cert_error.CertKind.{CertKind}
use Rattle.ags_certtext.specs.Fault.{reading_fault}
use Rattle.ags_frame.specs.Reading.{Ended}
use Rattle.ags_certtext.specs.Reading.{Reading, IsReading, AreLineReadings}
use Rattle.ags_certtext.specs.Text.{IsCertOf, IsFaultyCert}
use Rattle.ags_certread.specs.LineTaken.{behind_first}
use Rattle.ags_certread.specs.OneMeaning.{HaveNoTwoReadings, FirstHasNoTwoReadings, HasNoTwoReadings}

pub no_two_none : HaveNoTwoReadings []
no_two_none [] [] are too = refl
no_two_none [] (other ∷ others) are too = absurd too
no_two_none (one ∷ ones) other are too = absurd are

pub no_two_more : (line : LineAt) (lines : List LineAt) → ((one other : Reading) → IsReading line.bytes one → IsReading line.bytes other → one ≡ other)
    → HaveNoTwoReadings lines → HaveNoTwoReadings (line ∷ lines)
no_two_more line lines here rest [] other are too = absurd are
no_two_more line lines here rest (one ∷ ones) [] are too = absurd too
no_two_more line lines here rest (one ∷ ones) (other ∷ others) are too =
    ap (λ (r : Reading). r ∷ ones) (here one other are.0 too.0) ∙ ap (λ (rs : List Reading). other ∷ rs) (rest ones others are.1 too.1)

of_lines : (lines : List LineAt) → FirstHasNoTwoReadings lines → HaveNoTwoReadings (behind_first lines) → (one other : List Reading)
    → AreLineReadings lines one → AreLineReadings lines other → one ≡ other
of_lines [] first rest [] [] are too = refl
of_lines [] first rest [] (other ∷ others) are too = absurd too
of_lines [] first rest (one ∷ ones) other are too = absurd are
of_lines (line ∷ lines) first rest [] other are too = absurd are
of_lines (line ∷ lines) first rest (one ∷ ones) [] are too = absurd too
of_lines (line ∷ lines) first rest (one ∷ ones) (other ∷ others) are too =
    ap (λ (r : Reading). r ∷ ones) (first one other are.0 too.0) ∙ ap (λ (rs : List Reading). other ∷ rs) (rest ones others are.1 too.1)

pub no_two_readings : (lines : List LineAt) → FirstHasNoTwoReadings lines → HaveNoTwoReadings (behind_first lines) → HasNoTwoReadings lines
no_two_readings lines first rest one other are too =
    are.whole ∙ ap (λ (rs : List Reading). rs ++ Ended ∷ []) (of_lines lines first rest are.of_lines too.of_lines are.are too.are) ∙ sym too.whole

-- ---- the meaning

same_fault : (line other_line : ℕ) (kind other_kind : CertKind) → ◌≡◌ {A = Option (ℕ × CertKind)} (Some (line, kind)) (Some (other_line, other_kind))
    → (line ≡ other_line) × (kind ≡ other_kind)
same_fault line other_line kind other_kind same =
    let pairs : ◌≡◌ {A = ℕ × CertKind} (line, kind) (other_line, other_kind) = cc in
    (ap (λ (p : ℕ × CertKind). p.0) pairs, ap (λ (p : ℕ × CertKind). p.1) pairs)

pub one_fault : (text : List ℕ) → HasNoTwoReadings (lines_of text) → (ports : Registers) (line other_line : ℕ) (kind other_kind : CertKind)
    → IsFaultyCert ports text line kind → IsFaultyCert ports text other_line other_kind → (line ≡ other_line) × (kind ≡ other_kind)
one_fault text single ports line other_line kind other_kind one other =
    same_fault line other_line kind other_kind
    (sym one.first ∙ ap (λ (rs : List Reading). first_fault (reading_fault ports) [] rs) (single one.readings other.readings one.are_readings other.are_readings) ∙ other.first)

pub not_both : (text : List ℕ) → HasNoTwoReadings (lines_of text) → (ports : Registers) (cert : Cert_stated) (line : ℕ) (kind : CertKind)
    → IsCertOf ports text cert → IsFaultyCert ports text line kind → ⊥
not_both text single ports cert line kind is faulty =
    let clash : ◌≡◌ {A = Option (ℕ × CertKind)} None (Some (line, kind)) =
    sym is.faultless ∙ ap (λ (rs : List Reading). first_fault (reading_fault ports) [] rs) (single is.readings faulty.readings is.are_readings faulty.are_readings) ∙ faulty.first in
    absurd cc
