-- What a text means, whatever it is. Behind the laws of `laws.rt` stand
--     each_text_means   it is a certificate for the registers, or it has a first fault
--     one_cert_of       it is one certificate
--     one_fault_of      it has one first fault
--     never_both        and never both
-- and `SuitLemmas.suits`: a certificate that was read suits the machine.
use Rattle.std.proofs.Common.{◌≡◌, ℕ, ◌⊎◌, List, [], ◌∷◌}
use Rattle.ags_text.specs.Line.{LineAt, lines_of}
use Rattle.ags_ports.specs.Port.{Registers}
use Rattle.ags_certtype.specs.Cert.{Stated as Cert_stated}
use Rattle.ags_certtext.specs.declared.cert_error.CertKind.{CertKind}
use Rattle.ags_certtext.specs.Text.{IsCertOf, IsFaultyCert}
use Rattle.ags_certtext.proofs.ReadingLaws.{one_first_reading, one_reading}
use Rattle.ags_certread.specs.LineTaken.{behind_first}
use Rattle.ags_certread.specs.OneMeaning.{HaveNoTwoReadings, FirstHasNoTwoReadings, HasNoTwoReadings}
use Rattle.ags_certread.proofs.ExistenceLemmas.{text_means}
use Rattle.ags_certread.proofs.MeaningLemmas.{no_two_none, no_two_more, no_two_readings, one_fault, not_both}
use Rattle.ags_certread.proofs.UniqueLemmas.{one_cert}

-- ---- it means something

pub each_text_means : (ports : Registers) (text : List ℕ) → ((cert : Cert_stated) × IsCertOf ports text cert) ⊎ ((line : ℕ) × (kind : CertKind) × IsFaultyCert ports text line kind)
each_text_means = text_means

-- ---- and one thing

no_two : (lines : List LineAt) → HaveNoTwoReadings lines
no_two [] = no_two_none
no_two (line ∷ lines) = no_two_more line lines (one_reading line.bytes) (no_two lines)

no_two_first : (lines : List LineAt) → FirstHasNoTwoReadings lines
no_two_first [] = tt
no_two_first (line ∷ lines) = one_first_reading line.bytes

single : (text : List ℕ) → HasNoTwoReadings (lines_of text)
single text = no_two_readings (lines_of text) (no_two_first (lines_of text)) (no_two (behind_first (lines_of text)))

pub one_cert_of : (ports : Registers) (text : List ℕ) (one other : Cert_stated) → IsCertOf ports text one → IsCertOf ports text other → one ≡ other
one_cert_of ports text one other is too = one_cert text (single text) ports one other is too

pub one_fault_of : (ports : Registers) (text : List ℕ) (line other_line : ℕ) (kind other_kind : CertKind)
    → IsFaultyCert ports text line kind → IsFaultyCert ports text other_line other_kind → (line ≡ other_line) × (kind ≡ other_kind)
one_fault_of ports text line other_line kind other_kind is too = one_fault text (single text) ports line other_line kind other_kind is too

pub never_both : (ports : Registers) (text : List ℕ) (cert : Cert_stated) (line : ℕ) (kind : CertKind) → IsCertOf ports text cert → IsFaultyCert ports text line kind → ⊥
never_both ports text cert line kind is faulty = not_both text (single text) ports cert line kind is faulty
