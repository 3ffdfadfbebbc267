-- Certificates in hand, whose values are ranges and word sets: how large they are, and the parts that one is made of.
use Rattle.std.specs.Prelude.{◌≡◌, ℕ, ◌≤◌, ◌==◌, List, length, Option, Some, None, get_or, sum_by, if◌then◌else◌}
use Rattle.ags_domain.specs.Value.{value_meaning}
use Rattle.ags_domain.specs.declared.values.Value.{Value}
use Rattle.ags_row.specs.Limit.{Limiting, AreWholeLimits}
use Rattle.ags_row.specs.declared.rows.Row.{Row}
use Rattle.ags_safe.specs.Certificate.{Certificate, IsCertificate}
use Rattle.ags_certtype.specs.declared.certs.CertParts.{CertParts}
use Rattle.ags_certtype.specs.Limit.{most_rows, most_rows_at_one}

-- how many of the rows stand at a location
abbrev pub rows_at : {D : Type 0} → List (Row D) → (location : ℕ) → ℕ
rows_at {D} rows location = sum_by (λ (row : Row D). if row.location == location then 1 else 0) rows

-- What a certificate in hand states: as a certificate, with what may stand at the start as a list, an entry for each erasable cell.
pub record Stated : Type 0 where
  pub start : ℕ
  pub limits : Limiting Value
  pub init : List (Option Value)
  pub rows : List (Row Value)

-- the certificate that is stated
abbrev pub certificate_of : Stated → Certificate Value
certificate_of stated = record {
  start = stated.start;
  limits = stated.limits;
  init = λ address. get_or stated.init address None;
  rows = stated.rows;
}

-- it is a certificate with whole limits, of at most 20,000 rows, of which at most 512 stand at one location
pub record IsCert (stated : Stated) : Type 0 where
  pub limits : AreWholeLimits value_meaning stated.limits
  pub entries : length stated.init ≡ 2048
  pub certificate : IsCertificate value_meaning (certificate_of stated)
  pub few_rows : length stated.rows ≤ most_rows
  pub few_at_one : (location : ℕ) → rows_at stated.rows location ≤ most_rows_at_one

-- what some parts state
abbrev pub stated_by : CertParts → Stated
stated_by parts = record { start = parts.start; limits = parts.limits; init = parts.init.items; rows = parts.rows.items }

-- the certificate of some parts; there is none where they make none
abbrev pub IsCertOfParts : CertParts → Option Stated → Type 0
IsCertOfParts parts (Some stated) = IsCert stated × (stated ≡ stated_by parts)
IsCertOfParts parts None = ¬ IsCert (stated_by parts)
