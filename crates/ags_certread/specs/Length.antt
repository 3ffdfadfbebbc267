-- How long a certificate's text may be.
use Rattle.std.specs.Prelude.{ℕ}

-- a certificate has at most so many bytes
abbrev pub certificate_limit : ℕ
certificate_limit = 67108864
