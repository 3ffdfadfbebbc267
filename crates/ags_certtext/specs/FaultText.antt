-- The line that a certificate's fault is printed as.
use Rattle.std.specs.Prelude.{ℕ, List, [], ◌++◌, codes}
use Rattle.std.specs.Fmt.{decimal}
use Rattle.ags_certtext.specs.declared.cert_error.CertKind.{CertKind}
use Rattle.ags_certtext.specs.declared.cert_error.CertKind.TheVariants.{BadLine, Version, Twice, EmptyRange, OutsideGlobal, NoZero, TooManyRows, TooManyAt, NoRows}
use Rattle.ags_certtext.specs.declared.cert_error.CertError.{CertError}
use Rattle.ags_certtext.specs.declared.cert_error.CertError.TheVariants.{At, NoMemory}

-- a fault's number and its name
abbrev pub kind_text : CertKind → List ℕ
kind_text BadLine = codes "1 BadLine"
kind_text Version = codes "2 Version"
kind_text Twice = codes "3 Twice"
kind_text EmptyRange = codes "4 EmptyRange"
kind_text OutsideGlobal = codes "5 OutsideGlobal"
kind_text NoZero = codes "6 NoZero"
kind_text TooManyRows = codes "7 TooManyRows"
kind_text TooManyAt = codes "8 TooManyAt"
kind_text NoRows = codes "9 NoRows"

-- of a fault, its line's number in decimal, without leading zeros, and what is wrong with it; of want of memory, nothing
abbrev pub error_text : CertError → List ℕ
error_text (At line kind) = codes "CERTIFICATE LINE " ++ decimal line ++ codes " ERROR " ++ kind_text kind
error_text NoMemory = []
