-- The name of a program, and the forms of its command line.
use Rattle.std.specs.Prelude.{ℕ, List, codes}
use Rattle.ags_advice.specs.declared.programs.Program.{Program}
use Rattle.ags_advice.specs.declared.programs.Program.TheVariants.{Ags, AgsBench}

-- its name
abbrev pub name_of : Program → List ℕ
name_of Ags = codes "ags"
name_of AgsBench = codes "agsbench"

-- the forms, and what their letters stand for
abbrev pub forms_of : Program → List ℕ
forms_of Ags = codes "the forms of arguments are: assemble S [M], compare S L [M], tape S [M], xref S [M], certify S C [M], run S P [M], guard S P C [M], budget S C T [M], scales S C K [M], edits S C E [M], workload N; S is a source, L a listing, C a certificate, P a script, T a text of times, K one of scales, E one of edits, M a machine file, and N a size from 1 to 400"
forms_of AgsBench = codes "the words are S C P [M]: S is a source, C a certificate, P a bench script, and M a machine file"
