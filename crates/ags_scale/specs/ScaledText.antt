-- The line that what comes of scales is printed as. A location is four octal digits.
use Rattle.std.specs.Prelude.{List, ℕ, [], ◌++◌, codes}
use Rattle.ags_verdict.specs.CaseText.{case_text}
use Rattle.ags_tags.specs.TagText.{tag_text, row_tag_text}
use Rattle.ags_text.specs.Numeral.{octal4_text}
use Rattle.ags_scale.specs.declared.answers.Scaled.{Scaled}
use Rattle.ags_scale.specs.declared.answers.Scaled.TheVariants.{Agree, Unsafe, StartMixed, Mixed, NotHeld}

-- That the scales agree; that no row holds the start with raw tags; or the first case that fails, with the two tags that meet, or with
-- the location of the post. Nothing where the certificate isn't accepted, which its verdict tells. Without a line feed.
abbrev pub scaled_text : Scaled → List ℕ
scaled_text (Agree rows cases) = codes "SCALES AGREE"
scaled_text (Unsafe told) = []
scaled_text StartMixed = codes "STARTMIXED"
scaled_text (Mixed row word x v left right) =
    codes "MIXED " ++ case_text row word x v ++ codes " LEFT " ++ row_tag_text left ++ codes " RIGHT " ++ tag_text right
scaled_text (NotHeld row word x v next) = codes "NOTHELD " ++ case_text row word x v ++ codes " NEXT " ++ octal4_text next
