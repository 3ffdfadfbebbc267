-- The text of a certificate is cut into the lines of its statements, and each is read as its statement.
use Rattle.std.proofs.Common.{◌≡◌, ℕ, ◌+◌, Bool, true, false, List, [], ◌∷◌, ◌++◌, length, map, refl, sym, ap, ◌∙◌, if◌then◌else◌, inl, inr, append_assoc, codes, arith}
use Rattle.std.specs.List.{flat_map, list_all}
use Rattle.std.proofs.lemmas.List.Folds.{flat_map-map}
use Rattle.ags_text.specs.Line.{LineAt, IsCutFrom, lines_of}
use Rattle.ags_text.specs.Reading.{AreReadingsBy}
use Rattle.ags_text.proofs.CutLemmas.{cut_is_lines}
use Rattle.ags_certtype.specs.Cert.{Stated, IsCert}
use Rattle.ags_frame.specs.Reading.{Opening, Stated as StatedBy, Ended}
use Rattle.ags_certtext.specs.Reading.{Reading, IsFirstReading, IsReading, AreReadings}
use Rattle.ags_certtext.specs.declared.statements.Statement.{Statement}
use Rattle.ags_certsend.specs.Spelled.{statement_text, statement_line}
use Rattle.ags_certsend.specs.CertText.{first_line, has_links, statements_of, text_version, version_with, cert_text}
use Rattle.ags_certsend.proofs.ShownLemmas.{is_shown, no_feed, no_return}
use Rattle.ags_certsend.proofs.LineLemmas.{statement_is_line, first_opening, second_opening}
use Rattle.ags_certsend.proofs.GoodLemmas.{AllGood, good_head, good_tail, statements_good}

-- lines with their line feeds, and where each stands
joined : List (List ℕ) → List ℕ
joined texts = flat_map (λ (text : List ℕ). text ++ codes "\n") texts

line_ats : ℕ → List (List ℕ) → List LineAt
line_ats start [] = []
line_ats start (text ∷ texts) = record { start = start; bytes = text } ∷ line_ats (start + length text + 0 + 1) texts

AllShown : List (List ℕ) → Type 0
AllShown [] = Unit {0}
AllShown (text ∷ texts) = (list_all is_shown text ≡ true) × AllShown texts

joined_cut : (start : ℕ) (texts : List (List ℕ)) → AllShown texts → IsCutFrom start (joined texts) (line_ats start texts)
unfolding joined line_ats AllShown
joined_cut start [] shown = inl refl
joined_cut start (text ∷ texts) shown = (
  refl,
  inl (
    [],
    joined texts,
    record {
      whole = append_assoc text (codes "\n") (joined texts);
      unbroken = no_feed text shown.0;
      ending = inr (refl, no_return text shown.0);
    },
    joined_cut (start + length text + 0 + 1) texts shown.1,
  ),
)

-- ---- the lines of statements

statements_shown : (statements : List Statement) → AllGood statements → AllShown (map statement_text statements)
unfolding AllShown
statements_shown [] good = tt
statements_shown (statement ∷ statements) good =
    ((statement_is_line statement (good_head statement statements good)).shown.plain, statements_shown statements (good_tail statement statements good))

statements_read : (start : ℕ) (statements : List Statement) → AllGood statements → AreReadingsBy IsReading (line_ats start (map statement_text statements)) (map StatedBy statements)
unfolding line_ats
statements_read start [] good = tt
statements_read start (statement ∷ statements) good =
    let is = statement_is_line statement (good_head statement statements good) in
    let short = is.shown.short in
    (record { most = omega (arith, short); states = is.states }, statements_read (start + length (statement_text statement) + 0 + 1) statements (good_tail statement statements good))

-- the first line, without its line feed
opening : Bool → List ℕ
opening links = if links then codes "AGSCERT 2" else codes "AGSCERT 1"

first_cut : (links : Bool) → first_line links ≡ opening links ++ codes "\n"
unfolding opening
first_cut true = refl
first_cut false = refl

opening_shown : (links : Bool) → list_all is_shown (opening links) ≡ true
unfolding opening
opening_shown true = refl
opening_shown false = refl

-- it opens a certificate of the version
opens_first : (links : Bool) → IsFirstReading (opening links) (Opening (version_with links))
unfolding opening
opens_first true = (
  record { first = omega arith; last = omega arith },
  record {
    most = omega arith;
    digits = codes "2";
    spelled = record { is_decimal = record { digits = (omega arith, (omega arith, tt)); fits = omega arith; value = refl }; plain = λ is. omega (arith, is) };
    fields = second_opening;
  },
)
opens_first false = (
  record { first = omega arith; last = omega arith },
  record {
    most = omega arith;
    digits = codes "1";
    spelled = record { is_decimal = record { digits = (omega arith, (omega arith, tt)); fits = omega arith; value = refl }; plain = λ is. omega (arith, is) };
    fields = first_opening;
  },
)

texts_of : Stated → List (List ℕ)
texts_of cert = opening (has_links cert.rows) ∷ map statement_text (statements_of cert)

text_joined : (cert : Stated) → cert_text cert ≡ joined (texts_of cert)
unfolding cert_text statement_line joined texts_of
text_joined cert =
    ap (λ (text : List ℕ). first_line (has_links cert.rows) ++ text) (sym (flat_map-map (λ (text : List ℕ). text ++ codes "\n") statement_text (statements_of cert)))
    ∙ ap (λ (first : List ℕ). first ++ flat_map (λ (text : List ℕ). text ++ codes "\n") (map statement_text (statements_of cert))) (first_cut (has_links cert.rows))

-- what the lines are read as
unfoldable pub readings_of : Stated → List Reading
readings_of cert = Opening (text_version cert) ∷ (map StatedBy (statements_of cert) ++ Ended ∷ [])

pub text_read : (cert : Stated) → IsCert cert → AreReadings (lines_of (cert_text cert)) (readings_of cert)
unfolding readings_of texts_of AllShown line_ats
text_read cert is =
    let good = statements_good cert is in
    let lines : line_ats 0 (texts_of cert) ≡ lines_of (joined (texts_of cert)) = cut_is_lines 0 (joined (texts_of cert)) (line_ats 0 (texts_of cert)) (joined_cut 0 (texts_of cert) (opening_shown (has_links cert.rows), statements_shown (statements_of cert) good)) in
    rw (text_joined cert, ← lines) (record {
      of_lines = Opening (text_version cert) ∷ map StatedBy (statements_of cert);
      are = (opens_first (has_links cert.rows), statements_read (0 + length (opening (has_links cert.rows)) + 0 + 1) (statements_of cert) good);
      whole = refl;
    })
