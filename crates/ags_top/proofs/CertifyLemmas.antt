-- What is said of a certificate that was judged after the listing of its source.
use Rattle.std.proofs.Common.{◌≡◌, ℕ, List, ◌++◌, Option, refl, ap, ◌∙◌}
use Rattle.ags_asm.specs.Source.{card_words}
use Rattle.ags_cert.specs.Cert.{certificate_of}
use Rattle.ags_domain.specs.Value.{value_meaning}
use Rattle.ags_domain.specs.declared.values.Value.{Value}
use Rattle.ags_files.specs.declared.sources.SourceFile.{SourceFile}
use Rattle.ags_listing.specs.Listing.{listing}
use Rattle.ags_outside.specs.Sink.{appended, appended_twice, WroteFront, front_in_first, front_in_second}
use Rattle.ags_plan.specs.Plan.{WorkAt}
use Rattle.ags_plan.specs.Saying.{SaidWhole, SaidInPart}
use Rattle.ags_verdict.specs.Verdict.{IsVerdict}
use Rattle.ags_verdict.specs.declared.verdicts.Verdict.{Verdict}
use Rattle.ags_program.specs.declared.works.ReadPair.{ReadPair}
use Rattle.ags_program.specs.Program.{program}
use Rattle.ags_program.specs.Text.{verdict_line}
use Rattle.ags_program.specs.Views.{IsReadSource, pair_of}
use Rattle.ags_program.specs.Work.{JudgePair, ListingBefore, verdict_status}
use Rattle.ags_played.proofs.JudgeLemmas.{judged_in_part, judged_whole}

-- the listing of a source that was read
abbrev pub listing_of : SourceFile → List ℕ
listing_of source = listing source.bytes.items (card_words source.made)

module _ (pair : ReadPair) (old mid new : Option (List ℕ)) (verdict : Verdict Value) (read : IsReadSource pair.source)
    (is : IsVerdict value_meaning pair.machine pair.source.made.image (certificate_of pair.cert) verdict) where
  -- what is written
  abbrev pub judged_text : List ℕ
  judged_text = listing_of pair.source ++ verdict_line verdict

  -- both were sent
  pub judgement_said : mid ≡ appended old (listing_of pair.source) → new ≡ appended mid (verdict_line verdict)
      → SaidWhole program (WorkAt (JudgePair (pair_of pair) ListingBefore)) old new (verdict_status verdict)
  judgement_said listed judged = judged_whole pair ListingBefore verdict read is old new judged_text (verdict_status verdict) (refl, refl)
      (judged ∙ ap (λ (o : Option (List ℕ)). appended o (verdict_line verdict)) listed ∙ appended_twice old (listing_of pair.source) (verdict_line verdict))

  in_part : WroteFront old new judged_text → SaidInPart program (WorkAt (JudgePair (pair_of pair) ListingBefore)) old new
  in_part prefix = judged_in_part pair ListingBefore verdict read is old new judged_text (verdict_status verdict) (refl, refl) prefix

  -- a front of the listing was sent
  pub listing_said_in_part : WroteFront old new (listing_of pair.source) → SaidInPart program (WorkAt (JudgePair (pair_of pair) ListingBefore)) old new
  listing_said_in_part front = in_part (front_in_first (listing_of pair.source) (verdict_line verdict) front)

  -- the listing was sent, and a front of the verdict
  pub verdict_said_in_part : mid ≡ appended old (listing_of pair.source) → WroteFront mid new (verdict_line verdict)
      → SaidInPart program (WorkAt (JudgePair (pair_of pair) ListingBefore)) old new
  verdict_said_in_part listed front = in_part (front_in_second (listing_of pair.source) (verdict_line verdict) listed front)
