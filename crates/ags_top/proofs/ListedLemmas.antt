-- What a reader of a certified listing may take from it.
use Rattle.std.proofs.Common.{◌≡◌, ℕ, ◌<◌, ◌≤◌, ◌⊎◌, Bool, true, false, List, [], ◌∷◌, length, get_or, Option, Some, None, Ok, refl, sym, ap, subst, ◌∙◌, inl, inr, arith}
use Rattle.std.specs.Prelude.{nat_lt}
use Rattle.std.proofs.lemmas.Bool.Decides.{nat_tests}
use Rattle.std.proofs.lemmas.List.{get_or_default}
use Rattle.std.proofs.lemmas.List.Folds.{Any-from_list_any}
use Rattle.ags_cert.specs.Cert.{certificate_of}
use Rattle.ags_domain.specs.Value.{value_meaning}
use Rattle.ags_domain.specs.WordSet.{lists}
use Rattle.ags_domain.specs.ListLaws.{lists_head}
use Rattle.ags_domain.specs.declared.values.Value.{Value}
use Rattle.ags_image.specs.Image.{entry_at, word_at}
use Rattle.ags_image.proofs.ImageLaws.{word_at-some, word_at-none}
use Rattle.ags_isa.specs.declared.decoding.Decoded.{Decoded}
use Rattle.ags_isa.specs.Naming.{IsDecoding}
use Rattle.ags_listing.specs.Listing.{listing}
use Rattle.ags_listing.specs.Reads.{Reads}
use Rattle.ags_listing.proofs.MeaningLemmas.{written_reads}
use Rattle.ags_ports.specs.declared.events.Event.{Event}
use Rattle.ags_ports.specs.declared.machines.Machine.{Machine}
use Rattle.ags_ports.specs.Run.{AreEvents, AtEach, AtEachStep, Moment, Run}
use Rattle.ags_ports.specs.State.{State, cell, word_here}
use Rattle.ags_ports.specs.Step.{Steps}
use Rattle.ags_ports.proofs.ChangeLemmas.{here_told}
use Rattle.ags_safe.specs.Case.{is_erasable, case_of}
use Rattle.ags_safe.specs.Posts.{IsPostsOfWord}
use Rattle.ags_safe.specs.declared.answers.PostPair.{PostPair}
use Rattle.ags_row.specs.Flag.{has_flag, indicator_number, some_flag}
use Rattle.ags_row.specs.declared.rows.Row.{Row}
use Rattle.ags_safe.specs.Accepted.{IsRowAccepted}
use Rattle.ags_safe.specs.Safe.{HasRowAt, IsSafeState, IsSafeStep}
use Rattle.ags_safe.specs.Start.{AreDeclared, IsStart}
use Rattle.ags_top.specs.Listed.{IsOrder, RunsWhatStands}
use Rattle.ags_top.specs.Outcome.{IsCertifiedOn}

-- ---- the listing reads as the image

pub listing_reads : (machine : Machine) (source certificate text : List ℕ)
    → (is : IsCertifiedOn machine source certificate text) → Reads (listing source is.defined) is.image
listing_reads machine source certificate text is = written_reads machine.codes source is.defined is.image is.valid.codes is.defines is.image_is

-- ---- what runs stands there

module _ (machine : Machine) (source certificate text : List ℕ) (is : IsCertifiedOn machine source certificate text) where
  -- the word of an image's location, by whether one stands there
  by_entry : (location word : ℕ) (entry : Option ℕ) → entry_at is.image location ≡ entry → word ≡ word_at is.image location
      → (entry_at is.image location ≡ Some word) ⊎ ((entry_at is.image location ≡ None) × (word ≡ 0))
  by_entry location word (Some held) stands same = inl (stands ∙ ap Some (sym (same ∙ word_at-some is.image location held stands)))
  by_entry location word None none same = inr (none, same ∙ word_at-none is.image location none)

  -- a step from a safe state
  stands_here : (s : State) (event : Event) (moment : Moment) → IsSafeState value_meaning machine is.image (certificate_of is.cert) s
      → Steps machine s event moment.report moment.after → RunsWhatStands is.image moment
  stands_here s event moment safe step ran fixed =
      let (location, word) = here_told machine s event moment.report moment.after step in
      let row = safe.row in
      let below : moment.report.location < 4096 = subst (λ (p : ℕ). p < 4096) (sym (location ∙ row.4.location)) row.1.below in
      let held = safe.fixed moment.report.location fixed below in
      by_entry moment.report.location moment.report.word (entry_at is.image moment.report.location) refl
      (word ∙ subst (λ (p : ℕ). word_here s ≡ word_at is.image p) refl (here s moment.report.location location held))
    where
      here : (s : State) (place : ℕ) → place ≡ s.location → cell s place ≡ word_at is.image place → word_here s ≡ word_at is.image place
      here s place same held = sym (ap (cell s) same) ∙ held

  along : (s : State) (events : List Event) (moments : List Moment) → IsSafeState value_meaning machine is.image (certificate_of is.cert) s
      → AtEachStep (IsSafeStep value_meaning machine is.image (certificate_of is.cert)) s events moments → Run machine s events moments → AtEach (RunsWhatStands is.image) moments
  along s [] [] safe steps run = tt
  along s [] (moment ∷ moments) safe steps run = absurd run
  along s (event ∷ events) [] safe steps run = absurd run
  along s (event ∷ events) (moment ∷ moments) safe (step, later) (one, run) = (stands_here s event moment safe one, along moment.after events moments step.after later run)

  pub run_stands : (s : State) (events : List Event) (moments : List Moment) → IsStart value_meaning machine is.image (certificate_of is.cert) s → AreEvents events
      → AreDeclared value_meaning machine (certificate_of is.cert) events → Run machine s events moments → AtEach (RunsWhatStands is.image) moments
  run_stands s events moments start are declared run = along s events moments (is.safe.start s start) (is.safe.steps s events moments start are declared run) run

  -- ---- a line with a row is an order

  -- some flag is set
  some_number : (flags : List Bool) → some_flag flags ≡ true → (number : ℕ) × (number < length flags) × (has_flag flags number ≡ true)
  some_number flags some =
      let any = Any-from_list_any (λ (flag : Bool). flag) flags some in
      (any.0, any.2, flag_there flags any.0 any.1 any.2 (any.3 ∙ any.4))
    where
      flag_there : (flags : List Bool) (number : ℕ) (flag : Bool) → number < length flags → get_or flags number flag ≡ true → has_flag flags number ≡ true
      flag_there flags number flag within set = sym (get_or_default flags number flag false within) ∙ set

  -- and so an indicator
  some_indicator : (flags : List Bool) → length flags ≡ 2 → some_flag flags ≡ true → (indicator : Bool) × (has_flag flags (indicator_number indicator) ≡ true)
  some_indicator flags two some = by_number (some_number flags some)
    where
      by_number : (number : ℕ) × (number < length flags) × (has_flag flags number ≡ true) → (indicator : Bool) × (has_flag flags (indicator_number indicator) ≡ true)
      by_number (number, within, set) = by_test (nat_lt number 1) refl
        where
          by_test : (first : Bool) → nat_lt number 1 ≡ first → (indicator : Bool) × (has_flag flags (indicator_number indicator) ≡ true)
          by_test true test = (false, subst (λ (n : ℕ). has_flag flags n ≡ true) (let low : number < 1 = grind (arith, nat_tests) in omega (arith, low)) set)
          by_test false test = (true, subst (λ (n : ℕ). has_flag flags n ≡ true) (let high : 1 ≤ number = grind (arith, nat_tests) in omega (arith, high, within, two)) set)

  -- a case with posts has an order for its word
  order_of_case : (word : ℕ) (named : Option Decoded) (pair : PostPair Value) (row : Row Value) (index : ℕ) (indicator : Bool) → IsDecoding machine.codes word named
      → IsPostsOfWord value_meaning (case_of machine is.image (certificate_of is.cert).limits row word index indicator) named (Ok pair) → IsOrder machine word
  order_of_case word (Some decoded) pair row index indicator names posts = (decoded.order, decoded.indexed, decoded.address, names)
  order_of_case word None pair row index indicator none posts = absurd cc

  fixed_code : (place : ℕ) → 2048 ≤ place → is_erasable place ≡ false
  fixed_code place fixed = grind (arith, nat_tests)

  pub printed_order : (place word : ℕ) → 2048 ≤ place → HasRowAt (certificate_of is.cert) place → entry_at is.image place ≡ Some word → IsOrder machine word
  printed_order place word fixed there stands =
      let row = there.1 in
      let row_is : IsRowAccepted value_meaning machine is.image (certificate_of is.cert) row =
      subst (λ (r : Row Value). IsRowAccepted value_meaning machine is.image (certificate_of is.cert) r) there.3 (is.accepted.rows there.0 there.1 there.2) in
      let code : row_is.code.list ≡ word ∷ [] =
      code_list row row_is place word fixed there.4 (word_at-some is.image place word stands) in
      let (index, within, index_set) = some_number row.x row.some_index in
      let (indicator, indicator_set) = some_indicator row.v row.indicators row.some_indicator in
      let (pair, (named, decoding, posts), first, second) =
      row_is.cases word index indicator (subst (λ (l : List ℕ). lists l word ≡ true) (sym code) (lists_head word [])) index_set indicator_set in
      order_of_case word named pair row index indicator decoding posts
    where
      code_list : (row : Row Value) (row_is : IsRowAccepted value_meaning machine is.image (certificate_of is.cert) row) (place word : ℕ) → 2048 ≤ place → row.location ≡ place
          → word_at is.image place ≡ word → row_is.code.list ≡ word ∷ []
      code_list row row_is place word fixed at held =
          let fixed_row : is_erasable row.location ≡ false = fixed_code row.location (subst (λ (p : ℕ). 2048 ≤ p) (sym at) fixed) in
          (rw fixed_row at row_is.is_code) ∙ ap (λ (w : ℕ). w ∷ []) (ap (word_at is.image) at ∙ held)
