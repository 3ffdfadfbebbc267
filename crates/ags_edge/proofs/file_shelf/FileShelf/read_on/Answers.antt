use Rattle.std.proofs.Common.{◌≡◌, ℕ, ◌+◌, ◌-◌, ◌^◌, ◌<◌, min, List, take, Option, Some, None, is_some, Result, Ok, refl, sym, ap, subst, ◌∙◌, true≢false}
use Rattle.std.proofs.lemmas.Result.{err_from_is_err_and}
use Rattle.std.specs.Prelude.{IfSome}
use Rattle.std.specs.Io.KnownBytes.{Consumes}
use Rattle.std.specs.String.{string_bytes}
use Rattle.ags_edge.specs.declared.file_shelf.OpenFile.{OpenFile}
use Rattle.ags_edge.specs.Held.{IsAtItsEnd, ReadsOn}
use Rattle.ags_edge.proofs.file_shelf.FileShelf.read_on.Goals as goal

-- what is read of the file that was open is what it had left
reads_on : {F E : Type 0} (remaining : F → Option (List ℕ)) (before : Option (OpenFile F)) (found : Result (OpenFile F) E) (file new : OpenFile F) (name : List ℕ) (from : ℕ) (into : List ℕ) (count : ℕ)
    → found ≡ Ok file → IfSome before (λ old. old.at ≡ from → string_bytes old.name ≡ name → found ≡ Ok old)
    → Consumes (remaining file.file) (remaining new.file) (take count into) → ReadsOn remaining before (Some new) name from into (Some count)
reads_on remaining None found file new name from into count was kept consumes = tt
reads_on remaining (Some old) found file new name from into count was kept consumes = λ named at.
    let is = kept at named in
    let same : file ≡ old = (cc) in
    subst (λ read. Consumes (remaining read.file) (remaining new.file) (take count into)) same consumes

-- of a read that failed nothing is said
fails_on : {F : Type 0} (remaining : F → Option (List ℕ)) (before now : Option (OpenFile F)) (name : List ℕ) (from : ℕ) (into : List ℕ)
    → ReadsOn remaining before now name from into None
fails_on remaining None now name from into = tt
fails_on remaining (Some old) now name from into = λ _ _. tt

no_end : {F : Type 0} (remaining : F → Option (List ℕ)) (held : Option (OpenFile F)) → IsAtItsEnd remaining held None
no_end remaining held = λ is. absurd (true≢false (sym (ap is_some is)))

abbrev count_or_none : Option ℕ → ℕ
count_or_none None = 0
count_or_none (Some count) = count

pub returns-in_err-file : goal.returns-in_err-file
returns-in_err-file g c =
    let p = err_from_is_err_and c.from_residual.result c.from_residual.ensures.1 in
    rw p.1 (record {
      count = tt;
      faults = refl;
      absences = refl;
      «open» = tt;
      end = λ _. no_end g.R.File.Read.remaining c.take.new.self;
      bytes = fails_on g.R.File.Read.remaining c.args.self.now.held c.take.new.self c.args.name.now c.args.from c.args.into.now;
      source = tt;
      closed = c.take.ensures.after;
      unread = refl;
      reason = refl;
    })

pub returns-in_err-count : goal.returns-in_err-count
returns-in_err-count g c =
    let p = err_from_is_err_and c.from_residual-in_err-count.result c.from_residual-in_err-count.ensures.1 in
    rw p.1 (record {
      count = tt;
      faults = refl;
      absences = refl;
      «open» = tt;
      end = λ _. no_end g.R.File.Read.remaining c.take.new.self;
      bytes = fails_on g.R.File.Read.remaining c.args.self.now.held c.take.new.self c.args.name.now c.args.from c.read_more.new.into;
      source = tt;
      closed = c.take.ensures.after;
      unread = refl;
      reason = refl;
    })

pub returns : goal.returns
returns g c = record {
  count = c.in_ok-count.ensures.count;
  faults = refl;
  absences = refl;
  «open» = (
    ap string_bytes c.in_ok-count.ensures.name ∙ c.in_ok-file.ensures.name,
    c.in_ok-count.ensures.place ∙ ap (λ (at : ℕ). min (at + c.in_ok-count.count) (2 ^ 64 - 1)) c.in_ok-file.ensures.place,
  );
  end = λ room is. c.in_ok-count.ensures.bytes.1 (ap count_or_none is) (subst (λ (long : ℕ). 0 < long) (sym c.read_more.auto.into) room);
  bytes = reads_on g.R.File.Read.remaining c.args.self.now.held c.file_at.result c.in_ok-file.file c.read_more.new.file c.args.name.now c.args.from c.read_more.new.into c.in_ok-count.count
      c.in_ok-file.was (rw (← c.take.ensures.value) c.file_at.ensures.kept) c.in_ok-count.ensures.bytes.0;
  source = (c.in_ok-file.file.file, rw (← c.take.ensures.value) c.in_ok-file.ensures.stood, c.in_ok-count.ensures.bytes.0);
  closed = tt;
  unread = refl;
  reason = refl;
}
