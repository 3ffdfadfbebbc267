use Rattle.std.proofs.Common.{◌≡◌, Result, Ok, Err, IfOk, IfSome, refl, sym, ◌∙◌, true≢false}
use Rattle.std.specs.Result.{result_ok}
use Rattle.std.specs.String.{string_bytes}
use Rattle.ags_outside.specs.declared.shelves.Pull.TheVariants.{Failed}
use Rattle.ags_edge.proofs.file_shelf.FileShelf.keep_unread.Given.{Over}
use Rattle.ags_edge.proofs.file_shelf.FileShelf.keep_unread.Goals.{in-Failed, in_default}
use Rattle.ags_edge.proofs.file_shelf.FileShelf.keep_unread.Goals as goal

-- what was made holds where it is kept as well
kept : {T E : Type 0} (P : T → Type 0) (made : Result T E) → IfOk made P → IfSome (result_ok made) P
kept P (Ok some) holds = holds
kept P (Err error) holds = tt

failed : (g : Over) (c : goal.After-reason-1 g) → c.args.answer ≡ Failed
failed g c = elim c.match-matches.branch [
  | in-Failed w ↦ w.in-Failed.is
  | in_default w ↦ absurd (true≢false (sym c.if-matches.true ∙ w.matches-is))
]

unfailed : (g : Over) (c : goal.Else-matches g) → c.args.answer ≡ Failed → ⊥
unfailed g c = elim c.match-matches.branch [
  | in-Failed w ↦ absurd (true≢false (sym w.matches-is ∙ c.if-matches.false))
  | in_default w ↦ w.in_default.not-Failed
]

pub returns-then-matches : goal.returns-then-matches
returns-then-matches g c = record {
  reason = λ _. refl;
  reason_stays = λ other. absurd (other (failed g c));
  unread = λ _. rw c.ok.ensures.value (kept (λ unread. string_bytes unread ≡ c.args.name.now) c.from_str.result c.from_str.ensures.ok);
  unread_stays = λ other. absurd (other (failed g c));
  faults = refl;
  absences = refl;
  held = refl;
}

pub returns-else-matches : goal.returns-else-matches
returns-else-matches g c = record {
  reason = λ is. absurd (unfailed g c is);
  reason_stays = λ _. refl;
  unread = λ is. absurd (unfailed g c is);
  unread_stays = λ _. refl;
  faults = refl;
  absences = refl;
  held = refl;
}
