use Rattle.std.proofs.Common.{◌≡◌, ℕ, List, ◌++◌, refl, append_assoc, rules}
use Rattle.std.specs.Fmt.{signed_decimal}
use Rattle.ags_xref.specs.Xref.{right_in, xref_line}
use Rattle.ags_xref.proofs.writing.push_line.Goals as goal

-- a line that grew by six parts, one after the other
by_six : (line a b c d e f : List ℕ) → line ++ a ++ b ++ c ++ d ++ e ++ f ≡ line ++ (a ++ b ++ c ++ d ++ e ++ f)
by_six line a b c d e f =
    rw (append_assoc line a b, append_assoc line (a ++ b) c, append_assoc line (a ++ b ++ c) d, append_assoc line (a ++ b ++ c ++ d) e, append_assoc line (a ++ b ++ c ++ d ++ e) f) refl

pub returns : goal.returns
unfolding xref_line
returns c =
    let value : c.push_value.new.line.items ≡ c.push.new.self.items ++ right_in 7 (signed_decimal c.args.row.now.defined.value) = search rules in
    rw (c.in_ok-push-2.ensures.items, c.in_ok-push_numbers.ensures, c.in_ok-push_number.ensures, value, c.in_ok-push.ensures.items, c.in_ok-push_name.ensures, c.bytes.ensures.same)
    (by_six c.args.line.now.items _ _ _ _ _ _)
