use Rattle.std.proofs.Common.{length, sym, ap, ◌∙◌, inr, ◌<◌}
use Rattle.ags_text.specs.Field.{behind_field}
use Rattle.ags_script.specs.Operand.{key_named}
use Rattle.ags_script.proofs.FieldLemmas.{behind_shorter, some_left}
use Rattle.ags_script.proofs.KeyLemmas.{Pressing-more, Pressing-bad, Pressing-all}
use Rattle.ags_script.proofs.reader.Reader.push_keys.Goals as goal

pub returns-in_default-clause-refused : goal.returns-in_default-clause-refused
returns-in_default-clause-refused c = inr (
  c.bad_line.ensures,
  Pressing-bad c.args.names.now c.loop-rest.rest.now c.args.self.now.commands.items c.loop-rest.self.commands.items c.loop-rest.invariant.pressing
      (sym c.has_no_field.ensures ∙ c.loop-rest-test.true) (ap key_named (sym c.split_field.ensures.field) ∙ sym c.key_named.ensures ∙ c.in_default.is),
)

pub loop-rest-smaller : goal.loop-rest-smaller
loop-rest-smaller c =
    let shorter : length (behind_field c.loop-rest.rest.now) < length c.loop-rest.rest.now = behind_shorter c.loop-rest.rest.now (some_left c.loop-rest.rest.now (sym c.has_no_field.ensures ∙ c.loop-rest-test.true)) in
    rw c.split_field.ensures.behind shorter

pub loop-rest-preserved : goal.loop-rest-preserved
loop-rest-preserved c = record {
  pressing = rw c.split_field.ensures.behind (
      Pressing-more c.args.names.now c.loop-rest.rest.now c.args.self.now.commands.items c.loop-rest.self.commands.items c.push.new.self.commands.items c.in-Some.key c.loop-rest.invariant.pressing
      (sym c.has_no_field.ensures ∙ c.loop-rest-test.true) (ap key_named (sym c.split_field.ensures.field) ∙ sym c.key_named.ensures ∙ c.in-Some.is) c.in_ok-push.ensures.added.1);
  tally = c.in_ok-push.ensures.added.0;
}

pub returns-clause-added : goal.returns-clause-added
returns-clause-added c =
    let pressing = c.loop-rest.invariant.pressing in (
      pressing.done,
      Pressing-all c.args.names.now c.loop-rest.rest.now c.args.self.now.commands.items c.loop-rest.self.commands.items pressing (sym c.has_no_field.ensures ∙ c.loop-rest-test.false),
      c.loop-rest.invariant.tally,
      pressing.items,
    )
