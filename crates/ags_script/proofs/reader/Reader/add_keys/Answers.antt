use Rattle.std.proofs.Common.{refl, sym, ◌∙◌}
use Rattle.ags_script.proofs.KeyLemmas.{no_fields_malformed, keys_added}
use Rattle.ags_script.proofs.reader.Reader.add_keys.Goals as goal

pub returns-then-has_no_field-clause-faulty : goal.returns-then-has_no_field-clause-faulty
returns-then-has_no_field-clause-faulty c =
    rw (c.bad_line.ensures, no_fields_malformed c.args.names.now (sym c.has_no_field.ensures ∙ c.if-has_no_field.true)) (refl, refl)

pub returns-clause-fine : goal.returns-clause-fine
returns-clause-fine c =
    keys_added c.args.machine.now c.args.names.now c.args.self.now.commands.items c.push_keys.new.self c.push_keys.result (sym c.has_no_field.ensures ∙ c.if-has_no_field.false) c.push_keys.ensures.added
