use Rattle.std.proofs.Common.{◌≡◌, length, sym, ◌∙◌, arith}
use Rattle.std.proofs.lemmas.List.{length-map}
use Rattle.std.proofs.lemmas.Result.{on_ok_weaker, MatchResult-weaker}
use Rattle.ags_certtype.specs.Cert.{certificate_of}
use Rattle.ags_drive.specs.Standing.{bench_of}
use Rattle.ags_drive.proofs.ScriptLemmas.{script_made, script_unshown, script_unmade}
use Rattle.ags_drive.proofs.script_run.run_script.Goals as goal

pub returns-in-Err-clause-unmade : goal.returns-in-Err-clause-unmade
returns-in-Err-clause-unmade g c =
    let counted : c.len-positions.result ≡ length c.args.devices.now.items = omega (arith, c.len-positions.ensures) in
    script_unmade c.args.machine.now (certificate_of c.args.cert.now) c.len-positions.result _ (counted ∙ sym (length-map c.args.devices.now.items _)) c.args.script.now (bench_of c.args.bench.now _)
    (g.K.Sink.told c.args.out.now) (g.K.Sink.told c.run_lines.new.out) _ c.in-Err.error c.in-Err.ensures.unmade

pub returns-clause-made : goal.returns-clause-made
returns-clause-made g c =
    let counted : c.len-positions.result ≡ length c.args.devices.now.items = omega (arith, c.len-positions.ensures) in
    on_ok_weaker c.show_all_left.result
    (λ made.
    script_made c.args.machine.now (certificate_of c.args.cert.now) c.len-positions.result _ (counted ∙ sym (length-map c.args.devices.now.items _)) c.args.script.now
    (g.K.Sink.told c.args.out.now) (g.K.Sink.told c.run_lines.new.out) (g.K.Sink.told c.show_all_left.new.out) c.args.bench.now c.run_lines.new.bench c.run_lines.new.bench _ _ _
    c.in_default.ensures.made (made c.args.machine.now (certificate_of c.args.cert.now)))
    c.show_all_left.ensures.made

pub returns-clause-unmade : goal.returns-clause-unmade
returns-clause-unmade g c =
    let counted : c.len-positions.result ≡ length c.args.devices.now.items = omega (arith, c.len-positions.ensures) in
    MatchResult-weaker c.show_all_left.result c.show_all_left.ensures.unmade (λ x h. h)
    (λ met unmade.
    script_unshown c.args.machine.now (certificate_of c.args.cert.now) c.len-positions.result _ (counted ∙ sym (length-map c.args.devices.now.items _)) c.args.script.now
    (g.K.Sink.told c.args.out.now) (g.K.Sink.told c.run_lines.new.out) (g.K.Sink.told c.show_all_left.new.out) c.args.bench.now c.run_lines.new.bench _ _ _ met
    c.in_default.ensures.made (unmade c.args.machine.now (certificate_of c.args.cert.now)))
