use Rattle.std.proofs.Common.{codes}
use Rattle.std.proofs.lemmas.Result.{err_from_is_err_and}
use Rattle.std.specs.Result.{result_map_both}
use Rattle.ags_plan.specs.Loading.{end_of}
use Rattle.ags_plan.specs.Plan.{Do, Read}
use Rattle.ags_source_tests.specs.Tiny.{Key, Text, tiny}
use Rattle.ags_plan.proofs.LoadingLemmas.{loads_on, loads_stop}
use Rattle.ags_source_tests.proofs.TinyLemmas.{loads_as_before, text_loads}
use Rattle.ags_source_tests.proofs.outside.plan_tests.load_both.Goals as goal

pub returns-in_err-load_key-clause-loads : goal.returns-in_err-load_key-clause-loads
returns-in_err-load_key-clause-loads g c =
    let p = err_from_is_err_and c.from_residual.result c.from_residual.ensures.1 in
    rw (p.1, p.2) (loads_stop tiny (g.S.Shelf.told c.args.shelf.now) Key c.args.key.now (λ _. Read Text c.args.text.now (λ bytes. Do bytes))
    (end_of tiny (λ _. codes "NO KEY\n") (λ _. 6) c.in_err-load_key.field-0.0) c.in_err-load_key.ensures.loads)

pub returns-clause-loads : goal.returns-clause-loads
returns-clause-loads g c =
    let told = g.S.Shelf.told c.args.shelf.now in
    let result = result_map_both (λ bytes. bytes.items) (end_of tiny (λ _. codes "NO KEY\n") (λ _. 6)) c.load_text.result in
    let text = loads_as_before told (g.S.Shelf.told c.load_key.new.shelf) Text c.args.text.now result c.in_ok-load_key.ensures.same c.load_text.ensures.loads in
    loads_on tiny told Key c.args.key.now (λ _. Read Text c.args.text.now (λ bytes. Do bytes)) tt result c.in_ok-load_key.ensures.loads (text_loads told c.args.text.now result text)
