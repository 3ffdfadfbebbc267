use Rattle.std.specs.String.{string_bytes}
use Rattle.ags_source_tests.proofs.TinyLemmas.{two_items}
use Rattle.ags_source_tests.proofs.outside.plan_tests.TinyLoader.load.Goals as goal

pub returns-in-len2-clause-loads : goal.returns-in-len2-clause-loads
returns-in-len2-clause-loads g c =
    let two = two_items string_bytes c.args.arguments.now c.key-item.result c.text-item.result c.in-len2.len_at_least c.in-len2.len_below c.key-item.is c.text-item.is in
    rw (two, ← c.as_str.ensures.value, ← c.as_str-in-len2.ensures.value) c.load_both.ensures.loads
