use Rattle.std.proofs.Common.{refl}
use Rattle.ags_bench.proofs.NoFormLemmas.{says_no_form}
use Rattle.ags_bench.proofs.main_call.perform.Goals as goal

pub returns-in-NoForm-clause-does : goal.returns-in-NoForm-clause-does
returns-in-NoForm-clause-does g c = rw c.in-NoForm.is (says_no_form _ _ _ _ c.say_forms.ensures.says, refl)

pub returns-in-DrivePair-clause-does : goal.returns-in-DrivePair-clause-does
returns-in-DrivePair-clause-does g c =
    let ready = rw c.in-DrivePair.is at c.requires in
    rw c.in-DrivePair.is (record {
      image = c.in-DrivePair.pair.source.made.image;
      image_is = ready.0.1.image;
      verdict = c.verdict_of-verdict.result;
      is_verdict = c.verdict_of-verdict.ensures.verdict;
      benches = c.drive_pair.ensures.benches;
    })
