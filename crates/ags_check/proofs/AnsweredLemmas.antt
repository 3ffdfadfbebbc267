-- Each certificate is answered: each row has a code or too many words, and each case posts or a stop. Behind the law of the same name
-- is
--     all_answered    so it is over each machine that is one and each image
use Rattle.std.proofs.Common.{ℕ, List, get_or}
use Rattle.std.specs.Prelude.{Option}
use Rattle.ags_image.specs.Image.{IsImage}
use Rattle.ags_ports.specs.declared.machines.Machine.{Machine}
use Rattle.ags_ports.specs.Machine.{IsMachine}
use Rattle.ags_domain.specs.ListLaws.{lists_word}
use Rattle.ags_domain.specs.Value.{value_meaning}
use Rattle.ags_domain.specs.declared.values.Value.{Value}
use Rattle.ags_safe.specs.Case.{case_of}
use Rattle.ags_safe.specs.Certificate.{Certificate}
use Rattle.ags_safe.specs.Failing.{AreAnswered}
use Rattle.ags_check.proofs.PostsLemmas.{some_posts}
use Rattle.ags_check.proofs.CodeLemmas.{some_code}

pub all_answered : (machine : Machine) (image : List (Option ℕ)) (cert : Certificate Value) → IsMachine machine → IsImage image
    → AreAnswered value_meaning machine image cert
all_answered machine image cert is_machine is_image = record {
  codes = λ position d inside. some_code image cert.limits (get_or cert.rows position d) is_image;
  cases = λ position d inside word index indicator judged.
      some_posts (case_of machine image cert.limits (get_or cert.rows position d) word index indicator) is_machine is_image
      (lists_word 0 judged.code.list word judged.code.ascending judged.listed);
}
