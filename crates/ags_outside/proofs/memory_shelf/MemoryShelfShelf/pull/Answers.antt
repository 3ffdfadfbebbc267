use Rattle.std.proofs.Common.{◌≡◌, ℕ, List, Option, Some, None, false, sym, refl, ◌∙◌, arith, le_refl}
use Rattle.ags_outside.specs.ToldFile.{ToldFile, Untold, Missing, Stored}
use Rattle.ags_outside.specs.Shelf.{PullTells, IsSteadyPull, is_failed_pull}
use Rattle.ags_outside.specs.declared.shelves.Pull.{Pull}
use Rattle.ags_outside.specs.declared.shelves.Pull.TheVariants.{Got, End, Absent, Failed, NoMemory}
use Rattle.ags_outside.proofs.memory_shelf.MemoryShelfShelf.pull.Goals as goal

-- a pull that failed says nothing of the file
failed_tells : (told : ToldFile) (from : ℕ) (into : List ℕ) → PullTells told from into Failed
failed_tells Untold from into = tt
failed_tells Missing from into = tt
failed_tells (Stored bytes) from into = tt

-- and a steady shelf's pull fails never
steady_goes : (file : Option (List ℕ)) (from room : ℕ) (answer : Pull) → IsSteadyPull file from room answer → is_failed_pull answer ≡ false
steady_goes file from room (Got count) steady = refl
steady_goes file from room End steady = refl
steady_goes file from room Absent steady = refl
steady_goes None from room Failed steady = absurd steady
steady_goes (Some bytes) from room Failed steady = absurd steady
steady_goes file from room NoMemory steady = refl

pub returns-then-fail_next : goal.returns-then-fail_next
returns-then-fail_next c =
    rw (← c.self.view_is) (record {
      files = refl;
      calls = c.fail_next.ensures.counted;
      absences = refl;
      absences_stay = le_refl _;
      faults = c.saturating_add-self-inside.ensures;
      faults_stay = omega arith;
      got = tt;
      tells = failed_tells _ _ _;
      exactly = rw (sym c.fail_next.ensures.fails ∙ c.if-fail_next.true) refl;
    })

pub returns : goal.returns
returns c =
    rw (← c.self.view_is) (record {
      files = c.pull.ensures.files;
      calls = c.fail_next.ensures.counted;
      absences = c.pull.ensures.absences;
      absences_stay = c.pull.ensures.absences_stay;
      faults = rw (steady_goes _ _ _ c.pull.result c.pull.ensures.steady) refl;
      faults_stay = le_refl _;
      got = c.pull.ensures.got;
      tells = c.pull.ensures.tells;
      exactly = rw (sym c.fail_next.ensures.fails ∙ c.if-fail_next.false) c.pull.ensures.steady;
    })
