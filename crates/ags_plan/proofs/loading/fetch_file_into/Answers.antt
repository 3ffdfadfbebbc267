use Rattle.std.proofs.Common.{ℕ, List, Some, None, Ok, Err, refl, sym, ap, true≢false}
use Rattle.ags_outside.specs.declared.fetching.FetchError.TheVariants.{Absent}
use Rattle.ags_outside.specs.Fetch.{FetchTells}
use Rattle.ags_outside.specs.ToldFile.{ToldFile, Untold, Missing, Stored}
use Rattle.ags_plan.specs.Walk.{Agrees}
use Rattle.ags_plan.proofs.LoadingLemmas.{some_long}
use Rattle.ags_plan.proofs.loading.fetch_file_into.Goals as goal

-- the bytes that were taken are the file's
given_agrees : (told : ToldFile) (bytes : List ℕ) (limit : ℕ) → FetchTells told limit (Ok bytes) → Agrees told (Some bytes)
given_agrees Untold bytes limit tells = tt
given_agrees Missing bytes limit tells = absurd tells
given_agrees (Stored held) bytes limit tells = ap (λ (given : List ℕ). Some given) tells.0

-- a file that is found absent isn't there
absent_agrees : (told : ToldFile) (limit : ℕ) → FetchTells told limit (Err Absent) → Agrees told None
absent_agrees Untold limit tells = tt
absent_agrees Missing limit tells = refl
absent_agrees (Stored held) limit tells = absurd tells

pub returns-in-Ok : goal.returns-in-Ok
returns-in-Ok g c =
    let took = c.in-Ok.ensures.took in
    record {
      same = c.in-Ok.ensures.same;
      took = record {
        bytes = took.bytes;
        agrees = given_agrees (g.S.Shelf.told c.args.shelf.now c.args.name.now) took.bytes c.args.limit took.tells;
        within = took.within;
        more = took.more;
      };
      stays = c.in-Ok.ensures.stays;
      handed = λ is. absurd (true≢false (sym is));
      fetches = tt;
      faults = c.in-Ok.ensures.faults;
      absences = c.in-Ok.ensures.absences;
    }

pub returns-in-Err-Absent : goal.returns-in-Err-Absent
returns-in-Err-Absent g c = record {
  same = c.in-Err-Absent.ensures.same;
  took = tt;
  stays = tt;
  handed = λ is. absurd (true≢false (sym is));
  fetches = (refl, absent_agrees (g.S.Shelf.told c.args.shelf.now c.args.name.now) c.args.limit (rw c.in-Err-Absent.field-0-is at c.in-Err-Absent.ensures.tells));
  faults = rw c.in-Err-Absent.field-0-is at c.in-Err-Absent.ensures.faults;
  absences = rw c.in-Err-Absent.field-0-is at c.in-Err-Absent.ensures.absences;
}

pub returns-in-Err-TooLong : goal.returns-in-Err-TooLong
returns-in-Err-TooLong g c = record {
  same = c.in-Err-TooLong.ensures.same;
  took = tt;
  stays = tt;
  handed = λ _. c.in-Err-TooLong.ensures.handed (ap Err c.in-Err-TooLong.field-0-is);
  fetches = (refl, refl, some_long (g.S.Shelf.told c.args.shelf.now c.args.name.now) c.args.limit (rw c.in-Err-TooLong.field-0-is at c.in-Err-TooLong.ensures.tells));
  faults = rw c.in-Err-TooLong.field-0-is at c.in-Err-TooLong.ensures.faults;
  absences = rw c.in-Err-TooLong.field-0-is at c.in-Err-TooLong.ensures.absences;
}

pub returns-in-Err-ReadFault : goal.returns-in-Err-ReadFault
returns-in-Err-ReadFault g c = record {
  same = c.in-Err-ReadFault.ensures.same;
  took = tt;
  stays = tt;
  handed = λ is. absurd (true≢false (sym is));
  fetches = tt;
  faults = rw c.in-Err-ReadFault.field-0-is at c.in-Err-ReadFault.ensures.faults;
  absences = rw c.in-Err-ReadFault.field-0-is at c.in-Err-ReadFault.ensures.absences;
}

pub returns-in-Err-NoMemory : goal.returns-in-Err-NoMemory
returns-in-Err-NoMemory g c = record {
  same = c.in-Err-NoMemory.ensures.same;
  took = tt;
  stays = tt;
  handed = λ is. absurd (true≢false (sym is));
  fetches = tt;
  faults = rw c.in-Err-NoMemory.field-0-is at c.in-Err-NoMemory.ensures.faults;
  absences = rw c.in-Err-NoMemory.field-0-is at c.in-Err-NoMemory.ensures.absences;
}
