-- A program's plans: which files a command line reads, in which order, and the work over what they hold. Nothing here knows
-- what a program is for: its kinds of files, its works and its statuses are parameters.
use Rattle.std.specs.Prelude.{ℕ, List, ◌++◌, codes}
use Rattle.std.specs.Fmt.{decimal}
use Rattle.ags_plan.specs.declared.causes.Cause.{Cause}
use Rattle.ags_plan.specs.declared.causes.Stop.{Stop}

-- What a program is to its command lines:
-- the kinds of its files; what a file of a kind holds; how many bytes it has at most; when bytes hold a value, and when they are
-- refused with a line; the status of that;
-- its works, and the text and the status that a work makes;
-- the status of each stop that any program has, and what each status comes of.
pub record Definition (Status : Type 0) : Type 1 where
  pub Kind : Type 0
  pub Value : Kind → Type 0
  pub limit : Kind → ℕ
  pub Holds : (kind : Kind) → (bytes : List ℕ) → Value kind → Type 0
  pub Refuses : (kind : Kind) → (bytes line : List ℕ) → Type 0
  pub refused : Kind → Status
  pub Work : Type 0
  pub Makes : Work → (text : List ℕ) → Status → Type 0
  pub status_of : Stop → Status
  pub cause : Status → Cause

-- What a command line asks for: a work; or a file of a kind is read from the shelf, and its value says how it goes on; or bytes
-- that the program makes itself, under a name of its own, are read as a file of a kind.
pub data Plan {Status : Type 0} (D : Definition Status) : Type 0 where
  Do : (work : D.Work) → Plan D
  Read : (kind : D.Kind) (name : List ℕ) (next : D.Value kind → Plan D) → Plan D
  Take : (kind : D.Kind) (name bytes : List ℕ) (next : D.Value kind → Plan D) → Plan D

-- How a command line ends: a file is absent, or longer than its limit, or refused, with this line and status; or this work is done.
pub data End {Status : Type 0} (D : Definition Status) : Type 0 where
  AbsentAt : (name : List ℕ) → End D
  LongAt : (name : List ℕ) (limit : ℕ) → End D
  RefusedAt : (line : List ℕ) (status : Status) → End D
  WorkAt : (work : D.Work) → End D

-- the file of that name is absent
abbrev pub absent_line : List ℕ → List ℕ
absent_line name = codes "ABSENT " ++ name ++ codes "\n"

-- the file of that name is longer than the limit
abbrev pub long_line : List ℕ → ℕ → List ℕ
long_line name limit = codes "LONG " ++ name ++ codes " " ++ decimal limit ++ codes "\n"
