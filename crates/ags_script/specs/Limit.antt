-- How long a script may be, and how many steps it may make.
use Rattle.std.specs.Prelude.{ℕ}

-- a script has at most so many bytes
abbrev pub script_limit : ℕ
script_limit = 4194304

-- its lines make at most so many steps
abbrev pub step_limit : ℕ
step_limit = 100000000

-- a cycle counts as so many
abbrev pub cycle_steps : ℕ
cycle_steps = 20000
