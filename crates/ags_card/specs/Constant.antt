-- How many constants a card has.
use Rattle.std.specs.Prelude.{◌<◌, ◌≤◌, List, length}

-- one constant or more, 64 at most
pub record AreConstants {X : Type 0} (constants : List X) : Type 0 where
  pub some : 0 < length constants
  pub most : length constants ≤ 64
