use Rattle.std.proofs.Common.{◌≡◌}
use Rattle.ags_certread.specs.Gathering.{IsNamedUpTo}
use Rattle.ags_certread.proofs.limits.name_places.Given as goal

abbrev pub invariant-loop-location : goal.invariant-loop-location
invariant-loop-location l = record {
  named : IsNamedUpTo l.location l.places l.limits;
  rest : l.limits ≡ record l.fn.limits { places = l.limits.places };
}
