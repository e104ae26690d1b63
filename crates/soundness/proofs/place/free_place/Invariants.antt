use Prim.Native.Nat.{◌+◌}
use mathlib.Core.Path.{◌≡◌}
use Rattle.soundness.specs.Place.{from_place, first_free, free_place}
use Rattle.soundness.proofs.place.free_place.Given as goal

abbrev pub invariant-loop-place : goal.invariant-loop-place
invariant-loop-place l = free_place l.table ≡ l.place + first_free (from_place l.table l.place)
