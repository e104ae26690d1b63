use Prim.Native.Nat.{◌+◌}
use mathlib.Core.Path.{◌≡◌}
use Rattle.soundness.specs.Place.{from_place, place_of, find_place}
use Rattle.soundness.proofs.place.find.Given as goal

abbrev pub invariant-loop-i : goal.invariant-loop-i
invariant-loop-i l = find_place l.table l.port ≡ l.i + place_of (from_place l.table l.i) l.port
