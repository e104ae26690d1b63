-- A type with a selector: what its value leads to.
use Prim.Native.Nat.{ℕ, ◌≤◌, ◌<◌}
use mathlib.Core.Path.{◌≡◌, ap}
use mathlib.Core.Bool.{Bool, true, false, cond}
use mathlib.Core.List.{List}
use borrow.Author.Tests.{le-ltb, lt-ltb}
use lib.Dec.{eqb, ltb}
use lib.ListN.{length, get_or}
use Rattle.protocol.specs.Types.{MessageType, types, type_of}
use Rattle.protocol.specs.declared.Way.{Way}
use Rattle.protocol.specs.Decode.{wrong_size, selectors_size, header, longest_message, decode_selection, decode_type, decode_typed, decode_way, decode}

-- too short for its selectors
pub too_short : (t : MessageType) (s : List ℕ) → length s < selectors_size t → decode_type t s ≡ wrong_size (selectors_size t)
unfolding decode_type
too_short t s h = ap (λ (b : Bool). cond b (wrong_size (selectors_size t)) (decode_selection t s)) (lt-ltb (length s) (selectors_size t) h)

-- long enough: the selection decides
pub long_enough : (t : MessageType) (s : List ℕ) → selectors_size t ≤ length s → decode_type t s ≡ decode_selection t s
unfolding decode_type
long_enough t s h = ap (λ (b : Bool). cond b (wrong_size (selectors_size t)) (decode_selection t s)) (le-ltb (length s) (selectors_size t) h)

-- the type byte is v
pub typed : (way : Way) (s : List ℕ) (v : ℕ) → get_or s 2 0 ≡ v → decode_way way s ≡ decode_typed (type_of v (types way)) s
unfolding decode_way
typed way s v e = rw e

-- the length and the hub id are good: the type decides
pub headed : (way : Way) (s : List ℕ) → eqb (length s) 0 ≡ false → ltb longest_message (get_or s 0 0) ≡ false → eqb (get_or s 0 0) (length s) ≡ true → ltb (length s) header ≡ false → eqb (get_or s 1 0) 0 ≡ true
    → decode way s ≡ decode_way way s
unfolding decode
headed way s a b d e f = rw (a, b, d, e, f)
