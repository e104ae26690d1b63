-- The open bytes of a message are no more than its bytes.
use Prim.Native.Nat.{ℕ, ◌+◌, ◌≤◌}
use native.Mathlib.Omega.{arith}
use mathlib.Core.List.{List}
use lib.ListN.{length, length-drop}
use Rattle.protocol.specs.Field.{widths}
use Rattle.protocol.specs.Form.{layout, Rest, nothing, open_run, words, open_bytes}
use Rattle.protocol.specs.Decode.{Answer, refused, accepted, decode, header, open_of, open_part}
use Rattle.protocol.specs.declared.Way.{Way}

bytes_short : (s : List ℕ) (at : ℕ) (r : Rest) → length (open_bytes s at r) ≤ length s
bytes_short s at nothing = omega arith
bytes_short s at (open_run least most run) = simp length-drop (omega arith)
bytes_short s at (words most) = omega arith

of_short : (s : List ℕ) (a : Answer) → length (open_of s a) ≤ length s
of_short s (refused number place) = omega arith
of_short s (accepted f vs) = bytes_short s (header + widths (layout f).fields) (layout f).rest

pub open_short : (way : Way) (s : List ℕ) → length (open_part way s) ≤ length s
unfolding open_part
open_short way s = of_short s (decode way s)
