-- A record of a log: time in ms u32, direction byte (0 down, 1 up), a zero, the experiment number u16, then the message part.
-- The size of the message part is an argument; it is 128 in the base.
use Rattle.std.specs.Prelude.{ℕ, ◌+◌, Bool, true, cond, not, ◌&&◌, ◌||◌, List, [], ◌∷◌, eqb, leb, length, get_or, take, drop}
use Rattle.protocol.specs.Number.{little_endian}
use Rattle.protocol.specs.Decode.{longest_message}
use Rattle.protocol.specs.declared.Way.{Way}
use Rattle.protocol.specs.declared.Way.TheVariants.{Down, Up}
use Rattle.rules.specs.Offer.{Entry}

-- bytes before the message part
abbrev pub front : ℕ
front = 8

abbrev pub record_size : ℕ → ℕ
record_size part = front + part

-- how long the message is: as its first byte says, or all of its part if that is over the most bytes of a message
abbrev pub message_size : ℕ → List ℕ → ℕ
message_size part s = cond (leb (get_or s front 0) longest_message) (get_or s front 0) part

unfoldable pub message_in : ℕ → List ℕ → List ℕ
message_in part s = take (message_size part s) (drop front s)

abbrev pub way_of : ℕ → Way
way_of n = cond (eqb n 0) Down Up

-- bytes 6 and 7, the least significant first
unfoldable pub experiment_in : List ℕ → ℕ
experiment_in s = little_endian s 6 2

abbrev pub entry_of : ℕ → List ℕ → Entry
entry_of part s = record { way = way_of (get_or s 4 0); bytes = message_in part s; experiment = experiment_in s }

abbrev pub all_zero : List ℕ → Bool
all_zero [] = true
all_zero (b ∷ bs) = eqb b 0 && all_zero bs

-- 19: another size, direction over 1, byte 5 not 0, or a nonzero byte after the message
unfoldable pub malformed : ℕ → List ℕ → Bool
malformed part s =
    not (eqb (length s) (record_size part)) || not (leb (get_or s 4 0) 1) || not (eqb (get_or s 5 0) 0)
    || not (all_zero (drop (message_size part s) (drop front s)))
