-- The numbers that bytes stand for. A message is the list of its bytes, each a number below 256.
use Rattle.std.specs.Prelude.{ℕ, zero, suc, ◌+◌, ◌*◌, ◌-◌, ◌^◌, ◌<◌, Bool, true, false, cond, List, [], ◌∷◌, ltb, ℤ, pos, negsuc, Float, get_or}
use Rattle.std.specs.Float.{nan, inf, fin}

-- every element is a byte
abbrev pub Bytes : List ℕ → Type 0
Bytes [] = Unit {0}
Bytes (b ∷ bs) = (b < 256) × Bytes bs

-- the unsigned number of `width` bytes at a place, least significant byte first
unfoldable pub little_endian : List ℕ → ℕ → ℕ → ℕ
little_endian s at zero = 0
little_endian s at (suc zero) = get_or s at 0
little_endian s at (suc (suc w)) = get_or s at 0 + 256 * little_endian s (at + 1) (suc w)

-- the same, most significant byte first
unfoldable pub big_endian : List ℕ → ℕ → ℕ → ℕ
big_endian s at zero = 0
big_endian s at (suc zero) = get_or s at 0
big_endian s at (suc (suc w)) = get_or s at 0 * 256 ^ suc w + big_endian s (at + 1) (suc w)

-- the signed number whose two's complement at `width` bytes is n: n itself below half the range, else n less the whole range
-- (`negsuc k` is -(k + 1))
abbrev pub twos_complement : ℕ → ℕ → ℤ
twos_complement width n = cond (ltb n (2 ^ (8 * width - 1))) (pos n) (negsuc (2 ^ (8 * width) - suc n))

-- neither an infinity nor a NaN
abbrev pub is_finite : Float → Bool
is_finite nan = false
is_finite (inf s) = false
is_finite (fin s m e) = true
