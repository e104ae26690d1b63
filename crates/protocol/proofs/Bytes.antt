-- Numbers to bytes and back, over the width.
use Prim.Native.Nat.{ℕ, zero, suc, ◌+◌, ◌*◌, ◌/◌, ◌%◌, ◌^◌, ◌≤◌, ◌<◌}
use native.Mathlib.Nat.{add-zero, pow-zero, pow-suc}
use native.Mathlib.Numerals.{add-one}
use native.Mathlib.Omega.{arith}
use mathlib.Core.Path.{◌≡◌, refl, sym, ◌∙◌, ap}
use mathlib.Core.List.{List, [], ◌∷◌, ◌++◌, reverse, reverse-cons, reverse-reverse}
use lib.ListN.{length, get_or, take, drop, length-drop, length-reverse}
use lib.Seq.{drop-cons, length-take-le}
use Rattle.protocol.specs.Number.{Bytes, little_endian, big_endian}
use Rattle.protocol.specs.Encode.{low_first}

-- the number of bytes, least significant first
abbrev pub value : List ℕ → ℕ
value [] = 0
value (b ∷ bs) = b + 256 * value bs

-- the part of a list from a place on, so many elements long
abbrev pub part : List ℕ → ℕ → ℕ → List ℕ
part s at w = take w (drop at s)

pub part_cons : (s : List ℕ) (at w : ℕ) → at < length s → part s at (suc w) ≡ get_or s at 0 ∷ part s (at + 1) w
part_cons s at w h = rw (drop-cons s at 0 h, add-one)

pub part_length : (s : List ℕ) (at w : ℕ) → at + w ≤ length s → length (part s at w) ≡ w
part_length s at w h = length-take-le w (drop at s) (rw length-drop (omega arith))

pub little_value : (s : List ℕ) (at w : ℕ) → at + w ≤ length s → little_endian s at w ≡ value (part s at w)
unfolding little_endian
little_value s at zero h = refl
little_value s at (suc zero) h = rw (part_cons s at 0 (omega arith), add-zero)
little_value s at (suc (suc w)) h =
    rw (part_cons s at (suc w) (omega arith)) (ap (λ (n : ℕ). get_or s at 0 + 256 * n) (little_value s (at + 1) (suc w) (omega arith)))

pub low_length : (w n : ℕ) → length (low_first w n) ≡ w
unfolding low_first
low_length zero n = refl
low_length (suc w) n = ap suc (low_length w (n / 256))

pub low_bytes : (w n : ℕ) → Bytes (low_first w n)
unfolding low_first
low_bytes zero n = tt
low_bytes (suc w) n = (omega arith, low_bytes w (n / 256))

pub value_low : (w n : ℕ) → n < 256 ^ w → value (low_first w n) ≡ n
unfolding low_first
value_low zero n h = omega (arith, pow-zero 256)
value_low (suc w) n h = rw (value_low w (n / 256) (omega (arith, pow-suc 256 w))) (omega arith)

pub low_value : (bs : List ℕ) → Bytes bs → low_first (length bs) (value bs) ≡ bs
unfolding low_first
low_value [] b = refl
low_value (x ∷ xs) (h, b) =
    let digit : (x + 256 * value xs) % 256 ≡ x = omega arith in
    let rest : (x + 256 * value xs) / 256 ≡ value xs = omega arith in
    rw (digit, rest) (ap (λ (l : List ℕ). x ∷ l) (low_value xs b))

-- most significant first
value_append : (xs ys : List ℕ) → value (xs ++ ys) ≡ value xs + 256 ^ length xs * value ys
value_append [] ys = rw pow-zero (omega arith)
value_append (x ∷ xs) ys = rw (value_append xs ys, pow-suc) (omega arith)

value_reverse : (x : ℕ) (xs : List ℕ) → value (reverse (x ∷ xs)) ≡ x * 256 ^ length xs + value (reverse xs)
value_reverse x xs = rw (reverse-cons, value_append, length-reverse) (omega arith)

pub big_value : (s : List ℕ) (at w : ℕ) → at + w ≤ length s → big_endian s at w ≡ value (reverse (part s at w))
unfolding big_endian
big_value s at zero h = refl
big_value s at (suc zero) h = rw (part_cons s at 0 (omega arith), add-zero)
big_value s at (suc (suc w)) h =
    let tail : List ℕ = part s (at + 1) (suc w) in
    let rest : value (reverse (part s at (suc (suc w)))) ≡ get_or s at 0 * 256 ^ suc w + value (reverse tail) =
    rw (part_cons s at (suc w) (omega arith)) (value_reverse (get_or s at 0) tail ∙ rw (part_length s (at + 1) (suc w) (omega arith)))
    in
    ap (λ (n : ℕ). get_or s at 0 * 256 ^ suc w + n) (big_value s (at + 1) (suc w) (omega arith)) ∙ sym rest

Bytes-append : (xs ys : List ℕ) → Bytes xs → Bytes ys → Bytes (xs ++ ys)
Bytes-append [] ys a b = b
Bytes-append (x ∷ xs) ys (h, a) b = (h, Bytes-append xs ys a b)

pub Bytes-reverse : (xs : List ℕ) → Bytes xs → Bytes (reverse xs)
Bytes-reverse [] b = tt
Bytes-reverse (x ∷ xs) (h, b) = rw reverse-cons (Bytes-append (reverse xs) (x ∷ []) (Bytes-reverse xs b) (h, tt))

-- parts of bytes are bytes
pub Bytes-take : (w : ℕ) (s : List ℕ) → Bytes s → Bytes (take w s)
Bytes-take zero s b = tt
Bytes-take (suc w) [] b = tt
Bytes-take (suc w) (x ∷ s) (h, b) = (h, Bytes-take w s b)

pub Bytes-drop : (n : ℕ) (s : List ℕ) → Bytes s → Bytes (drop n s)
Bytes-drop zero s b = b
Bytes-drop (suc n) [] b = tt
Bytes-drop (suc n) (x ∷ s) (h, b) = Bytes-drop n s b

pub Bytes-part : (s : List ℕ) (at w : ℕ) → Bytes s → Bytes (part s at w)
Bytes-part s at w b = Bytes-take w (drop at s) (Bytes-drop at s b)

pub value_lt : (bs : List ℕ) → Bytes bs → value bs < 256 ^ length bs
value_lt [] b = rw pow-zero (omega arith)
value_lt (x ∷ xs) (h, b) = rw pow-suc (omega (arith, value_lt xs b))

-- a number at a place, written, is the bytes there
pub low_little : (s : List ℕ) (at w : ℕ) → Bytes s → at + w ≤ length s → low_first w (little_endian s at w) ≡ part s at w
low_little s at w b h =
    rw (little_value s at w h) (rw (part_length s at w h) at (low_value (part s at w) (Bytes-part s at w b)))

pub little_lt : (s : List ℕ) (at w : ℕ) → Bytes s → at + w ≤ length s → little_endian s at w < 256 ^ w
little_lt s at w b h = rw (little_value s at w h) (rw (part_length s at w h) at (value_lt (part s at w) (Bytes-part s at w b)))

pub high_big : (s : List ℕ) (at w : ℕ) → Bytes s → at + w ≤ length s → reverse (low_first w (big_endian s at w)) ≡ part s at w
high_big s at w b h =
    let bs : List ℕ = reverse (part s at w) in
    let size : length bs ≡ w = rw length-reverse (part_length s at w h) in
    let back : low_first w (value bs) ≡ bs = rw size at (low_value bs (Bytes-reverse (part s at w) (Bytes-part s at w b))) in
    rw (big_value s at w h, back) (reverse-reverse (part s at w))

pub big_lt : (s : List ℕ) (at w : ℕ) → Bytes s → at + w ≤ length s → big_endian s at w < 256 ^ w
big_lt s at w b h =
    let bs : List ℕ = reverse (part s at w) in
    let size : length bs ≡ w = rw length-reverse (part_length s at w h) in
    rw (big_value s at w h) (rw size at (value_lt bs (Bytes-reverse (part s at w) (Bytes-part s at w b))))

-- what was written at a place is read there
pub little_low : (s : List ℕ) (at w n : ℕ) → at + w ≤ length s → part s at w ≡ low_first w n → n < 256 ^ w → little_endian s at w ≡ n
little_low s at w n h e k = rw (little_value s at w h, e) (value_low w n k)

pub big_high : (s : List ℕ) (at w n : ℕ) → at + w ≤ length s → part s at w ≡ reverse (low_first w n) → n < 256 ^ w → big_endian s at w ≡ n
big_high s at w n h e k = rw (big_value s at w h, e, reverse-reverse) (value_low w n k)
