-- What follows the fields: what was read is written back, and what was written is read back.
use Prim.Native.Nat.{ℕ, zero, suc, ◌+◌, ◌*◌, ◌≤◌, ◌<◌}
use native.Mathlib.Omega.{arith}
use mathlib.Core.Path.{◌≡◌, refl, sym, ◌∙◌, ap}
use mathlib.Core.Bool.{true, ◌&&◌}
use mathlib.Core.List.{List, [], ◌∷◌, ◌++◌}
use mathlib.Core.Option.{Option, none, some}
use borrow.Author.Tests.{lt-ltb, le-ltb, ltb-true}
use lib.Dec.{ltb}
use lib.ListN.{length, replicate}
use Rattle.protocol.specs.Number.{Bytes, little_endian}
use Rattle.protocol.specs.Rule.{any}
use Rattle.protocol.specs.Field.{Field, number, Value, natural, integer, real, widths, values}
use Rattle.protocol.specs.Form.{word, words_from, up_from, read_run}
use Rattle.protocol.specs.Encode.{low_first, holds, field_bytes, good, step_field, wrote, write_fields, write_run, keep}
use Rattle.protocol.proofs.Tests.{and_left}
use Rattle.protocol.proofs.Bytes.{part, low_little, low_length, little_lt, little_low}
use Rattle.protocol.proofs.FieldsTrip.{part_add, write_step, one_step, front_part}
use Rattle.protocol.proofs.FieldTrip.{taken_good}

-- a run that was read had no wrong byte, and has no values
pub run_read : (at : ℕ) (wrong : Option ℕ) (vs : List Value) → read_run at wrong ≡ values vs → (wrong ≡ none) × (vs ≡ [])
run_read at none vs e = (refl, cc)
run_read at (some i) vs e = let z : ◌≡◌ {A = ℕ} 0 1 = cc in absurd (omega arith)

-- a run that was written had none, and is its open bytes
pub run_written : (at : ℕ) (opens : List ℕ) (vs : List Value) (wrong : Option ℕ) (cs : List ℕ) (xs : List Value) → write_run at opens vs wrong ≡ wrote cs xs → (wrong ≡ none) × (opens ≡ cs)
run_written at opens vs none cs xs e = (refl, cc)
run_written at opens vs (some i) cs xs e = let z : ◌≡◌ {A = ℕ} 0 1 = cc in absurd (omega arith)

abbrev pub entry : Field
entry = number 2 any

abbrev pub entries : ℕ → List Field
entries k = replicate k entry

pub entries_widths : (k : ℕ) → widths (entries k) ≡ 2 * k
entries_widths zero = refl
entries_widths (suc k) = rw (entries_widths k) (omega arith)

module _ (s : List ℕ) (b : Bytes s) (at count : ℕ) (h : at + 2 * count ≤ length s) where
  -- the words that were read, from the one at index i on
  pub words_written : (k i n : ℕ) → i + k ≡ count → k ≤ n → (place : ℕ)
      → (rest : List Value) × (write_fields place (entries k) (words_from s at count (up_from i n)) ≡ wrote (part s (at + 2 * i) (2 * k)) rest)
  unfolding word
  words_written zero i n e l place = (words_from s at count (up_from i n), refl)
  words_written (suc k) i zero e l place = absurd (omega arith)
  words_written (suc k) i (suc n) e l place =
      let here : ℕ = little_endian s (at + 2 * i) 2 in
      let is : word s at count i ≡ here = rw (lt-ltb i count (omega arith)) in
      let small : here < 65536 = little_lt s (at + 2 * i) 2 b (omega arith) in
      let rest = words_written k (suc i) n (omega arith) (omega arith) (place + 2) in
      let step : step_field entry (words_from s at count (up_from i (suc n))) ≡ good (part s (at + 2 * i) 2) (words_from s at count (up_from (suc i) n)) =
      rw (is, lt-ltb here 65536 small) (ap (λ (l : List ℕ). good l (words_from s at count (up_from (suc i) n))) (low_little s (at + 2 * i) 2 b (omega arith)))
      in
      let long : 2 * suc k ≡ 2 + 2 * k = omega arith in
      let far : at + 2 * suc i ≡ at + 2 * i + 2 = omega arith in
      let joined : part s (at + 2 * i) 2 ++ part s (at + 2 * suc i) (2 * k) ≡ part s (at + 2 * i) (2 * suc k) = rw (long, far) (sym (part_add s (at + 2 * i) 2 (2 * k))) in (
        rest.0,
        write_step entry (entries k) place (words_from s at count (up_from i (suc n))) (part s (at + 2 * i) 2) (words_from s at count (up_from (suc i) n))
            (wrote (part s (at + 2 * suc i) (2 * k)) rest.0) step rest.1
            ∙ ap (λ (l : List ℕ). wrote l rest.0) joined,
      )

-- the words of values that were written, from the one at index i on: those past the count are 0
abbrev pub Naturals : List Value → Type 0
Naturals [] = Unit {0}
Naturals (natural n ∷ vs) = Naturals vs
Naturals (integer z ∷ vs) = ⊥
Naturals (real x ∷ vs) = ⊥

zeros : (s : List ℕ) (at count i n : ℕ) (vs : List Value) → count ≤ i → length vs ≡ n → words_from s at count (up_from i n) ≡ keep count i vs
unfolding word
zeros s at count i zero [] h e = refl
zeros s at count i zero (v ∷ vs) h e = absurd (omega arith)
zeros s at count i (suc n) [] h e = absurd (omega arith)
zeros s at count i (suc n) (v ∷ vs) h e = rw (le-ltb i count h) (ap (λ (l : List Value). natural 0 ∷ l) (zeros s at count (suc i) n vs (omega arith) (omega arith)))

pub words_read : (s : List ℕ) (at count : ℕ) → at + 2 * count ≤ length s → (k i n : ℕ) (vs : List Value) → Naturals vs → i + k ≡ count → length vs ≡ n → (place : ℕ) (bs : List ℕ) (ws : List Value)
    → write_fields place (entries k) vs ≡ wrote bs ws → part s (at + 2 * i) (2 * k) ≡ bs → words_from s at count (up_from i n) ≡ keep count i vs
unfolding word
words_read s at count h zero i n vs q e m place bs ws w p = zeros s at count i n vs (omega arith) m
words_read s at count h (suc k) i n [] q e m place bs ws w p = let z : ◌≡◌ {A = ℕ} 0 1 = cc in absurd (omega arith)
words_read s at count h (suc k) i zero (v ∷ vs) q e m place bs ws w p = absurd (omega arith)
words_read s at count h (suc k) i (suc n) (natural v ∷ vs) q e m place bs ws w p =
    let r = one_step entry (entries k) place (natural v ∷ vs) bs ws w in
    let t = taken_good entry (natural v ∷ vs) r.first r.left r.first_is in
    let front : natural v ∷ vs ≡ t.value ∷ r.left = t.front in
    let is : natural v ≡ t.value = cc in
    let left : vs ≡ r.left = cc in
    let held : (ltb v 65536 && true) ≡ true = ap (holds entry) is ∙ t.held in
    let bytes : r.first ≡ low_first 2 v = t.bytes ∙ ap (field_bytes entry) (sym is) in
    let long : 2 * suc k ≡ 2 + 2 * k = omega arith in
    let whole : part s (at + 2 * i) (2 + 2 * k) ≡ r.first ++ r.second = ap (part s (at + 2 * i)) (sym long) ∙ p ∙ r.joined in
    let parts = front_part s (at + 2 * i) 2 (2 * k) r.first r.second (ap length bytes ∙ low_length 2 v) whole (omega arith) in
    let here : little_endian s (at + 2 * i) 2 ≡ v = little_low s (at + 2 * i) 2 v (omega arith) (parts.0 ∙ bytes) (ltb-true v 65536 (and_left (ltb v 65536) true held)) in
    let far : at + 2 * suc i ≡ at + 2 * i + 2 = omega arith in
    let rest = words_read s at count h k (suc i) n vs q (omega arith) (omega arith) (place + 2) r.second ws (ap (write_fields (place + 2) (entries k)) left ∙ r.second_is) (ap (λ (a : ℕ). part s a (2 * k)) far ∙ parts.1) in
    rw (lt-ltb i count (omega arith), here) (ap (λ (l : List Value). natural v ∷ l) rest)
words_read s at count h (suc k) i (suc n) (integer z ∷ vs) q e m place bs ws w p = absurd q
words_read s at count h (suc k) i (suc n) (real x ∷ vs) q e m place bs ws w p = absurd q
