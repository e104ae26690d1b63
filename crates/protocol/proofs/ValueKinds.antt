-- The values that reading gives are of the kinds of the form's fields.
use Prim.Native.Nat.{ℕ, zero, suc, ◌+◌, ◌-◌, ◌/◌}
use native.Mathlib.Omega.{arith}
use mathlib.Core.Path.{◌≡◌}
use mathlib.Core.Bool.{Bool, true, false, cond}
use mathlib.Core.List.{List, [], ◌∷◌, ◌++◌}
use lib.Dec.{eqb}
use lib.IntN.{ℤ}
use lib.Ieee.{Float, binary32, of_bits}
use lib.ListN.{length, get_or, drop}
use Rattle.protocol.specs.Number.{little_endian, big_endian, twos_complement, is_finite}
use Rattle.protocol.specs.Field.{Field, number, high_first, signed, float, fixed, Value, natural, integer, real, width, widths, values, same_bytes, read_field, read_fields}
use Rattle.protocol.specs.Field as Field'
use Rattle.protocol.specs.Form.{Form, Rest, nothing, open_run, words, Layout, layout, word, words_from, up_from, wrong_byte, read_rest}
use Rattle.protocol.specs.Decode.{accepted, header, decode_form}
use Rattle.protocol.proofs.FieldTrip.{within_yes}
use Rattle.protocol.proofs.FieldsTrip.{both_read}
use Rattle.protocol.proofs.FormTrip.{was_read}
use Rattle.protocol.proofs.RestTrip.{entries, run_read}

-- something holds of all values of the kinds of fields
abbrev pub Each : List Field → (List Value → Type 0) → Type 0
Each [] P = P []
Each (number w rule ∷ fs) P = (n : ℕ) → Each fs (λ vs. P (natural n ∷ vs))
Each (high_first w ∷ fs) P = (n : ℕ) → Each fs (λ vs. P (natural n ∷ vs))
Each (signed w rule ∷ fs) P = (z : ℤ) → Each fs (λ vs. P (integer z ∷ vs))
Each (float ∷ fs) P = (x : Float) → Each fs (λ vs. P (real x ∷ vs))
Each (fixed bytes ∷ fs) P = Each fs P

-- of what follows the fields
abbrev pub EachRest : Rest → (List Value → Type 0) → Type 0
EachRest nothing P = P []
EachRest (open_run least most run) P = P []
EachRest (words most) P = (count : ℕ) → Each (entries most) (λ vs. P (natural count ∷ vs))

-- of a layout
abbrev pub EachOf : Layout → (List Value → Type 0) → Type 0
EachOf l P = Each l.fields (λ us. EachRest l.rest (λ ws. P (us ++ ws)))

-- a fixed string has no value
pub no_values : (bs s : List ℕ) (at : ℕ) (ws : List Value) → same_bytes s at bs ≡ values ws → ws ≡ []
unfolding same_bytes
no_values [] s at ws e = cc
no_values (b ∷ bs) s at ws e = go (eqb (get_or s at 0) b) e (no_values bs s (at + 1) ws)
  where
    go : (t : Bool) → cond t (same_bytes s (at + 1) bs) (Field'.outside at) ≡ values ws → (same_bytes s (at + 1) bs ≡ values ws → ws ≡ []) → ws ≡ []
    go true k deeper = deeper k
    go false k deeper = let z : ◌≡◌ {A = ℕ} 0 1 = cc in absurd (omega arith)

-- and so of those that were read: of one field
each_field : (f : Field) (fs : List Field) (P : List Value → Type 0) → Each (f ∷ fs) P → (s : List ℕ) (at : ℕ) (us : List Value) → read_field s at f ≡ values us → Each fs (λ vs. P (us ++ vs))
each_field (number w rule) fs P all s at us e =
    let n : ℕ = little_endian s at w in
    rw (within_yes (rule n) at (natural n) us e).1 (all n)
each_field (high_first w) fs P all s at us e = let is : us ≡ natural (big_endian s at w) ∷ [] = cc in rw is (all (big_endian s at w))
each_field (signed w rule) fs P all s at us e =
    let z : ℤ = twos_complement w (little_endian s at w) in
    rw (within_yes (rule z) at (integer z) us e).1 (all z)
each_field float fs P all s at us e =
    let x : Float = of_bits binary32 (little_endian s at 4) in
    rw (within_yes (is_finite x) at (real x) us e).1 (all x)
each_field (fixed bytes) fs P all s at us e = rw (no_values bytes s at us e) all

-- of fields
each_read : (fs : List Field) (P : List Value → Type 0) → Each fs P → (s : List ℕ) (at : ℕ) (vs : List Value) → read_fields s at fs ≡ values vs → P vs
each_read [] P all s at vs e = let none : vs ≡ [] = cc in rw none all
each_read (f ∷ fs) P all s at vs e =
    let b = both_read (read_field s at f) (read_fields s (at + width f) fs) vs e in
    rw b.joined
    (each_read fs (λ us. P (b.first ++ us)) (each_field f fs P all s at b.first b.first_is) s (at + width f) b.second b.second_is)

-- of words
each_word : (n : ℕ) (P : List Value → Type 0) → Each (entries n) P → (s : List ℕ) (at count i : ℕ) → P (words_from s at count (up_from i n))
each_word zero P all s at count i = all
each_word (suc n) P all s at count i = each_word n (λ us. P (natural (word s at count i) ∷ us)) (all (word s at count i)) s at count (suc i)

-- of what follows the fields
each_rest : (r : Rest) (P : List Value → Type 0) → EachRest r P → (s : List ℕ) (at : ℕ) (vs : List Value) → read_rest s at r ≡ values vs → P vs
each_rest nothing P all s at vs e = let none : vs ≡ [] = cc in rw none all
each_rest (open_run least most run) P all s at vs e = rw (run_read at (wrong_byte run (drop at s)) vs e).1 all
each_rest (words most) P all s at vs e =
    let count : ℕ = (length s - at) / 2 in
    let is : vs ≡ natural count ∷ words_from s at count (up_from 0 most) = cc in
    rw is (each_word most (λ us. P (natural count ∷ us)) (all count) s at count 0)

-- of a form
pub each_accepted : (f : Form) (P : List Value → Type 0) → EachOf (layout f) P → (s : List ℕ) (vs : List Value) → decode_form f s ≡ accepted f vs → P vs
each_accepted f P all s vs e =
    let both = (was_read f s vs e).both in
    let end : ℕ = header + widths (layout f).fields in
    let rest = each_read (layout f).fields (λ us. EachRest (layout f).rest (λ ws. P (us ++ ws))) all s header both.first both.first_is in
    rw both.joined (each_rest (layout f).rest (λ ws. P (both.first ++ ws)) rest s end both.second both.second_is)
