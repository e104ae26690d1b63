-- Text put over the bytes of an output where there is room, piece after piece.
use Prim.Native.Nat.{ℕ, suc, ◌+◌, ◌≤◌, ◌<◌}
use native.Mathlib.Nat.{add-zero}
use native.Mathlib.Omega.{arith}
use mathlib.Core.Path.{◌≡◌, sym, ◌∙◌, ap}
use mathlib.Core.Bool.{Bool, cond}
use mathlib.Core.List.{List, [], ◌∷◌, ◌++◌}
use lib.ListN.{length, set, length-append}
use borrow.Author.Tests.{le-leb, lt-leb}
use Rattle.protocol.specs.Overwrite.{overwrite}
use Rattle.protocol.proofs.Overwrite.{overwrite_length, overwrite_nothing, overwrite_then, overwrite_before}
use Rattle.log_rules.specs.OverwriteIfRoom.{overwrite_if_room}

-- where there is room, and where not

pub if_room : (d : List ℕ) (at : ℕ) (s : List ℕ) → at + length s ≤ length d → overwrite_if_room d at s ≡ overwrite d at s
unfolding overwrite_if_room
if_room d at s h = ap (λ (t : Bool). cond t (overwrite d at s) d) (le-leb (at + length s) (length d) h)

pub if_no_room : (d : List ℕ) (at : ℕ) (s : List ℕ) → length d < at + length s → overwrite_if_room d at s ≡ d
unfolding overwrite_if_room
if_no_room d at s h = ap (λ (t : Bool). cond t (overwrite d at s) d) (lt-leb (at + length s) (length d) h)

-- one byte
pub if_room_byte : (d : List ℕ) (at b : ℕ) → at < length d → set d at b ≡ overwrite_if_room d at (b ∷ [])
if_room_byte d at b h = ap (λ (l : List ℕ). set l at b) (sym (overwrite_nothing d (suc at))) ∙ overwrite_before d at b [] (omega arith) ∙ sym (if_room d at (b ∷ []) (omega arith))

pub if_no_room_byte : (d : List ℕ) (at b : ℕ) → length d ≤ at → d ≡ overwrite_if_room d at (b ∷ [])
if_no_room_byte d at b h = sym (if_no_room d at (b ∷ []) (omega arith))

-- ---- a text put from an index on, and the index after it

pub record Filled (d : List ℕ) (at : ℕ) (s out : List ℕ) (end : ℕ) : Type 0 where
  pub done : out ≡ overwrite d at s
  pub place : end ≡ at + length s
  pub room : end ≤ length d

pub filled_none : (d : List ℕ) (at : ℕ) → at ≤ length d → Filled d at [] d at
filled_none d at h = record { done = sym (overwrite_nothing d at); place = sym (add-zero at); room = h }

module _ {d : List ℕ} {at : ℕ} {s out : List ℕ} {end : ℕ} (p : Filled d at s out end) where
  pub filled_length : length out ≡ length d
  filled_length = ap length p.done ∙ overwrite_length d at s (omega (arith, p.place, p.room))

  -- more after it
  pub filled_more : (t : List ℕ) {next : List ℕ} {stop : ℕ} → next ≡ overwrite_if_room out end t → stop ≡ end + length t → stop ≤ length d → Filled d at (s ++ t) next stop
  filled_more t {next} {stop} e q h =
      record {
        done =
            e ∙ if_room out end t (omega (arith, filled_length)) ∙ ap (λ (l : List ℕ). overwrite l end t) p.done ∙ ap (λ (k : ℕ). overwrite (overwrite d at s) k t) p.place
            ∙ overwrite_then d at s t (omega (arith, p.place, p.room));
        place = omega (arith, p.place, length-append s t);
        room = h;
      }
