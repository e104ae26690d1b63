-- A record and the table: a malformed one is 19, any other is its message; every record keeps a sound table sound.
use Prim.Native.Nat.{ℕ, zero, suc, ◌<◌}
use native.Mathlib.Omega.{arith}
use mathlib.Core.Path.{◌≡◌, sym, ◌∙◌, ap}
use mathlib.Core.Bool.{Bool, true, false, cond}
use mathlib.Core.List.{List, [], ◌∷◌}
use borrow.Author.Tests.{lt-ltb}
use lib.ListN.{get_or, drop}
use Rattle.protocol.specs.Number.{Bytes, little_endian}
use Rattle.protocol.specs.declared.Way.{Way}
use Rattle.protocol.proofs.Bytes.{Bytes-take, Bytes-drop}
use Rattle.rules.specs.Cells.{sound}
use Rattle.rules.specs.Demand3.{EntryFits}
use Rattle.rules.specs.Layout.{experiment_count}
use Rattle.rules.specs.Offer.{cells_after}
use Rattle.rules.proofs.Laws.{step_keeps_sound}
use Rattle.rules.proofs.SettingsFit.{either_way}
use Rattle.log_rules.specs.Line.{refused, entry_line, record_line, cells_after_record}
use Rattle.log_rules.specs.Record.{front, entry_of, malformed, message_size, message_in, experiment_in, way_of}

module _ (part : ℕ) (cells s : List ℕ) where
  pub record_19 : malformed part s ≡ true → refused 19 ≡ record_line part cells s
  unfolding record_line
  record_19 e = sym (ap (λ (b : Bool). cond b (refused 19) (entry_line cells (entry_of part s))) e)

  pub cells_19 : malformed part s ≡ true → cells ≡ cells_after_record part cells s
  unfolding cells_after_record
  cells_19 e = sym (ap (λ (b : Bool). cond b cells (cells_after cells (entry_of part s))) e)

  module _ (well : malformed part s ≡ false) (way : Way) (message : List ℕ) (experiment : ℕ) (way-is : way ≡ way_of (get_or s 4 0)) (message-is : message ≡ message_in part s) (experiment-is : experiment ≡ experiment_in s) where
    pub record_entry : entry_line cells (record { way = way; bytes = message; experiment = experiment }) ≡ record_line part cells s
    unfolding record_line
    record_entry = sym (ap (λ (b : Bool). cond b (refused 19) (entry_line cells (entry_of part s))) well ∙ (λ i. entry_line cells (record { way = sym way-is i; bytes = sym message-is i; experiment = sym experiment-is i })))

    pub cells_entry : (after : List ℕ) → after ≡ cells_after cells (record { way = way; bytes = message; experiment = experiment }) → after ≡ cells_after_record part cells s
    unfolding cells_after_record
    cells_entry after k = k ∙ sym (ap (λ (b : Bool). cond b cells (cells_after cells (entry_of part s))) well ∙ (λ i. cells_after cells (record { way = sym way-is i; bytes = sym message-is i; experiment = sym experiment-is i })))

-- ---- the entry of bytes

byte_at : (s : List ℕ) → Bytes s → (k : ℕ) → get_or s k 0 < 256
byte_at [] b k = omega arith
byte_at (x ∷ xs) b zero = b.0
byte_at (x ∷ xs) b (suc k) = byte_at xs b.1 k

pub entry_fits_lem : (part : ℕ) (s : List ℕ) → Bytes s → EntryFits (entry_of part s)
unfolding message_in experiment_in little_endian
entry_fits_lem part s b = (Bytes-take (message_size part s) (drop front s) (Bytes-drop front s b), lt-ltb (experiment_in s) experiment_count (omega (arith, byte_at s b 6, byte_at s b 7)))

pub record_keeps_sound : (part : ℕ) (cells s : List ℕ) → Bytes s → sound cells ≡ true → sound (cells_after_record part cells s) ≡ true
unfolding cells_after_record
record_keeps_sound part cells s b good =
    either_way (λ (c : List ℕ). sound c ≡ true) (malformed part s) cells (cells_after cells (entry_of part s)) good (step_keeps_sound cells (entry_of part s) (entry_fits_lem part s b) good)
