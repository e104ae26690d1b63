use Prim.Native.Nat.{ℕ}
use mathlib.Core.Path.{◌≡◌, ◌∙◌, ap}
use mathlib.Core.List.{List}
use lib.ListN.{length}
use Rattle.protocol.specs.Decode as Decode
use Rattle.protocol.specs.Decode.{decode, open_part}
use Rattle.protocol.specs.declared.Way.{Way}
use Rattle.answers.proofs.Fills.{numbered_as}
use Rattle.castanetash.specs.Answers.{reading_row, read_answer}
use Rattle.castanetash.proofs.OpenPart.{open_short}
use Rattle.castanetash.proofs.messages.castanetash_read.Goals as goal

-- the row of a reading, where its parts are known by equations
row_of : (s : List ℕ) {way asked : Way} {count : ℕ} {a : Decode.Answer} → way ≡ asked → count ≡ length (open_part way s) → a ≡ decode way s → reading_row (length s) count a ≡ read_answer asked s
unfolding read_answer
row_of s same n e = (λ i. reading_row (length s) (n i) (e i)) ∙ ap (λ (w : Way). read_answer w s) same

pub put_reading-requires : goal.put_reading-requires
put_reading-requires c = rw c.open_part-open.ensures (open_short _ _)

pub returns : goal.returns
returns c =
    let a = c.args in
    numbered_as a.row.now (row_of a.message.now c.way_of-w.ensures (ap length c.open_part-open.ensures) c.read-reading.ensures) c.call_number.ensures c.put_reading.ensures
