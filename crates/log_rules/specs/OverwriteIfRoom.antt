-- Text put over the bytes of an output where there is room.
use Rattle.std.specs.Prelude.{ℕ, ◌+◌, cond, List, leb, length}
use Rattle.protocol.specs.Overwrite.{overwrite}

-- over those from an index on; unchanged where it does not fit
unfoldable pub overwrite_if_room : List ℕ → ℕ → List ℕ → List ℕ
overwrite_if_room out at text = cond (leb (at + length text) (length out)) (overwrite out at text) out
