-- The laws of the log.
use Prim.Native.Nat.{ℕ, ◌+◌}
use mathlib.Core.Path.{◌≡◌, ◌∙◌, ap}
use mathlib.Core.List.{List, ◌++◌}
use native.Mathlib.Nat.{zero-add}
use native.Mathlib.Omega.{arith}
use lib.ListN.{length}
use Rattle.log_rules.specs.Line.{Line}
use Rattle.log_rules.specs.Output.{all_lines, numbered, refused_among, total_text, output}
use Rattle.log_rules.specs.Cutting.{start, whole_input}
use Rattle.log_rules.specs.Pieces.{joined}
use Rattle.log_rules.specs.Laws.{AnyCutting, BlockAfterBlock, PieceByPiece, NumberlessLog}
use Rattle.log_rules.proofs.Cutting.{output_from, any_cutting_from}
use Rattle.log_rules.proofs.Numberless.{numberless}
use Rattle.log_rules.proofs.Pieces.{blocks_run, blocks_text, pieces_from}

-- the output of a start
from_start : (part : ℕ) (s : List ℕ) → output_from part start s ≡ output part s
unfolding output all_lines
from_start part s =
    let ls : List Line = all_lines part s in
    ap (λ (n : ℕ). numbered 0 ls ++ total_text n (0 + refused_among ls)) (zero-add (length ls))
    ∙ ap (λ (n : ℕ). numbered 0 ls ++ total_text (length ls) n) (zero-add (refused_among ls))

pub any_cutting : AnyCutting
any_cutting part steps h = any_cutting_from part start steps h ∙ from_start part (whole_input steps)

pub block_after_block : BlockAfterBlock
block_after_block part n m r = (blocks_run part n m r, blocks_text part n m r)

pub piece_by_piece : PieceByPiece
piece_by_piece part pieces = pieces_from part start pieces (omega arith) ∙ from_start part (joined pieces)

pub numberless_log : NumberlessLog
numberless_log = numberless
