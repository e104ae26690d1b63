-- What the program may print of a log.
use Rattle.std.specs.Prelude.{ℕ, ◌≡◌, List}
use Rattle.log_rules.specs.Cutting.{Run, start, printed, ending}
use Rattle.log_rules.specs.Pieces.{after_pieces}

-- what may be written: the lines of some records of some run, or the ending of a log that came in pieces. Of which run they
-- are, and that there are any, it does not say
pub data Printable (text : List ℕ) : Type 0 where
  some_lines : (r : Run) (n : ℕ) → text ≡ printed 128 n r → Printable text
  whole_ending : (pieces : List (List ℕ)) → text ≡ ending (after_pieces 128 start pieces) → Printable text
