-- Bytes put over those of an output.
use Rattle.std.specs.Prelude.{ℕ, ◌+◌, List, ◌++◌, length, take, drop}

-- the bytes of `out` with `bytes` put over those from index `at` on
unfoldable pub overwrite : List ℕ → ℕ → List ℕ → List ℕ
overwrite out at bytes = take at out ++ bytes ++ drop (at + length bytes) out
