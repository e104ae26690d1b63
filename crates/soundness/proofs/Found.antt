-- What the answer of a search for a place says of the table.
use Prim.Native.Nat.{ℕ}
use native.Mathlib.Omega.{arith}
use mathlib.Core.Path.{◌≡◌, sym, ◌∙◌, ap}
use mathlib.Core.Bool.{true}
use mathlib.Core.List.{List}
use borrow.Author.Tests.{ne_eqb}
use lib.ListN.{length}
use Rattle.std.specs.Prelude.{Option, Some, None, is_some, is_none, IsSome, unwrap_or}
use Rattle.rules.specs.Layout.{places, table_size}
use Rattle.rules.specs.Facts.{known}
use Rattle.rules.specs.Table.{view_of_table, full_table}
use Rattle.rules.specs.Cells.{table_at}
use Rattle.soundness.specs.Place.{find_place, free_place}
use Rattle.soundness.specs.Found.{Finds}
use Rattle.soundness.proofs.Places.{found, nowhere, facts_some, free_is}

-- the place, or the number of places
pub place_or_end : (n : ℕ) (r : Option ℕ) → Finds n r → unwrap_or r places ≡ n
place_or_end n None e = e
place_or_end n (Some i) e = e.1

module _ (cells : List ℕ) (size : length cells ≡ table_size) where
  -- a port is found where it is present
  pub is_known : (port : ℕ) (r : Option ℕ) → Finds (find_place cells port) r → is_some r ≡ known (view_of_table (table_at cells) port)
  is_known port None e = sym (ap known (found cells size port places e ∙ nowhere cells))
  is_known port (Some i) e = sym (ap known (found cells size port i e.1 ∙ facts_some cells i e.0))

  pub known_found : (port : ℕ) (r : Option ℕ) → Finds (find_place cells port) r → known (view_of_table (table_at cells) port) ≡ true → IsSome r
  known_found port r e k = is_known port r e ∙ k

  -- no place is free where the table is full
  pub is_full : (r : Option ℕ) → Finds (free_place cells) r → is_none r ≡ full_table (table_at cells)
  is_full None e = sym (free_is cells size places e)
  is_full (Some i) e = sym (free_is cells size i e.1 ∙ ne_eqb i places (λ k. omega (arith, k, e.0)))
