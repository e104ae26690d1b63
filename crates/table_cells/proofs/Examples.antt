-- The examples of rows, by computing.
use mathlib.Core.Path.{refl}
use lib.Ieee.{to_bits}
use Rattle.rules.specs.Cells.{list_cells}
use Rattle.table_cells.specs.Examples.{DatasetRows, PortRows}

pub dataset_rows_lem : DatasetRows
unfolding to_bits
dataset_rows_lem = (refl, refl)

pub port_rows : PortRows
unfolding list_cells
port_rows = (refl, refl)
