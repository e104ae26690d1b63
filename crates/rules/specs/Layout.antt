-- Sizes, and where each number of a record lies among the cells of its place.
use Rattle.std.specs.Prelude.{ℕ, suc, ◌*◌}
use Rattle.protocol.specs.Form.{last_mode}

-- ports are below it
abbrev pub port_count : ℕ
port_count = 256

-- modes are below it
abbrev pub mode_count : ℕ
mode_count = suc last_mode

-- experiment numbers are below it
abbrev pub experiment_count : ℕ
experiment_count = 65536

-- records of a table
abbrev pub places : ℕ
places = 16

-- cells of a place
abbrev pub stride : ℕ
stride = 63

-- cells of a table
abbrev pub table_size : ℕ
table_size = places * stride

-- 0 free, 1 physical and unjoined, 2 physical and joined, 3 virtual
abbrev pub wiring_index : ℕ
wiring_index = 0

abbrev pub port_index : ℕ
port_index = 1

abbrev pub device_index : ℕ
device_index = 2

-- a joined port's virtual port, or a virtual port's first member
abbrev pub first_index : ℕ
first_index = 3

-- a virtual port's second member
abbrev pub second_index : ℕ
second_index = 4

abbrev pub state_index : ℕ
state_index = 5

-- the latest asking: of a 41 the mode plus one, the delta, the notify; of a list 17, 0, 0; 0, 0, 0 before any
abbrev pub asked_index : ℕ
asked_index = 6

-- the experiment number that came with it; 0 before any
abbrev pub experiment_index : ℕ
experiment_index = 9

-- the latest answer: of a 47 the mode plus one, the delta, the notify; of a 48 17, the pointers, 0; 0, 0, 0 before any
abbrev pub answered_index : ℕ
answered_index = 10

-- the first of sixteen, by mode: 0 none, else the format's four bytes, the first the least significant
abbrev pub formats_index : ℕ
formats_index = 13

-- a list of modes and datasets: how many entries it has, 0 where there is none; then sixteen cells, an entry each and zeros
-- after them. First the one that the port keeps, then the one that its 48 took over
abbrev pub list_index : ℕ
list_index = 29

abbrev pub taken_index : ℕ
taken_index = 46
