-- Which messages W11's theorem is about (Commute.antt), and that its conditions matter: just outside them the order of two messages
-- changes a state, and an answer.
use Rattle.std.specs.Prelude.{ℕ, ◌≡◌, true, false, List, [], ◌∷◌, ◌++◌, map}
use Rattle.std.proofs.Math.Option.{Option, none, some}
use Rattle.rules.specs.Answer.{refused, accepted, outcome}
use Rattle.rules.specs.Cells.{empty_cells}
use Rattle.rules.specs.Commute.{of_port_type, ports_differ}
use Rattle.rules.specs.Examples.{up, down, attached, detached, joined, format, asked, answered, value}
use Rattle.rules.specs.Facts.{Facts}
use Rattle.rules.specs.Offer.{Entry, offer_by_cells, cells_after, view_of_cells}

-- a 41 to a port
abbrev pub asked_at : ℕ → Entry
asked_at port = down (0x0A ∷ 0x00 ∷ 0x41 ∷ port ∷ 0x02 ∷ 0x01 ∷ 0x00 ∷ 0x00 ∷ 0x00 ∷ 0x01 ∷ [])

-- 41, both forms of 42, 44, 47 and 48; 41 the wrong way, and nothing at all, both of which reading refuses
abbrev inside : List Entry
inside =
    asked_at 16
    ∷ down (0x05 ∷ 0x00 ∷ 0x42 ∷ 0x00 ∷ 0x06 ∷ [])
    ∷ down (0x07 ∷ 0x00 ∷ 0x42 ∷ 0x00 ∷ 0x01 ∷ 0x00 ∷ 0x10 ∷ [])
    ∷ format 2 1 2
    ∷ answered 2 1 1
    ∷ up (0x07 ∷ 0x00 ∷ 0x48 ∷ 0x00 ∷ 0x00 ∷ 0x00 ∷ 0x00 ∷ [])
    ∷ up (0x0A ∷ 0x00 ∷ 0x41 ∷ 0x00 ∷ 0x02 ∷ 0x01 ∷ 0x00 ∷ 0x00 ∷ 0x00 ∷ 0x01 ∷ [])
    ∷ up []
    ∷ []

-- an attachment, a detachment, a value and a request
abbrev outside : List Entry
outside = attached 0 ∷ detached 0 ∷ value (0x05 ∷ []) ∷ down (0x05 ∷ 0x00 ∷ 0x21 ∷ 0x00 ∷ 0x01 ∷ []) ∷ []

abbrev Conditions : Type 0
Conditions =
    (map of_port_type inside ≡ true ∷ true ∷ true ∷ true ∷ true ∷ true ∷ true ∷ true ∷ [])
    × (map of_port_type outside ≡ false ∷ false ∷ false ∷ false ∷ [])
    -- ports differ or not; they differ from those of what reading refuses
    × (ports_differ (asked_at 0) (answered 2 1 1) ≡ false)
    × (ports_differ (asked_at 1) (answered 2 1 1) ≡ true)
    × (ports_differ (asked_at 0) (up (0x0A ∷ 0x00 ∷ 0x41 ∷ 0x00 ∷ [])) ≡ true)

-- cells after messages, in the order in which they were sent; and so those of a table that began empty
abbrev pub cells_through : List ℕ → List Entry → List ℕ
cells_through cells [] = cells
cells_through cells (e ∷ es) = cells_through (cells_after cells e) es

abbrev through : List Entry → List ℕ
through es = cells_through empty_cells es

abbrev pub state_of : Option Facts → Option ℕ
state_of none = none
state_of (some f) = some f.settings.state

-- a 41 and a 47 to the same port: the state is 2 where the 47 came last, and 1 where the 41 did
abbrev SamePort : Type 0
SamePort =
    (state_of (view_of_cells (through (attached 0 ∷ asked 2 1 1 ∷ answered 2 1 1 ∷ [])) 0) ≡ some 2)
    × (state_of (view_of_cells (through (attached 0 ∷ answered 2 1 1 ∷ asked 2 1 1 ∷ [])) 0) ≡ some 1)

-- a detachment is of another type: that of a member takes its virtual port with it, so that a 41 to the virtual port is refused
-- after it and accepted before
abbrev OtherType : Type 0
OtherType =
    (ports_differ (detached 0) (asked_at 16) ≡ true)
    × (outcome (offer_by_cells (through joined) (asked_at 16)) ≡ accepted tt)
    × (outcome (offer_by_cells (through (joined ++ (detached 0 ∷ []))) (asked_at 16)) ≡ refused 10 0)

abbrev pub OrderExamplesHold : Type 0
OrderExamplesHold = Conditions × SamePort × OtherType
