-- What asking for a port answers: 9 where the table isn't sound, else what it says of the port, its formats left out; none
-- where the port isn't present. Then document 01's answer for a result of the code.
use Rattle.std.specs.Prelude as Code
use Rattle.std.specs.Prelude.{ℕ, ◌+◌, ◌<◌, ◌≡◌, cond, List, ◌++◌, length, drop, Some, None, Result, Ok, Err}
use Rattle.std.proofs.Math.Option.{Option, none, some}
use Rattle.protocol.specs.declared.refusal.Refusal.{Refusal}
use Rattle.rules.specs.Answer.{Answer, refused, accepted, answered}
use Rattle.rules.specs.Layout.{places, table_size, asked_index, answered_index, list_index, taken_index}
use Rattle.rules.specs.Facts.{Asking, asked_single, asked_combined, Answering, answered_single, answered_combined, Facts}
use Rattle.rules.specs.Cells.{asked_at, answered_at, taken_by, list_cells, sound}
use Rattle.rules.specs.Offer.{view_of_cells}
use Rattle.rules.specs.declared.Wiring.{Wiring}
use Rattle.soundness.specs.Place.{place_at_index, cell_of, entries_here, list_here}
use Rattle.queries.specs.Options.{option_of}
use Rattle.queries.specs.declared.query.Asking as Asked
use Rattle.queries.specs.declared.query.Asking.TheVariants as Asked'
use Rattle.queries.specs.declared.query.Answering as Answered
use Rattle.queries.specs.declared.query.Answering.TheVariants as Answered'
use Rattle.queries.specs.declared.query.Port.{Port}

pub record PortFacts : Type 0 where
  pub device : ℕ
  pub wiring : Wiring
  pub answered : Option Answering
  pub asked : Option Asking
  -- that the port keeps
  pub list : Option (List ℕ)
  pub state : ℕ
  -- that came with the latest asking; 0 before any
  pub experiment : ℕ

abbrev pub port_facts : Option Facts → Option PortFacts
port_facts none = none
port_facts (some f) =
    let s = f.settings in
    some (record { device = f.device; wiring = f.wiring; answered = s.answered; asked = s.asked; list = s.list; state = s.state; experiment = s.experiment })

unfoldable pub port_by_cells : List ℕ → ℕ → Answer (Option PortFacts)
port_by_cells cells port = cond (sound cells) (accepted (port_facts (view_of_cells cells port))) (refused 9 0)

abbrev pub asking_in : Asked.Asking → Asking
asking_in (Asked'.Single s) = asked_single s
asking_in Asked'.Combined = asked_combined

abbrev pub asking_of : Code.Option Asked.Asking → Option Asking
asking_of = option_of asking_in

-- with the list that a 48 took over
abbrev pub answering_in : List ℕ → Answered.Answering → Answering
answering_in taken (Answered'.Single s) = answered_single s
answering_in taken (Answered'.Combined p) = answered_combined p taken

abbrev pub answering_of : Code.Option Answered.Answering → List ℕ → Option Answering
answering_of x taken = option_of (answering_in taken) x

-- the lists stand in the cells of the port's place
abbrev pub facts_of : List ℕ → Port → PortFacts
facts_of cells p =
    record { device = p.device; wiring = p.wiring; answered = answering_of p.answered (entries_here cells p.place taken_index); asked = asking_of p.asked; list = list_here cells p.place list_index; state = p.state; experiment = p.experiment }

abbrev pub answer_of : List ℕ → Result (Code.Option Port) Refusal → Answer (Option PortFacts)
answer_of cells = answered (option_of (facts_of cells))

-- the last cells of the place, from an index on, are those of the two lists
pub record Lists (cells : List ℕ) (place : ℕ) (kept taken : Option (List ℕ)) : Type 0 where
  pub size : length cells ≡ table_size
  pub inside : place < places
  pub exact : drop list_index (place_at_index cells place) ≡ list_cells kept ++ list_cells taken

abbrev pub lists_of : List ℕ → Code.Option Port → Type 0
lists_of cells None = Unit {0}
lists_of cells (Some p) = Lists cells p.place (list_here cells p.place list_index) (taken_by (answering_of p.answered (entries_here cells p.place taken_index)))

abbrev pub lists_stand : List ℕ → Result (Code.Option Port) Refusal → Type 0
lists_stand cells (Ok p) = lists_of cells p
lists_stand cells (Err r) = Unit {0}

-- ---- what the cells of a place stand for

abbrev pub asked_here : List ℕ → ℕ → Option Asking
asked_here cells i = asked_at (cell_of cells i asked_index) (cell_of cells i (asked_index + 1)) (cell_of cells i (asked_index + 2))

abbrev pub answered_here : List ℕ → ℕ → Option Answering
answered_here cells i = answered_at (cell_of cells i answered_index) (cell_of cells i (answered_index + 1)) (cell_of cells i (answered_index + 2)) (entries_here cells i taken_index)
