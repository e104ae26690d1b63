-- What is known of a port, and a view: what is known of each port.
use Rattle.std.specs.Prelude.{ℕ, Bool, true, false, ◌&&◌, List, [], ◌∷◌, eqb}
use Rattle.std.proofs.Math.Option.{Option, none, some}
pub use Rattle.rules.specs.declared.Setup.{Setup}
pub use Rattle.rules.specs.declared.Format.{Format}
pub use Rattle.rules.specs.declared.Wiring.{Wiring}
pub use Rattle.rules.specs.declared.Wiring.TheVariants.{Unjoined, Joined, Virtual}

-- an asking: a 41, or a 42's list, which the port keeps
pub data Asking : Type 0 where
  asked_single : Setup → Asking
  asked_combined : Asking

-- an answer: a 47, or a 48 with its pointers and the list that it took over
pub data Answering : Type 0 where
  answered_single : Setup → Answering
  answered_combined : ℕ → List ℕ → Answering

-- what a port was told since its attachment
pub record Settings : Type 0 where
  -- by mode
  pub formats : ℕ → Option Format
  -- the last 47 or 48, and the last asking
  pub answered : Option Answering
  pub asked : Option Asking
  -- the last list, a byte an entry: mode in the high half, dataset in the low
  pub list : Option (List ℕ)
  -- 0 nothing asked; 1 asked, no 47 or 48 since; 2 the latest 47 came after the latest 41 with equal mode, delta and notify, or
  -- the latest 48 after the latest list, whose entries are all that its pointers name; 3 it came after the latest asking and
  -- differs
  pub state : ℕ
  -- the experiment number that came with the last asking; 0 before any
  pub experiment : ℕ

pub record Facts : Type 0 where
  pub device : ℕ
  pub wiring : Wiring
  pub settings : Settings

-- by port; none where the port is not present
abbrev pub View : Type 0
View = ℕ → Option Facts

-- by what a port's values are read: by the mode of its 47; or, in place of a mode, by the pointers and the list of its 48
pub data Mode : Type 0 where
  single : ℕ → Mode
  combined : ℕ → List ℕ → Mode

-- by port; none where it has none yet
abbrev pub Modes : Type 0
Modes = ℕ → Option Mode

-- what judging looks at: what is known of each port, its mode, and whether sixteen ports are present
pub record Ports : Type 0 where
  pub view : View
  pub modes : Modes
  pub full : Bool

abbrev pub mode_in : Option Answering → Option Mode
mode_in none = none
mode_in (some (answered_single s)) = some (single s.mode)
mode_in (some (answered_combined p list)) = some (combined p list)

abbrev pub known : Option Facts → Bool
known none = false
known (some f) = true

abbrev pub is_unjoined : Wiring → Bool
is_unjoined Unjoined = true
is_unjoined (Joined v) = false
is_unjoined (Virtual a b) = false

-- document 01's physical ports are the others
abbrev pub is_virtual : Wiring → Bool
is_virtual Unjoined = false
is_virtual (Joined v) = false
is_virtual (Virtual a b) = true

-- whether two lists of numbers are equal
abbrev pub same_list : List ℕ → List ℕ → Bool
same_list [] [] = true
same_list [] (d ∷ ds) = false
same_list (c ∷ cs) [] = false
same_list (c ∷ cs) (d ∷ ds) = eqb c d && same_list cs ds
