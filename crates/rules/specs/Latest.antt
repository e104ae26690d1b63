-- The reader without a table: a port's settings, from the changes that it was told since its attachment, the latest first. There are no
-- ports here, and nothing of the table's.
use Rattle.std.specs.Prelude.{ℕ, ◌/◌, ◌%◌, Bool, cond, not, ◌&&◌, ◌||◌, List, [], ◌∷◌, eqb}
use Rattle.std.proofs.Math.Option.{Option, none, some}
use Rattle.rules.specs.Effect.{Unchanged, Formatted, Answered, Asked, Listed, Combined, Told, told}
use Rattle.rules.specs.Facts.{Setup, Format, Asking, asked_single, asked_combined, Answering, answered_single, answered_combined, Settings}

abbrev pub or_else : {A : Type 0} → Option A → Option A → Option A
or_else none b = b
or_else (some a) b = some a

-- what the latest change says that says anything
abbrev pub latest : {A : Type 0} → (Told → Option A) → List Told → Option A
latest pick [] = none
latest pick (c ∷ changes) = or_else (pick c) (latest pick changes)

-- what one change says: a mode's format, a list, an asking
abbrev pub format_for : ℕ → Told → Option Format
format_for mode (told Unchanged opens) = none
format_for mode (told (Formatted m f) opens) = cond (eqb m mode) (some f) none
format_for mode (told (Answered s) opens) = none
format_for mode (told (Asked s n) opens) = none
format_for mode (told (Listed n) opens) = none
format_for mode (told (Combined p) opens) = none

abbrev pub listing : Told → Option (List ℕ)
listing (told Unchanged opens) = none
listing (told (Formatted m f) opens) = none
listing (told (Answered s) opens) = none
listing (told (Asked s n) opens) = none
listing (told (Listed n) opens) = some opens
listing (told (Combined p) opens) = none

abbrev pub asking : Told → Option Asking
asking (told Unchanged opens) = none
asking (told (Formatted m f) opens) = none
asking (told (Answered s) opens) = none
asking (told (Asked s n) opens) = some (asked_single s)
asking (told (Listed n) opens) = some asked_combined
asking (told (Combined p) opens) = none

-- and the experiment number that came with an asking
abbrev pub asking_number : Told → Option ℕ
asking_number (told Unchanged opens) = none
asking_number (told (Formatted m f) opens) = none
asking_number (told (Answered s) opens) = none
asking_number (told (Asked s n) opens) = some n
asking_number (told (Listed n) opens) = some n
asking_number (told (Combined p) opens) = none

-- 0 before any
abbrev pub or_zero : Option ℕ → ℕ
or_zero none = 0
or_zero (some n) = n

-- a 48 with the latest list before it
abbrev pub with_list : ℕ → Option (List ℕ) → Option Answering
with_list p none = none
with_list p (some list) = some (answered_combined p list)

-- an answer, with the changes before it
abbrev pub answer : Told → List Told → Option Answering
answer (told Unchanged opens) before = none
answer (told (Formatted m f) opens) before = none
answer (told (Answered s) opens) before = some (answered_single s)
answer (told (Asked s n) opens) before = none
answer (told (Listed n) opens) before = none
answer (told (Combined p) opens) before = with_list p (latest listing before)

-- the latest 47 or 48
abbrev pub latest_answer : List Told → Option Answering
latest_answer [] = none
latest_answer (c ∷ changes) = or_else (answer c changes) (latest_answer changes)

-- and the latest that came after the latest asking
abbrev pub unless_asking : Option Asking → Option Answering → Option Answering
unless_asking none a = a
unless_asking (some x) a = none

abbrev pub answer_since : List Told → Option Answering
answer_since [] = none
answer_since (c ∷ changes) = unless_asking (asking c) (or_else (answer c changes) (answer_since changes))

-- mode, delta and notify are compared here by themselves, so that a slip in the table's comparison is no slip here
abbrev pub differs : Setup → Setup → Bool
differs s t = not (eqb s.mode t.mode) || not (eqb s.delta t.delta) || not (eqb s.notify t.notify)

-- and so are pointers: each entry has its pointer, the lowest bit first, and none is left over
abbrev pub names_all : ℕ → List ℕ → Bool
names_all p [] = eqb p 0
names_all p (e ∷ list) = eqb (p % 2) 1 && names_all (p / 2) list

-- by the latest asking and the latest answer after it: 0 nothing asked; 1 no answer; 2 it is as asked; 3 it differs
abbrev pub state_by : Option Asking → Option Answering → ℕ
state_by none answered = 0
state_by (some x) none = 1
state_by (some (asked_single s)) (some (answered_single t)) = cond (differs s t) 3 2
state_by (some (asked_single s)) (some (answered_combined p list)) = 3
state_by (some asked_combined) (some (answered_single t)) = 3
state_by (some asked_combined) (some (answered_combined p list)) = cond (names_all p list) 2 3

unfoldable pub settings_of : List Told → Settings
settings_of changes = record {
  formats = λ mode. latest (format_for mode) changes;
  answered = latest_answer changes;
  asked = latest asking changes;
  list = latest listing changes;
  state = state_by (latest asking changes) (answer_since changes);
  experiment = or_zero (latest asking_number changes);
}
