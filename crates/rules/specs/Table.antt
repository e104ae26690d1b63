-- The port table: sixteen places, each free or with a record, and what an accepted message changes.
use Rattle.std.specs.Prelude.{ℕ, Bool, true, false, cond, List, [], ◌∷◌, map, eqb}
use Rattle.std.proofs.Math.Option.{Option, none, some}
use Rattle.rules.specs.Effect.{Effect, Nothing, ToPort, Attach, AttachVirtual, Detach, Value, Disconnect, Connect, Empty, ToVirtual, Feedback, CombinedValue}
use Rattle.rules.specs.Facts.{Settings, Wiring, Unjoined, Joined, Virtual, Facts, View, Mode, Modes, Ports, mode_in}
use Rattle.rules.specs.Learn.{bare_settings, learn}

pub record Record : Type 0 where
  pub port : ℕ
  pub facts : Facts

abbrev pub Table : Type 0
Table = List (Option Record)

-- no place is free
abbrev pub full_table : Table → Bool
full_table [] = true
full_table (none ∷ t) = false
full_table (some r ∷ t) = full_table t

-- what is known of a port
abbrev pub view_of_table : Table → View
view_of_table [] port = none
view_of_table (none ∷ t) port = view_of_table t port
view_of_table (some r ∷ t) port = cond (eqb r.port port) (some r.facts) (view_of_table t port)

-- a value takes the latest 47's mode; a 48 has its list in place of one
abbrev pub mode_by : Option Facts → Option Mode
mode_by none = none
mode_by (some f) = mode_in f.settings.answered

abbrev pub modes_of_table : Table → Modes
modes_of_table t port = mode_by (view_of_table t port)

abbrev pub ports_of_table : Table → Ports
ports_of_table t = record { view = view_of_table t; modes = modes_of_table t; full = full_table t }

-- the three changes of which every other is made: a new record takes the lowest free place; the facts of a port change; a
-- port's place is freed
abbrev pub insert : Record → Table → Table
insert new [] = []
insert new (none ∷ t) = some new ∷ t
insert new (some r ∷ t) = some r ∷ insert new t

abbrev pub changed : ℕ → (Facts → Facts) → Record → Record
changed port change r = record { port = r.port; facts = cond (eqb r.port port) (change r.facts) r.facts }

abbrev pub change : ℕ → (Facts → Facts) → Table → Table
change port f [] = []
change port f (none ∷ t) = none ∷ change port f t
change port f (some r ∷ t) = some (changed port f r) ∷ change port f t

abbrev pub remove : ℕ → Table → Table
remove port [] = []
remove port (none ∷ t) = none ∷ remove port t
remove port (some r ∷ t) = cond (eqb r.port port) none (some r) ∷ remove port t

-- document 01's bare record: a port that has just been attached
abbrev pub bare : ℕ → Wiring → Facts
bare device wiring = record { device = device; wiring = wiring; settings = bare_settings }

abbrev pub new_record : ℕ → ℕ → Wiring → Record
new_record port device wiring = record { port = port; facts = bare device wiring }

abbrev pub wired : Wiring → Facts → Facts
wired w f = record { device = f.device; wiring = w; settings = f.settings }

abbrev pub on_settings : (Settings → Settings) → Facts → Facts
on_settings g f = record { device = f.device; wiring = f.wiring; settings = g f.settings }

-- the members of a virtual port are freed, and it goes
abbrev pub dissolve : ℕ → ℕ → ℕ → Table → Table
dissolve port a b t = remove port (change b (wired Unjoined) (change a (wired Unjoined) t))

abbrev pub wired_as : Option Facts → Wiring
wired_as none = Unjoined
wired_as (some f) = f.wiring

abbrev pub dissolve_by : ℕ → Wiring → Table → Table
dissolve_by port Unjoined t = t
dissolve_by port (Joined v) t = t
dissolve_by port (Virtual a b) t = dissolve port a b t

-- with a member goes its virtual port, and the other member is freed
abbrev pub detach_by : ℕ → Wiring → Table → Table
detach_by port Unjoined t = remove port t
detach_by port (Joined v) t = remove port (dissolve_by v (wired_as (view_of_table t v)) t)
detach_by port (Virtual a b) t = dissolve port a b t

abbrev pub freed : Option Record → Option Record
freed place = none

-- an accepted message, with its open bytes
unfoldable pub apply : Effect → List ℕ → Table → Table
apply Nothing opens t = t
apply (ToPort port c) opens t = change port (on_settings (learn c opens)) t
apply (Attach port device) opens t = insert (new_record port device Unjoined) t
apply (AttachVirtual port device a b) opens t = insert (new_record port device (Virtual a b)) (change b (wired (Joined port)) (change a (wired (Joined port)) t))
apply (Detach port) opens t = detach_by port (wired_as (view_of_table t port)) t
apply (Value port) opens t = t
apply (Disconnect port) opens t = t
apply (Connect a b) opens t = t
apply Empty opens t = map freed t
apply (ToVirtual port) opens t = t
apply Feedback opens t = t
apply (CombinedValue port p) opens t = t
