-- The reader without a table: which ports are present, and what is known of them, from the list of earlier messages alone,
-- by going back through it. A history is the accepted messages, the latest first.
use Rattle.std.specs.Prelude.{ℕ, zero, suc, ◌+◌, Bool, true, false, cond, ◌||◌, List, [], ◌∷◌, eqb, leb}
use Rattle.std.proofs.Math.Option.{Option, none, some}
use Rattle.rules.specs.Layout.{port_count}
use Rattle.rules.specs.Effect.{Told, told, Event, event, Effect, Nothing, ToPort, Attach, AttachVirtual, Detach, Value, Disconnect, Connect, Empty, ToVirtual, Feedback, CombinedValue}
use Rattle.rules.specs.Facts.{Wiring, Unjoined, Joined, Virtual, Facts, View, Mode, Modes, Ports, mode_in, known}
use Rattle.rules.specs.Latest.{latest_answer, settings_of}

abbrev pub History : Type 0
History = List Event

-- an attachment, plain or virtual: its device, and the members as sent
pub data Attachment : Type 0 where
  plain : ℕ → Attachment
  pair : ℕ → ℕ → ℕ → Attachment

-- a port since its latest attachment: not present, or the attachment and the changes that it was told since, the latest first
pub data Since : Type 0 where
  absent : Since
  since : Attachment → List Told → Since

-- a virtual port ends with the detachment of a member
abbrev pub has_member : Attachment → ℕ → Bool
has_member (plain device) port = false
has_member (pair device a b) port = eqb a port || eqb b port

abbrev pub add_change : Told → Since → Since
add_change c absent = absent
add_change c (since a changes) = since a (c ∷ changes)

abbrev pub unless_member : ℕ → Since → Since
unless_member port absent = absent
unless_member port (since a changes) = cond (has_member a port) absent (since a changes)

-- one message, and the port before it: its attachment; one of document 01's endings, which are its detachment, a member's detachment
-- for a virtual port, and a table-emptying notice; something that it is told; or none of these
abbrev pub since_then : ℕ → Effect → List ℕ → Since → Since
since_then port Nothing opens before = before
since_then port (ToPort p c) opens before = cond (eqb p port) (add_change (told c opens) before) before
since_then port (Attach p device) opens before = cond (eqb p port) (since (plain device) []) before
since_then port (AttachVirtual p device a b) opens before = cond (eqb p port) (since (pair device a b) []) before
since_then port (Detach p) opens before = cond (eqb p port) absent (unless_member p before)
since_then port (Value p) opens before = before
since_then port (Disconnect p) opens before = before
since_then port (Connect a b) opens before = before
since_then port Empty opens before = absent
since_then port (ToVirtual p) opens before = before
since_then port Feedback opens before = before
since_then port (CombinedValue p pointers) opens before = before

-- going back from the latest
unfoldable pub since_attached : ℕ → History → Since
since_attached port [] = absent
since_attached port (event e opens ∷ h) = since_then port e opens (since_attached port h)

-- document 01's partner of a joined port: the virtual port that is present and names it, looked for below a number
abbrev pub is_partner : ℕ → Since → Bool
is_partner port absent = false
is_partner port (since a changes) = has_member a port

abbrev pub partner_below : ℕ → History → ℕ → Option ℕ
partner_below zero h port = none
partner_below (suc v) h port = cond (is_partner port (since_attached v h)) (some v) (partner_below v h port)

abbrev pub joined_by : Option ℕ → Wiring
joined_by none = Unjoined
joined_by (some v) = Joined v

abbrev pub wiring_of : Attachment → History → ℕ → Wiring
wiring_of (plain device) h port = joined_by (partner_below port_count h port)
wiring_of (pair device a b) h port = Virtual a b

abbrev pub device_of : Attachment → ℕ
device_of (plain device) = device
device_of (pair device a b) = device

abbrev pub facts_of : ℕ → History → Since → Option Facts
facts_of port h absent = none
facts_of port h (since a changes) = some (record { device = device_of a; wiring = wiring_of a h port; settings = settings_of changes })

unfoldable pub view_of_history : History → View
view_of_history h port = facts_of port h (since_attached port h)

-- the mode is that of the latest 47 since the attachment; a 48 has its list in place of one
abbrev pub mode_since : Since → Option Mode
mode_since absent = none
mode_since (since a changes) = mode_in (latest_answer changes)

unfoldable pub modes_of_history : History → Modes
modes_of_history h port = mode_since (since_attached port h)

-- how many ports below a number are present
abbrev pub one_if : Bool → ℕ
one_if true = 1
one_if false = 0

abbrev pub present_below : ℕ → View → ℕ
present_below zero view = 0
present_below (suc p) view = one_if (known (view p)) + present_below p view

-- sixteen ports are present
unfoldable pub full_history : History → Bool
full_history h = leb 16 (present_below port_count (view_of_history h))

abbrev pub ports_of_history : History → Ports
ports_of_history h = record { view = view_of_history h; modes = modes_of_history h; full = full_history h }
