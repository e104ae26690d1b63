-- Judging a message on what is known of the ports: refusals 10 to 16 in the order of document 01, and after 10 those of document
-- 02: 22; 21 of a 48; 20, 21, 15, 17, 16 of a 46. 0 where it is accepted. Their place is 0.
use Rattle.std.specs.Prelude.{ℕ, ◌*◌, Bool, true, false, cond, not, ◌&&◌, List, [], ◌∷◌, eqb, length, Result, Ok, Err}
use Rattle.std.proofs.Math.Option.{Option, none, some}
use Rattle.rules.specs.Effect.{Change, Unchanged, Formatted, Answered, Asked, Listed, Combined, Effect, Nothing, ToPort, Attach, AttachVirtual, Detach, Value, Disconnect, Connect, Empty, ToVirtual, Feedback, CombinedValue}
use Rattle.rules.specs.Entries.{all_formatted, all_below_count, total_width}
use Rattle.rules.specs.Facts.{Format, Settings, Facts, View, Ports, Mode, single, combined, known, is_unjoined, is_virtual}
use Rattle.rules.specs.Pointers.{pointed, pointers_fit, pointers_among}
use Rattle.protocol.specs.Refusal.{number_of}
use Rattle.protocol.specs.declared.refusal.Refusal.{Refusal}
use Rattle.rules.specs.ValueLookup.{ValueLookup, value_lookup}
use Rattle.rules.specs.Width.{width_of}

-- document 01's "present"
abbrev pub present : View → ℕ → Bool
present view port = known (view port)

abbrev pub present_unjoined : Option Facts → Bool
present_unjoined none = false
present_unjoined (some f) = is_unjoined f.wiring

-- document 01's pair test: both present, different, physical and unjoined
abbrev pub pair_test : View → ℕ → ℕ → Bool
pair_test view a b = present_unjoined (view a) && present_unjoined (view b) && not (eqb a b)

-- 10: the port named isn't present
abbrev pub refusal_if_absent : View → ℕ → ℕ
refusal_if_absent view port = cond (present view port) 0 10

-- 13: all sixteen records are in use
abbrev pub refusal_if_full : Bool → ℕ
refusal_if_full full = cond full 13 0

-- 16: value bytes differ from datasets times width
abbrev pub size_refusal : Format → ℕ → ℕ
size_refusal f count = cond (eqb count (f.datasets * width_of f.kind)) 0 16

-- a value of so many bytes, by what it is read by
abbrev pub judge_value : Result ValueLookup Refusal → ℕ → ℕ
judge_value (Err r) count = number_of r
judge_value (Ok l) count = size_refusal l.format count

-- 10, then a refusal for a physical port, joined or not: 12 of a disconnection, 22 of a command
abbrev pub refusal_unless_virtual : ℕ → Option Facts → ℕ
refusal_unless_virtual refusal none = 10
refusal_unless_virtual refusal (some f) = cond (is_virtual f.wiring) 0 refusal

-- the ports that an 82 names: the first byte of each pair
abbrev pub ports_named : List ℕ → List ℕ
ports_named [] = []
ports_named (port ∷ []) = port ∷ []
ports_named (port ∷ feedback ∷ pairs) = port ∷ ports_named pairs

abbrev pub all_present : View → List ℕ → Bool
all_present view [] = true
all_present view (port ∷ ports) = present view port && all_present view ports

-- whether a 48 can take a list over
abbrev pub takes_over : ℕ → Option (List ℕ) → Bool
takes_over p none = false
takes_over p (some list) = pointers_fit p (length list)

-- 21: a 48 with no list or a pointer past it, or with no pointer set
abbrev pub change_refusal : Change → Settings → ℕ
change_refusal Unchanged s = 0
change_refusal (Formatted mode f) s = 0
change_refusal (Answered t) s = 0
change_refusal (Asked t n) s = 0
change_refusal (Listed n) s = 0
change_refusal (Combined p) s = cond (takes_over p s.list) 0 21

abbrev pub told_refusal : Change → Option Facts → ℕ
told_refusal c none = 10
told_refusal c (some f) = change_refusal c f.settings

-- the entries that a 46 points at, and how many value bytes it has: 15 if the mode of one has no format; 17 if the dataset of one
-- isn't below its format's count; 16 if the bytes differ from the widths added up
abbrev pub entries_refusal : (ℕ → Option Format) → List ℕ → ℕ → ℕ
entries_refusal formats entries count =
    cond (all_formatted formats entries) (cond (all_below_count formats entries) (cond (eqb count (total_width formats entries)) 0 16) 17) 15

-- 20: the port isn't combined; 21: no pointer is set, or one that the latest 48 hasn't
abbrev pub combined_refusal : Settings → Option Mode → ℕ → ℕ → ℕ
combined_refusal s none p count = 20
combined_refusal s (some (single mode)) p count = 20
combined_refusal s (some (combined q list)) p count = cond (pointers_among p q) (entries_refusal s.formats (pointed p list) count) 21

abbrev pub judge_combined : Option Facts → Option Mode → ℕ → ℕ → ℕ
judge_combined none mode p count = 10
judge_combined (some f) mode p count = combined_refusal f.settings mode p count

-- a message, by what it is to a table and its open bytes
unfoldable pub judge : Ports → Effect → List ℕ → ℕ
judge ports Nothing opens = 0
judge ports (ToPort port c) opens = told_refusal c (ports.view port)
judge ports (Attach port device) opens = cond (present ports.view port) 11 (refusal_if_full ports.full)
judge ports (AttachVirtual port device a b) opens = cond (present ports.view port) 11 (cond (pair_test ports.view a b) (refusal_if_full ports.full) 12)
judge ports (Detach port) opens = refusal_if_absent ports.view port
judge ports (Value port) opens = judge_value (value_lookup ports port) (length opens)
judge ports (Disconnect port) opens = refusal_unless_virtual 12 (ports.view port)
judge ports (Connect a b) opens = cond (pair_test ports.view a b) 0 12
judge ports Empty opens = 0
judge ports (ToVirtual port) opens = refusal_unless_virtual 22 (ports.view port)
judge ports Feedback opens = cond (all_present ports.view (ports_named opens)) 0 10
judge ports (CombinedValue port p) opens = judge_combined (ports.view port) (ports.modes port) p (length opens)
