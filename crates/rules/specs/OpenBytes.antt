-- The open bytes that a table looks at: those of a 42's list, of a 45, of a 46 and of an 82. Of any other message it hears none.
use Rattle.std.specs.Prelude.{ℕ, Bool, true, false, cond, List, [], drop}
use Rattle.rules.specs.Effect.{Change, Unchanged, Formatted, Answered, Asked, Listed, Combined, Effect, Nothing, ToPort, Attach, AttachVirtual, Detach, Value, Disconnect, Connect, Empty, ToVirtual, Feedback, CombinedValue}

abbrev pub is_list : Change → Bool
is_list Unchanged = false
is_list (Formatted mode f) = false
is_list (Answered s) = false
is_list (Asked s n) = false
is_list (Listed n) = true
is_list (Combined p) = false

abbrev pub looks_at_opens : Effect → Bool
looks_at_opens Nothing = false
looks_at_opens (ToPort port c) = is_list c
looks_at_opens (Attach port device) = false
looks_at_opens (AttachVirtual port device a b) = false
looks_at_opens (Detach port) = false
looks_at_opens (Value port) = true
looks_at_opens (Disconnect port) = false
looks_at_opens (Connect a b) = false
looks_at_opens Empty = false
looks_at_opens (ToVirtual port) = false
looks_at_opens Feedback = true
looks_at_opens (CombinedValue port p) = true

abbrev pub heard : Effect → List ℕ → List ℕ
heard e opens = cond (looks_at_opens e) opens []

-- the same, by the place where they start in a message: of a 45 byte 4, of an 82 byte 3, of a list and of a 46 byte 6
abbrev pub list_in : Change → List ℕ → List ℕ
list_in Unchanged s = []
list_in (Formatted mode f) s = []
list_in (Answered t) s = []
list_in (Asked t n) s = []
list_in (Listed n) s = drop 6 s
list_in (Combined p) s = []

abbrev pub opens_in : Effect → List ℕ → List ℕ
opens_in Nothing s = []
opens_in (ToPort port c) s = list_in c s
opens_in (Attach port device) s = []
opens_in (AttachVirtual port device a b) s = []
opens_in (Detach port) s = []
opens_in (Value port) s = drop 4 s
opens_in (Disconnect port) s = []
opens_in (Connect a b) s = []
opens_in Empty s = []
opens_in (ToVirtual port) s = []
opens_in Feedback s = drop 3 s
opens_in (CombinedValue port p) s = drop 6 s
