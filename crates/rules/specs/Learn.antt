-- What the table makes of a port's settings when the port is told something. There are no ports here, and nothing of the
-- reader without a table.
use Rattle.std.specs.Prelude.{ℕ, suc, ◌^◌, Bool, cond, ◌&&◌, List, eqb, length}
use Rattle.std.proofs.Math.Option.{Option, none, some}
use Rattle.rules.specs.Effect.{Change, Unchanged, Formatted, Answered, Asked, Listed, Combined}
use Rattle.rules.specs.Facts.{Setup, Asking, asked_single, asked_combined, answered_single, answered_combined, Settings}

abbrev pub same_setup : Setup → Setup → Bool
same_setup s t = eqb s.mode t.mode && eqb s.delta t.delta && eqb s.notify t.notify

-- a 47: 2 if it is equal to the latest 41, 3 if it differs or a list was asked for, 0 if nothing was asked
abbrev pub answered_state : Option Asking → Setup → ℕ
answered_state none t = 0
answered_state (some (asked_single s)) t = cond (same_setup s t) 2 3
answered_state (some asked_combined) t = 3

-- pointers that name a whole list and no more: so many ones from the lowest bit on
abbrev pub whole_list : ℕ → List ℕ → Bool
whole_list p list = eqb (suc p) (2 ^ length list)

-- a 48, where the port keeps a list: 2 if that was asked for and the pointers name all of it, 3 if not, 0 if nothing was asked
abbrev pub combined_state : Option Asking → ℕ → List ℕ → ℕ
combined_state none p list = 0
combined_state (some (asked_single s)) p list = 3
combined_state (some asked_combined) p list = cond (whole_list p list) 2 3

-- of a port that has just been attached
abbrev pub bare_settings : Settings
bare_settings = record { formats = λ mode. none; answered = none; asked = none; list = none; state = 0; experiment = 0 }

-- a 48 takes over the list that the port keeps; without one it is refused
abbrev pub take_over : ℕ → Option (List ℕ) → Settings → Settings
take_over p none s = s
take_over p (some list) s = record { formats = s.formats; answered = some (answered_combined p list); asked = s.asked; list = s.list; state = combined_state s.asked p list; experiment = s.experiment }

-- a change, with its open bytes
unfoldable pub learn : Change → List ℕ → Settings → Settings
learn Unchanged opens s = s
learn (Formatted mode f) opens s = record { formats = λ m. cond (eqb mode m) (some f) (s.formats m); answered = s.answered; asked = s.asked; list = s.list; state = s.state; experiment = s.experiment }
learn (Answered x) opens s = record { formats = s.formats; answered = some (answered_single x); asked = s.asked; list = s.list; state = answered_state s.asked x; experiment = s.experiment }
learn (Asked x n) opens s = record { formats = s.formats; answered = s.answered; asked = some (asked_single x); list = s.list; state = 1; experiment = n }
learn (Listed n) opens s = record { formats = s.formats; answered = s.answered; asked = some asked_combined; list = some opens; state = 1; experiment = n }
learn (Combined p) opens s = take_over p s.list s
