-- What is printed at the end of the input, by the totals and whether a short last piece is left.
use Rattle.std.specs.Prelude.{ℕ, ◌+◌, ◌≡◌, Bool, true, false, cond, not, ◌&&◌, ◌||◌, List, [], ◌∷◌, ◌++◌, eqb, ltb, length}
use Rattle.log_rules.specs.Line as Line
use Rattle.log_rules.specs.Output.{numbered, total_text}
use Rattle.log_rules.specs.Cutting.{Run, ending}

-- a short last piece is one more line, refused by 19
abbrev pub ending_text : ℕ → ℕ → Bool → List ℕ
ending_text lines refused true = numbered lines (Line.refused 19 ∷ []) ++ total_text (lines + 1) (refused + 1)
ending_text lines refused false = total_text lines refused

-- the greatest total that a machine's number holds
abbrev pub most_count : ℕ
most_count = 18446744073709551615

-- in an output of so many bytes: nothing where they are fewer than 128, or where one more line is past the greatest count
unfoldable pub ending_in : ℕ → ℕ → ℕ → Bool → List ℕ
ending_in room lines refused cut = cond (ltb room 128 || (cut && (eqb lines most_count || eqb refused most_count))) [] (ending_text lines refused cut)

-- it is the ending of a run with these totals
abbrev pub EndingOfRun : Type 0
EndingOfRun = (r : Run) → ending r ≡ ending_text r.lines r.refused (not (eqb (length r.rest) 0))
