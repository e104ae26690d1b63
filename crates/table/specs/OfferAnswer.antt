-- Document 01's answer of offering a message; and what emptying a table answers.
use Rattle.std.specs.Prelude.{ℕ, cond, List, eqb, length, Result}
use Rattle.protocol.specs.declared.refusal.Refusal.{Refusal}
use Rattle.rules.specs.Layout.{table_size}
use Rattle.rules.specs.Answer.{Answer, refused, accepted, passed}

abbrev pub answer_of : Result (Unit {0}) Refusal → Answer (Unit {0})
answer_of = passed

-- emptying asks for a table's number of cells and nothing else of them: 9
abbrev pub empty_answer : List ℕ → Answer (Unit {0})
empty_answer cells = cond (eqb (length cells) table_size) (accepted tt) (refused 9 0)
