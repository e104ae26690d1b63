-- From any run on: what is printed step by step, and the ending, are the lines of all the input that is still there or comes.
use Prim.Native.Nat.{ℕ, ◌+◌, ◌*◌, ◌≤◌, ◌<◌, min}
use mathlib.Core.Path.{◌≡◌, sym, ◌∙◌, ap}
use mathlib.Core.List.{List, [], ◌∷◌, ◌++◌, append_assoc, append-nil}
use native.Mathlib.Nat.{le_trans, min-le_right, mul-le-mul_right, div-mul-le_self}
use native.Mathlib.Omega.{arith}
use lib.ListN.{length, length-append}
use Rattle.log_rules.specs.Record.{record_size}
use Rattle.log_rules.specs.Line.{Line}
use Rattle.log_rules.specs.Output.{lines_of, records, numbered, refused_among, total_text}
use Rattle.log_rules.specs.Cutting.{Step, more, work, Run, worked, printed, step, through, text_through, ending, whole_input}
use Rattle.log_rules.proofs.Lines.{lines_from, length_lines, refused_append, numbered_append, records_first, no_record}

-- the last lines and the totals, with so many lines and so many refused before
abbrev pub closing : ℕ → ℕ → List Line → List ℕ
closing before refused ls = numbered before ls ++ total_text (before + length ls) (refused + refused_among ls)

-- some of the lines are printed first, and counted
first_lines : (before refused : ℕ) (ls ms : List Line) → numbered before ls ++ closing (before + length ls) (refused + refused_among ls) ms ≡ closing before refused (ls ++ ms)
first_lines before refused ls ms =
    let both : length (ls ++ ms) ≡ length ls + length ms = length-append ls ms in
    let refused_both : refused_among (ls ++ ms) ≡ refused_among ls + refused_among ms = refused_append ls ms in
    let total : before + length ls + length ms ≡ before + length (ls ++ ms) = omega arith in
    let refused_total : refused + refused_among ls + refused_among ms ≡ refused + refused_among (ls ++ ms) = omega arith in
    sym (append_assoc (numbered before ls) (numbered (before + length ls) ms) (total_text (before + length ls + length ms) (refused + refused_among ls + refused_among ms)))
    ∙ ap (λ (x : List ℕ). x ++ total_text (before + length ls + length ms) (refused + refused_among ls + refused_among ms)) (sym (numbered_append before ls ms))
    ∙ ap (λ (n : ℕ). numbered before (ls ++ ms) ++ total_text n (refused + refused_among ls + refused_among ms)) total
    ∙ ap (λ (n : ℕ). numbered before (ls ++ ms) ++ total_text (before + length (ls ++ ms)) n) refused_total

-- all that is printed of a run, with the input that comes
abbrev pub output_from : ℕ → Run → List ℕ → List ℕ
output_from part r t = closing r.lines r.refused (lines_from part r.cells (r.rest ++ t))

-- records that are there whole are worked through first
pub some_worked : (part n : ℕ) (r : Run) (t : List ℕ) → n * record_size part ≤ length r.rest → printed part n r ++ output_from part (worked part n r) t ≡ output_from part r t
some_worked part n r t h =
    let ls : List Line = lines_of part n r.cells r.rest in
    let after : Run = worked part n r in
    let ms : List Line = lines_from part after.cells (after.rest ++ t) in
    let long : length ls ≡ n = length_lines part n r.cells r.rest in
    let counted : after.lines ≡ r.lines + length ls = omega arith in
    let refused_counted : after.refused ≡ r.refused + refused_among ls = omega arith in
    ap (λ (m : ℕ). numbered r.lines ls ++ closing m after.refused ms) counted
    ∙ ap (λ (m : ℕ). numbered r.lines ls ++ closing (r.lines + length ls) m ms) refused_counted
    ∙ first_lines r.lines r.refused ls ms
    ∙ ap (closing r.lines r.refused) (sym (records_first part n r.cells r.rest t h))

-- no more records are worked through than are there
there_whole : (part n : ℕ) (s : List ℕ) → min n (records part s) * record_size part ≤ length s
there_whole part n s = le_trans (mul-le-mul_right (record_size part) (min-le_right n (records part s))) (div-mul-le_self (length s) (record_size part))

-- in any steps, to where no whole record is left
pub any_cutting_from : (part : ℕ) (r : Run) (steps : List Step) → length (through part r steps).rest < record_size part → text_through part r steps ++ ending (through part r steps) ≡ output_from part r (whole_input steps)
any_cutting_from part r [] h =
    ap (closing r.lines r.refused) (sym (no_record part r.cells r.rest h) ∙ ap (lines_from part r.cells) (sym (append-nil r.rest)))
any_cutting_from part r (more s ∷ steps) h =
    any_cutting_from part (step part r (more s)) steps h
    ∙ ap (λ (x : List ℕ). closing r.lines r.refused (lines_from part r.cells x)) (append_assoc r.rest s (whole_input steps))
any_cutting_from part r (work n ∷ steps) h =
    let k : ℕ = min n (records part r.rest) in
    let after : Run = worked part k r in
    append_assoc (printed part k r) (text_through part after steps) (ending (through part after steps))
    ∙ ap (λ (x : List ℕ). printed part k r ++ x) (any_cutting_from part after steps h)
    ∙ some_worked part k r (whole_input steps) (there_whole part n r.rest)
