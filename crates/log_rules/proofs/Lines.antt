-- The lines of a log: some of its records, and then the rest.
use Prim.Native.Nat.{ℕ, zero, suc, ◌+◌, ◌*◌, ◌-◌, ◌/◌, ◌≤◌, ◌<◌}
use mathlib.Core.Path.{◌≡◌, refl, sym, ◌∙◌, ap}
use mathlib.Core.List.{List, [], ◌∷◌, ◌++◌, append_assoc}
use native.Mathlib.Nat.{add_comm, suc-mul, zero-mul, zero-add, add-div_right, div-eq_of_lt}
use native.Mathlib.Omega.{arith}
use lib.ListN.{length, take, drop, length-append, length-drop}
use lib.Seq.{take-append-le, drop-append-le, drop-drop}
use Rattle.log_rules.specs.Decimal.{line_text}
use Rattle.log_rules.specs.Record.{record_size}
use Rattle.log_rules.specs.Line.{Line, record_line, cells_after_record, numbers_of}
use Rattle.log_rules.specs.Output.{lines_of, cells_through, records, last_line, numbered, refused_among}

-- all lines of an input, from cells on
abbrev pub lines_from : ℕ → List ℕ → List ℕ → List Line
lines_from part cells s = lines_of part (records part s) cells s ++ last_line (drop (records part s * record_size part) s)

-- ---- lists of lines

-- a line for each record
pub length_lines : (part n : ℕ) (cells s : List ℕ) → length (lines_of part n cells s) ≡ n
length_lines part zero cells s = refl
length_lines part (suc n) cells s = ap suc (length_lines part n (cells_after_record part cells (take (record_size part) s)) (drop (record_size part) s))

pub refused_append : (ls ms : List Line) → refused_among (ls ++ ms) ≡ refused_among ls + refused_among ms
refused_append [] ms = sym (zero-add (refused_among ms))
refused_append (l ∷ ls) ms = let e : refused_among (ls ++ ms) ≡ refused_among ls + refused_among ms = refused_append ls ms in omega arith

pub numbered_append : (before : ℕ) (ls ms : List Line) → numbered before (ls ++ ms) ≡ numbered before ls ++ numbered (before + length ls) ms
numbered_append before [] ms = ap (λ (n : ℕ). numbered n ms) (omega arith)
numbered_append before (l ∷ ls) ms =
    let text : List ℕ = line_text (suc before) (numbers_of l) in
    ap (λ (x : List ℕ). text ++ x) (numbered_append (suc before) ls ms)
    ∙ ap (λ (n : ℕ). text ++ (numbered (suc before) ls ++ numbered n ms)) (omega arith)
    ∙ sym (append_assoc text (numbered (suc before) ls) (numbered (before + suc (length ls)) ms))

-- ---- records that come first

-- a whole record is one record more
one_more : (part : ℕ) (s t : List ℕ) → record_size part ≤ length s → records part (s ++ t) ≡ suc (records part (drop (record_size part) s ++ t))
one_more part s t h =
    let whole : length (s ++ t) ≡ length s + length t = length-append s t in
    let cut : length (drop (record_size part) s) ≡ length s - record_size part = length-drop (record_size part) s in
    let rest : length (drop (record_size part) s ++ t) ≡ length (drop (record_size part) s) + length t = length-append (drop (record_size part) s) t in
    let sum : length (s ++ t) ≡ length (drop (record_size part) s ++ t) + record_size part = omega arith in
    ap (λ (n : ℕ). n / record_size part) sum ∙ add-div_right (length (drop (record_size part) s ++ t)) (omega arith) ∙ omega arith

-- its line, and then the lines of what is after it
record_first : (part : ℕ) (cells s t : List ℕ) → record_size part ≤ length s
    → lines_from part cells (s ++ t) ≡ record_line part cells (take (record_size part) s) ∷ lines_from part (cells_after_record part cells (take (record_size part) s)) (drop (record_size part) s ++ t)
record_first part cells s t h =
    let size : ℕ = record_size part in
    let n : ℕ = records part (drop size s ++ t) in
    let sum : suc n * size ≡ size + n * size = suc-mul n size ∙ add_comm (n * size) size in
    ap (λ (m : ℕ). lines_of part m cells (s ++ t) ++ last_line (drop (m * size) (s ++ t))) (one_more part s t h)
    ∙ ap (λ (x : List ℕ). lines_of part (suc n) cells (s ++ t) ++ last_line x)
    (ap (λ (m : ℕ). drop m (s ++ t)) sum ∙ sym (drop-drop (n * size) size (s ++ t)))
    ∙ ap (λ (x : List ℕ). record_line part cells x ∷ (lines_of part n (cells_after_record part cells x) (drop size (s ++ t)) ++ last_line (drop (n * size) (drop size (s ++ t))))) (take-append-le size s t h)
    ∙ ap (λ (x : List ℕ). record_line part cells (take size s) ∷ (lines_of part n (cells_after_record part cells (take size s)) x ++ last_line (drop (n * size) x))) (drop-append-le size s t h)

-- so many records of the input that is there, whatever comes after it
pub records_first : (part n : ℕ) (cells s t : List ℕ) → n * record_size part ≤ length s
    → lines_from part cells (s ++ t) ≡ lines_of part n cells s ++ lines_from part (cells_through part n cells s) (drop (n * record_size part) s ++ t)
records_first part zero cells s t h = ap (λ (m : ℕ). lines_from part cells (drop m s ++ t)) (sym (zero-mul (record_size part)))
records_first part (suc n) cells s t h =
    let size : ℕ = record_size part in
    let x : List ℕ = take size s in
    let sum : suc n * size ≡ n * size + size = suc-mul n size in
    let cut : length (drop size s) ≡ length s - size = length-drop size s in
    record_first part cells s t (omega arith)
    ∙ ap (λ (ls : List Line). record_line part cells x ∷ ls) (records_first part n (cells_after_record part cells x) (drop size s) t (omega arith))
    ∙ ap (λ (y : List ℕ). lines_of part (suc n) cells s ++ lines_from part (cells_through part (suc n) cells s) (y ++ t))
    (drop-drop (n * size) size s ∙ ap (λ (m : ℕ). drop m s) (add_comm size (n * size) ∙ sym sum))

-- with fewer bytes than a record's there is a short last piece, or nothing
pub no_record : (part : ℕ) (cells s : List ℕ) → length s < record_size part → lines_from part cells s ≡ last_line s
no_record part cells s h =
    ap (λ (n : ℕ). lines_of part n cells s ++ last_line (drop (n * record_size part) s)) (div-eq_of_lt h)
    ∙ ap (λ (m : ℕ). last_line (drop m s)) (zero-mul (record_size part))
