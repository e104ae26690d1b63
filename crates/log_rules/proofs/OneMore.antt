-- One more record of a log.
use Prim.Native.Nat.{ℕ, zero, suc, ◌+◌, ◌*◌, ◌-◌}
use native.Mathlib.Nat.{suc-mul, zero-mul}
use native.Mathlib.Omega.{arith}
use mathlib.Core.Path.{◌≡◌, refl, sym, ◌∙◌, ap}
use mathlib.Core.Bool.{Bool, true, false, cond}
use mathlib.Core.List.{List, [], ◌∷◌, ◌++◌, append-nil}
use lib.Dec.{eqb}
use lib.ListN.{length, take, drop}
use lib.Seq.{drop-drop}
use Rattle.log_rules.specs.Decimal.{line_text}
use Rattle.log_rules.specs.Record.{record_size}
use Rattle.log_rules.specs.Line.{Line, record_line, cells_after_record, refusal_of, numbers_of}
use Rattle.log_rules.specs.Output.{lines_of, cells_through, numbered, refused_among}
use Rattle.log_rules.specs.Cutting.{Run, worked, printed}
use Rattle.log_rules.specs.Block.{goes_on, records_in}
use Rattle.log_rules.proofs.Lines.{length_lines, refused_append, numbered_append}

module _ (part : ℕ) where
  past : (n : ℕ) (s : List ℕ) → drop (n * record_size part) (drop (record_size part) s) ≡ drop (suc n * record_size part) s
  past n s =
      let sum : record_size part + n * record_size part ≡ suc n * record_size part = omega (arith, suc-mul n (record_size part)) in
      drop-drop (n * record_size part) (record_size part) s ∙ ap (λ (k : ℕ). drop k s) sum

  lines_more : (n : ℕ) (cells s : List ℕ) → lines_of part (suc n) cells s ≡ lines_of part n cells s ++ lines_of part 1 (cells_through part n cells s) (drop (n * record_size part) s)
  lines_more zero cells s = ap (λ (x : List ℕ). lines_of part 1 cells x) (ap (λ (k : ℕ). drop k s) (sym (zero-mul (record_size part))))
  lines_more (suc n) cells s =
      let first : List ℕ = take (record_size part) s in
      ap (λ (ls : List Line). record_line part cells first ∷ ls) (lines_more n (cells_after_record part cells first) (drop (record_size part) s))
      ∙ ap (λ (x : List ℕ). record_line part cells first ∷ (lines_of part n (cells_after_record part cells first) (drop (record_size part) s) ++ lines_of part 1 (cells_through part n (cells_after_record part cells first) (drop (record_size part) s)) x)) (past n s)

  cells_more : (n : ℕ) (cells s : List ℕ) → cells_through part (suc n) cells s ≡ cells_after_record part (cells_through part n cells s) (take (record_size part) (drop (n * record_size part) s))
  cells_more zero cells s = ap (λ (x : List ℕ). cells_after_record part cells (take (record_size part) x)) (ap (λ (k : ℕ). drop k s) (sym (zero-mul (record_size part))))
  cells_more (suc n) cells s =
      cells_more n (cells_after_record part cells (take (record_size part) s)) (drop (record_size part) s)
      ∙ ap (λ (x : List ℕ). cells_after_record part (cells_through part n (cells_after_record part cells (take (record_size part) s)) (drop (record_size part) s)) (take (record_size part) x)) (past n s)

  module _ (r : Run) (n : ℕ) where
    -- the record that comes next, and its line
    abbrev pub next_record : List ℕ
    next_record = take (record_size part) (worked part n r).rest

    abbrev pub next_line : Line
    next_line = record_line part (worked part n r).cells next_record

    pub cells_next : (worked part (suc n) r).cells ≡ cells_after_record part (worked part n r).cells next_record
    cells_next = cells_more n r.cells r.rest

    pub lines_next : (worked part (suc n) r).lines ≡ (worked part n r).lines + 1
    lines_next = omega arith

    pub refused_next : (worked part (suc n) r).refused ≡ (worked part n r).refused + cond (eqb (refusal_of next_line) 0) 0 1
    refused_next =
        let before : ℕ = refused_among (lines_of part n r.cells r.rest) in
        let one : ℕ = cond (eqb (refusal_of next_line) 0) 0 1 in
        let all : refused_among (lines_of part (suc n) r.cells r.rest) ≡ before + (one + 0) = ap refused_among (lines_more n r.cells r.rest) ∙ refused_append (lines_of part n r.cells r.rest) (next_line ∷ []) in
        omega (arith, all)

    pub text_next : printed part (suc n) r ≡ printed part n r ++ line_text ((worked part n r).lines + 1) (numbers_of next_line)
    text_next =
        let number : suc (r.lines + length (lines_of part n r.cells r.rest)) ≡ (worked part n r).lines + 1 = omega (arith, length_lines part n r.cells r.rest) in
        ap (numbered r.lines) (lines_more n r.cells r.rest)
        ∙ numbered_append r.lines (lines_of part n r.cells r.rest) (next_line ∷ [])
        ∙ ap (λ (x : List ℕ). printed part n r ++ x) (append-nil (line_text (suc (r.lines + length (lines_of part n r.cells r.rest))) (numbers_of next_line)))
        ∙ ap (λ (k : ℕ). printed part n r ++ line_text k (numbers_of next_line)) number

    -- ---- how many records a block takes

    pub takes_more : (most room : ℕ) → goes_on part (worked part n r) room ≡ true → records_in part (suc most) (worked part n r) room ≡ suc (records_in part most (worked part 1 (worked part n r)) (room - length (printed part 1 (worked part n r))))
    takes_more most room e = ap (λ (b : Bool). cond b (suc (records_in part most (worked part 1 (worked part n r)) (room - length (printed part 1 (worked part n r))))) 0) e

  pub takes_none : (r : Run) (most room : ℕ) → goes_on part r room ≡ false → records_in part most r room ≡ 0
  takes_none r zero room e = refl
  takes_none r (suc most) room e = ap (λ (b : Bool). cond b (suc (records_in part most (worked part 1 r) (room - length (printed part 1 r)))) 0) e

  -- so many and one more
  pub run_next : (r : Run) (n : ℕ) → worked part 1 (worked part n r) ≡ worked part (suc n) r
  run_next r n =
      let one : ℕ = cond (eqb (refusal_of (next_line r n)) 0) 0 1 in
      let lines_sum : r.lines + n + 1 ≡ r.lines + suc n = omega arith in
      let bad_sum : (worked part n r).refused + (one + 0) ≡ (worked part (suc n) r).refused = omega (arith, refused_next r n) in
      let size : n * record_size part + 1 * record_size part ≡ suc n * record_size part = omega (arith, suc-mul n (record_size part)) in
      λ i. record {
        cells = sym (cells_next r n) i;
        lines = lines_sum i;
        refused = bad_sum i;
        rest = (drop-drop (1 * record_size part) (n * record_size part) r.rest ∙ ap (λ (k : ℕ). drop k r.rest) size) i;
      }

  pub printed_one : (r : Run) (n : ℕ) → printed part 1 (worked part n r) ≡ line_text ((worked part n r).lines + 1) (numbers_of (next_line r n))
  printed_one r n =
      let number : suc (worked part n r).lines ≡ (worked part n r).lines + 1 = omega arith in
      append-nil (line_text (suc (worked part n r).lines) (numbers_of (next_line r n))) ∙ ap (λ (k : ℕ). line_text k (numbers_of (next_line r n))) number
