-- Blocks one after the other, and a log in pieces.
use Prim.Native.Nat.{ℕ, zero, suc, ◌+◌, ◌*◌, ◌-◌, ◌<◌}
use native.Mathlib.Nat.{add-zero, zero-mul, div-mul-le_self, lt-div-mul-add}
use native.Mathlib.Omega.{arith}
use mathlib.Core.Path.{◌≡◌, refl, sym, ◌∙◌, ap}
use mathlib.Core.List.{List, [], ◌∷◌, ◌++◌, append_assoc, append-nil}
use lib.ListN.{length, drop, length-drop}
use Rattle.log_rules.specs.Record.{record_size}
use Rattle.log_rules.specs.Output.{records}
use Rattle.log_rules.specs.Cutting.{Run, worked, printed, ending}
use Rattle.log_rules.specs.Pieces.{with_more, all_worked, all_printed, after_pieces, pieces_text, joined}
use Rattle.log_rules.proofs.Cutting.{closing, output_from, some_worked, any_cutting_from}
use Rattle.log_rules.proofs.Lines.{lines_from}
use Rattle.log_rules.proofs.OneMore.{run_next, text_next, printed_one}

module _ (part : ℕ) where
  none_worked : (r : Run) → worked part 0 r ≡ r
  none_worked r =
      let none_lines : r.lines + 0 ≡ r.lines = omega arith in
      let none_refused : r.refused + 0 ≡ r.refused = omega arith in
      let whole : drop (0 * record_size part) r.rest ≡ r.rest = ap (λ (k : ℕ). drop k r.rest) (zero-mul (record_size part)) in
      λ i. record { cells = r.cells; lines = none_lines i; refused = none_refused i; rest = whole i }

  pub blocks_run : (n m : ℕ) (r : Run) → worked part m (worked part n r) ≡ worked part (n + m) r
  blocks_run n zero r = none_worked (worked part n r) ∙ ap (λ (k : ℕ). worked part k r) (sym (add-zero n))
  blocks_run n (suc m) r =
      let sum : suc (n + m) ≡ n + suc m = omega arith in
      sym (run_next part (worked part n r) m)
      ∙ ap (worked part 1) (blocks_run n m r)
      ∙ run_next part r (n + m)
      ∙ ap (λ (k : ℕ). worked part k r) sum

  -- the lines of one more record come last
  text_more : (n : ℕ) (r : Run) → printed part (suc n) r ≡ printed part n r ++ printed part 1 (worked part n r)
  text_more n r = text_next part r n ∙ ap (λ (x : List ℕ). printed part n r ++ x) (sym (printed_one part r n))

  pub blocks_text : (n m : ℕ) (r : Run) → printed part n r ++ printed part m (worked part n r) ≡ printed part (n + m) r
  blocks_text n zero r = append-nil (printed part n r) ∙ ap (λ (k : ℕ). printed part k r) (sym (add-zero n))
  blocks_text n (suc m) r =
      let sum : suc (n + m) ≡ n + suc m = omega arith in
      ap (λ (x : List ℕ). printed part n r ++ x) (text_more m (worked part n r))
      ∙ sym (append_assoc (printed part n r) (printed part m (worked part n r)) (printed part 1 (worked part m (worked part n r))))
      ∙ ap (λ (x : List ℕ). x ++ printed part 1 (worked part m (worked part n r))) (blocks_text n m r)
      ∙ ap (λ (x : Run). printed part (n + m) r ++ printed part 1 x) (blocks_run n m r)
      ∙ sym (text_more (n + m) r)
      ∙ ap (λ (k : ℕ). printed part k r) sum

  -- no whole record is left
  pub rest_short : (s : List ℕ) → length (drop (records part s * record_size part) s) < record_size part
  rest_short s =
      let size : length (drop (records part s * record_size part) s) ≡ length s - records part s * record_size part = length-drop (records part s * record_size part) s in
      let most : length s < records part s * record_size part + record_size part = lt-div-mul-add (omega arith) in
      omega (arith, size, most)

  pub pieces_from : (r : Run) (pieces : List (List ℕ)) → length r.rest < record_size part → pieces_text part r pieces ++ ending (after_pieces part r pieces) ≡ output_from part r (joined pieces)
  pieces_from r [] h = any_cutting_from part r [] h
  pieces_from r (s ∷ pieces) h =
      let there : Run = with_more r s in
      let after : Run = all_worked part there in
      let text : pieces_text part r (s ∷ pieces) ≡ all_printed part there ++ pieces_text part after pieces = refl in
      ap (λ (x : List ℕ). x ++ ending (after_pieces part after pieces)) text
      ∙ append_assoc (all_printed part there) (pieces_text part after pieces) (ending (after_pieces part after pieces))
      ∙ ap (λ (x : List ℕ). all_printed part there ++ x) (pieces_from after pieces (rest_short there.rest))
      ∙ some_worked part (records part there.rest) there (joined pieces) (div-mul-le_self (length there.rest) (record_size part))
      ∙ ap (λ (x : List ℕ). closing r.lines r.refused (lines_from part r.cells x)) (append_assoc r.rest s (joined pieces))
