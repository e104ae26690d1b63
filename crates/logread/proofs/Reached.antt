-- The run at which the program stands: after the records that were there, after a piece, and after all pieces so far.
use Prim.Native.Nat.{ℕ, ◌+◌, ◌*◌, ◌-◌, ◌≤◌}
use native.Mathlib.Omega.{arith}
use mathlib.Core.Path.{◌≡◌, refl, sym, ◌∙◌, ap}
use mathlib.Core.Bool.{Bool, true, false}
use mathlib.Core.List.{List, [], ◌∷◌, ◌++◌}
use lib.ListN.{length, take, drop}
use lib.Seq.{length-take-le, take-add, drop_at}
use Rattle.std.specs.Prelude.{Result, Ok}
use Rattle.std.proofs.lemmas.Result.{IfOk-at_ok}
use Rattle.std.specs.List.{copy_within}
use Rattle.log_rules.specs.Record.{record_size}
use Rattle.log_rules.specs.Output.{records}
use Rattle.log_rules.specs.Cutting.{Run, start, worked}
use Rattle.log_rules.specs.Pieces.{after_pieces, all_worked, with_more}
use Rattle.logread.specs.declared.reading.Printer.{Printer}
use Rattle.logread.specs.Reading.{RecordsDone, Came, Went, run_with}
use Rattle.logread.proofs.Moving.{moved_front}

-- the front of a list without its first elements
front_rest : (n k : ℕ) (l : List ℕ) → n ≤ k → k ≤ length l → drop n (take k l) ≡ take (k - n) (drop n l)
front_rest n k l h g =
    let sum : k ≡ n + (k - n) = omega arith in
    ap (λ (m : ℕ). drop n (take m l)) sum
    ∙ ap (drop n) (take-add n (k - n) l)
    ∙ drop_at (take n l) (take (k - n) (drop n l)) n (length-take-le n l (omega arith))

-- ---- all whole records before an index, and what is left of them at the start

module _ {O : Type 0} (before : Printer O) (input : List ℕ) (end : ℕ) (inside : end ≤ length input) where
  abbrev here : Run
  here = run_with before (take end input)

  module _ {E : Type 0} {after : Printer O} {answer : Result ℕ E} {taken : ℕ} (d : RecordsDone here after answer) (e : answer ≡ Ok taken) where
    size : taken ≡ d.count * record_size 128
    size = IfOk-at_ok (λ (n : ℕ). n ≡ d.count * record_size 128) e d.taken

    pub taken_most : taken ≤ end
    taken_most = omega (arith, size, d.through.most, length-take-le end input inside)

    pub taken_in : {input' : List ℕ} → input' ≡ copy_within input taken end 0 → run_with after (take (end - taken) input') ≡ all_worked 128 here
    taken_in {input'} i =
        let all : d.count ≡ records 128 here.rest = IfOk-at_ok (λ (n : ℕ). d.count ≡ records 128 here.rest) e d.all in
        let left : take (end - taken) input' ≡ drop (d.count * record_size 128) here.rest =
        ap (take (end - taken)) i
        ∙ moved_front input taken end taken_most inside
        ∙ sym (front_rest taken end input taken_most inside)
        ∙ ap (λ (k : ℕ). drop k here.rest) size
        in
        let same : run_with after (take (end - taken) input') ≡ worked 128 d.count here =
        λ j. record { cells = d.through.cells j; lines = d.through.lines j; refused = d.through.refused j; rest = left j }
        in
        same ∙ ap (λ (k : ℕ). worked 128 k here) all

-- ---- one piece

-- so many bytes behind those that are held
pub piece_came : {O : Type 0} (p : Printer O) (input : List ℕ) (held : ℕ) (input' : List ℕ) → take held input' ≡ take held input
    → (n : ℕ) {after : Run} → after ≡ all_worked 128 (run_with p (take (held + n) input')) → Came (run_with p (take held input)) after
piece_came p input held input' same n t =
    let s : List ℕ = take n (drop held input') in
    let joined : take (held + n) input' ≡ take held input ++ s = take-add held n input' ∙ ap (λ (x : List ℕ). x ++ s) same in
    record { piece = s; worked_off = t ∙ ap (λ (x : List ℕ). all_worked 128 (run_with p x)) joined }

-- ---- all pieces so far

pub record After (r : Run) : Type 0 where
  pub pieces : List (List ℕ)
  pub reached : r ≡ after_pieces 128 start pieces

pub after_none : {r : Run} → r ≡ start → After r
after_none e = record { pieces = []; reached = e }

-- one more piece
one_more : (r : Run) (pieces : List (List ℕ)) (s : List ℕ) → after_pieces 128 r (pieces ++ (s ∷ [])) ≡ all_worked 128 (with_more (after_pieces 128 r pieces) s)
one_more r [] s = refl
one_more r (x ∷ pieces) s = one_more (all_worked 128 (with_more r x)) pieces s

pub after_step : {r next : Run} (came : Bool) → After r → Went r next came → After next
after_step true a w =
    record {
      pieces = a.pieces ++ (w.piece ∷ []);
      reached = w.worked_off ∙ ap (λ (x : Run). all_worked 128 (with_more x w.piece)) a.reached ∙ sym (one_more start a.pieces w.piece);
    }
after_step false a w = record { pieces = a.pieces; reached = w ∙ a.reached }
