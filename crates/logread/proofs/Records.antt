-- Blocks one after the other, to where no whole record is left.
use Prim.Native.Nat.{ℕ, ◌+◌, ◌*◌, ◌-◌, ◌≤◌, ◌<◌}
use native.Mathlib.Nat.{div-eq_of_lt-le}
use native.Mathlib.Omega.{arith}
use mathlib.Core.Path.{◌≡◌, sym, ◌∙◌, ap}
use mathlib.Core.List.{List}
use lib.ListN.{length, take, drop, length-drop}
use lib.Seq.{take_all}
use Rattle.std.specs.Prelude.{Result, Ok, IsErr}
use Rattle.std.proofs.lemmas.Result.{IfOk-from_err}
use Rattle.log_rules.specs.Record.{record_size}
use Rattle.log_rules.specs.Output.{records}
use Rattle.log_rules.specs.Cutting.{Run, worked}
use Rattle.log_rules.proofs.Laws.{block_after_block}
use Rattle.logread.specs.declared.reading.Printer.{Printer}
use Rattle.logread.specs.Reading.{RecordsDone, Through, run_with}

-- some records were worked through, and the rest of the input is where the run stands
pub record Passed {O : Type 0} (r : Run) (p : Printer O) (rest : List ℕ) : Type 0 where
  pub number : ℕ
  pub most : number * record_size 128 ≤ length r.rest
  pub stands : run_with p rest ≡ worked 128 number r

pub passed_none : {O : Type 0} (p : Printer O) (input : List ℕ) → Passed (run_with p input) p input
passed_none p input =
    let lines : p.totals.lines ≡ p.totals.lines + 0 = omega arith in
    let refused : p.totals.refused ≡ p.totals.refused + 0 = omega arith in
    record {
      number = 0;
      most = omega arith;
      stands = λ i. record { cells = p.table; lines = lines i; refused = refused i; rest = input };
    }

module _ {O : Type 0} {r : Run} {printer : Printer O} {rest : List ℕ} (p : Passed r printer rest) where
  left : length rest ≡ length r.rest - p.number * record_size 128
  left = ap (λ (x : Run). length x.rest) p.stands ∙ length-drop (p.number * record_size 128) r.rest

  through : Through r p.number printer
  through =
      record {
        most = p.most;
        cells = ap (λ (x : Run). x.cells) p.stands;
        lines = ap (λ (x : Run). x.lines) p.stands;
        refused = ap (λ (x : Run). x.refused) p.stands;
      }

  -- one more block
  pub passed_more : {m : ℕ} {next : Printer O} → Through (run_with printer rest) m next
      → {taken : ℕ} → taken ≡ m * record_size 128 → Passed r next (take (length rest - taken) (drop taken rest))
  passed_more {m} {next} k {taken} size =
      let n : ℕ = p.number in
      let all : take (length rest - taken) (drop taken rest) ≡ drop (m * record_size 128) rest =
      take_all (length rest - taken) (drop taken rest) (omega (arith, length-drop taken rest)) ∙ ap (λ (j : ℕ). drop j rest) size
      in
      let there : run_with next (take (length rest - taken) (drop taken rest)) ≡ worked 128 m (run_with printer rest) =
      λ i. record { cells = k.cells i; lines = k.lines i; refused = k.refused i; rest = all i }
      in
      record {
        number = n + m;
        most = omega (arith, p.most, k.most, left);
        stands = there ∙ ap (worked 128 m) p.stands ∙ (block_after_block 128 n m r).0;
      }

  -- it failed
  pub records_failed : {E : Type 0} (answer : Result ℕ E) → IsErr answer → RecordsDone r printer answer
  records_failed answer e =
      record {
        count = p.number;
        through = through;
        taken = IfOk-from_err answer (λ (n : ℕ). n ≡ p.number * record_size 128) e;
        all = IfOk-from_err answer (λ (n : ℕ). p.number ≡ records 128 r.rest) e;
      }

  -- no whole record is left
  pub records_all : {E : Type 0} → length rest < record_size 128 → RecordsDone {E = E} r printer (Ok (length r.rest - length rest))
  records_all h =
      let whole : records 128 r.rest ≡ p.number = div-eq_of_lt-le (record_size 128) (omega (arith, p.most)) (omega (arith, left, p.most)) in
      record { count = p.number; through = through; taken = omega (arith, left, p.most); all = sym whole }
