-- A block that was worked through: what it took, and the text that it left.
use Prim.Native.Nat.{ℕ, zero, suc, ◌*◌, ◌≤◌, ◌<◌}
use native.Mathlib.Omega.{arith}
use mathlib.Core.Path.{◌≡◌, refl, sym, ◌∙◌, ap, subst}
use mathlib.Core.Bool.{true}
use mathlib.Core.List.{List}
use lib.ListN.{length, get_or, take}
use Rattle.std.specs.Prelude.{Result, Ok, Err, IfOk, IsOk}
use Rattle.protocol.specs.Overwrite.{overwrite}
use Rattle.protocol.specs.declared.refusal.Refusal.{Refusal}
use Rattle.protocol.proofs.Bytes.{Bytes-take, Bytes-drop}
use Rattle.rules.specs.Answer.{Answer, refused, accepted}
use Rattle.rules.specs.Cells.{sound}
use Rattle.log_rules.specs.Record.{record_size}
use Rattle.log_rules.specs.Cutting.{Run, worked, printed}
use Rattle.log_rules.specs.Block.{block_records}
use Rattle.log_rules.proofs.AfterRecord.{record_keeps_sound}
use Rattle.log_rules.proofs.OneMore.{cells_next, next_record}
use Rattle.log_lines.specs.declared.totals.Totals.{Totals}
use Rattle.log_lines.proofs.ValueLines.{all_bytes_lem}
use Rattle.table.specs.BlockAnswer as Table
use Rattle.table.specs.BlockAnswer.{answer_of, block_answer, block_cells, block_fits, block_text, progress, progress_of}
use Rattle.table.specs.declared.block.Block.{Block}
use Rattle.table.proofs.LogBlocks.{sound_block}
use Rattle.logread.specs.declared.reading.Printer.{Printer}
use Rattle.logread.specs.Printed.{Printable, some_lines}
use Rattle.logread.specs.Reading.{BlockDone}
use Rattle.logread.proofs.Moving.{front_text}

-- records keep a sound table sound
worked_sound : (r : Run) (n : ℕ) → sound r.cells ≡ true → ((k : ℕ) → get_or r.rest k 0 < 256) → sound (worked 128 n r).cells ≡ true
worked_sound r zero good bytes = good
worked_sound r (suc n) good bytes =
    ap sound (cells_next 128 r n)
    ∙ record_keeps_sound 128 (worked 128 n r).cells (next_record 128 r n) (Bytes-take (record_size 128) (worked 128 n r).rest (Bytes-drop (n * record_size 128) r.rest (all_bytes_lem r.rest bytes))) (worked_sound r n good bytes)

-- what an accepted answer gives
abbrev given : Answer Table.Progress → Table.Progress
given (refused number place) = record { taken = 0; written = 0; lines = 0; refused = 0 }
given (accepted p) = p

-- as many records as there is room for
abbrev count : Run → List ℕ → ℕ
count r out = block_records 128 r (length out)

module _ (r : Run) (out : List ℕ) (good : sound r.cells ≡ true) (b : Result Block Refusal) (a : answer_of b ≡ block_answer 128 r (length out)) where
  -- a sound table is not refused
  pub block_ok : IsOk b
  block_ok = go b refl
    where
      go : (x : Result Block Refusal) → b ≡ x → IsOk x
      go (Ok block) e = refl
      go (Err refusal) e =
          let same : answer_of (Err refusal) ≡ accepted (progress 128 r (count r out)) = sym (ap answer_of e) ∙ a ∙ (sound_block r out good).0 in
          let z : ◌≡◌ {A = ℕ} 0 1 = cc in
          absurd (omega arith)

  -- and it stays sound
  pub still_sound : {table : List ℕ} → table ≡ block_cells 128 r (length out) → ((k : ℕ) → get_or r.rest k 0 < 256) → sound table ≡ true
  still_sound c bytes = ap sound (c ∙ (sound_block r out good).1) ∙ worked_sound r (count r out) good bytes

  module _ {block : Block} (e : b ≡ Ok block) (fits : block_fits b (length r.rest) (length out)) where
    answered : progress_of block ≡ progress 128 r (count r out)
    answered = ap given (sym (ap answer_of e) ∙ a ∙ (sound_block r out good).0)

    pub block_taken : block.taken ≡ count r out * record_size 128
    block_taken = ap (λ (p : Table.Progress). p.taken) answered

    bounds : (block.taken ≤ length r.rest) × (block.written ≤ length out)
    bounds = subst (λ (x : Result Block Refusal). block_fits x (length r.rest) (length out)) e fits

    -- the front of the output is the lines of its records
    pub block_lines : {out' : List ℕ} → out' ≡ block_text 128 r out → Printable (take block.written out')
    block_lines {out'} t =
        some_lines r (count r out)
        (ap (take block.written) (t ∙ (sound_block r out good).2)
        ∙ ap (λ (p : Table.Progress). take p.written (overwrite out 0 (printed 128 (count r out) r))) answered
        ∙ front_text out (printed 128 (count r out) r))

    pub block_done : {O E : Type 0} (p : Printer O) → p.totals ≡ block.totals → p.table ≡ block_cells 128 r (length out) → p.out ≡ block_text 128 r out
        → (answer : Result ℕ E) → IfOk answer (λ (n : ℕ). n ≡ count r out * record_size 128) → BlockDone r out p answer
    block_done p totals c t answer k =
        record {
          through = record {
            most = omega (arith, bounds.0, block_taken);
            cells = c ∙ (sound_block r out good).1;
            lines = ap (λ (x : Totals). x.lines) totals ∙ ap (λ (x : Table.Progress). x.lines) answered;
            refused = ap (λ (x : Totals). x.refused) totals ∙ ap (λ (x : Table.Progress). x.refused) answered;
          };
          taken = k;
          text = t ∙ (sound_block r out good).2;
        }
