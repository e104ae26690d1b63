-- Working through a block, record by record.
use Prim.Native.Nat.{ℕ, suc, ◌+◌, ◌*◌, ◌-◌, ◌≤◌, ◌<◌}
use native.Mathlib.Omega.{arith}
use mathlib.Core.Path.{◌≡◌, refl, sym, ◌∙◌, ap, subst}
use mathlib.Core.Bool.{Bool, true, false, cond, not, ◌&&◌}
use mathlib.Core.List.{List, ◌++◌}
use borrow.Author.Tests.{leb-true, ltb-true}
use lib.Dec.{eqb, leb, ltb}
use lib.ListN.{length, take, drop, length-append, length-drop}
use Rattle.protocol.proofs.Tests.{and_left, and_right}
use Rattle.rules.specs.Cells.{sound}
use Rattle.log_rules.specs.Decimal.{line_text}
use Rattle.log_rules.specs.Record.{record_size}
use Rattle.log_rules.specs.Line.{Line, record_line, cells_after_record, refusal_of, numbers_of}
use Rattle.protocol.specs.Overwrite.{overwrite}
use Rattle.log_rules.specs.Cutting.{Run, worked, printed}
use Rattle.log_rules.specs.Ending.{most_count}
use Rattle.log_rules.specs.Block.{line_room, goes_on, records_in, block_records}
use Rattle.protocol.proofs.Overwrite.{overwrite_nothing, overwrite_length, overwrite_then}
use Rattle.log_rules.proofs.OneMore.{next_record, next_line, cells_next, lines_next, refused_next, text_next, takes_more, takes_none, run_next, printed_one}
use Rattle.rules.specs.Answer.{accepted}
use Rattle.std.specs.Int.{from_bool}
use Rattle.table.specs.declared.block.Block.{Block}
use Rattle.table.specs.BlockAnswer.{progress, progress_of, block_answer, block_cells, block_text}
use Rattle.log_lines.specs.LogLine.{PrintedAs}

-- ---- the records that were worked through

-- one more refusal where a line is one
counts : (passes is-refused : Bool) → is-refused ≡ not passes → from_bool is-refused ≡ cond passes 0 1
counts true is-refused e = ap from_bool e
counts false is-refused e = ap from_bool e

pub at_most_one : (b : Bool) → from_bool b ≤ 1
at_most_one true = omega arith
at_most_one false = omega arith

pub record Working (r : Run) (out₀ table out : List ℕ) (b : Block) : Type 0 where
  pub through : ℕ
  pub cells : table ≡ (worked 128 through r).cells
  pub good : sound table ≡ true
  pub text : out ≡ overwrite out₀ 0 (printed 128 through r)
  pub ends : b.written ≡ length (printed 128 through r)
  pub room : b.written ≤ length out₀
  pub lines : b.totals.lines ≡ (worked 128 through r).lines
  pub refused : b.totals.refused ≡ (worked 128 through r).refused
  pub took : b.taken ≡ through * record_size 128
  pub there : b.taken ≤ length r.rest
  pub left : block_records 128 r (length out₀) ≡ through + records_in 128 (length r.rest - through) (worked 128 through r) (length out₀ - b.written)

pub working_start : (r : Run) (out : List ℕ) → sound r.cells ≡ true → Working r out r.cells out (record { taken = 0; written = 0; totals = record { lines = r.lines; refused = r.refused } })
unfolding block_records
working_start r out s =
    let none_lines : r.lines + 0 ≡ r.lines = omega arith in
    let none_refused : r.refused + 0 ≡ r.refused = omega arith in
    let all : length r.rest - 0 ≡ length r.rest = omega arith in
    let whole_room : length out - 0 ≡ length out = omega arith in
    let same : worked 128 0 r ≡ r = λ i. record { cells = r.cells; lines = none_lines i; refused = none_refused i; rest = r.rest } in
    let amount : records_in 128 (length r.rest - 0) (worked 128 0 r) (length out - 0) ≡ records_in 128 (length r.rest) r (length out) = λ i. records_in 128 (all i) (same i) (whole_room i) in
    record {
      through = 0;
      cells = refl;
      good = s;
      text = sym (overwrite_nothing out 0);
      ends = refl;
      room = omega arith;
      lines = sym none_lines;
      refused = sym none_refused;
      took = omega arith;
      there = omega arith;
      left = omega (arith, amount);
    }

module _ (r : Run) (out₀ table out : List ℕ) (b : Block) (k : Working r out₀ table out b) where
  abbrev run : Run
  run = worked 128 k.through r

  pub same_size : length out ≡ length out₀
  same_size = ap length k.text ∙ overwrite_length out₀ 0 (printed 128 k.through r) (omega (arith, k.ends, k.room))

  -- what is left of the input
  rest_is : run.rest ≡ drop b.taken r.rest
  rest_is = ap (λ (n : ℕ). drop n r.rest) (sym k.took)

  rest_size : length run.rest ≡ length r.rest - b.taken
  rest_size = ap length rest_is ∙ length-drop b.taken r.rest

  pub goes_as : (leb (record_size 128) (length r.rest - b.taken) && leb line_room (length out - b.written) && ltb b.totals.lines most_count && ltb b.totals.refused most_count) ≡ goes_on 128 run (length out₀ - b.written)
  goes_as = λ i. leb (record_size 128) (sym rest_size i) && leb line_room (same_size i - b.written) && ltb (k.lines i) most_count && ltb (k.refused i) most_count

  module _ (again : (leb (record_size 128) (length r.rest - b.taken) && leb line_room (length out - b.written) && ltb b.totals.lines most_count && ltb b.totals.refused most_count) ≡ true) where
    tests : (leb (record_size 128) (length r.rest - b.taken) ≡ true) × (leb line_room (length out - b.written) ≡ true) × (ltb b.totals.lines most_count ≡ true) × (ltb b.totals.refused most_count ≡ true)
    tests =
        let front = and_left (leb (record_size 128) (length r.rest - b.taken) && leb line_room (length out - b.written) && ltb b.totals.lines most_count) (ltb b.totals.refused most_count) again in
        let two = and_left (leb (record_size 128) (length r.rest - b.taken) && leb line_room (length out - b.written)) (ltb b.totals.lines most_count) front in
        (and_left (leb (record_size 128) (length r.rest - b.taken)) (leb line_room (length out - b.written)) two, and_right (leb (record_size 128) (length r.rest - b.taken)) (leb line_room (length out - b.written)) two, and_right (leb (record_size 128) (length r.rest - b.taken) && leb line_room (length out - b.written)) (ltb b.totals.lines most_count) front, and_right (leb (record_size 128) (length r.rest - b.taken) && leb line_room (length out - b.written) && ltb b.totals.lines most_count) (ltb b.totals.refused most_count) again)

    pub record_there : b.taken + record_size 128 ≤ length r.rest
    record_there = let h : record_size 128 ≤ length r.rest - b.taken = leb-true (record_size 128) (length r.rest - b.taken) tests.0 in omega arith

    pub room_there : b.written + line_room ≤ length out
    room_there = let h : line_room ≤ length out - b.written = leb-true line_room (length out - b.written) tests.1 in omega arith

    pub count_fits : b.totals.lines < most_count
    count_fits = ltb-true b.totals.lines most_count tests.2

    pub bad_fits : b.totals.refused < most_count
    bad_fits = ltb-true b.totals.refused most_count tests.3

    -- the next record
    pub record_is : take (record_size 128) (drop b.taken r.rest) ≡ next_record 128 r k.through
    record_is = ap (take (record_size 128)) (sym rest_is)

    pub working_next : (table' out' : List ℕ) (end : ℕ) (is-refused : Bool) (more : ℕ) → more ≡ from_bool is-refused → (s : List ℕ) → s ≡ next_record 128 r k.through → PrintedAs out out' b.written (b.totals.lines + 1) (record_line 128 table s) end is-refused → table' ≡ cells_after_record 128 table s → sound table' ≡ true
        → Working r out₀ table' out' (record { taken = b.taken + record_size 128; written = end; totals = record { lines = b.totals.lines + 1; refused = b.totals.refused + more } })
    working_next table' out' end is-refused more by s is p c g =
        let d : ℕ = k.through in
        let line_is : record_line 128 table s ≡ next_line 128 r d = λ i. record_line 128 (k.cells i) (is i) in
        let q : PrintedAs out out' b.written (b.totals.lines + 1) (next_line 128 r d) end is-refused = subst (λ (l : Line). PrintedAs out out' b.written (b.totals.lines + 1) l end is-refused) line_is p in
        let line : List ℕ = line_text (b.totals.lines + 1) (numbers_of (next_line 128 r d)) in
        let numbered_same : line_text ((worked 128 d r).lines + 1) (numbers_of (next_line 128 r d)) ≡ line = ap (λ (n : ℕ). line_text (n + 1) (numbers_of (next_line 128 r d))) (sym k.lines) in
        let whole_text : printed 128 (suc d) r ≡ printed 128 d r ++ line = text_next 128 r d ∙ ap (λ (t : List ℕ). printed 128 d r ++ t) numbered_same in
        let whole_length : length (printed 128 (suc d) r) ≡ length (printed 128 d r) + length line = ap length whole_text ∙ length-append (printed 128 d r) line in
        let one_length : length (printed 128 1 (worked 128 d r)) ≡ length line = ap length (printed_one 128 r d ∙ numbered_same) in
        let size : d * record_size 128 + record_size 128 ≡ suc d * record_size 128 = omega arith in
        let at_is : b.written ≡ 0 + length (printed 128 d r) = omega (arith, k.ends) in
        let more_left : length r.rest - d ≡ suc (length r.rest - suc d) = omega (arith, k.took, record_there) in
        let takes : records_in 128 (length r.rest - d) (worked 128 d r) (length out₀ - b.written) ≡ suc (records_in 128 (length r.rest - suc d) (worked 128 (suc d) r) (length out₀ - end)) =
        ap (λ (n : ℕ). records_in 128 n (worked 128 d r) (length out₀ - b.written)) more_left
        ∙ takes_more 128 r d (length r.rest - suc d) (length out₀ - b.written) (sym goes_as ∙ again)
        ∙ (let room_left : length out₀ - b.written - length (printed 128 1 (worked 128 d r)) ≡ length out₀ - end = omega (arith, q.ends, one_length) in
        λ i. suc (records_in 128 (length r.rest - suc d) (run_next 128 r d i) (room_left i)))
        in
        record {
          through = suc d;
          cells = c ∙ (λ i. cells_after_record 128 (k.cells i) (is i)) ∙ sym (cells_next 128 r d);
          good = g;
          text =
              q.text
              ∙ (λ i. overwrite (k.text i) (at_is i) line)
              ∙ overwrite_then out₀ 0 (printed 128 d r) line (omega (arith, k.ends, k.room))
              ∙ ap (overwrite out₀ 0) (sym whole_text);
          ends = omega (arith, q.ends, k.ends, whole_length);
          room = omega (arith, q.most, room_there, same_size);
          lines = omega (arith, k.lines, lines_next 128 r d);
          refused = let one : more ≡ cond (eqb (refusal_of (next_line 128 r d)) 0) 0 1 = by ∙ counts (eqb (refusal_of (next_line 128 r d)) 0) is-refused q.counted in omega (arith, k.refused, one, refused_next 128 r d);
          took = omega (arith, k.took, size);
          there = omega (arith, record_there);
          left = omega (arith, k.left, takes);
        }

  -- at the end
  pub all_done : (leb (record_size 128) (length r.rest - b.taken) && leb line_room (length out - b.written) && ltb b.totals.lines most_count && ltb b.totals.refused most_count) ≡ false → k.through ≡ block_records 128 r (length out₀)
  all_done stops =
      let none_more : records_in 128 (length r.rest - k.through) run (length out₀ - b.written) ≡ 0 = takes_none 128 run (length r.rest - k.through) (length out₀ - b.written) (sym goes_as ∙ stops) in
      omega (arith, k.left, none_more)

  abbrev total : ℕ
  total = block_records 128 r (length out₀)

  pub finished : (leb (record_size 128) (length r.rest - b.taken) && leb line_room (length out - b.written) && ltb b.totals.lines most_count && ltb b.totals.refused most_count) ≡ false
      → (progress_of b ≡ progress 128 r total) × (table ≡ (worked 128 total r).cells) × (out ≡ overwrite out₀ 0 (printed 128 total r)) × ((b.taken ≤ length r.rest) × (b.written ≤ length out₀))
  finished stops =
      let is : k.through ≡ total = all_done stops in
      ((λ i. record { taken = k.took i; written = k.ends i; lines = k.lines i; refused = k.refused i }) ∙ ap (progress 128 r) is, k.cells ∙ ap (λ (n : ℕ). (worked 128 n r).cells) is, k.text ∙ ap (λ (n : ℕ). overwrite out₀ 0 (printed 128 n r)) is, (k.there, k.room))

-- ---- a table that is sound

module _ (r : Run) (out : List ℕ) where
  abbrev taken_there : ℕ
  taken_there = block_records 128 r (length out)

  pub sound_block : sound r.cells ≡ true → (block_answer 128 r (length out) ≡ accepted (progress 128 r taken_there)) × (block_cells 128 r (length out) ≡ (worked 128 taken_there r).cells) × (block_text 128 r out ≡ overwrite out 0 (printed 128 taken_there r))
  unfolding block_answer block_cells block_text
  sound_block s = (rw s, rw s, rw s)
