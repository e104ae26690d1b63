-- What the call on a block of a log answers, from what the block function gives in the part of the text that is lent to it.
use Prim.Native.Nat.{ℕ, ◌+◌, ◌≤◌, ◌<◌, min}
use native.Mathlib.Nat.{zero-add}
use native.Mathlib.Omega.{arith}
use mathlib.Core.Path.{◌≡◌, refl, sym, ◌∙◌, ap}
use mathlib.Core.Bool.{Bool, true, false, cond}
use mathlib.Core.List.{List, [], ◌∷◌, ◌++◌, append_assoc}
use mathlib.Core.Logic.{⊎_elim}
use borrow.Author.Tests.{lt-ltb, le-ltb, ltb-true, ltb-false}
use lib.Dec.{ltb}
use lib.ListN.{length, set, take, drop, take-append-drop}
use lib.Seq.{length-take-le, drop-append-le}
use Rattle.protocol.proofs.Tests.{which}
use Rattle.protocol.specs.Overwrite.{overwrite}
use Rattle.protocol.specs.Refusal.{number_of, place_of}
use Rattle.protocol.specs.declared.refusal.Refusal.{Refusal}
use Rattle.std.specs.Prelude.{Result, Ok, Err}
use Rattle.rules.specs.Answer.{Answer, refused, accepted}
use Rattle.rules.specs.Cells.{sound}
use Rattle.log_rules.specs.Block.{block_records}
use Rattle.log_rules.specs.Cutting.{Run, printed}
use Rattle.table.specs.declared.block.Block.{Block}
use Rattle.table.specs.BlockAnswer.{Progress, progress_of, answer_of, progress, block_answer, block_cells, block_text}
use Rattle.answers.specs.Call.{mapped, in_room, lent_after}
use Rattle.castanetash.specs.Answers.{most_text, text_room, run_before, totals_row, text_of, block_call, cells_if, cells_then}

-- bytes put into the front of a part are put into the front of the whole
whole_text : (s text : List ℕ) (q : ℕ) → q ≤ length text → length s ≤ q → overwrite (take q text) 0 s ++ drop q text ≡ s ++ drop (length s) text
unfolding overwrite
whole_text s text q le fits =
    let rest : drop (length s) (take q text) ++ drop q text ≡ drop (length s) text =
    sym (drop-append-le (length s) (take q text) (drop q text) (omega (arith, length-take-le q text le))) ∙ ap (drop (length s)) (take-append-drop q text)
    in
    append_assoc s (drop (0 + length s) (take q text)) (drop q text) ∙ ap (λ (k : ℕ). s ++ (drop k (take q text) ++ drop q text)) (zero-add (length s)) ∙ ap (λ (l : List ℕ). s ++ l) rest

-- two cells that are stored
both_stored : (totals : List ℕ) (a b : ℕ) → 2 ≤ length totals → set (set totals 0 a) 1 b ≡ (a ∷ b ∷ []) ++ drop 2 totals
both_stored [] a b h = absurd (omega arith)
both_stored (x ∷ []) a b h = absurd (omega arith)
both_stored (x ∷ y ∷ rest) a b h = refl

-- the room that is used
pub room_is : (room : ℕ) → min room most_text ≡ text_room room
room_is room =
    ⊎_elim
    (λ (b : ltb most_text room ≡ true). let much = ltb-true most_text room b in let least : min room most_text ≡ most_text = omega arith in least ∙ sym (ap (λ (x : Bool). cond x most_text room) b))
    (λ (b : ltb most_text room ≡ false). let few = ltb-false most_text room b in let least : min room most_text ≡ room = omega arith in least ∙ sym (ap (λ (x : Bool). cond x most_text room) b))
    (which (ltb most_text room))

abbrev written_in : Answer Progress → ℕ
written_in (refused n place) = 0
written_in (accepted p) = p.written

abbrev taken? : Answer Progress → ℕ
taken? (refused n place) = 0
taken? (accepted p) = 1

module _ (cells totals log text : List ℕ) where
  abbrev run : Run
  run = run_before cells totals log

  abbrev room : ℕ
  room = text_room (length text)

  abbrev answer : Answer Progress
  answer = block_answer 128 run room

  abbrev call : Answer Progress
  call = block_call cells totals log (length text)

  abbrev Called : Answer ℕ → List ℕ → List ℕ → List ℕ → Type 0
  Called n table' totals' text' =
      (n ≡ mapped (λ (p : Progress). p.written) call)
      × (table' ≡ cells_then cells totals log (length text))
      × (totals' ≡ lent_after totals (mapped totals_row call))
      × (text' ≡ lent_after text (mapped (λ (p : Progress). text_of run (length text)) call))

  called_by : (a : Answer Progress) → call ≡ a → (n : Answer ℕ) (table' totals' text' : List ℕ)
      → n ≡ mapped (λ (p : Progress). p.written) a
      → table' ≡ cells_if cells (block_cells 128 run room) a
      → totals' ≡ lent_after totals (mapped totals_row a)
      → text' ≡ lent_after text (mapped (λ (p : Progress). text_of run (length text)) a)
      → Called n table' totals' text'
  unfolding cells_then
  called_by a e n table' totals' text' k l m o = (
    k ∙ ap (mapped (λ (p : Progress). p.written)) (sym e),
    l ∙ ap (cells_if cells (block_cells 128 run room)) (sym e),
    m ∙ ap (λ (x : Answer Progress). lent_after totals (mapped totals_row x)) (sym e),
    o ∙ ap (λ (x : Answer Progress). lent_after text (mapped (λ (p : Progress). text_of run (length text)) x)) (sym e),
  )

  refused_call : (n place : ℕ) → call ≡ refused n place → (r : Answer ℕ) → r ≡ refused n place → Called r cells totals text
  refused_call n place e r is = called_by (refused n place) e r cells totals text is refl refl refl

  -- ---- too few totals

  pub few_called : length totals < 2 → (r : Answer ℕ) → r ≡ cond (sound cells) (refused 255 0) (refused 9 0) → Called r cells totals text
  unfolding block_call block_answer
  few_called short r is =
      let x : ltb (length totals) 2 ≡ true = lt-ltb (length totals) 2 short in
      ⊎_elim
      (λ (s : sound cells ≡ true).
      refused_call 255 0 (ap (λ (b : Bool). in_room (length totals) (λ (p : Progress). length (totals_row p)) (cond b (accepted (progress 128 run (block_records 128 run room))) (refused 9 0))) s ∙ ap (λ (b : Bool). cond b (refused 255 0) (accepted (progress 128 run (block_records 128 run room)))) x) r
      (is ∙ ap (λ (b : Bool). cond b (refused 255 0) (refused 9 0)) s))
      (λ (s : sound cells ≡ false).
      refused_call 9 0 (ap (λ (b : Bool). in_room (length totals) (λ (p : Progress). length (totals_row p)) (cond b (accepted (progress 128 run (block_records 128 run room))) (refused 9 0))) s) r
      (is ∙ ap (λ (b : Bool). cond b (refused 255 0) (refused 9 0)) s))
      (which (sound cells))

  -- ---- by the block function

  answer_if : {b : Bool} → sound cells ≡ b → answer ≡ cond b (accepted (progress 128 run (block_records 128 run room))) (refused 9 0)
  unfolding block_answer
  answer_if s = ap (λ (b : Bool). cond b (accepted (progress 128 run (block_records 128 run room))) (refused 9 0)) s

  cells_if_lem : {b : Bool} → sound cells ≡ b → (n : ℕ) → b ≡ false → block_cells 128 run n ≡ cells
  unfolding block_cells
  cells_if_lem s n f = rw (s ∙ f)

  text_if : {b : Bool} → sound cells ≡ b → (part : List ℕ) → b ≡ false → block_text 128 run part ≡ part
  unfolding block_text
  text_if s part f = rw (s ∙ f)

  text_done : sound cells ≡ true → (part : List ℕ) → length part ≡ room → block_text 128 run part ≡ overwrite part 0 (text_of run (length text))
  unfolding block_text
  text_done s part size = rw s (ap (λ (n : ℕ). overwrite part 0 (printed 128 (block_records 128 run n) run)) size)

  module _ (q : ℕ) (is : q ≡ room) (le : q ≤ length text) (block : Result Block Refusal) (table' part' : List ℕ)
      (given : answer_of block ≡ block_answer 128 run (length (take q text)))
      (table_is : table' ≡ block_cells 128 run (length (take q text)))
      (part-is : part' ≡ block_text 128 run (take q text))
    where
      size : length (take q text) ≡ room
      size = length-take-le q text le ∙ is

      same : answer_of block ≡ answer
      same = given ∙ ap (block_answer 128 run) size

      pub refused_called : (r : Refusal) → block ≡ Err r → Called (refused (number_of r) (place_of r)) table' totals (part' ++ drop q text)
      unfolding block_call
      refused_called r e =
          let n : ℕ = number_of r in
          let place : ℕ = place_of r in
          let not_taken : answer ≡ refused n place = sym same ∙ ap answer_of e in
          let unsound : sound cells ≡ false =
          ⊎_elim (λ (s : sound cells ≡ true). let z : ◌≡◌ {A = ℕ} 1 0 = ap taken? (sym (answer_if s) ∙ not_taken) in absurd (omega arith)) (λ (s : sound cells ≡ false). s) (which (sound cells))
          in
          let table_stays : table' ≡ cells = table_is ∙ cells_if_lem unsound (length (take q text)) refl in
          let text_stays : part' ++ drop q text ≡ text = ap (λ (l : List ℕ). l ++ drop q text) (part-is ∙ text_if unsound (take q text) refl) ∙ take-append-drop q text in
          let called : call ≡ refused n place = ap (in_room (length totals) (λ (p : Progress). length (totals_row p))) not_taken in
          called_by (refused n place) called (refused n place) table' totals (part' ++ drop q text) refl table_stays refl text_stays

      pub done_called : (b : Block) → block ≡ Ok b → b.written ≤ length (take q text) → 2 ≤ length totals → Called (accepted b.written) table' (set (set totals 0 b.totals.lines) 1 b.totals.refused) (part' ++ drop q text)
      unfolding block_call
      done_called b e fits enough =
          let p : Progress = progress_of b in
          let yes : answer ≡ accepted p = sym same ∙ ap answer_of e in
          let good : sound cells ≡ true =
          ⊎_elim (λ (s : sound cells ≡ true). s) (λ (s : sound cells ≡ false). let z : ◌≡◌ {A = ℕ} 0 1 = ap taken? (sym (answer_if s) ∙ yes) in absurd (omega arith)) (which (sound cells))
          in
          let line : List ℕ = text_of run (length text) in
          let long : length line ≡ b.written = ap written_in (sym (answer_if good) ∙ yes) in
          let called : call ≡ accepted p = ap (in_room (length totals) (λ (x : Progress). length (totals_row x))) yes ∙ ap (λ (x : Bool). cond x (refused 255 0) (accepted p)) (le-ltb (length totals) 2 enough) in
          let text_is : part' ++ drop q text ≡ line ++ drop (length line) text =
          ap (λ (l : List ℕ). l ++ drop q text) (part-is ∙ text_done good (take q text) size) ∙ whole_text line text q le (omega (arith, long, fits, length-take-le q text le))
          in
          called_by (accepted p) called (accepted b.written) table' (set (set totals 0 b.totals.lines) 1 b.totals.refused) (part' ++ drop q text) refl (table_is ∙ ap (block_cells 128 run) size) (both_stored totals b.totals.lines b.totals.refused enough) text_is
