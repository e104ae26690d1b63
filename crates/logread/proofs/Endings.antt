-- The ending of a log, by how far its reading is.
use Prim.Native.Nat.{ℕ, zero, suc, ◌≤◌}
use native.Mathlib.Omega.{arith}
use mathlib.Core.Path.{◌≡◌, refl, sym, ◌∙◌, ap}
use mathlib.Core.Bool.{Bool, true, false, cond, not, ◌&&◌, ◌||◌}
use mathlib.Core.List.{List, []}
use mathlib.Core.Logic.{◌⊎◌, inl, inr}
use lib.Dec.{eqb, ltb}
use lib.ListN.{length, take}
use borrow.Author.Tests.{lt-ltb, ne_eqb}
use lib.Seq.{length-take-le}
use Rattle.protocol.proofs.Tests.{which}
use Rattle.log_rules.specs.Cutting.{Run, start, ending}
use Rattle.log_rules.specs.Pieces.{after_pieces}
use Rattle.log_rules.specs.Ending.{ending_in, ending_text, most_count}
use Rattle.log_rules.proofs.Endings.{ending_of_run}
use Rattle.logread.specs.declared.reading.LogReader.{LogReader}
use Rattle.logread.specs.Printed.{Printable, some_lines, whole_ending}
use Rattle.logread.specs.Reading.{ending_of, run_at}
use Rattle.logread.proofs.Reached.{After}
use Rattle.protocol.specs.Overwrite.{overwrite}
use Rattle.log_rules.specs.OverwriteIfRoom.{overwrite_if_room}
use Rattle.log_rules.proofs.OverwriteIfRoom.{if_room}
use Rattle.logread.proofs.Moving.{front_text}

-- something is held
some_held : (n : ℕ) → ltb 0 n ≡ not (eqb n 0)
some_held zero = refl
some_held (suc n) = lt-ltb 0 (suc n) (omega arith) ∙ sym (ap not (ne_eqb (suc n) 0 (λ (e : suc n ≡ 0). omega (arith, e))))

-- the front of the output is the ending
pub ending_put : (d : List ℕ) (lines refused held : ℕ) {n : ℕ} {out : List ℕ}
    → n ≡ length (ending_in (length d) lines refused (ltb 0 held)) → n ≤ length d → out ≡ overwrite_if_room d 0 (ending_in (length d) lines refused (ltb 0 held))
    → take n out ≡ ending_in (length d) lines refused (not (eqb held 0))
ending_put d lines refused held {n} {out} size h e =
    let text : List ℕ = ending_in (length d) lines refused (ltb 0 held) in
    ap (take n) (e ∙ if_room d 0 text (omega (arith, size, h)))
    ∙ ap (λ (k : ℕ). take k (overwrite d 0 text)) size
    ∙ front_text d text
    ∙ ap (ending_in (length d) lines refused) (some_held held)

-- where the program stands at the end of the input, what it prints is the ending of the log
pub end_printable : {R O : Type 0} (p : LogReader R O) (room : ℕ) → After (run_at p) → {text : List ℕ} → text ≡ ending_of room p.held p.printer.totals → Printable text
unfolding ending_in
end_printable p room a {text} e = go (which none)
  where
    r : Run
    r = after_pieces 128 start a.pieces

    cut : Bool
    cut = not (eqb p.held 0)

    -- nothing is printed
    none : Bool
    none = ltb room 128 || (cut && (eqb p.printer.totals.lines most_count || eqb p.printer.totals.refused most_count))

    size : length r.rest ≡ p.held
    size = sym (ap (λ (x : Run). length x.rest) a.reached) ∙ length-take-le p.held p.input p.within

    same : ending_text p.printer.totals.lines p.printer.totals.refused cut ≡ ending r
    same =
        (λ i. ending_text (a.reached i).lines (a.reached i).refused (not (eqb (sym size i) 0)))
        ∙ sym (ending_of_run r)

    go : (none ≡ true) ⊎ (none ≡ false) → Printable text
    go (inl t) = some_lines r 0 (e ∙ ap (λ (b : Bool). cond b [] (ending_text p.printer.totals.lines p.printer.totals.refused cut)) t)
    go (inr t) = whole_ending a.pieces (e ∙ ap (λ (b : Bool). cond b [] (ending_text p.printer.totals.lines p.printer.totals.refused cut)) t ∙ same)
