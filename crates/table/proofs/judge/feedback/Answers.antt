use mathlib.Core.Path.{◌≡◌, refl, sym, ◌∙◌, ap}
use mathlib.Core.Bool.{Bool, true, false, cond, ◌&&◌}
use mathlib.Core.List.{List, [], ◌∷◌, ◌++◌}
use Prim.Native.Nat.{ℕ, ◌<◌, min}
use native.Mathlib.Omega.{arith}
use lib.ListN.{length, get_or}
use Rattle.std.specs.Slice.Iter.{chunks_rest, chunks_size}
use Rattle.rules.specs.Answer.{tested}
use Rattle.rules.specs.Facts.{View}
use Rattle.rules.specs.Judge.{present, all_present, ports_named}
use Rattle.rules.specs.Offer.{view_of_cells}
use Rattle.table.proofs.Judging.{named_first}
use Rattle.table.proofs.judge.feedback.Goals as goal

-- whether the ports of all pairs are present, by the first pair
first_pair : (view : View) (left pair others : List ℕ) → left ≡ pair ++ others → length pair ≡ min 2 (length left) → 0 < length left → (b : Bool) → b ≡ present view (get_or pair 0 0) → all_present view (ports_named left) ≡ (b && all_present view (ports_named others))
first_pair view left pair others is size some_left b e =
    ap (λ (l : List ℕ). all_present view (ports_named l)) is
    ∙ ap (all_present view) (named_first pair others (size ∙ ap (λ (l : List ℕ). min 2 (length l)) is) (omega (arith, ap length is)))
    ∙ ap (λ (x : Bool). x && all_present view (ports_named others)) (sym e)

nothing : (view : View) (left : List ℕ) → ◌≡◌ {A = ℕ} (length left) 0 → all_present view (ports_named left) ≡ true
nothing view [] e = refl
nothing view (x ∷ left) e = absurd (omega (arith, e))

pub loop-pair-init : goal.loop-pair-init
loop-pair-init c =
    let from = c.into_iter-pair-iterator.ensures.into_iter_gives in
    let view = view_of_cells c.args.table.cells.now in
    (ap (λ s. chunks_size s) from ∙ c.chunks-pair-items.ensures.size, ap (λ (l : List ℕ). all_present view (ports_named l)) (sym (ap (λ s. chunks_rest s) from ∙ c.chunks-pair-items.ensures.rest)))

pub bounds-pair-0 : goal.bounds-pair-0
bounds-pair-0 c =
    let s = c.in-Some.ensures.steps.1 in
    omega (arith, s.1, s.2, c.loop-pair.invariant.0)

pub returns-then-not-is_present : goal.returns-then-not-is_present
returns-then-not-is_present c =
    let view = view_of_cells c.args.table.cells.now in
    let s = c.in-Some.ensures.steps.1 in
    sym (ap (λ (b : Bool). tested (cond b 0 10)) (c.loop-pair.invariant.1 ∙ first_pair view _ _ _ s.0 (s.1 ∙ ap (λ (n : ℕ). min n (length (chunks_rest c.loop-pair.pair-iterator))) c.loop-pair.invariant.0) s.2 false (sym c.if-not-is_present.true ∙ c.is_present.ensures)))

pub loop-pair-preserved : goal.loop-pair-preserved
loop-pair-preserved c =
    let view = view_of_cells c.args.table.cells.now in
    let k = c.in-Some.ensures.steps in
    let s = k.1 in
    (k.0 ∙ c.loop-pair.invariant.0, c.loop-pair.invariant.1 ∙ first_pair view _ _ _ s.0 (s.1 ∙ ap (λ (n : ℕ). min n (length (chunks_rest c.loop-pair.pair-iterator))) c.loop-pair.invariant.0) s.2 true (sym c.if-not-is_present.false ∙ c.is_present.ensures))

pub returns : goal.returns
returns c = sym (ap (λ (b : Bool). tested (cond b 0 10)) (c.loop-pair.invariant.1 ∙ nothing (view_of_cells c.args.table.cells.now) _ c.in-None.ensures.steps.1.0))
