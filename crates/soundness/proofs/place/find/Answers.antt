use Prim.Native.Nat.{ℕ, ◌<◌}
use native.Mathlib.Omega.{arith}
use mathlib.Core.Path.{sym, ◌∙◌, ap}
use mathlib.Core.List.{List}
use lib.ListN.{length}
use Rattle.rules.specs.Layout.{places}
use Rattle.soundness.specs.Place.{find_place}
use Rattle.soundness.proofs.Places.{find_place_lem, no_place, place_start, place_here, place_later, place_end, step_on, step_last}
use Rattle.soundness.proofs.place.find.Goals as goal

pub returns-in_err-table : goal.returns-in_err-table
returns-in_err-table c = rw c.from_residual.ensures (no_place c.args.table.now c.in_err-table.ensures.cases c.args.port)

pub loop-i-init : goal.loop-i-init
loop-i-init c =
    let chunk = c.in_ok-table.ensures.cases in
    let cells = c.in_ok-table.table.now in
    find_place_lem cells (ap length chunk.same ∙ chunk.long) c.args.port ∙ place_start cells c.args.port

pub returns-then-is_at : goal.returns-then-is_at
returns-then-is_at c =
    let cells = c.in_ok-table.table.now in
    let port = c.args.port in
    let loop = c.loop-i in
    let below : loop.i < places = omega (arith, c.loop-i-test.true) in
    let is = step_last _ loop.i _ loop.invariant (place_here cells loop.i port below (sym c.is_at.ensures ∙ c.if-is_at.true)) in
    (below, is ∙ ap (λ (l : List ℕ). find_place l port) c.in_ok-table.ensures.cases.same)

pub loop-i-preserved : goal.loop-i-preserved
loop-i-preserved c =
    let loop = c.loop-i in
    let below : loop.i < places = omega (arith, c.loop-i-test.true) in
    step_on _ loop.i _ _ loop.invariant (place_later c.in_ok-table.table.now loop.i c.args.port below (sym c.is_at.ensures ∙ c.if-is_at.false))

pub returns : goal.returns
returns c =
    let cells = c.in_ok-table.table.now in
    let port = c.args.port in
    let loop = c.loop-i in
    let past = c.loop-i-test.false in
    let same = ap (λ (l : List ℕ). find_place l port) c.in_ok-table.ensures.cases.same in
    omega (arith, past, loop.invariant, loop.auto.i-end, place_end cells loop.i port past, same)
