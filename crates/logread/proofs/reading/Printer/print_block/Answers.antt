use Prim.Native.Nat.{ℕ}
use Rattle.std.proofs.Common.{rules, refl}
use Rattle.logread.specs.Reading.{run_with}
use Rattle.logread.proofs.Blocks.{block_done, block_lines, block_taken, block_ok, still_sound}
use Rattle.logread.proofs.reading.Printer.print_block.Goals as goal

pub unwrap-block-requires : goal.unwrap-block-requires
unwrap-block-requires g c =
    let p = c.args.self.now in
    let r = run_with p c.args.input.now in
    let b = c.read_block in
    block_ok r p.out p.is_sound b.result b.ensures.0

pub print-requires : goal.print-requires
print-requires g c =
    let p = c.args.self.now in
    let r = run_with p c.args.input.now in
    let b = c.read_block in
    block_lines r p.out p.is_sound b.result b.ensures.0 c.unwrap-block.ensures b.ensures.3 b.ensures.2

pub invariant_of-self : goal.invariant_of-self
invariant_of-self g c =
    let p = c.args.self.now in
    let r = run_with p c.args.input.now in
    let b = c.read_block in
    record { is_sound = still_sound r p.out p.is_sound b.result b.ensures.0 b.ensures.1 (λ (k : ℕ). (c.type_inv.input k).fits) }

pub returns-in_err-print : goal.returns-in_err-print
returns-in_err-print g c =
    let p = c.args.self.now in
    let r = run_with p c.args.input.now in
    let b = c.read_block in
    block_done r p.out p.is_sound b.result b.ensures.0 c.unwrap-block.ensures b.ensures.3 _ refl b.ensures.1 b.ensures.2 c.from_residual.result (search rules)

pub returns : goal.returns
returns g c =
    let p = c.args.self.now in
    let r = run_with p c.args.input.now in
    let b = c.read_block in
    block_done r p.out p.is_sound b.result b.ensures.0 c.unwrap-block.ensures b.ensures.3 _ refl b.ensures.1 b.ensures.2 _ (block_taken r p.out p.is_sound b.result b.ensures.0 c.unwrap-block.ensures b.ensures.3)
