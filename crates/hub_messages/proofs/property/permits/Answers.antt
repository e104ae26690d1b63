use Prim.Native.Nat.{ℕ, suc, ◌-◌, ◌/◌, ◌^◌, ◌≤◌}
use native.Mathlib.Omega.{arith}
use mathlib.Core.Path.{◌≡◌, refl}
use mathlib.Core.Bool.{Bool, true}
use mathlib.Core.List.{List}
use borrow.Author.Rules.{rules}
use lib.Bits.{bit_and}
use lib.Dec.{eqb}
use lib.ListN.{length, get_or, replicate}
use Rattle.protocol.specs.Properties.{permits}
use Rattle.protocol.proofs.Table.{every, entry, same, same_eq}
use Rattle.hub_messages.specs.declared.property.TheConstants.{PERMITTED}
use Rattle.hub_messages.proofs.property.permits.Goals as goal

-- bit i of a byte
abbrev bit : ℕ → ℕ → Bool
bit byte i = eqb (bit_and (byte / 2 ^ i) 1) 1

-- a place for each operation
abbrev six : List (Unit {0})
six = replicate 6 tt

abbrev cell : ℕ → ℕ → ℕ → Unit {0} → Bool
cell i byte j u = same (bit byte j) (permits (suc i) (suc j))

-- the six bits of a property's byte are what the rule says
abbrev row : ℕ → ℕ → Bool
row i byte = every (cell i byte) 0 six

-- the rule at every bit of a table that passes the test
rule : (table : List ℕ) → every row 0 table ≡ true → length table ≡ 15 → (p o : ℕ) → 1 ≤ p → p ≤ 15 → 1 ≤ o → o ≤ 6 → bit (get_or table (p - 1) 0) (o - 1) ≡ permits p o
rule table passes fifteen p o p1 p15 o1 o6 =
    let byte : ℕ = get_or table (p - 1) 0 in
    let good : row (p - 1) byte ≡ true = entry row 0 table passes (p - 1) (omega arith) in
    let found : bit byte (o - 1) ≡ permits (suc (p - 1)) (suc (o - 1)) = same_eq _ _ (entry (cell (p - 1) byte) tt six good (o - 1) (omega arith)) in
    let ep : suc (p - 1) ≡ p = omega arith in
    let eo : suc (o - 1) ≡ o = omega arith in
    rw (ep, eo) at found

pub returns : goal.returns
unfolding permits
returns c = rule PERMITTED refl refl c.args.property c.args.operation (search rules) (search rules) (search rules) (search rules)
