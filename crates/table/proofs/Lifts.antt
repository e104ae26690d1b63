-- The changes of a table in its cells.
use Prim.Native.Nat.{ℕ, ◌*◌}
use native.Mathlib.Omega.{arith}
use mathlib.Core.Path.{◌≡◌, refl, sym, ◌∙◌, ap}
use mathlib.Core.Bool.{Bool, cond}
use mathlib.Core.List.{List}
use mathlib.Core.Option.{Option, none, some}
use borrow.Author.Tests.{ne_eqb}
use Rattle.rules.specs.Layout.{stride}
use Rattle.rules.specs.Facts.{Facts}
use Rattle.rules.specs.declared.Wiring.{Wiring}
use Rattle.rules.specs.declared.Wiring.TheVariants.{Unjoined, Joined, Virtual}
use Rattle.rules.specs.Table.{Record, Table, view_of_table, insert, change, remove, wired, dissolve}
use Rattle.rules.specs.Cells.{second_partner, record_cells, place_cells, cells_of}
use Rattle.rules.proofs.Lookup.{map_facts, view_change}
use Rattle.rules.proofs.Sound.{wiring?, wired_in, Distinct, Loose, Sound, seen}
use Rattle.rules.proofs.Pairs.{port_first, port_second}
use Rattle.rules.proofs.Keep.{loose_change}
use Rattle.rules.proofs.Apply.{fit_wired, loose_members}
use Rattle.soundness.specs.Place.{place_of, first_free}
use Rattle.stores.specs.Stores.{Store, stored, zeroed}
use Rattle.stores.proofs.Stores.{stored_in, Within, place_stores, place_zeroed}
use Rattle.table.proofs.Blocks.{wiring_stores, wiring_block}
use Rattle.table.proofs.Changes.{stands, change_place, remove_place, insert_place, free_none, place_change}

-- ---- the three changes

pub change_cells : (t : Table) (port : ℕ) (g : Facts → Facts) (f : Facts) (s : List Store) → Distinct t → view_of_table t port ≡ some f → Within s
    → stored_in (record_cells (record { port = port; facts = f })) s ≡ record_cells (record { port = port; facts = g f }) → stored (cells_of t) (place_of t port) s ≡ cells_of (change port g t)
change_cells t port g f s d e h block =
    let k = stands t port f e in
    place_stores t (place_of t port) s (some (record { port = port; facts = g f })) h (ap (λ (p : Option Record). stored_in (place_cells p) s) k.here ∙ block)
    ∙ sym (ap cells_of (change_place t port g f d e))

pub remove_cells : (t : Table) (port : ℕ) (f : Facts) → Distinct t → view_of_table t port ≡ some f → zeroed (cells_of t) (stride * place_of t port) stride ≡ cells_of (remove port t)
remove_cells t port f d e = place_zeroed t (place_of t port) (stands t port f e).below ∙ sym (ap cells_of (remove_place t port f d e))

pub insert_cells : (t : Table) (new : Record) (s : List Store) → Within s → stored_in (place_cells none) s ≡ place_cells (some new) → stored (cells_of t) (first_free t) s ≡ cells_of (insert new t)
insert_cells t new s h block =
    place_stores t (first_free t) s (some new) h (ap (λ (p : Option Record). stored_in (place_cells p) s) (free_none t) ∙ block) ∙ sym (ap cells_of (insert_place t new))

-- ---- a wiring replaced

wire_cells : (t : Table) (port : ℕ) (y z : Wiring) → Distinct t → wired_in t port ≡ some z → second_partner y ≡ second_partner z
    → stored (cells_of t) (place_of t port) (wiring_stores y) ≡ cells_of (change port (wired y) t)
wire_cells t port y z d e two =
    let s = seen (view_of_table t port) z e in
    change_cells t port (wired y) s.facts (wiring_stores y) d s.is (omega arith, (omega arith, tt))
    (wiring_block (record { port = port; facts = s.facts }) y (two ∙ sym (ap second_partner s.wired)))

-- what is known of another port
view_kept : (t : Table) (p q : ℕ) (y : Wiring) → (p ≡ q → ⊥) → view_of_table (change p (wired y) t) q ≡ view_of_table t q
view_kept t p q y n = view_change p (wired y) t q ∙ ap (λ (b : Bool). cond b (map_facts (wired y) (view_of_table t q)) (view_of_table t q)) (ne_eqb p q n)

-- of two ports one after the other
pub pair_cells : (t : Table) (a b : ℕ) (y z : Wiring) → Loose t → wired_in t a ≡ some z → wired_in t b ≡ some z → (a ≡ b → ⊥) → second_partner y ≡ second_partner z
    → stored (stored (cells_of t) (place_of t a) (wiring_stores y)) (place_of t b) (wiring_stores y) ≡ cells_of (change b (wired y) (change a (wired y) t))
pair_cells t a b y z l one two ab same =
    let u : Table = change a (wired y) t in
    ap (λ (l : List ℕ). stored l (place_of t b) (wiring_stores y)) (wire_cells t a y z l.distinct one same)
    ∙ ap (λ (i : ℕ). stored (cells_of u) i (wiring_stores y)) (sym (place_change t a (wired y) b))
    ∙ wire_cells u b y z (loose_change a (wired y) t l (λ (f : Facts) (_ : view_of_table t a ≡ some f). fit_wired a y f)).distinct (ap wiring? (view_kept t a b y ab) ∙ two) same

-- a virtual port dissolved
pub dissolve_cells : (t : Table) (p a b : ℕ) → Sound t → wired_in t p ≡ some (Virtual a b)
    → zeroed (stored (stored (cells_of t) (place_of t a) (wiring_stores Unjoined)) (place_of t b) (wiring_stores Unjoined)) (stride * place_of t p) stride ≡ cells_of (dissolve p a b t)
dissolve_cells t p a b s e =
    let u : Table = change a (wired Unjoined) t in
    let v : Table = change b (wired Unjoined) u in
    let k = seen (view_of_table t p) (Virtual a b) e in
    let pa : a ≡ p → ⊥ = λ (i : a ≡ p). port_first (wired_in t) s.pairs p a b e (sym i) in
    let pb : b ≡ p → ⊥ = λ (i : b ≡ p). port_second (wired_in t) s.pairs p a b e (sym i) in
    let place : place_of t p ≡ place_of v p = sym (place_change u b (wired Unjoined) p ∙ place_change t a (wired Unjoined) p) in
    (λ i. zeroed (pair_cells t a b Unjoined (Joined p) s.loose (s.pairs.first p a b e) (s.pairs.second p a b e) (s.pairs.apart p a b e) refl i) (stride * place i) stride)
    ∙ remove_cells v p k.facts (loose_members t a b Unjoined s.loose).distinct (view_kept u b p Unjoined pb ∙ view_kept t a p Unjoined pa ∙ k.is)
