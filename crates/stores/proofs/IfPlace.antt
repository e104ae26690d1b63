-- A change of a place that is guarded.
use Prim.Native.Nat.{ℕ, ◌≤◌, ◌<◌}
use mathlib.Core.Path.{◌≡◌, refl, sym, ◌∙◌, ap}
use mathlib.Core.Bool.{Bool, true, false, cond, ◌&&◌}
use mathlib.Core.List.{List, [], ◌∷◌, ◌++◌}
use borrow.Author.Tests.{eqb-true, eq-eqb, lt-ltb, le-leb, lt-leb}
use lib.Dec.{eqb, ltb}
use lib.ListN.{length}
use Rattle.rules.specs.Layout.{places, table_size, wiring_index, first_index}
use Rattle.protocol.proofs.Tests.{and_left}
use Rattle.protocol.specs.Form.{most_entries}
use Rattle.stores.specs.Stores.{Store, put, stored, listed_stores, listed_at, if_place, wired_at}
use Rattle.stores.proofs.Copies.{stored_append}
use Rattle.stores.proofs.Stores.{stored_length}

-- a place of a table
pub is_placed : (cells : List ℕ) (place : ℕ) (changed : List ℕ) → length cells ≡ table_size → place < places → (out : List ℕ) → out ≡ if_place cells place changed → out ≡ changed
unfolding if_place
is_placed cells place changed size h out e =
    e ∙ (λ i. cond (eq-eqb (length cells) table_size size i && lt-ltb place places h i) changed cells)

-- what a function makes of the cells, by the test of the place
module _ (cells : List ℕ) (place : ℕ) where
  pub stays : (changed : List ℕ) → (eqb (length cells) table_size && ltb place places) ≡ false → cells ≡ if_place cells place changed
  unfolding if_place
  stays changed e = sym (ap (λ (b : Bool). cond b changed cells) e)

  pub lent_size : (lent : List ℕ) → ((eqb (length cells) table_size && ltb place places) ≡ true) × (place < places) × (lent ≡ cells) → length lent ≡ table_size
  lent_size lent here = ap length here.2 ∙ eqb-true (length cells) table_size (and_left (eqb (length cells) table_size) (ltb place places) here.0)

  -- of the cells that are lent to it
  module _ (lent : List ℕ) (here : ((eqb (length cells) table_size && ltb place places) ≡ true) × (place < places) × (lent ≡ cells)) (change : List ℕ → List ℕ) (out : List ℕ) where
    pub changes : out ≡ change lent → out ≡ if_place cells place (change cells)
    unfolding if_place
    changes e = e ∙ ap change here.2 ∙ sym (ap (λ (b : Bool). cond b (change cells) cells) here.0)

    pub changed_to : out ≡ if_place lent place (change lent) → out ≡ change lent
    unfolding if_place
    changed_to e = e ∙ ap (λ (l : List ℕ). cond (eqb (length l) table_size && ltb place places) (change lent) lent) here.2 ∙ ap (λ (b : Bool). cond b (change lent) lent) here.0

-- stores after others, as one list of them
pub after_stores : (cells mid out : List ℕ) (place : ℕ) (xs ys : List Store) → mid ≡ stored cells place xs → out ≡ stored mid place ys → out ≡ stored cells place (xs ++ ys)
after_stores cells mid out place xs ys first then = then ∙ ap (λ (l : List ℕ). stored l place ys) first ∙ sym (stored_append cells place xs ys)

-- two records wired alike
pub both_wired : (cells : List ℕ) (one two kind partner : ℕ) (out : List ℕ) → length cells ≡ table_size → one < places → two < places → out ≡ wired_at (wired_at cells one kind partner) two kind partner
    → out ≡ stored (stored cells one (put wiring_index kind ∷ put first_index partner ∷ [])) two (put wiring_index kind ∷ put first_index partner ∷ [])
both_wired cells one two kind partner out size h k e =
    let stores = put wiring_index kind ∷ put first_index partner ∷ [] in
    let mid : wired_at cells one kind partner ≡ stored cells one stores = is_placed cells one (stored cells one stores) size h (wired_at cells one kind partner) refl in
    is_placed (stored cells one stores) two (stored (stored cells one stores) two stores) (stored_length cells one stores ∙ size) k out (e ∙ ap (λ (l : List ℕ). wired_at l two kind partner) mid)

-- a list of no more entries than there may be, and one of more
pub few_listed : (cells entries : List ℕ) (place experiment : ℕ) → length entries ≤ most_entries → listed_at cells place entries experiment ≡ stored cells place (listed_stores entries experiment)
few_listed cells entries place experiment h = ap (λ (b : Bool). cond b (stored cells place (listed_stores entries experiment)) cells) (le-leb (length entries) most_entries h)

pub many_listed : (cells entries : List ℕ) (place experiment : ℕ) → most_entries < length entries → cells ≡ listed_at cells place entries experiment
many_listed cells entries place experiment h = sym (ap (λ (b : Bool). cond b (stored cells place (listed_stores entries experiment)) cells) (lt-leb (length entries) most_entries h))
