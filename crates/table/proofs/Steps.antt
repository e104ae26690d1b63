-- Each step of a table, by the cells of a sound one.
use Prim.Native.Nat.{ℕ, suc, ◌+◌, ◌*◌, ◌≤◌, ◌<◌}
use native.Mathlib.Omega.{arith}
use mathlib.Core.Path.{◌≡◌, refl, sym, ◌∙◌, ap}
use mathlib.Core.Bool.{Bool, true, false, cond, true≢false}
use mathlib.Core.List.{List, [], ◌∷◌}
use mathlib.Core.Option.{Option, none, some}
use mathlib.Core.Logic.{⊎_elim}
use borrow.Author.Tests.{eq-eqb, le-leb}
use lib.Dec.{eqb}
use lib.ListN.{length, get_or, take, drop, replicate}
use lib.Seq.{ext_get_or, get_or-take, get_or-drop}
use Rattle.rules.specs.declared.Change.TheVariants.{Unchanged, Formatted, Answered, Asked, Listed, Combined}
use Rattle.rules.specs.declared.Effect.TheVariants.{ToPort, Attach, AttachVirtual, Detach, Empty}
use Rattle.rules.specs.Layout.{places, stride, table_size, wiring_index, first_index, second_index, asked_index, answered_index, list_index, taken_index}
use Rattle.rules.specs.Learn.{answered_state, combined_state, learn}
use Rattle.rules.specs.Facts.{Asking, asked_single, asked_combined, Facts, known, is_virtual}
use Rattle.rules.specs.declared.Setup.{Setup}
use Rattle.rules.specs.declared.Format.{Format}
use Rattle.rules.specs.declared.Wiring.{Wiring}
use Rattle.rules.specs.declared.Wiring.TheVariants.{Unjoined, Joined, Virtual}
use Rattle.rules.specs.Table.{Record, Table, view_of_table, full_table, changed, change, remove, new_record, wired, on_settings, dissolve, wired_as, dissolve_by, detach_by, apply}
use Rattle.protocol.specs.Form.{last_mode, most_entries}
use Rattle.rules.specs.Judge.{pair_test, takes_over, told_refusal}
use Rattle.rules.specs.Cells.{wiring_cell, first_partner, second_partner, combined_cell, list_cells, record_cells, place_cells, cells_of, table_at, sound, empty_cells}
use Rattle.rules.specs.Cells as Cells
use Rattle.rules.proofs.Sound.{wiring?, wired_in, Sound, seen}
use Rattle.rules.proofs.Pairs.{Named, port_first, port_second, at_first, at_second, joined_virtual}
use Rattle.rules.proofs.Apply.{wired_dissolve, sound_dissolve}
use Rattle.rules.proofs.Kept.{good_pair}
use Rattle.rules.proofs.SettingsFit.{InLists, listed}
use Rattle.rules.proofs.CellsRecord.{list_length}
use Rattle.rules.proofs.CellsSound.{sound_is, sound_length, empty_cells_lem}
use Rattle.rules.proofs.Laws.{table_sound}
use Rattle.soundness.specs.Place.{place_of, first_free, cell_of, find_place, free_place}
use Rattle.stores.specs.Stores.{put, stored, three_stores, setup_stores, asking_stores, asked_stores, answered_stores, listed_stores, taken_stores, zeroed, asked_at, kept_cells, combined_state_by, listed_at, if_place, emptied, wired_at}
use Rattle.stores.proofs.IfPlace.{is_placed, both_wired}
use Rattle.std.specs.Prelude as Prelude
use Rattle.soundness.specs.Found.{Finds}
use Rattle.soundness.proofs.Found.{is_full}
use Rattle.soundness.proofs.Places.{sixteen, find_place_lem, free_place_lem}
use Rattle.stores.proofs.Stores.{cell_of_lem, stored_length}
use Rattle.stores.proofs.ListCells.{kept_length, kept_cell}
use Rattle.table.proofs.Blocks.{wiring_stores, format_stores, attach_stores, virtual_stores, cells_within, format_block, ask_block, list_block, answer_block, combine_block, asked_block, kept_block, kind_block, first_block, second_block, attach_block, virtual_block}
use Rattle.table.proofs.Changes.{stands, free_below, place_change, free_change, place_remove, freed_none}
use Rattle.table.proofs.Lifts.{change_cells, remove_cells, insert_cells, pair_cells, dissolve_cells}
use Rattle.table.proofs.Wirings.{present, kind_unjoined, kind_virtual, kind_joined, virtual_is, wired_known, wired_as_lem}

-- a port that is told nothing
change_nothing : (port : ℕ) (t : Table) → change port (on_settings (learn Unchanged [])) t ≡ t
unfolding learn
change_nothing port [] = refl
change_nothing port (none ∷ t) = ap (λ (u : Table). none ∷ u) (change_nothing port t)
change_nothing port (some r ∷ t) =
    let same : changed port (on_settings (learn Unchanged [])) r ≡ r = λ i. record { port = r.port; facts = either (eqb r.port port) r.facts i } in
    λ i. some (same i) ∷ change_nothing port t i
  where
    either : (b : Bool) (f : Facts) → cond b f f ≡ f
    either true f = refl
    either false f = refl

-- a 48 that is not refused takes over a list
record KeptList (x : Option (List ℕ)) : Type 0 where
  list : List ℕ
  is : x ≡ some list

kept_list : (p : ℕ) (x : Option (List ℕ)) → ◌≡◌ {A = ℕ} (cond (takes_over p x) 0 21) 0 → KeptList x
kept_list p none e = absurd (omega (arith, e))
kept_list p (some list) e = record { list = list; is = refl }

module _ (cells : List ℕ) (ok : sound cells ≡ true) where
  abbrev t : Table
  t = table_at cells

  abbrev formed : Sound t
  formed = table_sound cells ok

  abbrev is : cells ≡ cells_of t
  is = (sound_is cells ok).0

  -- ---- places within the table

  pub found_at : (port place : ℕ) → place ≡ find_place cells port → place ≡ place_of t port
  found_at port place e = e ∙ find_place_lem cells (sound_length cells ok) port

  pub free_at : (place : ℕ) → place ≡ free_place cells → place ≡ first_free t
  free_at place e = e ∙ free_place_lem cells (sound_length cells ok)

  pub room_found : (r : Prelude.Option ℕ) → Finds (free_place cells) r → full_table t ≡ false → Prelude.IsSome r
  room_found r e room = has_room r (is_full cells (sound_length cells ok) r e ∙ room)
    where
      has_room : (r : Prelude.Option ℕ) → Prelude.is_none r ≡ false → Prelude.IsSome r
      has_room Prelude.None e = absurd (true≢false e)
      has_room (Prelude.Some i) e = refl

  pub present_below_lem : (port place : ℕ) → known (view_of_table t port) ≡ true → place ≡ place_of t port → place < places
  present_below_lem port place k at =
      let p = present (view_of_table t port) k in
      omega (arith, (stands t port p.facts p.is).below, formed.loose.size)

  pub room_below : (place : ℕ) → full_table t ≡ false → place ≡ first_free t → place < places
  room_below place room at = omega (arith, free_below t room, formed.loose.size)

  -- two records wired alike
  record BothWired (one two kind partner : ℕ) (mid : List ℕ) : Type 0 where
    is : mid ≡ stored (stored cells one (put wiring_index kind ∷ put first_index partner ∷ [])) two (put wiring_index kind ∷ put first_index partner ∷ [])
    size : length mid ≡ table_size

  both_joined : (one two kind partner : ℕ) (mid : List ℕ) → one < places → two < places → mid ≡ wired_at (wired_at cells one kind partner) two kind partner → BothWired one two kind partner mid
  both_joined one two kind partner mid h k e =
      let stores = put wiring_index kind ∷ put first_index partner ∷ [] in
      let same = both_wired cells one two kind partner mid (sound_length cells ok) h k e in
      record { is = same; size = ap length same ∙ stored_length (stored cells one stores) two stores ∙ stored_length cells one stores ∙ sound_length cells ok }

  -- ---- attaching

  pub attach_is : (port device place : ℕ) (out : List ℕ) → full_table t ≡ false → place ≡ first_free t → out ≡ if_place cells place (stored cells place (attach_stores port device)) → out ≡ cells_of (apply (Attach port device) [] t)
  unfolding apply
  attach_is port device place out room at new =
      is_placed cells place (stored cells place (attach_stores port device)) (sound_length cells ok) (room_below place room at) out new ∙ (λ i. stored (is i) (at i) (attach_stores port device))
      ∙ insert_cells t (new_record port device Unjoined) (attach_stores port device) (omega arith, (omega arith, (omega arith, tt))) (attach_block port device)

  pub pair_known : (a b : ℕ) → pair_test (view_of_table t) a b ≡ true → (known (view_of_table t a) ≡ true) × (known (view_of_table t b) ≡ true)
  pair_known a b good = let g = good_pair t a b good in (wired_known (view_of_table t a) Unjoined g.one, wired_known (view_of_table t b) Unjoined g.two)

  pub attach_virtual_is : (port device a b place one two : ℕ) (mid out : List ℕ) → full_table t ≡ false → pair_test (view_of_table t) a b ≡ true → place ≡ first_free t → one ≡ place_of t a → two ≡ place_of t b
      → mid ≡ wired_at (wired_at cells one 2 port) two 2 port
      → out ≡ if_place mid place (stored mid place (virtual_stores port device a b))
      → out ≡ cells_of (apply (AttachVirtual port device a b) [] t)
  unfolding apply
  attach_virtual_is port device a b place one two mid out room good at at_a at_b joining new =
      let g = good_pair t a b good in
      let there = pair_known a b good in
      let both = both_joined one two 2 port mid (present_below_lem a one there.0 at_a) (present_below_lem b two there.1 at_b) joining in
      let u : Table = change a (wired (Joined port)) t in
      let v : Table = change b (wired (Joined port)) u in
      let joins : mid ≡ cells_of v =
      both.is ∙ (λ i. stored (stored (is i) (at_a i) (wiring_stores (Joined port))) (at_b i) (wiring_stores (Joined port)))
      ∙ pair_cells t a b (Joined port) Unjoined formed.loose g.one g.two g.apart refl
      in
      let free : first_free t ≡ first_free v = sym (free_change u b (wired (Joined port)) ∙ free_change t a (wired (Joined port))) in
      is_placed mid place (stored mid place (virtual_stores port device a b)) both.size (room_below place room at) out new ∙ (λ i. stored (joins i) ((at ∙ free) i) (virtual_stores port device a b))
      ∙ insert_cells v (new_record port device (Virtual a b)) (virtual_stores port device a b)
      (omega arith, (omega arith, (omega arith, (omega arith, (omega arith, tt))))) (virtual_block port device a b)

  -- ---- a port that is told nothing that is kept

  pub unchanged_is : (port : ℕ) → cells ≡ cells_of (apply (ToPort port Unchanged) [] t)
  unfolding apply
  unchanged_is port = is ∙ ap cells_of (sym (change_nothing port t))

  -- ---- the record of a port that is present

  module _ (port place : ℕ) (k : known (view_of_table t port) ≡ true) (at : place ≡ place_of t port) where
    abbrev f : Facts
    f = (present (view_of_table t port) k).facts

    abbrev seen_as : view_of_table t port ≡ some f
    seen_as = (present (view_of_table t port) k).is

    abbrev itself : Record
    itself = record { port = port; facts = f }

    abbrev below : place < places
    below = present_below_lem port place k at

    record_cell : (n : ℕ) → n < stride → cell_of cells place n ≡ get_or (place_cells (some itself)) n 0
    record_cell n h =
        let s = stands t port f seen_as in
        (λ i. get_or (is i) (stride * at i + n) 0) ∙ cell_of_lem t (place_of t port) n s.below h ∙ ap (λ (p : Option Record). get_or (place_cells p) n 0) s.here

    kind_is : cell_of cells place wiring_index ≡ wiring_cell f.wiring
    kind_is = record_cell wiring_index (omega arith) ∙ kind_block itself

    first_is : cell_of cells place first_index ≡ first_partner f.wiring
    first_is = record_cell first_index (omega arith) ∙ first_block itself

    second_is : cell_of cells place second_index ≡ second_partner f.wiring
    second_is = record_cell second_index (omega arith) ∙ second_block itself

    abbrev in_lists : InLists f.settings
    in_lists = listed f.settings (formed.loose.fit port f seen_as).settings.lists

    asked_is : asked_at cells place ≡ f.settings.asked
    asked_is = (λ i. Cells.asked_at (record_cell asked_index (omega arith) i) (record_cell (asked_index + 1) (omega arith) i) (record_cell (asked_index + 2) (omega arith) i)) ∙ asked_block itself in_lists.asked

    -- the cells of the list that it keeps
    kept_is_lem : kept_cells cells place ≡ list_cells f.settings.list
    kept_is_lem =
        let mine : List ℕ = take (suc most_entries) (drop list_index (record_cells itself)) in
        let many : length mine ≡ suc most_entries = ap length (kept_block itself) ∙ list_length f.settings.list in
        let size : length (kept_cells cells place) ≡ suc most_entries = kept_length cells place (sound_length cells ok) below in
        ext_get_or 0 (kept_cells cells place) mine (size ∙ sym many)
        (λ k h.
        let low : k < suc most_entries = omega (arith, size) in
        kept_cell cells place (sound_length cells ok) below k (omega arith)
        ∙ ap (λ (n : ℕ). get_or cells n 0) (omega arith)
        ∙ record_cell (list_index + k) (omega arith)
        ∙ sym (get_or-take (suc most_entries) (drop list_index (record_cells itself)) k 0 low ∙ get_or-drop list_index (record_cells itself) k 0))
        ∙ kept_block itself

    -- ---- what it is told

    pub set_format_is : (mode : ℕ) (new : Format) → mode ≤ last_mode → stored cells place (format_stores mode new) ≡ cells_of (apply (ToPort port (Formatted mode new)) [] t)
    unfolding apply
    set_format_is mode new h =
        (λ i. stored (is i) (at i) (format_stores mode new))
        ∙ change_cells t port (on_settings (learn (Formatted mode new) [])) f (format_stores mode new) formed.loose.distinct seen_as (omega arith, tt) (format_block itself mode new h)

    pub ask_is : (s : Setup) (x : ℕ) (out : List ℕ) → out ≡ if_place cells place (stored cells place (asked_stores s x)) → out ≡ cells_of (apply (ToPort port (Asked s x)) [] t)
    unfolding apply
    ask_is s x out new =
        is_placed cells place (stored cells place (asked_stores s x)) (sound_length cells ok) below out new ∙ (λ i. stored (is i) (at i) (asked_stores s x))
        ∙ change_cells t port (on_settings (learn (Asked s x) [])) f (asked_stores s x) formed.loose.distinct seen_as
        (omega arith, (omega arith, (omega arith, (omega arith, (omega arith, tt))))) (ask_block itself s x)

    pub answer_is : (s : Setup) (out : List ℕ) → out ≡ if_place cells place (stored cells place (answered_stores s (answered_state (asked_at cells place) s))) → out ≡ cells_of (apply (ToPort port (Answered s)) [] t)
    unfolding apply
    answer_is s out new =
        let state : ℕ = answered_state (asked_at cells place) s in
        let now : state ≡ answered_state f.settings.asked s = ap (λ (x : Option Asking). answered_state x s) asked_is in
        let many : length (replicate {A = ℕ} (suc most_entries) 0) ≡ suc most_entries = refl in
        is_placed cells place (stored cells place (answered_stores s state)) (sound_length cells ok) below out new ∙ (λ i. stored (is i) (at i) (answered_stores s (now i)))
        ∙ change_cells t port (on_settings (learn (Answered s) [])) f (answered_stores s (answered_state f.settings.asked s)) formed.loose.distinct seen_as
        (cells_within taken_index (replicate (suc most_entries) 0) (omega (arith, many)) (setup_stores answered_index s (answered_state f.settings.asked s)) (omega arith, (omega arith, (omega arith, (omega arith, tt))))) (answer_block itself s)

    pub list_is : (o : List ℕ) (x : ℕ) (out : List ℕ) → length o ≤ most_entries → out ≡ if_place cells place (listed_at cells place o x) → out ≡ cells_of (apply (ToPort port (Listed x)) o t)
    unfolding apply
    list_is o x out few new =
        is_placed cells place (listed_at cells place o x) (sound_length cells ok) below out new
        ∙ ap (λ (b : Bool). cond b (stored cells place (listed_stores o x)) cells) (le-leb (length o) most_entries few)
        ∙ (λ i. stored (is i) (at i) (listed_stores o x))
        ∙ change_cells t port (on_settings (learn (Listed x) o)) f (listed_stores o x) formed.loose.distinct seen_as
        (cells_within list_index (list_cells (some o)) (omega (arith, list_length (some o))) (asking_stores combined_cell 0 0 x) (omega arith, (omega arith, (omega arith, (omega arith, (omega arith, tt)))))) (list_block itself o x)

    -- the state after a 48, by the first cell of the list
    combined_state_lem : (p : ℕ) (list : List ℕ) → f.settings.list ≡ some list → combined_state_by (asked_at cells place) p (cell_of cells place list_index) ≡ combined_state f.settings.asked p list
    unfolding list_cells
    combined_state_lem p list e =
        let count : cell_of cells place list_index ≡ length list =
        ap (λ (n : ℕ). get_or cells n 0) (omega arith) ∙ sym (kept_cell cells place (sound_length cells ok) below 0 (omega arith)) ∙ ap (λ (l : List ℕ). get_or l 0 0) (kept_is_lem ∙ ap list_cells e)
        in
        (λ i. combined_state_by (asked_is i) p (count i)) ∙ by_asking f.settings.asked
      where
        by_asking : (x : Option Asking) → combined_state_by x p (length list) ≡ combined_state x p list
        by_asking none = refl
        by_asking (some (asked_single s)) = refl
        by_asking (some asked_combined) = refl

    pub combine_is : (p : ℕ) (out : List ℕ) → told_refusal (Combined p) (view_of_table t port) ≡ 0
        → out ≡ if_place cells place (stored cells place (taken_stores p (combined_state_by (asked_at cells place) p (cell_of cells place list_index)) (kept_cells cells place)))
        → out ≡ cells_of (apply (ToPort port (Combined p)) [] t)
    unfolding apply
    combine_is p out told new =
        let l = kept_list p f.settings.list (sym (ap (told_refusal (Combined p)) seen_as) ∙ told) in
        let xs : List ℕ = list_cells (some l.list) in
        let state : ℕ = combined_state f.settings.asked p l.list in
        is_placed cells place (stored cells place (taken_stores p (combined_state_by (asked_at cells place) p (cell_of cells place list_index)) (kept_cells cells place))) (sound_length cells ok) below out new
        ∙ (λ i. stored (is i) (at i) (taken_stores p (combined_state_lem p l.list l.is i) ((kept_is_lem ∙ ap list_cells l.is) i)))
        ∙ change_cells t port (on_settings (learn (Combined p) [])) f (taken_stores p state xs) formed.loose.distinct seen_as
        (cells_within taken_index xs (omega (arith, list_length (some l.list))) (three_stores answered_index combined_cell p 0 state) (omega arith, (omega arith, (omega arith, (omega arith, tt))))) (combine_block itself p l.list l.is)

    -- ---- it goes

    abbrev as_wired : (y : Wiring) → f.wiring ≡ y → wired_in t port ≡ some y
    as_wired y e = ap wiring? seen_as ∙ ap some e

    pub detach_unjoined : (out : List ℕ) → cell_of cells place wiring_index ≡ 1 → out ≡ if_place cells place (zeroed cells (stride * place) stride) → out ≡ cells_of (apply (Detach port) [] t)
    unfolding apply
    detach_unjoined out e new =
        let w = as_wired Unjoined (kind_unjoined f.wiring (sym kind_is ∙ e)) in
        is_placed cells place (zeroed cells (stride * place) stride) (sound_length cells ok) below out new ∙ (λ i. zeroed (is i) (stride * at i) stride) ∙ remove_cells t port f formed.loose.distinct seen_as ∙ sym (ap (λ (y : Wiring). cells_of (detach_by port y t)) (wired_as_lem (view_of_table t port) Unjoined w))

    pub detach_pair : cell_of cells place wiring_index ≡ 3 → is_virtual (wired_as (view_of_table t port)) ≡ true
    detach_pair e = ap (λ (x : Option Facts). is_virtual (wired_as x)) seen_as ∙ kind_virtual f.wiring (sym kind_is ∙ e)

    pub detach_virtual : (out : List ℕ) → cell_of cells place wiring_index ≡ 3 → out ≡ cells_of (dissolve_by port (wired_as (view_of_table t port)) t) → out ≡ cells_of (apply (Detach port) [] t)
    unfolding apply
    detach_virtual out e new = new ∙ ap cells_of (same (wired_as (view_of_table t port)) (detach_pair e))
      where
        same : (w : Wiring) → is_virtual w ≡ true → dissolve_by port w t ≡ detach_by port w t
        same w v = ap (λ (y : Wiring). dissolve_by port y t) (virtual_is w v) ∙ sym (ap (λ (y : Wiring). detach_by port y t) (virtual_is w v))

    -- a virtual port's members
    module _ (v : is_virtual (wired_as (view_of_table t port)) ≡ true) where
      abbrev a : ℕ
      a = cell_of cells place first_index

      abbrev b : ℕ
      b = cell_of cells place second_index

      pair_is : f.wiring ≡ Virtual a b
      pair_is = virtual_is f.wiring (sym (ap (λ (x : Option Facts). is_virtual (wired_as x)) seen_as) ∙ v) ∙ (λ i. Virtual (sym first_is i) (sym second_is i))

      abbrev pair : wired_in t port ≡ some (Virtual a b)
      pair = as_wired (Virtual a b) pair_is

      pub first_known : known (view_of_table t a) ≡ true
      first_known = wired_known (view_of_table t a) (Joined port) (formed.pairs.first port a b pair)

      pub second_known : known (view_of_table t b) ≡ true
      second_known = wired_known (view_of_table t b) (Joined port) (formed.pairs.second port a b pair)

      pub dissolve_is : (one two : ℕ) (mid out : List ℕ) → one ≡ place_of t a → two ≡ place_of t b → mid ≡ wired_at (wired_at cells one 1 0) two 1 0
          → out ≡ if_place mid place (zeroed mid (stride * place) stride) → out ≡ cells_of (dissolve_by port (wired_as (view_of_table t port)) t)
      dissolve_is one two mid out at_a at_b freeing new =
          let both = both_joined one two 1 0 mid (present_below_lem a one first_known at_a) (present_below_lem b two second_known at_b) freeing in
          is_placed mid place (zeroed mid (stride * place) stride) both.size below out new ∙ ap (λ (l : List ℕ). zeroed l (stride * place) stride) both.is
          ∙ (λ i. zeroed (stored (stored (is i) (at_a i) (wiring_stores Unjoined)) (at_b i) (wiring_stores Unjoined)) (stride * at i) stride) ∙ dissolve_cells t port a b formed pair
          ∙ sym (ap (λ (y : Wiring). cells_of (dissolve_by port y t)) (wired_as_lem (view_of_table t port) (Virtual a b) pair))

    -- a member of a virtual port
    module _ (not_pair : cell_of cells place wiring_index ≡ 3 → ⊥) (not-alone : cell_of cells place wiring_index ≡ 1 → ⊥) where
      abbrev v : ℕ
      v = cell_of cells place first_index

      joined_is : wired_in t port ≡ some (Joined v)
      joined_is =
          as_wired (Joined v)
          (kind_joined f.wiring (λ (e : wiring_cell f.wiring ≡ 3). not_pair (kind_is ∙ e)) (λ (e : wiring_cell f.wiring ≡ 1). not-alone (kind_is ∙ e)) ∙ ap Joined (sym first_is))

      abbrev named : Named (wired_in t) port v
      named = formed.pairs.up port v joined_is

      abbrev its : Wiring
      its = Virtual named.a named.b

      pub partner_virtual : is_virtual (wired_as (view_of_table t v)) ≡ true
      partner_virtual = ap is_virtual (wired_as_lem (view_of_table t v) its named.pair)

      -- what is left of the table without the virtual port
      abbrev rest : Table
      rest = dissolve v named.a named.b t

      still : wired_in rest port ≡ some Unjoined
      still =
          let va = port_first (wired_in t) formed.pairs v named.a named.b named.pair in
          let vb = port_second (wired_in t) formed.pairs v named.a named.b named.pair in
          wired_dissolve t formed v named.a named.b named.pair port
          ∙ ⊎_elim
          (λ (e : named.a ≡ port). at_first (wired_in t) v named.a named.b none (some Unjoined) va vb port e)
          (λ (e : named.b ≡ port). at_second (wired_in t) v named.a named.b none (some Unjoined) va vb port e)
          named.member

      apart : v ≡ port → ⊥
      apart e = joined_virtual v named.a named.b (sym joined_is ∙ sym (ap (wired_in t) e) ∙ named.pair)

      stays : place_of rest port ≡ place_of t port
      stays =
          place_remove (change named.b (wired Unjoined) (change named.a (wired Unjoined) t)) v port apart
          ∙ place_change (change named.a (wired Unjoined) t) named.b (wired Unjoined) port
          ∙ place_change t named.a (wired Unjoined) port

      pub detach_joined : (mid out : List ℕ) → length mid ≡ table_size → mid ≡ cells_of (dissolve_by v (wired_as (view_of_table t v)) t) → out ≡ if_place mid place (zeroed mid (stride * place) stride) → out ≡ cells_of (apply (Detach port) [] t)
      unfolding apply
      detach_joined mid out size dissolving new =
          let s = seen (view_of_table rest port) Unjoined still in
          let partner = wired_as_lem (view_of_table t v) its named.pair in
          let own = wired_as_lem (view_of_table t port) (Joined v) joined_is in
          is_placed mid place (zeroed mid (stride * place) stride) size below out new ∙ ap (λ (l : List ℕ). zeroed l (stride * place) stride) dissolving ∙ (λ i. zeroed (cells_of (dissolve_by v (partner i) t)) (stride * (at ∙ sym stays) i) stride)
          ∙ remove_cells rest port s.facts (sound_dissolve t formed v named.a named.b named.pair).loose.distinct s.is
          ∙ sym (ap (λ (y : Wiring). cells_of (detach_by port y t)) own ∙ ap (λ (y : Wiring). cells_of (remove port (dissolve_by v y t))) partner)

-- ---- emptying

pub empty_is : (cells out : List ℕ) → sound cells ≡ true → out ≡ emptied cells → out ≡ cells_of (apply Empty [] (table_at cells))
unfolding apply
empty_is cells out ok new =
    new ∙ ap (λ (b : Bool). cond b empty_cells cells) (eq-eqb (length cells) table_size (sound_length cells ok))
    ∙ sym (ap cells_of (freed_none (table_at cells) ∙ ap (λ (n : ℕ). replicate n none) (sixteen cells)) ∙ sym empty_cells_lem)
