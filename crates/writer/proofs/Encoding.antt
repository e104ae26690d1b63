-- Writing a message is writing its slots.
use Prim.Native.Nat.{ℕ, zero, suc, ◌+◌, ◌%◌, ◌≤◌}
use native.Mathlib.Nat.{add-zero}
use native.Mathlib.Omega.{arith}
use mathlib.Core.Path.{◌≡◌, refl, sym, ◌∙◌, ap}
use mathlib.Core.Bool.{Bool, true, false, cond, ◌&&◌}
use mathlib.Core.List.{List, [], ◌∷◌, ◌++◌, append-nil, append_assoc}
use mathlib.Core.Logic.{⊎_elim}
use mathlib.Core.Option.{Option, none, some}
use borrow.Author.Tests.{eqb-true, eq-eqb, ne_eqb}
use lib.Dec.{eqb, leb, ltb}
use lib.ListN.{length, take, drop, replicate, take-append-drop}
use Rattle.protocol.proofs.Tests.{which, and_left, and_right}
use Rattle.protocol.specs.Rule.{any, up_to, between, any_signed}
use Rattle.protocol.specs.Field.{Field, number, high_first, signed, float, fixed, Value, natural, integer, real, width, widths}
use Rattle.protocol.specs.Form.{Form, information_type, alert_status, start_byte, end_state, signed_speed, degrees, boot_string, lock_string, Rest, nothing, open_run, words, layout, code, wrong_byte}
use Rattle.protocol.specs.Decode.{header, smallest_size}
use Rattle.protocol.specs.Answer.{form_of, values_of}
use Rattle.protocol.specs.Encode.{Encoded, encoded, refused, good, bad, taken, holds, field_bytes, low_first, Written, outside, wrote, before, write_fields, rest_fits, write_run, then_rest, framed, closed, after_field, after_fields, front_value, front_values, encode_form}
use Rattle.writer.specs.Writing.{limited, answer_of, answered, lent_after}
use Rattle.std.specs.Prelude.{Err}
use Rattle.protocol.specs.declared.refusal.Refusal.{Refusal}
use Rattle.protocol.specs.Refusal.{number_of, place_of}
use Rattle.protocol.specs.declared.Combinations.{Combinations}
use Rattle.protocol.specs.declared.Message.{Message}
use Rattle.protocol.specs.declared.Message.TheVariants as Message'
use Rattle.slots.proofs.Ranges.{wide}
use Rattle.slots.specs.Slot.{slot_fits, slot_bytes, slot_fields, slot_values, Slotted, at_most, word_fields, word_values}
use Rattle.writer.specs.Slots.{slots_bytes, first_outside, type_place, from_type_byte, message_bytes}
use Rattle.writer.specs.Open.{open_fits, place_from, rest_outside, open_outside}
use Rattle.slots.specs.declared.Slot.{Slot}
use Rattle.slots.specs.declared.Slot.TheVariants as Slot'

-- ---- slots, written one after the other

abbrev pub row_written : ℕ → List Slot → Written
row_written at [] = wrote [] []
row_written at (s ∷ ss) = cond (slot_fits s) (before (slot_bytes s) (row_written (at + length (slot_bytes s)) ss)) (outside at)

-- all hold their values
pub all_written : (at : ℕ) (ss : List Slot) → 1 ≤ at → first_outside at ss ≡ 0 → row_written at ss ≡ wrote (slots_bytes ss) []
all_written at [] h e = refl
all_written at (s ∷ ss) h e =
    ⊎_elim
    (λ (yes : slot_fits s ≡ true).
    rw yes (ap (before (slot_bytes s)) (all_written (at + length (slot_bytes s)) ss (omega arith) (rw yes at e))))
    (λ (no : slot_fits s ≡ false). let z : at ≡ 0 = rw no at e in absurd (omega arith))
    (which (slot_fits s))

-- one does not
pub not_written : (at : ℕ) (ss : List Slot) → (first_outside at ss ≡ 0 → ⊥) → row_written at ss ≡ outside (first_outside at ss)
not_written at [] h = absurd (h refl)
not_written at (s ∷ ss) h =
    ⊎_elim
    (λ (yes : slot_fits s ≡ true).
    rw yes (ap (before (slot_bytes s)) (not_written (at + length (slot_bytes s)) ss (λ (z : first_outside (at + length (slot_bytes s)) ss ≡ 0). h (rw yes z)))))
    (λ (no : slot_fits s ≡ false). rw no)
    (which (slot_fits s))

-- ---- they are fields with values

before_none : (w : Written) → before [] w ≡ w
before_none (outside at) = refl
before_none (wrote bs vs) = refl

stepped : (b : Bool) (bs : List ℕ) (f : Field) (at : ℕ) (fs : List Field) (us : List Value) (x : Written) → write_fields (at + width f) fs us ≡ x
    → elim (cond b (good bs us) bad) [ bad ↦ outside at | good cs ws ↦ before cs (write_fields (at + width f) fs ws) ] ≡ cond b (before bs x) (outside at)
stepped true bs f at fs us x e = ap (before bs) e
stepped false bs f at fs us x e = refl

slot_first : (s : Slot) (v : Value) (f : Field) (at : ℕ) (ss : List Slot) → width f ≡ length (field_bytes f v)
    → write_fields (at + length (field_bytes f v)) (slot_fields ss) (slot_values ss) ≡ row_written (at + length (field_bytes f v)) ss
    → elim (taken f (v ∷ slot_values ss)) [ bad ↦ outside at | good cs ws ↦ before cs (write_fields (at + width f) (slot_fields ss) ws) ] ≡ cond (holds f v) (before (field_bytes f v) (row_written (at + length (field_bytes f v)) ss)) (outside at)
slot_first s v f at ss w e =
    stepped (holds f v) (field_bytes f v) f at (slot_fields ss) (slot_values ss) (row_written (at + length (field_bytes f v)) ss)
    (ap (λ (k : ℕ). write_fields (at + k) (slot_fields ss) (slot_values ss)) w ∙ e)

pub as_fields : (at : ℕ) (ss : List Slot) → write_fields at (slot_fields ss) (slot_values ss) ≡ row_written at ss
unfolding slot_fits slot_bytes
as_fields at [] = refl
as_fields at (Slot'.Nothing ∷ ss) = as_fields at ss ∙ sym (before_none (row_written (at + 0) ss) ∙ ap (λ (k : ℕ). row_written k ss) (add-zero at))
as_fields at (Slot'.Byte v ∷ ss) = slot_first (Slot'.Byte v) (natural v) (number 1 any) at ss (sym (wide (Slot'.Byte v))) (as_fields (at + length (slot_bytes (Slot'.Byte v))) ss)
as_fields at (Slot'.UpTo most v ∷ ss) = slot_first (Slot'.UpTo most v) (natural v) (number 1 (up_to most)) at ss (sym (wide (Slot'.UpTo most v))) (as_fields (at + length (slot_bytes (Slot'.UpTo most v))) ss)
as_fields at (Slot'.Between least most v ∷ ss) = slot_first (Slot'.Between least most v) (natural v) (number 1 (between least most)) at ss (sym (wide (Slot'.Between least most v))) (as_fields (at + length (slot_bytes (Slot'.Between least most v))) ss)
as_fields at (Slot'.InformationType v ∷ ss) = slot_first (Slot'.InformationType v) (natural v) (number 1 information_type) at ss (sym (wide (Slot'.InformationType v))) (as_fields (at + length (slot_bytes (Slot'.InformationType v))) ss)
as_fields at (Slot'.AlertStatus v ∷ ss) = slot_first (Slot'.AlertStatus v) (natural v) (number 1 alert_status) at ss (sym (wide (Slot'.AlertStatus v))) (as_fields (at + length (slot_bytes (Slot'.AlertStatus v))) ss)
as_fields at (Slot'.Word v ∷ ss) = slot_first (Slot'.Word v) (natural v) (number 2 any) at ss (sym (wide (Slot'.Word v))) (as_fields (at + length (slot_bytes (Slot'.Word v))) ss)
as_fields at (Slot'.Long v ∷ ss) = slot_first (Slot'.Long v) (natural v) (number 4 any) at ss (sym (wide (Slot'.Long v))) (as_fields (at + length (slot_bytes (Slot'.Long v))) ss)
as_fields at (Slot'.SignedByte v ∷ ss) = slot_first (Slot'.SignedByte v) (integer v) (signed 1 any_signed) at ss (sym (wide (Slot'.SignedByte v))) (as_fields (at + length (slot_bytes (Slot'.SignedByte v))) ss)
as_fields at (Slot'.SignedLong v ∷ ss) = slot_first (Slot'.SignedLong v) (integer v) (signed 4 any_signed) at ss (sym (wide (Slot'.SignedLong v))) (as_fields (at + length (slot_bytes (Slot'.SignedLong v))) ss)
as_fields at (Slot'.HighFirst v ∷ ss) = slot_first (Slot'.HighFirst v) (natural v) (high_first 6) at ss (sym (wide (Slot'.HighFirst v))) (as_fields (at + length (slot_bytes (Slot'.HighFirst v))) ss)
as_fields at (Slot'.Float x ∷ ss) = slot_first (Slot'.Float x) (real x) (float) at ss (sym (wide (Slot'.Float x))) (as_fields (at + length (slot_bytes (Slot'.Float x))) ss)
as_fields at (Slot'.BootString ∷ ss) = ap (before boot_string) (as_fields (at + length boot_string) ss)
as_fields at (Slot'.LockString ∷ ss) = ap (before lock_string) (as_fields (at + length lock_string) ss)
as_fields at (Slot'.StartByte v ∷ ss) = slot_first (Slot'.StartByte v) (natural v) (number 1 start_byte) at ss (sym (wide (Slot'.StartByte v))) (as_fields (at + length (slot_bytes (Slot'.StartByte v))) ss)
as_fields at (Slot'.EndState v ∷ ss) = slot_first (Slot'.EndState v) (natural v) (number 1 end_state) at ss (sym (wide (Slot'.EndState v))) (as_fields (at + length (slot_bytes (Slot'.EndState v))) ss)
as_fields at (Slot'.SignedSpeed v ∷ ss) = slot_first (Slot'.SignedSpeed v) (integer v) (signed 1 signed_speed) at ss (sym (wide (Slot'.SignedSpeed v))) (as_fields (at + length (slot_bytes (Slot'.SignedSpeed v))) ss)
as_fields at (Slot'.Degrees v ∷ ss) = slot_first (Slot'.Degrees v) (integer v) (signed 4 degrees) at ss (sym (wide (Slot'.Degrees v))) (as_fields (at + length (slot_bytes (Slot'.Degrees v))) ss)

-- ---- a message

-- the bytes of slots from the type byte on, with the open bytes and the front of the header, unless one of these is wrong at a place
abbrev pub finish : ℕ → List ℕ → Written → Encoded
finish wrong opens (outside at) = refused 7 at
finish wrong opens (wrote bs vs) = cond (eqb wrong 0) (encoded (from_type_byte (bs ++ opens))) (refused 7 wrong)

-- forms without words
abbrev Plain : Rest → Type 0
Plain nothing = Unit {0}
Plain (open_run least most run) = Unit {0}
Plain (words most) = ⊥

abbrev with_open : ℕ → List ℕ → Written → Written
with_open wrong opens (outside at) = outside at
with_open wrong opens (wrote bs vs) = cond (eqb wrong 0) (wrote (bs ++ opens) vs) (outside wrong)

no_bytes : (opens : List ℕ) → length opens ≡ 0 → opens ≡ []
no_bytes [] e = refl
no_bytes (b ∷ bs) e = absurd (omega arith)

plain_written : (r : Rest) → Plain r → (us : List Value) (opens : List ℕ) → rest_fits r us (length opens) ≡ true → (at : ℕ) → 1 ≤ at → (w : Written) → then_rest at r opens w ≡ with_open (rest_outside at r opens) opens w
plain_written nothing p us opens e at h (outside k) = refl
plain_written nothing p us opens e at h (wrote bs vs) = ap (λ (l : List ℕ). wrote (bs ++ l) vs) (sym (no_bytes opens (eqb-true (length opens) 0 e)))
plain_written (open_run least most run) p us opens e at h (outside k) = refl
plain_written (open_run least most run) p us opens e at h (wrote bs vs) = go (wrong_byte run opens)
  where
    go : (wrong : Option ℕ) → before bs (write_run at opens vs wrong) ≡ with_open (place_from at wrong) opens (wrote bs vs)
    go none = refl
    go (some i) = rw (ne_eqb (at + i) 0 (λ z. omega arith))
plain_written (words most) p us opens e at h w = absurd p

plain_fields : (r : Rest) → Plain r → (fs : List Field) (us : List Value) → fs ++ word_fields r us ≡ fs
plain_fields nothing p fs us = append-nil fs
plain_fields (open_run least most run) p fs us = append-nil fs
plain_fields (words most) p fs us = absurd p

plain_values : (r : Rest) → Plain r → (us : List Value) → word_values r us ≡ us
plain_values nothing p us = refl
plain_values (open_run least most run) p us = refl
plain_values (words most) p us = absurd p

front_one : (f : Field) (vs : List Value) → front_value f vs ++ after_field f vs ≡ vs
front_one (number w rule) vs = take-append-drop 1 vs
front_one (high_first w) vs = take-append-drop 1 vs
front_one (signed w rule) vs = take-append-drop 1 vs
front_one float vs = take-append-drop 1 vs
front_one (fixed bytes) vs = refl

front_after : (fs : List Field) (vs : List Value) → front_values fs vs ++ after_fields fs vs ≡ vs
front_after [] vs = refl
front_after (f ∷ fs) vs =
    append_assoc (front_value f vs) (front_values fs (after_field f vs)) (after_fields fs (after_field f vs))
    ∙ ap (λ (l : List Value). front_value f vs ++ l) (front_after fs (after_field f vs)) ∙ front_one f vs

closing : (f : Form) (wrong : ℕ) (opens : List ℕ) (w : Written) → closed f (with_open wrong opens w) ≡ finish wrong opens (before (code f ∷ []) w)
closing f wrong opens (outside at) = refl
closing f wrong opens (wrote bs vs) = go (eqb wrong 0)
  where
    go : (right : Bool) → closed f (cond right (wrote (bs ++ opens) vs) (outside wrong)) ≡ cond right (encoded (from_type_byte (code f ∷ (bs ++ opens)))) (refused 7 wrong)
    go true =
        let size : header + length (bs ++ opens) ≡ type_place + length (code f ∷ (bs ++ opens)) = omega arith in
        ap (λ (n : ℕ). encoded (n ∷ 0 ∷ code f ∷ (bs ++ opens))) size
    go false = refl

type_byte_lem : (c : ℕ) (fs : List Field) (vs : List Value) → ltb c 256 ≡ true → c % 256 ≡ c → before (c ∷ []) (write_fields header fs vs) ≡ write_fields type_place (number 1 any ∷ fs) (natural c ∷ vs)
unfolding low_first
type_byte_lem c fs vs small same =
    sym
    (stepped (ltb c 256 && true) (low_first 1 c) (number 1 any) type_place fs vs (write_fields header fs vs) refl
    ∙ ap (λ (b : Bool). cond (b && true) (before (low_first 1 c) (write_fields header fs vs)) (outside type_place)) small
    ∙ ap (λ (n : ℕ). before (n ∷ []) (write_fields header fs vs)) same)

plain_slots : (m : Message) (opens : List ℕ) (slots : List Slot) → Plain (layout (form_of m)).rest → ltb (code (form_of m)) 256 ≡ true → code (form_of m) % 256 ≡ code (form_of m) → Slotted m slots
    → rest_fits (layout (form_of m)).rest (after_fields (layout (form_of m)).fields (values_of m)) (length opens) ≡ true
    → encode_form (form_of m) (values_of m) opens ≡ finish (open_outside m opens) opens (row_written type_place slots)
unfolding encode_form open_outside
plain_slots m opens slots plain small same x right =
    let f : Form = form_of m in
    let vs : List Value = values_of m in
    let fs : List Field = (layout f).fields in
    let r : Rest = (layout f).rest in
    let w : Written = write_fields header fs vs in
    let wrong : ℕ = open_outside m opens in
    let fields : slot_fields slots ≡ number 1 any ∷ fs = x.fields ∙ ap (λ (l : List Field). number 1 any ∷ l) (plain_fields r plain fs (after_fields fs vs)) in
    let values : slot_values slots ≡ natural (code f) ∷ vs =
    x.values ∙ ap (λ (l : List Value). natural (code f) ∷ (front_values fs vs ++ l)) (plain_values r plain (after_fields fs vs)) ∙ ap (λ (l : List Value). natural (code f) ∷ l) (front_after fs vs)
    in
    rw right
    (ap (closed f) (plain_written r plain (after_fields fs vs) opens right (header + widths fs) (omega arith) w) ∙ closing f wrong opens w
    ∙ ap (finish wrong opens) (type_byte_lem (code f) fs vs small same)
    ∙ ap (λ (gs : List Field). finish wrong opens (write_fields type_place gs (natural (code f) ∷ vs))) (sym fields)
    ∙ ap (λ (us : List Value). finish wrong opens (write_fields type_place (slot_fields slots) us)) (sym values)
    ∙ ap (finish wrong opens) (as_fields type_place slots))

-- ---- the list of a 43

-- what is left over plays no part
abbrev bytes_only : Written → Written
bytes_only (outside at) = outside at
bytes_only (wrote bs vs) = wrote bs []

bytes_before : (bs : List ℕ) (v w : Written) → bytes_only v ≡ bytes_only w → bytes_only (before bs v) ≡ bytes_only (before bs w)
bytes_before bs (outside a) (outside b) e = e
bytes_before bs (outside a) (wrote cs vs) e = let z : ◌≡◌ {A = ℕ} 0 1 = cc in absurd (omega arith)
bytes_before bs (wrote cs vs) (outside b) e = let z : ◌≡◌ {A = ℕ} 0 1 = cc in absurd (omega arith)
bytes_before bs (wrote cs vs) (wrote ds us) e = let same : cs ≡ ds = cc in ap (λ (l : List ℕ). wrote (bs ++ l) []) same

-- its type byte
abbrev list_code : ℕ
list_code = code Form.port_combinations

abbrev word : Field
word = number 2 any

as_many : (n at : ℕ) (es : List Value) → bytes_only (write_fields at (replicate n word) es) ≡ bytes_only (write_fields at (replicate n word) (take n es))
as_many zero at es = refl
as_many (suc n) at [] = refl
as_many (suc n) at (e ∷ es) = go (holds word e) (as_many n (at + 2) es)
  where
    go : (b : Bool) → bytes_only (write_fields (at + 2) (replicate n word) es) ≡ bytes_only (write_fields (at + 2) (replicate n word) (take n es))
        → bytes_only (elim (cond b (good (field_bytes word e) es) bad) [ bad ↦ outside at | good cs ws ↦ before cs (write_fields (at + 2) (replicate n word) ws) ])
        ≡ bytes_only (elim (cond b (good (field_bytes word e) (take n es)) bad) [ bad ↦ outside at | good cs ws ↦ before cs (write_fields (at + 2) (replicate n word) ws) ])
    go true k = bytes_before (field_bytes word e) (write_fields (at + 2) (replicate n word) es) (write_fields (at + 2) (replicate n word) (take n es)) k
    go false k = refl

joined : (a : ℕ) (v w : Written) → bytes_only v ≡ bytes_only w → closed Form.port_combinations (before (a ∷ 2 ∷ []) v) ≡ finish 0 [] (before (list_code ∷ []) (before (a ∷ []) (before (2 ∷ []) w)))
joined a (outside i) (outside j) e = let same : i ≡ j = cc in ap (refused 7) same
joined a (outside i) (wrote cs vs) e = let z : ◌≡◌ {A = ℕ} 0 1 = cc in absurd (omega arith)
joined a (wrote cs vs) (outside j) e = let z : ◌≡◌ {A = ℕ} 0 1 = cc in absurd (omega arith)
joined a (wrote cs vs) (wrote ds us) e =
    let same : cs ≡ ds = cc in
    let whole : ds ≡ ds ++ [] = sym (append-nil ds) in
    let size : header + length (a ∷ 2 ∷ ds) ≡ type_place + length (list_code ∷ a ∷ 2 ∷ ds) = omega arith in
    ap (λ (l : List ℕ). encoded (framed list_code (a ∷ 2 ∷ l))) same ∙ ap (λ (n : ℕ). encoded (n ∷ 0 ∷ list_code ∷ a ∷ 2 ∷ ds)) size
    ∙ ap (λ (l : List ℕ). encoded (from_type_byte (list_code ∷ a ∷ 2 ∷ l))) whole

combined_slots : (p : ℕ) (k : Combinations) (opens : List ℕ) (slots : List Slot) → Slotted (Message'.PortCombinations p k) slots
    → rest_fits (layout Form.port_combinations).rest (after_fields (layout Form.port_combinations).fields (values_of (Message'.PortCombinations p k))) (length opens) ≡ true
    → encode_form Form.port_combinations (values_of (Message'.PortCombinations p k)) opens ≡ finish 0 opens (row_written type_place slots)
unfolding encode_form layout low_first
combined_slots p k opens slots x right =
    let count : ℕ = k.count in
    let es : List Value = drop 3 (values_of (Message'.PortCombinations p k)) in
    let inside : (leb 1 count && leb count 8) ≡ true = and_left (leb 1 count && leb count 8) (eqb (length opens) 0) right in
    let all : at_most 8 count ≡ count = rw (and_right (leb 1 count) (leb count 8) inside) in
    let none : opens ≡ [] = no_bytes opens (eqb-true (length opens) 0 (and_right (leb 1 count && leb count 8) (eqb (length opens) 0) right)) in
    let fields : slot_fields slots ≡ number 1 any ∷ number 1 any ∷ number 1 any ∷ replicate count word =
    x.fields ∙ ap (λ (n : ℕ). number 1 any ∷ number 1 any ∷ number 1 any ∷ replicate n word) all
    in
    let values : slot_values slots ≡ natural list_code ∷ natural p ∷ natural 2 ∷ take count es =
    x.values ∙ ap (λ (n : ℕ). natural list_code ∷ natural p ∷ natural 2 ∷ take n es) all
    in
    rw (right, none)
    (go (ltb p 256 && true) count es (as_many count (header + 2) es)
    ∙ ap (λ (gs : List Field). finish 0 [] (write_fields type_place gs (natural list_code ∷ natural p ∷ natural 2 ∷ take count es))) (sym fields)
    ∙ ap (λ (us : List Value). finish 0 [] (write_fields type_place (slot_fields slots) us)) (sym values)
    ∙ ap (finish 0 []) (as_fields type_place slots))
  where
    go : (b : Bool) (count : ℕ) (es : List Value) → bytes_only (write_fields (header + 2) (replicate count word) es) ≡ bytes_only (write_fields (header + 2) (replicate count word) (take count es))
        → closed Form.port_combinations (then_rest (header + 2) (words 8) [] (elim (cond b (good (p % 256 ∷ []) (natural 2 ∷ natural count ∷ es)) bad) [ bad ↦ outside header | good cs ws ↦ before cs (write_fields (header + 1) (number 1 any ∷ []) ws) ]))
        ≡ finish 0 [] (before (list_code ∷ []) (elim (cond b (good (p % 256 ∷ []) (natural 2 ∷ take count es)) bad) [ bad ↦ outside header | good cs ws ↦ before cs (write_fields (header + 1) (number 1 any ∷ replicate count word) ws) ]))
    go true count es e = joined (p % 256) (write_fields (header + 2) (replicate count word) es) (write_fields (header + 2) (replicate count word) (take count es)) e
    go false count es e = refl

-- a message is written as its slots
pub by_slots : (m : Message) (opens : List ℕ) (slots : List Slot) → Slotted m slots
    → rest_fits (layout (form_of m)).rest (after_fields (layout (form_of m)).fields (values_of m)) (length opens) ≡ true
    → encode_form (form_of m) (values_of m) opens ≡ finish (open_outside m opens) opens (row_written type_place slots)
unfolding layout open_outside
by_slots (Message'.PropertyCommand p o) opens slots x right = plain_slots (Message'.PropertyCommand p o) opens slots tt refl refl x right
by_slots (Message'.PropertyText p o) opens slots x right = plain_slots (Message'.PropertyText p o) opens slots tt refl refl x right
by_slots (Message'.PropertyByte p o v) opens slots x right = plain_slots (Message'.PropertyByte p o v) opens slots tt refl refl x right
by_slots (Message'.PropertyRssi o v) opens slots x right = plain_slots (Message'.PropertyRssi o v) opens slots tt refl refl x right
by_slots (Message'.PropertyVersion p o v) opens slots x right = plain_slots (Message'.PropertyVersion p o v) opens slots tt refl refl x right
by_slots (Message'.PropertyProtocol o v) opens slots x right = plain_slots (Message'.PropertyProtocol o v) opens slots tt refl refl x right
by_slots (Message'.PropertyAddress p o v) opens slots x right = plain_slots (Message'.PropertyAddress p o v) opens slots tt refl refl x right
by_slots (Message'.HubAction a) opens slots x right = plain_slots (Message'.HubAction a) opens slots tt refl refl x right
by_slots (Message'.AlertCommand a o) opens slots x right = plain_slots (Message'.AlertCommand a o) opens slots tt refl refl x right
by_slots (Message'.AlertUpdate a v) opens slots x right = plain_slots (Message'.AlertUpdate a v) opens slots tt refl refl x right
by_slots (Message'.Detached p) opens slots x right = plain_slots (Message'.Detached p) opens slots tt refl refl x right
by_slots (Message'.Attached p d h s) opens slots x right = plain_slots (Message'.Attached p d h s) opens slots tt refl refl x right
by_slots (Message'.AttachedVirtual p d a b) opens slots x right = plain_slots (Message'.AttachedVirtual p d a b) opens slots tt refl refl x right
by_slots (Message'.GenericError k e) opens slots x right = plain_slots (Message'.GenericError k e) opens slots tt refl refl x right
by_slots Message'.GoIntoBootMode opens slots x right = plain_slots Message'.GoIntoBootMode opens slots tt refl refl x right
by_slots Message'.LockMemory opens slots x right = plain_slots Message'.LockMemory opens slots tt refl refl x right
by_slots Message'.LockStatusRequest opens slots x right = plain_slots Message'.LockStatusRequest opens slots tt refl refl x right
by_slots (Message'.LockStatus v) opens slots x right = plain_slots (Message'.LockStatus v) opens slots tt refl refl x right
by_slots (Message'.PortInformationRequest p i) opens slots x right = plain_slots (Message'.PortInformationRequest p i) opens slots tt refl refl x right
by_slots (Message'.ModeInformationRequest p m i) opens slots x right = plain_slots (Message'.ModeInformationRequest p m i) opens slots tt refl refl x right
by_slots (Message'.InputFormatSetup p m d n) opens slots x right = plain_slots (Message'.InputFormatSetup p m d n) opens slots tt refl refl x right
by_slots (Message'.PortModes p k n i o) opens slots x right = plain_slots (Message'.PortModes p k n i o) opens slots tt refl refl x right
by_slots (Message'.PortCombinations p k) opens slots x right = combined_slots p k opens slots x right
by_slots (Message'.ModeText p m i) opens slots x right = plain_slots (Message'.ModeText p m i) opens slots tt refl refl x right
by_slots (Message'.ModeRange p m i l h) opens slots x right = plain_slots (Message'.ModeRange p m i l h) opens slots tt refl refl x right
by_slots (Message'.ModeMapping p m v) opens slots x right = plain_slots (Message'.ModeMapping p m v) opens slots tt refl refl x right
by_slots (Message'.ModeBias p m v) opens slots x right = plain_slots (Message'.ModeBias p m v) opens slots tt refl refl x right
by_slots (Message'.ModeCapabilities p m v) opens slots x right = plain_slots (Message'.ModeCapabilities p m v) opens slots tt refl refl x right
by_slots (Message'.ValueFormat p m n k f d) opens slots x right = plain_slots (Message'.ValueFormat p m n k f d) opens slots tt refl refl x right
by_slots (Message'.PortValue p) opens slots x right = plain_slots (Message'.PortValue p) opens slots tt refl refl x right
by_slots (Message'.InputFormat p m d n) opens slots x right = plain_slots (Message'.InputFormat p m d n) opens slots tt refl refl x right
by_slots (Message'.VirtualDisconnect p) opens slots x right = plain_slots (Message'.VirtualDisconnect p) opens slots tt refl refl x right
by_slots (Message'.VirtualConnect a b) opens slots x right = plain_slots (Message'.VirtualConnect a b) opens slots tt refl refl x right
by_slots (Message'.StartSpeedForDegrees p s d l r w e u) opens slots x right = plain_slots (Message'.StartSpeedForDegrees p s d l r w e u) opens slots tt refl refl x right
by_slots (Message'.GotoAbsolutePosition p s a v w e u) opens slots x right = plain_slots (Message'.GotoAbsolutePosition p s a v w e u) opens slots tt refl refl x right
by_slots (Message'.GotoAbsolutePositions p s a b v w e u) opens slots x right = plain_slots (Message'.GotoAbsolutePositions p s a b v w e u) opens slots tt refl refl x right
by_slots (Message'.PresetEncoders p s l r) opens slots x right = plain_slots (Message'.PresetEncoders p s l r) opens slots tt refl refl x right
by_slots Message'.OutputFeedback opens slots x right = plain_slots Message'.OutputFeedback opens slots tt refl refl x right
by_slots (Message'.CombinedSetup p s) opens slots x right = plain_slots (Message'.CombinedSetup p s) opens slots tt refl refl x right
by_slots (Message'.ModeDatasets p k) opens slots x right = plain_slots (Message'.ModeDatasets p k) opens slots tt refl refl x right
by_slots (Message'.PortValueCombined p w) opens slots x right = plain_slots (Message'.PortValueCombined p w) opens slots tt refl refl x right
by_slots (Message'.InputFormatCombined p k w) opens slots x right = plain_slots (Message'.InputFormatCombined p k w) opens slots tt refl refl x right

-- ---- the answers

pub wrong_size : (m : Message) (opens : List ℕ) → open_fits m (length opens) ≡ false → encode_form (form_of m) (values_of m) opens ≡ refused 6 (smallest_size (form_of m))
unfolding encode_form open_fits
wrong_size m opens e = rw e

pub a_field_outside : (m : Message) (opens : List ℕ) (slots : List Slot) → Slotted m slots → open_fits m (length opens) ≡ true → (first_outside type_place slots ≡ 0 → ⊥)
    → encode_form (form_of m) (values_of m) opens ≡ refused 7 (first_outside type_place slots)
unfolding open_fits
a_field_outside m opens slots x right n = by_slots m opens slots x right ∙ ap (finish (open_outside m opens) opens) (not_written type_place slots n)

fields_inside : (m : Message) (opens : List ℕ) (slots : List Slot) → Slotted m slots → open_fits m (length opens) ≡ true → first_outside type_place slots ≡ 0
    → encode_form (form_of m) (values_of m) opens ≡ cond (eqb (open_outside m opens) 0) (encoded (message_bytes slots opens)) (refused 7 (open_outside m opens))
unfolding open_fits
fields_inside m opens slots x right e = by_slots m opens slots x right ∙ ap (finish (open_outside m opens) opens) (all_written type_place slots (omega arith) e)

pub an_open_byte_outside : (m : Message) (opens : List ℕ) (slots : List Slot) → Slotted m slots → open_fits m (length opens) ≡ true → first_outside type_place slots ≡ 0 → (open_outside m opens ≡ 0 → ⊥)
    → encode_form (form_of m) (values_of m) opens ≡ refused 7 (open_outside m opens)
an_open_byte_outside m opens slots x right e n = fields_inside m opens slots x right e ∙ rw (ne_eqb (open_outside m opens) 0 n)

pub all_inside : (m : Message) (opens : List ℕ) (slots : List Slot) → Slotted m slots → open_fits m (length opens) ≡ true → first_outside type_place slots ≡ 0 → open_outside m opens ≡ 0
    → encode_form (form_of m) (values_of m) opens ≡ encoded (message_bytes slots opens)
all_inside m opens slots x right e k = fields_inside m opens slots x right e ∙ rw (eq-eqb (open_outside m opens) 0 k)

pub refused_answer : (x : Encoded) (r : Refusal) (room : ℕ) (out : List ℕ) → x ≡ refused (number_of r) (place_of r)
    → (answer_of (Err r) ≡ answered (limited room x)) × (out ≡ lent_after (limited room x) out)
unfolding limited
refused_answer x r room out e =
    (sym (ap (λ (y : Encoded). answered (limited room y)) e), sym (ap (λ (y : Encoded). lent_after (limited room y) out) e))
