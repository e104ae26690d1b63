-- The sizes that refusal 6 has as its place are the smallest, as statements about the definitions. They are proved in proofs/Sizes.antt.
use Rattle.std.specs.Prelude.{ℕ, ◌+◌, ◌≤◌, ◌≡◌, true}
use Rattle.std.proofs.Math.Option.{some}
use Rattle.protocol.specs.Form.{Form}
use Rattle.protocol.specs.Types.{Selection, always, select, MessageType, selectors, types, type_of}
use Rattle.protocol.specs.Decode.{size_fits, smallest_size}
use Rattle.protocol.specs.declared.Way.{Way}

-- a form's smallest size is one of its sizes, and none of them is less
abbrev pub SmallestSize : Type 0
SmallestSize = (f : Form) → (size_fits f (smallest_size f) ≡ true) × ((size : ℕ) → size_fits f size ≡ true → smallest_size f ≤ size)

-- whatever values its selectors have, the last of them stands right before an offset
abbrev pub LastBefore : ℕ → ℕ → Selection → Type 0
LastBefore end past (always f) = past ≡ end
LastBefore end past (select offset rule next) = (value : ℕ) → LastBefore end (offset + 1) (next value)

-- so the size that holds a type's selectors is its last selector's place and one
abbrev pub SelectorsHeld : Type 0
SelectorsHeld = (way : Way) (code : ℕ) (t : MessageType) → type_of code (types way) ≡ some t → LastBefore (selectors t) 0 t
