-- What follows a message's fields: of most nothing, and what of open bytes is right.
use Prim.Native.Nat.{ℕ, ◌≤◌, ◌<◌}
use native.Mathlib.Omega.{arith}
use mathlib.Core.Path.{◌≡◌, refl, sym, ◌∙◌, ap}
use mathlib.Core.Bool.{true, ◌&&◌}
use mathlib.Core.List.{List}
use mathlib.Core.Option.{none, some}
use lib.Dec.{leb}
use lib.ListN.{length}
use borrow.Author.Tests.{leb-true}
use Rattle.protocol.proofs.Tests.{and_right}
use Rattle.protocol.specs.Form.{Rest, nothing, open_run, layout, Run, whole, wrong_byte}
use Rattle.protocol.specs.Answer.{form_of, values_of}
use Rattle.protocol.specs.Decode.{fields_end}
use Rattle.protocol.specs.Encode.{rest_fits, after_fields}
use Rattle.protocol.specs.declared.Combinations.{Combinations}
use Rattle.protocol.specs.declared.Message.{Message}
use Rattle.protocol.specs.declared.Message.TheVariants as Message'
use Rattle.std.specs.Prelude.{Option, Some, None, IfSome, MatchOption}
use Rattle.writer.specs.Open.{open_fits, place_from, place_of, rest_outside, open_outside}

-- a message that ends with its fields: it has none of the other cases
pub record Ended (m : Message) : Type 0 where
  pub no_text : (p o : ℕ) → m ≡ Message'.PropertyText p o → ⊥
  pub no_list : (p : ℕ) (k : Combinations) → m ≡ Message'.PortCombinations p k → ⊥
  pub no_mode_text : (p k i : ℕ) → m ≡ Message'.ModeText p k i → ⊥
  pub no_value : (p : ℕ) → m ≡ Message'.PortValue p → ⊥
  pub no_feedback : m ≡ Message'.OutputFeedback → ⊥
  pub no_datasets : (p k : ℕ) → m ≡ Message'.ModeDatasets p k → ⊥
  pub no_combined : (p w : ℕ) → m ≡ Message'.PortValueCombined p w → ⊥

pub nothing_follows : (m : Message) → Ended m → (layout (form_of m)).rest ≡ nothing
unfolding layout
nothing_follows (Message'.PropertyCommand p o) t = refl
nothing_follows (Message'.PropertyText p o) t = absurd (t.no_text p o refl)
nothing_follows (Message'.PropertyByte p o v) t = refl
nothing_follows (Message'.PropertyRssi o v) t = refl
nothing_follows (Message'.PropertyVersion p o v) t = refl
nothing_follows (Message'.PropertyProtocol o v) t = refl
nothing_follows (Message'.PropertyAddress p o v) t = refl
nothing_follows (Message'.HubAction a) t = refl
nothing_follows (Message'.AlertCommand a o) t = refl
nothing_follows (Message'.AlertUpdate a v) t = refl
nothing_follows (Message'.Detached p) t = refl
nothing_follows (Message'.Attached p d h f) t = refl
nothing_follows (Message'.AttachedVirtual p d a b) t = refl
nothing_follows (Message'.GenericError k g) t = refl
nothing_follows Message'.GoIntoBootMode t = refl
nothing_follows Message'.LockMemory t = refl
nothing_follows Message'.LockStatusRequest t = refl
nothing_follows (Message'.LockStatus v) t = refl
nothing_follows (Message'.PortInformationRequest p i) t = refl
nothing_follows (Message'.ModeInformationRequest p m i) t = refl
nothing_follows (Message'.InputFormatSetup p m d n) t = refl
nothing_follows (Message'.PortModes p k n i o) t = refl
nothing_follows (Message'.PortCombinations p k) t = absurd (t.no_list p k refl)
nothing_follows (Message'.ModeText p m i) t = absurd (t.no_mode_text p m i refl)
nothing_follows (Message'.ModeRange p m i l h) t = refl
nothing_follows (Message'.ModeMapping p m v) t = refl
nothing_follows (Message'.ModeBias p m v) t = refl
nothing_follows (Message'.ModeCapabilities p m v) t = refl
nothing_follows (Message'.ValueFormat p m n k f d) t = refl
nothing_follows (Message'.PortValue p) t = absurd (t.no_value p refl)
nothing_follows (Message'.InputFormat p m d n) t = refl
nothing_follows (Message'.VirtualDisconnect p) t = refl
nothing_follows (Message'.VirtualConnect a b) t = refl
nothing_follows (Message'.StartSpeedForDegrees p s d l r w e u) t = refl
nothing_follows (Message'.GotoAbsolutePosition p s a v w e u) t = refl
nothing_follows (Message'.GotoAbsolutePositions p s a b v w e u) t = refl
nothing_follows (Message'.PresetEncoders p s l r) t = refl
nothing_follows Message'.OutputFeedback t = absurd (t.no_feedback refl)
nothing_follows (Message'.CombinedSetup p s) t = refl
nothing_follows (Message'.ModeDatasets p k) t = absurd (t.no_datasets p k refl)
nothing_follows (Message'.PortValueCombined p w) t = absurd (t.no_combined p w refl)
nothing_follows (Message'.InputFormatCombined p k w) t = refl

-- ---- the open bytes that are tested: those of an 82 and of a 42's list

pub never_outside : (m : Message) (opens : List ℕ) → (m ≡ Message'.OutputFeedback → ⊥) → ((p k : ℕ) → m ≡ Message'.ModeDatasets p k → ⊥) → open_outside m opens ≡ 0
unfolding open_outside layout
never_outside (Message'.PropertyCommand p o) opens no_feedback no_datasets = refl
never_outside (Message'.PropertyText p o) opens no_feedback no_datasets = refl
never_outside (Message'.PropertyByte p o v) opens no_feedback no_datasets = refl
never_outside (Message'.PropertyRssi o v) opens no_feedback no_datasets = refl
never_outside (Message'.PropertyVersion p o v) opens no_feedback no_datasets = refl
never_outside (Message'.PropertyProtocol o v) opens no_feedback no_datasets = refl
never_outside (Message'.PropertyAddress p o v) opens no_feedback no_datasets = refl
never_outside (Message'.HubAction a) opens no_feedback no_datasets = refl
never_outside (Message'.AlertCommand a o) opens no_feedback no_datasets = refl
never_outside (Message'.AlertUpdate a v) opens no_feedback no_datasets = refl
never_outside (Message'.Detached p) opens no_feedback no_datasets = refl
never_outside (Message'.Attached p d h f) opens no_feedback no_datasets = refl
never_outside (Message'.AttachedVirtual p d a b) opens no_feedback no_datasets = refl
never_outside (Message'.GenericError k g) opens no_feedback no_datasets = refl
never_outside Message'.GoIntoBootMode opens no_feedback no_datasets = refl
never_outside Message'.LockMemory opens no_feedback no_datasets = refl
never_outside Message'.LockStatusRequest opens no_feedback no_datasets = refl
never_outside (Message'.LockStatus v) opens no_feedback no_datasets = refl
never_outside (Message'.PortInformationRequest p i) opens no_feedback no_datasets = refl
never_outside (Message'.ModeInformationRequest p m i) opens no_feedback no_datasets = refl
never_outside (Message'.InputFormatSetup p m d n) opens no_feedback no_datasets = refl
never_outside (Message'.PortModes p k n i o) opens no_feedback no_datasets = refl
never_outside (Message'.PortCombinations p k) opens no_feedback no_datasets = refl
never_outside (Message'.ModeText p m i) opens no_feedback no_datasets = refl
never_outside (Message'.ModeRange p m i l h) opens no_feedback no_datasets = refl
never_outside (Message'.ModeMapping p m v) opens no_feedback no_datasets = refl
never_outside (Message'.ModeBias p m v) opens no_feedback no_datasets = refl
never_outside (Message'.ModeCapabilities p m v) opens no_feedback no_datasets = refl
never_outside (Message'.ValueFormat p m n k f d) opens no_feedback no_datasets = refl
never_outside (Message'.PortValue p) opens no_feedback no_datasets = refl
never_outside (Message'.InputFormat p m d n) opens no_feedback no_datasets = refl
never_outside (Message'.VirtualDisconnect p) opens no_feedback no_datasets = refl
never_outside (Message'.VirtualConnect a b) opens no_feedback no_datasets = refl
never_outside (Message'.StartSpeedForDegrees p s d l r w e u) opens no_feedback no_datasets = refl
never_outside (Message'.GotoAbsolutePosition p s a v w e u) opens no_feedback no_datasets = refl
never_outside (Message'.GotoAbsolutePositions p s a b v w e u) opens no_feedback no_datasets = refl
never_outside (Message'.PresetEncoders p s l r) opens no_feedback no_datasets = refl
never_outside Message'.OutputFeedback opens no_feedback no_datasets = absurd (no_feedback refl)
never_outside (Message'.CombinedSetup p s) opens no_feedback no_datasets = refl
never_outside (Message'.ModeDatasets p k) opens no_feedback no_datasets = absurd (no_datasets p k refl)
never_outside (Message'.PortValueCombined p w) opens no_feedback no_datasets = refl
never_outside (Message'.InputFormatCombined p k w) opens no_feedback no_datasets = refl

-- of any run: it is as long as its form lets it be, and its first wrong byte is found by an index, from the place on where it starts
module _ (m n : Message) (is : m ≡ n) (opens : List ℕ) (least most : ℕ) (run : Run) (follows : (layout (form_of n)).rest ≡ open_run least most run) where
  run_follows : (layout (form_of m)).rest ≡ open_run least most run
  run_follows = ap (λ (k : Message). (layout (form_of k)).rest) is ∙ follows

  pub few_bytes : open_fits m (length opens) ≡ true → length opens ≤ most
  unfolding open_fits
  few_bytes e =
      let size = length opens in
      let fits : (whole run size && (leb least size && leb size most)) ≡ true = sym (ap (λ (r : Rest). rest_fits r (after_fields (layout (form_of m)).fields (values_of m)) size) run_follows) ∙ e in
      leb-true size most (and_right (leb least size) (leb size most) (and_right (whole run size) (leb least size && leb size most) fits))

  pub few_before : (r : Option ℕ) → IfSome r (λ i. i < length opens) → open_fits m (length opens) ≡ true → most ≤ 124 → IfSome r (λ i. i < 124)
  few_before None h fits few = tt
  few_before (Some i) h fits few = omega (arith, few_bytes fits)

  pub first_wrong : (at place : ℕ) (r : Option ℕ) → place ≡ place_of at r → at ≡ fields_end (form_of n) → MatchOption r (wrong_byte run opens ≡ none) (λ i. wrong_byte run opens ≡ some i) → place ≡ open_outside m opens
  unfolding open_outside
  first_wrong at place r e start wrong =
      let found : open_outside m opens ≡ place_from at (wrong_byte run opens) =
      ap (λ (f : Rest). rest_outside (fields_end (form_of m)) f opens) run_follows ∙ ap (λ (k : ℕ). place_from k (wrong_byte run opens)) (ap (λ (k : Message). fields_end (form_of k)) is ∙ sym start)
      in
      e ∙ sym (found ∙ same r wrong)
    where
      same : (r : Option ℕ) → MatchOption r (wrong_byte run opens ≡ none) (λ i. wrong_byte run opens ≡ some i) → place_from at (wrong_byte run opens) ≡ place_of at r
      same None w = ap (place_from at) w
      same (Some i) w = ap (place_from at) w
