-- An option of the code as one of the definitions.
use Rattle.std.specs.Prelude as Code
use Rattle.std.specs.Prelude.{Some, None}
use Rattle.std.proofs.Math.Option.{Option, none, some}

abbrev pub option_of : {T A : Type 0} → (T → A) → Code.Option T → Option A
option_of f None = none
option_of f (Some x) = some (f x)
