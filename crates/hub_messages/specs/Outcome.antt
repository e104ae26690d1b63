-- What reading some fields gives, their values left out.
use Rattle.std.specs.Prelude.{Result, Ok, Err}
use Rattle.protocol.specs.Field.{Fields, outside, values}
use Rattle.protocol.specs.declared.refusal.Refusal.{Refusal}
use Rattle.protocol.specs.declared.refusal.Refusal.TheVariants.{OutsideList}

abbrev pub outcome : Fields → Result (Unit {0}) Refusal
outcome (outside at) = Err (OutsideList at)
outcome (values vs) = Ok tt
