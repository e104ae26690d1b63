use Rattle.std.proofs.Common.{◌≡◌, sym, ◌∙◌, rules}
use Rattle.protocol.specs.Refusal.{number_of, place_of}
use Rattle.protocol.specs.Decode.{refused}
use Rattle.protocol.specs.Answer.{answer_of}
use Rattle.motor_messages.proofs.Endings.{speed_refused}
use Rattle.motor_messages.proofs.start_speed_for_degrees.Goals as goal

pub returns-in_err-ending : goal.returns-in_err-ending
returns-in_err-ending c =
    let r = c.in_err-ending.field-0.0 in
    let answered : answer_of c.from_residual-in_err-ending.result ≡ refused (number_of r) (place_of r) = search rules in
    answered ∙ sym (speed_refused c.args.s.now r (search rules) (search rules) (search rules) (search rules) (search rules) c.in_err-ending.ensures)
