use Rattle.std.proofs.Common.{◌≡◌, false, length, refl, arith}
use Rattle.gateway_answer.specs.WireMarks.{wire_numbers}
use Rattle.gateway_answer.proofs.wire_marks.WireMarks.clear.Goals as goal

pub returns : goal.returns
returns c =
    let size : length c.fill.new.self.items ≡ wire_numbers = omega (arith, c.fill.ensures.len, c.self.invariant) in
    record { size = size; clear = λ w lt. c.fill.ensures.clones w false (omega (arith, lt, size, c.fill.ensures.len)) refl }
