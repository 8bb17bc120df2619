use Rattle.gateway_answer.proofs.wire_marks.WireMarks.new.Goals as goal

pub returns : goal.returns
returns c = c.in_ok-marks.ensures.items_if_clones_equal (λ x e. e)
