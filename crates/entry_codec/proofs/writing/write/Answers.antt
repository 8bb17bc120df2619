use Rattle.std.proofs.Common.{append_assoc}
use Rattle.entry_codec.proofs.writing.write.Goals as goal

pub returns-clause-written : goal.returns-clause-written
returns-clause-written c =
    rw (
      c.put_body.ensures,
      c.put_head.ensures,
      c.length_of-whole.ensures.value,
      c.code-code.ensures,
      c.of_act.ensures,
      c.seconds-seconds.ensures.value,
    )
    (simp append_assoc)
