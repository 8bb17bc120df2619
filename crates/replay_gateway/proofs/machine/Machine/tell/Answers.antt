use Rattle.std.proofs.Common.{◌∙◌}
use Rattle.replay_gateway.proofs.machine.Machine.tell.Goals as goal

pub returns-clause-told : goal.returns-clause-told
returns-clause-told c = λ setup place g m stands runs.
    let got = c.in_ok-items.ensures.items setup place g m stands runs in (
      record {
        records = c.record_count.ensures.records g.book.firm (c.deref.ensures.value ∙ got.0);
        counts = c.counts-counts.ensures setup place g m got.1 runs;
      },
      got.1,
    )
