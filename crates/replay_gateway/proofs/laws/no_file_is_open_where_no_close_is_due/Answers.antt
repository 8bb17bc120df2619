use Rattle.replay_gateway.proofs.FileLemmas.{shut_where_none_due}
use Rattle.replay_gateway.proofs.laws.no_file_is_open_where_no_close_is_due.Goals as goal

pub returns : goal.returns
returns c = λ h none settings s.
    shut_where_none_due c.division_goes_on.ensures c.filed_records_stay.ensures.items settings s h none
