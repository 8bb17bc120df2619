use Rattle.session_run.proofs.LawLemmas.{sent_behind}
use Rattle.session_run.proofs.laws.what_links_sent.Goals as goal

pub returns : goal.returns
returns g c = sent_behind g.L.Link
