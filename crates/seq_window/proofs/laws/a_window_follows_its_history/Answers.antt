use Rattle.seq_window.proofs.LawLemmas.{history_is, still_fresh_above, window_follows}
use Rattle.seq_window.proofs.laws.a_window_follows_its_history.Goals as goal

pub returns-clause-all : goal.returns-clause-all
returns-clause-all c = history_is

pub returns-clause-follows : goal.returns-clause-follows
returns-clause-follows c = window_follows

pub returns-clause-fresh : goal.returns-clause-fresh
returns-clause-fresh c = still_fresh_above
