use Rattle.job_inbox.proofs.inbox.Inbox.new.Given as goal

-- how many passes the queue is to have
abbrev pub ghosts-begin : goal.ghosts-begin
ghosts-begin a = record { passes = a.passes }
