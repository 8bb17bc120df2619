-- What a lock that failed is told as.
use Rattle.std.specs.declared.fs.locks.TryLockError.{TryLockError}
use Rattle.std.specs.declared.fs.locks.TryLockError.TheVariants.{Error, WouldBlock}
use Rattle.cgf_edge.specs.declared.trouble.Trouble.{Trouble}
use Rattle.cgf_edge.specs.declared.trouble.Trouble.TheVariants.{Locked, System}

abbrev pub lock_trouble : TryLockError → Trouble
lock_trouble WouldBlock = Locked
lock_trouble (Error error) = System error
