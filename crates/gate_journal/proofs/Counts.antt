-- How many counted calls a run of calls makes.
use Rattle.std.proofs.Common.{◌≡◌, ℕ, ◌+◌, Result, Ok, Err, arith, rules}
use Rattle.gate_journal.proofs.Names.{Calls, counted}

-- one call, whatever came of it
pub one_call : {T E : Type 0} (before now : ℕ) (result : Result T E) → now ≡ counted 1 before → Calls 1 before now result
one_call before now result is = search rules

-- calls behind n that succeeded
pub more_calls : {T E : Type 0} (n m before mid now : ℕ) (result : Result T E) → mid ≡ counted n before → Calls m mid now result → Calls (n + m) before now result
more_calls n m before mid now (Ok v) was calls = record { ok = omega (arith, calls.ok); failed = tt }
more_calls n m before mid now (Err e) was calls = record {
  ok = tt;
  failed = (n + calls.failed.0, omega (arith, calls.failed.1), omega (arith, calls.failed.2), omega (arith, calls.failed.3));
}
