-- What an append leaves, by its outcomes.
use Rattle.std.specs.Prelude.{◌≡◌, ℕ, ◌+◌, ◌≤◌, Bool, true, false, List, [], ◌∷◌, ◌++◌, length, IsTrue, Result, Err, OnOk}
use Rattle.area_disk.specs.Disk.{Rose, counted}
use Rattle.area_disk.specs.declared.area.Area.{Ghosts}
use Rattle.area_disk.specs.declared.plan.Outcome3.{Outcome3}
use Rattle.gate_journal.specs.Journal.{area_of, header_of, front_of, batches, end, free_of, is_closed, torn, stop_stands, KeepsOr, IsSettled}
use Rattle.gate_journal.specs.Moments.{Told, Leaves, RoseUpTo}
use Rattle.gate_journal.specs.Planned.{Ending, ending_of, course_of, after_put, append_fails, after_append, batch_stands}
use Rattle.gate_journal.specs.declared.faults.AppendFault.{AppendFault}
use Rattle.gate_journal.specs.declared.faults.AppendFault.TheVariants.{Device}
use Rattle.gate_journal.specs.declared.journal.Journal.{Journal}

module _ {A : Type 0} {tells : Ghosts A} (journal : Journal A tells) where
  -- how the writing of a frame ends by the plan, and the opening of the gate after it
  abbrev pub frame_ending : Ending
  frame_ending = ending_of (course_of (tells.fate (area_of journal)))

  abbrev pub gate_ending : Ending
  gate_ending = ending_of (after_put (course_of (tells.fate (area_of journal))))

module _ {A : Type 0} {tells : Ghosts A} (old new : Journal A tells) where
  -- The batch stands behind the others, from now on at every crash.
  pub record IsAppended (batch : List ℕ) : Type 0 where
    pub ready : is_closed new ≡ false
    pub settled : IsSettled new
    pub batches : Told tells → batches new ≡ batches old ++ batch ∷ []
    pub end : end new ≡ end old + 5 + length batch

  -- The device failed: the journal keeps its batches and is closed, and this batch may stand behind them.
  pub record IsTorn (batch : List ℕ) : Type 0 where
    pub closed : is_closed new ≡ true
    pub batches : Told tells → batches new ≡ batches old
    pub end : end new ≡ end old
    pub torn : torn new ≡ batch

  -- A crash at any moment of the call leaves the batches from before it, with the new one or without.
  abbrev pub AppendLeaves : List ℕ → Type 0
  AppendLeaves batch =
      Leaves tells (area_of old) (area_of new) (KeepsOr (front_of old) (header_of old) (batches old) batch)

  -- The faults rose where the device failed and nowhere else, and it made four calls, or those up to the one that
  -- failed.
  pub record AppendCounts {T : Type 0} (result : Result T AppendFault) : Type 0 where
    pub later : tells.faults (area_of old) ≤ tells.faults (area_of new)
    pub none : OnOk result (tells.faults (area_of new) ≡ tells.faults (area_of old))
    pub rose : result ≡ Err Device → Rose (tells.faults (area_of old)) (tells.faults (area_of new))
    pub calls : IsTrue tells.tells_calls
        → OnOk result (tells.calls (area_of new) ≡ counted 4 (tells.calls (area_of old)))
    pub calls_device : IsTrue tells.tells_calls → result ≡ Err Device →
        RoseUpTo 4 (tells.calls (area_of old)) (tells.calls (area_of new))

  -- An append came out as was planned: the call of the device that failed or was stopped, and its outcome, decide
  -- whether the batch stands.
  pub record AppendFollows (failed : Bool) : Type 0 where
    pub fails : failed ≡ append_fails (frame_ending old) (gate_ending old)
    pub course : course_of (tells.fate (area_of new)) ≡ after_append (course_of (tells.fate (area_of old)))
    pub stands : failed ≡ true → (outcome : Outcome3) →
        stop_stands outcome new ≡ batch_stands (frame_ending old) (gate_ending old) outcome

  abbrev pub AppendsAsPlanned : ℕ → Bool → Type 0
  AppendsAsPlanned n failed = IsTrue tells.tells_fate → Told tells → n + 5 ≤ free_of old → AppendFollows failed
