-- Worked values: what lines of a replay with one gateway and one node come to.
use Rattle.std.specs.Prelude.{ℕ, List, [], ◌∷◌, ◌++◌, length, map}
use Rattle.once_core.specs.Gateway.{Gateway}
use Rattle.replay_world.specs.Lines.{line_notices}
use Rattle.replay_world.specs.Notices.{Notice}
use Rattle.replay_world.specs.Report.{lines_after, replayed}
use Rattle.replay_gateway.specs.Machine.{Machine}
use Rattle.replay_world.specs.Value.{ReplayValue}
use Rattle.world_script.specs.declared.line.Line.{Line}
use Rattle.world_script.specs.declared.line.Line.TheVariants as line
use Rattle.world_script.specs.declared.mode.Mode.{Mode}

-- the node becomes alive, and a packet of one record comes to the gateway
abbrev pub packet_sent : List Line
packet_sent =
    line.Tick 1 ∷ line.Flow ∷ line.Flow ∷ line.Flow ∷ line.Commit 1 ∷ line.Flow
    ∷ line.Submit 1 1 0x0600 ((0xA0 ∷ 3 ∷ 0x80 ∷ 1 ∷ 5 ∷ []) ∷ []) ∷ line.Tick 1 ∷ line.Flow ∷ []

-- a stop is armed for a call of the commit that follows, or a failure
abbrev pub stop_armed : ℕ → Mode → ReplayValue
stop_armed call mode = replayed (packet_sent ++ line.Arm 1 call mode ∷ [])

abbrev pub failure_armed : ℕ → ReplayValue
failure_armed call = replayed (packet_sent ++ line.Fail 1 call ∷ [])

-- how many entries of each gateway are firm, and how many wait, after these lines
abbrev pub entries_after : ReplayValue → List Line → List (ℕ × ℕ)
entries_after v lines =
    map (λ (g : Gateway). (length g.book.firm, length g.book.rest)) (lines_after v lines).world.gateways

-- what the commit tells, and the entries once the gateway was opened again
abbrev pub told_by_commit : ReplayValue → List Notice
told_by_commit v = line_notices v (line.Commit 1)

abbrev pub entries_opened : ReplayValue → List (ℕ × ℕ)
entries_opened v = entries_after v (line.Commit 1 ∷ line.Open 1 ∷ [])

-- the entries once it was committed again, which opens a broken gateway again
abbrev pub entries_again : ReplayValue → List (ℕ × ℕ)
entries_again v = entries_after v (line.Commit 1 ∷ line.Commit 1 ∷ [])

-- the packet is firm, and its file has room for no other record: a write of it makes seven calls of the shelf
abbrev pub packet_firm : List Line
packet_firm = line.LimitRecords 1 ∷ packet_sent ++ line.Commit 1 ∷ []

-- a stop is armed for a call of the write that follows, or a failure
abbrev pub shelf_stop_armed : ℕ → Mode → ReplayValue
shelf_stop_armed call mode = replayed (packet_firm ++ line.ArmShelf 1 call mode ∷ [])

abbrev pub shelf_failure_armed : ℕ → ReplayValue
shelf_failure_armed call = replayed (packet_firm ++ line.FailShelf 1 call ∷ [])

-- what the write tells
abbrev pub told_by_write : ReplayValue → List Notice
told_by_write v = line_notices v (line.Write 1)

-- how many files of stream 0 of each gateway are sealed after these lines
abbrev pub sealed_after : ReplayValue → List Line → List ℕ
sealed_after v lines = map (λ (m : Machine). m.filing.sealed 0) (lines_after v lines).machines

abbrev pub sealed_by_write : ReplayValue → List ℕ
sealed_by_write v = sealed_after v (line.Write 1 ∷ [])

-- the same where another write follows, of a gateway that is opened again where it stopped
abbrev pub sealed_again : ReplayValue → List ℕ
sealed_again v = sealed_after v (line.Write 1 ∷ line.Write 1 ∷ [])

abbrev pub sealed_opened : ReplayValue → List ℕ
sealed_opened v = sealed_after v (line.Write 1 ∷ line.Open 1 ∷ line.Write 1 ∷ [])
