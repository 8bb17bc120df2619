-- How `loopback` ends, and why.
use Rattle.std.specs.Prelude.{◌≡◌, ◌⊎◌, ℕ, List, [], ◌∷◌, ◌++◌, Option, Some, None, codes, length, slice_get, ⊤}
use Rattle.std.specs.Io.KnownBytes.{Appends}
use Rattle.std.specs.List.{enumerate_from, flat_map}
use Rattle.gateway_book.specs.Book.{value_of}
use Rattle.gw_base.specs.Faults.{Rose}
use Rattle.gw_base.specs.Written.{AppendsFront}
use Rattle.gw_base.specs.declared.packet.PacketId.{PacketId}
use Rattle.loop_audit.specs.declared.audited.Audited.TheVariants as audited
use Rattle.loop_run.specs.Ending.{HandsNone, HandsOut, HasTakenAll, still_open, verdict}
use Rattle.loop_run.specs.declared.looped.Looped.{Looped}
use Rattle.loop_run.specs.declared.setup.LoopSetup.{LoopSetup}
use Rattle.net_link.specs.Making.{LinksState}
use Rattle.node_core.specs.Counting.{counts_of}
use Rattle.replay_gateway.specs.GatewayReport.{counts_line}
use Rattle.replay_world.specs.Report.{node_text}
use Rattle.replay_world.specs.declared.replay.Played.{Played}
use Rattle.cgf_jobs.specs.Ending.{HasCause}
use Rattle.cgf_jobs.specs.Job.{Job}
use Rattle.cgf_jobs.specs.declared.status.Status.{Status}
use Rattle.cgf_jobs.specs.declared.status.Status.TheVariants as status

-- what is written of a loop that is fine: what each node counts, what each gateway counts, and that the audit is fine
abbrev pub loop_report : Looped → List ℕ
loop_report looped =
    flat_map (λ n. node_text n.0 (counts_of n.1)) (enumerate_from 0 looped.nodes.items)
    ++ flat_map (λ g. counts_line g.0 (value_of g.1)) (enumerate_from 0 looped.books.items)
    ++ codes "audit fine" ++ 10 ∷ []

-- the ways in which a loop ends
abbrev pub IsLoopEnd : Status → Type 0
IsLoopEnd status.Done = ⊤
IsLoopEnd status.Words = ⊥
IsLoopEnd (status.Input place why) = ⊥
IsLoopEnd status.Read = ⊥
IsLoopEnd status.Write = ⊤
IsLoopEnd status.Memory = ⊤
IsLoopEnd (status.Store why) = ⊥
IsLoopEnd status.Link = ⊤
IsLoopEnd (status.Audit packet places wanted) = ⊤
IsLoopEnd (status.Unfinished turns packet count) = ⊤

-- those in which it ends where no link and no sink fails
abbrev pub IsCalmEnd : Status → Type 0
IsCalmEnd status.Done = ⊤
IsCalmEnd status.Words = ⊥
IsCalmEnd (status.Input place why) = ⊥
IsCalmEnd status.Read = ⊥
IsCalmEnd status.Write = ⊥
IsCalmEnd status.Memory = ⊤
IsCalmEnd (status.Store why) = ⊥
IsCalmEnd status.Link = ⊥
IsCalmEnd (status.Audit packet places wanted) = ⊤
IsCalmEnd (status.Unfinished turns packet count) = ⊤

-- There was no loop, and nothing of one is handed back.
abbrev pub IsNoLoop : Looped → Type 0
IsNoLoop looped = (looped.books.items ≡ []) × (looped.nodes.items ≡ [])

-- A loop leaves the source, the area, the shelf and the clock as they were.
pub record IsAside {S A F C : Type 0} (source source' : S) (area area' : A) (shelf shelf' : F) (clock clock' : C)
    : Type 0 where
  pub same_source : source' ≡ source
  pub same_area : area' ≡ area
  pub same_shelf : shelf' ≡ shelf
  pub same_clock : clock' ≡ clock

-- The loop that is handed back was done, and fine.
abbrev pub IsFine : LoopSetup → LinksState → LinksState → Looped → Type 0
IsFine setup links links' looped = HandsOut setup links links' looped
    × (still_open setup looped.books.items looped.nodes.items ≡ [])
    × (verdict looped.books.items looped.nodes.items ≡ audited.Fine)

module _ (setup : LoopSetup) (job : Job) (links links' : LinksState) (ended : Status) (looped : Looped) where
  -- What a loop does, as a whole.
  pub record Loops (played : Option Played) : Type 0 where
    -- At `Done` each packet is done, hence known to be filed, and the audit finds none that doesn't stand once; what all
    -- count is written, and nothing else.
    pub done : ended ≡ status.Done →
        IsFine setup links links' looped × Appends job.before job.after (loop_report looped)
    -- At `Write` a front of that is written.
    pub front : ended ≡ status.Write →
        IsFine setup links links' looped × AppendsFront job.before job.after (loop_report looped)
    -- At `Audit` each packet is done, and this one is the first that doesn't stand once.
    pub wrong : (packet : PacketId) (places wanted : ℕ) → ended ≡ status.Audit packet places wanted →
        HandsOut setup links links' looped × (still_open setup looped.books.items looped.nodes.items ≡ [])
        × (verdict looped.books.items looped.nodes.items ≡ audited.Wrong packet places wanted)
    -- At `Unfinished` so many packets aren't done, of which this one is the first, and the links took all turns of each
    -- node that has one.
    pub unfinished : (turns : ℕ) (packet : PacketId) (count : ℕ) → ended ≡ status.Unfinished turns packet count →
        HandsOut setup links links' looped × (turns ≡ setup.turns)
        × (slice_get (still_open setup looped.books.items looped.nodes.items) 0 ≡ Some packet)
        × (count ≡ length (still_open setup looped.books.items looped.nodes.items))
        × HasTakenAll setup links links' looped.nodes.items
    -- At `Memory` nothing is handed back, or a loop that is fine, where there was none for what is written.
    pub memory : ended ≡ status.Memory → HandsNone setup links links' looped ⊎ IsFine setup links links' looped
    -- At `Link` a link failed; at `Write` the sink did, and at no other end.
    pub link : ended ≡ status.Link → HandsNone setup links links' looped × Rose links.faults links'.faults
    pub cause : HasCause ended job.read_before job.read_after job.written_before job.written_after
    -- It ends in one of these ways, and hands back no network.
    pub known : IsLoopEnd ended
    pub none : played ≡ None
    -- Where no link and no sink fails, it ends as `Done`, `Audit` or `Unfinished`, unless memory runs out.
    pub complete : ¬ (Rose links.faults links'.faults) → ¬ (Rose job.written_before job.written_after) → IsCalmEnd ended

-- What a job hands back of a loop by its words: of the one that they ask for, and else nothing.
module _ {S A F C : Type 0} (source source' : S) (area area' : A) (shelf shelf' : F) (clock clock' : C) (job : Job)
    (links links' : LinksState) (ended : Status) (looped : Looped) (played : Option Played) where
  pub record LoopsBy (asked : Option LoopSetup) : Type 0 where
    pub loops : (of : LoopSetup) → asked ≡ Some of → Loops of job links links' ended looped played
    pub aside : (of : LoopSetup) → asked ≡ Some of → IsAside source source' area area' shelf shelf' clock clock'
    pub none : asked ≡ None → IsNoLoop looped
