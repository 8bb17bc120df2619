-- Words for the code of `loopback`. No contract of a public call cites them.
use Rattle.std.specs.Prelude.{◌≡◌, ◌⊎◌, ℕ, List, [], ◌∷◌, ◌++◌, Option, Some, codes, length, slice_get}
use Rattle.std.specs.Io.KnownBytes.{Appends}
use Rattle.std.specs.List.{enumerate_from, flat_map}
use Rattle.gateway_book.specs.declared.outcome.GatewayCounts.{GatewayCounts}
use Rattle.gw_base.specs.Faults.{Rose}
use Rattle.gw_base.specs.Written.{AppendsFront}
use Rattle.loop_audit.specs.declared.audited.Audited.TheVariants as audited
use Rattle.loop_run.specs.Ending.{HandsNone, HandsOut, HasTakenAll, still_open, verdict}
use Rattle.loop_run.specs.declared.end.LoopEnd.{LoopEnd}
use Rattle.loop_run.specs.declared.end.LoopEnd.TheVariants as end
use Rattle.loop_run.specs.declared.looped.Looped.{Looped}
use Rattle.loop_run.specs.declared.setup.LoopSetup.{LoopSetup}
use Rattle.net_link.specs.Making.{LinksState}
use Rattle.node_core.specs.declared.counts.NodeCounts.{NodeCounts}
use Rattle.replay_gateway.specs.GatewayReport.{counts_text}
use Rattle.replay_world.specs.Report.{node_text}
use Rattle.cgf_top.specs.LoopEnds.{IsFine, loop_report}
use Rattle.cgf_jobs.specs.declared.status.Status.{Status}
use Rattle.cgf_jobs.specs.declared.status.Status.TheVariants as status

-- the lines of a list, by their places from this on
abbrev pub lines_from : {A : Type 0} → (ℕ → A → List ℕ) → ℕ → List A → List ℕ
lines_from line at all = flat_map (λ one. line one.0 one.1) (enumerate_from at all)

-- all lines, and that the audit is fine
abbrev pub report_text : List NodeCounts → List GatewayCounts → List ℕ
report_text nodes gateways =
    lines_from node_text 0 nodes ++ lines_from counts_text 0 gateways ++ codes "audit fine" ++ 10 ∷ []

-- a text is written, or a front of it, and then the sink has failed; or there is no memory for it
abbrev pub WritesText : List ℕ → Option (List ℕ) → Option (List ℕ) → ℕ → ℕ → Status → Type 0
WritesText text before after faults faults' ended =
    ((ended ≡ status.Done) × Appends before after text × (faults' ≡ faults))
    ⊎ (((ended ≡ status.Write) × AppendsFront before after text × Rose faults faults')
    ⊎ ((ended ≡ status.Memory) × (faults' ≡ faults)))

abbrev pub WritesReport : List NodeCounts → List GatewayCounts → Option (List ℕ) → Option (List ℕ) → ℕ → ℕ → Status
    → Type 0
WritesReport nodes gateways = WritesText (report_text nodes gateways)

-- What is written of an end, and the status that tells it.
module _ (before after : Option (List ℕ)) (faults faults' : ℕ) where
  abbrev pub WritesEnd : LoopEnd → Status → Type 0
  WritesEnd (end.Fine nodes gateways) ended = WritesReport nodes.items gateways.items before after faults faults' ended
  WritesEnd (end.Wrong packet places wanted) ended =
      (ended ≡ status.Audit packet places wanted) × (faults' ≡ faults)
  WritesEnd (end.Unfinished turns packet count) ended =
      (ended ≡ status.Unfinished turns packet count) × (faults' ≡ faults)
  WritesEnd end.Link ended = (ended ≡ status.Link) × (faults' ≡ faults)
  WritesEnd end.NoMemory ended = (ended ≡ status.Memory) × (faults' ≡ faults)

-- How a loop ended, and what was written of it.
module _ (setup : LoopSetup) (links links' : LinksState) (before after : Option (List ℕ)) (faults faults' : ℕ) where
  abbrev pub WritesLoop : Status → Looped → Type 0
  WritesLoop status.Done looped = IsFine setup links links' looped × Appends before after (loop_report looped)
      × (faults' ≡ faults)
  WritesLoop status.Write looped = IsFine setup links links' looped × AppendsFront before after (loop_report looped)
      × Rose faults faults'
  WritesLoop status.Memory looped =
      (HandsNone setup links links' looped ⊎ IsFine setup links links' looped) × (faults' ≡ faults)
  WritesLoop status.Link looped = HandsNone setup links links' looped × Rose links.faults links'.faults
      × (faults' ≡ faults)
  WritesLoop (status.Audit packet places wanted) looped = HandsOut setup links links' looped
      × (still_open setup looped.books.items looped.nodes.items ≡ [])
      × (verdict looped.books.items looped.nodes.items ≡ audited.Wrong packet places wanted) × (faults' ≡ faults)
  WritesLoop (status.Unfinished turns packet count) looped = HandsOut setup links links' looped
      × (turns ≡ setup.turns)
      × (slice_get (still_open setup looped.books.items looped.nodes.items) 0 ≡ Some packet)
      × (count ≡ length (still_open setup looped.books.items looped.nodes.items))
      × HasTakenAll setup links links' looped.nodes.items × (faults' ≡ faults)
  WritesLoop _ looped = ⊥
