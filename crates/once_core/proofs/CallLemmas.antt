-- What a call adds to a node's log.
use Rattle.std.proofs.Common.{◌≡◌, ℕ, nat_lt, Bool, true, if◌then◌else◌, List, [], ◌∷◌, ◌++◌, Option}
use Rattle.once_core.proofs.Names.{appointing, Began, call_entries, Dropped, due, entries_from, entries_halted, entries_running, Halt, Halted, Hear, Heard, LogEntry, most_submissions, moved_at_tick, moved_by, node_of, NodeCall, NodeSetup, NodeValue, PacketForm, place_of, Port, refusal, runs, Saying, Says, Start, Submit, submit_entries, SubmitFault, Submitted, Taken, taken, taken_entries, Tick, Ticked}
use Rattle.once_core.proofs.CaseLemmas.{by_bool, by_option, if_both}

pub data Adds (setup : NodeSetup) (before : List LogEntry) : List LogEntry → Type 0 where
  nothing : Adds setup before []
  begins_anew : Adds setup before (Began ∷ [])
  halts : Adds setup before (Halted ∷ [])
  submits : runs before ≡ true → (form : PacketForm) → Adds setup before (Submitted form ∷ [])
  ticks : runs before ≡ true → (to : Option ℕ) → Adds setup before (appointing to ++ Ticked (due (node_of setup before)) ∷ [])
  hears : runs before ≡ true → (port : Port) (gateway : ℕ) (saying : Saying) (to : Option ℕ) → Adds setup before (Heard port gateway saying ∷ appointing to)

module _ (setup : NodeSetup) (before : List LogEntry) where
  abbrev node : NodeValue
  node = node_of setup before

  takes : runs before ≡ true → (port : Port) (gateway : ℕ) (what : Taken) → Adds setup before (taken_entries node port gateway what)
  takes up port gateway (Dropped why) = nothing
  takes up port gateway (Says saying reply) = hears up port gateway saying (moved_by node port gateway saying)

  running : runs before ≡ true → (call : NodeCall) → Adds setup before (entries_running node call)
  running up (Submit form) = by_option (λ (fault : Option SubmitFault). Adds setup before (submit_entries node fault form)) (refusal node form)
      (λ free. if_both (Adds setup before) (nat_lt node.submissions most_submissions) (submits up form) nothing) (λ fault is. nothing)
  running up Tick = ticks up (moved_at_tick node)
  running up (Hear port from octets) = by_option (λ (place : Option ℕ). Adds setup before (entries_from node port place octets)) (place_of node.gateways from.ip)
      (λ none. nothing) (λ gateway is. takes up port gateway (taken node gateway octets))
  running up Halt = halts
  running up Start = nothing

  halted : (call : NodeCall) → Adds setup before (entries_halted call)
  halted Halt = halts
  halted Start = begins_anew
  halted _ = nothing

  pub adds : (call : NodeCall) → Adds setup before (call_entries node call)
  adds call = by_bool (λ (b : Bool). Adds setup before (if b then entries_running node call else entries_halted call)) (runs before) (λ up. running up call) (λ down. halted call)
