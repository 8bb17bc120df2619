-- What a node knows of a copy of an open packet is what the first response tells that says something of its number.
use Rattle.std.proofs.Common.{◌≡◌, ℕ, ◌<◌, ◌≤◌, ◌==◌, ◌&&◌, ◌||◌, Bool, true, false, if◌then◌else◌, List, [], ◌∷◌, ◌++◌, length, map, Option, Some, None, refl, sym, ap, ◌∙◌, arith, inl, inr}
use Rattle.node_core.proofs.Names.{All, All-from_recursion, AllByRecursion, and-false, and-true, and_from, and_parts, append-nil, Appointed, cases_Bool, Command, commanded, cond_both, Contains, copies_after, copy_hearing, copy_hearing_own, eqb-true, eqb_tells, false_from_ne_true, false≢true, first_told, Heard, IfSome, IfSome_then, is_done, is_fulfilled, list_any, list_any-append, list_any_none, log_of, LogEntry, nat_tests, next_number, NodeCall, NodeSetup, or-false, Order, packet_after_all, packet_hearing, PacketCopy, packets_of, PacketState, Peer, Port, reached, Responds, Saying, Sending, Ticked, told_if, while_open}
use Rattle.node_core.specs.declared.sending.Sending.TheVariants as send
use Rattle.node_core.specs.Knowing.{AreKnown, IsKnown, Response, draws, first_of, is_fulfilled_at, responses_to, tellings}
use Rattle.node_core.proofs.CaseLemmas.{after_all_keeps, if_mapped, if_or, each_both, each_map, each_push, each_weaker, passes_in}
use Rattle.node_core.proofs.ChosenLemmas.{own_number}
use Rattle.node_core.proofs.KeptLemmas.{AllKept, IsBelow}
use Rattle.node_core.proofs.ReachedLemmas.{Law, all_hold}
use Rattle.node_core.proofs.TickMoves.{AllDraw, DrawsNext}

-- ---- one more response, if it names the number

module _ (port : Port) (cause : ℕ) where
  abbrev if_named : Bool → List Response
  if_named named = if named then record { port = port; cause = cause } ∷ [] else []

  told_more : (named is_plain : Bool) (responses : List Response) →
      first_of (tellings is_plain (responses ++ if_named named))
      ≡ first_told (first_of (tellings is_plain responses)) (told_if named port is_plain cause)
  told_more named is_plain (response ∷ responses) = grind (arith, nat_tests, (told_more named is_plain responses))
  told_more false is_plain [] = refl
  told_more true is_plain [] = grind (arith, nat_tests)

  fulfilled_more : (named : Bool) (responses : List Response) →
      list_any (λ (r : Response). is_fulfilled r.cause) (responses ++ if_named named)
      ≡ (list_any (λ (r : Response). is_fulfilled r.cause) responses || (is_fulfilled cause && named))
  fulfilled_more named responses = grind (arith, nat_tests, list_any-append, or-false, and-true, and-false)

-- ---- what each copy of a packet, or of an open one, is by the log

abbrev Known : List LogEntry → PacketState → Type 0
Known log packet = AllByRecursion (IsKnown log) packet.copies

abbrev OpenKnown : List LogEntry → PacketState → Type 0
OpenKnown log packet = is_done packet.copies ≡ false → Known log packet

abbrev AllKnown : List LogEntry → List PacketState → Type 0
AllKnown log packets = AllByRecursion (OpenKnown log) packets

-- the same responses make the same known
same_known : (log later : List LogEntry) (copy : PacketCopy) → responses_to copy.gateway copy.number later ≡ responses_to copy.gateway copy.number log →
    IfSome copy.command (λ (c : Command). responses_to copy.gateway c.number later ≡ responses_to copy.gateway c.number log) → IsKnown log copy → IsKnown later copy
same_known log later copy same same_command known = record {
  verdict = known.verdict ∙ ap (λ (rs : List Response). first_of (tellings copy.is_plain rs)) (sym same);
  command = by copy.command same_command known.command;
}
  where
    by : (command : Option Command) → IfSome command (λ (c : Command). responses_to copy.gateway c.number later ≡ responses_to copy.gateway c.number log) →
        IfSome command (λ (c : Command). c.is_answered ≡ is_fulfilled_at log copy.gateway c.number) →
        IfSome command (λ (c : Command). c.is_answered ≡ is_fulfilled_at later copy.gateway c.number)
    by None same is = tt
    by (Some command) same is = is ∙ ap (list_any (λ (r : Response). is_fulfilled r.cause)) (sym same)

-- what changes no response to a copy
all_same_known : (log later : List LogEntry) (copy : PacketCopy) →
    ((number : ℕ) → responses_to copy.gateway number later ≡ responses_to copy.gateway number log) → IsKnown log copy → IsKnown later copy
all_same_known log later copy same = grind (arith, nat_tests, same_known)

all_same : (log later : List LogEntry) → ((gateway number : ℕ) → responses_to gateway number later ≡ responses_to gateway number log) →
    (packets : List PacketState) → AllKnown log packets → AllKnown later packets
all_same log later same packets known = search (arith, each_weaker)

-- what happens to open packets
when_open : (log later : List LogEntry) (f : PacketState → PacketState) (packet : PacketState) → (Known log packet → Known later (f packet)) →
    OpenKnown log packet → OpenKnown later (while_open f packet)
when_open log later f packet step known = search (arith, cases_Bool, false≢true)

-- ---- a tick

-- a number below the next one isn't drawn
undrawn : (peers : List Peer) (gateway number : ℕ) → number < next_number peers gateway → (sendings : List Sending) → AllDraw peers sendings →
    list_any (draws gateway number) sendings ≡ false
undrawn peers gateway number below sendings all =
    list_any_none (draws gateway number) sendings
    (All-from_recursion (λ (s : Sending). draws gateway number s ≡ false) sendings
    (each_weaker (DrawsNext peers) (λ (s : Sending). draws gateway number s ≡ false) one sendings all))
  where
    if_new : (is_new : Bool) (place drawn : ℕ) → (is_new ≡ true → next_number peers place ≤ drawn) → (is_new && ((place == gateway) && (drawn == number))) ≡ false
    if_new is_new place drawn above = search (arith, nat_tests, false_from_ne_true, and_parts, eqb-true)

    one : (sending : Sending) → DrawsNext peers sending → draws gateway number sending ≡ false
    one (send.Data packet place drawn is_plain is_new) is = if_new is_new place drawn is
    one (send.Command packet place named drawn order is_new) is = if_new is_new place drawn is
    one _ is = refl

module _ (sendings : List Sending) (log : List LogEntry) where
  abbrev after_tick : List LogEntry
  after_tick = Ticked sendings ∷ log

  -- nothing was heard of a number that is drawn in it
  none_yet : (gateway number : ℕ) → list_any (draws gateway number) sendings ≡ true → responses_to gateway number after_tick ≡ []
  none_yet gateway number is = ap (λ (b : Bool). if b then [] else responses_to gateway number log) is

  commanded_known : (order : Order) (number gateway : ℕ) → list_any (draws gateway number) sendings ≡ true → (copy : PacketCopy) → IsKnown after_tick copy →
      IsKnown after_tick (commanded gateway (record { order = order; number = number; is_answered = false }) copy)
  commanded_known order number gateway is copy known =
      elim (eqb_tells copy.gateway gateway) [
        | inl same ↦ rw same.0 (record {
          verdict = known.verdict;
          command = if_or (λ (c : Command). c.is_answered ≡ is_fulfilled_at after_tick copy.gateway c.number)
              copy.command
              (Some (record { order = order; number = number; is_answered = false })) known.command
              (sym (ap (λ (g : ℕ). is_fulfilled_at after_tick g number) same.1
              ∙ ap (list_any (λ (r : Response). is_fulfilled r.cause)) (none_yet gateway number is)));
        })
        | inr isnt ↦ rw isnt.0 known
      ]

  copies_known : (sending : Sending) → Contains sendings sending → (copies : List PacketCopy) → AllByRecursion (IsKnown after_tick) copies →
      AllByRecursion (IsKnown after_tick) (copies_after sending copies)
  copies_known (send.Data packet gateway number is_plain true) there copies known =
      search (arith, passes_in, send.Data, and_from, own_number, each_push, none_yet)
  copies_known (send.Command packet gateway named number order true) there copies known =
      search (arith, passes_in, send.Command, and_from, own_number, each_map, commanded_known)
  copies_known _ there copies known = known

  -- what was known before stays, as the tick draws no number of it
  still_known : (peers : List Peer) → AllDraw peers sendings → (copy : PacketCopy) → IsBelow peers copy → IsKnown log copy → IsKnown after_tick copy
  still_known peers draw copy below =
      same_known log after_tick copy (same copy.number below.number)
      (IfSome_then copy.command below.command (λ c is. same c.number is.1))
    where
      same : (number : ℕ) → number < next_number peers copy.gateway → responses_to copy.gateway number after_tick ≡ responses_to copy.gateway number log
      same number low = ap (λ (b : Bool). if b then [] else responses_to copy.gateway number log) (undrawn peers copy.gateway number low sendings draw)

  ticked_known : (peers : List Peer) (packets : List PacketState) → AllDraw peers sendings → AllKept peers packets → AllKnown log packets →
      AllKnown after_tick (map (while_open (packet_after_all sendings)) packets)
  ticked_known peers [] draw kept known = tt
  ticked_known peers (packet ∷ packets) draw kept known = (
    when_open log after_tick (packet_after_all sendings) packet
        (λ was. after_all_keeps (AllByRecursion (IsKnown after_tick)) sendings copies_known packet
        (each_both (IsBelow peers) (IsKnown log) (IsKnown after_tick) (still_known peers draw) packet.copies
        kept.0.below was)) known.0,
    ticked_known peers packets draw kept.1 known.1,
  )

-- ---- a message

module _ (port : Port) (place cause : ℕ) (numbers : List ℕ) (log : List LogEntry) where
  abbrev after_response : List LogEntry
  after_response = Heard port place (Responds cause numbers) ∷ log

  hears_own : (copy : PacketCopy) → (copy.gateway == place) ≡ true → IsKnown log copy → IsKnown after_response (copy_hearing_own port cause numbers copy)
  hears_own copy mine known = search (arith, told_more, if_mapped, IfSome_then, fulfilled_more)

  hears : (copy : PacketCopy) → IsKnown log copy → IsKnown after_response (copy_hearing port place cause numbers copy)
  hears copy known = search (arith, cases_Bool, hears_own, all_same_known, append-nil)

heard_known : (port : Port) (place : ℕ) (saying : Saying) (log : List LogEntry) → AllKnown log (packets_of log) →
    AllKnown (Heard port place saying ∷ log) (packets_of (Heard port place saying ∷ log))
heard_known port place (Responds cause numbers) log known =
    let later : List LogEntry = Heard port place (Responds cause numbers) ∷ log in
    each_map (OpenKnown log) (OpenKnown later) (while_open (packet_hearing port place cause numbers))
    (λ packet is. when_open log later (packet_hearing port place cause numbers) packet
    (λ was. each_map (IsKnown log) (IsKnown later) (copy_hearing port place cause numbers) (hears port place cause numbers log) packet.copies was) is)
    (packets_of log) known
heard_known port place saying log known =
    all_same log (Heard port place saying ∷ log) (λ gateway number.
    cond_both (gateway == place) [] [] (λ (new : List Response).
    responses_to gateway number log ++ new ≡ responses_to gateway number log)
    (λ _. append-nil (responses_to gateway number log)) (λ _. append-nil (responses_to gateway number log)))
    (packets_of log) known

-- ---- all calls

known_law : (setup : NodeSetup) → Law setup (λ (log : List LogEntry). AllKnown log (packets_of log))
known_law setup = record {
  begins = λ log. tt;
  halts = λ log. tt;
  submits = λ log form unrefused known. search (arith, each_push, all_same);
  appoints = λ log gateway known. all_same log (Appointed gateway ∷ log) (λ place number. refl) (packets_of log) known;
  ticks = λ log stands tick known. search (arith, ticked_known);
  hears = λ log port gateway saying known. heard_known port gateway saying log known;
}

pub all_are_known : (setup : NodeSetup) (calls : List NodeCall) → 1 ≤ length setup.gateways → All (AreKnown (log_of setup calls)) (reached setup calls).packets
all_are_known setup calls some =
    let log : List LogEntry = log_of setup calls in
    All-from_recursion (AreKnown log) (packets_of log)
    (each_weaker (OpenKnown log) (AreKnown log) (λ packet is open_yet. All-from_recursion (IsKnown log) packet.copies (is open_yet)) (packets_of log)
    (all_hold setup some (λ (log : List LogEntry). AllKnown log (packets_of log)) (known_law setup) calls).1)
