-- What an answer records is fit.
use Rattle.std.proofs.Common.{◌≡◌, ℕ, ◌+◌, ◌-◌, ◌*◌, ◌%◌, ◌≤◌, length, nat_le, Bool, true, false, ◌&&◌, if◌then◌else◌, List, [], ◌∷◌, ◌++◌, Option, Some, None, refl, sym, ap, ◌∙◌, map, arith}
use Rattle.std.proofs.lemmas.Bool.{and_from, and_parts, false≢true, le-leb}
use Rattle.std.specs.Prelude.{⊤}
use Rattle.std.specs.Option.{option_map, option_map_or}
use Rattle.entry_codec.specs.Room.{has_room, capacity_of, costs_of}
use Rattle.entry_codec.specs.Spelling.{cost_of}
use Rattle.gtpp_message.specs.Message.{MessageValue, TransferValue, Send, Possible, Cancel, Release}
use Rattle.gtpp_message.specs.Packet.{PacketForm, Empty, Full, packet_of}
use Rattle.gtpp_message.specs.declared.reading.Why.TheVariants.{NoRoom}
use Rattle.gw_base.specs.EntryLaws.{is_close_due-append}
use Rattle.gw_base.specs.HeldLaws.{held_keys-append}
use Rattle.gw_base.specs.HeldKeys.{held_keys, promised_octets}
use Rattle.gw_base.specs.History.{is_close_due, last_moment, moment_after}
use Rattle.gw_base.specs.Nearest.{nearest}
use Rattle.gw_base.specs.Observed.{Observed, observed}
use Rattle.gw_base.specs.declared.address.Addr.{Addr}
use Rattle.gw_base.specs.declared.address.NodeId.{NodeId}
use Rattle.gw_base.specs.declared.cause.TheConstants.{ACCEPTED, NO_RESOURCES}
use Rattle.gw_base.specs.declared.history.Caller.{Caller}
use Rattle.gw_base.specs.declared.history.HistoryAct.{HistoryAct}
use Rattle.gw_base.specs.declared.history.HistoryAct.TheVariants as act
use Rattle.gw_base.specs.declared.history.HistoryEntry.{HistoryEntry}
use Rattle.gw_base.specs.declared.key_state.KeyState.{KeyState}
use Rattle.gw_base.specs.declared.key_state.KeyState.TheVariants.{Fresh}
use Rattle.path_mgmt.specs.GatewayPath.{opened_by}
use Rattle.path_mgmt.specs.declared.event.PathEvent.{PathEvent}
use Rattle.path_mgmt.specs.declared.event.PathEvent.TheVariants.{EchoAsked, EchoTold, AliveAsked, AliveTold}
use Rattle.transfer_cmd.specs.Lists.{verdict_cause, verdict_of}
use Rattle.transfer_cmd.specs.Table.{answer_cause, state_given}
use Rattle.transfer_cmd.specs.declared.decision.Ask.{Ask}
use Rattle.transfer_cmd.specs.declared.decision.Ask.TheVariants as ask
use Rattle.transfer_cmd.specs.declared.verdict.Verdict.{Verdict}
use Rattle.transfer_cmd.specs.declared.verdict.Verdict.TheVariants.{Wrong, Before, Change}
use Rattle.gateway_answer.specs.Answer.{Given, Drops, Replies, answer_by, answer_within, asked_by, listed, may_record, node_of, opening_epoch, path_given, recording, replying, responding, sent, tabled}
use Rattle.gateway_answer.specs.Answered.{answer_to, entry_by, no_caller, room_for}
use Rattle.gateway_answer.specs.Asked.{changes, held_ones, recorded_as}
use Rattle.gateway_answer.specs.Fit.{IsFit, is_act_fit, is_act_lawful, is_first, is_fresh, is_in_window, is_new, is_packet_fit, latest_moment}
use Rattle.gateway_index.specs.Limits.{has_place, is_in_range, may_hold, within_limits}
use Rattle.gateway_answer.specs.ListFitLaws.{change_is_held, held_ones_fit}
use Rattle.gateway_answer.specs.Preparing.{PreparedValue, Drop, OtherVersion, Refused, Path, Request, IsWhole, has_values}
use Rattle.gateway_answer.specs.Recording.{Fits, IfRecords, IsTabled}

-- ---- tests of a few parts

all_four : (a b c d : Bool) → a ≡ true → b ≡ true → c ≡ true → d ≡ true → (a && b && c && d) ≡ true
all_four a b c d p q r s = rw (p, q, r, s) refl

all_three : (a b c : Bool) → a ≡ true → b ≡ true → c ≡ true → (a && b && c) ≡ true
all_three a b c p q r = rw (p, q, r) refl

three_parts : (a b c : Bool) → (a && b && c) ≡ true → (a ≡ true) × (b ≡ true) × (c ≡ true)
three_parts true true true e = (refl, refl, refl)
three_parts true true false e = absurd (false≢true e)
three_parts true false c e = absurd (false≢true e)
three_parts false b c e = absurd (false≢true e)

-- the number that is meant lies in the window
pub nearest_in_window : (top : Option ℕ) (w : ℕ) → is_in_window top (nearest top w) ≡ true
nearest_in_window None w = refl
nearest_in_window (Some h) w =
    le-leb h (h - 32768 + (w + 65536 - (h - 32768) % 65536) % 65536 + 32768) (omega arith)

-- a packet is fit, where the request that sends it records it
abbrev IsPacketFor : Ask → List ℕ → Type 0
IsPacketFor ask.Send packet = is_packet_fit packet ≡ true
IsPacketFor ask.Possible packet = is_packet_fit packet ≡ true
IsPacketFor ask.Empty packet = ⊤

-- what holds of a recorded act holds in other words
pub records_also : (P Q : ℕ → MessageValue → HistoryAct → Type 0) → ((number : ℕ) (message : MessageValue) (a : HistoryAct) → P number message a → Q number message a)
    → (given : Given) → IfRecords P given → IfRecords Q given
records_also P Q also (Drops why) is = tt
records_also P Q also (Replies number message None) is = tt
records_also P Q also (Replies number message (Some a)) is = also number message a is

module _ (of : NodeId → Observed) (may : HistoryAct → Bool) (number : ℕ) (node : NodeId) where
  abbrev Tabled : Given → Type 0
  Tabled given = IfRecords (λ number message a. IsTabled of node may a) given

  new_fits : (x : ℕ) → (of node).state x ≡ Fresh → is_in_window (of node).top x ≡ true → has_place (of node) ≡ true → is_in_range x ≡ true → is_new (of node) x ≡ true
  new_fits x fresh window place range =
      all_four (has_place (of node)) (is_fresh ((of node).state x)) (is_in_range x) (is_in_window (of node).top x) place (ap is_fresh fresh) range window

  first_is : (x : ℕ) → (of node).state x ≡ Fresh → is_in_window (of node).top x ≡ true → is_first (of node) x ≡ true
  first_is x fresh window = and_from (is_fresh ((of node).state x)) (is_in_window (of node).top x) (ap is_fresh fresh) window

  first_with : (x : ℕ) (packet : List ℕ) → (of node).state x ≡ Fresh → is_in_window (of node).top x ≡ true → is_packet_fit packet ≡ true → (is_first (of node) x && is_packet_fit packet) ≡ true
  first_with x packet fresh window fit = and_from (is_first (of node) x) (is_packet_fit packet) (first_is x fresh window) fit

  recorded : (a : HistoryAct) (cause : ℕ) → is_act_lawful of a ≡ true → (within_limits (of node) a ≡ true → is_act_fit of a ≡ true) → Tabled (recording may number cause a)
  recorded a cause lawful fit = by_test (may a) refl
    where
      by_test : (b : Bool) → may a ≡ b → Tabled (if b then responding number cause (Some a) else responding number NO_RESOURCES None)
      by_test true e = record { lawful = lawful; allowed = e; fit = fit }
      by_test false e = tt

  by_table : (meant : ℕ) → is_in_window (of node).top meant ≡ true → (packet : List ℕ) (asked : Ask) → IsPacketFor asked packet → (state : KeyState) → (of node).state meant ≡ state
      → Tabled (tabled may number (answer_cause asked state) (recorded_as asked node meant packet (state_given asked state)))
  by_table meant window packet ask.Send fit Fresh fresh =
      recorded (act.File node meant packet) ACCEPTED (first_with meant packet fresh window fit)
      (λ limits.
      let parts = and_parts (has_place (of node)) (is_in_range meant) limits in
      and_from (is_new (of node) meant) (is_packet_fit packet) (new_fits meant fresh window parts.0 parts.1) fit)
  by_table meant window packet ask.Possible fit Fresh fresh =
      recorded (act.Hold node meant packet) ACCEPTED (first_with meant packet fresh window fit)
      (λ limits.
      let parts = three_parts (has_place (of node)) (is_in_range meant) (may_hold (of node)) limits in
      all_three (is_new (of node) meant) (is_packet_fit packet) (may_hold (of node)) (new_fits meant fresh window parts.0 parts.1) fit parts.2)
  by_table meant window packet ask.Empty fit Fresh fresh =
      recorded (act.Seal node meant) ACCEPTED (first_is meant fresh window)
      (λ limits.
      let parts = and_parts (has_place (of node)) (is_in_range meant) limits in
      new_fits meant fresh window parts.0 parts.1)
  by_table meant window packet ask.Send fit _ state = tt
  by_table meant window packet ask.Possible fit _ state = tt
  by_table meant window packet ask.Empty fit _ state = tt

  by_verdict : (release : Bool) (xs : List ℕ) (verdict : Verdict) → verdict_of release (map (of node).state xs) ≡ verdict
      → Tabled (tabled may number (verdict_cause verdict) (changes verdict release node (held_ones (of node) xs)))
  by_verdict release xs Wrong e = tt
  by_verdict release xs Before e = tt
  by_verdict true xs Change e =
      let held = held_ones_fit (of node) xs (change_is_held true (map (of node).state xs) e) in
      recorded (act.Release node (held_ones (of node) xs)) ACCEPTED held (λ limits. held)
  by_verdict false xs Change e =
      let held = held_ones_fit (of node) xs (change_is_held false (map (of node).state xs) e) in
      recorded (act.Cancel node (held_ones (of node) xs)) ACCEPTED held (λ limits. held)

  by_list : (release : Bool) (numbers : List ℕ) → Tabled (listed (of node) may node number release numbers)
  by_list release numbers =
      by_verdict release (map (nearest (of node).top) numbers) (verdict_of release (map (of node).state (map (nearest (of node).top) numbers))) refl

  by_sent : (asked : Ask) (packet : List ℕ) → IsPacketFor asked packet → Tabled (sent (of node) may node number asked packet)
  by_sent asked packet fit =
      by_table (nearest (of node).top number) (nearest_in_window (of node).top number) packet asked fit ((of node).state (nearest (of node).top number)) refl

  packet_fits : (form : PacketForm) (value : List ℕ) → packet_of value ≡ Some form → has_values form ≡ true → is_packet_fit value ≡ true
  packet_fits form value is values = ap (λ (p : Option PacketForm). option_map_or has_values p false) is ∙ values

  by_request : (body : TransferValue) → IsWhole (Request number body) → Tabled (asked_by (of node) may node number body)
  by_request (Send Empty) whole = by_sent ask.Empty [] tt
  by_request (Send (Full form value)) whole = by_sent ask.Send value (packet_fits form value whole.0 whole.1)
  by_request (Possible Empty) whole = by_sent ask.Empty [] tt
  by_request (Possible (Full form value)) whole = by_sent ask.Possible value (packet_fits form value whole.0 whole.1)
  by_request (Cancel numbers) whole = by_list false numbers
  by_request (Release numbers) whole = by_list true numbers

module _ (of : NodeId → Observed) (may : HistoryAct → Bool) (from : Addr) where
  abbrev TabledFrom : Given → Type 0
  TabledFrom given = IfRecords (λ number message a. IsTabled of (node_of from) may a) given

  by_opening : (told : ℕ) (changed : Option ℕ) → TabledFrom (opening_epoch may from (Some (AliveTold told)) changed)
  by_opening told None = tt
  by_opening told (Some counter) = by_test (may (act.Path (node_of from) from.port counter)) refl
    where
      by_test : (b : Bool) → may (act.Path (node_of from) from.port counter) ≡ b
          → TabledFrom (if b then replying (Some (AliveTold told)) (Some (act.Path (node_of from) from.port counter)) else Drops NoRoom)
      by_test true e = record { lawful = refl; allowed = e; fit = λ place. place }
      by_test false e = tt

  by_path : (event : PathEvent) → TabledFrom (path_given (of (node_of from)) may from event)
  by_path (EchoAsked told) = tt
  by_path (EchoTold told counter) = by_opening told (opened_by (option_map (λ path. path.counter) (of (node_of from)).opening) counter)
  by_path (AliveAsked told) = tt
  by_path (AliveTold told) = tt

-- each act that an answer records keeps to the table of answers, and may be recorded
pub records_tabled : (of : NodeId → Observed) (from : Addr) (datagram : PreparedValue) (may : HistoryAct → Bool) → IsWhole datagram
    → IfRecords (λ number message a. IsTabled of (node_of from) may a) (answer_by (of (node_of from)) from datagram may)
records_tabled of from (Drop why) may whole = tt
records_tabled of from (OtherVersion number) may whole = tt
records_tabled of from (Refused cause number) may whole = tt
records_tabled of from (Path event) may whole = by_path of may from event
records_tabled of from (Request number body) may whole = by_request of may number (node_of from) body whole

-- each one of a gateway that keeps to its limits is fit by what is observed, and has room
pub records_fit : (of : NodeId → Observed) (from : Addr) (datagram : PreparedValue) (room : HistoryAct → Bool) → IsWhole datagram
    → IfRecords (Fits of room) (answer_within (of (node_of from)) from datagram room)
records_fit of from datagram room whole =
    records_also (λ number message a. IsTabled of (node_of from) (may_record (of (node_of from)) room) a) (Fits of room) also
    (answer_within (of (node_of from)) from datagram room) (records_tabled of from datagram (may_record (of (node_of from)) room) whole)
  where
    also : (number : ℕ) (message : MessageValue) (a : HistoryAct) → IsTabled of (node_of from) (may_record (of (node_of from)) room) a → Fits of room number message a
    also number message a is = let parts = and_parts (within_limits (of (node_of from)) a) (room a) is.allowed in (is.fit parts.0, parts.1)

-- ---- of a history

-- what is promised behind an entry depends on its act alone
promised_by_act : (h : List HistoryEntry) (a : HistoryAct) (n m : ℕ) (who whom : Caller)
    → promised_octets (h ++ record { moment = n; caller = who; act = a } ∷ []) ≡ promised_octets (h ++ record { moment = m; caller = whom; act = a } ∷ [])
promised_by_act h a n m who whom = λ i. 76 * length (keys i) + (if due i then 30 else 0)
  where
    keys : held_keys (h ++ record { moment = n; caller = who; act = a } ∷ []) ≡ held_keys (h ++ record { moment = m; caller = whom; act = a } ∷ [])
    keys = held_keys-append h (record { moment = n; caller = who; act = a }) ∙ sym (held_keys-append h (record { moment = m; caller = whom; act = a }))

    due : is_close_due (h ++ record { moment = n; caller = who; act = a } ∷ []) ≡ is_close_due (h ++ record { moment = m; caller = whom; act = a } ∷ [])
    due = is_close_due-append h (record { moment = n; caller = who; act = a }) ∙ sym (is_close_due-append h (record { moment = m; caller = whom; act = a }))

-- the room for an act is that for each entry of it
pub room_is_for_each : (h : List HistoryEntry) (size now : ℕ) (who : Caller) (a : HistoryAct) → has_room h (entry_by h now who a) size ≡ room_for h size a
room_is_for_each h size now who a =
    ap (λ (promised : ℕ). nat_le (costs_of h + cost_of (entry_by h now who a) + promised) (capacity_of size))
    (promised_by_act h a (moment_after h now) (moment_after h 0) who no_caller)

-- the entry of each act that an answer records is fit
pub answer_fits : (h : List HistoryEntry) (from : Addr) (datagram : PreparedValue) (size now : ℕ) (who : Caller) → IsWhole datagram
    → last_moment h ≤ latest_moment → now ≤ latest_moment → IfRecords (λ number message a. IsFit size h (entry_by h now who a)) (answer_to h from datagram size)
answer_fits h from datagram size now who whole last here =
    records_also (Fits (observed h) (room_for h size)) (λ number message a. IsFit size h (entry_by h now who a)) also (answer_to h from datagram size)
    (records_fit (observed h) from datagram (room_for h size) whole)
  where
    also : (number : ℕ) (message : MessageValue) (a : HistoryAct) → Fits (observed h) (room_for h size) number message a → IsFit size h (entry_by h now who a)
    also number message a fits = record {
      moment = omega arith;
      order = omega arith;
      act = fits.0;
      room = room_is_for_each h size now who a ∙ fits.1;
    }
