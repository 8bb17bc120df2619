-- Answers ask of the numbers alone that a number on the wire may mean.
use Rattle.std.proofs.Common.{◌≡◌, ℕ, ◌==◌, Bool, true, false, if◌then◌else◌, List, [], ◌∷◌, map, filter, refl, ap, ◌∙◌}
use Rattle.gtpp_message.specs.Message.{TransferValue, Send, Possible, Cancel, Release}
use Rattle.gateway_answer.proofs.Names.{Addr, answer_within, asked_by, changes, HistoryAct, is_held, listed, may_record, nearest, node_of, NodeId, Observed, once, packet_octets, PreparedValue, recorded_as, Request, sending, sending_again, sent, tabled, verdict_cause, verdict_of}
use Rattle.gw_base.specs.declared.history.HistoryAct.TheVariants as act
use Rattle.gw_base.specs.declared.key_state.KeyState.{KeyState}
use Rattle.transfer_cmd.specs.Table.{answer_cause, state_given}
use Rattle.transfer_cmd.specs.declared.decision.Ask.{Ask}
use Rattle.gateway_index.specs.Windows.{AgreeWhereMeant, if_held, narrowed}
use Rattle.gateway_answer.specs.FitLaws.{nearest_in_window}

-- ---- other states of numbers that none means

module _ (o : Observed) (s : ℕ → KeyState) (moment : ℕ) (same : (wire : ℕ) → s (nearest o.top wire) ≡ o.state (nearest o.top wire)) where
  states_are : (numbers : List ℕ) → map s (map (nearest o.top) numbers) ≡ map o.state (map (nearest o.top) numbers)
  states_are [] = refl
  states_are (w ∷ numbers) = λ i. same w i ∷ states_are numbers i

  held_are : (numbers : List ℕ) → filter (λ x. is_held (s x)) (map (nearest o.top) numbers) ≡ filter (λ x. is_held (o.state x)) (map (nearest o.top) numbers)
  held_are [] = refl
  held_are (w ∷ numbers) = λ i. if is_held (same w i) then nearest o.top w ∷ held_are numbers i else held_are numbers i

  sent_is : (may : HistoryAct → Bool) (node : NodeId) (number : ℕ) (asked : Ask) (packet : List ℕ)
      → sent (record o { state = s; moment = moment }) may node number asked packet ≡ sent o may node number asked packet
  sent_is may node number asked packet = ap (λ (state : KeyState). tabled may number (answer_cause asked state) (recorded_as asked node (nearest o.top number) packet (state_given asked state))) (same number)

  listed_is : (may : HistoryAct → Bool) (node : NodeId) (number : ℕ) (release : Bool) (numbers : List ℕ)
      → listed (record o { state = s; moment = moment }) may node number release numbers ≡ listed o may node number release numbers
  listed_is may node number release numbers = λ i.
      let verdict = verdict_of release (states_are numbers i) in
      tabled may number (verdict_cause verdict) (changes verdict release node (once (λ x y. x == y) (held_are numbers i)))

  asked_is : (may : HistoryAct → Bool) (node : NodeId) (number : ℕ) (body : TransferValue)
      → asked_by (record o { state = s; moment = moment }) may node number body ≡ asked_by o may node number body
  asked_is may node number (Send packet) = sent_is may node number (sending packet) (packet_octets packet)
  asked_is may node number (Possible packet) = sent_is may node number (sending_again packet) (packet_octets packet)
  asked_is may node number (Cancel numbers) = listed_is may node number false numbers
  asked_is may node number (Release numbers) = listed_is may node number true numbers

  may_is : (room : HistoryAct → Bool) (a : HistoryAct) → may_record (record o { state = s; moment = moment }) room a ≡ may_record o room a
  may_is room act.Start = refl
  may_is room _ = refl

  answer_is : (from : Addr) (datagram : PreparedValue) (room : HistoryAct → Bool)
      → answer_within (record o { state = s; moment = moment }) from datagram room ≡ answer_within o from datagram room
  answer_is from (Request number body) room =
      ap (λ (may : HistoryAct → Bool). asked_by (record o { state = s; moment = moment }) may (node_of from) number body) (λ i a. may_is room a i)
      ∙ asked_is (may_record o room) (node_of from) number body
  answer_is from _ room = refl

pub agreed_answer : (o p : Observed) (from : Addr) (datagram : PreparedValue) (room : HistoryAct → Bool) → AgreeWhereMeant o p → answer_within o from datagram room ≡ answer_within p from datagram room
agreed_answer o p from datagram room agree =
    ap (λ (q : Observed). answer_within q from datagram room) is ∙ answer_is p o.state o.moment agree.states from datagram room
  where
    is : o ≡ record p { state = o.state; moment = o.moment }
    is = λ i. record { own = agree.own i; opening = agree.opening i; top = agree.top i; state = o.state; is_known = agree.is_known i; known = agree.known i; held = agree.held i; moment = o.moment }

-- ---- windows

pub narrowed_answer : (o : Observed) (from : Addr) (datagram : PreparedValue) (room : HistoryAct → Bool) → answer_within (narrowed o) from datagram room ≡ answer_within o from datagram room
narrowed_answer o from datagram room = answer_is o (narrowed o).state o.moment
    (λ wire. ap (λ b. if b then o.state (nearest o.top wire) else if_held (o.state (nearest o.top wire))) (nearest_in_window o.top wire)) from datagram room
