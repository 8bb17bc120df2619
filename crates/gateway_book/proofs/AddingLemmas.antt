-- What an answer may add.
use Rattle.std.proofs.Common.{◌≡◌, ℕ, ◌+◌, ◌≤◌, Bool, true, false, List, Option, Some, None, sym, ap, ◌∙◌, true≢false, arith, rules}
use Rattle.gateway_book.proofs.Names.{act_decided, act_given, Addr, AddsIf, answer_within, Caller, Decided, decided, Fits, fits_with_any, Ghosts, Given, HistoryAct, IfRecords, IfSome, Index, is_act_fit, is_packet_fit, IsSame, IsShort, IsWhole, longest_batch, may_record, MayAdd, MayCome, most_for_one, node_of, Observed, observed_by, PreparedValue, Replies, room_in, Says, Silent, Trail, waiting_octets, Why}
use Rattle.gateway_answer.specs.FitLaws.{records_fit}
use Rattle.gateway_answer.specs.RoomAsked.{room_asked}
use Rattle.gateway_answer.specs.SizeLaws.{IsBrief, records_brief}

-- what holds of what an answer records holds of the act that is decided
recorded_holds : (P : HistoryAct → Type 0) (given : Given) (a : HistoryAct) → IfRecords (λ number message b. P b) given → act_given given ≡ Some a → P a
recorded_holds P given a is e = search rules

module _ {A : Type 0} {tells : Ghosts A} (trail : Trail A tells) (index : Index) (moment : ℕ) (who : Caller) where
  may_add_if : (o : Option HistoryAct) → ((a : HistoryAct) → o ≡ Some a → MayCome a index × IsBrief a) → waiting_octets trail + most_for_one ≤ longest_batch
      → MayAdd o trail index moment who
  may_add_if o facts free = search rules

  -- what an answer records where there is room for any act may be added
  pub may_add : (from : Addr) (datagram : PreparedValue) (decision : Decided)
      → decision ≡ decided (answer_within (observed_by false index (node_of from)) from datagram (λ b. true)) → IsWhole datagram → IsShort datagram
      → waiting_octets trail + most_for_one ≤ longest_batch → MayAdd (act_decided decision) trail index moment who
  may_add from datagram decision is whole short free = may_add_if (act_decided decision) facts free
    where
      given : Given
      given = answer_within (observed_by false index (node_of from)) from datagram (λ b. true)

      facts : (a : HistoryAct) → act_decided decision ≡ Some a → MayCome a index × IsBrief a
      facts a e =
          let recorded : act_given given ≡ Some a = ap (λ (d : Decided). act_decided d) (sym is) ∙ e in (
            fits_with_any is_packet_fit (observed_by false index) a
                (recorded_fits given a (records_fit (observed_by false index) from datagram (λ b. true) whole) recorded),
            recorded_holds IsBrief given a (records_brief (observed_by false index (node_of from)) from datagram
                (may_record (observed_by false index (node_of from)) (λ b. true)) short) recorded,
          )
        where
          recorded_fits : (given : Given) (a : HistoryAct) → IfRecords (Fits (observed_by false index) (λ b. true)) given → act_given given ≡ Some a
              → is_act_fit (observed_by false index) a ≡ true
          recorded_fits (Replies number message (Some b)) a is e = let same : b ≡ a = cc e in rw (← same) is.0
          recorded_fits _ a is e = absurd (cc e)

-- tests of room that agree on what is recorded where there is room for any act lead to the same answer
pub answer_alike : (o : Observed) (from : Addr) (datagram : PreparedValue) (room other : HistoryAct → Bool)
    → ((a : HistoryAct) → act_given (answer_within o from datagram (λ b. true)) ≡ Some a → room a ≡ other a)
    → decided (answer_within o from datagram room) ≡ decided (answer_within o from datagram other)
answer_alike o from datagram room other alike = ap decided (room_asked o from datagram room other alike)

-- where there isn't, it is the one with room for none
pub answer_is_without : (o : Observed) (from : Addr) (datagram : PreparedValue) (room : HistoryAct → Bool) (a : HistoryAct)
    → act_given (answer_within o from datagram (λ b. true)) ≡ Some a → room a ≡ false
    → decided (answer_within o from datagram room) ≡ decided (answer_within o from datagram (λ b. false))
answer_is_without o from datagram room a recorded none = grind (arith, answer_alike)

if_some : (P : HistoryAct → Type 0) (o : Option HistoryAct) (a : HistoryAct) → IfSome o P → o ≡ Some a → P a
if_some P o a is e = rw e at is

-- where there is room for no act, none is recorded
none_without : (index : Index) (from : Addr) (datagram : PreparedValue) → IsWhole datagram → (a : HistoryAct)
    → act_given (answer_within (observed_by false index (node_of from)) from datagram (λ b. false)) ≡ Some a → ⊥
none_without index from datagram whole a e =
    by_given (answer_within (observed_by false index (node_of from)) from datagram (λ b. false)) (records_fit (observed_by false index) from datagram (λ b. false) whole) e
  where
    by_given : (given : Given) → IfRecords (Fits (observed_by false index) (λ b. false)) given → act_given given ≡ Some a → ⊥
    by_given (Replies number message (Some b)) fits e = true≢false (sym fits.1)
    by_given _ fits e = cc e

module _ {A : Type 0} {tells : Ghosts A} (old new : Trail A tells) (before after : Index) (moment : ℕ) (who : Caller) (from : Addr) (datagram : PreparedValue) where
  -- what is decided, by a test of room
  abbrev decided_by : (HistoryAct → Bool) → Decided
  decided_by room = decided (answer_within (observed_by false before (node_of from)) from datagram room)

  pub silent_with : (why : Why) → (decided_by (λ b. true) ≡ Silent why) × IsSame old new before after
      → (decided_by (room_in old moment who) ≡ Silent why) × IsSame old new before after
  silent_with why p = grind (arith, answer_alike)

  pub said_with : (reply : List ℕ) → (o : Option HistoryAct) × (decided_by (λ b. true) ≡ Says reply o) × IfSome o (λ a. room_in old moment who a ≡ true) × AddsIf old new before after moment who o
      → (o : Option HistoryAct) × (decided_by (room_in old moment who) ≡ Says reply o) × AddsIf old new before after moment who o
  said_with reply p = grind (arith, answer_alike, if_some)

  -- there isn't room for what is recorded
  abbrev HasNoRoom : Type 0
  HasNoRoom = (reply : List ℕ) × (a : HistoryAct) × (decided_by (λ b. true) ≡ Says reply (Some a)) × (room_in old moment who a ≡ false) × IsSame old new before after

  -- what is decided then
  abbrev decided_after : Decided
  decided_after = decided (answer_within (observed_by false after (node_of from)) from datagram (λ b. false))

  without : HasNoRoom → decided_by (room_in old moment who) ≡ decided_after
  without p =
      answer_is_without (observed_by false before (node_of from)) from datagram (room_in old moment who) p.1 (ap act_decided p.2) p.3
      ∙ ap (λ (index : Index). decided (answer_within (observed_by false index (node_of from)) from datagram (λ b. false))) (sym p.4.index)

  pub silent_without : (why : Why) → HasNoRoom → decided_after ≡ Silent why → (decided_by (room_in old moment who) ≡ Silent why) × IsSame old new before after
  silent_without why p e = (without p ∙ e, p.4)

  pub said_without : IsWhole datagram → (reply : List ℕ) → HasNoRoom → (o : Option HistoryAct) × (decided_after ≡ Says reply o)
      → (o : Option HistoryAct) × (decided_by (room_in old moment who) ≡ Says reply o) × AddsIf old new before after moment who o
  said_without whole reply p q = by_act q.0 q.1
    where
      by_act : (o : Option HistoryAct) → decided_after ≡ Says reply o
          → (o : Option HistoryAct) × (decided_by (room_in old moment who) ≡ Says reply o) × AddsIf old new before after moment who o
      by_act None e = (None, without p ∙ e, p.4)
      by_act (Some a) e = absurd (none_without after from datagram whole a (ap act_decided e))
