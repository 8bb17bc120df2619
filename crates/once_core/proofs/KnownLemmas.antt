-- What a node knows is so in the firm parts of the gateways' histories.
use Rattle.std.proofs.Common.{◌≡◌, ◌⊎◌, ⊎_elim, ℕ, ◌==◌, ◌&&◌, ◌||◌, Bool, true, false, List, [], ◌∷◌, Option, Some, None, IfSome, Contains, refl, sym, ap, subst, ◌∙◌, eqb-true, arith, flat_map, ◌++◌}
use Rattle.once_core.proofs.Names.{ACCEPTED, All-contains, AllPass-from_list_all, AllRestOn, ALREADY_FULFILLED, and_parts, Answers, AnyHasCopyAt, Asks, Command, Deed, entries_by, entries_of, false≢true, First, Follows, heard_in, HistoryEntry, is_answered, is_chosen, is_done, is_filed, is_filing, is_fulfilled, is_release, is_released, is_settled, is_telling, is_unknown, IsChoice, IsCommandSent, IsFulfilled, IsKnown, IsPlainFirst, IsState, Letter, list_all, list_any, LogEntry, MaySend, Meaning, nat_tests, option_map_or, or_cases, Order, Orders, PacketCopy, PacketState, Port, ReleasesChoice, Request, Responds, RestsOn, says_sealed, Scene, SceneHolds, Second, Sends, Sent, Tells, Tests, told, Verdict}
use Rattle.gw_base.specs.declared.key_state.KeyState.TheVariants as state
use Rattle.node_core.specs.Copies.{names}
use Rattle.node_core.specs.Log as log
use Rattle.node_core.specs.declared.copy.Order.TheVariants as order
use Rattle.node_core.specs.declared.copy.Verdict.TheVariants as verdict
use Rattle.once_core.specs.Happenings.{Heard, about}
use Rattle.once_core.proofs.RoleLemmas.{IsCopyOf, command_use, not_both, own_use, same_user}
use Rattle.once_core.proofs.ListLemmas.{any_at, in_head, in_none, in_tail, in_one, in_cons, of_flat_map}
use Rattle.once_core.proofs.CaseLemmas.{if_known}

-- ---- what was heard is a message

-- a message of this node and start that answers with this cause
pub record WasHeard (deeds : List Deed) (start : ℕ) (port : Port) (gateway cause number : ℕ) : Type 0 where
  pub node : ℕ
  pub kept : Contains deeds (Heard (record { node = node; start = start; gateway = gateway; port = port; number = number; says = Answers cause }))

heard_flat : (start : ℕ) (deeds : List Deed) → heard_in start deeds ≡ flat_map (entries_of start) deeds
heard_flat start [] = refl
heard_flat start (deed ∷ deeds) = ap (λ (es : List LogEntry). entries_of start deed ++ es) (heard_flat start deeds)

was_heard : (deeds : List Deed) (start : ℕ) (port : Port) (gateway cause number : ℕ) (numbers : List ℕ)
    → names numbers number ≡ true
    → Contains (heard_in start deeds) (log.Heard port gateway (Responds cause numbers))
    → WasHeard deeds start port gateway cause number
was_heard deeds start port gateway cause number numbers named is = by there.0 there.1 there.2
  where
    response : LogEntry
    response = log.Heard port gateway (Responds cause numbers)

    there : (deed : Deed) × Contains deeds deed × Contains (entries_of start deed) response
    there = of_flat_map (entries_of start) deeds response
        (subst (λ (es : List LogEntry). Contains es response) (heard_flat start deeds) is)

    by_letter : (letter : Letter) → Contains deeds (Heard letter) → letter.start ≡ start → (says : Meaning)
        → letter.says ≡ says
        → Contains (entries_by letter says) response → WasHeard deeds start port gateway cause number
    by_letter letter kept of_start (Answers said) says is =
        let same = in_one (log.Heard letter.port letter.gateway (Responds said (letter.number ∷ []))) response is in
        let port_is : letter.port ≡ port = cc same in
        let gateway_is : letter.gateway ≡ gateway = cc same in
        let cause_is : said ≡ cause = cc same in
        let numbers_are : letter.number ∷ [] ≡ numbers = cc same in
        let one : names (letter.number ∷ []) number ≡ true = ap (λ (ns : List ℕ). names ns number) numbers_are ∙ named in
        let number_is : letter.number ≡ number = only letter.number one in
        let says_is : letter.says ≡ Answers cause = says ∙ ap Answers cause_is in
        record {
          node = letter.node;
          kept = subst (λ (l : Letter). Contains deeds (Heard l)) (λ i. record {
            node = letter.node;
            start = of_start i;
            gateway = gateway_is i;
            port = port_is i;
            number = number_is i;
            says = says_is i;
          }) kept;
        }
      where
        only : (n : ℕ) → names (n ∷ []) number ≡ true → n ≡ number
        only n one = grind (arith, nat_tests)
    by_letter letter kept of_start _ says is = in_none response is

    by : (deed : Deed) → Contains deeds deed → Contains (entries_of start deed) response
        → WasHeard deeds start port gateway cause number
    by (Sent letter) kept is = in_none response is
    by (Heard letter) kept is =
        if_known (λ (es : List LogEntry). Contains es response → WasHeard deeds start port gateway cause number)
        (letter.start == start)
        (λ e. by_letter letter kept (eqb-true letter.start start e) letter.says refl) (λ e. in_none response) is

-- ---- verdicts by port and cause

sealed_by : (port : Port) (cause : ℕ) → told port true cause ≡ verdict.Sealed → (port ≡ Second) × (cause ≡ ACCEPTED)
sealed_by port cause e = grind (arith, nat_tests)

filed_by : (port : Port) (cause : ℕ) → told port true cause ≡ verdict.Filed
    → ((port ≡ First) × (is_filing cause ≡ true)) ⊎ ((port ≡ Second) × (cause ≡ ALREADY_FULFILLED))
filed_by port cause e = grind (arith, nat_tests)

pub filing_tells : (cause : ℕ) → is_filing cause ≡ true → is_telling cause ≡ true
filing_tells cause e = grind arith

pub fulfilled_tells : (cause : ℕ) → is_fulfilled cause ≡ true → is_telling cause ≡ true
fulfilled_tells cause e = grind arith

-- a verdict is told by a cause that tells
told_telling : (port : Port) (is_plain : Bool) (cause : ℕ) → is_unknown (told port is_plain cause) ≡ false
    → is_telling cause ≡ true
told_telling port is_plain cause e = grind arith

not_first : Second ≡ First → ⊥
not_first e = absurd (cc)

release_is : (o : Order) → is_release o ≡ true → o ≡ order.Release
release_is o e = grind arith

sealed_is_known : (v : Verdict) → says_sealed v ≡ true → is_unknown v ≡ false
sealed_is_known v e = grind arith

filed_is_known : (v : Verdict) → is_filed v ≡ true → is_unknown v ≡ false
filed_is_known v e = grind arith

module _ {scene : Scene} (holds : SceneHolds scene) (node : ℕ) {start : ℕ} {values : ℕ → List ℕ} {packets : List PacketState} (follows : Follows (scene.deeds node) start values packets) where
  abbrev pub firm : ℕ → List HistoryEntry
  firm gateway = (scene.posts gateway).firm

  abbrev pub letter_of : ℕ → Port → ℕ → Meaning → Letter
  letter_of gateway port number says = record { node = node; start = start; gateway = gateway; port = port; number = number; says = says }

  -- a request of this node and start among the messages is one that it may send
  pub may_send : (gateway : ℕ) (port : Port) (number : ℕ) (request : Request) → Contains scene.letters (letter_of gateway port number (Asks request))
      → MaySend packets values (letter_of gateway port number (Asks request)) (Asks request)
  may_send gateway port number request kept =
      follows.sends (letter_of gateway port number (Asks request)) (holds.sent (letter_of gateway port number (Asks request)) kept) refl

  -- the request that was answered so, and what the answer means
  pub record IsAnswered (gateway : ℕ) (port : Port) (number cause : ℕ) : Type 0 where
    pub request : Request
    pub may : MaySend packets values (letter_of gateway port number (Asks request)) (Asks request)
    pub tells : Tells (firm gateway) (letter_of gateway port number (Answers cause)) request cause
    pub known : IsKnown (firm gateway) node start (about request number)

  -- an answer among the messages
  pub told_by : (gateway : ℕ) (port : Port) (number cause : ℕ) → Contains scene.letters (letter_of gateway port number (Answers cause)) → is_telling cause ≡ true
      → IsAnswered gateway port number cause
  told_by gateway port number cause kept telling =
      let is = holds.told (letter_of gateway port number (Answers cause)) kept telling in
      record { request = is.request; may = may_send gateway port number is.request is.asked; tells = is.tells; known = is.known }

  pub answered : (gateway : ℕ) (port : Port) (number cause : ℕ) (numbers : List ℕ) → Contains (heard_in start (scene.deeds node)) (log.Heard port gateway (Responds cause numbers))
      → names numbers number ≡ true → is_telling cause ≡ true → IsAnswered gateway port number cause
  answered gateway port number cause numbers heard named telling =
      let was = was_heard (scene.deeds node) start port gateway cause number numbers named heard in
      let there = holds.heard node (record { node = was.node; start = start; gateway = gateway; port = port; number = number; says = Answers cause }) was.kept in
      told_by gateway port number cause
      (subst (λ (n : ℕ). Contains scene.letters (record { node = n; start = start; gateway = gateway; port = port; number = number; says = Answers cause })) there.0 there.1)
      telling

  pub rests_of : (packet : PacketState) (copy : PacketCopy) → IsCopyOf packets packet copy → RestsOn (heard_in start (scene.deeds node)) copy
  rests_of packet copy is =
      All-contains (RestsOn (heard_in start (scene.deeds node))) packet.copies copy
      (All-contains (AllRestOn (heard_in start (scene.deeds node))) packets packet follows.rests is.kept) is.among

  -- the number of a copy isn't that of a release or a cancel
  pub no_command : (packet : PacketState) (copy : PacketCopy) (named : ℕ) (command : Command) → IsCopyOf packets packet copy → IsCommandSent packets copy.gateway named command → command.number ≡ copy.number → ⊥
  no_command packet copy named command is sent same =
      not_both copy.gateway copy.number packets (follows.roles copy.gateway copy.number) packet sent.at.packet copy sent.at.copy command is
      (record { kept = sent.at.kept; among = sent.at.among }) refl refl sent.at.gateway_is sent.sent same

  -- the copy at a gateway with a number is the one
  pub the_copy : (packet : PacketState) (copy : PacketCopy) → IsCopyOf packets packet copy → (at : AnyHasCopyAt packets copy.gateway copy.number) → (packet ≡ at.packet) × (copy ≡ at.copy)
  the_copy packet copy is at =
      same_user copy.gateway copy.number packets (follows.roles copy.gateway copy.number) packet at.packet copy at.copy is (record { kept = at.kept; among = at.among })
      (own_use copy.gateway copy.number copy refl refl) (own_use copy.gateway copy.number at.copy at.gateway_is at.number_is)

  -- ---- a plain copy that is known to be sealed, or filed, is so

  pub by_test_answer : (packet : PacketState) (plain : PacketCopy) (cause : ℕ) (port : Port) → port ≡ Second → IsCopyOf packets packet plain → IsAnswered plain.gateway port plain.number cause
      → (cause ≡ ALREADY_FULFILLED → IsState (firm plain.gateway) node start plain.number state.Filed) × (cause ≡ ACCEPTED → IsState (firm plain.gateway) node start plain.number state.Sealed)
  by_test_answer packet plain cause port second is answer = by answer.request answer.may answer.tells
    where
      by : (request : Request) → MaySend packets values (letter_of plain.gateway port plain.number (Asks request)) (Asks request)
          → Tells (firm plain.gateway) (letter_of plain.gateway port plain.number (Answers cause)) request cause
          → (cause ≡ ALREADY_FULFILLED → IsState (firm plain.gateway) node start plain.number state.Filed) × (cause ≡ ACCEPTED → IsState (firm plain.gateway) node start plain.number state.Sealed)
      by (Sends true octets) may tells = absurd (not_first (sym second ∙ may.0))
      by (Sends false octets) may tells = absurd (not_first (sym second ∙ may.0))
      by Tests may tells = tells
      by (Orders which named) may tells = absurd (no_command packet plain named (record { order = which; number = plain.number; is_answered = may.1 }) is may.2 refl)

  pub sealed_by_answer : (packet : PacketState) (plain : PacketCopy) (port : Port) (cause : ℕ) → IsCopyOf packets packet plain → told port true cause ≡ verdict.Sealed
      → (is_telling cause ≡ true → IsAnswered plain.gateway port plain.number cause) → IsState (firm plain.gateway) node start plain.number state.Sealed
  sealed_by_answer packet plain port cause is tells answer =
      let by = sealed_by port cause tells in
      (by_test_answer packet plain cause port by.0 is (answer (ap is_telling by.1))).1 by.1

  pub is_sealed : (packet : PacketState) (plain : PacketCopy) → IsCopyOf packets packet plain → plain.is_plain ≡ true → plain.verdict ≡ verdict.Sealed
      → IsState (firm plain.gateway) node start plain.number state.Sealed
  is_sealed packet plain is first sealed =
      let of = (rests_of packet plain is).verdict (ap is_unknown sealed) in
      sealed_by_answer packet plain of.port of.cause is (ap (λ (b : Bool). told of.port b of.cause) (sym first) ∙ of.tells ∙ sealed)
      (answered plain.gateway of.port plain.number of.cause of.numbers of.heard of.named)

  by_first_answer : (packet : PacketState) (plain : PacketCopy) (cause : ℕ) (port : Port) → port ≡ First → is_filing cause ≡ true → IsCopyOf packets packet plain → plain.is_plain ≡ true
      → IsAnswered plain.gateway port plain.number cause → IsState (firm plain.gateway) node start plain.number state.Filed
  by_first_answer packet plain cause port first filing is plainly answer = by answer.request answer.may answer.tells
    where
      by : (request : Request) → MaySend packets values (letter_of plain.gateway port plain.number (Asks request)) (Asks request)
          → Tells (firm plain.gateway) (letter_of plain.gateway port plain.number (Answers cause)) request cause → IsState (firm plain.gateway) node start plain.number state.Filed
      by (Sends true octets) may tells = tells filing
      by (Sends false octets) may tells =
          let same = (the_copy packet plain is may.1.at).1 in
          absurd (false≢true (sym may.1.plain ∙ ap (λ (c : PacketCopy). c.is_plain) (sym same) ∙ plainly))
      by Tests may tells = absurd (not_first (sym may.0 ∙ first))
      by (Orders which named) may tells = absurd (not_first (sym may.0 ∙ first))

  pub filed_by_answer : (packet : PacketState) (plain : PacketCopy) (port : Port) (cause : ℕ) → IsCopyOf packets packet plain → plain.is_plain ≡ true → told port true cause ≡ verdict.Filed
      → (is_telling cause ≡ true → IsAnswered plain.gateway port plain.number cause) → IsState (firm plain.gateway) node start plain.number state.Filed
  filed_by_answer packet plain port cause is first tells answer = ⊎_elim
      (λ at. by_first_answer packet plain cause port at.0 at.1 is first (answer (filing_tells cause at.1)))
      (λ at. (by_test_answer packet plain cause port at.0 is (answer (ap is_telling at.1))).0 at.1)
      (filed_by port cause tells)

  pub is_filed_there : (packet : PacketState) (plain : PacketCopy) → IsCopyOf packets packet plain → plain.is_plain ≡ true → plain.verdict ≡ verdict.Filed
      → IsState (firm plain.gateway) node start plain.number state.Filed
  is_filed_there packet plain is first filed =
      let of = (rests_of packet plain is).verdict (ap is_unknown filed) in
      filed_by_answer packet plain of.port of.cause is first (ap (λ (b : Bool). told of.port b of.cause) (sym first) ∙ of.tells ∙ filed)
      (answered plain.gateway of.port plain.number of.cause of.numbers of.heard of.named)

  -- ---- a copy whose release is answered is released

  -- the request under a command's number is that command
  pub command_request : (packet : PacketState) (copy : PacketCopy) (command : Command) (port : Port) → IsCopyOf packets packet copy → copy.command ≡ Some command
      → (request : Request) → MaySend packets values (letter_of copy.gateway port command.number (Asks request)) (Asks request) → request ≡ Orders command.order copy.number
  command_request packet copy command port is e request may = by request may
    where
      mixed : AnyHasCopyAt packets copy.gateway command.number → ⊥
      mixed at =
          not_both copy.gateway command.number packets (follows.roles copy.gateway command.number) at.packet packet at.copy copy command
          (record { kept = at.kept; among = at.among }) is at.gateway_is at.number_is refl e refl

      by : (request : Request) → MaySend packets values (letter_of copy.gateway port command.number (Asks request)) (Asks request) → request ≡ Orders command.order copy.number
      by Tests may = absurd (mixed may.1)
      by (Orders which named) may =
          let sent = may.2 in
          let other : Command = record { order = which; number = command.number; is_answered = may.1 } in
          let same : copy ≡ sent.at.copy =
          (same_user copy.gateway command.number packets (follows.roles copy.gateway command.number) packet sent.at.packet copy sent.at.copy is
          (record { kept = sent.at.kept; among = sent.at.among }) (command_use copy.gateway command.number copy command refl e refl)
          (command_use copy.gateway command.number sent.at.copy other sent.at.gateway_is sent.sent refl)).1 in
          let both : Some command ≡ Some other = sym e ∙ ap (λ (c : PacketCopy). c.command) same ∙ sent.sent in
          let one : command ≡ other = cc in
          let number_is : named ≡ copy.number = sym sent.at.number_is ∙ ap (λ (c : PacketCopy). c.number) (sym same) in
          ap (λ (c : Command). Orders c.order named) (sym one) ∙ ap (Orders command.order) number_is
      by _ may = absurd (mixed may.1.at)

  pub by_release_answer : (packet : PacketState) (copy : PacketCopy) (command : Command) (cause : ℕ) (port : Port) → is_fulfilled cause ≡ true → IsCopyOf packets packet copy
      → copy.command ≡ Some command → command.order ≡ order.Release → IsAnswered copy.gateway port command.number cause → IsState (firm copy.gateway) node start copy.number state.Released
  by_release_answer packet copy command cause port fulfilled is e release answer =
      let request : answer.request ≡ Orders order.Release copy.number =
      command_request packet copy command port is e answer.request answer.may ∙ ap (λ (o : Order). Orders o copy.number) release in
      let tells : Tells (firm copy.gateway) (letter_of copy.gateway port command.number (Answers cause)) (Orders order.Release copy.number) cause =
      subst (λ (r : Request). Tells (firm copy.gateway) (letter_of copy.gateway port command.number (Answers cause)) r cause) request answer.tells in
      tells fulfilled

  pub is_released_there : (packet : PacketState) (copy : PacketCopy) → IsCopyOf packets packet copy → is_released copy ≡ true → IsState (firm copy.gateway) node start copy.number state.Released
  is_released_there packet copy is released = by copy.command refl released (rests_of packet copy is).command
    where
      by : (there : Option Command) → copy.command ≡ there
          → (option_map_or (λ (command : Command). is_release command.order) there false && option_map_or (λ (command : Command). command.is_answered) there false) ≡ true
          → IfSome there (λ (command : Command). command.is_answered ≡ true → IsFulfilled (heard_in start (scene.deeds node)) copy.gateway command.number)
          → IsState (firm copy.gateway) node start copy.number state.Released
      by None e released rests = absurd (false≢true released)
      by (Some command) e released rests =
          let parts = and_parts (is_release command.order) command.is_answered released in
          let of = rests parts.1 in
          by_release_answer packet copy command of.cause of.port of.tells is e (release_is command.order parts.0)
          (answered copy.gateway of.port command.number of.cause of.numbers of.heard of.named (fulfilled_tells of.cause of.tells))

  -- ---- a copy that is chosen

  pub choice_of : (packet : PacketState) (copy : PacketCopy) → IsCopyOf packets packet copy → is_chosen copy ≡ true → IsChoice packet.copies copy.gateway copy.number
  choice_of packet copy is chosen =
      All-contains (λ (c : PacketCopy). is_chosen c ≡ true → IsChoice packet.copies c.gateway c.number) packet.copies copy
      (All-contains ReleasesChoice packets packet follows.choice is.kept) is.among chosen

  pub plain_first : (packet : PacketState) → Contains packets packet → IsPlainFirst packet.copies
  plain_first packet kept = All-contains (λ (p : PacketState). IsPlainFirst p.copies) packets packet follows.plain kept

  -- ---- the numbers of all copies of a packet that is done are known to their gateways

  abbrev Known : PacketCopy → Type 0
  Known copy = IsKnown (firm copy.gateway) node start copy.number

  by_verdict : (packet : PacketState) (copy : PacketCopy) → IsCopyOf packets packet copy → is_unknown copy.verdict ≡ false → Known copy
  by_verdict packet copy is known =
      let of = (rests_of packet copy is).verdict known in
      let answer = answered copy.gateway of.port copy.number of.cause of.numbers of.heard of.named
      (told_telling of.port copy.is_plain of.cause (ap is_unknown of.tells ∙ known)) in
      by of.port answer.request answer.may answer.known
    where
      by : (port : Port) (request : Request) → MaySend packets values (letter_of copy.gateway port copy.number (Asks request)) (Asks request)
          → IsKnown (firm copy.gateway) node start (about request copy.number) → Known copy
      by port (Sends is_plain octets) may is_known = is_known
      by port Tests may is_known = is_known
      by port (Orders which named) may is_known =
          absurd (no_command packet copy named (record { order = which; number = copy.number; is_answered = may.1 }) is may.2 refl)

  by_command : (packet : PacketState) (copy : PacketCopy) (command : Command) → IsCopyOf packets packet copy → copy.command ≡ Some command
      → IsFulfilled (heard_in start (scene.deeds node)) copy.gateway command.number → Known copy
  by_command packet copy command is e of =
      let answer = answered copy.gateway of.port command.number of.cause of.numbers of.heard of.named (fulfilled_tells of.cause of.tells) in
      subst (λ (r : Request). IsKnown (firm copy.gateway) node start (about r command.number))
      (command_request packet copy command of.port is e answer.request answer.may) answer.known

  -- a copy whose command is answered
  answered_known : (packet : PacketState) (copy : PacketCopy) → IsCopyOf packets packet copy → is_answered copy ≡ true → Known copy
  answered_known packet copy is answered = by copy.command refl answered (rests_of packet copy is).command
    where
      by : (there : Option Command) → copy.command ≡ there → option_map_or (λ (command : Command). command.is_answered) there false ≡ true
          → IfSome there (λ (command : Command). command.is_answered ≡ true → IsFulfilled (heard_in start (scene.deeds node)) copy.gateway command.number) → Known copy
      by None e answered rests = absurd (false≢true answered)
      by (Some command) e answered rests = by_command packet copy command is e (rests answered)

  settled_known : (packet : PacketState) (copy : PacketCopy) → IsCopyOf packets packet copy → is_settled copy ≡ true → Known copy
  settled_known packet copy is settled = ⊎_elim
      (λ sealed. by_verdict packet copy is (sealed_is_known copy.verdict sealed)) (answered_known packet copy is)
      (or_cases (says_sealed copy.verdict) (is_answered copy) settled)

  -- ---- a packet that is done

  pub done_known : (packet : PacketState) → Contains packets packet → is_done packet.copies ≡ true → (copy : PacketCopy) → Contains packet.copies copy → Known copy
  done_known packet kept done copy among = by packet.copies refl done among
    where
      by : (copies : List PacketCopy) → packet.copies ≡ copies → is_done copies ≡ true → Contains copies copy → Known copy
      by [] e done among = absurd (false≢true done)
      by (plain ∷ duplicates) e done among =
          let parts = and_parts (is_filed plain.verdict || list_any is_released duplicates) (list_all is_settled duplicates) done in
          let whole : (c : PacketCopy) → Contains (plain ∷ duplicates) c → IsCopyOf packets packet c = λ c there. record { kept = kept; among = subst (λ (cs : List PacketCopy). Contains cs c) (sym e) there } in
          ⊎_elim
          (λ same. subst (λ (c : PacketCopy). IsKnown (firm c.gateway) node start c.number) same
          (by_verdict packet plain (whole plain (in_head plain duplicates))
          (⊎_elim (filed_is_known plain.verdict)
          (λ any.
          let one = any_at is_released duplicates any in
          let chosen = (and_parts (is_chosen one.0) (is_answered one.0) one.2).0 in
          let choice = choice_of packet one.0 (whole one.0 (in_tail plain one.0 duplicates one.1)) chosen in
          let first : choice.plain ≡ plain = cc (choice.whole, e) in
          ap (λ (c : PacketCopy). is_unknown c.verdict) (sym first) ∙ ap is_unknown choice.sealed)
          (or_cases (is_filed plain.verdict) (list_any is_released duplicates) parts.0))))
          (λ later. settled_known packet copy (whole copy (in_tail plain copy duplicates later)) (All-contains (λ (c : PacketCopy). is_settled c ≡ true) duplicates copy (AllPass-from_list_all is_settled duplicates parts.1) later))
          (in_cons plain copy duplicates among)
