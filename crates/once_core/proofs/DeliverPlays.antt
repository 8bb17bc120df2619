-- What a gateway sends is what happens in a scene: its answer to a message that reaches it, what it tells of one where it breaks
-- on the way, and the requests of a redirection, which tell nodes nothing of a copy.
pub use Rattle.once_core.proofs.PartLemmas.{ready_history}
use Rattle.std.proofs.Common.{◌≡◌, ℕ, ◌%◌, ◌==◌, not, nat_lt, Bool, true, false, List, [], ◌∷◌, ◌++◌, Option, Some, None, Contains, refl, sym, ap, subst, ◌∙◌, ◌≤◌, arith, map, ◌+◌, option_map, IfSome}
use Rattle.once_core.proofs.Names.{about, acting, after_coming, AliveAsked, AliveTold, answer_by, answer_of, answered, answering, Answers, big_bytes, CDR_DECODING_ERROR, Comes, coming, cond-true, Decided, decided, EchoAsked, EchoRequest, EchoResponse, EchoTold, entry_by, failed, failed_by, failure_answer, for_role, framed, Gateway, gateway_address, Given, given, happened_all, Happening, has_type, history, history_of, HistoryAct, HistoryEntry, is_expired, is_idle, is_spoken, is_timely, Letter, letter_of, Meaning, meaning_in, meaning_of, MessageValue, nat_tests, no_caller, NO_RESOURCES, node_address, node_id, node_ip, NodeAliveRequest, NodeId, noting_if, Observed, observed, opened_by, Opening, opening, opening_epoch, opening_of, Opens, option_map_or, PathEvent, paths_of, port_number, Post, post_of, prepared_of, PreparedValue, recorded_if, RedirectionRequest, request_in, responding, RolesRead, Rules, Scene, Send, sends_values, Settled, speaks, start_by, start_of, still, SYSTEM_FAILURE, tabled, TRANSFER_REQUEST, TransferRequest, TransferResponse, TransferValue, waiting_for, waiting_letters, with_one, with_post, with_settled, written}
use Rattle.gtpp_message.specs.declared.role.Role.TheVariants as role
use Rattle.gateway_answer.specs.Answer.{asked_by, replying}
use Rattle.gateway_answer.specs.Preparing.{Refused, Request, Path}
use Rattle.gtpp_message.specs.Reading.{Message}
use Rattle.gw_base.specs.declared.history.HistoryAct.TheVariants as act
use Rattle.gtpp_message.specs.PathMessages.{path_message, path_number}
use Rattle.once_core.specs.Happenings.{node_at}
use Rattle.once_core.specs.Happenings as did
use Rattle.once_core.specs.Scenes as scenes
use Rattle.once_core.specs.declared.message.Message as world
use Rattle.once_core.proofs.MeaningLemmas.{IsAbout, IsWritten, ReadsBack, meaning_is, responds_means, responds_said, role_read_of, type_of, FromNode, NodeSaid, Responds, Said, said_by_gateway, FromGateway}
use Rattle.once_core.proofs.PlayLemmas.{Plays, Stands, still_plays, idle_plays, followed_plays, stands_after}
use Rattle.once_core.proofs.ReplyPlays.{answer_plays, quiet_plays}
use Rattle.once_core.proofs.PartLemmas.{history_is, noted}
use Rattle.once_core.proofs.CaseLemmas.{if_both}
use Rattle.once_core.proofs.ListLemmas.{in_one, number_of, each_mapped}
use Rattle.once_core.proofs.CommitPlays.{noted_rightly, noted_plays}
use Rattle.once_core.specs.Answers as out
use Rattle.once_core.proofs.StartLemmas.{IsNoPath}

-- ---- a message of path management means nothing here

path_written : (number : ℕ) (event : PathEvent) → IsWritten (written number (path_message event None)) number (path_message event None)
path_written number (EchoAsked n) = record { is = refl; sendable = tt; short = omega arith }
path_written number _ = record { is = refl; sendable = tt; short = omega arith }

path_fits : (m : world.Message) (number : ℕ) (event : PathEvent) → FromGateway m number (path_message event None)
path_fits m number (EchoAsked n) = tt
path_fits m number _ = tt

path_else : (number : ℕ) (event : PathEvent) → is_spoken (meaning_in number (path_message event None)) ≡ false
path_else number event = grind arith

-- ---- a start that becomes known is greater than the one before

pub fresh_start : (h : List HistoryEntry) (m : world.Message) → is_expired h m ≡ false → start_of (node_ip m.node) h ≤ m.start
fresh_start h m fresh = grind (arith, nat_tests)

pub rises : (opening : Option Opening) (counter path : ℕ) → 1 ≤ counter → start_by opening ≤ counter
    → opened_by (option_map (λ o. o.counter) opening) counter ≡ Some path → nat_lt (start_by opening) path ≡ true
rises opening counter path some low e = grind (arith, nat_tests)

-- ---- what is answered

-- any other message than a request or a response
abbrev pub Other : MessageValue → Type 0
Other (TransferRequest body) = ⊥
Other (TransferResponse cause responded) = ⊥
Other _ = Unit {0}

-- ---- the answer on octets is the answer on what they mean

prepared_request : ReadsBack → RolesRead → (octets : List ℕ) (number : ℕ) (body : TransferValue) → IsWritten octets number (TransferRequest body)
    → sends_values body ≡ true → prepared_of octets ≡ Request number body
prepared_request back roles octets number body w values =
    ap framed (role_read_of back roles role.Gateway octets number (TransferRequest body) w)
    ∙ cond-true (sends_values body) (Request number body) (Refused CDR_DECODING_ERROR number) values

same_answer : (m : world.Message) (o : Observed) (may : HistoryAct → Bool) (node : NodeId) (number : ℕ) (body : TransferValue) → IsAbout m body
    → asked_by o may node number body ≡ answer_of o may node number (request_in (about m) body)
same_answer m o may node number body is = grind arith

about_is : (m : world.Message) (body : TransferValue) → IsAbout m body → did.about (request_in (about m) body) m.number ≡ about m
about_is m body is = grind arith

-- an answer to a request is a response to it, and records no start
pub record IsResponse (number : ℕ) (answer : Given) : Type 0 where
  pub cause : ℕ
  pub recorded : Option HistoryAct
  pub is : answer ≡ responding number cause recorded
  pub no_path : IfSome recorded IsNoPath

tabled_responds : (may : HistoryAct → Bool) (number cause : ℕ) (a : Option HistoryAct) → IfSome a IsNoPath
    → IsResponse number (tabled may number cause a)
tabled_responds may number cause None no_path = record { cause = cause; recorded = None; is = refl; no_path = tt }
tabled_responds may number cause (Some a) no_path = if_both (IsResponse number) (may a)
    (record { cause = cause; recorded = Some a; is = refl; no_path = no_path })
    (record { cause = NO_RESOURCES; recorded = None; is = refl; no_path = tt })

pub asked_responds : (o : Observed) (may : HistoryAct → Bool) (node : NodeId) (number : ℕ) (body : TransferValue)
    → IsResponse number (asked_by o may node number body)
asked_responds o may node number (Send packet) = tabled_responds may number _ _ (grind arith)
asked_responds o may node number _ = tabled_responds may number _ _ (grind arith)

-- ---- a request that isn't expired is timely

pub is_a_request : (octets : List ℕ) (number : ℕ) (body : TransferValue) → octets ≡ written number (TransferRequest body) → has_type TRANSFER_REQUEST octets ≡ true
is_a_request octets number body e = ap (λ (o : Option ℕ). option_map_or (λ k. k == TRANSFER_REQUEST) o false) (type_of octets number (TransferRequest body) e)

timely : (m : world.Message) (h : List HistoryEntry) (number : ℕ) (body : TransferValue) → m.octets ≡ written number (TransferRequest body) → IsAbout m body
    → is_expired h m ≡ false → is_timely h (letter_of m) (request_in (about m) body) ≡ true
timely m h number body e is fresh = grind (arith, nat_tests, is_a_request m.octets number body e, about_is m body is)

-- ---- it comes to a gateway whose book is sound

module _ (back : ReadsBack) (roles : RolesRead) (rules : Rules) (now : ℕ) (m : world.Message) (to : m.to_gateway ≡ true) {g : Gateway} {scene : Scene}
    (stands : Stands m.gateway scene g) (sound : g.book.is_broken ≡ false) where
  abbrev seen : Observed
  seen = observed (history_of g.book) (node_id m.node)

  abbrev may : HistoryAct → Bool
  may = rules.may (history_of g.book) (node_id m.node)

  abbrev acts : Given → Type 0
  acts given = Plays m.gateway scene (acting now g m (decided given))

  abbrev path : ℕ → HistoryAct
  path counter = act.Path (node_id m.node) (port_number m.port) counter

  abbrev reply : PathEvent → world.Message
  reply event = answering m (written (path_number event) (path_message event None))

  reply_plays : {a : Gateway} {s : Scene} → Stands m.gateway s a → a.book.is_broken ≡ false → (event : PathEvent) → Plays m.gateway s (out.replying a (reply event))
  reply_plays {a} {s} is whole event =
      quiet_plays is.rightly (reply event) whole (ap not to) (record {
        path = path_number event;
        message = path_message event None;
        written = path_written (path_number event) event;
        fits = path_fits (reply event) (path_number event) event;
      }) m.gateway s is.post
      (ap is_spoken (meaning_is back (reply event) (path_number event) (path_message event None) (path_written (path_number event) event))
      ∙ path_else (about (reply event)) event)

  -- nothing is recorded
  plain_plays : (event : PathEvent) → acts (replying (Some event) None)
  plain_plays event = reply_plays stands sound event

  module _ (fresh : is_expired (history_of g.book) m ≡ false) (started : 1 ≤ m.start) where
    -- the node's start becomes known
    path_plays : (event : PathEvent) (counter : ℕ) → nat_lt (start_of (node_ip m.node) (history_of g.book)) counter ≡ true
        → acts (replying (Some event) (Some (path counter)))
    path_plays event counter later =
        let note : Plays m.gateway scene (still (noted now (path counter) g)) =
        noted_plays stands sound now (path counter) (Opens m.gateway (node_at (node_ip m.node)) (port_number m.port) counter now no_caller)
        (ap (λ (b : Bool). with_post m.gateway (opening now no_caller (path counter) b (scene.posts m.gateway)) scene)
        (ap (λ (p : Post). nat_lt (start_of (node_ip m.node) (history p)) counter) stands.post
        ∙ ap (λ (h : List HistoryEntry). nat_lt (start_of (node_ip m.node) h) counter) (sym (history_is g.book sound)) ∙ later)) in
        followed_plays (λ a. out.replying a (reply event)) note (reply_plays (stands_after note) sound event)

    opening_plays : (event : PathEvent) (o : Option ℕ) → ((counter : ℕ) → o ≡ Some counter → nat_lt (start_of (node_ip m.node) (history_of g.book)) counter ≡ true)
        → acts (opening_epoch may (node_address m.node m.port) (Some event) o)
    opening_plays event None rise = plain_plays event
    opening_plays event (Some counter) rise = if_both acts (may (path counter)) (path_plays event counter (rise counter refl)) (still_plays stands)

    event_plays : (event : PathEvent) → ((number counter : ℕ) → event ≡ EchoTold number counter → counter ≡ m.start)
        → acts (answer_by seen (node_address m.node m.port) (Path event) may)
    event_plays (EchoAsked number) is = plain_plays (EchoTold number seen.own)
    event_plays (AliveAsked number) is = plain_plays (EchoAsked number)
    event_plays (AliveTold number) is = still_plays stands
    event_plays (EchoTold number counter) is =
        let opening_is = opening_of (node_ip m.node) (history_of g.book) in
        let same = is number counter refl in
        opening_plays (AliveTold number) (opened_by (option_map (λ o. o.counter) opening_is) counter)
        (λ path e. rises opening_is counter path (omega (arith, started, same)) (omega (arith, fresh_start (history_of g.book) m fresh, same)) e)

    message_plays : (number : ℕ) (message : MessageValue) → FromNode m number message → Other message
        → acts (answer_by seen (node_address m.node m.port) (framed (for_role role.Gateway (Message number message))) may)
    message_plays number EchoRequest fits other = event_plays (EchoAsked number) (λ n counter e. absurd (cc))
    message_plays number (EchoResponse counter) fits other = event_plays (EchoTold number counter)
        (λ n told e. cc (fits, e))
    message_plays number (NodeAliveRequest address) fits other = event_plays (AliveAsked number) (λ n counter e. absurd (cc))
    message_plays number (TransferRequest body) fits other = absurd other
    message_plays number (TransferResponse cause responded) fits other = absurd other
    message_plays number _ fits other = still_plays stands

    pub other_plays : (number : ℕ) (message : MessageValue) → IsWritten m.octets number message → FromNode m number message → Other message
        → Plays m.gateway scene (answered rules now m g)
    other_plays number message w fits other =
        subst (λ (p : PreparedValue). acts (answer_by seen (node_address m.node m.port) p may))
        (sym (ap framed (role_read_of back roles role.Gateway m.octets number message w))) (message_plays number message fits other)

  -- a request comes
  module _ (body : TransferValue) (w : IsWritten m.octets (m.number % 65536) (TransferRequest body)) (values : sends_values body ≡ true) (is : IsAbout m body)
      (fresh : is_expired (history_of g.book) m ≡ false) (there : Contains scene.letters (letter_of m)) where
    abbrev answer : ℕ → world.Message
    answer cause = answering m (written (m.number % 65536) (TransferResponse cause (m.number % 65536 ∷ [])))

    -- what the history answers
    abbrev Answered : ℕ → Option HistoryAct → Type 0
    Answered cause a = asked_by seen may (node_id m.node) (m.number % 65536) body ≡ responding (m.number % 65536) cause a

    means : (cause : ℕ) → meaning_of (answer cause) ≡ Answers cause
    means cause = responds_means back (answer cause) cause (record { octets = refl })

    coming_is : (cause : ℕ) (a : Option HistoryAct) → Answered cause a → coming may now no_caller (letter_of m) (request_in (about m) body) (post_of g)
        ≡ waiting_for (letter_of (answer cause)) (noting_if now no_caller a (post_of g))
    coming_is cause a is_answer =
        let request = request_in (about m) body in
        cond-true (is_timely (history (post_of g)) (letter_of m) request) _ _
        (subst (λ (h : List HistoryEntry). is_timely h (letter_of m) request ≡ true) (history_is g.book sound) (timely m (history_of g.book) (m.number % 65536) body w.is is fresh))
        ∙ ap (λ (given : Given). scenes.answering now no_caller (letter_of m) given (post_of g))
        (ap (λ (h : List HistoryEntry). given h may (letter_of m) request) (sym (history_is g.book sound))
        ∙ sym (same_answer m seen may (node_id m.node) (m.number % 65536) body is) ∙ is_answer)
        ∙ ap (λ (says : Meaning). waiting_for (record (letter_of m) { says = says }) (noting_if now no_caller a (post_of g))) (sym (means cause))

    abbrev comes : Happening
    comes = Comes (number_of scene.letters (letter_of m) there).0 may now no_caller

    happens : (cause : ℕ) (a : Option HistoryAct) → Answered cause a → happened_all scene (comes ∷ [])
        ≡ with_settled m.gateway (waiting_for (letter_of (answer cause)) (noting_if now no_caller a (post_of g))) scene
    happens cause a is_answer =
        ap (λ (l : Option Letter). with_one l (λ letter. after_coming may now no_caller letter letter.says) scene) (number_of scene.letters (letter_of m) there).1
        ∙ ap (λ (says : Meaning). after_coming may now no_caller (letter_of m) says scene) (meaning_is back m (m.number % 65536) (TransferRequest body) w)
        ∙ ap (λ (p : Post). with_settled m.gateway (coming may now no_caller (letter_of m) (request_in (about m) body) p) scene) stands.post
        ∙ ap (λ (s : Settled). with_settled m.gateway s scene) (coming_is cause a is_answer)

    answered_plays : (cause : ℕ) (a : Option HistoryAct) → Answered cause a → Plays m.gateway scene (out.replying (record g { book = recorded_if g.book now no_caller a }) (answer cause))
    answered_plays cause None is_answer =
        answer_plays stands.rightly (answer cause) sound (ap not to) (responds_said (answer cause) cause (record { octets = refl }))
        m.gateway scene (comes ∷ []) (happens cause None is_answer) (ap is_spoken (means cause))
    answered_plays cause (Some a) is_answer =
        answer_plays (noted_rightly now a stands.rightly) (answer cause) sound (ap not to) (responds_said (answer cause) cause (record { octets = refl }))
        m.gateway scene (comes ∷ [])
        (happens cause (Some a) is_answer
        ∙ ap (λ (h : List HistoryEntry). with_settled m.gateway (waiting_for (letter_of (answer cause)) (record {
          firm = g.book.firm;
          rest = g.book.rest ++ entry_by h now no_caller a ∷ [];
          waiting = waiting_letters g.waiting;
        })) scene) (sym (history_is g.book sound)))
        (ap is_spoken (means cause))

    pub request_plays : Plays m.gateway scene (answered rules now m g)
    request_plays =
        let answer_is = asked_responds seen may (node_id m.node) (m.number % 65536) body in
        subst (λ (d : Decided). Plays m.gateway scene (acting now g m d))
        (sym (ap (λ (p : PreparedValue). decided (answer_by seen (node_address m.node m.port) p may))
        (prepared_request back roles m.octets (m.number % 65536) body w values) ∙ ap decided answer_is.is))
        (answered_plays answer_is.cause answer_is.recorded answer_is.is)

-- ---- a message comes

module _ (back : ReadsBack) (roles : RolesRead) (m : world.Message) (to : m.to_gateway ≡ true) (said : NodeSaid m) {g : Gateway} {scene : Scene}
    (stands : Stands m.gateway scene g) where
  -- what is answered
  pub answers_play : (rules : Rules) (now : ℕ) → g.book.is_broken ≡ false → is_expired (history_of g.book) m ≡ false
      → (speaks m ≡ true → Contains scene.letters (letter_of m)) → Plays m.gateway scene (answered rules now m g)
  answers_play rules now sound fresh there = by said.message said.written said.fits
    where
      by : (message : MessageValue) → IsWritten m.octets said.path message → FromNode m said.path message → Plays m.gateway scene (answered rules now m g)
      by (TransferRequest body) w fits =
          let here : IsWritten m.octets (m.number % 65536) (TransferRequest body) = subst (λ (n : ℕ). IsWritten m.octets n (TransferRequest body)) fits.0 w in
          request_plays back roles rules now m to stands sound body here fits.1 fits.2 fresh
          (there (ap is_spoken (meaning_is back m (m.number % 65536) (TransferRequest body) here)))
      by (TransferResponse cause responded) w fits = absurd fits
      by message w fits = other_plays back roles rules now m to stands sound fresh said.started said.path message w fits tt

  -- a request that comes to a gateway that breaks is told
  told_plays : (number : ℕ) → number ≡ m.number % 65536
      → Plays m.gateway scene (record { gateway = g; sends = answering m (written number (TransferResponse SYSTEM_FAILURE (number ∷ []))) ∷ [] })
  told_plays number same =
      let told = answering m (written number (TransferResponse SYSTEM_FAILURE (number ∷ []))) in
      let responds : Responds told SYSTEM_FAILURE = record { octets = ap (λ (n : ℕ). written n (TransferResponse SYSTEM_FAILURE (n ∷ []))) same } in
      idle_plays stands (told ∷ [])
      (λ k is. subst Said (in_one told k is) (said_by_gateway told (ap not to) (responds_said told SYSTEM_FAILURE responds)))
      (λ k is. subst (λ (j : world.Message). is_idle (meaning_of j) ≡ true) (in_one told k is) (ap is_idle (responds_means back told SYSTEM_FAILURE responds)))

  pub failed_plays : Plays m.gateway scene (failed m g)
  failed_plays =
      subst (λ (p : PreparedValue). Plays m.gateway scene (failed_by m g (decided (failure_answer p))))
      (sym (ap framed (role_read_of back roles role.Gateway m.octets said.path said.message said.written)))
      (by said.message said.fits)
    where
      by : (message : MessageValue) → FromNode m said.path message
          → Plays m.gateway scene (failed_by m g (decided (failure_answer (framed (for_role role.Gateway (Message said.path message))))))
      by (TransferRequest body) fits = if_both (λ (p : PreparedValue). Plays m.gateway scene (failed_by m g (decided (failure_answer p)))) (sends_values body)
          (told_plays said.path fits.0) (told_plays said.path fits.0)
      by (TransferResponse cause responded) fits = absurd fits
      by _ fits = still_plays stands

-- ---- a redirection

-- the address of the gateway that is recommended
abbrev recommended : Option ℕ → Option (List ℕ)
recommended to = option_map (λ other. big_bytes 4 (gateway_address other).ip) to

asks_written : (number cause : ℕ) (to : Option ℕ) → IsWritten (written number (RedirectionRequest cause (recommended to))) number (RedirectionRequest cause (recommended to))
asks_written number cause None = record { is = refl; sendable = refl; short = omega arith }
asks_written number cause (Some other) = record { is = refl; sendable = refl; short = omega arith }

pub redirected_plays : ReadsBack → (gateway cause : ℕ) (to : Option ℕ) {g : Gateway} {scene : Scene} → Stands gateway scene g
    → Plays gateway scene (out.redirected gateway cause to g)
redirected_plays back gateway cause to {g} {scene} stands =
    let again : Stands gateway scene (record g { redirects = g.redirects + 1 }) =
    record { post = stands.post; rightly = record { fronts = stands.rightly.fronts; said = stands.rightly.said; broken = stands.rightly.broken } } in
    idle_plays again
    (map (out.redirecting gateway cause to g) (paths_of (history_of g.book)))
    (each_mapped Said (out.redirecting gateway cause to g) (paths_of (history_of g.book))
    (λ path is. said_by_gateway (out.redirecting gateway cause to g path) refl (record {
      path = number;
      message = RedirectionRequest cause (recommended to);
      written = asks_written number cause to;
      fits = tt;
    })))
    (each_mapped (λ (k : world.Message). is_idle (meaning_of k) ≡ true) (out.redirecting gateway cause to g)
    (paths_of (history_of g.book))
    (λ path is. ap is_idle (meaning_is back (out.redirecting gateway cause to g path) number
    (RedirectionRequest cause (recommended to))
    (asks_written number cause to))))
  where
    number : ℕ
    number = g.redirects % 65536
