-- A gateway tells a node that it is alive only once the node's start is firm, and knows of no start that wasn't made: its
-- moves, what it answers, its marks, its openings and its redirections.
use Rattle.std.proofs.Common.{◌≡◌, ⊎_elim, ℕ, ◌-◌, ◌≤◌, nat_lt, not, Bool, true, false, List, [], ◌∷◌, ◌++◌, length, length-append, map, filter, take, drop, take-append-drop, Contains, refl, sym, ap, subst, ◌∙◌, arith, append_assoc, append-nil, ◌⊎◌, leb-true, ltb-true, Option, Some, None, IfSome, option_map}
use Rattle.once_core.proofs.Names.{act_noted, acting, AliveAsked, AliveTold, answer_by, answered, answering, BookValue, Contains-append_cases, Contains-push_cases, cut, decided, EchoAsked, EchoRequest, EchoResponse, EchoTold, entry_by, failed, failed_by, failing, failure_answer, false≢true, followed, for_role, framed, Gateway, Given, giving_up, GrowsTo, has_type, history_of, HistoryAct, HistoryEntry, is_expired, is_reached, is_response, Message, MessageValue, moment_after, Moved, nat_tests, nil_from_length, no_caller, node_address, NODE_ALIVE_RESPONSE, node_id, node_ip, NodeAliveResponse, NodeId, Note, Observed, observed, opened_by, Opening, opening_epoch, opening_of, opening_of-append, path_given, PathEvent, paths_of, port_number, prepared_of, PreparedValue, redirected, redirecting, Replies, replying, responding, RisesBy, RolesRead, Rules, settling, standing_for, start_of, StartsRise, still, SYSTEM_FAILURE, TransferResponse, TransferValue, VersionNotSupported, Waiting, written}
use Rattle.gw_base.specs.declared.history.HistoryAct.TheVariants as act
use Rattle.once_core.specs.Answers as out
use Rattle.once_core.proofs.CommitPlays.{not_reached}
use Rattle.once_core.proofs.EachLemmas.{each_front, each_more}
use Rattle.once_core.proofs.GrowingLemmas.{on, on_on, on_with}
use Rattle.once_core.proofs.ListLemmas.{filtered, in_none, of_map, passed, in_one, each_mapped}
use Rattle.once_core.proofs.StartLemmas.{IsNoPath, front_low, no_path_rises, no_path_same, one_rises, start_rises, known_start, opened_start, path_starts}
use Rattle.once_core.proofs.PartLemmas.{history_is, PartsKeep, cut_book, noted, standing, torn_book, whole_book}
use Rattle.once_core.proofs.CaseLemmas.{if_both}
use Rattle.gtpp_message.specs.Reading as reading
use Rattle.gtpp_message.specs.declared.role.Role.TheVariants as role
use Rattle.gateway_answer.specs.Answer.{asked_by}
use Rattle.gateway_answer.specs.Preparing as of
use Rattle.once_core.specs.declared.message.Message as world
use Rattle.once_core.proofs.MeaningLemmas.{FromNode, NodeSaid, ReadsBack, role_read_of}
use Rattle.once_core.proofs.DeliverPlays.{fresh_start, rises, asked_responds}

-- ---- a gateway

abbrev pub all_of : Gateway → List HistoryEntry
all_of g = g.book.firm ++ g.book.rest

-- a message that tells a node that a gateway is alive
abbrev pub tells_alive : Message → Bool
tells_alive m = has_type NODE_ALIVE_RESPONSE m.octets

-- a message of the gateway in a place; one that tells of life tells of a start that this history knows
pub record Speaks (place : ℕ) (h : List HistoryEntry) (m : Message) : Type 0 where
  pub from : m.to_gateway ≡ false
  pub at : m.gateway ≡ place
  pub tells : tells_alive m ≡ true → m.start ≤ start_of (node_ip m.node) h

-- a history of the gateway in a place, and messages that wait there: a node's start is at most this
pub record Knows (place : ℕ) (bound : ℕ → ℕ) (h : List HistoryEntry) (waiting : List Waiting) : Type 0 where
  pub rises : StartsRise h
  pub low : (ip : ℕ) → start_of ip h ≤ bound ip
  pub says : (w : Waiting) → Contains waiting w → Speaks place h w.message

pub record Truly (place : ℕ) (bound : ℕ → ℕ) (g : Gateway) : Type 0 where
  pub knows : Knows place bound (all_of g) g.waiting
  pub open knows use *
  pub fronts : (w : Waiting) → Contains g.waiting w → is_reached g.book w ≡ false
  pub broken : g.book.is_broken ≡ true → g.waiting ≡ []

-- a move leaves it so, and what is sent tells of a start that is firm
pub record TrulyMoved (place : ℕ) (bound : ℕ → ℕ) (g : Gateway) (moved : Moved) : Type 0 where
  pub truly : Truly place bound moved.gateway
  pub grows : GrowsTo g.book.firm moved.gateway.book.firm
  pub sends : (m : Message) → Contains moved.sends m → Speaks place moved.gateway.book.firm m

speaks_on : {place : ℕ} {h : List HistoryEntry} {m : Message} (k : List HistoryEntry) → ((ip : ℕ) → start_of ip h ≤ start_of ip k) → Speaks place h m → Speaks place k m
speaks_on {m} k more says = record { from = says.from; at = says.at; tells = λ alive. omega (arith, says.tells alive, more (node_ip m.node)) }

-- what holds of each message that is made of one that waits holds of each of them
each_sent : (P : Message → Type 0) (f : Waiting → Message) (p : Waiting → Bool) (ws : List Waiting) → ((w : Waiting) → Contains ws w → p w ≡ true → P (f w))
    → (m : Message) → Contains (map f (filter p ws)) m → P m
each_sent P f p ws holds = each_mapped P f (filter p ws) (λ w is. holds w (filtered p ws w is) (passed p ws w is))

module _ {place : ℕ} {bound : ℕ → ℕ} where
  pub still_truly : {g : Gateway} → Truly place bound g → TrulyMoved place bound g (still g)
  still_truly {g} truly = record { truly = truly; grows = on g.book.firm; sends = λ m is. absurd (in_none m is) }

  -- a gateway where nothing waits
  pub none_truly : {g : Gateway} → g.waiting ≡ [] → StartsRise (all_of g) → ((ip : ℕ) → start_of ip (all_of g) ≤ bound ip) → Truly place bound g
  none_truly none rises low = record {
    knows = record { rises = rises; low = low; says = λ w is. absurd (in_none w (subst (λ ws. Contains ws w) none is)) };
    fronts = λ w is. absurd (in_none w (subst (λ ws. Contains ws w) none is));
    broken = λ e. none;
  }

  pub followed_truly : {g : Gateway} {first : Moved} (next : Gateway → Moved) → TrulyMoved place bound g first → TrulyMoved place bound first.gateway (next first.gateway)
      → TrulyMoved place bound g (followed first next)
  followed_truly {g} {first} next a b = record {
    truly = b.truly;
    grows = on_on g.book.firm first.gateway.book.firm (next first.gateway).gateway.book.firm a.grows b.grows;
    sends = λ m is. ⊎_elim
        (λ old. speaks_on (next first.gateway).gateway.book.firm
        (λ ip. front_low ip first.gateway.book.firm (next first.gateway).gateway.book.rest (next first.gateway).gateway.book.firm b.truly.rises b.grows) (a.sends m old))
        (b.sends m) (Contains-append_cases first.sends (next first.gateway).sends m is);
  }

  module _ {g : Gateway} (truly : Truly place bound g) where
    -- all becomes firm
    firm_truly : (cuts : ℕ) → TrulyMoved place bound g (settling (record g { book = whole_book g.book cuts false }))
    firm_truly cuts = record {
      truly = record {
        knows = subst (λ (h : List HistoryEntry). Knows place bound h (filter (λ w. not (is_reached whole w)) g.waiting)) (sym (append-nil (all_of g)))
            (record { rises = truly.rises; low = truly.low; says = λ w is. truly.says w (filtered (λ v. not (is_reached whole v)) g.waiting w is) });
        fronts = λ w is. not_reached whole g.waiting w is;
        broken = λ e. absurd (false≢true e);
      };
      grows = on_with g.book.firm g.book.rest;
      sends = each_sent (Speaks place (all_of g)) (λ w. w.message) (is_reached whole) g.waiting (λ w is reached. truly.says w is);
    }
      where
        whole : BookValue
        whole = whole_book g.book cuts false

    -- a gateway that lost what waited
    lost_truly : (book : BookValue) (is_down : Bool) (redirects : ℕ) (more : List HistoryEntry) → all_of g ≡ (book.firm ++ book.rest) ++ more → GrowsTo g.book.firm book.firm
        → TrulyMoved place bound g (still (record { book = book; waiting = []; is_down = is_down; redirects = redirects }))
    lost_truly book is_down redirects more is grows =
        let rises = subst StartsRise is truly.rises in
        record {
          truly = none_truly refl (each_front (λ before e. RisesBy before e.act) [] (book.firm ++ book.rest) more rises)
              (λ ip. omega (arith, start_rises ip (book.firm ++ book.rest) more rises, ap (start_of ip) is, truly.low ip));
          grows = grows;
          sends = λ m there. absurd (in_none m there);
        }

    -- a commit fails
    torn_truly : (cuts : ℕ) → TrulyMoved place bound g (giving_up (record g { book = torn_book g.book cuts }))
    torn_truly cuts = record {
      truly = none_truly refl truly.rises truly.low;
      grows = on g.book.firm;
      sends = each_sent (Speaks place g.book.firm) (λ w. failing w.message) (λ w. is_response w.message) g.waiting
          (λ w is response. record { from = (truly.says w is).from; at = (truly.says w is).at; tells = λ alive. absurd (false≢true alive) });
    }

    -- one entry more
    noted_truly : (now : ℕ) (a : HistoryAct) → RisesBy (all_of g) a → ((ip : ℕ) → start_of ip (all_of g ++ entry_by (history_of g.book) now no_caller a ∷ []) ≤ bound ip)
        → TrulyMoved place bound g (still (noted now a g))
    noted_truly now a rises_by low =
        let e = entry_by (history_of g.book) now no_caller a in
        record {
          truly = record {
            knows = subst (λ (h : List HistoryEntry). Knows place bound h g.waiting) (append_assoc g.book.firm g.book.rest (e ∷ [])) (record {
              rises = each_more (λ before d. RisesBy before d.act) [] (all_of g) e truly.rises rises_by;
              low = low;
              says = λ w is. speaks_on (all_of g ++ e ∷ []) (λ ip. one_rises ip (all_of g) e rises_by) (truly.says w is);
            });
            fronts = truly.fronts;
            broken = truly.broken;
          };
          grows = on g.book.firm;
          sends = λ m is. absurd (in_none m is);
        }

    pub no_path_truly : (now : ℕ) (a : HistoryAct) → IsNoPath a → TrulyMoved place bound g (still (noted now a g))
    no_path_truly now a isnt = noted_truly now a (no_path_rises (all_of g) a isnt)
        (λ ip. omega (arith, no_path_same ip (all_of g) (entry_by (history_of g.book) now no_caller a) isnt, truly.low ip))

    -- an answer waits or is sent
    pub replying_truly : (m : Message) → g.book.is_broken ≡ false → Speaks place (all_of g) m → TrulyMoved place bound g (replying g m)
    replying_truly m sound says = record {
      truly = record {
        knows = record {
          rises = truly.rises;
          low = truly.low;
          says = λ w is. ⊎_elim (truly.says w) (λ same. subst (λ (v : Waiting). Speaks place (all_of g) v.message) same says)
              (new w (filtered (λ v. not (is_reached g.book v)) (g.waiting ++ out.waiting_for g m ∷ []) w is));
        };
        fronts = λ w is. not_reached g.book (g.waiting ++ out.waiting_for g m ∷ []) w is;
        broken = λ e. absurd (false≢true (sym sound ∙ e));
      };
      grows = on g.book.firm;
      sends = each_sent (Speaks place g.book.firm) (λ w. w.message) (is_reached g.book) (g.waiting ++ out.waiting_for g m ∷ []) (λ w is reached. ⊎_elim
          (λ old. absurd (false≢true (sym (truly.fronts w old) ∙ reached)))
          (λ same. subst (λ (v : Waiting). Speaks place g.book.firm v.message) same
          (subst (λ (h : List HistoryEntry). Speaks place h m) (all_firm (ap (is_reached g.book) same ∙ reached)) says))
          (new w is));
    }
      where
        new : (w : Waiting) → Contains (g.waiting ++ out.waiting_for g m ∷ []) w → Contains g.waiting w ⊎ (out.waiting_for g m ≡ w)
        new w is = Contains-push_cases g.waiting (out.waiting_for g m) w is

        all_firm : is_reached g.book (out.waiting_for g m) ≡ true → all_of g ≡ g.book.firm
        all_firm reached =
            let short = leb-true (length (history_of g.book)) (length g.book.firm) reached in
            ap (λ (r : List HistoryEntry). g.book.firm ++ r)
            (nil_from_length g.book.rest (omega (arith, short, ap length (history_is g.book sound), length-append g.book.firm g.book.rest))) ∙ append-nil g.book.firm

    pub path_truly : (now : ℕ) (n : NodeId) (port counter : ℕ) → nat_lt (start_of n.0 (all_of g)) counter ≡ true → counter ≤ bound n.0
        → TrulyMoved place bound g (still (noted now (act.Path n port counter) g))
    path_truly now n port counter later within = noted_truly now (act.Path n port counter) (ltb-true (start_of n.0 (all_of g)) counter later)
        (λ ip. grind (
          arith,
          nat_tests,
          opening_of-append ip (all_of g) (entry_by (history_of g.book) now no_caller (act.Path n port counter)),
          truly.low ip,
        ))

-- what a note records begins no epoch
no_path_note : (note : Note) → IsNoPath (act_noted note)
no_path_note note = grind arith

-- each part of a move leaves it so
pub truly_parts : (place : ℕ) (bound : ℕ → ℕ) → PartsKeep (λ g moved. Truly place bound g → TrulyMoved place bound g moved)
truly_parts place bound = record {
  stays = λ g truly. still_truly truly;
  follows = λ g first next a b truly. let one = a truly in followed_truly next one (b one.truly);
  firm = λ g cuts truly. firm_truly truly cuts;
  gone = λ g cuts broken truly.
      subst (TrulyMoved place bound g) (ap (λ (ws : List Waiting). settling (record g { book = cut_book g.book cuts; waiting = ws })) (sym (truly.broken broken)))
      (lost_truly truly (cut_book g.book cuts) g.is_down g.redirects g.book.rest (ap (λ (h : List HistoryEntry). h ++ g.book.rest) (sym (append-nil g.book.firm))) (on g.book.firm));
  torn = λ g cuts truly. torn_truly truly cuts;
  notes = λ g note now sound due truly. no_path_truly truly now (act_noted note) (no_path_note note);
  cuts = λ g keep truly.
      let count : ℕ = keep - length g.book.firm in
      lost_truly truly (cut keep g).book true g.redirects (drop count g.book.rest)
      (ap (λ (r : List HistoryEntry). g.book.firm ++ r) (sym (take-append-drop count g.book.rest))
      ∙ sym (append_assoc g.book.firm (take count g.book.rest) (drop count g.book.rest))) (on g.book.firm);
  stands = λ g truly. if_both (λ (h : List HistoryEntry). TrulyMoved place bound g (still (standing h))) g.book.is_broken
      (lost_truly truly (standing_for g.book.firm) false 0 g.book.rest (ap (λ (h : List HistoryEntry). h ++ g.book.rest) (sym (append-nil g.book.firm))) (on g.book.firm))
      (lost_truly truly (standing_for (all_of g)) false 0 [] (sym (append-nil (all_of g ++ []) ∙ append-nil (all_of g))) (on_with g.book.firm g.book.rest));
}

-- ---- the counter that a node tells

abbrev counter_in : ℕ → PreparedValue → ℕ
counter_in other (of.Path (EchoTold number counter)) = counter
counter_in other _ = other

-- it is its start
told_counter : ReadsBack → RolesRead → (m : world.Message) → NodeSaid m → counter_in m.start (prepared_of m.octets) ≡ m.start
told_counter back roles m said = ap (λ (p : PreparedValue). counter_in m.start p) (ap framed (role_read_of back roles role.Gateway m.octets said.path said.message said.written)) ∙ by said.message said.fits
  where
    by : (message : MessageValue) → FromNode m said.path message
        → counter_in m.start (framed (for_role role.Gateway (reading.Message said.path message))) ≡ m.start
    by message fits = grind arith

-- ---- what is answered

-- an answer that doesn't tell of life
plain_speaks : (m : world.Message) → m.to_gateway ≡ true → (h : List HistoryEntry) (number : ℕ) (message : MessageValue)
    → has_type NODE_ALIVE_RESPONSE (written number message) ≡ false → Speaks m.gateway h (answering m (written number message))
plain_speaks m to h number message isnt = record { from = ap not to; at = refl; tells = λ alive. absurd (false≢true (sym isnt ∙ alive)) }

module _ (bound : ℕ → ℕ) (rules : Rules) (now : ℕ) (m : world.Message) (to : m.to_gateway ≡ true) (g : Gateway) (truly : Truly m.gateway bound g) (sound : g.book.is_broken ≡ false) where
  abbrev Acts : Given → Type 0
  Acts given = TrulyMoved m.gateway bound g (acting now g m (decided given))

  abbrev seen : Observed
  seen = observed (history_of g.book) (node_id m.node)

  abbrev may : HistoryAct → Bool
  may = rules.may (history_of g.book) (node_id m.node)

  -- one that doesn't tell of life, with an act that begins no epoch or none
  plain_truly : (number : ℕ) (message : MessageValue) → has_type NODE_ALIVE_RESPONSE (written number message) ≡ false
      → (o : Option HistoryAct) → IfSome o IsNoPath → Acts (Replies number message o)
  plain_truly number message isnt None no_path = replying_truly truly (answering m (written number message)) sound (plain_speaks m to (all_of g) number message isnt)
  plain_truly number message isnt (Some a) no_path =
      let note : TrulyMoved m.gateway bound g (still (noted now a g)) = no_path_truly truly now a no_path in
      followed_truly (λ b. replying b (answering m (written number message))) note
      (replying_truly note.truly (answering m (written number message)) sound (plain_speaks m to (all_of (noted now a g)) number message isnt))

  responds_truly : (number cause : ℕ) (o : Option HistoryAct) → IfSome o IsNoPath → Acts (responding number cause o)
  responds_truly number cause o no_path = plain_truly number (TransferResponse cause (number ∷ [])) refl o no_path

  asked_truly : (number : ℕ) (body : TransferValue) → Acts (asked_by seen may (node_id m.node) number body)
  asked_truly number body =
      let answer = asked_responds seen may (node_id m.node) number body in
      subst Acts (sym answer.is) (responds_truly number answer.cause answer.recorded answer.no_path)

  -- a node that tells its counter is told of life
  module _ (fresh : start_of (node_ip m.node) (history_of g.book) ≤ m.start) (started : 1 ≤ m.start) (within : m.start ≤ bound (node_ip m.node)) where
    abbrev life : ℕ → world.Message
    life number = answering m (written number NodeAliveResponse)

    abbrev path : ℕ → HistoryAct
    path counter = act.Path (node_id m.node) (port_number m.port) counter

    -- its start is known, or becomes so
    known_truly : (number : ℕ) → start_of (node_ip m.node) (history_of g.book) ≡ m.start → Acts (Replies number NodeAliveResponse None)
    known_truly number known = replying_truly truly (life number) sound
        (record { from = ap not to; at = refl; tells = λ alive. omega (arith, known, ap (start_of (node_ip m.node)) (history_is g.book sound)) })

    opens_truly : (number counter : ℕ) → nat_lt (start_of (node_ip m.node) (history_of g.book)) counter ≡ true → counter ≡ m.start
        → Acts (Replies number NodeAliveResponse (Some (path counter)))
    opens_truly number counter later same =
        followed_truly (λ b. replying b (life number)) note
        (replying_truly note.truly (life number) sound (record { from = ap not to; at = refl; tells = λ alive. omega (arith, starts, same) }))
      where
        note : TrulyMoved m.gateway bound g (still (noted now (path counter) g))
        note = path_truly truly now (node_id m.node) (port_number m.port) counter
            (subst (λ (h : List HistoryEntry). nat_lt (start_of (node_ip m.node) h) counter ≡ true) (history_is g.book sound) later) (omega (arith, same, within))

        starts : start_of (node_ip m.node) (all_of (noted now (path counter) g)) ≡ counter
        starts =
            ap (start_of (node_ip m.node)) (sym (append_assoc g.book.firm g.book.rest (entry_by (history_of g.book) now no_caller (path counter) ∷ [])))
            ∙ path_starts (all_of g) (moment_after (history_of g.book) now) no_caller (node_id m.node) (port_number m.port) counter

    abbrev opening : Option Opening
    opening = opening_of (node_ip m.node) (history_of g.book)

    opening_truly : (number counter : ℕ) → counter ≡ m.start → (o : Option ℕ) → opened_by (option_map (λ opening. opening.counter) opening) counter ≡ o
        → Acts (opening_epoch may (node_address m.node m.port) (Some (AliveTold number)) o)
    opening_truly number counter same None e = known_truly number (known_start opening counter e ∙ same)
    opening_truly number counter same (Some at) e = if_both Acts (may (path at))
        (opens_truly number at (rises opening counter at (omega (arith, started, same)) (omega (arith, fresh, same)) e) (sym (opened_start opening counter at e) ∙ same))
        (still_truly truly)

    event_truly : (event : PathEvent) → counter_in m.start (of.Path event) ≡ m.start → Acts (path_given seen may (node_address m.node m.port) event)
    event_truly (EchoAsked number) is = plain_truly number (EchoResponse seen.own) refl None tt
    event_truly (AliveAsked number) is = plain_truly number EchoRequest refl None tt
    event_truly (AliveTold number) is = still_truly truly
    event_truly (EchoTold number counter) is = opening_truly number counter is (opened_by (option_map (λ opening. opening.counter) opening) counter) refl

    answer_truly : (p : PreparedValue) → counter_in m.start p ≡ m.start → Acts (answer_by seen (node_address m.node m.port) p may)
    answer_truly (of.Drop why) is = still_truly truly
    answer_truly (of.OtherVersion number) is = plain_truly number VersionNotSupported refl None tt
    answer_truly (of.Refused cause number) is = responds_truly number cause None tt
    answer_truly (of.Path event) is = event_truly event is
    answer_truly (of.Request number body) is = asked_truly number body

-- ---- redirections

pub redirected_truly : {place : ℕ} {bound : ℕ → ℕ} {g : Gateway} → Truly place bound g → (cause : ℕ) (other : Option ℕ) → TrulyMoved place bound g (redirected place cause other g)
redirected_truly {place} {g} truly cause other = record {
  truly = record { knows = truly.knows; fronts = truly.fronts; broken = truly.broken };
  grows = on g.book.firm;
  sends = λ m is. subst (Speaks place g.book.firm) (of_map (redirecting place cause other g) (paths_of (history_of g.book)) m is).2
      (record { from = refl; at = refl; tells = λ alive. absurd (false≢true alive) });
}

-- ---- messages

module _ (bound : ℕ → ℕ) (back : ReadsBack) (roles : RolesRead) (rules : Rules) (now : ℕ) (m : world.Message) (to : m.to_gateway ≡ true) (said : NodeSaid m)
    (within : m.start ≤ bound (node_ip m.node)) where
  abbrev At : Gateway → Moved → Type 0
  At g moved = TrulyMoved m.gateway bound g moved

  pub answers_truly : {g : Gateway} → Truly m.gateway bound g → g.book.is_broken ≡ false → is_expired (history_of g.book) m ≡ false → At g (answered rules now m g)
  answers_truly {g} truly sound fresh =
      answer_truly bound rules now m to g truly sound (fresh_start (history_of g.book) m fresh) said.started within (prepared_of m.octets) (told_counter back roles m said)

  -- a request that comes to a gateway that breaks is told
  told_truly : {g : Gateway} → Truly m.gateway bound g → (number : ℕ)
      → At g (record { gateway = g; sends = answering m (written number (TransferResponse SYSTEM_FAILURE (number ∷ []))) ∷ [] })
  told_truly {g} truly number = record {
    truly = truly;
    grows = on g.book.firm;
    sends = λ k is. subst (Speaks m.gateway g.book.firm) (in_one (answering m (written number (TransferResponse SYSTEM_FAILURE (number ∷ [])))) k is)
        (plain_speaks m to g.book.firm number (TransferResponse SYSTEM_FAILURE (number ∷ [])) refl);
  }

  pub failed_truly : {g : Gateway} → Truly m.gateway bound g → At g (failed m g)
  failed_truly {g} truly = by (prepared_of m.octets)
    where
      by : (p : PreparedValue) → At g (failed_by m g (decided (failure_answer p)))
      by (of.Refused cause number) = told_truly truly number
      by (of.Request number body) = told_truly truly number
      by _ = still_truly truly
