-- The packets of a node bear the numbers by which they were submitted, and what was submitted stays in each turn.
use Rattle.std.proofs.Common.{◌≡◌, ⊎_elim, ℕ, zero, suc, ◌+◌, ◌-◌, ◌<◌, ◌≤◌, ◌==◌, true, List, [], ◌∷◌, ◌++◌, length, length-append, map, filter, zip, Option, Some, Contains, slice_get, refl, sym, ap, subst, ◌∙◌, arith, append_assoc, append-nil, eqb-true, ◌||◌, not, None}
use Rattle.once_core.proofs.Names.{all_followed, Appointed, at_node, Began, call_entries, Called, called, Contains-append_cases, delivered_to_node, draft_of, Followed, followed_before, following, forms_ever, forms_of, gateway_address, GrowsTo, Halted, Heard, is_expired_at_node, log_at, LogEntry, logged, Message, node_value, NodeCall, option_map_or, packet_after, packet_after_all, packet_hearing, PacketForm, packets_in, packets_of, PacketState, Responds, ruled_turns, RuledTurn, Rules, runs, Sending, starts_in, Submitted, submitted, submitting, submitting_form, Ticked, ticking, Turn, turn, value_octets, values_of, while_open, World}
use Rattle.once_core.proofs.GrowingLemmas.{on, on_on, on_with}
use Rattle.once_core.proofs.ListLemmas.{filtered, in_cons, in_head, in_none, in_tail, of_map, passed}
use Rattle.once_core.proofs.LogLemmas.{starts_again, starts_same}
use Rattle.once_core.proofs.CaseLemmas.{if_both, map_known, set_known}
use Rattle.node_core.specs.Reached as call
use Rattle.once_core.proofs.PartLemmas.{PartsKeep, turn_keeps, log_or, log_there, turns_hold}

-- ---- lists

pub get_more : {A : Type 0} (xs ys : List A) (k : ℕ) (x : A) → slice_get xs k ≡ Some x → slice_get (xs ++ ys) k ≡ Some x
get_more [] ys k x e = absurd (cc)
get_more (y ∷ xs) ys zero x e = e
get_more (y ∷ xs) ys (suc k) x e = get_more xs ys k x e

get_behind : {A : Type 0} (xs ys : List A) (k : ℕ) → slice_get (xs ++ ys) (length xs + k) ≡ slice_get ys k
get_behind [] ys k = ap (slice_get ys) (omega arith)
get_behind (x ∷ xs) ys k = grind (arith, get_behind xs ys k)

-- ---- packets in order

-- the packets have the numbers behind this one, and these are what they send
abbrev pub Numbered : ℕ → List PacketState → List PacketForm → Type 0
Numbered n [] [] = Unit {0}
Numbered n [] (form ∷ forms) = ⊥
Numbered n (packet ∷ packets) [] = ⊥
Numbered n (packet ∷ packets) (form ∷ forms) = (packet.number ≡ suc n) × Numbered (suc n) packets forms

numbered_more : (n : ℕ) (packets : List PacketState) (forms : List PacketForm) (packet : PacketState) (form : PacketForm) → Numbered n packets forms
    → packet.number ≡ suc (n + length forms) → Numbered n (packets ++ packet ∷ []) (forms ++ form ∷ [])
numbered_more n [] [] packet form is e = (omega (arith, e), tt)
numbered_more n (p ∷ packets) (f ∷ forms) packet form is e = (is.0, numbered_more (suc n) packets forms packet form is.1 (omega (arith, e)))
numbered_more n _ _ packet form is e = absurd is

numbered_map : (h : PacketState → PacketState) → ((p : PacketState) → (h p).number ≡ p.number) → (n : ℕ) (packets : List PacketState) (forms : List PacketForm)
    → Numbered n packets forms → Numbered n (map h packets) forms
numbered_map h same n [] [] is = tt
numbered_map h same n (p ∷ packets) (f ∷ forms) is = (same p ∙ is.0, numbered_map h same (suc n) packets forms is.1)
numbered_map h same n _ _ is = absurd is

-- a packet of these, and what it sends
pub record IsNumbered (n : ℕ) (forms : List PacketForm) (packet : PacketState) : Type 0 where
  pub place : ℕ
  pub form : PacketForm
  pub number : packet.number ≡ suc (n + place)
  pub there : slice_get forms place ≡ Some form

pub numbered_in : (n : ℕ) (packets : List PacketState) (forms : List PacketForm) (packet : PacketState) → Numbered n packets forms → Contains packets packet → IsNumbered n forms packet
numbered_in n [] forms packet is there = absurd (in_none packet there)
numbered_in n (p ∷ packets) [] packet is there = absurd is
numbered_in n (p ∷ packets) (f ∷ forms) packet is there = ⊎_elim
    (λ e. record { place = 0; form = f; number = omega (arith, is.0, ap (λ (q : PacketState). q.number) e); there = refl })
    (λ later.
    let rest = numbered_in (suc n) packets forms packet is.1 later in
    record { place = suc rest.place; form = rest.form; number = omega (arith, rest.number); there = rest.there })
    (in_cons p packet packets there)

zipped : (n : ℕ) (packets : List PacketState) (forms : List PacketForm) (pair : PacketState × PacketForm) → Numbered n packets forms → Contains (zip packets forms) pair
    → (place : ℕ) × (pair.0.number ≡ suc (n + place)) × (slice_get forms place ≡ Some pair.1) × Contains packets pair.0
zipped n [] [] pair is there = absurd (in_none pair there)
zipped n (p ∷ packets) (f ∷ forms) pair is there = ⊎_elim
    (λ e.
    let same : p ≡ pair.0 = ap (λ (q : PacketState × PacketForm). q.0) e in
    (0, omega (arith, is.0, ap (λ (q : PacketState). q.number) same), ap (λ (q : PacketState × PacketForm). Some q.1) e, subst (Contains (p ∷ packets)) same (in_head p packets)))
    (λ later.
    let rest = zipped (suc n) packets forms pair is.1 later in
    (suc rest.0, omega (arith, rest.1), rest.2, in_tail p pair.0 packets rest.3))
    (in_cons (p, f) pair (zip packets forms) there)
zipped n _ _ pair is there = absurd is

-- ---- the log

-- all that was ever submitted, by what is followed now and what the log counts
pub record AllEver (all forms : List PacketForm) (packets : List PacketState) (count : ℕ) : Type 0 where
  pub before : List PacketForm
  pub is : all ≡ before ++ forms
  pub numbered : Numbered (length before) packets forms
  pub count_is : count ≡ length before + length forms

abbrev pub Ever : List LogEntry → Type 0
Ever log = AllEver (forms_ever log) (forms_of log) (packets_of log) (submitted log)

open_keeps : (f : PacketState → PacketState) → ((p : PacketState) → (f p).number ≡ p.number) → (p : PacketState) → (while_open f p).number ≡ p.number
open_keeps f same p = grind (arith, same p)

pub all_keep : (sendings : List Sending) (p : PacketState) → (packet_after_all sendings p).number ≡ p.number
all_keep [] p = refl
all_keep (sending ∷ sendings) p = grind (arith, all_keep sendings (packet_after sending p))

-- the packets with other copies bear the same numbers
renumbered : {all forms : List PacketForm} {packets : List PacketState} {count : ℕ} (h : PacketState → PacketState)
    → ((p : PacketState) → (h p).number ≡ p.number) → AllEver all forms packets count → AllEver all forms (map h packets) count
renumbered {forms = forms} {packets = packets} h same e =
    record { before = e.before; is = e.is; numbered = numbered_map h same (length e.before) packets forms e.numbered; count_is = e.count_is }

pub ever : (log : List LogEntry) → Ever log
ever [] = record { before = []; is = refl; numbered = tt; count_is = refl }
ever (Submitted form ∷ log) =
    let rest = ever log in
    record {
      before = rest.before;
      is = ap (λ (fs : List PacketForm). fs ++ form ∷ []) rest.is ∙ append_assoc rest.before (forms_of log) (form ∷ []);
      numbered = numbered_more (length rest.before) (packets_of log) (forms_of log)
          (record { number = suc (submitted log); copies = [] }) form rest.numbered (omega (arith, rest.count_is));
      count_is = omega (arith, rest.count_is, length-append (forms_of log) (form ∷ []));
    }
ever (Appointed gateway ∷ log) = ever log
ever (Ticked sendings ∷ log) =
    renumbered (while_open (packet_after_all sendings)) (open_keeps (packet_after_all sendings) (all_keep sendings)) (ever log)
ever (Heard port gateway (Responds cause numbers) ∷ log) =
    renumbered (while_open (packet_hearing port gateway cause numbers))
    (open_keeps (packet_hearing port gateway cause numbers) (λ p. refl)) (ever log)
ever (Heard port gateway saying ∷ log) = ever log
ever (_ ∷ log) =
    let rest = ever log in
    record {
      before = forms_ever log;
      is = sym (append-nil (forms_ever log));
      numbered = tt;
      count_is = omega (arith, rest.count_is, ap length rest.is, length-append rest.before (forms_of log));
    }

-- what a packet sends stands among all that was ever submitted
module _ (log : List LogEntry) where
  pub ever_at : (e : Ever log) (place : ℕ) (form : PacketForm) (number : ℕ) → number ≡ suc (length e.before + place) → slice_get (forms_of log) place ≡ Some form
      → slice_get (forms_ever log) (number - 1) ≡ Some form
  ever_at e place form number is there = grind (arith, is, e.is, get_behind e.before (forms_of log) place)

  following_at : (f : Followed) → Contains (following log) f → (slice_get (forms_ever log) (f.state.number - 1) ≡ Some f.form) × (f.start ≡ starts_in log) × Contains (packets_of log) f.state
  following_at f is =
      let e = ever log in
      let there = of_map (λ p. record { start = starts_in log; state = p.0; form = p.1 }) (zip (packets_of log) (forms_of log)) f is in
      let found = zipped (length e.before) (packets_of log) (forms_of log) there.0 e.numbered there.1 in
      subst (λ (g : Followed). (slice_get (forms_ever log) (g.state.number - 1) ≡ Some g.form) × (g.start ≡ starts_in log) × Contains (packets_of log) g.state) there.2
      (ever_at e found.0 there.0.1 there.0.0.number found.1 found.2, refl, found.3)

-- ---- all that a node followed

-- what it sends was submitted, and it is of this start or one before
record IsFollowing (log : List LogEntry) (f : Followed) : Type 0 where
  form : slice_get (forms_ever log) (f.state.number - 1) ≡ Some f.form
  start : f.start ≤ starts_in log

is_following : (log : List LogEntry) (f : Followed) → Contains (following log) f → IsFollowing log f
is_following log f is = let there = following_at log f is in record { form = there.0; start = omega (arith, there.1) }

-- an entry more leaves it so
follows_on : (entry : LogEntry) (log : List LogEntry) (f : Followed) → IsFollowing log f → IsFollowing (entry ∷ log) f
follows_on Began log f is = record { form = is.form; start = omega (arith, is.start, starts_again log) }
follows_on (Submitted form) log f is = record {
  form = get_more (forms_ever log) (form ∷ []) (f.state.number - 1) f.form is.form;
  start = omega (arith, is.start, starts_same (Submitted form) log refl);
}
follows_on entry log f is = record { form = is.form; start = omega (arith, is.start, starts_same entry log refl) }

followed_here : (log : List LogEntry) (f : Followed) → (Contains (followed_before log) f → IsFollowing log f)
    → Contains (all_followed log) f → IsFollowing log f
followed_here log f before is = ⊎_elim before (is_following log f) (Contains-append_cases (followed_before log) (following log) f is)

followed_at : (log : List LogEntry) (f : Followed) → Contains (followed_before log) f → IsFollowing log f
followed_at [] f is = absurd (in_none f is)
followed_at (Began ∷ log) f is = follows_on Began log f (followed_here log f (followed_at log f) is)
followed_at (Halted ∷ log) f is = follows_on Halted log f (followed_here log f (followed_at log f) is)
followed_at (entry ∷ log) f is = follows_on entry log f (followed_at log f is)

pub all_followed_at : (log : List LogEntry) (f : Followed) → Contains (all_followed log) f
    → slice_get (forms_ever log) (f.state.number - 1) ≡ Some f.form
all_followed_at log f is = (followed_here log f (followed_at log f) is).form

-- of a node that runs, what it followed before is of earlier starts
pub earlier : (log : List LogEntry) (f : Followed) → runs log ≡ true → Contains (followed_before log) f → f.start < starts_in log
earlier [] f running is = absurd (in_none f is)
earlier (Began ∷ log) f running is = omega (arith, (followed_here log f (followed_at log f) is).start, starts_again log)
earlier (Halted ∷ log) f running is = absurd (cc)
earlier (entry ∷ log) f running is = omega (arith, earlier log f running is, starts_same entry log refl)

pub present_packet : (log : List LogEntry) (packet : PacketState) → runs log ≡ true → Contains (packets_in (starts_in log) log) packet → Contains (packets_of log) packet
present_packet log packet running is =
    let there = of_map (λ (f : Followed). f.state) (filter (λ f. f.start == starts_in log) (all_followed log)) packet is in
    let start = eqb-true there.0.start (starts_in log) (passed (λ (f : Followed). f.start == starts_in log) (all_followed log) there.0 there.1) in
    subst (Contains (packets_of log)) there.2
    (⊎_elim
    (λ old. absurd (omega (arith, earlier log there.0 running old, start)))
    (λ new. (following_at log there.0 new).2)
    (Contains-append_cases (followed_before log) (following log) there.0 (filtered (λ f. f.start == starts_in log) (all_followed log) there.0 there.1)))

-- ---- what was submitted stays

forms_more : (entry : LogEntry) (log : List LogEntry) → GrowsTo (forms_ever log) (forms_ever (entry ∷ log))
forms_more (Submitted form) log = on_with (forms_ever log) (form ∷ [])
forms_more _ log = on (forms_ever log)

pub forms_grow : (entries log : List LogEntry) → GrowsTo (forms_ever log) (forms_ever (logged entries log))
forms_grow [] log = on (forms_ever log)
forms_grow (entry ∷ entries) log = on_on (forms_ever log) (forms_ever (entry ∷ log)) (forms_ever (logged entries (entry ∷ log))) (forms_more entry log) (forms_grow entries (entry ∷ log))

-- the octets of packets are those of the packets of a log
pub record Values (values : ℕ → List ℕ) (forms : List PacketForm) : Type 0 where
  pub each : (number : ℕ) (form : PacketForm) → slice_get forms (number - 1) ≡ Some form → values number ≡ value_octets form

pub values_are : (log : List LogEntry) → Values (values_of log) (forms_ever log)
values_are log = record { each = λ number form there. ap (λ (o : Option PacketForm). option_map_or value_octets o []) there }

pub values_before : (values : ℕ → List ℕ) (forms more : List PacketForm) → GrowsTo forms more → Values values more → Values values forms
values_before values forms more goes are = record {
  each = λ number form there. are.each number form (subst (λ (fs : List PacketForm). slice_get fs (number - 1) ≡ Some form) (sym goes.is) (get_more forms goes.more (number - 1) form there));
}

-- what was submitted to the node in this place
abbrev pub forms_at : World → ℕ → List PacketForm
forms_at w q = forms_ever (log_at w q)

-- a call goes on with the log
abbrev Calls : (List LogEntry → Called) → Type 0
Calls call = (log : List LogEntry) → GrowsTo (forms_ever log) (forms_ever (call log).log)

call_grows : (gateways node : ℕ) (c : NodeCall) → Calls (called gateways node c)
call_grows gateways node c log = forms_grow (call_entries (node_value gateways node log) c) log

submit_grows : (gateways node : ℕ) (octets : List ℕ) → Calls (submitting gateways node octets)
submit_grows gateways node octets log = by (draft_of octets)
  where
    by : (o : Option PacketForm) → GrowsTo (forms_ever log) (forms_ever (submitting_form gateways node o log).log)
    by None = on (forms_ever log)
    by (Some form) = call_grows gateways node (call.Submit form) log

hear_grows : (gateways : ℕ) (m : Message) → Calls (delivered_to_node gateways m.node m)
hear_grows gateways m log = if_both (λ (done : Called). GrowsTo (forms_ever log) (forms_ever done.log)) (not (runs log) || is_expired_at_node log (node_value gateways m.node log) m)
    (on (forms_ever log)) (call_grows gateways m.node (call.Hear m.port (gateway_address m.gateway) m.octets) log)

-- a gateway's move submits nothing
none_submitted : PartsKeep (λ g moved. Unit {0})
none_submitted = assumption

turn_forms : (rules : Rules) (w : World) (t : Turn) (q : ℕ) → GrowsTo (forms_at w q) (forms_at (turn rules w t) q)
turn_forms rules w t q = turn_keeps {rules = rules} {w = w} {Q = λ place g moved. Unit {0}} {W = Goes} (record {
  parts = λ place. none_submitted;
  redirects = λ place cause to g. tt;
  fails = λ m there to g. tt;
  answers = λ m there to g sound fresh. tt;
  moves = λ place move any. map_known Goes (slice_get w.gateways place) (λ none. on (forms_at w q)) (λ g there. on (forms_at w q));
  submits = λ place packet. goes place (submitting (length w.gateways) place packet) (submit_grows (length w.gateways) place packet);
  ticks = λ place running. goes place (ticking (length w.gateways) place) (call_grows (length w.gateways) place call.Tick);
  halts = λ place. goes place (called (length w.gateways) place call.Halt) (call_grows (length w.gateways) place call.Halt);
  starts = λ place fewer. goes place (called (length w.gateways) place call.Start) (call_grows (length w.gateways) place call.Start);
  hears = λ m there from. goes m.node (delivered_to_node (length w.gateways) m.node m) (hear_grows (length w.gateways) m);
  same = on (forms_at w q);
  lost = λ v count grows. grows;
  later = λ now. on (forms_at w q);
}) t
  where
    Goes : World → Type 0
    Goes v = GrowsTo (forms_at w q) (forms_at v q)

    goes : (place : ℕ) (call : List LogEntry → Called) → Calls call → Goes (at_node w place call)
    goes place call grows = map_known Goes (slice_get w.nodes place) (λ none. on (forms_at w q))
        (λ log there. set_known w.nodes place (call log).log log there (λ k o. GrowsTo (forms_at w k) (forms_ever (log_or o)))
        (subst (λ (l : List LogEntry). GrowsTo (forms_ever l) (forms_ever (call log).log)) (sym (log_there w place log there)) (grows log)) (λ k apart. on (forms_at w k)) q)

pub turns_forms : (w : World) (later : List RuledTurn) (q : ℕ) → GrowsTo (forms_at w q) (forms_at (ruled_turns w later) q)
turns_forms w later q = turns_hold (λ (v : World). GrowsTo (forms_at w q) (forms_at v q)) w later (λ v t after is grows. on_on _ _ _ grows (turn_forms t.rules v t.turn q)) (on (forms_at w q))
