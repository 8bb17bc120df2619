-- The packets of each start of a node only grow, and what it may send goes on being of them.
use Rattle.std.proofs.Common.{◌≡◌, ⊎_elim, ℕ, suc, ◌==◌, Bool, true, false, if◌then◌else◌, List, [], ◌∷◌, ◌++◌, length, map, zip, filter, Option, Some, None, Contains, refl, sym, ap, subst, ◌∙◌, arith, length-append}
use Rattle.once_core.proofs.Names.{AnyHasCopyAt, append-nil, Appointed, Asks, Began, Command, CommandGrows, cond-false, cond-true, Contains-append_right, CopyGrows, eq-eqb, eqb-true, Extends, filter-append, Followed, followed_before, following, forms_of, Halted, Heard, is_within_start, length-map, Letter, LogEntry, map-append, MaySend, Meaning, Order, Orders, packet_after_all, packet_hearing, PacketCopy, PacketForm, PacketGrows, packets_in, packets_of, PacketState, Port, Responds, Saying, Sends, starts_in, Submitted, submitted, Tests, Ticked, while_open}
use Rattle.std.proofs.lemmas.Slice.Zip.{firsts-zip}
use Rattle.once_core.proofs.ListLemmas.{in_cons, in_head, in_none, in_tail}
use Rattle.once_core.proofs.LogLemmas.{starts_same}
use Rattle.once_core.proofs.CaseLemmas.{by_bool}

-- ---- lists that grow

record GoesOn {A : Type 0} (R : A → A → Type 0) (ys : List A) (x : A) : Type 0 where
  later : A
  among : Contains ys later
  grows : R x later

goes_on : {A : Type 0} (R : A → A → Type 0) (xs ys : List A) → Extends R xs ys → (x : A) → Contains xs x → GoesOn R ys x
goes_on R [] ys grows x is = in_none x is
goes_on R (first ∷ xs) [] grows x is = absurd grows
goes_on {A} R (first ∷ xs) (next ∷ ys) grows x is = ⊎_elim
    (λ e. record { later = next; among = in_head next ys; grows = subst (λ (z : A). R z next) e grows.0 })
    (λ behind.
    let on = goes_on R xs ys grows.1 x behind in
    record { later = on.later; among = in_tail next on.later ys on.among; grows = on.grows })
    (in_cons first x xs is)

extends_itself : {A : Type 0} (R : A → A → Type 0) → ((x : A) → R x x) → (xs : List A) → Extends R xs xs
extends_itself R same [] = tt
extends_itself R same (x ∷ xs) = (same x, extends_itself R same xs)

extends_behind : {A : Type 0} (R : A → A → Type 0) → ((x : A) → R x x) → (front xs ys : List A) → Extends R xs ys → Extends R (front ++ xs) (front ++ ys)
extends_behind R same [] xs ys grows = grows
extends_behind R same (x ∷ front) xs ys grows = (same x, extends_behind R same front xs ys grows)

same_command : (command : Option Command) → CommandGrows command command
same_command None = tt
same_command (Some command) = (refl, refl, λ is. is)

same_copy : (copy : PacketCopy) → CopyGrows copy copy
same_copy copy = record { gateway = refl; number = refl; is_plain = refl; verdict = λ known. refl; command = same_command copy.command }

same_packet : (packet : PacketState) → PacketGrows packet packet
same_packet packet = record { number = refl; copies = extends_itself CopyGrows same_copy packet.copies; resolved = λ is. is; done = λ is. is }

-- ---- what may be sent goes on

abbrev pub command_now : Order → ℕ → Bool → Command
command_now order number answered = record { order = order; number = number; is_answered = answered }

command_on : (copy later : PacketCopy) (order : Order) (number : ℕ) (answered : Bool) → CopyGrows copy later → copy.command ≡ Some (command_now order number answered) →
    (answered_now : Bool) × (later.command ≡ Some (command_now order number answered_now))
command_on copy later order number answered grows is =
    by later.command (subst (λ (o : Option Command). CommandGrows o later.command) is grows.command)
  where
    by : (there : Option Command) → CommandGrows (Some (command_now order number answered)) there →
        (answered_now : Bool) × (there ≡ Some (command_now order number answered_now))
    by None grown = absurd grown
    by (Some command) grown = (command.is_answered, λ i. Some (command_now (grown.0 i) (grown.1 i) command.is_answered))

record CopyOn (after : List PacketState) (gateway number packet : ℕ) (copy : PacketCopy) : Type 0 where
  now : AnyHasCopyAt after gateway number
  packet_is : now.packet.number ≡ packet
  grows : CopyGrows copy now.copy

copy_on : (packets after : List PacketState) (gateway number : ℕ) → Extends PacketGrows packets after → (at : AnyHasCopyAt packets gateway number) →
    CopyOn after gateway number at.packet.number at.copy
copy_on packets after gateway number grows at =
    let packet = goes_on PacketGrows packets after grows at.packet at.kept in
    let copy = goes_on CopyGrows at.packet.copies packet.later.copies packet.grows.copies at.copy at.among in
    record {
      now = record {
        packet = packet.later;
        kept = packet.among;
        copy = copy.later;
        among = copy.among;
        gateway_is = copy.grows.gateway ∙ at.gateway_is;
        number_is = copy.grows.number ∙ at.number_is;
      };
      packet_is = packet.grows.number;
      grows = copy.grows;
    }

pub may_send_on : (packets after : List PacketState) (values : ℕ → List ℕ) (letter : Letter) (says : Meaning) → Extends PacketGrows packets after →
    MaySend packets values letter says → MaySend after values letter says
may_send_on packets after values letter (Asks (Sends is_plain octets)) grows is =
    let on = copy_on packets after letter.gateway letter.number grows is.1.at in
    (is.0, record { at = on.now; plain = on.grows.is_plain ∙ is.1.plain; packet = ap values on.packet_is ∙ is.1.packet })
may_send_on packets after values letter (Asks Tests) grows is = (is.0, (copy_on packets after letter.gateway letter.number grows is.1).now)
may_send_on packets after values letter (Asks (Orders order named)) grows is =
    let on = copy_on packets after letter.gateway named grows is.2.at in
    let command = command_on is.2.at.copy on.now.copy order letter.number is.1 on.grows is.2.sent in
    (is.0, command.0, record { at = on.now; sent = command.1 })
may_send_on packets after values letter _ grows is = tt

copy_behind : (front packets : List PacketState) (gateway number : ℕ) → AnyHasCopyAt packets gateway number → AnyHasCopyAt (front ++ packets) gateway number
copy_behind front packets gateway number at = record {
  packet = at.packet;
  kept = Contains-append_right front packets at.packet at.kept;
  copy = at.copy;
  among = at.among;
  gateway_is = at.gateway_is;
  number_is = at.number_is;
}

pub may_send_behind : (front packets : List PacketState) (values : ℕ → List ℕ) (letter : Letter) (says : Meaning) → MaySend packets values letter says →
    MaySend (front ++ packets) values letter says
unfolding copy_behind
may_send_behind front packets values letter (Asks (Sends is_plain octets)) is =
    (is.0, record { at = copy_behind front packets letter.gateway letter.number is.1.at; plain = is.1.plain; packet = is.1.packet })
may_send_behind front packets values letter (Asks Tests) is = (is.0, copy_behind front packets letter.gateway letter.number is.1)
may_send_behind front packets values letter (Asks (Orders order named)) is =
    (is.0, is.1, record { at = copy_behind front packets letter.gateway named is.2.at; sent = is.2.sent })
may_send_behind front packets values letter _ is = tt

-- ---- the packets of a start

abbrev pub states_at : ℕ → List Followed → List PacketState
states_at start followed = map (λ (p : Followed). p.state) (filter (λ (p : Followed). p.start == start) followed)

states_append : (start : ℕ) (one two : List Followed) → states_at start (one ++ two) ≡ states_at start one ++ states_at start two
states_append start one two =
    ap (λ (ps : List Followed). map (λ (p : Followed). p.state) ps) (filter-append (λ (p : Followed). p.start == start) one two)
    ∙ map-append (λ (p : Followed). p.state) (filter (λ (p : Followed). p.start == start) one) (filter (λ (p : Followed). p.start == start) two)

abbrev followed_one : ℕ → PacketState × PacketForm → Followed
followed_one start z = record { start = start; state = z.0; form = z.1 }

-- those of one start are all of the start that is asked for, or none is
states_as : (start other : ℕ) (zs : List (PacketState × PacketForm))
    → states_at start (map (followed_one other) zs) ≡ (if other == start then map (λ (z : PacketState × PacketForm). z.0) zs else [])
states_as start other [] = grind arith
states_as start other (z ∷ zs) = grind (arith, states_as start other zs)

as_many_heard : (port : Port) (gateway : ℕ) (saying : Saying) (log : List LogEntry) → length (forms_of log) ≡ length (packets_of log) →
    length (forms_of log) ≡ length (packets_of (Heard port gateway saying ∷ log))
as_many_heard port gateway (Responds cause numbers) log same = same ∙ sym (length-map (packets_of log) (while_open (packet_hearing port gateway cause numbers)))
as_many_heard port gateway _ log same = same

as_many_forms : (log : List LogEntry) → length (forms_of log) ≡ length (packets_of log)
as_many_forms (Submitted form ∷ log) =
    omega (arith, as_many_forms log, length-append (forms_of log) (form ∷ []), length-append (packets_of log) (record { number = suc (submitted log); copies = [] } ∷ []))
as_many_forms (Appointed gateway ∷ log) = as_many_forms log
as_many_forms (Ticked sendings ∷ log) = as_many_forms log ∙ sym (length-map (packets_of log) (while_open (packet_after_all sendings)))
as_many_forms (Heard port gateway saying ∷ log) = as_many_heard port gateway saying log (as_many_forms log)
as_many_forms _ = refl

pub in_present : (start : ℕ) (log : List LogEntry) → starts_in log ≡ start → packets_in start log ≡ states_at start (followed_before log) ++ packets_of log
in_present start log is =
    states_append start (followed_before log) (following log)
    ∙ ap (λ (ps : List PacketState). states_at start (followed_before log) ++ ps)
    (states_as start (starts_in log) (zip (packets_of log) (forms_of log)) ∙ cond-true (starts_in log == start) _ _ (eq-eqb (starts_in log) start is)
    ∙ firsts-zip (packets_of log) (forms_of log) (as_many_forms log))

pub in_other : (start : ℕ) (log : List LogEntry) → (starts_in log == start) ≡ false → packets_in start log ≡ states_at start (followed_before log)
in_other start log isnt =
    states_append start (followed_before log) (following log)
    ∙ ap (λ (ps : List PacketState). states_at start (followed_before log) ++ ps)
    (states_as start (starts_in log) (zip (packets_of log) (forms_of log)) ∙ cond-false (starts_in log == start) _ _ isnt)
    ∙ append-nil (states_at start (followed_before log))

-- ---- one more entry

pub began_same : (start : ℕ) (log : List LogEntry) → packets_in start (Began ∷ log) ≡ packets_in start log
began_same start log = ap (states_at start) (append-nil (followed_before log ++ following log))

pub halted_same : (start : ℕ) (log : List LogEntry) → packets_in start (Halted ∷ log) ≡ packets_in start log
halted_same start log = ap (states_at start) (append-nil (followed_before log ++ following log))

pub starts_within : (entry : LogEntry) (log : List LogEntry) → is_within_start entry ≡ true → starts_in (entry ∷ log) ≡ starts_in log
starts_within Began log is = absurd (cc)
starts_within entry log is = starts_same entry log refl

pub before_within : (entry : LogEntry) (log : List LogEntry) → is_within_start entry ≡ true → followed_before (entry ∷ log) ≡ followed_before log
before_within Began log is = absurd (cc)
before_within Halted log is = absurd (cc)
before_within _ log is = refl

-- within a start the packets of another one stay
pub other_same : (start : ℕ) (entry : LogEntry) (log : List LogEntry) → is_within_start entry ≡ true → (starts_in log == start) ≡ false →
    packets_in start (entry ∷ log) ≡ packets_in start log
other_same start entry log is isnt =
    in_other start (entry ∷ log) (ap (λ (n : ℕ). n == start) (starts_within entry log is) ∙ isnt)
    ∙ ap (states_at start) (before_within entry log is) ∙ sym (in_other start log isnt)

abbrev pub Grows : Type 0
Grows = (entry : LogEntry) (log : List LogEntry) → is_within_start entry ≡ true → Extends PacketGrows (packets_of log) (packets_of (entry ∷ log))

-- within a start the packets of each start grow
pub packets_grow : Grows → (start : ℕ) (entry : LogEntry) (log : List LogEntry) → is_within_start entry ≡ true →
    Extends PacketGrows (packets_in start log) (packets_in start (entry ∷ log))
packets_grow grow start entry log is = by_bool (λ b. Extends PacketGrows (packets_in start log) (packets_in start (entry ∷ log))) (starts_in log == start)
    (λ e.
    let at = eqb-true (starts_in log) start e in
    let after = in_present start (entry ∷ log) (starts_within entry log is ∙ at)
    ∙ ap (λ (ps : List Followed). states_at start ps ++ packets_of (entry ∷ log)) (before_within entry log is) in
    subst (λ (ps : List PacketState). Extends PacketGrows ps (packets_in start (entry ∷ log))) (sym (in_present start log at))
    (subst (Extends PacketGrows (states_at start (followed_before log) ++ packets_of log)) (sym after)
    (extends_behind PacketGrows same_packet (states_at start (followed_before log)) (packets_of log) (packets_of (entry ∷ log)) (grow entry log is))))
    (λ e. subst (Extends PacketGrows (packets_in start log)) (sym (other_same start entry log is e)) (extends_itself PacketGrows same_packet (packets_in start log)))
