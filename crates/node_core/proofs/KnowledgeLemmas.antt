-- What a node knows within a start only grows, and rests on what it heard since its start.
use Rattle.std.proofs.Common.{◌≡◌, ℕ, ◌&&◌, true, false, List, [], ◌∷◌, ◌++◌, map, Option, option_map, refl, ap, inl, inr, ◌||◌, Bool, sym, arith}
use Rattle.node_core.proofs.Names.{All, All-from_recursion, AllByRecursion, and_from, and_parts, Appointed, Command, command_hearing, commanded, CommandGrows, Contains, copies_after, copy_hearing, copy_hearing_own, CopyGrows, eqb_tells, Extends, first_told, Heard, IfSome_then, is_filed, is_fulfilled, is_released, is_resolved, is_unknown, is_within_start, list_any, LogEntry, names, nat_tests, or_cases, or_left, or_right, Order, packet_after_all, packet_hearing, PacketCopy, PacketGrows, packets_of, PacketState, Port, Responds, Sending, Submitted, Ticked, told_if, Unknown, Verdict, while_open}
use Rattle.node_core.specs.declared.sending.Sending.TheVariants as send
use Rattle.node_core.specs.Resting.{AllRestOn, IsFulfilled, IsTold, RestsOn, since_start}
use Rattle.node_core.proofs.NodeLemmas.{after_all-number}
use Rattle.node_core.proofs.CaseLemmas.{after_all_keeps, either_commanded, either_hears, either_open, if_mapped, if_or, contains_more, each_map, each_push, each_weaker}

-- ---- longer lists

module _ {A : Type 0} (R : A → A → Type 0) where
  pub extends_itself : ((x : A) → R x x) → (xs : List A) → Extends R xs xs
  extends_itself same [] = tt
  extends_itself same (x ∷ xs) = (same x, extends_itself same xs)

  pub extends_push : ((x : A) → R x x) → (xs ys : List A) → Extends R xs (xs ++ ys)
  extends_push same [] ys = tt
  extends_push same (x ∷ xs) ys = (same x, extends_push same xs ys)

  pub extends_map : (f : A → A) → ((x : A) → R x (f x)) → (xs : List A) → Extends R xs (map f xs)
  extends_map f step [] = tt
  extends_map f step (x ∷ xs) = (step x, extends_map f step xs)

  pub extends_on : ((x y z : A) → R x y → R y z → R x z) → (xs ys zs : List A) → Extends R xs ys → Extends R ys zs → Extends R xs zs
  extends_on trans [] ys zs first second = tt
  extends_on trans (x ∷ xs) [] zs first second = absurd first
  extends_on trans (x ∷ xs) (y ∷ ys) [] first second = absurd second
  extends_on trans (x ∷ xs) (y ∷ ys) (z ∷ zs) first second =
      (trans x y z first.0 second.0, extends_on trans xs ys zs first.1 second.1)

-- ---- commands and copies

same_command : (command : Option Command) → CommandGrows command command
same_command command = grind arith

command_on : (one two three : Option Command) → CommandGrows one two → CommandGrows two three → CommandGrows one three
command_on one two three first second = grind (arith, first)

pub same_copy : (copy : PacketCopy) → CopyGrows copy copy
same_copy copy = record { gateway = refl; number = refl; is_plain = refl; verdict = λ known. refl; command = same_command copy.command }

copy_on : (one two three : PacketCopy) → CopyGrows one two → CopyGrows two three → CopyGrows one three
copy_on one two three first second = search (arith, first.verdict, command_on)

commanded_grows : (gateway : ℕ) (command : Command) (copy : PacketCopy) → CopyGrows copy (commanded gateway command copy)
commanded_grows gateway command copy = search (arith, either_commanded, same_copy)

first_stays : (verdict later : Verdict) → is_unknown verdict ≡ false → first_told verdict later ≡ verdict
first_stays verdict later known = grind arith

hearing_grows : (port : Port) (gateway cause : ℕ) (numbers : List ℕ) (copy : PacketCopy) → CopyGrows copy (copy_hearing port gateway cause numbers copy)
hearing_grows port gateway cause numbers copy = search (arith, either_hears, first_stays, same_copy, or_left)

-- ---- packets

pub same_copies : (copies : List PacketCopy) → Extends CopyGrows copies copies
same_copies = extends_itself CopyGrows same_copy

copies_grow : (sending : Sending) (copies : List PacketCopy) → Extends CopyGrows copies (copies_after sending copies)
copies_grow sending copies = grind (arith, extends_push, same_copy, extends_map, commanded_grows, same_copies)

pub after_all_grows : (sendings : List Sending) (packet : PacketState) → Extends CopyGrows packet.copies (packet_after_all sendings packet).copies
after_all_grows sendings packet =
    after_all_keeps (Extends CopyGrows packet.copies) sendings
    (λ sending there copies grows. extends_on CopyGrows copy_on packet.copies copies (copies_after sending copies) grows
    (copies_grow sending copies))
    packet (same_copies packet.copies)

-- ---- resolved and done

filed_known : (verdict : Verdict) → is_filed verdict ≡ true → is_unknown verdict ≡ false
filed_known verdict is = grind arith

released_stays : (copy after : PacketCopy) → CopyGrows copy after → is_released copy ≡ true → is_released after ≡ true
released_stays copy after grows = grind (arith, nat_tests, and_parts, and_from)

any_stays : (copies after : List PacketCopy) → Extends CopyGrows copies after → list_any is_released copies ≡ true → list_any is_released after ≡ true
any_stays [] after grows is = absurd (cc)
any_stays (copy ∷ copies) [] grows is = absurd grows
any_stays (copy ∷ copies) (first ∷ after) grows is =
    elim (or_cases (is_released copy) (list_any is_released copies) is) [
      | inl released ↦ or_left _ _ (released_stays copy first grows.0 released)
      | inr later ↦ or_right (is_released first) _ (any_stays copies after grows.1 later)
    ]

pub resolved_stays : (copies after : List PacketCopy) → Extends CopyGrows copies after → is_resolved copies ≡ true → is_resolved after ≡ true
resolved_stays [] after grows is = absurd (cc)
resolved_stays (plain ∷ duplicates) [] grows is = absurd grows
resolved_stays (plain ∷ duplicates) (first ∷ after) grows is =
    search (arith, or_cases, or_left, grows.0.verdict, filed_known, or_right, any_stays)

pub same_packet : (packet : PacketState) → PacketGrows packet packet
same_packet packet = record { number = refl; copies = same_copies packet.copies; resolved = λ is. is; done = λ is. is }

-- a packet that is changed while it is open
open_grows : (f : PacketState → PacketState) → ((packet : PacketState) → (f packet).number ≡ packet.number) →
    ((packet : PacketState) → Extends CopyGrows packet.copies (f packet).copies) → (packet : PacketState) → PacketGrows packet (while_open f packet)
open_grows f keeps grows packet = search (arith, either_open, same_packet, resolved_stays)

-- ---- one more entry

pub entry_grows : (entry : LogEntry) (log : List LogEntry) → is_within_start entry ≡ true →
    Extends PacketGrows (packets_of log) (packets_of (entry ∷ log))
entry_grows (Submitted form) log is = extends_push PacketGrows same_packet (packets_of log) _
entry_grows (Appointed gateway) log is = extends_itself PacketGrows same_packet (packets_of log)
entry_grows (Ticked sendings) log is = search (arith, extends_map, open_grows, after_all-number, after_all_grows)
entry_grows (Heard port gateway (Responds cause numbers)) log is =
    search (arith, extends_map, open_grows, hearing_grows)
entry_grows (Heard port gateway _) log is = extends_itself PacketGrows same_packet (packets_of log)
entry_grows _ log is = absurd (cc)

-- ---- each verdict, and each command that is answered, rests on a response

-- ---- one more entry

more_rests : (entry : LogEntry) (entries : List LogEntry) (copy : PacketCopy) → RestsOn entries copy → RestsOn (entry ∷ entries) copy
more_rests entry entries copy rests = record {
  verdict = search (arith, rests.verdict, contains_more);
  command = IfSome_then copy.command rests.command (λ c now answered.
      let is : IsFulfilled entries copy.gateway c.number = now answered in
      search (contains_more entries entry _ is.heard, is.named, is.tells));
}

-- all copies of a packet, by recursion
abbrev Each : List LogEntry → PacketState → Type 0
Each entries packet = AllByRecursion (RestsOn entries) packet.copies

more_each : (entry : LogEntry) (entries : List LogEntry) (packets : List PacketState) →
    AllByRecursion (Each entries) packets → AllByRecursion (Each (entry ∷ entries)) packets
more_each entry entries packets all = search (arith, each_weaker, more_rests)

-- what is said of a command of a copy at a gateway
abbrev CommandRests : List LogEntry → ℕ → Command → Type 0
CommandRests entries gateway command = command.is_answered ≡ true → IsFulfilled entries gateway command.number

-- ---- a tick

module _ (entries : List LogEntry) where
  commanded_rests : (order : Order) (number gateway : ℕ) (copy : PacketCopy) → RestsOn entries copy →
      RestsOn entries (commanded gateway (record { order = order; number = number; is_answered = false }) copy)
  commanded_rests order number gateway copy rests = search (arith, either_commanded, rests.verdict, if_or)

  copies_rest : (sending : Sending) (copies : List PacketCopy) → AllByRecursion (RestsOn entries) copies →
      AllByRecursion (RestsOn entries) (copies_after sending copies)
  copies_rest (send.Data packet gateway number is_plain true) copies all = search (arith, each_push)
  copies_rest (send.Command packet gateway named number order true) copies all =
      each_map (RestsOn entries) (RestsOn entries) _ (commanded_rests order number gateway) copies all
  copies_rest _ copies all = all

  open_rests : (f : PacketState → PacketState) → ((packet : PacketState) → Each entries packet → Each entries (f packet)) →
      (packets : List PacketState) → AllByRecursion (Each entries) packets →
      AllByRecursion (Each entries) (map (while_open f) packets)
  open_rests f step = each_map (Each entries) (Each entries) (while_open f)
      (λ packet each. either_open (Each entries) f packet each (λ _. step packet each))

-- ---- a response

module _ (port : Port) (gateway cause : ℕ) (numbers : List ℕ) (since : List LogEntry) where
  abbrev with_response : List LogEntry
  with_response = Heard port gateway (Responds cause numbers) ∷ since

  first : (place : ℕ) → place ≡ gateway → Contains with_response (Heard port place (Responds cause numbers))
  first place e = (0, omega arith, ap (λ (g : ℕ). Heard port g (Responds cause numbers)) (sym e))

  fulfilled_by : (place : ℕ) → place ≡ gateway → (command : Command) → CommandRests with_response place command →
      CommandRests with_response place (command_hearing cause numbers command)
  fulfilled_by place e command rests =
      λ is. by command.is_answered (is_fulfilled cause) (names numbers command.number) rests refl refl is
    where
      by : (answered fulfilled named : Bool) → (answered ≡ true → IsFulfilled with_response place command.number) →
          is_fulfilled cause ≡ fulfilled → names numbers command.number ≡ named →
          (answered || (fulfilled && named)) ≡ true → IsFulfilled with_response place command.number
      by true fulfilled named was is_f is_n is = was refl
      by false true true was is_f is_n is = search (first place e, is_n, is_f)
      by _ _ _ was is_f is_n is = absurd (cc)

  hears_own : (copy : PacketCopy) → copy.gateway ≡ gateway → RestsOn with_response copy → RestsOn with_response (copy_hearing_own port cause numbers copy)
  hears_own copy e rests = record {
    verdict = by copy.verdict rests.verdict;
    command = search (arith, if_mapped, IfSome_then, fulfilled_by);
  }
    where
      now_told : (named : Bool) → names numbers copy.number ≡ named → is_unknown (told_if named port copy.is_plain cause) ≡ false →
          IsTold with_response (record copy { verdict = told_if named port copy.is_plain cause; command = option_map (command_hearing cause numbers) copy.command })
      now_told true is_n known = search (first copy.gateway e, is_n)
      now_told false is_n known = absurd (cc)

      by : (verdict : Verdict) → (is_unknown verdict ≡ false → IsTold with_response (record copy { verdict = verdict })) →
          is_unknown (first_told verdict (told_if (names numbers copy.number) port copy.is_plain cause)) ≡ false →
          IsTold with_response (record copy {
            verdict = first_told verdict (told_if (names numbers copy.number) port copy.is_plain cause);
            command = option_map (command_hearing cause numbers) copy.command;
          })
      by Unknown was known = now_told (names numbers copy.number) refl known
      by _ was known = let is = was refl in search (is.heard, is.named, is.tells)

  hears : (copy : PacketCopy) → RestsOn with_response copy → RestsOn with_response (copy_hearing port gateway cause numbers copy)
  hears copy rests = search (arith, nat_tests, eqb_tells, hears_own)

-- ---- all logs

rests : (log : List LogEntry) → AllByRecursion (Each (since_start log)) (packets_of log)
rests (Submitted form ∷ log) = search (arith, each_push, more_each, (rests log))
rests (Appointed gateway ∷ log) = more_each _ (since_start log) (packets_of log) (rests log)
rests (Ticked sendings ∷ log) =
    let entries : List LogEntry = Ticked sendings ∷ since_start log in
    open_rests entries (packet_after_all sendings)
    (after_all_keeps (AllByRecursion (RestsOn entries)) sendings (λ sending there. copies_rest entries sending))
    (packets_of log) (more_each _ (since_start log) (packets_of log) (rests log))
rests (Heard port gateway (Responds cause numbers) ∷ log) =
    let entries : List LogEntry = Heard port gateway (Responds cause numbers) ∷ since_start log in
    open_rests entries (packet_hearing port gateway cause numbers)
    (λ packet. each_map (RestsOn entries) (RestsOn entries) (copy_hearing port gateway cause numbers)
    (hears port gateway cause numbers (since_start log)) packet.copies)
    (packets_of log) (more_each _ (since_start log) (packets_of log) (rests log))
rests (Heard port gateway _ ∷ log) = more_each _ (since_start log) (packets_of log) (rests log)
rests _ = tt

pub all_rest : (log : List LogEntry) → All (AllRestOn (since_start log)) (packets_of log)
all_rest log = search (arith, All-from_recursion, each_weaker, rests)
