-- What a node knows of a copy of a packet (3GPP TS 32.295, clause 5.2: duplicated packets). The first copy of a
-- packet is plain, and each later one is sent as possibly duplicated. The first response that tells something of a
-- copy decides.
use Rattle.std.specs.Prelude.{ℕ, Bool, true, false, ◌==◌, ◌||◌, ◌&&◌, if◌then◌else◌, List, None, option_map}
use Rattle.std.specs.List.{list_any}
use Rattle.std.specs.Option.{option_map_or}
use Rattle.gw_base.specs.declared.cause.TheConstants.{ACCEPTED, ALREADY_FULFILLED, DUPLICATE_ALREADY_FULFILLED}
use Rattle.node_core.specs.declared.copy.Command.{Command}
use Rattle.node_core.specs.declared.copy.Order.{Order}
use Rattle.node_core.specs.declared.copy.Order.TheVariants.{Release, Cancel}
use Rattle.node_core.specs.declared.copy.PacketCopy.{PacketCopy}
use Rattle.node_core.specs.declared.copy.Verdict.{Verdict}
use Rattle.node_core.specs.declared.copy.Verdict.TheVariants.{Unknown, Filed, Sealed, Held}
use Rattle.node_core.specs.declared.port.Port.{Port}
use Rattle.node_core.specs.declared.port.Port.TheVariants.{First, Second}

-- ---- what a response tells

-- the cause of a release or a cancel that is fulfilled, now or before, and of a possible duplicate that is held
abbrev pub is_fulfilled : ℕ → Bool
is_fulfilled cause = (cause == ACCEPTED) || (cause == DUPLICATE_ALREADY_FULFILLED)

-- the cause of a plain copy that is filed, now or before
abbrev pub is_filing : ℕ → Bool
is_filing cause = (cause == ACCEPTED) || (cause == ALREADY_FULFILLED)

-- What a response with this cause tells of a copy, plain or not, at the port from which the request went: the copy goes
-- from the first, the test of it from the second. All other causes tell nothing of it.
abbrev pub told : Port → Bool → ℕ → Verdict
told First true cause = if is_filing cause then Filed else Unknown
told First false cause = if is_fulfilled cause then Held else Unknown
told Second true cause = if cause == ALREADY_FULFILLED then Filed else if cause == ACCEPTED then Sealed else Unknown
told Second false cause =
    if cause == DUPLICATE_ALREADY_FULFILLED then Held else if cause == ACCEPTED then Sealed else Unknown

-- the first verdict that says something
abbrev pub first_told : Verdict → Verdict → Verdict
first_told Unknown later = later
first_told Filed later = Filed
first_told Sealed later = Sealed
first_told Held later = Held

-- a response speaks for a number where it names it
abbrev pub names : List ℕ → ℕ → Bool
names numbers number = list_any (λ n. n == number) numbers

-- a release or a cancel after a response from its gateway, at either port
abbrev pub command_hearing : ℕ → List ℕ → Command → Command
command_hearing cause numbers command =
    record command { is_answered = command.is_answered || (is_fulfilled cause && names numbers command.number) }

-- what is told of a copy that the response names, or not
abbrev pub told_if : Bool → Port → Bool → ℕ → Verdict
told_if true port is_plain cause = told port is_plain cause
told_if false port is_plain cause = Unknown

-- a copy after a response from its gateway
abbrev pub copy_hearing_own : Port → ℕ → List ℕ → PacketCopy → PacketCopy
copy_hearing_own port cause numbers copy = record copy {
  verdict = first_told copy.verdict (told_if (names numbers copy.number) port copy.is_plain cause);
  command = option_map (command_hearing cause numbers) copy.command;
}

-- a copy after a response from a gateway
abbrev pub copy_hearing : Port → ℕ → ℕ → List ℕ → PacketCopy → PacketCopy
copy_hearing port gateway cause numbers copy =
    if copy.gateway == gateway then copy_hearing_own port cause numbers copy else copy

-- ---- what is known of a copy

-- nothing is known, it is filed, sealed, held
abbrev pub is_unknown : Verdict → Bool
is_unknown Unknown = true
is_unknown Filed = false
is_unknown Sealed = false
is_unknown Held = false

abbrev pub is_filed : Verdict → Bool
is_filed Unknown = false
is_filed Filed = true
is_filed Sealed = false
is_filed Held = false

abbrev pub is_sealed : Verdict → Bool
is_sealed Unknown = false
is_sealed Filed = false
is_sealed Sealed = true
is_sealed Held = false

abbrev pub is_held : Verdict → Bool
is_held Unknown = false
is_held Filed = false
is_held Sealed = false
is_held Held = true

-- the release or the cancel that was sent for it is fulfilled
abbrev pub is_answered : PacketCopy → Bool
is_answered copy = option_map_or (λ (command : Command). command.is_answered) copy.command false

abbrev pub is_release : Order → Bool
is_release Release = true
is_release Cancel = false

-- a release was sent for it
abbrev pub is_chosen : PacketCopy → Bool
is_chosen copy = option_map_or (λ (command : Command). is_release command.order) copy.command false

-- a release of it is fulfilled
abbrev pub is_released : PacketCopy → Bool
is_released copy = is_chosen copy && is_answered copy

-- a possible duplicate is out of the way: sealed, released or cancelled
abbrev pub is_settled : PacketCopy → Bool
is_settled copy = is_sealed copy.verdict || is_answered copy

-- a copy as it is first sent
abbrev pub new_copy : ℕ → ℕ → Bool → PacketCopy
new_copy gateway number is_plain =
    record { gateway = gateway; number = number; is_plain = is_plain; verdict = Unknown; command = None }
