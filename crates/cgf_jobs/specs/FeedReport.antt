-- What `feed` prints: the reply to each datagram, then what a replay reports of its first gateway, with the settings of
-- the script: the CDR files of the records, and the gateway's counts.
use Rattle.std.specs.Prelude.{ℕ, ◌+◌, ◌*◌, length, nat_lt, Bool, false, if◌then◌else◌, List, [], ◌∷◌, ◌++◌, Option, Some, None, codes}
use Rattle.hex.specs.Hex.{encode_upper}
use Rattle.cdr_shelf.specs.Files.{SealedFile}
use Rattle.gateway_answer.specs.Answer.{Decided, Says, Silent}
use Rattle.gateway_answer.specs.Items.{items_of}
use Rattle.gateway_answer.specs.Value.{standing_for}
use Rattle.gtpp_message.specs.Names.{name_of}
use Rattle.gtpp_message.specs.declared.reading.Why.{Why}
use Rattle.gw_base.specs.declared.history.HistoryEntry.{HistoryEntry}
use Rattle.replay_gateway.specs.GatewayReport.{gateway_report}
use Rattle.replay_gateway.specs.Setup.{Setup, setup_of}
use Rattle.world_script.specs.declared.line.Line.{Line}
use Rattle.world_script.specs.declared.line.Line.TheVariants as line
use Rattle.cgf_jobs.specs.Gateway.{GatewayValue, after_close, after_datagram, after_tick, answered, new_gateway}

-- The lines of a script, one after the other.

-- the gateway, and the present moment
pub record FeedState : Type 0 where
  pub gateway : GatewayValue
  pub now : ℕ

-- before the first line
abbrev pub begun : Setup → FeedState
begun setup = record { gateway = new_gateway setup.size setup.limits.open_time; now = 0 }

-- after a line; a setting, an empty line and the `end` do nothing
abbrev pub after_line : FeedState → Line → FeedState
after_line s (line.At moment) = record s { now = moment }
after_line s (line.Datagram from octets) = record s { gateway = after_datagram s.gateway s.now from octets }
after_line s (line.Mark gateway) = record s { gateway = after_tick s.gateway s.now }
after_line s (line.Close gateway) = record s { gateway = after_close s.gateway s.now }
after_line s _ = s

-- octets in hexadecimal, as a line
abbrev pub octets_line : List ℕ → List ℕ
octets_line octets = encode_upper octets ++ 10 ∷ []

-- how many octets the lines of files have: `file 1 `, a name of 17, a space, two digits an octet and a line feed
abbrev pub lines_size : List SealedFile → ℕ
lines_size [] = 0
lines_size (file ∷ files) = 2 * length file.octets + 26 + lines_size files

-- the line of a datagram that isn't answered
abbrev pub drop_line : Why → List ℕ
drop_line why = codes "- " ++ name_of why ++ 10 ∷ []

-- the reply to a datagram, or why it isn't answered
abbrev pub reply_line : Decided → List ℕ
reply_line (Silent why) = drop_line why
reply_line (Says octets act) = octets_line octets

-- what is printed for a line: for a datagram what is answered to it, and nothing for all else
abbrev pub printed_for : FeedState → Line → List ℕ
printed_for s (line.Datagram from octets) = reply_line (answered s.gateway from octets)
printed_for s _ = []

-- The end: a Close closes all files that are open, and what a replay reports of its first gateway is printed.
abbrev pub end_lines : Setup → List HistoryEntry → List ℕ
end_lines setup h = gateway_report setup 0 (items_of h) (standing_for h)

-- The whole script.

-- whether a line sets a moment before the present one
abbrev pub is_earlier : ℕ → Line → Bool
is_earlier now (line.At moment) = nat_lt moment now
is_earlier now _ = false

-- what is printed for lines, and the number of the first that can't be run, where there is one
pub record Fed : Type 0 where
  pub printed : List ℕ
  pub refused : Option ℕ

-- a line's print in front of that of the later lines
abbrev pub with_print : List ℕ → Fed → Fed
with_print printed later = record { printed = printed ++ later.printed; refused = later.refused }

-- The lines are run from the one with this number on, up to the first that sets an earlier moment; where none does, the
-- feed comes to its end.
abbrev pub fed_from : Setup → ℕ → FeedState → List Line → Fed
fed_from setup place s [] =
    record { printed = end_lines setup (after_close s.gateway s.now).history; refused = None }
fed_from setup place s (l ∷ lines) =
    if is_earlier s.now l then record { printed = []; refused = Some place }
    else with_print (printed_for s l) (fed_from setup (place + 1) (after_line s l) lines)

-- what is printed for the lines of a script
abbrev pub fed_of : List Line → Fed
fed_of lines = let setup = setup_of lines in fed_from setup 1 (begun setup) lines
