-- The forms of lines, which their first words say, in each kind of script.
use Rattle.std.specs.Prelude.{ℕ, Bool, true, false, ◌||◌, if◌then◌else◌, List, Option, Some, None, Result, Ok, Err, codes}
use Rattle.std.specs.Option.{option_or}
use Rattle.std.specs.Str.{bytes_eq}
use Rattle.world_script.specs.declared.fault.InputKind.{InputKind}
use Rattle.world_script.specs.declared.fault.InputKind.TheVariants as kind
use Rattle.world_script.specs.declared.keyword.Keyword.{Keyword}
use Rattle.world_script.specs.declared.keyword.Keyword.TheVariants as keyword
use Rattle.world_script.specs.declared.kind.ScriptKind.{ScriptKind}
use Rattle.world_script.specs.declared.kind.ScriptKind.TheVariants as script

-- Each of these is the form of a line whose first word is this one.

-- in feeds and replays
abbrev pub shared_form : List ℕ → Option Keyword
shared_form word =
    if bytes_eq word (codes "at") then Some keyword.At
    else if bytes_eq word (codes "mark") then Some keyword.Mark
    else if bytes_eq word (codes "close") then Some keyword.Close
    else if bytes_eq word (codes "end") then Some keyword.End
    else if bytes_eq word (codes "reserve") then Some keyword.Reserve
    else if bytes_eq word (codes "limit") then Some keyword.Limit
    else if bytes_eq word (codes "offset") then Some keyword.Offset
    else if bytes_eq word (codes "profile") then Some keyword.Profile
    else if bytes_eq word (codes "rule") then Some keyword.Rule
    else None

-- in a feed
abbrev pub feed_form : List ℕ → Option Keyword
feed_form word = if bytes_eq word (codes "in") then Some keyword.In else None

-- in a replay: how many there are, nodes, and messages on their way
abbrev pub network_form : List ℕ → Option Keyword
network_form word =
    if bytes_eq word (codes "gateways") then Some keyword.Gateways
    else if bytes_eq word (codes "nodes") then Some keyword.Nodes
    else if bytes_eq word (codes "submit") then Some keyword.Submit
    else if bytes_eq word (codes "tick") then Some keyword.Tick
    else if bytes_eq word (codes "halt") then Some keyword.Halt
    else if bytes_eq word (codes "start") then Some keyword.Start
    else if bytes_eq word (codes "deliver") then Some keyword.Deliver
    else if bytes_eq word (codes "flow") then Some keyword.Flow
    else if bytes_eq word (codes "mix") then Some keyword.Mix
    else None

-- in a replay: gateways
abbrev pub gateway_form : List ℕ → Option Keyword
gateway_form word =
    if bytes_eq word (codes "commit") then Some keyword.Commit
    else if bytes_eq word (codes "write") then Some keyword.Write
    else if bytes_eq word (codes "redirect") then Some keyword.Redirect
    else if bytes_eq word (codes "stop") then Some keyword.Stop
    else if bytes_eq word (codes "open") then Some keyword.Open
    else if bytes_eq word (codes "arm") then Some keyword.Arm
    else if bytes_eq word (codes "fail") then Some keyword.Fail
    else if bytes_eq word (codes "armshelf") then Some keyword.ArmShelf
    else if bytes_eq word (codes "failshelf") then Some keyword.FailShelf
    else if bytes_eq word (codes "settle") then Some keyword.Settle
    else None

-- in the settings of a gateway that serves
abbrev pub serve_form : List ℕ → Option Keyword
serve_form word =
    if bytes_eq word (codes "end") then Some keyword.End
    else if bytes_eq word (codes "limit") then Some keyword.Limit
    else if bytes_eq word (codes "offset") then Some keyword.Offset
    else if bytes_eq word (codes "profile") then Some keyword.Profile
    else if bytes_eq word (codes "rule") then Some keyword.Rule
    else None

abbrev pub form_in : ScriptKind → List ℕ → Option Keyword
form_in script.Feed word = option_or (shared_form word) (feed_form word)
form_in script.Replay word = option_or (shared_form word) (option_or (network_form word) (gateway_form word))
form_in script.Serve word = serve_form word

-- a line that isn't built yet: a new journal on a new area
abbrev pub is_later : List ℕ → Bool
is_later word = bytes_eq word (codes "renew")

-- in a replay also: nodes with a journal of their own, standbys
abbrev pub is_later_in_replay : List ℕ → Bool
is_later_in_replay word =
    bytes_eq word (codes "store") || bytes_eq word (codes "nodestop") || bytes_eq word (codes "nodeopen")
    || bytes_eq word (codes "nodearm") || bytes_eq word (codes "nodefail")
    || bytes_eq word (codes "standby") || bytes_eq word (codes "ship") || bytes_eq word (codes "takeover")

abbrev pub is_later_in : ScriptKind → List ℕ → Bool
is_later_in script.Feed word = is_later word
is_later_in script.Replay word = is_later word || is_later_in_replay word
is_later_in script.Serve word = false

abbrev pub known : Option Keyword → Result Keyword InputKind
known None = Err kind.Word
known (Some form) = Ok form

-- the form of a line whose first word is this one, or why there is none
abbrev pub keyword_of : ScriptKind → List ℕ → Result Keyword InputKind
keyword_of of word = if is_later_in of word then Err kind.NotBuilt else known (form_in of word)

-- whether lines of this form are settings
abbrev pub is_setting : Keyword → Bool
is_setting keyword.Reserve = true
is_setting keyword.Limit = true
is_setting keyword.Offset = true
is_setting keyword.Profile = true
is_setting keyword.Rule = true
is_setting keyword.Gateways = true
is_setting keyword.Nodes = true
is_setting _ = false
