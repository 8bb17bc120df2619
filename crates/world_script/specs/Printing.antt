-- The text of a script.
use Rattle.std.specs.Prelude.{◌≡◌, ℕ, ◌+◌, ◌-◌, ◌/◌, ◌%◌, nat_le, if◌then◌else◌, List, [], ◌∷◌, ◌++◌, length, take, map, Option, Some, None, ℤ, pos, negsuc, suc, Ok, codes}
use Rattle.std.specs.Fmt.{decimal}
use Rattle.std.specs.List.{flat_map}
use Rattle.gw_base.specs.declared.address.Addr.{Addr}
use Rattle.hex.specs.Hex.{encode_upper}
use Rattle.world_script.specs.Script.{most_text, script_in}
use Rattle.world_script.specs.declared.kind.ScriptKind.{ScriptKind}
use Rattle.world_script.specs.declared.kind.ScriptKind.TheVariants as script
use Rattle.world_script.specs.declared.line.Line.{Line}
use Rattle.world_script.specs.declared.line.Line.TheVariants as line
use Rattle.world_script.specs.declared.mode.Mode.{Mode}
use Rattle.world_script.specs.declared.mode.Mode.TheVariants as mode

-- The words that say a value. Octets are in upper case.

-- a number below 100, in two digits
abbrev pub two_digits_text : ℕ → List ℕ
two_digits_text n = (48 + n / 10) ∷ (48 + n % 10) ∷ []

abbrev pub hours_text : ℕ → List ℕ
hours_text minutes = two_digits_text (minutes / 60) ++ 58 ∷ two_digits_text (minutes % 60)

-- `+HH:MM` or `-HH:MM`
abbrev pub offset_text : ℤ → List ℕ
offset_text (pos minutes) = 43 ∷ hours_text minutes
offset_text (negsuc n) = 45 ∷ hours_text (suc n)

-- four numbers with a dot between two, a colon and the port
abbrev pub pair_text : ℕ → ℕ → List ℕ
pair_text first second = decimal first ++ 46 ∷ decimal second

abbrev pub address_text : Addr → List ℕ
address_text a =
    pair_text (a.ip / 16777216) (a.ip / 65536 % 256) ++ codes "." ++ pair_text (a.ip / 256 % 256) (a.ip % 256)
    ++ 58 ∷ decimal a.port

abbrev pub version_text : ℕ → List ℕ
version_text version = encode_upper (version / 256 ∷ version % 256 ∷ [])

abbrev pub mode_text : Mode → List ℕ
mode_text mode.Old = codes "old"
mode_text mode.New = codes "new"
mode_text mode.Rot = codes "rot"

-- Lines, without the line feed.

-- words, each after a space
abbrev pub words_text : List (List ℕ) → List ℕ
words_text words = flat_map (λ word. 32 ∷ word) words

-- `NAME`, `NAME N` and `NAME N M`
abbrev pub one_number : List ℕ → ℕ → List ℕ
one_number name n = name ++ words_text (decimal n ∷ [])

abbrev pub two_numbers : List ℕ → ℕ → ℕ → List ℕ
two_numbers name n m = name ++ words_text (decimal n ∷ decimal m ∷ [])

abbrev pub armed_text : List ℕ → ℕ → ℕ → Mode → List ℕ
armed_text name gateway call mode = two_numbers name gateway call ++ words_text (mode_text mode ∷ [])

-- the number of the gateway in a replay; elsewhere there is one, which isn't named
abbrev pub gateway_text : ScriptKind → List ℕ → ℕ → List ℕ
gateway_text script.Feed name gateway = name
gateway_text script.Replay name gateway = one_number name gateway
gateway_text script.Serve name gateway = name

abbrev pub redirect_text : ℕ → ℕ → Option ℕ → List ℕ
redirect_text gateway cause None = two_numbers (codes "redirect") gateway cause
redirect_text gateway cause (Some to) = two_numbers (codes "redirect") gateway cause ++ words_text (decimal to ∷ [])

-- what a line says, in a script of this kind: a comment is left out, and a rule is as it stood
abbrev pub line_text : ScriptKind → Line → List ℕ
line_text of line.Blank = []
line_text of (line.Reserve length) = one_number (codes "reserve") length
line_text of (line.LimitRecords count) = one_number (codes "limit records") count
line_text of (line.LimitSize size) = one_number (codes "limit size") size
line_text of (line.LimitOpen seconds) = one_number (codes "limit open") seconds
line_text of (line.Offset minutes) = codes "offset" ++ words_text (offset_text minutes ∷ [])
line_text of (line.Profile profile) = one_number (codes "profile") profile
line_text of (line.Rule text) = text
line_text of (line.Gateways count) = one_number (codes "gateways") count
line_text of (line.Nodes count) = one_number (codes "nodes") count
line_text of line.End = codes "end"
line_text of (line.At moment) = one_number (codes "at") moment
line_text of (line.Datagram from octets) = codes "in" ++ words_text (address_text from ∷ encode_upper octets ∷ [])
line_text of (line.Mark gateway) = gateway_text of (codes "mark") gateway
line_text of (line.Close gateway) = gateway_text of (codes "close") gateway
line_text of (line.Submit node format version records) =
    two_numbers (codes "submit") node format ++ words_text (version_text version ∷ map encode_upper records)
line_text of (line.Tick node) = one_number (codes "tick") node
line_text of (line.Halt node) = one_number (codes "halt") node
line_text of (line.Start node) = one_number (codes "start") node
line_text of (line.Deliver message) = one_number (codes "deliver") message
line_text of line.Flow = codes "flow"
line_text of (line.Mix seed) = one_number (codes "mix") seed
line_text of (line.Commit gateway) = one_number (codes "commit") gateway
line_text of (line.Write gateway) = one_number (codes "write") gateway
line_text of (line.Redirect gateway cause to) = redirect_text gateway cause to
line_text of (line.Stop gateway) = one_number (codes "stop") gateway
line_text of (line.Open gateway) = one_number (codes "open") gateway
line_text of (line.Arm gateway call mode) = armed_text (codes "arm") gateway call mode
line_text of (line.Fail gateway call) = two_numbers (codes "fail") gateway call
line_text of (line.ArmShelf gateway call mode) = armed_text (codes "armshelf") gateway call mode
line_text of (line.FailShelf gateway call) = two_numbers (codes "failshelf") gateway call
line_text of line.Settle = codes "settle"

-- lines, each with a line feed
abbrev pub lines_text : ScriptKind → List Line → List ℕ
lines_text of lines = flat_map (λ said. line_text of said ++ 10 ∷ []) lines

-- the last line feed is left out where a text would be too long by it
abbrev pub fitted : List ℕ → List ℕ
fitted text = if nat_le (length text) most_text then text else take (length text - 1) text

-- the text of a script of this kind
abbrev pub printed : ScriptKind → List Line → List ℕ
printed of lines = fitted (lines_text of lines)

-- the text of these lines is that of a script of this kind, and has these lines
abbrev pub ReadsBack : ScriptKind → List Line → Type 0
ReadsBack of lines = script_in of (printed of lines) ≡ Ok lines
