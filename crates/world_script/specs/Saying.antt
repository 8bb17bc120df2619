-- What the lines of a script say.
use Rattle.std.specs.Prelude.{ℕ, ◌&&◌, nat_lt, if◌then◌else◌, List, [], ◌∷◌, Option, Some, None, is_some, Result, Ok, Err, codes}
use Rattle.std.specs.Option.{ok_or}
use Rattle.std.specs.Str.{bytes_eq}
use Rattle.route_filter.specs.Rules.{most_rules, rule_of}
use Rattle.route_filter.specs.Words.{cut_at, is_empty, number_up_to, octets_in, octets_of, ◌>>=◌}
use Rattle.world_script.specs.Values.{address_of, mode_of, number_between, number_of, offset_of, records_of, version_of}
use Rattle.world_script.specs.declared.keyword.Keyword.{Keyword}
use Rattle.world_script.specs.declared.keyword.Keyword.TheVariants as keyword
use Rattle.world_script.specs.declared.kind.ScriptKind.{ScriptKind}
use Rattle.world_script.specs.declared.kind.ScriptKind.TheVariants as script
use Rattle.world_script.specs.declared.line.Line.{Line}
use Rattle.world_script.specs.declared.line.Line.TheVariants as line
use Rattle.world_script.specs.declared.mode.Mode.{Mode}
use Rattle.world_script.specs.declared.fault.InputKind.{InputKind}
use Rattle.world_script.specs.declared.fault.InputKind.TheVariants as kind

-- the next word is in its form and range, or the line is refused for it
abbrev pub read_then : {A : Type 0} → InputKind → Option A → (A → Result Line InputKind) → Result Line InputKind
read_then refusal None later = Err refusal
read_then refusal (Some x) later = later x

-- the line of a word that is in its form and range, else this kind of refusal
abbrev pub read_or : {A : Type 0} → InputKind → (A → Line) → Option A → Result Line InputKind
read_or refusal of None = Err refusal
read_or refusal of (Some x) = Ok (of x)

-- the last second of the year 2099
abbrev pub last_moment : ℕ
last_moment = 4102444799

-- The words after the first, for each form of line. A fault is that of the first faulty word.

-- a line that is one word
abbrev pub word_said : Line → List (List ℕ) → Result Line InputKind
word_said said [] = Ok said
word_said said (word ∷ words) = Err kind.Arity

-- the line of what is said, else its refusal
abbrev pub said_as : {A : Type 0} → (A → Line) → Result A InputKind → Result Line InputKind
said_as of (Err refusal) = Err refusal
said_as of (Ok x) = Ok (of x)

-- one number: a gateway, a node, a message or a seed
abbrev pub one_number : List (List ℕ) → Result ℕ InputKind
one_number (number ∷ []) = ok_or (number_of number) kind.Number
one_number _ = Err kind.Arity

-- one number in a range
abbrev pub one_between : ℕ → ℕ → List (List ℕ) → Result ℕ InputKind
one_between least most (number ∷ []) = ok_or (number_between least most number) kind.Number
one_between least most _ = Err kind.Arity

-- in a replay one number says which gateway; elsewhere there is one, which isn't named
abbrev pub one_gateway : ScriptKind → List (List ℕ) → Result ℕ InputKind
one_gateway script.Feed [] = Ok 1
one_gateway script.Feed (word ∷ words) = Err kind.Arity
one_gateway script.Replay words = one_number words
one_gateway script.Serve [] = Ok 1
one_gateway script.Serve (word ∷ words) = Err kind.Arity

-- `at N`
abbrev pub at_said : List (List ℕ) → Result Line InputKind
at_said (seconds ∷ []) = read_or kind.Number line.At (number_up_to last_moment seconds)
at_said _ = Err kind.Arity

-- `in IP:PORT HEX..`: the octets of all words, joined
abbrev pub datagram_said : List ℕ → List (List ℕ) → Result Line InputKind
datagram_said from words =
    read_then kind.Number (address_of from) (λ sender. read_or kind.Hex (line.Datagram sender) (octets_of words))

abbrev pub in_said : List (List ℕ) → Result Line InputKind
in_said (from ∷ word ∷ words) = datagram_said from (word ∷ words)
in_said _ = Err kind.Arity

-- what stands before the first space behind `in ` at the beginning of a line, and what follows it
abbrev pub behind_in : List ℕ → Option (List ℕ × List ℕ)
behind_in (i ∷ n ∷ space ∷ rest) = if bytes_eq (i ∷ n ∷ space ∷ []) (codes "in ") then cut_at 32 rest else None
behind_in _ = None

-- the datagram of a line `in IP:PORT HEX`, where one space stands before each of its last two words
abbrev pub one_datagram : List ℕ → Option Line
one_datagram content = do
  parts ← behind_in content
  word ← if is_empty parts.1 then None else Some parts.1
  from ← address_of parts.0
  octets ← octets_in word
  Some (line.Datagram from octets)

-- `limit records N`, `limit size N`, `limit open N`
abbrev pub limit_on : List ℕ → List ℕ → Result Line InputKind
limit_on what number =
    if bytes_eq what (codes "records") then read_or kind.Number line.LimitRecords (number_between 1 1000000 number)
    else if bytes_eq what (codes "size") then read_or kind.Number line.LimitSize (number_between 1 1000000000 number)
    else if bytes_eq what (codes "open") then read_or kind.Number line.LimitOpen (number_between 1 1000000 number)
    else Err kind.Number

abbrev pub limit_said : List (List ℕ) → Result Line InputKind
limit_said (what ∷ number ∷ []) = limit_on what number
limit_said _ = Err kind.Arity

-- `offset +HH:MM` or `offset -HH:MM`
abbrev pub offset_said : List (List ℕ) → Result Line InputKind
offset_said (offset ∷ []) = read_or kind.Number line.Offset (offset_of offset)
offset_said _ = Err kind.Arity

-- a line that is a rule, where there are not as many before it as there may be
abbrev pub ruled : ℕ → List ℕ → Result Line InputKind
ruled rules content = if nat_lt rules most_rules && is_some (rule_of content) then Ok (line.Rule content) else Err kind.Rule

-- `rule TAG FORMAT STREAM`
abbrev pub rule_said : ℕ → List ℕ → List (List ℕ) → Result Line InputKind
rule_said rules content (tag ∷ format ∷ stream ∷ []) = ruled rules content
rule_said rules content _ = Err kind.Arity

-- `submit N FORMAT VERSION HEX..`: a record in each word
abbrev pub packet_said : List ℕ → List ℕ → List ℕ → List (List ℕ) → Result Line InputKind
packet_said node format version words =
    read_then kind.Number (number_of node) (λ node. read_then kind.Number (number_up_to 255 format) (λ format.
    read_then kind.Hex (version_of version) (λ version. read_or kind.Hex (line.Submit node format version) (records_of words))))

abbrev pub submit_said : List (List ℕ) → Result Line InputKind
submit_said (node ∷ format ∷ version ∷ word ∷ words) = packet_said node format version (word ∷ words)
submit_said _ = Err kind.Arity

-- `redirect G CAUSE`, `redirect G CAUSE H`: a cause of a request, 59 to 63
abbrev pub redirect_on : List ℕ → List ℕ → Result Line InputKind
redirect_on gateway cause =
    read_then kind.Number (number_of gateway) (λ gateway.
    read_or kind.Number (λ cause. line.Redirect gateway cause None) (number_between 59 63 cause))

abbrev pub redirect_to : List ℕ → List ℕ → List ℕ → Result Line InputKind
redirect_to gateway cause to =
    read_then kind.Number (number_of gateway) (λ gateway. read_then kind.Number (number_between 59 63 cause) (λ cause.
    read_or kind.Number (λ to. line.Redirect gateway cause (Some to)) (number_of to)))

abbrev pub redirect_said : List (List ℕ) → Result Line InputKind
redirect_said (gateway ∷ cause ∷ []) = redirect_on gateway cause
redirect_said (gateway ∷ cause ∷ to ∷ []) = redirect_to gateway cause to
redirect_said _ = Err kind.Arity

-- which call from now on, from 1
abbrev pub call_of : List ℕ → Option ℕ
call_of word = number_between 1 18446744073709551615 word

-- `arm G K MODE`, or `armshelf G K MODE` of a shelf
abbrev pub arm_on : (ℕ → ℕ → Mode → Line) → List ℕ → List ℕ → List ℕ → Result Line InputKind
arm_on arms gateway call mode =
    read_then kind.Number (number_of gateway) (λ gateway. read_then kind.Number (call_of call) (λ call.
    read_or kind.Number (arms gateway call) (mode_of mode)))

abbrev pub arm_said : (ℕ → ℕ → Mode → Line) → List (List ℕ) → Result Line InputKind
arm_said arms (gateway ∷ call ∷ mode ∷ []) = arm_on arms gateway call mode
arm_said arms _ = Err kind.Arity

-- `fail G K`, or `failshelf G K` of a shelf
abbrev pub fail_on : (ℕ → ℕ → Line) → List ℕ → List ℕ → Result Line InputKind
fail_on fails gateway call =
    read_then kind.Number (number_of gateway) (λ gateway. read_or kind.Number (fails gateway) (call_of call))

abbrev pub fail_said : (ℕ → ℕ → Line) → List (List ℕ) → Result Line InputKind
fail_said fails (gateway ∷ call ∷ []) = fail_on fails gateway call
fail_said fails _ = Err kind.Arity

-- what a line of this form says, by its words after the first, where so many rules stand before it
abbrev pub said_by : ScriptKind → Keyword → ℕ → List ℕ → List (List ℕ) → Result Line InputKind
said_by of keyword.At rules content words = at_said words
said_by of keyword.In rules content words = in_said words
said_by of keyword.Mark rules content words = said_as line.Mark (one_gateway of words)
said_by of keyword.Close rules content words = said_as line.Close (one_gateway of words)
said_by of keyword.End rules content words = word_said line.End words
said_by of keyword.Reserve rules content words = said_as line.Reserve (one_between 100 268435456 words)
said_by of keyword.Limit rules content words = limit_said words
said_by of keyword.Offset rules content words = offset_said words
said_by of keyword.Profile rules content words = said_as line.Profile (one_between 1 2 words)
said_by of keyword.Rule rules content words = rule_said rules content words
said_by of keyword.Gateways rules content words = said_as line.Gateways (one_between 1 8 words)
said_by of keyword.Nodes rules content words = said_as line.Nodes (one_between 1 16 words)
said_by of keyword.Submit rules content words = submit_said words
said_by of keyword.Tick rules content words = said_as line.Tick (one_number words)
said_by of keyword.Halt rules content words = said_as line.Halt (one_number words)
said_by of keyword.Start rules content words = said_as line.Start (one_number words)
said_by of keyword.Deliver rules content words = said_as line.Deliver (one_number words)
said_by of keyword.Flow rules content words = word_said line.Flow words
said_by of keyword.Mix rules content words = said_as line.Mix (one_number words)
said_by of keyword.Commit rules content words = said_as line.Commit (one_number words)
said_by of keyword.Write rules content words = said_as line.Write (one_number words)
said_by of keyword.Redirect rules content words = redirect_said words
said_by of keyword.Stop rules content words = said_as line.Stop (one_number words)
said_by of keyword.Open rules content words = said_as line.Open (one_number words)
said_by of keyword.Arm rules content words = arm_said line.Arm words
said_by of keyword.Fail rules content words = fail_said line.Fail words
said_by of keyword.ArmShelf rules content words = arm_said line.ArmShelf words
said_by of keyword.FailShelf rules content words = fail_said line.FailShelf words
said_by of keyword.Settle rules content words = word_said line.Settle words
