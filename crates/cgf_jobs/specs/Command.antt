-- What the words ask the program for, and how much of its input a command can make use of.
use Rattle.std.specs.Prelude.{ℕ, ◌≤◌, ◌==◌, ◌+◌, ◌^◌, Bool, true, false, if◌then◌else◌, List, [], ◌∷◌, Option, Some, None, option_and_then, option_map, codes}
use Rattle.std.specs.Str.{bytes_eq}
use Rattle.route_filter.specs.Words.{number_up_to}
use Rattle.world_script.specs.Script.{most_text}
use Rattle.cgf_jobs.specs.Words.{is_option}
use Rattle.world_script.specs.declared.extent.Extent.{Extent}
use Rattle.cgf_jobs.specs.declared.command.Command.{Command}
use Rattle.cgf_jobs.specs.declared.command.Command.TheVariants.{Feed, Show, Replay, Sample, Drill}
use Rattle.cgf_jobs.specs.declared.command.Seeded.{Seeded}

-- the command with a name that has a file
abbrev pub command_named : List ℕ → Option Command
command_named name =
    if bytes_eq name (codes "feed") then Some Feed
    else if bytes_eq name (codes "show") then Some Show
    else if bytes_eq name (codes "replay") then Some Replay
    else None

-- Numbers are in decimal, without a sign and without a zero before another digit.

-- the greatest seed
abbrev pub last_seed : ℕ
last_seed = 18446744073709551615

-- a number from 1 to the most that there may be
abbrev pub counted : ℕ → List ℕ → Option ℕ
counted most word = option_and_then (λ n. if n == 0 then None else Some n) (number_up_to most word)

-- the script that words say by a seed, of so many nodes, gateways and packets
abbrev pub seeded_of : List ℕ → List ℕ → List ℕ → List ℕ → Option Seeded
seeded_of seed nodes gateways packets =
    option_and_then (λ s. option_and_then (λ n. option_and_then (λ g. option_map
    (λ p. record { seed = s; nodes = n; gateways = g; packets = p }) (counted 20000 packets)) (counted 8 gateways))
    (counted 16 nodes)) (number_up_to last_seed seed)

-- the command with a name that has a seed
abbrev pub seeded_named : List ℕ → Seeded → Option Command
seeded_named name seeded =
    if bytes_eq name (codes "sample") then Some (Sample seeded)
    else if bytes_eq name (codes "drill") then Some (Drill seeded)
    else None

-- the command that the words ask for, if they are of its form: its name, and a file or numbers
abbrev pub command_of : List (List ℕ) → Option Command
command_of (name ∷ file ∷ []) = if is_option file then None else command_named name
command_of (name ∷ seed ∷ nodes ∷ gateways ∷ packets ∷ []) =
    option_and_then (seeded_named name) (seeded_of seed nodes gateways packets)
command_of _ = None

-- Which numbers a seed's script has.
pub record IsExtent (of : Seeded) : Type 0 where
  pub some_nodes : 1 ≤ of.nodes
  pub most_nodes : of.nodes ≤ 16
  pub some_gateways : 1 ≤ of.gateways
  pub most_gateways : of.gateways ≤ 8
  pub some_packets : 1 ≤ of.packets
  pub most_packets : of.packets ≤ 20000

abbrev pub IsWithin : Command → Type 0
IsWithin Feed = Unit {0}
IsWithin Show = Unit {0}
IsWithin Replay = Unit {0}
IsWithin (Sample of) = IsExtent of
IsWithin (Drill of) = IsExtent of

abbrev pub extent_of : Seeded → Extent
extent_of of = record { nodes = of.nodes; gateways = of.gateways; packets = of.packets }

-- How many octets of an input are read at most: one more than the longest script has, or than the length field of a CDR
-- file can say; a command that has a seed has no input.
abbrev pub most_read : Command → ℕ
most_read Feed = most_text + 1
most_read Show = 2 ^ 32
most_read Replay = most_text + 1
most_read (Sample of) = 0
most_read (Drill of) = 0

abbrev pub has_input : Command → Bool
has_input Feed = true
has_input Show = true
has_input Replay = true
has_input (Sample of) = false
has_input (Drill of) = false
