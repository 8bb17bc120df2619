-- Which lines of a replay its world never refuses, as the lines before them say.
use Rattle.std.specs.Prelude.{ℕ, Bool, true, false, not, ◌&&◌, ◌==◌, nat_le, if◌then◌else◌, List, [], ◌∷◌, filter}
use Rattle.std.specs.List.{list_any}
use Rattle.world_script.specs.Script.{is_action_line, is_setting_line}
use Rattle.world_script.specs.declared.line.Line.{Line}
use Rattle.world_script.specs.declared.line.Line.TheVariants as line

-- what lines say of a world, in which no stop or failure is armed and no node halts: how many gateways and nodes it has,
-- the moment, and which gateways are stopped
pub record Scene : Type 0 where
  pub gateways : ℕ
  pub nodes : ℕ
  pub moment : ℕ
  pub stopped : List ℕ

-- before the first line
abbrev pub first_scene : Scene
first_scene = record { gateways = 1; nodes = 1; moment = 0; stopped = [] }

abbrev pub is_stopped : Scene → ℕ → Bool
is_stopped s gateway = list_any (λ g. g == gateway) s.stopped

abbrev pub has_node : Scene → ℕ → Bool
has_node s node = nat_le 1 node && nat_le node s.nodes

abbrev pub has_gateway : Scene → ℕ → Bool
has_gateway s gateway = nat_le 1 gateway && nat_le gateway s.gateways

-- the gateway is there and runs
abbrev pub has_running : Scene → ℕ → Bool
has_running s gateway = has_gateway s gateway && not (is_stopped s gateway)

-- The world surely takes the line: its moment isn't earlier, its node and its gateway are there, and a gateway runs where
-- it has to, and not where it opens. Lines that ask more of a world, of its messages, its nodes or what is armed, aren't
-- among them.
abbrev pub takes : Scene → Line → Bool
takes s line.Blank = true
takes s (line.Reserve length) = true
takes s (line.LimitRecords count) = true
takes s (line.LimitSize size) = true
takes s (line.LimitOpen seconds) = true
takes s (line.Offset minutes) = true
takes s (line.Profile profile) = true
takes s (line.Rule text) = true
takes s (line.Gateways count) = true
takes s (line.Nodes count) = true
takes s line.End = true
takes s (line.At moment) = nat_le s.moment moment
takes s (line.Mark gateway) = has_running s gateway
takes s (line.Close gateway) = has_running s gateway
takes s (line.Submit node format version records) = has_node s node
takes s (line.Tick node) = has_node s node
takes s line.Flow = true
takes s (line.Mix seed) = true
takes s (line.Commit gateway) = has_running s gateway
takes s (line.Write gateway) = has_running s gateway
takes s (line.Stop gateway) = has_running s gateway
takes s (line.Open gateway) = has_gateway s gateway && is_stopped s gateway
takes s line.Settle = true
takes s _ = false

-- what is said after the line
abbrev pub after_line : Scene → Line → Scene
after_line s (line.Gateways count) = record s { gateways = count }
after_line s (line.Nodes count) = record s { nodes = count }
after_line s (line.At moment) = record s { moment = moment }
after_line s (line.Stop gateway) = record s { stopped = gateway ∷ s.stopped }
after_line s (line.Open gateway) = record s { stopped = filter (λ g. not (g == gateway)) s.stopped }
after_line s line.Settle = record s { stopped = [] }
after_line s line.End = record s { stopped = [] }
after_line s _ = s

-- the world surely takes each of these lines
abbrev pub takes_all : Scene → List Line → Bool
takes_all s [] = true
takes_all s (said ∷ lines) = takes s said && takes_all (after_line s said) lines

-- settings stand before all other lines
abbrev pub are_settings_first : List Line → Bool
are_settings_first [] = true
are_settings_first (said ∷ lines) =
    if is_action_line said then not (list_any is_setting_line lines) else are_settings_first lines
