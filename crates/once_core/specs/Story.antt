-- A story in which a node follows the procedure: its packet comes to a gateway, is filed and answered.
use Rattle.std.specs.Prelude.{ℕ, true, List, [], ◌∷◌, None}
use Rattle.gateway_answer.specs.Answered.{no_caller}
use Rattle.node_core.specs.Packets.{PacketState}
use Rattle.node_core.specs.declared.copy.Verdict.TheVariants.{Filed}
use Rattle.node_core.specs.declared.port.Port.TheVariants.{First}
use Rattle.once_core.specs.Happenings.{Asks, Comes, Firms, Happening, Hears, Letter, Opens, node_at}
use Rattle.once_core.specs.Epochs.{times_with}
use Rattle.once_core.specs.Scenes.{scene_after}
use Rattle.once_core.specs.Happenings as happens

-- one record of one octet, 9, in a format that isn't read
abbrev pub one_packet : List ℕ
one_packet = 1 ∷ 2 ∷ 0 ∷ 0 ∷ 0 ∷ 1 ∷ 9 ∷ []

-- what node 5 sends to gateway 0 in its first start
abbrev pub first_letter : Letter
first_letter = record { node = 5; start = 1; gateway = 0; port = First; number = 65536; says = Asks (happens.Sends true one_packet) }

abbrev pub one_story : List Happening
one_story =
    Opens 0 (node_at 5) 40001 1 0 no_caller
    ∷ happens.Sends first_letter
    ∷ Comes 0 (λ act. true) 0 no_caller
    ∷ Firms 0
    ∷ Hears 1
    ∷ []

-- what the node knows then
abbrev pub one_known : List PacketState
one_known = record {
  number = 1;
  copies = record { gateway = 0; number = 65536; is_plain = true; verdict = Filed; command = None } ∷ [];
} ∷ []

-- how often its record is filed
abbrev pub times_of_one : ℕ
times_of_one = times_with 5 1 65536 0 ((scene_after one_story).posts 0).firm
