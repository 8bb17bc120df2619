use Rattle.std.proofs.Common.{◌∙◌, ap, sym, subst, List}
use Rattle.world_script.proofs.Names.{Extent, first_scene, Line, ReadsBack, Replay, ScriptValue, takes_all}
use Rattle.world_script.proofs.SampleGrammar.{sample_reads}
use Rattle.world_script.proofs.SampleLemmas.{sample_parts}
use Rattle.world_script.proofs.SampleTaken.{sample_taken}
use Rattle.world_script.proofs.samples.sample.Goals as goal

pub from_lines-requires : goal.from_lines-requires
from_lines-requires c =
    let e : Extent = record { nodes = c.args.nodes; gateways = c.args.gateways; packets = c.args.packets } in
    subst (λ (lines : List Line). ReadsBack Replay lines)
    (sym (sample_parts c.args.seed e c.seed_from_u64-rng.result c.new-lines.result.items _ _ _ c.seed_from_u64-rng.ensures c.new-lines.ensures.items
    c.in_ok-push_opening.ensures c.in_ok-push_blocks.ensures c.in_ok-push.ensures.items))
    (sample_reads c.args.seed e c.requires.nodes.0 c.requires.nodes.1 c.requires.gateways.0 c.requires.gateways.1 c.requires.packets.1)

pub returns : goal.returns
returns c =
    let e : Extent = record { nodes = c.args.nodes; gateways = c.args.gateways; packets = c.args.packets } in
    let is = sample_parts c.args.seed e c.seed_from_u64-rng.result c.new-lines.result.items _ _ _ c.seed_from_u64-rng.ensures c.new-lines.ensures.items
    c.in_ok-push_opening.ensures c.in_ok-push_blocks.ensures c.in_ok-push.ensures.items in
    record {
      is = c.from_lines.ensures ∙ ap (λ (lines : List Line). record { kind = Replay; lines = lines }) is;
      taken = ap (λ (s : ScriptValue). takes_all first_scene s.lines) c.from_lines.ensures ∙ ap (takes_all first_scene) is ∙ sample_taken c.args.seed e;
    }
