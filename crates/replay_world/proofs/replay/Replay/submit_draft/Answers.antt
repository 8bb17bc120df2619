use Rattle.std.proofs.Common.{◌≡◌, ◌∙◌, refl, sym, ap, ◌<◌, false, ◌++◌, length, arith}
use Rattle.replay_world.proofs.Names.{is_without_records, le-ltb, lt-ltb, most_submissions, notice_line, on_ok_weaker, submit_fault_name, Took}
use Rattle.gw_base.specs.declared.packet.PacketId.{PacketId}
use Rattle.replay_world.proofs.NodeEventLemmas.{no_node_beyond}
use Rattle.replay_world.proofs.NodeSubmitLemmas.{emptied, full, refused, submitted, node_running}
use Rattle.replay_world.proofs.RefusalLemmas.{reason_there, reason_told, read_at}
use Rattle.replay_world.proofs.replay.Replay.submit_draft.Goals as goal

pub returns-then-is_empty : goal.returns-then-is_empty
returns-then-is_empty c = λ v number stands is none read.
    emptied v _ _ _ stands none (sym c.is_empty.ensures ∙ c.if-is_empty.true)

pub returns-then-index-len : goal.returns-then-index-len
returns-then-index-len c = λ v number stands is none read.
    no_node_beyond _ stands is none
    (omega (arith, c.if-index-len.true, c.len.ensures, c.from-index.ensures, c.args.self.now.nodes.ok.0))

pub returns-then-not-runs : goal.returns-then-not-runs
returns-then-not-runs c = λ v number stands is none read.
    let has = read_at _ c.from-index.ensures
    (omega (arith, c.if-index-len.false, c.len.ensures, c.args.self.now.nodes.ok.0)) c.index.ensures in
    cc (node_running v _ _ _ _ stands is none has, c.runs.ensures, c.if-not-runs.true)

pub returns-then-counts-ge-MOST_SUBMISSIONS : goal.returns-then-counts-ge-MOST_SUBMISSIONS
returns-then-counts-ge-MOST_SUBMISSIONS c = λ v number stands is none read.
    let has = read_at _ c.from-index.ensures
    (omega (arith, c.if-index-len.false, c.len.ensures, c.args.self.now.nodes.ok.0)) c.index-2.ensures in
    let some : is_without_records c.args.draft ≡ false = sym c.is_empty.ensures ∙ c.if-is_empty.false in
    let packets : c.counts.result.packets ≡ c.index-2.result.now.submissions = cc c.counts.ensures in
    full v _ _ _ _ stands is none has _ _ (read some) c.a_node_stands_for_its_log.ensures _
    (le-ltb c.index-2.result.now.submissions most_submissions (omega (arith, c.if-counts-ge-MOST_SUBMISSIONS.true)))

pub returns : goal.returns
returns c = λ v number stands is none read.
    let within : c.from-index.result < length c.args.self.now.nodes.items =
    omega (arith, c.if-index-len.false, c.len.ensures, c.args.self.now.nodes.ok.0) in
    let has = read_at _ c.from-index.ensures within c.index_mut.ensures.value in
    let some : is_without_records c.args.draft ≡ false = sym c.is_empty.ensures ∙ c.if-is_empty.false in
    let has_counted = read_at _ c.from-index.ensures within c.index-2.ensures in
    let one : c.index-2.result.now ≡ c.index_mut.result.now = cc in
    let packets : c.counts.result.packets ≡ c.index_mut.result.now.submissions = cc c.counts.ensures in
    on_ok_weaker _
    (λ told. submitted v _ _ _ _ stands is none has _ _ (read some) c.a_node_stands_for_its_log.ensures _ _
    c.in-Ok.ensures.unrefused (lt-ltb c.index_mut.result.now.submissions most_submissions (omega arith)) refl
    (cc (c.from-index.ensures, c.in-Ok.ensures.node))
    (told
    ∙ ap (λ k. c.args.out.now ++ notice_line (Took c.args.place k))
    (ap (λ (p : PacketId). p.number) c.in-Ok.ensures.taken))) c.print_took.ensures

pub returns-in-Err : goal.returns-in-Err
returns-in-Err c = λ v number stands is none read.
    let old = c.args.self.now in
    let n = c.index_mut.result.now in
    let within : c.from-index.result < length old.nodes.items = omega (arith, c.if-index-len.false, c.len.ensures) in
    let has = read_at _ c.from-index.ensures within c.index_mut.ensures.value in
    let some : is_without_records c.args.draft ≡ false = sym c.is_empty.ensures ∙ c.if-is_empty.false in
    let has_counted = read_at _ c.from-index.ensures within c.index-2.ensures in
    let one : c.index-2.result.now ≡ n = cc in
    let packets : c.counts.result.packets ≡ n.submissions = cc c.counts.ensures in
    on_ok_weaker _ (λ told.
    let own = reason_there _ _ c.submit_fault_name.ensures.own told in
    let text = reason_told _ (λ m. m.now) (submit_fault_name c.in-Err.fault) c.args.out.now c.refuse.new.out
    c.submit_fault_name.ensures.name told in
    refused v _ _ n old stands is none has _ _ (read some) c.a_node_stands_for_its_log.ensures _ _
    (sym c.in-Err.ensures.refused ∙ own) (lt-ltb n.submissions most_submissions (omega arith)) refl
    (cc (c.from-index.ensures, c.in-Err.ensures.unchanged)) text) c.refuse.ensures
