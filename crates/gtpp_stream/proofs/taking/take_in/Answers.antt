use Rattle.std.proofs.Common.{ℕ, ◌∙◌, ap, length, min}
use Rattle.gtpp_header.specs.Reading.{header_reading}
use Rattle.gtpp_stream.specs.Taking.{lack_of}
use Rattle.gtpp_stream.proofs.TakingLemmas.{takes_both}
use Rattle.gtpp_stream.proofs.taking.take_in.Goals as goal

pub returns-clause-takes : goal.returns-clause-takes
returns-clause-takes c =
    let piece = c.args.piece.now in
    let rest = c.split_at.result.1.now in
    takes_both c.args.octets.now.items piece c.append-head.new.octets.items rest c.append.new.octets.items c.append-head.result c.append.result c.requires.begun c.requires.good
    (c.append-head.ensures.count
    ∙ ap (λ (k : ℕ). min k (length piece)) (c.lack-lacking.ensures.value ∙ (λ i. lack_of (header_reading (c.deref.ensures.value i)) (length (c.deref.ensures.value i)))))
    c.append-head.ensures.items c.split_at.ensures.back
    (c.append.ensures.count
    ∙ ap (λ (k : ℕ). min k (length rest)) (c.lack-lacking-2.ensures.value ∙ (λ i. lack_of (header_reading (c.deref-2.ensures.value i)) (length (c.deref-2.ensures.value i)))))
    c.append.ensures.items
