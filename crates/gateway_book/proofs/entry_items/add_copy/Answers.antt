use Rattle.std.proofs.Common.{◌≡◌, List, [], ℕ, OnOk, Option, ap, subst, sym, ◌∙◌, map}
use Rattle.gateway_book.proofs.Names.{entry_view, filed_under, gathered, option_map_or, part_of, present_key}
use Rattle.gateway_answer.specs.declared.filing.FiledRecord.{FiledRecord}
use Rattle.gateway_book.proofs.CursorLemmas.{released_in}
use Rattle.gateway_book.proofs.ItemsLemmas.{none_more}
use Rattle.gateway_book.proofs.entry_items.add_copy.Goals as goal

pub returns-in_default-held_packet-clause-items : goal.returns-in_default-held_packet-clause-items
returns-in_default-held_packet-clause-items g c = λ told before are.
    sym (ap (λ (records : List FiledRecord). gathered (map part_of records) c.args.into.now)
    (released_in c.args.node c.args.number c.args.moment c.in-Some.k (entry_view c.in-Ok.entry) are c.in-Some.ensures (c.in-Ok.ensures.entry told)
    ∙ ap (λ (packet : Option (List ℕ)). option_map_or (filed_under (present_key before c.args.node c.args.number) c.args.moment) packet [])
    (sym c.in_default-held_packet.ensures))
    ∙ none_more c.args.into.now)

pub returns-clause-items : goal.returns-clause-items
returns-clause-items g c = λ told before are.
    subst (λ (records : List FiledRecord). OnOk c.add_packet.result (c.add_packet.new.into ≡ gathered (map part_of records) c.args.into.now))
    (sym (released_in c.args.node c.args.number c.args.moment c.in-Some.k (entry_view c.in-Ok.entry) are c.in-Some.ensures (c.in-Ok.ensures.entry told)
    ∙ ap (λ (packet : Option (List ℕ)). option_map_or (filed_under (present_key before c.args.node c.args.number) c.args.moment) packet [])
    (sym c.in-Some-held_packet.ensures)))
    (c.add_packet.ensures.items (present_key before c.args.node c.args.number))
