use Rattle.std.proofs.Common.{◌≡◌, List, OnOk, ap, subst}
use Rattle.gateway_book.proofs.Names.{act_view, entry_view, gathered, Item, present_key}
use Rattle.gateway_book.proofs.ItemsLemmas.{file_items, release_items}
use Rattle.gateway_book.proofs.entry_items.add_items.Goals as goal

pub returns-in-File-clause-items : goal.returns-in-File-clause-items
returns-in-File-clause-items g c = λ told before are once.
    subst (λ (items : List Item). OnOk c.add_packet.result (c.add_packet.new.into ≡ gathered items c.args.into.now))
    (file_items before (entry_view c.args.entry.now) c.in-File.node c.in-File.number c.in-File.packet.now (ap act_view c.in-File.is))
    (c.add_packet.ensures.items (present_key before c.in-File.node c.in-File.number))

pub returns-in-Release-clause-items : goal.returns-in-Release-clause-items
returns-in-Release-clause-items g c = λ told before are once.
    subst (λ (items : List Item). OnOk c.add_copies.result (c.add_copies.new.into ≡ gathered items c.args.into.now))
    (release_items before (entry_view c.args.entry.now) c.in-Release.node c.in-Release.numbers.now (ap act_view c.in-Release.is) once)
    (c.add_copies.ensures.items told before are)
