use Rattle.std.proofs.Common.{refl, ◌∙◌}
use Rattle.cgf_journal.specs.Trail.{firm_length}
use Rattle.gateway_book.proofs.StandingLemmas.{items_after, stands_moved}
use Rattle.gateway_book.proofs.cursor.items_from.Goals as goal

pub gather-requires : goal.gather-requires
gather-requires g c = record { within = c.rewind.ensures.within (firm_length c.args.trail.now) c.requires.within }

pub returns-in_err-gather-clause-at : goal.returns-in_err-gather-clause-at
returns-in_err-gather-clause-at g c = λ told h stands. c.gather.ensures.at told h (stands_moved (c.rewind.ensures.at h) stands)

pub returns-clause-items : goal.returns-clause-items
returns-clause-items g c = λ told h stands.
    let moved = stands_moved (c.rewind.ensures.at h) stands in
    c.into_items.ensures.items
    ∙ c.in_ok-gather.ensures.gathered told h moved
    ∙ items_after moved.at c.rewind.ensures.before c.rewind.ensures.exact refl c.new-gathering.ensures

pub returns-clause-at : goal.returns-clause-at
returns-clause-at g c = λ told h stands. c.gather.ensures.at told h (stands_moved (c.rewind.ensures.at h) stands)
