use Rattle.std.proofs.Common.{sym, ◌∙◌, eqb-true, eq-eqb, true≢false, arith}
use Rattle.gateway_book.proofs.Names.{entry_view, firm_length, places_of}
use Rattle.gateway_book.proofs.CursorLemmas.{at_more, at_still, below_up, full_on, passed_on, was_gathered, within_more}
use Rattle.gateway_book.proofs.ReadLemmas.{read_on}
use Rattle.gateway_book.proofs.cursor.step.Goals as goal

pub add_items-requires : goal.add_items-requires
add_items-requires g c =
    below_up c.args.cursor.now.entry (firm_length c.read_entry.new.trail) (places_of c.args.cursor.now.copies)
    (omega (arith, c.requires.before, c.read_entry.ensures.read.kept.firm_length)) c.requires.within.copies

pub returns-in_err-add_items-clause-read : goal.returns-in_err-add_items-clause-read
returns-in_err-add_items-clause-read g c = read_on c.read_entry.ensures.read c.add_items.ensures.read

pub returns-then-is_full-clause-gathered : goal.returns-then-is_full-clause-gathered
returns-then-is_full-clause-gathered g c = λ told h stands.
    let cursor = c.args.cursor.now in
    let was = was_gathered told stands c.requires.within.copies (omega (arith, c.requires.before, c.firm-firm.ensures.counted, c.firm-firm.ensures.length told))
    c.read_entry.ensures.read (c.in-Ok.ensures.entry told) (c.in_ok-add_items.ensures.items told) in
    full_on h (entry_view c.in-Ok.entry) cursor cursor was.here c.args.into.now was.items (eqb-true c.add_items.new.into.room 0 (sym c.is_full.ensures ∙ c.if-is_full.true))

pub returns-then-is_full-clause-read : goal.returns-then-is_full-clause-read
returns-then-is_full-clause-read g c = read_on c.read_entry.ensures.read c.add_items.ensures.read

pub returns-in-Ok-pass-clause-gathered : goal.returns-in-Ok-pass-clause-gathered
returns-in-Ok-pass-clause-gathered g c = λ told h stands.
    let was = was_gathered told stands c.requires.within.copies (omega (arith, c.requires.before, c.firm-firm.ensures.counted, c.firm-firm.ensures.length told))
    c.read_entry.ensures.read (c.in-Ok.ensures.entry told) (c.in_ok-add_items.ensures.items told) in
    passed_on h (entry_view c.in-Ok.entry) c.args.cursor.now c.pass.new.self was.here c.args.into.now was.items c.in-Ok-pass.ensures.ok.entry

pub returns-in-Ok-pass-clause-within : goal.returns-in-Ok-pass-clause-within
returns-in-Ok-pass-clause-within g c = within_more c.requires.before c.requires.within.copies c.in-Ok-pass.ensures.ok

pub returns-in-Ok-pass-clause-at : goal.returns-in-Ok-pass-clause-at
returns-in-Ok-pass-clause-at g c = λ told h stands.
    let was = was_gathered told stands c.requires.within.copies (omega (arith, c.requires.before, c.firm-firm.ensures.counted, c.firm-firm.ensures.length told))
    c.read_entry.ensures.read (c.in-Ok.ensures.entry told) (c.in_ok-add_items.ensures.items told) in
    at_more h (entry_view c.in-Ok.entry) c.args.cursor.now c.pass.new.self was.here c.args.into.now stands.at c.requires.within.copies was.items
    (λ z. true≢false (sym (eq-eqb c.add_items.new.into.room 0 z) ∙ sym c.is_full.ensures ∙ c.if-is_full.false))
    (omega (
      arith,
      c.saturating_add.ensures,
      c.saturating_sub-skipped.ensures,
      c.saturating_sub-taken.ensures,
      c.skip.ensures,
      c.skip-skip.ensures,
      c.count.ensures,
      c.count-count.ensures,
    )) c.in-Ok-pass.ensures.ok

pub returns-in-Ok-pass-clause-read : goal.returns-in-Ok-pass-clause-read
returns-in-Ok-pass-clause-read g c = read_on c.read_entry.ensures.read c.add_items.ensures.read

pub returns-in-Err-pass-clause-at : goal.returns-in-Err-pass-clause-at
returns-in-Err-pass-clause-at g c = λ told h stands. at_still c.in-Err-pass.ensures.err stands.at

pub returns-in-Err-pass-clause-read : goal.returns-in-Err-pass-clause-read
returns-in-Err-pass-clause-read g c = read_on c.read_entry.ensures.read c.add_items.ensures.read
