use Rattle.std.proofs.Common.{◌≡◌, true, false, ap, arith}
use Rattle.gw_base.specs.declared.scan.Copies.{Copies}
use Rattle.gw_base.specs.History.{copies_of, is_close_due}
use Rattle.gw_base.proofs.HeldLemmas.{length-held_keys}
use Rattle.gw_base.proofs.held.promised_octets.Goals as goal

pub returns-then-is_close_due : goal.returns-then-is_close_due
returns-then-is_close_due c =
    let due : is_close_due c.args.history.now ≡ true = cc in
    let held : c.copies_of.result.held ≡ (copies_of c.args.history.now).held = ap (λ (k : Copies). k.held) c.copies_of.ensures in
    rw due (omega (arith, held, c.from-keys.ensures, length-held_keys c.args.history.now))

pub returns-else-is_close_due : goal.returns-else-is_close_due
returns-else-is_close_due c =
    let due : is_close_due c.args.history.now ≡ false = cc in
    let held : c.copies_of.result.held ≡ (copies_of c.args.history.now).held = ap (λ (k : Copies). k.held) c.copies_of.ensures in
    rw due (omega (arith, held, c.from-keys.ensures, length-held_keys c.args.history.now))
