-- What is made, one after the other.
use Rattle.std.proofs.Common.{◌∙◌, refl, arith}
use Rattle.loop_run.proofs.Names.{GrowsOn, Keeps, LinksState, MakesOn}

pub keeps_self : (s : LinksState) → Keeps s s
keeps_self s = record { made = λ a m. m; turns = λ a. refl; received = λ a. refl; sent = λ a. refl }

pub keeps_then : (a b c : LinksState) → Keeps a b → Keeps b c → Keeps a c
keeps_then a b c one two = record {
  made = λ at m. two.made at (one.made at m);
  turns = λ at. two.turns at ∙ one.turns at;
  received = λ at. two.received at ∙ one.received at;
  sent = λ at. two.sent at ∙ one.sent at;
}

pub grows_then : {a b c : _} → GrowsOn a b → GrowsOn b c → GrowsOn a c
grows_then one two = record { made = λ at m. two.made at (one.made at m); later = omega (arith, one.later, two.later) }

pub makes_grows : {a b : _} → MakesOn a b → GrowsOn a b
makes_grows on = record { made = on.keeps.made; later = on.later }
