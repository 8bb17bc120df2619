-- What the fields of a gateway mean, and what holds of them.
use Rattle.std.specs.Prelude.{◌≤◌, false, length, take, drop}
use Rattle.once_core.specs.Gateway.{Gateway}
use Rattle.once_core.specs.HistoryKept.{AllKept}
use Rattle.once_core.specs.declared.gateway.KeptGateway.TheInside.{Inside}

abbrev pub gateway_value : Inside → Gateway
gateway_value g = record {
  book = record { firm = take g.firm g.history.items; rest = drop g.firm g.history.items; cuts = 0; is_broken = false };
  waiting = g.waiting.items;
  is_down = g.is_down;
  redirects = g.redirects;
}

pub record IsSoundGateway (g : Inside) : Type 0 where
  pub firm : g.firm ≤ length g.history.items
  pub entries : AllKept g.history.items
