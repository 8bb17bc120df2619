-- How often a gateway redirected decides nothing but the number of its next Redirection Request.
use Rattle.std.proofs.Common.{◌≡◌, ℕ, ◌%◌, false, List, ◌++◌, Option, None, map, refl, ap, sym, ◌∙◌, arith, option_map}
use Rattle.once_core.proofs.Names.{Addr, answered, big_bytes, committing, cut, delivered, delivered_broken, delivered_running, failed, followed, Fortune, Gateway, gateway_address, gateway_kept, history_of, HistoryEntry, if_broken, making_close, making_tick, marked, Message, Moved, node_at, opened, paths_of, port_at, readying, redirected, redirected_kept, RedirectionRequest, Rules, start_of, still, unless_expired, written}

abbrev with_redirects : ℕ → Gateway → Gateway
with_redirects r g = record g { redirects = r }

abbrev with_moved : ℕ → Moved → Moved
with_moved r m = record { gateway = with_redirects r m.gateway; sends = m.sends }

-- a move doesn't ask how often the gateway redirected
abbrev pub Keeps : (Gateway → Moved) → Type 0
Keeps f = (r : ℕ) (g : Gateway) → f (with_redirects r g) ≡ with_moved r (f g)

pub keeps_committing : (f : Fortune) → Keeps (committing f)
keeps_committing f r g = grind arith

-- one that waits until the journal is ready
keeps_ready : (rules : Rules) (f : Fortune) (breaks goes_on : Gateway → Moved) → Keeps breaks → Keeps goes_on
    → Keeps (λ g. followed (readying rules f g) (if_broken breaks goes_on))
keeps_ready rules f breaks goes_on kb kg r g =
    ap (λ (m : Moved). followed m (if_broken breaks goes_on)) readies
    ∙ ap (λ (m : Moved). record { gateway = m.gateway; sends = (readying rules f g).sends ++ m.sends })
    (breaks_or (readying rules f g).gateway)
  where
    readies : readying rules f (with_redirects r g) ≡ with_moved r (readying rules f g)
    readies = grind arith

    breaks_or : (a : Gateway) → if_broken breaks goes_on (with_redirects r a) ≡ with_moved r
        (if_broken breaks goes_on a)
    breaks_or a = grind (arith, kb r a, kg r a)

keeps_answered : (rules : Rules) (now : ℕ) (m : Message) → Keeps (answered rules now m)
keeps_answered rules now m r g = grind arith

keeps_failed : (m : Message) → Keeps (failed m)
keeps_failed m r g = grind arith

pub keeps_delivered : (rules : Rules) (now : ℕ) (f : Fortune) (m : Message) → Keeps (delivered rules now f m)
keeps_delivered rules now f m r g = grind (arith, running, broken)
  where
    expired : (d : Gateway → Moved) → Keeps d → Keeps (unless_expired m d)
    expired d kd r a = grind (arith, kd r a)

    running : delivered_running rules now f m (with_redirects r g) ≡ with_moved r (delivered_running rules now f m g)
    running = expired (λ a. followed (readying rules f a) (if_broken (failed m) (answered rules now m)))
        (keeps_ready rules f (failed m) (answered rules now m) (keeps_failed m) (keeps_answered rules now m)) r g

    broken : delivered_broken rules now f m (with_redirects r g) ≡ with_moved r (delivered_broken rules now f m g)
    broken = keeps_ready rules f still (unless_expired m (answered rules now m)) (λ r a. refl)
        (expired (answered rules now m) (keeps_answered rules now m)) r g

pub keeps_marking_tick : (rules : Rules) (f : Fortune) (now : ℕ) → Keeps (marked rules f (making_tick rules now))
keeps_marking_tick rules f now r g = grind arith

pub keeps_marking_close : (rules : Rules) (f : Fortune) (now : ℕ) → Keeps (marked rules f (making_close now))
keeps_marking_close rules f now r g = grind arith

pub keeps_cut : (keep : ℕ) → Keeps (λ g. still (cut keep g))
keeps_cut keep r g = refl

-- ---- what is kept

-- what is kept of a gateway moves as the gateway, as far as it is kept
pub record MovesKept (f kept : Gateway → Moved) (g : Gateway) : Type 0 where
  pub gateway : (kept (gateway_kept g)).gateway ≡ gateway_kept (f g).gateway
  pub sends : (kept (gateway_kept g)).sends ≡ (f g).sends

pub moves_kept : (f : Gateway → Moved) → Keeps f → (g : Gateway) → MovesKept f f g
moves_kept f keeps g = record {
  gateway = ap (λ (m : Moved). m.gateway) (keeps (g.redirects % 65536) g)
      ∙ ap (λ (m : Moved). with_redirects (m.gateway.redirects % 65536) (f g).gateway) (sym (keeps g.redirects g));
  sends = ap (λ (m : Moved). m.sends) (keeps (g.redirects % 65536) g);
}

pub opened_kept : (rules : Rules) (g : Gateway) → MovesKept (λ x. still (opened rules x)) (λ x. still (opened rules x)) g
opened_kept rules g = record { gateway = refl; sends = refl }

abbrev request_under : ℕ → ℕ → Option ℕ → List HistoryEntry → ℕ → Addr → Message
request_under gateway cause to h number path = record {
  to_gateway = false;
  gateway = gateway;
  node = node_at path;
  port = port_at path;
  start = start_of path.ip h;
  number = number;
  named = None;
  octets = written number (RedirectionRequest cause (option_map (λ other. big_bytes 4 (gateway_address other).ip) to));
}

pub redirects_kept : (gateway cause : ℕ) (to : Option ℕ) (g : Gateway) → MovesKept (redirected gateway cause to) (redirected_kept gateway cause to) g
redirects_kept gateway cause to g =
    let same : (g.redirects % 65536) % 65536 ≡ g.redirects % 65536 = omega arith in
    record {
      gateway = grind arith;
      sends = ap (λ (n : ℕ). map (request_under gateway cause to (history_of g.book) n) (paths_of (history_of g.book))) same;
    }
