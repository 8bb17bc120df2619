-- What a link tells: its address, its turns, its faults, and the datagrams that it received and sent.
use Rattle.std.specs.Prelude.{ℕ, ◌+◌, ◌-◌, ◌^◌, ◌≡◌, ◌++◌, ◌∷◌, List, [], Option, Some, None, IfSome, min}
use Rattle.std.specs.Option.{option_map}
use Rattle.gw_base.specs.declared.address.Addr.{Addr}

-- a datagram at one end of a path: whom it came from or went to, and its octets
pub record Datagram : Type 0 where
  pub peer : Addr
  pub octets : List ℕ

-- The lists are told by some links alone. A turn is one end of a wait: a datagram, or none for a while.
pub record LinkState : Type 0 where
  pub address : Addr
  pub turns : ℕ
  pub faults : ℕ
  pub received : Option (List Datagram)
  pub sent : Option (List Datagram)

-- a list with one datagram more
abbrev pub with_one : Datagram → Option (List Datagram) → Option (List Datagram)
with_one d told = option_map (λ list. list ++ d ∷ []) told

-- a list that is empty, where it is told
abbrev pub IsEmpty : Option (List Datagram) → Type 0
IsEmpty told = IfSome told (λ list. list ≡ [])

-- a link as it is made or split: at this address, with no turn, no fault and no datagram
pub record IsNewAt (address : Addr) (link : LinkState) : Type 0 where
  pub at : link.address ≡ address
  pub turns : link.turns ≡ 0
  pub faults : link.faults ≡ 0
  pub received : IsEmpty link.received
  pub sent : IsEmpty link.sent

-- two counts together, at most the last value of 64 bits
abbrev pub added : ℕ → ℕ → ℕ
added one other = min (one + other) (2 ^ 64 - 1)

-- two lists, one behind the other, where both are told
abbrev pub joined : Option (List Datagram) → Option (List Datagram) → Option (List Datagram)
joined (Some one) (Some other) = Some (one ++ other)
joined (Some one) None = None
joined None other = None
