-- What is sent over the links of a node, one datagram after the other.
use Rattle.std.proofs.Common.{◌≡◌, ℕ, ◌+◌, ◌<◌, List, [], ◌∷◌, ◌++◌, length, take, get_or, Option, None, Some, refl, sym, ap, subst, ◌∙◌, append_assoc}
use Rattle.std.proofs.lemmas.List.{append-nil, take_more}
use Rattle.net_link.specs.Datagrams.{Datagram, LinkState}
use Rattle.node_core.specs.declared.message.Outgoing.{Outgoing}
use Rattle.node_core.specs.declared.port.Port.{Port}
use Rattle.node_run.specs.Running.{only_at, sent_among}
use Rattle.net_link.specs.declared.link.Link.{Ghosts}
use Rattle.node_core.specs.declared.port.Port.TheVariants.{First, Second}
use Rattle.node_run.specs.Outcomes.{StaysAt}
use Rattle.node_run.specs.Steps.{HasSent, HaveSent, with_all}
use Rattle.node_run.specs.declared.linked.LinkedNode.{LinkedNode}

abbrev Told : Type 0
Told = Option (List Datagram)

-- a datagram that goes from a port
abbrev pub from_port : Port → Outgoing → List Datagram
from_port port o = only_at port o.port (record { peer = o.to; octets = o.octets } ∷ [])

sent_both : (port : Port) (xs ys : List Outgoing)
    → sent_among port (xs ++ ys) ≡ sent_among port xs ++ sent_among port ys
sent_both port [] ys = refl
sent_both port (x ∷ xs) ys =
    ap (λ (l : List Datagram). from_port port x ++ l) (sent_both port xs ys)
    ∙ sym (append_assoc (from_port port x) (sent_among port xs) (sent_among port ys))

pub sent_more : (port : Port) (all : List Outgoing) (i : ℕ) (o : Outgoing) → i < length all → o ≡ get_or all i o
    → sent_among port (take (i + 1) all) ≡ sent_among port (take i all) ++ from_port port o
sent_more port all i o below is =
    ap (λ (l : List Outgoing). sent_among port l) (take_more all i o below)
    ∙ sent_both port (take i all) (get_or all i o ∷ [])
    ∙ ap (λ (l : List Datagram). sent_among port (take i all) ++ l)
    (append-nil (from_port port (get_or all i o)) ∙ ap (λ (x : Outgoing). from_port port x) (sym is))

pub all_none : (told : Told) → told ≡ with_all [] told
all_none None = refl
all_none (Some l) = ap (λ (x : List Datagram). Some x) (sym (append-nil l))

all_both : (one two : List Datagram) (told : Told) → with_all two (with_all one told) ≡ with_all (one ++ two) told
all_both one two None = refl
all_both one two (Some l) = ap (λ (x : List Datagram). Some x) (append_assoc l one two)

-- some are sent, and then others
pub sends_both : (one two : List Datagram) (a b c : LinkState) → HasSent one a b → HasSent two b c
    → HasSent (one ++ two) a c
sends_both one two a b c first next =
    next ∙ ap (λ (s : LinkState). record s { sent = with_all two s.sent }) first
    ∙ ap (λ (o : Told). record a { sent = o }) (all_both one two a.sent)

-- the same, told otherwise
pub sends_as : (one two : List Datagram) (a b : LinkState) → one ≡ two → HasSent two a b → HasSent one a b
sends_as one two a b is sent = sent ∙ ap (λ (l : List Datagram). record a { sent = with_all l a.sent }) (sym is)

module _ {L : Type 0} (tells : Ghosts L) where
  pub stays_both : (a b c : LinkedNode L) → StaysAt tells a b → StaysAt tells b c → StaysAt tells a c
  stays_both a b c one two = record { first = two.first ∙ one.first; second = two.second ∙ one.second }

  -- one more of a list was sent
  pub have_sent_more : (all : List Outgoing) (i : ℕ) (o : Outgoing) (octets : List ℕ) (a b c : LinkedNode L)
      → i < length all
      → o ≡ get_or all i o → octets ≡ o.octets
      → HaveSent tells (sent_among First (take i all)) (sent_among Second (take i all)) a b
      → HaveSent tells (only_at First o.port (record { peer = o.to; octets = octets } ∷ []))
      (only_at Second o.port (record { peer = o.to; octets = octets } ∷ [])) b c
      → HaveSent tells (sent_among First (take (i + 1) all)) (sent_among Second (take (i + 1) all)) a c
  have_sent_more all i o octets a b c below is same had now = record {
    by_first = more First (tells.state a.first) (tells.state b.first) (tells.state c.first) had.by_first now.by_first;
    by_second = more Second (tells.state a.second) (tells.state b.second)
        (tells.state c.second) had.by_second now.by_second;
  }
    where
      more : (port : Port) (x y z : LinkState) → HasSent (sent_among port (take i all)) x y
          → HasSent (only_at port o.port (record { peer = o.to; octets = octets } ∷ [])) y z
          → HasSent (sent_among port (take (i + 1) all)) x z
      more port x y z had now = sends_as _ _ x z (sent_more port all i o below is)
          (sends_both (sent_among port (take i all)) (from_port port o) x y z had
          (subst (λ (os : List ℕ). HasSent (only_at port o.port
          (record { peer = o.to; octets = os } ∷ [])) y z) same now))
