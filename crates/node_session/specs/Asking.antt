-- The turns of a session over a book, as its pass keeps them.
use Rattle.std.specs.Prelude.{◌≡◌, ◌⊎◌, ℕ, ◌<◌, ◌≤◌, List, Some, None, Result}
use Rattle.area_disk.specs.declared.area.Area.{Ghosts}
use Rattle.cgf_journal.specs.Trail.{firm_length}
use Rattle.gw_base.specs.declared.address.Addr.{Addr}
use Rattle.gw_base.specs.declared.history.Caller.{Caller}
use Rattle.gw_base.specs.declared.item.Item.{Item}
use Rattle.gateway_book.specs.Turning.{facts_of, tells_lists}
use Rattle.gateway_book.specs.declared.book.Book.{Book}
use Rattle.gateway_book.specs.declared.outcome.ItemsFault.{ItemsFault}
use Rattle.gateway_book.specs.declared.outcome.Outcome.{Outcome}
use Rattle.gateway_book.specs.declared.outcome.Settled.{Settled}
use Rattle.gateway_book.specs.declared.outcome.Settled.TheVariants.{Firm}
use Rattle.turn_cell.specs.Knowing.{Saw}
use Rattle.turn_cell.specs.Passes.{Took}
use Rattle.turn_cell.specs.declared.knowing.Knowledge.{Knowledge}
use Rattle.node_session.specs.Turns.{HasListed, HasTaken, Settles}

module _ {A : Type 0} (tells : Ghosts A) where
  -- a datagram was taken in a turn
  abbrev pub TakesIn : Addr → List ℕ → ℕ → Caller → Knowledge → Outcome → Knowledge → Type 0
  TakesIn from octets now who before outcome after =
      Took {V = Book A tells} (tells_lists tells) (λ book. facts_of book) (Some who.session)
      (λ found left answer drops added.
      HasTaken from octets now who (facts_of found) (facts_of left) added answer (tells_lists tells) drops)
      before outcome after

  -- it was asked in a turn what has become of an answer, and the history made firm where it wasn't yet; it names no
  -- session
  abbrev pub SettlesIn : ℕ → ℕ → Knowledge → Settled → Knowledge → Type 0
  SettlesIn front faults before settled after =
      Took {V = Book A tells} (tells_lists tells) (λ book. facts_of book) None
      (λ found left answer drops added.
      Settles (tells_lists tells) front faults (facts_of found) (facts_of left) (firm_length found.trail)
      (firm_length left.trail) answer added)
      before settled after

  -- items were told in a turn, which names no session
  abbrev pub ListsIn : {R : Type 0} → ℕ → ℕ → (R → List Item) → Knowledge → Result R ItemsFault → Knowledge → Type 0
  ListsIn from max items before answer after =
      Took {V = Book A tells} (tells_lists tells) (λ book. facts_of book) None
      (λ found left answer drops added.
      HasListed (tells_lists tells) from max (facts_of found) (facts_of left) answer items added)
      before answer after

  -- What has become of an answer: the pass looked at the length that never falls, and where that had reached the front,
  -- all is firm that the answer rests on. Else it took a turn that asks the book, and commits where the front isn't
  -- firm.
  pub record IsAsked (front faults : ℕ) (before : Knowledge) (settled : Settled) (after : Knowledge) : Type 0 where
    pub seen : ℕ
    pub looked : Knowledge
    pub saw : Saw (tells_lists tells) seen before looked
    pub ends : ((front ≤ seen) × (settled ≡ Firm) × (after ≡ looked))
        ⊎ ((seen < front) × SettlesIn front faults looked settled after)
