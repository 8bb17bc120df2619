-- What a gateway keeps that was handed an area: its history, and what it answered.
use Rattle.std.proofs.Common.{◌≡◌, ℕ, ◌≤◌, Bool, true, ◌&&◌, List, [], Option, None, Some, refl, ap, ◌∙◌, arith}
use Rattle.cgf_service.proofs.Names.{address_in, All-nil, All-weaker, append-nil, area_of, Begins, Book, Datagram, files_at, GoesOnIn, GrowsBy, HasFirstFiles, HasReplied, HasServedAt, header_at, HistoryEntry, IfSome_then, IsFiledIn, IsOpened, IsReply, KeepsShelf, LinksState, LosesNothing, Rose, Service, Serving, Setup, size_of, StandsOrStarts, tells_lists, Told, UsesLinks, value_of, Writer}
use Rattle.area_disk.specs.declared.area.Area as areas
use Rattle.cdr_shelf.specs.declared.shelf.Shelf as shelves
use Rattle.cgf_service.proofs.ServiceLemmas.{ReplyLater, begins_self, none_in_turn, reply_later, same_heard}

pub told_lists : {A : Type 0} (tells : areas.Ghosts A) → Told tells → tells_lists tells ≡ true
told_lists tells told = ap (λ (b : Bool). b && tells.tells_crash) told.0 ∙ told.1

-- nothing was sent where what is told of it is as before
none_grows : (told : Option (List Datagram)) → GrowsBy told (Some []) told
none_grows None = tt
none_grows (Some list) = ap Some (append-nil list)

module _ {A : Type 0} (tells : areas.Ghosts A) (of : Serving) (area area' : A) (links : LinksState) where
  -- where nothing was sent, a history goes on where it stands
  pub goes_on_unsent : (start : List HistoryEntry) (octets : List ℕ) → StandsOrStarts (header_at tells area of.ip) octets start
      → GoesOnIn tells of area area' links links start octets
  goes_on_unsent start octets stands = record {
    history = start;
    stands = stands;
    begins = begins_self start;
    replies = record {
      sent = Some [];
      is_sent = none_grows (links.sent (address_in of));
      each = All-nil (IsReply (links.received (address_in of)) (tells.size area) start (tells.faults area) (tells.faults area'));
      in_turn = none_in_turn (tells.size area) start (tells.faults area) (tells.faults area') (links.received (address_in of)) (Some []) refl;
    };
  }

-- links that nobody used
pub unused : (of : Serving) (links : LinksState) → UsesLinks of links links
unused of links = record {
  most = omega arith;
  others_turns = λ a other. refl;
  others_received = λ a other list is. is;
  others_sent = λ a other list is. is;
}

-- an area that is as it was has lost nothing
pub untouched_keeps : {A : Type 0} (tells : areas.Ghosts A) (of : Serving) (area : A) (links : LinksState)
    → LosesNothing tells of area area links links
untouched_keeps tells of area links told start holds = record {
  now = goes_on_unsent tells of area area links start (tells.octets area) holds.now;
  crash = λ c may. goes_on_unsent tells of area area links start c (holds.crash c may);
}

module _ {A F : Type 0} (tells : areas.Ghosts A) (files : shelves.Ghosts F) (of : Serving) (setup : Setup) (area : A)
    (shelf shelf' : F)
    (same : files.files shelf' ≡ files.files shelf) where
  -- a shelf that has the files that it had has the first ones of those of a history that stands still
  pub filed_still : (start : List HistoryEntry) → HasFirstFiles (files_at of setup) start (files.files shelf)
      → (octets : List ℕ) → StandsOrStarts (header_at tells area of.ip) octets start → IsFiledIn tells files of setup
      area shelf' start octets
  filed_still start first octets stands = record {
    history = start;
    stands = stands;
    begins = begins_self start;
    filed = rw same first;
  }

  -- so it is where the area is as it was
  pub untouched_shelf : KeepsShelf tells files of setup area area shelf shelf'
  untouched_shelf told tells_files start holds first = (
    filed_still start first (tells.octets area) holds.now,
    λ c may. filed_still start first c (holds.crash c may),
  )

module _ {A F : Type 0} (tells : areas.Ghosts A) (files : shelves.Ghosts F) (of : Serving) (told : Told tells)
    (area : A) (book book' book'' : Book A tells) (writer writer' : Writer F files)
    (links links' : LinksState) (clock clock' : ℕ) (service : Service) (open_time : ℕ)
    (sized : tells.size (area_of book) ≡ tells.size area) (opens : IsOpened (header_at tells area of.ip) area open_time book)
    (serves : HasServedAt tells files of book book' writer writer' links links' clock clock' service)
    (later : tells.faults (area_of book') ≤ tells.faults (area_of book''))
    (law : ReplyLater) (history : List HistoryEntry) (begins : Begins (value_of book').firm history) where
  rose : Rose (tells.faults (area_of book)) (tells.faults (area_of book')) → Rose (tells.faults (area_of book)) (tells.faults (area_of book''))
  rose up = omega (arith, up, later)

  rests : (d : Datagram)
      → IsReply (links'.received (address_in of)) (size_of book) (value_of book').firm (tells.faults (area_of book)) (tells.faults (area_of book')) d
      → IsReply (links'.received (address_in of)) (size_of book) history (tells.faults area) (tells.faults (area_of book'')) d
  rests d r =
      rw opens.faults
      at (reply_later (links'.received (address_in of)) (size_of book) (value_of book').firm history
      (tells.faults (area_of book)) (tells.faults (area_of book'))
      (tells.faults (area_of book'')) begins rose d r)

  same_rise : Rose (tells.faults (area_of book)) (tells.faults (area_of book')) → Rose (tells.faults area) (tells.faults (area_of book''))
  same_rise up = rw opens.faults at (rose up)

  -- what was sent rests on a history that begins with what was firm then
  pub replies_rest : HasReplied (tells.size area) history (tells.faults area) (tells.faults (area_of book'')) (address_in of) links links'
  replies_rest =
      let was = serves.replies (told_lists tells told) in
      rw (← sized) (record {
        sent = was.sent;
        is_sent = was.is_sent;
        each = IfSome_then was.sent was.each (λ list all. All-weaker
            (IsReply (links'.received (address_in of)) (size_of book) (value_of book').firm (tells.faults (area_of book)) (tells.faults (area_of book')))
            (IsReply (links'.received (address_in of)) (size_of book) history (tells.faults area)
            (tells.faults (area_of book''))) rests list all);
        in_turn = law (size_of book) (value_of book').firm history (tells.faults (area_of book)) (tells.faults (area_of book')) (tells.faults area)
            (tells.faults (area_of book'')) (Some []) (links'.received (address_in of)) (links'.received (address_in of)) was.sent begins same_rise
            (same_heard (links'.received (address_in of))) was.in_turn;
      })
