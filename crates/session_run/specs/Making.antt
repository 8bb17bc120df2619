-- What is made before sessions serve.
use Rattle.std.specs.Prelude.{◌≡◌, ◌≤◌, List, [], ◌∷◌, All, length, Vec, vec_capacity, vec_len}
use lib.ListN.{replicate}
use Rattle.job_inbox.specs.Inbox.{IsPassOf, knowledge, known_by, made_by}
use Rattle.job_inbox.specs.Rule.{idle}
use Rattle.job_inbox.specs.declared.inbox.Inbox.{Inbox}
use Rattle.job_inbox.specs.declared.inbox.InboxPass.{InboxPass}
use Rattle.node_session.specs.Receiving.{AreOfEach, hands_of, passes_of}
use Rattle.std.specs.declared.alloc.Global.{Global}
use Rattle.session_run.specs.History.{session_count}
use Rattle.session_run.specs.declared.making.Hall.{Hall}
use Rattle.session_run.specs.declared.making.Place.{Place}

-- an inbox has two passes
abbrev pub HasTwo : Inbox → Type 0
HasTwo inbox = made_by inbox ≡ 2

-- a list is empty, and has room for two passes
pub record HasRoomForTwo (list : Vec InboxPass Global) : Type 0 where
  pub none : list.items ≡ []
  pub count : vec_len list ≡ 0
  pub room : 2 ≤ vec_capacity list

pub record IsFreshPlace (place : Place) : Type 0 where
  pub push : IsPassOf place.inbox place.push × (knowledge place.push ≡ idle)
  pub pop : IsPassOf place.inbox place.pop × (knowledge place.pop ≡ idle)
  pub two : HasTwo place.inbox
  pub list : HasRoomForTwo place.list

-- the passes of those who pop, in their order
abbrev pub pops_in : InboxPass × InboxPass × InboxPass × InboxPass → List InboxPass
pops_in pops = pops.0 ∷ pops.1 ∷ pops.2 ∷ pops.3 ∷ []

pub record IsFreshHall (hall : Hall) : Type 0 where
  pub count : length hall.inboxes ≡ session_count
  pub two : All HasTwo hall.inboxes
  pub pushes : AreOfEach hall.inboxes (passes_of hall.dispatcher)
  pub none_pushed : hands_of hall.dispatcher ≡ replicate session_count idle
  pub pops : AreOfEach hall.inboxes (pops_in hall.pops)
  pub none_popped : known_by (pops_in hall.pops) ≡ replicate session_count idle
  pub lists : All HasRoomForTwo hall.lists
