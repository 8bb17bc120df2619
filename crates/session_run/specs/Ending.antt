-- What passes are taken apart from, and what is known of them then.
use Rattle.std.specs.Prelude.{◌≡◌, ℕ, ◌+◌, ◌-◌, ◌≤◌, All, Bool, List, [], ◌∷◌, ◌++◌, length, map, Option, None, Some, Vec, slice_index_or, vec_capacity, vec_len}
use Rattle.std.specs.declared.alloc.Global.{Global}
use Rattle.cdr_shelf.specs.declared.shelf.Shelf as shelf
use Rattle.file_writer.specs.declared.writer.Writer.{Writer}
use Rattle.gw_base.specs.Facts.{Facts}
use Rattle.job_inbox.specs.Hands.{AreSettled}
use Rattle.job_inbox.specs.Inbox.{IsPassOf, knowledge as hand}
use Rattle.job_inbox.specs.declared.hand.Hand.{Hand}
use Rattle.job_inbox.specs.declared.inbox.Inbox.{Inbox}
use Rattle.job_inbox.specs.declared.inbox.InboxPass.{InboxPass}
use Rattle.node_session.specs.Passes.{pass_of}
use Rattle.node_session.specs.Writing as writing
use Rattle.turn_cell.specs.Cell.{knowledge}
use Rattle.turn_cell.specs.Passes.{Ended}
use Rattle.turn_cell.specs.declared.cell.Pass.{Pass}
use Rattle.turn_cell.specs.declared.knowing.Knowledge.{Knowledge}
use Rattle.session_run.specs.Desks.{hand_at, known_at}
use Rattle.session_run.specs.Team.{Pair}
use Rattle.session_run.specs.declared.desk.Desk.{Desk}
use Rattle.session_run.specs.declared.reception.Reception.{Reception}
use Rattle.session_run.specs.declared.round.Team.{Team}
use Rattle.session_run.specs.declared.running.Seats.{Seats}

-- a list has so many, and room for five
pub record HasSome {X : Type 0} (n : ℕ) (list : Vec X Global) : Type 0 where
  pub count : vec_len list ≡ n
  pub items : length list.items ≡ n
  pub room : 5 ≤ vec_capacity list

-- the last of a list was taken out
pub record TakesLast {X : Type 0} (old new : Vec X Global) (last : X) : Type 0 where
  pub items : old.items ≡ new.items ++ last ∷ []
  pub count : vec_len old ≡ vec_len new + 1
  pub room : vec_capacity new ≡ vec_capacity old

-- the last of these passes has this number
abbrev pub IsLastNumber : ℕ → List Pass → Type 0
IsLastNumber n passes = (d : Pass) → (knowledge (slice_index_or passes (length passes - 1) d)).number ≡ n

-- five passes, numbered in their order
abbrev pub AreNumbered : List Pass → Type 0
AreNumbered passes = map (λ pass. (knowledge pass).number) passes ≡ 0 ∷ 1 ∷ 2 ∷ 3 ∷ 4 ∷ []

module _ {L : Type 0} where
  -- each desk has a pass of its inbox
  abbrev pub ArePopsOf : List Inbox → Pair L → Pair L → Type 0
  ArePopsOf (one ∷ two ∷ three ∷ four ∷ []) first second =
      IsPassOf one first.0.pass × IsPassOf two first.1.pass × IsPassOf three second.0.pass × IsPassOf four second.1.pass
  ArePopsOf _ first second = ⊥

  -- these are the passes to the cell of four desks
  abbrev pub ArePassesFor : Pass × Pass × Pass × Pass → Pair L → Pair L → Type 0
  ArePassesFor passes first second =
      (pass_of first.0.worker ≡ Some passes.0) × (pass_of first.1.worker ≡ Some passes.1)
      × (pass_of second.0.worker ≡ Some passes.2) × (pass_of second.1.worker ≡ Some passes.3)

  -- each inbox was ended with its pass for who pushes and that of its desk
  abbrev pub AreSettledWith : InboxPass × InboxPass × InboxPass × InboxPass → Pair L → Pair L → Type 0
  AreSettledWith pushes first second =
      AreSettled (hand pushes.0 ∷ hand_at first.0 ∷ []) × AreSettled (hand pushes.1 ∷ hand_at first.1 ∷ [])
      × AreSettled (hand pushes.2 ∷ hand_at second.0 ∷ []) × AreSettled (hand pushes.3 ∷ hand_at second.1 ∷ [])

  -- nothing stopped a session, and it knows no moment of a job
  pub record IsFresh (desk : Desk L) : Type 0 where
    pub runs : desk.stop ≡ None
    pub unused : desk.last ≡ None

module _ {F L : Type 0} {files : shelf.Ghosts F} where
  -- the desks of all
  abbrev pub desks_among : Team F L files → List (Desk L)
  desks_among team = team.first.0 ∷ team.first.1 ∷ team.second.0 ∷ team.second.1 ∷ []

  -- the passes to the cell of all, that of who writes last
  abbrev pub passes_among : Team F L files → List (Option Pass)
  passes_among team =
      pass_of team.first.0.worker ∷ pass_of team.first.1.worker ∷ pass_of team.second.0.worker
      ∷ pass_of team.second.1.worker ∷ writing.pass_of team.actor ∷ []

  -- the passes to the inboxes of all
  abbrev pub pops_among : Team F L files → List InboxPass
  pops_among team = team.first.0.pass ∷ team.first.1.pass ∷ team.second.0.pass ∷ team.second.1.pass ∷ []

  -- what the passes of all know
  abbrev pub known_among : Team F L files → List Knowledge
  known_among team =
      known_at team.first.0 ∷ known_at team.first.1 ∷ known_at team.second.0 ∷ known_at team.second.1
      ∷ writing.knowledge_of team.actor ∷ []

  -- the links of all, that of who receives first
  abbrev pub links_of : Reception L → Team F L files → List L
  links_of reception team =
      reception.link ∷ team.first.0.link ∷ team.first.1.link ∷ team.second.0.link ∷ team.second.1.link ∷ []

  -- Each has its pass, its link and its inbox, in their order, and nothing stopped any, nor does one know a moment.
  pub record IsSeated (passes : List Pass) (links : List L) (pops : List InboxPass) (writer : Writer F files)
      (seats : Seats F L files) : Type 0 where
    pub has : passes_among seats.team ≡ map Some passes
    pub sends : links_of seats.reception seats.team ≡ links
    pub takes : pops_among seats.team ≡ pops
    pub writes : writing.writer_of seats.team.actor ≡ writer
    pub fresh : All IsFresh (desks_among seats.team)

  -- each inbox was ended with the passes of who pushed to it and who popped from it
  abbrev pub AreAllSettled : List Hand → Team F L files → Type 0
  AreAllSettled (a ∷ b ∷ c ∷ d ∷ []) team =
      AreSettled (a ∷ hand_at team.first.0 ∷ [])
      × AreSettled (b ∷ hand_at team.first.1 ∷ [])
      × AreSettled (c ∷ hand_at team.second.0 ∷ [])
      × AreSettled (d ∷ hand_at team.second.1 ∷ [])
  AreAllSettled _ team = ⊥

  -- the cell was ended with the passes of all
  abbrev pub HasEnded : Bool → Facts → Facts → Team F L files → Type 0
  HasEnded told start now team = Ended told start now (known_among team)
