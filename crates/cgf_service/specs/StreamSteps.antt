-- Words for the code of a gateway that answers a stream. No contract of a public call cites them.
use Rattle.std.specs.Prelude.{◌≡◌, ◌≢◌, ◌⊎◌, ℕ, ◌+◌, ◌≤◌, Bool, false, true, List, [], ◌++◌, ◌∷◌, length, map, take, Option, Some, None, IsSome, IsTrue, IfErr, Result, Ok, Err, ⊤}
use Rattle.std.specs.Io.KnownBytes.{Appends, Consumes}
use Rattle.area_disk.specs.Disk.{Rose, last_count}
use Rattle.area_disk.specs.declared.area.Area as areas
use Rattle.cdr_shelf.specs.declared.shelf.Shelf as shelves
use Rattle.file_writer.specs.Writer.{settings_in, shelf_of}
use Rattle.file_writer.specs.declared.writer.Writer.{Writer}
use Rattle.gate_journal.specs.Moments.{Told}
use Rattle.gateway_answer.specs.Answered.{no_caller}
use Rattle.gateway_book.specs.Book.{Stays, area_of, header_of, size_of, value_of}
use Rattle.gateway_book.specs.Comes.{LeavesFit}
use Rattle.gateway_answer.specs.FitHistory.{StandsFitFor}
use Rattle.gateway_answer.specs.Items.{items_of}
use Rattle.gateway_book.specs.Turning.{tells_lists}
use Rattle.gateway_book.specs.declared.book.Book.{Book}
use Rattle.gtpp_stream.specs.Frames.{first_fault, frames, rest_of}
use Rattle.gtpp_stream.specs.Stream.{Follows, no_stream}
use Rattle.gw_base.specs.Facts.{WhereTold}
use Rattle.gw_base.specs.Faults as gw
use Rattle.gw_base.specs.Owes.{Begins}
use Rattle.gw_base.specs.Written.{AppendsFront}
use Rattle.gw_base.specs.declared.address.Addr.{Addr}
use Rattle.gw_base.specs.declared.history.HistoryEntry.{HistoryEntry}
use Rattle.node_session.specs.Settling.{HasTakenAll, IsSettled}
use Rattle.node_session.specs.Writing.{HoldsFilesOf, KeepsFiles}
use Rattle.cgf_service.specs.Replies.{Tried, after_all, after_message, last_moment, sent_for, sent_for_all}
use Rattle.cgf_service.specs.Served.{HasFirstFiles, moment_of}
use Rattle.cgf_service.specs.StreamEnds.{IsStreamRead, LeavesUnanswered, most_stream, stream_end}
use Rattle.cgf_service.specs.declared.connection.Connection.{Connection}
use Rattle.cgf_jobs.specs.declared.input_kind.InputKind.{InputKind}
use Rattle.cgf_jobs.specs.declared.status.Status.{Status}
use Rattle.cgf_jobs.specs.declared.status.Status.TheVariants as status
use Rattle.cgf_jobs.specs.declared.status.StoreFault.TheVariants as fault

-- the octets of a reply, where there is one
abbrev pub reply_of : Option (List ℕ) → List ℕ
reply_of None = []
reply_of (Some reply) = reply

-- how the job ends whose serving ended so, where its settling doesn't fail
abbrev pub end_of_result : Result Unit Status → Status
end_of_result (Ok done) = status.Done
end_of_result (Err ended) = ended

-- whether the serving of a stream may end so before the stream has come to its end, or at an end that is none of a message
abbrev pub ends_serving : Status → Bool
ends_serving (status.Input place kind) = true
ends_serving status.Read = true
ends_serving status.Write = true
ends_serving status.Link = true
ends_serving status.Done = false
ends_serving status.Words = false
ends_serving status.Memory = false
ends_serving (status.Store why) = false
ends_serving (status.Audit packet places wanted) = false
ends_serving (status.Unfinished turns packet count) = false

module _ {A : Type 0} (tells : areas.Ghosts A) where
  -- Commits and openings again failed no more often than the device, whose count never falls, and stands still at its last
  -- value.
  pub record CutsByFaults (old new : Book A tells) : Type 0 where
    pub later : tells.faults (area_of old) ≤ tells.faults (area_of new)
    pub cuts : (new.cuts + tells.faults (area_of old) ≤ old.cuts + tells.faults (area_of new))
        ⊎ (last_count ≤ tells.faults (area_of new))

  -- A message from this address was answered, at this moment, and a commit was tried behind it: this is to be sent.
  pub record Answers (from : Addr) (message : List ℕ) (old new : Book A tells) (last : Option ℕ) (sent : List ℕ)
      : Type 0 where
    pub tried : Tried
    pub octets_are : tried.octets ≡ message
    pub last_is : last ≡ Some tried.now
    pub value : value_of new ≡ after_message (size_of old) from (value_of old) tried
    pub sent_is : sent ≡ sent_for (size_of old) from (value_of old) tried

  -- These messages were answered by a gateway that was opened so, and this is to be sent; the count of faults is no less.
  pub record AnswersAll (from : Addr) (opened : Book A tells) (messages : List (List ℕ)) (sent : List ℕ) (faults : ℕ)
      : Type 0 where
    pub tried : List Tried
    pub octets_are : map (λ m. m.octets) tried ≡ messages
    pub sent_are : sent ≡ sent_for_all (size_of opened) from (value_of opened) tried
    pub cuts : ((after_all (size_of opened) from (value_of opened) tried).cuts + tells.faults (area_of opened)
        ≤ opened.cuts + faults) ⊎ (last_count ≤ faults)

  -- Of the messages that were answered since the gateway was opened, this is to be sent for the last, and this for the
  -- others.
  pub record IsLastOf (from : Addr) (opened : Book A tells) (tried : List Tried) (sent more : List ℕ) : Type 0 where
    pub first : List Tried
    pub last : Tried
    pub tried_are : tried ≡ first ++ last ∷ []
    pub sent_are : sent ≡ sent_for_all (size_of opened) from (value_of opened) first
    pub more_is : more ≡ sent_for (size_of opened) from (after_all (size_of opened) from (value_of opened) first) last

  -- No message stands, and the numbers of a connection say what came: so many octets in all, and so many up to the end of
  -- the last whole message.
  pub record IsSteady (c : Connection A tells) : Type 0 where
    pub none_stands : c.deframer.is_whole ≡ false
    pub good : c.deframer.bad ≡ None
    pub begun : first_fault c.deframer.octets ≡ None
    pub came : c.came ≡ c.deframer.used
    pub start : c.start + length c.deframer.octets ≡ c.came
    pub within : c.came ≤ most_stream

  -- The message that stands was answered, this is to be sent, and the next message begins behind it.
  pub record HasAnsweredOne (old new : Connection A tells) (sent : List ℕ) : Type 0 where
    pub answers : Told tells → Answers old.node old.deframer.octets old.book new.book new.last sent
    pub deframer_is : new.deframer ≡ record old.deframer { octets = []; is_whole = false }
    pub node_is : new.node ≡ old.node
    pub came_is : new.came ≡ old.came
    pub start_is : new.start ≡ old.came

  -- Why a message isn't answered, or its reply not written, and what was written.
  abbrev pub StopsAtMessage : Connection A tells → Connection A tells → Option (List ℕ) → Option (List ℕ) → Status → Type 0
  StopsAtMessage old new before after status.Link = (after ≡ before) × (new.book ≡ old.book) × (new.last ≡ old.last)
  StopsAtMessage old new before after status.Write = (sent : List ℕ)
      × (Told tells → Answers old.node old.deframer.octets old.book new.book new.last sent)
      × AppendsFront before after sent
  StopsAtMessage old new before after _ = ⊥

  -- A connection on which nothing came yet.
  pub record IsBegunOn (c : Connection A tells) : Type 0 where
    pub deframer_is : c.deframer ≡ no_stream
    pub came : c.came ≡ 0
    pub start : c.start ≡ 0
    pub last : c.last ≡ None

  -- Since a gateway was opened so, these octets of a stream came, each whole message of them was answered, and this was
  -- sent. A message begins behind them.
  pub record IsGoingOn (opened : Book A tells) (given sent : List ℕ) (c : Connection A tells) : Type 0 where
    pub messages : List (List ℕ)
    pub follows : Follows given messages c.deframer
    pub steady : IsSteady c
    pub answers : Told tells → (a : AnswersAll c.node opened messages sent (tells.faults (area_of c.book)))
        × (value_of c.book ≡ after_all (size_of opened) c.node (value_of opened) a.tried)
        × (c.last ≡ last_moment a.tried)
    pub stays : Stays opened c.book
    pub cuts : CutsByFaults opened c.book

  -- Of these octets the first messages were answered, and this is to be sent for them.
  pub record HasGoneTo (opened : Book A tells) (given sent : List ℕ) (c : Connection A tells) : Type 0 where
    pub messages : List (List ℕ)
    pub unanswered : List (List ℕ)
    pub frames_are : frames given ≡ messages ++ unanswered
    pub answers : Told tells → (a : AnswersAll c.node opened messages sent (tells.faults (area_of c.book)))
        × (value_of c.book ≡ after_all (size_of opened) c.node (value_of opened) a.tried)
        × (c.last ≡ last_moment a.tried)
    pub stays : Stays opened c.book
    pub cuts : CutsByFaults opened c.book

  -- Why a piece of the stream, of which these octets came with those before, ended the serving, and what was written.
  abbrev pub StopsIn : Book A tells → List ℕ → List ℕ → Connection A tells → Option (List ℕ) → Option (List ℕ) → Status
      → Type 0
  StopsIn opened given sent c before after (status.Input place kind) =
      (s : HasGoneTo opened given sent c) × (s.unanswered ≡ []) × (stream_end given ≡ status.Input place kind) × (after ≡ before)
      × IsSome (first_fault (rest_of given))
  StopsIn opened given sent c before after status.Write =
      (more : List ℕ) × (s : HasGoneTo opened given (sent ++ more) c) × AppendsFront before after more
      × ((told : Told tells) → IsLastOf c.node opened (s.answers told).0.tried sent more)
  StopsIn opened given sent c before after status.Link =
      (s : HasGoneTo opened given sent c) × (s.unanswered ≢ []) × (after ≡ before)
  StopsIn opened given sent c before after _ = ⊥

  -- The reply to the last message was cut: those to the others were written, and a front of it.
  pub record IsCutIn (opened : Book A tells) (c : Connection A tells) (text sent : List ℕ)
      (before after : Option (List ℕ)) : Type 0 where
    pub gone : HasGoneTo opened text sent c
    pub earlier : List ℕ
    pub more : List ℕ
    pub last : (told : Told tells) → IsLastOf c.node opened (gone.answers told).0.tried earlier more
    pub count : ℕ
    pub within : count ≤ length more
    pub written : Appends before after (earlier ++ take count more)

  -- How the serving of a stream ended, of which this was left and is left now.
  pub record HasServedStream (opened : Book A tells) (c : Connection A tells) (left rest before after : Option (List ℕ))
      (result : Result Unit Status) : Type 0 where
    pub text : List ℕ
    pub consumed : Consumes left rest text
    pub bounded : length text ≤ most_stream
    pub sent : List ℕ
    pub ok : result ≡ Ok tt → IsGoingOn opened text sent c × (stream_end text ≡ status.Done)
        × IsStreamRead left rest text × Appends before after sent
    pub err : IfErr result (λ ended. (s : HasGoneTo opened text sent c) × (ends_serving ended ≡ true)
        × LeavesUnanswered ended s.unanswered)
    pub refused : IfErr result (λ ended. (place : ℕ) (kind : InputKind) → ended ≡ status.Input place kind →
        (s : HasGoneTo opened text sent c) × (s.unanswered ≡ []) × (stream_end text ≡ ended) × IsStreamRead left rest text)
    pub front : IfErr result (λ ended. ended ≡ status.Write → AppendsFront before after sent)
    pub cut : IfErr result (λ ended. ended ≡ status.Write → IsCutIn opened c text sent before after)
    pub whole : IfErr result (λ ended. ended ≢ status.Write → Appends before after sent)

  -- A gateway was closed behind a stream, at the moment of its last message, and its area was handed back: all of its
  -- history is firm.
  pub record HasClosed (c : Connection A tells) (area : A) : Type 0 where
    pub book : Book A tells
    pub area_is : area ≡ area_of book
    pub settled : IsSettled c.book book (moment_of c.last) no_caller
    pub leaves : LeavesFit book
    pub stays : Stays c.book book

-- The counts of faults of the sink and the clock say why a message isn't answered and sent: each rose where it was that
-- one's fault, and nowhere else.
pub record CausesReply {X : Type 0} (sink sink' clock clock' : ℕ) (result : Result X Status) : Type 0 where
  pub sink_failed : result ≡ Err status.Write → gw.Rose sink sink'
  pub sink_stood : result ≢ Err status.Write → sink' ≡ sink
  pub clock_failed : result ≡ Err status.Link → gw.Rose clock clock'
  pub clock_stood : result ≢ Err status.Link → clock' ≡ clock
  pub not_source : result ≢ Err status.Read

-- The counts of faults of the source, the sink and the clock say why the serving ended: each rose where it was that one's
-- fault, and nowhere else.
pub record CausesStop {X : Type 0} (source source' sink sink' clock clock' : ℕ) (result : Result X Status) : Type 0 where
  pub source_failed : result ≡ Err status.Read → gw.Rose source source'
  pub source_stood : result ≢ Err status.Read → source' ≡ source
  pub sink_failed : result ≡ Err status.Write → gw.Rose sink sink'
  pub sink_stood : result ≢ Err status.Write → sink' ≡ sink
  pub clock_failed : result ≡ Err status.Link → gw.Rose clock clock'
  pub clock_stood : result ≢ Err status.Link → clock' ≡ clock

module _ {A F : Type 0} (tells : areas.Ghosts A) (files : shelves.Ghosts F) where
  -- It was settled too, and its shelf was handed back: all of its history is written.
  pub record HasEnded (c : Connection A tells) (writer : Writer F files) (area : A) (shelf : F) : Type 0 where
    pub closed : HasClosed tells c area
    pub after : Writer F files
    pub shelf_is : shelf ≡ shelf_of after
    pub settings : settings_in after ≡ settings_in writer
    pub taken : Told tells → HasTakenAll (value_of closed.book).firm after
    pub files_stay : WhereTold (tells_lists tells) (KeepsFiles files (value_of closed.book).firm writer after)

  -- Where the serving had ended well, the settling says how the job ends: well, or with a device that failed, or want of
  -- memory.
  abbrev pub SettlesAs : Connection A tells → Writer F files → A → F → Status → Type 0
  SettlesAs c writer area shelf status.Done = HasEnded c writer area shelf
  SettlesAs c writer area shelf (status.Store fault.Device) =
      Rose (tells.faults (area_of c.book)) (tells.faults area) ⊎ Rose (files.faults (shelf_of writer)) (files.faults shelf)
  SettlesAs c writer area shelf status.Memory = ⊤
  SettlesAs c writer area shelf _ = ⊥

  -- These octets stand for a history that begins with what was firm. Where the writer held the files of its items, the
  -- shelf has the first ones of them.
  pub record LeavesBehind (c : Connection A tells) (writer : Writer F files) (shelf : F) (octets : List ℕ)
      : Type 0 where
    pub history : List HistoryEntry
    pub stands : StandsFitFor (header_of c.book) octets history
    pub begins : Begins (value_of c.book).firm history
    pub filed : IsTrue files.tells_files → HoldsFilesOf (items_of history) writer
        → HasFirstFiles (settings_in writer) history (files.files shelf)

  pub record HasSettledStream (c : Connection A tells) (writer : Writer F files) (served : Result Unit Status)
      (ended : Status) (area : A) (shelf : F) : Type 0 where
    pub later : (tells.faults (area_of c.book) ≤ tells.faults area) × (files.faults (shelf_of writer) ≤ files.faults shelf)
    pub size : tells.size area ≡ size_of c.book
    pub keeps : Told tells → (octets : List ℕ) → tells.may_leave area octets → LeavesBehind c writer shelf octets
    pub closed : ¬ (Rose (tells.faults (area_of c.book)) (tells.faults area)) → HasClosed tells c area
    pub ok : served ≡ Ok tt → SettlesAs c writer area shelf ended
    pub err : IfErr served (λ why. ended ≡ why)
