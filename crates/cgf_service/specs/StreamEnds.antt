-- How `stream` ends, and why, and what it leaves.
use Rattle.std.specs.Prelude.{◌≡◌, ◌≢◌, ◌⊎◌, ℕ, ◌+◌, ◌-◌, ◌≤◌, ◌^◌, nat_lt, Bool, true, false, if◌then◌else◌, IsTrue, List, [], ◌∷◌, ◌++◌, length, map, take, Option, Some, None, ⊤}
use Rattle.std.specs.Io.KnownBytes.{Appends, Consumes, IsAtEnd}
use Rattle.area_disk.specs.Disk as disk
use Rattle.area_disk.specs.declared.area.Area as areas
use Rattle.cdr_shelf.specs.declared.shelf.Shelf as shelves
use Rattle.gate_journal.specs.Moments.{Told}
use Rattle.gateway_answer.specs.Answered.{no_caller}
use Rattle.gateway_answer.specs.FitHistory.{StandsFitFor}
use Rattle.gateway_answer.specs.Items.{items_of}
use Rattle.gateway_book.specs.Opened.{IsNotOurs, StandsOrStarts}
use Rattle.gateway_answer.specs.Value.{BookValue, Fortune, after_commit, history_of, opened}
use Rattle.gtpp_stream.specs.Frames.{first_fault, frames, rest_of}
use Rattle.gtpp_stream.specs.declared.frame.FrameKind.{FrameKind}
use Rattle.gw_base.specs.Faults.{Rose}
use Rattle.gw_base.specs.Owes.{Begins}
use Rattle.gw_base.specs.Written.{AppendsFront}
use Rattle.gw_base.specs.declared.history.HistoryEntry.{HistoryEntry}
use Rattle.node_session.specs.Settling.{closed_behind}
use Rattle.replay_gateway.specs.AtRest.{AreShut}
use Rattle.replay_gateway.specs.Setup.{default_setup}
use Rattle.replay_world.specs.declared.replay.Played.{Played}
use Rattle.file_writer.specs.Streams.{Settings}
use Rattle.cgf_jobs.specs.Ending.{HasCause}
use Rattle.cgf_jobs.specs.Job.{Job}
use Rattle.cgf_jobs.specs.Kinds.{of_frame}
use Rattle.cgf_service.specs.Replies.{Tried, after_all, last_moment, message_of, replies, sent_for, sent_for_all}
use Rattle.cgf_jobs.specs.Run.{TakesUpTo, is_reported}
use Rattle.cgf_service.specs.ServeEnds.{IsGatewayEnd, may_have_opened}
use Rattle.cgf_service.specs.Served.{HasAllFiles, HasFirstFiles, HoldsHistory, header_at, moment_of}
use Rattle.cgf_jobs.specs.declared.input_kind.InputKind.TheVariants as input
use Rattle.cgf_service.specs.declared.serving.Serving.{Serving}
use Rattle.cgf_jobs.specs.declared.status.Status.{Status}
use Rattle.cgf_jobs.specs.declared.status.Status.TheVariants as status
use Rattle.cgf_jobs.specs.declared.status.StoreFault.TheVariants as fault
use Rattle.cgf_service.specs.declared.streaming.Streaming.{Streaming}

-- whether a job by these words that ends so may have used its area, its shelf, its links and its clock
abbrev pub may_have_used : Option Serving → Option Streaming → Status → Bool
may_have_used None None ended = false
may_have_used None (Some of) ended = true
may_have_used (Some of) asked ended = may_have_opened ended

-- so many octets are read of a stream at most
abbrev pub most_stream : ℕ
most_stream = 2 ^ 40

-- the place behind the last whole message of a stream, counted from 0
abbrev pub rest_place : List ℕ → ℕ
rest_place text = length text - length (rest_of text)

-- how a stream ends that isn't bad, by the rest that follows its messages
abbrev pub rest_end : ℕ → List ℕ → Status
rest_end place [] = status.Done
rest_end place (octet ∷ rest) = status.Input place input.Rest

-- How a stream ends of which these octets were read: at the octet where it is bad; at the bound; at the first octet of a
-- rest that is no whole message; or well.
abbrev pub end_by : Option FrameKind → List ℕ → Status
end_by (Some kind) text = status.Input (rest_place text) (of_frame kind)
end_by None text =
    if nat_lt (length text) most_stream then rest_end (rest_place text) (rest_of text)
    else status.Input most_stream input.TooLong

abbrev pub stream_end : List ℕ → Status
stream_end text = end_by (first_fault (rest_of text)) text

-- These octets were read of a stream: all of it, or as many as are read at most, or up to the piece in which it is bad.
pub record IsStreamRead (left rest : Option (List ℕ)) (text : List ℕ) : Type 0 where
  pub consumed : Consumes left rest text
  pub bounded : length text ≤ most_stream
  pub whole : first_fault (rest_of text) ≡ None → (length text ≡ most_stream) ⊎ IsAtEnd rest

-- Which whole messages of what was read aren't answered where a stream ends so: at `Link` that for which the clock was
-- asked, and all behind it; at `Write` those behind the one whose reply was cut; at every other end none.
abbrev pub LeavesUnanswered : Status → List (List ℕ) → Type 0
LeavesUnanswered status.Link unanswered = unanswered ≢ []
LeavesUnanswered status.Write unanswered = ⊤
LeavesUnanswered _ unanswered = unanswered ≡ []

-- the settings of its files: the defaults
abbrev pub stream_settings : ℕ → Settings
stream_settings ip = record {
  rules = default_setup.rules;
  limits = default_setup.limits;
  profile = default_setup.profile;
  file = record { offset = default_setup.offset; address = ip };
}

-- These octets stand for a history that begins with these entries.
pub record StandsBehind (name : List ℕ) (firm : List HistoryEntry) (octets : List ℕ) : Type 0 where
  pub history : List HistoryEntry
  pub stands : StandsFitFor name octets history
  pub begins : Begins firm history

module _ {A F : Type 0} (tells : areas.Ghosts A) (files : shelves.Ghosts F) (of : Streaming) (job : Job)
    (area area' : A) (shelf shelf' : F) (clock clock' : ℕ) (ended : Status) where
  -- The gateway at the opening: the history that its area stands for, and a Start where there is room for one.
  abbrev pub opening : List HistoryEntry → BookValue
  opening start = opened (tells.size area) start

  -- Of the octets that were read, the first messages were answered, or all, in order, from the opening on.
  pub record HasAnswered : Type 0 where
    pub start : List HistoryEntry
    pub found : StandsOrStarts (header_at tells area of.ip) (tells.octets area) start
    pub text : List ℕ
    pub consumed : Consumes job.left job.rest text
    pub tried : List Tried
    pub unanswered : List (List ℕ)
    pub messages : frames text ≡ map (λ m. m.octets) tried ++ unanswered
    -- Commits and openings again fail no more often than the device, whose count stands still at its last value.
    pub cuts : ((after_all (tells.size area) of.node (opening start) tried).cuts + tells.faults area ≤ tells.faults area')
        ⊎ (disk.last_count ≤ tells.faults area')
    -- Where it didn't fail, what is sent are the replies at the history that each message leaves.
    pub plain : ¬ (disk.Rose (tells.faults area) (tells.faults area'))
        → sent_for_all (tells.size area) of.node (opening start) tried
        ≡ replies (tells.size area) of.node (history_of (opening start)) (map message_of tried)

  -- the gateway once they were answered, and what was sent for them
  abbrev pub value_left : HasAnswered → BookValue
  value_left s = after_all (tells.size area) of.node (opening s.start) s.tried

  abbrev pub octets_sent : HasAnswered → List ℕ
  octets_sent s = sent_for_all (tells.size area) of.node (opening s.start) s.tried

  -- The gateway was closed behind them: torn entries were taken in or dropped, and a Close was made where one was due,
  -- at the moment of the last message, and at 0 where none was answered. The area handed back stands for that history,
  -- now and after any crash. Its files have all records, and none is open.
  pub record HasClosedBehind (s : HasAnswered) (history : List HistoryEntry) : Type 0 where
    pub last : Fortune
    pub mended : (after_commit last (value_left s)).is_broken ≡ false
    pub history_is : history
        ≡ closed_behind (after_commit last (value_left s)).firm (moment_of (last_moment s.tried)) no_caller
    pub stands : StandsFitFor (header_at tells area of.ip) (tells.octets area') history
    pub crash : (c : List ℕ) → tells.may_leave area' c → StandsFitFor (header_at tells area of.ip) c history
    pub shut : AreShut (items_of history)

  -- What was firm once they were answered stands in the area that is handed back, now and after any crash. Where its
  -- device didn't fail, the gateway was closed behind them, whatever ended the stream.
  pub record KeepsAnswers (s : HasAnswered) : Type 0 where
    pub now : StandsBehind (header_at tells area of.ip) (value_left s).firm (tells.octets area')
    pub crash : (c : List ℕ) → tells.may_leave area' c → StandsBehind (header_at tells area of.ip) (value_left s).firm c
    -- Where the shelf had the first ones of the files of the handed-in history, it has those of these histories.
    pub sealed : IsTrue files.tells_files → HasFirstFiles (stream_settings of.ip) s.start (files.files shelf)
        → HasFirstFiles (stream_settings of.ip) now.history (files.files shelf')
        × ((c : List ℕ) (left : tells.may_leave area' c) →
        HasFirstFiles (stream_settings of.ip) (crash c left).history (files.files shelf'))
    pub closed : ¬ (disk.Rose (tells.faults area) (tells.faults area'))
        → (history : List HistoryEntry) × HasClosedBehind s history

  -- The gateway wasn't opened: nothing was read or written, the clock didn't fail, the shelf is as it was, and the area
  -- holds the history that it held.
  pub record IsUnopened : Type 0 where
    pub unread : job.rest ≡ job.left
    pub unwritten : job.after ≡ job.before
    pub same_shelf : shelf' ≡ shelf
    pub same_clock : clock' ≡ clock
    pub keeps : (start : List HistoryEntry) → HoldsHistory tells (header_at tells area of.ip) area start
        → HoldsHistory tells (header_at tells area of.ip) area' start

  -- All messages were answered, and nothing else was written; the stream says how it ends.
  pub record HasAnsweredAll (s : HasAnswered) : Type 0 where
    pub all : s.unanswered ≡ []
    pub written : Appends job.before job.after (octets_sent s)
    pub read : IsStreamRead job.left job.rest s.text
    pub decided : ended ≡ stream_end s.text

  -- The reply to the last message that was answered was cut: those to the messages before it were written, whole, and a
  -- front of its own.
  pub record IsCutInLast (s : HasAnswered) : Type 0 where
    pub first : List Tried
    pub last : Tried
    pub tried_are : s.tried ≡ first ++ last ∷ []
    pub count : ℕ
    pub within : count ≤ length
        (sent_for (tells.size area) of.node (after_all (tells.size area) of.node (opening s.start) first) last)
    pub written : Appends job.before job.after (sent_for_all (tells.size area) of.node (opening s.start) first
        ++ take count
        (sent_for (tells.size area) of.node (after_all (tells.size area) of.node (opening s.start) first) last))

  -- The gateway was settled behind them. Where the shelf had the first ones of the files that the handed-in history closes,
  -- it has just those that this one closes.
  pub record HasSettledBehind (s : HasAnswered) (history : List HistoryEntry) : Type 0 where
    pub closed : HasClosedBehind s history
    pub sealed : IsTrue files.tells_files → HasFirstFiles (stream_settings of.ip) s.start (files.files shelf)
        → HasAllFiles (stream_settings of.ip) history (files.files shelf')

  -- Nothing failed: not the device of the area, that of the shelf, the clock, the source or the sink.
  pub record IsStreamCalm : Type 0 where
    pub device : ¬ (disk.Rose (tells.faults area) (tells.faults area'))
    pub shelf_runs : ¬ (disk.Rose (files.faults shelf) (files.faults shelf'))
    pub time : ¬ (Rose clock clock')
    pub source : ¬ (Rose job.read_before job.read_after)
    pub sink : ¬ (Rose job.written_before job.written_after)

  -- How it ends where nothing fails, by its area and its stream, unless memory runs out.
  pub record EndsAsSaid (text : List ℕ) : Type 0 where
    pub ours : (h : List HistoryEntry) → StandsOrStarts (header_at tells area of.ip) (tells.octets area) h →
        (ended ≡ status.Memory) ⊎ (ended ≡ stream_end text)
    pub others : (at : ℕ) → IsNotOurs (header_at tells area of.ip) (tells.octets area) at →
        (ended ≡ status.Memory) ⊎ (ended ≡ status.Store (fault.NotOurs at))

  -- What a gateway that answers a stream does, as a whole.
  pub record Streams (played : Option Played) : Type 0 where
    -- At `Done` and at `Input` all messages of the stream were answered, and the stream says which of the two it is.
    pub told : is_reported ended ≡ true → Told tells → (s : HasAnswered) × HasAnsweredAll s × KeepsAnswers s
        × (ended ≡ status.Done → (history : List HistoryEntry) × HasSettledBehind s history)
    -- So it is of any area, whether it tells what it holds or not.
    pub decided : is_reported ended ≡ true →
        (text : List ℕ) × IsStreamRead job.left job.rest text × (ended ≡ stream_end text)
    -- At `Write` a front of the replies is written, which ends in that to the last message that was answered; at every
    -- other end whole ones, of all messages of what was read, at `Link` of the first ones, and nothing else; or the
    -- gateway wasn't opened. However it ends, nothing is lost of what was answered, and the gateway settles.
    pub front : Told tells → ended ≡ status.Write →
        (s : HasAnswered) × AppendsFront job.before job.after (octets_sent s) × IsCutInLast s × KeepsAnswers s
    pub first : Told tells → ended ≢ status.Write →
        IsUnopened ⊎ ((s : HasAnswered) × LeavesUnanswered ended s.unanswered
        × Appends job.before job.after (octets_sent s) × KeepsAnswers s)
    -- At `Memory`, and at `Store` without a place, nothing was read, or the stream had ended well.
    pub behind : (ended ≡ status.Memory) ⊎ (ended ≡ status.Store fault.Device) →
        (job.rest ≡ job.left) ⊎ ((text : List ℕ) × IsStreamRead job.left job.rest text × (stream_end text ≡ status.Done))
    -- At `Store` a device failed; or the area is another's, at the place that shows it. Then it stays as it was, as the
    -- shelf does, and nothing was read or written.
    pub device : ended ≡ status.Store fault.Device →
        disk.Rose (tells.faults area) (tells.faults area') ⊎ disk.Rose (files.faults shelf) (files.faults shelf')
    pub foreign : (at : ℕ) → ended ≡ status.Store (fault.NotOurs at) → (job.rest ≡ job.left) × (job.after ≡ job.before)
        × (shelf' ≡ shelf) × (clock' ≡ clock) × (Told tells →
        IsNotOurs (header_at tells area of.ip) (tells.octets area) at × (tells.octets area' ≡ tells.octets area))
    -- At `Link` the clock failed; at `Read` the source, at `Write` the sink, and at no other end did these.
    pub link : ended ≡ status.Link → Rose clock clock'
    pub time : ended ≢ status.Link → clock' ≡ clock
    pub cause : HasCause ended job.read_before job.read_after job.written_before job.written_after
    -- It ends in one of these ways, no octet past the first 2^40 is taken, and no network is handed back.
    pub known : IsGatewayEnd ended
    pub bound : TakesUpTo most_stream job.left job.rest
    pub none : played ≡ None
    -- Where nothing fails, area and stream decide how it ends, unless memory runs out.
    pub complete : IsStreamCalm → Told tells → (text : List ℕ) → job.left ≡ Some text → length text ≤ most_stream →
        EndsAsSaid text
