-- What a gateway stands for once its area was called, or its items were read and written.
use Rattle.std.proofs.Common.{◌≡◌, ◌∙◌, refl, ap, subst, ℕ, ◌-◌, nat_le, Bool, true, false, not, if◌then◌else◌, List, [], ◌++◌, All, length, map, filter, take, Option, Some, arith, length-append, None, ◌+◌, ◌<◌, ◌^◌, drop, length-take, length-drop}
use Rattle.replay_gateway.proofs.Names.{act_decided, Addr, AfterCall, along, append-nil, area_tells, Armed, Book, BookStands, BookValue, Breaks, came_of, cut, decided, disarmed, Down, Drop, ended, entries_kept, Failed, failing, failure_answer, Files, files_in, FilesStand, Filing, filter_passes, firm_in, fortune_by, Gateway, given_at, giving_up, GoesOn, HasLeft, HasMoved, HasWritten, header_at, history_of, HistoryEntry, is_reached, is_response, is_stop, IsCalled, IsUp, Item, items_by, items_of, Left, Machine, MachineStands, MemoryArea, Message, no_caller, node_address, not-true, Nothing, Outcome, prepared_of, PreparedValue, readied, ready_sequel_of, Sent, Sequel, Settings, settling, Setup, Site, SiteIsCalled, SiteIsCut, SiteIsDown, SiteStands, StandsUp, Stays, still, Stopped, Stops, take_all, taken, taken_of, Waiting, Went}
use Rattle.replay_gateway.specs.declared.machine.Machine as real
use Rattle.replay_gateway.proofs.GoesLemmas.{Keeps, answer_grows, stop_breaks}
use Rattle.gateway_book.specs.Read.{IsUnchanged}
use Rattle.replay_gateway.specs.WritingFiles.{WritesFiles}

-- What a gateway stands for once its area was called.

-- What a gateway stands for once its area was called and its answers were sent or given up.

-- more items change nothing of what was written
abbrev pub WrittenStays : Type 0
WrittenStays = (settings : Settings) (f : Filing) (items more : List Item) (r : Files) → FilesStand settings f items r →
    FilesStand settings f (items ++ more) r

-- of those that are left none is reached
pub none_reached : (value : BookValue) (waiting : List Waiting) →
    All (λ w. is_reached value w ≡ false) (filter (λ w. not (is_reached value w)) waiting)
none_reached value waiting = λ k d h. not-true _ (filter_passes (λ w. not (is_reached value w)) waiting k d h)

module _ (setup : Setup) (place : ℕ) (g : Gateway) (m : Machine) (value : BookValue) where
  -- the site of a gateway whose book goes on
  site_goes_on : (armed : Armed) (waiting : List Waiting) (s : Option Site) → g.is_down ≡ false →
      SiteIsCalled setup place value (GoesOn armed) s →
      SiteStands setup place (record g { book = value; waiting = waiting })
      (record m { armed = armed; at_last = false }) s × (firm_in s ≡ length value.firm)
  site_goes_on armed waiting s runs called = grind arith

  -- What waited is sent where its front is firm now.
  pub went : {armed : Armed} {old new : real.Machine} {due : List Message} →
      IsCalled setup place g m value (GoesOn armed) old →
      due ≡ map (λ w. w.message) (filter (λ w. nat_le w.front (firm_in old.site)) old.waiting.items) →
      new.waiting.items ≡ filter (λ w. not (nat_le w.front (firm_in old.site))) old.waiting.items →
      new ≡ record old { waiting = new.waiting } →
      HasMoved setup place (settling (record g { book = value })) (record m { armed = armed; at_last = false }) due new
  went {armed} {old} called due_are later rest =
      let later_is : List Waiting = filter (λ w. not (is_reached value w)) g.waiting in
      let site = site_goes_on armed later_is old.site called.runs called.site in
      record {
        stands = rw rest (record {
          site = site.0;
          waiting = later ∙ ap (λ n. filter (λ (w : Waiting). not (nat_le w.front n)) old.waiting.items) site.1
              ∙ ap (filter (λ w. not (is_reached value w))) called.waiting;
          unreached = none_reached value g.waiting;
          redirects = called.redirects;
          named = called.named;
          writes = called.writes;
        });
        sends = due_are
            ∙ ap (λ n. map (λ (w : Waiting). w.message) (filter (λ (w : Waiting). nat_le w.front n) old.waiting.items))
            site.1 ∙ ap (λ ws. map (λ (w : Waiting). w.message) (filter (is_reached value) ws)) called.waiting;
      }

  -- The gateway broke: requests are told of the failure.
  pub broke : {last : Bool} {old new : real.Machine} {told : List Message} →
      IsCalled setup place g m value (Breaks last) old → told ≡ map (λ w. failing w.message)
      (filter (λ w. is_response w.message) old.waiting.items) → new.waiting.items ≡ [] →
      new ≡ record old { waiting = new.waiting } → HasMoved setup place (giving_up (record g { book = value }))
      (record m { armed = Nothing; at_last = last }) told new
  broke called told_are none rest = record {
    stands = record {
      site = rw rest (grind (arith, called.runs, called.site));
      waiting = none;
      unreached = λ k d h. absurd (omega arith);
      redirects = cc called.redirects;
      named = cc called.named;
      writes = rw rest called.writes;
    };
    sends = cc called.waiting;
  }

  -- The area stopped it: it is down.

  left_by : (stands : Bool) (v : BookValue) →
      take ((if stands then length (v.firm ++ v.rest) else 0) - length v.firm) v.rest ≡ (if stands then v.rest else [])
  left_by true v = take_all (length (v.firm ++ v.rest) - length v.firm) v.rest (omega (arith, length-append v.firm v.rest))
  left_by false v = let none : 0 - length v.firm ≡ 0 = omega arith in cc

  whole_or_firm : (stands : Bool) (firm rest : List HistoryEntry) →
      firm ++ (if stands then rest else []) ≡ (if stands then firm ++ rest else firm)
  whole_or_firm stands firm rest = grind (arith, append-nil)

  -- what the gateway stands for then is what the area leaves
  cut_leaves : (stands : Bool) → (value.firm ≡ g.book.firm) × (value.rest ≡ g.book.rest) →
      history_of (cut (entries_kept stands g) g).book ≡ (if stands then value.firm ++ value.rest else value.firm)
  cut_leaves stands same = cc (left_by stands g.book, whole_or_firm stands g.book.firm g.book.rest, same.0, same.1)

  site_down : {h : _} (after : Gateway) (s : Option Site) → after.is_down ≡ true → after.waiting ≡ [] →
      history_of after.book ≡ h → SiteIsDown setup place h s → SiteStands setup place after (disarmed m) s
  site_down after (Some (Down fallen)) down none is stands = record {
    stopped = down;
    down = rw is stands.down;
    is_armed = stands.is_armed;
    unarmed = (refl, refl);
    silent = none;
    size = stands.size;
  }
  site_down after _ down none is stands = absurd stands

  pub stopped_in : {stands : Bool} {old new : real.Machine} {told : List Message} →
      IsCalled setup place g m value (Stops stands) old →
      ((h : List HistoryEntry) → SiteIsCut setup place h old.site →
      SiteIsDown setup place h new.site × (new.waiting.items ≡ [])) →
      ((h : List HistoryEntry) (items : List Item) → SiteIsCut setup place h old.site →
      FilesStand (files_in setup place) m.filing items old.files →
      FilesStand (files_in setup place) (ended m.filing) items new.files) →
      new ≡ record old { site = new.site; waiting = new.waiting; files = new.files } → told ≡ [] →
      HasMoved setup place (still (cut (entries_kept stands g) g)) (disarmed m) told new
  stopped_in {stands} called cuts ends rest none =
      let h : List HistoryEntry = if stands then value.firm ++ value.rest else value.firm in
      let same = called.cut refl in
      let down = cuts h (grind (arith, called.site)) in
      record {
        stands = record {
          site = site_down _ _ refl refl (cut_leaves stands same) down.0;
          waiting = down.1;
          unreached = λ k d h. absurd (omega arith);
          redirects = cc called.redirects;
          named = cc called.named;
          writes = ends h (items_of g.book.firm) (grind (arith, called.site)) (rw same.0 at called.writes);
        };
        sends = none;
      }

  -- What came of the call decides what it did.

  pub after_went : (s : Sequel) {old new : real.Machine} (sent : Sent) → IsCalled setup place g m value s old →
      came_of s ≡ Went → sent.came ≡ Went →
      sent.messages.items ≡ map (λ w. w.message) (filter (λ w. nat_le w.front (firm_in old.site)) old.waiting.items) →
      new.waiting.items ≡ filter (λ w. not (nat_le w.front (firm_in old.site))) old.waiting.items →
      new ≡ record old { waiting = new.waiting } → AfterCall setup place g m value s sent new
  after_went (GoesOn armed) sent called came is due later rest =
      record { moved = went called due later rest; came = is }
  after_went _ sent called came is due later rest = cc

  pub after_broke : {s old : _} (new : real.Machine) (sent : Sent) → IsCalled setup place g m value s old →
      came_of s ≡ Failed → sent.came ≡ Failed →
      sent.messages.items ≡ map (λ w. failing w.message) (filter (λ w. is_response w.message) old.waiting.items) →
      new.waiting.items ≡ [] → new ≡ record old { waiting = new.waiting } → AfterCall setup place g m value s sent new
  after_broke new sent called came is told none rest = grind (arith, broke)

  pub after_stopped : (s : Sequel) {old new : real.Machine} (sent : Sent) → IsCalled setup place g m value s old →
      came_of s ≡ Stopped → sent.came ≡ Stopped → sent.messages.items ≡ [] →
      ((h : List HistoryEntry) → SiteIsCut setup place h old.site →
      SiteIsDown setup place h new.site × (new.waiting.items ≡ [])) →
      ((h : List HistoryEntry) (items : List Item) → SiteIsCut setup place h old.site →
      FilesStand (files_in setup place) m.filing items old.files →
      FilesStand (files_in setup place) (ended m.filing) items new.files) →
      new ≡ record old { site = new.site; waiting = new.waiting; files = new.files } →
      AfterCall setup place g m value s sent new
  after_stopped (Stops stands) sent called came is none cuts ends rest =
      record { moved = stopped_in called cuts ends rest none; came = is }
  after_stopped _ sent called came is none cuts ends rest = cc

  -- The book was called.

  pub book_stands : {R : Type 0} {s : Sequel} {left : Left R} {result : R} {old new : Book MemoryArea area_tells} →
      StandsUp setup place g m old → HasLeft (header_at setup place) s left new result → Stays old new →
      BookStands setup place left.value s new
  book_stands up has stays =
      record { stands = has.stands; size = stays.size ∙ up.size; open_time = stays.open_time ∙ up.open_time }

  pub is_called : (s : Sequel) {old : _} (new : real.Machine) (site : Site) →
      ((h more : List HistoryEntry) → items_of (h ++ more) ≡ items_of h ++ along items_by h more) → WrittenStays →
      MachineStands setup place g m old → g.is_down ≡ false → new ≡ record old { site = Some site } →
      SiteIsCalled setup place value s (Some site) → (more : List HistoryEntry) × (value.firm ≡ g.book.firm ++ more) →
      (is_stop s ≡ true → (value.firm ≡ g.book.firm) × (value.rest ≡ g.book.rest)) →
      IsCalled setup place g m value s new
  is_called s {old} new site more_items stay stands runs is called grown cut = record {
    runs = runs;
    site = rw is called;
    grown = grown;
    cut = cut;
    waiting = cc stands.waiting;
    redirects = cc stands.redirects;
    named = cc stands.named;
    writes = rw is
        (rw (ap items_of grown.1 ∙ more_items g.book.firm grown.0)
        (stay (files_in setup place) m.filing (items_of g.book.firm) (along items_by g.book.firm grown.0) old.files
        stands.writes));
  }

-- A stop between two calls.
pub stopped : {setup : Setup} {place : ℕ} (g : Gateway) (m : Machine) {old new : real.Machine} →
    MachineStands setup place g m old → SiteIsDown setup place g.book.firm new.site → new.waiting.items ≡ [] →
    FilesStand (files_in setup place) (ended m.filing) (items_of g.book.firm) new.files →
    new ≡ record old { site = new.site; waiting = new.waiting; files = new.files } →
    MachineStands setup place (cut 0 g) (disarmed m) new
stopped {setup} {place} g m stands down none ends rest = record {
  site = site_down _ _ g m g.book _ _ refl refl (cut_leaves setup place g m g.book false (refl, refl)) down;
  waiting = none;
  unreached = λ k d h. absurd (omega arith);
  redirects = cc stands.redirects;
  named = cc stands.named;
  writes = ends;
}

-- What a book makes of a message's datagram.

-- a failure records nothing
pub failure_acts : (d : PreparedValue) → act_decided (decided (failure_answer d)) ≡ None
failure_acts (Drop why) = refl
failure_acts _ = refl

-- a stop leaves all entries
answer_keeps : (armed : Armed) (at_last : Bool) (v : BookValue) (from : Addr) (datagram : PreparedValue) (size now : ℕ) →
    is_stop (ready_sequel_of armed at_last v) ≡ true →
    Keeps v (taken (fortune_by at_last (ready_sequel_of armed at_last v)) from datagram size now no_caller v).value
answer_keeps armed at_last v from datagram size now is =
    let f = fortune_by at_last (ready_sequel_of armed at_last v) in
    let ready = readied f v in
    let broken = stop_breaks _ _ v is in
    let same : (taken f from datagram size now no_caller v).value ≡ ready = cc (broken.0, failure_acts datagram) in
    (cc broken.1.0, cc broken.1.1)

-- The book at a site was given the datagram.
abbrev pub SiteTook : Setup → ℕ → Gateway → Machine → Addr → List ℕ → ℕ → Site → Outcome → Type 0
SiteTook setup place g m from octets now site result =
    let s = ready_sequel_of m.armed m.at_last g.book in
    let left = taken (fortune_by m.at_last s) from (prepared_of octets) setup.size now no_caller g.book in
    SiteIsCalled setup place left.value s (Some site) × (result ≡ left.answer)

pub outcome_called : {setup place : _} (g : Gateway) (m : Machine) (message : Message) (now : ℕ) {from octets old : _}
    (new : real.Machine) (site : Site) (result : Outcome) →
    ((h more : List HistoryEntry) → items_of (h ++ more) ≡ items_of h ++ along items_by h more) → WrittenStays →
    MachineStands setup place g m old → g.is_down ≡ false → from ≡ node_address message.node message.port →
    octets ≡ message.octets → new ≡ record old { site = Some site } →
    SiteTook setup place g m from octets now site result →
    (let s = ready_sequel_of m.armed m.at_last g.book in
    IsCalled setup place g m (taken_of setup m g message now s).value s new ×
    (result ≡ (taken_of setup m g message now s).answer))
outcome_called {setup} {place} g m message now {octets} {old} new site result more_items stay stands runs from_is
    octets_are is took =
    let s = ready_sequel_of m.armed m.at_last g.book in
    let sender = node_address message.node message.port in
    let datagram = prepared_of message.octets in
    let there : SiteTook setup place g m sender message.octets now site result =
    subst (λ (o : List ℕ). SiteTook setup place g m sender o now site result) octets_are
    (subst (λ (a : Addr). SiteTook setup place g m a octets now site result) from_is took) in (
      is_called setup place g m (taken_of setup m g message now s).value s {old = old} new site more_items stay stands
          runs is there.0
          (answer_grows (fortune_by m.at_last s) g.book now no_caller
          (decided (given_at (readied (fortune_by m.at_last s) g.book) sender datagram setup.size)))
          (λ stops. answer_keeps m.armed m.at_last g.book sender datagram setup.size now stops),
      there.1,
    )

-- The items that a gateway's firm entries make, which are read and written.

-- so few items are all
pub are_all : {A : Type 0} (most : ℕ) {items : _} (all : List A) → items ≡ take most all → length items < most →
    items ≡ all
are_all most {items} all is few =
    let count : length items ≡ length (take most all) = cc in
    is ∙ take_all most all (omega (arith, length-take most all))

-- those from one on are few, where all are
pub few_from : {A : Type 0} (from most : ℕ) {items : _} (all : List A) → items ≡ take most (drop from all) →
    length all < 2 ^ 31 → from < 2 ^ 31 → from + length items < 2 ^ 31
few_from from most {items} all is few start =
    let count : length items ≡ length (take most (drop from all)) = cc in
    omega (arith, length-take most (drop from all), length-drop from all)

-- A book that was read is up as before.
pub stays_up : {setup : Setup} {place : ℕ} (g : Gateway) (m : Machine) {old new : Book MemoryArea area_tells} →
    StandsUp setup place g m old → IsUnchanged old new → IsUp (header_at setup place) g.book m.armed m.at_last new →
    StandsUp setup place g m new
stays_up g m stands same up = record {
  runs = stands.runs;
  up = up;
  size = same.stays.size ∙ stands.size;
  open_time = same.stays.open_time ∙ stands.open_time;
}

-- All else of the gateway is as before.
pub site_set : {setup : Setup} {place : ℕ} {g : Gateway} {m : Machine} {old new : real.Machine} →
    MachineStands setup place g m old → SiteStands setup place g m new.site → new ≡ record old { site = new.site } →
    MachineStands setup place g m new
site_set stands site rest = rw rest assumption

-- What is written doesn't matter to the site of one that runs.
-- What is written of its items is something else.
pub files_set : {setup place g m f old : _} (new : real.Machine) →
    MachineStands setup place g m old → g.is_down ≡ false → new ≡ record old { files = new.files } →
    FilesStand (files_in setup place) f (items_of g.book.firm) new.files →
    MachineStands setup place g (record m { filing = f }) new
files_set {setup} {place} {g} {m} {f} {old} new stands runs rest writes =
    let site : SiteStands setup place g (record m { filing = f }) old.site = grind (arith, stands.site) in
    rw rest assumption

-- All items were to be written.
pub writes_files : {setup place g m ended old : _} (new : real.Machine) → MachineStands setup place g m old →
    g.is_down ≡ false → new ≡ record old { files = new.files } → HasWritten (files_in setup place)
    (items_of g.book.firm) m.filing ended new.files → WritesFiles setup place g m ended new
writes_files new stands runs rest written = record {
  came = written.ends;
  stands = files_set new stands runs rest written.stands;
}
