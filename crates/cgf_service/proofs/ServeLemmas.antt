-- What `serve` does, by what it read, how the gateway served, and what was written.
use Rattle.std.proofs.Common.{◌≡◌, ◌⊎◌, ⊎_elim, inl, inr, ℕ, ◌+◌, true, List, take, None, Some, Result, Ok, Err, IfErr, IfOk, OnOk, refl, sym, ap, subst, ◌∙◌}
use Rattle.cgf_service.proofs.Names.{Appends, AppendsFront, AreOf, CausesRead, FileSettings, HasServed, header_at, HistoryEntry, InputKind, IsNotOurs, IsRead, IsSetBy, Job, KeepsShelf, LinksState, LosesNothing, may_have_written, of_line, RefusesAsForeign, RefusesSettings, RefusesText, served_line, Serving, SettlesStill, Setup, setup_of, StandsFitFor, StandsOrStarts, Starts, Status, StopsServing, TakesAllTurns, TakesUpTo, Told, UsesLinks, WritesLine}
use Rattle.area_disk.specs.declared.area.Area as areas
use Rattle.cdr_shelf.specs.declared.shelf.Shelf as shelves
use Rattle.gw_base.specs.Faults.{Rose}
use Rattle.world_script.specs.Script.{Refusal, most_text, script_in}
use Rattle.world_script.specs.declared.kind.ScriptKind.TheVariants as kind
use Rattle.world_script.specs.declared.line.Line.{Line}
use Rattle.cgf_jobs.specs.Ending.{HasCause}
use Rattle.cgf_service.specs.ServeEnds.{EndsBy, IsCalm, IsGatewayEnd, IsRefusedAt, ServedBy, Serves, may_have_opened}
use Rattle.cgf_jobs.specs.declared.status.Status.TheVariants as status
use Rattle.cgf_jobs.specs.declared.status.StoreFault.{StoreFault}
use Rattle.cgf_jobs.specs.declared.status.StoreFault.TheVariants as fault
use Rattle.cgf_service.proofs.InputLemmas.{read_front}

-- How a job ends that read no settings, by its end.
abbrev Refuses : Job → Status → Type 0
Refuses job status.Read = Rose job.read_before job.read_after
Refuses job status.Memory = job.read_after ≡ job.read_before
Refuses job (status.Input place why) = (job.read_after ≡ job.read_before) × ((text : List ℕ) × IsRead (most_text + 1) job.left job.rest text
    × ((refusal : Refusal) × (script_in kind.Serve text ≡ Err refusal) × (status.Input place why ≡ status.Input refusal.place (of_line refusal.kind))))
Refuses job _ = ⊥

-- that wrote its line, or a front of it
abbrev Writes : Job → List ℕ → Status → Type 0
Writes job line status.Done = Appends job.before job.after line × (job.written_after ≡ job.written_before)
Writes job line status.Write = AppendsFront job.before job.after line × Rose job.written_before job.written_after
Writes job line _ = ⊥

refuses_by : {X : Type 0} (job : Job) (ended : Status) → RefusesSettings job.left job.rest ended
    → CausesRead {X = X} job.read_before job.read_after (Err ended) → Refuses job ended
refuses_by job ended (inl read) causes = subst (Refuses job) (sym read) (causes.0 (ap (λ (s : Status). Err s) read))
refuses_by job ended (inr (inl memory)) causes = subst (Refuses job) (sym memory) (causes.1 (λ is. cc (memory, is)))
refuses_by job ended (inr (inr settings)) causes = by_text settings.2
  where
    by_text : RefusesText settings.0 ended → Refuses job ended
    by_text (inl memory) = subst (Refuses job) (sym memory) (causes.1 (λ is. cc (memory, is)))
    by_text (inr bad) = subst (Refuses job) (sym bad.2)
        (causes.1 (λ is. cc (bad.2, is)), (settings.0, settings.1, (bad.0, bad.1, refl)))

writes_by : (job : Job) (line : List ℕ) (ended : Status) → WritesLine line job.before job.after job.written_before job.written_after ended → Writes job line ended
writes_by job line ended (inl done) = subst (Writes job line) (sym done.0) (done.1, done.2)
writes_by job line ended (inr front) = subst (Writes job line) (sym front.0) (front.1, front.2)

module _ {A F : Type 0} (tells : areas.Ghosts A) (files : shelves.Ghosts F) (of : Serving) (job : Job)
    (area area' : A) (shelf shelf' : F) (links links' : LinksState) (clock clock' : ℕ) where
  abbrev Stops : Status → Type 0
  Stops ended = StopsServing tells files of area area' shelf shelf' links links' clock clock' ended

  -- ---- no settings were read

  refused_cause : (ended : Status) → Refuses job ended → job.written_after ≡ job.written_before
      → HasCause ended job.read_before job.read_after job.written_before job.written_after
  refused_cause status.Read r same = (r, same)
  refused_cause status.Memory r same = (r, same)
  refused_cause (status.Input place why) r same = (r.0, same)
  refused_cause _ r same = absurd r

  refused_known : (ended : Status) → Refuses job ended → IsGatewayEnd ended
  refused_known status.Read r = tt
  refused_known status.Memory r = tt
  refused_known (status.Input place why) r = tt
  refused_known _ r = absurd r

  refused_complete : (ended : Status) → Refuses job ended → IsCalm tells files of job area area' shelf shelf' links links' clock clock' ended
      → (text : List ℕ) → job.left ≡ Some text
      → EndsBy tells files of job area area' shelf shelf' links links' clock clock' ended (script_in kind.Serve (take (most_text + 1) text))
  refused_complete status.Read r calm text left = absurd (calm.source r)
  refused_complete status.Memory r calm text left = by_script (script_in kind.Serve (take (most_text + 1) text))
    where
      by_script : (s : Result (List Line) Refusal) → EndsBy tells files of job area area' shelf shelf' links links' clock clock' status.Memory s
      by_script (Ok lines) = (λ h stands. inl refl, λ at foreign. inl refl)
      by_script (Err refusal) = inl refl
  refused_complete (status.Input place why) r calm text left =
      let read = r.1 in
      let bad = read.2 in
      let same : read.0 ≡ take (most_text + 1) text = read_front (most_text + 1) text read.0 job.rest
      (rw left at read.1) in
      subst (λ (s : Result (List Line) Refusal). EndsBy tells files of job area area' shelf shelf' links links' clock clock' (status.Input place why) s)
      (sym bad.1 ∙ ap (λ (t : List ℕ). script_in kind.Serve t) same) (inr bad.2)
  refused_complete _ r calm text left = absurd r

  refused_at : (ended : Status) → Refuses job ended → (place : ℕ) (why : InputKind) → ended ≡ status.Input place why
      → (text : List ℕ) × IsRead (most_text + 1) job.left job.rest text × IsRefusedAt (script_in kind.Serve text) ended
  refused_at ended r place why is =
      let found = subst (Refuses job) is r in
      let read = found.1 in
      let bad = read.2 in
      (read.0, read.1, rw bad.1 (is ∙ bad.2))

  pub refused_serves : {X : Type 0} (ended : Status) → RefusesSettings job.left job.rest ended
      → CausesRead {X = X} job.read_before job.read_after (Err ended) → TakesUpTo (most_text + 1) job.left job.rest
      → job.written_after ≡ job.written_before → LosesNothing tells of area area' links links'
      → ((setup : Setup) → KeepsShelf tells files of setup area area' shelf shelf') → UsesLinks of links links'
      → Serves tells files of job area area' shelf shelf' links links' clock clock' ended None
  refused_serves ended refuses causes bound same keeps filed uses =
      let r = refuses_by job ended refuses causes in
      record {
        done = λ is. absurd (subst (Refuses job) is r);
        front = λ is. absurd (subst (Refuses job) is r);
        keeps = keeps;
        shelved = λ text lines left says. filed (setup_of lines);
        refused = refused_at ended r;
        accepted = λ is. absurd (⊎_elim (λ (e : ended ≡ status.Link). subst (Refuses job) e r)
            (λ (e : (why : StoreFault) × (ended ≡ status.Store why)). subst (Refuses job) e.1 r) is);
        device = λ is. absurd (subst (Refuses job) is r);
        foreign = λ at is. absurd (subst (Refuses job) is r);
        link = λ is. absurd (subst (Refuses job) is r);
        closed = λ is. absurd (subst (Refuses job) is r);
        uses = uses;
        cause = refused_cause ended r same;
        known = refused_known ended r;
        bound = bound;
        none = refl;
        complete = λ calm told text left. refused_complete ended r calm text left;
      }

  -- ---- the gateway has no line

  stopped_cause : (ended : Status) → Stops ended → job.read_after ≡ job.read_before → job.written_after ≡ job.written_before
      → HasCause ended job.read_before job.read_after job.written_before job.written_after
  stopped_cause status.Link s read same = (read, same)
  stopped_cause (status.Store why) s read same = (read, same)
  stopped_cause status.Memory s read same = (read, same)
  stopped_cause _ s read same = absurd s

  stopped_known : (ended : Status) → Stops ended → IsGatewayEnd ended
  stopped_known status.Link s = tt
  stopped_known (status.Store why) s = tt
  stopped_known status.Memory s = tt
  stopped_known _ s = absurd s

  -- an area that is found isn't another's
  abbrev Ours : Type 0
  Ours = (octets : List ℕ) (h : List HistoryEntry) (at : ℕ) → StandsFitFor (header_at tells area of.ip) octets h
      → ¬ (IsNotOurs (header_at tells area of.ip) octets at)

  abbrev Others : Type 0
  Others = (octets : List ℕ) (at : ℕ) → IsNotOurs (header_at tells area of.ip) octets at → ¬ (Starts (header_at tells area of.ip) octets)

  found_ours : Ours → Others → (h : List HistoryEntry) (at : ℕ) → StandsOrStarts (header_at tells area of.ip) (tells.octets area) h
      → IsNotOurs (header_at tells area of.ip) (tells.octets area) at → ⊥
  found_ours ours others h at (inl stands) foreign = ours (tells.octets area) h at stands foreign
  found_ours ours others h at (inr starts) foreign = others (tells.octets area) at foreign starts.0

  stopped_calmly : Ours → Others → (ended : Status) → Stops ended → IsCalm tells files of job area area' shelf shelf' links links' clock clock' ended → Told tells
      → (h : List HistoryEntry) → StandsOrStarts (header_at tells area of.ip) (tells.octets area) h → (ended ≡ status.Memory) ⊎ (ended ≡ status.Done)
  stopped_calmly ours others status.Link s calm told h stands = absurd (⊎_elim (λ r. calm.link r) (λ r. calm.time r) s)
  stopped_calmly ours others (status.Store fault.Device) s calm told h stands =
      absurd (⊎_elim (λ r. calm.device r) (λ r. calm.shelf_runs r) s.1)
  stopped_calmly ours others (status.Store (fault.NotOurs at)) s calm told h stands = absurd
      (found_ours ours others h at stands (s.3 told).0)
  stopped_calmly ours others status.Memory s calm told h stands = inl refl
  stopped_calmly ours others _ s calm told h stands = absurd s

  -- what was read is the first of what was left
  same_script : (text left : List ℕ) (lines : List Line) → script_in kind.Serve text ≡ Ok lines → IsRead (most_text + 1) job.left job.rest text
      → job.left ≡ Some left → Ok lines ≡ script_in kind.Serve (take (most_text + 1) left)
  same_script text left lines set read is =
      sym set ∙ ap (λ (t : List ℕ). script_in kind.Serve t)
      (read_front (most_text + 1) left text job.rest (rw is at read))

  -- the settings that were read are those of what was left
  shelved_by : (text : List ℕ) (by : FileSettings) → IsSetBy text by → IsRead (most_text + 1) job.left job.rest text
      → ((setup : Setup) → AreOf setup by → KeepsShelf tells files of setup area area' shelf shelf')
      → (left : List ℕ) (lines : List Line) → job.left ≡ Some left → script_in kind.Serve (take (most_text + 1) left) ≡
      Ok lines
      → KeepsShelf tells files of (setup_of lines) area area' shelf shelf'
  shelved_by text by set read filed left lines is says =
      let same : set.0 ≡ lines = cc (same_script text left set.0 set.1 read is, says) in rw same
      at (filed (setup_of set.0) set.2)

  pub stopped_serves : {X : Type 0} (result : Result X Status) (ended : Status) (text : List ℕ) (by : FileSettings)
      → IsRead (most_text + 1) job.left job.rest text → IsSetBy text by → result ≡ Err ended
      → IfErr result (λ e. Stops e) → (result ≡ Err status.Link → SettlesStill tells of area area' links links')
      → (Told tells → RefusesAsForeign tells of area result) → Ours → Others
      → job.read_after ≡ job.read_before → TakesUpTo (most_text + 1) job.left job.rest → job.written_after ≡ job.written_before
      → LosesNothing tells of area area' links links' → ((setup : Setup) → AreOf setup by → KeepsShelf tells files of
      setup area area' shelf shelf') → UsesLinks of links links'
      → Serves tells files of job area area' shelf shelf' links links' clock clock' ended None
  stopped_serves {X = X} result ended text by read set is_err stops settles foreign_so ours others unread bound same
      keeps filed uses = record {
        done = λ is. absurd (subst (λ (e : Status). Stops e) is s);
        front = λ is. absurd (subst (λ (e : Status). Stops e) is s);
        keeps = keeps;
        shelved = shelved_by text by set read filed;
        refused = λ place why is. absurd (subst (λ (e : Status). Stops e) is s);
        accepted = λ is. (text, read, (set.0, set.1));
        device = λ is. subst (λ (e : Status). Stops e) is s;
        foreign = λ at is. subst (λ (e : Status). Stops e) is s;
        link = λ is. subst (λ (e : Status). Stops e) is s;
        closed = λ is. settles (is_err ∙ ap (λ (e : Status). Err e) is);
        uses = uses;
        cause = stopped_cause ended s unread same;
        known = stopped_known ended s;
        bound = bound;
        none = refl;
        complete = λ calm told left is.
            subst (λ (r : Result (List Line) Refusal). EndsBy tells files of job area area' shelf shelf' links links' clock clock' ended r)
            (same_script text left set.0 set.1 read is)
            (λ h stands. stopped_calmly ours others ended s calm told h stands, λ at not_ours. by_foreign calm at (foreign told at not_ours));
      }
    where
      s : Stops ended
      s = rw is_err at stops

      foreign : Told tells → RefusesAsForeign {X = X} tells of area (Err ended)
      foreign told = rw is_err at (foreign_so told)

      by_foreign : IsCalm tells files of job area area' shelf shelf' links links' clock clock' ended → (at : ℕ)
          → ◌≡◌ {A = Result X Status} (Err ended) (Err (status.Store (fault.NotOurs at)))
          ⊎ (◌≡◌ {A = Result X Status} (Err ended) (Err (status.Store fault.Device)) ⊎ ◌≡◌ {A = Result X Status} (Err ended) (Err status.Memory))
          → (ended ≡ status.Memory) ⊎ (ended ≡ status.Store (fault.NotOurs at))
      by_foreign calm at (inl e) = inr (cc)
      by_foreign calm at (inr (inl e)) =
          let is : ended ≡ status.Store fault.Device = cc e in
          absurd (⊎_elim (λ r. calm.device r) (λ r. calm.shelf_runs r) (subst (λ (e : Status). Stops e) is s).1)
      by_foreign calm at (inr (inr e)) = inl (cc)

  -- ---- the gateway has a line

  written_cause : (line : List ℕ) (ended : Status) → Writes job line ended → job.read_after ≡ job.read_before
      → HasCause ended job.read_before job.read_after job.written_before job.written_after
  written_cause line status.Done w read = (read, w.1)
  written_cause line status.Write w read = (read, w.1)
  written_cause line _ w read = absurd w

  written_known : (line : List ℕ) (ended : Status) → Writes job line ended → IsGatewayEnd ended
  written_known line status.Done w = tt
  written_known line status.Write w = tt
  written_known line _ w = absurd w

  written_calmly : (line : List ℕ) (ended : Status) → Writes job line ended → IsCalm tells files of job area area' shelf shelf' links links' clock clock' ended
      → ended ≡ status.Done
  written_calmly line status.Done w calm = refl
  written_calmly line status.Write w calm = absurd (calm.sink w.1)
  written_calmly line _ w calm = absurd w

  both_true : (line : List ℕ) (ended : Status) → Writes job line ended → (may_have_opened ended ≡ true) × (may_have_written ended ≡ true)
  both_true line status.Done w = (refl, refl)
  both_true line status.Write w = (refl, refl)
  both_true line _ w = absurd w

  module _ {X : Type 0} (octets : X → List ℕ) (result : Result X Status) (x : X) (line : List ℕ) (ended : Status) (text : List ℕ) (by : FileSettings) (is_ok : result ≡ Ok x)
      (is_line : line ≡ octets x) (read : IsRead (most_text + 1) job.left job.rest text)
      (set : IsSetBy text by) (writes : WritesLine line job.before job.after job.written_before job.written_after ended)
      (serves_so : Told tells → (setup : Setup) → AreOf setup by → IfOk result (λ y. (history : List HistoryEntry)
      × HasServed tells files of setup area area' shelf shelf' links links' history × (octets y ≡ served_line history)))
      (turns_so : OnOk result (TakesAllTurns of links links' clock clock'))
      (foreign_so : Told tells → RefusesAsForeign tells of area result) where
    abbrev Grown : Setup → X → Type 0
    Grown setup y = (history : List HistoryEntry)
        × HasServed tells files of setup area area' shelf shelf' links links' history × (octets y ≡ served_line history)

    serves : Told tells → (setup : Setup) → AreOf setup by → Grown setup x
    serves told setup are = rw is_ok at (serves_so told setup are)

    turns : TakesAllTurns of links links' clock clock'
    turns = rw is_ok at turns_so

    served_by : (wrote : List ℕ → Type 0) → wrote line → ServedBy tells files of job area area' shelf shelf' links links' clock clock' ended wrote
    served_by wrote all = record {
      text = text;
      read = read;
      lines = set.0;
      settings = set.1;
      served = λ told. (let found = serves told (setup_of set.0) set.2 in (found.0, found.1, subst wrote (is_line ∙ found.2) all));
    }

    not_foreign : Told tells → (at : ℕ) → IsNotOurs (header_at tells area of.ip) (tells.octets area) at → ⊥
    not_foreign told at not_ours =
        ⊎_elim (λ e. cc (is_ok, e)) (λ o. ⊎_elim (λ e. cc (is_ok, e)) (λ e. cc (is_ok, e)) o)
        (foreign_so told at not_ours)

    pub written_serves : job.read_after ≡ job.read_before → TakesUpTo (most_text + 1) job.left job.rest
        → LosesNothing tells of area area' links links' → ((setup : Setup) → AreOf setup by → KeepsShelf tells files of
        setup area area' shelf shelf') → UsesLinks of links links'
        → Serves tells files of job area area' shelf shelf' links links' clock clock' ended None
    written_serves unread bound keeps filed uses =
        let w = writes_by job line ended writes in
        record {
          done = λ is. (served_by (λ l. Appends job.before job.after l) (subst (Writes job line) is w).0, turns);
          front = λ is. (served_by (λ l. AppendsFront job.before job.after l) (subst (Writes job line) is w).0, turns);
          keeps = keeps;
          shelved = shelved_by text by set read filed;
          refused = λ place why is. absurd (subst (Writes job line) is w);
          accepted = λ is. absurd (⊎_elim (λ (e : ended ≡ status.Link). subst (Writes job line) e w)
              (λ (e : (why : StoreFault) × (ended ≡ status.Store why)). subst (Writes job line) e.1 w) is);
          device = λ is. absurd (subst (Writes job line) is w);
          foreign = λ at is. absurd (subst (Writes job line) is w);
          link = λ is. absurd (subst (Writes job line) is w);
          closed = λ is. absurd (subst (Writes job line) is w);
          uses = uses;
          cause = written_cause line ended w unread;
          known = written_known line ended w;
          bound = bound;
          none = refl;
          complete = λ calm told left is.
              subst (λ (r : Result (List Line) Refusal). EndsBy tells files of job area area' shelf shelf' links links' clock clock' ended r)
              (same_script text left set.0 set.1 read is)
              (λ h stands. inr (written_calmly line ended w calm), λ at not_ours. absurd (not_foreign told at not_ours));
        }
