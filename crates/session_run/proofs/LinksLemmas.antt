-- Links of one address that are made, and given back, one after the other, the last first.
use Rattle.std.proofs.Common.{◌≡◌, ◌≢◌, inl, inr, List, [], ◌∷◌, ◌++◌, length, Option, None, Some, Ok, refl, arith, length-append, ⊎_elim, ℕ, ◌<◌, ◌≤◌, sym, ap, ◌∙◌, append_assoc}
use Rattle.session_run.proofs.Names.{added, Addr, All, All-contains, All-head, All-push, All-tail, All-weaker, AnyOf, append-nil, AreNewAt, cases_eq, Contains-append_right, Datagram, GivesBack, HasFailed, HasMade, IfSome, IsIdleAt, IsNewAt, joined, LinkState, received_with, Rose, sent_with, Stop}
use Rattle.net_link.specs.Making.{LinksState, Makes, RoseBy, TakesBack}
use Rattle.net_link.specs.declared.link.Link as paths
use Rattle.session_run.specs.declared.stop.Stop.TheVariants as stop

module _ {L : Type 0} (tells : paths.Ghosts L) (at : Addr) where
  abbrev IsNew : L → Type 0
  IsNew link = IsNewAt at (tells.state link)

  -- a new link of which another was split, and which stands behind the others
  pub new_pushed : (last after : L) (made all : List L) → tells.state after ≡ tells.state last → IsNewAt at (tells.state last)
      → All (λ (l : L). IsNewAt at (tells.state l)) made → all ≡ made ++ after ∷ [] → All (λ (l : L). IsNewAt at (tells.state l)) all
  new_pushed last after made all same new each is = rw is (All-push IsNew made after each (rw same new))

  -- a link that was split of a new one
  pub new_split : (last link : L) → IsNewAt at (tells.state last) → IsNewAt (tells.state last).address (tells.state link)
      → IsNewAt at (tells.state link)
  new_split last link new split = rw new.at at split

  any_last : (P : L → Type 0) (made : List L) (link : L) → P link → AnyOf P (made ++ link ∷ [])
  any_last P [] link one = inl one
  any_last P (l ∷ made) link one = inr (any_last P made link one)

  pub made_all : (old new : LinksState) (begun last : L) (made all : List L) (stops : Option Stop) → IsNewAt at (tells.state begun)
      → Makes L old at (Ok begun) new → ((a : Addr) → IsNewAt a (tells.state begun) → All (λ (l : L). IsNewAt a (tells.state l)) made)
      → ((a : Addr) → IsNewAt a (tells.state begun) → IsIdleAt a (tells.state last))
      → (stops ≡ Some stop.Link → (a : Addr) → IsNewAt a (tells.state begun) → Rose 0 (tells.state last).faults)
      → (stops ≢ Some stop.Clock) → all ≡ made ++ last ∷ [] → HasMade tells at old new all stops
  made_all old new begun last made all stops is_new makes each idle cause clock is =
      let known = makes.made begun refl in
      record {
        idle = rw is (All-push (λ (l : L). IsIdleAt at (tells.state l)) made last
            (All-weaker IsNew (λ (l : L). IsIdleAt at (tells.state l))
            (λ l new. record { address = new.at; turns = new.turns; received = new.received; sent = new.sent })
            made (each at is_new)) (idle at is_new));
        keeps = makes.keeps;
        known = λ some. known.0;
        later = omega (arith, known.1);
        cause = λ why. inr (rw is (any_last (HasFailed tells) made last (cause why at is_new)));
        calm = λ none. known.1;
        no_clock = clock;
      }

  pub five_new : (begun last : L) (made all : List L) (stops : Option Stop) → IsNewAt at (tells.state begun)
      → ((a : Addr) → IsNewAt a (tells.state begun) → All (λ (l : L). IsNewAt a (tells.state l)) made)
      → (stops ≡ None → (length made ≡ 4) × ((a : Addr) → IsNewAt a (tells.state begun) → IsNewAt a (tells.state last))) → all ≡ made ++ last ∷ [] → stops ≡ None
      → AreNewAt tells at all
  five_new begun last made all stops is_new each four is none = rw is (record {
    count = omega (arith, length-append made (last ∷ []), (four none).0);
    new = All-push IsNew made last (each at is_new) ((four none).1 at is_new);
  })

abbrev Told : Type 0
Told = Option (List Datagram)

none_joined : (r : Told) (list : List Datagram) → joined None r ≡ Some list → ⊥
none_joined (Some r) list e = cc e
none_joined None list e = cc e

-- what is told in the end was told before
told_on : (new mid all r : Told) → IfSome new (λ list. joined mid r ≡ Some list) → IfSome mid (λ list. all ≡ Some list)
    → IfSome new (λ list. joined all r ≡ Some list)
told_on None mid all r e f = tt
told_on (Some list) (Some m) all r e f = ap (λ o. joined o r) f ∙ e
told_on (Some list) None all r e f = absurd (none_joined r list e)

same_told : (told : Told) → IfSome told (λ list. told ≡ Some list)
same_told None = tt
same_told (Some list) = refl

-- what stood in a list, and was told before it stood there, was told still earlier
still_told : (new mid old : Told) → IfSome new (λ list. mid ≡ Some list) → IfSome mid (λ list. old ≡ Some list)
    → IfSome new (λ list. old ≡ Some list)
still_told None mid old e f = tt
still_told (Some list) mid old e f = rw e at f

-- Counts of faults.

-- a count that rose has risen still
rose_still : (a b c : ℕ) → a ≤ b → b ≤ c → Rose a b → Rose a c
rose_still a b c up later (inl less) = inl (omega (arith, later, less))
rose_still a b c up later (inr last) =
    ⊎_elim (λ (e : b ≡ c). inr (sym e ∙ last)) (λ (apart : b ≢ c). inl (omega (arith, up, later, apart))) (cases_eq b c)

-- a count rose by that of a link that failed
rose_by : (a b f c : ℕ) → a ≤ b → Rose 0 f → RoseBy b f c → Rose a c
rose_by a b f c up some (inr last) = inr last
rose_by a b f c up (inl some) (inl more) = inl (omega (arith, up, some, more))
rose_by a b f c up (inr last) (inl more) = inl (omega (arith, up, last, more))

module _ {L : Type 0} (tells : paths.Ghosts L) where
  -- Giving back, one link after the other.

  -- of a list, its last one is behind the others, and in front of those that were behind it
  one_behind : (all made rest behind : List L) (link : L) → all ≡ made ++ behind → made ≡ rest ++ link ∷ []
      → all ≡ rest ++ link ∷ behind
  one_behind all made rest behind link e f = rw (e, f) (append_assoc rest (link ∷ []) behind)

  gives_none : (at : Addr) (s : LinksState) → GivesBack tells at s s []
  gives_none at s = record {
    turns = refl;
    received = same_told (s.received at);
    sent = same_told (s.sent at);
    later = omega arith;
    failed = λ none. absurd none;
    calm = λ none. refl;
    made = λ a made. made;
    others_turns = λ a other. refl;
    others_received = λ a other. same_told (s.received a);
    others_sent = λ a other. same_told (s.sent a);
  }

  gives_one : (at : Addr) (old mid new : LinksState) (link : L) (links : List L) → (tells.state link).address ≡ at
      → GivesBack tells at old mid links → TakesBack mid (tells.state link) new → GivesBack tells at old new (link ∷ links)
  gives_one at old mid new link links is_at gave back = record {
    turns = (rw is_at at back.turns) ∙ ap (λ n. added n state.turns) gave.turns;
    received = told_on (new.received at) (mid.received at) (received_with tells (old.received at) links) state.received
        (rw is_at at back.received) gave.received;
    sent = told_on (new.sent at) (mid.sent at) (sent_with tells (old.sent at) links) state.sent
        (rw is_at at back.sent) gave.sent;
    later = omega (arith, gave.later, back.never_falls);
    failed = λ any. ⊎_elim
        (λ (own : Rose 0 state.faults). rose_by old.faults mid.faults state.faults new.faults gave.later own back.faults)
        (λ (others : AnyOf (HasFailed tells) links). rose_still old.faults mid.faults new.faults gave.later back.never_falls (gave.failed others))
        any;
    calm = λ none. back.stood (All-head (λ (l : L). (tells.state l).faults ≡ 0) link links none)
        ∙ gave.calm (All-tail (λ (l : L). (tells.state l).faults ≡ 0) link links none);
    made = λ a made. back.made a (gave.made a made);
    others_turns = λ a other. back.others_turns a (elsewhere a other) ∙ gave.others_turns a other;
    others_received = λ a other. still_told (new.received a) (mid.received a) (old.received a)
        (back.others_received a (elsewhere a other)) (gave.others_received a other);
    others_sent = λ a other. still_told (new.sent a) (mid.sent a) (old.sent a)
        (back.others_sent a (elsewhere a other)) (gave.others_sent a other);
  }
    where
      state : LinkState
      state = tells.state link

      elsewhere : (a : Addr) → a ≢ at → a ≢ state.address
      elsewhere a other e = other (e ∙ is_at)

module _ {L : Type 0} (tells : paths.Ghosts L) (at : Addr) (old : LinksState) where
  -- So far the last ones of all these links were given back.
  pub record AreGivenBack (now : LinksState) (all made : List L) : Type 0 where
    pub behind : List L
    pub split : all ≡ made ++ behind
    pub gave : GivesBack tells at old now behind
    pub known : 0 < length all → now.IsMade at

  pub given_none : (all : List L) → (0 < length all → old.IsMade at) → AreGivenBack old all all
  given_none all known = record { behind = []; split = sym (append-nil all); gave = gives_none tells at old; known = known }

  there_of : (now : LinksState) (all made rest : List L) (link : L) → AreGivenBack now all made → made ≡ rest ++ link ∷ []
      → All (λ l. (tells.state l).address ≡ at) all → (tells.state link).address ≡ at
  there_of now all made rest link given last each =
      All-contains (λ (l : L). (tells.state l).address ≡ at) (rest ++ link ∷ given.behind) link
      (rw (one_behind tells all made rest given.behind link given.split last) at each)
      (Contains-append_right rest (link ∷ given.behind) link (0, omega arith, refl))

  pub may_give : (now : LinksState) (all made rest : List L) (link : L) → AreGivenBack now all made → made ≡ rest ++ link ∷ []
      → All (λ l. (tells.state l).address ≡ at) all → now.IsMade (tells.state link).address
  may_give now all made rest link given last each =
      rw (there_of now all made rest link given last each) (given.known
      (rw (one_behind tells all made rest given.behind link given.split last)
      (omega (arith, length-append rest (link ∷ given.behind)))))

  pub given_one : (now : LinksState) (all made rest : List L) (link : L) (then : LinksState) → AreGivenBack now all made
      → made ≡ rest ++ link ∷ [] → All (λ l. (tells.state l).address ≡ at) all → TakesBack now (tells.state link) then → AreGivenBack then all rest
  given_one now all made rest link then given last each back = record {
    behind = link ∷ given.behind;
    split = one_behind tells all made rest given.behind link given.split last;
    gave = gives_one tells at old now then link given.behind (there_of now all made rest link given last each) given.gave back;
    known = λ some. back.made at (given.known some);
  }

  pub gave_all : (now : LinksState) (all made : List L) → made ≡ [] → AreGivenBack now all made → GivesBack tells at old now all
  gave_all now all made none given = rw (given.split, none) given.gave
