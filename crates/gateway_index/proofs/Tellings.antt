-- What a side says of a history it says, after one more entry, of the history with that entry.
use Rattle.std.proofs.Common.{◌≡◌, ℕ, ◌+◌, ◌^◌, ◌<◌, ◌==◌, ◌&&◌, Bool, true, false, if◌then◌else◌, List, [], ◌∷◌, ◌++◌, Option, Some, None, is_some, length, count_by, refl, sym, ap, ◌∙◌, true≢false, arith, inl, inr, rules}
use Rattle.gateway_index.proofs.Names.{acted, and_parts, any_packet, begins_epoch, copies_of, due_after, epoch_of, eqb-true, fits_with, Fresh, half, has_place, Held, held_keys, HeldKey, HistoryAct, HistoryEntry, holds, if_held, is_fresh, is_in_range, is_in_window, is_list_fit, is_new, is_within, IsFreshAbove, KeyState, leb-false, list_all, list_any, listed_nodes, named_node, NamesHeld, narrowed, nat_le, NodeId, numbered_nodes, Observed, observed, observed_in, opened_nodes, Opening, or_cases, Path, present_state, Seen, seen_after, Side, side_after, state_in, state_of, top_of, Totals, window_of, with_node}
use Rattle.std.proofs.lemmas.List.Sums.{count_by-le-length}
use Rattle.gw_base.specs.EntryLaws.{is_close_due-append, known_nodes-append, last_moment-append, last_tick-append, opening_of-append, start_count-append}
use Rattle.gw_base.specs.Faults.{next_count}
use Rattle.gw_base.specs.HeldKeys.{is_held}
use Rattle.gw_base.specs.HeldLaws.{stranded-append}
use Rattle.gw_base.specs.Starts.{is_start, opening_after, start_count}
use Rattle.gw_base.specs.TickDue.{tick_after}
use Rattle.gw_base.specs.View.{strands}
use Rattle.transfer_cmd.specs.Lists.{is_held as is_held_state}
use Rattle.gateway_index.specs.Tells.{Tells}
use Rattle.gateway_index.specs.WindowLaws.{narrowed_fit}
use Rattle.gateway_index.proofs.HeldLemmas.{copies-le, count-cons, one_if, NamesFree, held_after, same_numbers}
use Rattle.gateway_index.proofs.PairLemmas.{either}

-- ---- the laws of the layers below

-- A number is among the held keys exactly where its key is in that state.
abbrev pub HeldLaw : Type 0
HeldLaw = (node : NodeId) (number : ℕ) (h : List HistoryEntry) → holds node.0 number (held_keys h) ≡ is_held (state_of (record { node = node; epoch = epoch_of node.0 h; number = number }) h)

-- A number's present state is that of its key in the node's present epoch.
abbrev pub PresentLaw : Type 0
PresentLaw = (node : NodeId) (number : ℕ) (h : List HistoryEntry) → state_of (record { node = node; epoch = epoch_of node.0 h; number = number }) h ≡ present_state node.0 number h

-- there are as many held keys as held copies
abbrev pub CountLaw : Type 0
CountLaw = (h : List HistoryEntry) → length (held_keys h) ≡ (copies_of h).held

-- A window follows its node's history, of which nothing above the greatest number has a state.
pub record WindowLaw : Type 0 where
  pub follows : (node : ℕ) (h : List HistoryEntry) (e : HistoryEntry) → IsFreshAbove node h → window_of half node (h ++ e ∷ []) ≡ seen_after half node e.act (window_of half node h)
  pub fresh : (node : ℕ) (h : List HistoryEntry) (e : HistoryEntry) → IsFreshAbove node h → NamesHeld node h e.act → IsFreshAbove node (h ++ e ∷ [])

-- ---- what a side tells of states

pub held_state : (s : KeyState) → is_held s ≡ true → s ≡ Held
held_state s e = grind arith

pub same_held : (s : KeyState) → is_held_state s ≡ is_held s
same_held s = grind arith

module _ (held_law : HeldLaw) (present_law : PresentLaw) (side : Side) (h : List HistoryEntry) (t : Tells side h) where
  held_there : (node : NodeId) (number : ℕ) → is_some (side.held.place_of node.0 number) ≡ is_held (present_state node.0 number h)
  held_there node number = t.held.places node.0 number ∙ held_law node number h ∙ ap is_held (present_law node number h)

  -- a number's state is what the history says, as far as the window reaches
  state_is : (node : NodeId) (number : ℕ) → state_in side node.0 number
      ≡ (if is_in_window (top_of node.0 h) number then present_state node.0 number h else if_held (present_state node.0 number h))
  state_is node number = ap (λ (b : Bool). if b then Held else (side.nodes.window node.0).state number) (held_there node number) ∙ by_held (is_held s) refl
    where
      s : KeyState
      s = present_state node.0 number h

      above : (top : ℕ) → top_of node.0 h ≡ Some top → top < number → Fresh ≡ s
      above top e past = sym (t.above node.0 number (rw e past))

      by_top : is_held s ≡ false → (o : Option ℕ) → top_of node.0 h ≡ o
          → (if is_within half o number then s else Fresh) ≡ (if is_in_window o number then s else if_held s)
      by_top none None e = sym (t.above node.0 number (rw e tt))
      by_top none (Some top) e = by_tests (nat_le top (number + half)) (nat_le number top) refl
        where
          by_tests : (a b : Bool) → nat_le number top ≡ b → (if a && b then s else Fresh) ≡ (if a then s else if_held s)
          by_tests true true f = refl
          by_tests true false f = above top e (leb-false number top f)
          by_tests false b f = sym (ap (λ (b : Bool). if b then Held else Fresh) (same_held s ∙ none))

      by_held : (b : Bool) → is_held s ≡ b → (if b then Held else (side.nodes.window node.0).state number)
          ≡ (if is_in_window (top_of node.0 h) number then s else if_held s)
      by_held b e = grind (arith, held_state, either, by_top)

  -- all that an answer asks
  pub observed_is : (node : NodeId) → observed_in side node ≡ narrowed (observed h node)
  observed_is node = grind (arith, state_is)

  fit_is : (act : HistoryAct) → fits_with any_packet (observed_in side) act ≡ fits_with any_packet (observed h) act
  fit_is act = ap (λ (of : NodeId → Observed). fits_with any_packet of act) (λ i node. observed_is node i) ∙ narrowed_fit any_packet (observed h) act

-- ---- what is fit

-- a number that gets its first state isn't held
pub new_is_free : (side : Side) (node : NodeId) (number : ℕ) → is_new (observed_in side node) number ≡ true
    → is_some (side.held.place_of node.0 number) ≡ false
new_is_free side node number new =
    let o = observed_in side node in
    let a = and_parts (has_place o && is_fresh (o.state number) && is_in_range number) (is_in_window o.top number) new in
    let b = and_parts (has_place o && is_fresh (o.state number)) (is_in_range number) a.0 in
    by_test (is_some (side.held.place_of node.0 number)) ((and_parts (has_place o) (is_fresh (o.state number)) b.0).1)
  where
    by_test : (b : Bool) → is_fresh (if b then Held else (side.nodes.window node.0).state number) ≡ true → b ≡ false
    by_test true fresh = sym fresh
    by_test false fresh = refl

names_free : (side : Side) (act : HistoryAct) → fits_with any_packet (observed_in side) act ≡ true → NamesFree act side.held
names_free side act fit = search (rules, new_is_free)

-- what holds of all numbers of a list holds of each
each_of : (p : ℕ → Bool) (xs : List ℕ) (n : ℕ) → list_all p xs ≡ true → list_any (λ x. x == n) xs ≡ true → p n ≡ true
each_of p [] n all any = absurd (true≢false (sym any))
each_of p (x ∷ xs) n all any =
    let parts = and_parts (p x) (list_all p xs) all in
    elim (or_cases (x == n) (list_any (λ y. y == n) xs) any) [
      | inl same ↦ sym (ap p (eqb-true x n same)) ∙ parts.0
      | inr later ↦ each_of p xs n parts.1 later
    ]

list_held : (o : Observed) (xs : List ℕ) (n : ℕ) → is_list_fit o xs ≡ true → list_any (λ x. x == n) xs ≡ true → o.state n ≡ Held
list_held o xs n fit any = grind (arith, held_state, same_held, each_of)

named_held : (h : List HistoryEntry) (m : NodeId) (xs : List ℕ) (node n : ℕ) → is_list_fit (observed h m) xs ≡ true
    → ((m.0 == node) && list_any (λ x. x == n) xs) ≡ true → present_state node n h ≡ Held
named_held h m xs node n fit named =
    let parts = and_parts (m.0 == node) (list_any (λ x. x == n) xs) named in
    rw (← eqb-true m.0 node parts.0) (list_held (observed h m) xs n fit parts.1)

names_held : (h : List HistoryEntry) (act : HistoryAct) (node : ℕ) → fits_with any_packet (observed h) act ≡ true → NamesHeld node h act
names_held h act node fit = search (rules, named_held)

-- ---- what an act changes of each part

acted_window : (side : Side) (act : HistoryAct) (node : ℕ) → (acted act side).nodes.window node ≡ seen_after half node act (side.nodes.window node)
unfolding numbered_nodes listed_nodes opened_nodes
acted_window side act node = grind arith

acted_opening : (side : Side) (act : HistoryAct) (node : ℕ) → (acted act side).nodes.opening node ≡ opening_after node (side.nodes.opening node) act
unfolding numbered_nodes listed_nodes opened_nodes
acted_opening side act node = grind arith

acted_known : (side : Side) (act : HistoryAct) → (acted act side).nodes.known ≡ with_node side.nodes.known (named_node act)
unfolding numbered_nodes listed_nodes opened_nodes
acted_known side act = grind arith

-- Totals say the same of all but stranded copies.
record SameRest (a b : Totals) : Type 0 where
  starts : a.starts ≡ b.starts
  is_close_due : a.is_close_due ≡ b.is_close_due
  last_tick : a.last_tick ≡ b.last_tick

acted_rest : (act : HistoryAct) (side : Side) → SameRest (acted act side).totals side.totals
acted_rest act side = search rules

none_counts : (p : HeldKey → Bool) → ((key : HeldKey) → p key ≡ false) → (keys : List HeldKey) → count_by p keys ≡ 0
none_counts p none [] = refl
none_counts p none (key ∷ keys) = omega (arith, ap one_if (none key), count-cons p key keys, none_counts p none keys)

unstranded : (h : List HistoryEntry) (e : HistoryEntry) → ((m : ℕ) → begins_epoch m e.act ≡ false)
    → (copies_of (h ++ e ∷ [])).stranded ≡ (copies_of h).stranded
unstranded h e begins = omega (arith, none_counts (λ key. strands e.act key) (λ key. begins key.node.0) (held_keys h), stranded-append h e)

module _ (count_law : CountLaw) (side : Side) (h : List HistoryEntry) (e : HistoryEntry) (fits : length h + 2 < 2 ^ 64) (t : Tells side h) where
  stranded_after : (act : HistoryAct) → e.act ≡ act → (acted act side).totals.stranded ≡ (copies_of (h ++ e ∷ [])).stranded
  stranded_after (Path n port counter) is =
      let of : count_by (λ (key : HeldKey). strands e.act key) (held_keys h) ≡ count_by (λ (key : HeldKey). key.node.0 == n.0) (held_keys h) =
      ap (λ (p : HeldKey → Bool). count_by p (held_keys h)) (λ i key. (ap (λ a. begins_epoch key.node.0 a) is ∙ same_numbers n.0 key.node.0) i) in
      omega (
        arith,
        fits,
        of,
        ap (λ (v : Totals). v.stranded) t.totals,
        t.held.counts n.0,
        stranded-append h e,
        copies-le h,
        count_law h,
        count_by-le-length (λ (key : HeldKey). key.node.0 == n.0) (held_keys h),
      )
  stranded_after _ is = ap (λ (v : Totals). v.stranded) t.totals ∙ sym (unstranded h e (λ m. ap (λ a. begins_epoch m a) is))

-- ---- the law

starts_after : (h : List HistoryEntry) (e : HistoryEntry) → length h + 2 < 2 ^ 64 → (b : Bool) → is_start e.act ≡ b
    → (if b then next_count (start_count h) else start_count h) ≡ start_count (h ++ e ∷ [])
starts_after h e fits b is = grind (arith, start_count-append, count_by-le-length)

-- the side after one more entry says what the history with that entry says
pub tells_after : HeldLaw → PresentLaw → CountLaw → WindowLaw → (side : Side) (h : List HistoryEntry) (e : HistoryEntry) → length h + 2 < 2 ^ 64
    → fits_with any_packet (observed_in side) e.act ≡ true → Tells side h → Tells (side_after e side) (h ++ e ∷ [])
tells_after held_law present_law count_law window_law side h e fits fit t =
    let rest = acted_rest e.act side in
    record {
      windows = λ node. acted_window side e.act node ∙ ap (λ (seen : Seen). seen_after half node e.act seen) (t.windows node)
          ∙ sym (window_law.follows node h e (t.above node));
      openings = λ node. acted_opening side e.act node ∙ ap (λ (o : Option Opening). opening_after node o e.act) (t.openings node)
          ∙ sym (opening_of-append node h e);
      known = acted_known side e.act ∙ ap (λ (ns : List NodeId). with_node ns (named_node e.act)) t.known ∙ sym (known_nodes-append h e);
      held = held_after side h e.moment e.caller e.act (names_free side e.act fit) t.held;
      totals = λ i. record {
        starts = (ap (λ (n : ℕ). if is_start e.act then next_count n else n) (rest.starts ∙ ap (λ (v : Totals). v.starts) t.totals)
            ∙ starts_after h e fits (is_start e.act) refl) i;
        stranded = stranded_after count_law side h e fits t e.act refl i;
        moment = sym (last_moment-append h e) i;
        is_close_due = (ap (λ (b : Bool). due_after b e.act) (rest.is_close_due ∙ ap (λ (v : Totals). v.is_close_due) t.totals)
            ∙ sym (is_close_due-append h e)) i;
        last_tick = (ap (λ (o : Option ℕ). tick_after o e.act e.moment) (rest.last_tick ∙ ap (λ (v : Totals). v.last_tick) t.totals)
            ∙ sym (last_tick-append h e)) i;
      };
      above = λ node. window_law.fresh node h e (t.above node) (names_held h e.act node (sym (fit_is held_law present_law side h t e.act) ∙ fit));
    }
