-- Each move on an inbox keeps its rule.
use Rattle.std.proofs.Common.{◌≡◌, ⊎_elim, inl, inr, ℕ, zero, suc, ◌+◌, ◌<◌, ◌≤◌, List, [], ◌∷◌, ◌++◌, All, length, set, sum_by, take, drop, refl, sym, ap, ◌∙◌, subst, append_assoc, length-append, length-drop, length-take, arith}
use mathlib.Core.Option.{some, some-injective, some-ne-none}
use lib.ListN.{get_elem?, replicate}
use Rattle.std.proofs.lemmas.List.{length-replicate}
use Rattle.std.proofs.lemmas.List.Elements.{All-append, All-cons, All-drop, All-head, All-nil, All-replicate, All-take, All-weaker}
use Rattle.std.proofs.lemmas.List.Sums.{sum_by-append, sum_by-cons, sum_by-take-drop, sum_by_push}
use Rattle.crossbeam_queue.proofs.Lists.{at_set}
use Rattle.crossbeam_queue.specs.Fifo.{Forks, Learns, Merges, Pops, Pushes}
use Rattle.job_inbox.specs.declared.hand.Hand.{Hand}
use Rattle.job_inbox.specs.declared.hand.Hands.{Hands}
use Rattle.job_inbox.specs.declared.job.Job.{Job}
use Rattle.job_inbox.specs.Hands.{Shows, ShowsFirst, StandsIn, weight_put, weight_taken}
use Rattle.job_inbox.specs.Rule.{AreInOrder, Begun, Ends, Knows, Rule, begun, both, bystander, count, first_alone, first_of, hands_of, idle, over, unbegun, with_first, with_put, with_taken, without_first}
use Rattle.job_inbox.proofs.Sublists.{sub_append, sub_more}
use Rattle.job_inbox.proofs.Totals.{Each, all_hands, each_of_all, each_set, each_snoc, length_of_all, sum_of_all, total_ge, total_only, total_set}

pub begins : Rule [] (unbegun ∷ [])
begins = inl (refl, refl)

-- before it is begun there is one seat, which has nothing
alone_there : (views : List Hands) (port : ℕ) (v : Hands) → views ≡ unbegun ∷ [] → get_elem? views port ≡ some v → v ≡ unbegun
alone_there views port v only at = first port (ap (λ l. get_elem? l port) (sym only) ∙ at)
  where
    first : (port : ℕ) → get_elem? (unbegun ∷ []) port ≡ some v → v ≡ unbegun
    first zero e = sym (some-injective unbegun v e)
    first (suc port) e = absurd (some-ne-none v (sym e))

not_unbegun : {P : Type 0} (items : List Job) (views : List Hands) (port : ℕ) (v : Hands) → 1 ≤ v.made → get_elem? views port ≡ some v →
    (Begun items views → P) → Rule items views → P
not_unbegun items views port v lasts at go rule =
    ⊎_elim
    (λ (none : (items ≡ []) × (views ≡ unbegun ∷ [])).
    let nothing : v.made ≡ 0 = ap (λ (u : Hands). u.made) (alone_there views port v none.1 at) in
    absurd (omega arith))
    go
    rule

-- ---- sums, as one of their parts changes

same_total : (now was new old all : ℕ) → now + old ≡ was + new → new ≡ old → was ≡ all → now ≡ all
same_total now was new old all e same whole = omega arith

grown_total : (now was old new whole longer more : ℕ) → now + (0 + old) ≡ was + (0 + new) → new ≡ old + more →
    was ≡ whole → longer ≡ whole + more → now ≡ longer
grown_total now was old new whole longer more e grown was_whole long = omega arith

parted : (now mid was whole first rest : ℕ) → mid + whole ≡ was + rest → now ≡ mid + first → first + rest ≡ whole → now ≡ was
parted now mid was whole first rest e push parts = omega arith

merged : (now mid was one two sum : ℕ) → mid + one ≡ was + sum → now + two ≡ mid + 0 → sum ≡ two + one → now ≡ was
merged now mid was one two sum first second parts = omega arith

shown : (whole mine others left was : ℕ) → whole ≡ mine + others → others ≡ left → left + (0 + mine) ≡ was + 0 → whole ≡ was
shown whole mine others left was parts same e = omega arith

halves : (hands : List Hand) → length (take 1 hands) + length (drop 1 hands) ≡ length hands
halves hands = omega (arith, length-take 1 hands, length-drop 1 hands)

idles : (f : Hand → ℕ) → f idle ≡ 0 → (k : ℕ) → sum_by f (replicate k idle) ≡ 0
idles f none zero = refl
idles f none (suc k) = omega (arith, sum_by-cons f idle (replicate k idle), idles f none k)

-- two seats whose passes are of one number
made_alike : (w v mw mv n : ℕ) → (0 < w → mw ≡ n) → (0 < v → mv ≡ n) → mv ≡ mw → 0 < w + v → mv ≡ n
made_alike zero v mw mv n a b same h = b (omega arith)
made_alike (suc w) v mw mv n a b same h = same ∙ a (omega arith)

-- ---- what others know, as one goes on

more_put : (n : ℕ) (put taken : List Job) (job : Job) (v : Hands) → Knows n put taken v → Knows n (put ++ job ∷ []) taken v
more_put n put taken job v k = record {
  has_begun = k.has_begun;
  made = k.made;
  stand = All-weaker (StandsIn put taken) (StandsIn (put ++ job ∷ []) taken)
      (λ h s. (sub_more h.put put (job ∷ []) s.0, s.1)) v.hands k.stand;
}

more_taken : (n : ℕ) (put taken : List Job) (job : Job) (v : Hands) → Knows n put taken v → Knows n put (taken ++ job ∷ []) v
more_taken n put taken job v k = record {
  has_begun = k.has_begun;
  made = k.made;
  stand = All-weaker (StandsIn put taken) (StandsIn put (taken ++ job ∷ []))
      (λ h s. (s.0, sub_more h.taken taken (job ∷ []) s.1)) v.hands k.stand;
}

-- ---- a job is pushed

push_one : (m port : ℕ) (h : Hand) (job : Job) (items : List Job) (views : List Hands) →
    get_elem? views port ≡ some (hands_of m (h ∷ [])) → Begun items views →
    Begun (items ++ job ∷ []) (set views port (hands_of m (with_put job h ∷ [])))
push_one m port h job items views at b =
    let v : Hands = hands_of m (h ∷ []) in
    let w : Hands = hands_of m (with_put job h ∷ []) in
    let n = b.0 in
    let put = b.1 in
    let taken = b.2 in
    let r : AreInOrder n put taken items views = b.3 in
    let k : Knows n put taken v = r.each port v at in
    let s : StandsIn put taken h = All-head (StandsIn put taken) h [] k.stand in
    let mine : Knows n (put ++ job ∷ []) taken w = record {
      has_begun = k.has_begun;
      made = k.made;
      stand = All-cons (StandsIn (put ++ job ∷ []) taken) (with_put job h) []
          (sub_append h.put put (job ∷ []) s.0, s.1) (All-nil (StandsIn (put ++ job ∷ []) taken));
    } in (
      n,
      put ++ job ∷ [],
      taken,
      record {
        order = ap (λ l. l ++ job ∷ []) r.order ∙ append_assoc taken items (job ∷ []);
        passes = same_total _ _ 1 1 n (total_set count views port v w at) refl r.passes;
        each = each_set (Knows n (put ++ job ∷ []) taken) views port w mine
            (λ j u e. more_put n put taken job u (r.each j u e));
        puts = λ weight. grown_total _ _ (sum_by weight h.put) _ _ _ (weight job)
            (total_set (over (weight_put weight)) views port v w at) (sum_by_push weight h.put job)
            (r.puts weight) (sum_by_push weight put job);
        takes = λ weight. same_total _ _ _ _ _ (total_set (over (weight_taken weight)) views port v w at) refl (r.takes weight);
      },
    )

-- the one pass of a seat did something more
goes : (f : Hand → Hand) (v : Hands) (m : ℕ) (h : Hand) → v ≡ hands_of m (h ∷ []) → hands_of m (f h ∷ []) ≡ with_first f v
goes f v m h is = sym (ap (with_first f) is)

pub pushes : (n port : ℕ) (v : Hands) (m : ℕ) (h : Hand) (job : Job) → 1 ≤ m → v ≡ hands_of m (h ∷ []) →
    Pushes Rule n port v job (λ w. w ≡ with_first (with_put job) v)
pushes n port v m h job lasts is items views room rule at =
    let at' : get_elem? views port ≡ some (hands_of m (h ∷ [])) = at ∙ ap (λ (u : Hands). some u) is in (
      hands_of m (with_put job h ∷ []),
      inr (not_unbegun items views port (hands_of m (h ∷ [])) lasts at' (push_one m port h job items views at') rule),
      goes (with_put job) v m h is,
    )

-- ---- a job is taken

take_one : (m port : ℕ) (h : Hand) (job : Job) (items : List Job) (views : List Hands) →
    get_elem? views port ≡ some (hands_of m (h ∷ [])) → Begun (job ∷ items) views →
    Begun items (set views port (hands_of m (with_taken job h ∷ [])))
take_one m port h job items views at b =
    let v : Hands = hands_of m (h ∷ []) in
    let w : Hands = hands_of m (with_taken job h ∷ []) in
    let n = b.0 in
    let put = b.1 in
    let taken = b.2 in
    let r : AreInOrder n put taken (job ∷ items) views = b.3 in
    let k : Knows n put taken v = r.each port v at in
    let s : StandsIn put taken h = All-head (StandsIn put taken) h [] k.stand in
    let mine : Knows n put (taken ++ job ∷ []) w = record {
      has_begun = k.has_begun;
      made = k.made;
      stand = All-cons (StandsIn put (taken ++ job ∷ [])) (with_taken job h) []
          (s.0, sub_append h.taken taken (job ∷ []) s.1) (All-nil (StandsIn put (taken ++ job ∷ [])));
    } in (
      n,
      put,
      taken ++ job ∷ [],
      record {
        order = r.order ∙ sym (append_assoc taken (job ∷ []) items);
        passes = same_total _ _ 1 1 n (total_set count views port v w at) refl r.passes;
        each = each_set (Knows n put (taken ++ job ∷ [])) views port w mine
            (λ j u e. more_taken n put taken job u (r.each j u e));
        puts = λ weight. same_total _ _ _ _ _ (total_set (over (weight_put weight)) views port v w at) refl (r.puts weight);
        takes = λ weight. grown_total _ _ (sum_by weight h.taken) _ _ _ (weight job)
            (total_set (over (weight_taken weight)) views port v w at) (sum_by_push weight h.taken job)
            (r.takes weight) (sum_by_push weight taken job);
      },
    )

-- ---- what a moment shows

show_one : (m port : ℕ) (h : Hand) (items : List Job) (views : List Hands) →
    get_elem? views port ≡ some (hands_of m (h ∷ [])) → Begun items views → Shows m h items
show_one m port h items views at b =
    let v : Hands = hands_of m (h ∷ []) in
    let none : Hands = hands_of m [] in
    let put = b.1 in
    let taken = b.2 in
    let r : AreInOrder b.0 put taken items views = b.3 in
    let k : Knows b.0 put taken v = r.each port v at in
    let made : m ≡ b.0 = k.made (omega arith) in
    let others = set views port none in
    let counts : sum_by count others + 1 ≡ sum_by count views + 0 = total_set count views port v none at in
    let own = λ (f : Hand → ℕ). shown _ _ _ _ _ (sum_by-cons f h (all_hands others)) (sum_of_all f others)
    (total_set (over f) views port v none at) in
    let stand : All (StandsIn put taken) (all_hands others) =
    each_of_all (StandsIn put taken) others
    (each_set (λ (u : Hands). All (StandsIn put taken) u.hands) views port none (All-nil (StandsIn put taken))
    (λ j u e. (r.each j u e).stand)) in (
      all_hands others,
      omega (arith, length_of_all others, r.passes),
      (
        put,
        taken,
        record {
          order = r.order;
          stand = All-cons (StandsIn put taken) h (all_hands others) (All-head (StandsIn put taken) h [] k.stand) stand;
          puts = λ weight. own (weight_put weight) ∙ r.puts weight;
          takes = λ weight. own (weight_taken weight) ∙ r.takes weight;
        },
      ),
    )

pub shows : (port : ℕ) (v : Hands) (m : ℕ) (h : Hand) → 1 ≤ m → v ≡ hands_of m (h ∷ []) →
    Learns Rule port v (λ items. Shows v.made (first_of v.hands) items)
shows port v m h lasts is items views rule at =
    let at' : get_elem? views port ≡ some (hands_of m (h ∷ [])) = at ∙ ap (λ (u : Hands). some u) is in
    subst (λ (u : Hands). Shows u.made (first_of u.hands) items) (sym is)
    (not_unbegun items views port (hands_of m (h ∷ [])) lasts at' (show_one m port h items views at') rule)

-- ---- a job is taken, which was the first

pub takes : (port : ℕ) (v : Hands) (m : ℕ) (h : Hand) → 1 ≤ m → v ≡ hands_of m (h ∷ []) →
    Pops Rule port v (λ job w. (w ≡ with_first (with_taken job) v) × ShowsFirst v.made (first_of v.hands) job)
takes port v m h lasts is job items views rule at =
    let at' : get_elem? views port ≡ some (hands_of m (h ∷ [])) = at ∙ ap (λ (u : Hands). some u) is in (
      hands_of m (with_taken job h ∷ []),
      inr (not_unbegun (job ∷ items) views port (hands_of m (h ∷ [])) lasts at' (take_one m port h job items views at') rule),
      (goes (with_taken job) v m h is, (items, shows port v m h lasts is (job ∷ items) views rule at)),
    )

-- ---- the queue is begun

pub starts : (port all : ℕ) → 0 < all → Forks Rule port unbegun bystander (begun all)
starts port all lasts items views rule at = ⊎_elim fresh (λ (b : Begun items views). absurd (never b)) rule
  where
    never : Begun items views → ⊥
    never b = let k = b.3.each port unbegun at in let one : 1 ≤ 0 = k.has_begun in omega arith

    gone : Knows all [] [] bystander
    gone = record {
      has_begun = omega arith;
      made = λ here. absurd (omega arith);
      stand = All-nil (StandsIn [] []);
    }

    idlers : Knows all [] [] (begun all)
    idlers = record {
      has_begun = omega arith;
      made = λ here. refl;
      stand = All-replicate (StandsIn [] []) all idle (refl, refl);
    }

    first : Each (Knows all [] []) (bystander ∷ [])
    first zero v e = subst (Knows all [] []) (some-injective bystander v e) gone
    first (suc port) v e = absurd (some-ne-none v (sym e))

    base : items ≡ [] → (port : ℕ) → get_elem? (unbegun ∷ []) port ≡ some unbegun →
        Rule items (set (unbegun ∷ []) port bystander ++ begun all ∷ [])
    base none zero e = inr (
      all,
      [],
      [],
      record {
        order = sym none;
        passes = omega (arith, length-replicate all idle);
        each = each_snoc (Knows all [] []) (bystander ∷ []) (begun all) idlers first;
        puts = λ weight. omega (arith, idles (weight_put weight) refl all);
        takes = λ weight. omega (arith, idles (weight_taken weight) refl all);
      },
    )
    base none (suc port) e = absurd (some-ne-none unbegun (sym e))

    fresh : (items ≡ []) × (views ≡ unbegun ∷ []) → Rule items (set views port bystander ++ begun all ∷ [])
    fresh none =
        subst (λ (l : List Hands). get_elem? l port ≡ some unbegun → Rule items (set l port bystander ++ begun all ∷ []))
        (sym none.1) (base none.0 port) at

-- ---- a pass gets a seat of its own

pub splits : (port : ℕ) (v : Hands) → 1 ≤ v.made → Forks Rule port v (without_first v) (first_alone v)
splits port v lasts items views rule at = inr (not_unbegun items views port v lasts at cut rule)
  where
    cut : Begun items views → Begun items (set views port (without_first v) ++ first_alone v ∷ [])
    cut b =
        let n = b.0 in
        let put = b.1 in
        let taken = b.2 in
        let r : AreInOrder n put taken items views = b.3 in
        let k : Knows n put taken v = r.each port v at in
        let total = λ (f : Hand → ℕ). parted _ _ _ _ _ _ (total_set (over f) views port v (without_first v) at)
        (sum_by_push (over f) (set views port (without_first v)) (first_alone v)) (sum_by-take-drop f v.hands 1) in
        let kept : Knows n put taken (without_first v) = record {
          has_begun = k.has_begun;
          made = λ here. k.made (omega (arith, length-drop 1 v.hands));
          stand = All-drop (StandsIn put taken) 1 v.hands k.stand;
        } in
        let given : Knows n put taken (first_alone v) = record {
          has_begun = k.has_begun;
          made = λ here. k.made (omega (arith, length-take 1 v.hands));
          stand = All-take (StandsIn put taken) 1 v.hands k.stand;
        } in (
          n,
          put,
          taken,
          record {
            order = r.order;
            passes = parted _ _ _ _ _ _ (total_set count views port v (without_first v) at)
                (sum_by_push count (set views port (without_first v)) (first_alone v)) (halves v.hands) ∙ r.passes;
            each = each_snoc (Knows n put taken) (set views port (without_first v)) (first_alone v) given
                (each_set (Knows n put taken) views port (without_first v) kept r.each);
            puts = λ weight. total (weight_put weight) ∙ r.puts weight;
            takes = λ weight. total (weight_taken weight) ∙ r.takes weight;
          },
        )

-- ---- a pass is taken into another's seat

pub joins : (port : ℕ) (v : Hands) (other : ℕ) (w : Hands) → 1 ≤ v.made → v.made ≡ w.made →
    Merges Rule port v other w (both v w) bystander
joins port v other w lasts alike items views rule at apart at' = inr (not_unbegun items views port v lasts at join rule)
  where
    was : get_elem? views other ≡ some w
    was = ⊎_elim (λ x. absurd (apart x.0)) (λ x. x.1) (at_set views port other (both v w) w at')

    join : Begun items views → Begun items (set (set views port (both v w)) other bystander)
    join b =
        let n = b.0 in
        let put = b.1 in
        let taken = b.2 in
        let r : AreInOrder n put taken items views = b.3 in
        let k : Knows n put taken v = r.each port v at in
        let l : Knows n put taken w = r.each other w was in
        let together : Knows n put taken (both v w) = record {
          has_begun = k.has_begun;
          made = λ here. made_alike (length w.hands) (length v.hands) w.made v.made n l.made k.made alike
              (omega (arith, length-append w.hands v.hands));
          stand = All-append (StandsIn put taken) w.hands v.hands l.stand k.stand;
        } in
        let gone : Knows n put taken bystander = record {
          has_begun = omega arith;
          made = λ here. absurd (omega arith);
          stand = All-nil (StandsIn put taken);
        } in
        let total = λ (f : Hand → ℕ). merged _ _ _ _ _ _
        (total_set (over f) views port v (both v w) at)
        (total_set (over f) (set views port (both v w)) other w bystander at')
        (sum_by-append f w.hands v.hands) in (
          n,
          put,
          taken,
          record {
            order = r.order;
            passes = merged _ _ _ _ _ _ (total_set count views port v (both v w) at)
                (total_set count (set views port (both v w)) other w bystander at') (length-append w.hands v.hands) ∙ r.passes;
            each = each_set (Knows n put taken) (set views port (both v w)) other bystander gone
                (each_set (Knows n put taken) views port (both v w) together r.each);
            puts = λ weight. total (weight_put weight) ∙ r.puts weight;
            takes = λ weight. total (weight_taken weight) ∙ r.takes weight;
          },
        )

-- ---- who has all passes knows the whole

pub ends : (port : ℕ) (v : Hands) → 1 ≤ v.made → v.made ≤ length v.hands → Learns Rule port v (Ends v)
ends port v lasts all items views rule at = not_unbegun items views port v lasts at told rule
  where
    told : Begun items views → Ends v items
    told b =
        let n = b.0 in
        let put = b.1 in
        let taken = b.2 in
        let r : AreInOrder n put taken items views = b.3 in
        let k : Knows n put taken v = r.each port v at in
        let made : v.made ≡ n = k.made (omega arith) in
        let within : count v ≤ sum_by count views = total_ge count views port v at in
        let whole : sum_by count views ≡ count v = omega (arith, r.passes) in (
          omega (arith, r.passes),
          (
            put,
            taken,
            record {
              order = r.order;
              stand = k.stand;
              puts = λ weight. sym (total_only (weight_put weight) views port v at whole) ∙ r.puts weight;
              takes = λ weight. sym (total_only (weight_taken weight) views port v at whole) ∙ r.takes weight;
            },
          ),
        )
