-- How a world begins is what happens in a scene: each gateway notes its start.
pub use Rattle.once_core.proofs.PartLemmas.{new_gateway}
use Rattle.std.proofs.Common.{◌≡◌, ⊎_elim, ℕ, zero, suc, ◌<◌, ◌≤◌, false, List, [], ◌∷◌, ◌++◌, length, Option, Some, slice_get, refl, sym, ap, subst, ◌∙◌, arith}
use Rattle.once_core.proofs.Names.{Began, beginning, BookValue, cases_lt, committed, deeds_of, first_gateway, first_world, Gateway, gateways_by, happened_all, Happening, history_of, LogEntry, ne_eqb, no_caller, node_ip, Notes, nothing_yet, option_map_or, Post, post_of, Rules, same_Some, Scene, scene_after, settling, slice_get_past, slice_get_within, standing_for, Starts, still, times_of, world_of}
use Rattle.gw_base.specs.declared.history.HistoryAct.TheVariants as act
use Rattle.once_core.proofs.CommitPlays.{firm_plays, whole_book, noted_plays}
use Rattle.once_core.proofs.ListLemmas.{in_none}
use Rattle.once_core.proofs.NodePlays.{NodeRightly}
use Rattle.once_core.proofs.PlayLemmas.{Plays, Rightly, Stands, followed_plays, happened_more, stands_after, none_waits}
use Rattle.once_core.proofs.WorldPlays.{Made}
use Rattle.once_core.proofs.CaseLemmas.{if_both, map_known}

abbrev no_post : Post
no_post = record { firm = []; rest = []; waiting = [] }

-- ---- one gateway

first_plays : (rules : Rules) (place : ℕ) (scene : Scene) → scene.posts place ≡ no_post → Plays place scene (still (first_gateway rules))
first_plays rules place scene post =
    let stands : Stands place scene new_gateway = record { post = post; rightly = none_waits refl } in
    let note = noted_plays stands refl 0 act.Start (Notes place Starts 0 no_caller) refl in
    if_both (λ (v : BookValue). Plays place scene (still (record { book = committed v; waiting = []; is_down = false; redirects = 0 })))
    (rules.room (history_of (standing_for [])) act.Start)
    (followed_plays (λ a. settling (record a { book = whole_book a.book 0 false })) note (firm_plays (stands_after note) 0))
    (firm_plays stands 0)

-- ---- all of them

record FirstScene (rules : ℕ → Rules) (count : ℕ) : Type 0 where
  happenings : List Happening
  scene : Scene
  is : scene_after happenings ≡ scene
  before : (q : ℕ) → q < count → scene.posts q ≡ post_of (first_gateway (rules q))
  behind : (q : ℕ) → count ≤ q → scene.posts q ≡ no_post
  deeds : (node : ℕ) → scene.deeds node ≡ []

first_scene : (rules : ℕ → Rules) (count : ℕ) → FirstScene rules count
first_scene rules zero = record {
  happenings = [];
  scene = nothing_yet;
  is = refl;
  before = λ q lt. absurd (omega (arith, lt));
  behind = λ q le. refl;
  deeds = λ node. refl;
}
first_scene rules (suc count) =
    let s = first_scene rules count in
    let plays = first_plays (rules count) count s.scene (s.behind count (omega arith)) in
    record {
      happenings = s.happenings ++ plays.later;
      scene = plays.after;
      is = happened_more nothing_yet s.happenings plays.later ∙ ap (λ (t : Scene). happened_all t plays.later) s.is ∙ plays.is;
      before = λ q lt. ⊎_elim
          (λ less. plays.goes.others q (ne_eqb q count (λ same. omega (arith, same, less))) ∙ s.before q less)
          (λ more. let same : count ≡ q = omega (arith, lt, more) in subst (λ (k : ℕ). plays.after.posts k ≡ post_of (first_gateway (rules k))) same plays.post)
          (cases_lt q count);
      behind = λ q le. plays.goes.others q (ne_eqb q count (λ same. omega (arith, same, le))) ∙ s.behind q (omega (arith, le));
      deeds = λ node. plays.goes.deeds node ∙ s.deeds node;
    }

-- ---- the world

pub times_each : {A : Type 0} (n : ℕ) (x : A) (k : ℕ) (y : A) → slice_get (times_of n x) k ≡ Some y → x ≡ y
times_each zero x k y e = absurd (cc)
times_each (suc n) x k y e = grind (arith, times_each n x)

gateways_within : (rules : ℕ → Rules) (n k : ℕ) → k < n → slice_get (gateways_by rules n) k ≡ Some (first_gateway (rules k))
gateways_within rules zero k lt = absurd (omega (arith, lt))
gateways_within rules (suc n) zero lt = refl
gateways_within rules (suc n) (suc k) lt = gateways_within (λ place. rules (suc place)) n k (omega (arith, lt))

gateways_many : (rules : ℕ → Rules) (n : ℕ) → length (gateways_by rules n) ≡ n
gateways_many rules zero = refl
gateways_many rules (suc n) = let rest = gateways_many (λ place. rules (suc place)) n in omega (arith, rest)

pub gateways_each : (rules : ℕ → Rules) (n k : ℕ) (g : Gateway) → slice_get (gateways_by rules n) k ≡ Some g → first_gateway (rules k) ≡ g
gateways_each rules n k g e =
    same_Some (first_gateway (rules k)) g
    (sym (gateways_within rules n k (omega (arith, slice_get_within (gateways_by rules n) k g e, gateways_many rules n))) ∙ e)

-- where all are opened by the same rules
gateways_same : (rules : Rules) (n : ℕ) → gateways_by (λ place. rules) n ≡ times_of n (first_gateway rules)
gateways_same rules zero = refl
gateways_same rules (suc n) = ap (λ (gs : List Gateway). first_gateway rules ∷ gs) (gateways_same rules n)

pub same_world : (rules : Rules) (gateways nodes : ℕ) → first_world (λ place. rules) gateways nodes ≡ world_of rules gateways nodes
same_world rules gateways nodes = ap (λ (gs : List Gateway). beginning gs nodes) (gateways_same rules gateways)

pub first_made : (values : ℕ → ℕ → List ℕ) (rules : ℕ → Rules) (gateways nodes : ℕ) → 1 ≤ gateways → Made values (first_world rules gateways nodes)
first_made values rules gateways nodes some =
    let first = first_scene rules gateways in
    let many = gateways_many rules gateways in
    record {
      happenings = first.happenings;
      scene = first.scene;
      is = first.is;
      shows = record {
        posts = λ q. ⊎_elim
            (λ lt. first.before q lt ∙ ap (λ (o : Option Gateway). option_map_or post_of o no_post) (sym (gateways_within rules gateways q lt)))
            (λ le. first.behind q le ∙ ap (λ (o : Option Gateway). option_map_or post_of o no_post)
            (sym (slice_get_past (gateways_by rules gateways) q (omega (arith, le, many)))))
            (cases_lt q gateways);
        deeds = λ p. first.deeds (node_ip p)
            ∙ map_known (λ (log : List LogEntry). [] ≡ deeds_of (node_ip p) (values p) log) (slice_get (times_of nodes (Began ∷ [])) p) (λ none. refl)
            (λ log e. ap (deeds_of (node_ip p) (values p)) (times_each nodes (Began ∷ []) p log e));
        letters = λ m is speaking. in_none m is;
      };
      strangers = λ node less. first.deeds node;
      sound = record {
        some = omega (arith, some, many);
        gateways = λ place g is. subst Rightly (gateways_each rules gateways place g is) (none_waits refl);
        nodes = λ place log is. subst (NodeRightly (length (gateways_by rules gateways)) place) (times_each nodes (Began ∷ []) place log is)
            (record { calls = []; is = refl; counts = record { some = refl; one = omega arith; counter = λ few. refl }; few = omega arith; forms = λ form is. in_none form is });
        messages = λ m is. in_none m is;
      };
    }
