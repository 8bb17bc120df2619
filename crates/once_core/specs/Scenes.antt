-- What each happening makes of gateways, nodes and messages.
use Rattle.std.specs.Prelude.{ℕ, ◌==◌, not, nat_le, nat_lt, Bool, true, false, if◌then◌else◌, List, [], ◌∷◌, ◌++◌, length, map, take, filter, Option, Some, None, slice_get, ◌||◌}
use Rattle.gw_base.specs.Starts.{start_of}
use Rattle.gw_base.specs.declared.cause.TheConstants.{ACCEPTED, ALREADY_FULFILLED, DUPLICATE_ALREADY_FULFILLED}
use Rattle.gw_base.specs.declared.history.Caller.{Caller}
use Rattle.gw_base.specs.declared.history.HistoryAct.{HistoryAct}
use Rattle.gw_base.specs.declared.history.HistoryAct.TheVariants as act
use Rattle.gateway_answer.specs.Answer.{Given}
use Rattle.gateway_answer.specs.Answered.{act_given, entry_by}
use Rattle.once_core.specs.Happenings.{Asks, Answers, Else, Happening, Sends, Hears, Comes, Opens, Notes, Firms, Keeps, Adds, Letter, Meaning, Deed, Sent, Heard, Post, Request, Scene, act_noted, given, history, is_timely, reply}

-- the cause tells a node something of a copy
abbrev pub is_telling : ℕ → Bool
is_telling cause = (cause == ACCEPTED) || (cause == ALREADY_FULFILLED) || (cause == DUPLICATE_ALREADY_FULFILLED)

abbrev pub is_request : Meaning → Bool
is_request (Asks request) = true
is_request (Answers cause) = false
is_request Else = false

abbrev pub is_answer : Meaning → Bool
is_answer (Asks request) = false
is_answer (Answers cause) = true
is_answer Else = false

-- the message neither asks nor tells a node anything of a copy
abbrev pub is_idle : Meaning → Bool
is_idle (Asks request) = false
is_idle (Answers cause) = not (is_telling cause)
is_idle Else = true

-- one value more at a place
abbrev pub at : {A : Type 0} → ℕ → A → (ℕ → A) → ℕ → A
at place value f other = if other == place then value else f other

-- ---- a gateway

-- one entry more waits
abbrev pub noting : ℕ → Caller → HistoryAct → Post → Post
noting now who recorded post = record post { rest = post.rest ++ entry_by (history post) now who recorded ∷ [] }

abbrev pub noting_if : ℕ → Caller → Option HistoryAct → Post → Post
noting_if now who None post = post
noting_if now who (Some recorded) post = noting now who recorded post

-- a node's start becomes known where it is greater than the one that is known
abbrev pub opening : ℕ → Caller → HistoryAct → Bool → Post → Post
opening now who path false post = post
opening now who path true post = noting now who path post

-- what waits, and what is sent
pub record Settled : Type 0 where
  pub post : Post
  pub sends : List Letter

-- the answer is sent at once where the whole history is firm, and waits for a commit where it isn't
abbrev pub waiting_for : Letter → Post → Settled
waiting_for letter post =
    if nat_le (length (history post)) (length post.firm) then record { post = post; sends = letter ∷ [] }
    else record {
      post = record post { waiting = post.waiting ++ record { front = length (history post); letter = letter } ∷ [] };
      sends = [];
    }

abbrev pub answering : ℕ → Caller → Letter → Given → Post → Settled
answering now who letter answer post = waiting_for (reply letter answer) (noting_if now who (act_given answer) post)

-- a request that isn't timely is as lost
abbrev pub coming : (HistoryAct → Bool) → ℕ → Caller → Letter → Request → Post → Settled
coming may now who letter request post =
    if is_timely (history post) letter request then answering now who letter (given (history post) may letter request) post
    else record { post = post; sends = [] }

-- all becomes firm, and the answers are sent whose front is reached
abbrev pub firming : Post → Settled
firming post = record {
  post = record {
    firm = history post;
    rest = [];
    waiting = filter (λ w. not (nat_le w.front (length (history post)))) post.waiting;
  };
  sends = map (λ w. w.letter) (filter (λ w. nat_le w.front (length (history post))) post.waiting);
}

abbrev pub keeping : ℕ → Post → Post
keeping keep post = record { firm = post.firm; rest = take keep post.rest; waiting = [] }

-- ---- all together

abbrev pub with_post : ℕ → Post → Scene → Scene
with_post gateway post scene = record scene { posts = at gateway post scene.posts }

abbrev pub with_settled : ℕ → Settled → Scene → Scene
with_settled gateway settled scene =
    record scene { posts = at gateway settled.post scene.posts; letters = scene.letters ++ settled.sends }

-- a node does this
abbrev pub with_deed : ℕ → Deed → Scene → Scene
with_deed node deed scene = record scene { deeds = at node (scene.deeds node ++ deed ∷ []) scene.deeds }

abbrev pub with_letter : Letter → Scene → Scene
with_letter letter scene = record scene { letters = scene.letters ++ letter ∷ [] }

abbrev pub after_sending : Bool → Letter → Scene → Scene
after_sending false letter scene = scene
after_sending true letter scene = with_letter letter (with_deed letter.node (Sent letter) scene)

abbrev pub after_adding : Bool → Letter → Scene → Scene
after_adding false letter scene = scene
after_adding true letter scene = with_letter letter scene

abbrev pub after_hearing : Bool → Letter → Scene → Scene
after_hearing false letter scene = scene
after_hearing true letter scene = with_deed letter.node (Heard letter) scene

abbrev pub after_coming : (HistoryAct → Bool) → ℕ → Caller → Letter → Meaning → Scene → Scene
after_coming may now who letter (Asks request) scene =
    with_settled letter.gateway (coming may now who letter request (scene.posts letter.gateway)) scene
after_coming may now who letter (Answers cause) scene = scene
after_coming may now who letter Else scene = scene

-- what happens to the message that was sent as the k-th, from 0, where there is one
abbrev pub with_one : Option Letter → (Letter → Scene → Scene) → Scene → Scene
with_one None f scene = scene
with_one (Some letter) f scene = f letter scene

abbrev pub happened : Scene → Happening → Scene
happened scene (Sends letter) = after_sending (is_request letter.says) letter scene
happened scene (Hears k) = with_one (slice_get scene.letters k) (λ letter. after_hearing (is_answer letter.says) letter) scene
happened scene (Comes k may now who) =
    with_one (slice_get scene.letters k) (λ letter. after_coming may now who letter letter.says) scene
happened scene (Opens gateway node port counter now who) =
    with_post gateway
    (opening now who (act.Path node port counter)
    (nat_lt (start_of node.0 (history (scene.posts gateway))) counter) (scene.posts gateway))
    scene
happened scene (Notes gateway note now who) = with_post gateway (noting now who (act_noted note) (scene.posts gateway)) scene
happened scene (Firms gateway) = with_settled gateway (firming (scene.posts gateway)) scene
happened scene (Keeps gateway keep) = with_post gateway (keeping keep (scene.posts gateway)) scene
happened scene (Adds letter) = after_adding (is_idle letter.says) letter scene

-- at the beginning nothing was done
abbrev pub nothing_yet : Scene
nothing_yet = record { posts = λ gateway. record { firm = []; rest = []; waiting = [] }; deeds = λ node. []; letters = [] }

abbrev pub happened_all : Scene → List Happening → Scene
happened_all scene [] = scene
happened_all scene (next ∷ later) = happened_all (happened scene next) later

-- after all of these happenings, the oldest first
abbrev pub scene_after : List Happening → Scene
scene_after happenings = happened_all nothing_yet happenings
