-- A world goes on with a gateway's move and with a node's call, and so with each turn: they are what happens in a scene.
use Rattle.std.proofs.Common.{◌≡◌, ℕ, zero, suc, ◌<◌, ◌≤◌, List, [], ◌∷◌, ◌++◌, length, length-set, Option, Some, Contains, slice_get, slice_set, refl, sym, ap, subst, ◌∙◌, arith, ne_eqb, take, true}
use Rattle.once_core.proofs.Names.{at_gateway, at_node, Called, called, deeds_of, delivered_to_node, first_node_ip, forms_ever, Gateway, gateway_moved, happened_all, Happening, letter_of, log_at, LogEntry, Message, Moved, node_called, node_ip, nothing_yet, option_map_or, post_of, RolesRead, Rules, runs, same_Some, Scene, scene_after, Shows, speaks, starts_in, submitting, ticking, Turn, turn, World}
use Rattle.once_core.proofs.MeaningLemmas.{Said, ReadsBack}
use Rattle.once_core.proofs.NodePlays.{NodePlays, NodeRightly, NodeStands, halt_turns, hear_turns, start_turns, submit_turns}
use Rattle.once_core.proofs.PlayLemmas.{Plays, Rightly, Stands, happened_more, of_both}
use Rattle.once_core.proofs.CaseLemmas.{map_known, set_known}
use Rattle.node_core.specs.Reached as call
use Rattle.once_core.proofs.FormLemmas.{RecordsSpelled}
use Rattle.once_core.proofs.NumberLemmas.{Values}
use Rattle.once_core.proofs.SendingPlays.{NodesFollow, OneCopyEach, tick_turns}
use Rattle.once_core.proofs.CommitPlays.{Played, parts_play}
use Rattle.once_core.proofs.PartLemmas.{TurnKeeps, turn_keeps, log_there}
use Rattle.once_core.proofs.DeliverPlays.{answers_play, failed_plays, redirected_plays}
use Rattle.once_core.proofs.ListLemmas.{in_front}

-- ---- one place of a list

pub get_set : {A : Type 0} (xs : List A) (p : ℕ) (x y : A) → slice_get xs p ≡ Some y → slice_get (slice_set xs p x) p ≡ Some x
get_set [] p x y e = absurd (cc)
get_set (z ∷ xs) zero x y e = refl
get_set (z ∷ xs) (suc p) x y e = get_set xs p x y e

-- ---- worlds that happenings make

-- what holds of each world
pub record Sound (w : World) : Type 0 where
  pub some : 1 ≤ length w.gateways
  pub gateways : (place : ℕ) (g : Gateway) → slice_get w.gateways place ≡ Some g → Rightly g
  pub nodes : (place : ℕ) (log : List LogEntry) → slice_get w.nodes place ≡ Some log → NodeRightly (length w.gateways) place log
  pub messages : (m : Message) → Contains w.messages m → Said m

-- some happenings make it, and what is no node of a world does nothing
pub record Made (values : ℕ → ℕ → List ℕ) (w : World) : Type 0 where
  pub happenings : List Happening
  pub scene : Scene
  pub is : scene_after happenings ≡ scene
  pub shows : Shows values w scene
  pub strangers : (node : ℕ) → node < first_node_ip → scene.deeds node ≡ []
  pub sound : Sound w

-- at another moment, with no more messages
pub less_made : {values : ℕ → ℕ → List ℕ} {w : World} → Made values w → (now : ℕ) (messages : List Message) → ((m : Message) → Contains messages m → Contains w.messages m)
    → Made values (record w { now = now; messages = messages })
less_made made now messages within = record {
  happenings = made.happenings;
  scene = made.scene;
  is = made.is;
  shows = record { posts = made.shows.posts; deeds = made.shows.deeds; letters = λ m is. made.shows.letters m (within m is) };
  strangers = made.strangers;
  sound = record { some = made.sound.some; gateways = made.sound.gateways; nodes = made.sound.nodes; messages = λ m is. made.sound.messages m (within m is) };
}

module _ {values : ℕ → ℕ → List ℕ} {w : World} (made : Made values w) (place : ℕ) where
  more_made : {scene : Scene} (later : List Happening) → happened_all made.scene later ≡ scene → scene_after (made.happenings ++ later) ≡ scene
  more_made later is = happened_more nothing_yet made.happenings later ∙ ap (λ (s : Scene). happened_all s later) made.is ∙ is

  move_made : (g : Gateway) → slice_get w.gateways place ≡ Some g → (moved : Moved) → Plays place made.scene moved → Made values (gateway_moved w place moved)
  move_made g there moved plays =
      let same = length-set w.gateways place moved.gateway in
      record {
        happenings = made.happenings ++ plays.later;
        scene = plays.after;
        is = more_made plays.later plays.is;
        shows = record {
          posts = set_known w.gateways place moved.gateway g there (λ q (o : Option Gateway). plays.after.posts q ≡ option_map_or post_of o (record { firm = []; rest = []; waiting = [] })) plays.post
              (λ q apart. plays.goes.others q (ne_eqb q place apart) ∙ made.shows.posts q);
          deeds = λ p. plays.goes.deeds (node_ip p) ∙ made.shows.deeds p;
          letters = of_both w.messages moved.sends (λ m. speaks m ≡ true → Contains plays.after.letters (letter_of m))
              (λ m is speaking. plays.goes.letters (letter_of m) (made.shows.letters m is speaking)) plays.sends;
        };
        strangers = λ p less. plays.goes.deeds p ∙ made.strangers p less;
        sound = record {
          some = let some = made.sound.some in omega (arith, same, some);
          gateways = set_known w.gateways place moved.gateway g there (λ q (o : Option Gateway). (a : Gateway) → o ≡ Some a → Rightly a)
              (λ a e. subst Rightly (same_Some moved.gateway a e) plays.rightly) (λ q apart. made.sound.gateways q);
          nodes = λ p log is. subst (λ (n : ℕ). NodeRightly n p log) (sym same) (made.sound.nodes p log is);
          messages = of_both w.messages moved.sends Said made.sound.messages plays.said;
        };
      }

  pub gateway_made : (move : Gateway → Moved) → ((g : Gateway) → Stands place made.scene g → Plays place made.scene (move g)) → Made values (at_gateway w place move)
  gateway_made move plays = map_known (Made values) (slice_get w.gateways place) (λ none. made)
      (λ g there. move_made g there (move g) (plays g (record {
        post = made.shows.posts place ∙ ap (λ (o : Option Gateway). option_map_or post_of o (record { firm = []; rest = []; waiting = [] })) there;
        rightly = made.sound.gateways place g there;
      })))

  call_made : (log : List LogEntry) → slice_get w.nodes place ≡ Some log → (call : Called) → NodePlays (node_ip place) (values place) made.scene call
      → NodeRightly (length w.gateways) place call.log → Made values (node_called w place call)
  call_made log there call plays rightly = record {
    happenings = made.happenings ++ plays.later;
    scene = plays.after;
    is = more_made plays.later plays.is;
    shows = record {
      posts = λ q. plays.posts q ∙ made.shows.posts q;
      deeds = set_known w.nodes place call.log log there
          (λ q (o : Option (List LogEntry)). plays.after.deeds (node_ip q) ≡ deeds_of (node_ip q) (values q) (option_map_or (λ l. l) o [])) plays.deeds
          (λ q apart. plays.others (node_ip q) (ne_eqb (node_ip q) (node_ip place) (λ same. apart (omega (arith, same)))) ∙ made.shows.deeds q);
      letters = of_both w.messages call.sends (λ m. speaks m ≡ true → Contains plays.after.letters (letter_of m))
          (λ m is speaking. plays.letters (letter_of m) (made.shows.letters m is speaking)) plays.sends;
    };
    strangers = λ p less. plays.others p (ne_eqb p (node_ip place) (λ same. omega (arith, same, less))) ∙ made.strangers p less;
    sound = record {
      some = made.sound.some;
      gateways = made.sound.gateways;
      nodes = set_known w.nodes place call.log log there (λ q (o : Option (List LogEntry)). (l : List LogEntry) → o ≡ Some l → NodeRightly (length w.gateways) q l)
          (λ l e. subst (NodeRightly (length w.gateways) place) (same_Some call.log l e) rightly) (λ q apart. made.sound.nodes q);
      messages = of_both w.messages call.sends Said made.sound.messages plays.said;
    };
  }

  pub node_made : (call : List LogEntry → Called)
      → ((log : List LogEntry) → slice_get w.nodes place ≡ Some log → NodeStands (length w.gateways) place (values place) made.scene log
      → NodePlays (node_ip place) (values place) made.scene (call log) × NodeRightly (length w.gateways) place (call log).log)
      → Made values (at_node w place call)
  node_made call plays = map_known (Made values) (slice_get w.nodes place) (λ none. made)
      (λ log there.
      let both = plays log there (record {
        rightly = made.sound.nodes place log there;
        deeds = made.shows.deeds place ∙ ap (deeds_of (node_ip place) (values place)) (log_there w place log there);
      }) in
      call_made log there (call log) both.0 both.1)

-- what the laws of messages and of nodes say
pub record Laws : Type 0 where
  pub back : ReadsBack
  pub roles : RolesRead
  pub records : RecordsSpelled
  pub follow : NodesFollow
  pub one_each : OneCopyEach

pub turn_made : (laws : Laws) (rules : Rules) (values : ℕ → ℕ → List ℕ) (w : World) → Made values w → ((place : ℕ) → Values (values place) (forms_ever (log_at w place)))
    → (t : Turn) → Made values (turn rules w t)
turn_made laws rules values w made are = turn_keeps keeps
  where
    said : (m : Message) → Contains w.messages m → Said m
    said = made.sound.messages

    keeps : TurnKeeps rules w (Played w) (Made values)
    keeps = record {
      parts = parts_play laws.back w;
      redirects = λ place cause to g scene stands there. redirected_plays laws.back place cause to stands;
      fails = λ m kept to g scene stands there. failed_plays laws.back laws.roles m to ((said m kept).node to) stands;
      answers = λ m kept to g sound fresh scene stands there.
          answers_play laws.back laws.roles m to ((said m kept).node to) stands rules w.now sound fresh (there m kept);
      moves = λ place move plays. gateway_made made place move (λ g stands. plays g made.scene stands made.shows.letters);
      submits = λ place packet. node_made made place (submitting (length w.gateways) place packet) (λ log here stands. submit_turns stands laws.records packet);
      ticks = λ place running. node_made made place (ticking (length w.gateways) place) (λ log here stands.
          let same = log_there w place log here in
          tick_turns stands made.sound.some (ap runs (sym same) ∙ running) laws.follow laws.one_each laws.back
          (subst (λ (l : List LogEntry). Values (values place) (forms_ever l)) same (are place)));
      halts = λ place. node_made made place (called (length w.gateways) place call.Halt) (λ log here stands. halt_turns stands);
      starts = λ place fewer. node_made made place (called (length w.gateways) place call.Start) (λ log here stands.
          start_turns stands (subst (λ (l : List LogEntry). suc (starts_in l) ≤ 255) (log_there w place log here) fewer));
      hears = λ m kept from. node_made made m.node (delivered_to_node (length w.gateways) m.node m) (λ log here stands.
          hear_turns laws.back laws.roles m from ((said m kept).gateway from) stands (made.shows.letters m kept));
      same = made;
      lost = λ v number is. less_made is v.now (take number v.messages) (in_front number v.messages);
      later = λ now. less_made made now w.messages (λ m is. is);
    }
