-- The story meets the premise.
use Rattle.std.proofs.Common.{◌≡◌, ⊎_elim, ℕ, ◌≤◌, true, false, List, [], ◌∷◌, None, Contains, refl, subst, arith, All}
use Rattle.once_core.proofs.Names.{All-cons, All-nil, AllRestOn, Answers, Deed, false≢true, First, Follows, heard_in, is_chosen, IsChoice, IsPlainFirst, Letter, MaySend, nat_tests, PacketCopy, PacketState, ReleasesChoice, RestsOn, scene_after, Sent, uses}
use Rattle.node_core.specs.declared.copy.Verdict.TheVariants.{Filed}
use Rattle.once_core.specs.Happenings.{Heard}
use Rattle.once_core.specs.Story.{first_letter, one_known, one_packet, one_story}
use Rattle.once_core.proofs.ListLemmas.{in_cons, in_head, in_one}

abbrev deeds : List Deed
deeds = Sent first_letter ∷ Heard (record first_letter { says = Answers 128 }) ∷ []

abbrev copy_is : PacketCopy
copy_is = record { gateway = 0; number = 65536; is_plain = true; verdict = Filed; command = None }

abbrev packet_is : PacketState
packet_is = record { number = 1; copies = copy_is ∷ [] }

single_role : (gateway number : ℕ) → uses gateway number one_known ≤ 1
single_role gateway number = grind (arith, nat_tests)

may : (letter : Letter) → Contains deeds (Sent letter) → MaySend one_known (λ number. one_packet) letter letter.says
may letter is = ⊎_elim
    (λ e.
    let same : first_letter ≡ letter = cc in
    subst (λ (l : Letter). MaySend one_known (λ number. one_packet) l l.says) same (
      refl,
      record {
        at = record { packet = packet_is; kept = in_head packet_is []; copy = copy_is; among = in_head copy_is []; gateway_is = refl; number_is = refl };
        plain = refl;
        packet = refl;
      },
    ))
    (λ later. absurd (cc (in_one (Heard (record first_letter { says = Answers 128 })) (Sent letter) later)))
    (in_cons (Sent first_letter) (Sent letter) (Heard (record first_letter { says = Answers 128 }) ∷ []) is)

alone : {A : Type 0} (P : A → Type 0) (x : A) → P x → All P (x ∷ [])
alone P x is = All-cons P x [] is (All-nil P)

pub follows : Follows ((scene_after one_story).deeds 5) 1 (λ number. one_packet) one_known
follows = record {
  roles = single_role;
  plain = alone (λ (p : PacketState). IsPlainFirst p.copies) packet_is (refl, All-nil (λ (c : PacketCopy). c.is_plain ≡ false));
  choice = alone ReleasesChoice packet_is
      (alone (λ (c : PacketCopy). is_chosen c ≡ true → IsChoice packet_is.copies c.gateway c.number) copy_is (λ chosen. absurd (false≢true chosen)));
  rests = alone (AllRestOn (heard_in 1 deeds)) packet_is (alone (RestsOn (heard_in 1 deeds)) copy_is (record {
    verdict = λ known. record { port = First; cause = 128; numbers = 65536 ∷ []; heard = in_head _ []; named = refl; tells = refl };
    command = tt;
  }));
  sends = λ letter is start. may letter is;
}
