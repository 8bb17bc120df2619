-- How a node takes its next packets.
use Rattle.std.proofs.Common.{◌≡◌, ℕ, zero, suc, ◌-◌, ◌<◌, Bool, true, false, if◌then◌else◌, None, Some, is_none, refl, sym, ap, subst, ◌∙◌, arith}
use Rattle.gtpp_message.specs.Packet.{PacketForm}
use Rattle.node_core.specs.Log.{Submitted}
use Rattle.node_core.specs.Submitting.{refusal}
use Rattle.node_core.specs.Value.{NodeValue, befell}
use Rattle.node_core.specs.declared.fault.SubmitFault.{SubmitFault}
use Rattle.node_run.specs.Packets.{filled, filled_by, packet_form, takes_next, with_next}

-- by whether it takes one more
abbrev filled_if : Bool → ℕ → NodeValue → NodeValue
filled_if takes left node = if takes then filled_by left (with_next node) else node

stuck_by : (left : ℕ) (node : NodeValue) → takes_next node ≡ false → filled_by left node ≡ node
stuck_by zero node none = refl
stuck_by (suc left) node none = ap (λ (b : Bool). filled_if b left node) none

-- it takes no more
pub filled_refused : (packets : ℕ) (node : NodeValue) (draft : PacketForm) (fault : SubmitFault)
    → draft ≡ packet_form node.submissions
    → refusal node draft ≡ Some fault → filled packets node ≡ node
filled_refused packets node draft fault is refused =
    stuck_by (packets - node.submissions) node
    (ap is_none (subst (λ (d : PacketForm). refusal node d ≡ Some fault) is refused))

-- it takes one more, and then the others
pub filled_more : (packets : ℕ) (node : NodeValue) (draft : PacketForm) → node.submissions < packets
    → draft ≡ packet_form node.submissions
    → refusal node draft ≡ None → filled packets (befell (Submitted draft) node) ≡ filled packets node
filled_more packets node draft few is none =
    let left : ℕ = packets - suc node.submissions in
    let takes : takes_next node ≡ true = ap is_none (subst (λ (d : PacketForm). refusal node d ≡ None) is none) in
    let same : suc left ≡ packets - node.submissions = omega (arith, few) in
    ap (λ (d : PacketForm). filled_by left (befell (Submitted d) node)) is
    ∙ sym (ap (λ (b : Bool). filled_if b left node) takes)
    ∙ ap (λ (k : ℕ). filled_by k node) same
