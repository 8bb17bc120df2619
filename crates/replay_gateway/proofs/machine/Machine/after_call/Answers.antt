use Rattle.std.proofs.Common.{refl, sym}
use Rattle.replay_gateway.specs.Setup.{files_in}
use Rattle.replay_gateway.proofs.CallLemmas.{after_broke, after_stopped, after_went}
use Rattle.replay_gateway.proofs.machine.Machine.after_call.Goals as goal

pub returns-in_ok-messages-in-Went : goal.returns-in_ok-messages-in-Went
returns-in_ok-messages-in-Went c = λ setup place g m book sequel called.
    after_went _ _ g m _ _ _ called (sym (c.in-Went.ensures setup place book sequel called.site)) refl
    c.in_ok-messages-in-Went.ensures.due c.in_ok-messages-in-Went.ensures.later c.in_ok-messages-in-Went.ensures.rest

pub returns-in_ok-messages-in-Failed : goal.returns-in_ok-messages-in-Failed
returns-in_ok-messages-in-Failed c = λ setup place g m book sequel called.
    after_broke _ _ g m _ _ _ called (sym (c.in-Failed.ensures setup place book sequel called.site)) refl
    (cc (c.in_ok-messages-in-Failed.ensures, c.replace-waiting.ensures.value))
    (cc (c.replace-waiting.ensures.after, c.new.ensures.items)) refl

pub returns-in-Stopped : goal.returns-in-Stopped
returns-in-Stopped c = λ setup place g m book sequel called.
    after_stopped _ _ g m _ _ _ called (sym (c.in-Stopped.ensures setup place book sequel called.site)) refl
    c.new-in-Stopped.ensures.items (λ h is_cut. c.cut.ensures.down setup place h is_cut)
    (λ h items is_cut files. c.cut.ensures.files setup place h (files_in setup place) m.filing items is_cut files)
    c.cut.ensures.rest
