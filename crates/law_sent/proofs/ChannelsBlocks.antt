-- The PDUs of a new block are right as far as they are of acknowledged data, where those of each such channel are.
use Rattle.std.proofs.Common.{◌≡◌, ℕ, Bool, true, List, [], ◌∷◌, ap, sym, ◌∙◌}
use Rattle.bearer_types.specs.Sides.{sender_of}
use Rattle.journal_sent.specs.SentFlows.{is_data}
use Rattle.journal_sent.specs.Sending.{acked_at}
use Rattle.journal_sent.specs.RightSent.{Flow, PduTest, PduIsSent, PduIsShaped}
use Rattle.law_sent.specs.Channels.{SentPdu, behind_one, AreRight, sent_on, OnData, IsRightByChannel}
use Rattle.law_sent.specs.Channels.{BlocksAreRightByChannel}
use Rattle.law_sent.proofs.ChannelsFlows.{judged_like}
use Rattle.law_sent.proofs.FlowsBlocks.{right_on_all}

-- PDUs of another kind of bearer aren't judged
on_data : (right : PduTest) (acked : ℕ → Bool) (ps : List SentPdu) (f : Flow)
    → (is_data f.layout ≡ true → AreRight right acked ps f) → AreRight (OnData right) acked ps f
on_data right acked [] f h = tt
on_data right acked (p ∷ ps) f h = (
  λ data'. (h data').0,
  on_data right acked ps (behind_one acked p f)
      (λ data'. (h (ap is_data (sym (judged_like acked p.how p.passed p.octets f).layout) ∙ data')).1),
)

-- by any test of a PDU
pub right_by_channel : (right : PduTest) → IsRightByChannel right
right_by_channel right direction octets j s all =
    right_on_all (OnData right) direction octets j s
    (λ l f is. on_data right (acked_at (sender_of direction) l j) (sent_on l direction octets s) f (all l f is))

pub blocks_are_right : BlocksAreRightByChannel
blocks_are_right = (right_by_channel PduIsSent, right_by_channel PduIsShaped)
