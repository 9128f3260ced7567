-- The calls of RLC's sender that stand in deeds (TS 36.322 5.1.3.1, 5.2).
use Rattle.std.specs.Prelude.{◌≡◌, ℕ, List, [], ◌∷◌, ◌++◌, Option, Some, None}
use Rattle.pdcp_tx.specs.declared.sender.Next.{Next}
use Rattle.pdcp_tx.specs.State.{taking}
use Rattle.law_rlc.specs.AmSender.Run.{Call as SenderCall, Offer, Confirm as HandOver}
use Rattle.bearer.specs.Acknowledged.State.{State}
use Rattle.law_bearer.specs.AnyBearer.Acknowledged.{sender_calls}
use Rattle.law_bearer.specs.AnyBearer.Calls.{Take}
use Rattle.law_bearer.specs.AnyBearer.Sending.{sends_on}
use Rattle.law_bearer.specs.AmBearer.Deeds.{Deed, Feeds, Sends, Confirms, Receives, HandsUp, Asks}
use Rattle.law_bearer.specs.AmBearer.Deeds.{Sets, does, does_all}
use Rattle.law_bearer.specs.AmBearer.Calls.{deeds_of}

abbrev pub offers_next : Option Next → List SenderCall
offers_next None = []
offers_next (Some pdu) = Offer pdu.octets ∷ []

abbrev pub hand_over_calls : List ℕ → List SenderCall
hand_over_calls [] = []
hand_over_calls (place ∷ places) = HandOver ∷ []

abbrev pub sends_at : State → Deed → List SenderCall
sends_at b Feeds = offers_next (taking b.pdcp.tx)
sends_at b (Sends c) = c ∷ []
sends_at b Confirms = hand_over_calls b.tx.accounts.news
sends_at b (Receives c) = []
sends_at b HandsUp = []
sends_at b (Asks c) = []
sends_at b (Sets ttis) = []

abbrev pub sends_in : List Deed → State → List SenderCall
sends_in [] b = []
sends_in (deed ∷ deeds) b = sends_at b deed ++ sends_in deeds (does b deed)

-- nothing else changes RLC's sender
abbrev pub DeedsAreItsCalls : Type 0
DeedsAreItsCalls = (b : State) (deeds : List Deed)
    → (does_all deeds b).tx ≡ sends_on (sends_in deeds b) b.tx

-- as a bearer writes, each PDU that PDCP gives is offered, in order, and then a data PDU is taken
abbrev pub TakesAreItsCalls : Type 0
TakesAreItsCalls = (b : State) (share : ℕ) (held : Option ℕ)
    → sends_in (deeds_of b (Take share held)) b ≡ sender_calls b (Take share held)
