-- What the measure of a drain is at most (TS 36.322 5.2.1, TS 36.323 5.3.1, 5.4): by the octets
-- that both ends of a channel have left, and a little more for each end.
use Rattle.std.specs.Prelude.{ℕ, ◌+◌, ◌*◌, ◌≤◌, List, [], ◌∷◌}
use Rattle.std.specs.List.{AllByRecursion}
use Rattle.pdcp_tx_store.specs.declared.given.Sent.{Sent}
use Rattle.pdcp_tx_store.specs.Waiting.{Waits}
use Rattle.pdcp_tx.specs.Pdus.{extra}
use Rattle.pdcp_tx.specs.State.{State as PdcpState, left as pdcp_left}
use Rattle.rlc_queue.specs.Waiting.{total}
use Rattle.rlc_am_tx.specs.Need.{left as rlc_left}
use Rattle.bearer.specs.declared.flow.Flow.{Flow}
use Rattle.bearer.specs.declared.flow.Flow.TheVariants.{Tm, Um, Am}
use Rattle.bearer.specs.Acknowledged.State.{State}
use Rattle.law_bearer.specs.AnyBearer.Calls.{Call, Submit, Take, Arrive, Expire, Tick, SetDiscard}
use Rattle.law_bearer.specs.AnyBearer.Calls.{after, after_all}
use Rattle.law_drain.specs.Bearer.{bearer_dues, marks_behind, IsOfDrain}
use Rattle.law_drain.specs.Channels.{Measured, channel_measure, OffersIn}
use Rattle.law_drain.specs.Ends.{HasLived, Stands, HasOctet}
use Rattle.law_drain.specs.Others.{waits_in}
use Rattle.law_drain.specs.Unsent.{report_octets}

-- ---- one acknowledged bearer

abbrev pub AllSent : (List ℕ → Type 0) → List Sent → Type 0
AllSent P ss = AllByRecursion (λ (s : Sent). P s.octets) ss

abbrev pub AllWaiting : (List ℕ → Type 0) → List Waits → Type 0
AllWaiting P ws = AllByRecursion (λ (w : Waits). P w.sdu) ws

-- each SDU that PDCP has still to give to RLC has an octet
abbrev pub SdusHaveOctets : PdcpState → Type 0
SdusHaveOctets s = AllSent HasOctet s.again × AllWaiting HasOctet s.waiting

-- M + 1 times what isn't wholly acknowledged at RLC, the own report, and what isn't confirmed at
-- PDCP, with a header and a MAC-I for each octet
abbrev pub BearerDuesAreLeft : Type 0
BearerDuesAreLeft = (b : State) (h : HasLived b) → SdusHaveOctets b.pdcp.tx
    → bearer_dues b (marks_behind h.origin h.deeds)
    ≤ (b.tx.config.max_retx + 1)
    * (rlc_left b.tx
    + (report_octets b.pdcp.tx.owed + (extra b.pdcp.tx.kind + 1) * pdcp_left b.pdcp.tx))

-- ---- one end of a channel, of any mode

-- an acknowledged bearer stands between two of its calls
abbrev pub StandsIn : Flow → Type 0
StandsIn (Tm b) = Unit {0}
StandsIn (Um b) = Unit {0}
StandsIn (Am b) = Stands b

-- what it has still to send, with its weight in the measure of the channel
abbrev pub end_measure : (f : Flow) → StandsIn f → ℕ
end_measure (Tm b) h = waits_in (Tm b)
end_measure (Um b) h = waits_in (Um b)
end_measure (Am b) h = 3 * bearer_dues b (marks_behind h.lived.origin h.lived.deeds)

-- what is left there, however much it is
abbrev pub uncut_left : Flow → ℕ
uncut_left (Tm b) = total b.waiting
uncut_left (Um b) = pdcp_left b.pdcp.tx
uncut_left (Am b) = pdcp_left b.pdcp.tx + rlc_left b.tx

-- the own report has at most 3 octets and a bit for each COUNT behind its FMS, half the numbers of
-- 15 bits (TS 36.323 6.2.6)
pub record FitsReport (s : PdcpState) : Type 0 where
  pub octets : SdusHaveOctets s
  pub report : report_octets s.owed ≤ 2051

-- RLC's sender of unacknowledged mode has the rest of a PDU of PDCP, and maxRetxThreshold is at
-- most 32 (TS 36.331 6.3.2)
abbrev pub FitsConfig : Flow → Type 0
FitsConfig (Tm b) = Unit {0}
FitsConfig (Um b) = FitsReport b.pdcp.tx × (total b.tx.waiting.sdus ≤ 8193)
FitsConfig (Am b) = FitsReport b.pdcp.tx × (b.tx_config.max_retx ≤ 32)

-- 99 octets for each that RLC was offered, 594 for each of an SDU, and 203,049 for the own report
abbrev pub EndMeasuresAreLeft : Type 0
EndMeasuresAreLeft = (f : Flow) (h : StandsIn f) → FitsConfig f
    → end_measure f h ≤ 594 * uncut_left f + 203049

-- ---- both ends

abbrev pub both_stand : (nb ue : Flow) → StandsIn nb → StandsIn ue → Measured nb ue
both_stand (Tm b) ue h k = tt
both_stand (Um b) ue h k = tt
both_stand (Am b) (Tm d) h k = tt
both_stand (Am b) (Um d) h k = tt
both_stand (Am b) (Am d) h k = (h, k)

-- what is pending at a far end and whether a near end is quiet add at most 3 a direction
abbrev pub ChannelsAreEnds : Type 0
ChannelsAreEnds = (nb ue : Flow) (n : StandsIn nb) (u : StandsIn ue)
    → channel_measure nb ue (both_stand nb ue n u) ≤ end_measure nb n + end_measure ue u + 6

-- ---- over calls of a drain

-- as a bearer takes, each PDU that its PDCP may give has an octet
abbrev pub OffersFor : Call → Flow → Type 0
OffersFor (Submit sdu) f = Unit {0}
OffersFor (Take share held) f = OffersIn f
OffersFor (Arrive pdu) f = Unit {0}
OffersFor (Expire clock) f = Unit {0}
OffersFor Tick f = Unit {0}
OffersFor (SetDiscard ttis) f = Unit {0}

abbrev pub OffersAlong : List Call → Flow → Type 0
OffersAlong [] f = Unit {0}
OffersAlong (c ∷ cs) f = OffersFor c f × OffersAlong cs (after f c)

pub record EndFallsTo (f g : Flow) (h : StandsIn f) : Type 0 where
  pub left : StandsIn g
  pub falls : end_measure g left ≤ end_measure f h

-- whatever comes from the other end
abbrev pub EndsNeverRise : Type 0
EndsNeverRise = (cs : List Call) (f : Flow) → AllByRecursion IsOfDrain cs → OffersAlong cs f
    → (h : StandsIn f) → EndFallsTo f (after_all f cs) h
