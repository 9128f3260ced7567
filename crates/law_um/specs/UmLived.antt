-- The history of each direction of an unacknowledged bearer, through the lives of both ends and
-- what is under way between them (docs/laws/ACCOUNT.md; TS 36.322 5.1.2, 5.4).
use Rattle.std.specs.Prelude.{◌≡◌, ℕ, ◌+◌, ◌*◌, ◌%◌, ◌≤◌, List, [], ◌∷◌, ◌++◌, map, length, false}
use Rattle.std.specs.Prelude.{if◌then◌else◌, Option, Some, None, slice_get, unwrap_or, Ok}
use Rattle.std.specs.List.{AllByRecursion}
use Rattle.bearer_types.specs.declared.config.BearerConfig.{BearerConfig}
use Rattle.eps_sec.specs.declared.Keys.{Keys}
use Rattle.l2_node.specs.End.{End}
use Rattle.l2_types.specs.declared.side.Side.TheVariants.{Nb, Ue}
use Rattle.law_node.specs.Holding.{flow}
use Rattle.rlc_pdu.specs.Pdus.{UmdPdu, IsUmBits}
use Rattle.rlc_pdu.specs.Reading.{umd_at}
use Rattle.rlc_um.specs.Receiver.{all_joined}
use Rattle.rlc_um.specs.Sender.{Sender, Turn, Gives, IsIdle, IsHeld, IsSmall, width_of, turn}
use Rattle.rlc_um.specs.Sender.{pdu_of}
use Rattle.bearer.specs.Unacknowledged.State.{State, fresh}
use Rattle.bearer.specs.Unacknowledged.Lives.{stopped, restarted}
use Rattle.bearer.specs.Unacknowledged.Taking.{feeding, size_in}
use Rattle.bearer.specs.declared.flow.Flow.TheVariants.{Um}
use Rattle.journal_account.specs.FlowEvents.{FlowEvent, SduTaken, next_of}
use Rattle.journal_flows.specs.UmPdus.{place_next}
use Rattle.journal_um.specs.declared.pieces.JoinedSdu.{JoinedSdu}
use Rattle.journal_um.specs.declared.pieces.Piece.{Piece}
use Rattle.journal_um.specs.LossLaws.{CarryWritten, AreLeft, CountsAre}
use Rattle.journal_um.specs.UmEvents.{UmEvent, UmLifeEvent, LifeEnded, running}
use Rattle.journal_um.specs.UmLosses.{highest_in, ComeInTime, far_came}
use Rattle.journal_um.specs.UmSdus.{handed_in}
use Rattle.law_bearer.specs.AnyBearer.Calls.{Call, Submit, Take, Arrive, Expire, Tick, SetDiscard}
use Rattle.law_bearer.specs.AnyBearer.Stream.{takes, pdu_of as pdcp_pdu}
use Rattle.law_rlc.specs.AmPair.Flow.{Copy}
use Rattle.law_deliver.specs.AmChannel.Lives.{AirStep, lives, AreLiving}
use Rattle.law_deliver.specs.AmFlow.Air.{Air, outset}
use Rattle.law_deliver.specs.UmChannel.Delivery.{UmEndsBeginAlike}
use Rattle.law_deliver.specs.UmChannel.Pairs.{walk}
use Rattle.law_deliver.specs.UmDelivery.Lives.{Life, next_near, next_far}
use Rattle.law_deliver.specs.UmFlow.Handing.{hands}
use Rattle.law_deliver.specs.UmFlow.Lives.{BeginsLife}
use Rattle.law_deliver.specs.UmFlow.Pair.{BearerEnd, Pair, Deed, Calls, Comes, Goes, Step, Near}
use Rattle.law_deliver.specs.UmFlow.Pair.{Far, happens, goes, um_pair_outset, AreGiven}
use Rattle.law_um.specs.UmSending.{IsUmSenderOf, with_pdu}
use Rattle.law_um.specs.UmTimers.{Coming, gone_on, IsUmBeside}
use Rattle.law_um.specs.UmWriting.{pieces_of, PiecesAreKept}

-- ---- the history of a direction

pub record UmHistory : Type 0 where
  -- what its sender did in the life
  pub sent : List FlowEvent
  -- the pieces of each PDU that it wrote, by its number
  pub written : List (List Piece)
  -- what came to its receiver in all lives, and the SDUs that went up
  pub come : List UmLifeEvent
  pub up : List (List ℕ)

abbrev pub no_history : UmHistory
no_history = record { sent = []; written = []; come = []; up = [] }

-- ---- at the end that sends

-- RLC takes what PDCP gives
abbrev pub with_sdus : List (List ℕ) → List FlowEvent → List FlowEvent
with_sdus [] es = es
with_sdus (sdu ∷ sdus) es = with_sdus sdus (SduTaken (length sdu) ∷ es)

-- and then writes a PDU or none
abbrev pub written_by : Turn → Sender → ℕ → UmHistory → UmHistory
written_by Gives s size h = record h {
  sent = with_pdu s size h.sent;
  written = h.written ++ pieces_of (place_next h.sent) (pdu_of s size) ∷ [];
}
written_by IsIdle s size h = h
written_by IsHeld s size h = h
written_by IsSmall s size h = h

abbrev pub takes_by : State → ℕ → Option ℕ → UmHistory → UmHistory
takes_by b share held h =
    let tx = (feeding b share held).tx in
    written_by (turn tx (size_in share) held) tx (size_in share) (record h {
      sent =
          with_sdus (map (pdcp_pdu b.pdcp.tx) (takes (Um b) (Take share held))) h.sent;
    })

abbrev pub sends_by : State → Call → UmHistory → UmHistory
sends_by b (Submit sdu) h = h
sends_by b (Take share held) h = takes_by b share held h
sends_by b (Arrive pdu) h = h
sends_by b (Expire clock) h = h
sends_by b Tick h = h
sends_by b (SetDiscard ttis) h = h

abbrev pub sends_in : BearerEnd → Deed → UmHistory → UmHistory
sends_in e (Calls c) h = sends_by e.bearer c h
sends_in e (Comes k) h = h
sends_in e (Goes k) h = h

-- ---- at the end that hears

abbrev pub hears_by : State → Call → Option Coming → UmHistory → UmHistory
hears_by b c p h = record h { come = gone_on b c p h.come; up = h.up ++ hands b c }

-- what is under way comes as it was written
abbrev pub coming : Copy → UmHistory → Coming
coming c h = record {
  number = c.number;
  pieces = unwrap_or (slice_get h.written c.number) [];
}

abbrev pub hears_copy : State → Option Copy → UmHistory → UmHistory
hears_copy b None h = h
hears_copy b (Some c) h = hears_by b (Arrive c.octets) (Some (coming c h)) h

abbrev pub hears_in : BearerEnd → BearerEnd → Deed → UmHistory → UmHistory
hears_in from to (Calls c) h = hears_by to.bearer c None h
hears_in from to (Comes k) h = hears_copy to.bearer (slice_get from.copies k) h
hears_in from to (Goes k) h = h

-- ---- from the near end to the far one, and back

abbrev pub behind_there : Pair → Step → UmHistory → UmHistory
behind_there p (Near d) h = sends_in p.near d h
behind_there p (Far d) h = hears_in p.near p.far d h

abbrev pub behind_back : Pair → Step → UmHistory → UmHistory
behind_back p (Near d) h = hears_in p.far p.near d h
behind_back p (Far d) h = sends_in p.far d h

abbrev pub over_there : Pair → List Step → UmHistory → UmHistory
over_there p [] h = h
over_there p (s ∷ ss) h = over_there (happens p s) ss (behind_there p s h)

abbrev pub over_back : Pair → List Step → UmHistory → UmHistory
over_back p [] h = h
over_back p (s ∷ ss) h = over_back (happens p s) ss (behind_back p s h)

-- as a life ends, by the bearer that hears
abbrev pub behind_life : State → UmHistory → UmHistory
behind_life b h = record {
  sent = [];
  written = [];
  come = LifeEnded ∷ h.come;
  up = h.up ++ all_joined b.rx;
}

-- ---- both ends beside it

-- a PDU under way has the SN of its number and, from the place of the first on, the pieces that
-- were written under it; no number that stands W or more above its own has been written (5.1.2.2.1)
pub record IsUnderWay (bits : ℕ) (written : List (List Piece)) (c : Copy) : Type 0 where
  pub pdu : UmdPdu
  pub read : umd_at bits c.octets ≡ Ok pdu
  pub sn : pdu.sn ≡ c.number % (2 * width_of bits)
  pub place : ℕ
  pub are_written : slice_get written c.number ≡ Some (pieces_of place pdu)
  pub carries : PiecesAreKept place pdu
  pub young : length written ≤ c.number + width_of bits

-- pieces one behind the other, of SDUs from a place on
abbrev pub behind_piece : Piece → ℕ
behind_piece p = if p.ends then p.place + 1 else p.place

abbrev pub ArePlaced : ℕ → List Piece → Type 0
ArePlaced low [] = Unit {0}
ArePlaced low (p ∷ ps) = (low ≤ p.place) × ArePlaced (behind_piece p) ps

abbrev pub behind_pieces : ℕ → List Piece → ℕ
behind_pieces low [] = low
behind_pieces low (p ∷ ps) = behind_pieces (behind_piece p) ps

-- so are those of PDUs, up to the place of what is written next
abbrev pub AreInPlace : ℕ → List (List Piece) → ℕ → Type 0
AreInPlace low [] next = low ≤ next
AreInPlace low (pieces ∷ more) next = ArePlaced low pieces
    × AreInPlace (behind_pieces low pieces) more next

-- each PDU of the life came with the pieces that were written under its number, and in time
pub record ComeAsWritten (width : ℕ) (written : List (List Piece)) (es : List UmEvent) : Type 0
  where
    pub carry : CarryWritten (λ number. slice_get written number) es
    pub in_time : ComeInTime width es
    pub highest : highest_in es ≤ length written

-- from an end to the other, where PDCP has so many SNs
pub record IsLived (bits many : ℕ) (from to : BearerEnd) (h : UmHistory) : Type 0 where
  pub from_bits : from.bearer.tx.bits ≡ bits
  pub to_bits : to.bearer.bits ≡ bits
  -- VT(US) and the octets that wait are those of the history
  pub sender : IsUmSenderOf h.sent from.bearer.tx
  pub numbers : next_of h.sent ≡ length h.written
  pub places : AreInPlace 0 h.written (place_next h.sent)
  pub under_way : AllByRecursion (IsUnderWay bits h.written) from.copies
  -- so are VR(UR), VR(UH), VR(UX), what is kept, and what went up
  pub receiver : IsUmBeside (width_of bits) many h.up to.bearer.rx h.come
  pub come : ComeAsWritten (width_of bits) h.written (running h.come)

pub record AreLived (bits many : ℕ) (p : Pair) (there back : UmHistory) : Type 0 where
  pub there_is : IsLived bits many p.near p.far there
  pub back_is : IsLived bits many p.far p.near back

-- ---- the laws

-- a life begins
abbrev pub UmPairsBegin : Type 0
UmPairsBegin = (bits reorder_near reorder_far many : ℕ) (near far : State)
    → BeginsLife bits reorder_near near → BeginsLife bits reorder_far far
    → AreLived bits many (um_pair_outset near far) no_history no_history

-- and goes on, in any steps
abbrev pub UmPairsAreLived : Type 0
UmPairsAreLived = (bits many : ℕ) (p : Pair) (steps : List Step) (there back : UmHistory)
    → IsUmBits bits → AreLived bits many p there back → AreGiven p steps
    → AreLived bits many (goes steps p) (over_there p steps there) (over_back p steps back)

-- and ends, and the next one begins
abbrev pub restarted_ends : Pair → Keys → Pair
restarted_ends p keys = um_pair_outset (restarted (stopped p.near.bearer) keys)
    (restarted (stopped p.far.bearer) keys)

abbrev pub UmPairsLiveOn : Type 0
UmPairsLiveOn = (bits many : ℕ) (p : Pair) (keys : Keys) (there back : UmHistory)
    → AreLived bits many p there back
    → AreLived bits many (restarted_ends p keys) (behind_life p.far.bearer there)
    (behind_life p.near.bearer back)

-- what went up is what the history joins
abbrev pub AreUps : ℕ → UmHistory → Type 0
AreUps width h = h.up ≡ map (λ (sdu : JoinedSdu). sdu.octets) (handed_in width h.come)

abbrev pub UmUpsAreJoined : Type 0
UmUpsAreJoined = (bits many : ℕ) (p : Pair) (there back : UmHistory) → IsUmBits bits
    → AreLived bits many p there back
    → AreUps (width_of bits) there × AreUps (width_of bits) back

-- and where no number came W or more above VR(UH) in the life, what goes up are some of the SDUs
-- that were written, each once, unchanged, in order, and as long as not too many are left out PDCP
-- reads the COUNT of each from its SN
pub record GoUpTruly (pdcp_bits width : ℕ) (h : UmHistory) : Type 0 where
  pub left : AreLeft width (λ number. slice_get h.written number) (running h.come)
  pub counts : CountsAre pdcp_bits width (running h.come)

abbrev pub WhereNear : ℕ → ℕ → UmHistory → Type 0
WhereNear pdcp_bits width h = far_came width (running h.come) ≡ false
    → GoUpTruly pdcp_bits width h

abbrev pub UmUpsAreTrue : Type 0
UmUpsAreTrue = (bits many pdcp_bits : ℕ) (p : Pair) (there back : UmHistory) → IsUmBits bits
    → AreLived bits many p there back
    → WhereNear pdcp_bits (width_of bits) there × WhereNear pdcp_bits (width_of bits) back

-- through lives that have ended, and in the steps of the last one so far
abbrev pub lives_there : State → State → List Life → List Step → UmHistory → UmHistory
lives_there near far [] steps h = over_there (um_pair_outset near far) steps h
lives_there near far (l ∷ ls) steps h =
    let p = um_pair_outset near far in
    lives_there (next_near near far l) (next_far near far l) ls steps
    (behind_life (goes l.steps p).far.bearer (over_there p l.steps h))

abbrev pub lives_back : State → State → List Life → List Step → UmHistory → UmHistory
lives_back near far [] steps h = over_back (um_pair_outset near far) steps h
lives_back near far (l ∷ ls) steps h =
    let p = um_pair_outset near far in
    lives_back (next_near near far l) (next_far near far l) ls steps
    (behind_life (goes l.steps p).near.bearer (over_back p l.steps h))

abbrev pub last_pair : State → State → List Life → List Step → Pair
last_pair near far [] steps = goes steps (um_pair_outset near far)
last_pair near far (l ∷ ls) steps =
    last_pair (next_near near far l) (next_far near far l) ls steps

abbrev pub AreGivenThrough : State → State → List Life → List Step → Type 0
AreGivenThrough near far [] steps = AreGiven (um_pair_outset near far) steps
AreGivenThrough near far (l ∷ ls) steps = AreGiven (um_pair_outset near far) l.steps
    × AreGivenThrough (next_near near far l) (next_far near far l) ls steps

pub record LiveThrough (bits many : ℕ) (near far : State) (ls : List Life) (steps : List Step)
    (there back : UmHistory) : Type 0 where
  pub lived : AreLived bits many (last_pair near far ls steps) there back
  -- the PDUs of the life that runs came in time
  pub there_in_time : ComeInTime (width_of bits) (running there.come)
  pub back_in_time : ComeInTime (width_of bits) (running back.come)

abbrev pub PdusComeInTime : Type 0
PdusComeInTime = (bits reorder_near reorder_far many : ℕ) (near far : State) (ls : List Life)
    (steps : List Step) → IsUmBits bits
    → BeginsLife bits reorder_near near → BeginsLife bits reorder_far far
    → AreGivenThrough near far ls steps
    → LiveThrough bits many near far ls steps (lives_there near far ls steps no_history)
    (lives_back near far ls steps no_history)

-- ---- on a channel, in the steps of two ends with their blocks under way

-- down and up
abbrev pub history_down : ℕ → BearerConfig → Keys → List AirStep → Air → UmHistory
history_down l c keys steps a =
    let w = walk l [] steps a in
    lives_there (fresh c keys Nb) (fresh c keys Ue) w.lives w.steps no_history

abbrev pub history_up : ℕ → BearerConfig → Keys → List AirStep → Air → UmHistory
history_up l c keys steps a =
    let w = walk l [] steps a in
    lives_back (fresh c keys Nb) (fresh c keys Ue) w.lives w.steps no_history

abbrev pub bearers_behind : ℕ → BearerConfig → Keys → List AirStep → Air → Pair
bearers_behind l c keys steps a =
    let w = walk l [] steps a in last_pair (fresh c keys Nb) (fresh c keys Ue) w.lives w.steps

pub record AreLivedOn (l many : ℕ) (c : BearerConfig) (keys : Keys) (steps : List AirStep)
    (a : Air) : Type 0 where
  pub nb_is : flow l (lives steps a).nb.end ≡ Um (bearers_behind l c keys steps a).near.bearer
  pub ue_is : flow l (lives steps a).ue.end ≡ Um (bearers_behind l c keys steps a).far.bearer
  pub lived : AreLived c.rlc_bits many (bearers_behind l c keys steps a)
      (history_down l c keys steps a) (history_up l c keys steps a)

abbrev pub UmChannelsAreLived : Type 0
UmChannelsAreLived =
    (l many : ℕ) (c : BearerConfig) (keys : Keys) (nb ue : End) (steps : List AirStep)
    → UmEndsBeginAlike l c keys nb ue → AreLiving l (outset nb ue) steps
    → AreLivedOn l many c keys steps (outset nb ue)
