-- What an unacknowledged bearer tells and writes, and what comes to it, is gathered from a journal
-- as the histories of both of its flows have it (docs/formats/JOURNAL.md; docs/laws/ACCOUNT.md; TS
-- 36.322 5.1.2, TS 36.323 5.1.1, 6.2.3).
use Rattle.std.specs.Prelude.{◌≡◌, ℕ, ◌+◌, ◌==◌, if◌then◌else◌, Bool, true, false, List, [], ◌∷◌}
use Rattle.std.specs.Prelude.{map, length, Option, Some, None, slice_get, slice_index_or}
use Rattle.std.specs.List.{AllByRecursion, flat_map}
use Rattle.eps_sec.specs.declared.Keys.{Keys}
use Rattle.l2_types.specs.declared.event.How.TheVariants as hows
use Rattle.l2_types.specs.declared.side.Side.{Side}
use Rattle.bearer_types.specs.declared.config.BearerConfig.{BearerConfig}
use Rattle.bearer_types.specs.declared.event.Event.{Event}
use Rattle.bearer_types.specs.declared.event.Event.TheVariants as events
use Rattle.bearer_types.specs.Sides.{other}
use Rattle.pdcp_pdu.specs.declared.pdu.PdcpKind.TheVariants as pdcp
use Rattle.pdu_show.specs.declared.kinds.Layout.{Layout}
use Rattle.pdu_show.specs.declared.kinds.Layout.TheVariants as layouts
use Rattle.rlc_am_rx_window.specs.Piece.{octets_in}
use Rattle.rlc_pdu.specs.Pdus.{IsUmBits}
use Rattle.rlc_pdu.specs.Writing.{umd_canonical}
use Rattle.rlc_um.specs.Sender.{Sender, turn, Gives, pieces, pdu_of}
use Rattle.bearer.specs.Unacknowledged.Lives.{stopped, restarted}
use Rattle.bearer.specs.Unacknowledged.State.{State, fresh}
use Rattle.bearer.specs.Unacknowledged.Taking.{feeding, size_in}
use Rattle.bearer.specs.declared.flow.Flow.TheVariants.{Um}
use Rattle.promises.specs.Events.{is_on, told_on}
use Rattle.journal_account.specs.FlowEvents.{FlowEvent, SduTaken, next_of}
use Rattle.journal_um.specs.UmEvents.{UmLifeEvent}
use Rattle.journal_flows.specs.declared.parcels.Parcel.{Parcel}
use Rattle.journal_flows.specs.declared.parcels.Parcel.TheVariants.{Pieces}
use Rattle.journal_flows.specs.declared.sending.Named.{Named}
use Rattle.journal_flows.specs.FlowsTold.{Histories, histories}
use Rattle.journal_flows.specs.Gathering.{all_told, told_by, parcel_of}
use Rattle.journal_flows.specs.NumberedPdus.{written_as, come_as}
use Rattle.journal_flows.specs.UmPdus.{sent_in, come_in, place_next}
use Rattle.law_bearer.specs.AnyBearer.Calls.{Call, Take, Arrive}
use Rattle.law_bearer.specs.AnyBearer.Stream.{takes, pdu_of as pdcp_pdu}
use Rattle.law_deliver.specs.AmFlow.Reordering.{reordering_told, reordering_in}
use Rattle.law_deliver.specs.AmFlow.Ups.{tells_in}
use Rattle.law_deliver.specs.UmFlow.Handing.{tells}
use Rattle.law_deliver.specs.UmFlow.Pair.{called, HasOctet}
use Rattle.law_um.specs.UmLived.{UmHistory, with_sdus, takes_by}
use Rattle.law_um.specs.UmSending.{IsUmSenderOf, with_pdu}
use Rattle.law_um.specs.UmTimers.{Coming, event_of, with_events, gone_on}
use Rattle.law_um.specs.UmWriting.{pieces_of}

-- ---- the bearer

-- of a channel, with SNs of PDCP of so many bits; nothing is ready to go up, and unacknowledged
-- data owe no status report
pub record IsUmOn (l bits : ℕ) (b : State) : Type 0 where
  pub own : b.pdcp.lcid ≡ l
  pub idle : b.rx.joined.ready ≡ []
  pub kind : b.pdcp.kind ≡ pdcp.Um bits
  pub sending : b.pdcp.tx.kind ≡ pdcp.Um bits
  pub owes_none : b.pdcp.tx.owed ≡ None

-- as it comes, behind each call, and as the next life begins
abbrev pub UmBearersComeOn : Type 0
UmBearersComeOn = (c : BearerConfig) (keys : Keys) (side : Side)
    → IsUmOn c.channel.lcid c.pdcp_bits (fresh c keys side)

abbrev pub UmBearersGoOn : Type 0
UmBearersGoOn =
    (l bits : ℕ) (b : State) (c : Call) → IsUmOn l bits b → IsUmOn l bits (called b c)

abbrev pub UmBearersLiveOn : Type 0
UmBearersLiveOn = (l bits : ℕ) (b : State) (keys : Keys) → IsUmOn l bits b
    → IsUmOn l bits (restarted (stopped b) keys)

-- PDUs of its channel are shown so
abbrev pub IsShownSo : List (Option Layout) → ℕ → ℕ → ℕ → Type 0
IsShownSo kinds l rlc_bits bits =
    slice_index_or kinds l None ≡ Some (layouts.Um rlc_bits (pdcp.Um bits))

-- ---- what is gathered

-- of the events of a side, one behind the other
abbrev pub all_gathered : List (Option Layout) → Bool → Side → List Event → Histories → Histories
all_gathered kinds more side [] h = h
all_gathered kinds more side (e ∷ told) h =
    all_gathered kinds more side told (all_told histories (told_by kinds more side e) h)

-- On a channel the flow that a side sends has this of its sender, the one that comes has this of
-- its receiver, and nothing else changes.
pub record FlowsGoOn (side : Side) (l : ℕ) (h i : Histories)
    (sent : List FlowEvent → List FlowEvent) (come : List UmLifeEvent → List UmLifeEvent) : Type 0
  where
    pub sent_is : sent_in (i.unacked side l) ≡ sent (sent_in (h.unacked side l))
    pub come_is : come_in (i.unacked (other side) l) ≡ come (come_in (h.unacked (other side) l))
    pub own_stays : come_in (i.unacked side l) ≡ come_in (h.unacked side l)
    pub back_stays : sent_in (i.unacked (other side) l) ≡ sent_in (h.unacked (other side) l)

-- ---- an event

-- RLC takes a PDU of PDCP, with its header
abbrev pub sizes_told : ℕ → Event → List ℕ
sizes_told bits (events.Take lcid count len) = (len + (if bits == 7 then 1 else 2)) ∷ []
sizes_told bits event = []

abbrev pub sizes_in : ℕ → List Event → List ℕ
sizes_in bits told = flat_map (sizes_told bits) told

abbrev pub with_sizes : List ℕ → List FlowEvent → List FlowEvent
with_sizes [] es = es
with_sizes (size ∷ sizes) es = with_sizes sizes (SduTaken size ∷ es)

-- on the channel, or on another one
abbrev pub UmEventsAreGathered : Type 0
UmEventsAreGathered =
    (kinds : List (Option Layout)) (rlc_bits bits : ℕ) (more : Bool) (side : Side) (l : ℕ)
    (e : Event) (h : Histories) → IsShownSo kinds l rlc_bits bits → is_on l e ≡ true
    → FlowsGoOn side l h (all_told histories (told_by kinds more side e) h)
    (with_sizes (sizes_told bits e)) (with_events (map event_of (reordering_told e)))

abbrev pub OtherEventsStayAway : Type 0
OtherEventsStayAway =
    (kinds : List (Option Layout)) (more : Bool) (side : Side) (l : ℕ) (e : Event) (h : Histories)
    → is_on l e ≡ false
    → FlowsGoOn side l h (all_told histories (told_by kinds more side e) h) (λ es. es) (λ es. es)

-- so any events, by those on the channel
abbrev pub UmToldIsGathered : Type 0
UmToldIsGathered =
    (kinds : List (Option Layout)) (rlc_bits bits : ℕ) (more : Bool) (side : Side) (l : ℕ)
    (told : List Event) (h : Histories) → IsShownSo kinds l rlc_bits bits
    → FlowsGoOn side l h (all_gathered kinds more side told h)
    (with_sizes (sizes_in bits (told_on l told)))
    (with_events (map event_of (reordering_in (told_on l told))))

-- ---- a call

-- the PDUs of PDCP that RLC takes in it
abbrev pub given_in : State → Call → List (List ℕ)
given_in b c = map (pdcp_pdu b.pdcp.tx) (takes (Um b) c)

-- all that it tells is of its channel: RLC takes just those, and t-Reordering does what is told of
-- it
pub record TellsOwn (l bits : ℕ) (b : State) (c : Call) : Type 0 where
  pub own : told_on l (tells_in l (Um b) c) ≡ tells_in l (Um b) c
  pub sizes : sizes_in bits (tells_in l (Um b) c) ≡ map length (given_in b c)
  pub reordering : reordering_in (tells_in l (Um b) c) ≡ reordering_in (tells b c)

abbrev pub UmBearersTellOwn : Type 0
UmBearersTellOwn = (l bits : ℕ) (b : State) (c : Call) → IsUmOn l bits b → TellsOwn l bits b c

abbrev pub UmCallsAreGathered : Type 0
UmCallsAreGathered =
    (kinds : List (Option Layout)) (rlc_bits bits : ℕ) (more : Bool) (side : Side) (l : ℕ)
    (b : State) (c : Call) (h : Histories) → IsShownSo kinds l rlc_bits bits → IsUmOn l bits b
    → FlowsGoOn side l h (all_gathered kinds more side (tells_in l (Um b) c) h)
    (with_sdus (given_in b c)) (with_events (map event_of (reordering_in (tells b c))))

-- ---- a PDU that is written

-- by what its sender did before
abbrev pub parcel_written : ℕ → Sender → ℕ → List FlowEvent → Parcel
parcel_written l s size es = Pieces l (next_of es) (octets_in (pieces s size))
    (pieces_of (place_next es) (pdu_of s size))

abbrev pub named_new : ℕ → Named
named_new l = record { lcid = l; how = hows.New }

pub record IsWrittenSo (kinds : List (Option Layout)) (side : Side) (l : ℕ) (s : Sender)
    (size : ℕ) (es : List FlowEvent) (h : Histories) : Type 0 where
  pub parcel : parcel_of histories kinds h side (named_new l) (umd_canonical s.bits (pdu_of s size))
      ≡ Some (parcel_written l s size es)
  pub behind : FlowsGoOn side l h
      (all_told histories (written_as side hows.New (parcel_written l s size es)) h)
      (with_pdu s size) (λ es. es)

abbrev pub UmPdusAreGathered : Type 0
UmPdusAreGathered =
    (kinds : List (Option Layout)) (bits : ℕ) (side : Side) (l : ℕ) (s : Sender) (size : ℕ)
    (held : Option ℕ) (es : List FlowEvent) (h : Histories) → IsShownSo kinds l s.bits bits
    → IsUmBits s.bits → IsUmSenderOf es s → turn s size held ≡ Gives
    → sent_in (h.unacked side l) ≡ es → IsWrittenSo kinds side l s size es h

-- in a take, behind what is told of it: the sender's history is the one behind the take, in which
-- the pieces stand at the number of the PDU
pub record IsTakenSo (kinds : List (Option Layout)) (side : Side) (l : ℕ) (b : State) (share : ℕ)
    (held : Option ℕ) (g : UmHistory) (h : Histories) : Type 0 where
  pub written : IsWrittenSo kinds side l (feeding b share held).tx (size_in share)
      (with_sdus (given_in b (Take share held)) g.sent) h
  pub sent_is : with_pdu (feeding b share held).tx (size_in share)
      (with_sdus (given_in b (Take share held)) g.sent)
      ≡ (takes_by b share held g).sent
  pub at_number : slice_get (takes_by b share held g).written
      (next_of (with_sdus (given_in b (Take share held)) g.sent))
      ≡ Some (pieces_of (place_next (with_sdus (given_in b (Take share held)) g.sent))
      (pdu_of (feeding b share held).tx (size_in share)))

abbrev pub UmTakesAreGathered : Type 0
UmTakesAreGathered =
    (kinds : List (Option Layout)) (bits : ℕ) (side : Side) (l : ℕ) (b : State) (share : ℕ)
    (held : Option ℕ) (g : UmHistory) (h : Histories) → IsShownSo kinds l b.tx.bits bits
    → IsUmBits b.tx.bits → IsUmSenderOf g.sent b.tx → next_of g.sent ≡ length g.written
    → AllByRecursion HasOctet (given_in b (Take share held))
    → turn (feeding b share held).tx (size_in share) held ≡ Gives
    → sent_in (h.unacked side l) ≡ with_sdus (given_in b (Take share held)) g.sent
    → IsTakenSo kinds side l b share held g h

-- ---- a PDU that comes to a side, and what that tells then

abbrev pub UmArrivalsAreGathered : Type 0
UmArrivalsAreGathered =
    (kinds : List (Option Layout)) (rlc_bits bits : ℕ) (more : Bool) (side : Side) (l size : ℕ)
    (b : State) (pdu : List ℕ) (p : Coming) (h : Histories) → IsShownSo kinds l rlc_bits bits
    → IsUmOn l bits b
    → FlowsGoOn side l h
    (all_gathered kinds more side (tells_in l (Um b) (Arrive pdu))
    (all_told histories (come_as (other side) (Pieces l p.number size p.pieces)) h))
    (λ es. es) (gone_on b (Arrive pdu) (Some p))
