-- The losses of an unacknowledged flow, as a run reckons them from its records, beside what the
-- history of the flow says of them (docs/laws/ACCOUNT.md; TS 36.322 5.1.2.2, TS 36.323
-- 5.1.2.1.3). The run's receiver hears a tag in the place of the octets of each element, which is
-- one above the place of its SDU.
use Rattle.std.specs.Prelude.{◌≡◌, ℕ, ◌+◌, ◌*◌, ◌%◌, ◌^◌, ◌<◌, Bool, true, ◌||◌, if◌then◌else◌}
use Rattle.std.specs.Prelude.{List, [], ◌∷◌, ◌++◌, Some, None, slice_index_or}
use Rattle.rlc_pdu.specs.declared.outcome.Expired.{Expired}
use Rattle.rlc_pdu.specs.declared.outcome.Expired.TheVariants.{Done, NotRunning}
use Rattle.rlc_um.specs.Joined.{parts_of}
use Rattle.rlc_um.specs.Sender.{width_of}
use Rattle.rlc_um.specs.Receiver.{turning, expiring}
use Rattle.um_losses.specs.declared.flow.Happening.TheVariants.{BlockRenewed, PduWritten}
use Rattle.um_losses.specs.declared.flow.Happening.TheVariants.{BlockArrived, TimerExpired}
use Rattle.um_losses.specs.declared.flow.Happening.TheVariants.{LifeRestarted}
use Rattle.um_losses.specs.declared.gaps.Gaps.{Gaps}
use Rattle.um_losses.specs.declared.pdu.Pdu.{Pdu}
use Rattle.um_losses.specs.declared.sending.InFlight.{InFlight}
use Rattle.um_losses.specs.Flow.{Flow, begun, after}
use Rattle.um_losses.specs.Gaps.{all_counted}
use Rattle.um_losses.specs.Pdus.{is_pdu}
use Rattle.um_losses.specs.Tags.{octets_of, tagged}
use Rattle.mac_pdu.specs.declared.item.Direction.{Direction}
use Rattle.journal_um.specs.declared.pieces.Piece.{Piece}
use Rattle.journal_um.specs.UmEvents.{PduArrived, ReorderStarted, ReorderExpired, UmLifeEvent}
use Rattle.journal_um.specs.UmEvents.{InLife, LifeEnded, running}
use Rattle.journal_um.specs.UmFlow.{flow_of}
use Rattle.journal_um.specs.UmLosses.{is_long_in, highest_in, IsInTime, ComeInTime}
use Rattle.law_um.specs.UmReceiving.{Likeness, Handing, CarryAlike, IsBeside}

-- ---- what is kept, and what is reckoned

-- what is kept of an SDU ends with the tag of its place
abbrev pub EndsWithTag : Likeness
EndsWithTag kept octets place =
    (place + 1 < 2 ^ 64) × ((before : List ℕ) × (kept ≡ before ++ octets_of (place + 1)))

-- with what is ready counted: the place behind the last SDU that went up in the life, and whether
-- losses were long, where they may have been before
pub record AreCounted (far : Bool) (g : Gaps) (many next : ℕ) (long : Bool) (ready : List (List ℕ))
    : Type 0 where
  pub counts : g.counts ≡ many
  pub next_is : (all_counted ready g).next ≡ next
  pub long_is : (all_counted ready g).long ≡ (far || long)

abbrev pub Reckons : Bool → Gaps → Handing
Reckons far g ready u = AreCounted far g u.many u.next u.long ready

pub record AreLosses (width many : ℕ) (f : Flow) (es : List UmLifeEvent) : Type 0 where
  pub bits : width_of f.bits ≡ width
  pub width_is : f.gaps.width ≡ width
  -- one above the highest number that arrived in the life
  pub top : f.gaps.top ≡ highest_in (running es)
  -- nothing is ready, since it went up
  pub gone : f.receiver.joined.ready ≡ []
  pub receiver : IsBeside EndsWithTag (Reckons (flow_of width many es).far f.gaps) f.receiver
      (flow_of width many es)
  pub long : f.gaps.long ≡ is_long_in width many es

-- ---- the laws

-- as a bearer comes
abbrev pub LossesBegin : Type 0
LossesBegin =
    (direction : Direction) (lcid bits many : ℕ)
    → AreLosses (width_of bits) many (begun direction lcid bits many) []

-- a block is begun, and a PDU is written into it: nothing is heard
pub record StayLosses (width many : ℕ) (f : Flow) (es : List UmLifeEvent) : Type 0 where
  pub renewed : (process : ℕ) → AreLosses width many (after (BlockRenewed process) f) es
  pub written : (process : ℕ) (p : Pdu) → AreLosses width many (after (PduWritten process p) f) es

abbrev pub SendingLosesNone : Type 0
SendingLosesNone = (width many : ℕ) (f : Flow) (es : List UmLifeEvent) → AreLosses width many f es
    → StayLosses width many f es

-- t-Reordering starts
abbrev pub started_in : Bool → List UmLifeEvent → List UmLifeEvent
started_in starts es = if starts then InLife ReorderStarted ∷ es else es

-- a block arrives with a PDU: it has the SN of its number, and its pieces are of SDUs with places
-- from that of the first on
pub record IsArriving (f : Flow) (s : InFlight) (pieces : List Piece) : Type 0 where
  pub pdu : is_pdu f.bits s.pdu ≡ true
  pub sn : s.pdu.sn ≡ s.number % (2 * width_of f.bits)
  pub carries : CarryAlike EndsWithTag (parts_of (tagged (Some s.first) s.pdu)) pieces

abbrev pub arrives_in : Flow → InFlight → List Piece → List UmLifeEvent → List UmLifeEvent
arrives_in f s pieces es =
    started_in (turning (tagged (Some s.first) s.pdu) f.receiver).started
    (InLife (PduArrived s.number pieces) ∷ es)

abbrev pub ArrivalsAreReckoned : Type 0
ArrivalsAreReckoned =
    (width many process : ℕ) (f : Flow) (es : List UmLifeEvent) (s : InFlight) (pieces : List Piece)
    → 0 < width → slice_index_or f.sending.under_way process None ≡ Some s → IsArriving f s pieces
    → ComeInTime width (running es) → IsInTime width (PduArrived s.number pieces) (running es)
    → AreLosses width many f es
    → AreLosses width many (after (BlockArrived process) f) (arrives_in f s pieces es)

-- t-Reordering expires, and starts again or not
abbrev pub expires_in : Expired → List UmLifeEvent → List UmLifeEvent
expires_in NotRunning es = es
expires_in (Done again) es = started_in again (InLife ReorderExpired ∷ es)

abbrev pub ExpiriesAreReckoned : Type 0
ExpiriesAreReckoned =
    (width many : ℕ) (f : Flow) (es : List UmLifeEvent) → 0 < width → AreLosses width many f es
    → AreLosses width many (after TimerExpired f) (expires_in (expiring f.receiver) es)

-- both ends begin another life
abbrev pub LivesAreReckoned : Type 0
LivesAreReckoned =
    (width many : ℕ) (f : Flow) (es : List UmLifeEvent) → 0 < width → AreLosses width many f es
    → AreLosses width many (after LifeRestarted f) (LifeEnded ∷ es)
