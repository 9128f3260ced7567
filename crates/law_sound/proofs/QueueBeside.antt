-- A bearer that isn't of acknowledged data stands beside what is kept of the flow that it sends, while the PDUs of a
-- journal are checked: the SDUs that wait, the next COUNT, and what RLC was given and wrote.
use Rattle.std.proofs.Common.{◌≡◌, ◌<◌, ◌≤◌, ℕ, Bool, List, [], ◌∷◌, ◌^◌, map, length, Option, Some, None}
use Rattle.std.specs.List.{AllByRecursion, flat_map}
use Rattle.bearer.specs.Acknowledged.State.{State}
use Rattle.bearer.specs.Unacknowledged.State.{State as UmState}
use Rattle.bearer.specs.Submitting.{refusal}
use Rattle.bearer.specs.Taking.{pdus, told}
use Rattle.bearer.specs.declared.flow.Flow.{Flow as BearerFlow}
use Rattle.bearer.specs.declared.flow.Flow.TheVariants.{Tm, Um, Am}
use Rattle.bearer_pdcp.specs.Ends.{Ends}
use Rattle.bearer_types.specs.declared.event.Event.{Event}
use Rattle.bearer_types.specs.declared.event.Event.TheVariants as events
use Rattle.pdcp_pdu.specs.declared.PdcpKind.{PdcpKind}
use Rattle.pdcp_pdu.specs.declared.PdcpKind.TheVariants as pdcp
use Rattle.pdcp_tx_store.specs.Waiting.{Waits}
use Rattle.pdu_show.specs.declared.kinds.Layout.TheVariants as layouts
use Rattle.rlc_pdu.specs.Pdus.{IsUmBits}
use Rattle.rlc_um.specs.Transparent.{Transparent}
use Rattle.journal_account.specs.FlowAccount.{account_of}
use Rattle.journal_account.specs.FlowEvents.{FlowEvent}
use Rattle.journal_account.specs.FlowSending.{acked_kept}
use Rattle.journal_lives.specs.FlowLives.{FlowLives}
use Rattle.journal_sent.specs.RightSent.{Flow, IsSdu, FirstIsTaken}
use Rattle.journal_sent.specs.SentFlows.{flow_submitted, flow_taken, flow_reported, flow_discarded, first_of}
use Rattle.journal_sent.specs.SentPdus.{histories}
use Rattle.law_account.specs.History.{Follows}
use Rattle.law_bearer.specs.AnyBearer.Calls.{Call as BearerCall, Submit, Take, after, after_all}
use Rattle.law_bearer.specs.AnyBearer.Queue.{submits}
use Rattle.law_bearer.proofs.AnyBearer.Between.{IsBetween}
use Rattle.law_deliver.specs.AmFlow.Ups.{tells_in, tells_over}
use Rattle.law_node.proofs.CountsFit.{CountsFit}
use Rattle.law_node.proofs.Plain.{IsPlain}
use Rattle.law_node.proofs.Ready.{WritesWell}
use Rattle.law_sent.specs.Channels.{SentPdu, AreRight, behind_all}
use Rattle.law_sent.specs.UmSenders.{AreUmStreamsOf}
use Rattle.law_sound.proofs.SentBeside.{IsRun}
use Rattle.law_sound.proofs.SentBetween.{IsRightPdu}
use Rattle.law_sound.proofs.SentNames.{hows_in}

-- ---- PDCP's sender: SDUs wait, and the next that RLC takes has the next COUNT

pub record IsQueueOf (kind : PdcpKind) (e : Ends) (f : Flow) : Type 0 where
  pub cover_is : f.cover ≡ Some (record { kind = kind; protection = e.tx.protection })
  pub waiting_is : f.waiting ≡ map (λ (w : Waits). w.sdu) e.tx.waiting
  pub given_is : f.given ≡ e.tx.next
  pub sizes : AllByRecursion IsSdu f.waiting
  -- it owes no report and gives no SDU again; COUNTs don't run out before what waits
  pub plain : IsPlain kind e
  pub room : CountsFit e
  pub wide : 2 ^ 32 ≤ e.tx.bound

-- ---- the bearer

pub record IsTransparentBy (b : Transparent) (f : Flow) : Type 0 where
  pub layout_is : f.layout ≡ layouts.Tm
  pub cover_is : f.cover ≡ None
  pub waiting_is : f.waiting ≡ b.waiting
  pub sizes : AllByRecursion IsSdu f.waiting

pub record IsUnackedBy (b : UmState) (f : Flow) : Type 0 where
  pub bits : ℕ
  pub layout_is : f.layout ≡ layouts.Um b.bits (pdcp.Um bits)
  pub known : IsUmBits b.bits
  pub sender_bits : b.tx.bits ≡ b.bits
  pub queue : IsQueueOf (pdcp.Um bits) b.pdcp f
  pub streams : AreUmStreamsOf b.tx f.stream

-- of signalling, by the calls of its sender in the life that runs
pub record IsSignalledBy (b : State) (f : Flow) : Type 0 where
  pub layout_is : f.layout ≡ layouts.Am pdcp.Srb
  pub queue : IsQueueOf pdcp.Srb b.pdcp f
  pub run : IsRun b.tx f.stream
  pub floor_low : f.floor ≤ b.tx.window.base

abbrev pub IsQueuedBy : BearerFlow → Flow → Type 0
IsQueuedBy (Tm b) f = IsTransparentBy b f
IsQueuedBy (Um b) f = IsUnackedBy b f
IsQueuedBy (Am b) f = IsSignalledBy b f

-- ---- what the events of the channel make of the flow, and when they are right where they stand

abbrev pub queue_by : Event → Flow → Flow
queue_by (events.Take lcid count len) f = flow_taken histories count len None f
queue_by (events.Report lcid fms bitmap) f = flow_reported histories fms bitmap f
queue_by (events.Discard lcid len) f = flow_discarded f
queue_by event f = f

abbrev pub queue_over : List Event → Flow → Flow
queue_over [] f = f
queue_over (e ∷ es) f = queue_over es (queue_by e f)

abbrev pub IsRightHere : Event → Flow → Type 0
IsRightHere (events.Take lcid count len) f = FirstIsTaken count len f
IsRightHere (events.Report lcid fms bitmap) f = ⊥
IsRightHere (events.Discard lcid len) f = 0 < length f.waiting
IsRightHere event f = Unit {0}

abbrev pub AreRightHere : List Event → Flow → Type 0
AreRightHere [] f = Unit {0}
AreRightHere (e ∷ es) f = IsRightHere e f × AreRightHere es (queue_by e f)

-- SDUs are submitted
abbrev pub queue_submits : List (List ℕ) → Flow → Flow
queue_submits [] f = f
queue_submits (sdu ∷ sdus) f = queue_submits sdus (flow_submitted sdu f)

-- ---- calls in which nothing is written: an SDU is submitted, or events told

-- the call writes nothing, and an SDU that is submitted isn't refused
abbrev pub IsTakenIn : BearerFlow → BearerCall → Type 0
IsTakenIn x (Submit sdu) = refusal x sdu ≡ None
IsTakenIn x (Take share held) = ⊥
IsTakenIn x c = Unit {0}

pub record KeepsOne (l : ℕ) (x : BearerFlow) (c : BearerCall) (f : Flow) : Type 0 where
  pub right : AreRightHere (tells_in l x c) (queue_submits (submits c) f)
  pub behind : IsQueuedBy (after x c) (queue_over (tells_in l x c) (queue_submits (submits c) f))

pub record KeepsSo (l : ℕ) (x : BearerFlow) (cs : List BearerCall) (f : Flow) : Type 0 where
  pub right : AreRightHere (tells_over l x cs) (queue_submits (flat_map submits cs) f)
  pub behind : IsQueuedBy (after_all x cs)
      (queue_over (tells_over l x cs) (queue_submits (flat_map submits cs) f))

-- ---- a call in which the bearer writes

-- the PDUs, as `send` records name them; a transparent one is the SDU that was passed on
pub record ArePdusOf (l : ℕ) (x : BearerFlow) (share : ℕ) (held : Option ℕ) (f : Flow) (ps : List SentPdu) : Type 0
  where
    pub octets_are : map (λ (p : SentPdu). p.octets) ps ≡ pdus x share held
    pub hows_are : map (λ (p : SentPdu). p.how) ps ≡ hows_in (told l x share held)
    pub passed_are : f.cover ≡ None → AllByRecursion (λ (p : SentPdu). p.passed ≡ first_of f.waiting) ps

-- the numbers that are acknowledged, where the bearer is of acknowledged RLC
pub record AckedBy (b : State) (acked : ℕ → Bool) : Type 0 where
  pub most : ℕ
  pub es : List FlowEvent
  pub follows : Follows most es b.tx
  pub acks : (n : ℕ) → acked n ≡ acked_kept n (account_of most es).sending

abbrev pub IsAckedBy : BearerFlow → (ℕ → Bool) → Type 0
IsAckedBy (Tm b) acked = Unit {0}
IsAckedBy (Um b) acked = Unit {0}
IsAckedBy (Am b) acked = AckedBy b acked

pub record CanWrite (l : ℕ) (x : BearerFlow) (share : ℕ) : Type 0 where
  pub few : share ≤ 9424
  pub between : IsBetween l x
  pub lcid : ℕ
  pub well : WritesWell lcid x

pub record WritesSo (l : ℕ) (x : BearerFlow) (share : ℕ) (held : Option ℕ) (acked : ℕ → Bool) (ps : List SentPdu)
    (f : Flow) : Type 0 where
  pub right : AreRightHere (told l x share held) f
  pub pdus_right : AreRight IsRightPdu acked ps (queue_over (told l x share held) f)
  pub behind : IsQueuedBy (after x (Take share held)) (behind_all acked ps (queue_over (told l x share held) f))

-- ---- a group ends: the fields of numbers that are acknowledged are forgotten

abbrev pub IsBaseLow : BearerFlow → Option FlowLives → Type 0
IsBaseLow (Am b) (Some lives) = lives.account.sending.base ≤ b.tx.window.base
IsBaseLow x account = Unit {0}
