-- The history of each flow of a channel with acknowledged bearers, along the lives of two ends over
-- the air and by what they log of the channel: both ends stay beside it (TS 36.322 5.1.3, 5.2,
-- 5.4).
use Rattle.std.specs.Prelude.{◌≡◌, ℕ, ◌+◌, List, [], ◌∷◌, map, slice_get, unwrap_or}
use Rattle.std.specs.List.{AllByRecursion}
use Rattle.bearer.specs.Acknowledged.State.{State, has_more}
use Rattle.bearer.specs.declared.flow.Flow.TheVariants.{Am}
use Rattle.bearer_types.specs.Sides.{other, sent_by}
use Rattle.l2_node.specs.End.{End}
use Rattle.l2_types.specs.declared.config.AmTxConfig.{AmTxConfig}
use Rattle.l2_types.specs.declared.AmRxConfig.{AmRxConfig}
use Rattle.l2_types.specs.declared.side.Side.{Side}
use Rattle.l2_types.specs.declared.side.Side.TheVariants.{Nb, Ue}
use Rattle.eps_sec.specs.declared.Keys.{Keys}
use Rattle.law_node.specs.Calls.{Call as EndCall}
use Rattle.rlc_am_rx.specs.State.{State as Receiver}
use Rattle.rlc_am_tx.specs.Machine.{State as Sender}
use Rattle.journal_account.specs.Acked.{ignored_in}
use Rattle.journal_account.specs.FlowEvents.{FlowEvent}
use Rattle.journal_failure.specs.RightFailure.{AreFailsOf}
use Rattle.law_deliver.specs.AmChannel.Lives.{AirStep, InLife, Moves, lives_on, lives, AreLiving}
use Rattle.law_deliver.specs.AmChannel.Lives.{calls_at, end_at}
use Rattle.promises.specs.Pdus.{carried}
use Rattle.law_deliver.specs.AmChannel.Arrival.{built_in}
use Rattle.law_deliver.specs.AmFlow.Air.{Station, Air, Act, Calls, Comes, Step, AtNb, AtUe, happens}
use Rattle.law_deliver.specs.AmFlow.Air.{goes, outset, IsDone, IsGiven, AreGiven, Begins}
use Rattle.law_deliver.specs.AmFlow.Carrying.{CarriedPdu, pdu_octets, Carried, behind_step}
use Rattle.law_deliver.specs.AmFlow.Carrying.{carried_behind, carries_none, AreCarried}
use Rattle.law_deliver.specs.AmFlow.Links.{IsFlowOn, AreFlowsOn}
use Rattle.law_deliver.specs.AmFlow.Reordering.{reordering_in}
use Rattle.law_deliver.specs.AmFlow.Ups.{calls_over}
use Rattle.law_account.specs.EndsTold.{AreEndsOf}
use Rattle.law_run.specs.TwoEnds.ChannelLog.{come_in, told_in, parted}
use Rattle.law_run.specs.TwoEnds.SenderLog.{BearerEntry, bearer_logs}
use Rattle.law_sound.specs.BlockStatuses.{AreReportsTrue}
use Rattle.law_sound.specs.CarriedLaws.{with_all_data}
use Rattle.law_sound.specs.HearingLaws.{with_reordering}
use Rattle.law_sound.specs.IgnoredLaws.{told_ignored}
use Rattle.law_sound.specs.LogLaws.{with_log, fails_in}

-- ---- a step of a life

-- what comes in it from a side, of what the blocks under way carry
abbrev pub comes_in : Act → List (List CarriedPdu) → List CarriedPdu
comes_in (Comes k) pdus = unwrap_or (slice_get pdus k) []
comes_in x pdus = []

abbrev pub coming_in : Side → Step → Carried → List CarriedPdu
coming_in Nb (AtUe x) c = comes_in x c.nb
coming_in Ue (AtNb x) c = comes_in x c.ue
coming_in side s c = []

-- by what the sender's bearer logs, by what arrives of the PDUs that come to the receiver's, and by
-- what this one tells of t-Reordering
abbrev pub gone_on : State → List BearerEntry → List BearerEntry → List CarriedPdu
    → List FlowEvent → List FlowEvent
gone_on b sent heard pdus es = with_reordering (reordering_in (told_in heard))
    (with_all_data pdus (with_log b.pdcp.kind (has_more b.pdcp) (parted sent) es))

-- just these PDUs come; the SNs of the `fail` records of the sender's bearer are right by the
-- history, and it tells just so many STATUS as ignored as the history ignores
pub record GoesOnBy (most : ℕ) (pdus : List CarriedPdu) (es : List FlowEvent) (b : State)
    (sent heard : List BearerEntry) (tx : Sender) (rx : Receiver) : Type 0 where
  pub come : come_in heard ≡ map pdu_octets pdus
  pub ends : AreEndsOf most (gone_on b sent heard pdus es) tx rx
  pub fails : AreFailsOf most es (gone_on b sent heard pdus es) (fails_in (parted sent))
  pub ignored : ignored_in (gone_on b sent heard pdus es)
      ≡ ignored_in es + told_ignored (parted sent)

-- what the bearer of a side logs in it
abbrev pub logged_in : ℕ → Side → Air → Step → State → List BearerEntry
logged_in l side a s b =
    bearer_logs l (Am b) (calls_over l (calls_at side a (InLife s)) (end_at side a))

-- on a channel, in the flow from a side to the other
abbrev pub GoesOn : (l : ℕ) (side : Side) (sending : AmTxConfig) (receiving : AmRxConfig) (a : Air)
    (s : Step) (c : Carried)
    → IsFlowOn l sending receiving (end_at side a) (end_at (other side) a)
    → IsFlowOn l sending receiving (end_at side (happens a s)) (end_at (other side) (happens a s))
    → ℕ → List FlowEvent → Type 0
GoesOn l side sending receiving a s c out behind most es =
    GoesOnBy most (coming_in side s c) es out.from_bearer (logged_in l side a s out.from_bearer)
    (logged_in l (other side) a s out.to_bearer) behind.from_bearer.tx behind.to_bearer.rx

-- ---- both flows, down and up

-- their ends stand beside a history of each
pub record AreBeside (l : ℕ) (nb ue : State) (a : Air) (h : AreFlowsOn l nb ue a)
    (down up : List FlowEvent) : Type 0 where
  pub by_nb : AreEndsOf nb.tx_config.max_retx down h.down.from_bearer.tx h.down.to_bearer.rx
  pub by_ue : AreEndsOf ue.tx_config.max_retx up h.up.from_bearer.tx h.up.to_bearer.rx

pub record GoOn (l : ℕ) (nb ue : State) (a : Air) (s : Step) (c : Carried)
    (now : AreFlowsOn l nb ue a) (behind : AreFlowsOn l nb ue (happens a s))
    (down up : List FlowEvent) : Type 0 where
  pub by_nb : GoesOn l Nb nb.tx_config ue.rx_config a s c now.down behind.down
      nb.tx_config.max_retx down
  pub by_ue : GoesOn l Ue ue.tx_config nb.rx_config a s c now.up behind.up ue.tx_config.max_retx
      up

abbrev pub EndsGoOnByAir : Type 0
EndsGoOnByAir = (l : ℕ) (nb ue : End) (b d : State) (steps : List Step) (s : Step)
    → Begins Nb l nb b → Begins Ue l ue d → AreGiven l (outset nb ue) steps
    → IsGiven l (goes steps (outset nb ue)) s
    → (h : AreCarried l b d (goes steps (outset nb ue))
    (carried_behind l steps (outset nb ue) carries_none))
    → (behind : AreFlowsOn l b d (happens (goes steps (outset nb ue)) s))
    → (down up : List FlowEvent)
    → AreBeside l b d (goes steps (outset nb ue)) h.by_air.flows down up
    → GoOn l b d (goes steps (outset nb ue)) s (carried_behind l steps (outset nb ue) carries_none)
    h.by_air.flows behind down up

-- ---- at a moment of lives: what has happened so far in the one that runs

pub record AreLived (l : ℕ) (a : Air) (c : Carried) (down up : List FlowEvent) : Type 0 where
  pub nb : End
  pub ue : End
  pub nb_bearer : State
  pub ue_bearer : State
  pub nb_begins : Begins Nb l nb nb_bearer
  pub ue_begins : Begins Ue l ue ue_bearer
  pub steps : List Step
  pub given : AreGiven l (outset nb ue) steps
  pub there : a ≡ goes steps (outset nb ue)
  pub carried_is : c ≡ carried_behind l steps (outset nb ue) carries_none
  pub air : AreCarried l nb_bearer ue_bearer a c
  pub beside : AreBeside l nb_bearer ue_bearer a air.by_air.flows down up

-- a life begins without events
abbrev pub LivesBeginBeside : Type 0
LivesBeginBeside = (l : ℕ) (nb ue : End) (b d : State) → Begins Nb l nb b → Begins Ue l ue d
    → AreLived l (outset nb ue) carries_none [] []

-- and so the next one does as both ends move
abbrev pub MovesBeginBeside : Type 0
MovesBeginBeside = (l : ℕ) (a : Air) (c : Carried) (down up : List FlowEvent) (keys : Keys)
    → AreLived l a c down up → AreLived l (lives_on a (Moves keys)) carries_none [] []

-- in a step of a life both histories go on
abbrev pub behind_down : ℕ → Air → Step → Carried → State → State → List FlowEvent
    → List FlowEvent
behind_down l a s c nb ue es =
    gone_on nb (logged_in l Nb a s nb) (logged_in l Ue a s ue) (coming_in Nb s c) es

abbrev pub behind_up : ℕ → Air → Step → Carried → State → State → List FlowEvent → List FlowEvent
behind_up l a s c nb ue es =
    gone_on ue (logged_in l Ue a s ue) (logged_in l Nb a s nb) (coming_in Ue s c) es

pub record LiveOn (l : ℕ) (a : Air) (s : Step) (c : Carried) (down up : List FlowEvent)
    (nb ue : State) (now : AreFlowsOn l nb ue a) : Type 0 where
  pub behind : AreFlowsOn l nb ue (happens a s)
  pub go_on : GoOn l nb ue a s c now behind down up
  pub lived : AreLived l (happens a s) (behind_step l a s c)
      (behind_down l a s c now.down.from_bearer now.down.to_bearer down)
      (behind_up l a s c now.up.to_bearer now.up.from_bearer up)

abbrev pub LivesGoOnBeside : Type 0
LivesGoOnBeside = (l : ℕ) (a : Air) (s : Step) (c : Carried) (down up : List FlowEvent)
    (h : AreLived l a c down up) → IsGiven l a s
    → LiveOn l a s c down up h.nb_bearer h.ue_bearer h.air.by_air.flows

-- ---- in any steps of lives, in which a history of each flow goes on, to one behind the last

pub record Moment : Type 0 where
  pub pdus : Carried
  pub down : List FlowEvent
  pub up : List FlowEvent

abbrev pub GoOver : ℕ → List AirStep → Air → Moment → Moment → Type 0
GoOver l [] a m last = m ≡ last
GoOver l (InLife s ∷ xs) a m last = (h : AreLived l a m.pdus m.down m.up)
    × (let now = h.air.by_air.flows in
    GoOver l xs (happens a s) (record {
      pdus = behind_step l a s m.pdus;
      down = behind_down l a s m.pdus now.down.from_bearer now.down.to_bearer m.down;
      up = behind_up l a s m.pdus now.up.to_bearer now.up.from_bearer m.up;
    }) last)
GoOver l (Moves keys ∷ xs) a m last =
    GoOver l xs (lives_on a (Moves keys)) (record { pdus = carries_none; down = []; up = [] })
    last

pub record LiveOver (l : ℕ) (xs : List AirStep) (a : Air) (m : Moment) : Type 0 where
  pub last : Moment
  pub over : GoOver l xs a m last
  pub lived : AreLived l (lives xs a) last.pdus last.down last.up

abbrev pub LivesGoOver : Type 0
LivesGoOver = (l : ℕ) (xs : List AirStep) (a : Air) (m : Moment)
    → AreLived l a m.pdus m.down m.up → AreLiving l a xs → LiveOver l xs a m

-- ---- a new block

-- of a side, by the history of the flow that the side hears
abbrev pub WritesFrom : ℕ → Side → Station → List FlowEvent → Type 0
WritesFrom l side s es = (next : ℕ) (c : EndCall) → IsDone l s (Calls c)
    → AllByRecursion (λ octets. AreReportsTrue es next l (carried l (sent_by side) octets))
    (built_in s.end c)

pub record NewBlocksAreTrue (l : ℕ) (a : Air) (down up : List FlowEvent) : Type 0 where
  pub by_nb : WritesFrom l Nb a.nb up
  pub by_ue : WritesFrom l Ue a.ue down

abbrev pub LivesWriteTruly : Type 0
LivesWriteTruly =
    (l : ℕ) (a : Air) (c : Carried) (down up : List FlowEvent) → AreLived l a c down up
    → NewBlocksAreTrue l a down up
