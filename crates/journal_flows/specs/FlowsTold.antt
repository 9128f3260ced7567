-- The history of each flow that a journal tells, through its lives (docs/laws/ACCOUNT.md; TS 36.322
-- 5.4, 7.1).
use Rattle.std.specs.Prelude.{ℕ, ◌==◌, Bool, ◌&&◌, if◌then◌else◌, List, [], ◌∷◌}
use Rattle.l2_types.specs.declared.side.Side.{Side}
use Rattle.bearer_types.specs.declared.config.BearerConfig.{BearerConfig}
use Rattle.bearer_types.specs.Sides.{is_same}
use Rattle.air_text.specs.Groups.{Group}
use Rattle.journal_account.specs.FlowEvents.{next_of}
use Rattle.journal_lives.specs.LifeEvents.{LifeEvent, LifeEnded, running}
use Rattle.journal_flows.specs.Possible.{with_event}
use Rattle.journal_flows.specs.UmPdus.{UmFlowEvent, sent_in, place_next}
use Rattle.journal_flows.specs.UmPdus as um
use Rattle.journal_flows.specs.NumberedPdus.{AnyEvent, Acked, Unacked, Told, front_in}
use Rattle.journal_flows.specs.Gathering.{Gatherer, MayTake, behind, within}

-- By the side that sends and the channel the history, the latest event first; where there is no
-- bearer of the kind it says nothing.

abbrev pub Flows : Type 0
Flows = Side → ℕ → List LifeEvent

abbrev pub UmFlows : Type 0
UmFlows = Side → ℕ → List UmFlowEvent

pub record Histories : Type 0 where
  pub acked : Flows
  pub unacked : UmFlows

abbrev pub no_events : Histories
no_events = record { acked = λ side lcid. []; unacked = λ side lcid. [] }

-- ---- an event

abbrev pub is_at : Side → ℕ → Side → ℕ → Bool
is_at from own side lcid = is_same from side && (own == lcid)

abbrev pub with_acked : Side → ℕ → LifeEvent → Flows → Flows
with_acked from own e flows side lcid =
    if is_at from own side lcid then with_event e (flows side lcid) else flows side lcid

abbrev pub with_unacked : Side → ℕ → UmFlowEvent → UmFlows → UmFlows
with_unacked from own e flows side lcid =
    if is_at from own side lcid then e ∷ flows side lcid else flows side lcid

abbrev pub with_any : Side → ℕ → AnyEvent → Histories → Histories
with_any from own (Acked e) h =
    record { acked = with_acked from own e h.acked; unacked = h.unacked }
with_any from own (Unacked e) h =
    record { acked = h.acked; unacked = with_unacked from own e h.unacked }

abbrev pub with_told : Told → Histories → Histories
with_told t h = with_any t.side t.lcid t.event h

-- ---- a bearer begins, which has no history, and a life of each flow ends

abbrev pub with_bearer : BearerConfig → Histories → Histories
with_bearer config h = record {
  acked = λ side lcid. if config.channel.lcid == lcid then [] else h.acked side lcid;
  unacked = λ side lcid. if config.channel.lcid == lcid then [] else h.unacked side lcid;
}

abbrev pub all_ended : Histories → Histories
all_ended h = record {
  acked = λ side lcid. LifeEnded ∷ h.acked side lcid;
  unacked = λ side lcid. um.LifeEnded ∷ h.unacked side lcid;
}

abbrev pub histories : Gatherer Histories
histories = record {
  next = λ side lcid h. next_of (running (h.acked side lcid));
  front = λ side lcid h. front_in (running (h.acked side lcid));
  um_next = λ side lcid h. next_of (sent_in (h.unacked side lcid));
  um_place = λ side lcid h. place_next (sent_in (h.unacked side lcid));
  tells = with_told;
  begins = with_bearer;
  ends = all_ended;
}

-- ---- what a journal tells

-- behind groups, of which the newest stands first
abbrev pub flows_told : MayTake → List Group → Flows
flows_told may_take past = (behind histories no_events may_take past).flows.acked

abbrev pub um_flows_told : MayTake → List Group → UmFlows
um_flows_told may_take past = (behind histories no_events may_take past).flows.unacked

-- and behind the records of the newest group, before it ends
abbrev pub flows_within : MayTake → Group → List Group → Flows
flows_within may_take now past =
    (within histories may_take now past (behind histories no_events may_take past)).flows.acked

abbrev pub um_flows_within : MayTake → Group → List Group → UmFlows
um_flows_within may_take now past =
    (within histories may_take now past (behind histories no_events may_take past)).flows.unacked
