-- A block comes, a TTI begins, a timer expires.
use Rattle.std.specs.Prelude.{ℕ, ◌+◌, if◌then◌else◌, Option, Result, Ok, Err, List, [], ◌∷◌, ◌++◌}
use Rattle.std.specs.Prelude.{slice_set}
use Rattle.bearer.specs.Bearer.{Of, of, Life, alive}
use Rattle.bearer.specs.Hearing.{arriving, arrived, ticking, ticked as flow_ticked}
use Rattle.bearer.specs.Hearing.{expiry as flow_expiry, expired as flow_expired}
use Rattle.bearer_types.specs.declared.event.Event.{Event}
use Rattle.bearer_types.specs.declared.event.Event.TheVariants.{BadMac, Drop}
use Rattle.l2_types.specs.declared.event.Clock.{Clock}
use Rattle.l2_types.specs.declared.event.Lost.TheVariants.{NoBearer}
use Rattle.mac_pdu.specs.declared.fault.MacRefusal.{MacRefusal}
use Rattle.mac_pdu.specs.Items.{MacItem, front, element, sdu, padding}
use Rattle.mac_pdu.specs.Reading.{reading}
use Rattle.l2_node.specs.Finding.{find, has, bearer_at}
use Rattle.l2_node.specs.End.{End}
use Rattle.bearer_types.specs.Sides.{heard_by}

-- the bearers, and what has been told
pub record Heard : Type 0 where
  pub bearers : List (Of Life)
  pub events : List Event

abbrev pub heard : List (Of Life) → List Event → Heard
heard bearers events = record { bearers = bearers; events = events }

-- ---- a block (TS 36.321 5.3.3, 5.4.2)

-- a PDU goes to the bearer at a place
abbrev pub arrives_at : ℕ → Of Life → List ℕ → Heard → Heard
arrives_at at b pdu h =
    heard (slice_set h.bearers at (of b.channel (alive (arrived b.state.flow pdu))))
    (h.events ++ arriving b.channel.lcid b.state.flow pdu)

abbrev pub hears_sdu : ℕ → List ℕ → Heard → Heard
hears_sdu lcid pdu h =
    if has lcid h.bearers then arrives_at (find lcid h.bearers)
    (bearer_at h.bearers (find lcid h.bearers)) pdu h
    else heard h.bearers (h.events ++ Drop lcid NoBearer ∷ [])

-- of a block's items only SDUs are used
abbrev pub hears : MacItem → Heard → Heard
hears front h = h
hears (element c) h = h
hears (sdu lcid octets) h = hears_sdu lcid octets h
hears (padding n) h = h

abbrev pub hears_all : List MacItem → Heard → Heard
hears_all [] h = h
hears_all (i ∷ is) h = hears_all is (hears i h)

-- of a block that can't be read nothing is used
abbrev pub heard_items : Result (List MacItem) MacRefusal → Heard → Heard
heard_items (Ok items) h = hears_all items h
heard_items (Err refusal) h = heard h.bearers (h.events ++ BadMac refusal ∷ [])

unfoldable pub received : End → List ℕ → Heard
received e block = heard_items (reading (heard_by e.side) block) (heard e.bearers [])

-- ---- a TTI begins

abbrev pub tells : ℕ → Of Life → Heard → Heard
tells at b h =
    heard (slice_set h.bearers at (of b.channel (alive (flow_ticked b.state.flow))))
    (h.events ++ ticking b.state.flow)

-- the bearer at a place ticks
abbrev pub ticks_at : ℕ → Heard → Heard
ticks_at at h = tells at (bearer_at h.bearers at) h

-- as many bearers as the list has tick, from a place on
abbrev pub ticks_over : List (Of Life) → ℕ → Heard → Heard
ticks_over [] at h = h
ticks_over (b ∷ bs) at h = ticks_over bs (at + 1) (ticks_at at h)

unfoldable pub ticked : End → Heard
ticked e = ticks_over e.bearers 0 (heard e.bearers [])

-- ---- a timer expires

abbrev pub bearer_of : ℕ → End → Of Life
bearer_of lcid e = bearer_at e.bearers (find lcid e.bearers)

abbrev pub with_bearer_of : ℕ → Of Life → End → End
with_bearer_of lcid b e = record e { bearers = slice_set e.bearers (find lcid e.bearers) b }

-- none where that timer doesn't run
unfoldable pub expiry : ℕ → Clock → End → Option (List Event)
expiry lcid clock e = flow_expiry (bearer_of lcid e).state.flow clock

unfoldable pub expired : ℕ → Clock → End → End
expired lcid clock e =
    with_bearer_of lcid
    (of (bearer_of lcid e).channel (alive (flow_expired (bearer_of lcid e).state.flow clock))) e
