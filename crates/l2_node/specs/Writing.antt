-- A new block: what each bearer writes into its share of a grant, a buffer report, padding (TS
-- 36.321 5.4.3.1, 5.4.5).
use Rattle.std.specs.Prelude.{ℕ, ◌+◌, ◌-◌, ◌^◌, min, Bool, false, nat_lt, if◌then◌else◌, Option}
use Rattle.std.specs.Prelude.{Some, None, List, [], ◌∷◌, ◌++◌, length, replicate, slice_index}
use Rattle.std.specs.Prelude.{slice_set}
use Rattle.bearer.specs.Bearer.{Of, of, Life, alive}
use Rattle.bearer.specs.Sums.{need, backlog}
use Rattle.bearer.specs.Taking.{pdus, number, told, after}
use Rattle.bearer_types.specs.declared.event.Event.{Event}
use Rattle.harq.specs.Sending.{Sending}
use Rattle.l2_types.specs.declared.channel.Channel.{Channel}
use Rattle.l2_types.specs.declared.side.Side.{Side}
use Rattle.l2_types.specs.declared.side.Side.TheVariants.{Nb, Ue}
use Rattle.mac_pdu.specs.declared.builder.Sdu.{Sdu}
use Rattle.mac_pdu.specs.declared.item.Bsr.{Bsr}
use Rattle.mac_pdu.specs.declared.item.Control.TheVariants.{Report}
use Rattle.mac_pdu.specs.Writing.{Parts, items_of, writing, canonical, with_control}
use Rattle.prioritise.specs.Levels.{report}
use Rattle.prioritise.specs.Shares.{allotted}
use Rattle.l2_node.specs.Finding.{Numbers, find, has, bearer_at, lowest}
use Rattle.l2_node.specs.End.{End}
use Rattle.bearer_types.specs.Sides.{sent_by}

-- ---- needs and shares

-- what the bearer of a channel needs of a grant; nothing where there is none
abbrev pub need_at : List (Of Life) → ℕ → ℕ → Option ℕ → ℕ
need_at bearers lcid grant held = if has lcid bearers
    then need (bearer_at bearers (find lcid bearers)).state.flow grant held else 0

abbrev pub all_needs : End → ℕ → List Channel → List ℕ → List ℕ
all_needs e grant [] needs = needs
all_needs e grant (c ∷ cs) needs =
    all_needs e grant cs
    (slice_set needs c.lcid (need_at e.bearers c.lcid grant (lowest e.sender e.numbers c.lcid)))

-- the needs by LCID
unfoldable pub needs : End → ℕ → List ℕ
needs e grant = all_needs e grant e.buckets.channels (replicate 11 0)

-- the shares by LCID: a grant is reckoned with 2 octets more, since the last subheader has one
-- octet
unfoldable pub shares : End → ℕ → List ℕ
shares e grant = allotted e.buckets (needs e grant) (grant + 2)

-- ---- what is written

-- the items of a block, the numbers of the data PDUs in it by LCID, and what has been told
pub record Block : Type 0 where
  pub parts : Parts
  pub numbers : List (Option ℕ)
  pub events : List Event

-- the bearers, and the block that they write
pub record Work : Type 0 where
  pub bearers : List (Of Life)
  pub block : Block

abbrev pub work : List (Of Life) → Block → Work
work bearers block = record { bearers = bearers; block = block }

abbrev pub nothing_written : Side → Block
nothing_written side = record {
  parts = record { direction = sent_by side; controls = []; sdus = [] };
  numbers = replicate 11 None;
  events = [];
}

-- the octets of SDUs, with 3 for the subheader of each
abbrev pub taken_up : List Sdu → ℕ
taken_up [] = 0
taken_up (s ∷ ss) = (length s.octets + 3) + taken_up ss

-- PDUs of a channel as SDUs of a block
abbrev pub sdus_of : ℕ → List (List ℕ) → List Sdu
sdus_of lcid [] = []
sdus_of lcid (p ∷ ps) = record { lcid = lcid; octets = p } ∷ sdus_of lcid ps

abbrev pub with_sdus : List Sdu → Parts → Parts
with_sdus more p = record p { sdus = p.sdus ++ more }

abbrev pub noted : List (Option ℕ) → ℕ → Option ℕ → List (Option ℕ)
noted numbers lcid None = numbers
noted numbers lcid (Some n) = slice_set numbers lcid (Some n)

abbrev pub gathered : ℕ → List (List ℕ) → Option ℕ → List Event → Block → Block
gathered lcid written number events b = record {
  parts = with_sdus (sdus_of lcid written) b.parts;
  numbers = noted b.numbers lcid number;
  events = b.events ++ events;
}

-- the bearer at a place writes
abbrev pub wrote : ℕ → Of Life → ℕ → ℕ → Option ℕ → Work → Work
wrote at b lcid share held w = work
    (slice_set w.bearers at (of b.channel (alive (after b.state.flow share held))))
    (gathered lcid (pdus b.state.flow share held) (number b.state.flow share held)
    (told b.channel.lcid b.state.flow share held) w.block)

-- the bearer of a channel writes within a share
abbrev pub writes : ℕ → ℕ → Option ℕ → Work → Work
writes lcid share held w = if has lcid w.bearers
    then wrote (find lcid w.bearers) (bearer_at w.bearers (find lcid w.bearers)) lcid share held w
    else w

-- all bearers write, in the order of their channels
abbrev pub all_write : Sending → Numbers → List ℕ → List Channel → Work → Work
all_write sender numbers shares [] w = w
all_write sender numbers shares (c ∷ cs) w =
    all_write sender numbers shares cs
    (writes c.lcid (slice_index shares c.lcid) (lowest sender numbers c.lcid) w)

unfoldable pub written : End → ℕ → Work
written e grant =
    all_write e.sender e.numbers (shares e grant) e.buckets.channels
    (work e.bearers (nothing_written e.side))

-- ---- a report of the buffers, by what is left of the grant (TS 36.321 5.4.5)

-- what the bearer of a channel has
abbrev pub backlog_at : List (Of Life) → ℕ → ℕ
backlog_at bearers lcid = if has lcid bearers
    then backlog (bearer_at bearers (find lcid bearers)).state.flow else 0

-- added up by group, up to what 64 bits hold
abbrev pub all_waiting : List (Of Life) → List Channel → List ℕ → List ℕ
all_waiting bearers [] sums = sums
all_waiting bearers (c ∷ cs) sums =
    all_waiting bearers cs
    (slice_set sums c.group
    (min (slice_index sums c.group + backlog_at bearers c.lcid) (2 ^ 64 - 1)))

unfoldable pub waiting : List (Of Life) → List Channel → List ℕ
waiting bearers channels = all_waiting bearers channels (replicate 4 0)

-- the group of the first channel with data
abbrev pub top_group : List (Of Life) → List Channel → ℕ
top_group bearers [] = 0
top_group bearers (c ∷ cs) = if nat_lt 0 (backlog_at bearers c.lcid) then c.group
    else top_group bearers cs

-- the terminal reports, if it does
abbrev pub reporting : Side → Bool → Bool
reporting Nb reports = false
reporting Ue reports = reports

abbrev pub report_of : Side → Bool → List (Of Life) → List Channel → ℕ → Option Bsr
report_of side reports bearers channels padding =
    if reporting side reports then report (waiting bearers channels) (top_group bearers channels)
    padding else None

abbrev pub with_report : Option Bsr → Parts → Parts
with_report None p = p
with_report (Some r) p = with_control (Report r) p

-- ---- the block

abbrev pub left_of : ℕ → Parts → ℕ
left_of grant p = grant - length (writing (items_of p))

-- the canonical block of SDUs, with a report of what the bearers have left where one fits
unfoldable pub filled : Side → Bool → List (Of Life) → List Channel → ℕ → Parts → List ℕ
filled side reports bearers channels grant p =
    canonical
    (items_of (with_report (report_of side reports bearers channels (left_of grant p)) p)) grant

unfoldable pub new_block : End → ℕ → List ℕ
new_block e grant =
    filled e.side e.reports (written e grant).bearers e.buckets.channels grant
    (written e grant).block.parts
