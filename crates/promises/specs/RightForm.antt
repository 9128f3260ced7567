-- When the new blocks of a journal have right form, whoever made it (TS 36.321 6.1.2, TS 36.322
-- 6.2.1, TS 36.323 6.2; docs/formats/JOURNAL.md). Each is the canonical writing, in its own size,
-- of its control elements and SDUs. Its SDUs are exactly the PDUs that the `send` records of its
-- side name behind the new block before it, in their order; each is the canonical writing of what
-- is read of it, and so is each SDU of PDCP that is whole in it. Behind each new block stand, at
-- once, the records that show it, and they stand nowhere else. How large a block is isn't judged,
-- nor which octets of a stream a PDU carries.
use Rattle.std.specs.Prelude.{ℕ, Bool, true, false, not, ◌&&◌, List, [], ◌∷◌, ◌++◌, ◌≡◌, Option}
use Rattle.std.specs.Prelude.{Some, None, Ok, length, map, slice_index_or}
use Rattle.std.specs.List.{filter, flat_map}
use Rattle.mac_pdu.specs.declared.item.Control.{Control}
use Rattle.mac_pdu.specs.declared.item.Direction.{Direction}
use Rattle.mac_pdu.specs.declared.builder.Sdu.{Sdu}
use Rattle.mac_pdu.specs.Items.{MacItem, element, sdu, sdu_item}
use Rattle.mac_pdu.specs.Reading.{reading}
use Rattle.mac_pdu.specs.Writing.{canonical}
use Rattle.l2_types.specs.declared.side.Side.{Side}
use Rattle.l2_types.specs.declared.side.Side.TheVariants.{Nb, Ue}
use Rattle.bearer_types.specs.Sides.{is_same, is_same_way, sent_by}
use Rattle.bearer_types.specs.declared.event.Event.TheVariants.{Send}
use Rattle.air_record.specs.declared.record.Record.{Record}
use Rattle.air_record.specs.declared.record.Record.TheVariants as records
use Rattle.air_text.specs.Groups.{Group}
use Rattle.pdu_show.specs.declared.kinds.Layout.{Layout}
use Rattle.pdu_show.specs.Show.{block_shown}
use Rattle.law_words.specs.Sequences.{many}
use Rattle.promises.specs.Blocks.{kinds}
use Rattle.promises.specs.Names.{SentPdu, Mode, AreNamed}
use Rattle.promises.specs.Records.{is_shown}
use Rattle.promises.specs.Shown.{mode_in}

-- ---- what a new block carries

abbrev pub controls_in : List MacItem → List Control
controls_in [] = []
controls_in (element control ∷ items) = control ∷ controls_in items
controls_in (item ∷ items) = controls_in items

abbrev pub sdus_in : List MacItem → List Sdu
sdus_in [] = []
sdus_in (sdu lcid octets ∷ items) = record { lcid = lcid; octets = octets } ∷ sdus_in items
sdus_in (item ∷ items) = sdus_in items

-- the items without padding: control elements stand before SDUs
abbrev pub unpadded : List MacItem → List MacItem
unpadded items = map element (controls_in items) ++ map sdu_item (sdus_in items)

-- the mode of the bearer that is known on a channel
abbrev pub known_mode : Option Layout → Option Mode
known_mode None = None
known_mode (Some layout) = Some (mode_in layout)

abbrev pub mode_of : List (Option Layout) → ℕ → Option Mode
mode_of kinds lcid = known_mode (slice_index_or kinds lcid None)

-- a block is canonical for what is read in it, and its SDUs are the PDUs that are named
pub record Carries (direction : Direction) (kinds : List (Option Layout)) (sent : List SentPdu)
    (octets : List ℕ) : Type 0 where
  pub items : List MacItem
  pub read : reading direction octets ≡ Ok items
  pub writing_is : octets ≡ canonical (unpadded items) (length octets)
  pub named : AreNamed (mode_of kinds) sent (sdus_in items)

-- ---- PDUs that are told of as sent, and the blocks that carry them

-- a side's `send` record, or a new block of its direction
abbrev pub is_built : Side → Record → Bool
is_built side (records.Of s (Send lcid how sn)) = is_same side s
is_built side (records.Block direction process fresh version octets) =
    fresh && is_same_way (sent_by side) direction
is_built side one = false

abbrev pub send_record : Side → SentPdu → Record
send_record side s = records.Of side (Send s.lcid s.how s.sn)

-- `send` records, and the block of the PDUs that they name
pub record IsBuilt (side : Side) (kinds : List (Option Layout)) (told : List Record) : Type 0 where
  pub sent : List SentPdu
  pub process : ℕ
  pub version : ℕ
  pub octets : List ℕ
  pub told_is : told ≡ map (send_record side) sent
      ++ records.Block (sent_by side) process true version octets ∷ []
  pub carries : Carries (sent_by side) kinds sent octets

-- ---- what shows a block

abbrev pub is_unshown : Record → Bool
is_unshown one = not (is_shown one)

-- a record, and behind a new block what shows it
abbrev pub with_shown : List (Option Layout) → Record → List Record
with_shown kinds (records.Block direction process true version octets) =
    records.Block direction process true version octets ∷ block_shown direction kinds octets
with_shown kinds one = one ∷ []

-- ---- a group, with the bearers that are known

pub record HasForm (kinds : List (Option Layout)) (events : List Record) : Type 0 where
  pub down : many (IsBuilt Nb kinds) (filter (is_built Nb) events)
  pub up : many (IsBuilt Ue kinds) (filter (is_built Ue) events)
  pub shown_is : events ≡ flat_map (with_shown kinds) (filter is_unshown events)

-- behind each group, of which the newest stands first
abbrev pub FormIsRight : List Group → Type 0
FormIsRight [] = Unit {0}
FormIsRight (g ∷ past) = HasForm (kinds (g ∷ past)) g.events × FormIsRight past
