-- A new block, as the records tell it: what its end tells before it is what it has (TS 36.321
-- 5.4.3.1, 6.1.2).
use Rattle.std.specs.Prelude.{Option, Some, None, List, [], ◌∷◌, ℕ, ◌%◌, true, ◌≡◌, ◌≤◌, Ok, ◌++◌}
use Rattle.std.specs.Prelude.{length, map, replicate}
use Rattle.mac_pdu.specs.declared.item.Bsr.{Bsr}
use Rattle.mac_pdu.specs.declared.item.Control.TheVariants.{Report}
use Rattle.mac_pdu.specs.Items.{MacItem, element, front, padding, sdu_item}
use Rattle.air_record.specs.declared.record.Record.{Record}
use Rattle.bearer_types.specs.Sides.{sent_by}
use Rattle.l2_types.specs.declared.side.Side.{Side}
use Rattle.pdu_show.specs.Show.{block_shown}
use Rattle.pdu_show.specs.declared.kinds.Layout.{Layout}
use Rattle.bearer_types.specs.declared.event.Event.{Event}
use Rattle.mac_pdu.specs.declared.builder.Sdu.{Sdu}
use Rattle.mac_pdu.specs.Reading.{reading}
use Rattle.mac_pdu.specs.Writing.{canonical}
use Rattle.promises.specs.Names.{sent_pdus, Mode, AreNamed, sent_lcids}
use Rattle.air_record.specs.declared.record.Record.TheVariants as records

abbrev pub reported : Option Bsr → List MacItem
reported None = []
reported (Some r) = element (Report r) ∷ []

-- ---- the visit of a process, by an order and a grant

-- a new block, and what shows it
abbrev pub block_told : Side → ℕ → List (Option Layout) → List ℕ → List Record
block_told side t kinds octets =
    records.Block (sent_by side) (t % 8) true 0 octets ∷ block_shown (sent_by side) kinds octets

-- a block of the grant's size, the canonical writing in it of at most one report and the PDUs that
-- are told of as sent, channel by channel and in that order; it is read as padding of one or two
-- octets or none, these, and the other padding; each PDU is the one that is told, in the mode of
-- its channel
pub record IsTold (side : Side) (grant : ℕ) (events : List Event) (octets : List ℕ) : Type 0 where
  pub size_is : length octets ≡ grant
  pub fronts : ℕ
  pub report : Option Bsr
  pub sdus : List Sdu
  pub ends : List ℕ
  pub two : fronts ≤ 2
  pub one : length ends ≤ 1
  pub writing_is : octets ≡ canonical (reported report ++ map sdu_item sdus) grant
  pub read : reading (sent_by side) octets
      ≡ Ok (replicate fronts front ++ ((reported report ++ map sdu_item sdus) ++ map padding ends))
  pub sent : sent_lcids events ≡ map (λ s. s.lcid) sdus
  pub modes : ℕ → Option Mode
  pub named : AreNamed modes (sent_pdus events) sdus

-- what an end tells, then the block, and what shows it
pub record IsNewBlock (side : Side) (t grant : ℕ) (kinds : List (Option Layout))
    (told : List Record) : Type 0 where
  pub events : List Event
  pub octets : List ℕ
  pub told_is : told ≡ map (records.Of side) events ++ block_told side t kinds octets
  pub block_is : IsTold side grant events octets
