-- A new block is gathered from a journal, on an acknowledged channel, as what it carries by true
-- numbers (docs/formats/JOURNAL.md; TS 36.322 5.1.3.1, 5.2.3).
use Rattle.std.specs.Prelude.{◌≡◌, ℕ, ◌==◌, if◌then◌else◌, List, [], ◌∷◌, ◌++◌}
use Rattle.std.specs.Prelude.{map, Option, None, Some, Result, Ok, Err, slice_index_or}
use Rattle.std.specs.List.{AllByRecursion}
use Rattle.l2_types.specs.declared.event.How.{How}
use Rattle.l2_types.specs.declared.side.Side.{Side}
use Rattle.mac_pdu.specs.declared.builder.Sdu.{Sdu}
use Rattle.mac_pdu.specs.declared.item.Direction.{Direction}
use Rattle.mac_pdu.specs.Reading.{reading}
use Rattle.rlc_pdu.specs.declared.fault.RlcRefusal.{RlcRefusal}
use Rattle.rlc_pdu.specs.Pdus.{AcknowledgedPdu, Payload, Status as Control}
use Rattle.rlc_pdu.specs.Reading.{am_at}
use Rattle.pdcp_pdu.specs.declared.pdu.PdcpKind.{PdcpKind}
use Rattle.pdu_show.specs.declared.kinds.Layout.{Layout}
use Rattle.pdu_show.specs.declared.kinds.Layout.TheVariants as layouts
use Rattle.bearer_types.specs.Sides.{other}
use Rattle.promises.specs.Names.{SentPdu}
use Rattle.promises.specs.Pdus.{carried}
use Rattle.promises.specs.RightForm.{Carries}
use Rattle.promises.specs.SentNumbers.{AreNumbers}
use Rattle.journal_account.specs.FlowEvents.{FlowEvent, next_of}
use Rattle.journal_lives.specs.LifeEvents.{running}
use Rattle.journal_flows.specs.declared.sending.Named.{Named}
use Rattle.journal_flows.specs.FlowsTold.{Histories, histories}
use Rattle.journal_flows.specs.Gathering.{Loaded, loads, sdus_read}
use Rattle.journal_flows.specs.NumberedPdus.{front_in}
use Rattle.law_deliver.specs.AmFlow.Carrying.{CarriedPdu, Numbered, Reported, pdu_octets}
use Rattle.law_sound.specs.CarriedLaws.{parcels_on, parcels_of}
use Rattle.law_sound.specs.HearingLaws.{HasOneData}
use Rattle.law_sound.specs.LogLaws.{data_told}
use Rattle.law_sound.specs.NumberLaws.{IsReadAs, HasRoom, IsNamedAs, IsGathered}

-- ---- of the PDUs of a block and of the records that name them, one by one, those of a channel

pub record NamedPdu : Type 0 where
  pub how : How
  pub octets : List ℕ

abbrev pub named_on : ℕ → List Named → List Sdu → List NamedPdu
named_on l (s ∷ sent) (d ∷ sdus) =
    (if s.lcid == l then record { how = s.how; octets = d.octets } ∷ [] else [])
    ++ named_on l sent sdus
named_on l sent sdus = []

-- each PDU that is carried is named as it is
abbrev pub AreNamedAs : ℕ → List NamedPdu → List CarriedPdu → Type 0
AreNamedAs next [] [] = Unit {0}
AreNamedAs next (x ∷ xs) (p ∷ ps) =
    (x.octets ≡ pdu_octets p) × IsNamedAs x.how next p × AreNamedAs next xs ps
AreNamedAs next [] (p ∷ ps) = ⊥
AreNamedAs next (x ∷ xs) [] = ⊥

-- so the records tell them that stand before a canonical block, as a journal promises it
abbrev pub name_of : SentPdu → Named
name_of s = record { lcid = s.lcid; how = s.how }

abbrev pub NewBlocksAreNamed : Type 0
NewBlocksAreNamed =
    (kinds : List (Option Layout)) (kind : PdcpKind) (direction : Direction) (octets : List ℕ)
    (l next : ℕ) (sent : List SentPdu) (pdus : List CarriedPdu)
    → slice_index_or kinds l None ≡ Some (layouts.Am kind) → Carries direction kinds sent octets
    → AreNumbers l next sent → carried l direction octets ≡ map pdu_octets pdus
    → AllByRecursion IsReadAs pdus → HasOneData (map pdu_octets pdus)
    → AreNamedAs next
    (named_on l (map name_of sent) (sdus_read (reading direction octets))) pdus

-- ---- what they add, as VT(S) is `next`

abbrev pub with_written_read : ℕ → Result AcknowledgedPdu RlcRefusal → List FlowEvent
    → List FlowEvent
with_written_read next (Ok (Payload pdu)) es = data_told next pdu ∷ es
with_written_read next (Ok (Control pdu)) es = es
with_written_read next (Err refused) es = es

abbrev pub with_written : ℕ → CarriedPdu → List FlowEvent → List FlowEvent
with_written next (Numbered c) es = with_written_read next (am_at c.octets) es
with_written next (Reported r) es = es

abbrev pub with_all_written : ℕ → List CarriedPdu → List FlowEvent → List FlowEvent
with_all_written next [] es = es
with_all_written next (p ∷ ps) es = with_all_written next ps (with_written next p es)

-- ---- the law

-- behind PDUs of a block that is loaded; what is written is no event of the flow back
pub record IsLoadedWith (from : Side) (l : ℕ) (b c : Loaded Histories) (pdus : List CarriedPdu)
    : Type 0 where
  pub parcels : parcels_on l c.parcels ≡ parcels_on l b.parcels ++ parcels_of l pdus
  pub own : running (c.flows.acked from l)
      ≡ with_all_written (next_of (running (b.flows.acked from l))) pdus
      (running (b.flows.acked from l))
  pub back : c.flows.acked (other from) l ≡ b.flows.acked (other from) l

-- whatever PDUs of other channels stand among them
abbrev pub NewBlocksAreLoaded : Type 0
NewBlocksAreLoaded =
    (kinds : List (Option Layout)) (kind : PdcpKind) (from : Side) (l : ℕ) (sent : List Named)
    (sdus : List Sdu) (b : Loaded Histories) (pdus : List CarriedPdu)
    → slice_index_or kinds l None ≡ Some (layouts.Am kind)
    → AreNamedAs (next_of (running (b.flows.acked from l))) (named_on l sent sdus) pdus
    → AllByRecursion (IsGathered (next_of (running (b.flows.acked from l)))
    (front_in (running (b.flows.acked (other from) l))) l) pdus
    → AllByRecursion HasRoom pdus → HasOneData (map pdu_octets pdus)
    → IsLoadedWith from l b (loads histories kinds from sent sdus b) pdus
