-- Behind the record of a new block a journal tells, on an acknowledged channel, that its process
-- holds what the block carries, and that it was written; behind one that tells that it was got,
-- that this came (docs/formats/JOURNAL.md; TS 36.321 5.3.2, 5.4.2, TS 36.322 5.1.3).
use Rattle.std.specs.Prelude.{◌≡◌, ℕ, ◌%◌, List, [], map, Option, None, Some, length}
use Rattle.std.specs.Prelude.{slice_get, slice_index_or}
use Rattle.std.specs.List.{AllByRecursion}
use Rattle.l2_node.specs.Building.{visited}
use Rattle.mac_pdu.specs.declared.item.Direction.{Direction}
use Rattle.pdcp_pdu.specs.declared.pdu.PdcpKind.{PdcpKind}
use Rattle.pdu_show.specs.declared.kinds.Layout.{Layout}
use Rattle.pdu_show.specs.declared.kinds.Layout.TheVariants as layouts
use Rattle.bearer_types.specs.Sides.{other, sender_of}
use Rattle.l2_types.specs.declared.side.Side.{Side}
use Rattle.promises.specs.Names.{SentPdu}
use Rattle.promises.specs.Pdus.{carried}
use Rattle.promises.specs.RightForm.{Carries}
use Rattle.promises.specs.SentNumbers.{AreNumbers}
use Rattle.journal_account.specs.FlowEvents.{next_of}
use Rattle.journal_lives.specs.LifeEvents.{running}
use Rattle.journal_flows.specs.FlowsTold.{Histories, histories}
use Rattle.journal_flows.specs.Gathering.{Journal, sending_of, behind_new, behind_landing}
use Rattle.journal_flows.specs.NumberedPdus.{front_in}
use Rattle.law_deliver.specs.AmFlow.Air.{Block, Station, Act, does, IsDone}
use Rattle.law_deliver.specs.AmFlow.Carrying.{CarriedPdu, Builds, written_on, behind_act}
use Rattle.law_deliver.specs.AmFlow.Carrying.{pdu_octets}
use Rattle.law_sound.specs.CarriedLaws.{IsPossibleAt, with_all_data, with_all_statuses}
use Rattle.law_sound.specs.HeldLaws.{AreHeldAs}
use Rattle.law_sound.specs.LoadLaws.{name_of, with_all_written}
use Rattle.law_sound.specs.NumberLaws.{AreGathered}

-- a side's block that carries such PDUs, behind `send` records that name them
pub record IsNewBlock (kinds : List (Option Layout)) (direction : Direction) (l : ℕ)
    (octets : List ℕ) (own : List CarriedPdu) (j : Journal Histories) : Type 0 where
  pub kind : PdcpKind
  pub known : slice_index_or kinds l None ≡ Some (layouts.Am kind)
  pub sent : List SentPdu
  pub named : (sending_of (sender_of direction) j).named ≡ map name_of sent
  pub form : Carries direction kinds sent octets
  pub numbers : AreNumbers l (next_of (running (j.flows.acked (sender_of direction) l))) sent
  pub carried_is : carried l direction octets ≡ map pdu_octets own
  pub gathered : AreGathered (next_of (running (j.flows.acked (sender_of direction) l)))
      (front_in (running (j.flows.acked (other (sender_of direction)) l))) l own
  pub processes : length (sending_of (sender_of direction) j).held ≡ 8

-- as it was, but for the block
pub record IsBuiltIn (from : Side) (l : ℕ) (j i : Journal Histories) (blocks : List Block)
    (pdus : List (List CarriedPdu)) (own : List CarriedPdu) : Type 0 where
  pub held : AreHeldAs l (sending_of from i) blocks pdus
  pub named : (sending_of from i).named ≡ []
  pub out : running (i.flows.acked from l)
      ≡ with_all_written (next_of (running (j.flows.acked from l))) own
      (running (j.flows.acked from l))
  pub back : i.flows.acked (other from) l ≡ j.flows.acked (other from) l

abbrev pub NewRecordsBuild : Type 0
NewRecordsBuild =
    (kinds : List (Option Layout)) (direction : Direction) (l : ℕ) (octets : List ℕ)
    (j : Journal Histories) (o s : Station) (act : Act) (pdus : List (List CarriedPdu))
    → IsDone l s act → (b : Builds s.end act)
    → IsNewBlock kinds direction l octets
    (written_on l b.turn (visited b.turn.tti b.turn.order s.end)) j
    → AreHeldAs l (sending_of (sender_of direction) j) s.blocks pdus
    → IsBuiltIn (sender_of direction) l j
    (behind_new histories kinds direction (b.turn.tti % 8) octets j) (does o s act).blocks
    (behind_act l s.end act pdus) (written_on l b.turn (visited b.turn.tti b.turn.order s.end))

-- ---- a block is got, the one that was sent last

pub record IsLanding (direction : Direction) (l : ℕ) (j : Journal Histories) (blocks : List Block)
    (pdus : List (List CarriedPdu)) (own : List CarriedPdu) : Type 0 where
  pub block : Block
  pub place : ℕ
  pub there : slice_get blocks place ≡ Some block
  pub carries : slice_get pdus place ≡ Some own
  pub last : (sending_of (sender_of direction) j).process ≡ block.process
  pub possible : AllByRecursion (IsPossibleAt
      (next_of (running (j.flows.acked (sender_of direction) l)))
      (next_of (running (j.flows.acked (other (sender_of direction)) l)))) own

pub record IsGotIn (from : Side) (l : ℕ) (j i : Journal Histories) (own : List CarriedPdu) : Type 0
  where
    pub out : running (i.flows.acked from l) ≡ with_all_data own (running (j.flows.acked from l))
    pub back : running (i.flows.acked (other from) l)
        ≡ with_all_statuses own (running (j.flows.acked (other from) l))

abbrev pub LandingRecordsBring : Type 0
LandingRecordsBring =
    (direction : Direction) (l : ℕ) (j : Journal Histories) (blocks : List Block)
    (pdus : List (List CarriedPdu)) (own : List CarriedPdu)
    → AreHeldAs l (sending_of (sender_of direction) j) blocks pdus
    → IsLanding direction l j blocks pdus own
    → IsGotIn (sender_of direction) l j (behind_landing histories direction j) own
