-- Behind the records of a journal, on a channel with a bearer of acknowledged data: what is kept of the flows that it
-- sends, while the PDUs of the journal are checked, stands beside both ends, and each new block is right on the
-- channel.
use Rattle.std.proofs.Common.{◌≡◌, ℕ, true, List, [], ◌∷◌, ◌++◌, Some}
use Rattle.air_record.specs.declared.record.Record.{Record}
use Rattle.air_record.specs.declared.record.Record.TheVariants as records
use Rattle.air_text.specs.Groups.{Group}
use Rattle.bearer.specs.Acknowledged.State.{State}
use Rattle.bearer_types.specs.Sides.{sender_of}
use Rattle.bearer_types.specs.declared.config.BearerConfig.{BearerConfig}
use Rattle.l2_types.specs.declared.side.Side.{Side}
use Rattle.l2_types.specs.declared.side.Side.TheVariants.{Nb, Ue}
use Rattle.promises.specs.Keys.{keys_in_force}
use Rattle.journal_given.specs.Supplies.{Bearer, History}
use Rattle.journal_given.specs.Supplies as given
use Rattle.journal_sent.specs.RightSent.{AllSent, Flow, PduTest, IsSdu, PduIsSent, PduIsShaped}
use Rattle.journal_sent.specs.SentFlows.{is_data}
use Rattle.journal_sent.specs.SentPdus.{histories}
use Rattle.journal_sent.specs.Sending.{acked_at, all_sending}
use Rattle.law_given.proofs.SupplyPdusKept.{WereSubmitted}
use Rattle.law_sent.specs.Channels.{StandsOn, HasChannels, AreRight, flow_on, sent_on}
use Rattle.law_sound.proofs.GivenBetween.{may, IsGivenBehind, GoesBehind}
use Rattle.law_sound.proofs.GroupCarrying.{IsReadBehind}
use Rattle.law_sound.proofs.SentBeside.{IsSentBy}
use Rattle.law_sound.proofs.SentRecords.{giving_before, sending_first}

-- ---- a new block, on a channel: the PDUs of each side's flow are right, as they carry octets and as they are framed

abbrev pub IsRightPdu : PduTest
IsRightPdu acked how passed octets f =
    PduIsSent acked how passed octets f × PduIsShaped acked how passed octets f

abbrev pub IsSentOn : ℕ → Group → List Group → List Record → Record → Type 0
IsSentOn l now past told (records.Block direction process true version octets) =
    let from = sender_of direction in
    (f : Flow) → flow_on from l (sending_first now past told) ≡ Some f → is_data f.layout ≡ true
    → AreRight IsRightPdu
    (acked_at from l (giving_before now past told (records.Block direction process true version octets)))
    (sent_on l direction octets (sending_first now past told)) f
IsSentOn l now past told one = Unit {0}

-- ---- both sides' flows

-- the SDUs that were submitted have as many octets as one may have
pub record HaveSizes (b : Bearer History) : Type 0 where
  pub nb : WereSubmitted IsSdu b.nb.takes.events
  pub ue : WereSubmitted IsSdu b.ue.takes.events

pub record StandsBeside (side : Side) (l bits : ℕ) (b : State) (s : AllSent) : Type 0 where
  pub flow : Flow
  pub stands : StandsOn side l s flow
  pub by_bearer : IsSentBy bits b flow

pub record AreSentBeside (l : ℕ) (c : BearerConfig) (one two : State) (s : AllSent) (b : Bearer History) : Type 0 where
  pub nb : StandsBeside Nb l c.pdcp_bits one s
  pub ue : StandsBeside Ue l c.pdcp_bits two s
  pub sizes : HaveSizes b

-- ---- behind groups

pub record IsSentBehind (all : List Group) (c : BearerConfig) (l : ℕ) (past : List Group)
    (h : IsReadBehind (may all) c l past) (g : IsGivenBehind all c l past h) : Type 0 where
  pub beside : AreSentBeside l c g.tied.joined.one g.tied.joined.two
      (all_sending histories given.histories past) g.bearer

-- each record of the newest group
abbrev pub SentSaid : ℕ → List Group → Type 0
SentSaid l [] = Unit {0}
SentSaid l (now ∷ past) = (told : List Record) (one : Record) (rest : List Record) → now.events ≡ told ++ one ∷ rest
    → IsSentOn l now past told one

pub record SendsBehind (all : List Group) (c : BearerConfig) (l : ℕ) (past : List Group)
    (h : GoesBehind all c l past) : Type 0 where
  pub sent : IsSentBehind all c l past h.read h.given
  pub said : SentSaid l past

-- ---- what is kept of every channel

pub record KeepsChannels (past : List Group) : Type 0 where
  pub channels : HasChannels (all_sending histories given.histories past)
  pub keys : (all_sending histories given.histories past).keys ≡ keys_in_force past
