-- The groups of a script's journal, on a channel with an acknowledged bearer: what is gathered of
-- each is what its records tell beside both ends (docs/formats/JOURNAL.md; TS 36.322 5.2.1, 5.2.3,
-- 5.4).
use Rattle.std.specs.Prelude.{◌≡◌, ℕ, false, List, ◌∷◌, Some}
use Rattle.air_text.specs.Groups.{Group}
use Rattle.bearer_types.specs.declared.config.BearerConfig.{BearerConfig}
use Rattle.promises.specs.Blocks.{kinds}
use Rattle.promises.specs.Configs.{config_of}
use Rattle.promises.specs.Delivery.{is_forged}
use Rattle.l2_types.specs.declared.side.Side.{Side}
use Rattle.journal_failure.specs.RightFailure.{AreFailsOf, sns_told}
use Rattle.journal_lives.specs.LifeEvents.{running}
use Rattle.journal_flows.specs.FlowsTold.{Histories, histories, no_events}
use Rattle.journal_flows.specs.Gathering.{Journal, MayTake, behind, behind_line}
use Rattle.law_run.specs.Order.{KeepsOrder}
use Rattle.law_run.specs.TwoEnds.Lived.{IsAcknowledged}
use Rattle.law_sound.specs.AlikeLaws.{AreAlikeJournals}
use Rattle.law_sound.specs.BesideLaws.{ReadRecord, behind_all}
use Rattle.law_sound.specs.LoggedRecords.{records_of}
use Rattle.law_sound.specs.StepReading.{AreTruly}

-- its records, each read with whether an SDU may be taken as t-PollRetransmit expires by it, as it
-- is at the sender's end, tell truly of the STATUS PDUs of the channel, and the SNs of each side's
-- `fail` records are right by the history of its flow; but for that, what is gathered as the group
-- begins is gathered of the journal
pub record IsReadTruly (may_take : MayTake) (config : BearerConfig) (l : ℕ) (now : Group)
    (past : List Group) : Type 0 where
  pub first : Journal Histories
  pub alike : AreAlikeJournals
      (behind_line histories now.line (behind histories no_events may_take past)) first
  pub reads : List ReadRecord
  pub are : records_of reads ≡ now.events
  pub statuses : AreTruly (kinds (now ∷ past)) l first reads
  pub fails : (side : Side)
      → AreFailsOf config.tx.max_retx (running (first.flows.acked side l))
      (running ((behind_all (kinds (now ∷ past)) reads first).flows.acked side l))
      (sns_told side l now)

-- where no block was forged
abbrev pub GroupsAreRead : Type 0
GroupsAreRead =
    (may_take : MayTake) (l : ℕ) (now : Group) (past : List Group) (config : BearerConfig)
    → KeepsOrder (now ∷ past) → is_forged (now ∷ past) ≡ false
    → config_of l (now ∷ past) ≡ Some config → IsAcknowledged config.kind
    → IsReadTruly may_take config l now past
