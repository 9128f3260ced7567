-- The `fail` records that the acknowledged bearers of a channel tell along a life of two ends over
-- the air are right by the histories of its flows (TS 36.322 5.2.1; docs/formats/JOURNAL.md).
use Rattle.std.specs.Prelude.{◌≡◌, ℕ, List, []}
use Rattle.bearer.specs.Acknowledged.State.{State}
use Rattle.air_record.specs.declared.record.Record.{Record}
use Rattle.l2_node.specs.End.{End, fresh}
use Rattle.l2_types.specs.declared.side.Side.{Side}
use Rattle.l2_types.specs.declared.side.Side.TheVariants.{Nb, Ue}
use Rattle.journal_failure.specs.RightFailure.{AreFailsOf}
use Rattle.promises.specs.Events.{fails_on}
use Rattle.promises.specs.Records.{events_of}
use Rattle.law_node.specs.Calls.{Move}
use Rattle.law_node.specs.Telling.{told_of, told_over}
use Rattle.law_deliver.specs.AmChannel.Lives.{AirStep, lives, AreLiving, all_calls, end_at}
use Rattle.law_deliver.specs.AmFlow.Air.{Air, HasCome}
use Rattle.law_deliver.specs.AmFlow.Ups.{AreNew}
use Rattle.law_run.specs.TwoEnds.Going.{GoesByAir}
use Rattle.law_run.specs.TwoEnds.Staying.{AreInLife}
use Rattle.law_sound.specs.LivedHistories.{AreLived, Moment, GoOver}

-- an end that has come so far by any calls, where a bearer of the channel is added only if there is
-- none
pub record HasComeNew (side : Side) (l : ℕ) (e : End) : Type 0 where
  pub come : HasCome side e
  pub new : AreNew l come.past (fresh side come.maximum come.reports)

pub record HaveComeNew (l : ℕ) (a : Air) : Type 0 where
  pub nb : HasComeNew Nb l a.nb.end
  pub ue : HasComeNew Ue l a.ue.end

-- and so they do along lives
abbrev pub LivesComeNew : Type 0
LivesComeNew = (l : ℕ) (xs : List AirStep) (a : Air) → HaveComeNew l a → AreLiving l a xs
    → HaveComeNew l (lives xs a)

-- ---- in steps of one life

-- the SNs that a side tells in them
abbrev pub sns_in : ℕ → Side → List AirStep → Air → List ℕ
sns_in l side xs a = fails_on l (told_over (all_calls side xs a) (end_at side a))

pub record FailRightly (l : ℕ) (nb ue : State) (xs : List AirStep) (a : Air) (m last : Moment) :
    Type 0 where
  pub by_nb : AreFailsOf nb.tx_config.max_retx m.down last.down (sns_in l Nb xs a)
  pub by_ue : AreFailsOf ue.tx_config.max_retx m.up last.up (sns_in l Ue xs a)

abbrev pub LivesFailRightly : Type 0
LivesFailRightly = (l : ℕ) (xs : List AirStep) (a : Air) (m last : Moment) → HaveComeNew l a
    → AreLiving l a xs → AreInLife xs → (h : AreLived l a m.pdus m.down m.up)
    → GoOver l xs a m last → FailRightly l h.nb_bearer h.ue_bearer xs a m last

-- as a life ends nothing fails
abbrev pub MovesFailNone : Type 0
MovesFailNone = (l : ℕ) (side : Side) (keys : _) (a : Air) (m : Moment) → HaveComeNew l a
    → AreLived l a m.pdus m.down m.up → fails_on l (told_of (end_at side a) (Move keys)) ≡ []

-- ---- of the records that tell of such steps

pub record TellRightly (l : ℕ) (nb ue : State) (told : List Record) (m last : Moment) : Type 0 where
  pub by_nb : AreFailsOf nb.tx_config.max_retx m.down last.down (fails_on l (events_of Nb told))
  pub by_ue : AreFailsOf ue.tx_config.max_retx m.up last.up (fails_on l (events_of Ue told))

abbrev pub RecordsTellRightly : Type 0
RecordsTellRightly = (l : ℕ) (told : List Record) (submitted : _) (said : _) (set : _) (k : _)
    (a : Air) (m last : Moment) (by : GoesByAir l told submitted said set k a) → HaveComeNew l a
    → AreInLife by.steps → (h : AreLived l a m.pdus m.down m.up)
    → GoOver l by.steps a m last → TellRightly l h.nb_bearer h.ue_bearer told m last
