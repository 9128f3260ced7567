-- The `send` records before a new block name its PDUs.
use Rattle.std.proofs.Common.{◌≡◌, ℕ, Bool, true, if◌then◌else◌, List, [], ◌∷◌, ◌++◌, map, refl, ap, sym, subst, ◌∙◌}
use Rattle.std.specs.List.{AllByRecursion}
use Rattle.air_record.specs.declared.record.Record.{Record}
use Rattle.air_record.specs.declared.record.Record.TheVariants as records
use Rattle.bearer_types.specs.declared.event.Event.{Event}
use Rattle.l2_types.specs.declared.side.Side.{Side}
use Rattle.l2_types.specs.declared.side.Side.TheVariants.{Nb, Ue}
use Rattle.promises.specs.Names.{sent_pdus}
use Rattle.promises.specs.SentNumbers.{AreNumbers}
use Rattle.journal_flows.specs.declared.sending.Named.{Named}
use Rattle.journal_flows.specs.Gathering.{sending_of}
use Rattle.law_deliver.specs.AmFlow.Air.{Air, Act, IsDone}
use Rattle.law_node.specs.Calls.{Visits}
use Rattle.law_node.specs.Telling.{told_of}
use Rattle.law_run.specs.TwoEnds.Logs.{LogEntry, Flight, logged, all_tell}
use Rattle.law_sound.specs.BesideLaws.{ReadRecord, station_of}
use Rattle.law_sound.specs.LivedFails.{HasComeNew, HaveComeNew}
use Rattle.law_sound.specs.LoadLaws.{name_of}
use Rattle.law_sound.specs.LoggedRecords.{records_of, IsTold, IsOwn}
use Rattle.law_sound.specs.NamedLogs.{named_over}
use Rattle.law_sound.specs.NamedSteps.{SendsNoNewBlock, NewBlocksAreToldOf}
use Rattle.law_sound.proofs.LoggedRecords.{own_records_tell}
use Rattle.law_sound.proofs.NamedForm.{new_blocks_have_form}
use Rattle.law_sound.proofs.NamedLogs.{records_name, events_name}
use Rattle.law_sound.proofs.NamedNumbers.{other_records_write_none, calls_are_numbered}
use Rattle.law_sound.proofs.Telling.{same_side}

-- ---- where a side only tells, no record sends a new block

all_own : (side : Side) (told : List Event) → AllByRecursion (IsTold side) (all_tell side told)
all_own side [] = tt
all_own side (e ∷ told) = (refl, all_own side told)

own_sends_none : (l : ℕ) (side : Side) (one : Record) → IsOwn l side one → SendsNoNewBlock one
own_sends_none l side (records.Block direction process true rv octets) own = absurd own
own_sends_none l side one own = tt

all_send_none : (l : ℕ) (side : Side) (xs : List ReadRecord)
    → AllByRecursion (λ (x : ReadRecord). IsOwn l side x.one) xs
    → AllByRecursion (λ (x : ReadRecord). SendsNoNewBlock x.one) xs
all_send_none l side [] own = tt
all_send_none l side (x ∷ xs) own = (own_sends_none l side x.one own.0, all_send_none l side xs own.1)

pub telling_sends_none : (l : ℕ) (side : Side) (before : Flight) (xs : List ReadRecord) (told : List Event)
    → logged before (records_of xs) ≡ all_tell side told
    → AllByRecursion (λ (x : ReadRecord). SendsNoNewBlock x.one) xs
telling_sends_none l side before xs told is =
    all_send_none l side xs
    (own_records_tell l side before xs (subst (AllByRecursion (IsTold side)) (sym is) (all_own side told)))

-- ---- the law

come_at : (side : Side) (l : ℕ) (a : Air) → HaveComeNew l a → HasComeNew side l (station_of side a).end
come_at Nb l a new = new.nb
come_at Ue l a new = new.ue

pub new_blocks_are_told_of : NewBlocksAreToldOf
new_blocks_are_told_of kinds l side a x c down up before j xs h new done b known is none g =
    let s = station_of side a in
    let told = told_of s.end (Visits b.turn) in
    let now = (sending_of side j).named in
    let acts = subst (λ (y : Act). IsDone l s y) b.is done in
    record {
      sent = sent_pdus told;
      named = records_name kinds side before xs j
          ∙ (ap (λ (log : List LogEntry). named_over side log now) is
          ∙ (events_name side side told now
          ∙ (ap (λ (same : Bool). if same then now ++ map name_of (sent_pdus told) else now) (same_side side)
          ∙ ap (λ (ns : List Named). ns ++ map name_of (sent_pdus told)) none)));
      form = new_blocks_have_form kinds side s.end b.turn (come_at side l a new).come acts.0 b.new known;
      numbers = subst (λ (n : ℕ). AreNumbers l n (sent_pdus told))
          (sym (other_records_write_none kinds side l xs j (telling_sends_none l side before xs told is)))
          (calls_are_numbered l side a c down up (Visits b.turn) j h new acts.1 g);
    }
