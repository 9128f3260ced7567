-- The STATUS PDUs that a process holds of a new block are true of the flow that its side hears.
use Rattle.std.proofs.Common.{◌≡◌, ℕ, ◌==◌, Bool, true, false, if◌then◌else◌, List, [], ◌∷◌, ◌++◌, map}
use Rattle.std.proofs.Common.{Result, Ok, Err, append-nil, refl, ap, sym, subst, ◌∙◌}
use Rattle.std.specs.Prelude.{option_to_list}
use Rattle.std.specs.List.{AllByRecursion}
use Rattle.std.proofs.lemmas.Bool.{eq-eqb}
use Rattle.bearer.specs.Acknowledged.State.{State}
use Rattle.bearer.specs.declared.flow.Flow.TheVariants.{Am}
use Rattle.bearer_types.specs.declared.event.Event.{Event}
use Rattle.bearer_types.specs.Sides.{sent_by}
use Rattle.harq.specs.declared.sender.Visit.{Visit}
use Rattle.harq.specs.declared.sender.Visit.TheVariants.{New}
use Rattle.l2_node.specs.Building.{visit, visited}
use Rattle.l2_node.specs.End.{End}
use Rattle.l2_node.specs.Writing.{new_block}
use Rattle.l2_types.specs.declared.event.How.TheVariants as hows
use Rattle.l2_types.specs.declared.side.Side.TheVariants.{Nb, Ue}
use Rattle.rlc_pdu.specs.declared.fault.RlcRefusal.{RlcRefusal}
use Rattle.rlc_pdu.specs.Pdus.{AcknowledgedPdu, Payload, Status as Control}
use Rattle.rlc_pdu.specs.Reading.{am_at}
use Rattle.promises.specs.Pdus.{carried}
use Rattle.journal_account.specs.FlowEvents.{FlowEvent, next_of}
use Rattle.journal_account.specs.TrueStatus.{IsTrueStatus}
use Rattle.journal_flows.specs.declared.parcels.Parcel.{Parcel}
use Rattle.journal_flows.specs.declared.parcels.Parcel.TheVariants.{Octets, Pieces, Report}
use Rattle.journal_flows.specs.NumberedPdus.{front_in}
use Rattle.law_account.specs.LateStatus.{entries_of}
use Rattle.law_bearer.specs.AnyBearer.Calls.{Call as BearerCall}
use Rattle.law_deliver.specs.AmChannel.Arrival.{built_in}
use Rattle.law_deliver.specs.AmFlow.Air.{Block, Air, Act, AtNb, AtUe, built_at, IsDone}
use Rattle.law_deliver.specs.AmFlow.Carrying.{CarriedPdu, Numbered, Reported, pdu_octets, Carried, Builds, written_on}
use Rattle.law_deliver.specs.AmFlow.Channels.{calls_of}
use Rattle.law_deliver.specs.AmFlow.Reordering.{Reordering, reordering_in}
use Rattle.law_deliver.specs.AmFlow.Ups.{tells_over}
use Rattle.law_deliver.proofs.AmFlow.Carrying.{front, rest}
use Rattle.law_deliver.proofs.AmFlow.NoPdus.{turns_tell_none}
use Rattle.law_node.specs.Calls.{Turn, Visits}
use Rattle.law_run.specs.TwoEnds.ChannelLog.{told_in}
use Rattle.law_run.specs.TwoEnds.SenderLog.{bearer_logs}
use Rattle.law_run.proofs.ChannelLogs.{told_logs}
use Rattle.law_sound.specs.BlockStatuses.{AreReportsTrue, IsTrueAsGathered}
use Rattle.law_sound.specs.CarriedLaws.{parcels_on, parcels_of}
use Rattle.law_sound.specs.HearingLaws.{with_reordering}
use Rattle.law_sound.specs.LivedHistories.{AreLived, behind_down, behind_up}
use Rattle.law_sound.specs.NumberLaws.{data_parcel, IsGathered}
use Rattle.law_sound.specs.StepReading.{IsTrueOf}
use Rattle.law_sound.proofs.BesideBuilding.{match_at, gathered_on, carried_first}
use Rattle.law_sound.proofs.BlockStatuses.{reports_are_true}
use Rattle.law_sound.proofs.LivedHistories.{lives_go_on_beside, lives_write_truly}

-- ---- parcels of the channel, among others

module _ (l : ℕ) (es : List FlowEvent) where
  abbrev AreTrue : List Parcel → Type 0
  AreTrue ps = AllByRecursion (IsTrueOf l es) ps

  others_true : (ps : List Parcel) → AreTrue (parcels_on l ps) → AreTrue ps
  others_true [] h = tt
  others_true (Octets lcid n start end ∷ ps) h = (
    tt,
    others_true ps (rest (IsTrueOf l es) (if lcid == l then Octets lcid n start end ∷ [] else [])
        (parcels_on l ps) h),
  )
  others_true (Pieces lcid n size pieces ∷ ps) h = (tt, others_true ps h)
  others_true (Report lcid ack entries ∷ ps) h = (
    here (lcid == l) refl
        (front (IsTrueOf l es) (if lcid == l then Report lcid ack entries ∷ [] else []) (parcels_on l ps) h),
    others_true ps (rest (IsTrueOf l es) (if lcid == l then Report lcid ack entries ∷ [] else [])
        (parcels_on l ps) h),
  )
    where
      here : (b : Bool) → (lcid == l) ≡ b → AreTrue (if b then Report lcid ack entries ∷ [] else [])
          → lcid ≡ l → IsTrueStatus es ack entries
      here true q h same = h.0 same
      here false q h same = let no : true ≡ false = sym (eq-eqb lcid l same) ∙ q in absurd cc

  -- ---- of what is carried

  abbrev pub IsTrueCarried : CarriedPdu → Type 0
  IsTrueCarried (Numbered c) = Unit {0}
  IsTrueCarried (Reported r) = IsTrueStatus es r.ack (entries_of r)

  data_true : (n : ℕ) (r : Result AcknowledgedPdu RlcRefusal) (ps : List Parcel) → AreTrue ps
      → AreTrue (option_to_list (data_parcel l n r) ++ ps)
  data_true n (Ok (Payload pdu)) ps h = (tt, h)
  data_true n (Ok (Control pdu)) ps h = h
  data_true n (Err refused) ps h = h

  carried_true : (own : List CarriedPdu) → AllByRecursion IsTrueCarried own → AreTrue (parcels_of l own)
  carried_true [] h = tt
  carried_true (Numbered c ∷ own) h = data_true c.number (am_at c.octets) (parcels_of l own) (carried_true own h.1)
  carried_true (Reported r ∷ own) h = (λ same. h.0, carried_true own h.1)

  pub held_true : (ps : List Parcel) (own : List CarriedPdu) → parcels_on l ps ≡ parcels_of l own
      → AllByRecursion IsTrueCarried own → AreTrue ps
  held_true ps own same h = others_true ps (subst AreTrue (sym same) (carried_true own h))

  written_true : (next : ℕ) (own : List CarriedPdu) → AllByRecursion (IsGathered next (front_in es) l) own
      → AllByRecursion (IsTrueAsGathered es next l) (map pdu_octets own) → AllByRecursion IsTrueCarried own
  written_true next [] gathered h = tt
  written_true next (Numbered c ∷ own) gathered h = (tt, written_true next own gathered.1 h.1)
  written_true next (Reported r ∷ own) gathered h =
      let g = gathered.0 hows.Status refl in
      (h.0 r.ack (entries_of r) (g.gathered ∙ sym g.own), written_true next own gathered.1 h.1)

-- ---- of a new block

builds_one : (e : End) (t : Turn) → visit t.tti t.order e ≡ New
    → built_in e (Visits t) ≡ new_block (visited t.tti t.order e) t.grant ∷ []
builds_one e t q = ap (λ (v : Visit). map (λ (b : Block). b.octets) (built_at v t (visited t.tti t.order e))) q

-- the STATUS among what it carries
reads_true : (l next : ℕ) (es : List FlowEvent) (e : End) (t : Turn) (dir : _) (own : List CarriedPdu)
    → visit t.tti t.order e ≡ New
    → AllByRecursion (λ (octets : List ℕ). AreReportsTrue es next l (carried l dir octets)) (built_in e (Visits t))
    → carried l dir (new_block (visited t.tti t.order e) t.grant) ≡ map pdu_octets own
    → AllByRecursion (IsGathered next (front_in es) l) own → AllByRecursion (IsTrueCarried l es) own
reads_true l next es e t dir own new writes first gathered =
    let one = subst (AllByRecursion (λ (octets : List ℕ). AreReportsTrue es next l (carried l dir octets)))
    (builds_one e t new) writes in
    written_true l es next own gathered
    (subst (AllByRecursion (IsTrueAsGathered es next l)) first
    (reports_are_true es next l (carried l dir (new_block (visited t.tti t.order e) t.grant)) one.0))

pub nb_writes_truly : (l : ℕ) (a : Air) (x : Act) (c : Carried) (down up : List FlowEvent) → AreLived l a c down up
    → IsDone l a.nb x → (b : Builds a.nb.end x)
    → AllByRecursion (IsTrueCarried l up) (written_on l b.turn (visited b.turn.tti b.turn.order a.nb.end))
nb_writes_truly l a x c down up h done b =
    let now = h.air.by_air.flows in
    let on = lives_go_on_beside l a (AtNb x) c down up h done in
    let gathered = gathered_on l Nb h.nb_bearer.tx_config h.ue_bearer.tx_config h.nb_bearer.rx_config
    h.ue_bearer.rx_config a.nb a.ue now.down now.up _ (match_at l a c down up h).nb.matches x done b _ _ down
    up h.beside.by_nb h.beside.by_ue in
    reads_true l (next_of down) up a.nb.end b.turn (sent_by Nb)
    (written_on l b.turn (visited b.turn.tti b.turn.order a.nb.end)) b.new
    ((lives_write_truly l a c down up h).by_nb (next_of down) (Visits b.turn)
    (subst (λ (y : Act). IsDone l a.nb y) b.is done))
    (carried_first l Nb _ _ a.ue a.nb x c.nb b on.lived.air.by_nb) gathered.each

pub ue_writes_truly : (l : ℕ) (a : Air) (x : Act) (c : Carried) (down up : List FlowEvent) → AreLived l a c down up
    → IsDone l a.ue x → (b : Builds a.ue.end x)
    → AllByRecursion (IsTrueCarried l down) (written_on l b.turn (visited b.turn.tti b.turn.order a.ue.end))
ue_writes_truly l a x c down up h done b =
    let now = h.air.by_air.flows in
    let on = lives_go_on_beside l a (AtUe x) c down up h done in
    let gathered = gathered_on l Ue h.ue_bearer.tx_config h.nb_bearer.tx_config h.ue_bearer.rx_config
    h.nb_bearer.rx_config a.ue a.nb now.up now.down _ (match_at l a c down up h).ue.matches x done b _ _ up
    down h.beside.by_ue h.beside.by_nb in
    reads_true l (next_of up) down a.ue.end b.turn (sent_by Ue)
    (written_on l b.turn (visited b.turn.tti b.turn.order a.ue.end)) b.new
    ((lives_write_truly l a c down up h).by_ue (next_of up) (Visits b.turn)
    (subst (λ (y : Act). IsDone l a.ue y) b.is done))
    (carried_first l Ue _ _ a.nb a.ue x c.ue b on.lived.air.by_ue) gathered.each

-- ---- the flow that its side hears stays as it is

visit_tells_none : (l : ℕ) (e : End) (t : Turn) (b : State)
    → reordering_in (told_in (bearer_logs l (Am b) (calls_of l e (Visits t) ++ []))) ≡ []
visit_tells_none l e t b =
    ap (λ (told : List Event). reordering_in told)
    (told_logs l (calls_of l e (Visits t) ++ []) (Am b)
    ∙ ap (λ (cs : List BearerCall). tells_over l (Am b) cs) (append-nil (calls_of l e (Visits t))))
    ∙ turns_tell_none l e t b

pub up_stays : (l : ℕ) (a : Air) (x : Act) (c : Carried) (nb ue : State) (up : List FlowEvent)
    → (b : Builds a.nb.end x) → behind_up l a (AtNb x) c nb ue up ≡ up
up_stays l a x c nb ue up b =
    subst (λ (y : Act). behind_up l a (AtNb y) c nb ue up ≡ up) (sym b.is)
    (ap (λ (rs : List Reordering). with_reordering rs up) (visit_tells_none l a.nb.end b.turn nb))

pub down_stays : (l : ℕ) (a : Air) (x : Act) (c : Carried) (nb ue : State) (down : List FlowEvent)
    → (b : Builds a.ue.end x) → behind_down l a (AtUe x) c nb ue down ≡ down
down_stays l a x c nb ue down b =
    subst (λ (y : Act). behind_down l a (AtUe y) c nb ue down ≡ down) (sym b.is)
    (ap (λ (rs : List Reordering). with_reordering rs down) (visit_tells_none l a.ue.end b.turn ue))
