-- What a side logs in a step of a life on a channel is what its bearer does, whichever act it is; and a new block
-- carries what was named before it.
use Rattle.std.proofs.Common.{◌≡◌, ℕ, ◌%◌, Bool, true, false, List, [], ◌∷◌, ◌++◌, map}
use Rattle.std.proofs.Common.{Option, Some, None, unwrap_or, slice_get, append-nil}
use Rattle.std.proofs.Common.{refl, ap, sym, subst, ◌∙◌}
use Rattle.std.proofs.lemmas.List.{map-append}
use Rattle.air_record.specs.declared.record.Record.{Record}
use Rattle.air_record.specs.declared.record.Record.TheVariants as records
use Rattle.bearer.specs.Acknowledged.State.{State}
use Rattle.bearer.specs.declared.flow.Flow.{Flow}
use Rattle.bearer.specs.declared.flow.Flow.TheVariants.{Am}
use Rattle.bearer_types.specs.declared.event.Event.{Event}
use Rattle.bearer_types.specs.Sides.{other, sent_by}
use Rattle.harq.specs.declared.sender.Visit.{Visit}
use Rattle.harq.specs.declared.sender.Visit.TheVariants.{New, Resend, Silent}
use Rattle.l2_node.specs.Building.{visit, visited}
use Rattle.l2_node.specs.End.{End}
use Rattle.l2_node.specs.Finding.{has}
use Rattle.l2_types.specs.declared.side.Side.{Side}
use Rattle.l2_types.specs.declared.side.Side.TheVariants.{Nb, Ue}
use Rattle.law_bearer.specs.AnyBearer.Calls.{Call as BearerCall, Calls as BearerCalls, after_all, run_bearer}
use Rattle.law_bearer.specs.AnyBearer.Calls.{after as bearer_after}
use Rattle.law_deliver.specs.AmChannel.Lives.{InLife, end_at, calls_at}
use Rattle.law_deliver.specs.AmChannel.Lives.{brought, calls_by}
use Rattle.law_deliver.specs.AmChannel.Arrival.{built_in}
use Rattle.law_deliver.specs.AmFlow.Air.{Block, Station, Air, Act, Calls, Comes, Goes, Step, AtNb, AtUe, Passes}
use Rattle.law_deliver.specs.AmFlow.Air.{built_at, does, happens, IsDone, IsGiven, IsCalling, IsVisiting}
use Rattle.law_deliver.specs.AmFlow.Carrying.{CarriedPdu, Carried, Builds, with_built, written_on, behind_act}
use Rattle.law_deliver.specs.AmFlow.Carrying.{behind_step}
use Rattle.law_deliver.specs.AmFlow.Channels.{GoesOnInLife}
use Rattle.law_deliver.specs.AmFlow.Ups.{calls_over}
use Rattle.law_deliver.proofs.AmChannel.Ends.{step_end}
use Rattle.law_deliver.proofs.AmFlow.Ups.{over_tells}
use Rattle.law_node.specs.Calls.{Call, Turn, Visits, Receive, IsGiven as IsGivenCall}
use Rattle.law_node.specs.Holding.{flow}
use Rattle.law_node.specs.Names.{mode}
use Rattle.pdcp_pdu.specs.declared.pdu.PdcpKind.{PdcpKind}
use Rattle.pdu_show.specs.declared.kinds.Layout.{Layout}
use Rattle.promises.specs.Names.{Acknowledged, SentPdu, sent_pdus}
use Rattle.journal_account.specs.FlowEvents.{FlowEvent}
use Rattle.journal_form.specs.Tests.{carries}
use Rattle.journal_form.specs.Checking.{Building}
use Rattle.journal_form.proofs.Units.{told_to}
use Rattle.journal_flows.specs.FlowsTold.{Histories, histories}
use Rattle.journal_flows.specs.Gathering.{Journal, Sending, behind_record}
use Rattle.law_run.specs.TwoEnds.Along.{at_side}
use Rattle.law_run.specs.TwoEnds.ChannelLog.{on_channel, parted, HasRoom}
use Rattle.law_run.specs.TwoEnds.Logs.{log_in, log_by, log_at, log_over}
use Rattle.law_run.specs.TwoEnds.SenderLog.{bearer_logs}
use Rattle.law_run.proofs.ChannelLogs.{sides_log_their_calls}
use Rattle.law_run.proofs.Modes.{keeps_mode}
use Rattle.law_sound.specs.BesideLaws.{ReadRecord, behind_all}
use Rattle.law_sound.specs.BesideLaws.{tells_flow, LeavesFlows, station_of, bearer_at}
use Rattle.law_sound.specs.CarriedLaws.{parcels_on, parcels_of}
use Rattle.law_sound.specs.HeldLaws.{AreHeldAs, held_parcels}
use Rattle.law_sound.specs.LivedFails.{HasComeNew, HaveComeNew}
use Rattle.law_sound.specs.LivedHistories.{AreLived, Moment, behind_down, behind_up, coming_in, logged_in}
use Rattle.law_sound.specs.LoggedRecords.{records_of, IsOwn}
use Rattle.law_sound.proofs.LivedFails.{AreThere, step_of, stands_new}
use Rattle.law_sound.proofs.LivedHistories.{none_at}
use Rattle.law_sound.proofs.StepNames.{with_sent, sent_of}
use Rattle.law_sound.proofs.StepRecords.{logs_are}

-- ---- records one behind the other

pub all_then : (kinds : List (Option Layout)) (xs ys : List ReadRecord) (j : Journal Histories)
    → behind_all kinds (xs ++ ys) j ≡ behind_all kinds ys (behind_all kinds xs j)
all_then kinds [] ys j = refl
all_then kinds (x ∷ xs) ys j = all_then kinds xs ys (behind_record histories kinds x.more x.one j)

pub records_then : (xs ys : List ReadRecord) → records_of (xs ++ ys) ≡ records_of xs ++ records_of ys
records_then xs ys = map-append (λ (x : ReadRecord). x.one) xs ys

abbrev built : Bool → Building
built right = record { sent = []; right = right }

abbrev pub none_named : Building
none_named = built true

-- ---- what a side logs of a step on the channel is what its bearer does

pub has_room : (s : Station) (c : Call) → IsCalling s c → HasRoom s.end c
has_room s (Visits t) g = λ q. (subst (λ (v : Visit). IsVisiting v s t) q g).some
has_room s (Receive block) g = tt
has_room s c g = tt

module _ (l : ℕ) (side : Side) (b : State) where
  one_call : (e : End) (c : Call) → HasComeNew side l e → has l e.bearers ≡ true → flow l e ≡ Am b → IsGivenCall c
      → GoesOnInLife l c → HasRoom e c
      → on_channel l side (log_over side 0 (c ∷ []) e) ≡ parted (bearer_logs l (Am b) (calls_over l (c ∷ []) e))
  one_call e c new there is given life room =
      ap (on_channel l side) (append-nil (log_in side 0 e c)) ∙ logs_are l side 0 e c b new there is given life room

  act_logs : (o s : Station) (x : Act) → IsDone l s x → HasComeNew side l s.end → has l s.end.bearers ≡ true
      → flow l s.end ≡ Am b
      → on_channel l side (log_over side 0 (calls_by o x ++ []) s.end)
      ≡ parted (bearer_logs l (Am b) (calls_over l (calls_by o x) s.end))
  act_logs o s (Calls c) done new there is =
      one_call s.end c new there is done.0 done.1 (has_room s c done.2)
  act_logs o s (Comes k) done new there is = by (slice_get o.blocks k)
    where
      by : (x : Option Block) → on_channel l side (log_over side 0 (brought x ++ []) s.end)
          ≡ parted (bearer_logs l (Am b) (calls_over l (brought x) s.end))
      by None = refl
      by (Some block) =
          one_call s.end (Receive block.octets) new there is tt (record { adds_none = refl; moves_none = refl }) tt
  act_logs o s (Goes k) done new there is = refl

pub step_logs : (l : ℕ) (side : Side) (b : State) (a : Air) (s : Step) → IsGiven l a s → HaveComeNew l a → AreThere l a
    → flow l (end_at side a) ≡ Am b
    → on_channel l side (log_at a (InLife s)) ≡ parted (logged_in l side a s b)
step_logs l side b a s g new there is =
    ap (on_channel l side) (sym (append-nil (log_at a (InLife s))))
    ∙ (sides_log_their_calls l 0 side (InLife s ∷ []) a ∙ by side s g is)
  where
    by : (side : Side) (s : Step) → IsGiven l a s → flow l (end_at side a) ≡ Am b
        → on_channel l side (log_over side 0 (calls_at side a (InLife s) ++ []) (end_at side a))
        ≡ parted (logged_in l side a s b)
    by Nb (AtNb x) g is = act_logs l Nb b a.ue a.nb x g new.nb there.nb is
    by Nb (AtUe x) g is = refl
    by Nb Passes g is = refl
    by Ue (AtNb x) g is = refl
    by Ue (AtUe x) g is = act_logs l Ue b a.nb a.ue x g new.ue there.ue is
    by Ue Passes g is = refl

-- ---- the kinds of the bearers stay

modes_over : (cs : List BearerCall) (f : Flow) → mode (after_all f cs) ≡ mode f
modes_over cs f = ap mode (same cs f) ∙ keeps_mode (map (λ (c : BearerCall). BearerCalls c) cs) f
  where
    same : (cs : List BearerCall) (f : Flow)
        → after_all f cs ≡ run_bearer (map (λ (c : BearerCall). BearerCalls c) cs) f
    same [] f = refl
    same (c ∷ cs) f = same cs (bearer_after f c)

pub step_modes : (l : ℕ) (side : Side) (a : Air) (s : Step) → IsGiven l a s → HasComeNew side l (end_at side a)
    → has l (end_at side a).bearers ≡ true → mode (flow l (end_at side (happens a s))) ≡ mode (flow l (end_at side a))
step_modes l side a s g new there =
    let cs = calls_at side a (InLife s) in
    let e = end_at side a in
    let o = step_of l side a s g in
    let t = over_tells side l e cs (stands_new side l e new there) o.given o.life in
    ap (λ (z : End). mode (flow l z)) (step_end side a (InLife s))
    ∙ (ap mode t.bearer_is ∙ modes_over (calls_over l cs e) (flow l e))

pub builds_none : (e : End) (c : Call) → (Builds e (Calls c) → ⊥) → built_in e c ≡ []
builds_none e (Visits t) none = by (visit t.tti t.order e) refl
  where
    by : (v : Visit) → visit t.tti t.order e ≡ v
        → map (λ (b : Block). b.octets) (built_at v t (visited t.tti t.order e)) ≡ []
    by New q = absurd (none (record { turn = t; is = refl; new = q }))
    by (Resend rv) q = refl
    by Silent q = refl
builds_none e c none = refl

-- ---- one side of the air

-- the bearer of a side, and what is logged there
pub flows_at : (l : ℕ) (side : Side) (a : Air) (c : Carried) (down up : List FlowEvent) (h : AreLived l a c down up)
    → flow l (station_of side a).end ≡ Am (bearer_at side l h.nb_bearer h.ue_bearer a h.air.by_air.flows)
flows_at l Nb a c down up h = h.air.by_air.flows.down.from_is
flows_at l Ue a c down up h = h.air.by_air.flows.up.from_is

pub new_at : (l : ℕ) (side : Side) (a : Air) → HaveComeNew l a → HasComeNew side l (station_of side a).end
new_at l Nb a new = new.nb
new_at l Ue a new = new.ue

pub there_at : (l : ℕ) (side : Side) (a : Air) → AreThere l a → has l (station_of side a).end.bearers ≡ true
there_at l Nb a there = there.nb
there_at l Ue a there = there.ue

pub done_at : (l : ℕ) (side : Side) (a : Air) (x : Act) → IsGiven l a (at_side side x) → IsDone l (station_of side a) x
done_at l Nb a x g = g
done_at l Ue a x g = g

pub given_at : (l : ℕ) (side : Side) (a : Air) (x : Act) → IsDone l (station_of side a) x → IsGiven l a (at_side side x)
given_at l Nb a x g = g
given_at l Ue a x g = g

pub log_at_side : (side : Side) (a : Air) (x : Act)
    → log_at a (InLife (at_side side x)) ≡ log_by side (station_of (other side) a) (station_of side a).end x
log_at_side Nb a x = refl
log_at_side Ue a x = refl

pub logged_at_side : (l : ℕ) (side : Side) (a : Air) (x : Act) (b : State)
    → logged_in l side a (at_side side x) b
    ≡ bearer_logs l (Am b) (calls_over l (calls_by (station_of (other side) a) x) (station_of side a).end)
logged_at_side l Nb a x b = refl
logged_at_side l Ue a x b = refl

pub kind_at : (f : Flow) (b : State) (kind : PdcpKind) → f ≡ Am b → mode f ≡ Acknowledged kind → b.pdcp.kind ≡ kind
kind_at f b kind is m = let same : Acknowledged b.pdcp.kind ≡ Acknowledged kind = sym (ap mode is) ∙ m in cc

-- no PDU comes with a call, or where no block does
pub call_comes : (side : Side) (c : Call) (pdus : Carried) → coming_in (other side) (at_side side (Calls c)) pdus ≡ []
call_comes Nb c pdus = refl
call_comes Ue c pdus = refl

pub going_comes : (side : Side) (k : ℕ) (pdus : Carried) → coming_in (other side) (at_side side (Goes k)) pdus ≡ []
going_comes Nb k pdus = refl
going_comes Ue k pdus = refl

pub none_comes : (l : ℕ) (side : Side) (k : ℕ) (a : Air) (c : Carried) (down up : List FlowEvent)
    → AreLived l a c down up
    → slice_get (station_of (other side) a).blocks k ≡ None → coming_in (other side) (at_side side (Comes k)) c ≡ []
none_comes l Nb k a c down up h at =
    ap (λ (o : Option _). unwrap_or o []) (none_at l (sent_by Ue) _ _ a.ue.blocks c.ue k h.air.by_ue at)
none_comes l Ue k a c down up h at =
    ap (λ (o : Option _). unwrap_or o []) (none_at l (sent_by Nb) _ _ a.nb.blocks c.nb k h.air.by_nb at)

-- ---- the form of a new block, behind what its side tells

module _ (kinds : List (Option Layout)) where
  pub block_carries : (side : Side) (sent : List SentPdu) (process version : ℕ) (octets : List ℕ)
      → (told_to side kinds (records.Block (sent_by side) process true version octets)
      (with_sent sent none_named)).right ≡ true
      → carries (sent_by side) kinds sent octets ≡ true
  block_carries Nb sent process version octets e = e
  block_carries Ue sent process version octets e = e

  pub block_closes : (s side : Side) (said : List Event) (process version : ℕ) (octets : List ℕ)
      → carries (sent_by side) kinds (sent_pdus said) octets ≡ true
      → told_to s kinds (records.Block (sent_by side) process true version octets)
      (with_sent (sent_of s side said) none_named)
      ≡ none_named
  block_closes Nb Nb said process version octets e = ap (λ (right : Bool). built right) e
  block_closes Ue Ue said process version octets e = ap (λ (right : Bool). built right) e
  block_closes Nb Ue said process version octets e = refl
  block_closes Ue Nb said process version octets e = refl

-- ---- what a process holds of a new block

pub first_held : (l : ℕ) (y : Sending) (o s : Station) (x : Act) (pdus : List (List CarriedPdu)) → (b : Builds s.end x)
    → AreHeldAs l y (does o s x).blocks (behind_act l s.end x pdus)
    → parcels_on l (held_parcels y (b.turn.tti % 8))
    ≡ parcels_of l (written_on l b.turn (visited b.turn.tti b.turn.order s.end))
first_held l y o s x pdus b h =
    let e = visited b.turn.tti b.turn.order s.end in
    let first : AreHeldAs l y (built_at New b.turn e ++ s.blocks) (with_built l New b.turn e pdus) =
    subst (λ (v : Visit). AreHeldAs l y (built_at v b.turn e ++ s.blocks) (with_built l v b.turn e pdus)) b.new
    (subst (λ (z : Act). AreHeldAs l y (does o s z).blocks (behind_act l s.end z pdus)) b.is h) in
    first.0

-- ---- a visit that isn't for a new block

pub resends_none : (t : Turn) (rv : _) (e : End) → visit t.tti t.order e ≡ Resend rv → Builds e (Calls (Visits t)) → ⊥
resends_none t rv e q b =
    let same : Calls (Visits t) ≡ Calls (Visits b.turn) = b.is in
    let is : t ≡ b.turn = cc in
    let no : Resend rv ≡ New = sym q ∙ (ap (λ (u : Turn). visit u.tti u.order e) is ∙ b.new) in
    cc

pub silent_none : (t : Turn) (e : End) → visit t.tti t.order e ≡ Silent → Builds e (Calls (Visits t)) → ⊥
silent_none t e q b =
    let same : Calls (Visits t) ≡ Calls (Visits b.turn) = b.is in
    let is : t ≡ b.turn = cc in
    let no : Silent ≡ New = sym q ∙ (ap (λ (u : Turn). visit u.tti u.order e) is ∙ b.new) in
    cc

-- ---- a step

-- records that tell nothing of the flows
pub leaves_by : (l : ℕ) (one : Record) → IsOwn l Nb one → IsOwn l Ue one → LeavesFlows l one
leaves_by l (records.Of own e) nb ue = by (tells_flow l e) refl
  where
    by : (b : Bool) → tells_flow l e ≡ b → tells_flow l e ≡ false
    by true q = let no : Nb ≡ Ue = sym (nb q) ∙ ue q in absurd cc
    by false q = q
leaves_by l one nb ue = nb

-- ---- the moment behind a step

abbrev pub next : (l : ℕ) (a : Air) (m : Moment) (s : Step) → AreLived l a m.pdus m.down m.up → Moment
next l a m s h = let now = h.air.by_air.flows in record {
  pdus = behind_step l a s m.pdus;
  down = behind_down l a s m.pdus now.down.from_bearer now.down.to_bearer m.down;
  up = behind_up l a s m.pdus now.up.to_bearer now.up.from_bearer m.up;
}
