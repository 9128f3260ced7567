-- A new block, behind what its side tells, takes what is gathered to the moment behind it.
use Rattle.std.proofs.Common.{◌≡◌, ◌≤◌, ℕ, ◌+◌, ◌%◌, ◌==◌, Bool, true, false, if◌then◌else◌, List, []}
use Rattle.std.proofs.Common.{◌∷◌, ◌++◌, map, length}
use Rattle.std.proofs.Common.{Result, Ok, Err, slice_get, append-nil, refl, ap, sym, subst}
use Rattle.std.proofs.Common.{◌∙◌, arith}
use Rattle.std.specs.List.{AllByRecursion}
use Rattle.std.proofs.Math.ListN.{length-set}
use Rattle.bearer.specs.declared.flow.Flow.{Flow as Bearer}
use Rattle.bearer.specs.Acknowledged.State.{State, has_more}
use Rattle.bearer.specs.Acknowledged.Taking.{data_size}
use Rattle.bearer_types.specs.declared.event.Event.{Event}
use Rattle.bearer_types.specs.declared.event.Event.TheVariants as events
use Rattle.bearer_types.specs.Sides.{sent_by}
use Rattle.harq.specs.declared.sender.Visit.{Visit}
use Rattle.harq.specs.declared.sender.Visit.TheVariants.{New}
use Rattle.l2_node.specs.Building.{visited}
use Rattle.l2_types.specs.declared.config.AmTxConfig.{AmTxConfig}
use Rattle.l2_types.specs.declared.AmRxConfig.{AmRxConfig}
use Rattle.l2_types.specs.declared.event.Clock.TheVariants.{Poll}
use Rattle.l2_types.specs.declared.side.Side.{Side}
use Rattle.l2_types.specs.declared.side.Side.TheVariants.{Nb, Ue}
use Rattle.mac_pdu.specs.declared.item.Direction.TheVariants as directions
use Rattle.pdcp_pdu.specs.declared.pdu.PdcpKind.{PdcpKind}
use Rattle.pdcp_pdu.specs.declared.pdu.PdcpKind.TheVariants as pdcp
use Rattle.prioritise.specs.Channels.{has as has_channel}
use Rattle.promises.specs.Pdus.{carried}
use Rattle.rlc_am_tx.specs.Machine.{State as Sender}
use Rattle.rlc_pdu.specs.declared.fault.RlcRefusal.{RlcRefusal}
use Rattle.rlc_pdu.specs.Pdus.{AcknowledgedPdu, Payload, Status as Control}
use Rattle.rlc_pdu.specs.Reading.{am_at}
use Rattle.journal_account.specs.Arrived.{all_octets, octet_came}
use Rattle.journal_account.specs.FlowEvents.{FlowEvent, SduTaken, PollExpired, field_sizes, next_of}
use Rattle.journal_lives.specs.LifeEvents.{LifeEvent, running}
use Rattle.journal_flows.specs.NumberedPdus.{front_in}
use Rattle.l2_num.specs.Least.{past}
use Rattle.law_account.specs.EndsTold.{AreEndsOf}
use Rattle.law_account.specs.History.{with_told}
use Rattle.law_bearer.specs.AnyBearer.Acknowledged.{offers_in}
use Rattle.law_deliver.specs.AmFlow.Air.{Station, Air, Act, AtNb, AtUe, built_at, goes, outset, does, IsDone}
use Rattle.law_deliver.specs.AmFlow.Air.{IsBuilding, IsVisiting}
use Rattle.law_deliver.specs.AmFlow.Carrying.{CarriedPdu, Numbered, Reported, pdu_octets, Carried, Builds, with_built}
use Rattle.law_deliver.specs.AmFlow.Carrying.{written_in, written_on, AllCarryAs, behind_act}
use Rattle.law_deliver.specs.AmFlow.Links.{IsFlowOn}
use Rattle.law_deliver.specs.AmFlow.Pair.{BearerEnd, HasOctet}
use Rattle.law_deliver.specs.AmFlow.Reordering.{Reordering, Starts, Expires, reordering_in}
use Rattle.law_deliver.proofs.AmFlow.Air.{BothMatch, both_match}
use Rattle.law_deliver.proofs.AmFlow.Links.{same_bearer}
use Rattle.law_deliver.proofs.AmFlow.Stations.{Matches}
use Rattle.law_deliver.proofs.AmFlow.Visiting.{is_taking, part, low}
use Rattle.law_rlc.specs.AmPair.Flow.{Flow}
use Rattle.law_run.specs.TwoEnds.ChannelLog.{coming, come_in, told_in, written_in as written_of, parted}
use Rattle.law_run.specs.TwoEnds.SenderLog.{BearerEntry, telling, writing}
use Rattle.law_sound.specs.BesideLaws.{behind_all, octets_of, NewBlocksAreGathered}
use Rattle.law_sound.specs.HearingLaws.{with_reordering, event_of, HasOneData}
use Rattle.law_sound.specs.LivedHistories.{AreLived, logged_in, coming_in}
use Rattle.law_sound.specs.LoadLaws.{with_written_read, with_all_written}
use Rattle.law_sound.specs.LogLaws.{sdu_size, event_told, written_told, with_log}
use Rattle.law_sound.specs.NumberLaws.{IsReadAs, AreGathered}
use Rattle.law_sound.specs.RecordLaws.{IsNewBlock}
use Rattle.law_sound.proofs.BesideActs.{records_told, come_alike, heard_alike}
use Rattle.law_sound.proofs.CarriedBlocks.{as_long, tail_one, last_alone}
use Rattle.law_sound.proofs.LivedHistories.{lives_go_on_beside}
use Rattle.law_sound.proofs.Logs.{log_both}
use Rattle.law_sound.proofs.OtherRecords.{holds_same}
use Rattle.law_sound.proofs.PduNumbers.{new_pdus_are_gathered}
use Rattle.law_sound.proofs.RecordedBlocks.{new_records_build}

-- ---- what is told writes no number, and moves no front

event_long : (kind : PdcpKind) (more : Bool) (e : Event) (es : List FlowEvent)
    → next_of (with_told (event_told kind more e) es) ≡ next_of es
event_long kind more (events.Take lcid count len) es = as_long (SduTaken (sdu_size kind len)) es refl
event_long pdcp.Srb more (events.Report lcid fms bitmap) es = refl
event_long (pdcp.Um bits) more (events.Report lcid fms bitmap) es = refl
event_long (pdcp.Am bits) more (events.Report lcid fms bitmap) es =
    as_long (SduTaken ((if bits == 12 then 2 else 3) + length bitmap)) es refl
event_long kind more (events.Expired lcid Poll) es = as_long (PollExpired more) es refl
event_long kind more e es = refl

told_long : (kind : PdcpKind) (more : Bool) (told : List Event) (es : List FlowEvent)
    → next_of (with_log kind more (telling told) es) ≡ next_of es
told_long kind more [] es = refl
told_long kind more (e ∷ told) es =
    told_long kind more told (with_told (event_told kind more e) es) ∙ event_long kind more e es

reordering_front : (rs : List Reordering) (es : List FlowEvent) → front_in (with_reordering rs es) ≡ front_in es
reordering_front [] es = refl
reordering_front (r ∷ rs) es = reordering_front rs (event_of r ∷ es) ∙ one r
  where
    shorter : (sizes : List ℕ) → sizes ≡ field_sizes es
        → past (λ (n : ℕ). all_octets (octet_came es n) (slice_get sizes n)) (length sizes) 0 ≡ front_in es
    shorter sizes e =
        ap (λ (ns : List ℕ). past (λ (n : ℕ). all_octets (octet_came es n) (slice_get ns n)) (length ns) 0) e

    one : (r : Reordering) → front_in (event_of r ∷ es) ≡ front_in es
    one Starts = shorter (field_sizes es ++ []) (append-nil (field_sizes es))
    one Expires = shorter (field_sizes es ++ []) (append-nil (field_sizes es))

-- ---- a log tells of what is written just its data PDU

module _ (kind : PdcpKind) (more : Bool) where
  writing_is : (ps : List CarriedPdu) (es : List FlowEvent) → AllByRecursion IsReadAs ps
      → HasOneData (map pdu_octets ps)
      → with_log kind more (writing (map pdu_octets ps)) es ≡ with_all_written (next_of es) ps es
  writing_is [] es read one = refl
  writing_is (Reported r ∷ ps) es read one =
      ap (λ (x : Result AcknowledgedPdu RlcRefusal). with_log kind more (writing (map pdu_octets ps))
      (with_told (written_told (next_of es) x) es)) read.0.1
      ∙ writing_is ps es read.1
      (tail_one r.octets (map pdu_octets ps) one.before one.behind one.are one.none one.one)
  writing_is (Numbered c ∷ []) es read one = by (am_at c.octets)
    where
      by : (x : Result AcknowledgedPdu RlcRefusal)
          → with_told (written_told (next_of es) x) es ≡ with_written_read (next_of es) x es
      by (Ok (Payload pdu)) = refl
      by (Ok (Control pdu)) = refl
      by (Err refused) = refl
  writing_is (Numbered c ∷ p ∷ ps) es read one =
      let alone = last_alone c.octets (map pdu_octets (p ∷ ps)) one.before one.behind one.are one.none one.one
      (λ none. none read.0.0 read.0.1) in
      let no : pdu_octets p ∷ map pdu_octets ps ≡ [] = alone in
      absurd cc

  -- behind what is told
  log_written : (log : List BearerEntry) (told : List Event) (ps : List CarriedPdu) (es : List FlowEvent)
      → come_in log ≡ [] → told_in log ≡ told → written_of log ≡ map pdu_octets ps → AllByRecursion IsReadAs ps
      → HasOneData (map pdu_octets ps)
      → with_all_written (next_of (with_log kind more (telling told) es)) ps (with_log kind more (telling told) es)
      ≡ with_log kind more (parted log) es
  log_written log told ps es come are written read one =
      let parts : parted log ≡ telling told ++ writing (map pdu_octets ps) =
      ap (λ (xs : List (List ℕ)). coming xs ++ (telling (told_in log) ++ writing (written_of log))) come
      ∙ (ap (λ (xs : List (List ℕ)). telling (told_in log) ++ writing xs) written
      ∙ ap (λ (xs : List Event). telling xs ++ writing (map pdu_octets ps)) are) in
      sym (ap (λ (xs : List BearerEntry). with_log kind more xs es) parts
      ∙ (log_both kind more (telling told) (writing (map pdu_octets ps)) es
      ∙ writing_is ps (with_log kind more (telling told) es) read one))

-- ---- what an end writes into its block

pub match_at : (l : ℕ) (a : Air) (c : Carried) (down up : List FlowEvent) (h : AreLived l a c down up)
    → BothMatch l h.nb_bearer h.ue_bearer a c
match_at l a c down up h =
    subst (λ (z : Air). BothMatch l h.nb_bearer h.ue_bearer z c) (sym h.there)
    (subst (λ (k : Carried). BothMatch l h.nb_bearer h.ue_bearer (goes h.steps (outset h.nb h.ue)) k)
    (sym h.carried_is)
    (both_match l h.nb h.ue h.nb_bearer h.ue_bearer h.steps h.nb_begins h.ue_begins h.given))

either : (P : List CarriedPdu → Type 0) (here : Bool) (ps : List CarriedPdu) → P ps → P []
    → P (if here then ps else [])
either P true ps some none = some
either P false ps some none = none

module _ (l : ℕ) (side : Side) (sending other_sending : AmTxConfig) (receiving other_receiving : AmRxConfig)
    (from to : Station) (out : IsFlowOn l sending other_receiving from.end to.end)
    (back : IsFlowOn l other_sending receiving to.end from.end) where
  pub gathered_on : (n : BearerEnd) → Matches side l from n → (x : Act) → IsDone l from x → (b : Builds from.end x)
      → (most other_most : ℕ) (es xs : List FlowEvent) → AreEndsOf most es out.from_bearer.tx out.to_bearer.rx
      → AreEndsOf other_most xs back.from_bearer.tx back.to_bearer.rx
      → AreGathered (next_of es) (front_in xs) l (written_on l b.turn (visited b.turn.tti b.turn.order from.end))
  unfolding visited
  gathered_on n m x done b most other_most es xs own others =
      let t = b.turn in
      let acts = subst (λ (y : Act). IsDone l from y) b.is done in
      let building : IsBuilding from t = subst (λ (v : Visit). IsVisiting v from t) b.new acts.2 in
      let taking = is_taking side l from n n t b.new m building acts.0.0 in
      let same = same_bearer _ back.to_bearer out.from_bearer back.to_is out.from_is in
      let match' = same_bearer _ n.bearer out.from_bearer m.bearer_is out.from_is in
      either (AreGathered (next_of es) (front_in xs) l)
      (has_channel l (visited t.tti t.order from.end).buckets.channels) _
      (subst (λ (f : Bearer). AreGathered (next_of es) (front_in xs) l (written_in f (part l from t) (low l from t)))
      (sym out.from_is)
      (new_pdus_are_gathered sending other_sending receiving other_receiving out.steps back.steps out.given
      back.given most other_most l (part l from t) (low l from t) es xs out.from_bearer out.to_bearer.rx
      out.sender_is (back.receiver_is ∙ ap (λ (s : State). s.rx) same) own
      (subst (λ (y : Sender). AreEndsOf other_most xs y out.from_bearer.rx) (sym back.sender_is)
      (subst (λ (s : State). AreEndsOf other_most xs back.from_bearer.tx s.rx) same others))
      (subst (λ (s : State). data_size s (part l from t) ≤ 32767) match' taking.few)
      (subst (λ (s : State). AllByRecursion HasOctet (offers_in s (part l from t) (low l from t))) match'
      taking.some)))
      (record {
        each = tt;
        room = tt;
        read = tt;
        one = record { before = []; behind = []; are = refl; none = tt; one = omega arith };
      })

-- it stands first among the blocks then
pub carried_first : (l : ℕ) (side : Side) (f g : Flow) (o s : Station) (x : Act) (pdus : List (List CarriedPdu))
    → (b : Builds s.end x) → AllCarryAs l (sent_by side) f g (does o s x).blocks (behind_act l s.end x pdus)
    → carried l (sent_by side) (octets_of s x b)
    ≡ map pdu_octets (written_on l b.turn (visited b.turn.tti b.turn.order s.end))
carried_first l side f g o s x pdus b h =
    let e = visited b.turn.tti b.turn.order s.end in
    let first : AllCarryAs l (sent_by side) f g (built_at New b.turn e ++ s.blocks) (with_built l New b.turn e pdus) =
    subst (λ (v : Visit). AllCarryAs l (sent_by side) f g (built_at v b.turn e ++ s.blocks)
    (with_built l v b.turn e pdus)) b.new
    (subst (λ (y : Act). AllCarryAs l (sent_by side) f g (does o s y).blocks (behind_act l s.end y pdus)) b.is h) in
    first.0.carries

-- with the histories as they are behind what is told
gathered_then : (m n p q l : ℕ) (pdus : List CarriedPdu) → m ≡ p → n ≡ q → AreGathered p q l pdus
    → AreGathered m n l pdus
gathered_then m n p q l pdus e o h =
    subst (λ (x : ℕ). AreGathered x n l pdus) (sym e) (subst (λ (x : ℕ). AreGathered p x l pdus) (sym o) h)

-- ---- the step

pub new_blocks_are_gathered : NewBlocksAreGathered
new_blocks_are_gathered kinds l Nb a x c down up j xs h done b r names g =
    let now = h.air.by_air.flows in
    let d = now.down.from_bearer in
    let kind = d.pdcp.kind in
    let more = has_more d.pdcp in
    let own = written_on l b.turn (visited b.turn.tti b.turn.order a.nb.end) in
    let octets = octets_of a.nb x b in
    let told = told_in (logged_in l Nb a (AtNb x) d) in
    let same = same_bearer _ now.up.to_bearer d now.up.to_is now.down.from_is in
    let i = behind_all kinds xs j in
    let k = records_told kinds l Nb d (logged_in l Nb a (AtNb x) d) xs _ j r in
    let on = lives_go_on_beside l a (AtNb x) c down up h done in
    let first = carried_first l Nb _ _ a.ue a.nb x c.nb b on.lived.air.by_nb in
    let gathered = gathered_on l Nb h.nb_bearer.tx_config h.ue_bearer.tx_config h.nb_bearer.rx_config
    h.ue_bearer.rx_config a.nb a.ue now.down now.up _ (match_at l a c down up h).nb.matches x done b _ _ down
    up h.beside.by_nb h.beside.by_ue in
    let own_is : running (i.flows.acked Nb l) ≡ with_log kind more (telling told) down =
    k.own ∙ ap (with_log kind more (telling told)) g.down_is in
    let back_is : running (i.flows.acked Ue l) ≡ with_reordering (reordering_in told) up =
    k.back ∙ ap (with_reordering (reordering_in told)) g.up_is in
    let holds' = holds_same l j.nb i.nb a.nb.blocks c.nb k.nb g.by_nb in
    let block : IsNewBlock kinds directions.Down l octets own i = record {
      kind = kind;
      known = r.known;
      sent = names.sent;
      named = names.named;
      form = names.form;
      numbers = names.numbers;
      carried_is = first;
      gathered = gathered_then _ _ _ _ l own (ap next_of own_is ∙ told_long kind more told down)
          (ap front_in back_is ∙ reordering_front (reordering_in told) up) gathered;
      processes = holds'.processes;
    } in
    let built = new_records_build kinds directions.Down l octets i a.ue a.nb x c.nb done b block holds'.held in
    let none : coming_in Ue (AtNb x) c ≡ [] = ap (λ (y : Act). coming_in Ue (AtNb y) c) b.is in
    let come : come_in (logged_in l Nb a (AtNb x) d) ≡ [] =
    come_alike l Nb a (AtNb x) now.up.to_bearer d _ [] same none on.go_on.by_ue.come in
    record {
      down_is = built.out
          ∙ (ap (λ (es : List FlowEvent). with_all_written (next_of es) own es) own_is
          ∙ log_written kind more (logged_in l Nb a (AtNb x) d) told own down come refl (r.writes ∙ first)
          gathered.read gathered.one);
      up_is = ap (λ (es : List LifeEvent). running es) built.back
          ∙ (back_is ∙ heard_alike l Nb a (AtNb x) now.up.to_bearer d _ [] same none up);
      by_nb = record {
        held = built.held;
        processes = length-set i.nb.held (b.turn.tti % 8) _ ∙ block.processes;
      };
      by_ue = holds_same l j.ue i.ue a.ue.blocks c.ue k.ue g.by_ue;
    }
new_blocks_are_gathered kinds l Ue a x c down up j xs h done b r names g =
    let now = h.air.by_air.flows in
    let d = now.up.from_bearer in
    let kind = d.pdcp.kind in
    let more = has_more d.pdcp in
    let own = written_on l b.turn (visited b.turn.tti b.turn.order a.ue.end) in
    let octets = octets_of a.ue x b in
    let told = told_in (logged_in l Ue a (AtUe x) d) in
    let same = same_bearer _ now.down.to_bearer d now.down.to_is now.up.from_is in
    let i = behind_all kinds xs j in
    let k = records_told kinds l Ue d (logged_in l Ue a (AtUe x) d) xs _ j r in
    let on = lives_go_on_beside l a (AtUe x) c down up h done in
    let first = carried_first l Ue _ _ a.nb a.ue x c.ue b on.lived.air.by_ue in
    let gathered = gathered_on l Ue h.ue_bearer.tx_config h.nb_bearer.tx_config h.ue_bearer.rx_config
    h.nb_bearer.rx_config a.ue a.nb now.up now.down _ (match_at l a c down up h).ue.matches x done b _ _ up
    down h.beside.by_ue h.beside.by_nb in
    let own_is : running (i.flows.acked Ue l) ≡ with_log kind more (telling told) up =
    k.own ∙ ap (with_log kind more (telling told)) g.up_is in
    let back_is : running (i.flows.acked Nb l) ≡ with_reordering (reordering_in told) down =
    k.back ∙ ap (with_reordering (reordering_in told)) g.down_is in
    let holds' = holds_same l j.ue i.ue a.ue.blocks c.ue k.ue g.by_ue in
    let block : IsNewBlock kinds directions.Up l octets own i = record {
      kind = kind;
      known = r.known;
      sent = names.sent;
      named = names.named;
      form = names.form;
      numbers = names.numbers;
      carried_is = first;
      gathered = gathered_then _ _ _ _ l own (ap next_of own_is ∙ told_long kind more told up)
          (ap front_in back_is ∙ reordering_front (reordering_in told) down) gathered;
      processes = holds'.processes;
    } in
    let built = new_records_build kinds directions.Up l octets i a.nb a.ue x c.ue done b block holds'.held in
    let none : coming_in Nb (AtUe x) c ≡ [] = ap (λ (y : Act). coming_in Nb (AtUe y) c) b.is in
    let come : come_in (logged_in l Ue a (AtUe x) d) ≡ [] =
    come_alike l Ue a (AtUe x) now.down.to_bearer d _ [] same none on.go_on.by_nb.come in
    record {
      up_is = built.out
          ∙ (ap (λ (es : List FlowEvent). with_all_written (next_of es) own es) own_is
          ∙ log_written kind more (logged_in l Ue a (AtUe x) d) told own up come refl (r.writes ∙ first)
          gathered.read gathered.one);
      down_is = ap (λ (es : List LifeEvent). running es) built.back
          ∙ (back_is ∙ heard_alike l Ue a (AtUe x) now.down.to_bearer d _ [] same none down);
      by_ue = record {
        held = built.held;
        processes = length-set i.ue.held (b.turn.tti % 8) _ ∙ block.processes;
      };
      by_nb = holds_same l j.nb i.nb a.nb.blocks c.nb k.nb g.by_nb;
    }
