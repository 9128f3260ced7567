-- A block that comes, and what its side tells then, take what is gathered to the moment behind it.
use Rattle.std.proofs.Common.{◌≡◌, ℕ, Bool, List, [], ◌∷◌, ◌++◌, map, Option, Some, unwrap_or, slice_get}
use Rattle.std.proofs.Common.{Result, append-nil, refl, ap, sym, subst, ◌∙◌}
use Rattle.std.specs.List.{AllByRecursion}
use Rattle.bearer.specs.Acknowledged.State.{State, has_more}
use Rattle.bearer_types.specs.declared.event.Event.{Event}
use Rattle.bearer_types.specs.Sides.{sent_by}
use Rattle.l2_node.specs.End.{End}
use Rattle.l2_types.specs.declared.side.Side.TheVariants.{Nb, Ue}
use Rattle.mac_pdu.specs.declared.item.Direction.{Direction}
use Rattle.mac_pdu.specs.declared.item.Direction.TheVariants as directions
use Rattle.pdcp_pdu.specs.declared.pdu.PdcpKind.{PdcpKind}
use Rattle.rlc_am_tx_window.specs.Window.{TxWindow, next}
use Rattle.rlc_pdu.specs.declared.fault.RlcRefusal.{RlcRefusal}
use Rattle.rlc_pdu.specs.Pdus.{AcknowledgedPdu}
use Rattle.journal_account.specs.FlowEvents.{FlowEvent, StatusHeard, next_of}
use Rattle.journal_flows.specs.FlowsTold.{histories}
use Rattle.journal_flows.specs.Gathering.{Sending, sent_last, behind_landing}
use Rattle.law_account.specs.History.{with_told}
use Rattle.law_account.specs.LateStatus.{entries_of}
use Rattle.law_account.proofs.History.{next_is}
use Rattle.law_deliver.specs.AmFlow.Air.{Block, Air, Comes, AtNb, AtUe, goes, outset, does}
use Rattle.law_deliver.specs.AmFlow.Carrying.{CarriedPdu, Numbered, Reported, pdu_octets, Carried, Builds}
use Rattle.law_deliver.specs.AmFlow.Carrying.{IsUnderWayAs, AllCarryAs, AreCarried}
use Rattle.law_deliver.specs.AmFlow.UnderWay.{flow_on}
use Rattle.law_deliver.specs.AmFlow.Reordering.{reordering_in}
use Rattle.law_deliver.proofs.AmFlow.Links.{same_bearer}
use Rattle.law_deliver.proofs.AmFlow.Loads.{all_at}
use Rattle.law_rlc.specs.AmPair.Flow.{Flow, sender}
use Rattle.law_rlc.specs.AmPair.Statuses.{reduced}
use Rattle.law_rlc.proofs.AmPair.Laws.{sound}
use Rattle.law_rlc.proofs.AmPair.Sound.{IsTrueCopy, IsSound}
use Rattle.law_run.specs.TwoEnds.ChannelLog.{coming, come_in, told_in, written_in, parted}
use Rattle.law_run.specs.TwoEnds.SenderLog.{BearerEntry, telling, writing}
use Rattle.law_sound.specs.BesideLaws.{HoldsAs, behind_all, IsSentLast}
use Rattle.law_sound.specs.BesideLaws.{BlocksThatComeAreGathered}
use Rattle.law_sound.specs.CarriedLaws.{parcels_on, parcels_of, with_all_data, with_all_statuses, IsPossibleAt}
use Rattle.law_sound.specs.CarriedLaws.{IsReportedTo, BringByAir}
use Rattle.law_sound.specs.EqualBlocks.{AreGatheredAlike, GatherAlike}
use Rattle.law_sound.specs.HearingLaws.{with_reordering}
use Rattle.law_sound.specs.HeldLaws.{held_parcels}
use Rattle.law_sound.specs.LivedHistories.{AreLived, logged_in}
use Rattle.law_sound.specs.LogLaws.{come_told, with_log}
use Rattle.law_sound.proofs.BesideActs.{records_told, come_alike, heard_alike}
use Rattle.law_sound.proofs.Brought.{IsRead, copy_read}
use Rattle.law_sound.proofs.CarriedBlocks.{as_long, parcels_bring, carried_pdus_come}
use Rattle.law_sound.proofs.EqualBlocks.{equal_blocks_carry_alike}
use Rattle.law_sound.proofs.HeldBlocks.{held_blocks_stay}
use Rattle.law_sound.proofs.LivedHistories.{own_at, lives_go_on_beside}
use Rattle.law_sound.proofs.Logs.{come_is}
use Rattle.law_sound.proofs.OtherRecords.{holds_same}
use Rattle.law_sound.proofs.RecordedBlocks.{held_at}

-- ---- at a moment of lives

brought_at : (l : ℕ) (a : Air) (c : Carried) (down up : List FlowEvent) (h : AreLived l a c down up)
    → BringByAir l h.nb_bearer h.ue_bearer a c h.air
brought_at l a c down up h =
    subst (λ (z : Air). (air : AreCarried l h.nb_bearer h.ue_bearer z c)
    → BringByAir l h.nb_bearer h.ue_bearer z c air) (sym h.there)
    (subst (λ (k : Carried). (air : AreCarried l h.nb_bearer h.ue_bearer (goes h.steps (outset h.nb h.ue)) k)
    → BringByAir l h.nb_bearer h.ue_bearer (goes h.steps (outset h.nb h.ue)) k air) (sym h.carried_is)
    (λ air. carried_pdus_come l h.nb h.ue h.nb_bearer h.ue_bearer h.steps h.nb_begins h.ue_begins h.given air)) h.air

alike_at : (l : ℕ) (a : Air) (c : Carried) (down up : List FlowEvent) → AreLived l a c down up → GatherAlike l a c
alike_at l a c down up h =
    subst (λ (z : Air). GatherAlike l z c) (sym h.there)
    (subst (λ (k : Carried). GatherAlike l (goes h.steps (outset h.nb h.ue)) k) (sym h.carried_is)
    (equal_blocks_carry_alike l h.nb h.ue h.nb_bearer h.ue_bearer h.steps h.nb_begins h.ue_begins h.given))

-- ---- what was sent last is what the block carries

sent_is : (l : ℕ) (d : Direction) (f g : Flow) (x : Sending) (blocks : List Block) (pdus : List (List CarriedPdu))
    (k : ℕ) (block : Block) (own : List CarriedPdu) → HoldsAs l x blocks pdus → AreGatheredAlike l blocks pdus
    → AllCarryAs l d f g blocks pdus → IsSentLast x blocks block → slice_get blocks k ≡ Some block
    → slice_get pdus k ≡ Some own → parcels_on l (sent_last x) ≡ parcels_of l own
sent_is l d f g x blocks pdus k block own holds alike carry sent at there =
    let o = own_at l d f g blocks pdus sent.place sent.last carry sent.there in
    ap (λ (p : ℕ). parcels_on l (held_parcels x p)) sent.process
    ∙ (held_at l x blocks pdus sent.place sent.last o.own holds.held sent.there o.there
    ∙ alike sent.place k sent.last block o.own own sent.there o.there at there sent.octets)

possible_at : (m n p q : ℕ) (pdus : List CarriedPdu) → m ≡ p → n ≡ q → AllByRecursion (IsPossibleAt p q) pdus
    → AllByRecursion (IsPossibleAt m n) pdus
possible_at m n p q pdus e o h =
    subst (λ (x : ℕ). AllByRecursion (IsPossibleAt x n) pdus) (sym e)
    (subst (λ (x : ℕ). AllByRecursion (IsPossibleAt p x) pdus) (sym o) h)

-- ---- a log tells of what comes just its STATUS PDUs

abbrev pub IsDataRead : CarriedPdu → Type 0
IsDataRead (Numbered c) = IsRead c.octets
IsDataRead (Reported r) = Unit {0}

pub data_read : (f g : Flow) (age : ℕ) (pdus : List CarriedPdu) → IsSound f
    → AllByRecursion (IsUnderWayAs f g age) pdus → AllByRecursion IsDataRead pdus
data_read f g age [] hf h = tt
data_read f g age (Numbered c ∷ ps) hf h = (
  copy_read f c hf (all_at (IsTrueCopy (sender f).past.sent) f.copies h.0.0 c hf.copies h.0.1),
  data_read f g age ps hf h.1,
)
data_read f g age (Reported r ∷ ps) hf h = (tt, data_read f g age ps hf h.1)

module _ (kind : PdcpKind) (more : Bool) (w : TxWindow) where
  come_logged : (ps : List CarriedPdu) (rest : List BearerEntry) (es : List FlowEvent) → next_of es ≡ next w
      → AllByRecursion IsDataRead ps → AllByRecursion (IsReportedTo w) ps
      → with_log kind more (coming (map pdu_octets ps) ++ rest) es
      ≡ with_log kind more rest (with_all_statuses ps es)
  come_logged [] rest es e read reported = refl
  come_logged (Numbered c ∷ ps) rest es e read reported =
      ap (λ (r : Result AcknowledgedPdu RlcRefusal). with_log kind more (coming (map pdu_octets ps) ++ rest)
      (with_told (come_told (next_of es) r) es)) read.0.read
      ∙ come_logged ps rest es e read.1 reported.1
  come_logged (Reported r ∷ ps) rest es e read reported =
      let log = coming (map pdu_octets ps) ++ rest in
      let heard = StatusHeard r.ack (entries_of r) in
      ap (λ (x : Result AcknowledgedPdu RlcRefusal). with_log kind more log
      (with_told (come_told (next_of es) x) es)) reported.0.0
      ∙ (ap (λ (o : Option FlowEvent). with_log kind more log (with_told o es))
      (come_is w (next_of es) (reduced r) r.ack (entries_of r) e reported.0.1)
      ∙ come_logged ps rest (heard ∷ es) (as_long heard es refl ∙ e) read.1 reported.1)

  -- with what is told then
  pub log_come : (log : List BearerEntry) (told : List Event) (ps : List CarriedPdu) (es : List FlowEvent)
      → come_in log ≡ map pdu_octets ps → told_in log ≡ told → written_in log ≡ [] → next_of es ≡ next w
      → AllByRecursion IsDataRead ps → AllByRecursion (IsReportedTo w) ps
      → with_log kind more (telling told) (with_all_statuses ps es) ≡ with_log kind more (parted log) es
  log_come log told ps es come are none e read reported =
      let parts : parted log ≡ coming (map pdu_octets ps) ++ telling told =
      ap (λ (xs : List (List ℕ)). coming xs ++ (telling (told_in log) ++ writing (written_in log))) come
      ∙ (ap (λ (xs : List (List ℕ)). coming (map pdu_octets ps) ++ (telling (told_in log) ++ writing xs)) none
      ∙ ap (λ (xs : List BearerEntry). coming (map pdu_octets ps) ++ xs)
      (append-nil (telling (told_in log)) ∙ ap telling are)) in
      sym (ap (λ (xs : List BearerEntry). with_log kind more xs es) parts
      ∙ come_logged ps (telling told) es e read reported)

-- ---- the step

comes_builds_none : (k : ℕ) (e : End) → Builds e (Comes k) → ⊥
comes_builds_none k e b = let no = b.is in absurd cc

pub blocks_come : BlocksThatComeAreGathered
blocks_come kinds l Ue a k c down up j xs block h at sent r g =
    let now = h.air.by_air.flows in
    let b = now.up.from_bearer in
    let same = same_bearer _ now.down.to_bearer b now.down.to_is now.up.from_is in
    let f = flow_on l h.nb_bearer.tx_config h.ue_bearer.rx_config a.nb.end a.ue.end now.down in
    let back = flow_on l h.ue_bearer.tx_config h.nb_bearer.rx_config a.ue.end a.nb.end now.up in
    let sound_f = sound h.nb_bearer.tx_config h.ue_bearer.rx_config now.down.steps now.down.given in
    let o = own_at l (sent_by Nb) f back a.nb.blocks c.nb k block h.air.by_nb at in
    let bring = (brought_at l a c down up h).at_ue k block o.own at o.there in
    let landed = behind_landing histories directions.Down j in
    let i = behind_all kinds xs landed in
    let t = records_told kinds l Ue b (logged_in l Ue a (AtUe (Comes k)) b) xs [] landed r in
    let parcels = sent_is l (sent_by Nb) f back j.nb a.nb.blocks c.nb k block o.own g.by_nb
    (alike_at l a c down up h).by_nb h.air.by_nb sent at o.there in
    let next_down = next_is _ down now.down.from_bearer.tx h.beside.by_nb.follows in
    let next_up = next_is _ up b.tx h.beside.by_ue.follows ∙ ap (λ (s : State). next s.tx.window) (sym same) in
    let come = parcels_bring Nb l o.own (sent_last j.nb) j.flows parcels
    (possible_at _ _ _ _ o.own (ap next_of g.down_is ∙ next_down) (ap next_of g.up_is ∙ next_up) bring.possible) in
    let brings : unwrap_or (slice_get c.nb k) [] ≡ o.own =
    ap (λ (x : Option (List CarriedPdu)). unwrap_or x []) o.there in
    let log : come_in (logged_in l Ue a (AtUe (Comes k)) b) ≡ map pdu_octets o.own =
    come_alike l Ue a (AtUe (Comes k)) now.down.to_bearer b _ o.own same brings
    (lives_go_on_beside l a (AtUe (Comes k)) c down up h tt).go_on.by_nb.come in
    record {
      down_is = t.back
          ∙ (ap (with_reordering (reordering_in (told_in (logged_in l Ue a (AtUe (Comes k)) b))))
          (come.own ∙ ap (with_all_data o.own) g.down_is)
          ∙ heard_alike l Ue a (AtUe (Comes k)) now.down.to_bearer b _ o.own same brings down);
      up_is = t.own
          ∙ (ap (with_log b.pdcp.kind (has_more b.pdcp) (telling (told_in (logged_in l Ue a (AtUe (Comes k)) b))))
          (come.back ∙ ap (with_all_statuses o.own) g.up_is)
          ∙ log_come b.pdcp.kind (has_more b.pdcp) now.down.to_bearer.tx.window
          (logged_in l Ue a (AtUe (Comes k)) b) (told_in (logged_in l Ue a (AtUe (Comes k)) b)) o.own up log
          refl r.writes
          next_up
          (data_read f back block.age o.own sound_f o.carries.under_way) bring.statuses);
      by_nb = holds_same l j.nb i.nb a.nb.blocks c.nb t.nb g.by_nb;
      by_ue = holds_same l j.ue i.ue (does a.nb a.ue (Comes k)).blocks c.ue t.ue (record {
        held = held_blocks_stay l j.ue a.nb a.ue (Comes k) c.ue tt (comes_builds_none k a.ue.end) g.by_ue.held;
        processes = g.by_ue.processes;
      });
    }
blocks_come kinds l Nb a k c down up j xs block h at sent r g =
    let now = h.air.by_air.flows in
    let b = now.down.from_bearer in
    let same = same_bearer _ now.up.to_bearer b now.up.to_is now.down.from_is in
    let f = flow_on l h.ue_bearer.tx_config h.nb_bearer.rx_config a.ue.end a.nb.end now.up in
    let back = flow_on l h.nb_bearer.tx_config h.ue_bearer.rx_config a.nb.end a.ue.end now.down in
    let sound_f = sound h.ue_bearer.tx_config h.nb_bearer.rx_config now.up.steps now.up.given in
    let o = own_at l (sent_by Ue) f back a.ue.blocks c.ue k block h.air.by_ue at in
    let bring = (brought_at l a c down up h).at_nb k block o.own at o.there in
    let landed = behind_landing histories directions.Up j in
    let i = behind_all kinds xs landed in
    let t = records_told kinds l Nb b (logged_in l Nb a (AtNb (Comes k)) b) xs [] landed r in
    let parcels = sent_is l (sent_by Ue) f back j.ue a.ue.blocks c.ue k block o.own g.by_ue
    (alike_at l a c down up h).by_ue h.air.by_ue sent at o.there in
    let next_up = next_is _ up now.up.from_bearer.tx h.beside.by_ue.follows in
    let next_down = next_is _ down b.tx h.beside.by_nb.follows ∙ ap (λ (s : State). next s.tx.window) (sym same) in
    let come = parcels_bring Ue l o.own (sent_last j.ue) j.flows parcels
    (possible_at _ _ _ _ o.own (ap next_of g.up_is ∙ next_up) (ap next_of g.down_is ∙ next_down) bring.possible) in
    let brings : unwrap_or (slice_get c.ue k) [] ≡ o.own =
    ap (λ (x : Option (List CarriedPdu)). unwrap_or x []) o.there in
    let log : come_in (logged_in l Nb a (AtNb (Comes k)) b) ≡ map pdu_octets o.own =
    come_alike l Nb a (AtNb (Comes k)) now.up.to_bearer b _ o.own same brings
    (lives_go_on_beside l a (AtNb (Comes k)) c down up h tt).go_on.by_ue.come in
    record {
      down_is = t.own
          ∙ (ap (with_log b.pdcp.kind (has_more b.pdcp) (telling (told_in (logged_in l Nb a (AtNb (Comes k)) b))))
          (come.back ∙ ap (with_all_statuses o.own) g.down_is)
          ∙ log_come b.pdcp.kind (has_more b.pdcp) now.up.to_bearer.tx.window
          (logged_in l Nb a (AtNb (Comes k)) b) (told_in (logged_in l Nb a (AtNb (Comes k)) b)) o.own down log
          refl r.writes
          next_down
          (data_read f back block.age o.own sound_f o.carries.under_way) bring.statuses);
      up_is = t.back
          ∙ (ap (with_reordering (reordering_in (told_in (logged_in l Nb a (AtNb (Comes k)) b))))
          (come.own ∙ ap (with_all_data o.own) g.up_is)
          ∙ heard_alike l Nb a (AtNb (Comes k)) now.up.to_bearer b _ o.own same brings up);
      by_nb = holds_same l j.nb i.nb (does a.ue a.nb (Comes k)).blocks c.nb t.nb (record {
        held = held_blocks_stay l j.nb a.ue a.nb (Comes k) c.nb tt (comes_builds_none k a.nb.end) g.by_nb.held;
        processes = g.by_nb.processes;
      });
      by_ue = holds_same l j.ue i.ue a.ue.blocks c.ue t.ue g.by_ue;
    }
