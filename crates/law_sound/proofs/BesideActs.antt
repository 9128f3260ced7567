-- What a side tells in a step takes what is gathered to the moment behind it.
use Rattle.std.proofs.Common.{◌≡◌, ◌&&◌, ℕ, Bool, true, false, if◌then◌else◌, List, [], ◌∷◌, ◌++◌, map}
use Rattle.std.proofs.Common.{Option, Some, None}
use Rattle.std.proofs.Common.{slice_index_or, append-nil, refl, ap, sym, subst, ◌∙◌}
use Rattle.std.specs.List.{AllByRecursion, filter}
use Rattle.bearer.specs.Acknowledged.State.{State, has_more}
use Rattle.bearer_types.specs.declared.event.Event.{Event}
use Rattle.bearer_types.specs.declared.event.Event.TheVariants as events
use Rattle.bearer_types.specs.Sides.{other}
use Rattle.l2_types.specs.declared.event.Clock.TheVariants.{Poll, Reorder}
use Rattle.l2_types.specs.declared.side.Side.{Side}
use Rattle.l2_types.specs.declared.side.Side.TheVariants.{Nb, Ue}
use Rattle.pdcp_pdu.specs.declared.pdu.PdcpKind.{PdcpKind}
use Rattle.pdu_show.specs.declared.kinds.Layout.{Layout}
use Rattle.pdu_show.specs.declared.kinds.Layout.TheVariants as layouts
use Rattle.promises.specs.Events.{is_on}
use Rattle.journal_account.specs.FlowEvents.{FlowEvent, PollExpired}
use Rattle.journal_lives.specs.LifeEvents.{LifeEvent, running}
use Rattle.journal_flows.specs.FlowsTold.{Histories, histories}
use Rattle.journal_flows.specs.Gathering.{Journal, behind_event, behind_record}
use Rattle.air_record.specs.declared.record.Record.{Record}
use Rattle.air_record.specs.declared.record.Record.TheVariants as records
use Rattle.law_account.specs.History.{with_told}
use Rattle.law_deliver.specs.AmFlow.Air.{Air, Step, AtNb, AtUe, does}
use Rattle.law_deliver.specs.AmFlow.Carrying.{CarriedPdu, pdu_octets, behind_act}
use Rattle.law_deliver.specs.AmFlow.Reordering.{Reordering, reordering_told, reordering_in}
use Rattle.law_deliver.proofs.AmFlow.Links.{same_bearer}
use Rattle.law_deliver.proofs.AmFlow.Reordering.{in_both}
use Rattle.law_run.specs.TwoEnds.ChannelLog.{coming, come_in, told_in, written_in, parted}
use Rattle.law_run.specs.TwoEnds.SenderLog.{BearerEntry, telling, writing}
use Rattle.law_sound.specs.BesideLaws.{tells, tells_flow, ReadRecord, behind_all, flow_event, flow_events}
use Rattle.law_sound.specs.BesideLaws.{MayTakeAs, IsToldAt, AreRecordsOf}
use Rattle.law_sound.specs.BesideLaws.{ActsAreGathered, TtisAreGathered}
use Rattle.law_sound.specs.CarriedLaws.{with_all_data}
use Rattle.law_sound.specs.GatherLaws.{HasCount}
use Rattle.law_sound.specs.HearingLaws.{with_reordering}
use Rattle.law_sound.specs.LivedHistories.{logged_in}
use Rattle.law_sound.specs.LogLaws.{event_told, with_log}
use Rattle.law_sound.proofs.Hearings.{reordering_then}
use Rattle.law_sound.proofs.HeldBlocks.{held_blocks_stay, held_blocks_age}
use Rattle.law_sound.proofs.LivedHistories.{lives_go_on_beside}
use Rattle.law_sound.proofs.OtherRecords.{IsLeft, one_left, holds_same, flows_behind, nb_held, ue_held}
use Rattle.law_sound.proofs.ReorderGathering.{told_is_gathered}

-- ---- a record that tells of the channel tells by its own `more`

told_alike : (kind : PdcpKind) (more now : Bool) (e : Event) → MayTakeAs more now e
    → event_told kind now e ≡ event_told kind more e
told_alike kind more now (events.Expired lcid Poll) h = ap (λ (b : Bool). Some (PollExpired b)) h
told_alike kind more now e h = refl

both_true : (a b : Bool) → (a && b) ≡ true → b ≡ true
both_true true b e = e
both_true false b e = absurd cc

-- ---- what tells of no flow adds nothing

module _ (kind : PdcpKind) (more : Bool) where
  pub told_then : (xs ys : List Event) (es : List FlowEvent)
      → with_log kind more (telling (xs ++ ys)) es
      ≡ with_log kind more (telling ys) (with_log kind more (telling xs) es)
  told_then [] ys es = refl
  told_then (x ∷ xs) ys es = told_then xs ys (with_told (event_told kind more x) es)

  unsaid : (e : Event) → tells e ≡ false → event_told kind more e ≡ None
  unsaid (events.Take lcid count len) q = absurd cc
  unsaid (events.Report lcid fms bitmap) q = absurd cc
  unsaid (events.Expired lcid Poll) q = absurd cc
  unsaid e q = refl

  log_kept : (told : List Event) (es : List FlowEvent)
      → with_log kind more (telling (filter tells told)) es ≡ with_log kind more (telling told) es
  log_kept [] es = refl
  log_kept (e ∷ told) es = by (tells e) refl (λ now. log_kept told now)
    where
      by : (b : Bool) → tells e ≡ b
          → ((now : List FlowEvent)
          → with_log kind more (telling (filter tells told)) now ≡ with_log kind more (telling told) now)
          → with_log kind more (telling (if b then e ∷ filter tells told else filter tells told)) es
          ≡ with_log kind more (telling (e ∷ told)) es
      by true q rest = rest (with_told (event_told kind more e) es)
      by false q rest =
          rest es
          ∙ ap (λ (o : Option FlowEvent). with_log kind more (telling told) (with_told o es)) (sym (unsaid e q))

unmoved : (e : Event) → tells e ≡ false → reordering_told e ≡ []
unmoved (events.Start lcid Reorder) q = absurd cc
unmoved (events.Expired lcid Reorder) q = absurd cc
unmoved e q = refl

reordering_kept : (told : List Event) → reordering_in (filter tells told) ≡ reordering_in told
reordering_kept [] = refl
reordering_kept (e ∷ told) = by (tells e) refl (reordering_kept told)
  where
    by : (b : Bool) → tells e ≡ b → reordering_in (filter tells told) ≡ reordering_in told
        → reordering_in (if b then e ∷ filter tells told else filter tells told) ≡ reordering_in (e ∷ told)
    by true q rest = ap (λ (rs : List Reordering). reordering_told e ++ rs) rest
    by false q rest =
        rest ∙ ap (λ (rs : List Reordering). rs ++ reordering_in told) (sym (unmoved e q))

-- ---- records

module _ (kinds : List (Option Layout)) (kind : PdcpKind) (l : ℕ) (more : Bool) (side : Side)
    (known : slice_index_or kinds l None ≡ Some (layouts.Am kind)) where
  -- its own flow, and the one that it hears
  pub record AreTold (told : List Event) (i j : Journal Histories) : Type 0 where
    pub own : running (i.flows.acked side l)
        ≡ with_log kind more (telling told) (running (j.flows.acked side l))
    pub back : running (i.flows.acked (other side) l)
        ≡ with_reordering (reordering_in told) (running (j.flows.acked (other side) l))
    pub nb : i.nb.held ≡ j.nb.held
    pub ue : i.ue.held ≡ j.ue.held

  none_told : (i j : Journal Histories) → IsLeft l i j → AreTold [] i j
  none_told i j left = record {
    own = ap (λ (es : List LifeEvent). running es) (left.flow side);
    back = ap (λ (es : List LifeEvent). running es) (left.flow (other side));
    nb = left.nb;
    ue = left.ue;
  }

  event_adds : (now : Bool) (e : Event) (j : Journal Histories) → is_on l e ≡ true → MayTakeAs more now e
      → HasCount kind e
      → AreTold (e ∷ []) (behind_event histories kinds now side e j) j
  event_adds now e j on takes count =
      let t = told_is_gathered kinds kind now side l (e ∷ []) j.flows known (count, tt) in
      let flows = flows_behind kinds now side e j in
      record {
        own = ap (λ (f : Histories). running (f.acked side l)) flows
            ∙ (t.own
            ∙ (ap (λ (b : Bool). with_log kind now (telling (if b then e ∷ [] else []))
            (running (j.flows.acked side l))) on
            ∙ ap (λ (o : Option FlowEvent). with_told o (running (j.flows.acked side l)))
            (told_alike kind more now e takes)));
        back = ap (λ (f : Histories). running (f.acked (other side) l)) flows
            ∙ (t.back
            ∙ ap (λ (b : Bool). with_reordering (reordering_in (if b then e ∷ [] else []))
            (running (j.flows.acked (other side) l))) on);
        nb = nb_held kinds now side e j;
        ue = ue_held kinds now side e j;
      }

  one_told : (now : Bool) (one : Record) (j : Journal Histories) → IsToldAt l side kind more now one
      → AreTold (flow_event l one) (behind_record histories kinds now one j) j
  one_told now (records.Of own e) j h = by (tells_flow l e) refl
    where
      by : (b : Bool) → tells_flow l e ≡ b
          → AreTold (if b then e ∷ [] else []) (behind_event histories kinds now own e j) j
      by false q = none_told _ j (one_left kinds now l (records.Of own e) j q)
      by true q =
          let k = h q in
          subst (λ (s : Side). AreTold (e ∷ []) (behind_event histories kinds now s e j) j) (sym k.0)
          (event_adds now e j (both_true (tells e) (is_on l e) q) k.1 k.2)
  one_told now one j h = none_told _ j (one_left kinds now l one j h)

  all_records_told : (xs : List ReadRecord) (j : Journal Histories)
      → AllByRecursion (λ (x : ReadRecord). IsToldAt l side kind more x.more x.one) xs
      → AreTold (flow_events l xs) (behind_all kinds xs j) j
  all_records_told [] j each = record { own = refl; back = refl; nb = refl; ue = refl }
  all_records_told (x ∷ xs) j each =
      let one = one_told x.more x.one j each.0 in
      let rest = all_records_told xs (behind_record histories kinds x.more x.one j) each.1 in
      let first = flow_event l x.one in
      let last = flow_events l xs in
      record {
        own = rest.own
            ∙ (ap (with_log kind more (telling last)) one.own
            ∙ sym (told_then kind more first last (running (j.flows.acked side l))));
        back = rest.back
            ∙ (ap (with_reordering (reordering_in last)) one.back
            ∙ (sym (reordering_then (reordering_in first) (reordering_in last)
            (running (j.flows.acked (other side) l)))
            ∙ ap (λ (rs : List Reordering). with_reordering rs (running (j.flows.acked (other side) l)))
            (sym (in_both first last))));
        nb = rest.nb ∙ one.nb;
        ue = rest.ue ∙ one.ue;
      }

-- so they add what the bearer logs
pub records_told : (kinds : List (Option Layout)) (l : ℕ) (side : Side) (b : State) (log : List BearerEntry)
    (xs : List ReadRecord) (written : List (List ℕ)) (j : Journal Histories)
    → (r : AreRecordsOf kinds l side b log xs written)
    → AreTold kinds b.pdcp.kind l (has_more b.pdcp) side r.known (told_in log) (behind_all kinds xs j) j
records_told kinds l side b log xs written j r =
    let t = all_records_told kinds b.pdcp.kind l (has_more b.pdcp) side r.known xs j r.each in
    record {
      own = t.own
          ∙ (ap (λ (told : List Event). with_log b.pdcp.kind (has_more b.pdcp) (telling told)
          (running (j.flows.acked side l))) r.told
          ∙ log_kept b.pdcp.kind (has_more b.pdcp) (told_in log) (running (j.flows.acked side l)));
      back = t.back
          ∙ ap (λ (rs : List Reordering). with_reordering rs (running (j.flows.acked (other side) l)))
          (ap (λ (told : List Event). reordering_in told) r.told ∙ reordering_kept (told_in log));
      nb = t.nb;
      ue = t.ue;
    }

-- ---- of the bearer that hears a flow: it is the one that sends the other

module _ (l : ℕ) (side : Side) (a : Air) (s : Step) (hearing sending : State) (pdus own : List CarriedPdu)
    (same : hearing ≡ sending) (come : pdus ≡ own) where
  pub come_alike : come_in (logged_in l side a s hearing) ≡ map pdu_octets pdus
      → come_in (logged_in l side a s sending) ≡ map pdu_octets own
  come_alike logged =
      ap (λ (b : State). come_in (logged_in l side a s b)) (sym same)
      ∙ (logged ∙ ap (λ (ps : List CarriedPdu). map pdu_octets ps) come)

  pub heard_alike : (es : List FlowEvent)
      → with_reordering (reordering_in (told_in (logged_in l side a s sending))) (with_all_data own es)
      ≡ with_reordering (reordering_in (told_in (logged_in l side a s hearing))) (with_all_data pdus es)
  heard_alike es =
      ap (λ (b : State). with_reordering (reordering_in (told_in (logged_in l side a s b))) (with_all_data own es))
      (sym same)
      ∙ ap (λ (ps : List CarriedPdu).
      with_reordering (reordering_in (told_in (logged_in l side a s hearing))) (with_all_data ps es)) (sym come)

-- ---- a step

-- nothing comes, nor is written
only_told : (log : List BearerEntry) → come_in log ≡ [] → written_in log ≡ [] → telling (told_in log) ≡ parted log
only_told log come none =
    sym (ap (λ (ps : List (List ℕ)). coming ps ++ (telling (told_in log) ++ writing (written_in log))) come
    ∙ (ap (λ (ps : List (List ℕ)). telling (told_in log) ++ writing ps) none
    ∙ append-nil (telling (told_in log))))

pub acts_are_gathered : ActsAreGathered
acts_are_gathered kinds l Nb a x c down up j xs h done none quiet r g =
    let now = h.air.by_air.flows in
    let b = now.down.from_bearer in
    let same = same_bearer _ now.up.to_bearer b now.up.to_is now.down.from_is in
    let i = behind_all kinds xs j in
    let t = records_told kinds l Nb b (logged_in l Nb a (AtNb x) b) xs [] j r in
    let come : come_in (logged_in l Nb a (AtNb x) b) ≡ [] =
    come_alike l Nb a (AtNb x) now.up.to_bearer b _ [] same quiet
    (lives_go_on_beside l a (AtNb x) c down up h done).go_on.by_ue.come in
    let log = only_told (logged_in l Nb a (AtNb x) b) come r.writes in
    record {
      down_is = t.own
          ∙ (ap (with_log b.pdcp.kind (has_more b.pdcp) (telling (told_in (logged_in l Nb a (AtNb x) b)))) g.down_is
          ∙ ap (λ (es : List BearerEntry). with_log b.pdcp.kind (has_more b.pdcp) es down) log);
      up_is = t.back
          ∙ (ap (with_reordering (reordering_in (told_in (logged_in l Nb a (AtNb x) b)))) g.up_is
          ∙ heard_alike l Nb a (AtNb x) now.up.to_bearer b _ [] same quiet up);
      by_nb = holds_same l j.nb i.nb (does a.ue a.nb x).blocks (behind_act l a.nb.end x c.nb) t.nb (record {
        held = held_blocks_stay l j.nb a.ue a.nb x c.nb done none g.by_nb.held;
        processes = g.by_nb.processes;
      });
      by_ue = holds_same l j.ue i.ue a.ue.blocks c.ue t.ue g.by_ue;
    }
acts_are_gathered kinds l Ue a x c down up j xs h done none quiet r g =
    let now = h.air.by_air.flows in
    let b = now.up.from_bearer in
    let same = same_bearer _ now.down.to_bearer b now.down.to_is now.up.from_is in
    let i = behind_all kinds xs j in
    let t = records_told kinds l Ue b (logged_in l Ue a (AtUe x) b) xs [] j r in
    let come : come_in (logged_in l Ue a (AtUe x) b) ≡ [] =
    come_alike l Ue a (AtUe x) now.down.to_bearer b _ [] same quiet
    (lives_go_on_beside l a (AtUe x) c down up h done).go_on.by_nb.come in
    let log = only_told (logged_in l Ue a (AtUe x) b) come r.writes in
    record {
      down_is = t.back
          ∙ (ap (with_reordering (reordering_in (told_in (logged_in l Ue a (AtUe x) b)))) g.down_is
          ∙ heard_alike l Ue a (AtUe x) now.down.to_bearer b _ [] same quiet down);
      up_is = t.own
          ∙ (ap (with_log b.pdcp.kind (has_more b.pdcp) (telling (told_in (logged_in l Ue a (AtUe x) b)))) g.up_is
          ∙ ap (λ (es : List BearerEntry). with_log b.pdcp.kind (has_more b.pdcp) es up) log);
      by_nb = holds_same l j.nb i.nb a.nb.blocks c.nb t.nb g.by_nb;
      by_ue = holds_same l j.ue i.ue (does a.nb a.ue x).blocks (behind_act l a.ue.end x c.ue) t.ue (record {
        held = held_blocks_stay l j.ue a.nb a.ue x c.ue done none g.by_ue.held;
        processes = g.by_ue.processes;
      });
    }

pub ttis_are_gathered : TtisAreGathered
ttis_are_gathered l a c down up j h g = record {
  down_is = g.down_is;
  up_is = g.up_is;
  by_nb = record { held = held_blocks_age l j.nb a.nb c.nb g.by_nb.held; processes = g.by_nb.processes };
  by_ue = record { held = held_blocks_age l j.ue a.ue c.ue g.by_ue.held; processes = g.by_ue.processes };
}
