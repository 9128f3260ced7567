-- Records of a step take what is gathered to the moment behind it, and tell truly of STATUS PDUs; so do records that
-- log nothing.
use Rattle.std.proofs.Common.{◌≡◌, ℕ, ◌+◌, ◌%◌, Bool, true, false, List, [], ◌∷◌, ◌++◌}
use Rattle.std.proofs.Common.{Option}
use Rattle.std.proofs.Common.{refl, ap, sym, subst, ◌∙◌, arith}
use Rattle.std.specs.List.{AllByRecursion}
use Rattle.air_record.specs.declared.record.Record.{Record}
use Rattle.air_record.specs.declared.record.Record.TheVariants as records
use Rattle.bearer.specs.Acknowledged.State.{State}
use Rattle.bearer.specs.declared.flow.Flow.TheVariants.{Am}
use Rattle.bearer_types.specs.Sides.{sent_by}
use Rattle.l2_node.specs.Building.{visited}
use Rattle.l2_node.specs.Finding.{has}
use Rattle.l2_types.specs.declared.side.Side.{Side}
use Rattle.l2_types.specs.declared.side.Side.TheVariants.{Nb, Ue}
use Rattle.law_deliver.specs.AmChannel.Lives.{InLife, end_at}
use Rattle.law_deliver.specs.AmFlow.Air.{Air, Act, Step}
use Rattle.law_deliver.specs.AmFlow.Air.{happens, IsDone, IsGiven}
use Rattle.law_deliver.specs.AmFlow.Carrying.{Builds, written_on}
use Rattle.law_node.specs.Holding.{flow}
use Rattle.pdcp_pdu.specs.declared.pdu.PdcpKind.{PdcpKind}
use Rattle.pdu_show.specs.declared.kinds.Layout.{Layout}
use Rattle.journal_account.specs.Acked.{ignored_in}
use Rattle.journal_account.specs.FlowEvents.{FlowEvent}
use Rattle.journal_form.proofs.Units.{all_told}
use Rattle.journal_flows.specs.FlowsTold.{Histories, histories}
use Rattle.journal_flows.specs.Gathering.{Journal, sending_of, sent_last, behind_record}
use Rattle.journal_status.specs.RightStatus.{ignored_told}
use Rattle.law_run.specs.TwoEnds.Along.{at_side}
use Rattle.law_run.specs.TwoEnds.ChannelLog.{on_channel, parted}
use Rattle.law_run.specs.TwoEnds.Logs.{LogEntry, Flight, logged}
use Rattle.law_run.specs.TwoEnds.Logs.{log_at}
use Rattle.law_sound.specs.BesideLaws.{ReadRecord, behind_all, IsGatheredBeside, IsGatheredBehind}
use Rattle.law_sound.specs.BesideLaws.{station_of, octets_of}
use Rattle.law_sound.specs.BesideSteps.{AreOfStep}
use Rattle.law_sound.specs.IgnoredLaws.{told_ignored}
use Rattle.law_sound.specs.LivedFails.{HasComeNew, HaveComeNew}
use Rattle.law_sound.specs.LivedHistories.{Moment, logged_in}
use Rattle.law_sound.specs.LivedHistories.{LiveOn}
use Rattle.law_sound.specs.LoggedRecords.{records_of, IsOwn, IsTold}
use Rattle.law_sound.specs.NamedLogs.{named_over}
use Rattle.law_sound.specs.StepReading.{read_as, ignored_so_far, IsTrueOf, AreTrueAt, TellTruly, AreTruly, IsRead}
use Rattle.law_sound.specs.StepReading.{has_something, RecordIsAnswered, IsAnswered}
use Rattle.law_bearer.proofs.AnyBearer.SenderCalls.{all_then as each_then}
use Rattle.std.proofs.lemmas.Bool.{eq-eqb}
use Rattle.bearer_types.specs.declared.event.Event.TheVariants as events
use Rattle.l2_types.specs.declared.event.Clock.TheVariants.{Poll}
use Rattle.law_sound.proofs.BesideSteps.{steps_are_gathered}
use Rattle.law_sound.proofs.LivedFails.{AreThere, lived_there}
use Rattle.law_sound.proofs.LivedHistories.{lives_go_on_beside}
use Rattle.law_sound.proofs.LoggedRecords.{own_records_tell}
use Rattle.law_sound.proofs.MovingFails.{lives_come_new}
use Rattle.law_sound.proofs.NamedLogs.{records_name, steps_leave_none_named}
use Rattle.law_sound.proofs.OtherRecords.{other_records_leave}
use Rattle.law_sound.proofs.StepLogs.{all_then, records_then, none_named, step_logs, step_modes, first_held}
use Rattle.law_sound.proofs.StepLogs.{leaves_by, next}
use Rattle.law_sound.proofs.StepNames.{told_more, silent_all}
use Rattle.law_sound.proofs.StepRecords.{records_read}
use Rattle.law_sound.proofs.StepStatuses.{ignored_both, records_counted, IsPlain, own_plain, plain_truly, then_truly}
use Rattle.law_sound.proofs.StepStatuses.{same_truly, plain_same}
use Rattle.law_sound.proofs.StepTrueStatuses.{held_true, nb_writes_truly, ue_writes_truly, up_stays, down_stays}

-- ---- records take what is gathered to a moment

abbrev pub said_at : ℕ → Journal Histories → Side → ℕ
said_at l j side = ignored_so_far side l j

abbrev pub Counts : List (Option Layout) → ℕ → Journal Histories → List ReadRecord → Type 0
Counts kinds l j rs = (side : Side)
    → ignored_so_far side l (behind_all kinds rs j)
    ≡ ignored_so_far side l j + ignored_told side l (records_of rs)

pub record Reads (before : Air) (kinds : List (Option Layout)) (kind : PdcpKind) (l : ℕ) (j : Journal Histories)
    (b : Air) (n : Moment)
    (told : List Record) : Type 0 where
  pub reads : List ReadRecord
  pub are : records_of reads ≡ told
  pub read : IsRead kind l b n (behind_all kinds reads j)
  pub statuses : AreTruly kinds l j reads
  pub none : (side : Side) → all_told side kinds told none_named ≡ none_named
  pub answered : AllByRecursion (IsAnswered l before) reads

-- none of both sides' own answers
pub silent_answered : (l : ℕ) (before : Air) (xs : List ReadRecord)
    → AllByRecursion (λ (x : ReadRecord). IsOwn l Nb x.one) xs
    → AllByRecursion (λ (x : ReadRecord). IsOwn l Ue x.one) xs → AllByRecursion (IsAnswered l before) xs
silent_answered l before [] nb ue = tt
silent_answered l before (x ∷ xs) nb ue = (by x.one x.more nb.0 ue.0, silent_answered l before xs nb.1 ue.1)
  where
    both : (own : Side) → own ≡ Nb → own ≡ Ue → ⊥
    both own p q = let no : Nb ≡ Ue = sym p ∙ q in cc

    by : (one : Record) (more : Bool) → IsOwn l Nb one → IsOwn l Ue one → RecordIsAnswered l before one more
    by (records.Of own (events.Expired lcid Poll)) more p q =
        λ same. absurd (both own (p (eq-eqb lcid l same)) (q (eq-eqb lcid l same)))
    by (records.Of own e) more p q = tt
    by one more p q = tt

module _ (kinds : List (Option Layout)) (kind : PdcpKind) (l : ℕ) where
  pub both_truly : (j : Journal Histories) (xs ys : List ReadRecord) → AreTruly kinds l j xs
      → AreTruly kinds l (behind_all kinds xs j) ys → AreTruly kinds l j (xs ++ ys)
  both_truly j xs ys p q = record {
    each = then_truly kinds l xs ys (said_at l j) j p.each
        (same_truly kinds l ys (said_at l (behind_all kinds xs j)) _ (behind_all kinds xs j) p.all q.each);
    all = λ side.
        let then' = ap (ignored_so_far side l) (all_then kinds xs ys j) in
        let told = ap (ignored_told side l) (records_then xs ys) in
        let parts = ignored_both side l (records_of xs) (records_of ys) in
        let first = p.all side in
        let last = q.all side in
        omega (arith, then', told, parts, first, last);
  }

  pub both_read : (a : Air) (j : Journal Histories) (b c : Air) (n o : Moment) (xs ys : List Record)
      → (p : Reads a kinds kind l j b n xs)
      → Reads a kinds kind l (behind_all kinds p.reads j) c o ys → Reads a kinds kind l j c o (xs ++ ys)
  both_read a j b c n o xs ys p q = record {
    reads = p.reads ++ q.reads;
    are = records_then p.reads q.reads
        ∙ (ap (λ (zs : List Record). zs ++ records_of q.reads) p.are ∙ ap (λ (zs : List Record). xs ++ zs) q.are);
    read = subst (IsRead kind l c o) (sym (all_then kinds p.reads q.reads j)) q.read;
    statuses = both_truly j p.reads q.reads p.statuses q.statuses;
    none = λ side. told_more side kinds xs ys none_named ∙ (ap (all_told side kinds ys) (p.none side) ∙ q.none side);
    answered = each_then (IsAnswered l a) p.reads q.reads p.answered q.answered;
  }

  -- ---- records that log nothing

  pub plain_all : (side : Side) (xs : List ReadRecord) → AllByRecursion (λ (x : ReadRecord). IsOwn l side x.one) xs
      → AllByRecursion (λ (x : ReadRecord). IsPlain x.one) xs
  plain_all side [] own = tt
  plain_all side (x ∷ xs) own = (own_plain l side x.one own.0, plain_all side xs own.1)

  leave_all : (a : Air) (m : Moment) (xs : List ReadRecord) (j : Journal Histories)
      → AllByRecursion (λ (x : ReadRecord). IsOwn l Nb x.one) xs
      → AllByRecursion (λ (x : ReadRecord). IsOwn l Ue x.one) xs → IsGatheredBeside l a m.pdus m.down m.up j
      → IsGatheredBeside l a m.pdus m.down m.up (behind_all kinds xs j)
  leave_all a m [] j nb ue g = g
  leave_all a m (x ∷ xs) j nb ue g =
      leave_all a m xs (behind_record histories kinds x.more x.one j) nb.1 ue.1
      (other_records_leave kinds x.more l a m.pdus m.down m.up x.one j (leaves_by l x.one nb.0 ue.0) g)

  -- at the same moment
  pub record ReadsStill (before a : Air) (m : Moment) (j : Journal Histories) (r : IsRead kind l a m j)
      (told : List Record)
      : Type 0 where
    pub all : Reads before kinds kind l j a m told
    pub same : all.read.lived ≡ r.lived

  -- those that its own side's end answers
  pub own_answered : (side : Side) (before : Air) (more : Bool) (told : List Record)
      → more ≡ has_something (flow l (station_of side before).end)
      → AllByRecursion (λ (x : ReadRecord). IsOwn l side x.one) (read_as more told)
      → AllByRecursion (IsAnswered l before) (read_as more told)
  own_answered side before more [] is own = tt
  own_answered side before more (one ∷ told) is own = (by one own.0, own_answered side before more told is own.1)
    where
      by : (one : Record) → IsOwn l side one → RecordIsAnswered l before one more
      by (records.Of own (events.Expired lcid Poll)) p =
          λ same. subst (λ (z : Side). more ≡ has_something (flow l (station_of z before).end))
          (sym (p (eq-eqb lcid l same))) is
      by (records.Of own e) p = tt
      by one p = tt

  pub silent_read : (before a : Air) (m : Moment) (sent : Flight) (j : Journal Histories) (told : List Record)
      → (r : IsRead kind l a m j) → logged sent told ≡ [] → ReadsStill before a m j r told
  silent_read before a m sent j told r logs =
      let xs = read_as false told in
      let are = records_read false told in
      let none : logged sent (records_of xs) ≡ [] = ap (logged sent) are ∙ logs in
      let nb = own_records_tell l Nb sent xs (subst (AllByRecursion (IsTold Nb)) (sym none) tt) in
      let ue = own_records_tell l Ue sent xs (subst (AllByRecursion (IsTold Ue)) (sym none) tt) in
      let g = leave_all a m xs j nb ue r.gathered in
      let zero' : (side : Side) → ignored_told side l (records_of xs) ≡ 0 = λ side.
      sym (records_counted side l (records_of xs) sent)
      ∙ ap (λ (hs : List LogEntry). told_ignored (on_channel l side hs)) none
      in
      let same = λ (side : Side). plain_same kinds l xs side j (plain_all Nb xs nb) in
      let whole : Reads before kinds kind l j a m told = record {
        reads = xs;
        are = are;
        read = record {
          lived = r.lived;
          new = r.new;
          modes = r.modes;
          gathered = g;
          named = λ side. records_name kinds side sent xs j
              ∙ (ap (λ (hs : List LogEntry). named_over side hs (sending_of side j).named) none ∙ r.named side);
        };
        statuses = record {
          each = plain_truly kinds l xs (said_at l j) j (plain_all Nb xs nb)
              (λ side. let none' = zero' side in omega (arith, none'));
          all = λ side. let none' = zero' side in let as_before = same side in omega (arith, none', as_before);
        };
        none = λ side. silent_all side Nb kinds told sent none_named logs;
        answered = silent_answered l before xs nb ue;
      } in
      record { all = whole; same = refl }

  -- ---- the records of a step, as they are of it

  module _ (a : Air) (m : Moment) (sent : Flight) (j : Journal Histories) (r : IsRead kind l a m j) where
    pub there : AreThere l a
    there = lived_there l a m r.lived

    -- just so many STATUS are told of as ignored
    counts : (s : Step) (rs : List ReadRecord) → IsGiven l a s
        → logged sent (records_of rs) ≡ log_at a (InLife s)
        → IsGatheredBehind l a s m.pdus m.down m.up r.lived (behind_all kinds rs j) → Counts kinds l j rs
    counts s rs g logs now side = by side
      where
        on : LiveOn l a s m.pdus m.down m.up r.lived.nb_bearer r.lived.ue_bearer r.lived.air.by_air.flows
        on = lives_go_on_beside l a s m.pdus m.down m.up r.lived g

        told : (side : Side) (b : State) → flow l (end_at side a) ≡ Am b
            → told_ignored (parted (logged_in l side a s b)) ≡ ignored_told side l (records_of rs)
        told side b is =
            sym (ap told_ignored (step_logs l side b a s g r.new there is))
            ∙ (ap (λ (hs : List LogEntry). told_ignored (on_channel l side hs)) (sym logs)
            ∙ records_counted side l (records_of rs) sent)

        by : (side : Side)
            → ignored_so_far side l (behind_all kinds rs j)
            ≡ ignored_so_far side l j + ignored_told side l (records_of rs)
        by Nb =
            let flows = r.lived.air.by_air.flows.down in
            let behind = ap ignored_in now.down_is in
            let before = ap ignored_in r.gathered.down_is in
            let adds = on.go_on.by_nb.ignored in
            let same = told Nb flows.from_bearer flows.from_is in
            omega (arith, behind, before, adds, same)
        by Ue =
            let flows = r.lived.air.by_air.flows.up in
            let behind = ap ignored_in now.up_is in
            let before = ap ignored_in r.gathered.up_is in
            let adds = on.go_on.by_ue.ignored in
            let same = told Ue flows.from_bearer flows.from_is in
            omega (arith, behind, before, adds, same)

    -- so they take what is gathered to the moment behind the step
    pub step_read : (s : Step) (told : List Record) (rs : List ReadRecord) → IsGiven l a s → records_of rs ≡ told
        → logged sent told ≡ log_at a (InLife s) → AreOfStep kinds l a m.pdus m.down m.up r.lived j s rs
        → (IsGatheredBehind l a s m.pdus m.down m.up r.lived (behind_all kinds rs j) → Counts kinds l j rs
        → TellTruly kinds l (said_at l j) j rs)
        → ((side : Side) → all_told side kinds told none_named ≡ none_named) → AllByRecursion (IsAnswered l a) rs
        → Reads a kinds kind l j (happens a s) (next l a m s r.lived) told
    step_read s told rs g are logs of each none answered =
        let now = steps_are_gathered kinds l a s m.pdus m.down m.up j rs r.lived of r.gathered in
        let log : logged sent (records_of rs) ≡ log_at a (InLife s) = ap (logged sent) are ∙ logs in
        let count = counts s rs g log now in
        record {
          reads = rs;
          are = are;
          read = record {
            lived = (lives_go_on_beside l a s m.pdus m.down m.up r.lived g).lived;
            new = lives_come_new l (InLife s ∷ []) a r.new (g, tt);
            modes = λ side. step_modes l side a s g (new_end side r.new) (there_end side there) ∙ r.modes side;
            gathered = now;
            named = λ side. steps_leave_none_named kinds side a (InLife s) sent rs j log (r.named side);
          };
          statuses = record { each = each now count; all = count };
          none = none;
          answered = answered;
        }
      where
        new_end : (side : Side) → HaveComeNew l a → HasComeNew side l (end_at side a)
        new_end Nb new = new.nb
        new_end Ue new = new.ue

        there_end : (side : Side) → AreThere l a → has l (end_at side a).bearers ≡ true
        there_end Nb there = there.nb
        there_end Ue there = there.ue

    -- ---- the STATUS PDUs in a new block are true

    pub block_true : (side : Side) (x : Act) (bs : Builds (station_of side a).end x) → IsDone l (station_of side a) x
        → (version : ℕ) (flag : Bool) (i : Journal Histories)
        → IsGatheredBehind l a (at_side side x) m.pdus m.down m.up r.lived
        (behind_record histories kinds flag (records.Block (sent_by side) (bs.turn.tti % 8) true version
        (octets_of (station_of side a) x bs)) i)
        → AreTrueAt l
        (behind_record histories kinds flag (records.Block (sent_by side) (bs.turn.tti % 8) true version
        (octets_of (station_of side a) x bs)) i)
        (records.Block (sent_by side) (bs.turn.tti % 8) true version (octets_of (station_of side a) x bs))
    block_true Nb x bs done version flag i now =
        let k = behind_record histories kinds flag (records.Block (sent_by Nb) (bs.turn.tti % 8) true version
        (octets_of a.nb x bs)) i in
        let flows = r.lived.air.by_air.flows in
        subst (λ (es : List FlowEvent). AllByRecursion (IsTrueOf l es) (sent_last k.nb))
        (sym (now.up_is ∙ up_stays l a x m.pdus flows.up.to_bearer flows.up.from_bearer m.up bs))
        (held_true l m.up (sent_last k.nb) (written_on l bs.turn (visited bs.turn.tti bs.turn.order a.nb.end))
        (first_held l k.nb a.ue a.nb x m.pdus.nb bs now.by_nb.held)
        (nb_writes_truly l a x m.pdus m.down m.up r.lived done bs))
    block_true Ue x bs done version flag i now =
        let k = behind_record histories kinds flag (records.Block (sent_by Ue) (bs.turn.tti % 8) true version
        (octets_of a.ue x bs)) i in
        let flows = r.lived.air.by_air.flows in
        subst (λ (es : List FlowEvent). AllByRecursion (IsTrueOf l es) (sent_last k.ue))
        (sym (now.down_is ∙ down_stays l a x m.pdus flows.down.from_bearer flows.down.to_bearer m.down bs))
        (held_true l m.down (sent_last k.ue) (written_on l bs.turn (visited bs.turn.tti bs.turn.order a.ue.end))
        (first_held l k.ue a.nb a.ue x m.pdus.ue bs now.by_ue.held)
        (ue_writes_truly l a x m.pdus m.down m.up r.lived done bs))
    -- where a side only tells
