-- Both ends end their life and begin the next one under the same keys.
use Rattle.std.proofs.Common.{◌≡◌, ℕ, zero, suc, Bool, true, false, ◌||◌, List, [], ◌∷◌, ◌++◌, map, take, drop, Some}
use Rattle.std.proofs.Common.{append-nil, subst, refl, ap, sym, ◌∙◌}
use Rattle.std.specs.List.{AllByRecursion}
use Rattle.eps_sec.specs.declared.Keys.{Keys}
use Rattle.pdcp_pdu.specs.declared.PdcpKind.{PdcpKind}
use Rattle.pdcp_pdu.specs.declared.PdcpKind.TheVariants.{Am as AmKind}
use Rattle.pdcp_rx.specs.Heard.{Told, heard}
use Rattle.pdcp_rx.specs.State.{State as Receiving, report, restarted as restarted_receiving}
use Rattle.pdcp_tx.specs.Runs.{Owe, after as asked}
use Rattle.pdcp_tx.specs.State.{State as Sending, restarted as restarted_sending}
use Rattle.pdcp_tx.specs.declared.sender.Next.{Next}
use Rattle.rlc_am_rx.specs.Machine.{finished}
use Rattle.rlc_am_rx.specs.State.{State as Receiver}
use Rattle.bearer.specs.declared.flow.Flow.TheVariants.{Am}
use Rattle.bearer.specs.Lives.{stopping}
use Rattle.law_bearer.specs.AmBearer.Calls.{IsOfData, ups_among}
use Rattle.law_bearer.specs.AmBearer.Deeds.{all_raised}
use Rattle.law_bearer.specs.AmBearer.Lives.{closes, closed, restarts, RestartsAs}
use Rattle.law_bearer.proofs.AmBearer.Lives.{restarts_are_deeds}
use Rattle.law_rlc.specs.AmPair.Arrives.{arrives, whole_from}
use Rattle.law_rlc.specs.AmPair.Sdus.{offered}
use Rattle.law_rlc.proofs.AmPair.Laws.{finish-gives-by-places}
use Rattle.law_pdcp.specs.AmPair.Flow.{Flow as Pdcp, IsReport, Restart, ended, closed as closed_counts}
use Rattle.law_pdcp.specs.AmPair.Flow.{happens as pdcp_happens, am_pdcp_outset}
use Rattle.law_words.specs.Arrivals.{Renews as LifeEnds, renewed as renewed_account}
use Rattle.law_pdcp.specs.AmPair.Between.{TellsWhatHasCome}
use Rattle.law_pdcp.proofs.AmPair.Telling.{begins_telling}
use Rattle.law_deliver.specs.AmFlow.Pair.{BearerEnd, begins}
use Rattle.law_deliver.proofs.AmDelivery.Accounts.{given_of, is_among}
use Rattle.law_deliver.proofs.AmDelivery.Arrived.{closed_come}
use Rattle.law_deliver.proofs.AmDelivery.Beginning.{none_arrives}
use Rattle.law_deliver.specs.AmDelivery.Lives.{Restarts, lives_on}
use Rattle.law_deliver.proofs.AmDelivery.Ends.{JoinedEnds, near_ends, far_ends, from_near}
use Rattle.law_deliver.proofs.AmDelivery.Joined.{Way, IsWay, Joins, IsReportOf, Reports, rlc, pdcp}
use Rattle.law_deliver.proofs.AmDelivery.Promises.{GoesOn, RestartsGoOn}
use Rattle.law_deliver.proofs.AmDelivery.RestartingEvents.{ended_is, restarting, next_life, restarts_as}
use Rattle.law_deliver.proofs.AmDelivery.RestartingEvents.{restarting_given}
use Rattle.law_deliver.proofs.AmDelivery.Ways.{run_more, given_events_more}

-- ---- what comes at the end of a life

closed_is : (w : Way) (from to : BearerEnd) → IsWay w → Joins w from to → (ended (pdcp w)).receiver ≡ closed to.bearer
closed_is w from to is j =
    let f = pdcp w in
    let g = rlc w in
    ended_is f (arrives g) (offered g) j.whole_is j.stream_is
    ∙ ap (λ (n : ℕ). closes (whole_from (arrives g) n (drop n (offered g))) f.receiver) j.passed_is
    ∙ ap (λ (sdus : List (List ℕ)). closes sdus f.receiver)
    (sym (finish-gives-by-places w.sending w.receiving w.steps is.steps))
    ∙ ap (λ (r : Receiver). closes (finished r) f.receiver) j.rlc_is.receiver_is
    ∙ ap (λ (r : Receiving). closes (finished to.bearer.rx) r) j.receiver_is

-- ---- the report of the receiver of one direction is one to the sender of the other

abbrev renewed_kind : Way → Keys → PdcpKind
renewed_kind w keys = (restarted_sending (pdcp w).sender keys).kind

same_kind : (s : Sending) (keys : Keys) → (restarted_sending s keys).kind ≡ s.kind
unfolding restarted_sending
same_kind s keys = refl

kind_is : (bits : ℕ) (w : Way) (from to : BearerEnd) (keys : Keys) → Joins w from to → IsOfData bits from.bearer
    → renewed_kind w keys ≡ AmKind bits
kind_is bits w from to keys j h = same_kind (pdcp w).sender keys ∙ ap (λ (s : Sending). s.kind) j.sender_is ∙ h.sending

is_report : (kind other : PdcpKind) (pdu told : List ℕ) (fms : ℕ) (bitmap : List ℕ) → other ≡ kind → told ≡ pdu
    → heard kind told ≡ Told fms bitmap → IsReport other pdu
is_report kind other pdu told fms bitmap k same h = record {
  fms = fms;
  bitmap = bitmap;
  is = ap (λ (x : PdcpKind). heard x pdu) k ∙ ap (heard kind) (sym same) ∙ h;
}

abbrev owed_at : BearerEnd → List ℕ
owed_at e = report (closed e.bearer)

owes_a_report : (bits : ℕ) (w back : Way) (from to : BearerEnd) (keys : Keys) → JoinedEnds bits w back from to
    → IsReport (renewed_kind w keys) (owed_at from)
owes_a_report bits w back from to keys h =
    let b = h.inn_is in
    let t : TellsWhatHasCome (pdcp_happens (pdcp back) (Restart keys)) =
    begins_telling back.bits back.protection back.first back.events keys b.kind b.first b.events in
    let same : renewed_kind w keys ≡ renewed_kind back keys =
    kind_is bits w from to keys h.out_joins h.of_data
    ∙ sym (kind_is bits back to from keys h.inn_joins h.other_of_data) in
    is_report (renewed_kind back keys) (renewed_kind w keys) (owed_at from) (report (ended (pdcp back)).receiver)
    t.fms t.bitmap same
    (ap report (closed_is back to from h.inn_is h.inn_joins)) t.comes

-- ---- a direction in the next life

abbrev renewed : Way → BearerEnd → BearerEnd → Keys → Way
renewed w from to keys = record w {
  events = w.events ++ restarting (pdcp w) keys (owed_at from);
  sending = from.bearer.tx_config;
  receiving = to.bearer.rx_config;
  steps = [];
}

abbrev renewed_end : BearerEnd → Keys → BearerEnd
renewed_end e keys = begins (restarts e.bearer keys)

renewed_is : (w : Way) (from to : BearerEnd) (keys : Keys)
    → pdcp (renewed w from to keys) ≡ next_life (pdcp w) keys (owed_at from)
renewed_is w from to keys =
    run_more (am_pdcp_outset w.bits w.protection w.first) w.events (restarting (pdcp w) keys (owed_at from))
    ∙ restarts_as (pdcp w) keys (owed_at from)

-- what PDCP has come to
record IsRenewed (f g : Pdcp) (from to : BearerEnd) (keys : Keys) : Type 0 where
  sender_is : g.sender ≡ (restarts from.bearer keys).pdcp.tx
  receiver_is : g.receiver ≡ (restarts to.bearer keys).pdcp.rx
  stream_is : g.stream ≡ []
  passed_is : g.passed ≡ 0
  whole_is : (k : ℕ) → g.whole k ≡ false
  handed_is : (count : ℕ) → g.handed count ≡ closed_counts f.whole f.passed (drop f.passed f.stream) f.handed count
  report_is : g.report ≡ Some (owed_at to)
  sdus_are : g.sdus ≡ f.sdus
  ups_are : g.up ≡ f.up ++ (closed to.bearer).ready

abbrev Renews : Way → BearerEnd → BearerEnd → Keys → Type 0
Renews w from to keys = IsRenewed (pdcp w) (pdcp (renewed w from to keys)) from to keys

renews_way : (w : Way) (from to : BearerEnd) (keys : Keys) → IsWay w → Joins w from to → Renews w from to keys
renews_way w from to keys is j =
    let c = closed_is w from to is j in
    subst (λ (g : Pdcp). IsRenewed (pdcp w) g from to keys) (sym (renewed_is w from to keys)) (record {
      sender_is = ap (λ (s : Sending). asked (restarted_sending s keys) (Owe (owed_at from))) j.sender_is;
      receiver_is = ap (λ (r : Receiving). all_raised (restarted_receiving r keys)) c;
      stream_is = refl;
      passed_is = refl;
      whole_is = λ k. refl;
      handed_is = λ count. refl;
      report_is = ap (λ (r : Receiving). Some (report r)) c;
      sdus_are = refl;
      ups_are = ap (λ (r : Receiving). (pdcp w).up ++ r.ready) c;
    })

renewed_way : (bits : ℕ) (w back : Way) (from to : BearerEnd) (keys : Keys) → JoinedEnds bits w back from to
    → IsWay (renewed w from to keys)
renewed_way bits w back from to keys h =
    let more = restarting (pdcp w) keys (owed_at from) in
    let given = restarting_given (pdcp w) keys (owed_at from) (owes_a_report bits w back from to keys h) in
    record {
      kind = h.out_is.kind;
      first = h.out_is.first;
      events = given_events_more (am_pdcp_outset w.bits w.protection w.first) w.events more h.out_is.events given;
      steps = tt;
    }

renewed_joins : (w : Way) (from to : BearerEnd) (keys : Keys) → Renews w from to keys
    → Joins (renewed w from to keys) (renewed_end from keys) (renewed_end to keys)
renewed_joins w from to keys r = record {
  rlc_is = record { sender_is = refl; receiver_is = refl; copies_are = refl; reports_are = refl; busy_is = refl };
  sender_is = r.sender_is;
  receiver_is = r.receiver_is;
  stream_is = ap (map (λ (n : Next). n.octets)) r.stream_is;
  passed_is = r.passed_is;
  whole_is = λ k. r.whole_is k
      ∙ none_arrives from.bearer.tx_config to.bearer.rx_config k (arrives (rlc (renewed w from to keys)) k) refl;
}

-- what the one owes is what the other made
renewed_reports : (w back : Way) (from to : BearerEnd) (keys : Keys) → Renews w from to keys → Renews back to from keys
    → Reports (renewed w from to keys) (renewed back to from keys)
renewed_reports w back from to keys r b = record {
  owed = λ report owes. r.report_is ∙ sym (ap (λ (s : Sending). s.owed) b.sender_is) ∙ owes;
  sent = subst (λ (l : List Next). AllByRecursion (IsReportOf (pdcp (renewed w from to keys)).report) l)
      (sym b.stream_is) tt;
}

none_more : (n : ℕ) (ns : List Next) (count : ℕ) → ns ≡ [] → (b : Bool) → (b || is_among (take n ns) count) ≡ b
none_more n ns count none b = ap (λ (l : List Next). b || is_among (take n l) count) none ∙ by n b
  where
    by : (n : ℕ) (b : Bool) → (b || is_among (take n []) count) ≡ b
    by zero true = refl
    by zero false = refl
    by (suc n) true = refl
    by (suc n) false = refl

renewed_goes : (bits : ℕ) (w : Way) (from to : BearerEnd) (keys : Keys) → RestartsAs bits to.bearer keys
    → Renews w from to keys
    → IsWay w → Joins w from to
    → GoesOn w (renewed w from to keys) [] (ups_among (stopping (Am to.bearer))) (LifeEnds ∷ [])
renewed_goes bits w from to keys a r is j = record {
  bits = refl;
  protection = refl;
  first = refl;
  sdus_are = r.sdus_are ∙ sym (append-nil (pdcp w).sdus);
  ups_are = r.ups_are ∙ ap (λ (l : List (List ℕ)). (pdcp w).up ++ l) a.ups;
  tells = λ b k. record {
    given_are = ap (λ (l : List Next). map given_of l) r.stream_is;
    rlc_is = refl;
    handed_are = λ count.
        r.handed_is count ∙ closed_come w from to b count is j k
        ∙ sym (none_more (pdcp (renewed w from to keys)).passed (pdcp (renewed w from to keys)).stream count
        r.stream_is ((renewed_account b).ended count));
  };
}

-- ---- both directions

abbrev Renewed : ℕ → Way → Way → BearerEnd → BearerEnd → Keys → Type 0
Renewed bits w back e o keys =
    JoinedEnds bits (renewed w e o keys) (renewed back o e keys) (renewed_end e keys) (renewed_end o keys)

renewed_ends : (bits : ℕ) (w back : Way) (e o : BearerEnd) (keys : Keys) → JoinedEnds bits w back e o
    → JoinedEnds bits back w o e
    → Renews w e o keys → Renews back o e keys → RestartsAs bits e.bearer keys → RestartsAs bits o.bearer keys
    → Renewed bits w back e o keys
renewed_ends bits w back e o keys h k r b near far = record {
  out_is = renewed_way bits w back e o keys h;
  inn_is = renewed_way bits back w o e keys k;
  out_bits = h.out_bits;
  inn_bits = h.inn_bits;
  out_joins = renewed_joins w e o keys r;
  inn_joins = renewed_joins back o e keys b;
  out_reports = renewed_reports w back e o keys r b;
  inn_reports = renewed_reports back w o e keys b r;
  of_data = near.stays;
  other_of_data = far.stays;
  idle = near.idle;
  other_idle = far.idle;
}

pub restarts_go_on : RestartsGoOn
restarts_go_on bits down up p keys h =
    let d = renews_way down p.near p.far keys h.down_is h.down_joins in
    let u = renews_way up p.far p.near keys h.up_is h.up_joins in
    let near = restarts_are_deeds bits p.near.bearer keys h.near_data h.near_idle in
    let far = restarts_are_deeds bits p.far.bearer keys h.far_data h.far_idle in
    let down_after = renewed down p.near p.far keys in
    let up_after = renewed up p.far p.near keys in
    record {
      down_after = down_after;
      up_after = up_after;
      joined = from_near bits down_after up_after (lives_on p (Restarts keys))
          (renewed_ends bits down up p.near p.far keys (near_ends bits down up p h) (far_ends bits down up p h) d u
          near far);
      down_goes = renewed_goes bits down p.near p.far keys far d h.down_is h.down_joins;
      up_goes = renewed_goes bits up p.far p.near keys near u h.up_is h.up_joins;
      down_lasts = λ in'. absurd in';
      up_lasts = λ in'. absurd in';
    }
