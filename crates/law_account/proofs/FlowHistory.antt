-- Along the steps of a flow: what its sender keeps, and VR(R), are what its history says.
use Rattle.std.proofs.Common.{◌≡◌, ◌<◌, ◌≤◌, inl, inr, ℕ, zero, suc, ◌+◌, ◌-◌, Bool, true, false, ◌&&◌, ◌||◌, ◌==◌}
use Rattle.std.proofs.Common.{if◌then◌else◌, List, [], ◌∷◌, ◌++◌, map, length, take, slice_get, slice_index_or, Option}
use Rattle.std.proofs.Common.{Some, None, Result, nat_lt, refl, ap, sym, subst, ◌∙◌, arith, append-nil}
use Rattle.std.specs.List.{AllByRecursion}
use Rattle.std.proofs.lemmas.Bool.{cases_lt, eqb-true, ltb-true}
use Rattle.std.proofs.lemmas.Option.{slice_get_past}
use Rattle.std.proofs.lemmas.Bool.Decides.{nat_tests}
use Rattle.std.proofs.lemmas.List.{map-append, length-take, length-map, get_or_append_left}
use Rattle.l2_num.specs.Least.{IsLeast}
use Rattle.l2_num.specs.Timers.{runs}
use Rattle.l2_types.specs.declared.config.AmTxConfig.{AmTxConfig}
use Rattle.l2_types.specs.declared.AmRxConfig.{AmRxConfig}
use Rattle.rlc_pdu.specs.declared.Expired.{Expired}
use Rattle.rlc_pdu.specs.declared.Expired.TheVariants.{Done, NotRunning}
use Rattle.rlc_pdu.specs.declared.fault.RlcRefusal.{RlcRefusal}
use Rattle.rlc_pdu.specs.Pdus.{AcknowledgedPdu}
use Rattle.rlc_am_rx_window.specs.Piece.{piece_of, end_of, octets_in, so_of}
use Rattle.rlc_am_rx.specs.Machine.{turned, reorder_answer}
use Rattle.rlc_am_tx_window.specs.Window.{next}
use Rattle.rlc_am_tx.specs.declared.turn.Turn.{Turn}
use Rattle.rlc_am_tx.specs.declared.turn.Turn.TheVariants as turns
use Rattle.rlc_am_tx.specs.Machine.{State, turn}
use Rattle.journal_account.specs.Arrived.{octet_came, brings_octet, is_complete_in, all_below, all_octets}
use Rattle.journal_account.specs.FlowEvents.{FlowEvent, NumberWritten, OctetsArrived, ReorderStarted, ReorderExpired}
use Rattle.journal_account.specs.FlowEvents.{StatusHeard, PollExpired, field_sizes, next_of, size_in}
use Rattle.journal_account.proofs.Complete.{below_all, below_each}
use Rattle.journal_account.proofs.Order.{none_above, top_written}
use Rattle.law_rlc.specs.AmSender.Run.{Call as SenderCall, Offer, Take, Status, Tick, Expire, Settle, Confirm}
use Rattle.law_rlc.specs.AmSender.Run.{World as SenderWorld, after}
use Rattle.law_rlc.specs.AmSender.Octets.{Place, Octets, octets_after, new_count, octets_by}
use Rattle.law_rlc.proofs.AmSender.Writes.{Keeps, new-there}
use Rattle.law_rlc.specs.AmReceiver.Run.{Call, Arrive, Up, Write, ExpireReorder, ExpireProhibit, TickReorder}
use Rattle.law_rlc.specs.AmReceiver.Run.{TickProhibit, Came, place_has_come, told, size_told_by, covers, kept_with}
use Rattle.law_rlc.specs.AmReceiver.Run.{IsComplete, World}
use Rattle.law_rlc.proofs.AmReceiver.Least.{least}
use Rattle.law_rlc.specs.AmPair.Flow.{Copy, Report, Flow, Step, Sends, Receives, Reports, DataComes, StatusComes}
use Rattle.law_rlc.specs.AmPair.Flow.{DataGoes, StatusGoes, Passes, sender, receiver, receives, data_read, data_comes}
use Rattle.law_rlc.specs.AmPair.Flow.{status_read, status_comes, happens, goes, am_rlc_outset}
use Rattle.law_rlc.specs.AmPair.Given.{IsGiven, AreGiven, IsSending, IsReceiving}
use Rattle.law_rlc.specs.AmPair.Numbers.{IsOrdered}
use Rattle.law_rlc.specs.AmPair.Statuses.{reduced}
use Rattle.law_rlc.proofs.AmArrival.Coming.{IsRead, reads_copy, keeps_brings, cells_are}
use Rattle.law_rlc.proofs.AmArrival.Kept.{none_unsent, kept_below}
use Rattle.law_rlc.proofs.AmPair.Arrived.{told-length}
use Rattle.law_rlc.proofs.AmPair.Hearing.{in-order}
use Rattle.law_rlc.proofs.AmPair.Laws.{happens-sound, sound}
use Rattle.law_rlc.proofs.AmPair.Parts.{cells-length}
use Rattle.law_rlc.proofs.AmPair.Runs.{called, sender-more, receiver-more}
use Rattle.law_rlc.proofs.AmPair.Sending.{sent-number}
use Rattle.law_rlc.proofs.AmPair.Sound.{IsTrueCopy, IsTrueReport, IsKept, IsSound}
use Rattle.law_account.specs.FlowHistory.{with_start, with_expiry, with_hearing, with_data, with_copy, with_report}
use Rattle.law_account.specs.FlowHistory.{with_step, with_steps, FlowsAreTold}
use Rattle.law_account.specs.History.{turn_told, call_told, IsTold, with_told, Follows}
use Rattle.law_account.specs.LateStatus.{entries_of}
use Rattle.law_account.proofs.History.{outset_follows, calls_follow, arrivals_follow, next_is}
use Rattle.law_account.proofs.LateStatus.{heard_late}

-- the history beside the sender, what it sent, and what the receiver kept
pub record Knows (most : ℕ) (es : List FlowEvent) (tx : SenderWorld Octets) (kept : List Came) : Type 0 where
  pub follows : Follows most es tx.state
  pub sizes : field_sizes es ≡ map length tx.past.sent
  pub came : (n i : ℕ) → i < length (slice_index_or tx.past.sent n [])
      → place_has_come kept n i ≡ octet_came es n i

abbrev pub KnowsOf : List FlowEvent → Flow → Type 0
KnowsOf es f = Knows f.sending.max_retx es (sender f) (receiver f).kept

-- ---- events that write nothing and bring nothing

record IsQuiet (e : FlowEvent) : Type 0 where
  size : size_in e ≡ []
  none : (n i : ℕ) → brings_octet e n i ≡ false

quiet_sizes : (e : FlowEvent) (es : List FlowEvent) → IsQuiet e → field_sizes (e ∷ es) ≡ field_sizes es
quiet_sizes e es q = ap (λ (l : List ℕ). field_sizes es ++ l) q.size ∙ append-nil (field_sizes es)

quiet_came : (e : FlowEvent) (es : List FlowEvent) (n i : ℕ) → IsQuiet e → octet_came (e ∷ es) n i ≡ octet_came es n i
quiet_came e es n i q = ap (λ (b : Bool). b || octet_came es n i) (q.none n i)

abbrev AllQuiet : Option FlowEvent → Type 0
AllQuiet None = Unit {0}
AllQuiet (Some e) = IsQuiet e

knows_still : (most : ℕ) (o : Option FlowEvent) (es : List FlowEvent) (tx ty : SenderWorld Octets) (kept : List Came)
    → AllQuiet o → ty.past.sent ≡ tx.past.sent → Follows most (with_told o es) ty.state → Knows most es tx kept
    → Knows most (with_told o es) ty kept
knows_still most None es tx ty kept q same f h = record {
  follows = f;
  sizes = h.sizes ∙ ap (map length) (sym same);
  came = subst (λ (sent : List (List Place)). (n i : ℕ) → i < length (slice_index_or sent n [])
      → place_has_come kept n i ≡ octet_came es n i) (sym same) h.came;
}
knows_still most (Some e) es tx ty kept q same f h = record {
  follows = f;
  sizes = quiet_sizes e es q ∙ (h.sizes ∙ ap (map length) (sym same));
  came = subst (λ (sent : List (List Place)). (n i : ℕ) → i < length (slice_index_or sent n [])
      → place_has_come kept n i ≡ octet_came (e ∷ es) n i) (sym same)
      (λ n i lt. h.came n i lt ∙ sym (quiet_came e es n i q));
}

-- ---- a take

knows_new : (most size : ℕ) (es : List FlowEvent) (tx ty : SenderWorld Octets) (kept : List Came) (ps : List Place)
    → ty.past.sent ≡ tx.past.sent ++ ps ∷ [] → length ps ≡ size → AllByRecursion (IsKept tx.past.sent) kept
    → Follows most (NumberWritten size ∷ es) ty.state → Knows most es tx kept
    → Knows most (NumberWritten size ∷ es) ty kept
knows_new most size es tx ty kept ps more long k f h = record {
  follows = f;
  sizes = ap (λ (l : List ℕ). l ++ size ∷ []) h.sizes
      ∙ (ap (λ (m : ℕ). map length sent ++ m ∷ []) (sym long)
      ∙ (sym (map-append length sent (ps ∷ [])) ∙ ap (map length) (sym more)));
  came = subst (λ (all : List (List Place)). (n i : ℕ) → i < length (slice_index_or all n [])
      → place_has_come kept n i ≡ octet_came es n i) (sym more) (λ n i lt. elim (cases_lt n (length sent)) [
        | inl old ↦ h.came n i
            (subst (λ (qs : List Place). i < length qs) (get_or_append_left sent (ps ∷ []) [] n old) lt)
        | inr new ↦
            let top = top_written es h.follows.history in
            let many = ap (length {A = ℕ}) h.sizes in
            let number = length-map tx.past.sent length in
            none_unsent sent kept n i k new ∙ sym (none_above es n i (omega (arith, new, top, many, number)))
      ]);
}
  where
    sent : List (List Place)
    sent = tx.past.sent

turn_knows : (t : Turn) (most size : ℕ) (es : List FlowEvent) (s : State) (tx ty : SenderWorld Octets)
    (kept : List Came) → ty.past.sent ≡ (octets_by t s size tx.past).sent
    → (t ≡ turns.New → new_count s size ≤ length tx.past.unsent) → AllByRecursion (IsKept tx.past.sent) kept
    → Follows most (with_told (turn_told t s size) es) ty.state → Knows most es tx kept
    → Knows most (with_told (turn_told t s size) es) ty kept
turn_knows turns.New most size es s tx ty kept same there k f h =
    knows_new most (new_count s size) es tx ty kept (take (new_count s size) tx.past.unsent) same
    (let cut = length-take (new_count s size) tx.past.unsent in let le = there refl in omega (arith, cut, le)) k f h
turn_knows turns.Whole most size es s tx ty kept same there k f h =
    knows_still most (turn_told turns.Whole s size) es tx ty kept (record { size = refl; none = λ n i. refl }) same f h
turn_knows turns.Part most size es s tx ty kept same there k f h =
    knows_still most (turn_told turns.Part s size) es tx ty kept (record { size = refl; none = λ n i. refl }) same f h
turn_knows turns.Idle most size es s tx ty kept same there k f h = knows_still most None es tx ty kept tt same f h
turn_knows turns.Stopped most size es s tx ty kept same there k f h = knows_still most None es tx ty kept tt same f h
turn_knows turns.Small most size es s tx ty kept same there k f h = knows_still most None es tx ty kept tt same f h
turn_knows turns.Shut most size es s tx ty kept same there k f h = knows_still most None es tx ty kept tt same f h
turn_knows turns.Held most size es s tx ty kept same there k f h = knows_still most None es tx ty kept tt same f h

-- ---- any call of the sender

quiet_expiry : (b more : Bool) → AllQuiet (if b then Some (PollExpired more) else None)
quiet_expiry true more = record { size = refl; none = λ n i. refl }
quiet_expiry false more = tt

knows_call : (most : ℕ) (es : List FlowEvent) (tx : SenderWorld Octets) (kept : List Came) (c : SenderCall)
    (o : Option FlowEvent) → IsTold tx.state c o → Keeps tx.state tx.past → AllByRecursion (IsKept tx.past.sent) kept
    → Knows most es tx kept → Knows most (with_told o es) (called octets_after tx c) kept
knows_call most es tx kept c o t keeps k h = by c t (calls_follow most es tx.state c o t h.follows)
  where
    still : (c : SenderCall) → AllQuiet o → (octets_after tx.state c tx.past).sent ≡ tx.past.sent
        → Follows most (with_told o es) (called octets_after tx c).state
        → Knows most (with_told o es) (called octets_after tx c) kept
    still c q same f = knows_still most o es tx (called octets_after tx c) kept q same f h

    by : (c : SenderCall) → IsTold tx.state c o → Follows most (with_told o es) (called octets_after tx c).state
        → Knows most (with_told o es) (called octets_after tx c) kept
    by (Offer sdu) t f =
        still (Offer sdu) (subst AllQuiet (sym t.1) (record { size = refl; none = λ n i. refl })) refl f
    by (Take size held more) t f =
        let s = tx.state in
        let ty = called octets_after tx (Take size held more) in
        subst (λ (p : Option FlowEvent). Follows most (with_told p es) (after s (Take size held more))
        → Knows most (with_told p es) (called octets_after tx (Take size held more)) kept) (sym t)
        (λ g. turn_knows (turn s size held more) most size es s tx ty kept refl
        (λ e. new-there s size tx.past.unsent tx.past.sent keeps.faces) k g h) f
    by (Status status) t f =
        still (Status status) (subst AllQuiet (sym t.3) (record { size = refl; none = λ n i. refl })) refl f
    by Tick t f = still Tick (subst AllQuiet (sym t) tt) refl f
    by (Expire more) t f =
        still (Expire more) (subst AllQuiet (sym t) (quiet_expiry (runs tx.state.polls.timer) more)) refl f
    by (Settle more) t f = still (Settle more) (subst AllQuiet (sym t) tt) refl f
    by Confirm t f = still Confirm (subst AllQuiet (sym t) tt) refl f

pub is_told : (f : Flow) (c : SenderCall) → IsSending f c → IsTold (sender f).state c (call_told (sender f).state c)
is_told f (Offer sdu) g = (g, refl)
is_told f (Take size held more) g = refl
is_told f (Status status) g = absurd g
is_told f Tick g = refl
is_told f (Expire more) g = refl
is_told f (Settle more) g = refl
is_told f Confirm g = refl

-- with one call more of the sender
sent_knows : (f : Flow) (c : SenderCall) (o : Option FlowEvent) (es : List FlowEvent) → IsTold (sender f).state c o
    → IsSound f → KnowsOf es f
    → Knows f.sending.max_retx (with_told o es) (sender (record f { sent = f.sent ++ c ∷ [] })) (receiver f).kept
sent_knows f c o es t s h =
    subst (λ (w : SenderWorld Octets). Knows f.sending.max_retx (with_told o es) w (receiver f).kept)
    (sym (sender-more f c)) (knows_call f.sending.max_retx es (sender f) (receiver f).kept c o t s.keeps s.kept h)

-- ---- what happens at the receiver

start_knows : (most : ℕ) (b : Bool) (es : List FlowEvent) (tx : SenderWorld Octets) (kept : List Came)
    → Knows most es tx kept → Knows most (with_start b es) tx kept
start_knows most false es tx kept h = h
start_knows most true es tx kept h =
    knows_still most (Some ReorderStarted) es tx tx kept (record { size = refl; none = λ n i. refl }) refl
    (arrivals_follow most es tx.state ReorderStarted tt tt h.follows) h

expiry_knows : (most : ℕ) (x : Expired) (es : List FlowEvent) (tx : SenderWorld Octets) (kept : List Came)
    → Knows most es tx kept → Knows most (with_expiry x es) tx kept
expiry_knows most NotRunning es tx kept h = h
expiry_knows most (Done again) es tx kept h =
    start_knows most again (ReorderExpired ∷ es) tx kept
    (knows_still most (Some ReorderExpired) es tx tx kept (record { size = refl; none = λ n i. refl }) refl
    (arrivals_follow most es tx.state ReorderExpired tt tt h.follows) h)

heard_knows : (f : Flow) (c : Call) (es : List FlowEvent) → IsReceiving c → KnowsOf es f
    → Knows f.sending.max_retx (with_hearing (receiver f).state c es) (sender f) (receiver (receives f c)).kept
heard_knows f c es g h =
    subst (λ (w : World). Knows f.sending.max_retx (with_hearing (receiver f).state c es) (sender f) w.kept)
    (sym (receiver-more f c)) (by c g)
  where
    by : (c : Call) → IsReceiving c
        → Knows f.sending.max_retx (with_hearing (receiver f).state c es) (sender f) (kept_with (receiver f) c)
    by (Arrive pdu) g = absurd g
    by Up g = h
    by Write g = absurd g
    by ExpireReorder g =
        expiry_knows f.sending.max_retx (reorder_answer (receiver f).state.mark (receiver f).state) es (sender f)
        (receiver f).kept h
    by ExpireProhibit g = h
    by TickReorder g = h
    by TickProhibit g = h

-- a data PDU comes
copy_knows : (f : Flow) (c : Copy) (es : List FlowEvent) → IsSound f → IsTrueCopy (sender f).past.sent c → KnowsOf es f
    → KnowsOf (with_copy (receiver f).state (Some c) es) (data_comes f (Some c))
copy_knows f c es s q h =
    subst (λ (x : Result AcknowledgedPdu RlcRefusal).
    KnowsOf (with_data (receiver f).state c.number x es) (data_read f x)) (sym r.read)
    (subst (λ (w : World). Knows f.sending.max_retx (with_start (turned (receiver f).state r.pdu).started (e ∷ es))
    (sender f) w.kept) (sym (receiver-more f (Arrive r.pdu)))
    (start_knows f.sending.max_retx (turned (receiver f).state r.pdu).started (e ∷ es) (sender f)
    (kept_with (receiver f) (Arrive r.pdu)) (record {
      follows = arrivals_follow f.sending.max_retx es (sender f).state e tt
          (omega (arith, known, number, written), omega (arith, some, cells)) h.follows;
      sizes = append-nil (field_sizes es) ∙ h.sizes;
      came = λ n i lt. keeps_brings f c r.pdu s q r.read r.sn r.part n i lt
          ∙ ap (λ (b : Bool). brings_octet e n i || b) (h.came n i lt);
    })))
  where
    r : IsRead (sender f).past.sent c.number c.octets
    r = reads_copy f c s q

    e : FlowEvent
    e = OctetsArrived c.number (so_of r.pdu.segment) (so_of r.pdu.segment + octets_in r.pdu.elements)

    known : c.number < length (sender f).past.sent
    known = q.known

    number : length (sender f).past.sent ≡ next (sender f).state.window
    number = sent-number f s

    written : next_of es ≡ next (sender f).state.window
    written = next_is f.sending.max_retx es (sender f).state h.follows

    some : 1 ≤ length (piece_of r.pdu).cells
    some = r.part.some

    cells : length (piece_of r.pdu).cells ≡ octets_in r.pdu.elements
    cells = cells_are r.pdu

copies_know : (f : Flow) (es : List FlowEvent) → IsSound f → KnowsOf es f → (cs : List Copy) (k : ℕ)
    → AllByRecursion (IsTrueCopy (sender f).past.sent) cs
    → KnowsOf (with_copy (receiver f).state (slice_get cs k) es) (data_comes f (slice_get cs k))
copies_know f es s h [] k all = h
copies_know f es s h (c ∷ cs) zero all = copy_knows f c es s all.0 h
copies_know f es s h (c ∷ cs) (suc k) all = copies_know f es s h cs k all.1

-- ---- a STATUS comes

report_knows : (f : Flow) (r : Report) (es : List FlowEvent) → IsSound f
    → IsTrueReport (receiver f).kept (length (sender f).past.sent) f.busy r → KnowsOf es f
    → KnowsOf (StatusHeard r.ack (entries_of r) ∷ es) (status_comes f (Some r))
report_knows f r es s q h =
    subst (λ (x : Result AcknowledgedPdu RlcRefusal).
    KnowsOf (StatusHeard r.ack (entries_of r) ∷ es) (status_read f x)) (sym q.reads)
    (sent_knows f (Status (reduced r)) (Some (StatusHeard r.ack (entries_of r))) es
    (r.ack, entries_of r, (heard_late f s r q).heard, refl) s h)

reports_know : (f : Flow) (es : List FlowEvent) → IsSound f → KnowsOf es f → (rs : List Report) (k : ℕ)
    → AllByRecursion (IsTrueReport (receiver f).kept (length (sender f).past.sent) f.busy) rs
    → KnowsOf (with_report (slice_get rs k) es) (status_comes f (slice_get rs k))
reports_know f es s h [] k all = h
reports_know f es s h (r ∷ rs) zero all = report_knows f r es s all.0 h
reports_know f es s h (r ∷ rs) (suc k) all = reports_know f es s h rs k all.1

-- ---- any steps

pub step_knows : (f : Flow) (s : Step) (es : List FlowEvent) → IsGiven f s → IsSound f → KnowsOf es f
    → KnowsOf (with_step f s es) (happens f s)
step_knows f (Sends c) es g s h = sent_knows f c (call_told (sender f).state c) es (is_told f c g) s h
step_knows f (Receives c) es g s h = heard_knows f c es g h
step_knows f (Reports size octets) es g s h =
    subst (λ (w : World). Knows f.sending.max_retx es (sender f) w.kept) (sym (receiver-more f Write)) h
step_knows f (DataComes k) es g s h = copies_know f es s h f.copies k s.copies
step_knows f (StatusComes k) es g s h = reports_know f es s h f.reports k s.reports
step_knows f (DataGoes k) es g s h = h
step_knows f (StatusGoes k) es g s h = h
step_knows f Passes es g s h = h

steps_know : (ss : List Step) (f : Flow) (es : List FlowEvent) → AreGiven f ss → IsSound f → KnowsOf es f
    → KnowsOf (with_steps ss f es) (goes ss f)
steps_know [] f es g s h = h
steps_know (x ∷ ss) f es g s h =
    steps_know ss (happens f x) (with_step f x es) g.1 (happens-sound f x g.0 s) (step_knows f x es g.0 s h)

-- ---- VR(R)

get_size : (sent : List (List Place)) (n : ℕ) → n < length sent
    → slice_get (map length sent) n ≡ Some (length (slice_index_or sent n []))
get_size [] n lt = absurd (omega (arith, lt))
get_size (ps ∷ sent) zero lt = refl
get_size (ps ∷ sent) (suc n) lt = get_size sent n (omega (arith, lt))

-- the last octet of a number brings the length of its field
length_told : (sent : List (List Place)) (ps : List Came) (n i : ℕ) → AllByRecursion (IsKept sent) ps
    → i + 1 ≡ length (slice_index_or sent n []) → place_has_come ps n i ≡ true
    → (size : ℕ) × (told ps n ≡ Some size)
length_told sent [] n i k last e = absurd cc
length_told sent (p ∷ ps) n i k last e = by (told ps n) refl (length_told sent ps n i k.1 last)
  where
    Told : Type 0
    Told = (size : ℕ) × (told ps n ≡ Some size)

    is_last : (p.number == n) ≡ true → nat_lt i (end_of p.piece) ≡ true → (b : Bool) → p.piece.last ≡ b → b ≡ true
    is_last number below true l = refl
    is_last number below false l =
        let on = k.0.part.on l in
        let cells = cells-length (slice_index_or sent p.number []) in
        let same : p.number ≡ n = eqb-true p.number n number in
        let long = ap (λ (m : ℕ). length (slice_index_or sent m [])) same in
        absurd (omega (arith, on, cells, long, last, ltb-true i (end_of p.piece) below))

    now : (b : Bool) → covers p n i ≡ b → told ps n ≡ None → (place_has_come ps n i ≡ true → Told)
        → (size : ℕ) × (size_told_by None p n ≡ Some size)
    now true c none before =
        let number : (p.number == n) ≡ true = grind (arith, nat_tests, c) in
        let below : nat_lt i (end_of p.piece) ≡ true = grind (arith, nat_tests, c) in
        let l : p.piece.last ≡ true = is_last number below p.piece.last refl in (
          end_of p.piece,
          ap (λ (b : Bool). if b && p.piece.last then Some (end_of p.piece) else None) number
              ∙ ap (λ (b : Bool). if b then Some (end_of p.piece) else None) l,
        )
    now false c none before =
        let old = before (sym (ap (λ (b : Bool). b || place_has_come ps n i) c) ∙ e) in
        let no : None ≡ Some old.0 = sym none ∙ old.1 in absurd cc

    by : (o : Option ℕ) → told ps n ≡ o → (place_has_come ps n i ≡ true → Told)
        → (size : ℕ) × (size_told_by o p n ≡ Some size)
    by (Some size) g before = (size, refl)
    by None g before = now (covers p n i) refl g before

-- a number of which each octet came is complete
completes : (f : Flow) (es : List FlowEvent) (n : ℕ) → IsSound f → KnowsOf es f → is_complete_in es n ≡ true
    → IsComplete (receiver f).kept n
completes f es n s h e = elim (cases_lt n (length (sender f).past.sent)) [
  | inr past ↦
      let none : slice_get (field_sizes es) n ≡ None =
      ap (λ (l : List ℕ). slice_get l n) h.sizes
      ∙ slice_get_past (map length (sender f).past.sent) n
      (omega (arith, past, length-map (sender f).past.sent length)) in
      let no : false ≡ true = sym (ap (all_octets (octet_came es n)) none) ∙ e in absurd cc
  | inl lt ↦
      let size : ℕ = length (slice_index_or (sender f).past.sent n []) in
      let is : slice_get (field_sizes es) n ≡ Some size =
      ap (λ (l : List ℕ). slice_get l n) h.sizes ∙ get_size (sender f).past.sent n lt in
      let all : all_below (octet_came es n) size ≡ true = sym (ap (all_octets (octet_came es n)) is) ∙ e in
      let each : (i : ℕ) → i < size → place_has_come (receiver f).kept n i ≡ true =
      λ i below. h.came n i below ∙ below_each (octet_came es n) size i all below in
      let some = (s.aired n lt).some in
      let last = length_told (sender f).past.sent (receiver f).kept n (size - 1) s.kept (omega (arith, some))
      (each (size - 1) (omega (arith, some))) in
      let same = told-length (sender f).past.sent (receiver f).kept n last.0 s.kept last.1 in
      (last.0, last.1, λ i below. each i (omega (arith, below, same)))
]

front_least : (f : Flow) (es : List FlowEvent) → IsSound f → KnowsOf es f
    → IsLeast (is_complete_in es) 0 (receiver f).state.window.front
front_least f es s h = record {
  from = omega arith;
  refused = by (is_complete_in es (receiver f).state.window.front) refl;
  before = λ n from lt.
      let o : IsOrdered f = in-order f s in
      let bound = o.bound in let highest = o.highest in let top' = s.top in
      let known : n < length (sender f).past.sent = omega (arith, lt, bound, highest, top') in
      let is : slice_get (field_sizes es) n ≡ Some (length (slice_index_or (sender f).past.sent n [])) =
      ap (λ (l : List ℕ). slice_get l n) h.sizes ∙ get_size (sender f).past.sent n known in
      ap (all_octets (octet_came es n)) is
      ∙ below_all (octet_came es n) (length (slice_index_or (sender f).past.sent n []))
      (λ i below. sym (h.came n i below) ∙ kept_below f n i s lt below);
}
  where
    by : (b : Bool) → is_complete_in es (receiver f).state.window.front ≡ b → b ≡ false
    by false e = refl
    by true e = absurd ((least f.receiving f.heard).here (completes f es (receiver f).state.window.front s h e))

pub knows_flow : (sending : AmTxConfig) (receiving : AmRxConfig) (steps : List Step)
    → AreGiven (am_rlc_outset sending receiving) steps
    → KnowsOf (with_steps steps (am_rlc_outset sending receiving) []) (goes steps (am_rlc_outset sending receiving))
knows_flow sending receiving steps g =
    steps_know steps (am_rlc_outset sending receiving) [] g (sound sending receiving [] tt)
    (record { follows = outset_follows sending; sizes = refl; came = λ n i lt. refl })

pub flows_are_told : FlowsAreTold
flows_are_told sending receiving steps g =
    let f = am_rlc_outset sending receiving in
    let h = knows_flow sending receiving steps g in
    record {
      follows = h.follows;
      front = front_least (goes steps f) (with_steps steps f []) (sound sending receiving steps g) h;
    }
