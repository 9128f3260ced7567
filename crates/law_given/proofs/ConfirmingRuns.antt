-- The sizes that a history tells of a flow, and the octets that the sender's PDUs carry.
use Rattle.std.proofs.Common.{◌≡◌, ◌<◌, ◌≤◌, inl, inr, ℕ, zero, suc, ◌+◌, ◌-◌, Bool, true, false, ◌&&◌, ◌||◌, List, []}
use Rattle.std.proofs.Common.{◌∷◌, ◌++◌, map, length, take, if◌then◌else◌, Option, Some, None, nat_lt, refl, ap, sym}
use Rattle.std.proofs.Common.{subst, ◌∙◌, arith, append_assoc, length-append}
use Rattle.std.specs.List.{AllByRecursion}
use Rattle.std.proofs.lemmas.Bool.{cases_lt, le-ltb}
use Rattle.std.proofs.lemmas.List.{append-nil, length-take, map-append}
use Rattle.l2_num.specs.Timers.{runs}
use Rattle.rlc_queue.specs.Waiting.{HaveOctets}
use Rattle.rlc_am_tx_window.specs.Window.{next}
use Rattle.rlc_am_tx.specs.declared.turn.Turn.{Turn}
use Rattle.rlc_am_tx.specs.declared.turn.Turn.TheVariants as turns
use Rattle.rlc_am_tx.specs.Machine.{State, turn}
use Rattle.journal_account.specs.Acked.{is_acked, acks, is_applied}
use Rattle.journal_account.specs.FlowEvents.{FlowEvent, SduTaken, NumberWritten, OctetsResent, OctetsArrived}
use Rattle.journal_account.specs.FlowEvents.{ReorderStarted, ReorderExpired, StatusHeard, PollExpired, field_sizes}
use Rattle.journal_account.specs.FlowEvents.{size_in, next_of, IsPossible, IsHistory}
use Rattle.journal_account.specs.FlowAccount.{account_of}
use Rattle.journal_account.specs.FlowSending.{number_at}
use Rattle.journal_account.specs.Stream.{sdu_sizes, sdu_size_in}
use Rattle.journal_account.proofs.Accounts.{accounts_are_true}
use Rattle.law_rlc.specs.AmSender.Octets.{Place, Octets, nothing_sent, new_count, octets_by, octets_after, HasOctets}
use Rattle.law_rlc.specs.AmSender.Run.{Call, Offer, Take, Status, Tick, Expire, Settle, Confirm, World, after}
use Rattle.law_rlc.specs.AmSender.Run.{run_am_sender, begun}
use Rattle.law_rlc.specs.AmSender.Confirmed.{Confirmations, unconfirmed, confirmations_after}
use Rattle.law_rlc.specs.AmPair.Confirmed.{confirmations}
use Rattle.law_rlc.specs.AmPair.Flow.{Flow, sender}
use Rattle.law_rlc.specs.AmPair.Sdus.{offers_with, offered_in, offered}
use Rattle.law_rlc.proofs.AmPair.Owners.{SameLens, joined_marks, alike, flow-marks}
use Rattle.law_rlc.proofs.AmPair.Confirming.{same-sender}
use Rattle.law_rlc.proofs.AmPair.Runs.{called}
use Rattle.law_rlc.proofs.AmPair.Whole.{have-octets}
use Rattle.law_rlc.proofs.AmSender.Books.{marks}
use Rattle.law_rlc.proofs.AmSender.Confirms.{after-acked}
use Rattle.law_rlc.proofs.AmSender.Least.{Fits, after-fits, fresh-fits}
use Rattle.law_rlc.proofs.AmSender.Writes.{Keeps, after-keeps, run-keeps, start-keeps, new-there}
use Rattle.law_account.specs.History.{IsTold, with_told, turn_told, Follows, IsOfReceiver}
use Rattle.law_account.specs.HistoryRuns.{Deed, Calls, Hears, AreTrue, with_deeds}
use Rattle.law_given.specs.Confirming.{AreSizesTold, SizesBeginTold, SizesGoOnTold, calls_in}
use Rattle.law_given.proofs.ConfirmingSizes.{size_at}

-- ---- events that take and write nothing

pub record IsQuiet (e : FlowEvent) : Type 0 where
  pub sdu : sdu_size_in e ≡ []
  pub field : size_in e ≡ []

pub quiet_sdus : (e : FlowEvent) (es : List FlowEvent) → IsQuiet e → sdu_sizes (e ∷ es) ≡ sdu_sizes es
quiet_sdus e es q = ap (λ (l : List ℕ). sdu_sizes es ++ l) q.sdu ∙ append-nil (sdu_sizes es)

pub quiet_fields : (e : FlowEvent) (es : List FlowEvent) → IsQuiet e → field_sizes (e ∷ es) ≡ field_sizes es
quiet_fields e es q = ap (λ (l : List ℕ). field_sizes es ++ l) q.field ∙ append-nil (field_sizes es)

abbrev pub AllQuiet : Option FlowEvent → Type 0
AllQuiet None = Unit {0}
AllQuiet (Some e) = IsQuiet e

pub told_sdus : (o : Option FlowEvent) (es : List FlowEvent) → AllQuiet o → sdu_sizes (with_told o es) ≡ sdu_sizes es
told_sdus None es q = refl
told_sdus (Some e) es q = quiet_sdus e es q

pub told_fields : (o : Option FlowEvent) (es : List FlowEvent) → AllQuiet o
    → field_sizes (with_told o es) ≡ field_sizes es
told_fields None es q = refl
told_fields (Some e) es q = quiet_fields e es q

pub receiver_quiet : (e : FlowEvent) → IsOfReceiver e → IsQuiet e
receiver_quiet (SduTaken size) h = absurd h
receiver_quiet (NumberWritten size) h = absurd h
receiver_quiet (OctetsResent n from to) h = absurd h
receiver_quiet (OctetsArrived n from to) h = record { sdu = refl; field = refl }
receiver_quiet ReorderStarted h = record { sdu = refl; field = refl }
receiver_quiet ReorderExpired h = record { sdu = refl; field = refl }
receiver_quiet (StatusHeard ack entries) h = absurd h
receiver_quiet (PollExpired more) h = absurd h

pub expiry_quiet : (b more : Bool) → AllQuiet (if b then Some (PollExpired more) else None)
expiry_quiet true more = record { sdu = refl; field = refl }
expiry_quiet false more = tt

-- ---- what was offered and what was sent have the sizes that the history says

record Sized (es : List FlowEvent) (tx : World Octets) (sdus : List (List ℕ)) : Type 0 where
  keeps : Keeps tx.state tx.past
  fields : field_sizes es ≡ map length tx.past.sent
  sizes : sdu_sizes es ≡ map length sdus

abbrev Fields : List FlowEvent → Octets → Type 0
Fields es p = field_sizes es ≡ map length p.sent

turn_fields : (t : Turn) (s : State) (size : ℕ) (es : List FlowEvent) (p : Octets)
    → new_count s size ≤ length p.unsent → Fields es p
    → Fields (with_told (turn_told t s size) es) (octets_by t s size p)
turn_fields turns.New s size es p there h =
    ap (λ (l : List ℕ). l ++ new_count s size ∷ []) h
    ∙ (ap (λ (m : ℕ). map length p.sent ++ m ∷ [])
    (let cut = length-take (new_count s size) p.unsent in
    let all : new_count s size ≡ length (take (new_count s size) p.unsent) = omega (arith, cut, there) in all)
    ∙ sym (map-append length p.sent (take (new_count s size) p.unsent ∷ [])))
turn_fields turns.Whole s size es p there h =
    told_fields (turn_told turns.Whole s size) es (record { sdu = refl; field = refl }) ∙ h
turn_fields turns.Part s size es p there h =
    told_fields (turn_told turns.Part s size) es (record { sdu = refl; field = refl }) ∙ h
turn_fields turns.Idle s size es p there h = h
turn_fields turns.Stopped s size es p there h = h
turn_fields turns.Small s size es p there h = h
turn_fields turns.Shut s size es p there h = h
turn_fields turns.Held s size es p there h = h

turn_sdus : (t : Turn) (s : State) (size : ℕ) (es : List FlowEvent)
    → sdu_sizes (with_told (turn_told t s size) es) ≡ sdu_sizes es
turn_sdus turns.New s size es = append-nil (sdu_sizes es)
turn_sdus turns.Whole s size es = append-nil (sdu_sizes es)
turn_sdus turns.Part s size es = append-nil (sdu_sizes es)
turn_sdus turns.Idle s size es = refl
turn_sdus turns.Stopped s size es = refl
turn_sdus turns.Small s size es = refl
turn_sdus turns.Shut s size es = refl
turn_sdus turns.Held s size es = refl

told_octets : (s : State) (c : Call) (o : Option FlowEvent) → IsTold s c o → HasOctets c
told_octets s (Offer sdu) o t = t.0
told_octets s (Take size held more) o t = tt
told_octets s (Status status) o t = tt
told_octets s Tick o t = tt
told_octets s (Expire more) o t = tt
told_octets s (Settle more) o t = tt
told_octets s Confirm o t = tt

call_fields : (es : List FlowEvent) (tx : World Octets) (c : Call) (o : Option FlowEvent) → IsTold tx.state c o
    → Keeps tx.state tx.past → Fields es tx.past → Fields (with_told o es) (octets_after tx.state c tx.past)
call_fields es tx (Offer sdu) o t k h =
    subst (λ (p : Option FlowEvent). Fields (with_told p es) (octets_after tx.state (Offer sdu) tx.past)) (sym t.1)
    (append-nil (field_sizes es) ∙ h)
call_fields es tx (Take size held more) o t k h =
    subst (λ (p : Option FlowEvent). Fields (with_told p es) (octets_after tx.state (Take size held more) tx.past))
    (sym t)
    (turn_fields (turn tx.state size held more) tx.state size es tx.past
    (new-there tx.state size tx.past.unsent tx.past.sent k.faces) h)
call_fields es tx (Status status) o t k h =
    told_fields o es (subst AllQuiet (sym t.3) (record { sdu = refl; field = refl })) ∙ h
call_fields es tx Tick o t k h = told_fields o es (subst AllQuiet (sym t) tt) ∙ h
call_fields es tx (Expire more) o t k h =
    told_fields o es (subst AllQuiet (sym t) (expiry_quiet (runs tx.state.polls.timer) more)) ∙ h
call_fields es tx (Settle more) o t k h = told_fields o es (subst AllQuiet (sym t) tt) ∙ h
call_fields es tx Confirm o t k h = told_fields o es (subst AllQuiet (sym t) tt) ∙ h

pub call_sdus : (es : List FlowEvent) (s : State) (c : Call) (o : Option FlowEvent) → IsTold s c o
    → sdu_sizes (with_told o es) ≡ sdu_sizes es ++ map length (offers_with c [])
call_sdus es s (Offer sdu) o t = ap (λ (p : Option FlowEvent). sdu_sizes (with_told p es)) t.1
call_sdus es s (Take size held more) o t =
    ap (λ (p : Option FlowEvent). sdu_sizes (with_told p es)) t
    ∙ (turn_sdus (turn s size held more) s size es ∙ sym (append-nil (sdu_sizes es)))
call_sdus es s (Status status) o t =
    told_sdus o es (subst AllQuiet (sym t.3) (record { sdu = refl; field = refl })) ∙ sym (append-nil (sdu_sizes es))
call_sdus es s Tick o t = told_sdus o es (subst AllQuiet (sym t) tt) ∙ sym (append-nil (sdu_sizes es))
call_sdus es s (Expire more) o t =
    told_sdus o es (subst AllQuiet (sym t) (expiry_quiet (runs s.polls.timer) more))
    ∙ sym (append-nil (sdu_sizes es))
call_sdus es s (Settle more) o t = told_sdus o es (subst AllQuiet (sym t) tt) ∙ sym (append-nil (sdu_sizes es))
call_sdus es s Confirm o t = told_sdus o es (subst AllQuiet (sym t) tt) ∙ sym (append-nil (sdu_sizes es))

offers_then : (c : Call) (later : List (List ℕ)) → offers_with c [] ++ later ≡ offers_with c later
offers_then (Offer sdu) later = refl
offers_then (Take size held more) later = refl
offers_then (Status status) later = refl
offers_then Tick later = refl
offers_then (Expire more) later = refl
offers_then (Settle more) later = refl
offers_then Confirm later = refl

deeds_sized : (ds : List Deed) (es : List FlowEvent) (tx : World Octets) (sdus : List (List ℕ))
    → AreTrue ds es tx.state → Sized es tx sdus
    → Sized (with_deeds ds es) (run_am_sender octets_after (calls_in ds) tx) (sdus ++ offered_in (calls_in ds))
deeds_sized [] es tx sdus t h = record {
  keeps = h.keeps;
  fields = h.fields;
  sizes = h.sizes ∙ ap (map length) (sym (append-nil sdus));
}
deeds_sized (Calls c o ∷ ds) es tx sdus t h =
    subst (λ (xs : List (List ℕ)). Sized (with_deeds ds (with_told o es))
    (run_am_sender octets_after (calls_in ds) (called octets_after tx c)) xs)
    (append_assoc sdus (offers_with c []) (offered_in (calls_in ds))
    ∙ ap (λ (xs : List (List ℕ)). sdus ++ xs) (offers_then c (offered_in (calls_in ds))))
    (deeds_sized ds (with_told o es) (called octets_after tx c) (sdus ++ offers_with c []) t.1 (record {
      keeps = after-keeps tx.state c tx.past (told_octets tx.state c o t.0) h.keeps;
      fields = call_fields es tx c o t.0 h.keeps h.fields;
      sizes =
          call_sdus es tx.state c o t.0
          ∙ (ap (λ (l : List ℕ). l ++ map length (offers_with c [])) h.sizes
          ∙ sym (map-append length sdus (offers_with c [])));
    }))
deeds_sized (Hears e ∷ ds) es tx sdus t h =
    let quiet = receiver_quiet e t.0.0 in
    deeds_sized ds (e ∷ es) tx sdus t.1 (record {
      keeps = h.keeps;
      fields = quiet_fields e es quiet ∙ h.fields;
      sizes = quiet_sdus e es quiet ∙ h.sizes;
    })

-- ---- the laws

pub sizes_begin : SizesBeginTold
sizes_begin sending receiving = record { octets = tt; sdus = refl; fields = refl }

octets_in_deeds : (ds : List Deed) (es : List FlowEvent) (s : State) → AreTrue ds es s
    → AllByRecursion HasOctets (calls_in ds)
octets_in_deeds [] es s t = tt
octets_in_deeds (Calls c o ∷ ds) es s t =
    (told_octets s c o t.0, octets_in_deeds ds (with_told o es) (after s c) t.1)
octets_in_deeds (Hears e ∷ ds) es s t = octets_in_deeds ds (e ∷ es) s t.1

octets_both : (xs ys : List Call) → AllByRecursion HasOctets xs → AllByRecursion HasOctets ys
    → AllByRecursion HasOctets (xs ++ ys)
octets_both [] ys h k = k
octets_both (x ∷ xs) ys h k = (h.0, octets_both xs ys h.1 k)

run_both : {G : Type 0} (grow : State → Call → G → G) (xs ys : List Call) (w : World G)
    → run_am_sender grow (xs ++ ys) w ≡ run_am_sender grow ys (run_am_sender grow xs w)
run_both grow [] ys w = refl
run_both grow (x ∷ xs) ys w = run_both grow xs ys (called grow w x)

offers_both : (xs ys : List Call) → offered_in (xs ++ ys) ≡ offered_in xs ++ offered_in ys
offers_both [] ys = refl
offers_both (x ∷ xs) ys =
    ap (offers_with x) (offers_both xs ys)
    ∙ (sym (offers_then x (offered_in xs ++ offered_in ys))
    ∙ (sym (append_assoc (offers_with x []) (offered_in xs) (offered_in ys))
    ∙ ap (λ (l : List (List ℕ)). l ++ offered_in ys) (offers_then x (offered_in xs))))

pub sizes_go_on : SizesGoOnTold
sizes_go_on f es ds t h =
    let sized = deeds_sized ds es (sender f) (offered f) t (record {
      keeps = run-keeps f.sent (begun f.sending nothing_sent) h.octets (start-keeps f.sending);
      fields = h.fields;
      sizes = h.sdus;
    }) in
    record {
      octets = octets_both f.sent (calls_in ds) h.octets (octets_in_deeds ds es (sender f).state t);
      sdus = sized.sizes ∙ ap (map length) (sym (offers_both f.sent (calls_in ds)));
      fields =
          sized.fields
          ∙ ap (λ (w : World Octets). map length w.past.sent)
          (sym (run_both octets_after f.sent (calls_in ds) (begun f.sending nothing_sent)));
    }

-- ---- the octets that the sender took, SDU by SDU, are those of its numbers and those that aren't sent

pub record Beside (most : ℕ) (es : List FlowEvent) (w : World Confirmations) : Type 0 where
  pub follows : Follows most es w.state
  pub fits : Fits w.state.window w.past.acked
  pub some : (k : ℕ) → k < length (sdu_sizes es) → 0 < size_at (sdu_sizes es) k
  pub stream : joined_marks w.past.sent ++ w.past.unsent ≡ marks 0 (sdu_sizes es)
  pub fields : map length w.past.sent ≡ field_sizes es

same_lens : (xs : List (List ℕ)) (ys : List (List Place)) → SameLens xs ys → map length xs ≡ map length ys
same_lens [] [] h = refl
same_lens [] (y ∷ ys) h = absurd h
same_lens (x ∷ xs) [] h = absurd h
same_lens (x ∷ xs) (y ∷ ys) h =
    ap (λ (n : ℕ). n ∷ map length xs) h.0 ∙ ap (λ (l : List ℕ). length y ∷ l) (same_lens xs ys h.1)

some_octet : (sdus : List (List ℕ)) (k : ℕ) → HaveOctets sdus → k < length (map length sdus)
    → 0 < size_at (map length sdus) k
some_octet [] k h lt = absurd (omega (arith, lt))
some_octet (x ∷ sdus) zero h lt = h.0
some_octet (x ∷ sdus) (suc k) h lt = some_octet sdus k h.1 (omega (arith, lt))

run_fits : (cs : List Call) (w : World Confirmations) → Fits w.state.window w.past.acked
    → Fits (run_am_sender confirmations_after cs w).state.window (run_am_sender confirmations_after cs w).past.acked
run_fits [] w h = h
run_fits (c ∷ cs) w h =
    run_fits cs (called confirmations_after w c)
    (subst (λ (acked : ℕ → Bool). Fits (after w.state c).window acked) (sym (after-acked w.state c w.past))
    (after-fits w.state c w.past.acked h))

pub flow_beside : (most : ℕ) (f : Flow) (es : List FlowEvent) → AreSizesTold f es → Follows most es (sender f).state
    → Beside most es (confirmations f)
flow_beside most f es h follows = record {
  follows = subst (λ (s : State). Follows most es s) (sym (same-sender f)) follows;
  fits = run_fits f.sent (begun f.sending unconfirmed) (fresh-fits f.sending);
  some = subst (λ (l : List ℕ). (k : ℕ) → k < length l → 0 < size_at l k) (sym h.sdus)
      (λ k lt. some_octet (offered f) k (have-octets f.sent h.octets) lt);
  stream = flow-marks f ∙ ap (marks 0) (sym h.sdus);
  fields = same_lens (confirmations f).past.sent (sender f).past.sent (alike f).sent ∙ sym h.fields;
}

-- ---- which numbers are acknowledged

-- none from VT(S) on
none_acked : (es : List FlowEvent) (n : ℕ) → IsHistory es → next_of es ≤ n → is_acked es n ≡ false
none_acked [] n h le = refl
none_acked (e ∷ es) n h le =
    let long = length-append (field_sizes es) (size_in e) in
    let low : next_of es ≤ n = omega (arith, le, long) in
    ap (λ (b : Bool). b || acks e (is_acked es) n) (none_acked es n h.1 low) ∙ by e h.0
  where
    by : (e : FlowEvent) → IsPossible e es → acks e (is_acked es) n ≡ false
    by (SduTaken size) may = refl
    by (NumberWritten size) may = refl
    by (OctetsResent m from to) may = refl
    by (OctetsArrived m from to) may = refl
    by ReorderStarted may = refl
    by ReorderExpired may = refl
    by (StatusHeard ack entries) may =
        let low = length-append (field_sizes es) (size_in e) in
        both (is_applied (is_acked es) ack) (nat_lt n ack) _ (le-ltb n ack (omega (arith, may, le, low)))
      where
        both : (a b c : Bool) → b ≡ false → (a && (b && c)) ≡ false
        both true b c z = ap (λ (x : Bool). x && c) z
        both false b c z = refl
    by (PollExpired more) may = refl

pub acked_same : (most : ℕ) (es : List FlowEvent) (w : World Confirmations) → Beside most es w → (n : ℕ)
    → w.past.acked n ≡ is_acked es n
acked_same most es w h n =
    let sending = (accounts_are_true most es h.follows.history).sending in
    let base = h.follows.window.base in
    let long = h.follows.window.length_is in
    let last = sending.next in
    elim (cases_lt n w.state.window.base) [
      | inl low ↦
          h.fits.below n low ∙ sym (sending.base.before n (omega arith) (omega (arith, low, base)))
      | inr up ↦ elim (cases_lt n (next w.state.window)) [
        | inl in' ↦
            let at : w.state.window.base + (n - w.state.window.base) ≡ n = omega (arith, up) in
            let lt : n - w.state.window.base < length w.state.window.slots = omega (arith, up, in') in
            let same : n - w.state.window.base ≡ n - (account_of most es).sending.base = omega (arith, base) in
            ap w.past.acked (sym at)
            ∙ (sym (h.fits.slots (n - w.state.window.base) lt)
            ∙ ((h.follows.window.numbers (n - w.state.window.base) lt).acked
            ∙ (ap (λ (k : ℕ).
            (number_at (account_of most es).sending.numbers k).acked) same
            ∙ sending.acked n (omega (arith, up, base)) (omega (arith, in', base, long, last)))))
        | inr past ↦
            h.fits.above n past
            ∙ sym (none_acked es n h.follows.history (omega (arith, past, base, long, last)))
      ]
    ]
