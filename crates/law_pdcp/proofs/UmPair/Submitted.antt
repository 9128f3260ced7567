-- What goes up are some of the SDUs that were submitted.
use Rattle.std.proofs.Common.{◌≡◌, ◌≤◌, ℕ, ◌-◌, ◌^◌, Bool, false, List, [], ◌∷◌, ◌++◌, take, Option, Some, None}
use Rattle.std.proofs.Common.{slice_get, append_assoc, inl, inr, subst, refl, ap, sym, ◌∙◌}
use Rattle.std.specs.Prelude.{if◌then◌else◌}
use Rattle.std.proofs.lemmas.List.{append-nil}
use Rattle.eps_sec.specs.declared.Keys.{Keys}
use Rattle.pdcp_pdu.specs.declared.PdcpKind.TheVariants.{Um}
use Rattle.pdcp_pdu.specs.Kinds.{IsKind}
use Rattle.pdcp_sec.specs.Protection.{Protection}
use Rattle.pdcp_tx_store.specs.declared.given.Sent.{Sent}
use Rattle.pdcp_tx_store.specs.Waiting.{Waits}
use Rattle.pdcp_tx.specs.declared.sender.Next.{Next}
use Rattle.pdcp_tx.specs.State.{State, start, submitted, took, took_owed, took_again, took_new, confirmed, reported}
use Rattle.pdcp_tx.specs.State.{reported_from, fms_count, after_late, is_late, is_overdue, restarted}
use Rattle.pdcp_tx.specs.Runs.{Call, Submit, Take, Confirm, Report, Owe, Tick, Late, after}
use Rattle.pdcp_rx.specs.declared.got.Cause.{Cause}
use Rattle.law_words.specs.Lists.{IsSubsequence}
use Rattle.law_pdcp.specs.OneEnd.Lives.{Step, Calls, SetDiscard as SetsDiscard, Restart as Restarts, goes}
use Rattle.law_pdcp.specs.OneEnd.Lives.{run_pdcp_sender, first_sdu, takes_first, first_taken, leaves, left_in}
use Rattle.law_pdcp.specs.OneEnd.Lives.{submitted_in, queue}
use Rattle.law_pdcp.proofs.OneEnd.Lists.{same, without_first, thinner}
use Rattle.law_pdcp.proofs.OneEnd.Queue.{in_order}
use Rattle.law_pdcp.specs.UmPair.Delivery.{IsWhatCameToPdcp, AreSome, SetNone}
use Rattle.law_pdcp.specs.UmPair.Flow.{Flow, Event, Sends as Sending, SetDiscard, HandUp, Raise, Restart, comes}
use Rattle.law_pdcp.specs.UmPair.Flow.{happens, run_um_pdcp, um_pdcp_outset, steps, AreGiven, AreShort}
use Rattle.law_pdcp.proofs.UmPair.Choice.{those_some}
use Rattle.law_pdcp.proofs.UmPair.Laws.{what_came}

-- ---- the sender of a flow by itself

comes_sender : (o : Option Next) (cause : Cause) (place : ℕ) (f : Flow) → (comes o cause place f).sender ≡ f.sender
comes_sender None cause place f = refl
comes_sender (Some x) cause place f = refl

comes_sdus : (o : Option Next) (cause : Cause) (place : ℕ) (f : Flow) → (comes o cause place f).sdus ≡ f.sdus
comes_sdus None cause place f = refl
comes_sdus (Some x) cause place f = refl

sender_is : (es : List Event) (f : Flow) → (run_um_pdcp es f).sender ≡ run_pdcp_sender (steps es) f.sender
sender_is [] f = refl
sender_is (Sending c ∷ es) f = sender_is es (happens f (Sending c))
sender_is (SetDiscard ttis ∷ es) f = sender_is es (happens f (SetDiscard ttis))
sender_is (HandUp cause place ∷ es) f = sender_is es (happens f (HandUp cause place))
    ∙ ap (run_pdcp_sender (steps es)) (comes_sender (slice_get f.stream place) cause place f)
sender_is (Raise ∷ es) f = sender_is es (happens f Raise)
sender_is (Restart keys ∷ es) f = sender_is es (happens f (Restart keys))

sdus_are : (es : List Event) (f : Flow) → (run_um_pdcp es f).sdus ≡ f.sdus ++ first_taken f.sender (steps es)
sdus_are [] f = sym (append-nil f.sdus)
sdus_are (Sending c ∷ es) f = sdus_are es (happens f (Sending c))
    ∙ append_assoc f.sdus (takes_first f.sender (Calls c)) (first_taken (after f.sender c) (steps es))
sdus_are (SetDiscard ttis ∷ es) f = sdus_are es (happens f (SetDiscard ttis))
sdus_are (HandUp cause place ∷ es) f =
    sdus_are es (happens f (HandUp cause place))
    ∙ ap (λ l. l ++ first_taken (happens f (HandUp cause place)).sender (steps es))
    (comes_sdus (slice_get f.stream place) cause place f)
    ∙ ap (λ s. f.sdus ++ first_taken s (steps es)) (comes_sender (slice_get f.stream place) cause place f)
sdus_are (Raise ∷ es) f = sdus_are es (happens f Raise)
sdus_are (Restart keys ∷ es) f = sdus_are es (happens f (Restart keys))

-- ---- what is taken has been submitted

front : (xs ys : List (List ℕ)) → IsSubsequence xs (xs ++ ys)
front [] ys = tt
front (x ∷ xs) ys = inl (refl, front xs ys)

both : (ws xs ys zs : List (List ℕ)) → IsSubsequence ws xs → IsSubsequence ys zs → IsSubsequence (ws ++ ys) (xs ++ zs)
both [] [] ys zs h i = i
both [] (x ∷ xs) ys zs h i = without_first ys x (xs ++ zs) (both [] xs ys zs tt i)
both (w ∷ ws) [] ys zs h i = absurd h
both (w ∷ ws) (x ∷ xs) ys zs (inl h) i = inl (h.0, both ws xs ys zs h.1 i)
both (w ∷ ws) (x ∷ xs) ys zs (inr h) i = inr (both (w ∷ ws) xs ys zs h i)

step_left : (s : State) (x : Step) → IsSubsequence (takes_first s x) (leaves s x)
step_left s (Calls (Submit sdu)) = tt
step_left s (Calls Take) = same (takes_first s (Calls Take))
step_left s (Calls (Confirm place)) = tt
step_left s (Calls (Report fms bitmap)) = tt
step_left s (Calls (Owe report)) = tt
step_left s (Calls Tick) = tt
step_left s (Calls Late) = tt
step_left s (SetsDiscard ttis) = tt
step_left s (Restarts keys) = tt

taken_left : (s : State) (xs : List Step) → IsSubsequence (first_taken s xs) (left_in s xs)
taken_left s [] = tt
taken_left s (x ∷ xs) =
    both (takes_first s x) (leaves s x) (first_taken (goes s x) xs) (left_in (goes s x) xs) (step_left s x)
    (taken_left (goes s x) xs)

all_left : (bits : ℕ) (p : Protection) (first : ℕ) (xs : List Step)
    → left_in (start (Um bits) p first) xs ++ queue (run_pdcp_sender xs (start (Um bits) p first)) ≡ submitted_in xs
unfolding start
all_left bits p first xs = in_order (start (Um bits) p first) xs (λ e. absurd cc)

taken_submitted : (bits : ℕ) (p : Protection) (first : ℕ) (events : List Event)
    → IsSubsequence (run_um_pdcp events (um_pdcp_outset bits p first)).sdus (submitted_in (steps events))
taken_submitted bits p first events =
    let s : State = start (Um bits) p first in
    subst (λ l. IsSubsequence l (submitted_in (steps events))) (sym (sdus_are events (um_pdcp_outset bits p first)))
    (thinner (first_taken s (steps events)) (left_in s (steps events)) (submitted_in (steps events))
    (taken_left s (steps events))
    (subst (IsSubsequence (left_in s (steps events))) (all_left bits p first (steps events))
    (front (left_in s (steps events)) (queue (run_pdcp_sender (steps events) s)))))

pub delivers_some : (bits : ℕ) (p : Protection) (first : ℕ) (events : List Event) → IsKind (Um bits) → first ≤ 2 ^ 32
    → AreGiven (um_pdcp_outset bits p first) events → AreShort (um_pdcp_outset bits p first) events
    → AreSome events (run_um_pdcp events (um_pdcp_outset bits p first))
delivers_some bits p first events is le g s =
    let f : Flow = run_um_pdcp events (um_pdcp_outset bits p first) in
    let h : IsWhatCameToPdcp f = what_came bits p first events is le g s in
    let some : IsSubsequence (f.up ++ f.receiver.ready) f.sdus =
    subst (λ l. IsSubsequence l f.sdus) (sym h.delivered) (those_some f.handed f.sdus h.order) in
    record {
      taken = some;
      submitted =
          thinner (f.up ++ f.receiver.ready) f.sdus (submitted_in (steps events)) some
          (taken_submitted bits p first events);
    }

-- ---- where no discard timer is set

new_timer : (s : State) (ws : List Waits) → (took_new ws s).discard ≡ s.discard
new_timer s [] = refl
new_timer s (w ∷ ws) = refl

again_timer : (s : State) (ss : List Sent) → (took_again ss s).discard ≡ s.discard
again_timer s [] = new_timer s (take (s.bound - s.next) s.waiting)
again_timer s (x ∷ xs) = refl

owed_timer : (s : State) (o : Option (List ℕ)) → (took_owed o s).discard ≡ s.discard
owed_timer s None = again_timer s s.again
owed_timer s (Some report) = refl

report_timer : (s : State) (c : Option ℕ) (bitmap : List ℕ) → (reported_from c s bitmap).discard ≡ s.discard
report_timer s None bitmap = refl
report_timer s (Some c) bitmap = refl

timer_stays : (s : State) (c : Call) → (after s c).discard ≡ s.discard
unfolding submitted took confirmed reported after_late
timer_stays s (Submit sdu) = refl
timer_stays s Take = owed_timer s s.owed
timer_stays s (Confirm place) = refl
timer_stays s (Report fms bitmap) = report_timer s (fms_count s.kind s.base fms) bitmap
timer_stays s (Owe report) = refl
timer_stays s Tick = refl
timer_stays s Late = refl

restart_timer : (s : State) (keys : Keys) → (restarted s keys).discard ≡ s.discard
unfolding restarted
restart_timer s keys = refl

only_taken : (s : State) (c : Call) → s.discard ≡ None → leaves s (Calls c) ≡ takes_first s (Calls c)
only_taken s (Submit sdu) e = refl
only_taken s Take e = refl
only_taken s (Confirm place) e = refl
only_taken s (Report fms bitmap) e = refl
only_taken s (Owe report) e = refl
only_taken s Tick e = refl
only_taken s Late e =
    let no : is_overdue s ≡ false = ap (λ d. is_late d s.clock (slice_get s.waiting 0)) e in
    ap (λ (b : Bool). if b then first_sdu s.waiting else []) no

all_taken : (es : List Event) (s : State) → SetNone es → s.discard ≡ None
    → left_in s (steps es) ≡ first_taken s (steps es)
all_taken [] s n e = refl
all_taken (Sending c ∷ es) s n e =
    ap (λ l. l ++ left_in (after s c) (steps es)) (only_taken s c e)
    ∙ ap (λ l. takes_first s (Calls c) ++ l) (all_taken es (after s c) n (timer_stays s c ∙ e))
all_taken (SetDiscard ttis ∷ es) s n e = absurd n
all_taken (HandUp cause place ∷ es) s n e = all_taken es s n e
all_taken (Raise ∷ es) s n e = all_taken es s n e
all_taken (Restart keys ∷ es) s n e = all_taken es (restarted s keys) n (restart_timer s keys ∙ e)

pub takes_all : (bits : ℕ) (p : Protection) (first : ℕ) (events : List Event) → SetNone events
    → (run_um_pdcp events (um_pdcp_outset bits p first)).sdus
    ++ queue (run_um_pdcp events (um_pdcp_outset bits p first)).sender
    ≡ submitted_in (steps events)
unfolding start
takes_all bits p first events n =
    let s : State = start (Um bits) p first in
    ap (λ l. l ++ queue (run_um_pdcp events (um_pdcp_outset bits p first)).sender)
    (sdus_are events (um_pdcp_outset bits p first) ∙ sym (all_taken events s n refl))
    ∙ ap (λ t. left_in s (steps events) ++ queue t) (sender_is events (um_pdcp_outset bits p first))
    ∙ all_left bits p first (steps events)
