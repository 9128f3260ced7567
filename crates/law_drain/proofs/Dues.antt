-- What an acknowledged sender owes, over each call.
use Rattle.std.proofs.Common.{◌≡◌, ◌<◌, ◌≤◌, ℕ, ◌+◌, ◌*◌, Bool, true, false}
use Rattle.std.proofs.Common.{if◌then◌else◌, List, [], ◌∷◌, ◌++◌, length, Option, Some, None}
use Rattle.std.proofs.Common.{refl}
use Rattle.std.proofs.Common.{ap, sym, subst, ◌∙◌, arith}
use Rattle.std.specs.List.{AllByRecursion}
use Rattle.std.proofs.lemmas.Grind.{common_steps}
use Rattle.std.proofs.lemmas.Bool.Decides.{nat_tests}
use Rattle.l2_num.specs.Timers.{runs}
use Rattle.l2_types.specs.declared.config.AmTxConfig.{AmTxConfig}
use Rattle.rlc_pdu.specs.declared.pdu.Part.{Part}
use Rattle.rlc_pdu.specs.Pdus.{StatusPdu}
use Rattle.rlc_queue.specs.Waiting.{total}
use Rattle.rlc_queue.specs.NewPdu.{rest}
use Rattle.rlc_queue.proofs.Steps.{octets-push}
use Rattle.rlc_am_tx_window.specs.Sent.{Sent, rested, sent_part}
use Rattle.rlc_am_tx_window.specs.Sent.{all_wait, is_all, first_waiting, next_stretch}
use Rattle.rlc_am_tx_window.specs.Window.{offset_of}
use Rattle.rlc_am_tx.specs.declared.turn.Turn.{Turn}
use Rattle.rlc_am_tx.specs.declared.turn.Turn.TheVariants as turns
use Rattle.rlc_am_tx.specs.Machine.{State, turn, answer, waits, again, first_place, is_wanted, with_poll}
use Rattle.rlc_am_tx.specs.Machine.{sent_whole, sent_segment, sent_new, new_slot, after_turn, after_status}
use Rattle.rlc_am_tx.specs.Machine.{after_expiry, is_ignored, applied, read, ended, limit_of, stops, expired}
use Rattle.rlc_am_tx.specs.Machine.{expiry_limit}
use Rattle.rlc_am_tx.specs.Machine.{with_recalled, with_owed, recalled_place, settles, settled_by}
use Rattle.law_rlc.specs.AmSender.Run.{Call, Offer, Take, Status, Tick, Expire, Settle, Confirm, World, after}
use Rattle.law_rlc.specs.AmSender.Run.{run_am_sender, begun}
use Rattle.law_rlc.specs.AmSender.Namings.{Marks, unmarked, marks_after, marks_by}
use Rattle.law_rlc.specs.AmSender.Namings.{heard_marks, recalled_marks}
use Rattle.law_rlc.specs.AmSender.Limit.{AreFew, IsSilent}
use Rattle.law_rlc.specs.AmSender.Octets.{Octets, HasOctets, octets_after, nothing_sent, IsWritten}
use Rattle.law_rlc.specs.AmSender.Resent.{IsResent}
use Rattle.law_rlc.proofs.AmSender.Marked.{Stands, start-stands, recalled-within, recalled-config}
use Rattle.law_rlc.proofs.AmSender.Marked.{ended-config}
use Rattle.law_rlc.proofs.AmSender.Marked.{is-part}
use Rattle.law_rlc.proofs.AmSender.Limits.{Knows, after-few, run-knows, turn-failed, silent}
use Rattle.law_rlc.proofs.AmSender.Resends.{resends, whole-waits}
use Rattle.law_rlc.proofs.AmSender.Writes.{writes}
use Rattle.law_rlc.proofs.AmPair.Runs.{same-state}
use Rattle.law_drain.specs.Dues.{window_dues, dues, sent_in, sent_by, offered_by}
use Rattle.law_drain.specs.Dues.{DuesFall}
use Rattle.law_drain.proofs.Heard.{heard-dues}
use Rattle.law_drain.proofs.Named.{recalled-open, recalled-dues}
use Rattle.law_drain.proofs.Queues.{rest_total}
use Rattle.law_drain.proofs.Sent.{resent-dues, new_octets, new-dues}

silent-none : (t : Turn) → IsSilent t → sent_in t ≡ 0
silent-none turns.Whole h = absurd h
silent-none turns.Part h = absurd h
silent-none turns.New h = absurd h
silent-none turns.Idle h = refl
silent-none turns.Stopped h = refl
silent-none turns.Small h = refl
silent-none turns.Shut h = refl
silent-none turns.Held h = refl

pub failed-due : (s : State) (m : Marks) → s.failed ≡ true → dues s m ≡ 0
failed-due s m e = rw e refl

pub going-due : (s : State) (m : Marks) → s.failed ≡ false
    → dues s m ≡ (s.config.max_retx + 1) * total s.queue.sdus + window_dues s.config.max_retx s.window m
going-due s m e = rw e refl

polled-due : (b : Bool) (s : State) (m : Marks) → dues (with_poll b s) m ≡ dues s m
polled-due true s m = refl
polled-due false s m = refl

-- by what `take` comes to, of a sender that goes on
turn-due : (t : Turn) (s : State) (size : ℕ) (more : Bool) (m : Marks) → s.failed ≡ false → Stands s m
    → IsResent t s size m → (t ≡ turns.Whole → (waits s ≡ true) × (all_wait (again s) ≡ true))
    → (t ≡ turns.Part → waits s ≡ true) → (t ≡ turns.New → 0 < length (new_slot s size).field)
    → dues (after_turn t s size more) (marks_by t s size m) + sent_in t ≤ dues s m
unfolding after_turn
turn-due turns.Whole s size more m go h again' whole' part new =
    let w = whole' refl in
    let at_in : first_place s < length s.window.slots = grind (arith, nat_tests, w.0) in
    let some = wait-some (again s) w.1 in
    let less = resent-dues s.window m s.config.max_retx (first_place s) 0 0 (length (again s).field) (rested (again s))
    at_in refl refl some (omega arith) some (again'.waits 0 some) in
    omega (
      arith,
      polled-due (is_wanted (sent_whole s) more) (sent_whole s) (marks_by turns.Whole s size m),
      going-due (sent_whole s) (marks_by turns.Whole s size m) go,
      going-due s m go,
      less,
    )
  where
    wait-some : (x : Sent) → all_wait x ≡ true → 0 < length x.field
    wait-some x e = by (first_waiting x) e
      where
        by : (o : Option Part) → is_all o 0 (length x.field) ≡ true → 0 < length x.field
        by None e = let no' : false ≡ true = e in cc
        by (Some p) e = grind (arith, nat_tests, common_steps)
turn-due turns.Part s size more m go h again' whole' part new =
    let at_in : first_place s < length s.window.slots = grind (arith, nat_tests, part refl) in
    let t = next_stretch (again s) size in
    let from_in : t.from < length (again s).field = omega (arith, again'.some, again'.within) in
    let less = resent-dues s.window m s.config.max_retx (first_place s) t.from t.from t.to
    (sent_part (again s) t.from t.to) at_in refl refl from_in (omega arith) again'.some
    (again'.waits t.from (omega arith) again'.some) in
    omega (
      arith,
      polled-due (is_wanted (sent_segment s size) more) (sent_segment s size) (marks_by turns.Part s size m),
      going-due (sent_segment s size) (marks_by turns.Part s size m) go,
      going-due s m go,
      less,
    )
turn-due turns.New s size more m go h again' whole' part new =
    let some = new refl in
    let left = rest_total 2 size 0 0 s.queue.sdus in
    let all = new-dues s.window m s.config.max_retx (new_slot s size) refl h in
    let octets = new_octets s.config.max_retx (total (rest 2 size 0 0 s.queue.sdus)) (length (new_slot s size).field) in
    let queue : (s.config.max_retx + 1) * total s.queue.sdus
    ≡ (s.config.max_retx + 1) * (total (rest 2 size 0 0 s.queue.sdus) + length (new_slot s size).field) =
    ap (λ (n : ℕ). (s.config.max_retx + 1) * n) (sym left) in
    omega (
      arith,
      polled-due (is_wanted (sent_new s size) more) (sent_new s size) m,
      going-due (sent_new s size) m go,
      going-due s m go,
      all,
      octets,
      queue,
      some,
    )
turn-due turns.Idle s size more m go h again' whole' part new = omega arith
turn-due turns.Stopped s size more m go h again' whole' part new = omega arith
turn-due turns.Small s size more m go h again' whole' part new = omega arith
turn-due turns.Shut s size more m go h again' whole' part new = omega arith
turn-due turns.Held s size more m go h again' whole' part new = omega arith

pub ended-due : (l : Option ℕ) (b : Bool) (s : State) (m : Marks) → (ended l b s).failed ≡ false
    → (dues (ended l b s) m ≡ dues s m) × (s.failed ≡ false)
ended-due (Some n) b s m e = let no' : true ≡ false = e in cc
ended-due None true s m e = (refl, e)
ended-due None false s m e = (refl, e)

recalled-due-of : (o : Option ℕ) (s : State) (m : Marks) → (with_recalled o s).failed ≡ false
    → (s.failed ≡ false) × (dues (with_recalled o s) m
    ≡ (s.config.max_retx + 1) * total s.queue.sdus + window_dues s.config.max_retx (with_recalled o s).window m)
recalled-due-of None s m e = (e, rw e refl)
recalled-due-of (Some at) s m e = (e, rw e refl)

status-due : (b : Bool) (s : State) (status : StatusPdu) (m : Marks) → Stands s m
    → (if b then s else applied s (offset_of s.window.base status.ack) status.nacks).failed ≡ false
    → AreFew (if b then m else heard_marks s.window (offset_of s.window.base status.ack) status.nacks m).namings
    s.config.max_retx
    → dues (if b then s else applied s (offset_of s.window.base status.ack) status.nacks)
    (if b then m else heard_marks s.window (offset_of s.window.base status.ack) status.nacks m) ≤ dues s m
status-due true s status m h go few = omega arith
status-due false s status m h go few =
    let below = offset_of s.window.base status.ack in
    let heard = heard_marks s.window below status.nacks m in
    let end = ended-due (limit_of s below status.nacks) (stops s below status.nacks) (read s below status.nacks)
    heard go in
    let all = heard-dues s.window below s.config.max_retx status.nacks m h few in
    omega (arith, end.0, going-due (read s below status.nacks) heard end.1, going-due s m end.1, all)

expiry-due : (b : Bool) (s : State) (more : Bool) (m : Marks)
    → (if b then ended (expiry_limit s more) false (expired s more) else s).failed ≡ false
    → AreFew (if b then recalled_marks (recalled_place s more) s.window.base m else m).namings s.config.max_retx
    → dues (if b then ended (expiry_limit s more) false (expired s more) else s)
    (if b then recalled_marks (recalled_place s more) s.window.base m else m) ≤ dues s m
expiry-due false s more m go few = omega arith
expiry-due true s more m go few =
    let place = recalled_place s more in
    let named = recalled_marks place s.window.base m in
    let end = ended-due (expiry_limit s more) false (expired s more) named go in
    let here = recalled-due-of place (with_owed s) named end.1 in
    let all = recalled-dues place (with_owed s) m (recalled-within s more) (recalled-open s more) few in
    omega (arith, end.0, here.1, going-due s m here.0, all)

settled-due : (b : Bool) (s : State) (m : Marks) → dues (settled_by b s) m ≡ dues s m
settled-due true s m = refl
settled-due false s m = refl

spread : (most left size : ℕ) → (most + 1) * (left + size) ≡ (most + 1) * left + (most + 1) * size
spread most left size = omega arith

offered-due : (f : Bool) (s : State) (sdu : List ℕ) (m : Marks) → s.failed ≡ f
    → dues (after s (Offer sdu)) m ≤ dues s m + (s.config.max_retx + 1) * length sdu
offered-due true s sdu m e = rw e (omega arith)
offered-due false s sdu m e =
    let pushed : (s.config.max_retx + 1) * total (s.queue.sdus ++ sdu ∷ [])
    ≡ (s.config.max_retx + 1) * (total s.queue.sdus + length sdu) =
    ap (λ (n : ℕ). (s.config.max_retx + 1) * n) (octets-push s.queue.sdus sdu) in
    rw e (omega (arith, pushed, spread s.config.max_retx (total s.queue.sdus) (length sdu)))

take-due : (f : Bool) (s : State) (size : ℕ) (held : Option ℕ) (more : Bool) (m : Marks) → s.failed ≡ f → Stands s m
    → IsResent (turn s size held more) s size m
    → (turn s size held more ≡ turns.New → 0 < length (new_slot s size).field)
    → dues (after_turn (turn s size held more) s size more) (marks_by (turn s size held more) s size m)
    + sent_in (turn s size held more) ≤ dues s m
take-due true s size held more m e h again' new =
    let none = silent-none (turn s size held more) (silent s size held more e) in
    let over = failed-due (after_turn (turn s size held more) s size more) (marks_by (turn s size held more) s size m)
    (turn-failed (turn s size held more) s size more ∙ e) in
    omega (arith, none, over)
take-due false s size held more m e h again' new =
    turn-due (turn s size held more) s size more m e h again' (whole-waits s size held more)
    (λ t. (is-part s size held more t).0) new

-- a sender that isn't failed afterwards
going-falls : (s : State) (c : Call) (m : Marks) → Knows s m → (after s c).failed ≡ false
    → ((size : ℕ) (held : Option ℕ) (more : Bool) → IsResent (turn s size held more) s size m)
    → ((size : ℕ) (held : Option ℕ) (more : Bool) → turn s size held more ≡ turns.New
    → 0 < length (new_slot s size).field)
    → dues (after s c) (marks_after s c m) + sent_by s c ≤ dues s m + offered_by s c
unfolding after_status after_expiry
going-falls s (Offer sdu) m k go again' new = omega (arith, offered-due s.failed s sdu m refl)
going-falls s (Take size held more) m k go again' new =
    omega (arith, take-due s.failed s size held more m refl k.stands (again' size held more) (new size held more))
going-falls s (Status status) m k go again' new =
    omega (
      arith,
      status-due (is_ignored s status.ack) s status m k.stands go
          (subst (λ (c : AmTxConfig). AreFew (marks_after s (Status status) m).namings c.max_retx)
          (config (is_ignored s status.ack))
          (after-few s (Status status) m k go)),
    )
  where
    config : (b : Bool)
        → (if b then s else applied s (offset_of s.window.base status.ack) status.nacks).config ≡ s.config
    config true = refl
    config false = ended-config (limit_of s (offset_of s.window.base status.ack) status.nacks)
        (stops s (offset_of s.window.base status.ack) status.nacks)
        (read s (offset_of s.window.base status.ack) status.nacks)
going-falls s Tick m k go again' new = omega arith
going-falls s (Expire more) m k go again' new =
    omega (
      arith,
      expiry-due (runs s.polls.timer) s more m go
          (subst (λ (c : AmTxConfig). AreFew (marks_after s (Expire more) m).namings c.max_retx)
          (config (runs s.polls.timer))
          (after-few s (Expire more) m k go)),
    )
  where
    config : (b : Bool) → (if b then ended (expiry_limit s more) false (expired s more) else s).config ≡ s.config
    config true = ended-config (expiry_limit s more) false (expired s more)
        ∙ recalled-config (recalled_place s more) (with_owed s)
    config false = refl
going-falls s (Settle more) m k go again' new = omega (arith, settled-due (settles s more) s m)
going-falls s Confirm m k go again' new = omega arith

-- one that is owes nothing, and sends nothing but what it sent before
failed-falls : (s : State) (c : Call) (m : Marks) → (after s c).failed ≡ true
    → dues (after s c) (marks_after s c m) + sent_by s c ≤ dues s m + offered_by s c
failed-falls s (Offer sdu) m e = let over = failed-due (after s (Offer sdu)) m e in omega (arith, over)
failed-falls s (Take size held more) m e =
    let over = failed-due (after s (Take size held more)) (marks_after s (Take size held more) m) e in
    let was = sym (turn-failed (turn s size held more) s size more) ∙ e in
    omega (arith, over, silent-none (turn s size held more) (silent s size held more was))
failed-falls s (Status status) m e =
    let over = failed-due (after s (Status status)) (marks_after s (Status status) m) e in omega (arith, over)
failed-falls s Tick m e = let over = failed-due (after s Tick) m e in omega (arith, over)
failed-falls s (Expire more) m e =
    let over = failed-due (after s (Expire more)) (marks_after s (Expire more) m) e in omega (arith, over)
failed-falls s (Settle more) m e = let over = failed-due (after s (Settle more)) m e in omega (arith, over)
failed-falls s Confirm m e = let over = failed-due (after s Confirm) m e in omega (arith, over)

-- a new PDU has an octet
new-some : (config : AmTxConfig) (calls : List Call) → AllByRecursion HasOctets calls
    → (size : ℕ) (held : Option ℕ) (more : Bool)
    → turn (run_am_sender marks_after calls (begun config unmarked)).state size held more ≡ turns.New
    → 0 < length (new_slot (run_am_sender marks_after calls (begun config unmarked)).state size).field
new-some config calls some size held more e =
    let same = same-state octets_after marks_after calls (begun config nothing_sent) (begun config unmarked) refl in
    subst (λ (s : State). 0 < length (new_slot s size).field) same
    (by (turn (run_am_sender octets_after calls (begun config nothing_sent)).state size held more)
    (ap (λ (s : State). turn s size held more) same ∙ e) (writes config calls size held more some))
  where
    s : State
    s = (run_am_sender octets_after calls (begun config nothing_sent)).state

    o : Octets
    o = (run_am_sender octets_after calls (begun config nothing_sent)).past

    by : (t : Turn) → t ≡ turns.New → IsWritten t s size o (answer s size held more)
        → 0 < length (new_slot s size).field
    by t n h = (subst (λ (u : Turn). IsWritten u s size o (answer s size held more)) n h).some

pub dues_fall : DuesFall
dues_fall config calls call some one = by (after w.state call).failed refl
  where
    w : World Marks
    w = run_am_sender marks_after calls (begun config unmarked)

    knows : Knows w.state w.past
    knows = run-knows calls (begun config unmarked) (record { stands = start-stands config; few = λ e n. omega arith })

    by : (f : Bool) → (after w.state call).failed ≡ f
        → dues (after w.state call) (marks_after w.state call w.past) + sent_by w.state call
        ≤ dues w.state w.past + offered_by w.state call
    by true e = failed-falls w.state call w.past e
    by false e = going-falls w.state call w.past knows e (λ size held more. resends config calls size held more)
        (new-some config calls some)
