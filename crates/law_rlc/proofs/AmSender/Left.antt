-- Where nothing is left, each SDU that was offered is confirmed.
use Rattle.std.proofs.Common.{◌≡◌, ◌<◌, ℕ, suc, zero, ◌+◌, ◌-◌, Bool, true, false, ◌&&◌, ◌==◌, if◌then◌else◌, List, []}
use Rattle.std.proofs.Common.{◌∷◌, ◌++◌, length, drop, slice_get, refl, ap, sym, subst, ◌∙◌, arith, nat_lt}
use Rattle.std.specs.List.{AllByRecursion}
use Rattle.std.proofs.lemmas.Bool.Decides.{nat_tests}
use Rattle.l2_num.specs.Timers.{runs}
use Rattle.rlc_pdu.specs.Pdus.{StatusPdu}
use Rattle.rlc_am_tx_window.specs.Ledger.{Owed, Ledger, paid_at, credited, credited_all, leading_paid, is_last_of}
use Rattle.rlc_am_tx_window.specs.Ledger.{left_in}
use Rattle.rlc_am_tx_window.specs.Sent.{Sent, gets_acked}
use Rattle.rlc_am_tx_window.specs.Window.{offset_of, named_all, credited_one, credited_from}
use Rattle.rlc_am_tx.specs.Machine.{State, turn, after_status, after_expiry, is_ignored, limit_of, stops, read, applied}
use Rattle.rlc_am_tx.specs.Machine.{settles}
use Rattle.law_rlc.specs.AmSender.Run.{Call, Offer, Take, Status, Tick, Expire, Settle, Confirm, World, after}
use Rattle.law_rlc.specs.AmSender.Run.{run_am_sender}
use Rattle.law_rlc.specs.AmSender.Run.{begun}
use Rattle.law_rlc.specs.AmSender.Confirmed.{Confirmations, unconfirmed, confirmations_after, times}
use Rattle.law_rlc.specs.AmSender.Left.{AllAreConfirmed, LeavesOnlyUnconfirmed}
use Rattle.law_rlc.specs.AmSender.Octets.{HasOctets}
use Rattle.law_rlc.proofs.AmSender.Credits.{octets_at, one, one-same, owed_in, paid-zero, paid-suc, paid-none}
use Rattle.law_rlc.proofs.AmSender.Books.{turn-accounts, ended-accounts, expiry-accounts}
use Rattle.law_rlc.proofs.AmSender.Owed.{Books, books_after}
use Rattle.law_rlc.proofs.AmSender.Books.{settled-accounts}
use Rattle.law_rlc.proofs.AmSender.Confirms.{Keeps, after-keeps, begun-keeps}

-- ---- entries of SDUs that have octets

abbrev HaveSize : List Owed → Type 0
HaveSize os = AllByRecursion (λ (o : Owed). 0 < o.size) os

size-push : (os : List Owed) (o : Owed) → HaveSize os → 0 < o.size → HaveSize (os ++ o ∷ [])
size-push [] o h some = (some, tt)
size-push (x ∷ xs) o h some = (h.0, size-push xs o h.1 some)

size-drop : (n : ℕ) (os : List Owed) → HaveSize os → HaveSize (drop n os)
size-drop zero os h = h
size-drop (suc n) [] h = tt
size-drop (suc n) (o ∷ os) h = size-drop n os h.1

size-paid : (os : List Owed) (at n : ℕ) → HaveSize os → HaveSize (paid_at (slice_get os at) os at n)
size-paid [] at n h = subst HaveSize (sym (paid-none at n)) tt
size-paid (o ∷ os) zero n h = subst HaveSize (sym (paid-zero o os n)) (h.0, h.1)
size-paid (o ∷ os) (suc at) n h = subst HaveSize (sym (paid-suc o os at n)) (h.0, size-paid os at n h.1)

size-credited : (l : Ledger) (place n : ℕ) → HaveSize l.entries → HaveSize (credited l place n).entries
size-credited l place n h = by (nat_lt place l.oldest)
  where
    by : (b : Bool) → HaveSize (if b then l else record {
      oldest = l.oldest;
      entries = paid_at (slice_get l.entries (place - l.oldest)) l.entries (place - l.oldest) n;
      news = if is_last_of (slice_get l.entries (place - l.oldest)) n then l.news ++ place ∷ [] else l.news;
    }).entries
    by true = h
    by false = size-paid l.entries (place - l.oldest) n h

size-all : (l : Ledger) (place : ℕ) (ns : List ℕ) → HaveSize l.entries → HaveSize (credited_all l place ns).entries
size-all l place [] h = h
size-all l place (n ∷ ns) h = size-all (credited l place n) (place + 1) ns (size-credited l place n h)

size-one : (b : Bool) (l : Ledger) (x : Sent) → HaveSize l.entries
    → HaveSize (if b then credited_one l x else l).entries
size-one false l x h = h
size-one true l x h = by (gets_acked x)
  where
    by : (g : Bool) → HaveSize (if g then credited_all l x.place x.lens else l).entries
    by true = size-all l x.place x.lens h
    by false = h

size-from : (l : Ledger) (at below : ℕ) (slots : List Sent) → HaveSize l.entries
    → HaveSize (credited_from l at below slots).entries
size-from l at below [] h = h
size-from l at below (x ∷ xs) h =
    size-from (if nat_lt at below then credited_one l x else l) (at + 1) below xs (size-one (nat_lt at below) l x h)

-- ---- along a run

abbrev Sized : State → Type 0
Sized s = HaveSize s.accounts.entries

sized-as : (s t : State) → t.accounts ≡ s.accounts → Sized s → Sized t
sized-as s t e h = subst (λ (l : Ledger). HaveSize l.entries) (sym e) h

status-sized : (b : Bool) (s : State) (status : StatusPdu) → Sized s
    → Sized (if b then s else applied s (offset_of s.window.base status.ack) status.nacks)
status-sized true s status h = h
status-sized false s status h =
    let below = offset_of s.window.base status.ack in
    let credits : Ledger = credited_from s.accounts 0 below (named_all s.window.base s.window.slots status.nacks) in
    sized-as (read s below status.nacks) (applied s below status.nacks)
    (ended-accounts (limit_of s below status.nacks) (stops s below status.nacks) (read s below status.nacks))
    (size-drop (leading_paid credits.entries) credits.entries
    (size-from s.accounts 0 below (named_all s.window.base s.window.slots status.nacks) h))

after-sized : (s : State) (c : Call) → HasOctets c → Sized s → Sized (after s c)
unfolding after_status after_expiry
after-sized s (Offer sdu) some h = size-push s.accounts.entries (record { size = length sdu; owed = length sdu }) h some
after-sized s (Take size held more) some h =
    sized-as s (after s (Take size held more)) (turn-accounts (turn s size held more) s size more) h
after-sized s (Status status) some h = status-sized (is_ignored s status.ack) s status h
after-sized s Tick some h = h
after-sized s (Expire more) some h = sized-as s (after s (Expire more)) (expiry-accounts (runs s.polls.timer) s more) h
after-sized s (Settle more) some h = sized-as s (after s (Settle more)) (settled-accounts (settles s more) s) h
after-sized s Confirm some h = h

-- ---- the sizes that were offered

abbrev HaveSome : List ℕ → Type 0
HaveSome ns = AllByRecursion (λ (n : ℕ). 0 < n) ns

some-push : (ns : List ℕ) (n : ℕ) → HaveSome ns → 0 < n → HaveSome (ns ++ n ∷ [])
some-push [] n h some = (some, tt)
some-push (x ∷ xs) n h some = (h.0, some-push xs n h.1 some)

after-some : (s : State) (c : Call) (b : Books) → HasOctets c → HaveSome b.sizes → HaveSome (books_after s c b).sizes
after-some s (Offer sdu) b some h = some-push b.sizes (length sdu) h some
after-some s (Take size held more) b some h = h
after-some s (Status status) b some h = h
after-some s Tick b some h = h
after-some s (Expire more) b some h = h
after-some s (Settle more) b some h = h
after-some s Confirm b some h = h

octets-some : (from : ℕ) (ns : List ℕ) (k p : ℕ) → HaveSome ns → k < length ns → p ≡ from + k → 0 < octets_at from ns p
octets-some from [] k p h lt e = absurd (omega (arith, lt))
octets-some from (n ∷ ns) zero p h lt e = let some = h.0 in let o = one-same from n p (omega (arith, e)) in
    omega (arith, some, o)
octets-some from (n ∷ ns) (suc k) p h lt e = let ih =
    octets-some (from + 1) ns k p h.1 (omega (arith, lt)) (omega (arith, e)) in omega (arith, ih)

-- ---- where nothing is left nothing is owed

none-owed : (from : ℕ) (os : List Owed) (p : ℕ) → HaveSize os → left_in os ≡ 0 → owed_in from os p ≡ 0
none-owed from [] p h none = refl
none-owed from (o ∷ os) p h none =
    let some = h.0 in
    let here : o.owed ≡ 0 = paid o.owed o.size some none in
    let ih = none-owed (from + 1) os p h.1 (omega (arith, none)) in
    let z : one from o.owed p ≡ 0 = nothing (from == p) o.owed here in
    omega (arith, ih, z)
  where
    paid : (k n : ℕ) → 0 < n → (if k == 0 then 0 else n) + left_in os ≡ 0 → k ≡ 0
    paid k n some e = grind (arith, nat_tests)

    nothing : (b : Bool) (k : ℕ) → k ≡ 0 → (if b then k else 0) ≡ 0
    nothing true k e = e
    nothing false k e = refl

all-are : (w : World Confirmations) (b : Books) → Keeps w.state w.past b → Sized w.state → HaveSome b.sizes
    → AllAreConfirmed w
all-are w b k h some none p lt =
    let c = ((k.follows).tells p).count in
    let m = k.owns.offered in
    let z = octets-some 0 b.sizes p p some (omega (arith, lt, m)) (omega arith) in
    let o = none-owed w.state.accounts.oldest w.state.accounts.entries p h none in
    let given = ap (λ (xs : List ℕ). times p (xs ++ w.state.accounts.news)) (sym k.given) in
    given ∙ once (times p (b.given ++ w.state.accounts.news)) (octets_at 0 b.sizes p)
    (owed_in w.state.accounts.oldest w.state.accounts.entries p) c z o
  where
    once : (t z k : ℕ) → t ≡ (if nat_lt 0 z && (k == 0) then 1 else 0) → 0 < z → k ≡ 0 → t ≡ 1
    once t z k e some none = grind (arith, nat_tests)

run-all : (calls : List Call) (w : World Confirmations) (b : Books) → AllByRecursion HasOctets calls
    → Keeps w.state w.past b → Sized w.state → HaveSome b.sizes
    → AllAreConfirmed (run_am_sender confirmations_after calls w)
run-all [] w b g k h some = all-are w b k h some
run-all (c ∷ cs) w b g k h some =
    run-all cs (record { state = after w.state c; past = confirmations_after w.state c w.past })
    (books_after w.state c b) g.1
    (after-keeps w.state c w.past b k) (after-sized w.state c g.0 h) (after-some w.state c b g.0 some)

pub leaves-only-unconfirmed : LeavesOnlyUnconfirmed
leaves-only-unconfirmed config calls g =
    run-all calls (begun config unconfirmed) (record { sizes = []; given = [] }) g (begun-keeps config) tt tt
