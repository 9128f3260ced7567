-- What a sender may still send, by the octets that aren't wholly acknowledged.
use Rattle.std.proofs.Common.{◌≡◌, ◌<◌, ◌≤◌, inl, inr, ℕ, zero, suc, ◌+◌, ◌-◌, ◌*◌, ◌==◌, Bool, true, false}
use Rattle.std.proofs.Common.{if◌then◌else◌, List, [], ◌∷◌, ◌++◌, length, map, drop, slice_get, Option}
use Rattle.std.proofs.Common.{Some, None, refl}
use Rattle.std.proofs.Common.{ap, sym, subst, ◌∙◌, arith, nat_lt}
use Rattle.std.proofs.Math.Nat.{mul-le-mul_left}
use Rattle.std.proofs.lemmas.List.Sums.{sum_by-cons}
use Rattle.std.proofs.lemmas.Bool.Decides.{nat_tests}
use Rattle.std.proofs.lemmas.Bool.{cases_eq}
use Rattle.std.specs.List.{sum}
use Rattle.rlc_queue.specs.Waiting.{total}
use Rattle.rlc_pdu.specs.Pdus.{StatusPdu}
use Rattle.l2_num.specs.Timers.{runs}
use Rattle.rlc_am_tx_window.specs.Ledger.{Owed, Ledger, left_in, paid_at, is_last_of, credited}
use Rattle.rlc_am_tx_window.specs.Ledger.{credited_all, leading_paid}
use Rattle.rlc_am_tx_window.specs.Sent.{Sent, gets_acked}
use Rattle.rlc_am_tx_window.specs.Window.{TxWindow, slot_at, offset_of, credited_one, credited_from}
use Rattle.rlc_am_tx.specs.Machine.{State, turn, after_turn, after_status, after_expiry, is_ignored, ended, read}
use Rattle.rlc_am_tx.specs.Machine.{applied}
use Rattle.rlc_am_tx.specs.Machine.{limit_of, stops, named_window, with_recalled, with_owed, expired, recalled_place}
use Rattle.rlc_am_tx.specs.Machine.{expiry_limit, settles, settled_by}
use Rattle.law_rlc.specs.AmSender.Run.{Call, Offer, Take, Status, Tick, Expire, Settle, Confirm, World, after}
use Rattle.law_rlc.specs.AmSender.Run.{run_am_sender, begun}
use Rattle.law_rlc.specs.AmSender.Namings.{Marks, unmarked, marks_after}
use Rattle.law_rlc.proofs.AmSender.Books.{Follows, turn-accounts}
use Rattle.law_rlc.proofs.AmSender.Confirms.{begun-keeps}
use Rattle.law_rlc.proofs.AmSender.Credits.{octets_at, one, one-same, one-other, owed_in}
use Rattle.law_rlc.proofs.AmSender.Heard.{Holds}
use Rattle.law_rlc.proofs.AmSender.Marked.{stands}
use Rattle.law_rlc.proofs.AmSender.Owed.{Books, unacked_in}
use Rattle.law_drain.specs.Budget.{DuesAreLeft}
use Rattle.law_drain.specs.Dues.{sum_below, waiting_of, pdu_dues, window_dues}
use Rattle.law_drain.proofs.Done.{run-follows}
use Rattle.law_drain.proofs.Stilled.{Stilled, stilled}
use Rattle.law_drain.proofs.Sums.{waiting_of_le, waiting_of_none}

-- ---- sums over places

both-sums : (n : ℕ) (f g : ℕ → ℕ) → sum_below n (λ k. f k + g k) ≡ sum_below n f + sum_below n g
both-sums zero f g = refl
both-sums (suc n) f g = omega (arith, both-sums n f g)

same-sums : (n : ℕ) (f g : ℕ → ℕ) → ((k : ℕ) → f k ≡ g k) → sum_below n f ≡ sum_below n g
same-sums zero f g h = refl
same-sums (suc n) f g h = omega (arith, h n, same-sums n f g h)

no-sum : (n : ℕ) (f : ℕ → ℕ) → ((k : ℕ) → k < n → f k ≡ 0) → sum_below n f ≡ 0
no-sum zero f h = refl
no-sum (suc n) f h = omega (arith, h n (omega arith), no-sum n f (λ k lt. h k (omega (arith, lt))))

one-sum : (n from x : ℕ) → from < n → sum_below n (λ p. one from x p) ≡ x
one-sum zero from x lt = absurd (omega (arith, lt))
one-sum (suc n) from x lt = elim (cases_eq n from) [
  | inl here ↦ omega (
    arith,
    one-same from x n (sym here),
    no-sum n (λ p. one from x p) (λ k k_in. one-other from x k (λ e. omega (arith, e, here, k_in))),
  )
  | inr away ↦ omega (
    arith,
    one-other from x n (λ e. away (sym e)),
    one-sum n from x (omega (arith, lt, away)),
  )
]

-- the first apart
first-apart : (n : ℕ) (f : ℕ → ℕ) → sum_below (suc n) f ≡ f 0 + sum_below n (λ k. f (suc k))
first-apart zero f = omega arith
first-apart (suc n) f = omega (arith, first-apart n f)

-- ---- the octets of all places together

octets-sum : (n from : ℕ) (ns : List ℕ) → from + length ns ≤ n → sum_below n (λ p. octets_at from ns p) ≡ sum ns
octets-sum n from [] le = no-sum n (λ p. 0) (λ k lt. refl)
octets-sum n from (x ∷ xs) le = omega (
  arith,
  sum_by-cons (λ (k : ℕ). k) x xs,
  both-sums n (λ p. one from x p) (λ p. octets_at (from + 1) xs p),
  one-sum n from x (omega (arith, le)),
  octets-sum n (from + 1) xs (omega (arith, le)),
)

abbrev owed_total : List Owed → ℕ
owed_total [] = 0
owed_total (o ∷ os) = o.owed + owed_total os

owed-sum : (n from : ℕ) (os : List Owed) → from + length os ≤ n → sum_below n (λ p. owed_in from os p) ≡ owed_total os
owed-sum n from [] le = no-sum n (λ p. 0) (λ k lt. refl)
owed-sum n from (o ∷ os) le = omega (
  arith,
  both-sums n (λ p. one from o.owed p) (λ p. owed_in (from + 1) os p),
  one-sum n from o.owed (omega (arith, le)),
  owed-sum n (from + 1) os (omega (arith, le)),
)

abbrev unacked_size : Sent → ℕ
unacked_size h = if h.acked then 0 else sum h.lens

abbrev unacked_total : List Sent → ℕ
unacked_total [] = 0
unacked_total (h ∷ hs) = unacked_size h + unacked_total hs

-- a number above the places of all slots
abbrev reach : List Sent → ℕ
reach [] = 0
reach (h ∷ hs) = h.place + length h.lens + reach hs

unacked-sum : (n : ℕ) (hs : List Sent) → reach hs ≤ n → sum_below n (λ p. unacked_in hs p) ≡ unacked_total hs
unacked-sum n [] le = no-sum n (λ p. 0) (λ k lt. refl)
unacked-sum n (h ∷ hs) le = omega (
  arith,
  both-sums n (λ p. if h.acked then 0 else octets_at h.place h.lens p) (λ p. unacked_in hs p),
  by h.acked,
  unacked-sum n hs (omega (arith, le)),
)
  where
    by : (b : Bool) → sum_below n (λ p. if b then 0 else octets_at h.place h.lens p) ≡ (if b then 0 else sum h.lens)
    by true = no-sum n (λ p. 0) (λ k lt. refl)
    by false = octets-sum n h.place h.lens (omega (arith, le))

sizes-sum : (sdus : List (List ℕ)) → sum (map length sdus) ≡ total sdus
sizes-sum [] = refl
sizes-sum (x ∷ xs) = omega (arith, sum_by-cons (λ (k : ℕ). k) (length x) (map length xs), sizes-sum xs)

-- what is owed is what is unacknowledged in the window, and what waits
owed-is : (s : State) (g : Books) → Follows s g
    → owed_total s.accounts.entries ≡ unacked_total s.window.slots + total s.queue.sdus
owed-is s g f = omega (
  arith,
  owed-sum n s.accounts.oldest s.accounts.entries (omega arith),
  both-sums n (λ p. unacked_in s.window.slots p) (λ p. octets_at s.place (map length s.queue.sdus) p),
  same-sums n (λ p. owed_in s.accounts.oldest s.accounts.entries p)
      (λ p. unacked_in s.window.slots p + octets_at s.place (map length s.queue.sdus) p) f.owed,
  unacked-sum n s.window.slots (omega arith),
  octets-sum n s.place (map length s.queue.sdus) (omega (arith, f.aligned, mapped s.queue.sdus)),
  sizes-sum s.queue.sdus,
)
  where
    n : ℕ
    n = s.accounts.oldest + length s.accounts.entries + reach s.window.slots

    mapped : (sdus : List (List ℕ)) → length (map length sdus) ≡ length sdus
    mapped [] = refl
    mapped (x ∷ xs) = omega (arith, mapped xs)

-- ---- what a PDU owes

sub-le : (m n : ℕ) → m - n ≤ m
sub-le m n = omega arith

more-by : (size most : ℕ) → (most + 1) * size ≡ size * most + size
more-by size most = grind arith

pdu-dues : (most : ℕ) (h : Sent) (waits : ℕ → Bool) (namings : ℕ) → sum h.lens ≡ length h.field
    → (h.acked ≡ true → (i : ℕ) → waits i ≡ false) → pdu_dues most h waits namings ≤ (most + 1) * unacked_size h
pdu-dues most h waits namings whole still = by h.acked still
  where
    by : (b : Bool) → (b ≡ true → (i : ℕ) → waits i ≡ false)
        → (if b then 0 else length h.field * (most - namings)) + waiting_of (length h.field) waits
        ≤ (most + 1) * (if b then 0 else sum h.lens)
    by true none = omega (arith, waiting_of_none (length h.field) waits (none refl))
    by false none =
        let few = mul-le-mul_left (length h.field) (sub-le most namings) in
        let all : (most + 1) * sum h.lens ≡ length h.field * most + length h.field =
        ap (λ (n : ℕ). (most + 1) * n) whole ∙ more-by (length h.field) most in
        omega (arith, waiting_of_le (length h.field) waits, few, all)

slots-sum : (most : ℕ) (hs : List Sent) (f : ℕ → ℕ)
    → ((k : ℕ) → k < length hs → f k ≤ (most + 1) * unacked_size (slot_at hs k))
    → sum_below (length hs) f ≤ (most + 1) * unacked_total hs
slots-sum most [] f h = omega arith
slots-sum most (x ∷ xs) f h =
    let rest = slots-sum most xs (λ k. f (suc k)) (λ k lt. h (suc k) (omega (arith, lt))) in
    let one = h 0 (omega arith) in
    omega (arith, first-apart (length xs) f, rest, one)

window-dues : (most : ℕ) (w : TxWindow) (m : Marks) → Holds w m most → Stilled w m
    → window_dues most w m ≤ (most + 1) * unacked_total w.slots
window-dues most w m h s =
    slots-sum most w.slots
    (λ k. pdu_dues most (slot_at w.slots k) (m.waits (w.base + k)) (m.namings (w.base + k)))
    (λ k lt. pdu-dues most (slot_at w.slots k) (m.waits (w.base + k)) (m.namings (w.base + k)) (h.slots k lt).whole
    (s k lt))

-- ---- an entry owes at most its octets

abbrev Fair : List Owed → Type 0
Fair [] = Unit {0}
Fair (o ∷ os) = (o.owed ≤ o.size) × Fair os

paid-fair : (os : List Owed) (at n : ℕ) → Fair os → Fair (paid_at (slice_get os at) os at n)
paid-fair [] at n f = tt
paid-fair (o ∷ os) zero n f = (omega (arith, f.0), f.1)
paid-fair (o ∷ os) (suc at) n f = by (slice_get os at) (paid-fair os at n f.1)
  where
    by : (x : Option Owed) → Fair (paid_at x os at n) → Fair (paid_at x (o ∷ os) (suc at) n)
    by None g = f
    by (Some y) g = (f.0, g)

credited-fair : (l : Ledger) (place n : ℕ) → Fair l.entries → Fair (credited l place n).entries
credited-fair l place n f = by (nat_lt place l.oldest)
  where
    by : (b : Bool) → Fair (if b then l else record {
      oldest = l.oldest;
      entries = paid_at (slice_get l.entries (place - l.oldest)) l.entries (place - l.oldest) n;
      news = if is_last_of (slice_get l.entries (place - l.oldest)) n then l.news ++ place ∷ [] else l.news;
    }).entries
    by true = f
    by false = paid-fair l.entries (place - l.oldest) n f

all-fair : (l : Ledger) (place : ℕ) (ns : List ℕ) → Fair l.entries → Fair (credited_all l place ns).entries
all-fair l place [] f = f
all-fair l place (n ∷ ns) f = all-fair (credited l place n) (place + 1) ns (credited-fair l place n f)

one-fair : (l : Ledger) (h : Sent) → Fair l.entries → Fair (credited_one l h).entries
one-fair l h f = by (gets_acked h)
  where
    by : (b : Bool) → Fair (if b then credited_all l h.place h.lens else l).entries
    by true = all-fair l h.place h.lens f
    by false = f

from-fair : (l : Ledger) (at below : ℕ) (hs : List Sent) → Fair l.entries → Fair (credited_from l at below hs).entries
from-fair l at below [] f = f
from-fair l at below (h ∷ hs) f =
    from-fair (if nat_lt at below then credited_one l h else l) (at + 1) below hs (by (nat_lt at below))
  where
    by : (b : Bool) → Fair (if b then credited_one l h else l).entries
    by true = one-fair l h f
    by false = f

drop-fair : (n : ℕ) (os : List Owed) → Fair os → Fair (drop n os)
drop-fair zero os f = f
drop-fair (suc n) [] f = tt
drop-fair (suc n) (o ∷ os) f = drop-fair n os f.1

more-fair : (os : List Owed) (o : Owed) → Fair os → o.owed ≤ o.size → Fair (os ++ o ∷ [])
more-fair [] o f le = (le, tt)
more-fair (x ∷ xs) o f le = (f.0, more-fair xs o f.1 le)

ended-accounts : (l : Option ℕ) (b : Bool) (s : State) → (ended l b s).accounts ≡ s.accounts
ended-accounts (Some n) b s = refl
ended-accounts None true s = refl
ended-accounts None false s = refl

abbrev IsFair : State → Type 0
IsFair s = Fair s.accounts.entries

same-fair : (s t : State) → t.accounts ≡ s.accounts → IsFair s → IsFair t
same-fair s t e f = subst (λ (l : Ledger). Fair l.entries) (sym e) f

status-fair : (b : Bool) (s : State) (status : StatusPdu) → IsFair s
    → IsFair (if b then s else applied s (offset_of s.window.base status.ack) status.nacks)
status-fair true s status f = f
status-fair false s status f =
    let below = offset_of s.window.base status.ack in
    let heard = read s below status.nacks in
    let credits = credited_from s.accounts 0 below (named_window s status.nacks).slots in
    same-fair heard (ended (limit_of s below status.nacks) (stops s below status.nacks) heard)
    (ended-accounts (limit_of s below status.nacks) (stops s below status.nacks) heard)
    (drop-fair (leading_paid credits.entries) credits.entries
    (from-fair s.accounts 0 below (named_window s status.nacks).slots f))

recalled-accounts : (o : Option ℕ) (s : State) → (with_recalled o s).accounts ≡ s.accounts
recalled-accounts None s = refl
recalled-accounts (Some at) s = refl

expiry-fair : (b : Bool) (s : State) (more : Bool) → IsFair s
    → IsFair (if b then ended (expiry_limit s more) false (expired s more) else s)
expiry-fair false s more f = f
expiry-fair true s more f =
    same-fair s (ended (expiry_limit s more) false (expired s more))
    (ended-accounts (expiry_limit s more) false (expired s more)
    ∙ recalled-accounts (recalled_place s more) (with_owed s)) f

settled-fair : (b : Bool) (s : State) → IsFair s → IsFair (settled_by b s)
settled-fair true s f = f
settled-fair false s f = f

after-fair : (s : State) (c : Call) → IsFair s → IsFair (after s c)
unfolding after_status after_expiry
after-fair s (Offer sdu) f = more-fair s.accounts.entries _ f (omega arith)
after-fair s (Take size held more) f =
    same-fair s (after_turn (turn s size held more) s size more) (turn-accounts (turn s size held more) s size more) f
after-fair s (Status status) f = status-fair (is_ignored s status.ack) s status f
after-fair s Tick f = f
after-fair s (Expire more) f = expiry-fair (runs s.polls.timer) s more f
after-fair s (Settle more) f = settled-fair (settles s more) s f
after-fair s Confirm f = f

run-fair : (calls : List Call) (w : World Marks) → IsFair w.state → IsFair (run_am_sender marks_after calls w).state
run-fair [] w f = f
run-fair (c ∷ cs) w f =
    run-fair cs (record { state = after w.state c; past = marks_after w.state c w.past }) (after-fair w.state c f)

left-owed : (os : List Owed) → Fair os → owed_total os ≤ left_in os
left-owed [] f = omega arith
left-owed (o ∷ os) f = omega (arith, by (o.owed == 0) refl, left-owed os f.1)
  where
    by : (b : Bool) → (o.owed == 0) ≡ b → o.owed ≤ (if b then 0 else o.size)
    by true e = grind (arith, nat_tests, e)
    by false e = f.0

-- ---- all of it

apart : (m u t : ℕ) → (m + 1) * (u + t) ≡ (m + 1) * u + (m + 1) * t
apart m u t = grind arith

pub dues_are_left : DuesAreLeft
dues_are_left config calls = by s.failed
  where
    w : World Marks
    w = run_am_sender marks_after calls (begun config unmarked)

    s : State
    s = w.state

    most : ℕ
    most = s.config.max_retx

    follows : (g : Books) × Follows s g
    follows = run-follows calls (begun config unmarked) (record { sizes = []; given = [] }) (begun-keeps config).follows

    octets : unacked_total s.window.slots + total s.queue.sdus ≤ left_in s.accounts.entries
    octets = omega (
      arith,
      owed-is s follows.0 follows.1,
      left-owed s.accounts.entries (run-fair calls (begun config unmarked) tt),
    )

    all : (most + 1) * total s.queue.sdus + window_dues most s.window w.past ≤ (most + 1) * left_in s.accounts.entries
    all = omega (
      arith,
      window-dues most s.window w.past (stands config calls) (stilled config calls),
      apart most (unacked_total s.window.slots) (total s.queue.sdus),
      mul-le-mul_left (most + 1) octets,
    )

    by : (b : Bool) → (if b then 0
        else (most + 1) * total s.queue.sdus + window_dues most s.window w.past)
        ≤ (most + 1) * left_in s.accounts.entries
    by true = omega arith
    by false = all
