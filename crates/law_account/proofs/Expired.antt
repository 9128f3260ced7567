-- The poll timer expires: it is as quiet on both sides, and the same number is named.
use Rattle.std.proofs.Common.{◌≡◌, ◌<◌, ◌≤◌, inl, inr, ℕ, suc, ◌+◌, Bool, true, false, not, ◌||◌, ◌&&◌, ◌==◌}
use Rattle.std.proofs.Common.{if◌then◌else◌, List, [], ◌∷◌, length, Option, Some, None, is_some, refl, ap, sym, subst}
use Rattle.std.proofs.Common.{◌∙◌, arith, nat_lt, nat_le}
use Rattle.std.specs.Prelude.{MatchOption, IfSome}
use Rattle.std.proofs.lemmas.Bool.{cases_lt, le-leb, lt-ltb, le-ltb, and_from, and_right, or_left, ne_eqb}
use Rattle.std.proofs.lemmas.Bool.Decides.{nat_tests}
use Rattle.rlc_pdu.specs.declared.pdu.Part.{Part}
use Rattle.rlc_pdu.specs.declared.constants.TheConstants.{AM_WINDOW_SIZE}
use Rattle.rlc_pdu.specs.Runs.{Run, has, AreAscending, gap_in}
use Rattle.rlc_pdu.specs.Places.{IsGap}
use Rattle.rlc_pdu.proofs.PlaceLaws.{gaps_are_first}
use Rattle.rlc_am_tx_window.specs.Sent.{Sent, is_waiting, recalled, Lies}
use Rattle.rlc_am_tx_window.specs.Window.{TxWindow, slot_at, leading_idle, last_open}
use Rattle.rlc_am_tx_window.proofs.SlotSteps.{gap-lies}
use Rattle.rlc_am_tx.specs.Machine.{State, is_empty, is_quiet, is_shut, after_expiry, expired, with_recalled}
use Rattle.rlc_am_tx.specs.Machine.{with_owed, expiry_limit}
use Rattle.journal_account.specs.FlowSending.{SentNumber, FlowSending, number_at, is_resting, some_wait, recalled_at}
use Rattle.journal_account.specs.FlowSending.{recalled as named_whole, last_open as last_open_of, polled_in}
use Rattle.journal_account.specs.FlowSending.{with_poll_expired, is_quiet as is_quiet_in}
use Rattle.journal_account.proofs.Naming.{between_has, between_ascends}
use Rattle.law_rlc.proofs.AmSender.Least.{ended-window}
use Rattle.law_rlc.proofs.AmSender.Marked.{recalled-slot}
use Rattle.law_account.specs.Accounted.{IsAccounted, AreAccounted}
use Rattle.law_account.specs.Expired.{ExpiryIsAccounted}
use Rattle.law_account.proofs.Numbers.{slot_of, accounted_of, set_accounted}

-- ---- whether something waits

none_run : (rs : List Run) → AreAscending 0 rs → ((i : ℕ) → has rs i ≡ false) → (length rs == 0) ≡ true
none_run [] up none = refl
none_run (r ∷ rs) up none =
    let some : has (r ∷ rs) r.from ≡ true =
    or_left (nat_le r.from r.from && nat_lt r.from r.to) (has rs r.from)
    (and_from (nat_le r.from r.from) (nat_lt r.from r.to) (le-leb r.from r.from (omega arith))
    (lt-ltb r.from r.to up.1)) in
    let never : true ≡ false = sym some ∙ none r.from in
    absurd cc

some_run : (rs : List Run) (i : ℕ) → has rs i ≡ true → (length rs == 0) ≡ false
some_run [] i e = absurd cc
some_run (r ∷ rs) i e = ne_eqb (suc (length rs)) 0 (λ z. absurd (omega (arith, z)))

off : (b : Bool) → not b ≡ true → b ≡ false
off true e = absurd cc
off false e = refl

on : (b : Bool) → not b ≡ false → b ≡ true
on true e = refl
on false e = absurd cc

waits_same : (most : ℕ) (h : Sent) (n : SentNumber) → IsAccounted most h n → is_waiting h ≡ not (is_resting n)
waits_same most h n a = elim (cases_lt 0 n.size) [
  | inl some ↦ go (gap_in h.resting 0 (length h.field)) (gaps_are_first h.resting 0 (length h.field) (a.runs some))
  | inr empty ↦
      let none : is_resting n ≡ true = none_run n.waiting a.ascends (λ i. a.within i (omega (arith, empty))) in
      no_place (gap_in h.resting 0 (length h.field)) (gap-lies h.resting 0 (length h.field))
      (omega (arith, empty, a.size)) ∙ sym (ap not none)
]
  where
    no_place : (o : Option Part) → IfSome o (Lies 0 (length h.field)) → length h.field ≡ 0 → is_some o ≡ false
    no_place None l e = refl
    no_place (Some p) l e = absurd (omega (arith, l.below, e))

    go : (o : Option Part)
        → MatchOption o ((i : ℕ) → 0 ≤ i → i < length h.field → has h.resting i ≡ true)
        (IsGap h.resting 0 (length h.field)) → is_some o ≡ not (is_resting n)
    go None all = sym (ap not (none_run n.waiting a.ascends each))
      where
        each : (i : ℕ) → has n.waiting i ≡ false
        each i = elim (cases_lt i n.size) [
          | inl lt ↦ off (has n.waiting i) (sym (a.rests i lt) ∙ all i (omega arith) (omega (arith, lt, a.size)))
          | inr le ↦ a.within i le
        ]
    go (Some p) gap =
        let lt : p.start < n.size = omega (arith, gap.some, gap.below, a.size) in
        sym (ap not (some_run n.waiting p.start (on (has n.waiting p.start)
        (sym (a.rests p.start lt) ∙ gap.missing p.start (omega arith) gap.some))))

-- the numbers, one by one
abbrev Pairs : ℕ → List Sent → List SentNumber → Type 0
Pairs most hs ns = (k : ℕ) → k < length hs → IsAccounted most (slot_at hs k) (number_at ns k)

some_same : (most : ℕ) (hs : List Sent) (ns : List SentNumber) → length hs ≡ length ns → Pairs most hs ns
    → nat_lt (leading_idle hs) (length hs) ≡ some_wait ns
some_same most [] [] e each = refl
some_same most [] (n ∷ ns) e each = absurd (omega (arith, e))
some_same most (h ∷ hs) [] e each = absurd (omega (arith, e))
some_same most (h ∷ hs) (n ∷ ns) e each =
    step (is_waiting h)
    ∙ (ap (λ (b : Bool). b || nat_lt (leading_idle hs) (length hs)) (waits_same most h n (each 0 (omega arith)))
    ∙ ap (λ (b : Bool). not (is_resting n) || b)
    (some_same most hs ns (omega (arith, e)) (λ k lt. each (suc k) (omega (arith, lt)))))
  where
    step : (b : Bool) → nat_lt (if b then 0 else leading_idle hs + 1) (suc (length hs))
        ≡ (b || nat_lt (leading_idle hs) (length hs))
    step true = lt-ltb 0 (suc (length hs)) (omega arith)
    step false = grind (arith, nat_tests)

pub open_same : (most at : ℕ) (found : Option ℕ) (hs : List Sent) (ns : List SentNumber) → length hs ≡ length ns
    → Pairs most hs ns → last_open at found hs ≡ last_open_of at found ns
open_same most at found [] [] e each = refl
open_same most at found [] (n ∷ ns) e each = absurd (omega (arith, e))
open_same most at found (h ∷ hs) [] e each = absurd (omega (arith, e))
open_same most at found (h ∷ hs) (n ∷ ns) e each =
    ap (λ (b : Bool). last_open (at + 1) (if b then found else Some at) hs) ((each 0 (omega arith)).acked)
    ∙ open_same most (at + 1) (if n.acked then found else Some at) hs ns (omega (arith, e))
    (λ k lt. each (suc k) (omega (arith, lt)))

pub quiet_same : (s : State) (f : FlowSending) (more left : Bool) → not left ≡ (is_empty s && not more)
    → AreAccounted s.config.max_retx s.window f → is_quiet s more ≡ is_quiet_in left f
quiet_same s f more left e a =
    ap (λ (b : Bool). not b && ((is_empty s && not more) || is_shut s))
    (some_same s.config.max_retx s.window.slots f.numbers a.length_is a.numbers)
    ∙ (ap (λ (b : Bool). not (some_wait f.numbers) && (b || is_shut s)) (sym e)
    ∙ ap (λ (k : ℕ). not (some_wait f.numbers) && (not left || (k == AM_WINDOW_SIZE))) a.length_is)

-- ---- a number is named

on_true : (b : Bool) → (b || true) ≡ true
on_true true = refl
on_true false = refl

pub recalled_accounted : (most : ℕ) (h : Sent) (n : SentNumber) → IsAccounted most h n
    → IsAccounted most (recalled most h) (named_whole n)
recalled_accounted most h n a =
    accounted_of most (recalled most h) (named_whole n) (λ i. has n.waiting i || true)
    (recalled-slot h (has n.waiting) n.namings most (slot_of most h n a)) a.size a.acked
    (between_ascends 0 n.size n.waiting a.ascends)
    (λ i lt. on_true (has n.waiting i) ∙ sym (between_has 0 n.size n.waiting i
    ∙ or_left (nat_le 0 i && nat_lt i n.size) (has n.waiting i)
    (and_from (nat_le 0 i) (nat_lt i n.size) (le-leb 0 i (omega arith)) (lt-ltb i n.size lt))))
    (λ i le. between_has 0 n.size n.waiting i
    ∙ (ap (λ (b : Bool). b || has n.waiting i)
    (and_right (nat_le 0 i) (nat_lt i n.size) (le-ltb i n.size le)) ∙ a.within i le))

recalled_in : (o : Option ℕ) (s : State) (f : FlowSending) → AreAccounted s.config.max_retx s.window f
    → AreAccounted s.config.max_retx (with_recalled o s).window (recalled_at o f)
recalled_in None s f a = a
recalled_in (Some at) s f a =
    let set' = set_accounted s.config.max_retx s.window f at (recalled s.config.max_retx (slot_at s.window.slots at))
    (named_whole (number_at f.numbers at))
    (λ lt. recalled_accounted s.config.max_retx (slot_at s.window.slots at) (number_at f.numbers at)
    (a.numbers at lt)) a in
    record {
      base = set'.base;
      most_is = set'.most_is;
      length_is = set'.length_is;
      numbers = set'.numbers;
    }

place_same : (s : State) (f : FlowSending) (b : Bool) → AreAccounted s.config.max_retx s.window f
    → AreAccounted s.config.max_retx
    (with_recalled (if b then last_open 0 None s.window.slots else None) (with_owed s)).window (polled_in b f)
place_same s f true a =
    subst (λ (o : Option ℕ). AreAccounted s.config.max_retx
    (with_recalled (last_open 0 None s.window.slots) (with_owed s)).window (recalled_at o f))
    (open_same s.config.max_retx 0 None s.window.slots f.numbers a.length_is a.numbers)
    (recalled_in (last_open 0 None s.window.slots) (with_owed s) f a)
place_same s f false a = a

pub expiry_accounted : ExpiryIsAccounted
unfolding after_expiry
expiry_accounted s f more left on' e a =
    rw on' (subst (λ (v : TxWindow). AreAccounted s.config.max_retx v (with_poll_expired left f))
    (sym (ended-window (expiry_limit s more) false (expired s more)))
    (subst (λ (b : Bool). AreAccounted s.config.max_retx (expired s more).window (polled_in b f))
    (quiet_same s f more left e a) (place_same s f (is_quiet s more) a)))
