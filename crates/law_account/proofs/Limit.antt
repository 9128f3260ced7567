-- The limit comes at the same number on both sides.
use Rattle.std.proofs.Common.{◌≡◌, ◌<◌, ◌≤◌, inl, inr, ℕ, zero, suc, ◌+◌, ◌-◌, Bool, true, false}
use Rattle.std.proofs.Common.{if◌then◌else◌, List, [], ◌∷◌, ◌++◌, length, drop, Option, Some, None, is_some, refl, ap}
use Rattle.std.proofs.Common.{sym, subst, ◌∙◌, arith, nat_lt, set, get_or-set_same, get_or-set_other, length-drop}
use Rattle.std.specs.Prelude.{IfSome}
use Rattle.std.proofs.lemmas.Bool.{cases_lt, cases_eq, ltb-true, ltb-false}
use Rattle.std.proofs.lemmas.List.{get_or-drop}
use Rattle.std.proofs.Math.ListN.{length-set}
use Rattle.rlc_pdu.specs.declared.pdu.Nack.{Nack}
use Rattle.rlc_am_tx_window.specs.Sent.{Sent, is_spent, recalled}
use Rattle.rlc_am_tx_window.specs.Window.{TxWindow, nothing, slot_at, offset_of, is_named, last_open}
use Rattle.rlc_am_tx_window.specs.Window.{spent_among}
use Rattle.rlc_am_tx_window.proofs.RingSteps.{slot-past}
use Rattle.rlc_am_tx.specs.Machine.{State, is_ignored, after_status, applied, applied_heard, read, ended, limit_in}
use Rattle.rlc_am_tx.specs.Machine.{stops, heard, heard_of, after_expiry, expiry, expiry_of, expired, spent_at}
use Rattle.rlc_am_tx.specs.Machine.{expiry_limit, recalled_place, with_recalled, with_owed, is_quiet}
use Rattle.rlc_am_tx.specs.declared.Heard.TheVariants as hears
use Rattle.journal_account.specs.declared.entry.StatusEntry.{StatusEntry}
use Rattle.journal_account.specs.Entries.{names_number}
use Rattle.journal_account.specs.FlowSending.{SentNumber, FlowSending, never_named, number_at}
use Rattle.journal_account.specs.FlowSending.{with_rest, rested_in, heard_as, heard_number, heard_all, acked_first}
use Rattle.journal_account.specs.FlowSending.{first_over, or_over, advanced_with, with_status, recalled_at, polled_in}
use Rattle.journal_account.specs.FlowSending.{recalled as named_whole}
use Rattle.journal_account.proofs.Acking.{heard_at}
use Rattle.law_rlc.proofs.AmSender.Slots.{leading-acked}
use Rattle.law_rlc.proofs.AmSender.Least.{heard_slots}
use Rattle.law_rlc.proofs.AmSender.Marked.{recalled-within}
use Rattle.law_account.specs.Accounted.{AreAccounted}
use Rattle.law_account.specs.Heard.{AreTied}
use Rattle.law_account.specs.Limit.{IsLimited, SendingIsLimited, LimitsAgree, StatusIsLimited}
use Rattle.law_account.specs.Limit.{ExpiryIsLimited, limit_heard, limit_expired, sn_of}
use Rattle.law_account.proofs.Naming.{number_named}
use Rattle.law_account.proofs.Heard.{ReadAlike, read_alike}
use Rattle.law_account.proofs.Expired.{quiet_same, open_same, recalled_accounted}
use Rattle.law_account.proofs.Spent.{spent_is, Spent, Answers, among, over_none, over_some}

-- ---- numbers are written and sent again

few_written : (most size : ℕ) (hs : List SentNumber) → ((k : ℕ) → (number_at hs k).namings ≤ most) → (k : ℕ)
    → (number_at (hs ++ never_named size ∷ []) k).namings ≤ most
few_written most size [] few zero = omega arith
few_written most size [] few (suc k) = omega arith
few_written most size (h ∷ hs) few zero = few 0
few_written most size (h ∷ hs) few (suc k) = few_written most size hs (λ j. few (suc j)) k

few_set : (most at : ℕ) (x : SentNumber) (hs : List SentNumber) → x.namings ≤ most
    → ((k : ℕ) → (number_at hs k).namings ≤ most) → (k : ℕ) → (number_at (set hs at x) k).namings ≤ most
few_set most at x [] le few k = few k
few_set most zero x (h ∷ hs) le few zero = le
few_set most zero x (h ∷ hs) le few (suc k) = few (suc k)
few_set most (suc at) x (h ∷ hs) le few zero = few 0
few_set most (suc at) x (h ∷ hs) le few (suc k) = few_set most at x hs le (λ j. few (suc j)) k

pub sending_limited : SendingIsLimited
sending_limited failed f l = record {
  written = λ size. record {
    failed_is = l.failed_is;
    few = λ e. few_written f.most size f.numbers (l.few e);
  };
  resent = λ n from to. by (nat_lt n f.base) n from to;
}
  where
    by : (b : Bool) (n from to : ℕ) → IsLimited failed (rested_in b n from to f)
    by true n from to = l
    by false n from to = record {
      failed_is = l.failed_is;
      few = λ e. few_set f.most (n - f.base) (with_rest from to (number_at f.numbers (n - f.base))) f.numbers
          (l.few e (n - f.base)) (l.few e);
    }

-- ---- a STATUS

unnamed_few : (x y z : Bool) (ms : List StatusEntry) (n : ℕ) (h : SentNumber) → y ≡ false
    → (heard_as x y z ms n h).namings ≡ h.namings
unnamed_few true y z ms n h e = refl
unnamed_few false true z ms n h e = absurd cc
unnamed_few false false true ms n h e = refl
unnamed_few false false false ms n h e = refl

closed_few : (x y z : Bool) (ms : List StatusEntry) (n : ℕ) (h : SentNumber) → h.acked ≡ x
    → (heard_as x y z ms n h).acked ≡ true → (heard_as x y z ms n h).namings ≡ h.namings
closed_few true y z ms n h e a = refl
closed_few false true z ms n h e a = let no' : false ≡ true = sym e ∙ a in cc
closed_few false false true ms n h e a = refl
closed_few false false false ms n h e a = refl

-- the numbers once it is heard
record Kept (w : TxWindow) (f : FlowSending) (most : ℕ) (ns : List Nack) (xs : List Sent) (ys : List SentNumber)
    : Type 0 where
  long : length xs ≡ length w.slots
  same : length ys ≡ length xs
  spent : (k : ℕ) → k < length xs
      → is_spent (slot_at xs k).retransmissions most ≡ nat_lt most (number_at ys k).namings
  unnamed : (k : ℕ) → k < length xs → is_named w.base k ns ≡ false → (number_at ys k).namings ≤ most
  closed : (k : ℕ) → k < length xs → k < acked_first ys → (number_at ys k).namings ≤ most

kept_heard : (w : TxWindow) (f : FlowSending) (below most : ℕ) (ns : List Nack) (ms : List StatusEntry)
    → AreTied w ns ms → AreAccounted most w f → ((k : ℕ) → (number_at f.numbers k).namings ≤ most)
    → Kept w f most ns (heard_slots w below most ns) (heard_all (w.base + below) ms f.base f.numbers)
kept_heard w f below most ns ms t a few = record {
  long = r.long;
  same = r.same;
  spent = λ k lt.
      ap (λ (c : Option ℕ). is_spent c most) ((r.each k lt).count) ∙ spent_is (number_at ys k).namings most;
  unnamed = λ k lt e.
      subst (λ (x : SentNumber). x.namings ≤ most) (sym (at k lt))
      (subst (λ (j : ℕ). j ≤ most)
      (sym (unnamed_few (number_at f.numbers k).acked (names_number ms (f.base + k)) (nat_lt (f.base + k)
      (w.base + below)) ms (f.base + k) (number_at f.numbers k)
      (ap (λ (b : ℕ). names_number ms (b + k)) (sym a.base)
      ∙ (number_named w ns ms k (omega (arith, lt, r.long)) t ∙ e)))) (few k));
  closed = λ k lt e.
      let shut : (number_at ys k).acked ≡ true =
      sym ((r.each k lt).acked) ∙ leading-acked xs k (subst (λ (j : ℕ). k < j) (sym r.first) e) in
      subst (λ (x : SentNumber). x.namings ≤ most) (sym (at k lt))
      (subst (λ (j : ℕ). j ≤ most)
      (sym (closed_few (number_at f.numbers k).acked (names_number ms (f.base + k)) (nat_lt (f.base + k)
      (w.base + below)) ms (f.base + k) (number_at f.numbers k) refl
      (ap (λ (x : SentNumber). x.acked) (sym (at k lt)) ∙ shut))) (few k));
}
  where
    xs : List Sent
    xs = heard_slots w below most ns

    ys : List SentNumber
    ys = heard_all (w.base + below) ms f.base f.numbers

    r : ReadAlike most w xs ys
    r = read_alike w f below most ns ms t a

    at : (k : ℕ) → k < length xs
        → number_at ys k ≡ heard_number (w.base + below) ms (f.base + k) (number_at f.numbers k)
    at k lt = heard_at (w.base + below) ms f.base f.numbers k (omega (arith, lt, r.long, a.length_is))

-- a place in the window as a number
abbrev placed : ℕ → Option ℕ → Option ℕ
placed base None = None
placed base (Some at) = Some (base + at)

-- a number that isn't spent has few namings
not_spent : (w : TxWindow) (f : FlowSending) (most : ℕ) (ns : List Nack) (xs : List Sent) (ys : List SentNumber)
    (k : ℕ) → Kept w f most ns xs ys → k < length xs → (is_named w.base k ns ≡ true → Spent xs most k → ⊥)
    → (number_at ys k).namings ≤ most
not_spent w f most ns xs ys k h lt away =
    by (is_named w.base k ns) (nat_lt most (number_at ys k).namings) refl refl
  where
    by : (a b : Bool) → is_named w.base k ns ≡ a → nat_lt most (number_at ys k).namings ≡ b
        → (number_at ys k).namings ≤ most
    by false b ea eb = h.unnamed k lt ea
    by true false ea eb = ltb-false most (number_at ys k).namings eb
    by true true ea eb = absurd (away ea (h.spent k lt ∙ eb))

over_is : (w : TxWindow) (f : FlowSending) (most : ℕ) (ns : List Nack) (xs : List Sent) (ys : List SentNumber)
    (o : Option ℕ) → Kept w f most ns xs ys → w.base ≡ f.base → Answers w.base most xs None ns o
    → first_over most (f.base + acked_first ys) (drop (acked_first ys) ys) ≡ placed w.base o
over_is w f most ns xs ys None h e a =
    over_none most (f.base + acked_first ys) (drop (acked_first ys) ys)
    (λ k lt.
    let l : acked_first ys + k < length xs = omega (arith, lt, h.same, length-drop (acked_first ys) ys) in
    subst (λ (x : SentNumber). x.namings ≤ most) (sym (get_or-drop (acked_first ys) ys k (never_named 0)))
    (not_spent w f most ns xs ys (acked_first ys + k) h l (a.none (acked_first ys + k))))
over_is w f most ns xs ys (Some at) h e a =
    over_some most (f.base + acked_first ys) (drop (acked_first ys) ys) (at - acked_first ys)
    (omega (arith, there, h.same, high, length-drop (acked_first ys) ys))
    (subst (λ (x : SentNumber). most < x.namings)
    (sym (get_or-drop (acked_first ys) ys (at - acked_first ys) (never_named 0)))
    (subst (λ (j : ℕ). most < (number_at ys j).namings) back over))
    (λ k lt.
    subst (λ (x : SentNumber). x.namings ≤ most) (sym (get_or-drop (acked_first ys) ys k (never_named 0)))
    (not_spent w f most ns xs ys (acked_first ys + k) h (omega (arith, lt, there))
    (λ named s. omega (arith, lt, a.low (acked_first ys + k) named s))))
    ∙ ap (λ (j : ℕ). Some j) (omega (arith, e, high))
  where
    spent : Spent xs most at
    spent = elim a.here [ inl old ↦ let no' : None ≡ Some at = old in cc | inr s ↦ s ]

    there : at < length xs
    there = elim (cases_lt at (length xs)) [
      | inl lt ↦ lt
      | inr past ↦ let gone : slot_at xs at ≡ nothing = slot-past xs at past in
          let no' : false ≡ true = sym (ap (λ (x : Sent). is_spent x.retransmissions most) gone) ∙ spent in cc
    ]

    over : most < (number_at ys at).namings
    over = ltb-true most (number_at ys at).namings (sym (h.spent at there) ∙ spent)

    high : acked_first ys ≤ at
    high = elim (cases_lt at (acked_first ys)) [
      | inl lt ↦ absurd (omega (arith, over, h.closed at there lt))
      | inr le ↦ le
    ]

    back : at ≡ acked_first ys + (at - acked_first ys)
    back = omega (arith, high)

-- what the limit leaves
heard_tells : (o : Option ℕ) (b : Bool) → limit_heard (heard_of o b) ≡ o
heard_tells None b = refl
heard_tells (Some sn) b = refl

expiry_tells : (o : Option ℕ) → limit_expired (expiry_of o) ≡ o
expiry_tells None = refl
expiry_tells (Some sn) = refl

ended_failed : (o : Option ℕ) (b : Bool) (s : State) → s.failed ≡ false → (ended o b s).failed ≡ is_some o
ended_failed (Some sn) b s e = refl
ended_failed None true s e = e
ended_failed None false s e = e

ended_still : (b : Bool) (s : State) → (ended None b s).failed ≡ s.failed
ended_still true s = refl
ended_still false s = refl

in_sn : (base : ℕ) (o : Option ℕ) → limit_in false base o ≡ sn_of (placed base o)
in_sn base None = refl
in_sn base (Some at) = refl

pub in_failed : (base : ℕ) (o : Option ℕ) → limit_in true base o ≡ None
in_failed base None = refl
in_failed base (Some at) = refl

some_placed : (base : ℕ) (o : Option ℕ) → is_some (limit_in false base o) ≡ is_some (placed base o)
some_placed base None = refl
some_placed base (Some at) = refl

pub none_limit : (o : Option ℕ) → false ≡ is_some o → o ≡ None
none_limit None e = refl
none_limit (Some n) e = absurd cc

kept_limit : (o : Option ℕ) (most base : ℕ) (hs : List SentNumber) → true ≡ is_some o
    → true ≡ is_some (or_over o most base hs)
kept_limit None most base hs e = absurd cc
kept_limit (Some n) most base hs e = refl

-- what was found is none only where no number has too many
few_after : (most base : ℕ) (hs : List SentNumber) → is_some (first_over most base hs) ≡ false → (k : ℕ)
    → (number_at hs k).namings ≤ most
few_after most base [] e k = omega arith
few_after most base (h ∷ hs) e k =
    by (nat_lt most h.namings) refl k e (λ f j. few_after most (base + 1) hs f j)
  where
    by : (b : Bool) → nat_lt most h.namings ≡ b → (k : ℕ)
        → is_some (if b then Some base else first_over most (base + 1) hs) ≡ false
        → (is_some (first_over most (base + 1) hs) ≡ false → (j : ℕ) → (number_at hs j).namings ≤ most)
        → (number_at (h ∷ hs) k).namings ≤ most
    by true eb k e rest = absurd cc
    by false eb zero e rest = ltb-false most h.namings eb
    by false eb (suc k) e rest = rest e k

-- where the sender hadn't failed
agree : (o : Option ℕ) (s t : State) (b : Bool) (told : Option ℕ) (g : FlowSending) (hs : List SentNumber)
    (base : ℕ) → t.failed ≡ false → told ≡ limit_in false s.window.base o
    → g.limit ≡ first_over g.most base hs → g.numbers ≡ hs → first_over g.most base hs ≡ placed s.window.base o
    → LimitsAgree false (ended (limit_in false s.window.base o) b t).failed told g
agree o s t b told g hs base plain said limit numbers over = record {
  kept = record {
    failed_is = later ∙ ap is_some (sym (limit ∙ over));
    few = λ e k. subst (λ (xs : List SentNumber). (number_at xs k).namings ≤ g.most) (sym numbers)
        (few_after g.most base hs (ap is_some over ∙ (sym later ∙ e)) k);
  };
  told_is = λ e. said ∙ (in_sn s.window.base o ∙ ap sn_of (sym (limit ∙ over)));
}
  where
    later : (ended (limit_in false s.window.base o) b t).failed ≡ is_some (placed s.window.base o)
    later = ended_failed (limit_in false s.window.base o) b t plain ∙ some_placed s.window.base o

-- and where it had
agree_failed : (o : Option ℕ) (base : ℕ) (t : State) (b : Bool) (told : Option ℕ) (g : FlowSending)
    → t.failed ≡ true → true ≡ is_some g.limit
    → LimitsAgree true (ended (limit_in true base o) b t).failed told g
agree_failed o base t b told g plain limit = record {
  kept = record {
    failed_is = later ∙ limit;
    few = λ e k. let no' : true ≡ false = sym later ∙ e in cc;
  };
  told_is = λ e. absurd cc;
}
  where
    later : (ended (limit_in true base o) b t).failed ≡ true
    later = ap (λ (l : Option ℕ). (ended l b t).failed) (in_failed base o) ∙ (ended_still b t ∙ plain)

status_applied : (s : State) (f : FlowSending) (below : ℕ) (ns : List Nack) (ms : List StatusEntry) (b : Bool)
    → AreTied s.window ns ms → AreAccounted s.config.max_retx s.window f → s.failed ≡ b → IsLimited b f
    → LimitsAgree b (applied s below ns).failed (limit_heard (applied_heard s below ns))
    (advanced_with (heard_all (s.window.base + below) ms f.base f.numbers) f)
status_applied s f below ns ms b t a e l = by b e l
  where
    xs : List Sent
    xs = heard_slots s.window below s.config.max_retx ns

    ys : List SentNumber
    ys = heard_all (s.window.base + below) ms f.base f.numbers

    o : Option ℕ
    o = spent_among s.window.base s.config.max_retx xs None ns

    few : f.limit ≡ None → ((k : ℕ) → (number_at f.numbers k).namings ≤ f.most)
        → first_over f.most (f.base + acked_first ys) (drop (acked_first ys) ys) ≡ placed s.window.base o
    few none le = ap (λ (j : ℕ). first_over j (f.base + acked_first ys) (drop (acked_first ys) ys)) a.most_is
        ∙ over_is s.window f s.config.max_retx ns xs ys o
        (kept_heard s.window f below s.config.max_retx ns ms t a
        (λ k. subst (λ (j : ℕ). (number_at f.numbers k).namings ≤ j) a.most_is (le k))) a.base
        (among s.window.base s.config.max_retx xs None ns)

    by : (c : Bool) → s.failed ≡ c → IsLimited c f
        → LimitsAgree c (applied s below ns).failed (limit_heard (applied_heard s below ns)) (advanced_with ys f)
    by true e l =
        subst (λ (x : Bool). LimitsAgree true
        (ended (limit_in x s.window.base o) (stops s below ns) (read s below ns)).failed
        (limit_heard (heard_of (limit_in x s.window.base o) (stops s below ns))) (advanced_with ys f)) (sym e)
        (agree_failed o s.window.base (read s below ns) (stops s below ns)
        (limit_heard (heard_of (limit_in true s.window.base o) (stops s below ns))) (advanced_with ys f) e
        (kept_limit f.limit f.most (f.base + acked_first ys) (drop (acked_first ys) ys) l.failed_is))
    by false e l =
        subst (λ (x : Bool). LimitsAgree false
        (ended (limit_in x s.window.base o) (stops s below ns) (read s below ns)).failed
        (limit_heard (heard_of (limit_in x s.window.base o) (stops s below ns))) (advanced_with ys f)) (sym e)
        (agree o s (read s below ns) (stops s below ns)
        (limit_heard (heard_of (limit_in false s.window.base o) (stops s below ns))) (advanced_with ys f)
        (drop (acked_first ys) ys) (f.base + acked_first ys) e
        (heard_tells (limit_in false s.window.base o) (stops s below ns))
        (ap (λ (x : Option ℕ). or_over x f.most (f.base + acked_first ys) (drop (acked_first ys) ys))
        (none_limit f.limit l.failed_is)) refl (few (none_limit f.limit l.failed_is) (l.few refl)))

pub status_limited : StatusIsLimited
unfolding after_status heard
status_limited s f status ack entries i a l =
    by (nat_lt ack s.window.base) refl (i.ignored)
  where
    below : ℕ
    below = offset_of s.window.base status.ack

    by : (b : Bool) → nat_lt ack s.window.base ≡ b → is_ignored s status.ack ≡ nat_lt ack s.window.base
        → LimitsAgree s.failed (if is_ignored s status.ack then s else applied s below status.nacks).failed
        (limit_heard (if is_ignored s status.ack then hears.Ignored else applied_heard s below status.nacks))
        (with_status ack entries f)
    by true e same = rw (same ∙ e, sym (ap (λ (b : ℕ). nat_lt ack b) a.base) ∙ e)
        (record { kept = l; told_is = λ p. sym (ap sn_of (none_limit f.limit (sym p ∙ l.failed_is))) })
    by false e same = rw (same ∙ e, sym (ap (λ (b : ℕ). nat_lt ack b) a.base) ∙ e)
        (subst (λ (j : ℕ). LimitsAgree s.failed (applied s below status.nacks).failed
        (limit_heard (applied_heard s below status.nacks))
        (advanced_with (heard_all j entries f.base f.numbers) f)) (i.ack_is high)
        (status_applied s f below status.nacks entries s.failed (i.tied high) a refl l))
      where
        high : s.window.base ≤ ack
        high = ltb-false ack s.window.base e

-- ---- the poll timer

-- only the number recalled can have too many namings
over_set : (most base at : ℕ) (x : SentNumber) (hs : List SentNumber) → at < length hs
    → ((k : ℕ) → (number_at hs k).namings ≤ most)
    → first_over most base (set hs at x) ≡ placed base (if nat_lt most x.namings then Some at else None)
over_set most base at x hs lt few = by (nat_lt most x.namings) refl
  where
    here : number_at (set hs at x) at ≡ x
    here = get_or-set_same hs at x (never_named 0) lt

    other : (k : ℕ) → (k ≡ at → ⊥) → (number_at (set hs at x) k).namings ≤ most
    other k away = subst (λ (y : SentNumber). y.namings ≤ most) (sym (get_or-set_other hs at k x (never_named 0) away))
        (few k)

    by : (b : Bool) → nat_lt most x.namings ≡ b
        → first_over most base (set hs at x) ≡ placed base (if b then Some at else None)
    by true e =
        over_some most base (set hs at x) at (omega (arith, lt, length-set hs at x))
        (subst (λ (y : SentNumber). most < y.namings) (sym here) (ltb-true most x.namings e))
        (λ k l. other k (λ same. omega (arith, l, same)))
    by false e = over_none most base (set hs at x) (λ k l. elim (cases_eq k at) [
      | inl same ↦ rw same (subst (λ (y : SentNumber). y.namings ≤ most) (sym here) (ltb-false most x.namings e))
      | inr away ↦ other k away
    ])

-- where the sender finds it spent
spent_here : (at : ℕ) (s : State) (f : FlowSending) → at < length s.window.slots
    → AreAccounted s.config.max_retx s.window f
    → spent_at (Some at) (with_recalled (Some at) (with_owed s))
    ≡ (if nat_lt s.config.max_retx (named_whole (number_at f.numbers at)).namings then Some at else None)
spent_here at s f lt a =
    ap (λ (x : Sent). if is_spent x.retransmissions s.config.max_retx then Some at else None)
    (get_or-set_same s.window.slots at (recalled s.config.max_retx (slot_at s.window.slots at)) nothing lt)
    ∙ ap (λ (b : Bool). if b then Some at else None)
    (ap (λ (c : Option ℕ). is_spent c s.config.max_retx)
    ((recalled_accounted s.config.max_retx (slot_at s.window.slots at) (number_at f.numbers at)
    (a.numbers at lt)).count)
    ∙ spent_is (named_whole (number_at f.numbers at)).namings s.config.max_retx)

expired_agree : (o : Option ℕ) (c : Bool) (s : State) (f : FlowSending) → IfSome o (λ k. k < length s.window.slots)
    → AreAccounted s.config.max_retx s.window f → s.failed ≡ c → IsLimited c f
    → LimitsAgree c
    (ended (limit_in s.failed s.window.base (spent_at o (with_recalled o (with_owed s)))) false
    (with_recalled o (with_owed s))).failed
    (limit_expired (expiry_of (limit_in s.failed s.window.base (spent_at o (with_recalled o (with_owed s))))))
    (recalled_at o f)
expired_agree None c s f lt a e l = record {
  kept = subst (λ (x : Bool). IsLimited x f) (sym e) l;
  told_is = λ p. sym (ap sn_of (none_limit f.limit (sym p ∙ l.failed_is)));
}
expired_agree (Some at) true s f lt a e l =
    subst (λ (x : Bool). LimitsAgree true (ended (limit_in x s.window.base o) false t).failed
    (limit_expired (expiry_of (limit_in x s.window.base o))) (recalled_at (Some at) f)) (sym e)
    (agree_failed o s.window.base t false (limit_expired (expiry_of (limit_in true s.window.base o)))
    (recalled_at (Some at) f) e
    (kept_limit f.limit f.most f.base (set f.numbers at (named_whole (number_at f.numbers at))) l.failed_is))
  where
    t : State
    t = with_recalled (Some at) (with_owed s)

    o : Option ℕ
    o = spent_at (Some at) t
expired_agree (Some at) false s f lt a e l =
    subst (λ (x : Bool). LimitsAgree false (ended (limit_in x s.window.base o) false t).failed
    (limit_expired (expiry_of (limit_in x s.window.base o))) (recalled_at (Some at) f)) (sym e)
    (agree o s t false (limit_expired (expiry_of (limit_in false s.window.base o))) (recalled_at (Some at) f) hs
    f.base e (expiry_tells (limit_in false s.window.base o))
    (ap (λ (x : Option ℕ). or_over x f.most f.base hs) (none_limit f.limit l.failed_is)) refl
    (over_set f.most f.base at (named_whole (number_at f.numbers at)) f.numbers (omega (arith, lt, a.length_is))
    (l.few refl)
    ∙ (ap (λ (b : ℕ). placed b (if nat_lt f.most (named_whole (number_at f.numbers at)).namings then Some at
    else None)) (sym a.base)
    ∙ ap (placed s.window.base)
    (ap (λ (j : ℕ). if nat_lt j (named_whole (number_at f.numbers at)).namings then Some at else None) a.most_is
    ∙ sym (spent_here at s f lt a)))))
  where
    t : State
    t = with_recalled (Some at) (with_owed s)

    o : Option ℕ
    o = spent_at (Some at) t

    hs : List SentNumber
    hs = set f.numbers at (named_whole (number_at f.numbers at))

expired_in : (b : Bool) (s : State) (f : FlowSending) → AreAccounted s.config.max_retx s.window f
    → polled_in b f ≡ recalled_at (if b then last_open 0 None s.window.slots else None) f
expired_in true s f a =
    ap (λ (o : Option ℕ). recalled_at o f)
    (sym (open_same s.config.max_retx 0 None s.window.slots f.numbers a.length_is a.numbers))
expired_in false s f a = refl

pub expiry_limited : ExpiryIsLimited
unfolding after_expiry expiry
expiry_limited s f more left on e a l =
    rw on (subst (LimitsAgree s.failed (ended (expiry_limit s more) false (expired s more)).failed
    (limit_expired (expiry_of (expiry_limit s more))))
    (sym (ap (λ (b : Bool). polled_in b f) (sym (quiet_same s f more left e a)) ∙ expired_in (is_quiet s more) s f a))
    (expired_agree (recalled_place s more) s.failed s f (recalled-within s more) a refl l))
