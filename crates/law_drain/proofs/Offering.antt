-- The bound on COUNTs never falls in a life, and what may be taken stays so but where a report tells of it.
use Rattle.std.proofs.Common.{◌≡◌, ◌≤◌, ℕ, zero, suc, ◌+◌, ◌-◌, Bool, true, false, not, ◌&&◌, ◌==◌}
use Rattle.std.proofs.Common.{if◌then◌else◌, List, [], ◌∷◌, ◌++◌, map, take, Option, Some, None}
use Rattle.std.proofs.Common.{refl, ap, sym, subst, ◌∙◌, arith, append_assoc, append-nil}
use Rattle.std.specs.Prelude.{is_some, slice_get}
use Rattle.eps_sec.specs.declared.Keys.{Keys}
use Rattle.pdcp_pdu.specs.declared.pdu.PdcpKind.{PdcpKind}
use Rattle.pdcp_pdu.specs.declared.pdu.PdcpKind.TheVariants.{Srb, Um, Am}
use Rattle.pdcp_pdu.specs.Kinds.{is_am}
use Rattle.pdcp_sec.specs.Protection.{Protection}
use Rattle.pdcp_tx_store.specs.declared.given.Sent.{Sent}
use Rattle.pdcp_tx_store.specs.declared.given.Entry.TheVariants.{Data, Own}
use Rattle.pdcp_tx_store.specs.Given.{trimmed, entry_at, with_ack, is_own, settled}
use Rattle.pdcp_tx_store.specs.Given.{first_unacked, with_report, untold, from_unacked}
use Rattle.pdcp_tx_store.specs.Given.{data_of}
use Rattle.pdcp_tx_store.specs.Waiting.{Waits}
use Rattle.pdcp_tx.specs.Pdus.{extra, width}
use Rattle.pdcp_tx.specs.Runs.{Call, Submit, Take, Confirm, Report, Owe, Tick, Late, after}
use Rattle.pdcp_tx.specs.State.{State, start, sent, or_else, low, moved, submitted, took, took_owed, took_again}
use Rattle.pdcp_tx.specs.State.{took_new}
use Rattle.pdcp_tx.specs.State.{confirmed, reported, reported_from, fms_count, after_late, restarted, first_again}
use Rattle.pdcp_tx.specs.State.{kept_again, next_from, offers, owed_offers, again_offer, new_offers}
use Rattle.law_pdcp.specs.OneEnd.Lives.{Step, Calls, SetDiscard, Restart, goes, run_pdcp_sender}
use Rattle.law_drain.specs.Offers.{has_offer, OffersStay}
use Rattle.law_drain.specs.Unsent.{again_octets, unsent}
use Rattle.law_drain.proofs.Thin.{low_of, IsAbove, Ascend, Thin, above-low, low-least, thin-self, thin-both}
use Rattle.law_drain.proofs.Thin.{thin-then, thin-ascend, thin-low, trimmed-thin, acked-thin, heard-thin, untold-thin}
use Rattle.law_drain.proofs.Thin.{unacked-thin, data-then, open-low}

-- ---- what is known of a sender

abbrev all_of : State → List Sent
all_of s = data_of s.given.entries ++ s.again

-- a sender that keeps nothing of what it gave has nothing to give again
record Placed (s : State) : Type 0 where
  order : Ascend 0 (all_of s) s.next
  within : s.bound ≤ low s + width s.kind
  plain : is_am s.kind ≡ false → all_of s ≡ []

-- what it keeps grows thin: the bound may move with it
record Thins (s t : State) : Type 0 where
  thin : Thin (all_of s) (all_of t)
  next' : t.next ≡ s.next
  kind' : t.kind ≡ s.kind
  bound' : t.bound ≡ s.bound

low-is : (s : State) → low s ≡ low_of (all_of s) s.next
low-is s = open-low s.given.entries s.again s.next

thins-low : (s t : State) → Thins s t → Placed s → low s ≤ low t
thins-low s t h p =
    let le = thin-low 0 (all_of s) (all_of t) s.next h.thin p.order in
    let same : low_of (all_of t) t.next ≡ low_of (all_of t) s.next = ap (low_of (all_of t)) h.next' in
    omega (arith, low-is s, low-is t, le, same)

thin-empty : (ys : List Sent) → Thin [] ys → ys ≡ []
thin-empty [] t = refl
thin-empty (y ∷ ys) t = absurd t

thins-placed : (s t : State) → Thins s t → Placed s → Placed t
thins-placed s t h p = record {
  order = subst (λ (n : ℕ). Ascend 0 (all_of t) n) (sym h.next')
      (thin-ascend 0 (all_of s) (all_of t) s.next h.thin p.order);
  within =
      let wide : width t.kind ≡ width s.kind = ap width h.kind' in
      omega (arith, thins-low s t h p, p.within, wide, h.bound');
  plain = λ e. thin-empty (all_of t)
      (subst (λ (xs : List Sent). Thin xs (all_of t)) (p.plain (sym (ap is_am h.kind') ∙ e)) h.thin);
}

moved-placed : (t : State) → Placed t → Placed (moved t)
moved-placed t p = record { order = p.order; within = by t.reporting; plain = p.plain }
  where
    by : (b : Bool) → (if b then t.bound else low t + width t.kind) ≤ low t + width t.kind
    by true = p.within
    by false = omega arith

moved-bound : (t : State) → Placed t → t.bound ≤ (moved t).bound
moved-bound t p = by t.reporting
  where
    by : (b : Bool) → t.bound ≤ (if b then t.bound else low t + width t.kind)
    by true = omega arith
    by false = p.within

-- ---- by calls

confirm-thins : (s : State) (place : ℕ)
    → Thins s (record s {
      given = settled (with_ack s.given place);
      reporting = s.reporting && not (is_own (entry_at s.given place));
    })
confirm-thins s place = record {
  thin = thin-then (data_of s.given.entries) (data_of (trimmed (with_ack s.given place).entries)) s.again s.again
      (thin-both (data_of s.given.entries) (data_of (with_ack s.given place).entries)
      (data_of (trimmed (with_ack s.given place).entries)) (acked-thin s.given place)
      (trimmed-thin (with_ack s.given place).entries))
      (thin-self s.again);
  next' = refl;
  kind' = refl;
  bound' = refl;
}

report-thins : (s : State) (from : ℕ) (bitmap : List ℕ)
    → Thins s (record s {
      given = settled (with_report s.given from bitmap);
      again = untold from bitmap s.again;
    })
report-thins s from bitmap = record {
  thin = thin-then (data_of s.given.entries) (data_of (trimmed (with_report s.given from bitmap).entries)) s.again
      (untold from bitmap s.again)
      (thin-both (data_of s.given.entries) (data_of (with_report s.given from bitmap).entries)
      (data_of (trimmed (with_report s.given from bitmap).entries)) (heard-thin from bitmap s.given.entries)
      (trimmed-thin (with_report s.given from bitmap).entries))
      (untold-thin from bitmap s.again);
  next' = refl;
  kind' = refl;
  bound' = refl;
}

confirm-placed : (s : State) (place : ℕ) → Placed s → Placed (confirmed s place)
unfolding confirmed
confirm-placed s place p = moved-placed _ (thins-placed s _ (confirm-thins s place) p)

report-placed : (o : Option ℕ) (s : State) (bitmap : List ℕ) → Placed s → Placed (reported_from o s bitmap)
report-placed None s bitmap p = p
report-placed (Some from) s bitmap p = moved-placed _ (thins-placed s _ (report-thins s from bitmap) p)

-- one that is given for the first time
ascend-more : (a : ℕ) (xs : List Sent) (x : Sent) (end : ℕ) → Ascend a xs end → x.count ≡ end
    → Ascend a (xs ++ x ∷ []) (end + 1)
ascend-more a [] x end h e = (omega (arith, h, e), omega (arith, e))
ascend-more a (y ∷ ys) x end h e = (h.0, ascend-more (y.count + 1) ys x end h.1 e)

above-more : (m : ℕ) (xs : List Sent) (x : Sent) → IsAbove m xs → m ≤ x.count → IsAbove m (xs ++ x ∷ [])
above-more m [] x h le = ((λ e. le), tt)
above-more m (y ∷ ys) x h le = (h.0, above-more m ys x h.1 le)

ascend-end : (a : ℕ) (xs : List Sent) (end more : ℕ) → end ≤ more → Ascend a xs end → Ascend a xs more
ascend-end a [] end more le h = omega (arith, le, h)
ascend-end a (x ∷ xs) end more le h = (h.0, ascend-end (x.count + 1) xs end more le h.1)

low-grows : (xs : List Sent) (n m : ℕ) → n ≤ m → low_of xs n ≤ low_of xs m
low-grows [] n m le = le
low-grows (x ∷ xs) n m le = by x.acked (low-grows xs n m le)
  where
    by : (b : Bool) → low_of xs n ≤ low_of xs m
        → or_else (if b then first_unacked xs else Some x.count) n
        ≤ or_else (if b then first_unacked xs else Some x.count) m
    by true ih = ih
    by false ih = omega arith

plain-placed : (s : State) (w : Waits) (ws : List Waits) → is_am s.kind ≡ false → Placed s
    → Placed (took_new (w ∷ ws) s)
plain-placed s w ws am p = rw am (record {
  order = ascend-end 0 (all_of s) s.next (s.next + 1) (omega arith) p.order;
  within =
      let more = low-grows (all_of s) s.next (s.next + 1) (omega arith) in
      omega (arith, p.within, low-is s, more, open-low s.given.entries s.again (s.next + 1));
  plain = λ off. p.plain am;
})

kept-placed : (s : State) (w : Waits) (ws : List Waits) → is_am s.kind ≡ true → s.again ≡ [] → Placed s
    → Placed (took_new (w ∷ ws) s)
kept-placed s w ws am none p = rw am (record {
  order = subst (λ (xs : List Sent). Ascend 0 xs (s.next + 1)) (sym all)
      (ascend-more 0 (data_of s.given.entries) x s.next
      (subst (λ (xs : List Sent). Ascend 0 xs s.next) old p.order) refl);
  within =
      let kept = above-low 0 (data_of s.given.entries) s.next
      (subst (λ (xs : List Sent). Ascend 0 xs s.next) old p.order) in
      let least = low-least (low_of (data_of s.given.entries) s.next) (data_of s.given.entries ++ x ∷ []) (s.next + 1)
      (above-more (low_of (data_of s.given.entries) s.next) (data_of s.given.entries) x kept.0 kept.1)
      (omega (arith, kept.1)) in
      let was : low s ≡ low_of (data_of s.given.entries) s.next =
      low-is s ∙ ap (λ (xs : List Sent). low_of xs s.next) old in
      let is : low_of (data_of (s.given.entries ++ Data x ∷ []) ++ s.again) (s.next + 1)
      ≡ low_of (data_of s.given.entries ++ x ∷ []) (s.next + 1) =
      ap (λ (xs : List Sent). low_of xs (s.next + 1)) all in
      let now = open-low (s.given.entries ++ Data x ∷ []) s.again (s.next + 1) in
      omega (arith, p.within, was, least, is, now);
  plain = λ off. let no' : true ≡ false = sym am ∙ off in cc;
})
  where
    x : Sent
    x = sent s.next w.sdu false

    old : all_of s ≡ data_of s.given.entries
    old = ap (λ (xs : List Sent). data_of s.given.entries ++ xs) none ∙ append-nil (data_of s.given.entries)

    all : data_of (s.given.entries ++ Data x ∷ []) ++ s.again ≡ data_of s.given.entries ++ x ∷ []
    all = ap (λ (xs : List Sent). data_of (s.given.entries ++ Data x ∷ []) ++ xs) none
        ∙ append-nil (data_of (s.given.entries ++ Data x ∷ []))
        ∙ data-then s.given.entries (Data x ∷ [])

new-placed : (s : State) (ws : List Waits) → s.again ≡ [] → Placed s → Placed (took_new ws s)
new-placed s [] none p = p
new-placed s (w ∷ ws) none p = by (is_am s.kind) refl
  where
    by : (b : Bool) → is_am s.kind ≡ b → Placed (took_new (w ∷ ws) s)
    by true am = kept-placed s w ws am none p
    by false am = plain-placed s w ws am p

again-placed : (s : State) (ss : List Sent) → s.again ≡ ss → Placed s → Placed (took_again ss s)
again-placed s [] e p = new-placed s (take (s.bound - s.next) s.waiting) e p
again-placed s (x ∷ xs) e p = thins-placed s (took_again (x ∷ xs) s) (record {
  thin = subst (λ (zs : List Sent). Thin zs (all_of (took_again (x ∷ xs) s))) (sym same)
      (thin-then (data_of (s.given.entries ++ Data x ∷ [])) (data_of (trimmed (s.given.entries ++ Data x ∷ []))) xs xs
      (trimmed-thin (s.given.entries ++ Data x ∷ [])) (thin-self xs));
  next' = refl;
  kind' = refl;
  bound' = refl;
}) p
  where
    same : all_of s ≡ data_of (s.given.entries ++ Data x ∷ []) ++ xs
    same = ap (λ (zs : List Sent). data_of s.given.entries ++ zs) e
        ∙ sym (append_assoc (data_of s.given.entries) (x ∷ []) xs)
        ∙ ap (λ (zs : List Sent). zs ++ xs) (sym (data-then s.given.entries (Data x ∷ [])))

owed-placed : (o : Option (List ℕ)) (s : State) → Placed s → Placed (took_owed o s)
owed-placed None s p = again-placed s s.again refl p
owed-placed (Some report) s p = thins-placed s (took_owed (Some report) s) (record {
  thin = subst (λ (zs : List Sent). Thin (all_of s) (zs ++ s.again))
      (sym (data-then s.given.entries (Own ∷ []) ∙ append-nil (data_of s.given.entries))) (thin-self (all_of s));
  next' = refl;
  kind' = refl;
  bound' = refl;
}) p

call-placed : (s : State) (c : Call) → Placed s → Placed (after s c)
unfolding submitted took reported after_late
call-placed s (Submit sdu) p = record { order = p.order; within = p.within; plain = p.plain }
call-placed s Take p = owed-placed s.owed s p
call-placed s (Confirm place) p = confirm-placed s place p
call-placed s (Report fms bitmap) p = report-placed (fms_count s.kind s.base fms) s bitmap p
call-placed s (Owe report) p = record { order = p.order; within = p.within; plain = p.plain }
call-placed s Tick p = record { order = p.order; within = p.within; plain = p.plain }
call-placed s Late p = record { order = p.order; within = p.within; plain = p.plain }

-- ---- through lives

first-low : (xs : List Sent) (n : ℕ) → first_again (from_unacked xs) n ≡ low_of (from_unacked xs) n
first-low [] n = refl
first-low (x ∷ xs) n = by x.acked refl (first-low xs n)
  where
    by : (b : Bool) → x.acked ≡ b → first_again (from_unacked xs) n ≡ low_of (from_unacked xs) n
        → first_again (if b then from_unacked xs else x ∷ xs) n ≡ low_of (if b then from_unacked xs else x ∷ xs) n
    by true e ih = ih
    by false e ih = rw e refl

next-stays : (kind : PdcpKind) (n : ℕ) → is_am kind ≡ true → next_from kind n ≡ n
next-stays Srb n am = let no' : false ≡ true = am in cc
next-stays (Um bits) n am = let no' : false ≡ true = am in cc
next-stays (Am bits) n am = refl

restart-order : (s : State) → Placed s → Ascend 0 (kept_again s) (next_from s.kind s.next)
restart-order s p = by (is_am s.kind) refl
  where
    by : (b : Bool) → is_am s.kind ≡ b → Ascend 0 (kept_again s) (next_from s.kind s.next)
    by true am = subst (λ (n : ℕ). Ascend 0 (kept_again s) n) (sym (next-stays s.kind s.next am))
        (thin-ascend 0 (all_of s) (kept_again s) s.next (unacked-thin (all_of s)) p.order)
    by false am = subst (λ (xs : List Sent). Ascend 0 (from_unacked xs) (next_from s.kind s.next)) (sym (p.plain am))
        (omega arith)

restart-placed : (s : State) (keys : Keys) → Placed s → Placed (restarted s keys)
unfolding restarted
restart-placed s keys p = record {
  order = restart-order s p;
  within = omega (arith, first-low (all_of s) (next_from s.kind s.next));
  plain = λ am. ap from_unacked (p.plain am);
}

goes-placed : (s : State) (x : Step) → Placed s → Placed (goes s x)
goes-placed s (Calls c) p = call-placed s c p
goes-placed s (SetDiscard ttis) p = record { order = p.order; within = p.within; plain = p.plain }
goes-placed s (Restart keys) p = restart-placed s keys p

run-placed : (xs : List Step) (s : State) → Placed s → Placed (run_pdcp_sender xs s)
run-placed [] s p = p
run-placed (x ∷ xs) s p = run-placed xs (goes s x) (goes-placed s x p)

start-placed : (kind : PdcpKind) (p : Protection) (first : ℕ) → Placed (start kind p first)
unfolding start
start-placed kind p first = record { order = omega arith; within = omega arith; plain = λ am. refl }

-- ---- the bound

confirm-bound : (s : State) (place : ℕ) → Placed s → s.bound ≤ (confirmed s place).bound
unfolding confirmed
confirm-bound s place p = moved-bound _ (thins-placed s _ (confirm-thins s place) p)

report-bound : (o : Option ℕ) (s : State) (bitmap : List ℕ) → Placed s → s.bound ≤ (reported_from o s bitmap).bound
report-bound None s bitmap p = omega arith
report-bound (Some from) s bitmap p = moved-bound _ (thins-placed s _ (report-thins s from bitmap) p)

new-bound : (ws : List Waits) (s : State) → (took_new ws s).bound ≡ s.bound
new-bound [] s = refl
new-bound (w ∷ ws) s = refl

again-bound : (ss : List Sent) (s : State) → (took_again ss s).bound ≡ s.bound
again-bound [] s = new-bound (take (s.bound - s.next) s.waiting) s
again-bound (x ∷ xs) s = refl

owed-bound : (o : Option (List ℕ)) (s : State) → (took_owed o s).bound ≡ s.bound
owed-bound None s = again-bound s.again s
owed-bound (Some report) s = refl

call-bound : (s : State) (c : Call) → Placed s → s.bound ≤ (after s c).bound
unfolding submitted took reported after_late
call-bound s (Submit sdu) p = omega arith
call-bound s Take p = omega (arith, owed-bound s.owed s)
call-bound s (Confirm place) p = confirm-bound s place p
call-bound s (Report fms bitmap) p = report-bound (fms_count s.kind s.base fms) s bitmap p
call-bound s (Owe report) p = omega arith
call-bound s Tick p = omega arith
call-bound s Late p = omega arith

-- ---- what may be taken

-- a bound that is higher leaves it
offers-on : (o : Option (List ℕ)) (again : List Sent) (n k m : ℕ) (ws : List Waits) → k ≤ m
    → is_some (slice_get (owed_offers o ++ map again_offer again ++ new_offers n (take k ws)) 0) ≡ true
    → is_some (slice_get (owed_offers o ++ map again_offer again ++ new_offers n (take m ws)) 0) ≡ true
offers-on (Some report) again n k m ws le e = refl
offers-on None (x ∷ xs) n k m ws le e = refl
offers-on None [] n zero m ws le e = let no' : false ≡ true = e in cc
offers-on None [] n (suc k) zero ws le e = absurd (omega (arith, le))
offers-on None [] n (suc k) (suc m) [] le e = e
offers-on None [] n (suc k) (suc m) (w ∷ ws) le e = refl

confirm-offers : (s : State) (place : ℕ) → Placed s → has_offer s ≡ true → has_offer (confirmed s place) ≡ true
unfolding offers confirmed
confirm-offers s place p e =
    let le = moved-bound _ (thins-placed s _ (confirm-thins s place) p) in
    offers-on s.owed s.again s.next (s.bound - s.next) (_) s.waiting (omega (arith, le)) e

some-extra : (kind : PdcpKind) → 1 ≤ extra kind
some-extra Srb = omega arith
some-extra (Um bits) = by (bits == 7)
  where
    by : (b : Bool) → 1 ≤ (if b then 1 else 2)
    by true = omega arith
    by false = omega arith
some-extra (Am bits) = omega arith

-- nothing of it may be taken then: no report is owed, and none is given again
nothing-left : (o : Option (List ℕ)) (again rest : List Sent) (n k m : ℕ) (ws : List Waits) (more : ℕ) → k ≤ m
    → 1 ≤ more → Thin again rest
    → is_some (slice_get (owed_offers o ++ map again_offer again ++ new_offers n (take k ws)) 0) ≡ true
    → is_some (slice_get (owed_offers o ++ map again_offer rest ++ new_offers n (take m ws)) 0) ≡ false
    → again_octets more rest + 1 ≤ again_octets more again
nothing-left (Some report) again rest n k m ws more le some t e none = let no' : true ≡ false = none in cc
nothing-left None [] [] n k m ws more le some t e none =
    let no' : true ≡ false = sym (offers-on None [] n k m ws le e) ∙ none in cc
nothing-left None [] (y ∷ ys) n k m ws more le some t e none = absurd t
nothing-left None (x ∷ xs) (y ∷ ys) n k m ws more le some t e none = let no' : true ≡ false = none in cc
nothing-left None (x ∷ xs) [] n k m ws more le some t e none = omega (arith, some)

report-offers : (o : Option ℕ) (s : State) (bitmap : List ℕ) → Placed s → has_offer s ≡ true
    → has_offer (reported_from o s bitmap) ≡ false → unsent (reported_from o s bitmap) + 1 ≤ unsent s
unfolding offers
report-offers None s bitmap p e none = let no' : true ≡ false = sym e ∙ none in cc
report-offers (Some from) s bitmap p e none =
    let le = moved-bound _ (thins-placed s _ (report-thins s from bitmap) p) in
    let fewer = nothing-left s.owed s.again (untold from bitmap s.again) s.next (s.bound - s.next)
    ((reported_from (Some from) s bitmap).bound - s.next) s.waiting (extra s.kind) (omega (arith, le))
    (some-extra s.kind) (untold-thin from bitmap s.again) e none in
    omega (arith, fewer)

pub offers_stay : OffersStay
unfolding reported
offers_stay kind p first steps = record {
  bound = λ c. call-bound s c known;
  confirmed = λ place e. confirm-offers s place known e;
  reported = λ fms bitmap e none. report-offers (fms_count s.kind s.base fms) s bitmap known e none;
}
  where
    s : State
    s = run_pdcp_sender steps (start kind p first)

    known : Placed s
    known = run-placed steps (start kind p first) (start-placed kind p first)
