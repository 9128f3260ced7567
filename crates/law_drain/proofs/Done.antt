-- What is neither unacknowledged nor to be sent is done, at RLC's sender and at PDCP's.
use Rattle.std.proofs.Common.{◌≡◌, ◌≤◌, inl, inr, ◌⊎◌, ℕ, zero, suc, ◌+◌, ◌-◌, ◌^◌, Bool, true, false, not}
use Rattle.std.proofs.Common.{◌&&◌, if◌then◌else◌, List, [], ◌∷◌, ◌++◌, length, map, take, Option, Some, None, refl, ap}
use Rattle.std.proofs.Common.{sym}
use Rattle.std.proofs.Common.{◌∙◌, arith, nat_lt}
use Rattle.std.specs.Prelude.{is_some, slice_get, slice_set}
use Rattle.eps_sec.specs.declared.Keys.{Keys}
use Rattle.pdcp_pdu.specs.Kinds.{is_am}
use Rattle.pdcp_pdu.specs.declared.pdu.PdcpKind.{PdcpKind}
use Rattle.pdcp_pdu.specs.declared.pdu.PdcpKind.TheVariants.{Srb, Um, Am}
use Rattle.pdcp_sec.specs.Protection.{Protection}
use Rattle.pdcp_tx_store.specs.declared.given.Sent.{Sent as Given_sdu}
use Rattle.pdcp_tx_store.specs.declared.given.Entry.{Entry}
use Rattle.pdcp_tx_store.specs.declared.given.Entry.TheVariants.{Data, Own, Gone}
use Rattle.pdcp_tx_store.specs.Given.{Given, trimmed, acked, acked_at, entry_at, with_ack, is_own}
use Rattle.pdcp_tx_store.specs.Given.{heard, with_report, tells}
use Rattle.pdcp_tx_store.specs.Waiting.{Waits}
use Rattle.pdcp_tx.specs.Pdus.{width}
use Rattle.pdcp_tx.specs.Runs.{Call as PdcpCall, Submit, Take, Confirm, Report, Owe, Tick, Late, after as after_pdcp}
use Rattle.pdcp_tx.specs.State.{State as PdcpState, start, sent, low, submitted, took, took_owed, took_again}
use Rattle.pdcp_tx.specs.State.{took_new, confirmed, reported, reported_from, fms_count, after_late, restarted, offers}
use Rattle.pdcp_tx.specs.State.{owed_offers, again_offer, new_offers, left as pdcp_left}
use Rattle.rlc_am_tx_window.specs.Ledger.{Owed, left_in, left_of}
use Rattle.rlc_am_tx_window.specs.Sent.{Sent}
use Rattle.rlc_am_tx.specs.Machine.{State}
use Rattle.law_pdcp.specs.OneEnd.Lives.{Step, Calls, SetDiscard, Restart, goes, run_pdcp_sender}
use Rattle.law_pdcp.proofs.OneEnd.Bounding.{bounded}
use Rattle.law_pdcp.proofs.OneEnd.KindStays.{kind_stays}
use Rattle.law_rlc.specs.AmSender.Namings.{Marks, unmarked, marks_after}
use Rattle.law_rlc.specs.AmSender.Run.{Call, World, after, run_am_sender, begun}
use Rattle.law_rlc.proofs.AmSender.Books.{Follows, after-follows}
use Rattle.law_rlc.proofs.AmSender.Confirms.{begun-keeps}
use Rattle.law_rlc.proofs.AmSender.Credits.{octets_at, one-same, owed_in}
use Rattle.law_rlc.proofs.AmSender.Owed.{Books, books_after, unacked_in}
use Rattle.law_drain.specs.Done.{AcknowledgedIsDone, GivenIsDone}
use Rattle.law_drain.specs.Offers.{has_offer}

-- ---- RLC's sender

pub none-left : (from : ℕ) (os : List Owed) → ((p : ℕ) → owed_in from os p ≡ 0) → left_in os ≡ 0
none-left from [] h = refl
none-left from (o ∷ os) h =
    let here = h from in
    let paid : o.owed ≡ 0 = omega (arith, here, one-same from o.owed from refl) in
    let none : left_of o ≡ 0 = rw paid refl in
    let rest = none-left (from + 1) os (λ p. let all = h p in omega (arith, all)) in
    omega (arith, none, rest)

pub none-unacked : (slots : List Sent) (sdus : List (List ℕ)) (place p : ℕ) → length slots ≡ 0 → length sdus ≡ 0
    → unacked_in slots p + octets_at place (map length sdus) p ≡ 0
none-unacked [] [] place p a b = omega arith
none-unacked [] (x ∷ xs) place p a b = absurd (omega (arith, b))
none-unacked (x ∷ xs) sdus place p a b = absurd (omega (arith, a))

pub run-follows : (calls : List Call) (w : World Marks) (g : Books) → Follows w.state g
    → (h : Books) × Follows (run_am_sender marks_after calls w).state h
run-follows [] w g f = (g, f)
run-follows (c ∷ cs) w g f =
    run-follows cs (record { state = after w.state c; past = marks_after w.state c w.past })
    (books_after w.state c g) (after-follows w.state c g f)

pub acknowledged_is_done : AcknowledgedIsDone
acknowledged_is_done config calls none empty =
    none-left s.accounts.oldest s.accounts.entries (λ p.
    follows.1.owed p ∙ none-unacked s.window.slots s.queue.sdus s.place p none empty)
  where
    s : State
    s = (run_am_sender marks_after calls (begun config unmarked)).state

    follows : (h : Books) × Follows (run_am_sender marks_after calls (begun config unmarked)).state h
    follows = run-follows calls (begun config unmarked) (record { sizes = []; given = [] }) (begun-keeps config).follows

-- ---- PDCP's sender: while the own report isn't acknowledged it is owed, or was given to RLC

abbrev has_own : List Entry → Bool
has_own [] = false
has_own (Data s ∷ es) = has_own es
has_own (Own ∷ es) = true
has_own (Gone ∷ es) = has_own es

own-then : (es fs : List Entry) → has_own es ≡ true → has_own (es ++ fs) ≡ true
own-then [] fs h = let no' : false ≡ true = h in cc
own-then (Data s ∷ es) fs h = own-then es fs h
own-then (Own ∷ es) fs h = refl
own-then (Gone ∷ es) fs h = own-then es fs h

own-last : (es : List Entry) → has_own (es ++ Own ∷ []) ≡ true
own-last [] = refl
own-last (Data s ∷ es) = own-last es
own-last (Own ∷ es) = refl
own-last (Gone ∷ es) = own-last es

own-trimmed : (es : List Entry) → has_own es ≡ true → has_own (trimmed es) ≡ true
own-trimmed [] h = h
own-trimmed (Data s ∷ es) h = by s.acked (own-trimmed es h)
  where
    by : (b : Bool) → has_own (trimmed es) ≡ true → has_own (if not b then Data s ∷ es else trimmed es) ≡ true
    by true ih = ih
    by false ih = h
own-trimmed (Own ∷ es) h = refl
own-trimmed (Gone ∷ es) h = own-trimmed es h

own-heard : (from : ℕ) (bitmap : List ℕ) (es : List Entry) → has_own es ≡ true
    → has_own (map (heard from bitmap) es) ≡ true
own-heard from bitmap [] h = h
own-heard from bitmap (Data s ∷ es) h = by (tells from bitmap s.count) (own-heard from bitmap es h)
  where
    by : (b : Bool) → has_own (map (heard from bitmap) es) ≡ true
        → has_own ((if b then Gone else Data s) ∷ map (heard from bitmap) es) ≡ true
    by true ih = ih
    by false ih = ih
own-heard from bitmap (Own ∷ es) h = refl
own-heard from bitmap (Gone ∷ es) h = own-heard from bitmap es h

own-set : (es : List Entry) (k : ℕ) (e : Entry) → slice_get es k ≡ Some e → is_own (Some e) ≡ false
    → has_own es ≡ true → has_own (slice_set es k (acked e)) ≡ true
own-set [] k e at other h = h
own-set (Data s ∷ es) zero e at other h = by e other
  where
    by : (x : Entry) → is_own (Some x) ≡ false → has_own (acked x ∷ es) ≡ true
    by (Data t) q = h
    by Own q = let no' : true ≡ false = q in cc
    by Gone q = h
own-set (Own ∷ es) zero e at other h =
    let same : is_own (Some Own) ≡ is_own (Some e) = ap is_own at in
    let no' : true ≡ false = same ∙ other in cc
own-set (Gone ∷ es) zero e at other h = by e other
  where
    by : (x : Entry) → is_own (Some x) ≡ false → has_own (acked x ∷ es) ≡ true
    by (Data t) q = h
    by Own q = let no' : true ≡ false = q in cc
    by Gone q = h
own-set (Data s ∷ es) (suc k) e at other h = own-set es k e at other h
own-set (Own ∷ es) (suc k) e at other h = refl
own-set (Gone ∷ es) (suc k) e at other h = own-set es k e at other h

own-acked : (g : Given) (place : ℕ) → is_own (entry_at g place) ≡ false → has_own g.entries ≡ true
    → has_own (with_ack g place).entries ≡ true
own-acked g place other h = by (nat_lt place g.gone) other
  where
    at : (o : Option Entry) → slice_get g.entries (place - g.gone) ≡ o → is_own o ≡ false
        → has_own (acked_at o g.entries (place - g.gone)) ≡ true
    at None e q = h
    at (Some x) e q = own-set g.entries (place - g.gone) x e q h

    by : (b : Bool) → is_own (if b then None else slice_get g.entries (place - g.gone)) ≡ false
        → has_own (acked_at (if b then None else slice_get g.entries (place - g.gone)) g.entries (place - g.gone))
        ≡ true
    by true q = h
    by false q = at (slice_get g.entries (place - g.gone)) refl q

abbrev IsOwing : PdcpState → Type 0
IsOwing s = s.reporting ≡ true → (is_some s.owed ≡ true) ⊎ (has_own s.given.entries ≡ true)

owing-new : (ws : List Waits) (s : PdcpState) → IsOwing s → IsOwing (took_new ws s)
owing-new [] s h = h
owing-new (w ∷ ws) s h = λ r. by (is_am s.kind) (h r)
  where
    by : (b : Bool) → (is_some s.owed ≡ true) ⊎ (has_own s.given.entries ≡ true)
        → (is_some s.owed ≡ true)
        ⊎ (has_own (if b then record {
          gone = s.given.gone;
          entries = s.given.entries ++ Data (sent s.next w.sdu false) ∷ [];
        } else s.given).entries ≡ true)
    by b (inl o) = inl o
    by true (inr o) = inr (own-then s.given.entries (Data (sent s.next w.sdu false) ∷ []) o)
    by false (inr o) = inr o

owing-again : (ss : List Given_sdu) (s : PdcpState) → IsOwing s → IsOwing (took_again ss s)
owing-again [] s h = owing-new (take (s.bound - s.next) s.waiting) s h
owing-again (x ∷ xs) s h = λ r. by (h r)
  where
    by : (is_some s.owed ≡ true) ⊎ (has_own s.given.entries ≡ true)
        → (is_some s.owed ≡ true) ⊎ (has_own (trimmed (s.given.entries ++ Data x ∷ [])) ≡ true)
    by (inl o) = inl o
    by (inr o) = inr (own-trimmed (s.given.entries ++ Data x ∷ []) (own-then s.given.entries (Data x ∷ []) o))

owing-owed : (o : Option (List ℕ)) (s : PdcpState) → IsOwing s → IsOwing (took_owed o s)
owing-owed None s h = owing-again s.again s h
owing-owed (Some report) s h = λ r. inr (own-last s.given.entries)

owing-confirmed : (s : PdcpState) (place : ℕ) → IsOwing s → IsOwing (confirmed s place)
unfolding confirmed
owing-confirmed s place h = λ r. by s.reporting (is_own (entry_at s.given place)) refl refl r
  where
    by : (a b : Bool) → s.reporting ≡ a → is_own (entry_at s.given place) ≡ b → (a && not b) ≡ true
        → (is_some s.owed ≡ true) ⊎ (has_own (trimmed (with_ack s.given place).entries) ≡ true)
    by false b x y r = let no' : false ≡ true = r in cc
    by true true x y r = let no' : false ≡ true = r in cc
    by true false x y r = step (h x)
      where
        step : (is_some s.owed ≡ true) ⊎ (has_own s.given.entries ≡ true)
            → (is_some s.owed ≡ true) ⊎ (has_own (trimmed (with_ack s.given place).entries) ≡ true)
        step (inl o) = inl o
        step (inr o) = inr (own-trimmed (with_ack s.given place).entries (own-acked s.given place y o))

owing-reported : (c : Option ℕ) (s : PdcpState) (bitmap : List ℕ) → IsOwing s → IsOwing (reported_from c s bitmap)
owing-reported None s bitmap h = h
owing-reported (Some from) s bitmap h = λ r. step (h r)
  where
    step : (is_some s.owed ≡ true) ⊎ (has_own s.given.entries ≡ true)
        → (is_some s.owed ≡ true) ⊎ (has_own (trimmed (with_report s.given from bitmap).entries) ≡ true)
    step (inl o) = inl o
    step (inr o) = inr (own-trimmed (with_report s.given from bitmap).entries (own-heard from bitmap s.given.entries o))

owing-call : (s : PdcpState) (c : PdcpCall) → IsOwing s → IsOwing (after_pdcp s c)
unfolding submitted took reported after_late
owing-call s (Submit sdu) h = h
owing-call s Take h = owing-owed s.owed s h
owing-call s (Confirm place) h = owing-confirmed s place h
owing-call s (Report fms bitmap) h = owing-reported (fms_count s.kind s.base fms) s bitmap h
owing-call s (Owe report) h = λ r. inl refl
owing-call s Tick h = h
owing-call s Late h = h

owing-restarted : (s : PdcpState) (keys : Keys) → IsOwing (restarted s keys)
unfolding restarted
owing-restarted s keys = λ r. let no' : false ≡ true = r in cc

owing-goes : (s : PdcpState) (x : Step) → IsOwing s → IsOwing (goes s x)
owing-goes s (Calls c) h = owing-call s c h
owing-goes s (SetDiscard ttis) h = h
owing-goes s (Restart keys) h = owing-restarted s keys

run-owing : (xs : List Step) (s : PdcpState) → IsOwing s → IsOwing (run_pdcp_sender xs s)
run-owing [] s h = h
run-owing (x ∷ xs) s h = run-owing xs (goes s x) (owing-goes s x h)

start-owing : (kind : PdcpKind) (p : Protection) (first : ℕ) → IsOwing (start kind p first)
unfolding start
start-owing kind p first = λ r. let no' : false ≡ true = r in cc

pub run-kind : (xs : List Step) (s : PdcpState) → (run_pdcp_sender xs s).kind ≡ s.kind
run-kind [] s = refl
run-kind (x ∷ xs) s = run-kind xs (goes s x) ∙ kind_stays s x

pub start-kind : (kind : PdcpKind) (p : Protection) (first : ℕ) → (start kind p first).kind ≡ kind
unfolding start
start-kind kind p first = refl

-- ---- where nothing may be taken

some-power : (n : ℕ) → 1 ≤ 2 ^ n
some-power zero = omega arith
some-power (suc n) = let ih = some-power n in omega (arith, ih)

some-width : (kind : PdcpKind) → is_am kind ≡ true → 1 ≤ width kind
some-width Srb e = let no' : false ≡ true = e in cc
some-width (Um bits) e = let no' : false ≡ true = e in cc
some-width (Am bits) e = some-power (bits - 1)

pub record NoOffers (owed : Option (List ℕ)) (again : List Given_sdu) (k : ℕ) (ws : List Waits) : Type 0 where
  pub owes : is_some owed ≡ false
  pub none : again ≡ []
  pub few : 1 ≤ k → ws ≡ []

no-offers : (o : Option (List ℕ)) (again : List Given_sdu) (n k : ℕ) (ws : List Waits)
    → is_some (slice_get (owed_offers o ++ map again_offer again ++ new_offers n (take k ws)) 0) ≡ false
    → NoOffers o again k ws
no-offers (Some report) again n k ws e = let no' : true ≡ false = e in cc
no-offers None (x ∷ xs) n k ws e = let no' : true ≡ false = e in cc
no-offers None [] n zero ws e = record { owes = refl; none = refl; few = λ le. absurd (omega (arith, le)) }
no-offers None [] n (suc k) [] e = record { owes = refl; none = refl; few = λ le. refl }
no-offers None [] n (suc k) (w ∷ ws) e = let no' : true ≡ false = e in cc

pub offers-none : (s : PdcpState) → has_offer s ≡ false → NoOffers s.owed s.again (s.bound - s.next) s.waiting
unfolding offers
offers-none s e = no-offers s.owed s.again s.next (s.bound - s.next) s.waiting e

pub left-none : (s : PdcpState) → s.given.entries ≡ [] → s.again ≡ [] → s.waiting ≡ [] → pdcp_left s ≡ 0
unfolding pdcp_left
left-none s a b c = rw (a, b, c) refl

low-next : (s : PdcpState) → s.given.entries ≡ [] → s.again ≡ [] → low s ≡ s.next
low-next s a b = rw (a, b) refl

pub given_is_done : GivenIsDone
given_is_done kind p first steps am empty none = left-none s empty n.none (n.few (omega (arith, bound, wide)))
  where
    s : PdcpState
    s = run_pdcp_sender steps (start kind p first)

    n : NoOffers s.owed s.again (s.bound - s.next) s.waiting
    n = offers-none s none

    -- its own report is acknowledged
    reports : (r : Bool) → s.reporting ≡ r → s.reporting ≡ false
    reports false e = e
    reports true e = e ∙ by (run-owing steps (start kind p first) (start-owing kind p first) e)
      where
        by : (is_some s.owed ≡ true) ⊎ (has_own s.given.entries ≡ true) → true ≡ false
        by (inl o) = sym o ∙ n.owes
        by (inr o) = sym o ∙ ap has_own empty

    bound : s.bound ≡ s.next + width s.kind
    bound = bounded kind p first steps am (reports s.reporting refl)
        ∙ ap (λ (k : ℕ). k + width s.kind) (low-next s empty n.none)

    wide : 1 ≤ width s.kind
    wide = some-width s.kind (ap is_am (run-kind steps (start kind p first) ∙ start-kind kind p first) ∙ am)
