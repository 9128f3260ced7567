-- A sender confirms the SDUs that the history of its flow says are confirmed.
use Rattle.std.proofs.Common.{◌≡◌, ◌<◌, ◌≤◌, inl, inr, ℕ, zero, suc, ◌+◌, Bool, true, false, not, ◌&&◌, ◌==◌}
use Rattle.std.proofs.Common.{if◌then◌else◌, List, [], ◌∷◌, ◌++◌, length, Option, nat_lt, refl, ap, sym, subst, ◌∙◌}
use Rattle.std.proofs.Common.{arith, append_assoc}
use Rattle.std.proofs.lemmas.Bool.{cases_lt, cases_eq, and_parts, and_from, lt-ltb, le-ltb, ltb-true, eqb-true, eq-eqb}
use Rattle.std.proofs.lemmas.Bool.{ne_eqb}
use Rattle.std.proofs.lemmas.List.{append_cancel_left}
use Rattle.rlc_pdu.specs.Pdus.{StatusPdu}
use Rattle.rlc_am_tx_window.specs.Numbers.{Ascend}
use Rattle.rlc_am_tx.specs.Machine.{State}
use Rattle.journal_account.specs.Acked.{is_acked}
use Rattle.journal_account.specs.Arrived.{all_between}
use Rattle.journal_account.specs.Confirmed.{place_acked, is_confirmed_sdu}
use Rattle.journal_account.specs.FlowEvents.{FlowEvent}
use Rattle.journal_account.specs.Stream.{place_of, came_along, sdu_sizes, sdu_end}
use Rattle.journal_account.proofs.Complete.{between_all, between_each}
use Rattle.journal_account.proofs.Wholes.{iff}
use Rattle.law_rlc.specs.AmSender.Run.{Call, Status, World, after, begun}
use Rattle.law_rlc.specs.AmSender.Confirmed.{Confirmations, unconfirmed, confirmations_after, times, octets_in, is_done}
use Rattle.law_rlc.specs.AmSender.Confirmed.{places}
use Rattle.law_rlc.proofs.AmPair.Confirming.{same-sender}
use Rattle.law_rlc.proofs.AmPair.Runs.{run-more, sender-more}
use Rattle.law_rlc.proofs.AmSender.Books.{marks}
use Rattle.law_rlc.proofs.AmSender.Confirms.{confirms}
use Rattle.law_rlc.proofs.AmSender.Credits.{times-append}
use Rattle.law_account.specs.History.{IsTold, with_told}
use Rattle.law_account.specs.HistoryRuns.{Calls}
use Rattle.law_given.specs.Confirming.{AreSizesTold, calls_more, ConfirmsAsTold, StatusesConfirmAsTold, those_from}
use Rattle.law_given.specs.Confirming.{newly_confirmed}
use Rattle.law_given.proofs.ConfirmingRuns.{Beside, flow_beside, acked_same, sizes_go_on}
use Rattle.law_rlc.specs.AmPair.Confirmed.{confirmations}
use Rattle.law_rlc.specs.AmPair.Flow.{Flow, sender}
use Rattle.law_rlc.specs.AmSender.Octets.{Octets}
use Rattle.law_account.specs.History.{Follows}
use Rattle.law_account.proofs.History.{calls_follow}
use Rattle.law_given.proofs.ConfirmingSizes.{size_at, place_next, shut, shut_in, shut_along, shut_marks, all_octets}
use Rattle.law_given.proofs.ConfirmingSizes.{times_marks, times_past, none_shut, each_passes}

-- ---- an SDU

octets_alike : (f g : ℕ → Bool) (n : ℕ) (xs : List (List ℕ)) (k : ℕ) → ((m : ℕ) → f m ≡ g m)
    → octets_in f n xs k ≡ octets_in g n xs k
octets_alike f g n [] k h = refl
octets_alike f g n (x ∷ xs) k h =
    let first = ap {B = ℕ} (λ (b : Bool). if b then times k x else 0) (h n) in
    let rest = octets_alike f g (n + 1) xs k h in
    omega (arith, first, rest)

all_done : (z a u : ℕ) → a + u ≡ z → 0 < z → u ≡ 0 → (nat_lt 0 a && (u == 0)) ≡ true
all_done z a u e some none =
    and_from (nat_lt 0 a) (u == 0) (lt-ltb 0 a (omega (arith, e, some, none))) (eq-eqb u 0 none)

module _ (most : ℕ) (es : List FlowEvent) (w : World Confirmations) (h : Beside most es w) where
  abbrev g : Confirmations
  g = w.past

  abbrev sizes : List ℕ
  sizes = sdu_sizes es

  -- of its octets, those in numbers that aren't acknowledged, and those that aren't sent
  open_is : (k : ℕ) → k < length sizes
      → octets_in (λ m. not (g.acked m)) 0 g.sent k + times k g.unsent
      ≡ shut (place_acked es) (place_of sizes k) (size_at sizes k)
  open_is k lt =
      let name : 0 + k ≡ k = omega arith in
      let start : 0 + place_of sizes k ≡ place_of sizes k = omega arith in
      ap (λ (n : ℕ). n + times k g.unsent)
      (octets_alike (λ m. not (g.acked m)) (λ m. not (is_acked es m)) 0 g.sent k
      (λ m. ap not (acked_same most es w h m)))
      ∙ (sym (shut_along (is_acked es) (place_acked es) k 0 0 g.sent g.unsent (λ p.
      let at : 0 + p ≡ p = omega arith in
      ap (place_acked es) at
      ∙ sym (ap (λ (l : List ℕ). came_along (λ m j. is_acked es m) l 0 p) h.fields)))
      ∙ (ap (shut_in (place_acked es) k 0) h.stream
      ∙ (sym (ap (λ (n : ℕ). shut_in (place_acked es) n 0 (marks 0 sizes)) name)
      ∙ (shut_marks (place_acked es) 0 k 0 sizes lt
      ∙ ap (λ (i : ℕ). shut (place_acked es) i (size_at sizes k)) start))))

  all_is : (k : ℕ)
      → octets_in g.acked 0 g.sent k + (octets_in (λ m. not (g.acked m)) 0 g.sent k + times k g.unsent)
      ≡ times k (marks 0 sizes)
  all_is k = all_octets g.acked k 0 g.sent g.unsent ∙ ap (times k) h.stream

  done_is : (k : ℕ) → is_done g k ≡ is_confirmed_sdu es k
  done_is k = elim (cases_lt k (length sizes)) [
    | inl lt ↦
        let end' : sdu_end es k ≡ place_of sizes k + size_at sizes k = place_next sizes k lt in
        iff (is_done g k) (is_confirmed_sdu es k)
        (λ e.
        let both = and_parts (nat_lt 0 (octets_in g.acked 0 g.sent k))
        (octets_in (λ m. not (g.acked m)) 0 g.sent k + times k g.unsent == 0) e in
        let none = eqb-true (octets_in (λ m. not (g.acked m)) 0 g.sent k + times k g.unsent) 0 both.1 in
        and_from (nat_lt k (length sizes)) (all_between (place_acked es) (place_of sizes k) (sdu_end es k))
        (lt-ltb k (length sizes) lt)
        (between_all (place_acked es) (place_of sizes k) (sdu_end es k) (λ i from to.
        each_passes (place_acked es) (place_of sizes k) (size_at sizes k) (sym (open_is k lt) ∙ none) i from
        (omega (arith, to, end')))))
        (λ e.
        let both = and_parts (nat_lt k (length sizes))
        (all_between (place_acked es) (place_of sizes k) (sdu_end es k)) e in
        let each = none_shut (place_acked es) (place_of sizes k) (size_at sizes k) (λ i from to.
        between_each (place_acked es) (place_of sizes k) (sdu_end es k) i both.1 from (omega (arith, to, end'))) in
        let own = times_marks k sizes lt in
        let some = h.some k lt in
        all_done (times k (marks 0 sizes)) (octets_in g.acked 0 g.sent k)
        (octets_in (λ m. not (g.acked m)) 0 g.sent k + times k g.unsent) (all_is k) (omega (arith, own, some))
        (open_is k lt ∙ each))
    | inr le ↦
        let none = times_past k sizes le in
        let all = all_is k in
        let low : octets_in g.acked 0 g.sent k ≤ 0 = omega (arith, none, all) in
        ap (λ (b : Bool). b && (octets_in (λ m. not (g.acked m)) 0 g.sent k + times k g.unsent == 0))
        (le-ltb 0 (octets_in g.acked 0 g.sent k) low)
        ∙ sym (ap (λ (b : Bool). b && all_between (place_acked es) (place_of sizes k) (sdu_end es k))
        (le-ltb k (length sizes) le))
  ]

pub all_confirmed : ConfirmsAsTold
all_confirmed most f es h follows k =
    (confirms f.sending f.sent).once k
    ∙ ap {B = ℕ} (λ (b : Bool). if b then 1 else 0)
    (done_is most es (confirmations f) (flow_beside most f es h follows) k)

-- ---- ascending numbers are those that stand among them

none_lower : (low k : ℕ) (xs : List ℕ) → Ascend low xs → k < low → times k xs ≡ 0
none_lower low k [] a lt = refl
none_lower low k (x ∷ xs) a lt =
    let le = a.0 in
    let rest = none_lower (x + 1) k xs a.1 (omega (arith, le, lt)) in
    let other = ap {B = ℕ} (λ (b : Bool). if b then 1 else 0) (ne_eqb x k (λ e. omega (arith, le, lt, e))) in
    omega (arith, rest, other)

abbrev AreThose : (ℕ → Bool) → ℕ → List ℕ → Type 0
AreThose p low xs = (k : ℕ) → low ≤ k → times k xs ≡ (if p k then 1 else 0)

those_are : (p : ℕ → Bool) (low many : ℕ) (xs : List ℕ) → Ascend low xs → AreThose p low xs
    → ((k : ℕ) → p k ≡ true → k < low + many) → xs ≡ those_from p low many
those_are p low zero [] a t within = refl
those_are p low zero (x ∷ xs) a t within =
    let le = a.0 in
    let own = ap {B = ℕ} (λ (b : Bool). if b then 1 else 0) (eq-eqb x x refl) in
    let named = t x a.0 in
    let is : p x ≡ true = by (p x) (times x xs) (omega (arith, own, named)) in
    let few = within x is in
    absurd (omega (arith, few, le))
  where
    by : (b : Bool) (n : ℕ) → 1 + n ≡ (if b then 1 else 0) → b ≡ true
    by true n e = refl
    by false n e = absurd (omega (arith, e))
those_are p low (suc many) xs a t within =
    by (p low) refl (λ ys asc are. those_are p (low + 1) many ys asc are (λ k e.
    let lt = within k e in omega (arith, lt)))
  where
    later : (ys : List ℕ) → times low ys ≡ 0 → Ascend low ys → Ascend (low + 1) ys
    later [] none b = tt
    later (y ∷ ys) none b =
        let le = b.0 in (
          elim (cases_eq y low) [
            | inl same ↦
                let own = ap {B = ℕ} (λ (c : Bool). if c then 1 else 0) (eq-eqb y low same) in
                absurd (omega (arith, own, none))
            | inr other ↦ omega (arith, le, other)
          ],
          b.1,
        )

    first : (ys : List ℕ) → times low ys ≡ 1 → Ascend low ys → AreThose p low ys
        → ((zs : List ℕ) → Ascend (low + 1) zs → AreThose p (low + 1) zs → zs ≡ those_from p (low + 1) many)
        → ys ≡ low ∷ those_from p (low + 1) many
    first [] one b are rest = absurd (omega (arith, one))
    first (y ∷ ys) one b are rest =
        let le = b.0 in
        let here : y ≡ low = elim (cases_eq y low) [
          | inl e ↦ e
          | inr other ↦
              let none = none_lower (y + 1) low ys b.1 (omega (arith, le)) in
              let no = ap {B = ℕ} (λ (c : Bool). if c then 1 else 0) (ne_eqb y low other) in
              absurd (omega (arith, none, no, one))
        ] in
        ap (λ (k : ℕ). k ∷ ys) here
        ∙ ap (λ (zs : List ℕ). low ∷ zs)
        (rest ys (subst (λ (k : ℕ). Ascend (k + 1) ys) here b.1) (λ k lt.
        let no = ap {B = ℕ} (λ (c : Bool). if c then 1 else 0) (ne_eqb y k (λ e. omega (arith, lt, e, here))) in
        let is = are k (omega (arith, lt)) in
        omega (arith, no, is)))

    by : (b : Bool) → p low ≡ b
        → ((zs : List ℕ) → Ascend (low + 1) zs → AreThose p (low + 1) zs → zs ≡ those_from p (low + 1) many)
        → xs ≡ (if b then low ∷ those_from p (low + 1) many else those_from p (low + 1) many)
    by true e rest =
        let one : times low xs ≡ 1 = t low (omega arith) ∙ ap {B = ℕ} (λ (c : Bool). if c then 1 else 0) e in
        first xs one a t rest
    by false e rest =
        let none : times low xs ≡ 0 = t low (omega arith) ∙ ap {B = ℕ} (λ (c : Bool). if c then 1 else 0) e in
        rest xs (later xs none a) (λ k lt. t k (omega (arith, lt)))

-- ---- a call more

pub call_confirmed : (most : ℕ) (f : Flow) (es : List FlowEvent) (c : Call) (o : Option FlowEvent)
    → AreSizesTold f es → Follows most es (sender f).state → IsTold (sender f).state c o → (k : ℕ)
    → times k (places (after (confirmations f).state c) (confirmations_after (confirmations f).state c
    (confirmations f).past)) ≡ (if is_confirmed_sdu (with_told o es) k then 1 else 0)
call_confirmed most f es c o h follows told k =
    ap (λ (v : World Confirmations). times k (places v.state v.past))
    (sym (run-more confirmations_after f.sent c (begun f.sending unconfirmed)))
    ∙ all_confirmed most (calls_more (Calls c o ∷ []) f) (with_told o es)
    (sizes_go_on f es (Calls c o ∷ []) (told, tt) h)
    (subst (λ (w : World Octets). Follows most (with_told o es) w.state)
    (sym (sender-more f c))
    (calls_follow most es (sender f).state c o told follows)) k

-- ---- a STATUS comes

pub more_are : (was now : Bool) (t a : ℕ) → a ≡ (if was then 1 else 0) → a + t ≡ (if now then 1 else 0)
    → t ≡ (if now && not was then 1 else 0)
more_are true true t a e f = omega (arith, e, f)
more_are true false t a e f = absurd (omega (arith, e, f))
more_are false true t a e f = omega (arith, e, f)
more_are false false t a e f = omega (arith, e, f)

status_adds : (most : ℕ) (f : Flow) (es : List FlowEvent) (status : StatusPdu) (o : Option FlowEvent)
    → AreSizesTold f es → Follows most es (sender f).state → IsTold (sender f).state (Status status) o
    → (after (confirmations f).state (Status status)).accounts.news
    ≡ (confirmations f).state.accounts.news ++ newly_confirmed es (with_told o es)
status_adds most f es status o h follows told =
    append_cancel_left w.past.given (after w.state (Status status)).accounts.news
    (w.state.accounts.news ++ newly_confirmed es (with_told o es))
    (order.1.0
    ∙ (ap (λ (xs : List ℕ). (w.past.given ++ w.state.accounts.news) ++ xs) later
    ∙ append_assoc w.past.given w.state.accounts.news (newly_confirmed es (with_told o es))))
  where
    w : World Confirmations
    w = confirmations f

    order : (later : List ℕ)
        × ((places (after w.state (Status status)) (confirmations_after w.state (Status status) w.past)
        ≡ places w.state w.past ++ later) × Ascend 0 later)
    order = (confirms f.sending f.sent).order (Status status)

    are : AreThose (λ k. is_confirmed_sdu (with_told o es) k && not (is_confirmed_sdu es k)) 0 order.0
    are k le =
        let all = ap (times k) order.1.0 in
        let both = times-append k (places w.state w.past) order.0 in
        let behind = call_confirmed most f es (Status status) o h follows told k in
        more_are (is_confirmed_sdu es k) (is_confirmed_sdu (with_told o es) k) (times k order.0)
        (times k (places w.state w.past)) (all_confirmed most f es h follows k) (sym both ∙ (sym all ∙ behind))

    within : (k : ℕ) → (is_confirmed_sdu (with_told o es) k && not (is_confirmed_sdu es k)) ≡ true
        → k < 0 + length (sdu_sizes (with_told o es))
    within k e =
        let both = and_parts (is_confirmed_sdu (with_told o es) k) (not (is_confirmed_sdu es k)) e in
        let sdu = and_parts (nat_lt k (length (sdu_sizes (with_told o es))))
        (all_between (place_acked (with_told o es)) (place_of (sdu_sizes (with_told o es)) k)
        (sdu_end (with_told o es) k)) both.0 in
        let lt = ltb-true k (length (sdu_sizes (with_told o es))) sdu.0 in
        omega (arith, lt)

    later : order.0 ≡ newly_confirmed es (with_told o es)
    later = those_are (λ k. is_confirmed_sdu (with_told o es) k && not (is_confirmed_sdu es k)) 0
        (length (sdu_sizes (with_told o es))) order.0 order.1.1 are within

pub statuses_confirm : StatusesConfirmAsTold
statuses_confirm most f es status o h follows told =
    subst (λ (s : State). (after s (Status status)).accounts.news
    ≡ s.accounts.news ++ newly_confirmed es (with_told o es)) (same-sender f)
    (status_adds most f es status o h follows told)
