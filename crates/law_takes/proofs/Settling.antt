-- An account as its fronts move, and the sender's bound with them.
use Rattle.std.proofs.Common.{◌≡◌, ◌<◌, ◌≤◌, ℕ, zero, suc, ◌+◌, ◌-◌, Bool, true, false, ◌||◌, if◌then◌else◌}
use Rattle.std.proofs.Common.{List, [], length, map, min, is_some, refl, ap, sym, ◌∙◌, arith, inl, inr}
use Rattle.std.proofs.lemmas.Bool.{cases_lt, false_from_ne_true, or_left, or_right}
use Rattle.std.proofs.lemmas.List.{length-drop}
use Rattle.l2_num.specs.Ascending.{AreBetween}
use Rattle.l2_num.specs.Least.{past}
use Rattle.l2_num.proofs.LeastLemmas.{past_before, past_stops}
use Rattle.pdcp_pdu.specs.Kinds.{is_am}
use Rattle.pdcp_tx_store.specs.declared.given.Sent.{Sent}
use Rattle.pdcp_tx_store.specs.Given.{from_unacked, data_of}
use Rattle.pdcp_tx.specs.Pdus.{width}
use Rattle.pdcp_tx.specs.State.{State, low, moved, kept_again, first_again}
use Rattle.journal_takes.specs.TakeEvents.{has_count}
use Rattle.journal_takes.specs.FlowTakes.{FlowTakes, bound_of, first_open, settled}
use Rattle.journal_takes.proofs.CountSets.{from_has}
use Rattle.journal_takes.proofs.CountFronts.{open_from, open_to}
use Rattle.law_takes.specs.Accounted.{is_confirmed, numbered, is_left_out, unreported, IsInOrder, IsSettled}
use Rattle.law_takes.specs.Accounted.{IsAccounted}
use Rattle.law_takes.proofs.Numbered.{same-numbered, without-front, all-left-out, from-first, Head, head, below-is-out}
use Rattle.law_takes.proofs.Numbered.{above-is-as, out-to}
use Rattle.law_takes.proofs.Kept.{low-is, counts, higher}

-- ---- COUNTs below one, and those that a test accepts

-- the test accepts those between
pub out-more : (low more : ℕ) (out : ℕ → Bool) → low ≤ more → ((k : ℕ) → low ≤ k → k < more → out k ≡ true)
    → (k : ℕ) → out-to low out k ≡ out-to more out k
out-more low more out le o k = elim (cases_lt k more) [
  | inl lt ↦
      let yes : out-to more out k ≡ true = below-is-out more k out lt in
      elim (cases_lt k low) [
        | inl below ↦ below-is-out low k out below ∙ sym yes
        | inr from ↦ above-is-as low k out from ∙ o k from lt ∙ sym yes
      ]
  | inr ge ↦ above-is-as low k out (omega (arith, le, ge)) ∙ sym (above-is-as more k out ge)
]

pub out-twice : (low more : ℕ) (out : ℕ → Bool) → low ≤ more → (k : ℕ)
    → out-to more (out-to low out) k ≡ out-to more out k
out-twice low more out le k = elim (cases_lt k more) [
  | inl lt ↦ below-is-out more k (out-to low out) lt ∙ sym (below-is-out more k out lt)
  | inr ge ↦
      above-is-as more k (out-to low out) ge ∙ above-is-as low k out (omega (arith, le, ge))
      ∙ sym (above-is-as more k out ge)
]

pub out-same : (low : ℕ) (out out' : ℕ → Bool) (k : ℕ) → (low ≤ k → out k ≡ out' k)
    → out-to low out k ≡ out-to low out' k
out-same low out out' k f = elim (cases_lt k low) [
  | inl lt ↦ below-is-out low k out lt ∙ sym (below-is-out low k out' lt)
  | inr ge ↦ above-is-as low k out ge ∙ f ge ∙ sym (above-is-as low k out' ge)
]

-- ---- the fronts

abbrev pub low-end : FlowTakes → ℕ
low-end t = first_open t.confirmed t.next t.low

abbrev pub at-end : FlowTakes → ℕ
at-end t = first_open t.reported t.next t.at

abbrev pub from-end : FlowTakes → ℕ
from-end t = min (low-end t) (at-end t)

pub none-reported : (t : FlowTakes) (count : ℕ) → IsInOrder t → t.low ≤ count → has_count t.confirmed count ≡ false
    → has_count t.reported count ≡ false
none-reported t count o le none =
    false_from_ne_true (has_count t.reported count)
    (λ e. let yes : true ≡ false = sym (o.reported count le e) ∙ none in absurd cc)

low-stops : (t : FlowTakes) → IsInOrder t → has_count t.confirmed (low-end t) ≡ false
low-stops t o = elim (cases_lt (low-end t) t.next) [
  | inl lt ↦ past_stops (has_count t.confirmed) (t.next - t.low) t.low (omega (arith, lt, o.low))
  | inr ge ↦ o.taken (low-end t) ge
]

at-stops : (t : FlowTakes) → IsInOrder t → has_count t.reported (at-end t) ≡ false
at-stops t o = elim (cases_lt (at-end t) t.next) [
  | inl lt ↦ past_stops (has_count t.reported) (t.next - t.at) t.at (omega (arith, lt, o.at))
  | inr ge ↦ none-reported t (at-end t) o (omega (arith, ge, o.low)) (o.taken (at-end t) ge)
]

past-still : (passes : ℕ → Bool) (fuel p : ℕ) → passes p ≡ false → past passes fuel p ≡ p
past-still passes zero p e = refl
past-still passes (suc fuel) p e = ap (λ (b : Bool). if b then past passes fuel (p + 1) else p) e

-- the bound stays with U
pub bound-stays : (t : FlowTakes) → has_count t.confirmed t.low ≡ false → bound_of (settled t) ≡ bound_of t
bound-stays t none =
    ap (λ (n : ℕ). (if t.reporting then t.begun else n) + t.width)
    (past-still (has_count t.confirmed) (t.next - t.low) t.low none)

-- ---- what is kept

pub confirmed-same : (t : FlowTakes) (k : ℕ) → is_confirmed t k ≡ is_confirmed (settled t) k
confirmed-same t k =
    out-more t.low (low-end t) (has_count t.confirmed) (open_from t.confirmed t.next t.low)
    (past_before (has_count t.confirmed) (t.next - t.low) t.low) k
    ∙ out-same (low-end t) (has_count t.confirmed) (has_count (settled t).confirmed) k
    (λ le. sym (from_has (low-end t) t.confirmed k le))

from-up : (t : FlowTakes) → IsInOrder t → t.from ≤ from-end t
from-up t o =
    omega (
      arith,
      o.from_low,
      o.from_at,
      open_from t.confirmed t.next t.low,
      open_from t.reported t.next t.at,
    )

unreported-settled : (t : FlowTakes) (low' : ℕ) → IsInOrder t → from-end t ≤ low'
    → unreported low' t ≡ unreported low' (settled t)
unreported-settled t low' o le =
    without-front (is_left_out low' t) (is_confirmed t) t.from (from-end t) t.sdus (from-up t o)
    (λ k a b. below-is-out low' k (has_count t.reported) (omega (arith, b, le)))
    ∙ same-numbered (is_left_out low' t) (is_confirmed t) (is_left_out low' (settled t)) (is_confirmed (settled t))
    (from-end t) (settled t).sdus
    (λ k a b. out-same low' (has_count t.reported) (has_count (settled t).reported) k
    (λ up. sym (from_has (from-end t) t.reported k a)))
    (λ k a b e. confirmed-same t k)

unreported-on : (t : FlowTakes) → unreported t.at t ≡ unreported (at-end t) t
unreported-on t =
    same-numbered (is_left_out t.at t) (is_confirmed t) (is_left_out (at-end t) t) (is_confirmed t) t.from t.sdus
    (λ k a b. out-more t.at (at-end t) (has_count t.reported) (open_from t.reported t.next t.at)
    (past_before (has_count t.reported) (t.next - t.at) t.at) k)
    (λ k a b e. refl)

unconfirmed-on : (t : FlowTakes) → IsInOrder t → from_unacked (unreported t.low t) ≡ unreported (low-end t) t
unconfirmed-on t o =
    from-first (is_left_out t.low t) (is_confirmed t) t.from (low-end t) t.sdus (omega (arith, o.from_low, up))
    passes stops
    ∙ same-numbered (out-to (low-end t) (is_left_out t.low t)) (is_confirmed t) (is_left_out (low-end t) t)
    (is_confirmed t) t.from t.sdus (λ k a b. out-twice t.low (low-end t) (has_count t.reported) up k)
    (λ k a b e. refl)
  where
    up : t.low ≤ low-end t
    up = open_from t.confirmed t.next t.low

    passes : (k : ℕ) → t.from ≤ k → k < low-end t → (is_left_out t.low t k || is_confirmed t k) ≡ true
    passes k a b = elim (cases_lt k t.low) [
      | inl below ↦
          or_left (is_left_out t.low t k) (is_confirmed t k) (below-is-out t.low k (has_count t.reported) below)
      | inr from ↦
          or_right (is_left_out t.low t k) (is_confirmed t k)
          (above-is-as t.low k (has_count t.confirmed) from
          ∙ past_before (has_count t.confirmed) (t.next - t.low) t.low k from b)
    ]

    stops : low-end t < t.from + length t.sdus
        → (is_left_out t.low t (low-end t) ≡ false) × (is_confirmed t (low-end t) ≡ false)
    stops lt = (
      above-is-as t.low (low-end t) (has_count t.reported) up ∙ none-reported t (low-end t) o up (low-stops t o),
      above-is-as t.low (low-end t) (has_count t.confirmed) up ∙ low-stops t o,
    )

pub bound-grows : (b : Bool) (begun low' more w : ℕ) → low' ≤ more
    → (if b then begun else low') + w ≤ (if b then begun else more) + w
bound-grows true begun low' more w le = omega arith
bound-grows false begun low' more w le = omega (arith, le)

pub is-settled : (t : FlowTakes) → IsInOrder t → IsSettled (settled t)
is-settled t o =
    let up = open_from t.confirmed t.next t.low in
    let on = open_from t.reported t.next t.at in
    let low-to = open_to t.confirmed t.next t.low o.low in
    let at-to = open_to t.reported t.next t.at o.at in
    let from = from-up t o in
    record {
      order = record {
        from_low = omega arith;
        from_at = omega arith;
        begun = omega (arith, o.begun, up);
        low = low-to;
        at = at-to;
        within = omega (arith, o.within, bound-grows t.reporting t.begun t.low (low-end t) t.width up);
        sdus = omega (arith, length-drop (from-end t - t.from) t.sdus, o.sdus, from, low-to);
        taken = λ k le. from_has (low-end t) t.confirmed k (omega (arith, le, low-to)) ∙ o.taken k le;
        reported = λ k le e.
            from_has (low-end t) t.confirmed k le
            ∙ o.reported k (omega (arith, le, up))
            (sym (from_has (from-end t) t.reported k (omega (arith, le))) ∙ e);
      };
      low_open = from_has (low-end t) t.confirmed (low-end t) (omega arith) ∙ low-stops t o;
      at_open = from_has (from-end t) t.reported (at-end t) (omega arith) ∙ at-stops t o;
    }

-- ---- the first of what is kept

pub head-at : (t : FlowTakes) (n : ℕ) → IsInOrder t → t.from ≤ n → n < t.next → has_count t.reported n ≡ false
    → Head (is_left_out n t) (is_confirmed t) t.from n t.sdus
head-at t n o le lt none =
    head (is_left_out n t) (is_confirmed t) t.from n t.sdus le (omega (arith, lt, o.sdus))
    (λ k a b. below-is-out n k (has_count t.reported) b)
    (above-is-as n n (has_count t.reported) (omega arith) ∙ none)

pub none-at : (t : FlowTakes) (n : ℕ) → IsInOrder t → t.next ≤ n → unreported n t ≡ []
none-at t n o le =
    all-left-out (is_left_out n t) (is_confirmed t) t.from t.sdus
    (λ k a b. below-is-out n k (has_count t.reported) (omega (arith, b, le, o.sdus)))

-- and behind it
pub rest-at : (t : FlowTakes) (n : ℕ)
    → numbered (out-to (n + 1) (is_left_out n t)) (is_confirmed t) t.from t.sdus ≡ unreported (n + 1) t
rest-at t n =
    same-numbered (out-to (n + 1) (is_left_out n t)) (is_confirmed t) (is_left_out (n + 1) t) (is_confirmed t) t.from
    t.sdus (λ k a b. out-twice n (n + 1) (has_count t.reported) (omega arith) k) (λ k a b e. refl)

pub first-kept : (t : FlowTakes) (next : ℕ) → next ≡ t.next → IsSettled t
    → first_again (unreported t.low t) next ≡ t.low
first-kept t next is a = elim (cases_lt t.low t.next) [
  | inl lt ↦
      let h = head-at t t.low a.order a.order.from_low lt
      (none-reported t t.low a.order (omega arith) a.low_open) in
      ap (λ (l : List Sent). first_again l next) h.is
  | inr ge ↦
      ap (λ (l : List Sent). first_again l next) (none-at t t.low a.order ge)
      ∙ omega (arith, is, ge, a.order.low)
]

pub low-told : (s : State) (t : FlowTakes) → s.next ≡ t.next → kept_again s ≡ unreported t.low t → IsSettled t
    → low s ≡ t.low
low-told s t next kept a =
    low-is s ∙ ap (λ (l : List Sent). first_again l s.next) kept ∙ first-kept t s.next next a

-- ---- both sides before the fronts move

pub record Before (s : State) (t : FlowTakes) : Type 0 where
  pub am : is_am s.kind ≡ true
  pub width : width s.kind ≡ t.width
  pub next : s.next ≡ t.next
  pub base : s.base ≡ t.begun
  pub waiting : map (λ w. w.sdu) s.waiting ≡ t.waiting
  pub due : is_some s.owed ≡ t.due
  pub reporting : s.reporting ≡ t.reporting
  pub again : s.again ≡ unreported t.at t
  pub kept : kept_again s ≡ from_unacked (unreported t.low t)
  pub given : AreBetween 0 (counts (data_of s.given.entries)) t.at
  pub order : IsInOrder t

kept-on : (s : State) (t : FlowTakes) → Before s t → kept_again s ≡ unreported (low-end t) (settled t)
kept-on s t b = b.kept ∙ unconfirmed-on t b.order ∙ unreported-settled t (low-end t) b.order (omega arith)

pub settles : (s : State) (t : FlowTakes) → Before s t → s.bound ≡ bound_of (settled t) → IsAccounted s (settled t)
settles s t b bound = record {
  am = b.am;
  width = b.width;
  next = b.next;
  base = b.base;
  bound = bound;
  waiting = b.waiting;
  due = b.due;
  reporting = b.reporting;
  again = b.again ∙ unreported-on t ∙ unreported-settled t (at-end t) b.order (omega arith);
  kept = kept-on s t b;
  given = higher 0 (counts (data_of s.given.entries)) t.at (at-end t) (open_from t.reported t.next t.at) b.given;
  account = is-settled t b.order;
}

pub moved-bound : (r r' : Bool) (bound begun low' more w w' : ℕ) → r ≡ r' → (r' ≡ true → bound ≡ begun + w')
    → low' ≡ more → w ≡ w' → (if r then bound else low' + w) ≡ (if r' then begun else more) + w'
moved-bound true true bound begun low' more w w' e f is same = f refl
moved-bound true false bound begun low' more w w' e f is same = absurd cc
moved-bound false true bound begun low' more w w' e f is same = absurd cc
moved-bound false false bound begun low' more w w' e f is same = omega (arith, is, same)

-- it stands while RLC hasn't confirmed the report
pub bound-held : (s : State) (t : FlowTakes) → IsAccounted s t → t.reporting ≡ true → s.bound ≡ t.begun + t.width
bound-held s t h e = h.bound ∙ ap (λ (b : Bool). (if b then t.begun else t.low) + t.width) e

-- the bound moves as well
pub moves : (s : State) (t : FlowTakes) → Before s t → (t.reporting ≡ true → s.bound ≡ t.begun + t.width)
    → IsAccounted (moved s) (settled t)
moves s t b f =
    settles (moved s) t
    (record {
      am = b.am;
      width = b.width;
      next = b.next;
      base = b.base;
      waiting = b.waiting;
      due = b.due;
      reporting = b.reporting;
      again = b.again;
      kept = b.kept;
      given = b.given;
      order = b.order;
    })
    (moved-bound s.reporting t.reporting s.bound t.begun (low s) (low-end t) (width s.kind) t.width b.reporting f
    (low-told s (settled t) b.next (kept-on s t b) (is-settled t b.order)) b.width)
