-- A status report that says which COUNTs have come, as the sender reads it.
use Rattle.std.proofs.Common.{◌≡◌, ◌<◌, ◌≤◌, ℕ, zero, suc, ◌+◌, ◌-◌, ◌*◌, ◌/◌, ◌%◌, ◌^◌, ◌==◌, Bool, true, false, ◌||◌}
use Rattle.std.proofs.Common.{◌&&◌, nat_lt, if◌then◌else◌, List, ◌∷◌, length, Some, None, inl, inr, slice_index, refl}
use Rattle.std.proofs.Common.{ap, sym, ◌∙◌, arith, subst}
use Rattle.std.specs.Prelude.{nat_le}
use Rattle.std.proofs.lemmas.Bool.Decides.{nat_tests}
use Rattle.std.proofs.lemmas.Bool.{cases_lt, eq-eqb, ne_eqb, lt-ltb, le-ltb}
use Rattle.std.proofs.lemmas.List.{get_or_past}
use Rattle.pdcp_pdu.specs.Grammar.{bit_of}
use Rattle.pdcp_pdu.specs.Kinds.{IsKind}
use Rattle.pdcp_pdu.specs.declared.PdcpKind.{PdcpKind}
use Rattle.pdcp_pdu.specs.declared.PdcpKind.TheVariants.{Am}
use Rattle.pdcp_tx_store.specs.Given.{tells}
use Rattle.pdcp_tx.specs.State.{fms_count, ahead}
use Rattle.journal_takes.specs.TakeEvents.{has_count}
use Rattle.journal_given.specs.Supplies.{marked_from}
use Rattle.law_given.specs.SupplyLaws.{SaidIsRead}

-- ---- the COUNTs that it marks

-- a COUNT that isn't that of one of the bits
marks-none : (bitmap : List ℕ) (first k n count : ℕ)
    → ((at : ℕ) → k ≤ at → at < k + n → first + at ≡ count → ⊥)
    → has_count (marked_from bitmap first k n) count ≡ false
marks-none bitmap first k zero count other = refl
marks-none bitmap first k (suc n) count other =
    by (bit_of bitmap k)
    (marks-none bitmap first (k + 1) n count (λ at le lt. other at (omega (arith, le)) (omega (arith, lt))))
  where
    by : (b : Bool) → has_count (marked_from bitmap first (k + 1) n) count ≡ false
        → has_count (if b then (first + k) ∷ marked_from bitmap first (k + 1) n
        else marked_from bitmap first (k + 1) n) count ≡ false
    by true rest =
        ap (λ (b : Bool). b || has_count (marked_from bitmap first (k + 1) n) count)
        (ne_eqb (first + k) count (λ e. other k (omega arith) (omega arith) e)) ∙ rest
    by false rest = rest

-- so many bits from one on
marks-so : (bitmap : List ℕ) (first k n at : ℕ) → k ≤ at → at < k + n
    → has_count (marked_from bitmap first k n) (first + at) ≡ bit_of bitmap at
marks-so bitmap first k zero at le lt = absurd (omega (arith, le, lt))
marks-so bitmap first k (suc n) at le lt = elim (cases_lt k at) [
  | inl above ↦
      later above (bit_of bitmap k) (marks-so bitmap first (k + 1) n at (omega (arith, above)) (omega (arith, lt)))
  | inr here ↦ first' (bit_of bitmap k) refl (omega (arith, le, here))
]
  where
    later : k < at → (b : Bool)
        → has_count (marked_from bitmap first (k + 1) n) (first + at) ≡ bit_of bitmap at
        → has_count (if b then (first + k) ∷ marked_from bitmap first (k + 1) n
        else marked_from bitmap first (k + 1) n) (first + at) ≡ bit_of bitmap at
    later above true ih =
        ap (λ (b : Bool). b || has_count (marked_from bitmap first (k + 1) n) (first + at))
        (ne_eqb (first + k) (first + at) (λ e. absurd (omega (arith, e, above)))) ∙ ih
    later above false ih = ih

    first' : (b : Bool) → bit_of bitmap k ≡ b → k ≡ at
        → has_count (if b then (first + k) ∷ marked_from bitmap first (k + 1) n
        else marked_from bitmap first (k + 1) n) (first + at) ≡ bit_of bitmap at
    first' true is same =
        ap (λ (b : Bool). b || has_count (marked_from bitmap first (k + 1) n) (first + at))
        (eq-eqb (first + k) (first + at) (omega (arith, same)))
        ∙ sym (sym (ap (bit_of bitmap) same) ∙ is)
    first' false is same =
        marks-none bitmap first (k + 1) n (first + at) (λ i le' lt' e. omega (arith, same, le', e))
        ∙ sym (sym (ap (bit_of bitmap) same) ∙ is)

zero-bit : (d : ℕ) → (0 / d % 2 == 1) ≡ false
zero-bit d = grind (arith, nat_tests)

pub bits-end : (bitmap : List ℕ) (k : ℕ) → 8 * length bitmap ≤ k → bit_of bitmap k ≡ false
bits-end bitmap k le =
    let past : slice_index bitmap (k / 8) ≡ 0 = get_or_past bitmap (k / 8) 0 (omega (arith, le)) in
    ap (λ (n : ℕ). n / 2 ^ (7 - k % 8) % 2 == 1) past ∙ zero-bit (2 ^ (7 - k % 8))

marks-all : (bitmap : List ℕ) (first n at : ℕ) → (n ≤ at → bit_of bitmap at ≡ false)
    → has_count (marked_from bitmap first 0 n) (first + at) ≡ bit_of bitmap at
marks-all bitmap first n at f = elim (cases_lt at n) [
  | inl lt ↦ marks-so bitmap first 0 n at (omega arith) (omega (arith, lt))
  | inr ge ↦ marks-none bitmap first 0 n (first + at) (λ k le lt e. omega (arith, lt, e, ge)) ∙ sym (f ge)
]

-- from its FMS on
pub marks-tell : (bitmap : List ℕ) (from count : ℕ) → from ≤ count
    → has_count (marked_from bitmap (from + 1) 0 (8 * length bitmap)) count ≡ tells from bitmap count
marks-tell bitmap from count le = elim (cases_lt from count) [
  | inl lt ↦
      let same : count ≡ from + 1 + (count - from - 1) = omega (arith, lt) in
      ap (has_count (marked_from bitmap (from + 1) 0 (8 * length bitmap))) same
      ∙ marks-all bitmap (from + 1) (8 * length bitmap) (count - from - 1) (bits-end bitmap (count - from - 1))
      ∙ ap (λ (b : Bool). b && bit_of bitmap (count - from - 1)) (sym (lt-ltb from count lt))
      ∙ ap (λ (b : Bool). b || (nat_lt from count && bit_of bitmap (count - from - 1))) (sym (le-ltb count from le))
  | inr ge ↦
      marks-none bitmap (from + 1) 0 (8 * length bitmap) count (λ i le' lt' e. omega (arith, ge, e))
      ∙ ap (λ (b : Bool). b && bit_of bitmap (count - from - 1)) (sym (le-ltb from count ge))
      ∙ ap (λ (b : Bool). b || (nat_lt from count && bit_of bitmap (count - from - 1))) (sym (le-ltb count from le))
]

-- ---- its FMS

by-ahead : (base next high d : ℕ) → base + d ≡ next → d ≤ high
    → (if nat_le d high then Some (base + d) else None) ≡ Some next
by-ahead base next high d q le =
    let yes : nat_le d high ≡ true = grind (arith, nat_tests) in
    ap (λ (t : Bool). if t then Some (base + d) else None) yes ∙ ap (λ (n : ℕ). Some n) q

by-bits : (bits base next : ℕ) → IsKind (Am bits) → base ≤ next → next ≤ base + 2 ^ (bits - 1)
    → fms_count (Am bits) base (next % 2 ^ bits) ≡ Some next
by-bits bits base next (inl e) a b =
    let near : next ≤ base + 2048 = subst (λ (n : ℕ). next ≤ base + 2 ^ (n - 1)) e b in
    subst (λ (n : ℕ). fms_count (Am n) base (next % 2 ^ n) ≡ Some next) (sym e)
    (by-ahead base next 2048 (ahead (Am 12) base (next % 4096)) (omega arith) (omega arith))
by-bits bits base next (inr e) a b =
    let near : next ≤ base + 16384 = subst (λ (n : ℕ). next ≤ base + 2 ^ (n - 1)) e b in
    subst (λ (n : ℕ). fms_count (Am n) base (next % 2 ^ n) ≡ Some next) (sym e)
    (by-ahead base next 16384 (ahead (Am 15) base (next % 32768)) (omega arith) (omega arith))

pub said_is_read : SaidIsRead
said_is_read bits x fms bitmap said k same h w = record {
  read = ap (λ (kind : PdcpKind). fms_count kind x.base fms) same
      ∙ ap (fms_count (Am bits) x.base) h.fms_is
      ∙ by-bits bits x.base said.next k w.from w.to;
  marked = λ count le lt.
      ap (λ (marks : List ℕ). has_count marks count) (sym h.marks_are)
      ∙ marks-tell bitmap said.next count le;
}
