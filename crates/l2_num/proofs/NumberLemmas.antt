-- Numbers modulo a size, and the true numbers behind them.
use Rattle.std.proofs.Common.{◌≡◌, ◌<◌, ◌≤◌, ℕ, ◌+◌, ◌-◌, ◌*◌, ◌/◌, ◌%◌, ◌^◌, ◌∙◌, ap, arith, inl, inr, refl, Some}
use Rattle.std.proofs.Common.{nat_lt, true}
use Rattle.std.proofs.lemmas.Nat.{mod-mul-add, div-add-mod', mod_below}
use Rattle.std.proofs.lemmas.Bool.{cases_lt}
use Rattle.std.proofs.lemmas.Bool.Decides.{nat_tests}
use Rattle.l2_num.specs.Numbers.{ahead, IsRecovered, IsSeenAs, recovered}

-- what a number a little above another is modulo size
pub reduced_near : (low size d : ℕ) → low % size + d < size → (low + d) % size ≡ low % size + d
reduced_near low size d lt =
    let whole : low + d ≡ low / size * size + (low % size + d) = omega (arith, div-add-mod' low size) in
    ap (λ (n : ℕ). n % size) whole ∙ mod-mul-add (low / size) size (low % size + d) lt

-- and further above, past the circle's end
pub reduced_around : (low size d : ℕ) → size ≤ low % size + d → low % size + d < size + size
    → (low + d) % size ≡ low % size + d - size
reduced_around low size d from lt =
    let whole : low + d ≡ (low / size + 1) * size + (low % size + d - size) = omega (arith, div-add-mod' low size) in
    ap (λ (n : ℕ). n % size) whole ∙ mod-mul-add (low / size + 1) size (low % size + d - size) (omega arith)

-- the distance between two true numbers less than size apart
pub ahead-reduced : (low size d : ℕ) → d < size → ahead ((low + d) % size) (low % size) size ≡ d
ahead-reduced low size d lt = elim (cases_lt (low % size + d) size) [
  | inl near ↦
      let over : (low + d) % size + size - low % size ≡ 1 * size + d =
      omega (arith, reduced_near low size d near, mod_below low size (omega arith)) in
      ap (λ (n : ℕ). n % size) over ∙ mod-mul-add 1 size d lt
  | inr far ↦
      let bound : low % size + d < size + size = omega (arith, mod_below low size (omega arith)) in
      let over : (low + d) % size + size - low % size ≡ 0 * size + d =
      omega (arith, reduced_around low size d far bound, mod_below low size (omega arith)) in
      ap (λ (n : ℕ). n % size) over ∙ mod-mul-add 0 size d lt
]

-- the distance to a number below the base goes round the circle, and to one above is the difference
pub ahead-under : (x base size : ℕ) → x < base → base < size → ahead x base size ≡ x + size - base
ahead-under x base size under lt =
    let over : x + size - base ≡ 0 * size + (x + size - base) = omega arith in
    ap (λ (n : ℕ). n % size) over ∙ mod-mul-add 0 size (x + size - base) (omega arith)

pub ahead-above : (x base size : ℕ) → base ≤ x → x < size → ahead x base size ≡ x - base
ahead-above x base size above lt =
    let over : x + size - base ≡ 1 * size + (x - base) = omega arith in
    ap (λ (n : ℕ). n % size) over ∙ mod-mul-add 1 size (x - base) (omega arith)

-- adding the distance to a true number reaches the reduced one
pub reached : (low size x : ℕ) → x < size → (low + ahead x (low % size) size) % size ≡ x
reached low size x lt =
    let bound : low % size < size = mod_below low size (omega arith) in
    elim (cases_lt x (low % size)) [
      | inl under ↦
          ap (λ (d : ℕ). (low + d) % size) (ahead-under x (low % size) size under bound)
          ∙ reduced_around low size (x + size - low % size) (omega arith) (omega arith) ∙ omega arith
      | inr above ↦
          ap (λ (d : ℕ). (low + d) % size) (ahead-above x (low % size) size above lt)
          ∙ reduced_near low size (x - low % size) (omega arith) ∙ omega arith
    ]

pub ahead-seen : (low n size base x : ℕ) → IsSeenAs low n size base x → ahead x base size ≡ n - low
ahead-seen low n size base x h =
    let same : low + (n - low) ≡ n = omega arith in
    let e : ahead ((low + (n - low)) % size) (low % size) size ≡ n - low =
    ahead-reduced low size (n - low) (omega arith) in
    rw (← h.is, ← h.low_is) (rw same at e)

-- ---- the number that an SN stands for

-- the distance to it from next
pub ahead-recovered : (next sn bits width n : ℕ) → width ≤ 2 ^ bits → IsRecovered next sn bits width n
    → ahead sn (next % 2 ^ bits) (2 ^ bits) ≡ n - next
ahead-recovered next sn bits width n w h =
    ahead-seen next n (2 ^ bits) (next % 2 ^ bits) sn
    (record { from = h.from; near = omega (arith, h.below); low_is = refl; is = h.sn_is })

pub IsRecovered-ahead : (next sn bits width : ℕ) → sn < 2 ^ bits → ahead sn (next % 2 ^ bits) (2 ^ bits) < width
    → IsRecovered next sn bits width (next + ahead sn (next % 2 ^ bits) (2 ^ bits))
IsRecovered-ahead next sn bits width lt near = record {
  from = omega arith;
  below = omega arith;
  sn_is = reached next (2 ^ bits) sn lt;
}

pub recovered-reduced : (next sn bits width n : ℕ) → width ≤ 2 ^ bits → IsRecovered next sn bits width n
    → recovered next sn bits width ≡ Some n
recovered-reduced next sn bits width n w h =
    let far : ahead sn (next % 2 ^ bits) (2 ^ bits) ≡ n - next = ahead-recovered next sn bits width n w h in
    let test : nat_lt (n - next) width ≡ true = grind (arith, nat_tests, h.from, h.below) in
    let back : next + (n - next) ≡ n = omega (arith, h.from) in
    rw (far, test, back) refl
