-- What an SN is read as.
use Rattle.std.proofs.Common.{◌≡◌, ◌<◌, ◌≤◌, ℕ, ◌+◌, ◌-◌, ◌*◌, ◌%◌, Bool, true, false, if◌then◌else◌, List, []}
use Rattle.std.proofs.Common.{◌∷◌, Option, Some, None, unwrap_or, nat_lt, nat_le, max, refl, ap, sym, ◌∙◌, arith}
use Rattle.std.proofs.lemmas.Bool.{ltb-false}
use Rattle.std.proofs.lemmas.Bool.Decides.{nat_tests}
use Rattle.std.proofs.lemmas.Option.{none-some}
use Rattle.std.proofs.Math.Nat.{mod-lt, add-mod_right}
use Rattle.l2_num.specs.Numbers.{ahead}
use Rattle.l2_num.proofs.NumberLemmas.{reached, ahead-seen}
use Rattle.journal_um.specs.UmEvents.{UmEvent, PduArrived, ReorderStarted, ReorderExpired}
use Rattle.journal_um.specs.UmNumbers.{IsReadAs, raised_number, read_number, top_in, number_above}
use Rattle.journal_um.specs.UmLosses.{far_came, highest_in, ComeInTime}
use Rattle.journal_um.specs.Laws.{ReadsNumbers}
use Rattle.journal_um.specs.LossLaws.{ReadsTruly}
use Rattle.journal_um.proofs.Either.{neither}

record Answers (b : Bool) (x n : ℕ) : Type 0 where
  test : b ≡ false
  is : x ≡ n

answers : (b : Bool) (x n : ℕ) → (if b then None else Some x) ≡ Some n → Answers b x n
answers true x n e = absurd (none-some n e)
answers false x n e = record { test = refl; is = ap (λ (o : Option ℕ). unwrap_or o 0) e }

pub read_is : (width top sn n : ℕ) → 0 < width → sn < 2 * width → read_number width top sn ≡ Some n
    → IsReadAs width top sn n
read_is width top sn n some low e =
    let size : 0 < 2 * width = omega arith in
    let both = answers (nat_lt (raised_number width top sn) (2 * width)) (raised_number width top sn - 2 * width) n e in
    let le = ltb-false (raised_number width top sn) (2 * width) both.test in
    let above = mod-lt (sn + 2 * width - (top + width) % (2 * width)) size in
    let reach = reached (top + width) (2 * width) sn low in
    let is = both.is in
    let back : n + 2 * width ≡ raised_number width top sn = omega (arith, le, is) in
    record {
      from = omega (arith, back);
      below = omega (arith, back, above);
      sn_is = sym (add-mod_right n (2 * width)) ∙ ap (λ (m : ℕ). m % (2 * width)) back ∙ reach;
    }

pub read_only : (width top sn n : ℕ) → 0 < width → sn < 2 * width → IsReadAs width top sn n
    → read_number width top sn ≡ Some n
read_only width top sn n some low r =
    let from = r.from in
    let below = r.below in
    let far : ahead sn ((top + width) % (2 * width)) (2 * width) ≡ n + 2 * width - (top + width) =
    ahead-seen (top + width) (n + 2 * width) (2 * width) ((top + width) % (2 * width)) sn
    (record {
      from = omega (arith, from);
      near = omega (arith, below);
      low_is = refl;
      is = add-mod_right n (2 * width) ∙ r.sn_is;
    }) in
    let raised : raised_number width top sn ≡ n + 2 * width = omega (arith, far, from) in
    let test : nat_lt (n + 2 * width) (2 * width) ≡ false = grind (arith, nat_tests) in
    let back : n + 2 * width - 2 * width ≡ n = omega arith in
    rw (raised, test, back) refl

pub reads_numbers : ReadsNumbers
reads_numbers width top sn some low = record {
  is = λ n e. read_is width top sn n some low e;
  only = λ n r. read_only width top sn n some low r;
}

-- ---- true numbers

near_read : (width top number : ℕ) → 0 < width → top ≤ number + width → number < top + width
    → read_number width top (number % (2 * width)) ≡ Some number
near_read width top number some from below =
    read_only width top (number % (2 * width)) number some (mod-lt number (omega arith))
    (record { from = from; below = below; sn_is = refl })

pub near_truly : (width number : ℕ) (es : List UmEvent) → 0 < width → highest_in es ≤ number + width
    → nat_le (top_in width es + width) number ≡ false → top_in width es ≡ highest_in es
    → read_number width (top_in width es) (number % (2 * width)) ≡ Some number
near_truly width number es some late short top =
    let near : number < top_in width es + width = grind (arith, nat_tests, short) in
    near_read width (top_in width es) number some (omega (arith, top, late)) near

pub top_true : (width : ℕ) (es : List UmEvent) → 0 < width → ComeInTime width es → far_came width es ≡ false
    → top_in width es ≡ highest_in es
top_true width [] some time short = refl
top_true width (PduArrived number pieces ∷ es) some time short =
    let parts = neither (far_came width es) (nat_le (top_in width es + width) number) short in
    let t = top_true width es some time.1 parts.first in
    ap (λ (o : Option ℕ). max (top_in width es) (number_above o))
    (near_truly width number es some time.0 parts.second t)
    ∙ ap (λ (m : ℕ). max m (number + 1)) t
top_true width (ReorderStarted ∷ es) some time short =
    let parts = neither (far_came width es) false short in
    let t = top_true width es some time.1 parts.first in omega (arith, t)
top_true width (ReorderExpired ∷ es) some time short =
    let parts = neither (far_came width es) false short in
    let t = top_true width es some time.1 parts.first in omega (arith, t)

pub reads_truly : ReadsTruly
reads_truly width number pieces es some short =
    let time = short.in_time in
    let parts = neither (far_came width es) (nat_le (top_in width es + width) number) short.near in
    let t = top_true width es some time.1 parts.first in
    record { number_is = near_truly width number es some time.0 parts.second t; top_is = t }
