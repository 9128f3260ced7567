-- Elements and entries that fit: their lengths, and the fields of each.
use Rattle.std.proofs.Common.{◌≡◌, ℕ, zero, suc, ◌+◌, ◌==◌, ◌&&◌, Bool, true, false, List, [], ◌∷◌, length}
use Rattle.std.proofs.Common.{map, arith, nat_lt, Some, None, refl, ap, sym, ◌∙◌, length-append, sum}
use Rattle.std.proofs.lemmas.List.Sums.{sum_by-cons}
use Rattle.std.proofs.lemmas.Bool.Decides.{nat_tests}
use Rattle.std.specs.Prelude.{nat_le, if◌then◌else◌}
use Rattle.std.specs.Prelude.{All}
use Rattle.std.specs.List.{concat, list_all}
use Rattle.rlc_pdu.specs.Pdus.{AreLens, IsPart, IsNack}
use Rattle.l2_c.specs.declared.rlc.PlainNack.{PlainNack}
use Rattle.l2_c.specs.Rlc.{elements_fit, AreShort, nack_fits, nack_seen}

pub whole : (es : List (List ℕ)) → sum (map length es) ≡ length (concat es)
whole [] = refl
whole (e ∷ es) = sum_by-cons (λ (k : ℕ). k) (length e) (map length es) ∙ ap (λ n. length e + n) (whole es)
    ∙ sym (length-append e (concat es))

pub fit_lens : (es : List (List ℕ)) → elements_fit es ≡ true → AreLens (map length es)
fit_lens [] h = absurd cc
fit_lens (e ∷ []) h = grind arith
fit_lens (e ∷ f ∷ es) h = (grind arith, grind arith, fit_lens (f ∷ es) (grind arith))

pub fit_short : (es : List (List ℕ)) → elements_fit es ≡ true → AreShort es
fit_short [] h = absurd cc
fit_short (e ∷ []) h = (grind arith, tt)
fit_short (e ∷ f ∷ es) h = (grind arith, fit_short (f ∷ es) (grind arith))

part_by : (z o : Bool) (has start end : ℕ) → (has == 0) ≡ z → (has == 1) ≡ o
    → (if z then true else if o then nat_le start end && nat_lt end 32768 else false) ≡ true
    → IsPart (if o then Some (record { start = start; end = end }) else None)
part_by z false has start end ez eo h = tt
part_by true true has start end ez eo h =
    let none : has ≡ 0 = grind (arith, nat_tests, ez) in
    let one : has ≡ 1 = grind (arith, nat_tests, eo) in
    absurd (omega (arith, none, one))
part_by false true has start end ez eo h = (grind arith, grind arith)

nack_is : (n : PlainNack) → nack_fits n ≡ true → IsNack (nack_seen n)
nack_is n h = record { number = grind arith; part = part_by _ _ n.has_part n.start n.end refl refl (grind arith) }

pub nacks_are : (ns : List PlainNack) → list_all nack_fits ns ≡ true → All IsNack (map nack_seen ns)
nacks_are [] h k d l = absurd (omega (arith, l))
nacks_are (n ∷ ns) h zero d l = nack_is n (grind arith)
nacks_are (n ∷ ns) h (suc k) d l = nacks_are ns (grind arith) k d (omega (arith, l))

pub ruleset fitting = (whole, fit_lens, fit_short, nacks_are)
