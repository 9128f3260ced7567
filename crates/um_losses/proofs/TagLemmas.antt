-- The lengths of tags: 8 octets each.
use Rattle.std.proofs.Common.{◌≡◌, ℕ, zero, suc, ◌+◌, ◌*◌, ◌^◌, ◌<◌, ◌≤◌, Bool, true, false, if◌then◌else◌, ◌==◌}
use Rattle.std.proofs.Common.{List, length, map, replicate, Option, Some, None, arith, refl, ap, sym, ◌∙◌}
use Rattle.std.proofs.Common.{subst}
use Rattle.std.proofs.lemmas.Bool.Decides.{nat_tests}
use Rattle.std.proofs.lemmas.List.{length-replicate}
use Rattle.std.proofs.lemmas.List.Sums.{sum_by-cons}
use Rattle.std.specs.List.{sum, concat}
use Rattle.rlc_pdu.specs.Pdus.{AreLens}
use Rattle.rlc_pdu.specs.Writing.{umd_canonical}
use Rattle.rlc_pdu.proofs.Again.{sizes}
use Rattle.rlc_queue.proofs.Lens.{whole}
use Rattle.um_losses.specs.declared.pdu.Pdu.{Pdu}
use Rattle.um_losses.specs.Pdus.{is_pdu}
use Rattle.um_losses.specs.Tags.{octets_of, tags, elements, tagged}

octets_long : (tag : ℕ) → length (octets_of tag) ≡ 8
unfolding octets_of
octets_long tag = refl

lens-of : (tag step n : ℕ) → map length (tags tag step n) ≡ replicate n 8
lens-of tag step zero = refl
lens-of tag step (suc n) = rw (octets_long tag, lens-of (tag + step) step n) refl

pub lens_are : (first : Option ℕ) (n : ℕ) → map length (elements first n) ≡ replicate n 8
lens_are None n = lens-of 0 0 n
lens_are (Some first) n = lens-of (first + 1) 1 n

pub sum_is : (first : Option ℕ) (n : ℕ) → sum (replicate n 8) ≡ length (concat (elements first n))
sum_is first n = ap (λ (l : List ℕ). sum l) (sym (lens_are first n)) ∙ whole (elements first n)

pub are_lens : (n : ℕ) → 0 < n → AreLens (replicate n 8)
are_lens zero h = elim h [ ]
are_lens (suc zero) h = omega arith
are_lens (suc (suc n)) h = (omega arith, omega arith, are_lens (suc n) (omega arith))

eights : (n : ℕ) → sum (replicate n 8) ≡ 8 * n
eights zero = refl
eights (suc n) = omega (arith, sum_by-cons (λ (k : ℕ). k) 8 (replicate n 8), eights n)

header-few : (b : Bool) → (if b then 1 else 2) ≤ 2
header-few true = omega arith
header-few false = omega arith

pub few_octets : (bits : ℕ) (first : Option ℕ) (p : Pdu) → is_pdu bits p ≡ true
    → length (umd_canonical bits (tagged first p)) < 2 ^ 28
few_octets bits first p h =
    let n = p.elements in
    let some : 0 < n = grind (arith, nat_tests, h) in
    let few : n ≤ 9422 = grind (arith, nat_tests, h) in
    let lens : AreLens (map length (elements first n)) =
    subst (λ (l : List ℕ). AreLens l) (sym (lens_are first n)) (are_lens n some) in
    let long = (sizes (map length (elements first n)) (concat (elements first n)) lens).umd bits p.sn p.fi in
    let many : length (map length (elements first n)) ≡ n =
    ap (λ (l : List ℕ). length l) (lens_are first n) ∙ length-replicate n 8 in
    let field : length (concat (elements first n)) ≡ 8 * n = sym (sum_is first n) ∙ eights n in
    let header = header-few (bits == 5) in
    omega (arith, some, few, long, many, field, header)

pub ruleset written = (lens_are, sum_is, are_lens, few_octets)
