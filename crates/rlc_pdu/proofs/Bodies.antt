-- Elements behind their units.
use Rattle.std.proofs.Common.{◌≡◌, ℕ, zero, suc, ◌+◌, ◌-◌, ◌<◌, ◌≤◌, ◌^◌, Bool, true, false, cond, List, [], ◌∷◌, ◌++◌}
use Rattle.std.proofs.Common.{length, take, drop, map, Option, Some, None, Result, Ok, refl, sym, ap, subst, ◌∙◌, arith}
use Rattle.std.proofs.Common.{eqb, leb}
use Rattle.std.specs.List.{concat}
use Rattle.std.proofs.lemmas.Bool.{eqb-false, ne_eqb, lt-leb, leb-false}
use Rattle.std.proofs.lemmas.List.{length-append, length-take, length-drop, take_at, drop_at, take-append-drop}
use Rattle.rlc_pdu.specs.declared.fault.RlcRefusal.{RlcRefusal}
use Rattle.rlc_pdu.specs.declared.fault.RlcWhy.TheVariants.{ZeroLi, LiPast}
use Rattle.rlc_pdu.specs.Units.{Units, units, AreLis, zero_from, past_from, cut}
use Rattle.rlc_pdu.specs.Pdus.{AreLens, but_last}
use Rattle.rlc_pdu.specs.Grammar.{body_octets, has_units}
use Rattle.rlc_pdu.specs.Refusals.{first_of, unit_refused, empty_refused}
use Rattle.rlc_pdu.specs.Reading.{unless, elements_at}
use Rattle.rlc_pdu.proofs.Units.{AreOctets, units_again, units_found}

-- ---- in the grammar, so read

pub are_lis : (lens : List ℕ) → AreLens lens → AreLis (but_last lens)
are_lis [] h i d within = absurd h
are_lis (n ∷ []) h i d within = absurd (omega (arith, within))
are_lis (n ∷ m ∷ ns) h zero d within = h.1
are_lis (n ∷ m ∷ ns) h (suc i) d within = are_lis (m ∷ ns) h.2 i d (omega (arith, within))

no_zero : (k : ℕ) (lens : List ℕ) → AreLens lens → zero_from k (but_last lens) ≡ None
unfolding zero_from
no_zero k [] h = refl
no_zero k (n ∷ []) h = refl
no_zero k (n ∷ m ∷ ns) h = let e : eqb n 0 ≡ false = ne_eqb n 0 (λ z. omega (arith, z, h.0)) in
    rw e (no_zero (k + 1) (m ∷ ns) h.2)

pub some_octets : (es : List (List ℕ)) → AreLens (map length es) → 0 < length (concat es)
some_octets [] h = absurd h
some_octets (x ∷ []) h = omega (arith, h, length-append x [])
some_octets (x ∷ y ∷ es) h = omega (arith, h.0, length-append x (concat (y ∷ es)))

no_past : (k : ℕ) (es : List (List ℕ)) → AreLens (map length es)
    → past_from k (but_last (map length es)) (length (concat es)) ≡ None
unfolding past_from
no_past k [] h = refl
no_past k (x ∷ []) h = refl
no_past k (x ∷ y ∷ es) h =
    let more = some_octets (y ∷ es) h.2 in
    let len : length (x ++ concat (y ∷ es)) ≡ length x + length (concat (y ∷ es)) = length-append x (concat (y ∷ es)) in
    let left : length (x ++ concat (y ∷ es)) - length x ≡ length (concat (y ∷ es)) = omega (arith, len) in
    let e : leb (length (x ++ concat (y ∷ es))) (length x) ≡ false =
    lt-leb (length (x ++ concat (y ∷ es))) (length x) (omega (arith, len, more)) in
    rw (e, left) (no_past (k + 1) (y ∷ es) h.2)

append_nil : (xs : List ℕ) → xs ++ [] ≡ xs
append_nil [] = refl
append_nil (x ∷ xs) = ap (λ (ys : List ℕ). x ∷ ys) (append_nil xs)

cut_again : (es : List (List ℕ)) → AreLens (map length es) → cut (but_last (map length es)) (concat es) ≡ es
unfolding cut
cut_again [] h = absurd h
cut_again (x ∷ []) h = ap (λ (ys : List ℕ). ys ∷ []) (append_nil x)
cut_again (x ∷ y ∷ es) h =
    let front : take (length x) (x ++ concat (y ∷ es)) ≡ x = take_at x (concat (y ∷ es)) (length x) refl in
    let behind : drop (length x) (x ++ concat (y ∷ es)) ≡ concat (y ∷ es) =
    drop_at x (concat (y ∷ es)) (length x) refl in
    rw (front, behind, cut_again (y ∷ es) h.2) refl

found_all : (total start : ℕ) (z p : Option ℕ) (rest : List ℕ) (xs : List (List ℕ)) → z ≡ None → p ≡ None
    → 0 < length rest
    → unless
    (first_of (unit_refused start ZeroLi z) (first_of (empty_refused total rest) (unit_refused start LiPast p))) xs
    ≡ Ok xs
found_all total start None None [] xs ez ep some = absurd (omega (arith, some))
found_all total start None None (o ∷ os) xs ez ep some = refl
found_all total start (Some k) p rest xs ez ep some = absurd cc
found_all total start None (Some k) rest xs ez ep some = absurd cc

-- elements in the grammar are read
pub body_again : (total start padding : ℕ) (es : List (List ℕ)) → padding < 16 → AreLens (map length es)
    → elements_at total start
    (units false (eqb (has_units (map length es)) 1) (body_octets padding (map length es) (concat es))) ≡ Ok es
body_again total start padding es p h =
    let lis = but_last (map length es) in
    let us = units_again padding lis (concat es) p (are_lis (map length es) h) in
    rw us (found_all total start (zero_from 0 lis) (past_from 0 lis (length (concat es))) (concat es)
    (cut lis (concat es)) (no_zero 0 (map length es) h) (no_past 0 es h) (some_octets es h)
    ∙ ap (λ (xs : List (List ℕ)). Ok xs) (cut_again es h))

-- ---- read, so in the grammar

record IsFound (u : Units) (es : List (List ℕ)) : Type 0 where
  zero : zero_from 0 u.lis ≡ None
  some : 0 < length u.rest
  past : past_from 0 u.lis (length u.rest) ≡ None
  elements : cut u.lis u.rest ≡ es

abbrev good : List (List ℕ) → Result (List (List ℕ)) RlcRefusal
good x = Ok x

ok_is : (x y : List (List ℕ)) → good x ≡ good y → x ≡ y
ok_is x y e = cc

record IsClear (z p : Option ℕ) (rest : List ℕ) (xs es : List (List ℕ)) : Type 0 where
  z_is : z ≡ None
  some : 0 < length rest
  p_is : p ≡ None
  xs_are : xs ≡ es

clear : (total start : ℕ) (z p : Option ℕ) (rest : List ℕ) (xs es : List (List ℕ))
    → unless
    (first_of (unit_refused start ZeroLi z) (first_of (empty_refused total rest) (unit_refused start LiPast p))) xs
    ≡ Ok es → IsClear z p rest xs es
clear total start (Some k) p rest xs es e = absurd cc
clear total start None p [] xs es e = absurd cc
clear total start None (Some k) (o ∷ os) xs es e = absurd cc
clear total start None None (o ∷ os) xs es e =
    record { z_is = refl; some = omega arith; p_is = refl; xs_are = ok_is xs es e }

found_units : (total start : ℕ) (us : Option Units) (es : List (List ℕ)) → elements_at total start us ≡ Ok es
    → (u : Units) × (us ≡ Some u) × IsFound u es
found_units total start None es e = absurd cc
found_units total start (Some u) es e =
    let c = clear total start (zero_from 0 u.lis) (past_from 0 u.lis (length u.rest)) u.rest (cut u.lis u.rest) es e in
    (u, refl, record { zero = c.z_is; some = c.some; past = c.p_is; elements = c.xs_are })

record AreCut (lis rest : List ℕ) (es : List (List ℕ)) : Type 0 where
  lens : AreLens (map length es)
  lis_are : but_last (map length es) ≡ lis
  rest_is : concat es ≡ rest

record IsLonger (n : ℕ) (ns : List ℕ) : Type 0 where
  lens : AreLens (n ∷ ns)
  lis_are : but_last (n ∷ ns) ≡ n ∷ but_last ns

longer : (n : ℕ) (ns : List ℕ) → 1 ≤ n → n < 2 ^ 11 → AreLens ns → IsLonger n ns
longer n [] some fits h = absurd h
longer n (m ∷ ns) some fits h = record { lens = (some, fits, h); lis_are = refl }

more_cut : (n : ℕ) (lis rest : List ℕ) (es : List (List ℕ)) → 1 ≤ n → n < 2 ^ 11 → n < length rest
    → AreCut lis (drop n rest) es → AreCut (n ∷ lis) rest (take n rest ∷ es)
more_cut n lis rest es some fits within h =
    let len : length (take n rest) ≡ n = omega (arith, length-take n rest, within) in
    let l = longer n (map length es) some fits h.lens in
    record {
      lens = subst (λ (m : ℕ). AreLens (m ∷ map length es)) (sym len) l.lens;
      lis_are = ap (λ (m : ℕ). but_last (m ∷ map length es)) len ∙ l.lis_are ∙ ap (λ (ns : List ℕ). n ∷ ns) h.lis_are;
      rest_is = ap (λ (ys : List ℕ). take n rest ++ ys) h.rest_is ∙ take-append-drop n rest;
    }

past_len : (j : ℕ) (lis : List ℕ) (left len : ℕ) → left ≡ len → past_from j lis left ≡ None → past_from j lis len ≡ None
past_len j lis left len e h = subst (λ (n : ℕ). past_from j lis n ≡ None) e h

cut_on : (k j n : ℕ) (lis rest : List ℕ) → n < 2 ^ 11 → (t : Bool) → eqb n 0 ≡ t
    → cond t (Some k) (zero_from (k + 1) lis) ≡ None
    → (b : Bool) → leb (length rest) n ≡ b → cond b (Some j) (past_from (j + 1) lis (length rest - n)) ≡ None
    → (zero_from (k + 1) lis ≡ None → past_from (j + 1) lis (length (drop n rest)) ≡ None → 0 < length (drop n rest)
    → AreCut lis (drop n rest) (cut lis (drop n rest)))
    → AreCut (n ∷ lis) rest (take n rest ∷ cut lis (drop n rest))
cut_on k j n lis rest here true et z b eb p later = absurd cc
cut_on k j n lis rest here false et z true eb p later = absurd cc
cut_on k j n lis rest here false et z false eb p later =
    let ne : n ≡ 0 → ⊥ = eqb-false n 0 et in
    let lt : n < length rest = leb-false (length rest) n eb in
    let len : length rest - n ≡ length (drop n rest) = omega (arith, length-drop n rest) in
    more_cut n lis rest (cut lis (drop n rest)) (omega (arith, ne)) here lt
    (later z (past_len (j + 1) lis (length rest - n) (length (drop n rest)) len p) (omega (arith, lt, len)))

cut_found : (k j : ℕ) (lis rest : List ℕ) → AreLis lis → zero_from k lis ≡ None → past_from j lis (length rest) ≡ None
    → 0 < length rest → AreCut lis rest (cut lis rest)
unfolding zero_from past_from cut
cut_found k j [] rest fits z p some = record { lens = some; lis_are = refl; rest_is = append_nil rest }
cut_found k j (n ∷ lis) rest fits z p some =
    cut_on k j n lis rest (fits 0 0 (omega arith)) (eqb n 0) refl z (leb (length rest) n) refl p
    (λ z' p' some'. cut_found (k + 1) (j + 1) lis (drop n rest) (λ i d within. fits (suc i) d (omega (arith, within)))
    z' p' some')

-- elements are written as they were read
pub record IsBody (more : Bool) (octets : List ℕ) (es : List (List ℕ)) : Type 0 where
  pub padding : ℕ
  pub four_bits : padding < 16
  pub lens : AreLens (map length es)
  pub more_is : eqb (has_units (map length es)) 1 ≡ more
  pub spelled : octets ≡ body_octets padding (map length es) (concat es)

pub body_found : (total start : ℕ) (more : Bool) (octets : List ℕ) (es : List (List ℕ)) → AreOctets octets
    → elements_at total start (units false more octets) ≡ Ok es → IsBody more octets es
body_found total start more octets es fits e =
    let f = found_units total start (units false more octets) es e in
    let u = f.0 in
    let w = units_found more octets u fits f.1 in
    let c = cut_found 0 0 u.lis u.rest w.lis f.2.zero f.2.past f.2.some in
    subst (λ (xs : List (List ℕ)). IsBody more octets xs) f.2.elements (record {
      padding = w.padding;
      four_bits = w.four_bits;
      lens = c.lens;
      more_is = rw c.lis_are w.more_is;
      spelled = rw (c.lis_are, c.rest_is) w.spelled;
    })
