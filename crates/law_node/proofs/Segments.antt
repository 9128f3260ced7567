-- The elements of a segment are the parts of its PDU's elements that lie in it, and those that are whole are whole
-- there.
use Rattle.std.proofs.Common.{◌≡◌, ◌<◌, ◌≤◌, inl, inr, ℕ, zero, suc, ◌+◌, ◌-◌, ◌==◌, nat_lt, Bool, true, false}
use Rattle.std.proofs.Common.{if◌then◌else◌, List, [], ◌∷◌, ◌++◌, length, map, min, take, drop, slice_range, refl, sym}
use Rattle.std.proofs.Common.{ap, ◌∙◌, subst, arith}
use Rattle.std.specs.List.{concat, sum}
use Rattle.std.proofs.lemmas.Bool.{cases_lt}
use Rattle.std.proofs.lemmas.Bool.Decides.{nat_tests}
use Rattle.std.proofs.lemmas.List.{length-take, length-drop, take_at, drop_at}
use Rattle.rlc_am_tx_window.proofs.CutSteps.{sum-first}
use Rattle.rlc_am_tx_window.specs.Cut.{clip, some_length, is_cut}
use Rattle.rlc_pdu.proofs.Again.{cut_again}
use Rattle.rlc_pdu.specs.Pdus.{AreLens, but_last}
use Rattle.rlc_pdu.specs.Units.{cut}
use Rattle.rlc_queue.proofs.Lens.{whole as whole_sum}
use Rattle.rlc_queue.specs.Waiting.{HaveOctets}
use Rattle.law_node.proofs.Pieces.{Whole, cons_whole, one_whole}

-- ---- the parts

abbrev some_piece : List ℕ → List (List ℕ)
some_piece x = if length x == 0 then [] else x ∷ []

-- those of elements from a place below another
abbrev pub clipped : ℕ → ℕ → List (List ℕ) → List (List ℕ)
clipped from to [] = []
clipped from to (x ∷ xs) = some_piece (slice_range x from to) ++ clipped (from - length x) (to - length x) xs

range_length : (x : List ℕ) (from to : ℕ) → length (slice_range x from to) ≡ min to (length x) - from
range_length x from to = omega (arith, length-take (to - from) (drop from x), length-drop from x)

map_more : (xs ys : List (List ℕ)) → map length (xs ++ ys) ≡ map length xs ++ map length ys
map_more [] ys = refl
map_more (x ∷ xs) ys = ap (λ (l : List ℕ). length x ∷ l) (map_more xs ys)

piece_length : (x : List ℕ) (n : ℕ) → length x ≡ n → map length (some_piece x) ≡ some_length n
piece_length x n e = by (length x == 0) ∙ ap some_length e
  where
    by : (t : Bool) → map length (if t then [] else x ∷ []) ≡ (if t then [] else length x ∷ [])
    by true = refl
    by false = refl

clipped_lengths : (from to : ℕ) (es : List (List ℕ)) → map length (clipped from to es) ≡ clip from to (map length es)
clipped_lengths from to [] = refl
clipped_lengths from to (x ∷ xs) =
    map_more (some_piece (slice_range x from to)) (clipped (from - length x) (to - length x) xs)
    ∙ ap (λ (l : List ℕ). l ++ map length (clipped (from - length x) (to - length x) xs))
    (piece_length (slice_range x from to) (min to (length x) - from) (range_length x from to))
    ∙ ap (λ (l : List ℕ). some_length (min to (length x) - from) ++ l)
    (clipped_lengths (from - length x) (to - length x) xs)

drop_both : (n : ℕ) (xs ys : List ℕ) → drop n (xs ++ ys) ≡ drop n xs ++ drop (n - length xs) ys
drop_both zero [] ys = refl
drop_both zero (x ∷ xs) ys = let e : 0 - length (x ∷ xs) ≡ 0 = omega arith in
    ap (λ (k : ℕ). (x ∷ xs) ++ drop k ys) (sym e)
drop_both (suc n) [] ys = let e : suc n - length {A = ℕ} [] ≡ suc n = omega arith in ap (λ (k : ℕ). drop k ys) (sym e)
drop_both (suc n) (x ∷ xs) ys = let e : suc n - length (x ∷ xs) ≡ n - length xs = omega arith in
    drop_both n xs ys ∙ ap (λ (k : ℕ). drop n xs ++ drop k ys) (sym e)

take_both : (n : ℕ) (xs ys : List ℕ) → take n (xs ++ ys) ≡ take n xs ++ take (n - length xs) ys
take_both zero [] ys = refl
take_both zero (x ∷ xs) ys = let e : 0 - length (x ∷ xs) ≡ 0 = omega arith in ap (λ (k : ℕ). take k ys) (sym e)
take_both (suc n) [] ys = let e : suc n - length {A = ℕ} [] ≡ suc n = omega arith in ap (λ (k : ℕ). take k ys) (sym e)
take_both (suc n) (x ∷ xs) ys = let e : suc n - length (x ∷ xs) ≡ n - length xs = omega arith in
    ap (λ (zs : List ℕ). x ∷ zs) (take_both n xs ys ∙ ap (λ (k : ℕ). take n xs ++ take k ys) (sym e))

range_both : (xs ys : List ℕ) (from to : ℕ)
    → slice_range (xs ++ ys) from to ≡ slice_range xs from to ++ slice_range ys (from - length xs) (to - length xs)
range_both xs ys from to =
    let l = length-drop from xs in
    let e : to - from - length (drop from xs) ≡ to - length xs - (from - length xs) = omega (arith, l) in
    ap (λ (zs : List ℕ). take (to - from) zs) (drop_both from xs ys)
    ∙ take_both (to - from) (drop from xs) (drop (from - length xs) ys)
    ∙ ap (λ (k : ℕ). slice_range xs from to ++ take k (drop (from - length xs) ys)) e

piece_octets : (x : List ℕ) (es : List (List ℕ)) → concat (some_piece x ++ es) ≡ x ++ concat es
piece_octets [] es = refl
piece_octets (x ∷ xs) es = let some : (length (x ∷ xs) == 0) ≡ false = grind (arith, nat_tests) in rw some refl

dropped : (n : ℕ) → drop {A = ℕ} n [] ≡ []
dropped zero = refl
dropped (suc n) = refl

taken : (n : ℕ) → take {A = ℕ} n [] ≡ []
taken zero = refl
taken (suc n) = refl

clipped_octets : (from to : ℕ) (es : List (List ℕ)) → concat (clipped from to es) ≡ slice_range (concat es) from to
clipped_octets from to [] = sym (ap (λ (zs : List ℕ). take (to - from) zs) (dropped from) ∙ taken (to - from))
clipped_octets from to (x ∷ xs) =
    piece_octets (slice_range x from to) (clipped (from - length x) (to - length x) xs)
    ∙ ap (λ (zs : List ℕ). slice_range x from to ++ zs) (clipped_octets (from - length x) (to - length x) xs)
    ∙ sym (range_both x (concat xs) from to)

-- lengths and octets tell elements
pub same_elements : (es ds : List (List ℕ)) → map length es ≡ map length ds → concat es ≡ concat ds → es ≡ ds
same_elements [] [] l o = refl
same_elements [] (y ∷ ys) l o = let no : [] ≡ length y ∷ map length ys = l in absurd cc
same_elements (x ∷ xs) [] l o = let no : length x ∷ map length xs ≡ [] = l in absurd cc
same_elements (x ∷ xs) (y ∷ ys) l o =
    let first : length x ≡ length y = cc in
    let others : map length xs ≡ map length ys = cc in
    let one : x ≡ y = sym (take_at x (concat xs) (length x) refl) ∙ ap (λ (zs : List ℕ). take (length x) zs) o
    ∙ take_at y (concat ys) (length x) (sym first) in
    let more : concat xs ≡ concat ys = sym (drop_at x (concat xs) (length x) refl)
    ∙ ap (λ (zs : List ℕ). drop (length x) zs) o ∙ drop_at y (concat ys) (length x) (sym first) in
    ap (λ (z : List ℕ). z ∷ xs) one ∙ ap (λ (zs : List (List ℕ)). y ∷ zs) (same_elements xs ys others more)

pub clipped_is : (from to : ℕ) (es ds : List (List ℕ)) → map length ds ≡ clip from to (map length es)
    → concat ds ≡ slice_range (concat es) from to → ds ≡ clipped from to es
clipped_is from to es ds l o =
    same_elements ds (clipped from to es) (l ∙ sym (clipped_lengths from to es)) (o ∙ sym (clipped_octets from to es))

-- the elements of a field by their lengths
pub cut_elements : (es : List (List ℕ)) → AreLens (map length es) → cut (but_last (map length es)) (concat es) ≡ es
cut_elements es lens =
    let c = cut_again (map length es) (concat es) lens (whole_sum es) in
    same_elements (cut (but_last (map length es)) (concat es)) es c.lens_are c.field_is

-- ---- those that are whole

-- an SDU begins at a place of elements, and one ends there
abbrev pub begins_in : Bool → ℕ → List ℕ → Bool
begins_in begins from ls = if from == 0 then begins else is_cut from ls

abbrev pub ends_in : Bool → ℕ → List ℕ → Bool
ends_in ends to ls = if to == sum ls then ends else is_cut to ls

cut_zero : (ls : List ℕ) → is_cut 0 ls ≡ true
cut_zero [] = refl
cut_zero (l ∷ ls) = by (nat_lt 0 l) (cut_zero ls)
  where
    by : (t : Bool) → is_cut 0 ls ≡ true → (if t then 0 == 0 else is_cut (0 - l) ls) ≡ true
    by true c = refl
    by false c = let z : 0 - l ≡ 0 = omega arith in ap (λ (k : ℕ). is_cut k ls) z ∙ c

begin_later : (begins : Bool) (from l : ℕ) (ls : List ℕ) → l ≤ from → 0 < l
    → begins_in begins from (l ∷ ls) ≡ begins_in true (from - l) ls
begin_later begins from l ls le some =
    let a : (from == 0) ≡ false = grind (arith, nat_tests, le, some) in
    let b : nat_lt from l ≡ false = grind (arith, nat_tests, le) in
    rw (a, b) (by (from - l == 0) refl)
  where
    by : (t : Bool) → (from - l == 0) ≡ t → is_cut (from - l) ls ≡ (if t then true else is_cut (from - l) ls)
    by true e = let z : from - l ≡ 0 = grind (arith, nat_tests, e) in ap (λ (k : ℕ). is_cut k ls) z ∙ cut_zero ls
    by false e = refl

end_later : (ends : Bool) (to l : ℕ) (ls : List ℕ) → l < to → ends_in ends to (l ∷ ls) ≡ ends_in ends (to - l) ls
end_later ends to l ls lt =
    let s = sum-first l ls in
    let a : (to == sum (l ∷ ls)) ≡ (to - l == sum ls) = by (to == sum (l ∷ ls)) (to - l == sum ls) refl refl s in
    let b : nat_lt to l ≡ false = grind (arith, nat_tests, lt) in
    rw (a, b) refl
  where
    by : (t u : Bool) → (to == sum (l ∷ ls)) ≡ t → (to - l == sum ls) ≡ u → sum (l ∷ ls) ≡ l + sum ls → t ≡ u
    by true true e f s = refl
    by false false e f s = refl
    by true false e f s = absurd (grind (arith, nat_tests, e, f, s, lt))
    by false true e f s = absurd (grind (arith, nat_tests, e, f, s, lt))

begin_here : (begins : Bool) (from l : ℕ) (ls : List ℕ) → from < l → begins_in begins from (l ∷ ls) ≡ true
    → (from ≡ 0) × (begins ≡ true)
begin_here begins from l ls lt = by (from == 0) refl
  where
    by : (t : Bool) → (from == 0) ≡ t → (if t then begins else is_cut from (l ∷ ls)) ≡ true
        → (from ≡ 0) × (begins ≡ true)
    by true e b = (grind (arith, nat_tests, e), b)
    by false e b =
        let c : nat_lt from l ≡ true = grind (arith, nat_tests, lt) in
        let no : (if nat_lt from l then from == 0 else is_cut (from - l) ls) ≡ true = b in
        let no' : false ≡ true = sym (rw (c, e) refl) ∙ no in
        absurd cc

module _ (P : List ℕ → Type 0) where
  tail_of : (begins ends : Bool) (x : List ℕ) (xs : List (List ℕ)) → Whole P begins ends (x ∷ xs) → Whole P true ends xs
  tail_of begins ends x [] w = tt
  tail_of true ends x (y ∷ ys) w = w.1
  tail_of false ends x (y ∷ ys) w = w

  -- the first is whole where another follows or it ends its SDU
  head_of : (ends : Bool) (x : List ℕ) (xs : List (List ℕ)) → Whole P true ends (x ∷ xs) → (xs ≡ [] → ends ≡ true) → P x
  head_of true x [] w e = w.0
  head_of false x [] w e = let no : false ≡ true = e refl in absurd cc
  head_of ends x (y ∷ ys) w e = w.0

  all_taken : (x : List ℕ) (n : ℕ) → length x ≤ n → take n x ≡ x
  all_taken [] n le = taken n
  all_taken (x ∷ xs) zero le = absurd (omega (arith, le))
  all_taken (x ∷ xs) (suc n) le = ap (λ (zs : List ℕ). x ∷ zs) (all_taken xs n (omega (arith, le)))

  all_range : (x : List ℕ) (to : ℕ) → length x ≤ to → slice_range x 0 to ≡ x
  all_range x to le = all_taken x (to - 0) (omega (arith, le))

  none_clipped : (es : List (List ℕ)) → clipped 0 0 es ≡ []
  none_clipped [] = refl
  none_clipped (x ∷ xs) = let z : 0 - length x ≡ 0 = omega arith in ap (λ (k : ℕ). clipped k k xs) z ∙ none_clipped xs

  some_of : (x : List ℕ) → 0 < length x → some_piece x ≡ x ∷ []
  some_of x lt = let some : (length x == 0) ≡ false = grind (arith, nat_tests, lt) in rw some refl

  none_of : (x : List ℕ) → length x ≡ 0 → some_piece x ≡ []
  none_of x e = rw e refl

  few_octets : (xs : List (List ℕ)) → HaveOctets xs → sum (map length xs) ≡ 0 → xs ≡ []
  few_octets [] h e = refl
  few_octets (x ∷ xs) h e = absurd (omega (arith, h.0, sum-first (length x) (map length xs), e))

  -- an element that ends the stretch is whole only where its SDU ends there
  end_here : (ends : Bool) (to : ℕ) (x : List ℕ) (xs : List (List ℕ)) → HaveOctets xs → 0 < to → to ≤ length x
      → ends_in ends to (length x ∷ map length xs) ≡ true → (to ≡ length x) × (xs ≡ [] → ends ≡ true)
  end_here ends to x xs h some le = by (to == sum (length x ∷ map length xs)) refl
    where
      s : sum (length x ∷ map length xs) ≡ length x + sum (map length xs)
      s = sum-first (length x) (map length xs)

      by : (t : Bool) → (to == sum (length x ∷ map length xs)) ≡ t
          → (if t then ends else is_cut to (length x ∷ map length xs)) ≡ true
          → (to ≡ length x) × (xs ≡ [] → ends ≡ true)
      by true e i = let is : to ≡ sum (length x ∷ map length xs) = grind (arith, nat_tests, e) in
          (omega (arith, is, s, le), λ q. i)
      by false e i =
          let other : to ≡ sum (length x ∷ map length xs) → ⊥ = λ q. grind (arith, nat_tests, e, q) in
          let same : to ≡ length x = cut (nat_lt to (length x)) refl i in (
            same,
            λ q. let none : sum (map length xs) ≡ 0 = ap (λ (ys : List (List ℕ)). sum (map length ys)) q in
                absurd (other (omega (arith, same, s, none))),
          )
        where
          cut : (u : Bool) → nat_lt to (length x) ≡ u
              → (if u then to == 0 else is_cut (to - length x) (map length xs)) ≡ true → to ≡ length x
          cut true f j = absurd (grind (arith, nat_tests, j, some))
          cut false f j = let ge : length x ≤ to = grind (arith, nat_tests, f) in omega (arith, ge, le)

  pub segment_whole : (begins ends : Bool) (from to : ℕ) (es : List (List ℕ)) → HaveOctets es → from < to
      → to ≤ sum (map length es) → Whole P begins ends es
      → Whole P (begins_in begins from (map length es)) (ends_in ends to (map length es)) (clipped from to es)
  segment_whole begins ends from to [] h lt le w = tt
  segment_whole begins ends from to (x ∷ xs) h lt le w =
      let l = length x in
      let ls = map length xs in
      let b = begins_in begins from (l ∷ ls) in
      let e = ends_in ends to (l ∷ ls) in
      let piece = slice_range x from to in
      let size = range_length x from to in
      let s = sum-first l ls in
      elim (cases_lt from l) [
        | inr later ↦
            let none : some_piece piece ≡ [] = none_of piece (omega (arith, size, later)) in
            let ih = segment_whole true ends (from - l) (to - l) xs h.1 (omega (arith, lt, later))
            (omega (arith, le, s)) (tail_of begins ends x xs w) in
            let ih' = subst (λ (t : Bool). Whole P t (ends_in ends (to - l) ls) (clipped (from - l) (to - l) xs))
            (sym (begin_later begins from l ls later h.0)) ih in
            let ih'' = subst (λ (t : Bool). Whole P b t (clipped (from - l) (to - l) xs))
            (sym (end_later ends to l ls (omega (arith, lt, later)))) ih' in
            subst (λ (ps : List (List ℕ)). Whole P b e (ps ++ clipped (from - l) (to - l) xs)) (sym none) ih''
        | inl here ↦
            let zero' : from - l ≡ 0 = omega (arith, here) in
            let some : some_piece piece ≡ piece ∷ [] = some_of piece (omega (arith, size, here, lt)) in
            elim (cases_lt l to) [
              | inl beyond ↦
                  let ih = segment_whole true ends 0 (to - l) xs h.1 (omega (arith, beyond)) (omega (arith, le, s))
                  (tail_of begins ends x xs w) in
                  let ih' = subst (λ (t : Bool). Whole P true t (clipped 0 (to - l) xs))
                  (sym (end_later ends to l ls beyond)) ih in
                  let first : b ≡ true → P piece = λ t.
                  let at = begin_here begins from l ls here t in
                  let is : piece ≡ x = ap (λ (k : ℕ). slice_range x k to) at.0
                  ∙ all_range x to (omega (arith, beyond)) in
                  subst P (sym is)
                  (head_of ends x xs (subst (λ (u : Bool). Whole P u ends (x ∷ xs)) at.1 w)
                  (λ q. absurd (let none : sum ls ≡ 0 = ap (λ (ys : List (List ℕ)). sum (map length ys)) q in
                  omega (arith, le, s, none, beyond)))) in
                  let both = cons_whole P b e piece (clipped 0 (to - l) xs) first ih' in
                  subst (λ (ps : List (List ℕ)). Whole P b e (ps ++ clipped (from - l) (to - l) xs)) (sym some)
                  (subst (λ (k : ℕ). Whole P b e (piece ∷ clipped k (to - l) xs)) (sym zero') both)
              | inr within ↦
                  let zero'' : to - l ≡ 0 = omega (arith, within) in
                  let none : clipped (from - l) (to - l) xs ≡ [] =
                  ap (λ (k : ℕ). clipped k (to - l) xs) zero' ∙ ap (λ (k : ℕ). clipped 0 k xs) zero''
                  ∙ none_clipped xs in
                  let first : b ≡ true → e ≡ true → P piece = λ t u.
                  let at = begin_here begins from l ls here t in
                  let end = end_here ends to x xs h.1 (omega (arith, lt)) within u in
                  let is : piece ≡ x = ap (λ (k : ℕ). slice_range x k to) at.0
                  ∙ all_range x to (let same = end.0 in omega (arith, same)) in
                  subst P (sym is) (head_of ends x xs (subst (λ (v : Bool). Whole P v ends (x ∷ xs)) at.1 w) end.1) in
                  let alone = one_whole P b e piece first in
                  subst (λ (ps : List (List ℕ)). Whole P b e (ps ++ clipped (from - l) (to - l) xs)) (sym some)
                  (subst (λ (qs : List (List ℕ)). Whole P b e (piece ∷ qs)) (sym none) alone)
            ]
      ]

octets_of : (es : List (List ℕ)) → AreLens (map length es) → HaveOctets es
octets_of [] lens = absurd lens
octets_of (x ∷ []) lens = (lens, tt)
octets_of (x ∷ y ∷ ys) lens = (lens.0, octets_of (y ∷ ys) lens.2)

-- by the lengths of a PDU's elements, and those of the stretch
pub part_whole : (P : List ℕ → Type 0) (begins ends : Bool) (from to : ℕ) (lens part field : List ℕ) → AreLens lens
    → sum lens ≡ length field → AreLens part → sum part ≡ length (slice_range field from to)
    → part ≡ clip from to lens → from < to → to ≤ length field → Whole P begins ends (cut (but_last lens) field)
    → Whole P (if from == 0 then begins else is_cut from lens) (if to == length field then ends else is_cut to lens)
    (cut (but_last part) (slice_range field from to))
part_whole P begins ends from to lens part field l whole' m part' is lt le w =
    let range = slice_range field from to in
    let es = cut (but_last lens) field in
    let ds = cut (but_last part) range in
    let c = cut_again lens field l whole' in
    let d = cut_again part range m part' in
    let same : ds ≡ clipped from to es =
    clipped_is from to es ds (d.lens_are ∙ is ∙ ap (λ (ls : List ℕ). clip from to ls) (sym c.lens_are))
    (d.field_is ∙ ap (λ (xs : List ℕ). slice_range xs from to) (sym c.field_is)) in
    let octets = octets_of es (subst (λ (ls : List ℕ). AreLens ls) (sym c.lens_are) l) in
    let within : to ≤ sum (map length es) =
    subst (λ (ls : List ℕ). to ≤ sum ls) (sym c.lens_are) (omega (arith, le, whole')) in
    let a = segment_whole P begins ends from to es octets lt within w in
    let b = subst (λ (ls : List ℕ). Whole P (begins_in begins from ls) (ends_in ends to ls) (clipped from to es))
    c.lens_are a in
    let e =
    subst (λ (n : ℕ). Whole P (begins_in begins from lens) (if to == n then ends else is_cut to lens)
    (clipped from to es)) whole' b in
    subst (λ (xs : List (List ℕ)). Whole P (begins_in begins from lens)
    (if to == length field then ends else is_cut to lens) xs) (sym same) e
