-- Going through extension units.
use Rattle.std.proofs.Common.{◌≡◌, ℕ, zero, suc, ◌+◌, ◌-◌, ◌<◌, ◌≤◌, Bool, true, false, not, cond, List, [], ◌∷◌}
use Rattle.std.proofs.Common.{length, drop, take, Option, Some, None, refl, sym, ◌∙◌, arith, eqb, leb, inl, inr}
use Rattle.std.specs.Prelude.{is_some, is_none, IfSome}
use Rattle.std.proofs.lemmas.List.{length-drop}
use Rattle.std.proofs.lemmas.Bool.{cases_lt, ne_eqb, lt-leb, le-leb}
use Rattle.rlc_pdu.specs.Units.{Unit, Units, unit_at, field_at, with_li, units, zero_from, past_from, cut, or_zero}
use Rattle.rlc_pdu.specs.Units.{scanned, past_in, is_sound, elements_in, cut_some, leaves_some}

abbrev next : Bool → Option Unit → Option Units
next odd None = None
next odd (Some u) = with_li u.len (units (not odd) u.more u.rest)

step : (odd : Bool) (rest : List ℕ) → units odd true rest ≡ next odd (unit_at odd rest)
unfolding units unit_at
step true [] = refl
step true (a ∷ []) = refl
step true (a ∷ b ∷ rest) = refl
step false [] = refl
step false (a ∷ []) = refl
step false (a ∷ b ∷ rest) = refl

abbrev ended : Option (List ℕ) → Option Units
ended None = None
ended (Some rest) = Some (record { lis = []; rest = rest })

end : (odd : Bool) (rest : List ℕ) → units odd false rest ≡ ended (field_at odd rest)
unfolding units field_at
end false rest = refl
end true [] = refl
end true (a ∷ rest) = refl

zero_step : (found : Option ℕ) (k n : ℕ) (u : Option Units)
    → scanned found k (with_li n u) ≡ scanned (or_zero found (cond (eqb n 0) (Some k) None)) (k + 1) u
unfolding zero_from
zero_step found k n None = refl
zero_step (Some z) k n (Some u) = refl
zero_step None k zero (Some u) = refl
zero_step None k (suc n) (Some u) = let e : eqb (suc n) 0 ≡ false = ne_eqb (suc n) 0 (λ h. omega arith) in rw e refl

-- the loop's step, and its ends
pub scan_step : (found : Option ℕ) (k : ℕ) (odd : Bool) (rest : List ℕ) (u : Unit) → unit_at odd rest ≡ Some u
    → scanned found k (units odd true rest)
    ≡ scanned (or_zero found (cond (eqb u.len 0) (Some k) None)) (k + 1) (units (not odd) u.more u.rest)
scan_step found k odd rest u e = rw (step odd rest, e) (zero_step found k u.len (units (not odd) u.more u.rest))

pub scan_cut : (found : Option ℕ) (k : ℕ) (odd : Bool) (rest : List ℕ) → unit_at odd rest ≡ None
    → scanned found k (units odd true rest) ≡ None
scan_cut found k odd rest e = rw (step odd rest, e) refl

pub scan_end : (found : Option ℕ) (k : ℕ) (odd : Bool) (rest field : List ℕ) → field_at odd rest ≡ Some field
    → scanned found k (units odd false rest) ≡ Some (found, field)
unfolding zero_from
scan_end None k odd rest field e = rw (end odd rest, e) refl
scan_end (Some z) k odd rest field e = rw (end odd rest, e) refl

pub scan_short : (found : Option ℕ) (k : ℕ) (odd : Bool) (rest : List ℕ) → field_at odd rest ≡ None
    → scanned found k (units odd false rest) ≡ None
scan_short found k odd rest e = rw (end odd rest, e) refl

-- ---- LIs that leave something

past_first : (k n : ℕ) (v : Units) (left : ℕ) → left ≤ n → past_in k (with_li n (Some v)) left ≡ Some k
unfolding past_from
past_first k n v left h = rw (le-leb left n h) refl

past_step : (k n : ℕ) (u : Option Units) (left : ℕ) → n < left
    → past_in k (with_li n u) left ≡ past_in (k + 1) u (left - n)
unfolding past_from
past_step k n None left h = refl
past_step k n (Some u) left h = rw (lt-leb left n h) refl

pub past_on : (k : ℕ) (odd : Bool) (rest : List ℕ) (u : Unit) (left : ℕ) → unit_at odd rest ≡ Some u → u.len < left
    → past_in k (units odd true rest) left ≡ past_in (k + 1) (units (not odd) u.more u.rest) (left - u.len)
past_on k odd rest u left e h = rw (step odd rest, e) (past_step k u.len (units (not odd) u.more u.rest) left h)

pub past_cut : (k : ℕ) (odd : Bool) (rest : List ℕ) (left : ℕ) → unit_at odd rest ≡ None
    → past_in k (units odd true rest) left ≡ None
past_cut k odd rest left e = rw (step odd rest, e) refl

pub past_end : (k : ℕ) (odd : Bool) (rest : List ℕ) (left : ℕ) → past_in k (units odd false rest) left ≡ None
unfolding past_from
past_end k odd rest left = rw (end odd rest) (over (field_at odd rest))
  where
    over : (f : Option (List ℕ)) → past_in k (ended f) left ≡ None
    over None = refl
    over (Some f) = refl

pub past_here : (k : ℕ) (odd : Bool) (rest : List ℕ) (u : Unit) (left : ℕ) → unit_at odd rest ≡ Some u → left ≤ u.len
    → is_some (units odd true rest) ≡ true
    → past_in k (units odd true rest) left ≡ Some k
past_here k odd rest u left e h w =
    rw (step odd rest, e) (here (units (not odd) u.more u.rest) (rw (step odd rest, e) at w))
  where
    here : (v : Option Units) → is_some (with_li u.len v) ≡ true → past_in k (with_li u.len v) left ≡ Some k
    here None w = absurd cc
    here (Some v) w = past_first k u.len v left h

pub some_on : (odd : Bool) (rest : List ℕ) (u : Unit) → unit_at odd rest ≡ Some u
    → is_some (units odd true rest) ≡ true → is_some (units (not odd) u.more u.rest) ≡ true
some_on odd rest u e w = on (units (not odd) u.more u.rest) (rw (step odd rest, e) at w)
  where
    on : (v : Option Units) → is_some (with_li u.len v) ≡ true → is_some v ≡ true
    on None w = w
    on (Some v) w = refl

-- ---- a reader's step

past_none : (k j : ℕ) (lis : List ℕ) (left : ℕ) → is_none (past_from k lis left) ≡ true
    → is_none (past_from j lis left) ≡ true
unfolding past_from
past_none k j [] left e = refl
past_none k j (n ∷ lis) left e =
    elim (leb left n) as (λ b. is_none (cond b (Some k) (past_from (k + 1) lis (left - n))) ≡ true
    → is_none (cond b (Some j) (past_from (j + 1) lis (left - n))) ≡ true) [
      | true ↦ λ f. absurd cc
      | false ↦ λ f. past_none (k + 1) (j + 1) lis (left - n) f
    ] e

elements_some : (odd more : Bool) (us field : List ℕ) → 0 < length field
    → elements_in odd more us field ≡ cut_some (units odd more us) field
elements_some odd more us [] h = absurd (omega arith)
elements_some odd more us (f ∷ fs) h = refl

sound_some : (odd more : Bool) (us field : List ℕ) → 0 < length field
    → is_sound odd more us field ≡ leaves_some (units odd more us) (length field)
sound_some odd more us [] h = absurd (omega arith)
sound_some odd more us (f ∷ fs) h = refl

pub record IsNext (odd : Bool) (us field : List ℕ) (u : Unit) : Type 0 where
  pub within : u.len < length field
  pub sound : is_sound (not odd) u.more u.rest (drop u.len field) ≡ true
  pub found : elements_in odd true us field ≡ take u.len field ∷ elements_in (not odd) u.more u.rest (drop u.len field)

next_of : (odd : Bool) (us field : List ℕ) (u : Unit) (v : Option Units) → units odd true us ≡ with_li u.len v
    → units (not odd) u.more u.rest ≡ v → 0 < length field
    → leaves_some (with_li u.len v) (length field) ≡ true → IsNext odd us field u
unfolding past_from cut
next_of odd us field u None e f some w = absurd cc
next_of odd us field u (Some v) e f some w =
    elim (cases_lt u.len (length field)) [
      | inl lt ↦
          let rest-some : 0 < length (drop u.len field) = omega (arith, length-drop u.len field) in
          let later : is_none (past_from 1 v.lis (length field - u.len)) ≡ true =
          rw (lt-leb (length field) u.len lt) at w in
          let len : length field - u.len ≡ length (drop u.len field) = omega (arith, length-drop u.len field) in
          record {
            within = lt;
            sound = rw (sound_some (not odd) u.more u.rest (drop u.len field) rest-some, f)
                (past_none 1 0 v.lis (length (drop u.len field)) (rw len at later));
            found =
                rw (
                  elements_some odd true us field some,
                  e,
                  elements_some (not odd) u.more u.rest (drop u.len field) rest-some,
                  f,
                ) refl;
          }
      | inr le ↦ let bad : false ≡ true = rw (le-leb (length field) u.len le) at w in absurd cc
    ]

pub next_is : (odd : Bool) (us field : List ℕ) (u : Unit) → unit_at odd us ≡ Some u → 0 < length field
    → is_sound odd true us field ≡ true → IsNext odd us field u
next_is odd us field u e some s =
    let w : leaves_some (units odd true us) (length field) ≡ true = sym (sound_some odd true us field some) ∙ s in
    let on : units odd true us ≡ with_li u.len (units (not odd) u.more u.rest) = step odd us ∙ rw e refl in
    next_of odd us field u (units (not odd) u.more u.rest) on refl some (rw on at w)

pub last_is : (odd : Bool) (us field : List ℕ) → 0 < length field → is_sound odd false us field ≡ true
    → elements_in odd false us field ≡ field ∷ []
unfolding cut
last_is odd us field some s =
    rw (elements_some odd false us field some, end odd us)
    (over (field_at odd us) (rw (sound_some odd false us field some, end odd us) at s))
  where
    over : (x : Option (List ℕ)) → leaves_some (ended x) (length field) ≡ true → cut_some (ended x) field ≡ field ∷ []
    over None s = absurd cc
    over (Some x) s = refl

pub cut_off : (odd : Bool) (us field : List ℕ) → 0 < length field → unit_at odd us ≡ None
    → elements_in odd true us field ≡ []
cut_off odd us field some e = rw (elements_some odd true us field some, step odd us, e) refl

-- what an `is_empty` that answered no says
pub some_len : (n : ℕ) → false ≡ eqb n 0 → 0 < n
some_len zero e = absurd cc
some_len (suc n) e = omega arith

pub zero_within : (found : Option ℕ) (b : Bool) (k n : ℕ) → IfSome found (λ z. z ≤ n) → k ≤ n
    → IfSome (or_zero found (cond b (Some k) None)) (λ z. z ≤ n)
zero_within (Some z) b k n h le = h
zero_within None true k n h le = le
zero_within None false k n h le = h
