-- Which octets of the SDUs that wait a new PDU takes.
use Rattle.std.proofs.Common.{◌≡◌, ◌<◌, ◌≤◌, ℕ, suc, zero, ◌+◌, Bool, true, false, not, ◌==◌, if◌then◌else◌, List, []}
use Rattle.std.proofs.Common.{◌∷◌, ◌++◌, length, map, take, drop, refl, ap, sym, ◌∙◌, arith, nat_lt, length-append}
use Rattle.std.proofs.Common.{append_assoc, length-drop}
use Rattle.std.proofs.lemmas.Grind.{common_steps}
use Rattle.std.proofs.lemmas.Bool.Decides.{nat_tests}
use Rattle.std.proofs.lemmas.List.{append-nil, length-take, take_all, map-append}
use Rattle.std.specs.List.{concat}
use Rattle.rlc_queue.specs.NewPdu.{room, may_follow, elements, rest, partial}
use Rattle.rlc_queue.specs.Waiting.{HaveOctets, behind}
use Rattle.rlc_am_tx_window.specs.Cut.{some_length}
use Rattle.law_rlc.specs.AmSender.Octets.{Place, places, first_begins, last_ends, lengths}
use Rattle.law_rlc.proofs.AmSender.Stretches.{Joined}

-- the octets of SDUs, the first of which may be begun
abbrev pub stream : Bool → List (List ℕ) → List Place
stream begun [] = []
stream begun (x ∷ xs) = places (not begun) x ++ stream false xs

-- the octets of an SDU that doesn't end with them
abbrev opened : Bool → List ℕ → List Place
opened begins [] = []
opened begins (x ∷ xs) = record { octet = x; begins = begins; ends = false } ∷ opened false xs

abbrev octets : List Place → List ℕ
octets ps = map (λ (p : Place). p.octet) ps

-- ---- one SDU

places-length : (c : Bool) (x : List ℕ) → length (places c x) ≡ length x
places-length c [] = refl
places-length c (x ∷ []) = refl
places-length c (x ∷ y ∷ ys) = ap suc (places-length false (y ∷ ys))

places-octets : (c : Bool) (x : List ℕ) → octets (places c x) ≡ x
places-octets c [] = refl
places-octets c (x ∷ []) = refl
places-octets c (x ∷ y ∷ ys) = ap (λ (zs : List ℕ). x ∷ zs) (places-octets false (y ∷ ys))

opened-octets : (c : Bool) (x : List ℕ) → octets (opened c x) ≡ x
opened-octets c [] = refl
opened-octets c (x ∷ xs) = ap (λ (ys : List ℕ). x ∷ ys) (opened-octets false xs)

places-first : (c : Bool) (x : List ℕ) (ps : List Place) → 0 < length x → first_begins (places c x ++ ps) ≡ c
places-first c [] ps some = absurd (omega arith)
places-first c (x ∷ []) ps some = refl
places-first c (x ∷ y ∷ ys) ps some = refl

opened-first : (c : Bool) (x : List ℕ) → 0 < length x → first_begins (opened c x) ≡ c
opened-first c [] some = absurd (omega arith)
opened-first c (x ∷ xs) some = refl

places-last : (c : Bool) (x : List ℕ) → 0 < length x → last_ends (places c x) ≡ true
places-last c [] some = absurd (omega arith)
places-last c (x ∷ []) some = refl
places-last c (x ∷ y ∷ []) some = refl
places-last c (x ∷ y ∷ z ∷ zs) some = places-last false (y ∷ z ∷ zs) (omega arith)

opened-last : (c : Bool) (x : List ℕ) → last_ends (opened c x) ≡ false
opened-last c [] = refl
opened-last c (x ∷ []) = refl
opened-last c (x ∷ y ∷ ys) = opened-last false (y ∷ ys)

places-lengths : (n : ℕ) (c : Bool) (x : List ℕ) (ps : List Place) → 0 < length x
    → lengths n (places c x ++ ps) ≡ (n + length x) ∷ lengths 0 ps
places-lengths n c [] ps some = absurd (omega arith)
places-lengths n c (x ∷ []) ps some = refl
places-lengths n c (x ∷ y ∷ ys) ps some = let e : n + 1 + length (y ∷ ys) ≡ n + length (x ∷ y ∷ ys) = omega arith in
    places-lengths (n + 1) false (y ∷ ys) ps (omega arith) ∙ ap (λ (k : ℕ). k ∷ lengths 0 ps) e

opened-lengths : (n : ℕ) (c : Bool) (x : List ℕ) → lengths n (opened c x) ≡ some_length (n + length x)
opened-lengths n c [] = let e : n ≡ n + 0 = omega arith in ap some_length e
opened-lengths n c (x ∷ xs) = let e : n + 1 + length xs ≡ n + suc (length xs) = omega arith in
    opened-lengths (n + 1) false xs ∙ ap some_length e

-- an SDU that is cut behind some octets
cut-places : (c : Bool) (n : ℕ) (x : List ℕ) → 0 < n → n < length x
    → places c x ≡ opened c (take n x) ++ places false (drop n x)
cut-places c n [] some lt = absurd (omega arith)
cut-places c zero (x ∷ xs) some lt = absurd (omega arith)
cut-places c (suc n) (x ∷ []) some lt = absurd (omega arith)
cut-places c (suc zero) (x ∷ y ∷ ys) some lt = refl
cut-places c (suc (suc n)) (x ∷ y ∷ ys) some lt =
    ap (λ (ps : List Place). record { octet = x; begins = c; ends = false } ∷ ps)
    (cut-places false (suc n) (y ∷ ys) (omega arith) (omega arith))

pub last-append : (ps qs : List Place) → 0 < length qs → last_ends (ps ++ qs) ≡ last_ends qs
last-append [] qs some = refl
last-append (p ∷ []) [] some = absurd (omega arith)
last-append (p ∷ []) (q ∷ qs) some = refl
last-append (p ∷ r ∷ ps) qs some = last-append (r ∷ ps) qs some

-- ---- the stream

abbrev pub StartsNew : List Place → Type 0
StartsNew [] = Unit {0}
StartsNew (p ∷ ps) = p.begins ≡ true

places-joined : (c : Bool) (x : List ℕ) (ps : List Place) → StartsNew ps → Joined ps → Joined (places c x ++ ps)
places-joined c [] ps s j = j
places-joined c (x ∷ []) [] s j = tt
places-joined c (x ∷ []) (p ∷ ps) s j = (sym s, j)
places-joined c (x ∷ y ∷ []) ps s j = (refl, places-joined false (y ∷ []) ps s j)
places-joined c (x ∷ y ∷ z ∷ zs) ps s j = (refl, places-joined false (y ∷ z ∷ zs) ps s j)

pub stream-starts : (xs : List (List ℕ)) → HaveOctets xs → StartsNew (stream false xs)
stream-starts [] h = tt
stream-starts ([] ∷ xs) h = absurd (let a = h.0 in omega arith)
stream-starts ((x ∷ []) ∷ xs) h = refl
stream-starts ((x ∷ y ∷ ys) ∷ xs) h = refl

stream-joined-false : (xs : List (List ℕ)) → HaveOctets xs → Joined (stream false xs)
stream-joined-false [] h = tt
stream-joined-false (x ∷ xs) h =
    places-joined true x (stream false xs) (stream-starts xs h.1) (stream-joined-false xs h.1)

pub stream-joined : (begun : Bool) (xs : List (List ℕ)) → HaveOctets xs → Joined (stream begun xs)
stream-joined begun [] h = tt
stream-joined begun (x ∷ xs) h =
    places-joined (not begun) x (stream false xs) (stream-starts xs h.1) (stream-joined-false xs h.1)

pub stream-end : (begun : Bool) (xs : List (List ℕ)) (x : List ℕ) → (length xs ≡ 0 → begun ≡ false)
    → stream begun (xs ++ x ∷ []) ≡ stream begun xs ++ places true x
stream-end begun [] x idle = append-nil (places (not begun) x) ∙ ap (λ (b : Bool). places (not b) x) (idle refl)
stream-end begun (y ∷ ys) x idle =
    ap (λ (ps : List Place). places (not begun) y ++ ps) (stream-end false ys x (λ e. refl))
    ∙ sym (append_assoc (places (not begun) y) (stream false ys) (places true x))

-- ---- a new PDU

-- what it takes, with what of the SDUs is left
pub record IsTaken (es rs sdus : List (List ℕ)) (begun part : Bool) : Type 0 where
  pub front : List Place
  pub split : stream begun sdus ≡ front ++ stream part rs
  pub octets : map (λ (p : Place). p.octet) front ≡ concat es
  pub lens : lengths 0 front ≡ map length es
  pub begins : 0 < length front → first_begins front ≡ not begun
  pub ends : 0 < length front → last_ends front ≡ not part
  pub none : length front ≡ 0 → part ≡ begun
  pub rest : HaveOctets rs
  pub idle : length rs ≡ 0 → part ≡ false

take-step : (n : ℕ) (x : List ℕ) (xs es rs : List (List ℕ)) (begun part z f : Bool) → (n == 0) ≡ z
    → may_follow n x ≡ f → HaveOctets (x ∷ xs) → IsTaken es rs xs false part
    → IsTaken (if z then [] else take n x ∷ (if f then es else []))
    (if z then x ∷ xs else if f then rs else behind n (x ∷ xs)) (x ∷ xs) begun
    (if z then begun else if f then part else nat_lt n (length x))
take-step n x xs es rs begun part true f ez ef some ih = record {
  front = [];
  split = refl;
  octets = refl;
  lens = refl;
  begins = λ lt. absurd (omega arith);
  ends = λ lt. absurd (omega arith);
  none = λ e. refl;
  rest = some;
  idle = λ e. absurd (omega arith);
}
take-step n x xs es rs begun part false true ez ef some ih = record {
  front = places (not begun) x ++ ih.front;
  split = ap (λ (ps : List Place). places (not begun) x ++ ps) ih.split
      ∙ sym (append_assoc (places (not begun) x) ih.front (stream part rs));
  octets = map-append (λ (p : Place). p.octet) (places (not begun) x) ih.front
      ∙ (ap (λ (ys : List ℕ). ys ++ octets ih.front) (places-octets (not begun) x ∙ sym all)
      ∙ ap (λ (ys : List ℕ). take n x ++ ys) ih.octets);
  lens = places-lengths 0 (not begun) x ih.front some.0
      ∙ (let e : 0 + length x ≡ length x = omega arith in
      ap (λ (k : ℕ). k ∷ lengths 0 ih.front) (e ∙ sym (ap (λ (ys : List ℕ). length ys) all))
      ∙ ap (λ (ks : List ℕ). length (take n x) ∷ ks) ih.lens);
  begins = λ lt. places-first (not begun) x ih.front some.0;
  ends = λ lt. last (0 == length ih.front) refl;
  none = λ e. absurd (let l = length-append (places (not begun) x) ih.front in let m = places-length (not begun) x in
      let s = some.0 in omega (arith, e, l, m, s));
  rest = ih.rest;
  idle = ih.idle;
}
  where
    all : take n x ≡ x
    all = take_all n x (grind (arith, nat_tests, ef))

    last : (b : Bool) → (0 == length ih.front) ≡ b → last_ends (places (not begun) x ++ ih.front) ≡ not part
    last true e =
        let z : length ih.front ≡ 0 = grind (arith, nat_tests) in
        ap (λ (ps : List Place). last_ends (places (not begun) x ++ ps)) (nil ih.front z)
        ∙ (ap last_ends (append-nil (places (not begun) x))
        ∙ (places-last (not begun) x some.0 ∙ sym (ap not (ih.none z))))
      where
        nil : (ps : List Place) → length ps ≡ 0 → ps ≡ []
        nil [] e = refl
        nil (p ∷ ps) e = absurd (omega arith)
    last false e = let s : 0 < length ih.front = grind (arith, nat_tests) in
        last-append (places (not begun) x) ih.front s ∙ ih.ends s
take-step n x xs es rs begun part false false ez ef some ih = by (nat_lt n (length x)) refl
  where
    pos : 0 < n
    pos = grind (arith, nat_tests, ez)

    by : (b : Bool) → nat_lt n (length x) ≡ b
        → IsTaken (take n x ∷ []) (if b then drop n x ∷ xs else xs) (x ∷ xs) begun b
    by true e =
        let lt : n < length x = grind (arith, nat_tests) in
        let l = length-take n x in let d = length-drop n x in
        let s : 0 < length (take n x) = omega (arith, l, lt, pos) in
        record {
          front = opened (not begun) (take n x);
          split = ap (λ (ps : List Place). ps ++ stream false xs) (cut-places (not begun) n x pos lt)
              ∙ append_assoc (opened (not begun) (take n x)) (places false (drop n x)) (stream false xs);
          octets = opened-octets (not begun) (take n x) ∙ sym (append-nil (take n x));
          lens = opened-lengths 0 (not begun) (take n x) ∙ one (length (take n x)) s;
          begins = λ lt. opened-first (not begun) (take n x) s;
          ends = λ lt. opened-last (not begun) (take n x);
          none = λ e. absurd (let m = ap (λ (ys : List ℕ). length ys) (opened-octets (not begun) (take n x)) in
              let k = map-long (opened (not begun) (take n x)) in omega (arith, e, m, k, s));
          rest = (omega (arith, d, lt), some.1);
          idle = λ e. absurd (omega arith);
        }
      where
        one : (k : ℕ) → 0 < k → some_length (0 + k) ≡ k ∷ []
        one k h = grind (arith, nat_tests, common_steps)

        map-long : (ps : List Place) → length (octets ps) ≡ length ps
        map-long [] = refl
        map-long (p ∷ ps) = ap suc (map-long ps)
    by false e =
        let le : length x ≤ n = grind (arith, nat_tests) in
        let all : take n x ≡ x = take_all n x le in
        record {
          front = places (not begun) x;
          split = refl;
          octets = places-octets (not begun) x ∙ (sym all ∙ sym (append-nil (take n x)));
          lens = ap (λ (ps : List Place). lengths 0 ps) (sym (append-nil (places (not begun) x)))
              ∙ (places-lengths 0 (not begun) x [] some.0
              ∙ (let q : 0 + length x ≡ length x = omega arith in
              ap (λ (k : ℕ). k ∷ []) (q ∙ sym (ap (λ (ys : List ℕ). length ys) all))));
          begins = λ lt. ap first_begins (sym (append-nil (places (not begun) x)))
              ∙ places-first (not begun) x [] some.0;
          ends = λ lt. places-last (not begun) x some.0;
          none = λ e. absurd (let m = places-length (not begun) x in let s = some.0 in omega (arith, e, m, s));
          rest = some.1;
          idle = λ e. refl;
        }

pub taken : (size c u : ℕ) (begun : Bool) (sdus : List (List ℕ)) → HaveOctets sdus → (length sdus ≡ 0 → begun ≡ false)
    → IsTaken (elements 2 size c u sdus) (rest 2 size c u sdus) sdus begun (partial 2 size c u begun sdus)
taken size c u begun [] some idle = record {
  front = [];
  split = refl;
  octets = refl;
  lens = refl;
  begins = λ lt. absurd (omega arith);
  ends = λ lt. absurd (omega arith);
  none = λ e. refl;
  rest = tt;
  idle = idle;
}
taken size c u begun (x ∷ xs) some idle =
    take-step (room 2 size c u) x xs (elements 2 size (c + 1) (u + length x) xs)
    (rest 2 size (c + 1) (u + length x) xs) begun (partial 2 size (c + 1) (u + length x) false xs)
    (room 2 size c u == 0) (may_follow (room 2 size c u) x) refl refl some
    (taken size (c + 1) (u + length x) false xs some.1 (λ e. refl))
