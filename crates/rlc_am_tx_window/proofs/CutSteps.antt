-- Lengths that are clipped and cut.
use Rattle.std.proofs.Common.{◌≡◌, ℕ, ◌+◌, ◌-◌, ◌<◌, ◌≤◌, ◌^◌, Bool, true, false, not, List, [], ◌∷◌, ◌++◌, length, min}
use Rattle.std.proofs.Common.{refl, arith, nat_lt, if◌then◌else◌, ◌==◌}
use Rattle.std.specs.List.{sum}
use Rattle.std.proofs.lemmas.Grind.{common_steps}
use Rattle.std.proofs.lemmas.Bool.Decides.{nat_tests}
use Rattle.rlc_pdu.specs.Pdus.{AreLens}
use Rattle.rlc_am_tx_window.specs.Cut.{cost, goes_on, cut, clip}

pub sum-first : (x : ℕ) (xs : List ℕ) → sum (x ∷ xs) ≡ x + sum xs
sum-first x xs = grind (arith, common_steps)

pub lens-few : (ls : List ℕ) → AreLens ls → length ls ≤ sum ls
lens-few [] h = absurd h
lens-few (n ∷ []) h = rw (sum-first n []) (omega (arith, h))
lens-few (n ∷ m ∷ ns) h = let rest = lens-few (m ∷ ns) h.2 in rw (sum-first n (m ∷ ns)) (omega (arith, h.0))

pub some-lens : (n : ℕ) (ls : List ℕ) → 1 ≤ n → n < 2 ^ 11 → AreLens ls → AreLens (n ∷ ls)
some-lens n [] a b h = absurd h
some-lens n (m ∷ ns) a b h = (a, b, h)

pub clip-none : (ls : List ℕ) → clip 0 0 ls ≡ []
clip-none [] = refl
clip-none (l ∷ ls) = let a : min 0 l - 0 ≡ 0 = omega arith in let b : 0 - l ≡ 0 = omega arith in
    rw (a, b) (clip-none ls)

goes-less : (half : Bool) (room l : ℕ) → goes_on half room l ≡ true → l + cost half < room
goes-less half room l e = grind (arith, nat_tests)

is-below : (n m : ℕ) → nat_lt n m ≡ true → n < m
is-below n m e = grind (arith, nat_tests)

is-above : (n m : ℕ) → nat_lt n m ≡ false → m ≤ n
is-above n m e = grind (arith, nat_tests)

-- what is cut isn't longer than the lengths, nor than the room
pub cut-sum : (half : Bool) (room : ℕ) (ls : List ℕ) → sum (cut half room ls) ≤ sum ls
cut-sum half room [] = omega arith
cut-sum half room (l ∷ ls) =
    rw (
      sum-first l ls,
      sum-first (min l room) (if goes_on half room l then cut (not half) (room - (l + cost half)) ls else []),
    )
    (step (goes_on half room l) (cut-sum (not half) (room - (l + cost half)) ls))
  where
    step : (b : Bool) → sum (cut (not half) (room - (l + cost half)) ls) ≤ sum ls
        → min l room + sum (if b then cut (not half) (room - (l + cost half)) ls else []) ≤ l + sum ls
    step true h = omega arith
    step false h = omega arith

pub cut-lens : (half : Bool) (room : ℕ) (ls : List ℕ) → 1 ≤ room → AreLens ls → AreLens (cut half room ls)
cut-lens half room [] r h = absurd h
cut-lens half room (l ∷ []) r h = step (goes_on half room l)
  where
    step : (b : Bool) → AreLens (min l room ∷ (if b then [] else []))
    step true = omega (arith, h)
    step false = omega (arith, h)
cut-lens half room (l ∷ m ∷ ls) r h =
    step (goes_on half room l) (goes-less half room l)
    (λ s. cut-lens (not half) (room - (l + cost half)) (m ∷ ls) s h.2)
  where
    step : (b : Bool) → (b ≡ true → l + cost half < room)
        → (1 ≤ room - (l + cost half) → AreLens (cut (not half) (room - (l + cost half)) (m ∷ ls)))
        → AreLens (min l room ∷ (if b then cut (not half) (room - (l + cost half)) (m ∷ ls) else []))
    step true less rest = let lt = less refl in
        some-lens (min l room) (cut (not half) (room - (l + cost half)) (m ∷ ls)) (omega (arith, h.0))
        (omega (arith, h.1)) (rest (omega arith))
    step false less rest = omega (arith, h.0)

none-test : (n : ℕ) → (n == 0) ≡ true → n ≡ 0
none-test n e = grind (arith, nat_tests)

some-test : (n : ℕ) → (n == 0) ≡ false → 1 ≤ n
some-test n e = grind (arith, nat_tests)

-- what is clipped has the octets between the two places
pub clip-sum : (from to : ℕ) (ls : List ℕ) → sum (clip from to ls) ≡ min to (sum ls) - from
clip-sum from to [] = omega arith
clip-sum from to (l ∷ ls) =
    rw (sum-first l ls)
    (step (min to l - from) (min to l - from == 0) refl (none-test (min to l - from))
    (clip-sum (from - l) (to - l) ls))
  where
    step : (n : ℕ) (b : Bool) → n ≡ min to l - from → (b ≡ true → n ≡ 0)
        → sum (clip (from - l) (to - l) ls) ≡ min (to - l) (sum ls) - (from - l)
        → sum ((if b then [] else n ∷ []) ++ clip (from - l) (to - l) ls) ≡ min to (l + sum ls) - from
    step n true e z h = let zz = z refl in omega arith
    step n false e z h = rw (sum-first n (clip (from - l) (to - l) ls)) (omega arith)

pub clip-lens : (from to : ℕ) (ls : List ℕ) → AreLens ls → from < to → to ≤ sum ls → AreLens (clip from to ls)
clip-lens from to [] h lt le = absurd h
clip-lens from to (l ∷ []) h lt le = let s = sum-first l [] in
    step (min to l - from) (min to l - from == 0) refl (none-test (min to l - from)) (some-test (min to l - from)) s
  where
    step : (n : ℕ) (b : Bool) → n ≡ min to l - from → (b ≡ true → n ≡ 0) → (b ≡ false → 1 ≤ n)
        → sum (l ∷ []) ≡ l + sum [] → AreLens ((if b then [] else n ∷ []) ++ [])
    step n true e z o s = let zz = z refl in absurd (omega arith)
    step n false e z o s = o refl
clip-lens from to (l ∷ m ∷ ls) h lt le =
    step (min to l - from) (min to l - from == 0) refl (none-test (min to l - from)) (some-test (min to l - from))
    (λ lt' le'. clip-lens (from - l) (to - l) (m ∷ ls) h.2 lt' le') (sum-first l (m ∷ ls))
  where
    more : (n : ℕ) → n ≡ min to l - from → 1 ≤ n → (b : Bool) → nat_lt l to ≡ b
        → (from - l < to - l → to - l ≤ sum (m ∷ ls) → AreLens (clip (from - l) (to - l) (m ∷ ls)))
        → sum (l ∷ m ∷ ls) ≡ l + sum (m ∷ ls) → AreLens (n ∷ clip (from - l) (to - l) (m ∷ ls))
    more n e o true t rest s = let t' = is-below l to t in
        some-lens n (clip (from - l) (to - l) (m ∷ ls)) o (omega (arith, h.1)) (rest (omega arith) (omega arith))
    more n e o false t rest s = let t' = is-above l to t in let a : from - l ≡ 0 = omega arith in
        let b : to - l ≡ 0 = omega arith in rw (a, b, clip-none (m ∷ ls)) o

    step : (n : ℕ) (b : Bool) → n ≡ min to l - from → (b ≡ true → n ≡ 0) → (b ≡ false → 1 ≤ n)
        → (from - l < to - l → to - l ≤ sum (m ∷ ls) → AreLens (clip (from - l) (to - l) (m ∷ ls)))
        → sum (l ∷ m ∷ ls) ≡ l + sum (m ∷ ls)
        → AreLens ((if b then [] else n ∷ []) ++ clip (from - l) (to - l) (m ∷ ls))
    step n true e z o rest s = let zz = z refl in rest (omega arith) (omega arith)
    step n false e z o rest s = more n e (o refl) (nat_lt l to) refl rest s

-- in the shape of a segment
pub stretch-lens : (size from end : ℕ) (ls : List ℕ) → AreLens ls → from ≤ end → end < sum ls → 5 ≤ size
    → AreLens (cut false (size - 4) (clip from (end + 1) ls))
stretch-lens size from end ls h le lt room =
    cut-lens false (size - 4) (clip from (end + 1) ls) (omega arith)
    (clip-lens from (end + 1) ls h (omega arith) (omega arith))

pub stretch-sum : (size from end : ℕ) (ls : List ℕ) → from ≤ end → end < sum ls
    → from + sum (cut false (size - 4) (clip from (end + 1) ls)) ≤ end + 1
stretch-sum size from end ls le lt = let a = cut-sum false (size - 4) (clip from (end + 1) ls) in
    let b = clip-sum from (end + 1) ls in omega arith

pub lens-some : (ls : List ℕ) → AreLens ls → 1 ≤ sum ls
lens-some [] h = absurd h
lens-some (n ∷ []) h = rw (sum-first n []) (omega (arith, h))
lens-some (n ∷ m ∷ ns) h = rw (sum-first n (m ∷ ns)) (omega (arith, h.0))

pub ruleset stretches = (stretch-lens, stretch-sum, lens-some)

pub ruleset few = (lens-few)
