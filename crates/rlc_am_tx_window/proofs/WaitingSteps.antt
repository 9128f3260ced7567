-- The numbers that wait, beside the ring.
use Rattle.std.proofs.Common.{◌≡◌, ◌<◌, ◌≤◌, ℕ, suc, zero, ◌+◌, Bool, true, false, List, [], ◌∷◌, ◌++◌, length, drop}
use Rattle.std.proofs.Common.{None, Some, slice_get, slice_set, refl, ap, sym, ◌∙◌, arith, nat_lt, ◌==◌, if◌then◌else◌}
use Rattle.std.proofs.Common.{subst}
use Rattle.std.proofs.lemmas.Bool.Decides.{nat_tests}
use Rattle.rlc_am_tx_window.specs.Numbers.{Ascend, inserted, without}
use Rattle.rlc_am_tx_window.specs.Sent.{Sent, is_waiting, considered, considered_by, rested, fresh, acknowledged}
use Rattle.rlc_am_tx_window.specs.Sent.{gets_acked}
use Rattle.rlc_am_tx_window.specs.Window.{slot_at, waiting_from, leading_idle}
use Rattle.rlc_am_tx_window.proofs.SlotSteps.{no-gap}

is-less : (n m : ℕ) → n < m → nat_lt n m ≡ true
is-less n m h = grind (arith, nat_tests)

is-more : (n m : ℕ) → m ≤ n → nat_lt n m ≡ false
is-more n m h = grind (arith, nat_tests)

is-same : (n : ℕ) → (n == n) ≡ true
is-same n = grind (arith, nat_tests)

not-same : (n m : ℕ) → n < m → (m == n) ≡ false
not-same n m h = grind (arith, nat_tests)

-- a number below all that wait

insert-front : (n m : ℕ) (hs : List Sent) → n < m → inserted n (waiting_from m hs) ≡ n ∷ waiting_from m hs
insert-front n m [] lt = refl
insert-front n m (h ∷ hs) lt = step (is_waiting h) (insert-front n (m + 1) hs (omega arith))
  where
    step : (b : Bool) → inserted n (waiting_from (m + 1) hs) ≡ n ∷ waiting_from (m + 1) hs
        → inserted n (if b then m ∷ waiting_from (m + 1) hs else waiting_from (m + 1) hs)
        ≡ n ∷ (if b then m ∷ waiting_from (m + 1) hs else waiting_from (m + 1) hs)
    step true e = rw (is-more m n (omega arith), not-same n m lt) refl
    step false e = e

without-front : (n m : ℕ) (hs : List Sent) → n < m → without n (waiting_from m hs) ≡ waiting_from m hs
without-front n m [] lt = refl
without-front n m (h ∷ hs) lt = step (is_waiting h) (without-front n (m + 1) hs (omega arith))
  where
    step : (b : Bool) → without n (waiting_from (m + 1) hs) ≡ waiting_from (m + 1) hs
        → without n (if b then m ∷ waiting_from (m + 1) hs else waiting_from (m + 1) hs)
        ≡ (if b then m ∷ waiting_from (m + 1) hs else waiting_from (m + 1) hs)
    step true e = rw (is-more m n (omega arith), not-same n m lt) refl
    step false e = e

-- a number that waits once it is set, and one that doesn't

insert-set : (base at n : ℕ) (slots : List Sent) (x : Sent) → n ≡ base + at → at < length slots → is_waiting x ≡ true
    → inserted n (waiting_from base slots) ≡ waiting_from base (slice_set slots at x)
insert-set base at n [] x e h w = absurd (omega arith)
insert-set base zero n (h ∷ hs) x e lt w = let e' : n ≡ base = omega arith in
    subst (λ (k : ℕ). inserted k (waiting_from base (h ∷ hs)) ≡ waiting_from base (slice_set (h ∷ hs) zero x))
    (sym e') (rw w (step (is_waiting h)))
  where
    step : (b : Bool) → inserted base (if b then base ∷ waiting_from (base + 1) hs else waiting_from (base + 1) hs)
        ≡ base ∷ waiting_from (base + 1) hs
    step true = rw (is-more base base (omega arith), is-same base) refl
    step false = insert-front base (base + 1) hs (omega arith)
insert-set base (suc at) n (h ∷ hs) x e lt w =
    step (is_waiting h) (insert-set (base + 1) at n hs x (omega arith) (omega arith) w)
  where
    step : (b : Bool) → inserted n (waiting_from (base + 1) hs) ≡ waiting_from (base + 1) (slice_set hs at x)
        → inserted n (if b then base ∷ waiting_from (base + 1) hs else waiting_from (base + 1) hs)
        ≡ (if b then base ∷ waiting_from (base + 1) (slice_set hs at x)
        else waiting_from (base + 1) (slice_set hs at x))
    step true ih = rw (is-less base n (omega arith)) (ap (λ ys. base ∷ ys) ih)
    step false ih = ih

without-set : (base at n : ℕ) (slots : List Sent) (x : Sent) → n ≡ base + at → at < length slots
    → is_waiting x ≡ false → without n (waiting_from base slots) ≡ waiting_from base (slice_set slots at x)
without-set base at n [] x e h w = absurd (omega arith)
without-set base zero n (h ∷ hs) x e lt w = let e' : n ≡ base = omega arith in
    subst (λ (k : ℕ). without k (waiting_from base (h ∷ hs)) ≡ waiting_from base (slice_set (h ∷ hs) zero x)) (sym e')
    (rw w (step (is_waiting h)))
  where
    step : (b : Bool) → without base (if b then base ∷ waiting_from (base + 1) hs else waiting_from (base + 1) hs)
        ≡ waiting_from (base + 1) hs
    step true = rw (is-more base base (omega arith), is-same base) refl
    step false = without-front base (base + 1) hs (omega arith)
without-set base (suc at) n (h ∷ hs) x e lt w =
    step (is_waiting h) (without-set (base + 1) at n hs x (omega arith) (omega arith) w)
  where
    step : (b : Bool) → without n (waiting_from (base + 1) hs) ≡ waiting_from (base + 1) (slice_set hs at x)
        → without n (if b then base ∷ waiting_from (base + 1) hs else waiting_from (base + 1) hs)
        ≡ (if b then base ∷ waiting_from (base + 1) (slice_set hs at x)
        else waiting_from (base + 1) (slice_set hs at x))
    step true ih = rw (is-less base n (omega arith)) (ap (λ ys. base ∷ ys) ih)
    step false ih = ih

same-set : (base at : ℕ) (slots : List Sent) (x : Sent) → at < length slots
    → is_waiting x ≡ is_waiting (slot_at slots at)
    → waiting_from base (slice_set slots at x) ≡ waiting_from base slots
same-set base at [] x h e = absurd (omega arith)
same-set base zero (h ∷ hs) x lt e = rw e refl
same-set base (suc at) (h ∷ hs) x lt e = rw (same-set (base + 1) at hs x (omega arith) e) refl

-- set to itself
set-itself : (slots : List Sent) (at : ℕ) → slice_set slots at (slot_at slots at) ≡ slots
set-itself [] at = refl
set-itself (h ∷ hs) zero = refl
set-itself (h ∷ hs) (suc at) = ap (λ ys. h ∷ ys) (set-itself hs at)

pub slot-set : (slots : List Sent) (at : ℕ) (x : Sent) → at < length slots → slot_at (slice_set slots at x) at ≡ x
slot-set [] at x h = absurd (omega arith)
slot-set (h ∷ hs) zero x lt = refl
slot-set (h ∷ hs) (suc at) x lt = slot-set hs at x (omega arith)

without-inserted : (n : ℕ) (xs : List ℕ) → without n (inserted n xs) ≡ without n xs
without-inserted n [] = rw (is-more n n (omega arith), is-same n) refl
without-inserted n (x ∷ xs) = step (nat_lt x n) (x == n) refl refl (without-inserted n xs)
  where
    step : (a b : Bool) → nat_lt x n ≡ a → (x == n) ≡ b → without n (inserted n xs) ≡ without n xs
        → without n (if a then x ∷ inserted n xs else if b then x ∷ xs else n ∷ x ∷ xs)
        ≡ (if a then x ∷ without n xs else if b then xs else x ∷ xs)
    step true b e f ih = rw (e, ih) refl
    step false true e f ih = rw (e, f) refl
    step false false e f ih = rw (is-more n n (omega arith), is-same n) refl

-- a number is named

pub insert-named : (base at : ℕ) (slots : List Sent) (x : Sent) → at < length slots
    → is_waiting (slot_at (slice_set slots at x) at) ≡ true
    → inserted (base + at) (waiting_from base slots) ≡ waiting_from base (slice_set slots at x)
insert-named base at slots x h w =
    insert-set base at (base + at) slots x refl h (ap is_waiting (sym (slot-set slots at x h)) ∙ w)

pub without-named : (base at : ℕ) (slots : List Sent) (x : Sent) → at < length slots
    → is_waiting (slot_at (slice_set slots at x) at) ≡ false
    → without (base + at) (inserted (base + at) (waiting_from base slots)) ≡ waiting_from base (slice_set slots at x)
without-named base at slots x h w = without-inserted (base + at) (waiting_from base slots)
    ∙ without-set base at (base + at) slots x refl h (ap is_waiting (sym (slot-set slots at x h)) ∙ w)

pub insert-there : (base at : ℕ) (slots : List Sent) → at < length slots → is_waiting (slot_at slots at) ≡ true
    → inserted (base + at) (waiting_from base slots) ≡ waiting_from base slots
insert-there base at slots h w = insert-set base at (base + at) slots (slot_at slots at) refl h w
    ∙ ap (waiting_from base) (set-itself slots at)

pub without-there : (base at : ℕ) (slots : List Sent) → at < length slots → is_waiting (slot_at slots at) ≡ false
    → without (base + at) (inserted (base + at) (waiting_from base slots)) ≡ waiting_from base slots
without-there base at slots h w = without-inserted (base + at) (waiting_from base slots)
    ∙ (without-set base at (base + at) slots (slot_at slots at) refl h w
    ∙ ap (waiting_from base) (set-itself slots at))

ascend-wider : (low high : ℕ) (xs : List ℕ) → low ≤ high → Ascend high xs → Ascend low xs
ascend-wider low high [] le h = tt
ascend-wider low high (x ∷ xs) le h = (omega (arith, h.0), h.1)

ascends : (base : ℕ) (slots : List Sent) → Ascend base (waiting_from base slots)
ascends base [] = tt
ascends base (h ∷ hs) = step (is_waiting h) (ascends (base + 1) hs)
  where
    step : (b : Bool) → Ascend (base + 1) (waiting_from (base + 1) hs)
        → Ascend base (if b then base ∷ waiting_from (base + 1) hs else waiting_from (base + 1) hs)
    step true e = (omega arith, e)
    step false e = ascend-wider base (base + 1) (waiting_from (base + 1) hs) (omega arith) e

pub numbers-ascend : (ns : List ℕ) (base : ℕ) (slots : List Sent) → ns ≡ waiting_from base slots → Ascend 0 ns
numbers-ascend ns base slots e =
    subst (λ (xs : List ℕ). Ascend 0 xs) (sym e)
    (ascend-wider 0 base (waiting_from base slots) (omega arith) (ascends base slots))

pub ruleset names = (numbers-ascend, insert-named, without-named, insert-there, without-there)

-- a number rests

pub rested-idle : (h : Sent) → is_waiting (rested h) ≡ false
rested-idle h = rw (no-gap 0 (length h.field)) refl

pub rest-set : (base at : ℕ) (slots : List Sent) → at < length slots
    → without (base + at) (waiting_from base slots)
    ≡ waiting_from base (slice_set slots at (rested (slot_at slots at)))
rest-set base at slots h =
    without-set base at (base + at) slots (rested (slot_at slots at)) refl h (rested-idle (slot_at slots at))

pub ruleset sets = (rest-set)

-- a part of a number rests

pub part-waits : (base at : ℕ) (slots : List Sent) (x : Sent) → at < length slots
    → is_waiting (slot_at slots at) ≡ true → is_waiting (slot_at (slice_set slots at x) at) ≡ true
    → waiting_from base (slice_set slots at x) ≡ waiting_from base slots
part-waits base at slots x h w v =
    same-set base at slots x h (ap is_waiting (sym (slot-set slots at x h)) ∙ (v ∙ sym w))

pub part-idle : (base at : ℕ) (slots : List Sent) (x : Sent) → at < length slots
    → is_waiting (slot_at (slice_set slots at x) at) ≡ false
    → without (base + at) (waiting_from base slots) ≡ waiting_from base (slice_set slots at x)
part-idle base at slots x h v =
    without-set base at (base + at) slots x refl h (ap is_waiting (sym (slot-set slots at x h)) ∙ v)

pub ruleset parts = (part-waits, part-idle)

-- all of a number is named where nothing waits

leading-within : (slots : List Sent) → leading_idle slots ≤ length slots
leading-within [] = omega arith
leading-within (h ∷ hs) = step (is_waiting h) (leading-within hs)
  where
    step : (b : Bool) → leading_idle hs ≤ length hs → (if b then 0 else leading_idle hs + 1) ≤ suc (length hs)
    step true h = omega arith
    step false h = omega arith

none-waits : (base : ℕ) (slots : List Sent) → leading_idle slots ≡ length slots → waiting_from base slots ≡ []
none-waits base [] e = refl
none-waits base (h ∷ hs) e = step (is_waiting h) (none-waits (base + 1) hs) e
  where
    step : (b : Bool) → (leading_idle hs ≡ length hs → waiting_from (base + 1) hs ≡ [])
        → (if b then 0 else leading_idle hs + 1) ≡ suc (length hs)
        → (if b then base ∷ waiting_from (base + 1) hs else waiting_from (base + 1) hs) ≡ []
    step true ih e = absurd (omega arith)
    step false ih e = ih (omega arith)

pub quiet-none : (base : ℕ) (slots : List Sent) → leading_idle slots ≡ length slots → waiting_from base slots ≡ []
quiet-none base slots e = none-waits base slots e

pub recall-waits : (base at : ℕ) (slots : List Sent) (x : Sent) → at < length slots
    → leading_idle slots ≡ length slots → is_waiting (slot_at (slice_set slots at x) at) ≡ true
    → waiting_from base (slice_set slots at x) ≡ (base + at) ∷ []
recall-waits base at slots x h q w =
    sym (ap (inserted (base + at)) (sym (none-waits base slots q)) ∙ insert-named base at slots x h w)

pub recall-idle : (base at : ℕ) (slots : List Sent) (x : Sent) → at < length slots → leading_idle slots ≡ length slots
    → is_waiting (slot_at (slice_set slots at x) at) ≡ false
    → waiting_from base (slice_set slots at x) ≡ waiting_from base slots
recall-idle base at slots x h q w = sym (part-idle base at slots x h w)
    ∙ (ap (without (base + at)) (none-waits base slots q) ∙ sym (none-waits base slots q))

pub ruleset recalls = (quiet-none, recall-waits, recall-idle)

-- a number is acknowledged

acknowledged-idle : (h : Sent) → gets_acked h ≡ true → is_waiting (acknowledged h) ≡ false
acknowledged-idle h g = rw g (rested-idle h)

pub ack-waits : (base at : ℕ) (slots : List Sent) → at < length slots → gets_acked (slot_at slots at) ≡ true
    → without (base + at) (waiting_from base slots)
    ≡ waiting_from base (slice_set slots at (acknowledged (slot_at slots at)))
ack-waits base at slots h g =
    without-set base at (base + at) slots (acknowledged (slot_at slots at)) refl h
    (acknowledged-idle (slot_at slots at) g)

pub ack-idle : (base at : ℕ) (slots : List Sent) → at < length slots → gets_acked (slot_at slots at) ≡ true
    → is_waiting (slot_at slots at) ≡ false → waiting_from base (slice_set slots at (acknowledged (slot_at slots at)))
    ≡ waiting_from base slots
ack-idle base at slots h g w =
    same-set base at slots (acknowledged (slot_at slots at)) h (acknowledged-idle (slot_at slots at) g ∙ sym w)

pub ack-not : (slots : List Sent) (at : ℕ) → gets_acked (slot_at slots at) ≡ false
    → slice_set slots at (acknowledged (slot_at slots at)) ≡ slots
ack-not slots at g = rw g (set-itself slots at)

pub ruleset acks = (ack-waits, ack-idle, ack-not)

-- a number is considered

considered-waits : (o : _) (most : ℕ) (h : Sent) → is_waiting (considered_by o most h) ≡ is_waiting h
considered-waits None most h = refl
considered-waits (Some new) most h = refl

pub consider-set : (base at most : ℕ) (slots : List Sent) → at < length slots
    → waiting_from base (slice_set slots at (considered most (slot_at slots at))) ≡ waiting_from base slots
consider-set base at most slots h =
    same-set base at slots (considered most (slot_at slots at)) h
    (considered-waits (slot_at slots at).named most (slot_at slots at))

pub ruleset considers = (consider-set)

-- the first number leaves

pub pass-front : (base : ℕ) (slots : List Sent)
    → without base (waiting_from base slots) ≡ waiting_from (base + 1) (drop 1 slots)
pass-front base [] = refl
pass-front base (h ∷ hs) = step (is_waiting h)
  where
    step : (b : Bool) → without base (if b then base ∷ waiting_from (base + 1) hs else waiting_from (base + 1) hs)
        ≡ waiting_from (base + 1) hs
    step true = rw (is-more base base (omega arith), is-same base) refl
    step false = without-front base (base + 1) hs (omega arith)

pub ruleset passes = (pass-front)

-- the first that waits

pub first-some : (base n : ℕ) (slots : List Sent) → slice_get (waiting_from base slots) 0 ≡ Some n
    → n ≡ base + leading_idle slots
first-some base n [] e = let no' : None ≡ Some n = e in cc
first-some base n (h ∷ hs) e = step (is_waiting h) (first-some (base + 1) n hs) e
  where
    step : (b : Bool) → (slice_get (waiting_from (base + 1) hs) 0 ≡ Some n → n ≡ base + 1 + leading_idle hs)
        → slice_get (if b then base ∷ waiting_from (base + 1) hs else waiting_from (base + 1) hs) 0 ≡ Some n
        → n ≡ base + (if b then 0 else leading_idle hs + 1)
    step true ih e = let same : base ≡ n = cc in omega arith
    step false ih e = let h = ih e in omega arith

pub first-none : (base : ℕ) (slots : List Sent) → slice_get (waiting_from base slots) 0 ≡ None
    → leading_idle slots ≡ length slots
first-none base [] e = refl
first-none base (h ∷ hs) e = step (is_waiting h) (first-none (base + 1) hs) e
  where
    step : (b : Bool) → (slice_get (waiting_from (base + 1) hs) 0 ≡ None → leading_idle hs ≡ length hs)
        → slice_get (if b then base ∷ waiting_from (base + 1) hs else waiting_from (base + 1) hs) 0 ≡ None
        → (if b then 0 else leading_idle hs + 1) ≡ suc (length hs)
    step true ih e = let no' : Some base ≡ None = e in cc
    step false ih e = let h = ih e in omega arith

pub within : (slots : List Sent) → leading_idle slots ≤ length slots
within slots = leading-within slots

pub ruleset firsts = (first-some, first-none, within)

-- a number is added

pub push-idle : (base : ℕ) (slots : List Sent) (x : Sent) → is_waiting x ≡ false
    → waiting_from base (slots ++ x ∷ []) ≡ waiting_from base slots
push-idle base [] x w = rw w refl
push-idle base (h ∷ hs) x w = rw (push-idle (base + 1) hs x w) refl

pub ruleset pushes = (push-idle)

pub fresh-idle : (field lens : List ℕ) (begins ends : Bool) (place : ℕ)
    → is_waiting (fresh field lens begins ends place) ≡ false
fresh-idle field lens begins ends place = rw (no-gap 0 (length field)) refl
