-- Numbers and the bits that write them.
use Rattle.std.proofs.Common.{◌≡◌, ℕ, zero, suc, ◌+◌, ◌-◌, ◌*◌, ◌/◌, ◌%◌, ◌^◌, ◌<◌, ◌≤◌, Bool, true, false, List, []}
use Rattle.std.proofs.Common.{◌∷◌, ◌++◌, Some, None, length, take, drop, get_or, refl, sym, ap, ◌∙◌, arith, eqb}
use Rattle.std.specs.Prelude.{fold}
use Rattle.std.proofs.lemmas.List.{length-append, length-take, length-drop, take-append-drop, take_at, drop_at}
use Rattle.std.proofs.lemmas.List.{append_assoc, drop-drop, drop-take, take-take, take_more}
use Rattle.std.proofs.Math.Pow.{pow_mono}
use Rattle.std.proofs.lemmas.List.Sums.{fold-append}
use Rattle.std.proofs.lemmas.Grind.{flat_map-append}
use Rattle.std.proofs.Math.Nat.{mod-eq_of_lt, pow-suc, mul-add-div_right, mul_comm}
use Rattle.std.proofs.lemmas.Bool.{le-ltb, lt-ltb}
use Rattle.std.proofs.lemmas.Nat.{mod-pow-add, field_of, pow_pos, mul-le, shr_high, mod_low, pow-add, mod_below}
use Rattle.std.proofs.lemmas.Nat.{shr-shr, shr_split, shr_below, shl_whole, mul-add-lt}
use Rattle.l2_bits.specs.Bits.{digit, number, bits, bits_of, take_field}

pub length-bits : (n v : ℕ) → length (bits n v) ≡ n
unfolding bits
length-bits zero v = refl
length-bits (suc n) v = ap suc (length-bits n v)

pub length-bits_of : (octets : List ℕ) → length (bits_of octets) ≡ 8 * length octets
unfolding bits
length-bits_of [] = refl
length-bits_of (o ∷ os) = omega (arith, length-bits_of os)

step : ℕ → Bool → ℕ
step v b = 2 * v + digit b

digit-bit : (v : ℕ) → v < 2 → digit (eqb v 1) ≡ v
digit-bit zero h = refl
digit-bit (suc zero) h = refl
digit-bit (suc (suc v)) h = absurd (omega arith)

-- bits read on from a number
pub fold-bits : (n v a : ℕ) → fold (λ v b. 2 * v + digit b) a (bits n v) ≡ a * 2 ^ n + v % 2 ^ n
unfolding bits
fold-bits zero v a = grind arith
fold-bits (suc n) v a =
    let d : v / 2 ^ n % 2 < 2 = mod_below (v / 2 ^ n) 2 (omega arith) in
    let m : v % 2 ^ (1 + n) ≡ v / 2 ^ n % 2 * 2 ^ n + v % 2 ^ n = mod-pow-add v 1 n in
    let s : 1 + n ≡ suc n = omega arith in
    let m' = rw s at m in
    let p : 2 ^ suc n ≡ 2 ^ n * 2 = pow-suc 2 n in
    rw (fold-bits n v (2 * a + digit (eqb (v / 2 ^ n % 2) 1)), digit-bit (v / 2 ^ n % 2) d, m', p) (omega arith)

pub number-bits : (n v : ℕ) → number (bits n v) ≡ v % 2 ^ n
number-bits n v = omega (arith, fold-bits n v 0)

pub fold-from : (xs : List Bool) (a : ℕ) → fold (λ v b. 2 * v + digit b) a xs ≡ a * 2 ^ length xs + number xs
fold-from [] a = grind arith
fold-from (x ∷ xs) a =
    let here = fold-from xs (2 * a + digit x) in
    let there = fold-from xs (2 * 0 + digit x) in
    let p : 2 ^ suc (length xs) ≡ 2 ^ length xs * 2 = pow-suc 2 (length xs) in
    rw (here, p) (omega (arith, there))

pub number-append : (xs ys : List Bool) → number (xs ++ ys) ≡ number xs * 2 ^ length ys + number ys
number-append xs ys = rw fold-append (fold-from ys (number xs))

digit-lt : (b : Bool) → digit b ≤ 1
digit-lt true = omega arith
digit-lt false = omega arith

pub number-lt : (xs : List Bool) → number xs < 2 ^ length xs
number-lt [] = omega arith
number-lt (x ∷ xs) =
    let there = fold-from xs (2 * 0 + digit x) in
    let p : 2 ^ suc (length xs) ≡ 2 ^ length xs * 2 = pow-suc 2 (length xs) in
    let d = digit-lt x in
    let h = number-lt xs in
    let m : digit x * 2 ^ length xs ≤ 1 * 2 ^ length xs =
    mul-le (digit x) (2 ^ length xs) 1 (2 ^ length xs) d (omega arith) in
    rw (p, there) (omega arith)

-- the two parts of bits
parts : (n : ℕ) (xs : List Bool) → (number xs ≡ number (take n xs) * 2 ^ (length xs - n) + number (drop n xs))
    × (number (drop n xs) < 2 ^ (length xs - n))
parts n xs =
    let e = number-append (take n xs) (drop n xs) in
    let w : number xs ≡ number (take n xs ++ drop n xs) = ap number (sym (take-append-drop n xs)) in
    let below = number-lt (drop n xs) in
    (w ∙ rw length-drop at e, rw length-drop at below)

pub number-take : (n : ℕ) (xs : List Bool) → number (take n xs) ≡ number xs / 2 ^ (length xs - n)
number-take n xs = let p = parts n xs in
    rw p.0 (sym (shr_high (number (take n xs)) (length xs - n) (number (drop n xs)) p.1))

pub number-drop : (n : ℕ) (xs : List Bool) → number (drop n xs) ≡ number xs % 2 ^ (length xs - n)
number-drop n xs = let p = parts n xs in
    rw p.0 (sym (mod_low (number (take n xs)) (length xs - n) (number (drop n xs)) p.1))

pub bits_of-append : (a b : List ℕ) → bits_of (a ++ b) ≡ bits_of a ++ bits_of b
bits_of-append a b = flat_map-append (bits 8) a b

cut : (k : ℕ) (octets : List ℕ) → bits_of octets ≡ bits_of (take k octets) ++ bits_of (drop k octets)
cut k octets = ap bits_of (sym (take-append-drop k octets)) ∙ bits_of-append (take k octets) (drop k octets)

pub bits_of-take : (k : ℕ) (octets : List ℕ) → k ≤ length octets
    → take (8 * k) (bits_of octets) ≡ bits_of (take k octets)
bits_of-take k octets h =
    let len : length (bits_of (take k octets)) ≡ 8 * k =
    omega (arith, length-bits_of (take k octets), length-take k octets) in
    rw (cut k octets) (take_at (bits_of (take k octets)) (bits_of (drop k octets)) (8 * k) len)

pub bits_of-drop : (k : ℕ) (octets : List ℕ) → k ≤ length octets
    → drop (8 * k) (bits_of octets) ≡ bits_of (drop k octets)
bits_of-drop k octets h =
    let len : length (bits_of (take k octets)) ≡ 8 * k =
    omega (arith, length-bits_of (take k octets), length-take k octets) in
    rw (cut k octets) (drop_at (bits_of (take k octets)) (bits_of (drop k octets)) (8 * k) len)

-- n bits from a place, through the octets that hold them: f of them, from octet i on
pub number-within : (octets : List ℕ) (at n i f : ℕ) → 8 * i ≤ at → at + n ≤ 8 * (i + f) → i + f ≤ length octets
    → number (take n (drop at (bits_of octets)))
    ≡ number (bits_of (take f (drop i octets))) / 2 ^ (8 * (i + f) - (at + n)) % 2 ^ n
number-within octets at n i f low high within =
    let B = bits_of octets in
    let D = bits_of (drop i octets) in
    let W = bits_of (take f (drop i octets)) in
    let r : ℕ = at - 8 * i in
    let k : ℕ = 8 * (i + f) - (at + n) in
    let len-d : f ≤ length (drop i octets) = omega (arith, length-drop i octets) in
    let len-w : length W ≡ 8 * f =
    omega (arith, length-bits_of (take f (drop i octets)), length-take f (drop i octets)) in
    let at-is : 8 * i + r ≡ at = omega arith in
    let step1 : drop at B ≡ drop r D = ap (λ (m : ℕ). drop m B) (sym at-is) ∙ sym (drop-drop r (8 * i) B)
    ∙ ap (drop r) (bits_of-drop i octets (omega arith)) in
    let room : r + (n + k) ≡ 8 * f = omega arith in
    let in-w : take (r + (n + k)) D ≡ W = rw room (bits_of-take f (drop i octets) len-d) in
    let step2 : take (n + k) (drop r D) ≡ drop r W = sym (drop-take r (n + k) D) ∙ ap (drop r) in-w in
    let step3 : take n (drop r D) ≡ take n (drop r W) = sym (take-take n (n + k) (drop r D) (omega arith))
    ∙ ap (take n) step2 in
    let len-rest : length (drop r W) ≡ n + k = omega (arith, length-drop r W) in
    let a : number (take n (drop r W)) ≡ number (drop r W) / 2 ^ (length (drop r W) - n) = number-take n (drop r W) in
    let b : number (drop r W) ≡ number W % 2 ^ (length W - r) = number-drop r W in
    let e1 : length (drop r W) - n ≡ k = omega arith in
    let e2 : length W - r ≡ n + k = omega arith in
    let a' : number (take n (drop r W)) ≡ number (drop r W) / 2 ^ k = rw e1 at a in
    let b' : number (drop r W) ≡ number W % 2 ^ (n + k) = rw e2 at b in
    rw (step1, step3, a', b') (field_of (number W) n k)

-- one octet more
pub number-octet : (octets : List ℕ) (o : ℕ) → o < 256
    → number (bits_of (octets ++ o ∷ [])) ≡ 256 * number (bits_of octets) + o
unfolding bits
number-octet octets o h =
    let e = number-append (bits_of octets) (bits 8 o) in
    let v : number (bits 8 o) ≡ o % 2 ^ 8 = number-bits 8 o in
    ap number (bits_of-append octets (o ∷ [])) ∙ (e ∙ omega (arith, v))

-- the step of a loop over octets
pub next_octet : (octets : List ℕ) (i : ℕ) → i < length octets → get_or octets i 0 < 256
    → number (bits_of (take (i + 1) octets)) ≡ 256 * number (bits_of (take i octets)) + get_or octets i 0
next_octet octets i h small = ap (λ (os : List ℕ). number (bits_of os)) (take_more octets i 0 h)
    ∙ number-octet (take i octets) (get_or octets i 0) small

pub few_octets_fit : (octets : List ℕ) (i : ℕ) → i ≤ 4 → number (bits_of (take i octets)) < 2 ^ 32
few_octets_fit octets i h =
    let lt = number-lt (bits_of (take i octets)) in
    let len : length (bits_of (take i octets)) ≤ 32 =
    omega (arith, length-bits_of (take i octets), length-take i octets) in
    omega (arith, pow_mono len, lt)

-- Bits that are written.

-- what stands above n bits does not matter
pub bits-high : (n x v : ℕ) → bits n (x * 2 ^ n + v) ≡ bits n v
unfolding bits
bits-high zero x v = refl
bits-high (suc n) x v =
    let p : 2 ^ suc n ≡ 2 ^ n * 2 = pow-suc 2 n in
    let e : x * 2 ^ suc n + v ≡ (x * 2) * 2 ^ n + v = rw p (omega arith) in
    let q : ((x * 2) * 2 ^ n + v) / 2 ^ n ≡ x * 2 + v / 2 ^ n = mul-add-div_right (pow_pos n) (x * 2) v in
    let h : (x * 2 + v / 2 ^ n) % 2 ≡ v / 2 ^ n % 2 = omega arith in
    let head : (x * 2 ^ suc n + v) / 2 ^ n % 2 ≡ v / 2 ^ n % 2 = rw (e, q) h in
    let tail : bits n (x * 2 ^ suc n + v) ≡ bits n v = rw e (bits-high n (x * 2) v) in
    rw (head, tail) refl

-- the bits of a number and of a number behind it
pub bits-cat : (a b x y : ℕ) → y < 2 ^ b → bits (a + b) (x * 2 ^ b + y) ≡ bits a x ++ bits b y
unfolding bits
bits-cat zero b x y h = let e : 0 + b ≡ b = omega arith in rw e (bits-high b x y)
bits-cat (suc a) b x y h =
    let e : suc a + b ≡ suc (a + b) = omega arith in
    let c : b + a ≡ a + b = omega arith in
    let q : (x * 2 ^ b + y) / 2 ^ b ≡ x = shr_high x b y h in
    let q2 : (x * 2 ^ b + y) / 2 ^ (a + b) ≡ x / 2 ^ a = sym (rw q at (rw c at (shr-shr (x * 2 ^ b + y) b a))) in
    let head : ((x * 2 ^ b + y) / 2 ^ (a + b) % 2) ≡ (x / 2 ^ a % 2) = rw q2 refl in
    rw (e, head, bits-cat a b x y h) refl

-- eight bits are an octet
pub next_out : (out : List ℕ) (c count pending : ℕ) → count ≡ c + 8 → pending < 2 ^ count
    → bits_of (out ++ pending / 2 ^ c ∷ []) ++ bits c (pending % 2 ^ c) ≡ bits_of out ++ bits count pending
unfolding bits
next_out out c count pending e h =
    let q = pending / 2 ^ c in
    let r = pending % 2 ^ c in
    let small : r < 2 ^ c = mod_below pending (2 ^ c) (pow_pos c) in
    let split : q * 2 ^ c + r ≡ pending = shr_split pending c in
    let cat : bits (8 + c) (q * 2 ^ c + r) ≡ bits 8 q ++ bits c r = bits-cat 8 c q r small in
    let size : count ≡ 8 + c = omega arith in
    let whole : bits count pending ≡ bits 8 q ++ bits c r =
    ap (λ (k : ℕ). bits k pending) size ∙ ap (bits (8 + c)) (sym split) ∙ cat in
    ap (λ (w : List Bool). w ++ bits c r) (bits_of-append out (q ∷ []))
    ∙ append_assoc (bits_of out) (bits 8 q) (bits c r) ∙ ap (λ (w : List Bool). bits_of out ++ w) (sym whole)

pub below_split : (c count pending : ℕ) → count ≡ c + 8 → pending < 2 ^ count → pending / 2 ^ c < 256
below_split c count pending e h =
    let size : count ≡ 8 + c = omega arith in
    shr_below pending 8 c (rw size at h)

-- n bits of a number behind pending bits
pub put_is : (count n pending : ℕ) → count < 8 → n ≤ 32 → pending < 2 ^ count
    → pending * 2 ^ n % 2 ^ 64 ≡ pending * 2 ^ n
put_is count n pending few short h = shl_whole pending count n 64 h (omega arith)

pub put_fits : (count n pending value : ℕ) → pending < 2 ^ count → value < 2 ^ n
    → pending * 2 ^ n + value < 2 ^ (count + n)
put_fits count n pending value h small =
    rw (pow-add 2 count n, mul_comm (2 ^ count) (2 ^ n)) (mul-add-lt pending (2 ^ n) value (2 ^ count) h small)

-- Fields.

pub field_read : (n : ℕ) (left rest : List Bool) (v : ℕ) → n ≤ length left → v ≡ number (take n left)
    → rest ≡ drop n left → take_field n left ≡ Some (v, rest)
unfolding take_field
field_read n left rest v h ev er = rw (le-ltb (length left) n h, ev, er) refl

pub field_short : (n : ℕ) (left : List Bool) → length left < n → take_field n left ≡ None
unfolding take_field
field_short n left h = rw (lt-ltb (length left) n h) refl

-- what was written is read again
pub field_again : (n v : ℕ) (rest : List Bool) → v < 2 ^ n → take_field n (bits n v ++ rest) ≡ Some (v, rest)
field_again n v rest h =
    let front : take n (bits n v ++ rest) ≡ bits n v = take_at (bits n v) rest n (length-bits n v) in
    let behind : drop n (bits n v ++ rest) ≡ rest = drop_at (bits n v) rest n (length-bits n v) in
    field_read n (bits n v ++ rest) rest v (omega (arith, length-append (bits n v) rest, length-bits n v))
    (rw (front, number-bits) (sym (mod-eq_of_lt h))) (sym behind)
