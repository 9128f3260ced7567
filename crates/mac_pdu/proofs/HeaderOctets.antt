-- Subheaders and the octets that write them.
use Rattle.std.proofs.Common.{◌≡◌, ℕ, zero, suc, ◌+◌, ◌-◌, ◌*◌, ◌/◌, ◌%◌, ◌<◌, ◌&&◌, Bool, true, false, cond, eqb, List}
use Rattle.std.proofs.Common.{[], ◌∷◌, ◌++◌, length, drop, refl, sym, ap, ◌∙◌, arith, append_assoc, subst, inl, inr}
use Rattle.std.proofs.Common.{Option, None, Some, get_or}
use Rattle.std.proofs.lemmas.Bool.{cases_lt, le-ltb, lt-ltb}
use Rattle.std.proofs.lemmas.List.{length-append, drop_at, get_or-append-add}
use Rattle.mac_pdu.specs.declared.item.Direction.{Direction}
use Rattle.mac_pdu.specs.declared.fault.MacWhy.{MacWhy}
use Rattle.mac_pdu.specs.declared.subheader.Stage.{Stage}
use Rattle.mac_pdu.specs.declared.subheader.Subheader.{Subheader}
use Rattle.mac_pdu.specs.Grammar.{bit, IsLength}
use Rattle.mac_pdu.specs.Subheaders.{subheader_at, with_length, short, is_sdu, kind_of, fault_of, after}
use Rattle.mac_pdu.specs.Refusals.{subheaders, first_fault, or_fault, header_size}
use Rattle.mac_pdu.proofs.Walk.{heads_next, heads_end}

-- F and L are there exactly for an SDU that another subheader follows
abbrev pub IsTail : Bool → Option ℕ → List ℕ → Type 0
IsTail true (Some n) octets = IsLength n octets
IsTail false None octets = octets ≡ []
IsTail _ _ octets = ⊥

-- the octets of a subheader
pub record IsSubheader (direction : Direction) (s : Subheader) (octets : List ℕ) : Type 0 where
  pub free : ℕ
  pub tail : List ℕ
  pub two_bits : free < 4
  pub five_bits : s.lcid < 32
  pub kind_is : s.kind ≡ kind_of direction s.lcid
  pub spelled : octets ≡ (64 * free + 32 * bit s.more + s.lcid) ∷ tail
  pub tail_is : IsTail (is_sdu s.kind && s.more) s.length tail
  pub size_is : s.size ≡ length octets

-- the octets of subheaders: each but the last says that another follows
abbrev pub AreSubheaders : Direction → List Subheader → List ℕ → Type 0
AreSubheaders direction [] octets = ⊥
AreSubheaders direction (s ∷ []) octets = IsSubheader direction s octets × (s.more ≡ false)
AreSubheaders direction (s ∷ t ∷ ss) octets = (front : List ℕ) × (rest : List ℕ) × (octets ≡ front ++ rest)
    × IsSubheader direction s front × (s.more ≡ true) × AreSubheaders direction (t ∷ ss) rest

bit_is : (b : Bool) → eqb (bit b) 1 ≡ b
bit_is true = refl
bit_is false = refl

bit_lt : (b : Bool) → bit b < 2
bit_lt true = omega arith
bit_lt false = omega arith

first_octet : (r lcid : ℕ) (b : Bool) → r < 4 → lcid < 32 → ((64 * r + 32 * bit b + lcid) % 32 ≡ lcid)
    × ((64 * r + 32 * bit b + lcid) / 32 % 2 ≡ bit b)
first_octet r lcid b hr hl = let h = bit_lt b in (omega arith, omega arith)

-- either form of a length is read
length_read : (s : Subheader) (n : ℕ) (tail rest : List ℕ) → IsLength n tail
    → with_length s (tail ++ rest) ≡ Some (record s { length = Some n; size = 1 + length tail })
length_read s n tail [] (inl h) = rw (h.1, lt-ltb n 128 h.0) refl
length_read s n tail (l ∷ rest) (inl h) = rw (h.1, lt-ltb n 128 h.0) refl
length_read s n tail rest (inr h) =
    let e : (128 + n / 256 - 128) * 256 + n % 256 ≡ n = omega arith in
    rw (h.1, le-ltb (128 + n / 256) 128 (omega arith), e) refl

tail_read : (s : Subheader) (sdu more : Bool) (len : Option ℕ) (tail rest : List ℕ) → IsTail (sdu && more) len tail
    → cond sdu (cond more (with_length s (tail ++ rest)) (Some (record s { length = None; size = 1 })))
    (Some (record s { length = None; size = 1 })) ≡ Some (record s { length = len; size = 1 + length tail })
tail_read s true true (Some n) tail rest h = length_read s n tail rest h
tail_read s true true None tail rest h = absurd h
tail_read s true false (Some n) tail rest h = absurd h
tail_read s true false None tail rest h = rw h refl
tail_read s false more (Some n) tail rest h = absurd h
tail_read s false more None tail rest h = rw h refl

pub subheader_read : (d : Direction) (s : Subheader) (octets rest : List ℕ) → IsSubheader d s octets
    → subheader_at d (octets ++ rest) ≡ Some s
unfolding subheader_at
subheader_read d s octets rest h =
    let o = first_octet h.free s.lcid s.more h.two_bits h.five_bits in
    let one : Subheader = record { lcid = s.lcid; kind = s.kind; more = s.more; length = None; size = 1 } in
    let size : 1 + length h.tail ≡ s.size = omega (arith, ap length h.spelled, h.size_is) in
    rw (h.spelled, o.0, o.1, bit_is s.more, ← h.kind_is)
    (tail_read one (is_sdu s.kind) s.more s.length h.tail rest h.tail_is ∙ rw size refl)

pub header_read : (d : Direction) (ss : List Subheader) (header rest : List ℕ) → AreSubheaders d ss header
    → (subheaders d 0 (header ++ rest) ≡ ss) × (header_size ss ≡ length header)
header_read d [] header rest h = absurd h
header_read d (s ∷ []) header rest h =
    (heads_next d (header ++ rest) s (subheader_read d s header rest h.0) ∙ rw h.1 refl, omega (arith, h.0.size_is))
header_read d (s ∷ t ∷ ss) header rest h =
    let front = h.0 in
    let others = h.1 in
    let whole : header ++ rest ≡ front ++ (others ++ rest) = rw h.2 (append_assoc front others rest) in
    let behind : drop s.size (front ++ (others ++ rest)) ≡ others ++ rest =
    drop_at front (others ++ rest) s.size (sym h.3.size_is) in
    let r = header_read d (t ∷ ss) others rest h.5 in (
      ap (subheaders d 0) whole
          ∙ heads_next d (front ++ (others ++ rest)) s (subheader_read d s front (others ++ rest) h.3)
          ∙ rw (h.4, behind, r.0) refl,
      omega (arith, h.3.size_is, r.1, ap length h.2, length-append front others),
    )

-- Subheaders that are read, and the octets that they have.

abbrev pub AreOctets : List ℕ → Type 0
AreOctets octets = (i : ℕ) → get_or octets i 0 < 256

pub Octets-rest : (front rest : List ℕ) → AreOctets (front ++ rest) → AreOctets rest
Octets-rest front rest h i = rw get_or-append-add at (h (length front + i))

bit_back : (n : ℕ) → n < 2 → bit (eqb n 1) ≡ n
bit_back zero h = refl
bit_back (suc zero) h = refl
bit_back (suc (suc n)) h = absurd (omega arith)

octet_is : (o : ℕ) → o ≡ 64 * (o / 64) + 32 * bit (eqb (o / 32 % 2) 1) + o % 32
octet_is o = rw (bit_back (o / 32 % 2) (omega arith)) (omega arith)

-- the octets at the front that were read
Written : Direction → Subheader → List ℕ → Type 0
Written d s octets = (front : List ℕ) × (rest : List ℕ) × (octets ≡ front ++ rest) × IsSubheader d s front

pub some_same : {A : Type 0} (x y : A) → Some x ≡ Some y → x ≡ y
some_same x y e = cc

written_short : (d : Direction) (o : ℕ) (os : List ℕ) → o < 256
    → (is_sdu (kind_of d (o % 32)) && eqb (o / 32 % 2) 1) ≡ false → Written d (short d o) (o ∷ os)
unfolding Written
written_short d o os h e = (
  o ∷ [],
  os,
  refl,
  record {
    free = o / 64;
    tail = [];
    two_bits = omega arith;
    five_bits = omega arith;
    kind_is = refl;
    spelled = ap (λ (x : ℕ). x ∷ []) (octet_is o);
    tail_is = let t : IsTail false None [] = refl in subst (λ (b : Bool). IsTail b None []) (sym e) t;
    size_is = refl;
  },
)

written_long : (d : Direction) (o n : ℕ) (tail rest : List ℕ) → o < 256 → is_sdu (kind_of d (o % 32)) ≡ true
    → eqb (o / 32 % 2) 1 ≡ true → IsLength n tail
    → Written d (record (short d o) { length = Some n; size = 1 + length tail }) (o ∷ (tail ++ rest))
unfolding Written
written_long d o n tail rest h e f l = (
  o ∷ tail,
  rest,
  refl,
  record {
    free = o / 64;
    tail = tail;
    two_bits = omega arith;
    five_bits = omega arith;
    kind_is = refl;
    spelled = ap (λ (x : ℕ). x ∷ tail) (octet_is o);
    tail_is = rw (e, f) l;
    size_is = omega arith;
  },
)

long_at : (d : Direction) (o : ℕ) (os : List ℕ) (s : Subheader) → AreOctets (o ∷ os)
    → is_sdu (kind_of d (o % 32)) ≡ true → eqb (o / 32 % 2) 1 ≡ true
    → with_length (short d o) os ≡ Some s → Written d s (o ∷ os)
long_at d o [] s h e f w = absurd cc
long_at d o (n ∷ []) s h e f w = elim (cases_lt n 128) [
  | inl lt ↦ subst (λ (x : Subheader). Written d x (o ∷ n ∷ [])) (some_same _ _ (rw (lt-ltb n 128 lt) at w))
      (written_long d o n (n ∷ []) [] (h 0) e f (inl (lt, refl)))
  | inr le ↦ let bad = rw (le-ltb n 128 le) at w in absurd cc
]
long_at d o (n ∷ l ∷ os) s h e f w = elim (cases_lt n 128) [
  | inl lt ↦ subst (λ (x : Subheader). Written d x (o ∷ n ∷ l ∷ os)) (some_same _ _ (rw (lt-ltb n 128 lt) at w))
      (written_long d o n (n ∷ []) (l ∷ os) (h 0) e f (inl (lt, refl)))
  | inr le ↦
      let m : ℕ = (n - 128) * 256 + l in
      let n-fits : n < 256 = h 1 in
      let l-fits : l < 256 = h 2 in
      let a : n ≡ 128 + m / 256 = omega arith in
      let b : l ≡ m % 256 = omega arith in
      let long : IsLength m (n ∷ l ∷ []) = inr (omega arith, rw (← a, ← b) refl) in
      subst (λ (x : Subheader). Written d x (o ∷ n ∷ l ∷ os)) (some_same _ _ (rw (le-ltb n 128 le) at w))
      (written_long d o m (n ∷ l ∷ []) os (h 0) e f long)
]

written_at : (d : Direction) (octets : List ℕ) (s : Subheader) → AreOctets octets → subheader_at d octets ≡ Some s
    → Written d s octets
unfolding subheader_at
written_at d [] s h e = absurd cc
written_at d (o ∷ os) s h e = go (is_sdu (kind_of d (o % 32))) (eqb (o / 32 % 2) 1) refl refl e
  where
    go : (a b : Bool) → is_sdu (kind_of d (o % 32)) ≡ a → eqb (o / 32 % 2) 1 ≡ b
        → cond a (cond b (with_length (short d o) os) (Some (short d o))) (Some (short d o)) ≡ Some s
        → Written d s (o ∷ os)
    go true true ea eb w = long_at d o os s h ea eb w
    go true false ea eb w =
        subst (λ (x : Subheader). Written d x (o ∷ os)) (some_same _ _ w)
        (written_short d o os (h 0) (rw (ea, eb) refl))
    go false b ea eb w =
        subst (λ (x : Subheader). Written d x (o ∷ os)) (some_same _ _ w) (written_short d o os (h 0) (rw ea refl))

pub later_fault : (st : Stage) (at total : ℕ) (s : Subheader) (ss : List Subheader)
    → first_fault st at total (s ∷ ss) ≡ None → s.more ≡ true
    → first_fault (after st s.kind) (at + s.size) total ss ≡ None
unfolding first_fault
later_fault st at total s ss e more = go (fault_of st s.kind true) (rw more at e)
  where
    go : (w : Option MacWhy) → or_fault w at (first_fault (after st s.kind) (at + s.size) total ss) ≡ None
        → first_fault (after st s.kind) (at + s.size) total ss ≡ None
    go None e = e
    go (Some w) e = absurd cc

no_heads : (st : Stage) (at total : ℕ) → first_fault st at total [] ≡ None → ⊥
unfolding first_fault
no_heads st at total e = cc

unfoldable pub Split : Direction → List Subheader → List ℕ → Type 0
Split d ss octets = (header : List ℕ) × (body : List ℕ) × (octets ≡ header ++ body) × AreSubheaders d ss header

-- one subheader more, where the others are in the grammar
unfoldable pub Later : Direction → Stage → ℕ → ℕ → List Subheader → Type 0
Later d st at total ss = (octets : List ℕ) → AreOctets octets → subheaders d 0 octets ≡ ss
    → first_fault st at total ss ≡ None → Split d ss octets

ends : (d : Direction) (st : Stage) (at total : ℕ) (s : Subheader) (ss : List Subheader)
    → Later d (after st s.kind) (at + s.size) total ss → first_fault st at total (s ∷ ss) ≡ None
    → (front rest : List ℕ) → IsSubheader d s front → AreOctets rest → (b : Bool) → s.more ≡ b
    → cond b (subheaders d 0 rest) [] ≡ ss → Split d (s ∷ ss) (front ++ rest)
unfolding Split Later
ends d st at total s [] later f front rest w fits false more l = (front, rest, refl, (w, more))
ends d st at total s (t ∷ ss) later f front rest w fits false more l = absurd cc
ends d st at total s [] later f front rest w fits true more l =
    absurd (no_heads (after st s.kind) (at + s.size) total (later_fault st at total s [] f more))
ends d st at total s (t ∷ ss) later f front rest w fits true more l =
    let r = later rest fits l (later_fault st at total s (t ∷ ss) f more) in (
      front ++ r.0,
      r.1,
      ap (λ (x : List ℕ). front ++ x) r.2 ∙ sym (append_assoc front r.0 r.1),
      (front, r.0, refl, w, more, r.3),
    )

one_split : (d : Direction) (st : Stage) (at total : ℕ) (s : Subheader) (ss : List Subheader)
    → Later d (after st s.kind) (at + s.size) total ss → first_fault st at total (s ∷ ss) ≡ None
    → (octets : List ℕ) → AreOctets octets → subheaders d 0 octets ≡ s ∷ ss → (r : Option Subheader)
    → subheader_at d octets ≡ r → Split d (s ∷ ss) octets
unfolding Written
one_split d st at total s ss later f octets h e None g = let bad : [] ≡ s ∷ ss = sym (heads_end d octets g) ∙ e in
    absurd cc
one_split d st at total s ss later f octets h e (Some x) g =
    let n : x ∷ cond x.more (subheaders d 0 (drop x.size octets)) [] ≡ s ∷ ss = sym (heads_next d octets x g) ∙ e in
    let same : x ≡ s = cc in
    let tail : cond x.more (subheaders d 0 (drop x.size octets)) [] ≡ ss = cc in
    let g' : subheader_at d octets ≡ Some s = g ∙ ap (λ (y : Subheader). Some y) same in
    let tail' : cond s.more (subheaders d 0 (drop s.size octets)) [] ≡ ss =
    subst (λ (y : Subheader). cond y.more (subheaders d 0 (drop y.size octets)) [] ≡ ss) same tail in
    let w = written_at d octets s h g' in
    let behind : drop s.size octets ≡ w.1 =
    subst (λ (o : List ℕ). drop s.size o ≡ w.1) (sym w.2) (drop_at w.0 w.1 s.size (sym w.3.size_is)) in
    let rest-fits : AreOctets w.1 = Octets-rest w.0 w.1 (subst AreOctets w.2 h) in
    subst (λ (o : List ℕ). Split d (s ∷ ss) o) (sym w.2)
    (ends d st at total s ss later f w.0 w.1 w.3 rest-fits s.more refl
    (subst (λ (o : List ℕ). cond s.more (subheaders d 0 o) [] ≡ ss) behind tail'))

pub header_written : (d : Direction) (st : Stage) (at total : ℕ) (ss : List Subheader) → Later d st at total ss
unfolding Later
header_written d st at total [] octets h e f = absurd (no_heads st at total f)
header_written d st at total (s ∷ ss) octets h e f =
    one_split d st at total s ss (header_written d (after st s.kind) (at + s.size) total ss) f octets h e
    (subheader_at d octets) refl
