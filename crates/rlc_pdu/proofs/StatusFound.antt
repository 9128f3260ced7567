-- What is read of a STATUS PDU is in the grammar.
use Rattle.std.proofs.Common.{◌≡◌, ℕ, zero, suc, ◌+◌, ◌-◌, ◌*◌, ◌/◌, ◌%◌, ◌<◌, ◌≤◌, ◌^◌, Bool, true, false, cond, List}
use Rattle.std.proofs.Common.{[], ◌∷◌, ◌++◌, length, take, drop, Option, Some, None, Result, Ok, refl, sym, ap, subst}
use Rattle.std.proofs.Common.{◌∙◌, arith, eqb, ltb, append_assoc}
use Rattle.std.specs.Prelude.{IfSome, All}
use Rattle.std.proofs.lemmas.Bool.{ltb-false}
use Rattle.std.proofs.lemmas.List.{length-append, length-take, take-append-drop}
use Rattle.std.proofs.lemmas.List.Elements.{All-nil, All-cons}
use Rattle.std.proofs.lemmas.Nat.{shr_high}
use Rattle.l2_bits.specs.Bits.{bits, bits_of, number, digit, take_field}
use Rattle.l2_bits.proofs.BitFields.{length-bits_of, number-lt, bits-high, number-append}
use Rattle.rlc_pdu.specs.declared.fault.RlcRefusal.{RlcRefusal}
use Rattle.rlc_pdu.specs.declared.fault.RlcWhy.TheVariants.{Trailing}
use Rattle.rlc_pdu.specs.declared.pdu.Part.{Part}
use Rattle.rlc_pdu.specs.declared.pdu.Nack.{Nack}
use Rattle.rlc_pdu.specs.Pdus.{StatusPdu, IsNack, IsPart, IsWide}
use Rattle.rlc_pdu.specs.Status.{has_more, has_part, part_bits, nack_bits, nacks_bits, status_bits, IsStatusPdu}
use Rattle.rlc_pdu.specs.Status.{nack_size, status_size}
use Rattle.rlc_pdu.specs.Entries.{◌>>=◌, part_at, nack_at, Entries, with_nack, then_entries, entries, ack_at, with_ack}
use Rattle.rlc_pdu.specs.Entries.{entries_behind, listed, is_backwards, backwards_from}
use Rattle.rlc_pdu.specs.Refusals.{first_of, backwards_refused}
use Rattle.rlc_pdu.specs.Reading.{unless, listed_at}
use Rattle.rlc_pdu.proofs.EntrySteps.{some_is, bind_some, nack_behind, after_first}
use Rattle.rlc_pdu.proofs.Amds.{digit_bit, digit_test, digit_of}
use Rattle.rlc_pdu.proofs.Statuses.{length_status, nibble}

bits_number : (xs : List Bool) → bits (length xs) (number xs) ≡ xs
unfolding bits
bits_number [] = refl
bits_number (x ∷ xs) =
    let n = length xs in
    let z : 0 + digit x ≡ digit x = omega arith in
    let e : number (x ∷ xs) ≡ digit x * 2 ^ n + number xs =
    number-append (x ∷ []) xs ∙ ap (λ (d : ℕ). d * 2 ^ n + number xs) z in
    let q : (digit x * 2 ^ n + number xs) / 2 ^ n ≡ digit x = shr_high (digit x) n (number xs) (number-lt xs) in
    let d : digit x % 2 ≡ digit x = omega (arith, digit_bit x) in
    let tail : bits n (digit x * 2 ^ n + number xs) ≡ xs = bits-high n (digit x) (number xs) ∙ bits_number xs in
    rw (e, q, d, digit_test x, tail) refl

record IsField (n : ℕ) (xs : List Bool) (v : ℕ) (rest : List Bool) : Type 0 where
  spelled : xs ≡ bits n v ++ rest
  fits : v < 2 ^ n

field_back : (n : ℕ) (xs : List Bool) (x : ℕ × List Bool) → take_field n xs ≡ Some x → IsField n xs x.0 x.1
unfolding take_field
field_back n xs x e = go (ltb (length xs) n) refl e
  where
    go : (b : Bool) → ltb (length xs) n ≡ b → cond b None (Some (number (take n xs), drop n xs)) ≡ Some x
        → IsField n xs x.0 x.1
    go true eb r = absurd cc
    go false eb r =
        let le : n ≤ length xs = ltb-false (length xs) n eb in
        let len : length (take n xs) ≡ n = omega (arith, length-take n xs, le) in
        let whole : bits n (number (take n xs)) ≡ take n xs =
        ap (λ (m : ℕ). bits m (number (take n xs))) (sym len) ∙ bits_number (take n xs) in
        let small : number (take n xs) < 2 ^ n =
        subst (λ (m : ℕ). number (take n xs) < 2 ^ m) len (number-lt (take n xs)) in
        let split : xs ≡ bits n (number (take n xs)) ++ drop n xs =
        sym (ap (λ (ys : List Bool). ys ++ drop n xs) whole ∙ take-append-drop n xs) in
        subst (λ (p : ℕ × List Bool). IsField n xs p.0 p.1) (some_is _ x r) (record { spelled = split; fits = small })

record IsPartRead (has : Bool) (xs : List Bool) (p : Option Part) (rest : List Bool) : Type 0 where
  spelled : xs ≡ part_bits p ++ rest
  has_is : has_part p ≡ digit has
  fits : IfSome p (λ q. (q.start < 2 ^ 15) × (q.end < 2 ^ 15))

part_back : (has : Bool) (xs : List Bool) (x : Option Part × List Bool) → part_at has xs ≡ Some x
    → IsPartRead has xs x.0 x.1
unfolding part_at
part_back false xs x e =
    subst (λ (p : Option Part × List Bool). IsPartRead false xs p.0 p.1) (some_is _ x e)
    (record { spelled = refl; has_is = refl; fits = tt })
part_back true xs x e =
    let a =
    bind_some (take_field 15 xs)
    (λ start. take_field 15 start.1 >>= λ end. Some (Some (record { start = start.0; end = end.0 }), end.1)) x e
    in
    let b = bind_some (take_field 15 a.0.1) (λ end. Some (Some (record { start = a.0.0; end = end.0 }), end.1)) x a.2 in
    let fa = field_back 15 xs a.0 a.1 in
    let fb = field_back 15 a.0.1 b.0 b.1 in
    let whole : xs ≡ (bits 15 a.0.0 ++ bits 15 b.0.0) ++ b.0.1 =
    fa.spelled ∙ ap (λ (ys : List Bool). bits 15 a.0.0 ++ ys) fb.spelled
    ∙ sym (append_assoc (bits 15 a.0.0) (bits 15 b.0.0) b.0.1) in
    subst (λ (p : Option Part × List Bool). IsPartRead true xs p.0 p.1) (some_is _ x b.2)
    (record { spelled = whole; has_is = refl; fits = (fa.fits, fb.fits) })

record IsNackRead (xs : List Bool) (n : Nack) (more : Bool) (rest : List Bool) : Type 0 where
  spelled : xs ≡ nack_bits n more ++ rest
  wide : IsWide n

nack_back : (xs : List Bool) (x : (Nack × Bool) × List Bool) → nack_at xs ≡ Some x → IsNackRead xs x.0.0 x.0.1 x.1
unfolding nack_at
nack_back xs x e =
    let a =
    bind_some (take_field 10 xs)
    (λ sn. take_field 1 sn.1 >>= λ more. take_field 1 more.1 >>= λ has. part_at (eqb has.0 1) has.1 >>= λ part.
    Some ((record { sn = sn.0; part = part.0 }, eqb more.0 1), part.1)) x e in
    let b =
    bind_some (take_field 1 a.0.1)
    (λ more. take_field 1 more.1 >>= λ has. part_at (eqb has.0 1) has.1 >>= λ part. Some
    ((record { sn = a.0.0; part = part.0 }, eqb more.0 1), part.1)) x a.2 in
    let c =
    bind_some (take_field 1 b.0.1)
    (λ has. part_at (eqb has.0 1) has.1 >>= λ part. Some (
      (record { sn = a.0.0; part = part.0 }, eqb b.0.0 1),
      part.1,
    )) x b.2 in
    let d =
    bind_some (part_at (eqb c.0.0 1) c.0.1)
    (λ part. Some ((record { sn = a.0.0; part = part.0 }, eqb b.0.0 1), part.1)) x c.2 in
    let fa = field_back 10 xs a.0 a.1 in
    let fb = field_back 1 a.0.1 b.0 b.1 in
    let fc = field_back 1 b.0.1 c.0 c.1 in
    let fd = part_back (eqb c.0.0 1) c.0.1 d.0 d.1 in
    let m : digit (eqb b.0.0 1) ≡ b.0.0 = digit_of b.0.0 fb.fits in
    let h : has_part d.0.0 ≡ c.0.0 = fd.has_is ∙ digit_of c.0.0 fc.fits in
    let whole : xs ≡ bits 10 a.0.0 ++ (bits 1 b.0.0 ++ (bits 1 c.0.0 ++ (part_bits d.0.0 ++ d.0.1))) =
    fa.spelled ∙ ap (λ (ys : List Bool). bits 10 a.0.0 ++ ys)
    (fb.spelled ∙ ap (λ (ys : List Bool). bits 1 b.0.0 ++ ys)
    (fc.spelled ∙ ap (λ (ys : List Bool). bits 1 c.0.0 ++ ys) fd.spelled)) in
    let regrouped : (bits 10 a.0.0 ++ (bits 1 b.0.0 ++ (bits 1 c.0.0 ++ part_bits d.0.0))) ++ d.0.1
    ≡ bits 10 a.0.0 ++ (bits 1 b.0.0 ++ (bits 1 c.0.0 ++ (part_bits d.0.0 ++ d.0.1))) = simp append_assoc in
    subst (λ (p : (Nack × Bool) × List Bool). IsNackRead xs p.0.0 p.0.1 p.1) (some_is _ x d.2) (record {
      spelled = rw (m, h) (whole ∙ sym regrouped);
      wide = record { number = fa.fits; part = fd.fits };
    })

record AreNacks (more : Bool) (xs : List Bool) (ns : List Nack) (rest : List Bool) : Type 0 where
  spelled : xs ≡ nacks_bits ns ++ rest
  more_is : has_more ns ≡ more
  wide : All IsWide ns

one_more : (bits0 r : List Bool) (n : Nack) (m : Bool) (v : Entries) (x : List Nack × List Bool)
    → IsNackRead bits0 n m r
    → ((y : List Nack × List Bool) → v ≡ Some y → AreNacks m r y.0 y.1) → with_nack n v ≡ Some x
    → AreNacks true bits0 x.0 x.1
one_more bits0 r n m None x one later e = absurd cc
one_more bits0 r n m (Some y) x one later e =
    let l = later y refl in
    let whole : bits0 ≡ (nack_bits n (has_more y.0) ++ nacks_bits y.0) ++ y.1 =
    rw l.more_is (one.spelled ∙ ap (λ (ys : List Bool). nack_bits n m ++ ys) l.spelled
    ∙ sym (append_assoc (nack_bits n m) (nacks_bits y.0) y.1)) in
    subst (λ (p : List Nack × List Bool). AreNacks true bits0 p.0 p.1) (some_is _ x e) (record {
      spelled = whole;
      more_is = refl;
      wide = All-cons IsWide n y.0 one.wide l.wide;
    })

first_found : (b : Bool) (bs : List Bool) (f : Option ((Nack × Bool) × List Bool)) (x : List Nack × List Bool)
    → nack_at (b ∷ bs) ≡ f
    → ((k : ℕ) (m : Bool) (y : List Nack × List Bool) → entries k m bs ≡ Some y → AreNacks m (drop k bs) y.0 y.1)
    → then_entries (length bs) f (λ skip more. entries skip more bs) ≡ Some x → AreNacks true (b ∷ bs) x.0 x.1
first_found b bs None x ef later e = absurd cc
first_found b bs (Some ((n, m), r)) x ef later e =
    let h = nack_behind (b ∷ bs) ((n, m), r) ef in
    let there : drop (length bs - length r) bs ≡ r = after_first b bs r h.0 h.1 in
    one_more (b ∷ bs) r n m (entries (length bs - length r) m bs) x (nack_back (b ∷ bs) ((n, m), r) ef)
    (λ y ey. subst (λ (ys : List Bool). AreNacks m ys y.0 y.1) there (later (length bs - length r) m y ey)) e

nacks_back : (k : ℕ) (more : Bool) (xs : List Bool) (x : List Nack × List Bool) → entries k more xs ≡ Some x
    → AreNacks more (drop k xs) x.0 x.1
unfolding entries
nacks_back k false xs x e =
    subst (λ (p : List Nack × List Bool). AreNacks false (drop k xs) p.0 p.1) (some_is _ x e)
    (record { spelled = refl; more_is = refl; wide = All-nil IsWide })
nacks_back zero true [] x e = absurd cc
nacks_back (suc k) true [] x e = absurd cc
nacks_back (suc k) true (b ∷ bs) x e = nacks_back k true bs x e
nacks_back zero true (b ∷ bs) x e = first_found b bs (nack_at (b ∷ bs)) x refl (λ k m y ey. nacks_back k m bs y ey) e

record IsAck (xs : List Bool) (ack : ℕ) (more : Bool) (rest : List Bool) : Type 0 where
  spelled : xs ≡ bits 10 ack ++ (bits 1 (digit more) ++ rest)
  fits : ack < 2 ^ 10

ack_back : (xs : List Bool) (x : (ℕ × Bool) × List Bool) → ack_at xs ≡ Some x → IsAck xs x.0.0 x.0.1 x.1
unfolding ack_at
ack_back xs x e =
    let a = bind_some (take_field 10 xs) (λ ack. take_field 1 ack.1 >>= λ more. Some ((ack.0, eqb more.0 1), more.1))
    x e in
    let b = bind_some (take_field 1 a.0.1) (λ more. Some ((a.0.0, eqb more.0 1), more.1)) x a.2 in
    let fa = field_back 10 xs a.0 a.1 in
    let fb = field_back 1 a.0.1 b.0 b.1 in
    let m : digit (eqb b.0.0 1) ≡ b.0.0 = digit_of b.0.0 fb.fits in
    subst (λ (p : (ℕ × Bool) × List Bool). IsAck xs p.0.0 p.0.1 p.1) (some_is _ x b.2) (record {
      spelled = rw m (fa.spelled ∙ ap (λ (ys : List Bool). bits 10 a.0.0 ++ ys) fb.spelled);
      fits = fa.fits;
    })

-- what stands behind the first four bits
record IsListed (xs : List Bool) (s : StatusPdu) : Type 0 where
  rest : List Bool
  spelled : xs ≡ bits 10 s.ack ++ (bits 1 (digit (has_more s.nacks)) ++ (nacks_bits s.nacks ++ rest))
  fits : s.ack < 2 ^ 10
  wide : All IsWide s.nacks

with_back : (xs r : List Bool) (ack : ℕ) (m : Bool) (v : Entries) (s : StatusPdu) → IsAck xs ack m r
    → entries 0 m r ≡ v → with_ack ack v ≡ Some s → IsListed xs s
with_back xs r ack m None s a ev e = absurd cc
with_back xs r ack m (Some y) s a ev e =
    let n = nacks_back 0 m r y ev in
    subst (λ (t : StatusPdu). IsListed xs t) (some_is _ s e) (record {
      rest = y.1;
      spelled = rw n.more_is (a.spelled ∙ ap (λ (ys : List Bool). bits 10 ack ++ (bits 1 (digit m) ++ ys)) n.spelled);
      fits = a.fits;
      wide = n.wide;
    })

behind_back : (xs : List Bool) (f : Option ((ℕ × Bool) × List Bool)) (s : StatusPdu) → ack_at xs ≡ f
    → entries_behind f ≡ Some s → IsListed xs s
behind_back xs None s ef e = absurd cc
behind_back xs (Some ((ack, m), r)) s ef e =
    with_back xs r ack m (entries 0 m r) s (ack_back xs ((ack, m), r) ef) refl e

wide_part : (p : Option Part) → IfSome p (λ q. (q.start < 2 ^ 15) × (q.end < 2 ^ 15)) → is_backwards p ≡ false
    → IsPart p
wide_part None w b = tt
wide_part (Some p) w b = (ltb-false p.end p.start b, w.1)

are_nacks : (at : ℕ) (ns : List Nack) → All IsWide ns → backwards_from at ns ≡ None → All IsNack ns
unfolding backwards_from
are_nacks at [] w e = All-nil IsNack
are_nacks at (n ∷ ns) w e =
    go (is_backwards n.part) refl e
    (λ f. are_nacks (at + nack_size n) ns (λ i d within. w (suc i) d (omega (arith, within))) f)
  where
    go : (b : Bool) → is_backwards n.part ≡ b → cond b (Some (at + 12)) (backwards_from (at + nack_size n) ns) ≡ None
        → (backwards_from (at + nack_size n) ns ≡ None → All IsNack ns) → All IsNack (n ∷ ns)
    go true eb f later = absurd cc
    go false eb f later =
        let one : IsWide n = w 0 n (omega arith) in
        All-cons IsNack n ns (record { number = one.number; part = wide_part n.part one.part eb }) (later f)

record IsClean (total : ℕ) (s t : StatusPdu) : Type 0 where
  forwards : backwards_from 15 s.nacks ≡ None
  whole : total ≤ status_size s.nacks
  same : s ≡ t

abbrev good : StatusPdu → Result StatusPdu RlcRefusal
good s = Ok s

good_is : (s t : StatusPdu) → good s ≡ good t → s ≡ t
good_is s t e = cc

clean : (total : ℕ) (s t : StatusPdu) (p : Option ℕ) (b : Bool) → backwards_from 15 s.nacks ≡ p
    → ltb (status_size s.nacks) total ≡ b
    → unless
    (first_of (backwards_refused p) (cond b (Some (record { at = status_size s.nacks; why = Trailing })) None)) s
    ≡ Ok t → IsClean total s t
clean total s t (Some k) b ep eb e = absurd cc
clean total s t None true ep eb e = absurd cc
clean total s t None false ep eb e =
    record { forwards = ep; whole = ltb-false (status_size s.nacks) total eb; same = good_is s t e }

listed_back : (octets : List ℕ) (v : Option StatusPdu) (s : StatusPdu) → listed octets ≡ v
    → listed_at (length octets) v ≡ Ok s
    → IsListed (drop 4 (bits_of octets)) s × IsClean (length octets) s s
listed_back octets None s ev e = absurd cc
listed_back octets (Some t) s ev e =
    let c = clean (length octets) t s (backwards_from 15 t.nacks) (ltb (status_size t.nacks) (length octets)) refl
    refl e in
    let l = behind_back (drop 4 (bits_of octets)) (ack_at (drop 4 (bits_of octets))) t refl ev in
    subst (λ (u : StatusPdu). IsListed (drop 4 (bits_of octets)) u × IsClean (length octets) u u) c.same (
      l,
      record { forwards = c.forwards; whole = c.whole; same = refl },
    )

pub control_found : (a : ℕ) (rest : List ℕ) (s : StatusPdu) → a / 16 ≡ 0
    → listed_at (length (a ∷ rest)) (listed (a ∷ rest)) ≡ Ok s → IsStatusPdu s (a ∷ rest)
control_found a rest s z e =
    let octets = a ∷ rest in
    let both = listed_back octets (listed octets) s refl e in
    let l = both.0 in
    let c = both.1 in
    let front : take 4 (bits_of octets) ≡ bits 4 0 = nibble a rest ∙ ap (bits 4) z in
    let whole : bits_of octets ≡ bits 4 0
    ++ (bits 10 s.ack ++ (bits 1 (digit (has_more s.nacks)) ++ (nacks_bits s.nacks ++ l.rest))) =
    sym (take-append-drop 4 (bits_of octets)) ∙ ap (λ (ys : List Bool). ys ++ drop 4 (bits_of octets)) front
    ∙ ap (λ (ys : List Bool). bits 4 0 ++ ys) l.spelled in
    let regrouped : status_bits s.ack s.nacks ++ l.rest ≡ bits 4 0
    ++ (bits 10 s.ack ++ (bits 1 (digit (has_more s.nacks)) ++ (nacks_bits s.nacks ++ l.rest))) =
    simp append_assoc in
    let spelled : bits_of octets ≡ status_bits s.ack s.nacks ++ l.rest = whole ∙ sym regrouped in
    record {
      free = l.rest;
      few = omega (
        arith,
        ap length spelled,
        length-bits_of octets,
        length-append (status_bits s.ack s.nacks) l.rest,
        length_status s.ack s.nacks,
        c.whole,
      );
      number = l.fits;
      nacks = are_nacks 15 s.nacks l.wide c.forwards;
      spelled = spelled;
    }
