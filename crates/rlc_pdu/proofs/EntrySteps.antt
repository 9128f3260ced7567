-- Going through the entries of a STATUS.
use Rattle.std.proofs.Common.{◌≡◌, ℕ, zero, suc, ◌+◌, ◌-◌, ◌*◌, ◌<◌, ◌≤◌, Bool, true, false, cond, ltb, eqb, List, []}
use Rattle.std.proofs.Common.{◌∷◌, length, drop, take, Option, Some, None, refl, sym, ap, ◌∙◌, arith, subst}
use Rattle.std.proofs.lemmas.Bool.{ltb-false}
use Rattle.std.proofs.lemmas.List.{length-drop, drop-drop}
use Rattle.l2_bits.specs.Bits.{number, take_field, bits_of}
use Rattle.l2_bits.proofs.BitFields.{field_read, field_short, length-bits_of}
use Rattle.std.specs.Prelude.{is_some, IfSome}
use Rattle.rlc_pdu.specs.declared.pdu.Part.{Part}
use Rattle.rlc_pdu.specs.declared.pdu.Nack.{Nack}
use Rattle.rlc_pdu.specs.Status.{nack_size, nacks_size}
use Rattle.rlc_pdu.specs.Entries.{◌>>=◌, part_at, nack_at, Entries, with_nack, entries, is_backwards, backwards_from}
use Rattle.rlc_pdu.specs.Entries.{nacks_in, or_place, gone_through}

-- the rest is what stands behind the first bits
pub record IsBehind (rest bits : List Bool) : Type 0 where
  pub size : ℕ
  pub within : size ≤ length bits
  pub rest_is : rest ≡ drop size bits

Behind-then : (c b a : List Bool) → IsBehind b a → IsBehind c b → IsBehind c a
Behind-then c b a p q = record {
  size = p.size + q.size;
  within = omega (arith, q.within, ap length p.rest_is, length-drop p.size a, p.within);
  rest_is = q.rest_is ∙ ap (drop q.size) p.rest_is ∙ drop-drop q.size p.size a;
}

pub some_is : {A : Type 0} (x y : A) → Some x ≡ Some y → x ≡ y
some_is x y e = cc

pub bind_some : {A B : Type 0} (o : Option A) (f : A → Option B) (y : B) → (o >>= f) ≡ Some y
    → (x : A) × (o ≡ Some x) × (f x ≡ Some y)
bind_some (Some x) f y e = (x, refl, e)
bind_some None f y e = absurd cc

field_behind : (n : ℕ) (bits : List Bool) (x : ℕ × List Bool) → take_field n bits ≡ Some x
    → IsBehind x.1 bits × (length x.1 + n ≡ length bits)
unfolding take_field
field_behind n bits x e = go (ltb (length bits) n) refl e
  where
    go : (b : Bool) → ltb (length bits) n ≡ b → cond b None (Some (number (take n bits), drop n bits)) ≡ Some x
        → IsBehind x.1 bits × (length x.1 + n ≡ length bits)
    go true eb r = absurd cc
    go false eb r =
        let le : n ≤ length bits = ltb-false (length bits) n eb in
        let rest : drop n bits ≡ x.1 = ap (λ (p : ℕ × List Bool). p.1) (some_is _ x r) in
        (record { size = n; within = le; rest_is = sym rest }, omega (arith, ap length rest, length-drop n bits))

part_behind : (has : Bool) (bits : List Bool) (x : Option Part × List Bool) → part_at has bits ≡ Some x
    → IsBehind x.1 bits
unfolding part_at
part_behind false bits x e = record {
  size = 0;
  within = omega arith;
  rest_is = sym (ap (λ (p : Option Part × List Bool). p.1) (some_is _ x e));
}
part_behind true bits x e =
    let a =
    bind_some (take_field 15 bits)
    (λ start. take_field 15 start.1 >>= λ end. Some (Some (record { start = start.0; end = end.0 }), end.1)) x e
    in
    let b = bind_some (take_field 15 a.0.1) (λ end. Some (Some (record { start = a.0.0; end = end.0 }), end.1)) x a.2 in
    let last : b.0.1 ≡ x.1 = ap (λ (p : Option Part × List Bool). p.1) (some_is _ x b.2) in
    subst (λ (r : List Bool). IsBehind r bits) last
    (Behind-then b.0.1 a.0.1 bits (field_behind 15 bits a.0 a.1).0 (field_behind 15 a.0.1 b.0 b.1).0)

pub nack_behind : (bits : List Bool) (x : (Nack × Bool) × List Bool) → nack_at bits ≡ Some x
    → IsBehind x.1 bits × (length x.1 < length bits)
unfolding nack_at
nack_behind bits x e =
    let a =
    bind_some (take_field 10 bits)
    (λ sn. take_field 1 sn.1 >>= λ more. take_field 1 more.1 >>= λ has. part_at (eqb has.0 1) has.1 >>= λ part.
    Some ((record { sn = sn.0; part = part.0 }, eqb more.0 1), part.1)) x e in
    let b =
    bind_some (take_field 1 a.0.1)
    (λ more. take_field 1 more.1 >>= λ has. part_at (eqb has.0 1) has.1 >>= λ part. Some
    ((record { sn = a.0.0; part = part.0 }, eqb more.0 1), part.1)) x a.2 in
    let c =
    bind_some (take_field 1 b.0.1)
    (λ has. part_at (eqb has.0 1) has.1 >>= λ part. Some (
      (record { sn = a.0.0; part = part.0 }, eqb b.0.0 1),
      part.1,
    )) x b.2 in
    let d =
    bind_some (part_at (eqb c.0.0 1) c.0.1)
    (λ part. Some ((record { sn = a.0.0; part = part.0 }, eqb b.0.0 1), part.1)) x c.2 in
    let last : d.0.1 ≡ x.1 = ap (λ (p : (Nack × Bool) × List Bool). p.1) (some_is _ x d.2) in
    let fa = field_behind 10 bits a.0 a.1 in
    let fb = field_behind 1 a.0.1 b.0 b.1 in
    let fc = field_behind 1 b.0.1 c.0 c.1 in
    let fd = part_behind (eqb c.0.0 1) c.0.1 d.0 d.1 in
    let all : IsBehind d.0.1 bits =
    Behind-then d.0.1 c.0.1 bits (Behind-then c.0.1 b.0.1 bits (Behind-then b.0.1 a.0.1 bits fa.0 fb.0) fc.0) fd
    in
    let shorter : length d.0.1 ≤ length c.0.1 = omega (arith, ap length fd.rest_is, length-drop fd.size c.0.1) in
    subst (λ (r : List Bool). IsBehind r bits × (length r < length bits)) last (
      all,
      omega (arith, shorter, fa.1, fb.1, fc.1),
    )

entries_skip : (k : ℕ) (more : Bool) (bits : List Bool) → entries k more bits ≡ entries 0 more (drop k bits)
unfolding entries
entries_skip zero more bits = refl
entries_skip (suc k) false bits = refl
entries_skip (suc k) true [] = refl
entries_skip (suc k) true (b ∷ bs) = entries_skip k true bs

pub after_first : (b : Bool) (bs rest : List Bool) → IsBehind rest (b ∷ bs) → length rest < length (b ∷ bs)
    → drop (length bs - length rest) bs ≡ rest
after_first b bs rest h lt = go h.size h.rest_is h.within
  where
    go : (k : ℕ) → rest ≡ drop k (b ∷ bs) → k ≤ length (b ∷ bs) → drop (length bs - length rest) bs ≡ rest
    go zero e le = absurd (omega (arith, ap length e))
    go (suc k) e le = let n : length bs - length rest ≡ k = omega (arith, ap length e, length-drop k bs) in rw n (sym e)

pub entries_next : (bits rest : List Bool) (one : Nack) (more : Bool) → nack_at bits ≡ Some ((one, more), rest)
    → entries 0 true bits ≡ with_nack one (entries 0 more rest)
unfolding entries
entries_next [] rest one more e = let b = nack_behind [] ((one, more), rest) e in absurd (omega (arith, b.1))
entries_next (b ∷ bs) rest one more e =
    let h = nack_behind (b ∷ bs) ((one, more), rest) e in
    let behind : drop (length bs - length rest) bs ≡ rest = after_first b bs rest h.0 h.1 in
    rw (e, entries_skip (length bs - length rest) more bs, behind) refl

pub shorter : (bits rest : List Bool) (one : Nack) (more : Bool) → nack_at bits ≡ Some ((one, more), rest)
    → length rest < length bits
shorter bits rest one more e = (nack_behind bits ((one, more), rest) e).1

cut_off : (bits : List Bool) → nack_at bits ≡ None → entries 0 true bits ≡ None
unfolding entries
cut_off [] e = refl
cut_off (b ∷ bs) e = rw e refl

-- ---- a reader's step

pub none_left : (bits : List Bool) → nacks_in (entries 0 false bits) ≡ []
unfolding entries
none_left bits = refl

pub none_whole : (bits : List Bool) → nack_at bits ≡ None → nacks_in (entries 0 true bits) ≡ []
none_whole bits e = rw (cut_off bits e) refl

pub record IsNext (one : Nack) (more : Bool) (rest bits : List Bool) : Type 0 where
  pub sound : is_some (entries 0 more rest) ≡ true
  pub found : nacks_in (entries 0 true bits) ≡ one ∷ nacks_in (entries 0 more rest)

next_of : (one : Nack) (more : Bool) (rest bits : List Bool) (v : Entries) → entries 0 more rest ≡ v
    → entries 0 true bits ≡ with_nack one v → is_some (with_nack one v) ≡ true → IsNext one more rest bits
next_of one more rest bits None e f s = absurd cc
next_of one more rest bits (Some x) e f s = record { sound = rw e refl; found = rw (f, e) refl }

pub next_is : (one : Nack) (more : Bool) (rest bits : List Bool) → nack_at bits ≡ Some ((one, more), rest)
    → is_some (entries 0 true bits) ≡ true → IsNext one more rest bits
next_is one more rest bits e s =
    let f = entries_next bits rest one more e in
    next_of one more rest bits (entries 0 more rest) refl f (rw f at s)

-- ---- going through all

or_place_of : (found : Option ℕ) (at : ℕ) (one : Nack) (ns : List Nack)
    → or_place found (backwards_from at (one ∷ ns))
    ≡ or_place (or_place found (cond (is_backwards one.part) (Some (at + 12)) None))
    (backwards_from (at + nack_size one) ns)
unfolding backwards_from
or_place_of (Some k) at one ns = refl
or_place_of None at one ns = go (is_backwards one.part)
  where
    go : (b : Bool) → or_place None (cond b (Some (at + 12)) (backwards_from (at + nack_size one) ns))
        ≡ or_place (or_place None (cond b (Some (at + 12)) None)) (backwards_from (at + nack_size one) ns)
    go true = refl
    go false = refl

pub step_through : (found : Option ℕ) (at : ℕ) (one : Nack) (more : Bool) (rest bits : List Bool)
    → nack_at bits ≡ Some ((one, more), rest)
    → gone_through found at (entries 0 true bits)
    ≡ gone_through (or_place found (cond (is_backwards one.part) (Some (at + 12)) None)) (at + nack_size one)
    (entries 0 more rest)
step_through found at one more rest bits e = rw (entries_next bits rest one more e) (go (entries 0 more rest))
  where
    go : (v : Entries) → gone_through found at (with_nack one v)
        ≡ gone_through (or_place found (cond (is_backwards one.part) (Some (at + 12)) None)) (at + nack_size one) v
    go None = refl
    go (Some x) =
        let size : at + (nack_size one + nacks_size x.0) ≡ at + nack_size one + nacks_size x.0 = omega arith in
        rw (or_place_of found at one x.0, size) refl

pub cut_through : (found : Option ℕ) (at : ℕ) (bits : List Bool) → nack_at bits ≡ None
    → gone_through found at (entries 0 true bits) ≡ None
cut_through found at bits e = rw (cut_off bits e) refl

pub end_through : (found : Option ℕ) (at : ℕ) (bits : List Bool)
    → gone_through found at (entries 0 false bits) ≡ Some (found, at)
unfolding entries backwards_from
end_through None at bits = let e : at + 0 ≡ at = omega arith in rw e refl
end_through (Some k) at bits = let e : at + 0 ≡ at = omega arith in rw e refl

pub place_within : (found : Option ℕ) (b : Bool) (k n : ℕ) → IfSome found (λ z. z ≤ n) → k ≤ n
    → IfSome (or_place found (cond b (Some k) None)) (λ z. z ≤ n)
place_within (Some z) b k n h le = h
place_within None true k n h le = le
place_within None false k n h le = h

-- ---- a field from a place on

pub field_there : (octets : List ℕ) (at n v : ℕ) → at + n ≤ 8 * length octets
    → v ≡ number (take n (drop at (bits_of octets)))
    → Some (v, drop (at + n) (bits_of octets)) ≡ take_field n (drop at (bits_of octets))
field_there octets at n v within e =
    let len : n ≤ length (drop at (bits_of octets)) =
    omega (arith, within, length-drop at (bits_of octets), length-bits_of octets) in
    sym (field_read n (drop at (bits_of octets)) (drop (at + n) (bits_of octets)) v len e
    (sym (drop-drop n at (bits_of octets))))

pub field_cut : (octets : List ℕ) (at n : ℕ) → at ≤ 8 * length octets → 8 * length octets < at + n
    → None ≡ take_field n (drop at (bits_of octets))
field_cut octets at n within short =
    sym
    (field_short n (drop at (bits_of octets))
    (omega (arith, within, short, length-drop at (bits_of octets), length-bits_of octets)))
