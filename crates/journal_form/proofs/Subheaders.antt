-- The subheaders of a block that are canonical are those that are tested so.
use Rattle.std.proofs.Common.{◌≡◌, ℕ, ◌+◌, ◌*◌, ◌/◌, ◌%◌, ◌<◌, ◌⊎◌, true, false, ◌&&◌}
use Rattle.std.proofs.Common.{inl, inr, List, [], ◌∷◌, ◌++◌, length, Option, Some, None, refl, ap, sym, ◌∙◌, arith}
use Rattle.std.proofs.Common.{append_assoc}
use Rattle.std.specs.Prelude.{nat_lt, if◌then◌else◌}
use Rattle.std.proofs.lemmas.Bool.{cases_lt, lt-ltb, le-ltb}
use Rattle.mac_pdu.specs.declared.item.Direction.{Direction}
use Rattle.mac_pdu.specs.Items.{MacItem, front, element, sdu, padding, control_lcid}
use Rattle.mac_pdu.specs.Grammar.{BeginsWith, IsLength, IsInner, IsLast, IsHeader}
use Rattle.mac_pdu.specs.Writing.{headers, inner, lcid_of, length_field}
use Rattle.mac_pdu.proofs.ItemKinds.{lcid_lt}
use Rattle.journal_form.specs.Canonical.{behind_length, behind_inner, behind_subheader, behind_subheaders}

none_behind : (ps : List MacItem) → behind_subheaders ps None ≡ None
none_behind [] = refl
none_behind (p ∷ ps) = none_behind ps

-- what was written, and what is behind it, where something is found behind a subheader
abbrev Found : List ℕ → List ℕ → List ℕ → List ℕ → Type 0
Found octets own rest behind = (octets ≡ own) × (behind ≡ rest)

-- ---- a length

length_found : (n : ℕ) (tail rest behind : List ℕ) → IsLength n tail → behind_length n (tail ++ rest) ≡ Some behind
    → Found tail (length_field n) rest behind
length_found n tail [] behind (inl h) e =
    let f : (if nat_lt n 128 && nat_lt n 128 then Some [] else None) ≡ Some behind = rw h.1 at e in
    let g : Some [] ≡ Some behind = rw (lt-ltb n 128 h.0) at f in
    (rw (lt-ltb n 128 h.0) h.1, cc)
length_found n tail (x ∷ rest) behind (inl h) e =
    let f : (if nat_lt n 128 then (if nat_lt n 128 then Some (x ∷ rest) else None) else Some rest) ≡ Some behind =
    rw h.1 at e in
    let g : Some (x ∷ rest) ≡ Some behind = rw (lt-ltb n 128 h.0) at f in
    (rw (lt-ltb n 128 h.0) h.1, cc)
length_found n tail rest behind (inr h) e =
    let f : (if nat_lt n 128 then (if nat_lt (128 + n / 256) 128 then Some ((n % 256) ∷ rest) else None) else Some rest)
    ≡ Some behind = rw h.1 at e in
    let long : nat_lt (128 + n / 256) 128 ≡ false = le-ltb (128 + n / 256) 128 (omega arith) in
    elim (cases_lt n 128) as (λ w. Found tail (length_field n) rest behind) [
      | inl lt ↦ let g : None ≡ Some behind = rw (lt-ltb n 128 lt, long) at f in absurd cc
      | inr le ↦
          let g : Some rest ≡ Some behind = rw (le-ltb n 128 le) at f in (rw (le-ltb n 128 le) h.1, cc)
    ]

one_octet : (n : ℕ) (rest : List ℕ) → n < 128 → behind_length n (n ∷ rest) ≡ Some rest
one_octet n [] lt = rw (lt-ltb n 128 lt) refl
one_octet n (x ∷ rest) lt = rw (lt-ltb n 128 lt) refl

length_back : (n : ℕ) (rest : List ℕ) → behind_length n (length_field n ++ rest) ≡ Some rest
length_back n rest = elim (cases_lt n 128) as (λ w. behind_length n (length_field n ++ rest) ≡ Some rest) [
  | inl lt ↦
      let is : length_field n ≡ n ∷ [] = rw (lt-ltb n 128 lt) refl in
      ap (λ (x : List ℕ). behind_length n (x ++ rest)) is ∙ one_octet n rest lt
  | inr le ↦
      let is : length_field n ≡ (128 + n / 256) ∷ (n % 256) ∷ [] = rw (le-ltb n 128 le) refl in
      let long : behind_length n ((128 + n / 256) ∷ (n % 256) ∷ rest) ≡ Some rest = rw (le-ltb n 128 le) refl in
      ap (λ (x : List ℕ). behind_length n (x ++ rest)) is ∙ long
]

-- ---- a subheader

last_found : (p : MacItem) (lcid : ℕ) (octets rest behind : List ℕ) → lcid < 32 → BeginsWith false lcid [] octets
    → behind_subheader p (Some (octets ++ rest)) ≡ Some behind → Found octets (lcid ∷ []) rest behind
last_found p lcid octets rest behind low h e =
    let o = 64 * h.free + 32 * 0 + lcid in
    let f : (if nat_lt o 32 then Some rest else if nat_lt o 64 then behind_inner p rest else None) ≡ Some behind =
    rw h.octets_are at e in
    elim (cases_lt o 64) as (λ w. Found octets (lcid ∷ []) rest behind) [
      | inl lt ↦
          let is : o ≡ lcid = omega (arith, lt) in
          let g : Some rest ≡ Some behind = rw (lt-ltb o 32 (omega (arith, is, low))) at f in
          (h.octets_are ∙ ap (λ (x : ℕ). x ∷ []) is, cc)
      | inr le ↦
          let g : None ≡ Some behind = rw (le-ltb o 32 (omega (arith, le)), le-ltb o 64 le) at f in absurd cc
    ]

inner_found : (p : MacItem) (lcid : ℕ) (tail octets rest : List ℕ) (behind : Option (List ℕ)) → lcid < 32
    → BeginsWith true lcid tail octets → behind_subheader p (Some (octets ++ rest)) ≡ behind
    → (behind ≡ None) ⊎ ((octets ≡ (32 + lcid) ∷ tail) × (behind ≡ behind_inner p (tail ++ rest)))
inner_found p lcid tail octets rest behind low h e =
    let o = 64 * h.free + 32 * 1 + lcid in
    let f : (if nat_lt o 32 then Some (tail ++ rest) else if nat_lt o 64 then behind_inner p (tail ++ rest) else None)
    ≡ behind = rw h.octets_are at e in
    let more : nat_lt o 32 ≡ false = le-ltb o 32 (omega arith) in
    elim (cases_lt o 64)
    as (λ w. (behind ≡ None) ⊎ ((octets ≡ (32 + lcid) ∷ tail) × (behind ≡ behind_inner p (tail ++ rest)))) [
      | inl lt ↦
          let is : o ≡ 32 + lcid = omega (arith, lt) in
          inr (h.octets_are ∙ ap (λ (x : ℕ). x ∷ tail) is, sym (rw (more, lt-ltb o 64 lt) at f))
      | inr le ↦ inl (sym (rw (more, le-ltb o 64 le) at f))
    ]

-- the item, its subheader, and what stands behind it
one_found : (d : Direction) (p : MacItem) (octets rest behind : List ℕ) → IsInner d p octets
    → behind_subheader p (Some (octets ++ rest)) ≡ Some behind → Found octets (inner p) rest behind
one_found d front octets rest behind h e = elim (inner_found front 31 [] octets rest (Some behind) (omega arith) h e) [
  | inl none ↦ absurd cc
  | inr is ↦ (is.0, cc)
]
one_found d (element c) octets rest behind h e =
    elim (inner_found (element c) (control_lcid c) [] octets rest (Some behind) (lcid_lt c) h.1 e) [
      | inl none ↦ absurd cc
      | inr is ↦ (is.0, cc)
    ]
one_found d (sdu lcid payload) octets rest behind h e =
    elim (inner_found (sdu lcid payload) lcid h.0 octets rest (Some behind) (omega (arith, h.1)) h.3 e) [
      | inl none ↦ absurd cc
      | inr is ↦
          let l = length_found (length payload) h.0 rest behind h.2 (sym is.1) in
          (is.0 ∙ ap (λ (x : List ℕ). (32 + lcid) ∷ x) l.0, l.1)
    ]
one_found d (padding n) octets rest behind h e = absurd h

end_found : (d : Direction) (p : MacItem) (octets rest behind : List ℕ) → IsLast d p octets
    → behind_subheader p (Some (octets ++ rest)) ≡ Some behind → Found octets (lcid_of p ∷ []) rest behind
end_found d front octets rest behind h e = absurd h
end_found d (element c) octets rest behind h e =
    last_found (element c) (control_lcid c) octets rest behind (lcid_lt c) h.1 e
end_found d (sdu lcid payload) octets rest behind h e =
    last_found (sdu lcid payload) lcid octets rest behind (omega (arith, h.0)) h.1 e
end_found d (padding n) octets rest behind h e = last_found (padding n) 31 octets rest behind (omega arith) h e

-- and back
octet_back : (p : MacItem) (lcid : ℕ) (os : List ℕ) → lcid < 32
    → behind_subheader p (Some ((32 + lcid) ∷ os)) ≡ behind_inner p os
octet_back p lcid os low =
    rw (le-ltb (32 + lcid) 32 (omega arith), lt-ltb (32 + lcid) 64 (omega (arith, low))) refl

one_back : (d : Direction) (p : MacItem) (octets rest : List ℕ) → IsInner d p octets
    → behind_subheader p (Some (inner p ++ rest)) ≡ Some rest
one_back d front octets rest h = refl
one_back d (element c) octets rest h = octet_back (element c) (control_lcid c) rest (lcid_lt c)
one_back d (sdu lcid payload) octets rest h =
    octet_back (sdu lcid payload) lcid (length_field (length payload) ++ rest) (omega (arith, h.1))
    ∙ length_back (length payload) rest
one_back d (padding n) octets rest h = absurd h

end_back : (d : Direction) (p : MacItem) (octets rest : List ℕ) → IsLast d p octets
    → behind_subheader p (Some (lcid_of p ∷ rest)) ≡ Some rest
end_back d front octets rest h = absurd h
end_back d (element c) octets rest h = rw (lt-ltb (control_lcid c) 32 (lcid_lt c)) refl
end_back d (sdu lcid payload) octets rest h = rw (lt-ltb lcid 32 (omega (arith, h.0))) refl
end_back d (padding n) octets rest h = refl

-- ---- all subheaders

more_found : (d : Direction) (p q : MacItem) (ps : List MacItem) (one others rest behind : List ℕ) (r : Option (List ℕ))
    → IsInner d p one → behind_subheader p (Some (one ++ (others ++ rest))) ≡ r
    → behind_subheaders (q ∷ ps) r ≡ Some behind
    → ((behind : List ℕ) → behind_subheaders (q ∷ ps) (Some (others ++ rest)) ≡ Some behind
    → Found others (headers (q ∷ ps)) rest behind)
    → Found (one ++ others) (inner p ++ headers (q ∷ ps)) rest behind
more_found d p q ps one others rest behind None h e f next =
    let g : None ≡ Some behind = sym (none_behind (q ∷ ps)) ∙ f in absurd cc
more_found d p q ps one others rest behind (Some found) h e f next =
    let here = one_found d p one (others ++ rest) found h e in
    let there = next behind (ap (λ (x : List ℕ). behind_subheaders (q ∷ ps) (Some x)) (sym here.1) ∙ f) in
    (rw (here.0, there.0) refl, there.1)

pub subheaders_found : (d : Direction) (ps : List MacItem) (octets rest behind : List ℕ) → IsHeader d ps octets
    → behind_subheaders ps (Some (octets ++ rest)) ≡ Some behind → Found octets (headers ps) rest behind
subheaders_found d [] octets rest behind h e = absurd h
subheaders_found d (p ∷ []) octets rest behind h e = end_found d p octets rest behind h e
subheaders_found d (p ∷ q ∷ ps) octets rest behind h e =
    let one = h.0 in
    let others = h.1 in
    let whole : octets ++ rest ≡ one ++ (others ++ rest) =
    ap (λ (x : List ℕ). x ++ rest) h.2 ∙ append_assoc one others rest in
    let next = behind_subheader p (Some (one ++ (others ++ rest))) in
    let found = more_found d p q ps one others rest behind next h.3 refl
    (ap (λ (x : List ℕ). behind_subheaders (p ∷ q ∷ ps) (Some x)) (sym whole) ∙ e)
    (λ b f. subheaders_found d (q ∷ ps) others rest b h.4 f) in
    (h.2 ∙ found.0, found.1)

pub subheaders_back : (d : Direction) (ps : List MacItem) (octets rest : List ℕ) → IsHeader d ps octets
    → behind_subheaders ps (Some (headers ps ++ rest)) ≡ Some rest
subheaders_back d [] octets rest h = absurd h
subheaders_back d (p ∷ []) octets rest h = end_back d p octets rest h
subheaders_back d (p ∷ q ∷ ps) octets rest h =
    ap (λ (x : List ℕ). behind_subheaders (p ∷ q ∷ ps) (Some x)) (append_assoc (inner p) (headers (q ∷ ps)) rest)
    ∙ ap (behind_subheaders (q ∷ ps)) (one_back d p h.0 (headers (q ∷ ps) ++ rest) h.3)
    ∙ subheaders_back d (q ∷ ps) h.1 rest h.4
