-- The writing of parts, and its length.
use Rattle.std.proofs.Common.{◌≡◌, ℕ, zero, suc, ◌+◌, ◌-◌, ◌/◌, ◌%◌, ◌<◌, ◌≤◌, ◌⊎◌, true, false, cond, ltb, List, []}
use Rattle.std.proofs.Common.{◌∷◌, ◌++◌, length, map, refl, sym, ap, ◌∙◌, arith, append_assoc, inl, inr, All}
use Rattle.std.specs.Prelude.{replicate}
use Rattle.std.specs.List.{flat_map}
use Rattle.std.proofs.lemmas.List.{append-nil, length-append, map-append}
use Rattle.std.proofs.lemmas.List.Concat.{flat_map-cons}
use Rattle.std.proofs.lemmas.Bool.{le-leb, lt-leb}
use Rattle.std.proofs.lemmas.Grind.{flat_map-append}
use Rattle.std.proofs.lemmas.List.Sums.{sum_by-append, sum_by-cons}
use Rattle.std.proofs.lemmas.List.Elements.{All-head, All-tail}
use Rattle.mac_pdu.specs.declared.item.Direction.{Direction}
use Rattle.mac_pdu.specs.declared.item.Direction.TheVariants.{Down, Up}
use Rattle.mac_pdu.specs.declared.item.Bsr.TheVariants as bsr
use Rattle.mac_pdu.specs.declared.item.Control.{Control}
use Rattle.mac_pdu.specs.declared.item.Control.TheVariants as control
use Rattle.mac_pdu.specs.declared.builder.Sdu.{Sdu}
use Rattle.mac_pdu.specs.Items.{MacItem, front, element, sdu, padding, IsControl, control_octets, control_lcid}
use Rattle.mac_pdu.specs.Items.{sdu_item}
use Rattle.mac_pdu.specs.Writing.{padded, saved, IsBuilder, Parts, items_of, inner, payload, headers, writing, lcid_of}
use Rattle.mac_pdu.specs.Writing.{length_field, full_size, control_size}

pub headers_push : (ps : List MacItem) (p : MacItem) → headers (ps ++ p ∷ []) ≡ flat_map inner ps ++ lcid_of p ∷ []
headers_push [] p = refl
headers_push (q ∷ []) p = rw flat_map-cons (sym (append_assoc (inner q) [] (lcid_of p ∷ [])))
headers_push (q ∷ r ∷ ps) p = ap (λ (h : List ℕ). inner q ++ h) (headers_push (r ∷ ps) p)
    ∙ sym (append_assoc (inner q) (flat_map inner (r ∷ ps)) (lcid_of p ∷ []))
    ∙ ap (λ (h : List ℕ). h ++ lcid_of p ∷ []) (sym (flat_map-cons inner q (r ∷ ps)))

-- the subheaders that are written, where the last part is an SDU, or a control element
pub heads_sdu : (out a b : List ℕ) (cs : List Control) (all ss : List Sdu) (s : Sdu) → all ≡ ss ++ s ∷ []
    → a ≡ out ++ flat_map inner (map element cs) → b ≡ a ++ flat_map inner (map sdu_item ss)
    → b ++ s.lcid ∷ [] ≡ out ++ headers (map element cs ++ map sdu_item all)
heads_sdu out a b cs all ss s h ea eb =
    let e : map element cs ++ map sdu_item (ss ++ s ∷ []) ≡ (map element cs ++ map sdu_item ss) ++ sdu_item s ∷ [] =
    simp (map-append, append_assoc) in
    rw (eb, ea, h, e, headers_push, flat_map-append) (simp append_assoc)

pub heads_control : (out a : List ℕ) (all cs : List Control) (c : Control) (ss : List Sdu) (lcid : ℕ)
    → all ≡ cs ++ c ∷ [] → ss ≡ []
    → a ≡ out ++ flat_map inner (map element cs) → lcid ≡ control_lcid c
    → a ++ lcid ∷ [] ≡ out ++ headers (map element all ++ map sdu_item ss)
heads_control out a all cs c ss lcid h none ea el =
    let e : map element (cs ++ c ∷ []) ++ map sdu_item [] ≡ map element cs ++ element c ∷ [] =
    simp (map-append, append-nil) in
    rw (el, ea, h, none, e, headers_push) (simp append_assoc)

-- parts behind subheaders of padding
pub fronted : (n : ℕ) (p : MacItem) (ps : List MacItem)
    → writing (replicate n front ++ p ∷ ps) ≡ replicate n 63 ++ writing (p ∷ ps)
fronted zero p ps = refl
fronted (suc zero) p ps = refl
fronted (suc (suc n)) p ps = ap (λ (h : List ℕ). 63 ∷ h) (fronted (suc n) p ps)

pub spell_fronted : (out a b c : List ℕ) (n : ℕ) (ps : List MacItem) → 0 < length (writing ps)
    → a ≡ out ++ replicate n 63 → b ≡ a ++ headers ps → c ≡ b ++ flat_map payload ps
    → c ≡ out ++ writing (replicate n front ++ ps)
spell_fronted out a b c n [] h ea eb ec = absurd (omega arith)
spell_fronted out a b c n (p ∷ ps) h ea eb ec = rw (fronted n p ps, ec, eb, ea) (simp append_assoc)

-- padding behind parts
pub spell_padded : (out a b c d : List ℕ) (n : ℕ) (ps : List MacItem) → a ≡ out ++ flat_map inner ps
    → b ≡ a ++ 31 ∷ [] → c ≡ b ++ flat_map payload ps → d ≡ c ++ replicate n 0
    → d ≡ out ++ writing (ps ++ padding n ∷ [])
spell_padded out a b c d n ps ea eb ec ed =
    rw (ed, ec, eb, ea, headers_push, flat_map-append, flat_map-cons) (simp (append_assoc, append-nil))

pub inner_some : (p : MacItem) → 0 < length (inner p)
inner_some front = omega arith
inner_some (element c) = omega arith
inner_some (sdu lcid octets) = omega arith
inner_some (padding n) = omega arith

no_spelling : (p q : MacItem) (ps : List MacItem) → length (writing (p ∷ q ∷ ps)) ≡ 0 → ⊥
no_spelling p q ps h =
    let a = length-append (inner p ++ headers (q ∷ ps)) (flat_map payload (p ∷ q ∷ ps)) in
    omega (arith, a, length-append (inner p) (headers (q ∷ ps)), inner_some p)

pub padded_alone : (ps : List MacItem) (size : ℕ) → length (writing ps) ≡ 0 → padded ps size ≡ padding (size - 1) ∷ []
padded_alone [] size h = refl
padded_alone (p ∷ []) size h = absurd (omega arith)
padded_alone (p ∷ q ∷ ps) size h = absurd (no_spelling p q ps h)

pub padded_front : (ps : List MacItem) (size : ℕ) → 0 < length (writing ps) → size - length (writing ps) ≤ 2
    → padded ps size ≡ replicate (size - length (writing ps)) front ++ ps
padded_front [] size h le = absurd (omega arith)
padded_front (p ∷ ps) size h le = rw (le-leb (size - length (writing (p ∷ ps))) 2 le) refl

pub padded_end : (ps : List MacItem) (size : ℕ) → 0 < length (writing ps) → 2 < size - length (writing ps)
    → padded ps size ≡ ps ++ padding (size - 1 - full_size ps) ∷ []
padded_end [] size h lt = absurd (omega arith)
padded_end (p ∷ ps) size h lt = rw (lt-leb (size - length (writing (p ∷ ps))) 2 lt) refl

snoc : {A : Type 0} (xs : List A) → (xs ≡ []) ⊎ ((ys : List A) × (y : A) × (xs ≡ ys ++ y ∷ []))
snoc [] = inl refl
snoc (x ∷ xs) = elim (snoc xs) [
  | inl e ↦ inr ([], x, ap (λ (l : List _). x ∷ l) e)
  | inr e ↦ inr (x ∷ e.0, e.1, ap (λ (l : List _). x ∷ l) e.2)
]

saved_last : (ss : List Sdu) (s : Sdu) → saved (ss ++ s ∷ []) ≡ length (length_field (length s.octets))
saved_last [] s = refl
saved_last (t ∷ []) s = refl
saved_last (t ∷ u ∷ ss) s = saved_last (u ∷ ss) s

pub saved_is : (all ss : List Sdu) (s : Sdu) (n : ℕ) → all ≡ ss ++ s ∷ []
    → n ≡ length (length_field (length s.octets)) → n ≡ saved all
saved_is all ss s n h e = rw (h, saved_last) e

control_fits : (d : Direction) (c : Control) → IsControl d c → length (control_octets c) ≡ control_size c
control_fits Down (control.Contention id) h = h
control_fits Down (control.Advance value) h = refl
control_fits Down control.Drx h = refl
control_fits Down (control.Phr level) h = absurd h
control_fits Down (control.Crnti value) h = absurd h
control_fits Down (control.Report report) h = absurd h
control_fits Up (control.Contention id) h = absurd h
control_fits Up (control.Advance value) h = absurd h
control_fits Up control.Drx h = absurd h
control_fits Up (control.Phr level) h = refl
control_fits Up (control.Crnti value) h = refl
control_fits Up (control.Report (bsr.Truncated group level)) h = refl
control_fits Up (control.Report (bsr.Short group level)) h = refl
control_fits Up (control.Report (bsr.Long levels)) h = refl

-- how many octets parts take where another follows
whole_controls : (d : Direction) (cs : List Control) → All (IsControl d) cs
    → full_size (map element cs) ≡ length (flat_map inner (map element cs)) + length (flat_map payload (map element cs))
whole_controls d [] h = refl
whole_controls d (c ∷ cs) h =
    let one = control_fits d c (All-head (IsControl d) c cs h) in
    let rest = whole_controls d cs (All-tail (IsControl d) c cs h) in
    rw sum_by-cons (simp length-append (omega (arith, one, rest)))

whole_sdus : (ss : List Sdu) → full_size (map sdu_item ss)
    ≡ length (flat_map inner (map sdu_item ss)) + length (flat_map payload (map sdu_item ss))
whole_sdus [] = refl
whole_sdus (s ∷ ss) =
    let rest = whole_sdus ss in
    rw sum_by-cons (simp length-append (omega (arith, rest)))

-- and where none does
spelled : (qs : List MacItem) (p : MacItem)
    → length (writing (qs ++ p ∷ [])) + length (inner p)
    ≡ length (flat_map inner (qs ++ p ∷ [])) + 1 + length (flat_map payload (qs ++ p ∷ []))
spelled qs p =
    rw (
      length-append,
      headers_push,
      length-append,
      flat_map-append inner qs (p ∷ []),
      flat_map-cons inner p [],
      length-append,
      length-append,
    ) (omega arith)

pub whole : (b : Parts) → IsBuilder b → full_size (items_of b)
    ≡ length (flat_map inner (items_of b)) + length (flat_map payload (items_of b))
whole b h =
    rw (sum_by-append, flat_map-append, flat_map-append, length-append, length-append)
    (omega (arith, whole_controls b.direction b.controls h.controls, whole_sdus b.sdus))

-- what parts take where another follows, and where none does
abbrev Sizes : List MacItem → ℕ → Type 0
Sizes ps n = length (writing ps) + n ≡ length (flat_map inner ps) + length (flat_map payload ps)

last_sdu : (cs : List Control) (ss : List Sdu) (s : Sdu)
    → Sizes (map element cs ++ map sdu_item (ss ++ s ∷ [])) (length (length_field (length s.octets)))
last_sdu cs ss s =
    let e : map element cs ++ map sdu_item (ss ++ s ∷ []) ≡ (map element cs ++ map sdu_item ss) ++ sdu_item s ∷ [] =
    simp (map-append, append_assoc) in
    rw e (omega (arith, spelled (map element cs ++ map sdu_item ss) (sdu_item s)))

last_control : (cs : List Control) (c : Control) → Sizes (map element (cs ++ c ∷ []) ++ map sdu_item []) 0
last_control cs c =
    let e : map element (cs ++ c ∷ []) ++ map sdu_item [] ≡ map element cs ++ element c ∷ [] =
    simp (map-append, append-nil) in
    rw e (omega (arith, spelled (map element cs) (element c)))

sizes_sdus : (cs : List Control) (all : List Sdu) → ((ss : List Sdu) × (s : Sdu) × (all ≡ ss ++ s ∷ []))
    → Sizes (map element cs ++ map sdu_item all) (saved all)
sizes_sdus cs all e = rw (e.2, saved_last e.0 e.1) (last_sdu cs e.0 e.1)

sizes_controls : (all : List Control) → (all ≡ []) ⊎ ((cs : List Control) × (c : Control) × (all ≡ cs ++ c ∷ []))
    → Sizes (map element all ++ map sdu_item []) 0
sizes_controls all (inl none) = rw none refl
sizes_controls all (inr e) = rw e.2 (last_control e.0 e.1)

sizes : (cs : List Control) (all : List Sdu) → (all ≡ []) ⊎ ((ss : List Sdu) × (s : Sdu) × (all ≡ ss ++ s ∷ []))
    → Sizes (map element cs ++ map sdu_item all) (saved all)
sizes cs all (inl none) = rw none (sizes_controls cs (snoc cs))
sizes cs all (inr e) = sizes_sdus cs all e

pub size_is : (b : Parts) → IsBuilder b → full_size (items_of b) ≡ length (writing (items_of b)) + saved b.sdus
size_is b h = omega (arith, whole b h, sizes b.controls b.sdus (snoc b.sdus))

length_short : (n : ℕ) → length (length_field n) ≤ 2
length_short n =
    elim (ltb n 128) as (λ b. length (cond b (n ∷ []) ((128 + n / 256) ∷ (n % 256) ∷ [])) ≤ 2)
    [ true ↦ omega arith | false ↦ omega arith ]

pub saved_short : (ss : List Sdu) → saved ss ≤ 2
saved_short [] = omega arith
saved_short (s ∷ []) = length_short (length s.octets)
saved_short (s ∷ t ∷ ss) = saved_short (t ∷ ss)

inner_short : (p : MacItem) → length (inner p) ≤ 3
inner_short front = omega arith
inner_short (element c) = omega arith
inner_short (sdu lcid octets) = omega (arith, length_short (length octets))
inner_short (padding n) = omega arith

grows_first : (p : MacItem) → length (writing (p ∷ [])) ≤ 0 + 3 + length (payload p)
grows_first p = omega (arith, length-append (payload p) [])

grows_more : (qs : List MacItem) (q p : MacItem)
    → length (writing ((qs ++ q ∷ []) ++ p ∷ [])) ≤ length (writing (qs ++ q ∷ [])) + 3 + length (payload p)
grows_more qs q p =
    let before = spelled qs q in
    let after = spelled (qs ++ q ∷ []) p in
    let heads : length (flat_map inner ((qs ++ q ∷ []) ++ p ∷ []))
    ≡ length (flat_map inner (qs ++ q ∷ [])) + length (inner p) =
    rw (flat_map-append inner (qs ++ q ∷ []) (p ∷ []), length-append)
    (ap (λ (h : List ℕ). length (flat_map inner (qs ++ q ∷ [])) + length h) (append-nil (inner p))) in
    let bodies : length (flat_map payload ((qs ++ q ∷ []) ++ p ∷ []))
    ≡ length (flat_map payload (qs ++ q ∷ [])) + length (payload p) =
    rw (flat_map-append payload (qs ++ q ∷ []) (p ∷ []), length-append)
    (ap (λ (h : List ℕ). length (flat_map payload (qs ++ q ∷ [])) + length h) (append-nil (payload p))) in
    omega (arith, before, after, heads, bodies, inner_short q)

-- what an item more needs
pub grows : (ps : List MacItem) (p : MacItem)
    → length (writing (ps ++ p ∷ [])) ≤ length (writing ps) + 3 + length (payload p)
grows ps p = elim (snoc ps) [
  | inl none ↦ rw none (grows_first p)
  | inr e ↦ rw e.2 (grows_more e.0 e.1 p)
]
