-- The canonical writing: what it has, and that it is read again.
use Rattle.std.proofs.Common.{◌≡◌, ℕ, zero, suc, ◌+◌, ◌-◌, ◌*◌, ◌<◌, ◌≤◌, ◌^◌, ◌⊎◌, Bool, true, false, List, [], ◌∷◌}
use Rattle.std.proofs.Common.{◌++◌, length, map, refl, sym, ap, ◌∙◌, arith, append_assoc, subst, inl, inr, Result, Ok}
use Rattle.std.proofs.Common.{Err}
use Rattle.std.specs.Prelude.{replicate, All}
use Rattle.std.specs.List.{flat_map}
use Rattle.std.proofs.lemmas.Bool.{cases_lt, le-ltb, lt-ltb}
use Rattle.std.proofs.lemmas.List.{append-nil, length-append, length-replicate}
use Rattle.std.proofs.lemmas.List.Elements.{All-head, All-tail}
use Rattle.mac_pdu.specs.declared.item.Direction.{Direction}
use Rattle.mac_pdu.specs.declared.item.Control.{Control}
use Rattle.mac_pdu.specs.declared.item.Control.TheVariants as control
use Rattle.mac_pdu.specs.declared.builder.Sdu.{Sdu}
use Rattle.mac_pdu.specs.declared.fault.MacRefusal.{MacRefusal}
use Rattle.mac_pdu.specs.Items.{MacItem, front, element, sdu, padding, control_lcid, control_octets, IsControl}
use Rattle.mac_pdu.specs.Items.{sdu_item, IsOrdered}
use Rattle.mac_pdu.specs.Grammar.{bit, BeginsWith, IsLength, IsInner, IsLast, IsHeader, IsElement, IsPayload, IsEnd}
use Rattle.mac_pdu.specs.Grammar.{IsBody, MacPdu}
use Rattle.mac_pdu.specs.Reading.{reading}
use Rattle.mac_pdu.specs.Writing.{Parts, IsSdu, items_of, lcid_of, length_field, inner, headers, payload, writing}
use Rattle.mac_pdu.specs.Writing.{full_size, padded, canonical}
use Rattle.mac_pdu.specs.Laws.{IsItem, AreItems, Fits, ReadsWhatWasWritten, ReadsOneList, NeverBoth, CanonicalFits}
use Rattle.mac_pdu.specs.Laws.{CanonicalDiffers}
use Rattle.mac_pdu.proofs.Accepted.{accepted}
use Rattle.mac_pdu.proofs.Found.{refused}
use Rattle.mac_pdu.proofs.Spell.{fronted, spell_padded, padded_front, padded_end, size_is as full_is, saved_short}
use Rattle.mac_pdu.proofs.Spell.{whole, inner_some}

-- What was written is in the grammar.

begins : (more : Bool) (lcid octet : ℕ) (tail : List ℕ) → octet ≡ 32 * bit more + lcid
    → BeginsWith more lcid tail (octet ∷ tail)
begins more lcid octet tail e =
    record { free = 0; two_bits = omega arith; octets_are = ap (λ (o : ℕ). o ∷ tail) (omega (arith, e)) }

length_written : (n : ℕ) → n < 2 ^ 15 → IsLength n (length_field n)
length_written n h = elim (cases_lt n 128) [
  | inl lt ↦ inl (lt, rw (lt-ltb n 128 lt) refl)
  | inr le ↦ inr (h, rw (le-ltb n 128 le) refl)
]

inner_written : (d : Direction) (p : MacItem) → IsItem d true p → IsInner d p (inner p)
inner_written d front h = begins true 31 63 [] (omega arith)
inner_written d (element c) h = (h, begins true (control_lcid c) (32 + control_lcid c) [] (omega arith))
inner_written d (sdu lcid octets) h = (
  length_field (length octets),
  h.0,
  length_written (length octets) h.1,
  begins true lcid (32 + lcid) (length_field (length octets)) (omega arith),
)
inner_written d (padding n) h = absurd h

last_written : (d : Direction) (p : MacItem) → IsItem d false p → IsLast d p (lcid_of p ∷ [])
last_written d front h = absurd h
last_written d (element c) h = (h, begins false (control_lcid c) (control_lcid c) [] (omega arith))
last_written d (sdu lcid octets) h = (h, begins false lcid lcid [] (omega arith))
last_written d (padding n) h = begins false 31 31 [] (omega arith)

header_written : (d : Direction) (ps : List MacItem) → AreItems d ps → IsHeader d ps (headers ps)
header_written d [] h = absurd h
header_written d (p ∷ []) h = last_written d p h
header_written d (p ∷ q ∷ ps) h =
    (inner p, headers (q ∷ ps), refl, inner_written d p h.0, header_written d (q ∷ ps) h.1)

element_written : (c : Control) → IsElement c (control_octets c)
element_written (control.Contention id) = refl
element_written (control.Advance value) = (0, omega arith, ap (λ (o : ℕ). o ∷ []) (omega arith))
element_written control.Drx = refl
element_written (control.Phr level) = (0, omega arith, ap (λ (o : ℕ). o ∷ []) (omega arith))
element_written (control.Crnti value) = refl
element_written (control.Report report) = refl

payload_written : (p : MacItem) → IsPayload p (payload p)
payload_written front = refl
payload_written (element c) = element_written c
payload_written (sdu lcid octets) = refl
payload_written (padding n) = length-replicate n 0

end_written : (d : Direction) (p : MacItem) → IsItem d false p → IsEnd p (payload p ++ [])
end_written d front h = absurd h
end_written d (element c) h = (control_octets c, [], refl, element_written c)
end_written d (sdu lcid octets) h = append-nil octets
end_written d (padding n) h = ap length (append-nil (replicate n 0)) ∙ length-replicate n 0

body_written : (d : Direction) (ps : List MacItem) → AreItems d ps → IsBody ps (flat_map payload ps)
body_written d [] h = absurd h
body_written d (p ∷ []) h = end_written d p h
body_written d (p ∷ q ∷ ps) h =
    (payload p, flat_map payload (q ∷ ps), refl, payload_written p, body_written d (q ∷ ps) h.1)

pub written : ReadsWhatWasWritten
written d ps h ordered = record {
  header = headers ps;
  body = flat_map payload ps;
  block = refl;
  ordered = ordered;
  subheaders = header_written d ps h;
  payloads = body_written d ps h;
}

-- A block has one list of items, or a refusal.

same_ok : (ps qs : List MacItem) (r : Result (List MacItem) MacRefusal) → r ≡ Ok ps → r ≡ Ok qs → ps ≡ qs
same_ok ps qs r e f = cc

pub one_list : ReadsOneList
one_list d ps qs octets h k = same_ok ps qs (reading d octets) (accepted d ps octets h) (accepted d qs octets k)

ok_or_err : (ps : List MacItem) (x : MacRefusal) (r : Result (List MacItem) MacRefusal) → r ≡ Ok ps → r ≡ Err x → ⊥
ok_or_err ps x r e f = cc

pub never_both : NeverBoth
never_both d ps octets x h r = ok_or_err ps x (reading d octets) (accepted d ps octets h) (refused d octets x r)

-- What a builder holds.

-- items that may stand anywhere in a block
abbrev Movable : Direction → List MacItem → Type 0
Movable d [] = Unit {0}
Movable d (p ∷ ps) = IsItem d true p × IsItem d false p × Movable d ps

movable_sdus : (d : Direction) (ss : List Sdu) → All IsSdu ss → Movable d (map sdu_item ss)
movable_sdus d [] h = tt
movable_sdus d (s ∷ ss) h = let one = All-head IsSdu s ss h in
    ((one.lcid, one.short), one.lcid, movable_sdus d ss (All-tail IsSdu s ss h))

movable_all : (d : Direction) (cs : List Control) (ss : List Sdu) → All (IsControl d) cs → All IsSdu ss
    → Movable d (map (λ c. element c) cs ++ map sdu_item ss)
movable_all d [] ss h k = movable_sdus d ss k
movable_all d (c ∷ cs) ss h k = let one = All-head (IsControl d) c cs h in
    (one, one, movable_all d cs ss (All-tail (IsControl d) c cs h) k)

are_items : (d : Direction) (p : MacItem) (ps : List MacItem) → Movable d (p ∷ ps) → AreItems d (p ∷ ps)
are_items d p [] h = h.1
are_items d p (q ∷ ps) h = (h.0, are_items d q ps h.2)

front_items : (d : Direction) (n : ℕ) (p : MacItem) (ps : List MacItem) → Movable d (p ∷ ps)
    → AreItems d (replicate n front ++ p ∷ ps)
front_items d zero p ps h = are_items d p ps h
front_items d (suc zero) p ps h = (tt, are_items d p ps h)
front_items d (suc (suc n)) p ps h = (tt, front_items d (suc n) p ps h)

end_items : (d : Direction) (n : ℕ) (ps : List MacItem) → Movable d ps → AreItems d (ps ++ padding n ∷ [])
end_items d n [] h = tt
end_items d n (p ∷ []) h = (h.0, tt)
end_items d n (p ∷ q ∷ ps) h = (h.0, end_items d n (q ∷ ps) h.2)

-- the three ways to fill a block
IsAlone : List MacItem → ℕ → Type 0
IsAlone ps size = (ps ≡ []) × (padded ps size ≡ padding (size - 1) ∷ [])

IsFronted : List MacItem → ℕ → Type 0
IsFronted ps size = (p : MacItem) × (rest : List MacItem) × (ps ≡ p ∷ rest) × (size - length (writing ps) ≤ 2)
    × (padded ps size ≡ replicate (size - length (writing ps)) front ++ ps)

IsEnded : List MacItem → ℕ → Type 0
IsEnded ps size = (2 < size - length (writing ps)) × (padded ps size ≡ ps ++ padding (size - 1 - full_size ps) ∷ [])

writing_some : (p : MacItem) (ps : List MacItem) → 0 < length (writing (p ∷ ps))
writing_some p [] = omega arith
writing_some p (q ∷ ps) =
    omega (
      arith,
      length-append (inner p ++ headers (q ∷ ps)) (flat_map payload (p ∷ q ∷ ps)),
      length-append (inner p) (headers (q ∷ ps)),
      inner_some p,
    )

padded_cases : (ps : List MacItem) (size : ℕ) → IsAlone ps size ⊎ (IsFronted ps size ⊎ IsEnded ps size)
unfolding IsAlone IsFronted IsEnded
padded_cases [] size = inl (refl, refl)
padded_cases (p ∷ ps) size = elim (cases_lt 2 (size - length (writing (p ∷ ps)))) [
  | inl lt ↦ inr (inr (lt, padded_end (p ∷ ps) size (writing_some p ps) lt))
  | inr le ↦ inr (inl (p, ps, refl, le, padded_front (p ∷ ps) size (writing_some p ps) le))
]

-- The padding of a builder's items.

-- what is known of padded items
record IsPadded (b : Parts) (size : ℕ) : Type 0 where
  items : AreItems b.direction (padded (items_of b) size)
  ordered : IsOrdered (padded (items_of b) size)
  size_is : length (canonical (items_of b) size) ≡ size

no_ends : (n : ℕ) (cs : List Control) (ss : List Sdu)
    → replicate n front ++ (map (λ c. element c) cs ++ map sdu_item ss)
    ≡ replicate n front ++ (map (λ c. element c) cs ++ (map sdu_item ss ++ []))
no_ends n cs ss =
    ap (λ (xs : List MacItem). replicate n front ++ (map (λ c. element c) cs ++ xs))
    (sym (append-nil (map sdu_item ss)))

fill_alone : (b : Parts) (size : ℕ) → 1 ≤ size → IsAlone (items_of b) size → IsPadded b size
unfolding IsAlone
fill_alone b size some h = record {
  items = subst (AreItems b.direction) (sym h.1) tt;
  ordered = record {
    fronts = 0;
    controls = [];
    sdus = [];
    ends = (size - 1) ∷ [];
    two = omega arith;
    one = omega arith;
    order = h.1;
  };
  size_is = ap (λ (ps : List MacItem). length (writing ps)) h.1
      ∙ ap (λ (xs : List ℕ). suc (length xs)) (append-nil (replicate (size - 1) 0))
      ∙ ap suc (length-replicate (size - 1) 0) ∙ omega arith;
}

fill_front : (b : Parts) (size : ℕ) → Fits b size → IsFronted (items_of b) size → IsPadded b size
unfolding IsFronted
fill_front b size f h =
    let n = size - length (writing (items_of b)) in
    let d = b.direction in
    let movable : Movable d (h.0 ∷ h.1) =
    subst (Movable d) h.2 (movable_all d b.controls b.sdus f.held.controls f.held.sdus) in
    let whole : AreItems d (replicate n front ++ items_of b) =
    subst (λ (ps : List MacItem). AreItems d (replicate n front ++ ps)) (sym h.2)
    (front_items d n h.0 h.1 movable) in
    let octets : writing (replicate n front ++ items_of b) ≡ replicate n 63 ++ writing (items_of b) =
    subst (λ (ps : List MacItem). writing (replicate n front ++ ps) ≡ replicate n 63 ++ writing ps) (sym h.2)
    (fronted n h.0 h.1) in
    let count : length (replicate n 63 ++ writing (items_of b)) ≡ size =
    omega (arith, length-append (replicate n 63) (writing (items_of b)), length-replicate {A = ℕ} n 63, f.room) in
    record {
      items = subst (AreItems d) (sym h.4) whole;
      ordered = record {
        fronts = n;
        controls = b.controls;
        sdus = b.sdus;
        ends = [];
        two = h.3;
        one = omega arith;
        order = h.4 ∙ no_ends n b.controls b.sdus;
      };
      size_is = ap (λ (ps : List MacItem). length (writing ps)) h.4 ∙ ap length octets ∙ count;
    }

fill_end : (b : Parts) (size : ℕ) → Fits b size → IsEnded (items_of b) size → IsPadded b size
unfolding IsEnded
fill_end b size f h =
    let ps = items_of b in
    let n = size - 1 - full_size ps in
    let d = b.direction in
    let movable : Movable d ps = movable_all d b.controls b.sdus f.held.controls f.held.sdus in
    let octets = spell_padded [] (flat_map inner ps) (flat_map inner ps ++ 31 ∷ [])
    ((flat_map inner ps ++ 31 ∷ []) ++ flat_map payload ps)
    (((flat_map inner ps ++ 31 ∷ []) ++ flat_map payload ps) ++ replicate n 0) n ps refl refl refl refl in
    let count : length (((flat_map inner ps ++ 31 ∷ []) ++ flat_map payload ps) ++ replicate n 0) ≡ size =
    simp length-append
    (omega (
      arith,
      length-replicate {A = ℕ} n 0,
      whole b f.held,
      full_is b f.held,
      saved_short b.sdus,
      h.0,
      f.room,
    )) in
    record {
      items = subst (AreItems d) (sym h.1) (end_items d n ps movable);
      ordered = record {
        fronts = 0;
        controls = b.controls;
        sdus = b.sdus;
        ends = n ∷ [];
        two = omega arith;
        one = omega arith;
        order = h.1 ∙ append_assoc (map (λ c. element c) b.controls) (map sdu_item b.sdus) (padding n ∷ []);
      };
      size_is = ap (λ (qs : List MacItem). length (writing qs)) h.1 ∙ ap length (sym octets) ∙ count;
    }

fill : (b : Parts) (size : ℕ) → Fits b size → IsAlone (items_of b) size
    ⊎ (IsFronted (items_of b) size ⊎ IsEnded (items_of b) size) → IsPadded b size
fill b size f (inl h) = fill_alone b size f.some h
fill b size f (inr (inl h)) = fill_front b size f h
fill b size f (inr (inr h)) = fill_end b size f h

pub canonical_fits : CanonicalFits
canonical_fits b size f =
    let p = fill b size f (padded_cases (items_of b) size) in
    let read = written b.direction (padded (items_of b) size) p.items p.ordered in
    record {
      size_is = p.size_is;
      read = read;
      again = accepted b.direction (padded (items_of b) size) (canonical (items_of b) size) read;
    }

-- No two alike.

controls_in : List MacItem → List Control
controls_in [] = []
controls_in (front ∷ ps) = controls_in ps
controls_in (element c ∷ ps) = c ∷ controls_in ps
controls_in (sdu lcid octets ∷ ps) = controls_in ps
controls_in (padding n ∷ ps) = controls_in ps

sdus_in : List MacItem → List Sdu
sdus_in [] = []
sdus_in (front ∷ ps) = sdus_in ps
sdus_in (element c ∷ ps) = sdus_in ps
sdus_in (sdu lcid octets ∷ ps) = record { lcid = lcid; octets = octets } ∷ sdus_in ps
sdus_in (padding n ∷ ps) = sdus_in ps

-- what items tell of a builder
Tells : List MacItem → List Control → List Sdu → Type 0
Tells ps cs ss = (controls_in ps ≡ cs) × (sdus_in ps ≡ ss)

sdus_tell : (ss : List Sdu) (n : ℕ) → Tells (map sdu_item ss) [] ss × Tells (map sdu_item ss ++ padding n ∷ []) [] ss
unfolding Tells controls_in sdus_in
sdus_tell [] n = ((refl, refl), (refl, refl))
sdus_tell (s ∷ ss) n =
    let r = sdus_tell ss n in
    ((r.0.0, ap (λ (xs : List Sdu). s ∷ xs) r.0.1), (r.1.0, ap (λ (xs : List Sdu). s ∷ xs) r.1.1))

items_tell : (cs : List Control) (ss : List Sdu) → Tells (map (λ c. element c) cs ++ map sdu_item ss) cs ss
unfolding Tells controls_in sdus_in
items_tell [] ss = (sdus_tell ss 0).0
items_tell (c ∷ cs) ss = let r = items_tell cs ss in (ap (λ (xs : List Control). c ∷ xs) r.0, r.1)

ended_tell : (cs : List Control) (ss : List Sdu) (n : ℕ)
    → Tells ((map (λ c. element c) cs ++ map sdu_item ss) ++ padding n ∷ []) cs ss
unfolding Tells controls_in sdus_in
ended_tell [] ss n = (sdus_tell ss n).1
ended_tell (c ∷ cs) ss n = let r = ended_tell cs ss n in (ap (λ (xs : List Control). c ∷ xs) r.0, r.1)

fronted_tell : (n : ℕ) (ps : List MacItem) (cs : List Control) (ss : List Sdu) → Tells ps cs ss
    → Tells (replicate n front ++ ps) cs ss
unfolding Tells controls_in sdus_in
fronted_tell zero ps cs ss h = h
fronted_tell (suc n) ps cs ss h = fronted_tell n ps cs ss h

padded_tell : (b : Parts) (size : ℕ) → IsAlone (items_of b) size
    ⊎ (IsFronted (items_of b) size ⊎ IsEnded (items_of b) size) → Tells (padded (items_of b) size) b.controls b.sdus
unfolding IsAlone IsFronted IsEnded Tells controls_in sdus_in
padded_tell b size (inl h) =
    let t = items_tell b.controls b.sdus in
    let none : Tells [] b.controls b.sdus = subst (λ (ps : List MacItem). Tells ps b.controls b.sdus) h.0 t in
    subst (λ (ps : List MacItem). Tells ps b.controls b.sdus) (sym h.1) none
padded_tell b size (inr (inl h)) =
    subst (λ (ps : List MacItem). Tells ps b.controls b.sdus) (sym h.4)
    (fronted_tell (size - length (writing (items_of b))) (items_of b) b.controls b.sdus
    (items_tell b.controls b.sdus))
padded_tell b size (inr (inr h)) =
    subst (λ (ps : List MacItem). Tells ps b.controls b.sdus) (sym h.1)
    (ended_tell b.controls b.sdus (size - 1 - full_size (items_of b)))

parts_same : (a b : Parts) → a.direction ≡ b.direction → a.controls ≡ b.controls → a.sdus ≡ b.sdus → a ≡ b
parts_same a b ed ec es =
    let left : Parts = record { direction = a.direction; controls = a.controls; sdus = a.sdus } in
    let right : Parts = record { direction = b.direction; controls = b.controls; sdus = b.sdus } in
    let e : left ≡ right = rw (ed, ec, es) refl in
    e

pub differs : CanonicalDiffers
unfolding Tells
differs a b size ed fa fb e =
    let ra = (canonical_fits a size fa).read in
    let rb = (canonical_fits b size fb).read in
    let octets = canonical (items_of b) size in
    let ra' : MacPdu b.direction (padded (items_of a) size) octets =
    subst (λ (d : Direction). MacPdu d (padded (items_of a) size) octets) ed
    (subst (λ (o : List ℕ). MacPdu a.direction (padded (items_of a) size) o) e ra) in
    let same = one_list b.direction (padded (items_of a) size) (padded (items_of b) size) octets ra' rb in
    let ta = padded_tell a size (padded_cases (items_of a) size) in
    let tb = padded_tell b size (padded_cases (items_of b) size) in
    parts_same a b ed (sym ta.0 ∙ ap controls_in same ∙ tb.0) (sym ta.1 ∙ ap sdus_in same ∙ tb.1)
