-- Padding stands in its place exactly where items are those that fill a block of their size.
use Rattle.std.proofs.Common.{◌≡◌, ℕ, zero, suc, ◌+◌, ◌-◌, ◌<◌, ◌≤◌, ◌⊎◌, Bool, true, false, ◌&&◌, ◌||◌, not, List}
use Rattle.std.proofs.Common.{inl, inr, [], ◌∷◌, ◌++◌, length, map, refl, ap, sym, ◌∙◌, subst, arith}
use Rattle.std.proofs.Common.{append_assoc, append-nil, length-append}
use Rattle.std.specs.Prelude.{nat_lt, nat_le, if◌then◌else◌, replicate}
use Rattle.std.specs.List.{flat_map}
use Rattle.std.proofs.lemmas.Bool.{cases_lt, lt-ltb, le-ltb, le-leb, lt-leb, leb-true, true≢false}
use Rattle.std.proofs.lemmas.List.{length-replicate}
use Rattle.std.proofs.lemmas.Grind.{flat_map-append}
use Rattle.mac_pdu.specs.declared.item.Control.{Control}
use Rattle.mac_pdu.specs.declared.builder.Sdu.{Sdu}
use Rattle.mac_pdu.specs.declared.item.Direction.{Direction}
use Rattle.mac_pdu.specs.Items.{MacItem, front, element, sdu, padding, sdu_item, IsOrdered}
use Rattle.mac_pdu.specs.Grammar.{IsHeader}
use Rattle.mac_pdu.specs.Writing.{Parts, IsBuilder, inner, payload, headers, writing, padded, saved, full_size}
use Rattle.mac_pdu.specs.Writing.{length_field}
use Rattle.mac_pdu.proofs.Spell.{fronted, spell_padded, whole, size_is, inner_some}
use Rattle.promises.specs.RightForm.{controls_in, sdus_in, unpadded}
use Rattle.journal_form.specs.Canonical.{is_front, are_placed}

-- ---- what is in items that are ordered

abbrev core : List Control → List Sdu → List MacItem
core controls sdus = map element controls ++ map sdu_item sdus

abbrev pub ordered : ℕ → List Control → List Sdu → List ℕ → List MacItem
ordered fronts controls sdus ends =
    replicate fronts front ++ (map element controls ++ (map sdu_item sdus ++ map padding ends))

ends_hold : (ends : List ℕ) → (controls_in (map padding ends) ≡ []) × (sdus_in (map padding ends) ≡ [])
ends_hold [] = (refl, refl)
ends_hold (n ∷ ends) = ends_hold ends

sdus_hold : (sdus : List Sdu) (ends : List ℕ) → (controls_in (map sdu_item sdus ++ map padding ends) ≡ [])
    × (sdus_in (map sdu_item sdus ++ map padding ends) ≡ sdus)
sdus_hold [] ends = ends_hold ends
sdus_hold (d ∷ sdus) ends =
    let r = sdus_hold sdus ends in (r.0, ap (λ (l : List Sdu). d ∷ l) r.1)

controls_hold : (controls : List Control) (sdus : List Sdu) (ends : List ℕ)
    → (controls_in (ordered 0 controls sdus ends) ≡ controls) × (sdus_in (ordered 0 controls sdus ends) ≡ sdus)
controls_hold [] sdus ends = sdus_hold sdus ends
controls_hold (c ∷ controls) sdus ends =
    let r = controls_hold controls sdus ends in (ap (λ (l : List Control). c ∷ l) r.0, r.1)

all_hold : (fronts : ℕ) (controls : List Control) (sdus : List Sdu) (ends : List ℕ)
    → (controls_in (ordered fronts controls sdus ends) ≡ controls)
    × (sdus_in (ordered fronts controls sdus ends) ≡ sdus)
all_hold zero controls sdus ends = controls_hold controls sdus ends
all_hold (suc fronts) controls sdus ends = all_hold fronts controls sdus ends

-- ---- the test of their padding

-- how many octets of padding at least stand behind SDUs
least_sdus : ℕ → List Sdu → ℕ
least_sdus least [] = least
least_sdus least (d ∷ sdus) = least_sdus (if nat_lt (length d.octets) 128 then 1 else 0) sdus

least_controls : ℕ → List Control → ℕ
least_controls least [] = least
least_controls least (c ∷ controls) = 2

abbrev least_of : List Control → List Sdu → ℕ
least_of controls sdus = least_sdus (least_controls 0 controls) sdus

behind_two : (controls : List Control) → least_controls 2 controls ≡ 2
unfolding least_controls
behind_two [] = refl
behind_two (c ∷ controls) = refl

ends_placed : (fronted : Bool) (least n : ℕ)
    → are_placed fronted least (padding n ∷ []) ≡ (not fronted && nat_le least n)
ends_placed fronted least n = by (not fronted && nat_le least n)
  where
    by : (b : Bool) → (b && true) ≡ b
    by true = refl
    by false = refl

stays : (fronted : Bool) → (fronted || false) ≡ fronted
stays true = refl
stays false = refl

sdus_placed : (fronted : Bool) (least : ℕ) (sdus : List Sdu) (n : ℕ)
    → are_placed fronted least (map sdu_item sdus ++ padding n ∷ [])
    ≡ (not fronted && nat_le (least_sdus least sdus) n)
unfolding least_sdus
sdus_placed fronted least [] n = ends_placed fronted least n
sdus_placed fronted least (d ∷ sdus) n =
    rw (stays fronted) (sdus_placed fronted (if nat_lt (length d.octets) 128 then 1 else 0) sdus n)

controls_placed : (fronted : Bool) (least : ℕ) (controls : List Control) (sdus : List Sdu) (n : ℕ)
    → are_placed fronted least (map element controls ++ (map sdu_item sdus ++ padding n ∷ []))
    ≡ (not fronted && nat_le (least_sdus (least_controls least controls) sdus) n)
unfolding least_controls
controls_placed fronted least [] sdus n = sdus_placed fronted least sdus n
controls_placed fronted least (c ∷ controls) sdus n =
    rw (stays fronted)
    (controls_placed fronted 2 controls sdus n
    ∙ ap (λ (m : ℕ). not fronted && nat_le (least_sdus m sdus) n) (behind_two controls))

fronts_placed : (fronts : ℕ) (controls : List Control) (sdus : List Sdu) (n : ℕ)
    → are_placed true 0 (ordered fronts controls sdus (n ∷ [])) ≡ false
fronts_placed zero controls sdus n = controls_placed true 0 controls sdus n
fronts_placed (suc fronts) controls sdus n = fronts_placed fronts controls sdus n

none_sdus : (fronted : Bool) (least : ℕ) (sdus : List Sdu)
    → are_placed fronted least (map sdu_item sdus ++ []) ≡ true
none_sdus fronted least [] = refl
none_sdus fronted least (d ∷ sdus) =
    none_sdus (fronted || false) (if nat_lt (length d.octets) 128 then 1 else 0) sdus

none_controls : (fronted : Bool) (least : ℕ) (controls : List Control) (sdus : List Sdu)
    → are_placed fronted least (map element controls ++ (map sdu_item sdus ++ [])) ≡ true
none_controls fronted least [] sdus = none_sdus fronted least sdus
none_controls fronted least (c ∷ controls) sdus = none_controls (fronted || false) 2 controls sdus

none_placed : (fronted : Bool) (fronts : ℕ) (controls : List Control) (sdus : List Sdu)
    → are_placed fronted 0 (ordered fronts controls sdus []) ≡ true
none_placed fronted zero controls sdus = none_controls fronted 0 controls sdus
none_placed fronted (suc fronts) controls sdus = none_placed (fronted || true) fronts controls sdus

-- ---- how many octets items take

saved_least : (least : ℕ) (d : Sdu) (sdus : List Sdu) → least_sdus least (d ∷ sdus) + saved (d ∷ sdus) ≡ 2
unfolding least_sdus
saved_least least d [] = least_saved (length d.octets)
  where
    least_saved : (n : ℕ) → (if nat_lt n 128 then 1 else 0) + length (length_field n) ≡ 2
    least_saved n = elim (cases_lt n 128) as (λ w. (if nat_lt n 128 then 1 else 0) + length (length_field n) ≡ 2) [
      | inl lt ↦ rw (lt-ltb n 128 lt) refl
      | inr le ↦ rw (le-ltb n 128 le) refl
    ]
saved_least least d (s ∷ sdus) = saved_least (if nat_lt (length d.octets) 128 then 1 else 0) s sdus

-- items, or none
core_least : (controls : List Control) (sdus : List Sdu) → ((controls ≡ []) × (sdus ≡ []))
    ⊎ ((p : MacItem) × (ps : List MacItem) × (core controls sdus ≡ p ∷ ps) × (is_front p ≡ false)
    × (least_of controls sdus + saved sdus ≡ 2))
unfolding least_sdus least_controls
core_least [] [] = inl (refl, refl)
core_least [] (d ∷ sdus) = inr (sdu_item d, map sdu_item sdus, refl, refl, saved_least 0 d sdus)
core_least (c ∷ controls) [] = inr (element c, map element controls ++ [], refl, refl, refl)
core_least (c ∷ controls) (d ∷ sdus) =
    inr (element c, map element controls ++ map sdu_item (d ∷ sdus), refl, refl, saved_least 2 d sdus)

headers_within : (ps : List MacItem) → length (headers ps) ≤ length (flat_map inner ps)
headers_within [] = omega arith
headers_within (p ∷ []) = omega (arith, inner_some p, length-append (inner p) [])
headers_within (p ∷ q ∷ ps) =
    omega (
      arith,
      headers_within (q ∷ ps),
      length-append (inner p) (headers (q ∷ ps)),
      length-append (inner p) (flat_map inner (q ∷ ps)),
    )

ended_length : (ps : List MacItem) (n : ℕ) → length (writing (ps ++ padding n ∷ []))
    ≡ length (flat_map inner ps) + 1 + length (flat_map payload ps) + n
ended_length ps n =
    let heads = flat_map inner ps in
    let most = (heads ++ 31 ∷ []) ++ flat_map payload ps in
    let is : most ++ replicate n 0 ≡ writing (ps ++ padding n ∷ []) =
    spell_padded [] heads (heads ++ 31 ∷ []) most (most ++ replicate n 0) n ps refl refl refl refl in
    ap (length {A = ℕ}) (sym is)
    ∙ simp length-append (omega (arith, length-replicate {A = ℕ} n 0))

-- ---- where they are as `padded` has them

no_item : (d : Direction) (fronts : ℕ) (octets : List ℕ) → IsHeader d (ordered fronts [] [] []) octets → ⊥
no_item d zero octets h = absurd h
no_item d (suc zero) octets h = absurd h
no_item d (suc (suc fronts)) octets h = no_item d (suc fronts) h.1 h.4

padded_few : (p : MacItem) (ps : List MacItem) (size : ℕ) → size - length (writing (p ∷ ps)) ≤ 2
    → padded (p ∷ ps) size ≡ replicate (size - length (writing (p ∷ ps))) front ++ (p ∷ ps)
padded_few p ps size h = rw (le-leb (size - length (writing (p ∷ ps))) 2 h) refl

padded_more : (p : MacItem) (ps : List MacItem) (size : ℕ) → 2 < size - length (writing (p ∷ ps))
    → padded (p ∷ ps) size ≡ (p ∷ ps) ++ padding (size - 1 - full_size (p ∷ ps)) ∷ []
padded_more p ps size h = rw (lt-leb (size - length (writing (p ∷ ps))) 2 h) refl

-- whether padding stands at the end
is_ended : List MacItem → Bool
is_ended [] = false
is_ended (padding n ∷ ps) = true
is_ended (front ∷ ps) = is_ended ps
is_ended (element c ∷ ps) = is_ended ps
is_ended (sdu lcid octets ∷ ps) = is_ended ps

sdus_end : (sdus : List Sdu) (n : ℕ) → is_ended (map sdu_item sdus ++ padding n ∷ []) ≡ true
unfolding is_ended
sdus_end [] n = refl
sdus_end (d ∷ sdus) n = sdus_end sdus n

all_end : (fronts : ℕ) (controls : List Control) (sdus : List Sdu) (n : ℕ)
    → is_ended (ordered fronts controls sdus (n ∷ [])) ≡ true
unfolding is_ended
all_end zero [] sdus n = sdus_end sdus n
all_end zero (c ∷ controls) sdus n = all_end zero controls sdus n
all_end (suc fronts) controls sdus n = all_end fronts controls sdus n

sdus_last : (sdus : List Sdu) → is_ended (map sdu_item sdus) ≡ false
unfolding is_ended
sdus_last [] = refl
sdus_last (d ∷ sdus) = sdus_last sdus

core_last : (fronts : ℕ) (controls : List Control) (sdus : List Sdu)
    → is_ended (replicate fronts front ++ core controls sdus) ≡ false
unfolding is_ended
core_last zero [] sdus = sdus_last sdus
core_last zero (c ∷ controls) sdus = core_last zero controls sdus
core_last (suc fronts) controls sdus = core_last fronts controls sdus

-- few octets aren't filled at the end
not_few : (fronts : ℕ) (controls : List Control) (sdus : List Sdu) (n size : ℕ) (p : MacItem) (ps : List MacItem)
    → core controls sdus ≡ p ∷ ps → size - length (writing (p ∷ ps)) ≤ 2
    → ordered fronts controls sdus (n ∷ []) ≡ padded (core controls sdus) size → ⊥
not_few fronts controls sdus n size p ps is few e =
    let spare = size - length (writing (p ∷ ps)) in
    let there : ordered fronts controls sdus (n ∷ []) ≡ replicate spare front ++ core controls sdus =
    e ∙ ap (λ (l : List MacItem). padded l size) is ∙ padded_few p ps size few
    ∙ ap (λ (l : List MacItem). replicate spare front ++ l) (sym is) in
    true≢false (sym (all_end fronts controls sdus n) ∙ ap is_ended there ∙ core_last spare controls sdus)

-- both ways
abbrev Both : List MacItem → List MacItem → Type 0
Both items own = (are_placed false 0 items ≡ true → items ≡ padded own (length (writing items)))
    × (items ≡ padded own (length (writing items)) → are_placed false 0 items ≡ true)

no_ends : (fronts : ℕ) (controls : List Control) (sdus : List Sdu)
    → ordered fronts controls sdus [] ≡ replicate fronts front ++ core controls sdus
no_ends fronts controls sdus =
    ap (λ (l : List MacItem). replicate fronts front ++ (map element controls ++ l)) (append-nil (map sdu_item sdus))

front_both : (d : Direction) (fronts : ℕ) (controls : List Control) (sdus : List Sdu) (octets : List ℕ) → fronts ≤ 2
    → IsHeader d (ordered fronts controls sdus []) octets
    → Both (ordered fronts controls sdus []) (core controls sdus)
front_both d fronts controls sdus octets two h = elim (core_least controls sdus) [
  | inl none ↦
      absurd (no_item d fronts octets
      (subst (λ (l : List Sdu). IsHeader d (ordered fronts [] l []) octets) none.1
      (subst (λ (l : List Control). IsHeader d (ordered fronts l sdus []) octets) none.0 h)))
  | inr some ↦
      let items = ordered fronts controls sdus [] in
      let p = some.0 in
      let ps = some.1 in
      let same : items ≡ replicate fronts front ++ (p ∷ ps) =
      no_ends fronts controls sdus ∙ ap (λ (l : List MacItem). replicate fronts front ++ l) some.2 in
      let spare : length (writing items) - length (writing (p ∷ ps)) ≡ fronts =
      omega (
        arith,
        ap (λ (l : List MacItem). length (writing l)) same,
        ap (length {A = ℕ}) (fronted fronts p ps),
        length-append (replicate fronts 63) (writing (p ∷ ps)),
        length-replicate {A = ℕ} fronts 63,
      ) in
      let is : items ≡ padded (core controls sdus) (length (writing items)) =
      same ∙ ap (λ (n : ℕ). replicate n front ++ (p ∷ ps)) (sym spare)
      ∙ sym (padded_few p ps (length (writing items)) (omega (arith, spare, two)))
      ∙ ap (λ (l : List MacItem). padded l (length (writing items))) (sym some.2) in
      (λ e. is, λ e. none_placed false fronts controls sdus)
]

alone_both : (n : ℕ) → Both (padding n ∷ []) []
alone_both n =
    let size : length (writing (padding n ∷ [])) - 1 ≡ n = omega (arith, ended_length [] n) in (
      λ e. ap (λ (m : ℕ). padding m ∷ []) (sym size),
      λ e. ends_placed false 0 n ∙ le-leb 0 n (omega arith),
    )

ended_both : (d : Direction) (controls : List Control) (sdus : List Sdu) (n : ℕ) (p : MacItem) (ps : List MacItem)
    → IsBuilder (record { direction = d; controls = controls; sdus = sdus })
    → core controls sdus ≡ p ∷ ps → least_of controls sdus + saved sdus ≡ 2
    → Both (ordered 0 controls sdus (n ∷ [])) (core controls sdus)
ended_both d controls sdus n p ps h is least =
    let b : Parts = record { direction = d; controls = controls; sdus = sdus } in
    let own = core controls sdus in
    let items = ordered 0 controls sdus (n ∷ []) in
    let size = length (writing items) in
    let same : items ≡ own ++ padding n ∷ [] =
    sym (append_assoc (map element controls) (map sdu_item sdus) (padding n ∷ [])) in
    let long : size ≡ full_size own + 1 + n =
    omega (arith, ap (λ (l : List MacItem). length (writing l)) same, ended_length own n, whole b h) in
    let full : full_size own ≡ length (writing own) + saved sdus = size_is b h in
    let wide : length (writing own) ≡ length (writing (p ∷ ps)) = ap (λ (l : List MacItem). length (writing l)) is in
    let sum : full_size own ≡ full_size (p ∷ ps) = ap full_size is in
    let placed = controls_placed false 0 controls sdus n in (
      λ e.
          let enough : least_of controls sdus ≤ n = leb-true (least_of controls sdus) n (sym placed ∙ e) in
          let more : 2 < size - length (writing (p ∷ ps)) = omega (arith, long, full, wide, least, enough) in
          let rest : size - 1 - full_size (p ∷ ps) ≡ n = omega (arith, long, sum) in
          same ∙ ap (λ (l : List MacItem). l ++ padding n ∷ []) is
          ∙ ap (λ (m : ℕ). (p ∷ ps) ++ padding m ∷ []) (sym rest) ∙ sym (padded_more p ps size more)
          ∙ ap (λ (l : List MacItem). padded l size) (sym is),
      λ e. elim (cases_lt 2 (size - length (writing (p ∷ ps)))) [
        | inl more ↦
            placed
            ∙ le-leb (least_of controls sdus) n (omega (arith, long, full, wide, least, more))
        | inr few ↦ absurd (not_few 0 controls sdus n size p ps is few e)
      ],
    )

-- what stands in a block without its padding
core_within : (fronts : ℕ) (controls : List Control) (sdus : List Sdu) (ends : List ℕ) → length ends ≤ 1
    → length (writing (core controls sdus)) ≤ length (writing (ordered fronts controls sdus ends))
core_within fronts controls sdus [] one = elim (core_least controls sdus) [
  | inl none ↦
      let alone : length (writing (core controls sdus)) ≡ 0 = rw (none.0, none.1) refl in omega (arith, alone)
  | inr some ↦
      omega (
        arith,
        ap (λ (l : List MacItem). length (writing l)) some.2,
        ap (λ (l : List MacItem). length (writing (replicate fronts front ++ l))) some.2,
        ap (λ (l : List MacItem). length (writing l)) (no_ends fronts controls sdus),
        ap (length {A = ℕ}) (fronted fronts some.0 some.1),
        length-append (replicate fronts 63) (writing (some.0 ∷ some.1)),
      )
]
core_within fronts controls sdus (n ∷ []) one =
    let own = core controls sdus in
    let fronts_own = replicate fronts front ++ own in
    let same : ordered fronts controls sdus (n ∷ []) ≡ fronts_own ++ padding n ∷ [] =
    ap (λ (l : List MacItem). replicate fronts front ++ l)
    (sym (append_assoc (map element controls) (map sdu_item sdus) (padding n ∷ [])))
    ∙ sym (append_assoc (replicate fronts front) own (padding n ∷ [])) in
    omega (
      arith,
      ap (λ (l : List MacItem). length (writing l)) same,
      ended_length fronts_own n,
      ap (length {A = ℕ}) (flat_map-append inner (replicate fronts front) own),
      ap (length {A = ℕ}) (flat_map-append payload (replicate fronts front) own),
      length-append (flat_map inner (replicate fronts front)) (flat_map inner own),
      length-append (flat_map payload (replicate fronts front)) (flat_map payload own),
      length-append (headers own) (flat_map payload own),
      headers_within own,
    )
core_within fronts controls sdus (n ∷ m ∷ ends) one = absurd (omega arith)

pub within : (items : List MacItem) → IsOrdered items → length (writing (unpadded items)) ≤ length (writing items)
within items o =
    let hold = all_hold o.fronts o.controls o.sdus o.ends in
    let same : core o.controls o.sdus ≡ unpadded items =
    rw (ap controls_in o.order ∙ hold.0, ap sdus_in o.order ∙ hold.1) refl in
    omega (
      arith,
      core_within o.fronts o.controls o.sdus o.ends o.one,
      ap (λ (l : List MacItem). length (writing l)) same,
      ap (λ (l : List MacItem). length (writing l)) o.order,
    )

-- padding in front and at the end
never_both : (fronts : ℕ) (controls : List Control) (sdus : List Sdu) (n size : ℕ)
    → ordered (suc fronts) controls sdus (n ∷ []) ≡ padded (core controls sdus) size → ⊥
never_both fronts controls sdus n size e = elim (core_least controls sdus) [
  | inl none ↦
      let alone : ordered (suc fronts) controls sdus (n ∷ []) ≡ padding (size - 1) ∷ [] =
      e ∙ rw (none.0, none.1) refl in
      cc
  | inr some ↦ elim (cases_lt 2 (size - length (writing (some.0 ∷ some.1)))) [
    | inl more ↦
        let there : ordered (suc fronts) controls sdus (n ∷ [])
        ≡ (some.0 ∷ some.1) ++ padding (size - 1 - full_size (some.0 ∷ some.1)) ∷ [] =
        e ∙ ap (λ (l : List MacItem). padded l size) some.2 ∙ padded_more some.0 some.1 size more in
        let first : front ≡ some.0 = cc in
        true≢false (ap is_front first ∙ some.3)
    | inr few ↦ not_few (suc fronts) controls sdus n size some.0 some.1 some.2 few e
  ]
]

parts_both : (d : Direction) (fronts : ℕ) (controls : List Control) (sdus : List Sdu) (ends octets : List ℕ)
    → fronts ≤ 2 → length ends ≤ 1 → IsBuilder (record { direction = d; controls = controls; sdus = sdus })
    → IsHeader d (ordered fronts controls sdus ends) octets
    → Both (ordered fronts controls sdus ends) (core controls sdus)
parts_both d fronts controls sdus [] octets two one b h = front_both d fronts controls sdus octets two h
parts_both d fronts controls sdus (n ∷ m ∷ ends) octets two one b h = absurd (omega arith)
parts_both d zero controls sdus (n ∷ []) octets two one b h = elim (core_least controls sdus) [
  | inl none ↦
      subst (λ (l : List Control). Both (ordered 0 l sdus (n ∷ [])) (core l sdus)) (sym none.0)
      (subst (λ (l : List Sdu). Both (ordered 0 [] l (n ∷ [])) (core [] l)) (sym none.1) (alone_both n))
  | inr some ↦ ended_both d controls sdus n some.0 some.1 b some.2 some.4
]
parts_both d (suc fronts) controls sdus (n ∷ []) octets two one b h = (
  λ e. absurd (true≢false (sym e ∙ fronts_placed fronts controls sdus n)),
  λ e. absurd (never_both fronts controls sdus n (length (writing (ordered (suc fronts) controls sdus (n ∷ [])))) e),
)

pub placed_both : (d : Direction) (items : List MacItem) (octets : List ℕ) → IsOrdered items
    → IsBuilder (record { direction = d; controls = controls_in items; sdus = sdus_in items })
    → IsHeader d items octets → Both items (unpadded items)
placed_both d items octets o b h =
    let all = ordered o.fronts o.controls o.sdus o.ends in
    let hold = all_hold o.fronts o.controls o.sdus o.ends in
    let cs : controls_in items ≡ o.controls = ap controls_in o.order ∙ hold.0 in
    let ss : sdus_in items ≡ o.sdus = ap sdus_in o.order ∙ hold.1 in
    let own : IsBuilder (record { direction = d; controls = o.controls; sdus = o.sdus }) =
    subst (λ (l : List Sdu). IsBuilder (record { direction = d; controls = o.controls; sdus = l })) ss
    (subst (λ (l : List Control). IsBuilder (record { direction = d; controls = l; sdus = sdus_in items })) cs b) in
    let both : Both all (core o.controls o.sdus) =
    parts_both d o.fronts o.controls o.sdus o.ends octets o.two o.one own
    (subst (λ (l : List MacItem). IsHeader d l octets) o.order h) in
    let same : core o.controls o.sdus ≡ unpadded items = rw (cs, ss) refl in
    subst (λ (l : List MacItem). Both l (unpadded items)) (sym o.order) (subst (Both all) same both)
