-- A block is canonical exactly where it is tested so.
use Rattle.std.proofs.Common.{◌≡◌, ℕ, ◌-◌, ◌<◌, ◌≤◌, Bool, true, false, ◌&&◌, inl, inr, List, [], ◌∷◌, ◌++◌}
use Rattle.std.proofs.Common.{length, Option, Some, None, Result, Ok, All, refl, ap, sym, ◌∙◌, arith, append_assoc}
use Rattle.std.specs.Prelude.{nat_lt}
use Rattle.std.specs.List.{flat_map}
use Rattle.std.specs.Str.{bytes_eq}
use Rattle.std.proofs.lemmas.Bool.{and_parts, and_from, ltb-true, cases_lt, true≢false}
use Rattle.std.proofs.lemmas.List.Elements.{All-nil, All-cons}
use Rattle.std.proofs.lemmas.Slice.Eq.{bytes_eq-Decides}
use Rattle.l2_bits.specs.declared.limits.TheConstants.{OCTETS_LIMIT}
use Rattle.mac_pdu.specs.declared.item.Direction.{Direction}
use Rattle.mac_pdu.specs.declared.fault.MacRefusal.{MacRefusal}
use Rattle.mac_pdu.specs.Items.{MacItem, front, element, sdu, padding, IsControl}
use Rattle.mac_pdu.specs.Grammar.{MacPdu}
use Rattle.mac_pdu.specs.Reading.{reading}
use Rattle.mac_pdu.specs.Writing.{Parts, IsBuilder, IsSdu, writing, canonical, padded, headers, inner, payload}
use Rattle.mac_pdu.proofs.Canonical.{canonical_fits, one_list}
use Rattle.promises.specs.RightForm.{controls_in, sdus_in, unpadded}
use Rattle.journal_form.specs.Canonical.{is_short, are_short, behind_subheaders, behind_payloads, are_all, are_placed}
use Rattle.journal_form.specs.Tests.{have_octets, is_canonical, is_canonical_by}
use Rattle.journal_form.proofs.Lists.{agree}
use Rattle.journal_form.proofs.Subheaders.{subheaders_found, subheaders_back}
use Rattle.journal_form.proofs.Payloads.{AreRight, all_right, payloads_found, payloads_back}
use Rattle.journal_form.proofs.Placed.{placed_both, within}

-- ---- a builder could hold what is read

all_controls : (d : Direction) (items : List MacItem) → AreRight d items → All (IsControl d) (controls_in items)
all_controls d [] h = All-nil (IsControl d)
all_controls d (element c ∷ items) h =
    All-cons (IsControl d) c (controls_in items) h.0 (all_controls d items h.1)
all_controls d (front ∷ items) h = all_controls d items h.1
all_controls d (sdu lcid octets ∷ items) h = all_controls d items h.1
all_controls d (padding n ∷ items) h = all_controls d items h.1

all_sdus : (d : Direction) (items : List MacItem) → AreRight d items → are_short items ≡ true
    → have_octets (sdus_in items) ≡ true → All IsSdu (sdus_in items)
all_sdus d [] h e f = All-nil IsSdu
all_sdus d (sdu lcid octets ∷ items) h e f =
    let short = and_parts (is_short (sdu lcid octets)) (are_short items) e in
    let some = and_parts (nat_lt 0 (length octets)) (have_octets (sdus_in items)) f in
    let one : IsSdu (record { lcid = lcid; octets = octets }) = record {
      lcid = h.0;
      octets = ltb-true 0 (length octets) some.0;
      short = ltb-true (length octets) 32768 short.0;
    } in
    All-cons IsSdu (record { lcid = lcid; octets = octets }) (sdus_in items) one
    (all_sdus d items h.1 short.1 some.1)
all_sdus d (front ∷ items) h e f = all_sdus d items h.1 e f
all_sdus d (element c ∷ items) h e f = all_sdus d items h.1 e f
all_sdus d (padding n ∷ items) h e f = all_sdus d items h.1 e f

abbrev parts_in : Direction → List MacItem → Parts
parts_in d items = record { direction = d; controls = controls_in items; sdus = sdus_in items }

holds : (d : Direction) (items : List MacItem) → AreRight d items → are_short items ≡ true
    → have_octets (sdus_in items) ≡ true → length (writing (unpadded items)) < OCTETS_LIMIT
    → IsBuilder (parts_in d items)
holds d items h e f short =
    record { controls = all_controls d items h; sdus = all_sdus d items h e f; short = short }

-- ---- room

no_spare : (items : List MacItem) (size : ℕ) → size < length (writing items) → padded items size ≡ items
no_spare [] size h = absurd (omega (arith, h))
no_spare (p ∷ ps) size h =
    let none : size - length (writing (p ∷ ps)) ≡ 0 = omega (arith, h) in rw none refl

room : (items : List MacItem) (octets : List ℕ) → octets ≡ canonical items (length octets)
    → length (writing items) ≤ length octets
room items octets e =
    elim (cases_lt (length octets) (length (writing items))) as (λ w. length (writing items) ≤ length octets) [
      | inl h ↦
          let same : octets ≡ writing items = e ∙ ap writing (no_spare items (length octets) h) in
          let long : length octets ≡ length (writing items) = ap (length {A = ℕ}) same in
          omega (arith, long, h)
      | inr h ↦ h
    ]

inner_some : (p : MacItem) (more : List ℕ) → inner p ++ more ≡ [] → ⊥
inner_some front more e = cc
inner_some (element c) more e = cc
inner_some (sdu lcid octets) more e = cc
inner_some (padding n) more e = cc

headers_some : (p : MacItem) (ps : List MacItem) (more : List ℕ) → headers (p ∷ ps) ++ more ≡ [] → ⊥
headers_some p [] more e = cc
headers_some p (q ∷ ps) more e =
    inner_some p (headers (q ∷ ps) ++ more) (sym (append_assoc (inner p) (headers (q ∷ ps)) more) ∙ e)

writing_some : (items : List MacItem) → canonical items 0 ≡ [] → ⊥
writing_some [] e = cc
writing_some (p ∷ ps) e =
    let none : 0 - length (writing (p ∷ ps)) ≡ 0 = omega arith in
    let same : canonical (p ∷ ps) 0 ≡ writing (p ∷ ps) = rw none refl in
    headers_some p ps _ (sym same ∙ e)

some_block : (items : List MacItem) (octets : List ℕ) → octets ≡ canonical items (length octets) → 0 < length octets
some_block items [] e = absurd (writing_some items (sym e))
some_block items (x ∷ octets) e = omega arith

-- ---- the test

abbrev pub passes : List MacItem → Option (List ℕ) → Bool
passes items None = false
passes items (Some body) = are_placed false 0 items && are_all (behind_payloads items (Some body))

-- a block that is read
record IsRead (d : Direction) (items : List MacItem) (octets : List ℕ) : Type 0 where
  short : length octets < OCTETS_LIMIT
  pdu : MacPdu d items octets
  read : reading d octets ≡ Ok items
  lengths : are_short items ≡ true

abbrev IsSame : List MacItem → List ℕ → Type 0
IsSame items octets = (have_octets (sdus_in items) ≡ true) × (canonical (unpadded items) (length octets) ≡ octets)

found_same : (d : Direction) (items : List MacItem) (octets : List ℕ) (found : Option (List ℕ)) → IsRead d items octets
    → behind_subheaders items (Some octets) ≡ found → passes items found ≡ true → IsSame items octets
found_same d items octets None h f e = absurd (true≢false (sym e))
found_same d items octets (Some body) h f e =
    let pdu = h.pdu in
    let p = and_parts (are_placed false 0 items) (are_all (behind_payloads items (Some body))) e in
    let heads = subheaders_found d items pdu.header pdu.body body pdu.subheaders
    (ap (λ (x : List ℕ). behind_subheaders items (Some x)) (sym pdu.block) ∙ f) in
    let right = all_right d items pdu.header pdu.subheaders in
    let clear = payloads_found d items pdu.body right pdu.payloads
    (ap (λ (x : List ℕ). are_all (behind_payloads items (Some x))) (sym heads.1) ∙ p.1) in
    let is : octets ≡ writing items = pdu.block ∙ rw (heads.0, clear.0) refl in
    let size : length octets ≡ length (writing items) = ap (length {A = ℕ}) is in
    let b = holds d items right h.lengths clear.1 (omega (arith, h.short, size, within items pdu.ordered)) in
    let full = (placed_both d items pdu.header pdu.ordered b pdu.subheaders).0 p.0 in
    (clear.1, ap (canonical (unpadded items)) size ∙ ap writing (sym full) ∙ sym is)

same_items : (items others : List MacItem) (r : Result (List MacItem) MacRefusal) → r ≡ Ok items → r ≡ Ok others
    → items ≡ others
same_items items others r e f = cc

same_found : (d : Direction) (items : List MacItem) (octets : List ℕ) → IsRead d items octets → IsSame items octets
    → passes items (behind_subheaders items (Some octets)) ≡ true
same_found d items octets h s =
    let pdu = h.pdu in
    let own = unpadded items in
    let right = all_right d items pdu.header pdu.subheaders in
    let fits = room own octets (sym s.1) in
    let b = holds d items right h.lengths s.0 (omega (arith, h.short, fits)) in
    let c = canonical_fits (parts_in d items) (length octets)
    (record { held = b; room = fits; some = omega (arith, some_block own octets (sym s.1)) }) in
    let full : items ≡ padded own (length octets) =
    same_items items (padded own (length octets)) (reading d octets) h.read (ap (reading d) (sym s.1) ∙ c.again) in
    let is : octets ≡ writing items = sym s.1 ∙ ap writing (sym full) in
    let body = flat_map payload items in
    let heads : behind_subheaders items (Some octets) ≡ Some body =
    ap (λ (x : List ℕ). behind_subheaders items (Some x)) is
    ∙ subheaders_back d items pdu.header body pdu.subheaders in
    let placed = (placed_both d items pdu.header pdu.ordered b pdu.subheaders).1
    (full ∙ ap (λ (x : List ℕ). padded own (length x)) is) in
    ap (passes items) heads
    ∙ and_from (are_placed false 0 items) (are_all (behind_payloads items (Some body))) placed
    (payloads_back d items right s.0)

exact : (d : Direction) (items : List MacItem) (octets : List ℕ) → IsRead d items octets
    → passes items (behind_subheaders items (Some octets)) ≡ is_canonical_by octets (Ok items)
exact d items octets h =
    let again = canonical (unpadded items) (length octets) in
    let test = passes items (behind_subheaders items (Some octets)) in
    agree test (is_canonical_by octets (Ok items)) (test ≡ true) (IsSame items octets) (λ e. e, λ e. e) (
      λ e.
          let p = and_parts (have_octets (sdus_in items)) (bytes_eq again octets) e in
          (p.0, (bytes_eq-Decides again octets).0 p.1),
      λ s. and_from (have_octets (sdus_in items)) (bytes_eq again octets) s.0 ((bytes_eq-Decides again octets).1 s.1),
    )
    (λ e. found_same d items octets (behind_subheaders items (Some octets)) h refl e)
    (λ s. same_found d items octets h s)

-- as the test is run: the block is read twice
pub tested : (d : Direction) (items others : List MacItem) (octets : List ℕ) (found : Option (List ℕ)) (test : Bool)
    → length octets < OCTETS_LIMIT → MacPdu d items octets → Ok items ≡ reading d octets → MacPdu d others octets
    → are_short items ≡ true → found ≡ behind_subheaders items (Some octets) → test ≡ passes others found
    → test ≡ is_canonical d octets
tested d items others octets found test short pdu read again lengths is e =
    e ∙ ap (λ (l : List MacItem). passes l found) (one_list d others items octets again pdu) ∙ ap (passes items) is
    ∙ exact d items octets (record { short = short; pdu = pdu; read = sym read; lengths = lengths })
    ∙ ap (is_canonical_by octets) read
