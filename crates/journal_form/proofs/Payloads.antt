-- The octets behind the subheaders of a block that are canonical are those that are tested so.
use Rattle.std.proofs.Common.{◌≡◌, ℕ, zero, suc, ◌+◌, ◌*◌, ◌<◌, ◌≤◌, ◌==◌, Bool, true, false, ◌&&◌, List}
use Rattle.std.proofs.Common.{[], ◌∷◌, ◌++◌, length, take, Option, Some, None, refl, ap, sym, ◌∙◌}
use Rattle.std.proofs.Common.{arith, append-nil, length-append}
use Rattle.std.specs.Prelude.{nat_lt, nat_le, if◌then◌else◌, slice_index, replicate}
use Rattle.std.specs.List.{flat_map}
use Rattle.std.specs.Str.{bytes_eq}
use Rattle.std.proofs.lemmas.Bool.{and_parts, and_from, ltb-true, lt-ltb, le-leb, eqb-true, true≢false}
use Rattle.std.proofs.lemmas.List.{take_at, drop_at, length-replicate}
use Rattle.std.proofs.lemmas.List.Concat.{flat_map-cons}
use Rattle.std.proofs.lemmas.Slice.Eq.{bytes_eq-Decides}
use Rattle.mac_pdu.specs.declared.item.Direction.{Direction}
use Rattle.mac_pdu.specs.declared.item.Direction.TheVariants.{Down, Up}
use Rattle.mac_pdu.specs.declared.item.Bsr.TheVariants as bsr
use Rattle.mac_pdu.specs.declared.item.Control.{Control}
use Rattle.mac_pdu.specs.declared.item.Control.TheVariants as control
use Rattle.mac_pdu.specs.Items.{MacItem, front, element, sdu, padding, control_octets, IsControl}
use Rattle.mac_pdu.specs.Grammar.{IsInner, IsLast, IsHeader, IsSixBits, IsElement, IsPayload, IsEnd, IsBody}
use Rattle.mac_pdu.specs.Writing.{control_size, payload}
use Rattle.promises.specs.RightForm.{sdus_in}
use Rattle.journal_form.specs.Canonical.{payload_size, are_zero, is_clear_element, is_clear, behind_payload}
use Rattle.journal_form.specs.Canonical.{behind_payloads, are_all}
use Rattle.journal_form.specs.Tests.{have_octets}

-- ---- what may stand in a block

abbrev pub IsRight : Direction → MacItem → Type 0
IsRight direction (element c) = IsControl direction c
IsRight direction (sdu lcid octets) = lcid ≤ 10
IsRight direction front = Unit {0}
IsRight direction (padding n) = Unit {0}

abbrev pub AreRight : Direction → List MacItem → Type 0
AreRight direction [] = Unit {0}
AreRight direction (p ∷ ps) = IsRight direction p × AreRight direction ps

inner_right : (d : Direction) (p : MacItem) (octets : List ℕ) → IsInner d p octets → IsRight d p
inner_right d front octets h = tt
inner_right d (element c) octets h = h.0
inner_right d (sdu lcid payload) octets h = h.1
inner_right d (padding n) octets h = tt

last_right : (d : Direction) (p : MacItem) (octets : List ℕ) → IsLast d p octets → IsRight d p
last_right d front octets h = tt
last_right d (element c) octets h = h.0
last_right d (sdu lcid payload) octets h = h.0
last_right d (padding n) octets h = tt

pub all_right : (d : Direction) (ps : List MacItem) (octets : List ℕ) → IsHeader d ps octets → AreRight d ps
all_right d [] octets h = absurd h
all_right d (p ∷ []) octets h = (last_right d p octets h, tt)
all_right d (p ∷ q ∷ ps) octets h = (inner_right d p h.0 h.3, all_right d (q ∷ ps) h.1 h.4)

-- ---- octets of 0

zero_next : (os : List ℕ) → os ≡ take (length os) (0 ∷ os) → os ≡ replicate (length os) 0
zero_next [] e = refl
zero_next (x ∷ os) e =
    let first : x ≡ 0 = cc in
    let others : os ≡ take (length os) (x ∷ os) = cc in
    let next : os ≡ take (length os) (0 ∷ os) =
    others ∙ ap (λ (o : ℕ). take (length os) (o ∷ os)) first in
    rw first (ap (λ (l : List ℕ). 0 ∷ l) (zero_next os next))

zeros : (os : List ℕ) → are_zero os ≡ true → os ≡ replicate (length os) 0
zeros [] e = refl
zeros (o ∷ os) e =
    let p = and_parts (o == 0) (bytes_eq os (take (length os) (o ∷ os))) e in
    let first : o ≡ 0 = eqb-true o 0 p.0 in
    let others : os ≡ take (length os) (0 ∷ os) =
    (bytes_eq-Decides os (take (length os) (o ∷ os))).0 p.1
    ∙ ap (λ (x : ℕ). take (length os) (x ∷ os)) first in
    rw first (ap (λ (l : List ℕ). 0 ∷ l) (zero_next os others))

same_zero : (n : ℕ) → replicate {A = ℕ} n 0 ≡ take (length (replicate {A = ℕ} n 0)) (0 ∷ replicate n 0)
same_zero zero = refl
same_zero (suc n) = ap (λ (l : List ℕ). 0 ∷ l) (same_zero n)

zeros_back : (n : ℕ) → are_zero (replicate n 0) ≡ true
zeros_back zero = refl
zeros_back (suc n) =
    let os : List ℕ = replicate n 0 in (bytes_eq-Decides os (take (length os) (0 ∷ os))).1 (same_zero n)

-- ---- the octets of an item

element_length : (d : Direction) (c : Control) (octets : List ℕ) → IsControl d c → IsElement c octets
    → length octets ≡ control_size c
element_length Down (control.Contention id) octets h e = ap (length {A = ℕ}) e ∙ h
element_length Up (control.Contention id) octets h e = absurd h
element_length d (control.Advance value) octets h e = ap (length {A = ℕ}) e.2
element_length d control.Drx octets h e = ap (length {A = ℕ}) e
element_length d (control.Phr level) octets h e = ap (length {A = ℕ}) e.2
element_length d (control.Crnti value) octets h e = ap (length {A = ℕ}) e
element_length d (control.Report (bsr.Truncated group level)) octets h e = ap (length {A = ℕ}) e
element_length d (control.Report (bsr.Short group level)) octets h e = ap (length {A = ℕ}) e
element_length d (control.Report (bsr.Long levels)) octets h e = ap (length {A = ℕ}) e

payload_length : (d : Direction) (p : MacItem) (octets : List ℕ) → IsRight d p → IsPayload p octets
    → length octets ≡ payload_size p
payload_length d front octets h e = ap (length {A = ℕ}) e
payload_length d (element c) octets h e = element_length d c octets h e
payload_length d (sdu lcid own) octets h e = ap (length {A = ℕ}) e
payload_length d (padding n) octets h e = e

six_clear : (value : ℕ) (octets : List ℕ) → IsSixBits value octets → nat_lt (slice_index octets 0) 64 ≡ true
    → octets ≡ value ∷ []
six_clear value octets h e =
    let low : 64 * h.0 + value < 64 = ltb-true (64 * h.0 + value) 64 (rw h.2 at e) in
    h.2 ∙ ap (λ (o : ℕ). o ∷ []) (omega (arith, low))

element_clear : (c : Control) (octets : List ℕ) → IsElement c octets → is_clear_element c octets ≡ true
    → octets ≡ control_octets c
element_clear (control.Contention id) octets h e = h
element_clear (control.Advance value) octets h e = six_clear value octets h e
element_clear control.Drx octets h e = h
element_clear (control.Phr level) octets h e = six_clear level octets h e
element_clear (control.Crnti value) octets h e = h
element_clear (control.Report report) octets h e = h

payload_clear : (p : MacItem) (octets : List ℕ) → IsPayload p octets → is_clear p octets ≡ true → octets ≡ payload p
payload_clear front octets h e = h
payload_clear (element c) octets h e = element_clear c octets h e
payload_clear (sdu lcid own) octets h e = h
payload_clear (padding n) octets h e = zeros octets e ∙ ap (λ (m : ℕ). replicate m 0) h

-- and back
element_back : (d : Direction) (c : Control) → IsControl d c → is_clear_element c (control_octets c) ≡ true
element_back d (control.Contention id) h = refl
element_back Down (control.Advance value) h = lt-ltb value 64 h
element_back Up (control.Advance value) h = absurd h
element_back d control.Drx h = refl
element_back Up (control.Phr level) h = lt-ltb level 64 h
element_back Down (control.Phr level) h = absurd h
element_back d (control.Crnti value) h = refl
element_back d (control.Report report) h = refl

element_octets : (c : Control) → IsElement c (control_octets c)
element_octets (control.Contention id) = refl
element_octets (control.Advance value) = (0, omega arith, ap (λ (o : ℕ). o ∷ []) (omega arith))
element_octets control.Drx = refl
element_octets (control.Phr level) = (0, omega arith, ap (λ (o : ℕ). o ∷ []) (omega arith))
element_octets (control.Crnti value) = refl
element_octets (control.Report report) = refl

own_payload : (p : MacItem) → IsPayload p (payload p)
own_payload front = refl
own_payload (element c) = element_octets c
own_payload (sdu lcid own) = refl
own_payload (padding n) = length-replicate n 0

-- an SDU has octets
abbrev has_octets : MacItem → Bool
has_octets (sdu lcid own) = nat_lt 0 (length own)
has_octets front = true
has_octets (element c) = true
has_octets (padding n) = true

payload_back : (d : Direction) (p : MacItem) → IsRight d p → has_octets p ≡ true → is_clear p (payload p) ≡ true
payload_back d front h e = refl
payload_back d (element c) h e = element_back d c h
payload_back d (sdu lcid own) h e = e
payload_back d (padding n) h e = zeros_back n

all_octets : (p : MacItem) (ps : List MacItem) → have_octets (sdus_in (p ∷ ps))
    ≡ (has_octets p && have_octets (sdus_in ps))
all_octets front ps = refl
all_octets (element c) ps = refl
all_octets (sdu lcid own) ps = refl
all_octets (padding n) ps = refl

clear_octets : (p : MacItem) (octets : List ℕ) → is_clear p octets ≡ true → has_octets p ≡ true
clear_octets front octets e = refl
clear_octets (element c) octets e = refl
clear_octets (sdu lcid own) octets e = e
clear_octets (padding n) octets e = refl

-- ---- what stands behind an item

abbrev behind_if : Bool → List ℕ → Option (List ℕ)
behind_if clear rest = if clear then Some rest else None

one_behind : (d : Direction) (p : MacItem) (octets rest : List ℕ) → IsRight d p → IsPayload p octets
    → behind_payload p (Some (octets ++ rest)) ≡ behind_if (is_clear p octets) rest
one_behind d p octets rest h e =
    let n = payload_length d p octets h e in
    let within : nat_le (payload_size p) (length (octets ++ rest)) ≡ true =
    le-leb (payload_size p) (length (octets ++ rest)) (omega (arith, n, length-append octets rest)) in
    rw (within, take_at octets rest (payload_size p) n, drop_at octets rest (payload_size p) n) refl

-- octets that are canonical for items, of which each SDU has some
abbrev pub Clear : List MacItem → List ℕ → Type 0
Clear ps octets = (octets ≡ flat_map payload ps) × (have_octets (sdus_in ps) ≡ true)

pub none_left : (ps : List MacItem) → behind_payloads ps None ≡ None
none_left [] = refl
none_left (p ∷ ps) = none_left ps

none_all : (ps : List MacItem) → are_all (behind_payloads ps None) ≡ true → ⊥
none_all ps e = true≢false (sym e ∙ ap are_all (none_left ps))

all_empty : (os : List ℕ) → are_all (Some os) ≡ true → os ≡ []
all_empty [] e = refl
all_empty (o ∷ os) e = absurd (omega (arith, eqb-true (length (o ∷ os)) 0 e))

one_more : (d : Direction) (p : MacItem) (ps : List MacItem) (octets rest : List ℕ) → IsRight d p → IsPayload p octets
    → are_all (behind_payloads (p ∷ ps) (Some (octets ++ rest))) ≡ true
    → (are_all (behind_payloads ps (Some rest)) ≡ true → Clear ps rest) → Clear (p ∷ ps) (octets ++ rest)
one_more d p ps octets rest right h e next = by (is_clear p octets) refl
  where
    by : (b : Bool) → is_clear p octets ≡ b → Clear (p ∷ ps) (octets ++ rest)
    by b is =
        let one : behind_payload p (Some (octets ++ rest)) ≡ behind_if b rest =
        one_behind d p octets rest right h ∙ ap (λ (c : Bool). behind_if c rest) is in
        let all : are_all (behind_payloads ps (behind_if b rest)) ≡ true =
        ap (λ (r : Option (List ℕ)). are_all (behind_payloads ps r)) (sym one) ∙ e in
        if_clear b is all
      where
        if_clear : (b : Bool) → is_clear p octets ≡ b → are_all (behind_payloads ps (behind_if b rest)) ≡ true
            → Clear (p ∷ ps) (octets ++ rest)
        if_clear false is all = absurd (none_all ps all)
        if_clear true is all =
            let others = next all in (
              ap (λ (x : List ℕ). x ++ rest) (payload_clear p octets h is)
                  ∙ ap (λ (x : List ℕ). payload p ++ x) others.0 ∙ sym (flat_map-cons payload p ps),
              all_octets p ps
                  ∙ and_from (has_octets p) (have_octets (sdus_in ps)) (clear_octets p octets is) others.1,
            )

-- the octets of a last item, and those behind it
ends_so : (p : MacItem) (octets : List ℕ) → IsEnd p octets
    → (first : List ℕ) × (rest : List ℕ) × (octets ≡ first ++ rest) × IsPayload p first
ends_so front octets h = (octets, [], sym (append-nil octets), h)
ends_so (element c) octets h = h
ends_so (sdu lcid own) octets h = (octets, [], sym (append-nil octets), h)
ends_so (padding n) octets h = (octets, [], sym (append-nil octets), h)

pub payloads_found : (d : Direction) (ps : List MacItem) (octets : List ℕ) → AreRight d ps → IsBody ps octets
    → are_all (behind_payloads ps (Some octets)) ≡ true → Clear ps octets
payloads_found d [] octets right h e = absurd h
payloads_found d (p ∷ []) octets right h e =
    let s = ends_so p octets h in
    let c = one_more d p [] s.0 s.1 right.0 s.3
    (ap (λ (x : List ℕ). are_all (behind_payloads (p ∷ []) (Some x))) (sym s.2) ∙ e)
    (λ all. (all_empty s.1 all, refl)) in
    (s.2 ∙ c.0, c.1)
payloads_found d (p ∷ q ∷ ps) octets right h e =
    let c = one_more d p (q ∷ ps) h.0 h.1 right.0 h.3
    (ap (λ (x : List ℕ). are_all (behind_payloads (p ∷ q ∷ ps) (Some x))) (sym h.2) ∙ e)
    (λ all. payloads_found d (q ∷ ps) h.1 right.1 h.4 all) in
    (h.2 ∙ c.0, c.1)

pub payloads_back : (d : Direction) (ps : List MacItem) → AreRight d ps → have_octets (sdus_in ps) ≡ true
    → are_all (behind_payloads ps (Some (flat_map payload ps))) ≡ true
payloads_back d [] right e = refl
payloads_back d (p ∷ ps) right e =
    let own = and_parts (has_octets p) (have_octets (sdus_in ps)) (sym (all_octets p ps) ∙ e) in
    let one : behind_payload p (Some (payload p ++ flat_map payload ps)) ≡ Some (flat_map payload ps) =
    one_behind d p (payload p) (flat_map payload ps) right.0 (own_payload p)
    ∙ ap (λ (c : Bool). behind_if c (flat_map payload ps)) (payload_back d p right.0 own.0) in
    ap (λ (x : List ℕ). are_all (behind_payloads (p ∷ ps) (Some x))) (flat_map-cons payload p ps)
    ∙ ap (λ (r : Option (List ℕ)). are_all (behind_payloads ps r)) one ∙ payloads_back d ps right.1 own.1
