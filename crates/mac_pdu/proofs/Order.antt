-- The order of items: as one rule, and as no fault at any of them.
use Rattle.std.proofs.Common.{◌≡◌, ℕ, zero, suc, ◌≤◌, Bool, true, false, List, [], ◌∷◌, ◌++◌, length, map, None, refl}
use Rattle.std.proofs.Common.{sym, ap, ◌∙◌, arith, subst}
use Rattle.std.specs.Prelude.{replicate}
use Rattle.mac_pdu.specs.declared.item.Control.{Control}
use Rattle.mac_pdu.specs.declared.builder.Sdu.{Sdu}
use Rattle.mac_pdu.specs.declared.subheader.Kind.TheVariants as kind
use Rattle.mac_pdu.specs.declared.subheader.Stage.{Stage}
use Rattle.mac_pdu.specs.declared.subheader.Stage.TheVariants as stage
use Rattle.mac_pdu.specs.Items.{MacItem, front, element, sdu, padding, sdu_item, IsOrdered}
use Rattle.mac_pdu.specs.Subheaders.{fault_of, after, takes_front}
use Rattle.mac_pdu.proofs.ItemKinds.{item_kind, NoFault, IsPlaced}

-- ordered items have no fault

no_fault_cons : (st : Stage) (p : MacItem) (ps : List MacItem) → fault_of st (item_kind p) true ≡ None
    → fault_of st (item_kind p) false ≡ None
    → NoFault (after st (item_kind p)) ps → NoFault st (p ∷ ps)
no_fault_cons st p [] inside last rest = last
no_fault_cons st p (q ∷ ps) inside last rest = (inside, rest)

sdu_allowed : (st : Stage) (more : Bool) → fault_of st kind.Sdu more ≡ None
unfolding fault_of
sdu_allowed st more = refl

last_padding_allowed : (st : Stage) → fault_of st kind.Padding false ≡ None
unfolding fault_of
last_padding_allowed st = refl

ends_allowed : (st : Stage) (ends : List ℕ) → length ends ≤ 1 → NoFault st (map (λ n. padding n) ends)
ends_allowed st [] h = tt
ends_allowed st (n ∷ []) h = last_padding_allowed st
ends_allowed st (n ∷ m ∷ ends) h = absurd (omega arith)

sdus_allowed : (st : Stage) (sdus : List Sdu) (ends : List ℕ) → length ends ≤ 1
    → NoFault st (map sdu_item sdus ++ map (λ n. padding n) ends)
sdus_allowed st [] ends h = ends_allowed st ends h
sdus_allowed st (s ∷ sdus) ends h =
    no_fault_cons st (sdu_item s) _ (sdu_allowed st true) (sdu_allowed st false)
    (sdus_allowed (after st kind.Sdu) sdus ends h)

-- what follows control elements
Rest : List Control → List Sdu → List ℕ → List MacItem
Rest controls sdus ends = map (λ c. element c) controls ++ (map sdu_item sdus ++ map (λ n. padding n) ends)

controls_allowed : (controls : List Control) (sdus : List Sdu) (ends : List ℕ) → length ends ≤ 1
    → NoFault stage.Controls (Rest controls sdus ends)
unfolding Rest fault_of
controls_allowed [] sdus ends h = sdus_allowed stage.Controls sdus ends h
controls_allowed (c ∷ controls) sdus ends h =
    no_fault_cons stage.Controls (element c) (Rest controls sdus ends) refl refl
    (controls_allowed controls sdus ends h)

padded_allowed : (controls : List Control) (sdus : List Sdu) (ends : List ℕ) → length ends ≤ 1
    → NoFault stage.Padded (Rest controls sdus ends)
unfolding Rest fault_of
padded_allowed [] sdus ends h = sdus_allowed stage.Padded sdus ends h
padded_allowed (c ∷ controls) sdus ends h =
    no_fault_cons stage.Padded (element c) (Rest controls sdus ends) refl refl (controls_allowed controls sdus ends h)

start_allowed : (controls : List Control) (sdus : List Sdu) (ends : List ℕ) → length ends ≤ 1
    → NoFault stage.Start (Rest controls sdus ends)
unfolding Rest fault_of
start_allowed [] sdus ends h = sdus_allowed stage.Start sdus ends h
start_allowed (c ∷ controls) sdus ends h =
    no_fault_cons stage.Start (element c) (Rest controls sdus ends) refl refl (controls_allowed controls sdus ends h)

fronts_allowed : (n : ℕ) (controls : List Control) (sdus : List Sdu) (ends : List ℕ) → n ≤ 2 → length ends ≤ 1
    → NoFault stage.Start (replicate n front ++ Rest controls sdus ends)
unfolding Rest fault_of
fronts_allowed zero controls sdus ends two one = start_allowed controls sdus ends one
fronts_allowed (suc zero) controls sdus ends two one =
    no_fault_cons stage.Start front (Rest controls sdus ends) refl refl (padded_allowed controls sdus ends one)
fronts_allowed (suc (suc zero)) controls sdus ends two one =
    no_fault_cons stage.Start front (front ∷ Rest controls sdus ends) refl refl
    (no_fault_cons stage.Padded front (Rest controls sdus ends) refl refl
    (controls_allowed controls sdus ends one))
fronts_allowed (suc (suc (suc n))) controls sdus ends two one = absurd (omega arith)

pub ordered_allowed : (ps : List MacItem) → IsOrdered ps → NoFault stage.Start ps
unfolding Rest
ordered_allowed ps h =
    subst (NoFault stage.Start) (sym h.order) (fronts_allowed h.fronts h.controls h.sdus h.ends h.two h.one)

-- items without a fault are ordered

later : (st : Stage) (p : MacItem) (ps : List MacItem) → NoFault st (p ∷ ps) → NoFault (after st (item_kind p)) ps
later st p [] h = tt
later st p (q ∷ ps) h = h.1

placed_sdu : (lcid : ℕ) (octets : List ℕ) (ps : List MacItem) → IsPlaced (sdu lcid octets ∷ ps) → IsPlaced ps
placed_sdu lcid octets [] h = tt
placed_sdu lcid octets (q ∷ ps) h = h

placed_element : (c : Control) (ps : List MacItem) → IsPlaced (element c ∷ ps) → IsPlaced ps
placed_element c [] h = tt
placed_element c (q ∷ ps) h = h

AreSdus : List MacItem → Type 0
AreSdus ps = (sdus : List Sdu) × (ends : List ℕ) × (length ends ≤ 1)
    × (ps ≡ map sdu_item sdus ++ map (λ n. padding n) ends)

no_control : (st : Stage) (c : Control) (more : Bool) → st ≡ stage.Sdus
    → fault_of st (item_kind (element c)) more ≡ None → ⊥
unfolding fault_of
no_control stage.Sdus c more e h = cc
no_control stage.Start c more e h = cc
no_control stage.Padded c more e h = cc
no_control stage.Controls c more e h = cc

no_front : (st : Stage) → takes_front st ≡ false → fault_of st kind.Padding true ≡ None → ⊥
unfolding fault_of
no_front stage.Start e h = cc
no_front stage.Padded e h = cc
no_front stage.Controls e h = cc
no_front stage.Sdus e h = cc

are_sdus : (ps : List MacItem) → NoFault stage.Sdus ps → IsPlaced ps → AreSdus ps
unfolding AreSdus
are_sdus [] h placed = ([], [], omega arith, refl)
are_sdus (sdu lcid octets ∷ ps) h placed =
    let r = are_sdus ps (later stage.Sdus (sdu lcid octets) ps h) (placed_sdu lcid octets ps placed) in
    let one : Sdu = record { lcid = lcid; octets = octets } in
    (one ∷ r.0, r.1, r.2, ap (λ (xs : List MacItem). sdu lcid octets ∷ xs) r.3)
are_sdus (padding n ∷ []) h placed = ([], n ∷ [], omega arith, refl)
are_sdus (padding n ∷ q ∷ ps) h placed = absurd placed
are_sdus (front ∷ []) h placed = absurd placed
are_sdus (front ∷ q ∷ ps) h placed = absurd (no_front stage.Sdus refl h.0)
are_sdus (element c ∷ []) h placed = absurd (no_control stage.Sdus c false refl h)
are_sdus (element c ∷ q ∷ ps) h placed = absurd (no_control stage.Sdus c true refl h.0)

AreControls : List MacItem → Type 0
AreControls ps = (controls : List Control) × (sdus : List Sdu) × (ends : List ℕ) × (length ends ≤ 1)
    × (ps ≡ Rest controls sdus ends)

from_sdu : (lcid : ℕ) (octets : List ℕ) (ps : List MacItem) → NoFault stage.Sdus ps → IsPlaced (sdu lcid octets ∷ ps)
    → AreControls (sdu lcid octets ∷ ps)
unfolding AreControls AreSdus Rest
from_sdu lcid octets ps h placed =
    let r = are_sdus ps h (placed_sdu lcid octets ps placed) in
    let one : Sdu = record { lcid = lcid; octets = octets } in
    ([], one ∷ r.0, r.1, r.2, ap (λ (xs : List MacItem). sdu lcid octets ∷ xs) r.3)

are_controls : (ps : List MacItem) → NoFault stage.Controls ps → IsPlaced ps → AreControls ps
unfolding AreControls Rest
are_controls [] h placed = ([], [], [], omega arith, refl)
are_controls (sdu lcid octets ∷ ps) h placed =
    from_sdu lcid octets ps (later stage.Controls (sdu lcid octets) ps h) placed
are_controls (padding n ∷ []) h placed = ([], [], n ∷ [], omega arith, refl)
are_controls (padding n ∷ q ∷ ps) h placed = absurd placed
are_controls (front ∷ []) h placed = absurd placed
are_controls (front ∷ q ∷ ps) h placed = absurd (no_front stage.Controls refl h.0)
are_controls (element c ∷ ps) h placed =
    let r = are_controls ps (later stage.Controls (element c) ps h) (placed_element c ps placed) in
    (c ∷ r.0, r.1, r.2, r.3, ap (λ (xs : List MacItem). element c ∷ xs) r.4)

from_element : (c : Control) (ps : List MacItem) → NoFault stage.Controls ps → IsPlaced (element c ∷ ps)
    → AreControls (element c ∷ ps)
unfolding AreControls Rest
from_element c ps h placed =
    let r = are_controls ps h (placed_element c ps placed) in
    (c ∷ r.0, r.1, r.2, r.3, ap (λ (xs : List MacItem). element c ∷ xs) r.4)

-- behind so many paddings
ordered_from : (n : ℕ) (rest ps : List MacItem) → n ≤ 2 → AreControls rest → ps ≡ replicate n front ++ rest
    → IsOrdered ps
unfolding AreControls Rest
ordered_from n rest ps two r e = record {
  fronts = n;
  controls = r.0;
  sdus = r.1;
  ends = r.2;
  two = two;
  one = r.3;
  order = e ∙ ap (λ (xs : List MacItem). replicate n front ++ xs) r.4;
}

from_padded : (ps : List MacItem) → NoFault stage.Padded ps → IsPlaced ps → IsOrdered (front ∷ ps)
unfolding AreControls Rest
from_padded [] h placed = record {
  fronts = 1;
  controls = [];
  sdus = [];
  ends = [];
  two = omega arith;
  one = omega arith;
  order = refl;
}
from_padded (sdu lcid octets ∷ ps) h placed =
    ordered_from 1 _ _ (omega arith) (from_sdu lcid octets ps (later stage.Padded (sdu lcid octets) ps h) placed) refl
from_padded (padding n ∷ []) h placed =
    record { fronts = 1; controls = []; sdus = []; ends = n ∷ []; two = omega arith; one = omega arith; order = refl }
from_padded (padding n ∷ q ∷ ps) h placed = absurd placed
from_padded (front ∷ []) h placed = absurd placed
from_padded (front ∷ q ∷ ps) h placed = ordered_from 2 (q ∷ ps) _ (omega arith) (are_controls (q ∷ ps) h.1 placed) refl
from_padded (element c ∷ ps) h placed =
    ordered_from 1 _ _ (omega arith) (from_element c ps (later stage.Padded (element c) ps h) placed) refl

pub allowed_ordered : (ps : List MacItem) → NoFault stage.Start ps → IsPlaced ps → IsOrdered ps
unfolding AreControls Rest
allowed_ordered [] h placed = record {
  fronts = 0;
  controls = [];
  sdus = [];
  ends = [];
  two = omega arith;
  one = omega arith;
  order = refl;
}
allowed_ordered (sdu lcid octets ∷ ps) h placed =
    ordered_from 0 _ _ (omega arith) (from_sdu lcid octets ps (later stage.Start (sdu lcid octets) ps h) placed) refl
allowed_ordered (padding n ∷ []) h placed =
    record { fronts = 0; controls = []; sdus = []; ends = n ∷ []; two = omega arith; one = omega arith; order = refl }
allowed_ordered (padding n ∷ q ∷ ps) h placed = absurd placed
allowed_ordered (front ∷ []) h placed = absurd placed
allowed_ordered (front ∷ q ∷ ps) h placed = from_padded (q ∷ ps) h.1 placed
allowed_ordered (element c ∷ ps) h placed =
    ordered_from 0 _ _ (omega arith) (from_element c ps (later stage.Start (element c) ps h) placed) refl
