-- The kinds of items, and the places where they may stand.
use Rattle.std.proofs.Common.{◌≡◌, ◌≤◌, ℕ, true, false, List, [], ◌∷◌, None, refl, arith, ◌<◌}
use Rattle.std.proofs.lemmas.Bool.{le-leb}
use Rattle.mac_pdu.specs.declared.item.Direction.{Direction}
use Rattle.mac_pdu.specs.declared.item.Direction.TheVariants.{Down, Up}
use Rattle.mac_pdu.specs.declared.item.Bsr.{Bsr}
use Rattle.mac_pdu.specs.declared.item.Bsr.TheVariants as bsr
use Rattle.mac_pdu.specs.declared.item.Control.{Control}
use Rattle.mac_pdu.specs.declared.item.Control.TheVariants as control
use Rattle.mac_pdu.specs.declared.subheader.Element.{Element}
use Rattle.mac_pdu.specs.declared.subheader.Element.TheVariants as elements
use Rattle.mac_pdu.specs.declared.subheader.Kind.{Kind}
use Rattle.mac_pdu.specs.declared.subheader.Kind.TheVariants as kind
use Rattle.mac_pdu.specs.declared.subheader.Stage.{Stage}
use Rattle.mac_pdu.specs.Items.{MacItem, front, element, sdu, padding, control_lcid, IsControl}
use Rattle.mac_pdu.specs.Subheaders.{kind_of, fault_of, after}

abbrev pub report_kind : Bsr → Element
report_kind (bsr.Truncated group level) = elements.Truncated
report_kind (bsr.Short group level) = elements.Short
report_kind (bsr.Long levels) = elements.Long

abbrev pub element_of : Control → Element
element_of (control.Contention id) = elements.Contention
element_of (control.Advance value) = elements.Advance
element_of control.Drx = elements.Drx
element_of (control.Phr level) = elements.Phr
element_of (control.Crnti value) = elements.Crnti
element_of (control.Report report) = report_kind report

abbrev pub item_kind : MacItem → Kind
item_kind front = kind.Padding
item_kind (element c) = kind.Control (element_of c)
item_kind (sdu lcid octets) = kind.Sdu
item_kind (padding n) = kind.Padding

-- items without a fault behind what came before
abbrev pub NoFault : Stage → List MacItem → Type 0
NoFault st [] = Unit {0}
NoFault st (p ∷ []) = fault_of st (item_kind p) false ≡ None
NoFault st (p ∷ q ∷ ps) = (fault_of st (item_kind p) true ≡ None) × NoFault (after st (item_kind p)) (q ∷ ps)

-- padding stands last, and padding that others follow doesn't
abbrev pub IsPlaced : List MacItem → Type 0
IsPlaced [] = Unit {0}
IsPlaced (front ∷ []) = ⊥
IsPlaced (element c ∷ []) = Unit {0}
IsPlaced (sdu lcid octets ∷ []) = Unit {0}
IsPlaced (padding n ∷ []) = Unit {0}
IsPlaced (padding n ∷ q ∷ ps) = ⊥
IsPlaced (front ∷ q ∷ ps) = IsPlaced (q ∷ ps)
IsPlaced (element c ∷ q ∷ ps) = IsPlaced (q ∷ ps)
IsPlaced (sdu lcid octets ∷ q ∷ ps) = IsPlaced (q ∷ ps)

-- the kinds of the LCIDs
pub control_is : (d : Direction) (c : Control) → IsControl d c
    → kind_of d (control_lcid c) ≡ kind.Control (element_of c)
unfolding kind_of
control_is Down (control.Contention id) h = refl
control_is Down (control.Advance value) h = refl
control_is Down control.Drx h = refl
control_is Down (control.Phr level) h = absurd h
control_is Down (control.Crnti value) h = absurd h
control_is Down (control.Report report) h = absurd h
control_is Up (control.Contention id) h = absurd h
control_is Up (control.Advance value) h = absurd h
control_is Up control.Drx h = absurd h
control_is Up (control.Phr level) h = refl
control_is Up (control.Crnti value) h = refl
control_is Up (control.Report (bsr.Truncated group level)) h = refl
control_is Up (control.Report (bsr.Short group level)) h = refl
control_is Up (control.Report (bsr.Long levels)) h = refl

pub sdu_is : (d : Direction) (lcid : ℕ) → lcid ≤ 10 → kind_of d lcid ≡ kind.Sdu
unfolding kind_of
sdu_is d lcid h = rw (le-leb lcid 10 h) refl

pub padding_is : (d : Direction) → kind_of d 31 ≡ kind.Padding
unfolding kind_of
padding_is d = refl

pub lcid_lt : (c : Control) → control_lcid c < 32
lcid_lt (control.Contention id) = omega arith
lcid_lt (control.Advance value) = omega arith
lcid_lt control.Drx = omega arith
lcid_lt (control.Phr level) = omega arith
lcid_lt (control.Crnti value) = omega arith
lcid_lt (control.Report (bsr.Truncated group level)) = omega arith
lcid_lt (control.Report (bsr.Short group level)) = omega arith
lcid_lt (control.Report (bsr.Long levels)) = omega arith
