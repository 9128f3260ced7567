-- The items of a MAC PDU: padding, control elements and SDUs (TS 36.321 6.1.2, 6.1.3).
use Rattle.std.specs.Prelude.{◌≡◌, ℕ, ◌+◌, ◌*◌, ◌/◌, ◌%◌, ◌<◌, ◌≤◌, List, [], ◌∷◌, ◌++◌, length}
use Rattle.std.specs.Prelude.{map, replicate, All, slice_index}
use Rattle.mac_pdu.specs.declared.item.Direction.{Direction}
use Rattle.mac_pdu.specs.declared.item.Direction.TheVariants.{Down, Up}
use Rattle.mac_pdu.specs.declared.item.Bsr.{Bsr}
use Rattle.mac_pdu.specs.declared.item.Bsr.TheVariants as bsr
use Rattle.mac_pdu.specs.declared.item.Control.{Control}
use Rattle.mac_pdu.specs.declared.item.Control.TheVariants as control
use Rattle.mac_pdu.specs.declared.builder.Sdu.{Sdu}

pub data MacItem : Type 0 where
  front : MacItem  -- a padding subheader that others follow
  element : Control → MacItem
  sdu : ℕ → List ℕ → MacItem  -- its LCID and octets
  padding : ℕ → MacItem  -- padding at the end: the octets behind its subheader

-- the LCID of a buffer status report (TS 36.321 table 6.2.1-2)
abbrev pub report_lcid : Bsr → ℕ
report_lcid (bsr.Truncated group level) = 28
report_lcid (bsr.Short group level) = 29
report_lcid (bsr.Long levels) = 30

-- the LCID of a control element (TS 36.321 tables 6.2.1-1 and 6.2.1-2)
abbrev pub control_lcid : Control → ℕ
control_lcid (control.Contention id) = 28
control_lcid (control.Advance value) = 29
control_lcid control.Drx = 30
control_lcid (control.Phr level) = 26
control_lcid (control.Crnti value) = 27
control_lcid (control.Report report) = report_lcid report

-- the fields of a buffer status report are in range
abbrev pub IsReport : Bsr → Type 0
IsReport (bsr.Truncated group level) = (group < 4) × (level < 64)
IsReport (bsr.Short group level) = (group < 4) × (level < 64)
IsReport (bsr.Long levels) = (length levels ≡ 4) × All (λ level. level < 64) levels

-- a control element of the direction, with its fields in range
abbrev pub IsControl : Direction → Control → Type 0
IsControl Down (control.Contention id) = length id ≡ 6
IsControl Down (control.Advance value) = value < 64
IsControl Down control.Drx = Unit {0}
IsControl Up (control.Phr level) = level < 64
IsControl Up (control.Crnti value) = Unit {0}
IsControl Up (control.Report report) = IsReport report
IsControl _ _ = ⊥

-- the octets of a buffer status report (TS 36.321 6.1.3.1)
abbrev pub report_octets : Bsr → List ℕ
report_octets (bsr.Truncated group level) = (group * 64 + level) ∷ []
report_octets (bsr.Short group level) = (group * 64 + level) ∷ []
report_octets (bsr.Long levels) =
    let a = slice_index levels 0 in
    let b = slice_index levels 1 in
    let c = slice_index levels 2 in
    let d = slice_index levels 3 in
    (a * 4 + b / 16) ∷ (b % 16 * 16 + c / 4) ∷ (c % 4 * 64 + d) ∷ []

-- the octets of a control element, its R bits 0 (TS 36.321 6.1.3)
abbrev pub control_octets : Control → List ℕ
control_octets (control.Contention id) = id
control_octets (control.Advance value) = value ∷ []
control_octets control.Drx = []
control_octets (control.Phr level) = level ∷ []
control_octets (control.Crnti value) = (value / 256) ∷ (value % 256) ∷ []
control_octets (control.Report report) = report_octets report

abbrev pub sdu_item : Sdu → MacItem
sdu_item s = sdu s.lcid s.octets

-- the order of items (TS 36.321 6.1.2): at most two paddings, control elements, SDUs, at most one
-- padding
pub record IsOrdered (items : List MacItem) : Type 0 where
  pub fronts : ℕ
  pub controls : List Control
  pub sdus : List Sdu
  pub ends : List ℕ
  pub two : fronts ≤ 2
  pub one : length ends ≤ 1
  pub order : items
      ≡ replicate fronts front ++ (map element controls ++ (map sdu_item sdus ++ map padding ends))
