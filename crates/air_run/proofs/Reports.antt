-- The fields of a report that is read from an uplink block.
use Rattle.std.proofs.Common.{List, [], ◌∷◌}
use Rattle.std.specs.Prelude.{ℕ, IfSome}
use Rattle.mac_pdu.specs.Grammar.{MacPdu, IsHeader, IsInner, IsLast}
use Rattle.mac_pdu.specs.Items.{MacItem, front, element, sdu, padding, IsControl, IsReport}
use Rattle.mac_pdu.specs.declared.item.Control.{Control}
use Rattle.mac_pdu.specs.declared.item.Control.TheVariants.{Contention, Advance, Drx, Phr, Crnti, Report}
use Rattle.mac_pdu.specs.declared.item.Direction.TheVariants.{Up}
use Rattle.air_run.specs.Buffers.{report_of_items}

by-control : (c : Control) (more : List MacItem) → IsControl Up c → IfSome (report_of_items more) IsReport
    → IfSome (report_of_items (element c ∷ more)) IsReport
by-control (Report report) more fields later = fields
by-control (Phr level) more fields later = later
by-control (Crnti value) more fields later = later
by-control (Contention id) more fields later = later
by-control (Advance value) more fields later = later
by-control Drx more fields later = later

by-inner : (p : MacItem) (more : List MacItem) (octets : List ℕ) → IsInner Up p octets
    → IfSome (report_of_items more) IsReport → IfSome (report_of_items (p ∷ more)) IsReport
by-inner (element c) more octets h later = by-control c more h.0 later
by-inner front more octets h later = later
by-inner (sdu lcid payload) more octets h later = later
by-inner (padding n) more octets h later = later

by-last : (p : MacItem) (octets : List ℕ) → IsLast Up p octets → IfSome (report_of_items (p ∷ [])) IsReport
by-last (element c) octets h = by-control c [] h.0 tt
by-last front octets h = tt
by-last (sdu lcid payload) octets h = tt
by-last (padding n) octets h = tt

in-header : (items : List MacItem) (header : List ℕ) → IsHeader Up items header
    → IfSome (report_of_items items) IsReport
in-header [] header h = tt
in-header (p ∷ []) header h = by-last p header h
in-header (p ∷ q ∷ ps) header h =
    by-inner p (q ∷ ps) h.0 h.3 (in-header (q ∷ ps) h.1 h.4)

pub report_fields : (items : List MacItem) (octets : List ℕ) → MacPdu Up items octets
    → IfSome (report_of_items items) IsReport
report_fields items octets h = in-header items h.header h.subheaders
