-- The PDUs of a channel that a block carries (TS 36.321 5.3.3, 5.4.2).
use Rattle.std.specs.Prelude.{ℕ, ◌==◌, if◌then◌else◌, List, [], ◌∷◌, ◌++◌, Result, Ok, Err}
use Rattle.mac_pdu.specs.Items.{MacItem, front, element, sdu, padding}
use Rattle.mac_pdu.specs.declared.fault.MacRefusal.{MacRefusal}
use Rattle.mac_pdu.specs.declared.item.Direction.{Direction}
use Rattle.mac_pdu.specs.Reading.{reading}

-- ---- the PDUs of a channel that a block carries

abbrev pub pdus_in : ℕ → MacItem → List (List ℕ)
pdus_in l front = []
pdus_in l (element control) = []
pdus_in l (sdu lcid octets) = if lcid == l then octets ∷ [] else []
pdus_in l (padding n) = []

abbrev pub pdus_among : ℕ → List MacItem → List (List ℕ)
pdus_among l [] = []
pdus_among l (i ∷ is) = pdus_in l i ++ pdus_among l is

-- a block that can't be read carries none
abbrev pub pdus_read : ℕ → Result (List MacItem) MacRefusal → List (List ℕ)
pdus_read l (Ok items) = pdus_among l items
pdus_read l (Err refusal) = []

abbrev pub carried : ℕ → Direction → List ℕ → List (List ℕ)
carried l direction block = pdus_read l (reading direction block)
