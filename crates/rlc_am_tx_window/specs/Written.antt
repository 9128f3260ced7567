-- The octets of a PDU that is sent, or of a segment of it (TS 36.322 6.2.1.4, 6.2.1.5).
use Rattle.std.specs.Prelude.{ℕ, ◌%◌, Bool, ◌==◌, if◌then◌else◌, List, length, Some, None}
use Rattle.std.specs.Prelude.{slice_range}
use Rattle.rlc_pdu.specs.Writing.{amd_written}
use Rattle.rlc_queue.specs.NewPdu.{framing}
use Rattle.rlc_am_tx_window.specs.Cut.{is_cut}
use Rattle.rlc_am_tx_window.specs.Sent.{Sent, Stretch}
use Rattle.rlc_pdu.specs.declared.constants.TheConstants.{AM_MODULUS}

-- an SDU begins at a place of the field, and one ends there
abbrev pub begins_at : Sent → ℕ → Bool
begins_at h at = if at == 0 then h.begins else is_cut at h.lens

abbrev pub ends_at : Sent → ℕ → Bool
ends_at h at = if at == length h.field then h.ends else is_cut at h.lens

-- the whole PDU of a number
abbrev pub whole_octets : Sent → ℕ → Bool → List ℕ
whole_octets h number poll =
    amd_written (number % AM_MODULUS) poll (framing h.begins h.ends) None h.lens h.field

-- a segment of it
abbrev pub part_octets : Sent → ℕ → Bool → Stretch → List ℕ
part_octets h number poll s =
    amd_written (number % AM_MODULUS) poll (framing (begins_at h s.from) (ends_at h s.to))
    (Some (record { last = s.to == length h.field; so = s.from }))
    s.lens (slice_range h.field s.from s.to)
