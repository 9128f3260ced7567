-- A STATUS among some PDUs, one behind the other.
use Rattle.std.proofs.Common.{◌≡◌, ℕ, ◌+◌, ◌≤◌, false, ◌||◌, List, drop, Some, ap, length}
use Rattle.std.specs.Prelude.{slice_get}
use Rattle.air_record.proofs.Gets.{drop-get}
use Rattle.journal_flows.specs.declared.parcels.Parcel.{Parcel}
use Rattle.journal_flows.specs.NumberedPdus.{is_status_on, carries_status}
use Rattle.journal_flows.proofs.Places.{drop_past}

pub is_first : (lcid at : ℕ) (ps : List Parcel) (p : Parcel) → slice_get ps at ≡ Some p
    → carries_status lcid (drop at ps) ≡ (is_status_on lcid p || carries_status lcid (drop (at + 1) ps))
is_first lcid at ps p h = ap (carries_status lcid) (drop-get ps at p h)

pub none_left : (lcid at : ℕ) (ps : List Parcel) → length ps ≤ at → carries_status lcid (drop at ps) ≡ false
none_left lcid at ps h = ap (carries_status lcid) (drop_past ps at h)
