-- A block whose SDUs come to their end, or with no PDU named, tells nothing more; PDUs come one by one.
use Rattle.std.proofs.Common.{◌≡◌, ℕ, ◌+◌, ◌≤◌, List, [], ◌∷◌, drop, length, Option, Some, refl, ap}
use Rattle.std.specs.Prelude.{slice_get}
use Rattle.l2_types.specs.declared.side.Side.{Side}
use Rattle.pdu_show.specs.declared.kinds.Layout.{Layout}
use Rattle.air_record.proofs.Gets.{drop-get}
use Rattle.journal_flows.specs.declared.parcels.Parcel.{Parcel}
use Rattle.journal_flows.specs.declared.sending.Named.{Named}
use Rattle.journal_flows.specs.NumberedPdus.{come_as}
use Rattle.journal_flows.specs.Gathering.{Loaded, loads, all_told, all_come}
use Rattle.journal_flows.specs.Accounts.{Accounts, accounts}
use Rattle.journal_flows.proofs.Places.{drop_past}

pub none_left : (kinds : List (Option Layout)) (from : Side) (named : List Named) (b : Loaded Accounts)
    → loads accounts kinds from named [] b ≡ b
none_left kinds from [] b = refl
none_left kinds from (one ∷ named) b = refl

pub comes_at : (from : Side) (at : ℕ) (ps : List Parcel) (p : Parcel) (a : Accounts) → slice_get ps at ≡ Some p
    → all_come accounts from (drop at ps) a
    ≡ all_come accounts from (drop (at + 1) ps) (all_told accounts (come_as from p) a)
comes_at from at ps p a h = ap (λ (qs : List Parcel). all_come accounts from qs a) (drop-get ps at p h)

pub none_come : (from : Side) (at : ℕ) (ps : List Parcel) (a : Accounts) → length ps ≤ at
    → all_come accounts from (drop at ps) a ≡ a
none_come from at ps a h = ap (λ (qs : List Parcel). all_come accounts from qs a) (drop_past ps at h)
