-- The blocks of a side that sends, as records tell them: one that is sent again is the last new one
-- of its process, and one that is got was sent last.
use Rattle.std.proofs.Common.{◌≡◌, ◌<◌, ℕ, ◌==◌, true, false, List, [], ◌∷◌, Option, Some, None, is_some}
use Rattle.std.proofs.Common.{if◌then◌else◌}
use Rattle.l2_types.specs.declared.side.Side.{Side}
use Rattle.bearer_types.specs.Sides.{is_same, sender_of}
use Rattle.air_record.specs.declared.record.Record.{Record}
use Rattle.air_record.specs.declared.record.Record.TheVariants as records
use Rattle.promises.specs.Records.{is_got}

-- ---- the blocks of a side that sends, by their processes

-- the octets of the last new block of each process, and the process of the block that was sent
-- last, where it is one of the side
pub record Flying : Type 0 where
  pub blocks : ℕ → Option (List ℕ)
  pub last : Option ℕ

abbrev pub with_new : ℕ → List ℕ → Flying → Flying
with_new p octets x =
    record { blocks = λ q. if q == p then Some octets else x.blocks q; last = Some p }

abbrev pub with_again : ℕ → Flying → Flying
with_again p x = record { blocks = x.blocks; last = Some p }

abbrev pub with_other : Flying → Flying
with_other x = record { blocks = x.blocks; last = None }

-- ---- the blocks of a side in records

abbrev pub after_air : Side → Record → Flying → Flying
after_air from (records.Block way p true version octets) x =
    if is_same (sender_of way) from then with_new p octets x else with_other x
after_air from (records.Block way p false version octets) x =
    if is_same (sender_of way) from then with_again p x else with_other x
after_air from one x = x

abbrev pub all_air : Side → List Record → Flying → Flying
all_air from [] x = x
all_air from (one ∷ told) x = all_air from told (after_air from one x)

-- one that is sent again is the last new one of its process, and one that is got was sent last
abbrev pub IsFlown : Side → Record → Flying → Type 0
IsFlown from (records.Block way p true version octets) x = is_same (sender_of way) from ≡ true → p < 8
IsFlown from (records.Block way p false version octets) x =
    is_same (sender_of way) from ≡ true → (p < 8) × (x.blocks p ≡ Some octets)
IsFlown from (records.Air way what heard) x =
    is_same (sender_of way) from ≡ true → is_got what ≡ true → is_some x.last ≡ true
IsFlown from one x = Unit {0}

abbrev pub AreFlown : Side → List Record → Flying → Type 0
AreFlown from [] x = Unit {0}
AreFlown from (one ∷ told) x = IsFlown from one x × AreFlown from told (after_air from one x)

-- of blocks alone
abbrev pub IsSent : Side → Record → Flying → Type 0
IsSent from (records.Block way p true version octets) x = is_same (sender_of way) from ≡ true → p < 8
IsSent from (records.Block way p false version octets) x =
    is_same (sender_of way) from ≡ true → (p < 8) × (x.blocks p ≡ Some octets)
IsSent from one x = Unit {0}

abbrev pub AreSent : Side → List Record → Flying → Type 0
AreSent from [] x = Unit {0}
AreSent from (one ∷ told) x = IsSent from one x × AreSent from told (after_air from one x)
