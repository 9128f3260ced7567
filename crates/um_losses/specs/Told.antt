-- What records tell of one direction of a channel, from where they stand on (TS 36.322 5.1.2.2).
use Rattle.std.specs.Prelude.{ℕ, Bool, true, ◌&&◌, ◌==◌, if◌then◌else◌, List, [], ◌∷◌, ◌++◌, Option}
use Rattle.std.specs.Prelude.{Some, None}
use Rattle.air_record.specs.declared.record.Record.{Record}
use Rattle.mac_pdu.specs.declared.item.Direction.{Direction}
use Rattle.um_losses.specs.declared.cursor.Change.{Change}
use Rattle.um_losses.specs.declared.cursor.Cursor.{Cursor}
use Rattle.um_losses.specs.declared.flow.Happening.{Happening}
use Rattle.um_losses.specs.declared.flow.Whose.{Whose}
use Rattle.um_losses.specs.declared.flow.Whose.TheVariants.{All, Each, One}
use Rattle.um_losses.specs.Flow.{Flow, after, is_of}
use Rattle.bearer_types.specs.Sides.{is_same_way}
use Rattle.um_losses.specs.Records.{passed, change_of}

abbrev pub is_for : Direction → ℕ → Whose → Bool
is_for d l All = true
is_for d l (Each direction) = is_same_way d direction
is_for d l (One direction lcid) = is_same_way d direction && (lcid == l)

abbrev pub picked : Direction → ℕ → Option Change → List Happening
picked d l None = []
picked d l (Some change) = if is_for d l change.whose then change.what ∷ [] else []

abbrev pub told_in : Direction → ℕ → Cursor → List Record → List Happening
told_in d l c [] = []
told_in d l c (one ∷ more) = picked d l (change_of one c) ++ told_in d l (passed one c) more

-- where they stand behind these
abbrev pub place_behind : Cursor → List Record → Cursor
place_behind c [] = c
place_behind c (one ∷ more) = place_behind (passed one c) more

-- where the records of a block begin
abbrev pub block_place : Direction → ℕ → Cursor
block_place direction process = record { direction = direction; process = process; channel = None }

abbrev pub sdu_place : Direction → ℕ → ℕ → Cursor
sdu_place direction process lcid =
    record { direction = direction; process = process; channel = Some lcid }

-- what becomes of a flow
abbrev pub all_after : List Happening → Flow → Flow
all_after [] f = f
all_after (w ∷ ws) f = all_after ws (after w f)

-- the flow of a direction and a channel, if it is there
abbrev pub flow_at : Direction → ℕ → List Flow → Option Flow
flow_at d l [] = None
flow_at d l (f ∷ fs) = if is_of d l f then Some f else flow_at d l fs
