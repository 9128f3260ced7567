-- What goes up on LCID 0, whose bearer is transparent, is what the blocks carry that arrive, as the
-- journal tells them: block by block, and in order (TS 36.321 5.3.3 and 5.4.2, TS 36.322 5.1.1.2).
use Rattle.std.specs.Prelude.{ℕ, ◌&&◌, if◌then◌else◌, List, [], ◌∷◌, ◌++◌, ◌==◌, not, length}
use Rattle.std.specs.Prelude.{Result, Ok, Err, Bool, false, ◌||◌, ◌≡◌}
use Rattle.std.specs.List.{flat_map}
use Rattle.promises.specs.Records.{is_got, sent_last, ups_in}
use Rattle.bearer_types.specs.Sides.{heard_at, is_same, heard_by}
use Rattle.air_record.specs.declared.record.Record.{Record}
use Rattle.l2_types.specs.declared.side.Side.{Side}
use Rattle.mac_pdu.specs.Items.{MacItem, sdu}
use Rattle.mac_pdu.specs.declared.fault.MacRefusal.{MacRefusal}
use Rattle.mac_pdu.specs.Reading.{reading}
use Rattle.air_record.specs.declared.line.Line.{Line}
use Rattle.air_text.specs.Groups.{Group}
use Rattle.air_record.specs.declared.record.Record.TheVariants as records
use Rattle.air_record.specs.declared.line.Line.TheVariants as lines

-- ---- the blocks that arrive

abbrev pub got_at : Side → List ℕ → Record → List (List ℕ)
got_at side sent (records.Air direction what heard) =
    if is_got what && is_same (heard_at direction) side then sent ∷ [] else []
got_at side sent one = []

-- those that arrive at a side, behind a block that was sent
abbrev pub arrived : Side → List ℕ → List Record → List (List ℕ)
arrived side sent [] = []
arrived side sent (one ∷ told) = got_at side sent one ++ arrived side (sent_last one sent) told

-- ---- what they carry on LCID 0

-- an SDU, which is a PDU of RLC there, has an octet or more
abbrev pub carried_in : MacItem → List (List ℕ)
carried_in (sdu lcid octets) = if lcid == 0 && not (length octets == 0) then octets ∷ [] else []
carried_in item = []

-- a block that can't be read carries nothing
abbrev pub carried_by : Result (List MacItem) MacRefusal → List (List ℕ)
carried_by (Ok items) = flat_map carried_in items
carried_by (Err refusal) = []

-- as the side reads it that hears it
abbrev pub carried : Side → List ℕ → List (List ℕ)
carried side block = carried_by (reading (heard_by side) block)

-- where the side has no bearer of LCID 0 nothing is handed up
abbrev pub brought : Bool → Side → List (List ℕ) → List (List ℕ)
brought known side blocks = if known then flat_map (carried side) blocks else []

-- both ends have a bearer of LCID 0 behind groups where its line came, of which the newest stands
-- first
abbrev pub adds_zero : Line → Bool
adds_zero (lines.Bearer config options) = config.channel.lcid == 0
adds_zero line = false

abbrev pub is_added : List Group → Bool
is_added [] = false
is_added (g ∷ past) = adds_zero g.line || is_added past

-- the block that a line forges at a side
abbrev pub forged : Side → Line → List (List ℕ)
forged side (lines.Forge s octets) = if is_same s side then octets ∷ [] else []
forged side line = []

-- at each side the SDUs of a line go up that the blocks carry which are forged or got there, and no
-- others
abbrev pub IsBrought : List Group → Group → Type 0
IsBrought past g =
    (side : Side) → ups_in side 0 g.events
    ≡ brought (is_added past) side (forged side g.line ++ arrived side [] g.events)

abbrev pub BringInOrder : List Group → Type 0
BringInOrder [] = Unit {0}
BringInOrder (g ∷ past) = IsBrought past g × BringInOrder past
