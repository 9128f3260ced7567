-- When what goes up on the unacknowledged bearers of a journal is right, whoever made it (TS 36.322
-- 5.1.2.2, 5.4, TS 36.323 5.1.2.1.3, 5.6; docs/formats/JOURNAL.md): it is what PDCP reads of the
-- SDUs that the flow hands up, whatever was lost.
use Rattle.std.specs.Prelude.{◌≡◌, ℕ, ◌≤◌, Bool, ◌||◌, if◌then◌else◌, List, [], ◌∷◌, ◌++◌, Some}
use Rattle.eps_sec.specs.declared.Keys.{Keys}
use Rattle.l2_types.specs.declared.channel.Kind.TheVariants as bearers
use Rattle.l2_types.specs.declared.side.Side.{Side}
use Rattle.pdcp_pdu.specs.declared.PdcpKind.TheVariants.{Um}
use Rattle.pdcp_sec.specs.Protection.{Protection, protection_of}
use Rattle.bearer_pdcp.specs.Ends.{bearer_of, sends}
use Rattle.bearer_types.specs.declared.config.BearerConfig.{BearerConfig}
use Rattle.bearer_types.specs.Sides.{other}
use Rattle.air_record.specs.Cells.{no_keys}
use Rattle.air_record.specs.declared.line.Line.{Line}
use Rattle.air_text.specs.Groups.{Group}
use Rattle.promises.specs.Keys.{keys_in_force}
use Rattle.promises.specs.Parts.{is_handover}
use Rattle.promises.specs.Records.{ups_in}
use Rattle.journal_um.specs.declared.pieces.JoinedSdu.{JoinedSdu}
use Rattle.journal_um.specs.UmEvents.{UmEvent, running}
use Rattle.journal_um.specs.UmSdus.{joined_in, all_joined_in}
use Rattle.journal_um.specs.UmWindow.{width_of}
use Rattle.journal_flows.specs.Gathering.{MayTake}
use Rattle.journal_flows.specs.FlowsTold.{um_flows_told, um_flows_within}
use Rattle.journal_flows.specs.Laws.{bearer_on, begins_on}
use Rattle.journal_flows.specs.UmPdus.{come_in}
use Rattle.journal_edge.specs.UmReading.{all_read}
use Rattle.journal_edge.specs.EdgeChecking.{octets_in}

-- ---- a flow, by the side that sends, its channel and its bearer

abbrev pub protection : Side → BearerConfig → Keys → Protection
protection from config keys =
    protection_of (Um config.pdcp_bits) keys (bearer_of config.channel.lcid) (sends from)

-- the keys of the life that runs: those in force behind the line of the bearer, or of the handover
abbrev pub begins_life : ℕ → Line → Bool
begins_life lcid line = begins_on line lcid || is_handover line

abbrev pub life_keys : ℕ → List Group → Keys
life_keys lcid [] = no_keys
life_keys lcid (now ∷ past) =
    if begins_life lcid now.line then keys_in_force (now ∷ past) else life_keys lcid past

-- what PDCP reads in a life of SDUs that the flow hands up, under the keys of the life
abbrev pub life_read : Side → BearerConfig → Keys → List JoinedSdu → List (List ℕ)
life_read from config keys sdus =
    all_read config.pdcp_bits (protection from config keys) 0 (octets_in sdus)

-- what comes to the receiver in the life that runs: behind groups, and behind the records of the
-- newest one, before it ends
abbrev pub life_told : MayTake → Side → ℕ → List Group → List UmEvent
life_told may_take from lcid past = running (come_in (um_flows_told may_take past from lcid))

abbrev pub life_within : MayTake → Side → ℕ → Group → List Group → List UmEvent
life_within may_take from lcid now past =
    running (come_in (um_flows_within may_take now past from lcid))

-- in the lives that have ended since the line of the bearer, each with the group of a handover and
-- with all that was accepted in it
abbrev pub life_ended : MayTake → Side → ℕ → BearerConfig → Group → List Group → List (List ℕ)
life_ended may_take from lcid config now past = if is_handover now.line
    then life_read from config (life_keys lcid past)
    (all_joined_in (width_of config.rlc_bits) (life_within may_take from lcid now past))
    else []

abbrev pub read_before : MayTake → Side → ℕ → BearerConfig → List Group → List (List ℕ)
read_before may_take from lcid config [] = []
read_before may_take from lcid config (now ∷ past) =
    if begins_on now.line lcid then []
    else read_before may_take from lcid config past
    ++ life_ended may_take from lcid config now past

-- and in the one that runs
abbrev pub um_read : MayTake → Side → ℕ → BearerConfig → List Group → List (List ℕ)
um_read may_take from lcid config past =
    read_before may_take from lcid config past
    ++ life_read from config (life_keys lcid past)
    (joined_in (width_of config.rlc_bits) (life_told may_take from lcid past))

-- ---- a group, the newest: what goes up in it is what is read in it

abbrev pub read_till : MayTake → Group → List Group → Side → ℕ → BearerConfig → List (List ℕ)
read_till may_take now past from lcid config =
    if begins_on now.line lcid then [] else um_read may_take from lcid config past

abbrev pub IsEdge : MayTake → Group → List Group → Side → ℕ → BearerConfig → Type 0
IsEdge may_take now past from lcid config =
    um_read may_take from lcid config (now ∷ past)
    ≡ read_till may_take now past from lcid config ++ ups_in (other from) lcid now.events

-- logical channels are 0 to 10
abbrev pub GroupEdgesRight : MayTake → Group → List Group → Type 0
GroupEdgesRight may_take now past =
    (from : Side) (lcid : ℕ) (config : BearerConfig) → lcid ≤ 10
    → bearer_on lcid (now ∷ past) ≡ Some config → config.kind ≡ bearers.Um
    → IsEdge may_take now past from lcid config

-- ---- a journal, group by group

abbrev pub EdgeIsRight : MayTake → List Group → Type 0
EdgeIsRight may_take [] = Unit {0}
EdgeIsRight may_take (now ∷ past) =
    GroupEdgesRight may_take now past × EdgeIsRight may_take past
