-- The SDUs of a flow as the journal tells them (docs/formats/JOURNAL.md): those submitted and those
-- delivered, in order.
use Rattle.std.specs.Prelude.{ℕ, List, map, Bool, false, ◌==◌, not, ◌&&◌, if◌then◌else◌, []}
use Rattle.std.specs.Prelude.{◌∷◌, ◌++◌}
use Rattle.std.specs.List.{filter}
use Rattle.air_record.specs.Submissions.{refuses}
use Rattle.air_record.specs.declared.record.Record.{Record}
use Rattle.promises.specs.Records.{is_looped, sdu_of, ups_in}
use Rattle.l2_types.specs.declared.side.Side.{Side}
use Rattle.bearer_types.specs.Sides.{is_same}
use Rattle.promises.specs.Parts.{Part, Submits, part_of_line}
use Rattle.l2_types.specs.declared.side.Side.TheVariants.{Nb, Ue}
use Rattle.air_text.specs.Groups.{Group}

-- the SDUs that the test loop submits, on a channel
abbrev pub loops_in : ℕ → List Record → List (List ℕ)
loops_in lcid told = map sdu_of (filter (is_looped lcid) told)

abbrev pub is_refused_at_once : Side → ℕ → List Record → Bool
is_refused_at_once side lcid [] = false
is_refused_at_once side lcid (one ∷ told) = refuses side lcid one

-- the SDU of a `submit` line is submitted with its line, before the records of its group, unless a
-- `refused` record of its side and channel stands directly behind the line; a `refused` record
-- elsewhere says nothing
abbrev pub handed_in : Side → ℕ → Part → List Record → List (List ℕ)
handed_in side lcid (Submits s l octets) told =
    if is_same s side && (not (is_refused_at_once s l told) && l == lcid) then octets ∷ [] else []
handed_in side lcid other told = []

-- the test loop stands at the terminal
abbrev pub looped_at : Side → ℕ → List Record → List (List ℕ)
looped_at Nb lcid told = []
looped_at Ue lcid told = loops_in lcid told

-- ---- of a journal in groups, of which the newest stands first

-- the SDUs that a side submitted on a channel
abbrev pub submitted : Side → ℕ → List Group → List (List ℕ)
submitted side lcid [] = []
submitted side lcid (g ∷ past) =
    submitted side lcid past
    ++ (handed_in side lcid (part_of_line g.line) g.events ++ looped_at side lcid g.events)

-- those that were handed up there
abbrev pub delivered : Side → ℕ → List Group → List (List ℕ)
delivered side lcid [] = []
delivered side lcid (g ∷ past) = delivered side lcid past ++ ups_in side lcid g.events
