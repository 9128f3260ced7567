-- How many new PDUs of a channel a side tells of behind its last new block, at most one.
use Rattle.std.proofs.Common.{ℕ, ◌+◌, ◌≤◌, ◌==◌, true, if◌then◌else◌, List, [], ◌∷◌}
use Rattle.l2_types.specs.declared.event.How.TheVariants as hows
use Rattle.l2_types.specs.declared.side.Side.{Side}
use Rattle.bearer_types.specs.declared.event.Event.{Event}
use Rattle.bearer_types.specs.declared.event.Event.TheVariants.{Send}
use Rattle.bearer_types.specs.Sides.{is_same, sender_of}
use Rattle.air_record.specs.declared.record.Record.{Record}
use Rattle.air_record.specs.declared.record.Record.TheVariants as records

abbrev pub new_in : ℕ → Event → ℕ
new_in l (Send lcid hows.New sn) = if lcid == l then 1 else 0
new_in l event = 0

-- how many of a channel a side has told of behind its last new block
abbrev pub named_by : Side → ℕ → Record → ℕ → ℕ
named_by from l (records.Of side event) n = if is_same from side then n + new_in l event else n
named_by from l (records.Block way process true version octets) n =
    if is_same (sender_of way) from then 0 else n
named_by from l one n = n

abbrev pub AreSingle : Side → ℕ → List Record → ℕ → Type 0
AreSingle from l [] n = Unit {0}
AreSingle from l (one ∷ told) n =
    (named_by from l one n ≤ 1) × AreSingle from l told (named_by from l one n)
