-- What an end tells, by channel and by kind (docs/formats/JOURNAL.md).
use Rattle.std.specs.Prelude.{Bool, true, false, ◌≡◌, List, [], ℕ, ◌==◌, if◌then◌else◌, ◌∷◌}
use Rattle.std.specs.List.{filter, flat_map}
use Rattle.bearer_types.specs.declared.event.Event.{Event}
use Rattle.bearer_types.specs.declared.event.Event.TheVariants.{Drop, Take, Report, Send, Wait}
use Rattle.bearer_types.specs.declared.event.Event.TheVariants.{Start, Stop, Expired, Up, Fail}
use Rattle.bearer_types.specs.declared.event.Event.TheVariants.{Integrity, BadMac, BadRlc, BadPdcp}
use Rattle.bearer_types.specs.declared.event.Event.TheVariants.{Discard}
use Rattle.l2_types.specs.declared.Lost.{Lost}
use Rattle.l2_types.specs.declared.event.Lost.TheVariants as losts

-- an SDU that the loop returns, and that finds no place
abbrev pub is_of_loop : Event → Bool
is_of_loop (Drop lcid losts.Loop) = true
is_of_loop event = false

abbrev pub TellNoLoop : List Event → Type 0
TellNoLoop events = filter is_of_loop events ≡ []

-- what RLC takes and writes, and why it writes nothing
abbrev pub is_of_writing : Event → Bool
is_of_writing (Take lcid count len) = true
is_of_writing (Report lcid fms bitmap) = true
is_of_writing (Send lcid how sn) = true
is_of_writing (Wait lcid why) = true
is_of_writing event = false

-- ---- what is told of a channel; of a block that can't be read it is told of none

abbrev pub is_on : ℕ → Event → Bool
is_on l (Take lcid count len) = lcid == l
is_on l (Report lcid fms bitmap) = lcid == l
is_on l (Send lcid how sn) = lcid == l
is_on l (Wait lcid why) = lcid == l
is_on l (Start lcid clock) = lcid == l
is_on l (Stop lcid clock) = lcid == l
is_on l (Expired lcid clock) = lcid == l
is_on l (Up lcid sdu) = lcid == l
is_on l (Fail lcid sn) = lcid == l
is_on l (Drop lcid why) = lcid == l
is_on l (Integrity lcid found wanted) = lcid == l
is_on l (BadMac fault) = false
is_on l (BadRlc lcid fault) = lcid == l
is_on l (BadPdcp lcid fault) = lcid == l
is_on l (Discard lcid len) = lcid == l

abbrev pub told_on : ℕ → List Event → List Event
told_on l events = filter (is_on l) events

-- the lengths of those whose discard timers end (TS 36.323 5.4)
abbrev pub discards_in : ℕ → Event → List ℕ
discards_in l (Discard lcid len) = if lcid == l then len ∷ [] else []
discards_in l event = []

abbrev pub discards_on : ℕ → List Event → List ℕ
discards_on l events = flat_map (discards_in l) events

-- ---- a sender gives up at its limit of retransmissions, for the sequence number that it tells

abbrev pub fails_in : ℕ → Event → List ℕ
fails_in l (Fail lcid sn) = if lcid == l then sn ∷ [] else []
fails_in l event = []

abbrev pub fails_on : ℕ → List Event → List ℕ
fails_on l events = flat_map (fails_in l) events

-- a PDU of PDCP that comes has a COUNT that was before, or is beyond 32 bits, or it is a report
-- that isn't applied; one of RLC clashes with what is held
abbrev pub is_of_loss : Lost → Bool
is_of_loss losts.Old = true
is_of_loss losts.Range = true
is_of_loss losts.Report = true
is_of_loss losts.Clash = true
is_of_loss why = false

-- or its MAC-I differs, or one of either can't be read
abbrev pub is_lost : Event → Bool
is_lost (Drop lcid why) = is_of_loss why
is_lost (Integrity lcid found wanted) = true
is_lost (BadRlc lcid fault) = true
is_lost (BadPdcp lcid fault) = true
is_lost event = false

abbrev pub losses : List Event → List Event
losses told = filter is_lost told
