-- Which SDUs a channel of acknowledged data takes, and which it discards, as an end tells (TS
-- 36.323 5.1.1, 5.4).
use Rattle.std.specs.Prelude.{ℕ, ◌==◌, if◌then◌else◌, Option, Some, None, List, [], ◌∷◌, ◌+◌, Bool}
use Rattle.std.specs.Prelude.{true, false, ◌++◌, length, drop, ◌≡◌, ◌≤◌, ◌-◌, slice_get}
use Rattle.std.specs.List.{flat_map}
use Rattle.bearer_types.specs.declared.event.Event.{Event}
use Rattle.bearer_types.specs.declared.event.Event.TheVariants.{Take, Discard}

-- the SDUs of a channel as they are told of in order: by the COUNT with which one is taken, and
-- without a COUNT where one is discarded
abbrev pub leaving_in : ℕ → Event → List (Option ℕ)
leaving_in l (Take lcid (Some count) len) = if lcid == l then Some count ∷ [] else []
leaving_in l (Take lcid None len) = []
leaving_in l (Discard lcid len) = if lcid == l then None ∷ [] else []
leaving_in l event = []

-- whether each that leaves the queue is taken; one that is taken for the first time has the next
-- COUNT
abbrev pub were_taken : ℕ → List (Option ℕ) → List Bool
were_taken next [] = []
were_taken next (None ∷ leaving) = false ∷ were_taken next leaving
were_taken next (Some count ∷ leaving) =
    if count == next then true ∷ were_taken (next + 1) leaving else were_taken next leaving

abbrev pub chosen : List Bool → List (List ℕ) → List (List ℕ)
chosen [] sdus = []
chosen (b ∷ bs) [] = []
chosen (true ∷ bs) (sdu ∷ sdus) = sdu ∷ chosen bs sdus
chosen (false ∷ bs) (sdu ∷ sdus) = chosen bs sdus

-- of each that leaves the queue of a bearer with its first COUNT, whether it is taken, as events
-- tell
abbrev pub leaves : ℕ → ℕ → List Event → List Bool
leaves l first events = were_taken first (flat_map (leaving_in l) events)

-- of SDUs that are submitted to it, those that it takes
abbrev pub taken_of : ℕ → ℕ → List Event → List (List ℕ) → List (List ℕ)
taken_of l first events sdus = chosen (leaves l first events) sdus

-- and those that it doesn't discard: besides them what stands behind all that have left the queue
abbrev pub kept_of : ℕ → ℕ → List Event → List (List ℕ) → List (List ℕ)
kept_of l first events sdus =
    taken_of l first events sdus ++ drop (length (leaves l first events)) sdus

-- ---- what is told of each that is taken, for the first time or again in another life: its COUNT
-- and its length

pub record TakenSdu : Type 0 where
  pub count : ℕ
  pub len : ℕ

abbrev pub take_in : ℕ → Event → List TakenSdu
take_in l (Take lcid (Some count) len) =
    if lcid == l then record { count = count; len = len } ∷ [] else []
take_in l event = []

abbrev pub takes_on : ℕ → List Event → List TakenSdu
takes_on l events = flat_map (take_in l) events

-- it is the SDU of its COUNT, of those that a bearer with its first COUNT takes, in their order
pub record NamesSdu (first : ℕ) (sdus : List (List ℕ)) (t : TakenSdu) : Type 0 where
  pub low : first ≤ t.count
  pub sdu : List ℕ
  pub sdu_is : slice_get sdus (t.count - first) ≡ Some sdu
  pub len_is : length sdu ≡ t.len

-- ---- on other channels

-- of each SDU that leaves the queue, taken or discarded, its length
abbrev pub length_in : ℕ → Event → List ℕ
length_in l (Take lcid count len) = if lcid == l then len ∷ [] else []
length_in l (Discard lcid len) = if lcid == l then len ∷ [] else []
length_in l event = []

abbrev pub lengths_on : ℕ → List Event → List ℕ
lengths_on l events = flat_map (length_in l) events
