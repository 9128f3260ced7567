-- The steps of two ends are steps of both ends of an unacknowledged bearer: the PDUs of its channel
-- that a block carries come and are let go one by one, in which each is known by its number (TS
-- 36.321 5.3.3, 5.4.2, TS 36.322 4.2.1.2).
use Rattle.std.specs.Prelude.{ℕ, zero, suc, ◌+◌, List, [], ◌∷◌, ◌++◌, map, length, Option, Some}
use Rattle.std.specs.Prelude.{None, slice_get}
use Rattle.eps_sec.specs.declared.Keys.{Keys}
use Rattle.bearer_types.specs.Sides.{heard_by, sent_by}
use Rattle.l2_types.specs.declared.side.Side.{Side}
use Rattle.l2_types.specs.declared.side.Side.TheVariants.{Nb, Ue}
use Rattle.mac_pdu.specs.declared.item.Direction.{Direction}
use Rattle.law_deliver.specs.AmChannel.Lives.{AirStep, InLife, Moves, lives_on}
use Rattle.law_deliver.specs.AmFlow.Air.{Block, Station, Air, Act, Calls, Comes, Goes, Step, AtNb}
use Rattle.law_deliver.specs.AmFlow.Air.{AtUe, Passes}
use Rattle.law_deliver.specs.AmFlow.Channels.{calls_of}
use Rattle.promises.specs.Pdus.{carried}
use Rattle.law_deliver.specs.UmFlow.Pair.{Deed, Calls as CallsBearer, Comes as PduComes}
use Rattle.law_deliver.specs.UmFlow.Pair.{Goes as PduGoes, Step as PairStep, Near, Far}
use Rattle.law_deliver.specs.UmDelivery.Lives.{Life}

-- ---- the PDUs of a channel that are under way stand in the order of the blocks that carry them

-- in the first blocks, so many
abbrev pub count_before : ℕ → Direction → ℕ → List Block → ℕ
count_before l d k [] = 0
count_before l d zero (b ∷ bs) = 0
count_before l d (suc k) (b ∷ bs) = length (carried l d b.octets) + count_before l d k bs

-- so many from a place on come, or are let go
abbrev pub come_from : ℕ → ℕ → List Deed
come_from place zero = []
come_from place (suc n) = PduComes place ∷ come_from (place + 1) n

abbrev pub go_from : ℕ → ℕ → List Deed
go_from place zero = []
go_from place (suc n) = PduGoes place ∷ go_from place n

-- those of the block at a place
abbrev pub comes_with : ℕ → Direction → ℕ → List Block → Option Block → List Deed
comes_with l d k blocks None = []
comes_with l d k blocks (Some b) =
    come_from (count_before l d k blocks) (length (carried l d b.octets))

abbrev pub goes_with : ℕ → Direction → ℕ → List Block → Option Block → List Deed
goes_with l d k blocks None = []
goes_with l d k blocks (Some b) =
    go_from (count_before l d k blocks) (length (carried l d b.octets))

-- what a side does, by what the other has under way
abbrev pub deeds_in : ℕ → Side → Station → Station → Act → List Deed
deeds_in l side other s (Calls c) = map (λ x. CallsBearer x) (calls_of l s.end c)
deeds_in l side other s (Comes k) =
    comes_with l (heard_by side) k other.blocks (slice_get other.blocks k)
deeds_in l side other s (Goes k) = goes_with l (sent_by side) k s.blocks (slice_get s.blocks k)

abbrev pub steps_in : ℕ → Air → Step → List PairStep
steps_in l a (AtNb x) = map (λ d. Near d) (deeds_in l Nb a.ue a.nb x)
steps_in l a (AtUe x) = map (λ d. Far d) (deeds_in l Ue a.nb a.ue x)
steps_in l a Passes = []

-- ---- through lives

-- lives that have ended, and the steps of the last one so far
pub record Walk : Type 0 where
  pub lives : List Life
  pub steps : List PairStep

abbrev pub behind_life : List PairStep → Keys → Walk → Walk
behind_life steps keys w =
    record { lives = (record { steps = steps; keys = keys }) ∷ w.lives; steps = w.steps }

-- of the running life there are steps already
abbrev pub walk : ℕ → List PairStep → List AirStep → Air → Walk
walk l so_far [] a = record { lives = []; steps = so_far }
walk l so_far (InLife s ∷ xs) a = walk l (so_far ++ steps_in l a s) xs (lives_on a (InLife s))
walk l so_far (Moves keys ∷ xs) a = behind_life so_far keys (walk l [] xs (lives_on a (Moves keys)))
