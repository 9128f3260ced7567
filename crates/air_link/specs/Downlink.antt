-- The downlink of a TTI: the base station visits its process, and the terminal hears what comes (TS
-- 36.321 5.3).
use Rattle.std.specs.Prelude.{ℕ, ◌%◌, ◌==◌, Bool, true, false, if◌then◌else◌, Some, option_map}
use Rattle.std.specs.Prelude.{unwrap_or, List, [], ◌++◌, slice_index_or, slice_set}
use Rattle.air_record.specs.declared.line.Fate.{Fate}
use Rattle.air_record.specs.declared.line.Fate.TheVariants.{Ok, Bad, Miss}
use Rattle.air_record.specs.declared.line.Outcome.{Outcome}
use Rattle.air_record.specs.declared.record.Arrived.{Arrived}
use Rattle.air_record.specs.declared.record.Arrived.TheVariants as arriveds
use Rattle.air_record.specs.declared.record.Record.TheVariants as records
use Rattle.drx.specs.Drx.{after_new, after_damaged, after_decoded}
use Rattle.harq.specs.declared.receiver.Answer.{Answer}
use Rattle.harq.specs.declared.receiver.Answer.TheVariants.{Up, Again, Damaged, Nothing}
use Rattle.harq.specs.declared.sender.Order.{Order}
use Rattle.harq.specs.declared.sender.Order.TheVariants.{Silent, Free}
use Rattle.harq.specs.declared.sender.Visit.{Visit}
use Rattle.harq.specs.declared.sender.Visit.TheVariants.{New, Resend, Silent as Quiet}
use Rattle.harq.specs.Receiving.{after_assigned, assigned_answer}
use Rattle.harq.specs.Sending.{after_feedback, held_of, ndi_of}
use Rattle.l2_node.specs.Building.{visit, built, building}
use Rattle.l2_node.specs.End.{End}
use Rattle.l2_node.specs.Hearing.{received}
use Rattle.l2_types.specs.declared.side.Side.{Side}
use Rattle.l2_types.specs.declared.side.Side.TheVariants.{Nb, Ue}
use Rattle.mac_pdu.specs.declared.item.Direction.{Direction}
use Rattle.pdu_show.specs.Show.{block_shown}
use Rattle.bearer_types.specs.Sides.{sent_by}
use Rattle.air_link.specs.Link.{Link, says, end_of, with_end}
use Rattle.air_link.specs.Telling.{tells_all}
use Rattle.air_record.specs.Outcomes.{turned}

-- ---- a block goes out

-- an end visits its process, and tells what its bearers do
abbrev pub visits : Side → ℕ → ℕ → Order → Link → Link
visits side t grant order l = with_end side (built t grant order (end_of side l)) l

abbrev pub builds : Side → ℕ → ℕ → Order → Link → Link
builds side t grant order l =
    tells_all side (building t grant order (end_of side l)) (visits side t grant order l)

-- the NDI of the process then
abbrev pub built_ndi : Side → ℕ → ℕ → Order → Link → Bool
built_ndi side t grant order l = ndi_of (built t grant order (end_of side l)).sender t

-- the block that a process of a TTI holds
abbrev pub block_at : ℕ → End → List ℕ
block_at t e = unwrap_or (held_of e.sender (t % 8)) []

-- what is shown of a new block
abbrev pub shows : Direction → List ℕ → Link → Link
shows direction block l = record l { out = l.out ++ block_shown direction l.kinds block }

-- a block is sent for the first time, and shown, or again with a redundancy version
abbrev pub sends : Visit → Side → ℕ → List ℕ → Link → Link
sends New side t block l =
    shows (sent_by side) block (says (records.Block (sent_by side) (t % 8) true 0 block) l)
sends (Resend rv) side t block l = says (records.Block (sent_by side) (t % 8) false rv block) l
sends Quiet side t block l = l

-- an end hears a block
abbrev pub receives : Side → List ℕ → Link → Link
receives side block l =
    with_end side (record (end_of side l) { bearers = (received (end_of side l) block).bearers })
    l

abbrev pub hears : Side → List ℕ → Link → Link
hears side block l = tells_all side (received (end_of side l) block).events (receives side block l)

abbrev pub feeds : Side → ℕ → Bool → Link → Link
feeds side t good l =
    with_end side
    (record (end_of side l) { sender = after_feedback (end_of side l).sender t good }) l

-- ---- what the terminal sees

-- what the answer to a block is told as
abbrev pub told_as : Answer → Arrived
told_as Up = arriveds.Got
told_as Again = arriveds.Dup
told_as Damaged = arriveds.Bad
told_as Nothing = arriveds.Nothing

abbrev pub is_good : Answer → Bool
is_good Up = true
is_good Again = true
is_good Damaged = false
is_good Nothing = false

abbrev pub saw_new : ℕ → Link → Link
saw_new t l = record l { drx = option_map (λ d. after_new d t) l.drx }

-- a block that it sees for the first time keeps it awake, and so does a damaged one
abbrev pub first_seen : ℕ → Link → Link
first_seen t l = if slice_index_or l.seen (t % 8) false then l
    else saw_new t (record l { seen = slice_set l.seen (t % 8) true })

abbrev pub decoded : ℕ → Link → Link
decoded t l = record l { drx = option_map (λ d. after_decoded d t) l.drx }

abbrev pub damaged : ℕ → Link → Link
damaged t l = record l { drx = option_map (λ d. after_damaged d t) l.drx }

abbrev pub sees : ℕ → Bool → Link → Link
sees t true l = decoded t (first_seen t l)
sees t false l = damaged t (first_seen t l)

-- a block of this NDI comes intact or damaged
abbrev pub assigned : ℕ → Bool → Bool → Link → Link
assigned t ndi good l =
    sees t good
    (record l { ue = record l.ue { receiver = after_assigned l.ue.receiver t ndi good } })

abbrev pub answer : Fate → ℕ → Bool → Link → Answer
answer Miss t ndi l = Nothing
answer Ok t ndi l = assigned_answer l.ue.receiver t ndi true
answer Bad t ndi l = assigned_answer l.ue.receiver t ndi false

abbrev pub comes : Fate → ℕ → Bool → Link → Link
comes Miss t ndi l = l
comes Ok t ndi l = assigned t ndi true l
comes Bad t ndi l = assigned t ndi false l

-- a block is handed up once
abbrev pub hears_by : Answer → List ℕ → Link → Link
hears_by Up block l = hears Ue block l
hears_by Again block l = l
hears_by Damaged block l = l
hears_by Nothing block l = l

-- feedback, the record of the air, and what the terminal makes of the block
abbrev pub aired : ℕ → Bool → Answer → List ℕ → Link → Link
aired t flipped a block l =
    hears_by a block
    (says (records.Air (sent_by Nb) (told_as a) (Some (turned flipped (is_good a))))
    (feeds Nb t (turned flipped (is_good a)) l))

abbrev pub lands : ℕ → Outcome → Bool → List ℕ → Link → Link
lands t o ndi block l = aired t o.flipped (answer o.fate t ndi l) block (comes o.fate t ndi l)

-- a new block wasn't seen
abbrev pub unseen : Visit → ℕ → Link → Link
unseen New t l = record l { seen = slice_set l.seen (t % 8) false }
unseen (Resend rv) t l = l
unseen Quiet t l = l

-- the block of a visit goes over the air, with the NDI of its process
abbrev pub goes_down : Visit → ℕ → Outcome → Bool → List ℕ → Link → Link
goes_down v t o ndi block l = lands t o ndi block (sends v Nb t block (unseen v t l))

abbrev pub down_order : ℕ → Order
down_order grant = if grant == 0 then Silent else Free

abbrev pub down_by : Visit → ℕ → Outcome → Bool → Link → Link
down_by New t o ndi l = goes_down New t o ndi (block_at t l.nb) l
down_by (Resend rv) t o ndi l = goes_down (Resend rv) t o ndi (block_at t l.nb) l
down_by Quiet t o ndi l = l

unfoldable pub downlink : ℕ → ℕ → Outcome → Link → Link
downlink t grant o l =
    down_by (visit t (down_order grant) l.nb) t o (built_ndi Nb t grant (down_order grant) l)
    (builds Nb t grant (down_order grant) l)
