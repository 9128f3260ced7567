-- The uplink of a TTI: the base station grants it, and hears what comes (TS 36.321 5.4).
use Rattle.std.specs.Prelude.{ℕ, ◌==◌, Bool, true, false, if◌then◌else◌, Option, Some, None, List}
use Rattle.air_record.specs.declared.line.Fate.{Fate}
use Rattle.air_record.specs.declared.line.Fate.TheVariants.{Ok, Bad, Miss}
use Rattle.air_record.specs.declared.line.Outcome.{Outcome}
use Rattle.air_record.specs.declared.record.Arrived.{Arrived}
use Rattle.air_record.specs.declared.record.Arrived.TheVariants as arriveds
use Rattle.air_record.specs.declared.record.Record.TheVariants as records
use Rattle.harq.specs.declared.sender.Order.{Order}
use Rattle.harq.specs.declared.sender.Order.TheVariants.{Silent, Unseen, Grant}
use Rattle.harq.specs.declared.sender.Visit.{Visit}
use Rattle.harq.specs.declared.sender.Visit.TheVariants.{New, Resend, Silent as Quiet}
use Rattle.harq.specs.Receiving.{after_grant, grant_ndi, after_granted, after_pass}
use Rattle.l2_node.specs.Building.{visit}
use Rattle.l2_types.specs.declared.side.Side.TheVariants.{Nb, Ue}
use Rattle.mac_pdu.specs.declared.item.Direction.TheVariants.{Up}
use Rattle.air_link.specs.Link.{Link, says}
use Rattle.air_link.specs.Downlink.{builds, block_at, sends, hears, feeds, saw_new}
use Rattle.air_record.specs.Outcomes.{turned}

-- a grant that the terminal doesn't see
abbrev pub up_order : Fate → Bool → Order
up_order Ok ndi = Grant ndi
up_order Bad ndi = Grant ndi
up_order Miss ndi = Unseen

-- only `bad` damages a block
abbrev pub is_intact : Fate → Bool
is_intact Ok = true
is_intact Bad = false
is_intact Miss = true

abbrev pub told_as : Bool → Arrived
told_as true = arriveds.Got
told_as false = arriveds.Bad

abbrev pub granted : ℕ → Option Bool → Link → Link
granted t good l = record l { nb = record l.nb { receiver = after_granted l.nb.receiver t good } }

abbrev pub hears_if : Bool → List ℕ → Link → Link
hears_if true block l = hears Nb block l
hears_if false block l = l

-- what came, feedback, the record of the air, and what the base station makes of the block
abbrev pub aired : ℕ → Bool → Bool → List ℕ → Link → Link
aired t flipped good block l =
    hears_if good block
    (says (records.Air Up (told_as good) (Some (turned flipped good)))
    (feeds Ue t (turned flipped good) (granted t (Some good) l)))

-- a new block keeps the terminal awake
abbrev pub awake : Visit → ℕ → Link → Link
awake New t l = saw_new t l
awake (Resend rv) t l = l
awake Quiet t l = l

abbrev pub goes_up : Visit → ℕ → Outcome → List ℕ → Link → Link
goes_up v t o block l =
    aired t o.flipped (is_intact o.fate) block (sends v Ue t block (awake v t l))

abbrev pub up_by : Visit → ℕ → Outcome → Link → Link
up_by New t o l = goes_up New t o (block_at t l.ue) l
up_by (Resend rv) t o l = goes_up (Resend rv) t o (block_at t l.ue) l
up_by Quiet t o l = says (records.Air Up arriveds.Nothing None) (granted t None l)

-- the terminal answers an order
abbrev pub answers : ℕ → ℕ → Order → Outcome → Link → Link
answers t grant order o l = up_by (visit t order l.ue) t o (builds Ue t grant order l)

abbrev pub grants : ℕ → ℕ → Outcome → Link → Link
grants t grant o l =
    answers t grant (up_order o.fate (grant_ndi l.nb.receiver t)) o
    (record l { nb = record l.nb { receiver = after_grant l.nb.receiver t } })

abbrev pub passed : ℕ → Link → Link
passed t l = record l { nb = record l.nb { receiver = after_pass l.nb.receiver t } }

-- nothing is granted: the terminal's process is visited too
abbrev pub passes : ℕ → Link → Link
passes t l = passed t (builds Ue t 0 Silent l)

unfoldable pub uplink : ℕ → ℕ → Outcome → Link → Link
uplink t grant o l = if grant == 0 then passes t l else grants t grant o l
