-- What each call of a link adds to the records, and that these tell which SDUs were submitted and
-- delivered, and which senders gave up (docs/formats/JOURNAL.md).
use Rattle.std.specs.Prelude.{◌≡◌, ℕ, ◌+◌, ◌==◌, Bool, false, if◌then◌else◌, Option, Some, None}
use Rattle.std.specs.Prelude.{option_map, List, [], ◌∷◌, ◌++◌, length, replicate}
use Rattle.std.specs.List.{filter}
use Rattle.air_record.specs.declared.line.Outcome.{Outcome}
use Rattle.air_record.specs.declared.record.NoPlace.{NoPlace}
use Rattle.air_record.specs.declared.record.Record.{Record}
use Rattle.air_record.specs.declared.record.Record.TheVariants as records
use Rattle.l2_node.specs.Submitting.{refusal}
use Rattle.l2_types.specs.declared.side.Side.{Side}
use Rattle.l2_types.specs.declared.side.Side.TheVariants.{Nb, Ue}
use Rattle.air_link.specs.Link.{Link, end_of, sent_flows}
use Rattle.bearer_types.specs.Sides.{other}
use Rattle.air_link.specs.Draining.{drain_tti}
use Rattle.air_record.specs.Outcomes.{intact, missed}
use Rattle.air_link.specs.Lines.{no_place, submitting}
use Rattle.air_link.specs.Ttis.{sleeps, tti}
use Rattle.law_run.specs.AnyCalls.Counts.{ups, loopeds, Grows, gives_up, AreMarked}
use Rattle.promises.specs.Records.{is_of_run, is_of_air}
use Rattle.air_link.specs.Downlink.{down_order}
use Rattle.harq.specs.Receiving.{grant_ndi}
use Rattle.harq.specs.Sending.{ndi_of}
use Rattle.law_run.specs.AnyCalls.Deeds.{TakesTurn, came_of, Answers, heard_up, up_ordered}
use Rattle.promises.specs.Flights.{IsDown, IsUp}
use Rattle.law_run.specs.AnyCalls.Calls.{Call, HandsOver, after}
use Rattle.promises.specs.Air.{sleeping}

-- the SDUs submitted at a side, and those delivered there, by LCID
abbrev pub submitted_at : Side → Link → List ℕ
submitted_at side l = (sent_flows side l).submitted

abbrev pub delivered_at : Side → Link → List ℕ
delivered_at side l = (sent_flows (other side) l).delivered

-- the senders of a side that have failed
abbrev pub failed_at : Side → Link → List Bool
failed_at side l = (sent_flows side l).failed

-- from one link to another each `up` is an SDU delivered, each `loop` one that the terminal
-- submits, and each `fail` a sender that has failed; this is told of the air, and nothing that only
-- a run tells
pub record Tells (more flown : List Record) (l m : Link) : Type 0 where
  pub nb_delivered : Grows (λ lcid. ups Nb lcid more) (delivered_at Nb l) (delivered_at Nb m)
  pub ue_delivered : Grows (λ lcid. ups Ue lcid more) (delivered_at Ue l) (delivered_at Ue m)
  pub nb_submitted : submitted_at Nb m ≡ submitted_at Nb l
  pub ue_submitted : Grows (λ lcid. loopeds lcid more) (submitted_at Ue l) (submitted_at Ue m)
  pub nb_failed : AreMarked (λ lcid. gives_up Nb lcid more) (failed_at Nb l) (failed_at Nb m)
  pub ue_failed : AreMarked (λ lcid. gives_up Ue lcid more) (failed_at Ue l) (failed_at Ue m)
  pub flown_is : filter is_of_air more ≡ flown
  pub none_of_run : filter is_of_run more ≡ []

-- records are added to those that are there
pub record Adds (flown : List Record) (l m : Link) : Type 0 where
  pub more : List Record
  pub out_is : m.out ≡ l.out ++ more
  pub ttis_is : m.ttis ≡ l.ttis
  pub told : Tells more flown l m

-- ---- the laws

-- with a handover no sender has failed, before anything is told
abbrev pub failed_before : Call → List Bool → List Bool
failed_before (HandsOver keys) failed = replicate 11 false
failed_before call failed = failed

abbrev pub renewed : Call → Link → Link
renewed c l = record l {
  down = record l.down { failed = failed_before c l.down.failed };
  up = record l.up { failed = failed_before c l.up.failed };
}

-- nothing is told of the air but in a TTI
abbrev pub CallsAreTold : Type 0
CallsAreTold = (c : Call) (l : Link) → Adds [] (renewed c l) (after c l)

-- a TTI adds its number first; a terminal that sleeps misses both blocks; that of the downlink
-- flies before that of the uplink; each is as the processes of its sender and of its receiver have
-- it
pub record AddsTti (asleep : Bool) (up_grant : ℕ) (up : Outcome) (down_grant : ℕ) (down : Outcome)
    (l m : Link) : Type 0 where
  pub more : List Record
  pub downward : List Record
  pub upward : List Record
  pub out_is : m.out ≡ l.out ++ records.Tti l.ttis ∷ more
  pub ttis_is : m.ttis ≡ l.ttis + 1
  pub told : Tells more (sleeping asleep ++ (downward ++ upward)) l m
  pub down_is : IsDown l.ttis down_grant (missed asleep down) downward
  pub up_is : IsUp l.ttis up_grant (missed asleep up) upward
  pub down_turn : TakesTurn l.ttis (down_order down_grant) l.nb.sender m.nb.sender downward
  pub down_answer : length l.nb.sender.processes ≡ 8
      → Answers l.ttis (ndi_of m.nb.sender l.ttis) (came_of downward) l.ue.receiver m.ue.receiver
  pub up_turn : TakesTurn l.ttis
      (up_ordered up_grant (missed asleep up) (grant_ndi l.nb.receiver l.ttis)) l.ue.sender
      m.ue.sender upward
  pub up_heard : m.nb.receiver ≡ heard_up l.ttis (came_of upward) l.nb.receiver

abbrev pub TtisAreTold : Type 0
TtisAreTold = (up_grant : ℕ) (up : Outcome) (down_grant : ℕ) (down : Outcome) (l : Link)
    → AddsTti (sleeps l.ttis l) up_grant up down_grant down l (tti up_grant up down_grant down l)

-- in a drain nobody sleeps, and nothing is damaged
abbrev pub DrainsAreTold : Type 0
DrainsAreTold = (grant : ℕ) (l : Link)
    → AddsTti false grant intact grant intact l (drain_tti grant l)

-- why an SDU is refused, if it is
abbrev pub why_refused : Side → ℕ → List ℕ → Link → Option NoPlace
why_refused side lcid sdu l = option_map no_place (refusal lcid sdu (end_of side l))

-- an accepted SDU is counted and leaves no record; a refused one leaves one and is not counted
abbrev pub refusals : Side → ℕ → Option NoPlace → List Record
refusals side lcid None = []
refusals side lcid (Some why) = records.Refused side lcid why ∷ []

abbrev pub accepted : ℕ → Option NoPlace → ℕ → ℕ
accepted lcid None k = if lcid == k then 1 else 0
accepted lcid (Some why) k = 0

pub record AddsSubmitted (side : Side) (lcid : ℕ) (why : Option NoPlace) (l m : Link) : Type 0 where
  pub out_is : m.out ≡ l.out ++ refusals side lcid why
  pub ttis_is : m.ttis ≡ l.ttis
  pub submitted : Grows (accepted lcid why) (submitted_at side l) (submitted_at side m)
  pub other_submitted : submitted_at (other side) m ≡ submitted_at (other side) l
  pub nb_delivered : delivered_at Nb m ≡ delivered_at Nb l
  pub ue_delivered : delivered_at Ue m ≡ delivered_at Ue l
  pub nb_failed : failed_at Nb m ≡ failed_at Nb l
  pub ue_failed : failed_at Ue m ≡ failed_at Ue l

abbrev pub SubmissionsAreTold : Type 0
SubmissionsAreTold = (side : Side) (lcid : ℕ) (sdu : List ℕ) (l : Link)
    → AddsSubmitted side lcid (why_refused side lcid sdu l) l (submitting side lcid sdu l)
