-- The ends of a link (TS 36.321 4.2): each goes on by calls of its own, what records tell of it is
-- what it tells in these, lives of its bearers begin only as one is added and in a handover, and it
-- tells of what it writes only as it builds a block.
use Rattle.std.specs.Prelude.{◌≡◌, ℕ, ◌≤◌, Bool, true, false, Option, List, [], ◌∷◌, ◌++◌, map}
use Rattle.std.specs.List.{filter}
use Rattle.air_link.specs.Downlink.{block_at, down_order}
use Rattle.air_link.specs.Draining.{drain_tti}
use Rattle.air_link.specs.Lines.{submitting}
use Rattle.air_link.specs.Link.{Link}
use Rattle.air_link.specs.Ttis.{tti}
use Rattle.air_record.specs.declared.line.Outcome.{Outcome}
use Rattle.air_record.specs.declared.record.Record.{Record}
use Rattle.air_record.specs.declared.record.Record.TheVariants as records
use Rattle.bearer_types.specs.Configs.{IsConfig}
use Rattle.harq.specs.declared.sender.Order.{Order}
use Rattle.harq.specs.declared.sender.Visit.{Visit}
use Rattle.harq.specs.declared.sender.Visit.TheVariants.{New, Resend, Silent}
use Rattle.l2_node.specs.Building.{IsEnough, visit, built, building}
use Rattle.l2_node.specs.End.{End}
use Rattle.l2_types.specs.declared.side.Side.{Side}
use Rattle.l2_types.specs.declared.side.Side.TheVariants.{Nb, Ue}
use Rattle.law_node.specs.Calls.{Call as EndCall, Add, Move, AreGiven, run_end}
use Rattle.law_node.specs.Telling.{told_over}
use Rattle.promises.specs.Events.{is_of_writing}
use Rattle.pdu_show.specs.declared.kinds.Layout.{Layout}
use Rattle.law_run.specs.AnyCalls.Calls.{Call, Bears, Visits, HandsOver, after}
use Rattle.promises.specs.Records.{events_of, is_of_building}
use Rattle.promises.specs.Built.{block_told}
use Rattle.promises.specs.Blocks.{with_bearer}
use Rattle.l2_types.specs.declared.limits.TheConstants.{GREATEST_GRANT}

-- ---- what records tell of an end

-- an end goes on by calls, and the records tell of it exactly what it tells in these
pub record ByCalls (side : Side) (told : List Record) (before after' : End) : Type 0 where
  pub calls : List EndCall
  pub given : AreGiven calls
  pub end_is : after' ≡ run_end calls before
  pub told_is : events_of side told ≡ told_over calls before

-- ---- the lives of its bearers

-- a call with which lives begin: a bearer is added, or the end moves
abbrev pub begins_life : EndCall → Bool
begins_life (Add config keys) = true
begins_life (Move keys) = true
begins_life call = false

-- an end goes on by calls, and these of them begin lives
pub record LivesOn (lives : List EndCall) (side : Side) (told : List Record)
    (before after' : End) : Type 0 where
  pub by : ByCalls side told before after'
  pub lives_are : filter begins_life by.calls ≡ lives

-- ---- what is told of new blocks

-- records are added, both ends go on by calls of which these tell, with lives that begin in both
-- alike, and some of these records are told of new blocks; how PDUs are shown stays
pub record GoesThrough (lives : List EndCall) (blocks : List Record) (l m : Link) : Type 0 where
  pub more : List Record
  pub out_is : m.out ≡ l.out ++ more
  pub nb : LivesOn lives Nb more l.nb m.nb
  pub ue : LivesOn lives Ue more l.ue m.ue
  pub blocks_are : filter is_of_building more ≡ blocks
  pub kinds_are : m.kinds ≡ l.kinds

-- no life begins
abbrev pub GoesOn : List Record → Link → Link → Type 0
GoesOn blocks l m = GoesThrough [] blocks l m

-- ---- the visit of a process, by an order and a grant

abbrev pub built_told : Visit → Side → ℕ → ℕ → Order → List (Option Layout) → End → List Record
built_told New side t grant order kinds e =
    map (records.Of side) (filter is_of_writing (building t grant order e))
    ++ block_told side t kinds (block_at t (built t grant order e))
built_told (Resend rv) side t grant order kinds e = []
built_told Silent side t grant order kinds e = []

abbrev pub visit_told : Side → ℕ → ℕ → Order → List (Option Layout) → End → List Record
visit_told side t grant order kinds e = built_told (visit t order e) side t grant order kinds e

-- in a TTI the base station visits its process and then the terminal, each as it has come to that
-- by calls in which no life begins, with records of both
pub record GoesOnByVisits (t up_grant down_grant : ℕ) (l m : Link) : Type 0 where
  pub nb : End
  pub nb_told : List Record
  pub nb_by : LivesOn [] Nb nb_told l.nb nb
  pub ue : End
  pub ue_told : List Record
  pub ue_by : LivesOn [] Ue ue_told l.ue ue
  pub up_order : Order
  pub enough : IsEnough up_order up_grant
  pub goes : GoesOn (visit_told Nb t down_grant (down_order down_grant) l.kinds nb
      ++ visit_told Ue t up_grant up_order l.kinds ue) l m

-- ---- the laws

-- a configuration in its ranges, some visits of a block
abbrev pub IsGiven : Call → Type 0
IsGiven (Bears config keys) = IsConfig config
IsGiven (Visits maximum) = 1 ≤ maximum
IsGiven call = Unit {0}

abbrev pub known : Call → Link → Link
known (Bears config keys) l = record l { kinds = with_bearer config l.kinds }
known call l = l

-- a bearer's life begins as it is added, and another one of each bearer in a handover
abbrev pub lives_in : Call → List EndCall
lives_in (Bears config keys) = Add config keys ∷ []
lives_in (HandsOver keys) = Move keys ∷ []
lives_in call = []

abbrev pub CallsGoOn : Type 0
CallsGoOn = (c : Call) (l : Link) → IsGiven c → GoesThrough (lives_in c) [] (known c l) (after c l)

abbrev pub SubmissionsGoOn : Type 0
SubmissionsGoOn = (side : Side) (lcid : ℕ) (sdu : List ℕ) (l : Link)
    → GoesOn [] l (submitting side lcid sdu l)

-- grants are those of transport blocks
abbrev pub TtisGoOn : Type 0
TtisGoOn = (up_grant : ℕ) (up : Outcome) (down_grant : ℕ) (down : Outcome) (l : Link)
    → up_grant ≤ GREATEST_GRANT → down_grant ≤ GREATEST_GRANT
    → GoesOnByVisits l.ttis up_grant down_grant l (tti up_grant up down_grant down l)

abbrev pub DrainsGoOn : Type 0
DrainsGoOn = (grant : ℕ) (l : Link) → grant ≤ GREATEST_GRANT
    → GoesOnByVisits l.ttis grant grant l (drain_tti grant l)
