-- What goes up on LCID 0, whose bearer is transparent, is what the blocks carry that arrive: block
-- by block, and in order (TS 36.321 5.3.3 and 5.4.2, TS 36.322 5.1.1.2).
use Rattle.std.specs.Prelude.{◌≡◌, ℕ, ◌≤◌, Bool, if◌then◌else◌, List, [], ◌∷◌, ◌++◌}
use Rattle.air_link.specs.Draining.{drain_tti}
use Rattle.air_link.specs.Lines.{submitting}
use Rattle.air_link.specs.Link.{Link, end_of}
use Rattle.air_link.specs.Ttis.{tti}
use Rattle.air_record.specs.declared.line.Outcome.{Outcome}
use Rattle.air_record.specs.declared.record.Record.{Record}
use Rattle.l2_node.specs.End.{End}
use Rattle.l2_node.specs.Finding.{has}
use Rattle.l2_types.specs.declared.side.Side.{Side}
use Rattle.l2_types.specs.declared.side.Side.TheVariants.{Nb, Ue}
use Rattle.law_node.specs.Calls.{Call as EndCall, AreGiven, reached}
use Rattle.law_run.specs.AnyCalls.Calls.{Call, Forges, after}
use Rattle.bearer_types.specs.Sides.{is_same}
use Rattle.law_run.specs.AnyCalls.Ends.{IsGiven}
use Rattle.promises.specs.Records.{ups_in}
use Rattle.promises.specs.Zero.{arrived, brought}
use Rattle.l2_types.specs.declared.limits.TheConstants.{GREATEST_GRANT}

-- ---- the laws

-- an end that has come so far by any calls
pub record HasCome (side : Side) (e : End) : Type 0 where
  pub maximum : ℕ
  pub reports : Bool
  pub calls : List EndCall
  pub given : AreGiven calls
  pub end_is : e ≡ reached side maximum reports calls

pub record HaveCome (l : Link) : Type 0 where
  pub nb : HasCome Nb l.nb
  pub ue : HasCome Ue l.ue

abbrev pub has_zero : Side → Link → Bool
has_zero side l = has 0 (end_of side l).bearers

-- at each side the SDUs go up that the blocks carry which are forged there, and which arrive;
-- whatever block was told of before
pub record Brings (forged : Side → List (List ℕ)) (l m : Link) : Type 0 where
  pub more : List Record
  pub out_is : m.out ≡ l.out ++ more
  pub ups_are : (side : Side) (sent : List ℕ)
      → ups_in side 0 more ≡ brought (has_zero side l) side
      (forged side ++ arrived side sent more)

abbrev pub none_forged : Side → List (List ℕ)
none_forged side = []

abbrev pub forged_by : Call → Side → List (List ℕ)
forged_by (Forges s block) side = if is_same s side then block ∷ [] else []
forged_by call side = []

abbrev pub CallsBring : Type 0
CallsBring = (c : Call) (l : Link) → IsGiven c → HaveCome l → Brings (forged_by c) l (after c l)

abbrev pub SubmissionsBring : Type 0
SubmissionsBring = (side : Side) (lcid : ℕ) (octets : List ℕ) (l : Link) → HaveCome l
    → Brings none_forged l (submitting side lcid octets l)

-- grants are those of transport blocks
abbrev pub TtisBring : Type 0
TtisBring = (up_grant : ℕ) (up : Outcome) (down_grant : ℕ) (down : Outcome) (l : Link)
    → up_grant ≤ GREATEST_GRANT → down_grant ≤ GREATEST_GRANT → HaveCome l
    → Brings none_forged l (tti up_grant up down_grant down l)

abbrev pub DrainsBring : Type 0
DrainsBring = (grant : ℕ) (l : Link) → grant ≤ GREATEST_GRANT → HaveCome l
    → Brings none_forged l (drain_tti grant l)
