-- What a new block brings (TS 36.321 5.4.3.1, 5.4.5, 6.1.2).
use Rattle.std.specs.Prelude.{◌≡◌, ℕ, ◌≤◌, Bool, true, if◌then◌else◌, Option, Ok, List, [], ◌∷◌, ◌++◌, length, map, replicate}
use Rattle.bearer.specs.Taking.{pdus}
use Rattle.bearer_pdcp.specs.Shares.{FitsShare}
use Rattle.harq.specs.declared.sender.Order.{Order}
use Rattle.l2_types.specs.declared.channel.Channel.{Channel}
use Rattle.l2_types.specs.declared.side.Side.{Side}
use Rattle.mac_pdu.specs.declared.builder.Sdu.{Sdu}
use Rattle.mac_pdu.specs.declared.item.Bsr.{Bsr}
use Rattle.mac_pdu.specs.Items.{front, padding, sdu_item}
use Rattle.mac_pdu.specs.Reading.{reading}
use Rattle.mac_pdu.specs.Writing.{canonical}
use Rattle.prioritise.specs.ShareLaws.{IsOneOf}
use Rattle.l2_node.specs.Building.{visited}
use Rattle.l2_node.specs.End.{End}
use Rattle.bearer_types.specs.Sides.{sent_by}
use Rattle.l2_node.specs.Finding.{has}
use Rattle.l2_node.specs.Hearing.{bearer_of}
use Rattle.l2_node.specs.Writing.{sdus_of, written, report_of, left_of, new_block}
use Rattle.law_node.specs.Calls.{Call, AreGiven, reached}
use Rattle.law_node.specs.Sharing.{held, share}
use Rattle.promises.specs.Built.{reported}
use Rattle.l2_types.specs.declared.limits.TheConstants.{GREATEST_GRANT}

-- the PDUs that the bearer of a channel writes within its share
abbrev pub pdus_by : End → ℕ → Channel → List (List ℕ)
pdus_by e grant c = pdus (bearer_of c.lcid e).state.flow (share e grant c) (held e c)

-- as SDUs of MAC on its channel; there may be no bearer
abbrev pub sdus_by : End → ℕ → Channel → List Sdu
sdus_by e grant c = if has c.lcid e.bearers then sdus_of c.lcid (pdus_by e grant c) else []

-- those of all, in the order of the channels
abbrev pub all_sdus : End → ℕ → List Channel → List Sdu
all_sdus e grant [] = []
all_sdus e grant (c ∷ cs) = sdus_by e grant c ++ all_sdus e grant cs

-- with their subheaders the PDUs of each bearer fit its share
abbrev pub EachFits : End → ℕ → Type 0
EachFits e grant = (c : Channel) → IsOneOf c e.buckets.channels → has c.lcid e.bearers ≡ true
    → FitsShare (share e grant c) (pdus_by e grant c)

-- the report of what the bearers have left, where the terminal reports and the padding has room for
-- it
abbrev pub report : End → ℕ → Option Bsr
report e grant =
    report_of e.side e.reports (written e grant).bearers e.buckets.channels
    (left_of grant (written e grant).block.parts)

-- a block has the grant's size, in which it is the canonical writing of the report and the bearers'
-- PDUs; it is read as padding of one or two octets or none, these, and the other padding
pub record IsBlockOf (e : End) (grant : ℕ) : Type 0 where
  pub size_is : length (new_block e grant) ≡ grant
  pub writing_is : new_block e grant
      ≡ canonical (reported (report e grant)
      ++ map sdu_item (all_sdus e grant e.buckets.channels)) grant
  pub fronts : ℕ
  pub ends : List ℕ
  pub two : fronts ≤ 2
  pub one : length ends ≤ 1
  pub read : reading (sent_by e.side) (new_block e grant)
      ≡ Ok (replicate fronts front
      ++ ((reported (report e grant) ++ map sdu_item (all_sdus e grant e.buckets.channels))
      ++ map padding ends))

-- of any end, as it has visited a process
abbrev pub BlockHasWhatWasWritten : Type 0
BlockHasWhatWasWritten = (side : Side) (maximum : ℕ) (reports : Bool) (calls : List Call)
    → AreGiven calls
    → (tti : ℕ) (order : Order) (grant : ℕ) → 1 ≤ grant → grant ≤ GREATEST_GRANT
    → IsBlockOf (visited tti order (reached side maximum reports calls)) grant

-- of any end, likewise, and by any grant
abbrev pub PdusFitTheirShares : Type 0
PdusFitTheirShares = (side : Side) (maximum : ℕ) (reports : Bool) (calls : List Call)
    → (tti : ℕ) (order : Order) (grant : ℕ)
    → EachFits (visited tti order (reached side maximum reports calls)) grant
