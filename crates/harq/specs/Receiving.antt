-- One step of a HARQ process at the receiver (TS 36.321 5.3.2, 5.4.2).
use Rattle.std.specs.Prelude.{ℕ, ◌-◌, ◌%◌, ◌==◌, ◌||◌, ◌&&◌, Bool, true, false, not, if◌then◌else◌}
use Rattle.std.specs.Prelude.{Option, Some, None, List, replicate, slice_index_or, slice_set}
use Rattle.harq.specs.declared.receiver.Answer.{Answer}
use Rattle.harq.specs.declared.receiver.Answer.TheVariants.{Up, Again, Damaged, Nothing}
use Rattle.harq.specs.Sending.{same}

-- a process of a receiver: on the downlink the NDI seen last and whether a block with it was
-- decoded; on the uplink the NDI of the last award and the visits that it has left, 0 where none is
-- awaited
pub record ReceiveProcess : Type 0 where
  pub seen : Option Bool
  pub decoded : Bool
  pub ndi : Bool
  pub left : ℕ

abbrev pub receive_process : Option Bool → Bool → Bool → ℕ → ReceiveProcess
receive_process seen decoded ndi left =
    record { seen = seen; decoded = decoded; ndi = ndi; left = left }

-- the process after a reset
abbrev pub blank : ReceiveProcess
blank = receive_process None false false 0

-- ---- the downlink

-- whether this NDI was the last one seen
abbrev pub is_last : Bool → Option Bool → Bool
is_last ndi None = false
is_last ndi (Some seen) = same ndi seen

-- whether a block with this NDI was decoded, and no other NDI seen since
abbrev pub was_decoded : Bool → ReceiveProcess → Bool
was_decoded ndi p = is_last ndi p.seen && p.decoded

-- a block with this NDI is seen, intact where good
abbrev pub assigned_to : Bool → Bool → ReceiveProcess → ReceiveProcess
assigned_to ndi good p = receive_process (Some ndi) (was_decoded ndi p || good) p.ndi p.left

abbrev pub assigned_answered : Bool → Bool → ReceiveProcess → Answer
assigned_answered ndi good p = if good then (if was_decoded ndi p then Again else Up) else Damaged

-- ---- the uplink

-- a grant: where none is awaited it is an award, which toggles the NDI
abbrev pub awarded : ℕ → ReceiveProcess → ReceiveProcess
awarded maximum p =
    receive_process p.seen p.decoded (if p.left == 0 then not p.ndi else p.ndi)
    (if p.left == 0 then maximum else p.left)

-- a visit ends with no intact block
abbrev pub passed : ReceiveProcess → ReceiveProcess
passed p = receive_process p.seen p.decoded p.ndi (p.left - 1)

-- what a granted visit brought: an intact block, a damaged one or nothing
abbrev pub arrived : Option Bool → ReceiveProcess → ReceiveProcess
arrived (Some true) p = receive_process p.seen p.decoded p.ndi 0
arrived (Some false) p = passed p
arrived None p = passed p

abbrev pub arrived_answered : Option Bool → Answer
arrived_answered (Some true) = Up
arrived_answered (Some false) = Damaged
arrived_answered None = Nothing

-- ---- the eight processes

-- the most visits of an award, and the processes
pub record Receiving : Type 0 where
  pub maximum : ℕ
  pub processes : List ReceiveProcess

abbrev pub receiving : ℕ → List ReceiveProcess → Receiving
receiving maximum processes = record { maximum = maximum; processes = processes }

-- the process of a TTI
abbrev pub process_at : Receiving → ℕ → ReceiveProcess
process_at r tti = slice_index_or r.processes (tti % 8) blank

-- the process of a TTI is p, and the others stay
abbrev pub with_process : Receiving → ℕ → ReceiveProcess → Receiving
with_process r tti p = receiving r.maximum (slice_set r.processes (tti % 8) p)

-- after a reset
unfoldable pub fresh : ℕ → Receiving
fresh maximum = receiving maximum (replicate 8 blank)

unfoldable pub after_assigned : Receiving → ℕ → Bool → Bool → Receiving
after_assigned r tti ndi good = with_process r tti (assigned_to ndi good (process_at r tti))

unfoldable pub assigned_answer : Receiving → ℕ → Bool → Bool → Answer
assigned_answer r tti ndi good = assigned_answered ndi good (process_at r tti)

unfoldable pub after_grant : Receiving → ℕ → Receiving
after_grant r tti = with_process r tti (awarded r.maximum (process_at r tti))

unfoldable pub grant_ndi : Receiving → ℕ → Bool
grant_ndi r tti = (awarded r.maximum (process_at r tti)).ndi

unfoldable pub after_granted : Receiving → ℕ → Option Bool → Receiving
after_granted r tti good = with_process r tti (arrived good (process_at r tti))

unfoldable pub after_pass : Receiving → ℕ → Receiving
after_pass r tti = with_process r tti (passed (process_at r tti))
