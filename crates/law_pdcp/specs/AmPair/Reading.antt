-- Each PDU that comes is read as the COUNT that it was written with (TS 36.323 5.1.2.1.2).
use Rattle.std.specs.Prelude.{◌≡◌, ℕ, ◌+◌, ◌≤◌, ◌^◌, Bool, true, if◌then◌else◌, nat_lt, List, []}
use Rattle.std.specs.Prelude.{◌∷◌, drop, Option, Some, None, slice_get}
use Rattle.pdcp_pdu.specs.declared.PdcpKind.TheVariants.{Am}
use Rattle.pdcp_pdu.specs.Kinds.{IsKind}
use Rattle.pdcp_sec.specs.Protection.{Protection}
use Rattle.pdcp_tx.specs.declared.sender.Next.{Next}
use Rattle.pdcp_rx.specs.declared.got.Cause.{Cause}
use Rattle.pdcp_rx.specs.declared.got.Cause.TheVariants.{Arrived, Reestablished}
use Rattle.pdcp_rx.specs.declared.got.Got.{Got}
use Rattle.pdcp_rx.specs.declared.got.Got.TheVariants as answers
use Rattle.pdcp_rx.specs.State.{State as Receiving, got, arrived}
use Rattle.law_pdcp.specs.AmPair.Flow.{Flow, Event, run_am_pdcp, am_pdcp_outset, AreGiven}
use Rattle.law_pdcp.specs.AmPair.Flow.{with_count}

-- the SDU of a COUNT that hasn't come goes up; at the end of a life it waits where one below it
-- hasn't come
abbrev pub fresh_answer : Cause → Receiving → ℕ → Got
fresh_answer Arrived r count = answers.Up
fresh_answer Reestablished r count = if nat_lt r.next count then answers.Stored else answers.Up

-- it's dropped as old exactly where its COUNT has come before
abbrev pub answer : (ℕ → Bool) → Cause → Receiving → ℕ → Got
answer handed cause r count = if handed count then answers.Old else fresh_answer cause r count

-- it's a status report
pub record IsTold (answered : Got) : Type 0 where
  pub fms : ℕ
  pub bitmap : List ℕ
  pub is : answered ≡ answers.Report fms bitmap

abbrev pub IsRead : (ℕ → Bool) → Cause → Receiving → List ℕ → Option ℕ → Type 0
IsRead handed cause r octets None = IsTold (got r octets cause)
IsRead handed cause r octets (Some count) = got r octets cause ≡ answer handed cause r count

-- the next in sequence
abbrev pub IsNextRead : Option Next → Flow → Type 0
IsNextRead None f = Unit {0}
IsNextRead (Some pdu) f = IsRead f.handed Arrived f.receiver pdu.octets pdu.count

-- those that come at the end of the life, one after the other
abbrev pub AreRead : (ℕ → Bool) → ℕ → List Next → (ℕ → Bool) → Receiving → Type 0
AreRead whole place [] handed r = Unit {0}
AreRead whole place (pdu ∷ pdus) handed r =
    (whole place ≡ true → IsRead handed Reestablished r pdu.octets pdu.count)
    × AreRead whole (place + 1) pdus (if whole place then with_count pdu.count handed else handed)
    (if whole place then arrived r pdu.octets Reestablished else r)

pub record ReadsEach (f : Flow) : Type 0 where
  pub in_sequence : IsNextRead (slice_get f.stream f.passed) f
  pub at_the_end : AreRead f.whole f.passed (drop f.passed f.stream) f.handed f.receiver

abbrev pub ReadsEachCount : Type 0
ReadsEachCount = (bits : ℕ) (p : Protection) (first : ℕ) (events : List Event) → IsKind (Am bits)
    → first ≤ 2 ^ 32 → AreGiven (am_pdcp_outset bits p first) events
    → ReadsEach (run_am_pdcp events (am_pdcp_outset bits p first))
