-- What a receiver of an acknowledged data bearer has handed up (TS 36.323 5.1.2.1.2).
use Rattle.std.specs.Prelude.{◌≡◌, ℕ, ◌+◌, ◌-◌, ◌≤◌, ◌^◌, ◌++◌, List, [], length, take}
use Rattle.l2_num.specs.Least.{IsLeast}
use Rattle.pdcp_pdu.specs.declared.PdcpKind.TheVariants.{Am}
use Rattle.pdcp_pdu.specs.Kinds.{IsKind}
use Rattle.pdcp_sec.specs.Protection.{Protection}
use Rattle.law_pdcp.specs.AmPair.Flow.{Flow, Event, run_am_pdcp, am_pdcp_outset, AreGiven}

-- the receiver's next COUNT is the least that hasn't come in sequence in this life, or whole in an
-- ended one; what went up and what is ready to go up are the SDUs below it, as they were taken for
-- the first time: in their order, each once and unchanged
pub record IsExpected (f : Flow) : Type 0 where
  pub least : IsLeast f.handed f.first f.receiver.next
  pub taken : f.receiver.next ≤ f.first + length f.sdus
  pub delivered : f.up ++ f.receiver.ready ≡ take (f.receiver.next - f.first) f.sdus

abbrev pub DeliversTheExpected : Type 0
DeliversTheExpected = (bits : ℕ) (p : Protection) (first : ℕ) (events : List Event)
    → IsKind (Am bits) → first ≤ 2 ^ 32 → AreGiven (am_pdcp_outset bits p first) events
    → IsExpected (run_am_pdcp events (am_pdcp_outset bits p first))

-- where RLC has handed up all that it was given in this life, and nothing is to be given again,
-- nothing is missing: what went up and what is ready to go up are all SDUs that were taken
abbrev pub IsComplete : Flow → Type 0
IsComplete f = f.passed ≡ length f.stream → f.sender.again ≡ [] → f.up ++ f.receiver.ready ≡ f.sdus

abbrev pub DeliversAll : Type 0
DeliversAll = (bits : ℕ) (p : Protection) (first : ℕ) (events : List Event) → IsKind (Am bits)
    → first ≤ 2 ^ 32 → AreGiven (am_pdcp_outset bits p first) events
    → IsComplete (run_am_pdcp events (am_pdcp_outset bits p first))
