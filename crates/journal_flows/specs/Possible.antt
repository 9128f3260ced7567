-- Which events of a flow can be (TS 36.322 6.2.1.4, 6.2.1.5, 6.2.2.7, 6.2.2.14, 7.1, TS 36.323
-- 6.3.5).
use Rattle.std.specs.Prelude.{ℕ, ◌^◌, Bool, true, false, ◌&&◌, nat_lt, nat_le, List, ◌∷◌}
use Rattle.std.specs.Prelude.{if◌then◌else◌, Option, Some, None}
use Rattle.journal_account.specs.FlowEvents.{SduTaken, NumberWritten, OctetsResent, OctetsArrived}
use Rattle.journal_account.specs.FlowEvents.{StatusHeard, next_of}
use Rattle.journal_lives.specs.LifeEvents.{LifeEvent, PduGiven, InLife, running}

-- SOs have 15 bits, and an SOend of 32767 is the last octet of a field
abbrev pub most_octets : ℕ
most_octets = 32767

-- some octets of a data field, from a place on below another
abbrev pub are_octets : ℕ → ℕ → Bool
are_octets from to = nat_lt from to && nat_le to most_octets

-- COUNTs have 32 bits
abbrev pub is_count_of : Option ℕ → Bool
is_count_of None = true
is_count_of (Some count) = nat_lt count (2 ^ 32)

-- where VT(S) is `next`: a number has an octet, what comes or is written again was written, and no
-- ACK lies above VT(S)
abbrev pub is_possible : ℕ → LifeEvent → Bool
is_possible next (PduGiven count size) = is_count_of count
is_possible next (InLife (SduTaken size)) = false
is_possible next (InLife (NumberWritten size)) = are_octets 0 size
is_possible next (InLife (OctetsResent n from to)) = nat_lt n next && are_octets from to
is_possible next (InLife (OctetsArrived n from to)) = nat_lt n next && are_octets from to
is_possible next (InLife (StatusHeard ack entries)) = nat_le ack next
is_possible next event = true

-- one that can't be tells nothing: where a journal has one, it is wrong of another reason
abbrev pub with_event : LifeEvent → List LifeEvent → List LifeEvent
with_event e es = if is_possible (next_of (running es)) e then e ∷ es else es
