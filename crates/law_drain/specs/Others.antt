-- What a bearer of transparent or unacknowledged mode has still to send in a drain (TS 36.322
-- 5.1.1.1, 5.1.2.1), in octets of PDUs.
use Rattle.std.specs.Prelude.{ℕ, ◌+◌, ◌-◌, ◌≤◌, Option}
use Rattle.bearer.specs.Unacknowledged.Taking.{answer, feeding}
use Rattle.bearer.specs.declared.flow.Flow.{Flow}
use Rattle.bearer.specs.declared.flow.Flow.TheVariants.{Tm, Um, Am}
use Rattle.rlc_queue.specs.Waiting.{HaveOctets, total}
use Rattle.rlc_um.specs.Transparent.{taken}
use Rattle.law_bearer.specs.AnyBearer.Calls.{Call, Take}
use Rattle.law_bearer.specs.AnyBearer.Calls.{after}
use Rattle.law_drain.specs.Bearer.{IsOfDrain}
use Rattle.law_drain.specs.Queues.{pieces_in}
use Rattle.law_drain.specs.Unsent.{unsent}

-- at RLC's sender, and what PDCP's has still to give to it
abbrev pub waits_in : Flow → ℕ
waits_in (Tm b) = total b.waiting
waits_in (Um b) = total b.tx.waiting.sdus + unsent b.pdcp.tx
waits_in (Am b) = 0

-- the PDUs that it writes within a share
abbrev pub pieces_of : Flow → ℕ → Option ℕ → ℕ
pieces_of (Tm b) share held = pieces_in (taken b (share - 3))
pieces_of (Um b) share held = pieces_in (answer b share held)
pieces_of (Am b) share held = 0

-- each SDU that RLC has then has an octet
abbrev pub HaveOctetsIn : Flow → ℕ → Option ℕ → Type 0
HaveOctetsIn (Tm b) share held = HaveOctets b.waiting
HaveOctetsIn (Um b) share held = HaveOctets (feeding b share held).tx.waiting.sdus
HaveOctetsIn (Am b) share held = Unit {0}

-- no call of a drain adds to what waits
abbrev pub OthersNeverRise : Type 0
OthersNeverRise = (f : Flow) (c : Call) → IsOfDrain c → waits_in (after f c) ≤ waits_in f

-- and each PDU takes an octet of it, or more
abbrev pub OthersFall : Type 0
OthersFall = (f : Flow) (share : ℕ) (held : Option ℕ) → HaveOctetsIn f share held
    → waits_in (after f (Take share held)) + pieces_of f share held ≤ waits_in f
