-- The PDUs of a new block, one by one: a PDU's verdict, and the flow behind it.
use Rattle.std.specs.Prelude.{ℕ, Bool, List, Option, option_map}
use Rattle.l2_types.specs.declared.event.How.{How}
use Rattle.l2_types.specs.declared.side.Side.{Side}
use Rattle.journal_stream.specs.SentOctets.{SentOctets}
use Rattle.journal_sent.specs.declared.verdict.Verdict.{Verdict}
use Rattle.journal_sent.specs.SentPdus.{accounts}
use Rattle.journal_sent.specs.SentFlows.{SentFlow, flow_judges}
use Rattle.journal_sent.specs.Sending.{Sending, flows_of, flow_at, changed}

-- by what is acknowledged, how the PDU is named, what was passed on, and its octets
abbrev pub verdict_of : (ℕ → Bool) → How → Option (List ℕ) → List ℕ → SentFlow SentOctets → Verdict
verdict_of acked how passed octets f = (flow_judges accounts acked how passed octets f).verdict

abbrev pub behind : (ℕ → Bool) → How → Option (List ℕ) → List ℕ → SentFlow SentOctets
    → SentFlow SentOctets
behind acked how passed octets f = (flow_judges accounts acked how passed octets f).flow

-- on the channel of a side; none where there is no bearer
abbrev pub verdict_at : Side → ℕ → (ℕ → Bool) → How → Option (List ℕ) → List ℕ
    → Sending SentOctets → Option Verdict
verdict_at side lcid acked how passed octets s =
    option_map (verdict_of acked how passed octets) (flow_at lcid (flows_of side s))

abbrev pub flows_judged : Side → ℕ → (ℕ → Bool) → How → Option (List ℕ) → List ℕ
    → Sending SentOctets → Sending SentOctets
flows_judged side lcid acked how passed octets s =
    changed side lcid (behind acked how passed octets) s
