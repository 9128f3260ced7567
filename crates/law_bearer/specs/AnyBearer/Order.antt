-- In which order a bearer tells: the events of each of its calls are one of a set of sequences (TS
-- 36.321 5.4.3.1, TS 36.322 5.1 to 5.4, 7.3, TS 36.323 5).
use Rattle.std.specs.Prelude.{ℕ, Bool, false, not, Option, IfSome, List}
use Rattle.bearer.specs.declared.flow.Flow.{Flow}
use Rattle.bearer.specs.declared.flow.Flow.TheVariants as flows
use Rattle.bearer.specs.Hearing.{arriving, expiry, ticking as flow_ticking}
use Rattle.bearer.specs.Lives.{stopping}
use Rattle.bearer.specs.Taking.{told}
use Rattle.bearer_types.specs.declared.BearerConfig.{BearerConfig}
use Rattle.eps_sec.specs.declared.Keys.{Keys}
use Rattle.l2_types.specs.declared.Clock.{Clock}
use Rattle.l2_types.specs.declared.Side.{Side}
use Rattle.pdcp_pdu.specs.Kinds.{is_am}
use Rattle.law_bearer.specs.AnyBearer.Calls.{Step, reached}
use Rattle.law_words.specs.BearerOrder.{in_a_block, of_a_pdu, of_an_expiry, in_a_tti, at_the_end}

-- ---- the law

abbrev pub is_signalling : Flow → Bool
is_signalling (flows.Tm b) = false
is_signalling (flows.Um b) = false
is_signalling (flows.Am b) = not (is_am b.pdcp.kind)

-- what each call of a bearer tells
pub record IsToldInOrder (lcid : ℕ) (f : Flow) : Type 0 where
  pub building : (share : ℕ) (held : Option ℕ) → in_a_block lcid (told lcid f share held)
  pub receiving : (pdu : List ℕ) → of_a_pdu lcid (arriving lcid f pdu)
  pub expiring : (clock : Clock) → IfSome (expiry f clock) (of_an_expiry lcid clock)
  pub ticking : in_a_tti lcid (flow_ticking f)
  pub ending : at_the_end (is_signalling f) lcid (stopping f)

-- of any bearer that has come by calls, and through lives
abbrev pub BearersTellInOrder : Type 0
BearersTellInOrder = (c : BearerConfig) (keys : Keys) (side : Side) (steps : List Step)
    → IsToldInOrder c.channel.lcid (reached c keys side steps)
