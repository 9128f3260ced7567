-- A bearer at one end through any calls, and through lives
-- (TS 36.322 4.2.1, 5.4, TS 36.323 5.1, 5.2).
use Rattle.std.specs.Prelude.{ℕ, List, [], ◌∷◌, Option, Some, None}
use Rattle.bearer_types.specs.declared.BearerConfig.{BearerConfig}
use Rattle.eps_sec.specs.declared.Keys.{Keys}
use Rattle.l2_types.specs.declared.Clock.{Clock}
use Rattle.l2_types.specs.declared.Side.{Side}
use Rattle.bearer_pdcp.specs.Ends.{Ends}
use Rattle.bearer.specs.declared.flow.Flow.{Flow}
use Rattle.bearer.specs.declared.flow.Flow.TheVariants.{Tm, Um, Am}
use Rattle.bearer.specs.declared.flow.StoppedFlow.{StoppedFlow}
use Rattle.bearer.specs.declared.flow.StoppedFlow.TheVariants as stops
use Rattle.bearer.specs.Bearer.{flow_of}
use Rattle.bearer.specs.Submitting.{submitted}
use Rattle.bearer.specs.Taking.{after as taken}
use Rattle.bearer.specs.Hearing.{arrived, expired, ticked, with_discard}
use Rattle.bearer.specs.Lives.{stopped, restarted}

-- a call of a life that changes the bearer; a refused one changes nothing
pub data Call : Type 0 where
  Submit : List ℕ → Call
  Take : ℕ → Option ℕ → Call
  Arrive : List ℕ → Call
  Expire : Clock → Call
  Tick : Call
  SetDiscard : ℕ → Call

-- what it makes of the bearer
abbrev pub after : Flow → Call → Flow
after f (Submit sdu) = submitted f sdu
after f (Take share held) = taken f share held
after f (Arrive pdu) = arrived f pdu
after f (Expire clock) = expired f clock
after f Tick = ticked f
after f (SetDiscard ttis) = with_discard f ttis

abbrev pub after_all : Flow → List Call → Flow
after_all f [] = f
after_all f (c ∷ cs) = after_all (after f c) cs

-- a call, or the end of a life and the beginning of the next
pub data Step : Type 0 where
  Calls : Call → Step
  Restart : Keys → Step

abbrev pub goes : Flow → Step → Flow
goes f (Calls c) = after f c
goes f (Restart keys) = restarted (stopped f) keys

abbrev pub run_bearer : List Step → Flow → Flow
run_bearer [] f = f
run_bearer (x ∷ xs) f = run_bearer xs (goes f x)

-- a bearer after any steps, as both ends are configured with it
abbrev pub reached : BearerConfig → Keys → Side → List Step → Flow
reached c keys side steps = run_bearer steps (flow_of c.kind c keys side)

-- PDCP of a bearer, in a life and between two; a transparent one has none
abbrev pub ends : Flow → Option Ends
ends (Tm b) = None
ends (Um b) = Some b.pdcp
ends (Am b) = Some b.pdcp

abbrev pub ends_between : StoppedFlow → Option Ends
ends_between stops.Tm = None
ends_between (stops.Um b) = Some b.pdcp
ends_between (stops.Am b) = Some b.pdcp
