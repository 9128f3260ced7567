-- A round of a drain, as calls of the bearers of a channel at both ends (TS 36.321 5.3, 5.4, TS
-- 36.322 7.3): a TTI in which what one end writes comes to the other at once, and the timers that
-- expire behind it.
use Rattle.std.specs.Prelude.{◌≡◌, ℕ, Bool, if◌then◌else◌, List, [], ◌∷◌, ◌++◌, map, Option}
use Rattle.bearer.specs.declared.flow.Flow.{Flow}
use Rattle.bearer.specs.Taking.{pdus}
use Rattle.l2_types.specs.declared.Clock.TheVariants.{Reorder, Prohibit, Poll}
use Rattle.law_bearer.specs.AnyBearer.Calls.{Call, Take, Arrive, Expire, after_all}

-- the share of a grant that a channel gets, if it gets any, and the lowest number that HARQ holds
pub record Share : Type 0 where
  pub here : Bool
  pub octets : ℕ
  pub held : Option ℕ

-- within it the bearer takes, and writes these
abbrev pub takes_in : Share → List Call
takes_in s = if s.here then Take s.octets s.held ∷ [] else []

abbrev pub writes_in : Share → Flow → List (List ℕ)
writes_in s f = if s.here then pdus f s.octets s.held else []

abbrev pub arrivals : List (List ℕ) → List Call
arrivals pdus = map (λ pdu. Arrive pdu) pdus

-- t-Reordering, t-StatusProhibit, and in a round in which nothing is sent t-PollRetransmit; one
-- that doesn't run does nothing
abbrev pub expiries : Bool → List Call
expiries polls = Expire Reorder ∷ Expire Prohibit ∷ (if polls then Expire Poll ∷ [] else [])

-- the base station's bearer takes, and that of the terminal hears just what it writes; then the
-- other way round; then timers expire at both
pub record Round : Type 0 where
  pub down : Share
  pub up : Share
  pub polls : Bool

abbrev pub nb_calls : Round → Flow → Flow → List Call
nb_calls r nb ue =
    takes_in r.down
    ++ (arrivals (writes_in r.up (after_all ue (arrivals (writes_in r.down nb))))
    ++ expiries r.polls)

abbrev pub ue_calls : Round → Flow → Flow → List Call
ue_calls r nb ue = arrivals (writes_in r.down nb) ++ (takes_in r.up ++ expiries r.polls)

-- what it makes of both
pub record IsRound (r : Round) (nb ue nb' ue' : Flow) : Type 0 where
  pub nb_is : nb' ≡ after_all nb (nb_calls r nb ue)
  pub ue_is : ue' ≡ after_all ue (ue_calls r nb ue)
