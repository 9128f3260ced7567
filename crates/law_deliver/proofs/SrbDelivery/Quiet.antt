-- Calls of a signalling bearer that bring no PDU: what they make of PDCP.
use Rattle.std.proofs.Common.{◌≡◌, ℕ, Bool, true, false, List, [], ◌∷◌, ◌++◌, map, length, refl, sym, subst, ◌∙◌}
use Rattle.std.specs.List.{AllByRecursion}
use Rattle.std.specs.Prelude.{nat_lt}
use Rattle.bearer_types.specs.declared.Event.{Event}
use Rattle.l2_types.specs.declared.Clock.{Clock}
use Rattle.l2_types.specs.declared.Clock.TheVariants.{Poll, Reorder, Prohibit}
use Rattle.bearer.specs.Submitting.{submitted}
use Rattle.bearer.specs.Taking.{after as taken_from}
use Rattle.bearer.specs.Hearing.{expired, expiry, ticked, ticking, with_discard}
use Rattle.bearer.specs.Acknowledged.State.{State}
use Rattle.bearer.specs.Acknowledged.Timing.{has_ended}
use Rattle.law_bearer.specs.AnyBearer.Calls.{Call, Submit, Take, Arrive, Expire, Tick, SetDiscard}
use Rattle.bearer_pdcp.specs.Discarding.{after_tick as after_discards, tick_told}
use Rattle.bearer_pdcp.specs.Ends.{Ends}
use Rattle.pdcp_sec.specs.Protection.{Protection}
use Rattle.pdcp_tx.specs.Runs.{Submit as Submits, Take as Takes, Confirm as Confirms-place, Report, Owe}
use Rattle.pdcp_tx.specs.Runs.{Tick as TickPdcp, Late, after}
use Rattle.pdcp_tx.specs.State.{State as Sending}
use Rattle.law_pdcp.specs.OneEnd.Lives.{queue}
use Rattle.law_bearer.specs.AmBearer.Deeds.{Deed, Feeds, Sends as SendsIt, Confirms, Receives, HandsUp, Asks, Sets}
use Rattle.law_bearer.specs.AmBearer.Deeds.{confirms_first, does, does_all}
use Rattle.law_bearer.specs.AmBearer.Calls.{IsIdle, only_if, settles, expires, counted, ticks, discards, deeds_of}
use Rattle.law_bearer.specs.AmBearer.Calls.{tells, ups_among}
use Rattle.law_bearer.proofs.AmBearer.Keeping.{quiet_idle}
use Rattle.law_bearer.proofs.AmBearer.Taking.{takes_as, takes_quiet, taking_ups}
use Rattle.law_bearer.proofs.AmBearer.Timing.{expires_as, expires_quiet, expiry_none, tti_as, tti_quiet, tti_none}
use Rattle.law_bearer.proofs.AmBearer.Ups.{IsQuiet, AreQuiet}
use Rattle.law_deliver.specs.AmFlow.Pair.{called}
use Rattle.law_pdcp.proofs.SrbPair.Sending.{Sends, clock_sends, never_late}

-- ---- it brings no PDU

abbrev pub IsCall : Call → Type 0
IsCall (Submit sdu) = Unit {0}
IsCall (Take share held) = Unit {0}
IsCall (Arrive pdu) = ⊥
IsCall (Expire clock) = Unit {0}
IsCall Tick = Unit {0}
IsCall (SetDiscard ttis) = Unit {0}

pub calls_as : (b : State) (c : Call) → IsCall c → called b c ≡ does_all (deeds_of b c) b
unfolding submitted taken_from expired ticked with_discard
calls_as b (Submit sdu) g = refl
calls_as b (Take share held) g = sym (takes_as b share held)
calls_as b (Arrive pdu) g = absurd g
calls_as b (Expire clock) g = sym (expires_as clock b)
calls_as b Tick g = sym (tti_as b)
calls_as b (SetDiscard ttis) g = refl

calls_quiet : (b : State) (c : Call) → IsCall c → AreQuiet (deeds_of b c)
calls_quiet b (Submit sdu) g = (tt, tt)
calls_quiet b (Take share held) g = takes_quiet b share held
calls_quiet b (Arrive pdu) g = absurd g
calls_quiet b (Expire clock) g = (expires_quiet clock b, tt)
calls_quiet b Tick g = tti_quiet b
calls_quiet b (SetDiscard ttis) g = (tt, tt)

pub none_up : (b : State) (c : Call) → IsCall c → ups_among (tells b c) ≡ []
unfolding expiry ticking
none_up b (Submit sdu) g = refl
none_up b (Take share held) g = taking_ups b share held
none_up b (Arrive pdu) g = absurd g
none_up b (Expire clock) g = expiry_none clock b
none_up b Tick g = tti_none b
none_up b (SetDiscard ttis) g = refl

-- ---- PDCP's receiver stays

record Rests (b d : State) : Type 0 where
  rx : d.pdcp.rx ≡ b.pdcp.rx
  kind : d.pdcp.kind ≡ b.pdcp.kind

confirms_rests : (places : List ℕ) (b : State) → Rests b (confirms_first places b)
confirms_rests [] b = record { rx = refl; kind = refl }
confirms_rests (place ∷ places) b = record { rx = refl; kind = refl }

quiet_rests : (deed : Deed) (b : State) → IsQuiet deed → Rests b (does b deed)
quiet_rests Feeds b q = record { rx = refl; kind = refl }
quiet_rests (SendsIt c) b q = record { rx = refl; kind = refl }
quiet_rests Confirms b q = confirms_rests b.tx.accounts.news b
quiet_rests (Receives c) b q = record { rx = refl; kind = refl }
quiet_rests HandsUp b q = absurd q
quiet_rests (Asks c) b q = record { rx = refl; kind = refl }
quiet_rests (Sets ttis) b q = record { rx = refl; kind = refl }

all_rest : (deeds : List Deed) (b : State) → AreQuiet deeds → Rests b (does_all deeds b)
all_rest [] b q = record { rx = refl; kind = refl }
all_rest (deed ∷ deeds) b q =
    let one = quiet_rests deed b q.0 in
    let rest = all_rest deeds (does b deed) q.1 in
    record { rx = rest.rx ∙ one.rx; kind = rest.kind ∙ one.kind }

pub record Stays (b d : State) : Type 0 where
  pub rx : d.pdcp.rx ≡ b.pdcp.rx
  pub kind : d.pdcp.kind ≡ b.pdcp.kind
  pub idle : IsIdle d

pub calls_stay : (b : State) (c : Call) → IsCall c → IsIdle b → Stays b (called b c)
calls_stay b c g idle =
    let r = all_rest (deeds_of b c) b (calls_quiet b c g) in
    subst (Stays b) (sym (calls_as b c g))
    (record { rx = r.rx; kind = r.kind; idle = quiet_idle (deeds_of b c) b (calls_quiet b c g) idle })

-- ---- timers change nothing of what the sender has

abbrev IsCalm : Deed → Type 0
IsCalm Feeds = ⊥
IsCalm (SendsIt c) = Unit {0}
IsCalm Confirms = ⊥
IsCalm (Receives c) = Unit {0}
IsCalm HandsUp = ⊥
IsCalm (Asks (Submits sdu)) = ⊥
IsCalm (Asks Takes) = ⊥
IsCalm (Asks (Confirms-place place)) = ⊥
IsCalm (Asks (Report fms bitmap)) = ⊥
IsCalm (Asks (Owe report)) = ⊥
IsCalm (Asks TickPdcp) = Unit {0}
IsCalm (Asks Late) = Unit {0}
IsCalm (Sets ttis) = ⊥

pub record Keeps (first : ℕ) (p : Protection) (sdus : List (List ℕ)) (s t : Sending) : Type 0 where
  pub sends : Sends first p sdus t
  pub queued : queue t ≡ queue s

pub keeps_itself : (first : ℕ) (p : Protection) (sdus : List (List ℕ)) (s : Sending) → Sends first p sdus s
    → Keeps first p sdus s s
keeps_itself first p sdus s h = record { sends = h; queued = refl }

calm_one : (first : ℕ) (p : Protection) (sdus : List (List ℕ)) (deed : Deed) (b : State) → IsCalm deed
    → Sends first p sdus b.pdcp.tx → Keeps first p sdus b.pdcp.tx (does b deed).pdcp.tx
calm_one first p sdus Feeds b g h = absurd g
calm_one first p sdus (SendsIt c) b g h = keeps_itself first p sdus b.pdcp.tx h
calm_one first p sdus Confirms b g h = absurd g
calm_one first p sdus (Receives c) b g h = keeps_itself first p sdus b.pdcp.tx h
calm_one first p sdus HandsUp b g h = absurd g
calm_one first p sdus (Asks (Submits sdu)) b g h = absurd g
calm_one first p sdus (Asks Takes) b g h = absurd g
calm_one first p sdus (Asks (Confirms-place place)) b g h = absurd g
calm_one first p sdus (Asks (Report fms bitmap)) b g h = absurd g
calm_one first p sdus (Asks (Owe report)) b g h = absurd g
calm_one first p sdus (Asks TickPdcp) b g h =
    record { sends = clock_sends first p sdus b.pdcp.tx (after b.pdcp.tx TickPdcp).clock h; queued = refl }
calm_one first p sdus (Asks Late) b g h =
    subst (Keeps first p sdus b.pdcp.tx) (sym (never_late b.pdcp.tx h.unset)) (keeps_itself first p sdus b.pdcp.tx h)
calm_one first p sdus (Sets ttis) b g h = absurd g

calm_all : (first : ℕ) (p : Protection) (sdus : List (List ℕ)) (deeds : List Deed) (b : State)
    → AllByRecursion IsCalm deeds → Sends first p sdus b.pdcp.tx
    → Keeps first p sdus b.pdcp.tx (does_all deeds b).pdcp.tx
calm_all first p sdus [] b g h = keeps_itself first p sdus b.pdcp.tx h
calm_all first p sdus (deed ∷ deeds) b g h =
    let one = calm_one first p sdus deed b g.0 h in
    let rest = calm_all first p sdus deeds (does b deed) g.1 one.sends in
    record { sends = rest.sends; queued = rest.queued ∙ one.queued }

calm_then : (xs ys : List Deed) → AllByRecursion IsCalm xs → AllByRecursion IsCalm ys → AllByRecursion IsCalm (xs ++ ys)
calm_then [] ys h k = k
calm_then (x ∷ xs) ys h k = (h.0, calm_then xs ys h.1 k)

calm_if : (b : Bool) (deed : Deed) → IsCalm deed → AllByRecursion IsCalm (only_if b deed)
calm_if true deed g = (g, tt)
calm_if false deed g = tt

expires_calm : (clock : Clock) (b : State) → IsCalm (expires clock b)
expires_calm Poll b = tt
expires_calm Reorder b = tt
expires_calm Prohibit b = tt

counted_calm : (clock : Clock) → IsCalm (counted clock)
counted_calm Poll = tt
counted_calm Reorder = tt
counted_calm Prohibit = tt

ticks_calm : (clock : Clock) (b : State) → AllByRecursion IsCalm (ticks clock b)
ticks_calm clock b = (counted_calm clock, calm_if (has_ended clock b) (expires clock b) (expires_calm clock b))

lates_calm : (told : List Event) → AllByRecursion IsCalm (map (λ event. Asks Late) told)
lates_calm [] = tt
lates_calm (x ∷ told) = (tt, lates_calm told)

discards_calm : (told : List Event) (e : Ends) → AllByRecursion IsCalm (discards told e)
discards_calm told e = (
  tt,
  calm_then (map (λ event. Asks Late) told) (only_if (nat_lt 0 (length told)) (settles (after_discards e)))
      (lates_calm told) (calm_if (nat_lt 0 (length told)) (settles (after_discards e)) tt),
)

tick_calm : (b : State) → AllByRecursion IsCalm (deeds_of b Tick)
tick_calm b =
    calm_then (ticks Poll b ++ ticks Reorder b ++ ticks Prohibit b) (discards (tick_told b.pdcp) b.pdcp)
    (calm_then (ticks Poll b ++ ticks Reorder b) (ticks Prohibit b)
    (calm_then (ticks Poll b) (ticks Reorder b) (ticks_calm Poll b) (ticks_calm Reorder b))
    (ticks_calm Prohibit b))
    (discards_calm (tick_told b.pdcp) b.pdcp)

pub tick_keeps : (first : ℕ) (p : Protection) (sdus : List (List ℕ)) (b : State) → Sends first p sdus b.pdcp.tx
    → Keeps first p sdus b.pdcp.tx (called b Tick).pdcp.tx
tick_keeps first p sdus b h =
    subst (λ (d : State). Keeps first p sdus b.pdcp.tx d.pdcp.tx) (sym (calls_as b Tick tt))
    (calm_all first p sdus (deeds_of b Tick) b (tick_calm b) h)

pub expire_keeps : (first : ℕ) (p : Protection) (sdus : List (List ℕ)) (b : State) (clock : Clock)
    → Sends first p sdus b.pdcp.tx → Keeps first p sdus b.pdcp.tx (called b (Expire clock)).pdcp.tx
expire_keeps first p sdus b clock h =
    subst (λ (d : State). Keeps first p sdus b.pdcp.tx d.pdcp.tx) (sym (calls_as b (Expire clock) tt))
    (calm_all first p sdus (deeds_of b (Expire clock)) b (expires_calm clock b, tt) h)
