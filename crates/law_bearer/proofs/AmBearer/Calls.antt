-- Each call of an acknowledged bearer is its deeds.
use Rattle.std.proofs.Common.{◌≡◌, inl, inr, ℕ, List, [], subst, refl, ap, sym, ◌∙◌}
use Rattle.l2_types.specs.declared.Clock.{Clock}
use Rattle.pdcp_pdu.specs.Kinds.{is_am}
use Rattle.rlc_pdu.specs.Reading.{am_at}
use Rattle.bearer.specs.Acknowledged.State.{State}
use Rattle.bearer.specs.Acknowledged.Hearing.{arriving as am_arriving, after_arrival}
use Rattle.bearer.specs.declared.flow.Flow.TheVariants.{Am}
use Rattle.bearer.specs.Submitting.{submitted}
use Rattle.bearer.specs.Taking.{after as taken_from}
use Rattle.bearer.specs.Hearing.{arrived, arriving, expired, expiry, ticked, ticking, with_discard}
use Rattle.law_bearer.specs.AnyBearer.Calls.{Call, Submit, Take, Arrive, Expire, Tick, SetDiscard, after}
use Rattle.law_bearer.specs.AmBearer.Deeds.{does_all, go_up}
use Rattle.law_bearer.specs.AmBearer.Calls.{deeds_of, tells, ups_among, IsOfData, IsIdle, AreDeeds}
use Rattle.law_bearer.specs.AmBearer.Calls.{IsOfSignalling, AreSignallingDeeds}
use Rattle.law_bearer.proofs.AmBearer.Ups.{AreQuiet, quiet_up}
use Rattle.law_bearer.proofs.AmBearer.Hearing.{IsHearing}
use Rattle.law_bearer.proofs.AmBearer.Keeping.{data_stays, signalling_stays, quiet_idle}
use Rattle.law_bearer.proofs.AmBearer.Taking.{takes_as, takes_quiet, taking_ups}
use Rattle.law_bearer.proofs.AmBearer.Arriving.{comes}
use Rattle.law_bearer.proofs.AmBearer.Timing.{expires_as, expires_quiet, expiry_none, tti_as, tti_quiet, tti_none}

-- what is left, what goes up, and that nothing is left over
record Made (b : State) (c : Call) : Type 0 where
  left : after (Am b) c ≡ Am (does_all (deeds_of b c) b)
  ups : go_up (deeds_of b c) b ≡ ups_among (tells b c)
  idle : IsIdle (does_all (deeds_of b c) b)

-- of quiet deeds
quietly : (b : State) (c : Call) → IsIdle b → AreQuiet (deeds_of b c) → ups_among (tells b c) ≡ []
    → after (Am b) c ≡ Am (does_all (deeds_of b c) b) → Made b c
quietly b c idle q none left = record {
  left = left;
  ups = quiet_up (deeds_of b c) b q ∙ sym none;
  idle = quiet_idle (deeds_of b c) b q idle;
}

arriving_as : (b : State) (pdu : List ℕ) → IsHearing b.pdcp → IsIdle b → Made b (Arrive pdu)
unfolding arrived arriving am_arriving after_arrival
arriving_as b pdu k idle =
    let one = comes (am_at pdu) b k idle in
    record {
      left = ap (λ (d : State). Am d) (sym one.left);
      ups = one.ups;
      idle = subst IsIdle (sym one.left) one.idle;
    }

expiry_told : (b : State) (clock : Clock) → ups_among (tells b (Expire clock)) ≡ []
unfolding expiry
expiry_told b clock = expiry_none clock b

tick_told : (b : State) → ups_among (tells b Tick) ≡ []
unfolding ticking
tick_told b = tti_none b

made : (b : State) (c : Call) → IsHearing b.pdcp → IsIdle b → Made b c
unfolding submitted taken_from expired ticked with_discard
made b (Submit sdu) k idle = quietly b (Submit sdu) idle (tt, tt) refl refl
made b (Take share held) k idle =
    quietly b (Take share held) idle (takes_quiet b share held) (taking_ups b share held)
    (ap (λ (d : State). Am d) (sym (takes_as b share held)))
made b (Arrive pdu) k idle = arriving_as b pdu k idle
made b (Expire clock) k idle =
    quietly b (Expire clock) idle (expires_quiet clock b, tt) (expiry_told b clock)
    (ap (λ (d : State). Am d) (sym (expires_as clock b)))
made b Tick k idle = quietly b Tick idle (tti_quiet b) (tick_told b) (ap (λ (d : State). Am d) (sym (tti_as b)))
made b (SetDiscard ttis) k idle = quietly b (SetDiscard ttis) idle (tt, tt) refl refl

-- ---- of data, and of signalling

pub calls_are_deeds : (bits : ℕ) (b : State) (c : Call) → IsOfData bits b → IsIdle b → AreDeeds bits b c
calls_are_deeds bits b c h idle =
    let one = made b c (inl (ap is_am h.kind)) idle in
    record { left = one.left; ups = one.ups; stays = data_stays bits (deeds_of b c) b h; idle = one.idle }

pub signalling_calls_are_deeds : (b : State) (c : Call) → IsOfSignalling b → IsIdle b → AreSignallingDeeds b c
signalling_calls_are_deeds b c h idle =
    let one = made b c (inr h.receiving) idle in
    record { left = one.left; ups = one.ups; stays = signalling_stays (deeds_of b c) b h; idle = one.idle }
