-- A bearer of acknowledged data that needs nothing of a grant is drained or quiet.
use Rattle.std.proofs.Common.{◌≡◌, ◌<◌, ◌≤◌, ◌⊎◌, inl, inr, ◌+◌, Bool, true, false, [], length}
use Rattle.std.proofs.Common.{None, refl, arith}
use Rattle.std.proofs.lemmas.Bool.Decides.{nat_tests}
use Rattle.std.proofs.lemmas.Bool.{cases_lt}
use Rattle.bearer.specs.Acknowledged.State.{State}
use Rattle.bearer.specs.Acknowledged.Sums.{need, is_drained, pdcp_waiting}
use Rattle.law_bearer.specs.AmBearer.Deeds.{does_all}
use Rattle.rlc_am_tx.specs.Machine.{is_shut}
use Rattle.rlc_queue.specs.Waiting.{wanted}
use Rattle.law_drain.specs.Bearer.{bearer_quiet}
use Rattle.law_drain.specs.Done.{HasSentAll, IdleIsDrained}
use Rattle.law_drain.proofs.Idle.{none-more, data-none, idle, idle_is_quiet}
use Rattle.law_drain.proofs.Tied.{sent_is_drained}

pub failed-drained : (b : State) → b.tx.failed ≡ true → is_drained b ≡ true
unfolding is_drained
failed-drained b e = rw e refl

-- nothing is left to send or to take where the window is empty
pub sent-all : (b : State) → need b None ≡ 0 → b.tx.failed ≡ false → b.tx.accounts.news ≡ []
    → length b.tx.window.slots ≡ 0 → HasSentAll b
sent-all b none go told empty =
    let shut : is_shut b.tx ≡ false = grind (arith, nat_tests, empty) in
    let rests = idle b.tx (pdcp_waiting b.pdcp) (data-none b none) go in
    let zero' : wanted b.tx.queue.sdus + pdcp_waiting b.pdcp ≡ 0 = rests.1 shut in
    record {
      told = told;
      acknowledged = empty;
      sent = omega (arith, zero');
      taken = none-more b.pdcp (omega (arith, zero'));
    }

pub idle_is_drained : IdleIsDrained
idle_is_drained b kind p first steps deeds am given nothing e some life told none =
    by now.tx.failed (cases_lt 0 (length now.tx.window.slots)) refl
  where
    now : State
    now = does_all deeds b

    by : (f : Bool) → (0 < length now.tx.window.slots) ⊎ (length now.tx.window.slots ≤ 0) → now.tx.failed ≡ f
        → (is_drained now ≡ true) ⊎ (bearer_quiet now ≡ 1)
    by true q x = inl (failed-drained now x)
    by false (inl open') x = inr (idle_is_quiet now none x open')
    by false (inr past) x =
        inl (sent_is_drained b kind p first steps deeds am given nothing e some life
        (sent-all now none x told (omega (arith, past))))
