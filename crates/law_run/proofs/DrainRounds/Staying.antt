-- What holds as a drain begins stays so.
use Rattle.std.proofs.Common.{ℕ, List, [], ◌∷◌, ap, ◌∙◌}
use Rattle.std.specs.List.{AllByRecursion}
use Rattle.air_link.specs.Draining.{drain_tti}
use Rattle.air_link.specs.Link.{Link}
use Rattle.air_record.specs.declared.record.Record.{Record}
use Rattle.test_loop.specs.Loops.{is_on}
use Rattle.law_run.specs.AnyCalls.Calls.{ReceiversExpire as Receivers, SendersExpire as Senders}
use Rattle.law_run.specs.AnyCalls.Ends.{GoesOn}
use Rattle.law_run.specs.AnyCalls.Loops.{IsAtRest, LoopsBack}
use Rattle.law_run.specs.AnyCalls.Runs.{Drains, Calls}
use Rattle.law_run.specs.DrainTtis.{Step, Tti, ReceiversExpire, SendersExpire, happens, goes, HaveChannel}
use Rattle.law_run.specs.DrainRounds.{IsOfDrain, MayDrain}
use Rattle.law_run.proofs.AnyCalls.Advancing.{call_goes_on, drain_goes}
use Rattle.law_run.proofs.AnyCalls.Settling.{calls_loop_back, drains_loop_back}
use Rattle.law_run.proofs.DrainTtis.Clearing.{steps_eight}
use Rattle.law_run.proofs.DrainTtis.Hearing.{ready_on, come_both}

-- ---- a step

back : (s : Step) (k : Link) → IsAtRest k → LoopsBack k.looping.mode k (happens k s)
back (Tti grant) k r = drains_loop_back grant k r
back ReceiversExpire k r = calls_loop_back Receivers k r
back SendersExpire k r = calls_loop_back Senders k r

record On (k m : Link) : Type 0 where
  blocks : List Record
  goes : GoesOn blocks k m

on : (s : Step) (k : Link) → IsOfDrain s → On k (happens k s)
on (Tti grant) k g = record { blocks = _; goes = (drain_goes grant k g.1).goes }
on ReceiversExpire k g = record { blocks = _; goes = call_goes_on Receivers k tt }
on SendersExpire k g = record { blocks = _; goes = call_goes_on Senders k tt }

pub step_stays : (s : Step) (k : Link) → IsOfDrain s → MayDrain k → MayDrain (happens k s)
step_stays (Tti grant) k g h =
    let b = back (Tti grant) k h.rests in
    record {
      eight = steps_eight (Drains grant) k h.eight;
      come = come_both _ k (drain_tti grant k) (on (Tti grant) k g).goes h.come;
      rests = b.rests;
      off = ap is_on b.mode_is ∙ h.off;
    }
step_stays ReceiversExpire k g h =
    let b = back ReceiversExpire k h.rests in
    record {
      eight = steps_eight (Calls Receivers) k h.eight;
      come = come_both _ k (happens k ReceiversExpire) (on ReceiversExpire k g).goes h.come;
      rests = b.rests;
      off = ap is_on b.mode_is ∙ h.off;
    }
step_stays SendersExpire k g h =
    let b = back SendersExpire k h.rests in
    record {
      eight = steps_eight (Calls Senders) k h.eight;
      come = come_both _ k (happens k SendersExpire) (on SendersExpire k g).goes h.come;
      rests = b.rests;
      off = ap is_on b.mode_is ∙ h.off;
    }

pub channel_stays : (s : Step) (k : Link) (l : ℕ) → IsOfDrain s → MayDrain k → HaveChannel l k
    → HaveChannel l (happens k s)
channel_stays s k l g h c =
    (ready_on l _ k (happens k s) (on s k g).goes (record { come = h.come; channel = c })).channel

-- ---- any steps

pub drains_stay : (steps : List Step) (k : Link) → AllByRecursion IsOfDrain steps → MayDrain k
    → MayDrain (goes steps k)
drains_stay [] k g h = h
drains_stay (s ∷ steps) k g h = drains_stay steps (happens k s) g.1 (step_stays s k g.0 h)

pub channels_stay : (steps : List Step) (k : Link) (l : ℕ) → AllByRecursion IsOfDrain steps → MayDrain k
    → HaveChannel l k → HaveChannel l (goes steps k)
channels_stay [] k l g h c = c
channels_stay (s ∷ steps) k l g h c =
    channels_stay steps (happens k s) l g.1 (step_stays s k g.0 h) (channel_stays s k l g.0 h c)
