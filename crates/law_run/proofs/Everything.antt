-- The journal of every script is promised.
use Rattle.std.proofs.Common.{Bool, ℕ, List}
use Rattle.law_run.specs.Promises.{IsPromised}
use Rattle.air_run.specs.Journal.{journal_of}
use Rattle.law_run.proofs.Arriving.{hand_up_what_came, takes_stay_in_half}
use Rattle.law_run.proofs.BearersFirst.{bearers_begin_first}
use Rattle.law_run.proofs.Counts.{counts_behind}
use Rattle.law_run.proofs.CountsTold.{counts_are_told}
use Rattle.law_run.proofs.Delivering.{delivers_in_order}
use Rattle.law_run.proofs.DrainDone.{none_spends, drains_end}
use Rattle.law_run.proofs.Drains.{drains_leave_nothing}
use Rattle.law_run.proofs.FewVisits.{visits_are_few}
use Rattle.law_run.proofs.Keys.{keys_behind}
use Rattle.law_run.proofs.Losses.{delivers_while_short}
use Rattle.law_run.proofs.LinesAscend.{lines_ascend}
use Rattle.law_run.proofs.Looping.{return_in_order}
use Rattle.law_run.proofs.OwnPdus.Groups.{pdus_are_own}
use Rattle.law_run.proofs.Past.{behind, are_carried}
use Rattle.law_run.proofs.Playing.{tells-all}
use Rattle.law_run.proofs.Queueing.{queues_are_short}
use Rattle.law_run.proofs.RightAir.{air_is_right}
use Rattle.law_run.proofs.RightForm.{form_is_right}
use Rattle.law_run.proofs.Reaching.{come_by_calls}
use Rattle.law_run.proofs.Meeting.{none_meet}
use Rattle.law_run.proofs.NumbersSent.{numbers_are_sent}
use Rattle.law_run.proofs.RulesKept.{lines_keep_rules}
use Rattle.law_run.proofs.Silent.{failed_are_silent}
use Rattle.law_run.proofs.Taking.{takes_name, sdus_leave_in_order, signals_leave_in_order}
use Rattle.law_run.proofs.Signalling.{delivers_each_life, drains_leave_no_signal, handovers_bring_none}
use Rattle.law_run.proofs.Signalling.{hand_up_in_sequence}
use Rattle.law_run.proofs.Sleeping.{sleeps_behind_drx}
use Rattle.law_run.proofs.Standing.{lines_tell}
use Rattle.law_run.proofs.WaitingSdus.Groups.{sdus_wait}
use Rattle.law_run.proofs.Zero.{bring_in_order}

pub every-journal : (whole : Bool) (octets : List ℕ) → IsPromised whole octets (journal_of whole octets)
every-journal whole octets =
    let t = tells-all whole octets in
    record {
      past = t.later;
      journal_is = rw t.history_is t.journal_is;
      lines_are = t.lines_are;
      ascend = lines_ascend whole octets (journal_of whole octets).close t.later t.lines_are;
      order = t.order;
      rules = lines_keep_rules t.later t.order;
      bearers = bearers_begin_first t.later t.order;
      in_turn = (behind t.later t.order).in_turn;
      sleeps = sleeps_behind_drx t.later t.order;
      few = visits_are_few t.later t.order;
      carried = are_carried t.later t.order;
      air = air_is_right t.later t.order (lines_tell t.later t.order) (are_carried t.later t.order);
      form = form_is_right t.later t.order (lines_tell t.later t.order);
      keys = (keys_behind t.later t.order).distinct;
      counts = counts_behind t.later t.order;
      counted = counts_are_told t.later t.order;
      texts = none_meet t.later t.order;
      ends = come_by_calls t.later t.order;
      loops = return_in_order t.later t.order;
      brought = bring_in_order t.later t.order;
      delivered = delivers_in_order t.later t.order;
      came = hand_up_what_came t.later t.order;
      takes = takes_name t.later t.order;
      leaving = sdus_leave_in_order t.later t.order;
      signals_leaving = signals_leave_in_order t.later t.order;
      waits = sdus_wait t.later t.order;
      queues = queues_are_short t.later t.order;
      in_half = takes_stay_in_half t.later t.order;
      own = pdus_are_own t.later t.order;
      ended = drains_end t.later t.order;
      within_budget = none_spends t.later t.order;
      drained = drains_leave_nothing t.later t.order;
      signalled = delivers_each_life t.later t.order;
      sequence = hand_up_in_sequence t.later t.order;
      signals_drained = drains_leave_no_signal t.later t.order;
      signals_moved = handovers_bring_none t.later t.order;
      silent = failed_are_silent t.later t.order;
      numbers = numbers_are_sent t.later t.order;
      delivered_short = delivers_while_short t.later t.order;
      in_order = lines_tell t.later t.order;
    }
