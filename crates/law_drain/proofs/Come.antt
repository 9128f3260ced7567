-- A sender that has come so far by calls, each SDU having an octet.
use Rattle.std.proofs.Common.{◌≡◌, ◌≤◌, ◌+◌, List, [], ◌∷◌, ◌++◌, refl, ap, subst, ◌∙◌}
use Rattle.std.specs.List.{AllByRecursion}
use Rattle.l2_types.specs.declared.config.AmTxConfig.{AmTxConfig}
use Rattle.rlc_am_tx.specs.Machine.{State as Sender}
use Rattle.law_rlc.specs.AmSender.Run.{Call as SenderCall, World, after, run_am_sender, begun}
use Rattle.law_rlc.specs.AmSender.Namings.{Marks, unmarked, marks_after}
use Rattle.law_rlc.specs.AmSender.Octets.{HasOctets}
use Rattle.law_drain.specs.Dues.{dues, sent_by, offered_by}
use Rattle.law_drain.proofs.Dues.{dues_fall}

pub record HasCome (s : Sender) (m : Marks) : Type 0 where
  pub config : AmTxConfig
  pub calls : List SenderCall
  pub some : AllByRecursion HasOctets calls
  pub is : run_am_sender marks_after calls (begun config unmarked) ≡ record { state = s; past = m }

pub run-then : (cs ds : List SenderCall) (w : World Marks)
    → run_am_sender marks_after (cs ++ ds) w ≡ run_am_sender marks_after ds (run_am_sender marks_after cs w)
run-then [] ds w = refl
run-then (c ∷ cs) ds w = run-then cs ds (record { state = after w.state c; past = marks_after w.state c w.past })

pub both-all : (cs ds : List SenderCall) → AllByRecursion HasOctets cs → AllByRecursion HasOctets ds
    → AllByRecursion HasOctets (cs ++ ds)
both-all [] ds a b = b
both-all (c ∷ cs) ds a b = (a.0, both-all cs ds a.1 b)

pub first-all : (cs ds : List SenderCall) → AllByRecursion HasOctets (cs ++ ds) → AllByRecursion HasOctets cs
first-all [] ds a = tt
first-all (c ∷ cs) ds a = (a.0, first-all cs ds a.1)

pub last-all : (cs ds : List SenderCall) → AllByRecursion HasOctets (cs ++ ds) → AllByRecursion HasOctets ds
last-all [] ds a = a
last-all (c ∷ cs) ds a = last-all cs ds a.1

pub come-then : (cs : List SenderCall) (s t : Sender) (m n : Marks) → HasCome s m → AllByRecursion HasOctets cs
    → run_am_sender marks_after cs (record { state = s; past = m }) ≡ record { state = t; past = n } → HasCome t n
come-then cs s t m n h some e = record {
  config = h.config;
  calls = h.calls ++ cs;
  some = both-all h.calls cs h.some some;
  is = run-then h.calls cs (begun h.config unmarked) ∙ ap (run_am_sender marks_after cs) h.is ∙ e;
}

pub call-falls : (s : Sender) (m : Marks) (c : SenderCall) → HasCome s m → HasOctets c
    → dues (after s c) (marks_after s c m) + sent_by s c ≤ dues s m + offered_by s c
call-falls s m c h one =
    subst
    (λ (w : World Marks). dues (after w.state c) (marks_after w.state c w.past) + sent_by w.state c
    ≤ dues w.state w.past + offered_by w.state c) h.is (dues_fall h.config h.calls c h.some one)
