-- A STATUS that a receiver writes speaks of numbers from VR(R) on, less than a round above.
use Rattle.std.proofs.Common.{◌≡◌, ◌≤◌, inl, inr, ℕ, Bool, true, false, List, sym, ◌∙◌, arith}
use Rattle.std.proofs.lemmas.Bool.{cases_lt}
use Rattle.l2_num.specs.Least.{IsLeast}
use Rattle.rlc_am_rx.specs.Status.{ack}
use Rattle.journal_account.specs.Arrived.{is_complete_in}
use Rattle.journal_account.specs.FlowAccount.{account_of}
use Rattle.journal_account.specs.FlowArrivals.{FlowArrivals}
use Rattle.journal_account.specs.FlowEvents.{FlowEvent, IsHistory}
use Rattle.journal_account.proofs.Accounts.{accounts_are_true}
use Rattle.journal_flows.specs.NumberedPdus.{front_in}
use Rattle.journal_flows.proofs.Numbers.{front_least}
use Rattle.law_account.specs.Reporting.{IsReportTrue, reported}
use Rattle.law_account.proofs.Reporting.{reports_true}
use Rattle.law_account.proofs.FlowReceiving.{histories_tell_reports}
use Rattle.law_sound.specs.ReportLaws.{ReportsAreGathered}
use Rattle.law_sound.proofs.Statuses.{statuses_gathered}

one_least : (p : ℕ → Bool) (m k l : ℕ) → IsLeast p m k → IsLeast p m l → k ≤ l
one_least p m k l g h = elim (cases_lt l k) [
  | inl lt ↦ let no : true ≡ false = sym (g.before l h.from lt) ∙ h.refused in absurd cc
  | inr le ↦ le
]

-- VR(R) as it is kept is the one that the history says
front_is : (most : ℕ) (es : List FlowEvent) → IsHistory es → (account_of most es).arrivals.front ≡ front_in es
front_is most es h =
    let kept = (accounts_are_true most es h).arrivals.front in
    let told = front_least es in
    omega (
      arith,
      one_least (is_complete_in es) 0 (account_of most es).arrivals.front (front_in es) kept told,
      one_least (is_complete_in es) 0 (front_in es) (account_of most es).arrivals.front told kept,
    )

pub reports_gathered : ReportsAreGathered
reports_gathered most es s size next lcid status h r ack_is nacks_are = record {
  gathered = statuses_gathered next (front_in es) lcid status (ack s size) (reported s size) (record {
    ack_sn = ack_is;
    nack_sns = nacks_are ∙ t.nack_sns;
    ack_from = record {
      from = omega (arith, front, t.ack_from);
      below = omega (arith, front, t.ack_to, t.bound_near);
    };
    from = λ n e. record {
      from = omega (arith, front, t.from n e);
      below = omega (arith, front, t.below n e, t.bound_near);
    };
  });
  is_true = histories_tell_reports most es s size h r;
}
  where
    a : FlowArrivals
    a = (account_of most es).arrivals

    t : IsReportTrue s a size
    t = reports_true s a size r

    front : a.front ≡ front_in es
    front = front_is most es h
