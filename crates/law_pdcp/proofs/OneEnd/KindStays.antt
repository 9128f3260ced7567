-- A step leaves the kind as it is.
use Rattle.std.proofs.Common.{◌≡◌, ℕ, ◌-◌, List, [], ◌∷◌, take, Option, Some, None, refl}
use Rattle.pdcp_tx_store.specs.declared.given.Sent.{Sent}
use Rattle.pdcp_tx_store.specs.Waiting.{Waits}
use Rattle.pdcp_tx.specs.State.{State, submitted, took, took_owed, took_again, took_new, confirmed, reported}
use Rattle.pdcp_tx.specs.State.{reported_from, fms_count, after_late, restarted}
use Rattle.pdcp_tx.specs.Runs.{Submit, Take, Confirm, Report, Owe, Tick, Late}
use Rattle.law_pdcp.specs.OneEnd.Lives.{Step, Calls, SetDiscard, Restart, goes}

new_kind : (s : State) (ws : List Waits) → (took_new ws s).kind ≡ s.kind
new_kind s [] = refl
new_kind s (w ∷ ws) = refl

again_kind : (s : State) (ss : List Sent) → (took_again ss s).kind ≡ s.kind
again_kind s [] = new_kind s (take (s.bound - s.next) s.waiting)
again_kind s (x ∷ xs) = refl

owed_kind : (s : State) (o : Option (List ℕ)) → (took_owed o s).kind ≡ s.kind
owed_kind s None = again_kind s s.again
owed_kind s (Some r) = refl

report_kind : (s : State) (c : Option ℕ) (bitmap : List ℕ) → (reported_from c s bitmap).kind ≡ s.kind
report_kind s None bitmap = refl
report_kind s (Some c) bitmap = refl

pub kind_stays : (s : State) (x : Step) → (goes s x).kind ≡ s.kind
unfolding submitted took confirmed reported after_late restarted
kind_stays s (Calls (Submit sdu)) = refl
kind_stays s (Calls Take) = owed_kind s s.owed
kind_stays s (Calls (Confirm place)) = refl
kind_stays s (Calls (Report fms bitmap)) = report_kind s (fms_count s.kind s.base fms) bitmap
kind_stays s (Calls (Owe report)) = refl
kind_stays s (Calls Tick) = refl
kind_stays s (Calls Late) = refl
kind_stays s (SetDiscard ttis) = refl
kind_stays s (Restart keys) = refl
