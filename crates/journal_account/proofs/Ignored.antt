-- How many STATUS were ignored, along a history.
use Rattle.std.proofs.Common.{◌≡◌, ◌<◌, ◌≤◌, ℕ, ◌+◌, Bool, true, false, not, List, ◌∷◌, ap, sym, ◌∙◌, arith, refl}
use Rattle.std.proofs.Common.{nat_lt, if◌then◌else◌}
use Rattle.std.proofs.lemmas.Bool.{ltb-true, ltb-false}
use Rattle.journal_account.specs.FlowEvents.{FlowEvent, StatusHeard}
use Rattle.journal_account.specs.Arrived.{all_below}
use Rattle.journal_account.specs.Acked.{is_acked, ignored_in}
use Rattle.journal_account.specs.FlowAccount.{FlowAccount, ignored_with}
use Rattle.journal_account.proofs.Complete.{below_all, below_not}
use Rattle.journal_account.proofs.Acking.{Acks}

-- all numbers up to an ACK below VT(A) are acknowledged, and VT(A) isn't
below_base : (es : List FlowEvent) (a : FlowAccount) (ack : ℕ) → Acks es a.sending.base a.sending.numbers
    → (b : Bool) → nat_lt ack a.sending.base ≡ b → all_below (is_acked es) (ack + 1) ≡ b
below_base es a ack h true is =
    let lt : ack < a.sending.base = ltb-true ack a.sending.base is in
    below_all (is_acked es) (ack + 1) (λ i l. h.below i (omega arith))
below_base es a ack h false is =
    let le : a.sending.base ≤ ack = ltb-false ack a.sending.base is in
    below_not (is_acked es) (ack + 1) a.sending.base (omega arith) h.opens

twice_not : (b : Bool) → not (not b) ≡ b
twice_not true = refl
twice_not false = refl

pub ignored_step : (e : FlowEvent) (es : List FlowEvent) (a : FlowAccount) → Acks es a.sending.base a.sending.numbers
    → a.ignored ≡ ignored_in es → ignored_with e a ≡ ignored_in (e ∷ es)
ignored_step (StatusHeard ack entries) es a h is =
    ap (λ (n : ℕ). if nat_lt ack a.sending.base then n + 1 else n) is
    ∙ ap (λ (b : Bool). if b then ignored_in es + 1 else ignored_in es)
    (sym (twice_not (all_below (is_acked es) (ack + 1))
    ∙ below_base es a ack h (nat_lt ack a.sending.base) refl))
ignored_step e es a h is = is
