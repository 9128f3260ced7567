-- As a direction goes on, the history of its flow says that those are newly confirmed that its
-- sender confirms.
use Rattle.std.proofs.Common.{◌≡◌, ℕ, ◌+◌, Bool, true, false, not, ◌&&◌, ◌||◌, ◌==◌, if◌then◌else◌}
use Rattle.std.proofs.Common.{List, [], ◌∷◌, ◌++◌, refl, ap, sym, ◌∙◌, subst, arith}
use Rattle.std.proofs.lemmas.List.{append_cancel_left, append-nil}
use Rattle.l2_num.specs.Ascending.{IsAscending}
use Rattle.rlc_am_tx.specs.Machine.{State, after_status}
use Rattle.rlc_am_tx_window.specs.Numbers.{Ascend}
use Rattle.rlc_pdu.specs.Pdus.{StatusPdu}
use Rattle.journal_account.specs.Confirmed.{is_confirmed_sdu}
use Rattle.law_rlc.specs.AmPair.Confirmed.{confirmed, confirmations}
use Rattle.law_rlc.specs.AmPair.Flow.{Flow}
use Rattle.law_rlc.specs.AmSender.Confirmed.{Confirmations, confirmations_after, places, times}
use Rattle.law_rlc.specs.AmSender.Run.{World, Status, after}
use Rattle.law_rlc.proofs.AmPair.Confirming.{same-sender}
use Rattle.law_rlc.proofs.AmSender.Confirms.{confirms}
use Rattle.law_given.specs.Joined.{rlc}
use Rattle.law_given.specs.Beside.{NoneConfirmedAnew, ThoseConfirmedAnew, NewsAscend}
use Rattle.law_given.proofs.Confirming.{all_confirmed, more_are}
use Rattle.law_given.proofs.ConfirmingOnly.{one, same_one, stays_one}
use Rattle.law_given.proofs.LandingTold.{none-past}
use Rattle.law_given.proofs.SupplyConfirming.{has}

pub none_confirmed_anew : NoneConfirmedAnew
none_confirmed_anew most most' d e es es' offers ups g h k follows later number =
    let none = g.confirmed_is number in
    same_one (is_confirmed_sdu es' number) (is_confirmed_sdu es number)
    (sym (all_confirmed most' (rlc e) es' k later number)
    ∙ (omega (arith, none) ∙ all_confirmed most (rlc d) es h follows number))

-- a number that stands once among some is one of them, and one that stands nowhere isn't
stands-so : (b : Bool) (k : ℕ) (numbers : List ℕ) → times k numbers ≡ one b → has numbers k ≡ b
stands-so true k [] e = cc
stands-so false k [] e = refl
stands-so b k (x ∷ xs) e = by (x == k) b e (stands-so b k xs)
  where
    by : (same b : Bool) → (if same then 1 else 0) + times k xs ≡ one b → (times k xs ≡ one b → has xs k ≡ b)
        → (same || has xs k) ≡ b
    by true true e rest = refl
    by true false e rest = absurd (omega (arith, e))
    by false b e rest = rest (omega (arith, e))

pub those_confirmed_anew : ThoseConfirmedAnew
those_confirmed_anew most most' d e es es' offers ups news g h k follows later ascend =
    record { ascend = ascend; are_new = new; stay = stay; only_given = none-past es' }
  where
    before : (number : ℕ) → times number (confirmed (rlc d)) ≡ one (is_confirmed_sdu es number)
    before number = all_confirmed most (rlc d) es h follows number

    behind : (number : ℕ)
        → times number (confirmed (rlc d)) + times number news ≡ one (is_confirmed_sdu es' number)
    behind number = sym (g.confirmed_is number) ∙ all_confirmed most' (rlc e) es' k later number

    new : (number : ℕ) → has news number ≡ (is_confirmed_sdu es' number && not (is_confirmed_sdu es number))
    new number =
        stands-so (is_confirmed_sdu es' number && not (is_confirmed_sdu es number)) number news
        (more_are (is_confirmed_sdu es number) (is_confirmed_sdu es' number) (times number news)
        (times number (confirmed (rlc d))) (before number) (behind number))

    stay : (number : ℕ) → is_confirmed_sdu es number ≡ true → is_confirmed_sdu es' number ≡ true
    stay number is =
        stays_one (is_confirmed_sdu es number) (is_confirmed_sdu es' number) (times number (confirmed (rlc d)))
        (times number news) (before number) (behind number) is

-- ---- what one STATUS confirms

ascend-so : (low : ℕ) (numbers : List ℕ) → Ascend low numbers → IsAscending low numbers
ascend-so low [] h = tt
ascend-so low (x ∷ xs) h = (h.0, ascend-so (x + 1) xs h.1)

flow-ascends : (f : Flow) (status : StatusPdu) (s : State) → (confirmations f).state ≡ s → s.accounts.news ≡ []
    → IsAscending 0 (after_status s status).accounts.news
flow-ascends f status s e none =
    subst (λ (x : State). IsAscending 0 (after_status x status).accounts.news) e
    (subst (IsAscending 0) (sym later) (ascend-so 0 order.0 order.1.1))
  where
    w : World Confirmations
    w = confirmations f

    order : (later : List ℕ)
        × ((places (after w.state (Status status)) (confirmations_after w.state (Status status) w.past)
        ≡ places w.state w.past ++ later) × Ascend 0 later)
    order = (confirms f.sending f.sent).order (Status status)

    given : List ℕ
    given = w.past.given

    nothing : w.state.accounts.news ≡ []
    nothing = ap (λ (x : State). x.accounts.news) e ∙ none

    later : (after_status w.state status).accounts.news ≡ order.0
    later =
        append_cancel_left given (after_status w.state status).accounts.news order.0
        (order.1.0
        ∙ ap (λ (l : List ℕ). (given ++ l) ++ order.0) nothing
        ∙ ap (λ (l : List ℕ). l ++ order.0) (append-nil given))

pub news_ascend : NewsAscend
news_ascend d b status e none =
    flow-ascends (rlc d) status b.tx (same-sender (rlc d) ∙ e) none
