-- Where nothing is left at the sender, all that it was offered has arrived.
use Rattle.std.proofs.Common.{◌≡◌, ◌<◌, ◌≤◌, inl, inr, ℕ, ◌+◌, true, false, List, [], ◌∷◌, ◌++◌, length, refl, ap, sym}
use Rattle.std.proofs.Common.{◌∙◌, arith}
use Rattle.std.proofs.lemmas.Bool.{cases_lt}
use Rattle.std.proofs.lemmas.List.{append-nil, length-append}
use Rattle.rlc_am_tx.specs.Machine.{State, turn}
use Rattle.rlc_am_tx.specs.Need.{left}
use Rattle.law_rlc.specs.AmSender.Run.{Call as SenderCall, Offer, Take, Status, Tick, Expire, Settle, Confirm, after}
use Rattle.law_rlc.specs.AmSender.Run.{run_am_sender, begun}
use Rattle.law_rlc.specs.AmSender.Confirmed.{Confirmations, unconfirmed, confirmations_after, times}
use Rattle.law_rlc.specs.AmSender.Octets.{nothing_sent, octets_after}
use Rattle.law_rlc.proofs.AmSender.Left.{leaves-only-unconfirmed}
use Rattle.law_rlc.specs.AmPair.Flow.{Flow, sender}
use Rattle.law_rlc.specs.AmPair.Sdus.{offered_in, offered, handed_up, ready}
use Rattle.law_words.specs.Lists.{AreFirstSdus}
use Rattle.law_rlc.specs.AmPair.Seen.{seen}
use Rattle.law_rlc.specs.AmPair.Confirmed.{confirmations, confirmed, Arrives}
use Rattle.law_rlc.specs.AmPair.Arrives.{arrives}
use Rattle.law_rlc.specs.AmPair.Left.{HasAllUp}
use Rattle.law_rlc.proofs.AmPair.Runs.{same-state}
use Rattle.law_rlc.proofs.AmPair.Sound.{IsSound}
use Rattle.law_rlc.proofs.AmPair.Owners.{turn-marks}
use Rattle.law_rlc.proofs.AmPair.Sdus.{hands-up}
use Rattle.law_rlc.proofs.AmPair.Covered.{arrives as confirmed-there}
use Rattle.law_rlc.proofs.AmPair.Later.{there-arrives}
use Rattle.law_rlc.proofs.AmPair.ByPlace.{has-ready}

-- ---- how many were offered

run-offered : (cs : List SenderCall) (s : State) (g : Confirmations)
    → (run_am_sender confirmations_after cs (record { state = s; past = g })).past.offered
    ≡ g.offered + length (offered_in cs)
run-offered [] s g = omega arith
run-offered (Offer sdu ∷ cs) s g = let ih =
    run-offered cs (after s (Offer sdu)) (confirmations_after s (Offer sdu) g) in omega (arith, ih)
run-offered (Take size held more ∷ cs) s g =
    let ih = run-offered cs (after s (Take size held more)) (confirmations_after s (Take size held more) g) in
    let same = (turn-marks (turn s size held more) s size g).1 in omega (arith, ih, same)
run-offered (Status status ∷ cs) s g =
    run-offered cs (after s (Status status)) (confirmations_after s (Status status) g)
run-offered (Tick ∷ cs) s g = run-offered cs (after s Tick) (confirmations_after s Tick g)
run-offered (Expire more ∷ cs) s g = run-offered cs (after s (Expire more)) (confirmations_after s (Expire more) g)
run-offered (Settle more ∷ cs) s g = run-offered cs (after s (Settle more)) (confirmations_after s (Settle more) g)
run-offered (Confirm ∷ cs) s g = run-offered cs (after s Confirm) (confirmations_after s Confirm g)

-- ---- all that was offered has arrived

all-arrived : (f : Flow) (place : ℕ) → IsSound f → left (sender f).state ≡ 0 → place < length (offered f)
    → arrives f place ≡ true
all-arrived f place h none lt =
    let same : (confirmations f).state ≡ (sender f).state =
    same-state confirmations_after octets_after f.sent (begun f.sending unconfirmed) (begun f.sending nothing_sent)
    refl in
    let many = run-offered f.sent (begun f.sending unconfirmed).state unconfirmed in
    let once : times place (confirmed f) ≡ 1 =
    leaves-only-unconfirmed f.sending f.sent h.offered (ap left same ∙ none) place (omega (arith, many, lt)) in
    let r : Arrives f place = confirmed-there f place h (omega (arith, once)) in
    there-arrives (seen f) place (record { ends = r.ends; octets = r.octets })

none-more : (xs : List (List ℕ)) → length xs ≡ 0 → xs ≡ []
none-more [] e = refl
none-more (x ∷ xs) e = absurd (omega (arith, e))

pub has-all-up : (f : Flow) → IsSound f → HasAllUp f
has-all-up f h none =
    let first : AreFirstSdus (handed_up f ++ ready f) (offered f) = hands-up f h in
    let all = ap (λ (xs : List (List ℕ)). length xs) first.is in
    let l = length-append (handed_up f ++ ready f) first.rest in
    let m = length-append (handed_up f) (ready f) in
    let few : length (offered f) ≤ length (handed_up f) + length (ready f) =
    elim (cases_lt (length (handed_up f) + length (ready f)) (length (offered f))) [
      | inl lt ↦ let no' : false ≡ true = sym (has-ready f h).stops
          ∙ all-arrived f (length (handed_up f) + length (ready f)) h none lt in cc
      | inr ge ↦ ge
    ] in
    let none : first.rest ≡ [] = none-more first.rest (omega (arith, all, l, m, few)) in
    sym (first.is ∙ (ap (λ (xs : List (List ℕ)). (handed_up f ++ ready f) ++ xs) none
    ∙ append-nil (handed_up f ++ ready f)))
