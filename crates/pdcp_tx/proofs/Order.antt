-- COUNTs are taken in ascending order.
use Rattle.std.proofs.Common.{◌≡◌, ◌≤◌, ℕ, ◌+◌, ◌-◌, Bool, true, false, List, [], ◌∷◌, ◌++◌, map, take, Option, Some}
use Rattle.std.proofs.Common.{None, slice_get, refl, arith}
use Rattle.l2_num.specs.Ascending.{IsAscending, AreBetween}
use Rattle.pdcp_tx_store.specs.declared.given.Sent.{Sent}
use Rattle.pdcp_tx_store.specs.Waiting.{Waits}
use Rattle.pdcp_tx_store.specs.Given.{tells, untold}
use Rattle.pdcp_tx.specs.State.{State, offers, owed_offers, again_offer, new_offers, submitted, took, took_owed}
use Rattle.pdcp_tx.specs.State.{took_again, took_new, confirmed, reported, reported_from, fms_count, owing, ticked}
use Rattle.pdcp_tx.specs.State.{after_late}
use Rattle.pdcp_tx.specs.Runs.{Call, Submit, Take, Confirm, Report, Owe, Tick, Late, count_of, taken}

abbrev counts : List Sent → List ℕ
counts ss = map (λ x. x.count) ss

lower : (a b : ℕ) (ns : List ℕ) (end : ℕ) → a ≤ b → AreBetween b ns end → AreBetween a ns end
lower a b [] end le h = omega (arith, h)
lower a b (n ∷ ns) end le h = (omega (arith, h.0), h.1)

untold_step : (low from : ℕ) (bitmap : List ℕ) (s : Sent) (ss : List Sent) (end : ℕ) (b : Bool)
    → tells from bitmap s.count ≡ b
    → low ≤ s.count → AreBetween (s.count + 1) (counts (untold from bitmap ss)) end
    → AreBetween low (counts (untold from bitmap (s ∷ ss))) end
untold_step low from bitmap s ss end true e le h =
    rw e (lower low (s.count + 1) (counts (untold from bitmap ss)) end (omega arith) h)
untold_step low from bitmap s ss end false e le h = rw e (le, h)

pub untold_between : (low from : ℕ) (bitmap : List ℕ) (ss : List Sent) (end : ℕ) → AreBetween low (counts ss) end
    → AreBetween low (counts (untold from bitmap ss)) end
untold_between low from bitmap [] end h = h
untold_between low from bitmap (s ∷ ss) end h =
    untold_step low from bitmap s ss end (tells from bitmap s.count) refl h.0
    (untold_between (s.count + 1) from bitmap ss end h.1)

reported_between : (low : ℕ) (c : Option ℕ) (s : State) (bitmap : List ℕ) → AreBetween low (counts s.again) s.next
    → AreBetween low (counts (reported_from c s bitmap).again) (reported_from c s bitmap).next
reported_between low None s bitmap h = h
reported_between low (Some c) s bitmap h = untold_between low c bitmap s.again s.next h

-- what follows a take ascends, where it does from each COUNT on from which the state is in order
abbrev Follows : State → List ℕ → Type 0
Follows s rest = (low : ℕ) → AreBetween low (counts s.again) s.next → IsAscending low rest

new_then : (low : ℕ) (ws : List Waits) (s : State) (rest : List ℕ) → s.again ≡ [] → low ≤ s.next
    → Follows (took_new ws s) rest → IsAscending low (count_of (slice_get (new_offers s.next ws) 0) ++ rest)
new_then low [] s rest e le f = f low (rw e le)
new_then low (w ∷ ws) s rest e le f = (le, f (s.next + 1) (rw e (omega arith)))

again_then : (low : ℕ) (ss : List Sent) (s : State) (rest : List ℕ) → s.again ≡ ss → AreBetween low (counts ss) s.next
    → Follows (took_again ss s) rest
    → IsAscending low
    (count_of (slice_get (map again_offer ss ++ new_offers s.next (take (s.bound - s.next) s.waiting)) 0) ++ rest)
again_then low [] s rest e h f = new_then low (take (s.bound - s.next) s.waiting) s rest e h f
again_then low (x ∷ xs) s rest e h f = (h.0, f (x.count + 1) h.1)

owed_then : (low : ℕ) (o : Option (List ℕ)) (s : State) (rest : List ℕ) → AreBetween low (counts s.again) s.next
    → Follows (took_owed o s) rest
    → IsAscending low
    (count_of
    (slice_get (owed_offers o ++ map again_offer s.again ++ new_offers s.next (take (s.bound - s.next) s.waiting)) 0)
    ++ rest)
owed_then low None s rest h f = again_then low s.again s rest refl h f
owed_then low (Some r) s rest h f = f low h

pub ascends : (low : ℕ) (s : State) (cs : List Call) → AreBetween low (counts s.again) s.next
    → IsAscending low (taken s cs)
unfolding submitted took confirmed reported after_late offers
ascends low s [] h = tt
ascends low s (Submit sdu ∷ cs) h = ascends low (submitted s sdu) cs h
ascends low s (Take ∷ cs) h = owed_then low s.owed s (taken (took s) cs) h (λ n g. ascends n (took s) cs g)
ascends low s (Confirm place ∷ cs) h = ascends low (confirmed s place) cs h
ascends low s (Report fms bitmap ∷ cs) h =
    ascends low (reported s fms bitmap) cs (reported_between low (fms_count s.kind s.base fms) s bitmap h)
ascends low s (Owe report ∷ cs) h = ascends low (owing s report) cs h
ascends low s (Tick ∷ cs) h = ascends low (ticked s) cs h
ascends low s (Late ∷ cs) h = ascends low (after_late s) cs h
