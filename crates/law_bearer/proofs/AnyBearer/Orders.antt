-- In a life the report is taken first, and then SDUs by ascending COUNTs.
use Rattle.std.proofs.Common.{◌≡◌, ◌≤◌, ℕ, ◌+◌, ◌-◌, List, [], ◌∷◌, ◌++◌, map, take, Option, Some}
use Rattle.std.proofs.Common.{None, subst, refl, arith}
use Rattle.l2_num.specs.Ascending.{AreBetween}
use Rattle.pdcp_tx_store.specs.declared.given.Sent.{Sent}
use Rattle.pdcp_tx_store.specs.Waiting.{Waits}
use Rattle.pdcp_tx.specs.State.{State, Offer, offers, owed_offers, again_offer, new_offers, submitted, took, took_owed}
use Rattle.pdcp_tx.specs.State.{took_again, took_new, confirmed, reported, reported_from, fms_count, after_late}
use Rattle.pdcp_tx.specs.Runs.{Submit, Take, Confirm, Report, Owe, Tick, Late, IsOrdered}
use Rattle.pdcp_tx.proofs.Order.{untold_between}
use Rattle.law_pdcp.specs.OneEnd.Lives.{Step, Calls, SetDiscard, Restart, goes}
use Rattle.law_bearer.specs.AnyBearer.Stream.{AreSdus, AreInOrder}
use Rattle.law_bearer.proofs.AnyBearer.Sender.{doings, AreOfLife}

abbrev counts : List Sent → List ℕ
counts ss = map (λ x. x.count) ss

-- what a state has to take again lies from a COUNT on
abbrev Stands : ℕ → State → Type 0
Stands low s = AreBetween low (counts s.again) s.next

-- in order, from a COUNT on
abbrev pub AreFrom : ℕ → Option (List ℕ) → List Offer → Type 0
AreFrom low None os = AreSdus low os
AreFrom low (Some report) [] = Unit {0}
AreFrom low (Some report) (o ∷ os) = (o ≡ record { count = None; text = report }) × AreSdus low os

-- ---- a report leaves the order

reported_stands : (low : ℕ) (c : Option ℕ) (s : State) (bitmap : List ℕ) → Stands low s
    → Stands low (reported_from c s bitmap)
reported_stands low None s bitmap h = h
reported_stands low (Some c) s bitmap h = untold_between low c bitmap s.again s.next h

report_owed : (c : Option ℕ) (s : State) (bitmap : List ℕ) → (reported_from c s bitmap).owed ≡ s.owed
report_owed None s bitmap = refl
report_owed (Some c) s bitmap = refl

-- ---- a take

-- what follows is in order, from each COUNT on from which the state is
abbrev Follows : State → List Offer → Type 0
Follows s rest = (low : ℕ) → Stands low s → AreFrom low s.owed rest

new_then : (low : ℕ) (ws : List Waits) (s : State) (rest : List Offer) → s.owed ≡ None → s.again ≡ [] → low ≤ s.next
    → Follows (took_new ws s) rest → AreSdus low (take 1 (new_offers s.next ws) ++ rest)
new_then low [] s rest o a le f = subst (λ r. AreFrom low r rest) o (f low (rw a le))
new_then low (w ∷ ws) s rest o a le f =
    let begin : s.next + 1 ≤ s.next + 1 = omega arith in
    let behind : AreSdus (s.next + 1) rest = subst (λ r. AreFrom (s.next + 1) r rest) o (f (s.next + 1) (rw a begin)) in
    (record { count = s.next; is = refl; from = le }, behind)

again_then : (low : ℕ) (ss : List Sent) (s : State) (rest : List Offer) → s.owed ≡ None → s.again ≡ ss
    → AreBetween low (counts ss) s.next
    → Follows (took_again ss s) rest
    → AreSdus low (take 1 (map again_offer ss ++ new_offers s.next (take (s.bound - s.next) s.waiting)) ++ rest)
again_then low [] s rest o a h f = new_then low (take (s.bound - s.next) s.waiting) s rest o a h f
again_then low (x ∷ xs) s rest o a h f = (
  record { count = x.count; is = refl; from = h.0 },
  subst (λ r. AreFrom (x.count + 1) r rest) o (f (x.count + 1) h.1),
)

owed_then : (low : ℕ) (o : Option (List ℕ)) (s : State) (rest : List Offer) → s.owed ≡ o → Stands low s
    → Follows (took_owed o s) rest
    → AreFrom low o
    (take 1 (owed_offers o ++ map again_offer s.again ++ new_offers s.next (take (s.bound - s.next) s.waiting))
    ++ rest)
owed_then low None s rest o h f = again_then low s.again s rest o refl h f
owed_then low (Some r) s rest o h f = (refl, f low h)

-- ---- any steps

pub from_on : (low : ℕ) (s : State) (xs : List Step) → AreOfLife xs → Stands low s
    → AreFrom low s.owed (doings s xs).taken
unfolding submitted took confirmed reported after_late offers
from_on low s [] l h = nothing s.owed
  where
    nothing : (o : Option (List ℕ)) → AreFrom low o []
    nothing None = tt
    nothing (Some r) = tt
from_on low s (Calls (Submit sdu) ∷ xs) l h = from_on low (submitted s sdu) xs l.1 h
from_on low s (Calls Take ∷ xs) l h =
    owed_then low s.owed s (doings (took s) xs).taken refl h (λ n g. from_on n (took s) xs l.1 g)
from_on low s (Calls (Confirm place) ∷ xs) l h = from_on low (confirmed s place) xs l.1 h
from_on low s (Calls (Report fms bitmap) ∷ xs) l h =
    subst (λ r. AreFrom low r (doings (reported s fms bitmap) xs).taken)
    (report_owed (fms_count s.kind s.base fms) s bitmap)
    (from_on low (reported s fms bitmap) xs l.1 (reported_stands low (fms_count s.kind s.base fms) s bitmap h))
from_on low s (Calls (Owe report) ∷ xs) l h = absurd l.0
from_on low s (Calls Tick ∷ xs) l h = from_on low (goes s (Calls Tick)) xs l.1 h
from_on low s (Calls Late ∷ xs) l h = from_on low (after_late s) xs l.1 h
from_on low s (SetDiscard ttis ∷ xs) l h = from_on low (goes s (SetDiscard ttis)) xs l.1 h
from_on low s (Restart keys ∷ xs) l h = absurd l.0

pub in_order : (s : State) (xs : List Step) → AreOfLife xs → IsOrdered s → AreInOrder s.owed (doings s xs).taken
in_order s xs l h = same s.owed (doings s xs).taken (from_on 0 s xs l h)
  where
    same : (o : Option (List ℕ)) (os : List Offer) → AreFrom 0 o os → AreInOrder o os
    same None os h = h
    same (Some r) [] h = tt
    same (Some r) (o ∷ os) h = h
