-- PDUs that fit a share.
use Rattle.std.proofs.Common.{◌≡◌, ◌≤◌, ℕ, ◌+◌, ◌-◌, List, [], ◌∷◌, ◌++◌, length, subst, sym, arith}
use Rattle.std.proofs.lemmas.List.Elements.{All-nil, All-cons, All-append}
use Rattle.std.proofs.lemmas.List.Sums.{sum_by-cons, sum_by-append}
use Rattle.rlc_pdu.specs.declared.Taken.{Taken}
use Rattle.rlc_pdu.specs.declared.Taken.TheVariants.{Piece, Idle, Small, Shut, Held, Stopped}
use Rattle.rlc_queue.specs.NewPdu.{IsWithin}
use Rattle.bearer_pdcp.specs.Shares.{FitsShare}
use Rattle.bearer_pdcp.specs.Telling.{pdus_of}

abbrev Some : List ℕ → Type 0
Some pdu = 1 ≤ length pdu

abbrev octets : List ℕ → ℕ
octets pdu = length pdu + 3

-- none
pub fits-none : (share : ℕ) → FitsShare share []
fits-none share = record { some = All-nil Some; within = omega arith }

-- one
pub fits-one : (share : ℕ) (pdu : List ℕ) → 1 ≤ length pdu → length pdu ≤ share - 3 → FitsShare share (pdu ∷ [])
fits-one share pdu some le =
    let total = sum_by-cons octets pdu [] in
    record { some = All-cons Some pdu [] some (All-nil Some); within = omega (arith, total) }

-- those of two shares, in both together
pub fits-both : (a b : ℕ) (xs ys : List (List ℕ)) → FitsShare a xs → FitsShare b ys → FitsShare (a + b) (xs ++ ys)
fits-both a b xs ys h k =
    let total = sum_by-append octets xs ys in
    let x = h.within in
    let y = k.within in
    record { some = All-append Some xs ys h.some k.some; within = omega (arith, total, x, y) }

-- the PDU of a sender's answer
answer-fits : (share : ℕ) (t : Taken) → IsWithin (share - 3) t → FitsShare share (pdus_of t)
answer-fits share (Piece number fresh polled octets) h = fits-one share octets h.0 h.1
answer-fits share Idle h = fits-none share
answer-fits share Small h = fits-none share
answer-fits share Shut h = fits-none share
answer-fits share Held h = fits-none share
answer-fits share Stopped h = fits-none share

pub taken-fits : (share : ℕ) (t : Taken) (pdus : List (List ℕ)) → IsWithin (share - 3) t → pdus ≡ pdus_of t
    → FitsShare share pdus
taken-fits share t pdus h e = subst (λ (xs : List (List ℕ)). FitsShare share xs) (sym e) (answer-fits share t h)

-- a STATUS or none, and then that PDU in what is left of the share
pub both-fit : (share left : ℕ) (front pdus : List (List ℕ)) (t : Taken) → left ≤ share
    → FitsShare (share - left) front → IsWithin (left - 3) t → pdus ≡ front ++ pdus_of t → FitsShare share pdus
both-fit share left front pdus t le f h e =
    let total : share - left + left ≡ share = omega arith in
    subst (λ (xs : List (List ℕ)). FitsShare share xs) (sym e)
    (subst (λ (n : ℕ). FitsShare n (front ++ pdus_of t)) total
    (fits-both (share - left) left front (pdus_of t) f (answer-fits left t h)))

pub ruleset fits = (taken-fits)

pub ruleset both = (both-fit)

pub ruleset few = (fits-none, fits-one)
