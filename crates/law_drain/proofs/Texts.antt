-- What PDCP's sender has still to give, by the SDUs that aren't confirmed, each of which has an octet.
use Rattle.std.proofs.Common.{◌≡◌, ◌<◌, ◌≤◌, ℕ, ◌+◌, ◌*◌, List, [], ◌∷◌, length, arith}
use Rattle.std.proofs.Math.Nat.{mul-le-mul_left}
use Rattle.std.specs.List.{AllByRecursion}
use Rattle.pdcp_tx_store.specs.declared.given.Sent.{Sent}
use Rattle.pdcp_tx_store.specs.Given.{open_octets, sent_octets}
use Rattle.pdcp_tx_store.specs.Waiting.{Waits, length_all}
use Rattle.pdcp_tx.specs.Pdus.{extra}
use Rattle.pdcp_tx.specs.Runs.{Submit, Take, Confirm, Report, Owe, Tick, Late}
use Rattle.pdcp_tx.specs.State.{State, start, left}
use Rattle.law_pdcp.specs.OneEnd.Lives.{Step, Calls, SetDiscard, Restart, run_pdcp_sender}
use Rattle.law_drain.specs.Budget.{HasOctets, UnsentIsLeft}
use Rattle.law_drain.specs.Ends.{HasOctet}
use Rattle.law_drain.specs.Left.{AllSent, AllWaiting, SdusHaveOctets}
use Rattle.law_drain.specs.Unsent.{again_octets, waiting_octets}
use Rattle.law_drain.proofs.Keeping.{Brings, run-keeps, start-keeps}

-- ---- headers

one-more : (size more : ℕ) → 0 < size → size + more ≤ (more + 1) * size
one-more size more some =
    let all = mul-le-mul_left more some in
    let apart : (more + 1) * size ≡ more * size + size = grind arith in
    omega (arith, all, apart)

again-most : (more : ℕ) (ss : List Sent) → AllSent HasOctet ss → again_octets more ss ≤ (more + 1) * sent_octets ss
again-most more [] h = omega arith
again-most more (s ∷ ss) h =
    let apart : (more + 1) * (length s.octets + sent_octets ss)
    ≡ (more + 1) * length s.octets + (more + 1) * sent_octets ss = grind arith in
    omega (arith, one-more (length s.octets) more h.0, again-most more ss h.1, apart)

waiting-most : (more : ℕ) (ws : List Waits) → AllWaiting HasOctet ws
    → waiting_octets more ws ≤ (more + 1) * length_all ws
waiting-most more [] h = omega arith
waiting-most more (w ∷ ws) h =
    let apart : (more + 1) * (length w.sdu + length_all ws)
    ≡ (more + 1) * length w.sdu + (more + 1) * length_all ws = grind arith in
    omega (arith, one-more (length w.sdu) more h.0, waiting-most more ws h.1, apart)

pub texts-left : (s : State) → SdusHaveOctets s
    → again_octets (extra s.kind) s.again + waiting_octets (extra s.kind) s.waiting ≤ (extra s.kind + 1) * left s
unfolding left
texts-left s h =
    let k = extra s.kind in
    let apart : (k + 1) * (open_octets s.given.entries + sent_octets s.again + length_all s.waiting)
    ≡ (k + 1) * open_octets s.given.entries + (k + 1) * sent_octets s.again + (k + 1) * length_all s.waiting =
    grind arith in
    omega (arith, again-most k s.again h.0, waiting-most k s.waiting h.1, apart)

-- ---- through any steps

octets-bring : (x : Step) → HasOctets x → Brings HasOctet x
octets-bring (Calls (Submit sdu)) h = h
octets-bring (Calls Take) h = tt
octets-bring (Calls (Confirm place)) h = tt
octets-bring (Calls (Report fms bitmap)) h = tt
octets-bring (Calls (Owe report)) h = tt
octets-bring (Calls Tick) h = tt
octets-bring (Calls Late) h = tt
octets-bring (SetDiscard ttis) h = tt
octets-bring (Restart keys) h = tt

all-bring : (steps : List Step) → AllByRecursion HasOctets steps → AllByRecursion (Brings HasOctet) steps
all-bring [] h = tt
all-bring (x ∷ xs) h = (octets-bring x h.0, all-bring xs h.1)

pub unsent_is_left : UnsentIsLeft
unsent_is_left kind p first steps t =
    let s = run_pdcp_sender steps (start kind p first) in
    let k = run-keeps HasOctet steps (start kind p first) (all-bring steps t) (start-keeps HasOctet kind p first) in
    omega (arith, texts-left s (k.again, k.waiting))
