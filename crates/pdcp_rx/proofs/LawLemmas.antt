-- SDUs go up in ascending order.
use Rattle.std.proofs.Common.{◌≤◌, ℕ, ◌+◌, Bool, true, false, if◌then◌else◌, List, [], ◌∷◌, ◌++◌, length, take, Option}
use Rattle.std.proofs.Common.{Some, None, arith, length-take}
use Rattle.l2_num.specs.Ascending.{IsAscending}
use Rattle.pdcp_rx.specs.declared.got.Cause.{Cause}
use Rattle.pdcp_rx.specs.declared.got.Got.{Got}
use Rattle.pdcp_rx.specs.declared.security.Opened.{Opened}
use Rattle.pdcp_rx.specs.declared.security.Opened.TheVariants.{Sdu, Differs}
use Rattle.pdcp_rx.specs.Heard.{Heard, Bad, Told, Data, heard}
use Rattle.pdcp_rx.specs.Held.{stored, rising}
use Rattle.pdcp_rx.specs.State.{State, above, passed_over, opened_at, waits, raised, left_opened, left_data, left_heard}
use Rattle.pdcp_rx.specs.State.{arrived}
use Rattle.pdcp_rx.specs.Laws.{counts_of, ups_raised, ups_placed, ups_opened, ups_data, ups_heard, Call, Arrive, Take}
use Rattle.pdcp_rx.specs.Laws.{happens, ups, gone_up}

lower : (a b : ℕ) (ns : List ℕ) → a ≤ b → IsAscending b ns → IsAscending a ns
lower a b [] le h = tt
lower a b (n ∷ ns) le h = (omega (arith, h.0), h.1)

counts_then : (n : ℕ) (hs : List (Option (List ℕ))) (rest : List ℕ) → IsAscending (n + length hs) rest
    → IsAscending n (counts_of n hs ++ rest)
counts_then n [] rest h = lower n (n + length {A = Option (List ℕ)} []) rest (omega arith) h
counts_then n (None ∷ hs) rest h =
    lower n (n + 1) (counts_of (n + 1) hs ++ rest) (omega arith)
    (counts_then (n + 1) hs rest (lower (n + 1 + length hs) (n + length (None ∷ hs)) rest (omega arith) h))
counts_then n (Some sdu ∷ hs) rest h = (
  omega arith,
  counts_then (n + 1) hs rest (lower (n + 1 + length hs) (n + length (Some sdu ∷ hs)) rest (omega arith) h),
)

raised_step : (s : State) (held : List (Option (List ℕ))) (from : ℕ) (rest : List ℕ)
    → IsAscending (raised s held from).next rest → IsAscending s.next (ups_raised s held from ++ rest)
raised_step s held from rest h =
    counts_then s.next (take (rising held from) held) rest
    (lower (s.next + length (take (rising held from) held)) (s.next + rising held from) rest
    (omega (arith, length-take (rising held from) held)) h)

placed_step : (b : Bool) (s : State) (at : ℕ) (sdu rest : List ℕ)
    → IsAscending (if b then record s { held = stored s.held at sdu }
    else raised s (stored s.held at sdu) (at + 1)).next rest → IsAscending s.next (ups_placed b s at sdu ++ rest)
placed_step true s at sdu rest h = h
placed_step false s at sdu rest h = raised_step s (stored s.held at sdu) (at + 1) rest h

opened_step : (o : Opened) (s : State) (cause : Cause) (at : ℕ) (rest : List ℕ)
    → IsAscending (left_opened s cause at o).next rest → IsAscending s.next (ups_opened s cause at o ++ rest)
opened_step (Sdu sdu) s cause at rest h = placed_step (waits s.kind cause at) s at sdu rest h
opened_step (Differs found wanted) s cause at rest h = h

data_step : (why : Option Got) (s : State) (cause : Cause) (at : ℕ) (o : Opened) (rest : List ℕ)
    → IsAscending (left_data why s cause at o).next rest → IsAscending s.next (ups_data why s cause at o ++ rest)
data_step (Some why) s cause at o rest h = h
data_step None s cause at o rest h = opened_step o s cause at rest h

heard_step : (a : Heard) (s : State) (cause : Cause) (rest : List ℕ) → IsAscending (left_heard s cause a).next rest
    → IsAscending s.next (ups_heard s cause a ++ rest)
heard_step (Bad refusal) s cause rest h = h
heard_step (Told fms bits) s cause rest h = h
heard_step (Data sn body) s cause rest h =
    data_step (passed_over s (above s sn)) s cause (above s sn) (opened_at s (above s sn) body) rest h

pub call_step : (c : Call) (s : State) (rest : List ℕ) → IsAscending (happens s c).next rest
    → IsAscending s.next (ups s c ++ rest)
unfolding happens ups arrived
call_step (Arrive pdu cause) s rest h = heard_step (heard s.kind pdu) s cause rest h
call_step Take s rest h = h

pub ascends : (s : State) (cs : List Call) → IsAscending s.next (gone_up s cs)
ascends s [] = tt
ascends s (c ∷ cs) = call_step c s (gone_up (happens s c) cs) (ascends (happens s c) cs)
