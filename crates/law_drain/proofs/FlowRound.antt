-- What a round of a drain costs one acknowledged flow.
use Rattle.std.proofs.Common.{◌≡◌, ◌<◌, ◌≤◌, inl, inr, ℕ, ◌+◌, ◌*◌, Bool, true}
use Rattle.std.proofs.Common.{List}
use Rattle.std.proofs.Common.{[], ◌∷◌, ◌++◌, Option, Some, None, refl, ap, subst, ◌∙◌, arith}
use Rattle.std.proofs.lemmas.Bool.{cases_eq}
use Rattle.std.specs.List.{AllByRecursion}
use Rattle.l2_num.specs.Timers.{runs}
use Rattle.rlc_am_rx.specs.State.{State as Receiver}
use Rattle.law_rlc.specs.AmReceiver.Run.{Call as ReceiverCall}
use Rattle.law_rlc.specs.AmSender.Run.{Call as SenderCall, Expire, World, after, run_am_sender, begun}
use Rattle.law_rlc.specs.AmSender.Namings.{Marks, unmarked, marks_after}
use Rattle.law_rlc.specs.AmSender.Octets.{HasOctets}
use Rattle.law_drain.specs.Dues.{dues}
use Rattle.law_drain.specs.Flow.{next, sent_along, offered_along, RoundsCost}
use Rattle.law_drain.specs.Pending.{pending, IsOfTti, data_in, writes_status, round, IsAtTop, Settles}
use Rattle.law_drain.specs.Quiet.{quiet, TurnsQuiet}
use Rattle.law_drain.proofs.Come.{HasCome, run-then, first-all, come-then, call-falls}
use Rattle.law_drain.proofs.Pending.{rounds_settle}
use Rattle.law_drain.proofs.Quiet.{quiet_ends}

-- ---- the sender

pub turns-quiet : (w : World Marks) (more : Bool) → HasCome w.state w.past → TurnsQuiet w more
turns-quiet w more h =
    subst (λ (v : World Marks). TurnsQuiet v more) h.is (quiet_ends h.config h.calls more h.some)

come-next : (w : World Marks) (c : SenderCall) → HasCome w.state w.past → HasOctets c
    → HasCome (next w c).state (next w c).past
come-next w c h some =
    come-then (c ∷ []) w.state (after w.state c) w.past (marks_after w.state c w.past) h (some, tt) refl

owes-less : (cs : List SenderCall) (w : World Marks) → HasCome w.state w.past → AllByRecursion HasOctets cs
    → dues (run_am_sender marks_after cs w).state (run_am_sender marks_after cs w).past + sent_along cs w
    ≤ dues w.state w.past + offered_along cs w
owes-less [] w h some = omega arith
owes-less (c ∷ cs) w h some =
    let one = call-falls w.state w.past c h some.0 in
    let rest = owes-less cs (next w c) (come-next w c h some.0) some.1 in
    omega (arith, one, rest)

pays : (cs : List SenderCall) (w : World Marks) (more : Bool) → HasCome w.state w.past → AllByRecursion HasOctets cs
    → 3 * dues (run_am_sender marks_after cs w).state (run_am_sender marks_after cs w).past
    + quiet (run_am_sender marks_after cs w).state more + 2 * sent_along cs w
    ≤ 3 * dues w.state w.past + quiet w.state more + 3 * offered_along cs w
pays [] w more h some = omega arith
pays (c ∷ cs) w more h some =
    let one = call-falls w.state w.past c h some.0 in
    let two = (turns-quiet w more h).pays c some.0 in
    let rest = pays cs (next w c) more (come-next w c h some.0) some.1 in
    omega (arith, one, two, rest)

come-along : (cs : List SenderCall) (w : World Marks) → HasCome w.state w.past → AllByRecursion HasOctets cs
    → HasCome (run_am_sender marks_after cs w).state (run_am_sender marks_after cs w).past
come-along [] w h some = h
come-along (c ∷ cs) w h some = come-along cs (next w c) (come-next w c h some.0) some.1

-- ---- the receiver

pub pends : (r : Receiver) (rs : List ReceiverCall) → AllByRecursion IsOfTti rs → data_in rs ≤ 1
    → pending (round r rs) ≤ pending r + data_in rs
pends r rs h few = elim (cases_eq (data_in rs) 0) [
  | inl none ↦ let calm = (rounds_settle r rs h few).calm none in omega (arith, calm)
  | inr some ↦ let rises = (rounds_settle r rs h few).rises in omega (arith, rises, some)
]

pub pends-less : (r : Receiver) (rs : List ReceiverCall) → AllByRecursion IsOfTti rs → data_in rs ≡ 0 → IsAtTop r
    → 0 < pending r → (r.mark ≡ None → writes_status rs ≡ true) → pending (round r rs) + 1 ≤ pending r
pends-less r rs h none top some told = by r.mark refl
  where
    settles : Settles r rs
    settles = rounds_settle r rs h (omega (arith, none))

    by : (o : Option ℕ) → r.mark ≡ o → pending (round r rs) + 1 ≤ pending r
    by None e = omega (arith, settles.told none (told e) e, some)
    by (Some x) e =
        let two : pending r ≡ 2 = rw e refl in
        omega (arith, settles.stops none top, two)

-- ---- a round

pub rounds_cost : RoundsCost
rounds_cost config calls cs r rs more before some tti few sent = record {
  falls = omega (arith, pays cs w more come some, pends r rs tti few, sent, few);
  settles = λ none top some' told.
      omega (arith, pays cs w more come some, pends-less r rs tti none top some' told);
  recalls = λ front is running waiting.
      let still : quiet (run_am_sender marks_after cs w).state more ≡ 0 = ends front is running in
      omega (arith, owes-less cs w come some, pends r rs tti few, sent, few, still, waiting);
}
  where
    w : World Marks
    w = run_am_sender marks_after calls (begun config unmarked)

    come : HasCome w.state w.past
    come = record { config = config; calls = calls; some = before; is = refl }

    ends : (front : List SenderCall) → cs ≡ front ++ Expire more ∷ []
        → runs (run_am_sender marks_after front w).state.polls.timer ≡ true
        → quiet (run_am_sender marks_after cs w).state more ≡ 0
    ends front is running =
        let v = run_am_sender marks_after front w in
        let all : AllByRecursion HasOctets (front ++ Expire more ∷ []) =
        subst (λ (xs : List SenderCall). AllByRecursion HasOctets xs) is some in
        let last : run_am_sender marks_after cs w ≡ next v (Expire more) =
        ap (λ (xs : List SenderCall). run_am_sender marks_after xs w) is ∙ run-then front (Expire more ∷ []) w in
        ap (λ (u : World Marks). quiet u.state more) last
        ∙ (turns-quiet v more (come-along front w come (first-all front (Expire more ∷ []) all))).ends running
