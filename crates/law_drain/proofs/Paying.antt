-- A bearer that writes in a round of a drain pays for it.
use Rattle.std.proofs.Common.{◌≡◌, ◌<◌, ◌≤◌, inl, inr, ℕ, ◌+◌, Bool, true, false, ◌||◌}
use Rattle.std.proofs.Common.{if◌then◌else◌}
use Rattle.std.proofs.Common.{nat_le, List, [], ◌∷◌, ◌++◌, length, Option, refl, ap, sym, subst, ◌∙◌, arith}
use Rattle.std.specs.Prelude.{is_some}
use Rattle.std.specs.List.{AllByRecursion}
use Rattle.std.proofs.lemmas.Bool.{cases_eq, and_parts}
use Rattle.bearer.specs.Acknowledged.State.{State}
use Rattle.bearer.specs.Acknowledged.Taking.{writes_status, status_pdu}
use Rattle.bearer.specs.Taking.{pdus}
use Rattle.bearer.specs.declared.flow.Flow.{Flow}
use Rattle.bearer.specs.declared.flow.Flow.TheVariants.{Am}
use Rattle.bearer_pdcp.specs.Telling.{pdus_of}
use Rattle.rlc_am_rx.specs.State.{State as Receiver}
use Rattle.rlc_am_rx.specs.Status.{may_write}
use Rattle.rlc_pdu.specs.declared.outcome.Taken.{Taken}
use Rattle.rlc_pdu.specs.declared.outcome.Taken.TheVariants as answers
use Rattle.law_bearer.specs.AnyBearer.Acknowledged.{data_given}
use Rattle.law_bearer.specs.AnyBearer.Calls.{Call, after_all}
use Rattle.law_bearer.specs.AnyBearer.Rounds.{Share, Round, takes_in, writes_in, arrivals, expiries, nb_calls, ue_calls}
use Rattle.law_bearer.proofs.AnyBearer.SenderCalls.{writes_what_rlc_gives}
use Rattle.law_bearer.specs.AmBearer.Calls.{deeds_of}
use Rattle.law_bearer.specs.AmBearer.Deeds.{does_all}
use Rattle.law_drain.specs.Ends.{Stands, CostsBoth, measure_from, nb_tti, ue_tti}
use Rattle.law_drain.specs.Paying.{OneWrites}
use Rattle.law_drain.specs.Pending.{pending, IsAtTop, after_calls}
use Rattle.law_drain.specs.Queues.{pieces_in}
use Rattle.law_drain.specs.Round.{IsInTti, behind, written_along, data_coming, tells, tells_along, deeds_along}
use Rattle.law_drain.proofs.Ends.{all-go, arrivals-all, coming-then, written-then, down-sent, up-sent}
use Rattle.law_drain.proofs.Hearing.{Brings, hears_in, all-hear, behind-is, calls-bring}
use Rattle.law_drain.proofs.Pending.{quiet-due}

-- ---- what is written without a data PDU is a STATUS

none-piece : (t : Taken) → pieces_in t ≡ 0 → pdus_of t ≡ []
none-piece (answers.Piece number fresh polled octets) e = absurd (omega (arith, e))
none-piece answers.Idle e = refl
none-piece answers.Small e = refl
none-piece answers.Shut e = refl
none-piece answers.Held e = refl
none-piece answers.Stopped e = refl

some-status : (w : Bool) (octets : List ℕ) (rest : List (List ℕ)) → rest ≡ []
    → 0 < length ((if w then octets ∷ [] else []) ++ rest) → w ≡ true
some-status true octets rest e h = refl
some-status false octets rest e h =
    let none : length rest ≡ 0 = ap (λ (l : List (List ℕ)). length l) e in absurd (omega (arith, h, none))

take-status : (b : State) (share : ℕ) (held : Option ℕ) → 0 < length (pdus (Am b) share held)
    → pieces_in (data_given b share held) ≡ 0 → writes_status b.rx share ≡ true
take-status b share held some none =
    some-status (writes_status b.rx share) (status_pdu b.rx share) (pdus_of (data_given b share held))
    (none-piece (data_given b share held) none)
    (subst (λ (ps : List (List ℕ)). 0 < length ps) (writes_what_rlc_gives b share held) some)

-- of a bearer that is due one
record Tells (s : Share) (b : State) : Type 0 where
  due : b.rx.due ≡ true
  told : tells_along (takes_in s) b ≡ true

due-status : (r : Receiver) (share : ℕ) → writes_status r share ≡ true → r.due ≡ true
due-status r share e =
    let may = (and_parts (may_write r) (nat_le 5 share) e).0 in (and_parts r.due _ may).0

or-false : (b : Bool) → b ≡ true → (b || false) ≡ true
or-false true e = refl
or-false false e = e

share-tells : (here : Bool) (share : ℕ) (held : Option ℕ) (b : State)
    → 0 < length (writes_in (record { here = here; octets = share; held = held }) (Am b))
    → written_along (takes_in (record { here = here; octets = share; held = held })) b ≡ 0
    → Tells (record { here = here; octets = share; held = held }) b
share-tells true share held b some none =
    let e = take-status b share held some (omega (arith, none)) in
    record { due = due-status b.rx share e; told = or-false (writes_status b.rx share) e }
share-tells false share held b some none = absurd (omega (arith, some))

-- ---- what is due is pending

due-pending : (s : Receiver) → s.due ≡ true → 0 < pending s
due-pending s e = by (is_some s.mark) s.due e
  where
    by : (m d : Bool) → d ≡ true → 0 < (if m then 2 else if d then 1 else 0)
    by true d q = omega arith
    by false true q = omega arith
    by false false q = absurd cc

-- what is due behind calls without data was due before
was-due : (cs : List Call) (b : State) → AllByRecursion IsInTti cs → data_coming cs ≡ 0 → (behind cs b).rx.due ≡ true
    → b.rx.due ≡ true
was-due cs b tti none e = by b.rx.due refl
  where
    brings : Brings (hears_in (deeds_along cs b) b) (data_coming cs)
    brings = calls-bring cs b tti

    is : (behind cs b).rx ≡ after_calls b.rx (hears_in (deeds_along cs b) b)
    is = ap (λ (d : State). d.rx) (behind-is cs b) ∙ all-hear (deeds_along cs b) b

    by : (d : Bool) → b.rx.due ≡ d → b.rx.due ≡ true
    by true q = q
    by false q =
        let still : (behind cs b).rx.due ≡ false = ap (λ (r : Receiver). r.due) is
        ∙ quiet-due b.rx (hears_in (deeds_along cs b) b) brings.tti (brings.data-is ∙ none) q in
        let no' : true ≡ false = sym e ∙ still in cc

-- ---- what is told

tells-first : (xs ys : List Call) (b : State) → tells_along xs b ≡ true → tells_along (xs ++ ys) b ≡ true
tells-first [] ys b e = absurd cc
tells-first (x ∷ xs) ys b e = by (tells b x) (tells_along xs (does_all (deeds_of b x) b)) e
    (tells-first xs ys (does_all (deeds_of b x) b))
  where
    by : (t u : Bool) → (t || u) ≡ true
        → (u ≡ true → tells_along (xs ++ ys) (does_all (deeds_of b x) b) ≡ true)
        → (t || tells_along (xs ++ ys) (does_all (deeds_of b x) b)) ≡ true
    by true u q f = refl
    by false u q f = f q

or-last : (a z : Bool) → z ≡ true → (a || z) ≡ true
or-last true z q = refl
or-last false z q = q

tells-last : (xs ys : List Call) (b : State) → tells_along ys (behind xs b) ≡ true → tells_along (xs ++ ys) b ≡ true
tells-last [] ys b e = e
tells-last (x ∷ xs) ys b e = or-last (tells b x) _ (tells-last xs ys (does_all (deeds_of b x) b) e)

-- ---- a round

pub writers_pay : (r : Round) (nb ue : State) (n : Stands nb) (u : Stands ue) (c : CostsBoth r nb ue n u)
    → IsAtTop nb.rx → IsAtTop ue.rx → OneWrites r nb ue
    → measure_from c.nb' c.nb_stands.lived c.ue' + measure_from c.ue' c.ue_stands.lived c.nb' + 1
    ≤ measure_from nb n.lived ue + measure_from ue u.lived nb
writers_pay r nb ue n u c nb-top ue-top writes =
    elim (cases_eq (written_along cn nb) 0) [
      | inr some ↦ omega (arith, c.down.falls, c.up.falls, some)
      | inl none ↦ elim (cases_eq (written_along cu ue) 0) [
        | inr some ↦ omega (arith, c.down.falls, c.up.falls, some)
        | inl never ↦ elim writes [
          | inl some ↦ omega (arith, c.down.falls, nb-tells some none never)
          | inr some ↦ omega (arith, c.up.falls, ue-tells some none never)
        ]
      ]
    ]
  where
    cn : List Call
    cn = nb_calls r (Am nb) (Am ue)

    cu : List Call
    cu = ue_calls r (Am nb) (Am ue)

    came : List Call
    came = arrivals (writes_in r.down (Am nb))

    back : List Call
    back = arrivals (writes_in r.up (after_all (Am ue) (arrivals (writes_in r.down (Am nb)))))

    mid : State
    mid = behind (arrivals (writes_in r.down (Am nb))) ue

    nb-tells : 0 < length (writes_in r.down (Am nb)) → written_along (nb_calls r (Am nb) (Am ue)) nb ≡ 0
        → written_along (ue_calls r (Am nb) (Am ue)) ue ≡ 0
        → measure_from c.ue' c.ue_stands.lived c.nb' + 1 ≤ measure_from ue u.lived nb
    nb-tells some none never =
        let t = share-tells r.down.here r.down.octets r.down.held nb some
        (omega (arith, none, written-then (takes_in r.down) (back ++ expiries r.polls) nb)) in
        let quiet' : data_coming (nb_tti r nb ue) ≡ 0 = omega (arith, up-sent r nb ue n u, never) in
        c.up.settles quiet' nb-top (due-pending nb.rx t.due) (λ m. tells-first (takes_in r.down) back nb t.told)

    ue-tells : 0 < length (writes_in r.up (after_all (Am ue) (arrivals (writes_in r.down (Am nb)))))
        → written_along (nb_calls r (Am nb) (Am ue)) nb ≡ 0 → written_along (ue_calls r (Am nb) (Am ue)) ue ≡ 0
        → measure_from c.nb' c.nb_stands.lived c.ue' + 1 ≤ measure_from nb n.lived ue
    ue-tells some none never =
        let writes' : 0 < length (writes_in r.up (Am mid)) =
        subst (λ (f : Flow). 0 < length (writes_in r.up f)) (all-go came ue u.kind u.idle).left some in
        let t = share-tells r.up.here r.up.octets r.up.held mid writes'
        (omega (
          arith,
          never,
          written-then came (takes_in r.up ++ expiries r.polls) ue,
          written-then (takes_in r.up) (expiries r.polls) mid,
        )) in
        let quiet' : data_coming (ue_tti r nb ue) ≡ 0 = omega (arith, down-sent r nb ue n u, none) in
        let calm : data_coming came ≡ 0 = omega (arith, quiet', coming-then came (takes_in r.up)) in
        let due = was-due came ue (arrivals-all IsInTti (writes_in r.down (Am nb)) (λ pdu. tt)) calm t.due in
        c.down.settles quiet' ue-top (due-pending ue.rx due) (λ m. tells-last came (takes_in r.up) ue t.told)
