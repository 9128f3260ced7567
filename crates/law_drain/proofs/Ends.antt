-- What a round of a drain costs the flows between both ends of an acknowledged bearer.
use Rattle.std.proofs.Common.{◌≡◌, ◌≤◌, ◌<◌, inl, inr, ℕ, zero, suc, ◌+◌, ◌-◌, ◌*◌, ◌/◌, ◌%◌, Bool, true, false}
use Rattle.std.proofs.Common.{if◌then◌else◌, nat_lt}
use Rattle.std.proofs.Common.{List, [], ◌∷◌, ◌++◌, take, drop, length, Option, Result, Ok, Err, append_assoc, refl, ap}
use Rattle.std.proofs.Common.{sym, subst, ◌∙◌, arith}
use Rattle.std.proofs.lemmas.Bool.Decides.{nat_tests}
use Rattle.std.specs.List.{AllByRecursion}
use Rattle.l2_bits.specs.Bits.{bits, digit, filling, number}
use Rattle.l2_num.specs.Timers.{runs}
use Rattle.bearer.specs.Acknowledged.Reports.{octets_in}
use Rattle.bearer.specs.Acknowledged.State.{State}
use Rattle.bearer.specs.Acknowledged.Taking.{writes_status, status_pdu}
use Rattle.bearer.specs.Taking.{pdus}
use Rattle.bearer.specs.declared.flow.Flow.{Flow}
use Rattle.bearer.specs.declared.flow.Flow.TheVariants.{Am}
use Rattle.bearer_pdcp.specs.Telling.{pdus_of}
use Rattle.rlc_am_rx.specs.State.{State as Receiver}
use Rattle.rlc_am_rx.specs.Status.{ack, nacks}
use Rattle.rlc_pdu.specs.declared.fault.RlcRefusal.{RlcRefusal}
use Rattle.rlc_pdu.specs.declared.outcome.Taken.{Taken}
use Rattle.rlc_pdu.specs.declared.outcome.Taken.TheVariants as answers
use Rattle.rlc_pdu.specs.Pdus.{AcknowledgedPdu, StatusPdu, Payload, Status}
use Rattle.rlc_pdu.specs.Reading.{am_at, amd_at, as_status, as_payload, control_at}
use Rattle.rlc_pdu.specs.Status.{has_more, nacks_bits, status_bits}
use Rattle.rlc_pdu.specs.Writing.{status_written}
use Rattle.rlc_pdu.specs.declared.constants.TheConstants.{AM_MODULUS}
use Rattle.law_bearer.specs.AnyBearer.Acknowledged.{data_given}
use Rattle.law_bearer.specs.AnyBearer.Calls.{Call, Take, Arrive, after, after_all}
use Rattle.law_bearer.specs.AnyBearer.Rounds.{Share, Round, takes_in, writes_in, arrivals, expiries, nb_calls, ue_calls}
use Rattle.law_bearer.proofs.AnyBearer.SenderCalls.{writes_what_rlc_gives}
use Rattle.law_bearer.specs.AmBearer.Calls.{deeds_of, IsIdle}
use Rattle.law_bearer.specs.AmBearer.Deeds.{Deed, does, does_all}
use Rattle.law_bearer.specs.AmBearer.Sending.{sends_in}
use Rattle.law_bearer.proofs.AmBearer.Calls.{calls_are_deeds, signalling_calls_are_deeds}
use Rattle.law_bearer.proofs.AmBearer.Sending.{in_then}
use Rattle.law_rlc.specs.AmSender.Octets.{HasOctets}
use Rattle.law_rlc.specs.AmSender.Run.{Call as SenderCall}
use Rattle.law_drain.specs.Bearer.{bearer_dues, bearer_quiet, marks_behind, IsOfDrain}
use Rattle.law_drain.specs.Done.{IsOfLife}
use Rattle.law_drain.specs.Ends.{HasLived, IsOfAny, Stands, measure_from, OffersOctets, CostsFrom, nb_tti, ue_tti}
use Rattle.law_drain.specs.Ends.{CostsBoth}
use Rattle.law_drain.specs.Pending.{pending, IsAtTop}
use Rattle.law_drain.specs.Queues.{pieces_in}
use Rattle.law_drain.specs.Round.{deeds_along, behind, written_along, IsInTti, is_data, data_coming, far_behind}
use Rattle.law_drain.specs.Round.{flow_measure, CostsFlow}
use Rattle.law_drain.proofs.Calm.{then-all, call-life}
use Rattle.law_drain.proofs.Come.{both-all}
use Rattle.law_drain.proofs.Hearing.{behind-is}
use Rattle.law_drain.proofs.Octets.{GiveOctets, IsOther, others-give, share-gives, along-give}
use Rattle.law_drain.proofs.Pending.{expired-top}
use Rattle.law_drain.proofs.Rounds.{flows_cost, behind-then}

-- ---- calls of a bearer are deeds

pub record Goes (cs : List Call) (b : State) : Type 0 where
  pub left : after_all (Am b) cs ≡ Am (behind cs b)
  pub kind : IsOfAny (behind cs b)
  pub idle : IsIdle (behind cs b)

record Makes (c : Call) (b : State) : Type 0 where
  left : after (Am b) c ≡ Am (does_all (deeds_of b c) b)
  kind : IsOfAny (does_all (deeds_of b c) b)
  idle : IsIdle (does_all (deeds_of b c) b)

makes : (c : Call) (b : State) → IsOfAny b → IsIdle b → Makes c b
makes c b (inl (bits, h)) idle =
    let x = calls_are_deeds bits b c h idle in
    record { left = x.left; kind = inl (bits, x.stays); idle = x.idle }
makes c b (inr h) idle =
    let x = signalling_calls_are_deeds b c h idle in
    record { left = x.left; kind = inr x.stays; idle = x.idle }

pub all-go : (cs : List Call) (b : State) → IsOfAny b → IsIdle b → Goes cs b
all-go [] b k idle = record { left = refl; kind = k; idle = idle }
all-go (c ∷ cs) b k idle =
    let one = makes c b k idle in
    let rest = all-go cs (does_all (deeds_of b c) b) one.kind one.idle in
    record {
      left = ap (λ (f : Flow). after_all f cs) one.left ∙ rest.left;
      kind = rest.kind;
      idle = rest.idle;
    }

-- ---- a STATUS isn't read as data

digit-most : (b : Bool) → digit b ≤ 1
digit-most true = omega arith
digit-most false = omega arith

four-bits : (xs : List Bool) → number (take 4 xs) < 16
four-bits [] = omega arith
four-bits (a ∷ []) = omega (arith, digit-most a)
four-bits (a ∷ b ∷ []) = omega (arith, digit-most a, digit-most b)
four-bits (a ∷ b ∷ c ∷ []) = omega (arith, digit-most a, digit-most b, digit-most c)
four-bits (a ∷ b ∷ c ∷ d ∷ xs) = omega (arith, digit-most a, digit-most b, digit-most c, digit-most d)

control-none : (r : Result StatusPdu RlcRefusal) → is_data (as_status r) ≡ 0
control-none (Ok pdu) = refl
control-none (Err refused) = refl

low-none : (a : ℕ) (rest : List ℕ) → a < 128 → is_data (am_at (a ∷ rest)) ≡ 0
low-none a rest low =
    let test : nat_lt a 128 ≡ true = grind (arith, nat_tests) in
    ap (λ (t : Bool). is_data (if t then as_status (control_at a (a ∷ rest)) else as_payload (amd_at (a ∷ rest)))) test
    ∙ control-none (control_at a (a ∷ rest))

octets-none : (n : ℕ) (xs : List Bool)
    → is_data (am_at (octets_in n (false ∷ false ∷ false ∷ false ∷ xs))) ≡ 0
octets-none zero xs = refl
octets-none (suc n) xs =
    low-none (number (take 8 (false ∷ false ∷ false ∷ false ∷ xs)))
    (octets_in n (drop 8 (false ∷ false ∷ false ∷ false ∷ xs))) (omega (arith, four-bits xs))

status-none : (r : Receiver) (share : ℕ) → is_data (am_at (status_pdu r share)) ≡ 0
unfolding bits
status-none r share =
    let a = ack r (share - 3) % AM_MODULUS in
    let ns = nacks r (share - 3) in
    octets-none (length (status_written a ns) / 8)
    ((bits 10 a ++ (bits 1 (digit (has_more ns)) ++ nacks_bits ns)) ++ bits (filling (length (status_bits a ns))) 0)

-- ---- what comes is what was written

pub coming-then : (xs ys : List Call) → data_coming (xs ++ ys) ≡ data_coming xs + data_coming ys
coming-then [] ys = omega arith
coming-then (x ∷ xs) ys = omega (arith, coming-then xs ys)

data-most : (r : Result AcknowledgedPdu RlcRefusal) → is_data r ≤ 1
data-most (Ok (Payload pdu)) = omega arith
data-most (Ok (Status pdu)) = omega arith
data-most (Err refused) = omega arith

piece-comes : (t : Taken) → data_coming (arrivals (pdus_of t)) ≤ pieces_in t
piece-comes (answers.Piece number fresh polled octets) = omega (arith, data-most (am_at octets))
piece-comes answers.Idle = omega arith
piece-comes answers.Small = omega arith
piece-comes answers.Shut = omega arith
piece-comes answers.Held = omega arith
piece-comes answers.Stopped = omega arith

pieces-most : (t : Taken) → pieces_in t ≤ 1
pieces-most (answers.Piece number fresh polled octets) = omega arith
pieces-most answers.Idle = omega arith
pieces-most answers.Small = omega arith
pieces-most answers.Shut = omega arith
pieces-most answers.Held = omega arith
pieces-most answers.Stopped = omega arith

status-comes : (w : Bool) (r : Receiver) (share : ℕ) (t : Taken)
    → data_coming (arrivals ((if w then status_pdu r share ∷ [] else []) ++ pdus_of t)) ≤ pieces_in t
status-comes true r share t = omega (arith, status-none r share, piece-comes t)
status-comes false r share t = piece-comes t

take-comes : (b : State) (share : ℕ) (held : Option ℕ)
    → data_coming (arrivals (pdus (Am b) share held)) ≤ pieces_in (data_given b share held)
take-comes b share held =
    subst (λ (ps : List (List ℕ)). data_coming (arrivals ps) ≤ pieces_in (data_given b share held))
    (sym (writes_what_rlc_gives b share held))
    (status-comes (writes_status b.rx share) b.rx share (data_given b share held))

-- by a share
pub record Comes (s : Share) (b : State) : Type 0 where
  pub sent : data_coming (arrivals (writes_in s (Am b))) ≤ written_along (takes_in s) b
  pub few : data_coming (arrivals (writes_in s (Am b))) ≤ 1

share-comes : (here : Bool) (share : ℕ) (held : Option ℕ) (b : State)
    → Comes (record { here = here; octets = share; held = held }) b
share-comes true share held b =
    let t = data_given b share held in
    record {
      sent = omega (arith, take-comes b share held);
      few = omega (arith, take-comes b share held, pieces-most t);
    }
share-comes false share held b = record { sent = omega arith; few = omega arith }

pub comes : (s : Share) (b : State) → Comes s b
comes s b = share-comes s.here s.octets s.held b

takes-bring : (here : Bool) (share : ℕ) (held : Option ℕ)
    → data_coming (takes_in (record { here = here; octets = share; held = held })) ≡ 0
takes-bring true share held = refl
takes-bring false share held = refl

-- ---- kinds of calls

calls-both : (P : Call → Type 0) (xs ys : List Call) → AllByRecursion P xs → AllByRecursion P ys
    → AllByRecursion P (xs ++ ys)
calls-both P [] ys a b = b
calls-both P (x ∷ xs) ys a b = (a.0, calls-both P xs ys a.1 b)

take-all : (P : Call → Type 0) (here : Bool) (share : ℕ) (held : Option ℕ) → P (Take share held)
    → AllByRecursion P (takes_in (record { here = here; octets = share; held = held }))
take-all P true share held p = (p, tt)
take-all P false share held p = tt

pub arrivals-all : (P : Call → Type 0) (ps : List (List ℕ)) → ((pdu : List ℕ) → P (Arrive pdu))
    → AllByRecursion P (arrivals ps)
arrivals-all P [] p = tt
arrivals-all P (x ∷ xs) p = (p x, arrivals-all P xs p)

expiries-all : (polls : Bool) → AllByRecursion IsOfDrain (expiries polls)
expiries-all true = (tt, (tt, (tt, tt)))
expiries-all false = (tt, (tt, tt))

expiries-other : (polls : Bool) → AllByRecursion IsOther (expiries polls)
expiries-other true = (tt, (tt, (tt, tt)))
expiries-other false = (tt, (tt, tt))

pub arrivals-other : (ps : List (List ℕ)) → AllByRecursion IsOther (arrivals ps)
arrivals-other ps = arrivals-all IsOther ps (λ pdu. tt)

takes-drain : (s : Share) → AllByRecursion IsOfDrain (takes_in s)
takes-drain s = take-all IsOfDrain s.here s.octets s.held tt

takes-tti : (s : Share) → AllByRecursion IsInTti (takes_in s)
takes-tti s = take-all IsInTti s.here s.octets s.held tt

-- of any bearers
arrivals-drain : (ps : List (List ℕ)) → AllByRecursion IsOfDrain (arrivals ps)
arrivals-drain ps = arrivals-all IsOfDrain ps (λ pdu. tt)

pub nb-round : (r : Round) (nb ue : Flow) → AllByRecursion IsOfDrain (nb_calls r nb ue)
nb-round r nb ue =
    let back = arrivals (writes_in r.up (after_all ue (arrivals (writes_in r.down nb)))) in
    calls-both IsOfDrain (takes_in r.down) (back ++ expiries r.polls) (takes-drain r.down)
    (calls-both IsOfDrain back (expiries r.polls) (arrivals-drain _) (expiries-all r.polls))

pub ue-round : (r : Round) (nb ue : Flow) → AllByRecursion IsOfDrain (ue_calls r nb ue)
ue-round r nb ue =
    let came = arrivals (writes_in r.down nb) in
    calls-both IsOfDrain came (takes_in r.up ++ expiries r.polls) (arrivals-drain _)
    (calls-both IsOfDrain (takes_in r.up) (expiries r.polls) (takes-drain r.up) (expiries-all r.polls))

-- ---- the counts of a round

pub written-then : (xs ys : List Call) (b : State)
    → written_along (xs ++ ys) b ≡ written_along xs b + written_along ys (behind xs b)
written-then [] ys b = omega arith
written-then (x ∷ xs) ys b = omega (arith, written-then xs ys (does_all (deeds_of b x) b))

-- timers leave a receiver alike, polls or none
expired-rx : (polls : Bool) (cs : List Call) (b : State)
    → (behind (cs ++ expiries polls) b).rx ≡ (far_behind cs b).rx
expired-rx true cs b = ap (λ (d : State). d.rx) (behind-then cs (expiries true) b)
expired-rx false cs b = ap (λ (d : State). d.rx) (behind-then cs (expiries false) b)

-- ---- one direction

along-life : (cs : List Call) (b : State) → AllByRecursion IsOfLife (deeds_along cs b)
along-life [] b = tt
along-life (c ∷ cs) b =
    let d = does_all (deeds_of b c) b in
    then-all IsOfLife (deeds_of b c) (deeds_along cs d) (call-life b c) (along-life cs d)

pub lives-on : (cs : List Call) (b : State) → HasLived b → GiveOctets cs b → HasLived (behind cs b)
lives-on cs b h g = record {
  origin = h.origin;
  kind = h.kind;
  protection = h.protection;
  first = h.first;
  past = h.past;
  given = h.given;
  begins = h.begins;
  nothing = h.nothing;
  deeds = h.deeds ++ deeds_along cs b;
  life = then-all IsOfLife h.deeds (deeds_along cs b) h.life (along-life cs b);
  octets = longer;
  is = more h.deeds (deeds_along cs b) h.origin ∙ ap (does_all (deeds_along cs b)) h.is ∙ sym (behind-is cs b);
}
  where
    more : (xs ys : List Deed) (d : State) → does_all (xs ++ ys) d ≡ does_all ys (does_all xs d)
    more [] ys d = refl
    more (x ∷ xs) ys d = more xs ys (does d x)

    longer : AllByRecursion HasOctets (sends_in (h.deeds ++ deeds_along cs b) h.origin)
    longer =
        subst (λ (calls : List SenderCall). AllByRecursion HasOctets calls)
        (sym (in_then h.deeds (deeds_along cs b) h.origin))
        (both-all (sends_in h.deeds h.origin) (sends_in (deeds_along cs b) (does_all h.deeds h.origin)) h.octets
        (subst (λ (d : State). AllByRecursion HasOctets (sends_in (deeds_along cs b) d)) (sym h.is) g))

-- its life goes on
pub lives-marks : (cs : List Call) (b : State) (h : HasLived b) (g : GiveOctets cs b)
    → marks_behind (lives-on cs b h g).origin (lives-on cs b h g).deeds
    ≡ marks_behind h.origin (h.deeds ++ deeds_along cs b)
unfolding lives-on
lives-marks cs b h g = refl

pub lives-octets : (cs : List Call) (b : State) (h : HasLived b) → GiveOctets cs b
    → AllByRecursion HasOctets (sends_in (h.deeds ++ deeds_along cs b) h.origin)
unfolding lives-on
lives-octets cs b h g = (lives-on cs b h g).octets

-- calls leave it so
pub record StandsOn (cs : List Call) (b : State) : Type 0 where
  pub left : after_all (Am b) cs ≡ Am (behind cs b)
  pub stands : Stands (behind cs b)

pub stands-on : (cs : List Call) (b : State) → Stands b → GiveOctets cs b → StandsOn cs b
stands-on cs b h g =
    let goes = all-go cs b h.kind h.idle in
    record {
      left = goes.left;
      stands = record { kind = goes.kind; idle = goes.idle; lived = lives-on cs b h.lived g };
    }

module _ (near far far' : State) (cs ds : List Call) (h : HasLived near) (g : GiveOctets cs near)
    (drains : AllByRecursion IsOfDrain cs) (tti : AllByRecursion IsInTti ds) (few : data_coming ds ≤ 1)
    (sent : data_coming ds ≤ written_along cs near) (rx-is : far'.rx ≡ (far_behind ds far).rx) where
  now : does_all h.deeds h.origin ≡ near
  now = h.is

  cost : CostsFlow h.origin h.deeds far cs ds
  unfolding lives-on
  cost =
      flows_cost h.origin h.kind h.protection h.first h.past h.deeds far cs ds h.given h.begins
      (subst (λ (d : State). AllByRecursion HasOctets (sends_in (h.deeds ++ deeds_along cs d) h.origin)) (sym now)
      (lives-on cs near h g).octets) drains tti few
      (subst (λ (d : State). data_coming ds ≤ written_along cs d) (sym now) sent)

  abbrev left : State → ℕ
  left d = flow_measure (behind cs d) (marks_behind h.origin (h.deeds ++ deeds_along cs d)) (far_behind ds far)

  abbrev had : State → ℕ
  had d = flow_measure d (marks_behind h.origin h.deeds) far

  same-far : measure_from (behind cs near) (lives-on cs near h g) far' ≡ left near
  unfolding lives-on
  same-far =
      ap (λ (r : Receiver). 3 * bearer_dues (behind cs near) (marks_behind h.origin (h.deeds ++ deeds_along cs near))
      + (pending r + bearer_quiet (behind cs near))) rx-is

  costs-from : CostsFrom near far (behind cs near) far' h (lives-on cs near h g) cs ds
  costs-from = record {
    falls =
        let one = subst (λ (d : State). left d + written_along cs d ≤ had d) now cost.falls in
        omega (arith, same-far, one);
    settles = λ none top some told.
        let one = subst (λ (d : State). left d + 1 ≤ had d) now (cost.settles none top some told) in
        omega (arith, same-far, one);
    recalls = λ front at running waiting.
        let one = subst (λ (d : State). left d + 1 ≤ had d) now
        (cost.recalls front at
        (subst (λ (d : State). runs (behind front d).tx.polls.timer ≡ true) (sym now) running)
        (subst (λ (d : State). bearer_quiet d ≡ 1) (sym now) waiting)) in
        omega (arith, same-far, one);
  }

far-top : (cs : List Call) (b : State) → IsAtTop (far_behind cs b).rx
far-top cs b = expired-top (behind cs b).rx

-- ---- both directions

module _ (r : Round) (nb ue : State) (n : Stands nb) (u : Stands ue) where
  abbrev pub came : List Call
  came = arrivals (writes_in r.down (Am nb))

  abbrev back : List Call
  back = arrivals (writes_in r.up (after_all (Am ue) (arrivals (writes_in r.down (Am nb)))))

  abbrev cn : List Call
  cn = nb_calls r (Am nb) (Am ue)

  abbrev cu : List Call
  cu = ue_calls r (Am nb) (Am ue)

  abbrev dn : List Call
  dn = nb_tti r nb ue

  abbrev du : List Call
  du = ue_tti r nb ue

  nb-goes : Goes cn nb
  nb-goes = all-go cn nb n.kind n.idle

  ue-goes : Goes cu ue
  ue-goes = all-go cu ue u.kind u.idle

  -- as the terminal's bearer writes
  abbrev pub mid : State
  mid = behind came ue

  back-is : back ≡ arrivals (writes_in r.up (Am mid))
  back-is = ap (λ (f : Flow). arrivals (writes_in r.up f)) (all-go came ue u.kind u.idle).left

  arrivals-tti : (ps : List (List ℕ)) → AllByRecursion IsInTti (arrivals ps)
  arrivals-tti ps = arrivals-all IsInTti ps (λ pdu. tt)

  nb-drains : AllByRecursion IsOfDrain cn
  nb-drains = nb-round r (Am nb) (Am ue)

  ue-drains : AllByRecursion IsOfDrain cu
  ue-drains = ue-round r (Am nb) (Am ue)

  nb-tti : AllByRecursion IsInTti dn
  nb-tti = calls-both IsInTti (takes_in r.down) back (takes-tti r.down) (arrivals-tti _)

  ue-tti : AllByRecursion IsInTti du
  ue-tti = calls-both IsInTti came (takes_in r.up) (arrivals-tti _) (takes-tti r.up)

  none-down : data_coming (takes_in r.down) ≡ 0
  none-down = takes-bring r.down.here r.down.octets r.down.held

  none-up : data_coming (takes_in r.up) ≡ 0
  none-up = takes-bring r.up.here r.up.octets r.up.held

  down-is : data_coming du ≡ data_coming came
  down-is = omega (arith, coming-then came (takes_in r.up), none-up)

  up-is : data_coming dn ≡ data_coming (arrivals (writes_in r.up (Am mid)))
  up-is = omega (arith, coming-then (takes_in r.down) back, none-down, ap data_coming back-is)

  down-few : data_coming du ≤ 1
  down-few = omega (arith, down-is, (comes r.down nb).few)

  up-few : data_coming dn ≤ 1
  up-few = omega (arith, up-is, (comes r.up mid).few)

  pub down-sent : data_coming du ≤ written_along cn nb
  down-sent =
      omega (arith, down-is, (comes r.down nb).sent, written-then (takes_in r.down) (back ++ expiries r.polls) nb)

  pub up-sent : data_coming dn ≤ written_along cu ue
  up-sent = omega (
    arith,
    up-is,
    (comes r.up mid).sent,
    written-then came (takes_in r.up ++ expiries r.polls) ue,
    written-then (takes_in r.up) (expiries r.polls) mid,
  )

  nb-rx : (behind cn nb).rx ≡ (far_behind dn nb).rx
  nb-rx =
      ap (λ (cs : List Call). (behind cs nb).rx) (sym (append_assoc (takes_in r.down) back (expiries r.polls)))
      ∙ expired-rx r.polls dn nb

  ue-rx : (behind cu ue).rx ≡ (far_behind du ue).rx
  ue-rx =
      ap (λ (cs : List Call). (behind cs ue).rx) (sym (append_assoc came (takes_in r.up) (expiries r.polls)))
      ∙ expired-rx r.polls du ue

  -- where the timer runs on behind a round, VR(X) is VR(H)
  nb-top : IsAtTop (behind cn nb).rx
  nb-top = subst IsAtTop (sym nb-rx) (far-top dn nb)

  ue-top : IsAtTop (behind cu ue).rx
  ue-top = subst IsAtTop (sym ue-rx) (far-top du ue)

  module _ (nb-offers : OffersOctets nb) (ue-offers : OffersOctets mid) where
    nb-gives : GiveOctets cn nb
    nb-gives =
        along-give (takes_in r.down) (back ++ expiries r.polls) nb
        (share-gives r.down.here r.down.octets r.down.held nb nb-offers)
        (others-give (back ++ expiries r.polls) (behind (takes_in r.down) nb)
        (calls-both IsOther back (expiries r.polls) (arrivals-other _) (expiries-other r.polls)))

    ue-gives : GiveOctets cu ue
    ue-gives =
        along-give came (takes_in r.up ++ expiries r.polls) ue (others-give came ue (arrivals-other _))
        (along-give (takes_in r.up) (expiries r.polls) mid
        (share-gives r.up.here r.up.octets r.up.held mid ue-offers)
        (others-give (expiries r.polls) (behind (takes_in r.up) mid) (expiries-other r.polls)))

    pub rounds_cost_both : CostsBoth r nb ue n u
    rounds_cost_both = record {
      nb' = behind cn nb;
      ue' = behind cu ue;
      is = record {
        nb_is = sym (all-go cn nb n.kind n.idle).left;
        ue_is = sym (all-go cu ue u.kind u.idle).left;
      };
      nb_stands = record { kind = nb-goes.kind; idle = nb-goes.idle; lived = lives-on cn nb n.lived nb-gives };
      ue_stands = record { kind = ue-goes.kind; idle = ue-goes.idle; lived = lives-on cu ue u.lived ue-gives };
      down = costs-from nb ue (behind cu ue) cn du n.lived nb-gives nb-drains ue-tti down-few down-sent ue-rx;
      up = costs-from ue nb (behind cn nb) cu dn u.lived ue-gives ue-drains nb-tti up-few up-sent nb-rx;
      nb_top = nb-top;
      ue_top = ue-top;
    }
