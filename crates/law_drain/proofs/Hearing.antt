-- What the calls of a bearer in a TTI are to its receiver.
use Rattle.std.proofs.Common.{◌≡◌, ℕ, ◌+◌, Bool, true, false, ◌||◌, List, [], ◌∷◌, ◌++◌, map, Result}
use Rattle.std.proofs.Common.{Ok}
use Rattle.std.proofs.Common.{Err, append_assoc, refl, ap, sym, ◌∙◌, arith}
use Rattle.std.specs.List.{AllByRecursion}
use Rattle.rlc_pdu.specs.declared.fault.RlcRefusal.{RlcRefusal}
use Rattle.rlc_pdu.specs.Pdus.{AcknowledgedPdu, Payload, Status as Control}
use Rattle.rlc_pdu.specs.Reading.{am_at}
use Rattle.rlc_am_rx.specs.Machine.{arrived as landed_in}
use Rattle.rlc_am_rx.specs.State.{State as Receiver}
use Rattle.law_rlc.specs.AmReceiver.Run.{Call as ReceiverCall, Arrive as Hears, Up, Write, ExpireReorder}
use Rattle.law_rlc.specs.AmReceiver.Run.{ExpireProhibit}
use Rattle.law_rlc.specs.AmReceiver.Run.{TickReorder, TickProhibit, state_after}
use Rattle.bearer.specs.Acknowledged.State.{State}
use Rattle.bearer.specs.Acknowledged.Taking.{writes_status, data_size}
use Rattle.law_bearer.specs.AnyBearer.Acknowledged.{offers_in, has_more_behind}
use Rattle.law_bearer.specs.AnyBearer.Calls.{Call, Submit, Take, Arrive, Expire, Tick, SetDiscard}
use Rattle.law_bearer.specs.AmBearer.Calls.{only_if, deeds_of, arrives, hands_up}
use Rattle.law_bearer.specs.AmBearer.Deeds.{Deed, Feeds, Sends, Confirms, Receives, HandsUp, Asks, Sets, does, does_all}
use Rattle.law_bearer.specs.AmBearer.Deeds.{confirms_first, hands_first}
use Rattle.law_rlc.specs.AmSender.Run.{Take as Taking}
use Rattle.law_drain.specs.Pending.{IsOfTti, data_in, writes_status as status_in, after_calls}
use Rattle.law_drain.specs.Round.{deeds_along, behind, IsInTti, is_data, data_of_call, data_coming, tells, tells_along}
use Rattle.law_drain.proofs.Calm.{IsOfCalls, handing-all, status-all, taking-all}

-- ---- lists of a receiver's calls

after-then : (xs ys : List ReceiverCall) (s : Receiver) → after_calls s (xs ++ ys) ≡ after_calls (after_calls s xs) ys
after-then [] ys s = refl
after-then (x ∷ xs) ys s = after-then xs ys (state_after s x)

data-then : (xs ys : List ReceiverCall) → data_in (xs ++ ys) ≡ data_in xs + data_in ys
data-then [] ys = omega arith
data-then (Hears pdu ∷ xs) ys = omega (arith, data-then xs ys)
data-then (Up ∷ xs) ys = data-then xs ys
data-then (Write ∷ xs) ys = data-then xs ys
data-then (ExpireReorder ∷ xs) ys = data-then xs ys
data-then (ExpireProhibit ∷ xs) ys = data-then xs ys
data-then (TickReorder ∷ xs) ys = data-then xs ys
data-then (TickProhibit ∷ xs) ys = data-then xs ys

status-then : (xs ys : List ReceiverCall) → status_in (xs ++ ys) ≡ (status_in xs || status_in ys)
status-then [] ys = refl
status-then (Hears pdu ∷ xs) ys = status-then xs ys
status-then (Up ∷ xs) ys = status-then xs ys
status-then (Write ∷ xs) ys = refl
status-then (ExpireReorder ∷ xs) ys = status-then xs ys
status-then (ExpireProhibit ∷ xs) ys = status-then xs ys
status-then (TickReorder ∷ xs) ys = status-then xs ys
status-then (TickProhibit ∷ xs) ys = status-then xs ys

calls-then : (xs ys : List ReceiverCall) → AllByRecursion IsOfTti xs → AllByRecursion IsOfTti ys
    → AllByRecursion IsOfTti (xs ++ ys)
calls-then [] ys a b = b
calls-then (x ∷ xs) ys a b = (a.0, calls-then xs ys a.1 b)

-- ---- those that stand in deeds

abbrev ups_of : List (List ℕ) → List ReceiverCall
ups_of [] = []
ups_of (sdu ∷ sdus) = Up ∷ []

abbrev pub hears_at : State → Deed → List ReceiverCall
hears_at b Feeds = []
hears_at b (Sends c) = []
hears_at b Confirms = []
hears_at b (Receives c) = c ∷ []
hears_at b HandsUp = ups_of b.rx.out.ready
hears_at b (Asks c) = []
hears_at b (Sets ttis) = []

abbrev pub hears_in : List Deed → State → List ReceiverCall
hears_in [] b = []
hears_in (deed ∷ deeds) b = hears_at b deed ++ hears_in deeds (does b deed)

one-hears : (b : State) (deed : Deed) → (does b deed).rx ≡ after_calls b.rx (hears_at b deed)
one-hears b Feeds = refl
one-hears b (Sends c) = refl
one-hears b Confirms = by b.tx.accounts.news
  where
    by : (places : List ℕ) → (confirms_first places b).rx ≡ b.rx
    by [] = refl
    by (place ∷ places) = refl
one-hears b (Receives c) = refl
one-hears b HandsUp = by b.rx.out.ready
  where
    by : (sdus : List (List ℕ)) → (hands_first sdus b).rx ≡ after_calls b.rx (ups_of sdus)
    by [] = refl
    by (sdu ∷ sdus) = refl
one-hears b (Asks c) = refl
one-hears b (Sets ttis) = refl

pub all-hear : (deeds : List Deed) (b : State) → (does_all deeds b).rx ≡ after_calls b.rx (hears_in deeds b)
all-hear [] b = refl
all-hear (deed ∷ deeds) b =
    all-hear deeds (does b deed)
    ∙ ap (λ (s : Receiver). after_calls s (hears_in deeds (does b deed))) (one-hears b deed)
    ∙ sym (after-then (hears_at b deed) (hears_in deeds (does b deed)) b.rx)

hears-then : (xs ys : List Deed) (b : State) → hears_in (xs ++ ys) b ≡ hears_in xs b ++ hears_in ys (does_all xs b)
hears-then [] ys b = refl
hears-then (x ∷ xs) ys b = ap (λ (l : List ReceiverCall). hears_at b x ++ l) (hears-then xs ys (does b x))
    ∙ sym (append_assoc (hears_at b x) (hears_in xs (does b x)) (hears_in ys (does_all xs (does b x))))

-- ---- deeds that bring no data

abbrev IsMute : Deed → Type 0
IsMute Feeds = Unit {0}
IsMute (Sends c) = Unit {0}
IsMute Confirms = Unit {0}
IsMute (Receives c) = IsOfTti c × (data_in (c ∷ []) ≡ 0)
IsMute HandsUp = Unit {0}
IsMute (Asks c) = Unit {0}
IsMute (Sets ttis) = Unit {0}

mute-calls : IsOfCalls IsMute
mute-calls = record { sends = λ c told. tt; confirms = tt; hands = tt }

pub record Brings (calls : List ReceiverCall) (data' : ℕ) : Type 0 where
  pub tti : AllByRecursion IsOfTti calls
  pub data-is : data_in calls ≡ data'

brings-then : (xs ys : List ReceiverCall) (m n : ℕ) → Brings xs m → Brings ys n → Brings (xs ++ ys) (m + n)
brings-then xs ys m n a b = record {
  tti = calls-then xs ys a.tti b.tti;
  data-is = omega (arith, data-then xs ys, a.data-is, b.data-is);
}

mute-brings : (deed : Deed) (b : State) → IsMute deed → Brings (hears_at b deed) 0
mute-brings Feeds b h = record { tti = tt; data-is = refl }
mute-brings (Sends c) b h = record { tti = tt; data-is = refl }
mute-brings Confirms b h = record { tti = tt; data-is = refl }
mute-brings (Receives c) b h = record { tti = (h.0, tt); data-is = h.1 }
mute-brings HandsUp b h = by b.rx.out.ready
  where
    by : (sdus : List (List ℕ)) → Brings (ups_of sdus) 0
    by [] = record { tti = tt; data-is = refl }
    by (sdu ∷ sdus) = record { tti = (tt, tt); data-is = refl }
mute-brings (Asks c) b h = record { tti = tt; data-is = refl }
mute-brings (Sets ttis) b h = record { tti = tt; data-is = refl }

mutes-bring : (deeds : List Deed) (b : State) → AllByRecursion IsMute deeds → Brings (hears_in deeds b) 0
mutes-bring [] b h = record { tti = tt; data-is = refl }
mutes-bring (deed ∷ deeds) b h =
    brings-then (hears_at b deed) (hears_in deeds (does b deed)) 0 0 (mute-brings deed b h.0)
    (mutes-bring deeds (does b deed) h.1)

arriving-brings : (r : Result AcknowledgedPdu RlcRefusal) (b : State) → Brings (hears_in (arrives r b) b) (is_data r)
arriving-brings (Err refused) b = record { tti = tt; data-is = refl }
arriving-brings (Ok (Payload data')) b =
    brings-then (Hears data' ∷ [])
    (hears_in (hands_up (landed_in b.rx data').out.ready b.pdcp) (does b (Receives (Hears data')))) 1 0
    (record { tti = (tt, tt); data-is = refl })
    (mutes-bring (hands_up (landed_in b.rx data').out.ready b.pdcp) (does b (Receives (Hears data')))
    (handing-all IsMute (landed_in b.rx data').out.ready b.pdcp mute-calls))
arriving-brings (Ok (Control status)) b =
    mutes-bring (arrives (Ok (Control status)) b) b (status-all IsMute status b mute-calls)

call-brings : (b : State) (c : Call) → IsInTti c → Brings (hears_in (deeds_of b c) b) (data_of_call c)
call-brings b (Submit sdu) h = absurd h
call-brings b (Take share held) h =
    mutes-bring (deeds_of b (Take share held)) b (taking-all IsMute share held b mute-calls tt (tt, refl))
call-brings b (Arrive pdu) h = arriving-brings (am_at pdu) b
call-brings b (Expire clock) h = absurd h
call-brings b Tick h = absurd h
call-brings b (SetDiscard ttis) h = absurd h

-- a STATUS that is written
call-tells : (b : State) (c : Call) → tells b c ≡ true → status_in (hears_in (deeds_of b c) b) ≡ true
call-tells b (Submit sdu) e = let no' : false ≡ true = e in cc
call-tells b (Take share held) e =
    ap status_in (hears-then (status ++ fill) last b)
    ∙ status-then (hears_in (status ++ fill) b) (hears_in last (does_all (status ++ fill) b))
    ∙ ap (λ (t : Bool). t || status_in (hears_in last (does_all (status ++ fill) b))) front
  where
    status : List Deed
    status = only_if (writes_status b.rx share) (Receives Write)

    fill : List Deed
    fill = map (λ pdu. Feeds) (offers_in b share held)

    last : List Deed
    last = Sends (Taking (data_size b share) held (has_more_behind b share held)) ∷ []

    written : (w : Bool) → w ≡ true → status_in (hears_in (only_if w (Receives Write)) b) ≡ true
    written true q = refl
    written false q = let no' : false ≡ true = q in cc

    front : status_in (hears_in (status ++ fill) b) ≡ true
    front = ap status_in (hears-then status fill b)
        ∙ status-then (hears_in status b) (hears_in fill (does_all status b))
        ∙ ap (λ (t : Bool). t || status_in (hears_in fill (does_all status b))) (written (writes_status b.rx share) e)
call-tells b (Arrive pdu) e = let no' : false ≡ true = e in cc
call-tells b (Expire clock) e = let no' : false ≡ true = e in cc
call-tells b Tick e = let no' : false ≡ true = e in cc
call-tells b (SetDiscard ttis) e = let no' : false ≡ true = e in cc

-- ---- any calls of a TTI

pub behind-is : (cs : List Call) (b : State) → behind cs b ≡ does_all (deeds_along cs b) b
behind-is [] b = refl
behind-is (c ∷ cs) b = behind-is cs (does_all (deeds_of b c) b) ∙ sym (does-then (deeds_of b c) _ b)
  where
    does-then : (xs ys : List Deed) (d : State) → does_all (xs ++ ys) d ≡ does_all ys (does_all xs d)
    does-then [] ys d = refl
    does-then (x ∷ xs) ys d = does-then xs ys (does d x)

pub calls-bring : (cs : List Call) (b : State) → AllByRecursion IsInTti cs
    → Brings (hears_in (deeds_along cs b) b) (data_coming cs)
calls-bring [] b h = record { tti = tt; data-is = refl }
calls-bring (c ∷ cs) b h =
    let d = does_all (deeds_of b c) b in
    rw (hears-then (deeds_of b c) (deeds_along cs d) b)
    (brings-then (hears_in (deeds_of b c) b) (hears_in (deeds_along cs d) d) (data_of_call c) (data_coming cs)
    (call-brings b c h.0) (calls-bring cs d h.1))

pub calls-tell : (cs : List Call) (b : State) → tells_along cs b ≡ true
    → status_in (hears_in (deeds_along cs b) b) ≡ true
calls-tell [] b e = let no' : false ≡ true = e in cc
calls-tell (c ∷ cs) b e =
    ap status_in (hears-then (deeds_of b c) (deeds_along cs d) b)
    ∙ status-then (hears_in (deeds_of b c) b) (hears_in (deeds_along cs d) d)
    ∙ either (tells b c) (tells_along cs d) (status_in (hears_in (deeds_of b c) b))
    (status_in (hears_in (deeds_along cs d) d)) (call-tells b c) (calls-tell cs d) e
  where
    d : State
    d = does_all (deeds_of b c) b

    or-last : (a z : Bool) → z ≡ true → (a || z) ≡ true
    or-last true z q = refl
    or-last false z q = q

    either : (t u a z : Bool) → (t ≡ true → a ≡ true) → (u ≡ true → z ≡ true) → (t || u) ≡ true → (a || z) ≡ true
    either true u a z f g q = ap (λ (x : Bool). x || z) (f refl)
    either false u a z f g q = or-last a z (g q)
