-- As a bearer takes an SDU, each whose COUNT lies half the numbers or more below its own has arrived whole, as is told.
use Rattle.std.proofs.Common.{◌≡◌, ◌<◌, ◌≤◌, ℕ, zero, suc, ◌+◌, ◌-◌, ◌^◌, nat_lt, Bool, true, false, ◌&&◌, ◌||◌, Some}
use Rattle.std.proofs.Common.{List, [], ◌∷◌, ◌++◌, map, length, take, slice_index, length-append, refl, ap, sym, subst}
use Rattle.std.proofs.Common.{◌∙◌, arith}
use Rattle.std.specs.List.{AllByRecursion}
use Rattle.std.proofs.lemmas.Bool.Decides.{nat_tests}
use Rattle.std.proofs.lemmas.List.{length-map, map-append}
use Rattle.bearer.specs.Acknowledged.State.{State}
use Rattle.bearer.specs.Taking.{pdus}
use Rattle.bearer.specs.declared.flow.Flow.TheVariants.{Am}
use Rattle.bearer_types.specs.declared.BearerConfig.{BearerConfig}
use Rattle.eps_sec.specs.declared.Keys.{Keys}
use Rattle.l2_types.specs.declared.Side.TheVariants.{Nb, Ue}
use Rattle.law_bearer.specs.AmBearer.Lives.{protection_at}
use Rattle.law_bearer.specs.AnyBearer.Stream.{takes as taken_in, offers_of}
use Rattle.law_bearer.specs.AnyBearer.Calls.{Call, Submit, Take, Arrive, Expire, Tick, SetDiscard, after, ends}
use Rattle.law_pdcp.proofs.AmPair.HalfWindow.{TakesInHalf, offers_in_half}
use Rattle.law_words.specs.Arrivals.{Given, AccountEntry, Gives, Passes, Account, no_account, accounted, account}
use Rattle.law_words.specs.Arrivals.{has_place, is_count, whole_in}
use Rattle.law_words.specs.Passing.{Passing, Writes}
use Rattle.law_words.specs.Stretches.{Stretch, place_of, octet_has_come, all_from, has_arrived}
use Rattle.pdcp_tx.specs.State.{State as Sending, Offer, offers}
use Rattle.promises.specs.Given.{entries_of, entries_passed, entries_written}
use Rattle.promises.specs.HalfWindow.{has_come_whole, AreInHalf}
use Rattle.law_deliver.specs.AmDelivery.Arrival.{said_in, said_by, heard_by, down_in, up_in}
use Rattle.law_deliver.specs.AmDelivery.Delivery.{AreBothEnds}
use Rattle.law_deliver.specs.AmDelivery.Lives.{LifeStep, InLife, Restarts, lives_on, AreLiving, calls_in, over}
use Rattle.law_deliver.specs.AmFlow.Pair.{BearerEnd, Pair, Near, Far, Passes as Ends, am_pair_outset}
use Rattle.law_deliver.proofs.AmDelivery.Accounts.{sound_pdcp, told_of, Agrees}
use Rattle.law_deliver.proofs.AmDelivery.Arrived.{closed_come, first_is}
use Rattle.law_deliver.proofs.AmDelivery.Beginning.{first_way, begins_joined}
use Rattle.law_deliver.proofs.AmDelivery.Delivering.{goes_once, begins_account}
use Rattle.law_deliver.proofs.AmDelivery.Ends.{JoinedEnds, near_ends, far_ends}
use Rattle.law_deliver.proofs.AmDelivery.Gives.{given_as}
use Rattle.law_deliver.proofs.AmDelivery.Joined.{Way, JoinedPair, pdcp}
use Rattle.law_deliver.proofs.AmDelivery.Promises.{StepsGoOn}
use Rattle.law_deliver.proofs.AmDelivery.Taking.{gives_are}

-- ---- one behind the other

half_then : (bits first : ℕ) (xs ys : List AccountEntry) (a : Account) → AreInHalf bits first a xs
    → AreInHalf bits first (account xs a) ys → AreInHalf bits first a (xs ++ ys)
half_then bits first [] ys a h k = k
half_then bits first (x ∷ xs) ys a h k = (h.0, half_then bits first xs ys (accounted x a) h.1 k)

passed_in_half : (bits first : ℕ) (ps : List Passing) (a : Account) → AreInHalf bits first a (entries_passed ps)
passed_in_half bits first [] a = tt
passed_in_half bits first (p ∷ ps) a = (tt, passed_in_half bits first ps (accounted (Passes p) a))

-- ---- what has arrived whole stays so as one more is given

place_more : (xs ys : List ℕ) (k : ℕ) → k < length xs → place_of (xs ++ ys) k ≡ place_of xs k
place_more [] ys k lt = absurd (omega (arith, lt))
place_more (x ∷ xs) ys zero lt = refl
place_more (x ∷ xs) ys (suc k) lt = ap (λ (n : ℕ). x + n) (place_more xs ys k (omega (arith, lt)))

index_more : (xs ys : List ℕ) (k : ℕ) → k < length xs → slice_index (xs ++ ys) k ≡ slice_index xs k
index_more [] ys k lt = absurd (omega (arith, lt))
index_more (x ∷ xs) ys zero lt = refl
index_more (x ∷ xs) ys (suc k) lt = index_more xs ys k (omega (arith, lt))

second : (a b : Bool) → a && b ≡ true → b ≡ true
second true b e = e
second false b e = cc

arrived_more : (sizes fields : List ℕ) (came : List Stretch) (size k : ℕ) → k < length sizes
    → has_arrived sizes fields came k ≡ true → has_arrived (sizes ++ size ∷ []) fields came k ≡ true
arrived_more sizes fields came size k lt e =
    let all = sizes ++ size ∷ [] in
    let l = length-append sizes (size ∷ []) in
    let here : nat_lt k (length all) ≡ true = grind (arith, nat_tests, lt, l) in
    ap (λ (b : Bool). b && all_from (octet_has_come fields came) (place_of all k) (slice_index all k)) here
    ∙ (ap (λ (n : ℕ). all_from (octet_has_come fields came) n (slice_index all k)) (place_more sizes (size ∷ []) k lt)
    ∙ (ap (λ (n : ℕ). all_from (octet_has_come fields came) (place_of sizes k) n) (index_more sizes (size ∷ []) k lt)
    ∙ second (nat_lt k (length sizes)) (all_from (octet_has_come fields came) (place_of sizes k) (slice_index sizes k))
    e))

places_more : (g : Given) (a : Account) (k : ℕ) → k < length a.given → has_place a k ≡ true
    → has_place (accounted (Gives g) a) k ≡ true
places_more g a k lt e =
    let sizes = map (λ (x : Given). x.size) a.given in
    let many : length sizes ≡ length a.given = length-map a.given (λ (x : Given). x.size) in
    ap (λ (l : List ℕ). has_arrived l a.rlc.fields a.rlc.came k) (map-append (λ (x : Given). x.size) a.given (g ∷ []))
    ∙ arrived_more sizes a.rlc.fields a.rlc.came g.size k (omega (arith, many, lt)) e

in_more : (before after : ℕ → Bool) (k : ℕ) (gs : List Given) (g : Given) (count : ℕ)
    → ((i : ℕ) → i < k + length gs → before i ≡ true → after i ≡ true) → whole_in before k gs count ≡ true
    → whole_in after k (gs ++ g ∷ []) count ≡ true
in_more before after k [] g count more e = let no : false ≡ true = e in cc
in_more before after k (x ∷ gs) g count more e =
    by (before k) (after k) (is_count x.count count) (whole_in before (k + 1) gs count)
    (whole_in after (k + 1) (gs ++ g ∷ []) count) (more k (omega arith))
    (in_more before after (k + 1) gs g count (λ i lt. more i (omega (arith, lt)))) e
  where
    by : (a b c d e : Bool) → (a ≡ true → b ≡ true) → (d ≡ true → e ≡ true) → (a && c) || d ≡ true
        → (b && c) || e ≡ true
    by a b c d e f g q = grind (arith, nat_tests, f, g, q)

whole_more : (g : Given) (a : Account) (count : ℕ) → has_come_whole a count ≡ true
    → has_come_whole (accounted (Gives g) a) count ≡ true
whole_more g a count e =
    by (a.ended count) (whole_in (has_place a) 0 a.given count)
    (whole_in (has_place (accounted (Gives g) a)) 0 (a.given ++ g ∷ []) count)
    (in_more (has_place a) (has_place (accounted (Gives g) a)) 0 a.given g count
    (λ i lt. places_more g a i (omega (arith, lt)))) e
  where
    by : (a b c : Bool) → (b ≡ true → c ≡ true) → a || b ≡ true → a || c ≡ true
    by true b c f e = refl
    by false b c f e = f e

-- ---- what PDCP gives

abbrev IsNear : ℕ → ℕ → Account → Offer → Type 0
IsNear bits first a o = (count below : ℕ) → o.count ≡ Some count → first ≤ below → below + 2 ^ (bits - 1) ≤ count
    → has_come_whole a below ≡ true

each : {A : Type 0} (P Q : A → Type 0) (xs : List A) → ((x : A) → P x → Q x) → AllByRecursion P xs
    → AllByRecursion Q xs
each P Q [] f h = tt
each P Q (x ∷ xs) f h = (f x h.0, each P Q xs f h.1)

first_ones : {A : Type 0} (P : A → Type 0) (n : ℕ) (xs : List A) → AllByRecursion P xs → AllByRecursion P (take n xs)
first_ones P zero xs h = tt
first_ones P (suc n) [] h = tt
first_ones P (suc n) (x ∷ xs) h = (h.0, first_ones P n xs h.1)

given_in_half : (bits first : ℕ) (s : Sending) (os : List Offer) (a : Account)
    → AllByRecursion (IsNear bits first a) os → AreInHalf bits first a (entries_of (map (given_as s) os))
given_in_half bits first s [] a h = tt
given_in_half bits first s (o ∷ os) a h =
    let g = given_as s o in
    let b = accounted (Gives g) a in (
      h.0,
      given_in_half bits first s os b
          (each (IsNear bits first a) (IsNear bits first b) os
          (λ x near count below e from half. whole_more g a below (near count below e from half)) h.1),
    )

offers_near : (bits : ℕ) (out inn : Way) (e o : BearerEnd) (a : Account) → JoinedEnds bits out inn e o
    → Agrees a (pdcp out) (told_of out) → AllByRecursion (IsNear out.bits out.first a) (offers e.bearer.pdcp.tx)
offers_near bits out inn e o a h k =
    let f = pdcp out in
    subst (λ (s : Sending). AllByRecursion (IsNear out.bits out.first a) (offers s)) h.out_joins.sender_is
    (each (TakesInHalf out.bits f) (IsNear out.bits out.first a) (offers f.sender)
    (λ x near count below is from half.
    sym (closed_come out e o a below h.out_is h.out_joins k)
    ∙ near count below is (subst (λ (n : ℕ). n ≤ below) (sym (first_is out)) from) half)
    (offers_in_half out.bits f (sound_pdcp out h.out_is)))

-- ---- a call, and a step

said_in_half : (bits : ℕ) (out inn : Way) (e o : BearerEnd) (a : Account) (c : Call) → JoinedEnds bits out inn e o
    → Agrees a (pdcp out) (told_of out) → AreInHalf out.bits out.first a (said_in e.bearer c)
said_in_half bits out inn e o a (Submit sdu) h k = tt
said_in_half bits out inn e o a (Take share held) h k =
    let b = e.bearer in
    let left = entries_written (pdus (Am b) share held) in
    let gives = entries_of (map (given_as b.pdcp.tx) (taken_in (Am b) (Take share held))) in
    let many = length (offers b.pdcp.tx) - length (offers_of (ends (after (Am b) (Take share held)))) in
    subst (λ (l : List AccountEntry). AreInHalf out.bits out.first a (l ++ left))
    (sym (gives_are bits out inn e o share held h))
    (half_then out.bits out.first gives left a
    (given_in_half out.bits out.first b.pdcp.tx (taken_in (Am b) (Take share held)) a
    (first_ones (IsNear out.bits out.first a) many (offers b.pdcp.tx) (offers_near bits out inn e o a h k)))
    (passed_in_half out.bits out.first (map (λ pdu. Writes pdu) (pdus (Am b) share held)) (account gives a)))
said_in_half bits out inn e o a (Arrive pdu) h k = tt
said_in_half bits out inn e o a (Expire clock) h k = tt
said_in_half bits out inn e o a Tick h k = tt
said_in_half bits out inn e o a (SetDiscard ttis) h k = tt

calls_in_half : (bits : ℕ) (out inn : Way) (e o : BearerEnd) (a : Account) (cs : List Call)
    → JoinedEnds bits out inn e o → Agrees a (pdcp out) (told_of out)
    → AreInHalf out.bits out.first a (said_by e.bearer cs)
calls_in_half bits out inn e o a [] h k = tt
calls_in_half bits out inn e o a (c ∷ cs) h k = said_in_half bits out inn e o a c h k

heard_in_half : (bits first : ℕ) (cs : List Call) (a : Account) → AreInHalf bits first a (heard_by cs)
heard_in_half bits first [] a = tt
heard_in_half bits first (Submit sdu ∷ cs) a = tt
heard_in_half bits first (Take share held ∷ cs) a = tt
heard_in_half bits first (Arrive pdu ∷ cs) a = (tt, tt)
heard_in_half bits first (Expire clock ∷ cs) a = tt
heard_in_half bits first (Tick ∷ cs) a = tt
heard_in_half bits first (SetDiscard ttis ∷ cs) a = tt

down_in_half : (bits : ℕ) (down up : Way) (p : Pair) (x : LifeStep) (a : Account) → JoinedPair bits down up p
    → Agrees a (pdcp down) (told_of down) → AreInHalf down.bits down.first a (down_in p x)
down_in_half bits down up p (InLife (Near d)) a h k =
    calls_in_half bits down up p.near p.far a (calls_in p.far d) (near_ends bits down up p h) k
down_in_half bits down up p (InLife (Far d)) a h k = heard_in_half down.bits down.first (calls_in p.near d) a
down_in_half bits down up p (InLife Ends) a h k = tt
down_in_half bits down up p (Restarts keys) a h k = (tt, tt)

up_in_half : (bits : ℕ) (down up : Way) (p : Pair) (x : LifeStep) (a : Account) → JoinedPair bits down up p
    → Agrees a (pdcp up) (told_of up) → AreInHalf up.bits up.first a (up_in p x)
up_in_half bits down up p (InLife (Near d)) a h k = heard_in_half up.bits up.first (calls_in p.far d) a
up_in_half bits down up p (InLife (Far d)) a h k =
    calls_in_half bits up down p.far p.near a (calls_in p.near d) (far_ends bits down up p h) k
up_in_half bits down up p (InLife Ends) a h k = tt
up_in_half bits down up p (Restarts keys) a h k = (tt, tt)

-- ---- through any steps

of_way : (w v : Way) (a : Account) (hs : List AccountEntry) → v.bits ≡ w.bits → v.first ≡ w.first
    → AreInHalf v.bits v.first a hs → AreInHalf w.bits w.first a hs
of_way w v a hs bits first h =
    subst (λ (n : ℕ). AreInHalf n w.first a hs) bits (subst (λ (n : ℕ). AreInHalf v.bits n a hs) first h)

all_in_half : StepsGoOn → (xs : List LifeStep) (bits : ℕ) (down up : Way) (p : Pair) (a b : Account) → AreLiving p xs
    → JoinedPair bits down up p → Agrees a (pdcp down) (told_of down) → Agrees b (pdcp up) (told_of up)
    → AreInHalf down.bits down.first a (over down_in xs p) × AreInHalf up.bits up.first b (over up_in xs p)
all_in_half steps [] bits down up p a b given h k j = (tt, tt)
all_in_half steps (x ∷ xs) bits down up p a b given h k j =
    let one = goes_once steps bits down up p x given.0 h in
    let d = one.down_after in
    let u = one.up_after in
    let q = lives_on p x in
    let a' = account (down_in p x) a in
    let b' = account (up_in p x) b in
    let rest = all_in_half steps xs bits d u q a' b' given.1 one.joined (one.down_goes.tells a k)
    (one.up_goes.tells b j) in (
      half_then down.bits down.first (down_in p x) (over down_in xs q) a (down_in_half bits down up p x a h k)
          (of_way down d a' (over down_in xs q) one.down_goes.bits one.down_goes.first rest.0),
      half_then up.bits up.first (up_in p x) (over up_in xs q) b (up_in_half bits down up p x b h j)
          (of_way up u b' (over up_in xs q) one.up_goes.bits one.up_goes.first rest.1),
    )

pub takes_stay_in_half : StepsGoOn → (c : BearerConfig) (keys : Keys) (nb ue : State) (xs : List LifeStep)
    → AreBothEnds c keys nb ue → AreLiving (am_pair_outset nb ue) xs
    → AreInHalf c.pdcp_bits c.first no_account (over down_in xs (am_pair_outset nb ue))
    × AreInHalf c.pdcp_bits c.first no_account (over up_in xs (am_pair_outset nb ue))
takes_stay_in_half steps c keys nb ue xs h given =
    let down = protection_at c keys Nb in
    let up = protection_at c keys Ue in
    all_in_half steps xs c.pdcp_bits (first_way c down) (first_way c up) (am_pair_outset nb ue) no_account no_account
    given (begins_joined c keys nb ue h) (begins_account c down) (begins_account c up)
