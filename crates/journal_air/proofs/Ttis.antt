-- A TTI, told by the records behind its number: judged right exactly where it is.
use Rattle.std.proofs.Common.{◌≡◌, ◌<◌, ◌≤◌, ℕ, ◌+◌, ◌%◌, ◌==◌, Bool, true, false, not, ◌&&◌, ◌||◌, if◌then◌else◌}
use Rattle.std.proofs.Common.{Option, Some, None, List, [], ◌∷◌, ◌++◌, refl, ap, sym, subst, ◌∙◌, arith}
use Rattle.std.proofs.lemmas.Bool.{and_parts, and_from, eqb-true, eq-eqb}
use Rattle.std.specs.List.{filter}
use Rattle.air_record.specs.declared.line.Outcome.{Outcome}
use Rattle.air_record.specs.declared.record.Arrived.{Arrived}
use Rattle.air_record.specs.declared.record.Arrived.TheVariants as arriveds
use Rattle.air_record.specs.declared.record.Record.{Record}
use Rattle.air_record.specs.declared.record.Record.TheVariants as records
use Rattle.air_record.specs.Outcomes.{missed}
use Rattle.mac_pdu.specs.declared.item.Direction.{Direction}
use Rattle.mac_pdu.specs.declared.item.Direction.TheVariants.{Down, Up}
use Rattle.harq.specs.declared.sender.Order.TheVariants.{Free}
use Rattle.harq.specs.Sending.{Sending}
use Rattle.harq.specs.SendHistory.{Deed, Waited, Built, Resent, is_odd, blocks}
use Rattle.harq.specs.SendHistory.{IsRight as AreResent}
use Rattle.harq.specs.Receiving.{Receiving}
use Rattle.harq.specs.ReceiveHistory.{Told, AreAnsweredRight}
use Rattle.harq.specs.ReceiveHistory.{Heard as Seen}
use Rattle.promises.specs.Awards.{grants, last_seen, AreVisits}
use Rattle.promises.specs.Carried.{AreBuilt, seen, seen_as}
use Rattle.promises.specs.Flights.{IsDown, IsUp}
use Rattle.promises.specs.Heard.{Heard, Flight, heard, is_miss, deeds_of}
use Rattle.promises.specs.RightAir.{is_toward, FliesInAnyOrder, BeginsAtZero}
use Rattle.journal_air.specs.declared.granted.Granted.{Granted}
use Rattle.journal_air.specs.declared.granted.Due.{Due}
use Rattle.journal_air.specs.Told.{BlockTold, AirTold, TtiTold, blank_tti, block_records, air_records}
use Rattle.journal_air.specs.Ends.{BothEnds, after_down, is_down_right, after_up, is_up_right, order_seen}
use Rattle.journal_air.specs.Checking.{Checking, after_tti, with_tti, after_records}
use Rattle.journal_air.specs.Checking.{is_tti_right}
use Rattle.journal_air.proofs.Senders.{Sends, right_is}
use Rattle.journal_air.proofs.Receivers.{heard_right, hears_same, Asks}
use Rattle.journal_air.proofs.Visits.{flight_of, with_flight, zero_version}
use Rattle.journal_air.proofs.Downlink.{DownKnows, DownTold, down_is, down_told, down_back, down_goes_on, down_judged}
use Rattle.journal_air.proofs.Downlink.{sent_down_parts}
use Rattle.journal_air.proofs.Uplink.{UpKnows, UpTold, up_is_right, up_told, up_back, up_goes_on, up_judged}
use Rattle.journal_air.proofs.Uplink.{sent_up_parts}
use Rattle.journal_air.proofs.Tellings.{told_all, AllAir, all_air, air_all, kinds_are, gathered, gives_back}
use Rattle.journal_air.proofs.Tellings.{hearing, flight_in, tti_heard}
use Rattle.journal_air.proofs.Steps.{AllZero, AllInside, closed_still, after_air, air_inside}

-- ---- the first version

pub zero_append : (a b : List Record) → AllZero a → AllZero b → AllZero (a ++ b)
zero_append [] b p q = q
zero_append (one ∷ a) b p q = (p.0, zero_append a b p.1 q)

pub zero_first : (a b : List Record) → AllZero (a ++ b) → AllZero a
zero_first [] b z = tt
zero_first (one ∷ a) b z = (z.0, zero_first a b z.1)

pub zero_second : (a b : List Record) → AllZero (a ++ b) → AllZero b
zero_second [] b z = z
zero_second (one ∷ a) b z = zero_second a b z.1

abbrev pub ZeroBlock : Option BlockTold → Type 0
ZeroBlock block = (b : BlockTold) → block ≡ Some b → b.fresh ≡ true → b.version ≡ 0

zero_of : (d : Direction) (process : ℕ) (fresh : Bool) (version : ℕ) (octets : List ℕ) → (fresh ≡ true → version ≡ 0)
    → BeginsAtZero (records.Block d process fresh version octets)
zero_of d process true version octets h = h refl
zero_of d process false version octets h = tt

zero_is : (d : Direction) (process : ℕ) (fresh : Bool) (version : ℕ) (octets : List ℕ)
    → BeginsAtZero (records.Block d process fresh version octets) → fresh ≡ true → version ≡ 0
zero_is d process true version octets h e = h
zero_is d process false version octets h e = absurd cc

zero_way : (d : Direction) (block : Option BlockTold) (air : Option AirTold) → ZeroBlock block
    → AllZero (block_records d block ++ air_records d air)
zero_way d None None h = tt
zero_way d None (Some a) h = (tt, tt)
zero_way d (Some b) None h = (zero_of d b.process b.fresh b.version b.octets (h b refl), tt)
zero_way d (Some b) (Some a) h = (zero_of d b.process b.fresh b.version b.octets (h b refl), (tt, tt))

same_block : (b c : BlockTold) → Some b ≡ Some c → b ≡ c
same_block b c e = cc

way_zero : (d : Direction) (block : Option BlockTold) (air : Option AirTold)
    → AllZero (block_records d block ++ air_records d air) → ZeroBlock block
way_zero d None air z b e fresh = absurd cc
way_zero d (Some c) air z b e fresh =
    let at = same_block c b e in
    subst (λ (x : BlockTold). x.fresh ≡ true → x.version ≡ 0) at
    (λ f. zero_is d c.process c.fresh c.version c.octets z.0 f) fresh

zero_of_way : (d : Direction) (l : List Record) → AllZero l → AllZero (filter (is_toward d) l)
zero_of_way d [] z = tt
zero_of_way Down (records.Block Down process fresh version octets ∷ l) z = (z.0, zero_of_way Down l z.1)
zero_of_way Down (records.Block Up process fresh version octets ∷ l) z = zero_of_way Down l z.1
zero_of_way Down (records.Air Down what good ∷ l) z = (z.0, zero_of_way Down l z.1)
zero_of_way Down (records.Air Up what good ∷ l) z = zero_of_way Down l z.1
zero_of_way Up (records.Block Down process fresh version octets ∷ l) z = zero_of_way Up l z.1
zero_of_way Up (records.Block Up process fresh version octets ∷ l) z = (z.0, zero_of_way Up l z.1)
zero_of_way Up (records.Air Down what good ∷ l) z = zero_of_way Up l z.1
zero_of_way Up (records.Air Up what good ∷ l) z = (z.0, zero_of_way Up l z.1)
zero_of_way d (one ∷ l) z = zero_of_way d l z.1

zero_of_ways : (l : List Record) → AllZero (filter (is_toward Down) l) → AllZero (filter (is_toward Up) l) → AllZero l
zero_of_ways [] d u = tt
zero_of_ways (records.Block Down process fresh version octets ∷ l) d u = (d.0, zero_of_ways l d.1 u)
zero_of_ways (records.Block Up process fresh version octets ∷ l) d u = (u.0, zero_of_ways l d u.1)
zero_of_ways (records.Air Down what good ∷ l) d u = (tt, zero_of_ways l d.1 u)
zero_of_ways (records.Air Up what good ∷ l) d u = (tt, zero_of_ways l d u.1)
zero_of_ways (one ∷ l) d u = (tt, zero_of_ways l d u)

down_zero : (t grant : ℕ) (o : Outcome) (block : Option BlockTold) (air : Option AirTold) (e : BothEnds)
    → is_down_right t grant o block air e ≡ true → ZeroBlock block
down_zero t grant o None air e h b at fresh = absurd cc
down_zero t grant o (Some c) None e h b at fresh = absurd cc
down_zero t grant o (Some c) (Some a) e h b at fresh =
    subst (λ (x : BlockTold). x.fresh ≡ true → x.version ≡ 0) (same_block c b at)
    (λ f. zero_version t Free c e.sender (sent_down_parts t grant o c a e h).sent f) fresh

up_zero : (t grant : ℕ) (o : Outcome) (block : Option BlockTold) (air : Option AirTold) (e : BothEnds)
    → is_up_right t grant o block air e ≡ true → ZeroBlock block
up_zero t grant o None air e h b at fresh = absurd cc
up_zero t grant o (Some c) None e h b at fresh = absurd cc
up_zero t grant o (Some c) (Some a) e h b at fresh =
    subst (λ (x : BlockTold). x.fresh ≡ true → x.version ≡ 0) (same_block c b at)
    (λ f. zero_version t (order_seen t o e.receiver) c e.sender (sent_up_parts t grant o c a e h).sent f) fresh

-- ---- pasts that are the same, process by process

sends_same : (down : Bool) (maximum : ℕ) (s : Sending) (past more : ℕ → List Deed) → Sends down maximum s past
    → ((p : ℕ) → p < 8 → past p ≡ more p) → Sends down maximum s more
sends_same down maximum s past more h e = record {
  steps = h.steps;
  sender_is = h.sender_is;
  past_is = λ p lt. h.past_is p lt ∙ e p lt;
  maximum_is = h.maximum_is;
  length_is = h.length_is;
  are_down_is = h.are_down_is;
}

asks_same : (maximum : ℕ) (r : Receiving) (past more : ℕ → List Told) → Asks maximum r past
    → ((p : ℕ) → p < 8 → past p ≡ more p) → Asks maximum r more
asks_same maximum r past more h e = record {
  steps = h.steps;
  receiver_is = h.receiver_is;
  past_is = λ p lt. h.past_is p lt ∙ e p lt;
  maximum_is = h.maximum_is;
}

abbrev pub SamePast : (ℕ → List Flight) → (ℕ → List Flight) → Type 0
SamePast fl more = (p : ℕ) → p < 8 → fl p ≡ more p

pub down_same : (maximum : ℕ) (e : BothEnds) (fl more : ℕ → List Flight) → DownKnows maximum e fl → SamePast fl more
    → DownKnows maximum e more
down_same maximum e fl more k same = record {
  sends = sends_same true maximum e.sender (λ p. deeds_of (fl p)) (λ p. deeds_of (more p)) k.sends
      (λ p lt. ap deeds_of (same p lt));
  hears = hears_same maximum e.receiver (λ p. seen (fl p)) (λ p. seen (more p)) k.hears
      (λ p lt. ap seen (sym (same p lt)));
  built = λ p lt. subst (λ (l : List Flight). AreBuilt maximum (deeds_of l)) (same p lt) (k.built p lt);
}

pub up_same : (maximum : ℕ) (e : BothEnds) (fl more : ℕ → List Flight) → UpKnows maximum e fl → SamePast fl more
    → UpKnows maximum e more
up_same maximum e fl more k same = record {
  sends = sends_same false maximum e.sender (λ p. deeds_of (fl p)) (λ p. deeds_of (more p)) k.sends
      (λ p lt. ap deeds_of (same p lt));
  asks = asks_same maximum e.receiver (λ p. grants maximum (fl p)) (λ p. grants maximum (more p)) k.asks
      (λ p lt. ap (grants maximum) (same p lt));
  last = λ p lt. k.last p lt ∙ ap (last_seen maximum) (same p lt);
  visits_are = λ p lt. subst (λ (l : List Flight). AreVisits maximum l) (same p lt) (k.visits_are p lt);
}

-- ---- what is heard of a TTI

abbrev pub Hearings : Type 0
Hearings = Direction → ℕ → Heard

abbrev pub heard_more : List Record → Hearings → Hearings
heard_more told hs d p = heard d p told (hs d p)

abbrev pub past_of : Hearings → Direction → ℕ → List Flight
past_of hs d p = (hs d p).flights

tti_flights : (d : Direction) (t p : ℕ) (told : List Record) (x : TtiTold) (lost : Bool) (h : Heard) → AllAir told
    → told_all told blank_tti ≡ x → x.in_order ≡ true → h.lost ≡ lost
    → (heard d p (records.Tti t ∷ told) h).flights
    ≡ (if p == t % 8 then flight_in d lost x ∷ h.flights else h.flights)
tti_flights d t p told x lost h air is e l =
    let e' : (told_all told blank_tti).in_order ≡ true = ap (λ (y : TtiTold). y.in_order) is ∙ e in
    ap (λ (y : Heard). y.flights) (tti_heard d p t told h air e')
    ∙ by_test (p == t % 8)
    ∙ ap (λ (y : TtiTold). if p == t % 8 then flight_in d h.lost y ∷ h.flights else h.flights) is
    ∙ ap (λ (y : Bool). if p == t % 8 then flight_in d y x ∷ h.flights else h.flights) l
  where
    by_test : (b : Bool)
        → (if b then hearing h.lost true (flight_in d h.lost (told_all told blank_tti) ∷ h.flights)
        else hearing h.lost false h.flights).flights
        ≡ (if b then flight_in d h.lost (told_all told blank_tti) ∷ h.flights else h.flights)
    by_test true = refl
    by_test false = refl

tti_loses : (d : Direction) (t p : ℕ) (told : List Record) (h : Heard) → AllAir told
    → (told_all told blank_tti).in_order ≡ true → (heard d p (records.Tti t ∷ told) h).lost ≡ h.lost
tti_loses d t p told h air e =
    ap (λ (y : Heard). y.lost) (tti_heard d p t told h air e) ∙ by_test (p == t % 8)
  where
    by_test : (b : Bool)
        → (if b then hearing h.lost true (flight_in d h.lost (told_all told blank_tti) ∷ h.flights)
        else hearing h.lost false h.flights).lost
        ≡ h.lost
    by_test true = refl
    by_test false = refl

-- ---- the checker stands where what was heard has it

pub record Knows (maximum : ℕ) (down_lost up_lost : Bool) (c : Checking) (hs : Hearings) : Type 0 where
  pub some : 1 ≤ maximum
  pub is_right : c.right ≡ true
  pub rests : c.running ≡ None
  pub down : DownKnows maximum c.down (past_of hs Down)
  pub up : UpKnows maximum c.up (past_of hs Up)
  pub down_lost_is : (p : ℕ) → (hs Down p).lost ≡ down_lost
  pub up_lost_is : (p : ℕ) → (hs Up p).lost ≡ up_lost

-- what is heard is right, process by process
pub record Carries (maximum : ℕ) (hs : Hearings) : Type 0 where
  pub down_resent : (p : ℕ) → p < 8 → AreResent maximum (deeds_of (past_of hs Down p))
  pub down_built : (p : ℕ) → p < 8 → AreBuilt maximum (deeds_of (past_of hs Down p))
  pub down_answered : (p : ℕ) → p < 8 → AreAnsweredRight (seen (past_of hs Down p))
  pub up_resent : (p : ℕ) → p < 8 → AreResent maximum (deeds_of (past_of hs Up p))
  pub up_visits : (p : ℕ) → p < 8 → AreVisits maximum (past_of hs Up p)

pub carries_now : (maximum : ℕ) (a b : Bool) (c : Checking) (hs : Hearings) → Knows maximum a b c hs
    → Carries maximum hs
carries_now maximum a b c hs k = record {
  down_resent = right_is true maximum c.down.sender (λ p. deeds_of (past_of hs Down p)) k.some k.down.sends;
  down_built = k.down.built;
  down_answered = heard_right maximum c.down.receiver (λ p. seen (past_of hs Down p)) k.down.hears;
  up_resent = right_is false maximum c.up.sender (λ p. deeds_of (past_of hs Up p)) k.some k.up.sends;
  up_visits = k.up.visits_are;
}

-- ---- a TTI

pub record FlownRight (t : ℕ) (g : Granted) (flown : List Record) : Type 0 where
  pub asleep : Bool
  pub may : (not asleep || g.may_sleep) ≡ true
  pub flies : FliesInAnyOrder asleep t g.up_grant g.up g.down_grant g.down flown

abbrev pub tti_of : ℕ → List Record → Granted → Due → Checking → Checking
tti_of t flown g due c = after_tti (after_records flown (with_tti t g due c))

abbrev pub judged_as : ℕ → Granted → Due → TtiTold → Checking → Checking
judged_as t g due x c = record {
  down = after_down t x.down.block x.down.air c.down;
  up = after_up t (missed x.asleep g.up) x.up.block x.up.air c.up;
  due = due;
  running = None;
  next = c.next + 1;
  right = (c.right && (t == c.next)) && is_tti_right t g x c.down c.up;
}

tti_is : (t : ℕ) (flown : List Record) (g : Granted) (due : Due) (c : Checking) → AllAir flown
    → tti_of t flown g due c ≡ judged_as t g due (told_all flown blank_tti) c
tti_is t flown g due c air =
    ap after_tti (after_air flown c.down c.up due t g blank_tti (c.next + 1) (c.right && (t == c.next)) air)

pub record TtiSound (maximum : ℕ) (a b : Bool) (t : ℕ) (flown : List Record) (g : Granted) (due : Due) (c : Checking)
    (hs : Hearings) : Type 0 where
  pub number_is : t ≡ c.next
  pub flown_right : FlownRight t g flown
  pub zero : AllZero flown
  pub air : AllAir flown
  pub knows : Knows maximum a b (tti_of t flown g due c) (heard_more (records.Tti t ∷ flown) hs)
  pub next_is : (tti_of t flown g due c).next ≡ c.next + 1
  pub due_is : (tti_of t flown g due c).due ≡ due

record TtiParts (t : ℕ) (g : Granted) (x : TtiTold) (c : Checking) : Type 0 where
  number_is : t ≡ c.next
  in_order : x.in_order ≡ true
  may : (not x.asleep || g.may_sleep) ≡ true
  down : is_down_right t g.down_grant (missed x.asleep g.down) x.down.block x.down.air c.down ≡ true
  up : is_up_right t g.up_grant (missed x.asleep g.up) x.up.block x.up.air c.up ≡ true

tti_parts : (t : ℕ) (g : Granted) (due : Due) (x : TtiTold) (c : Checking) → (judged_as t g due x c).right ≡ true
    → TtiParts t g x c
tti_parts t g due x c e =
    let front = c.right && (t == c.next) in
    let first = and_parts front (is_tti_right t g x c.down c.up) e in
    let number = and_parts c.right (t == c.next) first.0 in
    let one = x.in_order in
    let two = not x.asleep || g.may_sleep in
    let three = is_down_right t g.down_grant (missed x.asleep g.down) x.down.block x.down.air c.down in
    let four = is_up_right t g.up_grant (missed x.asleep g.up) x.up.block x.up.air c.up in
    let p = and_parts (one && two && three) four first.1 in
    let q = and_parts (one && two) three p.0 in
    let r = and_parts one two q.0 in
    record { number_is = eqb-true t c.next number.1; in_order = r.0; may = r.1; down = q.1; up = p.1 }

-- as gathered
sound_as : (maximum : ℕ) (a b : Bool) (t : ℕ) (flown : List Record) (g : Granted) (due : Due) (x : TtiTold)
    (c : Checking) (hs : Hearings) → Knows maximum a b c hs → b ≡ is_miss g.up.fate → AllAir flown
    → told_all flown blank_tti ≡ x → TtiParts t g x c → (judged_as t g due x c).right ≡ true
    → Knows maximum a b (judged_as t g due x c) (heard_more (records.Tti t ∷ flown) hs)
sound_as maximum a b t flown g due x c hs k lost air is h right =
    let f = flight_of a x.asleep x.down.block x.down.air in
    let u = flight_of b x.asleep x.up.block x.up.air in
    let more = heard_more (records.Tti t ∷ flown) hs in
    let order : (told_all flown blank_tti).in_order ≡ true = ap (λ (y : TtiTold). y.in_order) is ∙ h.in_order in
    record {
      some = k.some;
      is_right = right;
      rests = refl;
      down = down_same maximum (after_down t x.down.block x.down.air c.down) (with_flight t f (past_of hs Down))
          (past_of more Down)
          (down_goes_on maximum t g.down_grant (missed x.asleep g.down) x.down.block x.down.air c.down
          (past_of hs Down) a
          x.asleep k.some k.down h.down)
          (λ p lt. sym (tti_flights Down t p flown x a (hs Down p) air is h.in_order (k.down_lost_is p)));
      up = up_same maximum (after_up t (missed x.asleep g.up) x.up.block x.up.air c.up)
          (with_flight t u (past_of hs Up)) (past_of more Up)
          (up_goes_on maximum t g.up_grant g.up x.up.block x.up.air c.up
          (past_of hs Up) b x.asleep k.some lost k.up h.up)
          (λ p lt. sym (tti_flights Up t p flown x b (hs Up p) air is h.in_order (k.up_lost_is p)));
      down_lost_is = λ p. tti_loses Down t p flown (hs Down p) air order ∙ k.down_lost_is p;
      up_lost_is = λ p. tti_loses Up t p flown (hs Up p) air order ∙ k.up_lost_is p;
    }

pub tti_sound : (maximum : ℕ) (a b : Bool) (t : ℕ) (flown : List Record) (g : Granted) (due : Due) (c : Checking)
    (hs : Hearings) → Knows maximum a b c hs → b ≡ is_miss g.up.fate → AllInside flown
    → (tti_of t flown g due c).right ≡ true → TtiSound maximum a b t flown g due c hs
tti_sound maximum a b t flown g due c hs k lost inside e =
    let inner = after_records flown (with_tti t g due c) in
    let air = air_inside flown (with_tti t g due c) inside (closed_still inner.running inner e) in
    let x = told_all flown blank_tti in
    let is = tti_is t flown g due c air in
    let right : (judged_as t g due x c).right ≡ true = subst (λ (y : Checking). y.right ≡ true) is e in
    let h = tti_parts t g due x c right in
    let kinds = kinds_are flown h.in_order in
    let d = down_is t g.down_grant (missed x.asleep g.down) x.down.block x.down.air c.down h.down in
    let u = up_is_right t g.up_grant (missed x.asleep g.up) x.up.block x.up.air c.up h.up in
    record {
      number_is = h.number_is;
      flown_right = record {
        asleep = x.asleep;
        may = h.may;
        flies = record {
          of_air = air_all flown air;
          sleeps = kinds.sleeps_is;
          down_is = subst (λ (l : List Record). IsDown t g.down_grant (missed x.asleep g.down) l) (sym kinds.down_is)
              (down_back t g.down_grant (missed x.asleep g.down) x.down d);
          up_is = subst (λ (l : List Record). IsUp t g.up_grant (missed x.asleep g.up) l) (sym kinds.up_is)
              (up_back t g.up_grant (missed x.asleep g.up) x.up u);
        };
      };
      zero = zero_of_ways flown
          (subst (λ (l : List Record). AllZero l) (sym kinds.down_is)
          (zero_way Down x.down.block x.down.air
          (down_zero t g.down_grant (missed x.asleep g.down) x.down.block x.down.air c.down h.down)))
          (subst (λ (l : List Record). AllZero l) (sym kinds.up_is)
          (zero_way Up x.up.block x.up.air
          (up_zero t g.up_grant (missed x.asleep g.up) x.up.block x.up.air c.up h.up)));
      air = air;
      knows = subst (λ (y : Checking). Knows maximum a b y (heard_more (records.Tti t ∷ flown) hs)) (sym is)
          (sound_as maximum a b t flown g due x c hs k lost air refl h right);
      next_is = ap (λ (y : Checking). y.next) is;
      due_is = ap (λ (y : Checking). y.due) is;
    }

-- ---- less is right where more is

deed_less : (maximum : ℕ) (d : Deed) (l : List Deed) → AreResent maximum (d ∷ l) → AreResent maximum l
deed_less maximum Waited l h = h
deed_less maximum (Built octets good) l h = h
deed_less maximum (Resent version octets good) l h = h.1

built_less : (maximum : ℕ) (d : Deed) (l : List Deed) → AreBuilt maximum (d ∷ l) → AreBuilt maximum l
built_less maximum Waited l h = h
built_less maximum (Built octets good) l h = h.1
built_less maximum (Resent version octets good) l h = h

seen_less : (came : Option Arrived) (ndi : Bool) (l : List Seen) → AreAnsweredRight (seen_as came ndi l)
    → AreAnsweredRight l
seen_less None ndi l h = h
seen_less (Some arriveds.Got) ndi l h = h.1
seen_less (Some arriveds.Dup) ndi l h = h.1
seen_less (Some arriveds.Bad) ndi l h = h.1
seen_less (Some arriveds.Nothing) ndi l h = h

resent_if : (maximum : ℕ) (b : Bool) (f : Flight) (l : List Flight)
    → AreResent maximum (deeds_of (if b then f ∷ l else l)) → AreResent maximum (deeds_of l)
resent_if maximum true f l h = deed_less maximum f.deed (deeds_of l) h
resent_if maximum false f l h = h

built_if : (maximum : ℕ) (b : Bool) (f : Flight) (l : List Flight)
    → AreBuilt maximum (deeds_of (if b then f ∷ l else l)) → AreBuilt maximum (deeds_of l)
built_if maximum true f l h = built_less maximum f.deed (deeds_of l) h
built_if maximum false f l h = h

seen_if : (b : Bool) (f : Flight) (l : List Flight) → AreAnsweredRight (seen (if b then f ∷ l else l))
    → AreAnsweredRight (seen l)
seen_if true f l h = seen_less f.came (is_odd (blocks (f.deed ∷ deeds_of l))) (seen l) h
seen_if false f l h = h

visits_if : (maximum : ℕ) (b : Bool) (f : Flight) (l : List Flight) → AreVisits maximum (if b then f ∷ l else l)
    → AreVisits maximum l
visits_if maximum true f l h = h.1
visits_if maximum false f l h = h

pub flown_air : (t : ℕ) (g : Granted) (flown : List Record) → FlownRight t g flown → AllAir flown
flown_air t g flown h = all_air flown h.flies.of_air

-- what is gathered of a TTI that flies
record GatheredRight (t : ℕ) (g : Granted) (flown : List Record) (asleep : Bool) : Type 0 where
  down : DownTold t g.down_grant (missed asleep g.down) (filter (is_toward Down) flown)
  up : UpTold t g.up_grant (missed asleep g.up) (filter (is_toward Up) flown)
  told_is : told_all flown blank_tti ≡ gathered asleep down.way up.way

gathered_right : (t : ℕ) (g : Granted) (flown : List Record) (h : FlownRight t g flown)
    → GatheredRight t g flown h.asleep
gathered_right t g flown h =
    let d = down_told t g.down_grant (missed h.asleep g.down) (filter (is_toward Down) flown) h.flies.down_is in
    let u = up_told t g.up_grant (missed h.asleep g.up) (filter (is_toward Up) flown) h.flies.up_is in
    record {
      down = d;
      up = u;
      told_is = gives_back flown h.asleep d.way u.way
          (record { sleeps_is = h.flies.sleeps; down_is = d.flown_is; up_is = u.flown_is });
    }

pub carries_less : (maximum t : ℕ) (g : Granted) (flown : List Record) (hs : Hearings) → FlownRight t g flown
    → Carries maximum (heard_more (records.Tti t ∷ flown) hs) → Carries maximum hs
carries_less maximum t g flown hs h carries =
    let air = flown_air t g flown h in
    let x = gathered_right t g flown h in
    let flights = λ (d : Direction) (p : ℕ). tti_flights d t p flown (gathered h.asleep x.down.way x.up.way)
    (hs d p).lost (hs d p) air x.told_is refl refl in
    record {
      down_resent = λ p lt. resent_if maximum (p == t % 8) _ (past_of hs Down p)
          (subst (λ (l : List Flight). AreResent maximum (deeds_of l)) (flights Down p) (carries.down_resent p lt));
      down_built = λ p lt. built_if maximum (p == t % 8) _ (past_of hs Down p)
          (subst (λ (l : List Flight). AreBuilt maximum (deeds_of l)) (flights Down p) (carries.down_built p lt));
      down_answered = λ p lt. seen_if (p == t % 8) _ (past_of hs Down p)
          (subst (λ (l : List Flight). AreAnsweredRight (seen l)) (flights Down p) (carries.down_answered p lt));
      up_resent = λ p lt. resent_if maximum (p == t % 8) _ (past_of hs Up p)
          (subst (λ (l : List Flight). AreResent maximum (deeds_of l)) (flights Up p) (carries.up_resent p lt));
      up_visits = λ p lt. visits_if maximum (p == t % 8) _ (past_of hs Up p)
          (subst (λ (l : List Flight). AreVisits maximum l) (flights Up p) (carries.up_visits p lt));
    }

-- ---- what is right is judged so

pub tti_complete : (maximum : ℕ) (a b : Bool) (t : ℕ) (flown : List Record) (g : Granted) (due : Due) (c : Checking)
    (hs : Hearings) → Knows maximum a b c hs → b ≡ is_miss g.up.fate → t ≡ c.next → FlownRight t g flown
    → AllZero flown → Carries maximum (heard_more (records.Tti t ∷ flown) hs)
    → (tti_of t flown g due c).right ≡ true
tti_complete maximum a b t flown g due c hs k lost number h zero carries =
    let air = flown_air t g flown h in
    let r = gathered_right t g flown h in
    let d = r.down in
    let u = r.up in
    let at = t % 8 in
    let x = gathered h.asleep d.way u.way in
    let down_zeros = way_zero Down d.way.block d.way.air
    (subst (λ (l : List Record). AllZero l) d.flown_is (zero_of_way Down flown zero)) in
    let up_zeros = way_zero Up u.way.block u.way.air
    (subst (λ (l : List Record). AllZero l) u.flown_is (zero_of_way Up flown zero)) in
    let down_is = tti_flights Down t at flown x a (hs Down at) air r.told_is refl (k.down_lost_is at) in
    let up_is = tti_flights Up t at flown x b (hs Up at) air r.told_is refl (k.up_lost_is at) in
    let lt : at < 8 = omega arith in
    let down = down_judged maximum t g.down_grant (missed h.asleep g.down) d.way c.down (past_of hs Down) a h.asleep
    k.some k.down d.is down_zeros
    (subst (λ (l : List Flight). AreResent maximum (deeds_of l)) down_is (carries.down_resent at lt))
    (subst (λ (l : List Flight). AreBuilt maximum (deeds_of l)) down_is (carries.down_built at lt))
    (subst (λ (l : List Flight). AreAnsweredRight (seen l)) down_is (carries.down_answered at lt)) in
    let up = up_judged maximum t g.up_grant g.up u.way c.up (past_of hs Up) b h.asleep k.some lost k.up u.is up_zeros
    (subst (λ (l : List Flight). AreResent maximum (deeds_of l)) up_is (carries.up_resent at lt))
    (subst (λ (l : List Flight). AreVisits maximum l) up_is (carries.up_visits at lt)) in
    let right : (judged_as t g due x c).right ≡ true =
    and_from (c.right && (t == c.next)) (is_tti_right t g x c.down c.up)
    (and_from c.right (t == c.next) k.is_right (eq-eqb t c.next number))
    (and_from _ _ (and_from _ _ h.may down) up) in
    subst (λ (y : Checking). y.right ≡ true)
    (sym (tti_is t flown g due c air ∙ ap (λ (y : TtiTold). judged_as t g due y c) r.told_is)) right
