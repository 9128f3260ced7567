-- A TTI of the downlink: it is judged right exactly where it is as grant, outcome and HARQ have it.
use Rattle.std.proofs.Common.{◌≡◌, ◌<◌, ◌≤◌, ℕ, ◌%◌, Bool, true, false, not, ◌&&◌, ◌==◌, if◌then◌else◌}
use Rattle.std.proofs.Common.{Option, Some, None, is_some, List, [], ◌∷◌, refl, ap, sym, subst, ◌∙◌, arith}
use Rattle.std.proofs.Common.{◌⊎◌, inl, inr}
use Rattle.std.proofs.lemmas.Bool.{cases_eq, and_parts, and_from, eqb-true, eqb-false, eq-eqb, ne_eqb, not-true}
use Rattle.std.proofs.lemmas.Bool.{not_from_false}
use Rattle.std.proofs.lemmas.Bool.Decides.{nat_tests}
use Rattle.air_record.specs.declared.line.Fate.{Fate}
use Rattle.air_record.specs.declared.line.Fate.TheVariants.{Ok, Bad, Miss}
use Rattle.air_record.specs.declared.line.Outcome.{Outcome}
use Rattle.air_record.specs.declared.record.Arrived.{Arrived}
use Rattle.air_record.specs.declared.record.Arrived.TheVariants as arriveds
use Rattle.air_record.specs.declared.record.Record.{Record}
use Rattle.air_record.specs.declared.record.Record.TheVariants as records
use Rattle.air_record.specs.Outcomes.{turned as heard_through}
use Rattle.mac_pdu.specs.declared.item.Direction.TheVariants.{Down}
use Rattle.harq.specs.declared.sender.Order.TheVariants.{Silent, Free}
use Rattle.harq.specs.declared.receiver.Answer.{Answer}
use Rattle.harq.specs.declared.receiver.Answer.TheVariants as answers
use Rattle.harq.specs.Sending.{Sending, visit_answer, held_of, ndi_of, same}
use Rattle.harq.specs.SendHistory.{Turn, Deed, Waited, deed, turned, blocks, is_odd, held_by}
use Rattle.harq.specs.SendHistory.{IsResending}
use Rattle.harq.specs.SendHistory.{IsRight as AreResent}
use Rattle.harq.specs.Receiving.{Receiving, assigned_answer}
use Rattle.harq.specs.ReceiveHistory.{Heard as Seen, right_answer, AreAnsweredRight, is_intact}
use Rattle.promises.specs.Flights.{feedback, CanCome, IsDown}
use Rattle.promises.specs.Heard.{Flight, deeds_of}
use Rattle.promises.specs.Carried.{AreBuilt, seen, seen_as}
use Rattle.journal_air.specs.Told.{BlockTold, AirTold, WayTold, no_way, way_records}
use Rattle.journal_air.specs.Ends.{BothEnds, turn_of, is_sent, is_read, can_come_down, is_handed_up, is_known}
use Rattle.journal_air.specs.Ends.{after_seeing}
use Rattle.journal_air.specs.Ends.{is_answered, is_sent_down, after_down, is_down_right}
use Rattle.journal_air.proofs.Senders.{Sends, held_is, ndi_counts, sends_more, visit_by}
use Rattle.journal_air.proofs.Receivers.{Hears, hears_more, hears_same, answer_is}
use Rattle.journal_air.proofs.Visits.{flight_of, with_flight, flight_here, idle_deed, idle_came, told_deed, pair_deed}
use Rattle.journal_air.proofs.Visits.{deeds_with, deed_is_told, sent_kind, sent_as_told, IsOfKind}

-- ---- the records of the way

pub record FlownDown (t grant : ℕ) (o : Outcome) (w : WayTold) : Type 0 where
  pub block : BlockTold
  pub what : Arrived
  pub some : 1 ≤ grant
  pub process_is : block.process ≡ t % 8
  pub can : can_come_down o.fate what ≡ true
  pub w_is : w ≡ record {
    block = Some block;
    air = Some (record { what = what; heard = Some (heard_through o.flipped (feedback what)) });
  }

abbrev pub DownIs : ℕ → ℕ → Outcome → WayTold → Type 0
DownIs t grant o w = ((grant ≡ 0) × (w ≡ no_way)) ⊎ FlownDown t grant o w

can_from : (fate : Fate) (what : Arrived) → CanCome fate what → can_come_down fate what ≡ true
can_from Ok what h = elim h [ inl e ↦ rw e refl | inr e ↦ rw e refl ]
can_from Bad what h = rw h refl
can_from Miss what h = rw h refl

can_to : (fate : Fate) (what : Arrived) → can_come_down fate what ≡ true → CanCome fate what
can_to Ok arriveds.Got e = inl refl
can_to Ok arriveds.Dup e = inr refl
can_to Ok arriveds.Bad e = absurd cc
can_to Ok arriveds.Nothing e = absurd cc
can_to Bad arriveds.Got e = absurd cc
can_to Bad arriveds.Dup e = absurd cc
can_to Bad arriveds.Bad e = refl
can_to Bad arriveds.Nothing e = absurd cc
can_to Miss arriveds.Got e = absurd cc
can_to Miss arriveds.Dup e = absurd cc
can_to Miss arriveds.Bad e = absurd cc
can_to Miss arriveds.Nothing e = refl

pub record DownTold (t grant : ℕ) (o : Outcome) (flown : List Record) : Type 0 where
  pub way : WayTold
  pub is : DownIs t grant o way
  pub flown_is : flown ≡ way_records Down way

pub down_told : (t grant : ℕ) (o : Outcome) (flown : List Record) → IsDown t grant o flown
    → DownTold t grant o flown
down_told t grant o flown h = elim (cases_eq grant 0) [
  | inl none ↦ record { way = no_way; is = inl (none, refl); flown_is = h.none none }
  | inr other ↦
      let some : 1 ≤ grant = omega arith in
      let f = h.one some in
      record {
        way = record {
          block = Some (record { process = t % 8; fresh = f.fresh; version = f.version; octets = f.octets });
          air = Some (record { what = f.what; heard = Some (heard_through o.flipped (feedback f.what)) });
        };
        is = inr (record {
          block = record { process = t % 8; fresh = f.fresh; version = f.version; octets = f.octets };
          what = f.what;
          some = some;
          process_is = refl;
          can = can_from o.fate f.what f.by_fate;
          w_is = refl;
        });
        flown_is = f.flown_is;
      }
]

pub down_back : (t grant : ℕ) (o : Outcome) (w : WayTold) → DownIs t grant o w → IsDown t grant o (way_records Down w)
down_back t grant o w h = elim h [
  | inl none ↦ subst (λ (x : WayTold). IsDown t grant o (way_records Down x)) (sym none.1)
      (record { none = λ z. refl; one = λ some. absurd (omega (arith, none.0)) })
  | inr f ↦ subst (λ (x : WayTold). IsDown t grant o (way_records Down x)) (sym f.w_is)
      (record {
        none = λ z. absurd (omega (arith, f.some));
        one = λ some. record {
          fresh = f.block.fresh;
          version = f.block.version;
          octets = f.block.octets;
          what = f.what;
          by_fate = can_to o.fate f.what f.can;
          flown_is = ap
              (λ (p : ℕ). records.Block Down p f.block.fresh f.block.version f.block.octets
              ∷ records.Air Down f.what (Some (heard_through o.flipped (feedback f.what))) ∷ [])
              f.process_is;
        };
      })
]

same_is : (a b : Bool) → same a b ≡ true → a ≡ b
same_is true true e = refl
same_is true false e = absurd cc
same_is false true e = absurd cc
same_is false false e = refl

same_self : (a : Bool) → same a a ≡ true
same_self true = refl
same_self false = refl

pub read_is : (o : Outcome) (a : AirTold) (h : Option Bool) → is_read o a h ≡ true
    → h ≡ Some (heard_through o.flipped (feedback a.what))
read_is o a None e = absurd cc
read_is o a (Some good) e =
    ap (λ (b : Bool). Some b) (same_is good (heard_through o.flipped (feedback a.what)) e)

pub is_read_so : (o : Outcome) (a : AirTold) (h : Option Bool)
    → h ≡ Some (heard_through o.flipped (feedback a.what)) → is_read o a h ≡ true
is_read_so o a h e =
    subst (λ (x : Option Bool). is_read o a x ≡ true) (sym e) (same_self (heard_through o.flipped (feedback a.what)))

-- the parts of a right judgement
pub record SentDown (t grant : ℕ) (o : Outcome) (b : BlockTold) (a : AirTold) (e : BothEnds) : Type 0 where
  pub some : (grant == 0) ≡ false
  pub sent : is_sent t Free b e.sender ≡ true
  pub can : can_come_down o.fate a.what ≡ true
  pub read : a.heard ≡ Some (heard_through o.flipped (feedback a.what))
  pub answered : is_answered t (ndi_of (turned (turn_of t Free b a) e.sender) (t % 8)) a.what e.receiver ≡ true

pub sent_down_parts : (t grant : ℕ) (o : Outcome) (b : BlockTold) (a : AirTold) (e : BothEnds)
    → is_down_right t grant o (Some b) (Some a) e ≡ true → SentDown t grant o b a e
sent_down_parts t grant o b a e h =
    let s = turned (turn_of t Free b a) e.sender in
    let first = and_parts (not (grant == 0)) (is_sent_down t o b a e) h in
    let one = is_sent t Free b e.sender in
    let two = can_come_down o.fate a.what in
    let three = is_read o a a.heard in
    let four = is_answered t (ndi_of s (t % 8)) a.what e.receiver in
    let p = and_parts (one && two && three) four first.1 in
    let q = and_parts (one && two) three p.0 in
    let r = and_parts one two q.0 in
    record {
      some = not-true (grant == 0) first.0;
      sent = r.0;
      can = r.1;
      read = read_is o a a.heard q.1;
      answered = p.1;
    }

pub process_of : (t : ℕ) (b : BlockTold) (x : Bool) → ((b.process == t % 8) && x) ≡ true → b.process ≡ t % 8
process_of t b x h = eqb-true b.process (t % 8) (and_parts (b.process == t % 8) x h).0

pub down_is : (t grant : ℕ) (o : Outcome) (block : Option BlockTold) (air : Option AirTold) (e : BothEnds)
    → is_down_right t grant o block air e ≡ true → DownIs t grant o (record { block = block; air = air })
down_is t grant o None None e h = inl (eqb-true grant 0 h, refl)
down_is t grant o None (Some a) e h = absurd cc
down_is t grant o (Some b) None e h = absurd cc
down_is t grant o (Some b) (Some a) e h =
    let k = sent_down_parts t grant o b a e h in
    let nonzero = eqb-false grant 0 k.some in
    inr (record {
      block = b;
      what = a.what;
      some = elim (cases_eq grant 0) [ inl z ↦ absurd (nonzero z) | inr other ↦ omega arith ];
      process_is = process_of t b _ k.sent;
      can = k.can;
      w_is = ap (λ (x : Option Bool). record { block = Some b; air = Some (record { what = a.what; heard = x }) })
          k.read;
    })

-- ---- both ends of the downlink stand where the past has them

pub record DownKnows (maximum : ℕ) (e : BothEnds) (fl : ℕ → List Flight) : Type 0 where
  pub sends : Sends true maximum e.sender (λ p. deeds_of (fl p))
  pub hears : Hears maximum e.receiver (λ p. seen (fl p))
  pub built : (p : ℕ) → p < 8 → AreBuilt maximum (deeds_of (fl p))

-- ---- a TTI with no block

seen_none : (test : Bool) (f : Flight) (l : List Flight) → f.came ≡ None → seen (if test then f ∷ l else l) ≡ seen l
seen_none true f l e = ap (λ (c : Option Arrived). seen_as c (is_odd (blocks (f.deed ∷ deeds_of l))) (seen l)) e
seen_none false f l e = refl

built_waited : (maximum : ℕ) (test : Bool) (l : List Deed) → AreBuilt maximum l
    → AreBuilt maximum (if test then Waited ∷ l else l)
built_waited maximum true l h = h
built_waited maximum false l h = h

silent_down : (maximum t : ℕ) (e : BothEnds) (fl : ℕ → List Flight) (lost asleep : Bool) → DownKnows maximum e fl
    → DownKnows maximum (after_down t None None e) (with_flight t (flight_of lost asleep None None) fl)
unfolding visit_answer
silent_down maximum t e fl lost asleep k =
    let f = flight_of lost asleep None None in
    let turn : Turn = record { tti = t; order = Silent; octets = []; good = false } in
    let deeds = λ (p : ℕ). deeds_with (p == t % 8) f Waited (fl p) (idle_deed lost asleep) in
    record {
      sends = sends_more true maximum e.sender (λ p. deeds_of (fl p)) (λ p. deeds_of (with_flight t f fl p)) turn
          (λ d. refl) k.sends (λ p lt. deeds p);
      hears = hears_same maximum e.receiver (λ p. seen (fl p)) (λ p. seen (with_flight t f fl p)) k.hears
          (λ p lt. seen_none (p == t % 8) f (fl p) (idle_came lost asleep));
      built = λ p lt. subst (λ (l : List Deed). AreBuilt maximum l) (sym (deeds p))
          (built_waited maximum (p == t % 8) (deeds_of (fl p)) (k.built p lt));
    }

-- ---- a TTI with a block

up_is : (x : Answer) → is_handed_up x ≡ true → x ≡ answers.Up
up_is answers.Up e = refl
up_is answers.Again e = absurd cc
up_is answers.Damaged e = absurd cc
up_is answers.Nothing e = absurd cc

again_is : (x : Answer) → is_known x ≡ true → x ≡ answers.Again
again_is answers.Up e = absurd cc
again_is answers.Again e = refl
again_is answers.Damaged e = absurd cc
again_is answers.Nothing e = absurd cc

if_same : (test : Bool) (l : List Seen) → l ≡ (if test then l else l)
if_same true l = refl
if_same false l = refl

-- what the terminal hears is what is told
hears_told : (what : Arrived) (maximum t : ℕ) (ndi : Bool) (r : Receiving) (past more : ℕ → List Seen)
    → Hears maximum r past → is_answered t ndi what r ≡ true
    → ((p : ℕ) → p < 8 → more p ≡ (if p == t % 8 then seen_as (Some what) ndi (past p) else past p))
    → Hears maximum (after_seeing t ndi what r) more
unfolding assigned_answer
hears_told arriveds.Got maximum t ndi r past more h a e =
    hears_more maximum r past more (record { tti = t; ndi = ndi; good = true }) h (λ p lt. e p lt
    ∙ ap (λ (x : Answer). if p == t % 8 then (record { ndi = ndi; good = true; answer = x }) ∷ past p else past p)
    (sym (up_is (assigned_answer r t ndi true) a)))
hears_told arriveds.Dup maximum t ndi r past more h a e =
    hears_more maximum r past more (record { tti = t; ndi = ndi; good = true }) h (λ p lt. e p lt
    ∙ ap (λ (x : Answer). if p == t % 8 then (record { ndi = ndi; good = true; answer = x }) ∷ past p else past p)
    (sym (again_is (assigned_answer r t ndi true) a)))
hears_told arriveds.Bad maximum t ndi r past more h a e =
    hears_more maximum r past more (record { tti = t; ndi = ndi; good = false }) h e
hears_told arriveds.Nothing maximum t ndi r past more h a e =
    hears_same maximum r past more h (λ p lt. e p lt ∙ sym (if_same (p == t % 8) (past p)))

-- where none is held a new block is built
none_held : (held : Option (List ℕ)) → not (is_some held) ≡ true → held ≡ None
none_held None e = refl
none_held (Some o) e = absurd cc

built_one : (maximum : ℕ) (fresh : Bool) (version : ℕ) (octets : List ℕ) (good : Bool) (l : List Deed)
    → (fresh ≡ true → held_by maximum l ≡ None) → AreBuilt maximum l
    → AreBuilt maximum (told_deed fresh version octets good ∷ l)
built_one maximum true version octets good l none h = (none refl, h)
built_one maximum false version octets good l none h = h

-- the deed that is told is the sender's
down_deed : (t : ℕ) (lost asleep : Bool) (o : Outcome) (b : BlockTold) (a : AirTold) (s : Sending)
    → is_sent t Free b s ≡ true → a.heard ≡ Some (heard_through o.flipped (feedback a.what))
    → (flight_of lost asleep (Some b) (Some a)).deed ≡ deed (turn_of t Free b a) s
down_deed t lost asleep o b a s e read =
    pair_deed lost asleep b.fresh b.version b.octets a.what a.heard (ap is_some read)
    ∙ sym (deed_is_told t Free b a s e)

-- the sender, with the deed that is told
down_sends : (maximum t : ℕ) (e : BothEnds) (fl : ℕ → List Flight) (f : Flight) (b : BlockTold) (a : AirTold)
    → DownKnows maximum e fl → f.deed ≡ deed (turn_of t Free b a) e.sender
    → Sends true maximum (turned (turn_of t Free b a) e.sender) (λ p. deeds_of (with_flight t f fl p))
down_sends maximum t e fl f b a k d =
    sends_more true maximum e.sender (λ p. deeds_of (fl p)) (λ p. deeds_of (with_flight t f fl p)) (turn_of t Free b a)
    (λ x. refl) k.sends
    (λ p lt. deeds_with (p == t % 8) f (deed (turn_of t Free b a) e.sender) (fl p) d)

-- its NDI is that of the past with it
down_ndi : (maximum t : ℕ) (e : BothEnds) (fl : ℕ → List Flight) (f : Flight) (b : BlockTold) (a : AirTold)
    → DownKnows maximum e fl → f.deed ≡ deed (turn_of t Free b a) e.sender
    → ndi_of (turned (turn_of t Free b a) e.sender) (t % 8) ≡ is_odd (blocks (f.deed ∷ deeds_of (fl (t % 8))))
down_ndi maximum t e fl f b a k d =
    ndi_counts maximum (turned (turn_of t Free b a) e.sender) (λ p. deeds_of (with_flight t f fl p))
    (down_sends maximum t e fl f b a k d) (t % 8) (omega arith)
    ∙ ap (λ (l : List Flight). is_odd (blocks (deeds_of l))) (flight_here t f fl)

seen_more : (t p : ℕ) (f : Flight) (what : Arrived) (ndi : Bool) (fl : ℕ → List Flight) → f.came ≡ Some what
    → ndi ≡ is_odd (blocks (f.deed ∷ deeds_of (fl (t % 8))))
    → seen (with_flight t f fl p) ≡ (if p == t % 8 then seen_as (Some what) ndi (seen (fl p)) else seen (fl p))
seen_more t p f what ndi fl came e = elim (cases_eq p (t % 8)) [
  | inl same_one ↦
      let test : (p == t % 8) ≡ true = grind (arith, nat_tests) in
      rw test
      (ap (λ (c : Option Arrived). seen_as c (is_odd (blocks (f.deed ∷ deeds_of (fl p)))) (seen (fl p))) came
      ∙ ap (λ (n : Bool). seen_as (Some what) n (seen (fl p)))
      (ap (λ (q : ℕ). is_odd (blocks (f.deed ∷ deeds_of (fl q)))) same_one ∙ sym e))
  | inr other ↦ let test : (p == t % 8) ≡ false = grind (arith, nat_tests) in rw test refl
]

built_more : (maximum t p : ℕ) (f : Flight) (fl : ℕ → List Flight) → AreBuilt maximum (deeds_of (fl p))
    → AreBuilt maximum (f.deed ∷ deeds_of (fl (t % 8))) → AreBuilt maximum (deeds_of (with_flight t f fl p))
built_more maximum t p f fl h new = elim (cases_eq p (t % 8)) [
  | inl same_one ↦
      let test : (p == t % 8) ≡ true = grind (arith, nat_tests) in
      rw test (subst (λ (q : ℕ). AreBuilt maximum (f.deed ∷ deeds_of (fl q))) (sym same_one) new)
  | inr other ↦ let test : (p == t % 8) ≡ false = grind (arith, nat_tests) in rw test h
]

flown_down : (maximum t grant : ℕ) (o : Outcome) (b : BlockTold) (a : AirTold) (e : BothEnds) (fl : ℕ → List Flight)
    (lost asleep : Bool) → 1 ≤ maximum → DownKnows maximum e fl → SentDown t grant o b a e
    → DownKnows maximum (after_down t (Some b) (Some a) e)
    (with_flight t (flight_of lost asleep (Some b) (Some a)) fl)
flown_down maximum t grant o b a e fl lost asleep some k h =
    let f = flight_of lost asleep (Some b) (Some a) in
    let d = down_deed t lost asleep o b a e.sender h.sent h.read in
    let ndi = ndi_of (turned (turn_of t Free b a) e.sender) (t % 8) in
    let ndi_is = down_ndi maximum t e fl f b a k d in
    let kind = sent_kind t Free b e.sender h.sent in
    let by_held = visit_by e.sender t Free in
    let none = λ (fresh : b.fresh ≡ true).
    sym (held_is true maximum e.sender (λ p. deeds_of (fl p)) some k.sends (t % 8) (omega arith))
    ∙ none_held (held_of e.sender (t % 8)) (sym by_held.new_is ∙ kind.new_is ∙ fresh) in
    record {
      sends = down_sends maximum t e fl f b a k d;
      hears = hears_told a.what maximum t ndi e.receiver (λ p. seen (fl p)) (λ p. seen (with_flight t f fl p)) k.hears
          h.answered (λ p lt. seen_more t p f a.what ndi fl refl ndi_is);
      built = λ p lt. built_more maximum t p f fl (k.built p lt)
          (subst (λ (x : Deed). AreBuilt maximum (x ∷ deeds_of (fl (t % 8))))
          (sym (pair_deed lost asleep b.fresh b.version b.octets a.what a.heard (ap is_some h.read)))
          (built_one maximum b.fresh b.version b.octets (is_intact a.heard) (deeds_of (fl (t % 8))) none
          (k.built (t % 8) (omega arith))));
    }

-- right so far, and right with the TTI
pub down_goes_on : (maximum t grant : ℕ) (o : Outcome) (block : Option BlockTold) (air : Option AirTold) (e : BothEnds)
    (fl : ℕ → List Flight) (lost asleep : Bool) → 1 ≤ maximum → DownKnows maximum e fl
    → is_down_right t grant o block air e ≡ true
    → DownKnows maximum (after_down t block air e) (with_flight t (flight_of lost asleep block air) fl)
down_goes_on maximum t grant o None None e fl lost asleep some k h = silent_down maximum t e fl lost asleep k
down_goes_on maximum t grant o None (Some a) e fl lost asleep some k h = absurd cc
down_goes_on maximum t grant o (Some b) None e fl lost asleep some k h = absurd cc
down_goes_on maximum t grant o (Some b) (Some a) e fl lost asleep some k h =
    flown_down maximum t grant o b a e fl lost asleep some k (sent_down_parts t grant o b a e h)

-- ---- what is right is judged so

held_again : (maximum version : ℕ) (octets : List ℕ) (l : List Deed) → IsResending maximum version octets l
    → held_by maximum l ≡ Some octets
held_again maximum version octets l h =
    rw h.is_unacked (grind (arith, nat_tests, h.has_visit, h.same_octets))

-- of a past whose last deed is told: what it says of the block
kind_down : (maximum : ℕ) (fresh : Bool) (version : ℕ) (octets : List ℕ) (good : Bool) (l : List Deed)
    → AreBuilt maximum (told_deed fresh version octets good ∷ l)
    → AreResent maximum (told_deed fresh version octets good ∷ l) → not (is_some (held_by maximum l)) ≡ fresh
kind_down maximum true version octets good l b r = ap (λ (x : Option (List ℕ)). not (is_some x)) b.0
kind_down maximum false version octets good l b r =
    ap (λ (x : Option (List ℕ)). not (is_some x)) (held_again maximum version octets l r.0)

pub resent_down : (maximum : ℕ) (fresh : Bool) (version : ℕ) (octets : List ℕ) (good : Bool) (l : List Deed)
    → AreResent maximum (told_deed fresh version octets good ∷ l) → fresh ≡ false
    → IsResending maximum version octets l
resent_down maximum true version octets good l r e = absurd cc
resent_down maximum false version octets good l r e = r.0

pub not_back : (a b : Bool) → not a ≡ b → a ≡ not b
not_back true b e = rw (← e) refl
not_back false b e = rw (← e) refl

-- the answer that is told, against the receiver's
answered_down : (what : Arrived) (maximum t : ℕ) (ndi told : Bool) (r : Receiving) (past : ℕ → List Seen)
    → Hears maximum r past → ndi ≡ told → AreAnsweredRight (seen_as (Some what) told (past (t % 8)))
    → is_answered t ndi what r ≡ true
answered_down arriveds.Got maximum t ndi told r past h e a =
    ap is_handed_up (answer_is maximum r past t ndi true h
    ∙ ap (λ (n : Bool). right_answer n true (past (t % 8))) e ∙ sym a.0)
answered_down arriveds.Dup maximum t ndi told r past h e a =
    ap is_known (answer_is maximum r past t ndi true h
    ∙ ap (λ (n : Bool). right_answer n true (past (t % 8))) e ∙ sym a.0)
answered_down arriveds.Bad maximum t ndi told r past h e a = refl
answered_down arriveds.Nothing maximum t ndi told r past h e a = refl

flown_judged : (maximum t grant : ℕ) (o : Outcome) (b : BlockTold) (what : Arrived) (e : BothEnds)
    (fl : ℕ → List Flight) (lost asleep : Bool) → 1 ≤ maximum → DownKnows maximum e fl → 1 ≤ grant
    → b.process ≡ t % 8 → can_come_down o.fate what ≡ true → (b.fresh ≡ true → b.version ≡ 0)
    → AreResent maximum (deeds_of (with_flight t (flight_of lost asleep (Some b)
    (Some (record { what = what; heard = Some (heard_through o.flipped (feedback what)) }))) fl (t % 8)))
    → AreBuilt maximum (deeds_of (with_flight t (flight_of lost asleep (Some b)
    (Some (record { what = what; heard = Some (heard_through o.flipped (feedback what)) }))) fl (t % 8)))
    → AreAnsweredRight (seen (with_flight t (flight_of lost asleep (Some b)
    (Some (record { what = what; heard = Some (heard_through o.flipped (feedback what)) }))) fl (t % 8)))
    → is_down_right t grant o (Some b)
    (Some (record { what = what; heard = Some (heard_through o.flipped (feedback what)) })) e ≡ true
flown_judged maximum t grant o b what e fl lost asleep some k granted process can zero resent built answered =
    let a : AirTold = record { what = what; heard = Some (heard_through o.flipped (feedback what)) } in
    let f = flight_of lost asleep (Some b) (Some a) in
    let past = deeds_of (fl (t % 8)) in
    let here = flight_here t f fl in
    let good = heard_through o.flipped (feedback what) in
    let told = pair_deed lost asleep b.fresh b.version b.octets what a.heard refl in
    let resent' : AreResent maximum (told_deed b.fresh b.version b.octets good ∷ past) =
    subst (λ (x : Deed). AreResent maximum (x ∷ past)) told
    (subst (λ (l : List Flight). AreResent maximum (deeds_of l)) here resent) in
    let built' : AreBuilt maximum (told_deed b.fresh b.version b.octets good ∷ past) =
    subst (λ (x : Deed). AreBuilt maximum (x ∷ past)) told
    (subst (λ (l : List Flight). AreBuilt maximum (deeds_of l)) here built) in
    let fresh_is = kind_down maximum b.fresh b.version b.octets good past built' resent' in
    let held = held_is true maximum e.sender (λ p. deeds_of (fl p)) some k.sends (t % 8) (omega arith) in
    let by_held = visit_by e.sender t Free in
    let held_some = ap is_some held in
    let kind : IsOfKind b.fresh (visit_answer e.sender t Free) = record {
      new_is = by_held.new_is ∙ ap not held_some ∙ fresh_is;
      resend_is = by_held.resend_is ∙ held_some ∙ not_back (is_some (held_by maximum past)) b.fresh fresh_is;
    } in
    let sent = sent_as_told true maximum e.sender (λ p. deeds_of (fl p)) t Free b a some
    (λ d. refl) k.sends process zero
    kind (λ again. resent_down maximum b.fresh b.version b.octets good past resent' again) in
    let d = down_deed t lost asleep o b a e.sender sent refl in
    let ndi_is = down_ndi maximum t e fl f b a k d in
    let answer = answered_down what maximum t (ndi_of (turned (turn_of t Free b a) e.sender) (t % 8))
    (is_odd (blocks (f.deed ∷ past))) e.receiver (λ p. seen (fl p)) k.hears ndi_is
    (subst (λ (l : List Flight). AreAnsweredRight (seen l)) here answered) in
    and_from (not (grant == 0)) (is_sent_down t o b a e)
    (not_from_false (grant == 0) (ne_eqb grant 0 (λ z. omega arith)))
    (and_from _ _ (and_from _ _ (and_from _ _ sent can) (is_read_so o a a.heard refl)) answer)

pub down_judged : (maximum t grant : ℕ) (o : Outcome) (w : WayTold) (e : BothEnds) (fl : ℕ → List Flight)
    (lost asleep : Bool) → 1 ≤ maximum → DownKnows maximum e fl → DownIs t grant o w
    → ((b : BlockTold) → w.block ≡ Some b → b.fresh ≡ true → b.version ≡ 0)
    → AreResent maximum (deeds_of (with_flight t (flight_of lost asleep w.block w.air) fl (t % 8)))
    → AreBuilt maximum (deeds_of (with_flight t (flight_of lost asleep w.block w.air) fl (t % 8)))
    → AreAnsweredRight (seen (with_flight t (flight_of lost asleep w.block w.air) fl (t % 8)))
    → is_down_right t grant o w.block w.air e ≡ true
down_judged maximum t grant o w e fl lost asleep some k is zero resent built answered = elim is [
  | inl none ↦ subst (λ (x : WayTold). is_down_right t grant o x.block x.air e ≡ true) (sym none.1)
      (eq-eqb grant 0 none.0)
  | inr f ↦
      let P : WayTold → Type 0 = λ x. ((b : BlockTold) → x.block ≡ Some b → b.fresh ≡ true → b.version ≡ 0)
      → AreResent maximum (deeds_of (with_flight t (flight_of lost asleep x.block x.air) fl (t % 8)))
      → AreBuilt maximum (deeds_of (with_flight t (flight_of lost asleep x.block x.air) fl (t % 8)))
      → AreAnsweredRight (seen (with_flight t (flight_of lost asleep x.block x.air) fl (t % 8)))
      → is_down_right t grant o x.block x.air e ≡ true in
      subst P (sym f.w_is)
      (λ z r b a. flown_judged maximum t grant o f.block f.what e fl lost asleep some k f.some f.process_is f.can
      (z f.block refl) r b a)
      zero resent built answered
]
