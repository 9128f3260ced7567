-- A TTI of the uplink: it is judged right exactly where it is as grant, outcome and HARQ have it.
use Rattle.std.proofs.Common.{◌≡◌, ◌<◌, ◌≤◌, ℕ, ◌%◌, Bool, true, false, not, ◌&&◌, ◌||◌, ◌==◌, if◌then◌else◌}
use Rattle.std.proofs.Common.{Option, Some, None, is_some, List, [], ◌∷◌, refl, ap, sym, subst, ◌∙◌, arith}
use Rattle.std.proofs.Common.{◌⊎◌, inl, inr}
use Rattle.std.proofs.lemmas.Bool.{cases_eq, and_parts, and_from, eqb-true, eqb-false, eq-eqb, ne_eqb, not-true}
use Rattle.std.proofs.lemmas.Bool.{not_from_false}
use Rattle.std.proofs.lemmas.Bool.Decides.{nat_tests}
use Rattle.air_record.specs.declared.line.Fate.{Fate}
use Rattle.air_record.specs.declared.line.Fate.TheVariants.{Ok, Bad, Miss}
use Rattle.air_record.specs.declared.line.Outcome.{Outcome}
use Rattle.air_record.specs.declared.record.Arrived.{Arrived}
use Rattle.air_record.specs.declared.record.Arrived.TheVariants as arriveds
use Rattle.air_record.specs.declared.record.Record.{Record}
use Rattle.air_record.specs.declared.record.Record.TheVariants as records
use Rattle.air_record.specs.Outcomes.{missed}
use Rattle.air_record.specs.Outcomes.{turned as heard_through}
use Rattle.mac_pdu.specs.declared.item.Direction.TheVariants.{Up}
use Rattle.harq.specs.declared.sender.Order.{Order}
use Rattle.harq.specs.declared.sender.Order.TheVariants.{Silent, Unseen, Grant}
use Rattle.harq.specs.declared.sender.Visit.{Visit}
use Rattle.harq.specs.declared.sender.Visit.TheVariants as visits
use Rattle.harq.specs.Sending.{Sending, after_visit, visit_answer, held_of, ndi_of}
use Rattle.harq.specs.SendHistory.{Turn, Deed, Waited, closed, deed_by, deed, turned, held_by}
use Rattle.harq.specs.SendHistory.{is_down}
use Rattle.harq.specs.SendHistory.{IsRight as AreResent}
use Rattle.harq.specs.Receiving.{Receiving, grant_ndi}
use Rattle.harq.specs.ReceiveHistory.{Told, Asked, Skipped, is_intact}
use Rattle.promises.specs.Flights.{feedback, heard_as, FliesUp, IsUnanswered, IsUp}
use Rattle.promises.specs.Heard.{Flight, is_miss, deeds_of}
use Rattle.promises.specs.Awards.{grant_brought, next_ndi, told_of_grant, grants, order_by, order, seen_by, last_seen}
use Rattle.promises.specs.Awards.{resends, builds, is_resent, is_built, IsVisit, AreVisits}
use Rattle.journal_air.specs.Told.{BlockTold, AirTold, WayTold, no_way, way_records}
use Rattle.journal_air.specs.Ends.{BothEnds, turn_of, is_sent, is_read, is_nothing, is_silent, is_unheard}
use Rattle.journal_air.specs.Ends.{comes_up}
use Rattle.journal_air.specs.Ends.{order_seen, after_asking, is_sent_up, is_unanswered, after_up, is_up_right}
use Rattle.journal_air.proofs.Senders.{Sends, held_is, sends_more, visit_by, is_new, is_resend, ndi_turned}
use Rattle.journal_air.proofs.Senders.{is_uplink}
use Rattle.journal_air.proofs.Receivers.{Asks, asks_passed, asks_more, grant_is}
use Rattle.journal_air.proofs.Visits.{flight_of, with_flight, flight_here, idle_deed, idle_came, lone_deed, lone_missed}
use Rattle.journal_air.proofs.Visits.{told_deed, pair_deed, pair_missed, deeds_with, deed_is_told, sent_kind}
use Rattle.journal_air.proofs.Visits.{sent_as_told, IsOfKind}
use Rattle.journal_air.proofs.Downlink.{read_is, is_read_so, process_of, resent_down}

-- ---- the records of the way

pub record FlownUp (t grant : ℕ) (o : Outcome) (w : WayTold) : Type 0 where
  pub block : BlockTold
  pub some : 1 ≤ grant
  pub process_is : block.process ≡ t % 8
  pub w_is : w ≡ record {
    block = Some block;
    air = Some (record {
      what = heard_as o.fate;
      heard = Some (heard_through o.flipped (feedback (heard_as o.fate)));
    });
  }

pub record LostUp (grant : ℕ) (o : Outcome) (w : WayTold) : Type 0 where
  pub some : 1 ≤ grant
  pub miss : o.fate ≡ Miss
  pub w_is : w ≡ record { block = None; air = Some (record { what = arriveds.Nothing; heard = None }) }

abbrev pub UpIs : ℕ → ℕ → Outcome → WayTold → Type 0
UpIs t grant o w = ((grant ≡ 0) × (w ≡ no_way)) ⊎ (FlownUp t grant o w ⊎ LostUp grant o w)

pub record UpTold (t grant : ℕ) (o : Outcome) (flown : List Record) : Type 0 where
  pub way : WayTold
  pub is : UpIs t grant o way
  pub flown_is : flown ≡ way_records Up way

some_told : (t grant : ℕ) (o : Outcome) (flown : List Record) → 1 ≤ grant → FliesUp t o flown ⊎ IsUnanswered o flown
    → UpTold t grant o flown
some_told t grant o flown some h = elim h [
  | inl f ↦
      let b : BlockTold = record { process = t % 8; fresh = f.fresh; version = f.version; octets = f.octets } in
      record {
        way = record {
          block = Some b;
          air = Some (record {
            what = heard_as o.fate;
            heard = Some (heard_through o.flipped (feedback (heard_as o.fate)));
          });
        };
        is = inr (inl (record { block = b; some = some; process_is = refl; w_is = refl }));
        flown_is = f.flown_is;
      }
  | inr u ↦ record {
    way = record { block = None; air = Some (record { what = arriveds.Nothing; heard = None }) };
    is = inr (inr (record { some = some; miss = u.missed; w_is = refl }));
    flown_is = u.flown_is;
  }
]

pub up_told : (t grant : ℕ) (o : Outcome) (flown : List Record) → IsUp t grant o flown → UpTold t grant o flown
up_told t grant o flown h = elim (cases_eq grant 0) [
  | inl none ↦ record { way = no_way; is = inl (none, refl); flown_is = h.none none }
  | inr other ↦ let some : 1 ≤ grant = omega arith in some_told t grant o flown some (h.one some)
]

pub up_back : (t grant : ℕ) (o : Outcome) (w : WayTold) → UpIs t grant o w → IsUp t grant o (way_records Up w)
up_back t grant o w h = elim h [
  | inl none ↦ subst (λ (x : WayTold). IsUp t grant o (way_records Up x)) (sym none.1)
      (record { none = λ z. refl; one = λ some. absurd (omega (arith, none.0)) })
  | inr some_is ↦ elim some_is [
    | inl f ↦ subst (λ (x : WayTold). IsUp t grant o (way_records Up x)) (sym f.w_is)
        (record {
          none = λ z. absurd (omega (arith, f.some));
          one = λ some. inl (record {
            fresh = f.block.fresh;
            version = f.block.version;
            octets = f.block.octets;
            flown_is = ap
                (λ (p : ℕ). records.Block Up p f.block.fresh f.block.version f.block.octets
                ∷ records.Air Up (heard_as o.fate)
                (Some (heard_through o.flipped (feedback (heard_as o.fate)))) ∷ [])
                f.process_is;
          });
        })
    | inr u ↦ subst (λ (x : WayTold). IsUp t grant o (way_records Up x)) (sym u.w_is)
        (record {
          none = λ z. absurd (omega (arith, u.some));
          one = λ some. inr (record { missed = u.miss; flown_is = refl });
        })
  ]
]

comes_is : (fate : Fate) (what : Arrived) → comes_up fate what ≡ true → what ≡ heard_as fate
comes_is Ok arriveds.Got e = refl
comes_is Ok arriveds.Dup e = absurd cc
comes_is Ok arriveds.Bad e = absurd cc
comes_is Ok arriveds.Nothing e = absurd cc
comes_is Bad arriveds.Got e = absurd cc
comes_is Bad arriveds.Dup e = absurd cc
comes_is Bad arriveds.Bad e = refl
comes_is Bad arriveds.Nothing e = absurd cc
comes_is Miss arriveds.Got e = refl
comes_is Miss arriveds.Dup e = absurd cc
comes_is Miss arriveds.Bad e = absurd cc
comes_is Miss arriveds.Nothing e = absurd cc

comes_so : (fate : Fate) → comes_up fate (heard_as fate) ≡ true
comes_so Ok = refl
comes_so Bad = refl
comes_so Miss = refl

miss_is : (fate : Fate) → is_miss fate ≡ true → fate ≡ Miss
miss_is Ok e = absurd cc
miss_is Bad e = absurd cc
miss_is Miss e = refl

nothing_is : (what : Arrived) → is_nothing what ≡ true → what ≡ arriveds.Nothing
nothing_is arriveds.Got e = absurd cc
nothing_is arriveds.Dup e = absurd cc
nothing_is arriveds.Bad e = absurd cc
nothing_is arriveds.Nothing e = refl

unheard_is : (heard : Option Bool) → is_unheard heard ≡ true → heard ≡ None
unheard_is None e = refl
unheard_is (Some good) e = absurd cc

silent_is : (v : Visit) → is_silent v ≡ true → v ≡ visits.Silent
silent_is visits.New e = absurd cc
silent_is (visits.Resend version) e = absurd cc
silent_is visits.Silent e = refl

-- the parts of a right judgement
pub record SentUp (t grant : ℕ) (o : Outcome) (b : BlockTold) (a : AirTold) (e : BothEnds) : Type 0 where
  pub some : (grant == 0) ≡ false
  pub sent : is_sent t (order_seen t o e.receiver) b e.sender ≡ true
  pub comes : comes_up o.fate a.what ≡ true
  pub read : a.heard ≡ Some (heard_through o.flipped (feedback a.what))

pub sent_up_parts : (t grant : ℕ) (o : Outcome) (b : BlockTold) (a : AirTold) (e : BothEnds)
    → is_up_right t grant o (Some b) (Some a) e ≡ true → SentUp t grant o b a e
sent_up_parts t grant o b a e h =
    let first = and_parts (not (grant == 0)) (is_sent_up t o b a e) h in
    let one = is_sent t (order_seen t o e.receiver) b e.sender in
    let two = comes_up o.fate a.what in
    let p = and_parts (one && two) (is_read o a a.heard) first.1 in
    let q = and_parts one two p.0 in
    record { some = not-true (grant == 0) first.0; sent = q.0; comes = q.1; read = read_is o a a.heard p.1 }

pub record UnansweredUp (t grant : ℕ) (o : Outcome) (a : AirTold) (e : BothEnds) : Type 0 where
  pub some : (grant == 0) ≡ false
  pub silent : visit_answer e.sender t Unseen ≡ visits.Silent
  pub miss : o.fate ≡ Miss
  pub nothing : a.what ≡ arriveds.Nothing
  pub unheard : a.heard ≡ None

unanswered_parts : (t grant : ℕ) (o : Outcome) (a : AirTold) (e : BothEnds)
    → is_up_right t grant o None (Some a) e ≡ true → UnansweredUp t grant o a e
unanswered_parts t grant o a e h =
    let first = and_parts (not (grant == 0)) (is_unanswered t o a e) h in
    let one = is_silent (visit_answer e.sender t Unseen) in
    let two = is_miss o.fate in
    let three = is_nothing a.what in
    let p = and_parts (one && two && three) (is_unheard a.heard) first.1 in
    let q = and_parts (one && two) three p.0 in
    let r = and_parts one two q.0 in
    record {
      some = not-true (grant == 0) first.0;
      silent = silent_is (visit_answer e.sender t Unseen) r.0;
      miss = miss_is o.fate r.1;
      nothing = nothing_is a.what q.1;
      unheard = unheard_is a.heard p.1;
    }

granted_some : (grant : ℕ) → (grant == 0) ≡ false → 1 ≤ grant
granted_some grant e = let nonzero = eqb-false grant 0 e in
    elim (cases_eq grant 0) [ inl z ↦ absurd (nonzero z) | inr other ↦ omega arith ]

pub up_is_right : (t grant : ℕ) (o : Outcome) (block : Option BlockTold) (air : Option AirTold) (e : BothEnds)
    → is_up_right t grant o block air e ≡ true → UpIs t grant o (record { block = block; air = air })
up_is_right t grant o None None e h = inl (eqb-true grant 0 h, refl)
up_is_right t grant o None (Some a) e h =
    let k = unanswered_parts t grant o a e h in
    inr (inr (record {
      some = granted_some grant k.some;
      miss = k.miss;
      w_is = ap (λ (x : Arrived). record { block = None; air = Some (record { what = x; heard = a.heard }) }) k.nothing
          ∙ ap (λ (x : Option Bool). record {
            block = None;
            air = Some
                (record { what = arriveds.Nothing; heard = x });
          })
          k.unheard;
    }))
up_is_right t grant o (Some b) None e h = absurd cc
up_is_right t grant o (Some b) (Some a) e h =
    let k = sent_up_parts t grant o b a e h in
    inr (inl (record {
      block = b;
      some = granted_some grant k.some;
      process_is = process_of t b _ k.sent;
      w_is = ap (λ (x : Option Bool). record {
        block = Some b;
        air = Some
            (record { what = a.what; heard = x });
      }) k.read
          ∙ ap
          (λ (x : Arrived).
          record {
            block = Some b;
            air = Some (record {
              what = x;
              heard = Some (heard_through o.flipped
                  (feedback x));
            });
          })
          (comes_is o.fate a.what k.comes);
    }))

-- ---- both ends of the uplink stand where the past has them

pub record UpKnows (maximum : ℕ) (e : BothEnds) (fl : ℕ → List Flight) : Type 0 where
  pub sends : Sends false maximum e.sender (λ p. deeds_of (fl p))
  pub asks : Asks maximum e.receiver (λ p. grants maximum (fl p))
  pub last : (p : ℕ) → p < 8 → ndi_of e.sender p ≡ last_seen maximum (fl p)
  pub visits_are : (p : ℕ) → p < 8 → AreVisits maximum (fl p)

no_down : (order' : Order) → false ≡ true → is_down order' ≡ true
no_down order' e = absurd cc

-- ---- one visit more, whatever it is

grants_with : (maximum : ℕ) (test : Bool) (f : Flight) (l : List Flight) (x : Told)
    → told_of_grant maximum f.came (grants maximum l) ≡ x
    → grants maximum (if test then f ∷ l else l) ≡ (if test then x ∷ grants maximum l else grants maximum l)
grants_with maximum true f l x e = ap (λ (y : Told). y ∷ grants maximum l) e
grants_with maximum false f l x e = refl

last_more : (maximum t p : ℕ) (s s' : Sending) (order' : Order) (f : Flight) (fl : ℕ → List Flight)
    → ndi_of s' p ≡ (if p == t % 8 then seen_by order' (ndi_of s p) else ndi_of s p)
    → ndi_of s p ≡ last_seen maximum (fl p) → order' ≡ order maximum f (fl (t % 8))
    → ndi_of s' p ≡ last_seen maximum (with_flight t f fl p)
last_more maximum t p s s' order' f fl new old e = new ∙ elim (cases_eq p (t % 8)) [
  | inl same_one ↦
      let test : (p == t % 8) ≡ true = grind (arith, nat_tests) in
      rw test
      (ap (λ (b : Bool). seen_by order' b) old
      ∙ ap (λ (x : Order). seen_by x (last_seen maximum (fl p)))
      (e ∙ ap (λ (q : ℕ). order maximum f (fl q)) (sym same_one)))
  | inr other ↦ let test : (p == t % 8) ≡ false = grind (arith, nat_tests) in rw test old
]

visits_more : (maximum t p : ℕ) (f : Flight) (fl : ℕ → List Flight) → AreVisits maximum (fl p)
    → AreVisits maximum (f ∷ fl (t % 8)) → AreVisits maximum (with_flight t f fl p)
visits_more maximum t p f fl h new = elim (cases_eq p (t % 8)) [
  | inl same_one ↦
      let test : (p == t % 8) ≡ true = grind (arith, nat_tests) in
      rw test (subst (λ (q : ℕ). AreVisits maximum (f ∷ fl q)) (sym same_one) new)
  | inr other ↦ let test : (p == t % 8) ≡ false = grind (arith, nat_tests) in rw test h
]

-- a granted visit brings what is told
asks_told : (maximum t : ℕ) (r : Receiving) (fl : ℕ → List Flight) (f : Flight) (what : Arrived) → 1 ≤ maximum
    → Asks maximum r (λ p. grants maximum (fl p)) → f.came ≡ Some what
    → Asks maximum (after_asking t (grant_brought what) r) (λ p. grants maximum (with_flight t f fl p))
asks_told maximum t r fl f what some h came =
    asks_more maximum r (λ p. grants maximum (fl p)) (λ p. grants maximum (with_flight t f fl p)) t (grant_brought what)
    some h (λ p lt. elim (cases_eq p (t % 8)) [
      | inl same_one ↦
          let test : (p == t % 8) ≡ true = grind (arith, nat_tests) in
          rw test
          (ap (λ (c : Option Arrived). told_of_grant maximum c (grants maximum (fl p)) ∷ grants maximum (fl p)) came
          ∙ ap (λ (q : ℕ). Asked (next_ndi maximum (grants maximum (fl q))) (grant_brought what) ∷ grants maximum
          (fl p))
          same_one)
      | inr other ↦ let test : (p == t % 8) ≡ false = grind (arith, nat_tests) in rw test refl
    ])

-- ---- a TTI with no grant

idle_order : (maximum : ℕ) (lost asleep : Bool) (l : List Flight)
    → order maximum (flight_of lost asleep None None) l ≡ Silent
idle_order maximum lost true l = refl
idle_order maximum lost false l = refl

idle_visit : (maximum : ℕ) (lost asleep held last : Bool) (l : List Flight)
    → IsVisit (order maximum (flight_of lost asleep None None) l) held last (flight_of lost asleep None None).deed
idle_visit maximum lost true held last l = record { resent = refl; built = refl }
idle_visit maximum lost false held last l = record { resent = refl; built = refl }

silent_up : (maximum t : ℕ) (o : Outcome) (e : BothEnds) (fl : ℕ → List Flight) (lost asleep : Bool)
    → UpKnows maximum e fl
    → UpKnows maximum (after_up t o None None e) (with_flight t (flight_of lost asleep None None) fl)
unfolding visit_answer
silent_up maximum t o e fl lost asleep k =
    let f = flight_of lost asleep None None in
    let turn : Turn = record { tti = t; order = Silent; octets = []; good = false } in
    record {
      sends = sends_more false maximum e.sender (λ p. deeds_of (fl p)) (λ p. deeds_of (with_flight t f fl p)) turn
          (λ d. refl) k.sends (λ p lt. deeds_with (p == t % 8) f Waited (fl p) (idle_deed lost asleep));
      asks = asks_passed maximum e.receiver (λ p. grants maximum (fl p)) (λ p. grants maximum (with_flight t f fl p)) t
          k.asks
          (λ p lt. grants_with maximum (p == t % 8) f (fl p) Skipped
          (ap (λ (c : Option Arrived). told_of_grant maximum c (grants maximum (fl p))) (idle_came lost asleep)));
      last = λ p lt. last_more maximum t p e.sender (after_visit e.sender t Silent) Silent f fl
          (ndi_turned turn e.sender p k.sends.length_is lt refl) (k.last p lt)
          (sym (idle_order maximum lost asleep (fl (t % 8))));
      visits_are = λ p lt. visits_more maximum t p f fl (k.visits_are p lt)
          (idle_visit maximum lost asleep _ _ (fl (t % 8)), k.visits_are (t % 8) (omega arith));
    }

-- ---- a TTI with a grant

missed_is : (asleep lost : Bool) (o : Outcome) → lost ≡ is_miss o.fate
    → is_miss (missed asleep o).fate ≡ (asleep || lost)
missed_is true lost o e = refl
missed_is false lost o e = sym e

-- what the terminal sees of the grant is what is told
order_told : (maximum t : ℕ) (o : Outcome) (r : Receiving) (fl : ℕ → List Flight) (f : Flight) (what : Arrived)
    → 1 ≤ maximum → Asks maximum r (λ p. grants maximum (fl p)) → f.came ≡ Some what → is_miss o.fate ≡ f.missed
    → order_seen t o r ≡ order maximum f (fl (t % 8))
order_told maximum t o r fl f what some h came e =
    ap (λ (b : Bool). if b then Unseen else Grant (grant_ndi r t)) e
    ∙ ap (λ (n : Bool). if f.missed then Unseen else Grant n)
    (grant_is maximum r (λ p. grants maximum (fl p)) t some h)
    ∙ ap (λ (c : Option Arrived). order_by c f.missed (next_ndi maximum (grants maximum (fl (t % 8))))) (sym came)

seen_uplink : (t : ℕ) (o : Outcome) (r : Receiving) → is_uplink (order_seen t o r) ≡ true
seen_uplink t o r = by_test (is_miss o.fate)
  where
    by_test : (b : Bool) → is_uplink (if b then Unseen else Grant (grant_ndi r t)) ≡ true
    by_test true = refl
    by_test false = refl

told_resent : (fresh : Bool) (version : ℕ) (octets : List ℕ) (good : Bool)
    → is_resent (told_deed fresh version octets good) ≡ not fresh
told_resent true version octets good = refl
told_resent false version octets good = refl

told_built : (fresh : Bool) (version : ℕ) (octets : List ℕ) (good : Bool)
    → is_built (told_deed fresh version octets good) ≡ fresh
told_built true version octets good = refl
told_built false version octets good = refl

-- the visit that the sender made is the one that it should
visit_told : (maximum t : ℕ) (e : BothEnds) (fl : ℕ → List Flight) (order' : Order) (x : Order) (d : Deed) → 1 ≤ maximum
    → UpKnows maximum e fl → order' ≡ x → is_resent d ≡ is_resend (visit_answer e.sender t order')
    → is_built d ≡ is_new (visit_answer e.sender t order')
    → IsVisit x (is_some (held_by maximum (deeds_of (fl (t % 8))))) (last_seen maximum (fl (t % 8))) d
visit_told maximum t e fl order' x d some k same_order resent built =
    let by_held = visit_by e.sender t order' in
    let held = ap is_some (held_is false maximum e.sender (λ p. deeds_of (fl p)) some k.sends (t % 8) (omega arith)) in
    let last = k.last (t % 8) (omega arith) in
    let h = is_some (held_of e.sender (t % 8)) in
    let h' = is_some (held_by maximum (deeds_of (fl (t % 8)))) in
    let n = ndi_of e.sender (t % 8) in
    record {
      resent = resent ∙ by_held.resend_is ∙ ap (λ (y : Order). resends y h n) same_order
          ∙ ap (λ (b : Bool). resends x b n) held ∙ ap (resends x h') last;
      built = built ∙ by_held.new_is ∙ ap (λ (y : Order). builds y h n) same_order
          ∙ ap (λ (b : Bool). builds x b n) held ∙ ap (builds x h') last;
    }

flown_up : (maximum t grant : ℕ) (o : Outcome) (b : BlockTold) (a : AirTold) (e : BothEnds) (fl : ℕ → List Flight)
    (lost asleep : Bool) → 1 ≤ maximum → lost ≡ is_miss o.fate → UpKnows maximum e fl
    → SentUp t grant (missed asleep o) b a e
    → UpKnows maximum (after_up t (missed asleep o) (Some b) (Some a) e)
    (with_flight t (flight_of lost asleep (Some b) (Some a)) fl)
flown_up maximum t grant o b a e fl lost asleep some is_lost k h =
    let f = flight_of lost asleep (Some b) (Some a) in
    let o' = missed asleep o in
    let order' = order_seen t o' e.receiver in
    let turn = turn_of t order' b a in
    let told = pair_deed lost asleep b.fresh b.version b.octets a.what a.heard (ap is_some h.read) in
    let d : f.deed ≡ deed turn e.sender = told ∙ sym (deed_is_told t order' b a e.sender h.sent) in
    let order_is = order_told maximum t o' e.receiver fl f a.what some k.asks refl
    (missed_is asleep lost o is_lost ∙ sym (pair_missed lost asleep b.fresh b.version b.octets a.what a.heard)) in
    let kind = sent_kind t order' b e.sender h.sent in
    record {
      sends = sends_more false maximum e.sender (λ p. deeds_of (fl p)) (λ p. deeds_of (with_flight t f fl p)) turn
          (no_down order') k.sends (λ p lt. deeds_with (p == t % 8) f (deed turn e.sender) (fl p) d);
      asks = asks_told maximum t e.receiver fl f a.what some k.asks refl;
      last = λ p lt. last_more maximum t p e.sender (turned turn e.sender) order' f fl
          (ndi_turned turn e.sender p k.sends.length_is lt (seen_uplink t o' e.receiver)) (k.last p lt) order_is;
      visits_are = λ p lt. visits_more maximum t p f fl (k.visits_are p lt) (
        visit_told maximum t e fl order' (order maximum f (fl (t % 8))) f.deed some k order_is
            (ap is_resent told ∙ told_resent b.fresh b.version b.octets (is_intact a.heard) ∙ sym kind.resend_is)
            (ap is_built told ∙ told_built b.fresh b.version b.octets (is_intact a.heard) ∙ sym kind.new_is),
        k.visits_are (t % 8) (omega arith),
      );
    }

lost_up : (maximum t grant : ℕ) (o : Outcome) (a : AirTold) (e : BothEnds) (fl : ℕ → List Flight)
    (lost asleep : Bool) → 1 ≤ maximum → lost ≡ is_miss o.fate → UpKnows maximum e fl
    → UnansweredUp t grant (missed asleep o) a e
    → UpKnows maximum (after_up t (missed asleep o) None (Some a) e)
    (with_flight t (flight_of lost asleep None (Some a)) fl)
lost_up maximum t grant o a e fl lost asleep some is_lost k h =
    let f = flight_of lost asleep None (Some a) in
    let o' = missed asleep o in
    let turn : Turn = record { tti = t; order = Unseen; octets = []; good = false } in
    let s' = after_visit e.sender t Unseen in
    let none = lone_deed lost asleep a.what a.heard in
    let turned_is : turned turn e.sender ≡ s' = ap (λ (v : Visit). closed v turn s') h.silent in
    let deed_is : deed turn e.sender ≡ Waited =
    ap (λ (v : Visit). deed_by v turn (held_of s' (t % 8))) h.silent in
    let unseen : order_seen t o' e.receiver ≡ Unseen =
    ap (λ (x : Fate). if is_miss x then Unseen else Grant (grant_ndi e.receiver t)) h.miss in
    let order_is : Unseen ≡ order maximum f (fl (t % 8)) = sym unseen
    ∙ order_told maximum t o' e.receiver fl f a.what some k.asks refl
    (missed_is asleep lost o is_lost ∙ sym (lone_missed lost asleep a.what a.heard)) in
    record {
      sends = subst (λ (s : Sending). Sends false maximum s (λ p. deeds_of (with_flight t f fl p))) turned_is
          (sends_more false maximum e.sender (λ p. deeds_of (fl p)) (λ p. deeds_of (with_flight t f fl p)) turn
          (no_down Unseen) k.sends
          (λ p lt. deeds_with (p == t % 8) f (deed turn e.sender) (fl p) (none ∙ sym deed_is)));
      asks = subst (λ (g : Option Bool). Asks maximum (after_asking t g e.receiver)
          (λ p. grants maximum (with_flight t f fl p))) (ap grant_brought h.nothing)
          (asks_told maximum t e.receiver fl f a.what some k.asks refl);
      last = λ p lt. last_more maximum t p e.sender s' Unseen f fl
          (ap (λ (s : Sending). ndi_of s p) (sym turned_is)
          ∙ ndi_turned turn e.sender p k.sends.length_is lt refl) (k.last p lt) order_is;
      visits_are = λ p lt. visits_more maximum t p f fl (k.visits_are p lt) (
        visit_told maximum t e fl Unseen (order maximum f (fl (t % 8))) f.deed some k order_is
            (ap is_resent none ∙ ap is_resend (sym h.silent)) (ap is_built none ∙ ap is_new (sym h.silent)),
        k.visits_are (t % 8) (omega arith),
      );
    }

-- right so far, and right with the TTI
pub up_goes_on : (maximum t grant : ℕ) (o : Outcome) (block : Option BlockTold) (air : Option AirTold) (e : BothEnds)
    (fl : ℕ → List Flight) (lost asleep : Bool) → 1 ≤ maximum → lost ≡ is_miss o.fate → UpKnows maximum e fl
    → is_up_right t grant (missed asleep o) block air e ≡ true
    → UpKnows maximum (after_up t (missed asleep o) block air e) (with_flight t (flight_of lost asleep block air) fl)
up_goes_on maximum t grant o None None e fl lost asleep some is_lost k h =
    silent_up maximum t (missed asleep o) e fl lost asleep k
up_goes_on maximum t grant o None (Some a) e fl lost asleep some is_lost k h =
    lost_up maximum t grant o a e fl lost asleep some is_lost k (unanswered_parts t grant (missed asleep o) a e h)
up_goes_on maximum t grant o (Some b) None e fl lost asleep some is_lost k h = absurd cc
up_goes_on maximum t grant o (Some b) (Some a) e fl lost asleep some is_lost k h =
    flown_up maximum t grant o b a e fl lost asleep some is_lost k (sent_up_parts t grant (missed asleep o) b a e h)

-- ---- what is right is judged so

-- by the visit that should be made
answer_by_visit : (maximum t : ℕ) (e : BothEnds) (fl : ℕ → List Flight) (order' x : Order) (d : Deed) → 1 ≤ maximum
    → UpKnows maximum e fl → order' ≡ x
    → IsVisit x (is_some (held_by maximum (deeds_of (fl (t % 8))))) (last_seen maximum (fl (t % 8))) d
    → (is_new (visit_answer e.sender t order') ≡ is_built d) × (is_resend (visit_answer e.sender t order')
    ≡ is_resent d)
answer_by_visit maximum t e fl order' x d some k same_order visit =
    let by_held = visit_by e.sender t order' in
    let held = ap is_some (held_is false maximum e.sender (λ p. deeds_of (fl p)) some k.sends (t % 8) (omega arith)) in
    let last = k.last (t % 8) (omega arith) in
    let h = is_some (held_of e.sender (t % 8)) in
    let h' = is_some (held_by maximum (deeds_of (fl (t % 8)))) in
    let n = ndi_of e.sender (t % 8) in (
      by_held.new_is ∙ ap (λ (y : Order). builds y h n) same_order ∙ ap (λ (b : Bool). builds x b n) held
          ∙ ap (builds x h') last ∙ sym visit.built,
      by_held.resend_is ∙ ap (λ (y : Order). resends y h n) same_order ∙ ap (λ (b : Bool). resends x b n) held
          ∙ ap (resends x h') last ∙ sym visit.resent,
    )

flown_up_judged : (maximum t grant : ℕ) (o : Outcome) (b : BlockTold) (a : AirTold) (e : BothEnds)
    (fl : ℕ → List Flight) (lost asleep : Bool) → 1 ≤ maximum → lost ≡ is_miss o.fate → UpKnows maximum e fl
    → 1 ≤ grant → b.process ≡ t % 8 → (b.fresh ≡ true → b.version ≡ 0)
    → a.what ≡ heard_as (missed asleep o).fate
    → a.heard ≡ Some (heard_through (missed asleep o).flipped (feedback a.what))
    → AreResent maximum (deeds_of (with_flight t (flight_of lost asleep (Some b) (Some a)) fl (t % 8)))
    → AreVisits maximum (with_flight t (flight_of lost asleep (Some b) (Some a)) fl (t % 8))
    → is_up_right t grant (missed asleep o) (Some b) (Some a) e ≡ true
flown_up_judged maximum t grant o b a e fl lost asleep some is_lost k one process zero what_is read resent seen_visits =
    let f = flight_of lost asleep (Some b) (Some a) in
    let o' = missed asleep o in
    let order' = order_seen t o' e.receiver in
    let past = deeds_of (fl (t % 8)) in
    let here = flight_here t f fl in
    let good = is_intact a.heard in
    let told = pair_deed lost asleep b.fresh b.version b.octets a.what a.heard (ap is_some read) in
    let order_is = order_told maximum t o' e.receiver fl f a.what some k.asks refl
    (missed_is asleep lost o is_lost ∙ sym (pair_missed lost asleep b.fresh b.version b.octets a.what a.heard)) in
    let resent' : AreResent maximum (told_deed b.fresh b.version b.octets good ∷ past) =
    subst (λ (x : Deed). AreResent maximum (x ∷ past)) told
    (subst (λ (l : List Flight). AreResent maximum (deeds_of l)) here resent) in
    let visits' : AreVisits maximum (f ∷ fl (t % 8)) = subst (λ
    (l : List Flight). AreVisits maximum l) here seen_visits in
    let answer = answer_by_visit maximum t e fl order' (order maximum f (fl
    (t % 8))) f.deed some k order_is visits'.0 in
    let kind : IsOfKind b.fresh (visit_answer e.sender t order') = record {
      new_is = answer.0 ∙ ap is_built told ∙ told_built b.fresh b.version b.octets good;
      resend_is = answer.1 ∙ ap is_resent told ∙ told_resent b.fresh b.version b.octets good;
    } in
    let sent = sent_as_told false maximum e.sender (λ p. deeds_of (fl p)) t order' b a some (no_down order') k.sends
    process zero kind (λ again. resent_down maximum b.fresh b.version b.octets good past resent' again) in
    let comes : comes_up o'.fate a.what ≡ true =
    subst (λ (x : Arrived). comes_up o'.fate x ≡ true) (sym what_is) (comes_so o'.fate) in
    and_from (not (grant == 0)) (is_sent_up t o' b a e)
    (not_from_false (grant == 0) (ne_eqb grant 0 (λ z. omega arith)))
    (and_from _ _ (and_from _ _ sent comes) (is_read_so o' a a.heard read))

lost_up_judged : (maximum t grant : ℕ) (o : Outcome) (e : BothEnds) (fl : ℕ → List Flight) (lost asleep : Bool)
    → 1 ≤ maximum → lost ≡ is_miss o.fate → UpKnows maximum e fl → 1 ≤ grant → (missed asleep o).fate ≡ Miss
    → AreVisits maximum
    (with_flight t (flight_of lost asleep None (Some (record { what = arriveds.Nothing; heard = None }))) fl (t % 8))
    → is_up_right t grant (missed asleep o) None (Some (record { what = arriveds.Nothing; heard = None })) e ≡ true
lost_up_judged maximum t grant o e fl lost asleep some is_lost k granted miss seen_visits =
    let a : AirTold = record { what = arriveds.Nothing; heard = None } in
    let f = flight_of lost asleep None (Some a) in
    let o' = missed asleep o in
    let none = lone_deed lost asleep arriveds.Nothing None in
    let unseen : order_seen t o' e.receiver ≡ Unseen =
    ap (λ (x : Fate). if is_miss x then Unseen else Grant (grant_ndi e.receiver t)) miss in
    let order_is : Unseen ≡ order maximum f (fl (t % 8)) = sym unseen
    ∙ order_told maximum t o' e.receiver fl f arriveds.Nothing some k.asks refl
    (missed_is asleep lost o is_lost ∙ sym (lone_missed lost asleep arriveds.Nothing None)) in
    let visits' : AreVisits maximum (f ∷ fl (t % 8)) =
    subst (λ (l : List Flight). AreVisits maximum l) (flight_here t f fl) seen_visits in
    let answer = answer_by_visit maximum t e fl Unseen (order maximum f (fl
    (t % 8))) f.deed some k order_is visits'.0 in
    let silent : is_silent (visit_answer e.sender t Unseen) ≡ true =
    neither (visit_answer e.sender t Unseen) (answer.0 ∙ ap is_built none) (answer.1 ∙ ap is_resent none) in
    and_from (not (grant == 0)) (is_unanswered t o' a e)
    (not_from_false (grant == 0) (ne_eqb grant 0 (λ z. omega arith)))
    (and_from _ _ (and_from _ _ (and_from _ _ silent (ap is_miss miss)) refl) refl)
  where
    neither : (v : Visit) → is_new v ≡ false → is_resend v ≡ false → is_silent v ≡ true
    neither visits.New n r = absurd cc
    neither (visits.Resend version) n r = absurd cc
    neither visits.Silent n r = refl

pub up_judged : (maximum t grant : ℕ) (o : Outcome) (w : WayTold) (e : BothEnds) (fl : ℕ → List Flight)
    (lost asleep : Bool) → 1 ≤ maximum → lost ≡ is_miss o.fate → UpKnows maximum e fl
    → UpIs t grant (missed asleep o) w
    → ((b : BlockTold) → w.block ≡ Some b → b.fresh ≡ true → b.version ≡ 0)
    → AreResent maximum (deeds_of (with_flight t (flight_of lost asleep w.block w.air) fl (t % 8)))
    → AreVisits maximum (with_flight t (flight_of lost asleep w.block w.air) fl (t % 8))
    → is_up_right t grant (missed asleep o) w.block w.air e ≡ true
up_judged maximum t grant o w e fl lost asleep some is_lost k is zero resent all_visits =
    let o' = missed asleep o in
    let P : WayTold → Type 0 = λ x. ((b : BlockTold) → x.block ≡ Some b → b.fresh ≡ true → b.version ≡ 0)
    → AreResent maximum (deeds_of (with_flight t (flight_of lost asleep x.block x.air) fl (t % 8)))
    → AreVisits maximum (with_flight t (flight_of lost asleep x.block x.air) fl (t % 8))
    → is_up_right t grant o' x.block x.air e ≡ true in
    elim is [
      | inl none ↦ subst (λ (x : WayTold). is_up_right t grant o' x.block x.air e ≡ true) (sym none.1)
          (eq-eqb grant 0 none.0)
      | inr some_is ↦ elim some_is [
        | inl f ↦ subst P (sym f.w_is)
            (λ z r v. flown_up_judged maximum t grant o f.block _ e fl lost asleep some is_lost k f.some f.process_is
            (z f.block refl) refl refl r v)
            zero resent all_visits
        | inr u ↦ subst P (sym u.w_is)
            (λ z r v. lost_up_judged maximum t grant o e fl lost asleep some is_lost k u.some u.miss v)
            zero resent all_visits
      ]
    ]
