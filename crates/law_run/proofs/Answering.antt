-- The downlink: the base station's sender and the terminal's receiver.
use Rattle.std.proofs.Common.{◌≡◌, ◌<◌, ℕ, ◌%◌, ◌==◌, Bool, true, false, if◌then◌else◌, Option, Some, None, List, []}
use Rattle.std.proofs.Common.{◌∷◌, ◌++◌, length, refl, ap, sym, ◌∙◌}
use Rattle.air_record.specs.declared.record.Arrived.{Arrived}
use Rattle.air_record.specs.declared.record.Arrived.TheVariants as arriveds
use Rattle.air_record.specs.declared.record.Record.{Record}
use Rattle.harq.specs.declared.receiver.Answer.{Answer}
use Rattle.harq.specs.declared.sender.Order.{Order}
use Rattle.harq.specs.Receiving.{Receiving, fresh as fresh_receiver, after_assigned, assigned_answer}
use Rattle.harq.specs.ReceiveHistory.{DownStep, Came, Cleared, DownWorld, Heard as Seen, down_stepped, down_run}
use Rattle.harq.specs.ReceiveHistory.{down_start}
use Rattle.harq.specs.Sending.{Sending, fresh, ndi_of}
use Rattle.harq.specs.SendHistory.{Deed, blocks, is_odd, is_down}
use Rattle.harq.proofs.SendLemmas.{counts_blocks}
use Rattle.law_run.specs.AnyCalls.Deeds.{TakesTurn, came_of, IsAnswered, Answers}
use Rattle.mac_pdu.specs.declared.item.Direction.TheVariants.{Down}
use Rattle.promises.specs.Carried.{seen_as, seen}
use Rattle.promises.specs.Heard.{Flight, Heard, deeds_of}
use Rattle.law_run.proofs.Building.{is_here}
use Rattle.law_run.proofs.Sending.{Sends, SameFlights, sends_as, sends_begins, sends_turn, same_process}
use Rattle.law_run.proofs.Hearing.{flown, with_flight, Visits}

down_run_then : (xs ys : List DownStep) (w : DownWorld) → down_run (xs ++ ys) w ≡ down_run ys (down_run xs w)
down_run_then [] ys w = refl
down_run_then (x ∷ xs) ys w = down_run_then xs ys (down_stepped w x)

down_stepped_maximum : (s : DownStep) (w : DownWorld) → (down_stepped w s).receiver.maximum ≡ w.receiver.maximum
unfolding after_assigned fresh_receiver
down_stepped_maximum (Came b) w = refl
down_stepped_maximum Cleared w = refl

down_run_maximum : (ss : List DownStep) (w : DownWorld) → (down_run ss w).receiver.maximum ≡ w.receiver.maximum
down_run_maximum [] w = refl
down_run_maximum (s ∷ ss) w = down_run_maximum ss (down_stepped w s) ∙ down_stepped_maximum s w

-- ---- the sender and the receiver came so far by steps, and what the terminal saw is what is heard of the processes

pub record StandsDown (maximum : ℕ) (s : Sending) (r : Receiving) (h : ℕ → Heard) : Type 0 where
  pub sends : Sends Down maximum s h
  pub came : List DownStep
  pub receiver_is : (down_run came (down_start maximum)).receiver ≡ r
  pub seen_are : (p : ℕ) → p < 8 → seen (h p).flights ≡ (down_run came (down_start maximum)).past p

pub down_as : (maximum : ℕ) (s : Sending) (r : Receiving) (h k : ℕ → Heard) → SameFlights h k
    → StandsDown maximum s r h → StandsDown maximum s r k
down_as maximum s r h k same a =
    record {
      sends = sends_as Down maximum s h k same a.sends;
      came = a.came;
      receiver_is = a.receiver_is;
      seen_are = λ p lt. ap seen (same p) ∙ a.seen_are p lt;
    }

pub down_begins : (maximum : ℕ) (h : ℕ → Heard) → ((p : ℕ) → (h p).flights ≡ [])
    → StandsDown maximum (fresh maximum) (fresh_receiver maximum) h
down_begins maximum h none = record {
  sends = sends_begins Down maximum h none;
  came = [];
  receiver_is = refl;
  seen_are = λ p lt. ap seen (none p);
}

pub down_maximum : (maximum : ℕ) (s : Sending) (r : Receiving) (h : ℕ → Heard) → StandsDown maximum s r h
    → r.maximum ≡ maximum
unfolding fresh_receiver
down_maximum maximum s r h a = sym (ap (λ (x : Receiving). x.maximum) a.receiver_is)
    ∙ down_run_maximum a.came (down_start maximum)

-- what a receiver makes of what comes, by a step of its own where it sees a block
record Sees (t : ℕ) (ndi : Bool) (what : Option Arrived) (r x : Receiving) : Type 0 where
  steps : List DownStep
  receiver_is : (w : DownWorld) → w.receiver ≡ r → (down_run steps w).receiver ≡ x
  past_is : (w : DownWorld) (p : ℕ) → w.receiver ≡ r
      → (down_run steps w).past p ≡ (if p == t % 8 then seen_as what ndi (w.past p) else w.past p)

sees_block : (t : ℕ) (ndi good : Bool) (answer : Answer) (what : Option Arrived) (r x : Receiving)
    → ((past : List Seen) → seen_as what ndi past ≡ record { ndi = ndi; good = good; answer = answer } ∷ past)
    → IsAnswered t ndi good answer r x → Sees t ndi what r x
sees_block t ndi good answer what r x is a = record {
  steps = Came (record { tti = t; ndi = ndi; good = good }) ∷ [];
  receiver_is = λ w e. ap (λ (y : Receiving). after_assigned y t ndi good) e ∙ sym a.receiver_is;
  past_is = λ w p e.
      ap (λ (one : Answer). if p == t % 8 then record { ndi = ndi; good = good; answer = one } ∷ w.past p
      else w.past p) (ap (λ (y : Receiving). assigned_answer y t ndi good) e ∙ a.answer_is)
      ∙ ap (λ (past : List Seen). if p == t % 8 then past else w.past p) (sym (is (w.past p)));
}

either : (b : Bool) (past : List Seen) → past ≡ (if b then past else past)
either true past = refl
either false past = refl

sees : (t : ℕ) (ndi : Bool) (what : Option Arrived) (r x : Receiving) → Answers t ndi what r x → Sees t ndi what r x
sees t ndi (Some arriveds.Got) r x a = sees_block t ndi true _ (Some arriveds.Got) r x (λ past. refl) a
sees t ndi (Some arriveds.Dup) r x a = sees_block t ndi true _ (Some arriveds.Dup) r x (λ past. refl) a
sees t ndi (Some arriveds.Bad) r x a = sees_block t ndi false _ (Some arriveds.Bad) r x (λ past. refl) a
sees t ndi (Some arriveds.Nothing) r x a =
    record { steps = []; receiver_is = λ w e. e ∙ sym a; past_is = λ w p e. either (p == t % 8) (w.past p) }
sees t ndi None r x a = record {
  steps = [];
  receiver_is = λ w e. e ∙ sym a;
  past_is = λ w p e. either (p == t % 8) (w.past p);
}

-- the NDI of a process is the parity of its new blocks
parity : (maximum : ℕ) (s : Sending) (h : ℕ → Heard) → Sends Down maximum s h → (p : ℕ) → p < 8
    → ndi_of s p ≡ is_odd (blocks (deeds_of (h p).flights))
parity maximum s h a p lt = sym (ap (λ (x : Sending). ndi_of x p) a.sender_is)
    ∙ counts_blocks maximum a.steps a.are_of p lt ∙ ap (λ (ds : List Deed). is_odd (blocks ds)) (sym (a.deeds_are p))

seen_more : (b : Bool) (f : Flight) (past : List Flight) (ndi : Bool) (ss : List Seen)
    → (b ≡ true → is_odd (blocks (f.deed ∷ deeds_of past)) ≡ ndi) → seen past ≡ ss
    → seen (with_flight b f past) ≡ (if b then seen_as f.came ndi ss else ss)
seen_more true f past ndi ss odd e = rw (odd refl, e) refl
seen_more false f past ndi ss odd e = e

deeds_here : (b : Bool) (f : Flight) (past : List Flight) → b ≡ true
    → deeds_of (with_flight b f past) ≡ f.deed ∷ deeds_of past
deeds_here true f past e = refl
deeds_here false f past e = cc

pub down_turn : (t : ℕ) (order : Order) (s q : Sending) (r x : Receiving) (told : List Record) → is_down order ≡ true
    → TakesTurn t order s q told → (length s.processes ≡ 8 → Answers t (ndi_of q t) (came_of told) r x)
    → (maximum : ℕ) (h k : ℕ → Heard) (missed : ℕ → Bool)
    → ((p : ℕ) → Visits (p == t % 8) (flown (missed p) told) (h p) (k p)) → StandsDown maximum s r h
    → StandsDown maximum q x k
down_turn t order s q r x told of turns answers maximum h k missed visits a =
    let sends' = sends_turn Down t order s q told turns (rw of refl) maximum h k missed visits a.sends in
    let ndi = ndi_of q t in
    let y = sees t ndi (came_of told) r x (answers a.sends.eight) in
    let w = down_run a.came (down_start maximum) in
    let next = down_run_then a.came y.steps (down_start maximum) in
    record {
      sends = sends';
      came = a.came ++ y.steps;
      receiver_is = ap (λ (v : DownWorld). v.receiver) next ∙ y.receiver_is w a.receiver_is;
      seen_are = λ p lt.
          let f = flown (missed p) told in
          let odd : (p == t % 8) ≡ true → is_odd (blocks (f.deed ∷ deeds_of (h p).flights)) ≡ ndi =
          λ e.
          ap (λ (ds : List Deed). is_odd (blocks ds)) (sym (deeds_here (p == t % 8) f (h p).flights e)
          ∙ sym (ap deeds_of (visits p).flights_are))
          ∙ sym (parity maximum q k sends' p lt) ∙ sym (same_process q p t (is_here p (t % 8) e)) in
          ap seen (visits p).flights_are ∙ seen_more (p == t % 8) f (h p).flights ndi (w.past p) odd (a.seen_are p lt)
          ∙ sym (y.past_is w p a.receiver_is) ∙ sym (ap (λ (v : DownWorld). v.past p) next);
    }
