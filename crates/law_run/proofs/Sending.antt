-- The HARQ senders, and what the records of their visits tell of them.
use Rattle.std.proofs.Common.{◌≡◌, ℕ, ◌%◌, ◌==◌, Bool, true, false, if◌then◌else◌, List, [], ◌∷◌, ◌++◌, length, arith}
use Rattle.std.proofs.Common.{refl, ap, sym, ◌∙◌}
use Rattle.std.specs.Prelude.{slice_index_or}
use Rattle.std.proofs.Math.ListN.{length-set}
use Rattle.air_record.specs.declared.record.Record.{Record}
use Rattle.harq.specs.declared.sender.Order.{Order}
use Rattle.harq.specs.declared.sender.Visit.{Visit}
use Rattle.harq.specs.declared.sender.Visit.TheVariants.{New, Resend, Silent as Quiet}
use Rattle.harq.specs.Sending.{Sending, empty, fresh, visit_answer, after_visit, after_load, after_feedback, ndi_of}
use Rattle.harq.specs.SendHistory.{Turn, Step, Visited, Cleared, Deed, World, closed, turned, deed, stepped}
use Rattle.harq.specs.SendHistory.{world_after, start}
use Rattle.harq.specs.SendHistory.{are_down, is_down}
use Rattle.law_run.specs.AnyCalls.Deeds.{deed_of, turn, TakesTurn}
use Rattle.mac_pdu.specs.declared.item.Direction.{Direction}
use Rattle.mac_pdu.specs.declared.item.Direction.TheVariants.{Down, Up}
use Rattle.promises.specs.Heard.{Flight, Heard, deeds_of}
use Rattle.law_run.proofs.Building.{run_maximum, down_rest}
use Rattle.law_run.proofs.Hearing.{flown, with_flight, Visits}

-- ---- steps

run_then : (xs ys : List Step) (w : World) → world_after (xs ++ ys) w ≡ world_after ys (world_after xs w)
run_then [] ys w = refl
run_then (x ∷ xs) ys w = run_then xs ys (stepped w x)

down_if : (b : Bool) (xs ys : List Step) → are_down (xs ++ ys) ≡ true → (if b then are_down xs else false) ≡ true
    → (if b then are_down (xs ++ ys) else false) ≡ true
down_if true xs ys e f = e
down_if false xs ys e f = f

down_then : (xs ys : List Step) → are_down xs ≡ true → are_down ys ≡ true → are_down (xs ++ ys) ≡ true
down_then [] ys e f = f
down_then (Visited t ∷ xs) ys e f =
    down_if (is_down t.order) xs ys (down_then xs ys (down_rest (is_down t.order) xs e) f) e
down_then (Cleared ∷ xs) ys e f = down_then xs ys e f

closed_eight : (v : Visit) (t : Turn) (s : Sending) → length s.processes ≡ 8 → length (closed v t s).processes ≡ 8
unfolding after_load after_feedback
closed_eight New t s e = length-set _ (t.tti % 8) _ ∙ length-set s.processes (t.tti % 8) _ ∙ e
closed_eight (Resend rv) t s e = length-set s.processes (t.tti % 8) _ ∙ e
closed_eight Quiet t s e = e

turned_eight : (t : Turn) (s : Sending) → length s.processes ≡ 8 → length (turned t s).processes ≡ 8
unfolding after_visit
turned_eight t s e =
    closed_eight (visit_answer s t.tti t.order) t (after_visit s t.tti t.order)
    (length-set s.processes (t.tti % 8) _ ∙ e)

-- ---- a sender came so far by steps, and its deeds are those that are heard of its processes

abbrev pub AreOf : Direction → List Step → Type 0
AreOf Down steps = are_down steps ≡ true
AreOf Up steps = Unit {0}

are_of_then : (way : Direction) (xs ys : List Step) → AreOf way xs → AreOf way ys → AreOf way (xs ++ ys)
are_of_then Down xs ys e f = down_then xs ys e f
are_of_then Up xs ys e f = tt

no_steps : (way : Direction) → AreOf way []
no_steps Down = refl
no_steps Up = tt

pub record Sends (way : Direction) (maximum : ℕ) (s : Sending) (h : ℕ → Heard) : Type 0 where
  pub eight : length s.processes ≡ 8
  pub steps : List Step
  pub are_of : AreOf way steps
  pub sender_is : (world_after steps (start maximum)).sender ≡ s
  pub deeds_are : (p : ℕ) → deeds_of (h p).flights ≡ (world_after steps (start maximum)).past p

-- only the visits count
abbrev pub SameFlights : (ℕ → Heard) → (ℕ → Heard) → Type 0
SameFlights h k = (p : ℕ) → (k p).flights ≡ (h p).flights

pub sends_as : (way : Direction) (maximum : ℕ) (s : Sending) (h k : ℕ → Heard) → SameFlights h k
    → Sends way maximum s h → Sends way maximum s k
sends_as way maximum s h k same a =
    record {
      eight = a.eight;
      steps = a.steps;
      are_of = a.are_of;
      sender_is = a.sender_is;
      deeds_are = λ p. ap deeds_of (same p) ∙ a.deeds_are p;
    }

pub sends_begins : (way : Direction) (maximum : ℕ) (h : ℕ → Heard) → ((p : ℕ) → (h p).flights ≡ [])
    → Sends way maximum (fresh maximum) h
unfolding fresh
sends_begins way maximum h none =
    record {
      eight = refl;
      steps = [];
      are_of = no_steps way;
      sender_is = refl;
      deeds_are = λ p. ap deeds_of (none p);
    }

pub maximum_is : (way : Direction) (maximum : ℕ) (s : Sending) (h : ℕ → Heard) → Sends way maximum s h
    → s.maximum ≡ maximum
unfolding fresh
maximum_is way maximum s h a = sym (ap (λ (x : Sending). x.maximum) a.sender_is) ∙ run_maximum a.steps (start maximum)

deeds_more : (b : Bool) (f : Flight) (past : List Flight) (d : Deed) (ds : List Deed) → f.deed ≡ d
    → deeds_of past ≡ ds → deeds_of (with_flight b f past) ≡ (if b then d ∷ ds else ds)
deeds_more true f past d ds e same = rw (e, same) refl
deeds_more false f past d ds e same = same

-- it takes a turn
pub sends_turn : (way : Direction) (t : ℕ) (order : Order) (s r : Sending) (told : List Record)
    (k : TakesTurn t order s r told) → AreOf way (Visited (turn t order k.octets k.good) ∷ [])
    → (maximum : ℕ) (h q : ℕ → Heard) (missed : ℕ → Bool)
    → ((p : ℕ) → Visits (p == t % 8) (flown (missed p) told) (h p) (q p)) → Sends way maximum s h
    → Sends way maximum r q
sends_turn way t order s r told k of maximum h q missed visits a =
    let v = turn t order k.octets k.good in
    let w = world_after a.steps (start maximum) in
    let next = run_then a.steps (Visited v ∷ []) (start maximum) in
    record {
      eight = ap (λ (x : Sending). length x.processes) k.sender_is ∙ turned_eight v s a.eight;
      steps = a.steps ++ Visited v ∷ [];
      are_of = are_of_then way a.steps (Visited v ∷ []) a.are_of of;
      sender_is = ap (λ (x : World). x.sender) next ∙ ap (λ (x : Sending). turned v x) a.sender_is ∙ sym k.sender_is;
      deeds_are = λ p.
          let same : deed_of told ≡ deed v w.sender = sym (k.deed_is a.eight)
          ∙ sym (ap (λ (x : Sending). deed v x) a.sender_is) in
          ap deeds_of (visits p).flights_are
          ∙ deeds_more (p == t % 8) (flown (missed p) told) (h p).flights (deed v w.sender) (w.past p) same
          (a.deeds_are p)
          ∙ sym (ap (λ (x : World). x.past p) next);
    }

-- the NDI of a process
pub same_process : (s : Sending) (p t : ℕ) → p ≡ t % 8 → ndi_of s t ≡ ndi_of s p
unfolding ndi_of
same_process s p t e =
    let same : t % 8 ≡ p % 8 = omega (arith, e) in
    ap (λ (i : ℕ). (slice_index_or s.processes i empty).ndi) same
