-- A TTI of a drain clears its processes and leaves the others, and behind eight of them blocks arrive at once.
use Rattle.std.proofs.Common.{◌≡◌, ◌⊎◌, inl, inr, ◌<◌, ◌≤◌, ℕ, ◌+◌, ◌-◌, ◌%◌, ◌==◌, Bool, true, false, not}
use Rattle.std.proofs.Common.{if◌then◌else◌, Some, None, List, [], ◌∷◌, ◌++◌, length, refl, ap, sym, subst, ◌∙◌}
use Rattle.std.proofs.Common.{arith, Option, None}
use Rattle.std.specs.Prelude.{slice_index_or}
use Rattle.std.proofs.Math.Nat.{add-mod_right}
use Rattle.std.specs.List.{AllByRecursion}
use Rattle.std.proofs.lemmas.Bool.{cases_eq, cases_lt}
use Rattle.std.proofs.lemmas.Bool.Decides.{nat_tests}
use Rattle.air_link.specs.Downlink.{down_order}
use Rattle.air_link.specs.Draining.{drain_tti}
use Rattle.air_link.specs.Link.{Link, fresh}
use Rattle.air_link.specs.Ttis.{sleeps, tti}
use Rattle.air_record.specs.Outcomes.{intact, missed}
use Rattle.air_record.specs.declared.line.Outcome.{Outcome}
use Rattle.air_record.specs.declared.record.Arrived.{Arrived}
use Rattle.air_record.specs.declared.record.Arrived.TheVariants as arriveds
use Rattle.air_record.specs.declared.record.Record.{Record}
use Rattle.air_record.specs.declared.record.Record.TheVariants as records
use Rattle.harq.specs.declared.receiver.Answer.TheVariants.{Up as HandedUp, Again}
use Rattle.harq.specs.declared.sender.Order.{Order}
use Rattle.harq.specs.declared.sender.Order.TheVariants.{Silent, Free, Grant}
use Rattle.harq.specs.declared.sender.Visit.{Visit}
use Rattle.harq.specs.declared.sender.Visit.TheVariants.{New}
use Rattle.harq.specs.Receiving.{Receiving, blank, was_decoded, process_at, after_assigned, assigned_answer, grant_ndi}
use Rattle.harq.specs.Sending.{fresh as fresh_sender}
use Rattle.harq.specs.Receiving.{fresh as fresh_receiver}
use Rattle.l2_node.specs.End.{fresh as fresh_end}
use Rattle.harq.specs.SendHistory.{Turn, Built, Resent, deed, deed_by}
use Rattle.harq.specs.Sending.{Sending, empty, held_of, ndi_of, after_visit, visit_answer}
use Rattle.mac_pdu.specs.declared.item.Direction.{Direction}
use Rattle.mac_pdu.specs.declared.item.Direction.TheVariants.{Down, Up}
use Rattle.promises.specs.Flights.{FliesDown, came}
use Rattle.law_run.specs.AnyCalls.Calls.{ReceiversExpire as Receivers, SendersExpire as Senders}
use Rattle.law_run.specs.AnyCalls.Calls.{Call, Bears, Discards, Visits, Reports, Listens, Loops, Expires, Forges}
use Rattle.law_run.specs.AnyCalls.Calls.{HandsOver}
use Rattle.law_run.specs.AnyCalls.Deeds.{Entities, entities, TakesTurn, Answers, came_of, deed_of, turn}
use Rattle.law_run.specs.AnyCalls.Deeds.{up_ordered, left as left_by}
use Rattle.law_run.specs.AnyCalls.Runs.{Step as AnyStep, Tti as TtiOf, Drains, Submit, Calls, step}
use Rattle.law_run.specs.AnyCalls.Told.{AddsTti}
use Rattle.law_run.specs.DrainTtis.{IsClear, HaveEight, AreClear, Step, Tti, ReceiversExpire, SendersExpire, happens}
use Rattle.law_run.specs.DrainTtis.{goes, ttis, IsGranted, arrives_new, BothArrive}
use Rattle.law_run.proofs.AnyCalls.Advancing.{submitting_rests}
use Rattle.law_run.proofs.AnyCalls.Calling.{calls_adds}
use Rattle.law_run.proofs.AnyCalls.Leaving.{calls_leave}
use Rattle.law_run.proofs.AnyCalls.Passing.{tti_adds, drain_adds}
use Rattle.law_run.proofs.DrainTtis.Processes.{good_of, good_told, turned_eight, turned_none, other_held, other_ndi}
use Rattle.law_run.proofs.DrainTtis.Processes.{new_free, new_granted, ndi_new, assigned_eight, decoded_here}
use Rattle.law_run.proofs.DrainTtis.Processes.{decoded_other, none_decoded}

-- ---- what is told of a sender's turn

-- a block is told, with a good feedback
record Goes (d : Direction) (t : ℕ) (what : Arrived) (told : List Record) : Type 0 where
  pub fresh : Bool
  pub version : ℕ
  pub octets : List ℕ
  pub told_is : told
      ≡ records.Block d (t % 8) fresh version octets ∷ records.Air d what (Some true) ∷ []

-- so the sender's process is empty
empties : (d : Direction) (t : ℕ) (order : Order) (before after' : Sending) (what : Arrived) (told : List Record)
    → length before.processes ≡ 8 → TakesTurn t order before after' told → Goes d t what told
    → held_of after' (t % 8) ≡ None
empties d t order before after' what told eight k g =
    let good : good_of (deed (turn t order k.octets k.good) before) ≡ true =
    ap good_of (k.deed_is eight) ∙ ap (λ (l : List Record). good_of (deed_of l)) g.told_is
    ∙ good_told d d (t % 8) g.version g.fresh g.octets what true in
    subst (λ (s : Sending). held_of s (t % 8) ≡ None) (sym k.sender_is)
    (turned_none (turn t order k.octets k.good) before eight good)

-- and where it held none the block is new
new_told : (d way : Direction) (p version : ℕ) (fresh : Bool) (octets built : List ℕ) (what : Arrived)
    (good heard : Bool)
    → Built built good ≡ deed_of (records.Block d p fresh version octets ∷ records.Air way what (Some heard) ∷ [])
    → fresh ≡ true
new_told d way p version true octets built what good heard e = refl
new_told d way p version false octets built what good heard e =
    let no : Built built good ≡ Resent version octets heard = e in absurd cc

is_new : (d : Direction) (t : ℕ) (order : Order) (before after' : Sending) (what : Arrived) (told : List Record)
    → length before.processes ≡ 8 → TakesTurn t order before after' told → (g : Goes d t what told)
    → visit_answer before t order ≡ New → g.fresh ≡ true
is_new d t order before after' what told eight k g new =
    let x : Turn = turn t order k.octets k.good in
    new_told d d (t % 8) g.version g.fresh g.octets k.octets what k.good true
    (ap (λ (v : Visit). deed_by v x (held_of (after_visit before t order) (t % 8))) (sym new)
    ∙ (k.deed_is eight ∙ ap deed_of g.told_is))

pub ordered : (grant : ℕ) (o : Order) → 1 ≤ grant → (if grant == 0 then Silent else o) ≡ o
ordered grant o some =
    let no : (grant == 0) ≡ false = grind (arith, nat_tests) in
    ap (λ (b : Bool). if b then Silent else o) no

-- ---- eight processes

answers_eight : (t : ℕ) (ndi : Bool) (what : Option Arrived) (before after' : Receiving)
    → Answers t ndi what before after' → length before.processes ≡ 8 → length after'.processes ≡ 8
answers_eight t ndi (Some arriveds.Got) before after' a l =
    ap (λ (r : Receiving). length r.processes) a.receiver_is ∙ assigned_eight before t ndi true l
answers_eight t ndi (Some arriveds.Dup) before after' a l =
    ap (λ (r : Receiving). length r.processes) a.receiver_is ∙ assigned_eight before t ndi true l
answers_eight t ndi (Some arriveds.Bad) before after' a l =
    ap (λ (r : Receiving). length r.processes) a.receiver_is ∙ assigned_eight before t ndi false l
answers_eight t ndi (Some arriveds.Nothing) before after' a l = ap (λ (r : Receiving). length r.processes) a ∙ l
answers_eight t ndi None before after' a l = ap (λ (r : Receiving). length r.processes) a ∙ l

turn_eight : (t : ℕ) (order : Order) (before after' : Sending) (told : List Record)
    → TakesTurn t order before after' told → length before.processes ≡ 8 → length after'.processes ≡ 8
turn_eight t order before after' told k l =
    ap (λ (s : Sending). length s.processes) k.sender_is ∙ turned_eight (turn t order k.octets k.good) before l

tti_eight : (asleep : Bool) (up_grant : ℕ) (up : Outcome) (down_grant : ℕ) (down : Outcome) (l m : Link)
    → AddsTti asleep up_grant up down_grant down l m → HaveEight (entities l) → HaveEight (entities m)
tti_eight asleep up_grant up down_grant down l m a h = record {
  nb_sends = turn_eight l.ttis (down_order down_grant) l.nb.sender m.nb.sender a.downward a.down_turn h.nb_sends;
  ue_hears =
      answers_eight l.ttis (ndi_of m.nb.sender l.ttis) (came_of a.downward) l.ue.receiver m.ue.receiver
      (a.down_answer h.nb_sends) h.ue_hears;
  ue_sends =
      turn_eight l.ttis (up_ordered up_grant (missed asleep up) (grant_ndi l.nb.receiver l.ttis)) l.ue.sender
      m.ue.sender a.upward a.up_turn h.ue_sends;
}

left_eight : (c : Call) (e : Entities) → HaveEight e → HaveEight (left_by c e)
unfolding fresh_sender fresh_receiver
left_eight (Visits maximum) e h = record { nb_sends = refl; ue_hears = refl; ue_sends = refl }
left_eight (HandsOver keys) e h = record { nb_sends = refl; ue_hears = refl; ue_sends = refl }
left_eight (Bears c keys) e h = h
left_eight (Discards lcid ttis) e h = h
left_eight Reports e h = h
left_eight (Listens c) e h = h
left_eight (Loops mode) e h = h
left_eight (Expires side lcid clock) e h = h
left_eight (Forges side block) e h = h
left_eight Receivers e h = h
left_eight Senders e h = h

pub first_eight : HaveEight (entities fresh)
unfolding fresh fresh_end fresh_sender fresh_receiver
first_eight = record { nb_sends = refl; ue_hears = refl; ue_sends = refl }

pub steps_eight : (s : AnyStep) (l : Link) → HaveEight (entities l) → HaveEight (entities (step s l))
steps_eight (TtiOf up_grant up down_grant down) l h =
    let m = tti up_grant up down_grant down l in
    tti_eight (sleeps l.ttis l) up_grant up down_grant down l m (tti_adds up_grant up down_grant down l) h
steps_eight (Drains grant) l h =
    tti_eight false grant intact grant intact l (drain_tti grant l) (drain_adds grant l) h
steps_eight (Submit side lcid sdu) l h = subst HaveEight (sym (submitting_rests side lcid sdu l).entities_are) h
steps_eight (Calls c) l h = subst HaveEight (sym (calls_leave c l)) (left_eight c (entities l) h)

-- ---- one TTI of a drain

module _ (grant : ℕ) (l : Link) (some : 1 ≤ grant) (eight : HaveEight (entities l)) where
  abbrev left : Link
  left = drain_tti grant l

  adds : AddsTti false grant intact grant intact l left
  adds = drain_adds grant l

  -- what flew

  down_came : (what : Arrived) → (what ≡ arriveds.Got) ⊎ (what ≡ arriveds.Dup)
      → came Down what intact ≡ records.Air Down what (Some true)
  down_came what (inl e) = subst (λ (w : Arrived). came Down w intact ≡ records.Air Down w (Some true)) (sym e) refl
  down_came what (inr e) = subst (λ (w : Arrived). came Down w intact ≡ records.Air Down w (Some true)) (sym e) refl

  down : FliesDown l.ttis intact adds.downward
  down = adds.down_is.one some

  down_goes : Goes Down l.ttis down.what adds.downward
  down_goes = record {
    fresh = down.fresh;
    version = down.version;
    octets = down.octets;
    told_is = down.flown_is
        ∙ ap (λ (r : Record). records.Block Down (l.ttis % 8) down.fresh down.version down.octets ∷ r ∷ [])
        (down_came down.what down.by_fate);
  }

  up_goes : Goes Up l.ttis arriveds.Got adds.upward
  up_goes = elim (adds.up_is.one some) [
    | inl f ↦ record { fresh = f.fresh; version = f.version; octets = f.octets; told_is = f.flown_is }
    | inr u ↦ absurd (let no = u.missed in cc)
  ]

  -- what the terminal heard

  answered : (what : Arrived) → (what ≡ arriveds.Got) ⊎ (what ≡ arriveds.Dup)
      → (ndi : Bool) (before after' : Receiving) → Answers l.ttis ndi (Some what) before after'
      → after' ≡ after_assigned before l.ttis ndi true
  answered what (inl e) ndi before after' a =
      (subst (λ (w : Arrived). Answers l.ttis ndi (Some w) before after') e a).receiver_is
  answered what (inr e) ndi before after' a =
      (subst (λ (w : Arrived). Answers l.ttis ndi (Some w) before after') e a).receiver_is

  answers : Answers l.ttis (ndi_of left.nb.sender l.ttis) (Some down.what) l.ue.receiver left.ue.receiver
  answers =
      subst (λ (told : List Record). Answers l.ttis (ndi_of left.nb.sender l.ttis) (came_of told) l.ue.receiver
      left.ue.receiver) down_goes.told_is (adds.down_answer eight.nb_sends)

  heard : left.ue.receiver ≡ after_assigned l.ue.receiver l.ttis (ndi_of left.nb.sender l.ttis) true
  heard =
      answered down.what down.by_fate (ndi_of left.nb.sender l.ttis) l.ue.receiver left.ue.receiver answers

  -- its processes

  pub clears : IsClear l.ttis (entities left)
  clears = record {
    down = empties Down l.ttis (down_order grant) l.nb.sender left.nb.sender down.what adds.downward eight.nb_sends
        adds.down_turn down_goes;
    decoded =
        subst (λ (r : Receiving). was_decoded (ndi_of left.nb.sender l.ttis) (process_at r l.ttis) ≡ true) (sym heard)
        (decoded_here l.ue.receiver l.ttis (ndi_of left.nb.sender l.ttis) eight.ue_hears);
    up = empties Up l.ttis (up_ordered grant intact (grant_ndi l.nb.receiver l.ttis)) l.ue.sender left.ue.sender
        arriveds.Got adds.upward eight.ue_sends adds.up_turn up_goes;
  }

  pub keeps_eight : HaveEight (entities left)
  keeps_eight = tti_eight false grant intact grant intact l left adds eight

  -- and the others

  pub leaves : (t : ℕ) → (t % 8 ≡ l.ttis % 8 → ⊥) → IsClear t (entities l) → IsClear t (entities left)
  leaves t ne h =
      let x = turn l.ttis (down_order grant) adds.down_turn.octets adds.down_turn.good in
      let y = turn l.ttis (up_ordered grant intact (grant_ndi l.nb.receiver l.ttis)) adds.up_turn.octets
      adds.up_turn.good in
      record {
        down = ap (λ (s : Sending). held_of s (t % 8)) adds.down_turn.sender_is
            ∙ (other_held x l.nb.sender (t % 8) ne ∙ h.down);
        decoded =
            ap (λ (b : Bool). was_decoded b (process_at left.ue.receiver t))
            (ap (λ (s : Sending). ndi_of s t) adds.down_turn.sender_is ∙ other_ndi x l.nb.sender t ne)
            ∙ (ap (λ (r : Receiving). was_decoded (ndi_of l.nb.sender t) (process_at r t)) heard
            ∙ (ap (was_decoded (ndi_of l.nb.sender t))
            (decoded_other l.ue.receiver l.ttis t (ndi_of left.nb.sender l.ttis) true ne)
            ∙ h.decoded));
        up = ap (λ (s : Sending). held_of s (t % 8)) adds.up_turn.sender_is
            ∙ (other_held y l.ue.sender (t % 8) ne ∙ h.up);
      }

  -- ---- behind a clear process the blocks are new, and arrive

  not_again : (what : Arrived) → (what ≡ arriveds.Got) ⊎ (what ≡ arriveds.Dup)
      → Answers l.ttis (ndi_of left.nb.sender l.ttis) (Some what) l.ue.receiver left.ue.receiver
      → was_decoded (ndi_of left.nb.sender l.ttis) (process_at l.ue.receiver l.ttis) ≡ false → what ≡ arriveds.Got
  unfolding assigned_answer
  not_again what (inl e) a none = e
  not_again what (inr e) a none =
      let b = (subst (λ (w : Arrived). Answers l.ttis (ndi_of left.nb.sender l.ttis) (Some w) l.ue.receiver
      left.ue.receiver) e a).answer_is in
      let up : (if was_decoded (ndi_of left.nb.sender l.ttis) (process_at l.ue.receiver l.ttis) then Again
      else HandedUp) ≡ Again = b in
      let no : HandedUp ≡ Again =
      sym (ap (λ (d : Bool). if d then Again else HandedUp) none) ∙ up in
      absurd cc

  pub both_arrive : IsClear l.ttis (entities l) → BothArrive l left
  both_arrive h =
      let down_free : down_order grant ≡ Free = ordered grant Free some in
      let ndi = grant_ndi l.nb.receiver l.ttis in
      let up_granted : up_ordered grant intact ndi ≡ Grant ndi = ordered grant (Grant ndi) some in
      let k : TakesTurn l.ttis Free l.nb.sender left.nb.sender adds.downward =
      subst (λ (o : Order). TakesTurn l.ttis o l.nb.sender left.nb.sender adds.downward) down_free adds.down_turn in
      let u : TakesTurn l.ttis (Grant ndi) l.ue.sender left.ue.sender adds.upward =
      subst (λ (o : Order). TakesTurn l.ttis o l.ue.sender left.ue.sender adds.upward) up_granted adds.up_turn in
      let down_new : down_goes.fresh ≡ true =
      is_new Down l.ttis Free l.nb.sender left.nb.sender down.what adds.downward eight.nb_sends k down_goes
      (new_free l.nb.sender l.ttis h.down) in
      let up_new : up_goes.fresh ≡ true =
      is_new Up l.ttis (Grant ndi) l.ue.sender left.ue.sender arriveds.Got adds.upward eight.ue_sends u up_goes
      (new_granted l.ue.sender l.ttis ndi h.up) in
      let toggled : ndi_of left.nb.sender l.ttis ≡ not (ndi_of l.nb.sender l.ttis) =
      ap (λ (s : Sending). ndi_of s l.ttis) k.sender_is
      ∙ ndi_new l.ttis k.octets k.good l.nb.sender eight.nb_sends h.down in
      let got : down.what ≡ arriveds.Got =
      not_again down.what down.by_fate answers
      (ap (λ (b : Bool). was_decoded b (process_at l.ue.receiver l.ttis)) toggled
      ∙ none_decoded l.ue.receiver l.ttis (ndi_of l.nb.sender l.ttis) h.decoded) in
      record {
        more = adds.more;
        out_is = adds.out_is;
        down_version = down_goes.version;
        down = down_goes.octets;
        up_version = up_goes.version;
        up = up_goes.octets;
        flown_is = adds.told.flown_is
            ∙ (ap (λ (x : List Record). x ++ adds.upward) (down_goes.told_is
            ∙ (ap (λ (b : Bool). records.Block Down (l.ttis % 8) b down_goes.version down_goes.octets
            ∷ records.Air Down down.what (Some true) ∷ []) down_new
            ∙ ap (λ (w : Arrived). records.Block Down (l.ttis % 8) true down_goes.version down_goes.octets
            ∷ records.Air Down w (Some true) ∷ []) got))
            ∙ ap (λ (x : List Record). arrives_new Down (l.ttis % 8) down_goes.version down_goes.octets ++ x)
            (up_goes.told_is
            ∙ ap (λ (b : Bool). records.Block Up (l.ttis % 8) b up_goes.version up_goes.octets
            ∷ records.Air Up arriveds.Got (Some true) ∷ []) up_new));
      }

-- ---- the steps of a drain

pub same_process : (t u : ℕ) (e : Entities) → t % 8 ≡ u % 8 → IsClear t e → IsClear u e
unfolding ndi_of
same_process t u e q h = record {
  down = subst (λ (p : ℕ). held_of e.nb.sender p ≡ None) q h.down;
  decoded =
      subst (λ (p : ℕ). was_decoded (slice_index_or e.nb.sender.processes p empty).ndi
      (slice_index_or e.ue.receiver.processes p blank) ≡ true) q h.decoded;
  up = subst (λ (p : ℕ). held_of e.ue.sender p ≡ None) q h.up;
}

earlier : (t n m : ℕ) → t < m → m ≡ n + 1 → (t % 8 ≡ n % 8 → ⊥) → t < n
earlier t n m below next ne = elim (cases_lt t n) [
  | inl lt ↦ lt
  | inr from ↦
      let same : t ≡ n = omega (arith, below, next, from) in
      absurd (ne (ap (λ (k : ℕ). k % 8) same))
]

pub counted : (count grant : ℕ) (l : Link) → 1 ≤ grant → HaveEight (entities l) → AreClear count l
    → AreClear (count + 1) (drain_tti grant l)
counted count grant l some eight h t below recent =
    let next = (drain_adds grant l).ttis_is in
    elim (cases_eq (t % 8) (l.ttis % 8)) [
      | inl same ↦ same_process l.ttis t (entities (drain_tti grant l)) (sym same) (clears grant l some eight)
      | inr ne ↦
          leaves grant l some eight t ne
          (h t (earlier t l.ttis (drain_tti grant l).ttis below next ne) (omega (arith, recent, next)))
    ]

-- what lies between TTIs leaves the processes and the count
pub record Keeps (l m : Link) : Type 0 where
  pub entities_are : entities m ≡ entities l
  pub ttis_are : m.ttis ≡ l.ttis

pub receivers_keep : (l : Link) → Keeps l (happens l ReceiversExpire)
receivers_keep l = record { entities_are = calls_leave Receivers l; ttis_are = (calls_adds Receivers l).ttis_is }

pub senders_keep : (l : Link) → Keeps l (happens l SendersExpire)
senders_keep l = record { entities_are = calls_leave Senders l; ttis_are = (calls_adds Senders l).ttis_is }

pub kept_clear : (count : ℕ) (l m : Link) → Keeps l m → AreClear count l → AreClear count m
kept_clear count l m k h t below recent =
    subst (IsClear t) (sym k.entities_are)
    (h t (subst (λ (n : ℕ). t < n) k.ttis_are below) (subst (λ (n : ℕ). n ≤ t + count) k.ttis_are recent))

-- so far, from the line on
pub record Went (count : ℕ) (l m : Link) : Type 0 where
  pub eight : HaveEight (entities m)
  pub clear : AreClear count m
  pub ttis_are : m.ttis ≡ l.ttis + count

kept : (count : ℕ) (k l m : Link) → Keeps l m → Went count k l → Went count k m
kept count k l m s w = record {
  eight = subst HaveEight (sym s.entities_are) w.eight;
  clear = kept_clear count l m s w.clear;
  ttis_are = s.ttis_are ∙ w.ttis_are;
}

goes_on : (steps : List Step) (count : ℕ) (k l : Link) → AllByRecursion IsGranted steps → Went count k l
    → Went (ttis steps + count) k (goes steps l)
goes_on [] count k l granted w =
    let none : count ≡ 0 + count = omega arith in
    subst (λ (n : ℕ). Went n k l) none w
goes_on (Tti grant ∷ steps) count k l granted w =
    let m = drain_tti grant l in
    let next = (drain_adds grant l).ttis_is in
    let more : ttis steps + (count + 1) ≡ ttis steps + 1 + count = omega arith in
    subst (λ (n : ℕ). Went n k (goes steps m)) more
    (goes_on steps (count + 1) k m granted.1 (record {
      eight = keeps_eight grant l granted.0 w.eight;
      clear = counted count grant l granted.0 w.eight w.clear;
      ttis_are = omega (arith, next, w.ttis_are);
    }))
goes_on (ReceiversExpire ∷ steps) count k l granted w =
    goes_on steps count k (happens l ReceiversExpire) granted.1
    (kept count k l (happens l ReceiversExpire) (receivers_keep l) w)
goes_on (SendersExpire ∷ steps) count k l granted w =
    goes_on steps count k (happens l SendersExpire) granted.1
    (kept count k l (happens l SendersExpire) (senders_keep l) w)

pub went : (steps : List Step) (l : Link) → HaveEight (entities l) → AllByRecursion IsGranted steps
    → Went (ttis steps) l (goes steps l)
went steps l eight granted =
    let none : ttis steps + 0 ≡ ttis steps = omega arith in
    let start : l.ttis ≡ l.ttis + 0 = omega arith in
    subst (λ (n : ℕ). Went n l (goes steps l)) none
    (goes_on steps 0 l l granted
    (record { eight = eight; clear = λ t below recent. absurd (omega (arith, below, recent)); ttis_are = start }))

pub processes_clear : (steps : List Step) (l : Link) → HaveEight (entities l) → AllByRecursion IsGranted steps
    → AreClear (ttis steps) (goes steps l)
processes_clear steps l eight granted = (went steps l eight granted).clear

-- the processes of the next TTI are those of the eighth before it
pub clear_again : (m : Link) → 8 ≤ m.ttis → AreClear 8 m → IsClear m.ttis (entities m)
clear_again m late clear =
    let back : m.ttis - 8 + 8 ≡ m.ttis = omega (arith, late) in
    let same : (m.ttis - 8) % 8 ≡ m.ttis % 8 =
    sym (add-mod_right (m.ttis - 8) 8) ∙ ap (λ (n : ℕ). n % 8) back in
    same_process (m.ttis - 8) m.ttis (entities m) same
    (clear (m.ttis - 8) (omega (arith, late)) (omega (arith, late)))

pub next_clear : (steps : List Step) (l : Link) → HaveEight (entities l) → AllByRecursion IsGranted steps
    → 8 ≤ ttis steps → IsClear (goes steps l).ttis (entities (goes steps l))
next_clear steps l eight granted many =
    let w = went steps l eight granted in
    clear_again (goes steps l) (omega (arith, w.ttis_are, many))
    (λ t below recent. w.clear t below (omega (arith, recent, many)))

pub arrive_at_once : (steps : List Step) (grant : ℕ) (l : Link) → HaveEight (entities l)
    → AllByRecursion IsGranted steps → 8 ≤ ttis steps → 1 ≤ grant
    → BothArrive (goes steps l) (drain_tti grant (goes steps l))
arrive_at_once steps grant l eight granted many some =
    both_arrive grant (goes steps l) some (went steps l eight granted).eight (next_clear steps l eight granted many)
