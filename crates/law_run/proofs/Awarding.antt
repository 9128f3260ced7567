-- The uplink: the terminal's sender and the base station's receiver.
use Rattle.std.proofs.Common.{◌≡◌, ◌<◌, ◌≤◌, ◌⊎◌, ℕ, ◌%◌, ◌==◌, ◌||◌, ◌&&◌, not, Bool, true, false, if◌then◌else◌}
use Rattle.std.proofs.Common.{Option, Some, None, List, [], ◌∷◌, ◌++◌, length, get_or-set_same, get_or-set_other, arith}
use Rattle.std.proofs.Common.{refl, ap, sym, subst, inl, inr, ◌∙◌}
use Rattle.std.specs.Prelude.{is_some, option_map, slice_index_or, slice_set}
use Rattle.std.proofs.lemmas.Bool.{cases_eq}
use Rattle.std.proofs.lemmas.Bool.Decides.{nat_tests}
use Rattle.std.proofs.lemmas.List.{get_or-replicate}
use Rattle.std.proofs.Math.ListN.{length-set}
use Rattle.air_record.specs.Outcomes.{missed}
use Rattle.air_link.specs.Uplink.{up_order}
use Rattle.air_record.specs.declared.line.Fate.{Fate}
use Rattle.air_record.specs.declared.line.Fate.TheVariants.{Ok, Bad, Miss}
use Rattle.air_record.specs.declared.line.Outcome.{Outcome}
use Rattle.air_record.specs.declared.record.Arrived.{Arrived}
use Rattle.air_record.specs.declared.record.Record.{Record}
use Rattle.harq.specs.declared.sender.Order.{Order}
use Rattle.harq.specs.declared.sender.Order.TheVariants.{Silent, Unseen, Free, Grant}
use Rattle.harq.specs.declared.sender.Visit.{Visit}
use Rattle.harq.specs.declared.sender.Visit.TheVariants.{New, Resend, Silent as Quiet}
use Rattle.harq.specs.Receiving.{Receiving, fresh as fresh_receiver, after_grant, grant_ndi, after_granted, after_pass}
use Rattle.harq.specs.ReceiveHistory.{UpStep, Granted, Passed, Reset, Told, Asked, Skipped, UpWorld, up_stepped, up_run}
use Rattle.harq.specs.ReceiveHistory.{up_start, AreGrantedRight}
use Rattle.harq.specs.Sending.{Sending, SendProcess, Block, same, fresh, empty, process_at, with_process, resend_or}
use Rattle.harq.specs.Sending.{visited, answered, visit_answer, after_visit, after_load, after_feedback, held_of}
use Rattle.harq.specs.Sending.{ndi_of}
use Rattle.harq.specs.SendHistory.{Turn, Deed, closed, deed_by, deed, turned, world_after, start, held_by}
use Rattle.harq.proofs.ReceiveLemmas.{grants_right}
use Rattle.harq.proofs.SendLemmas.{keeps_blocks}
use Rattle.law_run.specs.AnyCalls.Deeds.{deed_of, turn, TakesTurn, came_of, heard_up, up_ordered}
use Rattle.promises.specs.Awards.{grant_brought, next_ndi, told_of_grant, grants, order_by, order, seen_by, last_seen}
use Rattle.promises.specs.Awards.{resends, builds, is_resent, is_built, IsVisit, AreVisits}
use Rattle.promises.specs.Flights.{FliesUp, IsUnanswered, IsUp}
use Rattle.law_run.proofs.AnyCalls.Telling.{none_is, some_is}
use Rattle.mac_pdu.specs.declared.item.Direction.TheVariants.{Up}
use Rattle.promises.specs.Heard.{Flight, Heard, is_miss, deeds_of}
use Rattle.law_run.proofs.Building.{run_maximum, is_here}
use Rattle.law_run.proofs.Hearing.{flown, with_flight, Visits, none_or_some}
use Rattle.law_run.proofs.Sending.{Sends, SameFlights, sends_as, sends_begins, sends_turn, same_process}

-- ---- the base station's receiver goes by steps

up_run_then : (xs ys : List UpStep) (w : UpWorld) → up_run (xs ++ ys) w ≡ up_run ys (up_run xs w)
up_run_then [] ys w = refl
up_run_then (x ∷ xs) ys w = up_run_then xs ys (up_stepped w x)

up_stepped_maximum : (s : UpStep) (w : UpWorld) → (up_stepped w s).receiver.maximum ≡ w.receiver.maximum
unfolding after_grant after_granted after_pass fresh_receiver
up_stepped_maximum (Granted tti good) w = refl
up_stepped_maximum (Passed tti) w = refl
up_stepped_maximum Reset w = refl

up_run_maximum : (ss : List UpStep) (w : UpWorld) → (up_run ss w).receiver.maximum ≡ w.receiver.maximum
up_run_maximum [] w = refl
up_run_maximum (s ∷ ss) w = up_run_maximum ss (up_stepped w s) ∙ up_stepped_maximum s w

start_maximum : (maximum : ℕ) → (up_start maximum).receiver.maximum ≡ maximum
unfolding fresh_receiver
start_maximum maximum = refl

-- a visit with what came of it, where it is granted
abbrev visit_step : ℕ → Option Arrived → UpStep
visit_step t None = Passed t
visit_step t (Some what) = Granted t (grant_brought what)

abbrev told_with : Option Arrived → Bool → Told
told_with None ndi = Skipped
told_with (Some what) ndi = Asked ndi (grant_brought what)

step_receiver : (t : ℕ) (what : Option Arrived) (w : UpWorld)
    → (up_stepped w (visit_step t what)).receiver ≡ heard_up t what w.receiver
step_receiver t None w = refl
step_receiver t (Some what) w = refl

step_past : (t : ℕ) (what : Option Arrived) (w : UpWorld) (p : ℕ)
    → (up_stepped w (visit_step t what)).past p
    ≡ (if p == t % 8 then told_with what (grant_ndi w.receiver t) ∷ w.past p else w.past p)
step_past t None w p = refl
step_past t (Some what) w p = refl

told_is : (maximum : ℕ) (what : Option Arrived) (past : List Told)
    → told_of_grant maximum what past ≡ told_with what (next_ndi maximum past)
told_is maximum None past = refl
told_is maximum (Some what) past = refl

first_right : (b : Bool) (maximum : ℕ) (ndi : Bool) (past : List Told) → b ≡ true
    → AreGrantedRight maximum (if b then Asked ndi None ∷ past else past) → ndi ≡ next_ndi maximum past
first_right true maximum ndi past e r = r.0
first_right false maximum ndi past e r = cc

-- the NDI of a grant is that of the awards
grant_is : (maximum : ℕ) (asked : List UpStep) (t : ℕ) → 1 ≤ maximum
    → grant_ndi (up_run asked (up_start maximum)).receiver t
    ≡ next_ndi maximum ((up_run asked (up_start maximum)).past (t % 8))
grant_is maximum asked t some =
    let w = up_run asked (up_start maximum) in
    let s = Granted t None in
    let right = grants_right maximum (asked ++ s ∷ []) some (t % 8) (omega arith) in
    let there : AreGrantedRight (up_stepped w s).receiver.maximum ((up_stepped w s).past (t % 8)) =
    subst (λ (v : UpWorld). AreGrantedRight v.receiver.maximum (v.past (t % 8)))
    (up_run_then asked (s ∷ []) (up_start maximum)) right in
    let most : (up_stepped w s).receiver.maximum ≡ maximum =
    up_stepped_maximum s w ∙ up_run_maximum asked (up_start maximum) ∙ start_maximum maximum in
    let test : (t % 8 == t % 8) ≡ true = grind (arith, nat_tests) in
    first_right (t % 8 == t % 8) maximum (grant_ndi w.receiver t) (w.past (t % 8)) test
    (subst (λ (m : ℕ). AreGrantedRight m ((up_stepped w s).past (t % 8))) most there)

-- ---- the terminal sees a grant, misses one or has none

fate_order : (f : Fate) (ndi : Bool) → up_order f ndi ≡ (if is_miss f then Unseen else Grant ndi)
fate_order Ok ndi = refl
fate_order Bad ndi = refl
fate_order Miss ndi = refl

missed_order : (asleep : Bool) (o : Outcome) (ndi : Bool)
    → up_order (missed asleep o).fate ndi ≡ (if asleep || is_miss o.fate then Unseen else Grant ndi)
missed_order true o ndi = refl
missed_order false o ndi = fate_order o.fate ndi

some_came : (t : ℕ) (o : Outcome) (told : List Record) (unseen ndi : Bool) → FliesUp t o told ⊎ IsUnanswered o told
    → order_by (came_of told) unseen ndi ≡ (if unseen then Unseen else Grant ndi)
some_came t o told unseen ndi (inl f) = rw f.flown_is refl
some_came t o told unseen ndi (inr u) = rw u.flown_is refl

ordered : (t grant : ℕ) (asleep : Bool) (o : Outcome) (ndi : Bool) (told : List Record)
    → IsUp t grant (missed asleep o) told → up_ordered grant (missed asleep o) ndi
    ≡ order_by (came_of told) (asleep || is_miss o.fate) ndi
ordered t grant asleep o ndi told u = elim (none_or_some grant) [
  | inl e ↦ rw (none_is grant e, u.none e) refl
  | inr h ↦ rw (some_is grant h) (missed_order asleep o ndi
      ∙ sym (some_came t (missed asleep o) told (asleep || is_miss o.fate) ndi (u.one h)))
]

-- ---- its visit

abbrev is_new : Visit → Bool
is_new New = true
is_new (Resend rv) = false
is_new Quiet = false

abbrev is_again : Visit → Bool
is_again New = false
is_again (Resend rv) = true
is_again Quiet = false

deed_built : (v : Visit) (t : Turn) (held : Option (List ℕ)) → is_built (deed_by v t held) ≡ is_new v
deed_built New t held = refl
deed_built (Resend rv) t held = refl
deed_built Quiet t held = refl

deed_resent : (v : Visit) (t : Turn) (held : Option (List ℕ)) → is_resent (deed_by v t held) ≡ is_again v
deed_resent New t held = refl
deed_resent (Resend rv) t held = refl
deed_resent Quiet t held = refl

grant_new : (b : Bool) (held : Option Block)
    → is_new (resend_or New (if b then held else None)) ≡ not (is_some held && b)
grant_new true None = refl
grant_new true (Some b) = refl
grant_new false None = refl
grant_new false (Some b) = refl

grant_again : (b : Bool) (held : Option Block)
    → is_again (resend_or New (if b then held else None)) ≡ (is_some held && b)
grant_again true None = refl
grant_again true (Some b) = refl
grant_again false None = refl
grant_again false (Some b) = refl

unseen_new : (held : Option Block) → is_new (resend_or Quiet held) ≡ false
unseen_new None = refl
unseen_new (Some b) = refl

unseen_again : (held : Option Block) → is_again (resend_or Quiet held) ≡ is_some held
unseen_again None = refl
unseen_again (Some b) = refl

free_new : (held : Option Block) → is_new (resend_or New held) ≡ not (is_some held)
free_new None = refl
free_new (Some b) = refl

free_again : (held : Option Block) → is_again (resend_or New held) ≡ is_some held
free_again None = refl
free_again (Some b) = refl

answers_new : (order' : Order) (p : SendProcess) → is_new (answered order' p) ≡ builds order' (is_some p.held) p.ndi
answers_new Silent p = refl
answers_new Unseen p = unseen_new p.held
answers_new Free p = free_new p.held
answers_new (Grant ndi) p = grant_new (same ndi p.ndi) p.held

answers_again : (order' : Order) (p : SendProcess)
    → is_again (answered order' p) ≡ resends order' (is_some p.held) p.ndi
answers_again Silent p = refl
answers_again Unseen p = unseen_again p.held
answers_again Free p = free_again p.held
answers_again (Grant ndi) p = grant_again (same ndi p.ndi) p.held

visits_by : (order' : Order) (s : Sending) (t : ℕ) (v : Turn) (held : Option (List ℕ))
    → IsVisit order' (is_some (process_at s t).held) (process_at s t).ndi (deed_by (visit_answer s t order') v held)
unfolding visit_answer
visits_by order' s t v held = record {
  resent = deed_resent (answered order' (process_at s t)) v held ∙ answers_again order' (process_at s t);
  built = deed_built (answered order' (process_at s t)) v held ∙ answers_new order' (process_at s t);
}

some_octets : (held : Option Block) → is_some held ≡ is_some (option_map (λ b. b.octets) held)
some_octets None = refl
some_octets (Some b) = refl

held_there : (s : Sending) (t : ℕ) → is_some (process_at s t).held ≡ is_some (held_of s (t % 8))
unfolding held_of
held_there s t = some_octets (process_at s t).held

ndi_there : (s : Sending) (t : ℕ) → (process_at s t).ndi ≡ ndi_of s t
unfolding ndi_of
ndi_there s t = refl

-- what it holds is what its deeds tell
holds : (maximum : ℕ) (s : Sending) (h : ℕ → Heard) → 1 ≤ maximum → Sends Up maximum s h → (p : ℕ) → p < 8
    → held_of s p ≡ held_by maximum (deeds_of (h p).flights)
unfolding fresh
holds maximum s h some a p lt =
    let w = world_after a.steps (start maximum) in
    sym (ap (λ (x : Sending). held_of x p) a.sender_is) ∙ (keeps_blocks maximum a.steps some).holds p lt
    ∙ ap (λ (m : ℕ). held_by m (w.past p)) (run_maximum a.steps (start maximum))
    ∙ ap (λ (ds : List Deed). held_by maximum ds) (sym (a.deeds_are p))

-- ---- the NDI of its processes

-- a process takes the place of a TTI's
ndi_put : (s : Sending) (t : ℕ) (x : SendProcess) (p : ℕ) → length s.processes ≡ 8 → p < 8
    → ndi_of (with_process s t x) p ≡ (if p == t % 8 then x.ndi else ndi_of s p)
unfolding ndi_of
ndi_put s t x p eight lt = elim (cases_eq p (t % 8)) [
  | inl own ↦
      let test : (p == t % 8) ≡ true = grind (arith, nat_tests) in
      let at : p % 8 ≡ t % 8 = omega (arith, own) in
      let within : t % 8 < length s.processes = omega (arith, eight) in
      rw test (ap (λ (i : ℕ). (slice_index_or (slice_set s.processes (t % 8) x) i empty).ndi) at
      ∙ ap (λ (y : SendProcess). y.ndi) (get_or-set_same s.processes (t % 8) x empty within))
  | inr other ↦
      let test : (p == t % 8) ≡ false = grind (arith, nat_tests) in
      let apart : p % 8 ≡ t % 8 → ⊥ = λ e. other (omega (arith, e)) in
      rw test (ap (λ (y : SendProcess). y.ndi) (get_or-set_other s.processes (t % 8) (p % 8) x empty apart))
]

stays_if : (b : Bool) (x y : Bool) → (b ≡ true → x ≡ y) → (if b then x else y) ≡ y
stays_if true x y e = e refl
stays_if false x y e = refl

ndi_kept : (s : Sending) (t : ℕ) (x : SendProcess) (p : ℕ) → length s.processes ≡ 8 → p < 8 → x.ndi ≡ ndi_of s t
    → ndi_of (with_process s t x) p ≡ ndi_of s p
ndi_kept s t x p eight lt e = ndi_put s t x p eight lt
    ∙ stays_if (p == t % 8) x.ndi (ndi_of s p) (λ here. e ∙ same_process s p t (is_here p (t % 8) here))

closed_ndi : (v : Visit) (t : Turn) (s : Sending) (p : ℕ) → length s.processes ≡ 8 → p < 8
    → ndi_of (closed v t s) p ≡ ndi_of s p
unfolding after_load after_feedback
closed_ndi New t s p eight lt =
    ndi_kept (after_load s t.tti t.octets) t.tti _ p (length-set s.processes (t.tti % 8) _ ∙ eight) lt
    (ndi_there (after_load s t.tti t.octets) t.tti) ∙ ndi_kept s t.tti _ p eight lt (ndi_there s t.tti)
closed_ndi (Resend rv) t s p eight lt = ndi_kept s t.tti _ p eight lt (ndi_there s t.tti)
closed_ndi Quiet t s p eight lt = refl

-- no visit of the uplink is free
seen_ndi : (what : Option Arrived) (unseen ndi : Bool) (p : SendProcess)
    → (visited (order_by what unseen ndi) p).ndi ≡ seen_by (order_by what unseen ndi) p.ndi
seen_ndi None unseen ndi p = refl
seen_ndi (Some what) true ndi p = refl
seen_ndi (Some what) false ndi p = refl

turned_ndi : (t : Turn) (what : Option Arrived) (unseen ndi : Bool) (s : Sending) (p : ℕ)
    → t.order ≡ order_by what unseen ndi → length s.processes ≡ 8 → p < 8
    → ndi_of (turned t s) p ≡ (if p == t.tti % 8 then seen_by t.order (ndi_of s t.tti) else ndi_of s p)
unfolding after_visit
turned_ndi t what unseen ndi s p is eight lt =
    let x = visited t.order (process_at s t.tti) in
    let seen : x.ndi ≡ seen_by t.order (ndi_of s t.tti) =
    ap (λ (o : Order). (visited o (process_at s t.tti)).ndi) is ∙ seen_ndi what unseen ndi (process_at s t.tti)
    ∙ ap (λ (o : Order). seen_by o (process_at s t.tti).ndi) (sym is)
    ∙ ap (λ (b : Bool). seen_by t.order b) (ndi_there s t.tti) in
    closed_ndi (visit_answer s t.tti t.order) t (after_visit s t.tti t.order) p
    (length-set s.processes (t.tti % 8) _ ∙ eight) lt ∙ ndi_put s t.tti x p eight lt
    ∙ ap (λ (b : Bool). if p == t.tti % 8 then b else ndi_of s p) seen

-- ---- both ends came so far by steps, and what is heard of the processes is right

pub record StandsUp (maximum : ℕ) (s : Sending) (r : Receiving) (h : ℕ → Heard) : Type 0 where
  pub sends : Sends Up maximum s h
  pub asked : List UpStep
  pub receiver_is : (up_run asked (up_start maximum)).receiver ≡ r
  pub grants_are : (p : ℕ) → p < 8 → grants maximum (h p).flights ≡ (up_run asked (up_start maximum)).past p
  pub last_is : (p : ℕ) → p < 8 → ndi_of s p ≡ last_seen maximum (h p).flights
  pub visits_are : (p : ℕ) → p < 8 → AreVisits maximum (h p).flights

pub up_as : (maximum : ℕ) (s : Sending) (r : Receiving) (h k : ℕ → Heard) → SameFlights h k → StandsUp maximum s r h
    → StandsUp maximum s r k
up_as maximum s r h k same a = record {
  sends = sends_as Up maximum s h k same a.sends;
  asked = a.asked;
  receiver_is = a.receiver_is;
  grants_are = λ p lt. ap (grants maximum) (same p) ∙ a.grants_are p lt;
  last_is = λ p lt. a.last_is p lt ∙ sym (ap (last_seen maximum) (same p));
  visits_are = λ p lt. subst (λ (x : List Flight). AreVisits maximum x) (sym (same p)) (a.visits_are p lt);
}

no_ndi : (maximum p : ℕ) → ndi_of (fresh maximum) p ≡ false
unfolding ndi_of fresh
no_ndi maximum p =
    let within : p % 8 < 8 = omega arith in
    ap (λ (x : SendProcess). x.ndi) (get_or-replicate 8 (p % 8) empty empty within)

pub up_begins : (maximum : ℕ) (h : ℕ → Heard) → ((p : ℕ) → (h p).flights ≡ [])
    → StandsUp maximum (fresh maximum) (fresh_receiver maximum) h
up_begins maximum h none = record {
  sends = sends_begins Up maximum h none;
  asked = [];
  receiver_is = refl;
  grants_are = λ p lt. ap (grants maximum) (none p);
  last_is = λ p lt. no_ndi maximum p ∙ sym (ap (last_seen maximum) (none p));
  visits_are = λ p lt. subst (λ (x : List Flight). AreVisits maximum x) (sym (none p)) tt;
}

pub up_maximum : (maximum : ℕ) (s : Sending) (r : Receiving) (h : ℕ → Heard) → StandsUp maximum s r h
    → r.maximum ≡ maximum
up_maximum maximum s r h a = sym (ap (λ (x : Receiving). x.maximum) a.receiver_is)
    ∙ up_run_maximum a.asked (up_start maximum) ∙ start_maximum maximum

grants_more : (b : Bool) (maximum : ℕ) (f : Flight) (past : List Flight) (ndi : Bool) (ts : List Told)
    → (b ≡ true → ndi ≡ next_ndi maximum ts) → grants maximum past ≡ ts
    → grants maximum (with_flight b f past) ≡ (if b then told_with f.came ndi ∷ ts else ts)
grants_more true maximum f past ndi ts is e = rw (e, is refl) (ap (λ (x : Told). x ∷ ts) (told_is maximum f.came ts))
grants_more false maximum f past ndi ts is e = e

last_more : (b : Bool) (maximum : ℕ) (f : Flight) (past : List Flight) (order' : Order) (own other : Bool)
    → (b ≡ true → order' ≡ order maximum f past) → (b ≡ true → own ≡ last_seen maximum past)
    → other ≡ last_seen maximum past
    → (if b then seen_by order' own else other) ≡ last_seen maximum (with_flight b f past)
last_more true maximum f past order' own other is e o = rw (is refl, e refl) refl
last_more false maximum f past order' own other is e o = o

visits_more : (b : Bool) (maximum : ℕ) (f : Flight) (past : List Flight)
    → (b ≡ true
    → IsVisit (order maximum f past) (is_some (held_by maximum (deeds_of past))) (last_seen maximum past) f.deed)
    → AreVisits maximum past → AreVisits maximum (with_flight b f past)
visits_more true maximum f past is e = (is refl, e)
visits_more false maximum f past is e = e

pub up_turn : (t grant : ℕ) (asleep : Bool) (o : Outcome) (s q : Sending) (r x : Receiving) (told : List Record)
    → TakesTurn t (up_ordered grant (missed asleep o) (grant_ndi r t)) s q told → x ≡ heard_up t (came_of told) r
    → IsUp t grant (missed asleep o) told → (maximum : ℕ) (h k : ℕ → Heard) → 1 ≤ maximum
    → ((p : ℕ) → (h p).lost ≡ is_miss o.fate)
    → ((p : ℕ) → Visits (p == t % 8) (flown (asleep || (h p).lost) told) (h p) (k p)) → StandsUp maximum s r h
    → StandsUp maximum q x k
up_turn t grant asleep o s q r x told turns heard' flies maximum h k some lost visits a =
    let ndi = grant_ndi r t in
    let order' = up_ordered grant (missed asleep o) ndi in
    let v = turn t order' turns.octets turns.good in
    let w = up_run a.asked (up_start maximum) in
    let what = came_of told in
    let next = up_run_then a.asked (visit_step t what ∷ []) (up_start maximum) in
    let by_awards : ndi ≡ next_ndi maximum (w.past (t % 8)) =
    sym (ap (λ (y : Receiving). grant_ndi y t) a.receiver_is) ∙ grant_is maximum a.asked t some in
    let is_order : order' ≡ order_by what (asleep || is_miss o.fate) ndi = ordered t grant asleep o ndi told flies in
    let order_is : (p : ℕ) → p < 8 → (p == t % 8) ≡ true
    → order' ≡ order maximum (flown (asleep || (h p).lost) told) (h p).flights =
    λ p lt e.
    is_order ∙ ap (λ (b : Bool). order_by what (asleep || b) ndi) (sym (lost p))
    ∙ ap (λ (b : Bool). order_by what (asleep || (h p).lost) b)
    (by_awards ∙ ap (λ (i : ℕ). next_ndi maximum (w.past i)) (sym (is_here p (t % 8) e))
    ∙ ap (next_ndi maximum) (sym (a.grants_are p lt))) in
    let last_there : (p : ℕ) → p < 8 → (p == t % 8) ≡ true → ndi_of s t ≡ last_seen maximum (h p).flights =
    λ p lt e. same_process s p t (is_here p (t % 8) e) ∙ a.last_is p lt in
    record {
      sends = sends_turn Up t order' s q told turns tt maximum h k (λ p. asleep || (h p).lost) visits a.sends;
      asked = a.asked ++ visit_step t what ∷ [];
      receiver_is = ap (λ (y : UpWorld). y.receiver) next ∙ step_receiver t what w
          ∙ ap (heard_up t what) a.receiver_is ∙ sym heard';
      grants_are = λ p lt.
          ap (grants maximum) (visits p).flights_are
          ∙ grants_more (p == t % 8) maximum (flown (asleep || (h p).lost) told) (h p).flights ndi (w.past p)
          (λ e. by_awards ∙ ap (λ (i : ℕ). next_ndi maximum (w.past i)) (sym (is_here p (t % 8) e)))
          (a.grants_are p lt)
          ∙ sym (step_past t what w p
          ∙ ap (λ (y : Receiving). if p == t % 8 then told_with what (grant_ndi y t) ∷ w.past p else w.past p)
          a.receiver_is)
          ∙ sym (ap (λ (y : UpWorld). y.past p) next);
      last_is = λ p lt.
          ap (λ (y : Sending). ndi_of y p) turns.sender_is
          ∙ turned_ndi v what (asleep || is_miss o.fate) ndi s p is_order a.sends.eight lt
          ∙ last_more (p == t % 8) maximum (flown (asleep || (h p).lost) told) (h p).flights order' (ndi_of s t)
          (ndi_of s p) (order_is p lt) (last_there p lt) (a.last_is p lt)
          ∙ sym (ap (last_seen maximum) (visits p).flights_are);
      visits_are = λ p lt.
          subst (λ (y : List Flight). AreVisits maximum y) (sym (visits p).flights_are)
          (visits_more (p == t % 8) maximum (flown (asleep || (h p).lost) told) (h p).flights
          (λ e.
          let d : deed v s ≡ deed_of told = turns.deed_is a.sends.eight in
          let here = is_here p (t % 8) e in
          let holding : is_some (process_at s t).held ≡ is_some (held_by maximum (deeds_of (h p).flights)) =
          held_there s t ∙ ap (λ (i : ℕ). is_some (held_of s i)) (sym here)
          ∙ ap (λ (y : Option (List ℕ)). is_some y) (holds maximum s h some a.sends p lt) in
          rw (sym (order_is p lt e), sym holding, sym (last_there p lt e), sym d, sym (ndi_there s t))
          (visits_by order' s t v (held_of (after_visit s t order') (t % 8))))
          (a.visits_are p lt));
    }
