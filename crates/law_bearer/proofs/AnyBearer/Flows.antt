-- Steps of any bearer, as steps of PDCP's sender.
use Rattle.std.proofs.Common.{◌≡◌, ℕ, ◌+◌, ◌-◌, ◌≤◌, List, [], ◌∷◌, ◌++◌, take, drop, map, length, length-append}
use Rattle.std.proofs.Common.{Option, Some, None, subst, refl, ap, sym, ◌∙◌, arith}
use Rattle.std.proofs.Math.Seq.{take-append_seam}
use Rattle.std.proofs.lemmas.List.{append-nil, length-drop}
use Rattle.eps_sec.specs.declared.Keys.{Keys}
use Rattle.pdcp_tx.specs.State.{State as Sending, Offer, offers, submitted as pdcp_submitted}
use Rattle.bearer_pdcp.specs.Ends.{Ends}
use Rattle.bearer.specs.Unacknowledged.State.{State as UmState}
use Rattle.bearer_pdcp.specs.Discarding.{after_tick}
use Rattle.bearer_pdcp.specs.Lives.{restarted as restarted_pdcp}
use Rattle.bearer.specs.Unacknowledged.Taking.{after_taking as um_after}
use Rattle.bearer.specs.Unacknowledged.Hearing.{after_arrival as um_arrived, after_expiry as um_expired}
use Rattle.bearer.specs.Unacknowledged.Hearing.{after_ticking as um_ticked}
use Rattle.bearer.specs.Unacknowledged.Lives.{stopped as um_stopped}
use Rattle.bearer.specs.Acknowledged.State.{State as AmState}
use Rattle.bearer.specs.Acknowledged.Taking.{after_taking as am_after}
use Rattle.bearer.specs.Acknowledged.Hearing.{after_arrival as am_arrived}
use Rattle.bearer.specs.Acknowledged.Timing.{after_expiry as am_expired, ticked as am_ticked}
use Rattle.bearer.specs.Acknowledged.Lives.{stopped as am_stopped}
use Rattle.bearer.specs.declared.flow.Flow.{Flow}
use Rattle.bearer.specs.declared.flow.Flow.TheVariants.{Tm, Um, Am}
use Rattle.bearer.specs.Submitting.{submitted}
use Rattle.bearer.specs.Taking.{after as taken_from}
use Rattle.bearer.specs.Hearing.{arrived, expired, ticked, with_discard}
use Rattle.bearer.specs.Lives.{stopped, restarted}
use Rattle.law_bearer.specs.AnyBearer.Calls.{Call, Submit, Take, Arrive, Expire, Tick, SetDiscard, after, after_all}
use Rattle.law_bearer.specs.AnyBearer.Calls.{Step, Calls, Restart, goes, run_bearer, ends, ends_between}
use Rattle.law_bearer.specs.AnyBearer.Stream.{offers_of, takes, taken, all_taken, pdu_of, IsOffered, um_offered}
use Rattle.law_bearer.specs.AnyBearer.Stream.{am_offered}
use Rattle.law_bearer.specs.AnyBearer.Queue.{submits, off, news, drops, all_news, all_left, all_submitted}
use Rattle.law_bearer.proofs.AnyBearer.Sender.{Doings, nothing, also, Moved, submitting, submits_one, sets, took_all}
use Rattle.law_bearer.proofs.AnyBearer.Sender.{firsts, takings, takes_all, none_of, left_of, sdus, moved_queue, leaving}
use Rattle.law_bearer.proofs.AnyBearer.Parts.{Passed, PassedLives, rests, by_tx, passed_then, passed_lives, lives_then}
use Rattle.law_bearer.proofs.AnyBearer.Parts.{tick_moves, tick_lates, Ended, ended_restarts}
use Rattle.law_bearer.proofs.AnyBearer.Acknowledged as am
use Rattle.law_bearer.proofs.AnyBearer.Unacknowledged as um

-- ---- takes

pub taken_off : (n : ℕ) (os left : List Offer) → n ≤ length os → left ≡ drop n os
    → take (length os - length left) os ≡ take n os
taken_off n os left few q =
    let k : length left ≡ length os - n = ap length q ∙ length-drop n os in
    let m : length os - length left ≡ n = omega (arith, k, few) in
    ap (λ i. take i os) m

pub taken_front : (xs left before : List (List ℕ)) → xs ++ left ≡ before → off before left ≡ xs
taken_front xs left before q =
    let k : length before ≡ length xs + length left = ap length (sym q) ∙ length-append xs left in
    let m : length before - length left ≡ length xs = omega (arith, k) in
    ap (λ i. take i before) m ∙ ap (take (length xs)) (sym q) ∙ take-append_seam xs left

-- PDCP's sender gave so many PDUs
gave_so_many : (d e : Sending) (n : ℕ) → n ≤ length (offers d) → e ≡ took_all n d
    → take (length (offers d) - length (offers e)) (offers d) ≡ take n (offers d)
gave_so_many d e n few left = taken_off n (offers d) (offers e) few (ap offers left ∙ left_of n d)

took_so_many : (d e : Sending) (n : ℕ) → e ≡ took_all n d → off (sdus d.waiting) (sdus e.waiting) ≡ firsts n d
took_so_many d e n left =
    taken_front (firsts n d) (sdus e.waiting) (sdus d.waiting)
    (ap (λ (t : Sending). firsts n d ++ sdus t.waiting) left
    ∙ moved_queue d (took_all n d) (takings n d) (takes_all n d) ∙ append-nil (sdus d.waiting))

am_left : (b : AmState) (share : ℕ) (held : Option ℕ)
    → (am_after b share held).pdcp.tx ≡ took_all (am.all_fed_in b share held).n b.pdcp.tx
am_left b share held = ap (λ (e : Ends). e.tx) (am.take_left b share held) ∙ (am.all_fed_in b share held).left

um_left : (b : UmState) (share : ℕ) (held : Option ℕ)
    → (um_after b share held).pdcp.tx ≡ took_all (um.all_fed_in b share held).n b.pdcp.tx
um_left b share held = ap (λ (e : Ends). e.tx) (um.take_left b share held) ∙ (um.all_fed_in b share held).left

am_takes : (b : AmState) (share : ℕ) (held : Option ℕ)
    → takes (Am b) (Take share held) ≡ take (am.all_fed_in b share held).n (offers b.pdcp.tx)
unfolding taken_from
am_takes b share held =
    let f = am.all_fed_in b share held in
    gave_so_many b.pdcp.tx (am_after b share held).pdcp.tx f.n f.few (am_left b share held)

um_takes : (b : UmState) (share : ℕ) (held : Option ℕ)
    → takes (Um b) (Take share held) ≡ take (um.all_fed_in b share held).n (offers b.pdcp.tx)
unfolding taken_from
um_takes b share held =
    let f = um.all_fed_in b share held in
    gave_so_many b.pdcp.tx (um_after b share held).pdcp.tx f.n f.few (um_left b share held)

am_news : (b : AmState) (share : ℕ) (held : Option ℕ)
    → news (Am b) (Take share held) ≡ firsts (am.all_fed_in b share held).n b.pdcp.tx
unfolding taken_from
am_news b share held =
    took_so_many b.pdcp.tx (am_after b share held).pdcp.tx (am.all_fed_in b share held).n (am_left b share held)

um_news : (b : UmState) (share : ℕ) (held : Option ℕ)
    → news (Um b) (Take share held) ≡ firsts (um.all_fed_in b share held).n b.pdcp.tx
unfolding taken_from
um_news b share held =
    took_so_many b.pdcp.tx (um_after b share held).pdcp.tx (um.all_fed_in b share held).n (um_left b share held)

pub is_offered : (f : Flow) (share : ℕ) (held : Option ℕ) → IsOffered f share held
is_offered (Tm b) share held = tt
is_offered (Um b) share held = (um.all_fed_in b share held).offered
    ∙ ap (λ l. um_offered (map (pdu_of b.pdcp.tx) l) b.tx) (sym (um_takes b share held))
is_offered (Am b) share held = (am.all_fed_in b share held).offered
    ∙ ap (λ l. am_offered (map (pdu_of b.pdcp.tx) l) b.tx) (sym (am_takes b share held))

-- ---- what a call does

abbrev pub doing : Flow → Call → Doings
doing f c = record { taken = takes f c; news = news f c; submitted = submits c; left = news f c ++ drops f c }

abbrev pub life_doings : Flow → List Call → Doings
life_doings f [] = nothing
life_doings f (c ∷ cs) = also (doing f c) (life_doings (after f c) cs)

abbrev pub step_doing : Flow → Step → Doings
step_doing f (Calls c) = doing f c
step_doing f (Restart keys) = nothing

abbrev pub all_doings : Flow → List Step → Doings
all_doings f [] = nothing
all_doings f (x ∷ xs) = also (step_doing f x) (all_doings (goes f x) xs)

same_takings : (os : List Offer) (ns : List (List ℕ)) (n : ℕ) (s : Sending) → os ≡ take n (offers s) → ns ≡ firsts n s
    → record { taken = os; news = ns; submitted = []; left = ns ++ [] } ≡ takings n s
same_takings os ns n s p q = let r = append-nil (firsts n s) in rw (p, q, r) refl

-- ---- PDCP behind a call

pub record Called (d : Ends) (g : Flow) (a : Doings) : Type 0 where
  pub next : Ends
  pub is : ends g ≡ Some next
  pub passed : Passed d next a

-- the discard timers count behind what else a TTI brings
tick_passed : (d m e : Ends) → Passed d m nothing → e ≡ after_tick m
    → Passed d e (leaving (off (sdus d.tx.waiting) (sdus e.tx.waiting)))
tick_passed d m e h q =
    let all : Passed d (after_tick m) (leaving (tick_lates m)) =
    passed_then d m (after_tick m) nothing (leaving (tick_lates m)) h (tick_moves m) in
    let front : tick_lates m ++ sdus (after_tick m).tx.waiting ≡ sdus d.tx.waiting =
    moved_queue d.tx (after_tick m).tx (leaving (tick_lates m)) all.tx ∙ append-nil (sdus d.tx.waiting) in
    let same : off (sdus d.tx.waiting) (sdus (after_tick m).tx.waiting) ≡ tick_lates m =
    taken_front (tick_lates m) (sdus (after_tick m).tx.waiting) (sdus d.tx.waiting) front in
    subst (λ (x : Ends). Passed d x (leaving (off (sdus d.tx.waiting) (sdus x.tx.waiting)))) (sym q)
    (subst (λ l. Passed d (after_tick m) (leaving l)) (sym same) all)

-- so many PDUs were taken
take_passed : (d e : Ends) (os : List Offer) (ns : List (List ℕ)) (n : ℕ) → os ≡ take n (offers d.tx)
    → ns ≡ firsts n d.tx → e.tx ≡ took_all n d.tx → e.kind ≡ d.kind → e.rx.kind ≡ d.rx.kind
    → Passed d e (record { taken = os; news = ns; submitted = []; left = ns ++ [] })
take_passed d e os ns n gave took left kind rx = record {
  tx =
      subst (Moved d.tx e.tx) (sym (same_takings os ns n d.tx gave took))
      (subst (λ (t : Sending). Moved d.tx t (takings n d.tx)) (sym left) (takes_all n d.tx));
  kind = kind;
  rx = rx;
}

am_called : (b : AmState) (c : Call) → Called b.pdcp (after (Am b) c) (doing (Am b) c)
unfolding submitted taken_from arrived expired ticked with_discard
am_called b (Submit sdu) = record {
  next = record b.pdcp { tx = pdcp_submitted b.pdcp.tx sdu };
  is = refl;
  passed = by_tx b.pdcp (pdcp_submitted b.pdcp.tx sdu) (submitting sdu) (submits_one b.pdcp.tx sdu);
}
am_called b (Take share held) =
    let f = am.all_fed_in b share held in
    let left = am.take_left b share held in
    record {
      next = (am_after b share held).pdcp;
      is = refl;
      passed =
          take_passed b.pdcp (am_after b share held).pdcp (takes (Am b) (Take share held))
          (news (Am b) (Take share held)) f.n (am_takes b share held) (am_news b share held) (am_left b share held)
          (ap (λ (e : Ends). e.kind) left ∙ f.kind) (ap (λ (e : Ends). e.rx.kind) left ∙ f.rx);
    }
am_called b (Arrive pdu) = record { next = (am_arrived b pdu).pdcp; is = refl; passed = am.arrival_moves b pdu }
am_called b (Expire clock) = record {
  next = (am_expired b clock).pdcp;
  is = refl;
  passed = subst (λ (e : Ends). Passed b.pdcp e nothing) (sym (am.expiry_same b clock)) (rests b.pdcp);
}
am_called b Tick = record {
  next = (am_ticked b).bearer.pdcp;
  is = refl;
  passed = tick_passed b.pdcp b.pdcp (am_ticked b).bearer.pdcp (rests b.pdcp) (am.ticked_is b);
}
am_called b (SetDiscard ttis) =
    record {
      next = record b.pdcp { tx = record b.pdcp.tx { discard = Some ttis } };
      is = refl;
      passed = by_tx b.pdcp (record b.pdcp.tx { discard = Some ttis }) nothing (sets b.pdcp.tx ttis);
    }

um_called : (b : UmState) (c : Call) → Called b.pdcp (after (Um b) c) (doing (Um b) c)
unfolding submitted taken_from arrived expired ticked with_discard
um_called b (Submit sdu) = record {
  next = record b.pdcp { tx = pdcp_submitted b.pdcp.tx sdu };
  is = refl;
  passed = by_tx b.pdcp (pdcp_submitted b.pdcp.tx sdu) (submitting sdu) (submits_one b.pdcp.tx sdu);
}
um_called b (Take share held) =
    let f = um.all_fed_in b share held in
    let left = um.take_left b share held in
    record {
      next = (um_after b share held).pdcp;
      is = refl;
      passed =
          take_passed b.pdcp (um_after b share held).pdcp (takes (Um b) (Take share held))
          (news (Um b) (Take share held)) f.n (um_takes b share held) (um_news b share held) (um_left b share held)
          (ap (λ (e : Ends). e.kind) left ∙ f.kind) (ap (λ (e : Ends). e.rx.kind) left ∙ f.rx);
    }
um_called b (Arrive pdu) = record { next = (um_arrived b pdu).pdcp; is = refl; passed = um.arrival_moves b pdu }
um_called b (Expire clock) = record { next = (um_expired b clock).pdcp; is = refl; passed = um.expiry_moves b clock }
um_called b Tick = record {
  next = (um_ticked b).pdcp;
  is = refl;
  passed = tick_passed b.pdcp (um.timed b).pdcp (um_ticked b).pdcp (um.before_discards b) (um.ticked_is b);
}
um_called b (SetDiscard ttis) =
    record {
      next = record b.pdcp { tx = record b.pdcp.tx { discard = Some ttis } };
      is = refl;
      passed = by_tx b.pdcp (record b.pdcp.tx { discard = Some ttis }) nothing (sets b.pdcp.tx ttis);
    }

pub called : (f : Flow) (e : Ends) (c : Call) → ends f ≡ Some e → Called e (after f c) (doing f c)
called (Tm b) e c q = let no : None ≡ Some e = q in cc
called (Um b) e c q = let one : b.pdcp ≡ e = cc in
    subst (λ (d : Ends). Called d (after (Um b) c) (doing (Um b) c)) one (um_called b c)
called (Am b) e c q = let one : b.pdcp ≡ e = cc in
    subst (λ (d : Ends). Called d (after (Am b) c) (doing (Am b) c)) one (am_called b c)

-- ---- behind all calls of a life

pub life : (f : Flow) (e : Ends) (cs : List Call) → ends f ≡ Some e → Called e (after_all f cs) (life_doings f cs)
life f e [] q = record { next = e; is = q; passed = rests e }
life f e (c ∷ cs) q =
    let one = called f e c q in
    let more = life (after f c) one.next cs one.is in
    record {
      next = more.next;
      is = more.is;
      passed = passed_then e one.next more.next (doing f c) (life_doings (after f c) cs) one.passed more.passed;
    }

-- ---- the next life

-- between the lives, and in the next one
pub record Restarted (d : Ends) (m : Option Ends) (g : Flow) (keys : Keys) : Type 0 where
  pub between : Ends
  pub is : m ≡ Some between
  pub ended : Ended d between
  pub after : ends g ≡ Some (restarted_pdcp between keys)

um_restarts : (b : UmState) (keys : Keys)
    → Restarted b.pdcp (ends_between (stopped (Um b))) (goes (Um b) (Restart keys)) keys
unfolding stopped restarted
um_restarts b keys = record {
  between = (um_stopped b).pdcp;
  is = refl;
  ended = um.stop_ends b;
  after = ap (λ (e : Ends). Some e) (um.restart_is b keys);
}

am_restarts : (b : AmState) (keys : Keys)
    → Restarted b.pdcp (ends_between (stopped (Am b))) (goes (Am b) (Restart keys)) keys
unfolding stopped restarted
am_restarts b keys = record {
  between = (am_stopped b).pdcp;
  is = refl;
  ended = am.stop_ends b;
  after = ap (λ (e : Ends). Some e) (am.restart_is b keys);
}

pub restarts_as : (f : Flow) (e : Ends) (keys : Keys) → ends f ≡ Some e
    → Restarted e (ends_between (stopped f)) (goes f (Restart keys)) keys
restarts_as (Tm b) e keys q = let no : None ≡ Some e = q in cc
restarts_as (Um b) e keys q = let one : b.pdcp ≡ e = cc in
    subst (λ (d : Ends). Restarted d (ends_between (stopped (Um b))) (goes (Um b) (Restart keys)) keys) one
    (um_restarts b keys)
restarts_as (Am b) e keys q = let one : b.pdcp ≡ e = cc in
    subst (λ (d : Ends). Restarted d (ends_between (stopped (Am b))) (goes (Am b) (Restart keys)) keys) one
    (am_restarts b keys)

-- ---- through lives

pub run_more : (f : Flow) (xs ys : List Step) → run_bearer (xs ++ ys) f ≡ run_bearer ys (run_bearer xs f)
run_more f [] ys = refl
run_more f (x ∷ xs) ys = run_more (goes f x) xs ys

pub record Lives (d : Ends) (g : Flow) (a : Doings) : Type 0 where
  pub next : Ends
  pub is : ends g ≡ Some next
  pub passed : PassedLives d next a

lives_on : (f : Flow) (e : Ends) (x : Step) → ends f ≡ Some e → Lives e (goes f x) (step_doing f x)
lives_on f e (Calls c) q = let one = called f e c q in
    record { next = one.next; is = one.is; passed = passed_lives e one.next (doing f c) one.passed }
lives_on f e (Restart keys) q =
    let one = restarts_as f e keys q in
    record {
      next = restarted_pdcp one.between keys;
      is = one.after;
      passed = ended_restarts e one.between keys one.ended;
    }

pub history : (f : Flow) (e : Ends) (xs : List Step) → ends f ≡ Some e → Lives e (run_bearer xs f) (all_doings f xs)
history f e [] q = record { next = e; is = q; passed = passed_lives e e nothing (rests e) }
history f e (x ∷ xs) q =
    let one = lives_on f e x q in
    let more = history (goes f x) one.next xs one.is in
    record {
      next = more.next;
      is = more.is;
      passed = lives_then e one.next more.next (step_doing f x) (all_doings (goes f x) xs) one.passed more.passed;
    }

-- ---- a transparent bearer has no PDCP

pub none_after : (f : Flow) (c : Call) → ends f ≡ None → (ends (after f c) ≡ None) × (takes f c ≡ [])
unfolding submitted taken_from arrived expired ticked with_discard
none_after (Tm b) (Submit sdu) q = (refl, refl)
none_after (Tm b) (Take share held) q = (
  refl,
  none_of (length (offers_of (ends (Tm b))) - length (offers_of (ends (after (Tm b) (Take share held))))) []
      refl,
)
none_after (Tm b) (Arrive pdu) q = (refl, refl)
none_after (Tm b) (Expire clock) q = (refl, refl)
none_after (Tm b) Tick q = (refl, refl)
none_after (Tm b) (SetDiscard ttis) q = (refl, refl)
none_after (Um b) c q = let no : Some b.pdcp ≡ None = q in cc
none_after (Am b) c q = let no : Some b.pdcp ≡ None = q in cc

none_step : (f : Flow) (x : Step) → ends f ≡ None → ends (goes f x) ≡ None
unfolding stopped restarted
none_step f (Calls c) q = (none_after f c q).0
none_step (Tm b) (Restart keys) q = refl
none_step (Um b) (Restart keys) q = let no : Some b.pdcp ≡ None = q in cc
none_step (Am b) (Restart keys) q = let no : Some b.pdcp ≡ None = q in cc

pub none_steps : (f : Flow) (xs : List Step) → ends f ≡ None → ends (run_bearer xs f) ≡ None
none_steps f [] q = q
none_steps f (x ∷ xs) q = none_steps (goes f x) xs (none_step f x q)

-- ---- parts of what is done

pub life_taken : (f : Flow) (cs : List Call) → (life_doings f cs).taken ≡ taken f cs
life_taken f [] = refl
life_taken f (c ∷ cs) = ap (λ l. takes f c ++ l) (life_taken (after f c) cs)

pub lives_taken : (f : Flow) (xs : List Step) → (all_doings f xs).taken ≡ all_taken f xs
lives_taken f [] = refl
lives_taken f (Calls c ∷ xs) = ap (λ l. takes f c ++ l) (lives_taken (after f c) xs)
lives_taken f (Restart keys ∷ xs) = lives_taken (goes f (Restart keys)) xs

pub lives_news : (f : Flow) (xs : List Step) → (all_doings f xs).news ≡ all_news f xs
lives_news f [] = refl
lives_news f (Calls c ∷ xs) = ap (λ l. news f c ++ l) (lives_news (after f c) xs)
lives_news f (Restart keys ∷ xs) = lives_news (goes f (Restart keys)) xs

pub lives_left : (f : Flow) (xs : List Step) → (all_doings f xs).left ≡ all_left f xs
lives_left f [] = refl
lives_left f (Calls c ∷ xs) = ap (λ l. (news f c ++ drops f c) ++ l) (lives_left (after f c) xs)
lives_left f (Restart keys ∷ xs) = lives_left (goes f (Restart keys)) xs

pub lives_submitted : (f : Flow) (xs : List Step) → (all_doings f xs).submitted ≡ all_submitted xs
lives_submitted f [] = refl
lives_submitted f (Calls c ∷ xs) = ap (λ l. submits c ++ l) (lives_submitted (after f c) xs)
lives_submitted f (Restart keys ∷ xs) = lives_submitted (goes f (Restart keys)) xs
