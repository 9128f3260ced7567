-- The SDUs that a bearer takes are told by what it tells as they leave the queue.
use Rattle.std.proofs.Common.{◌≡◌, ℕ, zero, suc, ◌==◌, Bool, true, false, if◌then◌else◌, nat_lt, Option, Some, None}
use Rattle.std.proofs.Common.{Result, Ok, Err, List, [], ◌∷◌, ◌++◌, map, length, take, drop, append-nil, append_assoc}
use Rattle.std.proofs.Common.{slice_get, option_map, refl, ap, sym, subst, ◌∙◌, arith}
use Rattle.std.specs.List.{AllByRecursion, flat_map}
use Rattle.std.proofs.lemmas.Bool.Decides.{nat_tests}
use Rattle.std.proofs.lemmas.Grind.{flat_map-append}
use Rattle.std.proofs.lemmas.List.{length-append, length-map, drop_at}
use Rattle.bearer.specs.declared.flow.Flow.{Flow}
use Rattle.bearer.specs.declared.flow.Flow.TheVariants.{Am}
use Rattle.bearer.specs.Hearing.{ticked, ticking}
use Rattle.bearer.specs.Lives.{stopping}
use Rattle.bearer.specs.Acknowledged.Hearing.{settled_if, started_told}
use Rattle.bearer.specs.Acknowledged.State.{State, has_more, Work, work}
use Rattle.bearer.specs.Acknowledged.Timing.{Ticking, poll_told, timer_told, told_of, expiry, expires_if, counts}
use Rattle.bearer.specs.Acknowledged.Timing.{has_ended, ticks as ticked_by, ticked as am_ticked}
use Rattle.law_bearer.specs.AnyBearer.Calls.{Call, Submit, Take, Arrive, Expire, Tick, SetDiscard, Step, Calls, Restart}
use Rattle.law_bearer.specs.AnyBearer.Calls.{after, goes, ends}
use Rattle.law_bearer.specs.AnyBearer.Queue.{queue, news, drops, all_news, all_left}
use Rattle.law_bearer.specs.AnyBearer.Stream.{takes}
use Rattle.law_bearer.proofs.AnyBearer.Flows.{called as call_goes, restarts_as, taken_front}
use Rattle.law_bearer.proofs.AnyBearer.Parts.{pdcp_restarts}
use Rattle.law_bearer.proofs.AnyBearer.Sender.{Doings}
use Rattle.bearer_pdcp.specs.Discarding.{without_late, late_told, after_tick as after_discards, tick_told}
use Rattle.bearer_pdcp.specs.Ends.{Ends}
use Rattle.bearer_pdcp.specs.Lives.{restarted as restarted_pdcp, owing_report, report_of}
use Rattle.bearer_pdcp.specs.Taking.{report_told, next_told, taking_told, after_taking}
use Rattle.bearer_types.specs.declared.event.Event.TheVariants as events
use Rattle.eps_sec.specs.declared.Keys.{Keys}
use Rattle.l2_types.specs.declared.event.Clock.{Clock}
use Rattle.l2_types.specs.declared.event.Clock.TheVariants.{Poll, Reorder, Prohibit}
use Rattle.pdcp_tx_store.specs.Waiting.{Waits}
use Rattle.law_pdcp.specs.OneEnd.Lives.{run_pdcp_sender}
use Rattle.pdcp_pdu.specs.Pdus.{UserPdu, Sdu, Report}
use Rattle.pdcp_pdu.specs.Reading.{user_at}
use Rattle.pdcp_pdu.specs.declared.pdu.PdcpKind.{PdcpKind}
use Rattle.pdcp_pdu.specs.declared.pdu.PdcpKind.TheVariants.{Srb, Um, Am as AmKind}
use Rattle.pdcp_pdu.specs.declared.pdu.PdcpRefusal.{PdcpRefusal}
use Rattle.pdcp_sec.specs.Protection.{Protection}
use Rattle.pdcp_tx.specs.State.{State as Sending, Offer, offers, written, taking as pdcp_taking, is_overdue, after_late}
use Rattle.pdcp_tx.specs.State.{ticked as pdcp_ticked, next_from, restarted as restarted_sending}
use Rattle.rlc_am_tx.specs.Machine.{settles}
use Rattle.rlc_am_tx.specs.declared.answers.PollExpired.{PollExpired}
use Rattle.rlc_am_tx.specs.declared.answers.PollExpired.TheVariants as polls
use Rattle.rlc_pdu.specs.declared.Expired.{Expired}
use Rattle.rlc_pdu.specs.declared.Expired.TheVariants.{Done, NotRunning}
use Rattle.law_bearer.specs.AmBearer.Lives.{restarts}
use Rattle.law_deliver.proofs.AmDelivery.Gives.{takes_tell}
use Rattle.law_deliver.specs.AmFlow.Pair.{called}
use Rattle.law_deliver.proofs.AmFlow.Events.{OfHearing, none_arriving, none_expiring, none_ending}
use Rattle.law_deliver.proofs.AmFlow.Sending.{is_called}
use Rattle.promises.specs.Taken.{leaving_in, were_taken, chosen}
use Rattle.law_deliver.proofs.AmChannel.Bearers.{IsSteady, called_steady, restarts_steady}
use Rattle.law_deliver.proofs.AmChannel.Choosing.{yes, no, chosen_yes, chosen_no, marked, marks, Takes, WasReached}
use Rattle.law_deliver.proofs.AmChannel.Choosing.{reached_more, takes_told}
use Rattle.law_deliver.proofs.AmChannel.Ends.{marked_in, all_leaving, leaving_off}
use Rattle.law_deliver.proofs.AmChannel.Waiting.{ticks_pdcp}

abbrev nones : {A : Type 0} → List A → List (Option ℕ)
nones xs = map (λ x. None) xs

-- ---- what is told as RLC takes PDUs

report_none : (l lcid : ℕ) (x : Result UserPdu PdcpRefusal) → flat_map (leaving_in l) (report_told lcid x) ≡ []
report_none l lcid (Err refusal) = refl
report_none l lcid (Ok (Sdu sn text)) = refl
report_none l lcid (Ok (Report fms bitmap)) = refl

one_told : (l lcid : ℕ) (kind own : PdcpKind) (p : Protection) (count : Option ℕ) (text : List ℕ) → lcid ≡ l
    → flat_map (leaving_in l) (next_told lcid kind (Some (written own p count text))) ≡ marked count
one_told l lcid Srb own p None text same = refl
one_told l lcid (Um bits) own p None text same = report_none l lcid (user_at bits text)
one_told l lcid (AmKind bits) own p None text same = report_none l lcid (user_at bits text)
one_told l lcid kind own p (Some count) text same =
    let here : (lcid == l) ≡ true = grind (arith, nat_tests, same) in
    ap (λ (b : Bool). (if b then Some count ∷ [] else []) ++ []) here

first_told : (l : ℕ) (e : Ends) (o : Offer) (os : List Offer) → e.lcid ≡ l → offers e.tx ≡ o ∷ os
    → flat_map (leaving_in l) (taking_told e) ≡ marked o.count
unfolding taking_told pdcp_taking
first_told l e o os same q =
    ap (λ (xs : List Offer). flat_map (leaving_in l)
    (next_told e.lcid e.kind
    (option_map (λ o. written e.tx.kind e.tx.protection o.count o.text) (slice_get xs 0)))) q
    ∙ one_told l e.lcid e.kind e.tx.kind e.tx.protection o.count o.text same

pub stays_on : (l : ℕ) (d : Ends) → d.lcid ≡ l → (after_taking d).lcid ≡ l
unfolding after_taking
stays_on l d same = same

pub any_offers : (os : List Offer) → AllByRecursion (λ o. Unit {0}) os
any_offers [] = tt
any_offers (o ∷ os) = (tt, any_offers os)

takes_marked : (l : ℕ) (b : State) (share : ℕ) (held : Option ℕ) → b.pdcp.lcid ≡ l
    → marked_in l (Am b) (Take share held) ≡ marks (takes (Am b) (Take share held))
takes_marked l b share held same =
    subst (λ (n : ℕ). marked_in n (Am b) (Take share held) ≡ marks (takes (Am b) (Take share held))) same
    (takes_tell (leaving_in b.pdcp.lcid) (λ s o. marked o.count) (λ e. e.lcid ≡ b.pdcp.lcid) (λ o. Unit {0})
    (stays_on b.pdcp.lcid) (λ s t o h. refl)
    (λ e o os fits fine q. first_told b.pdcp.lcid e o os fits q) (λ lcid way sn. refl) (λ lcid clock. refl)
    (λ lcid why. refl)
    b share held refl (any_offers (offers b.pdcp.tx)))

-- ---- as a TTI begins

poll_none : (l lcid : ℕ) (x : PollExpired) → flat_map (leaving_in l) (told_of (poll_told lcid x)) ≡ []
poll_none l lcid polls.NotRunning = refl
poll_none l lcid polls.Done = refl
poll_none l lcid (polls.Limit sn) = refl

timer_none : (l lcid : ℕ) (clock : Clock) (x : Expired)
    → flat_map (leaving_in l) (told_of (timer_told lcid clock x)) ≡ []
timer_none l lcid clock NotRunning = refl
timer_none l lcid clock (Done true) = refl
timer_none l lcid clock (Done false) = refl

clock_none : (l : ℕ) (clock : Clock) (b : State) → flat_map (leaving_in l) (told_of (expiry b clock)) ≡ []
unfolding expiry
clock_none l Poll b = poll_none l b.pdcp.lcid _
clock_none l Reorder b = timer_none l b.pdcp.lcid Reorder _
clock_none l Prohibit b = timer_none l b.pdcp.lcid Prohibit _

ended_none : (l : ℕ) (ended : Bool) (clock : Clock) (t : Ticking)
    → flat_map (leaving_in l) (expires_if ended clock t).events ≡ flat_map (leaving_in l) t.events
ended_none l true clock t =
    flat_map-append (leaving_in l) t.events (told_of (expiry t.bearer clock))
    ∙ (ap (λ (xs : List (Option ℕ)). flat_map (leaving_in l) t.events ++ xs) (clock_none l clock t.bearer)
    ∙ append-nil (flat_map (leaving_in l) t.events))
ended_none l false clock t = refl

ticks_none : (l : ℕ) (clock : Clock) (t : Ticking)
    → flat_map (leaving_in l) (ticked_by clock t).events ≡ flat_map (leaving_in l) t.events
ticks_none l clock t = ended_none l (has_ended clock t.bearer) clock (record t { bearer = counts clock t.bearer })

-- so many are dropped
record Gone (l lcid : ℕ) (ws : List Waits) (s : Sending) : Type 0 where
  n : ℕ
  left : (without_late ws s).waiting ≡ drop n ws
  told : flat_map (leaving_in l) (late_told lcid ws s) ≡ nones (take n ws)

gone_by : (late : Bool) (l lcid : ℕ) (w : Waits) (ws : List Waits) (s : Sending) → is_overdue s ≡ late → lcid ≡ l
    → s.waiting ≡ w ∷ ws
    → (is_overdue s ≡ true → Gone l lcid ws (after_late s)) → Gone l lcid (w ∷ ws) s
gone_by true l lcid w ws s e same q rest =
    let here : (lcid == l) ≡ true = grind (arith, nat_tests, same) in
    let g = rest e in
    let more = late_told lcid ws (after_late s) in
    record {
      n = suc g.n;
      left = ap (λ (b : Bool). (if b then without_late ws (after_late s) else s).waiting) e ∙ g.left;
      told =
          ap (λ (b : Bool). flat_map (leaving_in l) (if b then events.Discard lcid (length w.sdu) ∷ more else [])) e
          ∙ (ap (λ (b : Bool). (if b then None ∷ [] else []) ++ flat_map (leaving_in l) more) here
          ∙ ap (λ (xs : List (Option ℕ)). None ∷ xs) g.told);
    }
gone_by false l lcid w ws s e same q rest = record {
  n = zero;
  left = ap (λ (b : Bool). (if b then without_late ws (after_late s) else s).waiting) e ∙ q;
  told =
      ap (λ (b : Bool). flat_map (leaving_in l)
      (if b then events.Discard lcid (length w.sdu) ∷ late_told lcid ws (after_late s) else [])) e;
}

pub late_waiting : (w : Waits) (ws : List Waits) (s : Sending) → is_overdue s ≡ true → s.waiting ≡ w ∷ ws
    → (after_late s).waiting ≡ ws
unfolding after_late
late_waiting w ws s e q = ap (λ (b : Bool). if b then drop 1 s.waiting else s.waiting) e ∙ ap (drop 1) q

gone : (l lcid : ℕ) (ws : List Waits) (s : Sending) → lcid ≡ l → s.waiting ≡ ws → Gone l lcid ws s
gone l lcid [] s same q = record { n = zero; left = q; told = refl }
gone l lcid (w ∷ ws) s same q =
    gone_by (is_overdue s) l lcid w ws s refl same q
    (λ e. gone l lcid ws (after_late s) same (late_waiting w ws s e q))

settled_marked : (settles' : Bool) (l : ℕ) (w : Work)
    → flat_map (leaving_in l) (settled_if settles' w).events ≡ flat_map (leaving_in l) w.events
settled_marked true l w =
    flat_map-append (leaving_in l) w.events (started_told w.pdcp.lcid (settles w.tx (has_more w.pdcp)))
    ∙ (ap (λ (xs : List (Option ℕ)). flat_map (leaving_in l) w.events ++ xs)
    (started (settles w.tx (has_more w.pdcp))) ∙ append-nil (flat_map (leaving_in l) w.events))
  where
    started : (b : Bool) → flat_map (leaving_in l) (started_told w.pdcp.lcid b) ≡ []
    started true = refl
    started false = refl
settled_marked false l w = refl

settled_pdcp : (settles' : Bool) (w : Work) → (settled_if settles' w).pdcp ≡ w.pdcp
settled_pdcp true w = refl
settled_pdcp false w = refl

front_and_rest : (n : ℕ) (ws : List Waits)
    → map (λ w. w.sdu) (take n ws) ++ map (λ w. w.sdu) (drop n ws) ≡ map (λ w. w.sdu) ws
front_and_rest zero ws = refl
front_and_rest (suc n) [] = refl
front_and_rest (suc n) (w ∷ ws) = ap (λ (xs : List (List ℕ)). w.sdu ∷ xs) (front_and_rest n ws)

nones_of : (ws : List Waits) → nones (map (λ w. w.sdu) ws) ≡ nones ws
nones_of [] = refl
nones_of (w ∷ ws) = ap (λ (xs : List (Option ℕ)). None ∷ xs) (nones_of ws)

ticks_marked : (l : ℕ) (b : State) → b.pdcp.lcid ≡ l → marked_in l (Am b) Tick ≡ nones (drops (Am b) Tick)
unfolding ticked ticking am_ticked after_discards tick_told
ticks_marked l b own =
    let t0 : Ticking = record { bearer = b; events = [] } in
    let t1 = ticked_by Poll t0 in
    let t2 = ticked_by Reorder t1 in
    let t3 = ticked_by Prohibit t2 in
    let d = t3.bearer.pdcp in
    let same : d ≡ b.pdcp = ticks_pdcp Prohibit t2 ∙ ticks_pdcp Reorder t1 ∙ ticks_pdcp Poll t0 in
    let told = late_told d.lcid d.tx.waiting (pdcp_ticked d.tx) in
    let settles' = nat_lt 0 (length told) in
    let w : Work = work (after_discards d) t3.bearer.tx (t3.events ++ told) in
    let g = gone l d.lcid d.tx.waiting (pdcp_ticked d.tx) (ap (λ (e : Ends). e.lcid) same ∙ own) refl in
    let silent : flat_map (leaving_in l) t3.events ≡ [] =
    ticks_none l Prohibit t2 ∙ ticks_none l Reorder t1 ∙ ticks_none l Poll t0 in
    let left : (am_ticked b).bearer.pdcp.tx.waiting ≡ drop g.n d.tx.waiting =
    ap (λ (e : Ends). e.tx.waiting) (settled_pdcp settles' w) ∙ g.left in
    let before : map (λ w. w.sdu) (take g.n d.tx.waiting) ++ queue (ends (after (Am b) Tick)) ≡ queue (ends (Am b)) =
    ap (λ (ws : List Waits). map (λ w. w.sdu) (take g.n d.tx.waiting) ++ map (λ w. w.sdu) ws) left
    ∙ (front_and_rest g.n d.tx.waiting ∙ ap (λ (e : Ends). map (λ w. w.sdu) e.tx.waiting) same) in
    settled_marked settles' l w
    ∙ (flat_map-append (leaving_in l) t3.events told
    ∙ (ap (λ (xs : List (Option ℕ)). xs ++ flat_map (leaving_in l) told) silent
    ∙ (g.told
    ∙ (sym (nones_of (take g.n d.tx.waiting))
    ∙ ap nones
    (sym (taken_front (map (λ w. w.sdu) (take g.n d.tx.waiting)) (queue (ends (after (Am b) Tick)))
    (queue (ends (Am b))) before))))))

-- ---- a call

hears_no_leaving : (l m : ℕ) → OfHearing (λ x. leaving_in l x ≡ []) m
hears_no_leaving l m = record {
  start = λ clock. refl;
  stop = λ clock. refl;
  expired = λ clock. refl;
  up = λ sdu. refl;
  fail = λ sn. refl;
  drop = λ why own. refl;
  integrity = λ found wanted. refl;
  bad_rlc = λ fault. refl;
  bad_pdcp = λ fault. refl;
}

nones_told : (ds : List (List ℕ)) (n : ℕ) (more : List (Option ℕ))
    → were_taken n (nones ds ++ more) ≡ no ds ++ were_taken n more
nones_told [] n more = refl
nones_told (d ∷ ds) n more = ap (λ (bs : List Bool). false ∷ bs) (nones_told ds n more)

-- of each that leaves, whether it is taken
abbrev pub all_flags : Flow → List Step → List Bool
all_flags f [] = []
all_flags f (Calls c ∷ xs) = (yes (news f c) ++ no (drops f c)) ++ all_flags (after f c) xs
all_flags f (Restart keys ∷ xs) = all_flags (goes f (Restart keys)) xs

chosen_both : (ns ds left rest : List (List ℕ)) (bs : List Bool)
    → chosen ((yes ns ++ no ds) ++ bs) (((ns ++ ds) ++ left) ++ rest) ≡ ns ++ chosen bs (left ++ rest)
chosen_both ns ds left rest bs =
    ap (λ (xs : List Bool). chosen xs (((ns ++ ds) ++ left) ++ rest)) (append_assoc (yes ns) (no ds) bs)
    ∙ (ap (chosen (yes ns ++ (no ds ++ bs))) (append_assoc (ns ++ ds) left rest ∙ append_assoc ns ds (left ++ rest))
    ∙ (chosen_yes ns (ds ++ (left ++ rest)) (no ds ++ bs)
    ∙ ap (λ (xs : List (List ℕ)). ns ++ xs) (chosen_no ds (left ++ rest) bs)))

pub flags_choose : (xs : List Step) (f : Flow) (rest : List (List ℕ))
    → chosen (all_flags f xs) (all_left f xs ++ rest) ≡ all_news f xs
flags_choose [] f rest = refl
flags_choose (Calls c ∷ xs) f rest =
    chosen_both (news f c) (drops f c) (all_left (after f c) xs) rest (all_flags (after f c) xs)
    ∙ ap (λ (ys : List (List ℕ)). news f c ++ ys) (flags_choose xs (after f c) rest)
flags_choose (Restart keys ∷ xs) f rest = flags_choose xs (goes f (Restart keys)) rest

pub flags_many : (xs : List Step) (f : Flow) → length (all_flags f xs) ≡ length (all_left f xs)
flags_many [] f = refl
flags_many (Calls c ∷ xs) f =
    let ns = news f c in
    let ds = drops f c in
    let a = length-append (yes ns ++ no ds) (all_flags (after f c) xs) in
    let b = length-append (yes ns) (no ds) in
    let d = length-append (ns ++ ds) (all_left (after f c) xs) in
    let e = length-append ns ds in
    let y = length-map ns (λ sdu. true) in
    let n = length-map ds (λ sdu. false) in
    let rest = flags_many xs (after f c) in
    omega (arith, a, b, d, e, y, n, rest)
flags_many (Restart keys ∷ xs) f = flags_many xs (goes f (Restart keys))

pub flags_leave : (xs : List Step) (f : Flow) (rest : List (List ℕ))
    → drop (length (all_flags f xs)) (all_left f xs ++ rest) ≡ rest
flags_leave xs f rest = drop_at (all_left f xs) rest (length (all_flags f xs)) (sym (flags_many xs f))

module _ (kind : PdcpKind) (p : Protection) (first : ℕ) where
  record CallLeaves (l : ℕ) (b : State) (c : Call) : Type 0 where
    reached : WasReached kind p first (called b c).pdcp.tx
    told : (more : List (Option ℕ))
        → were_taken b.pdcp.tx.next (marked_in l (Am b) c ++ more)
        ≡ (yes (news (Am b) c) ++ no (drops (Am b) c)) ++ were_taken (called b c).pdcp.tx.next more

  call_tells : (bits l : ℕ) (b : State) (c : Call) (n : ℕ) → IsSteady bits l b
      → Takes b.pdcp.tx (takes (Am b) c) (news (Am b) c) n
      → (more : List (Option ℕ)) → were_taken b.pdcp.tx.next (marked_in l (Am b) c ++ more)
      ≡ (yes (news (Am b) c) ++ no (drops (Am b) c)) ++ were_taken n more
  call_tells bits l b (Take share held) n h t more =
      ap (λ (xs : List (Option ℕ)). were_taken b.pdcp.tx.next (xs ++ more)) (takes_marked l b share held h.between.own)
      ∙ (t.told more ∙ ap (λ (bs : List Bool). bs ++ were_taken n more)
      (sym (append-nil (yes (news (Am b) (Take share held))))))
  call_tells bits l b Tick n h t more =
      let is = t.next in
      let same : b.pdcp.tx.next ≡ n = omega (arith, is) in
      ap (λ (xs : List (Option ℕ)). were_taken b.pdcp.tx.next (xs ++ more)) (ticks_marked l b h.between.own)
      ∙ (nones_told (drops (Am b) Tick) b.pdcp.tx.next more
      ∙ ap (λ (k : ℕ). no (drops (Am b) Tick) ++ were_taken k more) same)
  call_tells bits l b (Submit sdu) n h t more = let is = t.next in let same : b.pdcp.tx.next ≡ n = omega (arith, is) in
      ap (λ (k : ℕ). were_taken k more) same
  call_tells bits l b (Arrive pdu) n h t more =
      let is = t.next in
      let same : b.pdcp.tx.next ≡ n = omega (arith, is) in
      ap (λ (xs : List (Option ℕ)). were_taken b.pdcp.tx.next (xs ++ more))
      (none_arriving leaving_in leaving_off l (Am b) h.between (hears_no_leaving l l) pdu)
      ∙ ap (λ (k : ℕ). were_taken k more) same
  call_tells bits l b (Expire clock) n h t more =
      let is = t.next in
      let same : b.pdcp.tx.next ≡ n = omega (arith, is) in
      ap (λ (xs : List (Option ℕ)). were_taken b.pdcp.tx.next (xs ++ more))
      (none_expiring leaving_in leaving_off l (Am b) h.between (hears_no_leaving l l) clock)
      ∙ ap (λ (k : ℕ). were_taken k more) same
  call_tells bits l b (SetDiscard ttis) n h t more = let is = t.next in
      let same : b.pdcp.tx.next ≡ n = omega (arith, is) in ap (λ (k : ℕ). were_taken k more) same

  call_leaves : (bits l : ℕ) (b : State) (c : Call) → IsSteady bits l b → WasReached kind p first b.pdcp.tx
      → CallLeaves l b c
  call_leaves bits l b c h r =
      let x = call_goes (Am b) b.pdcp c refl in
      let some : Some x.next ≡ Some (called b c).pdcp = sym x.is ∙ ap ends (is_called b c) in
      let same : x.next ≡ (called b c).pdcp = cc in
      let m = x.passed.tx in
      let is : run_pdcp_sender m.steps b.pdcp.tx ≡ (called b c).pdcp.tx = sym m.left ∙ ap (λ (e : Ends). e.tx) same in
      let t = takes_told kind p first b.pdcp.tx m.steps m.life r in
      record {
        reached = subst (WasReached kind p first) is (reached_more kind p first b.pdcp.tx m.steps r);
        told = call_tells bits l b c (called b c).pdcp.tx.next h
            (subst (λ (s : Sending). Takes b.pdcp.tx (takes (Am b) c) (news (Am b) c) s.next) is
            (subst (λ (d : Doings). Takes b.pdcp.tx d.taken d.news (run_pdcp_sender m.steps b.pdcp.tx).next)
            (sym m.did) t));
      }

  -- ---- the next life

  owing_next : (o : Option (List ℕ)) (s : Sending) → (owing_report o s).next ≡ s.next
  owing_next None s = refl
  owing_next (Some report) s = refl

  restarted_next : (bits : ℕ) (e : Ends) (keys : Keys) → e.tx.kind ≡ AmKind bits
      → (restarted_pdcp e keys).tx.next ≡ e.tx.next
  unfolding restarted_pdcp restarted_sending
  restarted_next bits e keys k = owing_next (report_of e.kind e.rx) (restarted_sending e.tx keys)
      ∙ ap (λ (x : PdcpKind). next_from x e.tx.next) k

  pub record LifeLeaves (b : State) (keys : Keys) : Type 0 where
    pub reached : WasReached kind p first (restarts b keys).pdcp.tx
    pub next : (restarts b keys).pdcp.tx.next ≡ b.pdcp.tx.next

  pub life_leaves : (bits l : ℕ) (b : State) (keys : Keys) → IsSteady bits l b → WasReached kind p first b.pdcp.tx
      → LifeLeaves b keys
  life_leaves bits l b keys h r =
      let x = restarts_as (Am b) b.pdcp keys refl in
      let one = restarts_steady bits l b keys h in
      let some : Some (restarted_pdcp x.between keys) ≡ Some (restarts b keys).pdcp = sym x.after ∙ ap ends one.left in
      let same : restarted_pdcp x.between keys ≡ (restarts b keys).pdcp = cc in
      let m = (pdcp_restarts x.between keys).tx in
      let was : WasReached kind p first x.between.tx = subst (WasReached kind p first) (sym x.ended.tx) r in
      record {
        reached = subst (λ (e : Ends). WasReached kind p first e.tx) same
            (subst (WasReached kind p first) (sym m.left) (reached_more kind p first x.between.tx m.steps was));
        next =
            ap (λ (e : Ends). e.tx.next) (sym same)
            ∙ restarted_next bits x.between keys (ap (λ (s : Sending). s.kind) x.ended.tx ∙ h.data'.sending)
            ∙ ap (λ (s : Sending). s.next) x.ended.tx;
      }

  -- ---- through lives

  -- what is told says of each that leaves whether it is taken
  pub flags_told : (bits l : ℕ) (xs : List Step) (b : State) → IsSteady bits l b → WasReached kind p first b.pdcp.tx
      → were_taken b.pdcp.tx.next (all_leaving l (Am b) xs) ≡ all_flags (Am b) xs
  flags_told bits l [] b h r = refl
  flags_told bits l (Calls c ∷ xs) b h r =
      let is = is_called b c in
      let one = call_leaves bits l b c h r in
      let d = called b c in
      let here = yes (news (Am b) c) ++ no (drops (Am b) c) in
      ap (λ (f : Flow). were_taken b.pdcp.tx.next (marked_in l (Am b) c ++ all_leaving l f xs)) is
      ∙ (one.told (all_leaving l (Am d) xs)
      ∙ (ap (λ (bs : List Bool). here ++ bs) (flags_told bits l xs d (called_steady bits l b c h) one.reached)
      ∙ ap (λ (f : Flow). here ++ all_flags f xs) (sym is)))
  flags_told bits l (Restart keys ∷ xs) b h r =
      let one = life_leaves bits l b keys h r in
      let s = restarts_steady bits l b keys h in
      let d = restarts b keys in
      ap (λ (f : Flow). were_taken b.pdcp.tx.next (flat_map (leaving_in l) (stopping (Am b)) ++ all_leaving l f xs))
      s.left
      ∙ (ap (λ (ms : List (Option ℕ)). were_taken b.pdcp.tx.next (ms ++ all_leaving l (Am d) xs))
      (none_ending leaving_in leaving_off l (Am b) h.between (hears_no_leaving l l))
      ∙ (ap (λ (n : ℕ). were_taken n (all_leaving l (Am d) xs)) (sym one.next)
      ∙ (flags_told bits l xs d s.steady one.reached ∙ ap (λ (f : Flow). all_flags f xs) (sym s.left))))
