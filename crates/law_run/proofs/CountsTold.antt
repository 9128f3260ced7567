-- An acknowledged data bearer tells of each SDU that RLC takes with its COUNT, which has 32 bits: it refuses an SDU
-- where none is left for it.
use Rattle.std.proofs.Common.{◌≡◌, ◌⊎◌, inl, inr, ◌≤◌, ◌<◌, ℕ, zero, suc, ◌+◌, ◌-◌, ◌^◌, ◌==◌, Bool, true, false}
use Rattle.std.proofs.Common.{cond, not, if◌then◌else◌, Option, Some, None, Result, Ok, Err, List, [], ◌∷◌, ◌++◌}
use Rattle.std.proofs.Common.{length, map, take, drop, unwrap_or, refl, ap, sym, subst, ◌∙◌, arith}
use Rattle.std.proofs.lemmas.Bool.Decides.{nat_tests}
use Rattle.std.specs.List.{AllByRecursion, filter}
use Rattle.std.specs.Prelude.{IfSome}
use Rattle.air_link.specs.Link.{end_of}
use Rattle.air_record.specs.declared.line.Line.TheVariants as lines
use Rattle.air_record.specs.declared.record.Record.{Record}
use Rattle.air_record.specs.declared.record.Record.TheVariants as records
use Rattle.air_text.specs.Groups.{Group}
use Rattle.bearer.specs.Bearer.{flow_of}
use Rattle.bearer.specs.declared.flow.Flow.{Flow}
use Rattle.bearer.specs.declared.flow.Flow.TheVariants.{Tm, Um, Am}
use Rattle.bearer.specs.Taking.{told as flow_told}
use Rattle.bearer.specs.Acknowledged.State.{State, Work, work}
use Rattle.bearer.specs.Acknowledged.Taking.{writes_status, status_told, has_prohibit, fed}
use Rattle.bearer.specs.Acknowledged.Taking.{feeds, data_told, data_size, feeding, answer_of, taking as am_taking}
use Rattle.bearer_pdcp.specs.Ends.{Ends}
use Rattle.bearer_pdcp.specs.Taking.{report_told, own_report_told, next_told, taking_told, after_taking}
use Rattle.bearer_types.specs.declared.config.BearerConfig.{BearerConfig}
use Rattle.bearer_types.specs.declared.event.Event.{Event}
use Rattle.bearer_types.specs.declared.event.Event.TheVariants as events
use Rattle.eps_sec.specs.declared.Keys.{Keys}
use Rattle.harq.specs.declared.sender.Visit.{Visit}
use Rattle.harq.specs.declared.sender.Visit.TheVariants.{New, Resend, Silent}
use Rattle.l2_node.specs.Building.{visit, visited, building}
use Rattle.l2_node.specs.End.{End}
use Rattle.l2_node.specs.Hearing.{expiry}
use Rattle.l2_num.specs.Ascending.{AreBetween}
use Rattle.l2_types.specs.declared.channel.Kind.TheVariants as kinds
use Rattle.l2_types.specs.declared.side.Side.{Side}
use Rattle.l2_types.specs.declared.side.Side.TheVariants.{Nb, Ue}
use Rattle.pdcp_pdu.specs.Pdus.{UserPdu, Sdu, Report}
use Rattle.pdcp_pdu.specs.Reading.{user_at}
use Rattle.pdcp_pdu.specs.declared.PdcpKind.{PdcpKind}
use Rattle.pdcp_pdu.specs.declared.PdcpKind.TheVariants as pdcp
use Rattle.pdcp_pdu.specs.declared.PdcpRefusal.{PdcpRefusal}
use Rattle.pdcp_tx.specs.Runs.{IsOrdered}
use Rattle.pdcp_tx.specs.State.{State as Sending, Offer, offers, owed_offers, again_offer, new_offers, written, taking}
use Rattle.pdcp_tx_store.specs.Waiting.{Waits}
use Rattle.pdcp_tx_store.specs.declared.given.Sent.{Sent}
use Rattle.rlc_am_tx.specs.Need.{hungry}
use Rattle.rlc_pdu.specs.declared.outcome.Taken.{Taken}
use Rattle.rlc_pdu.specs.declared.outcome.Taken.TheVariants.{Piece, Idle, Small, Shut, Held, Stopped}
use Rattle.law_bearer.proofs.AnyBearer.Flows.{run_more}
use Rattle.law_bearer.proofs.AnyBearer.Parts.{pdcp_took}
use Rattle.law_bearer.proofs.AnyBearer.Sender.{left_of}
use Rattle.law_bearer.proofs.AnyBearer.Streams.{Arrived, arrives}
use Rattle.law_bearer.specs.AnyBearer.Calls.{Call as BearerCall, Take as Takes, Step, Calls, Restart, ends}
use Rattle.law_bearer.specs.AnyBearer.Calls.{after as after_bearer, goes as bearer_goes, reached as bearer_reached}
use Rattle.law_deliver.proofs.AmFlow.Ups.{tells_of}
use Rattle.law_deliver.specs.AmFlow.Channels.{only, takes_of, GoesOnInLife}
use Rattle.law_deliver.specs.AmFlow.Ups.{tells_over}
use Rattle.law_node.proofs.CountsFit.{CountsFit}
use Rattle.law_node.proofs.Pdcp.{OfPdcp}
use Rattle.law_node.proofs.Silences.{writes_nothing}
use Rattle.law_node.specs.Bearers.{adds, AddNone}
use Rattle.law_node.specs.Calls.{Turn, Call, Tick, Visits, Receive, Expire, Move, IsGiven, AreGiven, after, run_end}
use Rattle.law_node.specs.Holding.{flow}
use Rattle.law_node.specs.Telling.{told_of, told_over}
use Rattle.law_node.specs.Writing.{TellNone}
use Rattle.promises.specs.Bearers.{IsCounted, TellsCount, CountsAreTold}
use Rattle.promises.specs.Events.{is_of_loop, is_of_writing, is_on, told_on}
use Rattle.promises.specs.Records.{event_of, events_of, is_of_building}
use Rattle.law_run.specs.Order.{IsRight, KeepsOrder}
use Rattle.law_run.proofs.Counts.{goes}
use Rattle.law_run.proofs.BearerWalk.{adds_one, comes, behind_all}
use Rattle.law_run.proofs.DrainTracks.{Tracks, IsOfKind, lives_keep, calls_track, begun_tracks}
use Rattle.law_run.proofs.DrainCounts.{IsAcceptedBy}
use Rattle.law_run.proofs.Failed.{call_kind}
use Rattle.law_run.proofs.Past.{link_behind}
use Rattle.law_run.proofs.Texts.{none_added}

-- ---- what RLC may take

abbrev Fits : Offer → Type 0
Fits o = IfSome o.count (λ count. count < 2 ^ 32)

abbrev AllFit : List Offer → Type 0
AllFit os = AllByRecursion Fits os

fit_both : (xs ys : List Offer) → AllFit xs → AllFit ys → AllFit (xs ++ ys)
fit_both [] ys p q = q
fit_both (x ∷ xs) ys p q = (p.0, fit_both xs ys p.1 q)

owed_fit : (owed : Option (List ℕ)) → AllFit (owed_offers owed)
owed_fit None = tt
owed_fit (Some report) = (tt, tt)

low_end : (low : ℕ) (counts : List ℕ) (end : ℕ) → AreBetween low counts end → low ≤ end
low_end low [] end h = h
low_end low (n ∷ ns) end h = omega (arith, h.0, low_end (n + 1) ns end h.1)

again_fit : (low end : ℕ) (sent : List Sent) → AreBetween low (map (λ x. x.count) sent) end → end ≤ 2 ^ 32
    → AllFit (map again_offer sent)
again_fit low end [] h most = tt
again_fit low end (x ∷ xs) h most = (
  omega (arith, low_end (x.count + 1) (map (λ y. y.count) xs) end h.1, most),
  again_fit (x.count + 1) end xs h.1 most,
)

new_fit : (n : ℕ) (waiting : List Waits) → n + length waiting ≤ 2 ^ 32 → AllFit (new_offers n waiting)
new_fit n [] most = tt
new_fit n (w ∷ ws) most = (omega (arith, most), new_fit (n + 1) ws (omega (arith, most)))

take_short : (k : ℕ) (ws : List Waits) → length (take k ws) ≤ length ws
take_short zero ws = omega arith
take_short (suc k) [] = omega arith
take_short (suc k) (w ∷ ws) = omega (arith, take_short k ws)

-- COUNTs of SDUs that are given again lie below the next, and those of the ones that wait follow it
offers_fit : (s : Sending) → s.next + length s.waiting ≤ 2 ^ 32 → IsOrdered s → AllFit (offers s)
unfolding offers
offers_fit s most ordered =
    let news = new_offers s.next (take (s.bound - s.next) s.waiting) in
    let again = map again_offer s.again in
    fit_both (owed_offers s.owed ++ again) news
    (fit_both (owed_offers s.owed) again (owed_fit s.owed) (again_fit 0 s.next s.again ordered (omega (arith, most))))
    (new_fit s.next (take (s.bound - s.next) s.waiting)
    (omega (arith, most, take_short (s.bound - s.next) s.waiting)))

other_lcid : (n m : ℕ) → (n == m) ≡ false → n ≡ m → ⊥
other_lcid n m apart same = grind (arith, nat_tests)

-- ---- what an acknowledged bearer tells as it writes

module _ (l : ℕ) where
  abbrev AreCounted : List Event → Type 0
  AreCounted told = AllByRecursion (IsCounted l) told

  counted_both : (xs ys : List Event) → AreCounted xs → AreCounted ys → AreCounted (xs ++ ys)
  counted_both [] ys p q = q
  counted_both (x ∷ xs) ys p q = (p.0, counted_both xs ys p.1 q)

  counted_if : (b : Bool) (xs : List Event) → AreCounted xs → AreCounted (if b then xs else [])
  counted_if true xs p = p
  counted_if false xs p = tt

  report_counted : (lcid : ℕ) (r : Result UserPdu PdcpRefusal) → AreCounted (report_told lcid r)
  report_counted lcid (Err refusal) = tt
  report_counted lcid (Ok (Sdu sn octets)) = tt
  report_counted lcid (Ok (Report fms bitmap)) = (tt, tt)

  own_report_counted : (lcid : ℕ) (kind : PdcpKind) (pdu : List ℕ) → AreCounted (own_report_told lcid kind pdu)
  own_report_counted lcid pdcp.Srb pdu = tt
  own_report_counted lcid (pdcp.Um bits) pdu = report_counted lcid (user_at bits pdu)
  own_report_counted lcid (pdcp.Am bits) pdu = report_counted lcid (user_at bits pdu)

  one_counted : (lcid : ℕ) (kind : PdcpKind) (p : _) (k : PdcpKind) (count : Option ℕ) (text : List ℕ)
      → IfSome count (λ n. n < 2 ^ 32) → AreCounted (next_told lcid kind (Some (written k p count text)))
  one_counted lcid kind p k None text fits = own_report_counted lcid kind text
  one_counted lcid kind p k (Some count) text fits = (λ same. fits, tt)

  first_counted : (e : Ends) (o : Offer) (os : List Offer) → offers e.tx ≡ o ∷ os → Fits o
      → AreCounted (taking_told e)
  unfolding taking_told taking
  first_counted e o os q fits = rw q (one_counted e.lcid e.kind e.tx.protection e.tx.kind o.count o.text fits)

  -- behind a take
  offers_behind : (e : Ends) (o : Offer) (os : List Offer) → offers e.tx ≡ o ∷ os → offers (after_taking e).tx ≡ os
  offers_behind e o os q = ap offers (pdcp_took e) ∙ left_of 1 e.tx ∙ ap (drop 1) q

  feeds_if : (b : Bool) (w v : Work) → AreCounted w.events → AreCounted v.events
      → AreCounted (if b then v else w).events
  feeds_if true w v p q = q
  feeds_if false w v p q = p

  feeds_counted : (os : List Offer) (size : ℕ) (held : Option ℕ) (w : Work) → offers w.pdcp.tx ≡ os → AllFit os
      → AreCounted w.events → AreCounted (feeds os size held w).events
  feeds_counted [] size held w q fit p = p
  feeds_counted (o ∷ os) size held w q fit p =
      feeds_if (hungry w.tx size held) w (feeds os size held (fed w)) p
      (feeds_counted os size held (fed w) (offers_behind w.pdcp o os q) fit.1
      (counted_both w.events (taking_told w.pdcp) p (first_counted w.pdcp o os q fit.0)))

  data_counted : (lcid : ℕ) (t : Taken) → AreCounted (data_told lcid t)
  data_counted lcid (Piece number first polled octets) = (tt, counted_if polled _ (tt, tt))
  data_counted lcid Idle = tt
  data_counted lcid Small = (tt, tt)
  data_counted lcid Shut = (tt, tt)
  data_counted lcid Held = (tt, tt)
  data_counted lcid Stopped = (tt, tt)

  status_counted : (b : State) (share : ℕ) → AreCounted (status_told b.pdcp.lcid (has_prohibit b) b.rx share)
  status_counted b share =
      counted_if (writes_status b.rx share) _ (tt, counted_if (has_prohibit b) _ (tt, tt))

  am_counted : (b : State) (share : ℕ) (held : Option ℕ) → AllFit (offers b.pdcp.tx)
      → AreCounted (am_taking b share held)
  unfolding am_taking
  am_counted b share held fit =
      let room = data_size b share in
      let w = feeding b share held in
      let t = answer_of w room held in
      let begin = work b.pdcp b.tx (status_told b.pdcp.lcid (has_prohibit b) b.rx share) in
      counted_both w.events (data_told w.pdcp.lcid t)
      (feeds_counted (offers b.pdcp.tx) room held begin refl fit (status_counted b share))
      (data_counted w.pdcp.lcid t)

  -- ---- what is told of other channels, and where none writes

  counted_off : (e : Event) → is_on l e ≡ false → IsCounted l e
  counted_off (events.Take lcid None len) off = λ same. other_lcid lcid l off same
  counted_off (events.Take lcid (Some count) len) off = λ same. absurd (other_lcid lcid l off same)
  counted_off e off = tt

  on_by : (b : Bool) (e : Event) (told : List Event) → is_on l e ≡ b
      → AreCounted (cond b (e ∷ told_on l told) (told_on l told)) → (AreCounted (told_on l told) → AreCounted told)
      → AreCounted (e ∷ told)
  on_by true e told is p rest = (p.0, rest p.1)
  on_by false e told is p rest = (counted_off e is, rest p)

  all_counted : (told : List Event) → AreCounted (told_on l told) → AreCounted told
  all_counted [] p = tt
  all_counted (e ∷ told) p = on_by (is_on l e) e told refl p (all_counted told)

  unwritten : (e : Event) → is_of_writing e ≡ false → IsCounted l e
  unwritten (events.Take lcid count len) free = absurd cc
  unwritten e free = tt

  none_by : (b : Bool) (e : Event) (told : List Event) → is_of_writing e ≡ b
      → cond b (e ∷ filter is_of_writing told) (filter is_of_writing told) ≡ [] → (TellNone told → AreCounted told)
      → AreCounted (e ∷ told)
  none_by true e told is none rest = absurd cc
  none_by false e told is none rest = (unwritten e is, rest none)

  none_counted : (told : List Event) → TellNone told → AreCounted told
  none_counted [] none = tt
  none_counted (e ∷ told) none = none_by (is_of_writing e) e told refl none (none_counted told)

  expiry_counted : (r : Option (List Event)) → IfSome r TellNone → AreCounted (unwrap_or r [])
  expiry_counted None none = tt
  expiry_counted (Some told) none = none_counted told none

-- ---- a bearer as it has come by its steps

record Came (c : BearerConfig) (keys : Keys) (side : Side) (f : Flow) : Type 0 where
  steps : List Step
  is : f ≡ bearer_reached c keys side steps

ordered_by : (f : Flow) (e : Ends) → ends f ≡ Some e → (ends f ≡ None) ⊎ Arrived f → IsOrdered e.tx
ordered_by f e is (inl none) = let no : None ≡ Some e = sym none ∙ is in absurd cc
ordered_by f e is (inr a) =
    let some : Some a.now ≡ Some e = sym a.is ∙ is in
    let same : a.now ≡ e = cc in
    subst (λ (x : Ends). IsOrdered x.tx) same a.ordered

module _ (c : BearerConfig) (keys : Keys) (side : Side) where
  step_came : (f : Flow) (x : Step) → Came c keys side f → Came c keys side (bearer_goes f x)
  step_came f x h = record {
    steps = h.steps ++ x ∷ [];
    is = ap (λ (g : Flow). bearer_goes g x) h.is ∙ sym (run_more (flow_of c.kind c keys side) h.steps (x ∷ []));
  }

  call_came : (f : Flow) (x : BearerCall) → IsAcceptedBy f x → Came c keys side f → Came c keys side (after_bearer f x)
  call_came f x given h = step_came f (Calls x) h

  restart_came : (f : Flow) (keys' : Keys) → Came c keys side f → Came c keys side (bearer_goes f (Restart keys'))
  restart_came f keys' h = step_came f (Restart keys') h

  came_ordered : (b : State) → Came c keys side (Am b) → IsOrdered b.pdcp.tx
  came_ordered b h =
      ordered_by (bearer_reached c keys side h.steps) b.pdcp (ap ends (sym h.is)) (arrives c keys side h.steps)

  flow_counted : (l : ℕ) (f : Flow) (share : ℕ) (held : Option ℕ) → IsOfKind kinds.Am f → OfPdcp CountsFit f
      → Came c keys side f → AreCounted l (flow_told l f share held)
  unfolding flow_told
  flow_counted l (Tm b) share held kind counts came = absurd kind
  flow_counted l (Um b) share held kind counts came = absurd kind
  flow_counted l (Am b) share held kind counts came =
      am_counted l b share held (offers_fit b.pdcp.tx counts (came_ordered b came))

  -- ---- at an end, in its calls

  record IsSender (l : ℕ) (e : End) : Type 0 where
    tracks : Tracks kinds.Am side l e
    came : Came c keys side (flow l e)

  one_take : (b : Bool) (l : ℕ) (f : Flow) (share : ℕ) (held : Option ℕ) → AreCounted l (flow_told l f share held)
      → AreCounted l (tells_over l f (only b (Takes share held)))
  one_take true l f share held p = counted_both l (flow_told l f share held) [] p tt
  one_take false l f share held p = tt

  takes_counted : (v : Visit) (t : Turn) (u : End) (l : ℕ) (f : Flow)
      → ((share : ℕ) (held : Option ℕ) → AreCounted l (flow_told l f share held))
      → AreCounted l (tells_over l f (takes_of v t u l))
  takes_counted New t u l f p = one_take _ l f _ _ (p _ _)
  takes_counted (Resend rv) t u l f p = tt
  takes_counted Silent t u l f p = tt

  call_told : (l : ℕ) (e : End) (x : Call) → IsSender l e → AreCounted l (told_of e x)
  call_told l e (Visits t) s =
      let life : GoesOnInLife l (Visits t) = record { adds_none = refl; moves_none = refl } in
      let told_is = (tells_of side l e (Visits t) s.tracks.stands life).told_is in
      all_counted l (building t.tti t.grant t.order e)
      (subst (AreCounted l) (sym told_is)
      (takes_counted (visit t.tti t.order e) t (visited t.tti t.order e) l (flow l e)
      (λ share held. flow_counted l (flow l e) share held s.tracks.of_kind s.tracks.counts s.came)))
  call_told l e (Receive block) s = none_counted l _ ((writes_nothing e).receiving block)
  call_told l e Tick s = none_counted l _ (writes_nothing e).ticking
  call_told l e (Expire lcid clock) s =
      expiry_counted l (expiry lcid clock e) ((writes_nothing e).expiring lcid clock)
  call_told l e (Move keys') s = none_counted l _ (writes_nothing e).moving
  call_told l e x s = tt

  call_goes : (l : ℕ) (e : End) (x : Call) → IsGiven x → adds l x ≡ false → IsSender l e → IsSender l (after e x)
  call_goes l e x given none s = record {
    tracks = calls_track kinds.Am side l (x ∷ []) e (given, tt) (none, tt) s.tracks;
    came = lives_keep (Came c keys side) call_came restart_came side l e x (call_kind l x none) s.tracks.stands s.came;
  }

  calls_go : (l : ℕ) (xs : List Call) (e : End) → AreGiven xs → AddNone l xs → IsSender l e → IsSender l (run_end xs e)
  calls_go l [] e given none s = s
  calls_go l (x ∷ xs) e given none s =
      calls_go l xs (after e x) given.1 none.1 (call_goes l e x given.0 none.0 s)

  calls_told : (l : ℕ) (xs : List Call) (e : End) → AreGiven xs → AddNone l xs → IsSender l e
      → AreCounted l (told_over xs e)
  calls_told l [] e given none s = tt
  calls_told l (x ∷ xs) e given none s =
      counted_both l (told_of e x) (told_over xs (after e x)) (call_told l e x s)
      (calls_told l xs (after e x) given.1 none.1 (call_goes l e x given.0 none.0 s))

-- ---- the records of both ends

event_counted : (b : Bool) (l : ℕ) (e : Event) → not (is_of_loop e) ≡ b → AreCounted l (if b then e ∷ [] else [])
    → IsCounted l e
event_counted true l e is p = p.0
event_counted false l (events.Take lcid count len) is p = absurd cc
event_counted false l e is p = tt

counted_parts : (l : ℕ) (xs ys : List Event) → AreCounted l (xs ++ ys) → AreCounted l xs × AreCounted l ys
counted_parts l [] ys p = (tt, p)
counted_parts l (x ∷ xs) ys p = let more = counted_parts l xs ys p.1 in ((p.0, more.0), more.1)

record_counted : (l : ℕ) (one : Record) → AreCounted l (event_of Nb one) → AreCounted l (event_of Ue one)
    → TellsCount l one
record_counted l (records.Of Nb e) nb ue = event_counted (not (is_of_loop e)) l e refl nb
record_counted l (records.Of Ue e) nb ue = event_counted (not (is_of_loop e)) l e refl ue
record_counted l one nb ue = tt

records_counted : (l : ℕ) (told : List Record) → AreCounted l (events_of Nb told) → AreCounted l (events_of Ue told)
    → AllByRecursion (TellsCount l) told
records_counted l [] nb ue = tt
records_counted l (one ∷ told) nb ue =
    let down = counted_parts l (event_of Nb one) (events_of Nb told) nb in
    let up = counted_parts l (event_of Ue one) (events_of Ue told) ue in
    (record_counted l one down.0 up.0, records_counted l told down.1 up.1)

-- a line in which a bearer comes tells of no new block
unbuilt_counted : (l : ℕ) (one : Record) → is_of_building one ≡ false → TellsCount l one
unbuilt_counted l (records.Of side e) free = unwritten l e free
unbuilt_counted l one free = tt

unbuilt_by : (b : Bool) (l : ℕ) (one : Record) (told : List Record) → is_of_building one ≡ b
    → cond b (one ∷ filter is_of_building told) (filter is_of_building told) ≡ []
    → (filter is_of_building told ≡ [] → AllByRecursion (TellsCount l) told)
    → AllByRecursion (TellsCount l) (one ∷ told)
unbuilt_by true l one told is none rest = absurd cc
unbuilt_by false l one told is none rest = (unbuilt_counted l one is, rest none)

none_built : (l : ℕ) (told : List Record) → filter is_of_building told ≡ [] → AllByRecursion (TellsCount l) told
none_built l [] none = tt
none_built l (one ∷ told) none = unbuilt_by (is_of_building one) l one told refl none (none_built l told)

-- ---- behind groups

-- the newest tells so too
abbrev Newest : ℕ → List Group → Type 0
Newest l [] = Unit {0}
Newest l (g ∷ past) = AllByRecursion (TellsCount l) g.events

record IsSending (l : ℕ) (c : BearerConfig) (past : List Group) : Type 0 where
  keys : Keys
  senders : (side : Side) → IsSender c keys side l (end_of side (link_behind past))
  tells : Newest l past

line_sends : (l : ℕ) (c : BearerConfig) (past : List Group) (g : Group) → IsRight past g → KeepsOrder past
    → adds_one l g.line ≡ false → IsSending l c past → IsSending l c (g ∷ past)
line_sends l c past g right order other s =
    let none : (side : Side) → AddNone l (goes side past g right order).by.calls =
    λ side. none_added side l past g right order other in
    let told : (side : Side) → AreCounted l (events_of side g.events) = λ side.
    let k = goes side past g right order in
    subst (AreCounted l) (sym k.by.told_is)
    (calls_told c s.keys side l k.by.calls (end_of side (link_behind past)) k.by.given (none side) (s.senders side)) in
    record {
      keys = s.keys;
      senders = λ side.
          let k = goes side past g right order in
          subst (IsSender c s.keys side l) (sym k.by.end_is)
          (calls_go c s.keys side l k.by.calls (end_of side (link_behind past)) k.by.given (none side)
          (s.senders side));
      tells = records_counted l g.events (told Nb) (told Ue);
    }

begins_sending : (past : List Group) (g : Group) (c : BearerConfig) (options : _)
    → IsRight past (record g { line = lines.Bearer c options }) → KeepsOrder past → c.kind ≡ kinds.Am
    → IsSending c.channel.lcid c (record g { line = lines.Bearer c options } ∷ past)
begins_sending past g c options right order same =
    let l = c.channel.lcid in
    let x = comes past g c options right order in
    let left = link_behind (record g { line = lines.Bearer c options } ∷ past) in
    record {
      keys = x.keys;
      senders = λ side. record {
        tracks = subst (λ kind. Tracks kind side l (end_of side left)) same
            (begun_tracks side l c x.keys (end_of side left) x.first (x.begun side));
        came = record { steps = []; is = (x.begun side).bearer_is };
      };
      tells = none_built l g.events right.blocks;
    }

pub counts_are_told : (past : List Group) → KeepsOrder past → CountsAreTold past
counts_are_told [] order = tt
counts_are_told (g ∷ past) (right, order) = (
  λ l c e kind.
      (behind_all IsSending (λ d. d.kind ≡ kinds.Am) begins_sending
      (λ n d groups h at keeps other before s. line_sends n d groups h at keeps other s) l (g ∷ past) c (right, order)
      kind e).tells,
  counts_are_told past order,
)
