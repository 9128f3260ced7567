-- An end whose bearer of a channel, if there is one, isn't acknowledged tells nothing on the channel that only an
-- acknowledged one tells, in any call.
use Rattle.std.proofs.Common.{◌≡◌, ℕ, zero, suc, ◌+◌, ◌==◌, Bool, true, false, Option, Some, None, Result, Ok, Err}
use Rattle.std.proofs.Common.{List, [], ◌∷◌, get_or, insert, set, arith, refl, sym, ◌∙◌}
use Rattle.std.proofs.lemmas.Bool.Decides.{nat_tests}
use Rattle.std.specs.List.{AllByRecursion}
use Rattle.bearer.specs.Bearer.{Of, of, Life, alive, begun}
use Rattle.bearer.specs.Hearing.{arriving, ticking, with_discard}
use Rattle.bearer.specs.Lives.{stopping}
use Rattle.bearer_types.specs.Sides.{heard_by}
use Rattle.bearer_types.specs.declared.event.Event.TheVariants.{BadMac, Drop}
use Rattle.eps_sec.specs.declared.Keys.{Keys}
use Rattle.harq.specs.declared.sender.Visit.{Visit}
use Rattle.harq.specs.declared.sender.Visit.TheVariants.{New, Resend, Silent}
use Rattle.harq.specs.Sending.{Sending}
use Rattle.l2_bits.specs.declared.fault.SubmitRefusal.{SubmitRefusal}
use Rattle.l2_node.specs.Building.{visited, loaded, built_by, built, visit}
use Rattle.l2_node.specs.End.{End, with_bearer, reset, with_visits}
use Rattle.l2_node.specs.Finding.{Numbers, find, has, place, bearer_at, lowest}
use Rattle.l2_node.specs.Hearing.{Heard, heard, hears_sdu, hears, hears_all, heard_items, received, ticks_at}
use Rattle.l2_node.specs.Hearing.{ticks_over, ticked, bearer_of, expiry, expired}
use Rattle.l2_node.specs.Moving.{all_stopped, all_stopping, all_restarted, left_cell, leaving, joined}
use Rattle.l2_node.specs.Submitting.{refusal, submitted, discarding}
use Rattle.l2_node.specs.Writing.{shares, Work, work, nothing_written, writes, all_write, written}
use Rattle.l2_types.specs.declared.channel.Channel.{Channel}
use Rattle.l2_types.specs.declared.event.Lost.TheVariants.{NoBearer}
use Rattle.mac_pdu.specs.declared.fault.MacRefusal.{MacRefusal}
use Rattle.mac_pdu.specs.Items.{MacItem, front, element, sdu, padding}
use Rattle.mac_pdu.specs.Reading.{reading}
use Rattle.journal_flows.specs.Accounts.{is_acked_kind}
use Rattle.law_bearer.specs.AnyBearer.Calls.{Call as BearerCall, Submit as Submits, Take as Takes, Arrive as Arrives}
use Rattle.law_bearer.specs.AnyBearer.Calls.{Expire as Expires, Tick as Ticks, SetDiscard as SetsDiscard}
use Rattle.law_bearer.specs.AnyBearer.Calls.{after as called}
use Rattle.law_bearer.proofs.AnyBearer.Between.{IsBetween}
use Rattle.law_node.specs.Calls.{Turn, Call, SetVisits, SetReports, Add, Submit, SetDiscard, Tick, TickBuckets, Visits}
use Rattle.law_node.specs.Calls.{Grants, Granted, Assigned, Pass, Receive, Expire, Move, answered, after_submit, after}
use Rattle.law_node.specs.Calls.{run_end}
use Rattle.law_node.specs.Telling.{told_of, told_over}
use Rattle.law_node.proofs.Built.{building_all}
use Rattle.law_node.proofs.Keeping.{AllAre, set_are}
use Rattle.law_node.proofs.Ordered.{between_kept}
use Rattle.law_deliver.proofs.AmFlow.Places.{has_behind}
use Rattle.law_sound.proofs.UnackedBearers.{is_acked_event, IsStill, still_call, still_move, begins_still, AreUnacked}
use Rattle.law_sound.proofs.UnackedBearers.{both_unacked, arriving_unacked, ticking_unacked, expiry_unacked}
use Rattle.law_sound.proofs.UnackedBearers.{stopping_unacked}

has_first : (l : ℕ) (b : Of Life) (bs : List (Of Life)) → (b.channel.lcid == l) ≡ true → has l (b ∷ bs) ≡ true
has_first l b bs e = rw e (grind (arith, nat_tests))

module _ (l : ℕ) where
  -- ---- its bearers

  abbrev pub AreStill : List (Of Life) → Type 0
  AreStill bs = AllAre (IsStill l) bs

  at_still : (bs : List (Of Life)) (at : ℕ) → AreStill bs
      → IsStill l (bearer_at bs at).channel.lcid (bearer_at bs at).state.flow
  at_still [] at a =
      record { between = between_kept.idle; apart = λ e. let no : false ≡ true = e in absurd cc }
  at_still (b ∷ bs) zero a = a.0
  at_still (b ∷ bs) (suc at) a = at_still bs at a.1

  -- the one at a place is called
  set_still : (bs : List (Of Life)) (at : ℕ) (c : BearerCall) → AreStill bs
      → AreStill (set bs at (of (bearer_at bs at).channel (alive (called (bearer_at bs at).state.flow c))))
  set_still bs at c a =
      let b = bearer_at bs at in
      set_are (IsStill l) bs at (of b.channel (alive (called b.state.flow c))) a
      (still_call l b.channel.lcid b.state.flow c (at_still bs at a))

  insert_still : (bs : List (Of Life)) (at : ℕ) (x : Of Life) → AreStill bs
      → IsStill l x.channel.lcid x.state.flow → AreStill (insert bs at x)
  insert_still bs zero x a i = (i, a)
  insert_still [] (suc at) x a i = (i, tt)
  insert_still (b ∷ bs) (suc at) x a i = (a.0, insert_still bs at x a.1 i)

  moved_still : (bs : List (Of Life)) (keys : Keys) → AreStill bs → AreStill (all_restarted (all_stopped bs) keys)
  moved_still [] keys a = tt
  moved_still (b ∷ bs) keys a = (still_move l b.channel.lcid b.state.flow keys a.0, moved_still bs keys a.1)

  -- none is of the channel
  apart_by : (here : Bool) (b : Of Life) (bs : List (Of Life)) → (b.channel.lcid == l) ≡ here
      → has l (b ∷ bs) ≡ false → AllAre IsBetween (b ∷ bs)
      → (has l bs ≡ false → AllAre IsBetween bs → AreStill bs) → AreStill (b ∷ bs)
  apart_by true b bs e none a rest = let no : true ≡ false = sym (has_first l b bs e) ∙ none in absurd cc
  apart_by false b bs e none a rest =
      (record { between = a.0; apart = λ acked. e }, rest (sym (has_behind l b bs e) ∙ none) a.1)

  pub absent_still : (bs : List (Of Life)) → has l bs ≡ false → AllAre IsBetween bs → AreStill bs
  absent_still [] none a = tt
  absent_still (b ∷ bs) none a = apart_by (b.channel.lcid == l) b bs refl none a (absent_still bs)

  -- ---- a block comes, a TTI begins

  record IsCalm (h : Heard) : Type 0 where
    bearers : AreStill h.bearers
    told : AreUnacked l h.events

  sdu_calm : (t : Bool) (lcid : ℕ) (pdu : List ℕ) (h : Heard) → has lcid h.bearers ≡ t → IsCalm h
      → IsCalm (hears_sdu lcid pdu h)
  sdu_calm true lcid pdu h e k =
      let at = find lcid h.bearers in
      let b = bearer_at h.bearers at in
      rw e (record {
        bearers = set_still h.bearers at (Arrives pdu) k.bearers;
        told =
            both_unacked l h.events (arriving b.channel.lcid b.state.flow pdu) k.told
            (arriving_unacked l b.channel.lcid b.state.flow pdu (at_still h.bearers at k.bearers));
      })
  sdu_calm false lcid pdu h e k =
      rw e (record { bearers = k.bearers; told = both_unacked l h.events (Drop lcid NoBearer ∷ []) k.told (refl, tt) })

  item_calm : (i : MacItem) (h : Heard) → IsCalm h → IsCalm (hears i h)
  item_calm front h k = k
  item_calm (element c) h k = k
  item_calm (sdu lcid octets) h k = sdu_calm (has lcid h.bearers) lcid octets h refl k
  item_calm (padding n) h k = k

  items_calm : (is : List MacItem) (h : Heard) → IsCalm h → IsCalm (hears_all is h)
  items_calm [] h k = k
  items_calm (i ∷ is) h k = items_calm is (hears i h) (item_calm i h k)

  block_calm : (r : Result (List MacItem) MacRefusal) (h : Heard) → IsCalm h → IsCalm (heard_items r h)
  block_calm (Ok items) h k = items_calm items h k
  block_calm (Err refusal) h k =
      record { bearers = k.bearers; told = both_unacked l h.events (BadMac refusal ∷ []) k.told (refl, tt) }

  ticks_calm : (bs : List (Of Life)) (at : ℕ) (h : Heard) → IsCalm h → IsCalm (ticks_over bs at h)
  ticks_calm [] at h k = k
  ticks_calm (b ∷ bs) at h k =
      let x = bearer_at h.bearers at in
      ticks_calm bs (at + 1) (ticks_at at h) (record {
        bearers = set_still h.bearers at Ticks k.bearers;
        told =
            both_unacked l h.events (ticking x.state.flow) k.told
            (ticking_unacked l x.channel.lcid x.state.flow (at_still h.bearers at k.bearers));
      })

  begins_calm : (e : End) → AreStill e.bearers → IsCalm (heard e.bearers [])
  begins_calm e a = record { bearers = a; told = tt }

  received_calm : (e : End) (block : List ℕ) → AreStill e.bearers → IsCalm (received e block)
  unfolding received
  received_calm e block a = block_calm (reading (heard_by e.side) block) (heard e.bearers []) (begins_calm e a)

  ticked_calm : (e : End) → AreStill e.bearers → IsCalm (ticked e)
  unfolding ticked
  ticked_calm e a = ticks_calm e.bearers 0 (heard e.bearers []) (begins_calm e a)

  -- ---- a block is built

  writes_still : (t : Bool) (lcid share : ℕ) (held : Option ℕ) (w : Work) → has lcid w.bearers ≡ t
      → AreStill w.bearers → AreStill (writes lcid share held w).bearers
  writes_still true lcid share held w e a = rw e (set_still w.bearers (find lcid w.bearers) (Takes share held) a)
  writes_still false lcid share held w e a = rw e a

  all_write_still : (s : Sending) (numbers : Numbers) (amounts : List ℕ) (cs : List Channel) (w : Work)
      → AreStill w.bearers → AreStill (all_write s numbers amounts cs w).bearers
  all_write_still s numbers amounts [] w a = a
  all_write_still s numbers amounts (c ∷ cs) w a =
      let share = get_or amounts c.lcid 0 in
      let held = lowest s numbers c.lcid in
      all_write_still s numbers amounts cs (writes c.lcid share held w)
      (writes_still (has c.lcid w.bearers) c.lcid share held w refl a)

  turn_still : (v : Visit) (t : Turn) (e : End) → AreStill e.bearers
      → AreStill (answered v t (built_by v t.tti t.grant e)).bearers
  unfolding loaded written
  turn_still New t e a =
      all_write_still e.sender e.numbers (shares e t.grant) e.buckets.channels
      (work e.bearers (nothing_written e.side)) a
  turn_still (Resend rv) t e a = a
  turn_still Silent t e a = a

  visit_still : (t : Turn) (e : End) → AreStill e.bearers
      → AreStill (answered (visit t.tti t.order e) t (built t.tti t.grant t.order e)).bearers
  unfolding built visited
  visit_still t e a = turn_still (visit t.tti t.order e) t (visited t.tti t.order e) a

  -- ---- any call

  -- a bearer of the channel that is added isn't acknowledged
  abbrev pub AddsUnacked : Call → Type 0
  AddsUnacked (Add config keys) = (config.channel.lcid == l) ≡ true → is_acked_kind config.kind ≡ false
  AddsUnacked call = Unit {0}

  submit_still : (r : Option SubmitRefusal) (lcid : ℕ) (octets : List ℕ) (e : End) → AreStill e.bearers
      → AreStill (after_submit r lcid octets e).bearers
  unfolding submitted
  submit_still None lcid octets e a = set_still e.bearers (find lcid e.bearers) (Submits octets) a
  submit_still (Some why) lcid octets e a = a

  discarding_still : (lcid ttis : ℕ) (e : End) → AreStill e.bearers → AreStill (discarding lcid ttis e).bearers
  unfolding discarding
  discarding_still lcid ttis e a =
      let b = bearer_of lcid e in
      set_are (IsStill l) e.bearers (find lcid e.bearers)
      (of b.channel (record b.state { flow = with_discard b.state.flow ttis })) a
      (still_call l b.channel.lcid b.state.flow (SetsDiscard ttis) (at_still e.bearers (find lcid e.bearers) a))

  call_still : (e : End) (c : Call) → AddsUnacked c → AreStill e.bearers → AreStill (after e c).bearers
  unfolding with_visits with_bearer begun expired joined left_cell reset
  call_still e (SetVisits maximum) u a = a
  call_still e (SetReports reports) u a = a
  call_still e (Add config keys) u a =
      insert_still e.bearers (place config.channel.lcid e.bearers) (begun config keys e.side) a
      (begins_still l config keys e.side u)
  call_still e (Submit lcid octets) u a = submit_still (refusal lcid octets e) lcid octets e a
  call_still e (SetDiscard lcid ttis) u a = discarding_still lcid ttis e a
  call_still e Tick u a = (ticked_calm e a).bearers
  call_still e TickBuckets u a = a
  call_still e (Visits t) u a = visit_still t e a
  call_still e (Grants tti) u a = a
  call_still e (Granted tti good) u a = a
  call_still e (Assigned tti ndi good) u a = a
  call_still e (Pass tti) u a = a
  call_still e (Receive block) u a = (received_calm e block a).bearers
  call_still e (Expire lcid clock) u a = set_still e.bearers (find lcid e.bearers) (Expires clock) a
  call_still e (Move keys) u a = moved_still e.bearers keys a

  all_stopping_unacked : (bs : List (Of Life)) → AreStill bs → AreUnacked l (all_stopping bs)
  all_stopping_unacked [] a = tt
  all_stopping_unacked (b ∷ bs) a =
      both_unacked l (stopping b.state.flow) (all_stopping bs)
      (stopping_unacked l b.channel.lcid b.state.flow a.0) (all_stopping_unacked bs a.1)

  call_unacked : (e : End) (c : Call) → AreStill e.bearers → AreUnacked l (told_of e c)
  unfolding expiry leaving
  call_unacked e (SetVisits maximum) a = tt
  call_unacked e (SetReports reports) a = tt
  call_unacked e (Add config keys) a = tt
  call_unacked e (Submit lcid octets) a = tt
  call_unacked e (SetDiscard lcid ttis) a = tt
  call_unacked e Tick a = (ticked_calm e a).told
  call_unacked e TickBuckets a = tt
  call_unacked e (Visits t) a =
      building_all (λ event. is_acked_event l event ≡ false) (λ lcid count len. refl) (λ lcid fms bitmap. refl)
      (λ lcid how sn. refl) (λ lcid why. refl) (λ lcid clock. refl) t.tti t.grant t.order e
  call_unacked e (Grants tti) a = tt
  call_unacked e (Granted tti good) a = tt
  call_unacked e (Assigned tti ndi good) a = tt
  call_unacked e (Pass tti) a = tt
  call_unacked e (Receive block) a = (received_calm e block a).told
  call_unacked e (Expire lcid clock) a =
      expiry_unacked l (bearer_of lcid e).channel.lcid (bearer_of lcid e).state.flow clock
      (at_still e.bearers (find lcid e.bearers) a)
  call_unacked e (Move keys) a = all_stopping_unacked e.bearers a

  -- ---- calls

  pub calls_still : (cs : List Call) (e : End) → AllByRecursion AddsUnacked cs → AreStill e.bearers
      → AreStill (run_end cs e).bearers
  calls_still [] e u a = a
  calls_still (c ∷ cs) e u a = calls_still cs (after e c) u.1 (call_still e c u.0 a)

  pub calls_unacked : (cs : List Call) (e : End) → AllByRecursion AddsUnacked cs → AreStill e.bearers
      → AreUnacked l (told_over cs e)
  calls_unacked [] e u a = tt
  calls_unacked (c ∷ cs) e u a =
      both_unacked l (told_of e c) (told_over cs (after e c)) (call_unacked e c a)
      (calls_unacked cs (after e c) u.1 (call_still e c u.0 a))
