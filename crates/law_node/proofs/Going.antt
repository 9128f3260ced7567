-- In each call of an end its bearers go on by calls of their own, and what is told is what they take.
use Rattle.std.proofs.Common.{◌≡◌, ◌≤◌, ℕ, ◌+◌, ◌==◌, Bool, true, false, Option, Some, None, IfSome, unwrap_or, Result}
use Rattle.std.proofs.Common.{Ok, Err, List, [], ◌∷◌, ◌++◌, length, get_or, set, append-nil, append_assoc, refl, ap}
use Rattle.std.proofs.Common.{sym, ◌∙◌, subst, arith}
use Rattle.std.proofs.lemmas.Bool.Decides.{nat_tests}
use Rattle.std.proofs.lemmas.List.{set_past}
use Rattle.bearer.specs.Bearer.{Of, of, Life, alive, begun}
use Rattle.bearer.specs.declared.flow.Flow.{Flow}
use Rattle.bearer.specs.Hearing.{arrived as flow_arrived, expired as flow_expired, ticked as flow_ticked, with_discard}
use Rattle.bearer.specs.Submitting.{submitted as flow_submitted}
use Rattle.bearer.specs.Taking.{told, after as flow_after}
use Rattle.law_bearer.specs.AnyBearer.Calls.{Call as BearerCall, Submit as Submits, Take as Taking, Arrive as Arrives}
use Rattle.law_bearer.specs.AnyBearer.Calls.{Expire as Expires, Tick as Ticks, SetDiscard as Discards, after as called}
use Rattle.law_bearer.specs.AnyBearer.Stream.{takes, counts}
use Rattle.bearer_types.specs.declared.event.Event.{Event}
use Rattle.eps_sec.specs.declared.Keys.{Keys}
use Rattle.harq.specs.declared.sender.Visit.{Visit}
use Rattle.harq.specs.declared.sender.Visit.TheVariants.{New, Resend, Silent}
use Rattle.harq.specs.Sending.{Sending}
use Rattle.l2_bits.specs.declared.fault.SubmitRefusal.{SubmitRefusal}
use Rattle.l2_node.specs.Building.{visited, loaded, built_by, visit_events, built, building, visit}
use Rattle.l2_node.specs.End.{End, with_bearer, reset, with_visits}
use Rattle.bearer_types.specs.Sides.{heard_by}
use Rattle.l2_node.specs.Finding.{Numbers, find, has, bearer_at, lowest}
use Rattle.l2_node.specs.Hearing.{Heard, heard, hears_sdu, hears, hears_all, heard_items, received, ticks_at}
use Rattle.l2_node.specs.Hearing.{ticks_over, ticked, expiry, expired, bearer_of}
use Rattle.l2_node.specs.Moving.{all_stopped, all_restarted, left_cell, leaving, joined}
use Rattle.l2_node.specs.Submitting.{refusal, submitted, discarding}
use Rattle.l2_node.specs.Writing.{shares, Work, work, nothing_written, writes, all_write, written}
use Rattle.l2_types.specs.declared.channel.Channel.{Channel}
use Rattle.mac_pdu.specs.declared.fault.MacRefusal.{MacRefusal}
use Rattle.mac_pdu.specs.Items.{MacItem, front, element, sdu, padding}
use Rattle.mac_pdu.specs.Reading.{reading}
use Rattle.prioritise.specs.ShareLaws.{IsSound}
use Rattle.law_node.specs.Bearers.{keys_in, moves, adds, AddNone}
use Rattle.promises.specs.Counts.{counts_on}
use Rattle.law_node.specs.Calls.{Turn, Call, SetVisits, SetReports, Add, Submit, SetDiscard, Tick, TickBuckets, Visits}
use Rattle.law_node.specs.Calls.{Grants, Granted, Assigned, Pass, Receive, Expire, Move, IsGiven, AreGiven, answered}
use Rattle.law_node.specs.Calls.{after_submit, after, run_end}
use Rattle.law_node.specs.Telling.{told_of, told_over}
use Rattle.law_node.specs.Writing.{TellNone}
use Rattle.law_node.proofs.Counted.{only, counts_then, none_counts, told_counts}
use Rattle.law_node.proofs.Holding.{flow_at}
use Rattle.law_node.proofs.Keeping.{AllAre, at_is, share_most, writes_are, call_are}
use Rattle.law_node.proofs.Owning.{own, IsOwn, own_kept, own_is}
use Rattle.law_node.proofs.Places.{found}
use Rattle.law_node.proofs.Silences.{writes_nothing}
use Rattle.law_node.proofs.Sound.{visited_sound, HasSoundChannels, call_channels_sound}
use Rattle.law_node.proofs.Steps.{Goes, IsTaken, rests, goes_then, set_goes, quiet, moved_goes, insert_goes}

-- ---- calls in which nothing is taken

-- a call of the bearer of a channel; where there is none, nothing changes
on_goes : (t : Bool) (l m : ℕ) (bs : List (Of Life)) (x : Of Life) (c : BearerCall) → has m bs ≡ t
    → (bearer_at bs (find m bs)).channel.lcid ≡ x.channel.lcid → x.state.flow ≡ called (flow_at m bs) c
    → ((f : Flow) → takes f c ≡ []) → Goes l bs (set bs (find m bs) x) [] []
on_goes true l m bs x c h same e none = set_goes l bs (find m bs) x c [] same e (quiet l (find m bs) bs c none)
on_goes false l m bs x c h same e none =
    let past : length bs ≤ find m bs = grind (arith, nat_tests) in
    rw (set_past bs (find m bs) x past) (rests l bs)

sdu_goes : (t : Bool) (l m : ℕ) (pdu : List ℕ) (h : Heard) → has m h.bearers ≡ t
    → Goes l h.bearers (hears_sdu m pdu h).bearers [] []
sdu_goes true l m pdu h e =
    let b = bearer_at h.bearers (find m h.bearers) in
    rw e (on_goes true l m h.bearers (of b.channel (alive (flow_arrived b.state.flow pdu))) (Arrives pdu) e refl refl
    (λ f. refl))
sdu_goes false l m pdu h e = rw e (rests l h.bearers)

pub item_goes : (l : ℕ) (i : MacItem) (h : Heard) → Goes l h.bearers (hears i h).bearers [] []
item_goes l front h = rests l h.bearers
item_goes l (element c) h = rests l h.bearers
item_goes l (sdu lcid octets) h = sdu_goes (has lcid h.bearers) l lcid octets h refl
item_goes l (padding n) h = rests l h.bearers

items_goes : (l : ℕ) (is : List MacItem) (h : Heard) → Goes l h.bearers (hears_all is h).bearers [] []
items_goes l [] h = rests l h.bearers
items_goes l (i ∷ is) h =
    goes_then l h.bearers (hears i h).bearers (hears_all is (hears i h)).bearers [] [] [] [] (item_goes l i h)
    (items_goes l is (hears i h))

block_goes : (l : ℕ) (r : Result (List MacItem) MacRefusal) (h : Heard)
    → Goes l h.bearers (heard_items r h).bearers [] []
block_goes l (Ok items) h = items_goes l items h
block_goes l (Err refusal) h = rests l h.bearers

ticks_goes : (l : ℕ) (bs : List (Of Life)) (at : ℕ) (h : Heard) → Goes l h.bearers (ticks_over bs at h).bearers [] []
ticks_goes l [] at h = rests l h.bearers
ticks_goes l (b ∷ bs) at h =
    let y = bearer_at h.bearers at in
    goes_then l h.bearers (ticks_at at h).bearers (ticks_over bs (at + 1) (ticks_at at h)).bearers [] [] [] []
    (set_goes l h.bearers at (of y.channel (alive (flow_ticked y.state.flow))) Ticks [] refl refl
    (quiet l at h.bearers Ticks (λ f. refl)))
    (ticks_goes l bs (at + 1) (ticks_at at h))

submit_goes : (r : Option SubmitRefusal) (l lcid : ℕ) (octets : List ℕ) (e : End)
    → Goes l e.bearers (after_submit r lcid octets e).bearers [] []
unfolding submitted
submit_goes None l lcid octets e =
    let b = bearer_of lcid e in
    on_goes (has lcid e.bearers) l lcid e.bearers (of b.channel (alive (flow_submitted b.state.flow octets)))
    (Submits octets) refl refl refl (λ f. refl)
submit_goes (Some why) l lcid octets e = rests l e.bearers

-- ---- a block is built

-- the bearer of a channel writes: what it tells as taken is of the channel
took : (l m share : ℕ) (held : Option ℕ) (bs : List (Of Life)) → has m bs ≡ true → AllAre IsOwn bs
    → IsTaken l (find m bs) bs (Taking share held)
    (counts_on l (told (bearer_at bs (find m bs)).channel.lcid (flow_at m bs) share held))
took l m share held bs h a =
    let b = bearer_at bs (find m bs) in
    let all = counts (takes b.state.flow (Taking share held)) in
    let told_is = told_counts l b.channel.lcid b.state.flow share held in
    let is_m : own b.channel.lcid b.state.flow ≡ m =
    own_is b.channel.lcid b.state.flow (at_is IsOwn bs (find m bs) own_kept a)
    ∙ found m bs h in
    record {
      here = λ there q.
          let same : m ≡ l = sym (found m bs h) ∙ ap (λ (k : ℕ). (bearer_at bs k).channel.lcid) q ∙ found l bs there in
          let test : (own b.channel.lcid b.state.flow == l) ≡ true =
          tests_same (own b.channel.lcid b.state.flow) l (is_m ∙ same) in
          told_is ∙ ap (λ (t : Bool). only t all) test
          ∙ ap (λ (k : ℕ). counts (takes (bearer_at bs k).state.flow (Taking share held))) q;
      apart = λ other_place.
          let other : m ≡ l → ⊥ =
          λ same. other_place (subst (λ (k : ℕ). has k bs ≡ true) same h) (ap (λ (k : ℕ). find k bs) same) in
          let test : (own b.channel.lcid b.state.flow == l) ≡ false =
          tests_other (own b.channel.lcid b.state.flow) l (λ same. other (sym is_m ∙ same)) in
          told_is ∙ ap (λ (t : Bool). only t all) test;
    }
  where
    tests_same : (n l : ℕ) → n ≡ l → (n == l) ≡ true
    tests_same n l e = grind (arith, nat_tests)

    tests_other : (n l : ℕ) → (n ≡ l → ⊥) → (n == l) ≡ false
    tests_other n l e = grind (arith, nat_tests)

record Writes (l : ℕ) (w v : Work) : Type 0 where
  taken : List ℕ
  told_is : counts_on l v.block.events ≡ counts_on l w.block.events ++ taken
  goes : Goes l w.bearers v.bearers [] taken

none_write : (l : ℕ) (w : Work) → Writes l w w
none_write l w = record {
  taken = [];
  told_is = sym (append-nil (counts_on l w.block.events));
  goes = rests l w.bearers;
}

one_writes : (t : Bool) (l m share : ℕ) (held : Option ℕ) (w : Work) → has m w.bearers ≡ t → AllAre IsOwn w.bearers
    → Writes l w (writes m share held w)
one_writes true l m share held w h a =
    let at = find m w.bearers in
    let b = bearer_at w.bearers at in
    let more = told b.channel.lcid b.state.flow share held in
    rw h (record {
      taken = counts_on l more;
      told_is = counts_then l w.block.events more;
      goes = set_goes l w.bearers at (of b.channel (alive (flow_after b.state.flow share held))) (Taking share held)
          (counts_on l more) refl refl (took l m share held w.bearers h a);
    })
one_writes false l m share held w h a = rw h (none_write l w)

all_writes : (l : ℕ) (s : Sending) (numbers : Numbers) (amounts : List ℕ) (cs : List Channel) (w : Work)
    → ((lcid : ℕ) → get_or amounts lcid 0 ≤ 9424) → AllAre IsOwn w.bearers
    → Writes l w (all_write s numbers amounts cs w)
all_writes l s numbers amounts [] w most a = none_write l w
all_writes l s numbers amounts (c ∷ cs) w most a =
    let amount = get_or amounts c.lcid 0 in
    let held = lowest s numbers c.lcid in
    let w' = writes c.lcid amount held w in
    let one = one_writes (has c.lcid w.bearers) l c.lcid amount held w refl a in
    let more =
    all_writes l s numbers amounts cs w' most
    (writes_are IsOwn own_kept (has c.lcid w.bearers) c.lcid amount held w refl (most c.lcid) a) in
    record {
      taken = one.taken ++ more.taken;
      told_is = more.told_is ∙ ap (λ (ns : List ℕ). ns ++ more.taken) one.told_is
          ∙ append_assoc (counts_on l w.block.events) one.taken more.taken;
      goes = goes_then l w.bearers w'.bearers (all_write s numbers amounts cs w').bearers [] [] one.taken more.taken
          one.goes more.goes;
    }

turn_goes : (v : Visit) (t : Turn) (e : End) (l : ℕ) → t.grant ≤ 9422 → IsSound e.buckets → AllAre IsOwn e.bearers
    → Goes l e.bearers (answered v t (built_by v t.tti t.grant e)).bearers [] (counts_on l (visit_events v t.grant e))
unfolding loaded written
turn_goes New t e l most s a =
    let k = all_writes l e.sender e.numbers (shares e t.grant) e.buckets.channels
    (work e.bearers (nothing_written e.side)) (λ lcid. share_most e t.grant lcid s most) a in
    subst (λ (ns : List ℕ). Goes l e.bearers (loaded t.tti t.grant e).bearers [] ns) (sym k.told_is) k.goes
turn_goes (Resend rv) t e l most s a = rests l e.bearers
turn_goes Silent t e l most s a = rests l e.bearers

visit_goes : (t : Turn) (e : End) (l : ℕ) → t.grant ≤ 9422 → IsSound e.buckets → AllAre IsOwn e.bearers
    → Goes l e.bearers (answered (visit t.tti t.order e) t (built t.tti t.grant t.order e)).bearers []
    (counts_on l (building t.tti t.grant t.order e))
unfolding built building visited
visit_goes t e l most s a =
    turn_goes (visit t.tti t.order e) t (visited t.tti t.order e) l most (visited_sound t.tti t.order e s) a

-- ---- any call

told_none : (l : ℕ) (bs ds : List (Of Life)) (ks : List Keys) (es : List Event) → TellNone es → Goes l bs ds ks []
    → Goes l bs ds ks (counts_on l es)
told_none l bs ds ks es p g = subst (λ (ns : List ℕ). Goes l bs ds ks ns) (sym (none_counts l es p)) g

expiry_none : (o : Option (List Event)) → IfSome o TellNone → TellNone (unwrap_or o [])
expiry_none None p = refl
expiry_none (Some es) p = p

pub call_goes : (l : ℕ) (e : End) (c : Call) → IsGiven c → IsSound e.buckets → AllAre IsOwn e.bearers
    → adds l c ≡ false → Goes l e.bearers (after e c).bearers (keys_in c) (counts_on l (told_of e c))
unfolding with_visits with_bearer begun discarding expired joined left_cell reset received ticked
call_goes l e (SetVisits maximum) g s a free = rests l e.bearers
call_goes l e (SetReports reports) g s a free = rests l e.bearers
call_goes l e (Add c keys) g s a free = insert_goes l c.channel.lcid (begun c keys e.side) e.bearers free
call_goes l e (Submit lcid octets) g s a free = submit_goes (refusal lcid octets e) l lcid octets e
call_goes l e (SetDiscard lcid ttis) g s a free =
    let b = bearer_of lcid e in
    on_goes (has lcid e.bearers) l lcid e.bearers
    (of b.channel (record b.state { flow = with_discard b.state.flow ttis })) (Discards ttis) refl refl refl
    (λ f. refl)
call_goes l e Tick g s a free =
    told_none l e.bearers (ticked e).bearers [] (ticked e).events (writes_nothing e).ticking
    (ticks_goes l e.bearers 0 (heard e.bearers []))
call_goes l e TickBuckets g s a free = rests l e.bearers
call_goes l e (Visits t) g s a free = visit_goes t e l g.0 s a
call_goes l e (Grants tti) g s a free = rests l e.bearers
call_goes l e (Granted tti good) g s a free = rests l e.bearers
call_goes l e (Assigned tti ndi good) g s a free = rests l e.bearers
call_goes l e (Pass tti) g s a free = rests l e.bearers
call_goes l e (Receive block) g s a free =
    told_none l e.bearers (received e block).bearers [] (received e block).events ((writes_nothing e).receiving block)
    (block_goes l (reading (heard_by e.side) block) (heard e.bearers []))
call_goes l e (Expire lcid clock) g s a free =
    let b = bearer_of lcid e in
    told_none l e.bearers (expired lcid clock e).bearers [] (unwrap_or (expiry lcid clock e) [])
    (expiry_none (expiry lcid clock e) ((writes_nothing e).expiring lcid clock))
    (on_goes (has lcid e.bearers) l lcid e.bearers (of b.channel (alive (flow_expired b.state.flow clock)))
    (Expires clock) refl refl refl (λ f. refl))
call_goes l e (Move keys) g s a free =
    told_none l e.bearers (all_restarted (all_stopped e.bearers) keys) (keys ∷ []) (leaving e)
    (writes_nothing e).moving (moved_goes l e.bearers keys)

pub run_goes : (l : ℕ) (cs : List Call) (e : End) → AreGiven cs → HasSoundChannels e → AllAre IsOwn e.bearers
    → AddNone l cs → Goes l e.bearers (run_end cs e).bearers (moves cs) (counts_on l (told_over cs e))
run_goes l [] e g s a free = rests l e.bearers
run_goes l (c ∷ cs) e g s a free =
    let more = told_over cs (after e c) in
    subst (λ (ns : List ℕ). Goes l e.bearers (run_end cs (after e c)).bearers (keys_in c ++ moves cs) ns)
    (sym (counts_then l (told_of e c) more))
    (goes_then l e.bearers (after e c).bearers (run_end cs (after e c)).bearers (keys_in c) (moves cs)
    (counts_on l (told_of e c)) (counts_on l more)
    (call_goes l e c g.0 s.buckets_are a free.0)
    (run_goes l cs (after e c) g.1 (call_channels_sound e c g.0 s) (call_are IsOwn own_kept e c g.0 s.buckets_are a)
    free.1))
