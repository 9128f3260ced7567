-- What each call of a bearer keeps holds of every bearer of an end through any calls.
use Rattle.std.proofs.Common.{◌≡◌, ◌≤◌, ℕ, zero, suc, ◌+◌, Bool, true, false, Option, Some, None, Result, Ok, Err, List}
use Rattle.std.proofs.Common.{[], ◌∷◌, get_or, insert, set, sum, refl, arith}
use Rattle.std.proofs.lemmas.List.Sums.{sum_by-cons}
use Rattle.bearer.specs.Bearer.{Of, of, Life, alive, begun, flow_of}
use Rattle.bearer.specs.declared.flow.Flow.{Flow}
use Rattle.bearer.specs.declared.flow.Flow.TheVariants.{Tm}
use Rattle.bearer.specs.Hearing.{arrived as flow_arrived, expired as flow_expired, ticked as flow_ticked, with_discard}
use Rattle.bearer.specs.Lives.{stopped, restarted}
use Rattle.bearer.specs.Submitting.{refusal as flow_refusal, submitted as flow_submitted}
use Rattle.bearer.specs.Taking.{after as flow_after}
use Rattle.bearer_types.specs.Configs.{IsConfig}
use Rattle.bearer_types.specs.declared.config.BearerConfig.{BearerConfig}
use Rattle.eps_sec.specs.declared.Keys.{Keys}
use Rattle.harq.specs.declared.sender.Order.{Order}
use Rattle.harq.specs.declared.sender.Visit.{Visit}
use Rattle.harq.specs.declared.sender.Visit.TheVariants.{New, Resend, Silent}
use Rattle.harq.specs.Sending.{Sending}
use Rattle.l2_bits.specs.declared.fault.SubmitRefusal.{SubmitRefusal}
use Rattle.l2_node.specs.Building.{visited, loaded, built_by, built, visit}
use Rattle.l2_node.specs.End.{End, fresh, with_bearer, reset, with_visits}
use Rattle.bearer_types.specs.Sides.{heard_by}
use Rattle.l2_node.specs.Finding.{Numbers, find, has, place, bearer_at, lowest}
use Rattle.l2_node.specs.Hearing.{Heard, heard, hears_sdu, hears, hears_all, heard_items, received, ticks_at}
use Rattle.l2_node.specs.Hearing.{ticks_over, ticked, bearer_of, expired}
use Rattle.l2_node.specs.Moving.{all_stopped, all_restarted, left_cell, joined}
use Rattle.l2_node.specs.Submitting.{refusal, submitted, discarding}
use Rattle.l2_node.specs.Writing.{shares, Work, work, nothing_written, writes, all_write, written}
use Rattle.l2_types.specs.declared.channel.Channel.{Channel}
use Rattle.l2_types.specs.declared.event.Clock.{Clock}
use Rattle.l2_types.specs.declared.side.Side.{Side}
use Rattle.mac_pdu.specs.declared.fault.MacRefusal.{MacRefusal}
use Rattle.mac_pdu.specs.Items.{MacItem, front, element, sdu, padding}
use Rattle.mac_pdu.specs.Reading.{reading}
use Rattle.prioritise.specs.ShareLaws.{IsSound}
use Rattle.rlc_um.specs.Transparent.{nothing_submitted}
use Rattle.law_node.specs.Calls.{Turn, Call, SetVisits, SetReports, Add, Submit, SetDiscard, Tick, TickBuckets, Visits}
use Rattle.law_node.specs.Calls.{Grants, Granted, Assigned, Pass, Receive, Expire, Move, IsGiven, AreGiven, answered}
use Rattle.law_node.specs.Calls.{after_submit, after, run_end, reached}
use Rattle.law_node.proofs.Sharing.{shared_of}
use Rattle.law_node.proofs.Sound.{visited_sound, HasSoundChannels, call_channels_sound, fresh_channels_sound}

-- a property of bearers by their LCID: each begins with it, and no call takes it away
pub record IsKept (P : ℕ → Flow → Type 0) : Type 0 where
  pub idle : P 0 (Tm nothing_submitted)
  pub begins : (c : BearerConfig) (keys : Keys) (side : Side) → IsConfig c
      → P c.channel.lcid (flow_of c.kind c keys side)
  pub submits : (lcid : ℕ) (f : Flow) (octets : List ℕ) → flow_refusal f octets ≡ None → P lcid f
      → P lcid (flow_submitted f octets)
  pub discards : (lcid : ℕ) (f : Flow) (ttis : ℕ) → P lcid f → P lcid (with_discard f ttis)
  pub takes : (lcid : ℕ) (f : Flow) (share : ℕ) (held : Option ℕ) → share ≤ 9424 → P lcid f
      → P lcid (flow_after f share held)
  pub arrives : (lcid : ℕ) (f : Flow) (pdu : List ℕ) → P lcid f → P lcid (flow_arrived f pdu)
  pub expires : (lcid : ℕ) (f : Flow) (clock : Clock) → P lcid f → P lcid (flow_expired f clock)
  pub ticks : (lcid : ℕ) (f : Flow) → P lcid f → P lcid (flow_ticked f)
  pub moves : (lcid : ℕ) (f : Flow) (keys : Keys) → P lcid f → P lcid (restarted (stopped f) keys)

abbrev pub AllAre : (ℕ → Flow → Type 0) → List (Of Life) → Type 0
AllAre P [] = Unit {0}
AllAre P (b ∷ bs) = P b.channel.lcid b.state.flow × AllAre P bs

pub at_is : (P : ℕ → Flow → Type 0) (bs : List (Of Life)) (at : ℕ) → IsKept P → AllAre P bs
    → P (bearer_at bs at).channel.lcid (bearer_at bs at).state.flow
at_is P [] at k a = k.idle
at_is P (b ∷ bs) zero k a = a.0
at_is P (b ∷ bs) (suc at) k a = at_is P bs at k a.1

pub set_are : (P : ℕ → Flow → Type 0) (bs : List (Of Life)) (at : ℕ) (x : Of Life) → AllAre P bs
    → P x.channel.lcid x.state.flow → AllAre P (set bs at x)
set_are P [] at x a i = tt
set_are P (b ∷ bs) zero x a i = (i, a.1)
set_are P (b ∷ bs) (suc at) x a i = (a.0, set_are P bs at x a.1 i)

insert_are : (P : ℕ → Flow → Type 0) (bs : List (Of Life)) (at : ℕ) (x : Of Life) → AllAre P bs
    → P x.channel.lcid x.state.flow → AllAre P (insert bs at x)
insert_are P bs zero x a i = (i, a)
insert_are P [] (suc at) x a i = (i, tt)
insert_are P (b ∷ bs) (suc at) x a i = (a.0, insert_are P bs at x a.1 i)

-- ---- blocks that come, and TTIs

sdu_are : (P : ℕ → Flow → Type 0) (k : IsKept P) (t : Bool) (lcid : ℕ) (pdu : List ℕ) (h : Heard)
    → has lcid h.bearers ≡ t → AllAre P h.bearers → AllAre P (hears_sdu lcid pdu h).bearers
sdu_are P k true lcid pdu h e a =
    let at = find lcid h.bearers in
    let b = bearer_at h.bearers at in
    rw e (set_are P h.bearers at (of b.channel (alive (flow_arrived b.state.flow pdu))) a
    (k.arrives b.channel.lcid b.state.flow pdu (at_is P h.bearers at k a)))
sdu_are P k false lcid pdu h e a = rw e a

pub item_are : (P : ℕ → Flow → Type 0) (k : IsKept P) (i : MacItem) (h : Heard) → AllAre P h.bearers
    → AllAre P (hears i h).bearers
item_are P k front h a = a
item_are P k (element c) h a = a
item_are P k (sdu lcid octets) h a = sdu_are P k (has lcid h.bearers) lcid octets h refl a
item_are P k (padding n) h a = a

items_are : (P : ℕ → Flow → Type 0) (k : IsKept P) (is : List MacItem) (h : Heard) → AllAre P h.bearers
    → AllAre P (hears_all is h).bearers
items_are P k [] h a = a
items_are P k (i ∷ is) h a = items_are P k is (hears i h) (item_are P k i h a)

block_are : (P : ℕ → Flow → Type 0) (k : IsKept P) (r : Result (List MacItem) MacRefusal) (h : Heard)
    → AllAre P h.bearers → AllAre P (heard_items r h).bearers
block_are P k (Ok items) h a = items_are P k items h a
block_are P k (Err refusal) h a = a

ticks_are : (P : ℕ → Flow → Type 0) (k : IsKept P) (bs : List (Of Life)) (at : ℕ) (h : Heard) → AllAre P h.bearers
    → AllAre P (ticks_over bs at h).bearers
ticks_are P k [] at h a = a
ticks_are P k (b ∷ bs) at h a =
    let x = bearer_at h.bearers at in
    ticks_are P k bs (at + 1) (ticks_at at h)
    (set_are P h.bearers at (of x.channel (alive (flow_ticked x.state.flow))) a
    (k.ticks x.channel.lcid x.state.flow (at_is P h.bearers at k a)))

moved_are : (P : ℕ → Flow → Type 0) (k : IsKept P) (bs : List (Of Life)) (keys : Keys) → AllAre P bs
    → AllAre P (all_restarted (all_stopped bs) keys)
moved_are P k [] keys a = tt
moved_are P k (b ∷ bs) keys a = (k.moves b.channel.lcid b.state.flow keys a.0, moved_are P k bs keys a.1)

-- ---- a new block

share_below : (xs : List ℕ) (i : ℕ) → get_or xs i 0 ≤ sum xs
share_below [] i = omega arith
share_below (x ∷ xs) zero = omega (arith, sum_by-cons (λ (n : ℕ). n) x xs)
share_below (x ∷ xs) (suc i) = omega (arith, sum_by-cons (λ (n : ℕ). n) x xs, share_below xs i)

pub share_most : (e : End) (grant lcid : ℕ) → IsSound e.buckets → grant ≤ 9422 → get_or (shares e grant) lcid 0 ≤ 9424
share_most e grant lcid s most =
    omega (arith, (shared_of e grant s).within_grant, share_below (shares e grant) lcid, most)

pub writes_are : (P : ℕ → Flow → Type 0) (k : IsKept P) (t : Bool) (lcid share : ℕ) (held : Option ℕ) (w : Work)
    → has lcid w.bearers ≡ t → share ≤ 9424 → AllAre P w.bearers → AllAre P (writes lcid share held w).bearers
writes_are P k true lcid share held w e most a =
    let at = find lcid w.bearers in
    let b = bearer_at w.bearers at in
    rw e (set_are P w.bearers at (of b.channel (alive (flow_after b.state.flow share held))) a
    (k.takes b.channel.lcid b.state.flow share held most (at_is P w.bearers at k a)))
writes_are P k false lcid share held w e most a = rw e a

all_write_are : (P : ℕ → Flow → Type 0) (k : IsKept P) (s : Sending) (numbers : Numbers) (amounts : List ℕ)
    (cs : List Channel) (w : Work) → ((lcid : ℕ) → get_or amounts lcid 0 ≤ 9424)
    → AllAre P w.bearers → AllAre P (all_write s numbers amounts cs w).bearers
all_write_are P k s numbers amounts [] w most a = a
all_write_are P k s numbers amounts (c ∷ cs) w most a =
    let share = get_or amounts c.lcid 0 in
    let held = lowest s numbers c.lcid in
    all_write_are P k s numbers amounts cs (writes c.lcid share held w) most
    (writes_are P k (has c.lcid w.bearers) c.lcid share held w refl (most c.lcid) a)

-- ---- through any calls

turn_are : (P : ℕ → Flow → Type 0) (k : IsKept P) (v : Visit) (t : Turn) (e : End) → t.grant ≤ 9422
    → IsSound e.buckets → AllAre P e.bearers → AllAre P (answered v t (built_by v t.tti t.grant e)).bearers
unfolding loaded written
turn_are P k New t e most s a =
    all_write_are P k e.sender e.numbers (shares e t.grant) e.buckets.channels
    (work e.bearers (nothing_written e.side)) (λ lcid. share_most e t.grant lcid s most) a
turn_are P k (Resend rv) t e most s a = a
turn_are P k Silent t e most s a = a

visited_are : (P : ℕ → Flow → Type 0) (tti : ℕ) (order : Order) (e : End) → AllAre P e.bearers
    → AllAre P (visited tti order e).bearers
unfolding visited
visited_are P tti order e a = a

submit_are : (P : ℕ → Flow → Type 0) (k : IsKept P) (r : Option SubmitRefusal) (lcid : ℕ) (octets : List ℕ) (e : End)
    → refusal lcid octets e ≡ r → AllAre P e.bearers → AllAre P (after_submit r lcid octets e).bearers
unfolding submitted refusal
submit_are P k None lcid octets e h a =
    let b = bearer_of lcid e in
    set_are P e.bearers (find lcid e.bearers) (of b.channel (alive (flow_submitted b.state.flow octets))) a
    (k.submits b.channel.lcid b.state.flow octets h (at_is P e.bearers (find lcid e.bearers) k a))
submit_are P k (Some why) lcid octets e h a = a

pub call_are : (P : ℕ → Flow → Type 0) (k : IsKept P) (e : End) (c : Call) → IsGiven c → IsSound e.buckets
    → AllAre P e.bearers → AllAre P (after e c).bearers
unfolding with_visits with_bearer begun discarding expired built joined left_cell reset received ticked
call_are P k e (SetVisits maximum) g s a = a
call_are P k e (SetReports reports) g s a = a
call_are P k e (Add c keys) g s a =
    insert_are P e.bearers (place c.channel.lcid e.bearers) (of c.channel (alive (flow_of c.kind c keys e.side)))
    a (k.begins c keys e.side g)
call_are P k e (Submit lcid octets) g s a = submit_are P k (refusal lcid octets e) lcid octets e refl a
call_are P k e (SetDiscard lcid ttis) g s a =
    let b = bearer_of lcid e in
    set_are P e.bearers (find lcid e.bearers)
    (of b.channel (record b.state { flow = with_discard b.state.flow ttis })) a
    (k.discards b.channel.lcid b.state.flow ttis (at_is P e.bearers (find lcid e.bearers) k a))
call_are P k e Tick g s a = ticks_are P k e.bearers 0 (heard e.bearers []) a
call_are P k e TickBuckets g s a = a
call_are P k e (Visits t) g s a =
    turn_are P k (visit t.tti t.order e) t (visited t.tti t.order e) g.0 (visited_sound t.tti t.order e s)
    (visited_are P t.tti t.order e a)
call_are P k e (Grants tti) g s a = a
call_are P k e (Granted tti good) g s a = a
call_are P k e (Assigned tti ndi good) g s a = a
call_are P k e (Pass tti) g s a = a
call_are P k e (Receive block) g s a = block_are P k (reading (heard_by e.side) block) (heard e.bearers []) a
call_are P k e (Expire lcid clock) g s a =
    let b = bearer_of lcid e in
    set_are P e.bearers (find lcid e.bearers) (of b.channel (alive (flow_expired b.state.flow clock))) a
    (k.expires b.channel.lcid b.state.flow clock (at_is P e.bearers (find lcid e.bearers) k a))
call_are P k e (Move keys) g s a = moved_are P k e.bearers keys a

run_are : (P : ℕ → Flow → Type 0) (k : IsKept P) (cs : List Call) (e : End) → AreGiven cs → HasSoundChannels e
    → AllAre P e.bearers → AllAre P (run_end cs e).bearers
run_are P k [] e g s a = a
run_are P k (c ∷ cs) e g s a =
    run_are P k cs (after e c) g.1 (call_channels_sound e c g.0 s) (call_are P k e c g.0 s.buckets_are a)

pub reached_are : (P : ℕ → Flow → Type 0) → IsKept P
    → (side : Side) (maximum : ℕ) (reports : Bool) (calls : List Call) → AreGiven calls
    → AllAre P (reached side maximum reports calls).bearers
unfolding fresh
reached_are P k side maximum reports calls g =
    run_are P k calls (fresh side maximum reports) g (fresh_channels_sound side maximum reports) tt

-- an end that has visited a process
pub visiting_are : (P : ℕ → Flow → Type 0) → IsKept P
    → (side : Side) (maximum : ℕ) (reports : Bool) (calls : List Call) (tti : ℕ) (order : Order) → AreGiven calls
    → AllAre P (visited tti order (reached side maximum reports calls)).bearers
visiting_are P k side maximum reports calls tti order g =
    visited_are P tti order (reached side maximum reports calls) (reached_are P k side maximum reports calls g)
