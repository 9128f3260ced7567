-- The channels of an end are those of its bearers, and both stand in their order, through any calls.
use Rattle.std.proofs.Common.{◌≡◌, ℕ, zero, suc, ◌+◌, nat_lt, Bool, true, false, Option, Some, None}
use Rattle.std.proofs.Common.{Result, Ok, Err, List, [], ◌∷◌, insert, set, replicate, get_or, refl, ap, sym, subst}
use Rattle.std.proofs.Common.{◌∙◌, arith}
use Rattle.bearer.specs.Bearer.{Of, of, Life, alive, begun}
use Rattle.bearer.specs.Hearing.{arrived as flow_arrived, expired as flow_expired, ticked as flow_ticked, with_discard}
use Rattle.bearer.specs.Submitting.{submitted as flow_submitted}
use Rattle.bearer.specs.Taking.{after as flow_after}
use Rattle.bearer_types.specs.Sides.{heard_by}
use Rattle.eps_sec.specs.declared.Keys.{Keys}
use Rattle.harq.specs.declared.sender.Visit.{Visit}
use Rattle.harq.specs.declared.sender.Visit.TheVariants.{New, Resend, Silent}
use Rattle.harq.specs.Sending.{Sending}
use Rattle.l2_bits.specs.declared.fault.SubmitRefusal.{SubmitRefusal}
use Rattle.l2_node.specs.Building.{visited, loaded, built_by, built, visit}
use Rattle.l2_node.specs.End.{End, fresh, with_channel, with_bearer, reset, with_visits}
use Rattle.l2_node.specs.Finding.{Numbers, find, has, place, bearer_at, lowest}
use Rattle.l2_node.specs.Hearing.{Heard, heard, hears_sdu, hears, hears_all, heard_items, received, ticks_at}
use Rattle.l2_node.specs.Hearing.{ticks_over, ticked, bearer_of, expired}
use Rattle.l2_node.specs.Moving.{all_stopped, all_restarted, with_channels, left_cell, joined}
use Rattle.l2_node.specs.Submitting.{refusal, submitted, discarding}
use Rattle.l2_node.specs.Writing.{shares, Work, work, nothing_written, writes, all_write, written}
use Rattle.l2_types.specs.declared.channel.Channel.{Channel}
use Rattle.l2_types.specs.declared.side.Side.{Side}
use Rattle.mac_pdu.specs.declared.fault.MacRefusal.{MacRefusal}
use Rattle.mac_pdu.specs.Items.{MacItem, front, element, sdu, padding}
use Rattle.mac_pdu.specs.Reading.{reading}
use Rattle.prioritise.specs.Channels.{has as has_channel}
use Rattle.prioritise.specs.Shares.{Bucketed, bucketed, no_channels, added, emptied, ticked as grown, after_allot}
use Rattle.law_node.specs.Calls.{Turn, Call, SetVisits, SetReports, Add, Submit, SetDiscard, Tick, TickBuckets, Visits}
use Rattle.law_node.specs.Calls.{Grants, Granted, Assigned, Pass, Receive, Expire, Move, answered, after_submit, after}
use Rattle.law_node.specs.Calls.{run_end, reached}
use Rattle.law_node.specs.Order.{AreOrdered, StandsInOrder, channels, with_one, with_all, IsNew, AddNew}
use Rattle.law_node.specs.Order.{EndsShareByBearers}
use Rattle.law_node.proofs.Channels.{Before, Upward, put_by_lcid, all_with, upward_with, one_in, all_in}

-- ---- the channels that the bearers are configured with

-- another bearer of the same channel in its place
set_channels : (bs : List (Of Life)) (at : ℕ) (x : Of Life) → (bearer_at bs at).channel ≡ x.channel
    → channels (set bs at x) ≡ channels bs
set_channels [] at x e = refl
set_channels (b ∷ bs) zero x e = ap (λ (c : Channel). c ∷ channels bs) (sym e)
set_channels (b ∷ bs) (suc at) x e = ap (λ (cs : List Channel). b.channel ∷ cs) (set_channels bs at x e)

sdu_channels : (t : Bool) (m : ℕ) (pdu : List ℕ) (h : Heard) → has m h.bearers ≡ t
    → channels (hears_sdu m pdu h).bearers ≡ channels h.bearers
sdu_channels true m pdu h e =
    let b = bearer_at h.bearers (find m h.bearers) in
    rw e (set_channels h.bearers (find m h.bearers) (of b.channel (alive (flow_arrived b.state.flow pdu))) refl)
sdu_channels false m pdu h e = rw e refl

item_channels : (i : MacItem) (h : Heard) → channels (hears i h).bearers ≡ channels h.bearers
item_channels front h = refl
item_channels (element c) h = refl
item_channels (sdu lcid octets) h = sdu_channels (has lcid h.bearers) lcid octets h refl
item_channels (padding n) h = refl

items_channels : (is : List MacItem) (h : Heard) → channels (hears_all is h).bearers ≡ channels h.bearers
items_channels [] h = refl
items_channels (i ∷ is) h = items_channels is (hears i h) ∙ item_channels i h

block_channels : (r : Result (List MacItem) MacRefusal) (h : Heard)
    → channels (heard_items r h).bearers ≡ channels h.bearers
block_channels (Ok items) h = items_channels items h
block_channels (Err refusal) h = refl

ticks_channels : (bs : List (Of Life)) (at : ℕ) (h : Heard) → channels (ticks_over bs at h).bearers ≡ channels h.bearers
ticks_channels [] at h = refl
ticks_channels (b ∷ bs) at h =
    let y = bearer_at h.bearers at in
    ticks_channels bs (at + 1) (ticks_at at h)
    ∙ set_channels h.bearers at (of y.channel (alive (flow_ticked y.state.flow))) refl

submit_channels : (r : Option SubmitRefusal) (lcid : ℕ) (octets : List ℕ) (e : End)
    → channels (after_submit r lcid octets e).bearers ≡ channels e.bearers
unfolding submitted
submit_channels None lcid octets e =
    let b = bearer_of lcid e in
    set_channels e.bearers (find lcid e.bearers) (of b.channel (alive (flow_submitted b.state.flow octets))) refl
submit_channels (Some why) lcid octets e = refl

one_channels : (t : Bool) (m share : ℕ) (held : Option ℕ) (w : Work) → has m w.bearers ≡ t
    → channels (writes m share held w).bearers ≡ channels w.bearers
one_channels true m share held w h =
    let b = bearer_at w.bearers (find m w.bearers) in
    rw h (set_channels w.bearers (find m w.bearers) (of b.channel (alive (flow_after b.state.flow share held))) refl)
one_channels false m share held w h = rw h refl

all_channels : (s : Sending) (numbers : Numbers) (amounts : List ℕ) (cs : List Channel) (w : Work)
    → channels (all_write s numbers amounts cs w).bearers ≡ channels w.bearers
all_channels s numbers amounts [] w = refl
all_channels s numbers amounts (c ∷ cs) w =
    let amount = get_or amounts c.lcid 0 in
    let held = lowest s numbers c.lcid in
    all_channels s numbers amounts cs (writes c.lcid amount held w)
    ∙ one_channels (has c.lcid w.bearers) c.lcid amount held w refl

turn_channels : (v : Visit) (t : Turn) (e : End)
    → channels (answered v t (built_by v t.tti t.grant e)).bearers ≡ channels e.bearers
unfolding loaded written
turn_channels New t e =
    all_channels e.sender e.numbers (shares e t.grant) e.buckets.channels (work e.bearers (nothing_written e.side))
turn_channels (Resend rv) t e = refl
turn_channels Silent t e = refl

visit_channels : (t : Turn) (e : End)
    → channels (answered (visit t.tti t.order e) t (built t.tti t.grant t.order e)).bearers ≡ channels e.bearers
unfolding built visited
visit_channels t e = turn_channels (visit t.tti t.order e) t (visited t.tti t.order e)

moved_channels : (bs : List (Of Life)) (keys : Keys) → channels (all_restarted (all_stopped bs) keys) ≡ channels bs
moved_channels [] keys = refl
moved_channels (b ∷ bs) keys = ap (λ (cs : List Channel). b.channel ∷ cs) (moved_channels bs keys)

insert_by : (t : Bool) (x b : Of Life) (bs : List (Of Life)) → nat_lt b.channel.lcid x.channel.lcid ≡ t
    → channels (insert bs (place x.channel.lcid bs) x) ≡ put_by_lcid x.channel (channels bs)
    → channels (insert (b ∷ bs) (place x.channel.lcid (b ∷ bs)) x) ≡ put_by_lcid x.channel (channels (b ∷ bs))
insert_by true x b bs e ih =
    let next : place x.channel.lcid bs + 1 ≡ suc (place x.channel.lcid bs) = omega arith in
    rw (e, next) (ap (λ (cs : List Channel). b.channel ∷ cs) ih)
insert_by false x b bs e ih = rw e refl

insert_channels : (x : Of Life) (bs : List (Of Life))
    → channels (insert bs (place x.channel.lcid bs) x) ≡ put_by_lcid x.channel (channels bs)
insert_channels x [] = refl
insert_channels x (b ∷ bs) =
    insert_by (nat_lt b.channel.lcid x.channel.lcid) x b bs refl (insert_channels x bs)

abbrev pub channels_in : Call → List Channel → List Channel
channels_in (Add c keys) cs = put_by_lcid c.channel cs
channels_in call cs = cs

pub call_channels : (e : End) (c : Call) → channels (after e c).bearers ≡ channels_in c (channels e.bearers)
unfolding with_visits with_bearer begun discarding expired joined left_cell reset received ticked
call_channels e (SetVisits maximum) = refl
call_channels e (SetReports reports) = refl
call_channels e (Add c keys) = insert_channels (begun c keys e.side) e.bearers
call_channels e (Submit lcid octets) = submit_channels (refusal lcid octets e) lcid octets e
call_channels e (SetDiscard lcid ttis) =
    let b = bearer_of lcid e in
    set_channels e.bearers (find lcid e.bearers)
    (of b.channel (record b.state { flow = with_discard b.state.flow ttis })) refl
call_channels e Tick = ticks_channels e.bearers 0 (heard e.bearers [])
call_channels e TickBuckets = refl
call_channels e (Visits t) = visit_channels t e
call_channels e (Grants tti) = refl
call_channels e (Granted tti good) = refl
call_channels e (Assigned tti ndi good) = refl
call_channels e (Pass tti) = refl
call_channels e (Receive block) = block_channels (reading (heard_by e.side) block) (heard e.bearers [])
call_channels e (Expire lcid clock) =
    let b = bearer_of lcid e in
    set_channels e.bearers (find lcid e.bearers) (of b.channel (alive (flow_expired b.state.flow clock))) refl
call_channels e (Move keys) = moved_channels e.bearers keys

-- ---- the channels that share the grants

one_by : (t : Bool) (c : Channel) (b : Bucketed) → has_channel c.lcid b.channels ≡ t
    → with_channel c b ≡ bucketed (with_one c b.channels) b.levels
unfolding added
one_by true c b e = rw e refl
one_by false c b e = rw e refl

one_is : (c : Channel) (b : Bucketed) → with_channel c b ≡ bucketed (with_one c b.channels) b.levels
one_is c b = one_by (has_channel c.lcid b.channels) c b refl

moved_is : (bs : List (Of Life)) (x : Bucketed)
    → with_channels (all_stopped bs) x ≡ bucketed (with_all (channels bs) x.channels) x.levels
moved_is [] x = refl
moved_is (b ∷ bs) x =
    moved_is bs (with_channel b.channel x)
    ∙ ap (λ (y : Bucketed). bucketed (with_all (channels bs) y.channels) y.levels) (one_is b.channel x)

-- behind a handover
pub moved_buckets : (e : End) (keys : Keys)
    → (after e (Move keys)).buckets ≡ bucketed (with_all (channels e.bearers) []) (replicate 11 0)
unfolding joined left_cell reset emptied no_channels
moved_buckets e keys = moved_is e.bearers (bucketed [] (replicate 11 0))

turn_shared : (v : Visit) (t : Turn) (e : End)
    → (answered v t (built_by v t.tti t.grant e)).buckets.channels ≡ e.buckets.channels
unfolding loaded after_allot
turn_shared New t e = refl
turn_shared (Resend rv) t e = refl
turn_shared Silent t e = refl

visit_shared : (t : Turn) (e : End)
    → (answered (visit t.tti t.order e) t (built t.tti t.grant t.order e)).buckets.channels ≡ e.buckets.channels
unfolding built visited
visit_shared t e = turn_shared (visit t.tti t.order e) t (visited t.tti t.order e)

submit_shared : (r : Option SubmitRefusal) (lcid : ℕ) (octets : List ℕ) (e : End)
    → (after_submit r lcid octets e).buckets.channels ≡ e.buckets.channels
unfolding submitted
submit_shared None lcid octets e = refl
submit_shared (Some why) lcid octets e = refl

abbrev pub shared_in : Call → List (Of Life) → List Channel → List Channel
shared_in (Add c keys) bs cs = with_one c.channel cs
shared_in (Move keys) bs cs = with_all (channels bs) []
shared_in call bs cs = cs

pub call_shared : (e : End) (c : Call) → (after e c).buckets.channels ≡ shared_in c e.bearers e.buckets.channels
unfolding with_visits with_bearer discarding expired grown
call_shared e (SetVisits maximum) = refl
call_shared e (SetReports reports) = refl
call_shared e (Add c keys) = ap (λ (b : Bucketed). b.channels) (one_is c.channel e.buckets)
call_shared e (Submit lcid octets) = refl
call_shared e (SetDiscard lcid ttis) = refl
call_shared e Tick = refl
call_shared e TickBuckets = refl
call_shared e (Visits t) = visit_shared t e
call_shared e (Grants tti) = refl
call_shared e (Granted tti good) = refl
call_shared e (Assigned tti ndi good) = refl
call_shared e (Pass tti) = refl
call_shared e (Receive block) = refl
call_shared e (Expire lcid clock) = refl
call_shared e (Move keys) = ap (λ (b : Bucketed). b.channels) (moved_buckets e keys)

-- ---- they stand in order

shared_order : (c : Call) (bs : List (Of Life)) (cs : List Channel) → AreOrdered Before cs
    → AreOrdered Before (shared_in c bs cs)
shared_order (Add c keys) bs cs s = one_in c.channel cs s
shared_order (Move keys) bs cs s = all_in (channels bs) [] tt
shared_order (SetVisits maximum) bs cs s = s
shared_order (SetReports reports) bs cs s = s
shared_order (Submit lcid octets) bs cs s = s
shared_order (SetDiscard lcid ttis) bs cs s = s
shared_order Tick bs cs s = s
shared_order TickBuckets bs cs s = s
shared_order (Visits t) bs cs s = s
shared_order (Grants tti) bs cs s = s
shared_order (Granted tti good) bs cs s = s
shared_order (Assigned tti ndi good) bs cs s = s
shared_order (Pass tti) bs cs s = s
shared_order (Receive block) bs cs s = s
shared_order (Expire lcid clock) bs cs s = s

-- of what stays but where a bearer is added
module _ (P : List Channel → Type 0) where
  in_call : (c : Call) (cs : List Channel) → ((d : Channel) → P cs → P (put_by_lcid d cs)) → P cs
      → P (channels_in c cs)
  in_call (Add c keys) cs more p = more c.channel p
  in_call (SetVisits maximum) cs more p = p
  in_call (SetReports reports) cs more p = p
  in_call (Submit lcid octets) cs more p = p
  in_call (SetDiscard lcid ttis) cs more p = p
  in_call Tick cs more p = p
  in_call TickBuckets cs more p = p
  in_call (Visits t) cs more p = p
  in_call (Grants tti) cs more p = p
  in_call (Granted tti good) cs more p = p
  in_call (Assigned tti ndi good) cs more p = p
  in_call (Pass tti) cs more p = p
  in_call (Receive block) cs more p = p
  in_call (Expire lcid clock) cs more p = p
  in_call (Move keys) cs more p = p

call_stands : (e : End) (c : Call) → StandsInOrder e → StandsInOrder (after e c)
call_stands e c s = record {
  channels_are = subst (AreOrdered Before) (sym (call_shared e c))
      (shared_order c e.bearers e.buckets.channels s.channels_are);
  bearers_are = subst (AreOrdered Upward) (sym (call_channels e c))
      (in_call (AreOrdered Upward) c (channels e.bearers) (λ d. upward_with d (channels e.bearers)) s.bearers_are);
}

run_stands : (cs : List Call) (e : End) → StandsInOrder e → StandsInOrder (run_end cs e)
run_stands [] e s = s
run_stands (c ∷ cs) e s = run_stands cs (after e c) (call_stands e c s)

pub stands_in_order : (side : Side) (maximum : ℕ) (reports : Bool) (calls : List Call)
    → StandsInOrder (reached side maximum reports calls)
unfolding fresh no_channels
stands_in_order side maximum reports calls =
    run_stands calls (fresh side maximum reports) (record { channels_are = tt; bearers_are = tt })

-- ---- they are those of the bearers

abbrev pub OwnsChannels : End → Type 0
OwnsChannels e = e.buckets.channels ≡ with_all (channels e.bearers) []

lists_own : (c : Call) (bs : List (Of Life)) (cs : List Channel) → IsNew c bs → cs ≡ with_all (channels bs) []
    → shared_in c bs cs ≡ with_all (channels_in c (channels bs)) []
lists_own (Add c keys) bs cs new own =
    ap (with_one c.channel) own ∙ sym (all_with c.channel (channels bs) [] new)
lists_own (SetVisits maximum) bs cs new own = own
lists_own (SetReports reports) bs cs new own = own
lists_own (Submit lcid octets) bs cs new own = own
lists_own (SetDiscard lcid ttis) bs cs new own = own
lists_own Tick bs cs new own = own
lists_own TickBuckets bs cs new own = own
lists_own (Visits t) bs cs new own = own
lists_own (Grants tti) bs cs new own = own
lists_own (Granted tti good) bs cs new own = own
lists_own (Assigned tti ndi good) bs cs new own = own
lists_own (Pass tti) bs cs new own = own
lists_own (Receive block) bs cs new own = own
lists_own (Expire lcid clock) bs cs new own = own
lists_own (Move keys) bs cs new own = refl

pub call_own : (e : End) (c : Call) → IsNew c e.bearers → OwnsChannels e → OwnsChannels (after e c)
call_own e c new own =
    call_shared e c ∙ lists_own c e.bearers e.buckets.channels new own
    ∙ ap (λ (cs : List Channel). with_all cs []) (sym (call_channels e c))

pub run_own : (cs : List Call) (e : End) → AddNew cs e → OwnsChannels e → OwnsChannels (run_end cs e)
run_own [] e new own = own
run_own (c ∷ cs) e new own = run_own cs (after e c) new.1 (call_own e c new.0 own)

pub fresh_own : (side : Side) (maximum : ℕ) (reports : Bool) → OwnsChannels (fresh side maximum reports)
unfolding fresh no_channels
fresh_own side maximum reports = refl

moved_own : (e : End) (keys : Keys) → OwnsChannels e → (after e (Move keys)).buckets ≡ emptied e.buckets
unfolding emptied
moved_own e keys own =
    moved_buckets e keys ∙ ap (λ (cs : List Channel). bucketed cs (replicate 11 0)) (sym own)

pub share_by_bearers : EndsShareByBearers
share_by_bearers side maximum reports calls new =
    let e = reached side maximum reports calls in
    let own = run_own calls (fresh side maximum reports) new (fresh_own side maximum reports) in
    record { own = own; moves = λ keys. moved_own e keys own }
