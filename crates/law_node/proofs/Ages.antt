-- No call of a bearer but a take uses a number.
use Rattle.std.proofs.Common.{◌≡◌, ◌≤◌, ◌<◌, ℕ, ◌+◌, ◌==◌, nat_lt, Bool, true, false, if◌then◌else◌, Option, Some, None}
use Rattle.std.proofs.Common.{Result, Ok, Err, List, [], ◌∷◌, ◌++◌, length, length-drop, refl, ap, sym, ◌∙◌, arith}
use Rattle.std.proofs.lemmas.Bool.Decides.{nat_tests}
use Rattle.std.proofs.Math.ListN.{length-set}
use Rattle.bearer.specs.declared.flow.Flow.{Flow}
use Rattle.bearer.specs.declared.flow.Flow.TheVariants.{Tm, Um, Am}
use Rattle.bearer.specs.declared.flow.StoppedFlow.{StoppedFlow}
use Rattle.bearer.specs.declared.flow.StoppedFlow.TheVariants as stops
use Rattle.bearer.specs.Bearer.{flow_of}
use Rattle.bearer.specs.Hearing.{arrived, expired, ticked, with_discard}
use Rattle.bearer.specs.Lives.{restarted}
use Rattle.bearer.specs.Submitting.{refusal, submitted}
use Rattle.bearer.specs.Acknowledged.State.{State as AmState, Work, work, has_more, fresh as fresh_am}
use Rattle.bearer.specs.Acknowledged.Hearing.{settled_if, heard_work, hears, hears_all, status_work}
use Rattle.bearer.specs.Acknowledged.Hearing.{arrived_left as am_arrived_left, after_arrival as am_after_arrival}
use Rattle.bearer.specs.Acknowledged.Hearing.{confirms, all_confirmed}
use Rattle.bearer.specs.Acknowledged.Lives.{restarted as am_restarted}
use Rattle.bearer.specs.Acknowledged.Timing.{Ticking, expires_if, clock_left as am_clock_left, counts, has_ended, ticks}
use Rattle.bearer.specs.Acknowledged.Timing.{discards, after_expiry as am_after_expiry, ticked as am_ticked}
use Rattle.bearer_pdcp.specs.Discarding.{after_tick as after_discards, tick_told}
use Rattle.bearer_pdcp.specs.Hearing.{applies}
use Rattle.bearer_pdcp.specs.Telling.{landed_told}
use Rattle.bearer_types.specs.declared.config.BearerConfig.{BearerConfig}
use Rattle.bearer.specs.Unacknowledged.State.{State as UmState, fresh as fresh_um}
use Rattle.bearer.specs.Unacknowledged.Hearing.{arrived_left as um_arrived_left, after_arrival as um_after_arrival}
use Rattle.bearer.specs.Unacknowledged.Hearing.{expiry_left, clock_left as um_clock_left}
use Rattle.bearer.specs.Unacknowledged.Hearing.{after_expiry as um_after_expiry, timed_left, counted_down}
use Rattle.bearer.specs.Unacknowledged.Hearing.{after_ticking}
use Rattle.eps_sec.specs.declared.Keys.{Keys}
use Rattle.l2_bits.specs.declared.fault.SubmitRefusal.TheVariants.{Empty}
use Rattle.l2_num.specs.Timers.{ends, runs}
use Rattle.l2_types.specs.declared.channel.Kind.{Kind}
use Rattle.l2_types.specs.declared.channel.Kind.TheVariants as kinds
use Rattle.l2_types.specs.declared.event.Clock.{Clock}
use Rattle.l2_types.specs.declared.event.Clock.TheVariants.{Poll, Reorder, Prohibit}
use Rattle.l2_types.specs.declared.side.Side.{Side}
use Rattle.pdcp_rx.specs.declared.Cause.TheVariants.{Arrived}
use Rattle.rlc_am_rx.specs.Machine.{landed, turned, arrived as rx_arrived}
use Rattle.rlc_am_tx.specs.declared.answers.Heard.{Heard}
use Rattle.rlc_am_tx.specs.declared.answers.Heard.TheVariants as heard_as
use Rattle.rlc_am_tx.specs.Machine.{State as AmSender, heard, after_status, after_tick, after_expiry, settled, settles}
use Rattle.rlc_am_tx.specs.Machine.{is_ignored, applied, ended, limit_of, stops, read, read_window}
use Rattle.rlc_am_tx.specs.Machine.{expired as poll_expired, expiry_limit, with_recalled, with_owed, recalled_place}
use Rattle.law_rlc.proofs.AmSender.Carried.{ended-next, applied-next, recalled-next}
use Rattle.law_rlc.proofs.AmSender.Least.{ended-window, settled-window, heard-length}
use Rattle.rlc_am_tx_window.specs.Sent.{recalled}
use Rattle.rlc_am_tx_window.specs.Window.{TxWindow, next, slot_at, offset_of, leading_acked}
use Rattle.rlc_pdu.specs.declared.Expired.{Expired}
use Rattle.rlc_pdu.specs.declared.Expired.TheVariants.{Done, NotRunning}
use Rattle.rlc_pdu.specs.declared.RlcRefusal.{RlcRefusal}
use Rattle.rlc_pdu.specs.Pdus.{AcknowledgedPdu, Payload, Status, StatusPdu, UmdPdu}
use Rattle.rlc_pdu.specs.Reading.{am_at, umd_at}
use Rattle.rlc_queue.specs.Waiting.{HaveOctets}
use Rattle.rlc_um.specs.Receiver.{expiring}
use Rattle.rlc_um.specs.Transparent.{Transparent, refusal as tm_refusal}
use Rattle.law_node.specs.Holding.{next_number, width}

-- an SDU that waits at a transparent bearer has an octet; an acknowledged sender has at most a window of numbers that
-- aren't acknowledged
abbrev pub Stands : Flow → Type 0
Stands (Tm b) = HaveOctets b.waiting
Stands (Um b) = Unit {0}
Stands (Am b) = length b.tx.window.slots ≤ 512

-- what isn't too old before a call isn't behind it
pub record Ages (f g : Flow) : Type 0 where
  pub young : (n : ℕ) → next_number f ≤ n + width f → next_number g ≤ n + width g
  pub stands : Stands f → Stands g

pub stays : (f : Flow) → Ages f f
stays f = record { young = λ n le. le; stands = λ h. h }

pub ages_then : (f g h : Flow) → Ages f g → Ages g h → Ages f h
ages_then f g h a b = record { young = λ n le. b.young n (a.young n le); stands = λ k. b.stands (a.stands k) }

-- ---- an unacknowledged bearer

um_ages : (b d : UmState) → d.tx ≡ b.tx → Ages (Um b) (Um d)
um_ages b d e = record { young = λ n le. rw e le; stands = λ h. h }

um_arrives : (r : Result UmdPdu RlcRefusal) (b : UmState) → (um_arrived_left r b).tx ≡ b.tx
um_arrives (Err fault) b = refl
um_arrives (Ok pdu) b = refl

um_expires : (x : Expired) (b : UmState) → (expiry_left x b).tx ≡ b.tx
um_expires NotRunning b = refl
um_expires (Done again) b = refl

um_clock : (clock : Clock) (b : UmState) → (um_clock_left clock b).tx ≡ b.tx
um_clock Poll b = refl
um_clock Reorder b = um_expires (expiring b.rx) b
um_clock Prohibit b = refl

um_expired_same : (clock : Clock) (b : UmState) → (um_after_expiry b clock).tx ≡ b.tx
unfolding um_after_expiry
um_expired_same clock b = um_clock clock b

um_timed : (t : Bool) (b : UmState) → (timed_left t b).tx ≡ b.tx
um_timed true b = um_expired_same Reorder b
um_timed false b = refl

-- ---- an acknowledged sender

pub record Keeps (s t : AmSender) : Type 0 where
  pub next_is : next t.window ≡ next s.window
  pub few : length s.window.slots ≤ 512 → length t.window.slots ≤ 512

am_ages : (b d : AmState) → Keeps b.tx d.tx → Ages (Am b) (Am d)
am_ages b d k = record { young = λ n le. omega (arith, k.next_is, le); stands = k.few }

by_window : (s t : AmSender) → t.window ≡ s.window → Keeps s t
by_window s t e = record { next_is = ap (λ (w : TxWindow). next w) e; few = λ h. rw e h }

keeps_then : (s t u : AmSender) → Keeps s t → Keeps t u → Keeps s u
keeps_then s t u a b = record { next_is = b.next_is ∙ a.next_is; few = λ h. b.few (a.few h) }

settling : (s : AmSender) (more : Bool) → (settled s more).window ≡ s.window
settling s more = settled-window (settles s more) s

settled_keeps : (b : Bool) (w : Work) → Keeps w.tx (settled_if b w).tx
settled_keeps true w = by_window w.tx (settled w.tx (has_more w.pdcp)) (settling w.tx (has_more w.pdcp))
settled_keeps false w = by_window w.tx w.tx refl

hears_keeps : (sdus : List (List ℕ)) (w : Work) → Keeps w.tx (hears_all sdus w).tx
hears_keeps [] w = by_window w.tx w.tx refl
hears_keeps (sdu ∷ sdus) w =
    keeps_then w.tx (hears sdu w).tx (hears_all sdus (hears sdu w)).tx
    (settled_keeps (applies sdu Arrived w.pdcp) (heard_work sdu w)) (hears_keeps sdus (hears sdu w))

read_few : (s : AmSender) (below : ℕ) (p : StatusPdu) → length s.window.slots ≤ 512
    → length (applied s below p.nacks).window.slots ≤ 512
read_few s below p few =
    let w = read_window s below p.nacks in
    let same =
    ap (λ (k : TxWindow). length k.slots)
    (ended-window (limit_of s below p.nacks) (stops s below p.nacks) (read s below p.nacks)) in
    omega (
      arith,
      same,
      length-drop (leading_acked w.slots) w.slots,
      heard-length s.window below s.config.max_retx p.nacks,
    )

status_by : (b : Bool) (s : AmSender) (p : StatusPdu)
    → Keeps s (if b then s else applied s (offset_of s.window.base p.ack) p.nacks)
status_by true s p = by_window s s refl
status_by false s p = record {
  next_is = applied-next s (offset_of s.window.base p.ack) p;
  few = read_few s (offset_of s.window.base p.ack) p;
}

status_keeps : (s : AmSender) (p : StatusPdu) → Keeps s (after_status s p)
unfolding after_status
status_keeps s p = status_by (is_ignored s p.ack) s p

told_keeps : (h : Heard) (w : Work) → Keeps w.tx (status_work h w).tx
told_keeps heard_as.Ignored w = by_window w.tx w.tx refl
told_keeps (heard_as.Limit sn) w = by_window w.tx w.tx refl
told_keeps (heard_as.Applied stopped) w =
    by_window w.tx (settled w.tx (has_more w.pdcp)) (settling w.tx (has_more w.pdcp))

am_arrives : (r : Result AcknowledgedPdu RlcRefusal) (b : AmState) → Keeps b.tx (am_arrived_left r b).tx
am_arrives (Err fault) b = by_window b.tx b.tx refl
am_arrives (Ok (Payload p)) b =
    hears_keeps (rx_arrived b.rx p).out.ready
    (work b.pdcp b.tx (landed_told b.pdcp.lcid (landed b.rx p) (turned b.rx p)))
am_arrives (Ok (Status p)) b =
    let s : AmSender = after_status b.tx p in
    let w : Work = work (confirms s.accounts.news b.pdcp) (all_confirmed s) [] in
    keeps_then b.tx s (status_work (heard b.tx p) w).tx (status_keeps b.tx p)
    (keeps_then s (all_confirmed s) (status_work (heard b.tx p) w).tx (by_window s (all_confirmed s) refl)
    (told_keeps (heard b.tx p) w))

recalled_few : (o : Option ℕ) (s : AmSender) → length (with_recalled o s).window.slots ≡ length s.window.slots
recalled_few None s = refl
recalled_few (Some at) s = length-set s.window.slots at (recalled s.config.max_retx (slot_at s.window.slots at))

poll_by : (b : Bool) (s : AmSender) (more : Bool)
    → Keeps s (if b then ended (expiry_limit s more) false (poll_expired s more) else s)
poll_by false s more = by_window s s refl
poll_by true s more = record {
  next_is = ended-next (expiry_limit s more) false (poll_expired s more)
      ∙ recalled-next (recalled_place s more) (with_owed s);
  few = λ h. let same =
      ap (λ (k : TxWindow). length k.slots) (ended-window (expiry_limit s more) false (poll_expired s more)) in
      omega (arith, same, recalled_few (recalled_place s more) (with_owed s));
}

poll_keeps : (s : AmSender) (more : Bool) → Keeps s (after_expiry s more)
unfolding after_expiry
poll_keeps s more = poll_by (runs s.polls.timer) s more

clock_keeps : (clock : Clock) (b : AmState) → Keeps b.tx (am_clock_left clock b).tx
clock_keeps Poll b = poll_keeps b.tx (has_more b.pdcp)
clock_keeps Reorder b = by_window b.tx b.tx refl
clock_keeps Prohibit b = by_window b.tx b.tx refl

am_expires : (clock : Clock) (b : AmState) → Keeps b.tx (am_after_expiry b clock).tx
unfolding am_after_expiry
am_expires clock b = clock_keeps clock b

counts_keeps : (clock : Clock) (b : AmState) → Keeps b.tx (counts clock b).tx
counts_keeps Poll b = by_window b.tx (after_tick b.tx) refl
counts_keeps Reorder b = by_window b.tx b.tx refl
counts_keeps Prohibit b = by_window b.tx b.tx refl

ended_keeps : (x : Bool) (clock : Clock) (t : Ticking) → Keeps t.bearer.tx (expires_if x clock t).bearer.tx
ended_keeps true clock t = am_expires clock t.bearer
ended_keeps false clock t = by_window t.bearer.tx t.bearer.tx refl

ticks_keeps : (clock : Clock) (t : Ticking) → Keeps t.bearer.tx (ticks clock t).bearer.tx
ticks_keeps clock t =
    let n : Ticking = record t { bearer = counts clock t.bearer } in
    keeps_then t.bearer.tx n.bearer.tx (ticks clock t).bearer.tx (counts_keeps clock t.bearer)
    (ended_keeps (has_ended clock t.bearer) clock n)

am_ticks : (b : AmState) → Keeps b.tx (am_ticked b).bearer.tx
unfolding am_ticked
am_ticks b =
    let t0 : Ticking = record { bearer = b; events = [] } in
    let t1 = ticks Poll t0 in
    let t2 = ticks Reorder t1 in
    let t3 = ticks Prohibit t2 in
    let told = tick_told t3.bearer.pdcp in
    keeps_then b.tx t1.bearer.tx (discards t3).bearer.tx (ticks_keeps Poll t0)
    (keeps_then t1.bearer.tx t2.bearer.tx (discards t3).bearer.tx (ticks_keeps Reorder t1)
    (keeps_then t2.bearer.tx t3.bearer.tx (discards t3).bearer.tx (ticks_keeps Prohibit t2)
    (settled_keeps (nat_lt 0 (length told)) (work (after_discards t3.bearer.pdcp) t3.bearer.tx (t3.events ++ told)))))

-- ---- any bearer

pub more_octets : (xs : List (List ℕ)) (x : List ℕ) → 0 < length x → HaveOctets xs → HaveOctets (xs ++ x ∷ [])
more_octets [] x some h = (some, tt)
more_octets (y ∷ ys) x some h = (h.0, more_octets ys x some h.1)

-- an SDU without octets is refused
pub taken_by : (t : Bool) (s : Transparent) (sdu : List ℕ) → (length sdu == 0) ≡ t → tm_refusal s sdu ≡ None
    → 0 < length sdu
unfolding tm_refusal
taken_by true s sdu e h = let no : Some Empty ≡ None = sym (rw e refl) ∙ h in cc
taken_by false s sdu e h = grind (arith, nat_tests)

pub submitted_ages : (f : Flow) (sdu : List ℕ) → refusal f sdu ≡ None → Ages f (submitted f sdu)
unfolding submitted refusal
submitted_ages (Tm b) sdu e =
    record { young = λ n le. le; stands = λ h. more_octets b.waiting sdu (taken_by (length sdu == 0) b sdu refl e) h }
submitted_ages (Um b) sdu e = record { young = λ n le. le; stands = λ h. h }
submitted_ages (Am b) sdu e = record { young = λ n le. le; stands = λ h. h }

pub discard_ages : (f : Flow) (ttis : ℕ) → Ages f (with_discard f ttis)
unfolding with_discard
discard_ages (Tm b) ttis = record { young = λ n le. le; stands = λ h. h }
discard_ages (Um b) ttis = record { young = λ n le. le; stands = λ h. h }
discard_ages (Am b) ttis = record { young = λ n le. le; stands = λ h. h }

pub arrived_ages : (f : Flow) (pdu : List ℕ) → Ages f (arrived f pdu)
unfolding arrived um_after_arrival am_after_arrival
arrived_ages (Tm b) pdu = stays (Tm b)
arrived_ages (Um b) pdu = um_ages b (um_after_arrival b pdu) (um_arrives (umd_at b.bits pdu) b)
arrived_ages (Am b) pdu = am_ages b (am_after_arrival b pdu) (am_arrives (am_at pdu) b)

pub expired_ages : (f : Flow) (clock : Clock) → Ages f (expired f clock)
unfolding expired
expired_ages (Tm b) clock = stays (Tm b)
expired_ages (Um b) clock = um_ages b (um_after_expiry b clock) (um_expired_same clock b)
expired_ages (Am b) clock = am_ages b (am_after_expiry b clock) (am_expires clock b)

pub ticked_ages : (f : Flow) → Ages f (ticked f)
unfolding ticked after_ticking
ticked_ages (Tm b) = stays (Tm b)
ticked_ages (Um b) = um_ages b (after_ticking b) (um_timed (ends b.rx.clock) (counted_down b))
ticked_ages (Am b) = am_ages b (am_ticked b).bearer (am_ticks b)

-- ---- a life begins

begun_by : (k : Kind) (c : BearerConfig) (keys : Keys) (side : Side) (f : Flow) → Ages f (flow_of k c keys side)
unfolding fresh_am fresh_um
begun_by kinds.Tm c keys side f = record { young = λ n le. omega arith; stands = λ h. tt }
begun_by kinds.Srb c keys side f = record { young = λ n le. omega arith; stands = λ h. omega arith }
begun_by kinds.Um c keys side f = record { young = λ n le. omega arith; stands = λ h. tt }
begun_by kinds.Am c keys side f = record { young = λ n le. omega arith; stands = λ h. omega arith }

pub begun_ages : (c : BearerConfig) (keys : Keys) (side : Side) (f : Flow) → Ages f (flow_of c.kind c keys side)
begun_ages c keys side f = begun_by c.kind c keys side f

pub restarted_stands : (s : StoppedFlow) (keys : Keys) → Stands (restarted s keys)
unfolding restarted am_restarted
restarted_stands stops.Tm keys = tt
restarted_stands (stops.Um b) keys = tt
restarted_stands (stops.Am b) keys = omega arith
