-- A direction of an unacknowledged bearer in a life, beside what is told of its losses: what its end that hears does.
use Rattle.std.proofs.Common.{◌≡◌, ◌⊎◌, ◌<◌, ◌≤◌, ℕ, ◌+◌, ◌*◌, Bool, true, false, if◌then◌else◌, List, [], ◌∷◌, ◌++◌}
use Rattle.std.proofs.Common.{length, Option, Some, None, Result, Ok, slice_get, slice_index_or, append-nil, refl, ap}
use Rattle.std.proofs.Common.{sym, subst, ◌∙◌, arith}
use Rattle.std.specs.List.{AllByRecursion}
use Rattle.law_rlc.specs.AmPair.Flow.{Copy}
use Rattle.bearer.specs.Unacknowledged.State.{State}
use Rattle.law_bearer.specs.AnyBearer.Calls.{Call, Submit, Take, Arrive, Expire, Tick, SetDiscard}
use Rattle.law_deliver.proofs.AmFlow.Loads.{Load, all_copies}
use Rattle.l2_num.specs.Timers.{ends}
use Rattle.l2_types.specs.declared.event.Clock.{Clock}
use Rattle.l2_types.specs.declared.event.Clock.TheVariants.{Poll, Reorder, Prohibit}
use Rattle.rlc_pdu.specs.declared.outcome.Expired.{Expired}
use Rattle.rlc_pdu.specs.declared.outcome.Expired.TheVariants.{Done, NotRunning}
use Rattle.rlc_pdu.specs.declared.fault.RlcRefusal.{RlcRefusal}
use Rattle.rlc_pdu.specs.Pdus.{UmdPdu, IsUmBits}
use Rattle.rlc_pdu.specs.Reading.{umd_at}
use Rattle.rlc_um.specs.Receiver.{State as Receiver, arrival, expiring, expired, counted}
use Rattle.rlc_um.specs.Sender.{width_of}
use Rattle.rlc_um.specs.Window.{top_of}
use Rattle.law_deliver.specs.UmFlow.Calls.{arrives, calls_in}
use Rattle.law_deliver.specs.UmFlow.Handing.{all_called}
use Rattle.law_deliver.specs.UmFlow.Pair.{BearerEnd, Calls, Comes, does, IsDone, IsNear, IsShort}
use Rattle.law_deliver.specs.UmFlow.Runs.{all_sender_steps, receiver_calls, all_receiver_calls, as_read, as_expired}
use Rattle.law_deliver.specs.UmFlow.Runs.{as_timed, ups}
use Rattle.law_deliver.proofs.UmFlow.Calls.{receives_then}
use Rattle.law_deliver.proofs.UmFlow.Flows.{IsOn, to_on}
use Rattle.law_deliver.proofs.UmFlow.Numbers.{run_more}
use Rattle.law_deliver.proofs.UmFlow.Standing.{IsCopyOf, reads_so, tops}
use Rattle.law_rlc.specs.UmPair.Air.{IsSent}
use Rattle.law_rlc.specs.UmPair.Run.{Call as ReceiverCall, Arrive as Arrives, Expire as Expires, Tick as Ticks, World}
use Rattle.law_rlc.specs.UmPair.Run.{fresh, happens, run_um_receiver, read_number}
use Rattle.law_rlc.specs.UmPair.Send.{Flow as Made, flow, at_first, joined}
use Rattle.um_losses.specs.Flow.{Flow, all_gone, after}
use Rattle.um_losses.specs.Gaps.{numbered}
use Rattle.um_losses.specs.declared.sending.InFlight.{InFlight}
use Rattle.um_losses.specs.declared.flow.Happening.{Happening}
use Rattle.um_losses.specs.declared.flow.Happening.TheVariants.{BlockArrived, TimerExpired}
use Rattle.um_losses.specs.Pdus.{is_pdu}
use Rattle.um_losses.specs.Tags.{tagged}
use Rattle.um_losses.specs.Told.{all_after}
use Rattle.law_deliver.proofs.UmGaps.Gaps.{both_false, all_counted_so}
use Rattle.law_deliver.proofs.UmGaps.Receiving.{Heard, all_heard, expiry_heard, tick_heard, near_by, arrival_heard}
use Rattle.law_deliver.proofs.UmGaps.Tags.{AllAlike, alike_at, AreTagged}

-- the PDUs that the sender has made, and the run of the receiver
abbrev pub made_in : ℕ → State → List Call → List UmdPdu
made_in bits a xs = (flow (all_sender_steps a xs) (at_first bits)).made

abbrev pub heard_in : ℕ → ℕ → State → List Call → World
heard_in bits reorder b ys = run_um_receiver (all_receiver_calls b ys) (fresh (width_of bits) reorder)

pub record Written (made tm : List UmdPdu) (begun : Bool) (f : Flow) : Type 0 where
  pub alike : AllAlike made tm
  pub tagged' : AreTagged f.sending.ended begun (joined tm)
  pub number_is : f.sending.sent ≡ length tm
  pub many : length f.sending.under_way ≡ 8

-- a PDU under way is the one that its process is told to have
pub record IsFlying (bits : ℕ) (tm : List UmdPdu) (under : List (Option InFlight)) (x : Load) : Type 0 where
  pub copy : Copy
  pub copies_are : x.copies ≡ copy ∷ []
  pub flying : InFlight
  pub is : slice_index_or under x.block.process None ≡ Some flying
  pub number_is : flying.number ≡ copy.number
  pub there : slice_get tm copy.number ≡ Some (tagged (Some flying.first) flying.pdu)
  pub range : is_pdu bits flying.pdu ≡ true

abbrev pub IsUnder : ℕ → List UmdPdu → List (Option InFlight) → Load → Type 0
IsUnder bits tm under x = ((x.copies ≡ []) × (slice_index_or under x.block.process None ≡ None))
    ⊎ IsFlying bits tm under x

pub record Tracks (bits reorder counts : ℕ) (a : State) (xs : List Call) (b : State) (ys : List Call)
    (n m : BearerEnd) (loads : List Load) (f : Flow) : Type 0 where
  pub on : IsOn bits reorder a xs b ys n m
  pub tm : List UmdPdu
  pub calls : List ReceiverCall
  pub heard : Heard bits counts (heard_in bits reorder b ys) tm calls f
  pub idle : f.receiver.joined.ready ≡ []
  pub written : Written (made_in bits a xs) tm n.bearer.tx.waiting.begun f
  pub copies_are : n.copies ≡ all_copies loads
  pub under : AllByRecursion (IsUnder bits tm f.sending.under_way) loads

-- ---- the end that hears

heard_then : (bits reorder : ℕ) (b : State) (ys : List Call) (d : State) (c : Call) → all_called b ys ≡ d
    → heard_in bits reorder b (ys ++ c ∷ []) ≡ run_um_receiver (receiver_calls d c) (heard_in bits reorder b ys)
heard_then bits reorder b ys d c q =
    let w = fresh (width_of bits) reorder in
    ap (λ (cs : List ReceiverCall). run_um_receiver cs w) (receives_then b ys (c ∷ []))
    ∙ run_more (all_receiver_calls b ys) (all_receiver_calls (all_called b ys) (c ∷ [])) w
    ∙ ap (λ (s : State). run_um_receiver (receiver_calls s c ++ []) (heard_in bits reorder b ys)) q
    ∙ ap (λ (cs : List ReceiverCall). run_um_receiver cs (heard_in bits reorder b ys)) (append-nil (receiver_calls d c))

-- what is told of a call's expiries
abbrev pub out_expired : Expired → List Happening
out_expired NotRunning = []
out_expired (Done again) = TimerExpired ∷ []

abbrev pub out_timed : Clock → Receiver → List Happening
out_timed Poll r = []
out_timed Reorder r = out_expired (expiring r)
out_timed Prohibit r = []

abbrev pub out_of : State → Call → List Happening
out_of b (Submit sdu) = []
out_of b (Take share held) = []
out_of b (Arrive pdu) = []
out_of b (Expire clock) = out_timed clock b.rx
out_of b Tick = if ends b.rx.clock then out_timed Reorder (counted b.rx) else []
out_of b (SetDiscard ttis) = []

-- only the receiver and its gaps change
pub record After (bits counts : ℕ) (w : World) (tm : List UmdPdu) (f g : Flow) : Type 0 where
  pub calls : List ReceiverCall
  pub heard : Heard bits counts w tm calls g
  pub idle : g.receiver.joined.ready ≡ []
  pub sending_is : g.sending ≡ f.sending

abbrev pub IsNoArrival : Call → Type 0
IsNoArrival (Submit sdu) = Unit {0}
IsNoArrival (Take share held) = Unit {0}
IsNoArrival (Arrive pdu) = ⊥
IsNoArrival (Expire clock) = Unit {0}
IsNoArrival Tick = Unit {0}
IsNoArrival (SetDiscard ttis) = Unit {0}

module _ (bits counts : ℕ) where
  still : (w : World) (tm : List UmdPdu) (calls : List ReceiverCall) (f : Flow) → Heard bits counts w tm calls f
      → f.receiver.joined.ready ≡ [] → After bits counts w tm f f
  still w tm calls f h i = record { calls = calls; heard = h; idle = i; sending_is = refl }

  expired_after : (x : Expired) (r : Receiver) (w : World) (tm : List UmdPdu) (calls : List ReceiverCall) (f : Flow)
      → w.state ≡ r → Heard bits counts w tm calls f → f.receiver.joined.ready ≡ []
      → After bits counts (run_um_receiver (as_expired x r) w) tm f (all_after (out_expired x) f)
  expired_after NotRunning r w tm calls f q h i = still w tm calls f h i
  expired_after (Done again) r w tm calls f q h i =
      let g : Flow = record f { receiver = expired f.receiver } in
      let one = expiry_heard bits counts w tm calls f h in
      record {
        calls = (calls ++ Expires ∷ []) ++ ups g.receiver.joined.ready;
        heard = all_heard bits counts (happens w Expires) tm (calls ++ Expires ∷ []) g (expired r).joined.ready
            (ap (λ (s : Receiver). (expired s).joined.ready) q) one;
        idle = refl;
        sending_is = refl;
      }

  timed_after : (clock : Clock) (r : Receiver) (w : World) (tm : List UmdPdu) (calls : List ReceiverCall) (f : Flow)
      → w.state ≡ r → Heard bits counts w tm calls f → f.receiver.joined.ready ≡ []
      → After bits counts (run_um_receiver (as_timed clock r) w) tm f (all_after (out_timed clock r) f)
  timed_after Poll r w tm calls f q h i = still w tm calls f h i
  timed_after Reorder r w tm calls f q h i = expired_after (expiring r) r w tm calls f q h i
  timed_after Prohibit r w tm calls f q h i = still w tm calls f h i

  ticked_after : (now : Bool) (r : Receiver) (w : World) (tm : List UmdPdu) (calls : List ReceiverCall) (f : Flow)
      → w.state ≡ r → Heard bits counts w tm calls f → f.receiver.joined.ready ≡ []
      → After bits counts (run_um_receiver (if now then as_timed Reorder r else []) w) tm f
      (all_after (if now then out_timed Reorder r else []) f)
  ticked_after true r w tm calls f q h i = timed_after Reorder r w tm calls f q h i
  ticked_after false r w tm calls f q h i = still w tm calls f h i

  called_after : (c : Call) (d : State) (w : World) (tm : List UmdPdu) (calls : List ReceiverCall) (f : Flow)
      → IsNoArrival c → w.state ≡ d.rx → Heard bits counts w tm calls f → f.receiver.joined.ready ≡ []
      → After bits counts (run_um_receiver (receiver_calls d c) w) tm f (all_after (out_of d c) f)
  called_after (Submit sdu) d w tm calls f n q h i = still w tm calls f h i
  called_after (Take share held) d w tm calls f n q h i = still w tm calls f h i
  called_after (Arrive pdu) d w tm calls f n q h i = absurd n
  called_after (Expire clock) d w tm calls f n q h i = timed_after clock d.rx w tm calls f q h i
  called_after Tick d w tm calls f n q h i =
      ticked_after (ends d.rx.clock) (counted d.rx) (happens w Ticks) tm calls f (ap counted q)
      (tick_heard bits counts w tm calls f h) i
  called_after (SetDiscard ttis) d w tm calls f n q h i = still w tm calls f h i

module _ (bits reorder counts : ℕ) (u : IsUmBits bits) where
  world_rx : (a : State) (xs : List Call) (b : State) (ys : List Call) (n m : BearerEnd)
      → IsOn bits reorder a xs b ys n m → (heard_in bits reorder b ys).state ≡ m.bearer.rx
  world_rx a xs b ys n m on = ap (λ (w : World). w.state) on.stands.w_is ∙ on.stands.receiver_is

  written_as : (made tm : List UmdPdu) (begun : Bool) (f g : Flow) → g.sending ≡ f.sending → Written made tm begun f
      → Written made tm begun g
  written_as made tm begun f g q h = subst (λ s. Written made tm begun (record g { sending = s })) (sym q)
      (record { alike = h.alike; tagged' = h.tagged'; number_is = h.number_is; many = h.many })

  -- a call that brings no PDU
  pub to_calls : (a : State) (xs : List Call) (b : State) (ys : List Call) (n m : BearerEnd) (loads : List Load)
      (f : Flow) (c : Call) → IsDone m (Calls c) → IsNoArrival c → Tracks bits reorder counts a xs b ys n m loads f
      → Tracks bits reorder counts a xs b (ys ++ c ∷ []) n (does n m (Calls c)) loads (all_after (out_of m.bearer c) f)
  to_calls a xs b ys n m loads f c g none h =
      let w = heard_in bits reorder b ys in
      let r = called_after bits counts c m.bearer w h.tm h.calls f none (world_rx a xs b ys n m h.on) h.heard h.idle in
      let k : Flow = all_after (out_of m.bearer c) f in
      record {
        on = to_on bits reorder u a xs b ys n m (Calls c) g tt h.on;
        tm = h.tm;
        calls = r.calls;
        heard = subst (λ (v : World). Heard bits counts v h.tm r.calls k)
            (sym (heard_then bits reorder b ys m.bearer c h.on.to_is)) r.heard;
        idle = r.idle;
        written = written_as (made_in bits a xs) h.tm n.bearer.tx.waiting.begun f k r.sending_is h.written;
        copies_are = h.copies_are;
        under = subst (λ s. AllByRecursion (IsUnder bits h.tm s.under_way) loads) (sym r.sending_is) h.under;
      }

  -- ---- a PDU that is under way comes

  -- what is told to have come
  abbrev arrived_as : InFlight → Flow → Flow
  arrived_as s f = record f {
    receiver = arrival (tagged (Some s.first) s.pdu) f.receiver;
    gaps = numbered s.number f.gaps;
  }

  comes_as : (p : ℕ) (s : InFlight) (f : Flow) → slice_index_or f.sending.under_way p None ≡ Some s
      → is_pdu f.bits s.pdu ≡ true → after (BlockArrived p) f ≡ all_gone (arrived_as s f)
  comes_as p s f q r = rw (q, r) refl

  read_calls : (r : Result UmdPdu RlcRefusal) (p : UmdPdu) (rx : Receiver) → r ≡ Ok p
      → as_read r rx ≡ Arrives p ∷ ups (arrival p rx).joined.ready
  read_calls r p rx q = ap (λ (x : Result UmdPdu RlcRefusal). as_read x rx) q

  pub record Came (a : State) (xs : List Call) (b : State) (ys : List Call) (n m : BearerEnd) (loads : List Load)
      (f : Flow) (p k : ℕ) : Type 0 where
    pub near : IsShort n m (Comes k)
    pub tracks : Tracks bits reorder counts a xs b (ys ++ calls_in n (Comes k)) n (does n m (Comes k)) loads
        (after (BlockArrived p) f)

  pub to_comes : (a : State) (xs : List Call) (b : State) (ys : List Call) (n m : BearerEnd) (loads : List Load)
      (f : Flow) (p k : ℕ) (c : Copy) (s : InFlight) (h : Tracks bits reorder counts a xs b ys n m loads f)
      → slice_get n.copies k ≡ Some c → IsCopyOf bits h.on.stands.f.made c
      → slice_index_or f.sending.under_way p None ≡ Some s → s.number ≡ c.number
      → slice_get h.tm c.number ≡ Some (tagged (Some s.first) s.pdu)
      → is_pdu bits s.pdu ≡ true → (after (BlockArrived p) f).gaps.long ≡ false → Came a xs b ys n m loads f p k
  to_comes a xs b ys n m loads f p k c s h at copy is same there range short =
      let on = h.on in
      let st = on.stands in
      let width = width_of bits in
      let w : World = heard_in bits reorder b ys in
      let q : UmdPdu = tagged (Some s.first) s.pdu in
      let g : Flow = arrived_as s f in
      let told : after (BlockArrived p) f ≡ all_gone g =
      comes_as p s f is (ap (λ (n : ℕ). is_pdu n s.pdu) h.heard.bits_are ∙ range) in
      let counted = all_counted_so g.receiver.joined.ready g.gaps in
      let unlong : (numbered s.number f.gaps).long ≡ false =
      (both_false g.gaps.long _ (sym counted.long_is ∙ ap (λ (x : Flow). x.gaps.long) (sym told) ∙ short)).0 in
      let near = (near_by bits counts w h.tm h.calls f s.number h.heard unlong).1 in
      let top : w.top ≡ st.w.top = ap (λ (v : World). v.top) st.w_is in
      let same_made : made_in bits a xs ≡ st.f.made = ap (λ (x : Made). x.made) st.f_is in
      let most = st.top_is in
      let recent = copy.recent in
      let sent : IsSent st.f.made width st.w copy.pdu = record {
        number = c.number;
        is = copy.is;
        low = omega (arith, most, recent);
        below = subst (λ (v : ℕ). 2 * width + c.number < v + width) top
            (subst (λ (v : ℕ). 2 * width + v < w.top + width) same near);
      } in
      let read : read_number copy.pdu w ≡ 2 * width + s.number =
      ap (read_number copy.pdu) st.w_is
      ∙ reads_so bits reorder (all_sender_steps a xs) (all_receiver_calls b ys) st.f st.w copy.pdu u st.f_is
      st.w_is st.sent' sent ∙ ap (λ (v : ℕ). 2 * width + v) (sym same) in
      let alike = alike_at (made_in bits a xs) h.tm c.number copy.pdu q h.written.alike
      (ap (λ (l : List UmdPdu). slice_get l c.number) same_made ∙ copy.is) there in
      let came : Heard bits counts (happens w (Arrives copy.pdu)) h.tm (h.calls ++ Arrives q ∷ []) g =
      arrival_heard bits counts w h.tm h.calls f s.number copy.pdu q h.heard alike (ap (slice_get h.tm) same ∙ there)
      (subst (λ (v : ℕ). w.top ≤ 2 * width + v + width) (sym same)
      (subst (λ (v : ℕ). v ≤ 2 * width + c.number + width) (sym top) (omega (arith, most, recent)))) near read in
      let rx = m.bearer.rx in
      let rx_is = world_rx a xs b ys n m on in
      let ready = (arrival copy.pdu rx).joined.ready in
      let whole : Heard bits counts (run_um_receiver (Arrives copy.pdu ∷ ups ready) w) h.tm
      ((h.calls ++ Arrives q ∷ []) ++ ups g.receiver.joined.ready) (all_gone g) =
      all_heard bits counts (happens w (Arrives copy.pdu)) h.tm (h.calls ++ Arrives q ∷ []) g ready
      (ap (λ (r : Receiver). (arrival copy.pdu r).joined.ready) rx_is) came in
      let calls : receiver_calls m.bearer (Arrive c.octets) ≡ Arrives copy.pdu ∷ ups ready =
      read_calls (umd_at m.bearer.bits c.octets) copy.pdu rx (ap (λ (v : ℕ). umd_at v c.octets) on.bits_are
      ∙ copy.read) in
      let then' : heard_in bits reorder b (ys ++ calls_in n (Comes k))
      ≡ run_um_receiver (Arrives copy.pdu ∷ ups ready) w =
      ap (λ (o : Option Copy). heard_in bits reorder b (ys ++ arrives o)) at
      ∙ heard_then bits reorder b ys m.bearer (Arrive c.octets) on.to_is
      ∙ ap (λ (cs : List ReceiverCall). run_um_receiver cs w) calls in
      let at_top : top_of rx.window ≡ st.w.top =
      tops bits reorder (all_sender_steps a xs) (all_receiver_calls b ys) n.bearer.tx rx n.copies _ _ u st in
      let close : 2 * rx.window.width + c.number < top_of rx.window + rx.window.width =
      subst (λ (v : ℕ). 2 * v + c.number < top_of rx.window + v) (sym st.width_is)
      (subst (λ (v : ℕ). 2 * width + c.number < v + width) (top ∙ sym at_top)
      (subst (λ (v : ℕ). 2 * width + v < w.top + width) same near)) in
      let short' : IsShort n m (Comes k) = subst (IsNear rx) (sym at) close in
      record {
        near = short';
        tracks = record {
          on = to_on bits reorder u a xs b ys n m (Comes k) tt short' on;
          tm = h.tm;
          calls = (h.calls ++ Arrives q ∷ []) ++ ups g.receiver.joined.ready;
          heard =
              subst (λ (x : Flow). Heard bits counts (heard_in bits reorder b (ys ++ calls_in n (Comes k))) h.tm
              ((h.calls ++ Arrives q ∷ []) ++ ups g.receiver.joined.ready) x) (sym told)
              (subst
              (λ (v : World). Heard bits counts v h.tm
              ((h.calls ++ Arrives q ∷ []) ++ ups g.receiver.joined.ready) (all_gone g)) (sym then') whole);
          idle = ap (λ (x : Flow). x.receiver.joined.ready) told;
          written = subst (λ (x : Flow). Written (made_in bits a xs) h.tm n.bearer.tx.waiting.begun x) (sym told)
              (record {
                alike = h.written.alike;
                tagged' = h.written.tagged';
                number_is = h.written.number_is;
                many = h.written.many;
              });
          copies_are = h.copies_are;
          under = subst (λ (x : Flow). AllByRecursion (IsUnder bits h.tm x.sending.under_way) loads) (sym told) h.under;
        };
      }
