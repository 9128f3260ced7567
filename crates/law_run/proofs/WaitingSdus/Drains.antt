-- In a drain, TTI by TTI, the SDUs that leave a queue wait.
use Rattle.std.proofs.Common.{◌≡◌, ◌≤◌, ℕ, zero, suc, ◌+◌, Bool, true, false, List, [], ◌∷◌, ◌++◌, length, append-nil}
use Rattle.std.proofs.Common.{append_assoc, refl, ap, sym, subst, ◌∙◌, arith}
use Rattle.std.proofs.lemmas.List.{append_cancel_left}
use Rattle.air_link.specs.Draining.{drain_tti, carried, receivers_expire, is_drained}
use Rattle.air_link.specs.Link.{Link, end_of}
use Rattle.air_record.specs.declared.record.Record.{Record}
use Rattle.air_record.specs.declared.record.Record.TheVariants as records
use Rattle.air_run.specs.Draining.{shown, Drained, at_once, behind, ttis, senders_unless, round, left_by, done_by}
use Rattle.air_run.specs.Draining.{round_told, rounds, budget, drained}
use Rattle.l2_types.specs.declared.side.Side.{Side}
use Rattle.l2_types.specs.declared.side.Side.TheVariants.{Nb, Ue}
use Rattle.law_deliver.specs.AmChannel.Lives.{lives}
use Rattle.law_deliver.specs.AmFlow.Air.{Air}
use Rattle.pdcp_pdu.specs.declared.pdu.PdcpKind.{PdcpKind}
use Rattle.pdcp_sec.specs.Protection.{Protection}
use Rattle.promises.specs.Flows.{looped_at}
use Rattle.promises.specs.Order.{Channels}
use Rattle.promises.specs.Records.{events_of}
use Rattle.promises.specs.WaitingSdus.{Queue, after_records, EachMayLeave}
use Rattle.law_run.specs.AnyCalls.Calls as calls
use Rattle.law_run.specs.AnyCalls.Runs.{Step, Drains, Calls, step}
use Rattle.law_run.specs.TwoEnds.Coming.{none_yet}
use Rattle.law_run.specs.TwoEnds.Going.{IsStepSince, handed_in}
use Rattle.law_run.specs.TwoEnds.On.{IsOn}
use Rattle.law_run.proofs.AnyAir.{at_end, by_steps}
use Rattle.law_run.proofs.AnyCalls.Advancing.{call_goes_on, drain_goes}
use Rattle.law_run.proofs.AnyCalls.Readying.{Ready, both_ready_on}
use Rattle.law_run.proofs.AnyCalls.Standing.{call_tells}
use Rattle.law_run.proofs.Standing.{shown_ready}
use Rattle.law_run.proofs.TwoEnds.Coming.{same_on, come_by_none, steps_come}
use Rattle.law_run.proofs.WaitingSdus.Calm.{IsCalm, calm_receivers, calm_senders}
use Rattle.law_run.proofs.WaitingSdus.Counting.{Counted, each_may, counted_quiet, counted_end, left_in, gone, after_is}
use Rattle.law_run.proofs.WaitingSdus.Counting.{behind_records, as_queue}
use Rattle.law_run.proofs.WaitingSdus.Ttis.{DrainParts, drain_parts}
use Rattle.law_run.proofs.WaitingSdus.Walking.{Fits, Walks, walks, with_handed, fits_within, parts_counted, after_then}
use Rattle.law_run.proofs.WaitingSdus.Walking.{each_then}

pub same_end : (side : Side) (k : Link) → end_of side k ≡ end_of side (shown k)
same_end Nb k = refl
same_end Ue k = refl

pub none_handed : (q : Queue) → with_handed [] q ≡ q
none_handed q = as_queue q.leaving q.leaving (q.submitted + 0) q.submitted refl (omega arith)

module _ (kind : PdcpKind) (p : Protection) (first bits l : ℕ) (side : Side) (c : Side → Channels) (alike : c Nb ≡ c Ue)
  where
    -- ---- a step in which nothing is handed in

    record StepGoes (q : Queue) (told : List Record) (m : Link) : Type 0 where
      air : Air
      on : IsOn m air
      walks : Walks kind p first bits l side [] told q (end_of side m)

    step_goes : (s : Step) (k : Link) (a : Air) (told : List Record) (q : Queue) → IsStepSince l s
        → handed_in side l s k ≡ [] → (step s k).out ≡ k.out ++ told → IsOn k a
        → Fits kind p first bits l side q (end_of side k) → StepGoes q told (step s k)
    step_goes s k a told q g none out_is on h =
        let m = step s k in
        let x = steps_come l [] none_yet (λ n from. []) false s k a g (come_by_none l k a on) in
        let same : x.more ≡ told = append_cancel_left k.out x.more told (sym x.out_is ∙ out_is) in
        record {
          air = lives x.by.steps a;
          on = x.by.on;
          walks = walks kind p first bits l side [] told q (end_of side k) (end_of side m)
              (by_steps l side [] told (end_of side k) m x.by.steps a (at_end side k a on) x.by.living x.by.on
              (ap (events_of side) (sym same) ∙ x.by.told_is side)
              (x.by.submitted_is side l
              ∙ (ap (λ (ys : List (List ℕ)). ys ++ looped_at side l x.more) none
              ∙ ap (looped_at side l) same)))
              h;
        }

    -- ---- from a link to another, with the records in between

    record Goes (q : Queue) (k m : Link) : Type 0 where
      more : List Record
      out_is : m.out ≡ k.out ++ more
      each : EachMayLeave side l first more q
      fits : Fits kind p first bits l side (after_records side l more q) (end_of side m)
      air : Air
      on : IsOn m air
      ready : Ready c m

    goes_by : (q : Queue) (k m : Link) (told : List Record) → m.out ≡ k.out ++ told → Ready c m
        → Counted side l first told q → StepGoes q told m → Goes q k m
    goes_by q k m told out_is ready counted x = record {
      more = told;
      out_is = out_is;
      each = each_may side l first told q x.walks.turn counted;
      fits = subst (λ (r : Queue). Fits kind p first bits l side r (end_of side m))
          (ap (behind_records side l told) (none_handed q) ∙ sym (after_is side l told q)) x.walks.fits;
      air = x.air;
      on = x.on;
      ready = ready;
    }

    goes_then : (q : Queue) (k m o : Link) (g : Goes q k m) → Goes (after_records side l g.more q) m o → Goes q k o
    goes_then q k m o g h = record {
      more = g.more ++ h.more;
      out_is = h.out_is ∙ ap (λ (xs : List Record). xs ++ h.more) g.out_is ∙ append_assoc k.out g.more h.more;
      each = each_then side l first g.more h.more q g.each h.each;
      fits = subst (λ (r : Queue). Fits kind p first bits l side r (end_of side o))
          (sym (after_then side l g.more h.more q)) h.fits;
      air = h.air;
      on = h.on;
      ready = h.ready;
    }

    calm_goes : (call : calls.Call) (q : Queue) (k : Link) (a : Air) (told : List Record)
        → (calls.after call k).out ≡ k.out ++ told → IsStepSince l (Calls call) → IsCalm l side told
        → Ready c (calls.after call k) → IsOn k a → Fits kind p first bits l side q (end_of side k)
        → Goes q k (calls.after call k)
    calm_goes call q k a told out_is since calm ready on h =
        goes_by q k (calls.after call k) told out_is ready (counted_quiet side l first told q calm)
        (step_goes (Calls call) k a told q since refl out_is on h)

    -- a TTI
    tti_counted : (from : Side) (told : List Record) (q : Queue) → DrainParts l told
        → gone first q.leaving ≤ q.submitted
        → gone first (q.leaving ++ left_in from l told) ≤ q.submitted + length (looped_at from l told)
        → Counted from l first told q
    tti_counted Nb told q x before after = counted_end Nb l first told q refl (omega (arith, after))
    tti_counted Ue told q x before after =
        let none = ap (λ (xs : List Record). gone first (q.leaving ++ left_in Ue l xs)) x.none_ticks
        ∙ ap (gone first) (append-nil q.leaving) in
        parts_counted Ue l first told q x.parts (omega (arith, none, before)) after

    tti_goes : (grant : ℕ) (q : Queue) (k : Link) (a : Air) → grant ≤ 9422 → Ready c k → IsOn k a
        → Fits kind p first bits l side q (end_of side k) → Goes q k (drain_tti grant k)
    tti_goes grant q k a within ready on h =
        let m = drain_tti grant k in
        let x = drain_parts l c grant k alike within ready in
        let y = step_goes (Drains grant) k a x.more q within refl x.out_is on h in
        let behind' = fits_within kind p first bits l side _ (end_of side m) y.walks.fits in
        goes_by q k m x.more x.out_is (both_ready_on c _ k m (drain_goes grant k within).goes ready)
        (tti_counted side x.more q x.in_order (fits_within kind p first bits l side q (end_of side k) h)
        (omega (arith, behind'))) y

    -- timers
    receivers_go : (q : Queue) (k : Link) (a : Air) → Ready c k → IsOn k a
        → Fits kind p first bits l side q (end_of side k) → Goes q k (receivers_expire k)
    receivers_go q k a ready on h =
        let x = call_tells calls.ReceiversExpire c k ready in
        calm_goes calls.ReceiversExpire q k a x.more x.out_is tt (calm_receivers l side x.more x.in_order)
        (both_ready_on c [] k (receivers_expire k) (call_goes_on calls.ReceiversExpire k tt) ready) on h

    rests : (q : Queue) (k : Link) (a : Air) → Ready c k → IsOn k a
        → Fits kind p first bits l side q (end_of side k) → Goes q k k
    rests q k a ready on h = record {
      more = [];
      out_is = sym (append-nil k.out);
      each = tt;
      fits = h;
      air = a;
      on = on;
      ready = ready;
    }

    senders_go : (b : Bool) (q : Queue) (k : Link) (a : Air) → Ready c k → IsOn k a
        → Fits kind p first bits l side q (end_of side k) → Goes q k (senders_unless b k)
    senders_go true q k a ready on h = rests q k a ready on h
    senders_go false q k a ready on h =
        let x = call_tells calls.SendersExpire c k ready in
        calm_goes calls.SendersExpire q k a x.more x.out_is tt (calm_senders l side x.more x.in_order)
        (both_ready_on c [] k _ (call_goes_on calls.SendersExpire k tt) ready) on h

    round_goes : (grant : ℕ) (q : Queue) (k : Link) (a : Air) → grant ≤ 9422 → Ready c k → IsOn k a
        → Fits kind p first bits l side q (end_of side k) → Goes q k (round grant k)
    round_goes grant q k a within ready on h =
        let m = drain_tti grant k in
        let n = receivers_expire m in
        let to_m = tti_goes grant q k a within ready on h in
        let to_n = goes_then q k m n to_m
        (receivers_go (after_records side l to_m.more q) m to_m.air to_m.ready to_m.on to_m.fits) in
        goes_then q k n (senders_unless (carried m) n) to_n
        (senders_go (carried m) (after_records side l to_n.more q) n to_n.air to_n.ready to_n.on to_n.fits)

    -- ---- a part of a drain

    record Drives (q : Queue) (d : Drained) : Type 0 where
      none : d.link.out ≡ []
      each : EachMayLeave side l first d.journal q
      fits : Fits kind p first bits l side (after_records side l d.journal q) (end_of side d.link)
      air : Air
      on : IsOn d.link air
      ready : Ready c d.link

    no_turn : (q : Queue) (k : Link) (a : Air) → k.out ≡ [] → Ready c k → IsOn k a
        → Fits kind p first bits l side q (end_of side k) → Drives q (at_once k)
    no_turn q k a none ready on h = record { none = none; each = tt; fits = h; air = a; on = on; ready = ready }

    drives_then : (q : Queue) (part : List Record) (done : ℕ) (d : Drained) → EachMayLeave side l first part q
        → Drives (after_records side l part q) d → Drives q (behind part done d)
    drives_then q part done d h x = record {
      none = x.none;
      each = each_then side l first part d.journal q h x.each;
      fits = subst (λ (r : Queue). Fits kind p first bits l side r (end_of side d.link))
          (sym (after_then side l part d.journal q)) x.fits;
      air = x.air;
      on = x.on;
      ready = x.ready;
    }

    -- where nothing was told before
    record Shows (q : Queue) (m : Link) : Type 0 where
      each : EachMayLeave side l first m.out q
      fits : Fits kind p first bits l side (after_records side l m.out q) (end_of side (shown m))
      air : Air
      on : IsOn (shown m) air
      ready : Ready c (shown m)

    shows : (q : Queue) (k m : Link) → k.out ≡ [] → Goes q k m → Shows q m
    shows q k m none g =
        let same : g.more ≡ m.out = sym (g.out_is ∙ ap (λ (xs : List Record). xs ++ g.more) none) in
        record {
          each = subst (λ (xs : List Record). EachMayLeave side l first xs q) same g.each;
          fits = subst (Fits kind p first bits l side (after_records side l m.out q)) (same_end side m)
              (subst (λ (xs : List Record). Fits kind p first bits l side (after_records side l xs q) (end_of side m))
              same g.fits);
          air = g.air;
          on = same_on m (shown m) g.air refl refl refl g.on;
          ready = shown_ready c m g.ready;
        }

    ttis_go : (n grant : ℕ) (q : Queue) (k : Link) (a : Air) → grant ≤ 9422 → k.out ≡ [] → Ready c k → IsOn k a
        → Fits kind p first bits l side q (end_of side k) → Drives q (ttis n grant k)
    ttis_go zero grant q k a within none ready on h = no_turn q k a none ready on h
    ttis_go (suc n) grant q k a within none ready on h =
        let m = drain_tti grant k in
        let x = shows q k m none (tti_goes grant q k a within ready on h) in
        drives_then q m.out 0 (ttis n grant (shown m)) x.each
        (ttis_go n grant (after_records side l m.out q) (shown m) x.air within refl x.ready x.on x.fits)

    round_by : (n grant : ℕ) (q : Queue) (k : Link) (a : Air) → grant ≤ 9422 → k.out ≡ [] → Ready c k → IsOn k a
        → Fits kind p first bits l side q (end_of side k) → (b : Bool)
        → ((r : Queue) (m : Link) (e : Air) → m.out ≡ [] → Ready c m → IsOn m e
        → Fits kind p first bits l side r (end_of side m) → Drives r (rounds n grant m))
        → Drives q (behind (round_told b grant k) (done_by b) (rounds n grant (left_by b grant k)))
    round_by n grant q k a within none ready on h true rest =
        drives_then q [] 0 (rounds n grant k) tt (rest q k a none ready on h)
    round_by n grant q k a within none ready on h false rest =
        let m = round grant k in
        let x = shows q k m none (round_goes grant q k a within ready on h) in
        drives_then q m.out 1 (rounds n grant (shown m)) x.each
        (rest (after_records side l m.out q) (shown m) x.air refl x.ready x.on x.fits)

    rounds_go : (n grant : ℕ) (q : Queue) (k : Link) (a : Air) → grant ≤ 9422 → k.out ≡ [] → Ready c k → IsOn k a
        → Fits kind p first bits l side q (end_of side k) → Drives q (rounds n grant k)
    rounds_go zero grant q k a within none ready on h = no_turn q k a none ready on h
    rounds_go (suc n) grant q k a within none ready on h =
        round_by n grant q k a within none ready on h (is_drained k)
        (λ r m e nothing at gone fits. rounds_go n grant r m e within nothing at gone fits)

    -- ---- the whole

    pub drain_leaves : (grant : ℕ) (q : Queue) (k : Link) (a : Air) → grant ≤ 9422 → k.out ≡ [] → Ready c k → IsOn k a
        → Fits kind p first bits l side q (end_of side k) → EachMayLeave side l first (drained grant k).journal q
    unfolding drained
    drain_leaves grant q k a within none ready on h =
        let d = ttis 8 grant k in
        let e = rounds (budget k) grant d.link in
        let x = ttis_go 8 grant q k a within none ready on h in
        let whole = drives_then q d.journal 0 e x.each
        (rounds_go (budget k) grant (after_records side l d.journal q) d.link x.air within x.none x.ready x.on
        x.fits) in
        each_then side l first (d.journal ++ e.journal) (records.Drained (0 + e.done) ∷ []) q whole.each (tt, tt)
