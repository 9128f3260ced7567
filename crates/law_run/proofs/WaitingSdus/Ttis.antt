-- What is told of a TTI, in parts: the timers, of which only the terminal's tell of SDUs that leave its queue; what the
-- test loop returns, among what the terminal hears; and what the terminal builds.
use Rattle.std.proofs.Common.{◌≡◌, ◌≤◌, ℕ, Bool, true, false, List, [], ◌∷◌, ◌++◌, map, append-nil, refl}
use Rattle.std.proofs.Common.{append_assoc, ap, sym, subst, ◌∙◌}
use Rattle.air_link.specs.Draining.{drain_tti}
use Rattle.air_link.specs.Link.{Link, says}
use Rattle.air_link.specs.Loops.{pays}
use Rattle.air_link.specs.Ttis.{begins, sleeps, tells_sleep, ticks, times, keeps_first, timed, tti_by, tti}
use Rattle.air_record.specs.Outcomes.{missed}
use Rattle.air_record.specs.declared.line.Outcome.{Outcome}
use Rattle.air_record.specs.declared.record.Record.{Record}
use Rattle.air_record.specs.declared.record.Record.TheVariants as records
use Rattle.bearer_types.specs.declared.event.Event.{Event}
use Rattle.l2_node.specs.End.{End}
use Rattle.l2_node.specs.Hearing.{ticked}
use Rattle.l2_types.specs.declared.side.Side.{Side}
use Rattle.l2_types.specs.declared.side.Side.TheVariants.{Nb, Ue}
use Rattle.law_node.specs.Calls.{Tick}
use Rattle.law_node.specs.Telling.{told_of}
use Rattle.law_node.proofs.Looping.{tells_no_loop}
use Rattle.law_words.specs.Sequences.{◌then◌}
use Rattle.test_loop.specs.Loops.{is_keeping, after_tick}
use Rattle.promises.specs.Flows.{looped_at}
use Rattle.promises.specs.Order.{Channels, OfRecords, LoopTells, BothPassOver}
use Rattle.promises.specs.Records.{events_of}
use Rattle.law_run.specs.AnyCalls.Order.{Leaves}
use Rattle.law_run.proofs.AnyCalls.Going.{Seen, told_seen, told_both, own_told, other_told, woken_rests}
use Rattle.law_run.proofs.AnyCalls.Ordering.{leaves_then, leaves_as, loop_then}
use Rattle.law_run.proofs.AnyCalls.Ordering.{pays_tells}
use Rattle.law_run.proofs.AnyCalls.Readying.{Ready, keeps_if, times_base}
use Rattle.law_run.proofs.AnyCalls.Standing.{both_fly, drain_tells}
use Rattle.law_run.proofs.TwoEnds.Stages.{events_unlooped}
use Rattle.law_run.proofs.WaitingSdus.Calm.{calm_both, calm_loop, downlink_calm, uplink_unlooped, unlooped_both, untold}
use Rattle.law_run.proofs.WaitingSdus.Walking.{Parts}

four : (a b c d r : List Record) → (a ++ (b ++ (c ++ d))) ++ r ≡ a ++ (b ++ (c ++ (d ++ r)))
four a b c d r =
    append_assoc a (b ++ (c ++ d)) r
    ∙ ap (λ (xs : List Record). a ++ xs)
    (append_assoc b (c ++ d) r ∙ ap (λ (xs : List Record). b ++ xs) (append_assoc c d r))

three : (a b c r : List Record) → (a ++ (b ++ c)) ++ r ≡ a ++ (b ++ (c ++ r))
three a b c r = append_assoc a (b ++ c) r ∙ ap (λ (xs : List Record). a ++ xs) (append_assoc b c r)

module _ (l : ℕ) where
  -- the terminal tells this, and none comes back
  record Tells (es : List Event) (told : List Record) : Type 0 where
    unlooped : looped_at Ue l told ≡ []
    events_are : events_of Ue told ≡ es

  tells_then : (es fs : List Event) (xs ys : List Record) → Tells es xs → Tells fs ys → Tells (es ++ fs) (xs ++ ys)
  tells_then es fs xs ys p q = record {
    unlooped = unlooped_both l xs ys p.unlooped q.unlooped;
    events_are = told_both Ue xs ys es fs p.events_are q.events_are;
  }

  sleep_tells : (asleep : Bool) (k : Link) → Leaves (Tells []) k (tells_sleep asleep k)
  sleep_tells true k =
      leaves_as (Tells []) k (says records.Sleep k) (records.Sleep ∷ []) refl
      (record { unlooped = refl; events_are = refl })
  sleep_tells false k =
      leaves_as (Tells []) k k [] (sym (append-nil k.out)) (record { unlooped = refl; events_are = refl })

  base_times : (k : Link) → Leaves (Tells []) k (times Nb k)
  base_times k =
      let es = (ticked k.nb).events in
      let m = ticks Nb k in
      leaves_as (Tells []) k (times Nb k) (map (records.Of Nb) es)
      (ap (λ (s : Seen). s.out) (told_seen Nb es m))
      (record { unlooped = events_unlooped l Nb es; events_are = other_told Nb es })

  terminal_times : (k : Link) → Leaves (Tells (told_of k.ue Tick)) k (times Ue k)
  terminal_times k =
      let es = (ticked k.ue).events in
      let m = ticks Ue k in
      leaves_as (Tells es) k (times Ue k) (map (records.Of Ue) es)
      (ap (λ (s : Seen). s.out) (told_seen Ue es m))
      (record { unlooped = events_unlooped l Ue es; events_are = own_told Ue es (tells_no_loop k.ue Tick) })

  timers_told : (Rest : OfRecords) (k last : Link) → Leaves Rest (timed k) last
      → Leaves (Tells [] then Tells (told_of k.ue Tick) then LoopTells then Rest) k last
  unfolding timed
  timers_told Rest k last rest =
      let j : Link = record k { looping = after_tick k.looping } in
      let m = times Nb j in
      let n = times Ue m in
      let o = keeps_first n in
      let b = base_times j in
      let to_m = leaves_as (Tells []) k m b.more b.out_is b.in_order in
      let to_n = subst (λ (e : End). Leaves (Tells (told_of e Tick)) m n) (times_base j) (terminal_times m) in
      let to_o = loop_then n o (pays o) (keeps_if (is_keeping n.looping.mode) n) (pays_tells o) in
      leaves_then (Tells []) (Tells (told_of k.ue Tick) then LoopTells then Rest) k m last to_m
      (leaves_then (Tells (told_of k.ue Tick)) (LoopTells then Rest) m n last to_n
      (leaves_then LoopTells Rest n (pays o) last to_o rest))

  -- the parts of a TTI
  pub record TtiParts (e : End) (told : List Record) : Type 0 where
    pub parts : Parts Ue l told
    pub ticks_are : events_of Ue parts.timers ≡ told_of e Tick

  pub tti_parts : (c : Side → Channels) (up_grant : ℕ) (up : Outcome) (down_grant : ℕ) (down : Outcome) (k : Link)
      → c Nb ≡ c Ue → up_grant ≤ 9422 → down_grant ≤ 9422 → Ready c k
      → Leaves (TtiParts k.ue) k (tti up_grant up down_grant down k)
  unfolding tti tti_by
  tti_parts c up_grant up down_grant down k alike up_within within r =
      let asleep = sleeps k.ttis k in
      let m = begins k in
      let n = tells_sleep asleep m in
      let last = tti up_grant up down_grant down k in
      let Blocks = BothPassOver k.ttis k.kinds c in
      let flown = both_fly c k.ttis up_grant (missed asleep up) down_grant (missed asleep down) k (timed n) alike
      up_within within (woken_rests asleep k).goes r in
      let same : n.ue ≡ k.ue = still asleep in
      let timers = subst (λ (e : End). Leaves (Tells [] then Tells (told_of e Tick) then LoopTells then Blocks) n last)
      same (timers_told Blocks n last flown) in
      let all = leaves_then (Tells [])
      (Tells [] then Tells [] then Tells (told_of k.ue Tick) then LoopTells then Blocks) k m last
      (leaves_as (Tells []) k m (records.Tti k.ttis ∷ []) refl (record { unlooped = refl; events_are = refl }))
      (leaves_then (Tells []) (Tells [] then Tells (told_of k.ue Tick) then LoopTells then Blocks) m n last
      (sleep_tells asleep m) timers) in
      let x = all.in_order in
      let y = x.is_second in
      let z = y.is_second in
      let w = z.is_second in
      let v = w.is_second in
      let u = v.is_second in
      let s = u.is_second in
      let es = told_of k.ue Tick in
      let told = tells_then [] es x.first (y.first ++ (z.first ++ w.first)) x.is_first
      (tells_then [] es y.first (z.first ++ w.first) y.is_first
      (tells_then [] es z.first w.first z.is_first w.is_first)) in
      leaves_as (TtiParts k.ue) k last all.more all.out_is
      (record {
        parts = record {
          timers = x.first ++ (y.first ++ (z.first ++ w.first));
          middle = v.first ++ (u.first ++ s.first);
          last = s.second;
          told_is =
              x.told_are
              ∙ (ap (λ (xs : List Record). x.first ++ xs)
              (y.told_are ∙ ap (λ (xs : List Record). y.first ++ xs)
              (z.told_are ∙ ap (λ (xs : List Record). z.first ++ xs)
              (w.told_are ∙ ap (λ (xs : List Record). w.first ++ xs)
              (v.told_are ∙ ap (λ (xs : List Record). v.first ++ xs)
              (u.told_are ∙ ap (λ (xs : List Record). u.first ++ xs) s.told_are)))))
              ∙ (sym (four x.first y.first z.first w.first (v.first ++ (u.first ++ (s.first ++ s.second))))
              ∙ ap (λ (xs : List Record). (x.first ++ (y.first ++ (z.first ++ w.first))) ++ xs)
              (sym (three v.first u.first s.first s.second))));
          timed = told.unlooped;
          calm = calm_both l Ue v.first (u.first ++ s.first) (calm_loop l Ue v.first v.is_first)
              (calm_both l Ue u.first s.first (downlink_calm l k.ttis k.kinds c u.first u.is_first)
              (calm_loop l Ue s.first s.is_first));
          unlooped = uplink_unlooped l k.ttis k.kinds c s.second s.is_second;
        };
        ticks_are = told.events_are;
      })
    where
      still : (asleep : Bool) → (tells_sleep asleep (begins k)).ue ≡ k.ue
      still true = refl
      still false = refl

  -- and of one of a drain, in which no timer counts down
  pub record DrainParts (told : List Record) : Type 0 where
    pub parts : Parts Ue l told
    pub none_ticks : parts.timers ≡ []

  pub drain_parts : (c : Side → Channels) (grant : ℕ) (k : Link) → c Nb ≡ c Ue → grant ≤ 9422 → Ready c k
      → Leaves DrainParts k (drain_tti grant k)
  drain_parts c grant k alike within r =
      let all = drain_tells c grant k alike within r in
      let x = all.in_order in
      let u = x.is_second in
      let s = u.is_second in
      leaves_as DrainParts k (drain_tti grant k) all.more all.out_is
      (record {
        parts = record {
          timers = [];
          middle = x.first ++ (u.first ++ s.first);
          last = s.second;
          told_is =
              x.told_are
              ∙ (ap (λ (xs : List Record). x.first ++ xs)
              (u.told_are ∙ ap (λ (xs : List Record). u.first ++ xs) s.told_are)
              ∙ sym (three x.first u.first s.first s.second));
          timed = refl;
          calm = calm_both l Ue x.first (u.first ++ s.first)
              (untold l Ue x.first (ap (events_of Ue) x.is_first))
              (calm_both l Ue u.first s.first (downlink_calm l k.ttis k.kinds c u.first u.is_first)
              (calm_loop l Ue s.first s.is_first));
          unlooped = uplink_unlooped l k.ttis k.kinds c s.second s.is_second;
        };
        none_ticks = refl;
      })
