-- In each line both ends go on from any air, by calls and by steps as its records tell, behind a forged block too.
use Rattle.std.proofs.Common.{◌≡◌, ℕ, Bool, false, if◌then◌else◌, Option, List, [], ◌∷◌, ◌++◌, map, append-nil, refl}
use Rattle.std.proofs.Common.{ap, sym, subst, ◌∙◌, inl}
use Rattle.std.specs.List.{AllByRecursion}
use Rattle.air_link.specs.Downlink.{hears}
use Rattle.air_link.specs.Lines.{forges as forges_block}
use Rattle.air_link.specs.Link.{Link, end_of, with_end}
use Rattle.air_link.specs.Loops.{loops}
use Rattle.air_record.specs.Cells.{next_keys}
use Rattle.air_record.specs.declared.line.Line.{Line}
use Rattle.air_record.specs.declared.line.Line.TheVariants as lines
use Rattle.air_record.specs.declared.record.Record.{Record}
use Rattle.air_record.specs.declared.record.Record.TheVariants as records
use Rattle.air_run.specs.Playing.{keys_or_none, acted, played}
use Rattle.air_text.specs.Ranges.{IsInRange}
use Rattle.bearer_types.specs.Sides.{is_same}
use Rattle.bearer_types.specs.declared.event.Event.{Event}
use Rattle.eps_sec.specs.declared.Keys.{Keys}
use Rattle.l2_node.specs.End.{End}
use Rattle.l2_types.specs.declared.side.Side.{Side}
use Rattle.l2_types.specs.declared.side.Side.TheVariants.{Nb, Ue}
use Rattle.law_deliver.specs.AmChannel.Arrival.{happened}
use Rattle.law_deliver.specs.AmChannel.Delivery.{was_submitted}
use Rattle.law_deliver.specs.AmChannel.Lives.{AirStep, AreLiving, lives, end_at, all_calls}
use Rattle.law_deliver.specs.AmFlow.Air.{Air}
use Rattle.law_deliver.proofs.AmChannel.Ends.{IsCall, all_more, are_calls, goes_by_calls}
use Rattle.law_node.specs.Calls.{Call as EndCall, Receive, after as after_call, run_end}
use Rattle.law_node.specs.Telling.{told_of, told_over}
use Rattle.law_node.proofs.Looping.{tells_no_loop}
use Rattle.law_node.proofs.Silences.{writes_nothing}
use Rattle.law_words.specs.Arrivals.{AccountEntry}
use Rattle.promises.specs.Arrival.{entries_in, entries_ended}
use Rattle.promises.specs.Delivery.{forges}
use Rattle.promises.specs.Flows.{handed_in, looped_at}
use Rattle.promises.specs.Parts.{Part, Rests, part_of_line}
use Rattle.promises.specs.Records.{events_of}
use Rattle.law_run.specs.AnyCalls.Calls as calls
use Rattle.law_run.specs.AnyCalls.Runs.{Step, Calls}
use Rattle.law_run.specs.TwoEnds.Coming.{none_yet}
use Rattle.law_run.specs.TwoEnds.Going.{GoesByAir, IsStepSince}
use Rattle.law_run.specs.TwoEnds.Logs.{LogEntry, all_tell, log_of, no_flight, logged, flight_in}
use Rattle.law_run.specs.TwoEnds.On.{IsOn}
use Rattle.law_run.proofs.AnyCalls.Calling.{calls_adds}
use Rattle.law_run.proofs.AnyCalls.Going.{Seen, told_seen, told_both, own_told, other_told, run_on, over_on}
use Rattle.law_run.proofs.Flowing.{Sdus, Happened, StepLives, GoesThrough, PartLives, step_plays, line_stays}
use Rattle.law_run.proofs.BearerWalk.{adds_one}
use Rattle.law_run.proofs.TwoEnds.Along.{logged_more, looped_more}
use Rattle.law_run.proofs.TwoEnds.Advancing.{both_on}
use Rattle.law_run.proofs.TwoEnds.Coming.{ends_come_by, come_as, come_by_none, steps_come}
use Rattle.law_run.proofs.TwoEnds.Going.{calm, station, with_station, tells_more}
use Rattle.law_run.proofs.TwoEnds.Resting.{loops_rests}
use Rattle.law_run.proofs.TwoEnds.Stages.{Both, Stands, stands_on, events_unlooped, none_looped}
use Rattle.law_run.proofs.TwoEnds.QuietEvents.{quiet_events}
use Rattle.law_run.proofs.TwoEnds.Stages.{own_logged}
use Rattle.law_run.proofs.TwoEnds.Stations.{Waits}

-- an end comes by calls, as records tell, in which it is handed SDUs
pub record ComesBy (l : ℕ) (side : Side) (handed : List (List ℕ)) (told : List Record) (e f : End) : Type 0 where
  pub calls : List EndCall
  pub are : AllByRecursion (IsCall l) calls
  pub end_is : f ≡ run_end calls e
  pub told_is : events_of side told ≡ told_over calls e
  pub submitted_is : was_submitted l calls e ≡ handed ++ looped_at side l told

-- in a line: from an air that forged blocks may have changed both ends go on by steps; what they tell of these blocks
-- stands before what they tell, build and hear in the steps
pub record Plays (l : ℕ) (ends : List AccountEntry) (p : Part) (k m : Link) : Type 0 where
  pub forged : Side → List (List ℕ)
  pub first : Air
  pub first_is : (side : Side) → end_at side first ≡ run_end (map Receive (forged side)) (end_of side k)
  pub steps : List AirStep
  pub living : AreLiving l first steps
  pub happened_is : (bits : ℕ) (from : Side)
      → happened bits l from steps first ≡ ends ++ entries_in bits l from [] m.out
  pub logged_is : logged no_flight m.out
      ≡ (all_tell Nb (told_over (map Receive (forged Nb)) (end_of Nb k))
      ++ all_tell Ue (told_over (map Receive (forged Ue)) (end_of Ue k))) ++ log_of steps first
  pub on : IsOn m (lives steps first)
  pub comes : (side : Side) → ComesBy l side (handed_in side l p m.out) m.out (end_of side k) (end_of side m)

pub at_end : (side : Side) (k : Link) (a : Air) → IsOn k a → end_at side a ≡ end_of side k
at_end Nb k a on = on.nb_is
at_end Ue k a on = on.ue_is

pub by_steps : (l : ℕ) (side : Side) (handed : List (List ℕ)) (told : List Record) (e : End) (m : Link)
    (steps : List AirStep) (a : Air) → end_at side a ≡ e → AreLiving l a steps → IsOn m (lives steps a)
    → events_of side told ≡ told_over (all_calls side steps a) (end_at side a)
    → was_submitted l (all_calls side steps a) (end_at side a) ≡ handed ++ looped_at side l told
    → ComesBy l side handed told e (end_of side m)
by_steps l side handed told e m steps a first living on told_is submitted_is =
    subst (λ (x : End). ComesBy l side handed told x (end_of side m)) first
    (record {
      calls = all_calls side steps a;
      are = are_calls l side steps a living;
      end_is = sym (at_end side m (lives steps a) on) ∙ goes_by_calls side steps a;
      told_is = told_is;
      submitted_is = submitted_is;
    })

-- ---- a line in which no block is forged

module _ (l : ℕ) (a : Air) where
  abbrev Live : List Record → Sdus → Happened → Bool → Link → Type 0
  Live told handed flown set k = GoesByAir l told handed flown set k a

  abbrev none_happened : Happened
  none_happened bits from = []

  steps_fly : (told : List Record) (handed : Sdus) (flown : Happened) (set : Bool) (s : Step) (k : Link)
      → IsStepSince l s → Live told handed flown set k → StepLives l Live told handed flown set s k
  steps_fly told handed flown set s k g h =
      let x = steps_come l told handed flown set s k a g h in
      record { more = x.more; out_is = x.out_is; alone = x.alone; log_alone = x.log_alone; lived = x.by }

  through : GoesThrough l Live
  through = record {
    same = come_as l a;
    unseen = λ told handed flown set k out h.
        ends_come_by l told handed flown set k (record k { out = out }) a refl refl refl h;
    steps = λ told handed flown set s k g own h. steps_fly told handed flown set s k g h;
  }

  by_part : (set : Bool) (ends : List AccountEntry) (p : Part) (k m : Link) → IsOn k a
      → PartLives l Live through [] none_yet none_happened set ends p m → Plays l ends p k m
  by_part set ends p k m on x = record {
    forged = λ side. [];
    first = a;
    first_is = λ side. at_end side k a on;
    steps = x.lived.steps;
    living = x.lived.living;
    happened_is = λ bits from. x.lived.happened_is bits from;
    logged_is = x.logged_are ∙ sym x.lived.logged_is;
    on = x.lived.on;
    comes = λ side. by_steps l side (handed_in side l p m.out) m.out (end_of side k) m x.lived.steps a
        (at_end side k a on) x.lived.living x.lived.on (x.told_are side ∙ x.lived.told_is side)
        (x.lived.submitted_is side l);
  }

  unforged_plays : (line : Line) (keys : Option Keys) (k : Link) → k.out ≡ [] → IsInRange line → adds_one l line ≡ false
      → forges line ≡ false → IsOn k a → Plays l (entries_ended line) (part_of_line line) k (played line keys k)
  unfolding acted
  unforged_plays (lines.Handover user rrc integrity) keys k nothing fits other own h =
      let s = Calls (calls.HandsOver (next_keys user rrc integrity (keys_or_none keys))) in
      by_part _ _ Rests k _ h
      (step_plays l Live through [] none_yet none_happened false s k Rests nothing (λ side n. refl)
      (steps_fly [] none_yet none_happened false s k tt (come_by_none l k a h)))
  unforged_plays line keys k nothing fits other own h =
      by_part _ _ _ k _ h
      (line_stays l Live through [] none_yet none_happened false line keys k nothing fits other own refl
      (come_by_none l k a h))

-- ---- a forged block comes

hearings : (l : ℕ) (blocks : List (List ℕ)) → AllByRecursion (IsCall l) (map Receive blocks)
hearings l [] = tt
hearings l (b ∷ bs) = (inl (tt, record { adds_none = refl; moves_none = refl }), hearings l bs)

hearings_submit : (l : ℕ) (blocks : List (List ℕ)) (cs : List EndCall) (e : End)
    → was_submitted l (map Receive blocks ++ cs) e ≡ was_submitted l cs (run_end (map Receive blocks) e)
hearings_submit l [] cs e = refl
hearings_submit l (b ∷ bs) cs e = hearings_submit l bs cs (after_call e (Receive b))

-- an end hears it, and then the test loop returns what goes up
module _ (l : ℕ) (block : List ℕ) (k : Link) (a : Air) (nothing : k.out ≡ []) (h : IsOn k a) where
  abbrev t : ℕ
  t = k.ttis

  abbrev es : Side → List Event
  es from = told_of (end_of from k) (Receive block)

  abbrev told : Side → List Record
  told from = map (records.Of from) (es from)

  abbrev to : Side → Side → List (List ℕ)
  to from side = if is_same from side then block ∷ [] else []

  abbrev heard : Side → Air
  heard from = with_station from (record (station from a) { end = after_call (station from a).end (Receive block) }) a

  heard_is : (from side : Side) → end_at side (heard from) ≡ run_end (map Receive (to from side)) (end_of side k)
  heard_is Nb Nb = ap (λ (x : End). after_call x (Receive block)) h.nb_is
  heard_is Nb Ue = h.ue_is
  heard_is Ue Nb = h.nb_is
  heard_is Ue Ue = ap (λ (x : End). after_call x (Receive block)) h.ue_is

  tells : (from side : Side) → events_of side (told from) ≡ told_over (map Receive (to from side)) (end_of side k)
  tells Nb Nb = own_told Nb (es Nb) (tells_no_loop k.nb (Receive block)) ∙ sym (append-nil (es Nb))
  tells Nb Ue = other_told Nb (es Nb)
  tells Ue Nb = other_told Ue (es Ue)
  tells Ue Ue = own_told Ue (es Ue) (tells_no_loop k.ue (Receive block)) ∙ sym (append-nil (es Ue))

  record Hears (from : Side) : Type 0 where
    out_is : (hears from block k).out ≡ told from
    both : Both (Stands Nb (Waits t)) (Stands Ue (Waits t)) (hears from block k) (heard from)

  hears_it : (from : Side) → Hears from
  hears_it Nb =
      let same = told_seen Nb (es Nb) (with_end Nb (after_call k.nb (Receive block)) k) in
      record {
        out_is = ap (λ (s : Seen). s.out) same ∙ ap (λ (o : List Record). o ++ told Nb) nothing;
        both = record {
          nb_is = heard_is Nb Nb ∙ sym (ap (λ (s : Seen). s.nb) same);
          ue_is = heard_is Nb Ue ∙ sym (ap (λ (s : Seen). s.ue) same);
          nb = stands_on Nb (Waits t) a.nb (Receive block) tt refl (record { is = h.nb; idle = h.nb_idle });
          ue = record { is = h.ue; idle = h.ue_idle };
        };
      }
  hears_it Ue =
      let same = told_seen Ue (es Ue) (with_end Ue (after_call k.ue (Receive block)) k) in
      record {
        out_is = ap (λ (s : Seen). s.out) same ∙ ap (λ (o : List Record). o ++ told Ue) nothing;
        both = record {
          nb_is = heard_is Ue Nb ∙ sym (ap (λ (s : Seen). s.nb) same);
          ue_is = heard_is Ue Ue ∙ sym (ap (λ (s : Seen). s.ue) same);
          nb = record { is = h.nb; idle = h.nb_idle };
          ue = stands_on Ue (Waits t) a.ue (Receive block) tt refl (record { is = h.ue; idle = h.ue_idle });
        };
      }

  first_logged : (from : Side) → logged no_flight (told from)
      ≡ all_tell Nb (told_over (map Receive (to from Nb)) (end_of Nb k))
      ++ all_tell Ue (told_over (map Receive (to from Ue)) (end_of Ue k))
  first_logged Nb =
      own_logged Nb (es Nb) (tells_no_loop k.nb (Receive block)) no_flight
      ∙ (ap (all_tell Nb) (sym (append-nil (es Nb))) ∙ sym (append-nil (all_tell Nb (es Nb ++ []))))
  first_logged Ue =
      own_logged Ue (es Ue) (tells_no_loop k.ue (Receive block)) no_flight
      ∙ ap (all_tell Ue) (sym (append-nil (es Ue)))

  forged_plays : (from : Side) → Plays l [] Rests k (calls.after (calls.Forges from block) k)
  unfolding forges_block
  forged_plays from =
      let n = hears from block k in
      let m = loops n in
      let x = hears_it from in
      let r = loops_rests l calm n (Waits t) (Waits t) (heard from) x.both in
      let steps = r.goes.steps in
      let out : m.out ≡ told from ++ r.more = r.out_is ∙ ap (λ (o : List Record). o ++ r.more) x.out_is in
      let on = subst (IsOn m) (sym r.goes.air_is)
      (both_on t m r.air (calls_adds (calls.Forges from block) k).ttis_is r.both) in
      record {
        forged = to from;
        first = heard from;
        first_is = heard_is from;
        steps = steps;
        living = r.goes.living;
        happened_is = λ bits side.
            let last = flight_in (told from) no_flight in
            r.goes.reads bits side last tt
            ∙ sym (ap (entries_in bits l side []) out
            ∙ (tells_more bits l side [] (told from) r.more
            ∙ ap (λ (hs : List AccountEntry). hs ++ entries_in bits l side last.octets r.more)
            (quiet_events from (es from) ((writes_nothing (end_of from k)).receiving block) bits l side [])));
        logged_is =
            let last = flight_in (told from) no_flight in
            ap (logged no_flight) out
            ∙ (logged_more no_flight (told from) r.more
            ∙ (ap (λ (hs : List LogEntry). hs ++ logged last r.more) (first_logged from)
            ∙ ap (λ (hs : List LogEntry). (all_tell Nb (told_over (map Receive (to from Nb)) (end_of Nb k))
            ++ all_tell Ue (told_over (map Receive (to from Ue)) (end_of Ue k))) ++ hs) (sym (r.goes.logs last tt))));
        on = on;
        comes = λ side.
            let e = end_of side k in
            let hs = map Receive (to from side) in
            let y = by_steps l side [] r.more (run_end hs e) m steps (heard from) (heard_is from side) r.goes.living on
            (r.goes.told_is side) (r.goes.submitted_is side l) in
            record {
              calls = hs ++ y.calls;
              are = all_more (IsCall l) hs y.calls (hearings l (to from side)) y.are;
              end_is = y.end_is ∙ sym (run_on hs y.calls e);
              told_is = ap (events_of side) out
                  ∙ (told_both side (told from) r.more (told_over hs e) (told_over y.calls (run_end hs e))
                  (tells from side) y.told_is ∙ sym (over_on hs y.calls e));
              submitted_is = hearings_submit l (to from side) y.calls e
                  ∙ (y.submitted_is
                  ∙ (ap (λ (xs : List (List ℕ)). xs ++ looped_at side l r.more)
                  (none_looped (told from) (λ n. events_unlooped n from (es from)) side l)
                  ∙ (looped_more side l (told from) r.more ∙ ap (looped_at side l) (sym out))));
            };
      }

-- ---- any line

pub line_plays : (l : ℕ) (a : Air) (line : Line) (keys : Option Keys) (k : Link) → k.out ≡ [] → IsInRange line
    → adds_one l line ≡ false → IsOn k a → Plays l (entries_ended line) (part_of_line line) k (played line keys k)
unfolding acted
line_plays l a (lines.Forge side octets) keys k nothing fits other h = forged_plays l octets k a nothing h side
line_plays l a line keys k nothing fits other h = unforged_plays l a line keys k nothing fits other refl h
