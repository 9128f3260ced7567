-- The stages of a link in which no process is visited: timers, the test loop, submissions and most lines.
use Rattle.std.proofs.Common.{◌≡◌, ℕ, ◌+◌, ◌==◌, Bool, true, false, cond, if◌then◌else◌, Option, Some, None, List, []}
use Rattle.std.proofs.Common.{◌∷◌, ◌++◌, map, append-nil, refl, ap, sym, ◌∙◌}
use Rattle.std.specs.Prelude.{unwrap_or, IfSome}
use Rattle.air_link.specs.Draining.{timer_expires, receiver_expires, all_receivers_expire, receivers_expire}
use Rattle.air_link.specs.Draining.{all_senders_expire, senders_expire}
use Rattle.air_link.specs.Lines.{discards, reports, listens, no_place, submits_by, submitting, expires_by, expiring}
use Rattle.air_link.specs.Lines.{expires_alone, expires}
use Rattle.air_link.specs.Link.{Link, end_of, with_end}
use Rattle.bearer_types.specs.Lcids.{all_lcids}
use Rattle.air_link.specs.Loops.{loses, returns_by, returns, returns_all, kept_by, takes, takes_all, loops, owed, paid}
use Rattle.air_link.specs.Loops.{pays, loop_set}
use Rattle.air_link.specs.Telling.{tells_all}
use Rattle.air_link.specs.Ttis.{begins, tells_sleep, grows, times, keeps_first, timed}
use Rattle.air_record.specs.declared.record.Record.TheVariants as records
use Rattle.bearer_types.specs.declared.event.Event.{Event}
use Rattle.l2_bits.specs.declared.fault.SubmitRefusal.{SubmitRefusal}
use Rattle.l2_node.specs.End.{End}
use Rattle.bearer_types.specs.Sides.{sent_by, is_same}
use Rattle.l2_node.specs.Finding.{has}
use Rattle.l2_node.specs.Hearing.{ticked, expiry, expired}
use Rattle.l2_node.specs.Submitting.{refusal, submitted, discarding}
use Rattle.l2_types.specs.declared.event.Clock.{Clock}
use Rattle.l2_types.specs.declared.event.Clock.TheVariants.{Poll, Reorder, Prohibit}
use Rattle.l2_types.specs.declared.config.DrxConfig.{DrxConfig}
use Rattle.l2_types.specs.declared.side.Side.{Side}
use Rattle.l2_types.specs.declared.side.Side.TheVariants.{Nb, Ue}
use Rattle.law_node.specs.Calls.{Call as EndCall, SetReports, Submit, SetDiscard, Tick, TickBuckets, Expire}
use Rattle.law_node.specs.Calls.{after_submit, after as after_call, IsGiven as IsGivenTo}
use Rattle.law_node.specs.Telling.{told_of}
use Rattle.law_node.proofs.Looping.{tells_no_loop}
use Rattle.test_loop.specs.declared.Kept.{Kept}
use Rattle.test_loop.specs.declared.Kept.TheVariants.{Now, Later, Full}
use Rattle.test_loop.specs.declared.Mode.{Mode}
use Rattle.test_loop.specs.Items.{Item}
use Rattle.test_loop.specs.Loops.{is_on, is_keeping, taken_answer, after_taken, after_tick, after_set}
use Rattle.law_run.specs.AnyCalls.Runs.{Submit as StepSubmit}
use Rattle.promises.specs.Records.{sdu_of}
use Rattle.law_run.proofs.AnyCalls.Going.{own_told, other_told, Seen, told_seen}
use Rattle.law_deliver.specs.AmChannel.Delivery.{accepted, submitted_in}
use Rattle.law_deliver.specs.AmFlow.Air.{Air}
use Rattle.law_run.specs.TwoEnds.Along.{IsHandedIn}
use Rattle.law_run.specs.TwoEnds.Going.{handed_in}
use Rattle.promises.specs.Flows.{looped_at}
use Rattle.um_losses.specs.declared.cursor.Cursor.{Cursor}
use Rattle.um_losses.specs.Told.{told_in}
use Rattle.law_run.proofs.TwoEnds.Going.{Marks, none, goes_as}
use Rattle.law_run.proofs.TwoEnds.Steps.{Says, IsPlayed, by_sides, call_whats}
use Rattle.law_node.specs.Writing.{TellNone}
use Rattle.law_node.proofs.Silences.{writes_nothing}
use Rattle.bearer_types.specs.declared.event.Event.TheVariants.{Drop}
use Rattle.l2_types.specs.declared.event.Lost.TheVariants as losts
use Rattle.promises.specs.Events.{told_on}
use Rattle.promises.specs.Given.{entries_given}
use Rattle.law_run.proofs.TwoEnds.Stages.{says_so, none_flown, Stands}
use Rattle.law_run.proofs.TwoEnds.QuietEvents.{none_if as hushed, unwritten, quiet_events}
use Rattle.law_run.proofs.TwoEnds.Stages.{Hands, hands_none, Rests, rests_then, events_unlooped, says_stage, says_rests}
use Rattle.law_run.proofs.TwoEnds.Stages.{still_rests, IsPlain, says_nothing, shows_nothing, shows_events, called_nb}
use Rattle.law_run.proofs.TwoEnds.Stages.{called_ue, called_rests, plain_log, own_logged, Both, nb_calls, ue_calls}
use Rattle.law_run.proofs.TwoEnds.Stages.{says_alone}
use Rattle.law_run.proofs.TwoEnds.Stations.{Moment}

-- ---- an end's call

-- in which it tells nothing, and is submitted nothing
pub call_rests : (l : ℕ) (set : Marks) (side : Side) (c : EndCall) (k : Link) → IsPlain c → IsGivenTo c
    → IsPlayed l set c → ((e : End) → (after_call e c).sender ≡ e.sender) → told_of (end_of side k) c ≡ []
    → ((n : ℕ) → submitted_in n (end_of side k) c ≡ [])
    → Rests l set k (with_end side (after_call (end_of side k) c) k)
call_rests l set Nb c k plain g life keeps untold unsaid =
    called_rests l set Nb c [] none k (with_end Nb (after_call k.nb c) k) life
    (record {
      plain = plain;
      given = g;
      keeps = keeps;
      end_is = refl;
      other_is = refl;
      out_is = sym (append-nil k.out);
      says = says_nothing Nb k.nb c plain life.moves_none untold unsaid;
      unhanded = λ off s i. refl;
      kinds_are = refl;
      shown = shows_nothing l Nb k.nb c plain untold;
    })
call_rests l set Ue c k plain g life keeps untold unsaid =
    called_rests l set Ue c [] none k (with_end Ue (after_call k.ue c) k) life
    (record {
      plain = plain;
      given = g;
      keeps = keeps;
      end_is = refl;
      other_is = refl;
      out_is = sym (append-nil k.out);
      says = says_nothing Ue k.ue c plain life.moves_none untold unsaid;
      unhanded = λ off s i. refl;
      kinds_are = refl;
      shown = shows_nothing l Ue k.ue c plain untold;
    })

-- and in which it tells what it tells
tells_rests : (l : ℕ) (set : Marks) (side : Side) (c : EndCall) (k : Link) → IsPlain c → IsGivenTo c
    → IsPlayed l set c → ((e : End) → (after_call e c).sender ≡ e.sender)
    → ((n : ℕ) → submitted_in n (end_of side k) c ≡ []) → TellNone (told_of (end_of side k) c)
    → Rests l set k (tells_all side (told_of (end_of side k) c) (with_end side (after_call (end_of side k) c) k))
tells_rests l set Nb c k plain g life keeps unsaid quiet =
    let es = told_of k.nb c in
    let told = map (records.Of Nb) es in
    let same = told_seen Nb es (with_end Nb (after_call k.nb c) k) in
    let x : Says Nb told (λ s n. looped_at s n told) k.nb c =
    says_so Nb told (λ s n. looped_at s n told) k.nb c plain life.moves_none (quiet_events Nb es quiet)
    (own_told Nb es (tells_no_loop k.nb c)) (other_told Nb es) unsaid (λ n. sym (events_unlooped n Nb es))
    (λ sent. plain_log Nb k.nb c plain ∙ sym (own_logged Nb es (tells_no_loop k.nb c) sent)) in
    called_rests l set Nb c told none k (tells_all Nb es (with_end Nb (after_call k.nb c) k)) life
    (record {
      plain = plain;
      given = g;
      keeps = keeps;
      end_is = ap (λ (s : Seen). s.nb) same;
      other_is = ap (λ (s : Seen). s.ue) same;
      out_is = ap (λ (s : Seen). s.out) same;
      says = x;
      unhanded = λ off s i. refl;
      kinds_are = ap (λ (s : Seen). s.kinds) same;
      shown = shows_events l Nb k.nb c plain;
    })
tells_rests l set Ue c k plain g life keeps unsaid quiet =
    let es = told_of k.ue c in
    let told = map (records.Of Ue) es in
    let same = told_seen Ue es (with_end Ue (after_call k.ue c) k) in
    let x : Says Ue told (λ s n. looped_at s n told) k.ue c =
    says_so Ue told (λ s n. looped_at s n told) k.ue c plain life.moves_none (quiet_events Ue es quiet)
    (own_told Ue es (tells_no_loop k.ue c)) (other_told Ue es) (λ n. unsaid n ∙ sym (events_unlooped n Ue es))
    (λ n. refl) (λ sent. plain_log Ue k.ue c plain ∙ sym (own_logged Ue es (tells_no_loop k.ue c) sent)) in
    called_rests l set Ue c told none k (tells_all Ue es (with_end Ue (after_call k.ue c) k)) life
    (record {
      plain = plain;
      given = g;
      keeps = keeps;
      end_is = ap (λ (s : Seen). s.ue) same;
      other_is = ap (λ (s : Seen). s.nb) same;
      out_is = ap (λ (s : Seen). s.out) same;
      says = x;
      unhanded = λ off s i. refl;
      kinds_are = ap (λ (s : Seen). s.kinds) same;
      shown = shows_events l Ue k.ue c plain;
    })

-- an SDU that isn't refused is submitted
pub submit_is : (lcid : ℕ) (octets : List ℕ) (e : End) → refusal lcid octets e ≡ None
    → submitted lcid octets e ≡ after_call e (Submit lcid octets)
unfolding submitted
submit_is lcid octets e allowed =
    sym (ap (λ (r : Option SubmitRefusal). record e { bearers = (after_submit r lcid octets e).bearers }) allowed)

-- the loop's SDU is the one that it tells
loop_says : (b : Bool) (r : Option SubmitRefusal) (lcid : ℕ) (octets : List ℕ) → r ≡ None
    → accepted r b octets ≡ map sdu_of (cond b (records.Looped lcid octets ∷ []) [])
loop_says true r lcid octets e = ap (λ (x : Option SubmitRefusal). accepted x true octets) e
loop_says false r lcid octets e = ap (λ (x : Option SubmitRefusal). accepted x false octets) e

-- an SDU that is handed in
abbrev pub handed_by : Side → ℕ → List ℕ → Link → Side → ℕ → List (List ℕ)
handed_by side lcid sdu k s n = handed_in s n (StepSubmit side lcid sdu) k

none_if : (b : Bool) (sdus : List (List ℕ)) → [] ≡ sdus → [] ≡ (if b then sdus else [])
none_if true sdus e = e
none_if false sdus e = refl

refused_none : (side : Side) (lcid : ℕ) (sdu : List ℕ) (k : Link) (broken : SubmitRefusal)
    → refusal lcid sdu (end_of side k) ≡ Some broken → (s : Side) (n : ℕ) → [] ≡ handed_by side lcid sdu k s n
refused_none side lcid sdu k broken e s n =
    none_if (is_same side s) (accepted (refusal lcid sdu (end_of side k)) (lcid == n) sdu)
    (sym (ap (λ (r : Option SubmitRefusal). accepted r (lcid == n) sdu) e))

-- a timer that expires tells nothing of writing, nor one that doesn't run
expiry_quiet : (told : Option (List Event)) → IfSome told TellNone → TellNone (unwrap_or told [])
expiry_quiet None h = refl
expiry_quiet (Some es) h = h

abbrev dropped : ℕ → Event
dropped lcid = Drop lcid losts.Loop

module _ (l : ℕ) (set : Marks) where
  -- ---- the test loop

  loses_rests : (lcid : ℕ) (k : Link) → Rests l set k (loses lcid k)
  loses_rests lcid k =
      says_rests l set _ k
      (λ bits m from sent. hushed (is_same Ue from) (entries_given bits (told_on m (dropped lcid ∷ [])))
      (unwritten bits m (dropped lcid) refl)) refl refl (λ n. refl) (λ c. refl)

  returns_by_rests : (r : Option SubmitRefusal) (lcid : ℕ) (octets : List ℕ) (k : Link) → refusal lcid octets k.ue ≡ r
      → Rests l set k (returns_by r lcid octets k)
  returns_by_rests (Some broken) lcid octets k e = loses_rests lcid k
  returns_by_rests None lcid octets k e =
      let told = records.Looped lcid octets ∷ [] in
      let x : Says Ue told (λ s n. looped_at s n told) k.ue (Submit lcid octets) =
      says_so Ue told (λ s n. looped_at s n told) k.ue (Submit lcid octets) tt refl (λ bits m from sent. refl) refl
      refl (λ n. loop_says (lcid == n) (refusal lcid octets k.ue) lcid octets e) (λ n. refl) (λ sent. refl) in
      called_rests l set Ue (Submit lcid octets) told none k (returns_by None lcid octets k)
      (record { adds_none = refl; moves_none = refl; unset = λ off. refl })
      (record {
        plain = tt;
        given = tt;
        keeps = λ y. refl;
        end_is = submit_is lcid octets k.ue e;
        other_is = refl;
        out_is = refl;
        says = x;
        unhanded = λ off s i. refl;
        kinds_are = refl;
        shown =
            λ bits. by_sides (λ from. (p : Cursor) → told_in (sent_by from) l p told
            ≡ call_whats Ue l k.ue (Submit lcid octets) bits from) (λ p. refl) (λ p. refl);
      })

  returns_if : (b : Bool) (lcid : ℕ) (octets : List ℕ) (k : Link)
      → Rests l set k (if b then returns_by (refusal lcid octets k.ue) lcid octets k else loses lcid k)
  returns_if true lcid octets k = returns_by_rests (refusal lcid octets k.ue) lcid octets k refl
  returns_if false lcid octets k = loses_rests lcid k

  returns_rests : (lcid : ℕ) (octets : List ℕ) (k : Link) → Rests l set k (returns lcid octets k)
  returns_rests lcid octets k = returns_if (has lcid k.ue.bearers) lcid octets k

  returns_all_rests : (is : List Item) (k : Link) → Rests l set k (returns_all is k)
  returns_all_rests [] k = still_rests l set k k refl refl refl (λ b s. s)
  returns_all_rests (i ∷ is) k =
      let m = returns i.lcid i.octets k in
      rests_then l set k m (returns_all is m) (returns_rests i.lcid i.octets k) (returns_all_rests is m)

  kept_rests : (kept : Kept) (lcid : ℕ) (k : Link) → Rests l set k (kept_by kept lcid k)
  kept_rests (Now octets) lcid k = returns_rests lcid octets k
  kept_rests Later lcid k = still_rests l set k k refl refl refl (λ b s. s)
  kept_rests Full lcid k = loses_rests lcid k

  takes_if : (b : Bool) (i : Item) (k : Link)
      → Rests l set k (if b then kept_by (taken_answer k.looping i.octets) i.lcid
      (record k { looping = after_taken k.looping i }) else k)
  takes_if true i k =
      let m : Link = record k { looping = after_taken k.looping i } in
      let kept = taken_answer k.looping i.octets in
      rests_then l set k m (kept_by kept i.lcid m) (still_rests l set k m refl refl refl (λ b s. s))
      (kept_rests kept i.lcid m)
  takes_if false i k = still_rests l set k k refl refl refl (λ b s. s)

  takes_all_rests : (is : List Item) (k : Link) → Rests l set k (takes_all is k)
  takes_all_rests [] k = still_rests l set k k refl refl refl (λ b s. s)
  takes_all_rests (i ∷ is) k =
      let m = takes i k in
      rests_then l set k m (takes_all is m) (takes_if (is_on k.looping.mode) i k) (takes_all_rests is m)

  pub loops_rests : (k : Link) → Rests l set k (loops k)
  unfolding loops
  loops_rests k =
      let m : Link = record k { ups = [] } in
      rests_then l set k m (takes_all k.ups m) (still_rests l set k m refl refl refl (λ b s. s))
      (takes_all_rests k.ups m)

  pays_rests : (k : Link) → Rests l set k (pays k)
  unfolding pays
  pays_rests k =
      let m : Link = record k { looping = paid k.looping } in
      let is = owed k.looping in
      rests_then l set k m (returns_all is m) (still_rests l set k m refl refl refl (λ b s. s)) (returns_all_rests is m)

  pub loop_set_rests : (mode : Mode) (k : Link) → Rests l set k (loop_set mode k)
  unfolding loop_set
  loop_set_rests mode k =
      let m : Link = record k { looping = after_set k.looping mode } in
      rests_then l set k m (pays m) (still_rests l set k m refl refl refl (λ b s. s)) (pays_rests m)

  -- ---- timers of a TTI

  grows_rests : (side : Side) (k : Link) → Rests l set k (grows side k)
  grows_rests Nb k =
      call_rests l set Nb TickBuckets k tt tt (record { adds_none = refl; moves_none = refl; unset = λ off. refl })
      (λ e. refl) refl (λ n. refl)
  grows_rests Ue k =
      call_rests l set Ue TickBuckets k tt tt (record { adds_none = refl; moves_none = refl; unset = λ off. refl })
      (λ e. refl) refl (λ n. refl)

  times_rests : (side : Side) (k : Link) → Rests l set k (times side k)
  times_rests side k =
      let e = end_of side k in
      let m = tells_all side (ticked e).events (with_end side (after_call e Tick) k) in
      rests_then l set k m (grows side m)
      (tells_rests l set side Tick k tt tt (record { adds_none = refl; moves_none = refl; unset = λ off. refl })
      (λ x. refl) (λ n. refl) (writes_nothing e).ticking) (grows_rests side m)

  keeps_if : (b : Bool) (k : Link) → Rests l set k (if b then loops k else k)
  keeps_if true k = loops_rests k
  keeps_if false k = still_rests l set k k refl refl refl (λ b s. s)

  timed_rests : (k : Link) → Rests l set k (timed k)
  unfolding timed
  timed_rests k =
      let j : Link = record k { looping = after_tick k.looping } in
      let m = times Nb j in
      let n = times Ue m in
      let o = keeps_first n in
      let to_m = rests_then l set k j m (still_rests l set k j refl refl refl (λ b s. s)) (times_rests Nb j) in
      let to_n = rests_then l set k m n to_m (times_rests Ue m) in
      rests_then l set k o (pays o) (rests_then l set k n o to_n (keeps_if (is_keeping n.looping.mode) n))
      (pays_rests o)

  sleep_rests : (asleep : Bool) (k : Link) → Rests l set k (tells_sleep asleep k)
  sleep_rests true k = says_rests l set records.Sleep k (λ bits m from sent. refl) refl refl (λ n. refl) (λ c. refl)
  sleep_rests false k = still_rests l set k k refl refl refl (λ b s. s)

  begins_rests : (k : Link) → Rests l set k (begins k)
  begins_rests k =
      let m : Link = record k { ttis = k.ttis + 1 } in
      rests_then l set k m (begins k) (still_rests l set k m refl refl refl (λ b s. s))
      (says_rests l set (records.Tti k.ttis) m (λ bits n from sent. refl) refl refl (λ n. refl) (λ c. refl))

  -- what comes before the blocks of a TTI
  pub woken_rests : (asleep : Bool) (k : Link) → Rests l set k (timed (tells_sleep asleep (begins k)))
  woken_rests asleep k =
      let m = begins k in
      let n = tells_sleep asleep m in
      rests_then l set k n (timed n) (rests_then l set k m n (begins_rests k) (sleep_rests asleep m)) (timed_rests n)

  pub grown_rests : (k : Link) → Rests l set k (grows Ue (grows Nb (begins k)))
  grown_rests k =
      let m = begins k in
      let n = grows Nb m in
      rests_then l set k n (grows Ue n) (rests_then l set k m n (begins_rests k) (grows_rests Nb m)) (grows_rests Ue n)

  -- ---- a timer expires

  expires_if : (r : Option (List Event)) (side : Side) (k : Link)
      → Rests l set (tells_all side (unwrap_or r []) k) (expires_by r side k)
  expires_if None side k = still_rests l set k k refl refl refl (λ b s. s)
  expires_if (Some events) side k = loops_rests (tells_all side events k)

  pub expires_rests : (side : Side) (lcid : ℕ) (clock : Clock) (k : Link) → Rests l set k (expires side lcid clock k)
  unfolding expires expired
  expires_rests side lcid clock k =
      let m = expires_alone side lcid clock k in
      let r = expiring side lcid clock k in
      rests_then l set k (tells_all side (unwrap_or r []) m) (expires_by r side m)
      (tells_rests l set side (Expire lcid clock) k tt tt
      (record { adds_none = refl; moves_none = refl; unset = λ off. refl }) (λ e. refl) (λ n. refl)
      (expiry_quiet (expiry lcid clock (end_of side k)) ((writes_nothing (end_of side k)).expiring lcid clock)))
      (expires_if r side m)

  timer_if : (b : Bool) (side : Side) (clock : Clock) (lcid : ℕ) (k : Link)
      → Rests l set k (if b then expires side lcid clock k else k)
  timer_if true side clock lcid k = expires_rests side lcid clock k
  timer_if false side clock lcid k = still_rests l set k k refl refl refl (λ b s. s)

  timer_rests : (side : Side) (clock : Clock) (lcid : ℕ) (k : Link) → Rests l set k (timer_expires side clock lcid k)
  unfolding timer_expires
  timer_rests side clock lcid k = timer_if (has lcid (end_of side k).bearers) side clock lcid k

  all_receivers_rest : (side : Side) (lcids : List ℕ) (k : Link) → Rests l set k (all_receivers_expire side lcids k)
  all_receivers_rest side [] k = still_rests l set k k refl refl refl (λ b s. s)
  all_receivers_rest side (lcid ∷ lcids) k =
      let m = timer_expires side Reorder lcid k in
      let n = receiver_expires side lcid k in
      rests_then l set k n (all_receivers_expire side lcids n)
      (rests_then l set k m n (timer_rests side Reorder lcid k) (timer_rests side Prohibit lcid m))
      (all_receivers_rest side lcids n)

  all_senders_rest : (side : Side) (lcids : List ℕ) (k : Link) → Rests l set k (all_senders_expire side lcids k)
  all_senders_rest side [] k = still_rests l set k k refl refl refl (λ b s. s)
  all_senders_rest side (lcid ∷ lcids) k =
      let m = timer_expires side Poll lcid k in
      rests_then l set k m (all_senders_expire side lcids m) (timer_rests side Poll lcid k)
      (all_senders_rest side lcids m)

  pub receivers_rest : (k : Link) → Rests l set k (receivers_expire k)
  unfolding receivers_expire
  receivers_rest k =
      let m = all_receivers_expire Nb all_lcids k in
      rests_then l set k m (all_receivers_expire Ue all_lcids m) (all_receivers_rest Nb all_lcids k)
      (all_receivers_rest Ue all_lcids m)

  pub senders_rest : (k : Link) → Rests l set k (senders_expire k)
  unfolding senders_expire
  senders_rest k =
      let m = all_senders_expire Nb all_lcids k in
      rests_then l set k m (all_senders_expire Ue all_lcids m) (all_senders_rest Nb all_lcids k)
      (all_senders_rest Ue all_lcids m)

  -- ---- lines

  pub discards_rests : (lcid ttis : ℕ) (k : Link) → (set.sets ≡ false → (lcid == l) ≡ false)
      → Rests l set k (discards lcid ttis k)
  unfolding discards discarding
  discards_rests lcid ttis k unset =
      let c = SetDiscard lcid ttis in
      let m = with_end Nb (after_call k.nb c) k in
      rests_then l set k m (with_end Ue (after_call m.ue c) m)
      (call_rests l set Nb c k tt tt (record { adds_none = refl; moves_none = refl; unset = unset }) (λ e. refl)
      refl (λ n. refl))
      (call_rests l set Ue c m tt tt (record { adds_none = refl; moves_none = refl; unset = unset }) (λ e. refl) refl
      (λ n. refl))

  pub reports_rests : (k : Link) → Rests l set k (reports k)
  unfolding reports
  reports_rests k =
      call_rests l set Ue (SetReports true) k tt tt
      (record { adds_none = refl; moves_none = refl; unset = λ off. refl }) (λ e. refl) refl (λ n. refl)

  pub listens_rests : (c : DrxConfig) (k : Link) → Rests l set k (listens c k)
  unfolding listens
  listens_rests c k = still_rests l set k (listens c k) refl refl refl (λ b s. s)

  submits_by_hands : set.hands ≡ true → (broken : Option SubmitRefusal) (side : Side) (lcid : ℕ) (sdu : List ℕ)
      (k : Link) → refusal lcid sdu (end_of side k) ≡ broken → (n u : Moment)
      → Hands l set (handed_by side lcid sdu k) (Stands Nb n) (Stands Ue u) (Stands Nb n) (Stands Ue u) k
      (submits_by broken side lcid sdu k)
  submits_by_hands on (Some broken) side lcid sdu k e n u =
      let P = Stands Nb n in
      let Q = Stands Ue u in
      hands_none l set (handed_by side lcid sdu k) P Q P Q k (submits_by (Some broken) side lcid sdu k)
      (refused_none side lcid sdu k broken e)
      (says_stage l set (records.Refused side lcid (no_place broken)) k P Q (λ bits m from sent. refl) refl refl
      (λ i. refl) (λ c. refl))
  submits_by_hands on None Nb lcid sdu k e n u =
      let given = handed_by Nb lcid sdu k in
      let x : Says Nb [] (λ s i. given s i ++ looped_at s i []) k.nb (Submit lcid sdu) =
      says_so Nb [] (λ s i. given s i ++ looped_at s i []) k.nb (Submit lcid sdu) tt refl none_flown refl refl
      (λ i. sym (append-nil (submitted_in i k.nb (Submit lcid sdu)))) (λ i. refl) (λ sent. refl) in
      called_nb l set (Submit lcid sdu) [] given k (submits_by None Nb lcid sdu k) n (Stands Ue u)
      (record { adds_none = refl; moves_none = refl; unset = λ off. refl })
      (record {
        plain = tt;
        given = tt;
        keeps = λ y. refl;
        end_is = submit_is lcid sdu k.nb e;
        other_is = refl;
        out_is = sym (append-nil k.out);
        says = x;
        unhanded = λ off s i. absurd cc;
        kinds_are = refl;
        shown = shows_nothing l Nb k.nb (Submit lcid sdu) tt refl;
      })
  submits_by_hands on None Ue lcid sdu k e n u =
      let given = handed_by Ue lcid sdu k in
      let x : Says Ue [] (λ s i. given s i ++ looped_at s i []) k.ue (Submit lcid sdu) =
      says_so Ue [] (λ s i. given s i ++ looped_at s i []) k.ue (Submit lcid sdu) tt refl none_flown refl refl
      (λ i. sym (append-nil (submitted_in i k.ue (Submit lcid sdu)))) (λ i. refl) (λ sent. refl) in
      called_ue l set (Submit lcid sdu) [] given k (submits_by None Ue lcid sdu k) (Stands Nb n) u
      (record { adds_none = refl; moves_none = refl; unset = λ off. refl })
      (record {
        plain = tt;
        given = tt;
        keeps = λ y. refl;
        end_is = submit_is lcid sdu k.ue e;
        other_is = refl;
        out_is = sym (append-nil k.out);
        says = x;
        unhanded = λ off s i. absurd cc;
        kinds_are = refl;
        shown = shows_nothing l Ue k.ue (Submit lcid sdu) tt refl;
      })

  pub submitting_hands : set.hands ≡ true → (side : Side) (lcid : ℕ) (sdu : List ℕ) (k : Link) (n u : Moment)
      → Hands l set (handed_by side lcid sdu k) (Stands Nb n) (Stands Ue u) (Stands Nb n) (Stands Ue u) k
      (submitting side lcid sdu k)
  unfolding submitting
  submitting_hands on side lcid sdu k = submits_by_hands on (refusal lcid sdu (end_of side k)) side lcid sdu k refl

  -- by one call of its end and no record, or by no call and one record
  submits_by_alone : (on : set.hands ≡ true) (broken : Option SubmitRefusal) (side : Side) (lcid : ℕ) (sdu : List ℕ)
      (k : Link) (e : refusal lcid sdu (end_of side k) ≡ broken) (n u : Moment) (a : Air)
      (h : Both (Stands Nb n) (Stands Ue u) k a)
      → let r = submits_by_hands on broken side lcid sdu k e n u a h in
      IsHandedIn side lcid sdu k r.goes.steps r.more
  unfolding submits_by_hands hands_none goes_as
  submits_by_alone on (Some broken) side lcid sdu k e n u a h =
      let x = says_alone l set (records.Refused side lcid (no_place broken)) k (Stands Nb n) (Stands Ue u)
      (λ bits m from sent. refl) refl refl (λ i. refl) (λ c. refl) a h in
      record {
        taken = λ is. let no : Some broken ≡ None = sym e ∙ is in absurd cc;
        refused = λ why is.
            let same : Some broken ≡ Some why = sym e ∙ is in
            let equal : broken ≡ why = cc in
            (x.0, x.1 ∙ ap (λ (w : SubmitRefusal). records.Refused side lcid (no_place w) ∷ []) equal);
      }
  submits_by_alone on None Nb lcid sdu k e n u a h = record {
    taken = λ is. nb_calls l set (Submit lcid sdu) [] _ k _ n (Stands Ue u) _ _ a h;
    refused = λ why is. let no : None ≡ Some why = sym e ∙ is in absurd cc;
  }
  submits_by_alone on None Ue lcid sdu k e n u a h = record {
    taken = λ is. ue_calls l set (Submit lcid sdu) [] _ k _ (Stands Nb n) u _ _ a h;
    refused = λ why is. let no : None ≡ Some why = sym e ∙ is in absurd cc;
  }

  pub submitting_alone : (on : set.hands ≡ true) (side : Side) (lcid : ℕ) (sdu : List ℕ) (k : Link) (n u : Moment)
      (a : Air) (h : Both (Stands Nb n) (Stands Ue u) k a)
      → let r = submitting_hands on side lcid sdu k n u a h in IsHandedIn side lcid sdu k r.goes.steps r.more
  unfolding submitting submitting_hands
  submitting_alone on side lcid sdu k n u a h =
      submits_by_alone on (refusal lcid sdu (end_of side k)) side lcid sdu k refl n u a h
