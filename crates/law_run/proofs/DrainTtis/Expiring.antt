-- What the expiries of timers behind a TTI of a drain are to the bearers of a channel.
use Rattle.std.proofs.Common.{◌≡◌, ◌≤◌, ℕ, zero, suc, ◌==◌, Bool, true, false, ◌&&◌, if◌then◌else◌, nat_le}
use Rattle.std.proofs.Common.{Option, None, Some}
use Rattle.std.proofs.Common.{List, [], ◌∷◌, ◌++◌, length, refl, ap, sym, subst, ◌∙◌, arith}
use Rattle.std.specs.List.{flat_map}
use Rattle.std.proofs.lemmas.Bool.Decides.{nat_tests}
use Rattle.air_link.specs.Draining.{timer_expires, receiver_expires, all_receivers_expire, receivers_expire}
use Rattle.air_link.specs.Draining.{all_senders_expire, senders_expire}
use Rattle.air_link.specs.Lines.{expires, expires_by, expires_alone, expiring}
use Rattle.air_link.specs.Link.{Link, end_of, with_end}
use Rattle.air_link.specs.Loops.{kept_by, takes, takes_all, loops}
use Rattle.air_link.specs.Telling.{delivers, fails, gathers, noted, tells, tells_all}
use Rattle.bearer.specs.declared.flow.Flow.{Flow}
use Rattle.bearer_types.specs.Lcids.{all_lcids}
use Rattle.bearer_types.specs.declared.event.Event.{Event}
use Rattle.bearer_types.specs.declared.event.Event.TheVariants as events
use Rattle.l2_node.specs.End.{End}
use Rattle.l2_node.specs.Finding.{has}
use Rattle.l2_node.specs.Hearing.{expired}
use Rattle.l2_types.specs.declared.event.Clock.{Clock}
use Rattle.l2_types.specs.declared.event.Clock.TheVariants.{Reorder, Prohibit, Poll}
use Rattle.l2_types.specs.declared.side.Side.{Side}
use Rattle.l2_types.specs.declared.side.Side.TheVariants.{Nb, Ue}
use Rattle.law_bearer.specs.AnyBearer.Calls.{Call, Expire, after, after_all}
use Rattle.law_node.specs.Calls.{Expire as EndExpire, after as after_call}
use Rattle.law_node.specs.Holding.{flow}
use Rattle.law_deliver.specs.AmFlow.Channels.{only, calls_of}
use Rattle.law_deliver.proofs.AmFlow.Channels.{calls_reach_bearers}
use Rattle.test_loop.specs.Items.{Item, item}
use Rattle.test_loop.specs.Loops.{is_on, taken_answer, after_taken}
use Rattle.law_run.specs.AnyCalls.Zero.{HasCome, HaveCome}
use Rattle.law_run.specs.DrainTtis.{HaveChannel, BothExpire, receiver_timers, sender_timers, IsLoopOff}
use Rattle.law_run.proofs.AnyCalls.Advancing.{timer_rests}
use Rattle.law_run.proofs.AnyCalls.Going.{Seen, told_seen}
use Rattle.law_run.proofs.DrainTtis.Hearing.{Ready, ready_on}

-- ---- the test loop is off

takes_off : (i : Item) (l : Link) → IsLoopOff l → takes i l ≡ l
takes_off i l off =
    ap (λ (b : Bool). if b then kept_by (taken_answer l.looping i.octets) i.lcid
    (record l { looping = after_taken l.looping i }) else l) off

takes_none : (is : List Item) (l : Link) → IsLoopOff l → takes_all is l ≡ l
takes_none [] l off = refl
takes_none (i ∷ is) l off = ap (takes_all is) (takes_off i l off) ∙ takes_none is l off

pub loops_off : (k : Link) → IsLoopOff k → loops k ≡ record k { ups = [] }
unfolding loops
loops_off k off = takes_none k.ups (record k { ups = [] }) off

-- what an end tells leaves its mode

gathers_if : (b : Bool) (i : Item) (l : Link)
    → (if b then record l { ups = l.ups ++ i ∷ [] } else l).looping.mode ≡ l.looping.mode
gathers_if true i l = refl
gathers_if false i l = refl

up_keeps : (side : Side) (lcid : ℕ) (octets : List ℕ) (l : Link)
    → (gathers side lcid octets (delivers side lcid l)).looping.mode ≡ l.looping.mode
up_keeps Nb lcid octets l = refl
up_keeps Ue lcid octets l =
    gathers_if ((is_on l.looping.mode && nat_le 3 lcid) && nat_le 1 (length octets)) (item lcid octets)
    (delivers Ue lcid l)

fail_keeps : (side : Side) (lcid : ℕ) (l : Link) → (fails side lcid l).looping.mode ≡ l.looping.mode
fail_keeps Nb lcid l = refl
fail_keeps Ue lcid l = refl

noted_keeps : (side : Side) (e : Event) (l : Link) → (noted side e l).looping.mode ≡ l.looping.mode
noted_keeps side (events.Up lcid octets) l = up_keeps side lcid octets l
noted_keeps side (events.Fail lcid sn) l = fail_keeps side lcid l
noted_keeps side e l = refl

tells_keep : (side : Side) (es : List Event) (l : Link) → (tells_all side es l).looping.mode ≡ l.looping.mode
tells_keep side [] l = refl
tells_keep side (e ∷ es) l = tells_keep side es (tells side e l) ∙ noted_keeps side e l

-- ---- one timer at one end

-- both ends, and the mode of the loop
record Left (nb ue : End) (k m : Link) : Type 0 where
  pub nb_is : m.nb ≡ nb
  pub ue_is : m.ue ≡ ue
  pub mode_is : m.looping.mode ≡ k.looping.mode

told_left : (side : Side) (es : List Event) (k : Link) → Left k.nb k.ue k (tells_all side es k)
told_left side es k = record {
  nb_is = ap (λ (s : Seen). s.nb) (told_seen side es k);
  ue_is = ap (λ (s : Seen). s.ue) (told_seen side es k);
  mode_is = tells_keep side es k;
}

looped_left : (k : Link) → IsLoopOff k → Left k.nb k.ue k (loops k)
looped_left k off = record {
  nb_is = ap (λ (m : Link). m.nb) (loops_off k off);
  ue_is = ap (λ (m : Link). m.ue) (loops_off k off);
  mode_is = ap (λ (m : Link). m.looping.mode) (loops_off k off);
}

expires_left : (r : Option (List Event)) (side : Side) (k : Link) → IsLoopOff k → Left k.nb k.ue k (expires_by r side k)
expires_left None side k off = record { nb_is = refl; ue_is = refl; mode_is = refl }
expires_left (Some es) side k off =
    let told = told_left side es k in
    let looped = looped_left (tells_all side es k) (ap is_on told.mode_is ∙ off) in
    record {
      nb_is = looped.nb_is ∙ told.nb_is;
      ue_is = looped.ue_is ∙ told.ue_is;
      mode_is = looped.mode_is ∙ told.mode_is;
    }

-- by its side, the end whose timer expires
abbrev alone_nb : (side : Side) → End → Link → End
alone_nb Nb e k = e
alone_nb Ue e k = k.nb

abbrev alone_ue : (side : Side) → End → Link → End
alone_ue Nb e k = k.ue
alone_ue Ue e k = e

with_left : (side : Side) (e : End) (k : Link) → Left (alone_nb side e k) (alone_ue side e k) k (with_end side e k)
with_left Nb e k = record { nb_is = refl; ue_is = refl; mode_is = refl }
with_left Ue e k = record { nb_is = refl; ue_is = refl; mode_is = refl }

off_with : (side : Side) (e : End) (k : Link) → IsLoopOff k → IsLoopOff (with_end side e k)
off_with Nb e k off = off
off_with Ue e k off = off

expiry_left : (side : Side) (lcid : ℕ) (clock : Clock) (k : Link) → IsLoopOff k
    → Left (alone_nb side (expired lcid clock (end_of side k)) k)
    (alone_ue side (expired lcid clock (end_of side k)) k) k (expires side lcid clock k)
unfolding expires
expiry_left side lcid clock k off =
    let e = expired lcid clock (end_of side k) in
    let m = expires_alone side lcid clock k in
    let w = with_left side e k in
    let x = expires_left (expiring side lcid clock k) side m (off_with side e k off) in
    record {
      nb_is = x.nb_is ∙ w.nb_is;
      ue_is = x.ue_is ∙ w.ue_is;
      mode_is = x.mode_is ∙ w.mode_is;
    }

-- ---- of one channel

-- what the bearers of a channel are given, and that all stands for more
record Goes (l : ℕ) (nb ue : List Call) (k m : Link) : Type 0 where
  pub nb_is : flow l m.nb ≡ after_all (flow l k.nb) nb
  pub ue_is : flow l m.ue ≡ after_all (flow l k.ue) ue
  pub off : IsLoopOff m
  pub ready : Ready l m

record Stands (l : ℕ) (k : Link) : Type 0 where
  pub off : IsLoopOff k
  pub ready : Ready l k

goes_none : (l : ℕ) (k : Link) → Stands l k → Goes l [] [] k k
goes_none l k s = record { nb_is = refl; ue_is = refl; off = s.off; ready = s.ready }

pub after_more : (cs ds : List Call) (f : Flow) → after_all f (cs ++ ds) ≡ after_all (after_all f cs) ds
after_more [] ds f = refl
after_more (c ∷ cs) ds f = after_more cs ds (after f c)

goes_then : (l : ℕ) (a b c d : List Call) (k m n : Link) → Goes l a b k m → Goes l c d m n
    → Goes l (a ++ c) (b ++ d) k n
goes_then l a b c d k m n p q = record {
  nb_is = q.nb_is ∙ ap (λ (f : Flow). after_all f c) p.nb_is ∙ sym (after_more a c (flow l k.nb));
  ue_is = q.ue_is ∙ ap (λ (f : Flow). after_all f d) p.ue_is ∙ sym (after_more b d (flow l k.ue));
  off = q.off;
  ready = q.ready;
}

stands_on : (l : ℕ) (nb ue : List Call) (k m : Link) → Goes l nb ue k m → Stands l m
stands_on l nb ue k m g = record { off = g.off; ready = g.ready }

-- an end's timer is a call of the bearer whose channel it is
expired_is : (side : Side) (l lcid : ℕ) (clock : Clock) (e : End) → HasCome side e → has l e.bearers ≡ true
    → flow l (expired lcid clock e) ≡ after_all (flow l e) (only (lcid == l) (Expire clock))
expired_is side l lcid clock e h there =
    let c = EndExpire lcid clock in
    subst (λ (y : End). flow l (after_call y c) ≡ after_all (flow l y) (calls_of l y c)) (sym h.end_is)
    (calls_reach_bearers side h.maximum h.reports h.calls c l h.given tt
    (record { adds_none = refl; moves_none = refl })
    (subst (λ (y : End). has l y.bearers ≡ true) h.end_is there))

-- a channel that an end doesn't have is another
none_only : (b : Bool) (l lcid : ℕ) (e : End) (c : Call) → (lcid == l) ≡ b → has l e.bearers ≡ true
    → has lcid e.bearers ≡ false → only b c ≡ []
none_only false l lcid e c q there none = refl
none_only true l lcid e c q there none =
    let same : lcid ≡ l = grind (arith, nat_tests) in
    let no : true ≡ false = sym there ∙ ap (λ (n : ℕ). has n e.bearers) (sym same) ∙ none in
    absurd cc

timer_nb : (b : Bool) (l lcid : ℕ) (clock : Clock) (k : Link) → has lcid k.nb.bearers ≡ b → Stands l k
    → Ready l (if b then expires Nb lcid clock k else k)
    → Goes l (only (lcid == l) (Expire clock)) [] k (if b then expires Nb lcid clock k else k)
timer_nb true l lcid clock k q s r =
    let x = expiry_left Nb lcid clock k s.off in
    record {
      nb_is = ap (flow l) x.nb_is ∙ expired_is Nb l lcid clock k.nb s.ready.come.nb s.ready.channel.0;
      ue_is = ap (flow l) x.ue_is;
      off = ap is_on x.mode_is ∙ s.off;
      ready = r;
    }
timer_nb false l lcid clock k q s r = record {
  nb_is =
      ap (after_all (flow l k.nb)) (sym (none_only (lcid == l) l lcid k.nb (Expire clock) refl s.ready.channel.0 q));
  ue_is = refl;
  off = s.off;
  ready = r;
}

timer_ue : (b : Bool) (l lcid : ℕ) (clock : Clock) (k : Link) → has lcid k.ue.bearers ≡ b → Stands l k
    → Ready l (if b then expires Ue lcid clock k else k)
    → Goes l [] (only (lcid == l) (Expire clock)) k (if b then expires Ue lcid clock k else k)
timer_ue true l lcid clock k q s r =
    let x = expiry_left Ue lcid clock k s.off in
    record {
      nb_is = ap (flow l) x.nb_is;
      ue_is = ap (flow l) x.ue_is ∙ expired_is Ue l lcid clock k.ue s.ready.come.ue s.ready.channel.1;
      off = ap is_on x.mode_is ∙ s.off;
      ready = r;
    }
timer_ue false l lcid clock k q s r = record {
  nb_is = refl;
  ue_is =
      ap (after_all (flow l k.ue)) (sym (none_only (lcid == l) l lcid k.ue (Expire clock) refl s.ready.channel.1 q));
  off = s.off;
  ready = r;
}

timers_nb : (l lcid : ℕ) (clock : Clock) (k : Link) → Stands l k
    → Goes l (only (lcid == l) (Expire clock)) [] k (timer_expires Nb clock lcid k)
unfolding timer_expires
timers_nb l lcid clock k s =
    timer_nb (has lcid k.nb.bearers) l lcid clock k refl s
    (ready_on l [] k (timer_expires Nb clock lcid k) (timer_rests Nb clock lcid k).goes s.ready)

timers_ue : (l lcid : ℕ) (clock : Clock) (k : Link) → Stands l k
    → Goes l [] (only (lcid == l) (Expire clock)) k (timer_expires Ue clock lcid k)
unfolding timer_expires
timers_ue l lcid clock k s =
    timer_ue (has lcid k.ue.bearers) l lcid clock k refl s
    (ready_on l [] k (timer_expires Ue clock lcid k) (timer_rests Ue clock lcid k).goes s.ready)

-- ---- all timers

abbrev of_receiver : ℕ → ℕ → List Call
of_receiver l lcid = only (lcid == l) (Expire Reorder) ++ only (lcid == l) (Expire Prohibit)

abbrev of_sender : ℕ → ℕ → List Call
of_sender l lcid = only (lcid == l) (Expire Poll)

receivers_nb : (l : ℕ) (lcids : List ℕ) (k : Link) → Stands l k
    → Goes l (flat_map (of_receiver l) lcids) [] k (all_receivers_expire Nb lcids k)
receivers_nb l [] k s = goes_none l k s
receivers_nb l (lcid ∷ lcids) k s =
    let m = timer_expires Nb Reorder lcid k in
    let n = receiver_expires Nb lcid k in
    let a = only (lcid == l) (Expire Reorder) in
    let b = only (lcid == l) (Expire Prohibit) in
    let to_m = timers_nb l lcid Reorder k s in
    let to_n = goes_then l a [] b [] k m n to_m (timers_nb l lcid Prohibit m (stands_on l a [] k m to_m)) in
    goes_then l (a ++ b) [] (flat_map (of_receiver l) lcids) [] k n (all_receivers_expire Nb lcids n) to_n
    (receivers_nb l lcids n (stands_on l (a ++ b) [] k n to_n))

receivers_ue : (l : ℕ) (lcids : List ℕ) (k : Link) → Stands l k
    → Goes l [] (flat_map (of_receiver l) lcids) k (all_receivers_expire Ue lcids k)
receivers_ue l [] k s = goes_none l k s
receivers_ue l (lcid ∷ lcids) k s =
    let m = timer_expires Ue Reorder lcid k in
    let n = receiver_expires Ue lcid k in
    let a = only (lcid == l) (Expire Reorder) in
    let b = only (lcid == l) (Expire Prohibit) in
    let to_m = timers_ue l lcid Reorder k s in
    let to_n = goes_then l [] a [] b k m n to_m (timers_ue l lcid Prohibit m (stands_on l [] a k m to_m)) in
    goes_then l [] (a ++ b) [] (flat_map (of_receiver l) lcids) k n (all_receivers_expire Ue lcids n) to_n
    (receivers_ue l lcids n (stands_on l [] (a ++ b) k n to_n))

senders_nb : (l : ℕ) (lcids : List ℕ) (k : Link) → Stands l k
    → Goes l (flat_map (of_sender l) lcids) [] k (all_senders_expire Nb lcids k)
senders_nb l [] k s = goes_none l k s
senders_nb l (lcid ∷ lcids) k s =
    let m = timer_expires Nb Poll lcid k in
    let to_m = timers_nb l lcid Poll k s in
    goes_then l (of_sender l lcid) [] (flat_map (of_sender l) lcids) [] k m (all_senders_expire Nb lcids m) to_m
    (senders_nb l lcids m (stands_on l (of_sender l lcid) [] k m to_m))

senders_ue : (l : ℕ) (lcids : List ℕ) (k : Link) → Stands l k
    → Goes l [] (flat_map (of_sender l) lcids) k (all_senders_expire Ue lcids k)
senders_ue l [] k s = goes_none l k s
senders_ue l (lcid ∷ lcids) k s =
    let m = timer_expires Ue Poll lcid k in
    let to_m = timers_ue l lcid Poll k s in
    goes_then l [] (of_sender l lcid) [] (flat_map (of_sender l) lcids) k m (all_senders_expire Ue lcids m) to_m
    (senders_ue l lcids m (stands_on l [] (of_sender l lcid) k m to_m))

-- each channel is asked once
receivers_once : (l : ℕ) → l ≤ 10 → flat_map (of_receiver l) all_lcids ≡ receiver_timers
receivers_once zero le = refl
receivers_once (suc zero) le = refl
receivers_once (suc (suc zero)) le = refl
receivers_once (suc (suc (suc zero))) le = refl
receivers_once (suc (suc (suc (suc zero)))) le = refl
receivers_once (suc (suc (suc (suc (suc zero))))) le = refl
receivers_once (suc (suc (suc (suc (suc (suc zero)))))) le = refl
receivers_once (suc (suc (suc (suc (suc (suc (suc zero))))))) le = refl
receivers_once (suc (suc (suc (suc (suc (suc (suc (suc zero)))))))) le = refl
receivers_once (suc (suc (suc (suc (suc (suc (suc (suc (suc zero))))))))) le = refl
receivers_once (suc (suc (suc (suc (suc (suc (suc (suc (suc (suc zero)))))))))) le = refl
receivers_once (suc (suc (suc (suc (suc (suc (suc (suc (suc (suc (suc l))))))))))) le = absurd (omega (arith, le))

senders_once : (l : ℕ) → l ≤ 10 → flat_map (of_sender l) all_lcids ≡ sender_timers
senders_once zero le = refl
senders_once (suc zero) le = refl
senders_once (suc (suc zero)) le = refl
senders_once (suc (suc (suc zero))) le = refl
senders_once (suc (suc (suc (suc zero)))) le = refl
senders_once (suc (suc (suc (suc (suc zero))))) le = refl
senders_once (suc (suc (suc (suc (suc (suc zero)))))) le = refl
senders_once (suc (suc (suc (suc (suc (suc (suc zero))))))) le = refl
senders_once (suc (suc (suc (suc (suc (suc (suc (suc zero)))))))) le = refl
senders_once (suc (suc (suc (suc (suc (suc (suc (suc (suc zero))))))))) le = refl
senders_once (suc (suc (suc (suc (suc (suc (suc (suc (suc (suc zero)))))))))) le = refl
senders_once (suc (suc (suc (suc (suc (suc (suc (suc (suc (suc (suc l))))))))))) le = absurd (omega (arith, le))

both_expire : (l : ℕ) (asked timers : List Call) (k m n : Link) → asked ≡ timers → Goes l asked [] k m
    → Goes l [] asked m n → BothExpire l timers k n
both_expire l asked timers k m n once p q = record {
  nb_is = q.nb_is ∙ p.nb_is ∙ ap (after_all (flow l k.nb)) once;
  ue_is = q.ue_is ∙ ap (λ (f : Flow). after_all f asked) p.ue_is ∙ ap (after_all (flow l k.ue)) once;
}

pub timers_expire : (k : Link) (l : ℕ) → l ≤ 10 → IsLoopOff k → HaveCome k → HaveChannel l k
    → BothExpire l receiver_timers k (receivers_expire k) × BothExpire l sender_timers k (senders_expire k)
unfolding receivers_expire senders_expire
timers_expire k l low off come channel =
    let s : Stands l k = record { off = off; ready = record { come = come; channel = channel } } in
    let m = all_receivers_expire Nb all_lcids k in
    let n = all_senders_expire Nb all_lcids k in
    let rs = flat_map (of_receiver l) all_lcids in
    let ss = flat_map (of_sender l) all_lcids in
    let to_m = receivers_nb l all_lcids k s in
    let to_n = senders_nb l all_lcids k s in (
      both_expire l rs receiver_timers k m (all_receivers_expire Ue all_lcids m) (receivers_once l low) to_m
          (receivers_ue l all_lcids m (stands_on l rs [] k m to_m)),
      both_expire l ss sender_timers k n (all_senders_expire Ue all_lcids n) (senders_once l low) to_n
          (senders_ue l all_lcids n (stands_on l ss [] k n to_n)),
    )
