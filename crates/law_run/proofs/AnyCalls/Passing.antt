-- What a TTI adds.
use Rattle.std.proofs.Common.{ℕ, Bool, true, false, if◌then◌else◌, [], ◌∷◌, ◌++◌, length, append_assoc, refl, ap, sym}
use Rattle.std.proofs.Common.{subst, ◌∙◌, ◌≡◌}
use Rattle.air_record.specs.declared.line.Outcome.{Outcome}
use Rattle.air_record.specs.declared.record.Record.TheVariants as records
use Rattle.l2_node.specs.Hearing.{ticked}
use Rattle.l2_types.specs.declared.side.Side.{Side}
use Rattle.l2_types.specs.declared.side.Side.TheVariants.{Nb, Ue}
use Rattle.prioritise.specs.Shares.{ticked as grown}
use Rattle.test_loop.specs.Loops.{is_keeping, after_tick}
use Rattle.air_link.specs.Link.{Link, end_of}
use Rattle.air_link.specs.Telling.{tells_all}
use Rattle.air_link.specs.Loops.{loops, pays}
use Rattle.air_link.specs.Uplink.{uplink}
use Rattle.air_link.specs.Draining.{drain_tti}
use Rattle.air_record.specs.Outcomes.{intact, missed}
use Rattle.air_link.specs.Ttis.{begins, sleeps, tells_sleep, grows, ticks, times, keeps_first, timed, tti_by, tti}
use Rattle.air_link.specs.Downlink.{down_order, downlink}
use Rattle.harq.specs.Receiving.{Receiving, grant_ndi}
use Rattle.harq.specs.Sending.{Sending, ndi_of}
use Rattle.law_run.specs.AnyCalls.Deeds.{TakesTurn, came_of, Answers, heard_up, up_ordered, Entities, entities}
use Rattle.law_run.specs.AnyCalls.Told.{Adds, AddsTti}
use Rattle.promises.specs.Air.{sleeping}
use Rattle.law_run.proofs.AnyCalls.Adding.{stays, adds_then, then_still, says_plain}
use Rattle.law_run.proofs.AnyCalls.Telling.{end_stays, end_tells}
use Rattle.law_run.proofs.AnyCalls.Looping.{loops_adds, pays_adds}
use Rattle.law_run.proofs.AnyCalls.Going.{loops_rests, woken_rests, grown_rests}
use Rattle.law_run.proofs.AnyCalls.Sending.{downlink_turn, uplink_turn}
use Rattle.law_run.proofs.AnyCalls.Flying.{Downs, downlink_adds, Ups, uplink_adds}

-- ---- timers

pub grows_adds : (side : Side) (l : Link) → Adds [] l (grows side l)
grows_adds side l = end_stays side (record (end_of side l) { buckets = grown (end_of side l).buckets }) l

pub times_adds : (side : Side) (l : Link) → Adds [] l (times side l)
times_adds side l =
    let r = ticked (end_of side l) in
    let m = tells_all side r.events (ticks side l) in
    adds_then [] [] l m (grows side m) (end_tells side (record (end_of side l) { bearers = r.bearers }) r.events l)
    (grows_adds side m)

keeps_if : (b : Bool) (l : Link) → Adds [] l (if b then loops l else l)
keeps_if true l = loops_adds l
keeps_if false l = stays l l refl

keeps_first_adds : (l : Link) → Adds [] l (keeps_first l)
keeps_first_adds l = keeps_if (is_keeping l.looping.mode) l

pub timed_adds : (l : Link) → Adds [] l (timed l)
unfolding timed
timed_adds l =
    let j : Link = record l { looping = after_tick l.looping } in
    let m = times Nb j in
    let n = times Ue m in
    let o = keeps_first n in
    let to_m = adds_then [] [] l j m (stays l j refl) (times_adds Nb j) in
    let to_n = adds_then [] [] l m n to_m (times_adds Ue m) in
    let to_o = adds_then [] [] l n o to_n (keeps_first_adds n) in
    adds_then [] [] l o (pays o) to_o (pays_adds o)

-- ---- the whole

sleep_adds : (asleep : Bool) (l : Link) → Adds (sleeping asleep) l (tells_sleep asleep l)
sleep_adds true l =
    says_plain records.Sleep l
    (record { no_up = λ s k. refl; no_loop = λ k. refl; no_fail = λ s k. refl; no_run = refl })
sleep_adds false l = stays l l refl

-- the downlink, the loop and the uplink
pub record Passes (t up_grant : ℕ) (up : Outcome) (down_grant : ℕ) (down : Outcome) (l m : Link) : Type 0 where
  pub downward : Downs t down_grant down l (downlink t down_grant down l)
  pub upward : Ups t up_grant up (loops (downlink t down_grant down l)) m
  pub adds : Adds (downward.flown ++ upward.flown) l m
  pub down_turn : TakesTurn t (down_order down_grant) l.nb.sender m.nb.sender downward.flown
  pub down_answer : length l.nb.sender.processes ≡ 8
      → Answers t (ndi_of m.nb.sender t) (came_of downward.flown) l.ue.receiver m.ue.receiver
  pub up_turn : TakesTurn t (up_ordered up_grant up (grant_ndi l.nb.receiver t)) l.ue.sender m.ue.sender upward.flown
  pub up_heard : m.nb.receiver ≡ heard_up t (came_of upward.flown) l.nb.receiver

pub passes_adds : (t up_grant : ℕ) (up : Outcome) (down_grant : ℕ) (down : Outcome) (l : Link)
    → Passes t up_grant up down_grant down l (uplink t up_grant up (loops (downlink t down_grant down l)))
passes_adds t up_grant up down_grant down l =
    let m = downlink t down_grant down l in
    let n = loops m in
    let d = downlink_adds t down_grant down l in
    let u = uplink_adds t up_grant up n in
    let to_n = then_still d.flown l m n d.adds (loops_adds m) in
    let last = uplink t up_grant up n in
    let down' = downlink_turn t down_grant down l in
    let up' = uplink_turn t up_grant up n in
    let nb : last.nb.sender ≡ m.nb.sender = up'.nb_rests
    ∙ ap (λ (e : Entities). e.nb.sender) (loops_rests m).entities_are in
    let ue : n.ue.sender ≡ l.ue.sender = ap (λ (e : Entities). e.ue.sender) (loops_rests m).entities_are
    ∙ down'.ue_rests in
    let nb_hears : n.nb.receiver ≡ l.nb.receiver = ap (λ (e : Entities). e.nb.receiver) (loops_rests m).entities_are
    ∙ down'.nb_rests in
    let ue_hears : last.ue.receiver ≡ m.ue.receiver = up'.ue_rests
    ∙ ap (λ (e : Entities). e.ue.receiver) (loops_rests m).entities_are in
    record {
      downward = d;
      upward = u;
      adds = adds_then d.flown u.flown l n last to_n u.adds;
      down_turn = subst (λ (s : Sending). TakesTurn t (down_order down_grant) l.nb.sender s d.flown) (sym nb)
          down'.nb_turn;
      down_answer = λ eight.
          subst (λ (s : Sending). Answers t (ndi_of s t) (came_of d.flown) l.ue.receiver last.ue.receiver) (sym nb)
          (subst (λ (r : Receiving). Answers t (ndi_of m.nb.sender t) (came_of d.flown) l.ue.receiver r)
          (sym ue_hears) (down'.ue_answer eight));
      up_turn =
          subst (λ (r : Receiving). TakesTurn t (up_ordered up_grant up (grant_ndi r t)) l.ue.sender last.ue.sender
          u.flown) nb_hears
          (subst (λ (s : Sending). TakesTurn t (up_ordered up_grant up (grant_ndi n.nb.receiver t)) s last.ue.sender
          u.flown) ue up'.ue_turn);
      up_heard = up'.nb_heard ∙ ap (heard_up t (came_of u.flown)) nb_hears;
    }

-- from the number of a TTI on
begun : (asleep : Bool) (up_grant : ℕ) (up : Outcome) (down_grant : ℕ) (down : Outcome) (l r m : Link)
    → Adds (sleeping asleep) (begins l) r → entities r ≡ entities l
    → Passes l.ttis up_grant (missed asleep up) down_grant (missed asleep down) r m
    → AddsTti asleep up_grant up down_grant down l m
begun asleep up_grant up down_grant down l r m to_r rests p =
    let b = begins l in
    let flown = p.downward.flown ++ p.upward.flown in
    let all = adds_then (sleeping asleep) flown b r m to_r p.adds in
    record {
      more = all.more;
      downward = p.downward.flown;
      upward = p.upward.flown;
      out_is = all.out_is ∙ append_assoc l.out (records.Tti l.ttis ∷ []) all.more;
      ttis_is = all.ttis_is;
      told = record {
        nb_delivered = all.told.nb_delivered;
        ue_delivered = all.told.ue_delivered;
        nb_submitted = all.told.nb_submitted;
        ue_submitted = all.told.ue_submitted;
        nb_failed = all.told.nb_failed;
        ue_failed = all.told.ue_failed;
        flown_is = all.told.flown_is;
        none_of_run = all.told.none_of_run;
      };
      down_is = p.downward.is_down;
      up_is = p.upward.is_up;
      down_turn =
          subst (λ (e : Entities). TakesTurn l.ttis (down_order down_grant) e.nb.sender m.nb.sender p.downward.flown)
          rests p.down_turn;
      down_answer = λ eight.
          subst (λ (e : Entities). Answers l.ttis (ndi_of m.nb.sender l.ttis) (came_of p.downward.flown) e.ue.receiver
          m.ue.receiver) rests
          (p.down_answer (ap (λ (e : Entities). length e.nb.sender.processes) rests ∙ eight));
      up_turn =
          subst
          (λ (e : Entities). TakesTurn l.ttis
          (up_ordered up_grant (missed asleep up) (grant_ndi e.nb.receiver l.ttis)) e.ue.sender m.ue.sender
          p.upward.flown) rests p.up_turn;
      up_heard = p.up_heard ∙ ap (λ (e : Entities). heard_up l.ttis (came_of p.upward.flown) e.nb.receiver) rests;
    }

pub tti_adds : (up_grant : ℕ) (up : Outcome) (down_grant : ℕ) (down : Outcome) (l : Link)
    → AddsTti (sleeps l.ttis l) up_grant up down_grant down l (tti up_grant up down_grant down l)
unfolding tti tti_by
tti_adds up_grant up down_grant down l =
    let asleep = sleeps l.ttis l in
    let b = begins l in
    let s = tells_sleep asleep b in
    let r = timed s in
    let to_r = then_still (sleeping asleep) b s r (sleep_adds asleep b) (timed_adds s) in
    begun asleep up_grant up down_grant down l r (tti up_grant up down_grant down l) to_r
    (woken_rests asleep l).entities_are
    (passes_adds l.ttis up_grant (missed asleep up) down_grant (missed asleep down) r)

pub drain_adds : (grant : ℕ) (l : Link) → AddsTti false grant intact grant intact l (drain_tti grant l)
unfolding drain_tti
drain_adds grant l =
    let b = begins l in
    let m = grows Nb b in
    let r = grows Ue m in
    let to_r = adds_then [] [] b m r (grows_adds Nb b) (grows_adds Ue m) in
    begun false grant intact grant intact l r (drain_tti grant l) to_r (grown_rests l).entities_are
    (passes_adds l.ttis grant intact grant intact r)
