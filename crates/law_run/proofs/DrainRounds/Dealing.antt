-- The shares of a round of a drain, on all its channels.
use Rattle.std.proofs.Common.{◌≡◌, ◌≤◌, ◌<◌, ℕ, ◌+◌, ◌-◌, ◌%◌, Bool, false, Option, None, List, [], ◌∷◌}
use Rattle.std.proofs.Common.{refl, ap, sym}
use Rattle.std.proofs.Common.{subst, ◌∙◌, arith}
use Rattle.std.specs.Prelude.{slice_index_or}
use Rattle.std.specs.List.{AllByRecursion}
use Rattle.air_link.specs.Draining.{drain_tti, carried}
use Rattle.air_link.specs.Link.{Link}
use Rattle.air_link.specs.Loops.{loops}
use Rattle.air_record.specs.Outcomes.{intact}
use Rattle.harq.specs.declared.sender.Order.{Order}
use Rattle.harq.specs.declared.sender.Order.TheVariants.{Free, Grant}
use Rattle.harq.specs.Sending.{Sending, held_of as held_in}
use Rattle.l2_node.specs.Building.{visited}
use Rattle.l2_node.specs.End.{End}
use Rattle.l2_types.specs.declared.side.Side.TheVariants.{Nb, Ue}
use Rattle.l2_node.specs.Finding.{Numbers, counted, lower, number_at, lowest_of, lowest}
use Rattle.law_bearer.specs.AnyBearer.Calls.{after_all}
use Rattle.law_bearer.specs.AnyBearer.Rounds.{IsRound, arrivals, takes_in, writes_in, expiries}
use Rattle.law_node.specs.Holding.{flow}
use Rattle.law_node.proofs.Holders.{visit_fewer}
use Rattle.law_deliver.specs.AmFlow.Channels.{held_of}
use Rattle.law_run.specs.AnyCalls.Deeds.{Entities, entities}
use Rattle.law_run.specs.AnyCalls.Zero.{HaveCome}
use Rattle.law_run.specs.DrainTtis.{Step, Tti, ReceiversExpire, SendersExpire, happens, goes, ttis, grown}
use Rattle.law_run.specs.DrainTtis.{HaveChannel, IsClear}
use Rattle.law_run.specs.DrainRounds.{IsOfDrain, MayDrain, round_of}
use Rattle.law_run.specs.DrainShares.{HaveGone, BuildsFrom, dealt, WritesNone, DealsRound}
use Rattle.law_run.proofs.AnyCalls.Going.{goes_then, loops_rests, grown_rests}
use Rattle.law_run.proofs.AnyCalls.Passing.{drain_adds}
use Rattle.law_run.proofs.AnyCalls.Sending.{downlink_turn}
use Rattle.law_run.proofs.AnyCalls.Visiting.{downlink_goes}
use Rattle.law_run.proofs.DrainTtis.Clearing.{counted as clear_more, Keeps, receivers_keep, senders_keep, kept_clear}
use Rattle.law_run.proofs.DrainTtis.Bringing.{clear_as}
use Rattle.law_run.proofs.DrainTtis.Clearing.{clear_again}
use Rattle.law_run.proofs.DrainTtis.Expiring.{loops_off}
use Rattle.law_run.proofs.DrainTtis.Hearing.{after_down, up_ndi, come_both, BothHear, hear_when_clear}
use Rattle.law_run.proofs.DrainTtis.Processes.{new_free, new_granted}
use Rattle.law_run.proofs.DrainRounds.Calling.{same_written, down_off, in_tti, all_expire, behind_all}
use Rattle.law_run.proofs.DrainRounds.Silent.{silent_round}
use Rattle.law_run.proofs.DrainRounds.Staying.{step_stays, channel_stays}

-- ---- behind TTIs of a drain

pub drains_begin : (m : Link) → MayDrain m → HaveGone 0 m
drains_begin m h = record {
  may = h;
  since = omega arith;
  clear = λ t below recent. absurd (omega (arith, below, recent));
}

gone_by : (count : ℕ) (m n : Link) → Keeps m n → MayDrain n → HaveGone count m → HaveGone (0 + count) n
gone_by count m n k may h =
    let none : count ≡ 0 + count = omega arith in
    subst (λ (c : ℕ). HaveGone c n) none
    (record { may = may; since = omega (arith, h.since, k.ttis_are); clear = kept_clear count m n k h.clear })

pub steps_go_so : (s : Step) (count : ℕ) (m : Link) → IsOfDrain s → HaveGone count m
    → HaveGone (ttis (s ∷ []) + count) (happens m s)
steps_go_so (Tti grant) count m given h =
    let next = (drain_adds grant m).ttis_is in
    let more : count + 1 ≡ 0 + 1 + count = omega arith in
    subst (λ (c : ℕ). HaveGone c (drain_tti grant m)) more
    (record {
      may = step_stays (Tti grant) m given h.may;
      since = omega (arith, h.since, next);
      clear = clear_more count grant m given.0 h.may.eight h.clear;
    })
steps_go_so ReceiversExpire count m given h =
    gone_by count m (happens m ReceiversExpire) (receivers_keep m) (step_stays ReceiversExpire m tt h.may) h
steps_go_so SendersExpire count m given h =
    gone_by count m (happens m SendersExpire) (senders_keep m) (step_stays SendersExpire m tt h.may) h

pub records_go_so : (count : ℕ) (m : Link) → HaveGone count m → HaveGone count (record m { out = [] })
records_go_so count m h = record {
  may = record {
    eight = h.may.eight;
    come = record { nb = h.may.come.nb; ue = h.may.come.ue };
    rests = record { none_waits = h.may.rests.none_waits; none_kept = h.may.rests.none_kept };
    off = h.may.off;
  };
  since = h.since;
  clear = h.clear;
}

-- ---- processes that hold no block hold no number

abbrev AreEmpty : Sending → Type 0
AreEmpty s = (p : ℕ) → p < 8 → held_in s p ≡ None

number_none : (s : Sending) (numbers : Numbers) (l p : ℕ) → held_in s p ≡ None → number_at s numbers l p ≡ None
number_none s numbers l p e =
    ap (λ (h : Option (List ℕ)). counted h (slice_index_or (slice_index_or numbers p []) l None)) e

none_from : (s : Sending) (numbers : Numbers) (l : ℕ) (ps : List ℕ)
    → AllByRecursion (λ p. number_at s numbers l p ≡ None) ps → lowest_of s numbers l ps None ≡ None
none_from s numbers l [] h = refl
none_from s numbers l (p ∷ ps) h =
    ap (λ (n : Option ℕ). lowest_of s numbers l ps (lower None n)) h.0 ∙ none_from s numbers l ps h.1

lowest_none : (s : Sending) (numbers : Numbers) (l : ℕ) → AreEmpty s → lowest s numbers l ≡ None
unfolding lowest
lowest_none s numbers l e =
    let none : (p : ℕ) → p < 8 → number_at s numbers l p ≡ None = λ p below. number_none s numbers l p (e p below) in
    none_from s numbers l (0 ∷ 1 ∷ 2 ∷ 3 ∷ 4 ∷ 5 ∷ 6 ∷ 7 ∷ []) (
      none 0 (omega arith),
      (
        none 1 (omega arith),
        (
          none 2 (omega arith),
          (
            none 3 (omega arith),
            (
              none 4 (omega arith),
              (none 5 (omega arith), (none 6 (omega arith), (none 7 (omega arith), tt))),
            ),
          ),
        ),
      ),
    )

visited_none : (t : ℕ) (order : Order) (e : End) (l : ℕ) → AreEmpty e.sender → held_of (visited t order e) l ≡ None
unfolding visited
visited_none t order e l empty' =
    lowest_none _ e.numbers l (λ p below. visit_fewer e.sender t order p (empty' p below))

-- behind eight TTIs each process was visited

abbrev last_visit : ℕ → ℕ → ℕ
last_visit ttis p = ttis - 8 + (p + 8 - (ttis - 8) % 8) % 8

last_process : (ttis p : ℕ) → p < 8 → last_visit ttis p % 8 ≡ p
last_process ttis p below = omega (arith, below)

was_visited : (m : Link) (p : ℕ) → HaveGone 8 m → IsClear (last_visit m.ttis p) (entities m)
was_visited m p h = h.clear (last_visit m.ttis p) (omega (arith, h.since)) (omega (arith, h.since))

nb_empty : (m : Link) → HaveGone 8 m → AreEmpty m.nb.sender
nb_empty m h p below =
    subst (λ (q : ℕ). held_in m.nb.sender q ≡ None) (last_process m.ttis p below) (was_visited m p h).down

ue_empty : (m : Link) → HaveGone 8 m → AreEmpty m.ue.sender
ue_empty m h p below =
    subst (λ (q : ℕ). held_in m.ue.sender q ≡ None) (last_process m.ttis p below) (was_visited m p h).up

-- ---- a round

same_flow : (t : ℕ) (order : Order) (e : End) (l : ℕ) → flow l (visited t order e) ≡ flow l e
unfolding visited
same_flow t order e l = refl

module _ (grant : ℕ) (polls : Bool) (m : Link) (given : IsOfDrain (Tti grant)) (h : HaveGone 8 m) where
  abbrev j : Link
  j = grown m

  abbrev d : Link
  d = after_down grant m

  abbrev i : Link
  i = loops d

  abbrev order : Order
  order = Grant (up_ndi grant m)

  -- the ends as they build
  abbrev nb : End
  nb = visited m.ttis Free (grown m).nb

  abbrev ue : End
  ue = visited m.ttis (Grant (up_ndi grant m)) (loops (after_down grant m)).ue

  hears : (l : ℕ) → HaveChannel l m → BothHear l grant m
  hears l channel =
      hear_when_clear grant m l h.may.eight (clear_again m h.since h.clear) given.0 given.1 h.may.come channel

  nb_builds : BuildsFrom Nb m.nb nb
  nb_builds =
      let same = ap (λ (e : Entities). e.nb.sender) (grown_rests m).entities_are in
      record {
        first = j.nb;
        told = (grown_rests m).goes.more;
        goes = (grown_rests m).goes.nb;
        tti = m.ttis;
        order = Free;
        is = refl;
        none_held = λ l. visited_none m.ttis Free j.nb l (subst AreEmpty (sym same) (nb_empty m h));
      }

  ue_rests : i.ue.sender ≡ m.ue.sender
  ue_rests =
      ap (λ (e : Entities). e.ue.sender) (loops_rests d).entities_are
      ∙ (downlink_turn m.ttis grant intact j).ue_rests
      ∙ ap (λ (e : Entities). e.ue.sender) (grown_rests m).entities_are

  ue_builds : BuildsFrom Ue m.ue ue
  ue_builds =
      let on =
      goes_then _ [] m d i
      (goes_then [] _ m j d (grown_rests m).goes (downlink_goes m.ttis grant intact j given.1)) (loops_rests d).goes
      in
      record {
        first = i.ue;
        told = on.more;
        goes = on.ue;
        tti = m.ttis;
        order = order;
        is = refl;
        none_held = λ l. visited_none m.ttis order i.ue l (subst AreEmpty (sym ue_rests) (ue_empty m h));
      }

  ue_hears : (l : ℕ) → HaveChannel l m
      → flow l ue ≡ after_all (flow l m.ue) (arrivals (writes_in (dealt nb grant l) (flow l m.nb)))
  ue_hears l channel =
      same_flow m.ttis order i.ue l
      ∙ ap (λ (x : Link). flow l x.ue) (loops_off d (down_off grant m h.may))
      ∙ (hears l channel).goes_down.hears
      ∙ ap (λ (ps : List (List ℕ)). after_all (flow l m.ue) (arrivals ps)) (same_written l m.ttis grant Free j.nb)

  -- both ends as they come to it
  nb_comes : HaveCome j
  nb_comes = come_both _ m j (grown_rests m).goes h.may.come

  ue_comes : HaveCome i
  ue_comes =
      come_both _ d i (loops_rests d).goes (come_both _ j d (downlink_goes m.ttis grant intact j given.1) nb_comes)

  silent : m.out ≡ [] → WritesNone grant nb → WritesNone grant ue → carried (drain_tti grant m) ≡ false
  silent no_records none_nb none_ue =
      let cleared = clear_again m h.since h.clear in
      let free = clear_as m.ttis (entities j) (entities m) (grown_rests m).entities_are cleared in
      silent_round grant m nb_comes.nb ue_comes.ue given.0 given.1 (new_free j.nb.sender m.ttis free.down)
      (new_granted i.ue.sender m.ttis (up_ndi grant m)
      (ap (λ (s : Sending). held_in s (m.ttis % 8)) ue_rests ∙ cleared.up)) no_records none_nb none_ue

  rounds : (l : ℕ) → l ≤ 10 → HaveChannel l m
      → IsRound (record { down = dealt nb grant l; up = dealt ue grant l; polls = polls }) (flow l m.nb)
      (flow l m.ue) (flow l (goes (round_of grant polls) m).nb) (flow l (goes (round_of grant polls) m).ue)
  rounds l low channel =
      let n = drain_tti grant m in
      let x = in_tti l grant m h.may (hears l channel) in
      let y = all_expire polls l n low (step_stays (Tti grant) m given h.may)
      (channel_stays (Tti grant) m l given h.may channel) in
      let down = dealt nb grant l in
      let up = dealt ue grant l in
      let f = flow l m.nb in
      let u = flow l m.ue in
      record {
        nb_is =
            behind_all (takes_in down) (arrivals (writes_in up (after_all u (arrivals (writes_in down f)))))
            (expiries polls) f (flow l n.nb) _ x.nb_is y.nb_is;
        ue_is =
            behind_all (arrivals (writes_in down f)) (takes_in up) (expiries polls) u (flow l n.ue) _ x.ue_is y.ue_is;
      }

  pub rounds_are_dealt : DealsRound grant polls m (goes (round_of grant polls) m)
  rounds_are_dealt = record {
    nb = nb;
    ue = ue;
    nb_builds = nb_builds;
    ue_builds = ue_builds;
    nb_is = λ l. same_flow m.ttis Free j.nb l;
    ue_is = λ l low channel. ue_hears l channel;
    silent = silent;
    rounds = rounds;
  }
