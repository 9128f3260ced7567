-- What stays so of a link that has come by lines, through the TTIs and rounds of a drain.
use Rattle.std.proofs.Common.{◌≡◌, ◌≤◌, ℕ, zero, suc, ◌+◌, Bool, true, false, Some, List, [], ◌∷◌}
use Rattle.std.proofs.Common.{refl, ap, sym, subst, ◌∙◌, arith}
use Rattle.air_link.specs.Draining.{drain_tti, carried, receivers_expire, senders_expire}
use Rattle.air_link.specs.Link.{Link}
use Rattle.air_record.specs.declared.record.Record.{Record}
use Rattle.air_run.specs.Draining.{shown, round, senders_unless, ttis as drained_ttis}
use Rattle.air_text.specs.Groups.{Group}
use Rattle.bearer_types.specs.declared.BearerConfig.{BearerConfig}
use Rattle.law_run.specs.AnyCalls.Calls as calls
use Rattle.law_run.specs.AnyCalls.Ends.{GoesOn}
use Rattle.law_run.specs.AnyCalls.Order.{channels_of}
use Rattle.law_run.specs.AnyCalls.Runs.{Drains, Calls}
use Rattle.law_run.specs.DrainRounds.{IsOfDrain, MayDrain, round_of}
use Rattle.law_run.specs.DrainShares.{HaveGone}
use Rattle.law_run.specs.DrainTtis.{Step, Tti, ReceiversExpire, SendersExpire, happens, goes, ttis}
use Rattle.law_run.specs.TwoEnds.Lived.{IsAcknowledged}
use Rattle.law_run.proofs.AnyCalls.Advancing.{drain_goes, call_goes_on}
use Rattle.law_run.proofs.AnyCalls.Channels.{channels_stay}
use Rattle.law_run.proofs.DrainRounds.Dealing.{drains_begin, steps_go_so, records_go_so}
use Rattle.l2_types.specs.declared.side.Side.TheVariants.{Nb, Ue}
use Rattle.promises.specs.Configs.{config_of}
use Rattle.promises.specs.Delivery.{is_forged}
use Rattle.promises.specs.Telling.{channels}
use Rattle.law_run.specs.Order.{KeepsOrder}
use Rattle.law_run.proofs.DrainChannels.{end_channels}
use Rattle.law_run.proofs.DrainRuns.{RunsAt, links_run, runs_on, runs_as}
use Rattle.law_run.proofs.DrainTracks.{TracksBoth, links_track, lives_track}
use Rattle.law_run.proofs.Past.{link_behind}

-- behind so many TTIs of a drain, or more, that came behind groups
pub record Going (count : ℕ) (past : List Group) (k : Link) : Type 0 where
  pub gone : HaveGone count k
  pub nb_same : channels_of k.nb ≡ channels past
  pub ue_same : channels_of k.ue ≡ channels past
  pub tracks : (l : ℕ) (c : BearerConfig) → config_of l past ≡ Some c → TracksBoth c.kind l k
  pub runs : (l : ℕ) (c : BearerConfig) → config_of l past ≡ Some c → IsAcknowledged c.kind → RunsAt l k

pub goes_first : (past : List Group) → KeepsOrder past → is_forged past ≡ false → MayDrain (link_behind past)
    → Going 0 past (link_behind past)
goes_first past order own may = record {
  gone = drains_begin (link_behind past) may;
  nb_same = end_channels Nb past order;
  ue_same = end_channels Ue past order;
  tracks = λ l c e. links_track l past c order e;
  runs = λ l c e a. links_run l past c order e own a;
}

-- ---- a step

module _ (count next : ℕ) (past : List Group) (k n : Link) (told : List Record) (g : GoesOn told k n)
    (gone : HaveGone next n) (more : (l : ℕ) → RunsAt l k → RunsAt l n) (h : Going count past k) where
  by_step : Going next past n
  by_step = record {
    gone = gone;
    nb_same = channels_stay Nb g.more k.nb n.nb g.nb ∙ h.nb_same;
    ue_same = channels_stay Ue g.more k.ue n.ue g.ue ∙ h.ue_same;
    tracks = λ l c e.
        let t = h.tracks l c e in
        record {
          goes_with = t.goes_with;
          nb = lives_track c.kind Nb l [] g.more k.nb n.nb g.nb tt t.nb;
          ue = lives_track c.kind Ue l [] g.more k.ue n.ue g.ue tt t.ue;
        };
    runs = λ l c e a. more l (h.runs l c e a);
  }

pub step_going : (s : Step) (count : ℕ) (past : List Group) (k : Link) → IsOfDrain s → Going count past k
    → Going (ttis (s ∷ []) + count) past (happens k s)
step_going (Tti grant) count past k given h =
    by_step count (ttis (Tti grant ∷ []) + count) past k (drain_tti grant k) _ (drain_goes grant k given.1).goes
    (steps_go_so (Tti grant) count k given h.gone) (λ l r. runs_on l (Drains grant) k given.1 r) h
step_going ReceiversExpire count past k given h =
    by_step count (ttis (ReceiversExpire ∷ []) + count) past k (receivers_expire k) []
    (call_goes_on calls.ReceiversExpire k tt) (steps_go_so ReceiversExpire count k given h.gone)
    (λ l r. runs_on l (Calls calls.ReceiversExpire) k tt r) h
step_going SendersExpire count past k given h =
    by_step count (ttis (SendersExpire ∷ []) + count) past k (senders_expire k) []
    (call_goes_on calls.SendersExpire k tt) (steps_go_so SendersExpire count k given h.gone)
    (λ l r. runs_on l (Calls calls.SendersExpire) k tt r) h

-- what is told doesn't matter
pub shown_going : (count : ℕ) (past : List Group) (k : Link) → Going count past k → Going count past (shown k)
shown_going count past k h = record {
  gone = records_go_so count k h.gone;
  nb_same = h.nb_same;
  ue_same = h.ue_same;
  tracks = λ l c e.
      let t = h.tracks l c e in
      record {
        goes_with = t.goes_with;
        nb = record { stands = t.nb.stands; of_kind = t.nb.of_kind; counts = t.nb.counts };
        ue = record { stands = t.ue.stands; of_kind = t.ue.of_kind; counts = t.ue.counts };
      };
  runs = λ l c e a. runs_as l k (h.runs l c e a);
}

fewer : (count more : ℕ) (past : List Group) (k : Link) → count ≤ more → Going more past k → Going count past k
fewer count more past k less h = record {
  gone = record {
    may = h.gone.may;
    since = omega (arith, less, h.gone.since);
    clear = λ t below recent. h.gone.clear t below (omega (arith, less, recent));
  };
  nb_same = h.nb_same;
  ue_same = h.ue_same;
  tracks = h.tracks;
  runs = h.runs;
}

pub still_going : (s : Step) (count : ℕ) (past : List Group) (k : Link) → IsOfDrain s → Going count past k
    → Going count past (happens k s)
still_going s count past k given h =
    fewer count (ttis (s ∷ []) + count) past (happens k s) (omega arith) (step_going s count past k given h)

-- ---- a round

abbrev pub not_carried : Bool → Bool
not_carried true = false
not_carried false = true

pub round_is : (grant : ℕ) (k : Link) (b : Bool) (polls : Bool) → carried (drain_tti grant k) ≡ b
    → polls ≡ not_carried b → round grant k ≡ goes (round_of grant polls) k
round_is grant k true polls e is =
    ap (λ (x : Bool). senders_unless x (receivers_expire (drain_tti grant k))) e
    ∙ ap (λ (x : Bool). goes (round_of grant x) k) (sym is)
round_is grant k false polls e is =
    ap (λ (x : Bool). senders_unless x (receivers_expire (drain_tti grant k))) e
    ∙ ap (λ (x : Bool). goes (round_of grant x) k) (sym is)

pub round_going : (grant : ℕ) (polls : Bool) (past : List Group) (k : Link) → IsOfDrain (Tti grant) → Going 8 past k
    → Going 8 past (goes (round_of grant polls) k)
round_going grant true past k given h =
    let m = drain_tti grant k in
    let n = receivers_expire m in
    still_going SendersExpire 8 past n tt
    (still_going ReceiversExpire 8 past m tt (still_going (Tti grant) 8 past k given h))
round_going grant false past k given h =
    still_going ReceiversExpire 8 past (drain_tti grant k) tt (still_going (Tti grant) 8 past k given h)

-- ---- eight TTIs

pub ttis_going : (n grant count : ℕ) (past : List Group) (k : Link) → IsOfDrain (Tti grant) → Going count past k
    → Going (n + count) past (drained_ttis n grant k).link
ttis_going zero grant count past k given h =
    let same : count ≡ 0 + count = omega arith in
    subst (λ (x : ℕ). Going x past k) same h
ttis_going (suc n) grant count past k given h =
    let m = shown (drain_tti grant k) in
    let same : n + (ttis (Tti grant ∷ []) + count) ≡ suc n + count = omega arith in
    subst (λ (x : ℕ). Going x past (drained_ttis n grant m).link) same
    (ttis_going n grant (ttis (Tti grant ∷ []) + count) past m given
    (shown_going (ttis (Tti grant ∷ []) + count) past (drain_tti grant k)
    (step_going (Tti grant) count past k given h)))

ttis_told : (n grant : ℕ) (k : Link) → k.out ≡ [] → (drained_ttis n grant k).link.out ≡ []
ttis_told zero grant k e = e
ttis_told (suc n) grant k e = ttis_told n grant (shown (drain_tti grant k)) refl

pub eight_told : (grant : ℕ) (k : Link) → (drained_ttis 8 grant k).link.out ≡ []
eight_told grant k = ttis_told 7 grant (shown (drain_tti grant k)) refl
