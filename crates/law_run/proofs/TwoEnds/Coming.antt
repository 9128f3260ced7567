-- A channel's bearers of any kind come, and go on through any steps of a link.
use Rattle.std.proofs.Common.{◌≡◌, ℕ, Bool, true, false, ◌||◌, List, [], ◌++◌, refl, ap, sym, subst, ◌∙◌}
use Rattle.air_link.specs.Lines.{bears}
use Rattle.air_link.specs.Link.{Link}
use Rattle.air_record.specs.declared.record.Record.{Record}
use Rattle.bearer_types.specs.Configs.{IsConfig}
use Rattle.bearer_types.specs.declared.config.BearerConfig.{BearerConfig}
use Rattle.eps_sec.specs.declared.Keys.{Keys}
use Rattle.l2_types.specs.declared.side.Side.{Side}
use Rattle.law_node.specs.Calls.{Add, after as after_call}
use Rattle.l2_types.specs.declared.side.Side.TheVariants.{Nb, Ue}
use Rattle.law_run.specs.AnyCalls.Calls.{Bears}
use Rattle.law_run.specs.AnyCalls.Runs.{Step, step}
use Rattle.law_deliver.specs.AmFlow.Air.{Air, outset}
use Rattle.law_words.specs.Arrivals.{AccountEntry}
use Rattle.law_deliver.specs.AmChannel.Arrival.{happened}
use Rattle.law_deliver.specs.AmChannel.Lives.{lives}
use Rattle.um_losses.specs.declared.flow.Happening.{Happening}
use Rattle.law_deliver.specs.UmGaps.Whats.{whats}
use Rattle.law_run.specs.TwoEnds.Arrival.{told_by_step}
use Rattle.law_run.specs.TwoEnds.Coming.{none_yet, BearersBegin, ComesOn, ComesAs}
use Rattle.law_run.specs.TwoEnds.Going.{handed_in, sets, GoesByAir, IsStepSince}
use Rattle.promises.specs.Flows.{looped_at}
use Rattle.promises.specs.Records.{events_of}
use Rattle.law_run.specs.TwoEnds.Lives.{IsAtRest}
use Rattle.law_run.specs.TwoEnds.On.{until, IsStation, IsOn}
use Rattle.law_run.proofs.TwoEnds.Advancing.{steps_go}
use Rattle.law_run.specs.TwoEnds.Logs.{LogEntry, log_of, no_flight, logged}
use Rattle.law_run.proofs.TwoEnds.Going.{moving, Unread, Whats, GoesBehind, behind_then, happens_then, logs_then}
use Rattle.law_run.proofs.TwoEnds.Going.{logged_both}
use Rattle.law_run.proofs.TwoEnds.Lives.{calls_rest}

-- ---- what else is of a link

pub same_on : (k m : Link) (a : Air) → m.nb ≡ k.nb → m.ue ≡ k.ue → m.ttis ≡ k.ttis → IsOn k a → IsOn m a
same_on k m a nb ue ttis h = record {
  nb_is = h.nb_is ∙ sym nb;
  ue_is = h.ue_is ∙ sym ue;
  nb = subst (λ (t : ℕ). IsStation Nb (until t) a.nb) (sym ttis) h.nb;
  ue = subst (λ (t : ℕ). IsStation Ue (until t) a.ue) (sym ttis) h.ue;
  nb_idle = h.nb_idle;
  ue_idle = h.ue_idle;
}

abbrev pub ends_come_by : (l : ℕ) (told : List Record) (submitted : Side → ℕ → List (List ℕ)) (said : ℕ → Side
    → List AccountEntry) (set : Bool) (k m : Link) (a : Air)
    → m.nb ≡ k.nb → m.ue ≡ k.ue → m.ttis ≡ k.ttis → GoesByAir l told submitted said set k a
    → GoesByAir l told submitted said set m a
ends_come_by l told submitted said set k m a nb_is ue_is ttis_is x = record {
  steps = x.steps;
  living = x.living;
  told_is = x.told_is;
  logged_is = x.logged_is;
  submitted_is = x.submitted_is;
  happened_is = x.happened_is;
  sets_none = x.sets_none;
  on = same_on k m (lives x.steps a) nb_is ue_is ttis_is x.on;
}

pub ends_come : (l : ℕ) (told : List Record) (submitted : Side → ℕ → List (List ℕ)) (said : ℕ → Side
    → List AccountEntry) (set : Bool) (k m : Link) (a : Air)
    → m.nb ≡ k.nb → m.ue ≡ k.ue → m.ttis ≡ k.ttis → (before : GoesByAir l told submitted said set k a)
    → ComesAs l told submitted said set m a before.steps
ends_come l told submitted said set k m a nb_is ue_is ttis_is x =
    record { by = ends_come_by l told submitted said set k m a nb_is ue_is ttis_is x; same = refl }

-- the same records, SDUs and entries in another form
abbrev pub come_as : (l : ℕ) (a : Air) (f g : List Record) (x y : Side → ℕ → List (List ℕ)) (s t : ℕ → Side
    → List AccountEntry) (b c : Bool) (k : Link) → f ≡ g → ((side : Side) (n : ℕ) → x side n ≡ y side n)
    → ((bits : ℕ) (from : Side) → s bits from ≡ t bits from) → b ≡ c → GoesByAir l f x s b k a
    → GoesByAir l g y t c k a
come_as l a f g x y s t b c k told same air on h = record {
  steps = h.steps;
  living = h.living;
  told_is = λ side. ap (events_of side) (sym told) ∙ h.told_is side;
  logged_is = h.logged_is ∙ ap (logged no_flight) told;
  submitted_is = λ side n. h.submitted_is side n ∙ same side n;
  happened_is = λ bits from. h.happened_is bits from ∙ air bits from;
  sets_none = λ off. h.sets_none (on ∙ off);
  on = h.on;
}

-- by no step
abbrev pub come_by_none : (l : ℕ) (k : Link) (a : Air) → IsOn k a
    → GoesByAir l [] none_yet (λ bits from. []) false k a
come_by_none l k a on = record {
  steps = [];
  living = tt;
  told_is = λ side. refl;
  logged_is = refl;
  submitted_is = λ side n. refl;
  happened_is = λ bits from. refl;
  sets_none = λ off side. tt;
  on = on;
}

-- ---- the bearers come

pub bearers_begin : (config : BearerConfig) (keys : Keys) (k : Link) → IsConfig config → IsAtRest k
    → BearersBegin config keys k
unfolding bears
bearers_begin config keys k g h = record {
  out_is = refl;
  by = come_by_none config.channel.lcid (bears config keys k)
      (outset (after_call k.nb (Add config keys)) (after_call k.ue (Add config keys)))
      (calls_rest (Bears config keys) k g tt h);
  no_steps = refl;
}

-- ---- a step since

-- each of two steps sets none where both do
pub either_off : (x y : Bool) → (x || y) ≡ false → (x ≡ false) × (y ≡ false)
either_off true y e = absurd cc
either_off false y e = (refl, e)

abbrev Goes : ℕ → Bool → List Record → (Side → ℕ → List (List ℕ)) → Whats → Air → Air → Type 0
Goes l set told given ws a b = GoesBehind l (moving set) Unread told given ws a b

by_goes : (l : ℕ) (told : List Record) (submitted : Side → ℕ → List (List ℕ)) (said : ℕ → Side
    → List AccountEntry) (set whole : Bool) (m : Link) (a : Air) (x : GoesByAir l told submitted said set m a)
    → (whole ≡ false → set ≡ false)
    → Goes l whole told submitted (λ bits from. whats from l bits x.steps a) a (lives x.steps a)
by_goes l told submitted said set whole m a x off =
    record {
      steps = x.steps;
      living = x.living;
      told_is = x.told_is;
      submitted_is = x.submitted_is;
      sets_none = λ e. x.sets_none (off e);
      stays = λ e. absurd cc;
      reads = λ bits from sent fits. absurd fits;
      logs = λ sent fits. absurd fits;
      along = λ off sent fits. absurd fits;
      whats_are = λ bits from. refl;
      air_is = refl;
    }

abbrev goes_by : (l : ℕ) (told : List Record) (submitted : Side → ℕ → List (List ℕ)) (said : ℕ → Side
    → List AccountEntry) (set : Bool) (m : Link) {ws : Whats} (a b : Air) (x : Goes l set told submitted ws a b)
    → ((bits : ℕ) (from : Side) → happened bits l from x.steps a ≡ said bits from)
    → log_of x.steps a ≡ logged no_flight told → IsOn m b → GoesByAir l told submitted said set m a
goes_by l told submitted said set m {ws} a b x happened logs on =
    record {
      steps = x.steps;
      living = x.living;
      told_is = x.told_is;
      logged_is = logs;
      submitted_is = x.submitted_is;
      happened_is = happened;
      sets_none = x.sets_none;
      on = subst (IsOn m) (sym x.air_is) on;
    }

pub steps_come : (l : ℕ) (told : List Record) (submitted : Side → ℕ → List (List ℕ)) (said : ℕ → Side
    → List AccountEntry) (set : Bool) (s : Step) (k : Link) (a : Air) → IsStepSince l s
    → (before : GoesByAir l told submitted said set k a)
    → ComesOn l told submitted said set s k a before
unfolding by_goes
steps_come l told submitted said set s k a g h =
    let b = lives h.steps a in
    let m = step s k in
    let x = steps_go l s k b g h.on in
    let y = x.by in
    let sets_any = set || sets l s in
    let more : Side → ℕ → List (List ℕ) = λ side n. handed_in side n s k ++ looped_at side n x.more in
    let tells : ℕ → Side → List AccountEntry = λ bits from. told_by_step bits l from s x.more in
    let c = lives y.steps b in
    let before = by_goes l told submitted said set sets_any k a h (λ e. (either_off set (sets l s) e).0) in
    let behind = by_goes l x.more more tells (sets l s) sets_any m b y (λ e. (either_off set (sets l s) e).1) in
    let whole = behind_then l (moving sets_any) Unread Unread told x.more submitted more a b c refl
    (λ sent fits. absurd fits) before behind in
    let happens : (bits : ℕ) (from : Side) → happened bits l from whole.steps a ≡ said bits from ++ tells bits from =
    λ bits from.
    happens_then bits from l (moving sets_any) Unread Unread told x.more submitted more a b c refl
    (λ sent fits. absurd fits) before behind
    ∙ (ap (λ (hs : List AccountEntry). hs ++ happened bits l from y.steps b) (h.happened_is bits from)
    ∙ ap (λ (hs : List AccountEntry). said bits from ++ hs) (y.happened_is bits from)) in
    let logs : log_of whole.steps a ≡ logged no_flight (told ++ x.more) =
    logs_then l (moving sets_any) Unread Unread told x.more submitted more a b c refl (λ sent fits. absurd fits) before
    behind
    ∙ (ap (λ (hs : List LogEntry). hs ++ log_of y.steps b) h.logged_is
    ∙ (ap (λ (hs : List LogEntry). logged no_flight told ++ hs) y.logged_is
    ∙ sym (logged_both told x.more x.log_alone))) in
    record {
      more = x.more;
      out_is = x.out_is;
      alone = x.alone;
      log_alone = x.log_alone;
      by = goes_by l (told ++ x.more) (λ side n. submitted side n ++ more side n)
          (λ bits from. said bits from ++ tells bits from) sets_any m a c whole happens logs y.on;
      stays = x.stays;
      shown = λ bits s' from p. whole.whats_are bits from
          ∙ ap (λ (ws : List Happening). whats from l bits h.steps a ++ ws) (x.shown bits s' from p);
    }
