-- Behind all groups, on each channel with a bearer of any kind: both ends have come by calls, have their bearer, and
-- blocks are under way between them.
use Rattle.std.proofs.Common.{◌≡◌, ℕ, Bool, false, ◌||◌, List, [], ◌∷◌, Some, refl, ap, sym, subst, ◌∙◌}
use Rattle.air_link.specs.Link.{Link, end_of}
use Rattle.air_record.specs.declared.line.Line.TheVariants as lines
use Rattle.air_record.specs.declared.record.Record.{Record}
use Rattle.air_run.specs.Playing.{acted}
use Rattle.air_run.specs.Run.{behind_line as link_line}
use Rattle.air_text.specs.Groups.{Group}
use Rattle.bearer.specs.Bearer.{flow_of}
use Rattle.bearer.specs.declared.flow.Flow.{Flow}
use Rattle.bearer_types.specs.declared.config.BearerConfig.{BearerConfig}
use Rattle.eps_sec.specs.declared.Keys.{Keys}
use Rattle.l2_node.specs.End.{End}
use Rattle.l2_types.specs.declared.channel.Kind.{Kind}
use Rattle.l2_types.specs.declared.side.Side.{Side}
use Rattle.l2_types.specs.declared.side.Side.TheVariants.{Nb, Ue}
use Rattle.promises.specs.Arrival.{entries_ended}
use Rattle.promises.specs.Configs.{config_of}
use Rattle.promises.specs.Delivery.{forges, is_forged, sets_timer}
use Rattle.promises.specs.Parts.{is_handover, part_of_line}
use Rattle.law_bearer.specs.AnyBearer.Calls.{Call as BearerCall, Calls as CallsIt, Restart, after as called, after_all}
use Rattle.law_deliver.specs.AmChannel.Lives.{AirStep, InLife, Moves, AreLiving, end_at, lives, lives_on}
use Rattle.law_deliver.specs.AmFlow.Air.{Air, happens, outset}
use Rattle.law_deliver.proofs.AmFlow.Ups.{the_end}
use Rattle.law_given.proofs.Tied.{calls_of_step}
use Rattle.law_node.specs.Holding.{flow}
use Rattle.law_node.specs.Names.{mode}
use Rattle.law_run.specs.AnyCalls.Calls as calls
use Rattle.law_run.specs.AnyCalls.Runs.{Step as LinkStep, Calls, step}
use Rattle.law_run.specs.Order.{state_behind, IsRight, KeepsOrder}
use Rattle.law_run.specs.TwoEnds.Coming.{none_yet}
use Rattle.law_run.specs.TwoEnds.Going.{IsStepSince}
use Rattle.law_run.specs.TwoEnds.On.{IsOn}
use Rattle.law_run.specs.TwoEnds.Staying.{MovesOn, is_handover_step}
use Rattle.law_run.proofs.AnyAir.{at_end}
use Rattle.law_run.proofs.BearerWalk.{Comes, adds_one}
use Rattle.law_run.proofs.Flowing.{Sdus, Happened, StepLives, GoesThrough, PartLives, line_stays}
use Rattle.law_run.proofs.Modes.{keeps_mode}
use Rattle.law_run.proofs.Past.{behind as past_behind, link_behind}
use Rattle.law_run.proofs.Renewed.{lives_behind}
use Rattle.law_run.proofs.TwoEnds.Advancing.{handovers_move, steps_stay}
use Rattle.law_run.proofs.TwoEnds.Coming.{same_on}
use Rattle.law_sound.specs.LivedFails.{HaveComeNew}
use Rattle.law_sound.proofs.GivenStepFacts.{stands_at, step_bearer, step_there}
use Rattle.law_sound.proofs.GroupReading.{at_end as at_begun, moved_keys}
use Rattle.law_sound.proofs.LivedFails.{AreThere}
use Rattle.law_sound.proofs.MovingFails.{lives_come_new}
use Rattle.law_sound.proofs.QueueAt.{IsAirBehind}

-- ---- along lives both ends have their bearer

pub moved_there : (l : ℕ) (a : Air) (keys : Keys) → HaveComeNew l a → AreThere l a
    → AreThere l (lives_on a (Moves keys))
moved_there l a keys new there = record {
  nb = (the_end Nb l a.nb.end keys (stands_at Nb l a new there)).there;
  ue = (the_end Ue l a.ue.end keys (stands_at Ue l a new there)).there;
}

pub lives_there : (l : ℕ) (xs : List AirStep) (a : Air) → HaveComeNew l a → AreLiving l a xs → AreThere l a
    → AreThere l (lives xs a)
lives_there l [] a new living there = there
lives_there l (InLife s ∷ xs) a new living there =
    lives_there l xs (happens a s) (lives_come_new l (InLife s ∷ []) a new (living.0, tt)) living.1
    (step_there l a s living.0 new there)
lives_there l (Moves keys ∷ xs) a new living there =
    lives_there l xs (lives_on a (Moves keys)) (lives_come_new l (Moves keys ∷ []) a new (tt, tt)) living.1
    (moved_there l a keys new there)

-- of a mode that stays
calls_mode : (cs : List BearerCall) (x : Flow) → mode (after_all x cs) ≡ mode x
calls_mode [] x = refl
calls_mode (c ∷ cs) x = calls_mode cs (called x c) ∙ keeps_mode (CallsIt c ∷ []) x

moved_mode : (l : ℕ) (side : Side) (a : Air) (keys : Keys) → HaveComeNew l a → AreThere l a
    → mode (flow l (end_at side (lives_on a (Moves keys)))) ≡ mode (flow l (end_at side a))
moved_mode l Nb a keys new there =
    ap mode (the_end Nb l a.nb.end keys (stands_at Nb l a new there)).bearer_is
    ∙ keeps_mode (Restart keys ∷ []) (flow l a.nb.end)
moved_mode l Ue a keys new there =
    ap mode (the_end Ue l a.ue.end keys (stands_at Ue l a new there)).bearer_is
    ∙ keeps_mode (Restart keys ∷ []) (flow l a.ue.end)

pub lives_mode : (l : ℕ) (side : Side) (xs : List AirStep) (a : Air) → HaveComeNew l a → AreLiving l a xs → AreThere l a
    → mode (flow l (end_at side (lives xs a))) ≡ mode (flow l (end_at side a))
lives_mode l side [] a new living there = refl
lives_mode l side (InLife s ∷ xs) a new living there =
    lives_mode l side xs (happens a s) (lives_come_new l (InLife s ∷ []) a new (living.0, tt)) living.1
    (step_there l a s living.0 new there)
    ∙ ap mode (step_bearer l a s living.0 new there side)
    ∙ calls_mode (calls_of_step l side a (InLife s)) (flow l (end_at side a))
lives_mode l side (Moves keys ∷ xs) a new living there =
    lives_mode l side xs (lives_on a (Moves keys)) (lives_come_new l (Moves keys ∷ []) a new (tt, tt)) living.1
    (moved_there l a keys new there)
    ∙ moved_mode l side a keys new there

-- ---- of a link, with what holds of bearers by their modes

module _ (T : Flow → Type 0) (kept : (x y : Flow) → mode y ≡ mode x → T x → T y) where
  record HasAir (l : ℕ) (k : Link) : Type 0 where
    air : Air
    on : IsOn k air
    new : HaveComeNew l air
    there : AreThere l air
    bearers : (side : Side) → T (flow l (end_at side air))

  goes_on : (l : ℕ) (k m : Link) (h : HasAir l k) (xs : List AirStep) → AreLiving l h.air xs
      → IsOn m (lives xs h.air) → HasAir l m
  goes_on l k m h xs living on = record {
    air = lives xs h.air;
    on = on;
    new = lives_come_new l xs h.air h.new living;
    there = lives_there l xs h.air h.new living h.there;
    bearers = λ side. kept (flow l (end_at side h.air)) (flow l (end_at side (lives xs h.air)))
        (lives_mode l side xs h.air h.new living h.there) (h.bearers side);
  }

  same_air : (l : ℕ) (k m : Link) → m.nb ≡ k.nb → m.ue ≡ k.ue → m.ttis ≡ k.ttis → HasAir l k → HasAir l m
  same_air l k m nb ue ttis h = record {
    air = h.air;
    on = same_on k m h.air nb ue ttis h.on;
    new = h.new;
    there = h.there;
    bearers = h.bearers;
  }

  module _ (l : ℕ) where
    abbrev Live : List Record → Sdus → Happened → Bool → Link → Type 0
    Live told handed flown set k = HasAir l k

    live_steps : (told : List Record) (handed : Sdus) (flown : Happened) (set : Bool) (s : LinkStep) (k : Link)
        → IsStepSince l s → is_handover_step s ≡ false → Live told handed flown set k
        → StepLives l Live told handed flown set s k
    live_steps told handed flown set s k own here h =
        let x = (steps_stay l s k h.air own h.on).goes in
        record {
          more = x.more;
          out_is = x.out_is;
          alone = x.alone;
          log_alone = x.log_alone;
          lived = goes_on l k (step s k) h x.by.steps x.by.living x.by.on;
        }

    through : GoesThrough l Live
    through = record {
      same = λ told told' handed handed' flown flown' set set' k e f a g h. h;
      unseen = λ told handed flown set k out h. same_air l k (record k { out = out }) refl refl refl h;
      steps = live_steps;
    }

  -- ---- behind groups

  abbrev AirOn : ℕ → List Group → Type 0
  AirOn l past = HasAir l (link_behind past)

  stays : (l : ℕ) (past : List Group) (g : Group) → IsRight past g → KeepsOrder past → adds_one l g.line ≡ false
      → forges g.line ≡ false → is_handover g.line ≡ false → AirOn l past → AirOn l (g ∷ past)
  stays l past g right order other own here h =
      let m = link_line g.line (state_behind past) in
      let x : PartLives l (Live l) (through l) [] none_yet (λ bits from. []) (false || sets_timer l g.line)
      (entries_ended g.line) (part_of_line g.line) m =
      line_stays l (Live l) (through l) [] none_yet (λ bits from. []) false g.line (state_behind past).rules.keys
      (link_behind past) (past_behind past order).nothing right.in_range other own here h in
      same_air l m (link_behind (g ∷ past)) refl refl refl x.lived

  moves : (l : ℕ) (past : List Group) (g : Group) (user rrc integrity : _)
      → IsRight past (record g { line = lines.Handover user rrc integrity }) → KeepsOrder past → AirOn l past
      → AirOn l (record g { line = lines.Handover user rrc integrity } ∷ past)
  unfolding acted
  moves l past g user rrc integrity right order h =
      let all : List Group = record g { line = lines.Handover user rrc integrity } ∷ past in
      let k = link_behind past in
      let keys = moved_keys user rrc integrity past in
      let x : MovesOn l keys k h.air = handovers_move l keys k h.air h.on in
      let m = step (Calls (calls.HandsOver keys)) k in
      same_air l m (link_behind all) refl refl refl
      (goes_on l k m h (Moves keys ∷ x.by.steps) (tt, x.by.living) x.by.on)

  module _ (K : Kind → Type 0)
      (first : (c : BearerConfig) (keys : Keys) (side : Side) → K c.kind → T (flow_of c.kind c keys side)) where
    begins : (past : List Group) (c : BearerConfig) → Comes c past → K c.kind → AirOn c.channel.lcid past
    begins past c x kind = record {
      air = outset (link_behind past).nb (link_behind past).ue;
      on = x.early.rest;
      new = record {
        nb = record { come = (x.begun Nb).come; new = (x.begun Nb).new };
        ue = record { come = (x.begun Ue).come; new = (x.begun Ue).new };
      };
      there = record { nb = (x.begun Nb).there; ue = (x.begun Ue).there };
      bearers = λ side. at_begun side (link_behind past) (λ s e. T (flow c.channel.lcid e))
          (subst T (sym (x.begun side).bearer_is) (first c x.keys side kind));
    }

    is_air : (l : ℕ) (past : List Group) (c : BearerConfig) → KeepsOrder past → K c.kind → config_of l past ≡ Some c
        → is_forged past ≡ false → AirOn l past
    is_air = lives_behind AirOn stays moves K begins

    -- both bearers of a channel
    pub bearers_behind : (l : ℕ) (past : List Group) (c : BearerConfig) → KeepsOrder past → is_forged past ≡ false
        → config_of l past ≡ Some c → K c.kind → (side : Side) → T (flow l (end_of side (link_behind past)))
    bearers_behind l past c order own config kind side =
        let x = is_air l past c order kind config own in
        subst (λ (e : End). T (flow l e)) (at_end side (link_behind past) x.air x.on) (x.bearers side)

pub air_behind : (l : ℕ) (past : List Group) (c : BearerConfig) → KeepsOrder past → is_forged past ≡ false
    → config_of l past ≡ Some c → IsAirBehind l past
air_behind l past c order own config =
    let x = is_air (λ (x : Flow). Unit {0}) (λ x y same h. tt) (λ (kind : Kind). Unit {0}) (λ c keys side kind. tt) l
    past c order tt config own in
    record { air = x.air; on = x.on; new = x.new; there = x.there }
