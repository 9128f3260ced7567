-- Each signalling bearer of a journal hands up the first SDUs of those submitted at the other end since the last
-- handover.
use Rattle.std.proofs.Common.{◌≡◌, ◌<◌, inr, arith, ℕ, Bool, true, false, if◌then◌else◌, Some}
use Rattle.std.proofs.Common.{List, [], ◌∷◌, ◌++◌, append-nil, append_assoc, refl, ap, sym, subst, ◌∙◌}
use Rattle.std.specs.List.{filter}
use Rattle.std.proofs.lemmas.List.Concat.{flat_map-append}
use Rattle.std.proofs.lemmas.List.Elements.{filter-append}
use Rattle.law_words.specs.Lists.{AreFirstSdus}
use Rattle.air_link.specs.Draining.{is_drained}
use Rattle.air_link.specs.Link.{end_of}
use Rattle.bearer_types.specs.Sides.{other}
use Rattle.air_record.specs.declared.line.Line.{Line}
use Rattle.air_record.specs.declared.line.Line.TheVariants as lines
use Rattle.air_record.specs.declared.record.Record.{Record}
use Rattle.air_record.specs.declared.record.Record.TheVariants as records
use Rattle.air_run.specs.Playing.{keys_or_none}
use Rattle.air_record.specs.Cells.{next_keys}
use Rattle.air_run.specs.Run.{behind_line}
use Rattle.air_text.specs.Groups.{Group, history}
use Rattle.bearer.specs.Acknowledged.State.{State}
use Rattle.bearer_types.specs.declared.config.BearerConfig.{BearerConfig}
use Rattle.bearer_types.specs.declared.event.Event.{Event}
use Rattle.law_deliver.specs.AmChannel.Delivery.{went_up, was_submitted}
use Rattle.law_deliver.specs.AmChannel.Drained.{has_failed}
use Rattle.law_deliver.specs.AmChannel.Lives.{AirStep, InLife, Moves, lives, end_at, all_calls}
use Rattle.law_deliver.proofs.AmChannel.Drained.{channel_drained}
use Rattle.law_deliver.specs.AmFlow.Air.{Air, outset}
use Rattle.law_deliver.specs.AmFlow.Ups.{ups_on, up_on}
use Rattle.promises.specs.Events.{told_on, is_lost, losses}
use Rattle.law_deliver.proofs.AmFlow.Events.{told_then}
use Rattle.l2_node.specs.End.{End}
use Rattle.l2_node.specs.Sums.{is_drained as end_drained}
use Rattle.l2_types.specs.declared.channel.Kind.TheVariants.{Srb}
use Rattle.l2_types.specs.declared.side.Side.{Side}
use Rattle.l2_types.specs.declared.side.Side.TheVariants.{Nb, Ue}
use Rattle.law_node.specs.Holding.{flow}
use Rattle.promises.specs.Records.{events_of, ups_in, is_of_air}
use Rattle.law_run.proofs.AnyCalls.Going.{told_both}
use Rattle.law_run.specs.TwoEnds.Going.{GoesByAir}
use Rattle.law_run.specs.TwoEnds.Staying.{AreInLife}
use Rattle.law_run.proofs.TwoEnds.Staying.{LivesAnew, lives_anew}
use Rattle.law_deliver.specs.SrbChannel.Running.{Life, running, first_life}
use Rattle.law_deliver.proofs.SrbChannel.Laws.{Living, first_living, all_live}
use Rattle.law_deliver.proofs.SrbChannel.Running.{Start, down, up, all_down, all_up, none_between, none_lost}
use Rattle.law_deliver.proofs.SrbChannel.Running.{came_as, came_down, came_up}
use Rattle.law_deliver.proofs.SrbChannel.Running.{none_lost_between, starts_first, starts_anew}
use Rattle.law_deliver.specs.SrbDelivery.Arrival.{passes_of}
use Rattle.law_run.proofs.Renewed.{IsRenewed, line_since, stays_renewed, kept_by, moves_renewed}
use Rattle.law_run.proofs.Renewed.{begins_renewed, line_by, lives_behind}
use Rattle.law_run.proofs.Passing.{tells_passes, no_air_passes, none_behind, none_passed, passed_stays, passed_line}
use Rattle.law_words.specs.Passing.{Passing, nothing_told, with_passings}
use Rattle.pdcp_pdu.specs.Kinds.{bits_of}
use Rattle.pdcp_pdu.specs.declared.PdcpKind.TheVariants.{Srb as PdcpSrb}
use Rattle.promises.specs.Sequence.{passes_in, passed_since, AreInSequence, AllHandUpInSequence, HandUpInSequence}
use Rattle.promises.specs.Delivery.{forges, is_forged}
use Rattle.promises.specs.Parts.{is_handover, part_of_line}
use Rattle.promises.specs.Drained.{failed}
use Rattle.promises.specs.Flows.{handed_in, looped_at, delivered}
use Rattle.law_run.specs.Order.{state_behind, IsRight, KeepsOrder}
use Rattle.promises.specs.Signalling.{submitted_since, delivered_since, losses_since, SignalAll, DeliversEachLife}
use Rattle.promises.specs.Signalling.{LeavesNoSignal, DrainsLeaveNoSignal, BringsNoSignal, HandoversBringNoSignal}
use Rattle.promises.specs.Configs.{config_of}
use Rattle.law_run.proofs.BearerWalk.{adds_one, Comes}
use Rattle.law_run.proofs.Delivering.{ups_are_told, ups_told}
use Rattle.law_run.proofs.EmptyLists.{parts_empty, empty_if}
use Rattle.law_run.proofs.Failed.{HasSender, sender_goes, sender_begins}
use Rattle.law_run.proofs.DrainBegins.{none_forged}
use Rattle.law_run.proofs.DrainDone.{is_done}
use Rattle.law_run.proofs.Drains.{side_drained}
use Rattle.law_run.proofs.Past.{behind, link_behind}
use Rattle.law_run.proofs.Unlooped.{none_looped}

-- ---- what an end lost

abbrev losses_on : ℕ → List Event → List Event
losses_on l told = losses (told_on l told)

lost_both : (l : ℕ) (side : Side) (xs ys : List Record)
    → losses_on l (events_of side (xs ++ ys)) ≡ losses_on l (events_of side xs) ++ losses_on l (events_of side ys)
lost_both l side xs ys =
    ap (losses_on l) (told_both side xs ys (events_of side xs) (events_of side ys) refl refl)
    ∙ ap losses (told_then l (events_of side xs) (events_of side ys))
    ∙ filter-append is_lost (told_on l (events_of side xs)) (told_on l (events_of side ys))

lost_then : (l : ℕ) (side : Side) (past : List Group) (g : Group)
    → losses_since side l (g ∷ past) ≡ losses_since side l past ++ losses_on l (events_of side g.events)
lost_then l side past g = lost_both l side (history past) (records.Line g.number g.line ∷ g.events)

-- ---- a channel of signalling, behind groups

-- of PDCP's numbers
abbrev own_bits : ℕ
own_bits = bits_of PdcpSrb

pub record IsSignalling (l : ℕ) (past : List Group) : Type 0 where
  pub life : IsRenewed l past
  pub near : State
  pub far : State
  pub begun : Start l life.nb life.ue near far
  pub delivered_is : (side : Side) → delivered_since side l past ≡ ups_on l (events_of side life.told)
  pub lost_is : (side : Side) → losses_since side l past ≡ losses_on l (events_of side life.told)
  pub passed_is : (from : Side) → passed_since l from past ≡ passes_of (life.flown own_bits from)
  pub senders : (side : Side) → HasSender side l past

-- ---- a line since that is no handover

told_ups : (l : ℕ) (side : Side) (xs ys : List Record)
    → ups_on l (events_of side (xs ++ ys)) ≡ ups_on l (events_of side xs) ++ ups_on l (events_of side ys)
told_ups l side xs ys =
    ap (ups_on l) (told_both side xs ys (events_of side xs) (events_of side ys) refl refl)
    ∙ flat_map-append (up_on l) (events_of side xs) (events_of side ys)

dropped_by : {A : Type 0} (b : Bool) (xs : List A) → b ≡ true → (if b then [] else xs) ≡ []
dropped_by true xs e = refl
dropped_by false xs e = absurd cc

stays_on : (l : ℕ) (past : List Group) (g : Group) → IsRight past g → KeepsOrder past → adds_one l g.line ≡ false
    → forges g.line ≡ false → is_handover g.line ≡ false → IsSignalling l past → IsSignalling l (g ∷ past)
unfolding stays_renewed
stays_on l past g right order other own here d =
    let r = d.life in
    let m = behind_line g.line (state_behind past) in
    let x = line_since l past g right order other own here r in
    record {
      life = stays_renewed l past g right order other own here r;
      near = d.near;
      far = d.far;
      begun = d.begun;
      delivered_is = λ side.
          ap (λ (xs : List (List ℕ)). xs ++ ups_in side l g.events)
          (kept_by (is_handover g.line) (delivered_since side l past) here ∙ d.delivered_is side)
          ∙ ap (λ (xs : List (List ℕ)). ups_on l (events_of side r.told) ++ xs)
          (sym (ups_are_told side l g.events) ∙ ap (λ (ys : List Record). ups_on l (events_of side ys)) right.events_are
          ∙ ap (ups_on l) (x.told_are side))
          ∙ sym (told_ups l side r.told x.more);
      lost_is = λ side.
          lost_then l side past g ∙ ap (λ (xs : List Event). xs ++ losses_on l (events_of side g.events))
          (d.lost_is side)
          ∙ ap (λ (xs : List Event). losses_on l (events_of side r.told) ++ xs)
          (ap (λ (ys : List Record). losses_on l (events_of side ys)) right.events_are
          ∙ ap (losses_on l) (x.told_are side))
          ∙ sym (lost_both l side r.told x.more);
      passed_is = λ from.
          passed_stays (is_handover g.line) here (passed_since l from past) (passes_in l from [] g.events)
          ∙ ap (λ (ps : List Passing). ps ++ passes_in l from [] g.events) (d.passed_is from)
          ∙ ap (λ (ys : List Record). passes_of (r.flown own_bits from) ++ passes_in l from [] ys) right.events_are
          ∙ sym (passed_line own_bits l from g.line (r.flown own_bits from) m.out);
      senders = λ side. sender_goes side l past g right order other (d.senders side);
    }

-- ---- what has come of the running life

running_in : (xs : List AirStep) (life : Life) → AreInLife xs
    → running xs life ≡ record life { steps = life.steps ++ xs }
running_in [] life h = ap (λ (ys : List AirStep). record life { steps = ys }) (sym (append-nil life.steps))
running_in (InLife s ∷ xs) life h =
    running_in xs (record life { steps = life.steps ++ InLife s ∷ [] }) h
    ∙ ap (λ (ys : List AirStep). record life { steps = ys }) (append_assoc life.steps (InLife s ∷ []) xs)
running_in (Moves keys ∷ xs) life h = absurd h

module _ (l : ℕ) (past : List Group) (d : IsSignalling l past) where
  abbrev first_nb : End
  first_nb = d.life.nb

  abbrev first_ue : End
  first_ue = d.life.ue

  abbrev by : GoesByAir l d.life.told d.life.handed d.life.flown false (link_behind past) (outset first_nb first_ue)
  by = d.life.lived.by

  abbrev steps : List AirStep
  steps = by.steps

  abbrev start : Air
  start = outset first_nb first_ue

  pub living : Living l (record { nb = first_nb; ue = first_ue; steps = steps })
  living =
      subst (Living l) (running_in steps (first_life first_nb first_ue) d.life.lived.in_life)
      (all_live l steps (first_life first_nb first_ue) by.living (by.sets_none refl)
      (first_living l first_nb first_ue d.near d.far d.begun))

  went_up_is : (side : Side) → went_up l (all_calls side steps start) (end_at side start) ≡ delivered_since side l past
  went_up_is side = ap (ups_on l) (sym (by.told_is side)) ∙ sym (d.delivered_is side)

  was_submitted_is : (side : Side) → was_submitted l (all_calls side steps start) (end_at side start)
      ≡ submitted_since side l past
  was_submitted_is side = by.submitted_is side l ∙ sym (d.life.submitted_is side)

  pub none_is_lost : (side : Side) → losses_since side l past ≡ []
  none_is_lost side =
      d.lost_is side ∙ ap (losses_on l) (by.told_is side)
      ∙ none_lost l first_nb first_ue living.near living.far living.begun steps living.runs living.calls side

  as_told : {us vs ss ts : List (List ℕ)} (P : List (List ℕ) → List (List ℕ) → Type 0) → us ≡ vs → ss ≡ ts → P us ss
      → P vs ts
  as_told {us} {vs} {ss} {ts} P e f p = subst (λ zs. P zs ts) e (subst (P us) f p)

  pub front_is : (from : Side) → AreFirstSdus (delivered_since (other from) l past) (submitted_since from l past)
  front_is Nb =
      as_told AreFirstSdus (went_up_is Ue) (was_submitted_is Nb)
      (down l first_nb first_ue living.near living.far living.begun steps living.runs living.calls)
  front_is Ue =
      as_told AreFirstSdus (went_up_is Nb) (was_submitted_is Ue)
      (up l first_nb first_ue living.near living.far living.begun steps living.runs living.calls)

  pub all_are : (from : Side) → end_drained (end_of from (link_behind past)) ≡ true → failed from l past ≡ []
      → delivered_since (other from) l past ≡ submitted_since from l past
  all_are Nb done quiet =
      let here : (lives steps start).nb.end ≡ (link_behind past).nb = by.on.nb_is in
      sym (went_up_is Ue)
      ∙ all_down l first_nb first_ue living.near living.far living.begun steps living.runs living.calls
      (record {
        drained = channel_drained l (lives steps start).nb.end (ap end_drained here ∙ done);
        unfailed = ap (λ (x : End). has_failed (flow l x)) here ∙ (d.senders Nb).unfailed quiet;
      })
      ∙ was_submitted_is Nb
  all_are Ue done quiet =
      let here : (lives steps start).ue.end ≡ (link_behind past).ue = by.on.ue_is in
      sym (went_up_is Nb)
      ∙ all_up l first_nb first_ue living.near living.far living.begun steps living.runs living.calls
      (record {
        drained = channel_drained l (lives steps start).ue.end (ap end_drained here ∙ done);
        unfailed = ap (λ (x : End). has_failed (flow l x)) here ∙ (d.senders Ue).unfailed quiet;
      })
      ∙ was_submitted_is Ue

-- ---- a handover

moves_on : (l : ℕ) (past : List Group) (g : Group) (user rrc integrity : _)
    → IsRight past (record g { line = lines.Handover user rrc integrity }) → KeepsOrder past → IsSignalling l past
    → IsSignalling l (record g { line = lines.Handover user rrc integrity } ∷ past)
unfolding moves_renewed
moves_on l past g user rrc integrity right order d =
    let line = lines.Handover user rrc integrity in
    let r = d.life in
    let k = link_behind past in
    let keys = next_keys user rrc integrity (keys_or_none (state_behind past).rules.keys) in
    let alive = living l past d in
    let x : LivesAnew l r.nb r.ue keys k (lives (steps l past d) (start l past d)) =
    lives_anew l r.nb r.ue r.told r.handed r.flown false keys k r.lived in
    let leaving = x.moves.leaving in
    let behind' = x.moves.behind in
    let events_are : g.events ≡ leaving ++ behind' = right.events_are ∙ x.moves.out_is
    ∙ ap (λ (o : List Record). o ++ (leaving ++ behind')) (behind past order).nothing in
    let none : (side : Side) → ups_on l (events_of side leaving) ≡ [] = λ side.
    ap (ups_on l) (x.moves.told_is side)
    ∙ none_between l r.nb r.ue alive.near alive.far alive.begun (steps l past d) alive.runs alive.calls side keys
    in
    let none_lost' : (side : Side) → losses_on l (events_of side leaving) ≡ [] = λ side.
    ap (losses_on l) (x.moves.told_is side)
    ∙ none_lost_between l r.nb r.ue alive.near alive.far alive.begun (steps l past d) alive.runs alive.calls side
    keys in
    record {
      life = moves_renewed l past g user rrc integrity right order r;
      near = _;
      far = _;
      begun = starts_anew l r.nb r.ue alive.near alive.far alive.begun (steps l past d) alive.runs alive.calls keys;
      delivered_is = λ side.
          sym (ups_are_told side l g.events) ∙ ap (λ (ys : List Record). ups_on l (events_of side ys)) events_are
          ∙ told_ups l side leaving behind'
          ∙ ap (λ (ys : List (List ℕ)). ys ++ ups_on l (events_of side behind')) (none side);
      lost_is = λ side.
          lost_then l side past (record g { line = line })
          ∙ ap (λ (xs : List Event). xs ++ losses_on l (events_of side g.events)) (none_is_lost l past d side)
          ∙ ap (λ (ys : List Record). losses_on l (events_of side ys)) events_are ∙ lost_both l side leaving behind'
          ∙ ap (λ (xs : List Event). xs ++ losses_on l (events_of side behind')) (none_lost' side);
      passed_is = λ from.
          no_air_passes l from [] g.events right.of_its_time.flown
          ∙ sym (tells_passes own_bits l from [] behind'
          ∙ no_air_passes l from [] behind'
          (none_behind leaving behind'
          (ap (filter is_of_air) (sym events_are) ∙ right.of_its_time.flown)));
      senders = λ side. sender_goes side l past (record g { line = line }) right order refl (d.senders side);
    }

-- ---- where nothing went up at all

none_delivered : (side : Side) (l : ℕ) (past : List Group) → delivered side l past ≡ []
    → delivered_since side l past ≡ []
none_delivered side l [] e = refl
none_delivered side l (g ∷ past) e =
    let parts = parts_empty (delivered side l past) (ups_in side l g.events) e in
    empty_if (is_handover g.line) (delivered_since side l past) (ups_in side l g.events)
    (none_delivered side l past parts.0) parts.1

-- ---- the line in which its bearers come

begin_by : (past : List Group) (c : BearerConfig) → Comes c past → c.kind ≡ Srb → IsSignalling c.channel.lcid past
unfolding begins_renewed
begin_by past c x kind =
    let l = c.channel.lcid in
    let k = link_behind past in
    let few = x.first in
    record {
      life = begins_renewed past c x (inr kind);
      near = _;
      far = _;
      begun = starts_first l c x.keys k.nb k.ue kind (omega (arith, few)) (x.begun Nb) (x.begun Ue);
      delivered_is = λ side.
          none_delivered side l past (ups_told side l past ∙ ap (ups_on l) (x.early.none_told side));
      lost_is = λ side. ap (losses_on l) (x.early.none_told side);
      passed_is = λ from. none_passed own_bits l from past (x.early.none_happened own_bits l from);
      senders = λ side. sender_begins side l c x.keys past (x.begun side);
    }

-- ---- behind all groups

pub is_signalling : (l : ℕ) (past : List Group) (c : BearerConfig) → KeepsOrder past → c.kind ≡ Srb
    → config_of l past ≡ Some c → is_forged past ≡ false → IsSignalling l past
is_signalling = lives_behind IsSignalling stays_on moves_on (λ kind. kind ≡ Srb) begin_by

-- ---- the promises

pub came_is : (l : ℕ) (past : List Group) (d : IsSignalling l past) (from : Side)
    → AreInSequence (submitted_since from l past) (delivered_since (other from) l past)
    (with_passings (passed_since l from past) nothing_told)
came_is l past d Nb =
    let life = living l past d in
    let r = d.life in
    came_as (was_submitted_is l past d Nb) (went_up_is l past d Ue)
    (ap passes_of (r.lived.by.happened_is own_bits Nb) ∙ sym (d.passed_is Nb))
    (came_down l r.nb r.ue life.near life.far life.begun (steps l past d) life.runs life.calls)
came_is l past d Ue =
    let life = living l past d in
    let r = d.life in
    came_as (was_submitted_is l past d Ue) (went_up_is l past d Nb)
    (ap passes_of (r.lived.by.happened_is own_bits Ue) ∙ sym (d.passed_is Ue))
    (came_up l r.nb r.ue life.near life.far life.begun (steps l past d) life.runs life.calls)

hand_up : (past : List Group) → KeepsOrder past → AllHandUpInSequence past
hand_up past order from l c e kind own = came_is l past (is_signalling l past c order kind e own) from

pub hand_up_in_sequence : (past : List Group) → KeepsOrder past → HandUpInSequence past
hand_up_in_sequence [] order = tt
hand_up_in_sequence (g ∷ past) (right, order) = (hand_up (g ∷ past) (right, order), hand_up_in_sequence past order)

signals : (past : List Group) → KeepsOrder past → SignalAll past
signals past order from l c e kind own =
    let d = is_signalling l past c order kind e own in
    record { front = front_is l past d from; none_lost = none_is_lost l past d (other from) }

pub delivers_each_life : (past : List Group) → KeepsOrder past → DeliversEachLife past
delivers_each_life [] order = tt
delivers_each_life (g ∷ past) (right, order) = (signals (g ∷ past) (right, order), delivers_each_life past order)

leaves_none : (past : List Group) → KeepsOrder past → is_drained (link_behind past) ≡ true → is_forged past ≡ false
    → LeavesNoSignal past
leaves_none past order done own from l c e kind quiet =
    all_are l past (is_signalling l past c order kind e own) from (side_drained from (link_behind past) done) quiet

pub drains_leave_no_signal : (past : List Group) → KeepsOrder past → DrainsLeaveNoSignal past
drains_leave_no_signal [] order = tt
drains_leave_no_signal (g ∷ past) (right, order) = (
  λ d. leaves_none (g ∷ past) (right, order) (is_done past g right order d).drained
      (none_forged past g right order d),
  drains_leave_no_signal past order,
)

-- ---- in a handover

front_of_none : (xs ys : List (List ℕ)) → ys ≡ [] → AreFirstSdus xs ys → xs ≡ []
front_of_none xs ys none f = (parts_empty xs f.rest (sym f.is ∙ none)).0

moves_none : (line : Line) → is_handover line ≡ true → (side : Side) (l : ℕ) (told : List Record)
    → handed_in side l (part_of_line line) told ≡ []
moves_none (lines.Handover user rrc integrity) h side l told = refl
moves_none line h side l told = absurd cc

adds_none : (l : ℕ) (line : Line) → is_handover line ≡ true → adds_one l line ≡ false
adds_none l (lines.Handover user rrc integrity) h = refl
adds_none l line h = absurd cc

forges_none : (line : Line) → is_handover line ≡ true → forges line ≡ false
forges_none (lines.Handover user rrc integrity) h = refl
forges_none line h = absurd cc

none_submitted_in : (side : Side) (l : ℕ) (past : List Group) (g : Group) → l < 3 → KeepsOrder (g ∷ past)
    → is_handover g.line ≡ true → submitted_since side l (g ∷ past) ≡ []
none_submitted_in side l past g low order here =
    ap (λ (xs : List (List ℕ)). xs ++ (handed_in side l (part_of_line g.line) g.events ++ looped_at side l g.events))
    (dropped_by (is_handover g.line) (submitted_since side l past) here)
    ∙ ap (λ (xs : List (List ℕ)). xs ++ looped_at side l g.events) (moves_none g.line here side l g.events)
    ∙ none_looped side l past g low order

brings_by : (from : Side) (l : ℕ) (past : List Group) (g : Group) → KeepsOrder (g ∷ past) → is_handover g.line ≡ true
    → IsSignalling l (g ∷ past) → ups_in (other from) l g.events ≡ []
brings_by from l past g order here d =
    sym (ap (λ (xs : List (List ℕ)). xs ++ ups_in (other from) l g.events)
    (dropped_by (is_handover g.line) (delivered_since (other from) l past) here))
    ∙ front_of_none (delivered_since (other from) l (g ∷ past)) (submitted_since from l (g ∷ past))
    (none_submitted_in from l past g d.life.low order here) (front_is l (g ∷ past) d from)

brings_none : (past : List Group) (g : Group) → KeepsOrder (g ∷ past) → is_handover g.line ≡ true
    → BringsNoSignal past g
brings_none past g (right, order) here side l c e kind own = by_side side
  where
    d : IsSignalling l (g ∷ past)
    d = line_by IsSignalling stays_on moves_on (is_handover g.line) l past g refl (adds_none l g.line here) right order
        (forges_none g.line here) (is_signalling l past c order kind e own)

    by_side : (side : Side) → ups_in side l g.events ≡ []
    by_side Nb = brings_by Ue l past g (right, order) here d
    by_side Ue = brings_by Nb l past g (right, order) here d

pub handovers_bring_none : (past : List Group) → KeepsOrder past → HandoversBringNoSignal past
handovers_bring_none [] order = tt
handovers_bring_none (g ∷ past) (right, order) = (brings_none past g (right, order), handovers_bring_none past order)
