-- Each acknowledged data bearer of a journal hands up the first SDUs of those submitted at the other end.
use Rattle.std.proofs.Common.{◌≡◌, ◌<◌, ◌^◌, ℕ, ◌==◌, Bool, true, false, ◌||◌, ◌&&◌, if◌then◌else◌, cond}
use Rattle.std.proofs.Common.{Some, List, [], ◌∷◌, ◌++◌, map, refl, ap, sym, subst, ◌∙◌}
use Rattle.std.specs.List.{filter}
use Rattle.std.proofs.lemmas.List.Concat.{flat_map-append}
use Rattle.bearer_types.specs.Sides.{other as other_end}
use Rattle.law_words.specs.Lists.{AreFirstSdus, IsSubsequence}
use Rattle.air_link.specs.Lines.{bears}
use Rattle.bearer_types.specs.Sides.{other, sent_by}
use Rattle.air_record.specs.declared.line.Line.TheVariants as lines
use Rattle.air_record.specs.declared.record.Record.{Record}
use Rattle.air_record.specs.declared.record.Record.TheVariants as records
use Rattle.air_run.specs.Playing.{acted}
use Rattle.air_run.specs.Rules.{accepted}
use Rattle.air_run.specs.Run.{behind_line}
use Rattle.air_text.specs.Groups.{Group, history}
use Rattle.bearer_types.specs.Configs.{IsConfig}
use Rattle.bearer_types.specs.declared.config.BearerConfig.{BearerConfig}
use Rattle.bearer_types.specs.declared.event.Event.{Event}
use Rattle.bearer_types.specs.declared.event.Event.TheVariants as events
use Rattle.law_deliver.specs.AmChannel.Arrival.{happened as flown_in}
use Rattle.law_deliver.specs.AmChannel.Delivery.{HasBegun, AmEndsBeginAlike, SetNone, went_up, was_submitted}
use Rattle.law_deliver.proofs.AmChannel.Delivery.{channels_deliver_in_order, channels_deliver_undiscarded}
use Rattle.law_deliver.proofs.AmChannel.Delivery.{unset_discards_none}
use Rattle.law_deliver.specs.AmChannel.Lives.{AirStep, end_at, all_calls}
use Rattle.eps_sec.specs.declared.Keys.{Keys}
use Rattle.law_deliver.specs.AmFlow.Air.{Air, outset}
use Rattle.law_deliver.specs.AmFlow.Ups.{ups_on, up_on}
use Rattle.promises.specs.Events.{discards_on}
use Rattle.l2_node.specs.End.{End}
use Rattle.l2_types.specs.declared.channel.Kind.TheVariants.{Am, Um}
use Rattle.l2_types.specs.declared.side.Side.{Side}
use Rattle.l2_types.specs.declared.side.Side.TheVariants.{Nb, Ue}
use Rattle.law_node.specs.Telling.{told_over}
use Rattle.promises.specs.Records.{is_up, event_of, events_of, sdu_of, ups_in}
use Rattle.law_run.proofs.AnyCalls.Going.{told_both}
use Rattle.prioritise.proofs.ChannelLemmas.{both_false}
use Rattle.promises.specs.Arrival.{entries_in, entries_ended, entries_from}
use Rattle.law_words.specs.Arrivals.{AccountEntry}
use Rattle.law_run.proofs.TwoEnds.Coming.{come_by_none}
use Rattle.air_run.specs.Written.{all_seen, noticed, with_um}
use Rattle.um_losses.specs.Flow.{Flow}
use Rattle.um_losses.specs.declared.cursor.Cursor.{Cursor}
use Rattle.um_losses.specs.declared.flow.Happening.{Happening}
use Rattle.um_losses.specs.Told.{told_in, all_after, flow_at}
use Rattle.law_deliver.specs.UmGaps.Delivery.{first_flow}
use Rattle.law_deliver.proofs.UmGaps.Acting.{after_then}
use Rattle.promises.specs.Delivery.{forges, is_forged, sets_timer, is_timed, discarded, DeliverAll, DeliversInOrder}
use Rattle.promises.specs.Flows.{handed_in, looped_at, submitted, delivered}
use Rattle.law_run.specs.Order.{state_behind, IsRight, KeepsOrder}
use Rattle.promises.specs.Parts.{part_of_line}
use Rattle.promises.specs.Configs.{config_of}
use Rattle.law_run.proofs.Early.{is_early}
use Rattle.law_run.proofs.Failed.{HasSender, sender_goes, sender_begins}
use Rattle.law_run.proofs.Flowing.{Sdus, Happened, Haps, word_of, with_word}
use Rattle.law_run.proofs.Lives.{Lived, LineLives, lived_now, unseen, line_lives}
use Rattle.law_run.proofs.Past.{behind, link_behind}
use Rattle.law_run.proofs.Reaching.{kinds_behind}
use Rattle.law_run.proofs.Seen.{all_seen_flow, noticed_flow, noticed_place, no_flow, new_flow, new_shown}
use Rattle.law_run.proofs.BearerWalk.{adds_one, is_first, comes, behind_all}

-- ---- what goes up at an end, as records tell it and as the end does

up_by : (here on : Bool) (l : ℕ) (s : Side) (lcid : ℕ) (octets : List ℕ) (told : List Record) (up : List (List ℕ))
    → (lcid == l) ≡ on → map sdu_of told ≡ up
    → ups_on l (if here && true then events.Up lcid octets ∷ [] else []) ++ up
    ≡ map sdu_of (cond (here && on) (records.Of s (events.Up lcid octets) ∷ told) told)
up_by true true l s lcid octets told up e h = rw e (ap (λ (xs : List (List ℕ)). octets ∷ xs) (sym h))
up_by true false l s lcid octets told up e h = rw e (sym h)
up_by false on l s lcid octets told up e h = sym h

none_up : (b : Bool) (l : ℕ) (e : Event) → up_on l e ≡ [] → ups_on l (if b then e ∷ [] else []) ≡ []
none_up true l e none = ap (λ (xs : List (List ℕ)). xs ++ []) none
none_up false l e none = refl

one_told : (side : Side) (l : ℕ) (one : Record) (told : List Record) (up : List (List ℕ)) → ups_in side l told ≡ up
    → ups_on l (event_of side one) ++ up ≡ ups_in side l (one ∷ told)
one_told side l (records.Of s (events.Up lcid octets)) told up h =
    up_by _ (lcid == l) l s lcid octets (filter (is_up side l) told) up refl h
one_told side l (records.Of s e) told up h = ap (λ (xs : List (List ℕ)). xs ++ up) (none_up _ l e refl) ∙ sym h
one_told side l one told up h = sym h

pub ups_are_told : (side : Side) (l : ℕ) (told : List Record) → ups_on l (events_of side told) ≡ ups_in side l told
ups_are_told side l [] = refl
ups_are_told side l (one ∷ told) =
    flat_map-append (up_on l) (event_of side one) (events_of side told)
    ∙ ap (λ (xs : List (List ℕ)). ups_on l (event_of side one) ++ xs) (ups_are_told side l told)
    ∙ one_told side l one told (ups_in side l told) refl

pub ups_told : (side : Side) (l : ℕ) (past : List Group)
    → delivered side l past ≡ ups_on l (events_of side (history past))
ups_told side l [] = refl
ups_told side l (g ∷ past) =
    ap (λ (xs : List (List ℕ)). xs ++ ups_in side l g.events) (ups_told side l past)
    ∙ ap (λ (xs : List (List ℕ)). ups_on l (events_of side (history past)) ++ xs)
    (sym (ups_are_told side l g.events))
    ∙ sym (flat_map-append (up_on l) (events_of side (history past)) (events_of side g.events))
    ∙ ap (ups_on l)
    (sym (told_both side (history past) (records.Line g.number g.line ∷ g.events) (events_of side (history past))
    (events_of side g.events) refl refl))

pub other_is : (side : Side) → other_end side ≡ other side
other_is Nb = refl
other_is Ue = refl

pub as_told : (P : List (List ℕ) → List (List ℕ) → Type 0) {xs ys xs' ys' : List (List ℕ)} → xs ≡ xs' → ys ≡ ys'
    → P xs ys → P xs' ys'
as_told P {xs} {ys} {xs'} {ys'} e f p =
    subst (λ (zs : List (List ℕ)). P zs ys') e (subst (λ (zs : List (List ℕ)). P xs zs) f p)

-- ---- a channel, behind groups

pub record IsDelivering (l : ℕ) (c : BearerConfig) (past : List Group) : Type 0 where
  pub config : IsConfig c
  pub first : c.first < 2 ^ 32
  pub keys : Keys
  pub nb : End
  pub ue : End
  pub nb_begun : HasBegun Nb l c keys nb
  pub ue_begun : HasBegun Ue l c keys ue
  pub told : List Record
  pub handed : Sdus
  pub flown : Happened
  pub haps : Haps
  pub set : Bool
  pub lived : Lived l nb ue c.rlc_bits (c.kind ≡ Um) told handed flown haps set (link_behind past)
  pub unset : is_timed l past ≡ false → set ≡ false
  pub told_is : (side : Side) → events_of side (history past) ≡ events_of side told
  pub submitted_is : (side : Side) → submitted side l past ≡ handed side l
  pub happened_is : (bits : ℕ) (from : Side) → entries_from bits l from past ≡ flown bits from
  pub senders : c.kind ≡ Am → (side : Side) → HasSender side l past
  -- and what is told is what became of the flow from each side
  pub flows : c.kind ≡ Um → (from : Side) → flow_at (sent_by from) l (state_behind past).losses.flows
      ≡ Some (all_after (haps from) (first_flow from l c))

pub alike : (l : ℕ) (c : BearerConfig) (past : List Group) (d : IsDelivering l c past) → c.kind ≡ Am
    → AmEndsBeginAlike l c d.keys d.nb d.ue
alike l c past d kind = record {
  kind = kind;
  config = d.config;
  first = d.first;
  nb_begun = d.nb_begun;
  ue_begun = d.ue_begun;
}

-- ---- a line since

goes_on : (l : ℕ) (c : BearerConfig) (past : List Group) (g : Group) → IsRight past g → KeepsOrder past
    → adds_one l g.line ≡ false → forges g.line ≡ false → IsDelivering l c past → IsDelivering l c (g ∷ past)
goes_on l c past g right order other own d =
    let k = link_behind past in
    let m = behind_line g.line (state_behind past) in
    let p = part_of_line g.line in
    let set = d.set || sets_timer l g.line in
    let w = (state_behind past).losses in
    let word = word_of g.line in
    let haps = with_word word d.haps in
    let x : LineLives l d.nb d.ue c.rlc_bits (c.kind ≡ Um) d.told haps d.told d.handed d.flown set
    (entries_ended g.line) p
    m =
    line_lives l d.nb d.ue c.rlc_bits (c.kind ≡ Um) d.told d.handed d.flown d.haps d.set g.line
    (state_behind past).rules.keys k (behind past order).nothing right.in_range other own d.lived in
    record {
      config = d.config;
      first = d.first;
      keys = d.keys;
      nb = d.nb;
      ue = d.ue;
      nb_begun = d.nb_begun;
      ue_begun = d.ue_begun;
      told = d.told ++ x.more;
      handed = λ side n. d.handed side n ++ (handed_in side n p m.out ++ looped_at side n m.out);
      flown = λ bits from. d.flown bits from ++ (entries_ended g.line ++ entries_in bits l from [] m.out);
      haps = λ from. haps from ++ told_in (sent_by from) l w.cursor x.more;
      set = set;
      lived = unseen l d.nb d.ue c.rlc_bits (c.kind ≡ Um) (d.told ++ x.more) _ _ _ set m []
          (lived_now l d.nb d.ue c.rlc_bits (c.kind ≡ Um) d.told haps x.more _ _ set m w.cursor x.lived);
      unset = λ off. let apart = both_false (sets_timer l g.line) (is_timed l past) off in
          ap (λ (b : Bool). b || sets_timer l g.line) (d.unset apart.1) ∙ apart.0;
      told_is = λ side.
          told_both side (history past) (records.Line g.number g.line ∷ g.events) (events_of side d.told)
          (events_of side x.more) (d.told_is side) (ap (events_of side) right.events_are ∙ x.told_are side)
          ∙ sym (told_both side d.told x.more (events_of side d.told) (events_of side x.more) refl refl);
      submitted_is = λ side.
          ap (λ (xs : List (List ℕ)). xs ++ (handed_in side l p g.events ++ looped_at side l g.events))
          (d.submitted_is side)
          ∙ ap (λ (ys : List Record). d.handed side l ++ (handed_in side l p ys ++ looped_at side l ys))
          right.events_are;
      happened_is = λ bits from.
          ap (λ (hs : List AccountEntry). hs ++ (entries_ended g.line ++ entries_in bits l from [] g.events))
          (d.happened_is bits from)
          ∙ ap (λ (ys : List Record). d.flown bits from ++ (entries_ended g.line ++ entries_in bits l from [] ys))
          right.events_are;
      senders = λ kind side. sender_goes side l past g right order other (d.senders kind side);
      flows = λ kind from.
          let was = all_after (d.haps from) (first_flow from l c) in
          let v = noticed g.line m w in
          all_seen_flow (sent_by from) l m.out v (all_after word was)
          (noticed_flow g.line m (sent_by from) l w was own (d.flows kind from))
          ∙ (ap (λ (place : Cursor). Some (all_after (told_in (sent_by from) l place m.out) (all_after word was)))
          (noticed_place g.line m w own)
          ∙ (ap (λ (hs : List Happening). Some (all_after hs (all_after word was))) (x.haps_are (sent_by from) w.cursor)
          ∙ (ap (λ (f : Flow). Some (all_after (told_in (sent_by from) l w.cursor x.more) f))
          (sym (after_then (d.haps from) word (first_flow from l c)))
          ∙ ap (λ (f : Flow). Some f)
          (sym (after_then (d.haps from ++ word) (told_in (sent_by from) l w.cursor x.more)
          (first_flow from l c))))));
    }

-- ---- the line in which its bearers come

begin_by : (past : List Group) (g : Group) (c : BearerConfig) (options : _)
    → IsRight past (record g { line = lines.Bearer c options }) → KeepsOrder past
    → IsDelivering c.channel.lcid c (record g { line = lines.Bearer c options } ∷ past)
unfolding acted accepted bears
begin_by past g c options right order =
    let l = c.channel.lcid in
    let all : List Group = record g { line = lines.Bearer c options } ∷ past in
    let there = link_behind all in
    let f = is_first c options (state_behind past).rules (link_behind past) right.allowed in
    let x = comes past g c options right order in
    record {
      config = x.config;
      first = x.first;
      keys = x.keys;
      nb = there.nb;
      ue = there.ue;
      nb_begun = x.begun Nb;
      ue_begun = x.begun Ue;
      told = [];
      handed = λ side n. [];
      flown = λ bits from. [];
      haps = λ from. [];
      set = false;
      lived = record {
        by = come_by_none l there (outset there.nb there.ue) x.early.rest;
        kinds = λ kind. new_shown past c (link_behind past).kinds (kinds_behind past order) kind right.in_range;
        whats_are = λ kind from. refl;
      };
      unset = λ off. refl;
      told_is = x.early.none_told;
      submitted_is = λ side. x.early.none_submitted side l;
      happened_is = λ bits from. x.early.none_happened bits l from;
      senders = λ kind side. sender_begins side l c x.keys all (x.begun side);
      flows = λ kind from.
          ap (λ (out : List Record). flow_at (sent_by from) l
          (all_seen out (with_um c.kind c (state_behind past).losses)).flows) (is_early past order f.early).silent
          ∙ new_flow from c (state_behind past).losses kind right.in_range
          (λ dir. no_flow past order f.early dir l (both_false _ _ f.none).0);
    }

-- ---- behind all groups

pub is_delivering : (l : ℕ) (past : List Group) (c : BearerConfig) → KeepsOrder past → config_of l past ≡ Some c
    → is_forged past ≡ false → IsDelivering l c past
is_delivering l past c order e own =
    behind_all (λ n d groups. is_forged groups ≡ false → IsDelivering n d groups) (λ d. Unit {0})
    (λ groups g d options right keeps any unforged. begin_by groups g d options right keeps)
    (λ n d groups g right keeps other before h unforged.
    let apart = both_false (forges g.line) (is_forged groups) unforged in
    goes_on n d groups g right keeps other apart.0 (h apart.1)) l past c order tt e own

-- ---- of the journal's own words

module _ (l : ℕ) (c : BearerConfig) (past : List Group) (d : IsDelivering l c past) where
  abbrev pub steps : List AirStep
  steps = d.lived.by.steps

  abbrev pub start : Air
  start = outset d.nb d.ue

  pub tells : (side : Side) → told_over (all_calls side steps start) (end_at side start) ≡ events_of side (history past)
  tells side = sym (d.told_is side ∙ d.lived.by.told_is side)

  pub went_up_is : (from : Side) → went_up l (all_calls (other_end from) steps start) (end_at (other_end from) start)
      ≡ delivered (other from) l past
  went_up_is from = ap (ups_on l) (tells (other_end from)) ∙ sym (ups_told (other_end from) l past)
      ∙ ap (λ (s : Side). delivered s l past) (other_is from)

  pub was_submitted_is : (from : Side) → was_submitted l (all_calls from steps start) (end_at from start)
      ≡ submitted from l past
  was_submitted_is from = d.lived.by.submitted_is from l ∙ sym (d.submitted_is from)

  pub happened_from : (bits : ℕ) (from : Side) → flown_in bits l from steps start ≡ entries_from bits l from past
  happened_from bits from = d.lived.by.happened_is bits from ∙ sym (d.happened_is bits from)

delivers : (past : List Group) → KeepsOrder past → DeliverAll past
delivers past order from l c e kind own =
    let d = is_delivering l past c order e own in
    let h = d.lived.by in
    let both = alike l c past d kind in
    let ups = went_up_is l c past d from in
    let all = was_submitted_is l c past d from in
    let none : SetNone l (all_calls from h.steps (outset d.nb d.ue)) → discarded from l past ≡ [] = λ unset.
    ap (discards_on l) (sym (tells l c past d from))
    ∙ unset_discards_none l c d.keys d.nb d.ue from h.steps both h.living unset in
    record {
      in_order =
          as_told (λ xs ys. IsSubsequence xs ys) ups all
          (channels_deliver_in_order l c d.keys d.nb d.ue from h.steps both h.living);
      none_left_out =
          λ none. as_told AreFirstSdus ups all
          (channels_deliver_undiscarded l c d.keys d.nb d.ue from h.steps both h.living
          (ap (discards_on l) (tells l c past d from) ∙ none));
      none_discarded = λ off. none (h.sets_none (d.unset off) from);
    }

pub delivers_in_order : (past : List Group) → KeepsOrder past → DeliversInOrder past
delivers_in_order [] order = tt
delivers_in_order (g ∷ past) (right, order) = (delivers (g ∷ past) (right, order), delivers_in_order past order)
