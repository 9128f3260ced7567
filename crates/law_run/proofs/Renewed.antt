-- A channel whose bearers begin anew in a handover, transparent or of signalling, in its running life: what was
-- submitted has left the queue, or waits.
use Rattle.std.proofs.Common.{◌≡◌, ◌⊎◌, inl, inr, ◌<◌, arith, ℕ, ◌==◌, nat_lt, Bool, true, false, ◌||◌}
use Rattle.std.proofs.Common.{if◌then◌else◌, Some, None, List, [], ◌∷◌, ◌++◌, map, length, refl, ap, sym, subst, ◌∙◌}
use Rattle.std.proofs.lemmas.Bool.Decides.{nat_tests}
use Rattle.std.proofs.lemmas.List.Concat.{flat_map-append}
use Rattle.air_link.specs.Link.{Link}
use Rattle.air_record.specs.Cells.{next_keys}
use Rattle.air_record.specs.declared.line.Line.{Line}
use Rattle.air_record.specs.declared.line.Line.TheVariants as lines
use Rattle.air_record.specs.declared.record.Record.{Record}
use Rattle.air_record.specs.declared.record.Record.TheVariants as records
use Rattle.air_run.specs.Playing.{keys_or_none, acted}
use Rattle.air_run.specs.Rules.{Rules, late, unknown, refused_if, rule_broken, refusal}
use Rattle.air_run.specs.Run.{behind_line}
use Rattle.air_run.specs.declared.refusal.RunRefusal.TheVariants.{NoDiscard}
use Rattle.air_text.specs.Groups.{Group, history}
use Rattle.bearer_types.specs.Configs.{IsChannelOf}
use Rattle.bearer_types.specs.declared.config.BearerConfig.{BearerConfig}
use Rattle.l2_node.specs.End.{End}
use Rattle.l2_types.specs.declared.channel.Kind.{Kind}
use Rattle.l2_types.specs.declared.channel.Kind.TheVariants.{Tm, Srb, Um, Am}
use Rattle.l2_types.specs.declared.side.Side.{Side}
use Rattle.l2_types.specs.declared.side.Side.TheVariants.{Nb, Ue}
use Rattle.law_run.proofs.AnyCalls.Going.{told_both}
use Rattle.law_run.proofs.TwoEnds.Coming.{come_by_none}
use Rattle.law_run.proofs.TwoEnds.Staying.{LivedIn, LivesAnew, lives_anew}
use Rattle.law_run.specs.TwoEnds.Staying.{AreInLife}
use Rattle.law_deliver.proofs.SrbChannel.Queue.{AreInOneLife, BeginsEmpty, begins_first, tells_what_leaves, none_leaves}
use Rattle.law_deliver.proofs.SrbChannel.Queue.{next_begins}
use Rattle.law_deliver.specs.AmChannel.Lives.{AirStep, InLife, Moves, lives, end_at}
use Rattle.law_deliver.specs.AmFlow.Air.{Air, outset}
use Rattle.law_node.proofs.Queueing.{waits_in}
use Rattle.law_node.specs.Calls.{Move, after as after_call}
use Rattle.law_node.specs.Holding.{flow}
use Rattle.law_run.proofs.BearerWalk.{adds_one, at_each, Comes, comes, behind_all}
use Rattle.law_run.proofs.EmptyLists.{parts_empty, empty_if}
use Rattle.law_run.proofs.Flowing.{Sdus, Happened, looped_then, PartLives, line_stays}
use Rattle.law_run.proofs.Keys.{not_first, not_second, no_cause}
use Rattle.law_run.proofs.Lives.{InOneLife, through_life}
use Rattle.law_run.proofs.Past.{behind, link_behind}
use Rattle.law_run.specs.Order.{state_behind, IsRight, KeepsOrder}
use Rattle.prioritise.proofs.ChannelLemmas.{both_false}
use Rattle.promises.specs.Arrival.{entries_ended, entries_in}
use Rattle.promises.specs.Configs.{config_of}
use Rattle.promises.specs.Delivery.{forges, is_forged, sets_timer}
use Rattle.promises.specs.Flows.{handed_in, looped_at, submitted}
use Rattle.promises.specs.Parts.{is_handover, part_of_line}
use Rattle.promises.specs.Records.{events_of}
use Rattle.promises.specs.Signalling.{submitted_since}
use Rattle.promises.specs.Taken.{length_in, lengths_on}
use Rattle.promises.specs.Takes.{left_since}

-- ---- what left its queue

pub left_both : (l : ℕ) (side : Side) (xs ys : List Record)
    → lengths_on l (events_of side (xs ++ ys)) ≡ lengths_on l (events_of side xs) ++ lengths_on l (events_of side ys)
left_both l side xs ys =
    ap (lengths_on l) (told_both side xs ys (events_of side xs) (events_of side ys) refl refl)
    ∙ flat_map-append (length_in l) (events_of side xs) (events_of side ys)

left_then : (l : ℕ) (side : Side) (past : List Group) (g : Group)
    → lengths_on l (events_of side (history (g ∷ past)))
    ≡ lengths_on l (events_of side (history past)) ++ lengths_on l (events_of side g.events)
left_then l side past g = left_both l side (history past) (records.Line g.number g.line ∷ g.events)

-- ---- such a channel, behind groups

pub record IsRenewed (l : ℕ) (past : List Group) : Type 0 where
  pub low : l < 3
  pub nb : End
  pub ue : End
  pub begun : (side : Side) → BeginsEmpty side l (end_at side (outset nb ue))
  pub told : List Record
  pub handed : Sdus
  pub flown : Happened
  pub lived : LivedIn l nb ue told handed flown false (link_behind past)
  pub submitted_is : (side : Side) → submitted_since side l past ≡ handed side l
  pub left_is : (side : Side) → left_since side l past ≡ lengths_on l (events_of side told)

-- ---- no discard timers are set on it

discard_high : (lcid ttis : ℕ) (r : Rules) (k : Link) → refusal (lines.Discard lcid ttis) r k ≡ None
    → nat_lt lcid 3 ≡ false
unfolding rule_broken
discard_high lcid ttis r k allowed =
    let all = not_first (rule_broken (lines.Discard lcid ttis) r k) _ allowed in
    no_cause (nat_lt lcid 3) NoDiscard
    (not_first (refused_if (nat_lt lcid 3) NoDiscard) _
    (not_second (unknown lcid k) _ (not_second (late r) _ all)))

apart_of : (lcid l : ℕ) → nat_lt lcid 3 ≡ false → l < 3 → (lcid == l) ≡ false
apart_of lcid l high low = grind (arith, nat_tests)

pub sets_none : (l : ℕ) (line : Line) (r : Rules) (k : Link) → l < 3 → refusal line r k ≡ None
    → sets_timer l line ≡ false
sets_none l (lines.Discard lcid ttis) r k low allowed = apart_of lcid l (discard_high lcid ttis r k allowed) low
sets_none l line r k low allowed = refl

-- ---- a line since that is no handover

pub kept_by : {A : Type 0} (b : Bool) (xs : List A) → b ≡ false → (if b then [] else xs) ≡ xs
kept_by true xs e = absurd cc
kept_by false xs e = refl

module _ (l : ℕ) (past : List Group) (g : Group) (right : IsRight past g) (order : KeepsOrder past)
    (other : adds_one l g.line ≡ false) (own : forges g.line ≡ false) (here : is_handover g.line ≡ false)
    (d : IsRenewed l past) where
  abbrev m : Link
  m = behind_line g.line (state_behind past)

  pub line_since : PartLives l (InOneLife l d.nb d.ue) (through_life l d.nb d.ue) d.told d.handed d.flown
      (false || sets_timer l g.line) (entries_ended g.line) (part_of_line g.line) m
  line_since =
      line_stays l (InOneLife l d.nb d.ue) (through_life l d.nb d.ue) d.told d.handed d.flown false g.line
      (state_behind past).rules.keys (link_behind past) (behind past order).nothing right.in_range other own here
      d.lived

  unfoldable pub stays_renewed : IsRenewed l (g ∷ past)
  stays_renewed =
      let p = part_of_line g.line in
      let set = false || sets_timer l g.line in
      let off : set ≡ false = sets_none l g.line (state_behind past).rules (link_behind past) d.low right.allowed in
      let x = line_since in
      let flown : Happened =
      λ bits from. d.flown bits from ++ (entries_ended g.line ++ entries_in bits l from [] m.out) in
      let lived = (through_life l d.nb d.ue).unseen _ _ flown set m [] x.lived in
      record {
        low = d.low;
        nb = d.nb;
        ue = d.ue;
        begun = d.begun;
        told = d.told ++ x.more;
        handed = λ side n. d.handed side n ++ (handed_in side n p m.out ++ looped_at side n m.out);
        flown = flown;
        lived =
            subst (λ b. LivedIn l d.nb d.ue (d.told ++ x.more)
            (λ side n. d.handed side n ++ (handed_in side n p m.out ++ looped_at side n m.out)) flown b
            (link_behind (g ∷ past))) off lived;
        submitted_is = λ side.
            ap (λ (xs : List (List ℕ)). xs ++ (handed_in side l p g.events ++ looped_at side l g.events))
            (kept_by (is_handover g.line) (submitted_since side l past) here ∙ d.submitted_is side)
            ∙ ap (λ (ys : List Record). d.handed side l ++ (handed_in side l p ys ++ looped_at side l ys))
            right.events_are;
        left_is = λ side.
            ap (λ (ns : List ℕ). ns ++ lengths_on l (events_of side g.events))
            (kept_by (is_handover g.line) (left_since side l past) here ∙ d.left_is side)
            ∙ ap (λ (ns : List ℕ). lengths_on l (events_of side d.told) ++ ns)
            (ap (λ (ys : List Record). lengths_on l (events_of side ys)) right.events_are
            ∙ ap (lengths_on l) (x.told_are side))
            ∙ sym (left_both l side d.told x.more);
      }

-- ---- its running life

pub in_one_life : (xs : List AirStep) → AreInLife xs → AreInOneLife xs
in_one_life [] h = tt
in_one_life (InLife s ∷ xs) h = in_one_life xs h
in_one_life (Moves keys ∷ xs) h = absurd h

module _ (l : ℕ) (past : List Group) (d : IsRenewed l past) where
  abbrev pub steps : List AirStep
  steps = d.lived.by.steps

  abbrev pub start : Air
  start = outset d.nb d.ue

  pub in_its_life : AreInOneLife steps
  in_its_life = in_one_life steps d.lived.in_life

  -- what has left the queue, and what waits
  pub queue_since : (side : Side)
      → left_since side l past ++ map length (waits_in (flow l (end_at side (lives steps start))))
      ≡ map length (submitted_since side l past)
  queue_since side =
      let waits = map length (waits_in (flow l (end_at side (lives steps start)))) in
      ap (λ (ns : List ℕ). ns ++ waits) (d.left_is side ∙ ap (lengths_on l) (d.lived.by.told_is side))
      ∙ (tells_what_leaves l side start steps (d.begun side) d.lived.by.living in_its_life
      ∙ ap (λ (xs : List (List ℕ)). map length xs) (d.lived.by.submitted_is side l ∙ sym (d.submitted_is side)))

-- ---- a handover

unfoldable pub moves_renewed : (l : ℕ) (past : List Group) (g : Group) (user rrc integrity : _)
    → IsRight past (record g { line = lines.Handover user rrc integrity }) → KeepsOrder past → IsRenewed l past
    → IsRenewed l (record g { line = lines.Handover user rrc integrity } ∷ past)
unfolding acted
moves_renewed l past g user rrc integrity right order d =
    let line = lines.Handover user rrc integrity in
    let k = link_behind past in
    let keys = next_keys user rrc integrity (keys_or_none (state_behind past).rules.keys) in
    let m = behind_line line (state_behind past) in
    let a = lives (steps l past d) (start l past d) in
    let x : LivesAnew l d.nb d.ue keys k a = lives_anew l d.nb d.ue d.told d.handed d.flown false
    keys k d.lived in
    let nb = after_call a.nb.end (Move keys) in
    let ue = after_call a.ue.end (Move keys) in
    let leaving = x.moves.leaving in
    let behind' = x.moves.behind in
    let events_are : g.events ≡ leaving ++ behind' = right.events_are ∙ x.moves.out_is
    ∙ ap (λ (o : List Record). o ++ (leaving ++ behind')) (behind past order).nothing in
    let living = d.lived.by.living in
    let own = in_its_life l past d in
    let none_left' : (side : Side) → lengths_on l (events_of side leaving) ≡ [] = λ side.
    ap (lengths_on l) (x.moves.told_is side)
    ∙ none_leaves l side (start l past d) (steps l past d) (d.begun side) living own keys in
    record {
      low = d.low;
      nb = nb;
      ue = ue;
      begun =
          at_each (λ side. BeginsEmpty side l (end_at side (outset nb ue)))
          (next_begins l Nb (start l past d) (steps l past d) (d.begun Nb) living own keys)
          (next_begins l Ue (start l past d) (steps l past d) (d.begun Ue) living own keys);
      told = behind';
      handed = λ side n. looped_at side n behind';
      flown = λ bits from. entries_in bits l from [] behind';
      lived = (through_life l nb ue).unseen behind' (λ side n. looped_at side n behind')
          (λ bits from. entries_in bits l from [] behind') false m [] x.lived;
      submitted_is = λ side.
          ap (looped_at side l) events_are ∙ looped_then side l leaving behind'
          ∙ ap (λ (ys : List (List ℕ)). ys ++ looped_at side l behind') (x.moves.none_looped side l);
      left_is = λ side.
          ap (λ (ys : List Record). lengths_on l (events_of side ys)) events_are ∙ left_both l side leaving behind'
          ∙ ap (λ (ns : List ℕ). ns ++ lengths_on l (events_of side behind')) (none_left' side);
    }

-- ---- where nothing left or was submitted at all

pub none_submitted : (side : Side) (l : ℕ) (past : List Group) → submitted side l past ≡ []
    → submitted_since side l past ≡ []
none_submitted side l [] e = refl
none_submitted side l (g ∷ past) e =
    let parts =
    parts_empty (submitted side l past) (handed_in side l (part_of_line g.line) g.events ++ looped_at side l g.events) e
    in
    empty_if (is_handover g.line) (submitted_since side l past)
    (handed_in side l (part_of_line g.line) g.events ++ looped_at side l g.events) (none_submitted side l past parts.0)
    parts.1

pub none_left : (side : Side) (l : ℕ) (past : List Group) → lengths_on l (events_of side (history past)) ≡ []
    → left_since side l past ≡ []
none_left side l [] e = refl
none_left side l (g ∷ past) e =
    let parts = parts_empty (lengths_on l (events_of side (history past))) (lengths_on l (events_of side g.events))
    (sym (left_then l side past g) ∙ e) in
    empty_if (is_handover g.line) (left_since side l past) (lengths_on l (events_of side g.events))
    (none_left side l past parts.0) parts.1

-- ---- the line in which its bearers come

pub low_of : (kind : Kind) (lcid : ℕ) → (kind ≡ Tm) ⊎ (kind ≡ Srb) → IsChannelOf kind lcid → lcid < 3
low_of Tm lcid k zero' = omega (arith, zero')
low_of Srb lcid k h = let few = h.1 in omega (arith, few)
low_of Um lcid (inl k) h = absurd cc
low_of Um lcid (inr k) h = absurd cc
low_of Am lcid (inl k) h = absurd cc
low_of Am lcid (inr k) h = absurd cc

unfoldable pub begins_renewed : (past : List Group) (c : BearerConfig) → Comes c past
    → (c.kind ≡ Tm) ⊎ (c.kind ≡ Srb) → IsRenewed c.channel.lcid past
begins_renewed past c x kind =
    let l = c.channel.lcid in
    let k = link_behind past in
    record {
      low = low_of c.kind l kind x.config.lcid;
      nb = k.nb;
      ue = k.ue;
      begun =
          at_each (λ side. BeginsEmpty side l (end_at side (outset k.nb k.ue)))
          (begins_first Nb l c x.keys k.nb kind (x.begun Nb)) (begins_first Ue l c x.keys k.ue kind (x.begun Ue));
      told = [];
      handed = λ side n. [];
      flown = λ bits from. [];
      lived = record { by = come_by_none l k (outset k.nb k.ue) x.early.rest; in_life = tt };
      submitted_is = λ side. none_submitted side l past (x.early.none_submitted side l);
      left_is = λ side. none_left side l past (ap (lengths_on l) (x.early.none_told side));
    }

-- ---- behind all groups, what begins as a bearer comes, and goes on through each line

module _ (P : ℕ → List Group → Type 0)
    (stays : (l : ℕ) (past : List Group) (g : Group) → IsRight past g → KeepsOrder past → adds_one l g.line ≡ false
    → forges g.line ≡ false → is_handover g.line ≡ false → P l past → P l (g ∷ past))
    (moves : (l : ℕ) (past : List Group) (g : Group) (user rrc integrity : _)
    → IsRight past (record g { line = lines.Handover user rrc integrity }) → KeepsOrder past → P l past
    → P l (record g { line = lines.Handover user rrc integrity } ∷ past)) where
  pub line_by : (b : Bool) (l : ℕ) (past : List Group) (g : Group) → is_handover g.line ≡ b
      → adds_one l g.line ≡ false → IsRight past g → KeepsOrder past → forges g.line ≡ false → P l past
      → P l (g ∷ past)
  line_by false l past g here other right order own d = stays l past g right order other own here d
  line_by true l past g here other right order own d = over g.line refl here
    where
      over : (line : Line) → g.line ≡ line → is_handover line ≡ true → P l (g ∷ past)
      over (lines.Handover user rrc integrity) is h =
          subst (λ (line : Line). P l (record g { line = line } ∷ past)) (sym is)
          (moves l past g user rrc integrity
          (subst (λ (line : Line). IsRight past (record g { line = line })) is right) order d)
      over line is h = absurd cc

  pub lives_behind : (K : Kind → Type 0)
      → ((past : List Group) (c : BearerConfig) → Comes c past → K c.kind → P c.channel.lcid past)
      → (l : ℕ) (past : List Group) (c : BearerConfig) → KeepsOrder past → K c.kind → config_of l past ≡ Some c
      → is_forged past ≡ false → P l past
  lives_behind K begins =
      behind_all (λ l c past. is_forged past ≡ false → P l past) (λ c. K c.kind)
      (λ past g c options right order kind own. begins _ c (comes past g c options right order) kind)
      (λ l c past g right order other before d own.
      let apart = both_false (forges g.line) (is_forged past) own in
      line_by (is_handover g.line) l past g refl other right order apart.0 (d apart.1))

pub is_renewed : (l : ℕ) (past : List Group) (c : BearerConfig) → KeepsOrder past → (c.kind ≡ Tm) ⊎ (c.kind ≡ Srb)
    → config_of l past ≡ Some c → is_forged past ≡ false → IsRenewed l past
is_renewed = lives_behind IsRenewed stays_renewed moves_renewed (λ kind. (kind ≡ Tm) ⊎ (kind ≡ Srb)) begins_renewed
