-- In the journal of a run that forges no block each record speaks of a channel that has a bearer.
use Rattle.std.proofs.Common.{◌≡◌, ◌≤◌, ℕ, ◌+◌, ◌==◌, Bool, true, false, cond, if◌then◌else◌, Option, Some, None}
use Rattle.std.proofs.Common.{is_some, IsTrue, List, [], ◌∷◌, ◌++◌, length, take, append_assoc, refl, ap, sym, subst}
use Rattle.std.proofs.Common.{◌∙◌, arith, inl, inr}
use Rattle.std.proofs.lemmas.Bool.{eq-eqb}
use Rattle.std.proofs.lemmas.List.{take_all, length-append}
use Rattle.std.proofs.lemmas.List.Elements.{filter-append}
use Rattle.std.specs.List.{AllByRecursion, filter}
use Rattle.air_link.specs.Link.{end_of}
use Rattle.air_record.specs.declared.line.Line.{Line}
use Rattle.air_record.specs.declared.line.Line.TheVariants as lines
use Rattle.air_record.specs.declared.record.Record.{Record}
use Rattle.air_record.specs.declared.record.Record.TheVariants as records
use Rattle.air_text.specs.Groups.{Group, group_records, history}
use Rattle.bearer_types.specs.declared.config.BearerConfig.{BearerConfig}
use Rattle.bearer_types.specs.declared.event.Event.{Event}
use Rattle.bearer_types.specs.declared.event.Event.TheVariants as events
use Rattle.journal_sent.specs.Sending.{lcid_in}
use Rattle.l2_node.specs.End.{End, fresh}
use Rattle.l2_node.specs.Finding.{has}
use Rattle.l2_types.specs.declared.event.Lost.TheVariants as losts
use Rattle.l2_types.specs.declared.side.Side.{Side}
use Rattle.l2_types.specs.declared.side.Side.TheVariants.{Nb, Ue}
use Rattle.pdu_show.specs.declared.kinds.Layout.{Layout}
use Rattle.prioritise.proofs.ChannelLemmas.{both_false}
use Rattle.promises.specs.Configs.{config_by, config_of}
use Rattle.promises.specs.Delivery.{forges, is_forged}
use Rattle.promises.specs.LineRules.{keeps_rules}
use Rattle.promises.specs.Loops.{ArePart, items_due, gone_up, looped, returned, item_count, is_dropped, drop_count}
use Rattle.promises.specs.Loops.{mode_in_force, all_gone_up, all_returned, ReturnInOrder}
use Rattle.promises.specs.Order.{Channels}
use Rattle.promises.specs.Records.{event_of, events_of}
use Rattle.promises.specs.Telling.{LineTells, LinesTell, channels}
use Rattle.promises.specs.Air.{ttis}
use Rattle.promises.specs.Blocks.{kinds}
use Rattle.law_deliver.proofs.AmFlow.Carrying.{front, rest}
use Rattle.law_deliver.proofs.AmFlow.Events.{both}
use Rattle.law_node.specs.Calls.{run_end}
use Rattle.law_run.specs.Order.{KeepsOrder}
use Rattle.law_run.proofs.AnyCalls.Going.{told_both}
use Rattle.law_run.proofs.Counts.{come, same_lcid}
use Rattle.law_run.proofs.DrainChannels.{end_channels, has_config}
use Rattle.law_run.proofs.LoopedUps.{dropped_went_up}
use Rattle.law_run.proofs.Past.{link_behind}
use Rattle.law_run.proofs.RulesKept.{lines_keep_rules}
use Rattle.law_sound.proofs.KnownTold.{IsOfKnown, AreOfKnown, same_some, told_known}
use Rattle.law_sound.proofs.KnownBlocks.{StandsAt, MayStand, submits, line_stands}

-- the channel of which a record tells, if it tells of one
abbrev pub channel_in : Record → Option ℕ
channel_in (records.Of side event) = lcid_in event
channel_in (records.Looped lcid octets) = Some lcid
channel_in (records.Refused side lcid why) = Some lcid
channel_in one = None

-- its line stands before
abbrev pub HasBearer : List Group → ℕ → Type 0
HasBearer past lcid = (c : BearerConfig) × (config_of lcid past ≡ Some c)

-- ---- what both ends tell

event_more : (K L : ℕ → Type 0) → ((l : ℕ) → K l → L l) → (event : Event) → IsOfKnown K event → IsOfKnown L event
event_more K L more (events.Drop lcid losts.NoBearer) h = tt
event_more K L more event h = λ lcid e. more lcid (h lcid e)

all_more : (K L : ℕ → Type 0) → ((l : ℕ) → K l → L l) → (told : List Event) → AreOfKnown K told → AreOfKnown L told
all_more K L more [] h = tt
all_more K L more (event ∷ told) h = (event_more K L more event h.0, all_more K L more told h.1)

-- an end has a bearer only where its line came
has_line : (side : Side) (past : List Group) → KeepsOrder past → (l : ℕ)
    → has l (end_of side (link_behind past)).bearers ≡ true → HasBearer past l
has_line side past order l there =
    let h = has_config l past (end_of side (link_behind past)) (end_channels side past order) there in
    (h.config, h.is)

-- at any moment so far
both_told : (side : Side) (past : List Group) → KeepsOrder past
    → AreOfKnown (HasBearer past) (events_of side (history past))
both_told side past order =
    let by = come side past order in
    let told = events_of side (history past) in
    let there : End → Type 0 = λ e. AreOfKnown (λ l. has l e.bearers ≡ true) told in
    let reached = run_end by.calls (fresh side 4 false) in
    all_more (λ l. has l (end_of side (link_behind past)).bearers ≡ true) (HasBearer past)
    (has_line side past order) told
    (subst there (sym by.end_is)
    (subst (AreOfKnown (λ l. has l reached.bearers ≡ true)) (sym by.told_is)
    (told_known side 4 false by.calls by.given)))

-- of the records before a group, and of its own
module _ (K : ℕ → Type 0) (side : Side) (past : List Group) (g : Group)
    (h : AreOfKnown K (events_of side (history (g ∷ past)))) where
  parts : AreOfKnown K (events_of side (history past) ++ events_of side g.events)
  parts =
      subst (AreOfKnown K) (told_both side (history past) (group_records g) (events_of side (history past))
      (events_of side g.events) refl refl) h

  before : AreOfKnown K (events_of side (history past))
  before = front (IsOfKnown K) (events_of side (history past)) (events_of side g.events) parts

  its_own : AreOfKnown K (events_of side g.events)
  its_own = rest (IsOfKnown K) (events_of side (history past)) (events_of side g.events) parts

-- ---- the SDUs that go up at the terminal, and those that the loop returns

chosen : {X : Type 0} (Q : X → Type 0) (b : Bool) (x : X) → Q x → AllByRecursion Q (if b then x ∷ [] else [])
chosen Q true x h = (h, tt)
chosen Q false x h = tt

module _ (K : ℕ → Type 0) where
  -- SDUs of known channels
  due_event : (m : _) (event : Event) → AreOfKnown K (event_of Ue (records.Of Ue event))
      → AllByRecursion (λ i. K i.lcid) (items_due m (records.Of Ue event))
  due_event m (events.Up lcid octets) h = chosen (λ i. K i.lcid) _ _ (h.0 lcid refl)
  due_event m event h = tt

  due_one : (m : _) (x : Record) → AreOfKnown K (event_of Ue x) → AllByRecursion (λ i. K i.lcid) (items_due m x)
  due_one m (records.Of Ue event) h = due_event m event h
  due_one m x h = tt

  due_all : (m : _) (told : List Record) → AreOfKnown K (events_of Ue told)
      → AllByRecursion (λ i. K i.lcid) (gone_up m told)
  due_all m [] h = tt
  due_all m (x ∷ told) h =
      both (λ i. K i.lcid) (items_due m x) (gone_up m told)
      (due_one m x (front (IsOfKnown K) (event_of Ue x) (events_of Ue told) h))
      (due_all m told (rest (IsOfKnown K) (event_of Ue x) (events_of Ue told) h))

  gone_known : (past : List Group) → AreOfKnown K (events_of Ue (history past))
      → AllByRecursion (λ i. K i.lcid) (all_gone_up past)
  gone_known [] h = tt
  gone_known (g ∷ past) h =
      both (λ i. K i.lcid) (all_gone_up past) (gone_up (mode_in_force (g ∷ past)) g.events)
      (gone_known past (before K Ue past g h)) (due_all (mode_in_force (g ∷ past)) g.events (its_own K Ue past g h))

  part_known : (xs ys : _) → ArePart xs ys → AllByRecursion (λ i. K i.lcid) ys → AllByRecursion (λ i. K i.lcid) xs
  part_known [] ys p h = tt
  part_known (x ∷ xs) [] p h = absurd p
  part_known (x ∷ xs) (y ∷ ys) (inl (e, p)) h = (subst (λ i. K i.lcid) (sym e) h.0, part_known xs ys p h.1)
  part_known (x ∷ xs) (y ∷ ys) (inr p) h = part_known (x ∷ xs) ys p h.1

  -- those that come back in a group
  back_known : (past : List Group) (g : Group) → ReturnInOrder (g ∷ past)
      → AreOfKnown K (events_of Ue (history (g ∷ past))) → AllByRecursion (λ i. K i.lcid) (returned g.events)
  back_known past g r h =
      let n = length g.events in
      let m = mode_in_force (g ∷ past) in
      let whole : take n g.events ≡ g.events = take_all n g.events (omega arith) in
      let part = subst (λ (told : List Record). ArePart (all_returned past ++ returned told)
      (all_gone_up past ++ gone_up m told)) whole (r.0.in_order n) in
      rest (λ i. K i.lcid) (all_returned past) (returned g.events)
      (part_known (all_returned (g ∷ past)) (all_gone_up (g ∷ past)) part (gone_known (g ∷ past) h))

  -- a channel of which they have one is known
  counted : (l : ℕ) (items : _) → 1 ≤ item_count l items → AllByRecursion (λ i. K i.lcid) items → K l
  counted l [] some h = absurd (omega (arith, some))
  counted l (i ∷ items) some h = by (i.lcid == l) refl (λ more. counted l items more h.1) some
    where
      by : (b : Bool) → (i.lcid == l) ≡ b → (1 ≤ item_count l items → K l)
          → 1 ≤ length (cond b (i ∷ filter (λ i. i.lcid == l) items) (filter (λ i. i.lcid == l) items)) → K l
      by true same more n = subst K (same_lcid i.lcid l same) h.0
      by false apart more n = more n

-- ---- what the loop drops

one_dropped : (b : Bool) (x : Record) (told : List Record) → b ≡ true → 1 ≤ length (cond b (x ∷ told) told)
one_dropped true x told e = omega arith
one_dropped false x told e = absurd cc

more_dropped : (b : Bool) (x : Record) (told : List Record) → 1 ≤ length told → 1 ≤ length (cond b (x ∷ told) told)
more_dropped true x told some = omega arith
more_dropped false x told some = some

drops_then : (l : ℕ) (xs ys : List Record) → drop_count l ys ≤ drop_count l (xs ++ ys)
drops_then l xs ys =
    let same : drop_count l (xs ++ ys) ≡ drop_count l xs + drop_count l ys =
    ap (λ (zs : List Record). length zs) (filter-append (is_dropped l) xs ys)
    ∙ length-append (filter (is_dropped l) xs) (filter (is_dropped l) ys) in omega (arith, same)

drops_known : (K : ℕ → Type 0) (past : List Group) (g : Group) → KeepsOrder (g ∷ past)
    → AreOfKnown K (events_of Ue (history (g ∷ past))) → (l : ℕ) → 1 ≤ drop_count l g.events → K l
drops_known K past g order h l some =
    let first = history past ++ records.Line g.number g.line ∷ [] in
    let all : first ++ g.events ≡ history (g ∷ past) =
    append_assoc (history past) (records.Line g.number g.line ∷ []) g.events in
    let more : drop_count l g.events ≤ drop_count l (history (g ∷ past)) =
    subst (λ (told : List Record). drop_count l g.events ≤ drop_count l told) all (drops_then l first g.events) in
    counted K l (all_gone_up (g ∷ past)) (omega (arith, some, more, dropped_went_up (g ∷ past) order l))
    (gone_known K (g ∷ past) h)

-- ---- the records of a group

module _ (K : ℕ → Type 0) where
  abbrev IsKnown : Record → Type 0
  IsKnown one = (l : ℕ) → channel_in one ≡ Some l → K l

  -- of an end, and of the loop in the terminal's name
  nb_known : (event : Event) → StandsAt Nb event → AreOfKnown K (event_of Nb (records.Of Nb event)) → (l : ℕ)
      → lcid_in event ≡ Some l → K l
  nb_known (events.Drop m losts.NoBearer) s h l e = absurd s
  nb_known (events.Drop m losts.Loop) s h l e = absurd cc
  nb_known event s h l e = h.0 l e

  ue_known : (event : Event) → StandsAt Ue event → AreOfKnown K (event_of Ue (records.Of Ue event))
      → ((l : ℕ) → is_dropped l (records.Of Ue event) ≡ true → K l) → (l : ℕ) → lcid_in event ≡ Some l → K l
  ue_known (events.Drop m losts.NoBearer) s h drops l e = absurd s
  ue_known (events.Drop m losts.Loop) s h drops l e = drops l (eq-eqb m l (same_some m l e))
  ue_known event s h drops l e = h.0 l e

  one_known : (one : Record) → MayStand one → AreOfKnown K (event_of Nb one) → AreOfKnown K (event_of Ue one)
      → AllByRecursion (λ i. K i.lcid) (looped one) → ((l : ℕ) → is_dropped l one ≡ true → K l) → IsKnown one
  one_known (records.Of Nb event) s nb ue back drops l e = nb_known event s nb l e
  one_known (records.Of Ue event) s nb ue back drops l e = ue_known event s ue drops l e
  one_known (records.Looped m octets) s nb ue back drops l e = subst K (same_some m l e) back.0
  one_known (records.Refused side m why) s nb ue back drops l e = absurd s
  one_known one s nb ue back drops l e = absurd cc

  all_known : (told : List Record) → AllByRecursion MayStand told → AreOfKnown K (events_of Nb told)
      → AreOfKnown K (events_of Ue told) → AllByRecursion (λ i. K i.lcid) (returned told)
      → ((l : ℕ) → 1 ≤ drop_count l told → K l) → AllByRecursion IsKnown told
  all_known [] s nb ue back drops = tt
  all_known (one ∷ told) s nb ue back drops =
      let dropped : ℕ → List Record = λ l. filter (is_dropped l) told in (
        one_known one s.0 (front (IsOfKnown K) (event_of Nb one) (events_of Nb told) nb)
            (front (IsOfKnown K) (event_of Ue one) (events_of Ue told) ue)
            (front (λ i. K i.lcid) (looped one) (returned told) back)
            (λ l e. drops l (one_dropped (is_dropped l one) one (dropped l) e)),
        all_known told s.1 (rest (IsOfKnown K) (event_of Nb one) (events_of Nb told) nb)
            (rest (IsOfKnown K) (event_of Ue one) (events_of Ue told) ue)
            (rest (λ i. K i.lcid) (looped one) (returned told) back)
            (λ l some. drops l (more_dropped (is_dropped l one) one (dropped l) some)),
      )

-- an SDU is refused on a channel that has a bearer
line_keeps : (line : Line) (l : ℕ) (so_far : Option BearerConfig) → is_some so_far ≡ true
    → is_some (config_by l line so_far) ≡ true
line_keeps (lines.Bearer config options) l so_far some = by (config.channel.lcid == l)
  where
    by : (b : Bool) → is_some (if b then Some config else so_far) ≡ true
    by true = refl
    by false = some
line_keeps line l so_far some = some

has_one : (past : List Group) (l : ℕ) (o : Option BearerConfig) → config_of l past ≡ o → is_some o ≡ true
    → HasBearer past l
has_one past l None e some = absurd cc
has_one past l (Some c) e some = (c, e)

submitted_known : (past : List Group) (t : ℕ) (shown : List (Option Layout)) (c : Side → Channels) (line : Line)
    (told : List Record) → IsTrue (keeps_rules past line) → submits line ≡ true → LineTells t shown c line told
    → AllByRecursion (IsKnown (λ l. is_some (config_of l past) ≡ true)) told
submitted_known past t shown c (lines.Submit side lcid octets) told keeps is (inl none) =
    subst (AllByRecursion (IsKnown (λ l. is_some (config_of l past) ≡ true))) (sym none) tt
submitted_known past t shown c (lines.Submit side lcid octets) told keeps is (inr r) =
    subst (AllByRecursion (IsKnown (λ l. is_some (config_of l past) ≡ true))) (sym r.told_is)
    (λ l e. subst (λ (n : ℕ). is_some (config_of n past) ≡ true) (same_some lcid l e) keeps, tt)
submitted_known past t shown c line told keeps is h = absurd cc

known_as : (K L : ℕ → Type 0) → ((l : ℕ) → K l → L l) → (told : List Record) → AllByRecursion (IsKnown K) told
    → AllByRecursion (IsKnown L) told
known_as K L more [] h = tt
known_as K L more (one ∷ told) h = (λ l e. more l (h.0 l e), known_as K L more told h.1)

pub records_known : (now : Group) (past : List Group) → KeepsOrder (now ∷ past) → is_forged (now ∷ past) ≡ false
    → LinesTell (now ∷ past) → ReturnInOrder (now ∷ past)
    → AllByRecursion
    (λ (one : Record). (lcid : ℕ) → channel_in one ≡ Some lcid → HasBearer (now ∷ past) lcid) now.events
records_known now past order unforged tells back = by (submits now.line) refl
  where
    by : (b : Bool) → submits now.line ≡ b → AllByRecursion (IsKnown (HasBearer (now ∷ past))) now.events
    by true is =
        known_as (λ l. is_some (config_of l past) ≡ true) (HasBearer (now ∷ past))
        (λ l some. has_one (now ∷ past) l (config_of l (now ∷ past)) refl
        (line_keeps now.line l (config_of l past) some)) now.events
        (submitted_known past (ttis past) (kinds past) (λ side. channels past) now.line now.events
        (lines_keep_rules (now ∷ past) order).0 is tells.0)
    by false other =
        let K : ℕ → Type 0 = HasBearer (now ∷ past) in
        let nb = both_told Nb (now ∷ past) order in
        let ue = both_told Ue (now ∷ past) order in
        all_known K now.events
        (line_stands (ttis past) (kinds past) (λ side. channels past) now.line
        (both_false (forges now.line) (is_forged past) unforged).0 other now.events tells.0)
        (its_own K Nb past now nb) (its_own K Ue past now ue) (back_known K past now back ue)
        (drops_known K past now order ue)
