-- A sender that gave up is silent until the next handover.
use Rattle.std.proofs.Common.{◌≡◌, ℕ, Bool, true, false, cond, ◌||◌, ◌&&◌, not, if◌then◌else◌, Option, Some}
use Rattle.std.proofs.Common.{List, [], ◌∷◌}
use Rattle.std.proofs.Common.{◌++◌, map, refl, ap, sym, subst, ◌∙◌}
use Rattle.std.specs.List.{AllByRecursion, filter}
use Rattle.air_link.specs.Link.{end_of}
use Rattle.air_record.specs.declared.line.Line.{Line}
use Rattle.air_record.specs.declared.line.Line.TheVariants as lines
use Rattle.air_record.specs.declared.record.Record.{Record}
use Rattle.air_record.specs.declared.record.Record.TheVariants as records
use Rattle.air_text.specs.Groups.{Group, history}
use Rattle.bearer.specs.declared.flow.Flow.{Flow}
use Rattle.bearer_types.specs.Sides.{is_same}
use Rattle.bearer_types.specs.declared.config.BearerConfig.{BearerConfig}
use Rattle.bearer_types.specs.declared.event.Event.{Event}
use Rattle.bearer_types.specs.declared.event.Event.TheVariants as events
use Rattle.eps_sec.specs.declared.Keys.{Keys}
use Rattle.l2_node.specs.End.{End}
use Rattle.l2_types.specs.declared.event.Lost.TheVariants as losts
use Rattle.l2_types.specs.declared.side.Side.{Side}
use Rattle.l2_types.specs.declared.side.Side.TheVariants.{Nb, Ue}
use Rattle.law_run.proofs.AnyCalls.Going.{told_both}
use Rattle.law_deliver.specs.AmChannel.Drained.{has_failed}
use Rattle.law_deliver.specs.AmFlow.Channels.{GoesOnInLife}
use Rattle.law_bearer.specs.AnyBearer.Calls.{after_all}
use Rattle.law_deliver.specs.AmFlow.Ups.{TellsOver, calls_over, tells_over}
use Rattle.law_deliver.proofs.AmFlow.Events.{OfSdus, end_holds}
use Rattle.law_deliver.proofs.AmFlow.Ups.{over_tells}
use Rattle.law_node.specs.Bearers.{moves, keys_in, AddNone}
use Rattle.law_node.specs.Calls.{Call}
use Rattle.law_node.specs.Holding.{flow}
use Rattle.law_words.specs.BearerOrder.{at_the_end, is_srb}
use Rattle.law_words.specs.Sequences.{each}
use Rattle.prioritise.proofs.ChannelLemmas.{both_false}
use Rattle.promises.specs.Air.{ttis}
use Rattle.promises.specs.Blocks.{kinds}
use Rattle.promises.specs.Configs.{config_of}
use Rattle.promises.specs.Drained.{failed}
use Rattle.promises.specs.Events.{is_on, told_on, is_of_loop, fails_in, fails_on}
use Rattle.promises.specs.Order.{Channels, IsOfLoop, HandoverTells, EndTells, LoopTells, of_leaving}
use Rattle.promises.specs.Parts.{is_handover}
use Rattle.promises.specs.Records.{event_of, events_of}
use Rattle.promises.specs.Silent.{is_of_sender, behind_failure, told_since, FailedAreSilent}
use Rattle.promises.specs.Telling.{LineTells, channels}
use Rattle.law_run.specs.Order.{state_behind, IsRight, KeepsOrder}
use Rattle.law_run.proofs.Counts.{goes}
use Rattle.law_run.proofs.BearerWalk.{adds_one, Comes, comes, behind_all}
use Rattle.law_run.proofs.EmptyLists.{parts_empty}
use Rattle.law_run.proofs.Failed.{HasSender, sender_goes, sender_begins, begins_unfailed}
use Rattle.law_run.proofs.Failing.{calls_run}
use Rattle.law_run.proofs.Past.{link_behind}
use Rattle.law_run.proofs.Quiet.{tell_sender, none_both, Quiet, Runs, runs_still, runs_then, runs_as, none_behind}
use Rattle.law_run.proofs.Reaching.{lives_by}
use Rattle.law_run.proofs.Standing.{lines_tell}
use Rattle.law_run.proofs.Texts.{moves_are, none_added}

-- ---- in a handover nothing is told of a sender

abbrev IsStill : Event → Type 0
IsStill e = is_of_sender e ≡ false

all_still : (es : List Event) → AllByRecursion IsStill es → tell_sender es ≡ false
all_still [] h = refl
all_still (e ∷ es) h = ap (λ (b : Bool). b || tell_sender es) h.0 ∙ all_still es h.1

sdus_still : (m : ℕ) → OfSdus IsStill m
sdus_still m =
    record {
      up = λ sdu. refl;
      drop = λ why own. refl;
      integrity = λ found wanted. refl;
      bad_pdcp = λ fault. refl;
    }

leaving_still : (lcids : List ℕ) (es : List Event) → each (λ lcid. at_the_end (is_srb lcid) lcid) lcids es
    → tell_sender es ≡ false
leaving_still [] es h = ap tell_sender h
leaving_still (n ∷ ns) es h =
    ap tell_sender h.told_are
    ∙ none_both is_of_sender h.first h.second
    (all_still h.first (end_holds IsStill n (sdus_still n) (is_srb n) h.first h.is_first))
    (leaving_still ns h.second h.is_second)

if_still : (b : Bool) (e : Event) → IsStill e → tell_sender (if b then e ∷ [] else []) ≡ false
if_still true e h = ap (λ (b : Bool). b || false) h
if_still false e h = refl

told_still : (side s : Side) (es : List Event) → tell_sender es ≡ false
    → tell_sender (events_of side (map (records.Of s) es)) ≡ false
told_still side s [] h = refl
told_still side s (e ∷ es) h =
    let parts = both_false (is_of_sender e) (tell_sender es) h in
    none_both is_of_sender (event_of side (records.Of s e)) (events_of side (map (records.Of s) es))
    (if_still (is_same side s && not (is_of_loop e)) e parts.0) (told_still side s es parts.1)

end_still : (side s : Side) (c : Channels) (told : List Record) → EndTells s (of_leaving c) told
    → tell_sender (events_of side told) ≡ false
end_still side s c told h = ap (λ (ys : List Record). tell_sender (events_of side ys)) h.told_is
    ∙ told_still side s h.events (leaving_still c.by_lcid h.events h.in_order)

one_of_loop : (side : Side) (one : Record) → IsOfLoop one → tell_sender (event_of side one) ≡ false
one_of_loop side (records.Looped lcid octets) h = refl
one_of_loop side (records.Of Ue (events.Drop lcid losts.Loop)) h =
    if_still (is_same side Ue && false) (events.Drop lcid losts.Loop) refl
one_of_loop side one h = absurd h

loop_still : (side : Side) (told : List Record) → LoopTells told → tell_sender (events_of side told) ≡ false
loop_still side [] h = refl
loop_still side (one ∷ told) h =
    none_both is_of_sender (event_of side one) (events_of side told) (one_of_loop side one h.0)
    (loop_still side told h.1)

both_still : (side : Side) (all xs ys : List Record) → all ≡ xs ++ ys → tell_sender (events_of side xs) ≡ false
    → tell_sender (events_of side ys) ≡ false → tell_sender (events_of side all) ≡ false
both_still side all xs ys e p q =
    ap (λ (zs : List Record). tell_sender (events_of side zs)) e
    ∙ ap tell_sender (told_both side xs ys (events_of side xs) (events_of side ys) refl refl)
    ∙ none_both is_of_sender (events_of side xs) (events_of side ys) p q

handover_still : (side : Side) (c : Side → Channels) (told : List Record) → HandoverTells c told
    → tell_sender (events_of side told) ≡ false
handover_still side c told h =
    let more = h.is_second in
    both_still side told h.first h.second h.told_are (end_still side Nb (c Nb) h.first h.is_first)
    (both_still side h.second more.first more.second more.told_are
    (end_still side Ue (c Ue) more.first more.is_first) (loop_still side more.second more.is_second))

-- nor where a bearer comes
abbrev pub renews : ℕ → Line → Bool
renews l line = is_handover line || adds_one l line

pub line_still : (side : Side) (l t : ℕ) (kinds' : _) (c : Side → Channels) (line : Line) (told : List Record)
    → renews l line ≡ true → LineTells t kinds' c line told → tell_sender (events_of side told) ≡ false
line_still side l t kinds' c (lines.Handover user rrc integrity) told is h = handover_still side c told h
line_still side l t kinds' c (lines.Bearer config options) told is h =
    ap (λ (ys : List Record). tell_sender (events_of side ys)) h
line_still side l t kinds' c line told is h = absurd cc

-- ---- on a channel

on_by : (b : Bool) (e : Event) (told : List Event) → IsStill e → tell_sender told ≡ false
    → tell_sender (cond b (e ∷ told) told) ≡ false
on_by true e told p q = ap (λ (b : Bool). b || tell_sender told) p ∙ q
on_by false e told p q = q

pub on_still : (l : ℕ) (es : List Event) → tell_sender es ≡ false → tell_sender (told_on l es) ≡ false
on_still l [] h = refl
on_still l (e ∷ es) h =
    let parts = both_false (is_of_sender e) (tell_sender es) h in
    on_by (is_on l e) e (told_on l es) parts.0 (on_still l es parts.1)

one_fails : (l : ℕ) (e : Event) → IsStill e → fails_in l e ≡ []
one_fails l (events.Fail lcid sn) h = absurd cc
one_fails l e h = refl

none_fail : (l : ℕ) (es : List Event) → tell_sender es ≡ false → fails_on l es ≡ []
none_fail l [] h = refl
none_fail l (e ∷ es) h =
    let parts = both_false (is_of_sender e) (tell_sender es) h in
    ap (λ (xs : List ℕ). xs ++ fails_on l es) (one_fails l e parts.0) ∙ none_fail l es parts.1

-- ---- calls of a life

pub in_life : (l : ℕ) (cs : List Call) → AddNone l cs → moves cs ≡ [] → AllByRecursion (GoesOnInLife l) cs
in_life l [] a m = tt
in_life l (c ∷ cs) a m =
    let parts = parts_empty (keys_in c) (moves cs) m in
    (record { adds_none = a.0; moves_none = parts.0 }, in_life l cs a.1 parts.1)

pub moves_none : (line : Line) (keys : Option Keys) → is_handover line ≡ false → moves (lives_by line keys) ≡ []
moves_none (lines.Handover user rrc integrity) keys is = absurd cc
moves_none line keys is = refl

-- ---- behind groups

pub record Since (side : Side) (l : ℕ) (past : List Group) : Type 0 where
  pub sender : HasSender side l past
  pub runs : Runs false (told_since side l past) (has_failed (flow l (end_of side (link_behind past))))

module _ (side : Side) (l : ℕ) (past : List Group) (g : Group) (right : IsRight past g) (order : KeepsOrder past)
    (s : Since side l past) where
  abbrev here : End
  here = end_of side (link_behind past)

  abbrev there : End
  there = end_of side (link_behind (g ∷ past))

  abbrev told : List Event
  told = told_on l (events_of side g.events)

  abbrev calls : List Call
  calls = (goes side past g right order).by.calls

  life_runs : is_handover g.line ≡ false → adds_one l g.line ≡ false
      → Runs (has_failed (flow l here)) told (has_failed (flow l there))
  life_runs is other =
      let k = goes side past g right order in
      let none = none_added side l past g right order other in
      let still : moves calls ≡ [] =
      moves_are calls ∙ ap moves k.lives_are ∙ moves_none g.line (state_behind past).rules.keys is in
      let t : TellsOver l here calls =
      over_tells side l here calls s.sender.stands k.by.given (in_life l calls none still) in
      let f = flow l here in
      let cs = calls_over l calls here in
      let told_is : told ≡ tells_over l f cs = ap (told_on l) k.by.told_is ∙ t.told_is in
      let end_is : flow l there ≡ after_all f cs = ap (flow l) k.by.end_is ∙ t.bearer_is in
      subst (λ (es : List Event). Runs (has_failed f) es (has_failed (flow l there))) (sym told_is)
      (subst (λ (x : Flow). Runs (has_failed f) (tells_over l f cs) (has_failed x)) (sym end_is) (calls_run l f cs))

  -- where a life ends or begins nothing is told of it
  still_told : renews l g.line ≡ true → tell_sender (events_of side g.events) ≡ false
  still_told is =
      line_still side l (ttis past) (kinds past) (λ s. channels past) g.line g.events is
      (lines_tell (g ∷ past) (right, order)).0

  all_quiet : (b : Bool) → renews l g.line ≡ b → Quiet false (told_since side l past ++ told)
  all_quiet true is =
      let f = has_failed (flow l here) in
      (runs_then false f f (told_since side l past) told s.runs
      (runs_still f told (on_still l (events_of side g.events) (still_told is)))).quiet
  all_quiet false is =
      let parts = both_false (is_handover g.line) (adds_one l g.line) is in
      (runs_then false (has_failed (flow l here)) (has_failed (flow l there)) (told_since side l past) told s.runs
      (life_runs parts.0 parts.1)).quiet

  pub silent : filter is_of_sender (behind_failure (told_since side l past ++ told)) ≡ []
  silent = none_behind (told_since side l past ++ told) (all_quiet (renews l g.line) refl)

  since_by : (b : Bool) → is_handover g.line ≡ b → adds_one l g.line ≡ false → HasSender side l (g ∷ past)
      → Runs false (if b then [] else told_since side l past ++ told) (has_failed (flow l there))
  since_by true is other next =
      let none = still_told (ap (λ (b : Bool). b || adds_one l g.line) is) in
      let unfailed : failed side l (g ∷ past) ≡ [] =
      ap (λ (b : Bool). (if b then [] else failed side l past) ++ fails_on l (events_of side g.events)) is
      ∙ none_fail l (events_of side g.events) none in
      runs_as false (has_failed (flow l there)) false false [] refl (next.unfailed unfailed) (runs_still false [] refl)
  since_by false is other next =
      runs_then false (has_failed (flow l here)) (has_failed (flow l there)) (told_since side l past) told s.runs
      (life_runs is other)

  pub goes_since : adds_one l g.line ≡ false → Since side l (g ∷ past)
  goes_since other =
      let next = sender_goes side l past g right order other s.sender in
      record { sender = next; runs = since_by (is_handover g.line) refl other next }

-- ---- as a bearer comes

if_none : (b : Bool) (xs ys : List Event) → xs ≡ [] → ys ≡ [] → (if b then [] else xs ++ ys) ≡ []
if_none true xs ys p q = refl
if_none false xs ys p q = ap (λ (zs : List Event). zs ++ ys) p ∙ q

none_since : (side : Side) (l : ℕ) (past : List Group) → events_of side (history past) ≡ []
    → told_since side l past ≡ []
none_since side l [] e = refl
none_since side l (g ∷ past) e =
    let parts = parts_empty (events_of side (history past)) (events_of side g.events)
    (sym (told_both side (history past) (records.Line g.number g.line ∷ g.events) (events_of side (history past))
    (events_of side g.events) refl refl) ∙ e) in
    if_none (is_handover g.line) (told_since side l past) (told_on l (events_of side g.events))
    (none_since side l past parts.0) (ap (told_on l) parts.1)

begins : (side : Side) (past : List Group) (c : BearerConfig) → Comes c past → Since side c.channel.lcid past
begins side past c h =
    let l = c.channel.lcid in
    let begun = h.begun side in
    let failed = has_failed (flow l (end_of side (link_behind past))) in
    record {
      sender = sender_begins side l c h.keys past begun;
      runs =
          subst (λ (es : List Event). Runs false es failed) (sym (none_since side l past (h.early.none_told side)))
          (runs_as false failed false false [] refl
          (ap has_failed begun.bearer_is ∙ begins_unfailed c.kind c h.keys side) (runs_still false [] refl));
    }

-- ---- behind all groups

pub since : (side : Side) (l : ℕ) (past : List Group) (c : BearerConfig) → KeepsOrder past → config_of l past ≡ Some c
    → Since side l past
since side l past c order e =
    behind_all (λ n d groups. Since side n groups) (λ d. Unit {0})
    (λ groups g d options right keeps any. begins side _ d (comes groups g d options right keeps))
    (λ n d groups g right keeps other before h. goes_since side n groups g right keeps h other) l past c order tt e

pub failed_are_silent : (past : List Group) → KeepsOrder past → FailedAreSilent past
failed_are_silent [] order = tt
failed_are_silent (g ∷ past) (right, order) = (
  λ side lcid config is. silent side lcid past g right order (since side lcid past config order is),
  failed_are_silent past order,
)
