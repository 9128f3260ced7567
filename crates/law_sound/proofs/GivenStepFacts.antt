-- A step of a life since a channel's bearers of acknowledged data came, and its records: what they tell of each side is
-- what its bearer's calls tell, and what is told of both directions goes on by them.
use Rattle.std.proofs.Common.{◌≡◌, ℕ, ◌%◌, true, List, [], ◌∷◌, ◌++◌, Option, Some, None, slice_get, map}
use Rattle.std.proofs.Common.{append-nil, refl, ap, sym, ◌∙◌}
use Rattle.air_record.specs.declared.record.Record.{Record}
use Rattle.bearer.specs.Acknowledged.State.{State}
use Rattle.bearer.specs.declared.flow.Flow.{Flow}
use Rattle.bearer.specs.declared.flow.Flow.TheVariants.{Am}
use Rattle.bearer_types.specs.Sides.{other}
use Rattle.bearer_types.specs.declared.config.BearerConfig.{BearerConfig}
use Rattle.bearer_types.specs.declared.event.Event.{Event}
use Rattle.eps_sec.specs.declared.Keys.{Keys}
use Rattle.l2_node.specs.End.{End}
use Rattle.l2_node.specs.Finding.{has}
use Rattle.l2_types.specs.declared.side.Side.{Side}
use Rattle.l2_types.specs.declared.side.Side.TheVariants.{Nb, Ue}
use Rattle.promises.specs.Arrival.{entries_in}
use Rattle.promises.specs.Events.{told_on}
use Rattle.promises.specs.Records.{events_of}
use Rattle.law_bearer.specs.AnyBearer.Calls.{Call as BearerCall, after_all}
use Rattle.law_deliver.specs.AmChannel.Arrival.{told_from, happens_in, built_in}
use Rattle.law_deliver.specs.AmChannel.Delivery.{AmEndsBeginAlike}
use Rattle.law_deliver.specs.AmChannel.Lives.{AirStep, InLife, AreLiving, lives, end_at, calls_at, calls_by, brought}
use Rattle.law_deliver.specs.AmFlow.Air.{Block, Station, Air, Act, Calls, Comes, Goes, Step, AtNb, AtUe, Passes, outset}
use Rattle.law_deliver.specs.AmFlow.Air.{happens, IsGiven}
use Rattle.law_deliver.specs.AmFlow.Ups.{TellsOver, tells_over}
use Rattle.law_deliver.proofs.AmChannel.Ends.{step_end}
use Rattle.law_deliver.proofs.AmFlow.Ups.{Stands, over_tells}
use Rattle.law_given.proofs.JoinedSteps.{joined_go_on, lives_more}
use Rattle.law_given.proofs.Tied.{AreTied, calls_of_step}
use Rattle.law_node.specs.Calls.{Call, Visits, Receive}
use Rattle.law_node.specs.Holding.{flow}
use Rattle.law_node.specs.Telling.{told_of, told_over}
use Rattle.law_run.specs.TwoEnds.Logs.{Builds, Flight, last_in, logged, all_tell, log_in}
use Rattle.law_run.specs.TwoEnds.Logs.{log_by, log_come, log_at}
use Rattle.law_run.proofs.TwoEnds.Going.{tells_more}
use Rattle.law_words.specs.Arrivals.{Account, AccountEntry, account}
use Rattle.law_sound.specs.LivedFails.{HaveComeNew}
use Rattle.law_sound.proofs.GivenMoments.{bearer}
use Rattle.law_sound.proofs.LivedFails.{AreThere, step_of, stands_new}
use Rattle.law_sound.proofs.LoggedEntries.{entries_by_log}
use Rattle.law_sound.proofs.LoggedEvents.{events_in, events_then, own_told, far_told, records_events}
use Rattle.law_sound.proofs.Records.{account_both}

-- ---- what a step logs of each side is what the calls of its end tell

none_built : (side own : Side) (process : ℕ) (blocks : List (List ℕ))
    → events_in side (map (λ (octets : List ℕ). Builds own process octets) blocks) ≡ []
none_built side own process [] = refl
none_built side own process (octets ∷ blocks) = none_built side own process blocks

own_log : (side : Side) (process : ℕ) (e : End) (c : Call) → events_in side (log_in side process e c) ≡ told_of e c
own_log side process e (Visits t) =
    let told = told_of e (Visits t) in
    let built = map (λ (octets : List ℕ). Builds side (t.tti % 8) octets) (built_in e (Visits t)) in
    events_then side (all_tell side told) built
    ∙ ap (λ (es : List Event). events_in side (all_tell side told) ++ es)
    (none_built side side (t.tti % 8) (built_in e (Visits t)))
    ∙ append-nil (events_in side (all_tell side told)) ∙ own_told side told
own_log side process e (Receive block) = own_told side (told_of e (Receive block))
own_log side process e c = own_told side (told_of e c)

far_log : (side : Side) (process : ℕ) (e : End) (c : Call) → events_in (other side) (log_in side process e c) ≡ []
far_log side process e (Visits t) =
    let told = told_of e (Visits t) in
    let built = map (λ (octets : List ℕ). Builds side (t.tti % 8) octets) (built_in e (Visits t)) in
    events_then (other side) (all_tell side told) built
    ∙ ap (λ (es : List Event). events_in (other side) (all_tell side told) ++ es)
    (none_built (other side) side (t.tti % 8) (built_in e (Visits t)))
    ∙ append-nil (events_in (other side) (all_tell side told)) ∙ far_told side told
far_log side process e (Receive block) = far_told side (told_of e (Receive block))
far_log side process e c = far_told side (told_of e c)

own_act : (side : Side) (o : Station) (e : End) (x : Act)
    → events_in side (log_by side o e x) ≡ told_over (calls_by o x) e
own_act side o e (Calls c) = own_log side 0 e c ∙ sym (append-nil (told_of e c))
own_act side o e (Comes k) = by (slice_get o.blocks k)
  where
    by : (b : Option Block) → events_in side (log_come side e b) ≡ told_over (brought b) e
    by None = refl
    by (Some b) = own_log side b.process e (Receive b.octets) ∙ sym (append-nil (told_of e (Receive b.octets)))
own_act side o e (Goes k) = refl

far_act : (side : Side) (o : Station) (e : End) (x : Act) → events_in (other side) (log_by side o e x) ≡ []
far_act side o e (Calls c) = far_log side 0 e c
far_act side o e (Comes k) = by (slice_get o.blocks k)
  where
    by : (b : Option Block) → events_in (other side) (log_come side e b) ≡ []
    by None = refl
    by (Some b) = far_log side b.process e (Receive b.octets)
far_act side o e (Goes k) = refl

log_events : (side : Side) (a : Air) (s : Step)
    → events_in side (log_at a (InLife s)) ≡ told_over (calls_at side a (InLife s)) (end_at side a)
log_events Nb a (AtNb x) = own_act Nb a.ue a.nb.end x
log_events Nb a (AtUe x) = far_act Ue a.nb a.ue.end x
log_events Nb a Passes = refl
log_events Ue a (AtNb x) = far_act Nb a.ue a.nb.end x
log_events Ue a (AtUe x) = own_act Ue a.nb a.ue.end x
log_events Ue a Passes = refl

-- ---- of a step

pub lives_last : (steps : List AirStep) (s : Step) (nb ue : End)
    → lives (steps ++ InLife s ∷ []) (outset nb ue) ≡ happens (lives steps (outset nb ue)) s
lives_last steps s nb ue = lives_more steps (InLife s ∷ []) (outset nb ue)

pub stands_at : (side : Side) (l : ℕ) (a : Air) → HaveComeNew l a → AreThere l a → Stands side l (end_at side a)
stands_at Nb l a new there = stands_new Nb l a.nb.end new.nb there.nb
stands_at Ue l a new there = stands_new Ue l a.ue.end new.ue there.ue

-- what is told of the channel is what its bearers' calls tell, and these go on by them
module _ (l : ℕ) (a : Air) (s : Step) (given : IsGiven l a s) (new : HaveComeNew l a) (there : AreThere l a) where
  tells_calls : (side : Side) → TellsOver l (end_at side a) (calls_at side a (InLife s))
  tells_calls side =
      let o = step_of l side a s given in
      over_tells side l (end_at side a) (calls_at side a (InLife s)) (stands_at side l a new there) o.given o.life

  pub step_told : (sent : Flight) (xs : List Record) → logged sent xs ≡ log_at a (InLife s) → (side : Side)
      → told_on l (events_of side xs)
      ≡ tells_over l (flow l (end_at side a)) (calls_of_step l side a (InLife s))
  step_told sent xs logs side =
      ap (told_on l) (records_events side sent xs ∙ ap (events_in side) logs ∙ log_events side a s)
      ∙ (tells_calls side).told_is

  pub step_bearer : (side : Side) → flow l (end_at side (happens a s))
      ≡ after_all (flow l (end_at side a)) (calls_of_step l side a (InLife s))
  step_bearer side = ap (flow l) (step_end side a (InLife s)) ∙ (tells_calls side).bearer_is

  there_on : (side : Side) → has l (end_at side (happens a s)).bearers ≡ true
  there_on side =
      ap (λ (e : End). has l e.bearers) (step_end side a (InLife s)) ∙ (tells_calls side).there

  pub step_there : AreThere l (happens a s)
  step_there = record { nb = there_on Nb; ue = there_on Ue }

module _ (l : ℕ) (c : BearerConfig) (keys : Keys) (nb ue : End) (begins : AmEndsBeginAlike l c keys nb ue)
    (steps : List AirStep) (s : Step) (t : AreTied l c nb ue steps) (t' : AreTied l c nb ue (steps ++ InLife s ∷ []))
    (living : AreLiving l (outset nb ue) (steps ++ InLife s ∷ []))
    (given : IsGiven l (lives steps (outset nb ue)) s)
    (new : HaveComeNew l (lives steps (outset nb ue))) (there : AreThere l (lives steps (outset nb ue)))
    (sent : Flight) (xs : List Record) (logs : logged sent xs ≡ log_at (lives steps (outset nb ue)) (InLife s)) where
  abbrev air : Air
  air = lives steps (outset nb ue)

  abbrev was : Side → State
  was side = bearer l c nb ue steps t side

  abbrev now_is : Side → State
  now_is side = bearer l c nb ue (steps ++ InLife s ∷ []) t' side

  pub was_flow : (side : Side) → flow l (end_at side air) ≡ Am (was side)
  was_flow Nb = t.joined.one_is
  was_flow Ue = t.joined.two_is

  now_flow : (side : Side) → flow l (end_at side (lives (steps ++ InLife s ∷ []) (outset nb ue))) ≡ Am (now_is side)
  now_flow Nb = t'.joined.one_is
  now_flow Ue = t'.joined.two_is

  abbrev calls : Side → List BearerCall
  calls side = calls_of_step l side air (InLife s)

  pub events_are : (side : Side) → told_on l (events_of side xs) ≡ tells_over l (Am (was side)) (calls side)
  events_are side =
      step_told l air s given new there sent xs logs side
      ∙ ap (λ (f : Flow). tells_over l f (calls side)) (was_flow side)

  pub bearers_go : (side : Side) → after_all (Am (was side)) (calls side) ≡ Am (now_is side)
  bearers_go side =
      ap (λ (f : Flow). after_all f (calls side)) (sym (was_flow side))
      ∙ sym (step_bearer l air s given new there side)
      ∙ ap (λ (a : Air). flow l (end_at side a)) (sym (lives_last steps s nb ue))
      ∙ now_flow side

  pub account_goes : (from : Side) (told : List Record) (a : Account) → (end_at Nb air).side ≡ Nb
      → (end_at Ue air).side ≡ Ue → sent.octets ≡ last_in told []
      → told_from c l from steps (outset nb ue) ≡ account (entries_in c.pdcp_bits l from [] told) a
      → told_from c l from (steps ++ InLife s ∷ []) (outset nb ue)
      ≡ account (entries_in c.pdcp_bits l from [] (told ++ xs)) a
  account_goes from told a nb_side ue_side octets is =
      let bits = c.pdcp_bits in
      let hs = entries_in bits l from [] told in
      let gs = entries_in bits l from (last_in told []) xs in
      let same : happens_in bits l from air (InLife s) ≡ gs =
      sym (entries_by_log bits l from sent air s xs nb_side ue_side given logs)
      ∙ ap (λ (block : List ℕ). entries_in bits l from block xs) octets in
      (joined_go_on l c keys nb ue from steps (InLife s) begins living).told_is
      ∙ ap (λ (zs : List AccountEntry). account zs (told_from c l from steps (outset nb ue))) same
      ∙ ap (account gs) is
      ∙ sym (account_both hs gs a)
      ∙ ap (λ (zs : List AccountEntry). account zs a) (sym (tells_more bits l from [] told xs))
