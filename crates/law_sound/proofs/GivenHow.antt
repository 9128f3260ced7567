-- In a step of a life one side's bearer of a channel is called once or not at all, or a block comes, of which it tells
-- no expiry.
use Rattle.std.proofs.Common.{◌≡◌, ℕ, ◌%◌, List, [], ◌∷◌, ◌++◌, map, Option, Some, None, slice_get}
use Rattle.std.proofs.Common.{append-nil, refl, ap, sym, subst, ◌∙◌, inl, Bool, true, false, if◌then◌else◌}
use Rattle.std.specs.List.{AllByRecursion}
use Rattle.bearer.specs.Acknowledged.State.{State}
use Rattle.bearer.specs.declared.flow.Flow.TheVariants.{Am}
use Rattle.bearer_types.specs.Sides.{other, heard_by}
use Rattle.bearer_types.specs.declared.event.Event.{Event}
use Rattle.bearer_types.specs.declared.event.Event.TheVariants as events
use Rattle.l2_node.specs.End.{End}
use Rattle.l2_types.specs.declared.event.Clock.TheVariants.{Poll, Reorder, Prohibit}
use Rattle.l2_types.specs.declared.side.Side.{Side}
use Rattle.l2_types.specs.declared.side.Side.TheVariants.{Nb, Ue}
use Rattle.promises.specs.Events.{is_on, told_on}
use Rattle.promises.specs.Pdus.{carried}
use Rattle.law_bearer.specs.AnyBearer.Calls.{Call as BearerCall}
use Rattle.law_bearer.specs.AnyBearer.Rounds.{arrivals}
use Rattle.law_deliver.specs.AmChannel.Lives.{InLife, brought}
use Rattle.law_deliver.specs.AmFlow.Air.{Block, Station, Air, Calls, Comes, Goes, Step, AtNb, AtUe, Passes}
use Rattle.law_deliver.specs.AmFlow.Air.{IsDone, IsGiven}
use Rattle.law_deliver.specs.AmFlow.NoPdus.{BringsNoBlock}
use Rattle.law_deliver.specs.AmFlow.Ups.{calls_over, tells_over}
use Rattle.law_given.proofs.PollFirst.{IsNoExpiry, NoneExpires}
use Rattle.law_given.proofs.Tied.{calls_of_step}
use Rattle.law_given.proofs.TiedEnds.{AreFewOwn, own_calls_few}
use Rattle.law_node.specs.Calls.{Call, Visits, Receive}
use Rattle.law_run.specs.TwoEnds.Along.{at_side}
use Rattle.law_run.specs.TwoEnds.Logs.{LogEntry, log_in, log_come, log_at, all_tell, Builds}
use Rattle.law_node.specs.Telling.{told_of}
use Rattle.law_deliver.specs.AmChannel.Arrival.{built_in}
use Rattle.law_sound.specs.BesideLaws.{station_of}
use Rattle.law_sound.proofs.LaterRecords.{TellsOfNoTaking, arrivals_over}
use Rattle.law_sound.proofs.LoggedEvents.{HearsNone, tells_hear_none}

-- ---- one side's bearer is called once or not at all and no block comes, or a block comes

pub data HowItGoes (l : ℕ) (a : Air) (s : Step) : Type 0 where
  Few : (side : Side) → AreFewOwn (calls_of_step l side a (InLife s)) → calls_of_step l (other side) a (InLife s) ≡ []
      → AllByRecursion HearsNone (log_at a (InLife s)) → HowItGoes l a s
  Brought : (from : Side) (k : ℕ) (block : Block) → s ≡ at_side (other from) (Comes k)
      → slice_get (station_of from a).blocks k ≡ Some block → HowItGoes l a s

few_more : (cs : List BearerCall) → AreFewOwn cs → AreFewOwn (cs ++ [])
few_more cs h = subst AreFewOwn (sym (append-nil cs)) h

both_hear_none : (xs ys : List LogEntry) → AllByRecursion HearsNone xs → AllByRecursion HearsNone ys
    → AllByRecursion HearsNone (xs ++ ys)
both_hear_none [] ys h k = k
both_hear_none (x ∷ xs) ys h k = (h.0, both_hear_none xs ys h.1 k)

builds_hear_none : (side : Side) (process : ℕ) (blocks : List (List ℕ))
    → AllByRecursion HearsNone (map (λ (octets : List ℕ). Builds side process octets) blocks)
builds_hear_none side process [] = tt
builds_hear_none side process (octets ∷ blocks) = (tt, builds_hear_none side process blocks)

log_hears_none : (side : Side) (process : ℕ) (e : End) (c : Call) → BringsNoBlock c
    → AllByRecursion HearsNone (log_in side process e c)
log_hears_none side process e (Visits t) none =
    both_hear_none (all_tell side (told_of e (Visits t)))
    (map (λ (octets : List ℕ). Builds side (t.tti % 8) octets) (built_in e (Visits t)))
    (tells_hear_none side (told_of e (Visits t))) (builds_hear_none side (t.tti % 8) (built_in e (Visits t)))
log_hears_none side process e (Receive block) none = absurd none
log_hears_none side process e c none = tells_hear_none side (told_of e c)

no_block : (l : ℕ) (s : Station) (c : Call) → IsDone l s (Calls c) → BringsNoBlock c
no_block l s (Receive block) h = absurd h.2
no_block l s c h = tt

pub how_it_goes : (l : ℕ) (a : Air) (s : Step) → IsGiven l a s → HowItGoes l a s
how_it_goes l a (AtNb (Calls c)) given =
    let none = no_block l a.nb c given in
    Few Nb (few_more _ (own_calls_few l a.nb.end c none)) refl (log_hears_none Nb 0 a.nb.end c none)
how_it_goes l a (AtUe (Calls c)) given =
    let none = no_block l a.ue c given in
    Few Ue (few_more _ (own_calls_few l a.ue.end c none)) refl (log_hears_none Ue 0 a.ue.end c none)
how_it_goes l a (AtNb (Goes k)) given = Few Nb (inl refl) refl tt
how_it_goes l a (AtUe (Goes k)) given = Few Ue (inl refl) refl tt
how_it_goes l a Passes given = Few Nb (inl refl) refl tt
how_it_goes l a (AtNb (Comes k)) given = by (slice_get a.ue.blocks k) refl
  where
    by : (o : Option Block) → slice_get a.ue.blocks k ≡ o → HowItGoes l a (AtNb (Comes k))
    by None at =
        Few Nb (inl (ap (λ (o : Option Block). calls_over l (brought o) a.nb.end) at)) refl
        (subst (λ (o : Option Block). AllByRecursion HearsNone (log_come Nb a.nb.end o)) (sym at) tt)
    by (Some block) at = Brought Ue k block refl at
how_it_goes l a (AtUe (Comes k)) given = by (slice_get a.nb.blocks k) refl
  where
    by : (o : Option Block) → slice_get a.nb.blocks k ≡ o → HowItGoes l a (AtUe (Comes k))
    by None at =
        Few Ue (inl (ap (λ (o : Option Block). calls_over l (brought o) a.ue.end) at)) refl
        (subst (λ (o : Option Block). AllByRecursion HearsNone (log_come Ue a.ue.end o)) (sym at) tt)
    by (Some block) at = Brought Nb k block refl at

-- ---- what arrives expires nothing

quiet_unexpired : (l : ℕ) (es : List Event) → AllByRecursion (TellsOfNoTaking l) (told_on l es)
    → NoneExpires (told_on l es)
quiet_unexpired l [] h = tt
quiet_unexpired l (e ∷ es) h = by (is_on l e) refl (quiet_unexpired l es) h
  where
    one : (e : Event) → is_on l e ≡ true → TellsOfNoTaking l e → IsNoExpiry e
    one (events.Expired lcid Poll) on h = h on
    one (events.Expired lcid Reorder) on h = tt
    one (events.Expired lcid Prohibit) on h = tt
    one (events.Take lcid count len) on h = tt
    one (events.Report lcid fms bitmap) on h = tt
    one (events.Send lcid how sn) on h = tt
    one (events.Wait lcid why) on h = tt
    one (events.Start lcid clock) on h = tt
    one (events.Stop lcid clock) on h = tt
    one (events.Up lcid sdu) on h = tt
    one (events.Fail lcid sn) on h = tt
    one (events.Drop lcid why) on h = tt
    one (events.Integrity lcid found wanted) on h = tt
    one (events.BadMac fault) on h = tt
    one (events.BadRlc lcid fault) on h = tt
    one (events.BadPdcp lcid fault) on h = tt
    one (events.Discard lcid len) on h = tt

    by : (b : Bool) → is_on l e ≡ b
        → (AllByRecursion (TellsOfNoTaking l) (told_on l es) → NoneExpires (told_on l es))
        → AllByRecursion (TellsOfNoTaking l) (if b then e ∷ told_on l es else told_on l es)
        → NoneExpires (if b then e ∷ told_on l es else told_on l es)
    by true on more h = (one e on h.0, more h.1)
    by false on more h = more h

module _ (l : ℕ) (a : Air) (s : Step) (from : Side) (k : ℕ) (block : Block) (is : s ≡ at_side (other from) (Comes k))
    (at : slice_get (station_of from a).blocks k ≡ Some block) (b : Side → State) where
  calls_are : (z : Step) → s ≡ z → (side : Side) → calls_of_step l side a (InLife s) ≡ calls_of_step l side a (InLife z)
  calls_are z e side = ap (λ (y : Step). calls_of_step l side a (InLife y)) e

  abbrev IsQuietAt : Side → List BearerCall → Type 0
  IsQuietAt side cs = AllByRecursion (TellsOfNoTaking l) (tells_over l (Am (b side)) cs)

  quiet_calls : (side : Side) (cs : List BearerCall) → calls_of_step l side a (InLife s) ≡ cs → IsQuietAt side cs
      → IsQuietAt side (calls_of_step l side a (InLife s))
  quiet_calls side cs e h = subst (IsQuietAt side) (sym e) h

  arrive : (side : Side) (pdus : List (List ℕ)) → calls_of_step l side a (InLife s) ≡ arrivals pdus ++ []
      → IsQuietAt side (calls_of_step l side a (InLife s))
  arrive side pdus e =
      quiet_calls side (arrivals pdus) (e ∙ append-nil (arrivals pdus)) (arrivals_over l (b side) pdus)

  brought_quiet : (z : Side) → s ≡ at_side (other z) (Comes k) → slice_get (station_of z a).blocks k ≡ Some block
      → (side : Side) → IsQuietAt side (calls_of_step l side a (InLife s))
  brought_quiet Nb e q Nb = quiet_calls Nb [] (calls_are (AtUe (Comes k)) e Nb) tt
  brought_quiet Nb e q Ue =
      arrive Ue (carried l (heard_by a.ue.end.side) block.octets)
      (calls_are (AtUe (Comes k)) e Ue ∙ ap (λ (o : Option Block). calls_over l (brought o) a.ue.end) q)
  brought_quiet Ue e q Ue = quiet_calls Ue [] (calls_are (AtNb (Comes k)) e Ue) tt
  brought_quiet Ue e q Nb =
      arrive Nb (carried l (heard_by a.nb.end.side) block.octets)
      (calls_are (AtNb (Comes k)) e Nb ∙ ap (λ (o : Option Block). calls_over l (brought o) a.nb.end) q)

  -- by bearers that hear a block
  pub brought_unexpired : (es : List Event) (side : Side)
      → told_on l es ≡ tells_over l (Am (b side)) (calls_of_step l side a (InLife s)) → NoneExpires (told_on l es)
  brought_unexpired es side told =
      quiet_unexpired l es (subst (AllByRecursion (TellsOfNoTaking l)) (sym told) (brought_quiet from is at side))
