-- Steps in which an end tells only of what goes up or is dropped, as a life begins: of what PDCP gives RLC, only SDUs
-- that the terminal submits are gathered, and the account of PDUs stays.
use Rattle.std.proofs.Common.{◌≡◌, ◌≤◌, ℕ, Bool, true, false, not, ◌&&◌, if◌then◌else◌, List, [], ◌∷◌, ◌++◌, Option}
use Rattle.std.proofs.Common.{Some, None}
use Rattle.std.proofs.Common.{slice_get, append-nil, append_assoc, refl, ap, sym, subst, ◌∙◌, inl, inr}
use Rattle.std.specs.List.{AllByRecursion}
use Rattle.air_record.specs.declared.record.Record.{Record}
use Rattle.air_record.specs.declared.record.Record.TheVariants as records
use Rattle.air_record.specs.Submissions.{submitted_by}
use Rattle.air_text.specs.Groups.{Group}
use Rattle.bearer.specs.Acknowledged.State.{State}
use Rattle.bearer_types.specs.Sides.{other, is_same}
use Rattle.bearer_types.specs.declared.config.BearerConfig.{BearerConfig}
use Rattle.bearer_types.specs.declared.event.Event.{Event}
use Rattle.bearer_types.specs.declared.event.Event.TheVariants as events
use Rattle.eps_sec.specs.declared.Keys.{Keys}
use Rattle.l2_node.specs.End.{End}
use Rattle.l2_types.specs.declared.side.Side.{Side}
use Rattle.l2_types.specs.declared.side.Side.TheVariants.{Nb, Ue}
use Rattle.promises.specs.Events.{is_on, is_of_loop, told_on}
use Rattle.promises.specs.Flows.{loops_in, looped_at}
use Rattle.promises.specs.Records.{events_of}
use Rattle.journal_account.specs.FlowEvents.{FlowEvent}
use Rattle.journal_given.specs.Giving.{on_side}
use Rattle.journal_given.specs.Supplies.{Supply, Bearer, History}
use Rattle.journal_lives.specs.LifeEvents.{LifeEvent, LifeEnded}
use Rattle.journal_takes.specs.TakeEvents.{TakeEvent}
use Rattle.law_bearer.specs.AmBearer.Calls.{tells}
use Rattle.law_bearer.specs.AnyBearer.Calls.{Call as BearerCall, Submit as Submits, Take as Takes, Arrive as Arrives}
use Rattle.law_bearer.specs.AnyBearer.Calls.{Expire as Expires, Tick as Ticks, SetDiscard as SetsDiscard}
use Rattle.law_bearer.specs.AnyBearer.Queue.{submits as submits_in}
use Rattle.law_bearer.proofs.AnyBearer.SenderCalls.{all_then}
use Rattle.law_deliver.specs.AmChannel.Arrival.{told_from, happens_in}
use Rattle.law_deliver.specs.AmChannel.Delivery.{AmEndsBeginAlike, was_submitted}
use Rattle.law_deliver.specs.AmChannel.Lives.{AirStep, InLife, Moves, AreLiving, lives, lives_on, end_at, calls_at}
use Rattle.law_deliver.specs.AmFlow.Air.{Block, Air, Comes, Step, outset, IsGiven}
use Rattle.law_deliver.proofs.AmFlow.Carrying.{front, rest}
use Rattle.law_given.specs.Confirming.{AreSizesTold}
use Rattle.law_given.specs.Joined.{rlc}
use Rattle.law_given.specs.SupplyLaws.{IsOwn, gathered, supplied_by, supplied_all}
use Rattle.law_given.specs.SupplyLaws.{submitted_by as supply_submits}
use Rattle.law_given.proofs.JoinedLasting.{living_last}
use Rattle.law_given.proofs.JoinedSteps.{joined_go_on, lives_more, living_front}
use Rattle.law_given.proofs.Submissions.{submissions_then, all_submitted}
use Rattle.law_given.proofs.Tied.{AreTied, TiesGoOn, ties_go_on, calls_of_step}
use Rattle.law_given.proofs.TiedEnds.{ties_side}
use Rattle.law_run.specs.TwoEnds.Along.{AreAlong, at_side}
use Rattle.law_run.specs.TwoEnds.Logs.{LogEntry, Flight, flight_in, flight_behind, Tells, logged, logged_at, log_at}
use Rattle.law_run.specs.TwoEnds.Logs.{log_come}
use Rattle.law_run.specs.TwoEnds.Staying.{AreInLife}
use Rattle.law_run.proofs.Flowing.{looped_then}
use Rattle.law_words.specs.Arrivals.{Account, AccountEntry, account}
use Rattle.law_sound.specs.BesideLaws.{station_of}
use Rattle.law_sound.specs.LivedFails.{HaveComeNew}
use Rattle.law_sound.proofs.Agreeing.{Agrees}
use Rattle.law_sound.proofs.GivenBeside.{AreGivenOf, of_both, given_in_quiet, given_in_call}
use Rattle.law_sound.proofs.GivenHow.{HowItGoes, Few, Brought, how_it_goes}
use Rattle.law_sound.proofs.GivenMoments.{way, bearer, sizes_told}
use Rattle.law_sound.proofs.GivenSteps.{none_is_called, one_is_called}
use Rattle.law_sound.proofs.LivedFails.{AreThere}
use Rattle.law_sound.proofs.LoggedEntries.{entries_by_log}
use Rattle.law_sound.proofs.LoggedEvents.{HearsNone}
use Rattle.law_sound.proofs.MovingFails.{lives_come_new}
use Rattle.law_sound.proofs.Still.{IsGoneEvent, IsGone, AreGone, gone_still, still_entries}

-- ---- what goes up or is dropped changes nothing of what PDCP gives RLC

gone_supplies : (es : List Event) (s : Supply History) → AllByRecursion IsGoneEvent es → supplied_all es s ≡ s
gone_supplies [] s gone = refl
gone_supplies (e ∷ es) s gone =
    ap (supplied_all es) (one e gone.0) ∙ gone_supplies es s gone.1
  where
    one : (e : Event) → IsGoneEvent e → supplied_by e s ≡ s
    one (events.Take lcid count len) h = absurd h
    one (events.Report lcid fms bitmap) h = absurd h
    one (events.Discard lcid len) h = absurd h
    one e h = refl

events_gone : (side : Side) (xs : List Record) → AreGone xs → AllByRecursion IsGoneEvent (events_of side xs)
events_gone side [] gone = tt
events_gone side (records.Of own e ∷ xs) gone =
    all_then IsGoneEvent (if is_same side own && not (is_of_loop e) then e ∷ [] else []) (events_of side xs)
    (if_told (is_same side own && not (is_of_loop e))) (events_gone side xs gone.1)
  where
    if_told : (b : Bool) → AllByRecursion IsGoneEvent (if b then e ∷ [] else [])
    if_told true = (gone.0, tt)
    if_told false = tt
events_gone side (one ∷ xs) gone = events_gone side xs gone.1

told_gone : (l : ℕ) (es : List Event) → AllByRecursion IsGoneEvent es → AllByRecursion IsGoneEvent (told_on l es)
told_gone l [] gone = tt
told_gone l (e ∷ es) gone = if_on (is_on l e) (told_gone l es gone.1)
  where
    if_on : (b : Bool) → AllByRecursion IsGoneEvent (told_on l es)
        → AllByRecursion IsGoneEvent (if b then e ∷ told_on l es else told_on l es)
    if_on true more = (gone.0, more)
    if_on false more = more

pub gone_told : (l : ℕ) (side : Side) (xs : List Record) → AreGone xs
    → AllByRecursion IsGoneEvent (told_on l (events_of side xs))
gone_told l side xs gone = told_gone l (events_of side xs) (events_gone side xs gone)

-- and no block comes or goes
pub gone_log_events : (Entry : LogEntry → Type 0) → ((side : Side) (e : Event) → Entry (Tells side e)) → (sent : Flight)
    (xs : List Record) → AreGone xs → AllByRecursion Entry (logged sent xs)
gone_log_events Entry tells sent [] gone = tt
gone_log_events Entry tells sent (one ∷ xs) gone =
    all_then Entry (logged_at sent one) (logged (flight_behind one sent) xs) (by one gone.0)
    (gone_log_events Entry tells (flight_behind one sent) xs gone.1)
  where
    by : (one : Record) → IsGone one → AllByRecursion Entry (logged_at sent one)
    by (records.Of side e) h = event (is_of_loop e)
      where
        event : (b : Bool) → AllByRecursion Entry (if b then [] else Tells side e ∷ [])
        event true = tt
        event false = (tells side e, tt)
    by (records.Block way process fresh version octets) h = absurd h
    by (records.Air way what heard) h = absurd h
    by one h = tt

none_brought : (from : Side) (k : ℕ) (block : Block) (a : Air) → slice_get (station_of from a).blocks k ≡ Some block
    → AllByRecursion HearsNone (log_at a (InLife (at_side (other from) (Comes k)))) → ⊥
none_brought Nb k block a at h =
    (subst (λ (o : Option Block). AllByRecursion HearsNone (log_come Ue a.ue.end o)) at h).0
none_brought Ue k block a at h =
    (subst (λ (o : Option Block). AllByRecursion HearsNone (log_come Nb a.nb.end o)) at h).0

-- ---- a call whose bearer tells just that

abbrev pub submitted_to : List (List ℕ) → Bearer History → Bearer History
submitted_to sdus b = on_side Ue (all_submitted sdus) b

unchanged_on : (side : Side) (f : Supply History → Supply History) → ((s : Supply History) → f s ≡ s)
    → (b : Bearer History) → on_side side f b ≡ b
unchanged_on Nb f same b = ap (λ (s : Supply History). record { nb = s; ue = b.ue }) (same b.nb)
unchanged_on Ue f same b = ap (λ (s : Supply History). record { nb = b.nb; ue = s }) (same b.ue)

none_looped : (l : ℕ) (side : Side) (xs : List Record) → looped_at side l xs ≡ [] → looped_at (other side) l xs ≡ []
    → [] ≡ loops_in l xs
none_looped l Nb xs own far = sym far
none_looped l Ue xs own far = sym own

-- of the SDUs that the terminal submits in it
submits_so : (l : ℕ) (side : Side) (call : BearerCall) (xs : List Record) (b : Bearer History) → IsOwn call
    → looped_at side l xs ≡ submits_in call → looped_at (other side) l xs ≡ []
    → on_side side (supply_submits call) b ≡ submitted_to (loops_in l xs) b
submits_so l side call xs b own loops none = by side call own loops none
  where
    quiet : (side : Side) (f : Supply History → Supply History) → ((s : Supply History) → f s ≡ s)
        → looped_at side l xs ≡ [] → looped_at (other side) l xs ≡ []
        → on_side side f b ≡ submitted_to (loops_in l xs) b
    quiet side f same loops none =
        unchanged_on side f same b
        ∙ ap (λ (sdus : List (List ℕ)). submitted_to sdus b) (none_looped l side xs loops none)

    by : (side : Side) (call : BearerCall) → IsOwn call → looped_at side l xs ≡ submits_in call
        → looped_at (other side) l xs ≡ [] → on_side side (supply_submits call) b ≡ submitted_to (loops_in l xs) b
    by Nb (Submits sdu) own loops none = let no : [] ≡ sdu ∷ [] = loops in cc
    by Ue (Submits sdu) own loops none = ap (λ (sdus : List (List ℕ)). submitted_to sdus b) (sym loops)
    by side (Takes share held) own loops none = quiet side (supply_submits (Takes share held)) (λ s. refl) loops none
    by side (Arrives pdu) own loops none = absurd own
    by side (Expires clock) own loops none = quiet side (supply_submits (Expires clock)) (λ s. refl) loops none
    by side Ticks own loops none = quiet side (supply_submits Ticks) (λ s. refl) loops none
    by side (SetsDiscard ttis) own loops none = quiet side (supply_submits (SetsDiscard ttis)) (λ s. refl) loops none

-- all that is gathered in it
gathers_so : (l : ℕ) (side : Side) (s : State) (call : BearerCall) (xs : List Record) (b : Bearer History) → IsOwn call
    → AreGone xs → told_on l (events_of side xs) ≡ tells s call → looped_at side l xs ≡ submits_in call
    → looped_at (other side) l xs ≡ [] → on_side side (gathered s call) b ≡ submitted_to (loops_in l xs) b
gathers_so l side s call xs b own gone events loops none =
    on_this side (λ z. gone_supplies (tells s call) (supply_submits call z)
    (subst (AllByRecursion IsGoneEvent) events (gone_told l side xs gone)))
    ∙ submits_so l side call xs b own loops none
  where
    on_this : (side : Side) → ((z : Supply History) → gathered s call z ≡ supply_submits call z)
        → on_side side (gathered s call) b ≡ on_side side (supply_submits call) b
    on_this Nb same = ap (λ (z : Supply History). record { nb = z; ue = b.ue }) (same b.nb)
    on_this Ue same = ap (λ (z : Supply History). record { nb = b.nb; ue = z }) (same b.ue)

-- ---- one step

module _ (l : ℕ) (low : l ≤ 10) (newer : List Group) (now : Group) (past : List Group)
    (none : submitted_by now.line ≡ None) (c : BearerConfig) (keys : Keys) (nb ue : End)
    (begins : AmEndsBeginAlike l c keys nb ue) (es : Side → List LifeEvent) where
  -- in a life in which RLC was given nothing yet
  pub record IsBegun (steps : List AirStep) (a : Side → Account) (b : Bearer History) : Type 0 where
    pub tied : AreTied l c nb ue steps
    pub account_is : (from : Side) → told_from c l from steps (outset nb ue) ≡ a from
    pub agrees : (from : Side) → Agrees (a from) (LifeEnded ∷ es from)
    pub given : AreGivenOf c tied.joined.there tied.joined.back tied.joined.one tied.joined.two [] [] b

  module _ (steps : List AirStep) (s : Step) (a : Side → Account) (b : Bearer History) (h : IsBegun steps a b)
      (living : AreLiving l (outset nb ue) (steps ++ InLife s ∷ []))
      (new : HaveComeNew l (lives steps (outset nb ue)))
      (sent : Flight) (xs : List Record) (logs : logged sent xs ≡ log_at (lives steps (outset nb ue)) (InLife s))
      (looped : (side : Side) (k : ℕ) → looped_at side k xs
      ≡ was_submitted k (calls_at side (lives steps (outset nb ue)) (InLife s))
      (end_at side (lives steps (outset nb ue))))
      (gone : AreGone xs) where
    abbrev air : Air
    air = lives steps (outset nb ue)

    abbrev behind : List AirStep
    behind = steps ++ InLife s ∷ []

    abbrev b' : Bearer History
    b' = submitted_to (loops_in l xs) b

    is_given : IsGiven l air s
    is_given = living_last l steps (InLife s) (outset nb ue) living

    n : TiesGoOn l c nb ue steps (InLife s) h.tied
    n = ties_go_on l c nb ue steps (InLife s) is_given h.tied

    there : AreThere l air
    there = record { nb = h.tied.matched.nb_stands.there; ue = h.tied.matched.ue_stands.there }

    account_stays : (from : Side) → told_from c l from behind (outset nb ue) ≡ a from
    account_stays from =
        let none_happens : happens_in c.pdcp_bits l from air (InLife s) ≡ [] =
        sym (entries_by_log c.pdcp_bits l from sent air s xs (ties_side l c nb ue steps h.tied).0
        (ties_side l c nb ue steps h.tied).1 is_given logs)
        ∙ still_entries c.pdcp_bits l from xs sent.octets (gone_still xs gone) in
        (joined_go_on l c keys nb ue from steps (InLife s) begins living).told_is
        ∙ ap (λ (zs : List AccountEntry). account zs (told_from c l from steps (outset nb ue))) none_happens
        ∙ h.account_is from

    agrees_now : (from : Side) → Agrees (told_from c l from behind (outset nb ue)) (LifeEnded ∷ es from)
    agrees_now from = subst (λ (x : Account). Agrees x (LifeEnded ∷ es from)) (sym (account_stays from)) (h.agrees from)

    abbrev none_told : Side → List FlowEvent
    none_told from = []

    sizes : (from : Side) → AreSizesTold (rlc (way l c nb ue behind n.next from)) (none_told from)
    sizes from = sizes_told l c nb ue behind n.next from (LifeEnded ∷ es from) (agrees_now from)

    abbrev Given : Bearer History → Type 0
    Given x = AreGivenOf c n.next.joined.there n.next.joined.back n.next.joined.one n.next.joined.two [] [] x

    quiet : ((side : Side) → calls_of_step l side air (InLife s) ≡ []) → Given b'
    quiet none' =
        let f = none_is_called l low newer now past none c keys nb ue begins steps s h.tied n living is_given new there
        sent [] xs logs looped none' in
        subst (λ (sdus : List (List ℕ)). Given (submitted_to sdus b)) (sym f.loops)
        (given_in_quiet l c nb ue steps (InLife s) h.tied n.next none_told none_told sizes (λ from k. refl) b h.given
        f.goes f.same)

    called : (side : Side) (call : BearerCall) → IsOwn call → calls_of_step l side air (InLife s) ≡ call ∷ []
        → calls_of_step l (other side) air (InLife s) ≡ [] → Given b'
    called side call own one far =
        let f = one_is_called l low newer now past none c keys nb ue begins steps s h.tied n living is_given new there
        sent [] xs logs looped side call own one far in
        subst Given
        (gathers_so l side (bearer l c nb ue steps h.tied side) call xs b own gone f.events f.loops f.none_looped)
        (given_in_call l c nb ue steps (InLife s) h.tied n.next none_told none_told sizes (λ from k. refl) b h.given
        side call own f.goes f.far f.left f.same).0

    given_by : HowItGoes l air s → Given b'
    given_by (Few side (inl none') far hears) =
        quiet (of_both side (λ (z : Side). calls_of_step l z air (InLife s) ≡ []) none' far)
    given_by (Few side (inr one) far hears) = called side one.0 one.1.1 one.1.0 far
    given_by (Brought from k block is at) =
        absurd (none_brought from k block air at
        (subst (λ (z : Step). AllByRecursion HearsNone (log_at air (InLife z))) is
        (subst (AllByRecursion HearsNone) logs (gone_log_events HearsNone (λ own e. tt) sent xs gone))))

    pub begun_on : IsBegun behind a b'
    begun_on = record {
      tied = n.next;
      account_is = account_stays;
      agrees = h.agrees;
      given = given_by (how_it_goes l air s is_given);
    }

  -- ---- steps of the life

  submitted_then : (xs ys : List Record) (b : Bearer History)
      → submitted_to (loops_in l ys) (submitted_to (loops_in l xs) b) ≡ submitted_to (loops_in l (xs ++ ys)) b
  submitted_then xs ys b =
      ap (λ (zs : List TakeEvent). on_side Ue (λ (s : Supply History). record s {
        takes = record s.takes { events = zs };
      }) b) (sym (submissions_then (loops_in l xs) (loops_in l ys) b.ue.takes.events))
      ∙ ap (λ (sdus : List (List ℕ)). submitted_to sdus b) (sym (looped_then Ue l xs ys))

  pub all_begun_on : (steps xs : List AirStep) (a : Side → Account) (b : Bearer History) (sent : Flight)
      (told : List Record) → AreInLife xs → AreLiving l (outset nb ue) (steps ++ xs)
      → HaveComeNew l (lives steps (outset nb ue)) → AreAlong sent xs (lives steps (outset nb ue)) told → AreGone told
      → IsBegun steps a b → IsBegun (steps ++ xs) a (submitted_to (loops_in l told) b)
  all_begun_on steps [] a b sent told in_life living new along gone h =
      subst (λ (ys : List AirStep). IsBegun ys a (submitted_to (loops_in l told) b)) (sym (append-nil steps))
      (subst (λ (sdus : List (List ℕ)). IsBegun steps a (submitted_to sdus b)) (sym (along.1 Ue l)) h)
  all_begun_on steps (Moves keys' ∷ xs) a b sent told in_life living new along gone h = absurd in_life
  all_begun_on steps (InLife s ∷ xs) a b sent told in_life living new along gone h =
      let at = lives steps (outset nb ue) in
      let o = outset nb ue in
      let parts : steps ++ InLife s ∷ xs ≡ (steps ++ InLife s ∷ []) ++ xs =
      sym (append_assoc steps (InLife s ∷ []) xs) in
      let living' : AreLiving l o ((steps ++ InLife s ∷ []) ++ xs) = subst (AreLiving l o) parts living in
      let first = living_front l (steps ++ InLife s ∷ []) xs o living' in
      let there : lives (steps ++ InLife s ∷ []) o ≡ lives_on at (InLife s) = lives_more steps (InLife s ∷ []) o in
      let gone' = subst AreGone along.are gone in
      let x = begun_on steps s a b h first new sent along.now along.logs along.looped
      (front IsGone along.now along.later gone') in
      let y = all_begun_on (steps ++ InLife s ∷ []) xs a (submitted_to (loops_in l along.now) b)
      (flight_in along.now sent) along.later in_life living'
      (subst (HaveComeNew l) (sym there) (lives_come_new l (InLife s ∷ []) at new
      (living_last l steps (InLife s) o first, tt)))
      (subst (λ (z : Air). AreAlong (flight_in along.now sent) xs z along.later) (sym there) along.others)
      (rest IsGone along.now along.later gone') x in
      subst (λ (ys : List AirStep). IsBegun ys a (submitted_to (loops_in l told) b)) (sym parts)
      (subst (λ (zs : List Record). IsBegun ((steps ++ InLife s ∷ []) ++ xs) a (submitted_to (loops_in l zs) b))
      (sym along.are)
      (subst (IsBegun ((steps ++ InLife s ∷ []) ++ xs) a) (submitted_then along.now along.later b) y))
