-- The SNs that a side tells on a channel in steps of a life are those of its bearer's logs, and right by the history.
use Rattle.std.proofs.Common.{◌≡◌, ℕ, ◌==◌, Bool, true, false, cond, if◌then◌else◌, List, [], ◌∷◌, ◌++◌, Option, Some}
use Rattle.std.proofs.Common.{None, slice_get, append-nil, refl, ap, sym, subst, ◌∙◌}
use Rattle.std.proofs.lemmas.List.Concat.{flat_map-append}
use Rattle.std.specs.List.{AllByRecursion}
use Rattle.bearer.specs.Acknowledged.State.{State, has_more}
use Rattle.bearer.specs.declared.flow.Flow.{Flow}
use Rattle.bearer.specs.declared.flow.Flow.TheVariants.{Am}
use Rattle.bearer_types.specs.declared.event.Event.{Event}
use Rattle.bearer_types.specs.declared.event.Event.TheVariants.{Fail}
use Rattle.l2_node.specs.End.{End}
use Rattle.l2_node.specs.Finding.{has}
use Rattle.l2_types.specs.declared.side.Side.{Side}
use Rattle.l2_types.specs.declared.side.Side.TheVariants.{Nb, Ue}
use Rattle.rlc_am_rx.specs.State.{State as Receiver}
use Rattle.rlc_am_tx.specs.Machine.{State as Sender}
use Rattle.journal_account.specs.FlowEvents.{FlowEvent, IsHistory}
use Rattle.journal_failure.specs.RightFailure.{AreFailsOf}
use Rattle.promises.specs.Events.{is_on, told_on, fails_in as sns_of, fails_on}
use Rattle.law_bearer.specs.AnyBearer.Calls.{Call as BearerCall}
use Rattle.law_node.specs.Calls.{Call, AreGiven as AreGivenCalls, after, run_end}
use Rattle.law_node.specs.Holding.{flow}
use Rattle.law_node.specs.Telling.{told_over}
use Rattle.law_deliver.specs.AmChannel.Lives.{AirStep, InLife, Moves, lives_on, AreLiving, brought, calls_by, calls_at}
use Rattle.law_deliver.specs.AmChannel.Lives.{all_calls, end_at}
use Rattle.law_deliver.specs.AmFlow.Air.{Block, Station, Air, Act, Calls, Comes, Goes, Step, AtNb, AtUe, Passes}
use Rattle.law_deliver.specs.AmFlow.Air.{happens, IsDone, IsGiven}
use Rattle.law_deliver.specs.AmFlow.Carrying.{CarriedPdu}
use Rattle.law_deliver.specs.AmFlow.Channels.{GoesOnInLife}
use Rattle.law_deliver.specs.AmFlow.Reordering.{reordering_in}
use Rattle.law_deliver.specs.AmFlow.Ups.{calls_over, tells_over}
use Rattle.law_deliver.proofs.AmChannel.Ends.{step_end}
use Rattle.law_deliver.proofs.AmFlow.Air.{both_match}
use Rattle.law_deliver.proofs.AmFlow.Links.{same_bearer}
use Rattle.law_deliver.proofs.AmFlow.Ups.{Stands, stands, stands_more, over_tells}
use Rattle.law_run.proofs.AnyCalls.Going.{over_on}
use Rattle.law_run.proofs.ChannelLogs.{told_logs}
use Rattle.law_run.specs.TwoEnds.ChannelLog.{told_in, parted}
use Rattle.law_run.specs.TwoEnds.Staying.{AreInLife}
use Rattle.law_run.specs.TwoEnds.SenderLog.{BearerEntry, Tells, telling, bearer_logs}
use Rattle.law_sound.specs.FailLaws.{GoesOnTo}
use Rattle.law_sound.specs.LivedFails.{HaveComeNew, HasComeNew, sns_in, LivesFailRightly, RecordsTellRightly}
use Rattle.law_sound.specs.LivedHistories.{gone_on, logged_in, GoesOnBy, AreLived, Moment, GoOver}
use Rattle.law_sound.specs.LogLaws.{with_log, fails_at, fails_in}
use Rattle.law_sound.proofs.HearingFails.{heard_only, heard_fail_none}
use Rattle.law_sound.proofs.JoiningFails.{goes_then, logs_go_on, fails_join}
use Rattle.law_sound.proofs.LivedHistories.{lives_go_on_beside}
use Rattle.law_sound.proofs.LoggedOn.{told_fails, parted_fails}

-- ---- what is told on a channel, and what its bearer logs

one_fail : (here : Bool) (lcid sn : ℕ) (told : List Event)
    → (if here then sn ∷ [] else []) ++ fails_in (telling told)
    ≡ fails_in (telling (cond here (Fail lcid sn ∷ told) told))
one_fail true lcid sn told = refl
one_fail false lcid sn told = refl

no_fail : (here : Bool) (e : Event) (told : List Event) → fails_at (Tells e) ≡ []
    → fails_in (telling told) ≡ fails_in (telling (cond here (e ∷ told) told))
no_fail true e told none = ap (λ (sns : List ℕ). sns ++ fails_in (telling told)) (sym none)
no_fail false e told none = refl

pub events_fail : (l : ℕ) (told : List Event) → fails_on l told ≡ fails_in (telling (told_on l told))
events_fail l [] = refl
events_fail l (Fail lcid sn ∷ told) =
    ap (λ (sns : List ℕ). (if lcid == l then sn ∷ [] else []) ++ sns) (events_fail l told)
    ∙ one_fail (lcid == l) lcid sn (told_on l told)
events_fail l (e ∷ told) = events_fail l told ∙ no_fail (is_on l e) e (told_on l told) refl

bearers_fail : (l : ℕ) (f : Flow) (cs : List BearerCall)
    → fails_in (telling (tells_over l f cs)) ≡ fails_in (parted (bearer_logs l f cs))
bearers_fail l f cs =
    let log = bearer_logs l f cs in
    ap (λ (told : List Event). fails_in (telling told)) (sym (told_logs l cs f))
    ∙ (ap fails_in (sym (append-nil (telling (told_in log)))) ∙ (told_fails log [] ∙ sym (parted_fails log)))

-- ---- the calls of an end in a step of a life

pub record AreOfLife (l : ℕ) (cs : List Call) : Type 0 where
  pub given : AreGivenCalls cs
  pub life : AllByRecursion (GoesOnInLife l) cs

no_calls : (l : ℕ) → AreOfLife l []
no_calls l = record { given = tt; life = tt }

brought_of : (l : ℕ) (o : Option Block) → AreOfLife l (brought o)
brought_of l None = no_calls l
brought_of l (Some b) = record { given = (tt, tt); life = (record { adds_none = refl; moves_none = refl }, tt) }

act_of : (l : ℕ) (other s : Station) (x : Act) → IsDone l s x → AreOfLife l (calls_by other x)
act_of l other s (Calls c) g = record { given = (g.0, tt); life = (g.1, tt) }
act_of l other s (Comes k) g = brought_of l (slice_get other.blocks k)
act_of l other s (Goes k) g = no_calls l

pub step_of : (l : ℕ) (side : Side) (a : Air) (s : Step) → IsGiven l a s → AreOfLife l (calls_at side a (InLife s))
step_of l Nb a (AtNb x) g = act_of l a.ue a.nb x g
step_of l Nb a (AtUe x) g = no_calls l
step_of l Nb a Passes g = no_calls l
step_of l Ue a (AtNb x) g = no_calls l
step_of l Ue a (AtUe x) g = act_of l a.nb a.ue x g
step_of l Ue a Passes g = no_calls l

calls_stand : (side : Side) (l : ℕ) (e : End) (cs : List Call) → Stands side l e → AreOfLife l cs
    → Stands side l (run_end cs e)
calls_stand side l e [] s o = s
calls_stand side l e (c ∷ cs) s o =
    calls_stand side l (after e c) cs
    (stands_more side l e c s o.given.0 (λ q. let no : true ≡ false = sym q ∙ o.life.0.adds_none in absurd cc))
    (record { given = o.given.1; life = o.life.1 })

step_stands : (side : Side) (l : ℕ) (a : Air) (s : Step) → IsGiven l a s → Stands side l (end_at side a)
    → Stands side l (end_at side (happens a s))
step_stands side l a s g h =
    subst (Stands side l) (sym (step_end side a (InLife s)))
    (calls_stand side l (end_at side a) (calls_at side a (InLife s)) h (step_of l side a s g))

-- what it tells in them
step_fails : (side : Side) (l : ℕ) (a : Air) (s : Step) → IsGiven l a s → Stands side l (end_at side a)
    → fails_on l (told_over (calls_at side a (InLife s)) (end_at side a))
    ≡ fails_in (parted (bearer_logs l (flow l (end_at side a))
    (calls_over l (calls_at side a (InLife s)) (end_at side a))))
step_fails side l a s g h =
    let cs = calls_at side a (InLife s) in
    let e = end_at side a in
    let o = step_of l side a s g in
    events_fail l (told_over cs e)
    ∙ (ap (λ (told : List Event). fails_in (telling told)) (over_tells side l e cs h o.given o.life).told_is
    ∙ bearers_fail l (flow l e) (calls_over l cs e))

-- ---- from one step to the next

sns_then : (l : ℕ) (side : Side) (x : AirStep) (xs : List AirStep) (a : Air)
    → sns_in l side (x ∷ xs) a
    ≡ fails_on l (told_over (calls_at side a x) (end_at side a)) ++ sns_in l side xs (lives_on a x)
sns_then l side x xs a =
    let cs = calls_at side a x in
    let ds = all_calls side xs (lives_on a x) in
    let e = end_at side a in
    ap (fails_on l) (over_on cs ds e)
    ∙ (flat_map-append (sns_of l) (told_over cs e) (told_over ds (run_end cs e))
    ∙ ap (λ (z : End). fails_on l (told_over cs e) ++ fails_on l (told_over ds z)) (sym (step_end side a x)))

-- a stretch of a history, with the SNs that are told in it
pub record Stretch (most : ℕ) (es now : List FlowEvent) (sns : List ℕ) : Type 0 where
  pub history : IsHistory now
  pub on : GoesOnTo es now
  pub fails : AreFailsOf most es now sns

pub none_told : (most : ℕ) (es : List FlowEvent) → IsHistory es → Stretch most es es []
none_told most es h =
    record { history = h; on = ([], refl); fails = heard_fail_none most es es (heard_only [] [] es) h }

pub both_told : (most : ℕ) (es mid now : List FlowEvent) (sns later : List ℕ) → Stretch most es mid sns
    → Stretch most mid now later → Stretch most es now (sns ++ later)
both_told most es mid now sns later h k = record {
  history = k.history;
  on = goes_then es mid now h.on k.on;
  fails = fails_join most es mid now sns later k.history h.on k.on h.fails k.fails;
}

goes_told : (most : ℕ) (pdus : List CarriedPdu) (es : List FlowEvent) (b : State) (sent heard : List BearerEntry)
    (tx : Sender) (rx : Receiver) → GoesOnBy most pdus es b sent heard tx rx
    → Stretch most es (gone_on b sent heard pdus es) (fails_in (parted sent))
goes_told most pdus es b sent heard tx rx h =
    let mid = with_log b.pdcp.kind (has_more b.pdcp) (parted sent) es in
    let more = heard_only (reordering_in (told_in heard)) pdus mid in
    record {
      history = h.ends.follows.history;
      on = goes_then es mid (gone_on b sent heard pdus es)
          (logs_go_on b.pdcp.kind (has_more b.pdcp) (parted sent) es) (more.more, more.are);
      fails = h.fails;
    }

-- the limit is that of the sender
pub same_limit : (f : Flow) (x y : State) (m n : ℕ) → f ≡ Am x → f ≡ Am y → x.tx.config.max_retx ≡ m
    → y.tx.config.max_retx ≡ n → m ≡ n
same_limit f x y m n p q i j =
    sym i ∙ (ap (λ (b : State). b.tx.config.max_retx) (same_bearer f x y p q) ∙ j)

pub other_limit : (m n : ℕ) (es now : List FlowEvent) (sns : List ℕ) → m ≡ n → Stretch m es now sns
    → Stretch n es now sns
other_limit m n es now sns q h = subst (λ (most : ℕ). Stretch most es now sns) q h

-- a step of a life, and those behind it
step_told : (l : ℕ) (side : Side) (s : Step) (xs : List AirStep) (a : Air) → IsGiven l a s
    → Stands side l (end_at side a) → (most : ℕ) (pdus : List CarriedPdu) (es last : List FlowEvent) (b : State)
    → flow l (end_at side a) ≡ Am b → (heard : List BearerEntry) (tx : Sender) (rx : Receiver)
    → GoesOnBy most pdus es b (logged_in l side a s b) heard tx rx
    → Stretch most (gone_on b (logged_in l side a s b) heard pdus es) last (sns_in l side xs (happens a s))
    → Stretch most es last (sns_in l side (InLife s ∷ xs) a)
step_told l side s xs a g h most pdus es last b is heard tx rx on rest =
    let cs = calls_over l (calls_at side a (InLife s)) (end_at side a) in
    subst (Stretch most es last)
    (ap (λ (sns : List ℕ). sns ++ sns_in l side xs (happens a s))
    (ap (λ (f : Flow). fails_in (parted (bearer_logs l f cs))) (sym is) ∙ sym (step_fails side l a s g h))
    ∙ sym (sns_then l side (InLife s) xs a))
    (both_told most es (gone_on b (logged_in l side a s b) heard pdus es) last
    (fails_in (parted (logged_in l side a s b))) (sns_in l side xs (happens a s))
    (goes_told most pdus es b (logged_in l side a s b) heard tx rx on) rest)

-- ---- in a life

pub record AreStretches (l : ℕ) (nb ue : State) (xs : List AirStep) (a : Air) (m last : Moment) : Type 0 where
  pub down : Stretch nb.tx_config.max_retx m.down last.down (sns_in l Nb xs a)
  pub up : Stretch ue.tx_config.max_retx m.up last.up (sns_in l Ue xs a)

are_told : (l : ℕ) (xs : List AirStep) (a : Air) (m last : Moment) → Stands Nb l a.nb.end → Stands Ue l a.ue.end
    → AreLiving l a xs → AreInLife xs → (h : AreLived l a m.pdus m.down m.up) → GoOver l xs a m last
    → AreStretches l h.nb_bearer h.ue_bearer xs a m last
are_told l [] a m last nb ue living life h over =
    subst (λ (z : Moment). AreStretches l h.nb_bearer h.ue_bearer [] a m z) over
    (record {
      down = none_told h.nb_bearer.tx_config.max_retx m.down h.beside.by_nb.follows.history;
      up = none_told h.ue_bearer.tx_config.max_retx m.up h.beside.by_ue.follows.history;
    })
are_told l (InLife s ∷ xs) a m last nb ue living life h (k, over) =
    let o = lives_go_on_beside l a s m.pdus m.down m.up k living.0 in
    let rest = are_told l xs (happens a s) _ last (step_stands Nb l a s living.0 nb)
    (step_stands Ue l a s living.0 ue) living.1 life o.lived over in
    let first = h.air.by_air.flows in
    let now = k.air.by_air.flows in
    let next = o.lived.air.by_air.flows in
    record {
      down =
          other_limit _ _ m.down last.down _
          (same_limit (flow l a.nb.end) now.down.from_bearer first.down.from_bearer _ _ now.down.from_is
          first.down.from_is k.beside.by_nb.follows.most_is h.beside.by_nb.follows.most_is)
          (step_told l Nb s xs a living.0 nb k.nb_bearer.tx_config.max_retx _ m.down last.down now.down.from_bearer
          now.down.from_is _ _ _ o.go_on.by_nb
          (other_limit _ _ _ last.down _
          (same_limit (flow l (happens a s).nb.end) next.down.from_bearer o.behind.down.from_bearer _ _
          next.down.from_is o.behind.down.from_is o.lived.beside.by_nb.follows.most_is
          o.go_on.by_nb.ends.follows.most_is) rest.down));
      up =
          other_limit _ _ m.up last.up _
          (same_limit (flow l a.ue.end) now.up.from_bearer first.up.from_bearer _ _ now.up.from_is first.up.from_is
          k.beside.by_ue.follows.most_is h.beside.by_ue.follows.most_is)
          (step_told l Ue s xs a living.0 ue k.ue_bearer.tx_config.max_retx _ m.up last.up now.up.from_bearer
          now.up.from_is _ _ _ o.go_on.by_ue
          (other_limit _ _ _ last.up _
          (same_limit (flow l (happens a s).ue.end) next.up.from_bearer o.behind.up.from_bearer _ _
          next.up.from_is o.behind.up.from_is o.lived.beside.by_ue.follows.most_is
          o.go_on.by_ue.ends.follows.most_is) rest.up));
    }
are_told l (Moves keys ∷ xs) a m last nb ue living life h over = absurd life

-- ---- the law

-- one bearer of the channel is there
pub stands_new : (side : Side) (l : ℕ) (e : End) → HasComeNew side l e → has l e.bearers ≡ true → Stands side l e
stands_new side l e h there =
    let c = h.come in
    subst (Stands side l) (sym c.end_is)
    (stands side c.maximum c.reports c.past l c.given h.new (ap (λ (z : End). has l z.bearers) (sym c.end_is) ∙ there))

pub record AreThere (l : ℕ) (a : Air) : Type 0 where
  pub nb : has l a.nb.end.bearers ≡ true
  pub ue : has l a.ue.end.bearers ≡ true

pub lived_there : (l : ℕ) (a : Air) (m : Moment) → AreLived l a m.pdus m.down m.up → AreThere l a
lived_there l a m h =
    subst (AreThere l) (sym h.there)
    (let p = both_match l h.nb h.ue h.nb_bearer h.ue_bearer h.steps h.nb_begins h.ue_begins h.given in
    record { nb = p.nb.matches.there; ue = p.ue.matches.there })

pub lives_told : (l : ℕ) (xs : List AirStep) (a : Air) (m last : Moment) → HaveComeNew l a → AreLiving l a xs
    → AreInLife xs → (h : AreLived l a m.pdus m.down m.up) → GoOver l xs a m last
    → AreStretches l h.nb_bearer h.ue_bearer xs a m last
lives_told l xs a m last new living life h over =
    let there = lived_there l a m h in
    are_told l xs a m last (stands_new Nb l a.nb.end new.nb there.nb)
    (stands_new Ue l a.ue.end new.ue there.ue) living life h over

pub lives_fail_rightly : LivesFailRightly
lives_fail_rightly l xs a m last new living life h over =
    let are = lives_told l xs a m last new living life h over in
    record { by_nb = are.down.fails; by_ue = are.up.fails }

pub records_tell_rightly : RecordsTellRightly
records_tell_rightly l told submitted said set k a m last by new life h over =
    let are = lives_fail_rightly l by.steps a m last new by.living life h over in
    record {
      by_nb = subst (λ (events : List Event). AreFailsOf h.nb_bearer.tx_config.max_retx m.down last.down
          (fails_on l events)) (sym (by.told_is Nb)) are.by_nb;
      by_ue = subst (λ (events : List Event). AreFailsOf h.ue_bearer.tx_config.max_retx m.up last.up
          (fails_on l events)) (sym (by.told_is Ue)) are.by_ue;
    }
