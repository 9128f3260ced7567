-- Both ends of a flow stay beside its history, step by step and through lives.
use Rattle.std.proofs.Common.{◌≡◌, ℕ, zero, suc, ◌+◌, List, [], ◌∷◌, ◌++◌, map, Option, Some, None, unwrap_or}
use Rattle.std.proofs.Common.{slice_get, Result, Ok, Err, append-nil, refl, ap, sym, subst, ◌∙◌, arith}
use Rattle.std.specs.List.{AllByRecursion}
use Rattle.bearer.specs.Acknowledged.State.{State}
use Rattle.bearer.specs.declared.flow.Flow.TheVariants.{Am}
use Rattle.bearer_types.specs.declared.event.Event.{Event}
use Rattle.bearer_types.specs.Sides.{heard_by, sent_by}
use Rattle.l2_node.specs.End.{End}
use Rattle.l2_types.specs.declared.config.AmTxConfig.{AmTxConfig}
use Rattle.l2_types.specs.declared.AmRxConfig.{AmRxConfig}
use Rattle.l2_types.specs.declared.side.Side.{Side}
use Rattle.l2_types.specs.declared.side.Side.TheVariants.{Nb, Ue}
use Rattle.mac_pdu.specs.declared.item.Direction.{Direction}
use Rattle.rlc_am_rx.specs.State.{State as Receiver}
use Rattle.rlc_am_tx.specs.Machine.{State as Sender}
use Rattle.journal_account.specs.Acked.{ignored_in}
use Rattle.journal_account.specs.FlowEvents.{FlowEvent, IsHistory, ReorderStarted, ReorderExpired}
use Rattle.journal_failure.specs.RightFailure.{AreFailsOf}
use Rattle.promises.specs.Pdus.{carried}
use Rattle.law_rlc.specs.AmPair.Flow.{Flow}
use Rattle.law_bearer.specs.AnyBearer.Calls.{Call as BearerCall}
use Rattle.law_deliver.specs.AmChannel.Lives.{InLife, Moves, lives_on, brought, calls_by}
use Rattle.law_deliver.specs.AmFlow.Air.{Block, Station, Air, Act, Calls, Comes, Goes, AtNb, AtUe, Passes, Step, comes}
use Rattle.law_deliver.specs.AmFlow.Air.{does, happens, goes, outset, IsDone, IsGiven, AreGiven, Begins}
use Rattle.law_deliver.specs.AmFlow.Carrying.{CarriedPdu, Numbered, Reported, pdu_octets, Carried, behind_step}
use Rattle.law_deliver.specs.AmFlow.Carrying.{carried_behind, carries_none, CarriesAs, AllCarryAs, AreCarried}
use Rattle.law_deliver.specs.AmFlow.Channels.{calls_of}
use Rattle.law_deliver.specs.AmFlow.Flows.{BeginsLife}
use Rattle.law_deliver.specs.AmFlow.Links.{IsFlowOn, AreFlowsOn}
use Rattle.law_deliver.specs.AmFlow.Reordering.{Reordering, Starts, Expires, reordering_in}
use Rattle.law_deliver.specs.AmFlow.UnderWay.{flow_on}
use Rattle.law_deliver.specs.AmFlow.Ups.{calls_over, tells_over}
use Rattle.law_deliver.proofs.AmFlow.Air.{BothMatch, both_match}
use Rattle.law_deliver.proofs.AmFlow.Carrying.{numbers_stay}
use Rattle.law_deliver.proofs.AmFlow.Links.{same_bearer}
use Rattle.law_deliver.proofs.AmFlow.Lives.{begins_again}
use Rattle.law_deliver.proofs.AmFlow.NoPdus.{calls_bring_none}
use Rattle.law_deliver.proofs.AmFlow.Stations.{come_side}
use Rattle.law_deliver.proofs.AmFlow.Turns.{no_block}
use Rattle.law_account.specs.EndsTold.{AreEndsOf}
use Rattle.law_run.specs.TwoEnds.ChannelLog.{come_in, told_in, parted}
use Rattle.law_run.specs.TwoEnds.SenderLog.{BearerEntry, Tells, Writes, Comes, bearer_logs}
use Rattle.rlc_pdu.specs.declared.fault.RlcRefusal.{RlcRefusal}
use Rattle.rlc_pdu.specs.Pdus.{AcknowledgedPdu, Payload, Status as Control}
use Rattle.rlc_pdu.specs.Reading.{am_at}
use Rattle.law_run.proofs.ChannelLogs.{told_logs, come_logs, come_by, arrivals_come}
use Rattle.law_sound.specs.AirSending.{GoOnByLog}
use Rattle.law_sound.specs.CallHearing.{HearsCalls, HearCallsByAir}
use Rattle.law_sound.specs.CarriedLaws.{with_read, with_data, with_all_data, BlocksBring, BringByAir}
use Rattle.law_sound.specs.HearingLaws.{with_reordering, arrivals}
use Rattle.law_sound.specs.IgnoredLaws.{ComesNone, told_ignored}
use Rattle.law_sound.specs.LogLaws.{fails_in}
use Rattle.law_sound.specs.LivedHistories.{gone_on, GoesOnBy, AreBeside, GoOn, EndsGoOnByAir, AreLived}
use Rattle.law_sound.specs.LivedHistories.{NewBlocksAreTrue, LivesWriteTruly, LivesGoOver, comes_in}
use Rattle.law_sound.specs.LivedHistories.{LivesBeginBeside, MovesBeginBeside, LiveOn, LivesGoOnBeside}
use Rattle.law_sound.proofs.AirBlocks.{goes_last, given_last}
use Rattle.law_sound.proofs.AirHearing.{lives_begin}
use Rattle.law_sound.proofs.AirSending.{ends_send_by_air}
use Rattle.law_sound.proofs.BlockStatuses.{ends_write_truly}
use Rattle.law_sound.proofs.CallHearing.{ends_hear_calls}
use Rattle.law_sound.proofs.CarriedBlocks.{carried_pdus_come}
use Rattle.law_sound.proofs.HearingFails.{heard_only, heard_fail_none}
use Rattle.law_sound.proofs.IgnoredLogs.{calls_none}

-- ---- logs of the end that hears

none_come : (log : List BearerEntry) → AllByRecursion ComesNone log → come_in log ≡ []
none_come [] none = refl
none_come (Tells e ∷ log) none = none_come log none.1
none_come (Writes octets ∷ log) none = none_come log none.1
none_come (Comes octets ∷ log) none = absurd none.0

-- ---- what the end that hears adds ignores no STATUS

timer_ignores : (rs : List Reordering) (es : List FlowEvent) → ignored_in (with_reordering rs es) ≡ ignored_in es
timer_ignores [] es = refl
timer_ignores (Starts ∷ rs) es = timer_ignores rs (ReorderStarted ∷ es)
timer_ignores (Expires ∷ rs) es = timer_ignores rs (ReorderExpired ∷ es)

data_ignores : (p : CarriedPdu) (es : List FlowEvent) → ignored_in (with_data p es) ≡ ignored_in es
data_ignores (Reported r) es = refl
data_ignores (Numbered c) es = by (am_at c.octets)
  where
    by : (r : Result AcknowledgedPdu RlcRefusal) → ignored_in (with_read c r es) ≡ ignored_in es
    by (Ok (Payload pdu)) = refl
    by (Ok (Control pdu)) = refl
    by (Err refused) = refl

pdus_ignore : (ps : List CarriedPdu) (es : List FlowEvent) → ignored_in (with_all_data ps es) ≡ ignored_in es
pdus_ignore [] es = refl
pdus_ignore (p ∷ ps) es = pdus_ignore ps (with_data p es) ∙ data_ignores p es

heard_ignores : (rs : List Reordering) (ps : List CarriedPdu) (es : List FlowEvent)
    → ignored_in (with_reordering rs (with_all_data ps es)) ≡ ignored_in es + 0
heard_ignores rs ps es =
    let timer = timer_ignores rs (with_all_data ps es) in
    let pdus = pdus_ignore ps es in
    omega (arith, timer, pdus)

-- ---- what a block under way carries

-- beside a block, and beside none
pub record Own (l : ℕ) (d : Direction) (f g : Flow) (pdus : List (List CarriedPdu)) (k : ℕ)
    (block : Block) : Type 0 where
  pub own : List CarriedPdu
  pub there : slice_get pdus k ≡ Some own
  pub carries : CarriesAs l d f g block own

module _ (l : ℕ) (d : Direction) (f g : Flow) where
  pub own_at : (bs : List Block) (pdus : List (List CarriedPdu)) (k : ℕ) (block : Block) → AllCarryAs l d f g bs pdus
      → slice_get bs k ≡ Some block → Own l d f g pdus k block
  own_at [] pdus k block h at = let no : None ≡ Some block = at in absurd cc
  own_at (b ∷ bs) [] k block h at = absurd h
  own_at (b ∷ bs) (ps ∷ pdus) zero block h at =
      let same : Some b ≡ Some block = at in
      let is : b ≡ block = cc in
      record { own = ps; there = refl; carries = subst (λ (x : Block). CarriesAs l d f g x ps) is h.0 }
  own_at (b ∷ bs) (ps ∷ pdus) (suc k) block h at =
      let more = own_at bs pdus k block h.1 at in
      record { own = more.own; there = more.there; carries = more.carries }

  pub none_at : (bs : List Block) (pdus : List (List CarriedPdu)) (k : ℕ) → AllCarryAs l d f g bs pdus
      → slice_get bs k ≡ None → slice_get pdus k ≡ None
  none_at [] [] k h at = refl
  none_at [] (ps ∷ pdus) k h at = absurd h
  none_at (b ∷ bs) [] k h at = absurd h
  none_at (b ∷ bs) (ps ∷ pdus) zero h at = let no : Some b ≡ None = at in absurd cc
  none_at (b ∷ bs) (ps ∷ pdus) (suc k) h at = none_at bs pdus k h.1 at

-- ---- one direction

module _ (l : ℕ) (side oside : Side) (dir : heard_by oside ≡ sent_by side) (sending : AmTxConfig)
    (receiving : AmRxConfig) (from to : Station) (out : IsFlowOn l sending receiving from.end to.end) (most : ℕ)
    (es : List FlowEvent) (ends : AreEndsOf most es out.from_bearer.tx out.to_bearer.rx) where
  abbrev b : State
  b = out.from_bearer

  abbrev d : State
  d = out.to_bearer

  -- nothing comes
  quiet : (sent : List BearerEntry) (tx : Sender) (rx : Receiver) → AreEndsOf most (gone_on b sent [] [] es) tx rx
      → AreFailsOf most es (gone_on b sent [] [] es) (fails_in (parted sent))
      → ignored_in (gone_on b sent [] [] es) ≡ ignored_in es + told_ignored (parted sent)
      → GoesOnBy most [] es b sent [] tx rx
  quiet sent tx rx now told same = record { come = refl; ends = now; fails = told; ignored = same }

  -- the sender's end acts
  sends : (z : End) (sent : List BearerEntry) (behind : IsFlowOn l sending receiving z to.end)
      → GoOnByLog most es b behind.from_bearer.tx d.rx (parted sent)
      → GoesOnBy most [] es b sent [] behind.from_bearer.tx behind.to_bearer.rx
  sends z sent behind h =
      quiet sent behind.from_bearer.tx behind.to_bearer.rx
      (subst (λ (x : State). AreEndsOf most (gone_on b sent [] [] es) behind.from_bearer.tx x.rx)
      (same_bearer _ d behind.to_bearer out.to_is behind.to_is) h.ends) h.fails h.ignored

  -- a call of the receiver's end
  sender_same : (z : End) (behind : IsFlowOn l sending receiving from.end z) → behind.from_bearer ≡ b
  sender_same z behind = same_bearer _ behind.from_bearer b behind.from_is out.from_is

  told_is : (cs : List BearerCall) → told_in (bearer_logs l (Am d) (cs ++ [])) ≡ tells_over l (Am d) cs
  told_is cs =
      told_logs l (cs ++ []) (Am d)
      ∙ ap (λ (xs : List BearerCall). tells_over l (Am d) xs) (append-nil cs)

  heard_so : (z : End) (behind : IsFlowOn l sending receiving from.end z) (cs : List BearerCall)
      (pdus : List CarriedPdu) → come_by cs ≡ map pdu_octets pdus
      → AreEndsOf most (with_reordering (reordering_in (tells_over l (Am d) cs)) (with_all_data pdus es)) b.tx
      behind.to_bearer.rx
      → GoesOnBy most pdus es b [] (bearer_logs l (Am d) (cs ++ [])) behind.from_bearer.tx behind.to_bearer.rx
  heard_so z behind cs pdus are now = record {
    come = come_logs l (cs ++ []) (Am d) ∙ (ap come_by (append-nil cs) ∙ are);
    ends = subst (λ (x : State). AreEndsOf most (gone_on b [] (bearer_logs l (Am d) (cs ++ [])) pdus es) x.tx
        behind.to_bearer.rx) (sym (sender_same z behind))
        (subst (λ (told : List Event). AreEndsOf most (with_reordering (reordering_in told) (with_all_data pdus es))
        b.tx behind.to_bearer.rx) (sym (told_is cs)) now);
    fails =
        let rs = reordering_in (told_in (bearer_logs l (Am d) (cs ++ []))) in
        heard_fail_none most es (with_reordering rs (with_all_data pdus es)) (heard_only rs pdus es)
        (subst (λ (told : List Event). IsHistory (with_reordering (reordering_in told) (with_all_data pdus es)))
        (sym (told_is cs)) now.follows.history);
    ignored = heard_ignores (reordering_in (told_in (bearer_logs l (Am d) (cs ++ [])))) pdus es;
  }

  rests : (z : End) (behind : IsFlowOn l sending receiving from.end z) → behind.to_bearer ≡ d
      → GoesOnBy most [] es b [] [] behind.from_bearer.tx behind.to_bearer.rx
  rests z behind same =
      quiet [] behind.from_bearer.tx behind.to_bearer.rx
      (subst (λ (x : State). AreEndsOf most es x.tx behind.to_bearer.rx) (sym (sender_same z behind))
      (subst (λ (x : State). AreEndsOf most es b.tx x.rx) (sym same) ends))
      (heard_fail_none most es es (heard_only [] [] es) ends.follows.history) (omega arith)

  module _ (pdus : List (List CarriedPdu)) (g : Flow)
      (carry : AllCarryAs l (sent_by side) (flow_on l sending receiving from.end to.end out) g from.blocks pdus)
      (blocks : BlocksBring l sending receiving from to out pdus) (own : HearsCalls l sending receiving from to out)
      (to_side : to.end.side ≡ oside) where
    abbrev Hears : List CarriedPdu → List BearerCall → (z : End) → IsFlowOn l sending receiving from.end z → Type 0
    Hears ps cs z behind =
        GoesOnBy most ps es b [] (bearer_logs l (Am d) cs) behind.from_bearer.tx behind.to_bearer.rx

    comes_so : (o : Option Block) (k : ℕ) → slice_get from.blocks k ≡ o
        → (behind : IsFlowOn l sending receiving from.end (comes to o).end)
        → Hears (unwrap_or (slice_get pdus k) []) (calls_over l (brought o) to.end) (comes to o).end behind
    comes_so None k at behind =
        subst (λ (x : Option (List CarriedPdu)). Hears (unwrap_or x []) [] to.end behind)
        (sym (none_at l (sent_by side) _ g from.blocks pdus k carry at))
        (rests _ behind (same_bearer _ behind.to_bearer d behind.to_is out.to_is))
    comes_so (Some block) k at behind =
        let h = own_at l (sent_by side) _ g from.blocks pdus k block carry at in
        let cs : List BearerCall = arrivals (map pdu_octets h.own) in
        let way : carried l (heard_by to.end.side) block.octets ≡ map pdu_octets h.own =
        ap (λ (x : Direction). carried l x block.octets) (ap heard_by to_side ∙ dir) ∙ h.carries.carries in
        subst (λ (x : Option (List CarriedPdu)).
        Hears (unwrap_or x []) (calls_over l (brought (Some block)) to.end) _ behind) (sym h.there)
        (subst (λ (xs : List (List ℕ)). Hears h.own (arrivals xs ++ []) _ behind) (sym way)
        (heard_so _ behind cs h.own (arrivals_come (map pdu_octets h.own))
        ((blocks k block h.own at h.there).data_pdus most es behind ends)))

    hears : (x : Act) → IsDone l to x → (behind : IsFlowOn l sending receiving from.end (does from to x).end)
        → Hears (comes_in x pdus) (calls_over l (calls_by from x) to.end) _ behind
    hears (Calls c) done behind =
        let cs : List BearerCall = calls_of l to.end c in
        heard_so _ behind cs []
        (sym (come_logs l cs (Am d))
        ∙ none_come (bearer_logs l (Am d) cs)
        (calls_none l (Am d) cs (calls_bring_none l to.end c (no_block to c done.2)))) (own most es c done behind ends)
    hears (Comes k) done behind = comes_so (slice_get from.blocks k) k refl behind
    hears (Goes k) done behind = rests _ behind (same_bearer _ behind.to_bearer d behind.to_is out.to_is)

-- ---- a step

pub ends_go_on : EndsGoOnByAir
ends_go_on l nb ue b d steps s x y given g h behind down up now = by s g behind
  where
    a : Air
    a = goes steps (outset nb ue)

    c : Carried
    c = carried_behind l steps (outset nb ue) carries_none

    p : BothMatch l b d (goes steps (outset nb ue)) (carried_behind l steps (outset nb ue) carries_none)
    p = both_match l nb ue b d steps x y given

    blocks : BringByAir l b d (goes steps (outset nb ue)) (carried_behind l steps (outset nb ue) carries_none) h
    blocks = carried_pdus_come l nb ue b d steps x y given h

    own : HearCallsByAir l b d (goes steps (outset nb ue)) h.by_air.flows
    own = ends_hear_calls l nb ue b d steps x y given h.by_air.flows

    by : (s : Step) → IsGiven l (goes steps (outset nb ue)) s
        → (behind : AreFlowsOn l b d (happens (goes steps (outset nb ue)) s))
        → GoOn l b d (goes steps (outset nb ue)) s (carried_behind l steps (outset nb ue) carries_none) h.by_air.flows
        behind down up
    by (AtNb act) g behind =
        let sent = ends_send_by_air l nb ue b d steps (AtNb act) x y given g h.by_air behind in
        record {
          by_nb = sends l Nb Ue refl b.tx_config d.rx_config a.nb a.ue h.by_air.flows.down _ down now.by_nb _ _
              behind.down (sent.by_nb _ down now.by_nb);
          by_ue = hears l Ue Nb refl d.tx_config b.rx_config a.ue a.nb h.by_air.flows.up _ up now.by_ue c.ue _ h.by_ue
              blocks.at_nb own.at_nb (come_side Nb a.nb.end p.nb.matches.come) act g behind.up;
        }
    by (AtUe act) g behind =
        let sent = ends_send_by_air l nb ue b d steps (AtUe act) x y given g h.by_air behind in
        record {
          by_nb = hears l Nb Ue refl b.tx_config d.rx_config a.nb a.ue h.by_air.flows.down _ down now.by_nb c.nb _
              h.by_nb blocks.at_ue own.at_ue (come_side Ue a.ue.end p.ue.matches.come) act g behind.down;
          by_ue = sends l Ue Nb refl d.tx_config b.rx_config a.ue a.nb h.by_air.flows.up _ up now.by_ue _ _ behind.up
              (sent.by_ue _ up now.by_ue);
        }
    by Passes g behind = record {
      by_nb = rests l Nb Ue refl b.tx_config d.rx_config a.nb a.ue h.by_air.flows.down _ down now.by_nb _ behind.down
          (same_bearer _ behind.down.to_bearer _ behind.down.to_is h.by_air.flows.down.to_is);
      by_ue = rests l Ue Nb refl d.tx_config b.rx_config a.ue a.nb h.by_air.flows.up _ up now.by_ue _ behind.up
          (same_bearer _ behind.up.to_bearer _ behind.up.to_is h.by_air.flows.up.to_is);
    }

-- ---- through lives

carried_last : (l : ℕ) (xs : List Step) (s : Step) (a : Air) (c : Carried)
    → carried_behind l (xs ++ s ∷ []) a c ≡ behind_step l (goes xs a) s (carried_behind l xs a c)
carried_last l [] s a c = refl
carried_last l (x ∷ xs) s a c = carried_last l xs s (happens a x) (behind_step l a x c)

life_goes_on : (l : ℕ) (nb ue : End) (b d : State) (steps : List Step) (s : Step) (down up : List FlowEvent)
    → Begins Nb l nb b → Begins Ue l ue d → AreGiven l (outset nb ue) steps
    → (h : AreCarried l b d (goes steps (outset nb ue)) (carried_behind l steps (outset nb ue) carries_none))
    → AreBeside l b d (goes steps (outset nb ue)) h.by_air.flows down up → IsGiven l (goes steps (outset nb ue)) s
    → LiveOn l (goes steps (outset nb ue)) s (carried_behind l steps (outset nb ue) carries_none) down up b d
    h.by_air.flows
life_goes_on l nb ue b d steps s down up x y given h now g =
    let last = goes_last steps s (outset nb ue) in
    let same = carried_last l steps s (outset nb ue) carries_none in
    let more = given_last l steps s (outset nb ue) given g in
    let next : AreCarried l b d (happens (goes steps (outset nb ue)) s)
    (behind_step l (goes steps (outset nb ue)) s (carried_behind l steps (outset nb ue) carries_none)) =
    subst (λ (z : Air). AreCarried l b d z
    (behind_step l (goes steps (outset nb ue)) s (carried_behind l steps (outset nb ue) carries_none))) last
    (subst (AreCarried l b d (goes (steps ++ s ∷ []) (outset nb ue))) same
    (numbers_stay l nb ue b d (steps ++ s ∷ []) x y more)) in
    let on = ends_go_on l nb ue b d steps s x y given g h next.by_air.flows down up now in
    record {
      behind = next.by_air.flows;
      go_on = on;
      lived = record {
        nb = nb;
        ue = ue;
        nb_bearer = b;
        ue_bearer = d;
        nb_begins = x;
        ue_begins = y;
        steps = steps ++ s ∷ [];
        given = more;
        there = sym last;
        carried_is = sym same;
        air = next;
        beside = record { by_nb = on.by_nb.ends; by_ue = on.by_ue.ends };
      };
    }

pub lives_go_on_beside : LivesGoOnBeside
lives_go_on_beside l a s c down up h g =
    subst (λ (z : Air). (air : AreCarried l h.nb_bearer h.ue_bearer z c)
    → AreBeside l h.nb_bearer h.ue_bearer z air.by_air.flows down up → IsGiven l z s
    → LiveOn l z s c down up h.nb_bearer h.ue_bearer air.by_air.flows) (sym h.there)
    (subst (λ (k : Carried). (air : AreCarried l h.nb_bearer h.ue_bearer (goes h.steps (outset h.nb h.ue)) k)
    → AreBeside l h.nb_bearer h.ue_bearer (goes h.steps (outset h.nb h.ue)) air.by_air.flows down up
    → IsGiven l (goes h.steps (outset h.nb h.ue)) s
    → LiveOn l (goes h.steps (outset h.nb h.ue)) s k down up h.nb_bearer h.ue_bearer air.by_air.flows)
    (sym h.carried_is)
    (λ air beside given. life_goes_on l h.nb h.ue h.nb_bearer h.ue_bearer h.steps s down up h.nb_begins h.ue_begins
    h.given air beside given)) h.air h.beside g

pub lives_begin_beside : LivesBeginBeside
lives_begin_beside l nb ue b d x y =
    let air = numbers_stay l nb ue b d [] x y tt in
    let down = air.by_air.flows.down in
    let up = air.by_air.flows.up in
    record {
      nb = nb;
      ue = ue;
      nb_bearer = b;
      ue_bearer = d;
      nb_begins = x;
      ue_begins = y;
      steps = [];
      given = tt;
      there = refl;
      carried_is = refl;
      air = air;
      beside = record {
        by_nb = first b d down.from_bearer down.to_bearer
            (same_bearer _ b down.from_bearer x.bearer_is down.from_is)
            (same_bearer _ d down.to_bearer y.bearer_is down.to_is) x.life y.life;
        by_ue = first d b up.from_bearer up.to_bearer (same_bearer _ d up.from_bearer y.bearer_is up.from_is)
            (same_bearer _ b up.to_bearer x.bearer_is up.to_is) y.life x.life;
      };
    }
  where
    first : (from to p q : State) → from ≡ p → to ≡ q → BeginsLife from → BeginsLife to
        → AreEndsOf from.tx_config.max_retx [] p.tx q.rx
    first from to p q from_is to_is h k =
        subst (λ (z : State). AreEndsOf from.tx_config.max_retx [] z.tx q.rx) from_is
        (subst (λ (z : State). AreEndsOf from.tx_config.max_retx [] from.tx z.rx) to_is (lives_begin from to h k))

pub moves_begin_beside : MovesBeginBeside
moves_begin_beside l a c down up keys h =
    subst (λ (z : Air). AreLived l (lives_on z (Moves keys)) carries_none [] []) (sym h.there)
    (let now = goes h.steps (outset h.nb h.ue) in
    let p = both_match l h.nb h.ue h.nb_bearer h.ue_bearer h.steps h.nb_begins h.ue_begins h.given in
    let nb = p.nb.matches in
    let ue = p.ue.matches in
    let x = begins_again Nb l now.nb.end _ keys nb.come nb.there nb.bearer_is in
    let y = begins_again Ue l now.ue.end _ keys ue.come ue.there ue.bearer_is in
    lives_begin_beside l _ _ x.bearer y.bearer x.begins y.begins)

pub lives_go_over : LivesGoOver
lives_go_over l [] a m h living = record { last = m; over = refl; lived = h }
lives_go_over l (InLife s ∷ xs) a m h living =
    let o = lives_go_on_beside l a s m.pdus m.down m.up h living.0 in
    let more = lives_go_over l xs (happens a s) (record { pdus = _; down = _; up = _ }) o.lived living.1 in
    record { last = more.last; over = (h, more.over); lived = more.lived }
lives_go_over l (Moves keys ∷ xs) a m h living =
    let more = lives_go_over l xs (lives_on a (Moves keys)) (record { pdus = carries_none; down = []; up = [] })
    (moves_begin_beside l a m.pdus m.down m.up keys h) living.1 in
    record { last = more.last; over = more.over; lived = more.lived }

-- ---- a new block

pub lives_write_truly : LivesWriteTruly
lives_write_truly l a c down up h =
    subst (λ (z : Air). (air : AreCarried l h.nb_bearer h.ue_bearer z c)
    → AreBeside l h.nb_bearer h.ue_bearer z air.by_air.flows down up → NewBlocksAreTrue l z down up) (sym h.there)
    (λ air now. let w = ends_write_truly l h.nb h.ue h.nb_bearer h.ue_bearer h.steps h.nb_begins h.ue_begins h.given
    air.by_air.flows in
    record {
      by_nb = λ next call done. w.at_nb _ next up call done now.by_ue;
      by_ue = λ next call done. w.at_ue _ next down call done now.by_nb;
    }) h.air h.beside
