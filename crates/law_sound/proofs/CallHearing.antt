-- An acknowledged bearer goes along the history of its flow as its end is called.
use Rattle.std.proofs.Common.{◌≡◌, ℕ, List, [], ◌∷◌, ◌++◌, sym, ap, subst, ◌∙◌}
use Rattle.bearer.specs.Acknowledged.State.{State}
use Rattle.bearer.specs.declared.flow.Flow.{Flow as Bearer}
use Rattle.bearer.specs.declared.flow.Flow.TheVariants.{Am}
use Rattle.l2_types.specs.declared.config.AmTxConfig.{AmTxConfig}
use Rattle.l2_types.specs.declared.AmRxConfig.{AmRxConfig}
use Rattle.l2_types.specs.declared.side.Side.{Side}
use Rattle.l2_types.specs.declared.side.Side.TheVariants.{Nb, Ue}
use Rattle.journal_account.specs.FlowEvents.{FlowEvent}
use Rattle.law_bearer.specs.AnyBearer.Calls.{Call, Submit, Take, Arrive, Expire, Tick, SetDiscard, after, after_all}
use Rattle.law_deliver.specs.AmFlow.Air.{Station, goes, outset}
use Rattle.law_deliver.specs.AmFlow.Channels.{calls_of}
use Rattle.law_deliver.specs.AmFlow.Links.{IsFlowOn}
use Rattle.law_deliver.specs.AmFlow.NoPdus.{BringsNoPdu}
use Rattle.law_deliver.specs.AmFlow.Pair.{BearerEnd, called}
use Rattle.law_deliver.specs.AmFlow.Reordering.{Reordering, reordering_in}
use Rattle.law_deliver.specs.AmFlow.Ups.{tells_in, tells_over}
use Rattle.law_deliver.proofs.AmFlow.Air.{both_match}
use Rattle.law_deliver.proofs.AmFlow.Loads.{each}
use Rattle.law_deliver.proofs.AmFlow.NoPdus.{calls_bring_none}
use Rattle.law_deliver.proofs.AmFlow.Reordering.{in_both}
use Rattle.law_deliver.proofs.AmFlow.Sending.{is_called}
use Rattle.law_deliver.proofs.AmFlow.Stations.{Matches}
use Rattle.law_deliver.proofs.AmFlow.Turns.{no_block, call_goes_by}
use Rattle.law_account.specs.EndsTold.{AreEndsOf}
use Rattle.law_sound.specs.CallHearing.{BearersHearOver, HearsCalls, EndsHearCalls}
use Rattle.law_sound.specs.HearingLaws.{with_reordering, with_told, BringsNoData}
use Rattle.law_sound.proofs.Hearings.{bearers_hear, reordering_then}

-- ---- calls of the bearer

-- what the first tells stands before all else
told_first : (l : ℕ) (es : List FlowEvent) (b d : State) (c : Call) (cs : List Call) → after (Am b) c ≡ Am d
    → with_reordering (reordering_in (tells_over l (Am b) (c ∷ cs))) es
    ≡ with_reordering (reordering_in (tells_over l (Am d) cs)) (with_told l b c es)
told_first l es b d c cs q =
    ap (λ (f : Bearer). with_reordering (reordering_in (tells_in l (Am b) c ++ tells_over l f cs)) es) q
    ∙ (ap (λ (xs : List Reordering). with_reordering xs es) (in_both (tells_in l (Am b) c) (tells_over l (Am d) cs))
    ∙ reordering_then (reordering_in (tells_in l (Am b) c)) (reordering_in (tells_over l (Am d) cs)) es)

pub bearers_hear_over : BearersHearOver
bearers_hear_over most l es tx b d [] none q ends =
    let same : Am b ≡ Am d = q in let is : b ≡ d = cc in subst (λ (x : State). AreEndsOf most es tx x.rx) is ends
bearers_hear_over most l es tx b d (c ∷ cs) none q ends =
    let x : State = called b c in
    let is : after (Am b) c ≡ Am x = is_called b c in
    subst (λ (xs : List FlowEvent). AreEndsOf most xs tx d.rx) (sym (told_first l es b x c cs is))
    (bearers_hear_over most l (with_told l b c es) tx x d cs none.1
    (ap (λ (f : Bearer). after_all f cs) (sym is) ∙ q) (bearers_hear most l es tx b x c none.0 is ends))

-- ---- a call of the end

no_data : (c : Call) → BringsNoPdu c → BringsNoData c
no_data (Submit sdu) none = tt
no_data (Take share held) none = tt
no_data (Arrive octets) none = absurd none
no_data (Expire clock) none = tt
no_data Tick none = tt
no_data (SetDiscard ttis) none = tt

hears_calls : (l : ℕ) (side : Side) (sending : AmTxConfig) (receiving : AmRxConfig) (from to : Station)
    (out : IsFlowOn l sending receiving from.end to.end) (n : BearerEnd) → Matches side l to n
    → HearsCalls l sending receiving from to out
hears_calls l side sending receiving from to out n m most es c done behind ends =
    let cs : List Call = calls_of l to.end c in
    let is : after_all (Am out.to_bearer) cs ≡ Am behind.to_bearer =
    ap (λ (f : Bearer). after_all f cs) (sym out.to_is)
    ∙ (sym (call_goes_by side l to n c m done) ∙ behind.to_is) in
    bearers_hear_over most l es out.from_bearer.tx out.to_bearer behind.to_bearer cs
    (each BringsNoPdu BringsNoData no_data cs (calls_bring_none l to.end c (no_block to c done.2))) is ends

pub ends_hear_calls : EndsHearCalls
ends_hear_calls l nb ue b d steps x y given h =
    let a = goes steps (outset nb ue) in
    let p = both_match l nb ue b d steps x y given in
    record {
      at_ue = hears_calls l Ue b.tx_config d.rx_config a.nb a.ue h.down _ p.ue.matches;
      at_nb = hears_calls l Nb d.tx_config b.rx_config a.ue a.nb h.up _ p.nb.matches;
    }
