-- Links at rest, and where a channel begins.
use Rattle.std.proofs.Common.{◌≡◌, ℕ, Bool, true, false, true≢false, Option, Some, None, List, [], ◌∷◌, ◌++◌, refl, ap}
use Rattle.std.proofs.Common.{sym, subst, arith, ◌∙◌}
use Rattle.std.proofs.lemmas.Bool.Decides.{nat_tests}
use Rattle.air_link.specs.Lines.{submits_by, submitting}
use Rattle.air_link.specs.Link.{Link, end_of, fresh}
use Rattle.air_record.specs.declared.record.Record.{Record}
use Rattle.bearer.specs.Bearer.{flow_of}
use Rattle.bearer_types.specs.Configs.{IsConfig}
use Rattle.bearer_types.specs.declared.config.BearerConfig.{BearerConfig}
use Rattle.eps_sec.specs.declared.Keys.{Keys}
use Rattle.harq.specs.Sending.{Block as HeldBlock}
use Rattle.l2_node.specs.End.{End, fresh as fresh_end}
use Rattle.l2_bits.specs.declared.fault.SubmitRefusal.{SubmitRefusal}
use Rattle.l2_node.specs.Finding.{has}
use Rattle.l2_node.specs.Submitting.{refusal, submitted}
use Rattle.l2_types.specs.declared.side.Side.{Side}
use Rattle.l2_types.specs.declared.side.Side.TheVariants.{Nb, Ue}
use Rattle.law_node.specs.Bearers.{adds}
use Rattle.law_node.specs.Calls.{Call as EndCall, Add, Submit, IsGiven as IsGivenTo, AreGiven as AreGivenTo}
use Rattle.law_node.specs.Calls.{after as after_call, run_end}
use Rattle.law_node.proofs.Living.{go_on, reached_side, added}
use Rattle.law_run.specs.AnyCalls.Calls.{Call, Bears, Discards, Visits, Reports, Listens, Loops, Expires, Forges}
use Rattle.law_run.specs.AnyCalls.Calls.{HandsOver, ReceiversExpire, SendersExpire, after}
use Rattle.law_run.specs.AnyCalls.Deeds.{Entities, entities, left}
use Rattle.law_run.specs.AnyCalls.Ends.{ByCalls, IsGiven, known}
use Rattle.law_run.proofs.AnyCalls.Advancing.{call_goes_on}
use Rattle.law_run.proofs.AnyCalls.Going.{run_on, given_on}
use Rattle.law_run.proofs.AnyCalls.Leaving.{calls_leave}
use Rattle.law_deliver.specs.AmFlow.Air.{begins, HasCome}
use Rattle.law_deliver.specs.AmFlow.Ups.{AreNew}
use Rattle.law_deliver.proofs.AmFlow.Stations.{come_more}
use Rattle.law_deliver.specs.AmChannel.Delivery.{HasBegun}
use Rattle.law_run.specs.TwoEnds.Lives.{IsAtRest, IsFew}
use Rattle.law_run.specs.TwoEnds.On.{until, block_at, IsStation}
use Rattle.law_run.proofs.TwoEnds.Moving.{IsEmpty, fresh_empty, begun}
use Rattle.law_run.proofs.TwoEnds.Resting.{submit_is}

-- ---- what a link at rest holds

none_of : (o : Option HeldBlock) → ((o ≡ None → ⊥) → ⊥) → o ≡ None
none_of None n = refl
none_of (Some b) n = absurd (n (λ e. cc))

rest_empty : (side : Side) (w : ℕ → ℕ) (e : End) → IsStation side w (begins e) → IsEmpty e.sender
rest_empty side w e h = record { some = h.some; few = h.few; none = λ p. none_of (block_at e.sender p) (h.flying p) }

-- ---- at rest

at_rest : (k : Link) → HasCome Nb k.nb → HasCome Ue k.ue → IsEmpty k.nb.sender → IsEmpty k.ue.sender → IsAtRest k
at_rest k nb_come ue_come nb ue = record {
  nb_is = refl;
  ue_is = refl;
  nb = begun Nb (until k.ttis) k.nb nb_come nb;
  ue = begun Ue (until k.ttis) k.ue ue_come ue;
  nb_idle = refl;
  ue_idle = refl;
}

fresh_come : (side : Side) (maximum : ℕ) (reports : Bool) → HasCome side (fresh_end side maximum reports)
fresh_come side maximum reports = record { maximum = maximum; reports = reports; past = []; given = tt; end_is = refl }

pub first_rests : IsAtRest fresh
unfolding fresh fresh_end
first_rests =
    at_rest fresh (fresh_come Nb 4 false) (fresh_come Ue 4 false) (fresh_empty 4 (omega arith) (omega arith))
    (fresh_empty 4 (omega arith) (omega arith))

come_on : (side : Side) (told : List Record) (e f : End) → ByCalls side told e f → HasCome side e → HasCome side f
come_on side told e f by h = record {
  maximum = h.maximum;
  reports = h.reports;
  past = h.past ++ by.calls;
  given = given_on h.past by.calls h.given by.given;
  end_is = by.end_is ∙ ap (run_end by.calls) h.end_is
      ∙ sym (run_on h.past by.calls (fresh_end side h.maximum h.reports));
}

-- another number of visits, or a handover, empties them anew
left_empty : (c : Call) (e : Entities) → IsGiven c → IsFew c → IsEmpty e.nb.sender → IsEmpty e.ue.sender
    → IsEmpty (left c e).nb.sender × IsEmpty (left c e).ue.sender
left_empty (Bears config keys) e g few nb ue = (nb, ue)
left_empty (Discards lcid ttis) e g few nb ue = (nb, ue)
left_empty (Visits maximum) e g few nb ue = (fresh_empty maximum g few, fresh_empty maximum g few)
left_empty Reports e g few nb ue = (nb, ue)
left_empty (Listens c) e g few nb ue = (nb, ue)
left_empty (Loops mode) e g few nb ue = (nb, ue)
left_empty (Expires side lcid clock) e g few nb ue = (nb, ue)
left_empty (Forges side block) e g few nb ue = (nb, ue)
left_empty (HandsOver keys) e g few nb ue =
    (fresh_empty e.nb.sender.maximum nb.some nb.few, fresh_empty e.ue.sender.maximum ue.some ue.few)
left_empty ReceiversExpire e g few nb ue = (nb, ue)
left_empty SendersExpire e g few nb ue = (nb, ue)

-- how PDUs are shown is no end's
known_nb : (c : Call) (k : Link) → (known c k).nb ≡ k.nb
known_nb (Bears config keys) k = refl
known_nb (Discards lcid ttis) k = refl
known_nb (Visits maximum) k = refl
known_nb Reports k = refl
known_nb (Listens c) k = refl
known_nb (Loops mode) k = refl
known_nb (Expires side lcid clock) k = refl
known_nb (Forges side block) k = refl
known_nb (HandsOver keys) k = refl
known_nb ReceiversExpire k = refl
known_nb SendersExpire k = refl

known_ue : (c : Call) (k : Link) → (known c k).ue ≡ k.ue
known_ue (Bears config keys) k = refl
known_ue (Discards lcid ttis) k = refl
known_ue (Visits maximum) k = refl
known_ue Reports k = refl
known_ue (Listens c) k = refl
known_ue (Loops mode) k = refl
known_ue (Expires side lcid clock) k = refl
known_ue (Forges side block) k = refl
known_ue (HandsOver keys) k = refl
known_ue ReceiversExpire k = refl
known_ue SendersExpire k = refl

pub calls_rest : (c : Call) (k : Link) → IsGiven c → IsFew c → IsAtRest k → IsAtRest (after c k)
calls_rest c k g few h =
    let m = after c k in
    let by = call_goes_on c k g in
    let is = calls_leave c k in
    let empty' = left_empty c (entities k) g few (rest_empty Nb (until k.ttis) k.nb h.nb)
    (rest_empty Ue (until k.ttis) k.ue h.ue) in
    at_rest m (come_on Nb by.more k.nb m.nb (subst (λ (e : End). ByCalls Nb by.more e m.nb) (known_nb c k) by.nb.by)
    h.nb.come)
    (come_on Ue by.more k.ue m.ue (subst (λ (e : End). ByCalls Ue by.more e m.ue) (known_ue c k) by.ue.by) h.ue.come)
    (subst (λ (e : Entities). IsEmpty e.nb.sender) (sym is) empty'.0)
    (subst (λ (e : Entities). IsEmpty e.ue.sender) (sym is) empty'.1)

-- an SDU changes bearers alone
by_submitting : (side : Side) (e : End) (lcid : ℕ) (sdu : List ℕ) → refusal lcid sdu e ≡ None → HasCome side e
    → HasCome side (submitted lcid sdu e)
by_submitting side e lcid sdu allowed h =
    subst (HasCome side) (sym (submit_is lcid sdu e allowed)) (come_more side e (Submit lcid sdu) h tt)

submitted_rest : (broken : Option SubmitRefusal) (side : Side) (lcid : ℕ) (sdu : List ℕ) (k : Link)
    → refusal lcid sdu (end_of side k) ≡ broken → IsAtRest k → IsAtRest (submits_by broken side lcid sdu k)
unfolding submitted
submitted_rest (Some broken) side lcid sdu k e h =
    record { nb_is = refl; ue_is = refl; nb = h.nb; ue = h.ue; nb_idle = refl; ue_idle = refl }
submitted_rest None Nb lcid sdu k e h =
    at_rest (submits_by None Nb lcid sdu k) (by_submitting Nb k.nb lcid sdu e h.nb.come) h.ue.come
    (rest_empty Nb (until k.ttis) k.nb h.nb) (rest_empty Ue (until k.ttis) k.ue h.ue)
submitted_rest None Ue lcid sdu k e h =
    at_rest (submits_by None Ue lcid sdu k) h.nb.come (by_submitting Ue k.ue lcid sdu e h.ue.come)
    (rest_empty Nb (until k.ttis) k.nb h.nb) (rest_empty Ue (until k.ttis) k.ue h.ue)

pub submissions_rest : (side : Side) (lcid : ℕ) (sdu : List ℕ) (k : Link) → IsAtRest k
    → IsAtRest (submitting side lcid sdu k)
unfolding submitting
submissions_rest side lcid sdu k h = submitted_rest (refusal lcid sdu (end_of side k)) side lcid sdu k refl h

-- ---- an end without a bearer of a channel has never had one

pub added_there : (l : ℕ) (e : End) (c : EndCall) → adds l c ≡ true → has l (after_call e c).bearers ≡ true
added_there l e (Add config keys) h =
    let same : config.channel.lcid ≡ l = grind (arith, nat_tests) in
    ap (λ (n : ℕ). has n (after_call e (Add config keys)).bearers) (sym same) ∙ (added e config keys).there
added_there l e c h = cc

pub there_by : (b : Bool) (side : Side) (l : ℕ) (e : End) (c : EndCall) → adds l c ≡ b → HasCome side e → IsGivenTo c
    → has l e.bearers ≡ true → has l (after_call e c).bearers ≡ true
there_by true side l e c is h g there = added_there l e c is
there_by false side l e c is h g there =
    let on = go_on side h.maximum h.reports h.past (c ∷ []) l h.given (g, tt)
    (subst (λ (x : End). has l x.bearers ≡ true) h.end_is there) (is, tt) in
    ap (λ (x : End). has l (after_call x c).bearers) h.end_is ∙ on.there

pub stays_there : (side : Side) (l : ℕ) (cs : List EndCall) (e : End) → HasCome side e → AreGivenTo cs
    → has l e.bearers ≡ true → has l (run_end cs e).bearers ≡ true
stays_there side l [] e h g there = there
stays_there side l (c ∷ cs) e h g there =
    stays_there side l cs (after_call e c) (come_more side e c h g.0) g.1
    (there_by (adds l c) side l e c refl h g.0 there)

none_by : (b : Bool) (side : Side) (l : ℕ) (c : EndCall) (cs : List EndCall) (e : End) → adds l c ≡ b → HasCome side e
    → AreGivenTo (c ∷ cs) → has l (run_end (c ∷ cs) e).bearers ≡ false → adds l c ≡ false
none_by false side l c cs e is h g none = is
none_by true side l c cs e is h g none =
    let there = stays_there side l cs (after_call e c) (come_more side e c h g.0) g.1 (added_there l e c is) in
    cc

never_new : (side : Side) (l : ℕ) (cs : List EndCall) (e : End) → HasCome side e → AreGivenTo cs
    → has l (run_end cs e).bearers ≡ false → AreNew l cs e
never_new side l [] e h g none = tt
never_new side l (c ∷ cs) e h g none =
    let is = none_by (adds l c) side l c cs e refl h g none in (
      λ adding. absurd (true≢false (sym adding ∙ is)),
      never_new side l cs (after_call e c) (come_more side e c h g.0) g.1 none,
    )

new_more : (l : ℕ) (cs : List EndCall) (c : EndCall) (e : End) → AreNew l cs e → has l (run_end cs e).bearers ≡ false
    → AreNew l (cs ++ c ∷ []) e
new_more l [] c e n none = (λ adding. none, tt)
new_more l (d ∷ cs) c e n none = (n.0, new_more l cs c (after_call e d) n.1 none)

-- ---- a channel begins

come_side : (side : Side) (e : End) → HasCome side e → e.side ≡ side
come_side side e h = ap (λ (x : End). x.side) h.end_is ∙ reached_side side h.maximum h.reports h.past

has_begun : (side : Side) (e : End) (config : BearerConfig) (keys : Keys) → IsConfig config → HasCome side e
    → has config.channel.lcid e.bearers ≡ false
    → HasBegun side config.channel.lcid config keys (after_call e (Add config keys))
has_begun side e config keys g h none =
    let l = config.channel.lcid in
    let first = fresh_end side h.maximum h.reports in
    let yet = subst (λ (x : End). has l x.bearers ≡ false) h.end_is none in
    let c = Add config keys in
    record {
      come = record {
        maximum = h.maximum;
        reports = h.reports;
        past = h.past ++ c ∷ [];
        given = given_on h.past (c ∷ []) h.given (g, tt);
        end_is = ap (λ (x : End). after_call x c) h.end_is ∙ sym (run_on h.past (c ∷ []) first);
      };
      new =
          new_more l h.past c first (never_new side l h.past first (fresh_come side h.maximum h.reports) h.given yet)
          yet;
      there = (added e config keys).there;
      bearer_is = (added e config keys).flow_is ∙ ap (flow_of config.kind config keys) (come_side side e h);
    }

rest_come : (side : Side) (k : Link) → IsAtRest k → HasCome side (end_of side k)
rest_come Nb k h = h.nb.come
rest_come Ue k h = h.ue.come

pub channels_begin : (config : BearerConfig) (keys : Keys) (k : Link) → IsConfig config → IsAtRest k → (side : Side)
    → has config.channel.lcid (end_of side k).bearers ≡ false
    → HasBegun side config.channel.lcid config keys (after_call (end_of side k) (Add config keys))
channels_begin config keys k g h side none = has_begun side (end_of side k) config keys g (rest_come side k h) none
