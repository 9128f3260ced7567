-- Bearers that aren't of acknowledged data, of each kind, beside the flows that they send while the PDUs of a journal
-- are checked: in calls, as a life begins, as the next one does, and as a group ends.
use Rattle.std.proofs.Common.{◌≡◌, inl, inr, ℕ, Bool, List, [], ◌∷◌, ◌++◌, Option, Some, None, refl, ap, sym, subst}
use Rattle.std.proofs.Common.{◌∙◌}
use Rattle.std.specs.List.{AllByRecursion, flat_map}
use Rattle.bearer.specs.Bearer.{flow_of}
use Rattle.bearer.specs.Lives.{stopped, restarted}
use Rattle.bearer.specs.Submitting.{refusal}
use Rattle.bearer.specs.declared.flow.Flow.{Flow as BearerFlow}
use Rattle.bearer.specs.declared.flow.Flow.TheVariants.{Tm, Um, Am}
use Rattle.bearer_types.specs.Configs.{IsConfig, AreRlcBits}
use Rattle.bearer_types.specs.declared.config.BearerConfig.{BearerConfig}
use Rattle.eps_sec.specs.declared.Keys.{Keys}
use Rattle.l2_types.specs.declared.channel.Kind.{Kind}
use Rattle.l2_types.specs.declared.channel.Kind.TheVariants as bearers
use Rattle.l2_types.specs.declared.side.Side.{Side}
use Rattle.pdu_show.specs.Kinds.{layout_of}
use Rattle.pdu_show.specs.declared.kinds.Layout.{Layout}
use Rattle.journal_lives.specs.FlowLives.{FlowLives}
use Rattle.journal_sent.specs.RightSent.{Flow}
use Rattle.journal_sent.specs.SentFlows.{cover_of, flow_begun, flow_renewed, flow_settled, settled_by}
use Rattle.journal_sent.specs.SentPdus.{histories}
use Rattle.law_bearer.specs.AnyBearer.Calls.{Call as BearerCall, Submit, Take, Arrive, Expire, Tick, SetDiscard}
use Rattle.law_bearer.specs.AnyBearer.Calls.{Restart, after, after_all, goes}
use Rattle.law_bearer.specs.AnyBearer.Queue.{submits}
use Rattle.law_bearer.proofs.AnyBearer.Between.{IsBetween}
use Rattle.law_deliver.specs.AmFlow.Ups.{tells_in, tells_over}
use Rattle.law_deliver.proofs.AmChannel.Bearers.{between_after}
use Rattle.law_deliver.proofs.AmFlow.Accepting.{AreAcceptable, IsQuiet as SubmitsNone}
use Rattle.law_run.proofs.OwnPdus.Bearers.{IsQuiet}
use Rattle.law_sent.specs.Channels.{SentPdu}
use Rattle.law_sound.proofs.QueueBeside.{IsQueuedBy, IsTransparentBy, IsUnackedBy, IsSignalledBy, IsTakenIn, KeepsOne}
use Rattle.law_sound.proofs.QueueBeside.{KeepsSo, WritesSo, CanWrite, ArePdusOf, IsAckedBy, IsBaseLow, AreRightHere}
use Rattle.law_sound.proofs.QueueBeside.{queue_over, queue_submits}
use Rattle.law_sound.proofs.QueueSrb.{srb_keeps, srb_begins, srb_restarts, srb_settles}
use Rattle.law_sound.proofs.QueueSrbWriting.{srb_writes}
use Rattle.law_sound.proofs.QueueTm.{tm_keeps, tm_writes, tm_restarts}
use Rattle.law_sound.proofs.QueueUm.{um_keeps, um_writes}
use Rattle.law_sound.proofs.QueueUmHearing.{queue_then, right_then}
use Rattle.law_sound.proofs.QueueUmLives.{um_begins, um_restarts, um_settles}

-- ---- calls

one_keeps : (l : ℕ) (x : BearerFlow) (c : BearerCall) (f : Flow) → IsBetween l x → IsTakenIn x c → IsQueuedBy x f
    → KeepsOne l x c f
one_keeps l (Tm b) c f between accepted h = tm_keeps l b c f between accepted h
one_keeps l (Um b) c f between accepted h = um_keeps l b c f between accepted h
one_keeps l (Am b) c f between accepted h = srb_keeps l b c f between accepted h

-- no SDU is submitted, and nothing is written
submits_none : (c : BearerCall) → SubmitsNone c → submits c ≡ []
submits_none (Submit sdu) unsubmitted = absurd unsubmitted
submits_none (Take share held) unsubmitted = refl
submits_none (Arrive pdu) unsubmitted = refl
submits_none (Expire clock) unsubmitted = refl
submits_none Tick unsubmitted = refl
submits_none (SetDiscard ttis) unsubmitted = refl

taken_in : (x : BearerFlow) (c : BearerCall) → SubmitsNone c → IsQuiet c → IsTakenIn x c
taken_in x (Submit sdu) unsubmitted quiet = absurd unsubmitted
taken_in x (Take share held) unsubmitted quiet = absurd quiet
taken_in x (Arrive pdu) unsubmitted quiet = tt
taken_in x (Expire clock) unsubmitted quiet = tt
taken_in x Tick unsubmitted quiet = tt
taken_in x (SetDiscard ttis) unsubmitted quiet = tt

all_submit_none : (cs : List BearerCall) → AllByRecursion SubmitsNone cs → flat_map submits cs ≡ []
all_submit_none [] unsubmitted = refl
all_submit_none (c ∷ cs) unsubmitted =
    ap (λ (sdus : List (List ℕ)). sdus ++ flat_map submits cs) (submits_none c unsubmitted.0)
    ∙ all_submit_none cs unsubmitted.1

-- what the calls tell is right, and the bearer stands behind it
abbrev Tells : ℕ → BearerFlow → List BearerCall → Flow → Type 0
Tells l x cs f = AreRightHere (tells_over l x cs) f × IsQueuedBy (after_all x cs) (queue_over (tells_over l x cs) f)

quiet_tell : (l : ℕ) (x : BearerFlow) (cs : List BearerCall) (f : Flow) → IsBetween l x
    → AllByRecursion SubmitsNone cs → AllByRecursion IsQuiet cs → IsQueuedBy x f → Tells l x cs f
quiet_tell l x [] f between unsubmitted quiet h = (tt, h)
quiet_tell l x (c ∷ cs) f between unsubmitted quiet h =
    let first = tells_in l x c in
    let last = tells_over l (after x c) cs in
    let g = queue_over first f in
    let one = one_keeps l x c f between (taken_in x c unsubmitted.0 quiet.0) h in
    let same : queue_submits (submits c) f ≡ f =
    ap (λ (sdus : List (List ℕ)). queue_submits sdus f) (submits_none c unsubmitted.0) in
    let rest = quiet_tell l (after x c) cs g (between_after l x c between) unsubmitted.1 quiet.1
    (subst (λ (k : Flow). IsQueuedBy (after x c) (queue_over first k)) same one.behind) in (
      right_then first last f (subst (AreRightHere first) same one.right) rest.0,
      subst (IsQueuedBy (after_all x (c ∷ cs))) (sym (queue_then first last f)) rest.1,
    )

quiet_keeps : (l : ℕ) (x : BearerFlow) (cs : List BearerCall) (f : Flow) → IsBetween l x
    → AllByRecursion SubmitsNone cs → AllByRecursion IsQuiet cs → IsQueuedBy x f → KeepsSo l x cs f
quiet_keeps l x cs f between unsubmitted quiet h =
    let told = quiet_tell l x cs f between unsubmitted quiet h in
    let same : f ≡ queue_submits (flat_map submits cs) f =
    sym (ap (λ (sdus : List (List ℕ)). queue_submits sdus f) (all_submit_none cs unsubmitted)) in
    record {
      right = subst (AreRightHere (tells_over l x cs)) same told.0;
      behind = subst (λ (g : Flow). IsQueuedBy (after_all x cs) (queue_over (tells_over l x cs) g)) same told.1;
    }

-- one SDU that isn't refused is
submit_keeps : (l : ℕ) (x : BearerFlow) (sdu : List ℕ) (f : Flow) → IsBetween l x → refusal x sdu ≡ None
    → IsQueuedBy x f → KeepsSo l x (Submit sdu ∷ []) f
submit_keeps l x sdu f between accepted h =
    let one = one_keeps l x (Submit sdu) f between accepted h in record { right = tt; behind = one.behind }

pub queue_keeps : (l : ℕ) (x : BearerFlow) (cs : List BearerCall) (f : Flow) → IsBetween l x → AreAcceptable x cs
    → AllByRecursion IsQuiet cs → IsQueuedBy x f → KeepsSo l x cs f
queue_keeps l x cs f between (inl unsubmitted) quiet h = quiet_keeps l x cs f between unsubmitted quiet h
queue_keeps l x cs f between (inr one) quiet h =
    subst (λ (ds : List BearerCall). KeepsSo l x ds f) (sym one.calls_are)
    (submit_keeps l x one.sdu f between one.accepts h)

pub queue_writes : (l : ℕ) (x : BearerFlow) (share : ℕ) (held : Option ℕ) (acked : ℕ → Bool) (ps : List SentPdu)
    (f : Flow) → CanWrite l x share → IsAckedBy x acked → ArePdusOf l x share held f ps → IsQueuedBy x f
    → WritesSo l x share held acked ps f
queue_writes l (Tm b) share held acked ps f can knows are h = tm_writes l b share held acked ps f can are h
queue_writes l (Um b) share held acked ps f can knows are h = um_writes l b share held acked ps f can are h
queue_writes l (Am b) share held acked ps f can knows are h = srb_writes l b share held acked ps f can knows are h

-- ---- lives, and groups

-- of a kind that isn't acknowledged data
abbrev pub IsOfQueue : Kind → Type 0
IsOfQueue bearers.Am = ⊥
IsOfQueue kind = Unit {0}

abbrev pub flow_first : BearerConfig → Side → Keys → Flow
flow_first c side keys =
    let layout = layout_of c.kind c.rlc_bits c.pdcp_bits in
    flow_begun histories layout (cover_of layout side c.channel.lcid keys)

pub queue_begins : (c : BearerConfig) (keys : Keys) (side : Side) → IsOfQueue c.kind → IsConfig c → c.first ≡ 0
    → IsQueuedBy (flow_of c.kind c keys side) (flow_first c side keys)
queue_begins c keys side kind ranges none = by c.kind kind refl
  where
    by : (k : Kind) → IsOfQueue k → c.kind ≡ k
        → IsQueuedBy (flow_of k c keys side) (flow_begun histories (layout_of k c.rlc_bits c.pdcp_bits)
        (cover_of (layout_of k c.rlc_bits c.pdcp_bits) side c.channel.lcid keys))
    by bearers.Tm k e = record { layout_is = refl; cover_is = refl; waiting_is = refl; sizes = tt }
    by bearers.Srb k e = srb_begins c keys side none
    by bearers.Um k e =
        um_begins c keys side (subst (λ (a : Kind). AreRlcBits a c.rlc_bits) e ranges.rlc_bits) none
    by bearers.Am k e = absurd k

pub queue_restarts : (x : BearerFlow) (keys : Keys) (f : Flow) → IsQueuedBy x f
    → IsQueuedBy (goes x (Restart keys)) (flow_renewed histories keys f)
unfolding stopped restarted
queue_restarts (Tm b) keys f h = tm_restarts b keys f h
queue_restarts (Um b) keys f h = um_restarts b keys f h
queue_restarts (Am b) keys f h = srb_restarts b keys f h

pub queue_settles : (x : BearerFlow) (account : Option FlowLives) (f : Flow) → IsBaseLow x account → IsQueuedBy x f
    → IsQueuedBy x (flow_settled histories account f)
queue_settles (Tm b) account f low h =
    subst (IsTransparentBy b) (sym (ap (λ (a : Layout). settled_by histories a account f) h.layout_is)) h
queue_settles (Um b) account f low h =
    subst (IsUnackedBy b) (sym (ap (λ (a : Layout). settled_by histories a account f) h.layout_is))
    (um_settles b (histories.next f.stream.octets) f h)
queue_settles (Am b) None f low h =
    subst (IsSignalledBy b) (sym (ap (λ (a : Layout). settled_by histories a None f) h.layout_is)) h
queue_settles (Am b) (Some lives) f low h =
    subst (IsSignalledBy b) (sym (ap (λ (a : Layout). settled_by histories a (Some lives) f) h.layout_is))
    (srb_settles b lives.account.sending.base f low h)
