-- What bearers of other channels tell hands nothing up on LCID 0, and a transparent bearer hands up what arrives at it.
use Rattle.std.proofs.Common.{◌≡◌, ◌≤◌, ℕ, ◌==◌, Bool, true, false, if◌then◌else◌, Option, Some, None, IfSome}
use Rattle.std.proofs.Common.{List, [], ◌∷◌, ◌++◌, length, append_assoc, refl, ap, sym, ◌∙◌}
use Rattle.std.proofs.Common.{arith}
use Rattle.std.proofs.lemmas.Bool.Decides.{nat_tests}
use Rattle.bearer.specs.Bearer.{flow_of}
use Rattle.bearer.specs.declared.flow.Flow.{Flow}
use Rattle.bearer.specs.declared.flow.Flow.TheVariants.{Tm, Um, Am}
use Rattle.bearer.specs.Hearing.{arriving, arrived as flow_arrived, ticking, ticked as flow_ticked}
use Rattle.bearer.specs.Hearing.{expiry as flow_expiry, expired as flow_expired, with_discard}
use Rattle.bearer.specs.Lives.{stopping, stopped, restarted}
use Rattle.bearer.specs.Submitting.{submitted as flow_submitted}
use Rattle.bearer.specs.Taking.{after as flow_after}
use Rattle.bearer.specs.Acknowledged.Hearing.{arrived_told as am_arrived_told, arriving as am_arriving}
use Rattle.bearer_types.specs.Configs.{IsChannelOf}
use Rattle.bearer_types.specs.declared.config.BearerConfig.{BearerConfig}
use Rattle.bearer_types.specs.declared.event.Event.{Event}
use Rattle.bearer_types.specs.declared.event.Event.TheVariants as events
use Rattle.bearer.specs.Unacknowledged.Hearing.{arrived_told as um_arrived_told, arriving as um_arriving}
use Rattle.eps_sec.specs.declared.Keys.{Keys}
use Rattle.l2_types.specs.declared.channel.Kind.{Kind}
use Rattle.l2_types.specs.declared.channel.Kind.TheVariants as kinds
use Rattle.l2_types.specs.declared.event.Clock.{Clock}
use Rattle.l2_types.specs.declared.side.Side.{Side}
use Rattle.rlc_pdu.specs.declared.fault.RlcRefusal.{RlcRefusal}
use Rattle.rlc_pdu.specs.declared.fault.RlcWhy.TheVariants.{Short}
use Rattle.rlc_pdu.specs.Reading.{umd_at, am_at}
use Rattle.promises.specs.Zero.{carried_in}
use Rattle.mac_pdu.specs.Items.{sdu}
use Rattle.law_node.proofs.Keeping.{IsKept}
use Rattle.std.specs.List.{AllByRecursion}
use Rattle.law_node.proofs.Elsewhere.{HoldsElsewhere, um_arrived_all, am_arrived_all, IsOfFlow, ticking_all, expiry_all}
use Rattle.law_node.proofs.Elsewhere.{stopping_all}
use Rattle.law_node.proofs.Owning.{IsOwn}
use Rattle.law_run.proofs.AnyCalls.Handing.{HandUpNone}

-- ---- the SDUs that an end hands up on LCID 0

abbrev pub zero_of : Event → List (List ℕ)
zero_of (events.Up lcid octets) = if lcid == 0 then octets ∷ [] else []
zero_of event = []

abbrev pub zeros : List Event → List (List ℕ)
zeros [] = []
zeros (e ∷ es) = zero_of e ++ zeros es

pub zeros_then : (a b : List Event) → zeros (a ++ b) ≡ zeros a ++ zeros b
zeros_then [] b = refl
zeros_then (e ∷ a) b = ap (λ (x : List (List ℕ)). zero_of e ++ x) (zeros_then a b)
    ∙ sym (append_assoc (zero_of e) (zeros a) (zeros b))

-- none
abbrev pub AreOthers : List Event → Type 0
AreOthers es = zeros es ≡ []

pub none_both : (a b : List Event) → AreOthers a → AreOthers b → AreOthers (a ++ b)
none_both a b p q = zeros_then a b ∙ ap (λ (x : List (List ℕ)). x ++ zeros b) p ∙ q

-- where nothing is handed up at all
pub none_up : (es : List Event) → HandUpNone es → AreOthers es
none_up [] h = refl
none_up (events.Up lcid octets ∷ es) h = let no : true ≡ false = h.0 in cc
none_up (e ∷ es) h = none_up es h.1

-- ---- what RLC and PDCP of another channel tell

abbrev IsOther : ℕ → Type 0
IsOther lcid = (lcid == 0) ≡ false

zeros_none : (es : List Event) → AllByRecursion (λ event. zero_of event ≡ []) es → AreOthers es
zeros_none [] h = refl
zeros_none (e ∷ es) h = rw h.0 (zeros_none es h.1)

none_if_some : (r : Option (List Event)) → IfSome r (λ es. AllByRecursion (λ event. zero_of event ≡ []) es)
    → IfSome r AreOthers
none_if_some None h = tt
none_if_some (Some es) h = zeros_none es h

told : HoldsElsewhere (λ event. zero_of event ≡ []) IsOther
told = record {
  starts = λ lcid clock. refl;
  stops = λ lcid clock. refl;
  expires = λ lcid clock. refl;
  ups = λ lcid sdu o. rw o refl;
  fails = λ lcid sn. refl;
  drops = λ lcid why other. refl;
  integrity = λ lcid found wanted. refl;
  bad_rlc = λ lcid fault. refl;
  bad_pdcp = λ lcid fault. refl;
  discards = λ lcid len. refl;
}

-- ---- a bearer of any kind: one that isn't transparent is of another channel

abbrev pub IsPlain : ℕ → Flow → Type 0
IsPlain lcid (Tm b) = Unit {0}
IsPlain lcid (Um b) = (lcid == 0) ≡ false
IsPlain lcid (Am b) = (lcid == 0) ≡ false

not_zero : (lcid : ℕ) → 1 ≤ lcid → (lcid == 0) ≡ false
not_zero lcid some = grind (arith, nat_tests)

begins_plain : (kind : Kind) (c : BearerConfig) (keys : Keys) (side : Side) → IsChannelOf kind c.channel.lcid
    → IsPlain c.channel.lcid (flow_of kind c keys side)
begins_plain kinds.Tm c keys side i = tt
begins_plain kinds.Srb c keys side i = not_zero c.channel.lcid i.0
begins_plain kinds.Um c keys side i = not_zero c.channel.lcid (omega (arith, i.0))
begins_plain kinds.Am c keys side i = not_zero c.channel.lcid (omega (arith, i.0))

submits_plain : (lcid : ℕ) (f : Flow) (octets : List ℕ) → IsPlain lcid f → IsPlain lcid (flow_submitted f octets)
unfolding flow_submitted
submits_plain lcid (Tm b) octets p = p
submits_plain lcid (Um b) octets p = p
submits_plain lcid (Am b) octets p = p

discards_plain : (lcid : ℕ) (f : Flow) (ttis : ℕ) → IsPlain lcid f → IsPlain lcid (with_discard f ttis)
unfolding with_discard
discards_plain lcid (Tm b) ttis p = p
discards_plain lcid (Um b) ttis p = p
discards_plain lcid (Am b) ttis p = p

takes_plain : (lcid : ℕ) (f : Flow) (share : ℕ) (held : Option ℕ) → IsPlain lcid f
    → IsPlain lcid (flow_after f share held)
unfolding flow_after
takes_plain lcid (Tm b) share held p = p
takes_plain lcid (Um b) share held p = p
takes_plain lcid (Am b) share held p = p

arrives_plain : (lcid : ℕ) (f : Flow) (pdu : List ℕ) → IsPlain lcid f → IsPlain lcid (flow_arrived f pdu)
unfolding flow_arrived
arrives_plain lcid (Tm b) pdu p = p
arrives_plain lcid (Um b) pdu p = p
arrives_plain lcid (Am b) pdu p = p

expires_plain : (lcid : ℕ) (f : Flow) (clock : Clock) → IsPlain lcid f → IsPlain lcid (flow_expired f clock)
unfolding flow_expired
expires_plain lcid (Tm b) clock p = p
expires_plain lcid (Um b) clock p = p
expires_plain lcid (Am b) clock p = p

ticks_plain : (lcid : ℕ) (f : Flow) → IsPlain lcid f → IsPlain lcid (flow_ticked f)
unfolding flow_ticked
ticks_plain lcid (Tm b) p = p
ticks_plain lcid (Um b) p = p
ticks_plain lcid (Am b) p = p

moves_plain : (lcid : ℕ) (f : Flow) (keys : Keys) → IsPlain lcid f → IsPlain lcid (restarted (stopped f) keys)
unfolding restarted stopped
moves_plain lcid (Tm b) keys p = p
moves_plain lcid (Um b) keys p = p
moves_plain lcid (Am b) keys p = p

pub plain_kept : IsKept IsPlain
plain_kept = record {
  idle = tt;
  begins = λ c keys side g. begins_plain c.kind c keys side g.lcid;
  submits = λ lcid f octets r p. submits_plain lcid f octets p;
  discards = λ lcid f ttis p. discards_plain lcid f ttis p;
  takes = λ lcid f share held most p. takes_plain lcid f share held p;
  arrives = λ lcid f pdu p. arrives_plain lcid f pdu p;
  expires = λ lcid f clock p. expires_plain lcid f clock p;
  ticks = λ lcid f p. ticks_plain lcid f p;
  moves = λ lcid f keys p. moves_plain lcid f keys p;
}

-- the channel that it tells is its own
own_other : (lcid own : ℕ) → own ≡ lcid → (lcid == 0) ≡ false → IsOther own
own_other lcid own e p = ap (λ (n : ℕ). n == 0) e ∙ p

carries_none : (lcid : ℕ) (pdu : List ℕ) → (lcid == 0) ≡ false → carried_in (sdu lcid pdu) ≡ []
carries_none lcid pdu o = rw o refl

tm_arrives : (a b : Bool) (lcid : ℕ) (pdu : List ℕ) (fault : RlcRefusal) → (lcid == 0) ≡ a → (length pdu == 0) ≡ b
    → zeros (if length pdu == 0 then events.BadRlc lcid fault ∷ [] else events.Up lcid pdu ∷ [])
    ≡ carried_in (sdu lcid pdu)
tm_arrives true true lcid pdu fault e f = rw (e, f) refl
tm_arrives true false lcid pdu fault e f = rw (e, f) (rw e refl)
tm_arrives false true lcid pdu fault e f = rw (e, f) refl
tm_arrives false false lcid pdu fault e f = rw (e, f) (rw e refl)

pub arriving_zeros : (lcid : ℕ) (f : Flow) (pdu : List ℕ) → IsOwn lcid f → IsPlain lcid f
    → zeros (arriving lcid f pdu) ≡ carried_in (sdu lcid pdu)
unfolding arriving um_arriving am_arriving
arriving_zeros lcid (Tm b) pdu own p =
    tm_arrives (lcid == 0) (length pdu == 0) lcid pdu (record { at = 0; why = Short }) refl refl
arriving_zeros lcid (Um b) pdu own p =
    zeros_none (um_arrived_told (umd_at b.bits pdu) b)
    (um_arrived_all told (umd_at b.bits pdu) b (own_other lcid b.pdcp.lcid own p)) ∙ sym (carries_none lcid pdu p)
arriving_zeros lcid (Am b) pdu own p =
    zeros_none (am_arrived_told (am_at pdu) b)
    (am_arrived_all told (am_at pdu) b (own_other lcid b.pdcp.lcid own p)) ∙ sym (carries_none lcid pdu p)

of_flow : (lcid : ℕ) (f : Flow) → IsOwn lcid f → IsPlain lcid f → IsOfFlow told f
of_flow lcid (Tm b) own p = tt
of_flow lcid (Um b) own p = own_other lcid b.pdcp.lcid own p
of_flow lcid (Am b) own p = own_other lcid b.pdcp.lcid own p

pub ticking_none : (lcid : ℕ) (f : Flow) → IsOwn lcid f → IsPlain lcid f → AreOthers (ticking f)
ticking_none lcid f own p = zeros_none (ticking f) (ticking_all told f (of_flow lcid f own p))

pub expiry_none : (lcid : ℕ) (f : Flow) (clock : Clock) → IsOwn lcid f → IsPlain lcid f
    → IfSome (flow_expiry f clock) AreOthers
expiry_none lcid f clock own p = none_if_some (flow_expiry f clock) (expiry_all told f clock (of_flow lcid f own p))

pub stopping_none : (lcid : ℕ) (f : Flow) → IsOwn lcid f → IsPlain lcid f → AreOthers (stopping f)
stopping_none lcid f own p = zeros_none (stopping f) (stopping_all told f (of_flow lcid f own p))
