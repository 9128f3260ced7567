-- Each bearer of an end has so little to send that no sum of 64 bits is cut.
use Rattle.std.proofs.Common.{◌≡◌, ℕ, ◌+◌, ◌-◌, ◌==◌, nat_lt, if◌then◌else◌, Bool, true, false, Option, Some, None}
use Rattle.std.proofs.Common.{List, [], ◌∷◌, ◌++◌, length, refl, sym, subst, arith}
use Rattle.std.proofs.lemmas.Bool.Decides.{nat_tests}
use Rattle.std.specs.List.{AllByRecursion}
use Rattle.bearer.specs.Acknowledged.Hearing.{after_arrival as am_after_arrival}
use Rattle.bearer.specs.Acknowledged.Lives.{stopped as am_stopped, restarted as am_restarted}
use Rattle.bearer.specs.Acknowledged.State.{fresh as fresh_am}
use Rattle.bearer.specs.Acknowledged.Timing.{after_expiry as am_after_expiry, ticked as am_ticked}
use Rattle.bearer.specs.Bearer.{flow_of}
use Rattle.bearer.specs.declared.flow.Flow.{Flow}
use Rattle.bearer.specs.declared.flow.Flow.TheVariants.{Tm, Um, Am}
use Rattle.bearer.specs.Hearing.{arrived as flow_arrived, expired as flow_expired, ticked as flow_ticked, with_discard}
use Rattle.bearer.specs.Lives.{stopped, restarted}
use Rattle.bearer.specs.Submitting.{refusal as flow_refusal, submitted as flow_submitted}
use Rattle.bearer.specs.Taking.{after as flow_after}
use Rattle.bearer_types.specs.declared.config.BearerConfig.{BearerConfig}
use Rattle.eps_sec.specs.declared.Keys.{Keys}
use Rattle.l2_bits.specs.declared.fault.SubmitRefusal.{SubmitRefusal}
use Rattle.l2_bits.specs.declared.fault.SubmitRefusal.TheVariants.{Empty, TooLong}
use Rattle.l2_node.specs.End.{End}
use Rattle.l2_node.specs.Finding.{find, bearer_at}
use Rattle.l2_types.specs.declared.channel.Kind.{Kind}
use Rattle.l2_types.specs.declared.channel.Kind.TheVariants as kinds
use Rattle.l2_types.specs.declared.event.Clock.{Clock}
use Rattle.l2_types.specs.declared.side.Side.{Side}
use Rattle.pdcp_pdu.specs.declared.pdu.PdcpKind.{PdcpKind}
use Rattle.rlc_am_tx_window.specs.Sent.{Sent}
use Rattle.rlc_um.specs.Transparent.{Transparent, refusal as tm_refusal, after_take as tm_after, behind_first}
use Rattle.law_run.specs.AnyCalls.Zero.{HasCome}
use Rattle.law_bearer.specs.AnyBearer.Calls.{Arrive, Expire, Tick}
use Rattle.law_drain.specs.Few.{IsShortSdu, IsShortField, HasFew}
use Rattle.law_drain.proofs.AmRests.{am-rest, other-rest}
use Rattle.law_drain.proofs.Few.{fits-few}
use Rattle.law_drain.proofs.Rests.{IsRest}
use Rattle.law_node.specs.Holding.{flow}
use Rattle.law_node.proofs.Keeping.{IsKept, AllAre, at_is, reached_are}
use Rattle.law_node.proofs.Queueing.{HasFewWaiting, few_kept}
use Rattle.law_node.proofs.Senders.{AreSpelled}
use Rattle.law_rlc.proofs.AmSender.Keys.{keys}
use Rattle.law_run.specs.DrainBudget.{CountsEnd}
use Rattle.law_run.proofs.DrainFits.{FitsWell, well_kept, narrow_at}

-- ---- SDUs of a transparent bearer, and the rest at an acknowledged one

abbrev pub StaysShort : Flow → Type 0
StaysShort (Tm b) = AllByRecursion IsShortSdu b.waiting
StaysShort (Um b) = Unit {0}
StaysShort (Am b) = IsRest b.tx.queue.sdus

one_more : (xs : List (List ℕ)) (x : List ℕ) → AllByRecursion IsShortSdu xs → IsShortSdu x
    → AllByRecursion IsShortSdu (xs ++ x ∷ [])
one_more [] x h s = (s, tt)
one_more (y ∷ ys) x h s = (h.0, one_more ys x h.1 s)

too_long : (a b : Bool) (others : Option SubmitRefusal)
    → (if a then Some Empty else if b then Some TooLong else others) ≡ None → b ≡ false
too_long true b others e = let no : Some Empty ≡ None = e in cc
too_long false true others e = let no : Some TooLong ≡ None = e in cc
too_long false false others e = refl

short_by : (b : Transparent) (octets : List ℕ) → tm_refusal b octets ≡ None → IsShortSdu octets
unfolding tm_refusal
short_by b octets e =
    let short = too_long (length octets == 0) (nat_lt 8188 (length octets)) _ e in grind (arith, nat_tests, short)

behind_short : (next size : ℕ) (sdus : List (List ℕ)) → AllByRecursion IsShortSdu sdus
    → AllByRecursion IsShortSdu (behind_first next size sdus).waiting
behind_short next size [] h = tt
behind_short next size (x ∷ xs) h =
    by (nat_lt size (length x)) (record { next = next; waiting = x ∷ xs })
    (record { next = next + 1; waiting = xs }) h h.1
  where
    by : (b : Bool) (s t : Transparent) → AllByRecursion IsShortSdu s.waiting → AllByRecursion IsShortSdu t.waiting
        → AllByRecursion IsShortSdu (if b then s else t).waiting
    by true s t p q = p
    by false s t p q = q

short_begins : (k : Kind) (c : BearerConfig) (keys' : Keys) (side : Side) → StaysShort (flow_of k c keys' side)
unfolding fresh_am
short_begins kinds.Tm c keys' side = tt
short_begins kinds.Srb c keys' side = (omega arith, omega arith)
short_begins kinds.Um c keys' side = tt
short_begins kinds.Am c keys' side = (omega arith, omega arith)

short_submits : (f : Flow) (octets : List ℕ) → flow_refusal f octets ≡ None → StaysShort f
    → StaysShort (flow_submitted f octets)
unfolding flow_refusal flow_submitted
short_submits (Tm b) octets e h = one_more b.waiting octets h (short_by b octets e)
short_submits (Um b) octets e h = tt
short_submits (Am b) octets e h = h

short_discards : (f : Flow) (ttis : ℕ) → StaysShort f → StaysShort (with_discard f ttis)
unfolding with_discard
short_discards (Tm b) ttis h = h
short_discards (Um b) ttis h = tt
short_discards (Am b) ttis h = h

short_takes : (lcid : ℕ) (f : Flow) (share : ℕ) (held : Option ℕ) → FitsWell lcid f → StaysShort f
    → StaysShort (flow_after f share held)
unfolding flow_after tm_after
short_takes lcid (Tm b) share held p h = behind_short b.next (share - 3) b.waiting h
short_takes lcid (Um b) share held p h = tt
short_takes lcid (Am b) share held p h =
    let few = p.1.0.report (narrow_at p.0.kind b.pdcp p.0.known p.0.offers') in
    am-rest b share held (record { sdus = p.1.0.sdus; report = omega (arith, few) }) h

short_arrives : (f : Flow) (pdu : List ℕ) → StaysShort f → StaysShort (flow_arrived f pdu)
unfolding flow_arrived
short_arrives (Tm b) pdu h = h
short_arrives (Um b) pdu h = tt
short_arrives (Am b) pdu h = other-rest b (am_after_arrival b pdu) (Arrive pdu) (λ share held e. cc) refl h

short_expires : (f : Flow) (clock : Clock) → StaysShort f → StaysShort (flow_expired f clock)
unfolding flow_expired
short_expires (Tm b) clock h = h
short_expires (Um b) clock h = tt
short_expires (Am b) clock h = other-rest b (am_after_expiry b clock) (Expire clock) (λ share held e. cc) refl h

short_ticks : (f : Flow) → StaysShort f → StaysShort (flow_ticked f)
unfolding flow_ticked
short_ticks (Tm b) h = h
short_ticks (Um b) h = tt
short_ticks (Am b) h = other-rest b (am_ticked b).bearer Tick (λ share held e. cc) refl h

short_moves : (f : Flow) (keys' : Keys) → StaysShort (restarted (stopped f) keys')
unfolding restarted stopped am_restarted am_stopped
short_moves (Tm b) keys' = tt
short_moves (Um b) keys' = tt
short_moves (Am b) keys' = (omega arith, omega arith)

-- ---- all of it

abbrev FewWell : ℕ → Flow → Type 0
FewWell lcid f = FitsWell lcid f × (HasFewWaiting lcid f × StaysShort f)

few_well : IsKept FewWell
few_well = record {
  idle = (well_kept.idle, (few_kept.idle, tt));
  begins = λ c keys' side g.
      (well_kept.begins c keys' side g, (few_kept.begins c keys' side g, short_begins c.kind c keys' side));
  submits = λ lcid f octets e p. (
    well_kept.submits lcid f octets e p.0,
    (few_kept.submits lcid f octets e p.1.0, short_submits f octets e p.1.1),
  );
  discards = λ lcid f ttis p.
      (well_kept.discards lcid f ttis p.0, (few_kept.discards lcid f ttis p.1.0, short_discards f ttis p.1.1));
  takes = λ lcid f share held most p. (
    well_kept.takes lcid f share held most p.0,
    (few_kept.takes lcid f share held most p.1.0, short_takes lcid f share held p.0 p.1.1),
  );
  arrives = λ lcid f pdu p.
      (well_kept.arrives lcid f pdu p.0, (few_kept.arrives lcid f pdu p.1.0, short_arrives f pdu p.1.1));
  expires = λ lcid f clock p.
      (well_kept.expires lcid f clock p.0, (few_kept.expires lcid f clock p.1.0, short_expires f clock p.1.1));
  ticks = λ lcid f p. (well_kept.ticks lcid f p.0, (few_kept.ticks lcid f p.1.0, short_ticks f p.1.1));
  moves = λ lcid f keys' p.
      (well_kept.moves lcid f keys' p.0, (few_kept.moves lcid f keys' p.1.0, short_moves f keys'));
}

fields_short : (kind : PdcpKind) (hs : List Sent) → AreSpelled kind (keys hs) → AllByRecursion IsShortField hs
fields_short kind [] a = tt
fields_short kind (h ∷ hs) a = (a.0.short, fields_short kind hs a.1)

has_few : (lcid : ℕ) (f : Flow) → FewWell lcid f → CountsEnd f → HasFew f
has_few lcid (Tm b) p counts = (p.1.0.1, p.1.1)
has_few lcid (Um b) p counts =
    (fits-few b.pdcp p.0.1.0 (narrow_at p.0.0.kind b.pdcp p.0.0.known p.0.0.offers') counts p.1.0.0, p.0.1.1.1)
has_few lcid (Am b) p counts = (
  fits-few b.pdcp p.0.1.0 (narrow_at p.0.0.kind b.pdcp p.0.0.known p.0.0.offers') counts p.1.0.0,
  (p.1.1.1, (fields_short p.0.0.kind b.tx.window.slots p.0.0.ready.can.slots, p.0.1.1)),
)

pub come_few : (side : Side) (e : End) (l : ℕ) → HasCome side e → CountsEnd (flow l e) → HasFew (flow l e)
come_few side e l h counts =
    let at = find l e.bearers in
    let all = subst (λ (x : End). AllAre FewWell x.bearers) (sym h.end_is)
    (reached_are FewWell few_well side h.maximum h.reports h.calls h.given) in
    has_few (bearer_at e.bearers at).channel.lcid (bearer_at e.bearers at).state.flow
    (at_is FewWell e.bearers at few_well all) counts
