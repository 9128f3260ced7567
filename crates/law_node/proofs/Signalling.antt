-- Whether a bearer is one of signalling is settled by its LCID, through any calls.
use Rattle.std.proofs.Common.{◌≡◌, ℕ, not, Option, None, List, refl, ap, ◌∙◌, arith}
use Rattle.std.proofs.lemmas.Bool.Decides.{nat_tests}
use Rattle.bearer.specs.Bearer.{flow_of}
use Rattle.bearer.specs.declared.flow.Flow.{Flow}
use Rattle.bearer.specs.declared.flow.Flow.TheVariants.{Tm, Um, Am}
use Rattle.bearer.specs.Hearing.{arrived as flow_arrived, expired as flow_expired, ticked as flow_ticked, with_discard}
use Rattle.bearer.specs.Lives.{stopped, restarted}
use Rattle.bearer.specs.Submitting.{refusal as flow_refusal, submitted as flow_submitted}
use Rattle.bearer.specs.Taking.{after as flow_after}
use Rattle.bearer.specs.Acknowledged.State.{fresh as fresh_am}
use Rattle.law_bearer.specs.AnyBearer.Order.{is_signalling}
use Rattle.bearer_pdcp.specs.Ends.{begun}
use Rattle.bearer_types.specs.Configs.{IsChannelOf}
use Rattle.bearer_types.specs.declared.config.BearerConfig.{BearerConfig}
use Rattle.eps_sec.specs.declared.Keys.{Keys}
use Rattle.l2_types.specs.declared.channel.Kind.{Kind}
use Rattle.l2_types.specs.declared.channel.Kind.TheVariants as kinds
use Rattle.l2_types.specs.declared.event.Clock.{Clock}
use Rattle.l2_types.specs.declared.side.Side.{Side}
use Rattle.pdcp_pdu.specs.Kinds.{is_am}
use Rattle.pdcp_pdu.specs.declared.pdu.PdcpKind.{PdcpKind}
use Rattle.law_words.specs.BearerOrder.{is_srb}
use Rattle.law_node.proofs.Keeping.{IsKept}
use Rattle.law_node.proofs.KindsStay.{IsOfKind, kind_passes}
use Rattle.law_node.proofs.Pdcp.{arrives, expires, ticks_of, submits_of, discards_of, takes_of, moves_of}

-- ---- a bearer

abbrev pub IsRight : ℕ → Flow → Type 0
IsRight lcid f = is_signalling f ≡ is_srb lcid

begins_right : (kind : Kind) (c : BearerConfig) (keys : Keys) (side : Side) → IsChannelOf kind c.channel.lcid
    → IsRight c.channel.lcid (flow_of kind c keys side)
unfolding fresh_am begun
begins_right kinds.Tm c keys side i = grind (arith, nat_tests)
begins_right kinds.Srb c keys side i = grind (arith, nat_tests, i.0, i.1)
begins_right kinds.Um c keys side i = grind (arith, nat_tests, i.0)
begins_right kinds.Am c keys side i = grind (arith, nat_tests, i.0)

-- what keeps the kind of PDCP
as_before : (lcid : ℕ) (kind next : PdcpKind) → next ≡ kind → not (is_am kind) ≡ is_srb lcid
    → not (is_am next) ≡ is_srb lcid
as_before lcid kind next same p = ap (λ (k : PdcpKind). not (is_am k)) same ∙ p

submits_right : (lcid : ℕ) (f : Flow) (octets : List ℕ) → flow_refusal f octets ≡ None → IsRight lcid f
    → IsRight lcid (flow_submitted f octets)
unfolding flow_submitted
submits_right lcid (Tm b) octets r p = p
submits_right lcid (Um b) octets r p = p
submits_right lcid (Am b) octets r p =
    as_before lcid b.pdcp.kind _ (submits_of (IsOfKind b.pdcp.kind) (kind_passes b.pdcp.kind) (Am b) octets r refl) p

discards_right : (lcid : ℕ) (f : Flow) (ttis : ℕ) → IsRight lcid f → IsRight lcid (with_discard f ttis)
unfolding with_discard
discards_right lcid (Tm b) ttis p = p
discards_right lcid (Um b) ttis p = p
discards_right lcid (Am b) ttis p =
    as_before lcid b.pdcp.kind _ (discards_of (IsOfKind b.pdcp.kind) (kind_passes b.pdcp.kind) (Am b) ttis refl) p

takes_right : (lcid : ℕ) (f : Flow) (share : ℕ) (held : Option ℕ) → IsRight lcid f
    → IsRight lcid (flow_after f share held)
unfolding flow_after
takes_right lcid (Tm b) share held p = p
takes_right lcid (Um b) share held p = p
takes_right lcid (Am b) share held p =
    as_before lcid b.pdcp.kind _ (takes_of (IsOfKind b.pdcp.kind) (kind_passes b.pdcp.kind) (Am b) share held refl) p

arrives_right : (lcid : ℕ) (f : Flow) (pdu : List ℕ) → IsRight lcid f → IsRight lcid (flow_arrived f pdu)
unfolding flow_arrived
arrives_right lcid (Tm b) pdu p = p
arrives_right lcid (Um b) pdu p = p
arrives_right lcid (Am b) pdu p =
    as_before lcid b.pdcp.kind _ (arrives (IsOfKind b.pdcp.kind) (kind_passes b.pdcp.kind) (Am b) pdu refl) p

expires_right : (lcid : ℕ) (f : Flow) (clock : Clock) → IsRight lcid f → IsRight lcid (flow_expired f clock)
unfolding flow_expired
expires_right lcid (Tm b) clock p = p
expires_right lcid (Um b) clock p = p
expires_right lcid (Am b) clock p =
    as_before lcid b.pdcp.kind _ (expires (IsOfKind b.pdcp.kind) (kind_passes b.pdcp.kind) (Am b) clock refl) p

ticks_right : (lcid : ℕ) (f : Flow) → IsRight lcid f → IsRight lcid (flow_ticked f)
unfolding flow_ticked
ticks_right lcid (Tm b) p = p
ticks_right lcid (Um b) p = p
ticks_right lcid (Am b) p =
    as_before lcid b.pdcp.kind _ (ticks_of (IsOfKind b.pdcp.kind) (kind_passes b.pdcp.kind) (Am b) refl) p

moves_right : (lcid : ℕ) (f : Flow) (keys : Keys) → IsRight lcid f → IsRight lcid (restarted (stopped f) keys)
unfolding restarted stopped
moves_right lcid (Tm b) keys p = p
moves_right lcid (Um b) keys p = p
moves_right lcid (Am b) keys p =
    as_before lcid b.pdcp.kind _ (moves_of (IsOfKind b.pdcp.kind) (kind_passes b.pdcp.kind) (Am b) keys refl) p

pub right_kept : IsKept IsRight
right_kept = record {
  idle = refl;
  begins = λ c keys side g. begins_right c.kind c keys side g.lcid;
  submits = submits_right;
  discards = λ lcid f ttis p. discards_right lcid f ttis p;
  takes = λ lcid f share held most p. takes_right lcid f share held p;
  arrives = λ lcid f pdu p. arrives_right lcid f pdu p;
  expires = λ lcid f clock p. expires_right lcid f clock p;
  ticks = λ lcid f p. ticks_right lcid f p;
  moves = λ lcid f keys p. moves_right lcid f keys p;
}
