-- A place means one SDU to PDCP and to RLC (TS 36.322 5.1.3.1, TS 36.323 5.1.1): the place in the
-- stream of the life.
use Rattle.std.specs.Prelude.{◌≡◌, ℕ, List, Some, None}
use Rattle.bearer_types.specs.declared.BearerConfig.{BearerConfig}
use Rattle.eps_sec.specs.declared.Keys.{Keys}
use Rattle.l2_types.specs.declared.Kind.TheVariants as kinds
use Rattle.l2_types.specs.declared.Side.{Side}
use Rattle.pdcp_tx_store.specs.Given.{Given}
use Rattle.pdcp_tx.specs.State.{Offer}
use Rattle.law_pdcp.specs.OneEnd.Places.{AreKeptAt}
use Rattle.bearer_pdcp.specs.Ends.{Ends}
use Rattle.bearer.specs.declared.flow.Flow.{Flow}
use Rattle.bearer.specs.Bearer.{flow_of}
use Rattle.law_bearer.specs.AnyBearer.Calls.{Call, after_all, Step, Restart, goes, reached, ends}
use Rattle.law_bearer.specs.AnyBearer.Stream.{taken}

-- what PDCP keeps of a taken PDU: the SDU with its COUNT, or that it was the own report; of each PDU
-- of the stream but the first so many, which are confirmed
abbrev pub IsSdu : ℕ → List ℕ → Offer → Type 0
IsSdu count octets o = (o.count ≡ Some count) × (o.text ≡ octets)

abbrev pub IsReport : Offer → Type 0
IsReport o = o.count ≡ None

abbrev pub AreAtPlaces : Given → List Offer → Type 0
AreAtPlaces = AreKeptAt IsSdu IsReport

-- in a life from its beginning on
abbrev pub KeepsPlaces : Flow → Type 0
KeepsPlaces f = (calls : List Call) (e : Ends) → ends (after_all f calls) ≡ Some e
    → AreAtPlaces e.tx.given (taken f calls)

-- in the first life of an acknowledged data bearer, and in each that follows
abbrev pub InTheFirst : Type 0
InTheFirst = (c : BearerConfig) (keys : Keys) (side : Side) → c.kind ≡ kinds.Am
    → KeepsPlaces (flow_of c.kind c keys side)

abbrev pub InTheOthers : Type 0
InTheOthers = (c : BearerConfig) (keys : Keys) (side : Side) (steps : List Step) (next : Keys)
    → c.kind ≡ kinds.Am → KeepsPlaces (goes (reached c keys side steps) (Restart next))
