-- The PDUs that PDCP gives RLC in a call of a bearer are those of the SDUs and of the status report
-- that it tells of, by what a checker gathers of them (docs/laws/ACCOUNT.md; TS 36.323 5.1.1,
-- 6.2.3, 6.2.6).
use Rattle.std.specs.Prelude.{◌≡◌, ◌⊎◌, ℕ, List, [], ◌∷◌, ◌++◌, Option, Some, None, Ok}
use Rattle.bearer_types.specs.declared.Event.{Event}
use Rattle.bearer_types.specs.declared.Event.TheVariants as events
use Rattle.pdcp_pdu.specs.declared.PdcpKind.TheVariants.{Am as AmKind}
use Rattle.pdcp_pdu.specs.Grammar.{user_spelling}
use Rattle.pdcp_pdu.specs.Kinds.{IsKind}
use Rattle.pdcp_pdu.specs.Pdus.{Report}
use Rattle.pdcp_pdu.specs.Reading.{user_at}
use Rattle.pdcp_sec.specs.Protection.{Protection}
use Rattle.pdcp_tx.specs.Pdus.{pdu}
use Rattle.bearer.specs.Acknowledged.State.{State}
use Rattle.bearer.specs.declared.flow.Flow.TheVariants.{Am}
use Rattle.journal_takes.specs.TakeEvents.{TakeEvent, SduSubmitted}
use Rattle.journal_takes.specs.FlowTakes.{takes_of, sdu_kept}
use Rattle.journal_given.specs.Supplies.{Supply, History, histories}
use Rattle.law_bearer.specs.AmBearer.Calls.{tells, IsOfData}
use Rattle.law_bearer.specs.AnyBearer.Calls.{Call, after}
use Rattle.law_given.specs.Supplied.{Progress, IsSupplied}
use Rattle.law_given.specs.SupplyLaws.{IsOwn, submitted_by, supplied_by, offered_in}

-- ---- by what is gathered before each event

abbrev pub pdu_if : ℕ → Protection → ℕ → Option (List ℕ) → List (List ℕ)
pdu_if bits protection count None = []
pdu_if bits protection count (Some sdu) = pdu (AmKind bits) protection count sdu ∷ []

abbrev pub pdus_in : Protection → Event → Supply History → List (List ℕ)
pdus_in protection (events.Take lcid (Some count) len) s =
    pdu_if s.bits protection count (histories.sdu count s.takes)
pdus_in protection (events.Report lcid fms bitmap) s =
    user_spelling s.bits (Report fms bitmap) ∷ []
pdus_in protection event s = []

abbrev pub pdus_told : Protection → List Event → Supply History → List (List ℕ)
pdus_told protection [] s = []
pdus_told protection (event ∷ told) s =
    pdus_in protection event s ++ pdus_told protection told (supplied_by event s)

-- a status report that is owed is as its fields are written, with reserved bits 0
abbrev pub IsSpelled : ℕ → Option (List ℕ) → Type 0
IsSpelled bits None = Unit {0}
IsSpelled bits (Some report) = (fms : ℕ) (bitmap : List ℕ)
    → user_at bits report ≡ Ok (Report fms bitmap) → report ≡ user_spelling bits (Report fms bitmap)

abbrev pub OfferedAreTold : Type 0
OfferedAreTold = (rlc : Progress) (b d : State) (c : Call) (s : Supply History) → IsOwn c
    → IsKind (AmKind s.bits) → IsOfData s.bits b → IsSpelled s.bits b.pdcp.tx.owed
    → after (Am b) c ≡ Am d → IsSupplied rlc b.pdcp.tx s
    → offered_in b c ≡ pdus_told b.pdcp.tx.protection (tells b c) (submitted_by c s)

-- ---- an SDU that is kept was submitted

abbrev pub WasSubmitted : List ℕ → List TakeEvent → Type 0
WasSubmitted sdu [] = ⊥
WasSubmitted sdu (SduSubmitted own ∷ es) = (own ≡ sdu) ⊎ WasSubmitted sdu es
WasSubmitted sdu (e ∷ es) = WasSubmitted sdu es

abbrev pub KeptWereSubmitted : Type 0
KeptWereSubmitted = (first bits : ℕ) (es : List TakeEvent) (count : ℕ) (sdu : List ℕ)
    → sdu_kept count (takes_of first bits es) ≡ Some sdu → WasSubmitted sdu es
