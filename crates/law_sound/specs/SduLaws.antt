-- What RLC takes of PDCP's sender on an acknowledged bearer is told with its length (TS 36.323
-- 6.2.2, 6.2.3, 6.2.6).
use Rattle.std.specs.Prelude.{◌≡◌, ◌≢◌, ℕ, false, List, [], ◌∷◌, length, Some}
use Rattle.pdcp_pdu.specs.declared.pdu.PdcpKind.{PdcpKind}
use Rattle.pdcp_pdu.specs.declared.pdu.PdcpKind.TheVariants.{Srb, Um, Am}
use Rattle.bearer_pdcp.specs.Ends.{Ends}
use Rattle.bearer_pdcp.specs.Taking.{taken, taking_told}
use Rattle.bearer_types.specs.declared.event.Event.{Event}
use Rattle.journal_account.specs.FlowEvents.{SduTaken}
use Rattle.law_sound.specs.LogLaws.{event_told}

-- of signalling or of data; numbers of 7 bits are those of unacknowledged data
abbrev pub IsAcknowledged : PdcpKind → Type 0
IsAcknowledged Srb = Unit {0}
IsAcknowledged (Um bits) = ⊥
IsAcknowledged (Am bits) = bits ≢ 7

pub record IsOfKind (kind : PdcpKind) (e : Ends) : Type 0 where
  pub acknowledged : IsAcknowledged kind
  pub kind_is : e.kind ≡ kind
  pub sending : e.tx.kind ≡ kind

-- an SDU that is taken, or a status report, by the one record that tells it
abbrev pub TakenAreTold : Type 0
TakenAreTold =
    (kind : PdcpKind) (e : Ends) (sdu : List ℕ) (event : Event) → IsOfKind kind e
    → taken e ≡ Some sdu → taking_told e ≡ event ∷ []
    → event_told kind false event ≡ Some (SduTaken (length sdu))
