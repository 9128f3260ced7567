-- What the deeds of an acknowledged data bearer are to its PDCP sender (TS 36.323 5.1.1, 5.3.2,
-- 5.4, TS 36.322 5.1.3.1.1).
use Rattle.std.specs.Prelude.{◌≡◌, ℕ, ◌+◌, ◌*◌, List, [], ◌∷◌, length, Option, Some, None}
use Rattle.pdcp_rx.specs.Heard.{Heard, Bad, Told, Data, heard}
use Rattle.pdcp_rx.specs.State.{State as Receiving}
use Rattle.pdcp_tx.specs.Runs.{Call as PdcpCall, Submit, Take, Confirm, Report, Owe, Tick, Late}
use Rattle.pdcp_tx.specs.State.{State as Sending, fms_count}
use Rattle.bearer.specs.Acknowledged.State.{State}
use Rattle.journal_given.specs.Supplies.{marked_from}
use Rattle.law_bearer.specs.AmBearer.Deeds.{Deed as BearerDeed, Feeds, Sends, Receives, HandsUp}
use Rattle.law_bearer.specs.AmBearer.Deeds.{Confirms as HandsOver, Asks, Sets, does}
use Rattle.law_takes.specs.Histories.{Deed, Submits, Ticks, SetsDiscard, Discards, Takes, Confirms}
use Rattle.law_takes.specs.Histories.{Hears, Run, behind_all, ArePossible}

-- ---- a status report is heard where its FMS is read as a COUNT, with those that it marks

abbrev pub report_heard : Option ℕ → ℕ → List ℕ → List Deed
report_heard None fms bitmap = []
report_heard (Some from) fms bitmap =
    Hears from (marked_from bitmap (from + 1) 0 (8 * length bitmap)) fms bitmap ∷ []

abbrev pub pdu_heard : Heard → Sending → List Deed
pdu_heard (Bad refusal) s = []
pdu_heard (Told fms bitmap) s = report_heard (fms_count s.kind s.base fms) fms bitmap
pdu_heard (Data sn body) s = []

-- ---- a deed

-- the first PDU that RLC hands up, and the first place that it confirms
abbrev pub first_heard : List (List ℕ) → Receiving → Sending → List Deed
first_heard [] r s = []
first_heard (pdu ∷ pdus) r s = pdu_heard (heard r.kind pdu) s

abbrev pub first_confirmed : List ℕ → List Deed
first_confirmed [] = []
first_confirmed (place ∷ places) = Confirms place ∷ []

-- a report is owed only as a life begins
abbrev pub asked : PdcpCall → Sending → List Deed
asked (Submit sdu) s = Submits sdu ∷ []
asked Take s = Takes ∷ []
asked (Confirm place) s = Confirms place ∷ []
asked (Report fms bitmap) s = pdu_heard (Told fms bitmap) s
asked (Owe report) s = []
asked Tick s = Ticks ∷ []
asked Late s = Discards ∷ []

abbrev pub deeds_at : State → BearerDeed → List Deed
deeds_at b Feeds = Takes ∷ []
deeds_at b (Sends c) = []
deeds_at b HandsOver = first_confirmed b.tx.accounts.news
deeds_at b (Receives c) = []
deeds_at b HandsUp = first_heard b.rx.out.ready b.pdcp.rx b.pdcp.tx
deeds_at b (Asks c) = asked c b.pdcp.tx
deeds_at b (Sets ttis) = SetsDiscard ttis ∷ []

-- ---- the law

abbrev pub IsAsked : PdcpCall → Type 0
IsAsked (Submit sdu) = Unit {0}
IsAsked Take = Unit {0}
IsAsked (Confirm place) = Unit {0}
IsAsked (Report fms bitmap) = Unit {0}
IsAsked (Owe report) = ⊥
IsAsked Tick = Unit {0}
IsAsked Late = Unit {0}

abbrev pub IsWithinALife : BearerDeed → Type 0
IsWithinALife Feeds = Unit {0}
IsWithinALife (Sends c) = Unit {0}
IsWithinALife HandsOver = Unit {0}
IsWithinALife (Receives c) = Unit {0}
IsWithinALife HandsUp = Unit {0}
IsWithinALife (Asks c) = IsAsked c
IsWithinALife (Sets ttis) = Unit {0}

pub record TakesAlike (r : Run) (b : State) (deed : BearerDeed) : Type 0 where
  pub left : (behind_all r (deeds_at b deed)).sender ≡ (does b deed).pdcp.tx
  pub possible : ArePossible r (deeds_at b deed)

-- in any run with this sender
abbrev pub DeedsTakeAlike : Type 0
DeedsTakeAlike = (r : Run) (b : State) (deed : BearerDeed) → IsWithinALife deed
    → r.sender ≡ b.pdcp.tx → TakesAlike r b deed
