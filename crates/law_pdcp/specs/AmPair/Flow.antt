-- Both ends of the PDCP of an acknowledged data bearer, in one direction, through lives (TS 36.323
-- 5.1, 5.2, 5.3). Between them RLC hands up the PDUs that it was given, in order and unchanged; at
-- the end of a life it gives besides exactly those others that arrived whole (TS 36.322 5.1.3.2,
-- 5.4).
use Rattle.std.specs.Prelude.{◌≡◌, ℕ, ◌+◌, ◌<◌, Bool, true, false, ◌==◌, ◌||◌, if◌then◌else◌, List}
use Rattle.std.specs.Prelude.{[], ◌∷◌, ◌++◌, length, take, drop, Option, Some, None, slice_get}
use Rattle.eps_sec.specs.declared.Keys.{Keys}
use Rattle.pdcp_pdu.specs.declared.PdcpKind.{PdcpKind}
use Rattle.pdcp_pdu.specs.declared.PdcpKind.TheVariants.{Am}
use Rattle.pdcp_sec.specs.Protection.{Protection}
use Rattle.pdcp_tx.specs.declared.sender.Next.{Next}
use Rattle.pdcp_tx.specs.State.{State as Sending, start, refusal}
use Rattle.pdcp_tx.specs.State.{restarted as restarted_sending}
use Rattle.pdcp_tx.specs.Runs.{Call, Submit, Take, Confirm, Report, Owe, Tick, Late, after}
use Rattle.pdcp_rx.specs.declared.got.Cause.TheVariants.{Arrived, Reestablished}
use Rattle.pdcp_rx.specs.Heard.{Told, heard}
use Rattle.pdcp_rx.specs.State.{State as Receiving, fresh, arrived, report}
use Rattle.pdcp_rx.specs.State.{restarted as restarted_receiving}
use Rattle.law_pdcp.specs.OneEnd.Given.{pdus_given}
use Rattle.law_pdcp.specs.OneEnd.Lives.{takes_new}

-- `first` is the first COUNT, `sdus` the SDUs that were taken for the first time, in their order,
-- so that SDU k has the COUNT first + k. `up` is what was taken from the receiver. Of this life
-- `stream` is what RLC was given, `whole` the places in it of the PDUs that have arrived whole,
-- `passed` how many of them RLC has handed up in sequence. `handed` is the COUNTs of the PDUs that
-- came in sequence in this life or whole in an ended one. `report` is the status report that the
-- receiver made as the last life ended.
pub record Flow : Type 0 where
  pub first : ℕ
  pub sdus : List (List ℕ)
  pub sender : Sending
  pub receiver : Receiving
  pub up : List (List ℕ)
  pub stream : List Next
  pub whole : ℕ → Bool
  pub passed : ℕ
  pub handed : ℕ → Bool
  pub report : Option (List ℕ)

pub data Event : Type 0 where
  Sends : Call → Event  -- a call of the sender
  SetDiscard : ℕ → Event  -- another length of the discard timer
  Arrive : ℕ → Event  -- the PDU at a place has arrived whole
  HandUp : Event  -- RLC hands up the next one in sequence
  Raise : Event  -- the first SDU that is ready goes up
  Restart : Keys → Event  -- the life ends, and the next one begins under other keys

-- ---- what they make of it

-- with the COUNT of one more PDU; a status report has none
abbrev pub with_count : Option ℕ → (ℕ → Bool) → ℕ → Bool
with_count None handed n = handed n
with_count (Some count) handed n = n == count || handed n

abbrev pub passes : Option Next → Flow → Flow
passes None f = f
passes (Some pdu) f = record f {
  receiver = arrived f.receiver pdu.octets Arrived;
  passed = f.passed + 1;
  handed = with_count pdu.count f.handed;
}

-- those of some PDUs, of places from one on, that have arrived whole come at the end of the life
abbrev pub closing : (ℕ → Bool) → ℕ → List Next → Receiving → Receiving
closing whole place [] r = r
closing whole place (pdu ∷ pdus) r =
    closing whole (place + 1) pdus (if whole place then arrived r pdu.octets Reestablished else r)

abbrev pub closed : (ℕ → Bool) → ℕ → List Next → (ℕ → Bool) → ℕ → Bool
closed whole place [] handed n = handed n
closed whole place (pdu ∷ pdus) handed n =
    closed whole (place + 1) pdus (if whole place then with_count pdu.count handed else handed) n

abbrev pub ended : Flow → Flow
ended f = record f {
  receiver = closing f.whole f.passed (drop f.passed f.stream) f.receiver;
  handed = closed f.whole f.passed (drop f.passed f.stream) f.handed;
}

abbrev pub begun : Flow → Keys → Flow
begun f keys = record f {
  sender = restarted_sending f.sender keys;
  receiver = restarted_receiving f.receiver keys;
  stream = [];
  whole = λ n. false;
  passed = 0;
  report = Some (report f.receiver);
}

abbrev pub happens : Flow → Event → Flow
happens f (Sends c) = record f {
  sender = after f.sender c;
  sdus = f.sdus ++ takes_new f.sender c;
  stream = f.stream ++ pdus_given f.sender c;
}
happens f (SetDiscard ttis) = record f { sender = record f.sender { discard = Some ttis } }
happens f (Arrive place) = record f { whole = λ n. n == place || f.whole n }
happens f HandUp = passes (slice_get f.stream f.passed) f
happens f Raise = record f {
  receiver = record f.receiver { ready = drop 1 f.receiver.ready };
  up = f.up ++ take 1 f.receiver.ready;
}
happens f (Restart keys) = begun (ended f) keys

abbrev pub run_am_pdcp : List Event → Flow → Flow
run_am_pdcp [] f = f
run_am_pdcp (e ∷ es) f = run_am_pdcp es (happens f e)

abbrev pub am_pdcp_outset : ℕ → Protection → ℕ → Flow
am_pdcp_outset bits p first = record {
  first = first;
  sdus = [];
  sender = start (Am bits) p first;
  receiver = fresh (Am bits) p first;
  up = [];
  stream = [];
  whole = λ n. false;
  passed = 0;
  handed = λ n. false;
  report = None;
}

-- ---- what can happen

-- octets that are a status report
pub record IsReport (kind : PdcpKind) (pdu : List ℕ) : Type 0 where
  pub fms : ℕ
  pub bitmap : List ℕ
  pub is : heard kind pdu ≡ Told fms bitmap

-- that of the receiver comes to the sender
abbrev pub Comes : Option (List ℕ) → PdcpKind → ℕ → List ℕ → Type 0
Comes None kind fms bitmap = ⊥
Comes (Some pdu) kind fms bitmap = heard kind pdu ≡ Told fms bitmap

-- what the sender doesn't refuse is submitted; RLC confirms what has arrived whole; what the sender
-- owes is a status report
abbrev pub CanCall : Flow → Call → Type 0
CanCall f (Submit sdu) = refusal f.sender sdu ≡ None
CanCall f Take = Unit {0}
CanCall f (Confirm place) = f.whole place ≡ true
CanCall f (Report fms bitmap) = Comes f.report f.sender.kind fms bitmap
CanCall f (Owe report) = IsReport f.sender.kind report
CanCall f Tick = Unit {0}
CanCall f Late = Unit {0}

-- only what RLC was given arrives, and what it hands up has arrived whole
abbrev pub IsGiven : Flow → Event → Type 0
IsGiven f (Sends c) = CanCall f c
IsGiven f (SetDiscard ttis) = Unit {0}
IsGiven f (Arrive place) = place < length f.stream
IsGiven f HandUp = f.whole f.passed ≡ true
IsGiven f Raise = Unit {0}
IsGiven f (Restart keys) = Unit {0}

abbrev pub AreGiven : Flow → List Event → Type 0
AreGiven f [] = Unit {0}
AreGiven f (e ∷ es) = IsGiven f e × AreGiven (happens f e) es
