-- Both ends of the PDCP of an unacknowledged data bearer, in one direction, through lives (TS
-- 36.323 5.1, 5.2). Between them RLC hands up some of the PDUs that it was given, in order, each
-- once and unchanged (TS 36.322 5.1.2.2, 5.4).
use Rattle.std.specs.Prelude.{◌≡◌, ℕ, ◌+◌, ◌-◌, ◌^◌, ◌<◌, ◌≤◌, List, [], ◌∷◌, ◌++◌, length, take}
use Rattle.std.specs.Prelude.{drop, Option, Some, None, slice_get}
use Rattle.eps_sec.specs.declared.Keys.{Keys}
use Rattle.pdcp_pdu.specs.declared.PdcpKind.TheVariants.{Um}
use Rattle.pdcp_pdu.specs.Kinds.{bits_of}
use Rattle.pdcp_sec.specs.Protection.{Protection}
use Rattle.pdcp_tx.specs.declared.sender.Next.{Next}
use Rattle.pdcp_tx.specs.State.{State as Sending, start, refusal}
use Rattle.pdcp_tx.specs.State.{restarted as restarted_sending}
use Rattle.pdcp_tx.specs.Runs.{Call, Submit, Take, Confirm, Report, Owe, Tick, Late, after}
use Rattle.pdcp_rx.specs.declared.got.Cause.{Cause}
use Rattle.pdcp_rx.specs.State.{State as Receiving, fresh, arrived}
use Rattle.pdcp_rx.specs.State.{restarted as restarted_receiving}
use Rattle.law_pdcp.specs.OneEnd.Given.{pdus_given}
use Rattle.law_pdcp.specs.OneEnd.Lives.{Step, Calls, SetDiscard as SetsDiscard, Restart as Restarts}
use Rattle.law_pdcp.specs.OneEnd.Lives.{takes_new}

-- `sdus` are the SDUs that were taken, in their order, through all lives; `up` is what was taken
-- from the receiver. Of this life `first` is the first COUNT, `earlier` how many SDUs were taken
-- before it, `stream` what RLC was given, and `passed` how many places of that lie at or below the
-- last one that RLC handed up. `handed` tells by its place in `sdus` each SDU whose PDU RLC handed
-- up, in the order in which it did.
pub record Flow : Type 0 where
  pub sdus : List (List ℕ)
  pub sender : Sending
  pub receiver : Receiving
  pub up : List (List ℕ)
  pub first : ℕ
  pub earlier : ℕ
  pub stream : List Next
  pub passed : ℕ
  pub handed : List ℕ

pub data Event : Type 0 where
  Sends : Call → Event  -- a call of the sender
  SetDiscard : ℕ → Event  -- another length of the discard timer
  HandUp : Cause → ℕ → Event  -- RLC hands up the PDU at a place, as it arrived or as the life ends
  Raise : Event  -- the first SDU that is ready goes up
  Restart : Keys → Event  -- the life ends, and the next one begins under other keys

-- ---- what they make of it

abbrev pub comes : Option Next → Cause → ℕ → Flow → Flow
comes None cause place f = f
comes (Some pdu) cause place f = record f {
  receiver = arrived f.receiver pdu.octets cause;
  passed = place + 1;
  handed = f.handed ++ (f.earlier + place) ∷ [];
}

-- both ends begin again with COUNT 0 (TS 36.323 5.2.1.2, 5.2.2.2)
abbrev pub begun : Flow → Keys → Flow
begun f keys = record f {
  sender = restarted_sending f.sender keys;
  receiver = restarted_receiving f.receiver keys;
  first = 0;
  earlier = length f.sdus;
  stream = [];
  passed = 0;
}

abbrev pub happens : Flow → Event → Flow
happens f (Sends c) = record f {
  sender = after f.sender c;
  sdus = f.sdus ++ takes_new f.sender c;
  stream = f.stream ++ pdus_given f.sender c;
}
happens f (SetDiscard ttis) = record f { sender = record f.sender { discard = Some ttis } }
happens f (HandUp cause place) = comes (slice_get f.stream place) cause place f
happens f Raise = record f {
  receiver = record f.receiver { ready = drop 1 f.receiver.ready };
  up = f.up ++ take 1 f.receiver.ready;
}
happens f (Restart keys) = begun f keys

abbrev pub run_um_pdcp : List Event → Flow → Flow
run_um_pdcp [] f = f
run_um_pdcp (e ∷ es) f = run_um_pdcp es (happens f e)

abbrev pub um_pdcp_outset : ℕ → Protection → ℕ → Flow
um_pdcp_outset bits p first = record {
  sdus = [];
  sender = start (Um bits) p first;
  receiver = fresh (Um bits) p first;
  up = [];
  first = first;
  earlier = 0;
  stream = [];
  passed = 0;
  handed = [];
}

-- ---- what can happen

-- what the sender doesn't refuse is submitted; nothing is confirmed, and there is no status report
abbrev pub CanCall : Sending → Call → Type 0
CanCall s (Submit sdu) = refusal s sdu ≡ None
CanCall s Take = Unit {0}
CanCall s (Confirm place) = ⊥
CanCall s (Report fms bitmap) = ⊥
CanCall s (Owe report) = ⊥
CanCall s Tick = Unit {0}
CanCall s Late = Unit {0}

-- RLC hands up what it was given, from a later place than any before
pub record IsLater (f : Flow) (place : ℕ) : Type 0 where
  pub later : f.passed ≤ place
  pub given : place < length f.stream

abbrev pub IsGiven : Flow → Event → Type 0
IsGiven f (Sends c) = CanCall f.sender c
IsGiven f (SetDiscard ttis) = Unit {0}
IsGiven f (HandUp cause place) = IsLater f place
IsGiven f Raise = Unit {0}
IsGiven f (Restart keys) = Unit {0}

abbrev pub AreGiven : Flow → List Event → Type 0
AreGiven f [] = Unit {0}
AreGiven f (e ∷ es) = IsGiven f e × AreGiven (happens f e) es

-- ---- which losses are short

-- how many COUNTs lie between that of a place and the last one that was handed up, or the beginning
-- of the life
abbrev pub left_out : Flow → ℕ → ℕ
left_out f place = place - f.passed

-- fewer than there are sequence numbers
abbrev pub IsShort : Flow → Event → Type 0
IsShort f (Sends c) = Unit {0}
IsShort f (SetDiscard ttis) = Unit {0}
IsShort f (HandUp cause place) = left_out f place < 2 ^ bits_of f.receiver.kind
IsShort f Raise = Unit {0}
IsShort f (Restart keys) = Unit {0}

abbrev pub AreShort : Flow → List Event → Type 0
AreShort f [] = Unit {0}
AreShort f (e ∷ es) = IsShort f e × AreShort (happens f e) es

-- ---- the sender of it by itself

abbrev pub steps_in : Event → List Step
steps_in (Sends c) = Calls c ∷ []
steps_in (SetDiscard ttis) = SetsDiscard ttis ∷ []
steps_in (HandUp cause place) = []
steps_in Raise = []
steps_in (Restart keys) = Restarts keys ∷ []

abbrev pub steps : List Event → List Step
steps [] = []
steps (e ∷ es) = steps_in e ++ steps es
