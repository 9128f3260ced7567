-- Both ends of the PDCP of a signalling bearer, in one direction and in a life (TS 36.323 5.1.1,
-- 5.1.2.2). Between them RLC hands up the PDUs that it was given: in their order, each once and
-- unchanged (TS 36.322 5.1.3.2).
use Rattle.std.specs.Prelude.{◌≡◌, ℕ, ◌+◌, ◌^◌, ◌<◌, ◌≤◌, List, [], ◌∷◌, ◌++◌, length, take, drop}
use Rattle.std.specs.Prelude.{Option, Some, None, slice_get}
use Rattle.pdcp_pdu.specs.declared.PdcpKind.TheVariants.{Srb}
use Rattle.pdcp_tx.specs.declared.sender.Next.{Next}
use Rattle.pdcp_tx.specs.State.{State as Sending, refusal}
use Rattle.pdcp_tx.specs.Runs.{Call, Submit, Take, Confirm, Report, Owe, Tick, Late, after}
use Rattle.pdcp_rx.specs.declared.got.Cause.TheVariants.{Arrived}
use Rattle.pdcp_rx.specs.State.{State as Receiving, arrived}
use Rattle.law_pdcp.specs.OneEnd.Given.{pdus_given}
use Rattle.law_pdcp.specs.OneEnd.Lives.{takes_new}

-- `first` is the first COUNT of the life, `sdus` the SDUs that were taken in it, `stream` what RLC
-- was given, `passed` how many PDUs of that RLC has handed up, and `up` what was taken from the
-- receiver
pub record Flow : Type 0 where
  pub first : ℕ
  pub sdus : List (List ℕ)
  pub sender : Sending
  pub receiver : Receiving
  pub stream : List Next
  pub passed : ℕ
  pub up : List (List ℕ)

pub data Event : Type 0 where
  Sends : Call → Event  -- a call of the sender
  HandUp : Event  -- RLC hands up the next PDU
  Raise : Event  -- the first SDU that is ready goes up

-- ---- what they make of it

abbrev pub passes : Option Next → Flow → Flow
passes None f = f
passes (Some pdu) f = record f {
  receiver = arrived f.receiver pdu.octets Arrived;
  passed = f.passed + 1;
}

abbrev pub happens : Flow → Event → Flow
happens f (Sends c) = record f {
  sender = after f.sender c;
  sdus = f.sdus ++ takes_new f.sender c;
  stream = f.stream ++ pdus_given f.sender c;
}
happens f HandUp = passes (slice_get f.stream f.passed) f
happens f Raise = record f {
  receiver = record f.receiver { ready = drop 1 f.receiver.ready };
  up = f.up ++ take 1 f.receiver.ready;
}

abbrev pub run_srb_pdcp : List Event → Flow → Flow
run_srb_pdcp [] f = f
run_srb_pdcp (e ∷ es) f = run_srb_pdcp es (happens f e)

-- a life begins
abbrev pub srb_pdcp_outset : Sending → Receiving → Flow
srb_pdcp_outset s r = record {
  first = s.next;
  sdus = [];
  sender = s;
  receiver = r;
  stream = [];
  passed = 0;
  up = [];
}

-- ---- how it begins

-- of signalling, with the same COUNT and under the same keys, without discard timers; nothing
-- waits, is kept, held or ready
pub record SrbPdcpBeginAlike (s : Sending) (r : Receiving) : Type 0 where
  pub sends : s.kind ≡ Srb
  pub hears : r.kind ≡ Srb
  pub key : r.protection ≡ s.protection
  pub awaited : r.next ≡ s.next
  pub few : s.next ≤ 2 ^ 32
  pub bound : s.bound ≡ s.next + 2 ^ 32
  pub owes_none : s.owed ≡ None
  pub none_again : s.again ≡ []
  pub none_given : s.given.entries ≡ []
  pub none_waits : s.waiting ≡ []
  pub unset : s.discard ≡ None
  pub none_held : r.held ≡ []
  pub none_ready : r.ready ≡ []

-- ---- what can happen

-- what the sender doesn't refuse is submitted; there is no status report
abbrev pub CanCall : Sending → Call → Type 0
CanCall s (Submit sdu) = refusal s sdu ≡ None
CanCall s Take = Unit {0}
CanCall s (Confirm place) = Unit {0}
CanCall s (Report fms bitmap) = ⊥
CanCall s (Owe report) = ⊥
CanCall s Tick = Unit {0}
CanCall s Late = Unit {0}

-- RLC hands up what it was given
abbrev pub IsGiven : Flow → Event → Type 0
IsGiven f (Sends c) = CanCall f.sender c
IsGiven f HandUp = f.passed < length f.stream
IsGiven f Raise = Unit {0}

abbrev pub AreGiven : Flow → List Event → Type 0
AreGiven f [] = Unit {0}
AreGiven f (e ∷ es) = IsGiven f e × AreGiven (happens f e) es
