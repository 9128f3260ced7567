-- The PDUs of a call of an acknowledged bearer, as its `send` records name them: a STATUS where one is written, and
-- then at most one data PDU, new or again.
use Rattle.std.proofs.Common.{◌≡◌, ℕ, ◌-◌, ◌%◌, Bool, true, false, if◌then◌else◌, List, [], ◌∷◌, ◌++◌, map, Option}
use Rattle.std.proofs.Common.{Some, None, Result, Ok, Err, refl, ap, ◌∙◌, append-nil}
use Rattle.bearer.specs.Acknowledged.State.{State, Work, work}
use Rattle.bearer.specs.Acknowledged.Taking.{writes_status, status_told, prohibit_told, has_prohibit, poll_told}
use Rattle.bearer.specs.Acknowledged.Taking.{data_told, data_size, feeding, feeds, fed, answer, taking as am_taking}
use Rattle.bearer.specs.Acknowledged.Taking.{answer_of}
use Rattle.bearer.specs.declared.flow.Flow.TheVariants.{Am}
use Rattle.bearer.specs.Taking.{pdus, told}
use Rattle.bearer_pdcp.specs.Ends.{Ends}
use Rattle.bearer_pdcp.specs.Taking.{report_told, own_report_told, next_told, taken_told, taking_told}
use Rattle.bearer_types.specs.declared.event.Event.{Event}
use Rattle.bearer_types.specs.declared.event.Event.TheVariants as events
use Rattle.l2_types.specs.declared.event.How.{How}
use Rattle.l2_types.specs.declared.event.How.TheVariants as hows
use Rattle.pdcp_pdu.specs.declared.PdcpKind.{PdcpKind}
use Rattle.pdcp_pdu.specs.declared.PdcpKind.TheVariants as pdcp
use Rattle.pdcp_pdu.specs.declared.PdcpRefusal.{PdcpRefusal}
use Rattle.pdcp_pdu.specs.Pdus.{UserPdu, Sdu as DataSdu, Report}
use Rattle.pdcp_pdu.specs.Reading.{user_at}
use Rattle.pdcp_tx.specs.State.{Offer, offers, taking}
use Rattle.pdcp_tx.specs.declared.sender.Next.{Next}
use Rattle.promises.specs.Names.{SentPdu as NamedPdu, sent_pdus}
use Rattle.rlc_am_rx.specs.Status.{ack}
use Rattle.rlc_am_tx.specs.Need.{hungry}
use Rattle.rlc_pdu.specs.declared.outcome.Taken.{Taken}
use Rattle.rlc_pdu.specs.declared.outcome.Taken.TheVariants as taken
use Rattle.law_bearer.specs.AmBearer.Calls.{tells}
use Rattle.law_bearer.specs.AnyBearer.Acknowledged.{data_given}
use Rattle.law_bearer.specs.AnyBearer.Calls.{Take}
use Rattle.law_bearer.proofs.AnyBearer.SenderCalls.{answers_given}
use Rattle.law_sent.specs.Channels.{SentPdu}
use Rattle.law_sent.specs.Senders.{how_of}

-- how the PDUs are named of which events tell
abbrev pub hows_in : List Event → List How
hows_in told' = map (λ (n : NamedPdu). n.how) (sent_pdus told')

-- the PDUs of a call
pub record AreOfCall (b : State) (share : ℕ) (held : Option ℕ) (ps : List SentPdu) : Type 0 where
  pub octets_are : map (λ (p : SentPdu). p.octets) ps ≡ pdus (Am b) share held
  pub hows_are : map (λ (p : SentPdu). p.how) ps ≡ hows_in (tells b (Take share held))

-- ---- what RLC takes isn't sent yet

pub hows_then : (xs ys : List Event) → hows_in (xs ++ ys) ≡ hows_in xs ++ hows_in ys
hows_then [] ys = refl
hows_then (events.Send lcid how sn ∷ xs) ys = ap (λ (l : List How). how ∷ l) (hows_then xs ys)
hows_then (event ∷ xs) ys = hows_then xs ys

report_none : (lcid : ℕ) (r : Result UserPdu PdcpRefusal) → hows_in (report_told lcid r) ≡ []
report_none lcid (Err refusal) = refl
report_none lcid (Ok (DataSdu sn octets)) = refl
report_none lcid (Ok (Report fms bitmap)) = refl

own_report_none : (lcid : ℕ) (kind : PdcpKind) (pdu : List ℕ) → hows_in (own_report_told lcid kind pdu) ≡ []
own_report_none lcid pdcp.Srb pdu = refl
own_report_none lcid (pdcp.Um bits) pdu = report_none lcid (user_at bits pdu)
own_report_none lcid (pdcp.Am bits) pdu = report_none lcid (user_at bits pdu)

count_none : (lcid : ℕ) (kind : PdcpKind) (count : Option ℕ) (len : ℕ) (pdu : List ℕ)
    → hows_in (taken_told lcid kind count len pdu) ≡ []
count_none lcid kind (Some count) len pdu = refl
count_none lcid kind None len pdu = own_report_none lcid kind pdu

next_none : (lcid : ℕ) (kind : PdcpKind) (n : Option Next) → hows_in (next_told lcid kind n) ≡ []
next_none lcid kind None = refl
next_none lcid kind (Some n) = count_none lcid kind n.count n.len n.octets

pub taking_none : (e : Ends) → hows_in (taking_told e) ≡ []
unfolding taking_told
taking_none e = next_none e.lcid e.kind (taking e.tx)

fed_hows : (w : Work) → hows_in (fed w).events ≡ hows_in w.events
fed_hows w =
    hows_then w.events (taking_told w.pdcp)
    ∙ (ap (λ (l : List How). hows_in w.events ++ l) (taking_none w.pdcp) ∙ append-nil (hows_in w.events))

feeds_hows : (os : List Offer) (size : ℕ) (held : Option ℕ) (w : Work)
    → hows_in (feeds os size held w).events ≡ hows_in w.events
feeds_hows [] size held w = refl
feeds_hows (o ∷ os) size held w = by (hungry w.tx size held) (feeds_hows os size held (fed w) ∙ fed_hows w)
  where
    by : (b : Bool) → hows_in (feeds os size held (fed w)).events ≡ hows_in w.events
        → hows_in (if b then feeds os size held (fed w) else w).events ≡ hows_in w.events
    by true e = e
    by false e = refl

-- ---- the STATUS, and the data PDU

abbrev pub status_hows : Bool → List How
status_hows writes = if writes then hows.Status ∷ [] else []

abbrev pub data_hows : Taken → List How
data_hows (taken.Piece number fresh polled octets) = how_of fresh ∷ []
data_hows taken.Idle = []
data_hows taken.Small = []
data_hows taken.Shut = []
data_hows taken.Held = []
data_hows taken.Stopped = []

prohibits : (lcid : ℕ) (has : Bool) → hows_in (prohibit_told lcid has) ≡ []
prohibits lcid true = refl
prohibits lcid false = refl

polls : (lcid : ℕ) (polled : Bool) → hows_in (poll_told lcid polled) ≡ []
polls lcid true = refl
polls lcid false = refl

status_named : (b : State) (share : ℕ)
    → hows_in (status_told b.pdcp.lcid (has_prohibit b) b.rx share) ≡ status_hows (writes_status b.rx share)
status_named b share = by (writes_status b.rx share)
  where
    sn : ℕ
    sn = ack b.rx (share - 3) % 1024

    by : (due : Bool)
        → hows_in (if due
        then events.Send b.pdcp.lcid hows.Status sn ∷ prohibit_told b.pdcp.lcid (has_prohibit b) else [])
        ≡ status_hows due
    by true = ap (λ (l : List How). hows.Status ∷ l) (prohibits b.pdcp.lcid (has_prohibit b))
    by false = refl

data_named : (lcid : ℕ) (t : Taken) → hows_in (data_told lcid t) ≡ data_hows t
data_named lcid (taken.Piece number true polled octets) = ap (λ (l : List How). hows.New ∷ l) (polls lcid polled)
data_named lcid (taken.Piece number false polled octets) = ap (λ (l : List How). hows.Re ∷ l) (polls lcid polled)
data_named lcid taken.Idle = refl
data_named lcid taken.Small = refl
data_named lcid taken.Shut = refl
data_named lcid taken.Held = refl
data_named lcid taken.Stopped = refl

am_hows : (b : State) (share : ℕ) (held : Option ℕ)
    → hows_in (am_taking b share held) ≡ status_hows (writes_status b.rx share) ++ data_hows (answer b share held)
unfolding am_taking answer
am_hows b share held =
    let size = data_size b share in
    let w = feeding b share held in
    let begins = status_told b.pdcp.lcid (has_prohibit b) b.rx share in
    let given = answer_of w size held in
    hows_then w.events (data_told w.pdcp.lcid given)
    ∙ (ap (λ (l : List How). l ++ hows_in (data_told w.pdcp.lcid given))
    (feeds_hows (offers b.pdcp.tx) size held (work b.pdcp b.tx begins) ∙ status_named b share)
    ∙ ap (λ (l : List How). status_hows (writes_status b.rx share) ++ l) (data_named w.pdcp.lcid given))

pub take_hows : (b : State) (share : ℕ) (held : Option ℕ)
    → hows_in (tells b (Take share held))
    ≡ status_hows (writes_status b.rx share) ++ data_hows (data_given b share held)
unfolding told
take_hows b share held =
    am_hows b share held
    ∙ ap (λ (t : Taken). status_hows (writes_status b.rx share) ++ data_hows t) (answers_given b share held)
