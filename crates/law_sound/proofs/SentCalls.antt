-- An acknowledged bearer and its calls, beside the flow that it sends while the PDUs of a journal are checked: what it
-- writes is right, and so, where it is of data, it stands again.
use Rattle.std.proofs.Common.{◌≡◌, ◌≤◌, ℕ, ◌-◌, Bool, true, false, if◌then◌else◌, List, [], ◌∷◌, ◌++◌, map}
use Rattle.std.proofs.Common.{Option, Some, None, Result, Ok, Err, refl, ap, sym, subst, ◌∙◌, arith}
use Rattle.std.specs.List.{AllByRecursion}
use Rattle.bearer.specs.Acknowledged.State.{State}
use Rattle.bearer.specs.Acknowledged.Taking.{writes_status, status_pdu, data_size}
use Rattle.bearer.specs.declared.flow.Flow.TheVariants.{Am}
use Rattle.bearer_pdcp.specs.Ends.{Ends}
use Rattle.bearer_pdcp.specs.Telling.{pdus_of}
use Rattle.l2_types.specs.declared.config.AmTxConfig.{AmTxConfig}
use Rattle.l2_types.specs.declared.event.How.{How}
use Rattle.l2_types.specs.declared.event.How.TheVariants as hows
use Rattle.pdcp_pdu.specs.declared.PdcpKind.{PdcpKind}
use Rattle.pdcp_pdu.specs.declared.PdcpKind.TheVariants as pdcp
use Rattle.pdcp_pdu.specs.Kinds.{IsKind}
use Rattle.pdcp_sec.specs.Protection.{Protection}
use Rattle.pdu_show.specs.declared.kinds.Layout.{Layout}
use Rattle.pdu_show.specs.declared.kinds.Layout.TheVariants as layouts
use Rattle.rlc_am_rx.specs.Status.{ack}
use Rattle.rlc_am_tx.specs.Machine.{State as Sender, start, turn}
use Rattle.rlc_am_tx_window.specs.Window.{TxWindow}
use Rattle.rlc_pdu.specs.declared.fault.RlcRefusal.{RlcRefusal}
use Rattle.rlc_pdu.specs.declared.outcome.Taken.{Taken}
use Rattle.rlc_pdu.specs.declared.outcome.Taken.TheVariants as taken
use Rattle.rlc_pdu.specs.Pdus.{AcknowledgedPdu, Payload, Status as Control, StatusPdu}
use Rattle.rlc_pdu.specs.Reading.{am_at}
use Rattle.journal_account.specs.FlowAccount.{account_of}
use Rattle.journal_account.specs.FlowEvents.{FlowEvent}
use Rattle.journal_account.specs.FlowSending.{acked_kept}
use Rattle.journal_given.specs.Supplies.{Supply, History}
use Rattle.journal_sent.specs.RightSent.{Flow, Sent, IsSdu, PduTest, PduIsSent, PduIsShaped, SentAs, ShapedAs}
use Rattle.journal_sent.specs.RightSent.{AmdIsSent, AmdIsShaped}
use Rattle.journal_sent.specs.SentFlows.{flow_begun, floored}
use Rattle.journal_sent.specs.SentFlows.{flow_judges, judges_by, judges_amd}
use Rattle.journal_sent.specs.SentPdus.{histories, nothing_sent}
use Rattle.law_account.specs.Accounted.{AreAccounted}
use Rattle.law_account.specs.History.{Follows}
use Rattle.law_bearer.specs.AmBearer.Calls.{IsOfData, tells}
use Rattle.law_bearer.specs.AnyBearer.Acknowledged.{offers_in, offered_to, has_more_behind, data_given, status_heard}
use Rattle.law_bearer.specs.AnyBearer.Acknowledged.{SenderGoes, sender_calls}
use Rattle.law_bearer.specs.AnyBearer.Calls.{Call, Submit, Take, Arrive, Expire, Tick, SetDiscard, after, ends}
use Rattle.law_bearer.specs.AnyBearer.Sending.{sends_on}
use Rattle.law_bearer.proofs.AnyBearer.Flows.{called, doing}
use Rattle.law_bearer.proofs.AnyBearer.Sender.{moved_same}
use Rattle.law_bearer.proofs.AnyBearer.SenderCalls.{sender_goes_on, sends_then, writes_what_rlc_gives}
use Rattle.law_deliver.specs.AmFlow.Pair.{HasOctet}
use Rattle.law_given.specs.Supplied.{Progress, IsSupplied}
use Rattle.law_given.specs.SupplyLaws.{AreRight as AreRightEvents}
use Rattle.law_given.specs.SupplyPdus.{IsSpelled}
use Rattle.law_given.proofs.SupplyPdusKept.{WereSubmitted}
use Rattle.law_given.proofs.SupplyPdus.{offered_are_told}
use Rattle.law_node.proofs.Reading.{report_reads}
use Rattle.law_node.proofs.Ready.{WritesWell}
use Rattle.law_node.proofs.Senders.{size_most}
use Rattle.law_rlc.specs.AmSender.Run.{Call as SenderCall, Offer, Take as Taking, after as sender_after}
use Rattle.law_run.proofs.OwnPdus.Bearers.{IsQuiet}
use Rattle.law_sent.specs.Channels.{SentPdu, AreRight, behind_one, behind_all}
use Rattle.law_sent.specs.Senders.{how_of, IsOpen, AnswerIsRight, behind_answer}
use Rattle.law_sound.proofs.SentBeside.{IsRun, IsSentBy, flow_over}
use Rattle.law_sound.proofs.SentNames.{AreOfCall, status_hows, data_hows, take_hows}
use Rattle.law_sound.proofs.SentRuns.{writes_on, status_run, own_runs, offers_run, base_grows, offers_window}
use Rattle.law_sound.proofs.SentRuns.{turn_open}
use Rattle.law_sound.proofs.SentStreams.{gives_all, flow_is, Stays}

-- ---- a bearer stands beside its flow

-- it goes on so behind a call, where its sender has these streams
goes_to : (bits : ℕ) (b d : State) (f g : Flow) → IsSentBy bits b f → Stays f g → IsRun d.tx g.stream
    → d.pdcp.tx.protection ≡ b.pdcp.tx.protection → b.tx.window.base ≤ d.tx.window.base → IsSentBy bits d g
goes_to bits b d f g h s r same le =
    let low = h.floor_low in
    let floor = s.floor in
    record {
      run = r;
      layout_is = s.layout ∙ h.layout_is;
      none_wait = s.waiting ∙ h.none_wait;
      cover_is = s.cover ∙ h.cover_is
          ∙ ap (λ (p : Protection). Some (record { kind = pdcp.Am bits; protection = p })) (sym same);
      floor_low = omega (arith, low, floor, le);
    }

-- RLC's sender begins with nothing
pub begun_run : (config : AmTxConfig) → IsRun (start config) (nothing_sent histories)
begun_run config = record {
  config = config;
  calls = [];
  asked = tt;
  state_is = refl;
  streams = record {
    octets = record { stream_is = refl; fields_are = refl; sent = tt };
    marks = record { stream_is = refl; fields_are = refl; sent = tt };
  };
}

pub sent_begins : (bits : ℕ) (config : AmTxConfig) (b : State) → b.tx ≡ start config
    → IsSentBy bits b (flow_begun histories (layouts.Am (pdcp.Am bits))
    (Some (record { kind = pdcp.Am bits; protection = b.pdcp.tx.protection })))
sent_begins bits config b e = record {
  run = subst (λ (s : Sender). IsRun s (nothing_sent histories)) (sym e) (begun_run config);
  layout_is = refl;
  none_wait = refl;
  cover_is = refl;
  floor_low = omega arith;
}

-- the fields below VT(A) are forgotten as a group ends
pub sent_settles : (bits : ℕ) (b : State) (f : Flow) → IsSentBy bits b f
    → IsSentBy bits b (floored histories b.tx.window.base f)
sent_settles bits b f h = record {
  run = h.run;
  layout_is = h.layout_is;
  none_wait = h.none_wait;
  cover_is = h.cover_is;
  floor_low = omega arith;
}

-- ---- a call in which nothing is written

-- all but the stream stays
streamed : (f : Flow) (x : Sent) → Stays f (record f { stream = x })
streamed f x = record { layout = refl; cover = refl; waiting = refl; given = refl; floor = refl }

pub protection_stays : (b d : State) (c : Call) → after (Am b) c ≡ Am d → d.pdcp.tx.protection ≡ b.pdcp.tx.protection
protection_stays b d c e =
    let m = called (Am b) b.pdcp c refl in
    let is : Some d.pdcp ≡ Some m.next = sym (ap ends e) ∙ m.is in
    let same : d.pdcp ≡ m.next = cc in
    ap (λ (x : Ends). x.tx.protection) same ∙ (moved_same b.pdcp.tx m.next.tx (doing (Am b) c) m.passed.tx).protection

base_behind : (s t : Sender) (calls : List SenderCall) → SenderGoes s t calls → s.window.base ≤ t.window.base
base_behind s t calls m =
    let first = base_grows calls s in
    let last = base_grows m.own (sends_on calls s) in
    let same = ap (λ (u : Sender). u.window.base) m.left in
    omega (arith, first, last, same)

heard_runs : (read : Result AcknowledgedPdu RlcRefusal) (s : Sender) (x : Sent) → IsRun s x
    → IsRun (sends_on (status_heard read) s) x
heard_runs (Ok (Control pdu)) s x h = status_run s x pdu h
heard_runs (Ok (Payload pdu)) s x h = h
heard_runs (Err refused) s x h = h

quiet_runs : (b : State) (c : Call) (x : Sent) → IsQuiet c → IsRun b.tx x → IsRun (sends_on (sender_calls b c) b.tx) x
quiet_runs b (Submit sdu) x q h = h
quiet_runs b (Take share held) x q h = absurd q
quiet_runs b (Arrive pdu) x q h = heard_runs (am_at pdu) b.tx x h
quiet_runs b (Expire clock) x q h = h
quiet_runs b Tick x q h = h
quiet_runs b (SetDiscard ttis) x q h = h

pub call_runs : (b d : State) (c : Call) (x : Sent) → IsQuiet c → after (Am b) c ≡ Am d → IsRun b.tx x → IsRun d.tx x
call_runs b d c x q e h =
    let m = sender_goes_on b d c e in
    subst (λ (s : Sender). IsRun s x) (sym m.left)
    (own_runs m.own (sends_on (sender_calls b c) b.tx) x m.are_own (quiet_runs b c x q h))

pub call_base : (b d : State) (c : Call) → after (Am b) c ≡ Am d → b.tx.window.base ≤ d.tx.window.base
call_base b d c e = base_behind b.tx d.tx (sender_calls b c) (sender_goes_on b d c e)

pub calls_keep_sent : (bits : ℕ) (b d : State) (c : Call) (f : Flow) → IsQuiet c → after (Am b) c ≡ Am d
    → IsSentBy bits b f → IsSentBy bits d f
calls_keep_sent bits b d c f q e h =
    goes_to bits b d f f h (streamed f f.stream) (call_runs b d c f.stream q e h.run) (protection_stays b d c e)
    (call_base b d c e)

-- ---- a PDU that is written

abbrev pub Right : PduTest
Right acked how passed octets f = PduIsSent acked how passed octets f × PduIsShaped acked how passed octets f

abbrev RightAs : Layout → PduTest
RightAs layout acked how passed octets f =
    SentAs layout acked how passed octets f × ShapedAs layout acked how octets f

-- what stays of the flow
amd_stays : (acked : ℕ → Bool) (how : How) (read : Result AcknowledgedPdu RlcRefusal) (f : Flow)
    → Stays f (judges_amd histories acked how read f).flow
amd_stays acked hows.New (Ok (Payload pdu)) f = streamed f _
amd_stays acked hows.Re (Ok (Payload pdu)) f = streamed f f.stream
amd_stays acked how read f = streamed f f.stream

one_stays : (kind : PdcpKind) (acked : ℕ → Bool) (p : SentPdu) (f : Flow) → f.layout ≡ layouts.Am kind
    → Stays f (behind_one acked p f)
one_stays kind acked p f e =
    subst (λ (layout : Layout). Stays f (judges_by histories layout acked p.how p.passed p.octets f).flow) (sym e)
    (amd_stays acked p.how (am_at p.octets) f)

all_stay : (kind : PdcpKind) (acked : ℕ → Bool) (ps : List SentPdu) (f : Flow) → f.layout ≡ layouts.Am kind
    → Stays f (behind_all acked ps f)
all_stay kind acked [] f e = streamed f f.stream
all_stay kind acked (p ∷ ps) f e =
    let one = one_stays kind acked p f e in
    let rest = all_stay kind acked ps (behind_one acked p f) (one.layout ∙ e) in
    record {
      layout = rest.layout ∙ one.layout;
      cover = rest.cover ∙ one.cover;
      waiting = rest.waiting ∙ one.waiting;
      given = rest.given ∙ one.given;
      floor = rest.floor ∙ one.floor;
    }

-- ---- a STATUS

control_right : (acked : ℕ → Bool) (how : How) (pdu : StatusPdu) (f : Flow)
    → AmdIsSent acked how (Ok (Control pdu)) f × AmdIsShaped acked how (Ok (Control pdu)) f
control_right acked hows.Tm pdu f = (tt, tt)
control_right acked hows.New pdu f = (tt, tt)
control_right acked hows.Re pdu f = (tt, tt)
control_right acked hows.Status pdu f = (tt, tt)

control_leaves : (acked : ℕ → Bool) (how : How) (pdu : StatusPdu) (f : Flow)
    → (judges_amd histories acked how (Ok (Control pdu)) f).flow ≡ f
control_leaves acked hows.Tm pdu f = refl
control_leaves acked hows.New pdu f = refl
control_leaves acked hows.Re pdu f = refl
control_leaves acked hows.Status pdu f = refl

status_right : (kind : PdcpKind) (acked : ℕ → Bool) (p : SentPdu) (pdu : StatusPdu) (f : Flow)
    → am_at p.octets ≡ Ok (Control pdu) → f.layout ≡ layouts.Am kind → Right acked p.how p.passed p.octets f
status_right kind acked p pdu f read e =
    subst (λ (layout : Layout). RightAs layout acked p.how p.passed p.octets f) (sym e)
    (subst (λ (r : Result AcknowledgedPdu RlcRefusal). AmdIsSent acked p.how r f × AmdIsShaped acked p.how r f)
    (sym read) (control_right acked p.how pdu f))

status_leaves : (kind : PdcpKind) (acked : ℕ → Bool) (p : SentPdu) (pdu : StatusPdu) (f : Flow)
    → am_at p.octets ≡ Ok (Control pdu) → f.layout ≡ layouts.Am kind → behind_one acked p f ≡ f
status_leaves kind acked p pdu f read e =
    ap (λ (layout : Layout). (judges_by histories layout acked p.how p.passed p.octets f).flow) e
    ∙ (ap (λ (r : Result AcknowledgedPdu RlcRefusal). (judges_amd histories acked p.how r f).flow) read
    ∙ control_leaves acked p.how pdu f)

status_reads : (l : ℕ) (b : State) (share : ℕ) → WritesWell l (Am b)
    → (pdu : StatusPdu) × (am_at (status_pdu b.rx share) ≡ Ok (Control pdu))
status_reads l b share w = (_, (report_reads b.rx (share - 3) (ack b.rx (share - 3)) w.ready.cells).read)

-- ---- the data PDU

abbrev AreOf : List (List ℕ) → List How → List SentPdu → Type 0
AreOf octets named ps = (map (λ (p : SentPdu). p.octets) ps ≡ octets) × (map (λ (p : SentPdu). p.how) ps ≡ named)

record AnswerIsWritten (acked : ℕ → Bool) (t : Taken) (ps : List SentPdu) (f : Flow) : Type 0 where
  right : AreRight Right acked ps f
  passed : Option (List ℕ)
  behind : behind_all acked ps f ≡ behind_answer acked passed t f

none_written : (acked : ℕ → Bool) (t : Taken) (ps : List SentPdu) (f : Flow)
    → map (λ (p : SentPdu). p.octets) ps ≡ [] → behind_answer acked None t f ≡ f → AnswerIsWritten acked t ps f
none_written acked t [] f none same = record { right = tt; passed = None; behind = sym same }
none_written acked t (p ∷ ps) f none same = absurd cc

one_written : (acked : ℕ → Bool) (number : ℕ) (fresh polled : Bool) (octets : List ℕ) (ps : List SentPdu) (f : Flow)
    → AreOf (octets ∷ []) (how_of fresh ∷ []) ps
    → ((passed : Option (List ℕ)) → AnswerIsRight acked passed (taken.Piece number fresh polled octets) f)
    → AnswerIsWritten acked (taken.Piece number fresh polled octets) ps f
one_written acked number fresh polled octets [] f a right = let none = a.0 in absurd cc
one_written acked number fresh polled octets (p ∷ []) f a right =
    let all = a.0 in
    let named = a.1 in
    let is : p.octets ≡ octets = cc in
    let how_is : p.how ≡ how_of fresh = cc in
    record {
      right = (
        subst (λ (how : How). Right acked how p.passed p.octets f) (sym how_is)
            (subst (λ (l : List ℕ). Right acked (how_of fresh) p.passed l f) (sym is) (right p.passed)),
        tt,
      );
      passed = p.passed;
      behind = ap (λ (how : How). (flow_judges histories acked how p.passed p.octets f).flow) how_is
          ∙ ap (λ (l : List ℕ). (flow_judges histories acked (how_of fresh) p.passed l f).flow) is;
    }
one_written acked number fresh polled octets (p ∷ q ∷ ps) f a right = let more = a.0 in absurd cc

data_written : (acked : ℕ → Bool) (t : Taken) (ps : List SentPdu) (f : Flow) → AreOf (pdus_of t) (data_hows t) ps
    → ((passed : Option (List ℕ)) → AnswerIsRight acked passed t f) → AnswerIsWritten acked t ps f
data_written acked (taken.Piece number fresh polled octets) ps f a right =
    one_written acked number fresh polled octets ps f a right
data_written acked taken.Idle ps f a right = none_written acked taken.Idle ps f a.0 refl
data_written acked taken.Small ps f a right = none_written acked taken.Small ps f a.0 refl
data_written acked taken.Shut ps f a right = none_written acked taken.Shut ps f a.0 refl
data_written acked taken.Held ps f a right = none_written acked taken.Held ps f a.0 refl
data_written acked taken.Stopped ps f a right = none_written acked taken.Stopped ps f a.0 refl

-- ---- all that a call writes

status_then : (kind : PdcpKind) (acked : ℕ → Bool) (due : Bool) (status : List ℕ) (pdu : StatusPdu) (t : Taken)
    (ps : List SentPdu) (f : Flow) → am_at status ≡ Ok (Control pdu) → f.layout ≡ layouts.Am kind
    → AreOf ((if due then status ∷ [] else []) ++ pdus_of t) (status_hows due ++ data_hows t) ps
    → ((passed : Option (List ℕ)) → AnswerIsRight acked passed t f) → AnswerIsWritten acked t ps f
status_then kind acked false status pdu t ps f read e a right = data_written acked t ps f a right
status_then kind acked true status pdu t [] f read e a right = let none = a.0 in absurd cc
status_then kind acked true status pdu t (p ∷ ps) f read e a right =
    let all = a.0 in
    let named = a.1 in
    let is : p.octets ≡ status = cc in
    let octets : map (λ (q : SentPdu). q.octets) ps ≡ pdus_of t = cc in
    let rest : map (λ (q : SentPdu). q.how) ps ≡ data_hows t = cc in
    let reads : am_at p.octets ≡ Ok (Control pdu) = ap am_at is ∙ read in
    let leaves : behind_one acked p f ≡ f = status_leaves kind acked p pdu f reads e in
    let more = data_written acked t ps f (octets, rest) right in
    record {
      right = (
        status_right kind acked p pdu f reads e,
        subst (λ (g : Flow). AreRight Right acked ps g) (sym leaves) more.right,
      );
      passed = more.passed;
      behind = ap (λ (g : Flow). behind_all acked ps g) leaves ∙ more.behind;
    }

-- with the PDUs that RLC is given, of a bearer of any kind
pub record IsWriting (kind : PdcpKind) (b d : State) (share : ℕ) (held : Option ℕ) (acked : ℕ → Bool)
    (ps : List SentPdu) (g : Flow) : Type 0 where
  pub few : share ≤ 9424
  pub lcid : ℕ
  pub well : WritesWell lcid (Am b)
  pub goes : after (Am b) (Take share held) ≡ Am d
  pub of_call : AreOfCall b share held ps
  pub layout_is : g.layout ≡ layouts.Am kind
  pub floor_low : g.floor ≤ b.tx.window.base
  pub run : IsRun (offered_to b share held) g.stream
  -- the numbers that are acknowledged, by an account
  pub most : ℕ
  pub es : List FlowEvent
  pub follows : Follows most es b.tx
  pub acks : (n : ℕ) → acked n ≡ acked_kept n (account_of most es).sending

pub record IsWritten (d : State) (acked : ℕ → Bool) (ps : List SentPdu) (g : Flow) : Type 0 where
  pub right : AreRight Right acked ps g
  pub run : IsRun d.tx (behind_all acked ps g).stream
  pub stays : Stays g (behind_all acked ps g)

pub offered_writes : (kind : PdcpKind) (b d : State) (share : ℕ) (held : Option ℕ) (acked : ℕ → Bool)
    (ps : List SentPdu) (g : Flow) → IsWriting kind b d share held acked ps g → IsWritten d acked ps g
offered_writes kind b d share held acked ps g h =
    let offered = offers_in b share held in
    let size = data_size b share in
    let more = has_more_behind b share held in
    let offers : List SenderCall = map (λ pdu. Offer pdu) offered in
    let last : List SenderCall = Taking size held more ∷ [] in
    let few = size_most b share h.few in
    let tx = offered_to b share held in
    let window : tx.window ≡ b.tx.window = offers_window offered b.tx in
    let low = h.floor_low in
    let base : tx.window.base ≡ b.tx.window.base = ap (λ (w : TxWindow). w.base) window in
    let opens : IsOpen acked g tx (turn tx size held more) =
    turn_open h.most h.es tx size held more acked g h.follows.history
    (subst (λ (w : TxWindow). AreAccounted h.most w (account_of h.most h.es).sending) (sym window) h.follows.window)
    h.acks (omega (arith, low, base)) in
    let w = writes_on kind acked tx size held more g (omega (arith, few)) h.layout_is opens h.run in
    let reads = status_reads h.lcid b share h.well in
    let x = status_then kind acked (writes_status b.rx share) (status_pdu b.rx share) reads.0
    (data_given b share held) ps g reads.1 h.layout_is
    (h.of_call.octets_are ∙ writes_what_rlc_gives b share held, h.of_call.hows_are ∙ take_hows b share held) w.right in
    let m = sender_goes_on b d (Take share held) h.goes in
    let u = sender_after tx (Taking size held more) in
    let left : d.tx ≡ sends_on m.own u = m.left ∙ ap (sends_on m.own) (sends_then b.tx offers last) in
    let stream : Sent = (behind_answer acked x.passed (data_given b share held) g).stream in
    let runs : IsRun d.tx stream =
    subst (λ (t : Sender). IsRun t stream) (sym left) (own_runs m.own u stream m.are_own (w.run x.passed)) in
    record {
      right = x.right;
      run = subst (λ (k : Flow). IsRun d.tx k.stream) (sym x.behind) runs;
      stays = all_stay kind acked ps g h.layout_is;
    }

-- ---- of data

pub record CanTake (bits l : ℕ) (rlc : Progress) (b : State) (share : ℕ) (held : Option ℕ) (s : Supply History)
    : Type 0 where
  pub few : share ≤ 9424
  pub some : AllByRecursion HasOctet (offers_in b share held)
  pub well : WritesWell l (Am b)
  pub of_data : IsOfData bits b
  pub known : IsKind (pdcp.Am bits)
  -- a status report that PDCP owes is spelled as it is read
  pub spelled : IsSpelled bits b.pdcp.tx.owed
  pub supplied : IsSupplied rlc b.pdcp.tx s
  pub bits_are : s.bits ≡ bits
  pub were : WereSubmitted IsSdu s.takes.events
  pub right : AreRightEvents (tells b (Take share held)) s

-- the flow behind what RLC takes is the flow with these PDUs
taken_flow : (bits l : ℕ) (rlc : Progress) (b d : State) (share : ℕ) (held : Option ℕ) (s : Supply History) (f : Flow)
    → CanTake bits l rlc b share held s → after (Am b) (Take share held) ≡ Am d → IsSentBy bits b f
    → flow_over (tells b (Take share held)) s f ≡ gives_all (offers_in b share held) f
taken_flow bits l rlc b d share held s f can e h =
    flow_is bits b.pdcp.tx.protection (tells b (Take share held)) s f can.bits_are
    (record { layout_is = h.layout_is; cover_is = h.cover_is }) can.were can.right
    ∙ ap (λ (pdus' : List (List ℕ)). gives_all pdus' f)
    (sym (offered_are_told rlc b d (Take share held) s tt (subst (λ (n : ℕ). IsKind (pdcp.Am n)) (sym can.bits_are)
    can.known) (subst (λ (n : ℕ). IsOfData n b) (sym can.bits_are) can.of_data)
    (subst (λ (n : ℕ). IsSpelled n b.pdcp.tx.owed) (sym can.bits_are) can.spelled) e can.supplied))

given_writes : (bits l : ℕ) (rlc : Progress) (b d : State) (share : ℕ) (held : Option ℕ) (s : Supply History) (f : Flow)
    (most : ℕ) (es : List FlowEvent) (acked : ℕ → Bool) (ps : List SentPdu) → CanTake bits l rlc b share held s
    → after (Am b) (Take share held) ≡ Am d → IsSentBy bits b f → Follows most es b.tx
    → ((n : ℕ) → acked n ≡ acked_kept n (account_of most es).sending) → AreOfCall b share held ps
    → AreRight Right acked ps (gives_all (offers_in b share held) f)
    × IsSentBy bits d (behind_all acked ps (gives_all (offers_in b share held) f))
given_writes bits l rlc b d share held s f most es acked ps can e h follows are of_call =
    let g = gives_all (offers_in b share held) f in
    let w = offered_writes (pdcp.Am bits) b d share held acked ps g (record {
      few = can.few;
      lcid = l;
      well = can.well;
      goes = e;
      of_call = of_call;
      layout_is = h.layout_is;
      floor_low = h.floor_low;
      run = offers_run (offers_in b share held) b.tx f.stream can.some h.run;
      most = most;
      es = es;
      follows = follows;
      acks = are;
    }) in
    let stays = w.stays in (
      w.right,
      goes_to bits b d f (behind_all acked ps g) h
          (record {
            layout = stays.layout;
            cover = stays.cover;
            waiting = stays.waiting;
            given = stays.given;
            floor = stays.floor;
          }) w.run (protection_stays b d (Take share held) e) (call_base b d (Take share held) e),
    )

pub take_writes : (bits l : ℕ) (rlc : Progress) (b d : State) (share : ℕ) (held : Option ℕ) (s : Supply History)
    (f : Flow) (most : ℕ) (es : List FlowEvent) (acked : ℕ → Bool) (ps : List SentPdu)
    → CanTake bits l rlc b share held s → after (Am b) (Take share held) ≡ Am d → IsSentBy bits b f
    → Follows most es b.tx → ((n : ℕ) → acked n ≡ acked_kept n (account_of most es).sending)
    → AreOfCall b share held ps
    → AreRight Right acked ps (flow_over (tells b (Take share held)) s f)
    × IsSentBy bits d (behind_all acked ps (flow_over (tells b (Take share held)) s f))
take_writes bits l rlc b d share held s f most es acked ps can e h follows are of_call =
    subst (λ (g : Flow). AreRight Right acked ps g × IsSentBy bits d (behind_all acked ps g))
    (sym (taken_flow bits l rlc b d share held s f can e h))
    (given_writes bits l rlc b d share held s f most es acked ps can e h follows are of_call)
