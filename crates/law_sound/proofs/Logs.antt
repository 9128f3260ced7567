-- What is logged of each call of a sender tells its event, and of any deeds their history.
use Rattle.std.proofs.Common.{◌≡◌, ◌<◌, ◌≤◌, ℕ, ◌+◌, Bool, true, false, if◌then◌else◌, List, [], ◌∷◌, ◌++◌, map}
use Rattle.std.proofs.Common.{length, Option, Some, None, Result, Ok, Err, inl, inr, refl, ap, sym, subst, ◌∙◌, arith}
use Rattle.std.proofs.Common.{append_assoc}
use Rattle.std.specs.Prelude.{option_to_list}
use Rattle.std.specs.List.{AllByRecursion}
use Rattle.l2_num.specs.Timers.{runs}
use Rattle.l2_types.specs.declared.event.Clock.TheVariants.{Poll, Reorder, Prohibit}
use Rattle.bearer.specs.Acknowledged.Hearing.{started_told}
use Rattle.bearer.specs.Acknowledged.Taking.{data_told as sent_told}
use Rattle.bearer.specs.Acknowledged.Timing.{poll_told, told_of}
use Rattle.bearer_pdcp.specs.Telling.{pdus_of}
use Rattle.bearer_types.specs.declared.event.Event.{Event}
use Rattle.bearer_types.specs.declared.event.Event.TheVariants as events
use Rattle.pdcp_pdu.specs.declared.pdu.PdcpKind.{PdcpKind}
use Rattle.rlc_pdu.specs.declared.fault.RlcRefusal.{RlcRefusal}
use Rattle.rlc_pdu.specs.declared.outcome.Taken.{Taken}
use Rattle.rlc_pdu.specs.declared.outcome.Taken.TheVariants as taken
use Rattle.rlc_pdu.specs.declared.pdu.Nack.{Nack}
use Rattle.rlc_pdu.specs.Pdus.{AcknowledgedPdu, Payload, Status, StatusPdu}
use Rattle.rlc_pdu.specs.Reading.{am_at}
use Rattle.rlc_am_tx.specs.declared.answers.Heard.{Heard}
use Rattle.rlc_am_tx.specs.declared.answers.Heard.TheVariants as heard_as
use Rattle.rlc_am_tx.specs.declared.answers.PollExpired.{PollExpired as Expiry}
use Rattle.rlc_am_tx.specs.declared.answers.PollExpired.TheVariants as expires
use Rattle.rlc_am_tx.specs.Machine.{State, start, turn, answer, heard, expiry, expiry_of, expiry_limit, settles}
use Rattle.rlc_am_tx_window.specs.Window.{TxWindow, next}
use Rattle.law_words.specs.Arrivals.{Account, no_account}
use Rattle.law_words.specs.Passing.{last_with}
use Rattle.journal_account.specs.declared.entry.StatusEntry.{StatusEntry}
use Rattle.journal_account.specs.Entries.{names_number}
use Rattle.law_rlc.specs.AmSender.Run.{Call, Offer, Take, Status as Hears, Tick, Expire, Settle, Confirm, after}
use Rattle.law_rlc.specs.AmSender.Watched.{state_after}
use Rattle.law_account.specs.History.{turn_told, with_told, Follows}
use Rattle.law_account.specs.Limit.{limit_heard, limit_expired}
use Rattle.law_account.specs.TrueStatus.{HasTrueNumbers, nack_with}
use Rattle.law_account.proofs.HistoryRuns.{deeds_are_told}
use Rattle.law_account.proofs.TrueStatus.{own_named, later_named, true_status_heard}
use Rattle.law_run.proofs.OwnPdus.Sender.{Owns, start_owns, status_owns, own_calls, offers_own, take_owns}
use Rattle.law_account.specs.HistoryRuns.{Deed, Calls, Hears as DoneAt, behind_deeds as behind_calls, with_deeds}
use Rattle.law_account.specs.HistoryRuns.{limits_by, AreTrue, GoOn, AreLimitsOf}
use Rattle.law_account.proofs.History.{next_is, calls_follow, arrivals_follow}
use Rattle.law_run.specs.TwoEnds.SenderLog.{BearerEntry, Tells, Writes, Comes, telling, writing, IsLoggedAs, read_told}
use Rattle.law_run.specs.TwoEnds.SenderLog.{ReadsAsStatus, IsElse, is_of_flow, Makes, Else}
use Rattle.law_sound.specs.LogLaws.{entry_below, come_told, written_told, event_told, entry_told, with_log, fails_at}
use Rattle.law_sound.specs.LogLaws.{fails_in, IsBounded, HasComeBy, HasLength, IsAsked, IsToldBy, LogsTellCalls}
use Rattle.law_sound.specs.LogLaws.{FlowDeed, AtSender, AtReceiver, with_logs, behind_all, sender_log, AreLogged}
use Rattle.law_sound.specs.LogLaws.{LogsTellFlows}
use Rattle.journal_account.specs.FlowEvents.{FlowEvent, SduTaken, StatusHeard, PollExpired, next_of, IsHistory}
use Rattle.journal_account.specs.FlowAccount.{account_of}
use Rattle.journal_account.proofs.Accounts.{accounts_are_true}
use Rattle.journal_failure.specs.RightFailure.{AreFailsOf}
use Rattle.journal_failure.proofs.Failures.{IsLimit, due_sound}
use Rattle.law_sound.proofs.LogPdus.{data_logged}
use Rattle.law_sound.proofs.Numbering.{own_last}

-- ---- a sender that has come by calls

record OwnsSome (s : State) : Type 0 where
  fields : List ℕ
  owns : Owns fields s

abbrev account_with : List ℕ → Account
account_with fields = record no_account { rlc = record no_account.rlc { fields = fields } }

owns_call : (s : State) (c : Call) → IsBounded c → OwnsSome s → OwnsSome (after s c)
owns_call s (Offer sdu) b h = record { fields = h.fields; owns = offers_own h.fields (sdu ∷ []) s (b, tt) h.owns }
owns_call s (Take size held more) b h =
    record { fields = _; owns = (take_owns size held more (account_with h.fields) s b h.owns).owns }
owns_call s (Hears status) b h = record { fields = h.fields; owns = status_owns h.fields s status h.owns }
owns_call s Tick b h = record { fields = h.fields; owns = own_calls h.fields (Tick ∷ []) s (tt, tt) h.owns }
owns_call s (Expire more) b h =
    record { fields = h.fields; owns = own_calls h.fields (Expire more ∷ []) s (tt, tt) h.owns }
owns_call s (Settle more) b h =
    record { fields = h.fields; owns = own_calls h.fields (Settle more ∷ []) s (tt, tt) h.owns }
owns_call s Confirm b h = record { fields = h.fields; owns = own_calls h.fields (Confirm ∷ []) s (tt, tt) h.owns }

owns_calls : (cs : List Call) (s : State) → AllByRecursion IsBounded cs → OwnsSome s → OwnsSome (state_after cs s)
owns_calls [] s b h = h
owns_calls (c ∷ cs) s b h = owns_calls cs (after s c) b.1 (owns_call s c b.0 h)

owned : (s : State) → HasComeBy s → OwnsSome s
owned s h = subst OwnsSome h.left
    (owns_calls h.calls (start h.config) h.bounded (record { fields = []; owns = start_owns h.config }))

-- a call more
pub bounded_more : (cs : List Call) (c : Call) → AllByRecursion IsBounded cs → IsBounded c
    → AllByRecursion IsBounded (cs ++ c ∷ [])
bounded_more [] c h one = (one, tt)
bounded_more (d ∷ ds) c h one = (h.0, bounded_more ds c h.1 one)

state_more : (cs : List Call) (c : Call) (s : State) → state_after (cs ++ c ∷ []) s ≡ after (state_after cs s) c
state_more [] c s = refl
state_more (d ∷ ds) c s = state_more ds c (after s d)

pub comes_on : (s : State) (c : Call) → IsBounded c → HasComeBy s → HasComeBy (after s c)
comes_on s c b h = record {
  config = h.config;
  calls = h.calls ++ c ∷ [];
  bounded = bounded_more h.calls c h.bounded b;
  left = state_more h.calls c (start h.config) ∙ ap (λ (x : State). after x c) h.left;
}

-- ---- entries

pub log_both : (kind : PdcpKind) (more : Bool) (xs ys : List BearerEntry) (es : List FlowEvent)
    → with_log kind more (xs ++ ys) es ≡ with_log kind more ys (with_log kind more xs es)
log_both kind more [] ys es = refl
log_both kind more (x ∷ xs) ys es = log_both kind more xs ys (with_told (entry_told kind more (next_of es) x) es)

fails_both : (xs ys : List BearerEntry) → fails_in (xs ++ ys) ≡ fails_in xs ++ fails_in ys
fails_both [] ys = refl
fails_both (x ∷ xs) ys =
    ap (λ (sns : List ℕ). fails_at x ++ sns) (fails_both xs ys)
    ∙ sym (append_assoc (fails_at x) (fails_in xs) (fails_in ys))

pub written_fails : (pdus : List (List ℕ)) → fails_in (writing pdus) ≡ []
written_fails [] = refl
written_fails (pdu ∷ pdus) = written_fails pdus

-- STATUS PDUs that are written
reports_log : (kind : PdcpKind) (es : List FlowEvent) (reports pdus : List (List ℕ))
    → AllByRecursion ReadsAsStatus reports
    → with_log kind false (writing (reports ++ pdus)) es ≡ with_log kind false (writing pdus) es
reports_log kind es [] pdus a = refl
reports_log kind es (r ∷ reports) pdus a =
    ap (λ read. with_log kind false (writing (reports ++ pdus)) (with_told (written_told (next_of es) read) es)) a.0.1
    ∙ reports_log kind es reports pdus a.1

-- ---- `take`

sent_log : (kind : PdcpKind) (lcid : ℕ) (t : Taken) (log : List BearerEntry) (es : List FlowEvent)
    → with_log kind false (telling (sent_told lcid t) ++ log) es ≡ with_log kind false log es
sent_log kind lcid (taken.Piece number first true octets) log es = refl
sent_log kind lcid (taken.Piece number first false octets) log es = refl
sent_log kind lcid taken.Idle log es = refl
sent_log kind lcid taken.Small log es = refl
sent_log kind lcid taken.Shut log es = refl
sent_log kind lcid taken.Held log es = refl
sent_log kind lcid taken.Stopped log es = refl

sent_fails : (lcid : ℕ) (t : Taken) (pdus : List (List ℕ)) → fails_in (telling (sent_told lcid t) ++ writing pdus) ≡ []
sent_fails lcid (taken.Piece number first true octets) pdus = written_fails pdus
sent_fails lcid (taken.Piece number first false octets) pdus = written_fails pdus
sent_fails lcid taken.Idle pdus = written_fails pdus
sent_fails lcid taken.Small pdus = written_fails pdus
sent_fails lcid taken.Shut pdus = written_fails pdus
sent_fails lcid taken.Held pdus = written_fails pdus
sent_fails lcid taken.Stopped pdus = written_fails pdus

data_log : (kind : PdcpKind) (most : ℕ) (es : List FlowEvent) (s : State) (size : ℕ) (held : Option ℕ) (more : Bool)
    → size ≤ 32767 → OwnsSome s → Follows most es s
    → with_log kind false (writing (pdus_of (answer s size held more))) es
    ≡ with_told (turn_told (turn s size held more) s size) es
data_log kind most es s size held more few own f =
    let h = own.owns in
    subst
    (λ (x : State). with_log kind false (writing (pdus_of (answer x size held more))) es
    ≡ with_told (turn_told (turn x size held more) x size) es) h.state_is
    (data_logged kind h.config h.calls h.offered h.aired es
    (next_is most es s f ∙ ap (λ (x : State). next x.window) (sym h.state_is)) size few held more)

take_tells : (kind : PdcpKind) (most : ℕ) (es : List FlowEvent) (s : State) (size : ℕ) (held : Option ℕ) (more : Bool)
    (log : List BearerEntry) → size ≤ 32767 → OwnsSome s → IsLoggedAs s (Take size held more) log → Follows most es s
    → IsToldBy kind es s (Take size held more) log
take_tells kind most es s size held more log few own (lcid, reports, are, e) f = record {
  event = turn_told (turn s size held more) s size;
  told = refl;
  logged =
      ap (λ (l : List BearerEntry). with_log kind false l es) e
      ∙ (sent_log kind lcid (answer s size held more) (writing (reports ++ pdus_of (answer s size held more))) es
      ∙ (reports_log kind es reports (pdus_of (answer s size held more)) are
      ∙ data_log kind most es s size held more few own f));
  fails = ap fails_in e ∙ sent_fails lcid (answer s size held more) (reports ++ pdus_of (answer s size held more));
}

-- ---- a STATUS

entries_below : (w : ℕ) (ms : List StatusEntry)
    → ((n : ℕ) → names_number ms n ≡ true → (n ≤ w) × (w < n + 1024)) → map (entry_below w) (map nack_with ms) ≡ ms
entries_below w [] near = refl
entries_below w (m ∷ ms) near =
    let own = near m.number (own_named m ms) in
    ap (λ (n : ℕ). record { number = n; part = m.part } ∷ map (entry_below w) (map nack_with ms))
    (own_last m.number (w + 1) (let a = own.0 in omega (arith, a)) (let b = own.1 in omega (arith, b)))
    ∙ ap (λ (xs : List StatusEntry). m ∷ xs) (entries_below w ms (λ n e. near n (later_named m ms n e)))

pub come_is : (v : TxWindow) (w : ℕ) (status : StatusPdu) (ack : ℕ) (entries : List StatusEntry) → w ≡ next v
    → HasTrueNumbers v status ack entries
    → come_told w (Ok (Status status)) ≡ Some (StatusHeard ack entries)
come_is v w status ack entries e h =
    let known = h.ack_near.known in
    let young = h.ack_near.young in
    let same = entries_below w entries (λ n named.
    let near = h.near n named in let a = near.known in let b = near.young in
    (omega (arith, a, e), omega (arith, b, e))) in
    ap (λ (n : ℕ). Some (StatusHeard (last_with n (w + 1)) (map (entry_below w) status.nacks))) h.ack_sn
    ∙ (ap (λ (n : ℕ). Some (StatusHeard n (map (entry_below w) status.nacks)))
    (own_last ack (w + 1) (omega (arith, known, e)) (omega (arith, young, e)))
    ∙ (ap (λ (ns : List Nack). Some (StatusHeard ack (map (entry_below w) ns))) h.nack_sns
    ∙ ap (λ (ms : List StatusEntry). Some (StatusHeard ack ms)) same))

read_log : (kind : PdcpKind) (lcid : ℕ) (h : Heard) (es : List FlowEvent)
    → with_log kind false (telling (read_told lcid h)) es ≡ es
read_log kind lcid heard_as.Ignored es = refl
read_log kind lcid (heard_as.Limit sn) es = refl
read_log kind lcid (heard_as.Applied true) es = refl
read_log kind lcid (heard_as.Applied false) es = refl

read_fails : (lcid : ℕ) (h : Heard) → fails_in (telling (read_told lcid h)) ≡ option_to_list (limit_heard h)
read_fails lcid heard_as.Ignored = refl
read_fails lcid (heard_as.Limit sn) = refl
read_fails lcid (heard_as.Applied true) = refl
read_fails lcid (heard_as.Applied false) = refl

status_tells : (kind : PdcpKind) (most : ℕ) (es : List FlowEvent) (s : State) (status : StatusPdu)
    (log : List BearerEntry) → IsLoggedAs s (Hears status) log → IsAsked kind s (Hears status) log → Follows most es s
    → IsToldBy kind es s (Hears status) log
status_tells kind most es s status log (lcid, octets, read, e) (ack, entries, near) f = record {
  event = Some (StatusHeard ack entries);
  told = (ack, entries, true_status_heard s status ack entries near, refl);
  logged =
      ap (λ (l : List BearerEntry). with_log kind false l es) e
      ∙ (read_log kind lcid (heard s status) (with_told (come_told (next_of es) (am_at octets)) es)
      ∙ (ap (λ r. with_told (come_told (next_of es) r) es) read
      ∙ ap (λ (o : Option FlowEvent). with_told o es)
      (come_is s.window (next_of es) status ack entries (next_is most es s f) near)));
  fails = ap fails_in e ∙ read_fails lcid (heard s status);
}

-- ---- an SDU

sdu_fails : (kind : PdcpKind) (e : Event) (n : ℕ) → event_told kind false e ≡ Some (SduTaken n)
    → fails_in (Tells e ∷ []) ≡ []
sdu_fails kind (events.Take lcid count len) n h = refl
sdu_fails kind (events.Report lcid fms bitmap) n h = refl
sdu_fails kind (events.Fail lcid sn) n h = cc
sdu_fails kind e n h = refl

sdu_tells : (kind : PdcpKind) (es : List FlowEvent) (s : State) (sdu : List ℕ) (log : List BearerEntry)
    → HasLength kind sdu log → IsToldBy kind es s (Offer sdu) log
sdu_tells kind es s sdu log h = record {
  event = Some (SduTaken (length sdu));
  told = (h.some, refl);
  logged = ap (λ (l : List BearerEntry). with_log kind false l es) h.one
      ∙ ap (λ (o : Option FlowEvent). with_told o es) h.size;
  fails = ap fails_in h.one ∙ sdu_fails kind h.event (length sdu) h.size;
}

-- ---- an expiry

expiry_tells : (kind : PdcpKind) (es : List FlowEvent) (s : State) (more : Bool) (log : List BearerEntry)
    → IsLoggedAs s (Expire more) log → IsToldBy kind es s (Expire more) log
unfolding expiry
expiry_tells kind es s more log (lcid, e) = record {
  event = if runs s.polls.timer then Some (PollExpired more) else None;
  told = refl;
  logged = ap (λ (l : List BearerEntry). with_log kind more l es) e ∙ by (runs s.polls.timer) (expiry_limit s more);
  fails = ap fails_in e ∙ told_limit (expiry s more);
}
  where
    by : (b : Bool) (l : Option ℕ)
        → with_log kind more (telling (told_of (poll_told lcid (if b then expiry_of l else expires.NotRunning)))) es
        ≡ with_told (if b then Some (PollExpired more) else None) es
    by true None = refl
    by true (Some sn) = refl
    by false l = refl

    told_limit : (x : Expiry) → fails_in (telling (told_of (poll_told lcid x))) ≡ option_to_list (limit_expired x)
    told_limit expires.NotRunning = refl
    told_limit expires.Done = refl
    told_limit (expires.Limit sn) = refl

-- ---- any call

settle_tells : (kind : PdcpKind) (es : List FlowEvent) (s : State) (more : Bool) (log : List BearerEntry)
    → IsLoggedAs s (Settle more) log → IsToldBy kind es s (Settle more) log
settle_tells kind es s more log (lcid, e) = by (settles s more) e
  where
    by : (b : Bool) → log ≡ telling (started_told lcid b) → IsToldBy kind es s (Settle more) log
    by true e = record {
      event = None;
      told = refl;
      logged = ap (λ (l : List BearerEntry). with_log kind false l es) e;
      fails = ap fails_in e;
    }
    by false e = record {
      event = None;
      told = refl;
      logged = ap (λ (l : List BearerEntry). with_log kind false l es) e;
      fails = ap fails_in e;
    }

pub logs_tell_calls : LogsTellCalls
logs_tell_calls kind most es s (Offer sdu) log come l a f = sdu_tells kind es s sdu log a
logs_tell_calls kind most es s (Take size held more) log come l a f =
    take_tells kind most es s size held more log a (owned s come) l f
logs_tell_calls kind most es s (Hears status) log come l a f = status_tells kind most es s status log l a f
logs_tell_calls kind most es s Tick log come l a f = record {
  event = None;
  told = refl;
  logged = ap (λ (x : List BearerEntry). with_log kind false x es) l;
  fails = ap fails_in l;
}
logs_tell_calls kind most es s (Expire more) log come l a f = expiry_tells kind es s more log l
logs_tell_calls kind most es s (Settle more) log come l a f = settle_tells kind es s more log l
logs_tell_calls kind most es s Confirm log come l a f = record {
  event = None;
  told = refl;
  logged = ap (λ (x : List BearerEntry). with_log kind false x es) l;
  fails = ap fails_in l;
}

-- ---- all else

record TellsNone (kind : PdcpKind) (more : Bool) (next : ℕ) (x : BearerEntry) : Type 0 where
  none : entry_told kind more next x ≡ None
  fails : fails_at x ≡ []

event_none : (kind : PdcpKind) (more : Bool) (next : ℕ) (e : Event) → is_of_flow e ≡ false
    → TellsNone kind more next (Tells e)
event_none kind more next (events.Take lcid count len) h = cc
event_none kind more next (events.Report lcid fms bitmap) h = cc
event_none kind more next (events.Expired lcid Poll) h = cc
event_none kind more next (events.Expired lcid Reorder) h = record { none = refl; fails = refl }
event_none kind more next (events.Expired lcid Prohibit) h = record { none = refl; fails = refl }
event_none kind more next (events.Fail lcid sn) h = cc
event_none kind more next e h = record { none = refl; fails = refl }

come_none : (w : ℕ) (octets : List ℕ) → (ReadsAsStatus octets → ⊥) → come_told w (am_at octets) ≡ None
come_none w octets unread = by (am_at octets) refl
  where
    by : (r : Result AcknowledgedPdu RlcRefusal) → am_at octets ≡ r → come_told w r ≡ None
    by (Ok (Status pdu)) e = absurd (unread (pdu, e))
    by (Ok (Payload pdu)) e = refl
    by (Err refused) e = refl

entry_none : (kind : PdcpKind) (more : Bool) (next : ℕ) (x : BearerEntry) → IsElse x → TellsNone kind more next x
entry_none kind more next (Tells e) h = event_none kind more next e h
entry_none kind more next (Writes octets) h = absurd h
entry_none kind more next (Comes octets) h = record { none = come_none next octets h; fails = refl }

pub else_log : (kind : PdcpKind) (more : Bool) (log : List BearerEntry) (es : List FlowEvent)
    → AllByRecursion IsElse log → with_log kind more log es ≡ es
else_log kind more [] es h = refl
else_log kind more (x ∷ log) es h =
    ap (λ (o : Option FlowEvent). with_log kind more log (with_told o es))
    (entry_none kind more (next_of es) x h.0).none
    ∙ else_log kind more log es h.1

else_fails : (kind : PdcpKind) (log : List BearerEntry) → AllByRecursion IsElse log → fails_in log ≡ []
else_fails kind [] h = refl
else_fails kind (x ∷ log) h =
    ap (λ (sns : List ℕ). sns ++ fails_in log) (entry_none kind false 0 x h.0).fails ∙ else_fails kind log h.1

-- ---- any deeds

pub bounded_as : (kind : PdcpKind) (s : State) (c : Call) (log : List BearerEntry) → IsAsked kind s c log → IsBounded c
bounded_as kind s (Offer sdu) log a = a.some
bounded_as kind s (Take size held more) log a = a
bounded_as kind s (Hears status) log a = tt
bounded_as kind s Tick log a = tt
bounded_as kind s (Expire more) log a = tt
bounded_as kind s (Settle more) log a = tt
bounded_as kind s Confirm log a = tt

-- the calls among them, each with its event, and what happens at the receiver
record AreCalls (kind : PdcpKind) (ds : List FlowDeed) (es : List FlowEvent) (s : State) : Type 0 where
  calls : List Deed
  true' : AreTrue calls es s
  history : with_deeds calls es ≡ with_logs kind ds es
  left : behind_calls calls s ≡ behind_all ds s
  limits : limits_by calls s ≡ fails_in (sender_log ds)
  come : HasComeBy (behind_all ds s)

are_calls : (kind : PdcpKind) (most : ℕ) (ds : List FlowDeed) (es : List FlowEvent) (s : State) → HasComeBy s
    → AreLogged kind es s ds → Follows most es s → AreCalls kind ds es s
are_calls kind most [] es s come are f =
    record { calls = []; true' = tt; history = refl; left = refl; limits = refl; come = come }
are_calls kind most (AtSender (Makes c log) ∷ ds) es s come ((deed, asked), are) f =
    let t = logs_tell_calls kind most es s c log come deed asked f in
    let rest = are_calls kind most ds (with_told t.event es) (after s c)
    (comes_on s c (bounded_as kind s c log asked) come)
    (subst (λ (xs : List FlowEvent). AreLogged kind xs (after s c) ds) t.logged are)
    (calls_follow most es s c t.event t.told f) in
    record {
      calls = Calls c t.event ∷ rest.calls;
      true' = (t.told, rest.true');
      history = rest.history ∙ ap (λ (xs : List FlowEvent). with_logs kind ds xs) (sym t.logged);
      left = rest.left;
      limits =
          ap (λ (sns : List ℕ). sns ++ limits_by rest.calls (after s c)) (sym t.fails)
          ∙ (ap (λ (sns : List ℕ). fails_in log ++ sns) rest.limits ∙ sym (fails_both log (sender_log ds)));
      come = rest.come;
    }
are_calls kind most (AtSender (Else log) ∷ ds) es s come ((deed, asked), are) f =
    let same = else_log kind false log es deed in
    let rest = are_calls kind most ds es s come
    (subst (λ (xs : List FlowEvent). AreLogged kind xs s ds) same are) f in
    record {
      calls = rest.calls;
      true' = rest.true';
      history = rest.history ∙ ap (λ (xs : List FlowEvent). with_logs kind ds xs) (sym same);
      left = rest.left;
      limits =
          rest.limits
          ∙ sym (fails_both log (sender_log ds)
          ∙ ap (λ (sns : List ℕ). sns ++ fails_in (sender_log ds)) (else_fails kind log deed));
      come = rest.come;
    }
are_calls kind most (AtReceiver e ∷ ds) es s come (is, are) f =
    let rest = are_calls kind most ds (e ∷ es) s come are (arrivals_follow most es s e is.0 is.1 f) in
    record {
      calls = DoneAt e ∷ rest.calls;
      true' = (is, rest.true');
      history = rest.history;
      left = rest.left;
      limits = rest.limits;
      come = rest.come;
    }

-- ---- the limit

limits_are_fails : (most : ℕ) (es now : List FlowEvent) → IsHistory es → IsHistory now → (sns : List ℕ)
    → AreLimitsOf most es now sns → AreFailsOf most es now sns
limits_are_fails most es now h k [] (inl w) =
    by (account_of most es).sending.limit (accounts_are_true most es h).sending.limit
  where
    by : (was : Option ℕ) → IsLimit most es was → AreFailsOf most es now []
    by None b = due_sound most es now None None b w [] refl
    by (Some m) b = due_sound most es now (Some m) None b w [] refl
limits_are_fails most es now h k [] (inr (n, f)) =
    due_sound most es now (Some n) (account_of most now).sending.limit f
    (accounts_are_true most now k).sending.limit [] refl
limits_are_fails most es now h k (sn ∷ []) (w, (n, f, e)) =
    due_sound most es now None (Some n) w f (sn ∷ []) (ap (λ (i : ℕ). i ∷ []) e)
limits_are_fails most es now h k (sn ∷ tn ∷ sns) l = absurd l

pub logs_tell_flows : LogsTellFlows
logs_tell_flows kind most ds es s come are f =
    let c = are_calls kind most ds es s come are f in
    let g : GoOn most c.calls es s = deeds_are_told most c.calls es s c.true' f in
    record {
      come = c.come;
      follows =
          subst (λ (t : State). Follows most (with_logs kind ds es) t) c.left
          (subst (λ (now : List FlowEvent). Follows most now (behind_calls c.calls s)) c.history g.follows);
      fails =
          limits_are_fails most es (with_logs kind ds es) f.history
          (subst IsHistory c.history g.follows.history) (fails_in (sender_log ds))
          (subst (λ (sns : List ℕ). AreLimitsOf most es (with_logs kind ds es) sns) c.limits
          (subst (λ (now : List FlowEvent). AreLimitsOf most es now (limits_by c.calls s)) c.history g.limits));
    }
