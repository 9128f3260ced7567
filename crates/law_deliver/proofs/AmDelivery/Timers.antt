-- What an end does by itself: calls of PDCP's sender, and timers of RLC.
use Rattle.std.proofs.Common.{◌≡◌, ℕ, Bool, false, ◌||◌, List, [], ◌∷◌, ◌++◌, map, Option, Some, refl, ap, sym, subst}
use Rattle.std.proofs.Common.{◌∙◌}
use Rattle.std.proofs.lemmas.List.{append-nil}
use Rattle.std.specs.List.{AllByRecursion}
use Rattle.pdcp_tx.specs.declared.sender.Next.{Next}
use Rattle.pdcp_tx.specs.Runs.{Call as PdcpCall, Submit, Take as TakePdcp, Confirm as ConfirmPdcp, Report as ReportPdcp}
use Rattle.pdcp_tx.specs.Runs.{Owe, Tick as TickPdcp, Late, after as pdcp_after}
use Rattle.pdcp_tx.specs.State.{State as Sending, submitted, after_late}
use Rattle.law_rlc.specs.AmSender.Run.{Call as SenderCall, Offer, Take, Status, Tick, Expire, Settle, Confirm}
use Rattle.law_rlc.specs.AmReceiver.Run.{Call as ReceiverCall, Arrive, Up, Write, ExpireReorder, ExpireProhibit}
use Rattle.law_rlc.specs.AmReceiver.Run.{TickReorder, TickProhibit}
use Rattle.law_bearer.specs.AmBearer.Deeds.{Deed, Feeds, Sends, Confirms, Receives, HandsUp, Asks, Sets, does, does_all}
use Rattle.law_bearer.proofs.AmBearer.Ups.{IsQuiet}
use Rattle.law_bearer.proofs.AmBearer.Keeping.{data_stays, quiet_idle}
use Rattle.law_rlc.specs.AmPair.Flow.{Flow as Rlc, Sends as SendsOn, Receives as ReceivesOn, copies_with, is_new, given}
use Rattle.law_rlc.specs.AmPair.Flow.{happens as rlc_happens}
use Rattle.law_rlc.specs.AmPair.Given.{IsGiven as IsGivenStep}
use Rattle.law_rlc.specs.AmPair.Steps.{is_up, offers}
use Rattle.law_rlc.specs.AmArrival.Arrival.{passed}
use Rattle.law_rlc.proofs.AmPair.Confirming.{sending-silent}
use Rattle.law_pdcp.specs.AmPair.Flow.{Flow as Pdcp, Sends as SendsEvent, SetDiscard as SetsDiscard, CanCall}
use Rattle.law_pdcp.specs.AmPair.Flow.{run_am_pdcp}
use Rattle.law_bearer.specs.AnyBearer.Acknowledged.{IsOfSender}
use Rattle.law_deliver.specs.AmFlow.Pair.{BearerEnd}
use Rattle.law_deliver.specs.AmFlow.Flows.{IsFlow}
use Rattle.law_deliver.proofs.AmFlow.Flows.{stands_as, is_flow}
use Rattle.law_deliver.proofs.AmFlow.Sending.{sent_one}
use Rattle.law_deliver.proofs.AmFlow.Hearing.{receives_one}
use Rattle.law_deliver.proofs.AmFlow.Standing.{or_none}
use Rattle.promises.specs.Given.{entries_passed}
use Rattle.law_deliver.proofs.AmDelivery.Accounts.{told_of, tells_passing}
use Rattle.law_deliver.proofs.AmDelivery.Joined.{Way, Joins, IsReportOf, rlc, pdcp}
use Rattle.law_deliver.proofs.AmDelivery.Ends.{JoinedEnds, EndsGoOn, stays_joined}
use Rattle.law_deliver.proofs.AmDelivery.Moving.{Moves, rlc_moves}
use Rattle.law_deliver.proofs.AmDelivery.Doing.{Tells, tells, IsBetween, out_goes_on, inn_goes_on}
use Rattle.law_deliver.proofs.AmDelivery.Doing.{ends_then}

-- ---- an end with another bearer

abbrev pub with_bearer : List Deed → BearerEnd → BearerEnd
with_bearer deeds e = record e { bearer = does_all deeds e.bearer }

pub stays_between : (bits : ℕ) (out inn : Way) (e o : BearerEnd) (deed : Deed) → JoinedEnds bits out inn e o
    → IsQuiet deed → IsBetween bits (with_bearer (deed ∷ []) e)
stays_between bits out inn e o deed h quiet = record {
  of_data = data_stays bits (deed ∷ []) e.bearer h.of_data;
  idle = quiet_idle (deed ∷ []) e.bearer (quiet, tt) h.idle;
}

-- ---- a call of PDCP's sender that takes nothing

abbrev pub IsAside : PdcpCall → Type 0
IsAside (Submit sdu) = Unit {0}
IsAside TakePdcp = ⊥
IsAside (ConfirmPdcp place) = ⊥
IsAside (ReportPdcp fms bitmap) = ⊥
IsAside (Owe report) = ⊥
IsAside TickPdcp = Unit {0}
IsAside Late = Unit {0}

-- PDCP's flow but for its sender, which owes what it owed
record IsAlike (f g : Pdcp) : Type 0 where
  owed : g.sender.owed ≡ f.sender.owed
  stream : g.stream ≡ f.stream
  sdus : g.sdus ≡ f.sdus ++ []

aside_alike : (f : Pdcp) (c : PdcpCall) → IsAside c → IsAlike f (run_am_pdcp (SendsEvent c ∷ []) f)
unfolding submitted after_late
aside_alike f (Submit sdu) a = record { owed = refl; stream = append-nil f.stream; sdus = refl }
aside_alike f TakePdcp a = absurd a
aside_alike f (ConfirmPdcp place) a = absurd a
aside_alike f (ReportPdcp fms bitmap) a = absurd a
aside_alike f (Owe report) a = absurd a
aside_alike f TickPdcp a = record { owed = refl; stream = append-nil f.stream; sdus = refl }
aside_alike f Late a = record { owed = refl; stream = append-nil f.stream; sdus = refl }

alike_tells : (report : Option (List ℕ)) (f g : Pdcp) → IsAlike f g → Tells report f → Tells report g
alike_tells report f g a t = record {
  owed = λ r q. t.owed r (sym a.owed ∙ q);
  sent = subst (λ (l : List Next). AllByRecursion (IsReportOf report) l) (sym a.stream) t.sent;
}

asks_move : (w : Way) (c : PdcpCall) (e o : BearerEnd) → Joins w e o → CanCall (pdcp w) c → IsAside c
    → Moves w (SendsEvent c ∷ []) [] (with_bearer (Asks c ∷ []) e) o [] [] []
asks_move w c e o h can a =
    let alike = aside_alike (pdcp w) c a in
    record {
      events = (can, tt);
      steps = tt;
      meets = record {
        rlc_is = record {
          sender_is = h.rlc_is.sender_is;
          receiver_is = h.rlc_is.receiver_is;
          copies_are = h.rlc_is.copies_are;
          reports_are = h.rlc_is.reports_are;
          busy_is = h.rlc_is.busy_is;
        };
        sender_is = ap (λ (s : Sending). pdcp_after s c) h.sender_is;
        receiver_is = h.receiver_is;
        stream_is = ap (map (λ (n : Next). n.octets)) alike.stream ∙ h.stream_is;
        passed_is = h.passed_is;
        whole_is = h.whole_is;
      };
      sdus_are = alike.sdus;
      ups_are = sym (append-nil (pdcp w).up);
      tells = tells_passing [] (pdcp w) (run_am_pdcp (SendsEvent c ∷ []) (pdcp w)) (told_of w) alike.stream refl
          (λ count. refl);
      handed_is = refl;
      confirmed_is = refl;
    }

pub asks_go_on : (bits : ℕ) (out inn : Way) (e o : BearerEnd) (c : PdcpCall) → JoinedEnds bits out inn e o
    → CanCall (pdcp out) c → IsAside c
    → EndsGoOn bits out inn (with_bearer (Asks c ∷ []) e) o [] [] [] [] [] []
asks_go_on bits out inn e o c h can a =
    out_goes_on bits out inn e o (with_bearer (Asks c ∷ []) e) (SendsEvent c ∷ []) [] [] []
    h (asks_move out c e o h.out_joins can a) (record { rx = refl; reports = refl; pdcp = refl })
    (stays_between bits out inn e o (Asks c) h tt)
    refl (alike_tells (pdcp inn).report (pdcp out) (run_am_pdcp (SendsEvent c ∷ []) (pdcp out))
    (aside_alike (pdcp out) c a) (tells inn out h.inn_reports))

-- ---- discard timers get another length

sets_move : (w : Way) (ttis : ℕ) (e o : BearerEnd) → Joins w e o
    → Moves w (SetsDiscard ttis ∷ []) [] (with_bearer (Sets ttis ∷ []) e) o [] [] []
sets_move w ttis e o h = record {
  events = (tt, tt);
  steps = tt;
  meets = record {
    rlc_is = record {
      sender_is = h.rlc_is.sender_is;
      receiver_is = h.rlc_is.receiver_is;
      copies_are = h.rlc_is.copies_are;
      reports_are = h.rlc_is.reports_are;
      busy_is = h.rlc_is.busy_is;
    };
    sender_is = ap (λ (s : Sending). record s { discard = Some ttis }) h.sender_is;
    receiver_is = h.receiver_is;
    stream_is = h.stream_is;
    passed_is = h.passed_is;
    whole_is = h.whole_is;
  };
  sdus_are = sym (append-nil (pdcp w).sdus);
  ups_are = sym (append-nil (pdcp w).up);
  tells =
      tells_passing [] (pdcp w) (run_am_pdcp (SetsDiscard ttis ∷ []) (pdcp w)) (told_of w) refl refl (λ count. refl);
  handed_is = refl;
  confirmed_is = refl;
}

pub sets_go_on : (bits : ℕ) (out inn : Way) (e o : BearerEnd) (ttis : ℕ) → JoinedEnds bits out inn e o
    → EndsGoOn bits out inn (with_bearer (Sets ttis ∷ []) e) o [] [] [] [] [] []
sets_go_on bits out inn e o ttis h =
    let t = tells inn out h.inn_reports in
    out_goes_on bits out inn e o (with_bearer (Sets ttis ∷ []) e) (SetsDiscard ttis ∷ []) [] [] []
    h (sets_move out ttis e o h.out_joins) (record { rx = refl; reports = refl; pdcp = refl })
    (stays_between bits out inn e o (Sets ttis) h tt)
    refl (record { owed = t.owed; sent = t.sent })

-- ---- a call of RLC's sender

-- the end that has made it, with what it has under way
abbrev pub sent_by : SenderCall → BearerEnd → BearerEnd
sent_by c e = record e {
  bearer = does e.bearer (Sends c);
  copies = copies_with (given e.bearer.tx c) e.copies;
  busy = e.busy || is_new (given e.bearer.tx c);
}

pub sends_flow : (e o : BearerEnd) (f : Rlc) (c : SenderCall) → IsFlow e o f
    → IsFlow (sent_by c e) o (rlc_happens f (SendsOn c))
sends_flow e o f c h =
    is_flow (sent_by c e) o (rlc_happens f (SendsOn c))
    (sent_one f c e.bearer.tx o.bearer.rx e.copies o.reports e.busy (stands_as e o f h))

pub sends_on : (bits : ℕ) (out inn : Way) (e o : BearerEnd) (c : SenderCall) → JoinedEnds bits out inn e o
    → IsGivenStep (rlc out) (SendsOn c) → offers (SendsOn c) ≡ [] → IsQuiet (Sends c)
    → EndsGoOn bits out inn (sent_by c e) o [] [] (entries_passed (passed (SendsOn c ∷ []) (rlc out))) [] [] []
sends_on bits out inn e o c h can none quiet =
    let between = stays_between bits out inn e o (Sends c) h quiet in
    let t = tells inn out h.inn_reports in
    let said = entries_passed (passed (SendsOn c ∷ []) (rlc out)) in
    subst (λ (given : List (List ℕ)). EndsGoOn bits out inn (sent_by c e) o [] [] said [] (given ++ []) []) none
    (out_goes_on bits out inn e o (sent_by c e) [] (SendsOn c ∷ []) [] said h
    (rlc_moves out (SendsOn c) e o (sent_by c e) o h.out_is h.out_joins can
    (record { stays = refl; none = refl; silent = sending-silent (rlc out) c can }) none
    (sends_flow e o (rlc out) c h.out_joins.rlc_is) refl refl)
    (record { rx = refl; reports = refl; pdcp = refl }) (record { of_data = between.of_data; idle = between.idle })
    refl t)

-- one that gives no PDU
by_itself : (bits : ℕ) (out inn : Way) (d o : BearerEnd) (busy : Bool)
    → EndsGoOn bits out inn (record d { busy = busy || false }) o [] [] [] [] [] []
    → EndsGoOn bits out inn (record d { busy = busy }) o [] [] [] [] [] []
by_itself bits out inn d o busy h =
    subst (λ (b : Bool). EndsGoOn bits out inn (record d { busy = b }) o [] [] [] [] [] []) (sym (or_none busy)) h

sends_own : (bits : ℕ) (out inn : Way) (e o : BearerEnd) (c : SenderCall) → JoinedEnds bits out inn e o → IsOfSender c
    → EndsGoOn bits out inn (with_bearer (Sends c ∷ []) e) o [] [] [] [] [] []
sends_own bits out inn e o (Offer sdu) h own = absurd own
sends_own bits out inn e o (Take size held more) h own = absurd own
sends_own bits out inn e o (Status status) h own = absurd own
sends_own bits out inn e o Tick h own =
    by_itself bits out inn (with_bearer (Sends Tick ∷ []) e) o e.busy (sends_on bits out inn e o Tick h tt refl tt)
sends_own bits out inn e o (Expire more) h own =
    by_itself bits out inn (with_bearer (Sends (Expire more) ∷ []) e) o e.busy
    (sends_on bits out inn e o (Expire more) h tt refl tt)
sends_own bits out inn e o (Settle more) h own =
    by_itself bits out inn (with_bearer (Sends (Settle more) ∷ []) e) o e.busy
    (sends_on bits out inn e o (Settle more) h tt refl tt)
sends_own bits out inn e o Confirm h own =
    by_itself bits out inn (with_bearer (Sends Confirm ∷ []) e) o e.busy
    (sends_on bits out inn e o Confirm h tt refl tt)

-- ---- a timer of RLC's receiver

abbrev pub IsTimed : ReceiverCall → Type 0
IsTimed (Arrive pdu) = ⊥
IsTimed Up = ⊥
IsTimed Write = ⊥
IsTimed ExpireReorder = Unit {0}
IsTimed ExpireProhibit = Unit {0}
IsTimed TickReorder = Unit {0}
IsTimed TickProhibit = Unit {0}

receives_on : (bits : ℕ) (out inn : Way) (e o : BearerEnd) (c : ReceiverCall) → JoinedEnds bits out inn e o
    → IsGivenStep (rlc inn) (ReceivesOn c) → is_up c ≡ false → IsQuiet (Receives c)
    → EndsGoOn bits out inn (with_bearer (Receives c ∷ []) e) o [] [] [] [] [] []
receives_on bits out inn e o c h can stays quiet =
    let d = with_bearer (Receives c ∷ []) e in
    let f = rlc inn in
    let flow : IsFlow o d (rlc_happens f (ReceivesOn c)) =
    is_flow o d (rlc_happens f (ReceivesOn c))
    (receives_one f c o.bearer.tx e.bearer.rx o.copies e.reports o.busy (stands_as o e f h.inn_joins.rlc_is)) in
    inn_goes_on bits out inn e o d (ReceivesOn c ∷ []) h
    (rlc_moves inn (ReceivesOn c) o e o d h.inn_is h.inn_joins can
    (record { stays = stays; none = refl; silent = tt }) refl flow refl refl)
    (record { tx = refl; copies = refl; busy = refl; pdcp = refl })
    (stays_between bits out inn e o (Receives c) h quiet)

receives_own : (bits : ℕ) (out inn : Way) (e o : BearerEnd) (c : ReceiverCall) → JoinedEnds bits out inn e o → IsTimed c
    → EndsGoOn bits out inn (with_bearer (Receives c ∷ []) e) o [] [] [] [] [] []
receives_own bits out inn e o (Arrive pdu) h own = absurd own
receives_own bits out inn e o Up h own = absurd own
receives_own bits out inn e o Write h own = absurd own
receives_own bits out inn e o ExpireReorder h own = receives_on bits out inn e o ExpireReorder h tt refl tt
receives_own bits out inn e o ExpireProhibit h own = receives_on bits out inn e o ExpireProhibit h tt refl tt
receives_own bits out inn e o TickReorder h own = receives_on bits out inn e o TickReorder h tt refl tt
receives_own bits out inn e o TickProhibit h own = receives_on bits out inn e o TickProhibit h tt refl tt

-- ---- any of these, one behind the other

abbrev pub IsCounting : PdcpCall → Type 0
IsCounting (Submit sdu) = ⊥
IsCounting TakePdcp = ⊥
IsCounting (ConfirmPdcp place) = ⊥
IsCounting (ReportPdcp fms bitmap) = ⊥
IsCounting (Owe report) = ⊥
IsCounting TickPdcp = Unit {0}
IsCounting Late = Unit {0}

asks_own : (bits : ℕ) (out inn : Way) (e o : BearerEnd) (c : PdcpCall) → JoinedEnds bits out inn e o → IsCounting c
    → EndsGoOn bits out inn (with_bearer (Asks c ∷ []) e) o [] [] [] [] [] []
asks_own bits out inn e o (Submit sdu) h own = absurd own
asks_own bits out inn e o TakePdcp h own = absurd own
asks_own bits out inn e o (ConfirmPdcp place) h own = absurd own
asks_own bits out inn e o (ReportPdcp fms bitmap) h own = absurd own
asks_own bits out inn e o (Owe report) h own = absurd own
asks_own bits out inn e o TickPdcp h own = asks_go_on bits out inn e o TickPdcp h tt tt
asks_own bits out inn e o Late h own = asks_go_on bits out inn e o Late h tt tt

abbrev pub IsOwn : Deed → Type 0
IsOwn Feeds = ⊥
IsOwn (Sends c) = IsOfSender c
IsOwn Confirms = ⊥
IsOwn (Receives c) = IsTimed c
IsOwn HandsUp = ⊥
IsOwn (Asks c) = IsCounting c
IsOwn (Sets ttis) = Unit {0}

own_one : (bits : ℕ) (out inn : Way) (e o : BearerEnd) (deed : Deed) → JoinedEnds bits out inn e o → IsOwn deed
    → EndsGoOn bits out inn (with_bearer (deed ∷ []) e) o [] [] [] [] [] []
own_one bits out inn e o Feeds h own = absurd own
own_one bits out inn e o (Sends c) h own = sends_own bits out inn e o c h own
own_one bits out inn e o Confirms h own = absurd own
own_one bits out inn e o (Receives c) h own = receives_own bits out inn e o c h own
own_one bits out inn e o HandsUp h own = absurd own
own_one bits out inn e o (Asks c) h own = asks_own bits out inn e o c h own
own_one bits out inn e o (Sets ttis) h own = sets_go_on bits out inn e o ttis h

abbrev pub AreOwn : List Deed → Type 0
AreOwn deeds = AllByRecursion IsOwn deeds

pub own_all : (bits : ℕ) (out inn : Way) (e o : BearerEnd) (deeds : List Deed) → JoinedEnds bits out inn e o
    → AreOwn deeds
    → EndsGoOn bits out inn (with_bearer deeds e) o [] [] [] [] [] []
own_all bits out inn e o [] h own = stays_joined bits out inn e o h
own_all bits out inn e o (deed ∷ deeds) h own =
    let m = own_one bits out inn e o deed h own.0 in
    let d = with_bearer (deed ∷ []) e in
    ends_then bits out inn d o (with_bearer deeds d) o [] [] [] [] [] [] [] [] m
    (own_all bits m.out_after m.inn_after d o deeds m.joined own.1)
