-- What an end does brings both directions on.
use Rattle.std.proofs.Common.{◌≡◌, ℕ, ◌-◌, false, List, [], ◌∷◌, ◌++◌, map, length, Option, Some, None, slice_get}
use Rattle.std.proofs.Common.{append-nil, refl, ap, sym, subst, ◌∙◌}
use Rattle.std.specs.List.{AllByRecursion}
use Rattle.law_rlc.specs.AmReceiver.Run.{Arrive as Hears-it, state_after}
use Rattle.law_rlc.specs.AmPair.Flow.{Copy, Report, DataGoes as LetsDataGo, StatusGoes as LetsStatusGo}
use Rattle.law_rlc.specs.AmPair.Flow.{Passes as TtiPasses}
use Rattle.law_rlc.specs.AmPair.Flow.{except}
use Rattle.law_rlc.specs.AmPair.Statuses.{reduced}
use Rattle.rlc_pdu.specs.declared.Landed.TheVariants.{Clash}
use Rattle.rlc_am_rx.specs.Machine.{landed}
use Rattle.rlc_am_rx.specs.State.{State as Receiver}
use Rattle.law_rlc.specs.AmPair.Flow.{Reports as ReportsOn}
use Rattle.law_rlc.specs.AmArrival.Arrival.{written_in}
use Rattle.law_rlc.proofs.AmPair.Laws.{happens-sound}
use Rattle.law_words.specs.Passing.{Passing, Comes, Told, with_passings}
use Rattle.bearer.specs.Acknowledged.Taking.{status_pdu}
use Rattle.bearer.specs.Acknowledged.State.{State}
use Rattle.law_bearer.specs.AnyBearer.Acknowledged.{status_heard, data_heard}
use Rattle.law_bearer.specs.AnyBearer.Calls.{Call, Submit, Take, Arrive, Expire, Tick, SetDiscard}
use Rattle.law_bearer.specs.AnyBearer.Queue.{submits}
use Rattle.law_bearer.specs.AmBearer.Calls.{IsIdle, tells, ups_among}
use Rattle.law_deliver.specs.AmDelivery.Arrival.{said_in, heard_in, said_by, heard_by}
use Rattle.law_deliver.specs.AmDelivery.Ends.{submitted_by}
use Rattle.law_deliver.specs.AmDelivery.Lives.{call_by, call_of, calls_in, ups_by}
use Rattle.law_deliver.specs.AmFlow.Pair.{BearerEnd, Deed, Calls, DataComes, StatusComes, DataGoes}
use Rattle.law_deliver.specs.AmFlow.Pair.{StatusGoes}
use Rattle.law_deliver.specs.AmFlow.Pair.{called, calls, arrives, data_comes as data_comes_to}
use Rattle.law_deliver.specs.AmFlow.Pair.{status_comes as status_comes_to, does, older, passed, IsCalling, IsDone}
use Rattle.law_deliver.specs.AmFlow.Pair.{data_by}
use Rattle.law_rlc.specs.AmPair.Given.{IsYoung}
use Rattle.law_deliver.proofs.AmFlow.Flows.{data_read, ReadsStatus, status_read, ages}
use Rattle.law_pdcp.specs.OneEnd.Lives.{queue}
use Rattle.pdcp_pdu.specs.declared.PdcpKind.TheVariants.{Srb}
use Rattle.pdcp_tx.specs.State.{State as Sending, refusal, submitted}
use Rattle.law_pdcp.proofs.SrbPair.Sending.{Sends, submit_sends, submit_queues}
use Rattle.law_deliver.specs.SrbDelivery.Life.{IsAccepted, MayBeDone}
use Rattle.law_deliver.proofs.SrbDelivery.Arriving.{data_comes, status_comes}
use Rattle.law_deliver.proofs.SrbDelivery.Going.{Goes, stays, calm_goes}
use Rattle.law_deliver.proofs.SrbDelivery.Hearing.{calls_hear, status_hears, data_hears}
use Rattle.law_deliver.specs.SrbDelivery.Arrival.{passes_of}
use Rattle.law_deliver.proofs.AmFlow.Hearing.{is_reported}
use Rattle.law_deliver.proofs.SrbDelivery.Passing.{StatusIs, says_told, hears_none, hears_status}
use Rattle.law_deliver.proofs.SrbDelivery.Joined.{Way, with_told, flow_by, Joined, has_flow, stands_so, sound_so}
use Rattle.law_deliver.proofs.SrbDelivery.Joined.{SendsOn}
use Rattle.law_deliver.proofs.SrbDelivery.Joined.{out_goes, inn_goes, next_are, are_next}
use Rattle.law_deliver.specs.SrbDelivery.Losses.{losses_by}
use Rattle.promises.specs.Events.{losses}
use Rattle.law_deliver.proofs.SrbDelivery.Losing.{calls_lose_none}
use Rattle.bearer_types.specs.declared.Event.{Event}
use Rattle.law_deliver.proofs.SrbDelivery.Quiet.{IsCall, calls_as, none_up, calls_stay, Keeps, tick_keeps, expire_keeps}
use Rattle.law_deliver.proofs.SrbDelivery.Sending.{offers_by, calls_send, data_sends, status_sends}
use Rattle.law_deliver.proofs.SrbDelivery.Taking.{takes_on}

-- ---- both directions at an end that does something

pub record IsSignalling (b : State) : Type 0 where
  pub kind : b.pdcp.kind ≡ Srb
  pub idle : IsIdle b

-- from the end to the other, and back
pub record Both (out inn : Way) (e o : BearerEnd) (sent up got : List (List ℕ)) (back : List (List ℕ)) : Type 0 where
  pub out_joins : Joined out e o sent up
  pub inn_joins : Joined inn o e back got
  pub own : IsSignalling e.bearer
  pub other : IsSignalling o.bearer

-- and loses nothing
pub record Done (out inn : Way) (e o : BearerEnd) (sent up got : List (List ℕ)) (back : List (List ℕ))
    (lost : List Event) : Type 0 where
  pub both : Both out inn e o sent up got back
  pub none : lost ≡ []

-- ---- a call of PDCP's sender

keeps_on : (w : Way) (sdus : List (List ℕ)) (s t : Sending) → Keeps w.first w.protection sdus s t
    → SendsOn w sdus s t [] []
keeps_on w sdus s t k = record {
  news = [];
  sends = subst (λ l. Sends w.first w.protection l t) (sym (append-nil sdus)) k.sends;
  queued = append-nil (queue s) ∙ sym k.queued;
  offers_are = refl;
}

submit_on : (w : Way) (sdus : List (List ℕ)) (b : State) (sdu : List ℕ) → refusal b.pdcp.tx sdu ≡ None
    → Sends w.first w.protection sdus b.pdcp.tx
    → SendsOn w sdus b.pdcp.tx (called b (Submit sdu)).pdcp.tx (sdu ∷ []) []
submit_on w sdus b sdu g h =
    subst (λ (d : State). SendsOn w sdus b.pdcp.tx d.pdcp.tx (sdu ∷ []) []) (sym (calls_as b (Submit sdu) tt))
    (record {
      news = [];
      sends = subst (λ l. Sends w.first w.protection l (submitted b.pdcp.tx sdu)) (sym (append-nil sdus))
          (submit_sends w.first w.protection sdus b.pdcp.tx sdu g h);
      queued = sym (submit_queues b.pdcp.tx sdu);
      offers_are = refl;
    })

take_on : (w : Way) (sdus : List (List ℕ)) (b : State) (share : ℕ) (held : Option ℕ)
    → Sends w.first w.protection sdus b.pdcp.tx
    → SendsOn w sdus b.pdcp.tx (called b (Take share held)).pdcp.tx [] (offers_by b (Take share held))
take_on w sdus b share held h =
    let t = takes_on w.first w.protection sdus b share held h in
    record {
      news = t.news;
      sends = t.sends;
      queued = append-nil (queue b.pdcp.tx) ∙ t.queued;
      offers_are = t.offers_are;
    }

calls_send_on : (w : Way) (sdus : List (List ℕ)) (b : State) (c : Call) → IsCall c → IsAccepted b c
    → Sends w.first w.protection sdus b.pdcp.tx
    → SendsOn w sdus b.pdcp.tx (called b c).pdcp.tx (submits c) (offers_by b c)
calls_send_on w sdus b (Submit sdu) g may h = submit_on w sdus b sdu may h
calls_send_on w sdus b (Take share held) g may h = take_on w sdus b share held h
calls_send_on w sdus b (Arrive pdu) g may h = absurd g
calls_send_on w sdus b (Expire clock) g may h =
    keeps_on w sdus b.pdcp.tx (called b (Expire clock)).pdcp.tx (expire_keeps w.first w.protection sdus b clock h)
calls_send_on w sdus b Tick g may h =
    keeps_on w sdus b.pdcp.tx (called b Tick).pdcp.tx (tick_keeps w.first w.protection sdus b h)
calls_send_on w sdus b (SetDiscard ttis) g may h = absurd may

-- ---- a direction in which nothing goes up

none_goes : (w : Way) (from to d p : BearerEnd) (back got : List (List ℕ)) (j : Joined w from to back got)
    → Goes (flow_by w j.steps) d.bearer.tx p.bearer.rx d.copies p.reports d.busy [] [] []
    → p.bearer.pdcp.rx ≡ to.bearer.pdcp.rx → d.bearer.pdcp.tx ≡ from.bearer.pdcp.tx
    → Joined w d p back got
none_goes w from to d p back got j m rx tx =
    subst (λ l. Joined w d p l got) (append-nil back)
    (out_goes w from to d p back got [] [] [] j m
    (record {
      news = [];
      sends = subst (Sends w.first w.protection ((got ++ j.later) ++ [])) (sym tx)
          (subst (λ l. Sends w.first w.protection l from.bearer.pdcp.tx) (sym (append-nil (got ++ j.later))) j.sends);
      queued = append-nil (queue from.bearer.pdcp.tx) ∙ ap queue (sym tx);
      offers_are = refl;
    }) rx)

-- what is told in another form
told_as : (w : Way) (from to : BearerEnd) (submitted ups : List (List ℕ)) (ps qs : List Passing)
    → with_passings ps w.told ≡ with_passings qs w.told → Joined (with_told ps w) from to submitted ups
    → Joined (with_told qs w) from to submitted ups
told_as w from to submitted ups ps qs e j =
    subst (λ (t : Told). Joined (record w { told = t }) from to submitted ups) e j

-- a STATUS of an end is read as one
status_is : (w : Way) (e o : BearerEnd) (back got : List (List ℕ)) (share : ℕ) (j : Joined w o e back got)
    → StatusIs (status_pdu e.bearer.rx share)
status_is w e o back got share j =
    let f = flow_by w j.steps in
    let s = ReportsOn (share - 3) (status_pdu e.bearer.rx share) in
    let ok = happens-sound f s (is_reported f e.bearer.rx share j.is.receiver_is) (sound_so w o e back got j) in
    (_, ok.reports.0.reads)

-- ---- what an end says and hears

abbrev pub says_in : State → List Call → List Passing
says_in b cs = passes_of (said_by b cs)

abbrev pub hears_in : List Call → List Passing
hears_in cs = passes_of (heard_by cs)

-- ---- a call that brings no PDU

both_by : (out inn : Way) (d o : BearerEnd) (sent up got back more news : List (List ℕ))
    → Joined out d o (sent ++ more) up → Joined inn o d back (got ++ news) → IsSignalling d.bearer
    → IsSignalling o.bearer
    → Both out inn d o (sent ++ more) up (got ++ news) back
both_by out inn d o sent up got back more news a b x y = record { out_joins = a; inn_joins = b; own = x; other = y }

is_call : (e : BearerEnd) (c : Call) → IsCalling e c → IsCall c
is_call e (Submit sdu) g = tt
is_call e (Take share held) g = tt
is_call e (Arrive pdu) g = absurd g
is_call e (Expire clock) g = tt
is_call e Tick g = tt
is_call e (SetDiscard ttis) g = tt

-- the same that goes up, in another form
up_as : (w : Way) (from to : BearerEnd) (back got : List (List ℕ)) (news : List (List ℕ)) → news ≡ []
    → Joined w from to back got → Joined w from to back (got ++ news)
up_as w from to back got news q j =
    subst (λ l. Joined w from to back (got ++ l)) (sym q) (subst (Joined w from to back) (sym (append-nil got)) j)

sent_as : (w : Way) (from to : BearerEnd) (sent up : List (List ℕ)) → Joined w from to sent up
    → Joined w from to (sent ++ []) up
sent_as w from to sent up j = subst (λ l. Joined w from to l up) (sym (append-nil sent)) j

calls_go : (out inn : Way) (e o : BearerEnd) (sent up got back : List (List ℕ)) (c : Call) → IsCalling e c
    → IsAccepted e.bearer c → Both out inn e o sent up got back
    → Done (with_told (passes_of (said_in e.bearer c)) out) (with_told (passes_of (heard_in c)) inn) (calls e c) o
    (sent ++ submits c) up (got ++ ups_among (tells e.bearer c)) back (losses (tells e.bearer c))
calls_go out inn e o sent up got back c g may h =
    let d = calls e c in
    let quiet = is_call e c g in
    let j = h.out_joins in
    let k = h.inn_joins in
    let still = calls_stay e.bearer c quiet h.own.idle in
    let wrote = written_in (data_by e.bearer c) in
    let news = submits c in
    let there = out_goes out e o d o sent up news (offers_by e.bearer c) wrote j
    (calls_send e c (flow_by out j.steps) o.bearer.rx o.reports g (stands_so out e o sent up j))
    (calls_send_on out (up ++ j.later) e.bearer c quiet may j.sends) refl in
    let here =
    none_goes inn o e o d back got k
    (calls_hear e c (flow_by inn k.steps) o.bearer.tx o.copies o.busy g (stands_so inn o e back got k)) still.rx
    refl in
    record {
      both = both_by (with_told (passes_of (said_in e.bearer c)) out) (with_told (passes_of (heard_in c)) inn) d o sent
          up got back news (ups_among (tells e.bearer c))
          (told_as out d o (sent ++ news) up wrote (passes_of (said_in e.bearer c))
          (sym (says_told e.bearer c out.told (λ share. status_is inn e o back got share k))) there)
          (told_as inn o d back (got ++ ups_among (tells e.bearer c)) [] (passes_of (heard_in c))
          (sym (ap (λ (ps : List Passing). with_passings ps inn.told) (hears_none c quiet)))
          (up_as inn o d back got (ups_among (tells e.bearer c)) (none_up e.bearer c quiet) here))
          (record { kind = still.kind ∙ h.own.kind; idle = still.idle }) h.other;
      none = calls_lose_none e.bearer c quiet;
    }

-- ---- a data PDU comes

data_go : (out inn : Way) (e o : BearerEnd) (sent up got back : List (List ℕ)) (k : ℕ) (c : Copy)
    → slice_get o.copies k ≡ Some c → Both out inn e o sent up got back
    → Done out (with_told (Comes c.octets ∷ []) inn) (arrives e c.octets) o (sent ++ []) up
    (got ++ ups_among (tells e.bearer (Arrive c.octets))) back (losses (tells e.bearer (Arrive c.octets)))
data_go out inn e o sent up got back k c q h =
    let d = arrives e c.octets in
    let j = h.out_joins in
    let i = h.inn_joins in
    let r = data_read inn.sending inn.receiving o e (has_flow inn o e back got i) k c q in
    let x = r.pdu in
    let m = data_hears e (flow_by inn i.steps) k c x o.bearer.tx o.copies o.busy r.at r.read
    (sound_so inn o e back got i) h.own.idle.heard (stands_so inn o e back got i) in
    let came : List Passing = Comes c.octets ∷ [] in
    let next = next_are inn o e o d back got (state_after e.bearer.rx (Hears-it x)).out.ready came i m in
    let can = are_next inn o e back got (state_after e.bearer.rx (Hears-it x)).out.ready i next in
    let apart : landed e.bearer.rx x ≡ Clash → ⊥ =
    subst (λ (rx : Receiver). landed rx x ≡ Clash → ⊥) i.is.receiver_is r.clashes in
    let y = data_comes inn.first inn.protection (length got) next.news e.bearer c.octets x r.read apart h.own.idle
    i.hears can.some can.few next.brought_is in
    let here =
    inn_goes inn o e o d back got (state_after e.bearer.rx (Hears-it x)).out.ready came i next m y.hears' refl in
    let s = stands_so out e o sent up j in
    let there =
    out_goes out e o d o sent up [] [] [] j
    (data_sends e c.octets (flow_by out j.steps) o.bearer.rx o.reports (ap status_heard r.read) s)
    (keeps_on out (up ++ j.later) e.bearer.pdcp.tx d.bearer.pdcp.tx
    (record {
      sends = subst (Sends out.first out.protection (up ++ j.later)) (sym y.tx) j.sends;
      queued = ap queue y.tx;
    })) refl in
    record {
      both = both_by out (with_told came inn) d o sent up got back []
          (ups_among (tells e.bearer (Arrive c.octets))) there
          (subst (λ l. Joined (with_told came inn) o d back (got ++ l)) (sym y.ups_is) here)
          (record { kind = y.kind ∙ h.own.kind; idle = y.idle }) h.other;
      none = y.none_lost;
    }

-- ---- a STATUS comes

status_by : (out inn : Way) (e o : BearerEnd) (sent up got back : List (List ℕ)) (k : ℕ) (s : Report)
    (j : Joined out e o sent up) → ReadsStatus (flow_by out j.steps) k s → Joined inn o e back got
    → IsSignalling e.bearer → IsSignalling o.bearer
    → Done out (with_told (Comes s.octets ∷ []) inn) (arrives e s.octets) o (sent ++ []) up
    (got ++ ups_among (tells e.bearer (Arrive s.octets))) back (losses (tells e.bearer (Arrive s.octets)))
status_by out inn e o sent up got back k s j r i own other =
    let octets = s.octets in
    let d = arrives e octets in
    let y = status_comes e.bearer octets (reduced s) r.read own.idle in
    let st = stands_so out e o sent up j in
    let there =
    out_goes out e o d o sent up [] [] [] j
    (status_sends e (flow_by out j.steps) k s (reduced s) o.bearer.rx o.reports r.at r.read st)
    (keeps_on out (up ++ j.later) e.bearer.pdcp.tx d.bearer.pdcp.tx
    (y.keeps out.first out.protection (up ++ j.later) j.sends)) refl in
    let here =
    none_goes inn o e o d back got i
    (status_hears e octets (flow_by inn i.steps) o.bearer.tx o.copies o.busy (ap data_heard r.read)
    (stands_so inn o e back got i)) y.stays.rx refl in
    record {
      both = both_by out (with_told (Comes octets ∷ []) inn) d o sent up got back []
          (ups_among (tells e.bearer (Arrive octets))) there
          (told_as inn o d back (got ++ ups_among (tells e.bearer (Arrive octets))) [] (Comes octets ∷ [])
          (sym (hears_status octets (reduced s) inn.told r.read))
          (up_as inn o d back got (ups_among (tells e.bearer (Arrive octets))) y.ups_is here))
          (record { kind = y.stays.kind ∙ own.kind; idle = y.stays.idle }) other;
      none = y.none_lost;
    }

status_go : (out inn : Way) (e o : BearerEnd) (sent up got back : List (List ℕ)) (k : ℕ) (s : Report)
    → slice_get o.reports k ≡ Some s → Both out inn e o sent up got back
    → Done out (with_told (Comes s.octets ∷ []) inn) (arrives e s.octets) o (sent ++ []) up
    (got ++ ups_among (tells e.bearer (Arrive s.octets))) back (losses (tells e.bearer (Arrive s.octets)))
status_go out inn e o sent up got back k s q h =
    status_by out inn e o sent up got back k s h.out_joins
    (status_read out.sending out.receiving e o (has_flow out e o sent up h.out_joins) k s q) h.inn_joins h.own
    h.other

-- ---- something is let go

data_lost : (out inn : Way) (e o : BearerEnd) (sent up got back : List (List ℕ)) (k : ℕ)
    → Both out inn e o sent up got back → Both out inn (does o e (DataGoes k)) o (sent ++ []) up (got ++ []) back
data_lost out inn e o sent up got back k h =
    let d = does o e (DataGoes k) in
    let j = h.out_joins in
    let i = h.inn_joins in
    let s = stands_so out e o sent up j in
    let f = flow_by out j.steps in
    let there =
    none_goes out e o d o sent up j
    (calm_goes f (LetsDataGo k) d.bearer.tx o.bearer.rx (except k e.copies) o.reports e.busy [] refl tt
    (record { stays = refl; none = refl }) (record {
      sender_is = s.sender_is;
      receiver_is = s.receiver_is;
      copies_are = ap (except k) s.copies_are;
      reports_are = s.reports_are;
      busy_is = s.busy_is;
    })) refl refl in
    let here =
    none_goes inn o e o d back got i
    (stays (flow_by inn i.steps) o.bearer.tx d.bearer.rx o.copies d.reports o.busy (stands_so inn o e back got i))
    refl refl in
    both_by out inn d o sent up got back [] [] (sent_as out d o sent up there) (up_as inn o d back got [] refl here)
    h.own h.other

status_lost : (out inn : Way) (e o : BearerEnd) (sent up got back : List (List ℕ)) (k : ℕ)
    → Both out inn e o sent up got back → Both out inn (does o e (StatusGoes k)) o (sent ++ []) up (got ++ []) back
status_lost out inn e o sent up got back k h =
    let d = does o e (StatusGoes k) in
    let j = h.out_joins in
    let i = h.inn_joins in
    let s = stands_so inn o e back got i in
    let f = flow_by inn i.steps in
    let here =
    none_goes inn o e o d back got i
    (calm_goes f (LetsStatusGo k) o.bearer.tx d.bearer.rx o.copies (except k e.reports) o.busy [] refl tt
    (record { stays = refl; none = refl }) (record {
      sender_is = s.sender_is;
      receiver_is = s.receiver_is;
      copies_are = s.copies_are;
      reports_are = ap (except k) s.reports_are;
      busy_is = s.busy_is;
    })) refl refl in
    let there =
    none_goes out e o d o sent up j
    (stays (flow_by out j.steps) d.bearer.tx o.bearer.rx d.copies o.reports d.busy (stands_so out e o sent up j))
    refl refl in
    both_by out inn d o sent up got back [] [] (sent_as out d o sent up there) (up_as inn o d back got [] refl here)
    h.own h.other

-- ---- whatever an end does

nothing_done : (out inn : Way) (e o : BearerEnd) (sent up got back : List (List ℕ))
    → Both out inn e o sent up got back → Both out inn e o (sent ++ []) up (got ++ []) back
nothing_done out inn e o sent up got back h =
    record {
      out_joins = sent_as out e o sent up h.out_joins;
      inn_joins = up_as inn o e back got [] refl h.inn_joins;
      own = h.own;
      other = h.other;
    }

data_does : (out inn : Way) (e o : BearerEnd) (sent up got back : List (List ℕ)) (k : ℕ) (x : Option Copy)
    → slice_get o.copies k ≡ x → Both out inn e o sent up got back
    → Done (with_told (says_in e.bearer (call_by x)) out) (with_told (hears_in (call_by x)) inn) (data_comes_to e x) o
    (sent ++ submitted_by (call_by x)) up (got ++ ups_by e.bearer (call_by x)) back
    (losses_by e.bearer (call_by x))
data_does out inn e o sent up got back k None q h =
    record { both = nothing_done out inn e o sent up got back h; none = refl }
data_does out inn e o sent up got back k (Some c) q h = data_go out inn e o sent up got back k c q h

status_does : (out inn : Way) (e o : BearerEnd) (sent up got back : List (List ℕ)) (k : ℕ) (x : Option Report)
    → slice_get o.reports k ≡ x → Both out inn e o sent up got back
    → Done (with_told (says_in e.bearer (call_of x)) out) (with_told (hears_in (call_of x)) inn) (status_comes_to e x) o
    (sent ++ submitted_by (call_of x)) up (got ++ ups_by e.bearer (call_of x)) back
    (losses_by e.bearer (call_of x))
status_does out inn e o sent up got back k None q h =
    record { both = nothing_done out inn e o sent up got back h; none = refl }
status_does out inn e o sent up got back k (Some s) q h = status_go out inn e o sent up got back k s q h

pub does_on : (out inn : Way) (e o : BearerEnd) (sent up got back : List (List ℕ)) (x : Deed) → IsDone e x
    → MayBeDone e.bearer x → Both out inn e o sent up got back
    → Done (with_told (says_in e.bearer (calls_in o x)) out) (with_told (hears_in (calls_in o x)) inn) (does o e x) o
    (sent ++ submitted_by (calls_in o x)) up (got ++ ups_by e.bearer (calls_in o x)) back
    (losses_by e.bearer (calls_in o x))
does_on out inn e o sent up got back (Calls c) g may h = calls_go out inn e o sent up got back c g may h
does_on out inn e o sent up got back (DataComes k) g may h =
    data_does out inn e o sent up got back k (slice_get o.copies k) refl h
does_on out inn e o sent up got back (StatusComes k) g may h =
    status_does out inn e o sent up got back k (slice_get o.reports k) refl h
does_on out inn e o sent up got back (DataGoes k) g may h =
    record { both = data_lost out inn e o sent up got back k h; none = refl }
does_on out inn e o sent up got back (StatusGoes k) g may h =
    record { both = status_lost out inn e o sent up got back k h; none = refl }

-- ---- a TTI passes

pub passes_on : (w : Way) (e o : BearerEnd) (sent up : List (List ℕ)) → AllByRecursion IsYoung o.reports
    → Joined w e o sent up → Joined w (passed e) (passed o) sent up
passes_on w e o sent up young j =
    let s = stands_so w e o sent up j in
    let f = flow_by w j.steps in
    none_goes w e o (passed e) (passed o) sent up j
    (calm_goes f TtiPasses e.bearer.tx o.bearer.rx e.copies (map older o.reports) false [] refl
    (subst (λ (l : List Report). AllByRecursion IsYoung l) (sym s.reports_are) young)
    (record { stays = refl; none = refl }) (record {
      sender_is = s.sender_is;
      receiver_is = s.receiver_is;
      copies_are = s.copies_are;
      reports_are = ages f.reports ∙ ap (map older) s.reports_are;
      busy_is = refl;
    })) refl refl
