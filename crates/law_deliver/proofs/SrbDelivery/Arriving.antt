-- What comes to a signalling bearer: a STATUS, and data PDUs that bring up PDUs of PDCP.
use Rattle.std.proofs.Common.{◌≡◌, ◌≤◌, ℕ, suc, ◌+◌, ◌^◌, Bool, true, false, List, [], ◌∷◌, ◌++◌, length, Result, Ok}
use Rattle.std.proofs.Common.{append-nil, append_assoc, refl, ap, sym, subst, ◌∙◌, arith}
use Rattle.bearer_types.specs.declared.Event.{Event}
use Rattle.pdcp_pdu.specs.declared.PdcpKind.TheVariants.{Srb}
use Rattle.pdcp_sec.specs.Protection.{Protection}
use Rattle.pdcp_tx.specs.Pdus.{pdu}
use Rattle.pdcp_tx.specs.State.{confirmed as confirmed_at}
use Rattle.pdcp_rx.specs.declared.got.Cause.TheVariants.{Arrived}
use Rattle.pdcp_rx.specs.declared.got.Got.{Got}
use Rattle.pdcp_rx.specs.declared.got.Got.TheVariants as answers
use Rattle.pdcp_rx.specs.State.{State as Receiving, got}
use Rattle.rlc_pdu.specs.declared.fault.RlcRefusal.{RlcRefusal}
use Rattle.rlc_pdu.specs.declared.Landed.TheVariants.{Clash}
use Rattle.rlc_pdu.specs.Pdus.{AcknowledgedPdu, AmdPdu, StatusPdu, Payload, Status as Control}
use Rattle.rlc_pdu.specs.Reading.{am_at}
use Rattle.rlc_am_rx.specs.Machine.{arrived as landed_in, landed, turned}
use Rattle.rlc_am_tx.specs.declared.answers.Heard.{Heard}
use Rattle.rlc_am_tx.specs.declared.answers.Heard.TheVariants as heard_as
use Rattle.rlc_am_tx.specs.Machine.{State as Sender, heard as heard_status, after_status, settles as starts}
use Rattle.bearer_pdcp.specs.Ends.{Ends}
use Rattle.bearer_pdcp.specs.Hearing.{ups, handed, got_told, got_left, got_applied, with_arrived, applies, heard_told}
use Rattle.bearer_pdcp.specs.Hearing.{after_hearing}
use Rattle.bearer_pdcp.specs.Telling.{landed_told}
use Rattle.bearer.specs.Acknowledged.State.{State, has_more, Work, work, with_work}
use Rattle.bearer.specs.Acknowledged.Hearing.{started_told, stopped_told, settled_if, hears, hears_all, land_work}
use Rattle.bearer.specs.Acknowledged.Hearing.{confirms, all_confirmed, status_work, arrived_told, arrived_left}
use Rattle.bearer.specs.Acknowledged.Hearing.{arriving as am_arriving, after_arrival}
use Rattle.bearer.specs.Hearing.{arriving, arrived}
use Rattle.law_bearer.specs.AnyBearer.Calls.{Arrive}
use Rattle.law_bearer.specs.AmBearer.Calls.{IsIdle, tells, ups_among}
use Rattle.law_bearer.proofs.AmBearer.Arriving.{landed_none}
use Rattle.law_bearer.proofs.AmBearer.Keeping.{settled_news}
use Rattle.law_bearer.proofs.AmBearer.Ups.{ups_then, none_then, ups_are}
use Rattle.law_deliver.specs.AmFlow.Pair.{called}
use Rattle.law_pdcp.specs.SrbPair.Delivery.{AreReadAs}
use Rattle.law_pdcp.proofs.SrbPair.Laws.{Hears}
use Rattle.law_pdcp.proofs.SrbPair.Receives.{reads}
use Rattle.law_pdcp.proofs.OneEnd.Submitting.{AreNonempty}
use Rattle.law_pdcp.proofs.SrbPair.Sending.{Sends, confirm_sends, confirm_queues}
use Rattle.promises.specs.Events.{losses}
use Rattle.law_deliver.proofs.SrbDelivery.Losing.{none_then as none_lost_then, landed_none as landed_loses_none}
use Rattle.law_deliver.proofs.SrbDelivery.Losing.{ups_none as ups_lose_none, status_none as status_loses_none}
use Rattle.law_deliver.proofs.SrbDelivery.Quiet.{Keeps, keeps_itself, Stays}
use Rattle.law_deliver.proofs.SrbDelivery.Taking.{pdus_from}

-- ---- RLC hands up a PDU of PDCP

abbrev with_rx : Receiving → Ends → Ends
with_rx r e = record e { rx = r }

-- behind one that is read as a COUNT
abbrev behind : Receiving → ℕ → Receiving
behind r count = record r { next = count + 1; ready = [] }

one_heard : (w : Work) (octets : List ℕ) (count : ℕ) (sdu : List ℕ) → AreReadAs w.pdcp.rx octets count sdu
    → w.pdcp.rx.ready ≡ []
    → hears octets w ≡ work (with_rx (behind w.pdcp.rx count) w.pdcp) w.tx (w.events ++ ups w.pdcp.lcid (sdu ∷ []))
unfolding applies after_hearing heard_told
one_heard w octets count sdu read none =
    let e = w.pdcp in
    let up : got e.rx octets Arrived ≡ answers.Up = read.answer in
    let told : Ends = with_arrived octets Arrived e in
    ap (λ (g : Got). settled_if (got_applied g Arrived told)
    (work (got_left g Arrived told) w.tx (w.events ++ got_told g Arrived told))) up
    ∙ ap (λ (r : Receiving). work (handed (with_rx r e)) w.tx (w.events ++ ups e.lcid r.ready)) read.left
    ∙ ap (λ (l : List (List ℕ)). work (with_rx (behind e.rx count) e) w.tx (w.events ++ ups e.lcid (l ++ sdu ∷ [])))
    none

-- and all that it hands up
pub record HeardAll (first : ℕ) (p : Protection) (n : ℕ) (us : List (List ℕ)) (w : Work) : Type 0 where
  pub rx : Receiving
  pub hears' : Hears first p (n + length us) rx
  pub ready : rx.ready ≡ []
  pub left : hears_all (pdus_from p (first + n) us) w ≡ work (with_rx rx w.pdcp) w.tx (w.events ++ ups w.pdcp.lcid us)

heard_more : (first : ℕ) (p : Protection) (n : ℕ) (u : List ℕ) (us : List (List ℕ)) (w : Work)
    → AreReadAs w.pdcp.rx (pdu Srb p (first + n) u) (first + n) u → w.pdcp.rx.ready ≡ []
    → HeardAll first p (n + 1) us
    (work (with_rx (behind w.pdcp.rx (first + n)) w.pdcp) w.tx (w.events ++ ups w.pdcp.lcid (u ∷ [])))
    → HeardAll first p n (u ∷ us) w
heard_more first p n u us w read none h =
    let count : first + n + 1 ≡ first + (n + 1) = omega arith in
    let size : n + 1 + length us ≡ n + suc (length us) = omega arith in
    let v : Work = work (with_rx (behind w.pdcp.rx (first + n)) w.pdcp) w.tx (w.events ++ ups w.pdcp.lcid (u ∷ [])) in
    record {
      rx = h.rx;
      hears' = subst (λ k. Hears first p k h.rx) size h.hears';
      ready = h.ready;
      left =
          ap (hears_all (pdus_from p (first + n + 1) us))
          (one_heard w (pdu Srb p (first + n) u) (first + n) u read none)
          ∙ ap (λ k. hears_all (pdus_from p k us) v) count
          ∙ h.left
          ∙ ap (λ (l : List Event). work (with_rx h.rx w.pdcp) w.tx l)
          (append_assoc w.events (ups w.pdcp.lcid (u ∷ [])) (ups w.pdcp.lcid us));
    }

none_heard : (first : ℕ) (p : Protection) (n : ℕ) (w : Work) → Hears first p n w.pdcp.rx → w.pdcp.rx.ready ≡ []
    → HeardAll first p n [] w
none_heard first p n w h none =
    let size : n ≡ n + 0 = omega arith in
    record {
      rx = w.pdcp.rx;
      hears' = subst (λ k. Hears first p k w.pdcp.rx) size h;
      ready = none;
      left = ap (λ (l : List Event). work w.pdcp w.tx l) (sym (append-nil w.events));
    }

behind_hears : (first : ℕ) (p : Protection) (n : ℕ) (r : Receiving) → Hears first p n r
    → Hears first p (n + 1) (behind r (first + n))
behind_hears first p n r h = record { srb = h.srb; key = h.key; none_held = h.none_held; next = omega arith }

pub heard_all : (us : List (List ℕ)) (first : ℕ) (p : Protection) (n : ℕ) (w : Work) → Hears first p n w.pdcp.rx
    → w.pdcp.rx.ready ≡ [] → AreNonempty us → first + n + length us ≤ 2 ^ 32
    → HeardAll first p n us w
heard_all [] first p n w h none some few = none_heard first p n w h none
heard_all (u ∷ us) first p n w h none some few =
    let v : Work = work (with_rx (behind w.pdcp.rx (first + n)) w.pdcp) w.tx (w.events ++ ups w.pdcp.lcid (u ∷ [])) in
    heard_more first p n u us w
    (reads w.pdcp.rx (first + n) (pdu Srb p (first + n) u) u h.srb h.none_held some.0 h.next (omega (arith, few))
    (ap (λ (q : Protection). pdu Srb q (first + n) u) (sym h.key)))
    none (heard_all us first p (n + 1) v (behind_hears first p n w.pdcp.rx h) refl some.1 (omega (arith, few)))

-- ---- a data PDU

-- what it brings up are the next SDUs
pub record DataComes (first : ℕ) (p : Protection) (n : ℕ) (us : List (List ℕ)) (b : State) (octets : List ℕ) : Type 0
  where
    pub tx : (called b (Arrive octets)).pdcp.tx ≡ b.pdcp.tx
    pub kind : (called b (Arrive octets)).pdcp.kind ≡ b.pdcp.kind
    pub hears' : Hears first p (n + length us) (called b (Arrive octets)).pdcp.rx
    pub idle : IsIdle (called b (Arrive octets))
    pub ups_is : ups_among (tells b (Arrive octets)) ≡ us
    pub none_lost : losses (tells b (Arrive octets)) ≡ []

data_by : (first : ℕ) (p : Protection) (n : ℕ) (us : List (List ℕ)) (b : State) (octets : List ℕ) (x : AmdPdu)
    → am_at octets ≡ Ok (Payload x) → (landed b.rx x ≡ Clash → ⊥) → IsIdle b
    → HeardAll first p n us (work b.pdcp b.tx (landed_told b.pdcp.lcid (landed b.rx x) (turned b.rx x)))
    → (landed_in b.rx x).out.ready ≡ pdus_from p (first + n) us → DataComes first p n us b octets
unfolding arrived arriving am_arriving after_arrival
data_by first p n us b octets x read apart idle h q =
    let told = landed_told b.pdcp.lcid (landed b.rx x) (turned b.rx x) in
    let w : Work = work b.pdcp b.tx told in
    let all : land_work x b ≡ work (with_rx h.rx b.pdcp) b.tx (told ++ ups b.pdcp.lcid us) =
    ap (λ (l : List (List ℕ)). hears_all l w) q ∙ h.left in
    let left : called b (Arrive octets) ≡ arrived_left (Ok (Payload x)) b =
    ap (λ (r : Result AcknowledgedPdu RlcRefusal). arrived_left r b) read in
    let pdcp : (called b (Arrive octets)).pdcp ≡ with_rx h.rx b.pdcp =
    ap (λ (d : State). d.pdcp) left ∙ ap (λ (v : Work). v.pdcp) all in
    record {
      tx = ap (λ (e : Ends). e.tx) pdcp;
      kind = ap (λ (e : Ends). e.kind) pdcp;
      hears' = subst (λ (e : Ends). Hears first p (n + length us) e.rx) (sym pdcp) h.hears';
      idle = record {
        heard = ap (λ (d : State). d.rx.out.ready) left;
        raised = ap (λ (e : Ends). e.rx.ready) pdcp ∙ h.ready;
        confirmed = ap (λ (d : State). d.tx.accounts.news) left ∙ ap (λ (v : Work). v.tx.accounts.news) all
            ∙ idle.confirmed;
      };
      ups_is = ap (λ (r : Result AcknowledgedPdu RlcRefusal). ups_among (arrived_told r b)) read
          ∙ ap (λ (v : Work). ups_among v.events) all
          ∙ ups_then told (ups b.pdcp.lcid us)
          ∙ ap (λ l. l ++ ups_among (ups b.pdcp.lcid us)) (landed_none b.pdcp.lcid (landed b.rx x) (turned b.rx x))
          ∙ ups_are b.pdcp.lcid us;
      none_lost = ap (λ (r : Result AcknowledgedPdu RlcRefusal). losses (arrived_told r b)) read
          ∙ ap (λ (v : Work). losses v.events) all
          ∙ none_lost_then told (ups b.pdcp.lcid us)
          (landed_loses_none b.pdcp.lcid (landed b.rx x) (turned b.rx x) apart) (ups_lose_none b.pdcp.lcid us);
    }

pub data_comes : (first : ℕ) (p : Protection) (n : ℕ) (us : List (List ℕ)) (b : State) (octets : List ℕ) (x : AmdPdu)
    → am_at octets ≡ Ok (Payload x) → (landed b.rx x ≡ Clash → ⊥) → IsIdle b
    → Hears first p n b.pdcp.rx → AreNonempty us → first + n + length us ≤ 2 ^ 32
    → (landed_in b.rx x).out.ready ≡ pdus_from p (first + n) us → DataComes first p n us b octets
data_comes first p n us b octets x read apart idle h some few q =
    data_by first p n us b octets x read apart idle
    (heard_all us first p n (work b.pdcp b.tx (landed_told b.pdcp.lcid (landed b.rx x) (turned b.rx x))) h
    idle.raised some few) q

-- ---- a STATUS

confirms_keeps : (first : ℕ) (p : Protection) (sdus : List (List ℕ)) (places : List ℕ) (e : Ends)
    → Sends first p sdus e.tx → Keeps first p sdus e.tx (confirms places e).tx
confirms_keeps first p sdus [] e h = keeps_itself first p sdus e.tx h
confirms_keeps first p sdus (place ∷ places) e h =
    let rest = confirms_keeps first p sdus places (record e { tx = confirmed_at e.tx place })
    (confirm_sends first p sdus e.tx place h) in
    record { sends = rest.sends; queued = rest.queued ∙ confirm_queues e.tx place }

record Alike (e d : Ends) : Type 0 where
  rx : d.rx ≡ e.rx
  kind : d.kind ≡ e.kind

confirms_alike : (places : List ℕ) (e : Ends) → Alike e (confirms places e)
confirms_alike [] e = record { rx = refl; kind = refl }
confirms_alike (place ∷ places) e = let rest = confirms_alike places (record e { tx = confirmed_at e.tx place }) in
    record { rx = rest.rx; kind = rest.kind }

status_pdcp : (h : Heard) (w : Work) → (status_work h w).pdcp ≡ w.pdcp
status_pdcp heard_as.Ignored w = refl
status_pdcp (heard_as.Limit sn) w = refl
status_pdcp (heard_as.Applied stopped) w = refl

status_news : (h : Heard) (w : Work) → (status_work h w).tx.accounts.news ≡ w.tx.accounts.news
status_news heard_as.Ignored w = refl
status_news (heard_as.Limit sn) w = refl
status_news (heard_as.Applied stopped) w = settled_news w.tx (has_more w.pdcp)

stopped_none : (lcid : ℕ) (b : Bool) → ups_among (stopped_told lcid b) ≡ []
stopped_none lcid true = refl
stopped_none lcid false = refl

started_none : (lcid : ℕ) (b : Bool) → ups_among (started_told lcid b) ≡ []
started_none lcid true = refl
started_none lcid false = refl

status_none : (h : Heard) (pdcp : Ends) (tx : Sender) → ups_among (status_work h (work pdcp tx [])).events ≡ []
status_none heard_as.Ignored pdcp tx = refl
status_none (heard_as.Limit sn) pdcp tx = refl
status_none (heard_as.Applied stopped) pdcp tx =
    none_then (stopped_told pdcp.lcid stopped) (started_told pdcp.lcid (starts tx (has_more pdcp)))
    (stopped_none pdcp.lcid stopped) (started_none pdcp.lcid (starts tx (has_more pdcp)))

pub record StatusComes (b : State) (octets : List ℕ) : Type 0 where
  pub stays : Stays b (called b (Arrive octets))
  pub keeps : (first : ℕ) (p : Protection) (sdus : List (List ℕ)) → Sends first p sdus b.pdcp.tx
      → Keeps first p sdus b.pdcp.tx (called b (Arrive octets)).pdcp.tx
  pub ups_is : ups_among (tells b (Arrive octets)) ≡ []
  pub none_lost : losses (tells b (Arrive octets)) ≡ []

pub status_comes : (b : State) (octets : List ℕ) (x : StatusPdu) → am_at octets ≡ Ok (Control x) → IsIdle b
    → StatusComes b octets
unfolding arrived arriving am_arriving after_arrival
status_comes b octets x read idle =
    let s : Sender = after_status b.tx x in
    let places = s.accounts.news in
    let w : Work = work (confirms places b.pdcp) (all_confirmed s) [] in
    let h = heard_status b.tx x in
    let left : called b (Arrive octets) ≡ with_work (status_work h w) b =
    ap (λ (r : Result AcknowledgedPdu RlcRefusal). arrived_left r b) read in
    let pdcp : (called b (Arrive octets)).pdcp ≡ confirms places b.pdcp =
    ap (λ (d : State). d.pdcp) left ∙ status_pdcp h w in
    let alike = confirms_alike places b.pdcp in
    record {
      stays = record {
        rx = ap (λ (e : Ends). e.rx) pdcp ∙ alike.rx;
        kind = ap (λ (e : Ends). e.kind) pdcp ∙ alike.kind;
        idle = record {
          heard = ap (λ (d : State). d.rx.out.ready) left ∙ idle.heard;
          raised = ap (λ (e : Ends). e.rx.ready) pdcp ∙ ap (λ (r : Receiving). r.ready) alike.rx ∙ idle.raised;
          confirmed = ap (λ (d : State). d.tx.accounts.news) left ∙ status_news h w;
        };
      };
      keeps = λ first p sdus k. subst (λ (e : Ends). Keeps first p sdus b.pdcp.tx e.tx) (sym pdcp)
          (confirms_keeps first p sdus places b.pdcp k);
      ups_is = ap (λ (r : Result AcknowledgedPdu RlcRefusal). ups_among (arrived_told r b)) read
          ∙ status_none h w.pdcp w.tx;
      none_lost = ap (λ (r : Result AcknowledgedPdu RlcRefusal). losses (arrived_told r b)) read
          ∙ status_loses_none h w.pdcp w.tx;
    }
