-- What comes to a bearer, as deeds.
use Rattle.std.proofs.Common.{◌≡◌, ℕ, Bool, true, false, List, [], ◌∷◌, ◌++◌, drop, Result, Ok, Err, append-nil}
use Rattle.std.proofs.Common.{append_assoc, subst, refl, ap, sym, ◌∙◌, inl, inr}
use Rattle.bearer_types.specs.declared.Event.{Event}
use Rattle.pdcp_rx.specs.declared.got.Cause.TheVariants.{Arrived}
use Rattle.pdcp_rx.specs.State.{arrived as arrived_at}
use Rattle.pdcp_tx.specs.State.{confirmed as confirmed_at}
use Rattle.rlc_pdu.specs.declared.fault.RlcRefusal.{RlcRefusal}
use Rattle.rlc_pdu.specs.declared.Landed.{Landed}
use Rattle.rlc_pdu.specs.declared.Landed.TheVariants.{Kept, Repeat, Outside, Clash}
use Rattle.rlc_pdu.specs.declared.Turned.{Turned}
use Rattle.rlc_pdu.specs.Pdus.{AcknowledgedPdu, AmdPdu, StatusPdu, Payload, Status as Control}
use Rattle.rlc_am_rx.specs.State.{State as Receiver}
use Rattle.rlc_am_rx.specs.Machine.{arrived, taken, landed, turned}
use Rattle.rlc_am_tx.specs.declared.answers.Heard.{Heard}
use Rattle.rlc_am_tx.specs.declared.answers.Heard.TheVariants as heard_as
use Rattle.rlc_am_tx.specs.Machine.{State as Sender, heard as heard_status, after_status, settles as starts}
use Rattle.law_rlc.specs.AmSender.Run.{Status}
use Rattle.bearer_pdcp.specs.Ends.{Ends}
use Rattle.bearer_pdcp.specs.Hearing.{applies, heard_told}
use Rattle.bearer_pdcp.specs.Telling.{turned_told, landed_told}
use Rattle.bearer.specs.Acknowledged.State.{State, has_more, Work, work, with_work}
use Rattle.bearer.specs.Acknowledged.Hearing.{started_told, stopped_told, settled_if, hears, hears_all, all_handed}
use Rattle.bearer.specs.Acknowledged.Hearing.{confirms, all_confirmed, status_work, arrived_told, arrived_left}
use Rattle.law_bearer.specs.AmBearer.Deeds.{Deed, Sends, Confirms, HandsUp, does, does_all, go_up, hands_first}
use Rattle.law_bearer.specs.AmBearer.Deeds.{confirms_first, raised_first, hears_one}
use Rattle.law_bearer.specs.AmBearer.Calls.{IsIdle, only_if, settles, hands_up, settles_by, confirms_all, arrives}
use Rattle.law_bearer.specs.AmBearer.Calls.{ups_among}
use Rattle.law_bearer.proofs.AmBearer.Ups.{does_then, ups_then, none_then, AreQuiet, quiet_then, quiet_each, quiet_up}
use Rattle.law_bearer.proofs.AmBearer.Hearing.{IsHearing, hears_one_as, hearing_ups}
use Rattle.law_bearer.proofs.AmBearer.Keeping.{settled_news, arrives_alike}

-- ---- SDUs that RLC hands up

-- a receiver from which those are handed up that are ready
abbrev standing : Work → State → Receiver → State
standing w b r = with_work w (record b { rx = r })

record Handed (sdus : List (List ℕ)) (w : Work) (b : State) (r : Receiver) : Type 0 where
  left : does_all (hands_up sdus w.pdcp) (standing w b r) ≡ standing (hears_all sdus w) b (all_handed r)
  ups : ups_among w.events ++ go_up (hands_up sdus w.pdcp) (standing w b r) ≡ ups_among (hears_all sdus w).events
  raised : (hears_all sdus w).pdcp.rx.ready ≡ []
  news : (hears_all sdus w).tx.accounts.news ≡ w.tx.accounts.news

none_ready : (r : Receiver) → r.out.ready ≡ [] → r ≡ all_handed r
none_ready r q = subst (λ l. r ≡ record r { out = record r.out { ready = l } }) q refl

none_handed : (w : Work) (b : State) (r : Receiver) → r.out.ready ≡ [] → w.pdcp.rx.ready ≡ [] → Handed [] w b r
none_handed w b r q e = record {
  left = ap (λ (x : Receiver). standing w b x) (none_ready r q);
  ups = append-nil (ups_among w.events);
  raised = e;
  news = refl;
}

-- the first of them, told so
abbrev one_heard : List ℕ → List Event → Work → Work
one_heard sdu told w = work (hears_one sdu w.pdcp) w.tx (w.events ++ told)

started_none : (lcid : ℕ) (b : Bool) → ups_among (started_told lcid b) ≡ []
started_none lcid true = refl
started_none lcid false = refl

-- the SDUs that the first makes ready
told_one : (before told : List Event) (raised more : List (List ℕ)) → ups_among told ≡ raised
    → ups_among before ++ (raised ++ more) ≡ ups_among (before ++ told) ++ more
told_one before told raised more p =
    sym (append_assoc (ups_among before) raised more)
    ∙ ap (λ l. (ups_among before ++ l) ++ more) (sym p)
    ∙ ap (λ l. l ++ more) (sym (ups_then before told))

told_with : (before told after : List Event) (raised more : List (List ℕ)) → ups_among told ≡ raised
    → ups_among after ≡ []
    → ups_among before ++ (raised ++ more) ≡ ups_among ((before ++ told) ++ after) ++ more
told_with before told after raised more p q =
    told_one before told raised more p
    ∙ ap (λ l. l ++ more) (sym (append-nil (ups_among (before ++ told)))
    ∙ ap (λ l. ups_among (before ++ told) ++ l) (sym q)
    ∙ sym (ups_then (before ++ told) after))

-- deeds by the list that stands first
handing : (sdu : List ℕ) (sdus : List (List ℕ)) (w : Work) (b : State) (r : Receiver) (deeds : List Deed)
    → r.out.ready ≡ sdu ∷ sdus
    → does_all (HandsUp ∷ deeds) (standing w b r) ≡ does_all deeds (hands_first (sdu ∷ sdus) (standing w b r))
handing sdu sdus w b r deeds q = ap (λ l. does_all deeds (hands_first l (standing w b r))) q

raising : (sdu : List ℕ) (sdus : List (List ℕ)) (w : Work) (b : State) (r : Receiver) (deeds : List Deed)
    → r.out.ready ≡ sdu ∷ sdus
    → go_up (HandsUp ∷ deeds) (standing w b r) ≡ (arrived_at w.pdcp.rx sdu Arrived).ready
    ++ go_up deeds (hands_first (sdu ∷ sdus) (standing w b r))
raising sdu sdus w b r deeds q = ap (λ l. raised_first l w.pdcp.rx ++ go_up deeds (hands_first l (standing w b r))) q

more_handed : (a : Bool) (sdu : List ℕ) (sdus : List (List ℕ)) (told : List Event) (w : Work) (b : State)
    (r : Receiver) → r.out.ready ≡ sdu ∷ sdus → ups_among told ≡ (arrived_at w.pdcp.rx sdu Arrived).ready
    → Handed sdus (settled_if a (one_heard sdu told w)) b (taken r)
    → (does_all (HandsUp ∷ (only_if a (settles (hears_one sdu w.pdcp)) ++ hands_up sdus (hears_one sdu w.pdcp)))
    (standing w b r) ≡ standing (hears_all sdus (settled_if a (one_heard sdu told w))) b (all_handed r))
    × (ups_among w.events
    ++ go_up (HandsUp ∷ (only_if a (settles (hears_one sdu w.pdcp)) ++ hands_up sdus (hears_one sdu w.pdcp)))
    (standing w b r) ≡ ups_among (hears_all sdus (settled_if a (one_heard sdu told w))).events)
    × ((settled_if a (one_heard sdu told w)).tx.accounts.news ≡ w.tx.accounts.news)
more_handed true sdu sdus told w b r q t h =
    let e = hears_one sdu w.pdcp in
    let deeds : List Deed = settles e ∷ hands_up sdus e in
    let v = settled_if true (one_heard sdu told w) in (
      handing sdu sdus w b r deeds q ∙ h.left,
      ap (λ l. ups_among w.events ++ l) (raising sdu sdus w b r deeds q)
          ∙ told_with w.events told (started_told e.lcid (starts w.tx (has_more e)))
          (arrived_at w.pdcp.rx sdu Arrived).ready (go_up (hands_up sdus e) (standing v b (taken r))) t
          (started_none e.lcid (starts w.tx (has_more e)))
          ∙ h.ups,
      settled_news w.tx (has_more e),
    )
more_handed false sdu sdus told w b r q t h =
    let e = hears_one sdu w.pdcp in
    let deeds : List Deed = hands_up sdus e in
    let v = settled_if false (one_heard sdu told w) in (
      handing sdu sdus w b r deeds q ∙ h.left,
      ap (λ l. ups_among w.events ++ l) (raising sdu sdus w b r deeds q)
          ∙ told_one w.events told (arrived_at w.pdcp.rx sdu Arrived).ready
          (go_up (hands_up sdus e) (standing v b (taken r))) t
          ∙ h.ups,
      refl,
    )

-- PDCP behind a work that may have settled
settled_pdcp : (a : Bool) (w : Work) → (settled_if a w).pdcp ≡ w.pdcp
settled_pdcp true w = refl
settled_pdcp false w = refl

still_hearing : (sdu : List ℕ) (e : Ends) → IsHearing e → IsHearing (hears_one sdu e)
still_hearing sdu e (inl am) = inl am
still_hearing sdu e (inr srb) = inr ((arrives_alike e.rx sdu Arrived).kind ∙ srb)

hears_as : (sdu : List ℕ) (w : Work) → IsHearing w.pdcp → w.pdcp.rx.ready ≡ []
    → settled_if (applies sdu Arrived w.pdcp) (one_heard sdu (heard_told sdu Arrived w.pdcp) w) ≡ hears sdu w
hears_as sdu w k q =
    ap (λ (e : Ends). settled_if (applies sdu Arrived w.pdcp)
    (work e w.tx (w.events ++ heard_told sdu Arrived w.pdcp))) (sym (hears_one_as sdu w.pdcp k q))

all_handed_up : (sdus : List (List ℕ)) (w : Work) (b : State) (r : Receiver) → r.out.ready ≡ sdus
    → IsHearing w.pdcp → w.pdcp.rx.ready ≡ [] → Handed sdus w b r
all_handed_up [] w b r q k e = none_handed w b r q e
all_handed_up (sdu ∷ sdus) w b r q k e =
    let a = applies sdu Arrived w.pdcp in
    let told = heard_told sdu Arrived w.pdcp in
    let v : Work = settled_if a (one_heard sdu told w) in
    let next : v.pdcp ≡ hears_one sdu w.pdcp = settled_pdcp a (one_heard sdu told w) in
    let rest : Handed sdus v b (taken r) =
    all_handed_up sdus v b (taken r) (ap (λ (l : List (List ℕ)). drop 1 l) q)
    (subst IsHearing (sym next) (still_hearing sdu w.pdcp k)) (ap (λ (x : Ends). x.rx.ready) next) in
    let more = more_handed a sdu sdus told w b r q (hearing_ups sdu Arrived w.pdcp k e) rest in
    let same : v ≡ hears sdu w = hears_as sdu w k e in
    record {
      left = more.0 ∙ ap (λ (x : Work). standing (hears_all sdus x) b (all_handed r)) same;
      ups = more.1 ∙ ap (λ (x : Work). ups_among (hears_all sdus x).events) same;
      raised = ap (λ (x : Work). (hears_all sdus x).pdcp.rx.ready) (sym same) ∙ rest.raised;
      news = ap (λ (x : Work). (hears_all sdus x).tx.accounts.news) (sym same) ∙ rest.news ∙ more.2;
    }

-- ---- places that are confirmed

none_confirmed : (s : Sender) → s.accounts.news ≡ [] → s ≡ all_confirmed s
none_confirmed s q = subst (λ l. s ≡ record s { accounts = record s.accounts { news = l } }) q refl

pub confirm_each : (places : List ℕ) (b : State) → b.tx.accounts.news ≡ places
    → does_all (confirms_all places) b ≡ record b { pdcp = confirms places b.pdcp; tx = all_confirmed b.tx }
confirm_each [] b q = ap (λ (s : Sender). record b { tx = s }) (none_confirmed b.tx q)
confirm_each (place ∷ places) b q =
    let d : State = confirms_first (place ∷ places) b in
    ap (λ l. does_all (confirms_all places) (confirms_first l b)) q
    ∙ confirm_each places d (ap (λ (l : List ℕ). drop 1 l) q)

status_as : (h : Heard) (w : Work) (b : State)
    → does_all (settles_by h w.pdcp) (with_work w b) ≡ with_work (status_work h w) b
status_as heard_as.Ignored w b = refl
status_as (heard_as.Limit sn) w b = refl
status_as (heard_as.Applied stopped) w b = refl

status_news : (h : Heard) (w : Work) → (status_work h w).tx.accounts.news ≡ w.tx.accounts.news
status_news heard_as.Ignored w = refl
status_news (heard_as.Limit sn) w = refl
status_news (heard_as.Applied stopped) w = settled_news w.tx (has_more w.pdcp)

status_rx : (h : Heard) (w : Work) → (status_work h w).pdcp ≡ w.pdcp
status_rx heard_as.Ignored w = refl
status_rx (heard_as.Limit sn) w = refl
status_rx (heard_as.Applied stopped) w = refl

confirms_rx : (places : List ℕ) (e : Ends) → (confirms places e).rx ≡ e.rx
confirms_rx [] e = refl
confirms_rx (place ∷ places) e = confirms_rx places (record e { tx = confirmed_at e.tx place })

stopped_none : (lcid : ℕ) (b : Bool) → ups_among (stopped_told lcid b) ≡ []
stopped_none lcid true = refl
stopped_none lcid false = refl

status_none : (h : Heard) (pdcp : Ends) (tx : Sender) → ups_among (status_work h (work pdcp tx [])).events ≡ []
status_none heard_as.Ignored pdcp tx = refl
status_none (heard_as.Limit sn) pdcp tx = refl
status_none (heard_as.Applied stopped) pdcp tx =
    none_then (stopped_told pdcp.lcid stopped) (started_told pdcp.lcid (starts tx (has_more pdcp)))
    (stopped_none pdcp.lcid stopped) (started_none pdcp.lcid (starts tx (has_more pdcp)))

settles_quiet : (h : Heard) (e : Ends) → AreQuiet (settles_by h e)
settles_quiet heard_as.Ignored e = tt
settles_quiet (heard_as.Limit sn) e = tt
settles_quiet (heard_as.Applied stopped) e = (tt, tt)

-- ---- a PDU

-- what it is to a bearer to which nothing is left over
pub record Comes (r : Result AcknowledgedPdu RlcRefusal) (b : State) : Type 0 where
  pub left : does_all (arrives r b) b ≡ arrived_left r b
  pub ups : go_up (arrives r b) b ≡ ups_among (arrived_told r b)
  pub idle : IsIdle (arrived_left r b)

pub turned_none : (lcid : ℕ) (t : Turned) → ups_among (turned_told lcid t) ≡ []
turned_none lcid t = by t.stopped t.started
  where
    by : (stopped started : Bool) → ups_among (turned_told lcid (record { stopped = stopped; started = started })) ≡ []
    by true true = refl
    by true false = refl
    by false true = refl
    by false false = refl

pub landed_none : (lcid : ℕ) (l : Landed) (t : Turned) → ups_among (landed_told lcid l t) ≡ []
landed_none lcid Kept t = turned_none lcid t
landed_none lcid Repeat t = refl
landed_none lcid Outside t = refl
landed_none lcid Clash t = refl

data_comes : (p : AmdPdu) (b : State) → IsHearing b.pdcp → IsIdle b → Comes (Ok (Payload p)) b
data_comes p b k idle =
    let told = landed_told b.pdcp.lcid (landed b.rx p) (turned b.rx p) in
    let w : Work = work b.pdcp b.tx told in
    let r : Receiver = arrived b.rx p in
    let h : Handed r.out.ready w b r = all_handed_up r.out.ready w b r refl k idle.raised in
    record {
      left = h.left;
      ups = ap (λ l. l ++ go_up (hands_up r.out.ready b.pdcp) (standing w b r))
          (sym (landed_none b.pdcp.lcid (landed b.rx p) (turned b.rx p))) ∙ h.ups;
      idle = record { heard = refl; raised = h.raised; confirmed = h.news ∙ idle.confirmed };
    }

status_comes : (p : StatusPdu) (b : State) → IsIdle b → Comes (Ok (Control p)) b
status_comes p b idle =
    let s : Sender = after_status b.tx p in
    let d : State = does b (Sends (Status p)) in
    let w : Work = work (confirms s.accounts.news b.pdcp) (all_confirmed s) [] in
    let h = heard_status b.tx p in
    let each : List Deed = confirms_all s.accounts.news in
    let last : List Deed = settles_by h w.pdcp in
    record {
      left = does_then each last d ∙ ap (does_all last) (confirm_each s.accounts.news d refl) ∙ status_as h w b;
      ups =
          quiet_up (each ++ last) d
          (quiet_then each last (quiet_each Confirms s.accounts.news tt) (settles_quiet h w.pdcp))
          ∙ sym (status_none h w.pdcp w.tx);
      idle = record {
        heard = idle.heard;
        raised = ap (λ (e : Ends). e.rx.ready) (status_rx h w)
            ∙ ap (λ r. r.ready) (confirms_rx s.accounts.news b.pdcp) ∙ idle.raised;
        confirmed = status_news h w;
      };
    }

pub comes : (r : Result AcknowledgedPdu RlcRefusal) (b : State) → IsHearing b.pdcp → IsIdle b → Comes r b
comes (Err refused) b k idle = record { left = refl; ups = refl; idle = idle }
comes (Ok (Payload p)) b k idle = data_comes p b k idle
comes (Ok (Control p)) b k idle = status_comes p b idle
