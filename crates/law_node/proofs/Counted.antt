-- The COUNTs that a bearer tells of as taken are those that it takes.
use Rattle.std.proofs.Common.{◌≡◌, ℕ, zero, suc, ◌≤◌, ◌-◌, ◌%◌, ◌==◌, Bool, true, false, if◌then◌else◌, Option, Some}
use Rattle.std.proofs.Common.{None, Result, Ok, Err, List, [], ◌∷◌, ◌++◌, take, drop, length, append-nil, append_assoc}
use Rattle.std.proofs.Common.{refl, ap, sym, ◌∙◌, arith}
use Rattle.std.specs.List.{filter}
use Rattle.bearer.specs.declared.flow.Flow.{Flow}
use Rattle.bearer.specs.declared.flow.Flow.TheVariants.{Tm, Um, Am}
use Rattle.bearer.specs.Taking.{told, after as flow_after}
use Rattle.bearer.specs.Transparent.{data_told as tm_data_told}
use Rattle.bearer.specs.Acknowledged.State.{State as AmBearer, Work, work}
use Rattle.bearer.specs.Acknowledged.Taking.{writes_status, status_told, prohibit_told, has_prohibit, fed as am_fed}
use Rattle.bearer.specs.Acknowledged.Taking.{feeds as am_feeds, data_told as am_data_told, data_size}
use Rattle.bearer.specs.Acknowledged.Taking.{feeding as am_feeding, answer_of, taking as am_taking}
use Rattle.bearer.specs.Acknowledged.Taking.{after_taking as am_after}
use Rattle.law_bearer.proofs.AnyBearer.Flows.{none_after, taken_off}
use Rattle.law_bearer.proofs.AnyBearer.Acknowledged as am
use Rattle.law_bearer.proofs.AnyBearer.Parts.{pdcp_took}
use Rattle.law_bearer.proofs.AnyBearer.Sender.{left_of}
use Rattle.law_bearer.proofs.AnyBearer.Unacknowledged as um
use Rattle.law_bearer.specs.AnyBearer.Calls.{Take as Taking}
use Rattle.law_bearer.specs.AnyBearer.Stream.{takes, counts}
use Rattle.bearer_pdcp.specs.Ends.{Ends}
use Rattle.bearer_pdcp.specs.Taking.{report_told, own_report_told, next_told, taking_told, after_taking as after_pdcp}
use Rattle.bearer_types.specs.declared.event.Event.{Event}
use Rattle.bearer_types.specs.declared.event.Event.TheVariants as events
use Rattle.bearer.specs.Unacknowledged.State.{State as UmBearer}
use Rattle.bearer.specs.Unacknowledged.Taking.{Feeding, fed as um_fed, feeds as um_feeds, why_idle}
use Rattle.bearer.specs.Unacknowledged.Taking.{data_told as um_data_told, size_in, feeding as um_feeding}
use Rattle.bearer.specs.Unacknowledged.Taking.{has_more as um_has_more, taking as um_taking, after_taking as um_after}
use Rattle.l2_types.specs.declared.event.Clock.TheVariants.{Poll, Prohibit}
use Rattle.l2_types.specs.declared.event.How.TheVariants as how
use Rattle.l2_types.specs.declared.event.Waits.{Waits}
use Rattle.pdcp_pdu.specs.declared.PdcpKind.{PdcpKind}
use Rattle.pdcp_pdu.specs.declared.PdcpKind.TheVariants as pdcp
use Rattle.pdcp_pdu.specs.declared.PdcpRefusal.{PdcpRefusal}
use Rattle.pdcp_pdu.specs.Pdus.{UserPdu, Sdu, Report}
use Rattle.pdcp_pdu.specs.Reading.{user_at}
use Rattle.pdcp_sec.specs.Protection.{Protection}
use Rattle.pdcp_tx.specs.Runs.{counts_in}
use Rattle.pdcp_tx.specs.State.{Offer, offers, written, taking}
use Rattle.rlc_am_rx.specs.State.{State as Receiver}
use Rattle.rlc_am_rx.specs.Status.{ack}
use Rattle.rlc_am_tx.specs.Need.{hungry}
use Rattle.rlc_pdu.specs.declared.outcome.Taken.{Taken}
use Rattle.rlc_pdu.specs.declared.outcome.Taken.TheVariants.{Piece, Idle, Small, Shut, Held, Stopped}
use Rattle.rlc_um.specs.Sender.{is_hungry, taken as um_taken}
use Rattle.rlc_um.specs.Transparent.{taken as tm_taken}
use Rattle.promises.specs.Counts.{count_on, counts_on}
use Rattle.law_node.specs.Writing.{TellNone}
use Rattle.promises.specs.Events.{is_of_writing}
use Rattle.law_node.proofs.Owning.{own}

-- ---- lists of events

pub counts_then : (l : ℕ) (xs ys : List Event) → counts_on l (xs ++ ys) ≡ counts_on l xs ++ counts_on l ys
counts_then l [] ys = refl
counts_then l (x ∷ xs) ys = ap (λ (ns : List ℕ). count_on l x ++ ns) (counts_then l xs ys)
    ∙ sym (append_assoc (count_on l x) (counts_on l xs) (counts_on l ys))

-- of an event that isn't of writing no COUNT is told
count_none : (l : ℕ) (x : Event) → is_of_writing x ≡ false → count_on l x ≡ []
count_none l (events.Take lcid count len) e = absurd cc
count_none l (events.Report lcid fms bitmap) e = refl
count_none l (events.Send lcid way sn) e = refl
count_none l (events.Wait lcid why) e = refl
count_none l (events.Start lcid clock) e = refl
count_none l (events.Stop lcid clock) e = refl
count_none l (events.Expired lcid clock) e = refl
count_none l (events.Up lcid octets) e = refl
count_none l (events.Fail lcid sn) e = refl
count_none l (events.Drop lcid why) e = refl
count_none l (events.Integrity lcid found wanted) e = refl
count_none l (events.BadMac fault) e = refl
count_none l (events.BadRlc lcid fault) e = refl
count_none l (events.BadPdcp lcid fault) e = refl
count_none l (events.Discard lcid len) e = refl

none_by : (l : ℕ) (x : Event) (xs : List Event) (t : Bool) → is_of_writing x ≡ t
    → (if t then x ∷ filter is_of_writing xs else filter is_of_writing xs) ≡ [] → (TellNone xs → counts_on l xs ≡ [])
    → counts_on l (x ∷ xs) ≡ []
none_by l x xs true e p ih = absurd cc
none_by l x xs false e p ih = ap (λ (ns : List ℕ). ns ++ counts_on l xs) (count_none l x e) ∙ ih p

pub none_counts : (l : ℕ) (xs : List Event) → TellNone xs → counts_on l xs ≡ []
none_counts l [] p = refl
none_counts l (x ∷ xs) p = none_by l x xs (is_of_writing x) refl p (none_counts l xs)

-- ---- the COUNTs of one channel

-- those of a bearer, where it has that channel
abbrev pub only : Bool → List ℕ → List ℕ
only b ns = if b then ns else []

only_none : (b : Bool) → only b [] ≡ []
only_none true = refl
only_none false = refl

only_then : (b : Bool) (ns ms : List ℕ) → only b (ns ++ ms) ≡ only b ns ++ only b ms
only_then true ns ms = refl
only_then false ns ms = refl

none_if : (l : ℕ) (t : Bool) (e : Event) → count_on l e ≡ [] → counts_on l (if t then e ∷ [] else []) ≡ []
none_if l true e p = ap (λ (ns : List ℕ). ns ++ []) p
none_if l false e p = refl

-- ---- PDCP hands over the first of what it may

report_none : (l lcid : ℕ) (r : Result UserPdu PdcpRefusal) → counts_on l (report_told lcid r) ≡ []
report_none l lcid (Err refusal) = refl
report_none l lcid (Ok (Sdu sn octets)) = refl
report_none l lcid (Ok (Report fms bitmap)) = refl

own_report_none : (l lcid : ℕ) (kind : PdcpKind) (pdu : List ℕ) → counts_on l (own_report_told lcid kind pdu) ≡ []
own_report_none l lcid pdcp.Srb pdu = refl
own_report_none l lcid (pdcp.Um bits) pdu = report_none l lcid (user_at bits pdu)
own_report_none l lcid (pdcp.Am bits) pdu = report_none l lcid (user_at bits pdu)

one_told : (l lcid : ℕ) (kind : PdcpKind) (p : Protection) (k : PdcpKind) (count : Option ℕ) (text : List ℕ)
    → counts_on l (next_told lcid kind (Some (written k p count text))) ≡ only (lcid == l) (counts_in count)
one_told l lcid kind p k None text = own_report_none l lcid kind text ∙ sym (only_none (lcid == l))
one_told l lcid kind p k (Some count) text = append-nil (only (lcid == l) (count ∷ []))

first_told : (l : ℕ) (e : Ends) (o : Offer) (os : List Offer) → offers e.tx ≡ o ∷ os
    → counts_on l (taking_told e) ≡ only (e.lcid == l) (counts_in o.count)
unfolding taking_told taking
first_told l e o os q = rw q (one_told l e.lcid e.kind e.tx.protection e.tx.kind o.count o.text)

-- ---- RLC takes PDUs, and so many are told

record Tells (os : List Offer) (d e : Ends) (before after : List Event) : Type 0 where
  n : ℕ
  few : n ≤ length os
  left : offers e.tx ≡ drop n os
  told_is : (l : ℕ) → counts_on l after ≡ counts_on l before ++ only (d.lcid == l) (counts (take n os))

no_more : (os : List Offer) (d : Ends) (before : List Event) → offers d.tx ≡ os → Tells os d d before before
no_more os d before q = record {
  n = zero;
  few = omega arith;
  left = q;
  told_is =
      λ l. sym (ap (λ (ns : List ℕ). counts_on l before ++ ns) (only_none (d.lcid == l))
      ∙ append-nil (counts_on l before));
}

one_more : (o : Offer) (os : List Offer) (d e : Ends) (before after : List Event) → offers d.tx ≡ o ∷ os
    → Tells os (after_pdcp d) e (before ++ taking_told d) after → Tells (o ∷ os) d e before after
unfolding after_pdcp
one_more o os d e before after q t = record {
  n = suc t.n;
  few = omega (arith, t.few);
  left = t.left;
  told_is = λ l.
      let b = d.lcid == l in
      t.told_is l
      ∙ ap (λ (ns : List ℕ). ns ++ only b (counts (take t.n os)))
      (counts_then l before (taking_told d) ∙ ap (λ (ns : List ℕ). counts_on l before ++ ns) (first_told l d o os q))
      ∙ append_assoc (counts_on l before) (only b (counts_in o.count)) (only b (counts (take t.n os)))
      ∙ ap (λ (ns : List ℕ). counts_on l before ++ ns) (sym (only_then b (counts_in o.count) (counts (take t.n os))));
}

-- behind a take
offers_behind : (d : Ends) (o : Offer) (os : List Offer) → offers d.tx ≡ o ∷ os → offers (after_pdcp d).tx ≡ os
offers_behind d o os q = ap offers (pdcp_took d) ∙ left_of 1 d.tx ∙ ap (drop 1) q

um_by : (t : Bool) (o : Offer) (os : List Offer) (f g : Feeding) → offers f.pdcp.tx ≡ o ∷ os
    → Tells os (um_fed f).pdcp g.pdcp (um_fed f).events g.events
    → Tells (o ∷ os) f.pdcp (if t then g else f).pdcp f.events (if t then g else f).events
um_by true o os f g q t = one_more o os f.pdcp g.pdcp f.events g.events q t
um_by false o os f g q t = no_more (o ∷ os) f.pdcp f.events q

um_tells : (os : List Offer) (size : ℕ) (held : Option ℕ) (f : Feeding) → offers f.pdcp.tx ≡ os
    → Tells os f.pdcp (um_feeds os size held f).pdcp f.events (um_feeds os size held f).events
um_tells [] size held f q = no_more [] f.pdcp f.events q
um_tells (o ∷ os) size held f q =
    um_by (is_hungry f.tx size held) o os f (um_feeds os size held (um_fed f)) q
    (um_tells os size held (um_fed f) (offers_behind f.pdcp o os q))

am_by : (t : Bool) (o : Offer) (os : List Offer) (f g : Work) → offers f.pdcp.tx ≡ o ∷ os
    → Tells os (am_fed f).pdcp g.pdcp (am_fed f).events g.events
    → Tells (o ∷ os) f.pdcp (if t then g else f).pdcp f.events (if t then g else f).events
am_by true o os f g q t = one_more o os f.pdcp g.pdcp f.events g.events q t
am_by false o os f g q t = no_more (o ∷ os) f.pdcp f.events q

am_tells : (os : List Offer) (size : ℕ) (held : Option ℕ) (f : Work) → offers f.pdcp.tx ≡ os
    → Tells os f.pdcp (am_feeds os size held f).pdcp f.events (am_feeds os size held f).events
am_tells [] size held f q = no_more [] f.pdcp f.events q
am_tells (o ∷ os) size held f q =
    am_by (hungry f.tx size held) o os f (am_feeds os size held (am_fed f)) q
    (am_tells os size held (am_fed f) (offers_behind f.pdcp o os q))

-- ---- a bearer of any kind

um_data_none : (l lcid bits : ℕ) (more : Bool) (why : Waits) (t : Taken)
    → counts_on l (um_data_told lcid bits more why t) ≡ []
um_data_none l lcid bits more why (Piece number first polled octets) = refl
um_data_none l lcid bits more why Idle = none_if l more (events.Wait lcid why) refl
um_data_none l lcid bits more why Small = refl
um_data_none l lcid bits more why Shut = refl
um_data_none l lcid bits more why Held = refl
um_data_none l lcid bits more why Stopped = refl

um_counts : (l : ℕ) (b : UmBearer) (share : ℕ) (held : Option ℕ)
    → counts_on l (um_taking b share held) ≡ only (b.pdcp.lcid == l) (counts (takes (Um b) (Taking share held)))
unfolding um_taking flow_after
um_counts l b share held =
    let os = offers b.pdcp.tx in
    let f = um_feeding b share held in
    let t = um_tells os (size_in share) held (record { pdcp = b.pdcp; tx = b.tx; events = [] }) refl in
    let off = taken_off t.n os (offers (um_after b share held).pdcp.tx) t.few
    (ap (λ (e : Ends). offers e.tx) (um.take_left b share held) ∙ t.left) in
    let more = um_data_told f.pdcp.lcid b.bits (um_has_more f.pdcp) (why_idle f.tx held)
    (um_taken f.tx (size_in share) held) in
    counts_then l f.events more
    ∙ ap (λ (ns : List ℕ). counts_on l f.events ++ ns)
    (um_data_none l f.pdcp.lcid b.bits (um_has_more f.pdcp) (why_idle f.tx held) (um_taken f.tx (size_in share) held))
    ∙ append-nil (counts_on l f.events)
    ∙ t.told_is l
    ∙ ap (λ (xs : List Offer). only (b.pdcp.lcid == l) (counts xs)) (sym off)

am_data_none : (l lcid : ℕ) (t : Taken) → counts_on l (am_data_told lcid t) ≡ []
am_data_none l lcid (Piece number first polled octets) = none_if l polled (events.Start lcid Poll) refl
am_data_none l lcid Idle = refl
am_data_none l lcid Small = refl
am_data_none l lcid Shut = refl
am_data_none l lcid Held = refl
am_data_none l lcid Stopped = refl

status_if : (l : ℕ) (t : Bool) (xs : List Event) → counts_on l xs ≡ [] → counts_on l (if t then xs else []) ≡ []
status_if l true xs p = p
status_if l false xs p = refl

status_none : (l lcid : ℕ) (has : Bool) (r : Receiver) (share : ℕ) → counts_on l (status_told lcid has r share) ≡ []
status_none l lcid has r share =
    status_if l (writes_status r share) (events.Send lcid how.Status (ack r (share - 3) % 1024)
    ∷ prohibit_told lcid has) (none_if l has (events.Start lcid Prohibit) refl)

am_counts : (l : ℕ) (b : AmBearer) (share : ℕ) (held : Option ℕ)
    → counts_on l (am_taking b share held) ≡ only (b.pdcp.lcid == l) (counts (takes (Am b) (Taking share held)))
unfolding am_taking flow_after
am_counts l b share held =
    let os = offers b.pdcp.tx in
    let status = status_told b.pdcp.lcid (has_prohibit b) b.rx share in
    let room = data_size b share in
    let f = am_feeding b share held in
    let t = am_tells os room held (work b.pdcp b.tx status) refl in
    let off = taken_off t.n os (offers (am_after b share held).pdcp.tx) t.few
    (ap (λ (e : Ends). offers e.tx) (am.take_left b share held) ∙ t.left) in
    let more = am_data_told f.pdcp.lcid (answer_of f room held) in
    counts_then l f.events more
    ∙ ap (λ (ns : List ℕ). counts_on l f.events ++ ns) (am_data_none l f.pdcp.lcid (answer_of f room held))
    ∙ append-nil (counts_on l f.events)
    ∙ t.told_is l
    ∙ ap (λ (ns : List ℕ). ns ++ only (b.pdcp.lcid == l) (counts (take t.n os)))
    (status_none l b.pdcp.lcid (has_prohibit b) b.rx share)
    ∙ ap (λ (xs : List Offer). only (b.pdcp.lcid == l) (counts xs)) (sym off)

tm_counts : (l lcid : ℕ) (t : Taken) → counts_on l (tm_data_told lcid t) ≡ []
tm_counts l lcid (Piece number first polled octets) = refl
tm_counts l lcid Idle = refl
tm_counts l lcid Small = refl
tm_counts l lcid Shut = refl
tm_counts l lcid Held = refl
tm_counts l lcid Stopped = refl

-- what a bearer tells of any channel as taken: on its own, what it takes
pub told_counts : (l lcid : ℕ) (f : Flow) (share : ℕ) (held : Option ℕ)
    → counts_on l (told lcid f share held) ≡ only (own lcid f == l) (counts (takes f (Taking share held)))
unfolding told
told_counts l lcid (Tm b) share held =
    tm_counts l lcid (tm_taken b (share - 3))
    ∙ sym (ap (λ (xs : List Offer). only (lcid == l) (counts xs)) (none_after (Tm b) (Taking share held) refl).1
    ∙ only_none (lcid == l))
told_counts l lcid (Um b) share held = um_counts l b share held
told_counts l lcid (Am b) share held = am_counts l b share held
