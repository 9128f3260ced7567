-- An SDU of RLC comes to PDCP.
use Rattle.std.proofs.Common.{◌≡◌, ℕ, ◌+◌, ◌^◌, Bool, true, false, ◌&&◌, ◌||◌, if◌then◌else◌, nat_le, List, [], ◌∷◌}
use Rattle.std.proofs.Common.{◌++◌, Option, Some, None, Result, Ok, Err, append-nil, subst, refl, ap, sym, ◌∙◌}
use Rattle.std.proofs.Common.{◌⊎◌, inl, inr}
use Rattle.bearer_types.specs.declared.Event.TheVariants as events
use Rattle.l2_types.specs.declared.Lost.TheVariants as lost
use Rattle.pdcp_pdu.specs.declared.PdcpKind.{PdcpKind}
use Rattle.pdcp_pdu.specs.declared.PdcpKind.TheVariants.{Srb as SrbKind}
use Rattle.pdcp_pdu.specs.declared.PdcpRefusal.{PdcpRefusal}
use Rattle.pdcp_pdu.specs.Kinds.{is_am}
use Rattle.pdcp_pdu.specs.Pdus.{SrbPdu}
use Rattle.pdcp_pdu.specs.Reading.{srb_at}
use Rattle.pdcp_rx.specs.declared.got.Cause.{Cause}
use Rattle.pdcp_rx.specs.declared.got.Cause.TheVariants.{Arrived, Reestablished}
use Rattle.pdcp_rx.specs.declared.got.Got.{Got}
use Rattle.pdcp_rx.specs.declared.got.Got.TheVariants as answers
use Rattle.pdcp_rx.specs.declared.security.Opened.{Opened}
use Rattle.pdcp_rx.specs.declared.security.Opened.TheVariants.{Sdu, Differs}
use Rattle.pdcp_rx.specs.Heard.{Heard, Bad, Told, Data, heard, heard_srb}
use Rattle.pdcp_rx.specs.Held.{stored}
use Rattle.pdcp_rx.specs.State.{State as Receiving, got, arrived, above, passed_over, opened_at, waits, raised}
use Rattle.pdcp_rx.specs.State.{got_heard, got_data, got_opened, left_heard, left_data, left_opened, width}
use Rattle.pdcp_rx.specs.Held.{is_held}
use Rattle.pdcp_tx.specs.State.{State as Sending, reported}
use Rattle.bearer_pdcp.specs.Ends.{Ends}
use Rattle.bearer_pdcp.specs.Hearing.{is_applied, got_told, got_left, heard_told, after_hearing}
use Rattle.law_bearer.specs.AmBearer.Deeds.{after_heard, all_raised, hears_one}
use Rattle.law_bearer.specs.AmBearer.Calls.{ups_among}
use Rattle.law_bearer.proofs.AmBearer.Ups.{ups_are}

-- ---- nothing is ready

pub none_ready : (r : Receiving) → r.ready ≡ [] → all_raised r ≡ r
none_ready r q = subst (λ l. record r { ready = l } ≡ r) q refl

-- a report is for the sender in a life
abbrev told_at : Cause → Heard → Sending → Sending
told_at Arrived h s = after_heard h s
told_at Reestablished h s = s

abbrev takes_as : Cause → Heard → Ends → Ends
takes_as cause h e = record e { tx = told_at cause h e.tx; rx = all_raised (left_heard e.rx cause h) }

same_raised : (cause : Cause) (e : Ends) (s : Sending) → e.rx.ready ≡ [] → s ≡ e.tx
    → record e { tx = s; rx = all_raised e.rx } ≡ e
same_raised cause e s q p = ap (λ (r : Receiving). record e { tx = s; rx = r }) (none_ready e.rx q)
    ∙ ap (λ (t : Sending). record e { tx = t }) p

-- ---- what comes of it

-- what is read as anything but a report is nothing to the sender
abbrev IsNoReport : Heard → Type 0
IsNoReport (Bad refusal) = Unit {0}
IsNoReport (Told fms bitmap) = ⊥
IsNoReport (Data sn body) = Unit {0}

untold : (cause : Cause) (h : Heard) (s : Sending) → IsNoReport h → told_at cause h s ≡ s
untold Arrived (Bad refusal) s n = refl
untold Arrived (Told fms bitmap) s n = absurd n
untold Arrived (Data sn body) s n = refl
untold Reestablished h s n = refl

-- an answer, with the receiver that it leaves
record Comes (cause : Cause) (h : Heard) (g : Got) (r : Receiving) (e : Ends) : Type 0 where
  left : got_left g cause (record e { rx = r }) ≡ record e { tx = told_at cause h e.tx; rx = all_raised r }
  ups : ups_among (got_told g cause (record e { rx = r })) ≡ r.ready

abbrev IsDrop : Got → Type 0
IsDrop answers.Up = ⊥
IsDrop answers.Stored = ⊥
IsDrop answers.Old = Unit {0}
IsDrop answers.OutOfRange = Unit {0}
IsDrop (answers.Integrity found wanted) = Unit {0}
IsDrop (answers.Report fms bitmap) = ⊥
IsDrop (answers.Unreadable fault) = Unit {0}

dropped : (cause : Cause) (h : Heard) (g : Got) (e : Ends) → IsDrop g → IsNoReport h → e.rx.ready ≡ []
    → Comes cause h g e.rx e
dropped cause h answers.Up e d n q = absurd d
dropped cause h answers.Stored e d n q = absurd d
dropped cause h answers.Old e d n q =
    record { left = sym (same_raised cause e (told_at cause h e.tx) q (untold cause h e.tx n)); ups = sym q }
dropped cause h answers.OutOfRange e d n q =
    record { left = sym (same_raised cause e (told_at cause h e.tx) q (untold cause h e.tx n)); ups = sym q }
dropped cause h (answers.Integrity found wanted) e d n q =
    record { left = sym (same_raised cause e (told_at cause h e.tx) q (untold cause h e.tx n)); ups = sym q }
dropped cause h (answers.Report fms bitmap) e d n q = absurd d
dropped cause h (answers.Unreadable fault) e d n q =
    record { left = sym (same_raised cause e (told_at cause h e.tx) q (untold cause h e.tx n)); ups = sym q }

upward : (cause : Cause) (h : Heard) (b : Bool) (r : Receiving) (e : Ends) → IsNoReport h
    → Comes cause h (if b then answers.Stored else answers.Up) r e
upward cause h true r e n =
    record {
      left = ap (λ (t : Sending). record e { tx = t; rx = all_raised r }) (sym (untold cause h e.tx n));
      ups = ups_are e.lcid r.ready;
    }
upward cause h false r e n =
    record {
      left = ap (λ (t : Sending). record e { tx = t; rx = all_raised r }) (sym (untold cause h e.tx n));
      ups = ups_are e.lcid r.ready;
    }

opened_comes : (cause : Cause) (h : Heard) (at : ℕ) (o : Opened) (e : Ends) → IsNoReport h → e.rx.ready ≡ []
    → Comes cause h (got_opened e.rx cause at o) (left_opened e.rx cause at o) e
opened_comes cause h at (Sdu sdu) e n q =
    upward cause h (waits e.rx.kind cause at) (left_opened e.rx cause at (Sdu sdu)) e n
opened_comes cause h at (Differs found wanted) e n q = dropped cause h (answers.Integrity found wanted) e tt n q

-- it is passed over for one of two reasons
data_comes : (cause : Cause) (h : Heard) (at : ℕ) (o : Opened) (old beyond : Bool) (e : Ends) → IsNoReport h
    → e.rx.ready ≡ []
    → Comes cause h (got_data (if old then Some answers.Old else (if beyond then Some answers.OutOfRange else None))
    e.rx cause at o) (left_data (if old then Some answers.Old else (if beyond then Some answers.OutOfRange else None))
    e.rx cause at o) e
data_comes cause h at o true beyond e n q = dropped cause h answers.Old e tt n q
data_comes cause h at o false true e n q = dropped cause h answers.OutOfRange e tt n q
data_comes cause h at o false false e n q = opened_comes cause h at o e n q

report_told : (b : Bool) (lcid : ℕ) → ups_among (if b then [] else events.Drop lcid lost.Report ∷ []) ≡ []
report_told true lcid = refl
report_told false lcid = refl

told_comes : (cause : Cause) (fms : ℕ) (bitmap : List ℕ) (e : Ends) → is_am e.kind ≡ true → e.rx.ready ≡ []
    → Comes cause (Told fms bitmap) (answers.Report fms bitmap) e.rx e
told_comes Arrived fms bitmap e am q = record {
  left =
      ap (λ (b : Bool). if b && true then record e { tx = reported e.tx fms bitmap } else e) am
      ∙ ap (λ (r : Receiving). record e { tx = reported e.tx fms bitmap; rx = r }) (sym (none_ready e.rx q));
  ups = report_told (is_applied e Arrived fms) e.lcid ∙ sym q;
}
told_comes Reestablished fms bitmap e am q = record {
  left =
      ap (λ (b : Bool). if b && false then record e { tx = reported e.tx fms bitmap } else e) am
      ∙ ap (λ (r : Receiving). record e { rx = r }) (sym (none_ready e.rx q));
  ups = report_told (is_applied e Reestablished fms) e.lcid ∙ sym q;
}

-- a report is for a bearer of acknowledged data
abbrev IsForOne : Heard → Ends → Type 0
IsForOne (Bad refusal) e = Unit {0}
IsForOne (Told fms bitmap) e = is_am e.kind ≡ true
IsForOne (Data sn body) e = Unit {0}

heard_comes : (cause : Cause) (h : Heard) (e : Ends) → IsForOne h e → e.rx.ready ≡ []
    → Comes cause h (got_heard e.rx cause h) (left_heard e.rx cause h) e
heard_comes cause (Bad refusal) e am q = dropped cause (Bad refusal) (answers.Unreadable refusal) e tt tt q
heard_comes cause (Told fms bitmap) e am q = told_comes cause fms bitmap e am q
heard_comes cause (Data sn body) e am q =
    let at = above e.rx sn in
    data_comes cause (Data sn body) at (opened_at e.rx at body) (nat_le (width e.rx.kind) at || is_held e.rx.held at)
    (nat_le (2 ^ 32) (e.rx.next + at)) e tt q

-- ---- an SDU comes in a life, and at its end

-- to a bearer of acknowledged data, or of signalling, where none is read as a report
abbrev pub IsHearing : Ends → Type 0
IsHearing e = (is_am e.kind ≡ true) ⊎ (e.rx.kind ≡ SrbKind)

for_data : (h : Heard) (e : Ends) → is_am e.kind ≡ true → IsForOne h e
for_data (Bad refusal) e am = tt
for_data (Told fms bitmap) e am = am
for_data (Data sn body) e am = tt

for_signalling : (pdu : List ℕ) (r : Result SrbPdu PdcpRefusal) (e : Ends) → IsForOne (heard_srb pdu r) e
for_signalling pdu (Ok srb) e = tt
for_signalling pdu (Err refusal) e = tt

for_one : (sdu : List ℕ) (e : Ends) → IsHearing e → IsForOne (heard e.rx.kind sdu) e
unfolding heard
for_one sdu e (inl am) = for_data (heard e.rx.kind sdu) e am
for_one sdu e (inr srb) =
    subst (λ (kind : PdcpKind). IsForOne (heard kind sdu) e) (sym srb) (for_signalling sdu (srb_at sdu) e)

pub hears_one_as : (sdu : List ℕ) (e : Ends) → IsHearing e → e.rx.ready ≡ []
    → after_hearing sdu Arrived e ≡ hears_one sdu e
unfolding after_hearing got arrived
hears_one_as sdu e k q = (heard_comes Arrived (heard e.rx.kind sdu) e (for_one sdu e k) q).left

pub hearing_ups : (sdu : List ℕ) (cause : Cause) (e : Ends) → IsHearing e → e.rx.ready ≡ []
    → ups_among (heard_told sdu cause e) ≡ (arrived e.rx sdu cause).ready
unfolding heard_told got arrived
hearing_ups sdu cause e k q = (heard_comes cause (heard e.rx.kind sdu) e (for_one sdu e k) q).ups

pub closes_one : (sdu : List ℕ) (e : Ends) → is_am e.kind ≡ true → e.rx.ready ≡ []
    → after_hearing sdu Reestablished e ≡ record e { rx = all_raised (arrived e.rx sdu Reestablished) }
unfolding after_hearing got arrived
closes_one sdu e am q = (heard_comes Reestablished (heard e.rx.kind sdu) e (for_one sdu e (inl am)) q).left

-- ---- what was ready before stays ready, and nothing else depends on it

abbrev behind : List (List ℕ) → Receiving → Receiving
behind before r = record r { ready = before ++ r.ready }

nothing_behind : (r : Receiving) → r ≡ behind r.ready (all_raised r)
nothing_behind r = ap (λ l. record r { ready = l }) (sym (append-nil r.ready))

placed_apart : (r : Receiving) (b : Bool) (at : ℕ) (sdu : List ℕ)
    → (if b then record r { held = stored r.held at sdu } else raised r (stored r.held at sdu) (at + 1))
    ≡ behind r.ready (if b then record (all_raised r) { held = stored r.held at sdu }
    else raised (all_raised r) (stored r.held at sdu) (at + 1))
placed_apart r true at sdu = ap (λ l. record r { held = stored r.held at sdu; ready = l }) (sym (append-nil r.ready))
placed_apart r false at sdu = refl

opened_apart : (r : Receiving) (cause : Cause) (at : ℕ) (o : Opened)
    → left_opened r cause at o ≡ behind r.ready (left_opened (all_raised r) cause at o)
opened_apart r cause at (Sdu sdu) = placed_apart r (waits r.kind cause at) at sdu
opened_apart r cause at (Differs found wanted) = nothing_behind r

data_apart : (why : Option Got) (r : Receiving) (cause : Cause) (at : ℕ) (o : Opened)
    → left_data why r cause at o ≡ behind r.ready (left_data why (all_raised r) cause at o)
data_apart (Some why) r cause at o = nothing_behind r
data_apart None r cause at o = opened_apart r cause at o

heard_apart : (h : Heard) (r : Receiving) (cause : Cause)
    → left_heard r cause h ≡ behind r.ready (left_heard (all_raised r) cause h)
heard_apart (Bad refusal) r cause = nothing_behind r
heard_apart (Told fms bitmap) r cause = nothing_behind r
heard_apart (Data sn body) r cause =
    data_apart (passed_over r (above r sn)) r cause (above r sn) (opened_at r (above r sn) body)

pub arrived_apart : (r : Receiving) (sdu : List ℕ) (cause : Cause)
    → arrived r sdu cause ≡ record (arrived (all_raised r) sdu cause) {
      ready =
          r.ready ++ (arrived (all_raised r) sdu cause).ready;
    }
unfolding arrived
arrived_apart r sdu cause = heard_apart (heard r.kind sdu) r cause
