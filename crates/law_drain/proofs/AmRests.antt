-- An acknowledged sender too has at most the rest of one PDU of PDCP to send for the first time between two calls of
-- its bearer.
use Rattle.std.proofs.Common.{◌≡◌, ◌≤◌, ◌⊎◌, inl, inr, ℕ, Bool, true, false, not, ◌&&◌, nat_lt}
use Rattle.std.proofs.Common.{if◌then◌else◌, List, [], ◌∷◌, Option, Some, None, option_map, Result, Ok, Err}
use Rattle.std.proofs.Common.{refl, ap, sym, subst, ◌∙◌, arith}
use Rattle.std.proofs.lemmas.Bool.Decides.{nat_tests}
use Rattle.std.specs.List.{AllByRecursion}
use Rattle.l2_num.specs.Timers.{runs}
use Rattle.pdcp_tx.specs.State.{Offer, offers, taking as taking_next}
use Rattle.pdcp_tx.specs.declared.sender.Next.{Next}
use Rattle.rlc_pdu.specs.declared.fault.RlcRefusal.{RlcRefusal}
use Rattle.rlc_pdu.specs.Pdus.{AcknowledgedPdu, Payload, Status as Control}
use Rattle.rlc_pdu.specs.Reading.{am_at}
use Rattle.rlc_queue.specs.NewPdu.{rest, fits_more}
use Rattle.rlc_queue.specs.Waiting.{Waiting}
use Rattle.rlc_am_tx_window.specs.Window.{next, offset_of}
use Rattle.rlc_am_tx.specs.declared.turn.Turn.{Turn}
use Rattle.rlc_am_tx.specs.declared.turn.Turn.TheVariants as turns
use Rattle.rlc_am_tx.specs.Machine.{State as Sender, waits, is_empty, is_shut, is_held, again, resend_turn, turn}
use Rattle.rlc_am_tx.specs.Machine.{after_turn, sent_new, sent_whole, sent_segment, with_poll, is_wanted}
use Rattle.rlc_am_tx.specs.Machine.{after_status, after_expiry, is_ignored, applied, ended, limit_of, stops, read}
use Rattle.rlc_am_tx.specs.Machine.{expired, expiry_limit, recalled_place, with_recalled, with_owed, settles}
use Rattle.rlc_am_tx.specs.Machine.{settled_by}
use Rattle.rlc_am_tx.specs.Need.{hungry}
use Rattle.bearer_pdcp.specs.Taking.{taken as pdcp_taken}
use Rattle.bearer.specs.Acknowledged.State.{State, Work, work, has_more}
use Rattle.bearer.specs.Acknowledged.Taking.{given_to, fed, feeds, feeding, data_size, after_taking}
use Rattle.bearer.specs.Acknowledged.Taking.{status_told, has_prohibit}
use Rattle.bearer.specs.declared.flow.Flow.TheVariants.{Am}
use Rattle.law_rlc.specs.AmSender.Run.{Call as SenderCall, Offer as Offers, Take as Taking, Status, Tick as TickSender}
use Rattle.law_rlc.specs.AmSender.Run.{Expire as ExpireSender, Settle, Confirm as HandOver, after as sender_after}
use Rattle.law_bearer.specs.AnyBearer.Acknowledged.{IsOfSender, status_heard}
use Rattle.law_bearer.specs.AnyBearer.Calls.{Call, Submit, Take, Arrive, Expire, Tick, SetDiscard, after}
use Rattle.law_bearer.specs.AnyBearer.Sending.{sends_on}
use Rattle.law_bearer.proofs.AnyBearer.SenderCalls.{sender_goes_on}
use Rattle.law_drain.proofs.BearerDues.{octets_of}
use Rattle.law_drain.proofs.Rests.{IsRest, GivesShort, rest-rest, fits-rest, has-room, taken-short, still-short}
use Rattle.law_drain.proofs.Rests.{none-total}

-- ---- RLC takes what PDCP has

-- a new PDU of a size that is taken then leaves a rest
record Leaves (size : ℕ) (held : Option ℕ) (s : Sender) : Type 0 where
  alive : s.failed ≡ false
  idle : waits s ≡ false
  open' : is_shut s ≡ false
  free : is_held held (next s.window) ≡ false
  wide : nat_lt size 3 ≡ false
  left : IsRest (rest 2 size 0 0 s.queue.sdus)

record Hungry (a b c d e : Bool) : Type 0 where
  first : a ≡ false
  second : b ≡ false
  third : c ≡ false
  fourth : d ≡ false
  last : e ≡ true

all-five : (a b c d e : Bool) → (not a && not b && not c && not d && e) ≡ true → Hungry a b c d e
all-five true b c d e h = let no : false ≡ true = h in cc
all-five false true c d e h = let no : false ≡ true = h in cc
all-five false false true d e h = let no : false ≡ true = h in cc
all-five false false false true e h = let no : false ≡ true = h in cc
all-five false false false false e h = record { first = refl; second = refl; third = refl; fourth = refl; last = h }

given-leaves : (o : Option Next) (size : ℕ) (held : Option ℕ) (s : Sender) → hungry s size held ≡ true
    → octets_of o ≤ 8193
    → (given_to (option_map (λ (n : Next). n.octets) o) s ≡ s)
    ⊎ Leaves size held (given_to (option_map (λ (n : Next). n.octets) o) s)
unfolding hungry
given-leaves None size held s e short = inl refl
given-leaves (Some pdu) size held s e short =
    let parts = all-five s.failed (waits s) (is_shut s) (is_held held (next s.window))
    (fits_more 2 size 0 0 s.queue.sdus) e in
    inr (record {
      alive = parts.first;
      idle = parts.second;
      open' = parts.third;
      free = parts.fourth;
      wide = has-room 2 size s.queue.sdus parts.last;
      left = fits-rest 2 size 0 0 s.queue.sdus pdu.octets short parts.last;
    })

feeds-leave : (os : List Offer) (size : ℕ) (held : Option ℕ) (w : Work) → GivesShort w.pdcp.tx
    → ((feeds os size held w).tx ≡ w.tx) ⊎ Leaves size held (feeds os size held w).tx
unfolding pdcp_taken
feeds-leave [] size held w h = inl refl
feeds-leave (o ∷ os) size held w h =
    by (hungry w.tx size held) refl (feeds-leave os size held (fed w) (still-short w.pdcp h))
  where
    one : hungry w.tx size held ≡ true → ((fed w).tx ≡ w.tx) ⊎ Leaves size held (fed w).tx
    one e = given-leaves (taking_next w.pdcp.tx) size held w.tx e (taken-short w.pdcp.tx h)

    by : (b : Bool) → hungry w.tx size held ≡ b
        → ((feeds os size held (fed w)).tx ≡ (fed w).tx) ⊎ Leaves size held (feeds os size held (fed w)).tx
        → ((if b then feeds os size held (fed w) else w).tx ≡ w.tx)
        ⊎ Leaves size held (if b then feeds os size held (fed w) else w).tx
    by false e more = inl refl
    by true e (inr left') = inr left'
    by true e (inl same) = elim (one e) [
      | inl none ↦ inl (same ∙ none)
      | inr some ↦ inr (subst (Leaves size held) (sym same) some)
    ]

-- ---- and then a PDU

poll-queue : (b : Bool) (s : Sender) → (with_poll b s).queue ≡ s.queue
poll-queue true s = refl
poll-queue false s = refl

same-rest : (q p : Waiting) → p ≡ q → IsRest q.sdus → IsRest p.sdus
same-rest q p e h = subst (λ (x : Waiting). IsRest x.sdus) (sym e) h

turn-rest : (t : Turn) (s : Sender) (size : ℕ) (more : Bool) → IsRest s.queue.sdus
    → IsRest (rest 2 size 0 0 s.queue.sdus) → IsRest (after_turn t s size more).queue.sdus
unfolding after_turn
turn-rest turns.Whole s size more h l =
    same-rest s.queue _ (poll-queue (is_wanted (sent_whole s) more) (sent_whole s)) h
turn-rest turns.Part s size more h l =
    same-rest s.queue _ (poll-queue (is_wanted (sent_segment s size) more) (sent_segment s size)) h
turn-rest turns.New s size more h l =
    same-rest (sent_new s size).queue _ (poll-queue (is_wanted (sent_new s size) more) (sent_new s size)) l
turn-rest turns.Idle s size more h l = h
turn-rest turns.Stopped s size more h l = h
turn-rest turns.Small s size more h l = h
turn-rest turns.Shut s size more h l = h
turn-rest turns.Held s size more h l = h

new-rest : (s : Sender) (size : ℕ) (more : Bool) → IsRest (rest 2 size 0 0 s.queue.sdus)
    → IsRest (after_turn turns.New s size more).queue.sdus
unfolding after_turn
new-rest s size more l =
    same-rest (sent_new s size).queue _ (poll-queue (is_wanted (sent_new s size) more) (sent_new s size)) l

-- where something was offered, a new PDU is taken
picks : (w em more f sh he lt : Bool) (other : Turn) → w ≡ false → em ≡ false → f ≡ false → sh ≡ false → he ≡ false
    → lt ≡ false
    → (if not w && em && not more then turns.Idle else if f then turns.Stopped else if w then other
    else (if sh then turns.Shut else if he then turns.Held else if lt then turns.Small else if em then turns.Idle
    else turns.New)) ≡ turns.New
picks w em more f sh he lt other a b c d e g = rw (a, b, c, d, e, g) refl

leaves-rest : (s : Sender) (size : ℕ) (held : Option ℕ) (more : Bool) → Leaves size held s
    → IsRest (after_turn (turn s size held more) s size more).queue.sdus
unfolding turn
leaves-rest s size held more l = by (is_empty s) refl
  where
    by : (b : Bool) → is_empty s ≡ b → IsRest (after_turn (turn s size held more) s size more).queue.sdus
    by true e =
        turn-rest (turn s size held more) s size more (none-total s.queue.sdus (grind (arith, nat_tests, e))) l.left
    by false e =
        subst (λ (t : Turn). IsRest (after_turn t s size more).queue.sdus)
        (sym (picks (waits s) (is_empty s) more s.failed (is_shut s) (is_held held (next s.window)) (nat_lt size 3)
        (resend_turn (again s) size) l.idle e l.alive l.open' l.free l.wide)) (new-rest s size more l.left)

pub am-rest : (b : State) (share : ℕ) (held : Option ℕ) → GivesShort b.pdcp.tx → IsRest b.tx.queue.sdus
    → IsRest (after_taking b share held).tx.queue.sdus
unfolding after_taking
am-rest b share held h r =
    let w = feeding b share held in
    let size = data_size b share in
    let more = has_more w.pdcp in
    elim (feeds-leave (offers b.pdcp.tx) size held
    (work b.pdcp b.tx (status_told b.pdcp.lcid (has_prohibit b) b.rx share)) h) [
      | inl same ↦
          let here = same-rest b.tx.queue w.tx.queue (ap (λ (s : Sender). s.queue) same) r in
          turn-rest (turn w.tx size held more) w.tx size more here (rest-rest 2 size 0 0 w.tx.queue.sdus here)
      | inr left' ↦ leaves-rest w.tx size held more left'
    ]

-- ---- no other call touches what waits there

abbrev IsOther : SenderCall → Type 0
IsOther (Offers sdu) = ⊥
IsOther (Taking size held more) = ⊥
IsOther (Status status) = Unit {0}
IsOther TickSender = Unit {0}
IsOther (ExpireSender more) = Unit {0}
IsOther (Settle more) = Unit {0}
IsOther HandOver = Unit {0}

ended-queue : (l : Option ℕ) (b : Bool) (s : Sender) → (ended l b s).queue ≡ s.queue
ended-queue (Some sn) b s = refl
ended-queue None true s = refl
ended-queue None false s = refl

recalled-queue : (o : Option ℕ) (s : Sender) → (with_recalled o s).queue ≡ s.queue
recalled-queue None s = refl
recalled-queue (Some at) s = refl

settled-queue : (b : Bool) (s : Sender) → (settled_by b s).queue ≡ s.queue
settled-queue true s = refl
settled-queue false s = refl

call-queue : (s : Sender) (c : SenderCall) → IsOther c → (sender_after s c).queue ≡ s.queue
unfolding after_status after_expiry
call-queue s (Offers sdu) h = absurd h
call-queue s (Taking size held more) h = absurd h
call-queue s (Status status) h = by (is_ignored s status.ack)
  where
    by : (b : Bool)
        → (if b then s else applied s (offset_of s.window.base status.ack) status.nacks).queue ≡ s.queue
    by true = refl
    by false = ended-queue (limit_of s (offset_of s.window.base status.ack) status.nacks)
        (stops s (offset_of s.window.base status.ack) status.nacks)
        (read s (offset_of s.window.base status.ack) status.nacks)
call-queue s TickSender h = refl
call-queue s (ExpireSender more) h = by (runs s.polls.timer)
  where
    by : (b : Bool) → (if b then ended (expiry_limit s more) false (expired s more) else s).queue ≡ s.queue
    by true = ended-queue (expiry_limit s more) false (expired s more)
        ∙ recalled-queue (recalled_place s more) (with_owed s)
    by false = refl
call-queue s (Settle more) h = settled-queue (settles s more) s
call-queue s HandOver h = refl

calls-queue : (cs : List SenderCall) (s : Sender) → AllByRecursion IsOther cs → (sends_on cs s).queue ≡ s.queue
calls-queue [] s h = refl
calls-queue (c ∷ cs) s h = calls-queue cs (sender_after s c) h.1 ∙ call-queue s c h.0

own-others : (cs : List SenderCall) → AllByRecursion IsOfSender cs → AllByRecursion IsOther cs
own-others [] h = tt
own-others (Offers sdu ∷ cs) h = absurd h.0
own-others (Taking size held more ∷ cs) h = absurd h.0
own-others (Status status ∷ cs) h = absurd h.0
own-others (TickSender ∷ cs) h = (tt, own-others cs h.1)
own-others (ExpireSender more ∷ cs) h = (tt, own-others cs h.1)
own-others (Settle more ∷ cs) h = (tt, own-others cs h.1)
own-others (HandOver ∷ cs) h = (tt, own-others cs h.1)

heard-others : (r : Result AcknowledgedPdu RlcRefusal) → AllByRecursion IsOther (status_heard r)
heard-others (Ok (Control pdu)) = (tt, tt)
heard-others (Ok (Payload pdu)) = tt
heard-others (Err refused) = tt

by-others : (b d : State) (calls : List SenderCall) → AllByRecursion IsOther calls
    → (own : List SenderCall) → AllByRecursion IsOfSender own → d.tx ≡ sends_on own (sends_on calls b.tx)
    → IsRest b.tx.queue.sdus → IsRest d.tx.queue.sdus
by-others b d calls h own k e r =
    same-rest b.tx.queue d.tx.queue
    (ap (λ (s : Sender). s.queue) e ∙ calls-queue own (sends_on calls b.tx) (own-others own k)
    ∙ calls-queue calls b.tx h) r

-- of a call in which it doesn't take
pub other-rest : (b d : State) (c : Call) → ((share : ℕ) (held : Option ℕ) → c ≡ Take share held → ⊥)
    → after (Am b) c ≡ Am d → IsRest b.tx.queue.sdus → IsRest d.tx.queue.sdus
other-rest b d (Submit sdu) other e r =
    let x = sender_goes_on b d (Submit sdu) e in by-others b d [] tt x.own x.are_own x.left r
other-rest b d (Take share held) other e r = absurd (other share held refl)
other-rest b d (Arrive pdu) other e r =
    let x = sender_goes_on b d (Arrive pdu) e in
    by-others b d (status_heard (am_at pdu)) (heard-others (am_at pdu)) x.own x.are_own x.left r
other-rest b d (Expire clock) other e r =
    let x = sender_goes_on b d (Expire clock) e in by-others b d [] tt x.own x.are_own x.left r
other-rest b d Tick other e r =
    let x = sender_goes_on b d Tick e in by-others b d [] tt x.own x.are_own x.left r
other-rest b d (SetDiscard ttis) other e r =
    let x = sender_goes_on b d (SetDiscard ttis) e in by-others b d [] tt x.own x.are_own x.left r
