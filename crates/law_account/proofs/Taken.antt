-- A call of `take`, turn by turn.
use Rattle.std.proofs.Common.{◌≡◌, ◌<◌, ◌≤◌, ℕ, Bool, true, length, Option, Some, None, is_some, refl}
use Rattle.std.proofs.Common.{sym, subst, arith}
use Rattle.std.specs.Prelude.{IfSome}
use Rattle.std.proofs.lemmas.Bool.{ltb-true}
use Rattle.std.proofs.lemmas.Bool.Decides.{nat_tests}
use Rattle.std.proofs.lemmas.Grind.{common_steps}
use Rattle.rlc_pdu.specs.declared.pdu.Part.{Part}
use Rattle.rlc_queue.specs.NewPdu.{elements}
use Rattle.rlc_queue.proofs.Lens.{whole as whole_field}
use Rattle.rlc_am_tx_window.specs.Sent.{Sent, Lies, first_waiting, is_waiting, next_stretch}
use Rattle.rlc_am_tx_window.specs.Window.{TxWindow}
use Rattle.rlc_am_tx_window.proofs.SlotSteps.{gap-lies}
use Rattle.rlc_am_tx.proofs.SendSteps.{first-waits}
use Rattle.rlc_am_tx.specs.declared.turn.Turn.{Turn}
use Rattle.rlc_am_tx.specs.declared.turn.Turn.TheVariants as turns
use Rattle.rlc_am_tx.specs.Machine.{State, turn, waits, again, first_place, number_again, new_slot, after_turn}
use Rattle.rlc_am_tx.specs.Machine.{is_wanted, sent_whole, sent_segment, sent_new}
use Rattle.journal_account.specs.FlowSending.{FlowSending}
use Rattle.law_rlc.proofs.AmSender.Least.{polled-window}
use Rattle.law_rlc.proofs.AmSender.Marked.{stretch-some, is-part}
use Rattle.law_rlc.proofs.AmSender.Limits.{turn-failed}
use Rattle.law_account.specs.Accounted.{AreAccounted}
use Rattle.law_account.specs.Limit.{IsLimited}
use Rattle.law_account.specs.Taken.{taken_in, TakesAreAccounted, TakesAreLimited}
use Rattle.law_account.proofs.Sending.{writes_accounted, resends_accounted, segments_accounted}
use Rattle.law_account.proofs.Limit.{sending_limited}

pub is_whole : (s : State) (size : ℕ) (held : Option ℕ) (more : Bool) → turn s size held more ≡ turns.Whole
    → waits s ≡ true
unfolding turn
is_whole s size held more e = grind (arith, common_steps, nat_tests)

-- it has an octet that waits
pub has_octet : (h : Sent) → is_waiting h ≡ true → 0 < length h.field
has_octet h w = by (first_waiting h) (gap-lies h.resting 0 (length h.field)) w
  where
    by : (o : Option Part) → IfSome o (Lies 0 (length h.field)) → is_some o ≡ true → 0 < length h.field
    by None l w = absurd cc
    by (Some p) l w = omega (arith, l.below)

pub turn_accounted : (t : Turn) (s : State) (f : FlowSending) (size : ℕ) (more : Bool)
    → (t ≡ turns.Whole → waits s ≡ true) → (t ≡ turns.Part → (waits s ≡ true) × (5 ≤ size))
    → AreAccounted s.config.max_retx s.window f
    → AreAccounted s.config.max_retx (after_turn t s size more).window (taken_in t s size f)
unfolding after_turn
turn_accounted turns.Whole s f size more whole part a =
    let lt : first_place s < length s.window.slots =
    ltb-true (first_place s) (length s.window.slots) (whole refl) in
    subst (λ (w : TxWindow). AreAccounted s.config.max_retx w (taken_in turns.Whole s size f))
    (sym (polled-window (is_wanted (sent_whole s) more) (sent_whole s)))
    (resends_accounted s.config.max_retx s.window f (first_place s) lt
    (has_octet (again s) (first-waits s.window.slots lt)) a)
turn_accounted turns.Part s f size more whole part a =
    let lt : first_place s < length s.window.slots =
    ltb-true (first_place s) (length s.window.slots) (part refl).0 in
    subst (λ (w : TxWindow). AreAccounted s.config.max_retx w (taken_in turns.Part s size f))
    (sym (polled-window (is_wanted (sent_segment s size) more) (sent_segment s size)))
    (segments_accounted s.config.max_retx s.window f (first_place s) (next_stretch (again s) size).from
    (next_stretch (again s) size).to lt
    (stretch-some (again s) size ((a.numbers (first_place s) lt).whole) (first-waits s.window.slots lt)
    (part refl).1) a)
turn_accounted turns.New s f size more whole part a =
    subst (λ (w : TxWindow). AreAccounted s.config.max_retx w (taken_in turns.New s size f))
    (sym (polled-window (is_wanted (sent_new s size) more) (sent_new s size)))
    (writes_accounted s.config.max_retx s.window f (new_slot s size).field (new_slot s size).lens
    (new_slot s size).begins (new_slot s size).ends s.place (whole_field (elements 2 size 0 0 s.queue.sdus)) a)
turn_accounted turns.Idle s f size more whole part a = a
turn_accounted turns.Stopped s f size more whole part a = a
turn_accounted turns.Small s f size more whole part a = a
turn_accounted turns.Shut s f size more whole part a = a
turn_accounted turns.Held s f size more whole part a = a

pub takes_accounted : TakesAreAccounted
takes_accounted s f size held more a =
    turn_accounted (turn s size held more) s f size more (is_whole s size held more) (is-part s size held more) a

pub turn_limited : (t : Turn) (s : State) (f : FlowSending) (size : ℕ) → IsLimited s.failed f
    → IsLimited s.failed (taken_in t s size f)
turn_limited turns.Whole s f size l =
    (sending_limited s.failed f l).resent (number_again s) 0 (length (again s).field)
turn_limited turns.Part s f size l =
    (sending_limited s.failed f l).resent (number_again s) (next_stretch (again s) size).from
    (next_stretch (again s) size).to
turn_limited turns.New s f size l = (sending_limited s.failed f l).written (length (new_slot s size).field)
turn_limited turns.Idle s f size l = l
turn_limited turns.Stopped s f size l = l
turn_limited turns.Small s f size l = l
turn_limited turns.Shut s f size l = l
turn_limited turns.Held s f size l = l

pub takes_limited : TakesAreLimited
takes_limited s f size held more l =
    subst (λ (b : Bool). IsLimited b (taken_in (turn s size held more) s size f))
    (sym (turn-failed (turn s size held more) s size more)) (turn_limited (turn s size held more) s f size l)
