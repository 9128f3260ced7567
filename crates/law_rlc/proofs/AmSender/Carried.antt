-- New PDUs carry the octets offered, along every run.
use Rattle.std.proofs.Common.{◌≡◌, ℕ, ◌+◌, Bool, true, false, if◌then◌else◌, List, [], ◌∷◌, ◌++◌, Option, Some, None}
use Rattle.std.proofs.Common.{refl, ap, sym, ◌∙◌, arith, length-append, append_assoc, length-drop}
use Rattle.std.proofs.Math.ListN.{length-set}
use Rattle.std.specs.List.{concat}
use Rattle.std.proofs.lemmas.Grind.{common_steps}
use Rattle.l2_num.specs.Timers.{runs}
use Rattle.rlc_pdu.specs.Pdus.{StatusPdu}
use Rattle.rlc_queue.specs.NewPdu.{rest}
use Rattle.rlc_am_tx_window.specs.Sent.{rested, sent_part, recalled, next_stretch}
use Rattle.rlc_am_tx_window.specs.Window.{TxWindow, next, slot_at, offset_of, leading_acked, advanced}
use Rattle.rlc_am_tx.specs.declared.turn.Turn.{Turn}
use Rattle.rlc_am_tx.specs.declared.turn.Turn.TheVariants as turns
use Rattle.rlc_am_tx.specs.Machine.{State, turn, after_turn, after_status, after_expiry, is_ignored, with_poll}
use Rattle.rlc_am_tx.specs.Machine.{is_wanted, again, first_place, sent_whole, sent_segment, sent_new, new_slot, ended}
use Rattle.rlc_am_tx.specs.Machine.{limit_of, stops, read, read_window, applied, with_recalled, with_owed, expired}
use Rattle.rlc_am_tx.specs.Machine.{recalled_place, expiry_limit, settled_by, settles}
use Rattle.law_rlc.specs.AmSender.Run.{Call, Offer, Take, Status, Tick, Expire, Settle, Confirm, World, after}
use Rattle.law_rlc.specs.AmSender.Run.{run_am_sender}
use Rattle.law_rlc.specs.AmSender.Run.{begun}
use Rattle.law_rlc.specs.AmSender.Stream.{Streams, streams_by, streams_after, IsCarried, CarriesTheStream}
use Rattle.law_rlc.proofs.AmSender.Slots.{leading-length}
use Rattle.law_rlc.proofs.AmSender.Least.{heard-length}
use Rattle.rlc_queue.proofs.Fits.{fitting}
use Rattle.std.proofs.lemmas.List.{append-nil}
use Rattle.std.proofs.lemmas.List.Folds.{concat-append}

concat-end : (xs : List (List ℕ)) (x : List ℕ) → concat (xs ++ x ∷ []) ≡ concat xs ++ x
concat-end xs x = concat-append xs (x ∷ []) ∙ ap (λ (ys : List ℕ). concat xs ++ ys) (one x)
  where
    one : (x : List ℕ) → concat (x ∷ []) ≡ x
    one x = grind (arith, common_steps, append-nil x)

abbrev Carries : State → Streams → Type 0
Carries s p = IsCarried (record { state = s; past = p })

-- a step that leaves what waits and VT(S) alone
same : (s t : State) (p : Streams) → t.queue ≡ s.queue → next t.window ≡ next s.window → Carries s p → Carries t p
same s t p q n h = record {
  octets = ap (λ (x : _). p.carried ++ concat x.sdus) q ∙ h.octets;
  number = n ∙ h.number;
}

polled-queue : (b : Bool) (s : State) → (with_poll b s).queue ≡ s.queue
polled-queue true s = refl
polled-queue false s = refl

pub polled-next : (b : Bool) (s : State) → next (with_poll b s).window ≡ next s.window
polled-next true s = refl
polled-next false s = refl

ended-queue : (l : Option ℕ) (b : Bool) (s : State) → (ended l b s).queue ≡ s.queue
ended-queue (Some n) b s = refl
ended-queue None true s = refl
ended-queue None false s = refl

pub ended-next : (l : Option ℕ) (b : Bool) (s : State) → next (ended l b s).window ≡ next s.window
ended-next (Some n) b s = refl
ended-next None true s = refl
ended-next None false s = refl

new-carries : (s : State) (size : ℕ) (p : Streams) → Carries s p
    → Carries (sent_new s size) (streams_by turns.New s size p)
new-carries s size p h = record {
  octets = append_assoc p.carried (new_slot s size).field (concat (rest 2 size 0 0 s.queue.sdus))
      ∙ (ap (λ (xs : List ℕ). p.carried ++ xs) (fitting 2 size s.queue.sdus).octets ∙ h.octets);
  number = let n = h.number in let l = length-append s.window.slots (new_slot s size ∷ []) in omega arith;
}

turn-carries : (t : Turn) (s : State) (size : ℕ) (more : Bool) (p : Streams) → Carries s p
    → Carries (after_turn t s size more) (streams_by t s size p)
unfolding after_turn
turn-carries turns.Whole s size more p h =
    same s (with_poll (is_wanted (sent_whole s) more) (sent_whole s)) p
    (polled-queue (is_wanted (sent_whole s) more) (sent_whole s))
    (polled-next (is_wanted (sent_whole s) more) (sent_whole s)
    ∙ ap (λ (n : ℕ). s.window.base + n) (length-set s.window.slots (first_place s) (rested (again s)))) h
turn-carries turns.Part s size more p h =
    same s (with_poll (is_wanted (sent_segment s size) more) (sent_segment s size)) p
    (polled-queue (is_wanted (sent_segment s size) more) (sent_segment s size))
    (polled-next (is_wanted (sent_segment s size) more) (sent_segment s size)
    ∙ ap (λ (n : ℕ). s.window.base + n)
    (length-set s.window.slots (first_place s)
    (sent_part (again s) (next_stretch (again s) size).from (next_stretch (again s) size).to))) h
turn-carries turns.New s size more p h =
    same (sent_new s size) (with_poll (is_wanted (sent_new s size) more) (sent_new s size))
    (streams_by turns.New s size p) (polled-queue (is_wanted (sent_new s size) more) (sent_new s size))
    (polled-next (is_wanted (sent_new s size) more) (sent_new s size)) (new-carries s size p h)
turn-carries turns.Idle s size more p h = h
turn-carries turns.Stopped s size more p h = h
turn-carries turns.Small s size more p h = h
turn-carries turns.Shut s size more p h = h
turn-carries turns.Held s size more p h = h

advanced-next : (w : TxWindow) → next (advanced w) ≡ next w
advanced-next w = let a = leading-length w.slots in let b = length-drop (leading_acked w.slots) w.slots in omega arith

pub applied-next : (s : State) (below : ℕ) (status : StatusPdu)
    → next (applied s below status.nacks).window ≡ next s.window
applied-next s below status =
    ended-next (limit_of s below status.nacks) (stops s below status.nacks) (read s below status.nacks)
    ∙ (advanced-next (read_window s below status.nacks)
    ∙ ap (λ (n : ℕ). s.window.base + n) (heard-length s.window below s.config.max_retx status.nacks))

status-carries : (b : Bool) (s : State) (status : StatusPdu) (p : Streams) → Carries s p
    → Carries (if b then s else applied s (offset_of s.window.base status.ack) status.nacks) p
status-carries true s status p h = h
status-carries false s status p h =
    same s (applied s (offset_of s.window.base status.ack) status.nacks) p
    (ended-queue (limit_of s (offset_of s.window.base status.ack) status.nacks)
    (stops s (offset_of s.window.base status.ack) status.nacks)
    (read s (offset_of s.window.base status.ack) status.nacks))
    (applied-next s (offset_of s.window.base status.ack) status) h

recalled-queue : (o : Option ℕ) (s : State) → (with_recalled o s).queue ≡ s.queue
recalled-queue None s = refl
recalled-queue (Some at) s = refl

pub recalled-next : (o : Option ℕ) (s : State) → next (with_recalled o s).window ≡ next s.window
recalled-next None s = refl
recalled-next (Some at) s =
    ap (λ (n : ℕ). s.window.base + n)
    (length-set s.window.slots at (recalled s.config.max_retx (slot_at s.window.slots at)))

expiry-carries : (b : Bool) (s : State) (more : Bool) (p : Streams) → Carries s p
    → Carries (if b then ended (expiry_limit s more) false (expired s more) else s) p
expiry-carries false s more p h = h
expiry-carries true s more p h = same s (ended (expiry_limit s more) false (expired s more)) p
    (ended-queue (expiry_limit s more) false (expired s more) ∙ recalled-queue (recalled_place s more) (with_owed s))
    (ended-next (expiry_limit s more) false (expired s more) ∙ recalled-next (recalled_place s more) (with_owed s)) h

settled-carries : (b : Bool) (s : State) (p : Streams) → Carries s p → Carries (settled_by b s) p
settled-carries true s p h = same s (settled_by true s) p refl refl h
settled-carries false s p h = h

after-carries : (s : State) (c : Call) (p : Streams) → Carries s p → Carries (after s c) (streams_after s c p)
unfolding after_status after_expiry
after-carries s (Offer sdu) p h = record {
  octets = ap (λ (xs : List ℕ). p.carried ++ xs) (concat-end s.queue.sdus sdu)
      ∙ (sym (append_assoc p.carried (concat s.queue.sdus) sdu) ∙ ap (λ (xs : List ℕ). xs ++ sdu) h.octets);
  number = h.number;
}
after-carries s (Take size held more) p h = turn-carries (turn s size held more) s size more p h
after-carries s (Status status) p h = status-carries (is_ignored s status.ack) s status p h
after-carries s Tick p h = same s (after s Tick) p refl refl h
after-carries s (Expire more) p h = expiry-carries (runs s.polls.timer) s more p h
after-carries s (Settle more) p h = settled-carries (settles s more) s p h
after-carries s Confirm p h = same s (after s Confirm) p refl refl h

run-carries : (calls : List Call) (w : World Streams) → IsCarried w → IsCarried (run_am_sender streams_after calls w)
run-carries [] w h = h
run-carries (c ∷ cs) w h =
    run-carries cs (record { state = after w.state c; past = streams_after w.state c w.past })
    (after-carries w.state c w.past h)

pub carried : CarriesTheStream
carried config calls =
    run-carries calls (begun config (record { offered = []; carried = []; sent = 0 }))
    (record { octets = refl; number = refl })
