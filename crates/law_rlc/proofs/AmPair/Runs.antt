-- One call more of either end.
use Rattle.std.proofs.Common.{◌≡◌, ℕ, Bool, false, List, [], ◌∷◌, ◌++◌, refl, ap, ◌∙◌}
use Rattle.std.specs.List.{AllByRecursion}
use Rattle.rlc_am_rx_window.specs.Cells.{Cell}
use Rattle.rlc_am_tx.specs.Machine.{State, start}
use Rattle.law_rlc.specs.AmSender.Run.{Call as SenderCall, World as SenderWorld, after, run_am_sender, begun}
use Rattle.law_rlc.specs.AmSender.Octets.{nothing_sent, octets_after, HasOctets}
use Rattle.law_rlc.specs.AmSender.Acked.{acked_after}
use Rattle.law_rlc.specs.AmSender.Watched.{IsFair, AreFair, state_after}
use Rattle.law_rlc.specs.AmReceiver.Run.{Call as ReceiverCall, World as ReceiverWorld, happens as heard_by}
use Rattle.law_rlc.specs.AmReceiver.Run.{run_am_receiver, begin}
use Rattle.law_rlc.specs.AmReceiver.Status.{BringsSome, BringSome}
use Rattle.law_rlc.specs.AmReceiver.Stream.{IsHonest, AreHonest}
use Rattle.law_rlc.specs.AmPair.Flow.{Flow, sender, receiver}
use Rattle.law_rlc.specs.AmPair.Numbers.{is_acked}

-- ---- the sender

abbrev pub called : {G : Type 0} → (State → SenderCall → G → G) → SenderWorld G → SenderCall → SenderWorld G
called grow w c = record { state = after w.state c; past = grow w.state c w.past }

pub run-more : {G : Type 0} (grow : State → SenderCall → G → G) (cs : List SenderCall) (c : SenderCall)
    (w : SenderWorld G) → run_am_sender grow (cs ++ c ∷ []) w ≡ called grow (run_am_sender grow cs w) c
run-more grow [] c w = refl
run-more grow (d ∷ ds) c w = run-more grow ds c (called grow w d)

pub sender-more : (f : Flow) (c : SenderCall)
    → run_am_sender octets_after (f.sent ++ c ∷ []) (begun f.sending nothing_sent) ≡ called octets_after (sender f) c
sender-more f c = run-more octets_after f.sent c (begun f.sending nothing_sent)

-- the state is the same whatever of the past is kept
pub same-state : {G : Type 0} {H : Type 0} (f : State → SenderCall → G → G) (g : State → SenderCall → H
    → H) (cs : List SenderCall) (v : SenderWorld G) (w : SenderWorld H) → v.state ≡ w.state
    → (run_am_sender f cs v).state ≡ (run_am_sender g cs w).state
same-state f g [] v w e = e
same-state f g (c ∷ cs) v w e = same-state f g cs (called f v c) (called g w c) (ap (λ (s : State). after s c) e)

run-state : {G : Type 0} (grow : State → SenderCall → G → G) (cs : List SenderCall) (w : SenderWorld G)
    → (run_am_sender grow cs w).state ≡ state_after cs w.state
run-state grow [] w = refl
run-state grow (c ∷ cs) w = run-state grow cs (called grow w c)

pub sender-state : (f : Flow) → (sender f).state ≡ state_after f.sent (start f.sending)
sender-state f = run-state octets_after f.sent (begun f.sending nothing_sent)

pub acked-more : (f : Flow) (c : SenderCall)
    → (run_am_sender acked_after (f.sent ++ c ∷ []) (begun f.sending (λ n. false))).past
    ≡ acked_after (sender f).state c (is_acked f)
acked-more f c =
    ap (λ (w : SenderWorld (ℕ → Bool)). w.past) (run-more acked_after f.sent c (begun f.sending (λ n. false)))
    ∙ ap (λ (s : State). acked_after s c (is_acked f))
    (same-state acked_after octets_after f.sent (begun f.sending (λ n. false)) (begun f.sending nothing_sent) refl)

pub offered-more : (cs : List SenderCall) (c : SenderCall) → AllByRecursion HasOctets cs → HasOctets c
    → AllByRecursion HasOctets (cs ++ c ∷ [])
offered-more [] c h one = (one, tt)
offered-more (d ∷ ds) c h one = (h.0, offered-more ds c h.1 one)

pub fair-more : (cs : List SenderCall) (c : SenderCall) (s : State) → AreFair s cs → IsFair (state_after cs s) c
    → AreFair s (cs ++ c ∷ [])
fair-more [] c s h one = (one, tt)
fair-more (d ∷ ds) c s h one = (h.0, fair-more ds c (after s d) h.1 one)

-- ---- the receiver

heard-more : (cs : List ReceiverCall) (c : ReceiverCall) (w : ReceiverWorld)
    → run_am_receiver (cs ++ c ∷ []) w ≡ heard_by (run_am_receiver cs w) c
heard-more [] c w = refl
heard-more (d ∷ ds) c w = heard-more ds c (heard_by w d)

pub receiver-more : (f : Flow) (c : ReceiverCall)
    → run_am_receiver (f.heard ++ c ∷ []) (begin f.receiving) ≡ heard_by (receiver f) c
receiver-more f c = heard-more f.heard c (begin f.receiving)

pub some-more : (cs : List ReceiverCall) (c : ReceiverCall) → BringSome cs → BringsSome c → BringSome (cs ++ c ∷ [])
some-more [] c h one = (one, tt)
some-more (d ∷ ds) c h one = (h.0, some-more ds c h.1 one)

pub honest-more : (field : ℕ → List Cell) (cs : List ReceiverCall) (c : ReceiverCall) (w : ReceiverWorld)
    → AreHonest field w.state cs → IsHonest field (run_am_receiver cs w).state c
    → AreHonest field w.state (cs ++ c ∷ [])
honest-more field [] c w h one = (one, tt)
honest-more field (d ∷ ds) c w h one = (h.0, honest-more field ds c (heard_by w d) h.1 one)
