-- Which SDUs are confirmed: those whose every octet lies in acknowledged PDUs (TS 36.322 5.1.3.1,
-- 5.2.1).
use Rattle.std.specs.Prelude.{◌≡◌, ℕ, ◌+◌, ◌==◌, Bool, false, not, ◌&&◌, if◌then◌else◌, List, []}
use Rattle.std.specs.Prelude.{◌∷◌, ◌++◌, length, take, drop, replicate, slice_get, Option, Some}
use Rattle.std.specs.Prelude.{None, nat_lt}
use Rattle.l2_types.specs.declared.config.AmTxConfig.{AmTxConfig}
use Rattle.rlc_am_tx_window.specs.Numbers.{Ascend}
use Rattle.rlc_am_tx.specs.declared.turn.Turn.{Turn}
use Rattle.rlc_am_tx.specs.declared.turn.Turn.TheVariants as turns
use Rattle.rlc_am_tx.specs.Machine.{State, turn, new_slot}
use Rattle.law_rlc.specs.AmSender.Run.{Call, Offer, Take, Status, Tick, Expire, Settle, Confirm}
use Rattle.law_rlc.specs.AmSender.Run.{World, after, run_am_sender, begun}
use Rattle.law_rlc.specs.AmSender.Acked.{acked_by}

-- how many SDUs were offered; for each octet that was offered and isn't sent, in order, the place
-- of its SDU, and the same of each new PDU, in the order of their numbers; which numbers are
-- acknowledged; and the places that `confirmed` gave, in order
pub record Confirmations : Type 0 where
  pub offered : ℕ
  pub unsent : List ℕ
  pub sent : List (List ℕ)
  pub acked : ℕ → Bool
  pub given : List ℕ

abbrev pub unconfirmed : Confirmations
unconfirmed = record { offered = 0; unsent = []; sent = []; acked = λ n. false; given = [] }

-- a new PDU takes so many octets, the first that aren't sent
abbrev pub with_sent : ℕ → Confirmations → Confirmations
with_sent n g = record g { unsent = drop n g.unsent; sent = g.sent ++ take n g.unsent ∷ [] }

abbrev pub sent_by : Turn → State → ℕ → Confirmations → Confirmations
sent_by turns.New s size g = with_sent (length (new_slot s size).field) g
sent_by turns.Whole s size g = g
sent_by turns.Part s size g = g
sent_by turns.Idle s size g = g
sent_by turns.Stopped s size g = g
sent_by turns.Small s size g = g
sent_by turns.Shut s size g = g
sent_by turns.Held s size g = g

abbrev pub with_given : Option ℕ → List ℕ → List ℕ
with_given None given = given
with_given (Some place) given = given ++ place ∷ []

abbrev pub confirmations_after : State → Call → Confirmations → Confirmations
confirmations_after s (Offer sdu) g =
    record g { offered = g.offered + 1; unsent = g.unsent ++ replicate (length sdu) g.offered }
confirmations_after s (Take size held more) g = sent_by (turn s size held more) s size g
confirmations_after s (Status status) g = record g { acked = acked_by s status g.acked }
confirmations_after s Tick g = g
confirmations_after s (Expire more) g = g
confirmations_after s (Settle more) g = g
confirmations_after s Confirm g =
    record g { given = with_given (slice_get s.accounts.news 0) g.given }

abbrev pub times : ℕ → List ℕ → ℕ
times place [] = 0
times place (x ∷ xs) = (if x == place then 1 else 0) + times place xs

-- the octets of an SDU in the PDUs from a number on that are of some kind
abbrev pub octets_in : (ℕ → Bool) → ℕ → List (List ℕ) → ℕ → ℕ
octets_in f n [] place = 0
octets_in f n (x ∷ xs) place = (if f n then times place x else 0) + octets_in f (n + 1) xs place

-- an SDU has octets in acknowledged PDUs, none in others, and none that isn't sent
abbrev pub is_done : Confirmations → ℕ → Bool
is_done g place = nat_lt 0 (octets_in g.acked 0 g.sent place)
    && (octets_in (λ n. not (g.acked n)) 0 g.sent place + times place g.unsent == 0)

-- the places given, and those that `confirmed` will give next
abbrev pub places : State → Confirmations → List ℕ
places s g = g.given ++ s.accounts.news

-- the place of an SDU stands once among these, exactly if all its octets lie in acknowledged PDUs;
-- a call adds places behind those that were there, and those that it adds ascend
pub record AreConfirmed (w : World Confirmations) : Type 0 where
  pub once : (place : ℕ) → times place (places w.state w.past)
      ≡ (if is_done w.past place then 1 else 0)
  pub order : (c : Call) → (later : List ℕ)
      × ((places (after w.state c) (confirmations_after w.state c w.past)
      ≡ places w.state w.past ++ later) × Ascend 0 later)

abbrev pub ConfirmsEachOnce : Type 0
ConfirmsEachOnce = (config : AmTxConfig) (calls : List Call)
    → AreConfirmed (run_am_sender confirmations_after calls (begun config unconfirmed))
