-- When a STATUS is due, by the events since the last one (TS 36.322 5.2.3).
use Rattle.std.specs.Prelude.{ℕ, ◌||◌, Bool, true, false, List, [], ◌∷◌, Option, Some, None, nat_lt}
use Rattle.std.specs.Prelude.{if◌then◌else◌}
use Rattle.std.specs.List.{list_any}
use Rattle.l2_types.specs.declared.AmRxConfig.{AmRxConfig}
use Rattle.rlc_pdu.specs.declared.Landed.{Landed}
use Rattle.rlc_pdu.specs.declared.Landed.TheVariants.{Kept, Repeat, Outside, Clash}
use Rattle.rlc_pdu.specs.Pdus.{AmdPdu}
use Rattle.rlc_am_rx.specs.State.{State, fresh}
use Rattle.rlc_am_rx.specs.Machine.{landed}
use Rattle.law_rlc.specs.AmReceiver.Run.{Call, Arrive, Up, Write, ExpireReorder, ExpireProhibit}
use Rattle.law_rlc.specs.AmReceiver.Run.{TickReorder, TickProhibit, state_after, number_read}

-- a receiver; whether since the last STATUS the timer expired, a polled PDU was dropped (but for a
-- clash), or a polled number came to lie below VR(MS); and the polled numbers that haven't
pub record Asked : Type 0 where
  pub state : State
  pub asked : Bool
  pub polls : List ℕ

-- one of the numbers lies below a bound
abbrev pub some_below : ℕ → List ℕ → Bool
some_below bound ns = list_any (λ (n : ℕ). nat_lt n bound) ns

-- those that don't
abbrev pub not_below : ℕ → List ℕ → List ℕ
not_below bound [] = []
not_below bound (n ∷ ns) = if nat_lt n bound then not_below bound ns else n ∷ not_below bound ns

abbrev pub with_poll : Bool → ℕ → List ℕ → List ℕ
with_poll true n ns = n ∷ ns
with_poll false n ns = ns

-- VR(MS) has come to lie at a bound, with these polled numbers
abbrev pub asked_with_bound : ℕ → Bool → List ℕ → State → Asked
asked_with_bound bound asked polls s =
    record { state = s; asked = asked || some_below bound polls; polls = not_below bound polls }

abbrev pub asked_on : Landed → Asked → AmdPdu → State → Asked
asked_on Kept a p s =
    asked_with_bound s.bound a.asked (with_poll p.poll (number_read a.state p) a.polls) s
asked_on Repeat a p s = record { state = s; asked = a.asked || p.poll; polls = a.polls }
asked_on Outside a p s = record { state = s; asked = a.asked || p.poll; polls = a.polls }
asked_on Clash a p s = record { state = s; asked = a.asked; polls = a.polls }

abbrev pub asked_at : Option ℕ → Asked → State → Asked
asked_at None a s = record { state = s; asked = a.asked; polls = a.polls }
asked_at (Some x) a s = asked_with_bound s.bound true a.polls s

abbrev pub asks : Asked → Call → Asked
asks a (Arrive p) = asked_on (landed a.state p) a p (state_after a.state (Arrive p))
asks a Up = record { state = state_after a.state Up; asked = a.asked; polls = a.polls }
asks a Write = record { state = state_after a.state Write; asked = false; polls = a.polls }
asks a ExpireReorder = asked_at a.state.mark a (state_after a.state ExpireReorder)
asks a ExpireProhibit = record {
  state = state_after a.state ExpireProhibit;
  asked = a.asked;
  polls = a.polls;
}
asks a TickReorder = record {
  state = state_after a.state TickReorder;
  asked = a.asked;
  polls = a.polls;
}
asks a TickProhibit = record {
  state = state_after a.state TickProhibit;
  asked = a.asked;
  polls = a.polls;
}

abbrev pub ask : List Call → Asked → Asked
ask [] a = a
ask (c ∷ cs) a = ask cs (asks a c)

abbrev pub unasked : AmRxConfig → Asked
unasked config = record { state = fresh config; asked = false; polls = [] }
