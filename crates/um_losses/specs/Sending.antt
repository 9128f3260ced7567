-- What the sender of a flow has written in a life, by the records of its blocks
-- (TS 36.322 5.1.2.1).
use Rattle.std.specs.Prelude.{ℕ, ◌+◌, List, replicate, slice_set, Option, Some, None}
use Rattle.um_losses.specs.declared.pdu.Pdu.{Pdu}
use Rattle.um_losses.specs.declared.sending.InFlight.{InFlight}
use Rattle.um_losses.specs.Pdus.{ends_in}

-- how many PDUs were written, which is the whole number of the next one; how many SDUs ended in
-- them, which is the COUNT of the SDU that the next one begins with or goes on with; and for each
-- HARQ process the PDU in its last new block
pub record Sending : Type 0 where
  pub sent : ℕ
  pub ended : ℕ
  pub under_way : List (Option InFlight)

abbrev pub nothing_written : Sending
nothing_written = record { sent = 0; ended = 0; under_way = replicate 8 None }

-- a process begins a new block
abbrev pub renewed : ℕ → Sending → Sending
renewed process s = record s { under_way = slice_set s.under_way process None }

-- the next PDU is written into it
abbrev pub written : ℕ → Pdu → Sending → Sending
written process p s = record {
  sent = s.sent + 1;
  ended = s.ended + ends_in p;
  under_way =
      slice_set s.under_way process (Some (record { number = s.sent; first = s.ended; pdu = p }));
}
