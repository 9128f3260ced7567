-- A PDU that is within a size is within each larger one.
use Rattle.std.proofs.Common.{ℕ, ◌≤◌, le_trans}
use Rattle.rlc_queue.specs.NewPdu.{IsWithin}
use Rattle.rlc_pdu.specs.declared.outcome.Taken.{Taken}
use Rattle.rlc_pdu.specs.declared.outcome.Taken.TheVariants.{Piece, Idle, Small, Shut, Held, Stopped}

pub wider : (a b : ℕ) (t : Taken) → a ≤ b → IsWithin a t → IsWithin b t
wider a b (Piece number fresh polled octets) le h = (h.0, le_trans h.1 le)
wider a b Idle le h = tt
wider a b Small le h = tt
wider a b Shut le h = tt
wider a b Held le h = tt
wider a b Stopped le h = tt
