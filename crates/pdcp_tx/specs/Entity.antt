-- A sender that may have run out of memory (TS 36.323 5.1.1). It then answers so to each call that
-- can, and its state says nothing.
use Rattle.std.specs.Prelude.{◌≡◌, Bool, false, IsTrue}
use Rattle.l2_bits.specs.declared.fault.SubmitRefusal.{SubmitRefusal}
use Rattle.l2_bits.specs.declared.fault.SubmitRefusal.TheVariants.{Empty, TooLong, Full, CountEnd}
use Rattle.l2_bits.specs.declared.fault.SubmitRefusal.TheVariants.{NoMemory}
use Rattle.pdcp_tx.specs.State.{State}

pub record Entity : Type 0 where
  pub state : State
  pub dead : Bool

abbrev pub alive : State → Entity
alive s = record { state = s; dead = false }

-- a refusal changes nothing, but want of memory is for good
abbrev pub KeepsOrDies : SubmitRefusal → Entity → Entity → Type 0
KeepsOrDies Empty old new = new ≡ old
KeepsOrDies TooLong old new = new ≡ old
KeepsOrDies Full old new = new ≡ old
KeepsOrDies CountEnd old new = new ≡ old
KeepsOrDies NoMemory old new = IsTrue new.dead
