-- RLC PDUs by their fields (TS 36.322 6.2.1).
use Rattle.std.specs.Prelude.{◌≡◌, ◌⊎◌, ℕ, ◌<◌, ◌≤◌, ◌^◌, Bool, List, [], ◌∷◌, Option, Some, None}
use Rattle.std.specs.Prelude.{IfSome}
use Rattle.rlc_pdu.specs.declared.pdu.Segment.{Segment}
use Rattle.rlc_pdu.specs.declared.pdu.Part.{Part}
use Rattle.rlc_pdu.specs.declared.pdu.Nack.{Nack}

-- a UMD PDU (TS 36.322 6.2.1.3)
pub record UmdPdu : Type 0 where
  pub sn : ℕ
  pub fi : ℕ
  pub elements : List (List ℕ)

-- an AMD PDU, or a segment of one (TS 36.322 6.2.1.4, 6.2.1.5)
pub record AmdPdu : Type 0 where
  pub sn : ℕ
  pub poll : Bool
  pub fi : ℕ
  pub segment : Option Segment
  pub elements : List (List ℕ)

-- a STATUS PDU (TS 36.322 6.2.1.6)
pub record StatusPdu : Type 0 where
  pub ack : ℕ
  pub nacks : List Nack

-- a PDU of an acknowledged bearer
pub data AcknowledgedPdu : Type 0 where
  Payload : AmdPdu → AcknowledgedPdu
  Status : StatusPdu → AcknowledgedPdu

-- the lengths of the number of a UMD PDU (TS 36.322 6.2.2.3)
abbrev pub IsUmBits : ℕ → Type 0
IsUmBits bits = (bits ≡ 5) ⊎ (bits ≡ 10)

-- the lengths of elements: one or more, none is 0, and each but the last is written as an LI
abbrev pub AreLens : List ℕ → Type 0
AreLens [] = ⊥
AreLens (n ∷ []) = 1 ≤ n
AreLens (n ∷ m ∷ ns) = (1 ≤ n) × (n < 2 ^ 11) × AreLens (m ∷ ns)

-- all but the last
abbrev pub but_last : List ℕ → List ℕ
but_last [] = []
but_last (n ∷ []) = []
but_last (n ∷ m ∷ ns) = n ∷ but_last (m ∷ ns)

-- the fields of a segment's header are in range
abbrev pub IsSegment : Option Segment → Type 0
IsSegment None = Unit {0}
IsSegment (Some s) = s.so < 2 ^ 15

-- the places of a range are in range, and the end doesn't lie below the start
abbrev pub IsPart : Option Part → Type 0
IsPart None = Unit {0}
IsPart (Some p) = (p.start ≤ p.end) × (p.end < 2 ^ 15)

-- the fields of an entry are in range
pub record IsNack (n : Nack) : Type 0 where
  pub number : n.sn < 2 ^ 10
  pub part : IsPart n.part

-- the fields of an entry fit their bits
pub record IsWide (n : Nack) : Type 0 where
  pub number : n.sn < 2 ^ 10
  pub part : IfSome n.part (λ p. (p.start < 2 ^ 15) × (p.end < 2 ^ 15))
