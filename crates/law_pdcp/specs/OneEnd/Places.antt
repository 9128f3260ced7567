-- What a sender keeps of the PDUs that it gave RLC stands at their places in the stream (TS 36.323
-- 5.1.1, 5.4), whatever is said of a PDU with an SDU, and of one with the own status report.
use Rattle.std.specs.Prelude.{ℕ, ◌≤◌, List, [], ◌∷◌, length, drop}
use Rattle.pdcp_tx_store.specs.declared.given.Entry.{Entry}
use Rattle.pdcp_tx_store.specs.declared.given.Entry.TheVariants.{Data, Own, Gone}
use Rattle.pdcp_tx_store.specs.Given.{Given}

module _ {X : Type 0} (IsSdu : ℕ → List ℕ → X → Type 0) (IsReport : X → Type 0) where
  -- the SDU with its COUNT, or that it was the own report; nothing once it is confirmed
  abbrev pub IsKeptOf : Entry → X → Type 0
  IsKeptOf (Data x) o = IsSdu x.count x.octets o
  IsKeptOf Own o = IsReport o
  IsKeptOf Gone o = Unit {0}

  abbrev pub AreKeptOf : List Entry → List X → Type 0
  AreKeptOf [] [] = Unit {0}
  AreKeptOf [] (o ∷ os) = ⊥
  AreKeptOf (e ∷ es) [] = ⊥
  AreKeptOf (e ∷ es) (o ∷ os) = IsKeptOf e o × AreKeptOf es os

  -- something of each PDU of the stream but the first so many, which are confirmed
  pub record AreKeptAt (given : Given) (stream : List X) : Type 0 where
    pub few : given.gone ≤ length stream
    pub entries : AreKeptOf given.entries (drop given.gone stream)
