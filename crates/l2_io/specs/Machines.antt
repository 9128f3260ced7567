-- Sources and sinks in memory, and what each call leaves of them (docs/laws/PROGRAM.md).
use Rattle.std.specs.Prelude.{◌≢◌, ℕ, List, [], ◌++◌, length, drop, min, Result, Ok, Err, Contains}
use Rattle.l2_io.specs.Known.{one_more}
use Rattle.l2_io.specs.declared.sink.PutFault.{PutFault}
use Rattle.l2_io.specs.declared.sink.PutFault.TheVariants.{Failed, NoMemory}

-- a source: what is left, the most that a read gives, the reads so far, the reads that fail, and
-- the count of faults
pub record Giver : Type 0 where
  pub octets : List ℕ
  pub most : ℕ
  pub calls : ℕ
  pub fails : List ℕ
  pub faults : ℕ

-- how many of the octets left a read gives: all, but no more than may be given and than there is
-- room for
abbrev pub given_count : List ℕ → ℕ → ℕ → ℕ
given_count octets most room = min (min (length octets) room) most

-- a source after a read that gave so many octets
abbrev pub gave : Giver → ℕ → Giver
gave s count = record s { octets = drop count s.octets; calls = one_more s.calls }

-- a source after a read that failed
abbrev pub gave_none : Giver → Giver
gave_none s = record s { calls = one_more s.calls; faults = one_more s.faults }

-- a source that doesn't fail: what is left, and the most that a read gives
pub record SureGiver : Type 0 where
  pub octets : List ℕ
  pub most : ℕ

-- a sink: what was written, the puts so far, the puts that fail, and the counts of faults and of
-- puts without memory
pub record Taker : Type 0 where
  pub octets : List ℕ
  pub calls : ℕ
  pub fails : List ℕ
  pub faults : ℕ
  pub shortages : ℕ

-- a put that fails: it is listed, and its piece isn't empty
pub record IsFailing (s : Taker) (piece : List ℕ) : Type 0 where
  pub listed : Contains s.fails s.calls
  pub some : piece ≢ []

-- a sink after a put, by the answer
abbrev pub took : Taker → List ℕ → Result Unit PutFault → Taker
took s piece (Ok _) = record s { octets = s.octets ++ piece; calls = one_more s.calls }
took s piece (Err Failed) = record s { calls = one_more s.calls; faults = one_more s.faults }
took s piece (Err NoMemory) =
    record s { calls = one_more s.calls; shortages = one_more s.shortages }

-- a sink that doesn't fail: what it holds, and the count of puts without memory
pub record Keeper : Type 0 where
  pub octets : List ℕ
  pub shortages : ℕ

-- a sink that doesn't fail after a put, by the answer
abbrev pub kept : Keeper → List ℕ → Result Unit PutFault → Keeper
kept s piece (Ok _) = record s { octets = s.octets ++ piece }
kept s piece (Err _) = record s { shortages = one_more s.shortages }

-- what a gathering sink holds after a flush, by the answer: a fault loses what the sink below has
-- not written of it
abbrev pub held_after : List ℕ → Result Unit PutFault → List ℕ
held_after octets (Ok _) = []
held_after octets (Err Failed) = []
held_after octets (Err NoMemory) = octets
