-- The streams of a command (docs/formats/JOURNAL.md), as they stand before it and after it: what is
-- left of its source, what out and errs hold, and how often each has failed.
use Rattle.std.specs.Prelude.{◌≡◌, ℕ, List, Option}
use Rattle.l2_io.specs.Known.{after, IsFront, HasRisen}
use Rattle.l2_io.specs.declared.source.Source.{Ghosts as Sources}
use Rattle.l2_io.specs.declared.sink.Sink.{Ghosts as Sinks}

-- a source: the octets left of it, where they are known, and its count of faults
pub record Input : Type 0 where
  pub left : Option (List ℕ)
  pub faults : ℕ

abbrev pub input : {S : Type 0} → Sources S → S → Input
input S source = record { left = S.left source; faults = S.faults source }

-- a sink: the octets written, where they are known, and its counts of faults and of shortages
pub record Output : Type 0 where
  pub written : Option (List ℕ)
  pub faults : ℕ
  pub shortages : ℕ

abbrev pub output : {K : Type 0} → Sinks K → K → Output
output K sink =
    record { written = K.written sink; faults = K.faults sink; shortages = K.shortages sink }

-- those of a command
pub record Streams : Type 0 where
  pub source : Input
  pub out : Output
  pub errs : Output

abbrev pub streams : {S K E : Type 0} → Sources S → Sinks K → Sinks E → S → K → E → Streams
streams S K E source out errs =
    record { source = input S source; out = output K out; errs = output E errs }

-- ---- what a call does to them

-- a sink failed, or had no memory, in the call
abbrev pub HasFailed : Output → Output → Type 0
HasFailed old new = HasRisen old.faults new.faults

abbrev pub RanShort : Output → Output → Type 0
RanShort old new = HasRisen old.shortages new.shortages

-- the sink grew by a front of a text
pub record WritesFront (text : List ℕ) (written written' : Option (List ℕ)) : Type 0 where
  pub front : List ℕ
  pub is_front : IsFront front text
  pub written_is : written' ≡ after written front
