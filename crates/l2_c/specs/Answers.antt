-- The numbers that calls answer (include/zubhanit.h), as functions of their arguments.
use Rattle.std.specs.Prelude.{ℕ, ◌&&◌, nat_lt, Bool, if◌then◌else◌, Result, Ok, Err}
use Rattle.c_answers.specs.declared.TheConstants.{DONE, RANGE, REFUSED, ROOM}

-- so many things go into so much room
abbrev pub room_answer : ℕ → ℕ → ℕ
room_answer size room = if nat_lt room size then ROOM else DONE

-- what is in range is done as its answer says
abbrev pub in_range : Bool → ℕ → ℕ
in_range fits answer = if fits then answer else RANGE

-- what is read is found, or refused
abbrev pub read_answer : {A R : Type 0} → Result A R → ℕ
read_answer (Err refused) = REFUSED
read_answer (Ok found) = DONE

-- a call over a stream of octets: a bearer below 32, a direction below 2
abbrev pub stream_answer : ℕ → ℕ → ℕ
stream_answer bearer direction = in_range (nat_lt bearer 32 && nat_lt direction 2) DONE
