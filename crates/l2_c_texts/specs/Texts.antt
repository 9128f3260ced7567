-- What texts give that are played and shown (docs/formats/JOURNAL.md), and what calls answer.
use Rattle.std.specs.Prelude.{◌≡◌, ◌≢◌, ◌⊎◌, ◌==◌, ◌||◌, ◌++◌, nat_lt, ℕ, List, []}
use Rattle.std.specs.Prelude.{drop, length, Some, if◌then◌else◌}
use Rattle.l2_io.specs.Machines.{Keeper}
use Rattle.air_record.specs.Text.{texts_of}
use Rattle.air_run.specs.Journal.{RunPlayed, RunClose}
use Rattle.air_run.specs.Refusals.{refusal_word}
use Rattle.line_player.specs.Answers.{refused_text}
use Rattle.line_player.specs.Journal.{Finished, Refused, Waiting}
use Rattle.line_player.specs.Streams.{Output}
use Rattle.line_player.specs.declared.status.Status.{Status}
use Rattle.line_player.specs.declared.status.Status.TheVariants as statuses
use Rattle.c_answers.specs.declared.TheConstants.{DONE, REFUSED, ROOM, NO_MEMORY}

-- a sink that doesn't fail, as a command sees it, and one that holds nothing
abbrev pub held_by : Keeper → Output
held_by sink = record { written = Some sink.octets; faults = 0; shortages = sink.shortages }

abbrev pub nothing_put : Output
nothing_put = record { written = Some []; faults = 0; shortages = 0 }

-- what is told of why a journal ends
abbrev pub message_of : RunClose → List ℕ
message_of Finished = []
message_of (Refused number reason) = refused_text refusal_word number reason
message_of Waiting = []

abbrev pub status_of : RunClose → Status
status_of Finished = statuses.Done
status_of (Refused number reason) = statuses.Refused
status_of Waiting = statuses.NoMemory

-- a command put out a journal and told why it ends, unless memory ran out
pub record Shows (played : RunPlayed) (status : Status) (written told : List ℕ) : Type 0 where
  pub ends : status ≡ status_of played.close
  pub journal : written ≡ texts_of played.journal
  pub message : told ≡ message_of played.close

abbrev pub Gives : RunPlayed → Status → List ℕ → List ℕ → Type 0
Gives played statuses.NoMemory written told = Unit {0}
Gives played status written told = Shows played status written told

-- ---- answers

abbrev pub status_answer : Status → ℕ
status_answer statuses.Done = DONE
status_answer statuses.Refused = REFUSED
status_answer status = NO_MEMORY

-- what is left goes into both rooms
abbrev pub left_answer : ℕ → ℕ → ℕ → ℕ → ℕ → ℕ
left_answer answer size message_size room message_room = if answer == NO_MEMORY then NO_MEMORY
    else if nat_lt room size || nat_lt message_room message_size then ROOM
    else answer

-- a whole text is played
abbrev pub play_answer : RunPlayed → ℕ → ℕ → ℕ
play_answer played room message_room = left_answer (status_answer (status_of played.close))
    (length (texts_of played.journal)) (length (message_of played.close)) room message_room

-- a text goes to the front of its room, what stood behind it stays, and its size is told; where
-- there is too little room or memory nothing is put
pub record Puts (text : List ℕ) (answer : ℕ) (room room' : List ℕ) (size : ℕ) : Type 0 where
  pub put : (answer ≡ DONE) ⊎ (answer ≡ REFUSED) → room' ≡ text ++ drop (length text) room
  pub told : answer ≢ NO_MEMORY → size ≡ length text
  pub kept : (answer ≡ ROOM) ⊎ (answer ≡ NO_MEMORY) → room' ≡ room

-- a whole text is played: what is answered, and what goes into both rooms
pub record Plays (played : RunPlayed) (answer : ℕ) (journal journal' : List ℕ) (size : ℕ)
    (message message' : List ℕ) (message_size : ℕ) : Type 0 where
  pub answered : (answer ≡ NO_MEMORY)
      ⊎ (answer ≡ play_answer played (length journal) (length message))
  pub journal_put : Puts (texts_of played.journal) answer journal journal' size
  pub message_put : Puts (message_of played.close) answer message message' message_size
