-- The rows of the answers.
use Rattle.std.proofs.Common.{◌≡◌, ℕ, Bool, List, [], sym, append-nil, inl, inr}
use Rattle.std.specs.Prelude.{flat_map}
use Rattle.l2_io.specs.Known.{HasRisen}
use Rattle.line_player.specs.Journal.{Played, Refused}
use Rattle.line_player.specs.Plays.{Plays}
use Rattle.line_player.specs.Playing.{PlaysOn}
use Rattle.line_player.specs.Streams.{Output, Streams, HasFailed}
use Rattle.line_player.specs.Answers.{HasAll, HasFront, Row, Runs, TellsRefusal, TellsEnding}
use Rattle.line_player.specs.declared.reason.Reason.{Reason}
use Rattle.line_player.specs.declared.ending.Ending.{Ending}
use Rattle.line_player.specs.declared.ending.Ending.TheVariants as endings
use Rattle.line_player.specs.declared.status.Status.{Status}
use Rattle.line_player.specs.declared.status.Status.TheVariants as statuses

all-front : {E R : Type 0} (text_of : E → List ℕ) (played : Played E R) (out out' : Output)
    → HasAll text_of played out out' → HasFront text_of played out out'
all-front text_of played out out' all =
    record {
      front = flat_map text_of played.journal;
      is_front = record { rest = []; joined = sym (append-nil (flat_map text_of played.journal)) };
      written_is = all;
    }

row-refused : {E R : Type 0} (text_of : E → List ℕ) (word_of : R → List ℕ)
    (played : Played E R) (old new : Streams) (number : ℕ) (reason : Reason R) (status : Status)
    → played.close ≡ Refused number reason → HasAll text_of played old.out new.out
    → TellsRefusal word_of number reason old.errs new.errs status → Row text_of word_of played old new status
row-refused text_of word_of played old new number reason statuses.Done close all told = absurd told
row-refused text_of word_of played old new number reason statuses.Usage close all told = absurd told
row-refused text_of word_of played old new number reason statuses.Refused close all told =
    (record { number = number; reason = reason; close = close; journal = all }, told)
row-refused text_of word_of played old new number reason statuses.ReadFault close all told = absurd told
row-refused text_of word_of played old new number reason statuses.WriteFault close all told =
    inr (record { number = number; reason = reason; close = close; journal = all }, told.0, told.1)
row-refused text_of word_of played old new number reason statuses.NoMemory close all told =
    (all-front text_of played old.out new.out all, told)

row-of : {E R : Type 0} (text_of : E → List ℕ) (word_of : R → List ℕ)
    (played : Played E R) (old new : Streams) (ending : Ending R) (status : Status)
    → Plays text_of played old.out.written new.out.written (HasRisen old.source.faults new.source.faults)
    (HasFailed old.out new.out) ending
    → TellsEnding word_of ending old.errs new.errs status → Row text_of word_of played old new status
row-of text_of word_of played old new endings.Done status p told = rw told.0 (p.0, p.1, told.1)
row-of text_of word_of played old new (endings.Refused number reason) status p told =
    row-refused text_of word_of played old new number reason status p.0 p.1 told
row-of text_of word_of played old new endings.ReadFault status p told = rw told.0 (p.0, p.1, p.2, told.1)
row-of text_of word_of played old new endings.WriteFault status p told = rw told.0 (inl (p.0, p.1, told.1))
row-of text_of word_of played old new endings.NoMemory status p told = rw told.0 (p, told.1)

-- an input was played, and how that ended was told
pub runs-ended : {E R : Type 0} {text_of : E → List ℕ} {word_of : R → List ℕ}
    (journal : Bool → List ℕ → Played E R) (old new : Streams) (ending : Ending R) (status : Status)
    → PlaysOn text_of journal old.source new.source old.out new.out ending
    → TellsEnding word_of ending old.errs new.errs status
    → Runs text_of word_of journal old new status
runs-ended journal old new ending status p told = record {
  given = p.given;
  left_is = p.left_is;
  whole = p.whole;
  end = p.end;
  row = row-of _ _ (journal p.whole p.given) old new ending status p.plays told;
}
