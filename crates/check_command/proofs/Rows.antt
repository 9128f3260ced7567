-- The rows of the answers.
use Rattle.std.proofs.Common.{ℕ, Bool, List, inl, inr}
use Rattle.l2_io.specs.Known.{HasRisen}
use Rattle.line_player.specs.Streams.{Streams}
use Rattle.line_player.specs.declared.status.Status.{Status}
use Rattle.line_player.specs.declared.status.Status.TheVariants as statuses
use Rattle.journal_check.specs.declared.fault.CheckWhy.{CheckWhy}
use Rattle.check_command.specs.Checking.{IsSound, IsUnsound, KeepsOut, Row, Checks}
use Rattle.check_command.specs.Reading.{Says, Judges, TellsSound, TellsUnsound, TellsVerdict}
use Rattle.check_command.specs.declared.verdict.Verdict.{Verdict}
use Rattle.check_command.specs.declared.verdict.Verdict.TheVariants as verdicts

row-sound : (whole : Bool) (octets : List ℕ) (old new : Streams) (lines : ℕ) (status : Status)
    → IsSound whole octets lines → TellsSound lines old.out new.out old.errs new.errs status
    → Row whole octets old new status
row-sound whole octets old new lines statuses.Done is told = (record { lines = lines; is = is }, told.0, told.1)
row-sound whole octets old new lines statuses.Usage is told = absurd told
row-sound whole octets old new lines statuses.Refused is told = absurd told
row-sound whole octets old new lines statuses.ReadFault is told = absurd told
row-sound whole octets old new lines statuses.WriteFault is told =
    inl (record { lines = lines; is = is }, told.0, told.1, told.2)
row-sound whole octets old new lines statuses.NoMemory is told = told

row-unsound : (whole : Bool) (octets : List ℕ) (old new : Streams) (at : ℕ) (why : CheckWhy) (status : Status)
    → IsUnsound whole octets at why → KeepsOut old new → TellsUnsound at why old.errs new.errs status
    → Row whole octets old new status
row-unsound whole octets old new at why statuses.Done is out told = absurd told
row-unsound whole octets old new at why statuses.Usage is out told = absurd told
row-unsound whole octets old new at why statuses.Refused is out told =
    (record { at = at; why = why; is = is }, out, told)
row-unsound whole octets old new at why statuses.ReadFault is out told = absurd told
row-unsound whole octets old new at why statuses.WriteFault is out told =
    inr (record { at = at; why = why; is = is }, out, told.0, told.1)
row-unsound whole octets old new at why statuses.NoMemory is out told = (out, told)

row-of : (whole : Bool) (octets : List ℕ) (old new : Streams) (verdict : Verdict) (status : Status)
    → Says whole octets (HasRisen old.source.faults new.source.faults) verdict
    → TellsVerdict verdict old.out new.out old.errs new.errs status → Row whole octets old new status
row-of whole octets old new (verdicts.Sound lines) status is told =
    row-sound whole octets old new lines status is told
row-of whole octets old new (verdicts.Unsound at why) status is told =
    row-unsound whole octets old new at why status is told.0 told.1
row-of whole octets old new verdicts.ReadFault status is told = rw told.0 (is.0, told.1, is.1, told.2)
row-of whole octets old new verdicts.NoMemory status is told = rw told.0 (told.1, told.2)

-- a journal was judged, and the verdict told
pub checks : (old new : Streams) (verdict : Verdict) (status : Status) → Judges old.source new.source verdict
    → TellsVerdict verdict old.out new.out old.errs new.errs status → Checks old new status
checks old new verdict status judged told = record {
  given = judged.given;
  left_is = judged.left_is;
  whole = judged.whole;
  end = judged.end;
  row = row-of judged.whole judged.given old new verdict status judged.says told;
}
