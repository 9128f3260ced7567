-- What the end of a journal leaves.
use Rattle.std.proofs.Common.{ℕ, [], refl, sym, true, false, inr}
use Rattle.std.specs.Prelude.{Ok, Err}
use Rattle.l2_io.proofs.Reading.{before-nothing}
use Rattle.line_player.specs.Streams.{Input}
use Rattle.journal_check.specs.declared.fault.CheckFault.{CheckFault}
use Rattle.journal_check.specs.declared.fault.CheckFault.TheVariants.{Refused, NoMemory}
use Rattle.journal_check.specs.Checked.{CheckerState, Closes}
use Rattle.check_command.specs.Reading.{verdict_by, Judges, HasTakenAll}
use Rattle.check_command.specs.declared.verdict.Verdict.TheVariants as verdicts

-- nothing was read
pub unread : (first : Input) → Judges first first verdicts.NoMemory
unread first = record {
  given = [];
  left_is = sym (before-nothing first.left);
  whole = false;
  end = λ e. cc;
  says = tt;
}

pub closes-sound : (first new : Input) (c : CheckerState) (lines : ℕ) (h : HasTakenAll first new c)
    → Closes h.records (Ok lines) → Judges first new (verdicts.Sound lines)
closes-sound first new c lines h closes = record {
  given = h.given;
  left_is = h.left_is;
  whole = true;
  end = λ e. h.end;
  says = record {
    all = refl;
    records = h.records;
    read = h.read;
    last = closes.1;
    lines_are = closes.0;
  };
}

pub closes-unsound : (first new : Input) (c : CheckerState) (fault : CheckFault) (h : HasTakenAll first new c)
    → Closes h.records (Err fault) → Judges first new (verdict_by fault)
closes-unsound first new c (Refused at why) h closes = record {
  given = h.given;
  left_is = h.left_is;
  whole = true;
  end = λ e. h.end;
  says = inr (record { records = h.records; read = h.read; fails = closes });
}
closes-unsound first new c NoMemory h closes = record {
  given = h.given;
  left_is = h.left_is;
  whole = false;
  end = λ e. cc;
  says = tt;
}
