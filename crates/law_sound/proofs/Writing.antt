-- What an acknowledged bearer writes that hears a flow: a STATUS that is true of its history, and one data PDU.
use Rattle.std.proofs.Common.{◌≡◌, ◌≤◌, ℕ, ◌-◌, ◌%◌, Bool, true, false, if◌then◌else◌, List, [], ◌∷◌, length}
use Rattle.std.proofs.Common.{Ok, refl, ap, sym, ◌∙◌, arith}
use Rattle.std.specs.List.{AllByRecursion}
use Rattle.rlc_pdu.specs.declared.constants.TheConstants.{AM_MODULUS}
use Rattle.rlc_pdu.specs.declared.outcome.Taken.{Taken}
use Rattle.rlc_pdu.specs.declared.outcome.Taken.TheVariants as taken
use Rattle.rlc_pdu.specs.Pdus.{StatusPdu, Payload, Status as Control}
use Rattle.rlc_pdu.specs.Reading.{am_at}
use Rattle.rlc_am_rx.specs.State.{State as Receiver}
use Rattle.rlc_am_rx.specs.Status.{ack, nacks}
use Rattle.bearer.specs.Acknowledged.Taking.{status_pdu, status_pdus, writes_status}
use Rattle.bearer_pdcp.specs.Telling.{pdus_of}
use Rattle.law_bearer.specs.AnyBearer.Acknowledged.{data_given}
use Rattle.law_rlc.specs.AmPair.Flow.{Flow, sender, receiver, goes, am_rlc_outset}
use Rattle.law_rlc.proofs.AmPair.Laws.{sound}
use Rattle.law_rlc.proofs.AmPair.Sound.{IsSound}
use Rattle.law_rlc.proofs.AmPair.Statuses.{reports-sound}
use Rattle.law_bearer.proofs.AnyBearer.SenderCalls.{writes_what_rlc_gives}
use Rattle.law_deliver.proofs.AmFlow.Hearing.{is_reported}
use Rattle.law_sound.specs.HearingLaws.{IsNoData, IsWrittenTrue, BearersReportTruly, BearersWriteOneData}
use Rattle.law_sound.proofs.Hearings.{ends_report_truly}

-- ---- a STATUS

abbrev status_of : Receiver → ℕ → StatusPdu
status_of r size = record { ack = ack r size % AM_MODULUS; nacks = nacks r size }

-- is read as it was written
status_reads : (f : Flow) (r : Receiver) (share : ℕ) → IsSound f → (receiver f).state ≡ r
    → am_at (status_pdu r share) ≡ Ok (Control (status_of r (share - 3)))
status_reads f r share s here =
    let t = reports-sound f (share - 3) (status_pdu r share) (is_reported f r share here) s in
    t.reports.0.reads ∙ ap (λ (x : Receiver). Ok (Control (status_of x (share - 3)))) here

one_if : {A : Type 0} (P : A → Type 0) (due : Bool) (x : A) → P x → AllByRecursion P (if due then x ∷ [] else [])
one_if P true x h = (h, tt)
one_if P false x h = tt

pub bearers_report_truly : BearersReportTruly
bearers_report_truly sending receiving steps given most share next lcid es b here ends =
    let f = goes steps (am_rlc_outset sending receiving) in
    one_if (IsWrittenTrue es b.rx (share - 3) next lcid) (writes_status b.rx share) (status_pdu b.rx share)
    (record {
      status = status_of b.rx (share - 3);
      reads = status_reads f b.rx share (sound sending receiving steps given) (sym here);
      gathered = ends_report_truly most es (sender f).state b.rx (share - 3) next lcid (status_of b.rx (share - 3)) ends
          refl refl;
    })

-- ---- with a data PDU

status_none : (octets : List ℕ) (status : StatusPdu) → am_at octets ≡ Ok (Control status) → IsNoData octets
status_none octets status reads pdu e =
    let no : Ok (Control status) ≡ Ok (Payload pdu) = sym reads ∙ e in
    cc

pub at_most_one : (t : Taken) → length (pdus_of t) ≤ 1
at_most_one (taken.Piece number first polled octets) = omega arith
at_most_one taken.Idle = omega arith
at_most_one taken.Small = omega arith
at_most_one taken.Shut = omega arith
at_most_one taken.Held = omega arith
at_most_one taken.Stopped = omega arith

pub bearers_write_one : BearersWriteOneData
bearers_write_one sending receiving steps given share held b here =
    let f = goes steps (am_rlc_outset sending receiving) in
    record {
      before = status_pdus b.rx share;
      behind = pdus_of (data_given b share held);
      are = writes_what_rlc_gives b share held;
      none = one_if IsNoData (writes_status b.rx share) (status_pdu b.rx share)
          (status_none (status_pdu b.rx share) (status_of b.rx (share - 3))
          (status_reads f b.rx share (sound sending receiving steps given) (sym here)));
      one = at_most_one (data_given b share held);
    }
