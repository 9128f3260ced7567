-- As two ends go on over the air, the status report that an end owes is as it is written.
use Rattle.std.proofs.Common.{◌≡◌, ℕ, ◌%◌, ◌^◌, List, [], ◌∷◌, Option, Some, None, slice_get, Ok, refl, ap, sym, subst}
use Rattle.std.proofs.Common.{◌∙◌}
use Rattle.bearer.specs.Acknowledged.State.{State}
use Rattle.bearer_types.specs.declared.config.BearerConfig.{BearerConfig}
use Rattle.l2_node.specs.End.{End}
use Rattle.l2_types.specs.declared.side.Side.{Side}
use Rattle.pdcp_pdu.specs.Grammar.{user_spelling}
use Rattle.pdcp_pdu.specs.Kinds.{IsKind, bits_of}
use Rattle.pdcp_pdu.specs.Pdus.{Report}
use Rattle.pdcp_pdu.specs.declared.PdcpKind.{PdcpKind}
use Rattle.pdcp_pdu.specs.declared.PdcpKind.TheVariants.{Am}
use Rattle.pdcp_rx.specs.State.{State as Receiving, report as report_of}
use Rattle.pdcp_tx.specs.State.{State as Sending}
use Rattle.pdcp_tx.specs.declared.sender.Next.{Next}
use Rattle.law_pdcp.specs.AmPair.Flow.{Flow, Event, Sends, SetDiscard, Arrive, HandUp, Raise, Restart}
use Rattle.law_pdcp.specs.AmPair.Flow.{AreGiven, happens, passes, ended, run_am_pdcp, am_pdcp_outset}
use Rattle.law_pdcp.proofs.AmPair.Beginning.{bits_held}
use Rattle.law_pdcp.proofs.AmPair.Laws.{run_sound, outset_sound}
use Rattle.law_pdcp.proofs.AmPair.Sound.{IsSound}
use Rattle.law_deliver.specs.AmChannel.Lives.{AirStep}
use Rattle.law_given.specs.Joined.{Direction, IsDirection, Joins, Reports, pdcp, AreJoined}
use Rattle.law_given.specs.SupplyPdus.{IsSpelled}
use Rattle.law_given.proofs.SayingReports.{report_read, ends_holding}

-- ---- the report of a receiver

report_spelled : (bits : ℕ) (r : Receiving) → r.kind ≡ Am bits → IsKind (Am bits)
    → IsSpelled bits (Some (report_of r))
unfolding report_of
report_spelled bits r am kind fms bitmap read =
    let same : Ok (Report (r.next % 2 ^ bits) (bits_held r)) ≡ Ok (Report fms bitmap) =
    sym (report_read r bits am kind) ∙ read in
    let pdu : Report (r.next % 2 ^ bits) (bits_held r) ≡ Report fms bitmap = cc in
    ap (λ (k : PdcpKind). user_spelling (bits_of k) (Report (r.next % 2 ^ bits_of k) (bits_held r))) am
    ∙ ap (user_spelling bits) pdu

-- ---- the report of a direction

abbrev HasSpelled : ℕ → Flow → Type 0
HasSpelled bits f = (report : List ℕ) → f.report ≡ Some report → IsSpelled bits (Some report)

passes-report : (o : Option Next) (f : Flow) → f.report ≡ (passes o f).report
passes-report None f = refl
passes-report (Some n) f = refl

one-spelled : (bits : ℕ) (f : Flow) (e : Event) → IsSound bits f → HasSpelled bits f → HasSpelled bits (happens f e)
one-spelled bits f (Sends c) s h = h
one-spelled bits f (SetDiscard ttis) s h = h
one-spelled bits f (Arrive place) s h = h
one-spelled bits f HandUp s h =
    λ report q. h report (passes-report (slice_get f.stream f.passed) f ∙ q)
one-spelled bits f Raise s h = h
one-spelled bits f (Restart keys) s h =
    λ report q. (
    let same : report_of (ended f).receiver ≡ report = cc in
    subst (λ (octets : List ℕ). IsSpelled bits (Some octets)) same
    (report_spelled bits (ended f).receiver (ends_holding bits f s).kind s.width))

all-spelled : (bits : ℕ) (es : List Event) (f : Flow) → AreGiven f es → IsSound bits f → HasSpelled bits f
    → HasSpelled bits (run_am_pdcp es f)
all-spelled bits [] f g s h = h
all-spelled bits (e ∷ es) f g s h =
    all-spelled bits es (happens f e) g.1 (run_sound bits (e ∷ []) f (g.0, tt) s) (one-spelled bits f e s h)

direction-spelled : (c : BearerConfig) (d : Direction) → IsDirection c d → HasSpelled d.bits (pdcp d)
direction-spelled c d h =
    all-spelled d.bits d.events (am_pdcp_outset d.bits d.protection d.first) h.events
    (outset_sound d.bits d.protection d.first h.kind h.counts)
    (λ report q. (let no : None ≡ Some report = q in absurd cc))

-- ---- what an end owes

owed-spelled : (c : BearerConfig) (there back : Direction) (from to : State) → IsDirection c there
    → Joins back from to → Reports there back → IsSpelled c.pdcp_bits from.pdcp.tx.owed
owed-spelled c there back from to is joins reports =
    subst (λ (x : Sending). IsSpelled c.pdcp_bits x.owed) joins.sender_is (by (pdcp back).sender.owed refl)
  where
    by : (owed : Option (List ℕ)) → (pdcp back).sender.owed ≡ owed → IsSpelled c.pdcp_bits owed
    by None none = tt
    by (Some report) owes =
        subst (λ (bits : ℕ). IsSpelled bits (Some report)) is.bits
        (direction-spelled c there is report (reports.owed report owes))

pub one_owes_spelled : (l : ℕ) (c : BearerConfig) (nb ue : End) (from : Side) (steps : List AirStep)
    (j : AreJoined l c nb ue from steps) → IsSpelled c.pdcp_bits j.one.pdcp.tx.owed
one_owes_spelled l c nb ue from steps j =
    owed-spelled c j.back j.there j.one j.two j.back_is j.there_joins j.back_reports

pub two_owes_spelled : (l : ℕ) (c : BearerConfig) (nb ue : End) (from : Side) (steps : List AirStep)
    (j : AreJoined l c nb ue from steps) → IsSpelled c.pdcp_bits j.two.pdcp.tx.owed
two_owes_spelled l c nb ue from steps j =
    owed-spelled c j.there j.back j.two j.one j.there_is j.back_joins j.there_reports
