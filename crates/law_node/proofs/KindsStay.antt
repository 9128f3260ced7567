-- No call changes the kind of a bearer's PDCP.
use Rattle.std.proofs.Common.{◌≡◌, ℕ, Bool, true, false, if◌then◌else◌, List}
use Rattle.bearer_pdcp.specs.Discarding.{after_tick}
use Rattle.bearer_pdcp.specs.Ends.{Ends}
use Rattle.bearer_pdcp.specs.Hearing.{is_for_sender, got_left, with_arrived, after_hearing}
use Rattle.bearer_pdcp.specs.Lives.{restarted}
use Rattle.bearer_pdcp.specs.Taking.{after_taking}
use Rattle.pdcp_pdu.specs.declared.pdu.PdcpKind.{PdcpKind}
use Rattle.pdcp_rx.specs.declared.Cause.{Cause}
use Rattle.pdcp_rx.specs.declared.Got.{Got}
use Rattle.pdcp_rx.specs.declared.Got.TheVariants as got_as
use Rattle.pdcp_rx.specs.State.{got}
use Rattle.law_node.proofs.Pdcp.{Passes}

abbrev pub IsOfKind : PdcpKind → Ends → Type 0
IsOfKind kind e = e.kind ≡ kind

if_kind : (kind : PdcpKind) (b : Bool) (x y : Ends) → IsOfKind kind x → IsOfKind kind y
    → IsOfKind kind (if b then x else y)
if_kind kind true x y i j = i
if_kind kind false x y i j = j

got_kind : (kind : PdcpKind) (g : Got) (cause : Cause) (e : Ends) → IsOfKind kind e → IsOfKind kind (got_left g cause e)
got_kind kind got_as.Up cause e i = i
got_kind kind got_as.Stored cause e i = i
got_kind kind got_as.Old cause e i = i
got_kind kind got_as.OutOfRange cause e i = i
got_kind kind (got_as.Integrity found wanted) cause e i = i
got_kind kind (got_as.Report fms bitmap) cause e i = if_kind kind (is_for_sender e cause) _ e i i
got_kind kind (got_as.Unreadable fault) cause e i = i

heard_kind : (kind : PdcpKind) (pdu : List ℕ) (cause : Cause) (e : Ends) → IsOfKind kind e
    → IsOfKind kind (after_hearing pdu cause e)
unfolding after_hearing
heard_kind kind pdu cause e i = got_kind kind (got e.rx pdu cause) cause (with_arrived pdu cause e) i

pub kind_passes : (kind : PdcpKind) → Passes (IsOfKind kind)
unfolding after_tick after_taking restarted
kind_passes kind = record {
  heard = heard_kind kind;
  ticked = λ e i. i;
  taken = λ e i. i;
  confirms = λ e place i. i;
  submits = λ e octets r i. i;
  discards = λ e ttis i. i;
  restarts = λ e keys i. i;
}
