-- Each bearer tells its own channel, through any calls.
use Rattle.std.proofs.Common.{◌≡◌, ℕ, Bool, true, false, if◌then◌else◌, List, refl, ◌∙◌}
use Rattle.bearer.specs.declared.flow.Flow.{Flow}
use Rattle.bearer.specs.declared.flow.Flow.TheVariants.{Tm, Um, Am}
use Rattle.bearer_pdcp.specs.Discarding.{after_tick}
use Rattle.bearer_pdcp.specs.Ends.{Ends, begun}
use Rattle.bearer_pdcp.specs.Hearing.{is_for_sender, got_left, with_arrived, after_hearing}
use Rattle.bearer_pdcp.specs.Lives.{restarted}
use Rattle.bearer_pdcp.specs.Taking.{after_taking}
use Rattle.eps_sec.specs.declared.Keys.{Keys}
use Rattle.l2_types.specs.declared.side.Side.{Side}
use Rattle.pdcp_pdu.specs.declared.pdu.PdcpKind.{PdcpKind}
use Rattle.pdcp_rx.specs.declared.Cause.{Cause}
use Rattle.pdcp_rx.specs.declared.Got.{Got}
use Rattle.pdcp_rx.specs.declared.Got.TheVariants as got_as
use Rattle.pdcp_rx.specs.State.{got}
use Rattle.law_node.proofs.Keeping.{IsKept}
use Rattle.law_node.proofs.Pdcp.{Passes, OfPdcp, pdcp_kept}

-- the channel of which a bearer tells; a transparent one is told it
abbrev pub own : ℕ → Flow → ℕ
own lcid (Tm b) = lcid
own lcid (Um b) = b.pdcp.lcid
own lcid (Am b) = b.pdcp.lcid

handed_if : (b : Bool) (x y : Ends) → x.lcid ≡ y.lcid → (if b then x else y).lcid ≡ y.lcid
handed_if true x y e = e
handed_if false x y e = refl

got_own : (g : Got) (cause : Cause) (e : Ends) → (got_left g cause e).lcid ≡ e.lcid
got_own got_as.Up cause e = refl
got_own got_as.Stored cause e = refl
got_own got_as.Old cause e = refl
got_own got_as.OutOfRange cause e = refl
got_own (got_as.Integrity found wanted) cause e = refl
got_own (got_as.Report fms bitmap) cause e = handed_if (is_for_sender e cause) _ e refl
got_own (got_as.Unreadable fault) cause e = refl

pub heard_own : (pdu : List ℕ) (cause : Cause) (e : Ends) → (after_hearing pdu cause e).lcid ≡ e.lcid
unfolding after_hearing
heard_own pdu cause e = got_own (got e.rx pdu cause) cause (with_arrived pdu cause e)

abbrev Tells : ℕ → Ends → Type 0
Tells lcid e = e.lcid ≡ lcid

tells_own : (lcid : ℕ) → Passes (Tells lcid)
unfolding after_tick after_taking restarted
tells_own lcid = record {
  heard = λ pdu cause e p. heard_own pdu cause e ∙ p;
  ticked = λ e p. p;
  taken = λ e p. p;
  confirms = λ e place p. p;
  submits = λ e octets r p. p;
  discards = λ e ttis p. p;
  restarts = λ e keys p. p;
}

begun_own : (lcid : ℕ) (kind : PdcpKind) (first : ℕ) (keys : Keys) (side : Side)
    → Tells lcid (begun lcid kind first keys side)
unfolding begun
begun_own lcid kind first keys side = refl

abbrev pub IsOwn : ℕ → Flow → Type 0
IsOwn lcid f = OfPdcp (Tells lcid) f

pub own_kept : IsKept IsOwn
own_kept = pdcp_kept Tells tells_own begun_own

pub own_is : (lcid : ℕ) (f : Flow) → IsOwn lcid f → own lcid f ≡ lcid
own_is lcid (Tm b) p = refl
own_is lcid (Um b) p = p
own_is lcid (Am b) p = p
