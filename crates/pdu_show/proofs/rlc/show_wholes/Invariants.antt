use Rattle.std.proofs.Common.{◌≡◌, ◌<◌, ◌++◌, length, map}
use Rattle.std.specs.Prelude.{IfSome}
use Rattle.rlc_pdu.specs.Views.{elements_of}
use Rattle.pdu_show.specs.Show.{whole, listed, pdcp_shown, wholes_shown}
use Rattle.pdu_show.proofs.rlc.show_wholes.Given as goal
use Rattle.l2_bits.specs.declared.limits.TheConstants.{OCTETS_LIMIT}

abbrev pub invariant-loop-next : goal.invariant-loop-next
invariant-loop-next l = record {
  shown : l.records ++ map (pdcp_shown l.kind) (whole l.first l.last (listed l.next (elements_of l.elements)))
      ≡ l.fn.records ++ wholes_shown l.fn.kind l.fn.fi (elements_of l.fn.elements);
  short : IfSome l.next (λ one. length one.now < OCTETS_LIMIT);
}

abbrev pub decreases-loop-next : goal.decreases-loop-next
decreases-loop-next l = length (listed l.next (elements_of l.elements))
