-- What the blocks under way carry of a channel is under way in its flows.
use Rattle.std.proofs.Common.{◌≡◌, ℕ, List, [], slice_index_or, slice_range, length, Ok, ap, sym, ◌∙◌}
use Rattle.l2_types.specs.declared.side.Side.TheVariants.{Nb, Ue}
use Rattle.rlc_pdu.specs.Pdus.{StatusPdu, Payload, Status}
use Rattle.rlc_pdu.specs.Reading.{am_at}
use Rattle.bearer.specs.Acknowledged.State.{State}
use Rattle.l2_node.specs.End.{End}
use Rattle.law_rlc.specs.AmPair.Flow.{Copy, Flow, sender, goes as flow_goes, am_rlc_outset}
use Rattle.law_rlc.specs.AmPair.Statuses.{reduced}
use Rattle.law_rlc.specs.AmSender.Octets.{Place, segment_of}
use Rattle.law_rlc.proofs.AmPair.Laws.{sound}
use Rattle.law_rlc.proofs.AmPair.Reading.{read_as, stretch-read}
use Rattle.law_rlc.proofs.AmPair.Sound.{IsTrueCopy, IsSound}
use Rattle.law_deliver.specs.AmFlow.Air.{Step, goes, outset, AreGiven, Begins}
use Rattle.law_deliver.specs.AmFlow.UnderWay.{IsUnderWay, AsData, AsStatus, AreFlowsByAir, IsOfReport}
use Rattle.law_deliver.specs.AmFlow.UnderWay.{StatusesAreOfReports}
use Rattle.law_deliver.proofs.AmFlow.Carrying.{numbers_stay}
use Rattle.law_deliver.proofs.AmFlow.Loads.{all_at}

pub blocks_carry_flows : (l : ℕ) (nb ue : End) (b d : State) (steps : List Step) → Begins Nb l nb b → Begins Ue l ue d
    → AreGiven l (outset nb ue) steps → AreFlowsByAir l b d (goes steps (outset nb ue))
blocks_carry_flows l nb ue b d steps x y g = (numbers_stay l nb ue b d steps x y g).by_air

-- ---- how they are read

-- a data PDU isn't read as a STATUS
copy_read : (f : Flow) (c : Copy) → IsSound f → IsTrueCopy (sender f).past.sent c → (status : StatusPdu)
    → am_at c.octets ≡ Ok (Status status) → ⊥
copy_read f c h q status e =
    let ps : List Place = slice_index_or (sender f).past.sent c.number [] in
    let read : am_at c.octets
    ≡ Ok (Payload (read_as c.number q.poll (segment_of q.from q.to (length ps)) (slice_range ps q.from q.to))) =
    ap am_at q.is ∙ stretch-read c.number q.poll ps q.from q.to (h.aired c.number q.known) q.some q.within in
    let no : Ok (Status status)
    ≡ Ok (Payload (read_as c.number q.poll (segment_of q.from q.to (length ps)) (slice_range ps q.from q.to))) =
    sym e ∙ read in
    absurd cc

read_report : (f g : Flow) (age : ℕ) (octets : List ℕ) (status : StatusPdu) → IsSound f → IsSound g
    → IsUnderWay f g age octets → am_at octets ≡ Ok (Status status) → IsOfReport g age status
read_report f g age octets status h k (AsData c place at q) e =
    absurd (copy_read f c h (all_at (IsTrueCopy (sender f).past.sent) f.copies place c h.copies at) status
    (ap am_at q ∙ e))
read_report f g age octets status h k (AsStatus r place at q old) e =
    let t = all_at _ g.reports place r k.reports at in
    let same : Ok (Status (reduced r)) ≡ Ok (Status status) = sym t.reads ∙ (ap am_at q ∙ e) in
    record { report = r; place = place; there = at; aged = old; is = cc }

pub statuses_are_of_reports : StatusesAreOfReports
statuses_are_of_reports a c b d out back age octets status g k u e =
    read_report (flow_goes out (am_rlc_outset a d)) (flow_goes back (am_rlc_outset c b)) age octets status
    (sound a d out g) (sound c b back k) u e
