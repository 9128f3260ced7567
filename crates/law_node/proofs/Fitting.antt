-- What a bearer writes fits its share.
use Rattle.std.proofs.Common.{◌≡◌, ◌≤◌, ℕ, zero, suc, ◌+◌, ◌-◌, ◌/◌, ◌%◌, Bool, true, false, if◌then◌else◌, Option}
use Rattle.std.proofs.Common.{List, [], ◌∷◌, length, drop, refl, ap, ◌∙◌, arith}
use Rattle.std.proofs.lemmas.Bool.Decides.{nat_tests}
use Rattle.bearer.specs.declared.flow.Flow.{Flow}
use Rattle.bearer.specs.declared.flow.Flow.TheVariants.{Tm, Um, Am}
use Rattle.bearer.specs.Taking.{pdus}
use Rattle.bearer.specs.Acknowledged.Reports.{octets_in, status_octets}
use Rattle.bearer.specs.Acknowledged.State.{State as AmState, has_more}
use Rattle.bearer.specs.Acknowledged.Taking.{writes_status, status_pdu, status_pdus, share_left, data_size}
use Rattle.bearer.specs.Acknowledged.Taking.{feeding as am_feeding, answer as am_answer, pdus as am_pdus}
use Rattle.bearer_pdcp.proofs.Fitting.{fits-none, fits-one, taken-fits, both-fit}
use Rattle.bearer_pdcp.specs.Shares.{FitsShare}
use Rattle.bearer_pdcp.specs.Telling.{pdus_of}
use Rattle.bearer.specs.Unacknowledged.State.{State as UmState}
use Rattle.bearer.specs.Unacknowledged.Taking.{feeding as um_feeding, size_in, answer as um_answer}
use Rattle.harq.specs.declared.sender.Order.{Order}
use Rattle.l2_types.specs.declared.side.Side.{Side}
use Rattle.rlc_am_rx.proofs.ReportLemmas.{within_size}
use Rattle.rlc_am_rx.specs.State.{State as Receiver}
use Rattle.rlc_am_rx.specs.Status.{listed, nacks, ack}
use Rattle.rlc_pdu.specs.declared.Nack.{Nack}
use Rattle.rlc_pdu.specs.Status.{status_size}
use Rattle.rlc_pdu.specs.Writing.{status_written}
use Rattle.rlc_um.specs.Transparent.{taken as tm_taken}
use Rattle.l2_node.specs.Building.{visited}
use Rattle.l2_node.specs.End.{End}
use Rattle.l2_node.specs.Hearing.{bearer_of}
use Rattle.law_node.specs.Blocks.{EachFits}
use Rattle.law_node.specs.Calls.{Call, reached}
use Rattle.law_node.specs.Sharing.{share as share_of, held as held_of}
use Rattle.law_node.proofs.Ages.{Stands}
use Rattle.law_node.proofs.AmWithin.{am_within}
use Rattle.law_node.proofs.Holding.{flow_at, visiting_young}
use Rattle.law_node.proofs.Sizes.{status_size_is}
use Rattle.law_node.proofs.Within.{tm_within, um_within}

-- ---- a STATUS

octets_count : (n : ℕ) (bits : List Bool) → length (octets_in n bits) ≡ n
octets_count zero bits = refl
octets_count (suc n) bits = ap suc (octets_count n (drop 8 bits))

status_octets_size : (number : ℕ) (ns : List Nack) → length (status_octets number ns) ≡ status_size ns
status_octets_size number ns = let w = status_written number ns in
    octets_count (length w / 8) w ∙ status_size_is number ns

-- it has two octets or more
some_status : (ns : List Nack) → 2 ≤ status_size ns
some_status ns = omega arith

record Leaves (r : Receiver) (share left : ℕ) (front : List (List ℕ)) : Type 0 where
  less : left ≤ share
  fits : FitsShare (share - left) front

writes_by : (r : Receiver) (share : ℕ) (t : Bool) → writes_status r share ≡ t
    → Leaves r share (if t then share - (3 + length (status_pdu r share)) else share)
    (if t then status_pdu r share ∷ [] else [])
writes_by r share false e = record { less = omega arith; fits = fits-none (share - share) }
writes_by r share true e =
    let pdu = status_pdu r share in
    let five : 5 ≤ share = grind (arith, nat_tests) in
    let is = status_octets_size (ack r (share - 3) % 1024) (nacks r (share - 3)) in
    let some = some_status (nacks r (share - 3)) in
    let within = within_size (share - 3) (listed r) (omega (arith, five)) in
    record {
      less = omega arith;
      fits = fits-one (share - (share - (3 + length pdu))) pdu (omega (arith, is, some))
          (omega (arith, is, within, five));
    }

status_leaves : (r : Receiver) (share : ℕ) → Leaves r share (share_left r share) (status_pdus r share)
status_leaves r share = writes_by r share (writes_status r share) refl

-- ---- each kind of bearer

am_fits : (b : AmState) (share : ℕ) (held : Option ℕ) → FitsShare share (am_pdus b share held)
unfolding am_pdus am_answer
am_fits b share held =
    let s = status_leaves b.rx share in
    let w = am_feeding b share held in
    both-fit share (share_left b.rx share) (status_pdus b.rx share) (am_pdus b share held) (am_answer b share held)
    s.less s.fits (am_within w.tx (data_size b share) held (has_more w.pdcp)) refl

um_fits : (b : UmState) (share : ℕ) (held : Option ℕ) → FitsShare share (pdus_of (um_answer b share held))
unfolding um_answer
um_fits b share held =
    taken-fits share (um_answer b share held) (pdus_of (um_answer b share held))
    (um_within (um_feeding b share held).tx (size_in share) held) refl

flow_fits : (f : Flow) (share : ℕ) (held : Option ℕ) → Stands f → FitsShare share (pdus f share held)
unfolding pdus tm_taken
flow_fits (Tm b) share held h =
    taken-fits share (tm_taken b (share - 3)) (pdus_of (tm_taken b (share - 3)))
    (tm_within b.next (share - 3) b.waiting h) refl
flow_fits (Um b) share held h = um_fits b share held
flow_fits (Am b) share held h = am_fits b share held

-- ---- any end

each_fits : (e : End) (grant : ℕ) → ((l : ℕ) → Stands (flow_at l e.bearers)) → EachFits e grant
each_fits e grant stands c o h =
    flow_fits (bearer_of c.lcid e).state.flow (share_of e grant c) (held_of e c) (stands c.lcid)

pub pdus_fit : (side : Side) (maximum : ℕ) (reports : Bool) (calls : List Call) (tti : ℕ) (order : Order) (grant : ℕ)
    → EachFits (visited tti order (reached side maximum reports calls)) grant
pdus_fit side maximum reports calls tti order grant =
    let y = visiting_young side maximum reports calls tti order in
    each_fits (visited tti order (reached side maximum reports calls)) grant y.stands
