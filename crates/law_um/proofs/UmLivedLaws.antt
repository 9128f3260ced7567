-- What follows where both ends are beside the history of each direction.
use Rattle.std.proofs.Common.{ℕ, List, [], ◌∷◌, ◌++◌, map, slice_get, append-nil, ap, sym, ◌∙◌}
use Rattle.rlc_pdu.specs.Pdus.{IsUmBits}
use Rattle.rlc_um.specs.Sender.{width_of}
use Rattle.bearer.specs.Unacknowledged.State.{State}
use Rattle.journal_flows.specs.UmPdus.{place_next}
use Rattle.journal_um.specs.declared.pieces.JoinedSdu.{JoinedSdu}
use Rattle.journal_um.specs.LossLaws.{IsShort}
use Rattle.journal_um.specs.UmEvents.{running}
use Rattle.journal_um.proofs.Accounts.{um_accounts_are_true}
use Rattle.journal_um.proofs.CountReading.{counts_are_read}
use Rattle.journal_um.proofs.Losing.{loses_only}
use Rattle.law_deliver.specs.UmDelivery.Lives.{Life, next_near, next_far}
use Rattle.law_deliver.specs.UmFlow.Pair.{BearerEnd, Step, goes, um_pair_outset}
use Rattle.law_deliver.proofs.UmFlow.Standing.{some_numbers}
use Rattle.law_um.specs.UmLived.{UmHistory, no_history, over_there, over_back, behind_life, IsLived, AreLived, AreUps}
use Rattle.law_um.specs.UmLived.{UmUpsAreJoined, WhereNear, UmUpsAreTrue, lives_there, lives_back, last_pair}
use Rattle.law_um.specs.UmLived.{AreGivenThrough, PdusComeInTime}
use Rattle.law_um.proofs.UmLived.{um_pairs_are_lived, um_pairs_begin, um_pairs_live_on}
use Rattle.law_um.proofs.UmLivedPlaces.{are_in_order}

-- ---- what goes up

ups_so : (bits many : ℕ) (from to : BearerEnd) (h : UmHistory) → IsUmBits bits → IsLived bits many from to h
    → AreUps (width_of bits) h
ups_so bits many from to h u s =
    let r = s.receiver in
    sym (append-nil h.up) ∙ ap (λ (l : List (List ℕ)). h.up ++ l) (sym r.idle) ∙ r.beside.ready
    ∙ ap (map (λ (sdu : JoinedSdu). sdu.octets))
    (um_accounts_are_true (width_of bits) many h.come (some_numbers bits u)).handed

pub um_ups_are_joined : UmUpsAreJoined
um_ups_are_joined bits many p there back u h =
    (ups_so bits many p.near p.far there u h.there_is, ups_so bits many p.far p.near back u h.back_is)

-- what goes up while numbers lie near

near_so : (bits many pdcp_bits : ℕ) (from to : BearerEnd) (h : UmHistory) → IsUmBits bits
    → IsLived bits many from to h → WhereNear pdcp_bits (width_of bits) h
near_so bits many pdcp_bits from to h u s near =
    let width : ℕ = width_of bits in
    let short : IsShort width (running h.come) = record { near = near; in_time = s.come.in_time } in
    let some = some_numbers bits u in
    record {
      left = loses_only width (λ number. slice_get h.written number) (running h.come) some short s.come.carry;
      counts = counts_are_read pdcp_bits width (λ number. slice_get h.written number) (running h.come) some short
          s.come.carry (are_in_order h.written (place_next h.sent) s.places);
    }

pub um_ups_are_true : UmUpsAreTrue
um_ups_are_true bits many pdcp_bits p there back u h = (
  near_so bits many pdcp_bits p.near p.far there u h.there_is,
  near_so bits many pdcp_bits p.far p.near back u h.back_is,
)

-- ---- through lives

lives_so : (bits many : ℕ) (near far : State) (ls : List Life) (steps : List Step) (there back : UmHistory)
    → IsUmBits bits → AreLived bits many (um_pair_outset near far) there back → AreGivenThrough near far ls steps
    → AreLived bits many (last_pair near far ls steps) (lives_there near far ls steps there)
    (lives_back near far ls steps back)
lives_so bits many near far [] steps there back u h g =
    um_pairs_are_lived bits many (um_pair_outset near far) steps there back u h g
lives_so bits many near far (l ∷ ls) steps there back u h g =
    let p = um_pair_outset near far in
    let q = goes l.steps p in
    let there' = over_there p l.steps there in
    let back' = over_back p l.steps back in
    lives_so bits many (next_near near far l) (next_far near far l) ls steps (behind_life q.far.bearer there')
    (behind_life q.near.bearer back') u
    (um_pairs_live_on bits many q l.keys there' back' (um_pairs_are_lived bits many p l.steps there back u h g.0)) g.1

pub pdus_come_in_time : PdusComeInTime
pdus_come_in_time bits reorder_near reorder_far many near far ls steps u h k g =
    let l = lives_so bits many near far ls steps no_history no_history u
    (um_pairs_begin bits reorder_near reorder_far many near far h k) g in
    record {
      lived = l;
      there_in_time = l.there_is.come.in_time;
      back_in_time = l.back_is.come.in_time;
    }
