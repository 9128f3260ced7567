-- The laws, from the first life on.
use Rattle.std.proofs.Common.{◌≡◌, ◌≤◌, ℕ, ◌^◌, List, ◌++◌, length, append-nil, refl, ap, sym, subst, ◌∙◌, arith}
use Rattle.bearer_types.specs.declared.BearerConfig.{BearerConfig}
use Rattle.bearer_types.specs.Configs.{ArePdcpBits, AreRlcBits}
use Rattle.eps_sec.specs.declared.Keys.{Keys}
use Rattle.l2_num.specs.Ascending.{AreBetween}
use Rattle.l2_types.specs.declared.Kind.{Kind}
use Rattle.l2_types.specs.declared.Kind.TheVariants as kinds
use Rattle.l2_types.specs.declared.Side.{Side}
use Rattle.l2_types.specs.declared.Side.TheVariants.{Nb, Ue}
use Rattle.law_words.specs.Lists.{IsSubsequence}
use Rattle.pdcp_pdu.specs.declared.PdcpKind.TheVariants.{Um as UmKind}
use Rattle.pdcp_pdu.specs.Kinds.{IsKind}
use Rattle.pdcp_rx.specs.State.{fresh as fresh_receiving}
use Rattle.pdcp_sec.specs.Protection.{Protection, protection_of}
use Rattle.rlc_pdu.specs.Pdus.{IsUmBits}
use Rattle.bearer_pdcp.specs.Ends.{begun, bearer_of, sends}
use Rattle.bearer.specs.Bearer.{flow_of}
use Rattle.bearer.specs.declared.flow.Flow.TheVariants.{Um}
use Rattle.bearer.specs.Unacknowledged.State.{State, fresh}
use Rattle.law_words.specs.Lists.{those}
use Rattle.law_deliver.specs.UmFlow.Flows.{Way}
use Rattle.law_deliver.specs.UmFlow.Pair.{Step}
use Rattle.law_deliver.proofs.UmFlow.Lives.{first_life_begins}
use Rattle.law_pdcp.specs.UmPair.Delivery.{IsWhatCameToPdcp}
use Rattle.law_pdcp.specs.UmPair.Flow.{Flow, run_um_pdcp, um_pdcp_outset}
use Rattle.law_pdcp.proofs.UmPair.Laws.{what_came}
use Rattle.law_pdcp.proofs.UmPair.Submitted.{delivers_some}
use Rattle.law_deliver.specs.UmDelivery.Delivery.{AreBothEnds, AreShort, all_places, IsWhatCameThroughLives, AreSome}
use Rattle.law_deliver.specs.UmDelivery.Delivery.{DeliversWhatCame, DeliversInOrder}
use Rattle.law_deliver.specs.UmDelivery.Lives.{Life, Direction, There, Back, AreLiving, ended, last, all_ups, all_taken}
use Rattle.law_deliver.specs.UmDelivery.Lives.{all_submitted}
use Rattle.law_deliver.proofs.UmDelivery.Through.{Begin, JoinsIn, Through, through}

-- ---- both ends as they are configured

first_is : (kind : Kind) (c : BearerConfig) (keys : Keys) (side : Side) (b : State) → kind ≡ kinds.Um
    → flow_of kind c keys side ≡ Um b → fresh c keys side ≡ b
first_is kind c keys side b k q =
    let is : Um (fresh c keys side) ≡ Um b = ap (λ x. flow_of x c keys side) (sym k) ∙ q in
    cc

pub first_begins : (c : BearerConfig) (keys : Keys) (side : Side)
    → Begin c.pdcp_bits c.rlc_bits c.rx.reorder (fresh c keys side)
unfolding fresh
first_begins c keys side = let h = first_life_begins c keys side in
    record { begins = h.begins; reorder_is = refl; of_data = h.of_data }

abbrev sender_of : Direction → Side
sender_of There = Nb
sender_of Back = Ue

abbrev protection_in : BearerConfig → Keys → Direction → Protection
protection_in c keys d = protection_of (UmKind c.pdcp_bits) keys (bearer_of c.channel.lcid) (sends (sender_of d))

abbrev first_flow : BearerConfig → Keys → Direction → Flow
first_flow c keys d = um_pdcp_outset c.pdcp_bits (protection_in c keys d) c.first

first_joins : (c : BearerConfig) (keys : Keys) (d : Direction)
    → JoinsIn c.pdcp_bits d (fresh c keys Nb) (fresh c keys Ue) (first_flow c keys d)
unfolding fresh begun fresh_receiving
first_joins c keys There = record {
  sender_is = refl;
  receiver_is = refl;
  kind = refl;
  stream_is = refl;
  passed_is = refl;
  earlier_is = refl;
  from_data = (first_begins c keys Nb).of_data;
  to_data = (first_begins c keys Ue).of_data;
}
first_joins c keys Back = record {
  sender_is = refl;
  receiver_is = refl;
  kind = refl;
  stream_is = refl;
  passed_is = refl;
  earlier_is = refl;
  from_data = (first_begins c keys Ue).of_data;
  to_data = (first_begins c keys Nb).of_data;
}

rlc_bits_are : (kind : Kind) (bits : ℕ) → kind ≡ kinds.Um → AreRlcBits kind bits → IsUmBits bits
rlc_bits_are kind bits k h = subst (λ (x : Kind). AreRlcBits x bits) k h

pdcp_bits_are : (kind : Kind) (bits : ℕ) → kind ≡ kinds.Um → ArePdcpBits kind bits → IsKind (UmKind bits)
pdcp_bits_are kind bits k h = subst (λ (x : Kind). ArePdcpBits x bits) k h

from_the_first : (c : BearerConfig) (keys : Keys) (nb ue : State) (ls : List Life) (list : List Step) (d : Direction)
    → AreBothEnds c keys nb ue
    → AreLiving nb ue ls list → AreShort c d nb ue ls list
    → Through c (ended d nb ue ls) (last d nb ue ls list) (first_flow c keys d)
from_the_first c keys nb ue ls list d h living short =
    let near : fresh c keys Nb ≡ nb = first_is c.kind c keys Nb nb h.kind h.nb_is in
    let far : fresh c keys Ue ≡ ue = first_is c.kind c keys Ue ue h.kind h.ue_is in
    through c d ls nb ue list (first_flow c keys d) (rlc_bits_are c.kind c.rlc_bits h.kind h.config.rlc_bits)
    (subst (Begin c.pdcp_bits c.rlc_bits c.rx.reorder) near (first_begins c keys Nb))
    (subst (Begin c.pdcp_bits c.rlc_bits c.rx.reorder) far (first_begins c keys Ue))
    (subst (λ (x : State). JoinsIn c.pdcp_bits d nb x (first_flow c keys d)) far
    (subst (λ (x : State). JoinsIn c.pdcp_bits d x (fresh c keys Ue) (first_flow c keys d)) near
    (first_joins c keys d)))
    living short

-- ---- what comes of PDCP's laws

module _ (c : BearerConfig) (keys : Keys) (d : Direction) (vs : List Way) (w : Way)
    (kind : IsKind (UmKind c.pdcp_bits)) (first : c.first ≤ 2 ^ 32) (t : Through c vs w (first_flow c keys d)) where
  ups_are : t.after.up ++ t.after.receiver.ready ≡ all_ups vs w
  ups_are = ap (λ (l : List (List ℕ)). t.after.up ++ l) t.idle ∙ append-nil t.after.up ∙ t.goes_on.ups_are

  came : IsWhatCameToPdcp t.after
  came =
      subst IsWhatCameToPdcp t.goes_on.left
      (what_came c.pdcp_bits (protection_in c keys d) c.first t.goes_on.events kind first t.goes_on.may
      t.goes_on.short)

  what_went_up : IsWhatCameThroughLives c vs w
  what_went_up = record {
    order = subst (λ (l : List ℕ). AreBetween 0 l (length (all_taken vs w))) t.goes_on.handed_are
        (subst (λ (l : List (List ℕ)). AreBetween 0 t.after.handed (length l)) t.goes_on.sdus_are came.order);
    ups_are = sym ups_are ∙ came.delivered ∙ ap (λ (l : List ℕ). those l t.after.sdus) t.goes_on.handed_are
        ∙ ap (those (all_places c 0 vs w)) t.goes_on.sdus_are;
  }

  some_went_up : AreSome vs w
  some_went_up =
      let some = delivers_some c.pdcp_bits (protection_in c keys d) c.first t.goes_on.events kind first t.goes_on.may
      t.goes_on.short in
      let higher : (run_um_pdcp t.goes_on.events (first_flow c keys d)).up
      ++ (run_um_pdcp t.goes_on.events (first_flow c keys d)).receiver.ready ≡ all_ups vs w =
      ap (λ (f : Flow). f.up ++ f.receiver.ready) t.goes_on.left ∙ ups_are in
      let sdus : (run_um_pdcp t.goes_on.events (first_flow c keys d)).sdus ≡ all_taken vs w =
      ap (λ (f : Flow). f.sdus) t.goes_on.left ∙ t.goes_on.sdus_are in
      record {
        taken =
            subst (λ (l : List (List ℕ)). IsSubsequence l (all_taken vs w)) higher
            (subst
            (λ (l : List (List ℕ)). IsSubsequence
            ((run_um_pdcp t.goes_on.events (first_flow c keys d)).up
            ++ (run_um_pdcp t.goes_on.events (first_flow c keys d)).receiver.ready) l) sdus some.taken);
        submitted =
            subst (λ (l : List (List ℕ)). IsSubsequence l (all_submitted vs w)) higher
            (subst
            (λ (l : List (List ℕ)). IsSubsequence
            ((run_um_pdcp t.goes_on.events (first_flow c keys d)).up
            ++ (run_um_pdcp t.goes_on.events (first_flow c keys d)).receiver.ready) l) t.goes_on.submitted_is
            some.submitted);
      }

-- ---- the laws

pub delivers_what_came : DeliversWhatCame
delivers_what_came c keys nb ue ls list d h living short =
    what_went_up c keys d (ended d nb ue ls) (last d nb ue ls list)
    (pdcp_bits_are c.kind c.pdcp_bits h.kind h.config.pdcp_bits) (omega (arith, h.first))
    (from_the_first c keys nb ue ls list d h living short)

pub delivers_in_order : DeliversInOrder
delivers_in_order c keys nb ue ls list d h living short =
    some_went_up c keys d (ended d nb ue ls) (last d nb ue ls list)
    (pdcp_bits_are c.kind c.pdcp_bits h.kind h.config.pdcp_bits) (omega (arith, h.first))
    (from_the_first c keys nb ue ls list d h living short)
