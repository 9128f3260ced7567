-- The PDUs of a new block go on each channel as those of the channel alone, and are right where these are.
use Rattle.std.proofs.Common.{◌≡◌, ℕ, ◌==◌, Bool, true, false, if◌then◌else◌, List, [], ◌∷◌, ◌++◌, Option, Some, None}
use Rattle.std.proofs.Common.{option_map, slice_set, refl, ap, sym, ◌∙◌, subst, IfSome}
use Rattle.std.proofs.lemmas.Bool.{eq-eqb, eqb-true}
use Rattle.std.proofs.lemmas.List.{set-get_or}
use Rattle.l2_types.specs.declared.side.Side.{Side}
use Rattle.l2_types.specs.declared.side.Side.TheVariants.{Nb, Ue}
use Rattle.mac_pdu.specs.declared.builder.Sdu.{Sdu}
use Rattle.mac_pdu.specs.declared.item.Direction.{Direction}
use Rattle.mac_pdu.specs.declared.item.Direction.TheVariants as directions
use Rattle.mac_pdu.specs.Reading.{reading}
use Rattle.bearer_types.specs.Sides.{is_same, sender_of}
use Rattle.journal_stream.specs.OctetEvents.{OctetEvent}
use Rattle.journal_flows.specs.Gathering.{sdus_read}
use Rattle.journal_sent.specs.declared.checker.NamedPdu.{NamedPdu}
use Rattle.journal_sent.specs.SentPdus.{histories}
use Rattle.journal_sent.specs.Sending.{Flows, flow_at, changed_on, flows_of, named_of, with_named, acked_at}
use Rattle.journal_sent.specs.Sending.{pdu_told_by, pdu_told, pdus_told, block_told}
use Rattle.journal_sent.specs.RightSent.{Flow, AllSent, Given, PduTest, PduIsSent, PduIsShaped, behind_pdu, EachPdu}
use Rattle.law_sent.specs.Channels.{flow_on, SentPdu, pdus_on, behind_one, behind_all, AreRight, sent_on, only_at}
use Rattle.law_sent.specs.Flows.{IsRightOnAll, BlocksAreRightOnAll}
use Rattle.law_sent.proofs.ChannelsFlows.{map_alike, map_itself, map_twice, only_not, only_is, changed_at}

-- ---- one PDU

abbrev pdu_of : NamedPdu → Sdu → SentPdu
pdu_of n d = record { how = n.how; passed = n.sdu; octets = d.octets }

abbrev first_on : ℕ → NamedPdu → Sdu → List SentPdu
first_on l n d = if d.lcid == l then pdu_of n d ∷ [] else []

-- it changes the flow of its channel
pdu_flows : (side : Side) (j : Given) (n : NamedPdu) (d : Sdu) (s : AllSent)
    → flows_of side (pdu_told histories side j n d s)
    ≡ changed_on d.lcid (behind_pdu (acked_at side d.lcid j) n d) (flows_of side s)
pdu_flows side j n d s = by side (flow_at d.lcid (flows_of side s)) refl
  where
    not_there : (c : Flow → Flow) (fs : Flows (List OctetEvent)) → flow_at d.lcid fs ≡ None
        → fs ≡ changed_on d.lcid c fs
    not_there c fs e =
        sym (ap (λ (o : Option Flow). slice_set fs d.lcid (option_map c o)) e
        ∙ ap (λ (o : Option Flow). slice_set fs d.lcid o) (sym e) ∙ set-get_or fs d.lcid None)

    there : (c : Flow → Flow) (fs : Flows (List OctetEvent)) (f : Flow) → flow_at d.lcid fs ≡ Some f
        → slice_set fs d.lcid (Some (c f)) ≡ changed_on d.lcid c fs
    there c fs f e = ap (λ (o : Option Flow). slice_set fs d.lcid (option_map c o)) (sym e)

    by : (by' : Side) (o : Option Flow) → flow_at d.lcid (flows_of by' s) ≡ o
        → flows_of by' (pdu_told_by histories by' (acked_at by' d.lcid j) n d o s)
        ≡ changed_on d.lcid (behind_pdu (acked_at by' d.lcid j) n d) (flows_of by' s)
    by Nb None e = not_there (behind_pdu (acked_at Nb d.lcid j) n d) s.nb e
    by Ue None e = not_there (behind_pdu (acked_at Ue d.lcid j) n d) s.ue e
    by Nb (Some f) e = there (behind_pdu (acked_at Nb d.lcid j) n d) s.nb f e
    by Ue (Some f) e = there (behind_pdu (acked_at Ue d.lcid j) n d) s.ue f e

-- on its own channel
only_own : (acked : ℕ → ℕ → Bool) (l : ℕ) (n : NamedPdu) (d : Sdu) (f : Flow)
    → only_at (d.lcid == l) (behind_pdu (acked d.lcid) n d) f
    ≡ only_at (d.lcid == l) (behind_one (acked l) (pdu_of n d)) f
only_own acked l n d f = by (d.lcid == l) refl
  where
    by : (b : Bool) → (d.lcid == l) ≡ b
        → only_at b (behind_pdu (acked d.lcid) n d) f ≡ only_at b (behind_one (acked l) (pdu_of n d)) f
    by true e = ap (λ (m : ℕ). behind_pdu (acked m) n d f) (eqb-true d.lcid l e)
    by false e = refl

pdu_flow : (side : Side) (l : ℕ) (j : Given) (n : NamedPdu) (d : Sdu) (s : AllSent)
    → flow_on side l (pdu_told histories side j n d s)
    ≡ option_map (only_at (d.lcid == l) (behind_one (acked_at side l j) (pdu_of n d))) (flow_on side l s)
pdu_flow side l j n d s =
    ap (flow_at l) (pdu_flows side j n d s)
    ∙ changed_at d.lcid l (behind_pdu (acked_at side d.lcid j) n d) (flows_of side s)
    ∙ map_alike (only_at (d.lcid == l) (behind_pdu (acked_at side d.lcid j) n d))
    (only_at (d.lcid == l) (behind_one (acked_at side l j) (pdu_of n d))) (flow_on side l s)
    (only_own (λ (m : ℕ). acked_at side m j) l n d)

-- ---- all of a block

behind_first : (acked : ℕ → Bool) (l : ℕ) (n : NamedPdu) (d : Sdu) (ps : List SentPdu) (f : Flow)
    → behind_all acked ps (only_at (d.lcid == l) (behind_one acked (pdu_of n d)) f)
    ≡ behind_all acked (first_on l n d ++ ps) f
behind_first acked l n d ps f = by (d.lcid == l)
  where
    by : (b : Bool) → behind_all acked ps (only_at b (behind_one acked (pdu_of n d)) f)
        ≡ behind_all acked ((if b then pdu_of n d ∷ [] else []) ++ ps) f
    by true = refl
    by false = refl

pdus_flow : (side : Side) (l : ℕ) (j : Given) (named : List NamedPdu) (sdus : List Sdu) (s : AllSent)
    → flow_on side l (pdus_told histories side j named sdus s)
    ≡ option_map (behind_all (acked_at side l j) (pdus_on l named sdus)) (flow_on side l s)
pdus_flow side l j [] sdus s = sym (map_itself (flow_on side l s))
pdus_flow side l j (n ∷ named) [] s = sym (map_itself (flow_on side l s))
pdus_flow side l j (n ∷ named) (d ∷ sdus) s =
    let acked = acked_at side l j in
    let one = only_at (d.lcid == l) (behind_one acked (pdu_of n d)) in
    let rest = pdus_on l named sdus in
    pdus_flow side l j named sdus (pdu_told histories side j n d s)
    ∙ ap (option_map (behind_all acked rest)) (pdu_flow side l j n d s)
    ∙ map_twice (behind_all acked rest) one (flow_on side l s)
    ∙ map_alike (λ (f : Flow). behind_all acked rest (one f)) (behind_all acked (first_on l n d ++ rest))
    (flow_on side l s) (behind_first acked l n d rest)

-- the flows of the other side are left
pdu_leaves : (at side : Side) (acked : ℕ → Bool) (n : NamedPdu) (d : Sdu) (o : Option Flow) (s : AllSent)
    → is_same at side ≡ false → flows_of side (pdu_told_by histories at acked n d o s) ≡ flows_of side s
pdu_leaves at side acked n d None s other = refl
pdu_leaves Nb Ue acked n d (Some f) s other = refl
pdu_leaves Ue Nb acked n d (Some f) s other = refl
pdu_leaves Nb Nb acked n d (Some f) s other = absurd cc
pdu_leaves Ue Ue acked n d (Some f) s other = absurd cc

pdus_leave : (at side : Side) (j : Given) (named : List NamedPdu) (sdus : List Sdu) (s : AllSent)
    → is_same at side ≡ false → flows_of side (pdus_told histories at j named sdus s) ≡ flows_of side s
pdus_leave at side j [] sdus s other = refl
pdus_leave at side j (n ∷ named) [] s other = refl
pdus_leave at side j (n ∷ named) (d ∷ sdus) s other =
    pdus_leave at side j named sdus (pdu_told histories at j n d s) other
    ∙ pdu_leaves at side (acked_at at d.lcid j) n d (flow_at d.lcid (flows_of at s)) s other

pub block_flow : (side : Side) (direction : Direction) (l : ℕ) (octets : List ℕ) (j : Given) (s : AllSent)
    → flow_on side l (block_told histories direction octets j s)
    ≡ option_map (only_at (is_same (sender_of direction) side)
    (behind_all (acked_at side l j) (sent_on l direction octets s))) (flow_on side l s)
block_flow Nb directions.Down l octets j s =
    pdus_flow Nb l j s.named_nb (sdus_read (reading directions.Down octets)) (with_named Nb [] s)
    ∙ sym (only_is (behind_all (acked_at Nb l j) (sent_on l directions.Down octets s)) (flow_on Nb l s))
block_flow Ue directions.Up l octets j s =
    pdus_flow Ue l j s.named_ue (sdus_read (reading directions.Up octets)) (with_named Ue [] s)
    ∙ sym (only_is (behind_all (acked_at Ue l j) (sent_on l directions.Up octets s)) (flow_on Ue l s))
block_flow Ue directions.Down l octets j s =
    ap (flow_at l)
    (pdus_leave Nb Ue j s.named_nb (sdus_read (reading directions.Down octets)) (with_named Nb [] s) refl)
    ∙ sym (only_not (behind_all (acked_at Ue l j) (sent_on l directions.Down octets s)) (flow_on Ue l s))
block_flow Nb directions.Up l octets j s =
    ap (flow_at l)
    (pdus_leave Ue Nb j s.named_ue (sdus_read (reading directions.Up octets)) (with_named Ue [] s) refl)
    ∙ sym (only_not (behind_all (acked_at Nb l j) (sent_on l directions.Up octets s)) (flow_on Nb l s))

-- ---- a block is right where it is so on each channel

first_right : (right : PduTest) (acked : ℕ → Bool) (n : NamedPdu) (d : Sdu) (ps : List SentPdu) (f : Flow)
    → AreRight right acked (first_on d.lcid n d ++ ps) f → right acked n.how n.sdu d.octets f
first_right right acked n d ps f h =
    (subst (λ (b : Bool). AreRight right acked ((if b then pdu_of n d ∷ [] else []) ++ ps) f)
    (eq-eqb d.lcid d.lcid refl) h).0

rest_right : (right : PduTest) (acked : ℕ → Bool) (l : ℕ) (n : NamedPdu) (d : Sdu) (ps : List SentPdu) (f : Flow)
    → AreRight right acked (first_on l n d ++ ps) f
    → AreRight right acked ps (only_at (d.lcid == l) (behind_one acked (pdu_of n d)) f)
rest_right right acked l n d ps f h = by (d.lcid == l) h
  where
    by : (b : Bool) → AreRight right acked ((if b then pdu_of n d ∷ [] else []) ++ ps) f
        → AreRight right acked ps (only_at b (behind_one acked (pdu_of n d)) f)
    by true k = k.1
    by false k = k

-- a flow that stands behind a PDU stood before it
stood : (c : Flow → Flow) (o : Option Flow) (g : Flow) → option_map c o ≡ Some g → (f : Flow) × (o ≡ Some f) × (c f ≡ g)
stood c None g e = absurd cc
stood c (Some f) g e = (f, refl, cc)

each_right : (right : PduTest) (acked : ℕ → ℕ → Bool) (named : List NamedPdu) (sdus : List Sdu)
    (fs : Flows (List OctetEvent))
    → ((l : ℕ) (f : Flow) → flow_at l fs ≡ Some f → AreRight right (acked l) (pdus_on l named sdus) f)
    → EachPdu right acked named sdus fs
each_right right acked [] sdus fs all = tt
each_right right acked (n ∷ named) [] fs all = tt
each_right right acked (n ∷ named) (d ∷ sdus) fs all = (
  first (flow_at d.lcid fs) refl,
  each_right right acked named sdus (changed_on d.lcid (behind_pdu (acked d.lcid) n d) fs) rest,
)
  where
    first : (o : Option Flow) → flow_at d.lcid fs ≡ o → IfSome o (right (acked d.lcid) n.how n.sdu d.octets)
    first None e = tt
    first (Some f) e = first_right right (acked d.lcid) n d (pdus_on d.lcid named sdus) f (all d.lcid f e)

    rest : (l : ℕ) (g : Flow) → flow_at l (changed_on d.lcid (behind_pdu (acked d.lcid) n d) fs) ≡ Some g
        → AreRight right (acked l) (pdus_on l named sdus) g
    rest l g is =
        let before = stood (only_at (d.lcid == l) (behind_pdu (acked d.lcid) n d)) (flow_at l fs) g
        (sym (changed_at d.lcid l (behind_pdu (acked d.lcid) n d) fs) ∙ is) in
        let f = before.0 in
        subst (AreRight right (acked l) (pdus_on l named sdus)) (sym (only_own acked l n d f) ∙ before.2)
        (rest_right right (acked l) l n d (pdus_on l named sdus) f (all l f before.1))

-- by any test of a PDU
pub right_on_all : (right : PduTest) → IsRightOnAll right
right_on_all right direction octets j s all =
    let from = sender_of direction in
    each_right right (λ (lcid : ℕ). acked_at from lcid j) (named_of from s) (sdus_read (reading direction octets))
    (flows_of from s) all

pub blocks_are_right_on_all : BlocksAreRightOnAll
blocks_are_right_on_all = (right_on_all PduIsSent, right_on_all PduIsShaped)
