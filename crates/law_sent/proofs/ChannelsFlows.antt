-- What stands at a channel where a list of flows is changed at one, and that a flow stays one of acknowledged data.
use Rattle.std.proofs.Common.{◌≡◌, ℕ, zero, suc, ◌+◌, ◌==◌, Bool, true, false, if◌then◌else◌, List, [], ◌∷◌, ◌++◌}
use Rattle.std.proofs.Common.{Option, Some, None, Result, Ok, Err, option_map, slice_index_or, slice_set, drop, refl}
use Rattle.std.proofs.Common.{ap, sym, ◌∙◌, arith}
use Rattle.std.proofs.lemmas.Bool.{eqb-true, eqb-false}
use Rattle.std.proofs.lemmas.List.{get_or-set_other}
use Rattle.l2_types.specs.declared.event.How.{How}
use Rattle.l2_types.specs.declared.event.How.TheVariants as hows
use Rattle.l2_types.specs.declared.side.Side.{Side}
use Rattle.l2_types.specs.declared.side.Side.TheVariants.{Nb, Ue}
use Rattle.rlc_pdu.specs.declared.fault.RlcRefusal.{RlcRefusal}
use Rattle.rlc_pdu.specs.Pdus.{UmdPdu, AcknowledgedPdu, Payload, Status}
use Rattle.rlc_pdu.specs.Reading.{am_at, umd_at}
use Rattle.pdcp_pdu.specs.declared.pdu.PdcpKind.TheVariants as pdcp
use Rattle.pdu_show.specs.declared.kinds.Layout.{Layout}
use Rattle.pdu_show.specs.declared.kinds.Layout.TheVariants as layouts
use Rattle.bearer_types.specs.Sides.{is_same}
use Rattle.journal_stream.specs.OctetEvents.{OctetEvent}
use Rattle.journal_given.specs.Giving.{each_from}
use Rattle.journal_sent.specs.SentPdus.{histories}
use Rattle.journal_sent.specs.SentFlows.{is_data, flow_submitted, flow_discarded, is_sdu, is_first, gives_first}
use Rattle.journal_sent.specs.SentFlows.{gives_data, flow_taken, is_written, reported_as, flow_reported, judges_umd}
use Rattle.journal_sent.specs.SentFlows.{judges_amd, judges_by, flow_judges, waiting_behind, settled_by}
use Rattle.journal_sent.specs.SentFlows.{flow_settled, with_covered}
use Rattle.journal_sent.specs.Sending.{Flows, flow_at, changed_on, changed, renewed_by}
use Rattle.journal_sent.specs.RightSent.{Flow, AllSent, Sent}
use Rattle.law_sent.specs.Channels.{flow_on, IsOfData, SentPdu, behind_one, behind_all, only_at}

-- ---- a list that is changed at a place

set_same : {A : Type 0} (f : A → A) (xs : List (Option A)) (at : ℕ)
    → slice_index_or (slice_set xs at (option_map f (slice_index_or xs at None))) at None
    ≡ option_map f (slice_index_or xs at None)
set_same f [] at = refl
set_same f (x ∷ xs) zero = refl
set_same f (x ∷ xs) (suc at) = set_same f xs at

-- what may stand there is changed

-- by changes that do the same
pub map_alike : (c d : Flow → Flow) (o : Option Flow) → ((f : Flow) → c f ≡ d f)
    → option_map c o ≡ option_map d o
map_alike c d None same = refl
map_alike c d (Some f) same = ap (λ (g : Flow). Some g) (same f)

pub map_itself : (o : Option Flow) → option_map (λ (f : Flow). f) o ≡ o
map_itself None = refl
map_itself (Some f) = refl

pub map_twice : (c d : Flow → Flow) (o : Option Flow)
    → option_map c (option_map d o) ≡ option_map (λ (f : Flow). c (d f)) o
map_twice c d None = refl
map_twice c d (Some f) = refl

pub only_not : (c : Flow → Flow) (o : Option Flow) → option_map (only_at false c) o ≡ o
only_not c None = refl
only_not c (Some f) = refl

pub only_is : (c : Flow → Flow) (o : Option Flow) → option_map (only_at true c) o ≡ option_map c o
only_is c None = refl
only_is c (Some f) = refl

-- whatever stands there
pub changed_at : (m l : ℕ) (c : Flow → Flow) (fs : Flows (List OctetEvent))
    → flow_at l (changed_on m c fs) ≡ option_map (only_at (m == l) c) (flow_at l fs)
changed_at m l c fs = by (m == l) refl
  where
    by : (b : Bool) → (m == l) ≡ b → flow_at l (changed_on m c fs) ≡ option_map (only_at b c) (flow_at l fs)
    by true e =
        ap (λ (n : ℕ). flow_at l (changed_on n c fs)) (eqb-true m l e)
        ∙ set_same c fs l ∙ sym (only_is c (flow_at l fs))
    by false e =
        get_or-set_other fs m l (option_map c (flow_at m fs)) None (λ same. eqb-false m l e (sym same))
        ∙ sym (only_not c (flow_at l fs))

-- each is changed
pub each_at : {A : Type 0} (f : ℕ → Option A → Option A) → ((lcid : ℕ) → f lcid None ≡ None) → (n at : ℕ)
    (xs : List (Option A)) → slice_index_or (each_from f n xs) at None ≡ f (n + at) (slice_index_or xs at None)
each_at f none n at [] = sym (none (n + at))
each_at f none n zero (y ∷ xs) = ap (λ (k : ℕ). f k y) (omega arith)
each_at f none n (suc at) (y ∷ xs) =
    let next : (n + 1) + at ≡ n + suc at = omega arith in
    each_at f none (n + 1) at xs ∙ ap (λ (k : ℕ). f k (slice_index_or xs at None)) next

-- ---- a flow stays one of acknowledged data

pub record IsLike (f g : Flow) : Type 0 where
  pub layout : g.layout ≡ f.layout
  pub waiting : g.waiting ≡ f.waiting

pub like_data : (f g : Flow) → IsLike f g → IsOfData f → IsOfData g
like_data f g h d = record {
  data_is = ap is_data h.layout ∙ d.data_is;
  none_wait = h.waiting ∙ d.none_wait;
}

pub like_itself : (f : Flow) → IsLike f f
like_itself f = record { layout = refl; waiting = refl }

pub only_like : (b : Bool) (c : Flow → Flow) (f : Flow) → IsLike f (c f) → IsLike f (only_at b c f)
only_like true c f h = h
only_like false c f h = like_itself f

-- SDUs, which are kept elsewhere

pub submitted_not : (octets : List ℕ) (f : Flow) → IsOfData f → flow_submitted octets f ≡ f
submitted_not octets f h =
    ap (λ (b : Bool). if b then f else record f { waiting = f.waiting ++ octets ∷ [] }) h.data_is

pub discarded_not : (f : Flow) → IsOfData f → flow_discarded f ≡ f
discarded_not f h =
    ap (λ (sdus : List (List ℕ)). record f { waiting = drop 1 sdus }) h.none_wait
    ∙ ap (λ (sdus : List (List ℕ)). record f { waiting = sdus }) (sym h.none_wait)

pub taken_given : (count : Option ℕ) (len : ℕ) (sdu : Option (List ℕ)) (f : Flow) → IsOfData f
    → flow_taken histories count len sdu f ≡ gives_data histories count sdu f
taken_given count len sdu f h =
    ap (λ (b : Bool). if b then gives_data histories count sdu f
    else if is_first count len f.waiting f then gives_first histories f.waiting f else f) h.data_is

pub given_like : (count : Option ℕ) (sdu : Option (List ℕ)) (f : Flow)
    → IsLike f (gives_data histories count sdu f)
given_like None sdu f = like_itself f
given_like (Some count) None f = like_itself f
given_like (Some count) (Some sdu) f = by (is_sdu sdu)
  where
    by : (b : Bool)
        → IsLike f (if b then record f { stream = with_covered histories f.cover count sdu f.stream } else f)
    by true = record { layout = refl; waiting = refl }
    by false = like_itself f

pub reported_like : (fms : ℕ) (bitmap : List ℕ) (f : Flow) → IsLike f (flow_reported histories fms bitmap f)
reported_like fms bitmap f = by f.layout
  where
    with_stream : (b : Bool) (stream : Sent) → IsLike f (if b then record f { stream = stream } else f)
    with_stream true stream = record { layout = refl; waiting = refl }
    with_stream false stream = like_itself f

    by : (layout : Layout) → IsLike f (reported_as histories layout fms bitmap f)
    by layouts.Tm = like_itself f
    by (layouts.Um rlc_bits kind) = like_itself f
    by (layouts.Am pdcp.Srb) = like_itself f
    by (layouts.Am (pdcp.Um bits)) = like_itself f
    by (layouts.Am (pdcp.Am bits)) = with_stream (is_written bits fms bitmap) _

umd_like : (rlc_bits : ℕ) (how : How) (read : Result UmdPdu RlcRefusal) (f : Flow)
    → IsLike f (judges_umd histories rlc_bits how read f).flow
umd_like rlc_bits hows.New (Ok pdu) f = record { layout = refl; waiting = refl }
umd_like rlc_bits hows.New (Err refused) f = like_itself f
umd_like rlc_bits hows.Re read f = like_itself f
umd_like rlc_bits hows.Status read f = like_itself f
umd_like rlc_bits hows.Tm read f = like_itself f

amd_like : (acked : ℕ → Bool) (how : How) (read : Result AcknowledgedPdu RlcRefusal) (f : Flow)
    → IsLike f (judges_amd histories acked how read f).flow
amd_like acked hows.New (Ok (Payload pdu)) f = record { layout = refl; waiting = refl }
amd_like acked hows.New (Ok (Status pdu)) f = like_itself f
amd_like acked hows.New (Err refused) f = like_itself f
amd_like acked hows.Re (Ok (Payload pdu)) f = like_itself f
amd_like acked hows.Re (Ok (Status pdu)) f = like_itself f
amd_like acked hows.Re (Err refused) f = like_itself f
amd_like acked hows.Status read f = like_itself f
amd_like acked hows.Tm read f = like_itself f

pub judged_like : (acked : ℕ → Bool) (how : How) (passed : Option (List ℕ)) (octets : List ℕ) (f : Flow)
    → IsLike f (flow_judges histories acked how passed octets f).flow
judged_like acked how passed octets f = by f.layout
  where
    by : (layout : Layout) → IsLike f (judges_by histories layout acked how passed octets f).flow
    by layouts.Tm = like_itself f
    by (layouts.Um rlc_bits kind) = umd_like rlc_bits how (umd_at rlc_bits octets) f
    by (layouts.Am kind) = amd_like acked how (am_at octets) f

like_twice : (f g h : Flow) → IsLike f g → IsLike g h → IsLike f h
like_twice f g h a b = record { layout = b.layout ∙ a.layout; waiting = b.waiting ∙ a.waiting }

pub behind_like : (acked : ℕ → Bool) (ps : List SentPdu) (f : Flow) → IsLike f (behind_all acked ps f)
behind_like acked [] f = like_itself f
behind_like acked (p ∷ ps) f =
    let g = behind_one acked p f in
    like_twice f g (behind_all acked ps g) (judged_like acked p.how p.passed p.octets f) (behind_like acked ps g)

-- a group ends

none_behind : (layout : Layout) → waiting_behind layout [] ≡ []
none_behind layouts.Tm = refl
none_behind (layouts.Um rlc_bits kind) = refl
none_behind (layouts.Am kind) = refl

pub renewed_data : (renewal : Option _) (f : Flow) → IsOfData f → IsOfData (renewed_by histories renewal f)
renewed_data None f h = h
renewed_data (Some keys) f h = record {
  data_is = h.data_is;
  none_wait = ap (waiting_behind f.layout) h.none_wait ∙ none_behind f.layout;
}

pub settled_like : (account : Option _) (f : Flow) → IsLike f (flow_settled histories account f)
settled_like account f = by f.layout account
  where
    by : (layout : Layout) (account' : Option _) → IsLike f (settled_by histories layout account' f)
    by layouts.Tm account' = like_itself f
    by (layouts.Um rlc_bits kind) account' = record { layout = refl; waiting = refl }
    by (layouts.Am kind) None = like_itself f
    by (layouts.Am kind) (Some l) = record { layout = refl; waiting = refl }

-- ---- what stands on a channel of a side

pub same_flow : (side : Side) (l : ℕ) (s t : AllSent) → t.nb ≡ s.nb → t.ue ≡ s.ue
    → flow_on side l t ≡ flow_on side l s
same_flow Nb l s t nb ue = ap (flow_at l) nb
same_flow Ue l s t nb ue = ap (flow_at l) ue

-- a channel of a side is changed
pub changed_flow : (at side : Side) (m l : ℕ) (c : Flow → Flow) (s : AllSent)
    → flow_on side l (changed at m c s)
    ≡ option_map (only_at (is_same at side) (only_at (m == l) c)) (flow_on side l s)
changed_flow Nb Nb m l c s = changed_at m l c s.nb ∙ sym (only_is (only_at (m == l) c) (flow_at l s.nb))
changed_flow Nb Ue m l c s = sym (only_not (only_at (m == l) c) (flow_at l s.ue))
changed_flow Ue Nb m l c s = sym (only_not (only_at (m == l) c) (flow_at l s.nb))
changed_flow Ue Ue m l c s = changed_at m l c s.ue ∙ sym (only_is (only_at (m == l) c) (flow_at l s.ue))
