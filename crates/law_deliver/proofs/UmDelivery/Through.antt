-- Lives one behind the other, as events of PDCP's flow.
use Rattle.std.proofs.Common.{◌≡◌, ℕ, ◌+◌, List, [], ◌∷◌, ◌++◌, map, length, length-append, append-nil, refl, ap, sym}
use Rattle.std.proofs.Common.{subst, ◌∙◌}
use Rattle.bearer_types.specs.declared.BearerConfig.{BearerConfig}
use Rattle.eps_sec.specs.declared.Keys.{Keys}
use Rattle.pdcp_rx.specs.State.{State as Receiving}
use Rattle.rlc_pdu.specs.Pdus.{IsUmBits}
use Rattle.bearer.specs.declared.flow.Flow.TheVariants.{Um}
use Rattle.bearer.specs.Unacknowledged.State.{State}
use Rattle.bearer.specs.Unacknowledged.Lives.{stopped, restarted}
use Rattle.law_bearer.specs.AnyBearer.Calls.{Call}
use Rattle.law_deliver.specs.UmFlow.Calls.{near_calls, far_calls}
use Rattle.law_deliver.specs.UmFlow.Flows.{Way, there, back, GoesOn}
use Rattle.law_deliver.specs.UmFlow.Handing.{IsOfData, all_called}
use Rattle.law_deliver.specs.UmFlow.Lives.{BeginsLife}
use Rattle.law_deliver.specs.UmFlow.Pair.{Step, called, goes, um_pair_outset, AreGiven, AreShortThere, AreShortBack}
use Rattle.law_deliver.proofs.UmFlow.Calls.{all_are_called, ends_are_their_calls}
use Rattle.law_deliver.proofs.UmFlow.Flows.{hands_up_what_came}
use Rattle.law_deliver.proofs.UmFlow.Later.{more_comes_later}
use Rattle.law_deliver.proofs.UmFlow.Lives.{next_life_begins}
use Rattle.law_deliver.proofs.UmFlow.Sending.{stays_set}
use Rattle.law_pdcp.specs.UmPair.Flow.{Flow, steps}
use Rattle.law_deliver.specs.UmDelivery.Delivery.{AreShort, places_to_end, all_places}
use Rattle.law_deliver.specs.UmDelivery.Lives.{Life, Direction, There, Back, way, AreShortIn, IsLiving, AreLiving}
use Rattle.law_deliver.specs.UmDelivery.Lives.{AreAccepted, next_near, next_far, ended, last, ups_to_end, taken}
use Rattle.law_deliver.specs.UmDelivery.Lives.{submitted, all_ups, all_taken, all_submitted}
use Rattle.law_deliver.proofs.UmDelivery.Ending.{ended_flow, joins_next, goes_next}
use Rattle.law_deliver.proofs.UmDelivery.Living.{Goes, goes_then, Joins, IsWay, handed_up, receiver_heard, to_stays}
use Rattle.law_deliver.proofs.UmDelivery.Living.{in_life}

-- ---- both ends as a life begins

pub record Begin (pdcp_bits bits reorder : ℕ) (b : State) : Type 0 where
  pub begins : BeginsLife bits reorder b
  pub reorder_is : b.reorder ≡ reorder
  pub of_data : IsOfData pdcp_bits b

keeps_reorder : (b : State) (cs : List Call) → (all_called b cs).reorder ≡ b.reorder
keeps_reorder b [] = refl
keeps_reorder b (c ∷ cs) = keeps_reorder (called b c) cs ∙ (stays_set b c).reorder_is

next_reorder : (b : State) (keys : Keys) → (restarted (stopped b) keys).reorder ≡ b.reorder
unfolding restarted stopped
next_reorder b keys = refl

pub begins_next : (pdcp_bits bits reorder : ℕ) (b d : State) (cs : List Call) (keys : Keys) → all_called b cs ≡ d
    → Begin pdcp_bits bits reorder b → Begin pdcp_bits bits reorder (restarted (stopped d) keys)
begins_next pdcp_bits bits reorder b d cs keys q h =
    let next : State = restarted (stopped (all_called b cs)) keys in
    let again = next_life_begins pdcp_bits b cs keys h.of_data in
    subst (λ (x : State). Begin pdcp_bits bits reorder (restarted (stopped x) keys)) q
    (record {
      begins = subst (λ (n : ℕ). BeginsLife n reorder next) h.begins.bits_are
          (subst (λ (n : ℕ). BeginsLife b.bits n next) h.reorder_is again.begins);
      reorder_is = next_reorder (all_called b cs) keys ∙ keeps_reorder b cs ∙ h.reorder_is;
      of_data = again.of_data;
    })

-- what their calls come to
same_bearer : (b d : State) → Um b ≡ Um d → b ≡ d
same_bearer b d q = cc

near_end : (near far : State) (steps : List Step)
    → all_called near (near_calls (um_pair_outset near far) steps) ≡ (goes steps (um_pair_outset near far)).near.bearer
near_end near far steps =
    same_bearer _ _ (sym (all_are_called near (near_calls (um_pair_outset near far) steps))
    ∙ (ends_are_their_calls near far steps).near_is)

far_end : (near far : State) (steps : List Step)
    → all_called far (far_calls (um_pair_outset near far) steps) ≡ (goes steps (um_pair_outset near far)).far.bearer
far_end near far steps =
    same_bearer _ _ (sym (all_are_called far (far_calls (um_pair_outset near far) steps))
    ∙ (ends_are_their_calls near far steps).far_is)

-- ---- a life of a direction

module _ (bits reorder : ℕ) (near far : State) (list : List Step) (u : IsUmBits bits)
    (h : BeginsLife bits reorder near) (k : BeginsLife bits reorder far)
    (g : AreGiven (um_pair_outset near far) list) where
  again : AreGiven (um_pair_outset near far) (list ++ [])
  again = subst (AreGiven (um_pair_outset near far)) (sym (append-nil list)) g

  way_there : AreShortThere (um_pair_outset near far) list → IsWay bits reorder (there near far list)
  way_there short = record {
    from_is = near_end near far list;
    to_is = far_end near far list;
    came = (hands_up_what_came bits reorder reorder near far list u h k g).0 short;
    rest = subst (λ (l : List Step). GoesOn bits reorder (there near far list) (there near far l)) (append-nil list)
        ((more_comes_later bits reorder reorder near far list [] u h k again).0
        (subst (AreShortThere (um_pair_outset near far)) (sym (append-nil list)) short));
  }

  way_back : AreShortBack (um_pair_outset near far) list → IsWay bits reorder (back near far list)
  way_back short = record {
    from_is = far_end near far list;
    to_is = near_end near far list;
    came = (hands_up_what_came bits reorder reorder near far list u h k g).1 short;
    rest = subst (λ (l : List Step). GoesOn bits reorder (back near far list) (back near far l)) (append-nil list)
        ((more_comes_later bits reorder reorder near far list [] u h k again).1
        (subst (AreShortBack (um_pair_outset near far)) (sym (append-nil list)) short));
  }

is_way : (bits reorder : ℕ) (d : Direction) (near far : State) (list : List Step) → IsUmBits bits
    → BeginsLife bits reorder near → BeginsLife bits reorder far → AreGiven (um_pair_outset near far) list
    → AreShortIn d (um_pair_outset near far) list → IsWay bits reorder (way d near far list)
is_way bits reorder There near far list u h k g short = way_there bits reorder near far list u h k g short
is_way bits reorder Back near far list u h k g short = way_back bits reorder near far list u h k g short

abbrev pub JoinsIn : ℕ → Direction → State → State → Flow → Type 0
JoinsIn bits There near far f = Joins bits near far f
JoinsIn bits Back near far f = Joins bits far near f

joins_way : (bits : ℕ) (d : Direction) (near far : State) (list : List Step) (f : Flow) → JoinsIn bits d near far f
    → Joins bits (way d near far list).from (way d near far list).to f
joins_way bits There near far list f j = j
joins_way bits Back near far list f j = j

joins_life : (bits : ℕ) (d : Direction) (near far : State) (l : Life) (f : Flow)
    → Joins bits (restarted (stopped (way d near far l.steps).from_end.bearer) l.keys)
    (restarted (stopped (way d near far l.steps).to_end.bearer) l.keys) f
    → JoinsIn bits d (next_near near far l) (next_far near far l) f
joins_life bits There near far l f j = j
joins_life bits Back near far l f j = j

accepts : (d : Direction) (near far : State) (list : List Step) → IsLiving near far list
    → AreAccepted (way d near far list).from (way d near far list).from_calls
accepts There near far list h = h.near_accepts
accepts Back near far list h = h.far_accepts

-- ---- through lives

pub record Through (c : BearerConfig) (vs : List Way) (w : Way) (f : Flow) : Type 0 where
  pub after : Flow
  pub goes_on : Goes f after (all_taken vs w) (all_ups vs w) (all_places c f.earlier vs w) (all_submitted vs w)
  pub idle : after.receiver.ready ≡ []

pub through : (c : BearerConfig) (d : Direction) (ls : List Life) (near far : State) (list : List Step) (f : Flow)
    → IsUmBits c.rlc_bits
    → Begin c.pdcp_bits c.rlc_bits c.rx.reorder near → Begin c.pdcp_bits c.rlc_bits c.rx.reorder far
    → JoinsIn c.pdcp_bits d near far f
    → AreLiving near far ls list → AreShort c d near far ls list
    → Through c (ended d near far ls) (last d near far ls list) f
through c d [] near far list f u a b j g short =
    let w : Way = way d near far list in
    let jw = joins_way c.pdcp_bits d near far list f j in
    let is = is_way c.rlc_bits c.rx.reorder d near far list u a.begins b.begins g.given short.0 in
    let ok = accepts d near far list g in
    record {
      after = handed_up c.pdcp_bits c.rlc_bits c.rx.reorder w f jw is ok;
      goes_on = in_life c.pdcp_bits c.rlc_bits c.rx.reorder w f jw is ok short.1;
      idle =
          ap (λ (r : Receiving). r.ready) (receiver_heard c.pdcp_bits c.rlc_bits c.rx.reorder w f jw is ok)
          ∙ (to_stays c.pdcp_bits c.rlc_bits c.rx.reorder w f jw is ok).idle;
    }
through c d (l ∷ ls) near far list f u a b j g short =
    let v : Way = way d near far l.steps in
    let jv = joins_way c.pdcp_bits d near far l.steps f j in
    let is = is_way c.rlc_bits c.rx.reorder d near far l.steps u a.begins b.begins g.0.given short.0.0 in
    let ok = accepts d near far l.steps g.0 in
    let h : Flow = ended_flow c.pdcp_bits c.rlc_bits c.rx.reorder v f jv is ok l.keys in
    let m = goes_next c.pdcp_bits c.rlc_bits c.rx.reorder v f jv is ok l.keys short.0.1 in
    let near' : State = next_near near far l in
    let far' : State = next_far near far l in
    let t = through c d ls near' far' list h u
    (begins_next c.pdcp_bits c.rlc_bits c.rx.reorder near (goes l.steps (um_pair_outset near far)).near.bearer
    (near_calls (um_pair_outset near far) l.steps) l.keys (near_end near far l.steps) a)
    (begins_next c.pdcp_bits c.rlc_bits c.rx.reorder far (goes l.steps (um_pair_outset near far)).far.bearer
    (far_calls (um_pair_outset near far) l.steps) l.keys (far_end near far l.steps) b)
    (joins_life c.pdcp_bits d near far l h (joins_next c.pdcp_bits c.rlc_bits c.rx.reorder v f jv is ok l.keys)) g.1
    short.1 in
    let vs : List Way = ended d near' far' ls in
    let w : Way = last d near' far' ls list in
    let before : h.earlier ≡ f.earlier + length (taken v) =
    length-append f.sdus (taken v) ∙ ap (λ (n : ℕ). n + length (taken v)) (sym jv.earlier_is) in
    let here : List ℕ = map (λ place. f.earlier + place) (places_to_end c v) in
    let rest : Goes h t.after (all_taken vs w) (all_ups vs w) (all_places c (f.earlier + length (taken v)) vs w)
    (all_submitted vs w) =
    subst (λ (n : ℕ). Goes h t.after (all_taken vs w) (all_ups vs w) (all_places c n vs w) (all_submitted vs w))
    before t.goes_on in
    record {
      after = t.after;
      goes_on = goes_then f h t.after (taken v) (all_taken vs w) (ups_to_end v) (all_ups vs w) here
          (all_places c (f.earlier + length (taken v)) vs w) (submitted v) (all_submitted vs w) m rest;
      idle = t.idle;
    }
