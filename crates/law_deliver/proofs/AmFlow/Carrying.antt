-- What the blocks under way carry of a channel keeps its numbers, and with them is under way in the flows.
use Rattle.std.proofs.Common.{◌≡◌, ℕ, zero, suc, List, [], ◌∷◌, ◌++◌, map, refl, ap, sym, subst, ◌∙◌}
use Rattle.std.specs.List.{AllByRecursion}
use Rattle.bearer.specs.Acknowledged.State.{State}
use Rattle.bearer_types.specs.Sides.{sent_by}
use Rattle.l2_node.specs.End.{End}
use Rattle.l2_types.specs.declared.side.Side.{Side}
use Rattle.l2_types.specs.declared.side.Side.TheVariants.{Nb, Ue}
use Rattle.mac_pdu.specs.declared.item.Direction.{Direction}
use Rattle.law_rlc.specs.AmPair.Flow.{Copy, Report, Flow, goes as flow_goes, am_rlc_outset}
use Rattle.law_bearer.proofs.AnyBearer.SenderCalls.{all_then}
use Rattle.law_deliver.specs.AmFlow.Air.{Block, Step, Station, goes, outset, AreGiven, Begins}
use Rattle.law_deliver.specs.AmFlow.Carrying.{CarriedPdu, Numbered, Reported, pdu_octets, carried_behind, carries_none}
use Rattle.law_deliver.specs.AmFlow.Carrying.{IsIn, IsUnderWayAs, AllCarryAs, AreCarried}
use Rattle.law_deliver.specs.AmFlow.Flows.{IsFlow}
use Rattle.law_deliver.specs.AmFlow.Pair.{BearerEnd}
use Rattle.law_deliver.specs.AmFlow.UnderWay.{IsUnderWay, AsData, AsStatus, CarriesFlows}
use Rattle.law_deliver.proofs.AmFlow.Air.{both_match}
use Rattle.law_deliver.proofs.AmFlow.Flows.{bearers_are_flows}
use Rattle.law_deliver.proofs.AmFlow.Links.{on_ends}
use Rattle.law_deliver.proofs.AmFlow.Loads.{Load, all_copies, all_reports, blocks_in, as_written, all_pdus}
use Rattle.law_deliver.proofs.AmFlow.Loads.{IsLoad, HasAge, each}
use Rattle.law_deliver.proofs.AmFlow.Runs.{octets_of, texts_of}
use Rattle.law_deliver.proofs.AmFlow.Stations.{MatchesWith}

-- ---- each element of a list stands at a place of it

all_in : {A : Type 0} (xs : List A) → AllByRecursion (IsIn xs) xs
all_in [] = tt
all_in (x ∷ xs) = (
  (zero, refl),
  each (IsIn xs) (IsIn (x ∷ xs)) (λ y h. (suc h.0, h.1)) xs (all_in xs),
)

pub front : {A : Type 0} (P : A → Type 0) (xs ys : List A) → AllByRecursion P (xs ++ ys) → AllByRecursion P xs
front P [] ys h = tt
front P (x ∷ xs) ys h = (h.0, front P xs ys h.1)

pub rest : {A : Type 0} (P : A → Type 0) (xs ys : List A) → AllByRecursion P (xs ++ ys) → AllByRecursion P ys
rest P [] ys h = h
rest P (x ∷ xs) ys h = rest P xs ys h.1

-- ---- the octets of what is carried

pub data_octets : (cs : List Copy) → octets_of cs ≡ map pdu_octets (map (λ (c : Copy). Numbered c) cs)
data_octets [] = refl
data_octets (c ∷ cs) = ap (λ (l : List (List ℕ)). c.octets ∷ l) (data_octets cs)

pdus_octets : (rs : List Report) (cs : List Copy)
    → texts_of rs ++ octets_of cs ≡ map pdu_octets (map as_written rs ++ map (λ (c : Copy). Numbered c) cs)
pdus_octets [] cs = data_octets cs
pdus_octets (r ∷ rs) cs = ap (λ (l : List (List ℕ)). r.octets ∷ l) (pdus_octets rs cs)

-- ---- the blocks of an end

module _ (l : ℕ) (d : Direction) (out back : Flow) where
  data_under_way : (age : ℕ) (cs : List Copy) → AllByRecursion (IsIn out.copies) cs
      → AllByRecursion (IsUnderWayAs out back age) (map (λ (c : Copy). Numbered c) cs)
  data_under_way age [] h = tt
  data_under_way age (c ∷ cs) h = (h.0, data_under_way age cs h.1)

  reports_under_way : (age : ℕ) (rs : List Report) → AllByRecursion (IsIn back.reports) rs
      → AllByRecursion (HasAge age) rs → AllByRecursion (IsUnderWayAs out back age) (map as_written rs)
  reports_under_way age [] h q = tt
  reports_under_way age (r ∷ rs) h q = (
    subst (λ (n : ℕ). IsIn back.reports (record r { age = n })) q.0 h.0,
    reports_under_way age rs h.1 q.1,
  )

  loads_carry : (s : Station) (xs : List Load) → AllByRecursion (IsLoad l d s.end.sender s.end.numbers) xs
      → AllByRecursion (IsIn out.copies) (all_copies xs) → AllByRecursion (IsIn back.reports) (all_reports xs)
      → AllCarryAs l d out back (blocks_in xs) (all_pdus xs)
  loads_carry s [] h cs rs = tt
  loads_carry s (x ∷ xs) h cs rs = (
    record {
      carries = h.0.carries ∙ pdus_octets x.reports x.copies;
      under_way =
          all_then (IsUnderWayAs out back x.block.age) (map as_written x.reports)
          (map (λ (c : Copy). Numbered c) x.copies)
          (reports_under_way x.block.age x.reports (front (IsIn back.reports) x.reports (all_reports xs) rs) h.0.aged)
          (data_under_way x.block.age x.copies (front (IsIn out.copies) x.copies (all_copies xs) cs));
    },
    loads_carry s xs h.1 (rest (IsIn out.copies) x.copies (all_copies xs) cs)
        (rest (IsIn back.reports) x.reports (all_reports xs) rs),
  )

  -- whatever their numbers are

  pdu_under_way : (age : ℕ) (p : CarriedPdu) → IsUnderWayAs out back age p → IsUnderWay out back age (pdu_octets p)
  pdu_under_way age (Numbered c) h = AsData c h.0 h.1 refl
  pdu_under_way age (Reported r) h = AsStatus (record r { age = age }) h.0 h.1 refl refl

  pdus_under_way : (age : ℕ) (ps : List CarriedPdu) → AllByRecursion (IsUnderWayAs out back age) ps
      → AllByRecursion (IsUnderWay out back age) (map pdu_octets ps)
  pdus_under_way age [] h = tt
  pdus_under_way age (p ∷ ps) h = (pdu_under_way age p h.0, pdus_under_way age ps h.1)

  carry_flows : (bs : List Block) (pdus : List (List CarriedPdu)) → AllCarryAs l d out back bs pdus
      → AllByRecursion (CarriesFlows l d out back) bs
  carry_flows [] [] h = tt
  carry_flows (b ∷ bs) (ps ∷ pdus) h = (
    subst (AllByRecursion (IsUnderWay out back b.age)) (sym h.0.carries) (pdus_under_way b.age ps h.0.under_way),
    carry_flows bs pdus h.1,
  )
  carry_flows [] (ps ∷ pdus) h = absurd h
  carry_flows (b ∷ bs) [] h = absurd h

of_station : (side : Side) (l : ℕ) (s : Station) (n m : BearerEnd) (pdus : List (List CarriedPdu)) (out back : Flow)
    → MatchesWith side l s n pdus → IsFlow n m out → IsFlow m n back
    → AllCarryAs l (sent_by side) out back s.blocks pdus
of_station side l s n m pdus out back h o b =
    let k = h.matches in
    subst (AllCarryAs l (sent_by side) out back s.blocks) h.pdus_are
    (subst (λ (bs : List Block). AllCarryAs l (sent_by side) out back bs (all_pdus k.loads)) k.blocks_are
    (loads_carry l (sent_by side) out back s k.loads k.are
    (subst (AllByRecursion (IsIn out.copies)) (o.copies_are ∙ k.copies_are) (all_in out.copies))
    (subst (AllByRecursion (IsIn back.reports)) (b.reports_are ∙ k.reports_are) (all_in back.reports))))

pub numbers_stay : (l : ℕ) (nb ue : End) (b d : State) (steps : List Step) → Begins Nb l nb b → Begins Ue l ue d
    → AreGiven l (outset nb ue) steps
    → AreCarried l b d (goes steps (outset nb ue)) (carried_behind l steps (outset nb ue) carries_none)
numbers_stay l nb ue b d steps x y g =
    let p = both_match l nb ue b d steps x y g in
    let h = bearers_are_flows b d p.steps x.life y.life p.given in
    let air = goes steps (outset nb ue) in
    let pdus = carried_behind l steps (outset nb ue) carries_none in
    let down = flow_goes h.there.steps (am_rlc_outset b.tx_config d.rx_config) in
    let up = flow_goes h.back.steps (am_rlc_outset d.tx_config b.rx_config) in
    let by_nb = of_station Nb l air.nb _ _ pdus.nb down up p.nb h.there.is h.back.is in
    let by_ue = of_station Ue l air.ue _ _ pdus.ue up down p.ue h.back.is h.there.is in
    record {
      by_air = record {
        flows = record {
          down =
              on_ends l b.tx_config d.rx_config _ _ air.nb.end air.ue.end p.nb.matches.bearer_is
              p.ue.matches.bearer_is h.there;
          up =
              on_ends l d.tx_config b.rx_config _ _ air.ue.end air.nb.end p.ue.matches.bearer_is
              p.nb.matches.bearer_is h.back;
        };
        by_nb = carry_flows l (sent_by Nb) down up air.nb.blocks pdus.nb by_nb;
        by_ue = carry_flows l (sent_by Ue) up down air.ue.blocks pdus.ue by_ue;
      };
      by_nb = by_nb;
      by_ue = by_ue;
    }
