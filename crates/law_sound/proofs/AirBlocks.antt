-- Each block under way has one data PDU of a channel at most.
use Rattle.std.proofs.Common.{◌≡◌, ◌≤◌, ℕ, Bool, true, false, if◌then◌else◌, List, [], ◌∷◌, ◌++◌, map, Option}
use Rattle.std.proofs.Common.{Some, None, slice_get, refl, sym, subst, arith}
use Rattle.std.specs.List.{AllByRecursion}
use Rattle.bearer.specs.Acknowledged.State.{State}
use Rattle.bearer.specs.Taking.{pdus}
use Rattle.bearer.specs.declared.flow.Flow.{Flow as Bearer}
use Rattle.bearer.specs.declared.flow.Flow.TheVariants.{Am}
use Rattle.bearer_types.specs.Sides.{sent_by}
use Rattle.harq.specs.declared.sender.Order.{Order}
use Rattle.harq.specs.declared.sender.Visit.{Visit}
use Rattle.l2_node.specs.Building.{visit, visited}
use Rattle.l2_node.specs.End.{End}
use Rattle.l2_node.specs.Writing.{new_block}
use Rattle.l2_types.specs.declared.config.AmTxConfig.{AmTxConfig}
use Rattle.l2_types.specs.declared.AmRxConfig.{AmRxConfig}
use Rattle.l2_types.specs.declared.side.Side.{Side}
use Rattle.l2_types.specs.declared.side.Side.TheVariants.{Nb, Ue}
use Rattle.promises.specs.Pdus.{carried}
use Rattle.law_rlc.specs.AmPair.Flow.{Step as FlowStep, receiver, goes as flow_goes, am_rlc_outset}
use Rattle.law_rlc.specs.AmPair.Given.{AreGiven as AreGivenSteps}
use Rattle.law_deliver.specs.AmFlow.Air.{Block, Station, Air, Act, AtNb, AtUe, Passes, Step, built_at, comes, does}
use Rattle.law_deliver.specs.AmFlow.Air.{older, happens, goes, outset, IsBuilding, IsVisiting, IsDone, IsGiven}
use Rattle.law_deliver.specs.AmFlow.Air.{AreGiven, Begins}
use Rattle.law_deliver.specs.AmFlow.Channels.{share_of, held_of}
use Rattle.law_deliver.specs.AmFlow.Pair.{BearerEnd}
use Rattle.law_deliver.proofs.AmFlow.Acts.{act_by}
use Rattle.law_deliver.proofs.AmFlow.Air.{both_match}
use Rattle.law_deliver.proofs.AmFlow.Flows.{bearers_are_flows}
use Rattle.law_deliver.proofs.AmFlow.Loads.{except_all}
use Rattle.law_deliver.proofs.AmFlow.Stations.{Matches}
use Rattle.law_deliver.proofs.AmFlow.Turns.{visit_by}
use Rattle.law_deliver.proofs.AmFlow.Visiting.{carries_so}
use Rattle.law_sound.specs.AirHearing.{HasOneOn, BringOneData, BlocksBringOneData}
use Rattle.law_sound.specs.HearingLaws.{HasOneData}
use Rattle.law_sound.proofs.Writing.{bearers_write_one}

-- ---- a block is built

-- a bearer that hears a flow
record HearsFlow (b : State) : Type 0 where
  sending : AmTxConfig
  receiving : AmRxConfig
  steps : List FlowStep
  given : AreGivenSteps (am_rlc_outset sending receiving) steps
  here : (receiver (flow_goes steps (am_rlc_outset sending receiving))).state ≡ b.rx

-- what holds of nothing, and of what a bearer writes, holds of what a channel has
written_if : (P : List (List ℕ) → Type 0) (due : Bool) (f : Bearer) (share : ℕ) (held : Option ℕ) (b : State)
    → f ≡ Am b → P [] → P (pdus (Am b) share held) → P (if due then pdus f share held else [])
written_if P true f share held b q none wrote = subst (λ (x : Bearer). P (pdus x share held)) (sym q) wrote
written_if P false f share held b q none wrote = none

module _ (side : Side) (l : ℕ) (s : Station) (n : BearerEnd) (m : Matches side l s n) where
  -- so of what a new block carries
  pub new_by : (P : List (List ℕ) → Type 0) (tti : ℕ) (order : Order) (grant : ℕ) → 1 ≤ grant → grant ≤ 9422 → P []
      → P (pdus (Am n.bearer) (share_of (visited tti order s.end) grant l) (held_of (visited tti order s.end) l))
      → P (carried l (sent_by side) (new_block (visited tti order s.end) grant))
  unfolding visited
  new_by P tti order grant some most none wrote =
      subst P (sym (carries_so side s.end m.come tti order grant l some most m.there))
      (written_if P _ _ _ _ n.bearer m.bearer_is none wrote)

module _ (side : Side) (l : ℕ) (s : Station) (n : BearerEnd) (m : Matches side l s n) (h : HearsFlow n.bearer) where
  new_one : (tti : ℕ) (order : Order) (grant : ℕ) → 1 ≤ grant → grant ≤ 9422
      → HasOneData (carried l (sent_by side) (new_block (visited tti order s.end) grant))
  new_one tti order grant some most =
      new_by side l s n m HasOneData tti order grant some most
      (record { before = []; behind = []; are = refl; none = tt; one = omega arith })
      (bearers_write_one h.sending h.receiving h.steps h.given _ _ n.bearer (sym h.here))

  -- ---- an act

  act_one : (o : Station) (x : Act) → IsDone l s x → AllByRecursion (HasOneOn l side) s.blocks
      → AllByRecursion (HasOneOn l side) (does o s x).blocks
  act_one o x done all =
      act_by l o s (λ t y. AllByRecursion (HasOneOn l side) t.blocks) (λ c given life no_turn no_block. all)
      (λ t given turn. visit_by
      (λ (v : Visit). AllByRecursion (HasOneOn l side) (built_at v t (visited t.tti t.order s.end) ++ s.blocks))
      (visit t.tti t.order s.end)
      (λ e. let b : IsBuilding s t = subst (λ (v : Visit). IsVisiting v s t) e turn in
      (new_one t.tti t.order t.grant b.some given.0, all)) (λ rv. all) all)
      (λ k. come_one (slice_get o.blocks k)) (λ k. except_all (HasOneOn l side) k s.blocks all) x done
    where
      come_one : (y : Option Block) → AllByRecursion (HasOneOn l side) (comes s y).blocks
      come_one None = all
      come_one (Some block) = all

older_one : (l : ℕ) (side : Side) (bs : List Block) → AllByRecursion (HasOneOn l side) bs
    → AllByRecursion (HasOneOn l side) (map older bs)
older_one l side [] h = tt
older_one l side (b ∷ bs) h = (h.0, older_one l side bs h.1)

-- ---- any steps

pub goes_last : (xs : List Step) (s : Step) (a : Air) → goes (xs ++ s ∷ []) a ≡ happens (goes xs a) s
goes_last [] s a = refl
goes_last (x ∷ xs) s a = goes_last xs s (happens a x)

pub given_last : (l : ℕ) (xs : List Step) (s : Step) (a : Air) → AreGiven l a xs → IsGiven l (goes xs a) s
    → AreGiven l a (xs ++ s ∷ [])
given_last l [] s a h g = (g, tt)
given_last l (x ∷ xs) s a h g = (h.0, given_last l xs s (happens a x) h.1 g)

module _ (l : ℕ) (nb ue : End) (b d : State) (x : Begins Nb l nb b) (y : Begins Ue l ue d) where
  step_one : (so_far : List Step) (s : Step) → AreGiven l (outset nb ue) so_far
      → IsGiven l (goes so_far (outset nb ue)) s → BringOneData l (goes so_far (outset nb ue))
      → BringOneData l (happens (goes so_far (outset nb ue)) s)
  step_one so_far s given g h = by s g
    where
      a : Air
      a = goes so_far (outset nb ue)

      by : (s : Step) → IsGiven l a s → BringOneData l (happens a s)
      by (AtNb act) g =
          let p = both_match l nb ue b d so_far x y given in
          let f = bearers_are_flows b d p.steps x.life y.life p.given in
          record {
            by_nb = act_one Nb l a.nb _ p.nb.matches (record {
              sending = d.tx_config;
              receiving = b.rx_config;
              steps = f.back.steps;
              given = f.back.given;
              here = f.back.is.receiver_is;
            }) a.ue act g h.by_nb;
            by_ue = h.by_ue;
          }
      by (AtUe act) g =
          let p = both_match l nb ue b d so_far x y given in
          let f = bearers_are_flows b d p.steps x.life y.life p.given in
          record {
            by_nb = h.by_nb;
            by_ue = act_one Ue l a.ue _ p.ue.matches (record {
              sending = b.tx_config;
              receiving = d.rx_config;
              steps = f.there.steps;
              given = f.there.given;
              here = f.there.is.receiver_is;
            }) a.nb act g h.by_ue;
          }
      by Passes g =
          record { by_nb = older_one l Nb a.nb.blocks h.by_nb; by_ue = older_one l Ue a.ue.blocks h.by_ue }

  all_one : (so_far more : List Step) → AreGiven l (outset nb ue) so_far
      → AreGiven l (goes so_far (outset nb ue)) more → BringOneData l (goes so_far (outset nb ue))
      → BringOneData l (goes more (goes so_far (outset nb ue)))
  all_one so_far [] given g h = h
  all_one so_far (s ∷ more) given g h =
      let last = goes_last so_far s (outset nb ue) in
      subst (λ (z : Air). BringOneData l (goes more z)) last
      (all_one (so_far ++ s ∷ []) more (given_last l so_far s (outset nb ue) given g.0)
      (subst (λ (z : Air). AreGiven l z more) (sym last) g.1)
      (subst (BringOneData l) (sym last) (step_one so_far s given g.0 h)))

pub blocks_bring_one : BlocksBringOneData
blocks_bring_one l nb ue b d steps x y given =
    all_one l nb ue b d x y [] steps tt given (record { by_nb = tt; by_ue = tt })
