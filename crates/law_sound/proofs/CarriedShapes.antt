-- A block under way carries of an acknowledged channel one STATUS PDU at most, and behind it one data PDU at most.
use Rattle.std.proofs.Common.{◌≡◌, ◌≤◌, ℕ, ◌==◌, ◌||◌, if◌then◌else◌, Bool, true, false, List, [], ◌∷◌, ◌++◌, map}
use Rattle.std.proofs.Common.{length, Option, Some, None, option_map, slice_get, refl, ap, sym, subst, ◌∙◌, arith}
use Rattle.std.proofs.lemmas.Bool.{eq-eqb}
use Rattle.std.proofs.lemmas.List.{length-map}
use Rattle.std.specs.List.{AllByRecursion}
use Rattle.std.specs.Prelude.{option_to_list}
use Rattle.bearer.specs.Acknowledged.Taking.{writes_status, status_pdu}
use Rattle.bearer.specs.declared.flow.Flow.{Flow as Bearer}
use Rattle.bearer.specs.declared.flow.Flow.TheVariants.{Tm, Um, Am}
use Rattle.bearer_types.specs.Sides.{sent_by}
use Rattle.harq.specs.declared.sender.Visit.{Visit}
use Rattle.harq.specs.declared.sender.Visit.TheVariants.{New, Resend, Silent}
use Rattle.l2_node.specs.Building.{visit, visited}
use Rattle.l2_node.specs.End.{End}
use Rattle.l2_types.specs.declared.side.Side.{Side}
use Rattle.l2_types.specs.declared.side.Side.TheVariants.{Nb, Ue}
use Rattle.prioritise.specs.Channels.{has as has_channel}
use Rattle.promises.specs.Pdus.{carried}
use Rattle.rlc_pdu.specs.declared.outcome.Taken.{Taken}
use Rattle.rlc_pdu.specs.declared.outcome.Taken.TheVariants as taken
use Rattle.rlc_pdu.specs.Reading.{am_at}
use Rattle.rlc_am_rx.specs.State.{State as Receiver}
use Rattle.journal_flows.specs.declared.parcels.Parcel.{Parcel}
use Rattle.journal_flows.specs.declared.parcels.Parcel.TheVariants.{Octets, Pieces, Report as Reports}
use Rattle.journal_flows.specs.FlowsTold.{Histories}
use Rattle.journal_flows.specs.Gathering.{Journal, Sending, sending_of}
use Rattle.journal_flows.specs.NumberedPdus.{carries_status}
use Rattle.law_bearer.specs.AnyBearer.Acknowledged.{data_given}
use Rattle.law_node.specs.Calls.{Turn, Visits}
use Rattle.law_node.specs.Holding.{flow}
use Rattle.law_rlc.specs.AmPair.Flow.{Copy, Report, Flow, copies_with, sender}
use Rattle.law_rlc.proofs.AmPair.Laws.{sound}
use Rattle.law_rlc.proofs.AmPair.Sound.{IsTrueCopy, IsSound}
use Rattle.law_deliver.specs.AmFlow.Air.{Block as AirBlock, Air, Act, Calls, Comes, Goes, Step, AtNb, AtUe, Passes}
use Rattle.law_deliver.specs.AmFlow.Air.{happens}
use Rattle.law_deliver.specs.AmFlow.Carrying.{CarriedPdu, Numbered, Reported, pdu_octets, written_in, written_on}
use Rattle.law_deliver.specs.AmFlow.Carrying.{with_built, behind_act, Carried, behind_step, carried_behind}
use Rattle.law_deliver.specs.AmFlow.Carrying.{carries_none, IsUnderWayAs, AllCarryAs}
use Rattle.law_deliver.specs.AmFlow.Channels.{share_of, held_of}
use Rattle.law_deliver.specs.AmFlow.Pair.{written_now, reports_now}
use Rattle.law_deliver.specs.AmFlow.UnderWay.{flow_on}
use Rattle.law_deliver.proofs.AmFlow.Carrying.{front, rest}
use Rattle.law_deliver.proofs.AmFlow.Loads.{all_at, except_all}
use Rattle.law_given.specs.Landing.{Block, pdus_of, BringsNoData, BringsNoStatus}
use Rattle.law_sound.specs.BesideLaws.{HoldsAs, IsGatheredBeside, station_of}
use Rattle.law_sound.specs.CarriedLaws.{parcels_on, parcels_of}
use Rattle.law_sound.specs.HeldLaws.{held_parcels}
use Rattle.law_sound.specs.LivedHistories.{AreLived, Moment}
use Rattle.law_sound.proofs.Brought.{copy_read}
use Rattle.law_sound.proofs.LivedHistories.{Own, own_at}
use Rattle.law_sound.proofs.RecordedBlocks.{held_at}

-- ---- what a bearer writes

abbrev in_turn : List Report → Option Copy → List CarriedPdu
in_turn reports copy =
    map (λ (r : Report). Reported r) reports ++ map (λ (c : Copy). Numbered c) (option_to_list copy)

record HasShape (pdus : List CarriedPdu) : Type 0 where
  reports : List Report
  copy : Option Copy
  are : pdus ≡ in_turn reports copy
  few : length reports ≤ 1

no_shape : HasShape []
no_shape = record { reports = []; copy = None; are = refl; few = omega arith }

few_reports : (rx : Receiver) (share : ℕ) → length (reports_now rx share) ≤ 1
few_reports rx share = by (writes_status rx share)
  where
    by : (b : Bool) → length (map (written_now rx share) (if b then status_pdu rx share ∷ [] else [])) ≤ 1
    by true = omega arith
    by false = omega arith

data_shape : (reports : List Report) (t : Taken) → length reports ≤ 1
    → HasShape (map (λ (r : Report). Reported r) reports ++ map (λ (c : Copy). Numbered c) (copies_with t []))
data_shape reports (taken.Piece number fresh polled octets) few =
    record { reports = reports; copy = Some (record { number = number; octets = octets }); are = refl; few = few }
data_shape reports taken.Idle few = record { reports = reports; copy = None; are = refl; few = few }
data_shape reports taken.Small few = record { reports = reports; copy = None; are = refl; few = few }
data_shape reports taken.Shut few = record { reports = reports; copy = None; are = refl; few = few }
data_shape reports taken.Held few = record { reports = reports; copy = None; are = refl; few = few }
data_shape reports taken.Stopped few = record { reports = reports; copy = None; are = refl; few = few }

bearer_shape : (f : Bearer) (share : ℕ) (held : Option ℕ) → HasShape (written_in f share held)
bearer_shape (Am b) share held =
    data_shape (reports_now b.rx share) (data_given b share held) (few_reports b.rx share)
bearer_shape (Tm b) share held = no_shape
bearer_shape (Um b) share held = no_shape

channel_shape : (l : ℕ) (t : Turn) (e : End) → HasShape (written_on l t e)
channel_shape l t e = by (has_channel l e.buckets.channels)
  where
    by : (b : Bool) → HasShape (if b then written_in (flow l e) (share_of e t.grant l) (held_of e l) else [])
    by true = bearer_shape (flow l e) (share_of e t.grant l) (held_of e l)
    by false = no_shape

-- ---- so do the blocks that are under way

abbrev AreShaped : List (List CarriedPdu) → Type 0
AreShaped pdus = AllByRecursion HasShape pdus

record BothAreShaped (c : Carried) : Type 0 where
  nb : AreShaped c.nb
  ue : AreShaped c.ue

module _ (l : ℕ) where
  built_shaped : (v : Visit) (t : Turn) (e : End) (pdus : List (List CarriedPdu)) → AreShaped pdus
      → AreShaped (with_built l v t e pdus)
  built_shaped New t e pdus h = (channel_shape l t e, h)
  built_shaped (Resend rv) t e pdus h = h
  built_shaped Silent t e pdus h = h

  act_shaped : (e : End) (x : Act) (pdus : List (List CarriedPdu)) → AreShaped pdus
      → AreShaped (behind_act l e x pdus)
  act_shaped e (Calls (Visits t)) pdus h =
      built_shaped (visit t.tti t.order e) t (visited t.tti t.order e) pdus h
  act_shaped e (Calls c) pdus h = h
  act_shaped e (Comes k) pdus h = h
  act_shaped e (Goes k) pdus h = except_all HasShape k pdus h

  step_shaped : (a : Air) (s : Step) (c : Carried) → BothAreShaped c → BothAreShaped (behind_step l a s c)
  step_shaped a (AtNb x) c h = record { nb = act_shaped a.nb.end x c.nb h.nb; ue = h.ue }
  step_shaped a (AtUe x) c h = record { nb = h.nb; ue = act_shaped a.ue.end x c.ue h.ue }
  step_shaped a Passes c h = h

  all_shaped : (steps : List Step) (a : Air) (c : Carried) → BothAreShaped c
      → BothAreShaped (carried_behind l steps a c)
  all_shaped [] a c h = h
  all_shaped (s ∷ steps) a c h = all_shaped steps (happens a s) (behind_step l a s c) (step_shaped a s c h)

-- ---- as its octets are read

module _ (f g : Flow) (hf : IsSound f) (hg : IsSound g) (age : ℕ) where
  no_data : (rs : List Report) → AllByRecursion (IsUnderWayAs f g age) (map (λ (r : Report). Reported r) rs)
      → AllByRecursion (λ (pdu : List ℕ). BringsNoData (am_at pdu)) (map (λ (r : Report). r.octets) rs)
  no_data [] h = tt
  no_data (r ∷ rs) h =
      let q = all_at _ g.reports h.0.0 (record r { age = age }) hg.reports h.0.1 in
      (subst BringsNoData (sym q.reads) tt, no_data rs h.1)

  no_status : (copy : Option Copy)
      → AllByRecursion (IsUnderWayAs f g age) (map (λ (c : Copy). Numbered c) (option_to_list copy))
      → AllByRecursion (λ (pdu : List ℕ). BringsNoStatus (am_at pdu))
      (option_to_list (option_map (λ (c : Copy). c.octets) copy))
  no_status None h = tt
  no_status (Some c) h =
      let r = copy_read f c hf (all_at (IsTrueCopy (sender f).past.sent) f.copies h.0.0 c hf.copies h.0.1) in
      (subst BringsNoStatus (sym r.read) tt, tt)

octets_in_turn : (rs : List Report) (copy : Option Copy) → map pdu_octets (in_turn rs copy)
    ≡ map (λ (r : Report). r.octets) rs ++ option_to_list (option_map (λ (c : Copy). c.octets) copy)
octets_in_turn [] None = refl
octets_in_turn [] (Some c) = refl
octets_in_turn (r ∷ rs) copy = ap (λ (xs : List (List ℕ)). r.octets ∷ xs) (octets_in_turn rs copy)

-- ---- a STATUS among parcels of all channels

on_channel : (l : ℕ) (ps : List Parcel) → carries_status l (parcels_on l ps) ≡ carries_status l ps
on_channel l [] = refl
on_channel l (Octets lcid n start end ∷ ps) = by (lcid == l) (on_channel l ps)
  where
    by : (b : Bool) → carries_status l (parcels_on l ps) ≡ carries_status l ps
        → carries_status l ((if b then Octets lcid n start end ∷ [] else []) ++ parcels_on l ps) ≡ carries_status l ps
    by true more = more
    by false more = more
on_channel l (Pieces lcid n size pieces ∷ ps) = on_channel l ps
on_channel l (Reports lcid ack entries ∷ ps) = by (lcid == l) refl (on_channel l ps)
  where
    by : (b : Bool) → (lcid == l) ≡ b → carries_status l (parcels_on l ps) ≡ carries_status l ps
        → carries_status l ((if b then Reports lcid ack entries ∷ [] else []) ++ parcels_on l ps)
        ≡ (lcid == l) || carries_status l ps
    by true q more = ap (λ (x : Bool). (lcid == l) || x) more
    by false q more = more ∙ ap (λ (x : Bool). x || carries_status l ps) (sym q)

no_reports : (l : ℕ) (rs : List Report) (copy : Option Copy)
    → carries_status l (parcels_of l (in_turn rs copy)) ≡ false → map (λ (r : Report). r.octets) rs ≡ []
no_reports l [] copy none = refl
no_reports l (r ∷ rs) copy none =
    let same = eq-eqb l l refl in
    let no : true ≡ false =
    sym (ap (λ (b : Bool). b || carries_status l (parcels_of l (in_turn rs copy))) same) ∙ none in
    absurd cc

-- ---- a block

pub record BlockBrings (l : ℕ) (from : Side) (octets : List ℕ) (parcels : List Parcel) : Type 0 where
  pub brings : Block
  pub carries : carried l (sent_by from) octets ≡ pdus_of brings
  pub statuses : AllByRecursion (λ (pdu : List ℕ). BringsNoData (am_at pdu)) brings.statuses
  pub last : AllByRecursion (λ (pdu : List ℕ). BringsNoStatus (am_at pdu)) (option_to_list brings.last)
  pub few : length brings.statuses ≤ 1
  -- where the parcels that are gathered of it tell of no STATUS of the channel it has none
  pub silent : carries_status l parcels ≡ false → brings.statuses ≡ []

one_brings : (l : ℕ) (from : Side) (f g : Flow) (x : Sending) (bs : List AirBlock) (pdus : List (List CarriedPdu))
    (k : ℕ) (block : AirBlock) → IsSound f → IsSound g → AllCarryAs l (sent_by from) f g bs pdus → AreShaped pdus
    → HoldsAs l x bs pdus → slice_get bs k ≡ Some block
    → BlockBrings l from block.octets (held_parcels x block.process)
one_brings l from f g x bs pdus k block hf hg carry shaped holds at =
    let o : Own l (sent_by from) f g pdus k block = own_at l (sent_by from) f g bs pdus k block carry at in
    let s : HasShape o.own = all_at HasShape pdus k o.own shaped o.there in
    let reports = map (λ (r : Report). Reported r) s.reports in
    let copies = map (λ (c : Copy). Numbered c) (option_to_list s.copy) in
    let way = subst (AllByRecursion (IsUnderWayAs f g block.age)) s.are o.carries.under_way in
    record {
      brings = record {
        statuses = map (λ (r : Report). r.octets) s.reports;
        last = option_map (λ (c : Copy). c.octets) s.copy;
      };
      carries = o.carries.carries ∙ (ap (map pdu_octets) s.are ∙ octets_in_turn s.reports s.copy);
      statuses = no_data f g hf hg block.age s.reports (front (IsUnderWayAs f g block.age) reports copies way);
      last = no_status f g hf hg block.age s.copy (rest (IsUnderWayAs f g block.age) reports copies way);
      few = let n = length-map s.reports (λ (r : Report). r.octets) in let few = s.few in omega (arith, n, few);
      silent = λ none. no_reports l s.reports s.copy
          (sym (ap (λ (ps : List CarriedPdu). carries_status l (parcels_of l ps)) s.are)
          ∙ (sym (ap (carries_status l) (held_at l x bs pdus k block o.own holds.held at o.there))
          ∙ (on_channel l (held_parcels x block.process) ∙ none)));
    }

pub blocks_bring : (l : ℕ) (from : Side) (a : Air) (k : ℕ) (block : AirBlock) (m : Moment) (j : Journal Histories)
    → AreLived l a m.pdus m.down m.up → IsGatheredBeside l a m.pdus m.down m.up j
    → slice_get (station_of from a).blocks k ≡ Some block
    → BlockBrings l from block.octets (held_parcels (sending_of from j) block.process)
blocks_bring l from a k block m j h beside at = by from at
  where
    down : IsSound (flow_on l h.nb_bearer.tx_config h.ue_bearer.rx_config a.nb.end a.ue.end h.air.by_air.flows.down)
    down = sound h.nb_bearer.tx_config h.ue_bearer.rx_config h.air.by_air.flows.down.steps
        h.air.by_air.flows.down.given

    up : IsSound (flow_on l h.ue_bearer.tx_config h.nb_bearer.rx_config a.ue.end a.nb.end h.air.by_air.flows.up)
    up = sound h.ue_bearer.tx_config h.nb_bearer.rx_config h.air.by_air.flows.up.steps h.air.by_air.flows.up.given

    shaped : BothAreShaped m.pdus
    shaped = subst BothAreShaped (sym h.carried_is)
        (all_shaped l h.steps _ carries_none (record { nb = tt; ue = tt }))

    by : (side : Side) → slice_get (station_of side a).blocks k ≡ Some block
        → BlockBrings l side block.octets (held_parcels (sending_of side j) block.process)
    by Nb at =
        one_brings l Nb _ _ j.nb a.nb.blocks m.pdus.nb k block down up h.air.by_nb shaped.nb beside.by_nb at
    by Ue at =
        one_brings l Ue _ _ j.ue a.ue.blocks m.pdus.ue k block up down h.air.by_ue shaped.ue beside.by_ue at
