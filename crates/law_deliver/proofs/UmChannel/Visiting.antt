-- An end visits a process, and its unacknowledged bearer of a channel writes into a new block.
use Rattle.std.proofs.Common.{◌≡◌, ◌≤◌, ℕ, ◌-◌, ◌%◌, Bool, true, false, ◌||◌, if◌then◌else◌, List, [], ◌∷◌}
use Rattle.std.proofs.Common.{◌++◌, length, map, take, Option, refl, ap, sym, subst, ◌∙◌}
use Rattle.std.proofs.Common.{arith}
use Rattle.std.specs.List.{AllByRecursion}
use Rattle.law_rlc.specs.AmPair.Flow.{Copy, copies_with}
use Rattle.law_rlc.specs.AmPair.Given.{IsHeld as IsAtLeastHeld}
use Rattle.bearer.specs.declared.flow.Flow.{Flow}
use Rattle.bearer.specs.declared.flow.Flow.TheVariants.{Um}
use Rattle.bearer.specs.Taking.{pdus, number}
use Rattle.bearer.specs.Unacknowledged.State.{State}
use Rattle.bearer.specs.Unacknowledged.Taking.{answer}
use Rattle.law_bearer.specs.AnyBearer.Calls.{Take as Takes, after, after_all, ends}
use Rattle.law_bearer.specs.AnyBearer.Stream.{offers_of, takes, pdu_of}
use Rattle.bearer_pdcp.specs.Telling.{number_of}
use Rattle.harq.specs.declared.sender.Visit.{Visit}
use Rattle.harq.specs.declared.sender.Visit.TheVariants.{New, Resend, Silent}
use Rattle.harq.specs.Sending.{after_visit, after_feedback}
use Rattle.l2_node.specs.Building.{visited, built_by, built, visit}
use Rattle.l2_node.specs.End.{End}
use Rattle.bearer_types.specs.Sides.{sent_by}
use Rattle.l2_node.specs.Finding.{find, bearer_at}
use Rattle.l2_types.specs.declared.side.Side.{Side}
use Rattle.law_node.specs.Calls.{Turn, Visits, IsGiven as IsGivenCall, answered, reached}
use Rattle.law_node.specs.Holding.{flow, given_by}
use Rattle.law_node.proofs.Holders.{visit_fewer, feedback_fewer}
use Rattle.law_node.proofs.Keeping.{at_is, reached_are}
use Rattle.law_node.proofs.Ready.{WritesWell, ready_kept}
use Rattle.law_node.proofs.Sound.{visited_sound}
use Rattle.pdcp_tx.specs.State.{offers}
use Rattle.prioritise.specs.Channels.{has as has_channel}
use Rattle.law_deliver.specs.AmFlow.Air.{Block, Station, built_at, is_new as is_new_visit, calls as station_calls}
use Rattle.law_deliver.specs.AmFlow.Air.{HasCome, IsBuilding, IsVisiting}
use Rattle.law_deliver.specs.AmFlow.Channels.{only, takes_of, calls_of, written_by}
use Rattle.law_deliver.proofs.AmFlow.Channels.{turn_by}
use Rattle.law_deliver.proofs.AmFlow.Loads.{Load, lowest_all}
use Rattle.law_deliver.proofs.AmFlow.Octets.{offers_all, take_all, pdus_all}
use Rattle.law_deliver.proofs.AmFlow.Places.{GoesBy}
use Rattle.law_deliver.proofs.AmFlow.Runs.{octets_of}
use Rattle.law_deliver.proofs.AmFlow.Stations.{come_sound, come_more, fewer_keep}
use Rattle.law_deliver.proofs.AmFlow.Visiting.{copies_split, octets_given, noted_given, carries_so, built_end}
use Rattle.law_deliver.proofs.AmFlow.Visiting.{built_station, part, low, block_of, fewer, blocks_held, old_loads}
use Rattle.law_deliver.proofs.AmFlow.Visiting.{row_so}
use Rattle.law_deliver.proofs.AmFlow.Visiting.{number_so}
use Rattle.law_deliver.specs.UmFlow.Pair.{BearerEnd, Calls, HasOctet, IsTaking}
use Rattle.law_deliver.proofs.UmFlow.Sending.{is_called}
use Rattle.law_deliver.proofs.UmChannel.Stations.{Matches, Acts}

-- ---- each PDU of PDCP has an octet

some_of : (b : State) (share : ℕ) (held : Option ℕ) (l : ℕ) → WritesWell l (Um b)
    → AllByRecursion HasOctet (map (pdu_of b.pdcp.tx) (takes (Um b) (Takes share held)))
some_of b share held l w =
    let n : ℕ = length (offers_of (ends (Um b))) - length (offers_of (ends (after (Um b) (Takes share held)))) in
    pdus_all w.kind b.pdcp.tx (take n (offers b.pdcp.tx)) w.known w.offers'.tx.kind_is
    (take_all w.kind n (offers b.pdcp.tx) (offers_all w.kind b.pdcp.tx w.offers'.tx))

some_octets : (side : Side) (e : End) (h : HasCome side e) (l : ℕ) (b : State) (share : ℕ) (held : Option ℕ)
    → flow l e ≡ Um b → AllByRecursion HasOctet (map (pdu_of b.pdcp.tx) (takes (Um b) (Takes share held)))
some_octets side e h l b share held q =
    let bs = (reached side h.maximum h.reports h.past).bearers in
    let at = find l bs in
    let w =
    at_is WritesWell bs at ready_kept (reached_are WritesWell ready_kept side h.maximum h.reports h.past h.given)
    in
    some_of b share held (bearer_at bs at).channel.lcid
    (subst (WritesWell (bearer_at bs at).channel.lcid) (ap (λ (x : End). flow l x) (sym h.end_is) ∙ q) w)

-- ---- a new block

-- the bearer of the channel writes, where the channel is one of the end's
module _ (side : Side) (l : ℕ) (s : Station) (n m : BearerEnd) (t : Turn) where
  is_taking : visit t.tti t.order s.end ≡ New → Matches side l s n → IsBuilding s t
      → IsTaking n (part l s t) (low l s t)
  unfolding visited
  is_taking v h b = record {
    some = some_octets side s.end h.come l n.bearer (part l s t) (low l s t) h.bearer_is;
    lowest = subst (λ (cs : List Copy). AllByRecursion (IsAtLeastHeld (low l s t)) cs) (sym h.copies_are)
        (lowest_all l (t.tti % 8) (sent_by side) s.end.sender (visited t.tti t.order s.end).sender s.end.numbers h.loads
        (fewer s t)
        (blocks_held s t h.loads v b h.blocks_are) h.are);
  }

  given_so : (h : Matches side l s n) → has_channel l (visited t.tti t.order s.end).buckets.channels ≡ true
      → given_by (visited t.tti t.order s.end) t.grant l ≡ number_of (answer n.bearer (part l s t) (low l s t))
  unfolding visited number
  given_so h q =
      number_so l s t h.there q
      ∙ ap (λ (f : Flow). number f (part l s t) (low l s t)) h.bearer_is

  pub written_so : (h : Matches side l s n) → has_channel l (visited t.tti t.order s.end).buckets.channels ≡ true
      → written_by (visited t.tti t.order s.end) t.grant l
      ≡ octets_of (copies_with (answer n.bearer (part l s t) (low l s t)) [])
  unfolding visited pdus
  written_so h q =
      ap (λ (b : Bool). if b then pdus (flow l s.end) (part l s t) (low l s t) else []) q
      ∙ ap (λ (f : Flow). pdus f (part l s t) (low l s t)) h.bearer_is
      ∙ octets_given (answer n.bearer (part l s t) (low l s t))

  builds_by : (here : Bool) → visit t.tti t.order s.end ≡ New
      → has_channel l (visited t.tti t.order s.end).buckets.channels ≡ here → Matches side l s n
      → HasCome side (built_end s t) → IsBuilding s t → t.grant ≤ 9422
      → Acts side l (built_station s t) m n (map (λ c. Calls c) (only here (Takes (part l s t) (low l s t))))
      (only here (Takes (part l s t) (low l s t)))
  unfolding visited
  builds_by true v q h come b most =
      let by : GoesBy l s.end.bearers (built_end s t).bearers (Takes (part l s t) (low l s t) ∷ []) =
      subst (λ (x : Bool). GoesBy l s.end.bearers (built_end s t).bearers (only x (Takes (part l s t) (low l s t)))) q
      (turn_by New t (visited t.tti t.order s.end) l
      (visited_sound t.tti t.order s.end (come_sound side s.end h.come))) in
      let data' = answer n.bearer (part l s t) (low l s t) in
      let load : Load = record { block = block_of s t; copies = copies_with data' []; reports = [] } in
      record {
        done = (is_taking v h b, tt);
        calls_are = refl;
        matches = record {
          come = come;
          there = by.has_is ∙ h.there;
          bearer_is = by.goes h.there ∙ ap (λ (f : Flow). after_all f (Takes (part l s t) (low l s t) ∷ [])) h.bearer_is
              ∙ is_called n.bearer (Takes (part l s t) (low l s t));
          loads = load ∷ h.loads;
          bare = (refl, h.bare);
          blocks_are = ap (λ (bs : List Block). block_of s t ∷ bs) h.blocks_are;
          copies_are = copies_split data' n.copies ∙ ap (λ (cs : List Copy). copies_with data' [] ++ cs) h.copies_are;
          are = (
            record {
              carries = carries_so side s.end h.come t.tti t.order t.grant l b.some most h.there ∙ written_so h q;
              process = omega arith;
              aged = tt;
              noted = λ held. noted_given (built_end s t).numbers l (t.tti % 8) data' (row_so side l s t h.come
                  ∙ given_so h q);
            },
            old_loads l (sent_by side) s t h.loads v b h.blocks_are h.are,
          );
        };
      }
  builds_by false v q h come b most =
      let by : GoesBy l s.end.bearers (built_end s t).bearers [] =
      subst (λ (x : Bool). GoesBy l s.end.bearers (built_end s t).bearers (only x (Takes (part l s t) (low l s t)))) q
      (turn_by New t (visited t.tti t.order s.end) l
      (visited_sound t.tti t.order s.end (come_sound side s.end h.come))) in
      let load : Load = record { block = block_of s t; copies = []; reports = [] } in
      let none : written_by (visited t.tti t.order s.end) t.grant l ≡ [] =
      ap (λ (x : Bool). if x then pdus (flow l s.end) (part l s t) (low l s t) else []) q in
      record {
        done = tt;
        calls_are = refl;
        matches = record {
          come = come;
          there = by.has_is ∙ h.there;
          bearer_is = by.goes h.there ∙ h.bearer_is;
          loads = load ∷ h.loads;
          bare = (refl, h.bare);
          blocks_are = ap (λ (bs : List Block). block_of s t ∷ bs) h.blocks_are;
          copies_are = h.copies_are;
          are = (
            record {
              carries = carries_so side s.end h.come t.tti t.order t.grant l b.some most h.there ∙ none;
              process = omega arith;
              aged = tt;
              noted = λ held. tt;
            },
            old_loads l (sent_by side) s t h.loads v b h.blocks_are h.are,
          );
        };
      }

-- ---- any visit

visits_by : (side : Side) (l : ℕ) (s : Station) (n m : BearerEnd) (t : Turn) (v : Visit)
    → visit t.tti t.order s.end ≡ v → Matches side l s n
    → HasCome side (answered v t (built_by v t.tti t.grant (visited t.tti t.order s.end))) → IsVisiting v s t
    → t.grant ≤ 9422
    → Acts side l (record {
      end = answered v t (built_by v t.tti t.grant (visited t.tti t.order s.end));
      blocks = built_at v t (visited t.tti t.order s.end) ++ s.blocks;
      busy = s.busy || is_new_visit v;
    }) m n
    (map (λ c. Calls c) (takes_of v t (visited t.tti t.order s.end) l)) (takes_of v t (visited t.tti t.order s.end) l)
unfolding visited
visits_by side l s n m t New v h come b most =
    builds_by side l s n m t (has_channel l (visited t.tti t.order s.end).buckets.channels) v refl h come b most
visits_by side l s n m t (Resend rv) v h come b most = record {
  done = tt;
  calls_are = refl;
  matches = record {
    come = come;
    there = h.there;
    bearer_is = h.bearer_is;
    loads = h.loads;
    bare = h.bare;
    blocks_are = h.blocks_are;
    copies_are = h.copies_are;
    are =
        fewer_keep l (sent_by side) s.end.sender
        (after_feedback (after_visit s.end.sender t.tti t.order) t.tti t.good) s.end.numbers h.loads
        (λ p none. feedback_fewer (after_visit s.end.sender t.tti t.order) t.tti t.good p
        (visit_fewer s.end.sender t.tti t.order p none)) h.are;
  };
}
visits_by side l s n m t Silent v h come b most = record {
  done = tt;
  calls_are = refl;
  matches = record {
    come = come;
    there = h.there;
    bearer_is = h.bearer_is;
    loads = h.loads;
    bare = h.bare;
    blocks_are = h.blocks_are;
    copies_are = h.copies_are;
    are = fewer_keep l (sent_by side) s.end.sender (after_visit s.end.sender t.tti t.order) s.end.numbers h.loads
        (visit_fewer s.end.sender t.tti t.order) h.are;
  };
}

pub visits : (side : Side) (l : ℕ) (s : Station) (n m : BearerEnd) (t : Turn) → Matches side l s n
    → IsGivenCall (Visits t) → IsVisiting (visit t.tti t.order s.end) s t
    → Acts side l (station_calls s (Visits t)) m n (map (λ c. Calls c) (calls_of l s.end (Visits t)))
    (calls_of l s.end (Visits t))
unfolding built
visits side l s n m t h g b =
    visits_by side l s n m t (visit t.tti t.order s.end) refl h (come_more side s.end (Visits t) h.come g) b g.0
