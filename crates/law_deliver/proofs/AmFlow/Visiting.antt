-- An end visits a process, and its bearer of a channel writes into a new block.
use Rattle.std.proofs.Common.{◌≡◌, ◌≤◌, ◌<◌, ℕ, ◌+◌, ◌-◌, ◌%◌, ◌&&◌, Bool, true, false, ◌||◌, if◌then◌else◌, List, []}
use Rattle.std.proofs.Common.{◌∷◌, ◌++◌, length, map, get_or, set, get_or-set_same, get_or-set_other, Option, Some}
use Rattle.std.proofs.Common.{None, refl, ap, sym, subst, ◌∙◌, arith, inl, inr, option_map}
use Rattle.std.specs.List.{AllByRecursion}
use Rattle.std.proofs.lemmas.Bool.{cases_lt}
use Rattle.std.proofs.lemmas.List.{get_or_past}
use Rattle.std.proofs.Math.ListN.{length-set}
use Rattle.law_rlc.specs.AmPair.Flow.{Copy, Report, copies_with}
use Rattle.law_rlc.specs.AmPair.Given.{IsHeld as IsAtLeastHeld}
use Rattle.bearer.specs.declared.flow.Flow.{Flow}
use Rattle.bearer.specs.declared.flow.Flow.TheVariants.{Am}
use Rattle.bearer.specs.Taking.{pdus, number}
use Rattle.bearer.specs.Acknowledged.State.{State}
use Rattle.bearer.specs.Acknowledged.Taking.{data_size, status_pdus, writes_status, status_pdu}
use Rattle.law_bearer.specs.AnyBearer.Acknowledged.{offers_in, data_given}
use Rattle.law_bearer.specs.AnyBearer.Calls.{Take as Takes, after_all}
use Rattle.law_bearer.proofs.AnyBearer.SenderCalls.{answers_given, writes_what_rlc_gives}
use Rattle.bearer_pdcp.specs.Telling.{pdus_of, number_of}
use Rattle.harq.specs.declared.sender.Order.{Order}
use Rattle.harq.specs.declared.sender.Visit.{Visit}
use Rattle.harq.specs.declared.sender.Visit.TheVariants.{New, Resend, Silent}
use Rattle.harq.specs.declared.sender.Order.TheVariants as orders
use Rattle.harq.specs.Sending.{Sending, SendProcess, Block as HeldBlock, empty, resent, seen}
use Rattle.harq.specs.Sending.{visited as process_visited, resend_or, answered as process_answer, process_at, held_of}
use Rattle.harq.specs.Sending.{visit_answer, after_visit, after_feedback}
use Rattle.l2_node.specs.Building.{visited, loaded, built_by, built, visit}
use Rattle.l2_node.specs.End.{End}
use Rattle.bearer_types.specs.Sides.{sent_by}
use Rattle.l2_node.specs.Finding.{Numbers, has}
use Rattle.l2_node.specs.Writing.{written, new_block}
use Rattle.l2_types.specs.declared.side.Side.{Side}
use Rattle.mac_pdu.specs.declared.item.Direction.{Direction}
use Rattle.law_node.specs.Calls.{Turn, Visits, IsGiven as IsGivenCall, answered}
use Rattle.law_node.specs.Holding.{flow, given_by}
use Rattle.law_node.proofs.Holders.{visit_fewer, feedback_fewer}
use Rattle.law_node.proofs.Holding.{visiting_young}
use Rattle.law_node.proofs.Keeping.{share_most}
use Rattle.law_node.proofs.Noting.{row_is}
use Rattle.law_node.proofs.Sound.{visited_sound}
use Rattle.prioritise.specs.Channels.{has as has_channel}
use Rattle.rlc_am_rx.specs.State.{State as Receiver}
use Rattle.rlc_pdu.specs.declared.outcome.Taken.{Taken}
use Rattle.rlc_pdu.specs.declared.outcome.Taken.TheVariants as taken
use Rattle.law_deliver.specs.AmFlow.Air.{Block, Station, built_at, is_new as is_new_visit, calls as station_calls}
use Rattle.law_deliver.specs.AmFlow.Air.{HasCome, IsHeld, IsBuilding, IsVisiting}
use Rattle.law_deliver.specs.AmFlow.Channels.{only, share_of, held_of as told_held, takes_of, calls_of, written_by}
use Rattle.promises.specs.Pdus.{carried}
use Rattle.law_deliver.specs.AmFlow.Carrying.{CarriedPdu, Reported, data_written, written_in, written_on, with_built}
use Rattle.law_deliver.specs.AmFlow.Carrying.{behind_call}
use Rattle.law_deliver.specs.AmFlow.Pair.{BearerEnd, Calls, written_now, reports_now, HasOctet, IsTaking}
use Rattle.law_deliver.proofs.AmFlow.Channels.{turn_by, blocks_carry_pdus}
use Rattle.law_deliver.proofs.AmFlow.Loads.{Load, blocks_in, noted_of, IsNoted, HasAge, IsLoad, lowest_all, IsHeldBy}
use Rattle.law_deliver.proofs.AmFlow.Loads.{held_by, as_written, pdus_in, all_pdus}
use Rattle.law_deliver.proofs.AmFlow.Octets.{some_octets}
use Rattle.law_deliver.proofs.AmFlow.Places.{GoesBy}
use Rattle.law_deliver.proofs.AmFlow.Runs.{octets_of, texts_of}
use Rattle.law_deliver.proofs.AmFlow.Sending.{is_called}
use Rattle.law_deliver.proofs.AmFlow.Standing.{or_none}
use Rattle.law_deliver.proofs.AmFlow.Stations.{Matches, Acts, come_sound, come_more, fewer_keep}

-- ---- a new load

pub copies_split : (t : Taken) (cs : List Copy) → copies_with t cs ≡ copies_with t [] ++ cs
copies_split (taken.Piece number fresh polled octets) cs = refl
copies_split taken.Idle cs = refl
copies_split taken.Small cs = refl
copies_split taken.Shut cs = refl
copies_split taken.Held cs = refl
copies_split taken.Stopped cs = refl

pub octets_given : (t : Taken) → pdus_of t ≡ octets_of (copies_with t [])
octets_given (taken.Piece number fresh polled octets) = refl
octets_given taken.Idle = refl
octets_given taken.Small = refl
octets_given taken.Shut = refl
octets_given taken.Held = refl
octets_given taken.Stopped = refl

module _ (numbers : Numbers) (l p : ℕ) where
  pub noted_given : (t : Taken) → noted_of numbers l p ≡ number_of t
      → AllByRecursion (IsNoted numbers l p) (copies_with t [])
  noted_given (taken.Piece number fresh polled octets) e = (e, tt)
  noted_given taken.Idle e = tt
  noted_given taken.Small e = tt
  noted_given taken.Shut e = tt
  noted_given taken.Held e = tt
  noted_given taken.Stopped e = tt

module _ (rx : Receiver) (share : ℕ) where
  texts_written : (xs : List (List ℕ)) → xs ≡ texts_of (map (written_now rx share) xs)
  texts_written [] = refl
  texts_written (x ∷ xs) = ap (λ (l : List (List ℕ)). x ∷ l) (texts_written xs)

  ages_written : (xs : List (List ℕ)) → AllByRecursion (HasAge 0) (map (written_now rx share) xs)
  ages_written [] = tt
  ages_written (x ∷ xs) = (refl, ages_written xs)

  reports_written : (xs : List (List ℕ)) → map as_written (map (written_now rx share) xs)
      ≡ map (λ (r : Report). Reported r) (map (written_now rx share) xs)
  reports_written [] = refl
  reports_written (x ∷ xs) = ap (λ (l : List CarriedPdu). as_written (written_now rx share x) ∷ l) (reports_written xs)

-- ---- an end that has come so far

pub carries_so : (side : Side) (e : End) (h : HasCome side e) (tti : ℕ) (order : Order) (grant l : ℕ) → 1 ≤ grant
    → grant ≤ 9422 → has l e.bearers ≡ true
    → carried l (sent_by side) (new_block (visited tti order e) grant) ≡ written_by (visited tti order e) grant l
carries_so side e h tti order grant l some most there =
    subst (λ (x : End). has l x.bearers ≡ true
    → carried l (sent_by side) (new_block (visited tti order x) grant) ≡ written_by (visited tti order x) grant l)
    (sym h.end_is)
    (blocks_carry_pdus side h.maximum h.reports h.past h.given tti order grant l some most) there

pub rows_so : (side : Side) (e : End) (h : HasCome side e) (tti : ℕ) (order : Order)
    → length (visited tti order e).numbers ≡ 8
rows_so side e h tti order =
    subst (λ (x : End). length (visited tti order x).numbers ≡ 8) (sym h.end_is)
    (visiting_young side h.maximum h.reports h.past tti order).rows

octets_so : (side : Side) (e : End) (h : HasCome side e) (l : ℕ) (b : State) (share : ℕ) (held : Option ℕ)
    → flow l e ≡ Am b → AllByRecursion HasOctet (offers_in b share held)
octets_so side e h l b share held q =
    some_octets side h.maximum h.reports h.past l b share held h.given (ap (λ (x : End). flow l x) (sym h.end_is) ∙ q)

-- ---- a process that is visited for a new block holds none

no_visit : (o : Option HeldBlock) → resend_or Silent o ≡ New → ⊥
no_visit None q = cc
no_visit (Some b) q = cc

none_held : (o : Option HeldBlock) → resend_or New o ≡ New → o ≡ None
none_held None q = refl
none_held (Some b) q = cc

process_empty : (order : Order) (p : SendProcess) → process_answer order p ≡ New → (process_visited order p).held ≡ None
process_empty orders.Silent p q = cc
process_empty orders.Unseen p q = absurd (no_visit p.held q)
process_empty orders.Free p q = ap (option_map resent) (none_held p.held q)
process_empty (orders.Grant ndi) p q = ap (option_map resent) (none_held (seen ndi p).held q)

pub new_empty : (tti : ℕ) (order : Order) (e : End) → visit tti order e ≡ New
    → held_of (visited tti order e).sender (tti % 8) ≡ None
unfolding visited after_visit visit_answer held_of
new_empty tti order e q =
    let at = tti % 8 in
    let ps = e.sender.processes in
    let x : SendProcess = process_visited order (process_at e.sender tti) in
    let none : Option HeldBlock → Option (List ℕ) = λ o. option_map (λ (b : HeldBlock). b.octets) o in
    elim (cases_lt at (length ps)) [
      | inl lt ↦ ap (λ (p : SendProcess). none p.held) (get_or-set_same ps at x empty lt)
          ∙ ap none (process_empty order (process_at e.sender tti) q)
      | inr ge ↦ ap (λ (p : SendProcess). none p.held)
          (get_or_past (set ps at x) at empty (omega (arith, ge, length-set ps at x)))
    ]

-- ---- a new block

left_most : (w : Bool) (share x : ℕ) → (if w then share - x else share) ≤ share
left_most true share x = omega arith
left_most false share x = omega arith

size_most : (b : State) (share : ℕ) → share ≤ 9424 → data_size b share ≤ 32767
size_most b share most =
    let le = left_most (writes_status b.rx share) share (3 + length (status_pdu b.rx share)) in
    omega (arith, le, most)

or_true : (b : Bool) → b || true ≡ true
or_true true = refl
or_true false = refl

-- what was noted of other processes stays
pub others_keep : (l at : ℕ) (d : Direction) (s t : Sending) (r : Sending) (numbers : Numbers) (row : List (Option ℕ))
    (xs : List Load) → ((p : ℕ) → held_of s p ≡ None → held_of r p ≡ None)
    → AllByRecursion (IsHeldBy at r) (blocks_in xs) → AllByRecursion (IsLoad l d s numbers) xs
    → AllByRecursion (IsLoad l d t (set numbers at row)) xs
others_keep l at d s t r numbers row [] fewer b h = tt
others_keep l at d s t r numbers row (x ∷ xs) fewer b h =
    let q = h.0 in
    let held = b.0 in
    let p = x.block.process in
    let same : get_or (set numbers at row) p [] ≡ get_or numbers p [] =
    get_or-set_other numbers at p row [] held.other in
    let was = q.noted (λ none. held.held (fewer p none)) in (
      record {
        carries = q.carries;
        process = q.process;
        aged = q.aged;
        noted = λ some. rows_keep x.copies same was;
      },
      others_keep l at d s t r numbers row xs fewer b.1 h.1,
    )
  where
    rows_keep : (cs : List Copy) → get_or (set numbers at row) x.block.process [] ≡ get_or numbers x.block.process []
        → AllByRecursion (IsNoted numbers l x.block.process) cs
        → AllByRecursion (IsNoted (set numbers at row) l x.block.process) cs
    rows_keep [] same h = tt
    rows_keep (c ∷ cs) same h = (ap (λ (y : List (Option ℕ)). get_or y l None) same ∙ h.0, rows_keep cs same h.1)

-- ---- a turn in which the end writes

abbrev pub built_end : Station → Turn → End
built_end s t = answered New t (built_by New t.tti t.grant (visited t.tti t.order s.end))

abbrev pub built_station : Station → Turn → Station
built_station s t = record {
  end = built_end s t;
  blocks = built_at New t (visited t.tti t.order s.end) ++ s.blocks;
  busy = s.busy || true;
}

-- what a channel may write in it, and up to which number
abbrev pub part : ℕ → Station → Turn → ℕ
part l s t = share_of (visited t.tti t.order s.end) t.grant l

abbrev pub low : ℕ → Station → Turn → Option ℕ
low l s t = told_held (visited t.tti t.order s.end) l

abbrev pub block_of : Station → Turn → Block
block_of s t = record { process = t.tti % 8; octets = new_block (visited t.tti t.order s.end) t.grant; age = 0 }

pub fewer : (s : Station) (t : Turn) (p : ℕ) → held_of s.end.sender p ≡ None
    → held_of (visited t.tti t.order s.end).sender p ≡ None
unfolding visited
fewer s t p e = visit_fewer s.end.sender t.tti t.order p e

pub blocks_held : (s : Station) (t : Turn) (xs : List Load) → visit t.tti t.order s.end ≡ New → IsBuilding s t
    → blocks_in xs ≡ s.blocks
    → AllByRecursion (IsHeldBy (t.tti % 8) (visited t.tti t.order s.end).sender) (blocks_in xs)
blocks_held s t xs v b are =
    held_by (t.tti % 8) (visited t.tti t.order s.end).sender (blocks_in xs) (new_empty t.tti t.order s.end v)
    (subst (λ (bs : List Block). AllByRecursion (IsHeld (visited t.tti t.order s.end).sender) bs) (sym are) b.held)

pub old_loads : (l : ℕ) (d : Direction) (s : Station) (t : Turn) (xs : List Load) → visit t.tti t.order s.end ≡ New
    → IsBuilding s t → blocks_in xs ≡ s.blocks → AllByRecursion (IsLoad l d s.end.sender s.end.numbers) xs
    → AllByRecursion (IsLoad l d (built_end s t).sender (built_end s t).numbers) xs
unfolding visited loaded
old_loads l d s t xs v b are h =
    others_keep l (t.tti % 8) d s.end.sender (built_end s t).sender (visited t.tti t.order s.end).sender s.end.numbers
    (written (visited t.tti t.order s.end) t.grant).block.numbers xs (fewer s t) (blocks_held s t xs v b are) h

pub row_so : (side : Side) (l : ℕ) (s : Station) (t : Turn) → HasCome side s.end
    → noted_of (built_end s t).numbers l (t.tti % 8) ≡ given_by (visited t.tti t.order s.end) t.grant l
unfolding loaded
row_so side l s t come =
    let rows = rows_so side s.end come t.tti t.order in
    let row = (written (visited t.tti t.order s.end) t.grant).block.numbers in
    let lt : t.tti % 8 < length (visited t.tti t.order s.end).numbers = omega (arith, rows) in
    ap (λ (r : List (Option ℕ)). get_or r l None)
    (get_or-set_same (visited t.tti t.order s.end).numbers (t.tti % 8) row [] lt)
    ∙ row_is (visited t.tti t.order s.end) t.grant l (visited_sound t.tti t.order s.end (come_sound side s.end come))

pub number_so : (l : ℕ) (s : Station) (t : Turn) → has l s.end.bearers ≡ true
    → has_channel l (visited t.tti t.order s.end).buckets.channels ≡ true
    → given_by (visited t.tti t.order s.end) t.grant l ≡ number (flow l s.end) (part l s t) (low l s t)
unfolding visited
number_so l s t there q =
    ap (λ (b : Bool). if b && has l s.end.bearers then number (flow l s.end) (part l s t) (low l s t) else None) q
    ∙ ap (λ (b : Bool). if b then number (flow l s.end) (part l s t) (low l s t) else None) there

-- the bearer of the channel writes, where the channel is one of the end's
module _ (side : Side) (l : ℕ) (s : Station) (n m : BearerEnd) (t : Turn) where
  pub is_taking : visit t.tti t.order s.end ≡ New → Matches side l s n → IsBuilding s t → t.grant ≤ 9422
      → IsTaking n (part l s t) (low l s t)
  unfolding visited
  is_taking v h b most =
      let sound = visited_sound t.tti t.order s.end (come_sound side s.end h.come) in
      record {
        few = size_most n.bearer (part l s t) (share_most (visited t.tti t.order s.end) t.grant l sound most);
        some = octets_so side s.end h.come l n.bearer (part l s t) (low l s t) h.bearer_is;
        lowest = subst (λ (cs : List Copy). AllByRecursion (IsAtLeastHeld (low l s t)) cs) (sym h.copies_are)
            (lowest_all l (t.tti % 8) (sent_by side) s.end.sender
            (visited t.tti t.order s.end).sender s.end.numbers h.loads
            (fewer s t) (blocks_held s t h.loads v b h.blocks_are) h.are);
        one = λ q. let yes : s.busy ≡ true = h.busy q in let no : s.busy ≡ false = b.one in absurd cc;
      }

  given_so : (h : Matches side l s n) → has_channel l (visited t.tti t.order s.end).buckets.channels ≡ true
      → given_by (visited t.tti t.order s.end) t.grant l ≡ number_of (data_given n.bearer (part l s t) (low l s t))
  unfolding visited number
  given_so h q =
      number_so l s t h.there q
      ∙ ap (λ (f : Flow). number f (part l s t) (low l s t)) h.bearer_is
      ∙ ap number_of (answers_given n.bearer (part l s t) (low l s t))

  carries_new : (h : Matches side l s n) → 1 ≤ t.grant → t.grant ≤ 9422
      → carried l (sent_by side) (new_block (visited t.tti t.order s.end) t.grant)
      ≡ written_by (visited t.tti t.order s.end) t.grant l
  carries_new h some most = carries_so side s.end h.come t.tti t.order t.grant l some most h.there

  written_so : (h : Matches side l s n) → has_channel l (visited t.tti t.order s.end).buckets.channels ≡ true
      → written_by (visited t.tti t.order s.end) t.grant l
      ≡ texts_of (reports_now n.bearer.rx (part l s t))
      ++ octets_of (copies_with (data_given n.bearer (part l s t) (low l s t)) [])
  unfolding visited
  written_so h q =
      ap (λ (b : Bool). if b then pdus (flow l s.end) (part l s t) (low l s t) else []) q
      ∙ ap (λ (f : Flow). pdus f (part l s t) (low l s t)) h.bearer_is
      ∙ writes_what_rlc_gives n.bearer (part l s t) (low l s t)
      ∙ ap (λ (x : List (List ℕ)). x ++ pdus_of (data_given n.bearer (part l s t) (low l s t)))
      (texts_written n.bearer.rx (part l s t) (status_pdus n.bearer.rx (part l s t)))
      ∙ ap (λ (x : List (List ℕ)). texts_of (reports_now n.bearer.rx (part l s t)) ++ x)
      (octets_given (data_given n.bearer (part l s t) (low l s t)))

  builds_by : (here : Bool) → visit t.tti t.order s.end ≡ New
      → has_channel l (visited t.tti t.order s.end).buckets.channels ≡ here → (h : Matches side l s n)
      → HasCome side (built_end s t) → IsBuilding s t → t.grant ≤ 9422
      → Acts side l (built_station s t) m n (only here (Takes (part l s t) (low l s t)))
      (written_on l t (visited t.tti t.order s.end) ∷ all_pdus h.loads)
  unfolding visited
  builds_by true v q h come b most =
      let by : GoesBy l s.end.bearers (built_end s t).bearers (Takes (part l s t) (low l s t) ∷ []) =
      subst (λ (x : Bool). GoesBy l s.end.bearers (built_end s t).bearers (only x (Takes (part l s t) (low l s t)))) q
      (turn_by New t (visited t.tti t.order s.end) l
      (visited_sound t.tti t.order s.end (come_sound side s.end h.come))) in
      let data' = data_given n.bearer (part l s t) (low l s t) in
      let status = reports_now n.bearer.rx (part l s t) in
      let load : Load = record { block = block_of s t; copies = copies_with data' []; reports = status } in
      let written : pdus_in load ≡ written_on l t (visited t.tti t.order s.end) =
      ap (λ (ps : List CarriedPdu). ps ++ data_written n.bearer (part l s t) (low l s t))
      (reports_written n.bearer.rx (part l s t) (status_pdus n.bearer.rx (part l s t)))
      ∙ ap (λ (f : Flow). written_in f (part l s t) (low l s t)) (sym h.bearer_is)
      ∙ ap (λ (b : Bool). if b then written_in (flow l s.end) (part l s t) (low l s t) else []) (sym q) in
      record {
        deeds = Calls (Takes (part l s t) (low l s t)) ∷ [];
        done = (is_taking v h b most, tt);
        calls_are = refl;
        now = record {
          matches = record {
            come = come;
            there = by.has_is ∙ h.there;
            bearer_is = by.goes h.there
                ∙ ap (λ (f : Flow). after_all f (Takes (part l s t) (low l s t) ∷ [])) h.bearer_is
                ∙ is_called n.bearer (Takes (part l s t) (low l s t));
            loads = load ∷ h.loads;
            blocks_are = ap (λ (bs : List Block). block_of s t ∷ bs) h.blocks_are;
            copies_are = copies_split data' n.copies
                ∙ ap (λ (cs : List Copy). copies_with data' [] ++ cs) h.copies_are;
            reports_are = ap (λ (rs : List Report). status ++ rs) h.reports_are;
            are = (
              record {
                carries = carries_new h b.some most ∙ written_so h q;
                process = omega arith;
                aged = ages_written n.bearer.rx (part l s t) (status_pdus n.bearer.rx (part l s t));
                noted = λ held. noted_given (built_end s t).numbers l (t.tti % 8) data' (row_so side l s t h.come
                    ∙ given_so h q);
              },
              old_loads l (sent_by side) s t h.loads v b h.blocks_are h.are,
            );
            busy = λ x. or_true s.busy;
          };
          pdus_are = ap (λ (ps : List CarriedPdu). ps ∷ all_pdus h.loads) written;
        };
      }
  builds_by false v q h come b most =
      let by : GoesBy l s.end.bearers (built_end s t).bearers [] =
      subst (λ (x : Bool). GoesBy l s.end.bearers (built_end s t).bearers (only x (Takes (part l s t) (low l s t)))) q
      (turn_by New t (visited t.tti t.order s.end) l
      (visited_sound t.tti t.order s.end (come_sound side s.end h.come))) in
      let load : Load = record { block = block_of s t; copies = []; reports = [] } in
      let none : written_by (visited t.tti t.order s.end) t.grant l ≡ [] =
      ap (λ (x : Bool). if x then pdus (flow l s.end) (part l s t) (low l s t) else []) q in
      record {
        deeds = [];
        done = tt;
        calls_are = refl;
        now = record {
          matches = record {
            come = come;
            there = by.has_is ∙ h.there;
            bearer_is = by.goes h.there ∙ h.bearer_is;
            loads = load ∷ h.loads;
            blocks_are = ap (λ (bs : List Block). block_of s t ∷ bs) h.blocks_are;
            copies_are = h.copies_are;
            reports_are = h.reports_are;
            are = (
              record {
                carries = carries_new h b.some most ∙ none;
                process = omega arith;
                aged = tt;
                noted = λ held. tt;
              },
              old_loads l (sent_by side) s t h.loads v b h.blocks_are h.are,
            );
            busy = λ x. or_true s.busy;
          };
          pdus_are = ap (λ (x : Bool). (if x then written_in (flow l s.end) (part l s t) (low l s t) else [])
              ∷ all_pdus h.loads) (sym q);
        };
      }

-- ---- any visit

visits_by : (side : Side) (l : ℕ) (s : Station) (n m : BearerEnd) (t : Turn) (v : Visit)
    → visit t.tti t.order s.end ≡ v → (h : Matches side l s n)
    → HasCome side (answered v t (built_by v t.tti t.grant (visited t.tti t.order s.end))) → IsVisiting v s t
    → t.grant ≤ 9422
    → Acts side l (record {
      end = answered v t (built_by v t.tti t.grant (visited t.tti t.order s.end));
      blocks = built_at v t (visited t.tti t.order s.end) ++ s.blocks;
      busy = s.busy || is_new_visit v;
    }) m n
    (takes_of v t (visited t.tti t.order s.end) l)
    (with_built l v t (visited t.tti t.order s.end) (all_pdus h.loads))
unfolding visited
visits_by side l s n m t New v h come b most =
    builds_by side l s n m t (has_channel l (visited t.tti t.order s.end).buckets.channels) v refl h come b most
visits_by side l s n m t (Resend rv) v h come b most = record {
  deeds = [];
  done = tt;
  calls_are = refl;
  now = record {
    matches = record {
      come = come;
      there = h.there;
      bearer_is = h.bearer_is;
      loads = h.loads;
      blocks_are = h.blocks_are;
      copies_are = h.copies_are;
      reports_are = h.reports_are;
      are =
          fewer_keep l (sent_by side) s.end.sender
          (after_feedback (after_visit s.end.sender t.tti t.order) t.tti t.good) s.end.numbers h.loads
          (λ p none. feedback_fewer (after_visit s.end.sender t.tti t.order) t.tti t.good p
          (visit_fewer s.end.sender t.tti t.order p none)) h.are;
      busy = λ x. sym (or_none s.busy) ∙ h.busy x;
    };
    pdus_are = refl;
  };
}
visits_by side l s n m t Silent v h come b most = record {
  deeds = [];
  done = tt;
  calls_are = refl;
  now = record {
    matches = record {
      come = come;
      there = h.there;
      bearer_is = h.bearer_is;
      loads = h.loads;
      blocks_are = h.blocks_are;
      copies_are = h.copies_are;
      reports_are = h.reports_are;
      are = fewer_keep l (sent_by side) s.end.sender (after_visit s.end.sender t.tti t.order) s.end.numbers h.loads
          (visit_fewer s.end.sender t.tti t.order) h.are;
      busy = λ x. sym (or_none s.busy) ∙ h.busy x;
    };
    pdus_are = refl;
  };
}

pub visits : (side : Side) (l : ℕ) (s : Station) (n m : BearerEnd) (t : Turn) (h : Matches side l s n)
    → IsGivenCall (Visits t) → IsVisiting (visit t.tti t.order s.end) s t
    → Acts side l (station_calls s (Visits t)) m n (calls_of l s.end (Visits t))
    (behind_call l s.end (Visits t) (all_pdus h.loads))
unfolding built
visits side l s n m t h g b =
    visits_by side l s n m t (visit t.tti t.order s.end) refl h (come_more side s.end (Visits t) h.come g) b g.0
