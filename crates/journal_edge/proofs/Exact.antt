-- Group by group, the verdict is exact.
use Rattle.std.proofs.Common.{◌≡◌, ◌↔◌, ℕ, zero, suc, ◌+◌, ◌<◌, ◌≤◌, Bool, true, false, ◌&&◌, List, [], ◌∷◌, ◌++◌}
use Rattle.std.proofs.Common.{length, map, Option, Some, None, slice_index_or, option_map, refl, ap, sym, ◌∙◌, arith}
use Rattle.std.proofs.Common.{append_assoc, append-nil, replicate, subst, if◌then◌else◌}
use Rattle.std.specs.Prelude.{IsTrue, ◌==◌, ◌^◌}
use Rattle.std.proofs.lemmas.Bool.{and_parts, and_from}
use Rattle.std.proofs.lemmas.List.{append_cancel_left}
use Rattle.eps_sec.specs.declared.Keys.{Keys}
use Rattle.l2_types.specs.declared.channel.Kind.{Kind}
use Rattle.l2_types.specs.declared.channel.Kind.TheVariants as bearers
use Rattle.l2_types.specs.declared.side.Side.{Side}
use Rattle.l2_types.specs.declared.side.Side.TheVariants.{Nb, Ue}
use Rattle.rlc_pdu.specs.declared.constants.TheConstants.{UM_SHORT_WINDOW_SIZE, UM_LONG_WINDOW_SIZE}
use Rattle.bearer_types.specs.declared.config.BearerConfig.{BearerConfig}
use Rattle.bearer_types.specs.Sides.{other}
use Rattle.air_text.specs.Groups.{Group}
use Rattle.promises.specs.Keys.{keys_in_force}
use Rattle.promises.specs.Parts.{is_handover}
use Rattle.promises.specs.Records.{ups_in}
use Rattle.journal_um.specs.declared.pieces.JoinedSdu.{JoinedSdu}
use Rattle.journal_um.specs.UmFlow.{UmFlow, flow_of}
use Rattle.journal_um.specs.UmWindow.{width_of}
use Rattle.journal_um.proofs.Accounts.{um_accounts_are_true}
use Rattle.journal_flows.specs.Gathering.{MayTake}
use Rattle.journal_flows.specs.FlowsTold.{um_flows_told}
use Rattle.journal_flows.specs.UmPdus.{come_in}
use Rattle.journal_flows.specs.Accounts.{Keeping, um_flow_at, kept_within, all_kept}
use Rattle.journal_flows.specs.Accounts as flows
use Rattle.journal_flows.specs.Laws.{Deed, GoesEnd, kept_by, taken_of, begins_on, bearer_on, um_flow_by}
use Rattle.journal_flows.specs.Laws.{um_flow_as, before_taking}
use Rattle.journal_flows.proofs.Groups.{um_flows_are_told}
use Rattle.journal_flows.proofs.Taking.{taking_is_free}
use Rattle.journal_edge.specs.UmReading.{Reader, renewed}
use Rattle.journal_edge.specs.EdgeFlow.{EdgeFlow, flow_all_read, flow_right, flow_ended}
use Rattle.journal_edge.specs.EdgeChecking.{EdgeChecking, Beside, ready_in, ready_at, octets_in, slot_at, slots_read}
use Rattle.journal_edge.specs.EdgeChecking.{slots_leave, slot_right, slots_right, slot_closed, renewed_by}
use Rattle.journal_edge.specs.EdgeChecking.{group_read, group_leaves, after_group}
use Rattle.journal_edge.specs.EdgeChecking.{left_by, nothing_checked, beside_line, beside_records, beside_end}
use Rattle.journal_edge.specs.EdgeChecking.{all_beside}
use Rattle.journal_edge.specs.RightEdge.{life_keys, read_till, IsEdge, GroupEdgesRight}
use Rattle.journal_edge.specs.RightEdge.{EdgeIsRight}
use Rattle.journal_edge.proofs.Pairs.{ArePaired, even_same, same_even}
use Rattle.journal_edge.proofs.Readings.{next_append, read_append, read_to, reads_by, reader_is, pairs_are}
use Rattle.journal_edge.proofs.Edges.{GoesOn, HandsOver, IsGroupRead, handed, next_at, more_read, octets_append}
use Rattle.journal_edge.proofs.Edges.{begins_no_handover, group_begins, group_goes_on, group_hands_over}
use Rattle.journal_edge.proofs.Taking.{kept_whole}
use Rattle.journal_edge.proofs.Walks.{AreRead, all_read_so}
use Rattle.journal_edge.proofs.Inside.{reader_at, SlotIn, SlotFor, slot_step, Rest, IsAtRest, Inside, IsInside}
use Rattle.journal_edge.proofs.Inside.{taken_first}
use Rattle.journal_edge.proofs.Inside.{reader_first, renewal_in, line_step}
use Rattle.journal_edge.proofs.Records.{records_step}

-- ---- what a flow has read as the group ends

record IsFlowRead (from : Side) (l : ℕ) (k : Keeping) (c : EdgeChecking) (before deeds : List Deed) : Type 0 where
  sdus : List JoinedSdu
  taken : taken_of from l deeds ≡ taken_of from l before ++ sdus
  slot : slot_at from l (group_read k c) ≡ option_map (flow_all_read (octets_in sdus)) (slot_at from l c)
  calm : (f : EdgeFlow) → slot_at from l c ≡ Some f → ready_at from l (kept_by deeds) ≡ []

record AllRead (k : Keeping) (c : EdgeChecking) (before : List Deed) : Type 0 where
  deeds : List Deed
  kept : group_leaves k c ≡ kept_by deeds
  whole : kept_whole deeds ≡ kept_whole before
  each : (from : Side) (l : ℕ) → l ≤ 10 → IsFlowRead from l k c before deeds

low : (l size : ℕ) → l ≤ 10 → size ≡ 11 → l < size
low l size h e = omega (arith, h, e)

from_zero : (l : ℕ) → 0 + l ≡ l
from_zero l = omega arith

group_reads : (k : Keeping) (c : EdgeChecking) (before : List Deed) → k ≡ kept_by before → length c.nb ≡ 11
    → length c.ue ≡ 11 → AllRead k c before
group_reads k c before k_is nb ue =
    let a = all_read_so Nb 0 c.nb before in
    let b = all_read_so Ue 0 c.ue a.deeds in
    let between : slots_leave Nb 0 k c.nb ≡ kept_by a.deeds =
    ap (λ (x : Keeping). slots_leave Nb 0 x c.nb) k_is ∙ a.kept in
    record {
      deeds = b.deeds;
      kept = ap (λ (x : Keeping). slots_leave Ue 0 x c.ue) between ∙ b.kept;
      whole = b.whole ∙ a.whole;
      each = λ from l h. by a b between from l h;
    }
  where
    by : (a : AreRead Nb 0 c.nb before) (b : AreRead Ue 0 c.ue a.deeds)
        → slots_leave Nb 0 k c.nb ≡ kept_by a.deeds
        → (from : Side) (l : ℕ) → l ≤ 10 → IsFlowRead from l k c before b.deeds
    by a b between Nb l h =
        let x = a.each l (low l (length c.nb) h nb) in
        record {
          sdus = x.sdus;
          taken = b.others Nb l (λ i. refl)
              ∙ subst (λ (n : ℕ). taken_of Nb n a.deeds ≡ taken_of Nb n before ++ x.sdus) (from_zero l) x.taken;
          slot = ap (λ (y : Keeping). slice_index_or (slots_read Nb 0 y c.nb) l None) k_is ∙ x.slot;
          calm = λ f e. b.stay Nb l (λ i. refl)
              ∙ subst (λ (n : ℕ). ready_at Nb n (kept_by a.deeds) ≡ []) (from_zero l) (x.calm f e);
        }
    by a b between Ue l h =
        let x = b.each l (low l (length c.ue) h ue) in
        record {
          sdus = x.sdus;
          taken = subst (λ (n : ℕ). taken_of Ue n b.deeds ≡ taken_of Ue n a.deeds ++ x.sdus) (from_zero l) x.taken
              ∙ ap (λ (y : List JoinedSdu). y ++ x.sdus) (a.others Ue l (λ i. refl));
          slot = ap (λ (y : Keeping). slice_index_or (slots_read Ue 0 y c.ue) l None) between ∙ x.slot;
          calm = λ f e. subst (λ (n : ℕ). ready_at Ue n (kept_by b.deeds) ≡ []) (from_zero l) (x.calm f e);
        }

-- ---- what was taken is all that was handed up

wide : (bits : ℕ) → 0 < width_of bits
wide bits = by (bits == 5)
  where
    by : (b : Bool) → 0 < (if b then UM_SHORT_WINDOW_SIZE else UM_LONG_WINDOW_SIZE)
    by true = omega arith
    by false = omega arith

ready_back : (taken : List JoinedSdu) (o : Option UmFlow) (whole : UmFlow)
    → option_map (before_taking taken) o ≡ Some whole → ready_in o ≡ [] → taken ≡ whole.joiner.ready
ready_back taken None whole e r = let no : None ≡ Some whole = e in cc
ready_back taken (Some f) whole e r =
    sym (append-nil taken) ∙ ap (λ (x : List JoinedSdu). taken ++ x) (sym r)
    ∙ ap (λ (o : Option UmFlow). ready_in o) e

taken_is_handed : (may_take : MayTake) (past : List Group) (from : Side) (l : ℕ) (config : BearerConfig)
    (deeds : List Deed) → l ≤ 10 → bearer_on l past ≡ Some config → config.kind ≡ bearers.Um
    → kept_whole deeds ≡ all_kept may_take past → ready_at from l (kept_by deeds) ≡ []
    → taken_of from l deeds ≡ handed may_take from l config past
taken_is_handed may_take past from l config deeds h bearer um whole calm =
    let w = width_of config.rlc_bits in
    let many = 2 ^ config.pdcp_bits in
    let es = um_flows_told may_take past from l in
    let flow_is : um_flow_at from l (kept_whole deeds).journal.flows ≡ Some (flow_of w many (come_in es)) =
    ap (λ (k : Keeping). um_flow_at from l k.journal.flows) whole
    ∙ (um_flows_are_told may_take past from l h).behind
    ∙ ap (λ (o : Option BearerConfig). um_flow_by o es) bearer
    ∙ ap (λ (k : Kind). um_flow_as k config es) um in
    ready_back (taken_of from l deeds) (um_flow_at from l (kept_by deeds).journal.flows)
    (flow_of w many (come_in es)) ((taking_is_free deeds from l h).unacked ∙ flow_is) calm
    ∙ (um_accounts_are_true w many (come_in es) (wide config.rlc_bits)).handed

-- ---- a flow as the group ends

record IsFlowEnded (may_take : MayTake) (now : Group) (past : List Group) (from : Side) (l : ℕ)
    (deeds : List Deed) (config : BearerConfig) (renewal : Option Keys) (f : EdgeFlow) : Type 0 where
  rest : IsAtRest may_take (now ∷ past) from l deeds config (renewed_by renewal (flow_ended f))
  sound : flow_right f ≡ true → IsEdge may_take now past from l config
  complete : IsEdge may_take now past from l config → flow_right f ≡ true

-- by what was new in the group
flow_ends : (may_take : MayTake) (now : Group) (past : List Group) (from : Side) (l : ℕ) (deeds : List Deed)
    (config : BearerConfig) (f : EdgeFlow) (new : List JoinedSdu)
    → taken_of from l deeds ≡ handed may_take from l config (now ∷ past)
    → handed may_take from l config (now ∷ past) ≡ taken_first may_take now past from l config ++ new
    → f.reader ≡ read_to (octets_in new) (reader_first may_take now past from l config)
    → ArePaired (reads_by (reader_first may_take now past from l config) (octets_in new))
    (ups_in (other from) l now.events) f.pairs
    → IsFlowEnded may_take now past from l deeds config (renewal_in now past) f
flow_ends may_take now past from l deeds config f new taken hand reader pairs =
    by (begins_on now.line l) refl
  where
    K : Keys
    K = keys_in_force (now ∷ past)

    L : Keys
    L = life_keys l past

    ups : List (List ℕ)
    ups = ups_in (other from) l now.events

    -- the flow of a reader that is so
    ends : (keys : Keys) (next : ℕ) (renewal : Option Keys)
        → reader_first may_take now past from l config
        ≡ reader_at from config keys next
        → IsGroupRead may_take now past from l config keys next new
        → IsAtRest may_take (now ∷ past) from l deeds config (renewed_by renewal (flow_ended f))
        → IsFlowEnded may_take now past from l deeds config renewal f
    ends keys next renewal first read rest = record {
      rest = rest;
      sound = λ e. read.read_is ∙ ap (λ (x : List (List ℕ)). read_till may_take now past from l config ++ x)
          (ap (λ (r : Reader). reads_by r (octets_in new)) (sym first)
          ∙ even_same (reads_by (reader_first may_take now past from l config) (octets_in new)) ups f.pairs pairs e);
      complete = λ e. same_even (reads_by (reader_first may_take now past from l config) (octets_in new)) ups f.pairs
          pairs (ap (λ (r : Reader). reads_by r (octets_in new)) first
          ∙ append_cancel_left (read_till may_take now past from l config) (more_read from config keys next new) ups
          (sym read.read_is ∙ e));
    }

    first_by : (b : Bool) → begins_on now.line l ≡ b
        → reader_first may_take now past from l config ≡ reader_at from config (if b then K else L)
        (if b then 0 else next_at may_take from l config past)
    first_by b e = ap (λ (x : Bool). reader_at from config (if x then K else L)
        (if x then 0 else next_at may_take from l config past)) e

    -- one that goes on
    on : (keys : Keys) (next : ℕ)
        → reader_first may_take now past from l config
        ≡ reader_at from config keys next
        → GoesOn may_take now past from l config keys next new → renewal_in now past ≡ None
        → IsFlowEnded may_take now past from l deeds config (renewal_in now past) f
    on keys next first g none = subst (λ (o : Option Keys). IsFlowEnded may_take now past from l deeds config o f)
        (sym none) (ends keys next None first g.read (record {
          pairs = refl;
          reader = reader ∙ ap (λ (r : Reader). read_to (octets_in new) r) first
              ∙ ap (λ (n : ℕ). reader_at from config keys n) (sym g.next_is)
              ∙ ap (λ (ks : Keys). reader_at from config ks (next_at may_take from l config (now ∷ past)))
              (sym g.keys_are);
          taken = taken;
        }))

    -- one that begins anew
    over : (keys : Keys) (next : ℕ)
        → reader_first may_take now past from l config
        ≡ reader_at from config keys next
        → HandsOver may_take now past from l config keys next new → renewal_in now past ≡ Some K
        → IsFlowEnded may_take now past from l deeds config (renewal_in now past) f
    over keys next first g some = subst (λ (o : Option Keys). IsFlowEnded may_take now past from l deeds config o f)
        (sym some) (ends keys next (Some K) first g.read (record {
          pairs = refl;
          reader = ap (λ (r : Reader). renewed K r)
              (reader ∙ ap (λ (r : Reader). read_to (octets_in new) r) first)
              ∙ ap (λ (n : ℕ). reader_at from config K n) (sym g.next_is)
              ∙ ap (λ (ks : Keys). reader_at from config ks (next_at may_take from l config (now ∷ past)))
              (sym g.keys_are);
          taken = taken;
        }))

    renewal_by : (b : Bool) → is_handover now.line ≡ b → renewal_in now past ≡ (if b then Some K else None)
    renewal_by b e = ap (λ (x : Bool). if x then Some K else None) e

    first_hand : (b : Bool) → begins_on now.line l ≡ b
        → handed may_take from l config (now ∷ past) ≡ (if b then [] else handed may_take from l config past) ++ new
    first_hand b e = hand ∙ ap (λ (x : Bool). (if x then [] else handed may_take from l config past) ++ new) e

    hands : (b : Bool) → is_handover now.line ≡ b → begins_on now.line l ≡ false
        → IsFlowEnded may_take now past from l deeds config (renewal_in now past) f
    hands false h e = on L (next_at may_take from l config past) (first_by false e)
        (group_goes_on may_take now past from l config new e h (first_hand false e)) (renewal_by false h)
    hands true h e = over L (next_at may_take from l config past) (first_by false e)
        (group_hands_over may_take now past from l config new e h (first_hand false e)) (renewal_by true h)

    by : (b : Bool) → begins_on now.line l ≡ b
        → IsFlowEnded may_take now past from l deeds config (renewal_in now past) f
    by true e = on K 0 (first_by true e) (group_begins may_take now past from l config new e (first_hand true e))
        (renewal_by false (begins_no_handover now.line l e))
    by false e = hands (is_handover now.line) refl e

-- ---- all flows

record IsEnded (may_take : MayTake) (now : Group) (past : List Group) (right : Bool) (b : Beside) : Type 0 where
  rest : Rest may_take (now ∷ past) (beside_end b)
  sound : (beside_end b).checked.right ≡ true → (right ≡ true) × GroupEdgesRight may_take now past
  complete : right ≡ true → GroupEdgesRight may_take now past → (beside_end b).checked.right ≡ true

map_at : (g : Option EdgeFlow → Option EdgeFlow) (xs : List (Option EdgeFlow)) (i : ℕ) → g None ≡ None
    → slice_index_or (map g xs) i None ≡ g (slice_index_or xs i None)
map_at g [] i e = sym e
map_at g (x ∷ xs) zero e = refl
map_at g (x ∷ xs) (suc i) e = map_at g xs i e

closed_slot : (renewal : Option Keys) (slot : Option EdgeFlow)
    → slot_closed renewal slot ≡ option_map (λ (f : EdgeFlow). renewed_by renewal (flow_ended f)) slot
closed_slot renewal None = refl
closed_slot renewal (Some f) = refl

closed_at : (from : Side) (l : ℕ) (k : Keeping) (c : EdgeChecking)
    → slot_at from l (after_group k c) ≡ slot_closed c.renewal (slot_at from l (group_read k c))
closed_at Nb l k c = map_at (slot_closed c.renewal) (slots_read Nb 0 k c.nb) l refl
closed_at Ue l k c = map_at (slot_closed c.renewal) (slots_read Ue 0 (slots_leave Nb 0 k c.nb) c.ue) l refl

read_size : (from : Side) (n : ℕ) (k : Keeping) (xs : List (Option EdgeFlow))
    → length (slots_read from n k xs) ≡ length xs
read_size from n k [] = refl
read_size from n k (x ∷ xs) = ap suc (read_size from (n + 1) (left_by from n k x) xs)

map_size : (g : Option EdgeFlow → Option EdgeFlow) (xs : List (Option EdgeFlow)) → length (map g xs) ≡ length xs
map_size g [] = refl
map_size g (x ∷ xs) = ap suc (map_size g xs)

rights : (xs : List (Option EdgeFlow)) → slots_right xs ≡ true → (i : ℕ) → slot_right (slice_index_or xs i None) ≡ true
rights [] h i = refl
rights (x ∷ xs) h zero = (and_parts (slot_right x) (slots_right xs) h).0
rights (x ∷ xs) h (suc i) = rights xs (and_parts (slot_right x) (slots_right xs) h).1 i

all_rights : (xs : List (Option EdgeFlow)) → ((i : ℕ) → i < length xs → slot_right (slice_index_or xs i None) ≡ true)
    → slots_right xs ≡ true
all_rights [] h = refl
all_rights (x ∷ xs) h = and_from (slot_right x) (slots_right xs) (h 0 (omega arith))
    (all_rights xs (λ i lt. h (suc i) (omega (arith, lt))))

record UmSlot (P : BearerConfig → EdgeFlow → Type 0) (config : BearerConfig) (slot : Option EdgeFlow) : Type 0 where
  flow : EdgeFlow
  slot_is : slot ≡ Some flow
  is : P config flow

um_slot : (P : BearerConfig → EdgeFlow → Type 0) (bearer : Option BearerConfig) (config : BearerConfig)
    (slot : Option EdgeFlow) → bearer ≡ Some config → config.kind ≡ bearers.Um → SlotFor P bearer slot
    → UmSlot P config slot
um_slot P bearer config slot b u h =
    let x = subst (λ (o : Option BearerConfig). SlotFor P o slot) b h in
    let y = subst (λ (k : Kind). SlotIn P k config slot) u x in
    record { flow = y.0; slot_is = y.1; is = y.2 }

closed_step : (renewal : Option Keys) (sdus : List (List ℕ)) (slot : Option EdgeFlow)
    → slot_closed renewal (option_map (flow_all_read sdus) slot)
    ≡ option_map (λ (f : EdgeFlow). renewed_by renewal (flow_ended (flow_all_read sdus f))) slot
closed_step renewal sdus None = refl
closed_step renewal sdus (Some f) = refl

end_step : (may_take : MayTake) (now : Group) (past : List Group) (right : Bool) (b : Beside)
    → Inside may_take now past right now.events (kept_within may_take now past (all_kept may_take past)) b
    → IsEnded may_take now past right b
end_step may_take now past right b i = record {
  rest = record {
    deeds = r.deeds;
    kept = r.kept;
    whole = whole;
    keys = i.keys;
    renewal = refl;
    nb_size = map_size (slot_closed c.renewal) (slots_read Nb 0 k c.nb) ∙ read_size Nb 0 k c.nb ∙ i.nb_size;
    ue_size = map_size (slot_closed c.renewal) (slots_read Ue 0 (slots_leave Nb 0 k c.nb) c.ue)
        ∙ read_size Ue 0 (slots_leave Nb 0 k c.nb) c.ue ∙ i.ue_size;
    flows = λ from l h. slot_step (P from l) (IsAtRest may_take (now ∷ past) from l r.deeds)
        (λ (f : EdgeFlow). renewed_by c.renewal (flow_ended (flow_all_read (octets_in (r.each from l h).sdus) f)))
        (bearer_on l (now ∷ past)) (slot_at from l c) (slot_at from l (after_group k c))
        (closed_at from l k c ∙ ap (λ (s : Option EdgeFlow). slot_closed c.renewal s) (r.each from l h).slot
        ∙ closed_step c.renewal (octets_in (r.each from l h).sdus) (slot_at from l c))
        (λ config f bearer um slot inside. subst (λ (o : Option Keys). IsAtRest may_take (now ∷ past) from l r.deeds
        config (renewed_by o (flow_ended (flow_all_read (octets_in (r.each from l h).sdus) f)))) (sym i.renewal)
        (ended from l h config f bearer um slot inside).rest) (i.flows from l h);
  };
  sound = λ e. let two = and_parts (c.right && slots_right nb') (slots_right ue') e in
      let one = and_parts c.right (slots_right nb') two.0 in
      (sym i.right_is ∙ one.0, λ from l config h bearer um. edge from l config h bearer um one.1 two.1);
  complete = λ e edges. and_from (c.right && slots_right nb') (slots_right ue')
      (and_from c.right (slots_right nb') (i.right_is ∙ e)
      (all_rights nb' (λ l lt. slot_is_right Nb l (high l (length nb') lt nb_size') edges)))
      (all_rights ue' (λ l lt. slot_is_right Ue l (high l (length ue') lt ue_size') edges));
}
  where
    c : EdgeChecking
    c = b.checked

    k : Keeping
    k = flows.after_group b.kept

    before : List Deed
    before = GoesEnd ∷ i.deeds

    r : AllRead k c before
    r = group_reads k c before (ap (λ (x : Keeping). flows.after_group x) i.kept) i.nb_size i.ue_size

    nb' : List (Option EdgeFlow)
    nb' = slots_read Nb 0 k c.nb

    ue' : List (Option EdgeFlow)
    ue' = slots_read Ue 0 (slots_leave Nb 0 k c.nb) c.ue

    nb_size' : length nb' ≡ 11
    nb_size' = read_size Nb 0 k c.nb ∙ i.nb_size

    ue_size' : length ue' ≡ 11
    ue_size' = read_size Ue 0 (slots_leave Nb 0 k c.nb) c.ue ∙ i.ue_size

    high : (l size : ℕ) → l < size → size ≡ 11 → l ≤ 10
    high l size h e = omega (arith, h, e)

    whole : kept_whole r.deeds ≡ all_kept may_take (now ∷ past)
    whole = r.whole ∙ ap (λ (x : Keeping). flows.after_group x) i.whole

    P : Side → ℕ → BearerConfig → EdgeFlow → Type 0
    P from l = IsInside may_take now past from l now.events i.deeds

    ended : (from : Side) (l : ℕ) (h : l ≤ 10) (config : BearerConfig) (f : EdgeFlow)
        → bearer_on l (now ∷ past) ≡ Some config → config.kind ≡ bearers.Um → slot_at from l c ≡ Some f
        → P from l config f
        → IsFlowEnded may_take now past from l r.deeds config (renewal_in now past)
        (flow_all_read (octets_in (r.each from l h).sdus) f)
    ended from l h config f bearer um slot inside =
        let x = r.each from l h in
        let r0 = reader_first may_take now past from l config in
        let old' = octets_in inside.new in
        let more' = octets_in x.sdus in
        let new = inside.new ++ x.sdus in
        let read' : reads_by r0 (octets_in new) ≡ reads_by r0 old' ++ reads_by f.reader more' =
        ap (λ (y : List (List ℕ)). reads_by r0 y) (octets_append inside.new x.sdus)
        ∙ read_append r0.bits r0.protection r0.next old' more'
        ∙ ap (λ (y : Reader). reads_by r0 old' ++ reads_by y more') (sym inside.reader) in
        let taken : taken_of from l r.deeds ≡ taken_first may_take now past from l config ++ new =
        x.taken ∙ ap (λ (y : List JoinedSdu). y ++ x.sdus) inside.taken
        ∙ append_assoc (taken_first may_take now past from l config) inside.new x.sdus in
        let hand = taken_is_handed may_take (now ∷ past) from l config r.deeds h bearer um whole (x.calm f slot) in
        flow_ends may_take now past from l r.deeds config (flow_all_read more' f) new hand (sym hand ∙ taken)
        (reader_is more' f ∙ ap (λ (y : Reader). read_to more' y) inside.reader
        ∙ ap (λ (n : ℕ). record r0 { next = n }) (sym (next_append r0.bits r0.protection r0.next old' more'))
        ∙ ap (λ (y : List (List ℕ)). read_to y r0) (sym (octets_append inside.new x.sdus)))
        (subst (λ (y : List (List ℕ)). ArePaired y (ups_in (other from) l now.events) (flow_all_read more' f).pairs)
        (sym read') (pairs_are more' (reads_by r0 old') (ups_in (other from) l now.events) f inside.pairs))

    read_slot' : (from : Side) (l : ℕ) (h : l ≤ 10) (f : EdgeFlow) → slot_at from l c ≡ Some f
        → slot_at from l (group_read k c) ≡ Some (flow_all_read (octets_in (r.each from l h).sdus) f)
    read_slot' from l h f e = (r.each from l h).slot
        ∙ ap (λ (s : Option EdgeFlow). option_map (flow_all_read (octets_in (r.each from l h).sdus)) s) e

    no_slot' : (from : Side) (l : ℕ) (h : l ≤ 10) → slot_at from l c ≡ None
        → slot_right (slot_at from l (group_read k c)) ≡ true
    no_slot' from l h e = ap (λ (s : Option EdgeFlow). slot_right s) ((r.each from l h).slot
        ∙ ap (λ (s : Option EdgeFlow). option_map (flow_all_read (octets_in (r.each from l h).sdus)) s) e)

    right_at : (from : Side) (l : ℕ) → slots_right nb' ≡ true → slots_right ue' ≡ true
        → slot_right (slot_at from l (group_read k c)) ≡ true
    right_at Nb l n u = rights nb' n l
    right_at Ue l n u = rights ue' u l

    edge : (from : Side) (l : ℕ) (config : BearerConfig) → l ≤ 10 → bearer_on l (now ∷ past) ≡ Some config
        → config.kind ≡ bearers.Um → slots_right nb' ≡ true → slots_right ue' ≡ true
        → IsEdge may_take now past from l config
    edge from l config h bearer um n u =
        let s = um_slot (P from l) (bearer_on l (now ∷ past)) config (slot_at from l c) bearer um (i.flows from l h) in
        (ended from l h config s.flow bearer um s.slot_is s.is).sound
        (sym (ap (λ (o : Option EdgeFlow). slot_right o) (read_slot' from l h s.flow s.slot_is)) ∙ right_at from l n u)

    slot_is_right : (from : Side) (l : ℕ) → l ≤ 10 → GroupEdgesRight may_take now past
        → slot_right (slot_at from l (group_read k c)) ≡ true
    slot_is_right from l h edges = by (bearer_on l (now ∷ past)) refl (i.flows from l h)
      where
        by : (o : Option BearerConfig) → bearer_on l (now ∷ past) ≡ o → SlotFor (P from l) o (slot_at from l c)
            → slot_right (slot_at from l (group_read k c)) ≡ true
        by None e s = no_slot' from l h s
        by (Some config) e s = kind config.kind refl s
          where
            kind : (q : Kind) → config.kind ≡ q → SlotIn (P from l) q config (slot_at from l c)
                → slot_right (slot_at from l (group_read k c)) ≡ true
            kind bearers.Tm q s = no_slot' from l h s
            kind bearers.Srb q s = no_slot' from l h s
            kind bearers.Am q s = no_slot' from l h s
            kind bearers.Um q s = ap (λ (o : Option EdgeFlow). slot_right o) (read_slot' from l h s.0 s.1)
                ∙ (ended from l h config s.0 e q s.1 s.2).complete (edges from l config h e q)

-- ---- a journal

abbrev no_slot : Option EdgeFlow
no_slot = None

none_at : (n l : ℕ) → slice_index_or (replicate n no_slot) l None ≡ None
none_at zero l = refl
none_at (suc n) zero = refl
none_at (suc n) (suc l) = none_at n l

record IsExact (may_take : MayTake) (past : List Group) : Type 0 where
  rest : Rest may_take past (all_beside may_take past)
  sound : (all_beside may_take past).checked.right ≡ true → EdgeIsRight may_take past
  complete : EdgeIsRight may_take past → (all_beside may_take past).checked.right ≡ true

first_slot : (from : Side) (l : ℕ) → slot_at from l nothing_checked ≡ None
first_slot Nb l = none_at 11 l
first_slot Ue l = none_at 11 l

exact : (may_take : MayTake) (past : List Group) → IsExact may_take past
exact may_take [] = record {
  rest = record {
    deeds = [];
    kept = refl;
    whole = refl;
    keys = refl;
    renewal = refl;
    nb_size = refl;
    ue_size = refl;
    flows = λ from l h. first_slot from l;
  };
  sound = λ e. tt;
  complete = λ e. refl;
}
exact may_take (now ∷ past) =
    let before = exact may_take past in
    let b = all_beside may_take past in
    let i = records_step may_take now past b.checked.right [] [] now.events
    (flows.after_line now.line (all_kept may_take past)) (beside_line now.line b)
    (line_step may_take now past b before.rest) in
    let e = end_step may_take now past b.checked.right
    (beside_records may_take past [] now.events (beside_line now.line b)) i in
    record {
      rest = e.rest;
      sound = λ r. let s = e.sound r in (s.1, before.sound s.0);
      complete = λ h. e.complete (before.complete h.1) h.0;
    }

pub verdict_exact : (may_take : MayTake) (past : List Group)
    → IsTrue (all_beside may_take past).checked.right ↔ EdgeIsRight may_take past
verdict_exact may_take past = let e = exact may_take past in (e.sound, e.complete)
