-- What records tell of one direction of a channel is what becomes of its flow as they are seen.
use Rattle.std.proofs.Common.{◌≡◌, ℕ, ◌^◌, ◌==◌, ◌&&◌, ◌||◌, not, Bool, true, false, if◌then◌else◌, List, []}
use Rattle.std.proofs.Common.{◌∷◌, ◌++◌, map, Option, Some, None, is_some, slice_index_or, refl, ap, arith}
use Rattle.std.proofs.Common.{◌∙◌}
use Rattle.std.specs.Prelude.{option_map}
use Rattle.std.proofs.lemmas.Bool.Decides.{nat_tests}
use Rattle.air_record.specs.declared.record.Record.{Record}
use Rattle.mac_pdu.specs.declared.item.Direction.{Direction}
use Rattle.mac_pdu.specs.declared.item.Direction.TheVariants.{Down, Up}
use Rattle.um_losses.specs.declared.cursor.Change.{Change}
use Rattle.um_losses.specs.declared.flow.Happening.{Happening}
use Rattle.um_losses.specs.declared.flow.Happening.TheVariants.{BlockRenewed, PduWritten, BlockArrived, PduForged}
use Rattle.um_losses.specs.declared.flow.Happening.TheVariants.{TimerExpired, LifeRestarted}
use Rattle.um_losses.specs.declared.flow.Whose.{Whose}
use Rattle.um_losses.specs.declared.flow.Whose.TheVariants.{All, Each, One}
use Rattle.um_losses.specs.declared.pdu.Pdu.{Pdu}
use Rattle.um_losses.specs.declared.sending.InFlight.{InFlight}
use Rattle.um_losses.specs.Flow.{Flow, begun, heard, arrived_if, after, is_of, concerns}
use Rattle.bearer_types.specs.Sides.{is_same_way}
use Rattle.um_losses.specs.Gaps.{numbered}
use Rattle.um_losses.specs.Losses.{Losses, is_long, is_bearer, both, with_bearer, changed_one, changed, seen}
use Rattle.um_losses.specs.Losses.{handed_over}
use Rattle.um_losses.specs.Pdus.{is_pdu}
use Rattle.um_losses.specs.Records.{passed, change_of}
use Rattle.um_losses.specs.Told.{is_for, picked, all_after, flow_at}

-- ---- a flow stays that of its direction and channel

record Stays (f g : Flow) : Type 0 where
  direction_is : g.direction ≡ f.direction
  lcid_is : g.lcid ≡ f.lcid

stays_if : (b : Bool) (f g : Flow) → Stays f g → Stays f (if b then g else f)
stays_if true f g h = h
stays_if false f g h = record { direction_is = refl; lcid_is = refl }

heard_stays : (first : Option ℕ) (p : Pdu) (f : Flow) → Stays f (heard first p f)
heard_stays first p f = stays_if (is_pdu f.bits p) f _ (record { direction_is = refl; lcid_is = refl })

arrived_stays : (s : Option InFlight) (f : Flow) → Stays f (arrived_if s f)
arrived_stays None f = record { direction_is = refl; lcid_is = refl }
arrived_stays (Some s) f =
    let h = heard_stays (Some s.first) s.pdu (record f { gaps = numbered s.number f.gaps }) in
    record { direction_is = h.direction_is; lcid_is = h.lcid_is }

after_stays : (what : Happening) (f : Flow) → Stays f (after what f)
after_stays (BlockRenewed process) f = record { direction_is = refl; lcid_is = refl }
after_stays (PduWritten process p) f = stays_if (is_pdu f.bits p) f _ (record { direction_is = refl; lcid_is = refl })
after_stays (BlockArrived process) f = arrived_stays (slice_index_or f.sending.under_way process None) f
after_stays (PduForged p) f = heard_stays None p f
after_stays TimerExpired f = record { direction_is = refl; lcid_is = refl }
after_stays LifeRestarted f = record { direction_is = refl; lcid_is = refl }

of_stays : (d : Direction) (l : ℕ) (f g : Flow) → Stays f g → is_of d l g ≡ is_of d l f
of_stays d l f g h = ap (λ (x : Direction). is_same_way x d && (g.lcid == l)) h.direction_is
    ∙ ap (λ (n : ℕ). is_same_way f.direction d && (n == l)) h.lcid_is

changed_stays : (change : Change) (f : Flow) → Stays f (changed_one change f)
changed_stays change f = stays_if (concerns change.whose f) f (after change.what f) (after_stays change.what f)

-- ---- whom a change concerns

both_true : (x y : Bool) → (x && y) ≡ true → (x ≡ true) × (y ≡ true)
both_true true y e = (refl, e)
both_true false y e = absurd cc

same_is : (a b : Direction) → is_same_way a b ≡ true → a ≡ b
same_is Down Down e = refl
same_is Down Up e = absurd cc
same_is Up Down e = absurd cc
same_is Up Up e = refl

flipped : (b : Bool) (m n : ℕ) → (m == n) ≡ b → (n == m) ≡ b
flipped true m n e = grind (arith, nat_tests)
flipped false m n e = grind (arith, nat_tests)

concerns_so : (d : Direction) (l : ℕ) (whose : Whose) (f : Flow) → f.direction ≡ d → f.lcid ≡ l
    → concerns whose f ≡ is_for d l whose
concerns_so d l All f e n = refl
concerns_so d l (Each direction) f e n = ap (λ (x : Direction). is_same_way x direction) e
concerns_so d l (One direction lcid) f e n =
    ap (λ (x : Direction). is_same_way x direction && (f.lcid == lcid)) e
    ∙ ap (λ (m : ℕ). is_same_way d direction && (m == lcid)) n
    ∙ ap (λ (b : Bool). is_same_way d direction && b) (flipped (lcid == l) lcid l refl)

turned : (b : Bool) (what : Happening) (f : Flow)
    → (if b then after what f else f) ≡ all_after (if b then what ∷ [] else []) f
turned true what f = refl
turned false what f = refl

changed_so : (d : Direction) (l : ℕ) (change : Change) (f : Flow) → is_of d l f ≡ true
    → changed_one change f ≡ all_after (picked d l (Some change)) f
changed_so d l change f e =
    let parts = both_true (is_same_way f.direction d) (f.lcid == l) e in
    let direction_is : f.direction ≡ d = same_is f.direction d parts.0 in
    let same : (f.lcid == l) ≡ true = parts.1 in
    let lcid_is : f.lcid ≡ l = grind (arith, nat_tests) in
    ap (λ (b : Bool). if b then after change.what f else f) (concerns_so d l change.whose f direction_is lcid_is)
    ∙ turned (is_for d l change.whose) change.what f

-- ---- the flow as records are seen

at_head : (b : Bool) (x y : Flow) (o : Option Flow) → (if b then Some x else o) ≡ Some y → b ≡ true → x ≡ y
at_head true x y o e is = cc
at_head false x y o e is = absurd cc

behind_head : (b : Bool) (x y : Flow) (o : Option Flow) → (if b then Some x else o) ≡ Some y → b ≡ false → o ≡ Some y
behind_head true x y o e is = absurd cc
behind_head false x y o e is = e

all_changed : (d : Direction) (l : ℕ) (change : Change) (fs : List Flow) (f : Flow) → flow_at d l fs ≡ Some f
    → flow_at d l (map (changed_one change) fs) ≡ Some (all_after (picked d l (Some change)) f)
all_changed d l change [] f e = absurd cc
all_changed d l change (g ∷ gs) f e = by (is_of d l g) refl (λ x. all_changed d l change gs f x)
  where
    same : is_of d l (changed_one change g) ≡ is_of d l g
    same = of_stays d l g (changed_one change g) (changed_stays change g)

    by : (b : Bool) → is_of d l g ≡ b
        → (flow_at d l gs ≡ Some f → flow_at d l (map (changed_one change) gs)
        ≡ Some (all_after (picked d l (Some change)) f))
        → flow_at d l (changed_one change g ∷ map (changed_one change) gs)
        ≡ Some (all_after (picked d l (Some change)) f)
    by true is rest =
        ap (λ (b : Bool). if b then Some (changed_one change g) else flow_at d l (map (changed_one change) gs))
        (same ∙ is)
        ∙ ap (λ (x : Flow). Some x) (changed_so d l change g is
        ∙ ap (all_after (picked d l (Some change))) (at_head (is_of d l g) g f (flow_at d l gs) e is))
    by false is rest =
        ap (λ (b : Bool). if b then Some (changed_one change g) else flow_at d l (map (changed_one change) gs))
        (same ∙ is)
        ∙ rest (behind_head (is_of d l g) g f (flow_at d l gs) e is)

changed_flow : (d : Direction) (l : ℕ) (change : Option Change) (fs : List Flow) (f : Flow) → flow_at d l fs ≡ Some f
    → flow_at d l (changed change fs) ≡ Some (all_after (picked d l change) f)
changed_flow d l None fs f e = e
changed_flow d l (Some change) fs f e = all_changed d l change fs f e

pub seen_flow : (d : Direction) (l : ℕ) (one : Record) (w : Losses) (f : Flow) → flow_at d l w.flows ≡ Some f
    → flow_at d l (seen one w).flows ≡ Some (all_after (picked d l (change_of one w.cursor)) f)
unfolding seen
seen_flow d l one w f e = changed_flow d l (change_of one w.cursor) w.flows f e

pub seen_place : (one : Record) (w : Losses) → (seen one w).cursor ≡ passed one w.cursor
unfolding seen
seen_place one w = refl

pub handed_flow : (d : Direction) (l : ℕ) (w : Losses) (f : Flow) → flow_at d l w.flows ≡ Some f
    → flow_at d l (handed_over w).flows ≡ Some (after LifeRestarted f)
unfolding handed_over
handed_flow d l w f e = changed_flow d l (Some (record { whose = All; what = LifeRestarted })) w.flows f e

pub handed_place : (w : Losses) → (handed_over w).cursor ≡ w.cursor
unfolding handed_over
handed_place w = refl

-- ---- bearers come

more_flow : (d : Direction) (l : ℕ) (fs gs : List Flow) (f : Flow) → flow_at d l fs ≡ Some f
    → flow_at d l (fs ++ gs) ≡ Some f
more_flow d l [] gs f e = absurd cc
more_flow d l (g ∷ fs) gs f e = by (is_of d l g) refl (λ x. more_flow d l fs gs f x)
  where
    by : (b : Bool) → is_of d l g ≡ b → (flow_at d l fs ≡ Some f → flow_at d l (fs ++ gs) ≡ Some f)
        → flow_at d l (g ∷ (fs ++ gs)) ≡ Some f
    by true is rest = rw is (ap (λ (x : Flow). Some x) (at_head (is_of d l g) g f (flow_at d l fs) e is))
    by false is rest = rw is (rest (behind_head (is_of d l g) g f (flow_at d l fs) e is))

none_head : (b : Bool) (x : Flow) (o : Option Flow) → (if b then Some x else o) ≡ None → (b ≡ false) × (o ≡ None)
none_head true x o e = absurd cc
none_head false x o e = (refl, e)

none_more : (d : Direction) (l : ℕ) (fs gs : List Flow) → flow_at d l fs ≡ None
    → flow_at d l (fs ++ gs) ≡ flow_at d l gs
none_more d l [] gs e = refl
none_more d l (g ∷ fs) gs e =
    let parts = none_head (is_of d l g) g (flow_at d l fs) e in
    ap (λ (b : Bool). if b then Some g else flow_at d l (fs ++ gs)) parts.0 ∙ none_more d l fs gs parts.1

pub bearer_flow : (d : Direction) (l lcid rlc_bits pdcp_bits : ℕ) (w : Losses) (f : Flow)
    → flow_at d l w.flows ≡ Some f → flow_at d l (with_bearer lcid rlc_bits pdcp_bits w).flows ≡ Some f
bearer_flow d l lcid rlc_bits pdcp_bits w f e =
    by (not (is_bearer lcid rlc_bits pdcp_bits) || is_some (is_long Down lcid w.flows))
  where
    by : (b : Bool)
        → flow_at d l (if b then w else record w { flows = w.flows ++ both lcid rlc_bits pdcp_bits }).flows ≡ Some f
    by true = e
    by false = more_flow d l w.flows (both lcid rlc_bits pdcp_bits) f e

pub bearer_place : (lcid rlc_bits pdcp_bits : ℕ) (w : Losses)
    → (with_bearer lcid rlc_bits pdcp_bits w).cursor ≡ w.cursor
bearer_place lcid rlc_bits pdcp_bits w =
    by (not (is_bearer lcid rlc_bits pdcp_bits) || is_some (is_long Down lcid w.flows))
  where
    by : (b : Bool) → (if b then w else record w { flows = w.flows ++ both lcid rlc_bits pdcp_bits }).cursor ≡ w.cursor
    by true = refl
    by false = refl

both_none : (d : Direction) (l lcid rlc_bits pdcp_bits : ℕ) → (lcid == l) ≡ false
    → flow_at d l (both lcid rlc_bits pdcp_bits) ≡ None
both_none Down l lcid rlc_bits pdcp_bits e = rw e refl
both_none Up l lcid rlc_bits pdcp_bits e = rw e refl

pub bearer_none : (d : Direction) (l lcid rlc_bits pdcp_bits : ℕ) (w : Losses) → (lcid == l) ≡ false
    → flow_at d l w.flows ≡ None → flow_at d l (with_bearer lcid rlc_bits pdcp_bits w).flows ≡ None
bearer_none d l lcid rlc_bits pdcp_bits w apart e =
    by (not (is_bearer lcid rlc_bits pdcp_bits) || is_some (is_long Down lcid w.flows))
  where
    by : (b : Bool)
        → flow_at d l (if b then w else record w { flows = w.flows ++ both lcid rlc_bits pdcp_bits }).flows ≡ None
    by true = e
    by false = none_more d l w.flows (both lcid rlc_bits pdcp_bits) e ∙ both_none d l lcid rlc_bits pdcp_bits apart

-- the sum's word of a flow
pub long_is : (d : Direction) (l : ℕ) (fs : List Flow)
    → is_long d l fs ≡ option_map (λ (f : Flow). f.gaps.long) (flow_at d l fs)
long_is d l [] = refl
long_is d l (f ∷ fs) = by (is_of d l f) (long_is d l fs)
  where
    by : (b : Bool) → is_long d l fs ≡ option_map (λ (g : Flow). g.gaps.long) (flow_at d l fs)
        → (if b then Some f.gaps.long else is_long d l fs)
        ≡ option_map (λ (g : Flow). g.gaps.long) (if b then Some f else flow_at d l fs)
    by true rest = refl
    by false rest = rest

itself : (l : ℕ) → (l == l) ≡ true
itself l = grind (arith, nat_tests)

both_flow : (d : Direction) (l rlc_bits pdcp_bits : ℕ)
    → flow_at d l (both l rlc_bits pdcp_bits) ≡ Some (begun d l rlc_bits (2 ^ pdcp_bits))
both_flow Down l rlc_bits pdcp_bits = rw (itself l) refl
both_flow Up l rlc_bits pdcp_bits = rw (itself l) refl

pub bearer_new : (d : Direction) (l rlc_bits pdcp_bits : ℕ) (w : Losses) → is_bearer l rlc_bits pdcp_bits ≡ true
    → flow_at Down l w.flows ≡ None → flow_at d l w.flows ≡ None
    → flow_at d l (with_bearer l rlc_bits pdcp_bits w).flows ≡ Some (begun d l rlc_bits (2 ^ pdcp_bits))
bearer_new d l rlc_bits pdcp_bits w can none e =
    let unknown : is_long Down l w.flows ≡ None = long_is Down l w.flows
    ∙ ap (option_map (λ (f : Flow). f.gaps.long)) none in
    ap (λ (b : Bool). flow_at d l (if not b || is_some (is_long Down l w.flows) then w
    else record w { flows = w.flows ++ both l rlc_bits pdcp_bits }).flows) can
    ∙ ap
    (λ (o : Option Bool). flow_at d l (if is_some o then w
    else record w { flows = w.flows ++ both l rlc_bits pdcp_bits }).flows) unknown
    ∙ none_more d l w.flows (both l rlc_bits pdcp_bits) e ∙ both_flow d l rlc_bits pdcp_bits
