-- What the end that hears does in a step of a life, beside what is told of a direction; losses are short where it is
-- told so.
use Rattle.std.proofs.Common.{◌≡◌, inl, inr, ℕ, zero, suc, Bool, true, false, List, [], ◌∷◌, ◌++◌, map, length, Option}
use Rattle.std.proofs.Common.{Some, None, slice_get, slice_index_or, append-nil, refl, ap, sym, subst, ◌∙◌}
use Rattle.std.specs.List.{AllByRecursion}
use Rattle.law_rlc.specs.AmPair.Flow.{Copy}
use Rattle.bearer.specs.declared.flow.Flow.{Flow as Bearer}
use Rattle.bearer.specs.declared.flow.Flow.TheVariants.{Um}
use Rattle.bearer.specs.Unacknowledged.State.{State}
use Rattle.law_bearer.specs.AnyBearer.Calls.{Call as BearerCall, Take as Takes, Arrive as Arrives}
use Rattle.law_bearer.proofs.AnyBearer.Between.{IsBetween}
use Rattle.harq.specs.declared.sender.Visit.{Visit}
use Rattle.harq.specs.declared.sender.Visit.TheVariants.{New, Resend, Silent}
use Rattle.l2_node.specs.Building.{visit, visited}
use Rattle.l2_node.specs.End.{End}
use Rattle.bearer_types.specs.Sides.{heard_by, sent_by}
use Rattle.l2_types.specs.declared.side.Side.{Side}
use Rattle.law_node.specs.Calls.{Turn, Call, SetVisits, SetReports, Add, Submit, SetDiscard, Tick, TickBuckets, Visits}
use Rattle.law_node.specs.Calls.{Grants, Granted, Assigned, Pass, Receive, Expire, Move}
use Rattle.law_node.specs.Telling.{told_of}
use Rattle.prioritise.specs.Channels.{has as has_channel}
use Rattle.law_deliver.specs.AmFlow.Air.{Block, Station, Act, Calls, Comes, Goes, does as air_does, IsDone as IsDoneAir}
use Rattle.law_deliver.specs.AmFlow.Channels.{only, share_of, held_of as told_held, takes_of, calls_of, GoesOnInLife}
use Rattle.promises.specs.Pdus.{carried}
use Rattle.law_deliver.specs.AmFlow.Ups.{tells_over}
use Rattle.law_deliver.proofs.AmFlow.Air.{calls_in as act_calls}
use Rattle.law_deliver.proofs.AmFlow.Loads.{Load, blocks_in, all_at}
use Rattle.law_deliver.proofs.AmFlow.Runs.{at_front}
use Rattle.law_deliver.proofs.AmFlow.Standing.{at_place}
use Rattle.law_deliver.proofs.AmFlow.Stations.{plain_calls, calls_by as block_calls}
use Rattle.law_deliver.proofs.AmFlow.Ups.{Stands as StandsAlone, tells_of, come_between, between_at}
use Rattle.rlc_pdu.specs.Pdus.{IsUmBits}
use Rattle.law_deliver.specs.UmChannel.Pairs.{count_before, come_from, go_from, comes_with, goes_with, deeds_in}
use Rattle.law_deliver.proofs.UmChannel.Acting.{acts}
use Rattle.law_deliver.proofs.UmChannel.Deeds.{does_all, all_calls_in}
use Rattle.law_deliver.proofs.UmChannel.Loads.{Carries, many_in, Split, split_at}
use Rattle.law_deliver.proofs.UmChannel.Stations.{Matches, Acts}
use Rattle.law_deliver.specs.UmFlow.Calls.{calls_in as deed_calls}
use Rattle.law_deliver.specs.UmFlow.Pair.{BearerEnd, Deed, Calls as CallsBearer, Comes as PduComes, Goes as PduGoes}
use Rattle.law_deliver.specs.UmFlow.Pair.{called as called_by, does, IsShort}
use Rattle.law_deliver.proofs.UmFlow.Standing.{IsCopyOf}
use Rattle.um_losses.specs.Flow.{Flow, after}
use Rattle.um_losses.specs.declared.flow.Happening.{Happening}
use Rattle.um_losses.specs.declared.flow.Happening.TheVariants.{BlockArrived}
use Rattle.um_losses.specs.Told.{all_after}
use Rattle.law_deliver.specs.UmGaps.Whats.{hears, brought, expiries}
use Rattle.law_deliver.proofs.UmGaps.Acting.{plain_come_none, to_all_calls, to_goes}
use Rattle.law_deliver.proofs.UmGaps.Telling.{outs, told_out}
use Rattle.law_deliver.proofs.UmGaps.Tracking.{IsUnder, Tracks, IsNoArrival, Came, to_comes}

-- each PDU that comes in deeds is near
abbrev pub AreNear : BearerEnd → BearerEnd → List Deed → Type 0
AreNear n m [] = Unit {0}
AreNear n m (d ∷ ds) = IsShort n m d × AreNear n (does n m d) ds

calls_near : (n m : BearerEnd) (cs : List BearerCall) → AreNear n m (map (λ c. CallsBearer c) cs)
calls_near n m [] = tt
calls_near n m (c ∷ cs) = (tt, calls_near n (does n m (CallsBearer c)) cs)

goes_near : (n m : BearerEnd) (place count : ℕ) → AreNear n m (go_from place count)
goes_near n m place zero = tt
goes_near n m place (suc k) = (tt, goes_near n (does n m (PduGoes place)) place k)

pub record Heard (l bits reorder counts : ℕ) (a : State) (xs : List BearerCall) (b : State) (ys : List BearerCall)
    (n m : BearerEnd) (ds : List Deed) (loads : List Load) (f : Flow) : Type 0 where
  pub near : AreNear n m ds
  pub tracks : Tracks bits reorder counts a xs b ys n (does_all n m ds) loads f

arrivals_out : (l : ℕ) (b : State) (pdus : List (List ℕ)) → outs l b (map (λ p. Arrives p) pdus) ≡ []
arrivals_out l b [] = refl
arrivals_out l b (p ∷ ps) = arrivals_out l (called_by b (Arrives p)) ps

none_left : (p : ℕ) (f : Flow) → slice_index_or f.sending.under_way p None ≡ None → after (BlockArrived p) f ≡ f
none_left p f e = rw e refl

only_none : (here : Bool) (share : ℕ) (held : Option ℕ) → AllByRecursion IsNoArrival (only here (Takes share held))
only_none true share held = (tt, tt)
only_none false share held = tt

takes_none : (w : Visit) (v : Turn) (e : End) (l : ℕ) → AllByRecursion IsNoArrival (takes_of w v e l)
takes_none New v e l = only_none (has_channel l e.buckets.channels) (share_of e v.grant l) (told_held e l)
takes_none (Resend rv) v e l = tt
takes_none Silent v e l = tt

module _ (l bits reorder counts : ℕ) (u : IsUmBits bits) (side oside : Side) (dir : heard_by side ≡ sent_by oside)
    (a : State) (xs : List BearerCall) (b : State) (ys : List BearerCall) (s o : Station) (n m : BearerEnd)
    (h : Matches side l s m) (k : Matches oside l o n) (alone : StandsAlone side l s.end) (loads : List Load)
    (f : Flow) (blocks : blocks_in loads ≡ o.blocks) (carry : AllByRecursion (Carries l (sent_by oside)) loads)
    (t : Tracks bits reorder counts a xs b ys n m loads f) where
  abbrev Behind : Act → Type 0
  Behind x = Heard l bits reorder counts a xs b (ys ++ act_calls l o s x) n m (deeds_in l side o s x) loads
      (all_after (hears l o s.end x) f)

  between : IsBetween l (Um m.bearer)
  between =
      subst (λ (y : Bearer). IsBetween l y) h.bearer_is
      (between_at l s.end.bearers h.there (come_between side s.end h.come))

  -- what an end tells of expiries in a call
  out_so : (c : Call) → GoesOnInLife l c → expiries l (told_of s.end c) ≡ outs l m.bearer (calls_of l s.end c)
  out_so c life =
      told_out l (told_of s.end c) m.bearer (calls_of l s.end c) between
      ((tells_of side l s.end c alone life).told_is
      ∙ ap (λ (y : Bearer). tells_over l y (calls_of l s.end c)) h.bearer_is)

  -- ---- a call

  called : (c : Call) → IsDoneAir l s (Calls c) → AllByRecursion IsNoArrival (calls_of l s.end c) → Behind (Calls c)
  called c g none =
      let cs = calls_of l s.end c in
      let x = acts side oside l s o m n (Calls c) dir h k g in
      record {
        near = calls_near n m cs;
        tracks =
            subst (λ (ws : List Happening). Tracks bits reorder counts a xs b (ys ++ cs) n
            (does_all n m (map (λ y. CallsBearer y) cs)) loads (all_after ws f)) (sym (out_so c g.1))
            (to_all_calls bits reorder counts u l a xs b ys n m loads f cs x.done none t);
      }

  plain : (c : Call) → IsDoneAir l s (Calls c) → ((v : Turn) → c ≡ Visits v → ⊥)
      → ((block : List ℕ) → c ≡ Receive block → ⊥) → Behind (Calls c)
  plain c g v r = called c g (plain_come_none (calls_of l s.end c) (plain_calls l s.end c g.1 v r))

  -- ---- a block comes

  -- as a life goes on a block brings no expiry
  quiet : (c : Block) → expiries l (told_of s.end (Receive c.octets)) ≡ []
  quiet c = out_so (Receive c.octets) (record { adds_none = refl; moves_none = refl })
      ∙ arrivals_out l m.bearer (carried l (heard_by s.end.side) c.octets)

  brought_is : (c : Block) → all_after (brought l s.end (Some c)) f ≡ after (BlockArrived c.process) f
  brought_is c = ap (λ (ws : List Happening). all_after ws (after (BlockArrived c.process) f)) (quiet c)

  module _ (i : ℕ) (c : Block) (q : slice_get o.blocks i ≡ Some c) (x : Load) (at : slice_get loads i ≡ Some x)
      (is : x.block ≡ c) where
    act : Acts side l (air_does o s (Comes i)) n m (comes_with l (heard_by side) i o.blocks (slice_get o.blocks i))
        (block_calls l s.end (slice_get o.blocks i))
    act = acts side oside l s o m n (Comes i) dir h k tt

    calls_are : all_calls_in n (comes_with l (heard_by side) i o.blocks (Some c)) ≡ block_calls l s.end (Some c)
    calls_are = ap (λ (y : Option Block). all_calls_in n (comes_with l (heard_by side) i o.blocks y)) (sym q)
        ∙ act.calls_are ∙ ap (block_calls l s.end) q

    carries : Carries l (sent_by oside) x
    carries = all_at (Carries l (sent_by oside)) loads i x carry at

    sp : Split l (sent_by oside) loads i x
    sp = split_at l (sent_by oside) loads i x carry at

    -- its PDUs come one by one
    deeds_are : come_from (length sp.before) (length x.copies) ≡ comes_with l (heard_by side) i o.blocks (Some c)
    deeds_are =
        ap (λ (y : ℕ). come_from y (length x.copies)) (sp.count_is ∙ ap (count_before l (sent_by oside) i) blocks)
        ∙ ap (come_from (count_before l (sent_by oside) i o.blocks))
        (sym (many_in l (sent_by oside) x carries)
        ∙ ap (λ (y : Block). length (carried l (sent_by oside) y.octets)) is)
        ∙ ap (λ d. come_from (count_before l d i o.blocks) (length (carried l d c.octets))) (sym dir)

    come_by : IsUnder bits t.tm f.sending.under_way x → (all_after (brought l s.end (Some c)) f).gaps.long ≡ false
        → Heard l bits reorder counts a xs b (ys ++ block_calls l s.end (Some c)) n m
        (comes_with l (heard_by side) i o.blocks (Some c)) loads (all_after (brought l s.end (Some c)) f)
    come_by (inl none) short =
        let empty : [] ≡ comes_with l (heard_by side) i o.blocks (Some c) =
        ap (λ (cs : List Copy). come_from (length sp.before) (length cs)) (sym none.0) ∙ deeds_are in
        let no_calls : [] ≡ block_calls l s.end (Some c) = ap (all_calls_in n) empty ∙ calls_are in
        let stays : f ≡ all_after (brought l s.end (Some c)) f =
        sym (brought_is c
        ∙ none_left c.process f (ap (λ (y : Block). slice_index_or f.sending.under_way y.process None) (sym is)
        ∙ none.1)) in
        subst (λ (es : List Deed). Heard l bits reorder counts a xs b (ys ++ block_calls l s.end (Some c)) n m es
        loads (all_after (brought l s.end (Some c)) f)) empty
        (subst (λ (cs : List BearerCall). Heard l bits reorder counts a xs b (ys ++ cs) n m [] loads
        (all_after (brought l s.end (Some c)) f)) no_calls
        (subst (λ (g : Flow). Heard l bits reorder counts a xs b (ys ++ []) n m [] loads g) stays
        (record {
          near = tt;
          tracks = subst (λ (zs : List BearerCall). Tracks bits reorder counts a xs b zs n m loads f)
              (sym (append-nil ys)) t;
        })))
    come_by (inr fl) short =
        let place = length sp.before in
        let one : PduComes place ∷ [] ≡ comes_with l (heard_by side) i o.blocks (Some c) =
        ap (λ (cs : List Copy). come_from place (length cs)) (sym fl.copies_are) ∙ deeds_are in
        let there : slice_get n.copies place ≡ Some fl.copy =
        ap (λ (cs : List Copy). slice_get cs place) (t.copies_are ∙ sp.copies_are
        ∙ ap (λ (cs : List Copy). sp.before ++ (cs ++ sp.behind)) fl.copies_are)
        ∙ at_front sp.before fl.copy sp.behind in
        let copy : IsCopyOf bits t.on.stands.f.made fl.copy =
        all_at (IsCopyOf bits t.on.stands.f.made) n.copies place fl.copy t.on.stands.copies_are there in
        let told : all_after (brought l s.end (Some c)) f ≡ after (BlockArrived c.process) f = brought_is c in
        let r : Came bits reorder counts u a xs b ys n m loads f c.process place =
        to_comes bits reorder counts u a xs b ys n m loads f c.process place fl.copy fl.flying t there copy
        (ap (λ (y : Block). slice_index_or f.sending.under_way y.process None) (sym is) ∙ fl.is) fl.number_is fl.there
        fl.range (ap (λ (g : Flow). g.gaps.long) (sym told) ∙ short) in
        let calls : deed_calls n (PduComes place) ≡ block_calls l s.end (Some c) =
        sym (append-nil (deed_calls n (PduComes place))) ∙ ap (all_calls_in n) one ∙ calls_are in
        subst (λ (es : List Deed). Heard l bits reorder counts a xs b (ys ++ block_calls l s.end (Some c)) n m es
        loads (all_after (brought l s.end (Some c)) f)) one
        (subst (λ (g : Flow). Heard l bits reorder counts a xs b (ys ++ block_calls l s.end (Some c)) n m
        (PduComes place ∷ []) loads g) (sym told)
        (subst (λ (cs : List BearerCall). Heard l bits reorder counts a xs b (ys ++ cs) n m (PduComes place ∷ [])
        loads (after (BlockArrived c.process) f)) calls
        (record { near = (r.near, tt); tracks = r.tracks })))

  comes_by : (y : Option Block) (i : ℕ) → slice_get o.blocks i ≡ y → (all_after (brought l s.end y) f).gaps.long ≡ false
      → Heard l bits reorder counts a xs b (ys ++ block_calls l s.end y) n m
      (comes_with l (heard_by side) i o.blocks y) loads (all_after (brought l s.end y) f)
  comes_by None i q short =
      record {
        near = tt;
        tracks = subst (λ (zs : List BearerCall). Tracks bits reorder counts a xs b zs n m loads f)
            (sym (append-nil ys)) t;
      }
  comes_by (Some c) i q short =
      let at = at_place (λ (x : Load). x.block) loads i c (ap (λ (bs : List Block). slice_get bs i) blocks ∙ q) in
      come_by i c q at.0 at.1 at.2 (all_at (IsUnder bits t.tm f.sending.under_way) loads i at.0 t.under at.1) short

  -- ---- one of its own is let go

  goes_by : (y : Option Block) (i : ℕ)
      → Heard l bits reorder counts a xs b (ys ++ []) n m (goes_with l (sent_by side) i s.blocks y) loads f
  goes_by None i =
      record {
        near = tt;
        tracks = subst (λ (zs : List BearerCall). Tracks bits reorder counts a xs b zs n m loads f)
            (sym (append-nil ys)) t;
      }
  goes_by (Some c) i =
      let place = count_before l (sent_by side) i s.blocks in
      let count = length (carried l (sent_by side) c.octets) in
      record {
        near = goes_near n m place count;
        tracks =
            subst (λ (zs : List BearerCall). Tracks bits reorder counts a xs b zs n
            (does_all n m (go_from place count)) loads f) (sym (append-nil ys))
            (to_goes bits reorder counts u a xs b ys n m loads f place count t);
      }

  -- ---- any act

  pub hears_on : (x : Act) → IsDoneAir l s x → (all_after (hears l o s.end x) f).gaps.long ≡ false → Behind x
  hears_on (Calls (SetVisits maximum)) g short = plain (SetVisits maximum) g (λ t q. cc) (λ b q. cc)
  hears_on (Calls (SetReports reports)) g short = plain (SetReports reports) g (λ t q. cc) (λ b q. cc)
  hears_on (Calls (Add c keys)) g short = plain (Add c keys) g (λ t q. cc) (λ b q. cc)
  hears_on (Calls (Submit lcid octets)) g short = plain (Submit lcid octets) g (λ t q. cc) (λ b q. cc)
  hears_on (Calls (SetDiscard lcid ttis)) g short = plain (SetDiscard lcid ttis) g (λ t q. cc) (λ b q. cc)
  hears_on (Calls Tick) g short = plain Tick g (λ t q. cc) (λ b q. cc)
  hears_on (Calls TickBuckets) g short = plain TickBuckets g (λ t q. cc) (λ b q. cc)
  hears_on (Calls (Visits v)) g short =
      called (Visits v) g (takes_none (visit v.tti v.order s.end) v (visited v.tti v.order s.end) l)
  hears_on (Calls (Grants tti)) g short = plain (Grants tti) g (λ t q. cc) (λ b q. cc)
  hears_on (Calls (Granted tti good)) g short = plain (Granted tti good) g (λ t q. cc) (λ b q. cc)
  hears_on (Calls (Assigned tti ndi good)) g short = plain (Assigned tti ndi good) g (λ t q. cc) (λ b q. cc)
  hears_on (Calls (Pass tti)) g short = plain (Pass tti) g (λ t q. cc) (λ b q. cc)
  hears_on (Calls (Receive block)) g short = absurd g.2
  hears_on (Calls (Expire lcid clock)) g short = plain (Expire lcid clock) g (λ t q. cc) (λ b q. cc)
  hears_on (Calls (Move keys)) g short = plain (Move keys) g (λ t q. cc) (λ b q. cc)
  hears_on (Comes i) g short = comes_by (slice_get o.blocks i) i refl short
  hears_on (Goes i) g short = goes_by (slice_get s.blocks i) i
