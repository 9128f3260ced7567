-- What the end that sends does in a step of a life, beside what is told of a direction.
use Rattle.std.proofs.Common.{◌≡◌, ℕ, zero, suc, ◌%◌, Bool, true, false, if◌then◌else◌, List, [], ◌∷◌, ◌++◌, map}
use Rattle.std.proofs.Common.{length, Option, Some, None, slice_get, append-nil, refl, ap, sym, subst, ◌∙◌, arith}
use Rattle.std.specs.List.{AllByRecursion}
use Rattle.law_rlc.specs.AmPair.Flow.{copies_with, except}
use Rattle.bearer.specs.Taking.{pdus}
use Rattle.bearer.specs.Unacknowledged.State.{State}
use Rattle.bearer.specs.Unacknowledged.Taking.{answer}
use Rattle.law_bearer.specs.AnyBearer.Calls.{Call as BearerCall, Take as Takes}
use Rattle.harq.specs.declared.sender.Visit.{Visit}
use Rattle.harq.specs.declared.sender.Visit.TheVariants.{New, Resend, Silent}
use Rattle.l2_node.specs.Building.{visit, visited}
use Rattle.l2_node.specs.End.{End}
use Rattle.bearer_types.specs.Sides.{heard_by, sent_by}
use Rattle.l2_node.specs.Writing.{new_block}
use Rattle.l2_types.specs.declared.side.Side.{Side}
use Rattle.mac_pdu.specs.declared.item.Direction.{Direction}
use Rattle.law_node.specs.Calls.{Turn, Call, SetVisits, SetReports, Add, Submit, SetDiscard, Tick, TickBuckets, Visits}
use Rattle.law_node.specs.Calls.{Grants, Granted, Assigned, Pass, Receive, Expire, Move}
use Rattle.law_node.specs.Holding.{flow}
use Rattle.law_node.proofs.Keeping.{share_most}
use Rattle.law_node.proofs.Sound.{visited_sound}
use Rattle.prioritise.specs.Channels.{has as has_channel}
use Rattle.law_deliver.specs.AmFlow.Air.{Block, Station, Act, Calls, Comes, Goes, built_at, calls as station_calls}
use Rattle.law_deliver.specs.AmFlow.Air.{comes as station_comes, does as air_does, IsBuilding, IsVisiting}
use Rattle.law_deliver.specs.AmFlow.Air.{IsDone as IsDoneAir}
use Rattle.law_deliver.specs.AmFlow.Channels.{only, share_of, held_of as told_held, takes_of, calls_of, written_by}
use Rattle.promises.specs.Pdus.{carried}
use Rattle.law_deliver.proofs.AmFlow.Air.{calls_in as act_calls}
use Rattle.law_deliver.proofs.AmFlow.Loads.{Load, all_copies, blocks_in, except_blocks, except_all, IsHeldBy}
use Rattle.law_deliver.proofs.AmFlow.Runs.{octets_of}
use Rattle.law_deliver.proofs.AmFlow.Standing.{at_place}
use Rattle.law_deliver.proofs.AmFlow.Stations.{plain_calls, calls_by as block_calls, come_sound}
use Rattle.law_deliver.proofs.AmFlow.Visiting.{carries_so, blocks_held}
use Rattle.rlc_pdu.specs.Pdus.{IsUmBits}
use Rattle.law_deliver.specs.UmChannel.Pairs.{count_before, go_from, comes_with, goes_with, deeds_in}
use Rattle.law_deliver.proofs.UmChannel.Acting.{acts}
use Rattle.law_deliver.proofs.UmChannel.Deeds.{does_all, AreDone, all_calls_in, Drops, all_drops}
use Rattle.law_deliver.proofs.UmChannel.Loads.{Carries, many_in, Split, split_at}
use Rattle.law_deliver.proofs.UmChannel.Stations.{Matches}
use Rattle.law_deliver.proofs.UmChannel.Visiting.{written_so}
use Rattle.law_deliver.specs.UmFlow.Pair.{BearerEnd, Deed, Calls as CallsBearer}
use Rattle.um_losses.specs.Flow.{Flow, after}
use Rattle.um_losses.specs.declared.flow.Happening.{Happening}
use Rattle.um_losses.specs.declared.flow.Happening.TheVariants.{BlockRenewed}
use Rattle.um_losses.specs.Told.{all_after}
use Rattle.law_deliver.specs.UmGaps.Whats.{sends, sent_in, built, written as written_whats}
use Rattle.law_deliver.proofs.UmGaps.Acting.{no_take, calls_copies, comes_copies, arrivals_take_none}
use Rattle.law_deliver.proofs.UmGaps.Making.{from_quiet, begins_block, from_takes, under_except}
use Rattle.law_deliver.proofs.UmGaps.Tracking.{Tracks}

-- behind it, by these calls of the bearer
pub record TracksSent (l bits reorder counts : ℕ) (d : Direction) (blocks : List Block) (a : State)
    (xs : List BearerCall)
    (b : State) (ys : List BearerCall) (n m : BearerEnd) (f : Flow) : Type 0 where
  pub loads : List Load
  pub blocks_are : blocks_in loads ≡ blocks
  pub carry : AllByRecursion (Carries l d) loads
  pub tracks : Tracks bits reorder counts a xs b ys n m loads f

none_at : {A : Type 0} {B : Type 0} (g : A → B) (xs : List A) (k : ℕ) → slice_get (map g xs) k ≡ None
    → slice_get xs k ≡ None
none_at g [] k q = refl
none_at g (x ∷ xs) zero q = let no : Some (g x) ≡ None = q in absurd cc
none_at g (x ∷ xs) (suc k) q = none_at g xs k q

except_none : {A : Type 0} (xs : List A) (k : ℕ) → slice_get xs k ≡ None → except k xs ≡ xs
except_none [] k q = refl
except_none (x ∷ xs) zero q = let no : Some x ≡ None = q in absurd cc
except_none (x ∷ xs) (suc k) q = ap (λ l. x ∷ l) (except_none xs k q)

come_blocks : (s : Station) (o : Option Block) → (station_comes s o).blocks ≡ s.blocks
come_blocks s None = refl
come_blocks s (Some b) = refl

apart_by : (p : ℕ) (s : _) (loads : List Load) (bs : List Block) → blocks_in loads ≡ bs
    → AllByRecursion (IsHeldBy p s) bs → AllByRecursion (λ (y : Load). y.block.process ≡ p → ⊥) loads
apart_by p s loads bs q h = each loads (subst (λ (xs : List Block). AllByRecursion (IsHeldBy p s) xs) (sym q) h)
  where
    each : (xs : List Load) → AllByRecursion (IsHeldBy p s) (blocks_in xs)
        → AllByRecursion (λ (y : Load). y.block.process ≡ p → ⊥) xs
    each [] h = tt
    each (x ∷ xs) h = (h.0.other, each xs h.1)

module _ (l bits reorder counts : ℕ) (u : IsUmBits bits) (side oside : Side) (dir : heard_by side ≡ sent_by oside)
    (a : State) (xs : List BearerCall) (b : State) (ys : List BearerCall) (s o : Station) (n m : BearerEnd)
    (h : Matches side l s n) (k : Matches oside l o m) (loads : List Load) (f : Flow)
    (blocks : blocks_in loads ≡ s.blocks) (carry : AllByRecursion (Carries l (sent_by side)) loads)
    (t : Tracks bits reorder counts a xs b ys n m loads f) where
  abbrev Behind : Act → Type 0
  Behind x = TracksSent l bits reorder counts (sent_by side) (air_does o s x).blocks a (xs ++ act_calls l o s x) b ys
      (does_all m n (deeds_in l side o s x)) m (all_after (sends side l bits s.end x) f)

  -- ---- a call that is no visit

  plain : (c : Call) → IsDoneAir l s (Calls c) → ((v : Turn) → c ≡ Visits v → ⊥)
      → ((block : List ℕ) → c ≡ Receive block → ⊥) → (station_calls s c).blocks ≡ s.blocks
      → sent_in side l bits s.end c ≡ [] → Behind (Calls c)
  plain c g v r same silent =
      let cs = calls_of l s.end c in
      let x = acts side oside l s o n m (Calls c) dir h k g in
      let quiet = plain_calls l s.end c g.1 v r in
      let q = from_quiet bits reorder counts u a xs b ys n m loads loads f (map (λ y. CallsBearer y) cs) cs x.done
      x.calls_are (no_take cs quiet) t (calls_copies m n cs quiet ∙ t.copies_are) t.under in
      record {
        loads = loads;
        blocks_are = blocks ∙ sym same;
        carry = carry;
        tracks =
            subst (λ (ws : List Happening). Tracks bits reorder counts a (xs ++ cs) b ys
            (does_all m n (map (λ y. CallsBearer y) cs)) m loads (all_after ws f)) (sym silent) q;
      }

  -- ---- a visit

  module _ (v : Turn) (g : IsDoneAir l s (Calls (Visits v))) where
    abbrev e : End
    e = visited v.tti v.order s.end

    abbrev p : ℕ
    p = v.tti % 8

    abbrev new_of : Block
    new_of = record { process = v.tti % 8; octets = new_block (visited v.tti v.order s.end) v.grant; age = 0 }

    abbrev VisitBehind : Visit → Type 0
    VisitBehind w =
        TracksSent l bits reorder counts (sent_by side) (built_at w v (visited v.tti v.order s.end) ++ s.blocks) a
        (xs ++ takes_of w v (visited v.tti v.order s.end) l) b ys
        (does_all m n (map (λ y. CallsBearer y) (takes_of w v (visited v.tti v.order s.end) l))) m
        (all_after (built l bits (sent_by side) w v (visited v.tti v.order s.end)) f)

    builds : (here : Bool) → visit v.tti v.order s.end ≡ New
        → has_channel l (visited v.tti v.order s.end).buckets.channels ≡ here → IsBuilding s v
        → AreDone m n
        (map (λ y. CallsBearer y)
        (only here (Takes (share_of (visited v.tti v.order s.end) v.grant l)
        (told_held (visited v.tti v.order s.end) l))))
        → TracksSent l bits reorder counts (sent_by side) (new_of ∷ s.blocks) a
        (xs
        ++ only here (Takes (share_of (visited v.tti v.order s.end) v.grant l)
        (told_held (visited v.tti v.order s.end) l))) b ys
        (does_all m n
        (map (λ y. CallsBearer y)
        (only here (Takes (share_of (visited v.tti v.order s.end) v.grant l)
        (told_held (visited v.tti v.order s.end) l))))) m
        (all_after (built l bits (sent_by side) New v (visited v.tti v.order s.end)) f)
    unfolding visited
    builds true is q building done =
        let share = share_of (visited v.tti v.order s.end) v.grant l in
        let held = told_held (visited v.tti v.order s.end) l in
        let x : Load = record { block = new_of; copies = copies_with (answer n.bearer share held) []; reports = [] } in
        let carries : carried l (sent_by side) new_of.octets ≡ octets_of x.copies =
        carries_so side s.end h.come v.tti v.order v.grant l building.some g.0.0 h.there
        ∙ written_so side l s n m v h q in
        let apart = apart_by p _ loads (blocks_in h.loads) (blocks ∙ sym h.blocks_are)
        (blocks_held s v h.loads is building h.blocks_are) in
        let most = share_most (visited v.tti v.order s.end) v.grant l
        (visited_sound v.tti v.order s.end (come_sound side s.end h.come)) g.0.0 in
        let r = from_takes bits reorder counts u a xs b ys n m loads f share held x most done.0 refl (omega arith)
        apart t in
        record {
          loads = x ∷ loads;
          blocks_are = ap (λ (bs : List Block). new_of ∷ bs) blocks;
          carry = (carries, carry);
          tracks =
              subst (λ (os : List (List ℕ)). Tracks bits reorder counts a (xs ++ Takes share held ∷ []) b ys
              (does_all m n (CallsBearer (Takes share held) ∷ [])) m (x ∷ loads)
              (all_after (written_whats bits p os) (after (BlockRenewed p) f))) (sym carries) r;
        }
    builds false is q building done =
        let x : Load = record { block = new_of; copies = []; reports = [] } in
        let none : written_by (visited v.tti v.order s.end) v.grant l ≡ [] =
        ap (λ (y : Bool). if y then pdus (flow l s.end) (share_of (visited v.tti v.order s.end) v.grant l)
        (told_held (visited v.tti v.order s.end) l) else []) q in
        let carries : carried l (sent_by side) new_of.octets ≡ [] =
        carries_so side s.end h.come v.tti v.order v.grant l building.some g.0.0 h.there ∙ none in
        let apart = apart_by p _ loads (blocks_in h.loads) (blocks ∙ sym h.blocks_are)
        (blocks_held s v h.loads is building h.blocks_are) in
        let r = begins_block bits reorder counts u a xs b ys n m loads f x refl (omega arith) apart t in
        record {
          loads = x ∷ loads;
          blocks_are = ap (λ (bs : List Block). new_of ∷ bs) blocks;
          carry = (carries, carry);
          tracks =
              subst (λ (zs : List BearerCall). Tracks bits reorder counts a zs b ys n m (x ∷ loads)
              (all_after (built l bits (sent_by side) New v (visited v.tti v.order s.end)) f)) (sym (append-nil xs))
              (subst (λ (os : List (List ℕ)). Tracks bits reorder counts a xs b ys n m (x ∷ loads)
              (all_after (written_whats bits p os) (after (BlockRenewed p) f))) (sym carries) r);
        }

    visits_by : (w : Visit) → visit v.tti v.order s.end ≡ w → IsVisiting w s v
        → AreDone m n (map (λ y. CallsBearer y) (takes_of w v (visited v.tti v.order s.end) l)) → VisitBehind w
    visits_by New is building done =
        builds (has_channel l (visited v.tti v.order s.end).buckets.channels) is refl building done
    visits_by (Resend rv) is building done =
        record {
          loads = loads;
          blocks_are = blocks;
          carry = carry;
          tracks = subst (λ (zs : List BearerCall). Tracks bits reorder counts a zs b ys n m loads f)
              (sym (append-nil xs)) t;
        }
    visits_by Silent is building done =
        record {
          loads = loads;
          blocks_are = blocks;
          carry = carry;
          tracks = subst (λ (zs : List BearerCall). Tracks bits reorder counts a zs b ys n m loads f)
              (sym (append-nil xs)) t;
        }

    visits : Behind (Calls (Visits v))
    visits =
        let x = acts side oside l s o n m (Calls (Visits v)) dir h k g in
        visits_by (visit v.tti v.order s.end) refl g.2 x.done

  -- ---- a block of the other end comes

  comes_by : (x : Option Block) → (i : ℕ) → slice_get o.blocks i ≡ x
      → TracksSent l bits reorder counts (sent_by side) (station_comes s x).blocks a (xs ++ block_calls l s.end x) b ys
      (does_all m n (comes_with l (heard_by side) i o.blocks x)) m f
  comes_by None i q = record {
    loads = loads;
    blocks_are = blocks;
    carry = carry;
    tracks = subst (λ (zs : List BearerCall). Tracks bits reorder counts a zs b ys n m loads f)
        (sym (append-nil xs)) t;
  }
  comes_by (Some c) i q =
      let ds = comes_with l (heard_by side) i o.blocks (Some c) in
      let x = acts side oside l s o n m (Comes i) dir h k tt in
      let cs = block_calls l s.end (Some c) in
      let done : AreDone m n ds =
      subst (λ (y : Option Block). AreDone m n (comes_with l (heard_by side) i o.blocks y)) q x.done in
      let are : all_calls_in m ds ≡ cs =
      ap (λ (y : Option Block). all_calls_in m (comes_with l (heard_by side) i o.blocks y)) (sym q) ∙ x.calls_are
      ∙ ap (block_calls l s.end) q in
      record {
        loads = loads;
        blocks_are = blocks;
        carry = carry;
        tracks = from_quiet bits reorder counts u a xs b ys n m loads loads f ds cs done are
            (arrivals_take_none (carried l (heard_by s.end.side) c.octets)) t
            (comes_copies m n (count_before l (heard_by side) i o.blocks)
            (length (carried l (heard_by side) c.octets)) ∙ t.copies_are) t.under;
      }

  -- ---- one of its own is let go

  goes_by : (x : Option Block) (i : ℕ) → slice_get s.blocks i ≡ x
      → AreDone m n (goes_with l (sent_by side) i s.blocks x)
      → all_calls_in m (goes_with l (sent_by side) i s.blocks x) ≡ []
      → TracksSent l bits reorder counts (sent_by side) (except i s.blocks) a (xs ++ []) b ys
      (does_all m n (goes_with l (sent_by side) i s.blocks x)) m f
  goes_by None i q done are =
      let here : slice_get loads i ≡ None =
      none_at (λ (x : Load). x.block) loads i (ap (λ (bs : List Block). slice_get bs i) blocks ∙ q) in
      record {
        loads = except i loads;
        blocks_are = except_blocks loads i ∙ ap (except i) blocks;
        carry = except_all (Carries l (sent_by side)) i loads carry;
        tracks = from_quiet bits reorder counts u a xs b ys n m loads (except i loads) f [] [] tt refl tt t
            (t.copies_are ∙ ap all_copies (sym (except_none loads i here)))
            (under_except bits t.tm f.sending.under_way i loads t.under);
      }
  goes_by (Some c) i q done are =
      let d = sent_by side in
      let at = at_place (λ (x : Load). x.block) loads i c (ap (λ (bs : List Block). slice_get bs i) blocks ∙ q) in
      let x : Load = at.0 in
      let sp : Split l d loads i x = split_at l d loads i x carry at.1 in
      let carries : Carries l d x = at_carry loads i x carry at.1 in
      let ds : List Deed = goes_with l d i s.blocks (Some c) in
      let same : go_from (length sp.before) (length x.copies) ≡ ds =
      ap (λ (y : ℕ). go_from y (length x.copies)) (sp.count_is ∙ ap (count_before l d i) blocks)
      ∙ ap (go_from (count_before l d i s.blocks)) (sym (many_in l d x carries)
      ∙ ap (λ (y : Block). length (carried l d y.octets)) at.2) in
      let r : Drops m n ds (sp.before ++ sp.behind) =
      subst (λ (l : List Deed). Drops m n l (sp.before ++ sp.behind)) same
      (all_drops m n sp.before x.copies sp.behind (t.copies_are ∙ sp.copies_are)) in
      record {
        loads = except i loads;
        blocks_are = except_blocks loads i ∙ ap (except i) blocks;
        carry = except_all (Carries l d) i loads carry;
        tracks = from_quiet bits reorder counts u a xs b ys n m loads (except i loads) f ds [] r.done r.calls_none tt
            t (ap (λ (y : BearerEnd). y.copies) r.is ∙ sym sp.fewer_copies)
            (under_except bits t.tm f.sending.under_way i loads t.under);
      }
    where
      at_carry : (zs : List Load) (k : ℕ) (x : Load) → AllByRecursion (Carries l (sent_by side)) zs
          → slice_get zs k ≡ Some x → Carries l (sent_by side) x
      at_carry [] k x h e = let no : None ≡ Some x = e in absurd cc
      at_carry (y ∷ ys) zero x h e = let same : Some y ≡ Some x = e in let is : y ≡ x = cc in
          subst (Carries l (sent_by side)) is h.0
      at_carry (y ∷ ys) (suc k) x h e = at_carry ys k x h.1 e

  -- ---- any act

  pub sends_on : (x : Act) → IsDoneAir l s x → Behind x
  sends_on (Calls (SetVisits maximum)) g = plain (SetVisits maximum) g (λ t q. cc) (λ b q. cc) refl refl
  sends_on (Calls (SetReports reports)) g = plain (SetReports reports) g (λ t q. cc) (λ b q. cc) refl refl
  sends_on (Calls (Add c keys)) g = plain (Add c keys) g (λ t q. cc) (λ b q. cc) refl refl
  sends_on (Calls (Submit lcid octets)) g = plain (Submit lcid octets) g (λ t q. cc) (λ b q. cc) refl refl
  sends_on (Calls (SetDiscard lcid ttis)) g = plain (SetDiscard lcid ttis) g (λ t q. cc) (λ b q. cc) refl refl
  sends_on (Calls Tick) g = plain Tick g (λ t q. cc) (λ b q. cc) refl refl
  sends_on (Calls TickBuckets) g = plain TickBuckets g (λ t q. cc) (λ b q. cc) refl refl
  sends_on (Calls (Visits v)) g = visits v g
  sends_on (Calls (Grants tti)) g = plain (Grants tti) g (λ t q. cc) (λ b q. cc) refl refl
  sends_on (Calls (Granted tti good)) g = plain (Granted tti good) g (λ t q. cc) (λ b q. cc) refl refl
  sends_on (Calls (Assigned tti ndi good)) g = plain (Assigned tti ndi good) g (λ t q. cc) (λ b q. cc) refl refl
  sends_on (Calls (Pass tti)) g = plain (Pass tti) g (λ t q. cc) (λ b q. cc) refl refl
  sends_on (Calls (Receive block)) g = absurd g.2
  sends_on (Calls (Expire lcid clock)) g = plain (Expire lcid clock) g (λ t q. cc) (λ b q. cc) refl refl
  sends_on (Calls (Move keys)) g = plain (Move keys) g (λ t q. cc) (λ b q. cc) refl refl
  sends_on (Comes i) g = comes_by (slice_get o.blocks i) i refl
  sends_on (Goes i) g = let x = acts side oside l s o n m (Goes i) dir h k tt in
      goes_by (slice_get s.blocks i) i refl x.done x.calls_are
