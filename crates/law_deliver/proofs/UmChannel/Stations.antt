-- An end and the unacknowledged bearer of a channel: its calls, blocks that come, and blocks that are let go.
use Rattle.std.proofs.Common.{◌≡◌, ℕ, zero, suc, List, [], ◌∷◌, ◌++◌, map, length, true, Option, Some, None, slice_get}
use Rattle.std.proofs.Common.{refl, ap, sym, subst, ◌∙◌}
use Rattle.std.specs.List.{AllByRecursion}
use Rattle.law_rlc.specs.AmPair.Flow.{except}
use Rattle.bearer.specs.declared.flow.Flow.{Flow}
use Rattle.bearer.specs.declared.flow.Flow.TheVariants.{Um}
use Rattle.bearer.specs.Unacknowledged.State.{State}
use Rattle.law_bearer.specs.AnyBearer.Calls.{Call as BearerCall, Submit as Submits, Take as Takes, Arrive as Arrives}
use Rattle.law_bearer.specs.AnyBearer.Calls.{Expire as Expires, Tick as Ticks, SetDiscard as SetsDiscard, after_all}
use Rattle.bearer_types.specs.Sides.{heard_by, sent_by}
use Rattle.l2_node.specs.Finding.{has}
use Rattle.l2_types.specs.declared.side.Side.{Side}
use Rattle.mac_pdu.specs.declared.item.Direction.{Direction}
use Rattle.law_node.specs.Calls.{Turn, Call, Visits, Receive, IsGiven as IsGivenCall, after}
use Rattle.law_node.specs.Holding.{flow}
use Rattle.law_deliver.specs.AmFlow.Air.{Block, Station, older, passed, comes, HasCome}
use Rattle.law_deliver.specs.AmFlow.Channels.{calls_of, GoesOnInLife}
use Rattle.promises.specs.Pdus.{carried}
use Rattle.law_deliver.proofs.AmFlow.Channels.{receive_by, plain_by}
use Rattle.law_deliver.proofs.AmFlow.Loads.{Load, all_copies, blocks_in, aged_load, aged_copies, aged_blocks, aged_all}
use Rattle.law_deliver.proofs.AmFlow.Loads.{IsLoad, except_blocks, except_all, all_at}
use Rattle.law_deliver.proofs.AmFlow.Places.{GoesBy}
use Rattle.law_deliver.proofs.AmFlow.Runs.{octets_of}
use Rattle.law_deliver.proofs.AmFlow.Standing.{at_place}
use Rattle.law_deliver.proofs.AmFlow.Stations.{come_more, come_side, calls_by, IsPlain, plain_calls, plain_keep}
use Rattle.law_deliver.specs.UmFlow.Pair.{BearerEnd, Deed, Calls, called, calls, IsDone}
use Rattle.law_deliver.proofs.UmFlow.Sending.{is_called}
use Rattle.law_deliver.specs.UmChannel.Pairs.{count_before, come_from, go_from, comes_with, goes_with}
use Rattle.law_deliver.proofs.UmChannel.Deeds.{does_all, AreDone, all_calls_in, Hears, all_hears, Drops, all_drops}
use Rattle.law_deliver.proofs.UmChannel.Loads.{IsBare, aged_bare, Carries, carries_all, many_in, Split, split_at}

-- the bearer of the end is that of the pair, and what is under way of it is what the blocks carry
pub record Matches (side : Side) (l : ℕ) (s : Station) (n : BearerEnd) : Type 0 where
  pub come : HasCome side s.end
  pub there : has l s.end.bearers ≡ true
  pub bearer_is : flow l s.end ≡ Um n.bearer
  pub loads : List Load
  pub bare : AllByRecursion IsBare loads
  pub blocks_are : blocks_in loads ≡ s.blocks
  pub copies_are : n.copies ≡ all_copies loads
  pub are : AllByRecursion (IsLoad l (sent_by side) s.end.sender s.end.numbers) loads

-- by these deeds, which are these calls of the bearer
pub record Acts (side : Side) (l : ℕ) (s : Station) (m n : BearerEnd) (ds : List Deed) (cs : List BearerCall) : Type 0
  where
    pub done : AreDone m n ds
    pub calls_are : all_calls_in m ds ≡ cs
    pub matches : Matches side l s (does_all m n ds)

-- ---- a block comes

deeds_same : (l : ℕ) (d e : Direction) (k : ℕ) (blocks : List Block) (b : Block) (x : Load) (sp : ℕ) → d ≡ e
    → x.block ≡ b → Carries l e x → sp ≡ count_before l e k blocks
    → come_from sp (length x.copies) ≡ come_from (count_before l d k blocks) (length (carried l d b.octets))
deeds_same l d e k blocks b x sp dir is carries count =
    ap (λ (n : ℕ). come_from n (length x.copies)) (count ∙ ap (λ (y : Direction). count_before l y k blocks) (sym dir))
    ∙ ap (come_from (count_before l d k blocks)) (sym (many_in l e x carries)
    ∙ ap (λ (y : Block). length (carried l e y.octets)) is
    ∙ ap (λ (y : Direction). length (carried l y b.octets)) (sym dir))

pub hears : (side oside : Side) (l k : ℕ) (s o : Station) (n m : BearerEnd) (x : Option Block)
    → heard_by side ≡ sent_by oside → Matches side l s n → Matches oside l o m → slice_get o.blocks k ≡ x
    → Acts side l (comes s x) m n (comes_with l (heard_by side) k o.blocks x) (calls_by l s.end x)
hears side oside l k s o n m None dir h g q = record { done = tt; calls_are = refl; matches = h }
hears side oside l k s o n m (Some b) dir h g q =
    let e = s.end in
    let d = heard_by side in
    let out = sent_by oside in
    let all = carries_all l out o.end.sender o.end.numbers g.loads g.are g.bare in
    let at = at_place (λ (x : Load). x.block) g.loads k b (ap (λ (bs : List Block). slice_get bs k) g.blocks_are ∙ q) in
    let x : Load = at.0 in
    let carries : Carries l out x = all_at (Carries l out) g.loads k x all at.1 in
    let sp : Split l out g.loads k x = split_at l out g.loads k x all at.1 in
    let ds : List Deed = comes_with l d k o.blocks (Some b) in
    let same : come_from (length sp.before) (length x.copies) ≡ ds =
    deeds_same l d out k o.blocks b x (length sp.before) dir at.2 carries
    (sp.count_is ∙ ap (count_before l out k) g.blocks_are) in
    let hr : Hears m n ds (octets_of x.copies) =
    subst (λ (l : List Deed). Hears m n l (octets_of x.copies)) same
    (all_hears m n sp.before x.copies sp.behind (g.copies_are ∙ sp.copies_are)) in
    let by = receive_by l e b.octets in
    let carries' = ap (λ (z : Side). carried l (heard_by z) b.octets) (come_side side e h.come)
    ∙ ap (λ (z : Direction). carried l z b.octets) dir
    ∙ ap (λ (y : Block). carried l out y.octets) (sym at.2)
    ∙ carries in
    let bearer_is : flow l (after e (Receive b.octets)) ≡ Um hr.bearer =
    by.goes h.there
    ∙ ap (λ (f : Flow). after_all f (map (λ p. Arrives p) (carried l (heard_by e.side) b.octets))) h.bearer_is
    ∙ ap (λ (ps : List (List ℕ)). after_all (Um n.bearer) (map (λ p. Arrives p) ps)) carries'
    ∙ hr.flow_is in
    let t : Station = record s { end = after e (Receive b.octets) } in
    let now : Matches side l t (record n { bearer = hr.bearer }) = record {
      come = come_more side e (Receive b.octets) h.come tt;
      there = by.has_is ∙ h.there;
      bearer_is = bearer_is;
      loads = h.loads;
      bare = h.bare;
      blocks_are = h.blocks_are;
      copies_are = h.copies_are;
      are = h.are;
    } in
    record {
      done = hr.done;
      calls_are = hr.calls_are
          ∙ ap (λ (ps : List (List ℕ)). map (λ p. Arrives p) ps) (sym carries');
      matches = subst (Matches side l t) (sym hr.is) now;
    }

-- ---- a block is let go

except_none : {A : Type 0} (xs : List A) (k : ℕ) → slice_get xs k ≡ None → except k xs ≡ xs
except_none [] k q = refl
except_none (x ∷ xs) zero q = let no : Some x ≡ None = q in absurd cc
except_none (x ∷ xs) (suc k) q = ap (λ l. x ∷ l) (except_none xs k q)

pub lets_go : (side : Side) (l k : ℕ) (s : Station) (n m : BearerEnd) (o : Option Block) → Matches side l s n
    → slice_get s.blocks k ≡ o
    → Acts side l (record s { blocks = except k s.blocks }) m n (goes_with l (sent_by side) k s.blocks o) []
lets_go side l k s n m None h q =
    record {
      done = tt;
      calls_are = refl;
      matches = subst (λ (bs : List Block). Matches side l (record s { blocks = bs }) n)
          (sym (except_none s.blocks k q)) h;
    }
lets_go side l k s n m (Some b) h q =
    let d = sent_by side in
    let all = carries_all l d s.end.sender s.end.numbers h.loads h.are h.bare in
    let at = at_place (λ (x : Load). x.block) h.loads k b (ap (λ (bs : List Block). slice_get bs k) h.blocks_are ∙ q) in
    let x : Load = at.0 in
    let carries : Carries l d x = all_at (Carries l d) h.loads k x all at.1 in
    let sp : Split l d h.loads k x = split_at l d h.loads k x all at.1 in
    let ds : List Deed = goes_with l d k s.blocks (Some b) in
    let same : go_from (length sp.before) (length x.copies) ≡ ds =
    ap (λ (n : ℕ). go_from n (length x.copies)) (sp.count_is ∙ ap (count_before l d k) h.blocks_are)
    ∙ ap (go_from (count_before l d k s.blocks)) (sym (many_in l d x carries)
    ∙ ap (λ (y : Block). length (carried l d y.octets)) at.2) in
    let r : Drops m n ds (sp.before ++ sp.behind) =
    subst (λ (l : List Deed). Drops m n l (sp.before ++ sp.behind)) same
    (all_drops m n sp.before x.copies sp.behind (h.copies_are ∙ sp.copies_are)) in
    let t : Station = record s { blocks = except k s.blocks } in
    let now : Matches side l t (record n { copies = sp.before ++ sp.behind }) = record {
      come = h.come;
      there = h.there;
      bearer_is = h.bearer_is;
      loads = except k h.loads;
      bare = except_all IsBare k h.loads h.bare;
      blocks_are = except_blocks h.loads k ∙ ap (except k) h.blocks_are;
      copies_are = sym sp.fewer_copies;
      are = except_all (IsLoad l d s.end.sender s.end.numbers) k h.loads h.are;
    } in
    record { done = r.done; calls_are = r.calls_none; matches = subst (Matches side l t) (sym r.is) now }

-- ---- calls that write nothing and bring no PDU

plain_is : (n : BearerEnd) (c : BearerCall) → IsPlain c → calls n c ≡ record n { bearer = called n.bearer c }
plain_is n (Submits sdu) p = refl
plain_is n (Takes share held) p = absurd p
plain_is n (Arrives pdu) p = refl
plain_is n (Expires clock) p = refl
plain_is n Ticks p = refl
plain_is n (SetsDiscard ttis) p = refl

plain_done : (n : BearerEnd) (c : BearerCall) → IsPlain c → IsDone n (Calls c)
plain_done n (Submits sdu) p = tt
plain_done n (Takes share held) p = absurd p
plain_done n (Arrives pdu) p = p
plain_done n (Expires clock) p = tt
plain_done n Ticks p = tt
plain_done n (SetsDiscard ttis) p = tt

record Runs (m n : BearerEnd) (cs : List BearerCall) : Type 0 where
  done : AreDone m n (map (λ x. Calls x) cs)
  bearer : State
  is : does_all m n (map (λ x. Calls x) cs) ≡ record n { bearer = bearer }
  flow_is : after_all (Um n.bearer) cs ≡ Um bearer
  calls_are : all_calls_in m (map (λ x. Calls x) cs) ≡ cs

plain_runs : (m n : BearerEnd) (cs : List BearerCall) → AllByRecursion IsPlain cs → Runs m n cs
plain_runs m n [] p = record { done = tt; bearer = n.bearer; is = refl; flow_is = refl; calls_are = refl }
plain_runs m n (c ∷ cs) p =
    let x : BearerEnd = record n { bearer = called n.bearer c } in
    let q : calls n c ≡ x = plain_is n c p.0 in
    let more : List Deed = map (λ x. Calls x) cs in
    let h : Runs m x cs = plain_runs m x cs p.1 in
    record {
      done = (plain_done n c p.0, subst (λ (y : BearerEnd). AreDone m y more) (sym q) h.done);
      bearer = h.bearer;
      is = ap (λ (y : BearerEnd). does_all m y more) q ∙ h.is;
      flow_is = ap (λ (f : Flow). after_all f cs) (is_called n.bearer c) ∙ h.flow_is;
      calls_are = ap (λ (ds : List BearerCall). c ∷ ds) h.calls_are;
    }

pub plain_call : (side : Side) (l : ℕ) (s : Station) (n m : BearerEnd) (c : Call) → Matches side l s n → IsGivenCall c
    → GoesOnInLife l c → ((t : Turn) → c ≡ Visits t → ⊥) → ((block : List ℕ) → c ≡ Receive block → ⊥)
    → Acts side l (record s { end = after s.end c }) m n (map (λ x. Calls x) (calls_of l s.end c)) (calls_of l s.end c)
plain_call side l s n m c h g life v r =
    let e = after s.end c in
    let cs = calls_of l s.end c in
    let by : GoesBy l s.end.bearers e.bearers cs = plain_by l s.end c life v r in
    let q : Runs m n cs = plain_runs m n cs (plain_calls l s.end c life v r) in
    let t : Station = record s { end = e } in
    let now : Matches side l t (record n { bearer = q.bearer }) = record {
      come = come_more side s.end c h.come g;
      there = by.has_is ∙ h.there;
      bearer_is = by.goes h.there ∙ ap (λ (f : Flow). after_all f cs) h.bearer_is ∙ q.flow_is;
      loads = h.loads;
      bare = h.bare;
      blocks_are = h.blocks_are;
      copies_are = h.copies_are;
      are = plain_keep l (sent_by side) s.end c h.loads life v h.are;
    } in
    record { done = q.done; calls_are = q.calls_are; matches = subst (Matches side l t) (sym q.is) now }

-- ---- a TTI passes

pub passes : (side : Side) (l : ℕ) (s : Station) (n : BearerEnd) → Matches side l s n → Matches side l (passed s) n
passes side l s n h = record {
  come = h.come;
  there = h.there;
  bearer_is = h.bearer_is;
  loads = map aged_load h.loads;
  bare = aged_bare h.loads h.bare;
  blocks_are = aged_blocks h.loads ∙ ap (map older) h.blocks_are;
  copies_are = h.copies_are ∙ sym (aged_copies h.loads);
  are = aged_all l (sent_by side) s.end.sender s.end.numbers h.loads h.are;
}
