-- What an end and its bearer of a channel do together.
use Rattle.std.proofs.Common.{◌≡◌, ℕ, zero, suc, ◌==◌, Bool, true, false, List, [], ◌∷◌, ◌++◌, map, Option, Some, None}
use Rattle.std.proofs.Common.{slice_get, refl, ap, sym, subst, ◌∙◌}
use Rattle.std.specs.List.{AllByRecursion}
use Rattle.law_rlc.specs.AmPair.Flow.{except}
use Rattle.bearer.specs.declared.flow.Flow.{Flow}
use Rattle.bearer.specs.declared.flow.Flow.TheVariants.{Am}
use Rattle.bearer.specs.Acknowledged.State.{State}
use Rattle.law_bearer.specs.AnyBearer.Calls.{Call as BearerCall, Submit as Submits, Take as Takes, Arrive as Arrives}
use Rattle.law_bearer.specs.AnyBearer.Calls.{Expire as Expires, Tick as Ticks, SetDiscard as SetsDiscard, after_all}
use Rattle.harq.specs.Sending.{Sending, fresh as fresh_sender}
use Rattle.l2_bits.specs.declared.fault.SubmitRefusal.{SubmitRefusal}
use Rattle.l2_node.specs.End.{End, fresh, with_visits, with_bearer}
use Rattle.bearer_types.specs.Sides.{heard_by, sent_by}
use Rattle.l2_node.specs.Finding.{Numbers, has}
use Rattle.l2_node.specs.Hearing.{expired}
use Rattle.l2_node.specs.Submitting.{refusal, discarding}
use Rattle.l2_types.specs.declared.side.Side.{Side}
use Rattle.mac_pdu.specs.declared.item.Direction.{Direction}
use Rattle.law_node.specs.Calls.{Turn, Call, SetVisits, SetReports, Add, Submit, SetDiscard, Tick, TickBuckets, Visits}
use Rattle.law_node.specs.Calls.{Grants, Granted, Assigned, Pass, Receive, Expire, Move, IsGiven as IsGivenCall}
use Rattle.law_node.specs.Calls.{AreGiven as AreGivenCalls, after, run_end}
use Rattle.law_node.specs.Holding.{flow}
use Rattle.law_node.proofs.Holders.{Fewer, fresh_none}
use Rattle.law_node.proofs.Living.{reached_side}
use Rattle.law_node.proofs.Sound.{reached_sound}
use Rattle.prioritise.specs.ShareLaws.{IsSound}
use Rattle.law_deliver.specs.AmFlow.Air.{Block, Station, comes, HasCome}
use Rattle.law_deliver.specs.AmFlow.Channels.{only, submits_of, calls_of, GoesOnInLife}
use Rattle.promises.specs.Pdus.{carried}
use Rattle.law_deliver.specs.AmFlow.Pair.{BearerEnd, Deed, Calls, called, calls, IsDone}
use Rattle.law_deliver.proofs.AmFlow.Channels.{receive_by, plain_by}
use Rattle.law_deliver.proofs.AmFlow.Loads.{Load, all_copies, all_reports, blocks_in, IsLoad, Split, split_at}
use Rattle.law_deliver.specs.AmFlow.Carrying.{CarriedPdu, behind_call}
use Rattle.law_deliver.proofs.AmFlow.Loads.{pdus_in, all_pdus, except_map, except_blocks, except_all, all_at}
use Rattle.law_deliver.proofs.AmFlow.Places.{GoesBy}
use Rattle.law_deliver.proofs.AmFlow.Runs.{does_all, AreDone, all_calls_in, all_hears, all_drops, Drops}
use Rattle.law_deliver.proofs.AmFlow.Sending.{is_called}
use Rattle.law_deliver.proofs.AmFlow.Standing.{or_none, at_place}

-- the bearer of the end is that of the pair, and what is under way of it is what the blocks carry
pub record Matches (side : Side) (l : ℕ) (s : Station) (n : BearerEnd) : Type 0 where
  pub come : HasCome side s.end
  pub there : has l s.end.bearers ≡ true
  pub bearer_is : flow l s.end ≡ Am n.bearer
  pub loads : List Load
  pub blocks_are : blocks_in loads ≡ s.blocks
  pub copies_are : n.copies ≡ all_copies loads
  pub reports_are : n.reports ≡ all_reports loads
  pub are : AllByRecursion (IsLoad l (sent_by side) s.end.sender s.end.numbers) loads
  pub busy : n.busy ≡ true → s.busy ≡ true

-- with these PDUs beside its blocks
pub record MatchesWith (side : Side) (l : ℕ) (s : Station) (n : BearerEnd) (pdus : List (List CarriedPdu)) : Type 0
  where
    pub matches : Matches side l s n
    pub pdus_are : all_pdus matches.loads ≡ pdus

-- by these calls of the bearer
pub record Acts (side : Side) (l : ℕ) (s : Station) (m n : BearerEnd) (cs : List BearerCall)
    (pdus : List (List CarriedPdu)) : Type 0 where
  pub deeds : List Deed
  pub done : AreDone m n deeds
  pub calls_are : all_calls_in m deeds ≡ cs
  pub now : MatchesWith side l s (does_all m n deeds) pdus

-- the same with an end that it is
matches_as : (side : Side) (l : ℕ) (s : Station) (n m : BearerEnd) → m ≡ n → (h : Matches side l s n)
    → MatchesWith side l s m (all_pdus h.loads)
matches_as side l s n m q h =
    subst (λ (x : BearerEnd). MatchesWith side l s x (all_pdus h.loads)) (sym q)
    (record { matches = h; pdus_are = refl })

-- ---- an end goes on

pub run_on : (cs ds : List Call) (e : End) → run_end (cs ++ ds) e ≡ run_end ds (run_end cs e)
run_on [] ds e = refl
run_on (c ∷ cs) ds e = run_on cs ds (after e c)

pub given_on : (cs : List Call) (c : Call) → AreGivenCalls cs → IsGivenCall c → AreGivenCalls (cs ++ c ∷ [])
given_on [] c h g = (g, tt)
given_on (x ∷ xs) c h g = (h.0, given_on xs c h.1 g)

pub come_more : (side : Side) (e : End) (c : Call) → HasCome side e → IsGivenCall c → HasCome side (after e c)
come_more side e c h g = record {
  maximum = h.maximum;
  reports = h.reports;
  past = h.past ++ c ∷ [];
  given = given_on h.past c h.given g;
  end_is = ap (λ (x : End). after x c) h.end_is ∙ sym (run_on h.past (c ∷ []) (fresh side h.maximum h.reports));
}

pub come_side : (side : Side) (e : End) → HasCome side e → e.side ≡ side
come_side side e h = ap (λ (x : End). x.side) h.end_is ∙ reached_side side h.maximum h.reports h.past

pub come_sound : (side : Side) (e : End) → HasCome side e → IsSound e.buckets
come_sound side e h =
    subst (λ (x : End). IsSound x.buckets) (sym h.end_is) (reached_sound side h.maximum h.reports h.past h.given)

-- ---- a block comes

abbrev pub calls_by : ℕ → End → Option Block → List BearerCall
calls_by l e None = []
calls_by l e (Some b) = calls_of l e (Receive b.octets)

pub hears : (side oside : Side) (l k : ℕ) (s o : Station) (n m : BearerEnd) (x : Option Block)
    → heard_by side ≡ sent_by oside → (h : Matches side l s n) → Matches oside l o m → slice_get o.blocks k ≡ x
    → Acts side l (comes s x) m n (calls_by l s.end x) (all_pdus h.loads)
hears side oside l k s o n m None dir h g q =
    record { deeds = []; done = tt; calls_are = refl; now = record { matches = h; pdus_are = refl } }
hears side oside l k s o n m (Some b) dir h g q =
    let e = s.end in
    let at = at_place (λ (x : Load). x.block) g.loads k b (ap (λ (bs : List Block). slice_get bs k) g.blocks_are ∙ q) in
    let x : Load = at.0 in
    let load : IsLoad l (sent_by oside) o.end.sender o.end.numbers x =
    all_at (IsLoad l (sent_by oside) o.end.sender o.end.numbers) g.loads k x g.are at.1 in
    let sp : Split g.loads k x = split_at g.loads k x at.1 in
    let hr = all_hears m n sp.pre x.reports sp.post sp.before x.copies sp.behind (g.reports_are ∙ sp.reports_are)
    (g.copies_are ∙ sp.copies_are) in
    let by = receive_by l e b.octets in
    let carries = ap (λ (z : Side). carried l (heard_by z) b.octets) (come_side side e h.come)
    ∙ ap (λ (d : Direction). carried l d b.octets) dir
    ∙ ap (λ (y : Block). carried l (sent_by oside) y.octets) (sym at.2)
    ∙ load.carries in
    let bearer_is : flow l (after e (Receive b.octets)) ≡ Am hr.bearer =
    by.goes h.there
    ∙ ap (λ (f : Flow). after_all f (map (λ p. Arrives p) (carried l (heard_by e.side) b.octets))) h.bearer_is
    ∙ ap (λ (ps : List (List ℕ)). after_all (Am n.bearer) (map (λ p. Arrives p) ps)) carries
    ∙ hr.flow_is in
    let t : Station = record s { end = after e (Receive b.octets) } in
    let there : Matches side l t (record n { bearer = hr.bearer }) = record {
      come = come_more side e (Receive b.octets) h.come tt;
      there = by.has_is ∙ h.there;
      bearer_is = bearer_is;
      loads = h.loads;
      blocks_are = h.blocks_are;
      copies_are = h.copies_are;
      reports_are = h.reports_are;
      are = h.are;
      busy = h.busy;
    } in
    record {
      deeds = hr.deeds;
      done = hr.done;
      calls_are =
          hr.calls_are ∙ ap (λ (ps : List (List ℕ)). map (λ p. Arrives p) ps) (sym carries);
      now = matches_as side l t _ _ hr.is there;
    }

-- ---- a block is let go

except_none : {A : Type 0} (xs : List A) (k : ℕ) → slice_get xs k ≡ None → except k xs ≡ xs
except_none [] k q = refl
except_none (x ∷ xs) zero q = let no : Some x ≡ None = q in absurd cc
except_none (x ∷ xs) (suc k) q = ap (λ l. x ∷ l) (except_none xs k q)

pub lets_go : (side : Side) (l k : ℕ) (s : Station) (n m : BearerEnd) (h : Matches side l s n) (o : Option Load)
    → slice_get h.loads k ≡ o
    → Acts side l (record s { blocks = except k s.blocks }) m n [] (except k (all_pdus h.loads))
lets_go side l k s n m h None q =
    let same : except k s.blocks ≡ s.blocks = ap (except k) (sym h.blocks_are) ∙ sym (except_blocks h.loads k)
    ∙ ap blocks_in (except_none h.loads k q) ∙ h.blocks_are in
    record {
      deeds = [];
      done = tt;
      calls_are = refl;
      now = subst (λ (bs : List Block). MatchesWith side l (record s { blocks = bs }) n (except k (all_pdus h.loads)))
          (sym same) (record {
            matches = h;
            pdus_are = ap all_pdus (sym (except_none h.loads k q)) ∙ except_map pdus_in h.loads k;
          });
    }
lets_go side l k s n m h (Some x) q =
    let sp : Split h.loads k x = split_at h.loads k x q in
    let d : Drops m n (sp.before ++ sp.behind) (sp.pre ++ sp.post) =
    all_drops m n sp.pre x.reports sp.post sp.before x.copies sp.behind (h.reports_are ∙ sp.reports_are)
    (h.copies_are ∙ sp.copies_are) in
    let t : Station = record s { blocks = except k s.blocks } in
    let there : Matches side l t (record n { copies = sp.before ++ sp.behind; reports = sp.pre ++ sp.post }) = record {
      come = h.come;
      there = h.there;
      bearer_is = h.bearer_is;
      loads = except k h.loads;
      blocks_are = except_blocks h.loads k ∙ ap (except k) h.blocks_are;
      copies_are = sym sp.fewer_copies;
      reports_are = sym sp.fewer_reports;
      are = except_all (IsLoad l (sent_by side) s.end.sender s.end.numbers) k h.loads h.are;
      busy = h.busy;
    } in
    record {
      deeds = d.deeds;
      done = d.done;
      calls_are = d.calls_none;
      now = subst (MatchesWith side l t (does_all m n d.deeds)) (except_map pdus_in h.loads k)
          (matches_as side l t _ _ d.is there);
    }

-- ---- calls that write nothing and bring no PDU

abbrev pub IsPlain : BearerCall → Type 0
IsPlain (Submits sdu) = Unit {0}
IsPlain (Takes share held) = ⊥
IsPlain (Arrives pdu) = ⊥
IsPlain (Expires clock) = Unit {0}
IsPlain Ticks = Unit {0}
IsPlain (SetsDiscard ttis) = Unit {0}

plain_is : (n : BearerEnd) (c : BearerCall) → IsPlain c → calls n c ≡ record n { bearer = called n.bearer c }
plain_is n (Submits sdu) p =
    ap (λ (b : Bool). record n { bearer = called n.bearer (Submits sdu); busy = b }) (sym (or_none n.busy))
plain_is n (Takes share held) p = absurd p
plain_is n (Arrives pdu) p = absurd p
plain_is n (Expires clock) p =
    ap (λ (b : Bool). record n { bearer = called n.bearer (Expires clock); busy = b }) (sym (or_none n.busy))
plain_is n Ticks p = ap (λ (b : Bool). record n { bearer = called n.bearer Ticks; busy = b }) (sym (or_none n.busy))
plain_is n (SetsDiscard ttis) p =
    ap (λ (b : Bool). record n { bearer = called n.bearer (SetsDiscard ttis); busy = b }) (sym (or_none n.busy))

plain_done : (n : BearerEnd) (c : BearerCall) → IsPlain c → IsDone n (Calls c)
plain_done n (Submits sdu) p = tt
plain_done n (Takes share held) p = absurd p
plain_done n (Arrives pdu) p = p
plain_done n (Expires clock) p = tt
plain_done n Ticks p = tt
plain_done n (SetsDiscard ttis) p = tt

record Runs (m n : BearerEnd) (cs : List BearerCall) : Type 0 where
  deeds : List Deed
  done : AreDone m n deeds
  bearer : State
  is : does_all m n deeds ≡ record n { bearer = bearer }
  flow_is : after_all (Am n.bearer) cs ≡ Am bearer
  calls_are : all_calls_in m deeds ≡ cs

plain_runs : (m n : BearerEnd) (cs : List BearerCall) → AllByRecursion IsPlain cs → Runs m n cs
plain_runs m n [] p = record { deeds = []; done = tt; bearer = n.bearer; is = refl; flow_is = refl; calls_are = refl }
plain_runs m n (c ∷ cs) p =
    let x : BearerEnd = record n { bearer = called n.bearer c } in
    let q : calls n c ≡ x = plain_is n c p.0 in
    let h : Runs m x cs = plain_runs m x cs p.1 in
    record {
      deeds = Calls c ∷ h.deeds;
      done = (plain_done n c p.0, subst (λ (y : BearerEnd). AreDone m y h.deeds) (sym q) h.done);
      bearer = h.bearer;
      is = ap (λ (y : BearerEnd). does_all m y h.deeds) q ∙ h.is;
      flow_is = ap (λ (f : Flow). after_all f cs) (is_called n.bearer c) ∙ h.flow_is;
      calls_are = ap (λ (ds : List BearerCall). c ∷ ds) h.calls_are;
    }

pub plain_acts : (side : Side) (l : ℕ) (s : Station) (n m : BearerEnd) (e : End) (cs : List BearerCall)
    (h : Matches side l s n) → HasCome side e → GoesBy l s.end.bearers e.bearers cs → AllByRecursion IsPlain cs
    → AllByRecursion (IsLoad l (sent_by side) e.sender e.numbers) h.loads
    → Acts side l (record s { end = e }) m n cs (all_pdus h.loads)
plain_acts side l s n m e cs h come by p are =
    let r : Runs m n cs = plain_runs m n cs p in
    let t : Station = record s { end = e } in
    let there : Matches side l t (record n { bearer = r.bearer }) = record {
      come = come;
      there = by.has_is ∙ h.there;
      bearer_is = by.goes h.there ∙ ap (λ (f : Flow). after_all f cs) h.bearer_is ∙ r.flow_is;
      loads = h.loads;
      blocks_are = h.blocks_are;
      copies_are = h.copies_are;
      reports_are = h.reports_are;
      are = are;
      busy = h.busy;
    } in
    record {
      deeds = r.deeds;
      done = r.done;
      calls_are = r.calls_are;
      now = matches_as side l t _ _ r.is there;
    }

plain_only : (t : Bool) (c : BearerCall) → IsPlain c → AllByRecursion IsPlain (only t c)
plain_only true c p = (p, tt)
plain_only false c p = tt

plain_submits : (r : Option SubmitRefusal) (t : Bool) (octets : List ℕ) → AllByRecursion IsPlain (submits_of r t octets)
plain_submits None t octets = plain_only t (Submits octets) tt
plain_submits (Some why) t octets = tt

-- processes that hold less
pub fewer_keep : (l : ℕ) (d : Direction) (s t : Sending) (numbers : Numbers) (xs : List Load) → Fewer s t
    → AllByRecursion (IsLoad l d s numbers) xs → AllByRecursion (IsLoad l d t numbers) xs
fewer_keep l d s t numbers [] f h = tt
fewer_keep l d s t numbers (x ∷ xs) f h =
    let q = h.0 in (
      record {
        carries = q.carries;
        process = q.process;
        aged = q.aged;
        noted = λ held. q.noted (λ none. held (f x.block.process none));
      },
      fewer_keep l d s t numbers xs f h.1,
    )

emptied_keep : (l maximum : ℕ) (d : Direction) (s : Sending) (numbers more : Numbers) (xs : List Load)
    → AllByRecursion (IsLoad l d s numbers) xs → AllByRecursion (IsLoad l d (fresh_sender maximum) more) xs
emptied_keep l maximum d s numbers more [] h = tt
emptied_keep l maximum d s numbers more (x ∷ xs) h =
    let q = h.0 in (
      record {
        carries = q.carries;
        process = q.process;
        aged = q.aged;
        noted = λ held. absurd (held (fresh_none maximum x.block.process));
      },
      emptied_keep l maximum d s numbers more xs h.1,
    )

-- ---- a call that is no visit and brings no block

pub plain_calls : (l : ℕ) (e : End) (c : Call) → GoesOnInLife l c → ((t : Turn) → c ≡ Visits t → ⊥)
    → ((block : List ℕ) → c ≡ Receive block → ⊥) → AllByRecursion IsPlain (calls_of l e c)
plain_calls l e (SetVisits maximum) g v r = tt
plain_calls l e (SetReports reports) g v r = tt
plain_calls l e (Add c keys) g v r = tt
plain_calls l e (Submit lcid octets) g v r = plain_submits (refusal lcid octets e) (lcid == l) octets
plain_calls l e (SetDiscard lcid ttis) g v r = plain_only (lcid == l) (SetsDiscard ttis) tt
plain_calls l e Tick g v r = (tt, tt)
plain_calls l e TickBuckets g v r = tt
plain_calls l e (Visits t) g v r = absurd (v t refl)
plain_calls l e (Grants tti) g v r = tt
plain_calls l e (Granted tti good) g v r = tt
plain_calls l e (Assigned tti ndi good) g v r = tt
plain_calls l e (Pass tti) g v r = tt
plain_calls l e (Receive block) g v r = absurd (r block refl)
plain_calls l e (Expire lcid clock) g v r = plain_only (lcid == l) (Expires clock) tt
plain_calls l e (Move keys) g v r = tt

pub plain_keep : (l : ℕ) (d : Direction) (e : End) (c : Call) (xs : List Load) → GoesOnInLife l c
    → ((t : Turn) → c ≡ Visits t → ⊥) → AllByRecursion (IsLoad l d e.sender e.numbers) xs
    → AllByRecursion (IsLoad l d (after e c).sender (after e c).numbers) xs
unfolding with_visits with_bearer discarding expired
plain_keep l d e (SetVisits maximum) xs g v h =
    emptied_keep l maximum d e.sender e.numbers (with_visits maximum e).numbers xs h
plain_keep l d e (SetReports reports) xs g v h = h
plain_keep l d e (Add c keys) xs g v h = h
plain_keep l d e (Submit lcid octets) xs g v h = h
plain_keep l d e (SetDiscard lcid ttis) xs g v h = h
plain_keep l d e Tick xs g v h = h
plain_keep l d e TickBuckets xs g v h = h
plain_keep l d e (Visits t) xs g v h = absurd (v t refl)
plain_keep l d e (Grants tti) xs g v h = h
plain_keep l d e (Granted tti good) xs g v h = h
plain_keep l d e (Assigned tti ndi good) xs g v h = h
plain_keep l d e (Pass tti) xs g v h = h
plain_keep l d e (Receive block) xs g v h = h
plain_keep l d e (Expire lcid clock) xs g v h = h
plain_keep l d e (Move keys) xs g v h = let no : keys ∷ [] ≡ [] = g.moves_none in absurd cc

-- it builds no block
pub plain_stays : (l : ℕ) (e : End) (c : Call) (pdus : List (List CarriedPdu)) → ((t : Turn) → c ≡ Visits t → ⊥)
    → pdus ≡ behind_call l e c pdus
plain_stays l e (SetVisits maximum) pdus v = refl
plain_stays l e (SetReports reports) pdus v = refl
plain_stays l e (Add c keys) pdus v = refl
plain_stays l e (Submit lcid octets) pdus v = refl
plain_stays l e (SetDiscard lcid ttis) pdus v = refl
plain_stays l e Tick pdus v = refl
plain_stays l e TickBuckets pdus v = refl
plain_stays l e (Visits t) pdus v = absurd (v t refl)
plain_stays l e (Grants tti) pdus v = refl
plain_stays l e (Granted tti good) pdus v = refl
plain_stays l e (Assigned tti ndi good) pdus v = refl
plain_stays l e (Pass tti) pdus v = refl
plain_stays l e (Receive block) pdus v = refl
plain_stays l e (Expire lcid clock) pdus v = refl
plain_stays l e (Move keys) pdus v = refl

pub plain_call : (side : Side) (l : ℕ) (s : Station) (n m : BearerEnd) (c : Call) (h : Matches side l s n)
    → IsGivenCall c → GoesOnInLife l c → ((t : Turn) → c ≡ Visits t → ⊥) → ((block : List ℕ) → c ≡ Receive block → ⊥)
    → Acts side l (record s { end = after s.end c }) m n (calls_of l s.end c) (behind_call l s.end c (all_pdus h.loads))
plain_call side l s n m c h g life v r =
    subst (Acts side l (record s { end = after s.end c }) m n (calls_of l s.end c))
    (plain_stays l s.end c (all_pdus h.loads) v)
    (plain_acts side l s n m (after s.end c) (calls_of l s.end c) h (come_more side s.end c h.come g)
    (plain_by l s.end c life v r) (plain_calls l s.end c life v r)
    (plain_keep l (sent_by side) s.end c h.loads life v h.are))
