-- What is told of an act of an end is what its bearer's calls tell.
use Rattle.std.proofs.Common.{◌≡◌, ◌≤◌, ℕ, ◌==◌, Bool, true, false, if◌then◌else◌, Option, Some, None, List, [], ◌∷◌}
use Rattle.std.proofs.Common.{◌++◌, map, append-nil, append_assoc, slice_get, refl, ap, sym, subst, ◌∙◌}
use Rattle.std.specs.List.{flat_map}
use Rattle.bearer.specs.declared.flow.Flow.{Flow}
use Rattle.bearer.specs.declared.flow.Flow.TheVariants.{Am}
use Rattle.bearer.specs.Taking.{pdus, told}
use Rattle.bearer.specs.Acknowledged.State.{State}
use Rattle.l2_types.specs.declared.side.Side.TheVariants.{Nb, Ue}
use Rattle.law_bearer.specs.AnyBearer.Calls.{Call as BearerCall, Submit as Submits, Take as Takes, Arrive as Arrives}
use Rattle.law_bearer.specs.AnyBearer.Calls.{Expire as Expires, SetDiscard as SetsDiscard}
use Rattle.bearer_types.specs.declared.event.Event.{Event}
use Rattle.harq.specs.declared.sender.Order.{Order}
use Rattle.harq.specs.declared.sender.Visit.{Visit}
use Rattle.harq.specs.declared.sender.Visit.TheVariants.{New, Resend, Silent}
use Rattle.l2_bits.specs.declared.fault.SubmitRefusal.{SubmitRefusal}
use Rattle.l2_node.specs.Building.{visit, visited}
use Rattle.l2_node.specs.End.{End}
use Rattle.bearer_types.specs.Sides.{heard_by, sent_by}
use Rattle.l2_node.specs.Finding.{has}
use Rattle.l2_node.specs.Submitting.{refusal}
use Rattle.l2_node.specs.Writing.{new_block}
use Rattle.l2_types.specs.declared.side.Side.{Side}
use Rattle.law_node.specs.Calls.{Turn, Call, SetVisits, SetReports, Add, Submit, SetDiscard, Tick, TickBuckets, Visits}
use Rattle.law_node.specs.Calls.{Grants, Granted, Assigned, Pass, Receive, Expire, Move, IsGiven as IsGivenCall}
use Rattle.law_node.specs.Holding.{flow}
use Rattle.pdcp_pdu.specs.Kinds.{bits_of}
use Rattle.prioritise.specs.Channels.{has as has_channel}
use Rattle.law_words.specs.Arrivals.{AccountEntry}
use Rattle.law_deliver.specs.AmFlow.Air.{Block, Station, Act, Calls, Comes, Goes, built_at, IsVisiting, IsCalling}
use Rattle.law_deliver.specs.AmFlow.Air.{IsDone, HasCome}
use Rattle.law_deliver.specs.AmFlow.Channels.{only, share_of, held_of, takes_of, submits_of, calls_of, written_by}
use Rattle.law_deliver.specs.AmFlow.Channels.{GoesOnInLife}
use Rattle.promises.specs.Pdus.{carried}
use Rattle.law_rlc.specs.AmPair.Flow.{Copy, Report}
use Rattle.law_deliver.specs.AmFlow.Pair.{BearerEnd, Pair, Deed, Calls as CallsBearer, DataComes}
use Rattle.law_deliver.specs.AmFlow.Pair.{StatusComes}
use Rattle.law_deliver.specs.AmFlow.Pair.{DataGoes, StatusGoes, Near, Far, called, data_comes, status_comes, does}
use Rattle.law_deliver.specs.AmFlow.Pair.{happens}
use Rattle.law_deliver.specs.AmFlow.Ups.{tells_over}
use Rattle.law_deliver.proofs.AmFlow.Air.{calls_in as act_calls}
use Rattle.law_deliver.proofs.AmFlow.Channels.{blocks_carry_pdus}
use Rattle.law_deliver.proofs.AmFlow.Runs.{data_call, status_call, all_calls_in, calls_in as deed_calls, steps_at}
use Rattle.law_deliver.proofs.AmFlow.Stations.{come_side, calls_by as block_calls}
use Rattle.law_deliver.proofs.AmFlow.Ups.{Stands, tells_of}
use Rattle.law_deliver.specs.AmDelivery.Arrival.{said_in as bearer_says, heard_in as bearer_hears, said_by}
use Rattle.law_deliver.specs.AmDelivery.Arrival.{heard_by as bearers_hear, down_in, up_in}
use Rattle.promises.specs.Given.{entries_given, entries_written, entries_come}
use Rattle.law_deliver.specs.AmDelivery.Lives.{over, calls_in}
use Rattle.law_deliver.specs.AmChannel.Arrival.{built_in, said_in, heard_in, said_over, heard_over}
use Rattle.law_deliver.specs.AmChannel.Lives.{brought, calls_by}
use Rattle.law_deliver.proofs.AmChannel.Acting.{in_life_all, calls_same}
use Rattle.law_deliver.proofs.AmChannel.Bearers.{IsSteady}

-- ---- a bearer of a channel, whose numbers of PDCP have so many bits

pub record Speaks (bits l : ℕ) (b : State) : Type 0 where
  pub own : b.pdcp.lcid ≡ l
  pub kind : bits_of b.pdcp.kind ≡ bits

pub speaks : (bits l : ℕ) (b : State) → IsSteady bits l b → Speaks bits l b
speaks bits l b s = record { own = s.between.own; kind = ap bits_of s.data'.kind }

-- ---- calls of a bearer, one after the other

abbrev pub says : State → List BearerCall → List AccountEntry
says b [] = []
says b (c ∷ cs) = bearer_says b c ++ says (called b c) cs

abbrev pub hears : List BearerCall → List AccountEntry
hears [] = []
hears (c ∷ cs) = bearer_hears c ++ hears cs

hears_then : (cs ds : List BearerCall) → hears (cs ++ ds) ≡ hears cs ++ hears ds
hears_then [] ds = refl
hears_then (c ∷ cs) ds = ap (λ (hs : List AccountEntry). bearer_hears c ++ hs) (hears_then cs ds)
    ∙ sym (append_assoc (bearer_hears c) (hears cs) (hears ds))

-- ---- deeds of an end of a pair

deed_says : (other e : BearerEnd) (d : Deed) (cs : List BearerCall)
    → says e.bearer (deed_calls other d ++ cs) ≡ said_by e.bearer (deed_calls other d)
    ++ says (does other e d).bearer cs
deed_says other e (CallsBearer c) cs = refl
deed_says other e (DataComes k) cs = by (slice_get other.copies k)
  where
    by : (x : Option Copy) → says e.bearer (data_call x ++ cs)
        ≡ said_by e.bearer (data_call x) ++ says (data_comes e x).bearer cs
    by None = refl
    by (Some c) = refl
deed_says other e (StatusComes k) cs = by (slice_get other.reports k)
  where
    by : (x : Option Report) → says e.bearer (status_call x ++ cs)
        ≡ said_by e.bearer (status_call x) ++ says (status_comes e x).bearer cs
    by None = refl
    by (Some s) = refl
deed_says other e (DataGoes k) cs = refl
deed_says other e (StatusGoes k) cs = refl

deed_hears : (other : BearerEnd) (d : Deed) → hears (deed_calls other d) ≡ bearers_hear (deed_calls other d)
deed_hears other (CallsBearer c) = append-nil (bearer_hears c)
deed_hears other (DataComes k) = by (slice_get other.copies k)
  where
    by : (x : Option Copy) → hears (data_call x) ≡ bearers_hear (data_call x)
    by None = refl
    by (Some c) = refl
deed_hears other (StatusComes k) = by (slice_get other.reports k)
  where
    by : (x : Option Report) → hears (status_call x) ≡ bearers_hear (status_call x)
    by None = refl
    by (Some s) = refl
deed_hears other (DataGoes k) = refl
deed_hears other (StatusGoes k) = refl

pub near_says : (p : Pair) (ds : List Deed)
    → over down_in (in_life_all (steps_at Nb ds)) p ≡ says p.near.bearer (all_calls_in p.far ds)
near_says p [] = refl
near_says p (d ∷ ds) =
    ap (λ (hs : List AccountEntry). said_by p.near.bearer (calls_in p.far d) ++ hs) (near_says (happens p (Near d)) ds)
    ∙ (ap (λ (cs : List BearerCall). said_by p.near.bearer cs
    ++ says (does p.far p.near d).bearer (all_calls_in p.far ds)) (calls_same p.far d)
    ∙ sym (deed_says p.far p.near d (all_calls_in p.far ds)))

pub far_says : (p : Pair) (ds : List Deed)
    → over up_in (in_life_all (steps_at Ue ds)) p ≡ says p.far.bearer (all_calls_in p.near ds)
far_says p [] = refl
far_says p (d ∷ ds) =
    ap (λ (hs : List AccountEntry). said_by p.far.bearer (calls_in p.near d) ++ hs) (far_says (happens p (Far d)) ds)
    ∙ (ap (λ (cs : List BearerCall). said_by p.far.bearer cs
    ++ says (does p.near p.far d).bearer (all_calls_in p.near ds)) (calls_same p.near d)
    ∙ sym (deed_says p.near p.far d (all_calls_in p.near ds)))

pub near_hears : (p : Pair) (ds : List Deed)
    → over up_in (in_life_all (steps_at Nb ds)) p ≡ hears (all_calls_in p.far ds)
near_hears p [] = refl
near_hears p (d ∷ ds) =
    ap (λ (hs : List AccountEntry). bearers_hear (calls_in p.far d) ++ hs) (near_hears (happens p (Near d)) ds)
    ∙ (ap (λ (cs : List BearerCall). bearers_hear cs ++ hears (all_calls_in p.far ds)) (calls_same p.far d)
    ∙ (ap (λ (hs : List AccountEntry). hs ++ hears (all_calls_in p.far ds)) (sym (deed_hears p.far d))
    ∙ sym (hears_then (deed_calls p.far d) (all_calls_in p.far ds))))

pub far_hears : (p : Pair) (ds : List Deed)
    → over down_in (in_life_all (steps_at Ue ds)) p ≡ hears (all_calls_in p.near ds)
far_hears p [] = refl
far_hears p (d ∷ ds) =
    ap (λ (hs : List AccountEntry). bearers_hear (calls_in p.near d) ++ hs) (far_hears (happens p (Far d)) ds)
    ∙ (ap (λ (cs : List BearerCall). bearers_hear cs ++ hears (all_calls_in p.near ds)) (calls_same p.near d)
    ∙ (ap (λ (hs : List AccountEntry). hs ++ hears (all_calls_in p.near ds)) (sym (deed_hears p.near d))
    ∙ sym (hears_then (deed_calls p.near d) (all_calls_in p.near ds))))

-- ---- a call of an end

says_only : (here : Bool) (b : State) (c : BearerCall) → bearer_says b c ≡ [] → says b (only here c) ≡ []
says_only true b c e = ap (λ (hs : List AccountEntry). hs ++ []) e
says_only false b c e = refl

says_submits : (r : Option SubmitRefusal) (here : Bool) (b : State) (octets : List ℕ)
    → says b (submits_of r here octets) ≡ []
says_submits None here b octets = says_only here b (Submits octets) refl
says_submits (Some why) here b octets = refl

says_arrives : (pdus : List (List ℕ)) (b : State) → says b (map (λ pdu. Arrives pdu) pdus) ≡ []
says_arrives [] b = refl
says_arrives (pdu ∷ pdus) b = says_arrives pdus (called b (Arrives pdu))

visited_flow : (l : ℕ) (tti : ℕ) (order : Order) (e : End) → flow l (visited tti order e) ≡ flow l e
unfolding visited
visited_flow l tti order e = refl

-- the block that is built has the PDUs that the bearer writes
carries : (side : Side) (l : ℕ) (e : End) (tti : ℕ) (order : Order) (grant : ℕ) → HasCome side e
    → has l e.bearers ≡ true → 1 ≤ grant → grant ≤ 9422
    → carried l (sent_by e.side) (new_block (visited tti order e) grant) ≡ written_by (visited tti order e) grant l
carries side l e tti order grant h there some most =
    let is = sym h.end_is in
    ap (λ (s : Side). carried l (sent_by s) (new_block (visited tti order e) grant)) (come_side side e h)
    ∙ subst (λ (x : End). has l x.bearers ≡ true
    → carried l (sent_by side) (new_block (visited tti order x) grant) ≡ written_by (visited tti order x) grant l) is
    (λ t. blocks_carry_pdus side h.maximum h.reports h.past h.given tti order grant l some most t) there

says_visit : (v : Visit) (bits l : ℕ) (side : Side) (e : End) (b : State) (t : Turn) → visit t.tti t.order e ≡ v
    → Stands side l e → flow l e ≡ Am b
    → Speaks bits l b → IsGivenCall (Visits t)
    → (v ≡ New → 1 ≤ t.grant)
    → says b (takes_of v t (visited t.tti t.order e) l)
    ≡ entries_given bits (tells_over l (flow l e) (takes_of v t (visited t.tti t.order e) l))
    ++ entries_written
    (flat_map (carried l (sent_by e.side)) (map (λ (x : Block). x.octets) (built_at v t (visited t.tti t.order e))))
says_visit New bits l side e b t is s bearer steady g some = by (has_channel l f.buckets.channels) refl
  where
    f : End
    f = visited t.tti t.order e

    share : ℕ
    share = share_of (visited t.tti t.order e) t.grant l

    held : Option ℕ
    held = held_of (visited t.tti t.order e) l

    block : List ℕ
    block = new_block (visited t.tti t.order e) t.grant

    is_carried : carried l (sent_by e.side) block ≡ written_by (visited t.tti t.order e) t.grant l
    is_carried = carries side l e t.tti t.order t.grant s.come s.there (some refl) g.0

    here : flow l (visited t.tti t.order e) ≡ Am b
    here = visited_flow l t.tti t.order e ∙ bearer

    by : (c : Bool) → has_channel l (visited t.tti t.order e).buckets.channels ≡ c
        → says b (only c (Takes share held)) ≡ entries_given bits (tells_over l (flow l e) (only c (Takes share held)))
        ++ entries_written (carried l (sent_by e.side) block ++ [])
    by true q =
        let own : b.pdcp.lcid ≡ l = steady.own in
        let kind : bits_of b.pdcp.kind ≡ bits = steady.kind in
        let one : carried l (sent_by e.side) block ++ [] ≡ pdus (Am b) share held =
        append-nil (carried l (sent_by e.side) block)
        ∙ (is_carried
        ∙ (ap (λ (x : Bool). if x then pdus (flow l f) share held else []) q
        ∙ ap (λ (x : Flow). pdus x share held) here)) in
        append-nil (bearer_says b (Takes share held))
        ∙ (ap (λ (n : ℕ). entries_given n (told b.pdcp.lcid (Am b) share held)
        ++ entries_written (pdus (Am b) share held)) kind
        ∙ (ap (λ (n : ℕ). entries_given bits (told n (Am b) share held) ++ entries_written (pdus (Am b) share held)) own
        ∙ (ap (λ (x : Flow). entries_given bits (told l x share held) ++ entries_written (pdus (Am b) share held))
        (sym bearer)
        ∙ (ap (λ (es : List Event). entries_given bits es ++ entries_written (pdus (Am b) share held))
        (sym (append-nil (told l (flow l e) share held)))
        ∙ ap (λ (ps : List (List ℕ)). entries_given bits (tells_over l (flow l e) (Takes share held ∷ []))
        ++ entries_written ps)
        (sym one)))))
    by false q =
        let none : carried l (sent_by e.side) block ++ [] ≡ [] =
        append-nil (carried l (sent_by e.side) block)
        ∙ (is_carried ∙ ap (λ (x : Bool). if x then pdus (flow l f) share held else []) q) in
        ap (λ (ps : List (List ℕ)). entries_written ps) (sym none)
says_visit (Resend rv) bits l side e b t is s bearer steady g some = refl
says_visit Silent bits l side e b t is s bearer steady g some = refl

visiting_some : (v : Visit) (s : Station) (t : Turn) → IsVisiting v s t → v ≡ New → 1 ≤ t.grant
visiting_some New s t h e = h.some
visiting_some (Resend rv) s t h e = cc
visiting_some Silent s t h e = cc

call_says : (bits l : ℕ) (side : Side) (s : Station) (b : State) (c : Call) → Stands side l s.end
    → flow l s.end ≡ Am b → Speaks bits l b → IsGivenCall c
    → GoesOnInLife l c → IsCalling s c
    → says b (calls_of l s.end c) ≡ said_in bits l s.end c
call_says bits l side s b (SetVisits maximum) stands bearer steady g life calling = refl
call_says bits l side s b (SetReports reports) stands bearer steady g life calling = refl
call_says bits l side s b (Add c keys) stands bearer steady g life calling = refl
call_says bits l side s b (Submit lcid octets) stands bearer steady g life calling =
    says_submits (refusal lcid octets s.end) (lcid == l) b octets
call_says bits l side s b (SetDiscard lcid ttis) stands bearer steady g life calling =
    says_only (lcid == l) b (SetsDiscard ttis) refl
call_says bits l side s b Tick stands bearer steady g life calling = refl
call_says bits l side s b TickBuckets stands bearer steady g life calling = refl
call_says bits l side s b (Visits t) stands bearer steady g life calling =
    let e = s.end in
    let v = visit t.tti t.order e in
    says_visit v bits l side e b t refl stands bearer steady g (visiting_some v s t calling)
    ∙ ap (λ (es : List Event). entries_given bits es
    ++ entries_written (flat_map (carried l (sent_by e.side)) (built_in e (Visits t))))
    (sym (tells_of side l e (Visits t) stands life).told_is)
call_says bits l side s b (Grants tti) stands bearer steady g life calling = refl
call_says bits l side s b (Granted tti good) stands bearer steady g life calling = refl
call_says bits l side s b (Assigned tti ndi good) stands bearer steady g life calling = refl
call_says bits l side s b (Pass tti) stands bearer steady g life calling = refl
call_says bits l side s b (Receive block) stands bearer steady g life calling =
    says_arrives (carried l (heard_by s.end.side) block) b
call_says bits l side s b (Expire lcid clock) stands bearer steady g life calling =
    says_only (lcid == l) b (Expires clock) refl
call_says bits l side s b (Move keys) stands bearer steady g life calling = cc

hears_only : (here : Bool) (c : BearerCall) → bearer_hears c ≡ [] → hears (only here c) ≡ []
hears_only true c e = ap (λ (hs : List AccountEntry). hs ++ []) e
hears_only false c e = refl

hears_submits : (r : Option SubmitRefusal) (here : Bool) (octets : List ℕ) → hears (submits_of r here octets) ≡ []
hears_submits None here octets = hears_only here (Submits octets) refl
hears_submits (Some why) here octets = refl

hears_arrives : (pdus : List (List ℕ)) → hears (map (λ pdu. Arrives pdu) pdus) ≡ entries_come pdus
hears_arrives [] = refl
hears_arrives (pdu ∷ pdus) = ap (λ (hs : List AccountEntry). entries_come (pdu ∷ []) ++ hs) (hears_arrives pdus)

hears_takes : (v : Visit) (t : Turn) (e : End) (l : ℕ) → hears (takes_of v t e l) ≡ []
hears_takes New t e l = hears_only (has_channel l e.buckets.channels) (Takes (share_of e t.grant l) (held_of e l)) refl
hears_takes (Resend rv) t e l = refl
hears_takes Silent t e l = refl

call_hears : (l : ℕ) (e : End) (c : Call) → hears (calls_of l e c) ≡ heard_in l e c
call_hears l e (SetVisits maximum) = refl
call_hears l e (SetReports reports) = refl
call_hears l e (Add c keys) = refl
call_hears l e (Submit lcid octets) = hears_submits (refusal lcid octets e) (lcid == l) octets
call_hears l e (SetDiscard lcid ttis) = hears_only (lcid == l) (SetsDiscard ttis) refl
call_hears l e Tick = refl
call_hears l e TickBuckets = refl
call_hears l e (Visits t) = hears_takes (visit t.tti t.order e) t (visited t.tti t.order e) l
call_hears l e (Grants tti) = refl
call_hears l e (Granted tti good) = refl
call_hears l e (Assigned tti ndi good) = refl
call_hears l e (Pass tti) = refl
call_hears l e (Receive block) = hears_arrives (carried l (heard_by e.side) block)
call_hears l e (Expire lcid clock) = hears_only (lcid == l) (Expires clock) refl
call_hears l e (Move keys) = refl

-- ---- an act

brought_says : (bits l : ℕ) (e : End) (b : State) (o : Option Block)
    → says b (block_calls l e o) ≡ said_over bits l (brought o) e
brought_says bits l e b None = refl
brought_says bits l e b (Some x) = says_arrives (carried l (heard_by e.side) x.octets) b

brought_hears : (l : ℕ) (e : End) (o : Option Block) → hears (block_calls l e o) ≡ heard_over l (brought o) e
brought_hears l e None = refl
brought_hears l e (Some x) = call_hears l e (Receive x.octets) ∙ sym (append-nil (heard_in l e (Receive x.octets)))

pub act_says : (bits l : ℕ) (side : Side) (o s : Station) (b : State) (x : Act) → Stands side l s.end
    → flow l s.end ≡ Am b → Speaks bits l b → IsDone l s x
    → says b (act_calls l o s x) ≡ said_over bits l (calls_by o x) s.end
act_says bits l side o s b (Calls c) stands bearer steady g =
    call_says bits l side s b c stands bearer steady g.0 g.1 g.2 ∙ sym (append-nil (said_in bits l s.end c))
act_says bits l side o s b (Comes k) stands bearer steady g = brought_says bits l s.end b (slice_get o.blocks k)
act_says bits l side o s b (Goes k) stands bearer steady g = refl

pub act_hears : (l : ℕ) (o s : Station) (x : Act) → hears (act_calls l o s x) ≡ heard_over l (calls_by o x) s.end
act_hears l o s (Calls c) = call_hears l s.end c ∙ sym (append-nil (heard_in l s.end c))
act_hears l o s (Comes k) = brought_hears l s.end (slice_get o.blocks k)
act_hears l o s (Goes k) = refl
