-- An end writes on a channel of acknowledged data octets of the channel's own numbers, whatever block comes to it.
use Rattle.std.proofs.Common.{◌≡◌, ◌≤◌, ℕ, ◌==◌, Bool, true, false, if◌then◌else◌, Option, Some, None, Result, Ok, Err}
use Rattle.std.proofs.Common.{List, [], ◌∷◌, ◌++◌, map, append-nil, slice_get, refl, ap, sym, subst, ◌∙◌}
use Rattle.std.specs.List.{AllByRecursion, flat_map}
use Rattle.bearer.specs.Acknowledged.Lives.{stopped as am_stopped, restarted as am_restarted}
use Rattle.bearer.specs.Acknowledged.State.{State}
use Rattle.bearer.specs.declared.flow.Flow.{Flow}
use Rattle.bearer.specs.declared.flow.Flow.TheVariants.{Am}
use Rattle.bearer.specs.Lives.{stopped, restarted}
use Rattle.bearer.specs.Taking.{pdus}
use Rattle.bearer_types.specs.Sides.{heard_by, sent_by}
use Rattle.eps_sec.specs.declared.Keys.{Keys}
use Rattle.harq.specs.declared.sender.Order.{Order}
use Rattle.harq.specs.declared.sender.Visit.{Visit}
use Rattle.harq.specs.declared.sender.Visit.TheVariants.{New, Resend, Silent}
use Rattle.l2_node.specs.Building.{visit, visited}
use Rattle.l2_node.specs.End.{End}
use Rattle.l2_node.specs.Finding.{find, bearer_at}
use Rattle.l2_node.specs.Submitting.{refusal}
use Rattle.l2_node.specs.Writing.{new_block}
use Rattle.l2_types.specs.declared.side.Side.{Side}
use Rattle.l2_types.specs.declared.side.Side.TheVariants.{Nb, Ue}
use Rattle.prioritise.specs.Channels.{has as has_channel}
use Rattle.rlc_pdu.specs.declared.fault.RlcRefusal.{RlcRefusal}
use Rattle.rlc_pdu.specs.Pdus.{AcknowledgedPdu, Payload, Status as Control}
use Rattle.rlc_pdu.specs.Reading.{am_at}
use Rattle.law_bearer.specs.AnyBearer.Calls.{Take as Takes, Expire as Expires}
use Rattle.law_bearer.specs.AnyBearer.Calls.{SetDiscard as SetsDiscard, Restart, after_all, goes}
use Rattle.law_bearer.proofs.AnyBearer.Sendings.{begins_anew}
use Rattle.law_deliver.specs.AmChannel.Arrival.{built_in, said_in, heard_in, said_over, heard_over, happens_in}
use Rattle.law_deliver.specs.AmChannel.Arrival.{happened}
use Rattle.law_deliver.specs.AmChannel.Lives.{AirStep, InLife, Moves, lives_on, lives, IsLiving, AreLiving, end_at}
use Rattle.law_deliver.specs.AmChannel.Lives.{brought, calls_by}
use Rattle.law_deliver.specs.AmFlow.Air.{Block, Station, Air, Act, Calls, Comes, Goes, AtNb, AtUe, Passes}
use Rattle.law_deliver.specs.AmFlow.Air.{built_at, comes, does, IsVisiting, IsDone}
use Rattle.law_deliver.specs.AmFlow.Channels.{only, share_of, held_of, takes_of, calls_of, written_by, GoesOnInLife}
use Rattle.law_deliver.specs.AmFlow.Pair.{called}
use Rattle.law_deliver.proofs.AmFlow.Channels.{call_by}
use Rattle.law_deliver.proofs.AmFlow.Octets.{some_octets}
use Rattle.law_deliver.proofs.AmFlow.Sending.{is_called}
use Rattle.law_deliver.proofs.AmFlow.Stations.{come_side, come_sound}
use Rattle.law_deliver.proofs.AmFlow.Ups.{Stands, stands_more, the_end}
use Rattle.law_deliver.proofs.AmFlow.Visiting.{carries_so}
use Rattle.law_node.specs.Calls.{Turn, Call, SetVisits, SetReports, Add, Submit, SetDiscard, Tick, TickBuckets, Visits}
use Rattle.law_node.specs.Calls.{Grants, Granted, Assigned, Pass, Receive, Expire, Move, IsGiven as IsGivenCall, after}
use Rattle.law_node.specs.Calls.{reached, run_end}
use Rattle.law_node.specs.Holding.{flow}
use Rattle.law_node.specs.Telling.{told_of}
use Rattle.law_node.proofs.Keeping.{at_is, reached_are, share_most}
use Rattle.law_node.proofs.Ready.{WritesWell, ready_kept}
use Rattle.law_node.proofs.Sound.{visited_sound}
use Rattle.law_words.specs.Arrivals.{Given, AccountEntry, Gives, Passes as PassesOn, Renews, Account, accounted}
use Rattle.law_words.specs.Arrivals.{account}
use Rattle.law_words.specs.Passing.{Comes as ComesPdu, come_as}
use Rattle.promises.specs.Events.{told_on}
use Rattle.promises.specs.Given.{given_in, entries_of, entries_given, entries_written, entries_come}
use Rattle.promises.specs.OwnPdus.{AreOwn}
use Rattle.promises.specs.Pdus.{carried}
use Rattle.law_run.proofs.OwnPdus.Sender.{Owns, OwnOn, owns_as, start_owns}
use Rattle.law_run.proofs.OwnPdus.Bearers.{IsQuiet, quiet_all, quiet_only, quiet_submits, quiet_arrives, takes_own}

-- ---- entries one behind the other

pub own_then : (xs ys : List AccountEntry) (a : Account) → AreOwn a xs → AreOwn (account xs a) ys
    → AreOwn a (xs ++ ys)
own_then [] ys a h k = k
own_then (x ∷ xs) ys a h k = (h.0, own_then xs ys (accounted x a) h.1 k)

pub account_then : (xs ys : List AccountEntry) (a : Account) → account (xs ++ ys) a ≡ account ys (account xs a)
account_then [] ys a = refl
account_then (x ∷ xs) ys a = account_then xs ys (accounted x a)

-- entries that tell of no PDU that is written
record IsIdle (a : Account) (hs : List AccountEntry) : Type 0 where
  own : AreOwn a hs
  same : (account hs a).rlc.fields ≡ a.rlc.fields

gives_idle : (gs : List Given) (a : Account) → IsIdle a (entries_of gs)
gives_idle [] a = record { own = tt; same = refl }
gives_idle (g ∷ gs) a =
    let rest = gives_idle gs (accounted (Gives g) a) in
    record { own = (tt, rest.own); same = rest.same }

come_same : (r : Result AcknowledgedPdu RlcRefusal) (a : Account) → (come_as r a.rlc).fields ≡ a.rlc.fields
come_same (Ok (Payload pdu)) a = refl
come_same (Ok (Control pdu)) a = refl
come_same (Err refused) a = refl

come_idle : (ps : List (List ℕ)) (a : Account) → IsIdle a (entries_come ps)
come_idle [] a = record { own = tt; same = refl }
come_idle (p ∷ ps) a =
    let rest = come_idle ps (accounted (PassesOn (ComesPdu p)) a) in
    record { own = (tt, rest.own); same = rest.same ∙ come_same (am_at p) a }

heard_in_idle : (l : ℕ) (e : End) (c : Call) (a : Account) → IsIdle a (heard_in l e c)
heard_in_idle l e (Receive block) a = come_idle (carried l (heard_by e.side) block) a
heard_in_idle l e c a = record { own = tt; same = refl }

idle_then : (xs ys : List AccountEntry) (a : Account) → IsIdle a xs → IsIdle (account xs a) ys → IsIdle a (xs ++ ys)
idle_then xs ys a h k = record {
  own = own_then xs ys a h.own k.own;
  same = ap (λ (b : Account). b.rlc.fields) (account_then xs ys a) ∙ (k.same ∙ h.same);
}

heard_idle : (l : ℕ) (cs : List Call) (e : End) (a : Account) → IsIdle a (heard_over l cs e)
heard_idle l [] e a = record { own = tt; same = refl }
heard_idle l (c ∷ cs) e a =
    idle_then (heard_in l e c) (heard_over l cs (after e c)) a (heard_in_idle l e c a)
    (heard_idle l cs (after e c) (account (heard_in l e c) a))

-- ---- an end with a bearer of the channel, and its sender

pub record OwnsAt (side : Side) (l : ℕ) (fields : List ℕ) (e : End) : Type 0 where
  pub stands : Stands side l e
  pub bearer : State
  pub bearer_is : flow l e ≡ Am bearer
  pub owns : Owns fields bearer.tx

-- behind entries
pub record OwnTo (side : Side) (l : ℕ) (a : Account) (hs : List AccountEntry) (e : End) : Type 0 where
  pub own : AreOwn a hs
  pub at : OwnsAt side l (account hs a).rlc.fields e

at_as : (side : Side) (l : ℕ) (fields now : List ℕ) (e : End) → now ≡ fields → OwnsAt side l fields e
    → OwnsAt side l now e
at_as side l fields now e q h = subst (λ (n : List ℕ). OwnsAt side l n e) (sym q) h

idle_to : (side : Side) (l : ℕ) (a : Account) (hs : List AccountEntry) (e : End) → IsIdle a hs
    → OwnsAt side l a.rlc.fields e → OwnTo side l a hs e
idle_to side l a hs e i h = record {
  own = i.own;
  at = at_as side l a.rlc.fields (account hs a).rlc.fields e i.same h;
}

to_then : (side : Side) (l : ℕ) (a : Account) (xs ys : List AccountEntry) (e f : End) → OwnTo side l a xs e
    → OwnTo side l (account xs a) ys f → OwnTo side l a (xs ++ ys) f
to_then side l a xs ys e f h k = record {
  own = own_then xs ys a h.own k.own;
  at = at_as side l (account ys (account xs a)).rlc.fields (account (xs ++ ys) a).rlc.fields f
      (ap (λ (b : Account). b.rlc.fields) (account_then xs ys a)) k.at;
}

none_behind : (side : Side) (l : ℕ) (a : Account) (hs : List AccountEntry) (e : End) → OwnTo side l a hs e
    → OwnTo side l a (hs ++ []) e
none_behind side l a hs e h = subst (λ (xs : List AccountEntry). OwnTo side l a xs e) (sym (append-nil hs)) h

-- ---- a call

pub in_life_stands : (side : Side) (l : ℕ) (e : End) (c : Call) → Stands side l e → IsGivenCall c → GoesOnInLife l c
    → Stands side l (after e c)
in_life_stands side l e c s g life =
    stands_more side l e c s g (λ q. let no : true ≡ false = sym q ∙ life.adds_none in absurd cc)

pub reaches : (side : Side) (l : ℕ) (e : End) (c : Call) (b : State) → Stands side l e → GoesOnInLife l c
    → flow l e ≡ Am b → flow l (after e c) ≡ after_all (Am b) (calls_of l e c)
reaches side l e c b s life is =
    call_by l e c (come_sound side e s.come) life s.there ∙ ap (λ (f : Flow). after_all f (calls_of l e c)) is

quiet_at : (side : Side) (l : ℕ) (fields : List ℕ) (e : End) (c : Call) → IsGivenCall c → GoesOnInLife l c
    → AllByRecursion IsQuiet (calls_of l e c) → OwnsAt side l fields e → OwnsAt side l fields (after e c)
quiet_at side l fields e c g life q h =
    let k = quiet_all fields (calls_of l e c) h.bearer q h.owns in
    record {
      stands = in_life_stands side l e c h.stands g life;
      bearer = k.bearer;
      bearer_is = reaches side l e c h.bearer h.stands life h.bearer_is ∙ k.is;
      owns = k.owns;
    }

-- a block comes, wherever from
hears_at : (side : Side) (l : ℕ) (fields : List ℕ) (e : End) (block : List ℕ) → OwnsAt side l fields e
    → OwnsAt side l fields (after e (Receive block))
hears_at side l fields e block h =
    quiet_at side l fields e (Receive block) tt (record { adds_none = refl; moves_none = refl })
    (quiet_arrives (carried l (heard_by e.side) block)) h

pub hears_all : (side : Side) (l : ℕ) (fields : List ℕ) (blocks : List (List ℕ)) (e : End) → OwnsAt side l fields e
    → OwnsAt side l fields (run_end (map Receive blocks) e)
hears_all side l fields [] e h = h
hears_all side l fields (b ∷ bs) e h =
    hears_all side l fields bs (after e (Receive b)) (hears_at side l fields e b h)

-- what is known of its bearer
pub well_at : (side : Side) (l : ℕ) (e : End) (b : State) → Stands side l e → flow l e ≡ Am b
    → (lcid : ℕ) × WritesWell lcid (Am b)
well_at side l e b s is =
    let h = s.come in
    let r = reached side h.maximum h.reports h.past in
    let at = find l r.bearers in
    let w = at_is WritesWell r.bearers at ready_kept
    (reached_are WritesWell ready_kept side h.maximum h.reports h.past h.given) in
    let q : flow l r ≡ Am b = ap (λ (x : End). flow l x) (sym h.end_is) ∙ is in (
      (bearer_at r.bearers at).channel.lcid,
      subst (WritesWell (bearer_at r.bearers at).channel.lcid) q w,
    )

visited_flow : (l tti : ℕ) (order : Order) (e : End) → flow l (visited tti order e) ≡ flow l e
unfolding visited
visited_flow l tti order e = refl

-- a bearer that is called, behind what it writes
record Wrote (a : Account) (hs : List AccountEntry) (f : Flow) : Type 0 where
  own : AreOwn a hs
  bearer : State
  is : f ≡ Am bearer
  owns : Owns (account hs a).rlc.fields bearer.tx

module _ (side : Side) (l : ℕ) (e : End) (b : State) (t : Turn) (a : Account) (s : Stands side l e)
    (is : flow l e ≡ Am b) (g : IsGivenCall (Visits t)) (owns : Owns a.rlc.fields b.tx) where
  abbrev u : End
  u = visited t.tti t.order e

  abbrev share : ℕ
  share = share_of u t.grant l

  abbrev held : Option ℕ
  held = held_of u l

  abbrev wrote : Visit → List AccountEntry
  wrote v = entries_written (flat_map (carried l (sent_by e.side)) (map (λ (x : Block). x.octets) (built_at v t u)))

  takes : OwnOn a (entries_written (pdus (Am b) share held)) (called b (Takes share held)).tx
  takes =
      let sound = visited_sound t.tti t.order e (come_sound side e s.come) in
      let h = s.come in
      let w = well_at side l e b s is in
      takes_own w.0 b share held a (share_most u t.grant l sound g.0)
      (some_octets side h.maximum h.reports h.past l b share held h.given
      (ap (λ (x : End). flow l x) (sym h.end_is) ∙ is)) w.1 owns

  carries : 1 ≤ t.grant → carried l (sent_by e.side) (new_block u t.grant) ++ [] ≡ written_by u t.grant l
  carries some =
      append-nil (carried l (sent_by e.side) (new_block u t.grant))
      ∙ (ap (λ (x : Side). carried l (sent_by x) (new_block u t.grant)) (come_side side e s.come)
      ∙ carries_so side e s.come t.tti t.order t.grant l some g.0 s.there)

  builds : (c : Bool) → has_channel l u.buckets.channels ≡ c → 1 ≤ t.grant
      → Wrote a (wrote New) (after_all (Am b) (only c (Takes share held)))
  builds true q some =
      let all : carried l (sent_by e.side) (new_block u t.grant) ++ [] ≡ pdus (Am b) share held =
      carries some
      ∙ (ap (λ (x : Bool). if x then pdus (flow l u) share held else []) q
      ∙ ap (λ (x : Flow). pdus x share held) (visited_flow l t.tti t.order e ∙ is)) in
      let x = subst (λ (ps : List (List ℕ)). OwnOn a (entries_written ps) (called b (Takes share held)).tx) (sym all)
      takes in
      record { own = x.own; bearer = called b (Takes share held); is = is_called b (Takes share held); owns = x.owns }
  builds false q some =
      let none : carried l (sent_by e.side) (new_block u t.grant) ++ [] ≡ [] =
      carries some ∙ ap (λ (x : Bool). if x then pdus (flow l u) share held else []) q in
      let x : OwnOn a (entries_written (carried l (sent_by e.side) (new_block u t.grant) ++ [])) b.tx =
      subst (λ (ps : List (List ℕ)). OwnOn a (entries_written ps) b.tx) (sym none) (record { own = tt; owns = owns }) in
      record { own = x.own; bearer = b; is = refl; owns = x.owns }

  visits : (v : Visit) → (v ≡ New → 1 ≤ t.grant) → Wrote a (wrote v) (after_all (Am b) (takes_of v t u l))
  visits New some = builds (has_channel l u.buckets.channels) refl (some refl)
  visits (Resend rv) some = record { own = tt; bearer = b; is = refl; owns = owns }
  visits Silent some = record { own = tt; bearer = b; is = refl; owns = owns }

visit_some : (v : Visit) (s : Station) (t : Turn) → IsVisiting v s t → v ≡ New → 1 ≤ t.grant
visit_some New s t h e = h.some
visit_some (Resend rv) s t h e = cc
visit_some Silent s t h e = cc

visit_to : (side : Side) (bits l : ℕ) (e : End) (t : Turn) (a : Account) → IsGivenCall (Visits t)
    → GoesOnInLife l (Visits t) → (visit t.tti t.order e ≡ New → 1 ≤ t.grant) → OwnsAt side l a.rlc.fields e
    → OwnTo side l a (said_in bits l e (Visits t)) (after e (Visits t))
visit_to side bits l e t a g life some h =
    let first = entries_given bits (told_on l (told_of e (Visits t))) in
    let second = entries_written (flat_map (carried l (sent_by e.side)) (built_in e (Visits t))) in
    let i : IsIdle a first = gives_idle (flat_map (given_in bits) (told_on l (told_of e (Visits t)))) a in
    let b = account first a in
    let w = visits side l e h.bearer t b h.stands h.bearer_is g
    (owns_as a.rlc.fields b.rlc.fields h.bearer.tx i.same h.owns) (visit t.tti t.order e) some in
    record {
      own = own_then first second a i.own w.own;
      at = at_as side l (account second b).rlc.fields (account (first ++ second) a).rlc.fields (after e (Visits t))
          (ap (λ (x : Account). x.rlc.fields) (account_then first second a))
          (record {
            stands = in_life_stands side l e (Visits t) h.stands g life;
            bearer = w.bearer;
            bearer_is = reaches side l e (Visits t) h.bearer h.stands life h.bearer_is ∙ w.is;
            owns = w.owns;
          });
    }

-- the end moves, and its bearer begins anew
restarts_so : (b : State) (keys : Keys) → goes (Am b) (Restart keys) ≡ Am (am_restarted (am_stopped b) keys)
unfolding restarted stopped
restarts_so b keys = refl

moves_to : (side : Side) (l : ℕ) (e : End) (keys : Keys) (a : Account) → OwnsAt side l a.rlc.fields e
    → OwnTo side l a (Renews ∷ []) (after e (Move keys))
moves_to side l e keys a h =
    let d = am_restarted (am_stopped h.bearer) keys in
    let is = restarts_so h.bearer keys in
    record {
      own = (tt, tt);
      at = record {
        stands = stands_more side l e (Move keys) h.stands tt (λ q. let no : false ≡ true = q in absurd cc);
        bearer = d;
        bearer_is =
            (the_end side l e keys h.stands).bearer_is ∙ (ap (λ (f : Flow). goes f (Restart keys)) h.bearer_is ∙ is);
        owns = subst (Owns []) (sym (begins_anew h.bearer d keys is)) (start_owns h.bearer.tx_config);
      };
    }

-- ---- an act

quiet_to : (side : Side) (l : ℕ) (e : End) (c : Call) (a : Account) → IsGivenCall c → GoesOnInLife l c
    → AllByRecursion IsQuiet (calls_of l e c) → OwnsAt side l a.rlc.fields e
    → OwnTo side l a [] (after e c)
quiet_to side l e c a g life q h = record { own = tt; at = quiet_at side l a.rlc.fields e c g life q h }

call_to : (side : Side) (bits l : ℕ) (o s : Station) (c : Call) (a : Account) → IsDone l s (Calls c)
    → OwnsAt side l a.rlc.fields s.end
    → OwnTo side l a (said_over bits l (c ∷ []) s.end) (does o s (Calls c)).end
call_to side bits l o s (SetVisits maximum) a d h = quiet_to side l s.end (SetVisits maximum) a d.0 d.1 tt h
call_to side bits l o s (SetReports reports) a d h = quiet_to side l s.end (SetReports reports) a d.0 d.1 tt h
call_to side bits l o s (Add c keys) a d h = quiet_to side l s.end (Add c keys) a d.0 d.1 tt h
call_to side bits l o s (Submit lcid octets) a d h =
    quiet_to side l s.end (Submit lcid octets) a d.0 d.1
    (quiet_submits (refusal lcid octets s.end) (lcid == l) octets) h
call_to side bits l o s (SetDiscard lcid ttis) a d h =
    quiet_to side l s.end (SetDiscard lcid ttis) a d.0 d.1 (quiet_only (lcid == l) (SetsDiscard ttis) tt) h
call_to side bits l o s Tick a d h = quiet_to side l s.end Tick a d.0 d.1 (tt, tt) h
call_to side bits l o s TickBuckets a d h = quiet_to side l s.end TickBuckets a d.0 d.1 tt h
call_to side bits l o s (Visits t) a d h =
    none_behind side l a (said_in bits l s.end (Visits t)) (after s.end (Visits t))
    (visit_to side bits l s.end t a d.0 d.1 (visit_some (visit t.tti t.order s.end) s t d.2) h)
call_to side bits l o s (Grants tti) a d h = quiet_to side l s.end (Grants tti) a d.0 d.1 tt h
call_to side bits l o s (Granted tti good) a d h = quiet_to side l s.end (Granted tti good) a d.0 d.1 tt h
call_to side bits l o s (Assigned tti ndi good) a d h = quiet_to side l s.end (Assigned tti ndi good) a d.0 d.1 tt h
call_to side bits l o s (Pass tti) a d h = quiet_to side l s.end (Pass tti) a d.0 d.1 tt h
call_to side bits l o s (Receive block) a d h = absurd d.2
call_to side bits l o s (Expire lcid clock) a d h =
    quiet_to side l s.end (Expire lcid clock) a d.0 d.1 (quiet_only (lcid == l) (Expires clock) tt) h
call_to side bits l o s (Move keys) a d h = let no : keys ∷ [] ≡ [] = d.1.moves_none in absurd cc

brought_to : (side : Side) (bits l : ℕ) (s : Station) (x : Option Block) (a : Account)
    → OwnsAt side l a.rlc.fields s.end → OwnTo side l a (said_over bits l (brought x) s.end) (comes s x).end
brought_to side bits l s None a h = record { own = tt; at = h }
brought_to side bits l s (Some x) a h = record { own = tt; at = hears_at side l a.rlc.fields s.end x.octets h }

act_to : (side : Side) (bits l : ℕ) (o s : Station) (x : Act) (a : Account) → IsDone l s x
    → OwnsAt side l a.rlc.fields s.end
    → OwnTo side l a (said_over bits l (calls_by o x) s.end) (does o s x).end
act_to side bits l o s (Calls c) a d h = call_to side bits l o s c a d h
act_to side bits l o s (Comes k) a d h = brought_to side bits l s (slice_get o.blocks k) a h
act_to side bits l o s (Goes k) a d h = record { own = tt; at = h }

-- ---- a step of both ends

with_heard : (side : Side) (l : ℕ) (a : Account) (hs : List AccountEntry) (e : End) (cs : List Call) (f : End)
    → OwnTo side l a hs e → OwnTo side l a (hs ++ heard_over l cs f) e
with_heard side l a hs e cs f h =
    to_then side l a hs (heard_over l cs f) e e h
    (idle_to side l (account hs a) (heard_over l cs f) e (heard_idle l cs f (account hs a)) h.at)

still_to : (side : Side) (l : ℕ) (a : Account) (e : End) → OwnsAt side l a.rlc.fields e → OwnTo side l a [] e
still_to side l a e h = record { own = tt; at = h }

step_to : (from : Side) (bits l : ℕ) (x : AirStep) (w : Air) (a : Account) → IsLiving l w x
    → OwnsAt from l a.rlc.fields (end_at from w)
    → OwnTo from l a (happens_in bits l from w x) (end_at from (lives_on w x))
step_to Nb bits l (InLife (AtNb x)) w a g h =
    none_behind Nb l a (said_over bits l (calls_by w.ue x) w.nb.end) (does w.ue w.nb x).end
    (act_to Nb bits l w.ue w.nb x a g h)
step_to Nb bits l (InLife (AtUe x)) w a g h =
    with_heard Nb l a [] w.nb.end (calls_by w.nb x) w.ue.end (still_to Nb l a w.nb.end h)
step_to Nb bits l (InLife Passes) w a g h = still_to Nb l a w.nb.end h
step_to Nb bits l (Moves keys) w a g h = moves_to Nb l w.nb.end keys a h
step_to Ue bits l (InLife (AtUe x)) w a g h =
    none_behind Ue l a (said_over bits l (calls_by w.nb x) w.ue.end) (does w.nb w.ue x).end
    (act_to Ue bits l w.nb w.ue x a g h)
step_to Ue bits l (InLife (AtNb x)) w a g h =
    with_heard Ue l a [] w.ue.end (calls_by w.ue x) w.nb.end (still_to Ue l a w.ue.end h)
step_to Ue bits l (InLife Passes) w a g h = still_to Ue l a w.ue.end h
step_to Ue bits l (Moves keys) w a g h = moves_to Ue l w.ue.end keys a h

pub steps_to : (from : Side) (bits l : ℕ) (xs : List AirStep) (w : Air) (a : Account) → AreLiving l w xs
    → OwnsAt from l a.rlc.fields (end_at from w)
    → OwnTo from l a (happened bits l from xs w) (end_at from (lives xs w))
steps_to from bits l [] w a g h = record { own = tt; at = h }
steps_to from bits l (x ∷ xs) w a g h =
    let one = step_to from bits l x w a g.0 h in
    let hs = happens_in bits l from w x in
    let v = lives_on w x in
    to_then from l a hs (happened bits l from xs v) (end_at from v) (end_at from (lives xs v)) one
    (steps_to from bits l xs v (account hs a) g.1 one.at)
