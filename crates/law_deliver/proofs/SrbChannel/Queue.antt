-- What leaves the queue of a channel whose bearers begin anew in a handover, transparent or of signalling, is told by
-- its length.
use Rattle.std.proofs.Common.{◌≡◌, ◌⊎◌, inl, inr, ℕ, ◌+◌, ◌-◌, ◌==◌, nat_lt, Bool, true, false, if◌then◌else◌, Option}
use Rattle.std.proofs.Common.{Some, None, List, [], ◌∷◌, ◌++◌, map, length, append-nil, append_assoc, slice_get, refl}
use Rattle.std.proofs.Common.{ap, sym, subst, ◌∙◌, arith}
use Rattle.std.specs.List.{AllByRecursion}
use Rattle.std.proofs.lemmas.Bool.Decides.{nat_tests}
use Rattle.std.proofs.lemmas.List.{map-append}
use Rattle.bearer.specs.Acknowledged.Lives.{ends_with, last_ups, stopped as am_stopped, restarted as am_restarted}
use Rattle.bearer.specs.Acknowledged.State.{State, fresh as fresh_am}
use Rattle.bearer.specs.Bearer.{flow_of}
use Rattle.bearer.specs.declared.flow.Flow.{Flow}
use Rattle.bearer.specs.declared.flow.Flow.TheVariants.{Tm, Um, Am}
use Rattle.bearer.specs.Hearing.{arrived as flow_arrived, expired as flow_expired, ticked as flow_ticked, with_discard}
use Rattle.bearer.specs.Hearing.{ticking as flow_ticking}
use Rattle.bearer.specs.Lives.{stopped, stopping, restarted}
use Rattle.bearer.specs.Submitting.{submitted as flow_submitted}
use Rattle.bearer.specs.Taking.{told as flow_told, after as flow_after}
use Rattle.bearer.specs.Transparent.{data_told}
use Rattle.bearer_pdcp.specs.Ends.{Ends}
use Rattle.bearer_pdcp.specs.Lives.{restarted as restarted_pdcp}
use Rattle.bearer_types.specs.declared.config.BearerConfig.{BearerConfig}
use Rattle.eps_sec.specs.declared.Keys.{Keys}
use Rattle.l2_node.specs.End.{End}
use Rattle.l2_types.specs.declared.channel.Kind.{Kind}
use Rattle.l2_types.specs.declared.channel.Kind.TheVariants as kinds
use Rattle.l2_types.specs.declared.side.Side.{Side}
use Rattle.l2_types.specs.declared.side.Side.TheVariants.{Nb, Ue}
use Rattle.law_bearer.specs.AnyBearer.Calls.{Call, Submit, Take, Arrive, Expire, Tick, SetDiscard, Step, Calls, Restart}
use Rattle.law_bearer.specs.AnyBearer.Calls.{after, run_bearer}
use Rattle.law_bearer.specs.AnyBearer.Queue.{submits, all_submitted}
use Rattle.law_bearer.proofs.AnyBearer.Between.{IsBetween}
use Rattle.law_node.proofs.Pdcp.{moves_of}
use Rattle.law_node.proofs.Plain.{IsPlain, owes_nothing, plain_passes}
use Rattle.law_node.proofs.Queueing.{waits_in}
use Rattle.law_node.specs.Bearers.{keys_in}
use Rattle.law_node.specs.Calls.{Call as EndCall, Move, after as after_call, run_end}
use Rattle.law_node.specs.Holding.{flow}
use Rattle.law_node.specs.Telling.{told_of as told_in, told_over}
use Rattle.pdcp_pdu.specs.Kinds.{is_am}
use Rattle.pdcp_pdu.specs.declared.pdu.PdcpKind.{PdcpKind}
use Rattle.pdcp_pdu.specs.declared.pdu.PdcpKind.TheVariants.{Srb}
use Rattle.pdcp_tx.specs.State.{State as Sending, waiting_on, restarted as restarted_sending}
use Rattle.pdcp_tx_store.specs.Waiting.{Waits}
use Rattle.promises.specs.Taken.{length_in, lengths_on}
use Rattle.rlc_am_rx.specs.Machine.{finished}
use Rattle.rlc_pdu.specs.declared.Taken.TheVariants.{Piece, Small}
use Rattle.rlc_um.specs.Transparent.{Transparent, first_of, behind_first, taken as tm_taken, after_take}
use Rattle.law_deliver.specs.AmChannel.Delivery.{HasBegun, was_submitted, steps_over}
use Rattle.law_deliver.specs.AmChannel.Lives.{AirStep, InLife, Moves, lives_on, lives, AreLiving, end_at, brought}
use Rattle.law_deliver.specs.AmChannel.Lives.{calls_by, calls_at, all_calls}
use Rattle.law_deliver.specs.AmFlow.Air.{Air, Act, Block, Station, Comes, Goes, AtNb, AtUe, Passes, IsDone}
use Rattle.law_deliver.specs.AmFlow.Air.{Calls as CallsEnd}
use Rattle.law_deliver.specs.AmFlow.Channels.{calls_of}
use Rattle.law_deliver.proofs.AmChannel.Bearers.{between_after}
use Rattle.law_deliver.proofs.AmChannel.Delivery.{stands_so}
use Rattle.law_deliver.proofs.AmChannel.Ends.{lengths_in, all_lengths, length_off, IsCall, are_calls, all_go}
use Rattle.law_deliver.proofs.AmChannel.Ends.{goes_by_calls, all_more}
use Rattle.law_deliver.proofs.AmChannel.Lengths.{hears_none}
use Rattle.law_deliver.proofs.AmChannel.Submitted.{submitted_is}
use Rattle.law_deliver.proofs.AmFlow.Events.{none_arriving, none_expiring, none_ending, picked_as}
use Rattle.law_deliver.proofs.AmFlow.Sending.{is_called}
use Rattle.law_deliver.proofs.AmFlow.Ups.{Stands, stands_more, the_end, come_between, between_at}
use Rattle.law_deliver.proofs.SrbChannel.Leaving.{call_lens, plain_called}
use Rattle.law_deliver.proofs.SrbChannel.Sums.{call_new}
use Rattle.law_deliver.proofs.UmChannel.Queue.{begun_plain, begun_empty}

-- ---- such a bearer

abbrev pub BeginsAnew : Flow → Type 0
BeginsAnew (Tm b) = Unit {0}
BeginsAnew (Um b) = ⊥
BeginsAnew (Am b) = IsPlain Srb b.pdcp

-- ---- a transparent one sends the first SDU that waits

first_told : (l next size : ℕ) (ws : List (List ℕ))
    → lengths_on l (data_told l (first_of next size ws)) ++ map length (behind_first next size ws).waiting
    ≡ map length ws
first_told l next size [] = refl
first_told l next size (w ∷ ws) =
    by (nat_lt size (length w)) (record { next = next; waiting = w ∷ ws }) (record { next = next + 1; waiting = ws })
    refl refl
  where
    here : (l == l) ≡ true
    here = grind (arith, nat_tests)

    by : (b : Bool) (s t : Transparent) → s.waiting ≡ w ∷ ws → t.waiting ≡ ws
        → lengths_on l (data_told l (if b then Small else Piece next true false w))
        ++ map length (if b then s else t).waiting ≡ map length (w ∷ ws)
    by true s t p q = ap (λ (xs : List (List ℕ)). map length xs) p
    by false s t p q =
        ap (λ (xs : List (List ℕ)). lengths_on l (data_told l (Piece next true false w)) ++ map length xs) q
        ∙ ap (λ (b : Bool). ((if b then length w ∷ [] else []) ++ []) ++ map length ws) here

transparent_takes : (l : ℕ) (b : Transparent) (share : ℕ) (held : Option ℕ)
    → lengths_in l (Tm b) (Take share held) ++ map length (waits_in (after (Tm b) (Take share held)))
    ≡ map length b.waiting
unfolding flow_told flow_after tm_taken after_take
transparent_takes l b share held = first_told l b.next (share - 3) b.waiting

transparent_lens : (l : ℕ) (b : Transparent) (c : Call) → IsBetween l (Tm b)
    → lengths_in l (Tm b) c ++ map length (waits_in (after (Tm b) c)) ≡ map length b.waiting ++ map length (submits c)
unfolding flow_submitted flow_arrived flow_expired flow_ticking flow_ticked with_discard
transparent_lens l b (Submit sdu) k = map-append length b.waiting (sdu ∷ [])
transparent_lens l b (Take share held) k =
    transparent_takes l b share held ∙ sym (append-nil (map length b.waiting))
transparent_lens l b (Arrive pdu) k =
    ap (λ (ns : List ℕ). ns ++ map length b.waiting)
    (none_arriving length_in length_off l (Tm b) k (hears_none l l) pdu)
    ∙ sym (append-nil (map length b.waiting))
transparent_lens l b (Expire clock) k =
    ap (λ (ns : List ℕ). ns ++ map length b.waiting)
    (none_expiring length_in length_off l (Tm b) k (hears_none l l) clock)
    ∙ sym (append-nil (map length b.waiting))
transparent_lens l b Tick k = sym (append-nil (map length b.waiting))
transparent_lens l b (SetDiscard ttis) k = sym (append-nil (map length b.waiting))

-- ---- a call of either

flow_lens : (l : ℕ) (f : Flow) (c : Call) → IsBetween l f → BeginsAnew f
    → lengths_in l f c ++ map length (waits_in (after f c)) ≡ map length (waits_in f) ++ map length (submits c)
flow_lens l (Tm b) c k h = transparent_lens l b c k
flow_lens l (Um b) c k h = absurd h
flow_lens l (Am b) c k h = ap (λ (f : Flow). lengths_in l (Am b) c ++ map length (waits_in f)) (is_called b c)
    ∙ call_lens l b c k h

transparent_after : (b : Transparent) (c : Call) → BeginsAnew (after (Tm b) c)
unfolding flow_submitted flow_after flow_arrived flow_expired flow_ticked with_discard
transparent_after b (Submit sdu) = tt
transparent_after b (Take share held) = tt
transparent_after b (Arrive pdu) = tt
transparent_after b (Expire clock) = tt
transparent_after b Tick = tt
transparent_after b (SetDiscard ttis) = tt

anew_after : (f : Flow) (c : Call) → BeginsAnew f → BeginsAnew (after f c)
anew_after (Tm b) c h = transparent_after b c
anew_after (Um b) c h = absurd h
anew_after (Am b) c h = subst BeginsAnew (sym (is_called b c)) (plain_called b c h)

-- ---- in a life

abbrev pub AreCalls : List Step → Type 0
AreCalls [] = Unit {0}
AreCalls (Calls c ∷ xs) = AreCalls xs
AreCalls (Restart keys ∷ xs) = ⊥

life_lens : (l : ℕ) (xs : List Step) (f : Flow) → AreCalls xs → IsBetween l f → BeginsAnew f
    → all_lengths l f xs ++ map length (waits_in (run_bearer xs f))
    ≡ map length (waits_in f) ++ map length (all_submitted xs)
life_lens l [] f g k h = sym (append-nil (map length (waits_in f)))
life_lens l (Calls c ∷ xs) f g k h =
    let d = after f c in
    let here = lengths_in l f c in
    let left = map length (waits_in (run_bearer xs d)) in
    let more = map length (all_submitted xs) in
    let subs = map length (submits c) in
    append_assoc here (all_lengths l d xs) left
    ∙ (ap (λ (ns : List ℕ). here ++ ns) (life_lens l xs d g (between_after l f c k) (anew_after f c h))
    ∙ (sym (append_assoc here (map length (waits_in d)) more)
    ∙ (ap (λ (ns : List ℕ). ns ++ more) (flow_lens l f c k h)
    ∙ (append_assoc (map length (waits_in f)) subs more
    ∙ ap (λ (ns : List ℕ). map length (waits_in f) ++ ns) (sym (map-append length (submits c) (all_submitted xs)))))))
life_lens l (Restart keys ∷ xs) f g k h = absurd g

anew_over : (xs : List Step) (f : Flow) → AreCalls xs → BeginsAnew f → BeginsAnew (run_bearer xs f)
anew_over [] f g h = h
anew_over (Calls c ∷ xs) f g h = anew_over xs (after f c) g (anew_after f c h)
anew_over (Restart keys ∷ xs) f g h = absurd g

-- ---- the calls of an end in a life

abbrev pub AreInOneLife : List AirStep → Type 0
AreInOneLife [] = Unit {0}
AreInOneLife (InLife s ∷ xs) = AreInOneLife xs
AreInOneLife (Moves keys ∷ xs) = ⊥

abbrev MovesNone : EndCall → Type 0
MovesNone c = keys_in c ≡ []

brought_stay : (b : Option Block) → AllByRecursion MovesNone (brought b)
brought_stay None = tt
brought_stay (Some b) = (refl, tt)

act_stays : (l : ℕ) (other s : Station) (x : Act) → IsDone l s x → AllByRecursion MovesNone (calls_by other x)
act_stays l other s (CallsEnd c) g = (g.1.moves_none, tt)
act_stays l other s (Comes k) g = brought_stay (slice_get other.blocks k)
act_stays l other s (Goes k) g = tt

all_stay : (l : ℕ) (side : Side) (xs : List AirStep) (a : Air) → AreInOneLife xs → AreLiving l a xs
    → AllByRecursion MovesNone (all_calls side xs a)
all_stay l side [] a own g = tt
all_stay l Nb (InLife (AtNb x) ∷ xs) a own g =
    all_more MovesNone (calls_at Nb a (InLife (AtNb x))) (all_calls Nb xs (lives_on a (InLife (AtNb x))))
    (act_stays l a.ue a.nb x g.0) (all_stay l Nb xs (lives_on a (InLife (AtNb x))) own g.1)
all_stay l Nb (InLife (AtUe x) ∷ xs) a own g = all_stay l Nb xs (lives_on a (InLife (AtUe x))) own g.1
all_stay l Nb (InLife Passes ∷ xs) a own g = all_stay l Nb xs (lives_on a (InLife Passes)) own g.1
all_stay l Ue (InLife (AtNb x) ∷ xs) a own g = all_stay l Ue xs (lives_on a (InLife (AtNb x))) own g.1
all_stay l Ue (InLife (AtUe x) ∷ xs) a own g =
    all_more MovesNone (calls_at Ue a (InLife (AtUe x))) (all_calls Ue xs (lives_on a (InLife (AtUe x))))
    (act_stays l a.nb a.ue x g.0) (all_stay l Ue xs (lives_on a (InLife (AtUe x))) own g.1)
all_stay l Ue (InLife Passes ∷ xs) a own g = all_stay l Ue xs (lives_on a (InLife Passes)) own g.1
all_stay l side (Moves keys ∷ xs) a own g = absurd own

restarts_none : (ks : List Keys) (xs : List Step) → ks ≡ [] → AreCalls xs
    → AreCalls (map (λ (k : Keys). Restart k) ks ++ xs)
restarts_none [] xs q g = g
restarts_none (k ∷ ks) xs q g = absurd cc

calls_then : (cs : List Call) (ks : List Keys) (xs : List Step) → ks ≡ [] → AreCalls xs
    → AreCalls ((map (λ (c : Call). Calls c) cs ++ map (λ (k : Keys). Restart k) ks) ++ xs)
calls_then [] ks xs q g = restarts_none ks xs q g
calls_then (c ∷ cs) ks xs q g = calls_then cs ks xs q g

are_alone : (l : ℕ) (cs : List EndCall) (e : End) → AllByRecursion MovesNone cs → AreCalls (steps_over l cs e)
are_alone l [] e g = tt
are_alone l (c ∷ cs) e g = calls_then (calls_of l e c) (keys_in c) (steps_over l cs (after_call e c)) g.0
    (are_alone l cs (after_call e c) g.1)

-- ---- as a life begins

-- an end whose bearer of the channel has nothing that waits
pub record BeginsEmpty (side : Side) (l : ℕ) (e : End) : Type 0 where
  pub stands : Stands side l e
  pub anew : BeginsAnew (flow l e)
  pub none_waits : waits_in (flow l e) ≡ []

of_kind : (c : BearerConfig) (keys : Keys) (side : Side) (kind : Kind) → (kind ≡ kinds.Tm) ⊎ (kind ≡ kinds.Srb)
    → BeginsAnew (flow_of kind c keys side) × (waits_in (flow_of kind c keys side) ≡ [])
unfolding fresh_am
of_kind c keys side kinds.Tm k = (tt, refl)
of_kind c keys side kinds.Srb k = (
  begun_plain Srb c.channel.lcid c.first keys side,
  ap (λ (ws : List Waits). map (λ w. w.sdu) ws) (begun_empty Srb c.channel.lcid c.first keys side),
)
of_kind c keys side kinds.Um (inl k) = absurd cc
of_kind c keys side kinds.Um (inr k) = absurd cc
of_kind c keys side kinds.Am (inl k) = absurd cc
of_kind c keys side kinds.Am (inr k) = absurd cc

pub begins_first : (side : Side) (l : ℕ) (c : BearerConfig) (keys : Keys) (e : End)
    → (c.kind ≡ kinds.Tm) ⊎ (c.kind ≡ kinds.Srb) → HasBegun side l c keys e → BeginsEmpty side l e
begins_first side l c keys e k h =
    let own = of_kind c keys side c.kind k in
    record {
      stands = stands_so side l c keys e h;
      anew = subst BeginsAnew (sym h.bearer_is) own.0;
      none_waits = ap waits_in h.bearer_is ∙ own.1;
    }

-- ---- as it ends, what waits is forgotten

forgets : (s : Sending) (keys : Keys) → s.kind ≡ Srb → (restarted_sending s keys).waiting ≡ []
unfolding restarted_sending
forgets s keys q = ap (λ (x : PdcpKind). waiting_on x s.waiting) q

forgotten : (e : Ends) (keys : Keys) → IsPlain Srb e → (restarted_pdcp e keys).tx.waiting ≡ []
unfolding restarted_pdcp
forgotten e keys h =
    ap (λ (s : Sending). s.waiting) (owes_nothing Srb refl e (restarted_sending e.tx keys) h)
    ∙ forgets e.tx keys h.sender.kind_is

still : (b : State) → IsPlain Srb b.pdcp → (last_ups b).pdcp ≡ b.pdcp
still b h =
    ap (λ (x : Bool). (ends_with x (finished b.rx) (record { pdcp = b.pdcp; events = [] })).pdcp) (ap is_am h.own)

pub none_next : (f : Flow) (keys : Keys) → BeginsAnew f → waits_in (restarted (stopped f) keys) ≡ []
unfolding restarted stopped am_restarted am_stopped
none_next (Tm b) keys h = refl
none_next (Um b) keys h = absurd h
none_next (Am b) keys h =
    ap (λ (e : Ends). map (λ w. w.sdu) (restarted_pdcp e keys).tx.waiting) (still b h)
    ∙ ap (λ (ws : List Waits). map (λ w. w.sdu) ws) (forgotten b.pdcp keys h)

anew_next : (f : Flow) (keys : Keys) → BeginsAnew f → BeginsAnew (restarted (stopped f) keys)
unfolding restarted stopped
anew_next (Tm b) keys h = tt
anew_next (Um b) keys h = absurd h
anew_next (Am b) keys h = moves_of (IsPlain Srb) (plain_passes Srb refl) (Am b) keys h

pub moved_stands : (side : Side) (l : ℕ) (e : End) (keys : Keys) → Stands side l e
    → Stands side l (after_call e (Move keys))
moved_stands side l e keys st =
    stands_more side l e (Move keys) st tt (λ p. let no : false ≡ true = p in absurd cc)

begins_next : (side : Side) (l : ℕ) (e : End) (keys : Keys) → Stands side l e → BeginsAnew (flow l e)
    → BeginsEmpty side l (after_call e (Move keys))
begins_next side l e keys st h =
    let is = (the_end side l e keys st).bearer_is in
    record {
      stands = moved_stands side l e keys st;
      anew = subst BeginsAnew (sym is) (anew_next (flow l e) keys h);
      none_waits = ap waits_in is ∙ none_next (flow l e) keys h;
    }

-- ---- as a life ends nothing leaves

none_leaves_between : (side : Side) (l : ℕ) (e : End) (keys : Keys) → Stands side l e
    → lengths_on l (told_in e (Move keys)) ≡ []
none_leaves_between side l e keys st =
    picked_as length_in length_off l (told_in e (Move keys)) (stopping (flow l e)) (the_end side l e keys st).told_is
    ∙ none_ending length_in length_off l (flow l e) (between_at l e.bearers st.there (come_between side e st.come))
    (hears_none l l)

-- ---- an end in a life

pub stand_on : (side : Side) (l : ℕ) (e : End) (cs : List EndCall) → Stands side l e → AllByRecursion (IsCall l) cs
    → Stands side l (run_end cs e)
stand_on side l e [] st g = st
stand_on side l e (c ∷ cs) st g = let one = call_new l e c g.0 in
    stand_on side l (after_call e c) cs (stands_more side l e c st one.0 one.1) g.1

module _ (l : ℕ) (side : Side) (a : Air) (steps : List AirStep) (begun : BeginsEmpty side l (end_at side a))
    (living : AreLiving l a steps) (own : AreInOneLife steps) where
  abbrev first : End
  first = end_at side a

  abbrev last : End
  last = end_at side (lives steps a)

  abbrev cs : List EndCall
  cs = all_calls side steps a

  given : AllByRecursion (IsCall l) cs
  given = are_calls l side steps a living

  alone : AreCalls (steps_over l cs first)
  alone = are_alone l cs first (all_stay l side steps a own living)

  between : IsBetween l (flow l first)
  between = between_at l first.bearers begun.stands.there (come_between side first begun.stands.come)

  -- those that were submitted have left the queue, or wait
  pub tells_what_leaves : lengths_on l (told_over cs first) ++ map length (waits_in (flow l last))
      ≡ map length (was_submitted l cs first)
  tells_what_leaves =
      let xs = steps_over l cs first in
      let all = all_go side l first cs begun.stands given in
      ap (λ (x : End). lengths_on l (told_over cs first) ++ map length (waits_in (flow l x)))
      (goes_by_calls side steps a)
      ∙ (ap (λ (ns : List ℕ). ns ++ map length (waits_in (flow l (run_end cs first)))) all.lengths_are
      ∙ (ap (λ (f : Flow). all_lengths l (flow l first) xs ++ map length (waits_in f)) all.bearer_is
      ∙ (life_lens l xs (flow l first) alone between begun.anew
      ∙ (ap (λ (ws : List (List ℕ)). map length ws ++ map length (all_submitted xs)) begun.none_waits
      ∙ ap (λ (ss : List (List ℕ)). map length ss) (sym (submitted_is l cs first))))))

  stands_behind : Stands side l last
  stands_behind =
      subst (Stands side l) (sym (goes_by_calls side steps a)) (stand_on side l first cs begun.stands given)

  -- and as it ends nothing leaves, and the next one begins so
  pub none_leaves : (keys : Keys) → lengths_on l (told_in last (Move keys)) ≡ []
  none_leaves keys = none_leaves_between side l last keys stands_behind

  pub next_begins : (keys : Keys) → BeginsEmpty side l (after_call last (Move keys))
  next_begins keys =
      let anew = anew_over (steps_over l cs first) (flow l first) alone begun.anew in
      begins_next side l last keys stands_behind
      (subst (λ (x : End). BeginsAnew (flow l x)) (sym (goes_by_calls side steps a))
      (subst BeginsAnew (sym (all_go side l first cs begun.stands given).bearer_is) anew))
