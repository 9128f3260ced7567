-- Stages of a link that go by steps of its ends: of no call, of one, and one stage behind the other.
use Rattle.std.proofs.Common.{◌≡◌, ℕ, Bool, true, false, cond, Some, None, not, ◌&&◌, if◌then◌else◌, List, [], ◌∷◌}
use Rattle.std.proofs.Common.{◌++◌, map, append_assoc, append-nil, refl, ap, sym, subst, ◌∙◌}
use Rattle.std.specs.List.{filter}
use Rattle.air_link.specs.Link.{Link, says, end_of}
use Rattle.bearer_types.specs.Sides.{other, sent_by}
use Rattle.air_record.specs.declared.record.Record.{Record}
use Rattle.air_record.specs.declared.record.Record.TheVariants as records
use Rattle.air_record.specs.declared.record.Arrived.TheVariants as arriveds
use Rattle.bearer_types.specs.declared.event.Event.{Event}
use Rattle.l2_node.specs.End.{End}
use Rattle.l2_types.specs.declared.side.Side.{Side}
use Rattle.l2_types.specs.declared.side.Side.TheVariants.{Nb, Ue}
use Rattle.mac_pdu.specs.declared.item.Direction.{Direction}
use Rattle.law_node.specs.Calls.{Call as EndCall, SetVisits, SetReports, Add, Submit, SetDiscard, Tick, TickBuckets}
use Rattle.law_node.specs.Calls.{Visits, Grants, Granted, Assigned, Pass, Receive, Expire, Move, IsGiven as IsGivenTo}
use Rattle.law_node.specs.Calls.{after as after_call}
use Rattle.law_node.specs.Telling.{told_of}
use Rattle.promises.specs.Records.{is_looped, event_of, events_of, sdu_of}
use Rattle.law_words.specs.Arrivals.{AccountEntry}
use Rattle.promises.specs.Events.{is_of_loop, TellNoLoop}
use Rattle.law_deliver.specs.AmChannel.Arrival.{said_in, heard_in}
use Rattle.law_node.specs.Bearers.{keys_in}
use Rattle.law_deliver.specs.AmChannel.Lives.{InLife}
use Rattle.law_deliver.specs.AmFlow.Air.{Station, Air, Calls, AtNb, AtUe, calls, IsCalling}
use Rattle.law_deliver.specs.AmChannel.Delivery.{submitted_in}
use Rattle.um_losses.specs.declared.cursor.Cursor.{Cursor}
use Rattle.um_losses.specs.declared.flow.Happening.{Happening}
use Rattle.um_losses.specs.Records.{change_of}
use Rattle.um_losses.specs.Told.{picked, told_in, place_behind}
use Rattle.law_deliver.specs.UmGaps.Whats.{sent_in, expiries}
use Rattle.promises.specs.Flows.{loops_in, looped_at}
use Rattle.law_run.specs.TwoEnds.Shown.{IsShown}
use Rattle.law_run.specs.TwoEnds.Logs.{LogEntry, Tells, all_tell, log_in, Flight, logged_at, logged, flight_in}
use Rattle.law_run.specs.TwoEnds.On.{IsStation}
use Rattle.promises.specs.Arrival.{entries_at}
use Rattle.law_run.proofs.TwoEnds.Along.{flight_more, looped_more}
use Rattle.law_run.proofs.TwoEnds.Together.{CallTogether}
use Rattle.law_run.proofs.TwoEnds.Showing.{in_then, behind_then as place_then, events_own, events_hidden}
use Rattle.law_run.proofs.TwoEnds.Going.{Marks, station, with_station, Behind, Any, Block', Renewed, Unread, Fits, IsAt}
use Rattle.law_run.proofs.TwoEnds.Going.{ended, first_whats, IsLooped, Whats, no_whats, GoesBehind, Goes, goes_to}
use Rattle.law_run.proofs.TwoEnds.Going.{TellNoAir, none, weaken, behind_then, goes_as, goes_none}
use Rattle.law_run.proofs.TwoEnds.Steps.{Says, IsPlayed, by_sides, call_whats, goes_call, call_steps}
use Rattle.law_run.proofs.TwoEnds.Stations.{Moment, Waits, Done, wait, IsIdle, station_goes}

-- ---- a link on its way, and its air

-- what is known of each station
pub record Both (P Q : Station → Type 0) (k : Link) (a : Air) : Type 0 where
  pub nb_is : a.nb.end ≡ k.nb
  pub ue_is : a.ue.end ≡ k.ue
  pub nb : P a.nb
  pub ue : Q a.ue

-- a station at a moment of a TTI
pub record Stands (side : Side) (n : Moment) (s : Station) : Type 0 where
  pub is : IsStation side (wait n) s
  pub idle : IsIdle n s

-- ---- what the test loop returns, as records tell

is_handed : (b : Bool) (one : Record) (more : List Record) → b ≡ false
    → map sdu_of (cond b (one ∷ more) more) ≡ map sdu_of more
is_handed true one more e = absurd cc
is_handed false one more e = refl

pub unlooped_by : (n : ℕ) (one : Record) (more : List Record) → is_looped n one ≡ false → loops_in n more ≡ []
    → loops_in n (one ∷ more) ≡ []
unlooped_by n one more e rest = is_handed (is_looped n one) one (filter (is_looped n) more) e ∙ rest

pub events_unlooped : (n : ℕ) (side : Side) (es : List Event) → loops_in n (map (records.Of side) es) ≡ []
events_unlooped n side [] = refl
events_unlooped n side (e ∷ es) = events_unlooped n side es

pub none_looped : (told : List Record) → ((n : ℕ) → loops_in n told ≡ []) → (side : Side) (n : ℕ)
    → [] ≡ looped_at side n told
none_looped told h Nb n = refl
none_looped told h Ue n = sym (h n)

-- ---- stages

-- what is known at first says of the flows
none_first : (c : Behind) → ended c ≡ [] → first_whats c ≡ []
none_first Any e = refl
none_first (Block' side octets process) e = refl
none_first Renewed e = cc
none_first Unread e = refl

with_none : (c : Behind) → ended c ≡ [] → (ws : List Happening) → first_whats c ++ ws ≡ ws
with_none c e ws = ap (λ (vs : List Happening). vs ++ ws) (none_first c e)

-- with SDUs that are handed in, besides those that the test loop returns; behind what is known as records are read, and
-- what then is; where PDUs of the channel are shown as those of unacknowledged RLC they tell what happens to the flows
pub record Reaches (l : ℕ) (set : Marks) (c d : Behind) (handed : Side → ℕ → List (List ℕ)) (P Q : Station
    → Type 0) (k m : Link) (a : Air) : Type 0 where
  pub air : Air
  pub more : List Record
  pub out_is : m.out ≡ k.out ++ more
  pub ws : Whats
  pub goes : GoesBehind l set c more (λ side n. handed side n ++ looped_at side n more) ws a air
  pub left : (sent : Flight) → Fits c sent → Fits d (flight_in more sent)
  pub stands : (p : Cursor) → IsAt c p → IsAt d (place_behind p more)
  pub both : Both P Q m air
  pub stays : (bits : ℕ) → IsShown l bits k.kinds → IsShown l bits m.kinds
  pub shown : (bits : ℕ) → IsShown l bits k.kinds → (from : Side) (p : Cursor) → IsAt c p
      → first_whats c ++ told_in (sent_by from) l p more ≡ ws bits from

-- from what is known of them to what is known then
abbrev pub HandsBehind : ℕ → Marks → Behind → Behind → (Side → ℕ → List (List ℕ)) → (Station → Type 0)
    → (Station → Type 0) → (Station → Type 0) → (Station → Type 0) → Link → Link → Type 0
HandsBehind l set c d handed P Q R S k m = (a : Air) → Both P Q k a → Reaches l set c d handed R S k m a

abbrev pub Hands : ℕ → Marks → (Side → ℕ → List (List ℕ)) → (Station → Type 0) → (Station → Type 0)
    → (Station → Type 0) → (Station → Type 0) → Link → Link → Type 0
Hands l set handed P Q R S k m = HandsBehind l set Any Any handed P Q R S k m

abbrev pub StageBehind : ℕ → Marks → Behind → Behind → (Station → Type 0) → (Station → Type 0) → (Station → Type 0)
    → (Station → Type 0) → Link → Link → Type 0
StageBehind l set c d P Q R S k m = HandsBehind l set c d none P Q R S k m

abbrev pub Stage : ℕ → Marks → (Station → Type 0) → (Station → Type 0) → (Station → Type 0) → (Station → Type 0)
    → Link → Link → Type 0
Stage l set P Q R S k m = StageBehind l set Any Any P Q R S k m

pub stages_then : (l : ℕ) (set : Marks) (c d e : Behind) → ended d ≡ []
    → (P Q R S T U : Station → Type 0) (k m p : Link) → StageBehind l set c d P Q R S k m
    → StageBehind l set d e R S T U m p
    → StageBehind l set c e P Q T U k p
stages_then l set c d e open' P Q R S T U k m p f g a h =
    let r = f a h in
    let q = g r.air r.both in
    let x : Side → ℕ → List (List ℕ) = λ side n. looped_at side n r.more in
    let y : Side → ℕ → List (List ℕ) = λ side n. looped_at side n q.more in
    record {
      air = q.air;
      more = r.more ++ q.more;
      out_is = q.out_is ∙ ap (λ (o : List Record). o ++ q.more) r.out_is ∙ append_assoc k.out r.more q.more;
      ws = λ bits from. r.ws bits from ++ q.ws bits from;
      goes = goes_as l set (r.more ++ q.more) (λ side n. x side n ++ y side n)
          (λ side n. looped_at side n (r.more ++ q.more)) a q.air (λ side n. looped_more side n r.more q.more)
          (behind_then l set c d r.more q.more x y a r.air q.air open' r.left r.goes q.goes);
      left = λ sent fits. subst (Fits e) (flight_more r.more q.more sent)
          (q.left (flight_in r.more sent) (r.left sent fits));
      stands = λ v at. subst (IsAt e) (sym (place_then v r.more q.more))
          (q.stands (place_behind v r.more) (r.stands v at));
      both = q.both;
      stays = λ bits h. q.stays bits (r.stays bits h);
      shown = λ bits s from v at.
          let one = told_in (sent_by from) l v r.more in
          let two = told_in (sent_by from) l (place_behind v r.more) q.more in
          ap (λ (vs : List Happening). first_whats c ++ vs) (in_then (sent_by from) l v r.more q.more)
          ∙ (sym (append_assoc (first_whats c) one two)
          ∙ (ap (λ (vs : List Happening). vs ++ two) (r.shown bits s from v at)
          ∙ ap (λ (vs : List Happening). r.ws bits from ++ vs) (sym (with_none d open' two)
          ∙ q.shown bits (r.stays bits s) from (place_behind v r.more) (r.stands v at))));
    }

pub stage_then : (l : ℕ) (set : Marks) (P Q R S T U : Station → Type 0) (k m p : Link) → Stage l set P Q R S k m
    → Stage l set R S T U m p → Stage l set P Q T U k p
stage_then l set P Q R S T U k m p f g = stages_then l set Any Any Any refl P Q R S T U k m p f g

-- SDUs that are none
unfoldable pub hands_none : (l : ℕ) (set : Marks) (handed : Side → ℕ → List (List ℕ)) (P Q R S : Station → Type 0)
    (k m : Link) → ((side : Side) (n : ℕ) → [] ≡ handed side n) → Stage l set P Q R S k m
    → Hands l set handed P Q R S k m
hands_none l set handed P Q R S k m same f a h =
    let r = f a h in
    record {
      air = r.air;
      more = r.more;
      out_is = r.out_is;
      ws = r.ws;
      goes = goes_as l set r.more (λ side n. looped_at side n r.more)
          (λ side n. handed side n ++ looped_at side n r.more) a r.air
          (λ side n. ap (λ (x : List (List ℕ)). x ++ looped_at side n r.more) (same side n)) r.goes;
      left = r.left;
      stands = r.stands;
      both = r.both;
      stays = r.stays;
      shown = r.shown;
    }

-- records that tell of no SDU of the loop
pub unlooped_goes : {c : Behind} (l : ℕ) (set : Marks) (told : List Record) {ws : Whats} (a b : Air)
    → ((n : ℕ) → loops_in n told ≡ []) → GoesBehind l set c told none ws a b
    → GoesBehind l set c told (λ side n. looped_at side n told) ws a b
unlooped_goes l set told {ws} a b h g =
    goes_as l set told none (λ side n. looped_at side n told) a b (none_looped told h) g

-- a stage in which no process is visited
abbrev pub Rests : ℕ → Marks → Link → Link → Type 0
Rests l set k m = (n u : Moment) → Stage l set (Stands Nb n) (Stands Ue u) (Stands Nb n) (Stands Ue u) k m

pub rests_then : (l : ℕ) (set : Marks) (k m p : Link) → Rests l set k m → Rests l set m p → Rests l set k p
rests_then l set k m p f g n u =
    stage_then l set (Stands Nb n) (Stands Ue u) (Stands Nb n) (Stands Ue u) (Stands Nb n) (Stands Ue u) k m p (f n u)
    (g n u)

-- ---- no call

-- how PDUs of the channel are shown stays
abbrev pub StayShown : ℕ → Link → Link → Type 0
StayShown l k m = (bits : ℕ) → IsShown l bits k.kinds → IsShown l bits m.kinds

-- records that tell nothing of an end, nor of the air, and of no SDU of the loop
told_stage : (l : ℕ) (set : Marks) (c d : Behind) (told : List Record) (k m : Link) (P Q : Station → Type 0)
    → ended c ≡ [] → ((sent : Flight) → Fits c sent → Fits d (flight_in told sent))
    → ((p : Cursor) → IsAt c p → IsAt d (place_behind p told)) → TellNoAir told
    → ((sent : Flight) → logged sent told ≡ []) → m.nb ≡ k.nb → m.ue ≡ k.ue → m.out ≡ k.out ++ told
    → ((side : Side) → events_of side told ≡ [])
    → ((n : ℕ) → loops_in n told ≡ []) → StayShown l k m → ((d : Direction) (p : Cursor) → told_in d l p told ≡ [])
    → StageBehind l set c d P Q P Q k m
told_stage l set c d told k m P Q open' left stands unflown silent nb ue out untold unlooped stays still a h = record {
  air = a;
  more = told;
  out_is = out;
  ws = no_whats;
  goes = unlooped_goes l set told a a unlooped (goes_none l set c told a open' untold unflown silent
      (λ side n. sym (none_looped told unlooped side n)));
  left = left;
  stands = stands;
  shown = λ bits s from p at. with_none c open' (told_in (sent_by from) l p told) ∙ still (sent_by from) p;
  both = record { nb_is = h.nb_is ∙ sym nb; ue_is = h.ue_is ∙ sym ue; nb = h.nb; ue = h.ue };
  stays = stays;
}

-- a record that tells of nothing that goes by air
abbrev pub IsNoAir : Record → Type 0
IsNoAir one = (bits l : ℕ) (from : Side) (sent : List ℕ) → entries_at bits l from sent one ≡ []

abbrev pub IsNoChange : Record → Type 0
IsNoChange one = (p : Cursor) → change_of one p ≡ None

-- one that tells nothing of either end, and of no block, is of no log
not_logged : (one : Record) → event_of Nb one ≡ [] → event_of Ue one ≡ [] → IsNoChange one → (sent : Flight)
    → logged_at sent one ≡ []
not_logged (records.Of Nb event) nb ue still sent = by (is_of_loop event) nb
  where
    by : (b : Bool) → (if true && not b then event ∷ [] else []) ≡ [] → (if b then [] else Tells Nb event ∷ []) ≡ []
    by true e = refl
    by false e = cc
not_logged (records.Of Ue event) nb ue still sent = by (is_of_loop event) ue
  where
    by : (b : Bool) → (if true && not b then event ∷ [] else []) ≡ [] → (if b then [] else Tells Ue event ∷ []) ≡ []
    by true e = refl
    by false e = cc
not_logged (records.Block direction process true version octets) nb ue still sent =
    let no : Some _ ≡ None = still (record { direction = direction; process = process; channel = None }) in cc
not_logged (records.Block direction process false version octets) nb ue still sent = refl
not_logged (records.Air direction arriveds.Got heard) nb ue still sent =
    let no : Some _ ≡ None = still (record { direction = direction; process = 0; channel = None }) in cc
not_logged (records.Air direction what heard) nb ue still sent = refl
not_logged one nb ue still sent = refl

pub says_behind : (l : ℕ) (set : Marks) (c : Behind) (one : Record) (k : Link) (P Q : Station → Type 0) → ended c ≡ []
    → IsNoAir one → event_of Nb one ≡ [] → event_of Ue one ≡ [] → ((n : ℕ) → is_looped n one ≡ false) → IsNoChange one
    → StageBehind l set c Any P Q P Q k (says one k)
says_behind l set c one k P Q open' unflown nb ue unlooped still =
    told_stage l set c Any (one ∷ []) k (says one k) P Q open' (λ sent fits. tt) (λ p at. tt)
    (λ bits m from sent. ap (λ (hs : List AccountEntry). hs ++ []) (unflown bits m from sent))
    (λ sent. ap (λ (hs : List LogEntry). hs ++ []) (not_logged one nb ue still sent)) refl refl refl
    (by_sides (λ side. events_of side (one ∷ []) ≡ []) (ap (λ (es : List Event). es ++ []) nb)
    (ap (λ (es : List Event). es ++ []) ue))
    (λ n. unlooped_by n one [] (unlooped n) refl) (λ bits s. s) (λ d p. ap (λ o. picked d l o ++ []) (still p))

pub says_stage : (l : ℕ) (set : Marks) (one : Record) (k : Link) (P Q : Station → Type 0) → IsNoAir one
    → event_of Nb one ≡ [] → event_of Ue one ≡ [] → ((n : ℕ) → is_looped n one ≡ false) → IsNoChange one
    → Stage l set P Q P Q k (says one k)
says_stage l set one k P Q unflown nb ue unlooped still =
    says_behind l set Any one k P Q refl unflown nb ue unlooped still

pub says_rests : (l : ℕ) (set : Marks) (one : Record) (k : Link) → IsNoAir one → event_of Nb one ≡ []
    → event_of Ue one ≡ [] → ((n : ℕ) → is_looped n one ≡ false) → IsNoChange one → Rests l set k (says one k)
says_rests l set one k unflown nb ue unlooped still n u =
    says_stage l set one k (Stands Nb n) (Stands Ue u) unflown nb ue unlooped still

-- neither an end nor a record
pub still_behind : (l : ℕ) (set : Marks) (c : Behind) (k m : Link) (P Q : Station → Type 0) → ended c ≡ []
    → m.nb ≡ k.nb → m.ue ≡ k.ue → m.out ≡ k.out → StayShown l k m → StageBehind l set c c P Q P Q k m
still_behind l set c k m P Q open' nb ue out stays =
    told_stage l set c c [] k m P Q open' (λ sent fits. fits) (λ p at. at) (λ bits m from sent. refl) (λ sent. refl)
    nb ue (out ∙ sym (append-nil k.out)) (λ side. refl) (λ n. refl) stays (λ d p. refl)

pub still_rests : (l : ℕ) (set : Marks) (k m : Link) → m.nb ≡ k.nb → m.ue ≡ k.ue → m.out ≡ k.out → StayShown l k m
    → Rests l set k m
still_rests l set k m nb ue out stays n u = still_behind l set Any k m (Stands Nb n) (Stands Ue u) refl nb ue out stays

-- ---- a call that visits no process and brings no block

abbrev pub IsPlain : EndCall → Type 0
IsPlain (Visits t) = ⊥
IsPlain (Receive block) = ⊥
IsPlain c = Unit {0}

plain_calls : (s : Station) (c : EndCall) → IsPlain c → calls s c ≡ record s { end = after_call s.end c }
plain_calls s (SetVisits maximum) p = refl
plain_calls s (SetReports reports) p = refl
plain_calls s (Add c keys) p = refl
plain_calls s (Submit lcid octets) p = refl
plain_calls s (SetDiscard lcid ttis) p = refl
plain_calls s Tick p = refl
plain_calls s TickBuckets p = refl
plain_calls s (Visits t) p = absurd p
plain_calls s (Grants tti) p = refl
plain_calls s (Granted tti good) p = refl
plain_calls s (Assigned tti ndi good) p = refl
plain_calls s (Pass tti) p = refl
plain_calls s (Receive block) p = absurd p
plain_calls s (Expire lcid clock) p = refl
plain_calls s (Move keys) p = refl

plain_calling : (s : Station) (c : EndCall) → IsPlain c → IsCalling s c
plain_calling s (SetVisits maximum) p = tt
plain_calling s (SetReports reports) p = tt
plain_calling s (Add c keys) p = tt
plain_calling s (Submit lcid octets) p = tt
plain_calling s (SetDiscard lcid ttis) p = tt
plain_calling s Tick p = tt
plain_calling s TickBuckets p = tt
plain_calling s (Visits t) p = absurd p
plain_calling s (Grants tti) p = tt
plain_calling s (Granted tti good) p = tt
plain_calling s (Assigned tti ndi good) p = tt
plain_calling s (Pass tti) p = tt
plain_calling s (Receive block) p = absurd p
plain_calling s (Expire lcid clock) p = tt
plain_calling s (Move keys) p = tt

pub goes_plain : (l : ℕ) (set : Marks) (side : Side) (told : List Record) (given : Side → ℕ
    → List (List ℕ)) (c : EndCall) (a : Air) → IsPlain c → IsGivenTo c → IsPlayed l set c
    → Says side told given (station side a).end c → IsLooped set told given
    → Goes l set told given (call_whats side l (station side a).end c) a
    (with_station side (record (station side a) { end = after_call (station side a).end c }) a)
goes_plain l set side told given c a p g life x looped =
    let s = station side a in
    goes_to l set told given a (with_station side (calls s c) a)
    (with_station side (record s { end = after_call s.end c }) a)
    (ap (λ (t : Station). with_station side t a) (plain_calls s c p))
    (goes_call l set side told given c a g life (plain_calling s c p) x looped)

-- what the call leaves of a link, the records that it adds, and the SDUs that are handed in with it
pub record Called (l : ℕ) (set : Marks) (side : Side) (c : EndCall) (told : List Record) (handed : Side → ℕ
    → List (List ℕ)) (k m : Link) : Type 0 where
  pub plain : IsPlain c
  pub given : IsGivenTo c
  pub keeps : (e : End) → (after_call e c).sender ≡ e.sender
  pub end_is : end_of side m ≡ after_call (end_of side k) c
  pub other_is : end_of (other side) m ≡ end_of (other side) k
  pub out_is : m.out ≡ k.out ++ told
  pub says : Says side told (λ s n. handed s n ++ looped_at s n told) (end_of side k) c
  pub unhanded : set.hands ≡ false → (s : Side) (n : ℕ) → handed s n ≡ []
  pub kinds_are : m.kinds ≡ k.kinds
  pub shown : (bits : ℕ) (from : Side) (p : Cursor)
      → told_in (sent_by from) l p told ≡ call_whats side l (end_of side k) c bits from

-- where it tells nothing, and where records tell what it tells
sends_none : (side : Side) (l bits : ℕ) (e : End) (c : EndCall) → IsPlain c → sent_in side l bits e c ≡ []
sends_none side l bits e (Visits t) p = absurd p
sends_none side l bits e c p = refl

pub shows_nothing : (l : ℕ) (side : Side) (e : End) (c : EndCall) → IsPlain c → told_of e c ≡ []
    → (bits : ℕ) (from : Side) (p : Cursor) → told_in (sent_by from) l p [] ≡ call_whats side l e c bits from
shows_nothing l Nb e c plain untold bits Nb p = sym (sends_none Nb l bits e c plain)
shows_nothing l Nb e c plain untold bits Ue p = ap (expiries l) (sym untold)
shows_nothing l Ue e c plain untold bits Nb p = ap (expiries l) (sym untold)
shows_nothing l Ue e c plain untold bits Ue p = sym (sends_none Ue l bits e c plain)

pub shows_events : (l : ℕ) (side : Side) (e : End) (c : EndCall) → IsPlain c → (bits : ℕ) (from : Side) (p : Cursor)
    → told_in (sent_by from) l p (map (records.Of side) (told_of e c)) ≡ call_whats side l e c bits from
shows_events l Nb e c plain bits Nb p = events_hidden Nb l p (told_of e c) ∙ sym (sends_none Nb l bits e c plain)
shows_events l Nb e c plain bits Ue p = events_own Ue l p (told_of e c)
shows_events l Ue e c plain bits Nb p = events_own Nb l p (told_of e c)
shows_events l Ue e c plain bits Ue p = events_hidden Ue l p (told_of e c) ∙ sym (sends_none Ue l bits e c plain)

-- it tells of nothing that goes by air, where the end doesn't move
plain_says : (bits l : ℕ) (e : End) (c : EndCall) → IsPlain c → keys_in c ≡ [] → said_in bits l e c ≡ []
plain_says bits l e (SetVisits maximum) p q = refl
plain_says bits l e (SetReports reports) p q = refl
plain_says bits l e (Add c keys) p q = refl
plain_says bits l e (Submit lcid octets) p q = refl
plain_says bits l e (SetDiscard lcid ttis) p q = refl
plain_says bits l e Tick p q = refl
plain_says bits l e TickBuckets p q = refl
plain_says bits l e (Visits t) p q = absurd p
plain_says bits l e (Grants tti) p q = refl
plain_says bits l e (Granted tti good) p q = refl
plain_says bits l e (Assigned tti ndi good) p q = refl
plain_says bits l e (Pass tti) p q = refl
plain_says bits l e (Receive block) p q = absurd p
plain_says bits l e (Expire lcid clock) p q = refl
plain_says bits l e (Move keys) p q = let no : keys ∷ [] ≡ [] = q in cc

plain_hears : (l : ℕ) (e : End) (c : EndCall) → IsPlain c → heard_in l e c ≡ []
plain_hears l e (SetVisits maximum) p = refl
plain_hears l e (SetReports reports) p = refl
plain_hears l e (Add c keys) p = refl
plain_hears l e (Submit lcid octets) p = refl
plain_hears l e (SetDiscard lcid ttis) p = refl
plain_hears l e Tick p = refl
plain_hears l e TickBuckets p = refl
plain_hears l e (Visits t) p = absurd p
plain_hears l e (Grants tti) p = refl
plain_hears l e (Granted tti good) p = refl
plain_hears l e (Assigned tti ndi good) p = refl
plain_hears l e (Pass tti) p = refl
plain_hears l e (Receive block) p = absurd p
plain_hears l e (Expire lcid clock) p = refl
plain_hears l e (Move keys) p = refl

-- its log is what it tells
pub plain_log : (side : Side) (e : End) (c : EndCall) → IsPlain c → log_in side 0 e c ≡ all_tell side (told_of e c)
plain_log side e (Visits t) p = absurd p
plain_log side e (Receive block) p = absurd p
plain_log side e c p = refl

-- it visits no process
plain_together : (side : Side) (e : End) (c : EndCall) (told : List Record) → IsPlain c → CallTogether side e c told
plain_together side e (Visits t) told p = absurd p
plain_together side e c told p = tt

-- as records tell it, where the test loop drops nothing
pub own_logged : (side : Side) (es : List Event) → TellNoLoop es → (sent : Flight)
    → logged sent (map (records.Of side) es) ≡ all_tell side es
own_logged side [] q sent = refl
own_logged side (e ∷ es) q sent = by (is_of_loop e) q (λ r. own_logged side es r sent)
  where
    by : (b : Bool) → cond b (e ∷ filter is_of_loop es) (filter is_of_loop es) ≡ []
        → (TellNoLoop es → logged sent (map (records.Of side) es) ≡ all_tell side es)
        → (if b then [] else Tells side e ∷ []) ++ logged sent (map (records.Of side) es)
        ≡ Tells side e ∷ all_tell side es
    by true r rest = cc
    by false r rest = ap (λ (hs : List LogEntry). Tells side e ∷ hs) (rest r)

-- records of a plain call that tell nothing of the air
pub says_so : (side : Side) (told : List Record) (given : Side → ℕ → List (List ℕ)) (e : End) (c : EndCall)
    → IsPlain c → keys_in c ≡ [] → TellNoAir told
    → events_of side told ≡ told_of e c → events_of (other side) told ≡ []
    → ((n : ℕ) → submitted_in n e c ≡ given side n)
    → ((n : ℕ) → [] ≡ given (other side) n) → ((sent : Flight) → log_in side 0 e c ≡ logged sent told)
    → Says side told given e c
says_so side told given e c plain stays unflown own far submits rests logs = record {
  told_is = own;
  other_told = far;
  submitted_is = submits;
  other_submitted = rests;
  says = λ bits l sent. plain_says bits l e c plain stays ∙ sym (unflown bits l side sent);
  hears = λ bits l sent. plain_hears l e c plain ∙ sym (unflown bits l (other side) sent);
  logs = logs;
  together = plain_together side e c told plain;
}

pub none_flown : TellNoAir []
none_flown bits l from sent = refl

-- a call in which an end tells nothing, and is submitted nothing
pub says_nothing : (side : Side) (e : End) (c : EndCall) → IsPlain c → keys_in c ≡ [] → told_of e c ≡ []
    → ((n : ℕ) → submitted_in n e c ≡ []) → Says side [] (λ s n. looped_at s n []) e c
says_nothing Nb e c plain stays untold unsaid =
    says_so Nb [] (λ s n. looped_at s n []) e c plain stays none_flown (sym untold) refl unsaid (λ n. refl)
    (λ sent. plain_log Nb e c plain ∙ ap (all_tell Nb) untold)
says_nothing Ue e c plain stays untold unsaid =
    says_so Ue [] (λ s n. looped_at s n []) e c plain stays none_flown (sym untold) refl unsaid (λ n. refl)
    (λ sent. plain_log Ue e c plain ∙ ap (all_tell Ue) untold)

idle_still : (n : Moment) (s : Station) (e : End) → IsIdle n s → IsIdle n (record s { end = e })
idle_still (Waits t) s e h = h
idle_still (Done t) s e h = h

pub stands_on : (side : Side) (n : Moment) (s : Station) (c : EndCall) → IsGivenTo c
    → (after_call s.end c).sender ≡ s.end.sender → Stands side n s
    → Stands side n (record s { end = after_call s.end c })
stands_on side n s c g keeps h =
    record { is = station_goes side (wait n) s c h.is g keeps; idle = idle_still n s (after_call s.end c) h.idle }

pub says_at : (side : Side) (told : List Record) (given : Side → ℕ → List (List ℕ)) (c : EndCall) (e f : End) → e ≡ f
    → Says side told given f c → Says side told given e c
says_at side told given c e f is x = subst (λ (y : End). Says side told given y c) (sym is) x

-- behind a block, of which the records leave what is known
abbrev pub IsLeft : Behind → List Record → Type 0
IsLeft b told = (sent : Flight) → Fits b sent → Fits b (flight_in told sent)

abbrev pub IsStill : Behind → List Record → Type 0
IsStill b told = (p : Cursor) → IsAt b p → IsAt b (place_behind p told)

pub called_nb_behind : (l : ℕ) (set : Marks) (b : Behind) (c : EndCall) (told : List Record) (handed : Side → ℕ
    → List (List ℕ)) (k m : Link) (n : Moment) (Q : Station → Type 0) → ended b ≡ [] → IsLeft b told → IsStill b told
    → IsPlayed l set c → Called l set Nb c told handed k m
    → HandsBehind l set b b handed (Stands Nb n) Q (Stands Nb n) Q k m
called_nb_behind l set b c told handed k m n Q open' left stands life x a h = record {
  air = record a { nb = record a.nb { end = after_call a.nb.end c } };
  more = told;
  out_is = x.out_is;
  goes = weaken l set b told (λ s i. handed s i ++ looped_at s i told) a
      (record a { nb = record a.nb { end = after_call a.nb.end c } }) open'
      (goes_plain l set Nb told (λ s i. handed s i ++ looped_at s i told) c a x.plain x.given life
      (says_at Nb told (λ s i. handed s i ++ looped_at s i told) c a.nb.end k.nb h.nb_is x.says)
      (λ off s i. ap (λ (sdus : List (List ℕ)). sdus ++ looped_at s i told) (x.unhanded off s i)));
  ws = call_whats Nb l a.nb.end c;
  left = left;
  stands = stands;
  stays = λ bits. subst (IsShown l bits) (sym x.kinds_are);
  shown = λ bits s from p at. with_none b open' (told_in (sent_by from) l p told)
      ∙ (x.shown bits from p ∙ ap (λ (e : End). call_whats Nb l e c bits from) (sym h.nb_is));
  both = record {
    nb_is = ap (λ (e : End). after_call e c) h.nb_is ∙ sym x.end_is;
    ue_is = h.ue_is ∙ sym x.other_is;
    nb = stands_on Nb n a.nb c x.given (x.keeps a.nb.end) h.nb;
    ue = h.ue;
  };
}

pub called_nb : (l : ℕ) (set : Marks) (c : EndCall) (told : List Record) (handed : Side → ℕ
    → List (List ℕ)) (k m : Link) (n : Moment) (Q : Station → Type 0) → IsPlayed l set c
    → Called l set Nb c told handed k m
    → Hands l set handed (Stands Nb n) Q (Stands Nb n) Q k m
called_nb l set c told handed k m n Q life x =
    called_nb_behind l set Any c told handed k m n Q refl (λ sent fits. tt) (λ p at. tt) life x

pub called_ue_behind : (l : ℕ) (set : Marks) (b : Behind) (c : EndCall) (told : List Record) (handed : Side → ℕ
    → List (List ℕ)) (k m : Link) (P : Station → Type 0) (u : Moment) → ended b ≡ [] → IsLeft b told → IsStill b told
    → IsPlayed l set c → Called l set Ue c told handed k m
    → HandsBehind l set b b handed P (Stands Ue u) P (Stands Ue u) k m
called_ue_behind l set b c told handed k m P u open' left stands life x a h = record {
  air = record a { ue = record a.ue { end = after_call a.ue.end c } };
  more = told;
  out_is = x.out_is;
  goes = weaken l set b told (λ s i. handed s i ++ looped_at s i told) a
      (record a { ue = record a.ue { end = after_call a.ue.end c } }) open'
      (goes_plain l set Ue told (λ s i. handed s i ++ looped_at s i told) c a x.plain x.given life
      (says_at Ue told (λ s i. handed s i ++ looped_at s i told) c a.ue.end k.ue h.ue_is x.says)
      (λ off s i. ap (λ (sdus : List (List ℕ)). sdus ++ looped_at s i told) (x.unhanded off s i)));
  ws = call_whats Ue l a.ue.end c;
  left = left;
  stands = stands;
  stays = λ bits. subst (IsShown l bits) (sym x.kinds_are);
  shown = λ bits s from p at. with_none b open' (told_in (sent_by from) l p told)
      ∙ (x.shown bits from p ∙ ap (λ (e : End). call_whats Ue l e c bits from) (sym h.ue_is));
  both = record {
    nb_is = h.nb_is ∙ sym x.other_is;
    ue_is = ap (λ (e : End). after_call e c) h.ue_is ∙ sym x.end_is;
    nb = h.nb;
    ue = stands_on Ue u a.ue c x.given (x.keeps a.ue.end) h.ue;
  };
}

pub called_ue : (l : ℕ) (set : Marks) (c : EndCall) (told : List Record) (handed : Side → ℕ
    → List (List ℕ)) (k m : Link) (P : Station → Type 0) (u : Moment) → IsPlayed l set c
    → Called l set Ue c told handed k m
    → Hands l set handed P (Stands Ue u) P (Stands Ue u) k m
called_ue l set c told handed k m P u life x =
    called_ue_behind l set Any c told handed k m P u refl (λ sent fits. tt) (λ p at. tt) life x

pub called_rests : (l : ℕ) (set : Marks) (side : Side) (c : EndCall) (told : List Record) (handed : Side → ℕ
    → List (List ℕ)) (k m : Link) → IsPlayed l set c → Called l set side c told handed k m
    → (n u : Moment) → Hands l set handed (Stands Nb n) (Stands Ue u) (Stands Nb n) (Stands Ue u) k m
called_rests l set Nb c told handed k m life x n u = called_nb l set c told handed k m n (Stands Ue u) life x
called_rests l set Ue c told handed k m life x n u = called_ue l set c told handed k m (Stands Nb n) u life x

-- ---- by one step, or by none

-- of a call
pub nb_calls : (l : ℕ) (set : Marks) (c : EndCall) (told : List Record) (handed : Side → ℕ
    → List (List ℕ)) (k m : Link) (n : Moment) (Q : Station → Type 0) (life : IsPlayed l set c)
    (x : Called l set Nb c told handed k m) (a : Air) (h : Both (Stands Nb n) Q k a)
    → let r = called_nb l set c told handed k m n Q life x a h in
    (r.goes.steps ≡ InLife (AtNb (Calls c)) ∷ []) × (r.more ≡ told)
unfolding called_nb called_nb_behind weaken goes_plain goes_to
nb_calls l set c told handed k m n Q life x a h =
    let given : Side → ℕ → List (List ℕ) = λ s i. handed s i ++ looped_at s i told in (
      call_steps l set Nb told given c a x.given life (plain_calling a.nb c x.plain)
          (says_at Nb told given c a.nb.end k.nb h.nb_is x.says)
          (λ off s i. ap (λ (sdus : List (List ℕ)). sdus ++ looped_at s i told) (x.unhanded off s i)),
      refl,
    )

pub ue_calls : (l : ℕ) (set : Marks) (c : EndCall) (told : List Record) (handed : Side → ℕ
    → List (List ℕ)) (k m : Link) (P : Station → Type 0) (u : Moment) (life : IsPlayed l set c)
    (x : Called l set Ue c told handed k m) (a : Air) (h : Both P (Stands Ue u) k a)
    → let r = called_ue l set c told handed k m P u life x a h in
    (r.goes.steps ≡ InLife (AtUe (Calls c)) ∷ []) × (r.more ≡ told)
unfolding called_ue called_ue_behind weaken goes_plain goes_to
ue_calls l set c told handed k m P u life x a h =
    let given : Side → ℕ → List (List ℕ) = λ s i. handed s i ++ looped_at s i told in (
      call_steps l set Ue told given c a x.given life (plain_calling a.ue c x.plain)
          (says_at Ue told given c a.ue.end k.ue h.ue_is x.says)
          (λ off s i. ap (λ (sdus : List (List ℕ)). sdus ++ looped_at s i told) (x.unhanded off s i)),
      refl,
    )

-- of a record that tells of nothing
pub says_alone : (l : ℕ) (set : Marks) (one : Record) (k : Link) (P Q : Station → Type 0) (unflown : IsNoAir one)
    (nb : event_of Nb one ≡ []) (ue : event_of Ue one ≡ []) (unlooped : (n : ℕ) → is_looped n one ≡ false)
    (still : IsNoChange one) (a : Air) (h : Both P Q k a)
    → let r = says_stage l set one k P Q unflown nb ue unlooped still a h in
    (r.goes.steps ≡ []) × (r.more ≡ one ∷ [])
unfolding says_stage says_behind told_stage unlooped_goes goes_as goes_none
says_alone l set one k P Q unflown nb ue unlooped still a h = (refl, refl)
