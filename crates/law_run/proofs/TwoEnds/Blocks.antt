-- A block comes that is under way; a visit; and what no process holds is let go.
use Rattle.std.proofs.Common.{◌≡◌, ℕ, ◌%◌, Bool, ◌||◌, Option, Some, List, [], ◌∷◌, ◌++◌, map, append_assoc, append-nil}
use Rattle.std.proofs.Common.{refl, ap, sym, subst, ◌∙◌}
use Rattle.std.specs.Prelude.{slice_get}
use Rattle.std.specs.List.{filter}
use Rattle.air_link.specs.Downlink.{hears}
use Rattle.air_link.specs.Link.{Link, says, end_of, with_end}
use Rattle.bearer_types.specs.Sides.{other, heard_by, sent_by}
use Rattle.air_record.specs.declared.record.Record.{Record}
use Rattle.air_record.specs.declared.record.Record.TheVariants as records
use Rattle.bearer_types.specs.declared.event.Event.{Event}
use Rattle.harq.specs.declared.sender.Visit.{Visit}
use Rattle.l2_node.specs.Building.{visit, visited, building}
use Rattle.l2_node.specs.End.{End}
use Rattle.l2_node.specs.Hearing.{received}
use Rattle.l2_types.specs.declared.side.Side.{Side}
use Rattle.l2_types.specs.declared.side.Side.TheVariants.{Nb, Ue}
use Rattle.law_node.specs.Calls.{Turn, Visits, Receive, IsGiven as IsGivenTo, after as after_call}
use Rattle.law_node.specs.Telling.{told_of}
use Rattle.law_node.proofs.Looping.{tells_no_loop}
use Rattle.promises.specs.Records.{events_of}
use Rattle.law_words.specs.Arrivals.{AccountEntry}
use Rattle.promises.specs.Events.{TellNoLoop}
use Rattle.promises.specs.Given.{entries_come}
use Rattle.promises.specs.Pdus.{carried}
use Rattle.law_deliver.proofs.AmFlow.Stations.{come_side}
use Rattle.law_deliver.specs.AmChannel.Arrival.{said_in, heard_in}
use Rattle.mac_pdu.specs.declared.item.Direction.TheVariants as directions
use Rattle.air_record.specs.declared.record.Arrived.TheVariants as arriveds
use Rattle.law_node.proofs.Silences.{writes_nothing}
use Rattle.law_run.proofs.AnyCalls.Going.{own_told, other_told, Seen, told_seen}
use Rattle.law_deliver.specs.AmFlow.Air.{Block, Station, Air, calls, built_at, is_new, IsCalling, HasCome}
use Rattle.um_losses.specs.declared.cursor.Cursor.{Cursor}
use Rattle.um_losses.specs.declared.flow.Happening.TheVariants.{BlockArrived}
use Rattle.um_losses.specs.Told.{told_in, place_behind}
use Rattle.law_deliver.specs.UmGaps.Whats.{expiries}
use Rattle.promises.specs.Flows.{loops_in, looped_at}
use Rattle.law_run.specs.TwoEnds.Along.{StandTogether}
use Rattle.law_run.specs.TwoEnds.Shown.{IsShown}
use Rattle.law_run.specs.TwoEnds.Logs.{LogEntry, Hears, all_tell, log_in, Flight, process_of, logged, flight_in}
use Rattle.law_run.specs.TwoEnds.On.{until, IsStation}
use Rattle.promises.specs.Arrival.{entries_in}
use Rattle.law_run.proofs.TwoEnds.Showing.{Shows, got_own, got_hidden}
use Rattle.law_run.proofs.TwoEnds.Going.{Marks, Behind, Any, Block', Fits, IsAt, no_whats}
use Rattle.law_run.proofs.TwoEnds.Steps.{call_whats}
use Rattle.law_run.proofs.TwoEnds.Going.{Goes, station, with_station, GoesBehind, TellNoAir}
use Rattle.law_run.proofs.TwoEnds.Steps.{come_whats, Brings}
use Rattle.law_run.proofs.TwoEnds.Steps.{IsPlayed}
use Rattle.law_run.proofs.TwoEnds.Going.{none, goes_then}
use Rattle.law_run.proofs.TwoEnds.Steps.{goes_call, goes_come, goes_off}
use Rattle.law_run.proofs.TwoEnds.Stations.{Moment, Waits, Done, stays_by, left_by, lasts, turned_station, is_visiting}
use Rattle.law_run.proofs.TwoEnds.Stages.{Both, Reaches, Stands, events_unlooped, unlooped_by, StageBehind, Stage}
use Rattle.law_run.proofs.TwoEnds.Stages.{none_looped, unlooped_goes}
use Rattle.law_run.proofs.TwoEnds.Stages.{own_logged, stands_on}
use Rattle.law_run.proofs.TwoEnds.QuietEvents.{quiet_events}

-- ---- a block comes that is under way

pub record Flown (octets : List ℕ) (p : ℕ) (s : Station) : Type 0 where
  pub place : ℕ
  pub block : Block
  pub process_is : block.process ≡ p
  pub there : slice_get s.blocks place ≡ Some block
  pub octets_are : block.octets ≡ octets

heard_from : (l : ℕ) (side : Side) (e : End) (octets : List ℕ) → HasCome side e
    → heard_in l e (Receive octets) ≡ entries_come (carried l (heard_by side) octets)
heard_from l side e octets h = ap (λ (s : Side). entries_come (carried l (heard_by s) octets)) (come_side side e h)

-- what is told as it comes
abbrev heard_as : Side → Option Bool → List Event → List Record
heard_as side heard es = records.Air (heard_by side) arriveds.Got heard ∷ map (records.Of side) es

came : (l p : ℕ) (side : Side) (e : End) (b : Block) (es : List Event) → b.process ≡ p
    → es ≡ told_of e (Receive b.octets) → (bits : ℕ) (from : Side) (c : Cursor) (heard : Option Bool) → c.process ≡ p
    → told_in (sent_by from) l c (heard_as side heard es) ≡ come_whats side l e b bits from
came l p Ue e b es is same bits Nb c heard at = got_own Nb l c heard es
    ∙ ap (λ (n : ℕ). BlockArrived n ∷ expiries l es) (at ∙ sym is)
    ∙ ap (λ (xs : List Event). BlockArrived b.process ∷ expiries l xs) same
came l p Ue e b es is same bits Ue c heard at = got_hidden Nb l c heard es
came l p Nb e b es is same bits Ue c heard at = got_own Ue l c heard es
    ∙ ap (λ (n : ℕ). BlockArrived n ∷ expiries l es) (at ∙ sym is)
    ∙ ap (λ (xs : List Event). BlockArrived b.process ∷ expiries l xs) same
came l p Nb e b es is same bits Nb c heard at = got_hidden Ue l c heard es

-- of the side where it comes that tells nothing, of the other what it carries
own_air : (bits l : ℕ) (side : Side) (sent : List ℕ) (heard : Option Bool) (es : List Event)
    → TellNoAir (map (records.Of side) es) → entries_in bits l side sent (heard_as side heard es) ≡ []
own_air bits l Nb sent heard es quiet = quiet bits l Nb sent
own_air bits l Ue sent heard es quiet = quiet bits l Ue sent

other_air : (bits l : ℕ) (side : Side) (sent : List ℕ) (heard : Option Bool) (es : List Event)
    → TellNoAir (map (records.Of side) es)
    → entries_in bits l (other side) sent (heard_as side heard es) ≡ entries_come (carried l (heard_by side) sent)
other_air bits l Nb sent heard es quiet =
    ap (λ (hs : List AccountEntry). entries_come (carried l directions.Up sent) ++ hs) (quiet bits l Ue sent)
    ∙ append-nil (entries_come (carried l directions.Up sent))
other_air bits l Ue sent heard es quiet =
    ap (λ (hs : List AccountEntry). entries_come (carried l directions.Down sent) ++ hs) (quiet bits l Nb sent)
    ∙ append-nil (entries_come (carried l directions.Down sent))

-- in one order the block, and what is told of it
heard_logged : (side : Side) (sent : Flight) (heard : Option Bool) (es : List Event) → TellNoLoop es
    → logged sent (heard_as side heard es) ≡ Hears side (process_of (other side) sent) sent.octets ∷ all_tell side es
heard_logged Nb sent heard es q =
    ap (λ (hs : List LogEntry). Hears Nb sent.ue sent.octets ∷ hs) (own_logged Nb es q sent)
heard_logged Ue sent heard es q =
    ap (λ (hs : List LogEntry). Hears Ue sent.nb sent.octets ∷ hs) (own_logged Ue es q sent)

-- a block that was sent last is got, and comes to a side
heard_stage : (l : ℕ) (set : Marks) (octets : List ℕ) (v : ℕ) (heard : Option Bool) (side : Side) (R S : Station
    → Type 0) (k m : Link) (d : End) (a : Air) → Flown octets v (station (other side) a) → (station side a).end ≡ d
    → HasCome side (station side a).end → m.out ≡ k.out ++ heard_as side heard (received d octets).events
    → m.kinds ≡ k.kinds
    → Both R S m (with_station side (record (station side a) {
      end = after_call (station side a).end (Receive octets);
    }) a)
    → Reaches l set (Block' (other side) octets v) Any none R S k m a
heard_stage l set octets v heard side R S k m d a f end_is come out kinds both =
    let e = (station side a).end in
    let es = (received d octets).events in
    let told = heard_as side heard es in
    let b : Air = with_station side (record (station side a) { end = after_call e (Receive octets) }) a in
    let known = Block' (other side) octets v in
    let unlooped : (n : ℕ) → loops_in n told ≡ [] = λ n.
    unlooped_by n (records.Air (heard_by side) arriveds.Got heard) (map (records.Of side) es) refl
    (events_unlooped n side es) in
    let es_are : es ≡ told_of e (Receive f.block.octets) =
    ap (λ (x : End). (received x octets).events) (sym end_is)
    ∙ ap (λ (o : List ℕ). (received e o).events) (sym f.octets_are) in
    let quiet : TellNoAir (map (records.Of side) es) = quiet_events side es ((writes_nothing d).receiving octets) in
    let brings : Brings l known side told f.block e = record {
      own = λ bits sent fits. own_air bits l side sent.octets heard es quiet;
      far = λ bits sent fits. other_air bits l side sent.octets heard es quiet
          ∙ ap (λ (o : List ℕ). entries_come (carried l (heard_by side) o))
          (fits.1 ∙ sym f.octets_are)
          ∙ sym (heard_from l side e f.block.octets come);
      log = λ sent fits. heard_logged side sent heard es (tells_no_loop d (Receive octets))
          ∙ (ap (λ (n : ℕ). Hears side n sent.octets ∷ all_tell side es) (fits.0 ∙ sym f.process_is)
          ∙ (ap (λ (o : List ℕ). Hears side f.block.process o ∷ all_tell side es) (fits.1 ∙ sym f.octets_are)
          ∙ ap (λ (xs : List Event). Hears side f.block.process f.block.octets ∷ all_tell side xs) es_are));
    } in
    record {
      air = b;
      more = told;
      out_is = out;
      goes =
          unlooped_goes l set told a b unlooped
          (subst (λ (o : List ℕ). GoesBehind l set known told none (come_whats side l e f.block) a
          (with_station side (record (station side a) { end = after_call e (Receive o) }) a)) f.octets_are
          (goes_come l set known side told f.place f.block a refl brings f.there
          (own_told side es (tells_no_loop d (Receive octets)) ∙ es_are) (other_told side es) unlooped));
      ws = come_whats side l e f.block;
      left = λ sent fits. tt;
      stands = λ c at. tt;
      stays = λ bits. subst (IsShown l bits) (sym kinds);
      shown = λ bits s from c at. came l v side e f.block es f.process_is es_are bits from c heard at;
      both = both;
    }

pub hears_ue : (l : ℕ) (set : Marks) (octets : List ℕ) (v : ℕ) (heard : Option Bool) (k : Link) (P : Station
    → Type 0) (u : Moment) → ((s : Station) → P s → Flown octets v s)
    → StageBehind l set (Block' Nb octets v) Any P (Stands Ue u) P (Stands Ue u) k
    (hears Ue octets (says (records.Air directions.Down arriveds.Got heard) k))
hears_ue l set octets v heard k P u flown a h =
    let one = records.Air directions.Down arriveds.Got heard in
    let es = (received k.ue octets).events in
    let same = told_seen Ue es (with_end Ue (after_call k.ue (Receive octets)) (says one k)) in
    heard_stage l set octets v heard Ue P (Stands Ue u) k (hears Ue octets (says one k)) k.ue a (flown a.nb h.nb)
    h.ue_is h.ue.is.come (ap (λ (s : Seen). s.out) same ∙ append_assoc k.out (one ∷ []) (map (records.Of Ue) es))
    (ap (λ (s : Seen). s.kinds) same) (record {
      nb_is = h.nb_is ∙ sym (ap (λ (s : Seen). s.nb) same);
      ue_is = ap (λ (e : End). after_call e (Receive octets)) h.ue_is ∙ sym (ap (λ (s : Seen). s.ue) same);
      nb = h.nb;
      ue = stands_on Ue u a.ue (Receive octets) tt refl h.ue;
    })

pub hears_nb : (l : ℕ) (set : Marks) (octets : List ℕ) (v : ℕ) (heard : Option Bool) (k : Link) (n : Moment)
    (Q : Station → Type 0) → ((s : Station) → Q s → Flown octets v s)
    → StageBehind l set (Block' Ue octets v) Any (Stands Nb n) Q (Stands Nb n) Q k
    (hears Nb octets (says (records.Air directions.Up arriveds.Got heard) k))
hears_nb l set octets v heard k n Q flown a h =
    let one = records.Air directions.Up arriveds.Got heard in
    let es = (received k.nb octets).events in
    let same = told_seen Nb es (with_end Nb (after_call k.nb (Receive octets)) (says one k)) in
    heard_stage l set octets v heard Nb (Stands Nb n) Q k (hears Nb octets (says one k)) k.nb a (flown a.ue h.ue)
    h.nb_is h.nb.is.come (ap (λ (s : Seen). s.out) same ∙ append_assoc k.out (one ∷ []) (map (records.Of Nb) es))
    (ap (λ (s : Seen). s.kinds) same) (record {
      nb_is = ap (λ (e : End). after_call e (Receive octets)) h.nb_is ∙ sym (ap (λ (s : Seen). s.nb) same);
      ue_is = h.ue_is ∙ sym (ap (λ (s : Seen). s.ue) same);
      nb = stands_on Nb n a.nb (Receive octets) tt refl h.nb;
      ue = h.ue;
    })

-- ---- a visit, behind which what no process holds is still under way

abbrev pub answer_to : Turn → End → Visit
answer_to t e = visit t.tti t.order e

abbrev pub visiting : Turn → Station → Station
visiting t s = record {
  end = after_call s.end (Visits t);
  blocks = built_at (answer_to t s.end) t (visited t.tti t.order s.end) ++ left_by (answer_to t s.end) t.tti s;
  busy = s.busy || is_new (answer_to t s.end);
}

-- from an end
pub record Visiting (side : Side) (t : Turn) (e : End) (s : Station) : Type 0 where
  pub was : Station
  pub stands : IsStation side (until t.tti) was
  pub end_is : was.end ≡ e
  pub given : IsGivenTo (Visits t)
  pub is : s ≡ visiting t was

played : (l : ℕ) (set : Marks) (t : Turn) → IsPlayed l set (Visits t)
played l set t = record { adds_none = refl; moves_none = refl; unset = λ off. refl }

-- what the visit leaves of a link
pub record Visited (l : ℕ) (side : Side) (t : Turn) (told : List Record) (k m : Link) : Type 0 where
  pub given : IsGivenTo (Visits t)
  pub end_is : end_of side m ≡ after_call (end_of side k) (Visits t)
  pub other_is : end_of (other side) m ≡ end_of (other side) k
  pub out_is : m.out ≡ k.out ++ told
  pub told_is : events_of side told ≡ building t.tti t.grant t.order (end_of side k)
  pub other_told : events_of (other side) told ≡ []
  pub unlooped : (n : ℕ) → loops_in n told ≡ []
  -- what is told of the air, by an end of the side; and the block that is sent
  pub says : (bits l : ℕ) (sent : List ℕ) → HasCome side (end_of side k)
      → said_in bits l (end_of side k) (Visits t) ≡ entries_in bits l side sent told
  pub hears : (bits l : ℕ) (sent : List ℕ) → [] ≡ entries_in bits l (other side) sent told
  pub logs : (sent : Flight) → HasCome side (end_of side k)
      → log_in side 0 (end_of side k) (Visits t) ≡ logged sent told
  pub together : StandTogether side (told_of (end_of side k) (Visits t)) told
  pub kinds_are : m.kinds ≡ k.kinds
  pub shown : HasCome side (end_of side k) → Shows l k.kinds told (call_whats side l (end_of side k) (Visits t))

visit_by : (l : ℕ) (set : Marks) (side : Side) (t : Turn) (told : List Record) (k m : Link) (b : Air)
    → IsCalling (station side b) (Visits t) → (station side b).end ≡ end_of side k → HasCome side (end_of side k)
    → Visited l side t told k m
    → Goes l set told none (call_whats side l (station side b).end (Visits t)) b
    (with_station side (calls (station side b) (Visits t)) b)
visit_by l set side t told k m b calling end_is come x =
    goes_call l set side told none (Visits t) b x.given (played l set t) calling
    (record {
      told_is = x.told_is ∙ ap (building t.tti t.grant t.order) (sym end_is);
      other_told = x.other_told;
      submitted_is = λ n. refl;
      other_submitted = λ n. refl;
      says = λ bits j sent. ap (λ (e : End). said_in bits j e (Visits t)) end_is ∙ x.says bits j sent come;
      hears = λ bits j sent. x.hears bits j sent;
      logs = λ sent. ap (λ (e : End). log_in side 0 e (Visits t)) end_is ∙ x.logs sent come;
      together = subst (λ (e : End). StandTogether side (told_of e (Visits t)) told) (sym end_is) x.together;
    })
    (λ off s n. none_looped told x.unlooped s n)

visit_goes : (l : ℕ) (set : Marks) (side : Side) (t : Turn) (told : List Record) (k m : Link) (a : Air)
    → Stands side (Waits t.tti) (station side a) → (station side a).end ≡ end_of side k → Visited l side t told k m
    → Goes l set told (λ at n. looped_at at n told) (call_whats side l (station side a).end (Visits t)) a
    (with_station side (visiting t (station side a)) a)
visit_goes l set Nb t told k m a h end_is x =
    let v = answer_to t a.nb.end in
    let b : Air = record a { nb = record a.nb { blocks = left_by v t.tti a.nb } } in
    let c : Air = record a { nb = visiting t a.nb } in
    unlooped_goes l set told a c x.unlooped
    (goes_then l set [] told none none a b c (goes_off l set Nb (stays_by v (t.tti % 8)) a)
    (visit_by l set Nb t told k m b (is_visiting Nb t a.nb h.is v refl x.given.1 h.idle) end_is
    (subst (HasCome Nb) end_is h.is.come) x))
visit_goes l set Ue t told k m a h end_is x =
    let v = answer_to t a.ue.end in
    let b : Air = record a { ue = record a.ue { blocks = left_by v t.tti a.ue } } in
    let c : Air = record a { ue = visiting t a.ue } in
    unlooped_goes l set told a c x.unlooped
    (goes_then l set [] told none none a b c (goes_off l set Ue (stays_by v (t.tti % 8)) a)
    (visit_by l set Ue t told k m b (is_visiting Ue t a.ue h.is v refl x.given.1 h.idle) end_is
    (subst (HasCome Ue) end_is h.is.come) x))

visit_stage : (l : ℕ) (set : Marks) (side : Side) (d : Behind) (t : Turn) (told : List Record) (k m : Link)
    (R S : Station → Type 0) (a : Air) → ((sent : Flight) → Fits d (flight_in told sent))
    → ((p : Cursor) → IsAt d (place_behind p told)) → Visited l side t told k m
    → Stands side (Waits t.tti) (station side a) → (station side a).end ≡ end_of side k
    → Both R S m (with_station side (visiting t (station side a)) a) → Reaches l set Any d none R S k m a
visit_stage l set side d t told k m R S a left stands x h end_is both = record {
  air = with_station side (visiting t (station side a)) a;
  more = told;
  out_is = x.out_is;
  goes = visit_goes l set side t told k m a h end_is x;
  ws = call_whats side l (station side a).end (Visits t);
  left = λ sent fits. left sent;
  stands = λ p at. stands p;
  stays = λ bits. subst (IsShown l bits) (sym x.kinds_are);
  shown = λ bits s from p at. x.shown (subst (HasCome side) end_is h.is.come) bits s from p
      ∙ ap (λ (e : End). call_whats side l e (Visits t) bits from) (sym end_is);
  both = both;
}

pub visit_nb : (l : ℕ) (set : Marks) (d : Behind) (t : Turn) (told : List Record) (k m : Link) (Q : Station → Type 0)
    → ((sent : Flight) → Fits d (flight_in told sent)) → ((p : Cursor) → IsAt d (place_behind p told))
    → Visited l Nb t told k m
    → StageBehind l set Any d (Stands Nb (Waits t.tti)) Q (Visiting Nb t k.nb) Q k m
visit_nb l set d t told k m Q left stands x a h =
    visit_stage l set Nb d t told k m (Visiting Nb t k.nb) Q a left stands x h.nb h.nb_is (record {
      nb_is = ap (λ (e : End). after_call e (Visits t)) h.nb_is ∙ sym x.end_is;
      ue_is = h.ue_is ∙ sym x.other_is;
      nb = record { was = a.nb; stands = h.nb.is; end_is = h.nb_is; given = x.given; is = refl };
      ue = h.ue;
    })

pub visit_ue : (l : ℕ) (set : Marks) (d : Behind) (t : Turn) (told : List Record) (k m : Link) (P : Station → Type 0)
    → ((sent : Flight) → Fits d (flight_in told sent)) → ((p : Cursor) → IsAt d (place_behind p told))
    → Visited l Ue t told k m
    → StageBehind l set Any d P (Stands Ue (Waits t.tti)) P (Visiting Ue t k.ue) k m
visit_ue l set d t told k m P left stands x a h =
    visit_stage l set Ue d t told k m P (Visiting Ue t k.ue) a left stands x h.ue h.ue_is (record {
      nb_is = h.nb_is ∙ sym x.other_is;
      ue_is = ap (λ (e : End). after_call e (Visits t)) h.ue_is ∙ sym x.end_is;
      nb = h.nb;
      ue = record { was = a.ue; stands = h.ue.is; end_is = h.ue_is; given = x.given; is = refl };
    })

-- ---- what no process holds is let go

let_go : (side : Side) (t : Turn) (e : End) (s : Station) → Visiting side t e s
    → Stands side (Done t.tti) (record s { blocks = filter (lasts s.end.sender) s.blocks })
let_go side t e s h =
    subst (λ (x : Station). Stands side (Done t.tti) (record x { blocks = filter (lasts x.end.sender) x.blocks }))
    (sym h.is)
    (record {
      is =
          turned_station side t h.was h.stands (answer_to t h.was.end) (h.was.busy || is_new (answer_to t h.was.end))
          refl h.given;
      idle = tt;
    })

pub done_nb : (l : ℕ) (set : Marks) (t : Turn) (e : End) (k : Link) (Q : Station → Type 0)
    → Stage l set (Visiting Nb t e) Q (Stands Nb (Done t.tti)) Q k k
done_nb l set t e k Q a h = record {
  air = record a { nb = record a.nb { blocks = filter (lasts a.nb.end.sender) a.nb.blocks } };
  more = [];
  out_is = sym (append-nil k.out);
  goes =
      unlooped_goes l set [] a (record a { nb = record a.nb { blocks = filter (lasts a.nb.end.sender) a.nb.blocks } })
      (λ n. refl) (goes_off l set Nb (lasts a.nb.end.sender) a);
  ws = no_whats;
  left = λ sent fits. tt;
  stands = λ c at. tt;
  stays = λ bits s. s;
  shown = λ bits s from p at. refl;
  both = record { nb_is = h.nb_is; ue_is = h.ue_is; nb = let_go Nb t e a.nb h.nb; ue = h.ue };
}

pub done_ue : (l : ℕ) (set : Marks) (t : Turn) (e : End) (k : Link) (P : Station → Type 0)
    → Stage l set P (Visiting Ue t e) P (Stands Ue (Done t.tti)) k k
done_ue l set t e k P a h = record {
  air = record a { ue = record a.ue { blocks = filter (lasts a.ue.end.sender) a.ue.blocks } };
  more = [];
  out_is = sym (append-nil k.out);
  goes =
      unlooped_goes l set [] a (record a { ue = record a.ue { blocks = filter (lasts a.ue.end.sender) a.ue.blocks } })
      (λ n. refl) (goes_off l set Ue (lasts a.ue.end.sender) a);
  ws = no_whats;
  left = λ sent fits. tt;
  stands = λ c at. tt;
  stays = λ bits s. s;
  shown = λ bits s from p at. refl;
  both = record { nb_is = h.nb_is; ue_is = h.ue_is; nb = h.nb; ue = let_go Ue t e a.ue h.ue };
}
