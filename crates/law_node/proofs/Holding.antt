-- What HARQ holds is never too old.
use Rattle.std.proofs.Common.{◌≡◌, ◌≤◌, ◌<◌, ℕ, zero, suc, ◌+◌, ◌%◌, ◌==◌, nat_lt, Bool, true, false, if◌then◌else◌}
use Rattle.std.proofs.Common.{Option, Some, None, Result, Ok, Err, List, [], ◌∷◌, length, get_or, set, insert}
use Rattle.std.proofs.Common.{replicate, get_or-set_same, get_or-set_other, refl, ap, sym, ◌∙◌, subst, arith, inl, inr}
use Rattle.std.proofs.lemmas.Bool.{cases_eq, cases_lt}
use Rattle.std.proofs.lemmas.Bool.Decides.{nat_tests}
use Rattle.std.proofs.lemmas.List.{get_or_past}
use Rattle.std.proofs.Math.ListN.{length-set}
use Rattle.bearer.specs.Bearer.{Of, of, Life, alive, begun}
use Rattle.bearer.specs.declared.flow.Flow.{Flow}
use Rattle.bearer.specs.declared.flow.StoppedFlow.{StoppedFlow}
use Rattle.bearer.specs.Hearing.{arrived as flow_arrived, expired as flow_expired, ticked as flow_ticked, with_discard}
use Rattle.bearer.specs.Submitting.{submitted as flow_submitted}
use Rattle.bearer.specs.Taking.{number, after as flow_after}
use Rattle.bearer_types.specs.declared.config.BearerConfig.{BearerConfig}
use Rattle.eps_sec.specs.declared.Keys.{Keys}
use Rattle.harq.specs.declared.sender.Order.{Order}
use Rattle.harq.specs.declared.sender.Visit.{Visit}
use Rattle.harq.specs.declared.sender.Visit.TheVariants.{New, Resend, Silent}
use Rattle.harq.specs.Sending.{Sending, fresh as fresh_sender, after_visit, after_load, after_feedback, held_of}
use Rattle.l2_bits.specs.declared.fault.SubmitRefusal.{SubmitRefusal}
use Rattle.l2_types.specs.declared.channel.Channel.{Channel}
use Rattle.l2_types.specs.declared.side.Side.{Side}
use Rattle.mac_pdu.specs.declared.fault.MacRefusal.{MacRefusal}
use Rattle.mac_pdu.specs.Items.{MacItem, front, element, sdu, padding}
use Rattle.mac_pdu.specs.Reading.{reading}
use Rattle.l2_node.specs.Building.{visited, loaded, built_by, built, visit}
use Rattle.l2_node.specs.End.{End, fresh, no_numbers, with_bearer, reset, with_visits}
use Rattle.bearer_types.specs.Sides.{heard_by}
use Rattle.l2_node.specs.Finding.{Numbers, find, has, place, no_bearer, bearer_at, number_at, counted, lowest}
use Rattle.l2_node.specs.Hearing.{Heard, heard, hears_sdu, hears, hears_all, heard_items, received, ticks_at}
use Rattle.l2_node.specs.Hearing.{ticks_over, ticked, bearer_of, expired}
use Rattle.l2_node.specs.Moving.{all_stopped, all_restarted, left_cell, joined}
use Rattle.l2_node.specs.Submitting.{refusal, submitted, discarding}
use Rattle.l2_node.specs.Writing.{shares, Work, work, nothing_written, noted, writes, all_write, written, new_block}
use Rattle.law_node.specs.Calls.{Turn, Call, SetVisits, SetReports, Add, Submit, SetDiscard, Tick, TickBuckets, Visits}
use Rattle.law_node.specs.Calls.{Grants, Granted, Assigned, Pass, Receive, Expire, Move, answered, after_submit, after}
use Rattle.law_node.specs.Calls.{run_end, reached}
use Rattle.law_node.specs.Holding.{next_number, width}
use Rattle.law_node.proofs.Ages.{Stands, Ages, stays, ages_then, submitted_ages, discard_ages, arrived_ages}
use Rattle.law_node.proofs.Ages.{expired_ages, ticked_ages, begun_ages, restarted_stands}
use Rattle.law_node.proofs.Holders.{set_cases, Fewer, visit_fewer, feedback_fewer, load_other, fresh_none}
use Rattle.law_node.proofs.Holders.{fewer_numbers, noted_number, none_counted, lowest_least}
use Rattle.law_node.proofs.Places.{find_set, found}
use Rattle.law_node.proofs.Takings.{Took, takes}

-- ---- the bearers of all channels

abbrev pub flow_at : ℕ → List (Of Life) → Flow
flow_at l bs = (bearer_at bs (find l bs)).state.flow

-- none is behind where it was
abbrev AllAge : List (Of Life) → List (Of Life) → Type 0
AllAge bs ds = (l : ℕ) → Ages (flow_at l bs) (flow_at l ds)

all_then : (bs cs ds : List (Of Life)) → AllAge bs cs → AllAge cs ds → AllAge bs ds
all_then bs cs ds f g l = ages_then (flow_at l bs) (flow_at l cs) (flow_at l ds) (f l) (g l)

-- one in a place goes on
set_all : (bs : List (Of Life)) (at : ℕ) (x : Of Life) → (bearer_at bs at).channel.lcid ≡ x.channel.lcid
    → Ages (bearer_at bs at).state.flow x.state.flow → AllAge bs (set bs at x)
set_all bs at x e a l =
    let same = find_set l bs at x e in
    let d : Of Life = no_bearer in
    subst (λ (k : ℕ). Ages (flow_at l bs) (get_or (set bs at x) k d).state.flow) (sym same)
    (elim (set_cases bs at (find l bs) x d) [
      | inl new ↦
          subst (λ (b : Of Life). Ages (flow_at l bs) b.state.flow) (sym new.1)
          (subst (λ (k : ℕ). Ages (bearer_at bs k).state.flow x.state.flow) (sym new.0) a)
      | inr old ↦ subst (λ (b : Of Life). Ages (flow_at l bs) b.state.flow) (sym old) (stays (flow_at l bs))
    ])

-- a new one stands before those of its LCID
cons_by : (t : Bool) (b : Of Life) (bs ds : List (Of Life)) (l : ℕ) → (b.channel.lcid == l) ≡ t
    → Ages (flow_at l bs) (flow_at l ds) → Ages (flow_at l (b ∷ bs)) (flow_at l (b ∷ ds))
cons_by true b bs ds l e a = rw (e, flow_at) (stays b.state.flow)
cons_by false b bs ds l e a =
    let here : find l bs + 1 ≡ suc (find l bs) = omega arith in
    let there : find l ds + 1 ≡ suc (find l ds) = omega arith in
    rw (e, flow_at, here, there) a

first_by : (t : Bool) (x : Of Life) (bs : List (Of Life)) (l : ℕ) → (x.channel.lcid == l) ≡ t
    → ((f : Flow) → Ages f x.state.flow) → Ages (flow_at l bs) (flow_at l (x ∷ bs))
first_by true x bs l e a = rw (e, flow_at) (a (flow_at l bs))
first_by false x bs l e a =
    let there : find l bs + 1 ≡ suc (find l bs) = omega arith in
    rw (e, flow_at, there) (stays (flow_at l bs))

place_all : (t : Bool) (b : Of Life) (bs : List (Of Life)) (x : Of Life) (m l : ℕ) → ((f : Flow) → Ages f x.state.flow)
    → Ages (flow_at l bs) (flow_at l (insert bs (place m bs) x))
    → Ages (flow_at l (b ∷ bs)) (flow_at l (insert (b ∷ bs) (if t then place m bs + 1 else 0) x))
place_all true b bs x m l a ih =
    let next : place m bs + 1 ≡ suc (place m bs) = omega arith in
    rw next (cons_by (b.channel.lcid == l) b bs (insert bs (place m bs) x) l refl ih)
place_all false b bs x m l a ih = first_by (x.channel.lcid == l) x (b ∷ bs) l refl a

insert_all : (bs : List (Of Life)) (x : Of Life) (m : ℕ) → ((f : Flow) → Ages f x.state.flow)
    → AllAge bs (insert bs (place m bs) x)
insert_all [] x m a l = first_by (x.channel.lcid == l) x [] l refl a
insert_all (b ∷ bs) x m a l = place_all (nat_lt b.channel.lcid m) b bs x m l a (insert_all bs x m a l)

-- ---- what a call makes of them

ticks_all : (bs : List (Of Life)) (at : ℕ) (h : Heard) → AllAge h.bearers (ticks_over bs at h).bearers
ticks_all [] at h = λ l. stays (flow_at l h.bearers)
ticks_all (b ∷ bs) at h =
    let one =
    set_all h.bearers at
    (of (bearer_at h.bearers at).channel (alive (flow_ticked (bearer_at h.bearers at).state.flow))) refl
    (ticked_ages (bearer_at h.bearers at).state.flow) in
    all_then h.bearers (ticks_at at h).bearers (ticks_over bs (at + 1) (ticks_at at h)).bearers one
    (ticks_all bs (at + 1) (ticks_at at h))

sdu_by : (t : Bool) (lcid : ℕ) (pdu : List ℕ) (h : Heard) → has lcid h.bearers ≡ t
    → AllAge h.bearers (hears_sdu lcid pdu h).bearers
sdu_by true lcid pdu h e =
    let b = bearer_at h.bearers (find lcid h.bearers) in
    rw e (set_all h.bearers (find lcid h.bearers) (of b.channel (alive (flow_arrived b.state.flow pdu))) refl
    (arrived_ages b.state.flow pdu))
sdu_by false lcid pdu h e = rw e (λ l. stays (flow_at l h.bearers))

item_all : (i : MacItem) (h : Heard) → AllAge h.bearers (hears i h).bearers
item_all front h = λ l. stays (flow_at l h.bearers)
item_all (element c) h = λ l. stays (flow_at l h.bearers)
item_all (sdu lcid octets) h = sdu_by (has lcid h.bearers) lcid octets h refl
item_all (padding n) h = λ l. stays (flow_at l h.bearers)

items_all : (is : List MacItem) (h : Heard) → AllAge h.bearers (hears_all is h).bearers
items_all [] h = λ l. stays (flow_at l h.bearers)
items_all (i ∷ is) h =
    all_then h.bearers (hears i h).bearers (hears_all is (hears i h)).bearers (item_all i h)
    (items_all is (hears i h))

block_all : (r : Result (List MacItem) MacRefusal) (h : Heard) → AllAge h.bearers (heard_items r h).bearers
block_all (Ok items) h = items_all items h
block_all (Err refusal) h = λ l. stays (flow_at l h.bearers)

-- ---- an end whose processes hold no old number

pub record Young (bs : List (Of Life)) (s : Sending) (numbers : Numbers) : Type 0 where
  pub young : (l p n : ℕ) → p < 8 → number_at s numbers l p ≡ Some n
      → next_number (flow_at l bs) ≤ n + width (flow_at l bs)
  pub stands : (l : ℕ) → Stands (flow_at l bs)
  pub rows : length numbers ≡ 8

aged : (bs ds : List (Of Life)) (s : Sending) (numbers : Numbers) → AllAge bs ds → Young bs s numbers
    → Young ds s numbers
aged bs ds s numbers a y = record {
  young = λ l p n lt e. (a l).young n (y.young l p n lt e);
  stands = λ l. (a l).stands (y.stands l);
  rows = y.rows;
}

fewer : (bs : List (Of Life)) (s t : Sending) (numbers : Numbers) → Fewer s t → Young bs s numbers → Young bs t numbers
fewer bs s t numbers f y = record {
  young = λ l p n lt e. y.young l p n lt (fewer_numbers s t numbers l p n f e);
  stands = y.stands;
  rows = y.rows;
}

emptied : (bs : List (Of Life)) (maximum : ℕ) → ((l : ℕ) → Stands (flow_at l bs))
    → Young bs (fresh_sender maximum) no_numbers
emptied bs maximum stands =
    record {
      young =
          λ l p n lt e. absurd (none_counted (fresh_sender maximum) no_numbers l p n (fresh_none maximum p) e);
      stands = stands;
      rows = refl;
    }

-- ---- a new block

-- while the bearers write: the numbers that HARQ holds, those that are written, and the windows
record Writes (s : Sending) (numbers : Numbers) (w : Work) : Type 0 where
  held : (l p n : ℕ) → p < 8 → number_at s numbers l p ≡ Some n
      → next_number (flow_at l w.bearers) ≤ n + width (flow_at l w.bearers)
  row : (l n : ℕ) → get_or w.block.numbers l None ≡ Some n
      → next_number (flow_at l w.bearers) ≤ n + width (flow_at l w.bearers)
  stands : (l : ℕ) → Stands (flow_at l w.bearers)

-- the bearers once that of a channel has taken
abbrev taken_from : ℕ → ℕ → Option ℕ → List (Of Life) → List (Of Life)
taken_from m share held bs =
    set bs (find m bs) (of (bearer_at bs (find m bs)).channel (alive (flow_after (flow_at m bs) share held)))

wrote_here : (m share : ℕ) (held : Option ℕ) (bs : List (Of Life)) → has m bs ≡ true
    → flow_at m (taken_from m share held bs) ≡ flow_after (flow_at m bs) share held
wrote_here m share held bs h =
    let b = bearer_at bs (find m bs) in
    let d : Of Life = no_bearer in
    let x : Of Life = of b.channel (alive (flow_after (flow_at m bs) share held)) in
    let lt : find m bs < length bs = grind (arith, nat_tests) in
    ap (λ (k : ℕ). (bearer_at (set bs (find m bs) x) k).state.flow) (find_set m bs (find m bs) x refl)
    ∙ ap (λ (y : Of Life). y.state.flow) (get_or-set_same bs (find m bs) x d lt)

wrote_other : (m share : ℕ) (held : Option ℕ) (bs : List (Of Life)) (l : ℕ) → has m bs ≡ true → (l ≡ m → ⊥)
    → flow_at l (taken_from m share held bs) ≡ flow_at l bs
wrote_other m share held bs l h apart =
    let b = bearer_at bs (find m bs) in
    let d : Of Life = no_bearer in
    let x : Of Life = of b.channel (alive (flow_after (flow_at m bs) share held)) in
    ap (λ (k : ℕ). (bearer_at (set bs (find m bs) x) k).state.flow) (find_set l bs (find m bs) x refl)
    ∙ ap (λ (y : Of Life). y.state.flow)
    (get_or-set_other bs (find m bs) (find l bs) x d (λ at. apart (same_place l m bs h at)))
  where
    same_place : (l m : ℕ) (bs : List (Of Life)) → has m bs ≡ true → find l bs ≡ find m bs → l ≡ m
    same_place l m bs h at = sym (found l bs (ap (λ (k : ℕ). nat_lt k (length bs)) at ∙ h))
        ∙ ap (λ (k : ℕ). (bearer_at bs k).channel.lcid) at ∙ found m bs h

-- a number isn't too old for a bearer
abbrev IsYoung : Flow → ℕ → Type 0
IsYoung f n = next_number f ≤ n + width f

-- the number that is noted, and one that was
row_here : (f g : Flow) (numbers : List (Option ℕ)) (m n : ℕ) (held given : Option ℕ) → Took f held given g → Stands f
    → ((n : ℕ) → get_or numbers m None ≡ Some n → IsYoung f n) → get_or (noted numbers m given) m None ≡ Some n
    → IsYoung g n
row_here f g numbers m n held None t stands old e = t.none refl n (old n e)
row_here f g numbers m n held (Some k) t stands old e = elim (cases_lt m (length numbers)) [
  | inl lt ↦ t.new n (sym (get_or-set_same numbers m (Some k) None lt) ∙ e) stands
  | inr ge ↦ let no : None ≡ Some n =
      sym (get_or_past (set numbers m (Some k)) m None (omega (arith, length-set numbers m (Some k), ge))) ∙ e in cc
]

pub row_other : (numbers : List (Option ℕ)) (m l : ℕ) (given : Option ℕ) → (l ≡ m → ⊥)
    → get_or (noted numbers m given) l None ≡ get_or numbers l None
row_other numbers m l None apart = refl
row_other numbers m l (Some k) apart = get_or-set_other numbers m l (Some k) None apart

writes_by : (t : Bool) (m share : ℕ) (s : Sending) (numbers : Numbers) (w : Work) → has m w.bearers ≡ t
    → Writes s numbers w → Writes s numbers (writes m share (lowest s numbers m) w)
writes_by false m share s numbers w h v = rw h v
writes_by true m share s numbers w h v =
    let held = lowest s numbers m in
    let f = flow_at m w.bearers in
    let g = flow_after f share held in
    let t = takes f share held in
    let here = wrote_here m share held w.bearers h in
    rw h (record {
      held = λ l p n lt e. elim (cases_eq l m) [
        | inl same ↦
            let at : number_at s numbers m p ≡ Some n = subst (λ (k : ℕ). number_at s numbers k p ≡ Some n) same e in
            subst (λ (k : ℕ). IsYoung (flow_at k (taken_from m share held w.bearers)) n) (sym same)
            (subst (λ (x : Flow). IsYoung x n) (sym here)
            (t.young n (lowest_least s numbers m p n lt at) (v.held m p n lt at)))
        | inr apart ↦ subst (λ (x : Flow). IsYoung x n) (sym (wrote_other m share held w.bearers l h apart))
            (v.held l p n lt e)
      ];
      row = λ l n e. elim (cases_eq l m) [
        | inl same ↦
            let at = subst (λ (k : ℕ). get_or (noted w.block.numbers m (number f share held)) k None ≡ Some n) same e in
            subst (λ (k : ℕ). IsYoung (flow_at k (taken_from m share held w.bearers)) n) (sym same)
            (subst (λ (x : Flow). IsYoung x n) (sym here)
            (row_here f g w.block.numbers m n held (number f share held) t (v.stands m) (v.row m) at))
        | inr apart ↦
            subst (λ (x : Flow). IsYoung x n) (sym (wrote_other m share held w.bearers l h apart))
            (v.row l n (sym (row_other w.block.numbers m l (number f share held) apart) ∙ e))
      ];
      stands = λ l. elim (cases_eq l m) [
        | inl same ↦
            subst (λ (k : ℕ). Stands (flow_at k (taken_from m share held w.bearers))) (sym same)
            (subst Stands (sym here) (t.stands (v.stands m)))
        | inr apart ↦ subst Stands (sym (wrote_other m share held w.bearers l h apart)) (v.stands l)
      ];
    })

writes_all : (s : Sending) (numbers : Numbers) (amounts : List ℕ) (cs : List Channel) (w : Work) → Writes s numbers w
    → Writes s numbers (all_write s numbers amounts cs w)
writes_all s numbers amounts [] w v = v
writes_all s numbers amounts (c ∷ cs) w v =
    let share = get_or amounts c.lcid 0 in
    writes_all s numbers amounts cs (writes c.lcid share (lowest s numbers c.lcid) w)
    (writes_by (has c.lcid w.bearers) c.lcid share s numbers w refl v)

none_at : (n l k : ℕ) → get_or (replicate n None) l None ≡ Some k → ⊥
none_at zero l k e = let no : None ≡ Some k = e in cc
none_at (suc n) zero k e = let no : None ≡ Some k = e in cc
none_at (suc n) (suc l) k e = none_at n l k e

written_young : (e : End) (grant : ℕ) → Young e.bearers e.sender e.numbers → Writes e.sender e.numbers (written e grant)
unfolding written
written_young e grant y =
    writes_all e.sender e.numbers (shares e grant) e.buckets.channels (work e.bearers (nothing_written e.side))
    (record { held = y.young; row = λ l n h. absurd (none_at 11 l n h); stands = y.stands })

-- ---- each call

loaded_young : (tti grant : ℕ) (e : End) → Young e.bearers e.sender e.numbers
    → Young (loaded tti grant e).bearers (loaded tti grant e).sender (loaded tti grant e).numbers
unfolding loaded
loaded_young tti grant e y =
    let w = written_young e grant y in
    let at = tti % 8 in
    let row = (written e grant).block.numbers in
    let s = after_load e.sender tti (new_block e grant) in
    record {
      young = λ l p n lt h. elim (cases_eq p at) [
        | inl same ↦
            let noted' : get_or (get_or (set e.numbers at row) p []) l None ≡ Some n =
            noted_number (held_of s p) (get_or (get_or (set e.numbers at row) p []) l None) n h in
            let there : get_or (set e.numbers at row) p [] ≡ row =
            ap (λ (k : ℕ). get_or (set e.numbers at row) k []) same
            ∙ get_or-set_same e.numbers at row [] (omega (arith, y.rows)) in
            w.row l n (ap (λ (r : List (Option ℕ)). get_or r l None) (sym there) ∙ noted')
        | inr apart ↦
            let holds = load_other e.sender tti (new_block e grant) p apart in
            let there : get_or (set e.numbers at row) p [] ≡ get_or e.numbers p [] =
            get_or-set_other e.numbers at p row [] apart in
            w.held l p n lt (ap (λ (r : List (Option ℕ)). counted (held_of e.sender p) (get_or r l None)) (sym there)
            ∙ ap (λ (o : Option (List ℕ)). counted o (get_or (get_or (set e.numbers at row) p []) l None))
            (sym holds) ∙ h)
      ];
      stands = w.stands;
      rows = length-set e.numbers at row ∙ y.rows;
    }

turn_young : (v : Visit) (t : Turn) (e : End) → Young e.bearers e.sender e.numbers
    → Young (answered v t (built_by v t.tti t.grant e)).bearers (answered v t (built_by v t.tti t.grant e)).sender
    (answered v t (built_by v t.tti t.grant e)).numbers
turn_young New t e y =
    let d = loaded t.tti t.grant e in
    fewer d.bearers d.sender (after_feedback d.sender t.tti t.good) d.numbers (feedback_fewer d.sender t.tti t.good)
    (loaded_young t.tti t.grant e y)
turn_young (Resend rv) t e y =
    fewer e.bearers e.sender (after_feedback e.sender t.tti t.good) e.numbers (feedback_fewer e.sender t.tti t.good) y
turn_young Silent t e y = y

visited_young : (tti : ℕ) (order : Order) (e : End) → Young e.bearers e.sender e.numbers
    → Young (visited tti order e).bearers (visited tti order e).sender (visited tti order e).numbers
unfolding visited
visited_young tti order e y =
    fewer e.bearers e.sender (after_visit e.sender tti order) e.numbers (visit_fewer e.sender tti order) y

-- a bearer of a channel goes on
one_young : (lcid : ℕ) (b : Life) (e : End) → Ages (bearer_of lcid e).state.flow b.flow
    → Young e.bearers e.sender e.numbers
    → Young (set e.bearers (find lcid e.bearers) (of (bearer_of lcid e).channel b)) e.sender e.numbers
one_young lcid b e a y =
    let ds = set e.bearers (find lcid e.bearers) (of (bearer_of lcid e).channel b) in
    aged e.bearers ds e.sender e.numbers
    (set_all e.bearers (find lcid e.bearers) (of (bearer_of lcid e).channel b) refl a) y

restarted_at : (ps : List (Of StoppedFlow)) (keys : Keys) (k : ℕ)
    → Stands (bearer_at (all_restarted ps keys) k).state.flow
restarted_at [] keys k = tt
restarted_at (p ∷ ps) keys zero = restarted_stands p.state keys
restarted_at (p ∷ ps) keys (suc k) = restarted_at ps keys k

begun_young : (c : BearerConfig) (keys : Keys) (e : End) → Young e.bearers e.sender e.numbers
    → Young (insert e.bearers (place c.channel.lcid e.bearers) (begun c keys e.side)) e.sender e.numbers
unfolding begun
begun_young c keys e y =
    let x = begun c keys e.side in
    aged e.bearers (insert e.bearers (place c.channel.lcid e.bearers) x) e.sender e.numbers
    (insert_all e.bearers x c.channel.lcid (λ f. begun_ages c keys e.side f)) y

submit_young : (r : Option SubmitRefusal) (lcid : ℕ) (octets : List ℕ) (e : End) → refusal lcid octets e ≡ r
    → Young e.bearers e.sender e.numbers
    → Young (after_submit r lcid octets e).bearers e.sender e.numbers
unfolding refusal submitted
submit_young None lcid octets e h y =
    one_young lcid (alive (flow_submitted (bearer_of lcid e).state.flow octets)) e
    (submitted_ages (bearer_of lcid e).state.flow octets h) y
submit_young (Some why) lcid octets e h y = y

pub call_young : (e : End) (c : Call) → Young e.bearers e.sender e.numbers
    → Young (after e c).bearers (after e c).sender (after e c).numbers
unfolding with_visits with_bearer submitted discarding expired ticked received built joined left_cell reset
call_young e (SetVisits maximum) y = emptied e.bearers maximum y.stands
call_young e (SetReports reports) y = y
call_young e (Add c keys) y = begun_young c keys e y
call_young e (Submit lcid octets) y = submit_young (refusal lcid octets e) lcid octets e refl y
call_young e (SetDiscard lcid ttis) y =
    one_young lcid (record (bearer_of lcid e).state { flow = with_discard (bearer_of lcid e).state.flow ttis }) e
    (discard_ages (bearer_of lcid e).state.flow ttis) y
call_young e Tick y =
    aged e.bearers (ticks_over e.bearers 0 (heard e.bearers [])).bearers e.sender e.numbers
    (ticks_all e.bearers 0 (heard e.bearers [])) y
call_young e TickBuckets y = y
call_young e (Visits t) y =
    turn_young (visit t.tti t.order e) t (visited t.tti t.order e) (visited_young t.tti t.order e y)
call_young e (Grants tti) y = y
call_young e (Granted tti good) y = y
call_young e (Assigned tti ndi good) y = y
call_young e (Pass tti) y = y
call_young e (Receive block) y =
    aged e.bearers (heard_items (reading (heard_by e.side) block) (heard e.bearers [])).bearers e.sender e.numbers
    (block_all (reading (heard_by e.side) block) (heard e.bearers [])) y
call_young e (Expire lcid clock) y =
    one_young lcid (alive (flow_expired (bearer_of lcid e).state.flow clock)) e
    (expired_ages (bearer_of lcid e).state.flow clock) y
call_young e (Move keys) y =
    let ds = all_restarted (all_stopped e.bearers) keys in
    emptied ds e.sender.maximum (λ l. restarted_at (all_stopped e.bearers) keys (find l ds))

pub fresh_young : (side : Side) (maximum : ℕ) (reports : Bool)
    → Young (fresh side maximum reports).bearers (fresh side maximum reports).sender
    (fresh side maximum reports).numbers
unfolding fresh
fresh_young side maximum reports = emptied [] maximum (λ l. tt)

run_young : (cs : List Call) (e : End) → Young e.bearers e.sender e.numbers
    → Young (run_end cs e).bearers (run_end cs e).sender (run_end cs e).numbers
run_young [] e y = y
run_young (c ∷ cs) e y = run_young cs (after e c) (call_young e c y)

-- an end that has visited a process
pub visiting_young : (side : Side) (maximum : ℕ) (reports : Bool) (calls : List Call) (tti : ℕ) (order : Order)
    → Young (visited tti order (reached side maximum reports calls)).bearers
    (visited tti order (reached side maximum reports calls)).sender
    (visited tti order (reached side maximum reports calls)).numbers
visiting_young side maximum reports calls tti order =
    visited_young tti order (reached side maximum reports calls)
    (run_young calls (fresh side maximum reports) (fresh_young side maximum reports))
