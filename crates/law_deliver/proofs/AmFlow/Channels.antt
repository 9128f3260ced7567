-- In each call of an end its bearer of a channel is called, and a new block carries what it writes.
use Rattle.std.proofs.Common.{◌≡◌, ◌≤◌, ◌<◌, ℕ, zero, suc, ◌+◌, ◌==◌, ◌||◌, if◌then◌else◌, Bool, true, false, Option}
use Rattle.std.proofs.Common.{Some, None, Result, Ok, Err, List, [], ◌∷◌, ◌++◌, length, map, replicate, get_or}
use Rattle.std.proofs.Common.{append-nil, append_assoc, refl, ap, sym, ◌∙◌, subst, arith, inl, inr}
use Rattle.std.proofs.lemmas.Bool.{cases_eq}
use Rattle.std.proofs.lemmas.Bool.Decides.{nat_tests}
use Rattle.bearer.specs.Bearer.{Of, of, Life, alive, begun}
use Rattle.bearer.specs.Hearing.{arrived as flow_arrived, expired as flow_expired, ticked as flow_ticked, with_discard}
use Rattle.bearer.specs.Submitting.{submitted as flow_submitted}
use Rattle.bearer.specs.Taking.{pdus, after as flow_after}
use Rattle.law_bearer.specs.AnyBearer.Calls.{Call as BearerCall, Submit as Submits, Take as Takes, Arrive as Arrives}
use Rattle.law_bearer.specs.AnyBearer.Calls.{Expire as Expires, Tick as Ticks, SetDiscard as SetsDiscard, after_all}
use Rattle.harq.specs.declared.sender.Order.{Order}
use Rattle.harq.specs.declared.sender.Visit.{Visit}
use Rattle.harq.specs.declared.sender.Visit.TheVariants.{New, Resend, Silent}
use Rattle.harq.specs.Sending.{Sending}
use Rattle.l2_bits.specs.declared.fault.SubmitRefusal.{SubmitRefusal}
use Rattle.l2_node.specs.Building.{visited, loaded, built_by, built, visit}
use Rattle.l2_node.specs.End.{End, with_bearer, with_visits}
use Rattle.bearer_types.specs.Sides.{heard_by, sent_by}
use Rattle.l2_node.specs.Finding.{Numbers, find, has, bearer_at, lowest}
use Rattle.l2_node.specs.Hearing.{Heard, heard, hears_sdu, hears, hears_all, heard_items, received, ticks_at}
use Rattle.l2_node.specs.Hearing.{ticks_over, ticked, expired, bearer_of}
use Rattle.l2_node.specs.Submitting.{refusal, submitted, discarding}
use Rattle.l2_node.specs.Writing.{shares, Work, work, nothing_written, writes, all_write, written, sdus_of, new_block}
use Rattle.l2_types.specs.declared.channel.Channel.{Channel}
use Rattle.l2_types.specs.declared.side.Side.{Side}
use Rattle.mac_pdu.specs.declared.builder.Sdu.{Sdu}
use Rattle.mac_pdu.specs.declared.fault.MacRefusal.{MacRefusal}
use Rattle.mac_pdu.specs.declared.item.Bsr.{Bsr}
use Rattle.mac_pdu.specs.Items.{MacItem, front, element, sdu, padding, sdu_item}
use Rattle.mac_pdu.specs.Reading.{reading}
use Rattle.prioritise.specs.Channels.{has as has_channel}
use Rattle.prioritise.specs.ShareLaws.{IsSound}
use Rattle.law_node.specs.Blocks.{pdus_by, sdus_by, all_sdus, report, IsBlockOf}
use Rattle.promises.specs.Built.{reported}
use Rattle.law_node.specs.Calls.{Turn, Call, SetVisits, SetReports, Add, Submit, SetDiscard, Tick, TickBuckets, Visits}
use Rattle.law_node.specs.Calls.{Grants, Granted, Assigned, Pass, Receive, Expire, Move, IsGiven, AreGiven, answered}
use Rattle.law_node.specs.Calls.{after_submit, after, reached}
use Rattle.law_node.specs.Holding.{flow}
use Rattle.law_node.proofs.Blocks.{has_what_was_written}
use Rattle.law_node.proofs.Holding.{flow_at}
use Rattle.law_node.proofs.Living.{reached_side}
use Rattle.law_node.proofs.Places.{find_set, has_set}
use Rattle.law_node.proofs.Sharing.{Apart, sound_apart}
use Rattle.law_node.proofs.Sound.{reached_sound, visited_sound, visiting_sound}
use Rattle.law_deliver.specs.AmFlow.Channels.{only, share_of, held_of, takes_of, submits_of, calls_of, GoesOnInLife}
use Rattle.law_deliver.specs.AmFlow.Channels.{written_by}
use Rattle.promises.specs.Pdus.{pdus_in, pdus_among, pdus_read, carried}
use Rattle.law_deliver.proofs.AmFlow.Places.{GoesBy, rests, goes_then, set_here, set_apart, absent_by, on_by, insert_by}

-- ---- a block comes

arrives : List (List ℕ) → List BearerCall
arrives pdus = map (λ pdu. Arrives pdu) pdus

pub arrive_if : (here : Bool) (pdu : List ℕ)
    → only here (Arrives pdu) ≡ map (λ p. Arrives p) (if here then pdu ∷ [] else [])
arrive_if true pdu = refl
arrive_if false pdu = refl

pub arrive_more : (xs ys : List (List ℕ))
    → map (λ p. Arrives p) (xs ++ ys) ≡ map (λ p. Arrives p) xs ++ map (λ p. Arrives p) ys
arrive_more [] ys = refl
arrive_more (x ∷ xs) ys = ap (λ (cs : List BearerCall). Arrives x ∷ cs) (arrive_more xs ys)

sdu_by : (there : Bool) (l m : ℕ) (pdu : List ℕ) (h : Heard) → has m h.bearers ≡ there
    → GoesBy l h.bearers (hears_sdu m pdu h).bearers (only (m == l) (Arrives pdu))
sdu_by true l m pdu h e =
    let b = bearer_at h.bearers (find m h.bearers) in
    rw e (on_by (m == l) true l m h.bearers (of b.channel (alive (flow_arrived b.state.flow pdu))) (Arrives pdu) refl e
    refl refl)
sdu_by false l m pdu h e = rw e (absent_by (m == l) l m h.bearers (Arrives pdu) refl e)

pub item_by : (l : ℕ) (i : MacItem) (h : Heard)
    → GoesBy l h.bearers (hears i h).bearers (map (λ p. Arrives p) (pdus_in l i))
item_by l front h = rests l h.bearers
item_by l (element c) h = rests l h.bearers
item_by l (sdu lcid octets) h =
    subst (GoesBy l h.bearers (hears_sdu lcid octets h).bearers) (arrive_if (lcid == l) octets)
    (sdu_by (has lcid h.bearers) l lcid octets h refl)
item_by l (padding n) h = rests l h.bearers

items_by : (l : ℕ) (is : List MacItem) (h : Heard)
    → GoesBy l h.bearers (hears_all is h).bearers (map (λ p. Arrives p) (pdus_among l is))
items_by l [] h = rests l h.bearers
items_by l (i ∷ is) h =
    subst (GoesBy l h.bearers (hears_all is (hears i h)).bearers) (sym (arrive_more (pdus_in l i) (pdus_among l is)))
    (goes_then l h.bearers (hears i h).bearers (hears_all is (hears i h)).bearers (map (λ p. Arrives p) (pdus_in l i))
    (map (λ p. Arrives p) (pdus_among l is)) (item_by l i h) (items_by l is (hears i h)))

pub block_by : (l : ℕ) (r : Result (List MacItem) MacRefusal) (h : Heard)
    → GoesBy l h.bearers (heard_items r h).bearers (map (λ p. Arrives p) (pdus_read l r))
block_by l (Ok items) h = items_by l items h
block_by l (Err refusal) h = rests l h.bearers

-- ---- a TTI begins: the bearer at each place ticks, so that of the channel once

find_stays : (l at : ℕ) (h : Heard) → find l (ticks_at at h).bearers ≡ find l h.bearers
find_stays l at h = let y = bearer_at h.bearers at in
    find_set l h.bearers at (of y.channel (alive (flow_ticked y.state.flow))) refl

ticks_past : (l : ℕ) (bs : List (Of Life)) (at : ℕ) (h : Heard) → find l h.bearers < at
    → GoesBy l h.bearers (ticks_over bs at h).bearers []
ticks_past l [] at h lt = rests l h.bearers
ticks_past l (b ∷ bs) at h lt =
    let y = bearer_at h.bearers at in
    let same = find_stays l at h in
    goes_then l h.bearers (ticks_at at h).bearers (ticks_over bs (at + 1) (ticks_at at h)).bearers [] []
    (set_apart l at h.bearers (of y.channel (alive (flow_ticked y.state.flow))) refl (λ there q. omega (arith, lt, q)))
    (ticks_past l bs (at + 1) (ticks_at at h) (omega (arith, lt, same)))

pub ticks_once : (l : ℕ) (bs : List (Of Life)) (at : ℕ) (h : Heard) → at ≤ find l h.bearers
    → find l h.bearers < at + length bs → GoesBy l h.bearers (ticks_over bs at h).bearers (Ticks ∷ [])
ticks_once l [] at h le lt = absurd (omega (arith, le, lt))
ticks_once l (b ∷ bs) at h le lt =
    let y = bearer_at h.bearers at in
    let x : Of Life = of y.channel (alive (flow_ticked y.state.flow)) in
    let same = find_stays l at h in
    elim (cases_eq at (find l h.bearers)) [
      | inl here ↦
          goes_then l h.bearers (ticks_at at h).bearers (ticks_over bs (at + 1) (ticks_at at h)).bearers (Ticks ∷ [])
          [] (set_here l at h.bearers x Ticks refl refl here)
          (ticks_past l bs (at + 1) (ticks_at at h) (omega (arith, here, same)))
      | inr apart ↦
          goes_then l h.bearers (ticks_at at h).bearers (ticks_over bs (at + 1) (ticks_at at h)).bearers []
          (Ticks ∷ []) (set_apart l at h.bearers x refl (λ there q. apart q))
          (ticks_once l bs (at + 1) (ticks_at at h) (omega (arith, le, apart, same)) (omega (arith, lt, same)))
    ]

-- ---- a block is built: the bearer of each channel writes once

write_by : (there : Bool) (l m share : ℕ) (held : Option ℕ) (w : Work) → has m w.bearers ≡ there
    → GoesBy l w.bearers (writes m share held w).bearers (only (m == l) (Takes share held))
write_by true l m share held w e =
    let b = bearer_at w.bearers (find m w.bearers) in
    rw e (on_by (m == l) true l m w.bearers (of b.channel (alive (flow_after b.state.flow share held)))
    (Takes share held) refl e refl refl)
write_by false l m share held w e = rw e (absent_by (m == l) l m w.bearers (Takes share held) refl e)

pub flips : (l m : ℕ) (t : Bool) → (l == m) ≡ t → (m == l) ≡ t
flips l m true e = grind (arith, nat_tests)
flips l m false e = grind (arith, nat_tests)

pub channel_same : (l m : ℕ) → (l == m) ≡ true → m ≡ l
channel_same l m e = grind (arith, nat_tests)

-- the channel is the first one, or among the others
first_by : (t : Bool) (l : ℕ) (s : Sending) (numbers : Numbers) (amounts : List ℕ) (c : Channel) (cs : List Channel)
    (bs ds es : List (Of Life)) → (l == c.lcid) ≡ t → has_channel c.lcid cs ≡ false
    → GoesBy l bs ds (only (c.lcid == l) (Takes (get_or amounts c.lcid 0) (lowest s numbers c.lcid)))
    → GoesBy l ds es (only (has_channel l cs) (Takes (get_or amounts l 0) (lowest s numbers l)))
    → GoesBy l bs es (only (t || has_channel l cs) (Takes (get_or amounts l 0) (lowest s numbers l)))
first_by true l s numbers amounts c cs bs ds es e a first rest =
    let take : BearerCall = Takes (get_or amounts l 0) (lowest s numbers l) in
    let same : c.lcid ≡ l = channel_same l c.lcid e in
    let here : GoesBy l bs ds (take ∷ []) =
    subst (λ (k : ℕ). GoesBy l bs ds (Takes (get_or amounts k 0) (lowest s numbers k) ∷ [])) same
    (subst (λ (b : Bool). GoesBy l bs ds (only b (Takes (get_or amounts c.lcid 0) (lowest s numbers c.lcid))))
    (flips l c.lcid true e) first) in
    let none : has_channel l cs ≡ false = ap (λ (k : ℕ). has_channel k cs) (sym same) ∙ a in
    goes_then l bs ds es (take ∷ []) [] here (subst (λ (b : Bool). GoesBy l ds es (only b take)) none rest)
first_by false l s numbers amounts c cs bs ds es e a first rest =
    let take : BearerCall = Takes (get_or amounts l 0) (lowest s numbers l) in
    let here : GoesBy l bs ds [] =
    subst (λ (b : Bool). GoesBy l bs ds (only b (Takes (get_or amounts c.lcid 0) (lowest s numbers c.lcid))))
    (flips l c.lcid false e) first in
    goes_then l bs ds es [] (only (has_channel l cs) take) here rest

writes_by : (l : ℕ) (s : Sending) (numbers : Numbers) (amounts : List ℕ) (cs : List Channel) (w : Work) → Apart cs
    → GoesBy l w.bearers (all_write s numbers amounts cs w).bearers
    (only (has_channel l cs) (Takes (get_or amounts l 0) (lowest s numbers l)))
writes_by l s numbers amounts [] w a = rests l w.bearers
writes_by l s numbers amounts (c ∷ cs) w a =
    let v = writes c.lcid (get_or amounts c.lcid 0) (lowest s numbers c.lcid) w in
    first_by (l == c.lcid) l s numbers amounts c cs w.bearers v.bearers (all_write s numbers amounts cs v).bearers
    refl a.1
    (write_by (has c.lcid w.bearers) l c.lcid (get_or amounts c.lcid 0) (lowest s numbers c.lcid) w refl)
    (writes_by l s numbers amounts cs v a.2)

pub turn_by : (v : Visit) (t : Turn) (e : End) (l : ℕ) → IsSound e.buckets
    → GoesBy l e.bearers (answered v t (built_by v t.tti t.grant e)).bearers (takes_of v t e l)
unfolding loaded written
turn_by New t e l s =
    writes_by l e.sender e.numbers (shares e t.grant) e.buckets.channels (work e.bearers (nothing_written e.side))
    (sound_apart e.buckets.channels s.channels.within s.channels.distinct)
turn_by (Resend rv) t e l s = rests l e.bearers
turn_by Silent t e l s = rests l e.bearers

visit_by : (t : Turn) (e : End) (l : ℕ) → IsSound e.buckets
    → GoesBy l e.bearers (answered (visit t.tti t.order e) t (built t.tti t.grant t.order e)).bearers
    (takes_of (visit t.tti t.order e) t (visited t.tti t.order e) l)
unfolding built visited
visit_by t e l s = turn_by (visit t.tti t.order e) t (visited t.tti t.order e) l (visited_sound t.tti t.order e s)

-- ---- any call

pub submit_by : (r : Option SubmitRefusal) (l lcid : ℕ) (octets : List ℕ) (e : End)
    → GoesBy l e.bearers (after_submit r lcid octets e).bearers (submits_of r (lcid == l) octets)
unfolding submitted
submit_by None l lcid octets e =
    let b = bearer_of lcid e in
    on_by (lcid == l) (has lcid e.bearers) l lcid e.bearers (of b.channel (alive (flow_submitted b.state.flow octets)))
    (Submits octets) refl refl refl refl
submit_by (Some why) l lcid octets e = rests l e.bearers

pub call_by : (l : ℕ) (e : End) (c : Call) → IsSound e.buckets → GoesOnInLife l c → has l e.bearers ≡ true
    → flow_at l (after e c).bearers ≡ after_all (flow_at l e.bearers) (calls_of l e c)
unfolding with_visits with_bearer begun discarding expired received ticked
call_by l e (SetVisits maximum) s g there = refl
call_by l e (SetReports reports) s g there = refl
call_by l e (Add c keys) s g there = (insert_by l c.channel.lcid (begun c keys e.side) e.bearers g.adds_none).goes there
call_by l e (Submit lcid octets) s g there = (submit_by (refusal lcid octets e) l lcid octets e).goes there
call_by l e (SetDiscard lcid ttis) s g there =
    let b = bearer_of lcid e in
    (on_by (lcid == l) (has lcid e.bearers) l lcid e.bearers
    (of b.channel (record b.state { flow = with_discard b.state.flow ttis })) (SetsDiscard ttis) refl refl refl
    refl).goes there
call_by l e Tick s g there =
    let lt : find l e.bearers < length e.bearers = grind (arith, nat_tests) in
    (ticks_once l e.bearers 0 (heard e.bearers []) (omega arith) (omega (arith, lt))).goes there
call_by l e TickBuckets s g there = refl
call_by l e (Visits t) s g there = (visit_by t e l s).goes there
call_by l e (Grants tti) s g there = refl
call_by l e (Granted tti good) s g there = refl
call_by l e (Assigned tti ndi good) s g there = refl
call_by l e (Pass tti) s g there = refl
call_by l e (Receive block) s g there = (block_by l (reading (heard_by e.side) block) (heard e.bearers [])).goes there
call_by l e (Expire lcid clock) s g there =
    let b = bearer_of lcid e in
    (on_by (lcid == l) (has lcid e.bearers) l lcid e.bearers (of b.channel (alive (flow_expired b.state.flow clock)))
    (Expires clock) refl refl refl refl).goes there
call_by l e (Move keys) s g there = let no : keys ∷ [] ≡ [] = g.moves_none in absurd cc

pub calls_reach_bearers : (side : Side) (maximum : ℕ) (reports : Bool) (past : List Call) (c : Call) (l : ℕ)
    → AreGiven past → IsGiven c → GoesOnInLife l c
    → has l (reached side maximum reports past).bearers ≡ true
    → flow l (after (reached side maximum reports past) c)
    ≡ after_all (flow l (reached side maximum reports past)) (calls_of l (reached side maximum reports past) c)
calls_reach_bearers side maximum reports past c l given g life there =
    call_by l (reached side maximum reports past) c (reached_sound side maximum reports past given) life there

-- ---- what a new block carries

among_more : (l : ℕ) (xs ys : List MacItem) → pdus_among l (xs ++ ys) ≡ pdus_among l xs ++ pdus_among l ys
among_more l [] ys = refl
among_more l (x ∷ xs) ys = ap (λ (ps : List (List ℕ)). pdus_in l x ++ ps) (among_more l xs ys)
    ∙ sym (append_assoc (pdus_in l x) (pdus_among l xs) (pdus_among l ys))

items_more : (xs ys : List Sdu) → map sdu_item (xs ++ ys) ≡ map sdu_item xs ++ map sdu_item ys
items_more [] ys = refl
items_more (x ∷ xs) ys = ap (λ (is : List MacItem). sdu_item x ∷ is) (items_more xs ys)

fronts_none : (l n : ℕ) → pdus_among l (replicate n front) ≡ []
fronts_none l zero = refl
fronts_none l (suc n) = fronts_none l n

paddings_none : (l : ℕ) (ends : List ℕ) → pdus_among l (map padding ends) ≡ []
paddings_none l [] = refl
paddings_none l (n ∷ ends) = paddings_none l ends

report_none : (l : ℕ) (r : Option Bsr) → pdus_among l (reported r) ≡ []
report_none l None = refl
report_none l (Some r) = refl

-- the PDUs of one channel
own_pdus : (l m : ℕ) (ps : List (List ℕ)) → (m == l) ≡ true → pdus_among l (map sdu_item (sdus_of m ps)) ≡ ps
own_pdus l m [] e = refl
own_pdus l m (p ∷ ps) e =
    ap (λ (t : Bool). (if t then p ∷ [] else []) ++ pdus_among l (map sdu_item (sdus_of m ps))) e
    ∙ ap (λ (qs : List (List ℕ)). p ∷ qs) (own_pdus l m ps e)

other_pdus : (l m : ℕ) (ps : List (List ℕ)) → (m == l) ≡ false → pdus_among l (map sdu_item (sdus_of m ps)) ≡ []
other_pdus l m [] e = refl
other_pdus l m (p ∷ ps) e =
    ap (λ (t : Bool). (if t then p ∷ [] else []) ++ pdus_among l (map sdu_item (sdus_of m ps))) e
    ∙ other_pdus l m ps e

none_of : (b : Bool) (l m : ℕ) (ps : List (List ℕ)) → (m == l) ≡ false
    → pdus_among l (map sdu_item (if b then sdus_of m ps else [])) ≡ []
none_of true l m ps e = other_pdus l m ps e
none_of false l m ps e = refl

module _ (e : End) (grant l : ℕ) where
  -- what its bearer writes
  abbrev own_written : List (List ℕ)
  own_written = pdus (flow l e) (share_of e grant l) (held_of e l)

  own_sdus : (c : Channel) → has l e.bearers ≡ true → c.lcid ≡ l
      → pdus_among l (map sdu_item (sdus_by e grant c)) ≡ own_written
  own_sdus c there same =
      let known : has c.lcid e.bearers ≡ true = ap (λ (k : ℕ). has k e.bearers) same ∙ there in
      let test : (c.lcid == l) ≡ true = grind (arith, nat_tests) in
      ap (λ (b : Bool). pdus_among l (map sdu_item (if b then sdus_of c.lcid (pdus_by e grant c) else []))) known
      ∙ own_pdus l c.lcid (pdus_by e grant c) test
      ∙ ap (λ (k : ℕ). pdus (flow k e) (share_of e grant k) (held_of e k)) same

  all_by : (t : Bool) (c : Channel) (cs : List Channel) → (l == c.lcid) ≡ t → has_channel c.lcid cs ≡ false
      → has l e.bearers ≡ true
      → pdus_among l (map sdu_item (all_sdus e grant cs)) ≡ (if has_channel l cs then own_written else [])
      → pdus_among l (map sdu_item (sdus_by e grant c)) ++ pdus_among l (map sdu_item (all_sdus e grant cs))
      ≡ (if t || has_channel l cs then own_written else [])
  all_by true c cs q a there rest =
      let same : c.lcid ≡ l = channel_same l c.lcid q in
      let none : has_channel l cs ≡ false = ap (λ (k : ℕ). has_channel k cs) (sym same) ∙ a in
      ap (λ (ps : List (List ℕ)). ps ++ pdus_among l (map sdu_item (all_sdus e grant cs))) (own_sdus c there same)
      ∙ ap (λ (ps : List (List ℕ)). own_written ++ ps) (rest ∙ ap (λ (b : Bool). if b then own_written else []) none)
      ∙ append-nil own_written
  all_by false c cs q a there rest =
      ap (λ (ps : List (List ℕ)). ps ++ pdus_among l (map sdu_item (all_sdus e grant cs)))
      (none_of (has c.lcid e.bearers) l c.lcid (pdus_by e grant c) (flips l c.lcid false q)) ∙ rest

  all_among : (cs : List Channel) → Apart cs → has l e.bearers ≡ true
      → pdus_among l (map sdu_item (all_sdus e grant cs)) ≡ (if has_channel l cs then own_written else [])
  all_among [] a there = refl
  all_among (c ∷ cs) a there =
      ap (pdus_among l) (items_more (sdus_by e grant c) (all_sdus e grant cs))
      ∙ among_more l (map sdu_item (sdus_by e grant c)) (map sdu_item (all_sdus e grant cs))
      ∙ all_by (l == c.lcid) c cs refl a.1 there (all_among cs a.2 there)

  block_carries : IsSound e.buckets → IsBlockOf e grant → has l e.bearers ≡ true
      → carried l (sent_by e.side) (new_block e grant) ≡ written_by e grant l
  block_carries s b there =
      let cs = e.buckets.channels in
      let sdus = map sdu_item (all_sdus e grant cs) in
      let ends = map padding b.ends in
      ap (pdus_read l) b.read
      ∙ among_more l (replicate b.fronts front) ((reported (report e grant) ++ sdus) ++ ends)
      ∙ ap (λ (ps : List (List ℕ)). ps ++ pdus_among l ((reported (report e grant) ++ sdus) ++ ends))
      (fronts_none l b.fronts)
      ∙ among_more l (reported (report e grant) ++ sdus) ends
      ∙ ap (λ (ps : List (List ℕ)). pdus_among l (reported (report e grant) ++ sdus) ++ ps) (paddings_none l b.ends)
      ∙ append-nil (pdus_among l (reported (report e grant) ++ sdus))
      ∙ among_more l (reported (report e grant)) sdus
      ∙ ap (λ (ps : List (List ℕ)). ps ++ pdus_among l sdus) (report_none l (report e grant))
      ∙ all_among cs (sound_apart cs s.channels.within s.channels.distinct) there

visited_has : (tti : ℕ) (order : Order) (e : End) (l : ℕ) → has l (visited tti order e).bearers ≡ has l e.bearers
unfolding visited
visited_has tti order e l = refl

visited_side : (tti : ℕ) (order : Order) (e : End) → (visited tti order e).side ≡ e.side
unfolding visited
visited_side tti order e = refl

pub blocks_carry_pdus : (side : Side) (maximum : ℕ) (reports : Bool) (past : List Call) → AreGiven past
    → (tti : ℕ) (order : Order) (grant l : ℕ) → 1 ≤ grant → grant ≤ 9422
    → has l (reached side maximum reports past).bearers ≡ true
    → carried l (sent_by side) (new_block (visited tti order (reached side maximum reports past)) grant)
    ≡ written_by (visited tti order (reached side maximum reports past)) grant l
blocks_carry_pdus side maximum reports past given tti order grant l some most there =
    let e = reached side maximum reports past in
    let v = visited tti order e in
    let b = has_what_was_written side maximum reports past given tti order grant some most in
    let is = block_carries v grant l (visiting_sound side maximum reports past tti order given) b
    (visited_has tti order e l ∙ there) in
    ap (λ (x : Side). carried l (sent_by x) (new_block v grant))
    (sym (visited_side tti order e ∙ reached_side side maximum reports past)) ∙ is

-- ---- calls by themselves

pub receive_by : (l : ℕ) (e : End) (block : List ℕ)
    → GoesBy l e.bearers (after e (Receive block)).bearers
    (map (λ pdu. Arrives pdu) (carried l (heard_by e.side) block))
unfolding received
receive_by l e block = block_by l (reading (heard_by e.side) block) (heard e.bearers [])

ticked_has : (l : ℕ) (bs : List (Of Life)) (at : ℕ) (h : Heard) → has l (ticks_over bs at h).bearers ≡ has l h.bearers
ticked_has l [] at h = refl
ticked_has l (b ∷ bs) at h =
    let y = bearer_at h.bearers at in
    ticked_has l bs (at + 1) (ticks_at at h)
    ∙ has_set l h.bearers at (of y.channel (alive (flow_ticked y.state.flow))) refl

pub tick_by : (l : ℕ) (e : End) → GoesBy l e.bearers (after e Tick).bearers (Ticks ∷ [])
unfolding ticked
tick_by l e = record {
  has_is = ticked_has l e.bearers 0 (heard e.bearers []);
  goes = λ there.
      let lt : find l e.bearers < length e.bearers = grind (arith, nat_tests) in
      (ticks_once l e.bearers 0 (heard e.bearers []) (omega arith) (omega (arith, lt))).goes there;
}

-- a call that is no visit and brings no block
pub plain_by : (l : ℕ) (e : End) (c : Call) → GoesOnInLife l c → ((t : Turn) → c ≡ Visits t → ⊥)
    → ((block : List ℕ) → c ≡ Receive block → ⊥) → GoesBy l e.bearers (after e c).bearers (calls_of l e c)
unfolding with_visits with_bearer begun discarding expired
plain_by l e (SetVisits maximum) g v r = rests l e.bearers
plain_by l e (SetReports reports) g v r = rests l e.bearers
plain_by l e (Add c keys) g v r = insert_by l c.channel.lcid (begun c keys e.side) e.bearers g.adds_none
plain_by l e (Submit lcid octets) g v r = submit_by (refusal lcid octets e) l lcid octets e
plain_by l e (SetDiscard lcid ttis) g v r =
    let b = bearer_of lcid e in
    on_by (lcid == l) (has lcid e.bearers) l lcid e.bearers
    (of b.channel (record b.state { flow = with_discard b.state.flow ttis })) (SetsDiscard ttis) refl refl refl refl
plain_by l e Tick g v r = tick_by l e
plain_by l e TickBuckets g v r = rests l e.bearers
plain_by l e (Visits t) g v r = absurd (v t refl)
plain_by l e (Grants tti) g v r = rests l e.bearers
plain_by l e (Granted tti good) g v r = rests l e.bearers
plain_by l e (Assigned tti ndi good) g v r = rests l e.bearers
plain_by l e (Pass tti) g v r = rests l e.bearers
plain_by l e (Receive block) g v r = absurd (r block refl)
plain_by l e (Expire lcid clock) g v r =
    let b = bearer_of lcid e in
    on_by (lcid == l) (has lcid e.bearers) l lcid e.bearers (of b.channel (alive (flow_expired b.state.flow clock)))
    (Expires clock) refl refl refl refl
plain_by l e (Move keys) g v r = let no : keys ∷ [] ≡ [] = g.moves_none in absurd cc
