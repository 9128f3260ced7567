-- A channel has one bearer at most, where one is added only to a channel that has none.
use Rattle.std.proofs.Common.{◌≡◌, ◌≤◌, ℕ, zero, suc, ◌+◌, ◌==◌, if◌then◌else◌, Bool, true, false, Option, Some, None}
use Rattle.std.proofs.Common.{Result, Ok, Err, List, [], ◌∷◌, get_or, insert, set, refl, ap, sym, ◌∙◌, arith}
use Rattle.std.proofs.lemmas.Bool.Decides.{nat_tests}
use Rattle.bearer.specs.Bearer.{Of, of, Life, alive, begun}
use Rattle.bearer.specs.Hearing.{arrived as flow_arrived, expired as flow_expired, ticked as flow_ticked, with_discard}
use Rattle.bearer.specs.Submitting.{submitted as flow_submitted}
use Rattle.bearer.specs.Taking.{after as flow_after}
use Rattle.eps_sec.specs.declared.Keys.{Keys}
use Rattle.harq.specs.declared.sender.Visit.{Visit}
use Rattle.harq.specs.declared.sender.Visit.TheVariants.{New, Resend, Silent}
use Rattle.harq.specs.Sending.{Sending}
use Rattle.l2_bits.specs.declared.fault.SubmitRefusal.{SubmitRefusal}
use Rattle.l2_node.specs.Building.{visited, loaded, built_by, built, visit}
use Rattle.l2_node.specs.End.{End, fresh, with_bearer, with_visits}
use Rattle.bearer_types.specs.Sides.{heard_by}
use Rattle.l2_node.specs.Finding.{Numbers, find, has, place, bearer_at, lowest}
use Rattle.l2_node.specs.Hearing.{Heard, heard, hears_sdu, hears, hears_all, heard_items, received, ticks_at}
use Rattle.l2_node.specs.Hearing.{ticks_over, ticked, expired, bearer_of}
use Rattle.l2_node.specs.Moving.{all_stopped, all_restarted}
use Rattle.l2_node.specs.Submitting.{refusal, submitted, discarding}
use Rattle.l2_node.specs.Writing.{shares, Work, work, nothing_written, writes, all_write, written}
use Rattle.l2_types.specs.declared.channel.Channel.{Channel}
use Rattle.l2_types.specs.declared.side.Side.{Side}
use Rattle.mac_pdu.specs.declared.fault.MacRefusal.{MacRefusal}
use Rattle.mac_pdu.specs.Items.{MacItem, front, element, sdu, padding}
use Rattle.mac_pdu.specs.Reading.{reading}
use Rattle.law_node.specs.Calls.{Turn, Call, SetVisits, SetReports, Add, Submit, SetDiscard, Tick, TickBuckets, Visits}
use Rattle.law_node.specs.Calls.{Grants, Granted, Assigned, Pass, Receive, Expire, Move, answered, after_submit, after}
use Rattle.law_node.specs.Calls.{run_end, reached}
use Rattle.law_deliver.specs.AmFlow.Ups.{IsNew, AreNew}
use Rattle.law_deliver.proofs.AmFlow.Lives.{moved_bearers}

-- how many bearers a channel has
abbrev pub many_of : ℕ → List (Of Life) → ℕ
many_of l [] = 0
many_of l (b ∷ bs) = (if b.channel.lcid == l then 1 else 0) + many_of l bs

-- ---- bearers that change in their places

set_many : (l : ℕ) (bs : List (Of Life)) (at : ℕ) (x : Of Life) → (bearer_at bs at).channel.lcid ≡ x.channel.lcid
    → many_of l (set bs at x) ≡ many_of l bs
set_many l [] at x e = refl
set_many l (b ∷ bs) zero x e = ap (λ (n : ℕ). (if n == l then 1 else 0) + many_of l bs) (sym e)
set_many l (b ∷ bs) (suc at) x e = ap (λ (n : ℕ). (if b.channel.lcid == l then 1 else 0) + n) (set_many l bs at x e)

sdu_many : (there : Bool) (l m : ℕ) (pdu : List ℕ) (h : Heard) → has m h.bearers ≡ there
    → many_of l (hears_sdu m pdu h).bearers ≡ many_of l h.bearers
sdu_many true l m pdu h e =
    let b = bearer_at h.bearers (find m h.bearers) in
    rw e (set_many l h.bearers (find m h.bearers) (of b.channel (alive (flow_arrived b.state.flow pdu))) refl)
sdu_many false l m pdu h e = rw e refl

item_many : (l : ℕ) (i : MacItem) (h : Heard) → many_of l (hears i h).bearers ≡ many_of l h.bearers
item_many l front h = refl
item_many l (element c) h = refl
item_many l (sdu lcid octets) h = sdu_many (has lcid h.bearers) l lcid octets h refl
item_many l (padding n) h = refl

items_many : (l : ℕ) (is : List MacItem) (h : Heard) → many_of l (hears_all is h).bearers ≡ many_of l h.bearers
items_many l [] h = refl
items_many l (i ∷ is) h = items_many l is (hears i h) ∙ item_many l i h

block_many : (l : ℕ) (r : Result (List MacItem) MacRefusal) (h : Heard)
    → many_of l (heard_items r h).bearers ≡ many_of l h.bearers
block_many l (Ok items) h = items_many l items h
block_many l (Err refusal) h = refl

ticks_many : (l : ℕ) (bs : List (Of Life)) (at : ℕ) (h : Heard)
    → many_of l (ticks_over bs at h).bearers ≡ many_of l h.bearers
ticks_many l [] at h = refl
ticks_many l (b ∷ bs) at h =
    let y = bearer_at h.bearers at in
    ticks_many l bs (at + 1) (ticks_at at h)
    ∙ set_many l h.bearers at (of y.channel (alive (flow_ticked y.state.flow))) refl

write_many : (there : Bool) (l m share : ℕ) (held : Option ℕ) (w : Work) → has m w.bearers ≡ there
    → many_of l (writes m share held w).bearers ≡ many_of l w.bearers
write_many true l m share held w e =
    let b = bearer_at w.bearers (find m w.bearers) in
    rw e (set_many l w.bearers (find m w.bearers) (of b.channel (alive (flow_after b.state.flow share held))) refl)
write_many false l m share held w e = rw e refl

writes_many : (l : ℕ) (s : Sending) (numbers : Numbers) (amounts : List ℕ) (cs : List Channel) (w : Work)
    → many_of l (all_write s numbers amounts cs w).bearers ≡ many_of l w.bearers
writes_many l s numbers amounts [] w = refl
writes_many l s numbers amounts (c ∷ cs) w =
    let share = get_or amounts c.lcid 0 in
    let held = lowest s numbers c.lcid in
    writes_many l s numbers amounts cs (writes c.lcid share held w)
    ∙ write_many (has c.lcid w.bearers) l c.lcid share held w refl

turn_many : (v : Visit) (t : Turn) (e : End) (l : ℕ)
    → many_of l (answered v t (built_by v t.tti t.grant e)).bearers ≡ many_of l e.bearers
unfolding loaded written
turn_many New t e l =
    writes_many l e.sender e.numbers (shares e t.grant) e.buckets.channels (work e.bearers (nothing_written e.side))
turn_many (Resend rv) t e l = refl
turn_many Silent t e l = refl

visit_many : (t : Turn) (e : End) (l : ℕ)
    → many_of l (answered (visit t.tti t.order e) t (built t.tti t.grant t.order e)).bearers ≡ many_of l e.bearers
unfolding built visited
visit_many t e l = turn_many (visit t.tti t.order e) t (visited t.tti t.order e) l

submit_many : (r : Option SubmitRefusal) (l lcid : ℕ) (octets : List ℕ) (e : End)
    → many_of l (after_submit r lcid octets e).bearers ≡ many_of l e.bearers
unfolding submitted
submit_many None l lcid octets e =
    let b = bearer_of lcid e in
    set_many l e.bearers (find lcid e.bearers) (of b.channel (alive (flow_submitted b.state.flow octets))) refl
submit_many (Some why) l lcid octets e = refl

moved_many : (l : ℕ) (bs : List (Of Life)) (keys : Keys)
    → many_of l (all_restarted (all_stopped bs) keys) ≡ many_of l bs
moved_many l [] keys = refl
moved_many l (b ∷ bs) keys = ap (λ (n : ℕ). (if b.channel.lcid == l then 1 else 0) + n) (moved_many l bs keys)

-- ---- a bearer more

insert_many : (l : ℕ) (bs : List (Of Life)) (at : ℕ) (x : Of Life)
    → many_of l (insert bs at x) ≡ (if x.channel.lcid == l then 1 else 0) + many_of l bs
insert_many l bs zero x = refl
insert_many l [] (suc at) x = refl
insert_many l (b ∷ bs) (suc at) x =
    let more = insert_many l bs at x in
    omega (arith, more)

first_none : (t : Bool) (l : ℕ) (b : Of Life) (bs : List (Of Life)) → (b.channel.lcid == l) ≡ t → has l (b ∷ bs) ≡ false
    → (has l bs ≡ false → many_of l bs ≡ 0) → many_of l (b ∷ bs) ≡ 0
first_none true l b bs e none rest = absurd (grind (arith, nat_tests))
first_none false l b bs e none rest = let none_more = rest (grind (arith, nat_tests)) in rw e (omega (arith, none_more))

none_of : (l : ℕ) (bs : List (Of Life)) → has l bs ≡ false → many_of l bs ≡ 0
none_of l [] none = refl
none_of l (b ∷ bs) none = first_none (b.channel.lcid == l) l b bs refl none (none_of l bs)

one_at_most : (t : Bool) (l : ℕ) (bs : List (Of Life)) → (t ≡ true → has l bs ≡ false) → many_of l bs ≤ 1
    → (if t then 1 else 0) + many_of l bs ≤ 1
one_at_most true l bs new one = let none = none_of l bs (new refl) in omega (arith, none)
one_at_most false l bs new one = omega (arith, one)

-- ---- any calls

same_most : (n m : ℕ) → n ≡ m → m ≤ 1 → n ≤ 1
same_most n m e one = omega (arith, e, one)

abbrev pub IsAlone : ℕ → List (Of Life) → Type 0
IsAlone l bs = many_of l bs ≤ 1

pub call_alone : (l : ℕ) (e : End) (c : Call) → IsNew l e c → IsAlone l e.bearers → IsAlone l (after e c).bearers
unfolding with_visits with_bearer begun discarding expired received ticked
call_alone l e (SetVisits maximum) new one = one
call_alone l e (SetReports reports) new one = one
call_alone l e (Add c keys) new one =
    let at = place c.channel.lcid e.bearers in
    let x = begun c keys e.side in
    same_most (many_of l (insert e.bearers at x)) ((if c.channel.lcid == l then 1 else 0) + many_of l e.bearers)
    (insert_many l e.bearers at x) (one_at_most (c.channel.lcid == l) l e.bearers new one)
call_alone l e (Submit lcid octets) new one =
    same_most (many_of l (after e (Submit lcid octets)).bearers) (many_of l e.bearers)
    (submit_many (refusal lcid octets e) l lcid octets e) one
call_alone l e (SetDiscard lcid ttis) new one =
    let b = bearer_of lcid e in
    let x : Of Life = of b.channel (record b.state { flow = with_discard b.state.flow ttis }) in
    same_most (many_of l (set e.bearers (find lcid e.bearers) x)) (many_of l e.bearers)
    (set_many l e.bearers (find lcid e.bearers) x refl) one
call_alone l e Tick new one =
    same_most (many_of l (after e Tick).bearers) (many_of l e.bearers) (ticks_many l e.bearers 0 (heard e.bearers []))
    one
call_alone l e TickBuckets new one = one
call_alone l e (Visits t) new one =
    same_most (many_of l (after e (Visits t)).bearers) (many_of l e.bearers) (visit_many t e l) one
call_alone l e (Grants tti) new one = one
call_alone l e (Granted tti good) new one = one
call_alone l e (Assigned tti ndi good) new one = one
call_alone l e (Pass tti) new one = one
call_alone l e (Receive block) new one =
    same_most (many_of l (after e (Receive block)).bearers) (many_of l e.bearers)
    (block_many l (reading (heard_by e.side) block) (heard e.bearers [])) one
call_alone l e (Expire lcid clock) new one =
    let b = bearer_of lcid e in
    let x : Of Life = of b.channel (alive (flow_expired b.state.flow clock)) in
    same_most (many_of l (set e.bearers (find lcid e.bearers) x)) (many_of l e.bearers)
    (set_many l e.bearers (find lcid e.bearers) x refl) one
call_alone l e (Move keys) new one =
    same_most (many_of l (after e (Move keys)).bearers) (many_of l e.bearers)
    (ap (many_of l) (moved_bearers e keys) ∙ moved_many l e.bearers keys) one

run_alone : (l : ℕ) (cs : List Call) (e : End) → AreNew l cs e → IsAlone l e.bearers → IsAlone l (run_end cs e).bearers
run_alone l [] e new one = one
run_alone l (c ∷ cs) e new one = run_alone l cs (after e c) new.1 (call_alone l e c new.0 one)

pub reached_alone : (side : Side) (maximum : ℕ) (reports : Bool) (past : List Call) (l : ℕ)
    → AreNew l past (fresh side maximum reports) → IsAlone l (reached side maximum reports past).bearers
unfolding fresh
reached_alone side maximum reports past l new = run_alone l past (fresh side maximum reports) new (omega arith)
