-- Each block that a process of an end holds can be read, and each SDU in it is of a channel of the end.
use Rattle.std.proofs.Common.{◌≡◌, inl, inr, ◌≤◌, ℕ, zero, suc, ◌%◌, ◌==◌, nat_lt, Bool, true, false, ◌||◌}
use Rattle.std.proofs.Common.{if◌then◌else◌, Option, Some, None, IfSome, Result, Ok, Err, List, [], ◌∷◌, ◌++◌, map}
use Rattle.std.proofs.Common.{length, replicate, option_map, refl, ap, sym, subst, ◌∙◌}
use Rattle.std.specs.Prelude.{unwrap_or}
use Rattle.std.specs.List.{AllByRecursion, list_any}
use Rattle.std.proofs.lemmas.Bool.{cases_eq, or_right}
use Rattle.air_link.specs.Downlink.{block_at as octets_at}
use Rattle.bearer_types.specs.Sides.{sent_by}
use Rattle.harq.specs.declared.sender.Order.{Order}
use Rattle.harq.specs.declared.sender.Visit.{Visit}
use Rattle.harq.specs.declared.sender.Visit.TheVariants.{New, Resend, Silent}
use Rattle.harq.specs.Sending.{Sending, Block as HeldBlock, fresh as fresh_sender, resent, process_at, visit_answer}
use Rattle.harq.specs.Sending.{after_visit, held_of}
use Rattle.harq.specs.SendHistory.{Turn as Turned, closed, turned}
use Rattle.l2_node.specs.Building.{IsEnough, visit, visited, built, built_by, loaded}
use Rattle.l2_node.specs.End.{End, fresh, with_bearer, reset, with_visits}
use Rattle.l2_node.specs.Finding.{has}
use Rattle.l2_node.specs.Hearing.{expired}
use Rattle.l2_node.specs.Moving.{left_cell, joined}
use Rattle.l2_node.specs.Submitting.{submitted, discarding}
use Rattle.l2_node.specs.Writing.{sdus_of, new_block}
use Rattle.l2_types.specs.declared.channel.Channel.{Channel}
use Rattle.l2_types.specs.declared.side.Side.{Side}
use Rattle.mac_pdu.specs.declared.builder.Sdu.{Sdu}
use Rattle.mac_pdu.specs.declared.fault.MacRefusal.{MacRefusal}
use Rattle.mac_pdu.specs.declared.item.Bsr.{Bsr}
use Rattle.mac_pdu.specs.Items.{MacItem, front, element, sdu, padding, sdu_item}
use Rattle.mac_pdu.specs.Reading.{reading}
use Rattle.law_node.specs.Blocks.{pdus_by, sdus_by, all_sdus, report}
use Rattle.law_node.specs.Calls.{Turn, Call, SetVisits, SetReports, Add, Submit, SetDiscard, Tick, TickBuckets, Visits}
use Rattle.law_node.specs.Calls.{Grants, Granted, Assigned, Pass, Receive, Expire, Move, IsGiven, AreGiven, answered}
use Rattle.law_node.specs.Calls.{after, run_end, reached}
use Rattle.law_node.proofs.Blocks.{has_what_was_written}
use Rattle.law_node.proofs.Holders.{fresh_none}
use Rattle.law_run.specs.AnyCalls.Ends.{begins_life}
use Rattle.law_run.specs.AnyCalls.Order.{channels_of}
use Rattle.law_run.specs.AnyCalls.Zero.{HasCome}
use Rattle.law_run.specs.TwoEnds.On.{block_at}
use Rattle.law_run.proofs.AnyCalls.Blocks.{visited_whole, reached_whole, some_by, block_is}
use Rattle.law_run.proofs.AnyCalls.Channels.{added_channels, same_channels}
use Rattle.law_run.proofs.AnyCalls.Going.{run_on, given_on}
use Rattle.law_run.proofs.AnyCalls.Orders.{IsReady, known_is}
use Rattle.law_run.proofs.TwoEnds.Processes.{IsFirst, IsNext, Turns, resent_held, turned_turns, visit_at}
use Rattle.promises.specs.Built.{reported}
use Rattle.promises.specs.Order.{Channels, with_lcid, with_channel, IsFor, CanBeRead}

abbrev pub CanRead : Side → Channels → List ℕ → Type 0
CanRead side c octets = CanBeRead c (reading (sent_by side) octets)

abbrev IsThere : Channels → ℕ → Type 0
IsThere c lcid = list_any (λ n. n == lcid) c.by_lcid ≡ true

-- ---- more channels

more_by : (b : Bool) (lcid n x : ℕ) (ns : List ℕ) → nat_lt x n ≡ b
    → list_any (λ m. m == lcid) (x ∷ ns) ≡ true
    → (list_any (λ m. m == lcid) ns ≡ true → list_any (λ m. m == lcid) (with_lcid n ns) ≡ true)
    → list_any (λ m. m == lcid) (with_lcid n (x ∷ ns)) ≡ true
more_by true lcid n x ns e there rest = rw e (either (x == lcid) refl)
  where
    either : (t : Bool) → (x == lcid) ≡ t → ((x == lcid) || list_any (λ m. m == lcid) (with_lcid n ns)) ≡ true
    either true q = ap (λ (b : Bool). b || list_any (λ m. m == lcid) (with_lcid n ns)) q
    either false q =
        or_right (x == lcid) (list_any (λ m. m == lcid) (with_lcid n ns))
        (rest (sym (ap (λ (b : Bool). b || list_any (λ m. m == lcid) ns) q) ∙ there))
more_by false lcid n x ns e there rest =
    rw e (or_right (n == lcid) (list_any (λ m. m == lcid) (x ∷ ns)) there)

more_lcids : (lcid n : ℕ) (ns : List ℕ) → list_any (λ m. m == lcid) ns ≡ true
    → list_any (λ m. m == lcid) (with_lcid n ns) ≡ true
more_lcids lcid n [] there = absurd cc
more_lcids lcid n (x ∷ ns) there = more_by (nat_lt x n) lcid n x ns refl there (more_lcids lcid n ns)

more_item : (d : Channel) (c : Channels) (i : MacItem) → IsFor c i → IsFor (with_channel d c) i
more_item d c front h = h
more_item d c (element control) h = h
more_item d c (padding n) h = h
more_item d c (sdu lcid octets) h = more_lcids lcid d.lcid c.by_lcid h

more_items : (d : Channel) (c : Channels) (is : List MacItem) → AllByRecursion (IsFor c) is
    → AllByRecursion (IsFor (with_channel d c)) is
more_items d c [] h = tt
more_items d c (i ∷ is) h = (more_item d c i h.0, more_items d c is h.1)

more_channels : (d : Channel) (c : Channels) (r : Result (List MacItem) MacRefusal) → CanBeRead c r
    → CanBeRead (with_channel d c) r
more_channels d c (Ok items) h = more_items d c items h
more_channels d c (Err refusal) h = h

-- ---- what a new block has

for_both : (c : Channels) (xs ys : List MacItem) → AllByRecursion (IsFor c) xs → AllByRecursion (IsFor c) ys
    → AllByRecursion (IsFor c) (xs ++ ys)
for_both c [] ys p q = q
for_both c (x ∷ xs) ys p q = (p.0, for_both c xs ys p.1 q)

for_fronts : (c : Channels) (n : ℕ) → AllByRecursion (IsFor c) (replicate n front)
for_fronts c zero = tt
for_fronts c (suc n) = (tt, for_fronts c n)

for_ends : (c : Channels) (ns : List ℕ) → AllByRecursion (IsFor c) (map padding ns)
for_ends c [] = tt
for_ends c (n ∷ ns) = (tt, for_ends c ns)

for_report : (c : Channels) (r : Option Bsr) → AllByRecursion (IsFor c) (reported r)
for_report c None = tt
for_report c (Some r) = (tt, tt)

for_sdus : (c : Channels) (ss : List Sdu) → AllByRecursion (λ s. IsThere c s.lcid) ss
    → AllByRecursion (IsFor c) (map sdu_item ss)
for_sdus c [] h = tt
for_sdus c (s ∷ ss) h = (h.0, for_sdus c ss h.1)

there_both : (c : Channels) (xs ys : List Sdu) → AllByRecursion (λ s. IsThere c s.lcid) xs
    → AllByRecursion (λ s. IsThere c s.lcid) ys
    → AllByRecursion (λ s. IsThere c s.lcid) (xs ++ ys)
there_both c [] ys p q = q
there_both c (x ∷ xs) ys p q = (p.0, there_both c xs ys p.1 q)

of_one : (c : Channels) (lcid : ℕ) (ps : List (List ℕ)) → IsThere c lcid
    → AllByRecursion (λ s. IsThere c s.lcid) (sdus_of lcid ps)
of_one c lcid [] h = tt
of_one c lcid (p ∷ ps) h = (h, of_one c lcid ps h)

one_by : (b : Bool) (c : Channels) (lcid : ℕ) (ps : List (List ℕ)) → (b ≡ true → IsThere c lcid)
    → AllByRecursion (λ s. IsThere c s.lcid) (if b then sdus_of lcid ps else [])
one_by true c lcid ps h = of_one c lcid ps (h refl)
one_by false c lcid ps h = tt

all_there : (e : End) (grant : ℕ) (cs : List Channel)
    → AllByRecursion (λ s. IsThere (channels_of e) s.lcid) (all_sdus e grant cs)
all_there e grant [] = tt
all_there e grant (d ∷ cs) =
    there_both (channels_of e) (sdus_by e grant d) (all_sdus e grant cs)
    (one_by (has d.lcid e.bearers) (channels_of e) d.lcid (pdus_by e grant d)
    (λ h. sym (known_is d.lcid e.bearers) ∙ h)) (all_there e grant cs)

visited_channels : (t : ℕ) (order : Order) (e : End) → channels_of (visited t order e) ≡ channels_of e
unfolding visited
visited_channels t order e = refl

pub new_reads : (side : Side) (maximum : ℕ) (reports : Bool) (calls : List Call) → AreGiven calls → (t : ℕ)
    (order : Order) (grant : ℕ) → 1 ≤ grant → grant ≤ 9422
    → CanRead side (channels_of (reached side maximum reports calls))
    (new_block (visited t order (reached side maximum reports calls)) grant)
new_reads side maximum reports calls g t order grant some most =
    let e = reached side maximum reports calls in
    let v = visited t order e in
    let b = has_what_was_written side maximum reports calls g t order grant some most in
    let s : v.side ≡ side = (visited_whole side t order e (reached_whole side maximum reports calls)).side_is in
    let c = channels_of v in
    let ss = all_sdus v grant v.buckets.channels in
    let items = replicate b.fronts front ++ ((reported (report v grant) ++ map sdu_item ss) ++ map padding b.ends) in
    let read : reading (sent_by side) (new_block v grant) ≡ Ok items =
    ap (λ (x : Side). reading (sent_by x) (new_block v grant)) (sym s) ∙ b.read in
    let fits : AllByRecursion (IsFor c) items =
    for_both c (replicate b.fronts front) ((reported (report v grant) ++ map sdu_item ss) ++ map padding b.ends)
    (for_fronts c b.fronts)
    (for_both c (reported (report v grant) ++ map sdu_item ss) (map padding b.ends)
    (for_both c (reported (report v grant)) (map sdu_item ss) (for_report c (report v grant))
    (for_sdus c ss (all_there v grant v.buckets.channels)))
    (for_ends c b.ends)) in
    subst (λ (x : Channels). CanRead side x (new_block v grant)) (visited_channels t order e)
    (subst (CanBeRead c) (sym read) fits)

-- ---- what the processes hold

abbrev pub HoldReadable : Side → End → Type 0
HoldReadable side e = (p : ℕ) (b : HeldBlock) → block_at e.sender p ≡ Some b → CanRead side (channels_of e) b.octets

-- the same processes, and the same channels or more
holds_same : (side : Side) (e f : End) → f.sender ≡ e.sender → channels_of f ≡ channels_of e → HoldReadable side e
    → HoldReadable side f
holds_same side e f s c h p b is =
    subst (λ (x : Channels). CanRead side x b.octets) (sym c)
    (h p b (ap (λ (x : Sending). block_at x p) (sym s) ∙ is))

holds_more : (side : Side) (d : Channel) (e f : End) → f.sender ≡ e.sender
    → channels_of f ≡ with_channel d (channels_of e) → HoldReadable side e → HoldReadable side f
holds_more side d e f s c h p b is =
    subst (λ (x : Channels). CanRead side x b.octets) (sym c)
    (more_channels d (channels_of e) (reading (sent_by side) b.octets)
    (h p b (ap (λ (x : Sending). block_at x p) (sym s) ∙ is)))

none_held : (o : Option HeldBlock) (b : HeldBlock) → option_map (λ (x : HeldBlock). x.octets) o ≡ None → o ≡ Some b → ⊥
none_held None b none is = cc
none_held (Some x) b none is = cc

fresh_holds : (side : Side) (maximum : ℕ) (f : End) → f.sender ≡ fresh_sender maximum → HoldReadable side f
unfolding held_of
fresh_holds side maximum f s p b is =
    absurd (none_held (block_at (fresh_sender maximum) p) b (fresh_none maximum p)
    (ap (λ (x : Sending). block_at x p) (sym s) ∙ is))

-- a visit
abbrev as_turned : Turn → List ℕ → Turned
as_turned t octets = record { tti = t.tti; order = t.order; octets = octets; good = t.good }

closed_by : (v : Visit) (t : Turn) (e : End)
    → (answered v t (built_by v t.tti t.grant e)).sender ≡ closed v (as_turned t (new_block e t.grant)) e.sender
unfolding loaded
closed_by New t e = refl
closed_by (Resend rv) t e = refl
closed_by Silent t e = refl

visits_turned : (e : End) (t : Turn)
    → (after e (Visits t)).sender ≡ turned (as_turned t (new_block (visited t.tti t.order e) t.grant)) e.sender
unfolding built visited
visits_turned e t = closed_by (visit t.tti t.order e) t (visited t.tti t.order e)

first_reads : (side : Side) (c : Channels) (octets : List ℕ) (maximum : ℕ) (o : Option HeldBlock) (b : HeldBlock)
    → o ≡ Some b → IfSome o (IsFirst octets maximum) → CanRead side c octets → CanRead side c b.octets
first_reads side c octets maximum None b is h reads = absurd cc
first_reads side c octets maximum (Some x) b is h reads =
    let same : x ≡ b = cc in
    subst (CanRead side c) (sym h.octets_are ∙ ap (λ (y : HeldBlock). y.octets) same) reads

next_reads : (side : Side) (c : Channels) (before o : Option HeldBlock) (b : HeldBlock) → o ≡ Some b
    → IfSome o (IsNext before) → ((was : HeldBlock) → before ≡ Some was → CanRead side c was.octets)
    → CanRead side c b.octets
next_reads side c before None b is h reads = absurd cc
next_reads side c before (Some x) b is h reads =
    let same : x ≡ b = cc in
    subst (CanRead side c) (sym h.octets_are ∙ ap (λ (y : HeldBlock). y.octets) same) (reads h.was h.before_is)

-- by what the process answers
turn_by : (v : Visit) (side : Side) (c : Channels) (t : Turned) (s : Sending) → visit_answer s t.tti t.order ≡ v
    → Turns t s (turned t s) → ((p : ℕ) (b : HeldBlock) → block_at s p ≡ Some b → CanRead side c b.octets)
    → (visit_answer s t.tti t.order ≡ New → CanRead side c t.octets) → (b : HeldBlock)
    → block_at (turned t s) (t.tti % 8) ≡ Some b → CanRead side c b.octets
turn_by New side c t s e x h new b is =
    first_reads side c t.octets s.maximum (block_at (turned t s) (t.tti % 8)) b is (x.new e) (new e)
turn_by (Resend rv) side c t s e x h new b is =
    next_reads side c (block_at s (t.tti % 8)) (block_at (turned t s) (t.tti % 8)) b is
    (x.old (λ n. let no : Resend rv ≡ New = sym e ∙ n in absurd cc)) (h (t.tti % 8))
turn_by Silent side c t s e x h new b is =
    next_reads side c (block_at s (t.tti % 8)) (block_at (turned t s) (t.tti % 8)) b is
    (x.old (λ n. let no : Silent ≡ New = sym e ∙ n in absurd cc)) (h (t.tti % 8))

turn_reads : (side : Side) (c : Channels) (t : Turned) (s : Sending) → length s.processes ≡ 8
    → ((p : ℕ) (b : HeldBlock) → block_at s p ≡ Some b → CanRead side c b.octets)
    → (visit_answer s t.tti t.order ≡ New → CanRead side c t.octets) → (p : ℕ) (b : HeldBlock)
    → block_at (turned t s) p ≡ Some b → CanRead side c b.octets
turn_reads side c t s eight h new p b is =
    let x = turned_turns t s eight in
    elim (cases_eq p (t.tti % 8)) [
      | inl same ↦
          turn_by (visit_answer s t.tti t.order) side c t s refl x h new b
          (subst (λ (q : ℕ). block_at (turned t s) q ≡ Some b) same is)
      | inr apart ↦ h p b (sym (x.others p apart) ∙ is)
    ]

module _ (side : Side) (maximum : ℕ) (reports : Bool) (past : List Call) (given : AreGiven past) where
  abbrev here : End
  here = reached side maximum reports past

  visit_holds : (t : Turn) → IsGiven (Visits t) → HoldReadable side here → HoldReadable side (after here (Visits t))
  visit_holds t g h p b is =
      let octets = new_block (visited t.tti t.order here) t.grant in
      subst (λ (x : Channels). CanRead side x b.octets) (sym (same_channels here (Visits t) refl))
      (turn_reads side (channels_of here) (as_turned t octets) here.sender
      (reached_whole side maximum reports past).eight h
      (λ new. new_reads side maximum reports past given t.tti t.order t.grant
      (some_by t.tti t.grant t.order here g.1 new) g.0) p b
      (ap (λ (x : Sending). block_at x p) (sym (visits_turned here t)) ∙ is))

  call_same : (c : Call) → (after here c).sender ≡ here.sender → begins_life c ≡ false → HoldReadable side here
      → HoldReadable side (after here c)
  call_same c sender stays h = holds_same side here (after here c) sender (same_channels here c stays) h

  call_holds : (c : Call) → IsGiven c → HoldReadable side here → HoldReadable side (after here c)
  unfolding with_visits with_bearer submitted discarding expired left_cell joined reset
  call_holds (SetVisits n) g h = fresh_holds side n (after here (SetVisits n)) refl
  call_holds (SetReports b) g h = call_same (SetReports b) refl refl h
  call_holds (Add config keys) g h =
      holds_more side config.channel here (after here (Add config keys)) refl (added_channels here config keys) h
  call_holds (Submit lcid octets) g h = call_same (Submit lcid octets) refl refl h
  call_holds (SetDiscard lcid ttis) g h = call_same (SetDiscard lcid ttis) refl refl h
  call_holds Tick g h = call_same Tick refl refl h
  call_holds TickBuckets g h = call_same TickBuckets refl refl h
  call_holds (Visits t) g h = visit_holds t g h
  call_holds (Grants tti) g h = call_same (Grants tti) refl refl h
  call_holds (Granted tti good) g h = call_same (Granted tti good) refl refl h
  call_holds (Assigned tti ndi good) g h = call_same (Assigned tti ndi good) refl refl h
  call_holds (Pass tti) g h = call_same (Pass tti) refl refl h
  call_holds (Receive block) g h = call_same (Receive block) refl refl h
  call_holds (Expire lcid clock) g h = call_same (Expire lcid clock) refl refl h
  call_holds (Move keys) g h = fresh_holds side here.sender.maximum (after here (Move keys)) refl

one_more : (side : Side) (maximum : ℕ) (reports : Bool) (past : List Call) (c : Call)
    → after (reached side maximum reports past) c ≡ reached side maximum reports (past ++ c ∷ [])
one_more side maximum reports past c = sym (run_on past (c ∷ []) (fresh side maximum reports))

all_hold : (side : Side) (maximum : ℕ) (reports : Bool) (past cs : List Call) → AreGiven past → AreGiven cs
    → HoldReadable side (reached side maximum reports past)
    → HoldReadable side (run_end cs (reached side maximum reports past))
all_hold side maximum reports past [] given g h = h
all_hold side maximum reports past (c ∷ cs) given g h =
    let e = reached side maximum reports past in
    let is = one_more side maximum reports past c in
    subst (λ (x : End). HoldReadable side (run_end cs x)) (sym is)
    (all_hold side maximum reports (past ++ c ∷ []) cs (given_on past (c ∷ []) given (g.0, tt)) g.1
    (subst (HoldReadable side) is (call_holds side maximum reports past given c g.0 h)))

first_holds : (side : Side) (maximum : ℕ) (reports : Bool) → HoldReadable side (reached side maximum reports [])
unfolding fresh
first_holds side maximum reports = fresh_holds side maximum (fresh side maximum reports) refl

pub come_holds : (side : Side) (e : End) → HasCome side e → HoldReadable side e
come_holds side e h =
    subst (HoldReadable side) (sym h.end_is)
    (all_hold side h.maximum h.reports [] h.calls tt h.given (first_holds side h.maximum h.reports))

-- ---- what an end sends in a visit

held_by : (o : Option HeldBlock) (b : HeldBlock) → o ≡ Some b
    → unwrap_or (option_map (λ (x : HeldBlock). x.octets) o) [] ≡ b.octets
held_by o b e = ap (λ (x : Option HeldBlock). unwrap_or (option_map (λ (y : HeldBlock). y.octets) x) []) e

new_sent : (side : Side) (c : Channels) (e : End) → IsReady side c e → (t grant : ℕ) (order : Order) → grant ≤ 9422
    → IsEnough order grant → visit t order e ≡ New → CanRead side c (octets_at t (built t grant order e))
new_sent side c e r t grant order most enough new =
    let h = r.come in
    let d = reached side h.maximum h.reports h.calls in
    let is = ap (visit t order) (sym h.end_is) ∙ new in
    let whole = reached_whole side h.maximum h.reports h.calls in
    let reads = new_reads side h.maximum h.reports h.calls h.given t order grant
    (some_by t grant order d enough is) most in
    subst (λ (x : Channels). CanRead side x (octets_at t (built t grant order e))) r.channels_are
    (subst (λ (x : End). CanRead side (channels_of x) (octets_at t (built t grant order x))) (sym h.end_is)
    (subst (CanRead side (channels_of d)) (sym (block_is t grant order d whole.eight is)) reads))

resent_sent : (rv : ℕ) (side : Side) (c : Channels) (e : End) → IsReady side c e → (t grant : ℕ) (order : Order)
    → visit t order e ≡ Resend rv → CanRead side c (octets_at t (built t grant order e))
unfolding built visited visit_answer held_of
resent_sent rv side c e r t grant order again =
    let h = r.come in
    let eight : length e.sender.processes ≡ 8 =
    subst (λ (x : End). length x.sender.processes ≡ 8) (sym h.end_is)
    (reached_whole side h.maximum h.reports h.calls).eight in
    let x = resent_held order (process_at e.sender t) rv again in
    let after_is : block_at (after_visit e.sender t order) (t % 8) ≡ Some (resent x.was) =
    ap (λ q. q.held) (visit_at e.sender t order eight) ∙ x.after_is in
    let same : octets_at t (built t grant order e) ≡ x.was.octets =
    ap (λ (v : Visit). octets_at t (built_by v t grant (visited t order e))) again
    ∙ held_by (block_at (after_visit e.sender t order) (t % 8)) (resent x.was) after_is in
    subst (CanRead side c) (sym same)
    (subst (λ (y : Channels). CanRead side y x.was.octets) r.channels_are
    (come_holds side e h (t % 8) x.was x.held_is))

-- a new block, or one that it holds
pub sent_reads : (v : Visit) (side : Side) (c : Channels) (e : End) → IsReady side c e → (t grant : ℕ) (order : Order)
    → grant ≤ 9422 → IsEnough order grant → visit t order e ≡ v → (v ≡ Silent → ⊥)
    → CanRead side c (octets_at t (built t grant order e))
sent_reads New side c e r t grant order most enough is loud = new_sent side c e r t grant order most enough is
sent_reads (Resend rv) side c e r t grant order most enough is loud = resent_sent rv side c e r t grant order is
sent_reads Silent side c e r t grant order most enough is loud = absurd (loud refl)
