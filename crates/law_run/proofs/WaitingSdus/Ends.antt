-- The queue of an end's bearer of acknowledged data through any calls: what leaves it, and what waits.
use Rattle.std.proofs.Common.{◌≡◌, ℕ, ◌+◌, ◌==◌, Bool, true, false, if◌then◌else◌, Option, Some, None, List, []}
use Rattle.std.proofs.Common.{◌∷◌, ◌++◌, map, length, append-nil, refl, ap, sym, subst, ◌∙◌, arith, inl, inr}
use Rattle.std.specs.List.{AllByRecursion, flat_map}
use Rattle.std.proofs.lemmas.List.{length-append, map-append}
use Rattle.bearer.specs.Acknowledged.State.{State as Bearer}
use Rattle.bearer.specs.declared.flow.Flow.{Flow}
use Rattle.bearer.specs.declared.flow.Flow.TheVariants.{Am}
use Rattle.bearer_types.specs.declared.event.Event.{Event}
use Rattle.bearer_types.specs.declared.event.Event.TheVariants as events
use Rattle.l2_node.specs.End.{End}
use Rattle.l2_types.specs.declared.side.Side.{Side}
use Rattle.law_bearer.specs.AnyBearer.Calls.{Step as BearerStep, Calls as CallsIt, Restart as Restarts, ends}
use Rattle.law_bearer.specs.AnyBearer.Calls.{run_bearer, after as bearer_after, goes as bearer_goes}
use Rattle.law_bearer.specs.AnyBearer.Queue.{queue, news, drops, all_news, all_left, all_submitted}
use Rattle.law_bearer.specs.AnyBearer.Stream.{all_taken}
use Rattle.law_bearer.proofs.AnyBearer.Flows.{history, lives_left, lives_submitted}
use Rattle.law_bearer.proofs.AnyBearer.Sender.{Doings, doings}
use Rattle.law_deliver.specs.AmChannel.Delivery.{steps_over, was_submitted}
use Rattle.law_deliver.proofs.AmChannel.Bearers.{IsSteady}
use Rattle.law_deliver.proofs.AmChannel.Choosing.{yes, no, marked, marks, WasReached}
use Rattle.law_deliver.proofs.AmChannel.Ends.{IsCall, all_go, all_leaving, all_took}
use Rattle.law_deliver.proofs.AmChannel.Leaving.{all_flags, flags_many, flags_told}
use Rattle.law_deliver.proofs.AmChannel.Naming.{taken_as, all_told}
use Rattle.law_deliver.proofs.AmChannel.Submitted.{submitted_is}
use Rattle.law_deliver.proofs.AmFlow.Ups.{Stands, stands_more}
use Rattle.law_node.specs.Calls.{Call, Move, after, run_end}
use Rattle.law_node.specs.Holding.{flow}
use Rattle.law_node.specs.Telling.{told_over}
use Rattle.law_pdcp.specs.OneEnd.Lives.{Step, goes, submits, submitted_in, leaves, left_in, run_pdcp_sender}
use Rattle.law_pdcp.proofs.OneEnd.Queue.{in_order}
use Rattle.pdcp_pdu.specs.declared.pdu.PdcpKind.{PdcpKind}
use Rattle.pdcp_pdu.specs.declared.pdu.PdcpKind.TheVariants.{Am as AmKind, Srb}
use Rattle.pdcp_sec.specs.Protection.{Protection}
use Rattle.pdcp_tx.specs.State.{State, Offer}
use Rattle.promises.specs.Taken.{leaving_in, were_taken, TakenSdu, take_in}
use Rattle.law_run.proofs.WaitingSdus.Counting.{next_behind, next_is, firsts, InTurn, gone}
use Rattle.law_run.proofs.WaitingSdus.Sender.{through}

-- ---- what leaves is told of as what is taken

abbrev pub mark : TakenSdu → Option ℕ
mark t = Some t.count

one_turn : (l : ℕ) (e : Event) (ts ms : List (Option ℕ)) → ((n : ℕ) → InTurn n ts → InTurn n ms) → (n : ℕ)
    → InTurn n (map mark (take_in l e) ++ ts) → InTurn n (leaving_in l e ++ ms)
one_turn l (events.Take lcid (Some count) len) ts ms rest n h = by (lcid == l) h
  where
    by : (b : Bool)
        → InTurn n (map mark (if b then record { count = count; len = len } ∷ [] else []) ++ ts)
        → InTurn n ((if b then Some count ∷ [] else []) ++ ms)
    by true k = (k.0, rest (if count == n then n + 1 else n) k.1)
    by false k = rest n k
one_turn l (events.Take lcid None len) ts ms rest n h = rest n h
one_turn l (events.Discard lcid len) ts ms rest n h = by (lcid == l)
  where
    by : (b : Bool) → InTurn n ((if b then None ∷ [] else []) ++ ms)
    by true = rest n h
    by false = rest n h
one_turn l e ts ms rest n h = rest n h

takes_turn : (l : ℕ) (es : List Event) (n : ℕ) → InTurn n (map mark (flat_map (take_in l) es))
    → InTurn n (flat_map (leaving_in l) es)
takes_turn l [] n h = tt
takes_turn l (e ∷ es) n h =
    one_turn l e (map mark (flat_map (take_in l) es)) (flat_map (leaving_in l) es) (λ m k. takes_turn l es m k) n
    (subst (InTurn n) (map-append mark (take_in l e) (flat_map (take_in l) es)) h)

marks_of : (os : List Offer) → map mark (flat_map taken_as os) ≡ marks os
marks_of [] = refl
marks_of (o ∷ os) =
    map-append mark (taken_as o) (flat_map taken_as os)
    ∙ (ap (λ (ms : List (Option ℕ)). map mark (taken_as o) ++ ms) (marks_of os)
    ∙ ap (λ (ms : List (Option ℕ)). ms ++ marks os) (one o.count o.text))
  where
    one : (count : Option ℕ) (text : List ℕ)
        → map mark (taken_as (record { count = count; text = text })) ≡ marked count
    one None text = refl
    one (Some count) text = refl

-- ---- what is taken for the first time

firsts_both : (xs ys : List Bool) → firsts (xs ++ ys) ≡ firsts xs + firsts ys
firsts_both [] ys = omega arith
firsts_both (true ∷ xs) ys = let rest = firsts_both xs ys in omega (arith, rest)
firsts_both (false ∷ xs) ys = firsts_both xs ys

firsts_yes : (sdus : List (List ℕ)) → firsts (yes sdus) ≡ length sdus
firsts_yes [] = refl
firsts_yes (sdu ∷ sdus) = let rest = firsts_yes sdus in omega (arith, rest)

firsts_no : (sdus : List (List ℕ)) → firsts (no sdus) ≡ 0
firsts_no [] = refl
firsts_no (sdu ∷ sdus) = firsts_no sdus

firsts_flags : (xs : List BearerStep) (f : Flow) → firsts (all_flags f xs) ≡ length (all_news f xs)
firsts_flags [] f = refl
firsts_flags (CallsIt c ∷ xs) f =
    let ns = news f c in
    let ds = drops f c in
    let a = firsts_both (yes ns ++ no ds) (all_flags (bearer_after f c) xs) in
    let b = firsts_both (yes ns) (no ds) in
    let y = firsts_yes ns in
    let n = firsts_no ds in
    let d = length-append ns (all_news (bearer_after f c) xs) in
    let rest = firsts_flags xs (bearer_after f c) in
    omega (arith, a, b, y, n, d, rest)
firsts_flags (Restarts keys ∷ xs) f = firsts_flags xs (bearer_goes f (Restarts keys))

-- ---- what was submitted left, or waits

left_is : (s : State) (xs : List Step) → (doings s xs).left ≡ left_in s xs
left_is s [] = refl
left_is s (x ∷ xs) = ap (λ (ys : List (List ℕ)). leaves s x ++ ys) (left_is (goes s x) xs)

given_is : (s : State) (xs : List Step) → (doings s xs).submitted ≡ submitted_in xs
given_is s [] = refl
given_is s (x ∷ xs) = ap (λ (ys : List (List ℕ)). submits x ++ ys) (given_is (goes s x) xs)

abbrev waiting : State → List (List ℕ)
waiting s = map (λ w. w.sdu) s.waiting

left_or_waits : (bits : ℕ) (b : Bearer) (xs : List BearerStep) → b.pdcp.tx.kind ≡ AmKind bits
    → length (all_left (Am b) xs) + length (queue (ends (run_bearer xs (Am b))))
    ≡ length (queue (ends (Am b))) + length (all_submitted xs)
left_or_waits bits b xs kind =
    let f : Flow = Am b in
    let s = b.pdcp.tx in
    let h = history f b.pdcp xs refl in
    let steps = h.passed.tx.steps in
    let law = in_order s steps (λ q. let no : AmKind bits ≡ Srb = sym kind ∙ q in cc) in
    let left : all_left f xs ≡ left_in s steps =
    sym (lives_left f xs) ∙ ap (λ (a : Doings). a.left) h.passed.tx.did ∙ left_is s steps in
    let given : submitted_in steps ≡ all_submitted xs =
    sym (given_is s steps) ∙ sym (ap (λ (a : Doings). a.submitted) h.passed.tx.did) ∙ lives_submitted f xs in
    let still : queue (ends (run_bearer xs f)) ≡ waiting (run_pdcp_sender steps s) =
    ap queue h.is ∙ ap waiting h.passed.tx.left in
    let all = ap (λ (ys : List (List ℕ)). length ys) law in
    let one = length-append (left_in s steps) (waiting (run_pdcp_sender steps s)) in
    let two = length-append (waiting s) (submitted_in steps) in
    let a = ap (λ (ys : List (List ℕ)). length ys) left in
    let c = ap (λ (ys : List (List ℕ)). length ys) given in
    let d = ap (λ (ys : List (List ℕ)). length ys) still in
    omega (arith, all, one, two, a, c, d)

-- ---- an end

stands_on : (side : Side) (l : ℕ) (e : End) (c : Call) → Stands side l e → IsCall l c → Stands side l (after e c)
stands_on side l e c s (inl (given, life)) =
    stands_more side l e c s given (λ q. let no : true ≡ false = sym q ∙ life.adds_none in absurd cc)
stands_on side l e c s (inr (keys, is)) =
    subst (λ (x : Call). Stands side l (after e x)) (sym is)
    (stands_more side l e (Move keys) s tt (λ q. let no : false ≡ true = q in absurd cc))

stand_all : (side : Side) (l : ℕ) (cs : List Call) (e : End) → Stands side l e → AllByRecursion (IsCall l) cs
    → Stands side l (run_end cs e)
stand_all side l [] e s g = s
stand_all side l (c ∷ cs) e s g = stand_all side l cs (after e c) (stands_on side l e c s g.0) g.1

module _ (kind : PdcpKind) (p : Protection) (first bits l : ℕ) (side : Side) where
  -- its bearer's next COUNT, and how many SDUs wait
  pub record QueuedAt (next waits : ℕ) (e : End) : Type 0 where
    pub stands : Stands side l e
    pub bearer : Bearer
    pub bearer_is : flow l e ≡ Am bearer
    pub steady : IsSteady bits l bearer
    pub reached : WasReached kind p first bearer.pdcp.tx
    pub next_is : bearer.pdcp.tx.next ≡ next
    pub waits_are : length (queue (ends (Am bearer))) ≡ waits

  abbrev pub left_over : List Call → End → List (Option ℕ)
  left_over cs e = flat_map (leaving_in l) (told_over cs e)

  pub record GoesOn (next waits : ℕ) (e : End) (cs : List Call) : Type 0 where
    pub turn : InTurn next (left_over cs e)
    pub rest : ℕ
    pub at : QueuedAt (next_behind next (left_over cs e)) rest (run_end cs e)
    pub count : gone next (left_over cs e) + rest ≡ waits + length (was_submitted l cs e)

  pub goes_on : (next waits : ℕ) (e : End) (cs : List Call) → AllByRecursion (IsCall l) cs → QueuedAt next waits e
      → GoesOn next waits e cs
  goes_on next waits e cs g h =
      let b = h.bearer in
      let x = all_go side l e cs h.stands g in
      let steps = steps_over l cs e in
      let t = through kind p first bits l steps b h.steady h.reached in
      let ms = left_over cs e in
      let leaving : ms ≡ all_leaving l (Am b) steps =
      x.leaving_are ∙ ap (λ (f : Flow). all_leaving l f steps) h.bearer_is in
      let flags : were_taken next ms ≡ all_flags (Am b) steps =
      ap (were_taken next) leaving
      ∙ (ap (λ (n : ℕ). were_taken n (all_leaving l (Am b) steps)) (sym h.next_is)
      ∙ flags_told kind p first bits l steps b h.steady h.reached) in
      let new : firsts (were_taken next ms) ≡ length (all_news (Am b) steps) =
      ap firsts flags ∙ firsts_flags steps (Am b) in
      let takes : map mark (flat_map (take_in l) (told_over cs e)) ≡ marks (all_taken (Am b) steps) =
      ap (map mark)
      (x.takes_are ∙ (ap (λ (f : Flow). all_took l f steps) h.bearer_is ∙ all_told bits l steps b h.steady))
      ∙ marks_of (all_taken (Am b) steps) in
      let turned = subst (λ (n : ℕ). InTurn n (marks (all_taken (Am b) steps))) h.next_is
      (subst (InTurn b.pdcp.tx.next) (append-nil (marks (all_taken (Am b) steps))) (t.turn [] tt)) in
      let is : flow l (run_end cs e) ≡ Am t.bearer =
      x.bearer_is ∙ (ap (run_bearer steps) h.bearer_is ∙ t.is) in
      let now = next_is next ms in
      let was = h.next_is in
      let then' = t.next in
      let law = left_or_waits bits b steps h.steady.data'.sending in
      let still = ap (λ (f : Flow). length (queue (ends f))) t.is in
      let many = flags_many steps (Am b) in
      let all = ap length flags in
      let waited = h.waits_are in
      let given = ap length (submitted_is l cs e) in
      record {
        turn = takes_turn l (told_over cs e) next (subst (InTurn next) (sym takes) turned);
        rest = length (queue (ends (Am t.bearer)));
        at = record {
          stands = stand_all side l cs e h.stands g;
          bearer = t.bearer;
          bearer_is = is;
          steady = t.steady;
          reached = t.reached;
          next_is = omega (arith, now, was, then', new);
          waits_are = refl;
        };
        count = omega (arith, law, still, many, all, waited, given);
      }
