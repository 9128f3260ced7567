-- The fields of the numbers follow each other as the octets of the SDUs offered do.
use Rattle.std.proofs.Common.{◌≡◌, ◌<◌, ◌≤◌, inl, inr, ℕ, suc, zero, ◌+◌, ◌-◌, Bool, true, false, ◌||◌, List, [], ◌∷◌}
use Rattle.std.proofs.Common.{◌++◌, length, take, drop, slice_get, slice_index_or, Some, refl, ap, sym, subst, ◌∙◌}
use Rattle.std.proofs.Common.{arith, append_assoc, length-append, nat_lt}
use Rattle.std.specs.List.{AllByRecursion}
use Rattle.std.proofs.lemmas.Bool.Decides.{nat_tests}
use Rattle.std.proofs.lemmas.Bool.{cases_lt}
use Rattle.std.proofs.lemmas.List.{append-nil, take-append-drop}
use Rattle.rlc_queue.specs.Waiting.{HaveOctets}
use Rattle.rlc_am_tx.specs.declared.turn.Turn.{Turn}
use Rattle.rlc_am_tx.specs.declared.turn.Turn.TheVariants as turns
use Rattle.rlc_am_tx.specs.Machine.{State, turn}
use Rattle.law_rlc.specs.AmSender.Run.{Call as SenderCall, Offer, Take, Status, Tick, Expire, Settle, Confirm}
use Rattle.law_rlc.specs.AmSender.Run.{World as SenderWorld, run_am_sender, begun}
use Rattle.law_rlc.specs.AmSender.Octets.{Place, places, first_begins, last_ends, Octets, nothing_sent, new_count}
use Rattle.law_rlc.specs.AmSender.Octets.{octets_by, octets_after, HasOctets}
use Rattle.law_rlc.proofs.AmSender.Stretches.{Joined, first-at, last-at}
use Rattle.law_rlc.proofs.AmSender.Dealing.{stream, StartsNew, stream-starts, stream-joined}
use Rattle.rlc_am_rx_window.specs.Cells.{Cell, cell}
use Rattle.law_rlc.specs.AmReceiver.Finish.{IsStream}
use Rattle.law_rlc.specs.AmPair.Flow.{Flow, sender}
use Rattle.law_rlc.specs.AmPair.Fields.{cells_of, next_begins, field_of}
use Rattle.law_rlc.specs.AmPair.Sdus.{offered_in, offered}
use Rattle.law_rlc.proofs.AmPair.Parts.{cell-is, cells-length}
use Rattle.law_rlc.proofs.AmPair.Runs.{called}
use Rattle.law_rlc.proofs.AmPair.Sound.{AllAired, IsSound}
use Rattle.law_rlc.proofs.AmPair.Fields.{sent-field, unsent-field, are-fields}

-- ---- what was sent, and what isn't sent

abbrev pub together : List (List Place) → List Place
together [] = []
together (ps ∷ pss) = ps ++ together pss

abbrev pub all_places : Octets → List Place
all_places o = together o.sent ++ o.unsent

together-end : (xs : List (List Place)) (x : List Place) → together (xs ++ x ∷ []) ≡ together xs ++ x
together-end [] x = append-nil x
together-end (y ∷ ys) x = ap (λ (ps : List Place). y ++ ps) (together-end ys x) ∙ sym (append_assoc y (together ys) x)

turn-places : (t : Turn) (s : State) (size : ℕ) (o : Octets)
    → together (octets_by t s size o).sent ++ (octets_by t s size o).unsent ≡ all_places o
turn-places turns.New s size o =
    ap (λ (ps : List Place). ps ++ drop (new_count s size) o.unsent)
    (together-end o.sent (take (new_count s size) o.unsent))
    ∙ (append_assoc (together o.sent) (take (new_count s size) o.unsent) (drop (new_count s size) o.unsent)
    ∙ ap (λ (ps : List Place). together o.sent ++ ps) (take-append-drop (new_count s size) o.unsent))
turn-places turns.Whole s size o = refl
turn-places turns.Part s size o = refl
turn-places turns.Idle s size o = refl
turn-places turns.Stopped s size o = refl
turn-places turns.Small s size o = refl
turn-places turns.Shut s size o = refl
turn-places turns.Held s size o = refl

run-places : (cs : List SenderCall) (w : SenderWorld Octets)
    → all_places (run_am_sender octets_after cs w).past ≡ all_places w.past ++ stream false (offered_in cs)
run-places [] w = sym (append-nil (all_places w.past))
run-places (Offer sdu ∷ cs) w =
    run-places cs (called octets_after w (Offer sdu))
    ∙ (ap (λ (ps : List Place). ps ++ stream false (offered_in cs))
    (sym (append_assoc (together w.past.sent) w.past.unsent (places true sdu)))
    ∙ append_assoc (all_places w.past) (places true sdu) (stream false (offered_in cs)))
run-places (Take size held more ∷ cs) w =
    run-places cs (called octets_after w (Take size held more))
    ∙ ap (λ (ps : List Place). ps ++ stream false (offered_in cs))
    (turn-places (turn w.state size held more) w.state size w.past)
run-places (Status status ∷ cs) w = run-places cs (called octets_after w (Status status))
run-places (Tick ∷ cs) w = run-places cs (called octets_after w Tick)
run-places (Expire more ∷ cs) w = run-places cs (called octets_after w (Expire more))
run-places (Settle more ∷ cs) w = run-places cs (called octets_after w (Settle more))
run-places (Confirm ∷ cs) w = run-places cs (called octets_after w Confirm)

pub whole-stream : (f : Flow) → all_places (sender f).past ≡ stream false (offered f)
whole-stream f = run-places f.sent (begun f.sending nothing_sent)

pub have-octets : (cs : List SenderCall) → AllByRecursion HasOctets cs → HaveOctets (offered_in cs)
have-octets [] h = tt
have-octets (Offer sdu ∷ cs) h = (h.0, have-octets cs h.1)
have-octets (Take size held more ∷ cs) h = have-octets cs h.1
have-octets (Status status ∷ cs) h = have-octets cs h.1
have-octets (Tick ∷ cs) h = have-octets cs h.1
have-octets (Expire more ∷ cs) h = have-octets cs h.1
have-octets (Settle more ∷ cs) h = have-octets cs h.1
have-octets (Confirm ∷ cs) h = have-octets cs h.1

-- ---- one field and the next

-- a field begins an SDU exactly where the one before it ends one
abbrev pub Linked : Bool → List (List Place) → Type 0
Linked begins [] = Unit {0}
Linked begins (ps ∷ pss) = (first_begins ps ≡ begins) × Linked (last_ends ps) pss

joined-behind : (ps qs : List Place) → Joined (ps ++ qs) → Joined qs
joined-behind [] qs j = j
joined-behind (p ∷ []) [] j = tt
joined-behind (p ∷ []) (q ∷ qs) j = j.1
joined-behind (p ∷ r ∷ ps) qs j = joined-behind (r ∷ ps) qs j.1

joined-between : (ps qs : List Place) → 0 < length ps → 0 < length qs → Joined (ps ++ qs)
    → last_ends ps ≡ first_begins qs
joined-between [] qs some some' j = absurd (omega arith)
joined-between (p ∷ []) [] some some' j = absurd (omega arith)
joined-between (p ∷ []) (q ∷ qs) some some' j = j.0
joined-between (p ∷ r ∷ ps) qs some some' j = joined-between (r ∷ ps) qs (omega arith) some' j.1

first-front : (ps qs : List Place) → 0 < length ps → first_begins (ps ++ qs) ≡ first_begins ps
first-front [] qs some = absurd (omega arith)
first-front (p ∷ ps) qs some = refl

linked : (begins : Bool) (sent : List (List Place)) (more : List Place) → AllAired sent
    → (0 < length sent → first_begins (together sent ++ more) ≡ begins) → Joined (together sent ++ more)
    → Linked begins sent
linked begins [] more a first j = tt
linked begins (ps ∷ pss) more a first j =
    let some : 0 < length ps = (a 0 (omega arith)).some in
    let same : (ps ++ together pss) ++ more ≡ ps ++ (together pss ++ more) = append_assoc ps (together pss) more in
    let k : Joined (ps ++ (together pss ++ more)) = subst (λ (qs : List Place). Joined qs) same j in (
      sym (first-front ps (together pss ++ more) some) ∙ (ap first_begins (sym same) ∙ first (omega arith)),
      linked (last_ends ps) pss more (λ n lt. a (suc n) (omega (arith, lt)))
          (λ lt. sym (joined-between ps (together pss ++ more) some (next-some pss lt a) k))
          (joined-behind ps (together pss ++ more) k),
    )
  where
    next-some : (pss : List (List Place)) → 0 < length pss → AllAired (ps ∷ pss) → 0 < length (together pss ++ more)
    next-some [] lt a = absurd (omega arith)
    next-some (qs ∷ qss) lt a = let some = (a 1 (omega arith)).some in
        let l = length-append (qs ++ together qss) more in let m = length-append qs (together qss) in
        omega (arith, some, l, m)

first-new : (ps : List Place) → StartsNew ps → 0 < length ps → first_begins ps ≡ true
first-new [] s lt = absurd (omega arith)
first-new (p ∷ ps) s lt = s

flow-linked : (f : Flow) → IsSound f → Linked true (sender f).past.sent
flow-linked f h =
    let have : HaveOctets (offered f) = have-octets f.sent h.offered in
    let all : stream false (offered f) ≡ all_places (sender f).past = sym (whole-stream f) in
    linked true (sender f).past.sent (sender f).past.unsent h.aired
    (λ lt. first-new (all_places (sender f).past)
    (subst (λ (ps : List Place). StartsNew ps) all (stream-starts (offered f) have))
    (some (sender f).past.sent (sender f).past.unsent lt h.aired))
    (subst (λ (ps : List Place). Joined ps) all (stream-joined false (offered f) have))
  where
    some : (pss : List (List Place)) (more : List Place) → 0 < length pss → AllAired pss
        → 0 < length (together pss ++ more)
    some [] more lt a = absurd (omega arith)
    some (qs ∷ qss) more lt a = let some' = (a 0 (omega arith)).some in
        let l = length-append (qs ++ together qss) more in let m = length-append qs (together qss) in
        omega (arith, some', l, m)

linked-at : (begins : Bool) (sent : List (List Place)) (n : ℕ) → Linked begins sent → n + 1 < length sent
    → last_ends (slice_index_or sent n []) ≡ first_begins (slice_index_or sent (n + 1) [])
linked-at begins [] n l lt = absurd (omega arith)
linked-at begins (ps ∷ []) n l lt = absurd (omega arith)
linked-at begins (ps ∷ qs ∷ qss) zero l lt = sym l.1.0
linked-at begins (ps ∷ qs ∷ qss) (suc n) l lt = let e : suc n + 1 ≡ suc (n + 1) = omega arith in
    rw e (linked-at (last_ends ps) (qs ∷ qss) n l.1 (omega arith))

linked-last : (begins : Bool) (sent : List (List Place)) (n : ℕ) → n + 1 ≡ length sent
    → last_ends (slice_index_or sent n []) ≡ next_begins begins sent
linked-last begins [] n e = absurd (omega arith)
linked-last begins (ps ∷ []) zero e = refl
linked-last begins (ps ∷ []) (suc n) e = absurd (omega arith)
linked-last begins (ps ∷ qs ∷ qss) zero e = absurd (omega arith)
linked-last begins (ps ∷ qs ∷ qss) (suc n) e = linked-last (last_ends ps) (qs ∷ qss) n (omega arith)

-- ---- the stream

first-cell : (ps : List Place) (c : Cell) → slice_get (cells_of ps) 0 ≡ Some c → c.begins ≡ first_begins ps
first-cell ps c e = ap (λ (d : Cell). d.begins) (cell-is ps 0 c e) ∙ sym (first-at ps)

last-cell : (ps : List Place) (c : Cell) → 0 < length ps → slice_get (cells_of ps) (length (cells_of ps) - 1) ≡ Some c
    → c.ends ≡ last_ends ps
last-cell ps c some e = let l = cells-length ps in
    ap (λ (d : Cell). d.ends) (cell-is ps (length (cells_of ps) - 1) c e)
    ∙ sym (last-at ps (length (cells_of ps) - 1) (omega (arith, l, some)))

one-cell : (b : Bool) (c : Cell) → slice_get (cell 0 b true ∷ []) 0 ≡ Some c → c ≡ cell 0 b true
one-cell b c e = let same : Some (cell 0 b true) ≡ Some c = e in cc

is-stream : (sent : List (List Place)) → AllAired sent → Linked true sent → IsStream (field_of sent)
is-stream sent a l = record {
  fields = are-fields sent a;
  begins = λ c e. elim (cases_lt 0 (length sent)) [
    | inl some ↦ first-cell (slice_index_or sent 0 []) c
        (subst (λ (cs : List Cell). slice_get cs 0 ≡ Some c) (sent-field sent 0 some) e) ∙ first sent l some
    | inr none ↦ ap (λ (d : Cell). d.begins)
        (one-cell (nat_lt (length sent) 0 || next_begins true sent) c
        (subst (λ (cs : List Cell). slice_get cs 0 ≡ Some c) (unsent-field sent 0 none) e)) ∙ empty sent none
  ];
  edges = λ n c d e f. elim (cases_lt (n + 1) (length sent)) [
    | inl within ↦
        let x : slice_get (cells_of (slice_index_or sent n [])) (length (cells_of (slice_index_or sent n [])) - 1)
        ≡ Some c = subst (λ (cs : List Cell). slice_get cs (length cs - 1) ≡ Some c)
        (sent-field sent n (omega arith)) e in
        let y : slice_get (cells_of (slice_index_or sent (n + 1) [])) 0 ≡ Some d =
        subst (λ (cs : List Cell). slice_get cs 0 ≡ Some d) (sent-field sent (n + 1) within) f in
        last-cell (slice_index_or sent n []) c (a n (omega arith)).some x
        ∙ (linked-at true sent n l within ∙ sym (first-cell (slice_index_or sent (n + 1) []) d y))
    | inr past ↦
        let y : d ≡ cell 0 (nat_lt (length sent) (n + 1) || next_begins true sent) true =
        one-cell (nat_lt (length sent) (n + 1) || next_begins true sent) d
        (subst (λ (cs : List Cell). slice_get cs 0 ≡ Some d) (unsent-field sent (n + 1) past) f) in
        elim (cases_lt n (length sent)) [
          | inl here ↦
              let x : slice_get (cells_of (slice_index_or sent n []))
              (length (cells_of (slice_index_or sent n [])) - 1) ≡ Some c =
              subst (λ (cs : List Cell). slice_get cs (length cs - 1) ≡ Some c) (sent-field sent n here) e in
              let b : nat_lt (length sent) (n + 1) ≡ false = grind (arith, nat_tests) in
              last-cell (slice_index_or sent n []) c (a n here).some x
              ∙ (linked-last true sent n (omega arith)
              ∙ sym (ap (λ (z : Cell). z.begins) y ∙ ap (λ (t : Bool). t || next_begins true sent) b))
          | inr above ↦
              let x : c ≡ cell 0 (nat_lt (length sent) n || next_begins true sent) true =
              one-cell (nat_lt (length sent) n || next_begins true sent) c
              (subst (λ (cs : List Cell). slice_get cs (length cs - 1) ≡ Some c) (unsent-field sent n above) e) in
              let b : nat_lt (length sent) (n + 1) ≡ true = grind (arith, nat_tests) in
              ap (λ (z : Cell). z.ends) x
              ∙ sym (ap (λ (z : Cell). z.begins) y ∙ ap (λ (t : Bool). t || next_begins true sent) b)
        ]
  ];
}
  where
    first : (sent : List (List Place)) → Linked true sent → 0 < length sent
        → first_begins (slice_index_or sent 0 []) ≡ true
    first [] l lt = absurd (omega arith)
    first (ps ∷ pss) l lt = l.0

    empty : (sent : List (List Place)) → length sent ≤ 0 → (nat_lt (length sent) 0 || next_begins true sent) ≡ true
    empty [] le = refl
    empty (ps ∷ pss) le = absurd (omega arith)

pub flow-stream : (f : Flow) → IsSound f → IsStream (field_of (sender f).past.sent)
flow-stream f h = is-stream (sender f).past.sent h.aired (flow-linked f h)
