-- What the end of a life and the beginning of the next keep.
use Rattle.std.proofs.Common.{◌≡◌, ◌⊎◌, inl, inr, ◌≤◌, ℕ, ◌+◌, Bool, true, false, List, [], ◌∷◌, ◌++◌, map, Option}
use Rattle.std.proofs.Common.{Some, None, subst, refl, ap, sym, ◌∙◌, arith}
use Rattle.bearer_types.specs.declared.BearerConfig.{BearerConfig}
use Rattle.eps_sec.specs.declared.Keys.{Keys}
use Rattle.l2_num.specs.Ascending.{AreBetween}
use Rattle.l2_types.specs.declared.Side.{Side}
use Rattle.pdcp_pdu.specs.declared.PdcpKind.{PdcpKind}
use Rattle.pdcp_pdu.specs.declared.PdcpKind.TheVariants.{Srb, Um, Am}
use Rattle.pdcp_tx_store.specs.declared.given.Sent.{Sent}
use Rattle.pdcp_tx_store.specs.declared.given.Entry.{Entry}
use Rattle.pdcp_tx_store.specs.declared.given.Entry.TheVariants.{Data, Own, Gone}
use Rattle.pdcp_tx_store.specs.Given.{first_open, first_unacked, from_unacked, data_of}
use Rattle.pdcp_tx.specs.State.{State, or_else, low, kept_again, first_again, restarted as restarted_sending}
use Rattle.pdcp_tx.specs.Runs.{IsOrdered}
use Rattle.pdcp_rx.specs.State.{restarted as restarted_receiving}
use Rattle.bearer_pdcp.specs.Ends.{Ends}
use Rattle.bearer_pdcp.specs.Lives.{restarted}
use Rattle.bearer.specs.declared.flow.Flow.{Flow}
use Rattle.bearer.specs.Bearer.{flow_of}
use Rattle.bearer.specs.Lives.{stopped}
use Rattle.law_bearer.specs.AnyBearer.Calls.{Step, Restart, goes, reached, ends, ends_between}
use Rattle.law_bearer.specs.AnyBearer.Keeping.{Continues, KeepsWaiting, Forgets, Keeps}
use Rattle.law_bearer.proofs.AnyBearer.Parts.{Ended, AreOfKind}
use Rattle.law_bearer.proofs.AnyBearer.Flows.{restarts_as, run_more}
use Rattle.law_bearer.proofs.AnyBearer.Streams.{Arrived, arrives}

-- ---- what is taken again begins at the first unconfirmed COUNT

open_step : (s : Sent) (es : List Entry) (b : Bool) → s.acked ≡ b → first_open es ≡ first_unacked (data_of es)
    → first_open (Data s ∷ es) ≡ first_unacked (s ∷ data_of es)
open_step s es true a h = rw a h
open_step s es false a h = rw a refl

open_is_unacked : (es : List Entry) → first_open es ≡ first_unacked (data_of es)
open_is_unacked [] = refl
open_is_unacked (Data s ∷ es) = open_step s es s.acked refl (open_is_unacked es)
open_is_unacked (Own ∷ es) = open_is_unacked es
open_is_unacked (Gone ∷ es) = open_is_unacked es

both_step : (x : Sent) (xs ys : List Sent) (n : ℕ) (b : Bool) → x.acked ≡ b
    → or_else (first_unacked (xs ++ ys)) n ≡ or_else (first_unacked xs) (or_else (first_unacked ys) n)
    → or_else (first_unacked (x ∷ (xs ++ ys))) n ≡ or_else (first_unacked (x ∷ xs)) (or_else (first_unacked ys) n)
both_step x xs ys n true a h = rw a h
both_step x xs ys n false a h = rw a refl

both_unacked : (xs ys : List Sent) (n : ℕ)
    → or_else (first_unacked (xs ++ ys)) n ≡ or_else (first_unacked xs) (or_else (first_unacked ys) n)
both_unacked [] ys n = refl
both_unacked (x ∷ xs) ys n = both_step x xs ys n x.acked refl (both_unacked xs ys n)

head_step : (x : Sent) (xs : List Sent) (n : ℕ) (b : Bool) → x.acked ≡ b
    → first_again (from_unacked xs) n ≡ or_else (first_unacked xs) n
    → first_again (from_unacked (x ∷ xs)) n ≡ or_else (first_unacked (x ∷ xs)) n
head_step x xs n true a h = rw a h
head_step x xs n false a h = rw a refl

head_unacked : (xs : List Sent) (n : ℕ) → first_again (from_unacked xs) n ≡ or_else (first_unacked xs) n
head_unacked [] n = refl
head_unacked (x ∷ xs) n = head_step x xs n x.acked refl (head_unacked xs n)

first_is_low : (s : State) → first_again (kept_again s) s.next ≡ low s
first_is_low s =
    head_unacked (data_of s.given.entries ++ s.again) s.next
    ∙ both_unacked (data_of s.given.entries) s.again s.next
    ∙ ap (λ (o : Option ℕ). or_else o (or_else (first_unacked s.again) s.next)) (sym (open_is_unacked s.given.entries))

-- ---- the next life of PDCP, by its kind

-- nothing lies below COUNT 0
none_below : (ss : List Sent) (end : ℕ) → end ≡ 0 → AreBetween 0 (map (λ x. x.count) ss) end → ss ≡ []
none_below [] end z h = refl
none_below (s ∷ ss) end z h = absurd (passes (s.count + 1) (map (λ x. x.count) ss) (omega arith) h.1)
  where
    passes : (low : ℕ) (ns : List ℕ) → 1 ≤ low → AreBetween low ns end → ⊥
    passes low [] one g = omega (arith, one, g, z)
    passes low (n ∷ ns) one g = passes (n + 1) ns (omega arith) g.1

srb_forgets : (e : Ends) (keys : Keys) → AreOfKind Srb e → IsOrdered (restarted e keys).tx → Forgets (restarted e keys)
unfolding restarted restarted_sending restarted_receiving
srb_forgets e keys k ordered =
    let zero_next : (restarted e keys).tx.next ≡ 0 = rw (k.here, k.tx) refl in
    record {
      waiting = rw (k.here, k.tx) refl;
      anew = record {
        next = zero_next;
        again = none_below (restarted e keys).tx.again (restarted e keys).tx.next zero_next ordered;
        owed = rw k.here refl;
        expected = rw k.rx refl;
        held = rw k.rx refl;
      };
    }

um_keeps : (d e : Ends) (keys : Keys) (bits : ℕ) → Ended d e → AreOfKind (Um bits) e → IsOrdered (restarted e keys).tx
    → KeepsWaiting d (restarted e keys)
unfolding restarted restarted_sending restarted_receiving
um_keeps d e keys bits h k ordered =
    let zero_next : (restarted e keys).tx.next ≡ 0 = rw (k.here, k.tx) refl in
    record {
      waits = record {
        waiting = rw (k.here, k.tx) (ap (λ (t : State). t.waiting) h.tx);
        clock = rw k.here (ap (λ (t : State). t.clock) h.tx);
        discard = rw k.here (ap (λ (t : State). t.discard) h.tx);
      };
      anew = record {
        next = zero_next;
        again = none_below (restarted e keys).tx.again (restarted e keys).tx.next zero_next ordered;
        owed = rw k.here refl;
        expected = rw k.rx refl;
        held = rw k.rx refl;
      };
    }

am_continues : (d e : Ends) (keys : Keys) (bits : ℕ) → Ended d e → AreOfKind (Am bits) e
    → Continues d e (restarted e keys)
unfolding restarted restarted_sending restarted_receiving
am_continues d e keys bits h k = record {
  again = rw k.here (ap kept_again h.tx);
  first = rw (k.here, k.tx) (first_is_low e.tx ∙ ap low h.tx);
  next = rw (k.here, k.tx) (ap (λ (t : State). t.next) h.tx);
  waits = record {
    waiting = rw (k.here, k.tx) (ap (λ (t : State). t.waiting) h.tx);
    clock = rw k.here (ap (λ (t : State). t.clock) h.tx);
    discard = rw k.here (ap (λ (t : State). t.discard) h.tx);
  };
  owed = rw k.here refl;
  expected = rw k.rx refl;
  held = rw k.rx refl;
}

by_kind : (kind : PdcpKind) (d e : Ends) (keys : Keys) → Ended d e → AreOfKind kind e
    → IsOrdered (restarted e keys).tx → Keeps kind d e (restarted e keys)
by_kind Srb d e keys h k ordered = srb_forgets e keys k ordered
by_kind (Um bits) d e keys h k ordered = um_keeps d e keys bits h k ordered
by_kind (Am bits) d e keys h k ordered = am_continues d e keys bits h k

-- ---- the law

ordered_by : (f : Flow) (e : Ends) → ends f ≡ Some e → (ends f ≡ None) ⊎ Arrived f → IsOrdered e.tx
ordered_by f e q (inl n) = let no : None ≡ Some e = sym n ∙ q in cc
ordered_by f e q (inr a) = let some : Some a.now ≡ Some e = sym a.is ∙ q in let same : a.now ≡ e = cc in
    subst (λ (x : Ends). IsOrdered x.tx) same a.ordered

next_ordered : (c : BearerConfig) (first : Keys) (side : Side) (xs : List Step) (keys : Keys) (e : Ends)
    → ends (goes (reached c first side xs) (Restart keys)) ≡ Some e → IsOrdered e.tx
next_ordered c first side xs keys e q =
    let more : reached c first side (xs ++ Restart keys ∷ []) ≡ goes (reached c first side xs) (Restart keys) =
    run_more (flow_of c.kind c first side) xs (Restart keys ∷ []) in
    ordered_by (reached c first side (xs ++ Restart keys ∷ [])) e (ap ends more ∙ q)
    (arrives c first side (xs ++ Restart keys ∷ []))

kind_by : (f : Flow) (d : Ends) → ends f ≡ Some d → (ends f ≡ None) ⊎ Arrived f → AreOfKind d.kind d
kind_by f d q (inl n) = let no : None ≡ Some d = sym n ∙ q in cc
kind_by f d q (inr a) = let some : Some a.now ≡ Some d = sym a.is ∙ q in let same : a.now ≡ d = cc in
    subst (λ (x : Ends). AreOfKind x.kind x) same a.kinds

ended_kind : (d m : Ends) → Ended d m → AreOfKind d.kind d → AreOfKind d.kind m
ended_kind d m h k = record { here = h.kind; tx = ap (λ (t : State). t.kind) h.tx ∙ k.tx; rx = h.rx ∙ k.rx }

keeps : (keys : Keys) (d m e : Ends) → AreOfKind d.kind d → Ended d m → e ≡ restarted m keys → IsOrdered e.tx
    → Keeps d.kind d m e
keeps keys d m e k h q ordered =
    subst (λ (x : Ends). Keeps d.kind d m x) (sym q)
    (by_kind d.kind d m keys h (ended_kind d m h k) (subst (λ (x : Ends). IsOrdered x.tx) q ordered))

pub restart_keeps : (c : BearerConfig) (first : Keys) (side : Side) (xs : List Step) (keys : Keys) (d m e : Ends)
    → ends (reached c first side xs) ≡ Some d
    → ends_between (stopped (reached c first side xs)) ≡ Some m
    → ends (goes (reached c first side xs) (Restart keys)) ≡ Some e
    → Keeps d.kind d m e
restart_keeps c first side xs keys d m e p q r =
    let f = reached c first side xs in
    let z = restarts_as f d keys p in
    let some : Some z.between ≡ Some m = sym z.is ∙ q in
    let same : z.between ≡ m = cc in
    let some_e : Some e ≡ Some (restarted z.between keys) = sym r ∙ z.after in
    let same_e : e ≡ restarted z.between keys = cc in
    keeps keys d m e
    (kind_by f d p (arrives c first side xs))
    (subst (λ (x : Ends). Ended d x) same z.ended)
    (same_e ∙ ap (λ (x : Ends). restarted x keys) same)
    (next_ordered c first side xs keys e r)
