-- All SDUs that a flow hands up are taken, one by one.
use Rattle.std.proofs.Common.{◌≡◌, ℕ, zero, suc, ◌<◌, Bool, true, false, List, [], ◌∷◌, ◌++◌, length, drop}
use Rattle.std.proofs.Common.{Option, Some, None, refl, ap, sym, ◌∙◌, arith, append_assoc, append-nil}
use Rattle.std.proofs.Common.{slice_get, slice_index_or, slice_set, if◌then◌else◌, option_map}
use Rattle.std.specs.Prelude.{◌==◌, option_to_list}
use Rattle.l2_types.specs.declared.side.Side.{Side}
use Rattle.l2_types.specs.declared.side.Side.TheVariants.{Nb, Ue}
use Rattle.journal_um.specs.declared.pieces.JoinedSdu.{JoinedSdu}
use Rattle.journal_um.specs.UmFlow.{UmFlow, sdu_taken}
use Rattle.journal_flows.specs.declared.account.Account.{Account}
use Rattle.journal_flows.specs.declared.account.Account.TheVariants.{Am, Um}
use Rattle.journal_flows.specs.FlowsTold.{is_at}
use Rattle.journal_flows.specs.Accounts.{Keeping, Accounts, unacked_in, um_flow_at, first_joined, slot_taken}
use Rattle.journal_flows.specs.Accounts.{account_taken, after_taking}
use Rattle.journal_flows.specs.Laws.{Deed, IsTaken, kept_by, untaken, taken_of}
use Rattle.journal_edge.specs.EdgeFlow.{EdgeFlow, flow_read, flow_all_read}
use Rattle.journal_edge.specs.EdgeChecking.{ready_in, ready_at, octets_in, octets_at, taken_by, all_taken}

-- ---- a table that changes at one place

pub changed_at : {A : Type 0} (xs : List (Option A)) (i : ℕ) (f : Option A → Option A) → f None ≡ None
    → slice_index_or (slice_set xs i (f (slice_index_or xs i None))) i None ≡ f (slice_index_or xs i None)
changed_at [] i f e = sym e
changed_at (x ∷ xs) zero f e = refl
changed_at (x ∷ xs) (suc i) f e = changed_at xs i f e

pub apart : (i j : ℕ) → (i == j) ≡ false → i ≡ j → ⊥
apart i j e is = grind (arith, e, is)

pub other_at : {A : Type 0} (xs : List (Option A)) (i j : ℕ) (v : Option A) → (i ≡ j → ⊥)
    → slice_index_or (slice_set xs i v) j None ≡ slice_index_or xs j None
other_at [] i j v h = refl
other_at (x ∷ xs) zero zero v h = absurd (h refl)
other_at (x ∷ xs) zero (suc j) v h = refl
other_at (x ∷ xs) (suc i) zero v h = refl
other_at (x ∷ xs) (suc i) (suc j) v h = other_at xs i j v (λ e. h (ap suc e))

-- ---- what taking leaves of a flow

taken_in : (slot : Option Account) → unacked_in (slot_taken slot) ≡ option_map sdu_taken (unacked_in slot)
taken_in None = refl
taken_in (Some (Am l)) = refl
taken_in (Some (Um u)) = refl

flow_taken : (from : Side) (l : ℕ) (a : Accounts)
    → um_flow_at from l (account_taken from l a) ≡ option_map sdu_taken (um_flow_at from l a)
flow_taken Nb l a =
    ap (λ (s : Option Account). unacked_in s) (changed_at a.nb l slot_taken refl)
    ∙ taken_in (slice_index_or a.nb l None)
flow_taken Ue l a =
    ap (λ (s : Option Account). unacked_in s) (changed_at a.ue l slot_taken refl)
    ∙ taken_in (slice_index_or a.ue l None)

flow_other : (from : Side) (l : ℕ) (s : Side) (m : ℕ) (a : Accounts) → is_at from l s m ≡ false
    → um_flow_at s m (account_taken from l a) ≡ um_flow_at s m a
flow_other Nb l Nb m a e =
    ap (λ (o : Option Account). unacked_in o)
    (other_at a.nb l m (slot_taken (slice_index_or a.nb l None)) (apart l m e))
flow_other Nb l Ue m a e = refl
flow_other Ue l Nb m a e = refl
flow_other Ue l Ue m a e =
    ap (λ (o : Option Account). unacked_in o)
    (other_at a.ue l m (slot_taken (slice_index_or a.ue l None)) (apart l m e))

ready_of : (o : Option UmFlow) → ready_in (option_map sdu_taken o) ≡ drop 1 (ready_in o)
ready_of None = refl
ready_of (Some f) = refl

pub ready_taken : (from : Side) (l : ℕ) (k : Keeping)
    → ready_at from l (after_taking from l k) ≡ drop 1 (ready_at from l k)
ready_taken from l k = ap (λ (o : Option UmFlow). ready_in o) (flow_taken from l k.journal.flows)
    ∙ ready_of (um_flow_at from l k.journal.flows)

first_is : (o : Option UmFlow) → first_joined o ≡ slice_get (ready_in o) 0
first_is None = refl
first_is (Some f) = refl

-- ---- the next one

record Next (from : Side) (l : ℕ) (k : Keeping) (sdu : JoinedSdu) : Type 0 where
  rest : List JoinedSdu
  ready : ready_at from l k ≡ sdu ∷ rest
  left : ready_at from l (after_taking from l k) ≡ rest

next_in : (from : Side) (l : ℕ) (k : Keeping) (sdu : JoinedSdu)
    → first_joined (um_flow_at from l k.journal.flows) ≡ Some sdu → Next from l k sdu
next_in from l k sdu e = by (ready_at from l k) refl
  where
    by : (sdus : List JoinedSdu) → ready_at from l k ≡ sdus → Next from l k sdu
    by [] is = let no : None ≡ Some sdu = sym (first_is (um_flow_at from l k.journal.flows)
        ∙ ap (λ (x : List JoinedSdu). slice_get x 0) is) ∙ e in cc
    by (x ∷ xs) is =
        let some : Some x ≡ Some sdu = sym (first_is (um_flow_at from l k.journal.flows)
        ∙ ap (λ (y : List JoinedSdu). slice_get y 0) is) ∙ e in
        let same : x ≡ sdu = cc in
        record {
          rest = xs;
          ready = is ∙ ap (λ (y : JoinedSdu). y ∷ xs) same;
          left = ready_taken from l k ∙ ap (λ (y : List JoinedSdu). drop 1 y) is;
        }

none_in : (from : Side) (l : ℕ) (k : Keeping) → first_joined (um_flow_at from l k.journal.flows) ≡ None
    → ready_at from l k ≡ []
none_in from l k e = by (ready_at from l k) refl
  where
    by : (sdus : List JoinedSdu) → ready_at from l k ≡ sdus → ready_at from l k ≡ []
    by [] is = is
    by (x ∷ xs) is = let no : Some x ≡ None = sym (first_is (um_flow_at from l k.journal.flows)
        ∙ ap (λ (y : List JoinedSdu). slice_get y 0) is) ∙ e in cc

pub read_next : (from : Side) (l : ℕ) (k : Keeping) (sdu : JoinedSdu) (f : EdgeFlow)
    → first_joined (um_flow_at from l k.journal.flows) ≡ Some sdu
    → flow_all_read (octets_at from l (after_taking from l k)) (flow_read sdu.octets f)
    ≡ flow_all_read (octets_at from l k) f
read_next from l k sdu f e =
    let n = next_in from l k sdu e in
    ap (λ (x : List JoinedSdu). flow_all_read (octets_in x) (flow_read sdu.octets f)) n.left
    ∙ sym (ap (λ (x : List JoinedSdu). flow_all_read (octets_in x) f) n.ready)

pub taken_next : (from : Side) (l : ℕ) (k : Keeping) (sdu : JoinedSdu)
    → first_joined (um_flow_at from l k.journal.flows) ≡ Some sdu
    → all_taken from l (after_taking from l k) ≡ all_taken from l k
taken_next from l k sdu e =
    let n = next_in from l k sdu e in
    ap (λ (x : List JoinedSdu). taken_by x from l (after_taking from l k)) n.left
    ∙ sym (ap (λ (x : List JoinedSdu). taken_by x from l k) n.ready)

fewer : (xs ys rest : List JoinedSdu) (x : JoinedSdu) → xs ≡ x ∷ rest → ys ≡ rest → length ys < length xs
fewer xs ys rest x q e = rw (q, e) (omega arith)

pub fewer_next : (from : Side) (l : ℕ) (k : Keeping) (sdu : JoinedSdu)
    → first_joined (um_flow_at from l k.journal.flows) ≡ Some sdu
    → length (ready_at from l (after_taking from l k)) < length (ready_at from l k)
fewer_next from l k sdu e =
    let n = next_in from l k sdu e in
    fewer (ready_at from l k) (ready_at from l (after_taking from l k)) n.rest sdu n.ready n.left

pub read_last : (from : Side) (l : ℕ) (k : Keeping) (f : EdgeFlow)
    → first_joined (um_flow_at from l k.journal.flows) ≡ None → flow_all_read (octets_at from l k) f ≡ f
read_last from l k f e = ap (λ (x : List JoinedSdu). flow_all_read (octets_in x) f) (none_in from l k e)

pub taken_last : (from : Side) (l : ℕ) (k : Keeping)
    → first_joined (um_flow_at from l k.journal.flows) ≡ None → all_taken from l k ≡ k
taken_last from l k e = ap (λ (x : List JoinedSdu). taken_by x from l k) (none_in from l k e)

pub ruleset takes = (read_next, taken_next, fewer_next, read_last, taken_last)

-- ---- as deeds

-- as if nothing were taken
abbrev pub kept_whole : List Deed → Keeping
kept_whole deeds = kept_by (untaken deeds)

-- what is taken, and that nothing else is

pub record AreTakenAll (from : Side) (l : ℕ) (d : List Deed) (sdus : List JoinedSdu) : Type 0 where
  pub deeds : List Deed
  pub kept : taken_by sdus from l (kept_by d) ≡ kept_by deeds
  pub whole : kept_whole deeds ≡ kept_whole d
  pub own : taken_of from l deeds ≡ taken_of from l d ++ sdus
  pub calm : ready_at from l (kept_by deeds) ≡ []
  pub others : (s : Side) (m : ℕ) → is_at from l s m ≡ false → taken_of s m deeds ≡ taken_of s m d
  pub stay : (s : Side) (m : ℕ) → is_at from l s m ≡ false
      → ready_at s m (kept_by deeds) ≡ ready_at s m (kept_by d)

pub is_self : (from : Side) (l : ℕ) → is_at from l from l ≡ true
is_self Nb l = let yes : (l == l) ≡ true = grind arith in yes
is_self Ue l = let yes : (l == l) ≡ true = grind arith in yes

pub takes_all : (from : Side) (l : ℕ) (sdus : List JoinedSdu) (d : List Deed)
    → ready_at from l (kept_by d) ≡ sdus → AreTakenAll from l d sdus
takes_all from l [] d e = record {
  deeds = d;
  kept = refl;
  whole = refl;
  own = sym (append-nil (taken_of from l d));
  calm = e;
  others = λ s m off. refl;
  stay = λ s m off. refl;
}
takes_all from l (sdu ∷ sdus) d e =
    let k = kept_by d in
    let d' = IsTaken from l ∷ d in
    let left : ready_at from l (kept_by d') ≡ sdus =
    ready_taken from l k ∙ ap (λ (x : List JoinedSdu). drop 1 x) e in
    let r = takes_all from l sdus d' left in
    let first : first_joined (um_flow_at from l k.journal.flows) ≡ Some sdu =
    first_is (um_flow_at from l k.journal.flows) ∙ ap (λ (x : List JoinedSdu). slice_get x 0) e in
    let one : taken_of from l d' ≡ taken_of from l d ++ sdu ∷ [] =
    ap (λ (b : Bool). taken_of from l d
    ++ (if b then option_to_list (first_joined (um_flow_at from l k.journal.flows)) else [])) (is_self from l)
    ∙ ap (λ (o : Option JoinedSdu). taken_of from l d ++ option_to_list o) first in
    record {
      deeds = r.deeds;
      kept = r.kept;
      whole = r.whole;
      own = r.own ∙ ap (λ (x : List JoinedSdu). x ++ sdus) one ∙ append_assoc (taken_of from l d) (sdu ∷ []) sdus;
      others = λ s m off. r.others s m off ∙ ap (λ (b : Bool). taken_of s m d
          ++ (if b then option_to_list (first_joined (um_flow_at s m k.journal.flows)) else [])) off
          ∙ append-nil (taken_of s m d);
      calm = r.calm;
      stay = λ s m off. r.stay s m off
          ∙ ap (λ (o : Option UmFlow). ready_in o) (flow_other from l s m k.journal.flows off);
    }
