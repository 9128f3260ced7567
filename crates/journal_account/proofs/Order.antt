-- Where VR(H) lies: nothing came of it, and it was written at most.
use Rattle.std.proofs.Common.{◌≡◌, ◌<◌, ◌≤◌, ℕ, zero, suc, Bool, false, ◌&&◌, List, [], ◌∷◌, ◌++◌}
use Rattle.std.proofs.Common.{length, Option, Some, None, slice_get, inl, inr, refl, ap, sym, ◌∙◌, arith, length-append}
use Rattle.std.proofs.Common.{nat_le, nat_lt}
use Rattle.std.proofs.lemmas.Bool.{cases_lt, ne_eqb, or_from}
use Rattle.std.proofs.lemmas.List.{append-nil}
use Rattle.std.proofs.lemmas.Option.{slice_get_past}
use Rattle.journal_account.specs.FlowEvents.{FlowEvent, SduTaken, NumberWritten, OctetsResent, OctetsArrived}
use Rattle.journal_account.specs.FlowEvents.{ReorderStarted, ReorderExpired, StatusHeard, PollExpired, field_sizes}
use Rattle.journal_account.specs.FlowEvents.{size_in, next_of, IsPossible, IsHistory}
use Rattle.journal_account.specs.Arrived.{brings_octet, octet_came, all_octets, is_complete_in, number_above, top_in}
use Rattle.journal_account.specs.Arrived.{mark_in, expired_mark}
use Rattle.journal_account.proofs.Complete.{below_not, get_left}

silent_above : (e : FlowEvent) (n i : ℕ) → number_above e ≤ n → brings_octet e n i ≡ false
silent_above (SduTaken size) n i le = refl
silent_above (NumberWritten size) n i le = refl
silent_above (OctetsResent m from to) n i le = refl
silent_above (OctetsArrived m from to) n i le =
    ap (λ (b : Bool). b && (nat_le from i && nat_lt i to)) (ne_eqb m n (λ e. omega arith))
silent_above ReorderStarted n i le = refl
silent_above ReorderExpired n i le = refl
silent_above (StatusHeard ack entries) n i le = refl
silent_above (PollExpired more) n i le = refl

pub none_above : (es : List FlowEvent) (n i : ℕ) → top_in es ≤ n → octet_came es n i ≡ false
none_above [] n i le = refl
none_above (e ∷ es) n i le =
    or_from (brings_octet e n i) (octet_came es n i) (silent_above e n i (omega arith))
    (none_above es n i (omega arith))

pub mark_low : (es : List FlowEvent) → mark_in es ≤ top_in es
mark_low [] = omega arith
mark_low (SduTaken size ∷ es) = omega (arith, mark_low es)
mark_low (NumberWritten size ∷ es) = omega (arith, mark_low es)
mark_low (OctetsResent m from to ∷ es) = omega (arith, mark_low es)
mark_low (OctetsArrived m from to ∷ es) = omega (arith, mark_low es)
mark_low (ReorderStarted ∷ es) = omega arith
mark_low (ReorderExpired ∷ es) = omega (arith, mark_low es)
mark_low (StatusHeard ack entries ∷ es) = omega (arith, mark_low es)
mark_low (PollExpired more ∷ es) = omega (arith, mark_low es)

pub expired_low : (es : List FlowEvent) → expired_mark es ≤ top_in es
expired_low [] = omega arith
expired_low (SduTaken size ∷ es) = omega (arith, expired_low es)
expired_low (NumberWritten size ∷ es) = omega (arith, expired_low es)
expired_low (OctetsResent m from to ∷ es) = omega (arith, expired_low es)
expired_low (OctetsArrived m from to ∷ es) = omega (arith, expired_low es)
expired_low (ReorderStarted ∷ es) = omega (arith, expired_low es)
expired_low (ReorderExpired ∷ es) = omega (arith, expired_low es, mark_low es)
expired_low (StatusHeard ack entries ∷ es) = omega (arith, expired_low es)
expired_low (PollExpired more ∷ es) = omega (arith, expired_low es)

above_written : (e : FlowEvent) (es : List FlowEvent) → IsPossible e es → number_above e ≤ next_of es
above_written (SduTaken size) es h = omega arith
above_written (NumberWritten size) es h = omega arith
above_written (OctetsResent m from to) es h = omega arith
above_written (OctetsArrived m from to) es h = omega (arith, h.0)
above_written ReorderStarted es h = omega arith
above_written ReorderExpired es h = omega arith
above_written (StatusHeard ack entries) es h = omega arith
above_written (PollExpired more) es h = omega arith

pub top_written : (es : List FlowEvent) → IsHistory es → top_in es ≤ next_of es
top_written [] h = omega arith
top_written (e ∷ es) h =
    omega (arith, top_written es h.1, above_written e es h.0, length-append (field_sizes es) (size_in e))

-- ---- each number has an octet

some_last : (xs : List ℕ) (size n s : ℕ) → 0 < size → length xs ≤ n → slice_get (xs ++ size ∷ []) n ≡ Some s → 0 < s
some_last [] size zero s some le is = let same : size ≡ s = cc in omega arith
some_last [] size (suc n) s some le is = absurd cc
some_last (x ∷ xs) size zero s some le is = absurd (omega arith)
some_last (x ∷ xs) size (suc n) s some le is = some_last xs size n s some (omega arith) is

none_last : (xs : List ℕ) (n s : ℕ) → length xs ≤ n → slice_get (xs ++ []) n ≡ Some s → 0 < s
none_last xs n s le is =
    let none : slice_get (xs ++ []) n ≡ None =
    ap (λ (ys : List ℕ). slice_get ys n) (append-nil xs) ∙ slice_get_past xs n le in
    let never : None ≡ Some s = sym none ∙ is in
    absurd cc

some_in : (e : FlowEvent) (es : List FlowEvent) → IsPossible e es → (n s : ℕ) → next_of es ≤ n
    → slice_get (field_sizes es ++ size_in e) n ≡ Some s → 0 < s
some_in (NumberWritten size) es h n s le is = some_last (field_sizes es) size n s h le is
some_in (SduTaken size) es h n s le is = none_last (field_sizes es) n s le is
some_in (OctetsResent m from to) es h n s le is = none_last (field_sizes es) n s le is
some_in (OctetsArrived m from to) es h n s le is = none_last (field_sizes es) n s le is
some_in ReorderStarted es h n s le is = none_last (field_sizes es) n s le is
some_in ReorderExpired es h n s le is = none_last (field_sizes es) n s le is
some_in (StatusHeard ack entries) es h n s le is = none_last (field_sizes es) n s le is
some_in (PollExpired more) es h n s le is = none_last (field_sizes es) n s le is

pub each_some : (es : List FlowEvent) → IsHistory es → (n s : ℕ) → slice_get (field_sizes es) n ≡ Some s → 0 < s
each_some [] h n s is = absurd cc
each_some (e ∷ es) h n s is = elim (cases_lt n (next_of es)) [
  | inl lt ↦ each_some es h.1 n s (sym (get_left (field_sizes es) (size_in e) n lt) ∙ is)
  | inr le ↦ some_in e es h.0 n s le is
]

pub top_open : (es : List FlowEvent) → IsHistory es → is_complete_in es (top_in es) ≡ false
top_open es h = go (slice_get (field_sizes es) (top_in es)) (each_some es h (top_in es))
  where
    go : (o : Option ℕ) → ((s : ℕ) → o ≡ Some s → 0 < s) → all_octets (octet_came es (top_in es)) o ≡ false
    go None some = refl
    go (Some s) some =
        below_not (octet_came es (top_in es)) s 0 (some s refl) (none_above es (top_in es) 0 (omega arith))
