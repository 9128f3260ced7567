-- SDUs that the account of a flow keeps were submitted.
use Rattle.std.proofs.Common.{◌≡◌, ℕ, zero, suc, ◌-◌, ◌==◌, Bool, true, false, nat_lt, if◌then◌else◌, List, [], ◌∷◌}
use Rattle.std.proofs.Common.{◌++◌, take, drop, Some, None, slice_get, refl, subst, inl, inr}
use Rattle.std.specs.List.{AllByRecursion}
use Rattle.journal_takes.specs.TakeEvents.{TakeEvent, SduSubmitted, SduDiscarded, PduTaken, ReportTaken}
use Rattle.journal_takes.specs.TakeEvents.{PduConfirmed, ReportConfirmed, ReportHeard, LifeEnded}
use Rattle.journal_takes.specs.FlowTakes.{FlowTakes, taken_as, settled, takes_of, sdu_kept}
use Rattle.law_deliver.proofs.AmChannel.Ends.{all_more}
use Rattle.law_given.specs.SupplyPdus.{WasSubmitted, KeptWereSubmitted}

-- ---- of any property of the SDUs

-- of those that were submitted
abbrev pub WereSubmitted : (List ℕ → Type 0) → List TakeEvent → Type 0
WereSubmitted P [] = Unit {0}
WereSubmitted P (SduSubmitted sdu ∷ es) = P sdu × WereSubmitted P es
WereSubmitted P (e ∷ es) = WereSubmitted P es

abbrev Are : (List ℕ → Type 0) → List (List ℕ) → Type 0
Are P sdus = AllByRecursion P sdus

drops-are : (P : List ℕ → Type 0) (n : ℕ) (sdus : List (List ℕ)) → Are P sdus → Are P (drop n sdus)
drops-are P zero sdus h = h
drops-are P (suc n) [] h = tt
drops-are P (suc n) (sdu ∷ sdus) h = drops-are P n sdus h.1

takes-are : (P : List ℕ → Type 0) (n : ℕ) (sdus : List (List ℕ)) → Are P sdus → Are P (take n sdus)
takes-are P zero sdus h = tt
takes-are P (suc n) [] h = tt
takes-are P (suc n) (sdu ∷ sdus) h = (h.0, takes-are P n sdus h.1)

one-is : (P : List ℕ → Type 0) (sdus : List (List ℕ)) (k : ℕ) (sdu : List ℕ) → Are P sdus
    → slice_get sdus k ≡ Some sdu → P sdu
one-is P [] k sdu h e = let none : None ≡ Some sdu = e in absurd cc
one-is P (own ∷ sdus) zero sdu h e = let same : own ≡ sdu = cc in subst P same h.0
one-is P (own ∷ sdus) (suc k) sdu h e = one-is P sdus k sdu h.1 e

-- those that were taken, and those that wait
record KeptAre (P : List ℕ → Type 0) (t : FlowTakes) : Type 0 where
  sdus : Are P t.sdus
  waiting : Are P t.waiting

settled-are : (P : List ℕ → Type 0) (t : FlowTakes) → KeptAre P t → KeptAre P (settled t)
settled-are P t h = record { sdus = drops-are P _ t.sdus h.sdus; waiting = h.waiting }

taken-are : (P : List ℕ → Type 0) (anew : Bool) (count : ℕ) (t : FlowTakes) → KeptAre P t
    → KeptAre P (taken_as anew count t)
taken-are P true count t h = record {
  sdus = all_more P t.sdus (take 1 t.waiting) h.sdus (takes-are P 1 t.waiting h.waiting);
  waiting = drops-are P 1 t.waiting h.waiting;
}
taken-are P false count t h = record { sdus = h.sdus; waiting = h.waiting }

kept-are : (P : List ℕ → Type 0) (first bits : ℕ) (es : List TakeEvent) → WereSubmitted P es
    → KeptAre P (takes_of first bits es)
kept-are P first bits [] w = record { sdus = tt; waiting = tt }
kept-are P first bits (SduSubmitted sdu ∷ es) w =
    let h = kept-are P first bits es w.1 in
    record { sdus = h.sdus; waiting = all_more P (takes_of first bits es).waiting (sdu ∷ []) h.waiting (w.0, tt) }
kept-are P first bits (SduDiscarded ∷ es) w =
    let h = kept-are P first bits es w in
    record { sdus = h.sdus; waiting = drops-are P 1 (takes_of first bits es).waiting h.waiting }
kept-are P first bits (PduTaken count ∷ es) w =
    let t = takes_of first bits es in
    settled-are P (taken_as (count == t.next) count t)
    (taken-are P (count == t.next) count t (kept-are P first bits es w))
kept-are P first bits (ReportTaken ∷ es) w =
    let h = kept-are P first bits es w in
    record { sdus = h.sdus; waiting = h.waiting }
kept-are P first bits (PduConfirmed count ∷ es) w =
    let h = kept-are P first bits es w in
    settled-are P _ (record { sdus = h.sdus; waiting = h.waiting })
kept-are P first bits (ReportConfirmed ∷ es) w =
    let h = kept-are P first bits es w in
    record { sdus = h.sdus; waiting = h.waiting }
kept-are P first bits (ReportHeard fms marks ∷ es) w =
    let h = kept-are P first bits es w in
    settled-are P _ (record { sdus = h.sdus; waiting = h.waiting })
kept-are P first bits (LifeEnded report ∷ es) w =
    let h = kept-are P first bits es w in
    settled-are P _ (record { sdus = h.sdus; waiting = h.waiting })

one-kept : (P : List ℕ → Type 0) (t : FlowTakes) (below : Bool) (k : ℕ) (sdu : List ℕ) → KeptAre P t
    → (if below then None else slice_get (t.sdus ++ t.waiting) k) ≡ Some sdu → P sdu
one-kept P t true k sdu h e = let none : None ≡ Some sdu = e in absurd cc
one-kept P t false k sdu h e =
    one-is P (t.sdus ++ t.waiting) k sdu (all_more P t.sdus t.waiting h.sdus h.waiting) e

-- what holds of each SDU that was submitted holds of each that is kept
pub kept_hold : (P : List ℕ → Type 0) (first bits : ℕ) (es : List TakeEvent) (count : ℕ) (sdu : List ℕ)
    → WereSubmitted P es → sdu_kept count (takes_of first bits es) ≡ Some sdu → P sdu
kept_hold P first bits es count sdu w e =
    let t = takes_of first bits es in
    one-kept P t (nat_lt count t.from) (count - t.from) sdu (kept-are P first bits es w) e

-- ---- that they were submitted

-- so are those among the earlier events
were-so : (P Q : List ℕ → Type 0) (es : List TakeEvent) → ((sdu : List ℕ) → P sdu → Q sdu) → WereSubmitted P es
    → WereSubmitted Q es
were-so P Q [] f w = tt
were-so P Q (SduSubmitted sdu ∷ es) f w = (f sdu w.0, were-so P Q es f w.1)
were-so P Q (SduDiscarded ∷ es) f w = were-so P Q es f w
were-so P Q (PduTaken count ∷ es) f w = were-so P Q es f w
were-so P Q (ReportTaken ∷ es) f w = were-so P Q es f w
were-so P Q (PduConfirmed count ∷ es) f w = were-so P Q es f w
were-so P Q (ReportConfirmed ∷ es) f w = were-so P Q es f w
were-so P Q (ReportHeard fms marks ∷ es) f w = were-so P Q es f w
were-so P Q (LifeEnded report ∷ es) f w = were-so P Q es f w

all-were : (es : List TakeEvent) → WereSubmitted (λ sdu. WasSubmitted sdu es) es
all-were [] = tt
all-were (SduSubmitted own ∷ es) = (
  inl refl,
  were-so (λ sdu. WasSubmitted sdu es) (λ sdu. WasSubmitted sdu (SduSubmitted own ∷ es)) es
      (λ sdu h. inr h) (all-were es),
)
all-were (SduDiscarded ∷ es) = all-were es
all-were (PduTaken count ∷ es) = all-were es
all-were (ReportTaken ∷ es) = all-were es
all-were (PduConfirmed count ∷ es) = all-were es
all-were (ReportConfirmed ∷ es) = all-were es
all-were (ReportHeard fms marks ∷ es) = all-were es
all-were (LifeEnded report ∷ es) = all-were es

pub kept_were_submitted : KeptWereSubmitted
kept_were_submitted first bits es count sdu e =
    kept_hold (λ own. WasSubmitted own es) first bits es count sdu (all-were es) e
