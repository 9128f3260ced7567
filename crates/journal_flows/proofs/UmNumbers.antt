-- What is kept of an unacknowledged flow is that of its history, and tells the next number and place.
use Rattle.std.proofs.Common.{◌≡◌, ℕ, suc, ◌+◌, ◌-◌, Bool, true, false, List, [], ◌∷◌, ◌++◌, length, refl, ap, sym, ◌∙◌}
use Rattle.std.proofs.Common.{arith, if◌then◌else◌, append-nil}
use Rattle.std.specs.Prelude.{nat_le}
use Rattle.std.proofs.lemmas.Bool.{leb-true, le-leb}
use Rattle.std.proofs.lemmas.List.{length-append}
use Rattle.journal_account.specs.FlowEvents.{FlowEvent, SduTaken, NumberWritten, OctetsResent, OctetsArrived}
use Rattle.journal_account.specs.FlowEvents.{ReorderStarted, ReorderExpired, StatusHeard, PollExpired}
use Rattle.journal_account.specs.FlowEvents.{field_sizes, next_of}
use Rattle.journal_account.specs.Stream.{place_of, end_of_all, sdu_sizes}
use Rattle.journal_account.proofs.Along.{place_pushed}
use Rattle.journal_flows.specs.UmPdus.{UmFlowEvent, AtSender, AtReceiver, LifeEnded, ended_by, place_next}
use Rattle.journal_flows.specs.UmKept.{UmSender, settled, sender_with, sender_of, ends_with, ends_of}

-- ---- each event of the sender, by what was taken and written so far

abbrev as_it_is : ℕ → ℕ → ℕ → List ℕ → UmSender
as_it_is n e i xs = record { next = n; ended = e; into = i; left = xs }

settled_next : (n e i : ℕ) (xs : List ℕ) → (settled n e i xs).next ≡ n
settled_next n e i [] = refl
settled_next n e i (x ∷ xs) = by (nat_le x i) (settled_next n (e + 1) (i - x) xs)
  where
    by : (b : Bool) → (settled n (e + 1) (i - x) xs).next ≡ n
        → (if b then settled n (e + 1) (i - x) xs
        else record { next = n; ended = e; into = i; left = x ∷ xs }).next ≡ n
    by true rest = rest
    by false rest = refl

settled_ended : (n e i : ℕ) (xs : List ℕ) → (settled n e i xs).ended ≡ e + ended_by i xs
settled_ended n e i [] = omega arith
settled_ended n e i (x ∷ xs) = by (nat_le x i) (settled_ended n (e + 1) (i - x) xs)
  where
    by : (b : Bool) → (settled n (e + 1) (i - x) xs).ended ≡ e + 1 + ended_by (i - x) xs
        → (if b then settled n (e + 1) (i - x) xs
        else record { next = n; ended = e; into = i; left = x ∷ xs }).ended
        ≡ e + (if b then ended_by (i - x) xs + 1 else 0)
    by true rest = rest ∙ omega arith
    by false rest = omega arith

takes : (n e i size : ℕ) (xs : List ℕ)
    → sender_with (SduTaken size) (settled n e i xs) ≡ settled n e i (xs ++ size ∷ [])
takes n e i size [] = refl
takes n e i size (x ∷ xs) = by (nat_le x i) refl (takes n (e + 1) (i - x) size xs)
  where
    by : (b : Bool) → nat_le x i ≡ b
        → sender_with (SduTaken size) (settled n (e + 1) (i - x) xs)
        ≡ settled n (e + 1) (i - x) (xs ++ size ∷ [])
        → sender_with (SduTaken size) (if b then settled n (e + 1) (i - x) xs
        else record { next = n; ended = e; into = i; left = x ∷ xs })
        ≡ (if b then settled n (e + 1) (i - x) (xs ++ size ∷ [])
        else record { next = n; ended = e; into = i; left = x ∷ xs ++ size ∷ [] })
    by true is rest = rest
    by false is rest =
        ap (λ (b : Bool). if b then settled n (e + 1) (i - x) (xs ++ size ∷ [])
        else as_it_is n e i (x ∷ xs ++ size ∷ [])) is

writes : (n e i size : ℕ) (xs : List ℕ)
    → sender_with (NumberWritten size) (settled n e i xs) ≡ settled (n + 1) e (i + size) xs
writes n e i size [] = refl
writes n e i size (x ∷ xs) = by (nat_le x i) refl (writes n (e + 1) (i - x) size xs)
  where
    by : (b : Bool) → nat_le x i ≡ b
        → sender_with (NumberWritten size) (settled n (e + 1) (i - x) xs)
        ≡ settled (n + 1) (e + 1) (i - x + size) xs
        → sender_with (NumberWritten size) (if b then settled n (e + 1) (i - x) xs
        else record { next = n; ended = e; into = i; left = x ∷ xs })
        ≡ settled (n + 1) e (i + size) (x ∷ xs)
    by true is rest =
        let within = leb-true x i is in
        let left : i - x + size ≡ i + size - x = omega (arith, within) in
        rest ∙ ap (λ (k : ℕ). settled (n + 1) (e + 1) k xs) left
        ∙ ap (λ (b : Bool). if b then settled (n + 1) (e + 1) (i + size - x) xs
        else as_it_is (n + 1) e (i + size) (x ∷ xs))
        (sym (le-leb x (i + size) (omega (arith, within))))
    by false is rest = refl

-- ---- the sender of a history

abbrev by_sizes : List ℕ → List ℕ → UmSender
by_sizes fields sdus = settled (length fields) 0 (end_of_all fields) sdus

nothing_more : (s : UmSender) (fields sdus : List ℕ) → s ≡ by_sizes fields sdus
    → s ≡ by_sizes (fields ++ []) (sdus ++ [])
nothing_more s fields sdus is =
    is ∙ ap (λ (xs : List ℕ). by_sizes xs sdus) (sym (append-nil fields))
    ∙ ap (λ (xs : List ℕ). by_sizes (fields ++ []) xs) (sym (append-nil sdus))

pub sender_is : (es : List FlowEvent) → sender_of es ≡ by_sizes (field_sizes es) (sdu_sizes es)
sender_is [] = refl
sender_is (SduTaken size ∷ es) =
    ap (sender_with (SduTaken size)) (sender_is es)
    ∙ takes (next_of es) 0 (end_of_all (field_sizes es)) size (sdu_sizes es)
    ∙ ap (λ (xs : List ℕ). by_sizes xs (sdu_sizes es ++ size ∷ [])) (sym (append-nil (field_sizes es)))
sender_is (NumberWritten size ∷ es) =
    let fields = field_sizes es in
    let more : length (fields ++ size ∷ []) ≡ length fields + 1 = length-append fields (size ∷ []) in
    let end : end_of_all (fields ++ size ∷ []) ≡ end_of_all fields + size = pushed fields size in
    ap (sender_with (NumberWritten size)) (sender_is es)
    ∙ writes (next_of es) 0 (end_of_all (field_sizes es)) size (sdu_sizes es)
    ∙ ap (λ (n : ℕ). settled n 0 (end_of_all (field_sizes es) + size) (sdu_sizes es)) (sym more)
    ∙ ap (λ (k : ℕ). settled (length (field_sizes es ++ size ∷ [])) 0 k (sdu_sizes es)) (sym end)
    ∙ ap (λ (xs : List ℕ). by_sizes (field_sizes es ++ size ∷ []) xs) (sym (append-nil (sdu_sizes es)))
  where
    pushed : (xs : List ℕ) (s : ℕ) → end_of_all (xs ++ s ∷ []) ≡ end_of_all xs + s
    pushed xs s =
        let more : length (xs ++ s ∷ []) ≡ suc (length xs) = length-append xs (s ∷ []) ∙ omega arith in
        ap (λ (n : ℕ). place_of (xs ++ s ∷ []) n) more ∙ place_pushed xs s
sender_is (OctetsResent n from to ∷ es) =
    nothing_more (sender_of es) (field_sizes es) (sdu_sizes es) (sender_is es)
sender_is (OctetsArrived n from to ∷ es) =
    nothing_more (sender_of es) (field_sizes es) (sdu_sizes es) (sender_is es)
sender_is (ReorderStarted ∷ es) =
    nothing_more (sender_of es) (field_sizes es) (sdu_sizes es) (sender_is es)
sender_is (ReorderExpired ∷ es) =
    nothing_more (sender_of es) (field_sizes es) (sdu_sizes es) (sender_is es)
sender_is (StatusHeard ack entries ∷ es) =
    nothing_more (sender_of es) (field_sizes es) (sdu_sizes es) (sender_is es)
sender_is (PollExpired more ∷ es) =
    nothing_more (sender_of es) (field_sizes es) (sdu_sizes es) (sender_is es)

pub um_next_is : (es : List FlowEvent) → (sender_of es).next ≡ next_of es
um_next_is es =
    ap (λ (s : UmSender). s.next) (sender_is es)
    ∙ settled_next (next_of es) 0 (end_of_all (field_sizes es)) (sdu_sizes es)

pub um_place_is : (es : List FlowEvent) → (sender_of es).ended ≡ place_next es
um_place_is es =
    ap (λ (s : UmSender). s.ended) (sender_is es)
    ∙ settled_ended (next_of es) 0 (end_of_all (field_sizes es)) (sdu_sizes es) ∙ omega arith

-- ---- both ends

pub ends_are : (width many : ℕ) (e : UmFlowEvent) (es : List UmFlowEvent)
    → ends_with e (ends_of width many es) ≡ ends_of width many (e ∷ es)
ends_are width many (AtSender e) es = refl
ends_are width many (AtReceiver e) es = refl
ends_are width many LifeEnded es = refl
