-- The SDUs that are kept, told event by event, are those that are taken, and behind them those that
-- wait.
use Rattle.std.proofs.Common.{◌≡◌, ◌<◌, ◌≤◌, ℕ, zero, suc, ◌+◌, ◌-◌, ◌==◌, Bool, true, false, List, [], ◌∷◌, ◌++◌}
use Rattle.std.proofs.Common.{length, take, drop, Option, Some, None, refl, ap, sym, ◌∙◌, arith}
use Rattle.std.proofs.Common.{if◌then◌else◌, inl, inr}
use Rattle.std.proofs.Common.{append_assoc, append-nil}
use Rattle.std.specs.List.{filter}
use Rattle.std.proofs.lemmas.Bool.{cases_eq, eq-eqb, ne_eqb}
use Rattle.std.proofs.lemmas.List.{length-append, length_push}
use Rattle.promises.specs.Taken.{were_taken, chosen}
use Rattle.journal_takes.specs.TakeEvents.{TakeEvent, SduSubmitted, SduDiscarded, PduTaken, next_new, kept, without}
use Rattle.promises.specs.WaitingSdus.{Queue, MayLeave}

abbrev Sdus : Type 0
Sdus = List (List ℕ)

-- ---- which wait

abbrev pub IsWaiting : ℕ → TakeEvent → List TakeEvent → Type 0
IsWaiting first SduDiscarded es = next_new first es - first < length (kept first es)
IsWaiting first (PduTaken count) es =
    (count ≤ next_new first es) × (count ≡ next_new first es → next_new first es - first < length (kept first es))
IsWaiting first e es = Unit {0}

-- ---- which are taken

-- the next COUNT behind some that leave
abbrev pub next_taken : ℕ → List (Option ℕ) → ℕ
next_taken next [] = next
next_taken next (None ∷ leaving) = next_taken next leaving
next_taken next (Some count ∷ leaving) =
    if count == next then next_taken (next + 1) leaving else next_taken next leaving

taken_both : (next : ℕ) (xs ys : List (Option ℕ))
    → were_taken next (xs ++ ys) ≡ were_taken next xs ++ were_taken (next_taken next xs) ys
taken_both next [] ys = refl
taken_both next (None ∷ xs) ys = ap (λ (bs : List Bool). false ∷ bs) (taken_both next xs ys)
taken_both next (Some count ∷ xs) ys =
    by (count == next) (taken_both (next + 1) xs ys) (taken_both next xs ys)
  where
    by : (b : Bool) → were_taken (next + 1) (xs ++ ys)
        ≡ were_taken (next + 1) xs ++ were_taken (next_taken (next + 1) xs) ys
        → were_taken next (xs ++ ys) ≡ were_taken next xs ++ were_taken (next_taken next xs) ys
        → (if b then true ∷ were_taken (next + 1) (xs ++ ys) else were_taken next (xs ++ ys))
        ≡ (if b then true ∷ were_taken (next + 1) xs else were_taken next xs)
        ++ were_taken (if b then next_taken (next + 1) xs else next_taken next xs) ys
    by true new old = ap (λ (bs : List Bool). true ∷ bs) new
    by false new old = old

next_both : (next : ℕ) (xs ys : List (Option ℕ)) → next_taken next (xs ++ ys) ≡ next_taken (next_taken next xs) ys
next_both next [] ys = refl
next_both next (None ∷ xs) ys = next_both next xs ys
next_both next (Some count ∷ xs) ys = by (count == next) (next_both (next + 1) xs ys) (next_both next xs ys)
  where
    by : (b : Bool) → next_taken (next + 1) (xs ++ ys) ≡ next_taken (next_taken (next + 1) xs) ys
        → next_taken next (xs ++ ys) ≡ next_taken (next_taken next xs) ys
        → (if b then next_taken (next + 1) (xs ++ ys) else next_taken next (xs ++ ys))
        ≡ next_taken (if b then next_taken (next + 1) xs else next_taken next xs) ys
    by true new old = new
    by false new old = old

-- how many
count_is : (next : ℕ) (xs : List (Option ℕ)) (subs : Sdus) → length (were_taken next xs) ≤ length subs
    → next + length (chosen (were_taken next xs) subs) ≡ next_taken next xs
count_is next [] subs le = omega arith
count_is next (None ∷ xs) [] le = absurd (omega (arith, le))
count_is next (None ∷ xs) (s ∷ subs) le = count_is next xs subs (omega (arith, le))
count_is next (Some count ∷ xs) subs le =
    by (count == next) subs le (λ rest lt. count_is (next + 1) xs rest lt) (λ lt. count_is next xs subs lt)
  where
    by : (b : Bool) (subs : Sdus)
        → length (if b then true ∷ were_taken (next + 1) xs else were_taken next xs) ≤ length subs
        → ((rest : Sdus) → length (were_taken (next + 1) xs) ≤ length rest
        → next + 1 + length (chosen (were_taken (next + 1) xs) rest) ≡ next_taken (next + 1) xs)
        → (length (were_taken next xs) ≤ length subs
        → next + length (chosen (were_taken next xs) subs) ≡ next_taken next xs)
        → next + length (chosen (if b then true ∷ were_taken (next + 1) xs else were_taken next xs) subs)
        ≡ (if b then next_taken (next + 1) xs else next_taken next xs)
    by true [] le new old = absurd (omega (arith, le))
    by true (s ∷ rest) le new old = let n = new rest (omega (arith, le)) in omega (arith, n)
    by false subs le new old = old le

-- ---- lists

chosen_more : (bs : List Bool) (subs more : Sdus) → length bs ≤ length subs → chosen bs (subs ++ more) ≡ chosen bs subs
chosen_more [] subs more le = refl
chosen_more (b ∷ bs) [] more le = absurd (omega (arith, le))
chosen_more (true ∷ bs) (s ∷ subs) more le =
    ap (λ (xs : Sdus). s ∷ xs) (chosen_more bs subs more (omega (arith, le)))
chosen_more (false ∷ bs) (s ∷ subs) more le = chosen_more bs subs more (omega (arith, le))

drop_within : (n : ℕ) (subs more : Sdus) → n ≤ length subs → drop n (subs ++ more) ≡ drop n subs ++ more
drop_within zero subs more le = refl
drop_within (suc n) [] more le = absurd (omega (arith, le))
drop_within (suc n) (s ∷ subs) more le = drop_within n subs more (omega (arith, le))

chosen_left : (bs : List Bool) (subs : Sdus) → chosen (bs ++ false ∷ []) subs ≡ chosen bs subs
chosen_left [] [] = refl
chosen_left [] (s ∷ subs) = refl
chosen_left (b ∷ bs) [] = refl
chosen_left (true ∷ bs) (s ∷ subs) = ap (λ (xs : Sdus). s ∷ xs) (chosen_left bs subs)
chosen_left (false ∷ bs) (s ∷ subs) = chosen_left bs subs

chosen_one : (bs : List Bool) (subs : Sdus) → length bs < length subs
    → chosen (bs ++ true ∷ []) subs ++ drop (length (bs ++ true ∷ [])) subs ≡ chosen bs subs ++ drop (length bs) subs
chosen_one [] [] lt = absurd (omega (arith, lt))
chosen_one [] (s ∷ subs) lt = refl
chosen_one (b ∷ bs) [] lt = absurd (omega (arith, lt))
chosen_one (true ∷ bs) (s ∷ subs) lt = ap (λ (xs : Sdus). s ∷ xs) (chosen_one bs subs (omega (arith, lt)))
chosen_one (false ∷ bs) (s ∷ subs) lt = chosen_one bs subs (omega (arith, lt))

without_at : (xs ys : Sdus) → without (length xs) (xs ++ ys) ≡ xs ++ drop 1 ys
without_at [] [] = refl
without_at [] (y ∷ ys) = refl
without_at (x ∷ xs) ys =
    let next : suc (length xs) + 1 ≡ suc (length xs + 1) = omega arith in
    ap (λ (n : ℕ). (x ∷ take (length xs) (xs ++ ys)) ++ drop n (x ∷ (xs ++ ys))) next
    ∙ ap (λ (zs : Sdus). x ∷ zs) (without_at xs ys)

drop_next : (n : ℕ) (xs : Sdus) → drop 1 (drop n xs) ≡ drop (suc n) xs
drop_next zero xs = refl
drop_next (suc n) [] = refl
drop_next (suc n) (x ∷ xs) = drop_next n xs

-- ---- both agree

pub record SdusAgree (first : ℕ) (es : List TakeEvent) (leaving : List (Option ℕ)) (subs : List (List ℕ))
    : Type 0 where
  pub kept_are : kept first es
      ≡ chosen (were_taken first leaving) subs ++ drop (length (were_taken first leaving)) subs
  pub many : length (were_taken first leaving) ≤ length subs
  pub next_is : next_new first es ≡ next_taken first leaving

pub none_agree : (first : ℕ) → SdusAgree first [] [] []
none_agree first = record { kept_are = refl; many = omega arith; next_is = refl }

pub submitted_agrees : (first : ℕ) (es : List TakeEvent) (leaving : List (Option ℕ)) (subs : List (List ℕ))
    (sdu : List ℕ) → SdusAgree first es leaving subs
    → SdusAgree first (SduSubmitted sdu ∷ es) leaving (subs ++ sdu ∷ [])
submitted_agrees first es leaving subs sdu h =
    let bs : List Bool = were_taken first leaving in
    record {
      kept_are =
          ap (λ (xs : Sdus). xs ++ sdu ∷ []) h.kept_are
          ∙ append_assoc (chosen (were_taken first leaving) subs) (drop (length (were_taken first leaving)) subs)
          (sdu ∷ [])
          ∙ ap (λ (xs : Sdus). chosen (were_taken first leaving) subs ++ xs)
          (sym (drop_within (length (were_taken first leaving)) subs (sdu ∷ []) h.many))
          ∙ ap (λ (xs : Sdus). xs ++ drop (length (were_taken first leaving)) (subs ++ sdu ∷ []))
          (sym (chosen_more bs subs (sdu ∷ []) h.many));
      many = omega (arith, h.many, length_push subs sdu);
      next_is = h.next_is;
    }

-- how many wait
all_kept : (first : ℕ) (es : List TakeEvent) (leaving : List (Option ℕ)) (subs : List (List ℕ))
    → SdusAgree first es leaving subs
    → length (kept first es) ≡ (next_new first es - first) + (length subs - length (were_taken first leaving))
all_kept first es leaving subs h =
    let n = count_is first leaving subs h.many in
    let k = ap (length {A = List ℕ}) h.kept_are
    ∙ length-append (chosen (were_taken first leaving) subs) (drop (length (were_taken first leaving)) subs) in
    let d = dropped (length (were_taken first leaving)) subs in
    omega (arith, n, k, d, h.next_is)
  where
    dropped : (n : ℕ) (xs : Sdus) → length (drop n xs) ≡ length xs - n
    dropped zero xs = omega arith
    dropped (suc n) [] = omega arith
    dropped (suc n) (x ∷ xs) = let ih = dropped n xs in omega (arith, ih)

pub discarded_agrees : (first : ℕ) (es : List TakeEvent) (leaving : List (Option ℕ)) (subs : List (List ℕ))
    → IsWaiting first SduDiscarded es → SdusAgree first es leaving subs
    → SdusAgree first (SduDiscarded ∷ es) (leaving ++ None ∷ []) subs
discarded_agrees first es leaving subs waits h =
    let bs : List Bool = were_taken first leaving in
    let grown : were_taken first (leaving ++ None ∷ []) ≡ were_taken first leaving ++ false ∷ [] =
    taken_both first leaving (None ∷ []) in
    let room : length (were_taken first leaving) < length subs =
    omega (arith, all_kept first es leaving subs h, waits, h.many) in
    let n = count_is first leaving subs h.many in
    let at : next_new first es - first ≡ length (chosen (were_taken first leaving) subs) =
    omega (arith, n, h.next_is) in
    let long : length (were_taken first leaving ++ false ∷ []) ≡ suc (length (were_taken first leaving)) =
    omega (arith, length_push bs false) in
    record {
      kept_are =
          ap (λ (xs : Sdus). without (next_new first es - first) xs) h.kept_are
          ∙ ap (λ (m : ℕ). without m (chosen (were_taken first leaving) subs
          ++ drop (length (were_taken first leaving)) subs)) at
          ∙ without_at (chosen (were_taken first leaving) subs) (drop (length (were_taken first leaving)) subs)
          ∙ ap (λ (xs : Sdus). chosen (were_taken first leaving) subs ++ xs)
          (drop_next (length (were_taken first leaving)) subs)
          ∙ ap (λ (xs : Sdus). xs ++ drop (suc (length (were_taken first leaving))) subs) (sym (chosen_left bs subs))
          ∙ ap (λ (m : ℕ). chosen (were_taken first leaving ++ false ∷ []) subs ++ drop m subs) (sym long)
          ∙ ap (λ (cs : List Bool). chosen cs subs ++ drop (length cs) subs) (sym grown);
      many = omega (arith, room, long, ap (length {A = Bool}) grown);
      next_is = h.next_is ∙ sym (next_both first leaving (None ∷ []));
    }

first_time : (first count : ℕ) (es : List TakeEvent) (leaving : List (Option ℕ)) (subs : List (List ℕ))
    → IsWaiting first (PduTaken count) es → SdusAgree first es leaving subs → count ≡ next_taken first leaving
    → SdusAgree first (PduTaken count ∷ es) (leaving ++ Some count ∷ []) subs
first_time first count es leaving subs waits h new =
    let bs : List Bool = were_taken first leaving in
    let test : (count == next_taken first leaving) ≡ true = eq-eqb count (next_taken first leaving) new in
    let grown : were_taken first (leaving ++ Some count ∷ []) ≡ were_taken first leaving ++ true ∷ [] =
    taken_both first leaving (Some count ∷ [])
    ∙ ap (λ (b : Bool). were_taken first leaving ++ (if b then true ∷ [] else [])) test in
    let same : count ≡ next_new first es = new ∙ sym h.next_is in
    let room : length (were_taken first leaving) < length subs =
    omega (arith, all_kept first es leaving subs h, waits.1 same, h.many) in
    let long : length (were_taken first leaving ++ true ∷ []) ≡ suc (length (were_taken first leaving)) =
    omega (arith, length_push bs true) in
    let next : next_taken first (leaving ++ Some count ∷ []) ≡ next_taken first leaving + 1 =
    next_both first leaving (Some count ∷ [])
    ∙ ap (λ (b : Bool). if b then next_taken first leaving + 1 else next_taken first leaving) test in
    record {
      kept_are =
          h.kept_are ∙ sym (chosen_one bs subs room)
          ∙ ap (λ (cs : List Bool). chosen cs subs ++ drop (length cs) subs) (sym grown);
      many = omega (arith, room, long, ap (length {A = Bool}) grown);
      next_is = omega (arith, next, new, h.next_is);
    }

again : (first count : ℕ) (es : List TakeEvent) (leaving : List (Option ℕ)) (subs : List (List ℕ))
    → IsWaiting first (PduTaken count) es → SdusAgree first es leaving subs
    → (count ≡ next_taken first leaving → ⊥)
    → SdusAgree first (PduTaken count ∷ es) (leaving ++ Some count ∷ []) subs
again first count es leaving subs waits h old =
    let test : (count == next_taken first leaving) ≡ false = ne_eqb count (next_taken first leaving) old in
    let same : were_taken first (leaving ++ Some count ∷ []) ≡ were_taken first leaving =
    taken_both first leaving (Some count ∷ [])
    ∙ ap (λ (b : Bool). were_taken first leaving ++ (if b then true ∷ [] else [])) test
    ∙ append-nil (were_taken first leaving) in
    let next : next_taken first (leaving ++ Some count ∷ []) ≡ next_taken first leaving =
    next_both first leaving (Some count ∷ [])
    ∙ ap (λ (b : Bool). if b then next_taken first leaving + 1 else next_taken first leaving) test in
    record {
      kept_are = h.kept_are ∙ ap (λ (cs : List Bool). chosen cs subs ++ drop (length cs) subs) (sym same);
      many = omega (arith, h.many, ap (length {A = Bool}) same);
      next_is = omega (arith, next, h.next_is, waits.0, old);
    }

pub taken_agrees : (first count : ℕ) (es : List TakeEvent) (leaving : List (Option ℕ)) (subs : List (List ℕ))
    → IsWaiting first (PduTaken count) es → SdusAgree first es leaving subs
    → SdusAgree first (PduTaken count ∷ es) (leaving ++ Some count ∷ []) subs
taken_agrees first count es leaving subs waits h = elim (cases_eq count (next_taken first leaving)) [
  | inl new ↦ first_time first count es leaving subs waits h new
  | inr old ↦ again first count es leaving subs waits h old
]

-- ---- those that may leave wait

abbrev pub queue_of : List (Option ℕ) → List (List ℕ) → Queue
queue_of leaving subs = record { leaving = leaving; submitted = length subs }

next_is_count : (next : ℕ) (leaving : List (Option ℕ))
    → next_taken next leaving ≡ next + length (filter (λ (b : Bool). b) (were_taken next leaving))
next_is_count next [] = omega arith
next_is_count next (None ∷ leaving) = next_is_count next leaving
next_is_count next (Some count ∷ leaving) =
    by (count == next) (next_is_count (next + 1) leaving) (next_is_count next leaving)
  where
    by : (b : Bool)
        → next_taken (next + 1) leaving
        ≡ next + 1 + length (filter (λ (b : Bool). b) (were_taken (next + 1) leaving))
        → next_taken next leaving ≡ next + length (filter (λ (b : Bool). b) (were_taken next leaving))
        → (if b then next_taken (next + 1) leaving else next_taken next leaving)
        ≡ next + length (filter (λ (b : Bool). b)
        (if b then true ∷ were_taken (next + 1) leaving else were_taken next leaving))
    by true new old = omega (arith, new)
    by false new old = old

pub discard_waits : (first : ℕ) (es : List TakeEvent) (leaving : List (Option ℕ)) (subs : List (List ℕ))
    → SdusAgree first es leaving subs → MayLeave first (queue_of leaving subs) None → IsWaiting first SduDiscarded es
discard_waits first es leaving subs h may = omega (arith, all_kept first es leaving subs h, may)

pub take_waits : (first count : ℕ) (es : List TakeEvent) (leaving : List (Option ℕ)) (subs : List (List ℕ))
    → SdusAgree first es leaving subs → MayLeave first (queue_of leaving subs) (Some count)
    → IsWaiting first (PduTaken count) es
take_waits first count es leaving subs h may =
    let next = next_is_count first leaving in (
      omega (arith, may.0, next, h.next_is),
      λ same.
          let waits = may.1 (same ∙ h.next_is ∙ next) in omega (arith, all_kept first es leaving subs h, waits),
    )
