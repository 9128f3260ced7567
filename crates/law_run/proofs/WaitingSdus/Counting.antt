-- SDUs that leave a queue in turn, and of which no more leave than were submitted, wait as they leave.
use Rattle.std.proofs.Common.{◌≡◌, ◌≤◌, ◌⊎◌, inl, inr, ℕ, ◌+◌, ◌==◌, Bool, true, false, if◌then◌else◌, Option}
use Rattle.std.proofs.Common.{Some, None, List, [], ◌∷◌, ◌++◌, length, append-nil, append_assoc, refl, ap, sym, subst}
use Rattle.std.proofs.Common.{◌∙◌, arith}
use Rattle.std.specs.List.{filter, flat_map}
use Rattle.std.proofs.lemmas.Bool.Decides.{nat_tests}
use Rattle.std.proofs.lemmas.Grind.{flat_map-append}
use Rattle.std.proofs.lemmas.List.{length-append}
use Rattle.air_record.specs.declared.record.Record.{Record}
use Rattle.l2_types.specs.declared.side.Side.{Side}
use Rattle.promises.specs.Flows.{looped_at}
use Rattle.promises.specs.Records.{event_of, events_of}
use Rattle.promises.specs.Taken.{leaving_in, were_taken}
use Rattle.promises.specs.WaitingSdus.{Queue, with_left, AllMayLeave, left_by, after_record}
use Rattle.promises.specs.WaitingSdus.{after_records, EachMayLeave}
use Rattle.law_run.proofs.EmptyLists.{parts_empty}
use Rattle.law_run.proofs.TwoEnds.Along.{looped_more, nothing_looped}

-- ---- the next COUNT

-- behind some that leave
abbrev pub next_behind : ℕ → List (Option ℕ) → ℕ
next_behind next [] = next
next_behind next (None ∷ leaving) = next_behind next leaving
next_behind next (Some count ∷ leaving) =
    if count == next then next_behind (next + 1) leaving else next_behind next leaving

pub taken_both : (next : ℕ) (xs ys : List (Option ℕ))
    → were_taken next (xs ++ ys) ≡ were_taken next xs ++ were_taken (next_behind next xs) ys
taken_both next [] ys = refl
taken_both next (None ∷ xs) ys = ap (λ (bs : List Bool). false ∷ bs) (taken_both next xs ys)
taken_both next (Some count ∷ xs) ys = by (count == next) (taken_both (next + 1) xs ys) (taken_both next xs ys)
  where
    by : (b : Bool) → were_taken (next + 1) (xs ++ ys)
        ≡ were_taken (next + 1) xs ++ were_taken (next_behind (next + 1) xs) ys
        → were_taken next (xs ++ ys) ≡ were_taken next xs ++ were_taken (next_behind next xs) ys
        → (if b then true ∷ were_taken (next + 1) (xs ++ ys) else were_taken next (xs ++ ys))
        ≡ (if b then true ∷ were_taken (next + 1) xs else were_taken next xs)
        ++ were_taken (if b then next_behind (next + 1) xs else next_behind next xs) ys
    by true new old = ap (λ (bs : List Bool). true ∷ bs) new
    by false new old = old

pub next_both : (next : ℕ) (xs ys : List (Option ℕ))
    → next_behind next (xs ++ ys) ≡ next_behind (next_behind next xs) ys
next_both next [] ys = refl
next_both next (None ∷ xs) ys = next_both next xs ys
next_both next (Some count ∷ xs) ys = by (count == next) (next_both (next + 1) xs ys) (next_both next xs ys)
  where
    by : (b : Bool) → next_behind (next + 1) (xs ++ ys) ≡ next_behind (next_behind (next + 1) xs) ys
        → next_behind next (xs ++ ys) ≡ next_behind (next_behind next xs) ys
        → (if b then next_behind (next + 1) (xs ++ ys) else next_behind next (xs ++ ys))
        ≡ next_behind (if b then next_behind (next + 1) xs else next_behind next xs) ys
    by true new old = new
    by false new old = old

abbrev pub firsts : List Bool → ℕ
firsts bs = length (filter (λ taken. taken) bs)

pub next_is : (next : ℕ) (xs : List (Option ℕ)) → next_behind next xs ≡ next + firsts (were_taken next xs)
next_is next [] = omega arith
next_is next (None ∷ xs) = next_is next xs
next_is next (Some count ∷ xs) = by (count == next) (next_is (next + 1) xs) (next_is next xs)
  where
    by : (b : Bool) → next_behind (next + 1) xs ≡ next + 1 + firsts (were_taken (next + 1) xs)
        → next_behind next xs ≡ next + firsts (were_taken next xs)
        → (if b then next_behind (next + 1) xs else next_behind next xs)
        ≡ next + firsts (if b then true ∷ were_taken (next + 1) xs else were_taken next xs)
    by true new old = omega (arith, new)
    by false new old = old

-- ---- none is taken ahead of its turn

abbrev pub InTurn : ℕ → List (Option ℕ) → Type 0
InTurn next [] = Unit {0}
InTurn next (None ∷ leaving) = InTurn next leaving
InTurn next (Some count ∷ leaving) = (count ≤ next) × InTurn (if count == next then next + 1 else next) leaving

next_if : (b : Bool) (next : ℕ) (xs : List (Option ℕ)) → next_behind (if b then next + 1 else next) xs
    ≡ (if b then next_behind (next + 1) xs else next_behind next xs)
next_if true next xs = refl
next_if false next xs = refl

pub turn_both : (next : ℕ) (xs ys : List (Option ℕ)) → InTurn next xs → InTurn (next_behind next xs) ys
    → InTurn next (xs ++ ys)
turn_both next [] ys h k = k
turn_both next (None ∷ xs) ys h k = turn_both next xs ys h k
turn_both next (Some count ∷ xs) ys h k = (
  h.0,
  turn_both (if count == next then next + 1 else next) xs ys h.1
      (subst (λ (n : ℕ). InTurn n ys) (sym (next_if (count == next) next xs)) k),
)

pub turn_front : (next : ℕ) (xs ys : List (Option ℕ)) → InTurn next (xs ++ ys) → InTurn next xs
turn_front next [] ys h = tt
turn_front next (None ∷ xs) ys h = turn_front next xs ys h
turn_front next (Some count ∷ xs) ys h = (h.0, turn_front (if count == next then next + 1 else next) xs ys h.1)

pub turn_back : (next : ℕ) (xs ys : List (Option ℕ)) → InTurn next (xs ++ ys) → InTurn (next_behind next xs) ys
turn_back next [] ys h = h
turn_back next (None ∷ xs) ys h = turn_back next xs ys h
turn_back next (Some count ∷ xs) ys h =
    subst (λ (n : ℕ). InTurn n ys) (next_if (count == next) next xs)
    (turn_back (if count == next then next + 1 else next) xs ys h.1)

-- ---- so each waits

abbrev pub gone : ℕ → List (Option ℕ) → ℕ
gone first leaving = length (were_taken first leaving)

pub gone_both : (first : ℕ) (xs ys : List (Option ℕ))
    → gone first (xs ++ ys) ≡ gone first xs + gone (next_behind first xs) ys
gone_both first xs ys = ap length (taken_both first xs ys)
    ∙ length-append (were_taken first xs) (were_taken (next_behind first xs) ys)

new_gone : (count next : ℕ) (ms : List (Option ℕ)) → count ≡ next → 1 ≤ gone next (Some count ∷ ms)
new_gone count next ms e =
    let same : (count == next) ≡ true = grind (arith, nat_tests, e) in
    let is = ap (λ (b : Bool). length (if b then true ∷ were_taken (next + 1) ms else were_taken next ms)) same in
    omega (arith, is)

next_one : (count next : ℕ) → next_behind next (Some count ∷ []) ≡ (if count == next then next + 1 else next)
next_one count next = refl

pub may_leave : (first : ℕ) (ms : List (Option ℕ)) (q : Queue) → InTurn (next_behind first q.leaving) ms
    → gone first (q.leaving ++ ms) ≤ q.submitted → AllMayLeave first ms q
may_leave first [] q h le = tt
may_leave first (None ∷ ms) q h le =
    let n = next_behind first q.leaving in
    let all = gone_both first q.leaving (None ∷ ms) in
    let on = next_both first q.leaving (None ∷ []) in
    let apart = ap (gone first) (append_assoc q.leaving (None ∷ []) ms) in (
      omega (arith, all, le),
      may_leave first ms (with_left None q) (subst (λ (k : ℕ). InTurn k ms) (sym on) h) (omega (arith, apart, le)),
    )
may_leave first (Some count ∷ ms) q h le =
    let n = next_behind first q.leaving in
    let is = next_is first q.leaving in
    let all = gone_both first q.leaving (Some count ∷ ms) in
    let on = next_both first q.leaving (Some count ∷ []) in
    let apart = ap (gone first) (append_assoc q.leaving (Some count ∷ []) ms) in
    let low = h.0 in (
      (
        omega (arith, low, is),
        λ e. let one = new_gone count n ms (omega (arith, e, is)) in omega (arith, one, all, le),
      ),
      may_leave first ms (with_left (Some count) q) (subst (λ (k : ℕ). InTurn k ms) (sym on) h.1)
          (omega (arith, apart, le)),
    )

-- ---- record by record

abbrev pub left_in : Side → ℕ → List Record → List (Option ℕ)
left_in from l told = flat_map (leaving_in l) (events_of from told)

left_one : (from : Side) (l : ℕ) (one : Record) (told : List Record)
    → left_in from l (one ∷ told) ≡ left_by from l one ++ left_in from l told
left_one from l one told = flat_map-append (leaving_in l) (event_of from one) (events_of from told)

pub left_both : (from : Side) (l : ℕ) (xs ys : List Record)
    → left_in from l (xs ++ ys) ≡ left_in from l xs ++ left_in from l ys
left_both from l [] ys = refl
left_both from l (x ∷ xs) ys =
    left_one from l x (xs ++ ys)
    ∙ (ap (λ (ms : List (Option ℕ)). left_by from l x ++ ms) (left_both from l xs ys)
    ∙ (sym (append_assoc (left_by from l x) (left_in from l xs) (left_in from l ys))
    ∙ ap (λ (ms : List (Option ℕ)). ms ++ left_in from l ys) (sym (left_one from l x xs))))

-- where some leave by a record no more have left behind it than were submitted before
abbrev pub Counted : Side → ℕ → ℕ → List Record → Queue → Type 0
Counted from l first [] q = Unit {0}
Counted from l first (one ∷ told) q =
    ((left_by from l one ≡ []) ⊎ (gone first (q.leaving ++ left_by from l one) ≤ q.submitted))
    × Counted from l first told (after_record from l one q)

one_may : (first : ℕ) (ms : List (Option ℕ)) (q : Queue) → InTurn (next_behind first q.leaving) ms
    → (ms ≡ []) ⊎ (gone first (q.leaving ++ ms) ≤ q.submitted) → AllMayLeave first ms q
one_may first ms q h (inl none) = subst (λ (xs : List (Option ℕ)). AllMayLeave first xs q) (sym none) tt
one_may first ms q h (inr le) = may_leave first ms q h le

pub each_may : (from : Side) (l first : ℕ) (told : List Record) (q : Queue)
    → InTurn (next_behind first q.leaving) (left_in from l told) → Counted from l first told q
    → EachMayLeave from l first told q
each_may from l first [] q h k = tt
each_may from l first (one ∷ told) q h k =
    let ms = left_by from l one in
    let n = next_behind first q.leaving in
    let all = subst (λ (xs : List (Option ℕ)). InTurn n xs) (left_one from l one told) h in (
      one_may first ms q (turn_front n ms (left_in from l told) all) k.0,
      each_may from l first told (after_record from l one q)
          (subst (λ (m : ℕ). InTurn m (left_in from l told)) (sym (next_both first q.leaving ms))
          (turn_back n ms (left_in from l told) all)) k.1,
    )

-- ---- parts of a group

-- in which none leaves
pub counted_quiet : (from : Side) (l first : ℕ) (told : List Record) (q : Queue) → left_in from l told ≡ []
    → Counted from l first told q
counted_quiet from l first [] q e = tt
counted_quiet from l first (one ∷ told) q e =
    let both = parts_empty (left_by from l one) (left_in from l told) (sym (left_one from l one told) ∙ e) in
    (inl both.0, counted_quiet from l first told (after_record from l one q) both.1)

pub counted_then : (from : Side) (l first : ℕ) (xs ys : List Record) (q : Queue) → Counted from l first xs q
    → Counted from l first ys (after_records from l xs q) → Counted from l first (xs ++ ys) q
counted_then from l first [] ys q h k = k
counted_then from l first (x ∷ xs) ys q h k = (h.0, counted_then from l first xs ys (after_record from l x q) h.1 k)

-- in which none comes back through the loop
pub counted_end : (from : Side) (l first : ℕ) (told : List Record) (q : Queue) → looped_at from l told ≡ []
    → gone first (q.leaving ++ left_in from l told) ≤ q.submitted → Counted from l first told q
counted_end from l first [] q none le = tt
counted_end from l first (one ∷ told) q none le =
    let ms = left_by from l one in
    let rest = left_in from l told in
    let both = parts_empty (looped_at from l (one ∷ [])) (looped_at from l told)
    (looped_more from l (one ∷ []) told ∙ none) in
    let apart = ap (λ (xs : List (Option ℕ)). gone first (q.leaving ++ xs)) (left_one from l one told)
    ∙ sym (ap (gone first) (append_assoc q.leaving ms rest)) in
    let part = gone_both first (q.leaving ++ ms) rest in
    let same = ap (λ (xs : List (List ℕ)). length xs) both.0 in (
      inr (omega (arith, apart, part, le)),
      counted_end from l first told (after_record from l one q) both.1 (omega (arith, apart, same, le)),
    )

abbrev pub behind_records : Side → ℕ → List Record → Queue → Queue
behind_records from l told q = record {
  leaving = q.leaving ++ left_in from l told;
  submitted = q.submitted + length (looped_at from l told);
}

abbrev pub queue_of : List (Option ℕ) → ℕ → Queue
queue_of leaving submitted = record { leaving = leaving; submitted = submitted }

pub as_queue : (xs ys : List (Option ℕ)) (n m : ℕ) → xs ≡ ys → n ≡ m → queue_of xs n ≡ queue_of ys m
as_queue xs ys n m e f = ap (λ (zs : List (Option ℕ)). queue_of zs n) e ∙ ap (queue_of ys) f

pub after_is : (from : Side) (l : ℕ) (told : List Record) (q : Queue)
    → after_records from l told q ≡ behind_records from l told q
after_is from l [] q =
    let none = ap (λ (xs : List (List ℕ)). length xs) (nothing_looped from l) in
    as_queue q.leaving (q.leaving ++ []) q.submitted (q.submitted + length (looped_at from l []))
    (sym (append-nil q.leaving)) (omega (arith, none))
after_is from l (one ∷ told) q =
    let ms = left_by from l one in
    let rest = left_in from l told in
    let a = looped_at from l (one ∷ []) in
    let b = looped_at from l told in
    let parts = length-append a b in
    let all = ap (λ (xs : List (List ℕ)). length xs) (looped_more from l (one ∷ []) told) in
    after_is from l told (after_record from l one q)
    ∙ as_queue ((q.leaving ++ ms) ++ rest) (q.leaving ++ left_in from l (one ∷ told))
    ((q.submitted + length a) + length b) (q.submitted + length (looped_at from l (one ∷ told)))
    (append_assoc q.leaving ms rest
    ∙ ap (λ (xs : List (Option ℕ)). q.leaving ++ xs) (sym (left_one from l one told)))
    (omega (arith, parts, all))
