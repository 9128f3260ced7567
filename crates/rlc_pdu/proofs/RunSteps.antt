-- Sets of places before and after runs are added and taken out.
use Rattle.std.proofs.Common.{◌≡◌, ◌+◌, ◌-◌, ◌<◌, ◌≤◌, ℕ, zero, suc, length, slice_index_or, slice_set, Bool, true}
use Rattle.std.proofs.Common.{false, not, ◌||◌, ◌&&◌, if◌then◌else◌, cond, List, [], ◌∷◌, ◌++◌, min, max, nat_le}
use Rattle.std.proofs.Common.{nat_lt, refl, ap, sym, ◌∙◌, arith, ltb, leb}
use Rattle.std.proofs.lemmas.Bool.{lt-leb, lt-ltb, ltb-true, ltb-false, leb-true}
use Rattle.std.proofs.lemmas.Bool.Decides.{nat_tests}
use Rattle.rlc_pdu.specs.Runs.{Run, run_between, lies_in, has, AreAscending, covers, ends_below, last_begins_by}
use Rattle.rlc_pdu.specs.Runs.{last_ends_below, stretched, Moving, passing, passed, merged, added, kept_of, removed}

or-assoc : (a b c : Bool) → ((a || b) || c) ≡ (a || (b || c))
or-assoc true b c = refl
or-assoc false b c = refl

has-append : (xs ys : List Run) (i : ℕ) → has (xs ++ ys) i ≡ (has xs i || has ys i)
has-append [] ys i = refl
has-append (x ∷ xs) ys i = ap (λ b. lies_in x i || b) (has-append xs ys i)
    ∙ sym (or-assoc (lies_in x i) (has xs i) (has ys i))

-- what is to come of a run on its way
abbrev with_moving : Bool → ℕ → ℕ → ℕ → Bool → Bool
with_moving true from to i rest = rest
with_moving false from to i rest = (nat_le from i && nat_lt i to) || rest

-- one run is passed
step : (placed : Bool) (from to : ℕ) (r : Run) (i : ℕ) (rest : Bool) → from < to
    → (has (passing (record { placed = placed; from = from; to = to }) r) i
    || with_moving (passed (record { placed = placed; from = from; to = to }) r).placed
    (passed (record { placed = placed; from = from; to = to }) r).from
    (passed (record { placed = placed; from = from; to = to }) r).to i rest)
    ≡ with_moving placed from to i (lies_in r i || rest)
step true from to r i true h = grind (arith, nat_tests)
step true from to r i false h = grind (arith, nat_tests)
step false from to r i true h = grind (arith, nat_tests)
step false from to r i false h = grind (arith, nat_tests)

still-some : (placed : Bool) (from to : ℕ) (r : Run) → from < to
    → (passed (record { placed = placed; from = from; to = to }) r).from
    < (passed (record { placed = placed; from = from; to = to }) r).to
still-some true from to r h = h
still-some false from to r h = grind (arith, nat_tests)

merged-has : (runs : List Run) (m : Moving) (i : ℕ) → m.from < m.to
    → has (merged m runs) i ≡ with_moving m.placed m.from m.to i (has runs i)
merged-has [] m i h = ends m.placed m.from m.to i
  where
    ends : (placed : Bool) (from to i : ℕ) → has (if placed then [] else run_between from to ∷ []) i
        ≡ with_moving placed from to i false
    ends true from to i = refl
    ends false from to i = refl
merged-has (r ∷ rs) m i h =
    has-append (passing m r) (merged (passed m r) rs) i
    ∙ ap (λ b. has (passing m r) i || b) (merged-has rs (passed m r) i (still-some m.placed m.from m.to r h))
    ∙ step m.placed m.from m.to r i (has rs i) h

pub added_has : (runs : List Run) (from to : ℕ) → from < to → (i : ℕ)
    → has (added runs from to) i ≡ (lies_in (run_between from to) i || has runs i)
added_has runs from to h i = merged-has runs (record { placed = false; from = from; to = to }) i h

-- ---- runs that ascend

lower : (low high : ℕ) (rs : List Run) → low ≤ high → AreAscending high rs → AreAscending low rs
lower low high [] le h = h
lower low high (r ∷ rs) le h = (omega (arith, h.0, le), h.1, h.2)

merged_placed : (from to : ℕ) (rs : List Run) → merged (record { placed = true; from = from; to = to }) rs ≡ rs
merged_placed from to [] = refl
merged_placed from to (r ∷ rs) = ap (λ (qs : List Run). r ∷ qs) (merged_placed from to rs)

merged_ascends : (low from to : ℕ) (rs : List Run) → low ≤ from → from < to → AreAscending low rs
    → AreAscending low (merged (record { placed = false; from = from; to = to }) rs)
merged_ascends low from to [] le lt h = (le, lt, tt)
merged_ascends low from to (r ∷ rs) le lt h =
    go (ltb r.to from) refl (ltb to r.from) refl
    (λ l. merged_ascends (r.to + 1) from to rs l lt h.2)
    (merged_ascends low (min from r.from) (max to r.to) rs (omega (arith, le, h.0)) (omega (arith, lt))
    (lower low (r.to + 1) rs (omega (arith, h.0, h.1)) h.2))
  where
    go : (a : Bool) → ltb r.to from ≡ a → (b : Bool) → ltb to r.from ≡ b
        → (r.to + 1 ≤ from → AreAscending (r.to + 1) (merged (record { placed = false; from = from; to = to }) rs))
        → AreAscending low (merged (record { placed = false; from = min from r.from; to = max to r.to }) rs)
        → AreAscending low (cond a (r ∷ []) (cond b (run_between from to ∷ r ∷ []) [])
        ++ merged (cond a (record { placed = false; from = from; to = to })
        (cond b (record { placed = true; from = from; to = to })
        (record { placed = false; from = min from r.from; to = max to r.to }))) rs)
    go true ea b eb first grown = (h.0, h.1, first (omega (arith, ltb-true r.to from ea)))
    go false ea true eb first grown =
        let behind : AreAscending (r.to + 1) (merged (record { placed = true; from = from; to = to }) rs) =
        rw (merged_placed from to rs) h.2 in
        (le, lt, (omega (arith, ltb-true to r.from eb), h.1, behind))
    go false ea false eb first grown = grown

pub added_ascends : (runs : List Run) (from to : ℕ) → from < to → AreAscending 0 runs
    → AreAscending 0 (added runs from to)
added_ascends runs from to lt h = merged_ascends 0 from to runs (omega arith) lt h

pub ruleset adding = (added_has, added_ascends)

-- ---- behind the last run

first_below : (low : ℕ) (r : Run) (rs : List Run) (from : ℕ) → AreAscending low (r ∷ rs)
    → ends_below (r ∷ rs) from ≡ true → r.to < from
first_below low r [] from h e = ltb-true r.to from e
first_below low r (q ∷ rs) from h e = omega (arith, first_below (r.to + 1) q rs from h.2 e, h.2.0, h.2.1)

rest_below : (r : Run) (rs : List Run) (from : ℕ) → ends_below (r ∷ rs) from ≡ true → ends_below rs from ≡ true
rest_below r [] from e = refl
rest_below r (q ∷ rs) from e = e

merged_end : (low from to : ℕ) (rs : List Run) → AreAscending low rs → ends_below rs from ≡ true
    → rs ++ run_between from to ∷ [] ≡ merged (record { placed = false; from = from; to = to }) rs
merged_end low from to [] h e = refl
merged_end low from to (r ∷ rs) h e =
    let below : ltb r.to from ≡ true = lt-ltb r.to from (first_below low r rs from h e) in
    rw below (ap (λ (qs : List Run). r ∷ qs) (merged_end (r.to + 1) from to rs h.2 (rest_below r rs from e)))

pub added_end : (runs : List Run) (from to : ℕ) → AreAscending 0 runs → ends_below runs from ≡ true
    → runs ++ run_between from to ∷ [] ≡ added runs from to
added_end runs from to h e = merged_end 0 from to runs h e

none_covers : (low from to : ℕ) (rs : List Run) → AreAscending low rs → ends_below rs from ≡ true → from < to
    → covers rs from to ≡ false
none_covers low from to [] h e lt = refl
none_covers low from to (r ∷ rs) h e lt =
    let past : leb to r.to ≡ false = lt-leb to r.to (omega (arith, first_below low r rs from h e, lt)) in
    rw past (both (leb r.from from) (none_covers (r.to + 1) from to rs h.2 (rest_below r rs from e) lt))
  where
    both : (a : Bool) → covers rs from to ≡ false → ((a && false) || covers rs from to) ≡ false
    both true f = f
    both false f = f

pub fresh_end : (runs : List Run) (from to : ℕ) → AreAscending 0 runs → ends_below runs from ≡ true → from < to
    → true ≡ not (covers runs from to)
fresh_end runs from to h e lt = rw (none_covers 0 from to runs h e lt) refl

-- ---- at the last run

first_under : (low : ℕ) (r q : Run) (rs : List Run) (from : ℕ) → AreAscending low (r ∷ q ∷ rs)
    → last_begins_by (q ∷ rs) from ≡ true → r.to < from
first_under low r q [] from h e = omega (arith, h.2.0, leb-true q.from from e)
first_under low r q (p ∷ rs) from h e = omega (arith, h.2.0, h.2.1, first_under (r.to + 1) q p rs from h.2 e)

grown_run : (r : Run) (from to : ℕ) → r.from ≤ from → from ≤ r.to → from < to
    → run_between r.from (max r.to to) ∷ [] ≡ merged (record { placed = false; from = from; to = to }) (r ∷ [])
grown_run r from to le ge lt = grind (arith, nat_tests)

merged_last : (low from to : ℕ) (rs : List Run) → AreAscending low rs → ends_below rs from ≡ false
    → last_begins_by rs from ≡ true → from < to
    → stretched rs to ≡ merged (record { placed = false; from = from; to = to }) rs
merged_last low from to [] h e b lt = let no : true ≡ false = e in cc
merged_last low from to (r ∷ []) h e b lt =
    grown_run r from to (leb-true r.from from b) (omega (arith, ltb-false r.to from e)) lt
merged_last low from to (r ∷ q ∷ rs) h e b lt =
    let below : ltb r.to from ≡ true = lt-ltb r.to from (first_under low r q rs from h b) in
    rw below (ap (λ (qs : List Run). r ∷ qs) (merged_last (r.to + 1) from to (q ∷ rs) h.2 e b lt))

pub added_last : (runs : List Run) (from to : ℕ) → AreAscending 0 runs → ends_below runs from ≡ false
    → last_begins_by runs from ≡ true → from < to → stretched runs to ≡ added runs from to
added_last runs from to h e b lt = merged_last 0 from to runs h e b lt

covered_last : (r : Run) (from to : ℕ) → r.from ≤ from → nat_lt r.to to ≡ not (covers (r ∷ []) from to)
covered_last r from to le = grind (arith, nat_tests)

new_last : (low from to : ℕ) (rs : List Run) → AreAscending low rs → last_begins_by rs from ≡ true → from < to
    → last_ends_below rs to ≡ not (covers rs from to)
new_last low from to [] h b lt = let no : false ≡ true = b in cc
new_last low from to (r ∷ []) h b lt = covered_last r from to (leb-true r.from from b)
new_last low from to (r ∷ q ∷ rs) h b lt =
    let past : leb to r.to ≡ false = lt-leb to r.to (omega (arith, first_under low r q rs from h b, lt)) in
    rw past (both (leb r.from from) (new_last (r.to + 1) from to (q ∷ rs) h.2 b lt))
  where
    both : (a : Bool) → last_ends_below (q ∷ rs) to ≡ not (covers (q ∷ rs) from to)
        → last_ends_below (q ∷ rs) to ≡ not ((a && false) || covers (q ∷ rs) from to)
    both true f = f
    both false f = f

pub fresh_last : (runs : List Run) (from to : ℕ) → AreAscending 0 runs → last_begins_by runs from ≡ true → from < to
    → last_ends_below runs to ≡ not (covers runs from to)
fresh_last runs from to h b lt = new_last 0 from to runs h b lt

pub ruleset behind_all = (added_end, fresh_end, added_last, fresh_last)

last-set : (rs : List Run) (n to : ℕ) (x : Run) → n + 1 ≡ length rs → x ≡ slice_index_or rs n x
    → slice_set rs n (run_between x.from (max x.to to)) ≡ stretched rs to
last-set [] n to x e h = absurd (omega (arith, e))
last-set (r ∷ []) zero to x e h = rw h refl
last-set (r ∷ []) (suc n) to x e h = absurd (omega (arith, e))
last-set (r ∷ q ∷ rs) zero to x e h = absurd (omega (arith, e))
last-set (r ∷ q ∷ rs) (suc n) to x e h = ap (λ (qs : List Run). r ∷ qs) (last-set (q ∷ rs) n to x (omega (arith, e)) h)

last-ends : (rs : List Run) (n to : ℕ) (x : Run) → n + 1 ≡ length rs → x ≡ slice_index_or rs n x
    → nat_lt x.to to ≡ last_ends_below rs to
last-ends [] n to x e h = absurd (omega (arith, e))
last-ends (r ∷ []) zero to x e h = rw h refl
last-ends (r ∷ []) (suc n) to x e h = absurd (omega (arith, e))
last-ends (r ∷ q ∷ rs) zero to x e h = absurd (omega (arith, e))
last-ends (r ∷ q ∷ rs) (suc n) to x e h = last-ends (q ∷ rs) n to x (omega (arith, e)) h

pub stretched_set : (rs : List Run) (n to : ℕ) (x : Run) → n ≡ length rs → 0 < n → x ≡ slice_index_or rs (n - 1) x
    → slice_set rs (n - 1) (run_between x.from (max x.to to)) ≡ stretched rs to
stretched_set rs n to x e some h = last-set rs (n - 1) to x (omega (arith, e, some)) h

pub ends_set : (rs : List Run) (n to : ℕ) (x : Run) → n ≡ length rs → 0 < n → x ≡ slice_index_or rs (n - 1) x
    → nat_lt x.to to ≡ last_ends_below rs to
ends_set rs n to x e some h = last-ends rs (n - 1) to x (omega (arith, e, some)) h

pub ruleset at_last = (stretched_set, ends_set)

pub begins_by_last : (rs : List Run) (r : Run) (from : ℕ) → last_begins_by (rs ++ r ∷ []) from ≡ leb r.from from
begins_by_last [] r from = refl
begins_by_last (q ∷ []) r from = refl
begins_by_last (q ∷ p ∷ rs) r from = begins_by_last (p ∷ rs) r from

pub ends_below_last : (rs : List Run) (r : Run) (from : ℕ) → ends_below (rs ++ r ∷ []) from ≡ ltb r.to from
ends_below_last [] r from = refl
ends_below_last (q ∷ []) r from = refl
ends_below_last (q ∷ p ∷ rs) r from = ends_below_last (p ∷ rs) r from

-- ---- taking out

kept_has : (from to : ℕ) (r : Run) (i : ℕ) → from < to
    → has (kept_of from to r) i ≡ (not (lies_in (run_between from to) i) && lies_in r i)
kept_has from to r i h = grind (arith, nat_tests)

and_or : (a b c : Bool) → ((a && b) || (a && c)) ≡ (a && (b || c))
and_or true b c = refl
and_or false b c = refl

pub removed_has : (runs : List Run) (from to : ℕ) → from < to → (i : ℕ)
    → has (removed runs from to) i ≡ (not (lies_in (run_between from to) i) && has runs i)
removed_has [] from to h i = nothing (not (lies_in (run_between from to) i))
  where
    nothing : (a : Bool) → false ≡ (a && false)
    nothing true = refl
    nothing false = refl
removed_has (r ∷ rs) from to h i =
    has-append (kept_of from to r) (removed rs from to) i
    ∙ rw (kept_has from to r i h, removed_has rs from to h i)
    (and_or (not (lies_in (run_between from to) i)) (lies_in r i) (has rs i))

kept_ascends : (low from to : ℕ) (r : Run) (qs : List Run) → from < to → low ≤ r.from → r.from < r.to
    → AreAscending (r.to + 1) qs → AreAscending low (kept_of from to r ++ qs)
kept_ascends low from to r qs lt le some h = go (ltb r.from (min r.to from)) refl (ltb (max r.from to) r.to) refl
  where
    go : (a : Bool) → ltb r.from (min r.to from) ≡ a → (b : Bool) → ltb (max r.from to) r.to ≡ b
        → AreAscending low ((cond a (run_between r.from (min r.to from) ∷ []) []
        ++ cond b (run_between (max r.from to) r.to ∷ []) [])
        ++ qs)
    go true ea true eb =
        (le, ltb-true r.from (min r.to from) ea, (omega (arith, lt), ltb-true (max r.from to) r.to eb, h))
    go true ea false eb =
        (le, ltb-true r.from (min r.to from) ea, lower (min r.to from + 1) (r.to + 1) qs (omega arith) h)
    go false ea true eb = (omega (arith, le), ltb-true (max r.from to) r.to eb, h)
    go false ea false eb = lower low (r.to + 1) qs (omega (arith, le, some)) h

removed_from : (low : ℕ) (runs : List Run) (from to : ℕ) → from < to → AreAscending low runs
    → AreAscending low (removed runs from to)
removed_from low [] from to lt h = h
removed_from low (r ∷ rs) from to lt h =
    kept_ascends low from to r (removed rs from to) lt h.0 h.1 (removed_from (r.to + 1) rs from to lt h.2)

pub removed_ascends : (runs : List Run) (from to : ℕ) → from < to → AreAscending 0 runs
    → AreAscending 0 (removed runs from to)
removed_ascends runs from to lt h = removed_from 0 runs from to lt h

pub ruleset removing = (removed_has, removed_ascends)
