-- The SDUs that are kept, and what events make of them.
use Rattle.std.proofs.Common.{◌≡◌, ◌<◌, ◌≤◌, ℕ, zero, suc, ◌+◌, ◌-◌, List, [], ◌∷◌, ◌++◌, refl, ap, sym, ◌∙◌, arith}
use Rattle.std.proofs.Common.{length, drop, take, slice_get, length-append}
use Rattle.std.proofs.lemmas.List.{drop-append-le, take-append-le, take-append-drop, length-take-le, length_push}
use Rattle.std.proofs.lemmas.List.{length-drop, take_all, drop_all}
use Rattle.std.proofs.Math.Seq.{take-add}
use Rattle.journal_takes.specs.TakeEvents.{without}

-- of the SDUs from the first COUNT on, those of the COUNTs from one on below the next new one, and
-- those that wait
pub record Holds (first next from : ℕ) (kept sdus waiting : List (List ℕ)) : Type 0 where
  pub order : first ≤ from
  pub within : from ≤ next
  pub few : next - first ≤ length kept
  pub sdus_are : sdus ≡ drop (from - first) (take (next - first) kept)
  pub waiting_are : waiting ≡ drop (next - first) kept

pub drop_more : (n m : ℕ) (xs : List (List ℕ)) → drop n (drop m xs) ≡ drop (m + n) xs
drop_more n zero xs = let same : n ≡ 0 + n = omega arith in ap (λ (k : ℕ). drop k xs) same
drop_more n (suc m) [] = drop_all n [] (omega arith) ∙ sym (drop_all (suc m + n) [] (omega arith))
drop_more n (suc m) (x ∷ xs) = let same : suc (m + n) ≡ suc m + n = omega arith in
    drop_more n m xs ∙ ap (λ (k : ℕ). drop k (x ∷ xs)) same

pub get_behind : (n k : ℕ) (xs : List (List ℕ)) → slice_get (drop n xs) k ≡ slice_get xs (n + k)
get_behind zero k xs = let same : k ≡ 0 + k = omega arith in ap (slice_get xs) same
get_behind (suc n) k [] = refl
get_behind (suc n) k (x ∷ xs) = let same : suc (n + k) ≡ suc n + k = omega arith in
    get_behind n k xs ∙ ap (slice_get (x ∷ xs)) same

-- of two lists that begin alike, the items there are the same

pub get_before : (n k : ℕ) (xs : List (List ℕ)) → k < n → slice_get (take n xs) k ≡ slice_get xs k
get_before zero k xs lt = absurd (omega (arith, lt))
get_before (suc n) k [] lt = refl
get_before (suc n) zero (x ∷ xs) lt = refl
get_before (suc n) (suc k) (x ∷ xs) lt = get_before n k xs (omega (arith, lt))

pub get_alike : (n k : ℕ) (xs ys : List (List ℕ)) → k < n → take n xs ≡ take n ys → slice_get xs k ≡ slice_get ys k
get_alike n k xs ys lt same =
    sym (get_before n k xs lt) ∙ ap (λ (zs : List (List ℕ)). slice_get zs k) same ∙ get_before n k ys lt

pub submitted_alike : (n : ℕ) (kept : List (List ℕ)) (sdu : List ℕ) → n ≤ length kept
    → take n (kept ++ sdu ∷ []) ≡ take n kept
submitted_alike n kept sdu few = take-append-le n kept (sdu ∷ []) few

pub discarded_alike : (n : ℕ) (kept : List (List ℕ)) → n ≤ length kept → take n (without n kept) ≡ take n kept
discarded_alike n kept few =
    let len : length (take n kept) ≡ n = length-take-le n kept few in
    take-append-le n (take n kept) (drop (n + 1) kept) (omega (arith, len))
    ∙ take_all n (take n kept) (omega (arith, len))

-- ---- events

pub holds_submitted : (first next from : ℕ) (kept sdus waiting : List (List ℕ)) (sdu : List ℕ)
    → Holds first next from kept sdus waiting → Holds first next from (kept ++ sdu ∷ []) sdus (waiting ++ sdu ∷ [])
holds_submitted first next from kept sdus waiting sdu h = record {
  order = h.order;
  within = h.within;
  few = omega (arith, h.few, length_push kept sdu);
  sdus_are =
      h.sdus_are ∙ ap (drop (from - first)) (sym (submitted_alike (next - first) kept sdu h.few));
  waiting_are =
      ap (λ (ws : List (List ℕ)). ws ++ sdu ∷ []) h.waiting_are
      ∙ sym (drop-append-le (next - first) kept (sdu ∷ []) h.few);
}

pub holds_discarded : (first next from : ℕ) (kept sdus waiting : List (List ℕ))
    → Holds first next from kept sdus waiting
    → Holds first next from (without (next - first) kept) sdus (drop 1 waiting)
holds_discarded first next from kept sdus waiting h =
    let len : length (take (next - first) kept) ≡ next - first = length-take-le (next - first) kept h.few in
    record {
      order = h.order;
      within = h.within;
      few = omega (
        arith,
        len,
        length-append (take (next - first) kept) (drop (next - first + 1) kept),
      );
      sdus_are =
          h.sdus_are
          ∙ ap (drop (from - first))
          (sym (discarded_alike (next - first) kept h.few));
      waiting_are =
          ap (drop 1) h.waiting_are ∙ drop_more 1 (next - first) kept
          ∙ sym (drop-append-le (next - first) (take (next - first) kept) (drop (next - first + 1) kept)
          (omega (arith, len))
          ∙ ap (λ (xs : List (List ℕ)). xs ++ drop (next - first + 1) kept)
          (drop_all (next - first) (take (next - first) kept) (omega (arith, len))));
    }

pub holds_taken : (first next from : ℕ) (kept sdus waiting : List (List ℕ)) → next < first + length kept
    → Holds first next from kept sdus waiting
    → Holds first (next + 1) from kept (sdus ++ take 1 waiting) (drop 1 waiting)
holds_taken first next from kept sdus waiting some h =
    let len : length (take (next - first) kept) ≡ next - first = length-take-le (next - first) kept h.few in
    let more : next + 1 - first ≡ next - first + 1 = omega (arith, h.order, h.within) in
    record {
      order = h.order;
      within = omega (arith, h.within);
      few = omega (arith, some);
      sdus_are =
          ap (λ (xs : List (List ℕ)). xs ++ take 1 waiting) h.sdus_are
          ∙ ap (λ (ws : List (List ℕ)). drop (from - first) (take (next - first) kept) ++ take 1 ws) h.waiting_are
          ∙ sym (drop-append-le (from - first) (take (next - first) kept) (take 1 (drop (next - first) kept))
          (omega (arith, len, h.within)))
          ∙ ap (drop (from - first)) (sym (take-add (next - first) 1 kept))
          ∙ ap (λ (n : ℕ). drop (from - first) (take n kept)) (sym more);
      waiting_are =
          ap (drop 1) h.waiting_are ∙ drop_more 1 (next - first) kept ∙ ap (λ (n : ℕ). drop n kept) (sym more);
    }

pub holds_from : (first next from later : ℕ) (kept sdus waiting : List (List ℕ)) → from ≤ later → later ≤ next
    → Holds first next from kept sdus waiting → Holds first next later kept (drop (later - from) sdus) waiting
holds_from first next from later kept sdus waiting le high h =
    let at : from - first + (later - from) ≡ later - first = omega (arith, le, h.order) in
    record {
      order = omega (arith, le, h.order);
      within = high;
      few = h.few;
      sdus_are =
          ap (drop (later - from)) h.sdus_are
          ∙ drop_more (later - from) (from - first) (take (next - first) kept)
          ∙ ap (λ (n : ℕ). drop n (take (next - first) kept)) at;
      waiting_are = h.waiting_are;
    }

-- all of them
pub holds_all : (first next from : ℕ) (kept sdus waiting : List (List ℕ)) → Holds first next from kept sdus waiting
    → sdus ++ waiting ≡ drop (from - first) kept
holds_all first next from kept sdus waiting h =
    let len : length (take (next - first) kept) ≡ next - first = length-take-le (next - first) kept h.few in
    ap (λ (xs : List (List ℕ)). xs ++ waiting) h.sdus_are
    ∙ ap (λ (ws : List (List ℕ)). drop (from - first) (take (next - first) kept) ++ ws) h.waiting_are
    ∙ sym (drop-append-le (from - first) (take (next - first) kept) (drop (next - first) kept)
    (omega (arith, len, h.within)))
    ∙ ap (drop (from - first)) (take-append-drop (next - first) kept)

pub how_many_wait : (first next from : ℕ) (kept sdus waiting : List (List ℕ)) → Holds first next from kept sdus waiting
    → next + length waiting ≡ first + length kept
how_many_wait first next from kept sdus waiting h =
    let len : length waiting ≡ length (drop (next - first) kept) =
    ap (λ (ws : List (List ℕ)). length ws) h.waiting_are in
    omega (arith, len, h.few, h.order, h.within, length-drop (next - first) kept)
