-- Where SDUs begin and end in the data field of a new PDU, and in what it leaves of the SDUs that wait.
use Rattle.std.proofs.Common.{◌≡◌, ◌<◌, ℕ, zero, suc, ◌+◌, Bool, true, false, not, ◌||◌, ◌==◌, nat_lt, if◌then◌else◌}
use Rattle.std.proofs.Common.{List, [], ◌∷◌, ◌++◌, length, map, take, drop, refl, ap, sym, ◌∙◌, append_assoc, arith}
use Rattle.std.specs.List.{concat}
use Rattle.std.proofs.lemmas.Bool.Decides.{nat_tests}
use Rattle.std.proofs.lemmas.List.{append-nil, length-drop, take_all}
use Rattle.rlc_queue.specs.NewPdu.{room, may_follow, elements, rest, partial}
use Rattle.rlc_queue.specs.Waiting.{HaveOctets, behind}
use Rattle.journal_sent.specs.Marks.{mark, part_marks, sdu_marks, field_marks}
use Rattle.law_sent.specs.UmSenders.{unsent_marks}
use Rattle.law_sent.proofs.SenderMarks.{later_marks}

-- ---- of SDUs that wait

abbrev marks_of_all : List (List ℕ) → List ℕ
marks_of_all xs = concat (map (λ (y : List ℕ). sdu_marks (length y)) xs)

-- none of them is begun
whole_marks : (xs : List (List ℕ)) → unsent_marks false xs ≡ marks_of_all xs
whole_marks [] = refl
whole_marks (x ∷ xs) = refl

all_end : (xs : List (List ℕ)) (x : List ℕ) → marks_of_all (xs ++ x ∷ []) ≡ marks_of_all xs ++ sdu_marks (length x)
all_end [] x = append-nil (sdu_marks (length x))
all_end (y ∷ ys) x = ap (λ (ms : List ℕ). sdu_marks (length y) ++ ms) (all_end ys x)
    ∙ sym (append_assoc (sdu_marks (length y)) (marks_of_all ys) (sdu_marks (length x)))

-- one more waits
pub more_marks : (begun : Bool) (sdus : List (List ℕ)) (x : List ℕ) → (length sdus ≡ 0 → begun ≡ false)
    → unsent_marks begun (sdus ++ x ∷ []) ≡ unsent_marks begun sdus ++ sdu_marks (length x)
more_marks begun [] x idle =
    append-nil (part_marks (not begun) true (length x))
    ∙ ap (λ (b : Bool). part_marks (not b) true (length x)) (idle refl)
more_marks begun (y ∷ ys) x idle = ap (λ (ms : List ℕ). part_marks (not begun) true (length y) ++ ms) (all_end ys x)
    ∙ sym (append_assoc (part_marks (not begun) true (length y)) (marks_of_all ys) (sdu_marks (length x)))

-- ---- of an SDU that is cut behind some octets

cut_marks : (begins : Bool) (n : ℕ) (x : List ℕ) → 0 < n → n < length x
    → part_marks begins true (length x)
    ≡ part_marks begins false (length (take n x)) ++ part_marks false true (length (drop n x))
cut_marks begins n [] some lt = absurd (omega arith)
cut_marks begins zero (x ∷ xs) some lt = absurd (omega arith)
cut_marks begins (suc n) (x ∷ []) some lt = absurd (omega arith)
cut_marks begins (suc zero) (x ∷ y ∷ ys) some lt =
    ap (λ (ms : List ℕ). mark begins false ∷ ms) (sym (later_marks true (length ys)))
cut_marks begins (suc (suc n)) (x ∷ y ∷ ys) some lt =
    ap (λ (ms : List ℕ). mark begins false ∷ ms)
    (sym (later_marks true (length ys)) ∙ cut_marks false (suc n) (y ∷ ys) (omega arith) (omega arith)
    ∙ ap (λ (ms : List ℕ). ms ++ part_marks false true (length (drop n ys))) (later_marks false (length (take n ys))))

-- ---- of a new PDU

-- what it takes, with what of the SDUs is left
pub record IsCut (begun part : Bool) (sdus es rs : List (List ℕ)) : Type 0 where
  pub marks : unsent_marks begun sdus ≡ field_marks (not begun) (not part) es ++ unsent_marks part rs
  pub none : length es ≡ 0 → part ≡ begun
  pub some : HaveOctets rs
  pub idle : length rs ≡ 0 → part ≡ false

-- an element before others ends its SDU, and the last where that isn't partly sent
ends_one : (part : Bool) (es : List (List ℕ)) → (length es ≡ 0 → part ≡ false)
    → (not part || nat_lt 0 (length es)) ≡ true
ends_one false es h = refl
ends_one true [] h = absurd cc (h refl)
ends_one true (x ∷ xs) h = grind (arith, nat_tests)

cut_step : (n : ℕ) (x : List ℕ) (xs es rs : List (List ℕ)) (begun part z f : Bool) → (n == 0) ≡ z
    → may_follow n x ≡ f → HaveOctets (x ∷ xs) → IsCut false part xs es rs
    → IsCut begun (if z then begun else if f then part else nat_lt n (length x)) (x ∷ xs)
    (if z then [] else take n x ∷ (if f then es else []))
    (if z then x ∷ xs else if f then rs else behind n (x ∷ xs))
cut_step n x xs es rs begun part true f ez ef some ih =
    record { marks = refl; none = λ e. refl; some = some; idle = λ e. absurd (omega arith) }
cut_step n x xs es rs begun part false true ez ef some ih = record {
  marks = ap (λ (ms : List ℕ). part_marks (not begun) true (length x) ++ ms) (sym (whole_marks xs) ∙ ih.marks)
      ∙ (sym (append_assoc (part_marks (not begun) true (length x)) later (unsent_marks part rs))
      ∙ (ap (λ (ys : List ℕ). (part_marks (not begun) true (length ys) ++ later) ++ unsent_marks part rs) (sym all)
      ∙ ap (λ (b : Bool). (part_marks (not begun) b (length (take n x)) ++ later) ++ unsent_marks part rs)
      (sym (ends_one part es ih.none))));
  none = λ e. absurd (omega arith);
  some = ih.some;
  idle = ih.idle;
}
  where
    later : List ℕ
    later = field_marks true (not part) es

    all : take n x ≡ x
    all = take_all n x (grind (arith, nat_tests, ef))
cut_step n x xs es rs begun part false false ez ef some ih = by (nat_lt n (length x)) refl
  where
    by : (b : Bool) → nat_lt n (length x) ≡ b
        → IsCut begun b (x ∷ xs) (take n x ∷ []) (if b then drop n x ∷ xs else xs)
    by true e =
        let lt : n < length x = grind (arith, nat_tests, e) in
        let l = length-drop n x in
        let pos : 0 < n = grind (arith, nat_tests, ez) in
        record {
          marks = ap (λ (ms : List ℕ). ms ++ marks_of_all xs) (cut_marks (not begun) n x pos lt)
              ∙ (append_assoc (part_marks (not begun) false (length (take n x)))
              (part_marks false true (length (drop n x))) (marks_of_all xs)
              ∙ ap (λ (ms : List ℕ). ms ++ unsent_marks true (drop n x ∷ xs))
              (sym (append-nil (part_marks (not begun) false (length (take n x))))));
          none = λ e. absurd (omega arith);
          some = (omega (arith, l, lt), some.1);
          idle = λ e. absurd (omega arith);
        }
    by false e =
        let all : take n x ≡ x = take_all n x (grind (arith, nat_tests, e)) in
        record {
          marks = ap (λ (ms : List ℕ). part_marks (not begun) true (length x) ++ ms) (sym (whole_marks xs))
              ∙ (ap (λ (ys : List ℕ). part_marks (not begun) true (length ys) ++ unsent_marks false xs) (sym all)
              ∙ ap (λ (ms : List ℕ). ms ++ unsent_marks false xs)
              (sym (append-nil (part_marks (not begun) true (length (take n x))))));
          none = λ e. absurd (omega arith);
          some = some.1;
          idle = λ e. refl;
        }

pub cut : (head size count used : ℕ) (begun : Bool) (sdus : List (List ℕ)) → HaveOctets sdus
    → (length sdus ≡ 0 → begun ≡ false)
    → IsCut begun (partial head size count used begun sdus) sdus (elements head size count used sdus)
    (rest head size count used sdus)
cut head size count used begun [] some idle = record { marks = refl; none = λ e. refl; some = tt; idle = idle }
cut head size count used begun (x ∷ xs) some idle =
    let n = room head size count used in
    cut_step n x xs (elements head size (count + 1) (used + length x) xs)
    (rest head size (count + 1) (used + length x) xs) begun
    (partial head size (count + 1) (used + length x) false xs) (n == 0) (may_follow n x) refl refl some
    (cut head size (count + 1) (used + length x) false xs some.1 (λ e. refl))
