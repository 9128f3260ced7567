-- Through lives, the next COUNT is the first that hasn't come.
use Rattle.std.proofs.Common.{◌≡◌, ◌<◌, ◌≤◌, ℕ, zero, suc, ◌+◌, ◌-◌, ◌==◌, Bool, true, false, ◌||◌, ◌&&◌, List, []}
use Rattle.std.proofs.Common.{◌∷◌, ◌++◌, Option, Some, None, refl, ap, sym, ◌∙◌, arith, subst, inl, inr, take, drop}
use Rattle.std.proofs.Common.{length, nat_lt, if◌then◌else◌}
use Rattle.std.proofs.lemmas.Bool.Decides.{nat_tests}
use Rattle.journal_account.specs.Arrived.{all_below}
use Rattle.std.proofs.lemmas.Bool.{cases_lt, and_parts, and_from, lt-ltb, le-ltb, ltb-true}
use Rattle.std.proofs.lemmas.List.{append-nil, length-take-le, take-append-drop, length_push}
use Rattle.l2_num.specs.Least.{IsLeast}
use Rattle.journal_account.specs.FlowEvents.{FlowEvent, SduTaken, NumberWritten, OctetsResent, OctetsArrived}
use Rattle.journal_account.specs.FlowEvents.{ReorderStarted, ReorderExpired, StatusHeard, PollExpired, IsHistory}
use Rattle.journal_account.specs.Stream.{sdu_sizes, sdu_size_in, sdu_end, place_of, place_came, is_in_sequence}
use Rattle.journal_account.specs.Stream.{is_whole_sdu}
use Rattle.journal_account.specs.FlowAccount.{FlowAccount, empty_account, account_with, account_of}
use Rattle.journal_account.specs.FlowWholes.{is_whole_kept, is_whole_at}
use Rattle.journal_lives.specs.LifeEvents.{LifeEvent, PduGiven, InLife, LifeEnded, running, counts_in, is_count}
use Rattle.journal_lives.specs.LifeEvents.{passes_with, came_before, count_came, IsGiven, AreLives}
use Rattle.journal_lives.specs.CountsCome.{CountsCome, with_count, with_counts}
use Rattle.journal_lives.specs.FlowLives.{FlowLives, whole_counts, living, ended, lives_of}
use Rattle.journal_account.specs.Laws.{AreWhole}
use Rattle.journal_lives.specs.Laws.{LivesAreTrue}
use Rattle.journal_account.proofs.Accounts.{accounts_are_true}
use Rattle.journal_account.proofs.Complete.{below_each, below_all}
use Rattle.journal_lives.proofs.CountSets.{Tells, tells_same, tells_least, count_tells}

-- ---- several COUNTs come

abbrev has_count : List (Option ℕ) → ℕ → Bool
has_count [] n = false
has_count (o ∷ os) n = is_count o n || has_count os n

or_assoc : (a b c : Bool) → ((a || b) || c) ≡ (a || (b || c))
or_assoc true b c = refl
or_assoc false b c = refl

or_false : (b : Bool) → (b || false) ≡ b
or_false true = refl
or_false false = refl

has_both : (xs ys : List (Option ℕ)) (n : ℕ) → has_count (xs ++ ys) n ≡ (has_count xs n || has_count ys n)
has_both [] ys n = refl
has_both (x ∷ xs) ys n = ap (λ (b : Bool). is_count x n || b) (has_both xs ys n)
    ∙ sym (or_assoc (is_count x n) (has_count xs n) (has_count ys n))

counts_tell : (p : ℕ → Bool) (first : ℕ) (counts : List (Option ℕ)) (c : CountsCome) → Tells p first c
    → Tells (λ n. p n || has_count counts n) first (with_counts counts c)
counts_tell p first [] c t = tells_same p (λ n. p n || false) first c (λ n. sym (or_false (p n))) t
counts_tell p first (None ∷ counts) c t = counts_tell p first counts c t
counts_tell p first (Some count ∷ counts) c t =
    tells_same (λ n. (p n || (count == n)) || has_count counts n)
    (λ n. p n || ((count == n) || has_count counts n)) first (with_counts counts (with_count count c))
    (λ n. or_assoc (p n) (count == n) (has_count counts n))
    (counts_tell (λ n. p n || (count == n)) first counts (with_count count c) (count_tells p first count c t))

-- ---- those of PDUs that pass

lt_suc : (j n : ℕ) → nat_lt (suc j) (suc n) ≡ nat_lt j n
lt_suc j n = grind (arith, nat_tests)

zero_lt : (n : ℕ) → nat_lt 0 (suc n) ≡ true
zero_lt n = grind (arith, nat_tests)

none_lt : (j k : ℕ) → nat_lt j 0 ≡ nat_lt k 0
none_lt j k = grind (arith, nat_tests)

passes_take : (p : ℕ → Bool) (k n : ℕ) (counts : List (Option ℕ)) (count : ℕ)
    → ((j : ℕ) → p (k + j) ≡ nat_lt j n) → passes_with p k counts count ≡ has_count (take n counts) count
passes_take p k zero [] count same = refl
passes_take p k (suc n) [] count same = refl
passes_take p k zero (o ∷ os) count same =
    let at : k + 0 ≡ k = omega arith in
    let none : p k ≡ false = ap p (sym at) ∙ same 0 in
    rw none (passes_take p (k + 1) zero os count (λ j.
    let next : k + 1 + j ≡ k + suc j = omega arith in ap p next ∙ same (suc j) ∙ none_lt (suc j) j))
passes_take p k (suc n) (o ∷ os) count same =
    let at : k + 0 ≡ k = omega arith in
    let here : p k ≡ true = ap p (sym at) ∙ same 0 ∙ zero_lt n in
    rw here (ap (λ (b : Bool). is_count o count || b) (passes_take p (k + 1) n os count (λ j.
    let next : k + 1 + j ≡ k + suc j = omega arith in ap p next ∙ same (suc j) ∙ lt_suc j n)))

passes_both : (p : ℕ → Bool) (k : ℕ) (xs ys : List (Option ℕ)) (count : ℕ)
    → passes_with p k (xs ++ ys) count ≡ (passes_with p k xs count || passes_with p (k + length xs) ys count)
passes_both p k [] ys count = let same : k ≡ k + 0 = omega arith in
    ap (λ (n : ℕ). passes_with p n ys count) same
passes_both p k (x ∷ xs) ys count =
    let same : k + 1 + length xs ≡ k + suc (length xs) = omega arith in
    ap (λ (b : Bool). (p k && is_count x count) || b) (passes_both p (k + 1) xs ys count)
    ∙ sym (or_assoc (p k && is_count x count) (passes_with p (k + 1) xs count)
    (passes_with p (k + 1 + length xs) ys count))
    ∙ ap (λ (n : ℕ). ((p k && is_count x count) || passes_with p (k + 1) xs count) || passes_with p n ys count) same

passes_all : (p : ℕ → Bool) (k : ℕ) (xs : List (Option ℕ)) (count : ℕ)
    → ((j : ℕ) → k ≤ j → j < k + length xs → p j ≡ true) → passes_with p k xs count ≡ has_count xs count
passes_all p k [] count all = refl
passes_all p k (x ∷ xs) count all =
    rw (all k (omega arith) (omega arith))
    (ap (λ (b : Bool). is_count x count || b) (passes_all p (k + 1) xs count (λ j le lt.
    all j (omega (arith, le)) (omega (arith, lt)))))

passes_whole : (p : ℕ → Bool) (a : FlowAccount) (k : ℕ) (xs : List (Option ℕ)) (count : ℕ)
    → ((j : ℕ) → is_whole_kept j a ≡ p j) → passes_with p k xs count ≡ has_count (whole_counts a k xs) count
passes_whole p a k [] count same = refl
passes_whole p a k (x ∷ xs) count same = by (p k) refl (passes_whole p a (k + 1) xs count same)
  where
    by : (b : Bool) → p k ≡ b
        → passes_with p (k + 1) xs count ≡ has_count (whole_counts a (k + 1) xs) count
        → ((p k && is_count x count) || passes_with p (k + 1) xs count)
        ≡ has_count (if is_whole_kept k a then x ∷ whole_counts a (k + 1) xs else whole_counts a (k + 1) xs) count
    by true is rest = rw (same k ∙ is, is) (ap (λ (b : Bool). is_count x count || b) rest)
    by false is rest = rw (same k ∙ is, is) rest

-- ---- SDUs in sequence stand first

place_grows : (xs : List ℕ) (n m : ℕ) → n ≤ m → place_of xs n ≤ place_of xs m
place_grows [] n m le = omega arith
place_grows (x ∷ xs) zero m le = omega arith
place_grows (x ∷ xs) (suc n) zero le = absurd (omega (arith, le))
place_grows (x ∷ xs) (suc n) (suc m) le = omega (arith, place_grows xs n m (omega (arith, le)))

in_front : (es : List FlowEvent) (n : ℕ) → IsLeast (is_in_sequence es) 0 n → (k : ℕ)
    → is_in_sequence es k ≡ nat_lt k n
in_front es n least k = elim (cases_lt k n) [
  | inl lt ↦ least.before k (omega arith) lt ∙ sym (lt-ltb k n lt)
  | inr le ↦ by (is_in_sequence es k) refl le ∙ sym (le-ltb k n le)
]
  where
    by : (b : Bool) → is_in_sequence es k ≡ b → n ≤ k → is_in_sequence es k ≡ false
    by false is le = is
    by true is le =
        let both = and_parts (nat_lt k (length (sdu_sizes es))) (all_places k) is in
        let there : k < length (sdu_sizes es) = ltb-true k (length (sdu_sizes es)) both.0 in
        let grows : sdu_end es n ≤ sdu_end es k = place_grows (sdu_sizes es) (n + 1) (k + 1) (omega (arith, le)) in
        let also : is_in_sequence es n ≡ true =
        and_from (nat_lt n (length (sdu_sizes es))) (all_places n)
        (lt-ltb n (length (sdu_sizes es)) (omega (arith, there, le)))
        (below_all (place_came es) (sdu_end es n) (λ i lt.
        below_each (place_came es) (sdu_end es k) i both.1 (omega (arith, lt, grows)))) in
        absurd (let no = sym also ∙ least.refused in cc)
      where
        all_places : ℕ → Bool
        all_places j = all_below (place_came es) (sdu_end es j)

few : (es : List FlowEvent) (n : ℕ) → IsLeast (is_in_sequence es) 0 n → n ≤ length (sdu_sizes es)
few es n least = elim (cases_lt (length (sdu_sizes es)) n) [
  | inl lt ↦
      let is = least.before (length (sdu_sizes es)) (omega arith) lt in
      let both = and_parts (nat_lt (length (sdu_sizes es)) (length (sdu_sizes es))) _ is in
      absurd (omega (arith, ltb-true (length (sdu_sizes es)) (length (sdu_sizes es)) both.0))
  | inr le ↦ le
]

-- ---- lives

pub histories : (es : List LifeEvent) → AreLives es → IsHistory (running es)
histories [] h = tt
histories (PduGiven count size ∷ es) h = (tt, histories es h.1)
histories (InLife e ∷ es) h = (h.0.1, histories es h.1)
histories (LifeEnded ∷ es) h = tt

not_taken : (e : FlowEvent) → IsGiven e → sdu_size_in e ≡ []
not_taken (SduTaken size) h = absurd h
not_taken (NumberWritten size) h = refl
not_taken (OctetsResent n from to) h = refl
not_taken (OctetsArrived n from to) h = refl
not_taken ReorderStarted h = refl
not_taken ReorderExpired h = refl
not_taken (StatusHeard ack entries) h = refl
not_taken (PollExpired more) h = refl

pushed : (xs : List (Option ℕ)) (x : Option ℕ) → length (xs ++ x ∷ []) ≡ suc (length xs)
pushed [] x = refl
pushed (y ∷ ys) x = ap suc (pushed ys x)

as_many : (es : List LifeEvent) → AreLives es → length (counts_in es) ≡ length (sdu_sizes (running es))
as_many [] h = refl
as_many (PduGiven count size ∷ es) h =
    omega (arith, pushed (counts_in es) count, length_push (sdu_sizes (running es)) size, as_many es h.1)
as_many (InLife e ∷ es) h =
    as_many es h.1
    ∙ sym (ap (λ (xs : List ℕ). length xs)
    (ap (λ (more : List ℕ). sdu_sizes (running es) ++ more) (not_taken e h.0.0) ∙ append-nil (sdu_sizes (running es))))
as_many (LifeEnded ∷ es) h = refl

sequenced_grows : (e : FlowEvent) (a : FlowAccount) → a.sdus.sequenced ≤ (account_with e a).sdus.sequenced
sequenced_grows (SduTaken size) a = omega arith
sequenced_grows (NumberWritten size) a = omega arith
sequenced_grows (OctetsResent n from to) a = omega arith
sequenced_grows (OctetsArrived n from to) a = omega arith
sequenced_grows ReorderStarted a = omega arith
sequenced_grows ReorderExpired a = omega arith
sequenced_grows (StatusHeard ack entries) a = omega arith
sequenced_grows (PollExpired more) a = omega arith

-- what is kept, through all lives
record Stand (most first : ℕ) (es : List LifeEvent) (l : FlowLives) : Type 0 where
  most_is : l.most ≡ most
  account : l.account ≡ account_of most (running es)
  counts : l.counts ≡ drop l.account.sdus.sequenced (counts_in es)
  come : Tells (count_came es) first l.come

-- the COUNTs that have come are those before the lives that run, and those that stand first
came_is : (es : List LifeEvent) (n : ℕ) → IsLeast (is_in_sequence (running es)) 0 n → (count : ℕ)
    → count_came es count ≡ (came_before es count || has_count (take n (counts_in es)) count)
came_is es n least count = ap (λ (b : Bool). came_before es count || b)
    (passes_take (is_in_sequence (running es)) 0 n (counts_in es) count
    (λ j. let same : 0 + j ≡ j = omega arith in
    ap (is_in_sequence (running es)) same ∙ in_front (running es) n least j))

take_within : (xs ys : List (Option ℕ)) (n : ℕ) → n ≤ length xs → take n (xs ++ ys) ≡ take n xs
take_within xs ys zero le = refl
take_within [] ys (suc n) le = absurd (omega (arith, le))
take_within (x ∷ xs) ys (suc n) le = ap (λ (zs : List (Option ℕ)). x ∷ zs) (take_within xs ys n (omega (arith, le)))

drop_within : (xs ys : List (Option ℕ)) (n : ℕ) → n ≤ length xs → drop n (xs ++ ys) ≡ drop n xs ++ ys
drop_within xs ys zero le = refl
drop_within [] ys (suc n) le = absurd (omega (arith, le))
drop_within (x ∷ xs) ys (suc n) le = drop_within xs ys n (omega (arith, le))

abbrev nothing : List (Option ℕ)
nothing = []

take_none : (k : ℕ) → take k nothing ≡ nothing
take_none zero = refl
take_none (suc k) = refl

drop_none : (k : ℕ) → drop k nothing ≡ nothing
drop_none zero = refl
drop_none (suc k) = refl

take_on : (xs : List (Option ℕ)) (n m : ℕ) → n ≤ m → take m xs ≡ take n xs ++ take (m - n) (drop n xs)
take_on xs zero m le = let same : m - 0 ≡ m = omega arith in ap (λ (k : ℕ). take k xs) (sym same)
take_on [] (suc n) zero le = absurd (omega (arith, le))
take_on [] (suc n) (suc m) le = sym (take_none (suc m - suc n))
take_on (x ∷ xs) (suc n) zero le = absurd (omega (arith, le))
take_on (x ∷ xs) (suc n) (suc m) le =
    let same : m - n ≡ suc m - suc n = omega arith in
    ap (λ (zs : List (Option ℕ)). x ∷ zs)
    (take_on xs n m (omega (arith, le)) ∙ ap (λ (k : ℕ). take n xs ++ take k (drop n xs)) same)

drop_on : (xs : List (Option ℕ)) (n m : ℕ) → n ≤ m → drop (m - n) (drop n xs) ≡ drop m xs
drop_on xs zero m le = let same : m - 0 ≡ m = omega arith in ap (λ (k : ℕ). drop k xs) same
drop_on xs (suc n) zero le = absurd (omega (arith, le))
drop_on [] (suc n) (suc m) le = drop_none (suc m - suc n)
drop_on (x ∷ xs) (suc n) (suc m) le =
    let same : suc m - suc n ≡ m - n = omega arith in
    ap (λ (k : ℕ). drop k (drop n xs)) same ∙ drop_on xs n m (omega (arith, le))

-- an event of the life that runs, with what it is given
lives_on : (most first : ℕ) (es ds : List LifeEvent) (e : FlowEvent) (more : List (Option ℕ)) (l : FlowLives)
    → running ds ≡ e ∷ running es → counts_in ds ≡ counts_in es ++ more
    → ((count : ℕ) → came_before ds count ≡ came_before es count)
    → length (counts_in es) ≡ length (sdu_sizes (running es)) → IsHistory (running es) → IsHistory (running ds)
    → Stand most first es l
    → Stand most first ds (living e (record l { counts = l.counts ++ more }))
lives_on most first es ds e more l runs adds before many past now s =
    let n : ℕ = l.account.sdus.sequenced in
    let m : ℕ = (account_with e l.account).sdus.sequenced in
    let grows = sequenced_grows e l.account in
    let was : IsLeast (is_in_sequence (running es)) 0 l.account.sdus.sequenced =
    subst (λ (a : FlowAccount). IsLeast (is_in_sequence (running es)) 0 a.sdus.sequenced) (sym s.account)
    (accounts_are_true most (running es) past).sdus.sequenced in
    let account_is : account_with e l.account ≡ account_of most (running ds) =
    ap (account_with e) s.account ∙ sym (ap (account_of most) runs) in
    let is : IsLeast (is_in_sequence (running ds)) 0 (account_with e l.account).sdus.sequenced =
    subst (λ (a : FlowAccount). IsLeast (is_in_sequence (running ds)) 0 a.sdus.sequenced) (sym account_is)
    (accounts_are_true most (running ds) now).sdus.sequenced in
    let low : l.account.sdus.sequenced ≤ length (counts_in es) =
    omega (arith, few (running es) l.account.sdus.sequenced was, many) in
    let kept : l.counts ++ more ≡ drop l.account.sdus.sequenced (counts_in ds) =
    ap (λ (xs : List (Option ℕ)). xs ++ more) s.counts
    ∙ sym (drop_within (counts_in es) more l.account.sdus.sequenced low)
    ∙ sym (ap (drop l.account.sdus.sequenced) adds) in
    record {
      most_is = s.most_is;
      account = account_is;
      counts =
          ap (drop ((account_with e l.account).sdus.sequenced - l.account.sdus.sequenced)) kept
          ∙ drop_on (counts_in ds) l.account.sdus.sequenced (account_with e l.account).sdus.sequenced grows;
      come = tells_same
          (λ count. count_came es count || has_count
          (take ((account_with e l.account).sdus.sequenced - l.account.sdus.sequenced) (l.counts ++ more)) count)
          (count_came ds) first
          (with_counts (take ((account_with e l.account).sdus.sequenced - l.account.sdus.sequenced) (l.counts ++ more))
          l.come)
          (λ count.
          let old : List (Option ℕ) = take l.account.sdus.sequenced (counts_in es) in
          let new : List (Option ℕ) =
          take ((account_with e l.account).sdus.sequenced - l.account.sdus.sequenced) (l.counts ++ more) in
          let all : take l.account.sdus.sequenced (counts_in es)
          ++ take ((account_with e l.account).sdus.sequenced - l.account.sdus.sequenced) (l.counts ++ more)
          ≡ take (account_with e l.account).sdus.sequenced (counts_in ds) =
          ap (λ (xs : List (Option ℕ)). xs ++ take ((account_with e l.account).sdus.sequenced
          - l.account.sdus.sequenced) (l.counts ++ more))
          (sym (take_within (counts_in es) more l.account.sdus.sequenced low)
          ∙ sym (ap (take l.account.sdus.sequenced) adds))
          ∙ ap (λ (xs : List (Option ℕ)). take l.account.sdus.sequenced (counts_in ds)
          ++ take ((account_with e l.account).sdus.sequenced - l.account.sdus.sequenced) xs) kept
          ∙ sym (take_on (counts_in ds) l.account.sdus.sequenced (account_with e l.account).sdus.sequenced grows) in
          ap (λ (b : Bool). b || has_count new count) (came_is es l.account.sdus.sequenced was count)
          ∙ or_assoc (came_before es count) (has_count old count) (has_count new count)
          ∙ ap (λ (b : Bool). came_before es count || b) (sym (has_both old new count))
          ∙ ap (λ (xs : List (Option ℕ)). came_before es count || has_count xs count) all
          ∙ ap (λ (b : Bool). b || has_count (take (account_with e l.account).sdus.sequenced (counts_in ds)) count)
          (sym (before count))
          ∙ sym (came_is ds (account_with e l.account).sdus.sequenced is count))
          (counts_tell (count_came es) first
          (take ((account_with e l.account).sdus.sequenced - l.account.sdus.sequenced) (l.counts ++ more)) l.come
          s.come);
    }

no_more : (xs : List (Option ℕ)) → xs ++ [] ≡ xs
no_more xs = append-nil xs

-- a life ends
lives_end : (most first : ℕ) (es : List LifeEvent) (l : FlowLives)
    → length (counts_in es) ≡ length (sdu_sizes (running es)) → IsHistory (running es) → Stand most first es l
    → Stand most first (LifeEnded ∷ es) (ended l)
lives_end most first es l many past s =
    let r = running es in
    let told = accounts_are_true most (running es) past in
    let was : IsLeast (is_in_sequence (running es)) 0 l.account.sdus.sequenced =
    subst (λ (a : FlowAccount). IsLeast (is_in_sequence (running es)) 0 a.sdus.sequenced) (sym s.account)
    told.sdus.sequenced in
    let whole : AreWhole (running es) l.account =
    subst (λ (a : FlowAccount). AreWhole (running es) a) (sym s.account) told.whole in
    let low : l.account.sdus.sequenced ≤ length (counts_in es) =
    omega (arith, few (running es) l.account.sdus.sequenced was, many) in
    record {
      most_is = s.most_is;
      account = ap empty_account s.most_is;
      counts = refl;
      come = tells_same
          (λ count. count_came es count
          || has_count (whole_counts l.account l.account.sdus.sequenced l.counts) count)
          (count_came (LifeEnded ∷ es)) first
          (with_counts (whole_counts l.account l.account.sdus.sequenced l.counts) l.come)
          (λ count.
          let first_ones : List (Option ℕ) = take l.account.sdus.sequenced (counts_in es) in
          let others : List (Option ℕ) = drop l.account.sdus.sequenced (counts_in es) in
          let size : length (take l.account.sdus.sequenced (counts_in es)) ≡ l.account.sdus.sequenced =
          length-take-le l.account.sdus.sequenced (counts_in es) low in
          let split : passes_with (is_whole_sdu (running es)) 0 (counts_in es) count
          ≡ (has_count first_ones count
          || has_count (whole_counts l.account l.account.sdus.sequenced l.counts) count) =
          ap (λ (xs : List (Option ℕ)). passes_with (is_whole_sdu (running es)) 0 xs count)
          (sym (take-append-drop l.account.sdus.sequenced (counts_in es)))
          ∙ passes_both (is_whole_sdu (running es)) 0 first_ones others count
          ∙ ap (λ (b : Bool). b || passes_with (is_whole_sdu (running es)) (0 + length first_ones) others count)
          (passes_all (is_whole_sdu (running es)) 0 first_ones count (λ j le lt.
          sym (whole j) ∙ ap (λ (b : Bool). b || is_whole_at l.account.arrivals l.account.sdus.ends
          (j - l.account.sdus.sequenced)) (lt-ltb j l.account.sdus.sequenced (omega (arith, lt, size)))))
          ∙ ap (λ (b : Bool). has_count first_ones count || b)
          (ap (λ (n : ℕ). passes_with (is_whole_sdu (running es)) n others count) (omega (arith, size))
          ∙ passes_whole (is_whole_sdu (running es)) l.account l.account.sdus.sequenced others count whole
          ∙ ap (λ (xs : List (Option ℕ)). has_count (whole_counts l.account l.account.sdus.sequenced xs) count)
          (sym s.counts)) in
          ap (λ (b : Bool). b || has_count (whole_counts l.account l.account.sdus.sequenced l.counts) count)
          (came_is es l.account.sdus.sequenced was count)
          ∙ or_assoc (came_before es count) (has_count first_ones count)
          (has_count (whole_counts l.account l.account.sdus.sequenced l.counts) count)
          ∙ ap (λ (b : Bool). came_before es count || b) (sym split)
          ∙ sym (or_false (came_before es count || passes_with (is_whole_sdu (running es)) 0 (counts_in es) count)))
          (counts_tell (count_came es) first (whole_counts l.account l.account.sdus.sequenced l.counts) l.come s.come);
    }

stand : (most first : ℕ) (es : List LifeEvent) → AreLives es → Stand most first es (lives_of most first es)
stand most first [] h = record {
  most_is = refl;
  account = refl;
  counts = refl;
  come = record {
    low = omega arith;
    below = λ n le lt. absurd (omega (arith, le, lt));
    ascend = tt;
    there = λ n le. refl;
  };
}
stand most first (PduGiven count size ∷ es) h =
    lives_on most first es (PduGiven count size ∷ es) (SduTaken size) (count ∷ []) (lives_of most first es) refl refl
    (λ c. refl) (as_many es h.1) (histories es h.1) (tt, histories es h.1) (stand most first es h.1)
stand most first (InLife e ∷ es) h =
    let l = lives_of most first es in
    subst (λ (xs : List (Option ℕ)). Stand most first (InLife e ∷ es)
    (living e (record (lives_of most first es) { counts = xs }))) (no_more (lives_of most first es).counts)
    (lives_on most first es (InLife e ∷ es) e [] (lives_of most first es) refl (sym (no_more (counts_in es)))
    (λ c. refl) (as_many es h.1) (histories es h.1) (h.0.1, histories es h.1) (stand most first es h.1))
stand most first (LifeEnded ∷ es) h =
    lives_end most first es (lives_of most first es) (as_many es h.1) (histories es h.1) (stand most first es h.1)

pub lives_are_true : LivesAreTrue
lives_are_true most first es h =
    let s = stand most first es h in
    record {
      account = s.account;
      sequenced = λ k.
          in_front (running es) (account_of most (running es)).sdus.sequenced
          (accounts_are_true most (running es) (histories es h)).sdus.sequenced k
          ∙ ap (λ (a : FlowAccount). nat_lt k a.sdus.sequenced) (sym s.account);
      next = tells_least (count_came es) first (lives_of most first es).come s.come;
      ascend = s.come.ascend;
      beyond = s.come.there;
    }
