-- The report of the other end comes.
use Rattle.std.proofs.Common.{◌≡◌, ◌<◌, ◌≤◌, ℕ, ◌+◌, Bool, true, false, not, ◌||◌, ◌&&◌, List, [], ◌∷◌, ◌++◌, drop, map}
use Rattle.std.proofs.Common.{Option, Some, None, subst, refl, ap, sym, ◌∙◌, arith}
use Rattle.std.specs.Prelude.{if◌then◌else◌, ◌==◌}
use Rattle.std.proofs.lemmas.Bool.Decides.{nat_tests}
use Rattle.std.proofs.lemmas.List.{append-nil}
use Rattle.l2_num.specs.Ascending.{AreBetween}
use Rattle.pdcp_tx_store.specs.declared.given.Sent.{Sent}
use Rattle.pdcp_tx_store.specs.declared.given.Entry.{Entry}
use Rattle.pdcp_tx_store.specs.declared.given.Entry.TheVariants.{Data, Own, Gone}
use Rattle.pdcp_tx_store.specs.Given.{settled, tells, heard, with_report, untold, data_of}
use Rattle.pdcp_tx.specs.State.{State, low, moved, reported, reported_from, fms_count}
use Rattle.pdcp_tx.specs.Runs.{Report}
use Rattle.law_pdcp.specs.OneEnd.Lives.{Calls}
use Rattle.law_pdcp.proofs.OneEnd.Naming.{NamesKept}
use Rattle.law_pdcp.proofs.OneEnd.Thinning.{In, names}
use Rattle.law_pdcp.specs.AmPair.Flow.{Flow, Sends as Sending, happens, Comes}
use Rattle.law_pdcp.proofs.AmPair.Numbers.{among, among_more, between_lower, counts, again_counts, came}
use Rattle.law_pdcp.proofs.AmPair.Opens.{all_of, is_among, first_rises, trimmed_among}
use Rattle.law_pdcp.proofs.AmPair.Places.{settled_places, report_places}
use Rattle.law_pdcp.proofs.AmPair.Sound.{rest, IsSound}
use Rattle.law_pdcp.proofs.AmPair.Takings.{kept_after, order_after, none_given}
use Rattle.law_pdcp.proofs.AmPair.Confirming.{moved_sends, moved_floor}

-- ---- what it leaves

untold_step : (from : ℕ) (bitmap : List ℕ) (s : Sent) (ss : List Sent) (low end : ℕ) (b : Bool)
    → tells from bitmap s.count ≡ b → low ≤ s.count
    → AreBetween (s.count + 1) (again_counts (untold from bitmap ss)) end
    → AreBetween low (again_counts (untold from bitmap (s ∷ ss))) end
untold_step from bitmap s ss low end true e le h =
    rw e (between_lower low (s.count + 1) (again_counts (untold from bitmap ss)) end (omega arith) h)
untold_step from bitmap s ss low end false e le h = rw e (le, h)

untold_between : (from : ℕ) (bitmap : List ℕ) (ss : List Sent) (low end : ℕ) → AreBetween low (again_counts ss) end
    → AreBetween low (again_counts (untold from bitmap ss)) end
untold_between from bitmap [] low end h = h
untold_between from bitmap (s ∷ ss) low end h =
    untold_step from bitmap s ss low end (tells from bitmap s.count) refl h.0
    (untold_between from bitmap ss (s.count + 1) end h.1)

untold_behind : (from : ℕ) (bitmap : List ℕ) (xs : List ℕ) (ss : List Sent) (low end : ℕ)
    → AreBetween low (xs ++ again_counts ss) end → AreBetween low (xs ++ again_counts (untold from bitmap ss)) end
untold_behind from bitmap [] ss low end h = untold_between from bitmap ss low end h
untold_behind from bitmap (x ∷ xs) ss low end h = (h.0, untold_behind from bitmap xs ss (x + 1) end h.1)

untold_count_step : (from : ℕ) (bitmap : List ℕ) (s : Sent) (ss : List Sent) (n : ℕ) (b : Bool)
    → tells from bitmap s.count ≡ b
    → (among (again_counts ss) n ≡ true → tells from bitmap n || among (again_counts (untold from bitmap ss)) n
    ≡ true)
    → among (again_counts (s ∷ ss)) n ≡ true
    → tells from bitmap n || among (again_counts (untold from bitmap (s ∷ ss))) n ≡ true
untold_count_step from bitmap s ss n true e f i = rw e (by_count (n == s.count) refl)
  where
    by_count : (b : Bool) → (n == s.count) ≡ b
        → tells from bitmap n || among (again_counts (untold from bitmap ss)) n ≡ true
    by_count true q = let same : n ≡ s.count = grind (arith, nat_tests) in
        let t : tells from bitmap n ≡ true = ap (tells from bitmap) same ∙ e in grind (arith, nat_tests, t)
    by_count false q = f (grind (arith, nat_tests))
untold_count_step from bitmap s ss n false e f i =
    rw e (split (tells from bitmap n) (n == s.count) (among (again_counts ss) n)
    (among (again_counts (untold from bitmap ss)) n) f i)
  where
    split : (t a b c : Bool) → (b ≡ true → t || c ≡ true) → a || b ≡ true → t || (a || c) ≡ true
    split true a b c f i = refl
    split false true b c f i = refl
    split false false b c f i = f i

untold_count : (from : ℕ) (bitmap : List ℕ) (ss : List Sent) (n : ℕ) → among (again_counts ss) n ≡ true
    → tells from bitmap n || among (again_counts (untold from bitmap ss)) n ≡ true
untold_count from bitmap [] n e = let no : false ≡ true = e in cc
untold_count from bitmap (s ∷ ss) n e =
    untold_count_step from bitmap s ss n (tells from bitmap s.count) refl (untold_count from bitmap ss n) e

untold_less_step : (from : ℕ) (bitmap : List ℕ) (s : Sent) (ss : List Sent) (n : ℕ) (b : Bool)
    → tells from bitmap s.count ≡ b
    → (among (again_counts (untold from bitmap ss)) n ≡ true → among (again_counts ss) n ≡ true)
    → among (again_counts (untold from bitmap (s ∷ ss))) n ≡ true → among (again_counts (s ∷ ss)) n ≡ true
untold_less_step from bitmap s ss n true e f i = let j : among (again_counts (untold from bitmap ss)) n ≡ true =
    subst (λ (t : Bool). among (again_counts (if t then untold from bitmap ss else s ∷ untold from bitmap ss)) n
    ≡ true) e i in grind (arith, nat_tests, f j)
untold_less_step from bitmap s ss n false e f i = let j : among (again_counts (s ∷ untold from bitmap ss)) n ≡ true =
    subst (λ (t : Bool). among (again_counts (if t then untold from bitmap ss else s ∷ untold from bitmap ss)) n
    ≡ true) e i in grind (arith, nat_tests, f)

untold_less : (from : ℕ) (bitmap : List ℕ) (ss : List Sent) (n : ℕ)
    → among (again_counts (untold from bitmap ss)) n ≡ true → among (again_counts ss) n ≡ true
untold_less from bitmap [] n e = e
untold_less from bitmap (s ∷ ss) n e =
    untold_less_step from bitmap s ss n (tells from bitmap s.count) refl (untold_less from bitmap ss n) e

-- of the COUNTs that aren't confirmed, those are left that it doesn't tell
again_told_step : (from : ℕ) (bitmap : List ℕ) (s : Sent) (xs ys : List Sent) (n : ℕ) (b : Bool)
    → tells from bitmap s.count ≡ b → (is_among xs n ≡ true → tells from bitmap n || is_among ys n ≡ true)
    → is_among (s ∷ xs) n ≡ true → tells from bitmap n || is_among (if b then ys else s ∷ ys) n ≡ true
again_told_step from bitmap s xs ys n true e f i = by_count (n == s.count) refl
  where
    by_count : (b : Bool) → (n == s.count) ≡ b → tells from bitmap n || is_among ys n ≡ true
    by_count true q = let same : n ≡ s.count = grind (arith, nat_tests) in
        let t : tells from bitmap n ≡ true = ap (tells from bitmap) same ∙ e in grind (arith, nat_tests, t)
    by_count false q = f (grind (arith, nat_tests))
again_told_step from bitmap s xs ys n false e f i =
    split (tells from bitmap n) (n == s.count && not s.acked) (is_among xs n) (is_among ys n) f i
  where
    split : (t a b c : Bool) → (b ≡ true → t || c ≡ true) → a || b ≡ true → t || (a || c) ≡ true
    split true a b c f i = refl
    split false true b c f i = refl
    split false false b c f i = f i

again_told : (from : ℕ) (bitmap : List ℕ) (ss : List Sent) (n : ℕ) → is_among ss n ≡ true
    → tells from bitmap n || is_among (untold from bitmap ss) n ≡ true
again_told from bitmap [] n e = let no : false ≡ true = e in cc
again_told from bitmap (s ∷ ss) n e =
    again_told_step from bitmap s ss (untold from bitmap ss) n (tells from bitmap s.count) refl
    (again_told from bitmap ss n) e

heard_data : (from : ℕ) (bitmap : List ℕ) (s : Sent) (es : List Entry) (ss : List Sent) (b : Bool)
    → tells from bitmap s.count ≡ b → data_of (map (heard from bitmap) (Data s ∷ es)) ++ ss
    ≡ (if b then data_of (map (heard from bitmap) es) ++ ss else s ∷ (data_of (map (heard from bitmap) es) ++ ss))
heard_data from bitmap s es ss true e = rw e refl
heard_data from bitmap s es ss false e = rw e refl

all_told : (from : ℕ) (bitmap : List ℕ) (es : List Entry) (ss : List Sent) (n : ℕ)
    → is_among (data_of es ++ ss) n ≡ true
    → tells from bitmap n || is_among (data_of (map (heard from bitmap) es) ++ untold from bitmap ss) n ≡ true
all_told from bitmap [] ss n e = again_told from bitmap ss n e
all_told from bitmap (Data s ∷ es) ss n e =
    subst (λ l. tells from bitmap n || is_among l n ≡ true)
    (sym (heard_data from bitmap s es (untold from bitmap ss) (tells from bitmap s.count) refl))
    (again_told_step from bitmap s (data_of es ++ ss) (data_of (map (heard from bitmap) es) ++ untold from bitmap ss)
    n (tells from bitmap s.count) refl (all_told from bitmap es ss n) e)
all_told from bitmap (Own ∷ es) ss n e = all_told from bitmap es ss n e
all_told from bitmap (Gone ∷ es) ss n e = all_told from bitmap es ss n e

told_less_step : (s : Sent) (xs ys : List Sent) (n : ℕ) (b : Bool) → (is_among ys n ≡ true → is_among xs n ≡ true)
    → is_among (if b then ys else s ∷ ys) n ≡ true → is_among (s ∷ xs) n ≡ true
told_less_step s xs ys n true f e = grind (arith, nat_tests, f e)
told_less_step s xs ys n false f e = grind (arith, nat_tests, f)

again_told_less : (from : ℕ) (bitmap : List ℕ) (ss : List Sent) (n : ℕ) → is_among (untold from bitmap ss) n ≡ true
    → is_among ss n ≡ true
again_told_less from bitmap [] n e = e
again_told_less from bitmap (s ∷ ss) n e =
    told_less_step s ss (untold from bitmap ss) n (tells from bitmap s.count) (again_told_less from bitmap ss n) e

all_told_less : (from : ℕ) (bitmap : List ℕ) (es : List Entry) (ss : List Sent) (n : ℕ)
    → is_among (data_of (map (heard from bitmap) es) ++ untold from bitmap ss) n ≡ true
    → is_among (data_of es ++ ss) n ≡ true
all_told_less from bitmap [] ss n e = again_told_less from bitmap ss n e
all_told_less from bitmap (Data s ∷ es) ss n e =
    told_less_step s (data_of es ++ ss) (data_of (map (heard from bitmap) es) ++ untold from bitmap ss) n
    (tells from bitmap s.count) (all_told_less from bitmap es ss n)
    (subst (λ l. is_among l n ≡ true)
    (heard_data from bitmap s es (untold from bitmap ss) (tells from bitmap s.count) refl) e)
all_told_less from bitmap (Own ∷ es) ss n e = all_told_less from bitmap es ss n e
all_told_less from bitmap (Gone ∷ es) ss n e = all_told_less from bitmap es ss n e

-- ---- the step

abbrev with_told : State → ℕ → List ℕ → State
with_told s from bitmap = record s {
  given = settled (with_report s.given from bitmap);
  again = untold from bitmap s.again;
}

told_less : (s : State) (from : ℕ) (bitmap : List ℕ) (n : ℕ) → is_among (all_of (with_told s from bitmap)) n ≡ true
    → is_among (all_of s) n ≡ true
told_less s from bitmap n e =
    all_told_less from bitmap s.given.entries s.again n
    (sym (trimmed_among (map (heard from bitmap) s.given.entries) (untold from bitmap s.again) n) ∙ e)

told_left : (s : State) (from : ℕ) (bitmap : List ℕ) (n : ℕ) → is_among (all_of s) n ≡ true
    → tells from bitmap n || is_among (all_of (with_told s from bitmap)) n ≡ true
told_left s from bitmap n e =
    subst (λ b. tells from bitmap n || b ≡ true)
    (sym (trimmed_among (map (heard from bitmap) s.given.entries) (untold from bitmap s.again) n))
    (all_told from bitmap s.given.entries s.again n e)

told_moved : (bits : ℕ) (f : Flow) (from : ℕ) (bitmap : List ℕ)
    → ((n : ℕ) → tells from bitmap n ≡ true → f.first ≤ n → f.handed n ≡ true)
    → NamesKept f.first f.sdus (moved (with_told f.sender from bitmap))
    → In 0 (names (all_of (with_told f.sender from bitmap))) f.sender.next
    → IsSound bits f → IsSound bits (record f { sender = moved (with_told f.sender from bitmap) })
told_moved bits f from bitmap true' kept order h =
    let s = f.sender in
    let pre = with_told s from bitmap in
    let pdus = drop f.passed f.stream in
    let rise = first_rises (all_of s) (all_of pre) s.next h.sends.order (λ n e. told_less s from bitmap n e) in
    let opens : (n : ℕ) → f.first ≤ n → n < s.next
    → (f.handed n || came f.whole f.passed pdus n) || is_among (all_of pre) n ≡ true =
    λ n a b. grind (arith, nat_tests, h.links.opens n a b, told_left s from bitmap n, true' n) in
    let split : (n : ℕ) → among (rest pdus s) n ≡ among (counts pdus) n || among (again_counts s.again) n =
    λ n. among_more (counts pdus) (again_counts s.again) n in
    let split' : (n : ℕ) → among (rest pdus pre) n ≡ among (counts pdus) n || among (again_counts pre.again) n =
    λ n. among_more (counts pdus) (again_counts pre.again) n in
    record {
      width = h.width;
      sends = moved_sends bits f.first f.sdus pre
          (record {
            am = h.sends.am;
            room = h.sends.room;
            some = h.sends.some;
            waits_some = h.sends.waits_some;
            owes = h.sends.owes;
            near = h.sends.near;
            lag = omega (arith, h.sends.lag, rise);
          }) kept order;
      links = record {
        within = h.links.within;
        order = untold_behind from bitmap (counts pdus) s.again 0 s.next h.links.order;
        covered = λ n a b. grind (
          arith,
          nat_tests,
          h.links.covered n a b,
          split n,
          split' n,
          untold_count from bitmap s.again n,
          true' n,
        );
        opens = opens;
        floor = λ n a lt. moved_floor bits pre (λ m. f.handed m || came f.whole f.passed pdus m) n h.sends.am order
            (h.links.floor n a) (opens n a) lt;
        late =
            λ n c e i. h.links.late n c e
            (grind (arith, nat_tests, split c, split' c, untold_less from bitmap s.again c));
        written = h.links.written;
      };
      receives = h.receives;
      hears_am = h.hears_am;
      key = h.key;
      places = settled_places (with_report s.given from bitmap) f.stream
          (report_places s.given from bitmap f.stream h.places);
      few = h.few;
      passed = h.passed;
      told = h.told;
    }

reported_is : (s : State) (fms : ℕ) (bitmap : List ℕ) (o : Option ℕ) → fms_count s.kind s.base fms ≡ o
    → reported s fms bitmap ≡ reported_from o s bitmap
unfolding reported
reported_is s fms bitmap o e = ap (λ c. reported_from c s bitmap) e

by_count : (bits : ℕ) (f : Flow) (fms : ℕ) (bitmap : List ℕ) (o : Option ℕ)
    → fms_count f.sender.kind f.sender.base fms ≡ o → Comes f.report f.sender.kind fms bitmap → IsSound bits f
    → IsSound bits (record f { sender = reported f.sender fms bitmap })
by_count bits f fms bitmap None e c h =
    subst (λ t. IsSound bits (record f { sender = t })) (sym (reported_is f.sender fms bitmap None e)) h
by_count bits f fms bitmap (Some from) e c h =
    let s = f.sender in
    let is : reported s fms bitmap ≡ moved (with_told s from bitmap) = reported_is s fms bitmap (Some from) e in
    let kept : NamesKept f.first f.sdus (moved (with_told s from bitmap)) =
    subst (λ t. NamesKept f.first f.sdus t) is
    (subst (λ l. NamesKept f.first l (reported s fms bitmap)) (append-nil f.sdus)
    (kept_after f.first f.sdus s (Calls (Report fms bitmap)) h.sends.kept)) in
    let order : In 0 (names (all_of (with_told s from bitmap))) s.next =
    subst (λ t. In 0 (names (all_of t)) t.next) is
    (order_after s bits (Calls (Report fms bitmap)) h.sends.am h.sends.order) in
    subst (λ t. IsSound bits (record f { sender = t })) (sym is)
    (told_moved bits f from bitmap (λ n t a. h.told fms bitmap from n c e t a) kept order h)

pub report_sound : (bits : ℕ) (f : Flow) (fms : ℕ) (bitmap : List ℕ) → Comes f.report f.sender.kind fms bitmap
    → IsSound bits f → IsSound bits (happens f (Sending (Report fms bitmap)))
report_sound bits f fms bitmap c h =
    none_given bits f (reported f.sender fms bitmap)
    (by_count bits f fms bitmap (fms_count f.sender.kind f.sender.base fms) refl c h)
