-- A receiver, over the COUNTs that came to it.
use Rattle.std.proofs.Common.{◌≡◌, ◌≢◌, ◌<◌, ◌≤◌, ℕ, suc, zero, ◌+◌, ◌-◌, ◌%◌, ◌^◌, Bool, true, false, ◌||◌, List, []}
use Rattle.std.proofs.Common.{◌++◌, take, drop, Option, Some, None, slice_get, slice_index_or, append_assoc, ⊎_elim}
use Rattle.std.proofs.Common.{inl, inr, subst, refl, ap, sym, ◌∙◌, arith}
use Rattle.std.specs.Prelude.{if◌then◌else◌, is_some, ◌==◌, nat_lt}
use Rattle.std.proofs.lemmas.Bool.Decides.{nat_tests}
use Rattle.std.proofs.lemmas.Bool.{cases_lt, cases_eq, false≢true}
use Rattle.l2_num.specs.Least.{IsLeast}
use Rattle.pdcp_pdu.specs.declared.PdcpKind.TheVariants.{Am}
use Rattle.pdcp_pdu.specs.Kinds.{IsKind}
use Rattle.pdcp_tx.specs.Pdus.{pdu}
use Rattle.pdcp_rx.specs.declared.got.Cause.{Cause}
use Rattle.pdcp_rx.specs.declared.got.Cause.TheVariants.{Arrived, Reestablished}
use Rattle.pdcp_rx.specs.declared.got.Got.TheVariants as answers
use Rattle.pdcp_rx.specs.declared.security.Opened.TheVariants.{Sdu}
use Rattle.pdcp_rx.specs.Heard.{heard}
use Rattle.pdcp_rx.specs.Held.{Ends, is_held, stored, present, leading_held, rising}
use Rattle.pdcp_rx.specs.Opening.{opened}
use Rattle.pdcp_rx.specs.State.{State, width, above, passed_over, opened_at, waits, raised, placed, got, got_heard}
use Rattle.pdcp_rx.specs.State.{got_data, got_opened, left_heard, left_data, left_opened, arrived}
use Rattle.law_pdcp.specs.AmPair.Reading.{fresh_answer, answer}
use Rattle.pdcp_rx.proofs.EndLemmas.{stored_ends, dropped_ends}
use Rattle.law_pdcp.specs.OneEnd.Lives.{Names}
use Rattle.law_pdcp.specs.OneEnd.Receiving.{body_of, as_written}
use Rattle.law_pdcp.proofs.OneEnd.Openings.{heard_as_written, opened_again}
use Rattle.law_pdcp.proofs.AmPair.Held.{stored_same, stored_other, dropped, rising_run, run_before, run_end, run_taken}

-- what it handed up are the SDUs below the first COUNT that hasn't come, and it holds those behind that have come
pub record Receives (first : ℕ) (sdus : List (List ℕ)) (handed : ℕ
    → Bool) (up : List (List ℕ)) (r : State) : Type 0 where
  pub least : IsLeast handed first r.next
  pub held_is : (k : ℕ) → is_held r.held k ≡ handed (r.next + k)
  pub sdu_is : (k : ℕ) (sdu : List ℕ) → slice_index_or r.held k None ≡ Some sdu
      → slice_get sdus (r.next + k - first) ≡ Some sdu
  pub up_is : up ++ r.ready ≡ take (r.next - first) sdus
  pub ends : Ends r.held

abbrev pub with : (ℕ → Bool) → ℕ → ℕ → Bool
with handed c n = n == c || handed n

pub same_handed : (first : ℕ) (sdus : List (List ℕ)) (f g : ℕ → Bool) (up : List (List ℕ)) (r : State)
    → ((n : ℕ) → f n ≡ g n) → Receives first sdus f up r → Receives first sdus g up r
same_handed first sdus f g up r e h = record {
  least = record {
    from = h.least.from;
    refused = sym (e r.next) ∙ h.least.refused;
    before = λ n a b. sym (e n) ∙ h.least.before n a b;
  };
  held_is = λ k. h.held_is k ∙ e (r.next + k);
  sdu_is = h.sdu_is;
  up_is = h.up_is;
  ends = h.ends;
}

-- ---- windows

pub above_is : (r : State) (bits c : ℕ) → r.kind ≡ Am bits → IsKind (Am bits) → r.next ≤ c
    → c < r.next + 2 ^ (bits - 1) → above r (c % 2 ^ bits) ≡ c - r.next
above_is r bits c k (inl e) le lt = let lt' : c < r.next + 2048 = subst (λ b. c < r.next + 2 ^ (b - 1)) e lt in
    rw (k, e) (omega arith)
above_is r bits c k (inr e) le lt = let lt' : c < r.next + 16384 = subst (λ b. c < r.next + 2 ^ (b - 1)) e lt in
    rw (k, e) (omega arith)

pub below_is : (r : State) (bits c : ℕ) → r.kind ≡ Am bits → IsKind (Am bits) → c < r.next
    → r.next ≤ c + 2 ^ (bits - 1) → 2 ^ (bits - 1) ≤ above r (c % 2 ^ bits)
below_is r bits c k (inl e) lt le = let le' : r.next ≤ c + 2048 = subst (λ b. r.next ≤ c + 2 ^ (b - 1)) e le in
    rw (k, e) (omega arith)
below_is r bits c k (inr e) lt le = let le' : r.next ≤ c + 16384 = subst (λ b. r.next ≤ c + 2 ^ (b - 1)) e le in
    rw (k, e) (omega arith)

-- ---- one that is new

sdu_of : (first : ℕ) (sdus : List (List ℕ)) (handed : ℕ → Bool) (up : List (List ℕ)) (r : State) (k : ℕ)
    (sdu : List ℕ) → Receives first sdus handed up r
    → Names first sdus (r.next + k) sdu → (j : ℕ) (x : List ℕ) → slice_index_or (stored r.held k sdu) j None ≡ Some x
    → slice_get sdus (r.next + j - first) ≡ Some x
sdu_of first sdus handed up r k sdu h n j x e = ⊎_elim
    (λ (q : j ≡ k).
    let here : slice_index_or (stored r.held k sdu) j None ≡ Some sdu =
    subst (λ i. slice_index_or (stored r.held k sdu) i None ≡ Some sdu) (sym q) (stored_same r.held k sdu) in
    let some : Some sdu ≡ Some x = sym here ∙ e in
    let same : sdu ≡ x = cc in
    subst (λ i. slice_get sdus (r.next + i - first) ≡ Some x) (sym q)
    (subst (λ y. slice_get sdus (r.next + k - first) ≡ Some y) same n.1))
    (λ (q : j ≢ k). h.sdu_is j x (sym (stored_other r.held k j sdu q) ∙ e))
    (cases_eq j k)

held_of : (handed : ℕ → Bool) (r : State) (k : ℕ) (sdu : List ℕ) → ((j : ℕ) → is_held r.held j ≡ handed (r.next + j))
    → (j : ℕ) → is_held (stored r.held k sdu) j ≡ with handed (r.next + k) (r.next + j)
held_of handed r k sdu h j = ⊎_elim
    (λ (q : j ≡ k).
    let here : is_held (stored r.held k sdu) j ≡ true =
    subst (λ i. is_held (stored r.held k sdu) i ≡ true) (sym q) (ap is_some (stored_same r.held k sdu)) in
    grind (arith, nat_tests))
    (λ (q : j ≢ k).
    let other : is_held (stored r.held k sdu) j ≡ handed (r.next + j) =
    ap is_some (stored_other r.held k j sdu q) ∙ h j in
    let no : r.next + j ≢ r.next + k = λ same. q (omega (arith, same)) in
    grind (arith, nat_tests))
    (cases_eq j k)

-- it waits
stores : (first : ℕ) (sdus : List (List ℕ)) (handed : ℕ → Bool) (up : List (List ℕ)) (r : State) (k : ℕ)
    (sdu : List ℕ) → Receives first sdus handed up r → 0 < k
    → Names first sdus (r.next + k) sdu
    → Receives first sdus (with handed (r.next + k)) up (record r { held = stored r.held k sdu })
stores first sdus handed up r k sdu h lt n = record {
  least = record {
    from = h.least.from;
    refused = grind (arith, nat_tests, h.least.refused);
    before = λ m a b. grind (arith, nat_tests, h.least.before m);
  };
  held_is = held_of handed r k sdu h.held_is;
  sdu_is = sdu_of first sdus handed up r k sdu h n;
  up_is = h.up_is;
  ends = stored_ends r.held k sdu h.ends;
}

-- those that are next go up
raises : (first : ℕ) (sdus : List (List ℕ)) (handed more : ℕ
    → Bool) (up : List (List ℕ)) (r : State) (hs : List (Option (List ℕ))) (m : ℕ) → Receives first sdus handed up r
    → ((n : ℕ) → handed n ≡ true → more n ≡ true) → ((k : ℕ) → is_held hs k ≡ more (r.next + k))
    → ((k : ℕ) (sdu : List ℕ) → slice_index_or hs k None ≡ Some sdu → slice_get sdus (r.next + k - first) ≡ Some sdu)
    → Ends hs → m ≡ leading_held hs
    → Receives first sdus more up (record r {
      next = r.next + m;
      held = drop m hs;
      ready = r.ready ++ present (take m hs);
    })
raises first sdus handed more up r hs m h grows held is ends e =
    let from = h.least.from in
    let place : (k : ℕ) → r.next + k - first ≡ (r.next - first) + k = λ k. omega arith in
    let further : (k : ℕ) → r.next + (m + k) ≡ r.next + m + k = λ k. omega arith in
    record {
      least = record {
        from = omega arith;
        refused = sym (held m) ∙ subst (λ n. is_held hs n ≡ false) (sym e) (run_end hs);
        before = λ n a b. ⊎_elim (λ (l : n < r.next). grows n (h.least.before n a l))
            (λ (l : r.next ≤ n).
            let at : r.next + (n - r.next) ≡ n = omega arith in
            sym (ap more at) ∙ sym (held (n - r.next)) ∙ run_before hs (n - r.next) (omega (arith, e)))
            (cases_lt n r.next);
      };
      held_is = λ k. ap is_some (dropped hs m k) ∙ held (m + k) ∙ ap more (further k);
      sdu_is = λ k sdu q. subst (λ n. slice_get sdus (n - first) ≡ Some sdu) (further k)
          (is (m + k) sdu (sym (dropped hs m k) ∙ q));
      up_is =
          let all : take (r.next - first) sdus ++ present (take (leading_held hs) hs)
          ≡ take (r.next - first + leading_held hs) sdus =
          run_taken hs sdus (r.next - first)
          (λ k sdu q. subst (λ n. slice_get sdus n ≡ Some sdu) (place k) (is k sdu q)) in
          let end : r.next - first + m ≡ r.next + m - first = omega arith in
          sym (append_assoc up r.ready (present (take m hs))) ∙ ap (λ l. l ++ present (take m hs)) h.up_is
          ∙ subst (λ n. take (r.next - first) sdus ++ present (take n hs) ≡ take (r.next - first + n) sdus) (sym e)
          all ∙ ap (λ n. take n sdus) end;
      ends = dropped_ends hs m ends;
    }

goes_up : (first : ℕ) (sdus : List (List ℕ)) (handed : ℕ → Bool) (up : List (List ℕ)) (r : State) (sdu : List ℕ)
    → Receives first sdus handed up r
    → Names first sdus (r.next + 0) sdu
    → Receives first sdus (with handed (r.next + 0)) up (raised r (stored r.held 0 sdu) 1)
goes_up first sdus handed up r sdu h n =
    raises first sdus handed (with handed (r.next + 0)) up r (stored r.held 0 sdu) (rising (stored r.held 0 sdu) 1) h
    (λ m e. grind (arith, nat_tests))
    (held_of handed r 0 sdu h.held_is) (sdu_of first sdus handed up r 0 sdu h n) (stored_ends r.held 0 sdu h.ends)
    (rising_run (stored r.held 0 sdu) sdu (stored_same r.held 0 sdu))

-- ---- one that comes

-- it's taken only where it's next, or as the life ends
abbrev pub IsTimely : Cause → ℕ → Type 0
IsTimely Arrived k = k ≡ 0
IsTimely Reestablished k = Unit {0}

places : (cause : Cause) (first : ℕ) (sdus : List (List ℕ)) (handed : ℕ
    → Bool) (up : List (List ℕ)) (r : State) (bits k : ℕ) (sdu : List ℕ) → r.kind ≡ Am bits → IsTimely cause k
    → Receives first sdus handed up r → Names first sdus (r.next + k) sdu
    → Receives first sdus (with handed (r.next + k)) up (placed r cause k sdu)
places Arrived first sdus handed up r bits k sdu am t h n =
    subst (λ j. Receives first sdus (with handed (r.next + j)) up (raised r (stored r.held j sdu) (j + 1))) (sym t)
    (goes_up first sdus handed up r sdu h (subst (λ j. Names first sdus (r.next + j) sdu) t n))
places Reestablished first sdus handed up r bits zero sdu am t h n =
    let now : waits r.kind Reestablished zero ≡ false = ap (λ y. waits y Reestablished zero) am in
    subst (λ (b : Bool). Receives first sdus (with handed (r.next + 0)) up
    (if b then record r { held = stored r.held 0 sdu } else raised r (stored r.held 0 sdu) 1)) (sym now)
    (goes_up first sdus handed up r sdu h n)
places Reestablished first sdus handed up r bits (suc k) sdu am t h n =
    let above' : nat_lt 0 (suc k) ≡ true = grind (arith, nat_tests) in
    let later : waits r.kind Reestablished (suc k) ≡ true = ap (λ y. waits y Reestablished (suc k)) am ∙ above' in
    subst (λ (b : Bool). Receives first sdus (with handed (r.next + suc k)) up
    (if b then record r { held = stored r.held (suc k) sdu }
    else raised r (stored r.held (suc k) sdu) (suc k + 1))) (sym later)
    (stores first sdus handed up r (suc k) sdu h (omega arith) n)

heard_data : (r : State) (bits c : ℕ) (sdu : List ℕ) (cause : Cause) → r.kind ≡ Am bits → IsKind (Am bits) → sdu ≢ []
    → arrived r (pdu (Am bits) r.protection c sdu) cause ≡ left_heard r cause (as_written (Am bits) r.protection c sdu)
unfolding arrived
heard_data r bits c sdu cause am is some =
    ap (left_heard r cause) (ap (λ k. heard k (pdu (Am bits) r.protection c sdu)) am
    ∙ heard_as_written bits r.protection c sdu is some)

-- a PDU that a sender wrote comes: it's dropped where its COUNT has come, else it's taken as its COUNT
pub comes : (first : ℕ) (sdus : List (List ℕ)) (handed : ℕ → Bool) (up : List (List ℕ)) (r : State) (bits c : ℕ)
    (sdu : List ℕ) (cause : Cause) → r.kind ≡ Am bits → IsKind (Am bits) → sdu ≢ []
    → Names first sdus c sdu → c < 2 ^ 32 → c < r.next + 2 ^ (bits - 1) → (c < r.next → r.next ≤ c + 2 ^ (bits - 1))
    → IsTimely cause (c - r.next) → Receives first sdus handed up r
    → Receives first sdus (with handed c) up (arrived r (pdu (Am bits) r.protection c sdu) cause)
comes first sdus handed up r bits c sdu cause am is some n few near late t h =
    let at = above r (c % 2 ^ bits) in
    let wide : width r.kind ≡ 2 ^ (bits - 1) = ap width am in
    let body = body_of (Am bits) r.protection c sdu in
    let G : State → Type 0 = Receives first sdus (with handed c) up in
    let known : handed c ≡ true → G r =
    λ e. same_handed first sdus handed (with handed c) up r (λ m. grind (arith, nat_tests)) h in
    subst G (sym (heard_data r bits c sdu cause am is some))
    (⊎_elim
    (λ (l : c < r.next).
    let high : 2 ^ (bits - 1) ≤ at = below_is r bits c am is l (late l) in
    let old : passed_over r at ≡ Some answers.Old = grind (arith, nat_tests) in
    subst (λ w. G (left_data w r cause at (opened_at r at body))) (sym old) (known (h.least.before c n.0 l)))
    (λ (l : r.next ≤ c).
    let e : at ≡ c - r.next = above_is r bits c am is l near in
    let k : r.next + at ≡ c = omega (arith, e) in
    let held : is_held r.held at ≡ handed c = h.held_is at ∙ ap handed k in
    by_held (handed c) refl at e k held)
    (cases_lt c r.next))
  where
    by_held : (b : Bool) → handed c ≡ b → (at : ℕ) → at ≡ c - r.next → r.next + at ≡ c → is_held r.held at ≡ handed c
        → Receives first sdus (with handed c) up
        (left_data (passed_over r at) r cause at (opened_at r at (body_of (Am bits) r.protection c sdu)))
    by_held true q at e k held =
        let old : passed_over r at ≡ Some answers.Old = grind (arith, nat_tests) in
        subst
        (λ w. Receives first sdus (with handed c) up
        (left_data w r cause at (opened_at r at (body_of (Am bits) r.protection c sdu)))) (sym old)
        (same_handed first sdus handed (with handed c) up r (λ m. grind (arith, nat_tests)) h)
    by_held false q at e k held =
        let wide : width r.kind ≡ 2 ^ (bits - 1) = ap width am in
        let new : passed_over r at ≡ None = grind (arith, nat_tests) in
        let what : opened_at r at (body_of (Am bits) r.protection c sdu) ≡ Sdu sdu =
        ap (λ y. opened y r.protection (r.next + at) (body_of (Am bits) r.protection c sdu)) am
        ∙ ap (λ j. opened (Am bits) r.protection j (body_of (Am bits) r.protection c sdu)) k
        ∙ opened_again bits r.protection c sdu in
        subst
        (λ w. Receives first sdus (with handed c) up
        (left_data w r cause at (opened_at r at (body_of (Am bits) r.protection c sdu)))) (sym new)
        (subst (λ o. Receives first sdus (with handed c) up (left_opened r cause at o)) (sym what)
        (subst (λ j. Receives first sdus (with handed j) up (placed r cause at sdu)) k
        (places cause first sdus handed up r bits at sdu am (subst (IsTimely cause) (sym e) t) h
        (subst (λ j. Names first sdus j sdu) (sym k) n))))

-- ---- what is answered

-- it's old exactly where its COUNT has come
old_or_new : (first : ℕ) (sdus : List (List ℕ)) (handed : ℕ → Bool) (up : List (List ℕ)) (r : State) (bits c : ℕ)
    → r.kind ≡ Am bits → IsKind (Am bits) → first ≤ c → c < 2 ^ 32 → c < r.next + 2 ^ (bits - 1)
    → (c < r.next → r.next ≤ c + 2 ^ (bits - 1)) → Receives first sdus handed up r
    → passed_over r (above r (c % 2 ^ bits)) ≡ (if handed c then Some answers.Old else None)
old_or_new first sdus handed up r bits c am is from few near late h =
    let at = above r (c % 2 ^ bits) in
    let wide : width r.kind ≡ 2 ^ (bits - 1) = ap width am in
    ⊎_elim
    (λ (l : c < r.next).
    let high : 2 ^ (bits - 1) ≤ at = below_is r bits c am is l (late l) in
    let come : handed c ≡ true = h.least.before c from l in
    grind (arith, nat_tests))
    (λ (l : r.next ≤ c).
    let e : at ≡ c - r.next = above_is r bits c am is l near in
    let k : r.next + at ≡ c = omega (arith, e) in
    let held : is_held r.held at ≡ handed c = h.held_is at ∙ ap handed k in
    grind (arith, nat_tests))
    (cases_lt c r.next)

got_as : (r : State) (bits c : ℕ) (sdu : List ℕ) (cause : Cause) → r.kind ≡ Am bits → IsKind (Am bits) → sdu ≢ []
    → got r (pdu (Am bits) r.protection c sdu) cause ≡ got_heard r cause (as_written (Am bits) r.protection c sdu)
unfolding got
got_as r bits c sdu cause am is some =
    ap (got_heard r cause) (ap (λ k. heard k (pdu (Am bits) r.protection c sdu)) am
    ∙ heard_as_written bits r.protection c sdu is some)

waits_is : (r : State) (bits c : ℕ) (cause : Cause) → r.kind ≡ Am bits → r.next ≤ c
    → (if waits r.kind cause (c - r.next) then answers.Stored else answers.Up) ≡ fresh_answer cause r c
waits_is r bits c Arrived am le = refl
waits_is r bits c Reestablished am le =
    let test : waits r.kind Reestablished (c - r.next) ≡ nat_lt r.next c =
    ap (λ k. waits k Reestablished (c - r.next)) am
    ∙ above_zero (nat_lt 0 (c - r.next)) (nat_lt r.next c) refl refl in
    ap (λ (b : Bool). if b then answers.Stored else answers.Up) test
  where
    above_zero : (a b : Bool) → nat_lt 0 (c - r.next) ≡ a → nat_lt r.next c ≡ b → a ≡ b
    above_zero a b e f = grind (arith, nat_tests)

-- a PDU that a sender wrote is read as its COUNT
pub reads : (first : ℕ) (sdus : List (List ℕ)) (handed : ℕ → Bool) (up : List (List ℕ)) (r : State) (bits c : ℕ)
    (sdu : List ℕ) (cause : Cause) → r.kind ≡ Am bits → IsKind (Am bits) → sdu ≢ []
    → Names first sdus c sdu → c < 2 ^ 32 → c < r.next + 2 ^ (bits - 1) → (c < r.next → r.next ≤ c + 2 ^ (bits - 1))
    → Receives first sdus handed up r
    → got r (pdu (Am bits) r.protection c sdu) cause ≡ answer handed cause r c
reads first sdus handed up r bits c sdu cause am is some n few near late h =
    let at = above r (c % 2 ^ bits) in
    let body = body_of (Am bits) r.protection c sdu in
    let why = old_or_new first sdus handed up r bits c am is n.0 few near late h in
    got_as r bits c sdu cause am is some ∙ ap (λ w. got_data w r cause at (opened_at r at body)) why
    ∙ by_handed (handed c) refl
  where
    by_handed : (b : Bool) → handed c ≡ b
        → got_data (if b then Some answers.Old else None) r cause (above r (c % 2 ^ bits))
        (opened_at r (above r (c % 2 ^ bits)) (body_of (Am bits) r.protection c sdu))
        ≡ (if b then answers.Old else fresh_answer cause r c)
    by_handed true q = refl
    by_handed false q = ⊎_elim
        (λ (l : c < r.next). absurd (false≢true (sym q ∙ h.least.before c n.0 l)))
        (λ (l : r.next ≤ c).
        let e : above r (c % 2 ^ bits) ≡ c - r.next = above_is r bits c am is l near in
        let k : r.next + (c - r.next) ≡ c = omega arith in
        let what : opened_at r (c - r.next) (body_of (Am bits) r.protection c sdu) ≡ Sdu sdu =
        ap (λ y. opened y r.protection (r.next + (c - r.next)) (body_of (Am bits) r.protection c sdu)) am
        ∙ ap (λ j. opened (Am bits) r.protection j (body_of (Am bits) r.protection c sdu)) k
        ∙ opened_again bits r.protection c sdu in
        ap (λ j. got_opened r cause j (opened_at r j (body_of (Am bits) r.protection c sdu))) e
        ∙ ap (got_opened r cause (c - r.next)) what ∙ waits_is r bits c cause am l)
        (cases_lt c r.next)
