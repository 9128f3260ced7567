-- The report that a receiver makes says which COUNTs have come.
use Rattle.std.proofs.Common.{◌≡◌, ◌≢◌, ◌<◌, ◌≤◌, ℕ, zero, suc, ◌+◌, ◌-◌, ◌*◌, ◌/◌, ◌%◌, ◌^◌, Bool, true, false}
use Rattle.std.proofs.Common.{◌||◌, ◌&&◌, nat_lt, if◌then◌else◌, List, [], ◌∷◌, length, drop, Option, None, Ok}
use Rattle.std.proofs.Common.{slice_index, slice_index_or, inl, inr, refl, ap, sym, ◌∙◌, arith, subst}
use Rattle.std.specs.Prelude.{is_some}
use Rattle.std.proofs.lemmas.Bool.{cases_lt, eq-eqb, ne_eqb, lt-ltb, le-ltb}
use Rattle.std.proofs.lemmas.List.{get_or_past}
use Rattle.bearer.specs.Acknowledged.State.{State}
use Rattle.bearer_types.specs.declared.config.BearerConfig.{BearerConfig}
use Rattle.l2_num.specs.Ascending.{IsAscending}
use Rattle.l2_num.specs.Least.{IsLeast}
use Rattle.pdcp_pdu.proofs.UserAccepts.{user_again}
use Rattle.pdcp_pdu.specs.Grammar.{bit_of, user_spelling}
use Rattle.pdcp_pdu.specs.Kinds.{IsKind, bits_of}
use Rattle.pdcp_pdu.specs.Pdus.{Report}
use Rattle.pdcp_pdu.specs.Reading.{user_at}
use Rattle.pdcp_pdu.specs.declared.PdcpKind.{PdcpKind}
use Rattle.pdcp_pdu.specs.declared.PdcpKind.TheVariants.{Am}
use Rattle.pdcp_rx.proofs.BitmapLemmas.{written, report_ends}
use Rattle.pdcp_rx.specs.Held.{is_held, bitmap}
use Rattle.pdcp_rx.specs.State.{State as Receiving, report}
use Rattle.pdcp_tx_store.specs.Given.{tells}
use Rattle.rlc_am_rx.specs.Machine.{finished}
use Rattle.rlc_am_rx.specs.State.{State as Receiver}
use Rattle.journal_given.specs.Supplies.{marked_from}
use Rattle.journal_lives.specs.CountsCome.{CountsCome}
use Rattle.journal_takes.specs.TakeEvents.{has_count}
use Rattle.law_bearer.specs.AmBearer.Lives.{closes, closed}
use Rattle.law_rlc.specs.AmPair.Arrives.{arrives, whole_from}
use Rattle.law_rlc.specs.AmPair.Sdus.{offered}
use Rattle.law_rlc.proofs.AmPair.Laws.{finish-gives-by-places}
use Rattle.law_pdcp.specs.AmPair.Flow.{Flow, ended, am_pdcp_outset}
use Rattle.law_pdcp.proofs.AmPair.Beginning.{bits_held, bitmap_length, not_zero}
use Rattle.law_pdcp.proofs.AmPair.Ending.{closes as closes_well}
use Rattle.law_pdcp.proofs.AmPair.Laws.{run_sound, outset_sound}
use Rattle.law_pdcp.proofs.AmPair.Passing.{front_of}
use Rattle.law_pdcp.proofs.AmPair.Sound.{IsSound}
use Rattle.law_deliver.proofs.AmDelivery.Arrived.{first_is}
use Rattle.law_deliver.proofs.AmDelivery.Joined.{Way}
use Rattle.law_deliver.proofs.AmDelivery.RestartingEvents.{ended_is}
use Rattle.law_given.proofs.SupplySaid.{marks-tell}
use Rattle.law_given.specs.Joined.{Direction, IsDirection, Joins, pdcp, rlc}
use Rattle.law_given.specs.Saying.{AreThoseCome, HoldsThoseCome}
use Rattle.law_given.specs.Supplied.{IsReadAs}

-- ---- two lists that ascend and have the same numbers are one

none_below : (low : ℕ) (xs : List ℕ) (n : ℕ) → IsAscending low xs → n < low → has_count xs n ≡ false
none_below low [] n up lt = refl
none_below low (x ∷ xs) n up lt =
    ap (λ (b : Bool). b || has_count xs n) (ne_eqb x n (λ e. absurd (omega (arith, e, lt, up.0))))
    ∙ none_below (x + 1) xs n up.1 (omega (arith, lt, up.0))

lower : (low high : ℕ) (xs : List ℕ) → low ≤ high → IsAscending high xs → IsAscending low xs
lower low high [] le up = tt
lower low high (x ∷ xs) le up = (omega (arith, le, up.0), up.1)

has_first : (x : ℕ) (xs : List ℕ) → has_count (x ∷ xs) x ≡ true
has_first x xs = ap (λ (b : Bool). b || has_count xs x) (eq-eqb x x refl)

not_less : (x y : ℕ) (xs ys : List ℕ) → IsAscending (y + 1) ys
    → (has_count (x ∷ xs) x ≡ has_count (y ∷ ys) x) → y ≤ x
not_less x y xs ys up same = elim (cases_lt x y) [
  | inl lt ↦
      let there : has_count (y ∷ ys) x ≡ true = sym same ∙ has_first x xs in
      let none : has_count (y ∷ ys) x ≡ false =
      none_below y (y ∷ ys) x (omega arith, up) lt in
      absurd (let no : true ≡ false = sym there ∙ none in cc)
  | inr le ↦ le
]

behind_first : (x : ℕ) (xs : List ℕ) (n : ℕ) → x + 1 ≤ n → has_count (x ∷ xs) n ≡ has_count xs n
behind_first x xs n le = ap (λ (b : Bool). b || has_count xs n) (ne_eqb x n (λ e. absurd (omega (arith, e, le))))

same_ascending : (low : ℕ) (xs ys : List ℕ) → IsAscending low xs → IsAscending low ys
    → ((n : ℕ) → low ≤ n → has_count xs n ≡ has_count ys n) → xs ≡ ys
same_ascending low [] [] a b same = refl
same_ascending low [] (y ∷ ys) a b same =
    absurd (let no : false ≡ true = same y b.0 ∙ has_first y ys in cc)
same_ascending low (x ∷ xs) [] a b same =
    absurd (let no : false ≡ true = sym (same x a.0) ∙ has_first x xs in cc)
same_ascending low (x ∷ xs) (y ∷ ys) a b same =
    let up : y ≤ x = not_less x y xs ys b.1 (same x a.0) in
    let down : x ≤ y = not_less y x ys xs a.1 (sym (same y b.0)) in
    let here : y ≡ x = omega (arith, up, down) in
    let rest : xs ≡ ys =
    same_ascending (x + 1) xs ys a.1 (subst (λ (k : ℕ). IsAscending (k + 1) ys) here b.1)
    (λ n le. sym (behind_first x xs n le) ∙ same n (omega (arith, le, a.0))
    ∙ behind_first y ys n (omega (arith, le, here))) in
    ap (λ (l : List ℕ). x ∷ l) rest ∙ ap (λ (k : ℕ). k ∷ ys) (sym here)

-- ---- the COUNTs that a bitmap marks ascend

marks_ascend : (bits : List ℕ) (first k n : ℕ) → IsAscending (first + k) (marked_from bits first k n)
marks_ascend bits first k zero = tt
marks_ascend bits first k (suc n) = by (bit_of bits k)
    (subst (λ (low : ℕ). IsAscending low (marked_from bits first (k + 1) n)) (omega arith)
    (marks_ascend bits first (k + 1) n))
  where
    by : (b : Bool) → IsAscending (first + k + 1) (marked_from bits first (k + 1) n)
        → IsAscending (first + k) (if b then (first + k) ∷ marked_from bits first (k + 1) n
        else marked_from bits first (k + 1) n)
    by true rest = (omega arith, rest)
    by false rest = lower (first + k) (first + k + 1) (marked_from bits first (k + 1) n) (omega arith) rest

-- ---- a bit stands for each COUNT behind the next

past_bits : (held : List (Option (List ℕ))) (n k : ℕ) → 8 * n ≤ k → bit_of (bitmap held 1 n) k ≡ false
past_bits held n k le = by_bit (bit_of (bitmap held 1 n) k) refl
  where
    by_bit : (b : Bool) → bit_of (bitmap held 1 n) k ≡ b → b ≡ false
    by_bit false e = refl
    by_bit true e =
        let some : slice_index (bitmap held 1 n) (k / 8) ≢ 0 =
        not_zero (slice_index (bitmap held 1 n) (k / 8)) (2 ^ (7 - k % 8)) e in
        let past : slice_index (bitmap held 1 n) (k / 8) ≡ 0 =
        get_or_past (bitmap held 1 n) (k / 8) 0 (omega (arith, bitmap_length held 1 n)) in
        absurd (some past)

bit_is : (held : List (Option (List ℕ))) (k : ℕ)
    → bit_of (bitmap held 1 ((length held + 6) / 8)) k ≡ is_held held (1 + k)
bit_is held k = elim (cases_lt k (8 * ((length held + 6) / 8))) [
  | inl lt ↦ written held 1 ((length held + 6) / 8) k lt
  | inr le ↦
      let none : slice_index_or held (1 + k) None ≡ None = get_or_past held (1 + k) None (omega (arith, le)) in
      past_bits held ((length held + 6) / 8) k le ∙ sym (ap is_some none)
]

tells_behind : (from : ℕ) (bits : List ℕ) (count : ℕ) → from < count
    → tells from bits count ≡ bit_of bits (count - from - 1)
tells_behind from bits count lt =
    ap (λ (b : Bool). b || (nat_lt from count && bit_of bits (count - from - 1)))
    (le-ltb count from (omega (arith, lt)))
    ∙ ap (λ (b : Bool). b && bit_of bits (count - from - 1)) (lt-ltb from count lt)

marks_are_come : (first : ℕ) (come : ℕ → Bool) (r : Receiving) (count : ℕ) → HoldsThoseCome come first r
    → r.next < count
    → has_count (marked_from (bits_held r) (r.next + 1) 0 (8 * length (bits_held r))) count ≡ come count
marks_are_come first come r count h lt =
    let place : r.next + (1 + (count - r.next - 1)) ≡ count = omega (arith, lt) in
    marks-tell (bits_held r) r.next count (omega (arith, lt))
    ∙ tells_behind r.next (bits_held r) count lt
    ∙ bit_is r.held (count - r.next - 1)
    ∙ h.holds (1 + (count - r.next - 1))
    ∙ ap come place

-- ---- it is read again

fms_few : (bits n : ℕ) → IsKind (Am bits) → n % 2 ^ bits < 2 ^ bits
fms_few bits n (inl e) = rw e (omega arith)
fms_few bits n (inr e) = rw e (omega arith)

not_seven : (bits : ℕ) → IsKind (Am bits) → bits ≢ 7
not_seven bits (inl e) = λ q. absurd (omega (arith, e, q))
not_seven bits (inr e) = λ q. absurd (omega (arith, e, q))

pub report_read : (r : Receiving) (bits : ℕ) → r.kind ≡ Am bits → IsKind (Am bits)
    → user_at bits (report r) ≡ Ok (Report (r.next % 2 ^ bits) (bits_held r))
unfolding report
report_read r bits am is =
    ap (λ (k : PdcpKind).
    user_at bits (user_spelling (bits_of k) (Report (r.next % 2 ^ bits_of k) (bits_held r)))) am
    ∙ (user_again bits (Report (r.next % 2 ^ bits) (bits_held r)) (inr is) (
      fms_few bits r.next is,
      not_seven bits is,
    )).read

-- ---- the whole

not_after : (p : ℕ → Bool) (m k l : ℕ) → IsLeast p m k → IsLeast p m l → k ≤ l
not_after p m k l g h = elim (cases_lt l k) [
  | inl lt ↦ absurd (let no : true ≡ false = sym (g.before l h.from lt) ∙ h.refused in cc)
  | inr le ↦ le
]

same_least : (p : ℕ → Bool) (m k l : ℕ) → IsLeast p m k → IsLeast p m l → k ≡ l
same_least p m k l g h = omega (arith, not_after p m k l g h, not_after p m l k h g)

pub reports_say : (bits first : ℕ) (come : ℕ → Bool) (r : Receiving) (said : CountsCome) → IsKind (Am bits)
    → r.kind ≡ Am bits → HoldsThoseCome come first r → AreThoseCome come first said → IsReadAs bits (report r) said
reports_say bits first come r said is am h k =
    let next : r.next ≡ said.next = same_least come first r.next said.next h.expects k.next in
    let marks : marked_from (bits_held r) (r.next + 1) 0 (8 * length (bits_held r)) ≡ said.beyond =
    same_ascending (r.next + 1) (marked_from (bits_held r) (r.next + 1) 0 (8 * length (bits_held r))) said.beyond
    (subst (λ (low : ℕ). IsAscending low (marked_from (bits_held r) (r.next + 1) 0 (8 * length (bits_held r))))
    (omega arith) (marks_ascend (bits_held r) (r.next + 1) 0 (8 * length (bits_held r))))
    (subst (λ (n : ℕ). IsAscending (n + 1) said.beyond) (sym next) k.ascend)
    (λ n le. marks_are_come first come r n h (omega (arith, le)) ∙ k.beyond n (omega (arith, le, next))) in
    record {
      fms = r.next % 2 ^ bits;
      bitmap = bits_held r;
      read = report_read r bits am is;
      says = record {
        fms_is = ap (λ (n : ℕ). n % 2 ^ bits) next;
        marks_are =
            subst (λ (n : ℕ). marked_from (bits_held r) (n + 1) 0 (8 * length (bits_held r)) ≡ said.beyond) next marks;
        short = report_ends r.held h.ends;
      };
    }

-- ---- the receiver's end of a direction, as a life ends

abbrev way_of : Direction → Way
way_of d = record {
  bits = d.bits;
  protection = d.protection;
  first = d.first;
  events = d.events;
  sending = d.sending;
  receiving = d.receiving;
  steps = d.steps;
}

pub record EndsHolding (bits first : ℕ) (f : Flow) : Type 0 where
  pub kind : (ended f).receiver.kind ≡ Am bits
  pub holds : HoldsThoseCome (ended f).handed first (ended f).receiver

pub ends_holding : (bits : ℕ) (f : Flow) → IsSound bits f → EndsHolding bits f.first f
ends_holding bits f h =
    let s = f.sender in
    let pdus = drop f.passed f.stream in
    let c = closes_well bits f.first f.sdus s f.whole f.up pdus f.passed
    (record { width = h.width; am = h.sends.am; near = h.sends.near; few = omega (arith, h.sends.room) }) f.handed
    f.receiver (h.hears_am ∙ sym h.sends.am) h.key
    (front_of bits f.first f.sdus s f.handed f.whole f.passed pdus h.links) h.receives in
    record {
      kind = c.hears_am ∙ h.sends.am;
      holds = record { expects = c.receives.least; holds = c.receives.held_is; ends = c.receives.ends };
    }

direction_holding : (c : BearerConfig) (d : Direction) → IsDirection c d → EndsHolding d.bits d.first (pdcp d)
direction_holding c d is =
    subst (λ (n : ℕ). EndsHolding d.bits n (pdcp d)) (first_is (way_of d))
    (ends_holding d.bits (pdcp d) (run_sound d.bits d.events (am_pdcp_outset d.bits d.protection d.first) is.events
    (outset_sound d.bits d.protection d.first is.kind is.counts)))

closed_is : (c : BearerConfig) (d : Direction) (from to : State) → IsDirection c d → Joins d from to
    → (ended (pdcp d)).receiver ≡ closed to
closed_is c d from to is j =
    let f = pdcp d in
    let g = rlc d in
    ended_is f (arrives g) (offered g) j.whole_is j.stream_is
    ∙ ap (λ (n : ℕ). closes (whole_from (arrives g) n (drop n (offered g))) f.receiver) j.passed_is
    ∙ ap (λ (sdus : List (List ℕ)). closes sdus f.receiver)
    (sym (finish-gives-by-places d.sending d.receiving d.steps is.steps))
    ∙ ap (λ (r : Receiver). closes (finished r) f.receiver) j.rlc_receiver_is
    ∙ ap (λ (r : Receiving). closes (finished to.rx) r) j.receiver_is

pub ends_say : (c : BearerConfig) (d : Direction) (from to : State) (said : CountsCome) → IsDirection c d
    → Joins d from to → AreThoseCome (ended (pdcp d)).handed d.first said → IsReadAs d.bits (report (closed to)) said
ends_say c d from to said is j k =
    let e = direction_holding c d is in
    subst (λ (r : Receiving). IsReadAs d.bits (report r) said) (closed_is c d from to is j)
    (reports_say d.bits d.first (ended (pdcp d)).handed (ended (pdcp d)).receiver said is.kind e.kind e.holds k)
