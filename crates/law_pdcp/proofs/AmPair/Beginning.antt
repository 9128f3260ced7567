-- The beginning of a life.
use Rattle.std.proofs.Common.{◌≡◌, ◌≢◌, ◌<◌, ◌≤◌, ℕ, suc, zero, ◌+◌, ◌-◌, ◌*◌, ◌/◌, ◌%◌, ◌^◌, Bool, true, false, ◌||◌}
use Rattle.std.proofs.Common.{◌&&◌, List, [], length, drop, Option, Some, None, slice_index, ⊎_elim, inl, inr, subst}
use Rattle.std.proofs.Common.{refl, ap, sym, ◌∙◌, arith}
use Rattle.std.specs.Prelude.{if◌then◌else◌, ◌==◌, nat_lt, nat_le}
use Rattle.std.proofs.lemmas.Bool.Decides.{nat_tests}
use Rattle.std.proofs.lemmas.Bool.{cases_lt}
use Rattle.std.proofs.lemmas.List.{append-nil, get_or_past}
use Rattle.eps_sec.specs.declared.Keys.{Keys}
use Rattle.l2_num.specs.Ascending.{AreBetween}
use Rattle.pdcp_pdu.specs.declared.PdcpKind.{PdcpKind}
use Rattle.pdcp_pdu.specs.declared.PdcpKind.TheVariants.{Am}
use Rattle.pdcp_pdu.specs.Kinds.{IsKind, is_am, bits_of}
use Rattle.pdcp_pdu.specs.Pdus.{Report as Report-pdu}
use Rattle.pdcp_pdu.specs.Grammar.{bit_of, user_spelling}
use Rattle.pdcp_pdu.specs.Reading.{user_at}
use Rattle.pdcp_pdu.proofs.UserAccepts.{user_again}
use Rattle.pdcp_sec.specs.Protection.{Protection, protection_of}
use Rattle.pdcp_tx_store.specs.Given.{tells, first_unacked}
use Rattle.pdcp_tx.specs.Pdus.{width}
use Rattle.pdcp_tx.specs.State.{State, or_else, low, restarted, begun, kept_again, next_from, waiting_on, first_again}
use Rattle.pdcp_tx.specs.State.{fms_count, ahead}
use Rattle.pdcp_rx.specs.Heard.{Told, heard, heard_user}
use Rattle.pdcp_rx.specs.Held.{is_held, bitmap}
use Rattle.pdcp_rx.specs.State.{State as Receiving, report, restarted as restarted_receiving}
use Rattle.pdcp_rx.proofs.BitmapLemmas.{written}
use Rattle.law_pdcp.specs.OneEnd.Lives.{Restart}
use Rattle.law_pdcp.proofs.OneEnd.Lives.{counts_of_names}
use Rattle.law_pdcp.proofs.OneEnd.Naming.{NamesKept}
use Rattle.law_pdcp.proofs.OneEnd.Thinning.{In, names}
use Rattle.law_pdcp.specs.AmPair.Flow.{Flow, Restart as Handover, closing, closed, happens}
use Rattle.law_pdcp.proofs.AmPair.Numbers.{came}
use Rattle.law_pdcp.proofs.AmPair.Opens.{all_of, is_among, first_below, first_end, first_is, first_rises, again_among}
use Rattle.law_pdcp.proofs.AmPair.Opens.{open_count, from_first}
use Rattle.law_pdcp.proofs.AmPair.Receives.{Receives}
use Rattle.law_pdcp.proofs.AmPair.Taking.{few_next}
use Rattle.law_pdcp.proofs.AmPair.Takings.{kept_after, order_after}
use Rattle.law_pdcp.proofs.AmPair.Passing.{front_of}
use Rattle.law_pdcp.proofs.AmPair.Ending.{Closes, closes, closed_more, closed_came}
use Rattle.law_pdcp.proofs.AmPair.Sound.{Sends, Links, IsTrueReport, IsSound}

-- ---- the sender

abbrev pub fresh_key : State → Keys → Protection
fresh_key s keys = protection_of s.kind keys s.protection.bearer s.protection.direction

abbrev pub renewed : State → Keys → State
renewed s keys = begun (record s { again = kept_again s }) (fresh_key s keys)

pub restarted_is : (s : State) (keys : Keys) (bits : ℕ) → s.kind ≡ Am bits → restarted s keys ≡ renewed s keys
unfolding restarted
restarted_is s keys bits am =
    ap (λ k. begun (record s { again = kept_again s; next = next_from k s.next; waiting = waiting_on k s.waiting })
    (fresh_key s keys)) am

-- the bound of the next life
renewed_bound : (s : State) (keys : Keys) (bits : ℕ) → s.kind ≡ Am bits
    → (renewed s keys).bound ≡ or_else (first_unacked (all_of s)) s.next + 2 ^ (bits - 1)
renewed_bound s keys bits am = ap (λ n. n + width s.kind) (first_is (all_of s) s.next)
    ∙ ap (λ k. or_else (first_unacked (all_of s)) s.next + width k) am

renewed_sends : (bits first : ℕ) (sdus : List (List ℕ)) (s : State) (keys : Keys) → Sends bits first sdus s
    → Sends bits first sdus (renewed s keys)
renewed_sends bits first sdus s keys h =
    let is = restarted_is s keys bits h.am in
    let bound = renewed_bound s keys bits h.am in
    let rise = first_rises (all_of s) (kept_again s) s.next h.order (λ n e. sym (again_among (all_of s) n) ∙ e) in
    record {
      am = h.am;
      room = h.room;
      some = h.some;
      waits_some = h.waits_some;
      owes = tt;
      kept =
          subst (λ t. NamesKept first sdus t) is
          (subst (λ l. NamesKept first l (restarted s keys)) (append-nil sdus)
          (kept_after first sdus s (Restart keys) h.kept));
      order = subst (λ t. In 0 (names (all_of t)) t.next) is (order_after s bits (Restart keys) h.am h.order);
      near = omega (arith, h.near, h.lag, bound);
      lag = omega (arith, bound, rise);
    }

-- ---- what has come

renewed_links : (bits first : ℕ) (sdus : List (List ℕ)) (s : State) (keys : Keys) (handed : ℕ → Bool)
    → Sends bits first sdus s → ((n : ℕ) → handed n ≡ true → (first ≤ n) × (n < s.next))
    → ((n : ℕ) → first ≤ n → n < s.next → handed n || is_among (all_of s) n ≡ true)
    → Links bits first sdus (renewed s keys) handed (λ n. false) 0 []
renewed_links bits first sdus s keys handed h within opens =
    let sends = renewed_sends bits first sdus s keys h in
    let bound = renewed_bound s keys bits h.am in
    let again : (n : ℕ) → is_among (kept_again s) n ≡ is_among (all_of s) n = λ n. again_among (all_of s) n in
    let last = first_end 0 (all_of s) s.next h.order in
    let base : first_again (kept_again s) s.next ≡ or_else (first_unacked (all_of s)) s.next =
    first_is (all_of s) s.next in
    record {
      within = within;
      order = subst (λ l. AreBetween 0 l s.next) (counts_of_names (kept_again s)) sends.order;
      covered = λ n a b. grind (arith, nat_tests, opens n a b, again n, open_count (kept_again s) n);
      opens = λ n a b. grind (arith, nat_tests, opens n a b, again n);
      floor = λ n a b. grind (arith, nat_tests, opens n a, first_below 0 (all_of s) s.next n h.order, last, bound, b);
      late = λ n c e i. omega (
        arith,
        (within n e).1,
        h.near,
        h.lag,
        base,
        from_first 0 (kept_again s) s.next c sends.order i,
      );
      written = tt;
    }

-- ---- the receiver

pub restarted_receiver : (r : Receiving) (keys : Keys) (bits : ℕ) → r.kind ≡ Am bits
    → restarted_receiving r keys
    ≡ record r { protection = protection_of r.kind keys r.protection.bearer r.protection.direction }
unfolding restarted_receiving
restarted_receiver r keys bits am =
    ap (λ (b : Bool). record r {
      protection = protection_of r.kind keys r.protection.bearer r.protection.direction;
      next = if b then r.next else 0;
      held = if b then r.held else [];
    }) (ap is_am am)

same_key : (r : Receiving) (s : State) (keys : Keys) → r.kind ≡ s.kind → r.protection ≡ s.protection
    → protection_of r.kind keys r.protection.bearer r.protection.direction ≡ fresh_key s keys
same_key r s keys k p = ap (λ y. protection_of y keys r.protection.bearer r.protection.direction) k
    ∙ ap (λ (y : Protection). protection_of s.kind keys y.bearer y.direction) p

-- ---- its report

fms_few : (bits n : ℕ) → IsKind (Am bits) → n % 2 ^ bits < 2 ^ bits
fms_few bits n (inl e) = rw e (omega arith)
fms_few bits n (inr e) = rw e (omega arith)

not_seven : (bits : ℕ) → IsKind (Am bits) → bits ≢ 7
not_seven bits (inl e) = λ q. absurd (omega (arith, e, q))
not_seven bits (inr e) = λ q. absurd (omega (arith, e, q))

abbrev pub bits_held : Receiving → List ℕ
bits_held r = bitmap r.held 1 ((length r.held + 6) / 8)

pub report_heard : (r : Receiving) (bits : ℕ) → r.kind ≡ Am bits → IsKind (Am bits)
    → heard (Am bits) (report r) ≡ Told (r.next % 2 ^ bits) (bits_held r)
unfolding heard report
report_heard r bits am is =
    ap (λ k. heard_user
    (user_at bits (user_spelling (bits_of k) (Report-pdu (r.next % 2 ^ bits_of k) (bits_held r))))) am
    ∙ ap heard_user (user_again bits (Report-pdu (r.next % 2 ^ bits) (bits_held r)) (inr is) (
      fms_few bits r.next is,
      not_seven bits is,
    )).read

-- its FMS is read as the next COUNT
fms_is : (kind : PdcpKind) (bits base next from : ℕ) → kind ≡ Am bits → IsKind (Am bits) → base ≤ next
    → next ≤ base + 2 ^ (bits - 1) → fms_count kind base (next % 2 ^ bits) ≡ Some from → next ≡ from
fms_is kind bits base next from k is a b e = by_bits is
  where
    by_kind : fms_count (Am bits) base (next % 2 ^ bits) ≡ Some from
    by_kind = ap (λ y. fms_count y base (next % 2 ^ bits)) (sym k) ∙ e

    by_ahead : (high d : ℕ) → d ≡ next - base → d ≤ high
        → (if nat_le d high then Some (base + d) else None) ≡ Some from → next ≡ from
    by_ahead high d q le i =
        let yes : nat_le d high ≡ true = grind (arith, nat_tests) in
        let some : Some (base + d) ≡ Some from =
        subst (λ (t : Bool). (if t then Some (base + d) else None) ≡ Some from) yes i in
        let same : base + d ≡ from = cc in
        omega arith

    by_bits : IsKind (Am bits) → next ≡ from
    by_bits (inl e) =
        let near : next ≤ base + 2048 = subst (λ n. next ≤ base + 2 ^ (n - 1)) e b in
        by_ahead 2048 (ahead (Am 12) base (next % 4096)) (omega arith) (omega arith)
        (subst (λ n. fms_count (Am n) base (next % 2 ^ n) ≡ Some from) e by_kind)
    by_bits (inr e) =
        let near : next ≤ base + 16384 = subst (λ n. next ≤ base + 2 ^ (n - 1)) e b in
        by_ahead 16384 (ahead (Am 15) base (next % 32768)) (omega arith) (omega arith)
        (subst (λ n. fms_count (Am n) base (next % 2 ^ n) ≡ Some from) e by_kind)

pub bitmap_length : (held : List (Option (List ℕ))) (at n : ℕ) → length (bitmap held at n) ≡ n
bitmap_length held at zero = refl
bitmap_length held at (suc n) = ap suc (bitmap_length held (at + 8) n)

pub not_zero : (v d : ℕ) → (v / d % 2 == 1) ≡ true → v ≢ 0
not_zero v d e z = let none : (0 / d % 2 == 1) ≡ true = subst (λ (n : ℕ). (n / d % 2 == 1) ≡ true) z e in
    absurd (grind (arith, nat_tests, none))

-- a bit that is 1 stands for an SDU that is held
bit_held : (held : List (Option (List ℕ))) (n k : ℕ) → bit_of (bitmap held 1 n) k ≡ true → is_held held (1 + k) ≡ true
bit_held held n k e = ⊎_elim
    (λ (l : k < 8 * n). sym (written held 1 n k l) ∙ e)
    (λ (l : 8 * n ≤ k).
    let some : slice_index (bitmap held 1 n) (k / 8) ≢ 0 =
    not_zero (slice_index (bitmap held 1 n) (k / 8)) (2 ^ (7 - k % 8)) e in
    let past : slice_index (bitmap held 1 n) (k / 8) ≡ 0 =
    get_or_past (bitmap held 1 n) (k / 8) 0 (omega (arith, bitmap_length held 1 n)) in
    absurd (some past))
    (cases_lt k (8 * n))

told_has_come : (first : ℕ) (sdus : List (List ℕ)) (handed : ℕ → Bool) (up : List (List ℕ)) (r : Receiving) (m n : ℕ)
    → Receives first sdus handed up r → first ≤ n → tells r.next (bitmap r.held 1 m) n ≡ true → handed n ≡ true
told_has_come first sdus handed up r m n h a e = ⊎_elim
    (λ (l : n < r.next). h.least.before n a l)
    (λ (l : r.next ≤ n).
    let set : (nat_lt r.next n && bit_of (bitmap r.held 1 m) (n - r.next - 1)) ≡ true = grind (arith, nat_tests) in
    let bit : bit_of (bitmap r.held 1 m) (n - r.next - 1) ≡ true = grind (arith, nat_tests) in
    let above : r.next < n = grind (arith, nat_tests) in
    let place : r.next + (1 + (n - r.next - 1)) ≡ n = omega arith in
    ap handed (sym place) ∙ sym (h.held_is (1 + (n - r.next - 1))) ∙ bit_held r.held m (n - r.next - 1) bit)
    (cases_lt n r.next)

told_truly : (bits first : ℕ) (sdus : List (List ℕ)) (handed : ℕ
    → Bool) (up : List (List ℕ)) (r : Receiving) (s : State) → s.kind ≡ Am bits → r.kind ≡ Am bits → IsKind (Am bits)
    → s.base ≤ r.next → r.next ≤ s.base + 2 ^ (bits - 1)
    → Receives first sdus handed up r → IsTrueReport (Some (report r)) first handed s
told_truly bits first sdus handed up r s am ham is low high h fms bm from n c e t a =
    let said : Told (r.next % 2 ^ bits) (bits_held r) ≡ Told fms bm =
    sym (report_heard r bits ham is) ∙ ap (λ k. heard k (report r)) (sym am) ∙ c in
    let fms' : r.next % 2 ^ bits ≡ fms = cc in
    let bm' : bits_held r ≡ bm = cc in
    let from' : r.next ≡ from =
    fms_is s.kind bits s.base r.next from am is low high
    (subst (λ m. fms_count s.kind s.base m ≡ Some from) (sym fms') e) in
    told_has_come first sdus handed up r ((length r.held + 6) / 8) n h a
    (subst (λ m. tells m (bits_held r) n ≡ true) (sym from') (subst (λ b. tells from b n ≡ true) (sym bm') t))

-- ---- the whole

-- once the life has ended
begins : (bits : ℕ) (f : Flow) (keys : Keys) (handed : ℕ → Bool) (r : Receiving) → IsKind (Am bits)
    → Sends bits f.first f.sdus f.sender → Closes f.first f.sdus f.sender handed f.up r
    → ((n : ℕ) → f.first ≤ n → n < f.sender.next → handed n || is_among (all_of f.sender) n ≡ true)
    → IsSound bits (record f {
      sender = renewed f.sender keys;
      receiver = record r { protection = protection_of r.kind keys r.protection.bearer r.protection.direction };
      stream = [];
      whole = λ n. false;
      passed = 0;
      handed = handed;
      report = Some (report r);
    })
begins bits f keys handed r is h c opens =
    let s = f.sender in
    let bound = renewed_bound s keys bits h.am in
    let base : first_again (kept_again s) s.next ≡ or_else (first_unacked (all_of s)) s.next =
    first_is (all_of s) s.next in
    let last = first_end 0 (all_of s) s.next h.order in
    let below : r.next ≤ s.next = few_next f.first f.sdus handed f.up r s.next h.kept.next c.within c.receives in
    let low' : or_else (first_unacked (all_of s)) s.next ≤ r.next = ⊎_elim
    (λ (l : r.next < or_else (first_unacked (all_of s)) s.next).
    let here = opens r.next c.receives.least.from (omega (arith, last)) in
    let refused = c.receives.least.refused in
    let not' : is_among (all_of s) r.next ≡ true → or_else (first_unacked (all_of s)) s.next ≤ r.next =
    first_below 0 (all_of s) s.next r.next h.order in
    absurd (grind (arith, nat_tests)))
    (λ (l : or_else (first_unacked (all_of s)) s.next ≤ r.next). l)
    (cases_lt r.next (or_else (first_unacked (all_of s)) s.next)) in
    record {
      width = is;
      sends = renewed_sends bits f.first f.sdus s keys h;
      links = renewed_links bits f.first f.sdus s keys handed h c.within opens;
      receives = record {
        least = c.receives.least;
        held_is = c.receives.held_is;
        sdu_is = c.receives.sdu_is;
        up_is = c.receives.up_is;
        ends = c.receives.ends;
      };
      hears_am = c.hears_am ∙ h.am;
      key = same_key r s keys c.hears_am c.key;
      places = record { few = omega arith; entries = tt };
      few = omega arith;
      passed = λ n e. absurd cc;
      told = told_truly bits f.first f.sdus handed f.up r (renewed s keys) h.am (c.hears_am ∙ h.am) is
          (omega (arith, base, low')) (omega (arith, base, below, h.near, h.lag)) c.receives;
    }

pub restart_sound : (bits : ℕ) (f : Flow) (keys : Keys) → IsSound bits f → IsSound bits (happens f (Handover keys))
restart_sound bits f keys h =
    let s = f.sender in
    let pdus = drop f.passed f.stream in
    let handed = closed f.whole f.passed pdus f.handed in
    let r = closing f.whole f.passed pdus f.receiver in
    let c : Closes f.first f.sdus s handed f.up r = closes bits f.first f.sdus s f.whole f.up pdus f.passed
    (record { width = h.width; am = h.sends.am; near = h.sends.near; few = omega (arith, h.sends.room) }) f.handed
    f.receiver (h.hears_am ∙ sym h.sends.am) h.key
    (front_of bits f.first f.sdus s f.handed f.whole f.passed pdus h.links) h.receives in
    let opens : (n : ℕ) → f.first ≤ n → n < s.next → handed n || is_among (all_of s) n ≡ true =
    λ n a b. all_come (f.handed n) (came f.whole f.passed pdus n) (is_among (all_of s) n) (handed n)
    (closed_more f.whole pdus f.passed f.handed n) (closed_came f.whole pdus f.passed f.handed n)
    (h.links.opens n a b) in
    subst
    (λ t. IsSound bits (record f {
      sender = t;
      receiver = restarted_receiving r keys;
      stream = [];
      whole = λ n. false;
      passed = 0;
      handed = handed;
      report = Some (report r);
    }))
    (sym (restarted_is s keys bits h.sends.am))
    (subst
    (λ t. IsSound bits (record f {
      sender = renewed s keys;
      receiver = t;
      stream = [];
      whole = λ n. false;
      passed = 0;
      handed = handed;
      report = Some (report r);
    }))
    (sym (restarted_receiver r keys bits (c.hears_am ∙ h.sends.am)))
    (begins bits f keys handed r h.width h.sends c opens))
  where
    all_come : (a b o d : Bool) → (a ≡ true → d ≡ true) → (b ≡ true → d ≡ true) → (a || b) || o ≡ true → d || o ≡ true
    all_come true b o d f g e = let yes : d ≡ true = f refl in grind (arith, nat_tests)
    all_come false true o d f g e = let yes : d ≡ true = g refl in grind (arith, nat_tests)
    all_come false false o d f g e = let yes : o ≡ true = e in grind (arith, nat_tests)
