-- The report of the end of a life tells just what has come.
use Rattle.std.proofs.Common.{◌≡◌, ◌≢◌, ◌<◌, ◌≤◌, ℕ, ◌+◌, ◌-◌, ◌*◌, ◌/◌, ◌%◌, ◌^◌, Bool, true, false, List, [], ◌∷◌}
use Rattle.std.proofs.Common.{length, drop, Option, Some, None, slice_index, slice_index_or, ⊎_elim, inl, inr, subst}
use Rattle.std.proofs.Common.{refl, ap, sym, ◌∙◌, arith}
use Rattle.std.specs.Prelude.{if◌then◌else◌, is_some, nat_le}
use Rattle.std.proofs.lemmas.Bool.Decides.{nat_tests}
use Rattle.std.proofs.lemmas.Bool.{cases_lt}
use Rattle.std.proofs.lemmas.List.{get_or_past}
use Rattle.eps_sec.specs.declared.Keys.{Keys}
use Rattle.pdcp_pdu.specs.declared.PdcpKind.{PdcpKind}
use Rattle.pdcp_pdu.specs.declared.PdcpKind.TheVariants.{Am}
use Rattle.pdcp_pdu.specs.Kinds.{IsKind}
use Rattle.pdcp_pdu.specs.Grammar.{bit_of}
use Rattle.pdcp_sec.specs.Protection.{Protection}
use Rattle.pdcp_tx_store.specs.declared.given.Sent.{Sent}
use Rattle.pdcp_tx_store.specs.Given.{tells, first_unacked, from_unacked}
use Rattle.pdcp_tx.specs.State.{State, low, or_else, restarted, fms_count, ahead}
use Rattle.pdcp_tx.specs.Pdus.{width}
use Rattle.pdcp_rx.specs.Heard.{Told, heard}
use Rattle.pdcp_rx.specs.Held.{is_held, bitmap}
use Rattle.pdcp_rx.specs.State.{State as Receiving, report}
use Rattle.pdcp_rx.proofs.BitmapLemmas.{written}
use Rattle.law_pdcp.specs.AmPair.Flow.{Flow, Event, Restart, happens, run_am_pdcp, am_pdcp_outset, AreGiven, closing}
use Rattle.law_pdcp.specs.AmPair.Between.{IsInStep, TellsWhatHasCome}
use Rattle.law_pdcp.proofs.AmPair.Opens.{all_of, low_is, first_is}
use Rattle.law_pdcp.proofs.AmPair.Receives.{Receives}
use Rattle.law_pdcp.proofs.AmPair.Beginning.{renewed, restarted_is, restarted_receiver, report_heard, bits_held}
use Rattle.law_pdcp.proofs.AmPair.Beginning.{not_zero, bitmap_length, restart_sound}
use Rattle.law_pdcp.proofs.AmPair.InStep.{in_step}
use Rattle.law_pdcp.proofs.AmPair.Passing.{front_of}
use Rattle.law_pdcp.proofs.AmPair.Ending.{closes}
use Rattle.law_pdcp.proofs.AmPair.Laws.{run_sound, outset_sound}
use Rattle.law_pdcp.proofs.AmPair.Sound.{IsSound}

-- ---- its bits

past_bits : (held : List (Option (List ℕ))) (n k : ℕ) → 8 * n ≤ k → bit_of (bitmap held 1 n) k ≡ false
past_bits held n k le = by_bit (bit_of (bitmap held 1 n) k) refl
  where
    by_bit : (b : Bool) → bit_of (bitmap held 1 n) k ≡ b → b ≡ false
    by_bit false e = refl
    by_bit true e =
        let some : slice_index (bitmap held 1 n) (k / 8) ≢ 0 =
        not_zero (slice_index (bitmap held 1 n) (k / 8)) (2 ^ (7 - k % 8)) e in
        let past : slice_index (bitmap held 1 n) (k / 8) ≡ 0 =
        get_or_past (bitmap held 1 n) (k / 8) 0 (omega (arith, bitmap_length held 1 n)) in
        absurd (some past)

bit_is : (held : List (Option (List ℕ))) (k : ℕ)
    → bit_of (bitmap held 1 ((length held + 6) / 8)) k ≡ is_held held (1 + k)
bit_is held k = ⊎_elim
    (λ (l : k < 8 * ((length held + 6) / 8)). written held 1 ((length held + 6) / 8) k l)
    (λ (l : 8 * ((length held + 6) / 8) ≤ k).
    let none : slice_index_or held (1 + k) None ≡ None = get_or_past held (1 + k) None (omega (arith, l)) in
    past_bits held ((length held + 6) / 8) k l ∙ sym (ap is_some none))
    (cases_lt k (8 * ((length held + 6) / 8)))

tells_is : (first : ℕ) (sdus : List (List ℕ)) (handed : ℕ → Bool) (up : List (List ℕ)) (r : Receiving) (n : ℕ)
    → Receives first sdus handed up r → first ≤ n → tells r.next (bits_held r) n ≡ handed n
tells_is first sdus handed up r n h a = ⊎_elim
    (λ (l : n < r.next). let come = h.least.before n a l in grind (arith, nat_tests))
    (λ (l : r.next ≤ n). ⊎_elim
    (λ (m : r.next < n).
    let place : r.next + (1 + (n - r.next - 1)) ≡ n = omega arith in
    let bit : bit_of (bits_held r) (n - r.next - 1) ≡ handed n =
    bit_is r.held (n - r.next - 1) ∙ h.held_is (1 + (n - r.next - 1)) ∙ ap handed place in
    grind (arith, nat_tests))
    (λ (m : n ≤ r.next).
    let same : r.next ≡ n = omega arith in
    let none : handed n ≡ false = ap handed (sym same) ∙ h.least.refused in
    grind (arith, nat_tests))
    (cases_lt r.next n))
    (cases_lt n r.next)

-- ---- its FMS

fms_read : (kind : PdcpKind) (bits base next : ℕ) → kind ≡ Am bits → IsKind (Am bits) → base ≤ next
    → next ≤ base + 2 ^ (bits - 1) → fms_count kind base (next % 2 ^ bits) ≡ Some next
fms_read kind bits base next k is a b = ap (λ y. fms_count y base (next % 2 ^ bits)) k ∙ by_bits is
  where
    by_ahead : (high d : ℕ) → d ≡ next - base → d ≤ high → (if nat_le d high then Some (base + d) else None) ≡ Some next
    by_ahead high d q le =
        let yes : nat_le d high ≡ true = grind (arith, nat_tests) in
        let same : base + d ≡ next = omega arith in
        ap (λ (t : Bool). if t then Some (base + d) else None) yes ∙ ap (λ n. Some n) same

    by_bits : IsKind (Am bits) → fms_count (Am bits) base (next % 2 ^ bits) ≡ Some next
    by_bits (inl e) =
        let near : next ≤ base + 2048 = subst (λ n. next ≤ base + 2 ^ (n - 1)) e b in
        subst (λ n. fms_count (Am n) base (next % 2 ^ n) ≡ Some next) (sym e)
        (by_ahead 2048 (ahead (Am 12) base (next % 4096)) (omega arith) (omega arith))
    by_bits (inr e) =
        let near : next ≤ base + 16384 = subst (λ n. next ≤ base + 2 ^ (n - 1)) e b in
        subst (λ n. fms_count (Am n) base (next % 2 ^ n) ≡ Some next) (sym e)
        (by_ahead 16384 (ahead (Am 15) base (next % 32768)) (omega arith) (omega arith))

unacked_step : (s : Sent) (ss : List Sent) (b : Bool) → s.acked ≡ b
    → first_unacked (from_unacked ss) ≡ first_unacked ss
    → first_unacked (from_unacked (s ∷ ss)) ≡ first_unacked (s ∷ ss)
unacked_step s ss true a h = rw a h
unacked_step s ss false a h = rw a refl

unacked_same : (ss : List Sent) → first_unacked (from_unacked ss) ≡ first_unacked ss
unacked_same [] = refl
unacked_same (s ∷ ss) = unacked_step s ss s.acked refl (unacked_same ss)

-- the first COUNT of the life is the first that isn't confirmed
base_is : (s : State) (keys : Keys) (bits : ℕ) → s.kind ≡ Am bits → (restarted s keys).base ≡ low (restarted s keys)
base_is s keys bits am =
    let here : (renewed s keys).base ≡ low (renewed s keys) =
    first_is (all_of s) s.next ∙ ap (λ o. or_else o s.next) (sym (unacked_same (all_of s)))
    ∙ sym (low_is (renewed s keys)) in
    subst (λ t. t.base ≡ low t) (sym (restarted_is s keys bits am)) here

-- ---- the whole

tells_all : (bits : ℕ) (f : Flow) (keys : Keys) → IsSound bits f → TellsWhatHasCome (happens f (Restart keys))
tells_all bits f keys h =
    let s = f.sender in
    let g = happens f (Restart keys) in
    let pdus = drop f.passed f.stream in
    let r = closing f.whole f.passed pdus f.receiver in
    let c = closes bits f.first f.sdus s f.whole f.up pdus f.passed
    (record { width = h.width; am = h.sends.am; near = h.sends.near; few = omega (arith, h.sends.room) }) f.handed
    f.receiver (h.hears_am ∙ sym h.sends.am) h.key
    (front_of bits f.first f.sdus s f.handed f.whole f.passed pdus h.links) h.receives in
    let k = restart_sound bits f keys h in
    let step : IsInStep g = in_step bits g refl k in
    let ham : r.kind ≡ Am bits = c.hears_am ∙ h.sends.am in
    let next : g.receiver.next ≡ r.next = ap (λ (t : Receiving). t.next) (restarted_receiver r keys bits ham) in
    let base = base_is s keys bits h.sends.am in
    let wide : g.receiver.next ≤ low g.sender + 2 ^ (bits - 1) = omega (arith, step.to, ap width k.sends.am) in
    record {
      fms = r.next % 2 ^ bits;
      bitmap = bits_held r;
      comes = subst (λ y. heard y (report r) ≡ Told (r.next % 2 ^ bits) (bits_held r)) (sym k.sends.am)
          (report_heard r bits ham h.width);
      read = subst (λ n. fms_count g.sender.kind g.sender.base (n % 2 ^ bits) ≡ Some g.receiver.next) next
          (fms_read g.sender.kind bits g.sender.base g.receiver.next k.sends.am h.width
          (omega (arith, base, step.from)) (omega (arith, base, wide)));
      told = λ n a. subst (λ m. tells m (bits_held r) n ≡ g.handed n) (sym next)
          (tells_is f.first f.sdus g.handed f.up r n c.receives a);
    }

pub begins_telling : (bits : ℕ) (p : Protection) (first : ℕ) (events : List Event) (keys : Keys) → IsKind (Am bits)
    → first ≤ 2 ^ 32 → AreGiven (am_pdcp_outset bits p first) events
    → TellsWhatHasCome (happens (run_am_pdcp events (am_pdcp_outset bits p first)) (Restart keys))
begins_telling bits p first events keys is le g =
    tells_all bits (run_am_pdcp events (am_pdcp_outset bits p first)) keys
    (run_sound bits events (am_pdcp_outset bits p first) g (outset_sound bits p first is le))
