-- Both ends as a life begins; and where nothing is under way.
use Rattle.std.proofs.Common.{◌≡◌, ◌<◌, ◌≤◌, ℕ, suc, zero, ◌-◌, ◌^◌, true, false, List, [], ◌++◌, drop, ⊎_elim, refl}
use Rattle.std.proofs.Common.{ap, ◌∙◌, arith}
use Rattle.std.proofs.lemmas.Bool.Decides.{nat_tests}
use Rattle.std.proofs.lemmas.Bool.{cases_lt}
use Rattle.std.proofs.lemmas.List.{take_all, drop_all}
use Rattle.eps_sec.specs.declared.Keys.{Keys}
use Rattle.pdcp_pdu.specs.declared.PdcpKind.TheVariants.{Am}
use Rattle.pdcp_pdu.specs.Kinds.{IsKind}
use Rattle.pdcp_sec.specs.Protection.{Protection}
use Rattle.pdcp_tx.specs.Pdus.{width}
use Rattle.pdcp_tx.specs.State.{low}
use Rattle.law_pdcp.specs.AmPair.Flow.{Flow, Event, Restart, happens, run_am_pdcp, am_pdcp_outset, AreGiven}
use Rattle.law_pdcp.specs.AmPair.Expected.{IsComplete}
use Rattle.law_pdcp.specs.AmPair.Between.{IsInStep}
use Rattle.law_pdcp.proofs.AmPair.Numbers.{among, counts, again_counts, came}
use Rattle.law_pdcp.proofs.AmPair.Opens.{all_of, low_is, first_below, first_end}
use Rattle.law_pdcp.proofs.AmPair.Taking.{receiver_below}
use Rattle.law_pdcp.proofs.AmPair.Beginning.{restart_sound}
use Rattle.law_pdcp.proofs.AmPair.Laws.{run_sound, outset_sound}
use Rattle.law_pdcp.proofs.AmPair.Sound.{rest, IsSound}

-- where nothing has come whole out of sequence
pub in_step : (bits : ℕ) (f : Flow) → f.stream ≡ [] → IsSound bits f → IsInStep f
in_step bits f none h =
    let s = f.sender in
    let first = low_is s in
    let last = first_end 0 (all_of s) s.next h.sends.order in
    let nothing : (n : ℕ) → came f.whole f.passed (drop f.passed f.stream) n ≡ false =
    λ n. ap (λ l. came f.whole f.passed (drop f.passed l) n) none ∙ none_came n f.passed in
    let confirmed : (n : ℕ) → f.first ≤ n → n < low s → f.handed n ≡ true = λ n a b.
    grind (
      arith,
      nat_tests,
      h.links.opens n a,
      nothing n,
      first_below 0 (all_of s) s.next n h.sends.order,
      first,
      last,
      b,
    ) in
    let w : width s.kind ≡ 2 ^ (bits - 1) = ap width h.sends.am in
    record {
      confirmed = confirmed;
      from = ⊎_elim
          (λ (l : f.receiver.next < low s).
          let here = confirmed f.receiver.next h.receives.least.from l in
          let refused = h.receives.least.refused in
          absurd cc)
          (λ (l : low s ≤ f.receiver.next). l)
          (cases_lt f.receiver.next (low s));
      to = omega (arith, receiver_below bits f h, h.sends.near, h.sends.lag, first, w);
      held = h.receives.held_is;
    }
  where
    none_came : (n k : ℕ) → came f.whole f.passed (drop k []) n ≡ false
    none_came n zero = refl
    none_came n (suc k) = refl

pub begins_in_step : (bits : ℕ) (p : Protection) (first : ℕ) (events : List Event) (keys : Keys) → IsKind (Am bits)
    → first ≤ 2 ^ 32 → AreGiven (am_pdcp_outset bits p first) events
    → IsInStep (happens (run_am_pdcp events (am_pdcp_outset bits p first)) (Restart keys))
begins_in_step bits p first events keys is le g =
    let f = run_am_pdcp events (am_pdcp_outset bits p first) in
    in_step bits (happens f (Restart keys)) refl
    (restart_sound bits f keys (run_sound bits events (am_pdcp_outset bits p first) g
    (outset_sound bits p first is le)))

complete : (bits : ℕ) (f : Flow) → IsSound bits f → IsComplete f
complete bits f h end again =
    let s = f.sender in
    let below = receiver_below bits f h in
    let line : rest (drop f.passed f.stream) s ≡ [] =
    ap (λ l. counts l ++ again_counts s.again) (drop_all f.passed f.stream (omega (arith, end)))
    ∙ ap (λ l. again_counts l) again in
    let reached : s.next ≤ f.receiver.next = ⊎_elim
    (λ (l : f.receiver.next < s.next).
    let here = h.links.covered f.receiver.next h.receives.least.from l in
    let none : among (rest (drop f.passed f.stream) s) f.receiver.next ≡ false =
    ap (λ l. among l f.receiver.next) line in
    let refused = h.receives.least.refused in
    absurd (grind (arith, nat_tests)))
    (λ (l : s.next ≤ f.receiver.next). l)
    (cases_lt f.receiver.next s.next) in
    h.receives.up_is ∙ take_all (f.receiver.next - f.first) f.sdus (omega (arith, h.sends.kept.next, reached))

pub delivers_all : (bits : ℕ) (p : Protection) (first : ℕ) (events : List Event) → IsKind (Am bits) → first ≤ 2 ^ 32
    → AreGiven (am_pdcp_outset bits p first) events → IsComplete (run_am_pdcp events (am_pdcp_outset bits p first))
delivers_all bits p first events is le g =
    complete bits (run_am_pdcp events (am_pdcp_outset bits p first))
    (run_sound bits events (am_pdcp_outset bits p first) g (outset_sound bits p first is le))
