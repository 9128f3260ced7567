-- What an expiry of the poll timer leaves due.
use Rattle.std.proofs.Common.{◌≡◌, ◌<◌, ◌≤◌, inl, inr, ◌⊎◌, ℕ, suc, ◌+◌, ◌-◌, Bool, true, false, ◌||◌}
use Rattle.std.proofs.Common.{◌==◌, if◌then◌else◌, List, [], ◌∷◌, length, Option, Some, None}
use Rattle.std.proofs.Common.{is_some, refl}
use Rattle.std.proofs.Common.{ap, sym, ◌∙◌, arith, set}
use Rattle.std.proofs.Common.{get_or-set_same, get_or-set_other}
use Rattle.std.specs.Prelude.{IfSome}
use Rattle.std.proofs.lemmas.Bool.Decides.{nat_tests}
use Rattle.std.proofs.lemmas.Bool.{cases_eq}
use Rattle.std.proofs.Math.ListN.{length-set}
use Rattle.rlc_am_tx_window.specs.Sent.{Sent}
use Rattle.rlc_am_tx_window.specs.Sent.{recalled}
use Rattle.rlc_am_tx_window.specs.Window.{nothing, slot_at}
use Rattle.rlc_am_tx_window.specs.Window.{last_open}
use Rattle.rlc_am_tx.specs.Machine.{State}
use Rattle.rlc_am_tx.specs.Machine.{with_recalled, recalled_place}
use Rattle.law_rlc.specs.AmSender.Namings.{Marks}
use Rattle.law_rlc.specs.AmSender.Namings.{recalled_marks}
use Rattle.law_rlc.specs.AmSender.Limit.{AreFew}
use Rattle.law_rlc.proofs.AmSender.Marked.{same-number}
use Rattle.law_drain.specs.Dues.{sum_below, pdu_dues, window_dues}
use Rattle.law_drain.proofs.Sums.{sum_below_le}
use Rattle.law_drain.proofs.Heard.{pdu_dues_fewer, pdu_dues_named}

-- ---- an expiry of the poll timer

-- the greatest number that isn't acknowledged
abbrev IsOpen : List Sent → ℕ → ℕ → Type 0
IsOpen slots at k = (at ≤ k) × ((slot_at slots (k - at)).acked ≡ false)

last-open : (at : ℕ) (found : Option ℕ) (slots : List Sent)
    → IfSome (last_open at found slots) (λ k. (found ≡ Some k) ⊎ IsOpen slots at k)
last-open at None [] = tt
last-open at (Some k) [] = inl refl
last-open at found (x ∷ xs) =
    by (last_open (at + 1) (if x.acked then found else Some at) xs)
    (last-open (at + 1) (if x.acked then found else Some at) xs)
  where
    here : (b : Bool) (k : ℕ) → x.acked ≡ b → (if b then found else Some at) ≡ Some k
        → (found ≡ Some k) ⊎ IsOpen (x ∷ xs) at k
    here true k e s = inl s
    here false k e s =
        let same : at ≡ k = ap (λ (o : Option ℕ). from o) s in
        let none : k - at ≡ 0 = omega (arith, same) in
        inr (omega (arith, same), ap (λ (j : ℕ). (slot_at (x ∷ xs) j).acked) none ∙ e)
      where
        from : Option ℕ → ℕ
        from None = 0
        from (Some j) = j

    by : (o : Option ℕ)
        → IfSome o (λ k. ((if x.acked then found else Some at) ≡ Some k) ⊎ IsOpen xs (at + 1) k)
        → IfSome o (λ k. (found ≡ Some k) ⊎ IsOpen (x ∷ xs) at k)
    by None h = tt
    by (Some k) (inl s) = here x.acked k refl s
    by (Some k) (inr o) =
        let le = o.0 in
        let e : k - at ≡ suc (k - (at + 1)) = omega (arith, le) in
        inr (omega (arith, le), ap (λ (j : ℕ). (slot_at (x ∷ xs) j).acked) e ∙ o.1)

pub recalled-open : (s : State) (more : Bool)
    → IfSome (recalled_place s more) (λ k. (slot_at s.window.slots k).acked ≡ false)
recalled-open s more = step (_) (all (last_open 0 None s.window.slots) (last-open 0 None s.window.slots))
  where
    all : (o : Option ℕ) → IfSome o (λ k. (None ≡ Some k) ⊎ IsOpen s.window.slots 0 k)
        → IfSome o (λ k. (slot_at s.window.slots k).acked ≡ false)
    all None h = tt
    all (Some k) (inl e) = let no' : false ≡ true = ap (λ (o : Option ℕ). is_some o) e in cc
    all (Some k) (inr o) = ap (λ (j : ℕ). (slot_at s.window.slots j).acked) (omega arith) ∙ o.1

    step : (b : Bool) → IfSome (last_open 0 None s.window.slots) (λ k. (slot_at s.window.slots k).acked ≡ false)
        → IfSome (if b then last_open 0 None s.window.slots else None) (λ k. (slot_at s.window.slots k).acked ≡ false)
    step true h = h
    step false h = tt

-- a slot of another PDU stays, and one that is set is what was set
pub set-slot : (slots : List Sent) (at : ℕ) (x : Sent) (k : ℕ) → k < length slots
    → (k ≡ at) × (slot_at (set slots at x) k ≡ x) ⊎ (k ≡ at → ⊥) × (slot_at (set slots at x) k ≡ slot_at slots k)
set-slot slots at x k lt = elim (cases_eq k at) [
  | inl same ↦ inl (same, rw same (get_or-set_same slots at x nothing (omega (arith, same, lt))))
  | inr other ↦ inr (other, get_or-set_other slots at k x nothing other)
]

recalled-due : (s : State) (m : Marks) (at k : ℕ) → at < length s.window.slots → k < length s.window.slots
    → (slot_at s.window.slots at).acked ≡ false
    → (recalled_marks (Some at) s.window.base m).namings (s.window.base + k) ≤ s.config.max_retx
    → pdu_dues s.config.max_retx
    (slot_at (set s.window.slots at (recalled s.config.max_retx (slot_at s.window.slots at))) k)
    ((recalled_marks (Some at) s.window.base m).waits (s.window.base + k))
    ((recalled_marks (Some at) s.window.base m).namings (s.window.base + k))
    ≤ pdu_dues s.config.max_retx (slot_at s.window.slots k) (m.waits (s.window.base + k))
    (m.namings (s.window.base + k))
recalled-due s m at k lt k_in unacked few =
    elim (set-slot s.window.slots at (recalled s.config.max_retx (slot_at s.window.slots at)) k k_in) [
      | inl here ↦
          let number : (s.window.base + k == s.window.base + at) ≡ true =
          rw here.0 (same-number s.window.base at) in
          let unacked' : (slot_at s.window.slots k).acked ≡ false =
          ap (λ (j : ℕ). (slot_at s.window.slots j).acked) here.0 ∙ unacked in
          let field : (recalled s.config.max_retx (slot_at s.window.slots at)).field
          ≡ (slot_at s.window.slots k).field =
          ap (λ (j : ℕ). (slot_at s.window.slots j).field) (sym here.0) in
          let count : (recalled_marks (Some at) s.window.base m).namings (s.window.base + k)
          ≡ m.namings (s.window.base + k) + 1 = rw number refl in
          rw (here.1, count)
          (pdu_dues_named s.config.max_retx (m.namings (s.window.base + k)) (slot_at s.window.slots k)
          (recalled s.config.max_retx (slot_at s.window.slots at)) (m.waits (s.window.base + k))
          ((recalled_marks (Some at) s.window.base m).waits (s.window.base + k)) field unacked unacked'
          (omega (arith, few, count)))
      | inr there ↦
          let number : (s.window.base + k == s.window.base + at) ≡ false = grind (arith, nat_tests, there.0) in
          let count : (recalled_marks (Some at) s.window.base m).namings (s.window.base + k)
          ≡ m.namings (s.window.base + k) = rw number refl in
          rw (there.1, count)
          (pdu_dues_fewer s.config.max_retx (m.namings (s.window.base + k)) (slot_at s.window.slots k)
          (slot_at s.window.slots k) (m.waits (s.window.base + k))
          ((recalled_marks (Some at) s.window.base m).waits (s.window.base + k)) refl refl
          (λ i i_in e. own (m.waits (s.window.base + k) i) (s.window.base + k == s.window.base + at) number e))
    ]
  where
    own : (a b : Bool) → b ≡ false → (a || b) ≡ true → a ≡ true
    own true b n e = refl
    own false true n e = let no' : true ≡ false = n in cc
    own false false n e = let no' : false ≡ true = e in cc

pub recalled-dues : (o : Option ℕ) (s : State) (m : Marks) → IfSome o (λ k. k < length s.window.slots)
    → IfSome o (λ k. (slot_at s.window.slots k).acked ≡ false)
    → AreFew (recalled_marks o s.window.base m).namings s.config.max_retx
    → window_dues s.config.max_retx (with_recalled o s).window (recalled_marks o s.window.base m)
    ≤ window_dues s.config.max_retx s.window m
recalled-dues None s m lt unacked few = omega arith
recalled-dues (Some at) s m lt unacked few =
    let len = length-set s.window.slots at (recalled s.config.max_retx (slot_at s.window.slots at)) in
    let all = sum_below_le (length s.window.slots) after' was
    (λ k k_in. recalled-due s m at k lt k_in unacked (few (s.window.base + k))) in
    let same : sum_below
    (length (set s.window.slots at (recalled s.config.max_retx (slot_at s.window.slots at)))) after'
    ≡ sum_below (length s.window.slots) after' = ap (λ (n : ℕ). sum_below n after') len in
    omega (arith, all, same)
  where
    was : ℕ → ℕ
    was k = pdu_dues s.config.max_retx (slot_at s.window.slots k) (m.waits (s.window.base + k))
        (m.namings (s.window.base + k))

    after' : ℕ → ℕ
    after' k = pdu_dues s.config.max_retx
        (slot_at (set s.window.slots at (recalled s.config.max_retx (slot_at s.window.slots at))) k)
        ((recalled_marks (Some at) s.window.base m).waits (s.window.base + k))
        ((recalled_marks (Some at) s.window.base m).namings (s.window.base + k))
