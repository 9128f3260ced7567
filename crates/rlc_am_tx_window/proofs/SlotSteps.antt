-- Octets of a PDU that wait, and the runs of those that don't.
use Rattle.std.proofs.Common.{◌≡◌, ℕ, ◌+◌, ◌-◌, ◌<◌, ◌≤◌, List, [], ◌∷◌, Option, Some, None, min, max, true, false}
use Rattle.std.proofs.Common.{refl, arith, nat_lt, Bool, if◌then◌else◌}
use Rattle.std.specs.Prelude.{MatchOption, IfSome}
use Rattle.std.proofs.lemmas.Grind.{common_steps}
use Rattle.std.proofs.lemmas.Bool.Decides.{nat_tests}
use Rattle.rlc_pdu.specs.declared.pdu.Part.{Part}
use Rattle.rlc_pdu.specs.Runs.{Run, run_between, gap_in, between}
use Rattle.rlc_am_tx_window.specs.Sent.{waiting_between, Lies}

pub no-gap : (from size : ℕ) → gap_in (run_between 0 size ∷ []) from size ≡ None
no-gap from size = grind (arith, nat_tests, common_steps)

pub no-gap-within : (from to size : ℕ) → to ≤ size → gap_in (run_between 0 size ∷ []) from to ≡ None
no-gap-within from to size h = grind (arith, nat_tests, common_steps)

behind : (from size : ℕ) (b : Bool) → (b ≡ true → from < size)
    → IfSome (if b then Some (record { start = from; end = size - 1 }) else None) (Lies from size)
behind from size true h = let l = h refl in record { above = omega arith; some = omega arith; below = omega arith }
behind from size false h = tt

is-below : (n m : ℕ) → nat_lt n m ≡ true → n < m
is-below n m e = grind (arith, nat_tests)

is-above : (n m : ℕ) → nat_lt n m ≡ false → m ≤ n
is-above n m e = grind (arith, nat_tests)

wider : (from low size size' : ℕ) (o : Option Part) → from ≤ low → size ≤ size' → IfSome o (Lies low size)
    → IfSome o (Lies from size')
wider from low size size' None a b h = tt
wider from low size size' (Some p) a b h =
    record { above = omega (arith, h.above); some = h.some; below = omega (arith, h.below) }

pub gap-lies : (rs : List Run) (from size : ℕ) → IfSome (gap_in rs from size) (Lies from size)
gap-lies [] from size = behind from size (nat_lt from size) (is-below from size)
gap-lies (r ∷ rs) from size =
    step (nat_lt from r.from)
    (behind from (min r.from size) (nat_lt from (min r.from size)) (is-below from (min r.from size)))
    (gap-lies rs (max from r.to) size)
  where
    step : (b : Bool) → IfSome (between from (min r.from size)) (Lies from (min r.from size))
        → IfSome (gap_in rs (max from r.to) size) (Lies (max from r.to) size)
        → IfSome (if b then between from (min r.from size) else gap_in rs (max from r.to) size) (Lies from size)
    step true h rest =
        wider from from (min r.from size) size (between from (min r.from size)) (omega arith) (omega arith) h
    step false h rest =
        wider from (max from r.to) size size (gap_in rs (max from r.to) size) (omega arith) (omega arith) rest

-- what waits behind a gap
none-past : (rs : List Run) (at size : ℕ) → size ≤ at → waiting_between at size rs ≡ 0
none-past [] at size h = omega arith
none-past (r ∷ rs) at size h = let ih = none-past rs (max at (max r.from r.to)) size (omega arith) in omega arith

abbrev Waits : ℕ → ℕ → List Run → Option Part → Type 0
Waits at size rs o =
    MatchOption o (waiting_between at size rs ≡ 0) (λ p. waiting_between at size rs
    ≡ (p.end + 1 - p.start) + waiting_between (p.end + 1) size rs)

end-test : (at size : ℕ) (b : Bool) → (b ≡ true → at < size) → (b ≡ false → size ≤ at)
    → Waits at size [] (if b then Some (record { start = at; end = size - 1 }) else None)
end-test at size true t f = let l = t refl in omega arith
end-test at size false t f = let l = f refl in omega arith

front-test : (at size : ℕ) (r : Run) (rs : List Run) → at < r.from → (b : Bool) → (b ≡ true → at < min r.from size)
    → (b ≡ false → min r.from size ≤ at)
    → Waits at size (r ∷ rs) (if b then Some (record { start = at; end = min r.from size - 1 }) else None)
front-test at size r rs lt true t f =
    let l = t refl in let e : max (min r.from size - 1 + 1) (max r.from r.to) ≡ max at (max r.from r.to) =
    omega arith in
    rw e (omega arith)
front-test at size r rs lt false t f = let l = f refl in
    let none = none-past rs (max at (max r.from r.to)) size (omega arith) in omega arith

rest-test : (at size : ℕ) (r : Run) (rs : List Run) → r.from ≤ at → (o : Option Part)
    → IfSome o (Lies (max at r.to) size) → Waits (max at r.to) size rs o → Waits at size (r ∷ rs) o
rest-test at size r rs le None l h = let e : max at (max r.from r.to) ≡ max at r.to = omega arith in rw e (omega arith)
rest-test at size r rs le (Some p) l h =
    let a = l.above in let b = l.some in
    let e : max at (max r.from r.to) ≡ max at r.to = omega arith in
    let f : max (p.end + 1) (max r.from r.to) ≡ p.end + 1 = omega arith in rw (e, f) (omega arith)

pub gap-waits : (rs : List Run) (at size : ℕ) → Waits at size rs (gap_in rs at size)
gap-waits [] at size = end-test at size (nat_lt at size) (is-below at size) (is-above at size)
gap-waits (r ∷ rs) at size =
    step (nat_lt at r.from) (is-below at r.from) (is-above at r.from) (gap-lies rs (max at r.to) size)
    (gap-waits rs (max at r.to) size)
  where
    step : (b : Bool) → (b ≡ true → at < r.from) → (b ≡ false → r.from ≤ at)
        → IfSome (gap_in rs (max at r.to) size) (Lies (max at r.to) size)
        → Waits (max at r.to) size rs (gap_in rs (max at r.to) size)
        → Waits at size (r ∷ rs) (if b then between at (min r.from size) else gap_in rs (max at r.to) size)
    step true t f l rest =
        front-test at size r rs (t refl) (nat_lt at (min r.from size)) (is-below at (min r.from size))
        (is-above at (min r.from size))
    step false t f l rest = rest-test at size r rs (f refl) (gap_in rs (max at r.to) size) l rest

pub ruleset gap_steps = (gap-lies, gap-waits)

-- none, or one that lies in the field
pub none-lies : (from size : ℕ) → IfSome (gap_in (run_between 0 size ∷ []) from size) (Lies from size)
none-lies from size = rw (no-gap from size) tt

pub ruleset gaps = (no-gap, no-gap-within, gap-lies, none-lies)
