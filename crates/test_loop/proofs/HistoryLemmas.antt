-- A test loop over any list of calls.
use Rattle.std.proofs.Common.{◌≡◌, ◌<◌, ◌≤◌, ℕ, ◌+◌, ◌-◌, Bool, true, false, ◌||◌, ◌&&◌, ◌==◌, nat_le, nat_lt}
use Rattle.std.proofs.Common.{if◌then◌else◌, is_some, List, [], ◌∷◌, ◌++◌, length, refl, ap, sym, ◌∙◌, arith, inl, inr}
use Rattle.std.proofs.Common.{append_assoc, length-append}
use Rattle.std.proofs.lemmas.Bool.{cases_eq}
use Rattle.std.proofs.lemmas.Bool.Decides.{nat_tests}
use Rattle.test_loop.specs.declared.Mode.{Mode}
use Rattle.test_loop.specs.declared.Mode.TheVariants.{Off, A, B}
use Rattle.test_loop.specs.declared.Kept.TheVariants.{Later, Full}
use Rattle.test_loop.specs.Items.{Item}
use Rattle.test_loop.specs.Loops.{State, state, fresh, is_full, after_set, taken_answer, after_taken, after_tick}
use Rattle.test_loop.specs.Loops.{due_answer, after_due}
use Rattle.test_loop.specs.LoopHistory.{Call, Set, Take, Tick, Ask, Deed, Stored, Gave, World, taken_deeds, called}
use Rattle.test_loop.specs.LoopHistory.{world_after}
use Rattle.test_loop.specs.LoopHistory.{start, stored, given, waiting, delay, ticks, is_switched, Returns}

-- the TTIs that are left, as the deeds tell
abbrev left_by : List Deed → ℕ
left_by past = if is_switched past then 0 else delay past - ticks past

record Fits (past : List Deed) (kept : List Item) (left : ℕ) : Type 0 where
  in_order : given past ++ kept ≡ stored past
  at_most : length kept ≤ 1024
  left_is : left ≡ left_by past

waiting_is : (past : List Deed) (kept : List Item) → given past ++ kept ≡ stored past → waiting past ≡ length kept
waiting_is past kept e = omega (arith, ap (λ (xs : List Item). length xs) e, length-append (given past) kept)

first_left : (b switched : Bool) (new left old gone : ℕ) → left ≡ (if switched then 0 else old - gone)
    → (if b then new else left)
    ≡ (if (if b then false else switched) then 0 else (if b then new else old) - (if b then 0 else gone))
first_left true switched new left old gone e = omega arith
first_left false switched new left old gone e = e

stored_fits : (past : List Deed) (kept : List Item) (left new : ℕ) (one : Item) → length kept < 1024
    → Fits past kept left
    → Fits (Stored new one ∷ past) (kept ++ one ∷ []) (if length kept == 0 then new else left)
stored_fits past kept left new one room f = record {
  in_order = sym (append_assoc (given past) kept (one ∷ [])) ∙ ap (λ (xs : List Item). xs ++ one ∷ []) f.in_order;
  at_most = omega (arith, length-append kept (one ∷ []));
  left_is =
      let same : waiting past ≡ length kept = waiting_is past kept f.in_order in
      rw same (first_left (length kept == 0) (is_switched past) new left (delay past) (ticks past) f.left_is);
}

gave_fits : (past : List Deed) (one : Item) (kept : List Item) (left : ℕ) → Fits past (one ∷ kept) left
    → Fits (Gave one ∷ past) kept left
gave_fits past one kept left f = record {
  in_order = append_assoc (given past) (one ∷ []) kept ∙ f.in_order;
  at_most = omega (arith, f.at_most);
  left_is = f.left_is;
}

ticked_left : (switched : Bool) (left old gone : ℕ) → left ≡ (if switched then 0 else old - gone)
    → left - 1 ≡ (if switched then 0 else old - (gone + 1))
ticked_left true left old gone e = omega arith
ticked_left false left old gone e = omega arith

record Keeps (w : World) : Type 0 where
  fits : Fits w.past w.state.kept w.state.left

-- an SDU that is to be kept
kept_keeps : (full : Bool) (new : ℕ) (one : Item) (s : State) (past : List Deed) → is_full s.kept ≡ full
    → Fits past s.kept s.left
    → Fits (taken_deeds (if full then Full else Later) (record s { mode = B new }) one past)
    (if full then s.kept else s.kept ++ one ∷ []) (if length s.kept == 0 then new else s.left)
kept_keeps true new one s past e f =
    let some : (length s.kept == 0) ≡ false = grind (arith, nat_tests) in
    rw some f
kept_keeps false new one s past e f = stored_fits past s.kept s.left new one (grind (arith, nat_tests)) f

mode_keeps : (mode : Mode) (one : Item) (kept : List Item) (left : ℕ) (past : List Deed) → Fits past kept left
    → Keeps (called (record { state = state mode kept left; past = past }) (Take one))
unfolding taken_answer after_taken
mode_keeps Off one kept left past f = record { fits = f }
mode_keeps (A size) one kept left past f = record { fits = f }
mode_keeps (B new) one kept left past f = elim (cases_eq new 0) [
  | inl none ↦ let test : (new == 0) ≡ true = grind (arith, nat_tests) in rw test (record { fits = f })
  | inr some ↦ let test : (new == 0) ≡ false = grind (arith, nat_tests) in
      rw test (record { fits = kept_keeps (is_full kept) new one (state (B new) kept left) past refl f })
]

ask_keeps : (b : Bool) (mode : Mode) (kept : List Item) (left : ℕ) (past : List Deed) → (left == 0) ≡ b
    → Fits past kept left
    → Keeps (called (record { state = state mode kept left; past = past }) Ask)
unfolding due_answer after_due
ask_keeps true mode [] left past e f = rw e (record { fits = f })
ask_keeps true mode (one ∷ kept) left past e f = rw e (record { fits = gave_fits past one kept left f })
ask_keeps false mode kept left past e f = rw e (record { fits = f })

call_keeps : (w : World) (c : Call) → Keeps w → Keeps (called w c)
unfolding after_set after_tick
call_keeps w (Set mode) k =
    record { fits = record { in_order = k.fits.in_order; at_most = k.fits.at_most; left_is = refl } }
call_keeps w (Take one) k = mode_keeps w.state.mode one w.state.kept w.state.left w.past k.fits
call_keeps w Tick k =
    record {
      fits = record {
        in_order = k.fits.in_order;
        at_most = k.fits.at_most;
        left_is = ticked_left (is_switched w.past) w.state.left (delay w.past) (ticks w.past) k.fits.left_is;
      };
    }
call_keeps w Ask k = ask_keeps (w.state.left == 0) w.state.mode w.state.kept w.state.left w.past refl k.fits

run_keeps : (w : World) (cs : List Call) → Keeps w → Keeps (world_after cs w)
run_keeps w [] k = k
run_keeps w (c ∷ cs) k = run_keeps (called w c) cs (call_keeps w c k)

start_keeps : Keeps start
unfolding fresh
start_keeps = record { fits = record { in_order = refl; at_most = omega arith; left_is = refl } }

left_none : (switched : Bool) (left old gone : ℕ) → left ≡ (if switched then 0 else old - gone)
    → (left == 0) ≡ (switched || nat_le old gone)
left_none true left old gone e = grind (arith, nat_tests)
left_none false left old gone e = grind (arith, nat_tests)

owed_by : (b : Bool) (kept : List Item) (left : ℕ) (mode : Mode) → (left == 0) ≡ b
    → is_some (due_answer (state mode kept left)) ≡ (nat_lt 0 (length kept) && b)
unfolding due_answer
owed_by true [] left mode e = rw e refl
owed_by true (one ∷ kept) left mode e = rw e (grind (arith, nat_tests))
owed_by false kept left mode e = rw e (grind (arith, nat_tests))

pub returns_once : (cs : List Call) → Returns (world_after cs start)
returns_once cs =
    let w = world_after cs start in
    let f = (run_keeps start cs start_keeps).fits in
    let none = left_none (is_switched w.past) w.state.left (delay w.past) (ticks w.past) f.left_is in
    let same : waiting w.past ≡ length w.state.kept = waiting_is w.past w.state.kept f.in_order in
    record {
      in_order = f.in_order;
      at_most = f.at_most;
      owed =
          rw same (owed_by (is_switched w.past || nat_le (delay w.past) (ticks w.past)) w.state.kept w.state.left
          w.state.mode none);
    }
