-- A receiver's processes over any list of calls.
use Rattle.std.proofs.Common.{◌≡◌, ◌<◌, ◌≤◌, ℕ, zero, suc, ◌+◌, ◌-◌, ◌%◌, Bool, true, false, not, ◌||◌, ◌&&◌, ◌==◌}
use Rattle.std.proofs.Common.{if◌then◌else◌, nat_lt, Option, Some, None, List, [], ◌∷◌, length, get_or, replicate}
use Rattle.std.proofs.Common.{get_or-set_same, get_or-set_other, refl, ap, sym, subst, ◌∙◌, arith, inl, inr}
use Rattle.std.proofs.lemmas.Bool.{cases_eq}
use Rattle.std.proofs.lemmas.Bool.Decides.{nat_tests}
use Rattle.std.proofs.Math.ListN.{length-set}
use Rattle.harq.specs.declared.receiver.Answer.{Answer}
use Rattle.harq.specs.declared.receiver.Answer.TheVariants.{Up, Again, Damaged}
use Rattle.harq.specs.Sending.{same}
use Rattle.harq.specs.SendHistory.{is_odd}
use Rattle.harq.specs.Receiving.{Receiving, ReceiveProcess, blank, was_decoded, assigned_to, assigned_answered, awarded}
use Rattle.harq.specs.Receiving.{passed, arrived, with_process, fresh, after_assigned, assigned_answer, after_grant}
use Rattle.harq.specs.Receiving.{grant_ndi, after_granted, after_pass}
use Rattle.harq.specs.ReceiveHistory.{Block, DownStep, Came, Cleared, Heard, DownWorld, heard, down_stepped, down_run}
use Rattle.harq.specs.ReceiveHistory.{down_start, has_decoded, AreAnsweredRight, AnswersRight, UpStep, Granted, Passed}
use Rattle.harq.specs.ReceiveHistory.{Reset, Told, Asked, Skipped, UpWorld, up_stepped, up_run, up_start, since_award}
use Rattle.harq.specs.ReceiveHistory.{awards, AreGrantedRight, GrantsRight, Arrival, heard_of, Follows, came_intact}
use Rattle.harq.specs.ReceiveHistory.{once_answer, right_answer}

abbrev one : Receiving → ℕ → ReceiveProcess
one r p = get_or r.processes p blank

blank_at : (n p : ℕ) → get_or (replicate n blank) p blank ≡ blank
blank_at zero p = refl
blank_at (suc n) zero = refl
blank_at (suc n) (suc p) = blank_at n p

-- a step that puts a process in the place of a TTI's
record Puts (tti : ℕ) (x : ReceiveProcess) (r r' : Receiving) : Type 0 where
  maximum_is : r'.maximum ≡ r.maximum
  length_is : length r'.processes ≡ length r.processes
  at : one r' (tti % 8) ≡ x
  others : (p : ℕ) → (p ≡ tti % 8 → ⊥) → one r' p ≡ one r p

puts : (r : Receiving) (tti : ℕ) (x : ReceiveProcess) → length r.processes ≡ 8 → Puts tti x r (with_process r tti x)
puts r tti x l = record {
  maximum_is = refl;
  length_is = length-set r.processes (tti % 8) x;
  at = get_or-set_same r.processes (tti % 8) x blank (omega arith);
  others = λ p ne. get_or-set_other r.processes (tti % 8) p x blank ne;
}

assigned_puts : (r : Receiving) (b : Block) → length r.processes ≡ 8
    → Puts b.tti (assigned_to b.ndi b.good (one r (b.tti % 8))) r (after_assigned r b.tti b.ndi b.good)
unfolding after_assigned
assigned_puts r b l = puts r b.tti (assigned_to b.ndi b.good (one r (b.tti % 8))) l

passed_puts : (r : Receiving) (tti : ℕ) → length r.processes ≡ 8
    → Puts tti (passed (one r (tti % 8))) r (after_pass r tti)
unfolding after_pass
passed_puts r tti l = puts r tti (passed (one r (tti % 8))) l

granted_puts : (r : Receiving) (tti : ℕ) (good : Option Bool) → length r.processes ≡ 8
    → Puts tti (arrived good (awarded r.maximum (one r (tti % 8)))) r (after_granted (after_grant r tti) tti good)
unfolding after_grant after_granted
granted_puts r tti good l =
    let award = awarded r.maximum (one r (tti % 8)) in
    let a = puts r tti award l in
    let b = puts (with_process r tti award) tti (arrived good (one (with_process r tti award) (tti % 8)))
    (a.length_is ∙ l) in
    record {
      maximum_is = refl;
      length_is = b.length_is ∙ a.length_is;
      at = b.at ∙ ap (arrived good) a.at;
      others = λ p ne. b.others p ne ∙ a.others p ne;
    }

-- ---- the downlink

-- a process knows of its past what it needs
pub record Hears (past : List Heard) (p : ReceiveProcess) : Type 0 where
  pub decoded_is : (ndi : Bool) → was_decoded ndi p ≡ has_decoded ndi past
  pub is_right : AreAnsweredRight past

decoded_more : (ndi new good d : Bool) → (same ndi new && (d || good)) ≡ (if same ndi new then good || d else false)
decoded_more true true true true = refl
decoded_more true true true false = refl
decoded_more true true false true = refl
decoded_more true true false false = refl
decoded_more true false good d = refl
decoded_more false true good d = refl
decoded_more false false true true = refl
decoded_more false false true false = refl
decoded_more false false false true = refl
decoded_more false false false false = refl

-- where two NDIs are the same, what is known of the one is known of the other
decoded_same : (ndi new good : Bool) (past : List Heard)
    → (if same ndi new then good || has_decoded new past else false)
    ≡ (if same ndi new then good || has_decoded ndi past else false)
decoded_same true true good past = refl
decoded_same true false good past = refl
decoded_same false true good past = refl
decoded_same false false good past = refl

hears_more : (b : Block) (answer : Answer) (past : List Heard) (p : ReceiveProcess)
    → answer ≡ assigned_answered b.ndi b.good p → Hears past p
    → Hears (record { ndi = b.ndi; good = b.good; answer = answer } ∷ past) (assigned_to b.ndi b.good p)
hears_more b answer past p e h = record {
  decoded_is = λ ndi. decoded_more ndi b.ndi b.good (was_decoded b.ndi p)
      ∙ ap (λ (d : Bool). if same ndi b.ndi then b.good || d else false) (h.decoded_is b.ndi)
      ∙ decoded_same ndi b.ndi b.good past;
  is_right = (
    e ∙ ap (λ (d : Bool). if b.good then (if d then Again else Up) else Damaged) (h.decoded_is b.ndi),
    h.is_right,
  );
}

record DownKeeps (w : DownWorld) : Type 0 where
  length_is : length w.receiver.processes ≡ 8
  hears : (p : ℕ) → p < 8 → Hears (w.past p) (one w.receiver p)

down_fresh : (maximum : ℕ) → DownKeeps (down_start maximum)
unfolding fresh
down_fresh maximum = record {
  length_is = refl;
  hears = λ p lt. subst (λ x. Hears [] x) (sym (blank_at 8 p)) (record { decoded_is = λ ndi. refl; is_right = tt });
}

heard_there : (w : DownWorld) (b : Block) → DownKeeps w
    → Hears (heard b w.receiver ∷ w.past (b.tti % 8)) (one (after_assigned w.receiver b.tti b.ndi b.good) (b.tti % 8))
unfolding assigned_answer
heard_there w b k =
    let at = b.tti % 8 in
    subst (λ x. Hears (heard b w.receiver ∷ w.past at) x) (sym (assigned_puts w.receiver b k.length_is).at)
    (hears_more b (assigned_answer w.receiver b.tti b.ndi b.good) (w.past at) (one w.receiver at) refl
    (k.hears at (omega arith)))

down_step : (w : DownWorld) (s : DownStep) → DownKeeps w → DownKeeps (down_stepped w s)
down_step w Cleared k = down_fresh w.receiver.maximum
down_step w (Came b) k =
    let puts_it = assigned_puts w.receiver b k.length_is in
    record {
      length_is = puts_it.length_is ∙ k.length_is;
      hears = λ p lt. elim (cases_eq p (b.tti % 8)) [
        | inl same_one ↦
            let test : (p == b.tti % 8) ≡ true = grind (arith, nat_tests) in
            rw test
            (subst (λ q. Hears (heard b w.receiver ∷ w.past q)
            (one (after_assigned w.receiver b.tti b.ndi b.good) q)) (sym same_one) (heard_there w b k))
        | inr other ↦
            let test : (p == b.tti % 8) ≡ false = grind (arith, nat_tests) in
            rw test (subst (λ x. Hears (w.past p) x) (sym (puts_it.others p other)) (k.hears p lt))
      ];
    }

down_keeps : (w : DownWorld) (ss : List DownStep) → DownKeeps w → DownKeeps (down_run ss w)
down_keeps w [] k = k
down_keeps w (s ∷ ss) k = down_keeps (down_stepped w s) ss (down_step w s k)

pub answers_right : (maximum : ℕ) (ss : List DownStep) → AnswersRight (down_run ss (down_start maximum))
answers_right maximum ss = λ p lt. ((down_keeps (down_start maximum) ss (down_fresh maximum)).hears p lt).is_right

-- ---- the uplink

-- a process knows of its past what it needs
pub record Awaits (maximum : ℕ) (past : List Told) (p : ReceiveProcess) : Type 0 where
  pub ndi_is : p.ndi ≡ is_odd (awards maximum past)
  pub within : since_award maximum past < maximum
  pub left_is : p.left ≡ (if since_award maximum past == 0 then 0 else maximum - since_award maximum past)
  pub is_right : AreGrantedRight maximum past

-- whether a block is awaited is seen by what is left
left_none : (maximum since left : ℕ) → since < maximum → left ≡ (if since == 0 then 0 else maximum - since)
    → (left == 0) ≡ (since == 0)
left_none maximum since left lt e = grind (arith, nat_tests)

asked_ndi : (maximum : ℕ) (past : List Told) (p : ReceiveProcess) (good : Option Bool) → Awaits maximum past p
    → (awarded maximum p).ndi ≡ is_odd (awards maximum (Asked (awarded maximum p).ndi good ∷ past))
asked_ndi maximum past p good a =
    let none = left_none maximum (since_award maximum past) p.left a.within a.left_is in
    elim (cases_eq (since_award maximum past) 0) [
      | inl zero_is ↦
          let test : (since_award maximum past == 0) ≡ true = grind (arith, nat_tests) in
          rw (none ∙ test, test) (ap not a.ndi_is)
      | inr more ↦
          let test : (since_award maximum past == 0) ≡ false = grind (arith, nat_tests) in
          rw (none ∙ test, test) a.ndi_is
    ]

missed_left : (maximum since left : ℕ) → since < maximum → left ≡ (if since == 0 then 0 else maximum - since)
    → ((if left == 0 then maximum else left) - 1)
    ≡ (if (if not (nat_lt (since + 1) maximum) then 0 else since + 1) == 0 then 0
    else maximum - (if not (nat_lt (since + 1) maximum) then 0 else since + 1))
missed_left maximum since left lt e = grind (arith, nat_tests)

missed_within : (maximum since : ℕ) → since < maximum
    → (if not (nat_lt (since + 1) maximum) then 0 else since + 1) < maximum
missed_within maximum since lt = grind (arith, nat_tests)

asked_awaits : (maximum : ℕ) (past : List Told) (p : ReceiveProcess) (good : Option Bool) → Awaits maximum past p
    → Awaits maximum (Asked (awarded maximum p).ndi good ∷ past) (arrived good (awarded maximum p))
asked_awaits maximum past p None a = record {
  ndi_is = asked_ndi maximum past p None a;
  within = missed_within maximum (since_award maximum past) a.within;
  left_is = missed_left maximum (since_award maximum past) p.left a.within a.left_is;
  is_right = (asked_ndi maximum past p None a, a.is_right);
}
asked_awaits maximum past p (Some false) a = record {
  ndi_is = asked_ndi maximum past p (Some false) a;
  within = missed_within maximum (since_award maximum past) a.within;
  left_is = missed_left maximum (since_award maximum past) p.left a.within a.left_is;
  is_right = (asked_ndi maximum past p (Some false) a, a.is_right);
}
asked_awaits maximum past p (Some true) a = record {
  ndi_is = asked_ndi maximum past p (Some true) a;
  within = omega (arith, a.within);
  left_is = refl;
  is_right = (asked_ndi maximum past p (Some true) a, a.is_right);
}

skipped_awaits : (maximum : ℕ) (past : List Told) (p : ReceiveProcess) → Awaits maximum past p
    → Awaits maximum (Skipped ∷ past) (passed p)
skipped_awaits maximum past p a = record {
  ndi_is = a.ndi_is;
  within = grind (arith, nat_tests, a.within);
  left_is = grind (arith, nat_tests, a.within, a.left_is);
  is_right = a.is_right;
}

record UpKeeps (maximum : ℕ) (w : UpWorld) : Type 0 where
  maximum_is : w.receiver.maximum ≡ maximum
  length_is : length w.receiver.processes ≡ 8
  awaits : (p : ℕ) → p < 8 → Awaits maximum (w.past p) (one w.receiver p)

up_fresh : (maximum : ℕ) → 1 ≤ maximum → UpKeeps maximum (up_start maximum)
unfolding fresh
up_fresh maximum some = record {
  maximum_is = refl;
  length_is = refl;
  awaits = λ p lt. subst (λ x. Awaits maximum [] x) (sym (blank_at 8 p))
      (record { ndi_is = refl; within = omega arith; left_is = refl; is_right = tt });
}

-- one process is told of, and the others stay
told_keeps : (maximum : ℕ) (w : UpWorld) (tti : ℕ) (told : Told) (x : ReceiveProcess) (r : Receiving)
    → UpKeeps maximum w → Puts tti x w.receiver r → Awaits maximum (told ∷ w.past (tti % 8)) x
    → UpKeeps maximum (record { receiver = r; past = λ p. if p == tti % 8 then told ∷ w.past p else w.past p })
told_keeps maximum w tti told x r k puts_it a = record {
  maximum_is = puts_it.maximum_is ∙ k.maximum_is;
  length_is = puts_it.length_is ∙ k.length_is;
  awaits = λ p lt. elim (cases_eq p (tti % 8)) [
    | inl same_one ↦
        let test : (p == tti % 8) ≡ true = grind (arith, nat_tests) in
        rw test (subst (λ q. Awaits maximum (told ∷ w.past q) (one r q)) (sym same_one)
        (subst (λ y. Awaits maximum (told ∷ w.past (tti % 8)) y) (sym puts_it.at) a))
    | inr other ↦
        let test : (p == tti % 8) ≡ false = grind (arith, nat_tests) in
        rw test (subst (λ y. Awaits maximum (w.past p) y) (sym (puts_it.others p other)) (k.awaits p lt))
  ];
}

up_step : (maximum : ℕ) (w : UpWorld) (s : UpStep) → 1 ≤ maximum → UpKeeps maximum w → UpKeeps maximum (up_stepped w s)
unfolding grant_ndi
up_step maximum w Reset some k = subst (λ m. UpKeeps maximum (up_start m)) (sym k.maximum_is) (up_fresh maximum some)
up_step maximum w (Passed tti) some k =
    told_keeps maximum w tti Skipped (passed (one w.receiver (tti % 8))) (after_pass w.receiver tti) k
    (passed_puts w.receiver tti k.length_is)
    (skipped_awaits maximum (w.past (tti % 8)) (one w.receiver (tti % 8)) (k.awaits (tti % 8) (omega arith)))
up_step maximum w (Granted tti good) some k =
    told_keeps maximum w tti (Asked (grant_ndi w.receiver tti) good)
    (arrived good (awarded w.receiver.maximum (one w.receiver (tti % 8))))
    (after_granted (after_grant w.receiver tti) tti good) k
    (granted_puts w.receiver tti good k.length_is)
    (subst (λ (m : ℕ). Awaits maximum (Asked (awarded m (one w.receiver (tti % 8))).ndi good ∷ w.past (tti % 8))
    (arrived good (awarded m (one w.receiver (tti % 8))))) (sym k.maximum_is)
    (asked_awaits maximum (w.past (tti % 8)) (one w.receiver (tti % 8)) good (k.awaits (tti % 8) (omega arith))))

up_keeps : (maximum : ℕ) (w : UpWorld) (ss : List UpStep) → 1 ≤ maximum → UpKeeps maximum w
    → UpKeeps maximum (up_run ss w)
up_keeps maximum w [] some k = k
up_keeps maximum w (s ∷ ss) some k = up_keeps maximum (up_stepped w s) ss some (up_step maximum w s some k)

pub grants_right : (maximum : ℕ) (ss : List UpStep) → 1 ≤ maximum → GrantsRight (up_run ss (up_start maximum))
grants_right maximum ss some = λ p lt.
    let k = up_keeps maximum (up_start maximum) ss some (up_fresh maximum some) in
    subst (λ m. AreGrantedRight m ((up_run ss (up_start maximum)).past p)) (sym k.maximum_is) (k.awaits p lt).is_right

-- ---- blocks with numbers of their own

none_above : (number top : ℕ) (past : List Arrival) → Follows top past → top < number → came_intact number past ≡ false
none_above number top [] f lt = refl
none_above number top (a ∷ past) f lt =
    let ih = none_above number a.number past f.2 (omega (arith, f.0)) in
    let other : (a.number == number) ≡ false = grind (arith, nat_tests, f.0) in
    rw (other, ih) refl

same_self : (b : Bool) → same b b ≡ true
same_self true = refl
same_self false = refl

same_not : (b : Bool) → same (not b) b ≡ false
same_not true = refl
same_not false = refl

decoded_once : (number : ℕ) (past : List Arrival) → Follows number past
    → has_decoded (is_odd number) (heard_of past) ≡ came_intact number past
decoded_once number [] f = refl
decoded_once number (a ∷ past) f = elim (cases_eq a.number number) [
  | inl here ↦
      let test : (a.number == number) ≡ true = grind (arith, nat_tests) in
      let ih = decoded_once number past (subst (λ n. Follows n past) here f.2) in
      let ndi : same (is_odd number) (is_odd a.number) ≡ true =
      ap (λ (n : ℕ). same (is_odd number) (is_odd n)) here ∙ same_self (is_odd number) in
      rw (test, ndi, ih) refl
  | inr other ↦
      let next : suc a.number ≡ number = omega (arith, f.0, f.1) in
      let test : (a.number == number) ≡ false = grind (arith, nat_tests) in
      let none = none_above number a.number past f.2 (omega arith) in
      let ndi : same (is_odd number) (is_odd a.number) ≡ false =
      ap (λ (n : ℕ). same (is_odd n) (is_odd a.number)) (sym next) ∙ same_not (is_odd a.number) in
      rw (test, ndi, none) refl
]

pub answered_once : (number : ℕ) (good : Bool) (past : List Arrival) → Follows number past
    → right_answer (is_odd number) good (heard_of past) ≡ once_answer number good past
answered_once number good past f =
    ap (λ (d : Bool). if good then (if d then Again else Up) else Damaged) (decoded_once number past f)
