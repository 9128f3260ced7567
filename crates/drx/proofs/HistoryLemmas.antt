-- In which TTIs a terminal listens, after any list of calls.
use Rattle.std.proofs.Common.{◌≡◌, ◌<◌, ◌≤◌, ℕ, zero, suc, ◌+◌, ◌-◌, ◌%◌, ◌==◌, Bool, true, false, ◌||◌, if◌then◌else◌}
use Rattle.std.proofs.Common.{Option, Some, None, List, [], ◌∷◌, length, get_or, set, replicate, get_or-set_same}
use Rattle.std.proofs.Common.{get_or-set_other, refl, sym, subst, ◌∙◌, arith, inl, inr}
use Rattle.std.specs.List.{list_any}
use Rattle.std.proofs.lemmas.List.Folds.{list_any_at}
use Rattle.std.proofs.lemmas.Bool.{cases_eq, or_cases, or_left, or_right, ltb-true, lt-ltb}
use Rattle.std.proofs.lemmas.Bool.Decides.{nat_tests}
use Rattle.std.proofs.Math.ListN.{length-set}
use Rattle.l2_types.specs.declared.config.DrxConfig.{DrxConfig}
use Rattle.drx.specs.Within.{is_within}
use Rattle.drx.specs.Drx.{fresh, is_on, is_active, after_new, after_damaged, after_decoded, after_reset}
use Rattle.drx.specs.DrxHistory.{Sight, New, Bad, Good, Call, Seen, Reset, World, called, world_after, start, LiesBelow}
use Rattle.drx.specs.DrxHistory.{SawNew}
use Rattle.drx.specs.DrxHistory.{last_damaged, IsOnDuration, IsBusy, AwaitsRepeat, Listens, ListensRight}

-- ---- what was seen

-- the TTI of the last new block
abbrev latest_new : List Sight → Option ℕ
latest_new [] = None
latest_new (New tti ∷ past) = Some tti
latest_new (Bad tti ∷ past) = latest_new past
latest_new (Good tti ∷ past) = latest_new past

saw_below : (past : List Sight) (tti at : ℕ) → LiesBelow past tti → SawNew at past → at < tti
saw_below [] tti at b s = absurd s
saw_below (New x ∷ past) tti at b (inl e) = omega (arith, b.0)
saw_below (New x ∷ past) tti at b (inr s) = omega (arith, b.0, saw_below past (x + 1) at b.1 s)
saw_below (Bad x ∷ past) tti at b s = omega (arith, b.0, saw_below past (x + 1) at b.1 s)
saw_below (Good x ∷ past) tti at b s = omega (arith, b.0, saw_below past (x + 1) at b.1 s)

latest_saw : (past : List Sight) (at : ℕ) → latest_new past ≡ Some at → SawNew at past
latest_saw [] at e = absurd cc
latest_saw (New x ∷ past) at e = let same : x ≡ at = cc in inl same
latest_saw (Bad x ∷ past) at e = latest_saw past at e
latest_saw (Good x ∷ past) at e = latest_saw past at e

-- a new block that was seen isn't later than the last one
saw_latest : (past : List Sight) (tti at : ℕ) → LiesBelow past tti → SawNew at past
    → (last : ℕ) × (latest_new past ≡ Some last) × (at ≤ last) × (last < tti)
saw_latest [] tti at b s = absurd s
saw_latest (New x ∷ past) tti at b (inl e) = (x, refl, omega arith, b.0)
saw_latest (New x ∷ past) tti at b (inr s) = (x, refl, omega (arith, saw_below past (x + 1) at b.1 s), b.0)
saw_latest (Bad x ∷ past) tti at b s = let l = saw_latest past (x + 1) at b.1 s in
    (l.0, l.1, l.2, omega (arith, l.3, b.0))
saw_latest (Good x ∷ past) tti at b s = let l = saw_latest past (x + 1) at b.1 s in
    (l.0, l.1, l.2, omega (arith, l.3, b.0))

-- ---- why the terminal listens

busy_seen : (config : DrxConfig) (past : List Sight) (tti : ℕ) (o : Option ℕ) → latest_new past ≡ o
    → is_within 1 config.inactivity tti o ≡ true → IsBusy config past tti
busy_seen config past tti None e w = absurd cc
busy_seen config past tti (Some at) e w = (at, latest_saw past at e, grind (arith, nat_tests), grind (arith, nat_tests))

seen_busy : (config : DrxConfig) (past : List Sight) (tti : ℕ) → LiesBelow past tti → IsBusy config past tti
    → is_within 1 config.inactivity tti (latest_new past) ≡ true
seen_busy config past tti b s =
    let l = saw_latest past tti s.0 b s.1 in
    let late = s.3 in
    let after = l.2 in
    let before = l.3 in
    rw l.1 (grind (arith, nat_tests))

any_at : (test : Option ℕ → Bool) (xs : List (Option ℕ)) → list_any test xs ≡ true
    → (k : ℕ) × (k < length xs) × (test (get_or xs k None) ≡ true)
any_at test [] e = absurd cc
any_at test (x ∷ xs) e = elim (or_cases (test x) (list_any test xs) e) [
  | inl here ↦ (0, omega arith, here)
  | inr there ↦ let l = any_at test xs there in (suc l.0, omega (arith, l.1), l.2)
]

repeat_at : (config : DrxConfig) (past : List Sight) (tti p : ℕ) (o : Option ℕ) → p < 8 → last_damaged p past ≡ o
    → is_within 8 (7 + config.retransmit) tti o ≡ true → AwaitsRepeat config past tti
repeat_at config past tti p None lt e w = absurd cc
repeat_at config past tti p (Some at) lt e w = (p, at, lt, e, grind (arith, nat_tests), grind (arith, nat_tests))

-- ---- over any list of calls

record Keeps (config : DrxConfig) (w : World) : Type 0 where
  config_is : w.state.config ≡ config
  length_is : length w.state.damaged ≡ 8
  new_is : w.state.last_new ≡ latest_new w.past
  damaged_is : (p : ℕ) → p < 8 → get_or w.state.damaged p None ≡ last_damaged p w.past

abbrev nothing : Option ℕ
nothing = None

none_at : (n p : ℕ) → get_or (replicate n nothing) p nothing ≡ nothing
none_at zero p = refl
none_at (suc n) zero = refl
none_at (suc n) (suc p) = none_at n p

fresh_keeps : (config : DrxConfig) → Keeps config (start config)
unfolding fresh
fresh_keeps config = record { config_is = refl; length_is = refl; new_is = refl; damaged_is = λ p lt. none_at 8 p }

put_at : (xs : List (Option ℕ)) (at p : ℕ) (x : Option ℕ) (old : Option ℕ) → length xs ≡ 8 → at < 8
    → get_or xs p None ≡ old → get_or (set xs at x) p None ≡ (if p == at then x else old)
put_at xs at p x old l lt e = elim (cases_eq p at) [
  | inl same ↦
      let test : (p == at) ≡ true = grind (arith, nat_tests) in
      rw test (subst (λ q. get_or (set xs at x) q None ≡ x) (sym same) (get_or-set_same xs at x None (omega arith)))
  | inr other ↦
      let test : (p == at) ≡ false = grind (arith, nat_tests) in
      rw test (get_or-set_other xs at p x None other ∙ e)
]

sight_keeps : (config : DrxConfig) (w : World) (s : Sight) → Keeps config w → Keeps config (called w (Seen s))
unfolding after_new after_damaged after_decoded
sight_keeps config w (New tti) k =
    record { config_is = k.config_is; length_is = k.length_is; new_is = refl; damaged_is = k.damaged_is }
sight_keeps config w (Bad tti) k = record {
  config_is = k.config_is;
  length_is = length-set w.state.damaged (tti % 8) (Some tti) ∙ k.length_is;
  new_is = k.new_is;
  damaged_is = λ p lt. put_at w.state.damaged (tti % 8) p (Some tti) (last_damaged p w.past) k.length_is (omega arith)
      (k.damaged_is p lt);
}
sight_keeps config w (Good tti) k = record {
  config_is = k.config_is;
  length_is = length-set w.state.damaged (tti % 8) None ∙ k.length_is;
  new_is = k.new_is;
  damaged_is = λ p lt. put_at w.state.damaged (tti % 8) p None (last_damaged p w.past) k.length_is (omega arith)
      (k.damaged_is p lt);
}

call_keeps : (config : DrxConfig) (w : World) (c : Call) → Keeps config w → Keeps config (called w c)
unfolding after_reset
call_keeps config w (Seen s) k = sight_keeps config w s k
call_keeps config w Reset k = subst (λ x. Keeps config (start x)) (sym k.config_is) (fresh_keeps config)

run_keeps : (config : DrxConfig) (w : World) (cs : List Call) → Keeps config w → Keeps config (world_after cs w)
run_keeps config w [] k = k
run_keeps config w (c ∷ cs) k = run_keeps config (called w c) cs (call_keeps config w c k)

-- ---- what was seen against what is kept

repeat_kept : (config : DrxConfig) (w : World) (tti p : ℕ) → Keeps config w → p < 8
    → is_within 8 (7 + w.state.config.retransmit) tti (get_or w.state.damaged p None) ≡ true
    → AwaitsRepeat config w.past tti
repeat_kept config w tti p k lt e =
    repeat_at config w.past tti p (last_damaged p w.past) lt refl (rw (k.config_is, k.damaged_is p lt) at e)

listens : (config : DrxConfig) (w : World) (tti : ℕ) (held : Bool) → Keeps config w
    → is_active w.state tti held ≡ true → Listens config w.past tti held
unfolding is_active
listens config w tti held k e =
    elim (or_cases ((held || is_on w.state.config tti) || is_within 1 w.state.config.inactivity tti w.state.last_new)
    (list_any (is_within 8 (7 + w.state.config.retransmit) tti) w.state.damaged) e) [
      | inl first ↦ elim
          (or_cases (held || is_on w.state.config tti) (is_within 1 w.state.config.inactivity tti w.state.last_new)
          first) [
            | inl early ↦ elim (or_cases held (is_on w.state.config tti) early) [
              | inl holds ↦ inl holds
              | inr on ↦ inr
                  (inl (subst (λ c. IsOnDuration c tti) k.config_is
                  (ltb-true ((tti + w.state.config.cycle - w.state.config.offset) % w.state.config.cycle)
                  w.state.config.on on)))
            ]
            | inr busy ↦ inr
                (inr (inl (busy_seen config w.past tti (latest_new w.past) refl (rw (k.config_is, k.new_is) at busy))))
          ]
      | inr again ↦
          let l = any_at (is_within 8 (7 + w.state.config.retransmit) tti) w.state.damaged again in
          inr (inr (inr (repeat_kept config w tti l.0 k (omega (arith, l.1, k.length_is)) l.2)))
    ]

has_reason : (config : DrxConfig) (w : World) (tti : ℕ) (held : Bool) → Keeps config w → LiesBelow w.past tti
    → Listens config w.past tti held → is_active w.state tti held ≡ true
unfolding is_active
has_reason config w tti held k b (inl holds) =
    or_left ((held || is_on w.state.config tti) || is_within 1 w.state.config.inactivity tti w.state.last_new)
    (list_any (is_within 8 (7 + w.state.config.retransmit) tti) w.state.damaged)
    (or_left (held || is_on w.state.config tti) (is_within 1 w.state.config.inactivity tti w.state.last_new)
    (or_left held (is_on w.state.config tti) holds))
has_reason config w tti held k b (inr (inl on)) =
    or_left ((held || is_on w.state.config tti) || is_within 1 w.state.config.inactivity tti w.state.last_new)
    (list_any (is_within 8 (7 + w.state.config.retransmit) tti) w.state.damaged)
    (or_left (held || is_on w.state.config tti) (is_within 1 w.state.config.inactivity tti w.state.last_new)
    (or_right held (is_on w.state.config tti)
    (subst (λ c. is_on c tti ≡ true) (sym k.config_is)
    (lt-ltb ((tti + config.cycle - config.offset) % config.cycle) config.on on))))
has_reason config w tti held k b (inr (inr (inl busy))) =
    or_left ((held || is_on w.state.config tti) || is_within 1 w.state.config.inactivity tti w.state.last_new)
    (list_any (is_within 8 (7 + w.state.config.retransmit) tti) w.state.damaged)
    (or_right (held || is_on w.state.config tti) (is_within 1 w.state.config.inactivity tti w.state.last_new)
    (rw (k.config_is, k.new_is) (seen_busy config w.past tti b busy)))
has_reason config w tti held k b (inr (inr (inr again))) =
    or_right ((held || is_on w.state.config tti) || is_within 1 w.state.config.inactivity tti w.state.last_new)
    (list_any (is_within 8 (7 + w.state.config.retransmit) tti) w.state.damaged)
    (list_any_at (is_within 8 (7 + w.state.config.retransmit) tti) w.state.damaged again.0 None
    (omega (arith, again.2, k.length_is))
    (there again.0 again.1 again.2 again.3 again.4 again.5))
  where
    there : (p at : ℕ) → p < 8 → last_damaged p w.past ≡ Some at → at + 8 ≤ tti → tti ≤ at + 7 + config.retransmit
        → is_within 8 (7 + w.state.config.retransmit) tti (get_or w.state.damaged p None) ≡ true
    there p at lt e low high = rw (k.config_is, k.damaged_is p lt, e) (grind (arith, nat_tests))

pub listens_right : (config : DrxConfig) (cs : List Call) → ListensRight config (world_after cs (start config))
listens_right config cs = λ tti held b.
    let k = run_keeps config (start config) cs (fresh_keeps config) in (
      λ e. listens config (world_after cs (start config)) tti held k e,
      λ l. has_reason config (world_after cs (start config)) tti held k b l,
    )
