-- The rounds and the round keys, one at a time.
use Rattle.std.proofs.Common.{◌≡◌, ◌<◌, ◌≤◌, ℕ, suc, ◌+◌, ◌∙◌, List, [], length, slice_index_or, slice_set, refl, ap}
use Rattle.std.proofs.Common.{inl, inr, arith, add-one}
use Rattle.std.proofs.lemmas.List.{get_or-set_same, get_or-set_other}
use Rattle.std.proofs.lemmas.Bool.{cases_lt}
use Rattle.eps_sec.specs.Field.{times}
use Rattle.eps_sec.specs.Aes.{sub_bytes, shift_rows, mix_columns, add_round_key, next_key, round_key, power_of_x}
use Rattle.eps_sec.specs.Aes.{rounds, aes}
use Rattle.eps_sec.specs.Words.{state}

pub rounds_first : (key block s : List ℕ) → s ≡ block → add_round_key (round_key key 0) s ≡ rounds key block 0
unfolding rounds
rounds_first key block s e = ap (add_round_key (round_key key 0)) e

pub rounds_more : (key block k s t r : List ℕ) (n : ℕ) → k ≡ round_key key n → t ≡ add_round_key k s
    → add_round_key (round_key key n) s ≡ rounds key block n → r ≡ mix_columns (shift_rows (sub_bytes t))
    → add_round_key (round_key key (n + 1)) r ≡ rounds key block (n + 1)
unfolding rounds
rounds_more key block k s t r n e f g h = rw (add-one, h, f, e, g) refl

pub aes_last : (key block j k s t r u : List ℕ) → j ≡ round_key key 9 → k ≡ round_key key 10 → t ≡ add_round_key j s
    → add_round_key (round_key key 9) s ≡ rounds key block 9 → r ≡ shift_rows (sub_bytes t) → u ≡ add_round_key k r
    → u ≡ aes key block
unfolding aes
aes_last key block j k s t r u e f g h i l = rw (l, f, i, g, e, h) refl

pub power_more : (n a b : ℕ) → a ≡ power_of_x n → b ≡ times 2 a → b ≡ power_of_x (n + 1)
unfolding power_of_x
power_more n a b e f = rw add-one (f ∙ ap (times 2) e)

-- the round keys up to n, with the next one written
pub keys_more : (ks : List (List ℕ)) (key w : List ℕ) (n : ℕ) → n + 1 < length ks
    → ((k : ℕ) → k ≤ n → state (slice_index_or ks k []) ≡ round_key key k)
    → state w ≡ next_key n (state (slice_index_or ks n [])) → (k : ℕ) → k ≤ n + 1
    → state (slice_index_or (slice_set ks (n + 1) w) k []) ≡ round_key key k
unfolding round_key
keys_more ks key w n within old e k le =
    elim (cases_lt k (n + 1)) [
      | inl a ↦ ap state (get_or-set_other ks (n + 1) k w [] (omega arith)) ∙ old k (omega arith)
      | inr b ↦
          let same : k ≡ suc n = omega arith in
          let next : state w ≡ next_key n (round_key key n) = rw (old n (omega arith)) at e in
          rw (same, add-one) (ap state (get_or-set_same ks (suc n) w [] (omega arith)) ∙ next)
    ]
