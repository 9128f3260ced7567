-- The first of the places of line feeds is where the first line feed stands.
use Rattle.std.proofs.Common.{◌≡◌, ℕ, zero, suc, ◌+◌, ◌-◌, ◌<◌, ◌≤◌, Bool, List, [], ◌∷◌, length, slice_index}
use Rattle.std.proofs.Common.{sym, ◌∙◌, subst, cond, arith, ⊎_elim}
use Rattle.std.proofs.lemmas.Bool.{cases_Bool, cases_eq, false≢true}
use Rattle.memchr.specs.Find.{Passes, places_from, places, is_byte}
use Rattle.l2_io.specs.Feeds.{from_feed, IsFeedAt}
use Rattle.l2_io.proofs.Feeds.{from_feed_none, feed_first}

-- no octet of these places passes
abbrev NoPlace : (ℕ → Bool) → List ℕ → ℕ → ℕ → Type 0
NoPlace test hay i j = (k : ℕ) → i ≤ k → k < j → Passes test hay k → ⊥

record IsNext (test : ℕ → Bool) (hay : List ℕ) (i j at : ℕ) : Type 0 where
  inside : at < j
  before : NoPlace test hay i at
  here : Passes test hay at

module _ (test : ℕ → Bool) (hay : List ℕ) where
  none_more : (i j : ℕ) → (Passes test hay i → ⊥) → NoPlace test hay (i + 1) j → NoPlace test hay i j
  none_more i j miss none k low high p =
      ⊎_elim (λ (e : i ≡ k). miss (subst (Passes test hay) (sym e) p))
      (λ (other : i ≡ k → ⊥). none k (omega (arith, low, other)) high p) (cases_eq i k)

  none_from : (i n : ℕ) → places_from test hay i n ≡ [] → NoPlace test hay i (i + n)
  unfolding places_from
  none_from i zero e = λ k low high p. absurd (omega (arith, low, high))
  none_from i (suc n) e =
      let later = places_from test hay (i + 1) n in
      let was = λ (b : Bool). cond b (i ∷ later) later ≡ [] in
      ⊎_elim
      (λ yes. let bad : i ∷ later ≡ [] = subst was yes e in cc)
      (λ no. none_more i (i + suc n) (λ p. absurd (false≢true (sym no ∙ p)))
      (λ k low high. none_from (i + 1) n (subst was no e) k low (omega (arith, high))))
      (cases_Bool (test (slice_index hay i)))

  next_from : (i n at : ℕ) (rest : List ℕ) → places_from test hay i n ≡ at ∷ rest → IsNext test hay i (i + n) at
  unfolding places_from
  next_from i zero at rest e = absurd cc
  next_from i (suc n) at rest e =
      let later = places_from test hay (i + 1) n in
      let was = λ (b : Bool). cond b (i ∷ later) later ≡ at ∷ rest in
      ⊎_elim
      (λ yes.
      let same : i ∷ later ≡ at ∷ rest = subst was yes e in
      let at-is : i ≡ at = cc in
      record {
        inside = omega (arith, at-is);
        before = λ k low high p. absurd (omega (arith, low, high, at-is));
        here = subst (Passes test hay) at-is yes;
      })
      (λ no.
      let next = next_from (i + 1) n at rest (subst was no e) in
      record {
        inside = omega (arith, next.inside);
        before = none_more i at (λ p. absurd (false≢true (sym no ∙ p))) next.before;
        here = next.here;
      })
      (cases_Bool (test (slice_index hay i)))

pub no_feed : (xs : List ℕ) → places (is_byte 10) xs ≡ [] → from_feed xs ≡ []
no_feed xs e =
    from_feed_none xs (λ k low high p. none_from (is_byte 10) xs 0 (length xs - 0) e k low (omega (arith, high)) p)

pub first_feed : (xs : List ℕ) (at : ℕ) (rest : List ℕ) → places (is_byte 10) xs ≡ at ∷ rest → IsFeedAt xs at
first_feed xs at rest e =
    let next = next_from (is_byte 10) xs 0 (length xs - 0) at rest e in
    feed_first xs at (omega (arith, next.inside)) next.before next.here
