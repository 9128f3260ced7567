-- Going through the subheaders of a block.
use Rattle.std.proofs.Common.{◌≡◌, ℕ, zero, suc, ◌+◌, ◌-◌, ◌*◌, ◌<◌, ◌≤◌, true, false, cond, ltb, List, [], ◌∷◌, length}
use Rattle.std.proofs.Common.{drop, Option, Some, None, refl, sym, ◌∙◌, arith, subst}
use Rattle.mac_pdu.specs.declared.item.Direction.{Direction}
use Rattle.mac_pdu.specs.declared.subheader.Subheader.{Subheader}
use Rattle.mac_pdu.specs.Subheaders.{subheader_at, with_length, short, is_sdu}
use Rattle.mac_pdu.specs.Refusals.{subheaders}

some_is : {A : Type 0} (x y : A) → Some x ≡ Some y → x ≡ y
some_is x y e = cc

-- what is known of a subheader that was read
pub record IsWhole (s : Subheader) (octets : List ℕ) : Type 0 where
  pub some : 0 < s.size
  pub within : s.size ≤ length octets

abbrev WholeIf : Option Subheader → List ℕ → Type 0
WholeIf None octets = Unit {0}
WholeIf (Some s) octets = IsWhole s octets

with_length_whole : (s : Subheader) (o : ℕ) (os : List ℕ) → WholeIf (with_length s os) (o ∷ os)
with_length_whole s o [] = tt
with_length_whole s o (f ∷ []) =
    elim (ltb f 128) as (λ b. WholeIf (cond b (Some (record s { length = Some f; size = 2 })) None) (o ∷ f ∷ []))
    [ true ↦ record { some = omega arith; within = omega arith } | false ↦ tt ]
with_length_whole s o (f ∷ l ∷ os) =
    elim (ltb f 128) as
    (λ b. WholeIf (cond b (Some (record s { length = Some f; size = 2 }))
    (Some (record s { length = Some ((f - 128) * 256 + l); size = 3 }))) (o ∷ f ∷ l ∷ os)) [
      | true ↦ record { some = omega arith; within = omega arith }
      | false ↦ record {
        some = omega arith;
        within = omega arith;
      }
    ]

whole_at : (d : Direction) (octets : List ℕ) → WholeIf (subheader_at d octets) octets
unfolding subheader_at
whole_at d [] = tt
whole_at d (o ∷ os) =
    let s = short d o in
    let one : IsWhole s (o ∷ os) = record { some = omega arith; within = omega arith } in
    elim (is_sdu s.kind) as (λ b. WholeIf (cond b (cond s.more (with_length s os) (Some s)) (Some s)) (o ∷ os)) [
      | true ↦ elim s.more as (λ b. WholeIf (cond b (with_length s os) (Some s)) (o ∷ os))
          [ true ↦ with_length_whole s o os | false ↦ one ]
      | false ↦ one
    ]

pub whole : (d : Direction) (octets : List ℕ) (s : Subheader) → subheader_at d octets ≡ Some s → IsWhole s octets
whole d octets s e = subst (λ (r : Option Subheader). WholeIf r octets) e (whole_at d octets)

heads_skip : (d : Direction) (k : ℕ) (octets : List ℕ) → subheaders d k octets ≡ subheaders d 0 (drop k octets)
unfolding subheaders
heads_skip d zero octets = refl
heads_skip d (suc k) [] = refl
heads_skip d (suc k) (o ∷ os) = heads_skip d k os

after_head : (d : Direction) (o : ℕ) (os : List ℕ) (n : ℕ) → 0 < n
    → subheaders d 0 (drop n (o ∷ os)) ≡ subheaders d (n - 1) os
after_head d o os zero h = absurd (omega arith)
after_head d o os (suc n) h = let e : suc n - 1 ≡ n = omega arith in rw e (sym (heads_skip d n os))

pub heads_next : (d : Direction) (octets : List ℕ) (s : Subheader) → subheader_at d octets ≡ Some s
    → subheaders d 0 octets ≡ s ∷ cond s.more (subheaders d 0 (drop s.size octets)) []
unfolding subheaders
heads_next d [] s e = let w = whole d [] s e in absurd (omega arith)
heads_next d (o ∷ os) s e =
    let w = whole d (o ∷ os) s e in
    rw (e, after_head d o os s.size w.some) refl

pub heads_end : (d : Direction) (octets : List ℕ) → subheader_at d octets ≡ None → subheaders d 0 octets ≡ []
unfolding subheaders
heads_end d [] e = refl
heads_end d (o ∷ os) e = rw e refl

pub walk_on : (d : Direction) (rest : List ℕ) (s : Subheader) → subheader_at d rest ≡ Some s → s.more ≡ true
    → subheaders d 0 rest ≡ s ∷ subheaders d 0 (drop s.size rest)
walk_on d rest s e more = heads_next d rest s e ∙ rw more refl

pub walk_last : (d : Direction) (rest : List ℕ) (s : Subheader) → subheader_at d rest ≡ Some s → s.more ≡ false
    → subheaders d 0 rest ≡ s ∷ []
walk_last d rest s e more = heads_next d rest s e ∙ rw more refl
