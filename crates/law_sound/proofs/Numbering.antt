-- Numbers are known by their SNs where they lie near the next one.
use Rattle.std.proofs.Common.{Bool, true}
use Rattle.std.proofs.Common.{◌≡◌, ◌<◌, ◌≤◌, ℕ, ◌+◌, ◌%◌, ◌==◌, false, List, [], ◌∷◌, ◌++◌, refl}
use Rattle.std.proofs.Common.{arith, ap, ◌∙◌, if◌then◌else◌}
use Rattle.std.proofs.lemmas.Bool.{ne_eqb}
use Rattle.rlc_pdu.specs.declared.constants.TheConstants.{AM_MODULUS}
use Rattle.law_words.specs.Passing.{last_with}
use Rattle.l2_types.specs.declared.event.How.{How}
use Rattle.l2_types.specs.declared.event.How.TheVariants as hows
use Rattle.bearer_types.specs.declared.event.Event.TheVariants.{Send}
use Rattle.promises.specs.Names.{SentPdu}
use Rattle.promises.specs.SentNumbers.{IsWritten, next_by, next_behind, AreNumbers}
use Rattle.law_sound.proofs.SinglePdus.{new_in}

pub own_last : (n count : ℕ) → n < count → count ≤ n + AM_MODULUS → last_with (n % AM_MODULUS) count ≡ n
own_last n count below near = omega arith

pub written_last : (next sn : ℕ) → (w : IsWritten next sn) → last_with sn next ≡ w.number
written_last next sn w =
    let below = w.below in
    let near = w.near in
    ap (λ (m : ℕ). last_with m next) w.sn_is ∙ own_last w.number next w.below (omega (arith, near))

pub is_no_next : (next sn : ℕ) → IsWritten next sn → (sn == next % AM_MODULUS) ≡ false
is_no_next next sn w =
    let below = w.below in
    let near = w.near in
    let is = w.sn_is in
    ne_eqb sn (next % AM_MODULUS) (λ (same : sn ≡ next % AM_MODULUS). omega (arith, below, near, is, same))

-- ---- PDUs that are sent

abbrev pub behind_all : ℕ → List SentPdu → ℕ → ℕ
behind_all l [] next = next
behind_all l (s ∷ sent) next = behind_all l sent (next_behind l s next)

pub behind_both : (l : ℕ) (xs ys : List SentPdu) (next : ℕ)
    → behind_all l (xs ++ ys) next ≡ behind_all l ys (behind_all l xs next)
behind_both l [] ys next = refl
behind_both l (s ∷ xs) ys next = behind_both l xs ys (next_behind l s next)

pub numbers_first : (l next : ℕ) (xs ys : List SentPdu) → AreNumbers l next (xs ++ ys) → AreNumbers l next xs
numbers_first l next [] ys h = tt
numbers_first l next (s ∷ xs) ys h = (h.0, numbers_first l (next_behind l s next) xs ys h.1)

pub numbers_rest : (l next : ℕ) (xs ys : List SentPdu) → AreNumbers l next (xs ++ ys)
    → AreNumbers l (behind_all l xs next) ys
numbers_rest l next [] ys h = h
numbers_rest l next (s ∷ xs) ys h = numbers_rest l (next_behind l s next) xs ys h.1

-- ---- how many of them are new

abbrev pub new_one : ℕ → SentPdu → ℕ
new_one l s = new_in l (Send s.lcid s.how s.sn)

abbrev pub news : ℕ → List SentPdu → ℕ
news l [] = 0
news l (s ∷ sent) = new_one l s + news l sent

pub news_push : (l : ℕ) (xs : List SentPdu) (s : SentPdu) → news l (xs ++ s ∷ []) ≡ news l xs + new_one l s
news_push l [] s = omega arith
news_push l (x ∷ xs) s = let ih = news_push l xs s in omega (arith, ih)

one_behind : (l lcid next sn : ℕ) (how : How)
    → (if lcid == l then next_by how next else next) ≡ next + new_in l (Send lcid how sn)
one_behind l lcid next sn hows.New = by (lcid == l)
  where
    by : (b : Bool) → (if b then next + 1 else next) ≡ next + (if b then 1 else 0)
    by true = refl
    by false = omega arith
one_behind l lcid next sn hows.Re = none (lcid == l) next
  where
    none : (b : Bool) (next : ℕ) → (if b then next else next) ≡ next + 0
    none true next = omega arith
    none false next = omega arith
one_behind l lcid next sn hows.Status = none (lcid == l) next
  where
    none : (b : Bool) (next : ℕ) → (if b then next else next) ≡ next + 0
    none true next = omega arith
    none false next = omega arith
one_behind l lcid next sn hows.Tm = none (lcid == l) next
  where
    none : (b : Bool) (next : ℕ) → (if b then next else next) ≡ next + 0
    none true next = omega arith
    none false next = omega arith

pub behind_is : (l : ℕ) (sent : List SentPdu) (next : ℕ) → behind_all l sent next ≡ next + news l sent
behind_is l [] next = omega arith
behind_is l (s ∷ sent) next =
    let one = one_behind l s.lcid next s.sn s.how in
    let rest = behind_is l sent (next_behind l s next) in
    omega (arith, one, rest)
