-- Channels by priority number and then LCID, each LCID's once: in whatever order they come.
use Rattle.std.proofs.Common.{◌≡◌, ◌≤◌, ℕ, suc, ◌+◌, ◌==◌, nat_lt, Bool, true, false, ◌||◌, if◌then◌else◌, List, []}
use Rattle.std.proofs.Common.{◌∷◌, refl, ap, sym, subst, ◌∙◌, arith}
use Rattle.std.specs.List.{AllByRecursion}
use Rattle.std.proofs.lemmas.Bool.Decides.{nat_tests}
use Rattle.l2_types.specs.declared.channel.Channel.{Channel}
use Rattle.prioritise.proofs.ChannelLemmas.{both_false}
use Rattle.prioritise.specs.Channels.{has, goes_before, place, put}
use Rattle.law_node.specs.Order.{AreOrdered, with_one, with_all}

module _ {X : Type 0} where
  all_as : (P Q : X → Type 0) (xs : List X) → ((x : X) → P x → Q x) → AllByRecursion P xs → AllByRecursion Q xs
  all_as P Q [] f a = tt
  all_as P Q (x ∷ xs) f a = (f x a.0, all_as P Q xs f a.1)

-- ---- which channel goes before another

abbrev pub Before : Channel → Channel → Type 0
Before c d = goes_before c d ≡ true

through : (c d x : Channel) → Before c d → Before d x → Before c x
through c d x p q = grind (arith, nat_tests)

either : (c d : Channel) → (c.lcid == d.lcid) ≡ false → goes_before d c ≡ false → Before c d
either c d apart e = grind (arith, nat_tests)

not_back : (c d : Channel) → Before d c → goes_before c d ≡ false
not_back c d e = grind (arith, nat_tests)

-- ---- a channel in its place

put_cons : (t : Bool) (c d : Channel) (ds : List Channel) → goes_before d c ≡ t
    → put c (d ∷ ds) ≡ (if t then d ∷ put c ds else c ∷ d ∷ ds)
put_cons true c d ds e = let next : place c ds + 1 ≡ suc (place c ds) = omega arith in rw (e, next) refl
put_cons false c d ds e = rw e refl

ordered_by : (p q : Bool) (c d x : Channel) (xs : List Channel) → Before d c → goes_before x d ≡ p
    → goes_before x c ≡ q → put c (put d xs) ≡ put d (put c xs) → put c (put d (x ∷ xs)) ≡ put d (put c (x ∷ xs))
ordered_by true q c d x xs before e f ih =
    let both : Before x c = through x d c e before in
    ap (put c) (put_cons true d x xs e) ∙ put_cons true c x (put d xs) both ∙ ap (λ (l : List Channel). x ∷ l) ih
    ∙ sym (put_cons true d x (put c xs) e) ∙ ap (put d) (sym (put_cons true c x xs both))
ordered_by false true c d x xs before e f ih =
    ap (put c) (put_cons false d x xs e) ∙ put_cons true c d (x ∷ xs) before
    ∙ ap (λ (l : List Channel). d ∷ l) (put_cons true c x xs f) ∙ sym (put_cons false d x (put c xs) e)
    ∙ ap (put d) (sym (put_cons true c x xs f))
ordered_by false false c d x xs before e f ih =
    ap (put c) (put_cons false d x xs e) ∙ put_cons true c d (x ∷ xs) before
    ∙ ap (λ (l : List Channel). d ∷ l) (put_cons false c x xs f)
    ∙ sym (put_cons false d c (x ∷ xs) (not_back c d before)) ∙ ap (put d) (sym (put_cons false c x xs f))

ordered : (c d : Channel) (xs : List Channel) → Before d c → put c (put d xs) ≡ put d (put c xs)
ordered c d [] before = put_cons true c d [] before ∙ sym (put_cons false d c [] (not_back c d before))
ordered c d (x ∷ xs) before =
    ordered_by (goes_before x d) (goes_before x c) c d x xs before refl refl (ordered c d xs before)

both_by : (t : Bool) (c d : Channel) (xs : List Channel) → (c.lcid == d.lcid) ≡ false → goes_before d c ≡ t
    → put c (put d xs) ≡ put d (put c xs)
both_by true c d xs apart e = ordered c d xs e
both_by false c d xs apart e = sym (ordered d c xs (either c d apart e))

either_first : (a b c : Bool) → (a || (b || c)) ≡ (b || (a || c))
either_first true true c = refl
either_first true false c = refl
either_first false b c = refl

has_cons : (t : Bool) (l : ℕ) (c d : Channel) (ds : List Channel) → goes_before d c ≡ t
    → has l (put c ds) ≡ ((l == c.lcid) || has l ds) → has l (put c (d ∷ ds)) ≡ ((l == c.lcid) || has l (d ∷ ds))
has_cons true l c d ds e ih =
    ap (has l) (put_cons true c d ds e) ∙ ap (λ (x : Bool). (l == d.lcid) || x) ih
    ∙ either_first (l == d.lcid) (l == c.lcid) (has l ds)
has_cons false l c d ds e ih = ap (has l) (put_cons false c d ds e)

has_put : (l : ℕ) (c : Channel) (cs : List Channel) → has l (put c cs) ≡ ((l == c.lcid) || has l cs)
has_put l c [] = refl
has_put l c (d ∷ ds) = has_cons (goes_before d c) l c d ds refl (has_put l c ds)

has_apart : (l : ℕ) (c : Channel) (cs : List Channel) → (l == c.lcid) ≡ false → has l (put c cs) ≡ has l cs
has_apart l c cs e = has_put l c cs ∙ ap (λ (x : Bool). x || has l cs) e

-- ---- a channel where its LCID has none

is_there : (c : Channel) (cs : List Channel) → has c.lcid cs ≡ true → with_one c cs ≡ cs
is_there c cs e = rw e refl

is_new : (c : Channel) (cs : List Channel) → has c.lcid cs ≡ false → with_one c cs ≡ put c cs
is_new c cs e = rw e refl

one_there : (c d : Channel) (cs : List Channel) → (c.lcid == d.lcid) ≡ false → has c.lcid cs ≡ true
    → has d.lcid cs ≡ false → with_one c (with_one d cs) ≡ with_one d (with_one c cs)
one_there c d cs apart e f =
    ap (with_one c) (is_new d cs f) ∙ is_there c (put d cs) (has_apart c.lcid d cs apart ∙ e) ∙ sym (is_new d cs f)
    ∙ ap (with_one d) (sym (is_there c cs e))

one_by : (p q : Bool) (c d : Channel) (cs : List Channel) → (c.lcid == d.lcid) ≡ false
    → (d.lcid == c.lcid) ≡ false → has c.lcid cs ≡ p → has d.lcid cs ≡ q
    → with_one c (with_one d cs) ≡ with_one d (with_one c cs)
one_by true true c d cs apart back e f =
    ap (with_one c) (is_there d cs f) ∙ is_there c cs e ∙ sym (is_there d cs f)
    ∙ ap (with_one d) (sym (is_there c cs e))
one_by true false c d cs apart back e f = one_there c d cs apart e f
one_by false true c d cs apart back e f = sym (one_there d c cs back f e)
one_by false false c d cs apart back e f =
    ap (with_one c) (is_new d cs f) ∙ is_new c (put d cs) (has_apart c.lcid d cs apart ∙ e)
    ∙ both_by (goes_before d c) c d cs apart refl ∙ sym (is_new d (put c cs) (has_apart d.lcid c cs back ∙ f))
    ∙ ap (with_one d) (sym (is_new c cs e))

flips : (x y : ℕ) → (x == y) ≡ false → (y == x) ≡ false
flips x y e = grind (arith, nat_tests)

all_past : (d : Channel) (ds cs : List Channel) → has d.lcid ds ≡ false
    → with_all ds (with_one d cs) ≡ with_one d (with_all ds cs)
all_past d [] cs h = refl
all_past d (c ∷ ds) cs h =
    let b = both_false (d.lcid == c.lcid) (has d.lcid ds) h in
    ap (with_all ds) (one_by (has c.lcid cs) (has d.lcid cs) c d cs (flips d.lcid c.lcid b.0) b.0 refl refl)
    ∙ all_past d ds (with_one c cs) b.1

-- ---- channels by LCID

abbrev pub Upward : Channel → Channel → Type 0
Upward c d = c.lcid ≤ d.lcid

-- one more, in its place
abbrev pub put_by_lcid : Channel → List Channel → List Channel
put_by_lcid d [] = d ∷ []
put_by_lcid d (c ∷ cs) = if nat_lt c.lcid d.lcid then c ∷ put_by_lcid d cs else d ∷ c ∷ cs

with_by : (t : Bool) (d c : Channel) (ds cs : List Channel) → nat_lt c.lcid d.lcid ≡ t → has d.lcid (c ∷ ds) ≡ false
    → with_all (put_by_lcid d ds) (with_one c cs) ≡ with_one d (with_all ds (with_one c cs))
    → with_all (put_by_lcid d (c ∷ ds)) cs ≡ with_one d (with_all (c ∷ ds) cs)
with_by true d c ds cs e h ih = rw e ih
with_by false d c ds cs e h ih = rw e (all_past d (c ∷ ds) cs h)

-- it makes no difference when a channel comes
pub all_with : (d : Channel) (ds cs : List Channel) → has d.lcid ds ≡ false
    → with_all (put_by_lcid d ds) cs ≡ with_one d (with_all ds cs)
all_with d [] cs h = refl
all_with d (c ∷ ds) cs h =
    let b = both_false (d.lcid == c.lcid) (has d.lcid ds) h in
    with_by (nat_lt c.lcid d.lcid) d c ds cs refl h (all_with d ds (with_one c cs) b.1)

all_put_by : (t : Bool) (P : Channel → Type 0) (d c : Channel) (ds : List Channel) → nat_lt c.lcid d.lcid ≡ t
    → P d → P c → AllByRecursion P ds → AllByRecursion P (put_by_lcid d ds)
    → AllByRecursion P (put_by_lcid d (c ∷ ds))
all_put_by true P d c ds e own first rest ih = rw e (first, ih)
all_put_by false P d c ds e own first rest ih = rw e (own, (first, rest))

pub all_put : (P : Channel → Type 0) (d : Channel) (ds : List Channel) → P d → AllByRecursion P ds
    → AllByRecursion P (put_by_lcid d ds)
all_put P d [] own a = (own, tt)
all_put P d (c ∷ ds) own a =
    all_put_by (nat_lt c.lcid d.lcid) P d c ds refl own a.0 a.1 (all_put P d ds own a.1)

upward_by : (t : Bool) (d c : Channel) (ds : List Channel) → nat_lt c.lcid d.lcid ≡ t
    → AreOrdered Upward (c ∷ ds) → AreOrdered Upward (put_by_lcid d ds)
    → AreOrdered Upward (put_by_lcid d (c ∷ ds))
upward_by true d c ds e s ih =
    let here : Upward c d = grind (arith, nat_tests) in
    rw e (all_put (Upward c) d ds here s.0, ih)
upward_by false d c ds e s ih =
    let here : Upward d c = grind (arith, nat_tests) in
    rw e ((here, all_as (Upward c) (Upward d) ds (λ x p. omega (arith, here, p)) s.0), s)

pub upward_with : (d : Channel) (ds : List Channel) → AreOrdered Upward ds → AreOrdered Upward (put_by_lcid d ds)
upward_with d [] s = (tt, tt)
upward_with d (c ∷ ds) s = upward_by (nat_lt c.lcid d.lcid) d c ds refl s (upward_with d ds s.1)

-- ---- channels by priority number

all_before : (P : Channel → Type 0) (c : Channel) (cs : List Channel) → AllByRecursion P cs → P c
    → AllByRecursion P (put c cs)
all_before P c [] a p = (p, tt)
all_before P c (d ∷ ds) a p = before_by (goes_before d c) P c d ds refl a p (all_before P c ds a.1 p)
  where
    before_by : (t : Bool) (P : Channel → Type 0) (c d : Channel) (ds : List Channel) → goes_before d c ≡ t
        → AllByRecursion P (d ∷ ds) → P c → AllByRecursion P (put c ds) → AllByRecursion P (put c (d ∷ ds))
    before_by true P c d ds e a p ih = subst (AllByRecursion P) (sym (put_cons true c d ds e)) (a.0, ih)
    before_by false P c d ds e a p ih = subst (AllByRecursion P) (sym (put_cons false c d ds e)) (p, a)

put_first : (t : Bool) (c d : Channel) (ds : List Channel) → goes_before d c ≡ t → (c.lcid == d.lcid) ≡ false
    → AreOrdered Before (d ∷ ds) → AreOrdered Before (put c ds) → AreOrdered Before (put c (d ∷ ds))
put_first true c d ds e apart s more =
    subst (AreOrdered Before) (sym (put_cons true c d ds e)) (all_before (Before d) c ds s.0 e, more)
put_first false c d ds e apart s more =
    let here = either c d apart e in
    subst (AreOrdered Before) (sym (put_cons false c d ds e))
    ((here, all_as (Before d) (Before c) ds (λ x p. through c d x here p) s.0), s)

put_in : (c : Channel) (cs : List Channel) → has c.lcid cs ≡ false → AreOrdered Before cs
    → AreOrdered Before (put c cs)
put_in c [] h s = (tt, tt)
put_in c (d ∷ ds) h s =
    let b = both_false (c.lcid == d.lcid) (has c.lcid ds) h in
    put_first (goes_before d c) c d ds refl b.0 s (put_in c ds b.1 s.1)

with_in : (c : Channel) (cs : List Channel) (t : Bool) → has c.lcid cs ≡ t → AreOrdered Before cs
    → AreOrdered Before (with_one c cs)
with_in c cs true e s = rw e s
with_in c cs false e s = rw e (put_in c cs e s)

pub one_in : (c : Channel) (cs : List Channel) → AreOrdered Before cs → AreOrdered Before (with_one c cs)
one_in c cs s = with_in c cs (has c.lcid cs) refl s

pub all_in : (ds cs : List Channel) → AreOrdered Before cs → AreOrdered Before (with_all ds cs)
all_in [] cs s = s
all_in (d ∷ ds) cs s = all_in ds (with_one d cs) (one_in d cs s)
