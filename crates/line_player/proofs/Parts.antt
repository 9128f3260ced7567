-- A journal by what is cut from its octets.
use Rattle.std.proofs.Common.{◌≡◌, ◌<◌, ◌≤◌, ◌+◌, ◌==◌, ◌∙◌, nat_lt, Bool, true, false, ℕ, List, [], ◌∷◌, ◌++◌, length}
use Rattle.std.proofs.Common.{refl, ap, arith, inl, inr}
use Rattle.l2_io.proofs.Feeds.{until_feed_whole}
use Rattle.l2_io.specs.Feeds.{until_feed, from_feed, without_return}
use Rattle.line_player.specs.declared.reason.Reason.TheVariants as reasons
use Rattle.air_text.specs.declared.fault.LineRefusal.TheVariants.{Long}
use Rattle.line_player.specs.Lines.{lines_ended, tail_of}
use Rattle.line_player.specs.Journal.{Player, Played, on_line, on_last, close_by, play, journal_from, finished, refused}
use Rattle.line_player.specs.Journal.{waiting, follow}
use Rattle.line_player.proofs.Cutting.{from-append, until-append, lines-line, tail-line, lines-none, tail-none}
use Rattle.line_player.proofs.Cutting.{feed-cases}

-- a whole line first
pub journal-line : {S E R : Type 0} (m : Player S E R) (whole : Bool) (s : S) (number : ℕ) (xs ys : List ℕ)
    → from_feed xs ≡ 10 ∷ ys
    → journal_from m whole s number xs
    ≡ on_line m s number (until_feed xs) (λ t. journal_from m whole t (number + 1) ys)
unfolding journal_from play
journal-line m whole s number xs ys e =
    ap (λ (lines : List (List ℕ)). play m (close_by m whole (tail_of xs)) s number lines) (lines-line xs ys e)
    ∙ ap (λ (tail : List ℕ). play m (close_by m whole tail) s number (until_feed xs ∷ lines_ended ys))
    (tail-line xs ys e)

-- the same, whatever follows
pub journal-line-more : {S E R : Type 0} (m : Player S E R) (whole : Bool) (s : S) (number : ℕ) (xs ys more : List ℕ)
    → from_feed xs ≡ 10 ∷ ys
    → journal_from m whole s number (xs ++ more)
    ≡ on_line m s number (until_feed xs) (λ t. journal_from m whole t (number + 1) (ys ++ more))
journal-line-more m whole s number xs ys more e =
    journal-line m whole s number (xs ++ more) (ys ++ more) (from-append xs ys more e)
    ∙ ap (λ raw. on_line m s number raw (λ t. journal_from m whole t (number + 1) (ys ++ more)))
    (until-append xs ys more e)

-- no whole line
pub journal-part : {S E R : Type 0} (m : Player S E R) (whole : Bool) (s : S) (number : ℕ) (xs : List ℕ) → from_feed xs
    ≡ []
    → journal_from m whole s number xs ≡ close_by m whole xs s number
unfolding journal_from play
journal-part m whole s number xs e = rw (lines-none xs e, tail-none xs e) refl

-- the last line
pub journal-last : {S E R : Type 0} (m : Player S E R) (s : S) (number : ℕ) (xs : List ℕ) → from_feed xs ≡ []
    → 0 < length xs
    → journal_from m true s number xs ≡ on_last m s number xs
unfolding close_by
journal-last m s number xs e some =
    let full : (length xs == 0) ≡ false = grind arith in journal-part m true s number xs e ∙ rw full refl

-- nothing is left
pub journal-end : {S E R : Type 0} (m : Player S E R) (s : S) (number : ℕ) → journal_from m true s number []
    ≡ finished m s
unfolding close_by
journal-end m s number = journal-part m true s number [] refl

waits-by : {S E R : Type 0} (m : Player S E R) (s : S) (number : ℕ) (xs : List ℕ) → length xs ≤ 20000
    → (0 < length xs → number ≤ 1000000) → close_by m false xs s number ≡ waiting
unfolding close_by
waits-by m s number [] short few = refl
waits-by m s number (x ∷ xs) short few =
    let some : 0 < length (x ∷ xs) = omega arith in
    let full : (length (x ∷ xs) == 0) ≡ false = grind arith in
    let fits : number ≤ 1000000 = few some in
    let a : nat_lt 1000000 number ≡ false = grind arith in
    let b : nat_lt 20000 (length (x ∷ xs)) ≡ false = grind arith in
    rw (full, a, b) refl

-- more is awaited
pub journal-waits : {S E R : Type 0} (m : Player S E R) (s : S) (number : ℕ) (xs : List ℕ) → from_feed xs ≡ []
    → length xs ≤ 20000 → (0 < length xs → number ≤ 1000000)
    → journal_from m false s number xs ≡ waiting
journal-waits m s number xs e short few = journal-part m false s number xs e ∙ waits-by m s number xs short few

long-line : {S E R : Type 0} (m : Player S E R) (s : S) (number : ℕ) (raw : List ℕ) (next : S → Played E R)
    → 20000 < length raw
    → number ≤ 1000000
    → on_line m s number raw next ≡ refused number (reasons.Line Long)
unfolding on_line
long-line m s number raw next long few =
    let a : nat_lt 1000000 number ≡ false = grind arith in
    let b : nat_lt 20000 (length raw) ≡ true = grind arith in
    rw (a, b) refl

long-part : {S E R : Type 0} (m : Player S E R) (s : S) (number : ℕ) (xs : List ℕ) → 20000 < length xs
    → number ≤ 1000000
    → close_by m false xs s number ≡ refused number (reasons.Line Long)
unfolding close_by
long-part m s number xs long few =
    let full : (length xs == 0) ≡ false = grind arith in
    let a : nat_lt 1000000 number ≡ false = grind arith in
    let b : nat_lt 20000 (length xs) ≡ true = grind arith in
    rw (full, a, b) refl

-- a line is too long
pub journal-long : {S E R : Type 0} (m : Player S E R) (s : S) (number : ℕ) (xs : List ℕ) → 20000 < length
    (until_feed xs)
    → number ≤ 1000000
    → journal_from m false s number xs ≡ refused number (reasons.Line Long)
journal-long m s number xs long few = elim (feed-cases xs) [
  | inl e ↦ journal-part m false s number xs e ∙ long-part m s number xs (rw (until_feed_whole xs e) at long) few
  | inr cut ↦ journal-line m false s number xs cut.0 cut.1 ∙ long-line m s number (until_feed xs) _ long few
]

many-line : {S E R : Type 0} (m : Player S E R) (s : S) (number : ℕ) (raw : List ℕ) (next : S → Played E R)
    → 1000000 < number
    → on_line m s number raw next ≡ refused number reasons.Lines
unfolding on_line
many-line m s number raw next many = let a : nat_lt 1000000 number ≡ true = grind arith in rw a refl

many-part : {S E R : Type 0} (m : Player S E R) (s : S) (number : ℕ) (xs : List ℕ) → 0 < length xs → 1000000 < number
    → close_by m false xs s number ≡ refused number reasons.Lines
unfolding close_by
many-part m s number xs some many =
    let full : (length xs == 0) ≡ false = grind arith in
    let a : nat_lt 1000000 number ≡ true = grind arith in
    rw (full, a) refl

-- there are too many lines
pub journal-many : {S E R : Type 0} (m : Player S E R) (s : S) (number : ℕ) (xs : List ℕ) → 0 < length xs
    → 1000000 < number
    → journal_from m false s number xs ≡ refused number reasons.Lines
journal-many m s number xs some many = elim (feed-cases xs) [
  | inl e ↦ journal-part m false s number xs e ∙ many-part m s number xs some many
  | inr cut ↦ journal-line m false s number xs cut.0 cut.1 ∙ many-line m s number (until_feed xs) _ many
]

-- a line that is run
pub line-runs : {S E R : Type 0} (m : Player S E R) (s : S) (number : ℕ) (raw : List ℕ) (next : S → Played E R)
    → length raw ≤ 20000 → number ≤ 1000000
    → on_line m s number raw next ≡ follow m number (m.line s number (without_return raw)) next
unfolding on_line
line-runs m s number raw next short few =
    let a : nat_lt 1000000 number ≡ false = grind arith in
    let b : nat_lt 20000 (length raw) ≡ false = grind arith in
    rw (a, b) refl

many-last : {S E R : Type 0} (m : Player S E R) (s : S) (number : ℕ) (raw : List ℕ) → 1000000 < number
    → on_last m s number raw ≡ refused number reasons.Lines
unfolding on_last
many-last m s number raw many = let a : nat_lt 1000000 number ≡ true = grind arith in rw a refl

long-last : {S E R : Type 0} (m : Player S E R) (s : S) (number : ℕ) (raw : List ℕ) → 20000 < length raw
    → number ≤ 1000000
    → on_last m s number raw ≡ refused number (reasons.Line Long)
unfolding on_last
long-last m s number raw long few =
    let a : nat_lt 1000000 number ≡ false = grind arith in
    let b : nat_lt 20000 (length raw) ≡ true = grind arith in
    rw (a, b) refl

-- the last line, where it is run
pub last-runs : {S E R : Type 0} (m : Player S E R) (s : S) (number : ℕ) (raw : List ℕ) → length raw ≤ 20000
    → number ≤ 1000000
    → on_last m s number raw ≡ follow m number (m.line s number raw) (finished m)
unfolding on_last
last-runs m s number raw short few =
    let a : nat_lt 1000000 number ≡ false = grind arith in
    let b : nat_lt 20000 (length raw) ≡ false = grind arith in
    rw (a, b) refl

-- the same of all octets, or of the first
pub many-close : {S E R : Type 0} (m : Player S E R) (whole : Bool) (s : S) (number : ℕ) (xs : List ℕ) → 0 < length xs
    → 1000000 < number → close_by m whole xs s number ≡ refused number reasons.Lines
unfolding close_by
many-close m true s number xs some many =
    let full : (length xs == 0) ≡ false = grind arith in rw full (many-last m s number xs many)
many-close m false s number xs some many = many-part m s number xs some many

pub journal-many-any : {S E R : Type 0} (m : Player S E R) (whole : Bool) (s : S) (number : ℕ) (xs : List ℕ)
    → 0 < length xs
    → 1000000 < number
    → journal_from m whole s number xs ≡ refused number reasons.Lines
journal-many-any m whole s number xs some many = elim (feed-cases xs) [
  | inl e ↦ journal-part m whole s number xs e ∙ many-close m whole s number xs some many
  | inr cut ↦ journal-line m whole s number xs cut.0 cut.1 ∙ many-line m s number (until_feed xs) _ many
]

pub long-close : {S E R : Type 0} (m : Player S E R) (whole : Bool) (s : S) (number : ℕ) (xs : List ℕ)
    → 20000 < length xs
    → number ≤ 1000000 → close_by m whole xs s number ≡ refused number (reasons.Line Long)
unfolding close_by
long-close m true s number xs long few =
    let full : (length xs == 0) ≡ false = grind arith in rw full (long-last m s number xs long few)
long-close m false s number xs long few = long-part m s number xs long few

pub journal-long-any : {S E R : Type 0} (m : Player S E R) (whole : Bool) (s : S) (number : ℕ) (xs : List ℕ)
    → 20000 < length (until_feed xs) → number ≤ 1000000
    → journal_from m whole s number xs ≡ refused number (reasons.Line Long)
journal-long-any m whole s number xs long few = elim (feed-cases xs) [
  | inl e ↦ journal-part m whole s number xs e ∙ long-close m whole s number xs (rw (until_feed_whole xs e) at long) few
  | inr cut ↦ journal-line m whole s number xs cut.0 cut.1 ∙ long-line m s number (until_feed xs) _ long few
]
