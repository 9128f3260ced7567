-- What octets show is shown whatever follows them.
use Rattle.std.proofs.Common.{◌≡◌, ◌≢◌, ◌<◌, ◌≤◌, ◌+◌, ◌==◌, ◌∙◌, nat_lt, Bool, true, false, ℕ, List, [], ◌∷◌, ◌++◌}
use Rattle.std.proofs.Common.{length, refl, ap, sym, arith, inl, inr, cond, suc, zero, length-append}
use Rattle.l2_io.specs.Feeds.{until_feed, from_feed, without_return}
use Rattle.air_text.specs.declared.fault.LineRefusal.TheVariants.{Long}
use Rattle.line_player.specs.declared.reason.Reason.TheVariants as reasons
use Rattle.line_player.specs.Journal.{Player, Outcome, Goes, Ends, Refuses, Waiting, Played, onto, refused, waiting}
use Rattle.line_player.specs.Journal.{on_line, close_by, journal_from, follow}
use Rattle.line_player.proofs.Cutting.{feed-cases}
use Rattle.line_player.proofs.Parts.{journal-line, journal-line-more, journal-part, many-close, journal-many-any}
use Rattle.line_player.proofs.Parts.{long-close, journal-long-any}

-- what is behind the first line is shorter
rest-shorter : (xs ys : List ℕ) → from_feed xs ≡ 10 ∷ ys → length ys < length xs
rest-shorter [] ys e = absurd (cc)
rest-shorter (x ∷ xs) ys e =
    elim (x == 10) as (λ b. cond b (x ∷ xs) (from_feed xs) ≡ 10 ∷ ys → length ys < suc (length xs)) [
      | true ↦ λ h. let same : xs ≡ ys = cc in let len = ap length same in omega arith
      | false ↦ λ h. omega (arith, rest-shorter xs ys h)
    ] e

-- the continuation matters only where the line goes on and is waited for
follow-final : {S E R : Type 0} (m : Player S E R) (number : ℕ) (line : Outcome S E R) (next next' : S → Played E R)
    → ((t : S) → (next t).close ≢ Waiting → next' t ≡ next t)
    → (follow m number line next).close ≢ Waiting → follow m number line next' ≡ follow m number line next
follow-final m number (Goes t part) next next' same shows = ap (onto part) (same t shows)
follow-final m number (Ends t part) next next' same shows = refl
follow-final m number (Refuses reason) next next' same shows = refl

line-final : {S E R : Type 0} (m : Player S E R) (s : S) (number : ℕ) (raw : List ℕ) (next next' : S → Played E R)
    → ((t : S) → (next t).close ≢ Waiting → next' t ≡ next t)
    → (on_line m s number raw next).close ≢ Waiting → on_line m s number raw next' ≡ on_line m s number raw next
unfolding on_line
line-final m s number raw next next' same =
    elim (nat_lt 1000000 number) as
    (λ a.
    (cond a (refused number reasons.Lines)
    (cond (nat_lt 20000 (length raw)) (refused number (reasons.Line Long))
    (follow m number (m.line s number (without_return raw)) next))).close ≢ Waiting
    → cond a (refused number reasons.Lines)
    (cond (nat_lt 20000 (length raw)) (refused number (reasons.Line Long))
    (follow m number (m.line s number (without_return raw)) next'))
    ≡ cond a (refused number reasons.Lines)
    (cond (nat_lt 20000 (length raw)) (refused number (reasons.Line Long))
    (follow m number (m.line s number (without_return raw)) next))) [
      | true ↦ λ shows. refl
      | false ↦ elim (nat_lt 20000 (length raw)) as
          (λ b. (cond b (refused number (reasons.Line Long))
          (follow m number (m.line s number (without_return raw)) next)).close ≢ Waiting
          → cond b (refused number (reasons.Line Long)) (follow m number (m.line s number (without_return raw)) next')
          ≡ cond b (refused number (reasons.Line Long)) (follow m number (m.line s number (without_return raw)) next)) [
            | true ↦ λ shows. refl
            | false ↦ λ shows. follow-final m number (m.line s number (without_return raw)) next next' same shows
          ]
    ]

-- a line that goes on is no shorter
until-longer : (xs more : List ℕ) → from_feed xs ≡ [] → length xs ≤ length (until_feed (xs ++ more))
until-longer [] more e = omega arith
until-longer (x ∷ xs) more e =
    elim (x == 10) as (λ b. cond b (x ∷ xs) (from_feed xs) ≡ []
    → suc (length xs) ≤ length (cond b [] (x ∷ until_feed (xs ++ more)))) [
      | true ↦ λ h. absurd (cc)
      | false ↦ λ h. omega (arith, until-longer xs more h)
    ] e

part-by : {S E R : Type 0} (m : Player S E R) (s : S) (number : ℕ) (xs more : List ℕ) (whole a b c : Bool)
    → from_feed xs ≡ []
    → (length xs == 0) ≡ a → nat_lt 1000000 number ≡ b → nat_lt 20000 (length xs) ≡ c
    → (close_by m false xs s number).close ≢ Waiting
    → journal_from m whole s number (xs ++ more) ≡ close_by m false xs s number
unfolding close_by
part-by {E} {R} m s number xs more whole true b c e ea eb ec shows =
    let is : close_by m false xs s number ≡ waiting = rw ea refl in absurd (shows (ap (λ (p : Played E R). p.close) is))
part-by m s number xs more whole false true c e ea eb ec shows =
    let some : 0 < length xs = grind arith in
    let many : 1000000 < number = grind arith in
    journal-many-any m whole s number (xs ++ more) (omega (arith, length-append xs more)) many
    ∙ sym (many-close m false s number xs some many)
part-by m s number xs more whole false false true e ea eb ec shows =
    let few : number ≤ 1000000 = grind arith in
    let long : 20000 < length xs = grind arith in
    journal-long-any m whole s number (xs ++ more) (omega (arith, until-longer xs more e)) few
    ∙ sym (long-close m false s number xs long few)
part-by {E} {R} m s number xs more whole false false false e ea eb ec shows =
    let is : close_by m false xs s number ≡ waiting = rw (ea, eb, ec) refl in
    absurd (shows (ap (λ (p : Played E R). p.close) is))

-- what an unfinished line shows, and what that line shows once there is more of it
part-shows : {S E R : Type 0} (m : Player S E R) (s : S) (number : ℕ) (xs more : List ℕ) (whole : Bool) → from_feed xs
    ≡ []
    → (close_by m false xs s number).close ≢ Waiting
    → journal_from m whole s number (xs ++ more) ≡ close_by m false xs s number
part-shows m s number xs more whole e shows = part-by m s number xs more whole _ _ _ e refl refl refl shows

final-within : {S E R : Type 0} (m : Player S E R) (k : ℕ) (whole : Bool) (s : S) (number : ℕ) (xs more : List ℕ)
    → length xs < k
    → (journal_from m false s number xs).close ≢ Waiting
    → journal_from m whole s number (xs ++ more) ≡ journal_from m false s number xs
final-within m zero whole s number xs more fits shows = absurd (omega arith)
final-within {E} {R} m (suc k) whole s number xs more fits shows = elim (feed-cases xs) [
  | inl e ↦ let is = journal-part m false s number xs e in
      part-shows m s number xs more whole e (λ w. shows (ap (λ (p : Played E R). p.close) is ∙ w)) ∙ sym is
  | inr p ↦
      let is = journal-line m false s number xs p.0 p.1 in
      let shorter : length p.0 < k = omega (arith, rest-shorter xs p.0 p.1) in
      journal-line-more m whole s number xs p.0 more p.1
      ∙ line-final m s number (until_feed xs) _ _
      (λ t shown. final-within m k whole t (number + 1) p.0 more shorter shown)
      (λ w. shows (ap (λ (q : Played E R). q.close) is ∙ w))
      ∙ sym is
]

-- a line that was refused, or the end line, decides, whatever follows
pub shown-is-final : {S E R : Type 0} (m : Player S E R) (whole : Bool) (s : S) (number : ℕ) (xs more : List ℕ)
    → (journal_from m false s number xs).close ≢ Waiting
    → journal_from m whole s number (xs ++ more) ≡ journal_from m false s number xs
shown-is-final m whole s number xs more shows =
    final-within m (length xs + 1) whole s number xs more (omega arith) shows
