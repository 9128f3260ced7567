-- What the end of a group says of one flow: all that went up is what had to, where it is right, and nothing is right
-- elsewhere.
use Rattle.std.proofs.Common.{◌≡◌, ℕ, ◌+◌, ◌-◌, ◌<◌, ◌≤◌, Bool, true, false, List, [], ◌∷◌, ◌++◌, length}
use Rattle.std.proofs.Common.{take, inl, inr, ◌⊎◌, refl, ap, sym, ◌∙◌, arith}
use Rattle.std.proofs.Common.{append-nil, append_assoc, length-append, subst}
use Rattle.std.specs.Prelude.{nat_lt, ◌&&◌, ◌||◌, ◌==◌}
use Rattle.std.specs.Str.{bytes_eq}
use Rattle.std.proofs.lemmas.Bool.{and_parts, and_from, or_left, or_right, false≢true, eq-eqb, eqb-true, ltb-true}
use Rattle.std.proofs.lemmas.Bool.{lt-ltb}
use Rattle.std.proofs.lemmas.Bool.{cases_lt}
use Rattle.std.proofs.lemmas.List.{length-take, length_push, take_all}
use Rattle.journal_takes.specs.TakeEvents.{TakeEvent, next_new, kept}
use Rattle.journal_delivered.specs.DeliveryChecking.{AwaitedSdus, compared_by, with_compared, all_compared, settled}
use Rattle.journal_delivered.specs.DeliveryChecking.{with_end}
use Rattle.journal_delivered.proofs.Lists.{Sdus, push_front, take_seam, few_taken, front_has}
use Rattle.journal_delivered.proofs.Awaiting.{Awaits, Differs, Judged, judged_compared, Follows}

-- ---- what went up early is compared

-- so many can't be the first of what is kept, up to any COUNT that was taken
abbrev Never : ℕ → List TakeEvent → Sdus → Type 0
Never first es done = (more : Sdus) (n : ℕ) → first + n ≤ next_new first es → done ++ more ≡ take n (kept first es) → ⊥

abbrev Settles : ℕ → List TakeEvent → Sdus → AwaitedSdus → Type 0
Settles first es done a =
    ((a.right ≡ true) × Awaits first es done a) ⊎ ((a.right ≡ false) × Never first es done)

differs_never : (first : ℕ) (es : List TakeEvent) (done : Sdus) → Differs first es done → Never first es done
differs_never first es done d more n low e =
    d.apart (front_has d.before (d.after ++ more) d.rest d.up d.sdu n
    (sym (append_assoc d.before (d.up ∷ d.after) more)
    ∙ ap (λ (zs : Sdus). zs ++ more) (sym d.done_is) ∙ e
    ∙ ap (take n) d.kept_is))

settles : (first : ℕ) (es : List TakeEvent) (done : Sdus) (a : AwaitedSdus) → Judged first es done a
    → Settles first es done a
settles first es done a (inl h) = inl h
settles first es done a (inr h) = inr (h.0, differs_never first es done h.1)

never_more : (first : ℕ) (es : List TakeEvent) (done : Sdus) (up : List ℕ) → Never first es done
    → Never first es (done ++ up ∷ [])
never_more first es done up h more n low e = h (up ∷ more) n low (sym (push_front done more up) ∙ e)

-- no SDU of a COUNT is left
none_left : (first : ℕ) (es : List TakeEvent) (done : Sdus) (up : List ℕ) (a : AwaitedSdus) → a.taken ≡ []
    → Awaits first es done a → Never first es (done ++ up ∷ [])
none_left first es done up a is h more n low e =
    let size : length a.taken ≡ 0 = ap (λ (ts : Sdus). length ts) is in
    let long : length ((done ++ up ∷ []) ++ more) ≡ length (take n (kept first es)) =
    ap (λ (zs : Sdus). length zs) e in
    let ahead : length done + 1 ≤ n =
    omega (arith, long, length_push done up, length-append (done ++ up ∷ []) more, few_taken n (kept first es)) in
    let none : a.waiting ≡ [] =
    h.full (omega (arith, ahead, low, size, h.low_is, h.next_is)) in
    let whole : kept first es ≡ done =
    h.kept_is ∙ ap (λ (ts : Sdus). done ++ (ts ++ a.waiting)) is ∙ ap (λ (ws : Sdus). done ++ ws) none
    ∙ append-nil done in
    let few : length (kept first es) ≡ length done = ap (λ (zs : Sdus). length zs) whole in
    omega (
      arith,
      long,
      few,
      length_push done up,
      length-append (done ++ up ∷ []) more,
      length-take n (kept first es),
    )

settles_one : (first : ℕ) (es : List TakeEvent) (done : Sdus) (up : List ℕ) (taken : Sdus) (a : AwaitedSdus)
    → a.taken ≡ taken → Settles first es done a → Settles first es (done ++ up ∷ []) (compared_by up taken a)
settles_one first es done up [] a is (inl h) = inr (refl, none_left first es done up a is h.1)
settles_one first es done up [] a is (inr h) = inr (refl, never_more first es done up h.1)
settles_one first es done up (sdu ∷ more) a is (inl h) =
    settles first es (done ++ up ∷ []) (compared_by up (sdu ∷ more) a)
    (judged_compared first es done up sdu more a is (inl h))
settles_one first es done up (sdu ∷ more) a is (inr h) =
    inr (ap (λ (b : Bool). b && bytes_eq sdu up) h.0, never_more first es done up h.1)

settles_all : (first : ℕ) (es : List TakeEvent) (done ups : Sdus) (a : AwaitedSdus) → Settles first es done a
    → Settles first es (done ++ ups) (all_compared ups a)
settles_all first es done [] a h =
    subst (λ (zs : Sdus). Settles first es zs a) (sym (append-nil done)) h
settles_all first es done (up ∷ ups) a h =
    subst (λ (zs : Sdus). Settles first es zs (all_compared ups (with_compared up a))) (push_front done ups up)
    (settles_all first es (done ++ up ∷ []) ups (with_compared up a) (settles_one first es done up a.taken a refl h))

early_compared : (up : List ℕ) (taken : Sdus) (a : AwaitedSdus) → (compared_by up taken a).early ≡ a.early
early_compared up [] a = refl
early_compared up (sdu ∷ more) a = refl

early_all : (ups : Sdus) (a : AwaitedSdus) → (all_compared ups a).early ≡ a.early
early_all [] a = refl
early_all (up ∷ ups) a = early_all ups (with_compared up a) ∙ early_compared up a.taken a

-- ---- the verdict

settles_early : (first : ℕ) (es : List TakeEvent) (done : Sdus) (a : AwaitedSdus) → Judged first es done a
    → Judged first es done (record a { early = [] })
settles_early first es done a (inl h) = inl (
  h.0,
  record {
    kept_is = h.1.kept_is;
    low_is = h.1.low_is;
    next_is = h.1.next_is;
    few = h.1.few;
    full = h.1.full;
  },
)
settles_early first es done a (inr h) = inr (h.0, h.1)

settled_is : (first : ℕ) (es : List TakeEvent) (done ups early : Sdus) (a : AwaitedSdus) → a.early ≡ early
    → ups ≡ done ++ early → Judged first es done a → Settles first es ups (settled a)
settled_is first es done ups early a same e h =
    subst (λ (zs : Sdus). Settles first es zs (settled a))
    (sym (e ∙ ap (λ (us : Sdus). done ++ us) (sym same)))
    (settles_all first es done a.early (record a { early = [] })
    (settles first es done (record a { early = [] }) (settles_early first es done a h)))

all_went : (came low : ℕ) (taken : Sdus) → ((low == came) || (nat_lt low came && (length taken == 0))) ≡ true
    → (low ≡ came) ⊎ ((low < came) × (taken ≡ []))
all_went came low taken h = by (low == came) refl (nat_lt low came) refl taken h
  where
    by : (b : Bool) → (low == came) ≡ b → (c : Bool) → nat_lt low came ≡ c → (ts : Sdus)
        → (b || (c && (length ts == 0))) ≡ true → (low ≡ came) ⊎ ((low < came) × (ts ≡ []))
    by true e c f ts g = inl (eqb-true low came e)
    by false e true f [] g = inr (ltb-true low came f, refl)
    by false e true f (t ∷ ts) g = absurd (let none = eqb-true (length (t ∷ ts)) 0 g in omega (arith, none))
    by false e false f ts g = absurd (false≢true g)

-- at the end of a group, of which this is the first COUNT that hasn't come
right_sound : (first came : ℕ) (es : List TakeEvent) (ups : Sdus) (a : AwaitedSdus) → came ≤ next_new first es
    → (a.low ≡ came) ⊎ ((a.low < came) × (a.taken ≡ [])) → Awaits first es ups a
    → ups ≡ take (came - first) (kept first es)
right_sound first came es ups a low (inl all) h =
    sym (ap (take (came - first)) h.kept_is
    ∙ take_seam ups (a.taken ++ a.waiting) (came - first) (omega (arith, all, h.low_is)))
right_sound first came es ups a low (inr less) h =
    let size : length a.taken ≡ 0 = ap (λ (ts : Sdus). length ts) less.1 in
    let none : a.waiting ≡ [] = h.full (omega (arith, size, low, less.0, h.next_is)) in
    let whole : kept first es ≡ ups =
    h.kept_is ∙ ap (λ (ts : Sdus). ups ++ (ts ++ a.waiting)) less.1 ∙ ap (λ (ws : Sdus). ups ++ ws) none
    ∙ append-nil ups in
    sym (ap (take (came - first)) whole ∙ take_all (came - first) ups (omega (arith, less.0, h.low_is)))

right_complete : (first came : ℕ) (es : List TakeEvent) (ups : Sdus) (a : AwaitedSdus) → first ≤ came
    → Awaits first es ups a → ups ≡ take (came - first) (kept first es)
    → ((a.low == came) || (nat_lt a.low came && (length a.taken == 0))) ≡ true
right_complete first came es ups a low h e = by (cases_lt a.low came)
  where
    long : length ups ≡ length (take (came - first) (kept first es))
    long = ap (λ (zs : Sdus). length zs) e

    size : length (kept first es) ≡ length (ups ++ (a.taken ++ a.waiting))
    size = ap (λ (zs : Sdus). length zs) h.kept_is

    by : (a.low < came) ⊎ (came ≤ a.low)
        → ((a.low == came) || (nat_lt a.low came && (length a.taken == 0))) ≡ true
    by (inl less) =
        let none : length a.taken ≡ 0 = omega (
          arith,
          less,
          long,
          size,
          h.low_is,
          length-take (came - first) (kept first es),
          length-append ups (a.taken ++ a.waiting),
          length-append a.taken a.waiting,
        ) in
        or_right (a.low == came) (nat_lt a.low came && (length a.taken == 0))
        (and_from (nat_lt a.low came) (length a.taken == 0) (lt-ltb a.low came less)
        (eq-eqb (length a.taken) 0 none))
    by (inr past) =
        let same : a.low ≡ came = omega (
          arith,
          past,
          low,
          long,
          h.low_is,
          few_taken (came - first) (kept first es),
        ) in
        or_left (a.low == came) (nat_lt a.low came && (length a.taken == 0)) (eq-eqb a.low came same)

-- ---- the end of a group

-- between groups, where all was right
pub record Rests (first : ℕ) (es : List TakeEvent) (ups : Sdus) (a : AwaitedSdus) : Type 0 where
  pub right : a.right ≡ true
  pub early : a.early ≡ []
  pub awaits : Awaits first es ups a

pub record Ends (first came : ℕ) (es : List TakeEvent) (ups : Sdus) (a : AwaitedSdus) : Type 0 where
  pub delivered : ups ≡ take (came - first) (kept first es)
  pub rests : Rests first es ups a

abbrev AllWent : ℕ → AwaitedSdus → Type 0
AllWent came a = ((a.low == came) || (nat_lt a.low came && (length a.taken == 0))) ≡ true

end_settles : (first : ℕ) (es : List TakeEvent) (ups : Sdus) (a : AwaitedSdus) → Follows first es ups a
    → Settles first es ups (settled a)
end_settles first es ups a f = settled_is first es f.done ups a.early a refl f.ups_are f.judged

left_rests : (first came : ℕ) (es : List TakeEvent) (ups : Sdus) (a : AwaitedSdus)
    → (with_end came a).right ≡ true → Awaits first es ups (settled a) → Rests first es ups (with_end came a)
left_rests first came es ups a right h = record {
  right = right;
  early = early_all a.early (record a { early = [] });
  awaits = record {
    kept_is = h.kept_is;
    low_is = h.low_is;
    next_is = h.next_is;
    few = h.few;
    full = h.full;
  };
}

pub end_sound : (first came : ℕ) (es : List TakeEvent) (ups : Sdus) (a : AwaitedSdus) → came ≤ next_new first es
    → Follows first es ups a → (with_end came a).right ≡ true → Ends first came es ups (with_end came a)
end_sound first came es ups a low f h =
    let s = settled a in
    let p = and_parts s.right ((s.low == came) || (nat_lt s.low came && (length s.taken == 0))) h in
    by p.0 p.1 (end_settles first es ups a f)
  where
    by : (settled a).right ≡ true → AllWent came (settled a) → Settles first es ups (settled a)
        → Ends first came es ups (with_end came a)
    by right all (inr g) = absurd (false≢true (sym g.0 ∙ right))
    by right all (inl g) = record {
      delivered =
          right_sound first came es ups (settled a) low (all_went came (settled a).low (settled a).taken all) g.1;
      rests = left_rests first came es ups a h g.1;
    }

pub end_complete : (first came : ℕ) (es : List TakeEvent) (ups : Sdus) (a : AwaitedSdus) → first ≤ came
    → came ≤ next_new first es → Follows first es ups a → ups ≡ take (came - first) (kept first es)
    → (with_end came a).right ≡ true
end_complete first came es ups a high low f e = by (end_settles first es ups a f)
  where
    by : Settles first es ups (settled a) → (with_end came a).right ≡ true
    by (inl g) =
        let s = settled a in
        and_from s.right ((s.low == came) || (nat_lt s.low came && (length s.taken == 0))) g.0
        (right_complete first came es ups (settled a) high g.1 e)
    by (inr g) = absurd (g.1 [] (came - first) (omega (arith, high, low)) (append-nil ups ∙ e))
