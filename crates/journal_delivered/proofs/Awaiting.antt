-- What is kept of the SDUs of one direction is what events leave of them, and an SDU that was compared and isn't the
-- one that was due never will be.
use Rattle.std.proofs.Common.{◌≡◌, ℕ, suc, ◌+◌, ◌-◌, ◌<◌, ◌≤◌, Bool, true, false, List, [], ◌∷◌, ◌++◌}
use Rattle.std.proofs.Common.{length, take, drop, max, inl, inr, ◌⊎◌, refl, ap, sym, ◌∙◌, arith, if◌then◌else◌}
use Rattle.std.proofs.Common.{append-nil, append_assoc, length-append}
use Rattle.std.specs.Prelude.{nat_lt, ◌&&◌, ◌==◌}
use Rattle.std.specs.Str.{bytes_eq}
use Rattle.std.proofs.lemmas.Bool.{and_parts, false≢true, ltb-true, ltb-false, eqb-true, cases_lt}
use Rattle.std.proofs.lemmas.List.{take-append-drop, drop_all, length-take, length_push}
use Rattle.std.proofs.lemmas.Slice.Eq.{bytes_eq-Decides}
use Rattle.journal_takes.specs.TakeEvents.{TakeEvent, SduSubmitted, SduDiscarded, PduTaken, next_new, kept, without}
use Rattle.journal_delivered.specs.DeliveryChecking.{AwaitedSdus, with_sdu, with_taken, with_discarded}
use Rattle.journal_delivered.specs.DeliveryChecking.{with_compared, compared_by, is_due, with_up}
use Rattle.journal_delivered.proofs.Lists.{Sdus, push_assoc, push_front, without_behind, without_seam, without_past}

-- ---- what is said of it

-- so many went up, and each was the one that was due
pub record Awaits (first : ℕ) (es : List TakeEvent) (done : Sdus) (a : AwaitedSdus) : Type 0 where
  pub kept_is : kept first es ≡ done ++ (a.taken ++ a.waiting)
  pub low_is : a.low ≡ first + length done
  pub next_is : a.next ≡ next_new first es
  pub few : a.low + length a.taken ≤ a.next
  pub full : a.low + length a.taken < a.next → a.waiting ≡ []

-- one that went up isn't the SDU of its COUNT
pub record Differs (first : ℕ) (es : List TakeEvent) (done : Sdus) : Type 0 where
  pub before : Sdus
  pub after : Sdus
  pub rest : Sdus
  pub up : List ℕ
  pub sdu : List ℕ
  pub done_is : done ≡ before ++ up ∷ after
  pub kept_is : kept first es ≡ before ++ sdu ∷ rest
  pub apart : up ≡ sdu → ⊥
  pub taken : first + length before < next_new first es

abbrev pub Judged : ℕ → List TakeEvent → Sdus → AwaitedSdus → Type 0
Judged first es done a =
    ((a.right ≡ true) × Awaits first es done a) ⊎ ((a.right ≡ false) × Differs first es done)

pub first_low : (first : ℕ) (es : List TakeEvent) → first ≤ next_new first es
first_low first [] = omega arith
first_low first (PduTaken count ∷ es) = omega (arith, first_low first es)
first_low first (SduSubmitted octets ∷ es) = first_low first es
first_low first (e ∷ es) = first_low first es

-- ---- an SDU is submitted

grows : (before rest : Sdus) (sdu own : List ℕ) (xs : Sdus) → xs ≡ before ++ sdu ∷ rest
    → xs ++ own ∷ [] ≡ before ++ sdu ∷ (rest ++ own ∷ [])
grows before rest sdu own xs e =
    ap (λ (zs : Sdus). zs ++ own ∷ []) e ∙ push_assoc before (sdu ∷ rest) own

awaits_sdu : (first : ℕ) (es : List TakeEvent) (done : Sdus) (own : List ℕ) (a : AwaitedSdus)
    → Awaits first es done a → Awaits first (SduSubmitted own ∷ es) done (with_sdu own a)
awaits_sdu first es done own a h = by (nat_lt (length a.taken) (a.next - a.low)) refl
  where
    pushed : kept first es ++ own ∷ [] ≡ done ++ (a.taken ++ (a.waiting ++ own ∷ []))
    pushed =
        ap (λ (zs : Sdus). zs ++ own ∷ []) h.kept_is ∙ push_assoc done (a.taken ++ a.waiting) own
        ∙ ap (λ (zs : Sdus). done ++ zs) (push_assoc a.taken a.waiting own)

    by : (b : Bool) → nat_lt (length a.taken) (a.next - a.low) ≡ b
        → Awaits first (SduSubmitted own ∷ es) done (if b
        then record a { taken = a.taken ++ own ∷ [] } else record a { waiting = a.waiting ++ own ∷ [] })
    by true is =
        let room : length a.taken < a.next - a.low = ltb-true (length a.taken) (a.next - a.low) is in
        let none : a.waiting ≡ [] = h.full (omega (arith, room)) in
        record {
          kept_is =
              pushed
              ∙ ap (λ (ws : Sdus). done ++ (a.taken ++ (ws ++ own ∷ []))) none
              ∙ ap (λ (zs : Sdus). done ++ zs) (sym (append-nil (a.taken ++ own ∷ [])))
              ∙ ap (λ (ws : Sdus). done ++ ((a.taken ++ own ∷ []) ++ ws)) (sym none);
          low_is = h.low_is;
          next_is = h.next_is;
          few = omega (arith, room, length_push a.taken own);
          full = λ _. none;
        }
    by false is =
        let filled : a.next - a.low ≤ length a.taken = ltb-false (length a.taken) (a.next - a.low) is in
        record {
          kept_is = pushed;
          low_is = h.low_is;
          next_is = h.next_is;
          few = h.few;
          full = λ more. absurd (omega (arith, filled, more));
        }

sdu_right : (own : List ℕ) (a : AwaitedSdus) → (with_sdu own a).right ≡ a.right
sdu_right own a = by (nat_lt (length a.taken) (a.next - a.low))
  where
    by : (b : Bool) → (if b
        then record a { taken = a.taken ++ own ∷ [] } else record a { waiting = a.waiting ++ own ∷ [] }).right
        ≡ a.right
    by true = refl
    by false = refl

pub judged_sdu : (first : ℕ) (es : List TakeEvent) (done : Sdus) (own : List ℕ) (a : AwaitedSdus)
    → Judged first es done a → Judged first (SduSubmitted own ∷ es) done (with_sdu own a)
judged_sdu first es done own a (inl h) = inl (sdu_right own a ∙ h.0, awaits_sdu first es done own a h.1)
judged_sdu first es done own a (inr h) = inr (
  sdu_right own a ∙ h.0,
  record {
    before = h.1.before;
    after = h.1.after;
    rest = h.1.rest ++ own ∷ [];
    up = h.1.up;
    sdu = h.1.sdu;
    done_is = h.1.done_is;
    kept_is = grows h.1.before h.1.rest h.1.sdu own (kept first es) h.1.kept_is;
    apart = h.1.apart;
    taken = h.1.taken;
  },
)

-- ---- the first that waits is discarded

pub judged_discarded : (first : ℕ) (es : List TakeEvent) (done : Sdus) (a : AwaitedSdus)
    → Judged first es done a → Judged first (SduDiscarded ∷ es) done (with_discarded a)
judged_discarded first es done a (inl h) = inl (
  h.0,
  record {
    kept_is = out (at_or_below h.1.few);
    low_is = h.1.low_is;
    next_is = h.1.next_is;
    few = h.1.few;
    full = λ more. ap (drop 1) (h.1.full more);
  },
)
  where
    at_or_below : a.low + length a.taken ≤ a.next
        → (a.low + length a.taken ≡ a.next) ⊎ (a.low + length a.taken < a.next)
    at_or_below few = elim (cases_lt (a.low + length a.taken) a.next) [
      | inl more ↦ inr more
      | inr all ↦ inl (omega (arith, few, all))
    ]

    out : (a.low + length a.taken ≡ a.next) ⊎ (a.low + length a.taken < a.next)
        → without (next_new first es - first) (kept first es) ≡ done ++ (a.taken ++ drop 1 a.waiting)
    out (inl all) =
        ap (without (next_new first es - first)) (h.1.kept_is ∙ sym (append_assoc done a.taken a.waiting))
        ∙ without_seam (done ++ a.taken) a.waiting (next_new first es - first)
        (omega (arith, all, h.1.low_is, h.1.next_is, length-append done a.taken))
        ∙ append_assoc done a.taken (drop 1 a.waiting)
    out (inr more) =
        let none : a.waiting ≡ [] = h.1.full more in
        let whole : kept first es ≡ done ++ a.taken =
        h.1.kept_is ∙ ap (λ (ws : Sdus). done ++ (a.taken ++ ws)) none
        ∙ ap (λ (zs : Sdus). done ++ zs) (append-nil a.taken) in
        let long : length (kept first es) ≡ length (done ++ a.taken) = ap (λ (zs : Sdus). length zs) whole in
        without_past (kept first es) (next_new first es - first)
        (omega (arith, long, more, h.1.low_is, h.1.next_is, length-append done a.taken))
        ∙ whole ∙ ap (λ (zs : Sdus). done ++ zs) (sym (append-nil a.taken))
        ∙ ap (λ (ws : Sdus). done ++ (a.taken ++ drop 1 ws)) (sym none)
judged_discarded first es done a (inr h) =
    let k = next_new first es - first - length h.1.before - 1 in
    let at : next_new first es - first ≡ length (h.1.before ++ h.1.sdu ∷ []) + k =
    omega (arith, h.1.taken, length_push h.1.before h.1.sdu) in
    inr (
      h.0,
      record {
        before = h.1.before;
        after = h.1.after;
        rest = without (next_new first es - first - length h.1.before - 1) h.1.rest;
        up = h.1.up;
        sdu = h.1.sdu;
        done_is = h.1.done_is;
        kept_is =
            ap (without (next_new first es - first)) (h.1.kept_is ∙ sym (push_front h.1.before h.1.rest h.1.sdu))
            ∙ ap (λ (n : ℕ). without n ((h.1.before ++ h.1.sdu ∷ []) ++ h.1.rest)) at
            ∙ without_behind (h.1.before ++ h.1.sdu ∷ []) h.1.rest k
            ∙ push_front h.1.before (without k h.1.rest) h.1.sdu;
        apart = h.1.apart;
        taken = h.1.taken;
      },
    )

-- ---- that of a COUNT is taken

awaits_taken : (first : ℕ) (es : List TakeEvent) (done : Sdus) (count : ℕ) (a : AwaitedSdus)
    → Awaits first es done a → Awaits first (PduTaken count ∷ es) done (with_taken count a)
awaits_taken first es done count a h =
    let n = max a.next (count + 1) - a.low - length a.taken in
    record {
      kept_is =
          h.kept_is
          ∙ ap (λ (ws : Sdus). done ++ (a.taken ++ ws)) (sym (take-append-drop n a.waiting))
          ∙ ap (λ (zs : Sdus). done ++ zs) (sym (append_assoc a.taken (take n a.waiting) (drop n a.waiting)));
      low_is = h.low_is;
      next_is = ap (λ (m : ℕ). max m (count + 1)) h.next_is;
      few = omega (arith, h.few, length-append a.taken (take n a.waiting), length-take n a.waiting);
      full = λ more. drop_all n a.waiting
          (omega (arith, more, h.few, length-append a.taken (take n a.waiting), length-take n a.waiting));
    }

pub judged_taken : (first : ℕ) (es : List TakeEvent) (done : Sdus) (count : ℕ) (a : AwaitedSdus)
    → Judged first es done a → Judged first (PduTaken count ∷ es) done (with_taken count a)
judged_taken first es done count a (inl h) = inl (h.0, awaits_taken first es done count a h.1)
judged_taken first es done count a (inr h) = inr (
  h.0,
  record {
    before = h.1.before;
    after = h.1.after;
    rest = h.1.rest;
    up = h.1.up;
    sdu = h.1.sdu;
    done_is = h.1.done_is;
    kept_is = h.1.kept_is;
    apart = h.1.apart;
    taken = omega (arith, h.1.taken);
  },
)

-- ---- one goes up

-- where an SDU of a COUNT is there
pub judged_compared : (first : ℕ) (es : List TakeEvent) (done : Sdus) (up sdu : List ℕ) (more : Sdus) (a : AwaitedSdus)
    → a.taken ≡ sdu ∷ more → Judged first es done a
    → Judged first es (done ++ up ∷ []) (compared_by up (sdu ∷ more) a)
judged_compared first es done up sdu more a is (inl h) = by (bytes_eq sdu up) refl
  where
    stands : kept first es ≡ done ++ sdu ∷ (more ++ a.waiting)
    stands = h.1.kept_is ∙ ap (λ (ts : Sdus). done ++ (ts ++ a.waiting)) is

    size : length a.taken ≡ suc (length more)
    size = ap (λ (ts : Sdus). length ts) is

    by : (b : Bool) → bytes_eq sdu up ≡ b → Judged first es (done ++ up ∷ []) (compared_by up (sdu ∷ more) a)
    by true same = inl (
      ap (λ (b : Bool). b && bytes_eq sdu up) h.0 ∙ same,
      record {
        kept_is =
            stands ∙ sym (push_front done (more ++ a.waiting) sdu)
            ∙ ap (λ (own : List ℕ). (done ++ own ∷ []) ++ (more ++ a.waiting)) ((bytes_eq-Decides sdu up).0 same);
        low_is = omega (arith, h.1.low_is, length_push done up);
        next_is = h.1.next_is;
        few = omega (arith, h.1.few, size);
        full = λ far. h.1.full (omega (arith, far, size));
      },
    )
    by false same = inr (
      ap (λ (b : Bool). b && bytes_eq sdu up) h.0 ∙ same,
      record {
        before = done;
        after = [];
        rest = more ++ a.waiting;
        up = up;
        sdu = sdu;
        done_is = refl;
        kept_is = stands;
        apart = λ alike. false≢true (sym same ∙ (bytes_eq-Decides sdu up).1 (sym alike));
        taken = omega (arith, h.1.low_is, h.1.next_is, h.1.few, size);
      },
    )
judged_compared first es done up sdu more a is (inr h) = inr (
  ap (λ (b : Bool). b && bytes_eq sdu up) h.0,
  record {
    before = h.1.before;
    after = h.1.after ++ up ∷ [];
    rest = h.1.rest;
    up = h.1.up;
    sdu = h.1.sdu;
    done_is =
        ap (λ (zs : Sdus). zs ++ up ∷ []) h.1.done_is ∙ push_assoc h.1.before (h.1.up ∷ h.1.after) up;
    kept_is = h.1.kept_is;
    apart = h.1.apart;
    taken = h.1.taken;
  },
)

-- those that went up, compared or not yet
pub record Follows (first : ℕ) (es : List TakeEvent) (ups : Sdus) (a : AwaitedSdus) : Type 0 where
  pub done : Sdus
  pub ups_are : ups ≡ done ++ a.early
  pub judged : Judged first es done a

none_early : (xs : Sdus) → (length xs == 0) ≡ true → xs ≡ []
none_early [] h = refl
none_early (x ∷ xs) h = absurd (let none = eqb-true (length (x ∷ xs)) 0 h in omega (arith, none))

pub follows_up : (first : ℕ) (es : List TakeEvent) (ups : Sdus) (up : List ℕ) (a : AwaitedSdus)
    → Follows first es ups a → Follows first es (ups ++ up ∷ []) (with_up up a)
follows_up first es ups up a f = by (is_due a) refl
  where
    due : (ts : Sdus) → a.taken ≡ ts → (length a.early == 0) ≡ true → nat_lt 0 (length ts) ≡ true
        → Follows first es (ups ++ up ∷ []) (compared_by up ts a)
    due [] is none some = absurd (false≢true some)
    due (sdu ∷ more) is none some = record {
      done = f.done ++ up ∷ [];
      ups_are =
          ap (λ (zs : Sdus). zs ++ up ∷ []) (f.ups_are ∙ ap (λ (es : Sdus). f.done ++ es) (none_early a.early none)
          ∙ append-nil f.done)
          ∙ sym (append-nil (f.done ++ up ∷ []))
          ∙ ap (λ (es : Sdus). (f.done ++ up ∷ []) ++ es) (sym (none_early a.early none));
      judged = judged_compared first es f.done up sdu more a is f.judged;
    }

    by : (b : Bool) → is_due a ≡ b → Follows first es (ups ++ up ∷ [])
        (if b then with_compared up a else record a { early = a.early ++ up ∷ [] })
    by true is =
        let p = and_parts (length a.early == 0) (nat_lt 0 (length a.taken)) is in
        due a.taken refl p.0 p.1
    by false is = record {
      done = f.done;
      ups_are = ap (λ (zs : Sdus). zs ++ up ∷ []) f.ups_are ∙ push_assoc f.done a.early up;
      judged = later f.judged;
    }
      where
        later : Judged first es f.done a
            → Judged first es f.done (record a { early = a.early ++ up ∷ [] })
        later (inl h) = inl (
          h.0,
          record {
            kept_is = h.1.kept_is;
            low_is = h.1.low_is;
            next_is = h.1.next_is;
            few = h.1.few;
            full = h.1.full;
          },
        )
        later (inr h) = inr (h.0, h.1)
