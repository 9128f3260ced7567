-- What a sender tells that may have failed: of no data PDU behind a failure, and of no other failure.
use Rattle.std.proofs.Common.{◌≡◌, Bool, true, false, ◌||◌, if◌then◌else◌, List, [], ◌∷◌, ◌++◌, refl, ap}
use Rattle.std.proofs.Common.{sym, subst, ◌∙◌}
use Rattle.std.specs.List.{filter, list_any}
use Rattle.bearer_types.specs.declared.event.Event.{Event}
use Rattle.bearer_types.specs.declared.event.Event.TheVariants as events
use Rattle.prioritise.proofs.ChannelLemmas.{both_false}
use Rattle.promises.specs.Silent.{is_failure, is_of_sender, behind_failure}

abbrev pub tell_failure : List Event → Bool
tell_failure told = list_any is_failure told

-- of a sender that fails or sends data
abbrev pub tell_sender : List Event → Bool
tell_sender told = list_any is_of_sender told

-- from a sender that has failed, or not
abbrev pub Quiet : Bool → List Event → Type 0
Quiet failed [] = Unit {0}
Quiet true (e ∷ told) = (is_of_sender e ≡ false) × Quiet true told
Quiet false (e ∷ told) = Quiet (is_failure e) told

-- and it has failed behind it where it had, or where that is told
pub record Runs (before : Bool) (told : List Event) (after : Bool) : Type 0 where
  pub quiet : Quiet before told
  pub after_is : after ≡ before || tell_failure told

-- ---- lists

or_then : (a b c : Bool) → (a || b) || c ≡ a || (b || c)
or_then true b c = refl
or_then false b c = refl

pub any_both : (test : Event → Bool) (xs ys : List Event)
    → list_any test (xs ++ ys) ≡ list_any test xs || list_any test ys
any_both test [] ys = refl
any_both test (x ∷ xs) ys =
    ap (λ (b : Bool). test x || b) (any_both test xs ys)
    ∙ sym (or_then (test x) (list_any test xs) (list_any test ys))

pub none_both : (test : Event → Bool) (xs ys : List Event) → list_any test xs ≡ false → list_any test ys ≡ false
    → list_any test (xs ++ ys) ≡ false
none_both test xs ys p q = any_both test xs ys ∙ ap (λ (b : Bool). b || list_any test ys) p ∙ q

-- what fails is of the sender
fails_so : (e : Event) → is_of_sender e ≡ false → is_failure e ≡ false
fails_so (events.Fail lcid sn) h = absurd cc
fails_so e h = refl

pub still_so : (told : List Event) → tell_sender told ≡ false → tell_failure told ≡ false
still_so [] h = refl
still_so (e ∷ told) h =
    let parts = both_false (is_of_sender e) (tell_sender told) h in
    ap (λ (b : Bool). b || tell_failure told) (fails_so e parts.0) ∙ still_so told parts.1

-- ---- quiet lists

quiet_still : (failed : Bool) (told : List Event) → tell_sender told ≡ false → Quiet failed told
quiet_still failed [] h = tt
quiet_still true (e ∷ told) h =
    let parts = both_false (is_of_sender e) (tell_sender told) h in
    (parts.0, quiet_still true told parts.1)
quiet_still false (e ∷ told) h =
    let parts = both_false (is_of_sender e) (tell_sender told) h in
    quiet_still (is_failure e) told parts.1

quiet_sending : (told : List Event) → tell_failure told ≡ false → Quiet false told
quiet_sending [] h = tt
quiet_sending (e ∷ told) h =
    let parts = both_false (is_failure e) (tell_failure told) h in
    subst (λ (b : Bool). Quiet b told) (sym parts.0) (quiet_sending told parts.1)

quiet_then : (failed : Bool) (xs ys : List Event) → Quiet failed xs → Quiet (failed || tell_failure xs) ys
    → Quiet failed (xs ++ ys)
quiet_then true [] ys p q = q
quiet_then false [] ys p q = q
quiet_then true (x ∷ xs) ys p q = (p.0, quiet_then true xs ys p.1 q)
quiet_then false (x ∷ xs) ys p q = quiet_then (is_failure x) xs ys p q

or_none : (b : Bool) → b || false ≡ b
or_none true = refl
or_none false = refl

-- ---- runs

pub runs_still : (failed : Bool) (told : List Event) → tell_sender told ≡ false → Runs failed told failed
runs_still failed told h = record {
  quiet = quiet_still failed told h;
  after_is = sym (ap (λ (b : Bool). failed || b) (still_so told h) ∙ or_none failed);
}

-- a sender that hasn't failed may send
pub runs_sending : (told : List Event) → tell_failure told ≡ false → Runs false told false
runs_sending told h = record { quiet = quiet_sending told h; after_is = sym h }

pub runs_then : (a b c : Bool) (xs ys : List Event) → Runs a xs b → Runs b ys c → Runs a (xs ++ ys) c
runs_then a b c xs ys p q = record {
  quiet = quiet_then a xs ys p.quiet (subst (λ (d : Bool). Quiet d ys) p.after_is q.quiet);
  after_is =
      q.after_is ∙ ap (λ (d : Bool). d || tell_failure ys) p.after_is ∙ or_then a (tell_failure xs) (tell_failure ys)
      ∙ ap (λ (d : Bool). a || d) (sym (any_both is_failure xs ys));
}

pub runs_as : (a b c d : Bool) (told : List Event) → a ≡ c → b ≡ d → Runs c told d → Runs a told b
runs_as a b c d told e f p = subst (λ (x : Bool). Runs x told b) (sym e) (subst (λ (x : Bool). Runs c told x) (sym f) p)

-- ---- in the promise's words

none_of : (told : List Event) → Quiet true told → filter is_of_sender told ≡ []
none_of [] h = refl
none_of (e ∷ told) h = rw h.0 (none_of told h.1)

pub none_behind : (told : List Event) → Quiet false told → filter is_of_sender (behind_failure told) ≡ []
none_behind [] h = refl
none_behind (e ∷ told) h = by_failure (is_failure e) h (none_behind told)
  where
    by_failure : (b : Bool) → Quiet b told → (Quiet false told → filter is_of_sender (behind_failure told) ≡ [])
        → filter is_of_sender (if b then told else behind_failure told) ≡ []
    by_failure true q rest = none_of told q
    by_failure false q rest = rest q
