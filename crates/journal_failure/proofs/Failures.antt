-- A flow fails at one number, once it was named too often, and the limit that is kept is that number.
use Rattle.std.proofs.Common.{◌≡◌, ℕ, ◌+◌, ◌<◌, ◌≤◌, ◌%◌, Bool, true, false, List, [], ◌∷◌, Option}
use Rattle.std.proofs.Common.{Some, None, inl, inr, ap, sym, ◌∙◌, arith, subst, if◌then◌else◌}
use Rattle.std.specs.Prelude.{MatchOption, is_some, ◌||◌, ◌&&◌, not, ◌==◌}
use Rattle.std.proofs.lemmas.Bool.{cases_lt}
use Rattle.rlc_pdu.specs.declared.constants.TheConstants.{AM_MODULUS}
use Rattle.journal_account.specs.FlowEvents.{FlowEvent, IsHistory}
use Rattle.journal_account.specs.Waiting.{IsWithin, FailsNow, FailsAt, namings, names, names_old, waits}
use Rattle.journal_account.specs.FlowAccount.{FlowAccount}
use Rattle.journal_account.proofs.Accounts.{accounts_are_true}
use Rattle.journal_lives.specs.FlowLives.{lives_of}
use Rattle.journal_lives.specs.LifeEvents.{LifeEvent, PduGiven, InLife, LifeEnded, running, AreLives}
use Rattle.journal_lives.proofs.LivesTold.{lives_are_true}
use Rattle.journal_failure.specs.RightFailure.{HasFailed, AreFailsOf}
use Rattle.journal_failure.specs.Checking.{sn_due}

grows : (e : FlowEvent) (es : List FlowEvent) (n : ℕ) → namings es n ≤ namings (e ∷ es) n
grows e es n = by (names e (waits es) es n && ((namings es n == 0) || not (names_old e es n)))
  where
    by : (b : Bool) → namings es n ≤ (if b then namings es n + 1 else namings es n)
    by true = omega arith
    by false = omega arith

over : (most : ℕ) (es : List FlowEvent) (n : ℕ) → FailsAt most es n → most < namings es n
over most [] n f = absurd f
over most (e ∷ es) n (inl f) = omega (arith, over most es n f, grows e es n)
over most (e ∷ es) n (inr f) = f.over

not_within : (most : ℕ) (es : List FlowEvent) (n : ℕ) → IsWithin most es → FailsAt most es n → ⊥
not_within most es n w f = omega (arith, over most es n f, w n)

one_least : (most : ℕ) (e : FlowEvent) (es : List FlowEvent) (n m : ℕ) → FailsNow most e es n
    → FailsNow most e es m → n ≤ m
one_least most e es n m f g = elim (cases_lt m n) [
  | inl lt ↦ absurd (omega (arith, f.least m lt, g.over))
  | inr le ↦ le
]

pub one_number : (most : ℕ) (es : List FlowEvent) (n m : ℕ) → FailsAt most es n → FailsAt most es m → n ≡ m
one_number most [] n m f g = absurd f
one_number most (e ∷ es) n m (inl f) (inl g) = one_number most es n m f g
one_number most (e ∷ es) n m (inl f) (inr g) = absurd (not_within most es n g.within f)
one_number most (e ∷ es) n m (inr f) (inl g) = absurd (not_within most es m f.within g)
one_number most (e ∷ es) n m (inr f) (inr g) =
    omega (arith, one_least most e es n m f g, one_least most e es m n g f)

-- ---- the limit that is kept

abbrev pub IsLimit : ℕ → List FlowEvent → Option ℕ → Type 0
IsLimit most es limit = MatchOption limit (IsWithin most es) (FailsAt most es)

histories : (es : List LifeEvent) → AreLives es → IsHistory (running es)
histories [] h = tt
histories (PduGiven count size ∷ es) h = (tt, histories es h.1)
histories (InLife e ∷ es) h = (h.0.1, histories es h.1)
histories (LifeEnded ∷ es) h = tt

pub limit_is : (most first : ℕ) (es : List LifeEvent) → AreLives es
    → IsLimit most (running es) (lives_of most first es).account.sending.limit
limit_is most first es h =
    subst (λ (a : FlowAccount). IsLimit most (running es) a.sending.limit)
    (sym (lives_are_true most first es h).account)
    (accounts_are_true most (running es) (histories es h)).sending.limit

-- ---- the SNs that are due

abbrev pub sns_of : Option ℕ → List ℕ
sns_of None = []
sns_of (Some sn) = sn ∷ []

none_before : (most : ℕ) (before : List FlowEvent) → IsWithin most before → HasFailed most before → ⊥
none_before most before w h = not_within most before h.0 w h.1

pub due_sound : (most : ℕ) (before now : List FlowEvent) (was is : Option ℕ) → IsLimit most before was
    → IsLimit most now is → (sns : List ℕ) → sns ≡ sns_of (sn_due (is_some was) is)
    → AreFailsOf most before now sns
due_sound most before now (Some m) is b n sns e = record {
  within = λ w. e;
  failed = λ f. e;
  fails = λ not_failed k f. absurd (not_failed (m, b));
}
due_sound most before now None None b n sns e = record {
  within = λ w. e;
  failed = λ f. e;
  fails = λ not_failed k f. absurd (not_within most now k n f);
}
due_sound most before now None (Some m) b n sns e = record {
  within = λ w. absurd (not_within most now m w n);
  failed = λ f. absurd (none_before most before b f);
  fails = λ not_failed k f.
      e ∙ ap (λ (i : ℕ). i % AM_MODULUS ∷ []) (one_number most now m k n f);
}

pub due_complete : (most : ℕ) (before now : List FlowEvent) (was is : Option ℕ) → IsLimit most before was
    → IsLimit most now is → (sns : List ℕ) → AreFailsOf most before now sns
    → sns ≡ sns_of (sn_due (is_some was) is)
due_complete most before now (Some m) is b n sns h = h.failed (m, b)
due_complete most before now None None b n sns h = h.within n
due_complete most before now None (Some m) b n sns h = h.fails (none_before most before b) m n
