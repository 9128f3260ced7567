-- A flow that has failed stays so, at its number: so the SNs that are told of stretches of a history are those of the
-- whole.
use Rattle.std.proofs.Common.{◌≡◌, ℕ, ◌%◌, List, [], ◌∷◌, ◌++◌, Option, Some, None, inl, refl, ap, sym}
use Rattle.std.proofs.Common.{subst, ◌∙◌, arith, append_assoc}
use Rattle.std.specs.List.{AllByRecursion}
use Rattle.std.specs.Prelude.{is_some}
use Rattle.rlc_pdu.specs.declared.constants.TheConstants.{AM_MODULUS}
use Rattle.journal_account.specs.FlowAccount.{account_of}
use Rattle.journal_account.specs.FlowEvents.{FlowEvent, SduTaken, NumberWritten, OctetsResent, OctetsArrived}
use Rattle.journal_account.specs.FlowEvents.{ReorderStarted, ReorderExpired, StatusHeard, PollExpired, IsHistory}
use Rattle.journal_account.specs.FlowEvents.{next_of}
use Rattle.journal_account.specs.Waiting.{IsWithin, FailsAt}
use Rattle.journal_account.proofs.Accounts.{accounts_are_true}
use Rattle.journal_failure.specs.Checking.{sn_due}
use Rattle.journal_failure.specs.RightFailure.{AreFailsOf}
use Rattle.journal_failure.proofs.Failures.{IsLimit, one_number, sns_of, due_sound, due_complete}
use Rattle.law_account.specs.History.{IsOfReceiver, with_told}
use Rattle.law_sound.specs.FailLaws.{GoesOnTo, LogsGoOn, ReceiversFailNone, FailsJoin}
use Rattle.law_sound.specs.LogLaws.{entry_told, with_log}

-- ---- events behind a history

pub goes_then : (es mid now : List FlowEvent) → GoesOnTo es mid → GoesOnTo mid now → GoesOnTo es now
goes_then es mid now (xs, p) (ys, q) =
    (ys ++ xs, q ∙ (ap (λ (zs : List FlowEvent). ys ++ zs) p ∙ sym (append_assoc ys xs es)))

told_on : (o : Option FlowEvent) (es : List FlowEvent) → GoesOnTo es (with_told o es)
told_on None es = ([], refl)
told_on (Some e) es = (e ∷ [], refl)

pub logs_go_on : LogsGoOn
logs_go_on kind more [] es = ([], refl)
logs_go_on kind more (x ∷ log) es =
    let o = entry_told kind more (next_of es) x in
    goes_then es (with_told o es) (with_log kind more log (with_told o es)) (told_on o es)
    (logs_go_on kind more log (with_told o es))

part_of : (more es : List FlowEvent) → IsHistory (more ++ es) → IsHistory es
part_of [] es h = h
part_of (e ∷ more) es h = part_of more es h.1

-- ---- it fails at a number once

stays_failed : (most : ℕ) (more es : List FlowEvent) (n : ℕ) → FailsAt most es n → FailsAt most (more ++ es) n
stays_failed most [] es n f = f
stays_failed most (e ∷ more) es n f = inl (stays_failed most more es n f)

none_within : (most : ℕ) → IsWithin most []
none_within most n = omega arith

-- and then a number was named too often
not_within : (most : ℕ) (es : List FlowEvent) (n : ℕ) → IsWithin most es → FailsAt most es n → ⊥
not_within most es n w f =
    let h : AreFailsOf most [] es [] = due_sound most [] es None None (none_within most) w [] refl in
    let no : [] ≡ n % AM_MODULUS ∷ [] = h.fails (λ x. x.1) n f in
    absurd cc

-- ---- what is told of both

same_due : (o : Option ℕ) → sns_of (sn_due (is_some o) o) ≡ []
same_due None = refl
same_due (Some n) = refl

module _ (most : ℕ) (mid now : List FlowEvent) (goes : (n : ℕ) → FailsAt most mid n → FailsAt most now n) where
  both_due : (es : List FlowEvent) → ((n : ℕ) → FailsAt most es n → FailsAt most mid n)
      → (was half is : Option ℕ) → IsLimit most es was → IsLimit most mid half → IsLimit most now is
      → sns_of (sn_due (is_some was) half) ++ sns_of (sn_due (is_some half) is) ≡ sns_of (sn_due (is_some was) is)
  both_due es first (Some n) None is b m k = absurd (not_within most mid n m (first n b))
  both_due es first (Some n) (Some i) is b m k = refl
  both_due es first None None is b m k = refl
  both_due es first None (Some i) None b m k = absurd (not_within most now i k (goes i m))
  both_due es first None (Some i) (Some j) b m k =
      ap (λ (n : ℕ). n % AM_MODULUS ∷ []) (one_number most now i j (goes i m) k)

pub fails_join : FailsJoin
fails_join most es mid now sns later h (xs, p) (ys, q) f g =
    let k : IsHistory mid = part_of ys mid (subst IsHistory q h) in
    let i : IsHistory es = part_of xs es (subst IsHistory p k) in
    let a = (accounts_are_true most es i).sending.limit in
    let b = (accounts_are_true most mid k).sending.limit in
    let c = (accounts_are_true most now h).sending.limit in
    let was = (account_of most es).sending.limit in
    let half = (account_of most mid).sending.limit in
    let is = (account_of most now).sending.limit in
    due_sound most es now was is a c (sns ++ later)
    (ap (λ (l : List ℕ). l ++ later) (due_complete most es mid was half a b sns f)
    ∙ (ap (λ (l : List ℕ). sns_of (sn_due (is_some was) half) ++ l) (due_complete most mid now half is b c later g)
    ∙ both_due most mid now
    (λ n x. subst (λ (es' : List FlowEvent). FailsAt most es' n) (sym q) (stays_failed most ys mid n x)) es
    (λ n x. subst (λ (es' : List FlowEvent). FailsAt most es' n) (sym p) (stays_failed most xs es n x)) was half is a b
    c))

-- ---- at the flow's receiver

one_same : (most : ℕ) (e : FlowEvent) (es : List FlowEvent) → IsOfReceiver e
    → (account_of most (e ∷ es)).sending.limit ≡ (account_of most es).sending.limit
one_same most (SduTaken size) es is = absurd is
one_same most (NumberWritten size) es is = absurd is
one_same most (OctetsResent n from to) es is = absurd is
one_same most (OctetsArrived n from to) es is = refl
one_same most ReorderStarted es is = refl
one_same most ReorderExpired es is = refl
one_same most (StatusHeard ack entries) es is = absurd is
one_same most (PollExpired more) es is = absurd is

all_same : (most : ℕ) (more es : List FlowEvent) → AllByRecursion IsOfReceiver more
    → (account_of most (more ++ es)).sending.limit ≡ (account_of most es).sending.limit
all_same most [] es all = refl
all_same most (e ∷ more) es all = one_same most e (more ++ es) all.0 ∙ all_same most more es all.1

pub receivers_fail_none : ReceiversFailNone
receivers_fail_none most es more all h =
    let now = more ++ es in
    let was = (account_of most es).sending.limit in
    let is = (account_of most now).sending.limit in
    due_sound most es now was is (accounts_are_true most es (part_of more es h)).sending.limit
    (accounts_are_true most now h).sending.limit []
    (sym (ap (λ (o : Option ℕ). sns_of (sn_due (is_some was) o)) (all_same most more es all) ∙ same_due was))
