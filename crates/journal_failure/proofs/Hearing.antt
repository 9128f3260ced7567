-- What a sender's events leave of it: the SNs that are told, and whether it is silent behind a failure.
use Rattle.std.proofs.Common.{◌≡◌, ℕ, ◌≤◌, Bool, true, false, List, [], ◌∷◌, ◌++◌, length, Option}
use Rattle.std.proofs.Common.{Some, None, inl, inr, ◌⊎◌, refl, ap, sym, ◌∙◌, arith, subst, if◌then◌else◌}
use Rattle.std.proofs.Common.{append-nil, append_assoc, length-append}
use Rattle.std.specs.Prelude.{is_some, ◌||◌, ◌&&◌, not, ◌==◌, cond}
use Rattle.std.specs.List.{filter}
use Rattle.std.proofs.lemmas.Bool.{or_from, or_left, or_right, or_parts}
use Rattle.std.proofs.lemmas.Bool.{and_parts, and_from, eqb-true, eq-eqb, false≢true}
use Rattle.bearer_types.specs.declared.event.Event.{Event}
use Rattle.bearer_types.specs.declared.event.Event.TheVariants.{Send, Fail}
use Rattle.promises.specs.Events.{is_on, told_on, fails_in, fails_on}
use Rattle.promises.specs.Silent.{is_data, is_failure, is_of_sender, behind_failure}
use Rattle.journal_failure.specs.declared.sender.Sender.{Sender}
use Rattle.journal_failure.specs.Checking.{with_fail, with_data, is_sender_right, sn_due, same_sn}
use Rattle.journal_failure.proofs.Failures.{sns_of}

abbrev pub heard : ℕ → Event → Sender → Sender
heard l (Fail lcid sn) s = if lcid == l then with_fail sn s else s
heard l (Send lcid how sn) s = if lcid == l then (if is_data how then with_data s else s) else s
heard l e s = s

abbrev pub all_heard : ℕ → List Event → Sender → Sender
all_heard l [] s = s
all_heard l (e ∷ es) s = all_heard l es (heard l e s)

-- ---- silence

abbrev pub gave_in : Bool → List Event → Bool
gave_in gave [] = gave
gave_in gave (e ∷ told) = gave_in (gave || is_failure e) told

abbrev pub loud : Bool → List Event → Bool
loud gave [] = false
loud gave (e ∷ told) = (gave && is_of_sender e) || loud (gave || is_failure e) told

or_none : (b : Bool) → b ≡ (b || false)
or_none true = refl
or_none false = refl

pub and_all : (b : Bool) → b ≡ (b && true)
and_all true = refl
and_all false = refl

and_none : (b : Bool) → false ≡ (b && false)
and_none true = refl
and_none false = refl

or_assoc : (a b c : Bool) → ((a || b) || c) ≡ (a || (b || c))
or_assoc true b c = refl
or_assoc false b c = refl

gave_one : (l : ℕ) (e : Event) (s : Sender)
    → (heard l e s).gave_up ≡ (if is_on l e then s.gave_up || is_failure e else s.gave_up)
gave_one l (Fail lcid sn) s = by (lcid == l)
  where
    by : (b : Bool) → (if b then with_fail sn s else s).gave_up ≡ (if b then s.gave_up || true else s.gave_up)
    by true = sym (or_right s.gave_up true refl)
    by false = refl
gave_one l (Send lcid how sn) s = by (lcid == l) (is_data how)
  where
    by : (b d : Bool) → (if b then (if d then with_data s else s) else s).gave_up
        ≡ (if b then s.gave_up || false else s.gave_up)
    by true true = or_none s.gave_up
    by true false = or_none s.gave_up
    by false d = refl
gave_one l e s = by (is_on l e)
  where
    by : (b : Bool) → s.gave_up ≡ (if b then s.gave_up || false else s.gave_up)
    by true = or_none s.gave_up
    by false = refl

quiet : (spoke gave : Bool) → spoke ≡ (spoke || (gave && false))
quiet spoke gave = or_none spoke ∙ ap (λ (b : Bool). spoke || b) (and_none gave)

spoke_one : (l : ℕ) (e : Event) (s : Sender)
    → (heard l e s).spoke ≡ (if is_on l e then s.spoke || (s.gave_up && is_of_sender e) else s.spoke)
spoke_one l (Fail lcid sn) s = by (lcid == l)
  where
    by : (b : Bool) → (if b then with_fail sn s else s).spoke
        ≡ (if b then s.spoke || (s.gave_up && true) else s.spoke)
    by true = ap (λ (b : Bool). s.spoke || b) (and_all s.gave_up)
    by false = refl
spoke_one l (Send lcid how sn) s = by (lcid == l) (is_data how)
  where
    by : (b d : Bool) → (if b then (if d then with_data s else s) else s).spoke
        ≡ (if b then s.spoke || (s.gave_up && d) else s.spoke)
    by true true = ap (λ (b : Bool). s.spoke || b) (and_all s.gave_up)
    by true false = quiet s.spoke s.gave_up
    by false d = refl
spoke_one l e s = by (is_on l e)
  where
    by : (b : Bool) → s.spoke ≡ (if b then s.spoke || (s.gave_up && false) else s.spoke)
    by true = quiet s.spoke s.gave_up
    by false = refl

pub gave_is : (l : ℕ) (es : List Event) (s : Sender)
    → (all_heard l es s).gave_up ≡ gave_in s.gave_up (told_on l es)
gave_is l [] s = refl
gave_is l (e ∷ es) s =
    gave_is l es (heard l e s) ∙ ap (λ (g : Bool). gave_in g (told_on l es)) (gave_one l e s) ∙ by (is_on l e)
  where
    by : (b : Bool) → gave_in (if b then s.gave_up || is_failure e else s.gave_up) (told_on l es)
        ≡ gave_in s.gave_up (cond b (e ∷ told_on l es) (told_on l es))
    by true = refl
    by false = refl

pub spoke_is : (l : ℕ) (es : List Event) (s : Sender)
    → (all_heard l es s).spoke ≡ (s.spoke || loud s.gave_up (told_on l es))
spoke_is l [] s = or_none s.spoke
spoke_is l (e ∷ es) s =
    spoke_is l es (heard l e s)
    ∙ ap (λ (g : Bool). (heard l e s).spoke || loud g (told_on l es)) (gave_one l e s)
    ∙ ap (λ (b : Bool). b || loud (if is_on l e then s.gave_up || is_failure e else s.gave_up) (told_on l es))
    (spoke_one l e s)
    ∙ by (is_on l e)
  where
    by : (b : Bool) → ((if b then s.spoke || (s.gave_up && is_of_sender e) else s.spoke)
        || loud (if b then s.gave_up || is_failure e else s.gave_up) (told_on l es))
        ≡ (s.spoke || loud s.gave_up (cond b (e ∷ told_on l es) (told_on l es)))
    by true =
        or_assoc s.spoke (s.gave_up && is_of_sender e) (loud (s.gave_up || is_failure e) (told_on l es))
    by false = refl

pub gave_append : (gave : Bool) (xs ys : List Event) → gave_in gave (xs ++ ys) ≡ gave_in (gave_in gave xs) ys
gave_append gave [] ys = refl
gave_append gave (e ∷ xs) ys = gave_append (gave || is_failure e) xs ys

pub loud_append : (gave : Bool) (xs ys : List Event)
    → loud gave (xs ++ ys) ≡ (loud gave xs || loud (gave_in gave xs) ys)
loud_append gave [] ys = refl
loud_append gave (e ∷ xs) ys =
    ap (λ (b : Bool). (gave && is_of_sender e) || b) (loud_append (gave || is_failure e) xs ys)
    ∙ sym (or_assoc (gave && is_of_sender e) (loud (gave || is_failure e) xs)
    (loud (gave_in (gave || is_failure e) xs) ys))

behind_sound : (told : List Event) → loud true told ≡ false → filter is_of_sender told ≡ []
behind_sound [] h = refl
behind_sound (e ∷ told) h =
    let p = or_parts (is_of_sender e) (loud true told) h in
    ap (λ (b : Bool). cond b (e ∷ filter is_of_sender told) (filter is_of_sender told)) p.0 ∙ behind_sound told p.1

behind_complete : (told : List Event) → filter is_of_sender told ≡ [] → loud true told ≡ false
behind_complete [] h = refl
behind_complete (e ∷ told) h = by (behind_complete told) (is_of_sender e) refl h
  where
    by : (filter is_of_sender told ≡ [] → loud true told ≡ false) → (b : Bool) → is_of_sender e ≡ b
        → cond b (e ∷ filter is_of_sender told) (filter is_of_sender told) ≡ []
        → (is_of_sender e || loud true told) ≡ false
    by more true is h' = absurd cc
    by more false is h' = or_from (is_of_sender e) (loud true told) is (more h')

pub silent_sound : (told : List Event) → loud false told ≡ false
    → filter is_of_sender (behind_failure told) ≡ []
silent_sound [] h = refl
silent_sound (e ∷ told) h = by (silent_sound told) (is_failure e) refl
  where
    by : (loud false told ≡ false → filter is_of_sender (behind_failure told) ≡ []) → (b : Bool)
        → is_failure e ≡ b → filter is_of_sender (if b then told else behind_failure told) ≡ []
    by more true is = behind_sound told (ap (λ (b : Bool). loud b told) (sym is) ∙ h)
    by more false is = more (ap (λ (b : Bool). loud b told) (sym is) ∙ h)

pub silent_complete : (told : List Event) → filter is_of_sender (behind_failure told) ≡ []
    → loud false told ≡ false
silent_complete [] h = refl
silent_complete (e ∷ told) h = by (silent_complete told) (is_failure e) refl h
  where
    by : (filter is_of_sender (behind_failure told) ≡ [] → loud false told ≡ false) → (b : Bool)
        → is_failure e ≡ b → filter is_of_sender (if b then told else behind_failure told) ≡ []
        → loud (is_failure e) told ≡ false
    by more true is h' = ap (λ (b : Bool). loud b told) is ∙ behind_complete told h'
    by more false is h' = ap (λ (b : Bool). loud b told) is ∙ more h'

-- ---- the SNs that are told

abbrev pub Told : Sender → List ℕ → Type 0
Told s sns = ((s.twice ≡ false) × (sns ≡ sns_of s.told)) ⊎ ((s.twice ≡ true) × (2 ≤ length sns))

grown : (sn : ℕ) (s : Sender) (sns : List ℕ) → Told s sns → Told (with_fail sn s) (sns ++ sn ∷ [])
grown sn s sns (inl h) = by s.told refl
  where
    by : (o : Option ℕ) → s.told ≡ o → Told (with_fail sn s) (sns ++ sn ∷ [])
    by None e = inl (
      or_from s.twice (is_some s.told) h.0 (ap (λ (o : Option ℕ). is_some o) e),
      ap (λ (l : List ℕ). l ++ sn ∷ []) (h.1 ∙ ap sns_of e),
    )
    by (Some a) e =
        let long : length (sns ++ sn ∷ []) ≡ 2 = ap (λ (l : List ℕ). length (l ++ sn ∷ [])) (h.1 ∙ ap sns_of e) in
        inr (or_right s.twice (is_some s.told) (ap (λ (o : Option ℕ). is_some o) e), omega (arith, long))
grown sn s sns (inr h) =
    inr (or_left s.twice (is_some s.told) h.0, omega (arith, length-append sns (sn ∷ []), h.1))

told_one : (l : ℕ) (e : Event) (s : Sender) (sns : List ℕ) → Told s sns
    → Told (heard l e s) (sns ++ fails_in l e)
told_one l (Fail lcid sn) s sns h = by (lcid == l)
  where
    by : (b : Bool) → Told (if b then with_fail sn s else s) (sns ++ (if b then sn ∷ [] else []))
    by true = grown sn s sns h
    by false = subst (Told s) (sym (append-nil sns)) h
told_one l (Send lcid how sn) s sns h =
    subst (Told (heard l (Send lcid how sn) s)) (sym (append-nil sns)) (by (lcid == l) (is_data how))
  where
    by : (b d : Bool) → Told (if b then (if d then with_data s else s) else s) sns
    by true true = h
    by true false = h
    by false d = h
told_one l e s sns h = subst (Told s) (sym (append-nil sns)) h

pub told_all : (l : ℕ) (es : List Event) (s : Sender) (sns : List ℕ) → Told s sns
    → Told (all_heard l es s) (sns ++ fails_on l es)
told_all l [] s sns h = subst (Told s) (sym (append-nil sns)) h
told_all l (e ∷ es) s sns h =
    subst (Told (all_heard l es (heard l e s))) (append_assoc sns (fails_in l e) (fails_on l es))
    (told_all l es (heard l e s) (sns ++ fails_in l e) (told_one l e s sns h))

-- ---- what events leave

pub record Leaves (s t : Sender) : Type 0 where
  pub failed : t.failed ≡ s.failed
  pub known : t.known ≡ s.known
  pub begins : t.begins ≡ s.begins

leaves_one : (l : ℕ) (e : Event) (s : Sender) → Leaves s (heard l e s)
leaves_one l (Fail lcid sn) s = by (lcid == l)
  where
    by : (b : Bool) → Leaves s (if b then with_fail sn s else s)
    by true = record { failed = refl; known = refl; begins = refl }
    by false = record { failed = refl; known = refl; begins = refl }
leaves_one l (Send lcid how sn) s = by (lcid == l) (is_data how)
  where
    by : (b d : Bool) → Leaves s (if b then (if d then with_data s else s) else s)
    by true true = record { failed = refl; known = refl; begins = refl }
    by true false = record { failed = refl; known = refl; begins = refl }
    by false d = record { failed = refl; known = refl; begins = refl }
leaves_one l e s = record { failed = refl; known = refl; begins = refl }

pub leaves_all : (l : ℕ) (es : List Event) (s : Sender) → Leaves s (all_heard l es s)
leaves_all l [] s = record { failed = refl; known = refl; begins = refl }
leaves_all l (e ∷ es) s =
    let one = leaves_one l e s in
    let more = leaves_all l es (heard l e s) in
    record {
      failed = more.failed ∙ one.failed;
      known = more.known ∙ one.known;
      begins = more.begins ∙ one.begins;
    }

-- ---- the verdict of one sender

pub record IsRightSender (limit : Option ℕ) (s : Sender) (sns : List ℕ) : Type 0 where
  pub due : sns ≡ sns_of (sn_due s.failed limit)
  pub silent : s.known ≡ true → s.spoke ≡ false

same_sns : (a b : Option ℕ) → same_sn a b ≡ true → sns_of a ≡ sns_of b
same_sns None None h = refl
same_sns None (Some b) h = absurd (false≢true h)
same_sns (Some a) None h = absurd (false≢true h)
same_sns (Some a) (Some b) h = ap (λ (n : ℕ). n ∷ []) (eqb-true a b h)

sns_same : (a b : Option ℕ) → sns_of a ≡ sns_of b → same_sn a b ≡ true
sns_same None None h = refl
sns_same None (Some b) h = absurd cc
sns_same (Some a) None h = absurd cc
sns_same (Some a) (Some b) h =
    let same : a ≡ b = cc in
    eq-eqb a b same

few : (o : Option ℕ) (sns : List ℕ) → sns ≡ sns_of o → 2 ≤ length sns → ⊥
few None sns e h = let long : length sns ≡ 0 = ap (λ (l : List ℕ). length l) e in omega (arith, long, h)
few (Some a) sns e h = let long : length sns ≡ 1 = ap (λ (l : List ℕ). length l) e in omega (arith, long, h)

not_both : (a b : Bool) → not (a && b) ≡ true → a ≡ true → b ≡ false
not_both true true h is = absurd (false≢true h)
not_both true false h is = refl
not_both false b h is = absurd (false≢true is)

both_not : (a b : Bool) → (a ≡ true → b ≡ false) → not (a && b) ≡ true
both_not true b h = ap not (h refl)
both_not false b h = refl

pub sender_sound : (limit : Option ℕ) (s : Sender) (sns : List ℕ) → Told s sns → is_sender_right limit s ≡ true
    → IsRightSender limit s sns
sender_sound limit s sns t h =
    let p = and_parts (not s.twice && same_sn s.told (sn_due s.failed limit)) (not (s.known && s.spoke)) h in
    let q = and_parts (not s.twice) (same_sn s.told (sn_due s.failed limit)) p.0 in
    record {
      due = due_by t q.0 q.1;
      silent = not_both s.known s.spoke p.1;
    }
  where
    due_by : Told s sns → not s.twice ≡ true → same_sn s.told (sn_due s.failed limit) ≡ true
        → sns ≡ sns_of (sn_due s.failed limit)
    due_by (inl h) once same = h.1 ∙ same_sns s.told (sn_due s.failed limit) same
    due_by (inr h) once same = absurd (false≢true (ap not (sym h.0) ∙ once))

pub sender_complete : (limit : Option ℕ) (s : Sender) (sns : List ℕ) → Told s sns → IsRightSender limit s sns
    → is_sender_right limit s ≡ true
sender_complete limit s sns (inl t) h =
    and_from (not s.twice && same_sn s.told (sn_due s.failed limit)) (not (s.known && s.spoke))
    (and_from (not s.twice) (same_sn s.told (sn_due s.failed limit)) (ap not t.0)
    (sns_same s.told (sn_due s.failed limit) (sym t.1 ∙ h.due)))
    (both_not s.known s.spoke h.silent)
sender_complete limit s sns (inr t) h = absurd (few (sn_due s.failed limit) sns h.due t.1)
