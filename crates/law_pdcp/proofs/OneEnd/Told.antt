-- What a report tells is left out of what is taken again, and nothing else.
use Rattle.std.proofs.Common.{◌≡◌, ◌⊎◌, ℕ, suc, zero, ◌-◌, Bool, true, false, List, [], ◌∷◌, ◌++◌, take, Option, Some}
use Rattle.std.proofs.Common.{None, length, get_or, All, Contains, ◌<◌, ⊎_elim, inl, inr, append_assoc, subst, refl}
use Rattle.std.proofs.Common.{sym, ◌∙◌, arith}
use Rattle.std.proofs.lemmas.Bool.{or_left, or_right}
use Rattle.std.proofs.lemmas.List.Elements.{All-nil, All-cons, Contains-append_left, Contains-append_right}
use Rattle.std.proofs.lemmas.List.Elements.{Contains-append_cases}
use Rattle.pdcp_tx_store.specs.declared.given.Sent.{Sent}
use Rattle.pdcp_tx_store.specs.Waiting.{Waits}
use Rattle.pdcp_tx_store.specs.Given.{tells, untold}
use Rattle.pdcp_tx.specs.State.{State, submitted, took, took_owed, took_again, took_new, confirmed, reported}
use Rattle.pdcp_tx.specs.State.{reported_from, fms_count, after_late}
use Rattle.pdcp_tx.specs.Runs.{Call, Submit, Take, Confirm, Report, Owe, Tick, Late, after}
use Rattle.law_words.specs.Lists.{IsSubsequence}
use Rattle.law_pdcp.specs.OneEnd.Again.{again_behind, takes_again, taken_again, after_all, all_again, is_told_from}
use Rattle.law_pdcp.specs.OneEnd.Again.{is_told_by, is_told_in, LeavesOutWhatIsTold, IsUntold, LeavesOutTheTold}
use Rattle.law_pdcp.proofs.OneEnd.Lists.{same, thinner, behind, all_left}
use Rattle.law_pdcp.proofs.OneEnd.Thinning.{untolds}

-- ---- one call

new_again : (s : State) (ws : List Waits) → (took_new ws s).again ≡ s.again
new_again s [] = refl
new_again s (w ∷ ws) = refl

first_again : (s : State) (xs : List Sent) → s.again ≡ xs → take 1 xs ++ (took_again xs s).again ≡ xs
first_again s [] e = new_again s (take (s.bound - s.next) s.waiting) ∙ e
first_again s (x ∷ xs) e = refl

owed_again : (s : State) (o : Option (List ℕ)) → again_behind o s.again ++ (took_owed o s).again ≡ s.again
owed_again s None = first_again s s.again refl
owed_again s (Some r) = refl

report_part : (s : State) (c : Option ℕ) (bitmap : List ℕ) → IsSubsequence (reported_from c s bitmap).again s.again
report_part s None bitmap = same s.again
report_part s (Some from) bitmap = untolds from bitmap s.again

call_part : (s : State) (c : Call) → IsSubsequence (takes_again s c ++ (after s c).again) s.again
unfolding submitted took confirmed reported after_late
call_part s (Submit sdu) = same s.again
call_part s Take = subst (λ l. IsSubsequence l s.again) (sym (owed_again s s.owed)) (same s.again)
call_part s (Confirm place) = same s.again
call_part s (Report fms bitmap) = report_part s (fms_count s.kind s.base fms) bitmap
call_part s (Owe report) = same s.again
call_part s Tick = same s.again
call_part s Late = same s.again

order : (s : State) (cs : List Call) → IsSubsequence (all_again s cs) s.again
order s [] = same s.again
order s (c ∷ cs) =
    subst (λ l. IsSubsequence l s.again)
    (sym (append_assoc (takes_again s c) (taken_again (after s c) cs) (after_all (after s c) cs).again))
    (thinner (takes_again s c ++ all_again (after s c) cs) (takes_again s c ++ (after s c).again) s.again
    (behind (takes_again s c) (all_again (after s c) cs) (after s c).again (order (after s c) cs)) (call_part s c))

-- ---- what is left out was told

first : (x y : Sent) (ys : List Sent) → y ≡ x → Contains (y ∷ ys) x
first x y ys e = (0, omega arith, e)

later : (x y : Sent) (ys : List Sent) → Contains ys x → Contains (y ∷ ys) x
later x y ys h = (suc h.0, omega (arith, h.1), h.2)

first_or_later : (x y : Sent) (ys : List Sent) (k : ℕ) → k < length (y ∷ ys) → get_or (y ∷ ys) k x ≡ x
    → (y ≡ x) ⊎ Contains ys x
first_or_later x y ys zero lt e = inl e
first_or_later x y ys (suc k) lt e = inr (k, omega (arith, lt), e)

-- an SDU is left by a report, or told by it
abbrev IsLeftOrTold : ℕ → List ℕ → List Sent → Sent → Type 0
IsLeftOrTold from bitmap xs x = Contains (untold from bitmap xs) x ⊎ (tells from bitmap x.count ≡ true)

later_left : (from : ℕ) (bitmap : List ℕ) (x y : Sent) (ys : List Sent) (b : Bool) → tells from bitmap y.count ≡ b
    → IsLeftOrTold from bitmap ys x → IsLeftOrTold from bitmap (y ∷ ys) x
later_left from bitmap x y ys true e (inl r) = inl (rw e r)
later_left from bitmap x y ys false e (inl r) = inl (rw e (later x y (untold from bitmap ys) r))
later_left from bitmap x y ys b e (inr t) = inr t

first_left : (from : ℕ) (bitmap : List ℕ) (x y : Sent) (ys : List Sent) (b : Bool) → tells from bitmap y.count ≡ b
    → y ≡ x → IsLeftOrTold from bitmap (y ∷ ys) x
first_left from bitmap x y ys true e q = inr (subst (λ (z : Sent). tells from bitmap z.count ≡ true) q e)
first_left from bitmap x y ys false e q = inl (rw e (first x y (untold from bitmap ys) q))

untold_in : (from : ℕ) (bitmap : List ℕ) (xs : List Sent) (x : Sent) → Contains xs x → IsLeftOrTold from bitmap xs x
untold_in from bitmap [] x h = absurd (omega (arith, h.1))
untold_in from bitmap (y ∷ ys) x h = ⊎_elim
    (λ q. first_left from bitmap x y ys (tells from bitmap y.count) refl q)
    (λ r. later_left from bitmap x y ys (tells from bitmap y.count) refl (untold_in from bitmap ys x r))
    (first_or_later x y ys h.0 h.1 h.2)

report_in : (s : State) (c : Option ℕ) (bitmap : List ℕ) (x : Sent) → Contains s.again x
    → Contains (reported_from c s bitmap).again x ⊎ (is_told_from c bitmap x ≡ true)
report_in s None bitmap x h = inl h
report_in s (Some from) bitmap x h = untold_in from bitmap s.again x h

call_in : (s : State) (c : Call) (x : Sent) → Contains s.again x
    → Contains (takes_again s c ++ (after s c).again) x ⊎ (is_told_by s c x ≡ true)
unfolding submitted took confirmed reported after_late
call_in s (Submit sdu) x h = inl h
call_in s Take x h = inl (subst (λ l. Contains l x) (sym (owed_again s s.owed)) h)
call_in s (Confirm place) x h = inl h
call_in s (Report fms bitmap) x h = report_in s (fms_count s.kind s.base fms) bitmap x h
call_in s (Owe report) x h = inl h
call_in s Tick x h = inl h
call_in s Late x h = inl h

all_in : (s : State) (c : Call) (cs : List Call) (x : Sent) → Contains (takes_again s c ++ all_again (after s c) cs) x
    → Contains (all_again s (c ∷ cs)) x
all_in s c cs x r =
    subst (λ l. Contains l x)
    (sym (append_assoc (takes_again s c) (taken_again (after s c) cs) (after_all (after s c) cs).again)) r

by_rest : (s : State) (c : Call) (cs : List Call) (x : Sent)
    → Contains (all_again (after s c) cs) x ⊎ (is_told_in (after s c) cs x ≡ true)
    → Contains (all_again s (c ∷ cs)) x ⊎ (is_told_in s (c ∷ cs) x ≡ true)
by_rest s c cs x (inl r) =
    inl (all_in s c cs x (Contains-append_right (takes_again s c) (all_again (after s c) cs) x r))
by_rest s c cs x (inr t) = inr (or_right (is_told_by s c x) (is_told_in (after s c) cs x) t)

by_place : (s : State) (c : Call) (cs : List Call) (x : Sent)
    → (Contains (after s c).again x → Contains (all_again (after s c) cs) x ⊎ (is_told_in (after s c) cs x ≡ true))
    → Contains (takes_again s c) x ⊎ Contains (after s c).again x
    → Contains (all_again s (c ∷ cs)) x ⊎ (is_told_in s (c ∷ cs) x ≡ true)
by_place s c cs x rest (inl r) =
    inl (all_in s c cs x (Contains-append_left (takes_again s c) (all_again (after s c) cs) x r))
by_place s c cs x rest (inr r) = by_rest s c cs x (rest r)

by_call : (s : State) (c : Call) (cs : List Call) (x : Sent)
    → (Contains (after s c).again x → Contains (all_again (after s c) cs) x ⊎ (is_told_in (after s c) cs x ≡ true))
    → Contains (takes_again s c ++ (after s c).again) x ⊎ (is_told_by s c x ≡ true)
    → Contains (all_again s (c ∷ cs)) x ⊎ (is_told_in s (c ∷ cs) x ≡ true)
by_call s c cs x rest (inl r) = by_place s c cs x rest (Contains-append_cases (takes_again s c) (after s c).again x r)
by_call s c cs x rest (inr t) = inr (or_left (is_told_by s c x) (is_told_in (after s c) cs x) t)

others : (s : State) (cs : List Call) (x : Sent) → Contains s.again x
    → Contains (all_again s cs) x ⊎ (is_told_in s cs x ≡ true)
others s [] x h = inl h
others s (c ∷ cs) x h = by_call s c cs x (others (after s c) cs x) (call_in s c x h)

pub leaves_out : (s : State) (cs : List Call) → LeavesOutWhatIsTold s cs
leaves_out s cs = record { order = order s cs; others = others s cs }

-- ---- what was told isn't taken again

none_step : (from : ℕ) (bitmap : List ℕ) (x : Sent) (xs : List Sent) (b : Bool) → tells from bitmap x.count ≡ b
    → All (IsUntold (Some from) bitmap) (untold from bitmap xs)
    → All (IsUntold (Some from) bitmap) (untold from bitmap (x ∷ xs))
none_step from bitmap x xs true e h = rw e h
none_step from bitmap x xs false e h = rw e (All-cons (IsUntold (Some from) bitmap) x (untold from bitmap xs) e h)

none_told : (from : ℕ) (bitmap : List ℕ) (xs : List Sent) → All (IsUntold (Some from) bitmap) (untold from bitmap xs)
none_told from bitmap [] = All-nil (IsUntold (Some from) bitmap)
none_told from bitmap (x ∷ xs) = none_step from bitmap x xs (tells from bitmap x.count) refl (none_told from bitmap xs)

by_count : (s : State) (c : Option ℕ) (bitmap : List ℕ) → All (IsUntold c bitmap) (reported_from c s bitmap).again
by_count s None bitmap = λ k d lt. refl
by_count s (Some from) bitmap = none_told from bitmap s.again

pub leaves_out_told : (s : State) (fms : ℕ) (bitmap : List ℕ) (cs : List Call) → LeavesOutTheTold s fms bitmap cs
unfolding reported
leaves_out_told s fms bitmap cs =
    all_left (IsUntold (fms_count s.kind s.base fms) bitmap) (all_again (reported s fms bitmap) cs)
    (reported s fms bitmap).again
    (order (reported s fms bitmap) cs) (by_count s (fms_count s.kind s.base fms) bitmap)
