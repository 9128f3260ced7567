-- What is said of numbers one behind the other, entry by entry.
use Rattle.std.proofs.Common.{◌≡◌, ◌<◌, ◌≤◌, ℕ, zero, suc, ◌+◌, ◌-◌, ◌==◌, Bool, true, false, ◌&&◌, List, [], ◌∷◌}
use Rattle.std.proofs.Common.{◌++◌, Option, Some, None, refl, ap, sym, ◌∙◌, arith, inl, inr, length, drop, take}
use Rattle.std.proofs.Common.{slice_get, if◌then◌else◌}
use Rattle.std.specs.Prelude.{option_and_then}
use Rattle.std.proofs.lemmas.Bool.{cases_lt}
use Rattle.std.proofs.lemmas.Bool.Decides.{nat_tests}
use Rattle.std.proofs.lemmas.Option.{slice_get_past}
use Rattle.journal_account.specs.declared.entry.StatusEntry.{StatusEntry}
use Rattle.journal_account.specs.FlowArrivals.{FieldArrivals, field_at}
use Rattle.journal_account.specs.FlowStatus.{said_of_field, said_of_fields, behind_wanted, behind_said, begin_so}
use Rattle.journal_account.specs.FlowStatus.{behind_named}
use Rattle.journal_account.specs.FlowStatus.{is_same_entry}

-- ---- entries one behind the other

and_then_twice : (f g : ℕ → Option ℕ) (o : Option ℕ)
    → option_and_then f (option_and_then g o) ≡ option_and_then (λ (at : ℕ). option_and_then f (g at)) o
and_then_twice f g None = refl
and_then_twice f g (Some at) = refl

same_then : (f g : ℕ → Option ℕ) (o : Option ℕ) → ((at : ℕ) → f at ≡ g at)
    → option_and_then f o ≡ option_and_then g o
same_then f g None same = refl
same_then f g (Some at) same = same at

pub said_both : (xs ys entries : List StatusEntry) (at : ℕ)
    → behind_said (xs ++ ys) entries at ≡ option_and_then (behind_said ys entries) (behind_said xs entries at)
said_both [] ys entries at = refl
said_both (x ∷ xs) ys entries at =
    same_then (behind_said (xs ++ ys) entries)
    (λ (k : ℕ). option_and_then (behind_said ys entries) (behind_said xs entries k))
    (behind_wanted (slice_get entries at) x at) (said_both xs ys entries)
    ∙ sym (and_then_twice (behind_said ys entries) (behind_said xs entries)
    (behind_wanted (slice_get entries at) x at))

-- ---- numbers one behind the other

first_dropped : (fields : List FieldArrivals) (place count : ℕ) → place < count → count ≤ length fields
    → drop place (take count fields) ≡ field_at fields place ∷ drop (place + 1) (take count fields)
first_dropped [] place count lt le = absurd (omega (arith, lt, le))
first_dropped (f ∷ fs) place zero lt le = absurd (omega (arith, lt))
first_dropped (f ∷ fs) zero (suc count) lt le = refl
first_dropped (f ∷ fs) (suc place) (suc count) lt le =
    let next : suc place + 1 ≡ suc (place + 1) = omega arith in
    first_dropped fs place count (omega (arith, lt)) (omega (arith, le))
    ∙ ap (λ (n : ℕ). field_at fs place ∷ drop n (take (suc count) (f ∷ fs))) (sym next)

pub fields_go : (front place count : ℕ) (fields : List FieldArrivals) (entries : List StatusEntry) (at : ℕ)
    → place < count → count ≤ length fields
    → behind_said (said_of_fields (front + place) (drop place (take count fields))) entries at
    ≡ option_and_then
    (behind_said (said_of_fields (front + (place + 1)) (drop (place + 1) (take count fields))) entries)
    (behind_said (said_of_field (front + place) (field_at fields place)) entries at)
fields_go front place count fields entries at lt le =
    let next : front + place + 1 ≡ front + (place + 1) = omega arith in
    rw (first_dropped fields place count lt le)
    (said_both (said_of_field (front + place) (field_at fields place))
    (said_of_fields (front + place + 1) (drop (place + 1) (take count fields))) entries at
    ∙ ap (λ (n : ℕ). option_and_then
    (behind_said (said_of_fields n (drop (place + 1) (take count fields))) entries)
    (behind_said (said_of_field (front + place) (field_at fields place)) entries at)) next)

none_dropped : (fields : List FieldArrivals) (count : ℕ) → drop count (take count fields) ≡ []
none_dropped [] zero = refl
none_dropped [] (suc count) = refl
none_dropped (f ∷ fs) zero = refl
none_dropped (f ∷ fs) (suc count) = none_dropped fs count

pub fields_end : (front count : ℕ) (fields : List FieldArrivals) (entries : List StatusEntry) (at : ℕ)
    → behind_said (said_of_fields (front + count) (drop count (take count fields))) entries at ≡ Some at
fields_end front count fields entries at = rw (none_dropped fields count) refl

-- ---- entries begin so where they end

abbrev pub is_at : ℕ → Option ℕ → Bool
is_at n None = false
is_at n (Some at) = at == n

record StandsAt (es : List StatusEntry) (at : ℕ) : Type 0 where
  one : StatusEntry
  get : slice_get es at ≡ Some one
  left : drop at es ≡ one ∷ drop (at + 1) es

stands_at : (es : List StatusEntry) (at : ℕ) → at < length es → StandsAt es at
stands_at [] at lt = absurd (omega (arith, lt))
stands_at (e ∷ es) zero lt = record { one = e; get = refl; left = refl }
stands_at (e ∷ es) (suc at) lt = let more = stands_at es at (omega (arith, lt)) in
    let next : suc at + 1 ≡ suc (at + 1) = omega arith in
    record {
      one = more.one;
      get = more.get;
      left = more.left ∙ ap (λ (n : ℕ). more.one ∷ drop n (e ∷ es)) (sym next);
    }

get_past : (es : List StatusEntry) (at : ℕ) → length es ≤ at → slice_get es at ≡ None
get_past es at le = slice_get_past es at le

drop_past : (es : List StatusEntry) (at : ℕ) → length es ≤ at → drop at es ≡ []
drop_past [] zero le = refl
drop_past [] (suc at) le = refl
drop_past (e ∷ es) zero le = absurd (omega (arith, le))
drop_past (e ∷ es) (suc at) le = drop_past es at (omega (arith, le))

stays_at_end : (said es : List StatusEntry) (at : ℕ) → slice_get es at ≡ None → behind_said said es at ≡ Some at
stays_at_end [] es at none = refl
stays_at_end (s ∷ said) es at none = rw none (stays_at_end said es at none)

eq_not : (a b : ℕ) → a < b → (a == b) ≡ false
eq_not a b lt = grind (arith, nat_tests)

eq_so : (a b : ℕ) → a ≡ b → (a == b) ≡ true
eq_so a b e = grind (arith, nat_tests)

at_its_end : (said es : List StatusEntry) (at : ℕ) → at ≤ length es → length es ≤ at
    → begin_so (drop at es) said ≡ is_at (length es) (behind_said said es at)
at_its_end said es at le ge =
    let end : at ≡ length es = omega (arith, le, ge) in
    rw (drop_past es at ge)
    (sym (rw (stays_at_end said es at (get_past es at ge)) (eq_so at (length es) end)))

pub begins : (said es : List StatusEntry) (at : ℕ) → at ≤ length es
    → begin_so (drop at es) said ≡ is_at (length es) (behind_said said es at)
begins [] es at le = elim (cases_lt at (length es)) [
  | inl lt ↦ rw (stands_at es at lt).left (sym (eq_not at (length es) lt))
  | inr ge ↦ at_its_end [] es at le ge
]
begins (s ∷ said) es at le = elim (cases_lt at (length es)) [
  | inl lt ↦
      let stands = stands_at es at lt in
      rw (stands.left, stands.get)
      (next (is_same_entry stands.one s) (begins said es (at + 1) (omega (arith, lt))))
  | inr ge ↦ at_its_end (s ∷ said) es at le ge
]
  where
    next : (same : Bool)
        → begin_so (drop (at + 1) es) said ≡ is_at (length es) (behind_said said es (at + 1))
        → (same && begin_so (drop (at + 1) es) said)
        ≡ is_at (length es) (option_and_then (behind_said said es) (if same then Some (at + 1) else None))
    next true more = more
    next false more = refl

-- ---- the last entry

last_from : (e : StatusEntry) (es : List StatusEntry) (last : StatusEntry) → slice_get (e ∷ es) (length es) ≡ Some last
    → behind_named (e ∷ es) ≡ last.number + 1
last_from e [] last is = let same : e ≡ last = cc in ap (λ (x : StatusEntry). x.number + 1) same
last_from e (f ∷ es) last is = last_from f es last is

pub last_is : (es : List StatusEntry) (last : StatusEntry) → Some last ≡ slice_get es (length es - 1)
    → last.number + 1 ≡ behind_named es
last_is [] last is = absurd cc
last_is (e ∷ es) last is =
    let at : suc (length es) - 1 ≡ length es = omega arith in
    sym (last_from e es last (sym (is ∙ ap (slice_get (e ∷ es)) at)))
