-- What is taken of a journal, and what is refused, is one.
use Rattle.std.proofs.Common.{◌≡◌, ◌⊎◌, ◌∙◌, ◌<◌, ◌≤◌, true, ℕ, List, [], ◌∷◌, ◌++◌, refl, ap, sym, subst}
use Rattle.std.proofs.Common.{arith, inl, inr, length}
use Rattle.std.specs.Prelude.{All}
use Rattle.std.proofs.lemmas.List.Elements.{All-head, All-tail}
use Rattle.air_record.specs.declared.record.Record.{Record}
use Rattle.air_text.specs.Groups.{Group}
use Rattle.journal_text.proofs.Whole.{one_of}
use Rattle.journal_check.specs.declared.fault.CheckWhy.{CheckWhy}
use Rattle.journal_check.specs.declared.fault.CheckWhy.TheVariants as words
use Rattle.journal_check.specs.Checks.{IsTextOf, HasNoRecord}
use Rattle.journal_check.specs.Soundness.{Holds, AllHold, FailsFirst}
use Rattle.journal_check.specs.Checked.{IsTaken, IsBadText, IsRefusedAt, IsBehindFault, IsOutOfPlace}
use Rattle.journal_check.specs.Checked.{LastHolds, LastFails}
use Rattle.journal_check.specs.Grouped.{GroupedRecords, no_records, record_count, with_record}
use Rattle.check_command.specs.Checking.{ReadsLines, HasRefused, IsSound, IsUnsound, all_texts}
use Rattle.check_command.specs.Laws.{HasOneAnswer}

-- ---- the first word that isn't true

all-behind : {A : Type 0} (P : A → Type 0) (xs : List A) (x : A) (ys : List A) → All P (xs ++ x ∷ ys) → P x
all-behind P [] x ys h = All-head P x ys h
all-behind P (a ∷ xs) x ys h = all-behind P xs x ys (All-tail P a (xs ++ x ∷ ys) h)

fails-not : (past : List Group) (why : CheckWhy) → AllHold past → FailsFirst past why → ⊥
fails-not past why hold f =
    f.fails (all-behind (λ w. Holds w past) f.before why f.behind
    (subst (λ (ws : List CheckWhy). All (λ w. Holds w past) ws) f.words_are hold))

first-one : {A : Type 0} (P : A → Type 0) (xs : List A) (x : A) (ys xs' : List A) (x' : A) (ys' : List A)
    → xs ++ x ∷ ys ≡ xs' ++ x' ∷ ys' → All P xs → All P xs' → (P x → ⊥) → (P x' → ⊥) → x ≡ x'
first-one P [] x ys [] x' ys' e h h' n n' = cc
first-one P [] x ys (a ∷ xs') x' ys' e h h' n n' =
    let same : x ≡ a = cc in absurd (n (subst P (sym same) (All-head P a xs' h')))
first-one P (a ∷ xs) x ys [] x' ys' e h h' n n' =
    let same : a ≡ x' = cc in absurd (n' (subst P same (All-head P a xs h)))
first-one P (a ∷ xs) x ys (b ∷ xs') x' ys' e h h' n n' =
    let rest : xs ++ x ∷ ys ≡ xs' ++ x' ∷ ys' = cc in
    first-one P xs x ys xs' x' ys' rest (All-tail P a xs h) (All-tail P b xs' h') n n'

fails-one : (past : List Group) (why why' : CheckWhy) → FailsFirst past why → FailsFirst past why' → why ≡ why'
fails-one past why why' f g =
    first-one (λ w. Holds w past) f.before why f.behind g.before why' g.behind (sym f.words_are ∙ g.words_are)
    f.hold g.hold f.fails g.fails

-- ---- a text

text-one : (text : List ℕ) (one other : Record) → IsTextOf text one → IsTextOf text other → one ≡ other
text-one text one other a b = one_of text one other a.text_is b.text_is

-- why there is no record
record NoRecord (count : ℕ) (text : List ℕ) : Type 0 where
  none : (100000000 ≤ count) ⊎ ((one : Record) → IsTextOf text one → ⊥)

no-record : (count : ℕ) (text : List ℕ) (why : CheckWhy) → HasNoRecord count text why → NoRecord count text
no-record count text words.Text h = record { none = inr h.1 }
no-record count text words.Records h = record { none = inl h }
no-record count text why h = absurd h

no-text : (r : GroupedRecords) (text : List ℕ) (at : ℕ) (why : CheckWhy) (one : Record) → IsBadText r text at why
    → record_count r < 100000000 → IsTextOf text one → ⊥
no-text r text at why one bad few is = elim ((no-record (record_count r) text why bad.none).none) [
  | inl many ↦ omega arith
  | inr none ↦ none one is
]

none-one : (count : ℕ) (text : List ℕ) (why why' : CheckWhy) → HasNoRecord count text why
    → HasNoRecord count text why' → why ≡ why'
none-one count text words.Text words.Text h g = refl
none-one count text words.Text words.Records h g = absurd (omega (arith, h.0, g))
none-one count text words.Records words.Text h g = absurd (omega (arith, g.0, h))
none-one count text words.Records words.Records h g = refl
none-one count text words.Text why' h g = absurd g
none-one count text words.Records why' h g = absurd g
none-one count text why why' h g = absurd h

-- ---- the next text is taken, or refused for one reason

place-not : (r : GroupedRecords) (text : List ℕ) (one : Record) (at : ℕ) (why : CheckWhy) → IsTaken r text one
    → IsBehindFault r one at why ⊎ IsOutOfPlace r one at why → ⊥
place-not r text one at why taken (inl fault) = fails-not r.groups why (taken.group fault.ends) fault.fails
place-not r text one at why taken (inr out) = elim out.fault [
  | inl found ↦ let none = taken.place in cc
  | inr found ↦ let none = taken.sum in let there = found.1 in cc
]

pub taken-not : (r : GroupedRecords) (text : List ℕ) (one : Record) (at : ℕ) (why : CheckWhy) → IsTaken r text one
    → IsRefusedAt r text at why → ⊥
taken-not r text one at why taken (inl bad) = no-text r text at why one bad taken.few taken.text_is
taken-not r text one at why taken (inr bad) =
    let same : bad.one ≡ one = text-one text bad.one one bad.text_is taken.text_is in
    place-not r text one at why taken
    (subst (λ (o : Record). IsBehindFault r o at why ⊎ IsOutOfPlace r o at why) same bad.refused)

out-one : (r : GroupedRecords) (one : Record) (at at' : ℕ) (why why' : CheckWhy) → IsOutOfPlace r one at why
    → IsOutOfPlace r one at' why' → why ≡ why'
out-one r one at at' why why' a b = elim a.fault [
  | inl found ↦ elim b.fault [ inl found' ↦ cc | inr found' ↦ let none = found'.0 in cc ]
  | inr found ↦ elim b.fault [
    | inl found' ↦ let none = found.0 in cc
    | inr found' ↦ let e = found.1 in let e' = found'.1 in cc
  ]
]

placed-one : (r : GroupedRecords) (one : Record) (at at' : ℕ) (why why' : CheckWhy)
    → IsBehindFault r one at why ⊎ IsOutOfPlace r one at why
    → IsBehindFault r one at' why' ⊎ IsOutOfPlace r one at' why' → (at ≡ at') × (why ≡ why')
placed-one r one at at' why why' (inl a) (inl b) =
    (a.at_is ∙ sym b.at_is, fails-one r.groups why why' a.fails b.fails)
placed-one r one at at' why why' (inl a) (inr b) = absurd (fails-not r.groups why (b.group a.ends) a.fails)
placed-one r one at at' why why' (inr a) (inl b) = absurd (fails-not r.groups why' (a.group b.ends) b.fails)
placed-one r one at at' why why' (inr a) (inr b) = (a.at_is ∙ sym b.at_is, out-one r one at at' why why' a b)

pub refused-one : (r : GroupedRecords) (text : List ℕ) (at at' : ℕ) (why why' : CheckWhy)
    → IsRefusedAt r text at why → IsRefusedAt r text at' why' → (at ≡ at') × (why ≡ why')
refused-one r text at at' why why' (inl a) (inl b) =
    (a.at_is ∙ sym b.at_is, none-one (record_count r) text why why' a.none b.none)
refused-one r text at at' why why' (inl a) (inr b) = absurd (no-text r text at why b.one a b.few b.text_is)
refused-one r text at at' why why' (inr a) (inl b) = absurd (no-text r text at' why' a.one b a.few a.text_is)
refused-one r text at at' why why' (inr a) (inr b) =
    let same : a.one ≡ b.one = text-one text a.one b.one a.text_is b.text_is in
    placed-one r b.one at at' why why'
    (subst (λ (o : Record). IsBehindFault r o at why ⊎ IsOutOfPlace r o at why) same a.refused) b.refused

-- ---- texts

-- one of them is refused, and those before it are taken
abbrev pub Refuses : GroupedRecords → List (List ℕ) → ℕ → CheckWhy → Type 0
Refuses r [] at why = ⊥
Refuses r (text ∷ texts) at why = IsRefusedAt r text at why
    ⊎ ((one : Record) × IsTaken r text one × Refuses (with_record one r) texts at why)

refuses-by : (r all : GroupedRecords) (taken : List (List ℕ)) (text : List ℕ) (behind : List (List ℕ)) (at : ℕ)
    (why : CheckWhy) → ReadsLines r taken all → IsRefusedAt all text at why → Refuses r (taken ++ text ∷ behind) at why
refuses-by r all [] text behind at why read refused =
    inl (subst (λ (s : GroupedRecords). IsRefusedAt s text at why) read refused)
refuses-by r all (first ∷ taken) text behind at why read refused =
    inr (read.0, read.1, refuses-by (with_record read.0 r) all taken text behind at why read.2 refused)

refuses : (texts : List (List ℕ)) (at : ℕ) (why : CheckWhy) → HasRefused texts at why → Refuses no_records texts at why
refuses texts at why h =
    subst (λ (ts : List (List ℕ)). Refuses no_records ts at why) (sym h.texts_are)
    (refuses-by no_records h.records h.taken h.text h.behind at why h.read h.refused)

-- the records behind a text that is taken are those of the one record that it has
behind-one : (r : GroupedRecords) (text : List ℕ) (one other : Record) → IsTaken r text one → IsTaken r text other
    → with_record one r ≡ with_record other r
behind-one r text one other a b = ap (λ (o : Record). with_record o r) (text-one text one other a.text_is b.text_is)

reads-one : (r all all' : GroupedRecords) (texts : List (List ℕ)) → ReadsLines r texts all → ReadsLines r texts all'
    → all ≡ all'
reads-one r all all' [] a b = a ∙ sym b
reads-one r all all' (text ∷ texts) a b =
    reads-one (with_record b.0 r) all all' texts
    (subst (λ (s : GroupedRecords). ReadsLines s texts all) (behind-one r text a.0 b.0 a.1 b.1) a.2) b.2

reads-not : (r all : GroupedRecords) (texts : List (List ℕ)) (at : ℕ) (why : CheckWhy) → ReadsLines r texts all
    → Refuses r texts at why → ⊥
reads-not r all [] at why a b = b
reads-not r all (text ∷ texts) at why a (inl refused) = taken-not r text a.0 at why a.1 refused
reads-not r all (text ∷ texts) at why a (inr b) =
    reads-not (with_record b.0 r) all texts at why
    (subst (λ (s : GroupedRecords). ReadsLines s texts all) (behind-one r text a.0 b.0 a.1 b.1) a.2) b.2

refuses-one : (r : GroupedRecords) (texts : List (List ℕ)) (at at' : ℕ) (why why' : CheckWhy)
    → Refuses r texts at why → Refuses r texts at' why' → (at ≡ at') × (why ≡ why')
refuses-one r [] at at' why why' a b = absurd a
refuses-one r (text ∷ texts) at at' why why' (inl a) (inl b) = refused-one r text at at' why why' a b
refuses-one r (text ∷ texts) at at' why why' (inl a) (inr b) = absurd (taken-not r text b.0 at why b.1 a)
refuses-one r (text ∷ texts) at at' why why' (inr a) (inl b) = absurd (taken-not r text a.0 at' why' a.1 b)
refuses-one r (text ∷ texts) at at' why why' (inr a) (inr b) =
    refuses-one (with_record b.0 r) texts at at' why why'
    (subst (λ (s : GroupedRecords). Refuses s texts at why) (behind-one r text a.0 b.0 a.1 b.1) a.2) b.2

-- ---- a journal

last-not : (r : GroupedRecords) (at : ℕ) (why : CheckWhy) → LastHolds r → LastFails r at why → ⊥
last-not r at why hold fails = fails-not r.groups why (hold fails.runs) fails.fails

last-one : (r : GroupedRecords) (at at' : ℕ) (why why' : CheckWhy) → LastFails r at why → LastFails r at' why'
    → (at ≡ at') × (why ≡ why')
last-one r at at' why why' a b = (a.at_is ∙ sym b.at_is, fails-one r.groups why why' a.fails b.fails)

sound-one : (octets : List ℕ) (m n : ℕ) → IsSound true octets m → IsSound true octets n → m ≡ n
sound-one octets m n a b =
    a.lines_are
    ∙ ap (λ (r : GroupedRecords). length r.groups)
    (reads-one no_records a.records b.records (all_texts octets) a.read b.read)
    ∙ sym b.lines_are

sound-or-not : (octets : List ℕ) (lines at : ℕ) (why : CheckWhy) → IsSound true octets lines
    → IsUnsound true octets at why → ⊥
sound-or-not octets lines at why a (inl b) =
    reads-not no_records a.records (all_texts octets) at why a.read (refuses (all_texts octets) at why b)
sound-or-not octets lines at why a (inr b) =
    let same = reads-one no_records a.records b.records (all_texts octets) a.read b.read in
    last-not b.records at why (subst LastHolds same a.last) b.fails

unsound-one : (octets : List ℕ) (at at' : ℕ) (why why' : CheckWhy) → IsUnsound true octets at why
    → IsUnsound true octets at' why' → (at ≡ at') × (why ≡ why')
unsound-one octets at at' why why' (inl a) (inl b) =
    refuses-one no_records (all_texts octets) at at' why why' (refuses (all_texts octets) at why a)
    (refuses (all_texts octets) at' why' b)
unsound-one octets at at' why why' (inl a) (inr b) = absurd (
    reads-not no_records b.records (all_texts octets) at why b.read (refuses (all_texts octets) at why a)
    )
unsound-one octets at at' why why' (inr a) (inl b) = absurd (
    reads-not no_records a.records (all_texts octets) at' why' a.read (refuses (all_texts octets) at' why' b)
    )
unsound-one octets at at' why why' (inr a) (inr b) =
    let same = reads-one no_records a.records b.records (all_texts octets) a.read b.read in
    last-one b.records at at' why why' (subst (λ (r : GroupedRecords). LastFails r at why) same a.fails) b.fails

pub one-answer : (octets : List ℕ) → HasOneAnswer octets
one-answer octets = record {
  sound = sound-one octets;
  unsound = unsound-one octets;
  either = sound-or-not octets;
}
