-- An SDU that is given back leaves the loop as it is.
use Rattle.std.proofs.Common.{◌≡◌, ◌<◌, ℕ, suc, ◌==◌, Bool, true, false, if◌then◌else◌, Option, Some, None, List, []}
use Rattle.std.proofs.Common.{◌∷◌, length, drop, slice_get, refl, ap, sym, ◌∙◌, arith}
use Rattle.l2_bits.specs.declared.fault.SubmitRefusal.{SubmitRefusal}
use Rattle.l2_node.specs.Finding.{has}
use Rattle.l2_node.specs.Submitting.{refusal}
use Rattle.test_loop.specs.Items.{Item}
use Rattle.test_loop.specs.Loops.{State as Looping, due_answer, after_due}
use Rattle.air_link.specs.Link.{Link}
use Rattle.air_link.specs.Loops.{loses, returns_by, returns, returns_all, owed, paid}

by_refusal : (r : Option SubmitRefusal) (lcid : ℕ) (octets : List ℕ) (s : Looping) (l : Link)
    → record (returns_by r lcid octets l) { looping = s } ≡ returns_by r lcid octets (record l { looping = s })
by_refusal None lcid octets s l = refl
by_refusal (Some broken) lcid octets s l = refl

by_has : (b : Bool) (lcid : ℕ) (octets : List ℕ) (s : Looping) (l : Link)
    → record (if b then returns_by (refusal lcid octets l.ue) lcid octets l else loses lcid l) { looping = s }
    ≡ (if b then returns_by (refusal lcid octets l.ue) lcid octets (record l { looping = s })
    else loses lcid (record l { looping = s }))
by_has true lcid octets s l = by_refusal (refusal lcid octets l.ue) lcid octets s l
by_has false lcid octets s l = refl

pub returns_aside : (lcid : ℕ) (octets : List ℕ) (s : Looping) (l : Link)
    → record (returns lcid octets l) { looping = s } ≡ returns lcid octets (record l { looping = s })
returns_aside lcid octets s l = by_has (has lcid l.ue.bearers) lcid octets s l

looping_by : (r : Option SubmitRefusal) (lcid : ℕ) (octets : List ℕ) (l : Link)
    → (returns_by r lcid octets l).looping ≡ l.looping
looping_by None lcid octets l = refl
looping_by (Some broken) lcid octets l = refl

looping_if : (b : Bool) (lcid : ℕ) (octets : List ℕ) (l : Link)
    → (if b then returns_by (refusal lcid octets l.ue) lcid octets l else loses lcid l).looping ≡ l.looping
looping_if true lcid octets l = looping_by (refusal lcid octets l.ue) lcid octets l
looping_if false lcid octets l = refl

pub returns_looping : (lcid : ℕ) (octets : List ℕ) (l : Link) → (returns lcid octets l).looping ≡ l.looping
returns_looping lcid octets l = looping_if (has lcid l.ue.bearers) lcid octets l

-- ---- an SDU that is due is the first that is kept, and those behind it are owed still

record IsFirst (s : Looping) (i : Item) : Type 0 where
  now : (s.left == 0) ≡ true
  kept : s.kept ≡ i ∷ drop 1 s.kept

by_left : (b : Bool) (kept : List Item) (i : Item) → (if b then slice_get kept 0 else None) ≡ Some i
    → (b ≡ true) × (kept ≡ i ∷ drop 1 kept)
by_left true [] i e = let no : None ≡ Some i = e in cc
by_left true (x ∷ xs) i e = let some : Some x ≡ Some i = e in let same : x ≡ i = cc in
    (refl, ap (λ (y : Item). y ∷ xs) same)
by_left false kept i e = let no : None ≡ Some i = e in cc

first : (s : Looping) (i : Item) → due_answer s ≡ Some i → IsFirst s i
unfolding due_answer
first s i e = let b = by_left (s.left == 0) s.kept i e in record { now = b.0; kept = b.1 }

-- what is left of a loop that has given one back
left_of : (s : Looping) (i : Item) → IsFirst s i → after_due s ≡ record s { kept = drop 1 s.kept }
unfolding after_due
left_of s i f = rw f.now refl

owed_now : (s : Looping) → (s.left == 0) ≡ true → owed s ≡ s.kept
owed_now s e = rw e refl

paid_now : (s : Looping) → (s.left == 0) ≡ true → paid s ≡ record s { kept = [] }
paid_now s e = rw e refl

abbrev all_paid : Link → Link
all_paid l = returns_all (owed l.looping) (record l { looping = paid l.looping })

abbrev gives : Link → Item → Link
gives l i = returns i.lcid i.octets (record l { looping = after_due l.looping })

pub kept_less : (l : Link) (i : Item) → due_answer l.looping ≡ Some i
    → length (gives l i).looping.kept < length l.looping.kept
kept_less l i e =
    let f = first l.looping i e in
    let same : (gives l i).looping ≡ record l.looping { kept = drop 1 l.looping.kept } =
    returns_looping i.lcid i.octets (record l { looping = after_due l.looping }) ∙ left_of l.looping i f in
    let after : length (gives l i).looping.kept ≡ length (drop 1 l.looping.kept) =
    ap (λ (s : Looping). length s.kept) same in
    let before : length l.looping.kept ≡ suc (length (drop 1 l.looping.kept)) =
    ap (λ (k : List Item). length k) f.kept in
    omega (arith, after, before)

pub pays_one : (l : Link) (i : Item) → due_answer l.looping ≡ Some i → all_paid (gives l i) ≡ all_paid l
pays_one l i e =
    let f = first l.looping i e in
    let rest = drop 1 l.looping.kept in
    let left : Looping = record l.looping { kept = rest } in
    let none : Looping = record l.looping { kept = [] } in
    let same : (gives l i).looping ≡ left =
    returns_looping i.lcid i.octets (record l { looping = after_due l.looping }) ∙ left_of l.looping i f in
    let still : owed (gives l i).looping ≡ rest = ap owed same ∙ owed_now left f.now in
    let paid_still : paid (gives l i).looping ≡ none = ap paid same ∙ paid_now left f.now in
    let first_owed : owed l.looping ≡ i ∷ rest = owed_now l.looping f.now ∙ f.kept in
    let aside : record (gives l i) { looping = none } ≡ returns i.lcid i.octets (record l { looping = none }) =
    returns_aside i.lcid i.octets none (record l { looping = after_due l.looping }) in
    let here : all_paid (gives l i) ≡ returns_all rest (returns i.lcid i.octets (record l { looping = none })) =
    ap (λ (is : List Item). returns_all is (record (gives l i) { looping = paid (gives l i).looping })) still
    ∙ ap (λ (s : Looping). returns_all rest (record (gives l i) { looping = s })) paid_still
    ∙ ap (returns_all rest) aside in
    let there : all_paid l ≡ returns_all (i ∷ rest) (record l { looping = none }) =
    ap (λ (is : List Item). returns_all is (record l { looping = paid l.looping })) first_owed
    ∙ ap (λ (s : Looping). returns_all (i ∷ rest) (record l { looping = s })) (paid_now l.looping f.now) in
    here ∙ sym there

-- ---- the same of the link that a turn of the loop begins with, as the code has it

given : {v l n : Link} {s : Looping} (i : Item) → v ≡ l → s ≡ after_due v.looping
    → n ≡ returns i.lcid i.octets (record v { looping = s }) → n ≡ gives l i
given {v = v} i same after back =
    back ∙ ap (λ (s : Looping). returns i.lcid i.octets (record v { looping = s })) after
    ∙ ap (λ (w : Link). gives w i) same

due_of : {v l : Link} (i : Item) → v ≡ l → due_answer v.looping ≡ Some i → due_answer l.looping ≡ Some i
due_of i same due = ap (λ (w : Link). due_answer w.looping) (sym same) ∙ due

pub turn_is_smaller : {v l n : Link} {s : Looping} (i : Item) → v ≡ l → s ≡ after_due v.looping
    → due_answer v.looping ≡ Some i → n ≡ returns i.lcid i.octets (record v { looping = s })
    → length n.looping.kept < length l.looping.kept
turn_is_smaller {l = l} i same after due back =
    let less = kept_less l i (due_of i same due) in
    let now = ap (λ (w : Link). length w.looping.kept) (given i same after back) in
    omega (arith, less, now)

pub turn_pays : {v l n : Link} {s : Looping} (i : Item) → v ≡ l → s ≡ after_due v.looping
    → due_answer v.looping ≡ Some i → n ≡ returns i.lcid i.octets (record v { looping = s })
    → all_paid n ≡ all_paid l
turn_pays {l = l} i same after due back = ap all_paid (given i same after back) ∙ pays_one l i (due_of i same due)
