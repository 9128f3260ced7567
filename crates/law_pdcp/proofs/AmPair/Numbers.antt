-- Lists of COUNTs that ascend.
use Rattle.std.proofs.Common.{◌≡◌, ◌<◌, ◌≤◌, ℕ, ◌+◌, Bool, true, false, ◌||◌, List, [], ◌∷◌, ◌++◌, map, refl, ap, sym}
use Rattle.std.proofs.Common.{◌∙◌, arith, append_assoc}
use Rattle.std.specs.Prelude.{◌==◌, if◌then◌else◌, Option, Some, None}
use Rattle.std.proofs.lemmas.Bool.Decides.{nat_tests}
use Rattle.l2_num.specs.Ascending.{AreBetween}
use Rattle.pdcp_tx_store.specs.declared.given.Sent.{Sent}
use Rattle.pdcp_tx.specs.declared.sender.Next.{Next}
use Rattle.pdcp_tx.specs.Runs.{counts_in}

-- whether a number is in a list
abbrev pub among : List ℕ → ℕ → Bool
among [] n = false
among (x ∷ xs) n = n == x || among xs n

pub among_more : (xs ys : List ℕ) (n : ℕ) → among (xs ++ ys) n ≡ among xs n || among ys n
among_more [] ys n = refl
among_more (x ∷ xs) ys n = let ih = among_more xs ys n in grind (arith, nat_tests, ih)

pub between_lower : (a b : ℕ) (xs : List ℕ) (end : ℕ) → a ≤ b → AreBetween b xs end → AreBetween a xs end
between_lower a b [] end le h = omega (arith, h)
between_lower a b (x ∷ xs) end le h = (omega (arith, h.0), h.1)

pub between_end : (low : ℕ) (xs : List ℕ) (end : ℕ) → AreBetween low xs end → low ≤ end
between_end low [] end h = h
between_end low (x ∷ xs) end h = omega (arith, h.0, between_end (x + 1) xs end h.1)

pub between_from : (low : ℕ) (xs : List ℕ) (end n : ℕ) → AreBetween low xs end → among xs n ≡ true → low ≤ n
between_from low [] end n h e = let no : false ≡ true = e in cc
between_from low (x ∷ xs) end n h e = grind (arith, nat_tests, h.0, between_from (x + 1) xs end n h.1)

pub between_below : (low : ℕ) (xs : List ℕ) (end n : ℕ) → AreBetween low xs end → among xs n ≡ true → n < end
between_below low [] end n h e = let no : false ≡ true = e in cc
between_below low (x ∷ xs) end n h e = let last = between_end (x + 1) xs end h.1 in
    grind (arith, nat_tests, last, between_below (x + 1) xs end n h.1)

pub between_push : (low : ℕ) (xs : List ℕ) (end : ℕ) → AreBetween low xs end → AreBetween low (xs ++ end ∷ []) (end + 1)
between_push low [] end h = (h, omega arith)
between_push low (x ∷ xs) end h = (h.0, between_push (x + 1) xs end h.1)

pub between_rest : (low : ℕ) (xs ys : List ℕ) (end : ℕ) → AreBetween low (xs ++ ys) end → AreBetween low ys end
between_rest low [] ys end h = h
between_rest low (x ∷ xs) ys end h =
    between_lower low (x + 1) ys end (omega (arith, h.0)) (between_rest (x + 1) xs ys end h.1)

-- ---- the COUNTs of PDUs, and of what is taken again

abbrev pub counts : List Next → List ℕ
counts [] = []
counts (pdu ∷ pdus) = counts_in pdu.count ++ counts pdus

pub counts_more : (xs ys : List Next) → counts (xs ++ ys) ≡ counts xs ++ counts ys
counts_more [] ys = refl
counts_more (x ∷ xs) ys = ap (λ l. counts_in x.count ++ l) (counts_more xs ys)
    ∙ sym (append_assoc (counts_in x.count) (counts xs) (counts ys))

abbrev pub again_counts : List Sent → List ℕ
again_counts ss = map (λ x. x.count) ss

-- ---- PDUs that have arrived whole

abbrev pub has : Option ℕ → ℕ → Bool
has None n = false
has (Some count) n = n == count

abbrev pub came : (ℕ → Bool) → ℕ → List Next → ℕ → Bool
came whole k [] n = false
came whole k (pdu ∷ pdus) n = (if whole k then has pdu.count n else false) || came whole (k + 1) pdus n
