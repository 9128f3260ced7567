-- The COUNTs that RLC hasn't acknowledged, and no report has confirmed.
use Rattle.std.proofs.Common.{◌≡◌, ◌<◌, ◌≤◌, ℕ, ◌+◌, Bool, true, false, not, ◌||◌, ◌&&◌, List, [], ◌∷◌, ◌++◌, refl, sym}
use Rattle.std.proofs.Common.{◌∙◌, arith}
use Rattle.std.specs.Prelude.{◌==◌}
use Rattle.std.proofs.lemmas.Bool.Decides.{nat_tests}
use Rattle.pdcp_tx_store.specs.declared.given.Sent.{Sent}
use Rattle.pdcp_tx_store.specs.declared.given.Entry.{Entry}
use Rattle.pdcp_tx_store.specs.declared.given.Entry.TheVariants.{Data, Own, Gone}
use Rattle.pdcp_tx_store.specs.Given.{trimmed, first_open, first_unacked, from_unacked, data_of}
use Rattle.pdcp_tx.specs.State.{State, or_else, low, first_again}
use Rattle.law_pdcp.proofs.OneEnd.Thinning.{In, names}
use Rattle.law_pdcp.proofs.AmPair.Numbers.{among, again_counts}

-- what was taken in this life, and then what is to be taken again
abbrev pub all_of : State → List Sent
all_of s = data_of s.given.entries ++ s.again

abbrev pub is_among : List Sent → ℕ → Bool
is_among [] n = false
is_among (x ∷ xs) n = (n == x.count && not x.acked) || is_among xs n

pub is_among_more : (xs ys : List Sent) (n : ℕ) → is_among (xs ++ ys) n ≡ is_among xs n || is_among ys n
is_among_more [] ys n = refl
is_among_more (x ∷ xs) ys n = let ih = is_among_more xs ys n in grind (arith, nat_tests, ih)

-- ---- the first of them

pub low_step : (s : Sent) (es : List Entry) (ss : List Sent) (n : ℕ) (b : Bool) → s.acked ≡ b
    → or_else (first_open es) (or_else (first_unacked ss) n) ≡ or_else (first_unacked (data_of es ++ ss)) n
    → or_else (first_open (Data s ∷ es)) (or_else (first_unacked ss) n)
    ≡ or_else (first_unacked (data_of (Data s ∷ es) ++ ss)) n
low_step s es ss n true a h = rw a h
low_step s es ss n false a h = rw a refl

low_all : (es : List Entry) (ss : List Sent) (n : ℕ)
    → or_else (first_open es) (or_else (first_unacked ss) n) ≡ or_else (first_unacked (data_of es ++ ss)) n
low_all [] ss n = refl
low_all (Data s ∷ es) ss n = low_step s es ss n s.acked refl (low_all es ss n)
low_all (Own ∷ es) ss n = low_all es ss n
low_all (Gone ∷ es) ss n = low_all es ss n

pub low_is : (s : State) → low s ≡ or_else (first_unacked (all_of s)) s.next
low_is s = low_all s.given.entries s.again s.next

below_step : (low : ℕ) (x : Sent) (xs : List Sent) (end n : ℕ) (b : Bool) → x.acked ≡ b → In low (names (x ∷ xs)) end
    → is_among (x ∷ xs) n ≡ true → (is_among xs n ≡ true → or_else (first_unacked xs) end ≤ n)
    → (is_among xs n ≡ true → x.count < n) → or_else (first_unacked (x ∷ xs)) end ≤ n
below_step low x xs end n true a h e f g = rw a (f (grind (arith, nat_tests)))
below_step low x xs end n false a h e f g = rw a (grind (arith, nat_tests))

above_low : (low : ℕ) (xs : List Sent) (end n : ℕ) → In low (names xs) end → is_among xs n ≡ true → low ≤ n
above_low low [] end n h e = let no : false ≡ true = e in cc
above_low low (x ∷ xs) end n h e = grind (arith, nat_tests, h.0, above_low (x.count + 1) xs end n h.1)

-- none lies below it
pub first_below : (low : ℕ) (xs : List Sent) (end n : ℕ) → In low (names xs) end → is_among xs n ≡ true
    → or_else (first_unacked xs) end ≤ n
first_below low [] end n h e = let no : false ≡ true = e in cc
first_below low (x ∷ xs) end n h e =
    below_step low x xs end n x.acked refl h e (first_below (x.count + 1) xs end n h.1)
    (λ q. omega (arith, above_low (x.count + 1) xs end n h.1 q))

end_step : (low : ℕ) (x : Sent) (xs : List Sent) (end : ℕ) (b : Bool) → x.acked ≡ b → x.count ≤ end
    → or_else (first_unacked xs) end ≤ end → or_else (first_unacked (x ∷ xs)) end ≤ end
end_step low x xs end true a h f = rw a f
end_step low x xs end false a h f = rw a h

in_end : (low : ℕ) (xs : List Sent) (end : ℕ) → In low (names xs) end → low ≤ end
in_end low [] end h = h
in_end low (x ∷ xs) end h = omega (arith, h.0, in_end (x.count + 1) xs end h.1)

pub first_end : (low : ℕ) (xs : List Sent) (end : ℕ) → In low (names xs) end → or_else (first_unacked xs) end ≤ end
first_end low [] end h = omega arith
first_end low (x ∷ xs) end h =
    end_step low x xs end x.acked refl (omega (arith, in_end (x.count + 1) xs end h.1))
    (first_end (x.count + 1) xs end h.1)

rise_step : (x : Sent) (xs : List Sent) (end m : ℕ) (b : Bool) → x.acked ≡ b
    → (is_among (x ∷ xs) x.count ≡ true → m ≤ x.count) → m ≤ or_else (first_unacked xs) end
    → m ≤ or_else (first_unacked (x ∷ xs)) end
rise_step x xs end m true a f g = rw a g
rise_step x xs end m false a f g = rw a (f (grind (arith, nat_tests)))

pub rises : (xs : List Sent) (end m : ℕ) → m ≤ end → ((n : ℕ) → is_among xs n ≡ true → m ≤ n)
    → m ≤ or_else (first_unacked xs) end
rises [] end m le f = le
rises (x ∷ xs) end m le f =
    rise_step x xs end m x.acked refl (λ e. f x.count e)
    (rises xs end m le (λ n e. f n (grind (arith, nat_tests, e))))

-- where there are fewer, the first lies no lower
pub first_rises : (xs ys : List Sent) (end : ℕ) → In 0 (names xs) end
    → ((n : ℕ) → is_among ys n ≡ true → is_among xs n ≡ true)
    → or_else (first_unacked xs) end ≤ or_else (first_unacked ys) end
first_rises xs ys end h f =
    rises ys end (or_else (first_unacked xs) end) (first_end 0 xs end h) (λ n e. first_below 0 xs end n h (f n e))

-- ---- what is settled leaves them as they are

skipped : (a b : Bool) → (a && not true) || b ≡ b
skipped true b = refl
skipped false b = refl

trim_step : (s : Sent) (es : List Entry) (ss : List Sent) (n : ℕ) (b : Bool) → s.acked ≡ b
    → is_among (data_of (trimmed es) ++ ss) n ≡ is_among (data_of es ++ ss) n
    → is_among (data_of (trimmed (Data s ∷ es)) ++ ss) n ≡ is_among (data_of (Data s ∷ es) ++ ss) n
trim_step s es ss n true a h = rw a (h ∙ sym (skipped (n == s.count) (is_among (data_of es ++ ss) n)))
trim_step s es ss n false a h = rw a refl

pub trimmed_among : (es : List Entry) (ss : List Sent) (n : ℕ)
    → is_among (data_of (trimmed es) ++ ss) n ≡ is_among (data_of es ++ ss) n
trimmed_among [] ss n = refl
trimmed_among (Data s ∷ es) ss n = trim_step s es ss n s.acked refl (trimmed_among es ss n)
trimmed_among (Own ∷ es) ss n = refl
trimmed_among (Gone ∷ es) ss n = trimmed_among es ss n

-- ---- what a life takes again

again_step : (s : Sent) (ss : List Sent) (n : ℕ) (b : Bool) → s.acked ≡ b
    → is_among (from_unacked ss) n ≡ is_among ss n → is_among (from_unacked (s ∷ ss)) n ≡ is_among (s ∷ ss) n
again_step s ss n true a h = rw a (grind (arith, nat_tests, h))
again_step s ss n false a h = rw a refl

pub again_among : (ss : List Sent) (n : ℕ) → is_among (from_unacked ss) n ≡ is_among ss n
again_among [] n = refl
again_among (s ∷ ss) n = again_step s ss n s.acked refl (again_among ss n)

first_step : (s : Sent) (ss : List Sent) (n : ℕ) (b : Bool) → s.acked ≡ b
    → first_again (from_unacked ss) n ≡ or_else (first_unacked ss) n
    → first_again (from_unacked (s ∷ ss)) n ≡ or_else (first_unacked (s ∷ ss)) n
first_step s ss n true a h = rw a h
first_step s ss n false a h = rw a refl

-- it begins with the first of them
pub first_is : (ss : List Sent) (n : ℕ) → first_again (from_unacked ss) n ≡ or_else (first_unacked ss) n
first_is [] n = refl
first_is (s ∷ ss) n = first_step s ss n s.acked refl (first_is ss n)

pub open_count : (ss : List Sent) (n : ℕ) → is_among ss n ≡ true → among (again_counts ss) n ≡ true
open_count [] n e = e
open_count (s ∷ ss) n e = grind (arith, nat_tests, open_count ss n)

pub from_first : (low : ℕ) (ss : List Sent) (end c : ℕ) → In low (names ss) end → among (again_counts ss) c ≡ true
    → first_again ss end ≤ c
from_first low [] end c h e = let no : false ≡ true = e in cc
from_first low (s ∷ ss) end c h e = grind (arith, nat_tests, from_low (s.count + 1) ss end c h.1)
  where
    from_low : (low : ℕ) (ss : List Sent) (end c : ℕ) → In low (names ss) end → among (again_counts ss) c ≡ true
        → low ≤ c
    from_low low [] end c h e = let no : false ≡ true = e in cc
    from_low low (s ∷ ss) end c h e = grind (arith, nat_tests, h.0, from_low (s.count + 1) ss end c h.1)
