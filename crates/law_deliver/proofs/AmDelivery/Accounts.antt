-- What is told of a way belongs to its flows.
use Rattle.std.proofs.Common.{◌≡◌, ℕ, zero, suc, ◌+◌, ◌≤◌, Bool, true, false, ◌||◌, ◌==◌, List, [], ◌∷◌, ◌++◌, map}
use Rattle.std.proofs.Common.{length, take, Option, Some, None, slice_get, refl, ap, sym, subst, ◌∙◌, arith}
use Rattle.std.proofs.Common.{append_assoc}
use Rattle.std.proofs.lemmas.Bool.Decides.{nat_tests}
use Rattle.pdcp_tx.specs.declared.sender.Next.{Next}
use Rattle.law_rlc.specs.AmPair.Flow.{Flow as Rlc, Step as RlcStep, happens as rlc_happens, goes as rlc_goes}
use Rattle.law_rlc.specs.AmPair.Flow.{am_rlc_outset}
use Rattle.law_pdcp.specs.AmPair.Flow.{Flow as Pdcp, with_count, am_pdcp_outset}
use Rattle.law_pdcp.proofs.AmPair.Sound.{IsSound as IsSoundPdcp}
use Rattle.law_pdcp.proofs.AmPair.Laws.{run_sound, outset_sound}
use Rattle.law_words.specs.Passing.{Passing, Told, nothing_told, with_passings}
use Rattle.law_rlc.specs.AmArrival.Arrival.{passed_in, passed}
use Rattle.law_words.specs.Arrivals.{Given, AccountEntry, Gives, Passes, Account, accounted, account, is_count}
use Rattle.law_rlc.proofs.AmArrival.Telling.{told_then}
use Rattle.promises.specs.Given.{entries_passed}
use Rattle.law_deliver.proofs.AmDelivery.Joined.{Way, IsWay, rlc, pdcp}

pub sound_pdcp : (w : Way) → IsWay w → IsSoundPdcp w.bits (pdcp w)
sound_pdcp w h =
    run_sound w.bits w.events (am_pdcp_outset w.bits w.protection w.first) h.events
    (outset_sound w.bits w.protection w.first h.kind h.first)

-- ---- what RLC's PDUs tell in the life that runs

abbrev pub told_of : Way → Told
told_of w = with_passings (passed w.steps (am_rlc_outset w.sending w.receiving)) nothing_told

pub passed_more : (xs ys : List RlcStep) (f : Rlc) → passed (xs ++ ys) f ≡ passed xs f ++ passed ys (rlc_goes xs f)
passed_more [] ys f = refl
passed_more (x ∷ xs) ys f = ap (λ (l : List Passing). passed_in f x ++ l) (passed_more xs ys (rlc_happens f x))
    ∙ sym (append_assoc (passed_in f x) (passed xs (rlc_happens f x)) (passed ys (rlc_goes xs (rlc_happens f x))))

pub told_more : (w : Way) (ss : List RlcStep)
    → with_passings (passed (w.steps ++ ss) (am_rlc_outset w.sending w.receiving)) nothing_told
    ≡ with_passings (passed ss (rlc w)) (told_of w)
told_more w ss =
    let f = am_rlc_outset w.sending w.receiving in
    ap (λ (l : List Passing). with_passings l nothing_told) (passed_more w.steps ss f)
    ∙ told_then (passed w.steps f) (passed ss (rlc w)) nothing_told

-- ---- an account agrees with the flows

abbrev pub given_of : Next → Given
given_of n = record { count = n.count; size = length n.octets }

abbrev pub is_among : List Next → ℕ → Bool
is_among [] count = false
is_among (n ∷ ns) count = is_count n.count count || is_among ns count

-- what RLC was given and what its PDUs tell are those of this life; PDCP heard the COUNTs that came whole in ended
-- lives, and those of what RLC has handed up in this one
pub record Agrees (a : Account) (g : Pdcp) (r : Told) : Type 0 where
  pub given_are : map given_of g.stream ≡ a.given
  pub rlc_is : r ≡ a.rlc
  pub handed_are : (count : ℕ) → g.handed count ≡ (a.ended count || is_among (take g.passed g.stream) count)

-- as this is told
abbrev pub TellsOn : List AccountEntry → Pdcp → Told → Pdcp → Told → Type 0
TellsOn hs g r h s = (a : Account) → Agrees a g r → Agrees (account hs a) h s

pub account_then : (xs ys : List AccountEntry) (a : Account) → account (xs ++ ys) a ≡ account ys (account xs a)
account_then [] ys a = refl
account_then (x ∷ xs) ys a = account_then xs ys (accounted x a)

pub tells_then : (xs ys : List AccountEntry) (f g h : Pdcp) (r s t : Told) → TellsOn xs f r g s → TellsOn ys g s h t
    → TellsOn (xs ++ ys) f r h t
tells_then xs ys f g h r s t x y =
    λ a k. subst (λ (b : Account). Agrees b h t) (sym (account_then xs ys a)) (y (account xs a) (x a k))

-- ---- only PDUs of RLC pass

account_passing : (ps : List Passing) (a : Account) → account (entries_passed ps) a
    ≡ record a { rlc = with_passings ps a.rlc }
account_passing [] a = refl
account_passing (p ∷ ps) a = account_passing ps (accounted (Passes p) a)

pub tells_passing : (ps : List Passing) (g h : Pdcp) (r : Told) → h.stream ≡ g.stream → h.passed ≡ g.passed
    → ((count : ℕ) → h.handed count ≡ g.handed count)
    → TellsOn (entries_passed ps) g r h (with_passings ps r)
tells_passing ps g h r stream place handed = λ a k.
    subst (λ (b : Account). Agrees b h (with_passings ps r)) (sym (account_passing ps a)) (record {
      given_are = ap (λ (l : List Next). map given_of l) stream ∙ k.given_are;
      rlc_is = ap (with_passings ps) k.rlc_is;
      handed_are = λ count. handed count ∙ k.handed_are count
          ∙ ap (λ (l : List Next). a.ended count || is_among (take g.passed l) count) (sym stream)
          ∙ ap (λ (n : ℕ). a.ended count || is_among (take n h.stream) count) (sym place);
    })

-- ---- PDCP gives RLC a PDU

take_front : (n : ℕ) (xs ys : List Next) → n ≤ length xs → take n (xs ++ ys) ≡ take n xs
take_front zero xs ys le = refl
take_front (suc n) [] ys le = absurd (omega (arith, le))
take_front (suc n) (x ∷ xs) ys le = ap (λ (l : List Next). x ∷ l) (take_front n xs ys (omega (arith, le)))

given_end : (xs : List Next) (n : Next) → map given_of (xs ++ n ∷ []) ≡ map given_of xs ++ given_of n ∷ []
given_end [] n = refl
given_end (x ∷ xs) n = ap (λ (l : List Given). given_of x ∷ l) (given_end xs n)

pub tells_given : (g h : Pdcp) (n : Next) (r : Told) → g.passed ≤ length g.stream → h.stream ≡ g.stream ++ n ∷ []
    → h.passed ≡ g.passed
    → ((count : ℕ) → h.handed count ≡ g.handed count)
    → TellsOn (Gives (given_of n) ∷ []) g r h r
tells_given g h n r few stream place handed = λ a k. record {
  given_are = ap (λ (l : List Next). map given_of l) stream ∙ given_end g.stream n
      ∙ ap (λ (l : List Given). l ++ given_of n ∷ []) k.given_are;
  rlc_is = k.rlc_is;
  handed_are = λ count. handed count ∙ k.handed_are count
      ∙ ap (λ (l : List Next). a.ended count || is_among l count)
      (sym (take_front g.passed g.stream (n ∷ []) few) ∙ ap (take g.passed) (sym stream))
      ∙ ap (λ (m : ℕ). a.ended count || is_among (take m h.stream) count) (sym place);
}

-- ---- RLC hands one up

among_next : (k : ℕ) (xs : List Next) (n : Next) (count : ℕ) → slice_get xs k ≡ Some n
    → is_among (take (k + 1) xs) count ≡ (is_among (take k xs) count || is_count n.count count)
among_next k [] n count e = let no : None ≡ Some n = e in cc
among_next zero (x ∷ xs) n count e =
    let same : Some x ≡ Some n = e in
    let is : x ≡ n = cc in
    ap (λ (y : Next). is_count y.count count || false) is ∙ last (is_count n.count count)
  where
    last : (b : Bool) → (b || false) ≡ b
    last true = refl
    last false = refl
among_next (suc k) (x ∷ xs) n count e =
    let ih = among_next k xs n count e in
    let s : suc k + 1 ≡ suc (k + 1) = omega arith in
    ap (λ (m : ℕ). is_among (take m (x ∷ xs)) count) s ∙ ap (λ (b : Bool). is_count x.count count || b) ih
    ∙ sides (is_count x.count count) (is_among (take k xs) count) (is_count n.count count)
  where
    sides : (a b c : Bool) → (a || (b || c)) ≡ ((a || b) || c)
    sides true b c = refl
    sides false b c = refl

pub handed_too : (o : Option ℕ) (handed : ℕ → Bool) (count : ℕ)
    → with_count o handed count ≡ (handed count || is_count o count)
handed_too None handed count = by (handed count)
  where
    by : (b : Bool) → b ≡ (b || false)
    by true = refl
    by false = refl
handed_too (Some own) handed count = by (count == own) (own == count) (handed count) (grind (arith, nat_tests))
  where
    by : (a b c : Bool) → a ≡ b → (a || c) ≡ (c || b)
    by true true true e = refl
    by true true false e = refl
    by true false c e = cc
    by false true c e = cc
    by false false true e = refl
    by false false false e = refl

pub tells_handed : (g h : Pdcp) (n : Next) (r : Told) → slice_get g.stream g.passed ≡ Some n → h.stream ≡ g.stream
    → h.passed ≡ g.passed + 1
    → ((count : ℕ) → h.handed count ≡ with_count n.count g.handed count)
    → TellsOn [] g r h r
tells_handed g h n r at stream place handed = λ a k. record {
  given_are = ap (λ (l : List Next). map given_of l) stream ∙ k.given_are;
  rlc_is = k.rlc_is;
  handed_are = λ count.
      handed count
      ∙ handed_too n.count g.handed count
      ∙ ap (λ (b : Bool). b || is_count n.count count) (k.handed_are count)
      ∙ sides (a.ended count) (is_among (take g.passed g.stream) count) (is_count n.count count)
      ∙ ap (λ (b : Bool). a.ended count || b) (sym (among_next g.passed g.stream n count at))
      ∙ ap (λ (m : ℕ). a.ended count || is_among (take m g.stream) count) (sym place)
      ∙ ap (λ (l : List Next). a.ended count || is_among (take h.passed l) count) (sym stream);
}
  where
    sides : (a b c : Bool) → ((a || b) || c) ≡ (a || (b || c))
    sides true b c = refl
    sides false b c = refl

pub agrees_at : (a : Account) (g h : Pdcp) (r s : Told) → h ≡ g → s ≡ r → Agrees a g r → Agrees a h s
agrees_at a g h r s x y k = subst (λ (q : Pdcp). Agrees a q s) (sym x) (subst (λ (t : Told). Agrees a g t) (sym y) k)
