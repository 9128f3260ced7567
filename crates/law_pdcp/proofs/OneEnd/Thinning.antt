-- What was taken and may be taken again: a call or a new life only leaves some of it out, or adds a new SDU behind.
use Rattle.std.proofs.Common.{◌≡◌, ◌≤◌, ℕ, suc, zero, ◌+◌, ◌-◌, Bool, true, false, if◌then◌else◌, List, [], ◌∷◌, ◌++◌}
use Rattle.std.proofs.Common.{map, Option, Some, None, slice_get, nat_lt, inl, inr, append_assoc, subst, refl, ap, sym}
use Rattle.std.proofs.Common.{◌∙◌, arith}
use Rattle.std.proofs.lemmas.List.{append-nil}
use Rattle.l2_num.specs.Ascending.{AreBetween}
use Rattle.pdcp_tx_store.specs.declared.given.Sent.{Sent}
use Rattle.pdcp_tx_store.specs.declared.given.Entry.{Entry}
use Rattle.pdcp_tx_store.specs.declared.given.Entry.TheVariants.{Data, Own, Gone}
use Rattle.pdcp_tx_store.specs.Given.{Given, trimmed, acked, acked_at, entry_at, tells, heard, untold, from_unacked}
use Rattle.pdcp_tx_store.specs.Given.{data_of}
use Rattle.law_words.specs.Lists.{IsSubsequence}
use Rattle.law_pdcp.proofs.OneEnd.Lists.{same, without_first, mapped}

-- an SDU with its COUNT
pub record Named : Type 0 where
  pub count : ℕ
  pub sdu : List ℕ

abbrev pub named : Sent → Named
named s = record { count = s.count; sdu = s.octets }

abbrev pub names : List Sent → List Named
names ss = map named ss

abbrev pub In : ℕ → List Named → ℕ → Type 0
In low xs end = AreBetween low (map (λ x. x.count) xs) end

pub lower : (a b : ℕ) (xs : List Named) (end : ℕ) → a ≤ b → In b xs end → In a xs end
lower a b [] end le h = omega (arith, h)
lower a b (x ∷ xs) end le h = (omega (arith, h.0), h.1)

ends_above : (low : ℕ) (xs : List Named) (end : ℕ) → In low xs end → low ≤ end
ends_above low [] end h = h
ends_above low (x ∷ xs) end h = omega (arith, h.0, ends_above (x.count + 1) xs end h.1)

pub thin_in : (low : ℕ) (ys xs : List Named) (end : ℕ) → IsSubsequence ys xs → In low xs end → In low ys end
thin_in low [] xs end t h = ends_above low xs end h
thin_in low (y ∷ ys) [] end t h = absurd t
thin_in low (y ∷ ys) (x ∷ xs) end (inl t) h =
    subst (λ (n : Named). (low ≤ n.count) × In (n.count + 1) ys end) (sym t.0) (
      h.0,
      thin_in (x.count + 1) ys xs end t.1 h.1,
    )
thin_in low (y ∷ ys) (x ∷ xs) end (inr t) h =
    lower low (x.count + 1) (y ∷ ys) end (omega (arith, h.0)) (thin_in (x.count + 1) (y ∷ ys) xs end t h.1)

pub higher : (low : ℕ) (xs : List Named) (end new : ℕ) → end ≤ new → In low xs end → In low xs new
higher low [] end new le h = omega (arith, h)
higher low (x ∷ xs) end new le h = (h.0, higher (x.count + 1) xs end new le h.1)

pub grows : (low : ℕ) (xs : List Named) (x : Named) → In low xs x.count → In low (xs ++ x ∷ []) (x.count + 1)
grows low [] x h = (h, omega arith)
grows low (n ∷ ns) x h = (h.0, grows (n.count + 1) ns x h.1)

-- ---- what the calls do

-- SDUs taken in this life, then those that are taken again
abbrev pub of : List Entry → List Sent → List Named
of es ss = names (data_of es ++ ss)

data_more : (es fs : List Entry) → data_of (es ++ fs) ≡ data_of es ++ data_of fs
data_more [] fs = refl
data_more (Data x ∷ xs) fs = ap (λ l. x ∷ l) (data_more xs fs)
data_more (Own ∷ xs) fs = data_more xs fs
data_more (Gone ∷ xs) fs = data_more xs fs

names_more : (xs ys : List Sent) → names (xs ++ ys) ≡ names xs ++ names ys
names_more [] ys = refl
names_more (x ∷ xs) ys = ap (λ l. named x ∷ l) (names_more xs ys)

-- one more entry
pub of_more : (es : List Entry) (e : Entry) (ss : List Sent)
    → of (es ++ e ∷ []) ss ≡ names (data_of es ++ data_of (e ∷ []) ++ ss)
of_more es e ss = ap (λ l. names (l ++ ss)) (data_more es (e ∷ []))

-- the first of those to be taken again is taken
pub of_again : (es : List Entry) (x : Sent) (xs : List Sent) → of (es ++ Data x ∷ []) xs ≡ of es (x ∷ xs)
of_again es x xs = of_more es (Data x) xs ∙ ap names (append_assoc (data_of es) (x ∷ []) xs)

-- a new one is
pub of_new : (es : List Entry) (x : Sent) → of (es ++ Data x ∷ []) [] ≡ of es [] ++ named x ∷ []
of_new es x = of_more es (Data x) [] ∙ ap names (append_assoc (data_of es) (x ∷ []) [])
    ∙ names_more (data_of es) (x ∷ []) ∙ ap (λ l. l ++ named x ∷ []) (ap names (sym (append-nil (data_of es))))

-- the own report is
pub of_own : (es : List Entry) (ss : List Sent) → of (es ++ Own ∷ []) ss ≡ of es ss
of_own es ss = of_more es Own ss ∙ ap (λ l. names (l ++ ss)) (append-nil (data_of es))

trim_step : (s : Sent) (es : List Entry) (ss : List Sent) (b : Bool) → s.acked ≡ b
    → IsSubsequence (of (trimmed es) ss) (of es ss)
    → IsSubsequence (of (trimmed (Data s ∷ es)) ss) (of (Data s ∷ es) ss)
trim_step s es ss false e h = rw e (same (of (Data s ∷ es) ss))
trim_step s es ss true e h = rw e (without_first (of (trimmed es) ss) (named s) (of es ss) h)

pub trims : (es : List Entry) (ss : List Sent) → IsSubsequence (of (trimmed es) ss) (of es ss)
trims [] ss = same (names ss)
trims (Data s ∷ es) ss = trim_step s es ss s.acked refl (trims es ss)
trims (Own ∷ es) ss = same (of es ss)
trims (Gone ∷ es) ss = trims es ss

acked_first : (x e : Entry) (xs : List Entry) (ss : List Sent) → x ≡ e → of (acked e ∷ xs) ss ≡ of (x ∷ xs) ss
acked_first x (Data s) xs ss q = rw q refl
acked_first x Own xs ss q = rw q refl
acked_first x Gone xs ss q = rw q refl

acks : (o : Option Entry) (es : List Entry) (k : ℕ) (ss : List Sent)
    → ((e : Entry) → o ≡ Some e → slice_get es k ≡ Some e) → of (acked_at o es k) ss ≡ of es ss
acks None es k ss g = refl
acks (Some e) [] k ss g = let no : None ≡ Some e = g e refl in cc
acks (Some e) (x ∷ xs) zero ss g = let here : Some x ≡ Some e = g e refl in acked_first x e xs ss cc
acks (Some e) (Data s ∷ xs) (suc k) ss g = ap (λ l. named s ∷ l) (acks (Some e) xs k ss g)
acks (Some e) (Own ∷ xs) (suc k) ss g = acks (Some e) xs k ss g
acks (Some e) (Gone ∷ xs) (suc k) ss g = acks (Some e) xs k ss g

entry_is : (g : Given) (place : ℕ) (b : Bool) (e : Entry) → nat_lt place g.gone ≡ b → entry_at g place ≡ Some e
    → slice_get g.entries (place - g.gone) ≡ Some e
entry_is g place true e b q = let no : None ≡ Some e =
    subst (λ (t : Bool). (if t then None else slice_get g.entries (place - g.gone)) ≡ Some e) b q in cc
entry_is g place false e b q =
    subst (λ (t : Bool). (if t then None else slice_get g.entries (place - g.gone)) ≡ Some e) b q

-- RLC has acknowledged a place
pub of_acked : (g : Given) (place : ℕ) (ss : List Sent)
    → of (acked_at (entry_at g place) g.entries (place - g.gone)) ss ≡ of g.entries ss
of_acked g place ss =
    acks (entry_at g place) g.entries (place - g.gone) ss (λ e q. entry_is g place (nat_lt place g.gone) e refl q)

untold_step : (from : ℕ) (bitmap : List ℕ) (s : Sent) (ss : List Sent) (b : Bool) → tells from bitmap s.count ≡ b
    → IsSubsequence (untold from bitmap ss) ss → IsSubsequence (untold from bitmap (s ∷ ss)) (s ∷ ss)
untold_step from bitmap s ss true e h = rw e (without_first (untold from bitmap ss) s ss h)
untold_step from bitmap s ss false e h = rw e (inl (refl, h))

-- what a report leaves
pub untolds : (from : ℕ) (bitmap : List ℕ) (ss : List Sent) → IsSubsequence (untold from bitmap ss) ss
untolds from bitmap [] = tt
untolds from bitmap (s ∷ ss) = untold_step from bitmap s ss (tells from bitmap s.count) refl (untolds from bitmap ss)

hear_step : (from : ℕ) (bitmap : List ℕ) (s : Sent) (es : List Entry) (rest ss : List Sent) (b : Bool)
    → tells from bitmap s.count ≡ b → IsSubsequence (of (map (heard from bitmap) es) rest) (of es ss)
    → IsSubsequence (of (map (heard from bitmap) (Data s ∷ es)) rest) (of (Data s ∷ es) ss)
hear_step from bitmap s es rest ss true e h =
    rw e (without_first (of (map (heard from bitmap) es) rest) (named s) (of es ss) h)
hear_step from bitmap s es rest ss false e h = rw e (inl (refl, h))

-- a report has come
pub hears : (from : ℕ) (bitmap : List ℕ) (es : List Entry) (ss : List Sent)
    → IsSubsequence (of (map (heard from bitmap) es) (untold from bitmap ss)) (of es ss)
hears from bitmap [] ss = mapped named (untold from bitmap ss) ss (untolds from bitmap ss)
hears from bitmap (Data s ∷ es) ss =
    hear_step from bitmap s es (untold from bitmap ss) ss (tells from bitmap s.count) refl (hears from bitmap es ss)
hears from bitmap (Own ∷ es) ss = hears from bitmap es ss
hears from bitmap (Gone ∷ es) ss = hears from bitmap es ss

-- a new life begins
unacked_step : (s : Sent) (ss : List Sent) (b : Bool) → s.acked ≡ b
    → IsSubsequence (names (from_unacked ss)) (names ss)
    → IsSubsequence (names (from_unacked (s ∷ ss))) (names (s ∷ ss))
unacked_step s ss true e h = rw e (without_first (names (from_unacked ss)) (named s) (names ss) h)
unacked_step s ss false e h = rw e (same (names (s ∷ ss)))

pub unackeds : (ss : List Sent) → IsSubsequence (names (from_unacked ss)) (names ss)
unackeds [] = tt
unackeds (s ∷ ss) = unacked_step s ss s.acked refl (unackeds ss)
