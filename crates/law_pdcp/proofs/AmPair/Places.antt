-- What the sender keeps stands at its place in what RLC was given.
use Rattle.std.proofs.Common.{◌≡◌, ℕ, zero, suc, ◌+◌, ◌-◌, ◌≤◌, Bool, true, false, ◌||◌, if◌then◌else◌, nat_lt, List}
use Rattle.std.proofs.Common.{[], ◌∷◌, ◌++◌, drop, length, Option, Some, None, slice_get, slice_set}
use Rattle.std.proofs.Common.{subst, refl, ap, sym, arith}
use Rattle.std.specs.Prelude.{◌==◌}
use Rattle.std.proofs.lemmas.Bool.Decides.{nat_tests}
use Rattle.pdcp_tx_store.specs.declared.given.Sent.{Sent}
use Rattle.pdcp_tx_store.specs.declared.given.Entry.{Entry}
use Rattle.pdcp_tx_store.specs.declared.given.Entry.TheVariants.{Data, Own, Gone}
use Rattle.pdcp_tx_store.specs.Given.{Given, settled, with_entry, acked, acked_at, entry_at}
use Rattle.pdcp_tx_store.specs.Given.{with_ack, with_report, data_of}
use Rattle.pdcp_tx.specs.declared.sender.Next.{Next}
use Rattle.law_pdcp.specs.OneEnd.Places.{IsKeptOf, AreKeptOf, AreKeptAt}
use Rattle.law_pdcp.proofs.OneEnd.Places as places
use Rattle.law_pdcp.proofs.AmPair.Numbers.{has, came}
use Rattle.law_pdcp.proofs.AmPair.Opens.{is_among}

-- a PDU with an SDU has its COUNT, the own report none
abbrev IsSdu : ℕ → List ℕ → Next → Type 0
IsSdu count octets o = o.count ≡ Some count

abbrev IsReport : Next → Type 0
IsReport o = o.count ≡ None

abbrev IsOf : Entry → Next → Type 0
IsOf = IsKeptOf IsSdu IsReport

abbrev AreOf : List Entry → List Next → Type 0
AreOf = AreKeptOf IsSdu IsReport

abbrev pub AreAtPlaces : Given → List Next → Type 0
AreAtPlaces = AreKeptAt IsSdu IsReport

pub drop_more : (n : ℕ) (os : List Next) (o : Next) → n ≤ length os → drop n (os ++ o ∷ []) ≡ drop n os ++ o ∷ []
drop_more = places.drop_more

pub entry_places : (g : Given) (os : List Next) (e : Entry) (o : Next) → AreAtPlaces g os → IsOf e o
    → AreAtPlaces (with_entry g e) (os ++ o ∷ [])
entry_places = places.entry_places IsSdu IsReport

pub settled_places : (g : Given) (os : List Next) → AreAtPlaces g os → AreAtPlaces (settled g) os
settled_places = places.settled_places IsSdu IsReport

pub ack_places : (g : Given) (place : ℕ) (os : List Next) → AreAtPlaces g os → AreAtPlaces (with_ack g place) os
ack_places = places.ack_places IsSdu IsReport

pub report_places : (g : Given) (from : ℕ) (bitmap : List ℕ) (os : List Next) → AreAtPlaces g os
    → AreAtPlaces (with_report g from bitmap) os
report_places = places.report_places IsSdu IsReport

-- ---- what RLC has acknowledged at a place has come

acked_first : (x : Entry) (es : List Entry) (ss : List Sent) (o : Next) (n : ℕ) → IsOf x o
    → is_among (data_of (x ∷ es) ++ ss) n ≡ true → has o.count n || is_among (data_of (acked x ∷ es) ++ ss) n ≡ true
acked_first (Data x) es ss o n h e = by_same (has o.count n) (ap (λ c. has c n) h)
  where
    by_same : (b : Bool) → b ≡ (n == x.count) → b || is_among (data_of (acked (Data x) ∷ es) ++ ss) n ≡ true
    by_same b q = grind (arith, nat_tests)
acked_first Own es ss o n h e = grind (arith, nat_tests)
acked_first Gone es ss o n h e = grind (arith, nat_tests)

set_came : (es : List Entry) (os : List Next) (ss : List Sent) (whole : ℕ → Bool) (at k n : ℕ) (e : Entry)
    → AreOf es os → slice_get es k ≡ Some e → whole (at + k) ≡ true → is_among (data_of es ++ ss) n ≡ true
    → came whole at os n || is_among (data_of (slice_set es k (acked e)) ++ ss) n ≡ true
set_came [] os ss whole at k n e h q w i = let no : None ≡ Some e = q in cc
set_came (x ∷ es) [] ss whole at k n e h q w i = absurd h
set_came (x ∷ es) (o ∷ os) ss whole at zero n e h q w i =
    let some : Some x ≡ Some e = q in
    let same : x ≡ e = cc in
    let here : whole at ≡ true = (let z : at + 0 ≡ at = omega arith in subst (λ m. whole m ≡ true) z w) in
    subst (λ y. came whole at (o ∷ os) n || is_among (data_of (acked y ∷ es) ++ ss) n ≡ true) same
    (rw here (or_more (has o.count n) (came whole (at + 1) os n) (is_among (data_of (acked x ∷ es) ++ ss) n)
    (acked_first x es ss o n h.0 i)))
  where
    or_more : (a b c : Bool) → a || c ≡ true → a || b || c ≡ true
    or_more true b c e = refl
    or_more false true c e = refl
    or_more false false c e = e
set_came (x ∷ es) (o ∷ os) ss whole at (suc k) n e h q w i =
    let there : at + suc k ≡ at + 1 + k = omega arith in
    later x (set_came es os ss whole (at + 1) k n e h.1 q (subst (λ m. whole m ≡ true) there w)) i
  where
    later : (y : Entry)
        → (is_among (data_of es ++ ss) n ≡ true
        → came whole (at + 1) os n || is_among (data_of (slice_set es k (acked e)) ++ ss) n ≡ true)
        → is_among (data_of (y ∷ es) ++ ss) n ≡ true
        → came whole at (o ∷ os) n || is_among (data_of (y ∷ slice_set es k (acked e)) ++ ss) n ≡ true
    later (Data x) f i = grind (arith, nat_tests, f)
    later Own f i = grind (arith, nat_tests, f)
    later Gone f i = grind (arith, nat_tests, f)

pub acked_came : (g : Given) (os : List Next) (ss : List Sent) (whole : ℕ → Bool) (place n : ℕ) → AreAtPlaces g os
    → whole place ≡ true → is_among (data_of g.entries ++ ss) n ≡ true
    → came whole g.gone (drop g.gone os) n || is_among (data_of (with_ack g place).entries ++ ss) n ≡ true
acked_came g os ss whole place n h w i = by_place (nat_lt place g.gone) refl
  where
    none : entry_at g place ≡ None → came whole g.gone (drop g.gone os) n
        || is_among (data_of (with_ack g place).entries ++ ss) n ≡ true
    none e =
        subst (λ (o : Option Entry). came whole g.gone (drop g.gone os) n
        || is_among (data_of (acked_at o g.entries (place - g.gone)) ++ ss) n ≡ true) (sym e)
        (grind (arith, nat_tests))

    by_entry : (o : Option Entry) → slice_get g.entries (place - g.gone) ≡ o → g.gone ≤ place → entry_at g place ≡ o
        → came whole g.gone (drop g.gone os) n || is_among (data_of (with_ack g place).entries ++ ss) n ≡ true
    by_entry None q le e = none e
    by_entry (Some x) q le e =
        let at : g.gone + (place - g.gone) ≡ place = omega arith in
        subst (λ (o : Option Entry). came whole g.gone (drop g.gone os) n
        || is_among (data_of (acked_at o g.entries (place - g.gone)) ++ ss) n ≡ true) (sym e)
        (set_came g.entries (drop g.gone os) ss whole g.gone (place - g.gone) n x h.entries q
        (subst (λ m. whole m ≡ true) (sym at) w) i)

    by_place : (b : Bool) → nat_lt place g.gone ≡ b
        → came whole g.gone (drop g.gone os) n || is_among (data_of (with_ack g place).entries ++ ss) n ≡ true
    by_place true a = none (ap (λ (t : Bool). if t then None else slice_get g.entries (place - g.gone)) a)
    by_place false a =
        by_entry (slice_get g.entries (place - g.gone)) refl (grind (arith, nat_tests))
        (ap (λ (t : Bool). if t then None else slice_get g.entries (place - g.gone)) a)
