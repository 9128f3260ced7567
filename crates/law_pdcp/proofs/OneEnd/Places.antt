-- What the sender keeps stands at its place in what RLC was given: through what is given, confirmed and reported.
use Rattle.std.proofs.Common.{◌≡◌, ℕ, zero, suc, ◌+◌, ◌-◌, ◌≤◌, Bool, true, false, if◌then◌else◌, nat_lt, List}
use Rattle.std.proofs.Common.{[], ◌∷◌, ◌++◌, map, drop, length, Option, Some, None, slice_get, slice_set, length-append}
use Rattle.std.proofs.Common.{subst, refl, ap, sym, ◌∙◌, arith}
use Rattle.std.proofs.lemmas.List.{length-drop}
use Rattle.pdcp_tx_store.specs.declared.given.Sent.{Sent}
use Rattle.pdcp_tx_store.specs.declared.given.Entry.{Entry}
use Rattle.pdcp_tx_store.specs.declared.given.Entry.TheVariants.{Data, Own, Gone}
use Rattle.pdcp_tx_store.specs.Given.{Given, is_open, trimmed, closed, settled, with_entry, acked, acked_at, entry_at}
use Rattle.pdcp_tx_store.specs.Given.{with_ack, tells, heard, with_report}
use Rattle.law_pdcp.specs.OneEnd.Places.{IsKeptOf, AreKeptOf, AreKeptAt}

module _ {X : Type 0} where
  pub drop_more : (n : ℕ) (os : List X) (o : X) → n ≤ length os → drop n (os ++ o ∷ []) ≡ drop n os ++ o ∷ []
  drop_more zero os o h = refl
  drop_more (suc n) [] o h = absurd (omega (arith, h))
  drop_more (suc n) (x ∷ os) o h = drop_more n os o (omega (arith, h))

  none_left : (n : ℕ) (os : List X) → os ≡ [] → drop n os ≡ []
  none_left zero os e = e
  none_left (suc n) [] e = refl
  none_left (suc n) (x ∷ os) e = absurd cc

  drop_further : (n m : ℕ) (os : List X) → drop (n + m) os ≡ drop m (drop n os)
  drop_further zero m os = let e : 0 + m ≡ m = omega arith in ap (λ k. drop k os) e
  drop_further (suc n) m [] = none_left (suc n + m) [] refl ∙ sym (none_left m (drop (suc n) []) refl)
  drop_further (suc n) m (x ∷ os) = let e : suc n + m ≡ suc (n + m) = omega arith in
      ap (λ k. drop k (x ∷ os)) e ∙ drop_further n m os

module _ {X : Type 0} (IsSdu : ℕ → List ℕ → X → Type 0) (IsReport : X → Type 0) where
  abbrev IsOf : Entry → X → Type 0
  IsOf = IsKeptOf IsSdu IsReport

  abbrev AreOf : List Entry → List X → Type 0
  AreOf = AreKeptOf IsSdu IsReport

  abbrev AreAtPlaces : Given → List X → Type 0
  AreAtPlaces = AreKeptAt IsSdu IsReport

  one_more : (es : List Entry) (os : List X) (e : Entry) (o : X) → AreOf es os → IsOf e o
      → AreOf (es ++ e ∷ []) (os ++ o ∷ [])
  one_more [] [] e o h i = (i, tt)
  one_more [] (x ∷ os) e o h i = absurd h
  one_more (x ∷ es) [] e o h i = absurd h
  one_more (x ∷ es) (y ∷ os) e o h i = (h.0, one_more es os e o h.1 i)

  pub entry_places : (g : Given) (os : List X) (e : Entry) (o : X) → AreAtPlaces g os → IsOf e o
      → AreAtPlaces (with_entry g e) (os ++ o ∷ [])
  entry_places g os e o h i =
      let len = length-append os (o ∷ []) in
      record {
        few = omega (arith, len, h.few);
        entries = subst (AreOf (g.entries ++ e ∷ [])) (sym (drop_more g.gone os o h.few))
            (one_more g.entries (drop g.gone os) e o h.entries i);
      }

  closed_step : (e : Entry) (es : List Entry) (o : X) (os : List X) (b : Bool) → is_open e ≡ b
      → AreOf (e ∷ es) (o ∷ os) → AreOf (trimmed es) (drop (closed es) os)
      → AreOf (trimmed (e ∷ es)) (drop (closed (e ∷ es)) (o ∷ os))
  closed_step e es o os true a h k = rw a h
  closed_step e es o os false a h k =
      let one : 1 + closed es ≡ suc (closed es) = omega arith in
      rw (a, one) k

  trim_places : (es : List Entry) (os : List X) → AreOf es os → AreOf (trimmed es) (drop (closed es) os)
  trim_places [] [] h = tt
  trim_places [] (o ∷ os) h = absurd h
  trim_places (e ∷ es) [] h = absurd h
  trim_places (e ∷ es) (o ∷ os) h = closed_step e es o os (is_open e) refl h (trim_places es os h.1)

  few_step : (e : Entry) (es : List Entry) (b : Bool) → is_open e ≡ b → closed es ≤ length es
      → closed (e ∷ es) ≤ length (e ∷ es)
  few_step e es true a h = rw a (omega arith)
  few_step e es false a h = rw a (omega (arith, h))

  few_closed : (es : List Entry) → closed es ≤ length es
  few_closed [] = omega arith
  few_closed (e ∷ es) = few_step e es (is_open e) refl (few_closed es)

  as_many : (es : List Entry) (os : List X) → AreOf es os → length es ≡ length os
  as_many [] [] h = refl
  as_many [] (o ∷ os) h = absurd h
  as_many (e ∷ es) [] h = absurd h
  as_many (e ∷ es) (o ∷ os) h = ap suc (as_many es os h.1)

  pub settled_places : (g : Given) (os : List X) → AreAtPlaces g os → AreAtPlaces (settled g) os
  settled_places g os h =
      let many = as_many g.entries (drop g.gone os) h.entries in
      let rest = length-drop g.gone os in
      let few = few_closed g.entries in
      record {
        few = omega (arith, many, rest, few, h.few);
        entries = subst (AreOf (trimmed g.entries)) (sym (drop_further g.gone (closed g.entries) os))
            (trim_places g.entries (drop g.gone os) h.entries);
      }

  -- ---- a confirmation, and a report

  acked_of : (e : Entry) (o : X) → IsOf e o → IsOf (acked e) o
  acked_of (Data x) o h = h
  acked_of Own o h = tt
  acked_of Gone o h = tt

  set_places : (es : List Entry) (os : List X) (k : ℕ) (e : Entry) → AreOf es os → slice_get es k ≡ Some e
      → AreOf (slice_set es k (acked e)) os
  set_places [] os k e h q = let no : None ≡ Some e = q in cc
  set_places (x ∷ es) [] k e h q = absurd h
  set_places (x ∷ es) (o ∷ os) zero e h q =
      let some : Some x ≡ Some e = q in
      let same : x ≡ e = cc in
      (acked_of e o (subst (λ (y : Entry). IsOf y o) same h.0), h.1)
  set_places (x ∷ es) (o ∷ os) (suc k) e h q = (h.0, set_places es os k e h.1 q)

  ack_by : (es : List Entry) (os : List X) (k : ℕ) (at : Option Entry)
      → ((e : Entry) → at ≡ Some e → slice_get es k ≡ Some e) → AreOf es os → AreOf (acked_at at es k) os
  ack_by es os k None f h = h
  ack_by es os k (Some e) f h = set_places es os k e h (f e refl)

  entry_is : (g : Given) (place : ℕ) (b : Bool) (e : Entry) → nat_lt place g.gone ≡ b → entry_at g place ≡ Some e
      → slice_get g.entries (place - g.gone) ≡ Some e
  entry_is g place true e a q = let no : None ≡ Some e =
      subst (λ (t : Bool). (if t then None else slice_get g.entries (place - g.gone)) ≡ Some e) a q in cc
  entry_is g place false e a q =
      subst (λ (t : Bool). (if t then None else slice_get g.entries (place - g.gone)) ≡ Some e) a q

  pub ack_places : (g : Given) (place : ℕ) (os : List X) → AreAtPlaces g os → AreAtPlaces (with_ack g place) os
  ack_places g place os h = record {
    few = h.few;
    entries = ack_by g.entries (drop g.gone os) (place - g.gone) (entry_at g place)
        (λ e q. entry_is g place (nat_lt place g.gone) e refl q) h.entries;
  }

  heard_step : (from : ℕ) (bitmap : List ℕ) (x : Sent) (o : X) (b : Bool) → tells from bitmap x.count ≡ b
      → IsOf (Data x) o → IsOf (heard from bitmap (Data x)) o
  heard_step from bitmap x o true a h = rw a tt
  heard_step from bitmap x o false a h = rw a h

  heard_of : (from : ℕ) (bitmap : List ℕ) (e : Entry) (o : X) → IsOf e o → IsOf (heard from bitmap e) o
  heard_of from bitmap (Data x) o h = heard_step from bitmap x o (tells from bitmap x.count) refl h
  heard_of from bitmap Own o h = h
  heard_of from bitmap Gone o h = h

  hear_places : (from : ℕ) (bitmap : List ℕ) (es : List Entry) (os : List X) → AreOf es os
      → AreOf (map (heard from bitmap) es) os
  hear_places from bitmap [] os h = h
  hear_places from bitmap (e ∷ es) [] h = absurd h
  hear_places from bitmap (e ∷ es) (o ∷ os) h = (heard_of from bitmap e o h.0, hear_places from bitmap es os h.1)

  pub report_places : (g : Given) (from : ℕ) (bitmap : List ℕ) (os : List X) → AreAtPlaces g os
      → AreAtPlaces (with_report g from bitmap) os
  report_places g from bitmap os h =
      record { few = h.few; entries = hear_places from bitmap g.entries (drop g.gone os) h.entries }
