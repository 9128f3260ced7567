-- What RLC may take next, on both sides.
use Rattle.std.proofs.Common.{◌≡◌, ◌<◌, ◌≤◌, ℕ, zero, suc, ◌+◌, ◌-◌, Bool, true, false, nat_lt, if◌then◌else◌}
use Rattle.std.proofs.Common.{List, [], ◌∷◌, ◌++◌, length, map, take, Option, Some, None, is_some, slice_get}
use Rattle.std.proofs.Common.{refl, ap, sym, ◌∙◌, arith, inl, inr, subst}
use Rattle.std.proofs.lemmas.Bool.{cases_lt, lt-ltb, le-ltb, and_from, and_left, and_right}
use Rattle.pdcp_tx_store.specs.declared.given.Sent.{Sent}
use Rattle.pdcp_tx_store.specs.Waiting.{Waits}
use Rattle.pdcp_tx.specs.State.{State, Offer, offers, owed_offers, again_offer, new_offers}
use Rattle.journal_takes.specs.declared.take.Take.{Take}
use Rattle.journal_takes.specs.declared.take.Take.TheVariants.{Report, Pdu}
use Rattle.journal_takes.specs.Takeable.{offer}
use Rattle.journal_takes.specs.FlowTakes.{FlowTakes, bound_of, is_free, next_take, sdu_kept}
use Rattle.law_takes.specs.Accounted.{is_confirmed, unreported, IsAccounted}
use Rattle.law_takes.specs.Laws.{IsOffered, OffersAreAccounted}
use Rattle.law_takes.proofs.Numbered.{one}
use Rattle.law_takes.proofs.Settling.{head-at, none-at, rest-at, low-told}

-- ---- the cases

pub record OwesReport (s : State) (t : FlowTakes) : Type 0 where
  pub report : List ℕ
  pub owed : s.owed ≡ Some report
  pub next : next_take t ≡ Some Report

pub record HasAgain (s : State) (t : FlowTakes) : Type 0 where
  pub sdu : List ℕ
  pub rest : List Sent
  pub owed : s.owed ≡ None
  pub again : s.again ≡ one (is_confirmed t) t.at sdu ∷ rest
  pub rest_is : rest ≡ unreported (t.at + 1) t
  pub below : t.at < t.next
  pub octets : sdu_kept t.at t ≡ Some sdu
  pub next : next_take t ≡ Some (Pdu t.at)

pub record HasNew (s : State) (t : FlowTakes) : Type 0 where
  pub first : Waits
  pub rest : List Waits
  pub owed : s.owed ≡ None
  pub again : s.again ≡ []
  pub waiting : s.waiting ≡ first ∷ rest
  pub some : take (s.bound - s.next) s.waiting ≡ first ∷ take (s.bound - s.next - 1) rest
  pub at : t.at ≡ t.next
  pub bound : t.next < bound_of t
  pub octets : sdu_kept t.at t ≡ Some first.sdu
  pub next : next_take t ≡ Some (Pdu t.at)

pub record HasNone (s : State) (t : FlowTakes) : Type 0 where
  pub owed : s.owed ≡ None
  pub again : s.again ≡ []
  pub none : take (s.bound - s.next) s.waiting ≡ []
  pub next : next_take t ≡ None

pub data Turn (s : State) (t : FlowTakes) : Type 0 where
  Reports : OwesReport s t → Turn s t
  Again : HasAgain s t → Turn s t
  New : HasNew s t → Turn s t
  Rests : HasNone s t → Turn s t

-- ---- one of them is

get-front : (xs ys : List (List ℕ)) (k : ℕ) (x : List ℕ) → slice_get xs k ≡ Some x → slice_get (xs ++ ys) k ≡ Some x
get-front [] ys k x e = let none : None ≡ Some x = e in absurd cc
get-front (y ∷ xs) ys zero x e = e
get-front (y ∷ xs) ys (suc k) x e = get-front xs ys k x e

get-end : (xs ys : List (List ℕ)) (k : ℕ) (x : List ℕ) → k ≡ length xs → slice_get (xs ++ x ∷ ys) k ≡ Some x
get-end [] ys k x e = ap (slice_get (x ∷ ys)) e
get-end (y ∷ xs) ys zero x e = absurd (omega (arith, e))
get-end (y ∷ xs) ys (suc k) x e = get-end xs ys k x (omega (arith, e))

kept-there : (t : FlowTakes) (count : ℕ) (sdu : Option (List ℕ)) → t.from ≤ count
    → slice_get (t.sdus ++ t.waiting) (count - t.from) ≡ sdu → sdu_kept count t ≡ sdu
kept-there t count sdu le e =
    ap (λ (b : Bool). if b then None else slice_get (t.sdus ++ t.waiting) (count - t.from)) (le-ltb count t.from le)
    ∙ e

next-as : (t : FlowTakes) (due free : Bool) → t.due ≡ due → is_free t ≡ free → next_take t ≡ offer due free t.at
next-as t due free d f =
    ap (λ (b : Bool). offer b (is_free t) t.at) d ∙ ap (λ (b : Bool). offer due b t.at) f

undue : (s : State) (t : FlowTakes) → IsAccounted s t → s.owed ≡ None → t.due ≡ false
undue s t h o = sym h.due ∙ ap is_some o

turn-again : (s : State) (t : FlowTakes) → IsAccounted s t → s.owed ≡ None → (x : Sent) (xs : List Sent)
    → s.again ≡ x ∷ xs → t.at < t.next → Turn s t
turn-again s t h o x xs e lt =
    let at' = head-at t t.at h.account.order h.account.order.from_at lt h.account.at_open in
    let is : s.again ≡ one (is_confirmed t) t.at at'.sdu ∷ unreported (t.at + 1) t =
    h.again ∙ at'.is ∙ ap (λ (l : List Sent). one (is_confirmed t) t.at at'.sdu ∷ l) (rest-at t t.at) in
    let free : is_free t ≡ true =
    and_from (nat_lt t.at (t.next + length t.waiting)) (nat_lt t.at (bound_of t))
    (lt-ltb t.at (t.next + length t.waiting) (omega (arith, lt)))
    (lt-ltb t.at (bound_of t) (omega (arith, lt, h.account.order.within))) in
    Again (record {
      sdu = at'.sdu;
      rest = unreported (t.at + 1) t;
      owed = o;
      again = is;
      rest_is = refl;
      below = lt;
      octets = kept-there t t.at (Some at'.sdu) h.account.order.from_at
          (get-front t.sdus t.waiting (t.at - t.from) at'.sdu at'.there);
      next = next-as t false true (undue s t h o) free;
    })

at-next : (s : State) (t : FlowTakes) → IsAccounted s t → s.again ≡ [] → t.at ≡ t.next
at-next s t h e = elim (cases_lt t.at t.next) [
  | inl lt ↦
      let at' = head-at t t.at h.account.order h.account.order.from_at lt h.account.at_open in
      let some : [] ≡ one (is_confirmed t) t.at at'.sdu ∷ unreported (t.at + 1) t =
      sym e ∙ h.again ∙ at'.is
      ∙ ap (λ (l : List Sent). one (is_confirmed t) t.at at'.sdu ∷ l) (rest-at t t.at) in
      absurd cc
  | inr ge ↦ omega (arith, ge, h.account.order.at)
]

no-more : (s : State) (t : FlowTakes) → IsAccounted s t → s.owed ≡ None → s.again ≡ []
    → take (s.bound - s.next) s.waiting ≡ [] → is_free t ≡ false → Turn s t
no-more s t h o a none free =
    Rests (record { owed = o; again = a; none = none; next = next-as t false false (undue s t h o) free })

turn-new : (s : State) (t : FlowTakes) → IsAccounted s t → s.owed ≡ None → s.again ≡ [] → (n : ℕ) (ws : List Waits)
    → s.bound - s.next ≡ n → s.waiting ≡ ws → Turn s t
turn-new s t h o a zero ws few w =
    let at' = at-next s t h a in
    let past' : bound_of t ≤ t.at = omega (arith, few, at', h.next, h.bound) in
    no-more s t h o a (ap (λ (k : ℕ). take k s.waiting) few)
    (and_right (nat_lt t.at (t.next + length t.waiting)) (nat_lt t.at (bound_of t)) (le-ltb t.at (bound_of t) past'))
turn-new s t h o a (suc n) [] few w =
    let at' = at-next s t h a in
    let none : t.waiting ≡ [] = sym h.waiting ∙ ap (λ (l : List Waits). map (λ w. w.sdu) l) w in
    let many : length t.waiting ≡ 0 = ap length none in
    no-more s t h o a
    (ap (λ (k : ℕ). take k s.waiting) few ∙ ap (λ (l : List Waits). take (suc n) l) w)
    (and_left (nat_lt t.at (t.next + length t.waiting)) (nat_lt t.at (bound_of t))
    (le-ltb t.at (t.next + length t.waiting) (omega (arith, many, at'))))
turn-new s t h o a (suc n) (w ∷ ws) few is =
    let at' = at-next s t h a in
    let waits : t.waiting ≡ w.sdu ∷ map (λ w. w.sdu) ws =
    sym h.waiting ∙ ap (λ (l : List Waits). map (λ w. w.sdu) l) is in
    let many : length t.waiting ≡ suc (length (map (λ (w : Waits). w.sdu) ws)) = ap length waits in
    let below : t.next < bound_of t = omega (arith, few, h.next, h.bound) in
    let less : n ≡ s.bound - s.next - 1 = omega (arith, few) in
    let free : is_free t ≡ true =
    and_from (nat_lt t.at (t.next + length t.waiting)) (nat_lt t.at (bound_of t))
    (lt-ltb t.at (t.next + length t.waiting) (omega (arith, many, at')))
    (lt-ltb t.at (bound_of t) (omega (arith, below, at'))) in
    New (record {
      first = w;
      rest = ws;
      owed = o;
      again = a;
      waiting = is;
      some = ap (λ (k : ℕ). take k s.waiting) few ∙ ap (λ (l : List Waits). take (suc n) l) is
          ∙ ap (λ (k : ℕ). w ∷ take k ws) less;
      at = at';
      bound = below;
      octets = kept-there t t.at (Some w.sdu) h.account.order.from_at
          (ap (λ (l : List (List ℕ)). slice_get (t.sdus ++ l) (t.at - t.from)) waits
          ∙ get-end t.sdus (map (λ w. w.sdu) ws) (t.at - t.from) w.sdu
          (omega (arith, at', h.account.order.sdus, h.account.order.from_at)));
      next = next-as t false true (undue s t h o) free;
    })

turn-by : (s : State) (t : FlowTakes) → IsAccounted s t → (o : Option (List ℕ)) (ss : List Sent) → s.owed ≡ o
    → s.again ≡ ss → Turn s t
turn-by s t h (Some report) ss o a =
    Reports (record {
      report = report;
      owed = o;
      next = ap (λ (b : Bool). offer b (is_free t) t.at) (sym h.due ∙ ap is_some o);
    })
turn-by s t h None [] o a = turn-new s t h o a (s.bound - s.next) s.waiting refl refl
turn-by s t h None (x ∷ xs) o a = elim (cases_lt t.at t.next) [
  | inl lt ↦ turn-again s t h o x xs a lt
  | inr ge ↦
      let none : x ∷ xs ≡ [] = sym a ∙ h.again ∙ none-at t t.at h.account.order ge in
      absurd cc
]

pub turn : (s : State) (t : FlowTakes) → IsAccounted s t → Turn s t
turn s t h = turn-by s t h s.owed s.again refl refl

-- ---- what may be taken

pub offers-as : (s : State) (o : Option (List ℕ)) (ss : List Sent) (ws : List Waits) → s.owed ≡ o → s.again ≡ ss
    → take (s.bound - s.next) s.waiting ≡ ws
    → offers s ≡ owed_offers o ++ map again_offer ss ++ new_offers s.next ws
unfolding offers
offers-as s o ss ws p q r =
    ap (λ l. owed_offers l ++ map again_offer s.again ++ new_offers s.next (take (s.bound - s.next) s.waiting)) p
    ∙ ap (λ l. owed_offers o ++ map again_offer l ++ new_offers s.next (take (s.bound - s.next) s.waiting)) q
    ∙ ap (λ l. owed_offers o ++ map again_offer ss ++ new_offers s.next l) r

first-by : (s : State) (t : FlowTakes) (all : List Offer) (next : Option Take) → offers s ≡ all → next_take t ≡ next
    → IsOffered t (slice_get all 0) next → IsOffered t (slice_get (offers s) 0) (next_take t)
first-by s t all next a n h =
    subst (λ l. IsOffered t (slice_get l 0) (next_take t)) (sym a)
    (subst (λ o. IsOffered t (slice_get all 0) o) (sym n) h)

first-offered : (s : State) (t : FlowTakes) → IsAccounted s t → Turn s t
    → IsOffered t (slice_get (offers s) 0) (next_take t)
first-offered s t h (Reports r) =
    first-by s t
    (owed_offers (Some r.report) ++ map again_offer s.again
    ++ new_offers s.next (take (s.bound - s.next) s.waiting)) (Some Report)
    (offers-as s (Some r.report) s.again (take (s.bound - s.next) s.waiting) r.owed refl refl) r.next refl
first-offered s t h (Again r) =
    first-by s t
    (owed_offers None ++ map again_offer (one (is_confirmed t) t.at r.sdu ∷ r.rest)
    ++ new_offers s.next (take (s.bound - s.next) s.waiting)) (Some (Pdu t.at))
    (offers-as s None (one (is_confirmed t) t.at r.sdu ∷ r.rest) (take (s.bound - s.next) s.waiting) r.owed r.again
    refl) r.next (refl, r.octets)
first-offered s t h (New r) =
    first-by s t
    (owed_offers None ++ map again_offer [] ++ new_offers s.next (r.first ∷ take (s.bound - s.next - 1) r.rest))
    (Some (Pdu t.at))
    (offers-as s None [] (r.first ∷ take (s.bound - s.next - 1) r.rest) r.owed r.again r.some) r.next
    (let is : s.next ≡ t.at = h.next ∙ sym r.at in ap Some is, r.octets)
first-offered s t h (Rests r) =
    first-by s t (owed_offers None ++ map again_offer [] ++ new_offers s.next []) None
    (offers-as s None [] [] r.owed r.again r.none) r.next tt

some-alike : (t : FlowTakes) (o : Option Offer) (next : Option Take) → IsOffered t o next → is_some o ≡ is_some next
some-alike t None None h = refl
some-alike t None (Some take') h = absurd h
some-alike t (Some o) None h = absurd h
some-alike t (Some o) (Some take') h = refl

pub offers_are_accounted : OffersAreAccounted
offers_are_accounted s t h =
    let first' = first-offered s t h (turn s t h) in
    record {
      low = low-told s t h.next h.kept h.account;
      first = first';
      some = some-alike t (slice_get (offers s) 0) (next_take t) first';
    }
