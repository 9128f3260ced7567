-- What leaves the queue of a bearer that isn't of acknowledged data, and what waits there, told by their lengths.
use Rattle.std.proofs.Common.{◌≡◌, ℕ, zero, suc, ◌+◌, ◌-◌, ◌==◌, Bool, true, false, if◌then◌else◌, Option, Some, List}
use Rattle.std.proofs.Common.{[], ◌∷◌, ◌++◌, map, length, take, drop, append-nil, slice_get, option_map, refl, ap, sym}
use Rattle.std.proofs.Common.{◌∙◌, arith}
use Rattle.std.proofs.lemmas.Bool.Decides.{nat_tests}
use Rattle.bearer_pdcp.specs.Discarding.{without_late, late_told, after_tick, tick_told}
use Rattle.bearer_pdcp.specs.Ends.{Ends}
use Rattle.bearer_pdcp.specs.Taking.{next_told, taking_told, after_taking as after_pdcp}
use Rattle.bearer_types.specs.declared.event.Event.{Event}
use Rattle.bearer_types.specs.declared.event.Event.TheVariants as events
use Rattle.law_bearer.proofs.AnyBearer.Parts.{Passed, pdcp_took}
use Rattle.law_bearer.proofs.AnyBearer.Sender.{nothing, sdus, moved_queue}
use Rattle.law_node.proofs.Plain.{IsPlainSender, took_is}
use Rattle.pdcp_pdu.specs.Kinds.{is_am}
use Rattle.pdcp_pdu.specs.declared.pdu.PdcpKind.{PdcpKind}
use Rattle.pdcp_tx.specs.State.{State as Sending, Offer, owed_offers, again_offer, new_offers, offers, written}
use Rattle.pdcp_tx.specs.State.{took_new, took, taking as pdcp_taking, is_overdue, after_late, ticked}
use Rattle.pdcp_tx_store.specs.Waiting.{Waits}
use Rattle.pdcp_tx_store.specs.declared.given.Sent.{Sent}
use Rattle.promises.specs.Taken.{length_in, lengths_on}
use Rattle.law_deliver.proofs.AmChannel.Leaving.{late_waiting}
use Rattle.law_deliver.proofs.AmFlow.Events.{OfHearing}

abbrev pub lens : List Waits → List ℕ
lens ws = map length (sdus ws)

-- ---- RLC takes the first that waits

first_waits : (n : ℕ) (ws vs : List Waits) (w : Waits) → take n ws ≡ w ∷ vs → ws ≡ w ∷ drop 1 ws
first_waits zero ws vs w q = let no : [] ≡ w ∷ vs = q in absurd cc
first_waits (suc n) [] vs w q = let no : [] ≡ w ∷ vs = q in absurd cc
first_waits (suc n) (x ∷ xs) vs w q =
    let both : x ∷ take n xs ≡ w ∷ vs = q in
    let same : x ≡ w = cc in
    ap (λ (y : Waits). y ∷ xs) same

offers_are : (kind : PdcpKind) (s : Sending) → IsPlainSender kind s
    → offers s ≡ new_offers s.next (take (s.bound - s.next) s.waiting)
unfolding offers
offers_are kind s h =
    let news = new_offers s.next (take (s.bound - s.next) s.waiting) in
    ap (λ (o : Option (List ℕ)). owed_offers o ++ map again_offer s.again ++ news) h.owes_none
    ∙ ap (λ (xs : List Sent). map again_offer xs ++ news) h.none_again

none_told : (e : Ends) → offers e.tx ≡ [] → taking_told e ≡ []
unfolding taking_told pdcp_taking
none_told e q = ap (λ (xs : List Offer). next_told e.lcid e.kind
    (option_map (λ o. written e.tx.kind e.tx.protection o.count o.text) (slice_get xs 0))) q

one_told : (e : Ends) (n : ℕ) (text : List ℕ) (os : List Offer)
    → offers e.tx ≡ record { count = Some n; text = text } ∷ os
    → taking_told e ≡ events.Take e.lcid (Some n) (length text) ∷ []
unfolding taking_told pdcp_taking
one_told e n text os q = ap (λ (xs : List Offer). next_told e.lcid e.kind
    (option_map (λ o. written e.tx.kind e.tx.protection o.count o.text) (slice_get xs 0))) q

module _ (kind : PdcpKind) (off : is_am kind ≡ false) where
  taken_by : (l : ℕ) (e : Ends) (ws : List Waits) → e.lcid ≡ l → IsPlainSender kind e.tx
      → take (e.tx.bound - e.tx.next) e.tx.waiting ≡ ws
      → lengths_on l (taking_told e) ++ lens (took e.tx).waiting ≡ lens e.tx.waiting
  taken_by l e [] own h q =
      let none = none_told e (offers_are kind e.tx h ∙ ap (new_offers e.tx.next) q) in
      let left = took_is kind off e.tx h ∙ ap (λ (vs : List Waits). took_new vs e.tx) q in
      ap (λ (es : List Event). lengths_on l es ++ lens (took e.tx).waiting) none
      ∙ ap (λ (s : Sending). lens s.waiting) left
  taken_by l e (w ∷ ws) own h q =
      let here : (e.lcid == l) ≡ true = grind (arith, nat_tests, own) in
      let told = one_told e e.tx.next w.sdu (new_offers (e.tx.next + 1) ws)
      (offers_are kind e.tx h ∙ ap (new_offers e.tx.next) q) in
      let left = took_is kind off e.tx h ∙ ap (λ (vs : List Waits). took_new vs e.tx) q in
      let waits = first_waits (e.tx.bound - e.tx.next) e.tx.waiting ws w q in
      ap (λ (es : List Event). lengths_on l es ++ lens (took e.tx).waiting) told
      ∙ (ap (λ (s : Sending). lengths_on l (events.Take e.lcid (Some e.tx.next) (length w.sdu) ∷ []) ++ lens s.waiting)
      left
      ∙ (ap (λ (b : Bool). ((if b then length w.sdu ∷ [] else []) ++ []) ++ lens (drop 1 e.tx.waiting)) here
      ∙ sym (ap lens waits)))

  pub one_taken : (l : ℕ) (e : Ends) → e.lcid ≡ l → IsPlainSender kind e.tx
      → lengths_on l (taking_told e) ++ lens (after_pdcp e).tx.waiting ≡ lens e.tx.waiting
  one_taken l e own h =
      ap (λ (s : Sending). lengths_on l (taking_told e) ++ lens s.waiting) (pdcp_took e)
      ∙ taken_by l e (take (e.tx.bound - e.tx.next) e.tx.waiting) own h refl

-- ---- discard timers

late_by : (b : Bool) (l lcid : ℕ) (w : Waits) (ws : List Waits) (s : Sending) → lcid ≡ l → s.waiting ≡ w ∷ ws
    → (is_overdue s ≡ true
    → lengths_on l (late_told lcid ws (after_late s)) ++ lens (without_late ws (after_late s)).waiting ≡ lens ws)
    → is_overdue s ≡ b
    → lengths_on l (if b then events.Discard lcid (length w.sdu) ∷ late_told lcid ws (after_late s) else [])
    ++ lens (if b then without_late ws (after_late s) else s).waiting ≡ lens (w ∷ ws)
late_by true l lcid w ws s own q rest e =
    let here : (lcid == l) ≡ true = grind (arith, nat_tests, own) in
    let more = lengths_on l (late_told lcid ws (after_late s)) in
    let left = lens (without_late ws (after_late s)).waiting in
    ap (λ (c : Bool). ((if c then length w.sdu ∷ [] else []) ++ more) ++ left) here
    ∙ ap (λ (ns : List ℕ). length w.sdu ∷ ns) (rest e)
late_by false l lcid w ws s own q rest e = ap lens q

lates_told : (l lcid : ℕ) (ws : List Waits) (s : Sending) → lcid ≡ l → s.waiting ≡ ws
    → lengths_on l (late_told lcid ws s) ++ lens (without_late ws s).waiting ≡ lens ws
lates_told l lcid [] s own q = ap lens q
lates_told l lcid (w ∷ ws) s own q =
    late_by (is_overdue s) l lcid w ws s own q
    (λ e. lates_told l lcid ws (after_late s) own (late_waiting w ws s e q)) refl

pub tick_lens : (l : ℕ) (e : Ends) → e.lcid ≡ l
    → lengths_on l (tick_told e) ++ lens (after_tick e).tx.waiting ≡ lens e.tx.waiting
unfolding tick_told after_tick
tick_lens l e own = lates_told l e.lcid e.tx.waiting (ticked e.tx) own refl

pub hears_none : (l m : ℕ) → OfHearing (λ x. length_in l x ≡ []) m
hears_none l m = record {
  start = λ clock. refl;
  stop = λ clock. refl;
  expired = λ clock. refl;
  up = λ sdu. refl;
  fail = λ sn. refl;
  drop = λ why own. refl;
  integrity = λ found wanted. refl;
  bad_rlc = λ fault. refl;
  bad_pdcp = λ fault. refl;
}

pub same_lens : (d e : Ends) → Passed d e nothing → lens e.tx.waiting ≡ lens d.tx.waiting
same_lens d e p =
    ap (λ (xs : List (List ℕ)). map length xs) (moved_queue d.tx e.tx nothing p.tx ∙ append-nil (sdus d.tx.waiting))
