-- What may be taken, before and after the first of it is.
use Rattle.std.proofs.Common.{◌≡◌, ◌<◌, ℕ, ◌+◌, ◌-◌, List, [], ◌∷◌, ◌++◌, length, drop, take, map, Option, Some, None}
use Rattle.std.proofs.Common.{option_map, slice_get, subst, refl, ap, sym, ◌∙◌, arith}
use Rattle.pdcp_pdu.specs.declared.PdcpKind.{PdcpKind}
use Rattle.pdcp_tx_store.specs.declared.given.Sent.{Sent}
use Rattle.pdcp_tx.specs.declared.Next.{Next}
use Rattle.pdcp_tx_store.specs.Waiting.{Waits}
use Rattle.pdcp_tx.specs.State.{State as Sending, Offer, offers, owed_offers, again_offer, new_offers, written, taking}
use Rattle.pdcp_tx.specs.State.{took, took_owed, took_again, took_new}
use Rattle.pdcp_tx.proofs.Head.{heads}
use Rattle.bearer_pdcp.specs.Ends.{Ends}
use Rattle.bearer_pdcp.specs.Taking.{taken, taking_told, after_taking, next_told}

-- there is a first, and the others are left
pub record HasFirst (s : Sending) : Type 0 where
  pub first : Offer
  pub others : offers s ≡ first ∷ offers (took s)

has_first : (s : Sending) (os : List Offer) (pdu : List ℕ) → offers s ≡ os
    → option_map (λ n. n.octets) (option_map (λ o. written s.kind s.protection o.count o.text) (slice_get os 0))
    ≡ Some pdu → HasFirst s
has_first s [] pdu e h = let no : None ≡ Some pdu = h in cc
has_first s (o ∷ os) pdu e h = record { first = o; others = e ∙ ap (λ l. o ∷ l) (sym (heads s ∙ ap (drop 1) e)) }

pub first_offer : (e : Ends) (pdu : List ℕ) → taken e ≡ Some pdu → HasFirst e.tx
unfolding taken taking
first_offer e pdu h = has_first e.tx (offers e.tx) pdu refl h

pub fewer_offers : (e : Ends) (pdu : List ℕ) → taken e ≡ Some pdu
    → length (offers (after_taking e).tx) < length (offers e.tx)
unfolding after_taking
fewer_offers e pdu h = let f = first_offer e pdu h in
    subst (λ l. length (offers (took e.tx)) < length l) (sym f.others) (omega arith)

-- there is nothing, and taking it changes nothing
none_of : (s : Sending) (os : List Offer) → offers s ≡ os
    → option_map (λ n. n.octets) (option_map (λ o. written s.kind s.protection o.count o.text) (slice_get os 0))
    ≡ None → offers s ≡ []
none_of s [] e h = e
none_of s (o ∷ os) e h = let no : Some (written s.kind s.protection o.count o.text).octets ≡ None = h in cc

pub no_offer : (e : Ends) → taken e ≡ None → offers e.tx ≡ []
unfolding taken taking
no_offer e h = none_of e.tx (offers e.tx) refl h

new_same : (s : Sending) (n : ℕ) (ws : List Waits) → new_offers n ws ≡ [] → took_new ws s ≡ s
new_same s n [] h = refl
new_same s n (w ∷ ws) h = let no : record { count = Some n; text = w.sdu } ∷ new_offers (n + 1) ws ≡ [] = h in cc

again_same : (s : Sending) (ss : List Sent)
    → map again_offer ss ++ new_offers s.next (take (s.bound - s.next) s.waiting) ≡ [] → took_again ss s ≡ s
again_same s [] h = new_same s s.next (take (s.bound - s.next) s.waiting) h
again_same s (x ∷ xs) h =
    let no : again_offer x ∷ (map again_offer xs ++ new_offers s.next (take (s.bound - s.next) s.waiting)) ≡ [] = h in
    cc

owed_same : (s : Sending) (o : Option (List ℕ))
    → owed_offers o ++ map again_offer s.again ++ new_offers s.next (take (s.bound - s.next) s.waiting) ≡ []
    → took_owed o s ≡ s
owed_same s None h = again_same s s.again h
owed_same s (Some r) h = let no : record { count = None; text = r }
    ∷ (map again_offer s.again ++ new_offers s.next (take (s.bound - s.next) s.waiting)) ≡ [] = h in cc

took_same : (s : Sending) → offers s ≡ [] → took s ≡ s
unfolding offers took
took_same s h = owed_same s s.owed h

pub same_taking : (e : Ends) → taken e ≡ None → after_taking e ≡ e
unfolding after_taking
same_taking e h = ap (λ t. record e { tx = t }) (took_same e.tx (no_offer e h))

told_none : (lcid : ℕ) (kind : PdcpKind) (n : Option Next) → option_map (λ n. n.octets) n ≡ None
    → next_told lcid kind n ≡ []
told_none lcid kind None h = refl
told_none lcid kind (Some n) h = let no : Some n.octets ≡ None = h in cc

pub nothing_told : (e : Ends) → taken e ≡ None → taking_told e ≡ []
unfolding taken taking_told
nothing_told e h = told_none e.lcid e.kind (taking e.tx) h
