-- RLC takes PDUs of PDCP one by one, whatever RLC's sender is.
use Rattle.std.proofs.Common.{◌≡◌, ℕ, zero, suc, ◌≤◌, List, [], ◌∷◌, take, map, length, Option, Some, refl, ap, sym}
use Rattle.std.proofs.Common.{◌∙◌, arith, Bool, true, false, if◌then◌else◌, drop, subst}
use Rattle.pdcp_tx.specs.State.{Offer, offers, took}
use Rattle.bearer_pdcp.specs.Ends.{Ends}
use Rattle.bearer_pdcp.specs.Taking.{taken, after_taking}
use Rattle.law_bearer.specs.AnyBearer.Stream.{pdu_of}
use Rattle.law_bearer.proofs.AnyBearer.Sender.{left_of, took_all, took_same, same_pdus}
use Rattle.law_bearer.proofs.AnyBearer.Parts.{first_taken, pdcp_took, pdcp_rest}

-- by how RLC's sender is given one, and all of a list
module _ {T : Type 0} (give : Option (List ℕ) → T → T) (all : List (List ℕ) → T → T) where
  -- so many are fed
  pub record Fed (os : List Offer) (e d : Ends) (x y : T) : Type 0 where
    pub n : ℕ
    pub few : n ≤ length os
    pub left : d.tx ≡ took_all n e.tx
    pub kind : d.kind ≡ e.kind
    pub rx : d.rx.kind ≡ e.rx.kind
    pub offered : y ≡ all (map (pdu_of e.tx) (take n os)) x

  pub none_fed : ((x : T) → all [] x ≡ x) → (os : List Offer) (e : Ends) (x : T) → Fed os e e x x
  none_fed none os e x =
      record { n = zero; few = omega arith; left = refl; kind = refl; rx = refl; offered = sym (none x) }

  pub one_fed : ((pdu : List ℕ) (pdus : List (List ℕ)) (x : T) → all (pdu ∷ pdus) x ≡ all pdus (give (Some pdu) x))
      → (o : Offer) (os : List Offer) (e d : Ends) (x y : T) → offers e.tx ≡ o ∷ os
      → Fed os (after_taking e) d (give (taken e) x) y → Fed (o ∷ os) e d x y
  one_fed more o os e d x y q f = record {
    n = suc f.n;
    few = omega (arith, f.few);
    left = f.left ∙ ap (took_all f.n) (pdcp_took e);
    kind = f.kind ∙ (pdcp_rest e).0;
    rx = f.rx ∙ (pdcp_rest e).1;
    offered =
        f.offered
        ∙ ap (λ pdu. all (map (pdu_of (after_taking e).tx) (take f.n os)) (give pdu x)) (first_taken e o os q)
        ∙ ap (λ s. all (map (pdu_of s) (take f.n os)) (give (Some (pdu_of e.tx o)) x)) (pdcp_took e)
        ∙ ap (λ l. all l (give (Some (pdu_of e.tx o)) x))
        (same_pdus e.tx (took e.tx) (take f.n os) (took_same e.tx))
        ∙ sym (more (pdu_of e.tx o) (map (pdu_of e.tx) (take f.n os)) x);
  }

-- as long as RLC is hungry
module _ {T W : Type 0} (give : Option (List ℕ) → T → T) (all : List (List ℕ) → T → T) (none : (x : T) → all [] x ≡ x)
    (more : (pdu : List ℕ) (pdus : List (List ℕ)) (x : T) → all (pdu ∷ pdus) x ≡ all pdus (give (Some pdu) x))
    (pdcp : W → Ends) (tx : W → T) (is_hungry : W → Bool) (fed : W → W)
    (pdcp_is : (w : W) → pdcp (fed w) ≡ after_taking (pdcp w))
    (tx_is : (w : W) → tx (fed w) ≡ give (taken (pdcp w)) (tx w))
    (feeds : List Offer → W → W) (ends : (w : W) → feeds [] w ≡ w)
    (goes_on : (o : Offer) (os : List Offer) (w : W)
    → feeds (o ∷ os) w ≡ (if is_hungry w then feeds os (fed w) else w)) where
  abbrev FedTo : List Offer → W → W → Type 0
  FedTo os w v = Fed give all os (pdcp w) (pdcp v) (tx w) (tx v)

  none_to : (os : List Offer) (w : W) → FedTo os w w
  none_to os w = none_fed give all none os (pdcp w) (tx w)

  fed_by : (b : Bool) (o : Offer) (os : List Offer) (w v : W) → offers (pdcp w).tx ≡ o ∷ os → FedTo os (fed w) v
      → FedTo (o ∷ os) w (if b then v else w)
  fed_by true o os w v q f =
      one_fed give all more o os (pdcp w) (pdcp v) (tx w) (tx v) q
      (subst (λ (e : Ends). Fed give all os e (pdcp v) (give (taken (pdcp w)) (tx w)) (tx v)) (pdcp_is w)
      (subst (λ (x : T). Fed give all os (pdcp (fed w)) (pdcp v) x (tx v)) (tx_is w) f))
  fed_by false o os w v q f = none_to (o ∷ os) w

  pub all_fed : (os : List Offer) (w : W) → offers (pdcp w).tx ≡ os → FedTo os w (feeds os w)
  all_fed [] w q = subst (FedTo [] w) (sym (ends w)) (none_to [] w)
  all_fed (o ∷ os) w q =
      let left : offers (pdcp (fed w)).tx ≡ os =
      ap (λ (e : Ends). offers e.tx) (pdcp_is w) ∙ ap offers (pdcp_took (pdcp w)) ∙ left_of 1 (pdcp w).tx
      ∙ ap (drop 1) q in
      subst (FedTo (o ∷ os) w) (sym (goes_on o os w))
      (fed_by (is_hungry w) o os w (feeds os (fed w)) q (all_fed os (fed w) left))
