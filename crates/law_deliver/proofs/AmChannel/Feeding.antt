-- As RLC takes PDUs, as long as it is hungry, the SDUs that leave the queue and those that wait stay the same.
use Rattle.std.proofs.Common.{◌≡◌, ℕ, Bool, true, false, if◌then◌else◌, List, [], ◌∷◌, ◌++◌, append_assoc, refl, ap}
use Rattle.std.proofs.Common.{sym, subst, ◌∙◌}
use Rattle.std.proofs.lemmas.Grind.{flat_map-append}
use Rattle.bearer_pdcp.specs.Ends.{Ends}
use Rattle.bearer_pdcp.specs.Taking.{taking_told, after_taking}
use Rattle.bearer_types.specs.declared.event.Event.{Event}
use Rattle.law_node.proofs.Plain.{IsPlain, plain_passes}
use Rattle.pdcp_pdu.specs.Kinds.{is_am}
use Rattle.pdcp_pdu.specs.declared.pdu.PdcpKind.{PdcpKind}
use Rattle.pdcp_tx.specs.State.{Offer}
use Rattle.promises.specs.Taken.{length_in, lengths_on}
use Rattle.law_deliver.proofs.AmChannel.Leaving.{stays_on}
use Rattle.law_deliver.proofs.AmChannel.Lengths.{lens, one_taken}

module _ {W : Type 0} (events : W → List Event) (pdcp : W → Ends) (is_hungry : W → Bool) (fed : W → W)
    (events_are : (w : W) → events (fed w) ≡ events w ++ taking_told (pdcp w))
    (pdcp_is : (w : W) → pdcp (fed w) ≡ after_taking (pdcp w))
    (feeds : List Offer → W → W) (none : (w : W) → feeds [] w ≡ w)
    (some : (o : Offer) (os : List Offer) (w : W)
    → feeds (o ∷ os) w ≡ (if is_hungry w then feeds os (fed w) else w)) where
  -- the lengths of the SDUs that left and of those that wait
  abbrev lens_in : ℕ → W → List ℕ
  lens_in l w = lengths_on l (events w) ++ lens (pdcp w).tx.waiting

  by_hunger : (b : Bool) (l : ℕ) (w v : W) → lens_in l v ≡ lens_in l w → lens_in l (if b then v else w) ≡ lens_in l w
  by_hunger true l w v q = q
  by_hunger false l w v q = refl

  module _ (kind : PdcpKind) (off : is_am kind ≡ false) where
    fed_lens : (l : ℕ) (w : W) → (pdcp w).lcid ≡ l → IsPlain kind (pdcp w) → lens_in l (fed w) ≡ lens_in l w
    fed_lens l w own h =
        let left = lens (after_taking (pdcp w)).tx.waiting in
        let told = lengths_on l (events w) in
        ap (λ (e : Ends). lengths_on l (events (fed w)) ++ lens e.tx.waiting) (pdcp_is w)
        ∙ (ap (λ (es : List Event). lengths_on l es ++ left) (events_are w)
        ∙ (ap (λ (ns : List ℕ). ns ++ left) (flat_map-append (length_in l) (events w) (taking_told (pdcp w)))
        ∙ (append_assoc told (lengths_on l (taking_told (pdcp w))) left
        ∙ ap (λ (ns : List ℕ). told ++ ns) (one_taken kind off l (pdcp w) own h.sender))))

    pub feeds_lens : (l : ℕ) (os : List Offer) (w : W) → (pdcp w).lcid ≡ l → IsPlain kind (pdcp w)
        → lens_in l (feeds os w) ≡ lens_in l w
    feeds_lens l [] w own h = ap (lens_in l) (none w)
    feeds_lens l (o ∷ os) w own h =
        ap (lens_in l) (some o os w)
        ∙ by_hunger (is_hungry w) l w (feeds os (fed w))
        (feeds_lens l os (fed w) (subst (λ (e : Ends). e.lcid ≡ l) (sym (pdcp_is w)) (stays_on l (pdcp w) own))
        (subst (IsPlain kind) (sym (pdcp_is w)) ((plain_passes kind off).taken (pdcp w) h))
        ∙ fed_lens l w own h)
