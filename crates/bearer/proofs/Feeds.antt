-- One SDU after the other is fed to RLC of either kind.
use Rattle.std.proofs.Common.{◌≡◌, ℕ, Bool, true, false, if◌then◌else◌, List, [], ◌∷◌, ◌++◌, Option, Some, None}
use Rattle.std.proofs.Common.{ap, sym, ◌∙◌}
use Rattle.std.proofs.lemmas.List.{append-nil}
use Rattle.bearer_types.specs.declared.Event.{Event}
use Rattle.pdcp_tx.specs.State.{Offer, offers}
use Rattle.bearer_pdcp.specs.Ends.{Ends}
use Rattle.bearer_pdcp.specs.Taking.{taken, taking_told, after_taking}
use Rattle.bearer_pdcp.proofs.Offered.{first_offer, no_offer, same_taking, nothing_told}

module _ {S W : Type 0} (at : Ends → S → List Event → W) (is_hungry : W → Bool) (fed : W → W)
    (feeds : List Offer → W → W) (given : Option (List ℕ) → S → S) (none : (w : W) → feeds [] w ≡ w)
    (some : (o : Offer) (os : List Offer) (w : W)
    → feeds (o ∷ os) w ≡ (if is_hungry w then feeds os (fed w) else w))
    (fed_is : (pdcp : Ends) (tx : S) (events : List Event)
    → fed (at pdcp tx events) ≡ at (after_taking pdcp) (given (taken pdcp) tx) (events ++ taking_told pdcp)) where
  full_by : (os : List Offer) (w : W) → is_hungry w ≡ false → w ≡ feeds os w
  full_by [] w h = sym (none w)
  full_by (o ∷ os) w h = sym (some o os w ∙ ap (λ (b : Bool). if b then feeds os (fed w) else w) h)

  -- the PDU has no room for more
  pub is_full : (pdcp : Ends) (tx : S) (events : List Event) → is_hungry (at pdcp tx events) ≡ false
      → at pdcp tx events ≡ feeds (offers pdcp.tx) (at pdcp tx events)
  is_full pdcp tx events h = full_by (offers pdcp.tx) (at pdcp tx events) h

  -- PDCP has no more
  pub is_empty : (pdcp : Ends) (tx : S) (events : List Event) → taken pdcp ≡ None
      → at (after_taking pdcp) tx (events ++ taking_told pdcp) ≡ feeds (offers pdcp.tx) (at pdcp tx events)
  is_empty pdcp tx events h =
      ap (λ p. at p tx (events ++ taking_told pdcp)) (same_taking pdcp h)
      ∙ ap (λ l. at pdcp tx (events ++ l)) (nothing_told pdcp h)
      ∙ ap (at pdcp tx) (append-nil events)
      ∙ sym (none (at pdcp tx events))
      ∙ ap (λ os. feeds os (at pdcp tx events)) (sym (no_offer pdcp h))

  one_more : (os : List Offer) (o : Offer) (w : W) → is_hungry w ≡ true → feeds os (fed w) ≡ feeds (o ∷ os) w
  one_more os o w h = sym (some o os w ∙ ap (λ (b : Bool). if b then feeds os (fed w) else w) h)

  -- one is fed
  pub has_more : (pdcp : Ends) (tx : S) (events : List Event) (pdu : List ℕ) → is_hungry (at pdcp tx events) ≡ true
      → taken pdcp ≡ Some pdu
      → feeds (offers (after_taking pdcp).tx)
      (at (after_taking pdcp) (given (Some pdu) tx) (events ++ taking_told pdcp))
      ≡ feeds (offers pdcp.tx) (at pdcp tx events)
  unfolding after_taking
  has_more pdcp tx events pdu h t =
      let f = first_offer pdcp pdu t in
      let left = offers (after_taking pdcp).tx in
      ap (λ o. feeds left (at (after_taking pdcp) (given o tx) (events ++ taking_told pdcp))) (sym t)
      ∙ ap (feeds left) (sym (fed_is pdcp tx events))
      ∙ one_more left f.first (at pdcp tx events) h
      ∙ ap (λ os. feeds os (at pdcp tx events)) (sym f.others)

-- ---- what is said of the three ways in which a step ends, of a kind by its world, its sender and its definitions

abbrev pub AtFull : {S W : Type 0} → (Ends → S → List Event → W) → (S → ℕ → Option ℕ → Bool)
    → (List Offer → ℕ → Option ℕ → W → W) → Type 0
AtFull {S} at is_hungry feeds = (pdcp : Ends) (tx : S) (events : List Event) (size : ℕ) (held : Option ℕ)
    → is_hungry tx size held ≡ false → at pdcp tx events ≡ feeds (offers pdcp.tx) size held (at pdcp tx events)

abbrev pub AtEmpty : {S W : Type 0} → (Ends → S → List Event → W) → (List Offer → ℕ → Option ℕ → W → W) → Type 0
AtEmpty {S} at feeds = (pdcp : Ends) (tx : S) (events : List Event) (size : ℕ) (held : Option ℕ)
    → taken pdcp ≡ None → at (after_taking pdcp) tx (events ++ taking_told pdcp)
    ≡ feeds (offers pdcp.tx) size held (at pdcp tx events)

abbrev pub AtMore : {S W : Type 0} → (Ends → S → List Event → W) → (S → ℕ → Option ℕ → Bool)
    → (List Offer → ℕ → Option ℕ → W → W) → (S → List ℕ → S) → Type 0
AtMore {S} at is_hungry feeds offered = (pdcp : Ends) (tx : S) (events : List Event) (size : ℕ) (held : Option ℕ)
    (pdu : List ℕ) → is_hungry tx size held ≡ true → taken pdcp ≡ Some pdu
    → feeds (offers (after_taking pdcp).tx) size held
    (at (after_taking pdcp) (offered tx pdu) (events ++ taking_told pdcp))
    ≡ feeds (offers pdcp.tx) size held (at pdcp tx events)
