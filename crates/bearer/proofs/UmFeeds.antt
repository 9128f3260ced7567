-- One SDU after the other is fed to RLC of unacknowledged mode.
use Rattle.std.proofs.Common.{◌≡◌, ℕ, true, false, List, ◌++◌, Option, Some, None, refl}
use Rattle.bearer_types.specs.declared.Event.{Event}
use Rattle.rlc_um.specs.Sender.{Sender, offered, is_hungry}
use Rattle.pdcp_tx.specs.State.{offers}
use Rattle.bearer_pdcp.specs.Ends.{Ends}
use Rattle.bearer_pdcp.specs.Taking.{taken, taking_told, after_taking}
use Rattle.bearer_pdcp.proofs.Offered.{fewer_offers}
use Rattle.bearer.specs.Unacknowledged.Taking.{Feeding, fed, given_to, feeds}
use Rattle.bearer.proofs.Feeds.{is_full, is_empty, has_more, AtFull, AtEmpty, AtMore}

abbrev at : Ends → Sender → List Event → Feeding
at pdcp tx events = record { pdcp = pdcp; tx = tx; events = events }

pub full : AtFull at is_hungry feeds
unfolding after_taking
full pdcp tx events size held h =
    is_full at (λ f. is_hungry f.tx size held) fed (λ os f. feeds os size held f) given_to (λ f. refl)
    (λ o os f. refl) (λ p t es. refl) pdcp tx events h

pub empty : AtEmpty at feeds
unfolding after_taking
empty pdcp tx events size held h =
    is_empty at (λ f. is_hungry f.tx size held) fed (λ os f. feeds os size held f) given_to (λ f. refl)
    (λ o os f. refl) (λ p t es. refl) pdcp tx events h

pub more : AtMore at is_hungry feeds (λ tx pdu. offered pdu tx)
unfolding after_taking
more pdcp tx events size held pdu h t =
    has_more at (λ f. is_hungry f.tx size held) fed (λ os f. feeds os size held f) given_to (λ f. refl)
    (λ o os f. refl) (λ p t es. refl) pdcp tx events pdu h t

pub ruleset steps = (full, empty, more, fewer_offers)
