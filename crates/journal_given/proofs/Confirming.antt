-- What RLC confirms, by one walk over what its flow keeps.
use Rattle.std.proofs.Common.{◌≡◌, ℕ, Bool, List, [], ◌∷◌, ◌++◌, Some, None, refl, ap, sym, ◌∙◌, if◌then◌else◌}
use Rattle.std.proofs.lemmas.List.{append-nil, append_assoc}
use Rattle.journal_account.specs.FlowConfirmed.{ConfirmedSdus, is_among, confirmed_sdus}
use Rattle.journal_account.proofs.Walks.{confirmed_so}
use Rattle.journal_lives.specs.FlowLives.{FlowLives}
use Rattle.journal_takes.specs.FlowTakes.{FlowTakes}
use Rattle.journal_given.specs.declared.supply.GivenPdu.{GivenPdu}
use Rattle.journal_given.specs.Supplies.{Supply, accounts, told, confirmation, confirms_one, confirms_all, confirms}
use Rattle.journal_given.specs.Supplies.{is_confirmed_by}

same_all : (p q : ℕ → Bool) → ((k : ℕ) → p k ≡ q k) → (pdus : List GivenPdu) (s : Supply FlowTakes)
    → confirms_all accounts p pdus s ≡ confirms_all accounts q pdus s
same_all p q same [] s = refl
same_all p q same (pdu ∷ pdus) s =
    ap (λ (b : Bool). confirms_all accounts p pdus (if b then told accounts (confirmation pdu.count) s
    else record s { unconfirmed = s.unconfirmed ++ pdu ∷ [] })) (same pdu.number)
    ∙ same_all p q same pdus (confirms_one accounts q pdu s)

pub by_walk : (l : FlowLives) (c : ConfirmedSdus) (s t after : Supply FlowTakes) (pdus : List GivenPdu)
    → c ≡ confirmed_sdus l.account → pdus ≡ s.unconfirmed → t ≡ record s { unconfirmed = [] }
    → after ≡ confirms_all accounts (λ (k : ℕ). is_among k c) pdus t
    → after ≡ confirms accounts (is_confirmed_by (Some l)) s
by_walk l c s t after pdus walk given rest is =
    is
    ∙ same_all (λ (k : ℕ). is_among k c) (is_confirmed_by (Some l))
    (λ k. ap (is_among k) walk ∙ confirmed_so l.account k) pdus t
    ∙ ap (λ (xs : List GivenPdu). confirms_all accounts (is_confirmed_by (Some l)) xs t) given
    ∙ ap (λ (x : Supply FlowTakes). confirms_all accounts (is_confirmed_by (Some l)) s.unconfirmed x) rest

none_confirmed : (pdus : List GivenPdu) (s : Supply FlowTakes)
    → confirms_all accounts (is_confirmed_by None) pdus s ≡ record s { unconfirmed = s.unconfirmed ++ pdus }
none_confirmed [] s =
    ap (λ (xs : List GivenPdu). record s { unconfirmed = xs }) (sym (append-nil s.unconfirmed))
none_confirmed (pdu ∷ pdus) s =
    none_confirmed pdus (record s { unconfirmed = s.unconfirmed ++ pdu ∷ [] })
    ∙ ap (λ (xs : List GivenPdu). record s { unconfirmed = xs }) (append_assoc s.unconfirmed (pdu ∷ []) pdus)

-- without a flow nothing is
pub by_none : (s : Supply FlowTakes) → confirms accounts (is_confirmed_by None) s ≡ s
by_none s = none_confirmed s.unconfirmed (record s { unconfirmed = [] })
