-- The calls of RLC's sender in deeds.
use Rattle.std.proofs.Common.{◌≡◌, ◌≤◌, ℕ, zero, suc, Bool, true, false, List, [], ◌∷◌, ◌++◌, map, length, take, drop}
use Rattle.std.proofs.Common.{Option, Some, None, append_assoc, refl, ap, sym, ◌∙◌, arith}
use Rattle.pdcp_tx.specs.declared.sender.Next.{Next}
use Rattle.pdcp_tx.specs.State.{State as Sending, Offer as PdcpOffer, offers, taking, took}
use Rattle.rlc_am_tx.specs.Machine.{State as Sender}
use Rattle.law_rlc.specs.AmReceiver.Run.{Write}
use Rattle.law_rlc.specs.AmSender.Run.{Call as SenderCall, Offer, Take as Taking}
use Rattle.bearer.specs.Acknowledged.State.{State}
use Rattle.bearer.specs.Acknowledged.Taking.{status_left, writes_status, data_size}
use Rattle.law_bearer.specs.AnyBearer.Acknowledged.{sender_calls, offers_in, has_more_behind}
use Rattle.law_bearer.specs.AnyBearer.Calls.{Take}
use Rattle.law_bearer.specs.AnyBearer.Sending.{sends_on}
use Rattle.law_bearer.specs.AnyBearer.Stream.{pdu_of}
use Rattle.law_bearer.proofs.AnyBearer.Sender.{left_of, took_same, same_pdus}
use Rattle.law_bearer.proofs.AnyBearer.SenderCalls.{sends_then}
use Rattle.law_bearer.specs.AmBearer.Deeds.{Deed, Feeds, Sends, Confirms, Receives, HandsUp, Asks, Sets, does, does_all}
use Rattle.law_bearer.specs.AmBearer.Deeds.{offered_next, confirms_first, hands_first}
use Rattle.law_bearer.specs.AmBearer.Calls.{only_if, deeds_of}
use Rattle.law_bearer.specs.AmBearer.Sending.{offers_next, hand_over_calls, sends_at, sends_in}
use Rattle.law_bearer.proofs.AmBearer.Taking.{so_many, takes_so, writes_one}

-- ---- any deeds

offers_as : (o : Option Next) (s : Sender) → offered_next o s ≡ sends_on (offers_next o) s
offers_as None s = refl
offers_as (Some pdu) s = refl

confirms_as : (places : List ℕ) (b : State) → (confirms_first places b).tx ≡ sends_on (hand_over_calls places) b.tx
confirms_as [] b = refl
confirms_as (place ∷ places) b = refl

hands_as : (sdus : List (List ℕ)) (b : State) → (hands_first sdus b).tx ≡ b.tx
hands_as [] b = refl
hands_as (sdu ∷ sdus) b = refl

one_as : (b : State) (deed : Deed) → (does b deed).tx ≡ sends_on (sends_at b deed) b.tx
one_as b Feeds = offers_as (taking b.pdcp.tx) b.tx
one_as b (Sends c) = refl
one_as b Confirms = confirms_as b.tx.accounts.news b
one_as b (Receives c) = refl
one_as b HandsUp = hands_as b.rx.out.ready b
one_as b (Asks c) = refl
one_as b (Sets ttis) = refl

pub deeds_are_its_calls : (b : State) (deeds : List Deed) → (does_all deeds b).tx ≡ sends_on (sends_in deeds b) b.tx
deeds_are_its_calls b [] = refl
deeds_are_its_calls b (deed ∷ deeds) =
    deeds_are_its_calls (does b deed) deeds
    ∙ ap (sends_on (sends_in deeds (does b deed))) (one_as b deed)
    ∙ sym (sends_then b.tx (sends_at b deed) (sends_in deeds (does b deed)))

pub in_then : (xs ys : List Deed) (b : State) → sends_in (xs ++ ys) b ≡ sends_in xs b ++ sends_in ys (does_all xs b)
in_then [] ys b = refl
in_then (x ∷ xs) ys b = ap (λ l. sends_at b x ++ l) (in_then xs ys (does b x))
    ∙ sym (append_assoc (sends_at b x) (sends_in xs (does b x)) (sends_in ys (does_all xs (does b x))))

-- ---- a take

first_offered : (s : Sending) (o : PdcpOffer) (os : List PdcpOffer) → offers s ≡ o ∷ os
    → offers_next (taking s) ≡ Offer (pdu_of s o) ∷ []
unfolding taking
first_offered s o os q = rw q refl

each_offered : (n : ℕ) (b : State) (os : List PdcpOffer) → offers b.pdcp.tx ≡ os → n ≤ length os
    → sends_in (so_many n) b ≡ map (λ pdu. Offer pdu) (map (pdu_of b.pdcp.tx) (take n os))
each_offered zero b os q h = refl
each_offered (suc n) b [] q h = absurd (omega (arith, h))
each_offered (suc n) b (o ∷ os) q h =
    let s = b.pdcp.tx in
    let next : offers (took s) ≡ os = left_of 1 s ∙ ap (drop 1) q in
    ap (λ l. l ++ sends_in (so_many n) (does b Feeds)) (first_offered s o os q)
    ∙ ap (λ l. Offer (pdu_of s o) ∷ l)
    (each_offered n (does b Feeds) os next (omega (arith, h))
    ∙ ap (λ l. map (λ pdu. Offer pdu) l) (same_pdus s (took s) (take n os) (took_same s)))

written_none : (due : Bool) (b : State) → sends_in (only_if due (Receives Write)) b ≡ []
written_none true b = refl
written_none false b = refl

pub takes_are_its_calls : (b : State) (share : ℕ) (held : Option ℕ)
    → sends_in (deeds_of b (Take share held)) b ≡ sender_calls b (Take share held)
takes_are_its_calls b share held =
    let so = takes_so b share held in
    let at : State = record b { rx = status_left b.rx share } in
    let status : List Deed = only_if (writes_status b.rx share) (Receives Write) in
    let fill : List Deed = map (λ pdu. Feeds) (offers_in b share held) in
    let last : SenderCall = Taking (data_size b share) held (has_more_behind b share held) in
    in_then (status ++ fill) (Sends last ∷ []) b
    ∙ ap (λ l. l ++ last ∷ [])
    (in_then status fill b
    ∙ ap (λ l. l ++ sends_in fill (does_all status b)) (written_none (writes_status b.rx share) b)
    ∙ ap (sends_in fill) (writes_one (writes_status b.rx share) b (status_left b.rx share) refl)
    ∙ ap (λ (deeds : List Deed). sends_in deeds at) so.feeds_is
    ∙ each_offered so.n at (offers b.pdcp.tx) refl so.few
    ∙ ap (λ (os : List PdcpOffer). map (λ pdu. Offer pdu) (map (pdu_of b.pdcp.tx) os)) (sym so.taken_is))
