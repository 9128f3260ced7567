-- Each PDU that PDCP gives RLC at an end has an octet.
use Rattle.std.proofs.Common.{◌≡◌, ℕ, zero, suc, ◌+◌, ◌-◌, List, [], ◌∷◌, ◌++◌, map, take, length, Option, Some, None}
use Rattle.std.proofs.Common.{sym, subst}
use Rattle.std.specs.Prelude.{Bool, IfSome}
use Rattle.std.specs.List.{AllByRecursion}
use Rattle.bearer.specs.declared.flow.Flow.TheVariants.{Am}
use Rattle.bearer.specs.Acknowledged.State.{State}
use Rattle.law_bearer.proofs.AnyBearer.SenderCalls.{all_then}
use Rattle.law_bearer.specs.AnyBearer.Acknowledged.{offers_in}
use Rattle.law_bearer.specs.AnyBearer.Calls.{Take, after, ends}
use Rattle.law_bearer.specs.AnyBearer.Stream.{offers_of, pdu_of}
use Rattle.l2_types.specs.declared.side.Side.{Side}
use Rattle.law_node.specs.Calls.{Call, AreGiven, reached}
use Rattle.law_node.specs.Holding.{flow}
use Rattle.promises.specs.Names.{IsPdcp}
use Rattle.law_node.proofs.Keeping.{at_is, reached_are}
use Rattle.law_node.proofs.Offers.{IsOffered, written_is, pdu_some}
use Rattle.law_node.proofs.Ready.{WritesWell, ready_kept}
use Rattle.law_node.proofs.Texts.{WaitsHave, SentHave, Sends, take_waits}
use Rattle.l2_node.specs.Finding.{find, bearer_at}
use Rattle.pdcp_tx_store.specs.declared.given.Sent.{Sent}
use Rattle.pdcp_tx_store.specs.Waiting.{Waits}
use Rattle.pdcp_pdu.specs.declared.pdu.PdcpKind.{PdcpKind}
use Rattle.pdcp_pdu.specs.Kinds.{IsKind}
use Rattle.pdcp_tx.specs.State.{State as Sending, Offer, offers, owed_offers, again_offer, new_offers, written}
use Rattle.law_deliver.specs.AmFlow.Pair.{HasOctet}

owed_all : (kind : PdcpKind) (o : Option (List ℕ)) → IfSome o (IsPdcp kind)
    → AllByRecursion (IsOffered kind) (owed_offers o)
owed_all kind None h = tt
owed_all kind (Some report) h = (h, tt)

again_all : (kind : PdcpKind) (ss : List Sent) → SentHave ss → AllByRecursion (IsOffered kind) (map again_offer ss)
again_all kind [] h = tt
again_all kind (s ∷ ss) h = (h.0, again_all kind ss h.1)

new_all : (kind : PdcpKind) (n : ℕ) (ws : List Waits) → WaitsHave ws → AllByRecursion (IsOffered kind) (new_offers n ws)
new_all kind n [] h = tt
new_all kind n (w ∷ ws) h = (h.0, new_all kind (n + 1) ws h.1)

pub offers_all : (kind : PdcpKind) (s : Sending) → Sends kind s → AllByRecursion (IsOffered kind) (offers s)
unfolding offers
offers_all kind s h =
    let news : List Offer = new_offers s.next (take (s.bound - s.next) s.waiting) in
    all_then (IsOffered kind) (owed_offers s.owed ++ map again_offer s.again) news
    (all_then (IsOffered kind) (owed_offers s.owed) (map again_offer s.again) (owed_all kind s.owed h.owed)
    (again_all kind s.again h.again))
    (new_all kind s.next (take (s.bound - s.next) s.waiting) (take_waits (s.bound - s.next) s.waiting h.waiting))

pub take_all : (kind : PdcpKind) (n : ℕ) (os : List Offer) → AllByRecursion (IsOffered kind) os
    → AllByRecursion (IsOffered kind) (take n os)
take_all kind zero os h = tt
take_all kind (suc n) [] h = tt
take_all kind (suc n) (o ∷ os) h = (h.0, take_all kind n os h.1)

pub pdus_all : (kind : PdcpKind) (s : Sending) (os : List Offer) → IsKind kind → s.kind ≡ kind
    → AllByRecursion (IsOffered kind) os → AllByRecursion HasOctet (map (pdu_of s) os)
pdus_all kind s [] known same h = tt
pdus_all kind s (o ∷ os) known same h =
    let one : HasOctet (written kind s.protection o.count o.text).octets =
    pdu_some kind (written kind s.protection o.count o.text).octets
    (written_is kind s.protection o.count o.text known h.0) in (
      subst (λ (k : PdcpKind). HasOctet (written k s.protection o.count o.text).octets) (sym same) one,
      pdus_all kind s os known same h.1,
    )

pub some_of : (b : State) (share : ℕ) (held : Option ℕ) (l : ℕ) → WritesWell l (Am b)
    → AllByRecursion HasOctet (offers_in b share held)
some_of b share held l w =
    let n : ℕ = length (offers_of (ends (Am b))) - length (offers_of (ends (after (Am b) (Take share held)))) in
    pdus_all w.kind b.pdcp.tx (take n (offers b.pdcp.tx)) w.known w.offers'.tx.kind_is
    (take_all w.kind n (offers b.pdcp.tx) (offers_all w.kind b.pdcp.tx w.offers'.tx))

pub some_octets : (side : Side) (maximum : ℕ) (reports : Bool) (past : List Call) (l : ℕ) (b : State) (share : ℕ)
    (held : Option ℕ) → AreGiven past → flow l (reached side maximum reports past) ≡ Am b
    → AllByRecursion HasOctet (offers_in b share held)
some_octets side maximum reports past l b share held g q =
    let bs = (reached side maximum reports past).bearers in
    let at = find l bs in
    let w = at_is WritesWell bs at ready_kept (reached_are WritesWell ready_kept side maximum reports past g) in
    some_of b share held (bearer_at bs at).channel.lcid (subst (WritesWell (bearer_at bs at).channel.lcid) q w)
