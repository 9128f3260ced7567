-- RLC's sender of an acknowledged bearer, by calls of its own (TS 36.322 5.1.3.1, 5.2).
use Rattle.std.specs.Prelude.{◌≡◌, ℕ, List, [], ◌∷◌}
use Rattle.rlc_am_tx.specs.Machine.{State as Sender, start}
use Rattle.law_rlc.specs.AmSender.Run.{Call as SenderCall, Offer, Take, Status, Tick, Expire}
use Rattle.law_rlc.specs.AmSender.Run.{Settle, Confirm, after as sender_after}
use Rattle.eps_sec.specs.declared.Keys.{Keys}
use Rattle.bearer.specs.Acknowledged.State.{State}
use Rattle.bearer.specs.declared.flow.Flow.TheVariants.{Am}
use Rattle.law_bearer.specs.AnyBearer.Calls.{Call, after_all, Restart, goes}
use Rattle.law_bearer.specs.AnyBearer.Stream.{stream}

abbrev pub sends_on : List SenderCall → Sender → Sender
sends_on [] s = s
sends_on (c ∷ cs) s = sends_on cs (sender_after s c)

-- the SDUs that they offer, in order
abbrev pub offered_by : List SenderCall → List (List ℕ)
offered_by [] = []
offered_by (Offer sdu ∷ cs) = sdu ∷ offered_by cs
offered_by (Take size held more ∷ cs) = offered_by cs
offered_by (Status status ∷ cs) = offered_by cs
offered_by (Tick ∷ cs) = offered_by cs
offered_by (Expire more ∷ cs) = offered_by cs
offered_by (Settle more ∷ cs) = offered_by cs
offered_by (Confirm ∷ cs) = offered_by cs

-- a sender comes to another state by calls of its own that offer these SDUs
pub record ComesBy (s t : Sender) (sdus : List (List ℕ)) : Type 0 where
  pub calls : List SenderCall
  pub offers : offered_by calls ≡ sdus
  pub left : t ≡ sends_on calls s

-- whatever calls of a life come, they make of RLC's sender what calls of its own make of it, and
-- those offer it the stream
abbrev pub OffersTheStream : Type 0
OffersTheStream = (b d : State) (calls : List Call) → after_all (Am b) calls ≡ Am d
    → ComesBy b.tx d.tx (stream (Am b) calls)

-- and each life begins with a sender that begins
abbrev pub BeginsAnew : Type 0
BeginsAnew = (b d : State) (keys : Keys) → goes (Am b) (Restart keys) ≡ Am d
    → d.tx ≡ start b.tx_config
